use Rattle.std.proofs.Common.{◌≤◌, ◌∙◌, length, take, arith}
use Rattle.cell_replay.proofs.TowerTurns.{first_tower, taken_short, tower_told, tower_without_memory, towers_end, tower_at_fault, text_unwritten}
use Rattle.cell_replay.proofs.TowerTurns.{window_filled, full_window, fill_fails}
use Rattle.cell_replay.proofs.towers.print_each.Goals as goal

pub towers-init : goal.towers-init
towers-init g c = first_tower _ _ _ _ _ _ c.requires.empty c.requires.room c.new-waiting.ensures

pub add_tower-requires : goal.add_tower-requires
add_tower-requires g c = taken_short c.towers.number c.in-Tower.tower (take c.in-Tower.len c.octets.result.now) c.in-Tower.ensures.seen.1

pub returns-in_default : goal.returns-in_default
returns-in_default g c =
    let bytes = rw c.octets.ensures at c.in-Tower.ensures.bytes in
    tower_without_memory _ _ _ _ _ _ _ _ _ _ _ _ c.towers.invariant bytes _ _ _ _ c.in_default.ensures.err c.finish.ensures

pub towers-preserved-in-Tower : goal.towers-preserved-in-Tower
towers-preserved-in-Tower g c =
    let seen = rw c.octets.ensures at c.in-Tower.ensures.seen in
    tower_told _ _ _ _ _ _ _ _ _ _ _ _ c.towers.invariant c.in-Tower.tower c.in-Tower.len _ _ seen.0 seen.1 c.consume.ensures c.in-Ok.ensures.ok

pub returns-in_default-write_out : goal.returns-in_default-write_out
returns-in_default-write_out g c =
    let bytes = rw c.octets.ensures at c.in-More.ensures.bytes in
    let failed = c.in_default-write_out.ensures in
    text_unwritten _ _ _ _ _ _ _ _ _ _ _ _ c.towers.invariant bytes _ c.in_default-write_out.field-0.0 _ failed.err failed.cause.failed

pub towers-preserved : goal.towers-preserved
towers-preserved g c =
    let seen = rw c.octets.ensures at c.in-More.ensures.seen in
    let went = c.in-Ok-write_out.ensures in
    let filled = c.in-Ok-refill.ensures in
    let few : length c.refill.new.window.octets ≤ 1025 = omega (arith, filled.within, filled.room, c.towers.invariant.room) in
    window_filled _ _ _ _ _ _ _ _ _ _ _ _ c.towers.invariant _ _ _ seen.0 seen.2 went.ok filled.reads few _ _ _ c.in-Ok-refill.end went.empty
    filled.room filled.end
    (full_window c.in-Ok-refill.end _ _ filled.short (filled.room ∙ c.towers.invariant.room) few) filled.cause.answered went.cause.answered

pub returns-in-Err : goal.returns-in-Err
returns-in-Err g c =
    let seen = rw c.octets.ensures at c.in-More.ensures.seen in
    let went = c.in-Ok-write_out.ensures in
    let failed = c.in-Err.ensures in
    fill_fails _ _ _ _ _ _ _ _ _ _ _ _ c.towers.invariant _ _ c.refill.new.window seen.0 seen.2 went.ok failed.reads
    (omega (arith, failed.within, failed.room, c.towers.invariant.room))
    failed.bytes (omega (arith, failed.err, failed.room, c.towers.invariant.room)) _ _ failed.cause.failed went.cause.answered

pub returns-in-Fault : goal.returns-in-Fault
returns-in-Fault g c =
    let seen = rw c.octets.ensures at c.in-Fault.ensures.seen in
    tower_at_fault _ _ _ _ _ _ _ _ _ _ _ _ c.towers.invariant c.in-Fault.fault seen _ _ _ c.stop_at.ensures

pub returns-in-End : goal.returns-in-End
returns-in-End g c =
    let seen = rw c.octets.ensures at c.in-End.ensures.seen in
    towers_end _ _ _ _ _ _ _ _ _ _ _ _ c.towers.invariant seen.0 seen.1 _ _ _ c.finish-in-End.ensures
