use Rattle.std.proofs.Common.{◌≡◌, ◌≤◌, ◌∷◌, [], Bool, List, true, false, sym, ◌∙◌, subst, arith}
use Rattle.cell_model.specs.Steps.{outcome}
use Rattle.cds_cell.specs.Scripted.{step_of}
use Rattle.cds_cell.specs.ModelCells.{Stands}
use Rattle.script_replay.specs.declared.replayer.Replayer.{Replayer}
use Rattle.journal_replay.specs.CellDisks.{disk_count}
use Rattle.journal_replay.specs.CellJournals.{Put, lacks_room}
use Rattle.journal_replay.proofs.StopDone.{acts_alone, given_up, never_lacks, other, out_of_memory, puts, stopped_after, stopped_before}
use Rattle.journal_replay.proofs.FullTold.{full_up, tells_memory, tells_up}
use Rattle.journal_replay.proofs.keeper.Keeper.stop_put.Goals as goal

-- ---- the put was given up

pub returns-in_err-after-clause-reply : goal.returns-in_err-after-clause-reply
returns-in_err-after-clause-reply c s command done some =
    let few : c.args.house.0 ≤ disk_count = omega arith in
    let k = c.put_stopped.new.self in
    let new = other c.args.self.now k s c.args.house c.args.call c.args.leave command c.args.mark c.requires.house few done c.args.image.items some in
    given_up c.args.self.now k s c.args.house c.args.call c.args.leave command c.args.mark c.requires.house few done c.args.image.items some
    c.from_residual.result c.in_err-after.field-0.0 c.from_residual.ensures.1 (c.in_err-after.ensures.puts s.lists done.disks new.0 new.1)

pub returns-in_err-after-clause-full : goal.returns-in_err-after-clause-full
returns-in_err-after-clause-full c =
    tells_up Bool c.from_residual.result c.in_err-after.field-0.0 _ _ c.from_residual.ensures.1 c.in_err-after.ensures.full

pub returns-in_err-after-clause-lacking : goal.returns-in_err-after-clause-lacking
returns-in_err-after-clause-lacking c s command done some none =
    let few : c.args.house.0 ≤ disk_count = omega arith in
    let k = c.put_stopped.new.self in
    let new = other c.args.self.now k s c.args.house c.args.call c.args.leave command c.args.mark c.requires.house few done c.args.image.items some in
    let one = puts c.args.self.now k s c.args.house c.args.call c.args.leave command c.args.mark c.requires.house few done c.args.image.items some in
    full_up _ c.from_residual.result c.in_err-after.field-0.0 c.from_residual.ensures.1
    (c.in_err-after.ensures.lacking s.lists done.disks new.0 new.1 (subst (λ (ps : List Put). lacks_room s.lists ps ≡ true) one none))

-- ---- memory ran out after it

pub returns-in_err-crash_after-clause-reply : goal.returns-in_err-crash_after-clause-reply
returns-in_err-crash_after-clause-reply c s command done some =
    let few : c.args.house.0 ≤ disk_count = omega arith in
    let old = c.args.self.now in
    let k = c.put_stopped.new.self in
    let new = other old k s c.args.house c.args.call c.args.leave command c.args.mark c.requires.house few done c.args.image.items some in
    out_of_memory old _ s c.args.house c.args.call c.args.leave command c.args.mark c.requires.house few done c.args.image.items some
    c.from_residual-in_err-crash_after.result c.from_residual-in_err-crash_after.ensures.1 (c.in_ok-after.ensures.puts s.lists done.disks new.0 new.1).1

pub returns-in_err-crash_after-clause-full : goal.returns-in_err-crash_after-clause-full
returns-in_err-crash_after-clause-full c =
    tells_memory c.from_residual-in_err-crash_after.result _ _ c.from_residual-in_err-crash_after.ensures.1 c.in_ok-after.ensures.full

pub returns-in_err-crash_after-clause-lacking : goal.returns-in_err-crash_after-clause-lacking
returns-in_err-crash_after-clause-lacking c s command done some none =
    let few : c.args.house.0 ≤ disk_count = omega arith in
    let old = c.args.self.now in
    let k = c.put_stopped.new.self in
    let new = other old k s c.args.house c.args.call c.args.leave command c.args.mark c.requires.house few done c.args.image.items some in
    absurd (never_lacks old k s c.args.house c.args.call c.args.leave command c.args.mark c.requires.house few done c.args.image.items some
    (c.in_ok-after.ensures.puts s.lists done.disks new.0 new.1).2 none)

-- ---- it was stopped

pub returns-in_ok-crash_after-clause-reply : goal.returns-in_ok-crash_after-clause-reply
returns-in_ok-crash_after-clause-reply c s command done some =
    let few : c.args.house.0 ≤ disk_count = omega arith in
    let old = c.args.self.now in
    let k = c.put_stopped.new.self in
    let new = other old k s c.args.house c.args.call c.args.leave command c.args.mark c.requires.house few done c.args.image.items some in
    let puts = c.in_ok-after.ensures.puts s.lists done.disks new.0 new.1 in
    let next = (outcome s.cell (step_of command)).cell in
    let here = subst (λ (r : Replayer). Stands r.cell next) (sym c.put_stopped.ensures.same) done.now in
    stopped_after old _ s c.args.house c.args.call c.args.leave command c.args.mark c.requires.house few done c.args.image.items some
    c.images_stay.ensures (sym puts.0 ∙ c.if-after.true) puts.1 puts.2 c.posted-posted.result c.posted-posted.ensures (c.in_ok-crash_after.ensures.crash next here)

pub returns-in_ok-crash_after-clause-lacking : goal.returns-in_ok-crash_after-clause-lacking
returns-in_ok-crash_after-clause-lacking c s command done some none =
    let few : c.args.house.0 ≤ disk_count = omega arith in
    let old = c.args.self.now in
    let k = c.put_stopped.new.self in
    let new = other old k s c.args.house c.args.call c.args.leave command c.args.mark c.requires.house few done c.args.image.items some in
    absurd (never_lacks old k s c.args.house c.args.call c.args.leave command c.args.mark c.requires.house few done c.args.image.items some
    (c.in_ok-after.ensures.puts s.lists done.disks new.0 new.1).2 none)

pub returns-else-after-clause-reply : goal.returns-else-after-clause-reply
returns-else-after-clause-reply c s command done some =
    let few : c.args.house.0 ≤ disk_count = omega arith in
    let old = c.args.self.now in
    let k = c.put_stopped.new.self in
    let new = other old k s c.args.house c.args.call c.args.leave command c.args.mark c.requires.house few done c.args.image.items some in
    let puts = c.in_ok-after.ensures.puts s.lists done.disks new.0 new.1 in
    let next = (outcome s.cell (step_of command)).cell in
    let here = subst (λ (r : Replayer). Stands r.cell next) (sym c.put_stopped.ensures.same) done.now in
    let acts = acts_alone old k s c.args.house c.args.call c.args.leave command c.args.mark c.requires.house few done in
    stopped_before old _ s c.args.house c.args.call c.args.leave command c.args.mark c.requires.house few done c.args.image.items some
    c.images_stay.ensures (sym puts.0 ∙ c.if-after.false) puts.1 puts.2
    (c.take_back.ensures.back done.before s.cell (step_of command) done.stood done.marks acts here)

pub returns-else-after-clause-lacking : goal.returns-else-after-clause-lacking
returns-else-after-clause-lacking c s command done some none =
    let few : c.args.house.0 ≤ disk_count = omega arith in
    let old = c.args.self.now in
    let k = c.put_stopped.new.self in
    let new = other old k s c.args.house c.args.call c.args.leave command c.args.mark c.requires.house few done c.args.image.items some in
    absurd (never_lacks old k s c.args.house c.args.call c.args.leave command c.args.mark c.requires.house few done c.args.image.items some
    (c.in_ok-after.ensures.puts s.lists done.disks new.0 new.1).2 none)

-- ---- the calls of the disk

pub returns-in_ok-crash_after-clause-calls : goal.returns-in_ok-crash_after-clause-calls
returns-in_ok-crash_after-clause-calls c s command done some =
    let few : c.args.house.0 ≤ disk_count = omega arith in
    let k = c.put_stopped.new.self in
    let new = other c.args.self.now k s c.args.house c.args.call c.args.leave command c.args.mark c.requires.house few done c.args.image.items some in
    c.in_ok-after.ensures.calls s.lists done.disks new.1

pub returns-else-after-clause-calls : goal.returns-else-after-clause-calls
returns-else-after-clause-calls c s command done some =
    let few : c.args.house.0 ≤ disk_count = omega arith in
    let k = c.put_stopped.new.self in
    let new = other c.args.self.now k s c.args.house c.args.call c.args.leave command c.args.mark c.requires.house few done c.args.image.items some in
    c.in_ok-after.ensures.calls s.lists done.disks new.1
