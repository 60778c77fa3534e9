use Rattle.std.proofs.Common.{◌<◌, inl, length, arith}
use Rattle.std.proofs.lemmas.Bool.Decides.{nat_tests}
use Rattle.cell_replay.proofs.Streams.{fault_sees, long_sees}
use Rattle.cell_replay.proofs.towers.look.Goals as goal

pub returns-then-len-gt-LONGEST_TOWER-clause-seen : goal.returns-then-len-gt-LONGEST_TOWER-clause-seen
returns-then-len-gt-LONGEST_TOWER-clause-seen c =
    inl (long_sees c.args.number c.args.octets.now c.in-Ok.tower c.in-Ok.len (omega (arith, c.if-number-gt-MOST_TOWERS.false)) c.requires
    c.in-Ok.ensures.length c.if-len-gt-LONGEST_TOWER.true c.in-Ok.ensures.tower)

pub returns-in-Err-clause-seen : goal.returns-in-Err-clause-seen
returns-in-Err-clause-seen c =
    let some : 0 < length c.args.octets.now = grind (arith, nat_tests) in
    rw c.see_fault.ensures (fault_sees c.args.number c.args.octets.now c.in-Err.fault c.args.ended
    (omega (arith, c.if-number-gt-MOST_TOWERS.false)) some c.requires c.in-Err.ensures.fault)
