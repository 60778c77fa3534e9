use Rattle.std.proofs.Common.{◌<◌, ◌+◌, length, arith}
use Rattle.cds_base.proofs.Scans.{front_goes_on_by}
use Rattle.cds_base.proofs.scan.goes_on.Goals as goal

pub loop-i-preserved : goal.loop-i-preserved
loop-i-preserved c =
    let within : c.args.len + c.loop-i.i < length c.args.octets.now = omega arith in
    let more = front_goes_on_by c.args.octets.now (c.args.len + c.loop-i.i) c.loop-i.all c.may_stand-all.result c.may_stand-all.ensures c.loop-i.invariant within in
    (λ all. omega (arith, more.0 all), λ front. more.1 (omega arith))
