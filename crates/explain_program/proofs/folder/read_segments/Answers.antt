use Rattle.std.proofs.Common.{◌+◌, ◌<◌, ◌≤◌, ◌^◌, suc, drop, length, take, arith}
use Rattle.std.proofs.lemmas.List.{length-take-le}
use Rattle.std.proofs.lemmas.Grind.{common_steps}
use Rattle.explain_program.proofs.FolderLemmas.{read_next_one, read_up_to}
use Rattle.explain_program.proofs.RunLemmas.{fault_passed}
use Rattle.explain_program.proofs.folder.read_segments.Goals as goal

pub loop-octets-preserved : goal.loop-octets-preserved
loop-octets-preserved c =
    read_next_one c.args.segments.now c.loop-octets.octets-index c.octets-item.result _ c.loop-octets-test.true c.octets-item.is
    (c.in_ok-read_next.ensures.read _ c.loop-octets.invariant)

pub returns-in_err-read_next-clause-stopped : goal.returns-in_err-read_next-clause-stopped
returns-in_err-read_next-clause-stopped c =
    let xs = c.args.segments.now in
    let i = c.loop-octets.octets-index in
    let low : i ≤ length xs = omega arith in
    let same = length-take-le i xs low in
    let few : length (take i xs) + 1 < 2 ^ 64 = first_of (omega (arith, same), grind (arith, same, common_steps)) in
    fault_passed c.from_residual.result _ c.from_residual.ensures
    (λ f read. read_up_to xs i c.octets-item.result f _ c.loop-octets-test.true c.octets-item.is read)
    (c.in_err-read_next.ensures.stopped (take i xs) (drop (suc i) xs) c.loop-octets.invariant few)
