use Rattle.explain_program.proofs.RunLemmas.{lines_more}
use Rattle.explain_program.proofs.told.push_faults.Goals as goal

pub loop-placed-preserved : goal.loop-placed-preserved
loop-placed-preserved c =
    lines_more c.args.faults.now c.loop-placed.placed-index _ c.args.text.now.items c.loop-placed.text.items c.push_fault.new.text.items
    c.loop-placed-test.true c.loop-placed.invariant c.in_ok-push_fault.ensures
