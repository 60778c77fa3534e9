use Rattle.std.proofs.Common.{◌-◌, reverse, take, arith, subst, sym}
use Rattle.house_journal.specs.Unwindings.{AreFrom}
use Rattle.house_journal.proofs.Restarting.{take_last}
use Rattle.house_journal.proofs.Tails.{from_synced, from_step}
use Rattle.house_journal.proofs.restart.first_changed.Goals as goal

pub returns-then-step-clause-least : goal.returns-then-step-clause-least
returns-then-step-clause-least c =
    let s = c.index-steps-left.result in
    let steps = c.args.steps.now in
    c.back.invariant.least c.back.low (omega arith)
    (subst (AreFrom c.back.low) (sym (take_last steps c.back.left s c.back-test.true c.back.invariant.within c.index-steps-left.is))
    (from_synced c.back.low s (reverse (take (c.back.left - 1) steps)) c.if-step.true))

pub back-preserved : goal.back-preserved
back-preserved c =
    let s = c.index-steps-left.result in
    let steps = c.args.steps.now in
    let least = c.min-low.ensures in
    record {
      within = omega (arith, c.back.invariant.within);
      few = omega (arith, c.back.invariant.few, least);
      least = λ n le rest. c.back.invariant.least n (omega (arith, le, least))
          (subst (AreFrom n) (sym (take_last steps c.back.left s c.back-test.true c.back.invariant.within c.index-steps-left.is))
          (from_step n s (reverse (take (c.back.left - 1) steps)) (omega (arith, le, least)) rest));
    }
