use Rattle.std.proofs.Common.{◌==◌, ℕ}
use Rattle.house_turns.proofs.Cuts.{found_after, found_before, found_none_after, found_none_before}
use Rattle.house_turns.proofs.again.cut_at.Goals as goal

pub returns-in-Some-clause-before : goal.returns-in-Some-clause-before
returns-in-Some-clause-before c =
    found_before (λ (b : ℕ). b == c.args.separator) c.args.octets.now c.in-Some.at c.in-Some.ensures

pub returns-in-Some-clause-after : goal.returns-in-Some-clause-after
returns-in-Some-clause-after c =
    found_after (λ (b : ℕ). b == c.args.separator) c.args.octets.now c.in-Some.at c.in-Some.ensures

pub returns-in-None-clause-before : goal.returns-in-None-clause-before
returns-in-None-clause-before c = found_none_before (λ (b : ℕ). b == c.args.separator) c.args.octets.now c.in-None.ensures

pub returns-in-None-clause-after : goal.returns-in-None-clause-after
returns-in-None-clause-after c = found_none_after (λ (b : ℕ). b == c.args.separator) c.args.octets.now c.in-None.ensures
