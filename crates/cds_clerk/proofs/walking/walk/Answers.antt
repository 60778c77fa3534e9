use Rattle.std.proofs.Common.{sym, ap, ◌∙◌}
use Rattle.std.specs.Prelude.{None}
use Rattle.resolver.proofs.PassLaws.{empty_walk, rootless_walk}
use Rattle.cds_clerk.specs.Heards.{heard_root}
use Rattle.cds_clerk.proofs.walking.walk.Goals as goal

pub returns-then-len-eq0-clause-done : goal.returns-then-len-eq0-clause-done
returns-then-len-eq0-clause-done c = λ r agrees. empty_walk c.args.name.now (sym c.len.ensures ∙ c.if-len-eq0.true)

pub returns-in-Nowhere-clause-done : goal.returns-in-Nowhere-clause-done
returns-in-Nowhere-clause-done c = λ r agrees.
    rootless_walk c.args.name.now (λ empty. c.if-len-eq0.false (c.len.ensures ∙ empty)) (agrees.root None (ap heard_root c.in-Nowhere.is))
