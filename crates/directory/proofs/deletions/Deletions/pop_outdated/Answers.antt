use Rattle.std.proofs.Common.{refl, ap, sym, ◌∙◌}
use Rattle.directory.specs.Deletions.{has_deletion}
use Rattle.directory.proofs.DeletionSets.{first_alone, others_stay, fewer}
use Rattle.directory.proofs.deletions.Deletions.pop_outdated.Goals as goal

pub returns-in-Some-clause-all : goal.returns-in-Some-clause-all
returns-in-Some-clause-all c = λ all e has. others_stay (has_deletion c.args.entries.now) c.args.self.now.known c.pop_first.new.self c.in-Some.first.now
    c.pop_first.result c.in-Some.ensures.first (sym c.has.ensures ∙ c.if-not-has.true) c.pop_first.ensures.removal c.pop_first.ensures.updates
    c.pop_first.ensures.unchanged e has (all e has)

pub returns-in_default-clause-first : goal.returns-in_default-clause-first
returns-in_default-clause-first c = (
  refl,
  λ d has none_before.
      ap (has_deletion c.args.entries.now)
      (first_alone c.args.self.now.known c.in-Some.first.now c.in-Some.ensures.member c.in-Some.ensures.least d has none_before)
      ∙ sym c.has.ensures ∙ c.if-not-has.false,
)

pub returns-in-Some-clause-fewer : goal.returns-in-Some-clause-fewer
returns-in-Some-clause-fewer c = fewer c.args.self.now.known c.pop_first.new.self c.pop_first.result c.pop_first.ensures.updates c.pop_first.ensures.unchanged
