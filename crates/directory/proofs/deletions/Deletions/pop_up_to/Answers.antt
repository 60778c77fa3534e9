use Rattle.std.proofs.Common.{◌≡◌, false, rules}
use Rattle.std.proofs.lemmas.Option.{IfSome_then}
use Rattle.cds_stamps.specs.Stamps.{is_up_to}
use Rattle.directory.proofs.DeletionSets.{updated, least, stamped_later, has_none}
use Rattle.directory.proofs.deletions.Deletions.pop_up_to.Goals as goal
use Rattle.directory.proofs.deletions.Deletions.pop_up_to.Goals.{in_default-via-in-Some+else-not-lt, in_default-via-in_default}

pub returns-in-Some-clause-rest : goal.returns-in-Some-clause-rest
returns-in-Some-clause-rest c =
    IfSome_then c.pop_first.result c.pop_first.ensures.updates (λ d updates. updated c.args.self.now.known c.pop_first.new.self d false updates)

pub returns-in_default-clause-none : goal.returns-in_default-clause-none
returns-in_default-clause-none c = elim c.in_default.branch [
  | in_default-via-in-Some+else-not-lt w ↦
      let later : is_up_to c.args.t w.in-Some.first.now.stamp ≡ false = search rules in
      (w.self-is, λ d has. stamped_later c.args.t w.in-Some.first.now d later (least c.args.self.now.known w.in-Some.first.now w.in-Some.ensures.least d has))
  | in_default-via-in_default w ↦
      (w.self-is, λ d has. absurd (let none = has_none c.args.self.now.known.keys w.in_default.ensures.variant.1 d in cc))
]
