use Rattle.std.proofs.Common.{ap, ◌∙◌, rules, arith}
use Rattle.std.specs.List.{list_any}
use Rattle.std.specs.BTreeMap.{is_at}
use Rattle.std.proofs.lemmas.Fn.{filter_same}
use Rattle.directory.specs.Deletions.{deletion_cmp, has_deletion}
use Rattle.directory.proofs.DeletionCounts.{swept-few}
use Rattle.directory.proofs.DeletionSets.{kept_of}
use Rattle.directory.proofs.deletions.Deletions.sweep.Goals as goal

pub returns-clause-left : goal.returns-clause-left
returns-clause-left c = λ d.
    let kept =
    filter_same _ (has_deletion c.args.entries.now) _
    (λ x b f t. search rules) c.args.self.now.known.keys c.retain.new.self.keys c.retain.ensures.filtered in
    ap (list_any (is_at (deletion_cmp d))) kept ∙ kept_of (has_deletion c.args.entries.now) c.args.self.now.known.keys d

pub returns-clause-room : goal.returns-clause-room
returns-clause-room c =
    let kept =
    filter_same _ (has_deletion c.args.entries.now) _
    (λ x b f t. search rules) c.args.self.now.known.keys c.retain.new.self.keys c.retain.ensures.filtered in
    let few = swept-few c.args.entries.now c.args.self.now.known.keys c.retain.new.self.keys c.retain.ensures.ordered kept in
    omega (arith, few)
