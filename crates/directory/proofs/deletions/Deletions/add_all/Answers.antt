use Rattle.std.proofs.Common.{◌≡◌, true, ap, ◌∙◌, rules}
use Rattle.std.specs.Prelude.{if◌then◌else◌}
use Rattle.directory.specs.declared.deletions.Deletion.{Deletion}
use Rattle.directory.specs.Deletions.{is_deletion}
use Rattle.directory.specs.IndexWords.{is_indexed}
use Rattle.directory.proofs.DeletionSets.{kept_beside, one_added}
use Rattle.directory.proofs.deletions.Deletions.add_all.Goals as goal

pub loop-deletion-preserved : goal.loop-deletion-preserved
loop-deletion-preserved c =
    let same : c.in_ok-clone.field-0 ≡ c.in-Some.deletion.now = search rules in
    let put : (d : Deletion) → is_indexed c.add.new.self d ≡ (if is_deletion d c.in-Some.deletion.now then true else is_indexed c.loop-deletion.self d) = λ d.
    c.in_ok-add.ensures.ok d ∙ ap (λ e. if is_deletion d e then true else is_indexed c.loop-deletion.self d) same in (
      λ d has. kept_beside c.loop-deletion.self c.add.new.self c.in-Some.deletion.now put d (c.loop-deletion.invariant.0 d has),
      λ d has. one_added c.loop-deletion.self c.add.new.self c.in-Some.deletion.now c.loop-deletion.deletion-iterator c.next.new.self
          c.in-Some.ensures.steps put d (c.loop-deletion.invariant.1 d has),
      c.add.ensures.room ∙ c.loop-deletion.invariant.2,
    )
