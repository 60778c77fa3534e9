use Rattle.std.proofs.Common.{◌≡◌, true, Some, subst, sym, ◌∙◌}
use Rattle.std.specs.Prelude.{IfSome}
use Rattle.std.proofs.lemmas.Result.{on_ok_weaker}
use Rattle.directory.specs.IndexWords.{is_indexed, AddsOnly}
use Rattle.directory.proofs.DeletionSets.{put_in, adds_it, adds_still, on_result}
use Rattle.directory.proofs.deletions.Deletions.add_update.Goals as goal

pub returns-in-Some-clause-ok : goal.returns-in-Some-clause-ok
returns-in-Some-clause-ok c =
    on_ok_weaker c.add.result (λ put. subst (λ o. IfSome o (λ d. is_indexed c.add.new.self d ≡ true)) (sym c.in-Some.is ∙ c.in_ok-deletion.ensures)
    (put_in c.args.self.now c.add.new.self c.in-Some.deletion put)) c.add.ensures.ok

pub returns-in-Some-clause-adds : goal.returns-in-Some-clause-adds
returns-in-Some-clause-adds c =
    let d = c.in-Some.deletion in
    subst (λ o. AddsOnly o c.args.self.now c.add.new.self) (sym c.in-Some.is ∙ c.in_ok-deletion.ensures)
    (on_result c.add.result c.add.ensures.ok c.add.ensures.err
    (adds_it c.args.self.now c.add.new.self d)
    (adds_still (Some d) c.args.self.now c.add.new.self))
