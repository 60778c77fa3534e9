use Rattle.std.proofs.Common.{◌≡◌, true, subst}
use Rattle.std.proofs.lemmas.Result.{on_ok_weaker}
use Rattle.directory.specs.declared.deletions.Deletion.{Deletion}
use Rattle.directory.specs.IndexWords.{is_indexed, AddsAt}
use Rattle.directory.proofs.DeletionSets.{put_in, adds_one, adds_same, on_result}
use Rattle.directory.proofs.deletions.Deletions.add_what.Goals as goal

pub returns-clause-ok : goal.returns-clause-ok
returns-clause-ok c =
    on_ok_weaker c.add.result (λ put. subst (λ n. is_indexed c.add.new.self (record { stamp = c.args.stamp; name = n; what = c.args.what }) ≡ true)
    c.in_ok-name.ensures
    (put_in c.args.self.now c.add.new.self (record { stamp = c.args.stamp; name = c.in_ok-name.name; what = c.args.what }) put)) c.add.ensures.ok

pub returns-clause-adds : goal.returns-clause-adds
returns-clause-adds c =
    let d : Deletion = record { stamp = c.args.stamp; name = c.in_ok-name.name; what = c.args.what } in
    subst (λ n. AddsAt n c.args.self.now c.add.new.self) c.in_ok-name.ensures
    (on_result c.add.result c.add.ensures.ok c.add.ensures.err
    (adds_one c.args.self.now c.add.new.self d)
    (adds_same d.name c.args.self.now c.add.new.self))
