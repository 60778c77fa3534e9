use Rattle.std.proofs.Common.{◌≡◌, Some, ap, subst, sym, ◌∙◌}
use Rattle.std.specs.Prelude.{IfSome}
use Rattle.directory.specs.Entries.{IsValidTable}
use Rattle.directory.specs.Purges.{purged_entries, purged_table}
use Rattle.directory.proofs.PurgeLaws.{purged-again, purged_table-valid}
use Rattle.purge_rule.specs.declared.replica.Replica.{Replica}
use Rattle.purge_rule.specs.Latest.{StampUpTo, TableUpTo}
use Rattle.purge_rule.proofs.MergeLaws.{above_left}
use Rattle.purge_rule.proofs.ReplicaLaws.{same_replica}
use Rattle.purge_rule.proofs.Times.{together-up_to}
use Rattle.purge_rule.proofs.replica.Replica.advance_counted.Goals as goal

pub returns-clause-merged : goal.returns-clause-merged
returns-clause-merged g c = λ h is.
    let later = c.raise-up_to.ensures.later in
    let up_to = c.raise-up_to.result in
    let stands : c.raise-up_to.new.self.table ≡ purged_entries h c.args.self.now.all_up_to = c.raise-up_to.ensures.table ∙ ap (λ (r : Replica). r.table) is in
    same_replica _ _ _ _ (c.forget.ensures.dropped
    ∙ ap (purged_table up_to) stands
    ∙ purged-again h c.args.self.now.all_up_to up_to (above_left c.args.self.now.all_up_to (Some c.args.t) (Some up_to) later)
    ∙ ap (purged_entries h) (sym later)) (c.raise-up_to.ensures.all_up_to ∙ sym later)

pub returns-clause-dropped : goal.returns-clause-dropped
returns-clause-dropped g c =
    let stands = c.raise-up_to.ensures.table in
    subst (λ a. IfSome a (λ u. c.forget.new.table ≡ purged_table u c.args.self.now.table)) (sym c.raise-up_to.ensures.all_up_to)
    (c.forget.ensures.dropped ∙ ap (purged_table c.raise-up_to.result) stands)

pub returns-clause-valid : goal.returns-clause-valid
returns-clause-valid g c = λ valid.
    let v : IsValidTable c.raise-up_to.new.self.table = subst IsValidTable (sym c.raise-up_to.ensures.table) valid in
    subst IsValidTable (sym c.forget.ensures.dropped) (purged_table-valid c.raise-up_to.result c.raise-up_to.new.self.table v)

pub returns-clause-times : goal.returns-clause-times
returns-clause-times g c = λ n p q. record {
  table = c.forget.ensures.times n (subst (TableUpTo n) (sym c.raise-up_to.ensures.table) p.table);
  all_up_to = subst (StampUpTo n) (c.raise-up_to.ensures.later ∙ sym c.raise-up_to.ensures.all_up_to)
      (together-up_to n c.args.self.now.all_up_to (Some c.args.t) p.all_up_to q);
}
