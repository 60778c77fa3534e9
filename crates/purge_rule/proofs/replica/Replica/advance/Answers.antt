use Rattle.std.proofs.Common.{◌≡◌, Some, ap, subst, sym, ◌∙◌}
use Rattle.std.specs.Prelude.{IfSome}
use Rattle.directory.specs.Purges.{purged_entries, purged_table}
use Rattle.purge_rule.specs.declared.replica.Replica.{Replica}
use Rattle.purge_rule.specs.Latest.{StampUpTo, TableUpTo}
use Rattle.purge_rule.proofs.MergeLaws.{above_left, purged_table-up_to}
use Rattle.purge_rule.proofs.ReplicaLaws.{same_replica}
use Rattle.purge_rule.proofs.Times.{together-up_to}
use Rattle.purge_rule.proofs.replica.Replica.advance.Goals as goal

pub returns-clause-merged : goal.returns-clause-merged
returns-clause-merged c = λ h is.
    let later = c.raise-up_to.ensures.later in
    same_replica _ _ _ _ (c.drop_up_to.ensures.histories h c.args.self.now.all_up_to (above_left c.args.self.now.all_up_to (Some c.args.t)
    (Some c.raise-up_to.result) later) (c.raise-up_to.ensures.table ∙ ap (λ (r : Replica). r.table) is) ∙ ap (purged_entries h) (sym later))
    (c.raise-up_to.ensures.all_up_to ∙ sym later)

pub returns-clause-dropped : goal.returns-clause-dropped
returns-clause-dropped c =
    subst (λ a. IfSome a (λ u. c.drop_up_to.new.self ≡ purged_table u c.args.self.now.table)) (sym c.raise-up_to.ensures.all_up_to)
    (c.drop_up_to.ensures.dropped ∙ ap (purged_table c.raise-up_to.result) c.raise-up_to.ensures.table)

pub returns-clause-times : goal.returns-clause-times
returns-clause-times c = λ n p q. record {
  table = subst (TableUpTo n) (sym c.drop_up_to.ensures.dropped) (purged_table-up_to n c.raise-up_to.result c.raise-up_to.new.self.table
      (subst (TableUpTo n) (sym c.raise-up_to.ensures.table) p.table));
  all_up_to = subst (StampUpTo n) (c.raise-up_to.ensures.later ∙ sym c.raise-up_to.ensures.all_up_to)
      (together-up_to n c.args.self.now.all_up_to (Some c.args.t) p.all_up_to q);
}
