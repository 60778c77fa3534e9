use Rattle.std.proofs.Common.{◌++◌, ap, sym, subst, ◌∙◌}
use Rattle.directory.specs.Entries.{IsValidTable}
use Rattle.directory.specs.Histories.{CanMerge}
use Rattle.directory.specs.Purges.{purged_entries}
use Rattle.purge_rule.specs.Latest.{StampUpTo, TableUpTo}
use Rattle.purge_rule.specs.Replicas.{merged_table}
use Rattle.purge_rule.proofs.MergeLaws.{merged_table-valid, merged_table-up_to}
use Rattle.purge_rule.proofs.ReplicaLaws.{same_replica, merged_deltas}
use Rattle.purge_rule.proofs.Times.{together-up_to}
use Rattle.purge_rule.proofs.replica.Replica.take_delta.Goals as goal

pub returns-clause-merged : goal.returns-clause-merged
returns-clause-merged c = λ h g can mine theirs.
    let up_to = c.later_of.ensures in
    same_replica _ _ _ _ (merged_deltas h g c.later_of.result c.args.self.now c.args.other.now c.args.self.now.all_up_to
    c.args.other.now.above c.merge_excerpt.new.own (sym up_to) (subst (CanMerge h g) (sym up_to) can) mine theirs c.in_ok-merge_excerpt.ensures.ok
    ∙ ap (purged_entries (h ++ g)) up_to) up_to

pub returns-clause-joined : goal.returns-clause-joined
returns-clause-joined c = λ mine theirs. c.in_ok-merge_excerpt.ensures.ok mine theirs
    ∙ ap (λ t. merged_table t c.args.self.now.table c.args.other.now.table) c.later_of.ensures

pub returns-clause-valid : goal.returns-clause-valid
returns-clause-valid c = λ mine theirs. subst IsValidTable (sym (c.in_ok-merge_excerpt.ensures.ok mine theirs)) (merged_table-valid
    c.later_of.result c.args.self.now.table c.args.other.now.table mine theirs)

pub returns-clause-times : goal.returns-clause-times
returns-clause-times c = λ n mine theirs p q. record {
  table = subst (TableUpTo n) (sym (c.in_ok-merge_excerpt.ensures.ok mine theirs)) (merged_table-up_to n c.later_of.result
      c.args.self.now.table c.args.other.now.table p.table q.table);
  all_up_to = subst (StampUpTo n) (sym c.later_of.ensures)
      (together-up_to n c.args.self.now.all_up_to c.args.other.now.above p.all_up_to q.above);
}
