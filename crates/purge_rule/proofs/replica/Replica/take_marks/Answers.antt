use Rattle.std.proofs.Common.{refl}
use Rattle.purge_rule.proofs.ReplicaLaws.{same_replica, merged_marks, raised_table-valid, raised_table-up_to}
use Rattle.purge_rule.proofs.replica.Replica.take_marks.Goals as goal

pub returns-clause-merged : goal.returns-clause-merged
returns-clause-merged c = λ h marks can fragment mine.
    same_replica _ _ _ _
    (merged_marks h marks c.args.self.now.all_up_to c.args.self.now c.args.fragment.now c.merge_entry.new.own can fragment mine
    c.in_ok-merge_entry.ensures.ok) refl

pub returns-clause-valid : goal.returns-clause-valid
returns-clause-valid c =
    λ valid entry. raised_table-valid c.args.self.now.all_up_to c.args.self.now.table c.merge_entry.new.own c.args.fragment.now valid entry
    (c.in_ok-merge_entry.ensures.ok (valid c.args.fragment.now.name) entry)

pub returns-clause-times : goal.returns-clause-times
returns-clause-times c = λ n stands entry p q. record {
  table = raised_table-up_to n c.args.self.now.all_up_to c.args.self.now.table c.merge_entry.new.own c.args.fragment.now p.table q
      (c.in_ok-merge_entry.ensures.ok stands entry);
  all_up_to = p.all_up_to;
}
