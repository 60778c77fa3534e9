use Rattle.purge_rule.proofs.Times.{latest_in_entry-≤, latest_in-≤, latest_time-≤, latest_in_delta-≤}
use Rattle.purge_rule.proofs.laws.greatest_times_are_the_latest.Goals as goal

pub returns-clause-entry : goal.returns-clause-entry
returns-clause-entry c = λ e n. latest_in_entry-≤ n e

pub returns-clause-table : goal.returns-clause-table
returns-clause-table c = λ t n. latest_in-≤ n t

pub returns-clause-replica : goal.returns-clause-replica
returns-clause-replica c = λ r n. latest_time-≤ n r

pub returns-clause-delta : goal.returns-clause-delta
returns-clause-delta c = λ d n. latest_in_delta-≤ n d
