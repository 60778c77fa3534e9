use Rattle.purge_rule.proofs.Times.{entry_of-up_to, table_of-up_to, empty-up_to}
use Rattle.purge_rule.proofs.MergeLaws.{purged-up_to}
use Rattle.purge_rule.proofs.laws.marks_make_no_later_time.Goals as goal

pub returns-clause-entry : goal.returns-clause-entry
returns-clause-entry c = λ h name n. entry_of-up_to n h name

pub returns-clause-table : goal.returns-clause-table
returns-clause-table c = λ h n. table_of-up_to n h

pub returns-clause-purged : goal.returns-clause-purged
returns-clause-purged c = λ h t n. purged-up_to n h t

pub returns-clause-empty : goal.returns-clause-empty
returns-clause-empty c = empty-up_to
