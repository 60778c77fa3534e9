use Rattle.cds_records.proofs.WholeDecoding.{format_former, format_present, format_unknown, format_missing}
use Rattle.cds_records.proofs.laws.the_first_octet_says_the_format.Goals as goal

pub returns-clause-former : goal.returns-clause-former
returns-clause-former c = format_former

pub returns-clause-present : goal.returns-clause-present
returns-clause-present c = format_present

pub returns-clause-unknown : goal.returns-clause-unknown
returns-clause-unknown c = format_unknown

pub returns-clause-nothing : goal.returns-clause-nothing
returns-clause-nothing c = format_missing
