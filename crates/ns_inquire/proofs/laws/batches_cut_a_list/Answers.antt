use Rattle.std.proofs.Common.{[]}
use Rattle.ns_inquire.proofs.BatchLaws.{first_cut, joined}
use Rattle.ns_inquire.proofs.laws.batches_cut_a_list.Goals as goal

pub returns-clause-first : goal.returns-clause-first
returns-clause-first c = first_cut

pub returns-clause-joined : goal.returns-clause-joined
returns-clause-joined c = λ most left. joined most [] left
