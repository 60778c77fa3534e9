use Rattle.std.proofs.Common.{◌≡◌, ℕ, true, List, [], ap}
use Rattle.std.specs.Cmp.{tied_itself}
use Rattle.std.specs.Cmp.Lexicographic.{nat_list_cmp_total}
use Rattle.std.specs.Ordering.{is_eq}
use Rattle.cds_stamps.specs.Keyed.{ties_are_equal}
use Rattle.cds_stamps.specs.Octets.{octets_exact, is_octets}
use Rattle.cds_stamps.proofs.FirstLaws.{firsts-has, firsts-once}
use Rattle.cds_stamps.proofs.laws.first_places_stand_once.Goals as goal

itself : (o : List ℕ) → is_octets o o ≡ true
itself o = ap is_eq (tied_itself nat_list_cmp_total o)

pub returns-clause-same : goal.returns-clause-same
returns-clause-same c = firsts-has is_octets (ties_are_equal octets_exact) itself

pub returns-clause-once : goal.returns-clause-once
returns-clause-once c = firsts-once is_octets (ties_are_equal octets_exact) itself []
