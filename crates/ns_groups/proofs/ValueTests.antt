-- Octets that are sought among values.
use Rattle.std.proofs.Common.{◌≡◌, ℕ, ◌<◌, true, List, length, get_or, sym, subst}
use Rattle.std.specs.Cmp.{eq_by_cmp_equiv}
use Rattle.std.specs.Cmp.Lexicographic.{nat_list_cmp_total}
use Rattle.std.specs.List.{list_any}
use Rattle.std.proofs.lemmas.Map.Views.{list_any-from_Contains}
use Rattle.cds_stamps.specs.Octets.{is_octets}

-- octets are among values where one of them is these
pub found_at : (o : List ℕ) (values : List (List ℕ)) (i : ℕ) (value : List ℕ) → i < length values → value ≡ get_or values i value → value ≡ o
    → list_any (is_octets o) values ≡ true
found_at o values i value less at is =
    list_any-from_Contains (eq_by_cmp_equiv nat_list_cmp_total) o values (i, less, subst (λ (v : List ℕ). get_or values i v ≡ v) is (sym at))
