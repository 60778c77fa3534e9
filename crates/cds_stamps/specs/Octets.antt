-- Octets, ordered one by one; a proper prefix comes first.
use Rattle.std.specs.Prelude.{ℕ, Bool, List}
use Rattle.std.specs.declared.cmp.Ordering.{Ordering}
use Rattle.std.specs.Coded.{Coded, coded_ℕ, coded_list}
use Rattle.std.specs.Cmp.Lexicographic.{slice_cmp}
use Rattle.std.specs.Ordering.{nat_cmp, eq_by_cmp}
use Rattle.std.specs.FinMap.{IsAntisymmetric, slice_cmp-IsAntisymmetric, nat_cmp-IsAntisymmetric}

-- the order of names and values
abbrev pub octets_cmp : List ℕ → List ℕ → Ordering
octets_cmp = slice_cmp nat_cmp

-- octets that tie are one
pub octets_exact : IsAntisymmetric octets_cmp
octets_exact = slice_cmp-IsAntisymmetric nat_cmp-IsAntisymmetric

-- octets as a code, by which maps of them are one where they look alike
abbrev pub octets_code : Coded (List ℕ)
octets_code = coded_list coded_ℕ

-- the two are the same octets
abbrev pub is_octets : List ℕ → List ℕ → Bool
is_octets = eq_by_cmp octets_cmp
