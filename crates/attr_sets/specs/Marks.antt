-- Marks of one value of an attribute (own, after C705, present and absent values).
use Rattle.std.specs.Prelude.{◌≡◌, ℕ, List, Bool, true, false, Option, Some, None, if◌then◌else◌, refl}
use Rattle.std.proofs.Common.{ap}
use Rattle.std.specs.declared.cmp.Ordering.{Ordering}
use Rattle.std.specs.Coded.{Coded, code_by, coded×, coded_bool}
use Rattle.std.specs.Ordering.{bool_cmp, ordering_then, flip_args, eq_by_cmp}
use Rattle.std.specs.Cmp.{IsTotalOrder, bool_cmp_total}
use Rattle.std.specs.FinMap.{FinMap, IsAntisymmetric, get}
use Rattle.std.proofs.lemmas.Cmp.{on_total, then_total, back_total}
use Rattle.std.proofs.lemmas.Map.Lookups.{exact_pairs, CmpEqualImpliesEq}
use Rattle.cds_stamps.specs.declared.stamp.Stamp.{Stamp}
use Rattle.cds_stamps.specs.Octets.{octets_cmp}
use Rattle.cds_stamps.specs.Semilattice.{IsSemilattice, greater, greater_semilattice, maybe}
use Rattle.cds_stamps.specs.Stamps.{stamp_cmp, stamp_total, stamp_exact, stamp_code, is_earlier}
use Rattle.attr_sets.specs.declared.mark.ValueMark.{ValueMark}

-- the mark of a value that is present by an update with this stamp (own)
abbrev pub present_at : Stamp → ValueMark
present_at s = record { present = true; stamp = s }

-- the mark of a value that is absent by an update with this stamp (own)
abbrev pub absent_at : Stamp → ValueMark
absent_at s = record { present = false; stamp = s }

-- by stamp; of two marks with one stamp the absent one is greater (own)
abbrev pub mark_cmp : ValueMark → ValueMark → Ordering
mark_cmp a b = ordering_then (stamp_cmp a.stamp b.stamp) (bool_cmp b.present a.present)

exact_flags : CmpEqualImpliesEq (flip_args bool_cmp)
exact_flags true true e = refl
exact_flags true false e = cc
exact_flags false true e = cc
exact_flags false false e = refl

-- marks are in a total order
pub mark_total : IsTotalOrder mark_cmp
mark_total = then_total (on_total (λ m. m.stamp) stamp_total) (back_total (on_total (λ m. m.present) bool_cmp_total))

-- only equal marks tie
pub mark_exact : IsAntisymmetric mark_cmp
mark_exact a b h =
    ap (λ
    (p : Stamp × Bool). record { present = p.1; stamp = p.0 }) (exact_pairs stamp_cmp
    (flip_args bool_cmp) stamp_exact exact_flags (a.stamp, a.present) (b.stamp, b.present) h)

-- of two marks of one value, the one that counts (own, after C705, later timestamps win)
abbrev pub later : ValueMark → ValueMark → ValueMark
later = greater mark_cmp

-- later marks are a semilattice
pub later_laws : IsSemilattice later
later_laws = greater_semilattice mark_total mark_exact

-- marks are told apart by their two parts (own)
abbrev pub mark_code : Coded ValueMark
mark_code = code_by (Bool × Stamp) (coded× coded_bool stamp_code) (λ m. (m.present, m.stamp)) (λ p. record { present = p.0; stamp = p.1 }) (λ _. refl)

-- a mark, unless it is earlier than the clear (own)
abbrev pub mark_after_clear : Option Stamp → Option ValueMark → Option ValueMark
mark_after_clear c None = None
mark_after_clear None (Some m) = Some m
mark_after_clear (Some c) (Some m) = if is_earlier m.stamp c then None else Some m

-- a mark for each value, as clauses see it (own)
abbrev pub ValueMarks : Type 0
ValueMarks = FinMap octets_cmp ValueMark

-- n is m with this mark of v joined in, unless the mark is earlier than the clear (own)
abbrev pub RaisesKept : Option Stamp → ValueMarks → ValueMarks → List ℕ → ValueMark → Type 0
RaisesKept c m n v mark = (q : List ℕ) → get n q ≡ maybe later (get m q) (mark_after_clear c (if eq_by_cmp octets_cmp q v then Some mark else None))

-- n is m with the marks of the other joined in that are not earlier than the clear (own)
abbrev pub JoinsKept : Option Stamp → ValueMarks → ValueMarks → ValueMarks → Type 0
JoinsKept c m n other = (q : List ℕ) → get n q ≡ maybe later (get m q) (mark_after_clear c (get other q))

-- n has what the clear keeps of the two joined, where the clear keeps it of n (own)
abbrev pub AgreesOnKept : Option Stamp → ValueMarks → ValueMarks → ValueMarks → Type 0
AgreesOnKept c m other n = (q : List ℕ) → mark_after_clear c (get n q) ≡ mark_after_clear c (maybe later (get m q) (get other q))
