-- The order of deletions: the derived one is that of the definitions, which is total, and in which
-- deletions that tie are one.
use Rattle.std.proofs.Common.{◌≡◌, ℕ, List, false, refl, sym, ap, ◌∙◌}
use Rattle.std.specs.declared.cmp.Ordering.{Ordering}
use Rattle.std.specs.declared.cmp.Ordering.TheVariants.{Less, Equal, Greater}
use Rattle.std.proofs.lemmas.Bool.{false≢true}
use Rattle.std.specs.Ordering.{is_lt, ordering_reverse, ordering_then}
use Rattle.std.specs.Cmp.{IsTotalOrder, nat_cmp_total}
use Rattle.std.specs.Cmp.Lexicographic.{nat_list_cmp_total}
use Rattle.std.specs.FinMap.{IsAntisymmetric}
use Rattle.std.proofs.lemmas.Cmp.{on_total, then_total}
use Rattle.cds_stamps.specs.Stamps.{stamp_cmp, stamp_total, stamp_exact}
use Rattle.cds_stamps.specs.Octets.{octets_cmp, octets_exact}
use Rattle.directory.specs.declared.deletions.What.{What}
use Rattle.directory.specs.declared.deletions.What.TheVariants.{Death, Clear, Absent}
use Rattle.directory.specs.declared.deletions.Deletion.{Deletion}
use Rattle.directory.specs.contracts.deletions.WhatOrd.TheImpl as whats
use Rattle.directory.specs.contracts.deletions.DeletionOrd.TheImpl as deletions
use Rattle.directory.specs.Deletions.{rank, attr_of, value_of, what_cmp, deletion_cmp, is_before}

-- what is equal at first is decided by what comes next
then_equal : (o : Ordering) → o ≡ ordering_then o Equal
then_equal Less = refl
then_equal Equal = refl
then_equal Greater = refl

-- what was deleted, by the derived order
derived_what : (v w : What) → (whats.ghosts).cmp v w ≡ what_cmp v w
derived_what Death Death = refl
derived_what Death (Clear a) = refl
derived_what Death (Absent a v) = refl
derived_what (Clear a) Death = refl
derived_what (Clear a) (Clear b) = then_equal (octets_cmp a b)
derived_what (Clear a) (Absent b w) = refl
derived_what (Absent a v) Death = refl
derived_what (Absent a v) (Clear b) = refl
derived_what (Absent a v) (Absent b w) = refl

-- the derived order of deletions
abbrev pub derived : Deletion → Deletion → Ordering
derived = (deletions.ghosts).cmp

-- the derived order of deletions is that of the definitions
pub derived_cmp : derived ≡ deletion_cmp
derived_cmp = λ i d e. ap (λ o. ordering_then (stamp_cmp d.stamp e.stamp) (ordering_then (octets_cmp d.name e.name) o)) (derived_what d.what e.what) i

-- the order is total
pub deletion_total : IsTotalOrder deletion_cmp
deletion_total = then_total (on_total (λ d. d.stamp) stamp_total) (then_total (on_total (λ d. d.name) nat_list_cmp_total) (on_total (λ d. d.what) what_total))
  where
    what_total : IsTotalOrder what_cmp
    what_total = then_total (on_total rank nat_cmp_total) (then_total (on_total attr_of nat_list_cmp_total) (on_total value_of nat_list_cmp_total))

-- both of two ties are
both_tie : (o p : Ordering) → ordering_then o p ≡ Equal → (o ≡ Equal) × (p ≡ Equal)
both_tie Less p h = cc
both_tie Equal p h = (refl, h)
both_tie Greater p h = cc

-- what ties is one
what_exact : IsAntisymmetric what_cmp
what_exact Death Death h = refl
what_exact Death (Clear a) h = cc
what_exact Death (Absent a v) h = cc
what_exact (Clear a) Death h = cc
what_exact (Clear a) (Clear b) h = ap Clear (octets_exact a b (then_equal (octets_cmp a b) ∙ h))
what_exact (Clear a) (Absent b w) h = cc
what_exact (Absent a v) Death h = cc
what_exact (Absent a v) (Clear b) h = cc
what_exact (Absent a v) (Absent b w) h =
    let ties = both_tie (octets_cmp a b) (octets_cmp v w) h in
    ap (λ (p : List ℕ × List ℕ). Absent p.0 p.1) (λ i. (octets_exact a b ties.0 i, octets_exact v w ties.1 i))

-- deletions that tie are one
pub deletion_exact : IsAntisymmetric deletion_cmp
deletion_exact d e h =
    let first = both_tie (stamp_cmp d.stamp e.stamp) (ordering_then (octets_cmp d.name e.name) (what_cmp d.what e.what)) h in
    let next = both_tie (octets_cmp d.name e.name) (what_cmp d.what e.what) first.1 in
    λ i. record {
      stamp = stamp_exact d.stamp e.stamp first.0 i;
      name = octets_exact d.name e.name next.0 i;
      what = what_exact d.what e.what next.1 i;
    }

-- of two deletions neither of which is before the other
pub neither_before : (d e : Deletion) → is_before d e ≡ false → is_before e d ≡ false → d ≡ e
neither_before d e f g = at (deletion_cmp d e) refl
  where
    at : (o : Ordering) → deletion_cmp d e ≡ o → d ≡ e
    at Less is = absurd (false≢true (sym f ∙ ap is_lt is))
    at Equal is = deletion_exact d e is
    at Greater is = absurd (false≢true (sym g ∙ ap is_lt (deletion_total.antisymm e d ∙ ap ordering_reverse is)))
