-- Joins that change nothing.
use Rattle.std.proofs.Common.{◌≡◌, Bool, true, false, List, ℕ, Option, Some, None, refl, sym, ap, subst, ◌∙◌}
use Rattle.std.specs.Prelude.{if◌then◌else◌, IfSome}
use Rattle.std.specs.declared.cmp.Ordering.{Ordering}
use Rattle.std.specs.Ordering.{eq_by_cmp}
use Rattle.std.specs.FinMap.{FinMap, IsAntisymmetric, get}
use Rattle.cds_stamps.specs.declared.stamp.Stamp.{Stamp}
use Rattle.cds_stamps.specs.Octets.{octets_cmp}
use Rattle.cds_stamps.specs.Keyed.{ties_are_equal}
use Rattle.cds_stamps.specs.Semilattice.{maybe}
use Rattle.cds_stamps.specs.Undos.{RaisesAt}
use Rattle.attr_sets.specs.declared.mark.ValueMark.{ValueMark}
use Rattle.attr_sets.specs.Marks.{later, mark_after_clear, ValueMarks, RaisesKept}

-- a value that changes nothing where it is joined in leaves the map as it is
pub unchanged : {K X : Type 0} {R : K → K → Ordering} → IsAntisymmetric R → (f : X → X → X) (m : FinMap R X) (k : K) (x : X)
    → maybe f (get m k) (Some x) ≡ get m k → RaisesAt f m m k x
unchanged {X = X} {R = R} same f m k x e q = by_case (eq_by_cmp R q k) refl
  where
    alone : (y : Option X) → y ≡ maybe f y None
    alone None = refl
    alone (Some y) = refl

    by_case : (b : Bool) → eq_by_cmp R q k ≡ b → get m q ≡ maybe f (get m q) (if b then Some x else None)
    by_case true t = let is : q ≡ k = ties_are_equal same q k t in ap (get m) is ∙ sym e ∙ ap (λ k. maybe f (get m k) (Some x)) (sym is)
    by_case false t = alone (get m q)

-- a mark that the clear keeps is joined in as any
pub raises_kept : (c : Option Stamp) (m n : ValueMarks) (v : List ℕ) (mark : ValueMark) → mark_after_clear c (Some mark) ≡ Some mark → RaisesAt later m n v mark
    → RaisesKept c m n v mark
raises_kept c m n v mark stays raises q = raises q ∙ by_case (eq_by_cmp octets_cmp q v)
  where
    by_case : (b : Bool) → maybe later (get m q) (if b then Some mark else None) ≡ maybe later (get m q) (mark_after_clear c (if b then Some mark else None))
    by_case true = ap (maybe later (get m q)) (sym stays)
    by_case false = refl

-- so does one that changes nothing of the valid value that is there
pub unchanged_valid : {K X : Type 0} {R : K → K → Ordering} → IsAntisymmetric R → (V : X → Type 0) (f : X → X → X) (m : FinMap R X) (k : K) (own x : X)
    → Some own ≡ get m k → (V own → V x → f own x ≡ own) → IfSome (get m k) V → V x → RaisesAt f m m k x
unchanged_valid same V f m k own x had stays v w =
    unchanged same f m k x (ap (λ y. maybe f y (Some x)) (sym had) ∙ ap Some (stays (subst (λ y. IfSome y V) (sym had) v) w) ∙ had)
