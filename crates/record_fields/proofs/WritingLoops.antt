-- Octets written one after another, and the entries of a map in a loop.
use Rattle.std.proofs.Common.{◌≡◌, ℕ, ◌/◌, ◌%◌, arith, List, [], ◌∷◌, ◌++◌, refl, sym, ap, subst, ◌∙◌, append_assoc, append-nil}
use Rattle.std.specs.Int.{bytes_high_first}
use Rattle.record_fields.specs.Fields.{node_octets}
use Rattle.record_fields.specs.FieldOctets.{items_octets}
use Rattle.record_fields.specs.FieldRanges.{ItemsFit}

-- the 6 octets of a number are those of its high 16 bits and of its low 32
pub six_octets : (n : ℕ) → bytes_high_first 6 n ≡ node_octets n
six_octets n =
    let a : n / 1099511627776 % 256 ≡ n / 4294967296 / 256 % 256 = omega arith in
    let c : n / 16777216 % 256 ≡ n % 4294967296 / 16777216 % 256 = omega arith in
    let d : n / 65536 % 256 ≡ n % 4294967296 / 65536 % 256 = omega arith in
    let e : n / 256 % 256 ≡ n % 4294967296 / 256 % 256 = omega arith in
    let f : n % 256 ≡ n % 4294967296 % 256 = omega arith in
    λ i. a i ∷ n / 4294967296 % 256 ∷ c i ∷ d i ∷ e i ∷ f i ∷ []

-- octets that are written after others, which were written after the old ones
pub behind : (old x y out new : List ℕ) → out ≡ old ++ x → new ≡ out ++ y → new ≡ old ++ (x ++ y)
behind old x y out new e f = f ∙ ap (λ (z : List ℕ). z ++ y) e ∙ append_assoc old x y

-- three, five and six parts, one after another
pub behind_3 : {b c d : List ℕ} (a x y z : List ℕ) → b ≡ a ++ x → c ≡ b ++ y → d ≡ c ++ z → d ≡ a ++ (x ++ y ++ z)
behind_3 a x y z e f g = behind a (x ++ y) z _ _ (behind a x y _ _ e f) g

-- five parts that are written one after another stand as one piece after the old octets
pub behind_5 : {b c d e f : List ℕ} (a u v x y z : List ℕ) → b ≡ a ++ u → c ≡ b ++ v → d ≡ c ++ x → e ≡ d ++ y → f ≡ e ++ z
    → f ≡ a ++ (u ++ v ++ x ++ y ++ z)
behind_5 a u v x y z p q r s t = behind_3 a (u ++ v ++ x) y z (behind_3 a u v x p q r) s t

-- six parts that are written one after another stand as one piece after the old octets
pub behind_6 : {b c d e f g : List ℕ} (a u v w x y z : List ℕ) → b ≡ a ++ u → c ≡ b ++ v → d ≡ c ++ w → e ≡ d ++ x → f ≡ e ++ y → g ≡ f ++ z
    → g ≡ a ++ (u ++ v ++ w ++ x ++ y ++ z)
behind_6 a u v w x y z p q r s t i = behind a (u ++ v ++ w ++ x ++ y) z _ _ (behind_5 a u v w x y p q r s t) i

-- octets that are written after none
pub from_none : (old x new : List ℕ) → old ≡ [] → new ≡ old ++ x → new ≡ x
from_none old x new none e = e ∙ ap (λ (z : List ℕ). z ++ x) none

module _ {K X : Type 0} (named : K → List ℕ) (said : X → List ℕ) (P : K → Type 0) (Q : X → Type 0) where
  -- of these items all but the rest are written, each of which fits
  pub record Written (all rest : List (K × X)) (old out : List ℕ) : Type 0 where
    pub octets : out ++ items_octets named said rest ≡ old ++ items_octets named said all
    pub fits : ItemsFit P Q rest → ItemsFit P Q all

  -- before the first item nothing is written
  pub writing_begins : (all rest : List (K × X)) (old : List ℕ) → rest ≡ all → Written all rest old old
  writing_begins all rest old e = subst (λ r. Written all r old old) (sym e) (record { octets = refl; fits = λ h. h })

  -- an item that was written brings the loop one further
  pub writing_goes_on : (all es rest : List (K × X)) (k : K) (x : X) (old out new : List ℕ) → es ≡ (k, x) ∷ rest → Written all es old out
      → new ≡ out ++ (named k ++ said x) → P k × Q x → Written all rest old new
  unfolding items_octets
  writing_goes_on all es rest k x old out new first so_far behind fits =
      let h : Written all ((k, x) ∷ rest) old out = subst (λ r. Written all r old out) first so_far in record {
        octets =
            ap (λ (z : List ℕ). z ++ items_octets named said rest) behind
            ∙ append_assoc out (named k ++ said x) (items_octets named said rest) ∙ h.octets;
        fits = λ more. h.fits (fits, more);
      }

  -- after the last item all are written
  pub writing_ends : (all rest : List (K × X)) (old out : List ℕ) → rest ≡ [] → Written all rest old out
      → (out ≡ old ++ items_octets named said all) × ItemsFit P Q all
  unfolding items_octets
  writing_ends all rest old out none so_far =
      let h : Written all [] old out = subst (λ r. Written all r old out) none so_far in
      (sym (append-nil out) ∙ h.octets, h.fits tt)
