-- A list of which a place was written.
use Rattle.std.proofs.Common.{◌≡◌, ℕ, zero, suc, ◌<◌, ◌≤◌, List, [], ◌∷◌, length, subst, refl, sym, ◌∙◌, ap, arith}
use Rattle.std.specs.Prelude.{Some, slice_get, slice_set}
use Rattle.std.specs.Vec.{with_item}
use Rattle.std.specs.declared.vec.Vec.{Vec}
use Rattle.std.proofs.Math.ListN.{get_or, set}
use denote.Struct.Props.{props}
use Rattle.std.proofs.lemmas.List.{set-get_or}

-- what was written is there
pub written : {X : Type 0} (xs : List X) (i : ℕ) (x : X) → i < length xs → slice_get (slice_set xs i x) i ≡ Some x
written [] i x less = absurd (omega (arith, less))
written (y ∷ ys) zero x less = refl
written (y ∷ ys) (suc i) x less = let within : i < length ys = omega (arith, less) in written ys i x within

unique : (a b c : ℕ) → IsProp ((a ≡ b) × (a ≤ c))
unique a b c = hlevel props

-- a list in which the value of a place was written once more is the same
pub with_same : {X Z : Type 0} (v : Vec X Z) (i : ℕ) (x y : X) → y ≡ x → x ≡ get_or v.items i x → with_item v i y ≡ v
with_same {X} {Z} v i x y same there = go (with_item v i y).items (with_item v i y).ok items
  where
    items : slice_set v.items i y ≡ v.items
    items = ap (λ z. slice_set v.items i z) (same ∙ there) ∙ set-get_or v.items i x

    known : (ok : (v.len ≡ length v.items) × (v.len ≤ v.cap)) → ok ≡ v.ok
    known ok = unique v.len (length v.items) v.cap ok v.ok

    go : (ys : List X) (ok : (v.len ≡ length ys) × (v.len ≤ v.cap)) → ys ≡ v.items
        → (record { ptr = v.ptr; len = v.len; cap = v.cap; alloc = v.alloc; items = ys; ok = ok; small = v.small }) ≡ v
    go ys ok is =
        subst (λ (ys : List X). (ok : (v.len ≡ length ys) × (v.len ≤ v.cap))
        → (record { ptr = v.ptr; len = v.len; cap = v.cap; alloc = v.alloc; items = ys; ok = ok; small = v.small }) ≡ v) (sym is)
        (λ ok. ap (λ ok. record { ptr = v.ptr; len = v.len; cap = v.cap; alloc = v.alloc; items = v.items; ok = ok; small = v.small }) (known ok)) ok
