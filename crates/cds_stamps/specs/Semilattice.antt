-- Joins of what replicas hold: neither the order nor repeats count (own, after C705's merging of
-- updates by timestamp).
use Rattle.std.specs.Prelude.{◌≡◌, if◌then◌else◌, Option, Some, None, IfSome, List, [], ◌∷◌, ◌++◌, refl}
use Rattle.std.proofs.Common.{sym, ◌∙◌, ap, arith}
use Rattle.std.specs.declared.cmp.Ordering.{Ordering}
use Rattle.std.specs.declared.cmp.Ordering.TheVariants.{Less, Equal, Greater}
use Rattle.std.specs.Ordering.{is_lt}
use Rattle.std.specs.Cmp.{IsTotalOrder, tied_itself}
use Rattle.std.specs.FinMap.{IsAntisymmetric}

-- a join whose laws hold of valid values (own)
pub record IsJoin {X : Type 0} (IsValid : X → Type 0) (f : X → X → X) : Type 0 where
  pub keeps : (x y : X) → IsValid x → IsValid y → IsValid (f x y)
  pub comm : (x y : X) → f x y ≡ f y x
  pub assoc : (x y z : X) → f (f x y) z ≡ f x (f y z)
  pub idem : (x : X) → IsValid x → f x x ≡ x

-- a join whose laws hold of all values (own)
pub record IsSemilattice {X : Type 0} (f : X → X → X) : Type 0 where
  pub comm : (x y : X) → f x y ≡ f y x
  pub assoc : (x y z : X) → f (f x y) z ≡ f x (f y z)
  pub idem : (x : X) → f x x ≡ x

-- the greater of two by an order; the first where they tie (own)
abbrev pub greater : {K : Type 0} → (K → K → Ordering) → K → K → K
greater R x y = if is_lt (R x y) then y else x

-- the join of two of which either may be missing (own)
abbrev pub maybe : {X : Type 0} → (X → X → X) → Option X → Option X → Option X
maybe f None y = y
maybe f (Some x) None = Some x
maybe f (Some x) (Some y) = Some (f x y)

-- the join of what g finds in the items of a list (own)
abbrev pub join_of : {A X : Type 0} → (X → X → X) → (A → Option X) → List A → Option X
join_of f g [] = None
join_of f g (x ∷ xs) = maybe f (g x) (join_of f g xs)

-- the join of two of which either may be missing is a join
pub maybe_join : {X : Type 0} {V : X → Type 0} {f : X → X → X} → IsJoin V f → IsJoin (λ x. IfSome x V) (maybe f)
maybe_join {X} {V} {f} s = record { keeps = keeps; comm = comm; assoc = assoc; idem = idem }
  where
    keeps : (x y : Option X) → IfSome x V → IfSome y V → IfSome (maybe f x y) V
    keeps None y p q = q
    keeps (Some x) None p q = p
    keeps (Some x) (Some y) p q = s.keeps x y p q

    comm : (x y : Option X) → maybe f x y ≡ maybe f y x
    comm None None = refl
    comm None (Some y) = refl
    comm (Some x) None = refl
    comm (Some x) (Some y) = ap Some (s.comm x y)

    assoc : (x y z : Option X) → maybe f (maybe f x y) z ≡ maybe f x (maybe f y z)
    assoc None y z = refl
    assoc (Some x) None z = refl
    assoc (Some x) (Some y) None = refl
    assoc (Some x) (Some y) (Some z) = ap Some (s.assoc x y z)

    idem : (x : Option X) → IfSome x V → maybe f x x ≡ x
    idem None p = refl
    idem (Some x) p = ap Some (s.idem x p)

-- a semilattice is a join of values that are always valid
pub any_join : {X : Type 0} {f : X → X → X} → IsSemilattice f → IsJoin (λ _. Unit {0}) f
any_join s = record { keeps = λ _ _ _ _. tt; comm = s.comm; assoc = s.assoc; idem = λ x _. s.idem x }

-- and a semilattice, where the join of two is one
pub maybe_semilattice : {X : Type 0} {f : X → X → X} → IsSemilattice f → IsSemilattice (maybe f)
maybe_semilattice {X} s =
    let j = maybe_join (any_join s) in
    record { comm = j.comm; assoc = j.assoc; idem = λ x. j.idem x (always x) }
  where
    always : (x : Option X) → IfSome x (λ _. Unit {0})
    always None = tt
    always (Some x) = tt

-- what two lists give together
pub join_of-append : {A X : Type 0} {f : X → X → X} → IsSemilattice f → (g : A → Option X) (xs ys : List A)
    → join_of f g (xs ++ ys) ≡ maybe f (join_of f g xs) (join_of f g ys)
join_of-append s g [] ys = refl
join_of-append {f = f} s g (x ∷ xs) ys = ap (maybe f (g x)) (join_of-append s g xs ys) ∙ sym ((maybe_semilattice s).assoc (g x) _ _)

module _ {K : Type 0} {R : K → K → Ordering} (o : IsTotalOrder R) (same : IsAntisymmetric R) where
  greater-comm : (x y : K) (r : Ordering) → R x y ≡ r → greater R x y ≡ greater R y x
  greater-comm x y Less e = grind (arith, o.antisymm x y, o.antisymm y x)
  greater-comm x y Equal e = grind (arith, o.antisymm x y, o.antisymm y x, same x y)
  greater-comm x y Greater e = grind (arith, o.antisymm x y, o.antisymm y x)

  greater-assoc : (x y z : K) (r s t : Ordering) → R x y ≡ r → R y z ≡ s → R x z ≡ t → greater R (greater R x y) z ≡ greater R x (greater R y z)
  greater-assoc x y z r s t a b c = grind (arith, o.trans x y z, o.antisymm x y, o.antisymm y z, o.antisymm x z, same x y, same y z, o.trans z y x)

  -- the greater of two by an exact total order is a semilattice
  pub greater_semilattice : IsSemilattice (greater R)
  greater_semilattice = record {
    comm = λ x y. greater-comm x y _ refl;
    assoc = λ x y z. greater-assoc x y z _ _ _ refl refl refl;
    idem = λ x. rw (tied_itself o x);
  }
