-- The greatest of what the items of a list have.
use Rattle.std.proofs.Common.{◌≡◌, Bool, true, false, List, [], ◌∷◌, Option, Some, None, refl, sym, ap, ◌∙◌, ⊎_elim, arith}
use Rattle.std.specs.Prelude.{if◌then◌else◌}
use Rattle.std.specs.declared.cmp.Ordering.{Ordering}
use Rattle.std.specs.Ordering.{is_lt}
use Rattle.std.specs.Cmp.{IsTotalOrder, tied_itself}
use Rattle.std.specs.FinMap.{IsAntisymmetric}
use Rattle.std.specs.List.{Contains}
use Rattle.cds_stamps.specs.Semilattice.{IsSemilattice, greater, greater_semilattice, maybe, maybe_semilattice, join_of}
-- ---- members of lists

pub use Rattle.cds_stamps.proofs.ListMembers.{Contains-head, Contains-tail, Contains-none, Contains-cases}

-- ---- joins of members

-- the join has taken in what each member has
pub join_of-member : {A X : Type 0} {f : X → X → X} → IsSemilattice f → (g : A → Option X) (h : List A) (e : A) → Contains h e
    → maybe f (g e) (join_of f g h) ≡ join_of f g h
join_of-member s g [] e c = absurd (Contains-none e c)
join_of-member {A} {X} {f} s g (d ∷ h) e c = ⊎_elim here (λ in_rest. there (join_of-member s g h e in_rest)) (Contains-cases d h e c)
  where
    m : IsSemilattice (maybe f)
    m = maybe_semilattice s

    here : d ≡ e → maybe f (g e) (maybe f (g d) (join_of f g h)) ≡ maybe f (g d) (join_of f g h)
    here is = ap (λ x. maybe f x (maybe f (g d) (join_of f g h))) (ap g (sym is)) ∙ sym (m.assoc (g d) (g d) (join_of f g h))
        ∙ ap (λ x. maybe f x (join_of f g h)) (m.idem (g d))

    there : maybe f (g e) (join_of f g h) ≡ join_of f g h → maybe f (g e) (maybe f (g d) (join_of f g h)) ≡ maybe f (g d) (join_of f g h)
    there rest = sym (m.assoc (g e) (g d) (join_of f g h)) ∙ ap (λ x. maybe f x (join_of f g h)) (m.comm (g e) (g d))
        ∙ m.assoc (g d) (g e) (join_of f g h) ∙ ap (maybe f (g d)) rest

-- what two equal options hold
pub same_inside : {X : Type 0} (x y : X) → Some x ≡ Some y → x ≡ y
same_inside x y e = cc (e)

module _ {A K : Type 0} (g : A → Option K) where
  -- a member that has x
  abbrev pub HasMember : List A → K → Type 0
  HasMember h x = (e : A) × Contains h e × (g e ≡ Some x)

  later_member : (d : A) (h : List A) (x : K) → HasMember h x → HasMember (d ∷ h) x
  later_member d h x m = (m.0, Contains-tail d h m.0 m.1, m.2)

-- of three, the first is not below the third
module _ {K : Type 0} {R : K → K → Ordering} (o : IsTotalOrder R) (same : IsAntisymmetric R) where
  above_all : (x y : K) (b : Bool) → is_lt (R x y) ≡ b → greater R x y ≡ x → is_lt (R x y) ≡ false
  above_all x y true e is = ap (λ z. is_lt (R x z)) (ap (λ b. if b then y else x) (sym e) ∙ is) ∙ ap is_lt (tied_itself o x)
  above_all x y false e is = e

  -- of three, the first is not below the third, where neither is below the next
  pub not_lt-through : (x y z : K) → is_lt (R x y) ≡ false → is_lt (R y z) ≡ false → is_lt (R x z) ≡ false
  not_lt-through x y z p q =
      let first : greater R x y ≡ x = ap (λ b. if b then y else x) p in
      let second : greater R y z ≡ y = ap (λ b. if b then z else y) q in
      above_all x z _ refl (ap (λ x. greater R x z) (sym first) ∙ (greater_semilattice o same).assoc x y z ∙ ap (greater R x) second ∙ first)

module _ {A K : Type 0} (R : K → K → Ordering) (g : A → Option K) where
  -- the greatest is what a member has
  pub join_of-among : (h : List A) (x : K) → join_of (greater R) g h ≡ Some x → HasMember g h x
  join_of-among [] x e = cc
  join_of-among (d ∷ h) x e = by_case (g d) (join_of (greater R) g h) refl (λ y is. join_of-among h y is) e
    where
      pick : (a b : K) (t : Bool) → g d ≡ Some a → ((y : K) → Some b ≡ Some y → HasMember g h y) → Some (if t then b else a) ≡ Some x → HasMember g (d ∷ h) x
      pick a b true first rest is = later_member g d h x (rest x is)
      pick a b false first rest is = (d, Contains-head d h, first ∙ is)

      by_case : (a b : Option K) → g d ≡ a → ((y : K) → b ≡ Some y → HasMember g h y) → maybe (greater R) a b ≡ Some x → HasMember g (d ∷ h) x
      by_case None b first rest is = later_member g d h x (rest x is)
      by_case (Some a) None first rest is = (d, Contains-head d h, first ∙ is)
      by_case (Some a) (Some b) first rest is = pick a b (is_lt (R a b)) first rest is

  module _ (o : IsTotalOrder R) (same : IsAntisymmetric R) where
    not_below : (x y : K) → greater R y x ≡ x → is_lt (R x y) ≡ false
    not_below x y e = grind (arith, o.antisymm x y, o.antisymm y x, tied_itself o x)

    -- no member has a greater one
    pub join_of-greatest : (h : List A) (x : K) → join_of (greater R) g h ≡ Some x → (e : A) (y : K) → Contains h e → g e ≡ Some y → is_lt (R x y) ≡ false
    join_of-greatest h x is e y c has =
        not_below x y (same_inside (greater R y x) x (ap (maybe (greater R) (Some y)) (sym is) ∙ ap (λ a. maybe (greater R) a (join_of
        (greater R) g h)) (sym has) ∙ join_of-member (greater_semilattice o same) g h e c ∙ is))

    -- what a member has, where none has a greater one
    pub join_of-is : (h : List A) (x : K) → HasMember g h x → ((e : A) (y : K) → Contains h e → g e ≡ Some y → is_lt (R x y) ≡ false)
        → join_of (greater R) g h ≡ Some x
    join_of-is h x m most = by_case (join_of (greater R) g h) refl
      where
        holds : maybe (greater R) (Some x) (join_of (greater R) g h) ≡ join_of (greater R) g h
        holds = ap (λ a. maybe (greater R) a (join_of (greater R) g h)) (sym m.2) ∙ join_of-member (greater_semilattice o same) g h m.0 m.1

        first : (z : K) → is_lt (R x z) ≡ false → Some (if is_lt (R x z) then z else x) ≡ Some z → Some z ≡ Some x
        first z below is = sym is ∙ ap (λ t. Some (if t then z else x)) below

        by_case : (j : Option K) → join_of (greater R) g h ≡ j → join_of (greater R) g h ≡ Some x
        by_case None is = sym (ap (maybe (greater R) (Some x)) (sym is) ∙ holds)
        by_case (Some z) is =
            let of_z : HasMember g h z = join_of-among h z is in
            is ∙ first z (most of_z.0 z of_z.1 of_z.2) (ap (maybe (greater R) (Some x)) (sym is) ∙ holds ∙ is)
