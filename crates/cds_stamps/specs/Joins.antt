-- Joins of finite maps and of entries with a key, built of the joins of what they hold.
use Rattle.std.specs.Prelude.{◌≡◌, IfSome, refl}
use Rattle.std.proofs.Common.{◌∙◌, arith}
use Rattle.std.specs.declared.cmp.Ordering.{Ordering}
use Rattle.std.specs.declared.cmp.Ordering.TheVariants.{Less, Equal, Greater}
use Rattle.std.specs.Cmp.{IsTotalOrder, tied_itself}
use Rattle.std.specs.FinMap.{FinMap, IsAntisymmetric, get, same_map}
use Rattle.cds_stamps.specs.Semilattice.{IsJoin, maybe, maybe_join}
use Rattle.cds_stamps.specs.Keyed.{merge, get-merge}

-- each value of a map is valid
abbrev pub EachValue : {K X : Type 0} {R : K → K → Ordering} → (X → Type 0) → FinMap R X → Type 0
EachValue {K} V m = (k : K) → IfSome (get m k) V

-- two maps, joined at each key
abbrev pub join_maps : {K X : Type 0} {R : K → K → Ordering} → (X → X → X) → FinMap R X → FinMap R X → FinMap R X
join_maps f = merge (maybe f)

module _ {K X : Type 0} {R : K → K → Ordering} (o : IsTotalOrder R) (same : IsAntisymmetric R) where
  -- what a join of maps has at a key
  pub get-join_maps : (f : X → X → X) (m n : FinMap R X) (q : K) → get (join_maps f m n) q ≡ maybe f (get m q) (get n q)
  get-join_maps f = get-merge o same (maybe f) refl

  -- maps of valid values join by the joins of their values
  pub map_join : {V : X → Type 0} {f : X → X → X} → IsJoin V f → IsJoin (EachValue {R = R} V) (join_maps f)
  map_join {V} {f} s =
      let p : IsJoin (λ x. IfSome x V) (maybe f) = maybe_join s in
      let at : (m n : FinMap R X) (q : K) → get (join_maps f m n) q ≡ maybe f (get m q) (get n q) = get-join_maps f in
      record {
        keeps = λ m n a b q. rw (at m n q) (p.keeps _ _ (a q) (b q));
        comm = λ m n. same_map o same (join_maps f m n) (join_maps f n m) (λ q. cc (at m n q, at n m q, p.comm (get m q) (get n q)));
        assoc = λ l m n. same_map o same (join_maps f (join_maps f l m) n) (join_maps f l (join_maps f m n)) (λ q.
            cc (at (join_maps f l m) n q, at l m q, at l (join_maps f m n) q, at m n q, p.assoc (get l q) (get m q) (get n q)));
        idem = λ m a. same_map o same (join_maps f m m) m (λ q. at m m q ∙ p.idem (get m q) (a q));
      }

-- the greater by a key wins whole, and those of one key are joined by f
abbrev pub by_key : {E K : Type 0} → (E → K) → (K → K → Ordering) → (E → E → E) → E → E → E
by_key key R f a b = elim (R (key a) (key b)) [ Less ↦ b | Equal ↦ f a b | Greater ↦ a ]

module _ {E K : Type 0} (key : E → K) {R : K → K → Ordering} (o : IsTotalOrder R) (same : IsAntisymmetric R) where
  -- a join of values of one key
  pub record JoinsTied (V : E → Type 0) (f : E → E → E) : Type 0 where
    pub keyed : (x y : E) → key x ≡ key y → key (f x y) ≡ key x
    pub keeps : (x y : E) → V x → V y → V (f x y)
    pub comm : (x y : E) → key x ≡ key y → f x y ≡ f y x
    pub assoc : (x y z : E) → key x ≡ key y → key y ≡ key z → f (f x y) z ≡ f x (f y z)
    pub idem : (x : E) → V x → f x x ≡ x

  by_key-comm : {V : E → Type 0} {f : E → E → E} → JoinsTied V f → (x y : E) → by_key key R f x y ≡ by_key key R f y x
  by_key-comm s x y = grind (arith, o.antisymm (key x) (key y), o.antisymm (key y) (key x), same (key x) (key y), s.comm x y)

  by_key-assoc : {V : E → Type 0} {f : E → E → E} → JoinsTied V f → (x y z : E) → by_key key R f (by_key key R f x y) z ≡ by_key key R f x (by_key key R f y z)
  by_key-assoc s x y z =
      grind (
        arith,
        o.trans (key x) (key y) (key z),
        o.trans (key z) (key y) (key x),
        o.antisymm (key x) (key y),
        o.antisymm (key y) (key z),
        o.antisymm (key x) (key z),
        same (key x) (key y),
        same (key y) (key z),
        s.keyed x y,
        s.keyed y z,
        s.assoc x y z,
      )

  -- entries with a key join by the joins of those that have the same
  pub key_join : {V : E → Type 0} {f : E → E → E} → JoinsTied V f → IsJoin V (by_key key R f)
  key_join {V} {f} s = record {
    keeps = λ x y p q. kept_by (R (key x) (key y)) x y p q;
    comm = λ x y. by_key-comm s x y;
    assoc = λ x y z. by_key-assoc s x y z;
    idem = λ x p. rw (tied_itself o (key x), by_key) (s.idem x p);
  }
    where
      kept_by : (r : Ordering) (x y : E) → V x → V y → V (elim r [ Less ↦ y | Equal ↦ f x y | Greater ↦ x ])
      kept_by Less x y p q = q
      kept_by Equal x y p q = s.keeps x y p q
      kept_by Greater x y p q = p
