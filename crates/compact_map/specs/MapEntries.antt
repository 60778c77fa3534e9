-- A map as the list of its entries, in the order of their keys.
use Rattle.std.specs.Prelude.{◌≡◌, cond, List, length, Option, Some, IsSome}
use Rattle.std.specs.declared.cmp.Ordering.{Ordering}
use Rattle.std.specs.List.{AllZip}
use Rattle.std.specs.List.Sorted.{IsStrictlySortedBy}
use Rattle.std.specs.Map.{keys_of, lookup, set_value}
use Rattle.std.specs.BTreeMap.{is_at}

module _ {K X : Type 0} where
  -- the value at the key to which the query compares `Equal`
  abbrev pub get_by : (K → Ordering) → List (K × X) → Option X
  get_by compare es = lookup (is_at compare) es

  -- each key of fs is a clone of that of es by C, and each value by D
  abbrev pub IsClone : (K → K → Type 0) → (X → X → Type 0) → List (K × X) → List (K × X) → Type 0
  IsClone C D es fs = AllZip (λ p q. C p.0 q.0 × D p.1 q.1) es fs

  module _ (cmp : K → K → Ordering) where
    -- the keys ascend
    abbrev pub IsOrdered : List (K × X) → Type 0
    IsOrdered es = IsStrictlySortedBy cmp (keys_of es)

    -- the value at the key k
    abbrev pub get : List (K × X) → K → Option X
    get es k = get_by (cmp k) es

  module _ (cmp : K → K → Ordering) where
    -- fs has w at the key that the query finds (`None` takes it out), and has at each other key
    -- what es has
    abbrev pub UpdatesBy : (K → Ordering) → List (K × X) → List (K × X) → Option X → Type 0
    UpdatesBy compare es fs w = ((q : K) → get cmp fs q ≡ cond (is_at compare q) w (get cmp es q)) × (get_by compare fs ≡ w)

  module _ (cmp : K → K → Ordering) where
    -- the same, at the key k
    abbrev pub Updates : List (K × X) → List (K × X) → K → Option X → Type 0
    Updates es fs k w = UpdatesBy cmp (cmp k) es fs w

    -- fs is es after w is written through what `get_mut` lent for the query
    abbrev pub WritesThrough : (K → Ordering) → List (K × X) → X → List (K × X) → Type 0
    WritesThrough compare es w fs =
        (fs ≡ set_value (is_at compare) es w) × (keys_of fs ≡ keys_of es) × (length fs ≡ length es)
        × (IsSome (get_by compare es) → UpdatesBy cmp compare es fs (Some w)) × IsOrdered cmp fs
