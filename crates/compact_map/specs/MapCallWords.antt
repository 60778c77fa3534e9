-- Words of private contracts: what calls do to a map with few entries.
use Rattle.std.specs.Prelude.{◌≡◌, List, Option, Some, None, Result, IfOk, OnOk, OnErr}
use Rattle.std.specs.declared.cmp.Ordering.{Ordering}
use Rattle.std.specs.Map.{remove_entry}
use Rattle.std.specs.BTreeMap.{is_at, insert_entry}
use Rattle.compact_map.specs.MapEntries.{get, IsOrdered, Updates}

-- the key k gets the value w, and what it had is answered; or there is no memory, k is new, and the
-- entries are as they were
pub record Inserts {K X E : Type 0} (cmp : K → K → Ordering) (es fs : List (K × X))
    (k : K) (w : X) (r : Result (Option X) E) : Type 0 where
  pub old : IfOk r (λ old. old ≡ get cmp es k)
  pub updates : OnOk r (Updates cmp es fs k (Some w))
  pub entries : OnOk r (fs ≡ insert_entry cmp es k w)
  pub absent : OnErr r (get cmp es k ≡ None)
  pub err : OnErr r (fs ≡ es)
  pub ordered : IsOrdered cmp fs
  pub was_ordered : IsOrdered cmp es

-- the key k has no value any more, and what it had is answered
pub record Removes {K X : Type 0} (cmp : K → K → Ordering) (es fs : List (K × X))
    (k : K) (had : Option X) : Type 0 where
  pub value : had ≡ get cmp es k
  pub updates : Updates cmp es fs k None
  pub entries : fs ≡ remove_entry (is_at (cmp k)) es
  pub ordered : IsOrdered cmp fs
