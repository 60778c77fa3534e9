-- The times in a replica: no later than n, and the greatest of them.
use Rattle.std.specs.Prelude.{ℕ, ◌≤◌, max, List, [], ◌∷◌, Option, Some, None, IfSome}
use Rattle.std.specs.FinMap.{entries}
use Rattle.cds_stamps.specs.declared.stamp.Stamp.{Stamp}
use Rattle.cds_stamps.specs.Joins.{EachValue}
use Rattle.attr_sets.specs.declared.cell.AttrCell.{AttrCell}
use Rattle.directory.specs.declared.entry.EntryCell.{EntryCell}
use Rattle.directory.specs.Entries.{Entries}
use Rattle.directory.specs.Histories.{Mark, stamp_in, born_in}
use Rattle.purge_rule.specs.declared.delta.Delta.{Delta}
use Rattle.purge_rule.specs.declared.replica.Replica.{Replica}

-- the time of a stamp is not later than n, if there is a stamp
abbrev pub StampUpTo : ℕ → Option Stamp → Type 0
StampUpTo n s = IfSome s (λ x. x.time ≤ n)

-- no time of an attribute is later than n: neither its clear's nor that of a mark of a value
pub record CellUpTo (n : ℕ) (c : AttrCell) : Type 0 where
  pub cleared : StampUpTo n c.cleared
  pub values : EachValue (λ m. m.stamp.time ≤ n) c.values

-- no time of an entry is later than n: neither its birth's, nor its death's, nor one of its
-- attributes
pub record EntryUpTo (n : ℕ) (e : EntryCell) : Type 0 where
  pub birth : e.birth.time ≤ n
  pub death : StampUpTo n e.death
  pub attrs : EachValue (CellUpTo n) e.attrs

-- no time of an entry of a table is later than n
abbrev pub TableUpTo : ℕ → Entries → Type 0
TableUpTo n = EachValue (EntryUpTo n)

-- no time of a replica is later than n: neither one of its table nor that of its AllUpTo
pub record ReplicaUpTo (n : ℕ) (r : Replica) : Type 0 where
  pub table : TableUpTo n r.table
  pub all_up_to : StampUpTo n r.all_up_to

-- no time of a delta is later than n: neither one of its table nor that of `above`
pub record DeltaUpTo (n : ℕ) (d : Delta) : Type 0 where
  pub table : TableUpTo n d.table
  pub above : StampUpTo n d.above

-- neither the time of a mark nor that of its entry's birth is later than n
abbrev pub MarkUpTo : ℕ → Mark → Type 0
MarkUpTo n m = ((stamp_in m).time ≤ n) × ((born_in m).time ≤ n)

-- the greatest of what f has of each item of a list; 0 of none
abbrev pub greatest_of : {A : Type 0} → (A → ℕ) → List A → ℕ
greatest_of f [] = 0
greatest_of f (x ∷ xs) = max (f x) (greatest_of f xs)

-- the time of a stamp; 0 where there is none
abbrev pub time_of : Option Stamp → ℕ
time_of None = 0
time_of (Some s) = s.time

-- the greatest time of an attribute: of its clear and of the marks of its values
abbrev pub latest_in_cell : AttrCell → ℕ
latest_in_cell c = max (time_of c.cleared) (greatest_of (λ v. v.1.stamp.time) (entries c.values))

-- the greatest time of an entry: of its birth, its death and its attributes
abbrev pub latest_in_entry : EntryCell → ℕ
latest_in_entry e = max (max e.birth.time (time_of e.death)) (greatest_of (λ a. latest_in_cell a.1) (entries e.attrs))

-- the greatest time of the entries of a table
abbrev pub latest_in : Entries → ℕ
latest_in t = greatest_of (λ e. latest_in_entry e.1) (entries t)

-- the greatest time of a replica: of its table and of its AllUpTo
abbrev pub latest_time : Replica → ℕ
latest_time r = max (latest_in r.table) (time_of r.all_up_to)

-- the greatest time of a delta: of its table and of `above`
abbrev pub latest_in_delta : Delta → ℕ
latest_in_delta d = max (latest_in d.table) (time_of d.above)
