-- Times that are no later than n: in what is joined, and in the table of marks.
use Rattle.std.proofs.Common.{ℕ, ◌≤◌, Bool, true, false, List, [], ◌∷◌, Option, Some, None, sym, subst, ◌↔◌, arith}
use Rattle.std.specs.Prelude.{IfSome, if◌then◌else◌}
use Rattle.std.specs.declared.cmp.Ordering.{Ordering}
use Rattle.std.specs.declared.cmp.Ordering.TheVariants.{Less, Equal, Greater}
use Rattle.std.specs.Ordering.{is_lt, flip_args}
use Rattle.std.specs.Cmp.Lexicographic.{nat_list_cmp_total}
use Rattle.std.specs.FinMap.{FinMap, get, empty, get-empty}
use Rattle.std.specs.List.{AllByRecursion, cons_option}
use Rattle.std.specs.Option.{option_map}
use Rattle.cds_stamps.specs.declared.stamp.Stamp.{Stamp}
use Rattle.cds_stamps.specs.Semilattice.{maybe, greater, join_of}
use Rattle.cds_stamps.specs.Stamps.{stamp_cmp, later_stamp, earlier_stamp, is_earlier}
use Rattle.cds_stamps.specs.Octets.{octets_cmp, octets_exact, is_octets}
use Rattle.cds_stamps.specs.Joins.{EachValue, join_maps, get-join_maps}
use Rattle.cds_stamps.specs.Undos.{RaisesAt}
use Rattle.attr_sets.specs.declared.mark.ValueMark.{ValueMark}
use Rattle.attr_sets.specs.declared.cell.AttrCell.{AttrCell}
use Rattle.attr_sets.specs.Marks.{mark_cmp, later, mark_after_clear}
use Rattle.attr_sets.specs.AttributeCells.{AttrMark, Cleared, Marked, attr_stamp, clear_in, mark_in, cell_of, greatest_clear, greatest_mark, join_cells}
use Rattle.attr_sets.specs.CellLawProofs.{get-cell_of, get-join_cells}
use Rattle.directory.specs.declared.entry.EntryCell.{EntryCell}
use Rattle.directory.specs.Entries.{Entries, join_tied, join_entries, join_tables}
use Rattle.directory.specs.Histories.{Mark, Birth, Death, Attr, Born, birth_in, death_in, attr_mark_in, birth_cmp}
use Rattle.directory.specs.Histories.{birth_of, attr_history, cell_of_some, entry_at, entry_of, table_of}
use Rattle.directory.proofs.HistoryLaws.{get-table_of, get-attrs_of}
use Rattle.purge_rule.specs.declared.delta.Delta.{Delta}
use Rattle.purge_rule.specs.declared.replica.Replica.{Replica}
use Rattle.purge_rule.specs.Replicas.{together}
use Rattle.purge_rule.specs.Latest.{StampUpTo, CellUpTo, EntryUpTo, TableUpTo, ReplicaUpTo, DeltaUpTo, MarkUpTo}
use Rattle.purge_rule.specs.Latest.{time_of, latest_in_cell, latest_in_entry, latest_in, latest_time, latest_in_delta}
use Rattle.purge_rule.proofs.MapValues.{greatest_value-≤}

-- ---- the greatest time is at most n exactly where no time is later than n

time_of-≤ : (n : ℕ) (s : Option Stamp) → (time_of s ≤ n) ↔ StampUpTo n s
time_of-≤ n None = (λ h. tt, λ h. omega arith)
time_of-≤ n (Some s) = (λ h. h, λ h. h)

pub latest_in_cell-≤ : (n : ℕ) (c : AttrCell) → (latest_in_cell c ≤ n) ↔ CellUpTo n c
latest_in_cell-≤ n c =
    let clear = time_of-≤ n c.cleared in
    let time : ValueMark → ℕ = λ m. m.stamp.time in
    let marks = greatest_value-≤ nat_list_cmp_total octets_exact time n (λ m. time m ≤ n) (λ m. (λ h. h, λ h. h)) c.values in (
      λ h. record { cleared = clear.0 (omega (arith, h)); values = marks.0 (omega (arith, h)) },
      λ h. let a = clear.1 h.cleared in let b = marks.1 h.values in omega (arith, a, b),
    )

-- the greatest time of an entry is at most n exactly where no time of it is later
pub latest_in_entry-≤ : (n : ℕ) (e : EntryCell) → (latest_in_entry e ≤ n) ↔ EntryUpTo n e
latest_in_entry-≤ n e =
    let death = time_of-≤ n e.death in
    let cells = greatest_value-≤ nat_list_cmp_total octets_exact latest_in_cell n (CellUpTo n) (latest_in_cell-≤ n) e.attrs in (
      λ h. record { birth = omega (arith, h); death = death.0 (omega (arith, h)); attrs = cells.0 (omega (arith, h)) },
      λ h. let a = h.birth in let b = death.1 h.death in let c = cells.1 h.attrs in omega (arith, a, b, c),
    )

-- the greatest time of a table is at most n exactly where no time of it is later
pub latest_in-≤ : (n : ℕ) (t : Entries) → (latest_in t ≤ n) ↔ TableUpTo n t
latest_in-≤ n t = greatest_value-≤ nat_list_cmp_total octets_exact latest_in_entry n (EntryUpTo n) (latest_in_entry-≤ n) t

-- the greatest time of a replica is at most n exactly where no time of its table, nor that of its
-- AllUpTo, is later
pub latest_time-≤ : (n : ℕ) (r : Replica) → (latest_time r ≤ n) ↔ ReplicaUpTo n r
latest_time-≤ n r =
    let table = latest_in-≤ n r.table in
    let stamp = time_of-≤ n r.all_up_to in (
      λ h. record { table = table.0 (omega (arith, h)); all_up_to = stamp.0 (omega (arith, h)) },
      λ h. let a = table.1 h.table in let b = stamp.1 h.all_up_to in omega (arith, a, b),
    )

-- so it is with a delta
pub latest_in_delta-≤ : (n : ℕ) (d : Delta) → (latest_in_delta d ≤ n) ↔ DeltaUpTo n d
latest_in_delta-≤ n d =
    let table = latest_in-≤ n d.table in
    let stamp = time_of-≤ n d.above in (
      λ h. record { table = table.0 (omega (arith, h)); above = stamp.0 (omega (arith, h)) },
      λ h. let a = table.1 h.table in let b = stamp.1 h.above in omega (arith, a, b),
    )

-- ---- joins bring no later time

module _ {X : Type 0} (P : X → Type 0) where
  -- what holds of both holds of the greater
  greater-holds : (R : X → X → Ordering) (x y : X) → P x → P y → P (greater R x y)
  greater-holds R x y p q = by_case (is_lt (R x y))
    where
      by_case : (b : Bool) → P (if b then y else x)
      by_case true = q
      by_case false = p

  -- and of the join, where either may be missing
  pub maybe-holds : (f : X → X → X) → ((x y : X) → P x → P y → P (f x y)) → (x y : Option X) → IfSome x P → IfSome y P → IfSome (maybe f x y) P
  maybe-holds f keeps None y p q = q
  maybe-holds f keeps (Some x) None p q = p
  maybe-holds f keeps (Some x) (Some y) p q = keeps x y p q

  maps-hold : (f : X → X → X) → ((x y : X) → P x → P y → P (f x y)) → (m n : FinMap octets_cmp X) → EachValue P m → EachValue P n
      → EachValue P (join_maps f m n)
  maps-hold f keeps m n p q k =
      subst (λ x. IfSome x P) (sym (get-join_maps nat_list_cmp_total octets_exact f m n k)) (maybe-holds f keeps (get m k) (get n k) (p k) (q k))

  -- what holds of all that is joined holds of the join
  join_of-holds : {A : Type 0} (f : X → X → X) → ((x y : X) → P x → P y → P (f x y)) → (g : A → Option X) (xs : List A)
      → AllByRecursion (λ x. IfSome (g x) P) xs → IfSome (join_of f g xs) P
  join_of-holds f keeps g [] h = tt
  join_of-holds f keeps g (x ∷ xs) h = maybe-holds f keeps (g x) (join_of f g xs) h.0 (join_of-holds f keeps g xs h.1)

-- a clear brings no later mark
kept-up_to : (n : ℕ) (c : Option Stamp) (m : Option ValueMark) → IfSome m (λ x. x.stamp.time ≤ n) → IfSome (mark_after_clear c m) (λ x. x.stamp.time ≤ n)
kept-up_to n c None h = tt
kept-up_to n None (Some m) h = h
kept-up_to n (Some c) (Some m) h = by_case (is_earlier m.stamp c)
  where
    by_case : (b : Bool) → IfSome (if b then None else Some m) (λ (x : ValueMark). x.stamp.time ≤ n)
    by_case true = tt
    by_case false = h

module _ (n : ℕ) where
  abbrev IsUpTo : Stamp → Type 0
  IsUpTo s = s.time ≤ n

  abbrev IsMarkUpTo : ValueMark → Type 0
  IsMarkUpTo m = m.stamp.time ≤ n

  -- the later of two stamps that may be missing
  pub together-up_to : (a b : Option Stamp) → StampUpTo n a → StampUpTo n b → StampUpTo n (together a b)
  together-up_to = maybe-holds IsUpTo later_stamp (greater-holds IsUpTo stamp_cmp)

  pub join_cells-up_to : (a b : AttrCell) → CellUpTo n a → CellUpTo n b → CellUpTo n (join_cells a b)
  join_cells-up_to a b p q = record {
    cleared = together-up_to a.cleared b.cleared p.cleared q.cleared;
    values =
        λ v. subst (λ x. IfSome x IsMarkUpTo) (sym (get-join_cells a b v)) (kept-up_to n (join_cells a b).cleared
        (maybe later (get a.values v) (get b.values v))
        (maybe-holds IsMarkUpTo later (greater-holds IsMarkUpTo mark_cmp) (get a.values v) (get b.values v) (p.values v) (q.values v)));
  }

  join_tied-up_to : (a b : EntryCell) → EntryUpTo n a → EntryUpTo n b → EntryUpTo n (join_tied a b)
  join_tied-up_to a b p q = record {
    birth = p.birth;
    death = maybe-holds IsUpTo earlier_stamp (greater-holds IsUpTo (flip_args stamp_cmp)) a.death b.death p.death q.death;
    attrs = maps-hold (CellUpTo n) join_cells join_cells-up_to a.attrs b.attrs p.attrs q.attrs;
  }

  -- no time of two entries that are joined is later than n where none of theirs is
  pub join_entries-up_to : (a b : EntryCell) → EntryUpTo n a → EntryUpTo n b → EntryUpTo n (join_entries a b)
  join_entries-up_to a b p q = by_case (stamp_cmp a.birth b.birth)
    where
      by_case : (r : Ordering) → EntryUpTo n (elim r [ Less ↦ b | Equal ↦ join_tied a b | Greater ↦ a ])
      by_case Less = q
      by_case Equal = join_tied-up_to a b p q
      by_case Greater = p

  -- so it is for tables
  pub join_tables-up_to : (a b : Entries) → TableUpTo n a → TableUpTo n b → TableUpTo n (join_tables a b)
  join_tables-up_to = maps-hold (EntryUpTo n) join_entries join_entries-up_to

  -- and for a table into which an entry is joined at a name
  pub raised-up_to : (old new : Entries) (name : List ℕ) (e : EntryCell) → TableUpTo n old → EntryUpTo n e → RaisesAt join_entries old new name e
      → TableUpTo n new
  raised-up_to old new name e p q raises k =
      subst (λ x. IfSome x (EntryUpTo n)) (sym (raises k)) (maybe-holds (EntryUpTo n) join_entries join_entries-up_to (get old k) _ (p k) (by_case
      (is_octets k name)))
    where
      by_case : (b : Bool) → IfSome (if b then Some e else None) (EntryUpTo n)
      by_case true = q
      by_case false = tt

  -- no time is in the empty table
  pub empty-up_to : TableUpTo n empty
  empty-up_to k = subst (λ x. IfSome x (EntryUpTo n)) (sym (get-empty octets_cmp k)) tt

  -- ---- the table of marks

  abbrev IsAttrUpTo : AttrMark → Type 0
  IsAttrUpTo x = (attr_stamp x).time ≤ n

  -- the cell of marks of an attribute
  clears-up_to : (xs : List AttrMark) → AllByRecursion IsAttrUpTo xs → AllByRecursion (λ x. IfSome (clear_in x) IsUpTo) xs
  clears-up_to [] h = tt
  clears-up_to (Cleared s ∷ xs) h = (h.0, clears-up_to xs h.1)
  clears-up_to (Marked v m ∷ xs) h = (tt, clears-up_to xs h.1)

  marks-up_to : (v : List ℕ) (xs : List AttrMark) → AllByRecursion IsAttrUpTo xs → AllByRecursion (λ x. IfSome (mark_in v x) IsMarkUpTo) xs
  marks-up_to v [] h = tt
  marks-up_to v (Cleared s ∷ xs) h = (tt, marks-up_to v xs h.1)
  marks-up_to v (Marked w m ∷ xs) h = (by_case (is_octets v w), marks-up_to v xs h.1)
    where
      by_case : (b : Bool) → IfSome (if b then Some m else None) IsMarkUpTo
      by_case true = h.0
      by_case false = tt

  cell_of-up_to : (xs : List AttrMark) → AllByRecursion IsAttrUpTo xs → CellUpTo n (cell_of xs)
  cell_of-up_to xs h = record {
    cleared = join_of-holds IsUpTo later_stamp (greater-holds IsUpTo stamp_cmp) clear_in xs (clears-up_to xs h);
    values =
        λ v. subst (λ x. IfSome x IsMarkUpTo) (sym (get-cell_of xs v)) (kept-up_to n (greatest_clear xs) (greatest_mark xs v)
        (join_of-holds IsMarkUpTo later (greater-holds IsMarkUpTo mark_cmp) (mark_in v) xs (marks-up_to v xs h)));
  }

  cell_of_some-up_to : (xs : List AttrMark) → AllByRecursion IsAttrUpTo xs → IfSome (cell_of_some xs) (CellUpTo n)
  cell_of_some-up_to [] h = tt
  cell_of_some-up_to (x ∷ xs) h = cell_of-up_to (x ∷ xs) h

  -- what a mark says of births, deaths and attributes
  births-up_to : (name : List ℕ) (h : List Mark) → AllByRecursion (MarkUpTo n) h → AllByRecursion (λ m. IfSome (birth_in name m) (λ b. IsUpTo b.at)) h
  births-up_to name [] all = tt
  births-up_to name (Birth q k c ∷ h) all = (by_case (is_octets name q), births-up_to name h all.1)
    where
      by_case : (b : Bool) → IfSome (if b then Some (record { at = c; kind = k }) else None) (λ (b : Born). IsUpTo b.at)
      by_case true = all.0.1
      by_case false = tt
  births-up_to name (Death q c s ∷ h) all = (tt, births-up_to name h all.1)
  births-up_to name (Attr q c a x ∷ h) all = (tt, births-up_to name h all.1)

  if_up_to : {X : Type 0} (P : X → Type 0) (b : Bool) (x : X) → P x → IfSome (if b then Some x else None) P
  if_up_to P true x p = p
  if_up_to P false x p = tt

  deaths-up_to : (name : List ℕ) (c : Stamp) (h : List Mark) → AllByRecursion (MarkUpTo n) h → AllByRecursion (λ m. IfSome (death_in name c m) IsUpTo) h
  deaths-up_to name c [] all = tt
  deaths-up_to name c (Birth q k d ∷ h) all = (tt, deaths-up_to name c h all.1)
  deaths-up_to name c (Death q d s ∷ h) all = (if_up_to IsUpTo _ s all.0.0, deaths-up_to name c h all.1)
  deaths-up_to name c (Attr q d a x ∷ h) all = (tt, deaths-up_to name c h all.1)

  attrs-up_to : (name : List ℕ) (c : Stamp) (a : List ℕ) (h : List Mark) → AllByRecursion (MarkUpTo n) h
      → AllByRecursion IsAttrUpTo (attr_history h name c a)
  attrs-up_to name c a [] all = tt
  attrs-up_to name c a (Birth q k d ∷ h) all = attrs-up_to name c a h all.1
  attrs-up_to name c a (Death q d s ∷ h) all = attrs-up_to name c a h all.1
  attrs-up_to name c a (Attr q d b x ∷ h) all =
      one (attr_mark_in name c a (Attr q d b x)) (if_up_to IsAttrUpTo _ x all.0.0) (attrs-up_to name c a h all.1)
    where
      one : (y : Option AttrMark) → IfSome y IsAttrUpTo → AllByRecursion IsAttrUpTo (attr_history h name c a)
          → AllByRecursion IsAttrUpTo (cons_option y (attr_history h name c a))
      one None p rest = rest
      one (Some y) p rest = (p, rest)

  -- no time of the entry of marks is later than n where none of theirs is
  pub entry_of-up_to : (h : List Mark) (name : List ℕ) → AllByRecursion (MarkUpTo n) h → IfSome (entry_of h name) (EntryUpTo n)
  entry_of-up_to h name all =
      by_birth (birth_of h name) (join_of-holds (λ (b : Born). IsUpTo b.at) (greater birth_cmp) (greater-holds (λ (b : Born). IsUpTo b.at) birth_cmp) (birth_in
      name) h (births-up_to name h all))
    where
      by_birth : (b : Option Born) → IfSome b (λ b. IsUpTo b.at) → IfSome (option_map (entry_at h name) b) (EntryUpTo n)
      by_birth None p = tt
      by_birth (Some b) p = record {
        birth = p;
        death = join_of-holds IsUpTo earlier_stamp (greater-holds IsUpTo (flip_args stamp_cmp)) (death_in name b.at) h (deaths-up_to name b.at h all);
        attrs =
            λ a. subst (λ x. IfSome x (CellUpTo n)) (sym (get-attrs_of h name b.at a)) (cell_of_some-up_to (attr_history h name b.at a) (attrs-up_to name
            b.at a h all));
      }

  -- so it is for their table
  pub table_of-up_to : (h : List Mark) → AllByRecursion (MarkUpTo n) h → TableUpTo n (table_of h)
  table_of-up_to h all k = subst (λ x. IfSome x (EntryUpTo n)) (sym (get-table_of h k)) (entry_of-up_to h k all)
