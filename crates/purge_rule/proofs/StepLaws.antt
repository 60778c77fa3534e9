-- A table that is purged a deletion at a time.
use Rattle.std.proofs.Common.{◌≡◌, ℕ, ◌+◌, ◌≤◌, Bool, true, false, not, List, Option, Some, None, refl, sym, ap, subst, ◌∙◌, arith}
use Rattle.std.specs.Prelude.{IfSome, min, ◌-◌, ◌<◌}
use Rattle.std.specs.FinMap.{get, remove}
use Rattle.std.specs.Option.{option_and_then}
use Rattle.std.specs.declared.cmp.Ordering.{Ordering}
use Rattle.std.specs.declared.cmp.Ordering.TheVariants.{Less, Equal, Greater}
use Rattle.std.specs.Ordering.{is_lt, ordering_then}
use Rattle.std.specs.Cmp.{IsTotalOrder}
use Rattle.cds_stamps.specs.declared.stamp.Stamp.{Stamp}
use Rattle.cds_stamps.specs.Stamps.{stamp_cmp, stamp_total, is_up_to, is_earlier}
use Rattle.attr_sets.specs.declared.mark.ValueMark.{ValueMark}
use Rattle.attr_sets.specs.declared.cell.AttrCell.{AttrCell}
use Rattle.directory.specs.declared.deletions.Deletion.{Deletion}
use Rattle.directory.specs.declared.deletions.What.{What}
use Rattle.directory.specs.declared.deletions.What.TheVariants.{Death, Clear, Absent}
use Rattle.directory.specs.declared.entry.EntryCell.{EntryCell}
use Rattle.directory.specs.Deletions.{has_deletion, change_at, IsFirst, without, entry_without, cell_without}
use Rattle.directory.specs.Entries.{Entries, IsValidTable}
use Rattle.directory.specs.Held.{most_held}
use Rattle.directory.specs.Purges.{purged_table}
use Rattle.directory.proofs.DeletionLaws.{each_set, purged_without, purged_none}
use Rattle.purge_rule.specs.Latest.{CellUpTo, EntryUpTo, TableUpTo}
use Rattle.purge_rule.proofs.MergeLaws.{some_cell-up_to}

-- ---- times

module _ (n : ℕ) where
  cell_without-up_to : (w : What) (c : Option AttrCell) → IfSome c (CellUpTo n) → IfSome (option_and_then (cell_without w) c) (CellUpTo n)
  cell_without-up_to w None p = tt
  cell_without-up_to Death (Some c) p = p
  cell_without-up_to (Clear a) (Some c) p = some_cell-up_to n (record c { cleared = None }) (record { cleared = tt; values = p.values })
  cell_without-up_to (Absent a v) (Some c) p = some_cell-up_to n (record c { values = remove c.values v }) (record {
    cleared = p.cleared;
    values = each_set (λ (m : ValueMark). m.stamp.time ≤ n) c.values v None tt p.values;
  })

  attrs_without-up_to : (w : What) (a : List ℕ) (e : EntryCell) → EntryUpTo n e → EntryUpTo n (record e { attrs = change_at e.attrs a (cell_without w) })
  attrs_without-up_to w a e p = record {
    birth = p.birth;
    death = p.death;
    attrs = each_set (CellUpTo n) e.attrs a (option_and_then (cell_without w) (get e.attrs a)) (cell_without-up_to w (get e.attrs a) (p.attrs a)) p.attrs;
  }

  entry_without-up_to : (w : What) (e : Option EntryCell) → IfSome e (EntryUpTo n) → IfSome (option_and_then (entry_without w) e) (EntryUpTo n)
  entry_without-up_to w None p = tt
  entry_without-up_to Death (Some e) p = tt
  entry_without-up_to (Clear a) (Some e) p = attrs_without-up_to (Clear a) a e p
  entry_without-up_to (Absent a v) (Some e) p = attrs_without-up_to (Absent a v) a e p

  -- a table without one of its deletions has no later time
  pub without-up_to : (m : Entries) (d : Deletion) → TableUpTo n m → TableUpTo n (without m d)
  without-up_to m d p =
      each_set (EntryUpTo n) m d.name (option_and_then (entry_without d.what) (get m d.name)) (entry_without-up_to d.what (get m d.name) (p d.name)) p

-- ---- a purge

-- a table on the way from another: with the same deletions up to t dropped both are one
pub record IsOnTheWay (t : Stamp) (old now : Entries) : Type 0 where
  pub same : purged_table t now ≡ purged_table t old
  pub times : (n : ℕ) → TableUpTo n old → TableUpTo n now

pub sets_out : (t : Stamp) (m : Entries) → IsOnTheWay t m m
sets_out t m = record { same = refl; times = λ n p. p }

-- the first deletion is dropped, if it is stamped at most t
pub goes_on : (t s : Stamp) (old now next : Entries) → is_up_to t s ≡ true → ((d : Deletion) × ((d.stamp ≡ s) × IsFirst now d))
    → ((d : Deletion) → IsFirst now d → next ≡ without now d) → IsOnTheWay t old now → IsOnTheWay t old next
goes_on t s old now next up first drops way =
    let d = first.0 in
    let is : next ≡ without now d = drops d first.1.1 in
    let up_too : is_up_to t d.stamp ≡ true = ap (is_up_to t) first.1.0 ∙ up in
    record {
      same = ap (purged_table t) is ∙ purged_without now d t first.1.1.0 up_too ∙ way.same;
      times = λ n p. subst (TableUpTo n) (sym is) (without-up_to n now d (way.times n p));
    }

later_first : {K : Type 0} {R : K → K → Ordering} → IsTotalOrder R → (t s r : K) → is_lt (R t s) ≡ true → is_lt (R r s) ≡ false → is_lt (R t r) ≡ true
later_first o t s r late after = grind (arith, late, after, o.trans t s r, o.antisymm r s, o.antisymm s r, o.congr t s r)

not_less : (r : Ordering) (s : Ordering) → is_lt (ordering_then r s) ≡ false → is_lt r ≡ false
not_less Less s e = e
not_less Equal s e = refl
not_less Greater s e = refl

-- where the first deletion is later than t, all are, and none is left to be dropped
pub arrives_late : (t s : Stamp) (old now : Entries) → is_earlier t s ≡ true → ((d : Deletion) × ((d.stamp ≡ s) × IsFirst now d)) → IsOnTheWay t old now
    → IsValidTable now → now ≡ purged_table t old
arrives_late t s old now late first way v =
    sym (purged_none now t v (λ e has.
    let after : is_earlier e.stamp first.0.stamp ≡ false = not_less (stamp_cmp e.stamp first.0.stamp) _ (first.1.1.1 e has) in
    ap not (later_first stamp_total t first.0.stamp e.stamp (ap (is_earlier t) first.1.0 ∙ late) after))) ∙ way.same

-- and where there is no deletion
pub arrives : (t : Stamp) (old now : Entries) → ((d : Deletion) → has_deletion now d ≡ false) → IsOnTheWay t old now → IsValidTable now
    → now ≡ purged_table t old
arrives t old now none way v = sym (purged_none now t v (λ d has. absurd (apart (none d) has))) ∙ way.same
  where
    apart : {b : Bool} → b ≡ false → b ≡ true → ⊥
    apart p q = cc

-- ---- steps

-- so many steps, and what is held after them, are at most what was held before; and just that,
-- where it could be counted
pub record Spends (steps held : ℕ) (more left : ℕ) : Type 0 where
  pub most : more + left ≤ steps + held
  pub exact : held ≤ most_held → more + left ≡ steps + held

pub spends_none : (steps held : ℕ) → Spends steps held steps held
spends_none steps held = record { most = omega arith; exact = λ fits. refl }

-- what is dropped is counted
pub spends_more : (steps held more left next rest dropped : ℕ) → dropped ≡ min (left - rest) most_held → rest < left → next ≡ more + dropped
    → left ≤ held → Spends steps held more left → Spends steps held next rest
spends_more steps held more left next rest dropped counted fewer adds less spends = record {
  most = let a = spends.most in omega arith;
  exact = λ fits. let a = spends.exact fits in omega arith;
}
