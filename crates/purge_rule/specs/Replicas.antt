-- Replicas of histories (own, after C705, replicas and AllUpTo).
use Rattle.std.specs.Prelude.{◌≡◌, List, Option, Some, None, Result, IfSome, OnOk, OnErr}
use Rattle.std.specs.List.{AllByRecursion}
use Rattle.cds_stamps.specs.declared.stamp.Stamp.{Stamp}
use Rattle.cds_stamps.specs.Joins.{EachValue}
use Rattle.cds_stamps.specs.Semilattice.{maybe}
use Rattle.cds_stamps.specs.Stamps.{later_stamp}
use Rattle.directory.specs.declared.entry.EntryCell.{EntryCell}
use Rattle.directory.specs.declared.entry.Fragment.{Fragment}
use Rattle.directory.specs.Entries.{Entries, join_entries, join_tables, IsValidTable}
use Rattle.directory.specs.Histories.{Mark, name_in, entry_of}
use Rattle.directory.specs.Purges.{purged_table, purged_entries, take_entry, take_table, delta_table, IsAboveEntry}
use Rattle.purge_rule.specs.declared.delta.Delta.{Delta}
use Rattle.purge_rule.specs.declared.replica.Replica.{Replica}

-- the replica of a history up to an AllUpTo: the table of the history, without the deletions
-- stamped at most that (own)
abbrev pub replica_of : List Mark → Option Stamp → Replica
replica_of h t = record { table = purged_entries h t; all_up_to = t }

-- what a replica has that is later than its AllUpTo (own, after C705, skulks and AllUpTo)
abbrev pub delta_in : Replica → Delta
delta_in r = record { table = delta_table r.all_up_to r.table; above = r.all_up_to }

-- the delta of a history above an AllUpTo (own, after C705, skulks and AllUpTo)
abbrev pub delta_of : List Mark → Option Stamp → Delta
delta_of h t = delta_in (replica_of h t)

-- the table of a delta is valid, and each death, clear and mark of it is later than `above`
pub record IsDelta (d : Delta) : Type 0 where
  pub valid : IsValidTable d.table
  pub above : EachValue (IsAboveEntry d.above) d.table

-- the later of two stamps of which either may be missing (own)
abbrev pub together : Option Stamp → Option Stamp → Option Stamp
together = maybe later_stamp

-- the replica of a history becomes its replica up to t, unless its AllUpTo is later (own)
abbrev pub RaisesAllUpTo : Replica → Replica → Stamp → Type 0
RaisesAllUpTo old new t =
    (h : List Mark) → old ≡ replica_of h old.all_up_to → new ≡ replica_of h (together old.all_up_to (Some t))

-- the deletions of a table are dropped up to the new AllUpTo, if there is one (own)
abbrev pub DropsDeletions : Replica → Replica → Type 0
DropsDeletions old new = IfSome new.all_up_to (λ u. new.table ≡ purged_table u old.table)

-- two tables, merged up to an AllUpTo: of the other what is later is taken, and deletions up to it
-- are dropped (own, after C705, skulks and AllUpTo)
abbrev pub merged_table : Option Stamp → Entries → Entries → Entries
merged_table None own other = join_tables own other
merged_table (Some t) own other = purged_table t (take_table t own other)

-- a valid table is merged in, up to an AllUpTo; or there is no memory, and nothing is merged (own)
pub record MergesTable {E : Type 0} (t : Option Stamp) (old new other : Entries)
    (r : Result (Unit {0}) E) : Type 0 where
  pub ok : OnOk r (IsValidTable old → IsValidTable other → new ≡ merged_table t old other)
  pub err : OnErr r (new ≡ old)

-- an entry with what is taken up to an AllUpTo of another of its name (own)
abbrev pub merged_entry : Option Stamp → Option EntryCell → Option EntryCell → Option EntryCell
merged_entry None = maybe join_entries
merged_entry (Some t) = take_entry t

-- the fragment has the entry of these marks, which are all of its name (own)
pub record IsFragmentOf (marks : List Mark) (f : Fragment) : Type 0 where
  pub named : AllByRecursion (λ m. name_in m ≡ f.name) marks
  pub entry : entry_of marks f.name ≡ Some f.entry
