use Rattle.std.proofs.Common.{◌≡◌, List, ℕ}
use Rattle.std.specs.FinMap as map
use Rattle.cds_stamps.specs.Octets.{octets_cmp}
use Rattle.directory.specs.Entries.{join_entries}
use Rattle.cds_stamps.specs.Semilattice.{maybe, join_of}
use Rattle.cds_stamps.specs.Undos.{LogsChange}
use Rattle.directory.specs.EntryUndoWords.{undo_entry}
use Rattle.std.specs.List.{AllByRecursion}
use Rattle.directory.specs.Entries.{IsValidEntry}
use Rattle.cds_stamps.specs.Joins.{EachValue}
use Rattle.cds_stamps.proofs.TreeViews.{entry_at}
use Rattle.directory.proofs.entry_map.EntryMap.raise_all.Given as goal

abbrev pub invariant-loop-name : goal.invariant-loop-name
invariant-loop-name l =
    (EachValue IsValidEntry l.fn.self → EachValue IsValidEntry l.fn.other
    → EachValue IsValidEntry l.self × AllByRecursion (λ e. IsValidEntry e.1) l.name-iterator
    × ((q : List ℕ) → maybe join_entries (map.get l.self q) (join_of join_entries
    (entry_at octets_cmp q) l.name-iterator) ≡ maybe join_entries (map.get l.fn.self q) (map.get l.fn.other q)))
    × LogsChange undo_entry l.fn.self l.self l.fn.log.items l.log.items
