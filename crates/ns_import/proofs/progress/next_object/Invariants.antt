use Rattle.std.proofs.Common.{◌≡◌, reverse, vec_len}
use Rattle.resolver.specs.Nears.{Knows}
use Rattle.ns_import.specs.DepthFirst.{behind_seen}
use Rattle.ns_import.specs.Imports.{same_entry}
use Rattle.ns_import.specs.Coming.{objects_of_names}
use Rattle.ns_import.proofs.progress.next_object.Given as goal

abbrev pub invariant-names : goal.invariant-names
invariant-names g l = record {
  same : behind_seen same_entry l.searched.keys (objects_of_names (g.R.EntryReader.tells l.reader) (reverse l.names.items))
      ≡ behind_seen same_entry l.searched.keys (objects_of_names (g.R.EntryReader.tells l.reader) (reverse l.initial.names.items));
  near : Knows (g.R.EntryReader.tells l.reader) l.near;
}

abbrev pub decreases-names : goal.decreases-names
decreases-names g l = vec_len l.names
