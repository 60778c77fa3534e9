use Rattle.std.proofs.Common.{◌≡◌}
use Rattle.resolver.specs.Nears.{Knows}
use Rattle.ns_import.specs.Imports.{same_entry}
use Rattle.ns_import.specs.Coming.{bindings_to_come}
use Rattle.ns_import.proofs.Steps.{unseen}
use Rattle.ns_import.proofs.progress.Progress.advance.Given as goal

abbrev pub invariant-entries : goal.invariant-entries
invariant-entries g l = record {
  same : bindings_to_come (g.R.EntryReader.tells l.reader) (g.R.EntryReader.objects l.reader) l.client l.self
      ≡ bindings_to_come (g.R.EntryReader.tells l.reader) (g.R.EntryReader.objects l.reader) l.client l.initial.self;
  near : Knows (g.R.EntryReader.tells l.reader) l.self.near;
}

abbrev pub decreases-entries : goal.decreases-entries
decreases-entries g l = unseen same_entry (g.R.EntryReader.objects l.reader) l.self.searched.keys
