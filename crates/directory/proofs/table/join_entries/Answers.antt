use Rattle.std.proofs.Common.{sym, subst, ◌∙◌}
use Rattle.directory.specs.Entries.{IsValidTable}
use Rattle.directory.specs.IndexWords.{KnowsAll}
use Rattle.directory.proofs.LaterLaws.{when_ok, stays_known, joins_known}
use Rattle.directory.proofs.table.join_entries.Goals as goal
use Rattle.directory.proofs.table.join_entries.Goals.{then-is_ok, else-is_ok}

pub returns-clause-index : goal.returns-clause-index
returns-clause-index c = λ indexed.
    let other = c.args.other.now in
    let keeps = c.add_deletions-joined.ensures.keeps in
    let known : IsValidTable c.if-is_ok.entries × KnowsAll c.add_deletions-joined.new.deletions c.if-is_ok.entries =
    elim c.if-is_ok.branch [
      | then-is_ok w ↦ subst (λ m. IsValidTable m × KnowsAll c.add_deletions-joined.new.deletions m) (sym w.entries-is)
          (joins_known c.args.deletions.now c.add_deletions-joined.new.deletions c.args.entries.now other indexed keeps
          w.join-joined.result w.join-joined.new.self c.requires
          (when_ok c.add_deletions-joined.result (sym c.is_ok.ensures.value ∙ w.if-is_ok.true) c.add_deletions-joined.ensures.ok)
          w.join-joined.ensures.ok w.join-joined.ensures.err)
      | else-is_ok w ↦ stays_known c.args.deletions.now c.add_deletions-joined.new.deletions c.args.entries.now other indexed keeps
          c.if-is_ok.entries w.entries-is
    ] in
    record { valid = known.0; all = c.settle.ensures.all known.1; first = c.settle.ensures.first; within = c.settle.ensures.settled.within }
