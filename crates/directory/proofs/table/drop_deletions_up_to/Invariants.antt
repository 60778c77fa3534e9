use Rattle.std.proofs.Common.{◌≡◌}
use Rattle.std.specs.BTreeSet.{btree_set_len}
use Rattle.directory.specs.IndexWords.{IsKnown, IsIndexed}
use Rattle.directory.specs.Purges.{purged_table}
use Rattle.directory.proofs.table.drop_deletions_up_to.Given as goal

abbrev pub invariant-loop-first : goal.invariant-loop-first
invariant-loop-first l = IsIndexed l.fn.deletions l.fn.entries
    → IsKnown l.deletions l.entries × (purged_table l.fn.t l.entries ≡ purged_table l.fn.t l.fn.entries)

abbrev pub decreases-loop-first : goal.decreases-loop-first
decreases-loop-first l = btree_set_len l.deletions.known
