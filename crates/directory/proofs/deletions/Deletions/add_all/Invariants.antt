use Rattle.std.proofs.Common.{◌≡◌, true, ◌⊎◌}
use Rattle.std.specs.List.{list_any}
use Rattle.std.specs.BTreeMap.{is_at}
use Rattle.directory.specs.declared.deletions.Deletion.{Deletion}
use Rattle.directory.specs.Deletions.{deletion_cmp}
use Rattle.directory.specs.IndexWords.{is_indexed, Keeps}
use Rattle.directory.proofs.deletions.Deletions.add_all.Given as goal

abbrev pub invariant-loop-deletion : goal.invariant-loop-deletion
invariant-loop-deletion l =
    Keeps l.fn.self l.self
    × ((d : Deletion) → is_indexed l.fn.other d ≡ true → (list_any (is_at (deletion_cmp d)) l.deletion-iterator ≡ true) ⊎ (is_indexed l.self d ≡ true))
    × (l.self.most ≡ l.fn.self.most)
