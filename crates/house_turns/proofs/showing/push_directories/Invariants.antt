use Rattle.std.specs.FinMap.{entries}
use Rattle.house_turns.proofs.Shows.{DirectoriesLeft}
use Rattle.house_turns.proofs.showing.push_directories.Given as goal

abbrev pub invariant-loop-dir : goal.invariant-loop-dir
invariant-loop-dir l = DirectoriesLeft l.number (entries l.states) l.dir-iterator l.fn.text.items l.text.items
