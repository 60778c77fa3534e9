use Rattle.std.proofs.Common.{◌≡◌, ◌++◌, take}
use Rattle.house_turns.specs.RunningSkulks.{AllFit, running_lines}
use Rattle.house_turns.proofs.running.push_skulks.Given as goal

abbrev pub invariant-loop-skulk : goal.invariant-loop-skulk
invariant-loop-skulk l = (l.text.items ≡ l.fn.text.items ++ running_lines (take l.skulk-index l.skulks)) × AllFit (take l.skulk-index l.skulks)
