use Rattle.std.proofs.Common.{◌≡◌, ◌++◌, map, take}
use Rattle.std.specs.List.{flat_map}
use Rattle.clerk_lines.specs.ClerkTexts.{say_text}
use Rattle.clerk_turns.specs.Says.{unreached_line}
use Rattle.clerk_turns.proofs.says.push_each_unreached.Given as goal

abbrev pub invariant-loop-dir : goal.invariant-loop-dir
invariant-loop-dir l =
    l.text.items ≡ l.fn.text.items ++ flat_map (say_text l.command) (map unreached_line (take l.dir-index l.dirs))
