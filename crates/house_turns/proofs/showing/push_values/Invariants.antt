use Rattle.std.proofs.Common.{◌≡◌, ◌++◌, take}
use Rattle.std.specs.Prelude.{codes, map}
use Rattle.script_answers.specs.Texts.{lines_text}
use Rattle.house_turns.specs.PostTexts.{octets_line}
use Rattle.house_turns.proofs.showing.push_values.Given as goal

abbrev pub invariant-loop-value : goal.invariant-loop-value
invariant-loop-value l =
    l.text.items ≡ l.fn.text.items ++ lines_text l.number (map (octets_line (codes "value ")) (take l.value-index l.values))
