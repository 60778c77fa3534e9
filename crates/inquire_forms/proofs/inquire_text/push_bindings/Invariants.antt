use Rattle.std.proofs.Common.{◌≡◌, ◌++◌, map, take}
use Rattle.script_answers.specs.Texts.{binding_line}
use Rattle.inquire_forms.specs.InquireTexts.{lines_after}
use Rattle.inquire_forms.proofs.inquire_text.push_bindings.Given as goal

abbrev pub invariant-loop-binding : goal.invariant-loop-binding
invariant-loop-binding l = l.text.items ≡ l.fn.text.items ++ lines_after l.front (map binding_line (take l.binding-index l.bindings))
