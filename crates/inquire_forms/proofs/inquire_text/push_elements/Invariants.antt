use Rattle.std.proofs.Common.{◌≡◌, ◌++◌, map, take}
use Rattle.inquire_forms.specs.InquireTexts.{element_line, lines_after}
use Rattle.inquire_forms.proofs.inquire_text.push_elements.Given as goal

abbrev pub invariant-loop-element : goal.invariant-loop-element
invariant-loop-element l = l.text.items ≡ l.fn.text.items ++ lines_after l.front (map element_line (take l.element-index l.elements))
