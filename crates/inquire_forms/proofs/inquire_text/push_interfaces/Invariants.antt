use Rattle.std.proofs.Common.{◌≡◌, ◌++◌, map, take}
use Rattle.inquire_forms.specs.InquireTexts.{interface_line, lines_after}
use Rattle.inquire_forms.proofs.inquire_text.push_interfaces.Given as goal

abbrev pub invariant-loop-interface : goal.invariant-loop-interface
invariant-loop-interface l = l.text.items ≡ l.fn.text.items ++ lines_after l.front (map interface_line (take l.interface-index l.interfaces))
