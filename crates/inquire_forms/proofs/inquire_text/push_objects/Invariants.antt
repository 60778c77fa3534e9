use Rattle.std.proofs.Common.{◌≡◌, ◌++◌, map, take}
use Rattle.inquire_forms.specs.InquireTexts.{object_line, lines_after}
use Rattle.inquire_forms.proofs.inquire_text.push_objects.Given as goal

abbrev pub invariant-loop-object : goal.invariant-loop-object
invariant-loop-object l = l.text.items ≡ l.fn.text.items ++ lines_after l.front (map object_line (take l.object-index l.objects))
