use Rattle.std.proofs.Common.{◌≡◌, ◌++◌, map, take}
use Rattle.inquire_forms.specs.InquireTexts.{member_line, lines_after}
use Rattle.inquire_forms.proofs.inquire_text.push_members.Given as goal

abbrev pub invariant-loop-member : goal.invariant-loop-member
invariant-loop-member l = l.text.items ≡ l.fn.text.items ++ lines_after l.front (map member_line (take l.member-index l.members))
