use Rattle.std.proofs.Common.{◌≡◌, ◌++◌, take}
use Rattle.script_answers.specs.Texts.{members_text}
use Rattle.house_turns.proofs.showing.push_members.Given as goal

abbrev pub invariant-loop-member : goal.invariant-loop-member
invariant-loop-member l = l.text.items ≡ l.fn.text.items ++ members_text (take l.member-index l.members)
