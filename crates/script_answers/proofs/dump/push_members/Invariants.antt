use Rattle.std.proofs.Common.{◌≡◌, ◌++◌, take}
use Rattle.script_answers.specs.Texts.{members_text}
use Rattle.script_answers.proofs.dump.push_members.Given as goal

abbrev pub invariant-loop-member : goal.invariant-loop-member
invariant-loop-member l = l.line.items ≡ l.fn.line.items ++ members_text (take l.member-index l.members)
