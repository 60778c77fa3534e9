use Rattle.std.proofs.Common.{◌≡◌, List, true, false, refl}
use Rattle.std.specs.Prelude.{Option, Some, None, Ok, Err, is_none}
use Rattle.cds_stamps.specs.declared.members.Member.{Member}
use Rattle.cds_stamps.specs.declared.members.MembersFault.{MembersFault}
use Rattle.cds_stamps.specs.Members.{members_fault, members_of}
use Rattle.cds_stamps.specs.Outcomes.{ok_unless}
use Rattle.house_turns.proofs.lists.members_in.Goals as goal

made : (o : Option MembersFault) (list ms : List Member) → ok_unless o list ≡ Ok ms → (is_none o ≡ true) × (ms ≡ list)
made None list ms is = (refl, cc)
made (Some f) list ms is = absurd (cc)

refused : (o : Option MembersFault) (list : List Member) (f : MembersFault) → ok_unless o list ≡ Err f → is_none o ≡ false
refused None list f is = absurd (cc)
refused (Some g) list f is = refl

pub returns-in-Ok : goal.returns-in-Ok
returns-in-Ok c = made (members_fault (members_of c.args.list.now)) c.args.list.now c.in-Ok.members c.in-Ok.ensures.answer

pub returns-in-Err-Fault : goal.returns-in-Err-Fault
returns-in-Err-Fault c =
    let said = rw c.in-Err-Fault.field-0-is at c.in-Err-Fault.ensures.answer in
    refused (members_fault (members_of c.args.list.now)) c.args.list.now _ said
