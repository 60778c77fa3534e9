use Rattle.std.proofs.Common.{◌≡◌, subst, sym}
use Rattle.cds_stamps.specs.Members.{members_of}
use Rattle.mend_replay.specs.PrivateLines.{AreOrdered}
use Rattle.mend_replay.proofs.MemberKinds.{ordered_kept, ordered_members}
use Rattle.mend_replay.proofs.leaving.led_text.Goals as goal

pub push_leaving-requires-clause-ordered : goal.push_leaving-requires-clause-ordered
push_leaving-requires-clause-ordered c =
    let ordered : AreOrdered (members_of c.list.result.now) = ordered_members (members_of c.list.result.now) c.list.ensures.lawful in
    subst (λ l. AreOrdered (members_of l)) (sym c.as_slice.ensures.value)
    (subst AreOrdered (sym c.in_ok-kept.ensures) (ordered_kept _ _ (members_of c.list.result.now) ordered))
