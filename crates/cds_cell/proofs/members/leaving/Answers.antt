use Rattle.std.proofs.Common.{◌≡◌, length, length-append, sym, ap, ◌∙◌, subst, drop, ◌+◌, List, arith}
use Rattle.std.specs.Prelude.{is_some, not}
use Rattle.cds_stamps.specs.declared.numbers.HouseNo.{HouseNo}
use Rattle.cds_stamps.specs.Members.{members_of}
use Rattle.cds_cell.proofs.MemberLists.{LeavesRest, leaves_on, leaves_pass, listed_by_place}
use Rattle.cds_cell.proofs.members.leaving.Goals.{then-is_none+in_ok-push, else-is_none}
use Rattle.cds_cell.proofs.members.leaving.Goals as goal

pub loop-member-preserved : goal.loop-member-preserved
loop-member-preserved c =
    let before = c.args.before.now in
    let now = members_of c.args.now.now in
    let i = c.loop-member.member-index in
    let seen = listed_by_place _ 0 now ∙ ap is_some (sym c.place.ensures) ∙ c.is_none.ensures in
    elim c.if-is_none.branch [
      | then-is_none+in_ok-push w ↦
          let pushed = ap (λ v. v.items) w.left-is ∙ w.in_ok-push.ensures.items in
          record {
            few = let count = simp length-append at (ap length pushed) in let few = c.loop-member.invariant.few in omega (arith, count, few);
            rest =
                leaves_on (members_of before) now before i _ c.loop-member.left.items
                c.if-is_none.left.items c.loop-member-test.true (seen ∙ ap not w.if-is_none.true) pushed c.loop-member.invariant.rest;
          }
      | else-is_none w ↦
          let same : c.if-is_none.left.items ≡ c.loop-member.left.items = ap (λ v. v.items) w.left-is in
          record {
            few = let count = ap length same in let few = c.loop-member.invariant.few in omega (arith, count, few);
            rest =
                subst (λ (hs : List HouseNo). LeavesRest (members_of before) now (drop (i + 1) before) hs)
                (sym same)
                (leaves_pass (members_of before) now before i _ c.loop-member.left.items
                c.loop-member-test.true (seen ∙ ap not w.if-is_none.false) c.loop-member.invariant.rest);
          }
    ]
