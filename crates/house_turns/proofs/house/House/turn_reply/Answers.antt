use Rattle.std.proofs.Common.{ℕ, List, refl, ◌∙◌}
use Rattle.house_turns.specs.HouseReplies.{turn_text}
use Rattle.house_turns.specs.PrivateTurns.{posts_in}
use Rattle.house_turns.specs.declared.house.House.{House}
use Rattle.house_turns.proofs.Recorded.{counted_on, turn_after, turn_record}
use Rattle.house_turns.proofs.house.House.turn_reply.Goals as goal

pub returns : goal.returns
returns c =
    let h : House = c.args.self.now in
    let text : List ℕ = turn_text c.args.line.now (posts_in c.args.posts.now) c.args.answer.now in
    let n : ℕ = c.in_ok-self.field-0 in
    record {
      text = c.in_ok-turn_told.ensures;
      octets = c.in_ok-body.body.items;
      body = refl;
      record_is = turn_record h n c.of.result c.deref.result.now text c.in_ok-body.body.items (c.deref.ensures.value ∙ c.in_ok-kept.ensures) c.in_ok-body.ensures;
      after = turn_after h n c.of.result text (counted_on c.checked_add.result h.entry n c.checked_add.ensures c.in_ok-self.ensures.ok_part) (c.of.ensures ∙ c.in_ok-kept.ensures);
    }
