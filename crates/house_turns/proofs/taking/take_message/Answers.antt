use Rattle.std.proofs.Common.{ap, refl}
use Rattle.cell_model.specs.Turns.{take}
use Rattle.clearinghouse.specs.declared.house.Clearinghouse.{Clearinghouse}
use Rattle.clearinghouse.specs.HouseLetters.{posts_at}
use Rattle.house_directory.specs.declared.taking.Taken.{Taken}
use Rattle.house_turns.specs.LineOutcomes.{taken_outcome}
use Rattle.house_turns.specs.PrivateTurns.{posts_in}
use Rattle.house_turns.proofs.Letters.{same_posts}
use Rattle.house_turns.proofs.Comes.{message_comes, taken_outcome_is, taken_stays}
use Rattle.house_turns.proofs.Outcomes.{take_fits}
use Rattle.house_turns.proofs.taking.take_message.Goals as goal

pub returns : goal.returns
returns c valid =
    let old : Clearinghouse = c.args.home.now in
    let new : Clearinghouse = c.take_message.new.self in
    let dir = c.args.message.now.dir in
    let t : Taken = c.in_ok-answer.field-0.answer in
    message_comes c.taken_told.result c.args.number old new c.args.message.now t (posts_in c.one-posts.result) c.taken_told.ensures
    (λ now m stands letter can. taken_outcome_is t old new (posts_at new dir c.in_ok-answer.field-0.outgoing) (take now m) (posts_in c.one-posts.result) (take_fits now m)
    (c.in_ok-answer.ensures.step now m stands letter can)
    (same_posts _ _ _ _ c.one-posts.ensures (ap (posts_at new dir) c.as_ref.ensures.value) c.in_ok-letters.ensures))
    (taken_stays t (posts_in c.one-posts.result) old new c.in_ok-answer.field-0.outgoing c.in_ok-answer.ensures.same)
    c.take_message.ensures.call.house c.take_message.ensures.call.node (c.take_message.ensures.kept valid)
    (record {
      answer = t;
      posted = posts_at new dir c.in_ok-answer.field-0.outgoing;
      takes = record { outgoing = c.in_ok-answer.field-0.outgoing; takes = c.in_ok-answer.ensures.does; posts = refl };
      is =
          ap (taken_outcome t)
          (same_posts _ _ _ _ c.one-posts.ensures (ap (posts_at new dir) c.as_ref.ensures.value) c.in_ok-letters.ensures).octets;
    })
