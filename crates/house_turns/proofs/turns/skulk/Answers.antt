use Rattle.std.proofs.Common.{ap, ◌∷◌, [], Ok, Err}
use Rattle.script_answers.specs.Texts.{answer_line}
use Rattle.script_answers.specs.declared.answer.Answer.TheVariants as answer
use Rattle.house_directory.specs.declared.skulks.Begun.TheVariants as begun
use Rattle.house_directory.specs.DirectorySteps.{IsBegunAnswer}
use Rattle.clearinghouse.specs.declared.house.Clearinghouse.{Clearinghouse}
use Rattle.clearinghouse.specs.HouseLetters.{posts_at}
use Rattle.house_lines.specs.declared.line.HouseOrder.{HouseOrder}
use Rattle.house_lines.specs.declared.line.HouseOrder.TheVariants as order
use Rattle.cds_cell.specs.Scripted.{update_refusal_of}
use Rattle.cell_runs.specs.LineAnswers.{refused}
use Rattle.house_turns.specs.LineOutcomes.{Posts, Tells}
use Rattle.house_turns.specs.PrivateTurns.{posts_in}
use Rattle.house_turns.proofs.Letters.{same_posts}
use Rattle.house_turns.proofs.Comes.{comes_posts, comes_tells, said_comes}
use Rattle.house_turns.proofs.PlainTexts.{complete_ends_nowhere, stamped_ends_nowhere}
use Rattle.house_turns.proofs.Outcomes.{complete_reads, skulk_fits, started_reads, unskulked_reads}
use Rattle.house_turns.proofs.turns.skulk.Goals as goal

pub returns-in-Ok-Started : goal.returns-in-Ok-Started
returns-in-Ok-Started c =
    let old : Clearinghouse = c.args.home.now in
    let new : Clearinghouse = c.begin_skulk.new.self in
    let l : HouseOrder = order.Skulk c.args.dir in
    let s = c.in-Ok-Started.stamp in
    said_comes c.turned.result c.args.number old new c.args.clock l (Posts (posts_in c.one-posts.result) (answer_line (answer.Stamped s [])))
    (rw c.new.ensures at c.turned.ensures c.args.number)
    (comes_posts (IsBegunAnswer (Ok (begun.Started s))) (answer_line (answer.Stamped s [])) old new (posts_at new c.args.dir c.in_ok-answer.field-0.outgoing) c.args.clock l
    c.begin_skulk.ensures.call.house c.begin_skulk.ensures.call.node c.begin_skulk.ensures.kept
    (λ now m. skulk_fits old.house.0 now c.args.dir.0)
    (λ now m stands ticks carries. rw (c.in-Ok-Started.is, c.in-Ok-Started.field-0-is) at c.in_ok-answer.ensures.step now stands ticks) (λ o. tt)
    (posts_in c.one-posts.result) (started_reads s) (stamped_ends_nowhere s)
    (same_posts _ _ _ _ c.one-posts.ensures (ap (posts_at new c.args.dir) c.as_ref.ensures.value) c.in_ok-letters.ensures))

pub returns-in-Ok-Complete : goal.returns-in-Ok-Complete
returns-in-Ok-Complete c =
    let old : Clearinghouse = c.args.home.now in
    let new : Clearinghouse = c.begin_skulk.new.self in
    let l : HouseOrder = order.Skulk c.args.dir in
    let s = c.in-Ok-Complete.stamp in
    said_comes c.turned-in-Ok-Complete.result c.args.number old new c.args.clock l (Posts (posts_in c.one-posts.result) (answer_line (answer.Complete s [])))
    (rw c.new-in-Ok-Complete.ensures at c.turned-in-Ok-Complete.ensures c.args.number)
    (comes_posts (IsBegunAnswer (Ok (begun.Complete s))) (answer_line (answer.Complete s [])) old new (posts_at new c.args.dir c.in_ok-answer.field-0.outgoing) c.args.clock l
    c.begin_skulk.ensures.call.house c.begin_skulk.ensures.call.node c.begin_skulk.ensures.kept
    (λ now m. skulk_fits old.house.0 now c.args.dir.0)
    (λ now m stands ticks carries. rw (c.in-Ok-Complete.is, c.in-Ok-Complete.field-0-is) at c.in_ok-answer.ensures.step now stands ticks) (λ o. tt)
    (posts_in c.one-posts.result) (complete_reads s) (complete_ends_nowhere s)
    (same_posts _ _ _ _ c.one-posts.ensures (ap (posts_at new c.args.dir) c.as_ref.ensures.value) c.in_ok-letters.ensures))

pub returns : goal.returns
returns c =
    let old : Clearinghouse = c.args.home.now in
    let new : Clearinghouse = c.begin_skulk.new.self in
    let l : HouseOrder = order.Skulk c.args.dir in
    let r = c.in-Err.refusal in
    let same = (rw c.in-Err.is at c.in_ok-answer.ensures.refused).0 in
    said_comes c.refused.result c.args.number old new c.args.clock l (Tells (refused (update_refusal_of r) ∷ []))
    (rw c.refusal_in_script.ensures at c.refused.ensures)
    (comes_tells (IsBegunAnswer (Err r)) (refused (update_refusal_of r)) old new (posts_at new c.args.dir c.in_ok-answer.field-0.outgoing) c.args.clock l
    c.begin_skulk.ensures.call.house c.begin_skulk.ensures.call.node c.begin_skulk.ensures.kept
    (λ now m. skulk_fits old.house.0 now c.args.dir.0)
    (λ now m stands ticks carries. rw c.in-Err.is at c.in_ok-answer.ensures.step now stands ticks) (λ o. tt)
    (unskulked_reads r) same)
