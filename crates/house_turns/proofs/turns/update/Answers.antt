use Rattle.std.proofs.Common.{ap, ◌∷◌, [], Ok, Err}
use Rattle.directory.specs.Updates.{change_of}
use Rattle.script_answers.specs.Texts.{answer_line}
use Rattle.script_answers.specs.declared.answer.Answer.TheVariants as answer
use Rattle.house_directory.specs.DirectorySteps.{IsStampAnswer}
use Rattle.clearinghouse.specs.declared.house.Clearinghouse.{Clearinghouse}
use Rattle.clearinghouse.specs.HouseLetters.{posts_at}
use Rattle.house_lines.specs.declared.line.HouseOrder.{HouseOrder}
use Rattle.house_lines.specs.declared.line.HouseOrder.TheVariants as order
use Rattle.cds_cell.specs.Scripted.{update_refusal_of}
use Rattle.cell_runs.specs.LineAnswers.{refused}
use Rattle.house_turns.specs.LineOutcomes.{Posts, Tells}
use Rattle.house_turns.specs.PrivateTurns.{posts_in}
use Rattle.house_turns.proofs.Letters.{same_posts}
use Rattle.house_turns.proofs.Comes.{comes_posts, comes_tells, said_comes}
use Rattle.house_turns.proofs.PlainTexts.{stamped_ends_nowhere}
use Rattle.house_turns.proofs.Outcomes.{accept_fits, refused_reads, stamped_reads}
use Rattle.house_turns.proofs.turns.update.Goals as goal

pub returns-in-Ok : goal.returns-in-Ok
returns-in-Ok c =
    let old : Clearinghouse = c.args.home.now in
    let new : Clearinghouse = c.accept_update.new.self in
    let l : HouseOrder = order.Update c.args.dir c.args.update.now in
    let s = c.in-Ok.stamp in
    said_comes c.turned.result c.args.number old new c.args.clock l (Posts (posts_in c.one-posts.result) (answer_line (answer.Stamped s [])))
    (rw c.new.ensures at c.turned.ensures c.args.number)
    (comes_posts (IsStampAnswer (Ok s)) (answer_line (answer.Stamped s [])) old new (posts_at new c.args.dir c.in_ok-answer.field-0.outgoing) c.args.clock l
    c.accept_update.ensures.call.house c.accept_update.ensures.call.node c.accept_update.ensures.kept
    (λ now m. accept_fits old.house.0 now c.args.dir.0 (change_of c.args.update.now))
    (λ now m stands ticks carries. rw c.in-Ok.is at c.in_ok-answer.ensures.step now stands ticks) (λ o. tt)
    (posts_in c.one-posts.result) (stamped_reads s) (stamped_ends_nowhere s)
    (same_posts _ _ _ _ c.one-posts.ensures (ap (posts_at new c.args.dir) c.as_ref.ensures.value) c.in_ok-letters-in-Ok.ensures))

pub returns : goal.returns
returns c =
    let old : Clearinghouse = c.args.home.now in
    let new : Clearinghouse = c.accept_update.new.self in
    let l : HouseOrder = order.Update c.args.dir c.args.update.now in
    let r = c.in-Err.refusal in
    let same = (rw c.in-Err.is at c.in_ok-answer.ensures.refused).0 in
    said_comes c.refused.result c.args.number old new c.args.clock l (Tells (refused (update_refusal_of r) ∷ []))
    (rw c.refusal_in_script.ensures at c.refused.ensures)
    (comes_tells (IsStampAnswer (Err r)) (refused (update_refusal_of r)) old new (posts_at new c.args.dir c.in_ok-answer.field-0.outgoing) c.args.clock l
    c.accept_update.ensures.call.house c.accept_update.ensures.call.node c.accept_update.ensures.kept
    (λ now m. accept_fits old.house.0 now c.args.dir.0 (change_of c.args.update.now))
    (λ now m stands ticks carries. rw c.in-Err.is at c.in_ok-answer.ensures.step now stands ticks) (λ o. tt)
    (refused_reads r) same)
