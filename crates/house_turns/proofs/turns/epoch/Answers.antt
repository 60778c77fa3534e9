use Rattle.std.proofs.Common.{◌∙◌, ◌∷◌, [], ◌++◌, None, Some, ap, refl, sym}
use Rattle.std.specs.FinMap.{get}
use Rattle.cds_stamps.specs.Members.{master_of, members_of}
use Rattle.script_answers.specs.Texts.{answer_line}
use Rattle.script_answers.specs.declared.answer.Answer.TheVariants as answer
use Rattle.script_answers.specs.declared.answer.ScriptRefusal.TheVariants as why
use Rattle.house_directory.specs.DirectorySteps.{IsEpochAnswer}
use Rattle.house_directory.specs.HouseMessages.{numbers_of}
use Rattle.clearinghouse.specs.declared.house.Clearinghouse.{Clearinghouse}
use Rattle.clearinghouse.specs.HouseLetters.{epoch_posts_at}
use Rattle.house_lines.specs.declared.line.HouseOrder.{HouseOrder}
use Rattle.house_lines.specs.declared.line.HouseOrder.TheVariants as order
use Rattle.cell_runs.specs.LineAnswers.{refused}
use Rattle.house_turns.specs.LineOutcomes.{Posts, Tells}
use Rattle.house_turns.specs.HouseAnswers.{maybe_refused}
use Rattle.house_turns.specs.PrivateTurns.{epoch_refusal_of, posts_of_letters}
use Rattle.house_turns.proofs.Comes.{asked_model, comes_posts, comes_tells, epoch_absent, epoch_fine, epoch_later, epoch_letters, epoch_listed, epoch_low, given_master, refused_early, said_comes}
use Rattle.house_turns.proofs.PlainTexts.{epoch_ends_nowhere}
use Rattle.house_turns.proofs.Outcomes.{entered_reads, epoch_fits, unentered_reads}
use Rattle.house_turns.proofs.turns.epoch.Goals as goal

pub returns-in_default : goal.returns-in_default
returns-in_default c clock =
    let old : Clearinghouse = c.args.home.now in
    refused_early c.refused.result c.args.number old old clock (order.Epoch c.args.dir c.args.epoch c.args.list.now) (refused why.NoReplica)
    (ap maybe_refused (epoch_absent old.house.0 c.args.epoch.0 c.args.list.now (get old.dirs c.args.dir) (sym c.epoch_held.ensures ∙ c.in_default.is))) refl c.refused.ensures

pub returns-in_default-2 : goal.returns-in_default-2
returns-in_default-2 c clock =
    let old : Clearinghouse = c.args.home.now in
    let bad = rw (c.in_default-2.is, c.number.ensures) at c.in_ok-members.ensures in
    refused_early c.refused-in_default-2.result c.args.number old old clock (order.Epoch c.args.dir c.args.epoch c.args.list.now) (refused why.BadMembers)
    (ap maybe_refused (epoch_listed old.house.0 c.args.epoch.0 c.args.list.now (get old.dirs c.args.dir) c.in-Some.held (sym c.epoch_held.ensures ∙ c.in-Some.is) bad))
    refl c.refused-in_default-2.ensures

pub returns-then-epoch-held : goal.returns-then-epoch-held
returns-then-epoch-held c clock =
    let old : Clearinghouse = c.args.home.now in
    let good = rw (c.in-Some-2.is, c.number.ensures) at c.in_ok-members.ensures in
    refused_early c.refused-then-epoch-held.result c.args.number old old clock (order.Epoch c.args.dir c.args.epoch c.args.list.now)
    (refused (why.NotAbove c.in-Some.held))
    (ap maybe_refused (epoch_low old.house.0 c.args.epoch.0 c.args.list.now (get old.dirs c.args.dir) c.in-Some.held (sym c.epoch_held.ensures ∙ c.in-Some.is) good.0
    c.if-epoch-held.true)) refl c.refused-then-epoch-held.ensures

pub enter_epoch-requires : goal.enter_epoch-requires
enter_epoch-requires c =
    let good = rw (c.in-Some-2.is, c.number.ensures) at c.in_ok-members.ensures in
    record { master = ap (λ ms. master_of (members_of ms)) good.1 ∙ given_master c.args.home.now.house.0 c.args.epoch.0 c.args.list.now good.0 }

pub returns-in-Err : goal.returns-in-Err
returns-in-Err c clock =
    let old : Clearinghouse = c.args.home.now in
    let new : Clearinghouse = c.enter_epoch.new.self in
    let dir = c.args.dir in
    let k = c.args.epoch in
    let list = c.args.list.now in
    let l : HouseOrder = order.Epoch dir k list in
    let good = rw (c.in-Some-2.is, c.number.ensures) at c.in_ok-members.ensures in
    let held = sym c.epoch_held.ensures ∙ c.in-Some.is in
    let later = epoch_later (get old.dirs dir) c.in-Some.held k.0 held c.if-epoch-held.false in
    let r = c.in-Err.refusal in
    asked_model c.refused-in-Err.result c.args.number old new clock l
    (ap maybe_refused (epoch_fine old.house.0 k.0 list (get old.dirs dir) c.in-Some.held held good.0 c.if-epoch-held.false))
    (said_comes c.refused-in-Err.result c.args.number old new clock l (Tells (refused (epoch_refusal_of r) ∷ []))
    (rw c.epoch_refused.ensures at c.refused-in-Err.ensures)
    (comes_tells (IsEpochAnswer k.0 (Some r)) (refused (epoch_refusal_of r)) old new [] clock l
    c.enter_epoch.ensures.call.house c.enter_epoch.ensures.call.node c.enter_epoch.ensures.kept
    (λ now m. epoch_fits old.house.0 now dir.0 k.0 (members_of list.members) (numbers_of list.leaving))
    (λ now m stands ticks carries. rw (c.in-Err.is, good.1) at c.in_ok-refusal.ensures.step now list.leaving stands later) (λ o. tt)
    (unentered_reads k.0 r) (rw c.in-Err.is at c.in_ok-refusal.ensures.refused)))

pub returns : goal.returns
returns c clock =
    let old : Clearinghouse = c.args.home.now in
    let new : Clearinghouse = c.enter_epoch.new.self in
    let dir = c.args.dir in
    let k = c.args.epoch in
    let list = c.args.list.now in
    let l : HouseOrder = order.Epoch dir k list in
    let good = rw (c.in-Some-2.is, c.number.ensures) at c.in_ok-members.ensures in
    let held = sym c.epoch_held.ensures ∙ c.in-Some.is in
    let later = epoch_later (get old.dirs dir) c.in-Some.held k.0 held c.if-epoch-held.false in
    let first = c.in_ok-letters.field-0 in
    let second = c.in_ok-leaves.field-0 in
    let posts = posts_of_letters first ++ posts_of_letters (Some second) in
    asked_model c.turned.result c.args.number old new clock l
    (ap maybe_refused (epoch_fine old.house.0 k.0 list (get old.dirs dir) c.in-Some.held held good.0 c.if-epoch-held.false))
    (said_comes c.turned.result c.args.number old new clock l (Posts posts (answer_line (answer.Epoch k [])))
    (rw c.new.ensures at c.turned.ensures c.args.number)
    (comes_posts (IsEpochAnswer k.0 None) (answer_line (answer.Epoch k [])) old new (epoch_posts_at new dir k list.leaving None) clock l
    c.enter_epoch.ensures.call.house c.enter_epoch.ensures.call.node c.enter_epoch.ensures.kept
    (λ now m. epoch_fits old.house.0 now dir.0 k.0 (members_of list.members) (numbers_of list.leaving))
    (λ now m stands ticks carries. rw (c.in_default-3.is, good.1) at c.in_ok-refusal.ensures.step now list.leaving stands later) (λ o. tt)
    posts (entered_reads k) (epoch_ends_nowhere k)
    (epoch_letters new dir k list.leaving first second c.in_ok-letters.ensures.posts (rw c.list.ensures at c.in_ok-leaves.ensures.posts))))
