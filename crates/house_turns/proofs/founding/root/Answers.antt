use Rattle.std.proofs.Common.{◌∙◌, [], Some, ap, refl, sym}
use Rattle.std.specs.FinMap.{get}
use Rattle.cds_stamps.specs.Members.{master_of, members_of}
use Rattle.cell_model.proofs.Terms.{master_new}
use Rattle.cell_script.specs.Listings.{secondaries_in}
use Rattle.house_directory.specs.HouseMessages.{numbers_of}
use Rattle.cell_runs.specs.LineAnswers.{refused}
use Rattle.cell_runs.specs.LineOrders.{listed_houses}
use Rattle.cds_stamps.specs.Numbers.{root_dir}
use Rattle.cds_stamps.specs.declared.numbers.DirId.{DirId}
use Rattle.script_answers.specs.Texts.{answer_line}
use Rattle.script_answers.specs.declared.answer.Answer.TheVariants as answer
use Rattle.script_answers.specs.declared.answer.ScriptRefusal.TheVariants as why
use Rattle.clearinghouse.specs.declared.house.Clearinghouse.{Clearinghouse}
use Rattle.clearinghouse.specs.HouseLetters.{posts_at}
use Rattle.house_lines.specs.declared.line.HouseOrder.{HouseOrder}
use Rattle.house_lines.specs.declared.line.HouseOrder.TheVariants as order
use Rattle.house_turns.specs.LineOutcomes.{Posts}
use Rattle.house_turns.specs.PrivateTurns.{posts_in}
use Rattle.house_turns.proofs.Letters.{maybe_letters, same_posts}
use Rattle.house_turns.proofs.Comes.{asked_model, founding_bad, founding_fine, founding_held, none_where, refused_early, root_comes, said_comes}
use Rattle.house_turns.proofs.founding.root.Goals as goal

abbrev root_id : DirId
root_id = record { 0 = root_dir }

pub returns-then-has : goal.returns-then-has
returns-then-has c clock =
    refused_early c.refused.result c.args.number c.args.home.now c.args.home.now clock (order.Root c.args.others.now) (refused why.DirectoryExists)
    (founding_held c.args.home.now root_id c.args.others.now (sym c.has.ensures ∙ c.if-has.true)) refl c.refused.ensures

pub returns-in_default : goal.returns-in_default
returns-in_default c clock =
    let bad = rw (c.in_default.is, c.number.ensures) at c.in_ok-members.ensures in
    refused_early c.refused-in_default.result c.args.number c.args.home.now c.args.home.now clock (order.Root c.args.others.now) (refused why.BadMembers)
    (founding_bad c.args.home.now root_id c.args.others.now (sym c.has.ensures ∙ c.if-has.false) bad) refl c.refused-in_default.ensures

pub found-requires-clause-absent : goal.found-requires-clause-absent
found-requires-clause-absent c = none_where (get c.args.home.now.dirs root_id) (sym c.has.ensures ∙ c.if-has.false)

pub found-requires-clause-master : goal.found-requires-clause-master
found-requires-clause-master c =
    let good = rw (c.in-Some.is, c.number.ensures) at c.in_ok-members.ensures in
    ap master_of good.1
    ∙ master_new [] 1 c.args.home.now.house.0 (listed_houses c.args.others.now) (numbers_of (secondaries_in c.args.others.now))

pub returns : goal.returns
returns c clock =
    let old : Clearinghouse = c.args.home.now in
    let new : Clearinghouse = c.found.new.self in
    let l : HouseOrder = order.Root c.args.others.now in
    let good = rw (c.in-Some.is, c.number.ensures) at c.in_ok-members.ensures in
    asked_model c.turned.result c.args.number old new clock l
    (founding_fine old root_id c.args.others.now (sym c.has.ensures ∙ c.if-has.false) good.0)
    (said_comes c.turned.result c.args.number old new clock l (Posts (posts_in c.one-posts.result) (answer_line answer.Done)) (c.turned.ensures c.args.number)
    (root_comes old new clock c.args.others.now (members_of c.in-Some.members) (posts_at new root_id (Some c.in_ok-outgoing.outgoing)) (posts_in c.one-posts.result)
    c.found.ensures.call.house c.found.ensures.call.node c.found.ensures.kept good.1
    (same_posts _ _ _ _ c.one-posts.ensures refl (maybe_letters _ (posts_at new root_id (Some c.in_ok-outgoing.outgoing)) c.in_ok-letters.ensures.posts))
    c.in_ok-outgoing.ensures.step))
