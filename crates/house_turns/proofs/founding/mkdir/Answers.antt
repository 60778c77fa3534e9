use Rattle.std.proofs.Common.{◌∙◌, [], ap, refl, sym}
use Rattle.std.specs.FinMap.{get}
use Rattle.cds_stamps.specs.Members.{master_of, members_of}
use Rattle.cell_model.proofs.Terms.{master_new}
use Rattle.cell_script.specs.Listings.{secondaries_in}
use Rattle.script_answers.specs.declared.answer.ScriptRefusal.TheVariants as why
use Rattle.clearinghouse.specs.declared.house.Clearinghouse.{Clearinghouse}
use Rattle.house_directory.specs.HouseMessages.{numbers_of}
use Rattle.house_lines.specs.declared.line.HouseOrder.TheVariants as order
use Rattle.cell_runs.specs.LineAnswers.{refused}
use Rattle.cell_runs.specs.LineOrders.{listed_houses}
use Rattle.house_turns.proofs.Comes.{asked_model, child_comes, founding_bad, founding_fine, founding_held, none_where, refused_early}
use Rattle.house_turns.proofs.founding.mkdir.Goals as goal

pub returns-then-has : goal.returns-then-has
returns-then-has c =
    refused_early c.refused.result c.args.number c.args.home.now c.args.home.now c.args.clock
    (order.Mkdir c.args.dir c.args.name c.args.child c.args.others.now) (refused why.DirectoryExists)
    (founding_held c.args.home.now c.args.child c.args.others.now (sym c.has.ensures ∙ c.if-has.true)) refl c.refused.ensures

pub returns-in_default : goal.returns-in_default
returns-in_default c =
    let bad = rw (c.in_default.is, c.number.ensures) at c.in_ok-members.ensures in
    refused_early c.refused-in_default.result c.args.number c.args.home.now c.args.home.now c.args.clock
    (order.Mkdir c.args.dir c.args.name c.args.child c.args.others.now) (refused why.BadMembers)
    (founding_bad c.args.home.now c.args.child c.args.others.now (sym c.has.ensures ∙ c.if-has.false) bad) refl c.refused-in_default.ensures

pub make_child-requires-clause-absent : goal.make_child-requires-clause-absent
make_child-requires-clause-absent c = none_where (get c.args.home.now.dirs c.args.child) (sym c.has.ensures ∙ c.if-has.false)

pub make_child-requires-clause-master : goal.make_child-requires-clause-master
make_child-requires-clause-master c =
    let good = rw (c.in-Some.is, c.number.ensures) at c.in_ok-members.ensures in
    ap master_of good.1
    ∙ master_new [] 1 c.args.home.now.house.0 (listed_houses c.args.others.now) (numbers_of (secondaries_in c.args.others.now))

pub returns : goal.returns
returns c =
    let old : Clearinghouse = c.args.home.now in
    let new : Clearinghouse = c.make_child.new.home in
    let good = rw (c.in-Some.is, c.number.ensures) at c.in_ok-members.ensures in
    let fits = rw (c.in-Some-2.is, c.number-2.ensures, c.houses.ensures) at c.in_ok-houses.ensures in
    asked_model c.make_child.result c.args.number old new c.args.clock (order.Mkdir c.args.dir c.args.name c.args.child c.args.others.now)
    (founding_fine old c.args.child c.args.others.now (sym c.has.ensures ∙ c.if-has.false) good.0)
    (child_comes c.make_child.result c.args.number old new c.args.clock c.args.dir c.args.name c.args.child c.args.others.now _ (members_of c.in-Some.members)
    (rw fits.1 refl) good.1 c.make_child.ensures)
