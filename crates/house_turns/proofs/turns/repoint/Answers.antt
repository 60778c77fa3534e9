use Rattle.std.proofs.Common.{refl}
use Rattle.house_lines.specs.declared.line.HouseOrder.TheVariants as order
use Rattle.cell_runs.specs.LineAnswers.{refused}
use Rattle.script_answers.specs.declared.answer.ScriptRefusal.TheVariants as why
use Rattle.house_turns.proofs.Comes.{asked_model, refused_early, repoint_bad, repoint_comes, repoint_fine}
use Rattle.house_turns.proofs.turns.repoint.Goals as goal

pub returns-in-Some : goal.returns-in-Some
returns-in-Some c =
    let fits = rw c.in-Some.is at c.in_ok-houses.ensures in
    asked_model c.update.result c.args.number c.args.home.now c.update.new.home c.args.clock (order.Repoint c.args.dir c.args.name c.args.master c.args.others.now)
    (repoint_fine c.args.home.now c.args.dir c.args.name c.args.master c.args.others.now fits.0)
    (repoint_comes c.update.result c.args.number c.args.home.now c.update.new.home c.args.clock c.args.dir c.args.name c.args.master c.args.others.now c.in-Some.houses fits.1
    c.update.ensures)

pub returns-in-None : goal.returns-in-None
returns-in-None c =
    let bad = rw c.in-None.is at c.in_ok-houses.ensures in
    refused_early c.refused.result c.args.number c.args.home.now c.args.home.now c.args.clock (order.Repoint c.args.dir c.args.name c.args.master c.args.others.now)
    (refused why.BadMembers) (repoint_bad c.args.home.now c.args.dir c.args.name c.args.master c.args.others.now bad) refl c.refused.ensures
