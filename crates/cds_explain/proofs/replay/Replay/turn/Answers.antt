use Rattle.std.proofs.Common.{◌≡◌, ◌∷◌, ◌++◌, [], List, ℕ, Option, refl, subst, sym, ◌∙◌}
use Rattle.std.specs.Prelude.{IfSome}
use Rattle.cell_runs.specs.Views.{image_in}
use Rattle.cds_stamps.specs.Members.{members_of}
use Rattle.cell_model.specs.Cells as model
use Rattle.cell_model.specs.Steps.{outcome, replay}
use Rattle.cds_cell.specs.ModelCells.{Stands}
use Rattle.cds_cell.specs.Scripted.{step_of}
use Rattle.cds_cell.specs.declared.cell.Cell.{Cell}
use Rattle.entry_lines.specs.declared.command.Said.{Said}
use Rattle.entry_lines.specs.EntryCommands.{IsCommandOf}
use Rattle.entry_lines.specs.SaidLines.{SaysCommand}
use Rattle.cds_explain.specs.PrivateComparing.{ArePostedAfter}
use Rattle.cds_explain.specs.PrivateConsole.{IsListedAs}
use Rattle.cds_explain.proofs.ReplayLemmas.{said_has, turn_done}
use Rattle.cds_explain.proofs.replay.Replay.turn.Goals as goal

-- the cell that a getter tells
told : (z y : Cell) (g : model.Cell) → z ≡ y → Stands y g → Stands z g
told z y g is stands = subst (λ (c : Cell). Stands c g) (sym is) stands

pub returns-clause-done : goal.returns-clause-done
returns-clause-done c = λ cs has ready clock.
    let g = replay cs in
    let old = c.args.self.now in
    let mid = c.step.new.self in
    let h = c.args.house in
    let t = c.args.turn.now in
    let o = c.in_ok-said.field-0 in
    let said = c.in-Some.said in
    let there = c.in-Some.is in
    let known = c.in_ok-said.ensures in
    let stepped = c.in_ok-answer.ensures.done cs has in
    let stands = stepped.step.stands in
    let after = (outcome g (step_of said.command)).cell in
    let says = said_has (λ (s : Said). SaysCommand s.line.items s.command) o said there known.says in
    let is = said_has (λ (s : Said). IsCommandOf h t.order c.args.serial s.command) o said there known.is in
    let members = c.in_ok-before.ensures g (told _ old.replayer.cell g c.cell.ensures has.stands) in
    let first = c.posted-first.ensures.model g (told _ old.replayer.cell g c.cell-2.ensures has.stands) in
    let answer = c.in_ok-compare_answer.ensures.same in
    let lists =
    subst (λ xs. IsListedAs after t.order (members_of xs)) c.deref.ensures.value
    (c.if-not-is_given.ensures after (told _ mid.replayer.cell after c.cell-3.ensures stands))
    in
    let posted =
    subst (λ ps. ArePostedAfter after c.posted-first.result ps) c.deref-2.ensures.value
    ((c.if-not-are_posted.ensures after (told _ mid.replayer.cell after c.cell-4.ensures stands)).0 refl)
    in
    let posts = subst (λ (n : ℕ). ArePostedAfter after n t.posts.items) first posted in
    let image =
    subst (λ (o : Option (List ℕ)). IfSome o (λ i. image_in after h.0 ≡ i)) c.as_ref.ensures.value
    (c.in_ok-compare_shown.ensures.same after stands)
    in
    let text : c.push.new.self.text.items ≡ mid.text.items ++ (c.deref-3.result.now ++ 10 ∷ []) = cc (c.in_ok-push.ensures.text, c.note.ensures.text) in
    turn_done old mid c.push.new.self cs said.command c.deref-3.result.now h t c.args.serial (members_of c.in_ok-before.before.items) c.in_ok-answer.answer
    answer.0 has stepped text (c.push.ensures.lines ∙ c.note.ensures.lines) (c.push.ensures.replayer ∙ c.note.ensures.replayer)
    (subst (λ (octets : List ℕ). SaysCommand octets said.command) (sym c.deref-3.ensures.value) says) is ready members lists answer.1
    (answer.2 ∙ c.list.ensures) posts image clock
