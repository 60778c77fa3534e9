use Rattle.std.proofs.Common.{◌≡◌, ◌∙◌, ap, sym, subst, Bool, false, Some, if◌then◌else◌}
use Rattle.std.proofs.lemmas.Result.{IfOk-weaker}
use Rattle.cds_cell.specs.declared.cell.Cell.{Cell}
use Rattle.cds_cell.specs.Readings.{cell_reader}
use Rattle.cds_cell.specs.ModelCells as cell
use Rattle.cds_cell.specs.Telling.{program_reader}
use Rattle.clerk_cache.specs.declared.clerk.Clerk.{Clerk}
use Rattle.resolver.specs.Readers.{Reader}
use Rattle.script_answers.specs.declared.answer.Answer.{Answer}
use Rattle.script_answers.specs.declared.answer.Answer.TheVariants as answer
use Rattle.script_answers.specs.declared.answer.ScriptRefusal.TheVariants as why
use Rattle.clerk_replay.specs.Clerking.{read_at, read_by_clerk}
use Rattle.clerk_replay.specs.PrivateClerking.{read_of}
use Rattle.clerk_replay.proofs.replayer.ClerkReplayer.read.Goals as goal

pub returns-then-has_house-clause-answer : goal.returns-then-has_house-clause-answer
returns-then-has_house-clause-answer c s stands =
    let q = c.args.read in
    let here = c.cell-cell.result.now in
    let read : Reader → Clerk → Answer × Clerk = λ r k. read_by_clerk c.args.now r q.name.now q.attr.now k in
    let is_here : cell.Stands here s.cell = subst (λ (d : Cell). cell.Stands d s.cell) (sym c.cell-cell.ensures) stands.cell in
    let told_is : program_reader here (Some q.house.0) false ≡ cell_reader s.cell (Some q.house.0) false =
    c.cells_tell_the_model.ensures here s.cell is_here (Some q.house.0) false in
    let reader : Reader = cell_reader s.cell (Some q.house.0) false in
    let asked : Clerk = record s.clerk { prefer = q.house } in
    let clerk_is : c.prefer.new.self ≡ asked = c.prefer.ensures ∙ ap (λ (k : Clerk). record k { prefer = q.house }) stands.clerk in
    let answers : read (program_reader here (Some q.house.0) false) c.prefer.new.self ≡ read_at c.args.now s (read_of q) =
    ap (λ (r : Reader). read r c.prefer.new.self) told_is
    ∙ ap (read reader) clerk_is
    ∙ ap (λ (b : Bool). if b then read reader asked else (answer.Refused why.NoHouse, s.clerk))
    (sym c.if-has_house.true ∙ c.has_house.ensures.model s.cell is_here) in
    IfOk-weaker c.read_through.result (λ a. (a, c.read_through.new.clerk) ≡ read (program_reader here (Some q.house.0) false) c.prefer.new.self)
    (λ a. (a, c.read_through.new.clerk) ≡ read_at c.args.now s (read_of q)) (λ a is. is ∙ answers) c.read_through.ensures
