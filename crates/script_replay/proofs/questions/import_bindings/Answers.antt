use Rattle.std.proofs.Common.{◌≡◌, ◌∙◌, ap, sym, subst, Bool, if◌then◌else◌, Some}
use Rattle.std.proofs.lemmas.Result.{IfOk-weaker}
use Rattle.cds_cell.specs.Telling.{program_reader}
use Rattle.cds_cell.specs.Readings.{objects_of, cell_reader}
use Rattle.resolver.specs.Readers.{Reader, ShowsOnly}
use Rattle.script_answers.specs.declared.answer.Answer.{Answer}
use Rattle.script_answers.specs.declared.answer.Answer.TheVariants as answer
use Rattle.script_answers.specs.declared.answer.ScriptRefusal.TheVariants as why
use Rattle.ns_commands.specs.Imported.{import_answer}
use Rattle.script_replay.specs.Replies.{asked_of}
use Rattle.script_replay.proofs.ReachedReadings.{reached_shows_only}
use Rattle.script_replay.proofs.questions.import_bindings.Goals as goal

pub returns-then-has_house : goal.returns-then-has_house
returns-then-has_house c g s =
    let cell = c.args.cell.now in
    let h = c.args.house.0 in
    let high = c.args.high in
    let found : Reader → Answer = λ r. import_answer r (objects_of g) c.args.wanted c.args.name.now in
    let same : program_reader cell (Some h) high ≡ cell_reader g (Some h) high = c.cells_tell_the_model.ensures cell g s (Some h) high in
    let shows : ShowsOnly (program_reader cell (Some h) high) (objects_of g) =
    subst (λ (r : Reader). ShowsOnly r (objects_of g)) (sym same) (reached_shows_only g s.reached (Some h) high) in
    let made : found (cell_reader g (Some h) high) ≡ asked_of g h (found (cell_reader g (Some h) high)) =
    ap (λ (b : Bool). if b then found (cell_reader g (Some h) high) else answer.Refused why.NoHouse) (sym c.if-has_house.true ∙ c.has_house.ensures.model g s) in
    IfOk-weaker c.import.result (λ a. a ≡ found (program_reader cell (Some h) high)) (λ a. a ≡ asked_of g h (found (cell_reader g (Some h) high)))
    (λ a is. is ∙ (ap found same ∙ made)) (c.import.ensures (objects_of g) shows)
