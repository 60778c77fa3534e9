use Rattle.std.proofs.Common.{[], ◌∷◌, length, arith, inl, refl, subst, sym}
use Rattle.std.proofs.lemmas.Option.{slice_get_read}
use Rattle.cell_model.specs.Commands as command
use Rattle.cell_model.specs.Steps.{effect, is_missing, refusals_of}
use Rattle.script_answers.specs.declared.answer.Answer.TheVariants as answer
use Rattle.cds_cell.specs.declared.cell.Cell.{Cell}
use Rattle.cds_cell.specs.declared.house.CellHouse.{CellHouse}
use Rattle.cds_cell.specs.PrivateSteps.{IsStepAs}
use Rattle.cds_cell.proofs.ActSteps.{never_missing, passed}
use Rattle.cds_cell.proofs.Houses.{place_within}
use Rattle.cds_cell.proofs.MadeHouses.{clock_comes}
use Rattle.cds_cell.proofs.cell.Cell.set_clock.Goals as goal
use Rattle.cds_cell.proofs.cell.Cell.set_clock.Goals.{in-Some, in_default}

pub index_mut-requires : goal.index_mut-requires
index_mut-requires c =
    let less = place_within c.args.self.now.houses.items c.args.house.0 c.in-Some.at c.in-Some.ensures in
    let long = c.args.self.now.houses.ok.0 in
    omega (arith, less, long)

pub returns-clause-step : goal.returns-clause-step
returns-clause-step c g s none =
    let x = c.args.house.0 in
    let hs = c.args.self.now.houses.items in
    let known = passed (refusals_of g (command.Clock x c.args.time)) (is_missing g (x ∷ [])) command.NoHouse (inl refl) none in
    elim c.match-position.branch [
      | in-Some w ↦
          let old : CellHouse = w.index_mut.result.now in
          subst (λ (d : Cell). IsStepAs answer.Done d (effect g (command.Clock x c.args.time))) (sym w.self-is)
          (clock_comes c.args.self.now _ g x w.in-Some.at old _ s w.in-Some.ensures
          (slice_get_read hs (length hs) w.in-Some.at old refl (place_within hs x w.in-Some.at w.in-Some.ensures) w.index_mut.ensures.value)
          refl refl refl refl refl refl refl)
      | in_default w ↦ absurd (never_missing c.args.self.now g x [] s.stands known w.in_default.ensures)
    ]
