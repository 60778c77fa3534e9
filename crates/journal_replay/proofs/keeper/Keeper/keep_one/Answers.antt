use Rattle.std.proofs.Common.{refl, sym, ◌∙◌, ap, subst}
use Rattle.std.specs.Option.{option_map}
use Rattle.cds_cell.specs.ModelCells.{Stands}
use Rattle.journal_replay.proofs.Giving.{made_of_image}
use Rattle.journal_replay.proofs.FullTold.{tells_memory}
use Rattle.journal_replay.proofs.keeper.Keeper.keep_one.Goals as goal

pub returns-clause-puts : goal.returns-clause-puts
returns-clause-puts c g lists s hold =
    let of_image = made_of_image g c.in-Some.house.0 c.in-Some-2.image.items
    (sym (ap (option_map (λ v. v.items)) (sym c.in-Some-2.is) ∙ c.in_ok-image.ensures g (subst (λ x. Stands x g) (sym c.cell.ensures) s))) in
    rw c.in-Some.is (c.keep_image.ensures.puts g lists of_image.1 of_image.0 hold)

pub returns-in_err-image-clause-full : goal.returns-in_err-image-clause-full
returns-in_err-image-clause-full c = tells_memory c.from_residual.result _ _ c.from_residual.ensures.1 refl
