use Rattle.std.proofs.Common.{◌∙◌, ap, refl, not}
use Rattle.cds_cell.proofs.ActSteps.{lose_comes}
use Rattle.cds_cell.proofs.cell.Cell.lose.Goals as goal

pub returns-clause-step : goal.returns-clause-step
returns-clause-step c g s =
    lose_comes c.args.self.now _ g c.args.serial c.letter.result s c.letter.ensures (c.is_none.ensures ∙ ap not c.if-is_none.false) refl
    (record { directories = refl; spent = refl }) c.lose.ensures.posted c.lose.ensures.letters
