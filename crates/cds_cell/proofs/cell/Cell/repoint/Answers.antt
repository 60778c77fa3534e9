use Rattle.std.proofs.Common.{◌≡◌, ◌∙◌, ◌∷◌, true, false, subst, sym, inl, inr, refl}
use Rattle.std.specs.Prelude.{MatchOption}
use Rattle.std.proofs.lemmas.Bool.{false≢true}
use Rattle.cell_model.specs.Commands as command
use Rattle.cell_model.specs.Steps.{sorted_houses, is_bad_list, refusals_of}
use Rattle.house_directory.specs.HouseMessages.{numbers_of}
use Rattle.cds_cell.proofs.ActSteps.{passed}
use Rattle.cds_cell.proofs.cell.Cell.repoint.Goals as goal

pub returns-in_default-clause-step : goal.returns-in_default-clause-step
returns-in_default-clause-step c g s none =
    let m = c.args.master.0 in
    let rs = numbers_of c.args.others.now in
    let listed = passed (refusals_of g (command.Repoint c.args.house.0 c.args.dir.0 c.args.name m rs)) (is_bad_list (m ∷ rs)) command.BadMembers
    (inr (inr (inl refl))) none in
    let bad : is_bad_list (m ∷ rs) ≡ true = subst (λ o. MatchOption o (is_bad_list (m ∷ rs) ≡ true) (λ h. (is_bad_list (m ∷ rs) ≡ false)
    × (h ≡ record { master = m; others = sorted_houses rs }))) c.in_default.is c.in_ok-houses.ensures in
    absurd (false≢true (sym listed ∙ bad))
