use Rattle.std.proofs.Common.{[], ◌∷◌, ◌∙◌, ◌||◌, ap, arith, false, is_some, not, option_map, refl, sym, true, ◌≡◌, Some}
use Rattle.cell_model.specs.Steps.{is_down, is_missing}
use Rattle.cds_cell.specs.declared.house.HouseState.TheVariants as state
use Rattle.cds_cell.proofs.Houses.{house_there, place_within}
use Rattle.cds_cell.proofs.Refusals.{down_where, missing_where}
use Rattle.cds_cell.proofs.cell.Cell.place_up.Goals as goal

pub returns-in_default-clause-allowed : goal.returns-in_default-clause-allowed
returns-in_default-clause-allowed c g s =
    let x = c.args.house.0 in
    let missing : is_missing g (x ∷ []) ≡ true =
    sym (missing_where c.args.self.now g (x ∷ []) s) ∙ ap (λ o. not (is_some o) || false) c.in_default.ensures in
    rw missing refl

pub index-requires : goal.index-requires
index-requires c =
    let less = place_within c.args.self.now.houses.items c.args.house.0 c.in-Some.at c.in-Some.ensures in
    let long = c.args.self.now.houses.ok.0 in
    omega (arith, less, long)

pub returns-in-Up-clause-allowed : goal.returns-in-Up-clause-allowed
returns-in-Up-clause-allowed c g s =
    let x = c.args.house.0 in
    let there = (house_there c.args.self.now.houses.items x c.in-Some.at c.index.result.now c.in-Some.ensures c.index.ensures).0 in
    let made : is_missing g (x ∷ []) ≡ false =
    sym (missing_where c.args.self.now g (x ∷ []) s) ∙ ap (λ o. not (is_some o) || false) there in
    let up : is_down g x ≡ false =
    sym (down_where c.args.self.now g x (Some (state.Up c.in-Up.field-0)) s
    (ap Some (sym c.in-Up.is) ∙ ap (option_map (λ h. h.state)) (sym there))) in
    rw (made, up) refl

pub returns-in-Down-clause-allowed : goal.returns-in-Down-clause-allowed
returns-in-Down-clause-allowed c g s =
    let x = c.args.house.0 in
    let there = (house_there c.args.self.now.houses.items x c.in-Some.at c.index.result.now c.in-Some.ensures c.index.ensures).0 in
    let made : is_missing g (x ∷ []) ≡ false =
    sym (missing_where c.args.self.now g (x ∷ []) s) ∙ ap (λ o. not (is_some o) || false) there in
    let down : is_down g x ≡ true =
    sym (down_where c.args.self.now g x (Some (state.Down c.in-Down.field-0)) s
    (ap Some (sym c.in-Down.is) ∙ ap (option_map (λ h. h.state)) (sym there))) in
    rw (made, down) refl
