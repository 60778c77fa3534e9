use Rattle.std.proofs.Common.{◌≡◌, ◌<◌, ◌+◌, ◌-◌, ◌==◌, ◌||◌, ◌∙◌, nat_lt, true, sym, refl, List, length, get_or, map, drop-cons, arith}
use Rattle.std.proofs.lemmas.List.{at_drop_all}
use Rattle.cds_stamps.specs.declared.numbers.HouseNo.{HouseNo}
use Rattle.cell_names.proofs.HouseWalks.{walk_list, walk_list-list_fault}
use Rattle.cell_names.proofs.HouseLaws.{list_fault-none}
use Rattle.cell_names.proofs.houses.check_others.Goals as goal
use Rattle.cell_names.proofs.houses.check_others.Goals.{then-i-eq-MOST_OTHERS-via-then-i-eq-MOST_OTHERS}
use Rattle.cell_names.proofs.houses.check_others.Goals.{then-i-eq-MOST_OTHERS-via-else-i-eq-MOST_OTHERS+then-is_misplaced}

-- the house at hand is the first fault: one too many, or out of its place
pub returns-then-i-eq-MOST_OTHERS-clause-value : goal.returns-then-i-eq-MOST_OTHERS-clause-value
returns-then-i-eq-MOST_OTHERS-clause-value c =
    let house : HouseNo = get_or c.args.others.now c.loop-i.i (record { 0 = 0 }) in
    let bad : ((63 - c.loop-i.i == 0) || ((house.0 == c.args.master.0) || nat_lt house.0 c.loop-i.least)) ≡ true = elim c.then-i-eq-MOST_OTHERS.branch [
      | then-i-eq-MOST_OTHERS-via-then-i-eq-MOST_OTHERS w ↦ grind (arith, w.if-i-eq-MOST_OTHERS.true)
      | then-i-eq-MOST_OTHERS-via-else-i-eq-MOST_OTHERS+then-is_misplaced w ↦ grind (arith, w.if-is_misplaced.true, w.is_misplaced.ensures)
    ] in
    let inside : c.loop-i.i < length c.args.others.now = omega arith in
    rw (← c.loop-i.invariant.same, drop-cons c.args.others.now c.loop-i.i (record { 0 = 0 }), bad) refl

pub loop-i-init : goal.loop-i-init
loop-i-init c = record { same = walk_list-list_fault c.args.master.0 _; wanted = omega arith; in_range = omega arith }

-- all houses have been passed without a fault
pub returns-clause-lawful : goal.returns-clause-lawful
returns-clause-lawful c =
    let i = c.loop-i.i in
    let end =
    at_drop_all (λ (hs : List HouseNo). walk_list c.args.master.0 (i + 1) (63 - i) c.loop-i.least (map (λ h. h.0) hs)) c.args.others.now i (omega arith) in
    (list_fault-none c.args.master.0 (map (λ h. h.0) c.args.others.now)).0 (sym c.loop-i.invariant.same ∙ end)
