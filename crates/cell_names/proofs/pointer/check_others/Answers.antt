use Rattle.std.proofs.Common.{◌≡◌, ◌-◌, ◌<◌, ◌==◌, ◌||◌, nat_lt, refl, true, length, get_or, drop-cons, arith}
use Rattle.cell_names.proofs.PointerWalks.{walk_others-others_fault}
use Rattle.cell_names.proofs.pointer.check_others.Goals as goal
use Rattle.cell_names.proofs.pointer.check_others.Goals.{then-i-from-via-then-i-from, then-i-from-via-else-i-from+then-is_misplaced}

-- the house at hand is the first fault: one too many, or out of its place
pub returns-then-i-from : goal.returns-then-i-from
returns-then-i-from c =
    let house = get_or c.args.others.now c.loop-i.i 0 in
    let bad : ((c.args.count - c.loop-i.i == 0) || ((house == c.args.master) || nat_lt house c.loop-i.least)) ≡ true = elim c.then-i-from.branch [
      | then-i-from-via-then-i-from w ↦ grind (arith, w.if-i-from.true)
      | then-i-from-via-else-i-from+then-is_misplaced w ↦ grind (arith, w.if-is_misplaced.true, w.is_misplaced.ensures)
    ] in
    let inside : c.loop-i.i < length c.args.others.now = omega arith in
    rw (← c.loop-i.invariant.same, drop-cons c.args.others.now c.loop-i.i 0, bad) refl

pub loop-i-init : goal.loop-i-init
loop-i-init c =
    let all : c.args.count - 0 ≡ c.args.count = omega arith in
    record { same = rw all (walk_others-others_fault c.args.master 7 c.args.count c.args.others.now); wanted = omega arith; in_range = omega arith }
