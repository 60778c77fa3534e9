-- The fault of a child pointer's houses, found house by house.
use Rattle.std.proofs.Common.{suc, ◌≡◌, ◌≢◌, ℕ, ◌+◌, ◌-◌, ◌<◌, Bool, true, false, List, [], ◌∷◌, length, Option, Some, None, refl, ◌∙◌, arith}
use Rattle.std.specs.Prelude.{min, nat_lt, ◌==◌, ◌&&◌, ◌||◌, if◌then◌else◌}
use Rattle.cell_names.specs.declared.pointer.ChildFault.{ChildFault}
use Rattle.cell_names.specs.declared.pointer.ChildFault.TheVariants.{BadChild}
use Rattle.cell_names.specs.Houses.{count_in_order}
use Rattle.cell_names.specs.ChildPointers.{others_fault}

-- the first fault of houses from this place on, of which so many are to come, none below this least
abbrev pub walk_others : (master place count least : ℕ) → List ℕ → Option ChildFault
walk_others master place count least [] = if count == 0 then None else Some (BadChild place)
walk_others master place count least (h ∷ hs) =
    if count == 0 || (h == master || nat_lt h least) then Some (BadChild place) else walk_others master (place + 1) (count - 1) (h + 1) hs

-- the fault after so many in order, of so many in all
abbrev behind : (place count ordered all : ℕ) → Option ChildFault
behind place count ordered all = if ordered == count && all == count then None else Some (BadChild (place + min ordered count))

behind-none : (place count : ℕ) → (if count == 0 then None else Some (BadChild place)) ≡ behind place count 0 0
behind-none place count = grind arith

behind-full : (place count ordered all : ℕ) → (count == 0) ≡ true → 0 < all → Some (BadChild place) ≡ behind place count ordered all
behind-full place count ordered all e h = grind arith

behind-misplaced : (place count all : ℕ) → (count == 0) ≡ false → Some (BadChild place) ≡ behind place count 0 all
behind-misplaced place count all e = grind arith

behind-next : (place count ordered all : ℕ) → (count == 0) ≡ false → behind (place + 1) (count - 1) ordered all ≡ behind place count (1 + ordered) (suc all)
behind-next place count ordered all e =
    let some : count ≢ 0 = grind arith in
    let one : (ordered == count - 1) ≡ (1 + ordered == count) = grind arith in
    let two : (all == count - 1) ≡ (suc all == count) = grind arith in
    let at : place + 1 + min ordered (count - 1) ≡ place + min (1 + ordered) count = omega arith in
    rw (one, two, at) refl

-- house by house the same fault is found
walk_others-behind : (master place count least : ℕ) (hs : List ℕ)
    → walk_others master place count least hs ≡ behind place count (count_in_order master least hs) (length hs)
walk_others-behind master place count least [] = behind-none place count
walk_others-behind master place count least (h ∷ hs) =
    by_tests (count == 0) refl (h == master || nat_lt h least) (walk_others-behind master (place + 1) (count - 1) (h + 1) hs)
  where
    by_tests : (full : Bool) → (count == 0) ≡ full → (misplaced : Bool)
        → walk_others master (place + 1) (count - 1) (h + 1) hs ≡ behind (place + 1) (count - 1) (count_in_order master (h + 1) hs) (length hs)
        → (if full || misplaced then Some (BadChild place) else walk_others master (place + 1) (count - 1) (h + 1) hs)
        ≡ behind place count (if misplaced then 0 else 1 + count_in_order master (h + 1) hs) (length (h ∷ hs))
    by_tests true e misplaced rest = behind-full place count _ (length (h ∷ hs)) e (omega arith)
    by_tests false e true rest = behind-misplaced place count (length (h ∷ hs)) e
    by_tests false e false rest = rest ∙ behind-next place count _ (length hs) e

-- house by house the fault of the other houses is found
pub walk_others-others_fault : (master place count : ℕ) (others : List ℕ) → walk_others master place count 0 others ≡ others_fault master place count others
walk_others-others_fault master place count others = walk_others-behind master place count 0 others
