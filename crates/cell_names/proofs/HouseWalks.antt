-- The fault of other houses, found house by house.
use Rattle.std.proofs.Common.{suc, ◌≡◌, ◌≢◌, ℕ, ◌+◌, ◌-◌, ◌<◌, Bool, true, false, List, [], ◌∷◌, length, Option, Some, None, refl, ◌∙◌, arith}
use Rattle.std.specs.Prelude.{min, nat_lt, ◌==◌, ◌||◌, if◌then◌else◌}
use Rattle.cell_names.specs.declared.houses.HousesFault.{HousesFault}
use Rattle.cell_names.specs.declared.houses.HousesFault.TheVariants.{BadHouses}
use Rattle.cell_names.specs.Houses.{most_houses, count_in_order, list_fault}

-- the first fault of houses from this place on, of which so many may still come, none below this
-- least
abbrev pub walk_list : (master place room least : ℕ) → List ℕ → Option HousesFault
walk_list master place room least [] = None
walk_list master place room least (h ∷ hs) =
    if room == 0 || (h == master || nat_lt h least) then Some (BadHouses place) else walk_list master (place + 1) (room - 1) (h + 1) hs

-- the fault after so many in order, of so many in all
abbrev behind_room : (place room ordered all : ℕ) → Option HousesFault
behind_room place room ordered all = if min ordered room == all then None else Some (BadHouses (min ordered room + place))

at_full : (place room ordered all : ℕ) → (room == 0) ≡ true → 0 < all → Some (BadHouses place) ≡ behind_room place room ordered all
at_full place room ordered all e h = grind arith

at_misplaced : (place room all : ℕ) → 0 < all → Some (BadHouses place) ≡ behind_room place room 0 all
at_misplaced place room all h = grind arith

at_next : (place room ordered all : ℕ) → (room == 0) ≡ false → behind_room (place + 1) (room - 1) ordered all ≡ behind_room place room (1 + ordered) (suc all)
at_next place room ordered all e =
    let some : room ≢ 0 = grind arith in
    let one : (min ordered (room - 1) == all) ≡ (min (1 + ordered) room == suc all) = grind arith in
    let at : min ordered (room - 1) + (place + 1) ≡ min (1 + ordered) room + place = omega arith in
    rw (one, at) refl

walk_list-behind : (master place room least : ℕ) (hs : List ℕ)
    → walk_list master place room least hs ≡ behind_room place room (count_in_order master least hs) (length hs)
walk_list-behind master place room least [] = grind arith
walk_list-behind master place room least (h ∷ hs) =
    by_tests (room == 0) refl (h == master || nat_lt h least) (walk_list-behind master (place + 1) (room - 1) (h + 1) hs)
  where
    by_tests : (full : Bool) → (room == 0) ≡ full → (misplaced : Bool)
        → walk_list master (place + 1) (room - 1) (h + 1) hs ≡ behind_room (place + 1) (room - 1) (count_in_order master (h + 1) hs) (length hs)
        → (if full || misplaced then Some (BadHouses place) else walk_list master (place + 1) (room - 1) (h + 1) hs)
        ≡ behind_room place room (if misplaced then 0 else 1 + count_in_order master (h + 1) hs) (length (h ∷ hs))
    by_tests true e misplaced rest = at_full place room _ (length (h ∷ hs)) e (omega arith)
    by_tests false e true rest = at_misplaced place room (length (h ∷ hs)) (omega arith)
    by_tests false e false rest = rest ∙ at_next place room _ (length hs) e

-- house by house the fault of the list is found
pub walk_list-list_fault : (master : ℕ) (others : List ℕ) → walk_list master 1 (most_houses - 1) 0 others ≡ list_fault master others
walk_list-list_fault master others = walk_list-behind master 1 63 0 others
