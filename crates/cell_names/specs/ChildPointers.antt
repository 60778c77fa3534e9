-- Child pointers, and the first fault of octets that are none (own, after C705, child pointers).
use Rattle.std.specs.Prelude.{◌≡◌, ℕ, ◌+◌, ◌-◌, ◌<◌, ◌^◌, min, Bool, ◌&&◌, ◌||◌, nat_lt}
use Rattle.std.specs.Prelude.{◌==◌, List, [], ◌∷◌, ◌++◌, Option, Some, None, is_none, length, if◌then◌else◌}
use Rattle.std.specs.Int.{to_be_bytes, from_be_bytes, w32}
use Rattle.std.specs.List.{All}
use Rattle.cell_names.specs.Houses.{IsHouses, most_houses, count_in_order}
use Rattle.cell_names.specs.declared.pointer.ChildPointer.{ChildPointer}
use Rattle.cell_names.specs.declared.pointer.ChildFault.{ChildFault}
use Rattle.cell_names.specs.declared.pointer.ChildFault.TheVariants.{BadChild}

-- a child directory: its number, the house of its master, and its other houses (C705, child
-- pointers)
pub record Pointer : Type 0 where
  pub dir : ℕ
  pub master : ℕ
  pub others : List ℕ

-- the pointer that a value of the program is (own)
abbrev pub pointer_in : ChildPointer → Pointer
pointer_in p = record { dir = p.dir.0; master = p.houses.master; others = p.houses.others }

-- the numbers are in range, and the houses are those of a child pointer (own)
pub record IsPointer (p : Pointer) : Type 0 where
  pub dir : p.dir < 2 ^ 32
  pub master : p.master < 2 ^ 8
  pub others : All (λ h. h < 2 ^ 8) p.others
  pub houses : IsHouses (record { master = p.master; others = p.others })

-- the directory in four octets, the highest first; how many houses; the master; the other houses
-- (own)
abbrev pub pointer_octets : Pointer → List ℕ
pointer_octets p = to_be_bytes w32 p.dir ++ (1 + length p.others) ∷ p.master ∷ p.others

-- the places of the number of houses, of the master and of the first other house, counted from 1
-- (own)
abbrev pub count_place : ℕ
count_place = 5

-- the place of the master's house (own)
abbrev pub master_place : ℕ
master_place = 6

-- the place of the first of the other houses (own)
abbrev pub others_place : ℕ
others_place = 7

-- the fault of the houses beside this master, from this place on: after those that are in order, or
-- after as many as there are to be; none, where all are in order and as many (own)
abbrev pub others_fault : (master place count : ℕ) → List ℕ → Option ChildFault
others_fault master place count others =
    let ordered = count_in_order master 0 others in
    if ordered == count && length others == count then None else Some (BadChild (place + min ordered count))

-- the fault of so many houses, the master's first (own)
abbrev pub houses_fault : (count : ℕ) → List ℕ → Option ChildFault
houses_fault count [] = Some (BadChild master_place)
houses_fault count (master ∷ others) = others_fault master others_place (count - 1) others

-- the fault of octets that are no child pointer: the first field that breaks the form, the first
-- octet that is missing, or the first octet too many (own)
abbrev pub pointer_fault : List ℕ → Option ChildFault
pointer_fault (a ∷ b ∷ c ∷ d ∷ count ∷ houses) =
    if count == 0 || nat_lt most_houses count then Some (BadChild count_place) else houses_fault count houses
pointer_fault octets = Some (BadChild (length octets + 1))

-- the octets are a child pointer (own)
abbrev pub is_child_pointer : List ℕ → Bool
is_child_pointer octets = is_none (pointer_fault octets)

-- what the octets of a child pointer say (own)
abbrev pub pointer_of : List ℕ → Option Pointer
pointer_of (a ∷ b ∷ c ∷ d ∷ count ∷ master ∷ others) =
    if is_child_pointer
    (a ∷ b ∷ c ∷ d ∷ count ∷ master ∷ others) then Some
    (record { dir = from_be_bytes w32 (a ∷ b ∷ c ∷ d ∷ []); master = master; others = others }) else None
pointer_of octets = None

-- the octets are those of a pointer (own)
pub record IsChildPointer (octets : List ℕ) : Type 0 where
  pub pointer : Pointer
  pub lawful : IsPointer pointer
  pub spelled : octets ≡ pointer_octets pointer
