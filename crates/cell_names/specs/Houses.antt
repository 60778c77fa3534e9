-- The houses of a child pointer, and the first fault of houses that are none (own, after C705,
-- child pointers).
use Rattle.std.specs.Prelude.{◌≢◌, ℕ, ◌+◌, ◌-◌, ◌≤◌, min, Bool, ◌&&◌, ◌||◌, nat_lt, nat_eq, ◌==◌}
use Rattle.std.specs.Prelude.{List, [], ◌∷◌, length, Option, Some, None, if◌then◌else◌}
use Rattle.std.specs.Cmp.Lexicographic.{pointwise}
use Rattle.std.specs.List.{All}
use Rattle.std.specs.List.Sorted.{IsStrictlyIncreasing}
use Rattle.cds_stamps.specs.Members.{most_members}
use Rattle.cell_names.specs.declared.houses.HousesFault.{HousesFault}
use Rattle.cell_names.specs.declared.houses.HousesFault.TheVariants.{BadHouses}

-- the house of a directory's master, and the other houses that have it (C705, child pointers)
pub record Houses : Type 0 where
  pub master : ℕ
  pub others : List ℕ

-- the most houses of a child pointer: each is a member of the directory (own)
abbrev pub most_houses : ℕ
most_houses = most_members

-- the other houses ascend, the master is none of them, and all are not too many (own)
pub record IsHouses (h : Houses) : Type 0 where
  pub ascending : IsStrictlyIncreasing h.others
  pub apart : All (λ house. house ≢ h.master) h.others
  pub few : 1 + length h.others ≤ most_houses

-- how many houses from the front on ascend from this least and leave out the master (own)
abbrev pub count_in_order : (master least : ℕ) → List ℕ → ℕ
count_in_order master least [] = 0
count_in_order master least (h ∷ hs) = if h == master || nat_lt h least then 0 else 1 + count_in_order master (h + 1) hs

-- the fault of other houses: after those that are in order, and at the latest after as many as may
-- be (own)
abbrev pub list_fault : (master : ℕ) → List ℕ → Option HousesFault
list_fault master others =
    let ordered = min (count_in_order master 0 others) (most_houses - 1) in
    if ordered == length others then None else Some (BadHouses (ordered + 1))

-- the two are the same houses (own)
abbrev pub is_houses : Houses → Houses → Bool
is_houses a b = (a.master == b.master) && pointwise nat_eq a.others b.others
