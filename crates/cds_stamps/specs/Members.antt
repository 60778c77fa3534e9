-- Member lists of a directory's replica set, in ascending house number (own, after C705, replica
-- sets).
use Rattle.std.specs.Prelude.{◌≡◌, ℕ, ◌+◌, ◌<◌, ◌≤◌, Bool, true, false, ◌&&◌, ◌||◌, ◌==◌, nat_lt, List}
use Rattle.std.specs.Prelude.{[], ◌∷◌, length, map, Option, Some, None, if◌then◌else◌}
use Rattle.std.specs.List.{position_from, count_by}
use Rattle.std.specs.List.Sorted.{IsStrictlyIncreasing}
use Rattle.cds_stamps.specs.declared.members.Member as declared
use Rattle.cds_stamps.specs.declared.members.MemberKind.{MemberKind}
use Rattle.cds_stamps.specs.declared.members.MemberKind.TheVariants.{Master, ReadOnly, Secondary}
use Rattle.cds_stamps.specs.declared.members.MembersFault.{MembersFault}
use Rattle.cds_stamps.specs.declared.members.MembersFault.TheVariants.{BadCount, NotAscending, BadMaster}

-- a house, the epoch that began its unbroken run of being listed, and what it is (own)
pub record Member : Type 0 where
  pub house : ℕ
  pub since : ℕ
  pub kind : MemberKind

-- a member of this kind is the master (own)
abbrev pub is_master : MemberKind → Bool
is_master Master = true
is_master ReadOnly = false
is_master Secondary = false

-- a member of this kind accepts updates (own, after C705, replica sets)
abbrev pub accepts_updates : MemberKind → Bool
accepts_updates Master = true
accepts_updates ReadOnly = false
accepts_updates Secondary = true

-- a member of this kind is secondary (own)
abbrev pub is_secondary : MemberKind → Bool
is_secondary Master = false
is_secondary ReadOnly = false
is_secondary Secondary = true

-- the secondary houses, in the order of the list (own)
abbrev pub secondaries_of : List Member → List ℕ
secondaries_of [] = []
secondaries_of (y ∷ ys) = if is_secondary y.kind then y.house ∷ secondaries_of ys else secondaries_of ys

-- the house of the first master, or 0, which is no house (own)
abbrev pub master_of : List Member → ℕ
master_of [] = 0
master_of (y ∷ ys) = if is_master y.kind then y.house else master_of ys

-- the houses but this one, in the order of the list (own)
abbrev pub others_of : ℕ → List Member → List ℕ
others_of h [] = []
others_of h (y ∷ ys) = if y.house == h then others_of h ys else y.house ∷ others_of h ys

-- the house is listed (own)
abbrev pub is_listed : ℕ → List Member → Bool
is_listed x [] = false
is_listed x (y ∷ ys) = (y.house == x) || is_listed x ys

-- the house is listed, and accepts updates (own)
abbrev pub is_accepting : ℕ → List Member → Bool
is_accepting x [] = false
is_accepting x (y ∷ ys) = ((y.house == x) && accepts_updates y.kind) || is_accepting x ys

-- the `since` of a house, or the default where it is not listed (own)
abbrev pub since_in : List Member → ℕ → ℕ → ℕ
since_in [] x default = default
since_in (y ∷ ys) x default = if y.house == x then y.since else since_in ys x default

-- a member of the program, by its numbers (own)
abbrev pub member_of : declared.Member → Member
member_of m = record { house = m.house.0; since = m.since.0; kind = m.kind }

-- the members of the program, by their numbers (own)
abbrev pub members_of : List declared.Member → List Member
members_of = map member_of

-- the place of a house in the list, from 0 on; none, where it is not listed (own)
abbrev pub place_of : ℕ → List Member → Option ℕ
place_of x = position_from (λ m. m.house == x) 0

-- the most members of a directory (own)
abbrev pub most_members : ℕ
most_members = 64

-- how many of the list are masters (own)
abbrev pub masters_in : List Member → ℕ
masters_in = count_by (λ m. is_master m.kind)

-- the house numbers ascend (own)
abbrev pub IsAscending : List Member → Type 0
IsAscending ms = IsStrictlyIncreasing (map (λ m. m.house) ms)

-- a member list: 1 to 64 houses, ascending, of which exactly one is master (own, after C705,
-- replica sets)
pub record IsMembers (ms : List Member) : Type 0 where
  pub filled : 0 < length ms
  pub few : length ms ≤ most_members
  pub ascending : IsAscending ms
  pub one_master : masters_in ms ≡ 1

-- the first place, from this one on, whose house is below the least that may come there (own)
abbrev pub first_unordered : (place least : ℕ) → List Member → Option ℕ
first_unordered place least [] = None
first_unordered place least (y ∷ ys) = if nat_lt y.house least then Some place else first_unordered (place + 1) (y.house + 1) ys

-- the fault of so many masters (own)
abbrev pub master_fault : ℕ → Option MembersFault
master_fault masters = if masters == 1 then None else Some BadMaster

-- a place that is out of order, else the other fault (own)
abbrev pub unordered_or : Option MembersFault → Option ℕ → Option MembersFault
unordered_or other None = other
unordered_or other (Some place) = Some (NotAscending place)

-- the first fault of a list that is no member list: their number, their order, the masters (own)
abbrev pub members_fault : List Member → Option MembersFault
members_fault ms =
    if (length ms == 0) || nat_lt most_members (length ms) then Some BadCount
    else unordered_or (master_fault (masters_in ms)) (first_unordered 1 0 ms)
