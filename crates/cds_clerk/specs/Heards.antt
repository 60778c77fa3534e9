-- What a clerk heard of houses, and what that says of a name.
use Rattle.std.specs.Prelude.{◌≡◌, ℕ, Bool, true, ◌&&◌, ◌==◌, if◌then◌else◌, List, [], ◌∷◌, nat_eq, Option, Some, None}
use Rattle.std.specs.Cmp.Lexicographic.{pointwise}
use Rattle.std.specs.List.{list_any}
use Rattle.std.specs.Option.{option_and_then, option_map}
use Rattle.cds_stamps.specs.declared.numbers.HouseNo.{HouseNo}
use Rattle.cell_names.specs.ChildPointers.{Pointer, pointer_in}
use Rattle.resolver.specs.declared.seen.Found.{Found}
use Rattle.resolver.specs.declared.seen.Seen.{Seen}
use Rattle.resolver.specs.Readers.{Sight, Unreachable, Absent, Object, Link, Child, sight_of}
use Rattle.clerk_lines.specs.declared.hearing.Told.{Told}
use Rattle.clerk_lines.specs.declared.hearing.Told.TheVariants as told
use Rattle.clerk_lines.specs.declared.shown.Lead.{Lead}
use Rattle.clerk_lines.specs.declared.shown.Lead.TheVariants as lead
use Rattle.clerk_lines.specs.ShownEntries.{attr_values}
use Rattle.cds_clerk.specs.declared.heard.Answered.{Answered}
use Rattle.cds_clerk.specs.declared.heard.Heard.{Heard}
use Rattle.cds_clerk.specs.declared.heard.Lack.{Lack}
use Rattle.cds_clerk.specs.declared.heard.Looked.{Looked}
use Rattle.cds_clerk.specs.declared.heard.Looked.TheVariants as looked
use Rattle.cds_clerk.specs.declared.heard.Root.{Root}
use Rattle.cds_clerk.specs.declared.heard.Root.TheVariants as root

-- ---- answers

-- an answer is of this name at this house
abbrev pub is_about : Answered → (dir house : ℕ) → (name : List ℕ) → Bool
is_about a dir house name = a.dir.0 == dir && (a.house.0 == house && pointwise nat_eq a.name name)

-- what a house said of a name, if it was heard: its first answer
unfoldable pub told_of : List Answered → (dir house : ℕ) → (name : List ℕ) → Option Told
told_of [] dir house name = None
told_of (a ∷ more) dir house name =
    if is_about a dir house name then Some a.told else told_of more dir house name

-- where the root directory is, if that was heard; there may be none
abbrev pub heard_root : Root → Option (Option Pointer)
heard_root root.Unheard = None
heard_root root.Nowhere = Some None
heard_root (root.At p) = Some (Some (pointer_in p))

-- ---- what is seen of a name

-- an entry that leads there, at the house that shows it
abbrev pub lead_sight : (house : ℕ) → Lead → Sight
lead_sight house lead.Object = Object house
lead_sight house (lead.Link target) = Link house target
lead_sight house (lead.Child child) = Child house (pointer_in child)

-- by what a house said: nothing yet, if it was not heard; and by later houses, if its answer counts
-- for nothing
abbrev pub seen_by : Option Told → (house : ℕ) → (later : Option Sight) → Option Sight
seen_by None house later = None
seen_by (Some told.Passed) house later = later
seen_by (Some told.Absent) house later = Some (Absent house)
seen_by (Some (told.Shows e)) house later = Some (lead_sight house e.lead)

-- by what these houses said, one after the other, and by later ones
unfoldable pub seen_among : List Answered → (dir : ℕ) → (name : List ℕ) → (houses : List ℕ)
    → (later : Option Sight) → Option Sight
seen_among answers dir name [] later = later
seen_among answers dir name (x ∷ xs) later =
    seen_by (told_of answers dir x name) x (seen_among answers dir name xs later)

-- the house that is near, if it is one of these
abbrev pub near_of : Option ℕ → List ℕ → Option ℕ
near_of near houses =
    option_and_then (λ x. if list_any (λ y. y == x) houses then Some x else None) near

-- a house is one of these
abbrev pub IsAmong : (house : ℕ) → (houses : List ℕ) → Type 0
IsAmong house houses = list_any (λ y. y == house) houses ≡ true

-- by what this house said, if there is one, and by later ones
abbrev pub seen_first : List Answered → (dir : ℕ) → (name : List ℕ) → Option ℕ
    → (later : Option Sight) → Option Sight
seen_first answers dir name None later = later
seen_first answers dir name (Some x) later = seen_by (told_of answers dir x name) x later

-- by what the house said that is near, if it is listed, and by later ones
abbrev pub seen_near : Heard → Pointer → (name : List ℕ) → (later : Option Sight) → Option Sight
seen_near h at name later =
    let near = near_of (option_map (λ x. x.0) h.near) (at.master ∷ at.others) in
    seen_first h.answers at.dir name near later

-- by what was heard: of the listed houses the near one comes first, and if no answer counts, none
-- is reached; nothing yet, if a house was not heard before one whose answer counts
abbrev pub heard_sight : Heard → Pointer → (name : List ℕ) → Option Sight
heard_sight h at name =
    seen_near h at name
    (seen_among h.answers at.dir name (at.master ∷ at.others) (Some Unreachable))

-- ---- what shows of an entry

-- the values of an attribute by what a house said of the entry; nothing yet, if its answer counts
-- for nothing
abbrev pub values_told : Option Told → (attr : List ℕ) → Option (List (List ℕ))
values_told None attr = None
values_told (Some told.Passed) attr = None
values_told (Some told.Absent) attr = Some []
values_told (Some (told.Shows e)) attr = Some (attr_values attr e.attrs)

-- the values of an attribute of an entry, by what its house said
abbrev pub heard_values : Heard → Found → (attr : List ℕ) → Option (List (List ℕ))
heard_values h f attr = values_told (told_of h.answers f.dir.0 f.house.0 f.name) attr

-- ---- what was not heard

-- this was not heard
abbrev pub IsUnheard : Heard → Lack → Type 0
IsUnheard h q = told_of h.answers q.dir.0 q.house.0 q.name ≡ None

-- ---- words of private contracts

-- a look that sees something
abbrev pub IfSeen : Looked → (Seen → Type 0) → Type 0
IfSeen (looked.Seen s) P = P s
IfSeen (looked.Lacks x) P = Unit {0}

-- a look that lacks what a house says
abbrev pub IfLacks : Looked → (HouseNo → Type 0) → Type 0
IfLacks (looked.Seen s) P = Unit {0}
IfLacks (looked.Lacks x) P = P x

-- what a look sees; nothing yet, if it lacks something; and if it has no answer that counts, what
-- is seen by later ones
abbrev pub sight_after : Option Looked → (later : Option Sight) → Option Sight
sight_after None later = later
sight_after (Some (looked.Seen s)) later = Some (sight_of s)
sight_after (Some (looked.Lacks x)) later = None
