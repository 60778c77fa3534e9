-- Orders of the entries of houses, by octets and numbers alone, and the commands that such an order
-- is.
use Rattle.std.specs.Prelude.{◌≡◌, ℕ, zero, suc, ◌+◌, true, false, ◌&&◌, ◌==◌, if◌then◌else◌, List, [], ◌∷◌, ◌++◌, map}
use Rattle.std.specs.Str.{bytes_eq}
use Rattle.cds_stamps.specs.Members.{Member, is_listed, others_of, secondaries_of}
use Rattle.cds_stamps.specs.Numbers.{root_dir}
use Rattle.cell_model.specs.Cells.{Absent, House, put}
use Rattle.cell_model.specs.Commands as commands
use Rattle.cell_model.specs.Commands.{Command, Answer, Refusal, Refused}
use Rattle.cell_model.specs.Sets.{In, has}
use Rattle.cell_model.specs.Steps.{answers, is_bad_list, left_members, member_list_of, stands_twice}
use Rattle.cell_runs.specs.Entries.{Order, Root, Mkdir, Accept, Skulk, Epoch, Take, Post, Entry, Started, Turned}
use Rattle.cell_runs.specs.HonestRuns.{IsHonest}

-- ---- what is known

-- what is known after some entries: the houses that there are, the messages that were posted, and
-- what the console gave: the last epoch of each directory, its members, and the number of the next
-- directory
pub record Seen : Type 0 where
  pub made : List ℕ
  pub posts : List Post
  pub top : ℕ → ℕ
  pub present : ℕ → List Member
  pub next_dir : ℕ

-- before the first entry
abbrev pub nothing_seen : List ℕ → Seen
nothing_seen houses =
    record { made = houses; posts = []; top = λ d. 0; present = λ d. []; next_dir = 2 }

-- an epoch of a directory is known
abbrev pub note_seen : Seen → (d k : ℕ) → List Member → Seen
note_seen s d k ms = record s { top = put s.top d k; present = put s.present d ms }

-- what an order of the house x makes known
abbrev pub order_seen : Seen → (x : ℕ) → Order → Seen
order_seen s x (Root rs ss) = note_seen s root_dir 1 (member_list_of [] 1 x rs ss)
order_seen s x (Mkdir d n made rs ss) =
    record (note_seen s made 1 (member_list_of [] 1 x rs ss)) { next_dir = made + 1 }
order_seen s x (Epoch d k ms left) = note_seen s d k ms
order_seen s x other = s

-- what is known after one more entry, of the house x
abbrev pub after : Seen → (x : ℕ) → Entry → Seen
after s x (Started image) = s
after s x (Turned e) = record (order_seen s x e.order) { posts = s.posts ++ e.posts }

-- ---- which entry can follow

-- all of these houses are there
abbrev pub AreMade : Seen → List ℕ → Type 0
AreMade s hs = (h : ℕ) → In h hs → has h s.made ≡ true

-- the console gives this epoch to the house x: the one after the last, to a house that is listed,
-- with the members that follow from those of the last one (own, after C705, new epochs)
pub record IsGiven (s : Seen) (x d k : ℕ) (ms : List Member) (left : List ℕ) : Type 0 where
  pub next : k ≡ s.top d + 1
  pub listed : is_listed x (s.present d) ≡ true
  pub made : AreMade s (others_of x ms)
  pub good : is_bad_list (x ∷ others_of x ms) ≡ false
  pub members : ms ≡ member_list_of (s.present d) k x (others_of x ms) (secondaries_of ms)
  pub leaving : left ≡ left_members (s.present d) ms

-- the order of the house x can follow: what it takes was posted to it, and the console numbers
-- directories and epochs one after the other
abbrev pub CanFollow : Seen → (x : ℕ) → Order → Type 0
CanFollow s x (Root rs ss) = (s.top root_dir ≡ 0) × AreMade s rs
CanFollow s x (Mkdir d n made rs ss) = (s.next_dir ≡ made) × AreMade s rs
CanFollow s x (Accept d u) = Unit {0}
CanFollow s x (Skulk d) = Unit {0}
CanFollow s x (Epoch d k ms left) = IsGiven s x d k ms left
CanFollow s x (Take octets) = In (record { to = x; octets = octets }) s.posts

-- the entry can: a start always
abbrev pub EntryFollows : Seen → (x : ℕ) → Entry → Type 0
EntryFollows s x (Started image) = Unit {0}
EntryFollows s x (Turned e) = CanFollow s x e.order

-- each entry of a list, with its house, can follow those before it
abbrev pub Follows : Seen → List (ℕ × Entry) → Type 0
Follows s [] = Unit {0}
Follows s (e ∷ line) = EntryFollows s e.0 e.1 × Follows (after s e.0 e.1) line

-- the entries of the house x in a list
abbrev pub entries_of : (x : ℕ) → List (ℕ × Entry) → List Entry
entries_of x [] = []
entries_of x (e ∷ line) = if e.0 == x then e.1 ∷ entries_of x line else entries_of x line

-- ---- commands

-- where the first message of these octets to the house x is among those that were posted, from 0
--
abbrev pub place_of : (x : ℕ) → (octets : List ℕ) → List Post → ℕ
place_of x octets [] = zero
place_of x octets (p ∷ ps) =
    if (p.to == x) && bytes_eq octets p.octets then zero else suc (place_of x octets ps)

-- the command that an order of the house x is
abbrev pub command_of : Seen → (x : ℕ) → Order → Command
command_of s x (Root rs ss) = commands.Root x rs ss
command_of s x (Mkdir d n made rs ss) = commands.Mkdir x d n x rs ss
command_of s x (Accept d u) = commands.Accept x d u
command_of s x (Skulk d) = commands.Skulk x d
command_of s x (Epoch d k ms left) = commands.Epoch d x (others_of x ms) (secondaries_of ms)
command_of s x (Take octets) = commands.Deliver (suc (place_of x octets s.posts))

-- the commands that an entry is: a crash and a start; or the clock, and the command of its order
--
abbrev pub entry_commands : Seen → (x : ℕ) → Entry → List Command
entry_commands s x (Started image) = commands.Crash x ∷ commands.Start x ∷ []
entry_commands s x (Turned e) = commands.Clock x e.clock ∷ command_of s x e.order ∷ []

-- those of a list of entries, each with its house
abbrev pub line_commands : Seen → List (ℕ × Entry) → List Command
line_commands s [] = []
line_commands s (e ∷ line) = entry_commands s e.0 e.1 ++ line_commands (after s e.0 e.1) line

-- ---- runs

-- a house that was made, and its node
pub record MadeHouse : Type 0 where
  pub house : ℕ
  pub node : ℕ

-- the numbers of these
abbrev pub numbers_in : List MadeHouse → List ℕ
numbers_in = map (λ h. h.house)

-- a house without directories
abbrev pub new_house : (node : ℕ) → House
new_house node = record { node = node; clock = 0; floor = 0; up = true; slots = λ d. Absent }

-- the commands that make houses
abbrev pub house_commands : List MadeHouse → List Command
house_commands = map (λ h. commands.House h.house h.node)

-- the entries of houses: no number and no node is twice; each house does as the model does; and no
-- other house has any
pub record AreRuns (houses : List MadeHouse) (logs : ℕ → List Entry) : Type 0 where
  pub numbers : stands_twice (numbers_in houses) ≡ false
  pub nodes : stands_twice (map (λ h. h.node) houses) ≡ false
  pub honest : (h : MadeHouse) → In h houses → IsHonest h.house (new_house h.node) (logs h.house)
  pub others : (x : ℕ) → has x (numbers_in houses) ≡ false → logs x ≡ []

-- an order of all entries, in which each can follow those before it
pub record IsOrderOf (houses : List MadeHouse) (logs : ℕ → List Entry) (line : List (ℕ × Entry)) :
    Type 0 where
  pub merge : (x : ℕ) → entries_of x line ≡ logs x
  pub follows : Follows (nothing_seen (numbers_in houses)) line

-- the commands of such an order
abbrev pub commands_of : List MadeHouse → List (ℕ × Entry) → List Command
commands_of houses line =
    house_commands houses ++ line_commands (nothing_seen (numbers_in houses)) line

-- no command is refused
abbrev pub NoneRefused : List Command → Type 0
NoneRefused cs = (r : Refusal) → In (Refused r) (answers cs) → ⊥

-- what is known after a list of entries
abbrev pub after_all : Seen → List (ℕ × Entry) → Seen
after_all s [] = s
after_all s (e ∷ line) = after_all (after s e.0 e.1) line

-- an entry that can follow: the first one that is left of its house
pub record HasNext (s : Seen) (left : ℕ → List Entry) : Type 0 where
  pub house : ℕ
  pub entry : Entry
  pub others : List Entry
  pub first : left house ≡ entry ∷ others
  pub follows : EntryFollows s house entry
