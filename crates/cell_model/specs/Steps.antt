-- What each command does to a cell, what it answers, and which updates it accepts (own, after C705,
-- clerks, skulks and epochs).
use Rattle.std.specs.Prelude.{ℕ, ◌+◌, ◌-◌, Bool, true, false, ◌||◌, not, ◌==◌, nat_lt, if◌then◌else◌, List, [], ◌∷◌, ◌++◌, map}
use Rattle.std.specs.Prelude.{length, Option, Some, None, slice_get}
use Rattle.std.specs.List.{list_any}
use Rattle.cds_stamps.specs.declared.members.MemberKind.{MemberKind}
use Rattle.cds_stamps.specs.declared.members.MemberKind.TheVariants.{Master, ReadOnly, Secondary}
use Rattle.cds_stamps.specs.Members.{Member, is_listed, since_in, most_members}
use Rattle.cds_stamps.specs.Numbers.{root_dir}
use Rattle.directory.specs.Updates as updates
use Rattle.cell_model.specs.Sets.{has}
use Rattle.cell_model.specs.Turns.{HouseStep, Stays, Turns, first_joins, found_directory, accept, skulk, new_epoch, take, crashed_house, started_house}
use Rattle.cell_model.specs.Cells.{Absent, House, Message, Cell, empty_cell, put}
use Rattle.cell_model.specs.Commands as commands
use Rattle.cell_model.specs.Commands.{Command, Refusal, HouseExists, NoHouse, NoDirectory, DirectoryExists, BadMembers, NotMember, Down, Up}
use Rattle.cell_model.specs.Commands.{NoMessage, Answer, Done, Posted, Made, Stamped, NewEpoch, Refused, Accepted}

-- what a command comes to (own)
pub record Outcome : Type 0 where
  pub cell : Cell
  pub answer : Answer
  pub accepted : List Accepted

-- ---- refusals

-- the cell stays as it is (own)
abbrev pub stays : Cell → Answer → Outcome
stays g answer = record { cell = g; answer = answer; accepted = [] }

-- a refused command changes nothing (own)
abbrev pub refusal_outcome : Cell → Refusal → Outcome
refusal_outcome g r = stays g (Refused r)

-- the first refusal whose test holds (own)
abbrev pub first_refusal : List (Bool × Refusal) → Option Refusal
first_refusal [] = None
first_refusal (t ∷ ts) = if t.0 then Some t.1 else first_refusal ts

-- refused, or else this (own)
abbrev pub unless : Cell → Option Refusal → Outcome → Outcome
unless g None o = o
unless g (Some r) o = refusal_outcome g r

-- one of these houses was not made (own)
abbrev pub is_missing : Cell → List ℕ → Bool
is_missing g hs = list_any (λ h. not (has h g.made)) hs

-- the number or the node is another house's (own)
abbrev pub is_taken : Cell → ℕ → ℕ → Bool
is_taken g h node = list_any (λ x. (x == h) || ((g.house x).node == node)) g.made

-- a house that must act is down (own)
abbrev pub is_down : Cell → ℕ → Bool
is_down g h = not (g.house h).up

-- no `root` or `mkdir` gave this number (own)
abbrev pub is_unknown : Cell → ℕ → Bool
is_unknown g d = g.top d == 0

-- a house is there twice (own)
abbrev pub stands_twice : List ℕ → Bool
stands_twice [] = false
stands_twice (x ∷ xs) = has x xs || stands_twice xs

-- a house is there twice, or there are more than most_members (own)
abbrev pub is_bad_list : List ℕ → Bool
is_bad_list hs = stands_twice hs || nat_lt most_members (length hs)

-- ---- a house's step in the cell

-- a house changes, and messages are posted (own)
abbrev pub move_house : Cell → ℕ → House → List Message → Cell
move_house g h now posts = record g { house = put g.house h now; bag = g.bag ++ posts }

-- the serials of messages that are posted after n others (own)
abbrev pub serials : ℕ → List Message → List ℕ
serials n [] = []
serials n (m ∷ ms) = (n + 1) ∷ serials (n + 1) ms

-- the serials of messages that are posted next (own)
abbrev pub serials_of : Cell → List Message → List ℕ
serials_of g posts = serials (length g.bag) posts

-- what a house's step does to the cell: no other house changes, and what it posts comes after all
-- that was posted (own)
abbrev pub at_house : Cell → ℕ → HouseStep → Outcome
at_house g h (Stays answer) = stays g answer
at_house g h (Turns t) = record { cell = move_house g h t.house t.posts; answer = t.answer (serials_of g t.posts); accepted = t.accepted }

-- ---- member lists

-- one more house, in its place (own)
abbrev pub insert_house : ℕ → List ℕ → List ℕ
insert_house x [] = x ∷ []
insert_house x (y ∷ ys) = if nat_lt y x then y ∷ insert_house x ys else x ∷ y ∷ ys

-- houses in ascending order (own)
abbrev pub sorted_houses : List ℕ → List ℕ
sorted_houses [] = []
sorted_houses (x ∷ xs) = insert_house x (sorted_houses xs)

-- what a listed house is, by the master and the secondary houses of its list (own, after C705,
-- replica sets)
abbrev pub kind_among : (m : ℕ) → (ss : List ℕ) → (x : ℕ) → MemberKind
kind_among m ss x = if x == m then Master else (if has x ss then Secondary else ReadOnly)

-- the member list of epoch k with this master and these other houses, of which ss are secondary: a
-- house that the old list has keeps its `since` (own, after C705, new epochs)
abbrev pub member_list_of : (old : List Member) → (k m : ℕ) → (rs ss : List ℕ) → List Member
member_list_of old k m rs ss = map (λ x. record { house = x; since = since_in old x k; kind = kind_among m ss x }) (sorted_houses (m ∷ rs))

-- those of the old list that the new one has no more (own)
abbrev pub left_members : List Member → List Member → List ℕ
left_members [] now = []
left_members (y ∷ ys) now = if is_listed y.house now then left_members ys now else y.house ∷ left_members ys now

-- ---- houses, directories and epochs

-- a house that is up, with clock 0, floor 0 and no directory (own)
abbrev pub new_house : Cell → ℕ → ℕ → Cell
new_house g h node =
    record g { made = g.made ++ h ∷ []; house = put g.house h (record { node = node; clock = 0; floor = 0; up = true; slots = λ d. Absent }) }

-- the clock of a house is set, whether it is up or down (own)
abbrev pub set_clock : Cell → ℕ → ℕ → Cell
set_clock g h time = record g { house = put g.house h (record (g.house h) { clock = time }) }

-- the console knows the last epoch of a directory, and its list (own)
abbrev pub note_epoch : Cell → (d k : ℕ) → List Member → Cell
note_epoch g d k ms = record g { top = put g.top d k; present = put g.present d ms }

-- the cell with a new directory: its master holds it, and the console knows it (own)
abbrev pub cell_with_directory : Cell → (d m : ℕ) → List Member → Cell
cell_with_directory g d m ms = note_epoch (at_house g m (Turns (found_directory m (g.house m) d ms))).cell d 1 ms

-- the root of the cell (own, after C705, the root directory)
abbrev pub root : Cell → ℕ → List Member → Outcome
root g m ms = record { cell = cell_with_directory g root_dir m ms; answer = Posted (serials_of g (first_joins (g.house m).floor root_dir m ms)); accepted = [] }

-- an update that was accepted and makes the child, and then the child's directory (own, after C705,
-- creating a directory)
abbrev pub with_directory : Outcome → (d m : ℕ) → List Member → Answer → Outcome
with_directory o d m ms (Stamped s ns) =
    record {
      cell = record (cell_with_directory o.cell d m ms) { next_dir = d + 1 };
      answer = Made d s (ns ++ serials_of o.cell (first_joins (o.cell.house m).floor d m ms));
      accepted = o.accepted;
    }
with_directory o d m ms _ = o

-- a child in the directory d, and its directory, with the next number (own)
abbrev pub mkdir : Cell → (h d : ℕ) → List ℕ → ℕ → (rs ss : List ℕ) → Outcome
mkdir g h d n m rs ss =
    let o : Outcome = at_house g h (accept h (g.house h) d (updates.MakeChild n (record { dir = g.next_dir; master = m; others = sorted_houses rs }))) in
    with_directory o g.next_dir m (member_list_of [] 1 m rs ss) o.answer

-- a new epoch that its master took is known to the console (own)
abbrev pub with_epoch : Outcome → ℕ → List Member → Answer → Outcome
with_epoch o d ms (NewEpoch k ns) = record o { cell = note_epoch o.cell d k ms }
with_epoch o d ms _ = o

-- the next epoch of a directory, with this master and these other houses, of which ss are secondary
-- (own, after C705, new epochs)
abbrev pub next_epoch : Cell → (d m : ℕ) → (rs ss : List ℕ) → Outcome
next_epoch g d m rs ss =
    let ms : List Member = member_list_of (g.present d) (g.top d + 1) m rs ss in
    let o : Outcome = at_house g m (new_epoch m (g.house m) d (g.top d + 1) ms (left_members (g.present d) ms)) in
    with_epoch o d ms o.answer

-- ---- messages

-- the message of a serial, unless it was lost (own)
abbrev pub message_at : Cell → ℕ → Option Message
message_at g n = if (n == 0) || has n g.lost then None else slice_get g.bag (n - 1)

-- the message is delivered, where its receiver is up; it stays in the bag (own)
abbrev pub deliver : Cell → Option Message → Outcome
deliver g None = refusal_outcome g NoMessage
deliver g (Some m) = if is_down g m.receiver then refusal_outcome g Down else at_house g m.receiver (take (g.house m.receiver) m)

-- the message is lost for good (own)
abbrev pub lose : Cell → ℕ → Option Message → Outcome
lose g n None = refusal_outcome g NoMessage
lose g n (Some m) = stays (record g { lost = n ∷ g.lost }) Done

-- ---- crashes

-- the house is down (own)
abbrev pub crash : Cell → ℕ → Cell
crash g h = move_house g h (crashed_house (g.house h)) []

-- the house is up (own)
abbrev pub start : Cell → ℕ → Cell
start g h = move_house g h (started_house (g.house h)) []

-- ---- commands

-- the tests of a command's refusals, in order; those of an update, a skulk, an epoch at its house
-- and those of a message come after, in what the command does (own)
abbrev pub refusals_of : Cell → Command → List (Bool × Refusal)
refusals_of g (commands.House h node) = (is_taken g h node, HouseExists) ∷ []
refusals_of g (commands.Clock h time) = (is_missing g (h ∷ []), NoHouse) ∷ []
refusals_of g (commands.Root m rs ss) =
    (not (is_unknown g root_dir), DirectoryExists) ∷ (is_missing g (m ∷ rs), NoHouse) ∷ (is_bad_list (m ∷ rs), BadMembers) ∷ (is_down g m, Down) ∷ []
refusals_of g (commands.Mkdir h d n m rs ss) =
    (is_unknown g d, NoDirectory) ∷ (is_missing g (h ∷ m ∷ rs), NoHouse) ∷ (is_bad_list (m ∷ rs), BadMembers) ∷ (is_down g h || is_down g m, Down) ∷ []
refusals_of g (commands.Repoint h d n m rs) =
    (is_unknown g d, NoDirectory) ∷ (is_missing g (h ∷ m ∷ rs), NoHouse) ∷ (is_bad_list (m ∷ rs), BadMembers) ∷ (is_down g h, Down) ∷ []
refusals_of g (commands.Accept h d u) = (is_unknown g d, NoDirectory) ∷ (is_missing g (h ∷ []), NoHouse) ∷ (is_down g h, Down) ∷ []
refusals_of g (commands.Epoch d m rs ss) =
    (is_unknown g d, NoDirectory) ∷ (is_missing g (m ∷ rs), NoHouse) ∷ (is_bad_list (m ∷ rs), BadMembers)
    ∷ (not (is_listed m (g.present d)), NotMember) ∷ (is_down g m, Down) ∷ []
refusals_of g (commands.Skulk h d) = (is_unknown g d, NoDirectory) ∷ (is_missing g (h ∷ []), NoHouse) ∷ (is_down g h, Down) ∷ []
refusals_of g (commands.Deliver n) = []
refusals_of g (commands.Lose n) = []
refusals_of g (commands.Crash h) = (is_missing g (h ∷ []), NoHouse) ∷ (is_down g h, Down) ∷ []
refusals_of g (commands.Start h) = (is_missing g (h ∷ []), NoHouse) ∷ (not (is_down g h), Up) ∷ []

-- what a command does where none of them holds (own)
abbrev pub effect : Cell → Command → Outcome
effect g (commands.House h node) = stays (new_house g h node) Done
effect g (commands.Clock h time) = stays (set_clock g h time) Done
effect g (commands.Root m rs ss) = root g m (member_list_of [] 1 m rs ss)
effect g (commands.Mkdir h d n m rs ss) = mkdir g h d n m rs ss
effect g (commands.Repoint h d n m rs) = at_house g h (accept h (g.house h) d (updates.Repoint n m (sorted_houses rs)))
effect g (commands.Accept h d u) = at_house g h (accept h (g.house h) d u)
effect g (commands.Epoch d m rs ss) = next_epoch g d m rs ss
effect g (commands.Skulk h d) = at_house g h (skulk h (g.house h) d)
effect g (commands.Deliver n) = deliver g (message_at g n)
effect g (commands.Lose n) = lose g n (message_at g n)
effect g (commands.Crash h) = stays (crash g h) Done
effect g (commands.Start h) = stays (start g h) Done

-- the step, the answer and the accepted updates of a command (own)
abbrev pub outcome : Cell → Command → Outcome
outcome g c = unless g (first_refusal (refusals_of g c)) (effect g c)

-- ---- runs

-- the cell after a list of commands, from this cell (own)
abbrev pub replay_from : Cell → List Command → Cell
replay_from g [] = g
replay_from g (c ∷ cs) = replay_from (outcome g c).cell cs

-- the cell after a list of commands (own)
abbrev pub replay : List Command → Cell
replay = replay_from empty_cell

-- the answers of a list of commands, from this cell (own)
abbrev pub answers_from : Cell → List Command → List Answer
answers_from g [] = []
answers_from g (c ∷ cs) = (outcome g c).answer ∷ answers_from (outcome g c).cell cs

-- the answers of a list of commands (own)
abbrev pub answers : List Command → List Answer
answers = answers_from empty_cell

-- the updates that a list of commands accepted (own)
abbrev pub accepted_from : Cell → List Command → List Accepted
accepted_from g [] = []
accepted_from g (c ∷ cs) = (outcome g c).accepted ++ accepted_from (outcome g c).cell cs

-- the updates that a list of commands accepted (own)
abbrev pub accepted_updates : List Command → List Accepted
accepted_updates = accepted_from empty_cell
