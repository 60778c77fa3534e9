-- What a house sees of the run of a cell.
use Rattle.std.specs.Prelude.{ℕ, Bool, true, false, ◌+◌, ◌==◌, if◌then◌else◌, List, [], ◌∷◌, length, map, drop, Option, Some, None}
use Rattle.cds_records.specs.RecordOctets.{image_octets}
use Rattle.directory.specs.Updates as updates
use Rattle.cell_model.specs.Cells.{Cell, Message}
use Rattle.cell_model.specs.Commands as commands
use Rattle.cell_model.specs.Commands.{Command, Answer}
use Rattle.cell_model.specs.Steps.{Outcome, left_members, member_list_of, message_at, outcome, sorted_houses}
use Rattle.cds_cell.specs.Recorded.{image_at, octets_of}
use Rattle.cell_runs.specs.Entries.{Order, Root, Mkdir, Accept, Skulk, Epoch, Take, Post, Entry, Started, Turned}
use Rattle.cell_runs.specs.LineAnswers.{answer_said}

-- octets, or none where a message is no record, as none in a cell is
abbrev pub or_none : Option (List ℕ) → List ℕ
or_none None = []
or_none (Some octets) = octets

-- a message of the model, as a post
abbrev pub post_of : Message → Post
post_of m = record { to = m.receiver; octets = or_none (octets_of m) }

-- the answer says that something was done: not that it was refused, or in vain
abbrev pub is_turn : Answer → Bool
is_turn (commands.Posted ns) = true
is_turn (commands.Made d s ns) = true
is_turn (commands.Stamped s ns) = true
is_turn (commands.NewEpoch e ns) = true
is_turn (commands.Taken ns) = true
is_turn (commands.Complete t ns) = true
is_turn other = false

-- the octets of a house's image in a cell
abbrev pub image_in : Cell → ℕ → List ℕ
image_in g x = image_octets (image_at g x)

-- an order at the house x that came to this: its entry, if it was a turn
abbrev pub turn_seen : Cell → (x : ℕ) → Order → Outcome → Option (ℕ × Entry)
turn_seen g x order o =
    if is_turn o.answer
    then Some (
      x,
      Turned (record {
        clock = (g.house x).clock;
        order = order;
        posts = map post_of (drop (length g.bag) o.cell.bag);
        answer = answer_said o.answer;
        image = image_in o.cell x;
      }),
    )
    else None

-- a message was delivered: its receiver took these octets
abbrev pub taking_seen : Cell → Option Message → Outcome → Option (ℕ × Entry)
taking_seen g None o = None
taking_seen g (Some m) o = turn_seen g m.receiver (Take (or_none (octets_of m))) o

-- the entry of a start, if a house was down
abbrev pub start_seen : (x : ℕ) → Cell → Answer → Option (ℕ × Entry)
start_seen x g commands.Done = Some (x, Started (image_in g x))
start_seen x g other = None

-- an epoch, with the members that the console gives it, and those that leave (own, after C705, new
-- epochs)
abbrev pub epoch_order : Cell → (d : ℕ) → (k : ℕ) → (m : ℕ) → (rs ss : List ℕ) → Order
epoch_order g d k m rs ss =
    Epoch d k (member_list_of (g.present d) k m rs ss)
    (left_members (g.present d) (member_list_of (g.present d) k m rs ss))

-- the entry that a command makes, and the house that makes it: none if the command is refused or in
-- vain. A child whose directory has another master is made by two houses, and no entry tells that
--
abbrev pub seen_at : Cell → Command → Option (ℕ × Entry)
seen_at g (commands.Root m rs ss) = turn_seen g m (Root rs ss) (outcome g (commands.Root m rs ss))
seen_at g (commands.Mkdir h d n m rs ss) =
    if m == h then turn_seen g h (Mkdir d n g.next_dir rs ss)
    (outcome g (commands.Mkdir h d n m rs ss)) else None
seen_at g (commands.Repoint h d n m rs) =
    turn_seen g h (Accept d (updates.Repoint n m (sorted_houses rs)))
    (outcome g (commands.Repoint h d n m rs))
seen_at g (commands.Accept h d u) = turn_seen g h (Accept d u) (outcome g (commands.Accept h d u))
seen_at g (commands.Epoch d m rs ss) =
    turn_seen g m (epoch_order g d (g.top d + 1) m rs ss) (outcome g (commands.Epoch d m rs ss))
seen_at g (commands.Skulk h d) = turn_seen g h (Skulk d) (outcome g (commands.Skulk h d))
seen_at g (commands.Deliver n) = taking_seen g (message_at g n) (outcome g (commands.Deliver n))
seen_at g (commands.Start h) =
    start_seen h (outcome g (commands.Start h)).cell (outcome g (commands.Start h)).answer
seen_at g other = None

-- the entries of the house x, with one before them if it is of x
abbrev pub if_of : (x : ℕ) → Option (ℕ × Entry) → List Entry → List Entry
if_of x None es = es
if_of x (Some e) es = if e.0 == x then e.1 ∷ es else es

-- what the house x sees of a list of commands, from this cell on
abbrev pub view_from : Cell → (x : ℕ) → List Command → List Entry
view_from g x [] = []
view_from g x (c ∷ cs) = if_of x (seen_at g c) (view_from (outcome g c).cell x cs)
