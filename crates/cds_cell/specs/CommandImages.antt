-- Which houses act in a command, what it makes of their images, and what a house loses that crashes
-- after one (own, after C705, clearinghouses).
use Rattle.std.specs.Prelude.{ℕ, ◌+◌, ◌-◌, if◌then◌else◌, List, [], ◌∷◌, ◌++◌, map, length, Option, Some, None}
use Rattle.std.specs.List.{range_with_len}
use Rattle.std.specs.Str.{bytes_eq}
use Rattle.cds_stamps.specs.declared.numbers.HouseNo.{HouseNo}
use Rattle.cds_records.specs.RecordOctets.{image_octets}
use Rattle.cell_model.specs.Cells.{Cell, Message}
use Rattle.cell_model.specs.Commands as command
use Rattle.cell_model.specs.Commands.{Command}
use Rattle.cell_model.specs.Steps.{message_at, outcome}
use Rattle.cds_cell.specs.Recorded.{image_at}

-- the octets of the image of a house, up or down (own)
abbrev pub octets_at : Cell → (h : ℕ) → List ℕ
octets_at g h = image_octets (image_at g h)

-- the receiver of a message, if there is one (own)
abbrev pub receivers_of : Option Message → List ℕ
receivers_of None = []
receivers_of (Some m) = m.receiver ∷ []

-- the houses that act in a command: what a house is that crashes, starts or has its clock set,
-- stays in its image (own)
abbrev pub actors : Cell → Command → List ℕ
actors g (command.House h node) = h ∷ []
actors g (command.Clock h time) = []
actors g (command.Root m rs ss) = m ∷ []
actors g (command.Mkdir h d n m rs ss) = h ∷ m ∷ []
actors g (command.Repoint h d n m rs) = h ∷ []
actors g (command.Accept h d u) = h ∷ []
actors g (command.Epoch d m rs ss) = m ∷ []
actors g (command.Skulk h d) = h ∷ []
actors g (command.Deliver n) = receivers_of (message_at g n)
actors g (command.Lose n) = []
actors g (command.Crash h) = []
actors g (command.Start h) = []

-- the number of a house, if there is one (own)
abbrev pub one_or_none : Option HouseNo → List ℕ
one_or_none None = []
one_or_none (Some h) = h.0 ∷ []

-- the image, as octets, that a command makes of a house, if it is another than before (own)
abbrev pub image_after : Cell → (h : ℕ) → Command → Option (List ℕ)
image_after g h c =
    let next : List ℕ = octets_at (outcome g c).cell h in
    if bytes_eq next (octets_at g h) then None else Some next

-- the serials of all messages but the first ones, so many (own)
abbrev pub serials_after : (kept : ℕ) → Cell → List ℕ
serials_after kept g = range_with_len (kept + 1) (length g.bag - kept)

-- these messages are lost, and the house crashes (own)
abbrev pub crash_losing : Cell → (h kept : ℕ) → List Command
crash_losing g h kept = map command.Lose (serials_after kept g) ++ command.Crash h ∷ []
