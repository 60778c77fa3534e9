-- The octets of messages and images as functions, field by field. Numbers are big-endian.
use Rattle.std.specs.Prelude.{ℕ, ◌+◌, min, Option, List, [], ◌∷◌, ◌++◌, length}
use Rattle.std.specs.List.{flat_map}
use Rattle.std.specs.Int.{w32, w64, to_be_bytes}
use Rattle.std.specs.FinMap.{len}
use Rattle.cds_stamps.specs.declared.numbers.DirId.{DirId}
use Rattle.cds_stamps.specs.declared.stamp.Stamp.{Stamp}
use Rattle.cds_stamps.specs.declared.members.Member.{Member}
use Rattle.directory.specs.declared.entry.EntryCell.{EntryCell}
use Rattle.directory.specs.Held.{held_in, most_held}
use Rattle.directory.specs.Kinds.{rank}
use Rattle.directory.specs.Entries.{Entries}
use Rattle.purge_rule.specs.declared.delta.Delta.{Delta}
use Rattle.purge_rule.specs.declared.replica.Replica.{Replica}
use Rattle.cds_messages.specs.declared.image.ImageDir.{ImageDir}
use Rattle.cds_messages.specs.declared.image.ImageDir.TheVariants.{Held, Gone}
use Rattle.cds_messages.specs.declared.image.Image.{Image}
use Rattle.cds_messages.specs.declared.message.Head.{Head}
use Rattle.cds_messages.specs.declared.message.Message.{Message}
use Rattle.cds_messages.specs.declared.message.Body.{Body}
use Rattle.cds_messages.specs.declared.message.Body.TheVariants.{Update, Gather, Gathered, Spread, SpreadAck, Advance, Join, Leave}
use Rattle.record_fields.specs.Fields.{node_octets}
use Rattle.cds_messages.specs.KindNumbers.{kind_number}
use Rattle.cds_messages.specs.Messages.{head_of, tag_of}
use Rattle.record_fields.specs.FieldOctets.{cell_octets, each_octets, name_octets, optional_stamp_octets, stamp_octets}

-- ---- replicas

-- an entry after its name: its kind, birth and death, how many attributes it has, and they with
-- their cells
unfoldable pub entry_octets : EntryCell → List ℕ
entry_octets e =
    (rank e.kind + 1) ∷ stamp_octets e.birth ++ optional_stamp_octets e.death ++ to_be_bytes w64 (len e.attrs)
    ++ each_octets name_octets cell_octets e.attrs

-- a stamp or none, how many entries a table has, and they with their names
unfoldable pub stamped_table_octets : Option Stamp → Entries → List ℕ
stamped_table_octets t table = optional_stamp_octets t ++ to_be_bytes w64 (len table) ++ each_octets name_octets entry_octets table

-- AllUpTo, and the table
abbrev pub replica_octets : Replica → List ℕ
replica_octets r = stamped_table_octets r.all_up_to r.table

-- the stamp that a delta is above, and its table
abbrev pub delta_octets : Delta → List ℕ
delta_octets d = stamped_table_octets d.above d.table

-- ---- members

-- a member: its house, its since and its kind
unfoldable pub member_octets : Member → List ℕ
member_octets m = m.house.0 ∷ to_be_bytes w64 m.since.0 ++ kind_number m.kind ∷ []

-- how many members there are, and they
unfoldable pub members_octets : List Member → List ℕ
members_octets ms = length ms ∷ flat_map member_octets ms

-- ---- messages

-- what a message carries after its head
unfoldable pub body_octets : Body → List ℕ
body_octets (Update f) = name_octets f.name ++ entry_octets f.entry
body_octets (Gather t) = stamp_octets t
body_octets (Gathered t d) = stamp_octets t ++ delta_octets d
body_octets (Spread t d) = stamp_octets t ++ delta_octets d
body_octets (SpreadAck t) = stamp_octets t
body_octets (Advance t) = stamp_octets t
body_octets (Join ms r) = members_octets ms ++ replica_octets r
body_octets Leave = []

-- what is before that: format and tag, the directory, the sender's house, epoch and floor
unfoldable pub message_head : Head → (tag : ℕ) → List ℕ
message_head h tag = 2 ∷ tag ∷ to_be_bytes w32 h.dir.0 ++ h.from.0 ∷ to_be_bytes w64 h.epoch.0 ++ to_be_bytes w64 h.floor

-- the message with this head that carries this
abbrev pub message_with : Head → Body → Message
message_with h b = record { dir = h.dir; from = h.from; epoch = h.epoch; floor = h.floor; body = b }

-- a message: its head, and what it carries
unfoldable pub message_octets : Message → List ℕ
message_octets m = message_head (head_of m) (tag_of m.body) ++ body_octets m.body

-- ---- images

-- the number of a directory
unfoldable pub dir_octets : DirId → List ℕ
dir_octets d = to_be_bytes w32 d.0

-- what is kept of a directory: held is 1, gone 2; its epoch; and where it is held its members and
-- replica, and how much that holds
unfoldable pub kept_octets : ImageDir → List ℕ
kept_octets (Held e ms r) =
    1 ∷ to_be_bytes w64 e.0 ++ members_octets ms ++ replica_octets r ++ to_be_bytes w64 (min (held_in r.table) most_held)
kept_octets (Gone e) = 2 ∷ to_be_bytes w64 e.0

-- what is before the directories: format and tag, house, node, floor, and how many directories
-- there are
unfoldable pub image_head : (house node floor count : ℕ) → List ℕ
image_head house node floor count = 2 ∷ 9 ∷ house ∷ node_octets node ++ to_be_bytes w64 floor ++ to_be_bytes w64 count

-- an image, which is written in format 2: its head, and its directories
unfoldable pub image_octets : Image → List ℕ
image_octets i = image_head i.house.0 i.node i.floor (len i.dirs) ++ each_octets dir_octets kept_octets i.dirs
