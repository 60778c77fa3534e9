-- The stamps of one node among those that a message carries (own, after C705, timestamps).
use Rattle.std.specs.Prelude.{ℕ, max, ◌==◌, nat_lt, if◌then◌else◌, Option, Some, None}
use Rattle.std.specs.FinMap.{entries}
use Rattle.cds_stamps.specs.declared.stamp.Stamp.{Stamp}
use Rattle.attr_sets.specs.declared.cell.AttrCell.{AttrCell}
use Rattle.directory.specs.declared.entry.EntryCell.{EntryCell}
use Rattle.directory.specs.Entries.{Entries}
use Rattle.purge_rule.specs.declared.delta.Delta.{Delta}
use Rattle.purge_rule.specs.declared.replica.Replica.{Replica}
use Rattle.purge_rule.specs.Latest.{greatest_of}
use Rattle.cds_messages.specs.declared.message.Message.{Message}
use Rattle.cds_messages.specs.declared.message.Body.{Body}
use Rattle.cds_messages.specs.declared.message.Body.TheVariants.{Update, Gather, Gathered, Spread, SpreadAck, Advance, Join, Leave}

-- the time of a stamp, if it is of this node; 0 of another one (own)
abbrev pub own_time : (node : ℕ) → Stamp → ℕ
own_time node s = if s.node == node then s.time else 0

-- so of a stamp that may be missing: 0, if it is (own)
abbrev pub own_time_of : (node : ℕ) → Option Stamp → ℕ
own_time_of node None = 0
own_time_of node (Some s) = own_time node s

-- the greatest time of a stamp of this node in an attribute: its clear, and the marks of its values
-- (own)
abbrev pub own_in_cell : (node : ℕ) → AttrCell → ℕ
own_in_cell node c =
    max (own_time_of node c.cleared)
    (greatest_of (λ v. own_time node v.1.stamp) (entries c.values))

-- in an entry: its birth, its death and its attributes (own)
abbrev pub own_in_entry : (node : ℕ) → EntryCell → ℕ
own_in_entry node e =
    max (max (own_time node e.birth) (own_time_of node e.death))
    (greatest_of (λ a. own_in_cell node a.1) (entries e.attrs))

-- in the entries of a table (own)
abbrev pub own_in_table : (node : ℕ) → Entries → ℕ
own_in_table node t = greatest_of (λ e. own_in_entry node e.1) (entries t)

-- in a replica: its table and its AllUpTo (own)
abbrev pub own_in_replica : (node : ℕ) → Replica → ℕ
own_in_replica node r = max (own_in_table node r.table) (own_time_of node r.all_up_to)

-- in a delta: its table and `above` (own)
abbrev pub own_in_delta : (node : ℕ) → Delta → ℕ
own_in_delta node d = max (own_in_table node d.table) (own_time_of node d.above)

-- in what a message carries; 0, if no stamp there is of this node (own)
abbrev pub own_in_body : (node : ℕ) → Body → ℕ
own_in_body node (Update f) = own_in_entry node f.entry
own_in_body node (Gather t) = own_time node t
own_in_body node (Gathered t d) = max (own_time node t) (own_in_delta node d)
own_in_body node (Spread t d) = max (own_time node t) (own_in_delta node d)
own_in_body node (SpreadAck t) = own_time node t
own_in_body node (Advance t) = own_time node t
own_in_body node (Join ms r) = own_in_replica node r
own_in_body node Leave = 0

-- the greatest stamp of this node that a message carries, if it is later than the floor: a house of
-- that node and that floor forgot it, or another house has the node (own)
abbrev pub later_own : (node floor : ℕ) → Message → Option Stamp
later_own node floor m =
    if nat_lt floor (own_in_body node m.body)
    then Some (record { time = own_in_body node m.body; node = node })
    else None
