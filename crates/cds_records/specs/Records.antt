-- The records of messages and images. Each keyed list ascends strictly by its key.
use Rattle.std.specs.Prelude.{ℕ, zero, suc, ◌-◌, Bool, false, ◌&&◌, ◌||◌, not, ◌==◌, List, [], ◌∷◌, Option, Some, None, if◌then◌else◌}
use Rattle.std.specs.Int.{w32, w64}
use Rattle.cds_stamps.specs.declared.stamp.Stamp.{Stamp}
use Rattle.cds_stamps.specs.declared.members.Member.{Member}
use Rattle.cds_stamps.specs.declared.members.MemberKind.{MemberKind}
use Rattle.cds_stamps.specs.Members.{is_master, most_members}
use Rattle.directory.specs.declared.entry.Kind.{Kind}
use Rattle.directory.specs.declared.entry.EntryCell.{EntryCell}
use Rattle.directory.specs.declared.entry.Fragment.{Fragment}
use Rattle.directory.specs.Kinds.{kind_of_rank}
use Rattle.purge_rule.specs.declared.delta.Delta.{Delta}
use Rattle.purge_rule.specs.declared.replica.Replica.{Replica}
use Rattle.record_fields.specs.declared.fault.Rule.{Rule}
use Rattle.record_fields.specs.declared.fault.Rule.TheVariants.{BadTag, BadLength, BadFlag}
use Rattle.cds_messages.specs.declared.message.Message.{Message}
use Rattle.cds_messages.specs.declared.message.Body.{Body}
use Rattle.cds_messages.specs.declared.message.Body.TheVariants.{Update, Gather, Gathered, Spread, SpreadAck, Advance, Join, Leave}
use Rattle.cds_messages.specs.KindNumbers.{kind_in}
use Rattle.record_fields.specs.Layouts.{Layout, done, next, choose}
use Rattle.record_fields.specs.Fields.{free, outside, number_order, octet, number, stamp, optional_stamp, simple_name, attr_name}
use Rattle.record_fields.specs.ListLayouts.{cell, map_of}

-- ---- replicas

-- an object is 1, a link 2, a child 3
unfoldable pub kind : Layout Kind
kind = next (octet (outside BadFlag 1 3)) (λ n. done (kind_of_rank (n - 1)))

-- an entry after its name: its kind and birth, and its death and attributes, all of which are above
unfoldable pub entry : (above : Option Stamp) → Layout EntryCell
entry above =
    next kind
    (λ k. next (stamp free)
    (λ birth. next (optional_stamp above)
    (λ death. next (number w64 free) (λ n. next (map_of attr_name (cell above) n) (λ attrs.
    done (record { birth = birth; kind = k; death = death; attrs = attrs }))))))

-- AllUpTo, and the entries of the table
unfoldable pub replica : Layout Replica
replica =
    next (optional_stamp None) (λ t. next (number w64 free) (λ n. next (map_of simple_name (entry None) n) (λ entries.
    done (record { table = entries; all_up_to = t }))))

-- the stamp that a delta is above, if there is one, and the entries of its table
unfoldable pub delta : Layout Delta
delta =
    next (optional_stamp None) (λ t. next (number w64 free) (λ n. next (map_of simple_name (entry t) n) (λ entries.
    done (record { table = entries; above = t }))))

-- ---- members

-- format 1 has no secondary members
abbrev pub has_secondary : (format : ℕ) → Bool
has_secondary format = not (format == 1)

-- no kind, a second master, or a last member of a list without a master; `left` members follow, and
-- there may be a secondary one or not
abbrev pub kind_rule : (secondary : Bool) → (left : ℕ) → (master : Bool) → ℕ → Option Rule
kind_rule secondary left master kind =
    if kind == 1 then (if master then Some BadFlag else None)
    else (if (kind == 2) || ((kind == 3) && secondary) then (if (left == 0) && not master then Some BadFlag else None) else Some BadFlag)

-- a master is 1, a read-only house 2, a secondary one 3; `left` members follow, and one before is
-- master or none
unfoldable pub member_kind : (secondary : Bool) → (left : ℕ) → (master : Bool) → Layout MemberKind
member_kind secondary left master = next (octet (kind_rule secondary left master)) (λ k. done (kind_in k))

-- a member: its house, above the one before it, its since and its kind
unfoldable pub member : (secondary : Bool) → (left : ℕ) → (before : Option ℕ) → (master : Bool) → Layout Member
member secondary left before master =
    next (octet (number_order before)) (λ house. next (number w64 free) (λ since. next (member_kind secondary left master) (λ kind.
    done (record { house = record { 0 = house }; since = record { 0 = since }; kind = kind }))))

-- so many members
unfoldable pub member_list : (secondary : Bool) → ℕ → (before : Option ℕ) → (master : Bool) → Layout (List Member)
member_list secondary zero before master = done []
member_list secondary (suc n) before master =
    next (member secondary n before master) (λ m. next (member_list secondary n (Some m.house.0) (master || is_master m.kind)) (λ ms. done (m ∷ ms)))

-- 1 to 64 members, of which one is master
unfoldable pub members_in : (format : ℕ) → Layout (List Member)
members_in format = next (octet (outside BadLength 1 most_members)) (λ n. member_list (has_secondary format) n None false)

-- ---- messages

-- the marks of an update: the name of its entry, and the entry
unfoldable pub fragment : Layout Fragment
fragment = next (simple_name None) (λ n. next (entry None) (λ e. done (record { name = n; entry = e })))

-- the stamp of a skulk, and a delta
unfoldable pub stamped_delta : Layout (Stamp × Delta)
stamped_delta = next (stamp free) (λ t. next delta (λ d. done (t, d)))

-- the members of an epoch, and the master's replica
unfoldable pub join_parts : Layout (List Member × Replica)
join_parts = next (members_in 2) (λ ms. next replica (λ r. done (ms, r)))

-- what a message of this tag carries after its head
unfoldable pub body : ℕ → Layout Body
body tag =
    choose (tag == 1) (next fragment (λ f. done (Update f)))
    (choose (tag == 2) (next (stamp free) (λ t. done (Gather t)))
    (choose (tag == 3) (next stamped_delta (λ c. done (Gathered c.0 c.1)))
    (choose (tag == 4) (next stamped_delta (λ c. done (Spread c.0 c.1)))
    (choose (tag == 5) (next (stamp free) (λ t. done (SpreadAck t)))
    (choose (tag == 6) (next (stamp free) (λ t. done (Advance t)))
    (choose (tag == 7) (next join_parts (λ j. done (Join j.0 j.1)))
    (done Leave)))))))

-- a message of format 2: format and tag, the directory, the sender's house, epoch and floor, and
-- what it carries
unfoldable pub message : Layout Message
message =
    next (octet (outside BadTag 2 2))
    (λ _. next (octet (outside BadTag 1 8))
    (λ tag. next (number w32 free) (λ dir. next (octet free) (λ house. next (number w64 free) (λ epoch. next (number w64 free) (λ floor.
    next (body tag) (λ b. done (record { dir = record { 0 = dir }; from = record { 0 = house }; epoch = record { 0 = epoch }; floor = floor; body = b }))))))))
