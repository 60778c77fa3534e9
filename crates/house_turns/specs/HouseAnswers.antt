-- What a house answers to a line by what it holds: refusals that come before all others, and
-- questions.
use Rattle.std.specs.Prelude.{ℕ, ◌+◌, Bool, true, not, ◌&&◌, ◌==◌, nat_le, nat_lt, if◌then◌else◌, List, [], ◌∷◌, ◌++◌, length, map, Option, Some, None, Result, Ok, Err, codes, decimal, is_some, is_none}
use Rattle.std.specs.FinMap.{entries, get}
use Rattle.std.specs.List.{list_all}
use Rattle.cds_stamps.specs.Members.{members_fault, members_of, master_of, is_listed}
use Rattle.cds_stamps.specs.Numbers.{root_dir}
use Rattle.cds_stamps.specs.declared.numbers.DirId.{DirId}
use Rattle.cds_stamps.specs.declared.stamp.Stamp.{Stamp}
use Rattle.directory.specs.Shown.{Shown, shown_in}
use Rattle.record_fields.specs.Decoding.{decode_by}
use Rattle.record_fields.specs.declared.fault.RecordFault.{RecordFault}
use Rattle.cds_records.specs.RecordOctets.{image_octets}
use Rattle.cds_records.specs.Records as records
use Rattle.cds_messages.specs.declared.message.Message.{Message}
use Rattle.cell_model.specs.Steps.{is_bad_list}
use Rattle.cell_script.specs.declared.lists.Listed.{Listed}
use Rattle.script_answers.specs.Texts.{dump_lines, stamp_text}
use Rattle.script_answers.specs.declared.answer.ScriptRefusal.{ScriptRefusal}
use Rattle.script_answers.specs.declared.answer.ScriptRefusal.TheVariants as why
use Rattle.house_directory.specs.HouseMessages.{numbers_of}
use Rattle.house_directory.specs.declared.states.DirState.{DirState}
use Rattle.house_directory.specs.declared.states.DirState.TheVariants as state
use Rattle.clearinghouse.specs.HouseImages.{image_of}
use Rattle.clearinghouse.specs.declared.house.Clearinghouse.{Clearinghouse}
use Rattle.own_stamps.specs.OwnStamps.{later_own}
use Rattle.house_lines.specs.declared.line.EpochList.{EpochList}
use Rattle.house_lines.specs.declared.line.HouseOrder.{HouseOrder}
use Rattle.house_lines.specs.declared.line.HouseOrder.TheVariants as order
use Rattle.house_lines.specs.declared.line.HouseQuestion.{HouseQuestion}
use Rattle.house_lines.specs.declared.line.HouseQuestion.TheVariants as ask
use Rattle.cell_runs.specs.LineAnswers.{refused}
use Rattle.cell_runs.specs.LineOrders.{listed_houses}
use Rattle.house_turns.specs.PostTexts.{end_line, octets_line, octets_lines}
use Rattle.house_turns.specs.Showings.{directories_said, show_said, status_said}

-- ---- refusals that come before those of the model

-- why no directory of this number is made with these houses: this house has one, or had one; or the
-- list is none
abbrev pub founding_refusal : Clearinghouse → DirId → List Listed → Option ScriptRefusal
founding_refusal c d ls =
    if is_some (get c.dirs d) then Some why.DirectoryExists
    else (if is_bad_list (c.house.0 ∷ listed_houses ls) then Some why.BadMembers else None)

-- numbers ascend from this one on
abbrev pub ascend_from : (least : ℕ) → List ℕ → Bool
ascend_from least [] = true
ascend_from least (h ∷ hs) = nat_le least h && ascend_from (h + 1) hs

-- a console gives this list to the house x for epoch k: it is a member list whose master is x, none
-- is a member since a later epoch, and the houses that leave ascend and are not listed (own, after
-- C705, new epochs)
abbrev pub is_given : (x k : ℕ) → EpochList → Bool
is_given x k list =
    (is_none (members_fault (members_of list.members))
    && ((master_of (members_of list.members) == x)
    && list_all (λ m. nat_le m.since k) (members_of list.members)))
    && (ascend_from 0 (numbers_of list.leaving)
    && list_all (λ h. not (is_listed h (members_of list.members))) (numbers_of list.leaving))

-- why an epoch is not entered with this list, by what the house has of the directory
abbrev pub epoch_refusal : (x k : ℕ) → EpochList → Option DirState → Option ScriptRefusal
epoch_refusal x k list None = Some why.NoReplica
epoch_refusal x k list (Some (state.Gone e)) = Some why.NoReplica
epoch_refusal x k list (Some (state.Held h)) =
    if not (is_given x k list) then Some why.BadMembers
    else (if nat_le k h.epoch.0 then Some (why.NotAbove h.epoch) else None)

-- a stamp that the house forgot, as it is said; nothing, if there is none
abbrev pub restored_refusal : Option Stamp → Option (List ℕ)
restored_refusal None = None
restored_refusal (Some s) = Some (codes "refused Restored " ++ stamp_text s)

-- why a house does not take so many octets: they do not begin with a message, or more follow; or
-- the message has a stamp of the house's own node that is later than its floor
abbrev pub take_refusal : Clearinghouse → (count : ℕ) → Result (Message × ℕ) RecordFault
    → Option (List ℕ)
take_refusal c count (Err f) = Some (refused (why.Octets f))
take_refusal c count (Ok r) =
    if nat_lt r.1 count then Some (codes "refused Trailing " ++ decimal (r.1 + 1))
    else restored_refusal (later_own c.node c.floor.time r.0)

-- a refusal, if there is one, as it is said
abbrev pub maybe_refused : Option ScriptRefusal → Option (List ℕ)
maybe_refused None = None
maybe_refused (Some r) = Some (refused r)

-- the refusal of an order that comes before what the model says, if one does
abbrev pub early_refusal : Clearinghouse → HouseOrder → Option (List ℕ)
early_refusal c (order.Root ls) = maybe_refused (founding_refusal c (record { 0 = root_dir }) ls)
early_refusal c (order.Mkdir d n made ls) = maybe_refused (founding_refusal c made ls)
early_refusal c (order.Repoint d n h rs) =
    maybe_refused (if is_bad_list (h.0 ∷ numbers_of rs) then Some why.BadMembers else None)
early_refusal c (order.Epoch d k list) =
    maybe_refused (epoch_refusal c.house.0 k.0 list (get c.dirs d))
early_refusal c (order.Take octets) =
    take_refusal c (length octets) (decode_by records.message octets)
early_refusal c other = None

-- ---- questions

-- all that a house holds of a directory
abbrev pub dump_said : Option DirState → List (List ℕ)
dump_said None = refused why.NoReplica ∷ []
dump_said (Some (state.Gone e)) = refused why.NoReplica ∷ []
dump_said (Some (state.Held h)) = dump_lines h.epoch h.replica.all_up_to h.members h.replica.table

-- values, a line each, and how many they are
abbrev pub values_lines : List (List ℕ) → List (List ℕ)
values_lines vs = map (octets_line (codes "value ")) vs ++ end_line (length vs) ∷ []

-- the values of an attribute, of what shows of a name
abbrev pub values_said : (attr : List ℕ) → Option Shown → List (List ℕ)
values_said attr None = refused why.NoSuchEntry ∷ []
values_said attr (Some e) = values_lines (e.values attr)

-- the values that a house shows
abbrev pub look_said : (name attr : List ℕ) → Option DirState → List (List ℕ)
look_said name attr None = refused why.NoReplica ∷ []
look_said name attr (Some (state.Gone e)) = refused why.NoReplica ∷ []
look_said name attr (Some (state.Held h)) = values_said attr (shown_in h.replica.table name)

-- what a house answers to a question
abbrev pub asked_said : Clearinghouse → HouseQuestion → List (List ℕ)
asked_said c (ask.Dump d) = dump_said (get c.dirs d)
asked_said c (ask.Look d n a) = look_said n a (get c.dirs d)
asked_said c (ask.Show high d n) = show_said c.house.0 high n (get c.dirs d)
asked_said c (ask.Status d) = status_said (get c.dirs d)
asked_said c ask.Directories = directories_said (entries c.dirs)
asked_said c ask.Image = octets_lines (image_octets (image_of c))
