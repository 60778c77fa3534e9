-- The text of answers, a line each or several, and of faults.
use Rattle.std.specs.Prelude.{ℕ, Bool, true, false, ◌==◌, if◌then◌else◌, List, [], ◌∷◌, ◌++◌, length, drop, get_or, map, codes, Option, Some, None}
use Rattle.std.specs.List.{flat_map}
use Rattle.std.specs.Fmt.{decimal}
use Rattle.std.specs.Int.{to_be_bytes, w64}
use Rattle.std.specs.FinMap.{FinMap, entries}
use Rattle.hex.specs.Hex.{encode_lower}
use Rattle.cds_stamps.specs.declared.stamp.Stamp.{Stamp}
use Rattle.cds_stamps.specs.declared.numbers.EpochNo.{EpochNo}
use Rattle.cds_stamps.specs.declared.members.Member.{Member}
use Rattle.cds_stamps.specs.declared.members.MemberKind.{MemberKind}
use Rattle.cds_stamps.specs.declared.members.MemberKind.TheVariants as member
use Rattle.cds_stamps.specs.Octets.{octets_cmp}
use Rattle.cell_names.specs.FullNames.{full_name_octets}
use Rattle.tower_codec.specs.declared.binding.StringBinding.{StringBinding}
use Rattle.tower_codec.specs.Binding.{binding_text}
use Rattle.record_fields.specs.declared.fault.Rule.{Rule}
use Rattle.record_fields.specs.declared.fault.Rule.TheVariants as rule
use Rattle.attr_sets.specs.declared.mark.ValueMark.{ValueMark}
use Rattle.attr_sets.specs.declared.cell.AttrCell.{AttrCell}
use Rattle.directory.specs.declared.entry.Kind.{Kind}
use Rattle.directory.specs.declared.entry.Kind.TheVariants as kind
use Rattle.directory.specs.declared.entry.EntryCell.{EntryCell}
use Rattle.directory.specs.Entries.{Entries}
use Rattle.script_answers.specs.declared.answer.Answer.{Answer}
use Rattle.script_answers.specs.declared.answer.Answer.TheVariants as answer
use Rattle.script_answers.specs.declared.answer.ScriptRefusal.{ScriptRefusal}
use Rattle.script_answers.specs.declared.answer.ScriptRefusal.TheVariants as why
use Rattle.cell_script.specs.declared.fault.ParseFault.{ParseFault}
use Rattle.cell_script.specs.declared.fault.ParseFault.TheVariants as parse

-- words, each after a space
abbrev pub spaced : List (List ℕ) → List ℕ
spaced = flat_map (λ w. 32 ∷ w)

-- words with a space between two of them
abbrev pub unwords : List (List ℕ) → List ℕ
unwords [] = []
unwords (w ∷ ws) = w ++ spaced ws

-- a line of the output: the number of its script line, a space and what is said
abbrev pub line_text : ℕ → List ℕ → List ℕ
line_text number said = decimal number ++ (32 ∷ (said ++ 10 ∷ []))

-- several lines of the output that one script line has
abbrev pub lines_text : ℕ → List (List ℕ) → List ℕ
lines_text number = flat_map (line_text number)

-- numbers, each after a space
abbrev pub spaced_numbers : List ℕ → List ℕ
spaced_numbers = flat_map (λ n. 32 ∷ decimal n)

-- a node, in twelve hexadecimal digits
abbrev pub node_octets : ℕ → List ℕ
node_octets node = drop 2 (to_be_bytes w64 node)

-- a stamp: its time, `@` and its node
abbrev pub stamp_text : Stamp → List ℕ
stamp_text s = decimal s.time ++ (64 ∷ encode_lower (node_octets s.node))

-- a stamp, or this word where there is none
abbrev pub stamp_or : List ℕ → Option Stamp → List ℕ
stamp_or none None = none
stamp_or none (Some s) = stamp_text s

-- the serial numbers of the messages that a step posted, if it posted any
abbrev pub posted_words : List ℕ → List (List ℕ)
posted_words [] = []
posted_words (n ∷ ns) = codes "posted" ∷ decimal n ∷ map decimal ns

-- the name of a rule that octets break
abbrev pub rule_name : Rule → List ℕ
rule_name rule.Short = codes "Short"
rule_name rule.BadTag = codes "BadTag"
rule_name rule.BadLength = codes "BadLength"
rule_name rule.BadName = codes "BadName"
rule_name rule.OutOfOrder = codes "OutOfOrder"
rule_name rule.BadFlag = codes "BadFlag"
rule_name rule.NotAbove = codes "NotAbove"
rule_name rule.BadHeld = codes "BadHeld"
rule_name rule.Trailing = codes "Trailing"

-- the rule that an answer tells: a wrong count, and octets that follow, are a wrong length
abbrev pub told_rule : Rule → Rule
told_rule rule.BadHeld = rule.BadLength
told_rule rule.Trailing = rule.BadLength
told_rule other = other

-- the name of a refusal, and its numbers
abbrev pub refusal_words : ScriptRefusal → List (List ℕ)
refusal_words why.HouseExists = codes "HouseExists" ∷ []
refusal_words why.NoHouse = codes "NoHouse" ∷ []
refusal_words why.NoDirectory = codes "NoDirectory" ∷ []
refusal_words why.DirectoryExists = codes "DirectoryExists" ∷ []
refusal_words why.BadMembers = codes "BadMembers" ∷ []
refusal_words why.NotMember = codes "NotMember" ∷ []
refusal_words why.Down = codes "Down" ∷ []
refusal_words why.Up = codes "Up" ∷ []
refusal_words why.NoMessage = codes "NoMessage" ∷ []
refusal_words why.NoReplica = codes "NoReplica" ∷ []
refusal_words why.NotMaster = codes "NotMaster" ∷ []
refusal_words why.NoSuchEntry = codes "NoSuchEntry" ∷ []
refusal_words why.EntryExists = codes "EntryExists" ∷ []
refusal_words why.WrongKind = codes "WrongKind" ∷ []
refusal_words (why.StampsSpent None ns) = codes "StampsSpent" ∷ posted_words ns
refusal_words (why.StampsSpent (Some accepted) ns) = codes "StampsSpent" ∷ decimal accepted ∷ posted_words ns
refusal_words (why.NotJoined held since) = codes "NotJoined" ∷ decimal held.0 ∷ decimal since.0 ∷ []
refusal_words (why.NotAbove held) = codes "NotAbove" ∷ decimal held.0 ∷ []
refusal_words (why.NoSuchName done) = codes "NoSuchName" ∷ decimal done ∷ []
refusal_words (why.NotDirectory number) = codes "NotDirectory" ∷ decimal number ∷ []
refusal_words (why.Unreachable dir) = codes "Unreachable" ∷ decimal dir.0 ∷ []
refusal_words why.LinkCycle = codes "LinkCycle" ∷ []
refusal_words why.TooManyLinks = codes "TooManyLinks" ∷ []
refusal_words why.NameTooLong = codes "NameTooLong" ∷ []
refusal_words why.RootName = codes "RootName" ∷ []
refusal_words why.Vanished = codes "Vanished" ∷ []
refusal_words why.NotLink = codes "NotLink" ∷ []
refusal_words why.NotObject = codes "NotObject" ∷ []
refusal_words why.NothingToExport = codes "NothingToExport" ∷ []
refusal_words why.NothingToUnexport = codes "NothingToUnexport" ∷ []
refusal_words why.NoSuchMember = codes "NoSuchMember" ∷ []
refusal_words why.BadPriority = codes "BadPriority" ∷ []
refusal_words why.ElementTooLong = codes "ElementTooLong" ∷ []
refusal_words why.NoSuchElement = codes "NoSuchElement" ∷ []
refusal_words (why.Octets fault) = rule_name (told_rule fault.rule) ∷ decimal fault.place ∷ []

-- the name of a message by its tag; other numbers have none
abbrev pub message_name : ℕ → List ℕ
message_name tag =
    get_or ([] ∷ codes "Update" ∷ codes "Gather" ∷ codes "Gathered" ∷ codes "Spread" ∷ codes "SpreadAck" ∷ codes "Advance" ∷ codes "Join" ∷ codes "Leave" ∷ []) tag []

-- ---- dumps

-- the kind of a member: the master, read-only or secondary
abbrev pub member_letter : MemberKind → List ℕ
member_letter member.Master = codes "m"
member_letter member.ReadOnly = codes "r"
member_letter member.Secondary = codes "s"

-- a member: its house, its since and its kind, with colons between
abbrev pub member_text : Member → List ℕ
member_text m = decimal m.house.0 ++ (58 ∷ (decimal m.since.0 ++ (58 ∷ member_letter m.kind)))

-- members, each after a space
abbrev pub members_text : List Member → List ℕ
members_text = flat_map (λ m. 32 ∷ member_text m)

-- the first line of a dump: the epoch, AllUpTo and the members
abbrev pub dump_line : EpochNo → Option Stamp → List Member → List ℕ
dump_line epoch all_up_to members =
    unwords (codes "dump epoch" ∷ decimal epoch.0 ∷ codes "allupto" ∷ stamp_or (codes "none") all_up_to ∷ codes "members" ∷ []) ++ members_text members

-- the kind of an entry
abbrev pub kind_word : Kind → List ℕ
kind_word kind.Object = codes "object"
kind_word kind.Link = codes "link"
kind_word kind.Child = codes "child"

-- a value is present or absent
abbrev pub presence : Bool → List ℕ
presence true = codes "present"
presence false = codes "absent"

-- an entry: its name, its kind, its birth, and its death, if one is known
abbrev pub entry_line : List ℕ → EntryCell → List ℕ
entry_line name e = unwords (codes "entry" ∷ name ∷ kind_word e.kind ∷ stamp_text e.birth ∷ stamp_or (codes "live") e.death ∷ [])

-- an attribute: its name, and its clear, if there was one
abbrev pub attr_line : List ℕ → Option Stamp → List ℕ
attr_line name cleared = unwords (codes "attr" ∷ name ∷ stamp_or (codes "none") cleared ∷ [])

-- a value, and its mark
abbrev pub value_line : List ℕ → ValueMark → List ℕ
value_line value m = unwords (codes "value" ∷ encode_lower value ∷ presence m.present ∷ stamp_text m.stamp ∷ [])

-- the lines of each key and of what is at it, in ascending order
unfoldable pub lines_of_each : {X : Type 0} → (List ℕ → X → List (List ℕ)) → List (List ℕ × X) → List (List ℕ)
lines_of_each lines es = flat_map (λ e. lines e.0 e.1) es

-- the lines of all keys of a map, and of what is at them, in ascending order
abbrev pub each_lines : {X : Type 0} → (List ℕ → X → List (List ℕ)) → FinMap octets_cmp X → List (List ℕ)
each_lines lines m = lines_of_each lines (entries m)

-- the lines of a value: one
abbrev pub value_lines : List ℕ → ValueMark → List (List ℕ)
value_lines value m = value_line value m ∷ []

-- the lines of an attribute: its own, and those of its values
abbrev pub attr_lines : List ℕ → AttrCell → List (List ℕ)
attr_lines name c = attr_line name c.cleared ∷ each_lines value_lines c.values

-- the lines of an entry: its own, and those of its attributes
abbrev pub entry_lines : List ℕ → EntryCell → List (List ℕ)
entry_lines name e = entry_line name e ∷ each_lines attr_lines e.attrs

-- a dump: its first line, those of the entries, and the end
abbrev pub dump_lines : EpochNo → Option Stamp → List Member → Entries → List (List ℕ)
dump_lines epoch all_up_to members table = dump_line epoch all_up_to members ∷ (each_lines entry_lines table ++ codes "end" ∷ [])

-- ---- imports

-- a binding (own, after C706, string bindings)
abbrev pub binding_line : StringBinding → List ℕ
binding_line b = unwords (codes "binding" ∷ binding_text b ∷ [])

-- the last line of an import: how many bindings there are
abbrev pub import_end : ℕ → List ℕ
import_end n = unwords (codes "end" ∷ decimal n ∷ [])

-- an import: a line of each binding, and the end
abbrev pub import_lines : List StringBinding → List (List ℕ)
import_lines bs = map binding_line bs ++ import_end (length bs) ∷ []

-- ---- answers

-- the words of an answer of one line; one of several lines has none here
abbrev pub answer_words : Answer → List (List ℕ)
answer_words answer.Done = codes "ok" ∷ []
answer_words (answer.Posted ns) = codes "ok" ∷ posted_words ns
answer_words (answer.Made d s ns) = codes "ok" ∷ decimal d.0 ∷ stamp_text s ∷ posted_words ns
answer_words (answer.Stamped s ns) = codes "ok" ∷ stamp_text s ∷ posted_words ns
answer_words (answer.Epoch e ns) = codes "ok" ∷ decimal e.0 ∷ posted_words ns
answer_words (answer.Taken ns) = codes "ok" ∷ codes "taken" ∷ posted_words ns
answer_words (answer.Late of_message of_house) = codes "ok" ∷ codes "late" ∷ decimal of_message.0 ∷ decimal of_house.0 ∷ []
answer_words (answer.Early of_message of_house) = codes "ok" ∷ codes "early" ∷ decimal of_message.0 ∷ decimal of_house.0 ∷ []
answer_words (answer.Stale s running) = codes "ok" ∷ codes "stale" ∷ stamp_text s ∷ stamp_or (codes "none") running ∷ []
answer_words answer.NoReplica = codes "ok" ∷ codes "noreplica" ∷ []
answer_words (answer.Complete s ns) = codes "ok" ∷ codes "complete" ∷ stamp_text s ∷ posted_words ns
answer_words (answer.Values vs) = codes "ok" ∷ decimal (length vs) ∷ map encode_lower vs
answer_words (answer.Target components) = codes "ok" ∷ full_name_octets components ∷ []
answer_words (answer.Updates n ns) = codes "ok" ∷ decimal n ∷ posted_words ns
answer_words (answer.Octets octets) = codes "ok" ∷ decimal (length octets) ∷ encode_lower octets ∷ []
answer_words (answer.Decoded tag used) = codes "ok" ∷ message_name tag ∷ decimal used ∷ []
answer_words (answer.Refused why) = codes "refused" ∷ refusal_words why
answer_words other = []

-- what an answer says that has one line
abbrev pub answer_line : Answer → List ℕ
answer_line a = unwords (answer_words a)

-- the lines of an answer: an import and a dump may have several, each other answer has one
abbrev pub answer_lines : Answer → List (List ℕ)
answer_lines (answer.Bindings bs) = import_lines bs
answer_lines (answer.Dump epoch all_up_to members table) = dump_lines epoch all_up_to members table
answer_lines other = answer_line other ∷ []

-- the text of the answer to the script line of this number
abbrev pub answer_text : ℕ → Answer → List ℕ
answer_text number a = lines_text number (answer_lines a)

-- the line of a fault: its name and its place
abbrev pub fault_text : ℕ → List ℕ → ℕ → List ℕ
fault_text number name place = decimal number ++ (codes " fault " ++ (name ++ (32 ∷ (decimal place ++ 10 ∷ []))))

-- the line of a fault of a script line: its name, and the number of the word, or how many words
-- there are
abbrev pub parse_fault_text : ℕ → ParseFault → List ℕ
parse_fault_text number (parse.UnknownCommand word) = fault_text number (codes "UnknownCommand") word
parse_fault_text number (parse.WrongCount words) = fault_text number (codes "WrongCount") words
parse_fault_text number (parse.BadWord word) = fault_text number (codes "BadWord") word
