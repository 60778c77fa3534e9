-- The definitions at single lines and short scripts, by computing.
use Rattle.std.proofs.Common.{◌≡◌, [], ◌∷◌, ◌++◌, refl, arith}
use Rattle.std.specs.Prelude.{Some, None, codes}
use Rattle.std.specs.Fmt.{digits}
use Rattle.hex.specs.Hex.{decode_pairs, encode_with}
use Rattle.cds_base.specs.LineFaults.{fault_at}
use Rattle.cds_base.specs.declared.scan.LineFault.TheVariants as fault
use Rattle.cell_model.specs.Cells.{empty_cell}
use Rattle.cell_script.specs.Words.{words_of, number_of}
use Rattle.cell_script.specs.CommandRows as lines
use Rattle.cell_script.specs.WordForms as forms
use Rattle.reply_buffer.specs.FaultTexts.{line_fault_text}
use Rattle.tower_codec.specs.BindingReading.{cut_at_mark}
use Rattle.tower_codec.specs.declared.fault.TowerFault.TheVariants.{EmptyLeft, ShortCount}
use Rattle.cell_replay.specs.declared.towers.StreamFault.TheVariants as stream
use Rattle.reply_buffer.specs.TowerTexts.{tower_text, floor_said, tower_said, SaysTower, NoTower}
use Rattle.cell_replay.specs.TowerDemand.{AtFault, PartOf, TowersDemand}
use Rattle.line_forms.specs.Demand.{Faulty, CutShort, ends_with, faulty_with, demand, line_demand}
use Rattle.cell_replay.specs.WholeDemand.{Auditing, too_long_text}
use Rattle.cell_replay.specs.AuditTexts.{verdict_text, pair_fault_text}
use Rattle.line_forms.specs.LineRules.{dialogue_rule}
use Rattle.script_replay.specs.Replies.{run_dialogue}
use Rattle.cell_replay.specs.Checking.{check_rule, counts}
use Rattle.cell_replay.specs.FormReadings.{spelling_rule}
use Rattle.cell_replay.specs.declared.forms.Form.TheVariants as form
use Rattle.cell_replay.specs.FormWords.{form_of}
use Rattle.directory.specs.declared.entry.Kind.TheVariants.{Object}
use Rattle.record_fields.specs.declared.fault.Rule.TheVariants.{Trailing}
use Rattle.image_audit.specs.declared.fact.Fact.TheVariants.{Birth, Value}
use Rattle.image_audit.specs.declared.verdict.Verdict.TheVariants.{NoReplica, Agree, Differ}

-- ---- lines

a_line_fault : line_fault_text (fault.NotAscii 2 5) ≡ codes "2 fault NotAscii 5" ++ 10 ∷ []
unfolding digits
a_line_fault = refl

-- ---- whole inputs

form_is : form_of (codes "run" ∷ []) ≡ Some form.Run
form_is = refl

no_form : form_of (codes "run" ∷ codes "run" ∷ []) ≡ None
no_form = refl

load_is : form_of (codes "load" ∷ codes "20000" ∷ []) ≡ Some (form.Load 20000)
unfolding number_of
load_is = refl

no_rounds : form_of (codes "load" ∷ codes "0" ∷ []) ≡ None
unfolding number_of
no_rounds = refl

leading_zero : form_of (codes "load" ∷ codes "01" ∷ []) ≡ None
unfolding number_of
leading_zero = refl

too_many_rounds : form_of (codes "load" ∷ codes "20001" ∷ []) ≡ None
unfolding number_of
too_many_rounds = refl

clerk_is : form_of (codes "clerk" ∷ codes "1000" ∷ []) ≡ Some (form.Clerk 1000)
unfolding number_of
clerk_is = refl

no_room : form_of (codes "clerk" ∷ codes "0" ∷ []) ≡ None
unfolding number_of
no_room = refl

too_much_room : form_of (codes "clerk" ∷ codes "1001" ∷ []) ≡ None
unfolding number_of
too_much_room = refl

audit_is : form_of (codes "audit" ∷ codes "4294967295" ∷ []) ≡ Some (form.Audit 4294967295)
unfolding number_of
audit_is = refl

no_directory : form_of (codes "audit" ∷ codes "0" ∷ []) ≡ None
unfolding number_of
no_directory = refl

too_great_a_directory : form_of (codes "audit" ∷ codes "4294967296" ∷ []) ≡ None
unfolding number_of
too_great_a_directory = refl

-- ---- audits

they_agree : verdict_text 1 (Agree None) ≡ codes "agree 1 none" ++ 10 ∷ []
unfolding digits
they_agree = refl

not_held : verdict_text 1 (NoReplica 2) ≡ codes "refused NoReplica 2" ++ 10 ∷ []
unfolding digits
not_held = refl

a_birth_is_missing : verdict_text 1 (Differ 2 (Birth (codes "e") Object (record { time = 3; node = 10 })))
    ≡ codes "differ 1 2 birth e 3@00000000000a" ++ 10 ∷ []
unfolding digits encode_with
a_birth_is_missing = refl

a_value_is_missing : verdict_text 1 (Differ 1 (Value (codes "e") (record { time = 1; node = 10 }) (codes "A") (1 ∷ []) (record { time = 3; node = 10 })))
    ≡ codes "differ 1 1 value e A 01 3@00000000000a" ++ 10 ∷ []
unfolding digits encode_with
a_value_is_missing = refl

second_image_at_fault : pair_fault_text (record { image = 2; fault = record { rule = Trailing; place = 146 } }) ≡ codes "2 fault Trailing 146" ++ 10 ∷ []
unfolding digits
second_image_at_fault = refl

too_long : too_long_text (Auditing 1) ≡ codes "1 fault TooLong 16777217" ++ 10 ∷ []
unfolding digits
too_long = refl

-- ---- scripts

-- nothing is due for a comment, and no house is there yet; then the line is at fault, and nothing
-- is due after it
three_lines : line_demand (dialogue_rule run_dialogue) empty_cell (codes "#" ++ (10 ∷ (codes "root 1" ++ (10 ∷ (codes "rot 1" ++ (10 ∷ (codes "root 1" ++ 10 ∷ [])))))))
    ≡ record { body = codes "2 refused NoHouse" ++ (10 ∷ (codes "3 fault UnknownCommand 1" ++ 10 ∷ [])); end = []; verdict = Faulty }
unfolding digits fault_at demand number_of lines.said_by forms.check_count forms.take_words
three_lines = refl

-- the input ends within its second line: its fault is due where nothing follows
open_end : line_demand (dialogue_rule run_dialogue) empty_cell (codes "root 1" ++ (10 ∷ codes "root 1"))
    ≡ record { body = codes "1 refused NoHouse" ++ 10 ∷ []; end = codes "2 fault NoLineEnd 7" ++ 10 ∷ []; verdict = CutShort }
unfolding digits fault_at demand number_of lines.said_by forms.check_count forms.take_words
open_end = refl

-- two lines, of which one has a command
two_checked : line_demand check_rule (counts 0 0) (codes "#" ++ (10 ∷ (codes "root 1" ++ 10 ∷ []))) ≡ ends_with (codes "ok 2 1" ++ 10 ∷ [])
unfolding digits fault_at demand number_of lines.said_by forms.check_count forms.take_words
two_checked = refl

-- ---- towers

mixed_case : floor_said (codes "0B:fF") ≡ Some (record { left = 11 ∷ []; right = 255 ∷ [] })
unfolding floor_said cut_at_mark decode_pairs
mixed_case = refl

empty_left : floor_said (codes ":0b") ≡ None
unfolding floor_said cut_at_mark decode_pairs
empty_left = refl

two_dashes : tower_said (words_of (codes "- -")) ≡ NoTower
unfolding floor_said cut_at_mark decode_pairs
two_dashes = refl

-- two floors, there and back
printed : tower_text (record { left = 11 ∷ []; right = [] } ∷ record { left = 7 ∷ 8 ∷ []; right = 1 ∷ [] } ∷ []) ≡ codes "0b: 0708:01" ++ 10 ∷ []
unfolding encode_with
printed = refl

spelled_back : tower_said (words_of (codes "0b: 0708:01")) ≡ SaysTower
    (record { left = 11 ∷ []; right = [] } ∷ record { left = 7 ∷ 8 ∷ []; right = 1 ∷ [] } ∷ [])
unfolding floor_said cut_at_mark decode_pairs
spelled_back = refl

-- a line that says no tower has no text; what is before it is spelled
one_spelled : line_demand spelling_rule tt (codes "-" ++ (10 ∷ (codes "0b" ++ (10 ∷ (codes "-" ++ 10 ∷ []))))) ≡ faulty_with (0 ∷ 0 ∷ [])
unfolding digits fault_at demand floor_said cut_at_mark decode_pairs
one_spelled = refl

-- a tower without floors, and the first octet of a second one
part_of_two : TowersDemand 1 (0 ∷ 0 ∷ 0 ∷ []) (record { body = codes "-" ++ 10 ∷ []; end = codes "2 fault ShortCount 2" ++ 10 ∷ []; verdict = CutShort })
unfolding digits
part_of_two = (
  [] ∷ [],
  PartOf (ShortCount 2),
  (0 ∷ 0 ∷ [], 0 ∷ [], refl, (omega arith, omega arith, ([], (omega arith, omega arith, refl, refl), refl)), (omega arith, omega arith, omega arith, refl)),
  refl,
)

-- an empty left part
empty_part : TowersDemand 1 (1 ∷ 0 ∷ 0 ∷ 0 ∷ []) (faulty_with (codes "1 fault EmptyLeft 3" ++ 10 ∷ []))
unfolding digits
empty_part = ([], AtFault (stream.Tower (EmptyLeft 3)), (omega arith, ([], ([], omega arith, refl), refl)), refl)
