-- The text of answers, by computing.
use Rattle.std.proofs.Common.{◌≡◌, false, [], ◌∷◌, ◌++◌, refl, List, ℕ}
use Rattle.std.specs.Prelude.{Some, None, codes}
use Rattle.std.specs.Fmt.{digits}
use Rattle.std.specs.FinMap.{empty}
use Rattle.hex.specs.Hex.{encode_with}
use Rattle.cds_stamps.specs.declared.members.MemberKind.TheVariants.{Master, ReadOnly, Secondary}
use Rattle.record_fields.specs.declared.fault.Rule.TheVariants.{BadTag}
use Rattle.attr_sets.specs.declared.mark.ValueMark.{ValueMark}
use Rattle.directory.specs.declared.entry.Kind.TheVariants.{Link}
use Rattle.uuid.specs.Parts.{zero_bytes}
use Rattle.uuid.specs.Text.{by_index}
use Rattle.tower_codec.specs.declared.rpc.Protseq.TheVariants.{Tcp, Udp}
use Rattle.tower_codec.specs.declared.binding.StringBinding.{StringBinding}
use Rattle.cell_script.specs.declared.fault.ParseFault.TheVariants.{BadWord}
use Rattle.script_answers.specs.declared.answer.Answer.TheVariants as answer
use Rattle.record_fields.specs.declared.fault.Rule.TheVariants.{BadTag}
use Rattle.script_answers.specs.declared.answer.ScriptRefusal.TheVariants as why
use Rattle.script_answers.specs.Texts.{answer_line, answer_lines, line_text, lines_text, parse_fault_text, dump_line, entry_line, attr_line, value_line}
use Rattle.script_answers.specs.Texts.{lines_of_each, value_lines}

-- the UUID that ends in b1 after zeros
abbrev uuid_b : List ℕ
uuid_b = 0 ∷ 0 ∷ 0 ∷ 0 ∷ 0 ∷ 0 ∷ 0 ∷ 0 ∷ 0 ∷ 0 ∷ 0 ∷ 0 ∷ 0 ∷ 0 ∷ 0 ∷ 177 ∷ []

abbrev udp_at : ℕ → StringBinding
udp_at port = record { object = zero_bytes; protseq = Udp; address = 10 ∷ 0 ∷ 0 ∷ 1 ∷ []; port = port }

posted : answer_line (answer.Posted (1 ∷ 2 ∷ [])) ≡ codes "ok posted 1 2"
unfolding digits
posted = refl

made : answer_line (answer.Made (record { 0 = 2 }) (record { time = 100; node = 10 }) (7 ∷ [])) ≡ codes "ok 2 100@00000000000a posted 7"
unfolding digits encode_with
made = refl

epoch_text : answer_line (answer.Epoch (record { 0 = 2 }) (3 ∷ 4 ∷ [])) ≡ codes "ok 2 posted 3 4"
unfolding digits
epoch_text = refl

late : answer_line (answer.Late (record { 0 = 1 }) (record { 0 = 2 })) ≡ codes "ok late 1 2"
unfolding digits
late = refl

stale : answer_line (answer.Stale (record { time = 1; node = 10 }) None) ≡ codes "ok stale 1@00000000000a none"
unfolding digits encode_with
stale = refl

complete : answer_line (answer.Complete (record { time = 2; node = 10 }) (15 ∷ [])) ≡ codes "ok complete 2@00000000000a posted 15"
unfolding digits encode_with
complete = refl

octets : answer_line (answer.Octets (1 ∷ 255 ∷ [])) ≡ codes "ok 2 01ff"
unfolding digits encode_with
octets = refl

shown : answer_line (answer.Values ((80 ∷ 114 ∷ []) ∷ (0 ∷ []) ∷ [])) ≡ codes "ok 2 5072 00"
unfolding digits encode_with
shown = refl

target : answer_line (answer.Target (codes "sub" ∷ codes "lpr" ∷ [])) ≡ codes "ok /.:/sub/lpr"
target = refl

message : answer_line (answer.Decoded 1 78) ≡ codes "ok Update 78"
unfolding digits
message = refl

updates : answer_line (answer.Updates 5 (3 ∷ 4 ∷ [])) ≡ codes "ok 5 posted 3 4"
unfolding digits
updates = refl

no_member : answer_line (answer.Refused why.NoSuchMember) ≡ codes "refused NoSuchMember"
no_member = refl

bindings : answer_lines (answer.Bindings (record { object = uuid_b; protseq = Tcp; address = 10 ∷ 0 ∷ 0 ∷ 1 ∷ []; port = 1025 } ∷ udp_at 0 ∷ []))
    ≡ codes "binding 00000000-0000-0000-0000-0000000000b1@ncacn_ip_tcp:10.0.0.1[1025]" ∷ codes "binding ncadg_ip_udp:10.0.0.1" ∷ codes "end 2" ∷ []
unfolding digits by_index
bindings = refl

no_bindings_found : answer_lines (answer.Bindings []) ≡ codes "end 0" ∷ []
unfolding digits
no_bindings_found = refl

no_message : answer_line (answer.Refused (why.Octets (record { rule = BadTag; place = 2 }))) ≡ codes "refused BadTag 2"
unfolding digits
no_message = refl

refused : answer_line (answer.Refused (why.NoSuchName 1)) ≡ codes "refused NoSuchName 1"
unfolding digits
refused = refl

not_joined : answer_line (answer.Refused (why.NotJoined (record { 0 = 1 }) (record { 0 = 3 }))) ≡ codes "refused NotJoined 1 3"
unfolding digits
not_joined = refl

spent : answer_line (answer.Refused (why.StampsSpent (Some 2) (5 ∷ []))) ≡ codes "refused StampsSpent 2 posted 5"
unfolding digits
spent = refl

a_dump : dump_line (record { 0 = 3 }) None
    (record { house = record { 0 = 1 }; since = record { 0 = 3 }; kind = ReadOnly }
    ∷ record { house = record { 0 = 2 }; since = record { 0 = 1 }; kind = Master }
    ∷ record { house = record { 0 = 4 }; since = record { 0 = 2 }; kind = Secondary } ∷ [])
    ≡ codes "dump epoch 3 allupto none members 1:3:r 2:1:m 4:2:s"
unfolding digits
a_dump = refl

dead : entry_line (codes "e")
    (record { birth = record { time = 1; node = 10 }; kind = Link; death = Some (record { time = 2; node = 10 }); attrs = empty })
    ≡ codes "entry e link 1@00000000000a 2@00000000000a"
unfolding digits encode_with
dead = refl

cleared_never : attr_line (codes "A") None ≡ codes "attr A none"
cleared_never = refl

absent : value_line (10 ∷ []) (record { present = false; stamp = record { time = 2; node = 10 } }) ≡ codes "value 0a absent 2@00000000000a"
unfolding digits encode_with
absent = refl

each_value : (m n : ValueMark) → lines_of_each value_lines ((10 ∷ [], m) ∷ (11 ∷ [], n) ∷ []) ≡ value_line (10 ∷ []) m ∷ value_line (11 ∷ []) n ∷ []
unfolding lines_of_each
each_value m n = refl

-- each line has the number of its script line
two_lines : lines_text 14 (codes "dump" ∷ codes "end" ∷ []) ≡ codes "14 dump" ++ (10 ∷ (codes "14 end" ++ 10 ∷ []))
unfolding digits
two_lines = refl

a_line : line_text 12 (codes "ok") ≡ codes "12 ok" ++ 10 ∷ []
unfolding digits
a_line = refl

a_fault : parse_fault_text 3 (BadWord 2) ≡ codes "3 fault BadWord 2" ++ 10 ∷ []
unfolding digits
a_fault = refl
