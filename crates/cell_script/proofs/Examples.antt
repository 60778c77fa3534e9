-- The definitions at single words and lines, by computing.
use Rattle.std.proofs.Common.{◌≡◌, true, false, [], ◌∷◌, ◌++◌, map, length, take, drop, replicate, refl, List, Bool, ℕ}
use Rattle.std.specs.Prelude.{Some, None, Ok, Err, Result, Option, codes}
use Rattle.std.specs.Fmt.{digits}
use Rattle.hex.specs.Hex.{decode_pairs}
use Rattle.uuid.specs.Parts.{zero_bytes}
use Rattle.uuid.specs.Text.{by_index}
use Rattle.tower_codec.specs.declared.rpc.Interface.{Interface}
use Rattle.tower_codec.specs.declared.rpc.Protseq.TheVariants.{Tcp, Udp}
use Rattle.tower_codec.specs.declared.binding.StringBinding.{StringBinding}
use Rattle.tower_codec.specs.BindingReading.{cut_at_mark, digits_of, object_at, protseq_named, protseq_at, endpoint_parts, octet_at, address_of, port_of, binding_of}
use Rattle.tower_codec.specs.BindingReading.{number_of as number_in}
use Rattle.cell_script.specs.declared.command.ScriptLine.{ScriptLine}
use Rattle.cell_script.specs.declared.command.ScriptLine.TheVariants as line
use Rattle.directory.specs.declared.update.Update.TheVariants as update
use Rattle.cell_script.specs.declared.command.Command.TheVariants as command
use Rattle.cell_script.specs.declared.command.Question.TheVariants as question
use Rattle.cell_script.specs.declared.fault.ParseFault.{ParseFault}
use Rattle.cell_script.specs.declared.lists.Listed.{Listed}
use Rattle.cell_script.specs.declared.fault.ParseFault.TheVariants.{UnknownCommand, WrongCount, BadWord}
use Rattle.cell_script.specs.Words.{words_of, number_of, number_to, most_house}
use Rattle.cell_script.specs.NameService.{interface_of, element_interface_of, interface_or_none_of, all_said, binding_said, bindings_of, object_said}
use Rattle.cell_script.specs.NameService.{objects_of, object_of, protocols_of, priority_of, note_of}
use Rattle.cell_script.specs.Notes.{note_in}
use Rattle.cell_script.specs.WordForms.{check_count, take_words}
use Rattle.cell_script.specs.Generated.{script}
use Rattle.cell_script.specs.CommandRows.{said_in, said_by}

-- ---- words

apart : words_of (codes "  root   1 ") ≡ codes "root" ∷ codes "1" ∷ []
apart = refl

zero : number_of (codes "0") ≡ Some 0
unfolding number_of
zero = refl

leading_zero : number_of (codes "01") ≡ None
unfolding number_of
leading_zero = refl

greatest : number_of (codes "18446744073709551615") ≡ Some 18446744073709551615
unfolding number_of
greatest = refl

too_great : number_of (codes "18446744073709551616") ≡ None
unfolding number_of
too_great = refl

no_house : number_to most_house (codes "256") ≡ None
unfolding number_of
no_house = refl

-- ---- lines

abbrev Said : Type 0
Said = Result (Option ScriptLine) ParseFault

abbrev says : List ℕ → Said
says octets = said_in (words_of octets)

blank : says (codes "   ") ≡ Ok None
blank = refl

comment : says (codes " # root 1") ≡ Ok None
comment = refl

unknown : says (codes "hous 1") ≡ Err (UnknownCommand 1)
unfolding said_by
unknown = refl

-- the count is that of all words, and comes before what they say
too_few : says (codes "clock 0") ≡ Err (WrongCount 2)
unfolding said_by check_count
too_few = refl

-- the first bad word from the left
bad_words : says (codes "clock 0 x") ≡ Err (BadWord 2)
unfolding said_by check_count take_words number_of
bad_words = refl

bad_house : says (codes "root 1 0") ≡ Err (BadWord 3)
unfolding said_by check_count take_words number_of
bad_house = refl

-- a house of a list, by its number
abbrev listed : ℕ → Bool → Listed
listed house secondary = record { house = record { 0 = house }; secondary = secondary }

root_is : says (codes "root 2 1") ≡ Ok (Some (line.Cell (command.Root (record { 0 = 2 }) (listed 1 false ∷ []))))
unfolding said_by check_count take_words number_of
root_is = refl

secondary_is : says (codes "root 2 s1 3") ≡ Ok (Some (line.Cell (command.Root (record { 0 = 2 }) (listed 1 true ∷ listed 3 false ∷ []))))
unfolding said_by check_count take_words number_of
secondary_is = refl

-- nothing but one small s is before the number of a secondary house, and no s before a master's or
-- a pointer's
no_secondaries : map (λ w. says (codes "root 1 2 " ++ w)) (codes "s" ∷ codes "s0" ∷ codes "S2" ∷ codes "ss2" ∷ codes "s256" ∷ [])
    ≡ replicate 5 (Err (BadWord 4))
unfolding said_by check_count take_words number_of
no_secondaries = refl

no_secondary_master : says (codes "root s1") ≡ Err (BadWord 2)
unfolding said_by check_count take_words number_of
no_secondary_master = refl

no_secondary_pointer : says (codes "repoint 1 1 e 1 s2") ≡ Err (BadWord 6)
unfolding said_by check_count take_words number_of
no_secondary_pointer = refl

repoint_is : says (codes "repoint 1 2 s 3 4 5") ≡ Ok
    (Some (line.Cell (command.Repoint (record { 0 = 1 }) (record { 0 = 2 }) (codes "s") (record { 0 = 3 }) (record { 0 = 4 } ∷ record { 0 = 5 } ∷ []))))
unfolding said_by check_count take_words number_of
repoint_is = refl

epoch_is : says (codes "epoch 2 3 1") ≡ Ok (Some (line.Cell (command.Epoch (record { 0 = 2 }) (record { 0 = 3 }) (listed 1 false ∷ []))))
unfolding said_by check_count take_words number_of
epoch_is = refl

deliver_is : says (codes "deliver 18446744073709551615") ≡ Ok (Some (line.Cell (command.Deliver 18446744073709551615)))
unfolding said_by check_count take_words number_of
deliver_is = refl

no_serial : says (codes "lose 0") ≡ Err (BadWord 2)
unfolding said_by check_count take_words number_of
no_serial = refl

house_is : says (codes "house 1 00000000000a") ≡ Ok (Some (line.Cell (command.House (record { 0 = 1 }) 10)))
unfolding said_by check_count take_words number_of decode_pairs
house_is = refl

add_is : says (codes "add 1 1 lpr A 5072") ≡ Ok
    (Some (line.Cell (command.Update (record { 0 = 1 }) (record { 0 = 1 }) (update.Add (codes "lpr") (codes "A") (80 ∷ 114 ∷ [])))))
unfolding said_by check_count take_words number_of decode_pairs
add_is = refl

link_is : says (codes "link 1 1 up /.:") ≡ Ok
    (Some (line.Cell (command.Update (record { 0 = 1 }) (record { 0 = 1 }) (update.MakeLink (codes "up") []))))
unfolding said_by check_count take_words number_of
link_is = refl

read_is : says (codes "read 1 high /.:/sub/lpr A") ≡ Ok
    (Some (line.Question (question.Read (record { 0 = 1 }) true (codes "sub" ∷ codes "lpr" ∷ []) (codes "A"))))
unfolding said_by check_count take_words number_of
read_is = refl

dump_is : says (codes "dump 1 2") ≡ Ok (Some (line.Question (question.Dump (record { 0 = 1 }) (record { 0 = 2 }))))
unfolding said_by check_count take_words number_of
dump_is = refl

octets_of_a_message : says (codes "octets msg 256") ≡ Ok (Some (line.Question (question.OctetsMsg 256)))
unfolding said_by check_count take_words number_of
octets_of_a_message = refl

-- the third word has the form that the second asks for
octets_of_a_house : says (codes "octets house 256") ≡ Err (BadWord 3)
unfolding said_by check_count take_words number_of
octets_of_a_house = refl

octets_of_another : says (codes "octets image 1") ≡ Err (BadWord 2)
unfolding said_by check_count take_words
octets_of_another = refl

octets_of_none : says (codes "octets msg") ≡ Err (WrongCount 2)
unfolding said_by check_count
octets_of_none = refl

decode_is : says (codes "decode 0aFF") ≡ Ok (Some (line.Question (question.Decode (10 ∷ 255 ∷ []))))
unfolding said_by check_count take_words decode_pairs
decode_is = refl

odd_digits : says (codes "decode 0aF") ≡ Err (BadWord 2)
unfolding said_by check_count take_words decode_pairs
odd_digits = refl

-- ---- words of the name service

-- a0000000-0000-0000-0000-000000000001, and the UUID that ends in b1 after zeros
abbrev uuid_a : List ℕ
uuid_a = 160 ∷ 0 ∷ 0 ∷ 0 ∷ 0 ∷ 0 ∷ 0 ∷ 0 ∷ 0 ∷ 0 ∷ 0 ∷ 0 ∷ 0 ∷ 0 ∷ 0 ∷ 1 ∷ []

abbrev uuid_b : List ℕ
uuid_b = 0 ∷ 0 ∷ 0 ∷ 0 ∷ 0 ∷ 0 ∷ 0 ∷ 0 ∷ 0 ∷ 0 ∷ 0 ∷ 0 ∷ 0 ∷ 0 ∷ 0 ∷ 177 ∷ []

abbrev interface_a : Interface
interface_a = record { uuid = uuid_a; major = 1; minor = 2 }

abbrev tcp_at : ℕ → StringBinding
tcp_at port = record { object = zero_bytes; protseq = Tcp; address = 10 ∷ 0 ∷ 0 ∷ 1 ∷ []; port = port }

abbrev udp_at : ℕ → StringBinding
udp_at port = record { object = zero_bytes; protseq = Udp; address = 10 ∷ 0 ∷ 0 ∷ 1 ∷ []; port = port }

an_interface : interface_of (codes "A0000000-0000-0000-0000-000000000001:1.2") ≡ Some interface_a
unfolding interface_of cut_at_mark number_of by_index
an_interface = refl

version_with_zero : interface_of (codes "a0000000-0000-0000-0000-000000000001:1.02") ≡ None
unfolding interface_of cut_at_mark number_of by_index
version_with_zero = refl

version_too_great : interface_of (codes "a0000000-0000-0000-0000-000000000001:65536.0") ≡ None
unfolding interface_of cut_at_mark number_of by_index
version_too_great = refl

three_versions : interface_of (codes "a0000000-0000-0000-0000-000000000001:1.2.3") ≡ None
unfolding interface_of cut_at_mark number_of by_index
three_versions = refl

default_elements : element_interface_of (codes "default") ≡ Some None
unfolding element_interface_of
default_elements = refl

no_default_elements : element_interface_of (codes "-") ≡ None
unfolding element_interface_of interface_of cut_at_mark
no_default_elements = refl

two_bindings : bindings_of (codes "ncacn_ip_tcp:10.0.0.1[1025],ncadg_ip_udp:10.0.0.1") ≡ Some (tcp_at 1025 ∷ udp_at 0 ∷ [])
unfolding bindings_of all_said binding_said binding_of object_at protseq_at protseq_named endpoint_parts address_of octet_at port_of cut_at_mark number_in digits_of
two_bindings = refl

no_bindings : bindings_of (codes "-") ≡ Some []
unfolding bindings_of
no_bindings = refl

empty_binding : bindings_of (codes "ncacn_ip_tcp:10.0.0.1,") ≡ None
unfolding bindings_of all_said binding_said binding_of object_at protseq_at protseq_named endpoint_parts address_of octet_at port_of cut_at_mark number_in digits_of
empty_binding = refl

-- a nil object is an object part too
nil_object_part : bindings_of (codes "00000000-0000-0000-0000-000000000000@ncacn_ip_tcp:10.0.0.1") ≡ None
unfolding bindings_of all_said binding_said
nil_object_part = refl

two_objects : objects_of (codes "a0000000-0000-0000-0000-000000000001,00000000-0000-0000-0000-0000000000b1") ≡ Some (uuid_a ∷ uuid_b ∷ [])
unfolding objects_of all_said object_said by_index
two_objects = refl

nil_among_objects : objects_of (codes "a0000000-0000-0000-0000-000000000001,00000000-0000-0000-0000-000000000000") ≡ None
unfolding objects_of all_said object_said by_index
nil_among_objects = refl

nil_is_looked_for : object_of (codes "00000000-0000-0000-0000-000000000000") ≡ object_of (codes "-")
unfolding object_of by_index
nil_is_looked_for = refl

both_protocols : protocols_of (codes "ncadg_ip_udp,ncacn_ip_tcp") ≡ Some (true, true)
unfolding protocols_of
both_protocols = refl

protocol_twice : protocols_of (codes "ncacn_ip_tcp,ncacn_ip_tcp") ≡ None
unfolding protocols_of
protocol_twice = refl

greatest_priority : priority_of (codes "255") ≡ Some 255
unfolding priority_of number_of
greatest_priority = refl

no_priority : priority_of (codes "256") ≡ None
unfolding priority_of number_of
no_priority = refl

empty_note : note_of (codes "-") ≡ Some []
unfolding note_of
empty_note = refl

note_of_hyphens : note_of (codes "--") ≡ Some (codes "--")
unfolding note_of note_in
note_of_hyphens = refl

-- ---- lines of the name service

groupadd_is : says (codes "groupadd /.:/group /.:/srv") ≡ Ok
    (Some (line.Question (question.Groupadd (codes "group" ∷ []) (codes "srv" ∷ []))))
unfolding said_by check_count take_words
groupadd_is = refl

groupdel_is : says (codes "groupdel /.:/group /.:") ≡ Ok (Some (line.Question (question.Groupdel (codes "group" ∷ []) [])))
unfolding said_by check_count take_words
groupdel_is = refl

export_is : says (codes "export /.:/srv a0000000-0000-0000-0000-000000000001:1.2 - 00000000-0000-0000-0000-0000000000b1") ≡ Ok
    (Some (line.Question (question.Export (codes "srv" ∷ []) interface_a [] (uuid_b ∷ []))))
unfolding said_by check_count take_words interface_of cut_at_mark number_of bindings_of objects_of all_said object_said by_index
export_is = refl

unexport_is : says (codes "unexport /.:/srv - -") ≡ Ok (Some (line.Question (question.Unexport (codes "srv" ∷ []) None [])))
unfolding said_by check_count take_words interface_or_none_of objects_of
unexport_is = refl

profadd_is : says (codes "profadd /.:/p default /.:/q 8 local") ≡ Ok
    (Some (line.Question (question.Profadd (codes "p" ∷ []) None (codes "q" ∷ []) 8 (codes "local"))))
unfolding said_by check_count take_words element_interface_of priority_of number_of note_of note_in
profadd_is = refl

profdel_is : says (codes "profdel /.:/p a0000000-0000-0000-0000-000000000001:1.2 /.:/q") ≡ Ok
    (Some (line.Question (question.Profdel (codes "p" ∷ []) (Some interface_a) (codes "q" ∷ []))))
unfolding said_by check_count take_words element_interface_of interface_of cut_at_mark number_of by_index
profdel_is = refl

import_is : says (codes "import 1 high /.:/p a0000000-0000-0000-0000-000000000001:1.2 - ncadg_ip_udp") ≡ Ok
    (Some (line.Question (question.Import (record { 0 = 1 }) true (codes "p" ∷ []) interface_a zero_bytes false true)))
unfolding said_by check_count take_words interface_of cut_at_mark number_of object_of protocols_of by_index
import_is = refl

-- ---- the script of `load`

-- so many commands for one round
one_round : length (script 1) ≡ 81
unfolding digits
one_round = refl

-- its number makes it add a value to the entry `e14`, of which one house is told; the skulk after
-- it is the last part
the_round : drop 56 (script 1)
    ≡ command.Update (record { 0 = 1 }) (record { 0 = 1 }) (update.Add (codes "e14") (codes "A") (103 ∷ []))
    ∷ command.Deliver 35 ∷ command.Lose 35 ∷ command.Lose 36
    ∷ command.Skulk (record { 0 = 1 }) (record { 0 = 1 })
    ∷ (map command.Deliver (37 ∷ 38 ∷ 39 ∷ 40 ∷ 41 ∷ 42 ∷ 43 ∷ 44 ∷ 45 ∷ 46 ∷ [])
    ++ map command.Lose (37 ∷ 38 ∷ 39 ∷ 40 ∷ 41 ∷ 42 ∷ 43 ∷ 44 ∷ 45 ∷ 46 ∷ []))
unfolding digits
the_round = refl

-- the first commands
the_opening : take 11 (script 1)
    ≡ command.House (record { 0 = 1 }) 1 ∷ command.House (record { 0 = 2 }) 2 ∷ command.House (record { 0 = 3 }) 3
    ∷ command.Root (record { 0 = 1 }) (listed 2 false ∷ listed 3 false ∷ [])
    ∷ command.Deliver 1 ∷ command.Deliver 2 ∷ command.Lose 1 ∷ command.Lose 2
    ∷ command.Update (record { 0 = 1 }) (record { 0 = 1 }) (update.Create (codes "e0")) ∷ command.Lose 3 ∷ command.Lose 4 ∷ []
unfolding digits
the_opening = refl
