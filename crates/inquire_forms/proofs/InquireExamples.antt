-- Examples of lines of the form `inquire`, and of the text of its answers.
use Rattle.std.proofs.Common.{◌≡◌, true, false, [], ◌∷◌, refl, List, ℕ}
use Rattle.std.specs.Prelude.{Some, Ok, Err, Option, Result, codes}
use Rattle.std.specs.Fmt.{digits}
use Rattle.hex.specs.Hex.{encode_with}
use Rattle.uuid.specs.Parts.{zero_bytes}
use Rattle.uuid.specs.Text.{by_index}
use Rattle.tower_codec.specs.declared.rpc.Interface.{Interface}
use Rattle.tower_codec.specs.declared.rpc.Protseq.TheVariants.{Udp}
use Rattle.tower_codec.specs.declared.binding.StringBinding.{StringBinding}
use Rattle.tower_codec.specs.BindingReading.{cut_at_mark}
use Rattle.cell_script.specs.declared.command.ScriptLine.TheVariants as line
use Rattle.cell_script.specs.declared.command.Question.TheVariants as question
use Rattle.cell_script.specs.declared.fault.ParseFault.{ParseFault}
use Rattle.cell_script.specs.declared.fault.ParseFault.TheVariants.{UnknownCommand, WrongCount, BadWord}
use Rattle.cell_script.specs.Words.{words_of, number_of}
use Rattle.cell_script.specs.NameService.{interface_of, object_of, protocols_of}
use Rattle.cell_script.specs.WordForms.{check_count, take_words}
use Rattle.cell_script.specs.CommandRows.{said_by, early_by}
use Rattle.ns_inquire.specs.declared.inquiry.Inquiry.TheVariants as asked
use Rattle.ns_inquire.specs.declared.version.Version.TheVariants as version
use Rattle.inquire_forms.specs.declared.inquire_line.InquireLine.{InquireLine}
use Rattle.inquire_forms.specs.declared.inquire_line.InquireLine.TheVariants as inquire
use Rattle.inquire_forms.specs.InquireLines.{elements_said, inquired_by, early_inquired, inquired_in, early_inquire_fault, proflist_said}
use Rattle.inquire_forms.specs.Inquired.{Batches, Elements, Entries, Members}
use Rattle.inquire_forms.specs.InquireTexts.{inquire_lines}

abbrev says : List ℕ → Result (Option InquireLine) ParseFault
says octets = inquired_in (words_of octets)

-- the interface of a0000000-0000-0000-0000-000000000001 in version 1.2
abbrev interface_a : Interface
interface_a = record { uuid = 160 ∷ 0 ∷ 0 ∷ 0 ∷ 0 ∷ 0 ∷ 0 ∷ 0 ∷ 0 ∷ 0 ∷ 0 ∷ 0 ∷ 0 ∷ 0 ∷ 0 ∷ 1 ∷ []; major = 1; minor = 2 }

-- ---- lines

grouplist_is : says (codes "grouplist 1 high /.:/g") ≡ Ok (Some (inquire.Grouplist (record { 0 = 1 }) true (codes "g" ∷ [])))
unfolding inquired_by check_count take_words number_of
grouplist_is = refl

entrylist_is : says (codes "entrylist 2 low /.:/s") ≡ Ok (Some (inquire.Entrylist (record { 0 = 2 }) false (codes "s" ∷ [])))
unfolding inquired_by check_count take_words number_of
entrylist_is = refl

by_interface : says (codes "proflist 1 low /.:/p byif a0000000-0000-0000-0000-000000000001:1.2 upto -")
    ≡ Ok (Some (inquire.Proflist (record { 0 = 1 }) false (codes "p" ∷ []) (asked.ByInterface interface_a version.Upto)))
unfolding inquired_by proflist_said elements_said check_count take_words number_of interface_of cut_at_mark by_index
by_interface = refl

by_both : says (codes "proflist 1 low /.:/p byboth a0000000-0000-0000-0000-000000000001:1.2 compatible /.:/m")
    ≡ Ok (Some (inquire.Proflist (record { 0 = 1 }) false (codes "p" ∷ []) (asked.ByBoth interface_a version.Compatible (codes "m" ∷ []))))
unfolding inquired_by proflist_said elements_said check_count take_words number_of interface_of cut_at_mark by_index
by_both = refl

-- no interface is asked for by a member, and no member by an interface
interface_at_fault : says (codes "proflist 1 low /.:/p bymbr a0000000-0000-0000-0000-000000000001:1.2 all /.:/m") ≡ Err (BadWord 6)
unfolding inquired_by proflist_said elements_said check_count take_words number_of
interface_at_fault = refl

version_at_fault : says (codes "proflist 1 low /.:/p all - exact -") ≡ Err (BadWord 7)
unfolding inquired_by proflist_said elements_said check_count take_words number_of
version_at_fault = refl

member_at_fault : says (codes "proflist 1 low /.:/p default - all /.:/m") ≡ Err (BadWord 8)
unfolding inquired_by proflist_said elements_said check_count take_words number_of
member_at_fault = refl

lookup_is : says (codes "lookup 1 high /.:/p a0000000-0000-0000-0000-000000000001:1.2 - ncadg_ip_udp 65535")
    ≡ Ok (Some (inquire.Lookup (record { 0 = 1 }) true (codes "p" ∷ []) interface_a zero_bytes false true 65535))
unfolding inquired_by check_count take_words interface_of cut_at_mark number_of object_of protocols_of by_index
lookup_is = refl

most_at_fault : says (codes "lookup 1 high /.:/p a0000000-0000-0000-0000-000000000001:1.2 - ncadg_ip_udp 65536") ≡ Err (BadWord 8)
unfolding inquired_by check_count take_words interface_of cut_at_mark number_of object_of protocols_of by_index
most_at_fault = refl

-- words are counted first
too_few : says (codes "lookup 0 high") ≡ Err (WrongCount 3)
unfolding inquired_by check_count
too_few = refl

-- each other line is one of a script
a_dump : says (codes "dump 1 2") ≡ Ok (Some (inquire.Plain (line.Question (question.Dump (record { 0 = 1 }) (record { 0 = 2 })))))
unfolding inquired_by said_by check_count take_words number_of
a_dump = refl

no_command : early_inquire_fault (words_of (codes "grouplists 1 high /.:/g")) ≡ Some (UnknownCommand 1)
unfolding early_inquired early_by
no_command = refl

-- ---- texts

a_group : inquire_lines (Members ((codes "a" ∷ []) ∷ (codes "b" ∷ codes "c" ∷ []) ∷ []))
    ≡ codes "member /.:/a" ∷ codes "member /.:/b/c" ∷ codes "end 2" ∷ []
unfolding digits
a_group = refl

a_server : inquire_lines (Entries (interface_a ∷ []) (zero_bytes ∷ []))
    ≡ codes "interface a0000000-0000-0000-0000-000000000001:1.2" ∷ codes "object 00000000-0000-0000-0000-000000000000" ∷ codes "end 2" ∷ []
unfolding digits by_index
a_server = refl

a_profile : inquire_lines (Elements (
    record { priority = 3; interface = interface_a; member = codes "m" ∷ []; annotation = codes "on" }
    ∷ record { priority = 8; interface = record { uuid = zero_bytes; major = 0; minor = 0 }; member = codes "m" ∷ []; annotation = [] } ∷ []))
    ≡ codes "element 3 a0000000-0000-0000-0000-000000000001:1.2 /.:/m 6f6e" ∷ codes "element 8 default /.:/m -" ∷ codes "end 2" ∷ []
unfolding digits by_index encode_with
a_profile = refl

-- a binding at this port
abbrev at_port : ℕ → StringBinding
at_port port = record { object = zero_bytes; protseq = Udp; address = 10 ∷ 0 ∷ 0 ∷ 1 ∷ []; port = port }

two_batches : inquire_lines (Batches ((at_port 1 ∷ at_port 2 ∷ []) ∷ (at_port 3 ∷ []) ∷ []))
    ≡ codes "batch 2" ∷ codes "binding ncadg_ip_udp:10.0.0.1[1]" ∷ codes "binding ncadg_ip_udp:10.0.0.1[2]"
    ∷ codes "batch 1" ∷ codes "binding ncadg_ip_udp:10.0.0.1[3]" ∷ codes "end 3" ∷ []
unfolding digits by_index
two_batches = refl

no_batch : inquire_lines (Batches []) ≡ codes "end 0" ∷ []
unfolding digits
no_batch = refl
