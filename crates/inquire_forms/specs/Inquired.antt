-- What inquiries are answered, over any reader of entries (own, after C706, inquiry of name service
-- entries).
use Rattle.std.specs.Prelude.{ℕ, true, List, map, Result, Ok, Err}
use Rattle.tower_codec.specs.declared.binding.StringBinding.{StringBinding}
use Rattle.tower_codec.specs.declared.rpc.Interface.{Interface}
use Rattle.resolver.specs.declared.seen.Found.{Found}
use Rattle.resolver.specs.Readers.{Reader}
use Rattle.resolver.specs.WalkEnds.{walk_end}
use Rattle.server_entries.specs.declared.client.Wanted.{Wanted}
use Rattle.server_entries.specs.Exports.{tower_attribute, object_attribute}
use Rattle.ns_groups.specs.Groups.{group, members_of}
use Rattle.ns_profiles.specs.declared.element.Element.{Element}
use Rattle.ns_profiles.specs.Profiles.{profile}
use Rattle.ns_import.specs.declared.fault.ImportFault.{ImportFault}
use Rattle.ns_import.specs.declared.fault.ImportFault.TheVariants as fault
use Rattle.ns_import.specs.Imports.{import_list}
use Rattle.ns_inquire.specs.declared.inquiry.Inquiry.{Inquiry}
use Rattle.ns_inquire.specs.Batches.{batches}
use Rattle.ns_inquire.specs.Inquiries.{elements_of, interfaces_of, objects_of}
use Rattle.script_answers.specs.declared.answer.Answer.{Answer}
use Rattle.script_answers.specs.declared.answer.Answer.TheVariants as answer
use Rattle.script_answers.specs.declared.answer.ScriptRefusal.{ScriptRefusal}
use Rattle.script_answers.specs.declared.answer.ScriptRefusal.TheVariants as why
use Rattle.ns_commands.specs.Asks.{object_in, refusal_of_walk}
use Rattle.inquire_forms.specs.declared.inquire_answer.InquireAnswer.{InquireAnswer}
use Rattle.inquire_forms.specs.declared.inquire_answer.InquireAnswer.TheVariants as inquire

-- what a line is answered: as a line of a script is, which an inquiry that is refused is too; or
-- the members of a group; the interfaces and objects of a server; elements of a profile; or
-- bindings in batches (own)
pub data Inquired : Type 0 where
  Plain : (answer : Answer) → Inquired
  Members : (names : List (List (List ℕ))) → Inquired
  Entries : (interfaces : List Interface) → (objects : List (List ℕ)) → Inquired
  Elements : (elements : List Element) → Inquired
  Batches : (batches : List (List StringBinding)) → Inquired

-- what the program answers, as lists (own)
abbrev pub inquired_answer : InquireAnswer → Inquired
inquired_answer (inquire.Plain answer) = Plain answer
inquired_answer (inquire.Members names) = Members names.items
inquired_answer (inquire.Entries interfaces objects) = Entries interfaces.items objects.items
inquired_answer (inquire.Elements elements) = Elements elements.items
inquired_answer (inquire.Batches batches) = Batches (map (λ batch. batch.items) batches.items)

-- an inquiry that is refused (own)
abbrev pub inquired_refusal : ScriptRefusal → Inquired
inquired_refusal r = Plain (answer.Refused r)

-- what is listed of an object, or why there is none (own)
abbrev pub of_object : Result Found ScriptRefusal → (Found → Inquired) → Inquired
of_object (Ok entry) list = list entry
of_object (Err r) list = inquired_refusal r

-- what is listed of the object that a name leads to, links followed to the last (own)
abbrev pub inquired_list : Reader → List (List ℕ) → (Found → Inquired) → Inquired
inquired_list reader name list = of_object (object_in (walk_end reader true name)) list

-- the members of a group (own, after C706, inquiry of group members)
abbrev pub members_in : Reader → Found → Inquired
members_in reader entry = Members (members_of (reader.values entry group))

-- those of the group of a name (own)
abbrev pub members_listed : Reader → (name : List (List ℕ)) → Inquired
members_listed reader name = inquired_list reader name (members_in reader)

-- the interfaces and the objects of a server (own, after C706, inquiry of objects and of server
-- entries)
abbrev pub entry_in : Reader → Found → Inquired
entry_in reader entry =
    Entries (interfaces_of (reader.values entry tower_attribute)) (objects_of (reader.values entry object_attribute))

-- those of the server of a name (own)
abbrev pub entry_listed : Reader → (name : List (List ℕ)) → Inquired
entry_listed reader name = inquired_list reader name (entry_in reader)

-- the elements of a profile that are asked for (own, after C706, inquiry of profile elements)
abbrev pub elements_in : Reader → Inquiry → Found → Inquired
elements_in reader asked entry = Elements (elements_of asked (reader.values entry profile))

-- those of the profile of a name (own)
abbrev pub elements_listed : Reader → Inquiry → (name : List (List ℕ)) → Inquired
elements_listed reader asked name = inquired_list reader name (elements_in reader asked)

-- the bindings that a search found, in batches of at most so many, or why it did not begin (own)
abbrev pub in_batches : (most : ℕ) → Result (List StringBinding) ImportFault → Inquired
in_batches most (Ok bindings) = Batches (batches most bindings)
in_batches most (Err (fault.Walk r)) = inquired_refusal (refusal_of_walk r)
in_batches most (Err fault.NotObject) = inquired_refusal why.NotObject

-- the bindings of an import in batches, over a list that has each object which the reader shows
-- (own, after C706, lookup of bindings)
abbrev pub batches_listed : Reader → (objects : List Found) → Wanted → (most : ℕ) → (name : List (List ℕ)) → Inquired
batches_listed reader objects wanted most name = in_batches most (import_list reader objects wanted name)
