-- What the commands of the name service that change an entry ask of a cell, over any reader of it
-- (own, after C706, name service entries).
use Rattle.std.specs.Prelude.{ℕ, true, is_none, List, Option, Some, None, Result, Ok, Err}
use Rattle.std.specs.Option.{option_map}
use Rattle.std.specs.Result.{result_map_both}
use Rattle.cds_stamps.specs.declared.alloc_or.AllocOr.{AllocOr}
use Rattle.cds_stamps.specs.Outcomes.{Answers}
use Rattle.tower_codec.specs.declared.binding.StringBinding.{StringBinding}
use Rattle.tower_codec.specs.declared.rpc.Interface.{Interface}
use Rattle.directory.specs.declared.entry.Kind.{Kind}
use Rattle.directory.specs.declared.entry.Kind.TheVariants as kind
use Rattle.directory.specs.EntryChanges.{changes}
use Rattle.directory.specs.Updates.{Change}
use Rattle.resolver.specs.declared.refusal.Refusal.{Refusal}
use Rattle.resolver.specs.declared.refusal.Refusal.TheVariants as refusal
use Rattle.resolver.specs.declared.seen.Found.{Found}
use Rattle.resolver.specs.declared.seen.Place.{Place}
use Rattle.resolver.specs.Readers.{Reader}
use Rattle.resolver.specs.WalkEnds.{walk_end, place_of_walk}
use Rattle.server_entries.specs.declared.exports.ExportFault.{ExportFault}
use Rattle.server_entries.specs.declared.exports.ExportFault.TheVariants as servers
use Rattle.server_entries.specs.Exports.{tower_attribute, object_attribute, export_changes, export_fault, unexport_changes, unexport_fault}
use Rattle.ns_groups.specs.declared.member.GroupFault.{GroupFault}
use Rattle.ns_groups.specs.declared.member.GroupFault.TheVariants as groups
use Rattle.ns_groups.specs.Groups as groups_of
use Rattle.ns_profiles.specs.declared.fault.ProfileFault.{ProfileFault}
use Rattle.ns_profiles.specs.declared.fault.ProfileFault.TheVariants as profiles
use Rattle.ns_profiles.specs.Profiles as profiles_of
use Rattle.script_answers.specs.declared.answer.ScriptRefusal.{ScriptRefusal}
use Rattle.script_answers.specs.declared.answer.ScriptRefusal.TheVariants as why
use Rattle.ns_commands.specs.declared.updates.Updates.{Updates}

-- changes of a directory at a house, one after the other (own)
pub record Changes : Type 0 where
  pub house : ℕ
  pub dir : ℕ
  pub list : List Change

-- what a command asks for, or why it asks for nothing (own)
abbrev pub Asks : Type 0
Asks = Result Changes ScriptRefusal

-- updates, as changes (own)
abbrev pub changes_in : Updates → Changes
changes_in u = record { house = u.house.0; dir = u.dir.0; list = changes u.list.items }

-- the updates that are answered are those that a command asks for, or it is answered why it asks
-- for nothing, unless memory runs out (own)
abbrev pub AnswersAsk : Result Updates (AllocOr ScriptRefusal) → Asks → Type 0
AnswersAsk result asks = Answers (result_map_both changes_in (λ e. e) result) asks

-- ---- refusals

-- why the script says that a walk finds nothing (own)
abbrev pub refusal_of_walk : Refusal → ScriptRefusal
refusal_of_walk (refusal.NoSuchName done) = why.NoSuchName done
refusal_of_walk (refusal.NotDirectory n) = why.NotDirectory n
refusal_of_walk (refusal.Unreachable d) = why.Unreachable d
refusal_of_walk refusal.LinkCycle = why.LinkCycle
refusal_of_walk refusal.TooManyLinks = why.TooManyLinks
refusal_of_walk refusal.NameTooLong = why.NameTooLong
refusal_of_walk refusal.RootName = why.RootName

-- why it says that there is nothing to export or to unexport (own)
abbrev pub refusal_of_export : ExportFault → ScriptRefusal
refusal_of_export servers.NothingToExport = why.NothingToExport
refusal_of_export servers.NothingToUnexport = why.NothingToUnexport

-- why it says that no member is deleted; of a deletion the first never comes (own)
abbrev pub refusal_of_group : GroupFault → ScriptRefusal
refusal_of_group groups.BadMemberValue = why.NoSuchMember
refusal_of_group groups.NoSuchMember = why.NoSuchMember

-- why it says that no element is added or deleted; of these the first never comes (own)
abbrev pub refusal_of_profile : ProfileFault → ScriptRefusal
refusal_of_profile (profiles.BadElement place) = why.NoSuchElement
refusal_of_profile profiles.BadPriority = why.BadPriority
refusal_of_profile profiles.ElementTooLong = why.ElementTooLong
refusal_of_profile profiles.NoSuchElement = why.NoSuchElement

-- ---- entries

-- a fault comes first (own)
abbrev pub unless : Option ScriptRefusal → Asks → Asks
unless (Some fault) asks = Err fault
unless None asks = asks

-- what comes of an entry, or why there is none (own)
abbrev pub of_entry : {Entry : Type 0} → Result Entry ScriptRefusal → (Entry → Asks) → Asks
of_entry (Ok entry) ask = ask entry
of_entry (Err r) ask = Err r

-- the place of an entry of this kind, or of none; one that is absent or an object can be given
-- values (own)
abbrev pub to_fill : Option Kind → Place → Result Place ScriptRefusal
to_fill None place = Ok place
to_fill (Some kind.Object) place = Ok place
to_fill (Some kind.Link) place = Err why.NotObject
to_fill (Some kind.Child) place = Err why.NotObject

-- the place to which a walk leads, if an entry there can be given values (own)
abbrev pub place_to_fill : Result Place Refusal → Result Place ScriptRefusal
place_to_fill (Err r) = Err (refusal_of_walk r)
place_to_fill (Ok place) = to_fill place.kind place

-- an entry of this kind, if that is an object (own)
abbrev pub of_kind : Kind → Found → Result Found ScriptRefusal
of_kind kind.Object entry = Ok entry
of_kind kind.Link entry = Err why.NotObject
of_kind kind.Child entry = Err why.NotObject

-- the entry that a walk finds, if it is an object (own)
abbrev pub object_in : Result Found Refusal → Result Found ScriptRefusal
object_in (Err r) = Err (refusal_of_walk r)
object_in (Ok entry) = of_kind entry.kind entry

-- the entry of this place gets these changes (own)
abbrev pub fills : Place → List Change → Asks
fills place list = Ok (record { house = place.house.0; dir = place.dir.0; list = list })

-- this entry gets these changes, unless there is a fault (own)
abbrev pub changes_unless : Option ScriptRefusal → Found → List Change → Asks
changes_unless fault entry list = unless fault (Ok (record { house = entry.house.0; dir = entry.dir.0; list = list }))

-- ---- commands: each follows the links of its name

-- a server is exported: the entry gets its towers and objects (own, after C706, exporting a server)
abbrev pub export : Reader → List (List ℕ) → Interface → List StringBinding → (objects : List (List ℕ)) → Asks
export reader name interface bindings objects =
    unless (option_map refusal_of_export (export_fault bindings objects))
    (of_entry (place_to_fill (place_of_walk reader name)) (λ place.
    fills place (export_changes place.name (is_none place.kind) interface bindings objects)))

-- an entry loses these towers and objects, if it has any of them (own)
abbrev pub unless_none : Found → List Change → Asks
unless_none entry gone = changes_unless (option_map refusal_of_export (unexport_fault gone)) entry gone

-- a server is unexported: the entry loses the towers of the interface, if one is given, and the
-- objects (own, after C706, unexporting a server)
abbrev pub unexport : Reader → List (List ℕ) → Option Interface → (objects : List (List ℕ)) → Asks
unexport reader name interface objects = of_entry (object_in (walk_end reader true name)) (λ entry.
    unless_none entry (unexport_changes entry.name (reader.values entry tower_attribute) (reader.values entry object_attribute) interface objects))

-- a member is added to a group (own, after C706, groups)
abbrev pub add_member : Reader → List (List ℕ) → (member : List (List ℕ)) → Asks
add_member reader name member = of_entry (place_to_fill (place_of_walk reader name)) (λ place.
    fills place (groups_of.member_addition place.name (is_none place.kind) member))

-- a member is deleted from a group (own, after C706, groups)
abbrev pub delete_member : Reader → List (List ℕ) → (member : List (List ℕ)) → Asks
delete_member reader name member = of_entry (object_in (walk_end reader true name)) (λ entry.
    changes_unless (option_map refusal_of_group (groups_of.delete_fault (reader.values entry groups_of.group) member)) entry
    (groups_of.member_deletion entry.name member))

-- an element is added to a profile; where no interface is given it is a default element (own, after
-- C706, profiles)
abbrev pub add_element : Reader → List (List ℕ) → Option Interface → (member : List (List ℕ)) → (priority : ℕ) → (annotation : List ℕ) → Asks
add_element reader name interface member priority annotation =
    unless (option_map refusal_of_profile (profiles_of.add_fault interface member priority annotation))
    (of_entry (place_to_fill (place_of_walk reader name)) (λ place.
    fills place (profiles_of.element_addition place.name (is_none place.kind) (profiles_of.new_element interface member priority annotation))))

-- the elements for an interface, or the default ones, with this member are deleted from a profile
-- (own, after C706, profiles)
abbrev pub deleted_from : Option Interface → (member : List (List ℕ)) → Found → (values : List (List ℕ)) → Asks
deleted_from interface member entry values =
    changes_unless (option_map refusal_of_profile (profiles_of.delete_fault interface member values)) entry
    (profiles_of.element_deletion entry.name interface member values)

-- a profile loses its elements for an interface, or the default ones, with this member (own, after
-- C706, profiles)
abbrev pub delete_element : Reader → List (List ℕ) → Option Interface → (member : List (List ℕ)) → Asks
delete_element reader name interface member = of_entry (object_in (walk_end reader true name)) (λ entry.
    deleted_from interface member entry (reader.values entry profiles_of.profile))
