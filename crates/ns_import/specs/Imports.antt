-- The search for bindings: at which entries it goes on, in which order, and which bindings an
-- import lists.
use Rattle.std.specs.Prelude.{◌≡◌, ◌↔◌, ℕ, ◌≤◌, Bool, true, false, ◌&&◌, ◌==◌, List, ◌++◌, length, nat_eq, Option, Some, is_none}
use Rattle.std.specs.Prelude.{Result, Ok, Err, is_err, IfOk}
use Rattle.std.specs.Cmp.Lexicographic.{pointwise}
use Rattle.std.specs.List.{Contains, IsDistinct, filter_map, flat_map}
use Rattle.std.specs.Result.{result_ok, result_map_both}
use Rattle.std.specs.declared.alloc.AllocError.{AllocError}
use Rattle.tower_codec.specs.declared.binding.StringBinding.{StringBinding}
use Rattle.tower_codec.specs.declared.rpc.Interface.{Interface}
use Rattle.directory.specs.declared.entry.Kind.{Kind}
use Rattle.directory.specs.declared.entry.Kind.TheVariants as kind
use Rattle.directory.specs.Kinds.{rank}
use Rattle.resolver.specs.declared.refusal.Refusal.{Refusal}
use Rattle.resolver.specs.declared.seen.Found.{Found}
use Rattle.resolver.specs.Readers.{Reader}
use Rattle.resolver.specs.WalkEnds.{walk_end}
use Rattle.server_entries.specs.declared.client.Wanted.{Wanted}
use Rattle.server_entries.specs.Clients.{entry_bindings}
use Rattle.server_entries.specs.Exports.{tower_attribute, object_attribute}
use Rattle.ns_groups.specs.Groups.{group, members_of}
use Rattle.ns_profiles.specs.Profiles.{profile, search_order}
use Rattle.ns_import.specs.declared.fault.ImportFault.{ImportFault}
use Rattle.ns_import.specs.declared.fault.ImportFault.TheVariants.{Walk, NotObject}
use Rattle.ns_import.specs.Orders.{order, Reaches}

-- the two are one entry: directory, house, name and kind
abbrev pub same_entry : Found → Found → Bool
same_entry e f = e.dir.0 == f.dir.0 && (e.house.0 == f.house.0 && (pointwise nat_eq e.name f.name && rank e.kind == rank f.kind))

-- an entry of this kind, if that is an object
abbrev pub of_kind : Kind → Found → Result Found ImportFault
of_kind kind.Object entry = Ok entry
of_kind kind.Link entry = Err NotObject
of_kind kind.Child entry = Err NotObject

-- what a walk found, if it is an object; else the refusal of the walk, or that it is none
abbrev pub object_walked : Result Found Refusal → Result Found ImportFault
object_walked (Ok entry) = of_kind entry.kind entry
object_walked (Err why) = Err (Walk why)

-- the object that a name leads to, links followed to the last, or why it leads to none
abbrev pub object_at : Reader → List (List ℕ) → Result Found ImportFault
object_at reader name = object_walked (walk_end reader true name)

-- the same, of a name that is passed over where it leads to none
abbrev pub object_of : Reader → List (List ℕ) → Option Found
object_of reader name = result_ok (object_at reader name)

-- the names at which a search goes on from an entry: the members of its group, and then those that
-- its profile says (own, after C706, name service searches)
abbrev pub names_of : Reader → Interface → Found → List (List (List ℕ))
names_of reader wanted e = members_of (reader.values e group) ++ search_order wanted (reader.values e profile)

-- the entries at which it goes on
abbrev pub edges : Reader → Interface → Found → List Found
edges reader wanted e = filter_map (object_of reader) (names_of reader wanted e)

-- the bindings that an entry has for a client
abbrev pub bindings_at : Reader → Wanted → Found → List StringBinding
bindings_at reader wanted e = entry_bindings wanted (reader.values e tower_attribute) (reader.values e object_attribute)

-- the entries of a search that begins at this one, in its order. Each object that the reader shows
-- is among `objects`, so that there are steps enough (own, after C706, name service searches)
abbrev pub order_from : Reader → (objects : List Found) → Interface → Found → List Found
order_from reader objects wanted start = order same_entry (edges reader wanted) (length objects) start

-- their bindings (own, after C706, importing bindings)
abbrev pub imports_from : Reader → (objects : List Found) → Wanted → Found → List StringBinding
imports_from reader objects wanted start = flat_map (bindings_at reader wanted) (order_from reader objects wanted.interface start)

-- what an import of a name lists, or why it does not begin
abbrev pub import_list : Reader → (objects : List Found) → Wanted → List (List ℕ) → Result (List StringBinding) ImportFault
import_list reader objects wanted name = result_map_both (imports_from reader objects wanted) (λ fault. fault) (object_at reader name)

-- an import lists these bindings: those of the entries that are reached from the one of this name,
-- each once, in the order that any large enough number of steps gives (own, after C706, importing
-- bindings)
pub record IsImport (reader : Reader) (wanted : Wanted) (name : List (List ℕ)) (bindings : List StringBinding) : Type 0 where
  pub start : Found
  pub begins : object_of reader name ≡ Some start
  pub entries : List Found
  pub lists : bindings ≡ flat_map (bindings_at reader wanted) entries
  pub exactly : (e : Found) → Contains entries e ↔ Reaches (edges reader wanted.interface) start e
  pub once : IsDistinct same_entry entries
  pub ordered : (n : ℕ) × ((m : ℕ) → n ≤ m → entries ≡ order same_entry (edges reader wanted.interface) m start)

-- an import that has begun so: all its bindings are still to come
abbrev pub begin_import : Result (List StringBinding) ImportFault → Result (Option (List StringBinding)) ImportFault
begin_import answer = result_map_both (λ bindings. Some bindings) (λ fault. fault) answer

-- a call of an importer, from the bindings that were to come to those that are: it is spent, and
-- has none, exactly after want of memory, and what is spent answers nothing
pub record IsCall {T : Type 0} (old new : Option (List StringBinding)) (result : Result T AllocError) : Type 0 where
  pub spent : is_none new ≡ is_err result
  pub usable : IfOk result (λ _. is_none old ≡ false)
