-- Plans: what the commands that change entries ask for.
use Rattle.std.specs.Prelude.{ℕ, Bool, true, false, if◌then◌else◌, List, [], ◌∷◌, Ok, Err}
use Rattle.directory.specs.Updates.{Change, Create, MakeLink, Delete, Add, Remove, Put, Clear}
use Rattle.resolver.specs.declared.walk.End.{End}
use Rattle.resolver.specs.declared.walk.End.TheVariants as ends
use Rattle.resolver.specs.Readers.{Reader}
use Rattle.script_answers.specs.declared.answer.ScriptRefusal.TheVariants as why
use Rattle.ns_commands.specs.Asks.{Asks, Changes, add_element, add_member, changes_in, delete_element, delete_member, export, refusal_of_walk, unexport}
use Rattle.cds_clerk.specs.declared.heard.Lack.{Lack}
use Rattle.cds_clerk.specs.declared.planning.NamedUpdate.{NamedUpdate}
use Rattle.cds_clerk.specs.declared.planning.NamedUpdate.TheVariants as update
use Rattle.cds_clerk.specs.declared.planning.Plan.{Plan}
use Rattle.cds_clerk.specs.declared.planning.Plan.TheVariants as plan
use Rattle.cds_clerk.specs.declared.planning.Planned.{Planned}
use Rattle.cds_clerk.specs.declared.planning.Planned.TheVariants as planned

-- the name of the entry that a command changes
abbrev pub name_of : Plan → List (List ℕ)
name_of (plan.Export name interface bindings objects) = name
name_of (plan.Unexport name interface objects) = name
name_of (plan.Groupadd name member) = name
name_of (plan.Groupdel name member) = name
name_of (plan.Profadd name interface member priority note) = name
name_of (plan.Profdel name interface member) = name

-- what a command asks for over a reader: as in a script
abbrev pub asks_of : Reader → Plan → Asks
asks_of r (plan.Export name interface bindings objects) = export r name interface bindings objects
asks_of r (plan.Unexport name interface objects) = unexport r name interface objects
asks_of r (plan.Groupadd name member) = add_member r name member
asks_of r (plan.Groupdel name member) = delete_member r name member
asks_of r (plan.Profadd name interface member priority note) =
    add_element r name interface member priority note
asks_of r (plan.Profdel name interface member) = delete_element r name interface member

-- ---- updates by a full name

-- an update makes an entry
abbrev pub is_creation : NamedUpdate → Bool
is_creation update.Create = true
is_creation (update.Link target) = true
is_creation update.Delete = false
is_creation (update.Add attr value) = false
is_creation (update.Remove attr value) = false
is_creation (update.Put attr value) = false
is_creation (update.Clear attr) = false

-- an update of the entry of this simple name
abbrev pub change_named : NamedUpdate → (name : List ℕ) → Change
change_named update.Create name = Create name
change_named (update.Link target) name = MakeLink name target
change_named update.Delete name = Delete name
change_named (update.Add attr value) name = Add name attr value
change_named (update.Remove attr value) name = Remove name attr value
change_named (update.Put attr value) name = Put name attr value
change_named (update.Clear attr) name = Clear name attr

-- it, as the one change of a directory at a house
abbrev pub update_of : (house dir : ℕ) → (name : List ℕ) → NamedUpdate → Changes
update_of house dir name u = record { house = house; dir = dir; list = change_named u name ∷ [] }

-- what it asks for by the end of a walk: an entry that is not there can be made
abbrev pub update_at : NamedUpdate → End → Asks
update_at u (ends.Found f) = Ok (update_of f.house.0 f.dir.0 f.name u)
update_at u (ends.Missing place done) =
    if is_creation u then Ok (update_of place.house.0 place.dir.0 place.name u)
    else Err (why.NoSuchName done)
update_at u (ends.Refused reason) = Err (refusal_of_walk reason)

-- ---- what a plan comes to

-- what is asked for, if that is known
abbrev pub IfPlanned : Planned → (Asks → Type 0) → Type 0
IfPlanned (planned.Made u) P = P (Ok (changes_in u))
IfPlanned (planned.Refused reason) P = P (Err reason)
IfPlanned planned.LacksRoot P = Unit {0}
IfPlanned (planned.Lacks q) P = Unit {0}

-- what lacks, if that is what a house says of a name
abbrev pub IfMisses : Planned → (Lack → Type 0) → Type 0
IfMisses (planned.Made u) P = Unit {0}
IfMisses (planned.Refused reason) P = Unit {0}
IfMisses planned.LacksRoot P = Unit {0}
IfMisses (planned.Lacks q) P = P q

-- where the root directory is lacks
abbrev pub IfRootless : Planned → Type 0 → Type 0
IfRootless (planned.Made u) P = Unit {0}
IfRootless (planned.Refused reason) P = Unit {0}
IfRootless planned.LacksRoot P = P
IfRootless (planned.Lacks q) P = Unit {0}

-- ---- words of private contracts

-- it is known what is asked for, or why nothing is
abbrev pub IsKnown : Planned → Type 0
IsKnown (planned.Made u) = Unit {0}
IsKnown (planned.Refused reason) = Unit {0}
IsKnown planned.LacksRoot = ⊥
IsKnown (planned.Lacks q) = ⊥
