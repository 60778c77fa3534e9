-- What a command comes to, by what was heard.
use Rattle.std.specs.Prelude.{◌≡◌, ℕ, true, false, List, [], Some, None, Ok, Err}
use Rattle.cds_stamps.specs.declared.numbers.DirId.{DirId}
use Rattle.cell_names.specs.ChildPointers.{Pointer}
use Rattle.resolver.specs.declared.seen.Found.{Found}
use Rattle.resolver.specs.PassWords.{first_walker}
use Rattle.resolver.specs.Readers.{Reader, ShowsOnly}
use Rattle.resolver.specs.WalkEnds.{end_of, walk_end}
use Rattle.script_answers.specs.declared.answer.Answer.{Answer}
use Rattle.script_answers.specs.declared.answer.Answer.TheVariants as answer
use Rattle.script_answers.specs.declared.answer.ScriptRefusal.{ScriptRefusal}
use Rattle.ns_commands.specs.Asks.{Asks, changes_in}
use Rattle.ns_commands.specs.Imported.{import_answer}
use Rattle.ns_commands.specs.declared.updates.Updates.{Updates}
use Rattle.inquire_forms.specs.Inquired.{Inquired, Plain, batches_listed, inquired_answer}
use Rattle.cds_clerk.specs.declared.heard.Heard.{Heard}
use Rattle.cds_clerk.specs.declared.heard.Lack.{Lack}
use Rattle.cds_clerk.specs.Agreements.{Agrees, IsNeeded}
use Rattle.cds_clerk.specs.Heards.{heard_root}
use Rattle.cds_clerk.specs.Inquirings.{IsAtName, inquiry_answer}
use Rattle.cds_clerk.specs.Links.{IsTargetRead}
use Rattle.cds_clerk.specs.Plans.{asks_of, name_of, update_at}
use Rattle.cds_clerk.specs.Readings.{values_read}
use Rattle.cds_clerk.specs.Searches.{AreAsked, IsSought}
use Rattle.cds_clerk.specs.Unreached.{AreMissed}
use Rattle.clerk_turns.specs.declared.command.Command.{Command}
use Rattle.clerk_turns.specs.declared.command.Command.TheVariants as command
use Rattle.clerk_turns.specs.declared.outcomes.Comes.{Comes}
use Rattle.clerk_turns.specs.declared.outcomes.Comes.TheVariants as comes

-- the answer is why nothing is asked for
abbrev pub IsRefusalOf : Asks → Answer → Type 0
IsRefusalOf asks a = (why : ScriptRefusal) × (asks ≡ Err why) × (a ≡ answer.Refused why)

-- what a command that changes an entry asks for over a reader
abbrev pub IsPlanOver : Reader → Command → Asks → Type 0
IsPlanOver r (command.Plan p) asks = asks ≡ asks_of r p
IsPlanOver r (command.Update name u) asks = asks ≡ update_at u (end_of r false name)
IsPlanOver r other asks = ⊥

-- an answer lists nothing of an inquiry, and is so
abbrev pub IsPlain : (Answer → Type 0) → Inquired → Type 0
IsPlain P (Plain a) = P a
IsPlain P other = ⊥

-- the answer to a command by what was heard: each reader that agrees with that has it, whatever
-- else it tells; a command that changes an entry answers why it does not
abbrev pub IsAnswer : Heard → Command → Inquired → Type 0
IsAnswer h (command.Read high name attr) said = IsPlain (λ a. (r : Reader) → Agrees r h
    → a ≡ values_read r attr (walk_end r true name)) said
IsAnswer h (command.Readlink high name) said = IsPlain (λ a. (r : Reader) → Agrees r h
    → IsTargetRead r (walk_end r false name) a) said
IsAnswer h (command.Import high name wanted) said = IsPlain (λ a. (r : Reader)
    (objects : List Found) → Agrees r h → ShowsOnly r objects
    → a ≡ import_answer r objects wanted name) said
IsAnswer h (command.Inquire high name listing) said = (r : Reader) → Agrees r h
    → said ≡ inquiry_answer r name listing
IsAnswer h (command.Lookup high name wanted most) said = (r : Reader) (objects : List Found)
    → Agrees r h → ShowsOnly r objects → said ≡ batches_listed r objects wanted most name
IsAnswer h (command.Plan p) said = IsPlain (λ a. (r : Reader) → Agrees r h
    → IsRefusalOf (asks_of r p) a) said
IsAnswer h (command.Update name u) said = IsPlain (λ a. (r : Reader) → Agrees r h
    → IsRefusalOf (update_at u (end_of r false name)) a) said

-- the directories that the search of a command did not reach, by what was heard; one that does not
-- search has none
abbrev pub AreNotReached : Heard → Command → List DirId → Type 0
AreNotReached h (command.Import high name wanted) dirs =
    AreMissed h wanted.interface name dirs
AreNotReached h (command.Lookup high name wanted most) dirs =
    AreMissed h wanted.interface name dirs
AreNotReached h other dirs = dirs ≡ []

-- these are the updates that a command asks for by what was heard
abbrev pub ArePlanned : Heard → Command → Updates → Type 0
ArePlanned h c u = (r : Reader) → Agrees r h → IsPlanOver r c (Ok (changes_in u))

-- the walk of a name needs this, the last link not followed
abbrev pub IsAtLink : Heard → (name : List (List ℕ)) → Lack → Type 0
IsAtLink h name q = (root : Pointer) → heard_root h.root ≡ Some (Some root)
    → IsNeeded h false (first_walker root name) q

-- a command needs this to come to its answer, or to its plan
abbrev pub Wants : Heard → Command → Lack → Type 0
Wants h (command.Read high name attr) q = IsAtName h name q
Wants h (command.Readlink high name) q = IsAtLink h name q
Wants h (command.Import high name wanted) q = IsSought h wanted.interface name q
Wants h (command.Inquire high name listing) q = IsAtName h name q
Wants h (command.Lookup high name wanted most) q = IsSought h wanted.interface name q
Wants h (command.Plan p) q = IsAtName h (name_of p) q
Wants h (command.Update name u) q = IsAtLink h name q

-- these are asked for a command: there are some, each once; none was heard, and each is needed
abbrev pub AreWanted : Heard → Command → List Lack → Type 0
AreWanted h c qs = AreAsked h (Wants h c) qs

-- what a command comes to by what was heard
abbrev pub IsComing : Heard → Command → Comes → Type 0
IsComing h c (comes.Said a dirs) = IsAnswer h c (inquired_answer a) × AreNotReached h c dirs.items
IsComing h c (comes.Updates u) = ArePlanned h c u
IsComing h c comes.LacksRoot = heard_root h.root ≡ None
IsComing h c (comes.Lacks qs) = AreWanted h c qs.items
