-- Searches over what was heard.
use Rattle.std.specs.Prelude.{◌≡◌, ◌≢◌, ◌⊎◌, ℕ, Bool, true, ◌&&◌, ◌==◌, if◌then◌else◌, List, [], ◌∷◌, ◌++◌, nat_eq, Option, Some, None, IfSome}
use Rattle.std.specs.Cmp.Lexicographic.{pointwise}
use Rattle.std.specs.List.{All, Contains, IsDistinct, list_any}
use Rattle.std.specs.Result.{result_ok}
use Rattle.tower_codec.specs.declared.rpc.Interface.{Interface}
use Rattle.cell_names.specs.ChildPointers.{Pointer}
use Rattle.resolver.specs.declared.seen.Found.{Found}
use Rattle.resolver.specs.declared.walk.End.{End}
use Rattle.resolver.specs.PassWords.{first_walker}
use Rattle.resolver.specs.Readers.{Reader}
use Rattle.resolver.specs.Walks.{Ends, found_of}
use Rattle.ns_import.specs.Imports.{edges, names_of, object_of, object_walked}
use Rattle.ns_import.specs.Orders.{Reaches}
use Rattle.cds_clerk.specs.declared.heard.Heard.{Heard}
use Rattle.cds_clerk.specs.declared.heard.Lack.{Lack}
use Rattle.cds_clerk.specs.declared.searching.Searched.{Searched}
use Rattle.cds_clerk.specs.declared.searching.Searched.TheVariants as searched
use Rattle.cds_clerk.specs.Agreements.{Agrees, IsNeeded}
use Rattle.cds_clerk.specs.Heards.{IsUnheard, heard_root}
use Rattle.cds_clerk.specs.Readings.{IsShown, least_reader}

-- the object that the end of a walk is, if it is one
abbrev pub object_in : End → Option Found
object_in e = result_ok (object_walked (found_of e))

-- by what was heard the walk of a name comes to an end, and if that is an object, it is one of
-- these
pub record IsSettled (h : Heard) (entries : List Found) (name : List (List ℕ)) : Type 0 where
  pub end : End
  pub walked : (r : Reader) → Agrees r h → Ends r true name end
  pub among : IfSome (object_in end) (Contains entries)

-- the walk of a name needs one of these questions
pub record IsWaiting (h : Heard) (lacks : List Lack) (name : List (List ℕ)) : Type 0 where
  pub lack : Lack
  pub among : Contains lacks lack
  pub needs : (root : Pointer) → heard_root h.root ≡ Some (Some root)
      → IsNeeded h true (first_walker root name) lack

-- a name is one of those that are still to walk, or it is settled, or it waits for a question
abbrev pub IsFollowed : Heard → List Found → (names : List (List (List ℕ))) → List Lack
    → List (List ℕ) → Type 0
IsFollowed h entries names lacks name =
    Contains names name ⊎ (IsSettled h entries name ⊎ IsWaiting h lacks name)

-- a search that began at this name came to these entries, which were shown; each name at which it
-- goes on is still to walk, or settled, or waits for one of these questions
pub record IsSearch (h : Heard) (wanted : Interface) (first : List (List ℕ)) (entries : List Found)
    (names : List (List (List ℕ))) (lacks : List Lack) : Type 0 where
  pub begins : IsFollowed h entries names lacks first
  pub shown : (e : Found) → Contains entries e → IsShown h e
  pub goes_on : (e : Found) (n : List (List ℕ)) → Contains entries e
      → Contains (names_of (least_reader h) wanted e) n → IsFollowed h entries names lacks n

-- it is closed: each name was walked to its end
abbrev pub IsClosed : Heard → Interface → (first : List (List ℕ)) → List Found → Type 0
IsClosed h wanted first entries = IsSearch h wanted first entries [] []

-- ---- what a search asks for

-- two questions are one: what the same house says of the same name
abbrev pub same_lack : Lack → Lack → Bool
same_lack q p = q.dir.0 == p.dir.0 && (q.house.0 == p.house.0 && pointwise nat_eq q.name p.name)

-- over a reader a search that begins at a name comes to another: that is the first, or the search
-- goes on there from an entry that is reached
pub data IsVisited (r : Reader) (wanted : Interface) (first : List (List ℕ))
    : List (List ℕ) → Type 0 where
  begins : IsVisited r wanted first first
  goes_on : (start e : Found) (name : List (List ℕ)) → object_of r first ≡ Some start
      → Reaches (edges r wanted) start e → Contains (names_of r wanted e) name
      → IsVisited r wanted first name

-- over a reader a search that begins at a name comes to this entry
pub record IsReached (r : Reader) (wanted : Interface) (first : List (List ℕ)) (e : Found)
    : Type 0 where
  pub start : Found
  pub begins : object_of r first ≡ Some start
  pub reached : Reaches (edges r wanted) start e

-- over each reader that agrees with what was heard it comes to these entries
pub record AreReached (h : Heard) (wanted : Interface) (first : List (List ℕ))
    (entries : List Found) : Type 0 where
  pub each : (e : Found) → Contains entries e → (r : Reader) → Agrees r h
      → IsReached r wanted first e

-- a search needs this: over each reader that agrees with what was heard it comes to a name of which
-- the walk needs it
pub record IsSought (h : Heard) (wanted : Interface) (first : List (List ℕ)) (q : Lack)
    : Type 0 where
  pub name : List (List ℕ)
  pub comes : (r : Reader) → Agrees r h → IsVisited r wanted first name
  pub needs : (root : Pointer) → heard_root h.root ≡ Some (Some root)
      → IsNeeded h true (first_walker root name) q

-- these are asked: there are some, each once; none was heard, and each is wanted
pub record AreAsked (h : Heard) (IsWanted : Lack → Type 0) (qs : List Lack) : Type 0 where
  pub some : qs ≢ []
  pub once : IsDistinct same_lack qs
  pub unheard : All (IsUnheard h) qs
  pub wanted : All IsWanted qs

-- there are no others: each name at which the search goes on is settled, or waits for one of these
pub record AreAll (h : Heard) (wanted : Interface) (first : List (List ℕ)) (lacks : List Lack)
    : Type 0 where
  pub entries : List Found
  pub search : IsSearch h wanted first entries [] lacks

-- what a search comes to, if it is closed
abbrev pub IfClosed : {T : Type 0} → Searched T → (T → Type 0) → Type 0
IfClosed (searched.Closed x) P = P x
IfClosed searched.LacksRoot P = Unit {0}
IfClosed (searched.Lacks qs) P = Unit {0}

-- all that a search lacks, if that is what houses say of names
abbrev pub IfMisses : {T : Type 0} → Searched T → (List Lack → Type 0) → Type 0
IfMisses (searched.Closed x) P = Unit {0}
IfMisses searched.LacksRoot P = Unit {0}
IfMisses (searched.Lacks qs) P = P qs.items

-- where the root directory is lacks
abbrev pub IfLost : {T : Type 0} → Searched T → Type 0 → Type 0
IfLost (searched.Closed x) P = Unit {0}
IfLost searched.LacksRoot P = P
IfLost (searched.Lacks qs) P = Unit {0}

-- what a search is answered by what was heard: if it is closed, that it is done; else all that it
-- lacks, each once: none of that was heard, each is wanted, and no other can be known so far; and
-- where the root directory is, if that was not heard
pub record IsSearched {T : Type 0} (h : Heard) (wanted : Interface) (first : List (List ℕ))
    (IsDone : T → Type 0) (answer : Searched T) : Type 0 where
  pub done : IfClosed answer IsDone
  pub asks : IfMisses answer (AreAsked h (IsSought h wanted first))
  pub all : IfMisses answer (AreAll h wanted first)
  pub root : IfLost answer (heard_root h.root ≡ None)

-- ---- words of private contracts

-- one question more, unless it is asked
abbrev pub with_lack : List Lack → Lack → List Lack
with_lack qs q = if list_any (λ p. same_lack p q) qs then qs else qs ++ q ∷ []

-- an entry is one of these, or it was shown, and the names at which a search goes on from it wait
abbrev pub IsKnown : Heard → Interface → List Found → List (List (List ℕ)) → Found → Type 0
IsKnown h wanted entries names e =
    Contains entries e
    ⊎ (IsShown h e × ((n : List (List ℕ)) → Contains (names_of (least_reader h) wanted e) n
    → Contains names n))

-- the search goes on at this name from the object that the end of a walk is
pub record IsAhead (h : Heard) (wanted : Interface) (end : End) (name : List (List ℕ))
    : Type 0 where
  pub entry : Found
  pub is : object_in end ≡ Some entry
  pub shown : IsShown h entry
  pub goes_on : Contains (names_of (least_reader h) wanted entry) name

-- what the end of one more walk adds
pub record Settles (h : Heard) (wanted : Interface) (end : End) (entries : List Found)
    (names : List (List (List ℕ))) (entries' : List Found) (names' : List (List (List ℕ)))
    : Type 0 where
  pub kept : (e : Found) → Contains entries e → Contains entries' e
  pub waiting : (n : List (List ℕ)) → Contains names n → Contains names' n
  pub among : IfSome (object_in end) (Contains entries')
  pub added : (e : Found) → Contains entries' e → IsKnown h wanted entries names' e
  pub ahead : (n : List (List ℕ)) → Contains names' n → Contains names n ⊎ IsAhead h wanted end n
  pub only : (e : Found) → Contains entries' e → Contains entries e ⊎ (object_in end ≡ Some e)

-- a search under way, with what it asked for so far: it comes to each name that is still to walk
pub record IsUnderWay (h : Heard) (wanted : Interface) (first : List (List ℕ))
    (entries : List Found) (names : List (List (List ℕ))) (lacks : List Lack) : Type 0 where
  pub so_far : IsSearch h wanted first entries names lacks
  pub comes : (n : List (List ℕ)) → Contains names n → (r : Reader) → Agrees r h
      → IsVisited r wanted first n
  pub reached : AreReached h wanted first entries
  pub once : IsDistinct same_lack lacks
  pub unheard : All (IsUnheard h) lacks
  pub sought : All (IsSought h wanted first) lacks
