-- Directories that a search did not reach.
use Rattle.std.specs.Prelude.{◌≡◌, ◌↔◌, ℕ, true, List, map, Option, Some, None, Result, Ok, Err}
use Rattle.std.specs.List.{Contains, filter_map}
use Rattle.std.specs.List.Sorted.{IsStrictlySortedBy}
use Rattle.std.specs.Ordering.{nat_cmp}
use Rattle.cds_stamps.specs.declared.numbers.DirId.{DirId}
use Rattle.tower_codec.specs.declared.rpc.Interface.{Interface}
use Rattle.resolver.specs.declared.refusal.Refusal.{Refusal}
use Rattle.resolver.specs.declared.refusal.Refusal.TheVariants as refusal
use Rattle.resolver.specs.declared.seen.Found.{Found}
use Rattle.resolver.specs.Readers.{Reader}
use Rattle.resolver.specs.WalkEnds.{walk_end}
use Rattle.ns_import.specs.Imports.{names_of}
use Rattle.cds_clerk.specs.declared.heard.Heard.{Heard}
use Rattle.cds_clerk.specs.Agreements.{Agrees}
use Rattle.cds_clerk.specs.Readings.{least_reader}
use Rattle.cds_clerk.specs.Searches.{IsReached}

-- a search that begins at a name did not reach this directory: from an entry to which it comes it
-- goes on at a name of which the walk is refused, since no house that is listed for the directory
-- answers (own)
pub record IsUnreached (r : Reader) (wanted : Interface) (first : List (List ℕ)) (dir : ℕ)
    : Type 0 where
  pub entry : Found
  pub reached : IsReached r wanted first entry
  pub name : List (List ℕ)
  pub goes_on : Contains (names_of r wanted entry) name
  pub refused : walk_end r true name ≡ Err (refusal.Unreachable (record { 0 = dir }))

-- these are the directories that it did not reach, in ascending order, each once (own)
pub record AreUnreached (r : Reader) (wanted : Interface) (first : List (List ℕ))
    (dirs : List DirId) : Type 0 where
  pub ascending : IsStrictlySortedBy nat_cmp (map (λ d. d.0) dirs)
  pub exactly : (n : ℕ) → Contains (map (λ d. d.0) dirs) n ↔ IsUnreached r wanted first n

-- each reader that agrees with what was heard says that a search did not reach these (own)
abbrev pub AreMissed : Heard → Interface → (first : List (List ℕ)) → List DirId → Type 0
AreMissed h wanted first dirs = (r : Reader) → Agrees r h → AreUnreached r wanted first dirs

-- ---- words of private contracts

-- the directory of which no listed house answers, if that is why a walk is refused
abbrev pub dir_refused : Refusal → Option ℕ
dir_refused (refusal.NoSuchName done) = None
dir_refused (refusal.NotDirectory done) = None
dir_refused (refusal.Unreachable dir) = Some dir.0
dir_refused refusal.LinkCycle = None
dir_refused refusal.TooManyLinks = None
dir_refused refusal.NameTooLong = None
dir_refused refusal.RootName = None

-- likewise by what a walk finds
abbrev pub dir_unreached : Result Found Refusal → Option ℕ
dir_unreached (Ok found) = None
dir_unreached (Err why) = dir_refused why

-- likewise of the walk of a name by what was heard
abbrev pub unreached_at : Heard → (name : List (List ℕ)) → Option ℕ
unreached_at h name = dir_unreached (walk_end (least_reader h) true name)

-- the directories that are not reached from one entry
abbrev pub unreached_from : Heard → Interface → Found → List ℕ
unreached_from h wanted e = filter_map (unreached_at h) (names_of (least_reader h) wanted e)
