-- Readers that agree with what was heard.
use Rattle.std.specs.Prelude.{◌≡◌, ℕ, Bool, List, ◌∷◌, Option, Some, None}
use Rattle.cell_names.specs.ChildPointers.{Pointer}
use Rattle.resolver.specs.declared.seen.Found.{Found}
use Rattle.resolver.specs.declared.walk.End.{End}
use Rattle.resolver.specs.Readers.{Reader, Sight}
use Rattle.cds_clerk.specs.declared.heard.Heard.{Heard}
use Rattle.cds_clerk.specs.declared.heard.Lack.{Lack}
use Rattle.cds_clerk.specs.declared.walking.Walked.{Walked}
use Rattle.cds_clerk.specs.declared.walking.Walked.TheVariants as walked
use Rattle.resolver.specs.ChangingReaders.{look_of}
use Rattle.resolver.specs.Walks.{Walker, EndsFrom}
use Rattle.cds_clerk.specs.Heards.{IsAmong, heard_root, heard_sight, heard_values}

-- a reader tells all that was heard
pub record Agrees (r : Reader) (h : Heard) : Type 0 where
  pub root : (p : Option Pointer) → heard_root h.root ≡ Some p → r.root ≡ p
  pub sees : (at : Pointer) (name : List ℕ) (s : Sight) → heard_sight h at name ≡ Some s
      → r.sees at name ≡ s
  pub values : (f : Found) (attr : List ℕ) (vs : List (List ℕ)) → heard_values h f attr ≡ Some vs
      → r.values f attr ≡ vs

-- a walk from here on needs this: over each reader that agrees with what was heard it comes to a
-- look-up of the name, at a house of that directory, and what was heard does not tell what is seen
pub record IsNeeded (h : Heard) (last : Bool) (start : Walker) (q : Lack) : Type 0 where
  pub there : Walker
  pub at : Pointer
  pub comes : (r : Reader) → Agrees r h → (e : End) → EndsFrom r last there e
      → EndsFrom r last start e
  pub look : look_of there ≡ Some (at, q.name)
  pub dir : at.dir ≡ q.dir.0
  pub house : IsAmong q.house.0 (at.master ∷ at.others)
  pub waits : heard_sight h at q.name ≡ None

-- what a walk comes to, if it comes to its end
abbrev pub IfEnded : Walked → (End → Type 0) → Type 0
IfEnded (walked.Ended e) P = P e
IfEnded walked.LacksRoot P = Unit {0}
IfEnded (walked.Lacks q) P = Unit {0}

-- what a walk lacks, if it lacks what a house says of a name
abbrev pub IfWants : Walked → (Lack → Type 0) → Type 0
IfWants (walked.Ended e) P = Unit {0}
IfWants walked.LacksRoot P = Unit {0}
IfWants (walked.Lacks q) P = P q

-- a walk lacks where the root directory is, only if that was not heard
abbrev pub IfRootless : Walked → Type 0 → Type 0
IfRootless (walked.Ended e) P = Unit {0}
IfRootless walked.LacksRoot P = P
IfRootless (walked.Lacks q) P = Unit {0}
