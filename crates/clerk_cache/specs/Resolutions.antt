-- What a resolution through a clerk answers, and the clerk then.
use Rattle.std.specs.Prelude.{◌≡◌, ◌⊎◌, ℕ, ◌<◌, length, Bool, true, List, Some, Result, Ok, Err}
use Rattle.cds_stamps.specs.declared.alloc_or.AllocOr.{AllocOr}
use Rattle.cds_stamps.specs.declared.alloc_or.AllocOr.TheVariants.{Fault, OutOfMemory}
use Rattle.cell_names.specs.ChildPointers.{pointer_in}
use Rattle.cell_names.specs.declared.pointer.ChildPointer.{ChildPointer}
use Rattle.resolver.specs.declared.refusal.Refusal.{Refusal}
use Rattle.resolver.specs.declared.seen.Found.{Found}
use Rattle.resolver.specs.ChangingEnds.{resolution_of}
use Rattle.resolver.specs.ChangingReaders.{ChangingReader, ComesTo, state_after}
use Rattle.resolver.specs.Walks.{Walker, start, step}
use Rattle.resolver.specs.PassWords.{IsNoRefusal}

-- Memory ran out at a component of the walk from here on, to which the look-ups before it led: in
-- its look-up, which then changed nothing; or after that, and the step refuses nothing
pub record RanOutFrom {S : Type 0} (reader : ChangingReader S) (last : Bool) (s : S) (w : Walker) (part : S) : Type 0 where
  pub state : S
  pub walker : Walker
  pub comes : ComesTo reader last s w state walker
  pub within : walker.done < length walker.name
  pub is : (part ≡ state) ⊎ ((part ≡ state_after reader state walker) × IsNoRefusal (step (reader.tells state) last walker))

-- a resolution answers what the walk finds, and each look-up of the walk changed the reader; where
-- memory ran out those before that did (after C705, caches of clerks)
abbrev pub IsResolution : {S : Type 0} → ChangingReader S → S → List (List ℕ) → Result (ChildPointer × Found) (AllocOr Refusal) → S → Type 0
IsResolution reader s name (Ok r) t = resolution_of reader s name ≡ (Ok (Some (pointer_in r.0), r.1), t)
IsResolution reader s name (Err (Fault why)) t = resolution_of reader s name ≡ (Err why, t)
IsResolution reader s name (Err OutOfMemory) t = RanOutFrom reader true s (start (reader.tells s) name) t
