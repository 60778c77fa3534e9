-- The ending of a walk over a changing reader, as a function.
use Rattle.std.specs.Prelude.{ℕ, Bool, true, List, Option, Result, Ok, Err}
use Rattle.cell_names.specs.ChildPointers.{Pointer}
use Rattle.resolver.specs.declared.refusal.Refusal.{Refusal}
use Rattle.resolver.specs.declared.refusal.Refusal.TheVariants.{NoSuchName}
use Rattle.resolver.specs.declared.seen.Found.{Found}
use Rattle.resolver.specs.declared.walk.End.{End}
use Rattle.resolver.specs.declared.walk.End.TheVariants as ends
use Rattle.resolver.specs.ChangingReaders.{ChangingReader, Ending}
use Rattle.resolver.specs.ChangingEndProofs.{some_ending}

-- the one ending of a walk, from a state of the reader on
unfoldable pub ending_of : {S : Type 0} → ChangingReader S → (last : Bool) → S → List (List ℕ) → Ending S
ending_of reader last s name = (some_ending reader last s name).0

-- the entry at an end and the directory where it was looked up, or why there is none
abbrev pub found_at : Option Pointer → End → Result (Option Pointer × Found) Refusal
found_at at (ends.Found entry) = Ok (at, entry)
found_at at (ends.Missing place done) = Err (NoSuchName done)
found_at at (ends.Refused why) = Err why

-- what the walk of a full name finds, links followed, and the state of the reader after it
abbrev pub resolution_of : {S : Type 0} → ChangingReader S → S → List (List ℕ) → Result (Option Pointer × Found) Refusal × S
resolution_of reader s name = let x = ending_of reader true s name in (found_at x.at x.end, x.state)
