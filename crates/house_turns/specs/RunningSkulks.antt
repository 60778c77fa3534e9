-- Skulks that run, as the first record of a segment says them: an image leaves them out.
use Rattle.std.specs.Prelude.{◌^◌, ◌<◌, ℕ, List, ◌∷◌, ◌++◌, [], Option, Some, None, codes, decimal}
use Rattle.std.specs.List.{AllByRecursion, flat_map}
use Rattle.record_fields.specs.FieldRanges.{FitsStamp}
use Rattle.script_answers.specs.Texts.{stamp_text}
use Rattle.clearinghouse.specs.HouseImages.{skulks_of}
use Rattle.clearinghouse.specs.declared.house.Clearinghouse.{Clearinghouse}
use Rattle.clearinghouse.specs.declared.running.Round.{Round}
use Rattle.clearinghouse.specs.declared.running.Round.TheVariants.{Gather, Spread}
use Rattle.clearinghouse.specs.declared.running.RunningSkulk.{RunningSkulk}

-- the word of a round (own)
abbrev pub round_word : Round → List ℕ
round_word Gather = codes "gather"
round_word Spread = codes "spread"

-- the line of a skulk that runs: its directory, its stamp, its round, and the places of the members
-- that answered, as a number (own)
abbrev pub running_line : RunningSkulk → List ℕ
running_line r =
    codes "running " ++ (decimal r.dir.0 ++ (32 ∷ (stamp_text r.t ++ (32 ∷ (round_word r.round
    ++ (32 ∷ decimal r.answered.0))))))

-- the lines of skulks that run, each with a line end (own)
abbrev pub running_lines : List RunningSkulk → List ℕ
running_lines = flat_map (λ r. running_line r ++ 10 ∷ [])

-- the numbers of a skulk that runs fit their fields
pub record FitsRunning (r : RunningSkulk) : Type 0 where
  pub dir : r.dir.0 < 2 ^ 32
  pub stamp : FitsStamp r.t
  pub answered : r.answered.0 < 2 ^ 64

-- so it is of all of these
abbrev pub AllFit : List RunningSkulk → Type 0
AllFit = AllByRecursion FitsRunning

-- and of those of a house, if it was made
abbrev pub SkulksFit : Option Clearinghouse → Type 0
SkulksFit None = Unit {0}
SkulksFit (Some c) = AllFit (skulks_of c)
