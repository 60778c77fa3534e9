-- Whether the next process takes up what crashes left.
use Rattle.std.specs.Prelude.{◌≡◌, ℕ, List, [], ◌∷◌, ◌++◌, Some, length}
use Rattle.house_entries.specs.Bodies.{head_of}
use Rattle.house_journal.specs.JournalRecords.{images}
use Rattle.house_segments.specs.Chains.{chained, last_digest}
use Rattle.house_segments.specs.Reading.{EndedLater, end_of}
use Rattle.house_program.specs.Causes.{CannotGoOn}
use Rattle.house_program.specs.Files.{Files, NumberedFile, last_file}
use Rattle.house_program.specs.declared.status.Status.{Status}
use Rattle.house_program.specs.declared.status.Status.TheVariants.{OtherDeeds}

-- octets are a segment whose first body is this text and a digest, but that its list ended later
-- once: a crash made up a record that comes after the last one, or the gate of one (own)
pub record EndedOnce (title octets : List ℕ) : Type 0 where
  pub before : List ℕ
  pub others : List (List ℕ)
  pub size : length before ≡ 32
  pub chain : images octets ≡ chained before ((title ++ before) ∷ others)
  pub later : EndedLater (last_digest before ((title ++ before) ∷ others)) (end_of octets)

-- the next process refuses the last of these files only since it does other than its records say,
-- if no crash made up a record there (own)
abbrev pub IsTakenUp : Files → Type 0
IsTakenUp files =
    (file : NumberedFile) → last_file files ≡ Some file
    → ¬ EndedOnce (head_of file.number []) file.octets
    → (status : Status) → CannotGoOn file.number file.octets status → status ≡ OtherDeeds
