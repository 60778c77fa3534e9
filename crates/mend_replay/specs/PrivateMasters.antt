-- Words of private contracts: houses that could be master.
use Rattle.std.specs.Prelude.{ℕ, nat_le, if◌then◌else◌, Option, Some, None}
use Rattle.mend_model.specs.Leaving as model
use Rattle.mend_replay.specs.declared.masters.Candidate.{Candidate}

-- a house that could be master, as the model has it
abbrev pub as_candidate : Candidate → model.Candidate
as_candidate c = record { house = c.house.0; epoch = c.epoch.0 }

-- this epoch, if it is that one or a later one
abbrev pub epoch_since : (held since : ℕ) → Option ℕ
epoch_since held since = if nat_le since held then Some held else None
