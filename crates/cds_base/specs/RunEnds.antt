-- A run, as its source and its sink tell it. Own.
use Rattle.std.specs.Prelude.{◌≡◌, ℕ, List, ◌++◌}
use Rattle.std.specs.declared.option.Option.{Option}
use Rattle.cds_base.specs.declared.ends.Source as source
use Rattle.cds_base.specs.declared.ends.Sink as sink

-- xs is a front of ys
abbrev pub IsFront : List ℕ → List ℕ → Type 0
IsFront xs ys = (more : List ℕ) × (ys ≡ xs ++ more)

-- The two ends of a run, before it and after it: the octets that its source had left, and has;
-- those that were written to its sink by then, each if it tells them; and how often a read and a
-- write had failed, and have
pub record Run : Type 0 where
  pub left : Option (List ℕ)
  pub left' : Option (List ℕ)
  pub written : Option (List ℕ)
  pub written' : Option (List ℕ)
  pub reads : ℕ
  pub reads' : ℕ
  pub writes : ℕ
  pub writes' : ℕ

-- the run of a source and a sink
abbrev pub run_of : {S K : Type 0} → source.Ghosts S → sink.Ghosts K → (before after : S)
    → (old new : K) → Run
run_of reader writer before after old new =
    record {
      left = reader.left before;
      left' = reader.left after;
      written = writer.written old;
      written' = writer.written new;
      reads = reader.faults before;
      reads' = reader.faults after;
      writes = writer.faults old;
      writes' = writer.faults new;
    }
