-- What the form of `cdsmend` makes of its input.
use Rattle.std.specs.Prelude.{◌≡◌, ℕ, List}
use Rattle.cell_model.specs.Cells.{Cell}
use Rattle.cell_script.specs.CommandRows.{said_in}
use Rattle.cell_script.specs.Words.{words_of}
use Rattle.cds_cell.specs.ModelCells.{Stands}
use Rattle.house_directory.specs.HouseMessages.{numbers_of}
use Rattle.reply_buffer.specs.FaultTexts.{line_fault_text}
use Rattle.reply_buffer.specs.Responses.{in_state}
use Rattle.line_forms.specs.Demand.{LineRule}
use Rattle.line_forms.specs.Dialogues.{reply_of}
use Rattle.mend_replay.specs.MendLines.{mend_text}
use Rattle.mend_replay.specs.Quiet.{running_quietly}
use Rattle.mend_replay.specs.declared.mender.Mender.{Mender}

-- the state of the form: the directory that is to be mended, the houses that are left out, and the
-- cell that is replayed
pub record MendState : Type 0 where
  pub dir : ℕ
  pub without : List ℕ
  pub cell : Cell

-- a directory is to be mended in a cell, without these houses
abbrev pub mend_state : (dir : ℕ) → (without : List ℕ) → Cell → MendState
mend_state dir hs g = record { dir = dir; without = hs; cell = g }

-- lines are replayed without answers, and in the end it says what mends the directory
abbrev pub mend_rule : LineRule MendState
mend_rule =
    record {
      response = λ number s line. in_state (mend_state s.dir s.without) (reply_of running_quietly number s.cell (said_in (words_of line)));
      end_text = λ s. mend_text s.dir s.without s.cell;
      fault_text = line_fault_text;
    }

-- a mender of this directory, without those houses, stands for that cell
abbrev pub MendsAt : Mender → MendState → Type 0
MendsAt m s = (m.dir.0 ≡ s.dir) × (numbers_of m.without.items ≡ s.without) × Stands m.replayer.cell s.cell
