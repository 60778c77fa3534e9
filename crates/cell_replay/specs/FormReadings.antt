-- How the forms of the program that are no lines read their input, and what it demands of them.
use Rattle.std.specs.Prelude.{◌≡◌, ℕ, ◌≤◌, List, [], length}
use Rattle.std.specs.Io.KnownBytes.{Consumes, IsAtEnd}
use Rattle.tower_codec.specs.Tower.{Floor}
use Rattle.cell_script.specs.Words.{words_of}
use Rattle.reply_buffer.specs.Responses.{spell_response}
use Rattle.reply_buffer.specs.TowerTexts.{tower_said}
use Rattle.line_forms.specs.Demand.{LineRule, ends_with}
use Rattle.line_forms.specs.Readings.{Reading}
use Rattle.cds_base.specs.RunEnds.{Run}
use Rattle.cell_replay.specs.Fillings.{IsUnfilled}
use Rattle.cell_replay.specs.TowerDemand.{IsTaken, TowersDemand}
use Rattle.cell_replay.specs.WholeDemand.{WholeTask, whole_demand}
use Rattle.cell_replay.specs.declared.limits.TheConstants.{TOWER_SIGHT, WHOLE_SIGHT}

-- a form reads the octets of towers: it takes a tower at once, and where a read fails, the octets
-- of the filling that it was to end come late
abbrev pub by_towers : Reading
by_towers =
    record {
      demands = TowersDemand 1;
      has_read_all = IsAtEnd;
      is_taken_at_once = λ octets. (number : ℕ) × (floors : List Floor) × IsTaken number floors octets;
      read_ahead = TOWER_SIGHT;
      came_late = IsUnfilled;
    }

-- a form reads its whole input and then says one thing: nothing is taken before all is read
abbrev pub by_whole : WholeTask → Reading
by_whole task =
    record {
      demands = λ octets d. whole_demand task octets ≡ d;
      has_read_all = IsAtEnd;
      is_taken_at_once = λ octets. ⊥;
      read_ahead = WHOLE_SIGHT;
      came_late = λ octets came. came ≡ [];
    }

-- such a form reads at most one octet more than it may have, whatever the ending
abbrev pub HasReadFew : Run → Type 0
HasReadFew run = (read : List ℕ) × Consumes run.left run.left' read × (length read ≤ WHOLE_SIGHT)

-- a form reads nothing and writes a text, which is due whatever is there; it meets no failed read
abbrev pub without_input : (text : List ℕ) → Reading
without_input text =
    record {
      demands = λ octets d. ends_with text ≡ d;
      has_read_all = λ left. Unit {0};
      is_taken_at_once = λ octets. ⊥;
      read_ahead = 0;
      came_late = λ octets came. ⊥;
    }

-- `untowers` writes the octets of the tower of each line, and no line of a fault; it keeps nothing
abbrev pub spelling_rule : LineRule (Unit {0})
spelling_rule = record { response = λ number s line. spell_response (tower_said (words_of line)); end_text = λ s. []; fault_text = λ fault. [] }
