-- How a form reads its input, and what an input demands of it.
use Rattle.std.specs.Prelude.{◌≡◌, ℕ, List, [], ◌∷◌, ◌++◌, Option}
use Rattle.std.specs.Io.KnownBytes.{IsAtEnd}
use Rattle.cds_base.specs.LineFaults.{IsLine}
use Rattle.cds_base.specs.declared.lines.TheConstants.{MOST_HELD}
use Rattle.line_forms.specs.Demand.{Demand, LineRule, line_demand}

-- A form, by these: an input demands this of it; it has nothing more to read where its source has
-- this left; such octets it takes at once, as a line with its end; so many octets it reads at most
-- after what it takes; and where a read fails, these may have come after the octets that count
pub record Reading : Type 1 where
  pub demands : List ℕ → Demand → Type 0
  pub has_read_all : (left : Option (List ℕ)) → Type 0
  pub is_taken_at_once : List ℕ → Type 0
  pub read_ahead : ℕ
  pub came_late : (octets came : List ℕ) → Type 0

-- a whole line with its end, of some number
abbrev pub IsWholeLine : List ℕ → Type 0
IsWholeLine octets = (number : ℕ) × (line : List ℕ) × IsLine number line × (octets ≡ line ++ 10 ∷ [])

-- a form that answers line by line by a rule, from this state on
abbrev pub by_lines : {S : Type 0} → LineRule S → S → Reading
by_lines rule state =
    record {
      demands = λ octets d. line_demand rule state octets ≡ d;
      has_read_all = IsAtEnd;
      is_taken_at_once = IsWholeLine;
      read_ahead = MOST_HELD;
      came_late = λ octets came. came ≡ [];
    }
