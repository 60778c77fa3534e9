-- What a form that answers line by line makes of its input, and what a whole input demands of it.
use Rattle.std.specs.Prelude.{ℕ, ◌+◌, ◌==◌, List, [], ◌∷◌, ◌++◌, length, Some, None, Option}
use Rattle.std.specs.List.{slice_split}
use Rattle.std.specs.Option.{option_or}
use Rattle.cds_base.specs.declared.scan.LineFault.{LineFault}
use Rattle.cds_base.specs.declared.scan.LineFault.TheVariants.{NoLineEnd}
use Rattle.cds_base.specs.LineFaults.{fault_at}
use Rattle.reply_buffer.specs.Responses.{ResponseOf, GoesOn, Stops, Fills}

-- what a form makes of its input, over what it is at between two lines: of a whole line by its
-- number, of the end of a whole input, and of a fault of octets
pub record LineRule (S : Type 0) : Type 0 where
  pub response : ℕ → S → List ℕ → ResponseOf S
  pub end_text : S → List ℕ
  pub fault_text : LineFault → List ℕ

-- the text that is due whatever follows, the further text where nothing follows, and whether
-- anything is faulty: nothing; the octets show a fault, whatever follows; it is a fault that they
-- end here; or a line finds no room in a journal, whatever follows
pub data Verdict : Type 0 where
  Sound : Verdict
  Faulty : Verdict
  CutShort : Verdict
  Filled : Verdict

-- what follows may be answered: no fault shows, and no journal lacks room
abbrev pub IsUnbroken : Verdict → Type 0
IsUnbroken Sound = Unit {0}
IsUnbroken Faulty = ⊥
IsUnbroken CutShort = Unit {0}
IsUnbroken Filled = ⊥

-- what an input demands of a form
pub record Demand : Type 0 where
  pub body : List ℕ
  pub end : List ℕ
  pub verdict : Verdict

-- a text is due, and nothing is faulty
abbrev pub whole : List ℕ → Demand
whole text = record { body = text; end = []; verdict = Sound }

-- nothing is due after a fault
abbrev pub faulty_with : List ℕ → Demand
faulty_with text = record { body = text; end = []; verdict = Faulty }

-- nothing is due of a line that finds no room in a journal, and nothing after it
abbrev pub full_journal_demand : Demand
full_journal_demand = record { body = []; end = []; verdict = Filled }

-- where the input ends: this is due, and nothing is faulty; or this is due of the fault that it
-- ends there
abbrev pub ends_with : List ℕ → Demand
ends_with text = record { body = []; end = text; verdict = Sound }

-- the input ends within something, which is said so
abbrev pub cut_short_with : List ℕ → Demand
cut_short_with text = record { body = []; end = text; verdict = CutShort }

-- a text is due in front
abbrev pub with_front : List ℕ → Demand → Demand
with_front text rest = record { body = text ++ rest.body; end = rest.end; verdict = rest.verdict }

-- where the input ends: after a whole line, or with a line without its end, which is a fault
abbrev pub at_end : {S : Type 0} → LineRule S → ℕ → S → List ℕ → Demand
at_end rule number state [] = ends_with (rule.end_text state)
at_end rule number state (b ∷ bs) = cut_short_with (rule.fault_text (NoLineEnd number (length (b ∷ bs) + 1)))

-- nothing more where this is at fault
abbrev pub unless_fault : {S : Type 0} → LineRule S → Option LineFault → Demand → Demand
unless_fault rule None rest = rest
unless_fault rule (Some fault) rest = faulty_with (rule.fault_text fault)

-- after a whole line: its text, and what the lines after it demand
abbrev pub then_rest : {S : Type 0} → ResponseOf S → (S → Demand) → Demand
then_rest (GoesOn text next) rest = with_front text (rest next)
then_rest (Stops text) rest = faulty_with text
then_rest Fills rest = full_journal_demand

-- the first fault among these octets of line number, from this place on
abbrev pub first_fault : ℕ → ℕ → List ℕ → Option LineFault
first_fault number place [] = None
first_fault number place (b ∷ bs) = option_or (fault_at number place b) (first_fault number (place + 1) bs)

-- an input, cut at its line ends: the lines, and last what comes after the last end
abbrev pub pieces_of : List ℕ → List (List ℕ)
pieces_of = slice_split (λ b. b == 10)

-- piece by piece, from line number on: a line with its end, and those after it; or the end of the
-- input
unfoldable pub demand : {S : Type 0} → LineRule S → ℕ → S → List (List ℕ) → Demand
demand rule number state [] = at_end rule number state []
demand rule number state (rest ∷ []) = unless_fault rule (first_fault number 1 rest) (at_end rule number state rest)
demand rule number state (line ∷ piece ∷ pieces) =
    unless_fault rule (first_fault number 1 (line ++ 10 ∷ []))
    (then_rest (rule.response number state line) (λ next. demand rule (number + 1) next (piece ∷ pieces)))

-- what an input demands of a form that reads lines, from its start
abbrev pub line_demand : {S : Type 0} → LineRule S → S → List ℕ → Demand
line_demand rule state octets = demand rule 1 state (pieces_of octets)
