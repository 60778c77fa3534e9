-- The line of a command says it, if the house has a number that lines have; else it says nothing.
use Rattle.std.proofs.Common.{◌≡◌, ℕ, ◌<◌, ◌≤◌, ◌^◌, List, [], ◌∷◌, length, refl, sym, subst, ◌∙◌, ap, arith}
use Rattle.std.specs.Prelude.{None, Err, codes, decimal}
use Rattle.std.specs.Fmt.{digits}
use Rattle.hex.specs.Hex.{encode_lower}
use Rattle.cds_stamps.specs.declared.numbers.HouseNo.{HouseNo}
use Rattle.cell_script.specs.declared.command.Command.{Command}
use Rattle.cell_script.specs.declared.command.Command.TheVariants as command
use Rattle.cell_script.specs.declared.fault.ParseFault.{ParseFault}
use Rattle.cell_script.specs.declared.fault.ParseFault.TheVariants.{BadWord}
use Rattle.cell_script.specs.CommandRows.{said_by, said_in}
use Rattle.cell_script.specs.WordForms.{check_count, take_words}
use Rattle.cell_script.specs.Words.{house_of, number_of}
use Rattle.script_answers.specs.Texts.{node_octets, unwords}
use Rattle.script_answers.proofs.ReadWords.{node_bytes}
use Rattle.script_answers.proofs.WordTexts.{decimal_word, hex_word}
use Rattle.command_lines.specs.CommandTexts.{command_line, command_words}
use Rattle.command_lines.specs.SayableCommands.{CanBeSaid}
use Rattle.command_lines.proofs.CommandWords.{IsLineOf, given, line_fits, line_of_words}
use Rattle.command_lines.proofs.LineLemmas.{line_short}
use Rattle.command_lines.proofs.SaidCommands.{command_said}
use Rattle.entry_lines.specs.SaidLines.{SaysCommand}

-- a command that lines can say is said by its line
pub says_it : (line : List ℕ) (c : Command) → CanBeSaid c → line ≡ command_line c → length line ≤ 4096 → SaysCommand line c
says_it line c can is short =
    subst (λ (octets : List ℕ). SaysCommand octets c) (sym is) (record {
      is_line = λ number few. line_fits c number can (subst (λ (octets : List ℕ). length octets ≤ 4096) is short) few;
      says = ap said_in (line_of_words c can).words ∙ command_said c can;
    })

-- one that is too long says nothing
pub long_unsaid : (line octets : List ℕ) (c : Command) → line ≡ octets → (length line ≤ 4096 → ⊥) → ¬ SaysCommand octets c
long_unsaid line octets c is long s = long (subst (λ (o : List ℕ). length o ≤ 4096) (sym is) (line_short octets (s.is_line 1 (omega arith))))

-- ---- a house that has no number

zero_house : house_of (decimal 0) ≡ None
unfolding number_of digits
zero_house = refl

no_house : (h : HouseNo) → h.0 ≡ 0 → house_of (decimal h.0) ≡ None
no_house h none = ap (λ (n : ℕ). house_of (decimal n)) none ∙ zero_house

-- words with a fault are not said
unsaid : (ws : List (List ℕ)) (fault : ParseFault) (c : Command) → IsLineOf ws → said_in ws ≡ Err fault → ¬ SaysCommand (unwords ws) c
unsaid ws fault c of bad s = absurd (cc (sym bad ∙ ap said_in (sym of.words) ∙ s.says))

-- the words of a command whose house has no number
house_fault : (v w : List ℕ) → house_of v ≡ None → said_in (codes "house" ∷ v ∷ w ∷ []) ≡ Err (BadWord 2)
unfolding said_by check_count take_words
house_fault v w none = rw none refl

clock_fault : (v w : List ℕ) → house_of v ≡ None → said_in (codes "clock" ∷ v ∷ w ∷ []) ≡ Err (BadWord 2)
unfolding said_by check_count take_words
clock_fault v w none = rw none refl

crash_fault : (v : List ℕ) → house_of v ≡ None → said_in (codes "crash" ∷ v ∷ []) ≡ Err (BadWord 2)
unfolding said_by check_count take_words
crash_fault v none = rw none refl

start_fault : (v : List ℕ) → house_of v ≡ None → said_in (codes "start" ∷ v ∷ []) ≡ Err (BadWord 2)
unfolding said_by check_count take_words
start_fault v none = rw none refl

pub no_making : (h : HouseNo) (n : ℕ) → h.0 ≡ 0 → ¬ SaysCommand (command_line (command.House h n)) (command.House h n)
no_making h n none =
    unsaid (command_words (command.House h n)) (BadWord 2) (command.House h n)
    (given (codes "house") (decimal h.0 ∷ encode_lower (node_octets n) ∷ []) (omega arith) refl
    (decimal_word h.0 (omega (arith, none)), (hex_word (node_octets n) (node_bytes n) (omega arith), tt)))
    (house_fault (decimal h.0) (encode_lower (node_octets n)) (no_house h none))

pub no_setting : (h : HouseNo) (t : ℕ) → t < 2 ^ 64 → h.0 ≡ 0 → ¬ SaysCommand (command_line (command.Clock h t)) (command.Clock h t)
no_setting h t few none =
    unsaid (command_words (command.Clock h t)) (BadWord 2) (command.Clock h t)
    (given (codes "clock") (decimal h.0 ∷ decimal t ∷ []) (omega arith) refl (decimal_word h.0 (omega (arith, none)), (decimal_word t few, tt)))
    (clock_fault (decimal h.0) (decimal t) (no_house h none))

pub no_crash : (h : HouseNo) → h.0 ≡ 0 → ¬ SaysCommand (command_line (command.Crash h)) (command.Crash h)
no_crash h none =
    unsaid (command_words (command.Crash h)) (BadWord 2) (command.Crash h)
    (given (codes "crash") (decimal h.0 ∷ []) (omega arith) refl (decimal_word h.0 (omega (arith, none)), tt))
    (crash_fault (decimal h.0) (no_house h none))

pub no_start : (h : HouseNo) → h.0 ≡ 0 → ¬ SaysCommand (command_line (command.Start h)) (command.Start h)
no_start h none =
    unsaid (command_words (command.Start h)) (BadWord 2) (command.Start h)
    (given (codes "start") (decimal h.0 ∷ []) (omega arith) refl (decimal_word h.0 (omega (arith, none)), tt))
    (start_fault (decimal h.0) (no_house h none))
