-- The numbers in lines of the form `journal`.
use Rattle.std.proofs.Common.{◌≡◌, ℕ, ◌+◌, ◌≤◌, Bool, true, false, ◌&&◌, nat_le, List, [], ◌∷◌, refl, subst, ap, ◌∙◌, arith, if◌then◌else◌}
use Rattle.std.specs.Prelude.{Option, Some, None, Result, Ok, Err, codes}
use Rattle.std.specs.Option.{option_and_then, option_map}
use Rattle.std.specs.Str.{bytes_eq}
use Rattle.std.proofs.lemmas.Bool.Decides.{nat_tests}
use Rattle.cds_stamps.specs.declared.numbers.HouseNo.{HouseNo}
use Rattle.house_journal.specs.declared.leave.Leave.{Leave}
use Rattle.cell_script.specs.declared.command.Command.{Command}
use Rattle.cell_script.specs.declared.command.ScriptLine.{ScriptLine}
use Rattle.cell_script.specs.declared.fault.ParseFault.{ParseFault}
use Rattle.cell_script.specs.Words.{house_of, most_house, number_of, number_to}
use Rattle.cell_script.specs.WordForms.{◌>>=◌, Words, check_count, is_open, least_of, next_word, said_at, take_words}
use Rattle.cell_script.specs.CommandRows as plain
use Rattle.journal_forms.specs.declared.journal_line.JournalLine.{JournalLine}
use Rattle.journal_forms.specs.declared.journal_line.JournalLine.TheVariants as line
use Rattle.journal_forms.specs.JournalLines.{HasNumbers, call_of, command_miscounted, command_said, image_said, leave_of, said_by, stop_said, stop_of_words, unless, Stopping}

-- a number from 1 to a most is one
pub number_within : (most : ℕ) (w : List ℕ) (n : ℕ) → number_to most w ≡ Some n → (1 ≤ n) × (n ≤ most)
number_within most w n is = by_number (number_of w) is
  where
    by_test : (k : ℕ) (a b : Bool) → nat_le 1 k ≡ a → nat_le k most ≡ b → (if a && b then Some k else None) ≡ Some n → (1 ≤ n) × (n ≤ most)
    by_test k true true low high is = let same : k ≡ n = cc in (grind (arith, nat_tests), grind (arith, nat_tests))
    by_test k true false low high is = absurd (cc)
    by_test k false b low high is = absurd (cc)

    by_number : (o : Option ℕ) → option_and_then (λ k. if nat_le 1 k && nat_le k most then Some k else None) o ≡ Some n → (1 ≤ n) × (n ≤ most)
    by_number None is = absurd (cc)
    by_number (Some k) is = by_test k (nat_le 1 k) (nat_le k most) refl refl is

house_within : (w : List ℕ) (h : HouseNo) → house_of w ≡ Some h → 1 ≤ h.0
house_within w h is = by_number (number_to most_house w) refl is
  where
    by_number : (o : Option ℕ) → number_to most_house w ≡ o → option_map (λ n. let x : HouseNo = record { 0 = n } in x) o ≡ Some h → 1 ≤ h.0
    by_number None number is = absurd (cc)
    by_number (Some n) number is = let same : n ≡ h.0 = cc in rw (← same) (number_within most_house w n number).0

-- a line that is read as this has what each line of its kind has
image_numbers : (s : Words) (l : JournalLine) → image_said s ≡ Ok l → HasNumbers l
unfolding take_words check_count
image_numbers s l is = by_count _ is
  where
    by_house : (o : Option HouseNo) (w : List ℕ) (ws : List (List ℕ)) → house_of w ≡ o
        → (said_at (s.read + 1) o >>= λ h. Ok (line.Image h)) ≡ Ok l → HasNumbers l
    by_house None w ws house is = absurd (cc)
    by_house (Some h) w ws house is = let same : line.Image h ≡ l = cc in subst HasNumbers same (house_within w h house)

    by_said : (o : Option HouseNo) (ws : List (List ℕ))
        → ((said_at (s.read + 1) o >>= λ h. let t : HouseNo × Words = (h, record { read = s.read + 1; rest = ws }) in Ok t) >>= λ t. Ok (line.Image t.0)) ≡ Ok l
        → (said_at (s.read + 1) o >>= λ h. Ok (line.Image h)) ≡ Ok l
    by_said None ws is = absurd (cc)
    by_said (Some h) ws is = is

    by_words : (ws : List (List ℕ)) → (next_word house_of s.read ws >>= λ t. Ok (line.Image t.0)) ≡ Ok l → HasNumbers l
    by_words [] is = absurd (cc)
    by_words (w ∷ ws) is = by_house (house_of w) w ws refl (by_said (house_of w) ws is)

    by_count : (r : Result (Unit {0}) ParseFault) → (r >>= λ _. next_word house_of s.read s.rest >>= λ t. Ok (line.Image t.0)) ≡ Ok l → HasNumbers l
    by_count (Err e) is = absurd (cc)
    by_count (Ok x) is = by_words s.rest is

stop_numbers : (ws : List (List ℕ)) (l : JournalLine) → stop_said ws ≡ Ok l → HasNumbers l
stop_numbers [] l is = absurd (cc)
stop_numbers (h ∷ []) l is = absurd (cc)
stop_numbers (h ∷ k ∷ []) l is = absurd (cc)
stop_numbers (h ∷ k ∷ w ∷ []) l is = absurd (cc)
stop_numbers (h ∷ k ∷ w ∷ name ∷ ws) l is = by_count (command_miscounted name ws) is
  where
    by_command : (house : HouseNo) (call : ℕ) (leave : Leave) (c : Result Command ParseFault) → 1 ≤ house.0 → (1 ≤ call) × (call ≤ 4)
        → (c >>= λ command. Ok (line.Stop house call leave command)) ≡ Ok l → HasNumbers l
    by_command house call leave (Err e) house_is call_is is = absurd (cc)
    by_command house call leave (Ok c) house_is call_is is =
        let same : line.Stop house call leave c ≡ l = cc in subst HasNumbers same (house_is, call_is.0, call_is.1)

    by_leave : (house : HouseNo) (call : ℕ) (o : Option Leave) → 1 ≤ house.0 → (1 ≤ call) × (call ≤ 4)
        → ((said_at 4 o >>= λ leave. let at : Stopping = (house, call, leave) in Ok at) >>= λ at. command_said name ws >>= λ command. Ok (line.Stop at.0 at.1 at.2 command)) ≡ Ok l → HasNumbers l
    by_leave house call None house_is call_is is = absurd (cc)
    by_leave house call (Some leave) house_is call_is is = by_command house call leave (command_said name ws) house_is call_is is

    by_call : (house : HouseNo) (o : Option ℕ) → call_of k ≡ o → 1 ≤ house.0
        → ((said_at 3 o >>= λ call. said_at 4 (leave_of w) >>= λ leave. let at : Stopping = (house, call, leave) in Ok at)
        >>= λ at. command_said name ws >>= λ command. Ok (line.Stop at.0 at.1 at.2 command)) ≡ Ok l → HasNumbers l
    by_call house None call house_is is = absurd (cc)
    by_call house (Some n) call house_is is = by_leave house n (leave_of w) house_is (number_within 4 k n call) is

    by_house : (o : Option HouseNo) → house_of h ≡ o
        → ((said_at 2 o >>= λ house. said_at 3 (call_of k) >>= λ call. said_at 4 (leave_of w) >>= λ leave. let at : Stopping = (house, call, leave) in Ok at)
        >>= λ at. command_said name ws >>= λ command. Ok (line.Stop at.0 at.1 at.2 command)) ≡ Ok l → HasNumbers l
    by_house None house is = absurd (cc)
    by_house (Some x) house is = by_call x (call_of k) refl (house_within h x house) is

    by_count : (o : Option ParseFault)
        → unless o (stop_of_words h k w >>= λ at. command_said name ws >>= λ command. Ok (line.Stop at.0 at.1 at.2 command)) ≡ Ok l → HasNumbers l
    by_count None is = by_house (house_of h) refl is
    by_count (Some fault) is = absurd (cc)

plain_numbers : (r : Result ScriptLine ParseFault) (l : JournalLine) → (r >>= λ s. Ok (line.Plain s)) ≡ Ok l → HasNumbers l
plain_numbers (Err e) l is = absurd (cc)
plain_numbers (Ok s) l is = let same : line.Plain s ≡ l = cc in subst HasNumbers same tt

-- what the words after the first one say has them
pub said_numbers : (word : List ℕ) (s : Words) (l : JournalLine) → said_by word s ≡ Ok l → HasNumbers l
said_numbers word s l is = by_word (bytes_eq word (codes "image")) (bytes_eq word (codes "stop")) is
  where
    by_word : (image stop : Bool) → (if image then image_said s
        else (if stop then stop_said s.rest else plain.said_by word s >>= λ l. Ok (line.Plain l))) ≡ Ok l → HasNumbers l
    by_word true stop is = image_numbers s l is
    by_word false true is = stop_numbers s.rest l is
    by_word false false is = plain_numbers (plain.said_by word s) l is
