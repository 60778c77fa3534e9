-- What a line that stops a command says, by what is read of the command.
use Rattle.std.proofs.Common.{◌≡◌, ◌≢◌, ℕ, Bool, true, false, List, [], ◌∷◌, refl, sym, subst, ◌∙◌, ap, if◌then◌else◌}
use Rattle.std.specs.Prelude.{Option, Some, None, Result, Ok, Err, IfSome}
use Rattle.std.specs.Result.{result_err}
use Rattle.cds_stamps.specs.Outcomes.{Answers}
use Rattle.cds_stamps.specs.declared.alloc_or.AllocOr.{AllocOr}
use Rattle.cds_stamps.specs.declared.alloc_or.AllocOr.TheVariants.{Fault, OutOfMemory}
use Rattle.cell_script.specs.declared.command.Command.{Command}
use Rattle.cell_script.specs.declared.command.ScriptLine.{ScriptLine}
use Rattle.cell_script.specs.declared.command.ScriptLine.TheVariants as script
use Rattle.cell_script.specs.declared.fault.ParseFault.{ParseFault}
use Rattle.cell_script.specs.declared.fault.ParseFault.TheVariants.{UnknownCommand, WrongCount, BadWord}
use Rattle.cell_script.specs.WordForms.{◌>>=◌, said_at}
use Rattle.cell_script.specs.CommandRows as plain
use Rattle.journal_forms.specs.declared.journal_line.JournalLine.{JournalLine}
use Rattle.journal_forms.specs.declared.journal_line.JournalLine.TheVariants as line
use Rattle.journal_forms.specs.JournalLines.{Stopping, behind_five, command_in, command_miscounted, command_said, is_stoppable, stop_early, stop_said, stop_of_words, unless}
use Rattle.journal_forms.specs.PrivateStops.{miscount}
use Rattle.journal_forms.proofs.StopCounts.{early_is_count, wrong_count_shows}

-- a wrong number of words is that of the row
said_miscounted : (r : Result ScriptLine ParseFault) (n : ℕ) → (r >>= (λ l. said_at 5 (command_in l))) ≡ Err (WrongCount n) → r ≡ Err (WrongCount n)
said_miscounted (Err e) n is = cc
said_miscounted (Ok (script.Cell c)) n is = absurd (cc)
said_miscounted (Ok (script.Question q)) n is = absurd (cc)

-- a line that was read has no fault that shows early
pub not_early : (o : Option ParseFault) (l : ScriptLine) (name : List ℕ) (ws : List (List ℕ)) (r : Result Command (AllocOr ParseFault))
    → o ≡ plain.early_by name (behind_five ws)
    → IfSome o (λ fault. (let line : Result ScriptLine (AllocOr ParseFault) = Ok l in line ≡ Err (Fault fault)))
    → IfSome (command_miscounted name ws) (λ fault. r ≡ Err (Fault fault))
not_early (Some fault) l name ws r same is = absurd (cc)
not_early None l name ws r same is = by_name (is_stoppable name)
  where
    by_name : (b : Bool) → IfSome (if b then plain.early_by name (behind_five ws) else None) (λ fault. r ≡ Err (Fault fault))
    by_name true = rw (← same) tt
    by_name false = tt

module _ (h k w name : List ℕ) (ws : List (List ℕ)) (r : Result Command (AllocOr ParseFault)) (said : Answers r (command_said name ws))
    (early : IfSome (command_miscounted name ws) (λ fault. r ≡ Err (Fault fault))) (none : is_stoppable name ≡ false → r ≡ Err (Fault (BadWord 5))) where
  -- that the words of the command are too few or too many is told early
  shows : (n : ℕ) → r ≡ Err (Fault (WrongCount n)) → command_miscounted name ws ≡ Some (WrongCount n)
  shows n is = by_name (is_stoppable name) refl
    where
      by_name : (b : Bool) → is_stoppable name ≡ b → (if b then plain.early_by name (behind_five ws) else None) ≡ Some (WrongCount n)
      by_name true stoppable =
          let told : command_said name ws ≡ Err (WrongCount n) = subst (λ x. Answers x (command_said name ws)) is said in
          let row = rw stoppable at told in
          wrong_count_shows name ws n stoppable (said_miscounted (plain.said_by name (behind_five ws)) n row)
      by_name false other = absurd (let e = none other in cc)

  -- and nothing else is
  no_other : (o : Option ParseFault) → command_miscounted name ws ≡ o → (x : Unit {0}) → miscount r ≡ Ok x → o ≡ None
  no_other None is x counted = refl
  no_other (Some fault) is x counted = by_name (is_stoppable name) refl is
    where
      by_name : (b : Bool) → is_stoppable name ≡ b → (if b then plain.early_by name (behind_five ws) else None) ≡ Some fault → Some fault ≡ None
      by_name true stoppable shown =
          let told : r ≡ Err (Fault fault) = (rw is at early) in
          let count = early_is_count name ws fault stoppable shown in
          let wrong : r ≡ Err (Fault (WrongCount count.0)) = told ∙ ap (λ (f : ParseFault). Err (Fault f)) count.1 in
          absurd (let e = rw wrong at counted in cc)
      by_name false other shown = absurd (cc)

  -- the line ends so where they are
  pub ends_counted : (e : AllocOr ParseFault) (end : Result JournalLine (AllocOr ParseFault)) → miscount r ≡ Err e → end ≡ Err e
      → Answers end (stop_said (h ∷ k ∷ w ∷ name ∷ ws)) × IfSome (stop_early (h ∷ k ∷ w ∷ name ∷ ws)) (λ fault. end ≡ Err (Fault fault))
  ends_counted e end counted is = by_read r refl counted
    where
      by_read : (x : Result Command (AllocOr ParseFault)) → r ≡ x → miscount x ≡ Err e
          → Answers end (stop_said (h ∷ k ∷ w ∷ name ∷ ws)) × IfSome (stop_early (h ∷ k ∷ w ∷ name ∷ ws)) (λ fault. end ≡ Err (Fault fault))
      by_read (Ok c) read counted = absurd (cc)
      by_read (Err OutOfMemory) read counted = absurd (cc)
      by_read (Err (Fault (UnknownCommand n))) read counted = absurd (cc)
      by_read (Err (Fault (BadWord n))) read counted = absurd (cc)
      by_read (Err (Fault (WrongCount n))) read counted =
          let shown = shows n read in
          let fault : e ≡ Fault (WrongCount n) = cc in
          let ended : end ≡ Err (Fault (WrongCount n)) = is ∙ ap Err fault in
          rw (shown, ended) (refl, refl)

  -- or where a word before the command is not of its form
  pub ends_stopping : (x : Unit {0}) (e : AllocOr ParseFault) (at : Result Stopping (AllocOr ParseFault)) (end : Result JournalLine (AllocOr ParseFault))
      → miscount r ≡ Ok x → at ≡ Err e → Answers at (stop_of_words h k w) → at ≢ Err OutOfMemory → end ≡ Err e
      → Answers end (stop_said (h ∷ k ∷ w ∷ name ∷ ws)) × IfSome (stop_early (h ∷ k ∷ w ∷ name ∷ ws)) (λ fault. end ≡ Err (Fault fault))
  ends_stopping x OutOfMemory at end counted is said memory ends = absurd (memory is)
  ends_stopping x (Fault fault) at end counted is said memory ends =
      let none = no_other (command_miscounted name ws) refl x counted in
      let told : stop_of_words h k w ≡ Err fault = rw is at said in
      rw (none, told, ends) (refl, refl)

  -- or where the command is at fault
  pub ends_command : (x : Unit {0}) (at : Stopping) (e : AllocOr ParseFault) (end : Result JournalLine (AllocOr ParseFault))
      → miscount r ≡ Ok x → stop_of_words h k w ≡ Ok at → r ≡ Err e → end ≡ Err e
      → Answers end (stop_said (h ∷ k ∷ w ∷ name ∷ ws)) × IfSome (stop_early (h ∷ k ∷ w ∷ name ∷ ws)) (λ fault. end ≡ Err (Fault fault))
  ends_command x at e end counted before is ends =
      let none = no_other (command_miscounted name ws) refl x counted in
      rw (none, before) (by_fault e is ends, by_name (is_stoppable name) refl)
    where
      by_fault : (e : AllocOr ParseFault) → r ≡ Err e → end ≡ Err e
          → Answers end (command_said name ws >>= λ c. Ok (line.Stop at.0 at.1 at.2 c))
      by_fault OutOfMemory is ends = rw ends tt
      by_fault (Fault fault) is ends = let told : command_said name ws ≡ Err fault = rw is at said in rw (ends, told) refl

      by_name : (b : Bool) → is_stoppable name ≡ b
          → IfSome (result_err (if b then Ok name else Err (BadWord 5))) (λ fault. end ≡ Err (Fault fault))
      by_name true stoppable = tt
      by_name false other = let same : e ≡ Fault (BadWord 5) = (let wrong = none other in cc) in ends ∙ ap Err same

-- four words at the front
pub four_words : (rest a b d ws : List (List ℕ)) (h k w name : List ℕ) → rest ≡ h ∷ a → a ≡ k ∷ b → b ≡ w ∷ d → d ≡ name ∷ ws
    → rest ≡ h ∷ k ∷ w ∷ name ∷ ws
four_words rest a b d ws h k w name first second third fourth = cc

-- a line that was read has no fault that shows early
pub early_said : (o p : Option ParseFault) (l : JournalLine) (b : Bool) → o ≡ p
    → IfSome o (λ fault. (let said : Result JournalLine (AllocOr ParseFault) = Ok l in said ≡ Err (Fault fault)))
    → IfSome (if b then None else p) (λ fault. (let said : Result (Option JournalLine) (AllocOr ParseFault) = Ok (Some l) in said ≡ Err (Fault fault)))
early_said o p l true same is = tt
early_said None p l false same is = rw (← same) tt
early_said (Some fault) p l false same is = absurd (cc)
