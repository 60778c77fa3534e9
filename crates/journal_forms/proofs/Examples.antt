-- The definitions at single lines of the form `journal`, by computing.
use Rattle.std.proofs.Common.{◌≡◌, ◌++◌, List, [], ◌∷◌, map, replicate, ℕ, refl}
use Rattle.std.specs.Prelude.{Option, Some, None, Result, Ok, Err, codes}
use Rattle.std.specs.Fmt.{digits}
use Rattle.house_journal.specs.declared.leave.Leave.TheVariants.{Keep, Torn}
use Rattle.cell_script.specs.declared.command.Command.TheVariants as command
use Rattle.cell_script.specs.declared.command.ScriptLine.TheVariants as script
use Rattle.cell_script.specs.declared.fault.ParseFault.{ParseFault}
use Rattle.cell_script.specs.declared.fault.ParseFault.TheVariants.{UnknownCommand, WrongCount, BadWord}
use Rattle.cell_script.specs.Words.{number_of, words_of}
use Rattle.cell_script.specs.WordForms.{check_count, take_words}
use Rattle.cell_script.specs.CommandRows as plain
use Rattle.journal_forms.specs.declared.journal_line.JournalLine.{JournalLine}
use Rattle.journal_forms.specs.declared.journal_line.JournalLine.TheVariants as line
use Rattle.journal_forms.specs.declared.journal_answer.JournalAnswer.TheVariants as answer
use Rattle.journal_forms.specs.JournalLines.{said_in}
use Rattle.journal_forms.specs.JournalTexts.{journal_text}

abbrev Said : Type 0
Said = Result (Option JournalLine) ParseFault

abbrev says : List ℕ → Said
says octets = said_in (words_of octets)

plain_is : says (codes "skulk 1 2") ≡ Ok (Some (line.Plain (script.Cell (command.Skulk (record { 0 = 1 }) (record { 0 = 2 })))))
unfolding plain.said_by check_count take_words number_of
plain_is = refl

unknown : says (codes "stopp 1") ≡ Err (UnknownCommand 1)
unfolding plain.said_by
unknown = refl

image_is : says (codes "image 255") ≡ Ok (Some (line.Image (record { 0 = 255 })))
unfolding check_count take_words number_of
image_is = refl

no_images : map (λ w. says (codes "image " ++ w)) (codes "0" ∷ codes "256" ∷ codes "x" ∷ []) ≡ replicate 3 (Err (BadWord 2))
unfolding check_count take_words number_of
no_images = refl

image_of_two : says (codes "image 1 2") ≡ Err (WrongCount 3)
unfolding check_count
image_of_two = refl

stop_is : says (codes "stop 2 3 torn deliver 7") ≡ Ok (Some (line.Stop (record { 0 = 2 }) 3 Torn (command.Deliver 7)))
unfolding plain.said_by plain.early_by check_count take_words number_of
stop_is = refl

-- fewer than five words come before all else, and count all words
few_words : map says (codes "stop" ∷ codes "stop 0" ∷ codes "stop 0 9" ∷ codes "stop 0 9 none" ∷ [])
    ≡ Err (WrongCount 1) ∷ Err (WrongCount 2) ∷ Err (WrongCount 3) ∷ Err (WrongCount 4) ∷ []
few_words = refl

-- then the words of the command, where it is one
few_words_of_a_command : says (codes "stop 0 9 none add 1 1 e A") ≡ Err (WrongCount 9)
unfolding plain.early_by check_count
few_words_of_a_command = refl

-- then the first word from the left that is not of its form
bad_words : map (λ w. says (codes "stop " ++ w))
    (codes "0 5 none house 1 2" ∷ codes "1 5 none house 1 2" ∷ codes "1 4 KEEP house 1 2" ∷ codes "1 4 keep house 1 2" ∷ codes "1 4 keep stop 1 4 keep skulk 1 1" ∷ [])
    ≡ Err (BadWord 2) ∷ Err (BadWord 3) ∷ Err (BadWord 4) ∷ Err (BadWord 5) ∷ Err (BadWord 5) ∷ []
unfolding plain.said_by plain.early_by check_count take_words number_of
bad_words = refl

bad_words_of_a_command : map (λ w. says (codes "stop 1 1 keep " ++ w)) (codes "skulk 0 1" ∷ codes "skulk 1 0" ∷ codes "deliver 0" ∷ [])
    ≡ Err (BadWord 6) ∷ Err (BadWord 7) ∷ Err (BadWord 6) ∷ []
unfolding plain.said_by plain.early_by check_count take_words number_of
bad_words_of_a_command = refl

-- a put has four calls
no_call : map (λ w. says (codes "stop 1 " ++ (w ++ codes " drop skulk 1 1"))) (codes "0" ∷ codes "5" ∷ codes "01" ∷ []) ≡ replicate 3 (Err (BadWord 3))
unfolding plain.said_by plain.early_by check_count take_words number_of
no_call = refl

texts : map (journal_text 4) (answer.StoppedBefore ∷ answer.StoppedAfter ∷ answer.NotActing ∷ [])
    ≡ (codes "4 ok stopped before" ++ 10 ∷ []) ∷ (codes "4 ok stopped after" ++ 10 ∷ []) ∷ (codes "4 refused NotActing" ++ 10 ∷ []) ∷ []
unfolding digits
texts = refl
