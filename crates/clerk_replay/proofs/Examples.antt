-- The definitions at single values, by computing.
use Rattle.std.proofs.Common.{◌≡◌, [], ◌∷◌, refl}
use Rattle.std.specs.Prelude.{Some, None, true, false, codes}
use Rattle.cell_script.specs.declared.command.Command.TheVariants as command
use Rattle.cell_script.specs.declared.command.Question.TheVariants as question
use Rattle.cell_script.specs.declared.command.ScriptLine.TheVariants as line
use Rattle.script_answers.specs.declared.answer.Answer.TheVariants as answer
use Rattle.script_answers.specs.declared.answer.ScriptRefusal.TheVariants as why
use Rattle.clerk_replay.specs.Clerking.{clerked_after, low_read, reply_by_clerk, start, values_or_vanished}

low : low_read (line.Question (question.Read (record { 0 = 2 }) false (codes "e" ∷ []) (codes "A")))
    ≡ Some (record { house = record { 0 = 2 }; name = codes "e" ∷ []; attr = codes "A" })
low = refl

high : low_read (line.Question (question.Read (record { 0 = 2 }) true (codes "e" ∷ []) (codes "A"))) ≡ None
high = refl

no_read : low_read (line.Cell (command.Crash (record { 0 = 2 }))) ≡ None
no_read = refl

-- an entry without values is there
no_values : values_or_vanished (Some []) ≡ answer.Values []
no_values = refl

-- no house is there yet: neither the clerk nor the house that it prefers changes
no_house : reply_by_clerk 1 (start 8) (line.Question (question.Read (record { 0 = 2 }) false (codes "e" ∷ []) (codes "A")))
    ≡ (Some (answer.Refused why.NoHouse), (start 8).clerk)
no_house = refl

crash_leaves_the_clerk : (clerked_after 1 (start 8) (line.Cell (command.Crash (record { 0 = 2 })))).clerk ≡ (start 8).clerk
crash_leaves_the_clerk = refl
