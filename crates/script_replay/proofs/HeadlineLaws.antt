-- The commands of lines after others; and what a line that imports lists.
use Rattle.std.proofs.Common.{◌≡◌, ℕ, Bool, true, false, if◌then◌else◌, List, [], ◌∷◌, ◌++◌, refl, sym, ◌∙◌, ap, append_assoc}
use Rattle.std.specs.Prelude.{Some, Result, Ok, Err}
use Rattle.cell_model.specs.Cells.{Cell}
use Rattle.cell_model.specs.Commands as model
use Rattle.cell_model.specs.Sets.{has}
use Rattle.cell_model.specs.Steps.{replay, replay_from}
use Rattle.cell_model.proofs.Runs.{replay-append}
use Rattle.script_answers.specs.declared.answer.Answer.{Answer}
use Rattle.script_answers.specs.declared.answer.Answer.TheVariants as answer
use Rattle.script_answers.specs.declared.answer.ScriptRefusal.TheVariants as why
use Rattle.tower_codec.specs.declared.binding.StringBinding.{StringBinding}
use Rattle.ns_import.specs.Imports.{IsImport, import_list}
use Rattle.ns_import.proofs.Importing.{import_is}
use Rattle.ns_import.proofs.Landing.{shown_lead}
use Rattle.cds_cell.proofs.ModelObjects.{reading_shows_only}
use Rattle.ns_import.specs.declared.fault.ImportFault.{ImportFault}
use Rattle.ns_import.specs.declared.fault.ImportFault.TheVariants as fault
use Rattle.ns_commands.specs.Imported.{bindings_told}
use Rattle.cds_cell.specs.Readings.{objects_of, cell_reader}
use Rattle.script_replay.specs.Headline.{Importing, commands_from, import_line}
use Rattle.script_replay.specs.Replies.{Numbered, reply_to, steps_of}

-- the commands of lines, and of lines after them
pub commands-append : (g : Cell) (xs ys : List Numbered)
    → commands_from steps_of g (xs ++ ys) ≡ commands_from steps_of g xs ++ commands_from steps_of (replay_from g (commands_from steps_of g xs)) ys
commands-append g [] ys = refl
commands-append g (x ∷ xs) ys =
    let made : List model.Command = steps_of g x.says in
    let next : Cell = replay_from g made in
    let rest : List model.Command = commands_from steps_of next xs in
    let cell : replay_from next rest ≡ replay_from g (made ++ rest) = sym (replay-append made rest g) in
    ap (λ (cs : List model.Command). made ++ cs) (commands-append next xs ys)
    ∙ ap (λ (h : Cell). made ++ (rest ++ commands_from steps_of h ys)) cell
    ∙ sym (append_assoc made rest (commands_from steps_of (replay_from g (made ++ rest)) ys))

-- ---- imports

-- an answer that lists bindings is that of an import which found them
found_only : (r : Result (List StringBinding) ImportFault) (bs : List StringBinding) → bindings_told r ≡ answer.Bindings bs → r ≡ Ok bs
found_only (Ok bindings) bs is = cc
found_only (Err (fault.Walk r)) bs is = cc
found_only (Err fault.NotObject) bs is = cc

-- and so it is where the house is asked
asked_only : (b : Bool) (a : Answer) (bs : List StringBinding)
    → Some (if b then a else answer.Refused why.NoHouse) ≡ Some (answer.Bindings bs) → a ≡ answer.Bindings bs
asked_only true a bs is = cc
asked_only false a bs is = cc

-- an import that is answered with bindings in a cell that commands lead to lists those that the
-- search reaches
pub import_finds : (commands : List model.Command) (i : Importing) (bs : List StringBinding)
    → reply_to (replay commands) (import_line i) ≡ Some (answer.Bindings bs)
    → IsImport (cell_reader (replay commands) (Some i.house.0) i.high) i.wanted i.name bs
import_finds commands i bs told =
    let g : Cell = replay commands in
    let reader = cell_reader g (Some i.house.0) i.high in
    let found = import_list reader (objects_of g) i.wanted i.name in
    import_is reader (objects_of g) (shown_lead reader (objects_of g) (reading_shows_only commands (Some i.house.0) i.high)) i.wanted i.name bs
    (found_only found bs (asked_only (has i.house.0 g.made) (bindings_told found) bs told))
