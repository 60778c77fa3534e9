-- The summary of a script, by what the model answers to it.
use Rattle.std.proofs.Common.{◌≡◌, ℕ, ◌+◌, ◌≤◌, Bool, true, false, ◌&&◌, not, eqb, cond, List, [], ◌∷◌, map, inl, inr, Some, refl, sym, ap, ◌∙◌}
use Rattle.std.specs.Prelude.{count_by}
use Rattle.std.specs.List.{zip}
use Rattle.std.specs.List.{zip}
use Rattle.std.specs.Option.{option_map_or}
use Rattle.directory.specs.Purges.{purged_entries}
use Rattle.directory.specs.Shown.{live_count}
use Rattle.cell_model.specs.Cells.{Slot, Cell, empty_cell}
use Rattle.cell_model.specs.Commands as model
use Rattle.cell_model.specs.Commands.{Answer, Done, Posted, Made, Stamped, NewEpoch, Taken, Late, Early, Stale, NoReplica, Foreign, Complete, Refused}
use Rattle.cell_model.specs.Sets.{In, has}
use Rattle.cell_model.specs.Steps.{is_down, is_unknown, outcome, replay, answers_from}
use Rattle.script_answers.specs.declared.answer.Answer.TheVariants as answer
use Rattle.script_answers.specs.declared.answer.ScriptRefusal.TheVariants as why
use Rattle.cell_script.specs.declared.command.Command.{Command}
use Rattle.cell_script.specs.declared.command.Command.TheVariants as command
use Rattle.cell_script.specs.Generated.{script}
use Rattle.script_replay.specs.Replies.{slot_told}
use Rattle.script_replay.specs.Loading.{answered_from, is_change, is_delivery, is_refusal, is_accepted, is_completion, completes, table_told, first_table}
use Rattle.cds_cell.specs.Scripted.{step_of}
use Rattle.form_laws.specs.Unrefused.{IsInFull}
use Rattle.form_laws.specs.Summaries.{CountsAll}
use Rattle.form_laws.proofs.Goings as goings
use Rattle.form_laws.proofs.Goings.{count_more, delivers, deliveries}
use Rattle.form_laws.proofs.Trios.{Steady}
use Rattle.form_laws.proofs.Rounds.{LiveSomewhere}
use Rattle.form_laws.proofs.Scripts.{sixteen_somewhere, script_works, script_delivers, script_lives}

-- ---- changes

in_full_accepted : (a : Answer) → IsInFull a → is_refusal a ≡ false
in_full_accepted Done w = refl
in_full_accepted (Posted ns) w = refl
in_full_accepted (Made d s ns) w = refl
in_full_accepted (Stamped s ns) w = refl
in_full_accepted (NewEpoch e ns) w = refl
in_full_accepted (Taken ns) w = refl
in_full_accepted (Late k e) w = refl
in_full_accepted (Early k e) w = refl
in_full_accepted (Stale t r) w = refl
in_full_accepted NoReplica w = refl
in_full_accepted Foreign w = refl
in_full_accepted (Complete t ns) w = refl
in_full_accepted (Refused r) w = elim w [ ]

and_not : (b r : Bool) → r ≡ false → (b && not r) ≡ b
and_not true true e = sym e
and_not true false e = refl
and_not false r e = refl

-- where no command is refused, each change is accepted
accepted_by : (cs : List Command) (g : Cell) → ((a : Answer) → In a (answers_from g (map step_of cs)) → IsInFull a)
    → count_by is_accepted (answered_from g cs) ≡ count_by is_change cs
accepted_by [] g full = refl
accepted_by (c ∷ cs) g full =
    let a : Answer = (outcome g (step_of c)).answer in
    let g' : Cell = (outcome g (step_of c)).cell in
    let n : ℕ = count_by is_accepted (answered_from g' cs) in
    count_more is_accepted (c, a) (answered_from g' cs)
    ∙ ap (λ (b : Bool). cond b (n + 1) n) (and_not (is_change c) (is_refusal a) (in_full_accepted a (full a (inl refl))))
    ∙ ap (λ (k : ℕ). cond (is_change c) (k + 1) k) (accepted_by cs g' (λ b i. full b (inr i)))
    ∙ sym (count_more is_change c cs)

-- ---- skulks

same_delivery : (c : Command) → is_delivery c ≡ goings.is_delivery (step_of c)
same_delivery (command.House h node) = refl
same_delivery (command.Clock h time) = refl
same_delivery (command.Root m rs) = refl
same_delivery (command.Mkdir h d n m rs) = refl
same_delivery (command.Repoint h d n m rs) = refl
same_delivery (command.Update h d u) = refl
same_delivery (command.Epoch d m rs) = refl
same_delivery (command.Skulk h d) = refl
same_delivery (command.Deliver n) = refl
same_delivery (command.Lose n) = refl
same_delivery (command.Crash h) = refl
same_delivery (command.Start h) = refl

-- the deliveries that complete a skulk are those of the steps
complete_by : (cs : List Command) (g : Cell) → count_by completes (answered_from g cs) ≡ deliveries g (map step_of cs)
complete_by [] g = refl
complete_by (c ∷ cs) g =
    let a : Answer = (outcome g (step_of c)).answer in
    let g' : Cell = (outcome g (step_of c)).cell in
    count_more completes (c, a) (answered_from g' cs)
    ∙ ap (λ (k : ℕ). cond (completes (c, a)) (k + 1) k) (complete_by cs g')
    ∙ ap (λ (b : Bool). cond (b && is_completion a) (deliveries g' (map step_of cs) + 1) (deliveries g' (map step_of cs))) (same_delivery c)
    ∙ sym (count_more delivers (step_of c, a) (zip (map step_of cs) (answers_from g' (map step_of cs))))

-- ---- what shows

-- the table that a dump of house 1 tells is that of its replica
table_at : (f p : ℕ) (log : List model.Accepted) (g : Cell) → (s : Steady f log p g)
    → first_table g ≡ Some (purged_entries (s.seat 1 refl).history (s.seat 1 refl).up_to)
table_at f p log g s =
    let y = s.seat 1 refl in
    let unknown : is_unknown g 1 ≡ false = ap (λ (k : ℕ). eqb k 0) s.known in
    let down : is_down g 1 ≡ false = ap not y.up in
    ap (λ (b : Bool). table_told (cond b (answer.Refused why.NoDirectory)
    (cond (has 1 g.made) (cond (is_down g 1) (answer.Refused why.Down) (slot_told ((g.house 1).slots 1))) (answer.Refused why.NoHouse)))) unknown
    ∙ ap (λ (b : Bool). table_told (cond b (cond (is_down g 1) (answer.Refused why.Down) (slot_told ((g.house 1).slots 1))) (answer.Refused why.NoHouse)))
    s.made
    ∙ ap (λ (b : Bool). table_told (cond b (answer.Refused why.Down) (slot_told ((g.house 1).slots 1)))) down
    ∙ ap (λ (o : Slot). table_told (slot_told o)) y.held

live_at : (g : Cell) → LiveSomewhere g → option_map_or live_count (first_table g) 0 ≡ 16
live_at g s = ap (λ o. option_map_or live_count o 0) (table_at s.0 s.1 s.2.log g s.2.filled.steady) ∙ sixteen_somewhere g s

-- the summary of the script counts each change, each skulk and each entry
pub script_counts : (n : ℕ) → n ≤ 20000 → CountsAll (script n)
script_counts n low = record {
  accepted = accepted_by (script n) empty_cell (script_works n low);
  complete = complete_by (script n) empty_cell ∙ script_delivers n low;
  live = live_at (replay (map step_of (script n))) (script_lives n low);
}
