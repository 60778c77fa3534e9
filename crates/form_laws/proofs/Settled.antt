-- A line that is answered that a skulk is complete: what its houses agree on from then on.
use Rattle.std.proofs.Common.{◌≡◌, ℕ, List, [], ◌∷◌, ◌++◌, refl, sym, subst}
use Rattle.std.specs.Prelude.{◌≤◌, Some}
use Rattle.cds_stamps.specs.declared.stamp.Stamp.{Stamp}
use Rattle.cell_model.specs.Agreement.{Agrees, place_of}
use Rattle.cell_model.specs.Cells.{IsHeld, Replica, empty_cell}
use Rattle.cell_model.specs.Commands.{Command}
use Rattle.cell_model.specs.Steps.{accepted_updates, outcome, replay, replay_from}
use Rattle.cell_model.proofs.Agreeing.{converges_lem}
use Rattle.cell_script.specs.declared.command.ScriptLine.{ScriptLine}
use Rattle.cell_script.specs.declared.command.ScriptLine.TheVariants as line
use Rattle.cds_cell.specs.Scripted.{step_of}
use Rattle.script_replay.specs.Headline.{cell_after_script, commands_from, commands_of}
use Rattle.script_replay.specs.Replies.{Numbered, steps_of}
use Rattle.script_replay.proofs.Completions.{complete_only, question_none}
use Rattle.script_replay.proofs.HeadlineLaws.{commands-append}
use Rattle.form_laws.specs.Settled.{Settles}

-- such a command among commands: those before it, with it, and all of them
abbrev SettlesIn : (c : Command) (t : Stamp) (early one all : List Command) → Type 0
SettlesIn c t early one all =
    (h d : ℕ) × (r : Replica) × (place_of (replay early) c ≡ Some (h, d)) × IsHeld (replay one) h d r
    × ((x : ℕ) (q : Replica) → IsHeld (replay all) x d q → r.epoch ≤ q.epoch
    → Agrees d t (accepted_updates one) (accepted_updates all) r.history x q)

-- a line among these: by the convergence of their commands
settles_by : (early late : List Numbered) (n : ℕ) (l : ScriptLine) → Settles early (record { number = n; says = l }) late
settles_by early late n (line.Question q) t ns is = absurd (question_none (cell_after_script early) q t ns is)
settles_by early late n (line.Cell c) t ns is =
    let front : List Command = commands_of early in
    let k : Command = step_of c in
    let said : Numbered = record { number = n; says = line.Cell c } in
    let rest : List Command = commands_from steps_of (replay_from (replay front) (k ∷ [])) late in
    let whole : commands_of (early ++ said ∷ late) ≡ front ++ k ∷ rest = commands-append empty_cell early (said ∷ late) in
    let one : commands_of (early ++ said ∷ []) ≡ front ++ k ∷ [] = commands-append empty_cell early (said ∷ []) in
    let complete = complete_only (outcome (replay front) k).answer t ns is in
    subst (λ (cs : List Command). SettlesIn k t front cs (commands_of (early ++ said ∷ late))) (sym one)
    (subst (SettlesIn k t front (front ++ k ∷ [])) (sym whole) (converges_lem (front ++ k ∷ rest) front rest k t ns refl complete))

pub settled : (early : List Numbered) (l : Numbered) (late : List Numbered) → Settles early l late
settled early l late = settles_by early late l.number l.says
