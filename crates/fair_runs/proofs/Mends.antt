-- Of a skulk that the commands of `mending` complete: each other member was asked, and heard, in
-- each round.
use Rattle.std.proofs.Common.{◌≡◌, ℕ, List, [], ◌∷◌, ◌++◌, Some, sym, ap, ◌∙◌, subst, append_assoc}
use Rattle.cds_stamps.specs.declared.stamp.Stamp.{Stamp}
use Rattle.cds_stamps.specs.Members.{Member, master_of, others_of}
use Rattle.cell_model.specs.Cells.{Replica, Cell, IsHeld, empty_cell}
use Rattle.cell_model.specs.Commands.{Command, Complete}
use Rattle.cell_model.specs.Mending.{Completes, IsSettled}
use Rattle.cell_model.specs.Sets.{In}
use Rattle.cell_model.specs.Steps.{outcome, replay_from, replay}
use Rattle.cell_model.specs.Agreement.{place_of}
use Rattle.cell_model.proofs.Runs.{replay-append}
use Rattle.fair_runs.specs.Needs.{HasAnswered}
use Rattle.fair_runs.proofs.Needs.{skulk_needs_lem}

pub settled_heard : (early next : List Command) (d k : ℕ) (t : Stamp) (ms : List Member) (s : IsSettled early next d k t ms) (r : Replica)
    → IsHeld (replay (early ++ s.completes.early)) (master_of ms) d r → (y : ℕ) → In y (others_of (master_of ms) r.members)
    → HasAnswered (early ++ next) d (master_of ms) y t
settled_heard early next d k t ms s r at y i =
    let c : Completes (replay early) (master_of ms) d next t = s.completes in
    let there : replay_from (replay early) c.early ≡ replay (early ++ c.early) = sym (replay-append early c.early empty_cell) in
    let answer = subst (λ (g : Cell). (outcome g c.last).answer ≡ Complete t c.serials) there c.answer in
    let place = subst (λ (g : Cell). place_of g c.last ≡ Some (master_of ms, d)) there c.place in
    subst (λ (l : List Command). HasAnswered l d (master_of ms) y t) (append_assoc early c.early (c.last ∷ []) ∙ ap (λ (l : List Command). early ++ l) c.parts)
    (skulk_needs_lem (early ++ c.early) c.last (master_of ms) d r t c.serials answer place at y i)
