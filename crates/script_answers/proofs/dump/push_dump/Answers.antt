use Rattle.std.proofs.Common.{ℕ, List, [], ◌∷◌}
use Rattle.std.specs.Prelude.{codes, decimal}
use Rattle.std.proofs.lemmas.Result.{on_ok_weaker}
use Rattle.script_answers.specs.Texts.{members_text, spaced, stamp_or}
use Rattle.script_answers.proofs.Printing.{three_parts}
use Rattle.script_answers.proofs.dump.push_dump.Goals as goal

pub returns : goal.returns
returns c =
    let state : List ℕ = spaced (codes "allupto" ∷ stamp_or (codes "none") c.args.all_up_to ∷ codes "members" ∷ []) in
    on_ok_weaker c.push_state.result
    (λ is. three_parts c.args.line.now.items (codes "dump epoch") (32 ∷ decimal c.args.epoch.0) state (members_text c.args.members.now)
    c.extend_from_slice.new.self.items c.push_spaced.new.line.items c.push_state.new.line.items
    c.in_ok-extend_from_slice.ensures.items c.in_ok-push_spaced.ensures.ok is)
    c.push_state.ensures
