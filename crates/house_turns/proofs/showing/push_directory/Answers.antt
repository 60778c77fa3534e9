use Rattle.std.proofs.Common.{ℕ, List, ◌++◌, ap, ◌∙◌}
use Rattle.std.specs.Prelude.{codes, decimal}
use Rattle.house_turns.specs.Showings.{state_words}
use Rattle.house_turns.proofs.Shows.{line_of_three}
use Rattle.house_turns.proofs.showing.push_directory.Goals as goal

pub returns : goal.returns
returns c =
    let t : List ℕ = c.extend_from_slice.new.self.items in
    line_of_three c.args.number (codes "directory ") (decimal c.args.dir.0) (state_words c.args.state.now) c.args.text.now.items c.begin_line.new.text.items t
    c.push_number.new.line.items c.push_state.new.text.items c.push.new.self.items c.in_ok-begin_line.ensures.ok c.in_ok-extend_from_slice.ensures.items
    (c.in_ok-push_number.ensures.ok ∙ ap (λ (k : ℕ). t ++ decimal k) c.from.ensures) c.in_ok-push_state.ensures c.in_ok-push.ensures.items
