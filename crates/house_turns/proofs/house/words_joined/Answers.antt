use Rattle.std.proofs.Common.{◌++◌, List, ℕ, sym, ap, ◌∙◌}
use Rattle.house_turns.specs.HouseReplies.{with_spaces}
use Rattle.cell_script.specs.Words.{words_of}
use Rattle.house_turns.proofs.Joining.{joined_all, joined_first, joined_next}
use Rattle.house_turns.proofs.house.words_joined.Goals as goal

pub words-init : goal.words-init
words-init c =
    joined_first (words_of c.args.line.now) c.next.new.self.rest c.in-Some.first.now c.extend_from_slice.new.self.items
    (ap (λ w. w.rest) (sym c.of-words.ensures) ∙ c.in-Some.ensures.some)
    (c.in_ok-extend_from_slice.ensures.items ∙ ap (λ (t : List ℕ). t ++ c.in-Some.first.now) c.new-text.ensures.items)

pub words-preserved : goal.words-preserved
words-preserved c =
    joined_next c.words.words.rest c.next-in-words.new.self.rest c.in-Some-next.word.now c.words.text.items c.push.new.self.items c.extend_from_slice-in-Some-next.new.self.items
    (with_spaces (words_of c.args.line.now)) c.in-Some-next.ensures.some c.in_ok-push.ensures.items c.in_ok-extend_from_slice-2.ensures.items c.words.invariant

pub returns : goal.returns
returns c = joined_all c.words.words.rest c.words.text.items (with_spaces (words_of c.args.line.now)) c.in_default-next.ensures.none c.words.invariant
