use Rattle.std.proofs.Common.{[], ℕ, List, ◌++◌, ap, ◌∙◌}
use Rattle.std.specs.Option.{option_map_or}
use Rattle.script_answers.specs.Texts.{kind_word}
use Rattle.directory.specs.Shown.{face_of, lead_of}
use Rattle.directory.specs.declared.entry.EntryCell.{EntryCell}
use Rattle.house_turns.specs.Showings.{lead_words}
use Rattle.house_turns.proofs.Shows.{line_of_two}
use Rattle.house_turns.proofs.showing.push_lead_line.Goals as goal

pub returns : goal.returns
returns c =
    let e : EntryCell = c.args.entry.now in
    let t : List ℕ = c.begin_line.new.text.items in
    line_of_two c.args.number (kind_word e.kind) (option_map_or (lead_words e.kind) (lead_of (face_of e)) []) c.args.text.now.items t
    c.extend_from_slice.new.self.items c.push_led.new.text.items c.push.new.self.items c.in_ok-begin_line.ensures.ok
    (c.in_ok-extend_from_slice.ensures.items ∙ ap (λ (w : List ℕ). t ++ w) c.word_of.ensures) c.in_ok-push_led.ensures c.in_ok-push.ensures.items
