use Rattle.std.proofs.Common.{◌≡◌, ◌+◌, ◌-◌, ◌∙◌, ap, arith, false, ℕ}
use Rattle.std.specs.Prelude.{◌==◌, map, ◌++◌}
use Rattle.std.specs.List.{range_with_len}
use Rattle.std.proofs.lemmas.Bool.Decides.{nat_tests}
use Rattle.cell_script.specs.Generated.{drawn_change, entry, laid_out}
use Rattle.cell_script.proofs.Rounds.{begins_changed, begins_renewed, parts_behind}
use Rattle.cell_script.proofs.place.Place.with_round.Goals as goal

pub returns-then-draw-eq7-clause-left : goal.returns-then-draw-eq7-clause-left
returns-then-draw-eq7-clause-left c =
    let p = c.args.self in
    let x = c.next_draw-draw.result in
    let due = c.ends_with_skulk.result in
    let b = c.begin in
    let no_entry = ap (λ (n : ℕ). laid_out (p.serial + 4) (map entry (range_with_len n (16 - n)) ++ parts_behind p x due)) c.requires.entries in
    begins_renewed p b.result x due c.requires.entries c.requires.due c.requires.more c.next_draw-draw.ensures.next c.ends_with_skulk.ensures
    c.if-draw-eq7.true (rw b.ensures.work) b.ensures.fates (b.ensures.behind ∙ no_entry)

pub returns-else-draw-eq7-clause-left : goal.returns-else-draw-eq7-clause-left
returns-else-draw-eq7-clause-left c =
    let p = c.args.self in
    let x = c.next_draw-draw.result in
    let due = c.ends_with_skulk.result in
    let b = c.begin-else-draw-eq7 in
    let test : (drawn_change x == 7) ≡ false = grind (arith, nat_tests, c.if-draw-eq7.false) in
    let no_entry = ap (λ (n : ℕ). laid_out (p.serial + 2) (map entry (range_with_len n (16 - n)) ++ parts_behind p x due)) c.requires.entries in
    begins_changed p b.result x due c.requires.entries c.requires.due c.requires.more c.next_draw-draw.ensures.next c.ends_with_skulk.ensures test
    (rw b.ensures.work c.value_changed.ensures.commands) b.ensures.fates (b.ensures.behind ∙ no_entry)
