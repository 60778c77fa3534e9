use Rattle.std.proofs.Common.{ℕ, ◌+◌, ◌*◌, drop, refl, sym, ◌∙◌, ap, arith}
use Rattle.std.proofs.lemmas.Bool.Decides.{nat_tests}
use Rattle.std.proofs.lemmas.List.{at_drop_more, at_drop_all}
use Rattle.std.proofs.Math.ListN.{get_or}
use Rattle.cell_script.proofs.Numbers.{number_on, number_on_digit, number_on_other, number_on_great, number_on_end, number_on_word}
use Rattle.cell_script.proofs.word.number.Goals as goal
use Rattle.cell_script.proofs.word.number.Goals.{then-value-via-then-value, then-value-via-else-value+then-digit-value}

pub loop-b-init : goal.loop-b-init
loop-b-init c =
    let some = c.if-is_empty.ensures in number_on_word c.args.word.now (grind (arith, nat_tests, some)) (c.if-has_leading_zero.ensures.other refl)

pub returns-then-not-is_ascii_digit : goal.returns-then-not-is_ascii_digit
returns-then-not-is_ascii_digit c =
    sym (at_drop_more (number_on c.loop-b.value) c.args.word.now c.loop-b.b-index 0 c.loop-b-test.true
    ∙ number_on_other c.loop-b.value _ _ (sym c.if-not-is_ascii_digit.ensures.value))
    ∙ c.loop-b.invariant

pub returns-then-value : goal.returns-then-value
returns-then-value c =
    sym (at_drop_more (number_on c.loop-b.value) c.args.word.now c.loop-b.b-index 0 c.loop-b-test.true
    ∙ number_on_great c.loop-b.value (get_or c.args.word.now c.loop-b.b-index 0) _
    (let digit = c.from-digit.ensures in
    elim c.then-value.branch [
      | then-value-via-then-value w ↦ omega (arith, w.if-value)
      | then-value-via-else-value+then-digit-value w ↦ omega
          (arith, w.if-value, w.if-digit-value, digit)
    ]))
    ∙ c.loop-b.invariant

pub loop-b-preserved : goal.loop-b-preserved
loop-b-preserved c =
    ap (λ (digit : ℕ). number_on (10 * c.loop-b.value + digit) (drop (c.loop-b.b-index + 1) c.args.word.now)) c.from-digit.ensures
    ∙ sym (at_drop_more (number_on c.loop-b.value) c.args.word.now c.loop-b.b-index 0 c.loop-b-test.true
    ∙ number_on_digit c.loop-b.value _ _ (sym c.if-not-is_ascii_digit.ensures.value))
    ∙ c.loop-b.invariant

pub returns : goal.returns
returns c =
    let over = c.loop-b-test.false in
    let fits = c.loop-b.auto.value-fits in
    sym (at_drop_all (number_on c.loop-b.value) c.args.word.now c.loop-b.b-index (omega (arith, over)) ∙ number_on_end c.loop-b.value (omega (arith, fits)))
    ∙ c.loop-b.invariant
