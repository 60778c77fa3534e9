use Rattle.std.proofs.Common.{◌≡◌, ◌+◌, ◌-◌, ◌*◌, true, Some, drop, get_or, sym, ap, ◌∙◌, arith}
use Rattle.std.specs.Str.{all_ascii_digits}
use Rattle.std.proofs.lemmas.List.{drop_all}
use Rattle.tower_codec.specs.BindingReading.{value_after}
use Rattle.tower_codec.proofs.Numbers.{value_grows, value_more, no_digits, too_large, digits_found, digit_fails}
use Rattle.tower_codec.proofs.binding.digits_in.Goals as goal

pub returns-then-not-is_ascii_digit : goal.returns-then-not-is_ascii_digit
returns-then-not-is_ascii_digit c =
    let text = c.args.text.now in
    no_digits c.args.most text (sym c.loop-c.invariant.digits ∙ digit_fails text c.loop-c.c-index c.loop-c-test.true
    (sym c.if-not-is_ascii_digit.ensures.value))

pub returns-then-value-most : goal.returns-then-value-most
returns-then-value-most c =
    let text = c.args.text.now in
    let i = c.loop-c.c-index in
    let more = value_more c.loop-c.value text i c.loop-c-test.true in
    too_large c.args.most text (omega (
      arith,
      c.from.ensures,
      more,
      c.loop-c.invariant.value,
      value_grows
          (10 * c.loop-c.value + (get_or text i 0 - 48)) (drop (i + 1) text),
    ))

pub returns : goal.returns
returns c =
    let text = c.args.text.now in
    let rest = drop_all c.loop-c.c-index text c.loop-c-test.false in
    let digits : all_ascii_digits text ≡ true = sym c.loop-c.invariant.digits ∙ ap all_ascii_digits rest in
    let value : c.loop-c.value ≡ value_after 0 text = sym (ap (value_after c.loop-c.value) rest) ∙ c.loop-c.invariant.value in
    ap Some value ∙ digits_found c.args.most text digits (omega arith)
