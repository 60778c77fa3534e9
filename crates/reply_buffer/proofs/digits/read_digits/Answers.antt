use Rattle.std.proofs.Common.{sym, ap, ◌∙◌, refl, arith}
use Rattle.std.specs.Result.{result_ok}
use Rattle.hex.proofs.Pairs.{decode_start, decode_step, decode_err, decode_done}
use Rattle.reply_buffer.proofs.DigitValues.{pair_valued, high_at_fault, low_at_fault}
use Rattle.reply_buffer.proofs.digits.read_digits.Goals as goal

pub octets-init : goal.octets-init
octets-init c = decode_start c.args.digits.now c.args.octets.now

pub returns-in_default : goal.returns-in_default
returns-in_default c =
    let digits = c.args.digits.now in
    let i = c.octets.i in
    let fault = high_at_fault digits i (sym c.in_default.is ∙ c.digit_value.ensures.value) in
    let none = ap result_ok (decode_err digits c.octets.octets i _ (omega arith) fault c.octets.invariant) in
    rw none refl

pub returns-in_default-digit_value : goal.returns-in_default-digit_value
returns-in_default-digit_value c =
    let digits = c.args.digits.now in
    let i = c.octets.i in
    let high = sym c.in-Some.is ∙ c.digit_value.ensures.value in
    let fault = low_at_fault digits i c.in-Some.high high (sym c.in_default-digit_value.is ∙ c.digit_value-in-octets.ensures.value) in
    let none = ap result_ok (decode_err digits c.octets.octets i _ (omega arith) fault c.octets.invariant) in
    rw none refl

pub octets-preserved : goal.octets-preserved
octets-preserved c =
    let digits = c.args.digits.now in
    let i = c.octets.i in
    let high = sym c.in-Some.is ∙ c.digit_value.ensures.value in
    let low = sym c.in-Some-digit_value.is ∙ c.digit_value-in-octets.ensures.value in
    let pair = pair_valued digits i c.in-Some.high c.in-Some-digit_value.low high low in
    decode_step digits c.octets.octets i _ (omega arith) (omega arith) pair c.octets.invariant

pub returns : goal.returns
returns c =
    let all = ap result_ok (decode_done c.args.digits.now c.octets.octets c.octets.i (omega arith) (omega arith) c.octets.invariant) in
    rw all (refl, refl)
