use Rattle.std.proofs.Common.{arith}
use Rattle.reply_buffer.proofs.DigitValues.{digit_valued, digit_without_value}
use Rattle.reply_buffer.proofs.digits.digit_value.Goals as goal

pub returns-then-value-lt16-clause-value : goal.returns-then-value-lt16-clause-value
returns-then-value-lt16-clause-value c = digit_valued c.args.digit (omega arith) c.if-value-lt16.true

pub returns-else-value-lt16-clause-value : goal.returns-else-value-lt16-clause-value
returns-else-value-lt16-clause-value c = digit_without_value c.args.digit (omega arith) (omega (arith, c.if-value-lt16.false))
