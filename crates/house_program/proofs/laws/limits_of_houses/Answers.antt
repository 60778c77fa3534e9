use Rattle.std.proofs.Common.{arith, length-append}
use Rattle.std.specs.Prelude.{codes}
use Rattle.hex.specs.Hex.{encode_lower, lower_digits}
use Rattle.hex.proofs.HexLemmas.{length-encode_with}
use Rattle.house_program.proofs.laws.limits_of_houses.Goals as goal

pub returns-clause-piece : goal.returns-clause-piece
returns-clause-piece c octets few =
    omega (arith, few, length-append (codes "more ") (encode_lower octets), length-encode_with lower_digits octets)
