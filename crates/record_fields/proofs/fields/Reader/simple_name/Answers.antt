use Rattle.std.proofs.Common.{arith}
use Rattle.record_fields.proofs.NameLaws.{lawful_simple_name}
use Rattle.record_fields.proofs.fields.Reader.simple_name.Goals as goal

pub returns-clause-lawful : goal.returns-clause-lawful
returns-clause-lawful c =
    lawful_simple_name c.in_ok-own.own.now c.in_ok-own.ensures.each (omega (arith, c.in_ok-own.ensures.len, c.in_ok-size.ensures.within))
    (omega (arith, c.in_ok-own.ensures.len, c.in_ok-size.ensures.within))
