use Rattle.std.proofs.Common.{◌++◌, ◌∙◌, arith}
use Rattle.std.specs.Int.{w16, to_be_bytes}
use Rattle.record_fields.specs.FieldOctets.{value_octets}
use Rattle.record_fields.proofs.WholeFields.{value_lawful}
use Rattle.record_fields.proofs.WritingLoops.{behind}
use Rattle.record_fields.proofs.writing.put_value.Goals as goal

pub overflow_cast-len : goal.overflow_cast-len
overflow_cast-len c = omega (arith, (value_lawful c.args.value.now c.len.ensures.lawful).1, c.len.ensures.len)

pub returns-clause-octets : goal.returns-clause-octets
unfolding value_octets
returns-clause-octets c =
    behind _ _ _ _ _ c.in_ok-put_u16.ensures c.in_ok-extend_from_slice.ensures.items
    ∙ (λ i. c.args.out.now.items ++ (to_be_bytes w16 (c.len.ensures.len i) ++ c.octets.ensures i))
