use Rattle.std.proofs.Common.{◌++◌, ◌∷◌, ◌∙◌, ap, length, arith}
use Rattle.record_fields.specs.FieldOctets.{name_octets}
use Rattle.record_fields.proofs.WholeFields.{attr_name_lawful}
use Rattle.record_fields.proofs.WritingLoops.{behind}
use Rattle.record_fields.proofs.writing.put_attr_name.Goals as goal

pub overflow_cast-octets : goal.overflow_cast-octets
overflow_cast-octets c = omega (arith, (attr_name_lawful c.octets-octets.result.now c.octets-octets.ensures.lawful).2)

pub returns-clause-octets : goal.returns-clause-octets
unfolding name_octets
returns-clause-octets c =
    behind _ _ _ _ _ c.in_ok-put_octet.ensures c.in_ok-extend_from_slice.ensures.items
    ∙ ap (λ o. c.args.out.now.items ++ length o ∷ o) c.octets-octets.ensures.value
