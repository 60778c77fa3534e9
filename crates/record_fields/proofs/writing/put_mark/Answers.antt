use Rattle.std.proofs.Common.{◌++◌, ◌∷◌, ◌∙◌, ap}
use Rattle.record_fields.specs.FieldOctets.{stamp_octets, mark_octets}
use Rattle.record_fields.proofs.WritingLoops.{behind}
use Rattle.record_fields.proofs.writing.put_mark.Goals as goal

pub returns-clause-octets : goal.returns-clause-octets
unfolding mark_octets
returns-clause-octets c =
    behind _ _ _ _ _ c.in_ok-put_octet.ensures c.in_ok-put_stamp.ensures.octets
    ∙ ap (λ n. c.args.out.now.items ++ n ∷ stamp_octets c.args.mark.now.stamp) c.flag.ensures
