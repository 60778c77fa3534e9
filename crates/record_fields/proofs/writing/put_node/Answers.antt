use Rattle.std.proofs.Common.{◌++◌, ◌∙◌, ap}
use Rattle.record_fields.specs.Fields.{node_octets}
use Rattle.record_fields.proofs.WritingLoops.{six_octets}
use Rattle.record_fields.proofs.writing.put_node.Goals as goal

pub returns-clause-octets : goal.returns-clause-octets
returns-clause-octets c =
    c.in_ok-extend_from_slice.ensures.items ∙ ap (λ o. c.args.out.now.items ++ o) (c.write_u48.ensures ∙ six_octets c.number-number.result)
    ∙ ap (λ k. c.args.out.now.items ++ node_octets k) c.number-number.ensures.same
