use Rattle.std.proofs.Common.{◌∙◌}
use Rattle.cds_records.specs.RecordOctets.{message_head}
use Rattle.cds_records.specs.RecordRanges.{FitsHead}
use Rattle.std.proofs.Common.{subst}
use Rattle.cds_records.proofs.WholeMessages.{message_written, written_whole}
use Rattle.cds_records.proofs.encoding.encode.Goals as goal

pub returns-clause-octets : goal.returns-clause-octets
returns-clause-octets c =
    message_written _ c.args.message.now.body _ _ (c.in_ok-out.ensures.octets ∙ (λ i. message_head (c.head.ensures i) (c.tag.ensures i)))
    c.in_ok-put_body.ensures.octets

pub returns-clause-whole : goal.returns-clause-whole
returns-clause-whole c =
    written_whole _ c.args.message.now.body _ (returns-clause-octets c) (subst FitsHead c.head.ensures c.in_ok-out.ensures.fits)
    c.in_ok-put_body.ensures.fits
