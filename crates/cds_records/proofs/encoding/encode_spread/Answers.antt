use Rattle.cds_messages.specs.declared.message.Body.TheVariants.{Spread}
use Rattle.cds_records.specs.RecordOctets.{body_octets}
use Rattle.cds_records.proofs.WholeMessages.{message_written, written_whole}
use Rattle.cds_records.proofs.encoding.encode_spread.Goals as goal

pub returns-clause-octets : goal.returns-clause-octets
unfolding body_octets
returns-clause-octets c = message_written c.args.head.now (Spread c.args.t.now c.args.delta.now) _ _ c.in_ok-out.ensures.octets c.in_ok-put_copied.ensures.octets

pub returns-clause-whole : goal.returns-clause-whole
returns-clause-whole c =
    written_whole c.args.head.now (Spread c.args.t.now c.args.delta.now) _ (returns-clause-octets c) c.in_ok-out.ensures.fits c.in_ok-put_copied.ensures.fits
