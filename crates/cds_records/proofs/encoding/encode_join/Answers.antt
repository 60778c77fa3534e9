use Rattle.cds_messages.specs.declared.message.Body.TheVariants.{Join}
use Rattle.cds_records.specs.RecordOctets.{body_octets}
use Rattle.cds_records.proofs.WholeMessages.{message_written, written_whole}
use Rattle.cds_records.proofs.encoding.encode_join.Goals as goal

pub returns-clause-octets : goal.returns-clause-octets
unfolding body_octets
returns-clause-octets c =
    message_written c.args.head.now (Join c.args.members.now c.args.replica.now) _ _ c.in_ok-out.ensures.octets c.in_ok-put_joined.ensures.octets

pub returns-clause-whole : goal.returns-clause-whole
returns-clause-whole c =
    written_whole c.args.head.now (Join c.args.members.now c.args.replica.now) _ (returns-clause-octets c) c.in_ok-out.ensures.fits c.in_ok-put_joined.ensures.fits
