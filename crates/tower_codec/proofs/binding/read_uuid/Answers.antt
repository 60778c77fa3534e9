use Rattle.std.proofs.Common.{◌∙◌}
use Rattle.tower_codec.proofs.UuidTexts.{uuid_read}
use Rattle.tower_codec.proofs.binding.read_uuid.Goals as goal

pub returns : goal.returns
returns c = c.ok.ensures.value ∙ uuid_read c.try_parse_ascii.result c.args.octets.now c.if-octets-ne36.false c.try_parse_ascii.ensures.ok
    c.try_parse_ascii.ensures.bytes
