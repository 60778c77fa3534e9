use Rattle.house_logs.proofs.SegmentLemmas.{no_head, this_head}
use Rattle.house_logs.proofs.reader.is_other_head.Goals as goal

pub returns-in_default : goal.returns-in_default
returns-in_default c = no_head c.args.head.now c.in_default.ensures.none

pub returns : goal.returns
returns c = this_head c.args.head.now c.in-Some-without.field-0.now c.in-Some-without.ensures.parts
