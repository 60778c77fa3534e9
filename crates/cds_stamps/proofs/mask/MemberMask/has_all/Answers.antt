use Rattle.cds_stamps.proofs.Masks.{has_ones}
use Rattle.cds_stamps.proofs.mask.MemberMask.has_all.Goals as goal

pub returns : goal.returns
returns c = has_ones c.args.self.0 c.args.members c.requires.few
