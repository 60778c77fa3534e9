use Rattle.cds_stamps.proofs.Masks.{one_bit}
use Rattle.cds_stamps.proofs.mask.MemberMask.only.Goals as goal

pub returns : goal.returns
returns c = λ p. one_bit c.args.place p c.requires
