use Rattle.cds_stamps.proofs.Masks.{with_bit}
use Rattle.cds_stamps.proofs.mask.MemberMask.with.Goals as goal

pub returns : goal.returns
returns c = λ p. with_bit c.args.self.0 c.args.place p c.requires
