use Rattle.cds_stamps.proofs.Masks.{other_place}
use Rattle.skulk_core.proofs.RoundLaws.{first_round}
use Rattle.skulk_core.proofs.skulk.Skulk.begin.Goals as goal

pub returns-clause-phase : goal.returns-clause-phase
returns-clause-phase c = first_round c.args.members c.args.me c.only.result c.requires.me (other_place c.args.members 1 c.if-members-eq1.false) c.only.ensures
