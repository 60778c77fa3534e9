use Rattle.std.proofs.Common.{refl}
use Rattle.cell_script.proofs.Rounds.{range_more}
use Rattle.cell_script.proofs.place.Place.with_entry.Goals as goal

pub returns-clause-left : goal.returns-clause-left
returns-clause-left c =
    rw (c.begin.ensures.work, c.begin.ensures.fates, c.begin.ensures.behind, range_more c.args.self.entries 16 c.requires) refl
