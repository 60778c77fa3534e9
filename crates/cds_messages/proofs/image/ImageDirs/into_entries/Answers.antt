use Rattle.std.proofs.Common.{sym, ap, ◌∙◌}
use Rattle.std.specs.FinMap as map
use Rattle.cds_messages.specs.Dirs.{dir_total, dir_exact}
use Rattle.cds_stamps.proofs.TreeViews.{entries-view}
use Rattle.cds_messages.proofs.image.ImageDirs.into_entries.Goals as goal

pub returns : goal.returns
returns c =
    let gives = c.into_iter.ensures.into_iter_gives in
    gives.0 ∙ sym (entries-view dir_total dir_exact c.self.inside.dirs.entries gives.5) ∙ ap map.entries c.self.view_is
