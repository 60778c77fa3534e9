use Rattle.std.proofs.Common.{sym, ap, ◌∙◌}
use Rattle.std.specs.FinMap as map
use Rattle.cds_messages.specs.Dirs.{dir_total, dir_exact}
use Rattle.cds_stamps.proofs.TreeViews.{entries-view}
use Rattle.house_directory.proofs.states.DirStates.iter.Goals as goal

pub returns : goal.returns
returns c = c.iter.ensures.rest ∙ sym (entries-view dir_total dir_exact c.self.inside.states.entries c.iter.ensures.ordered) ∙ ap map.entries c.self.view_is
