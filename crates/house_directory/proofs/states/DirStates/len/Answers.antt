use Rattle.std.proofs.Common.{sym, ap, ◌∙◌}
use Rattle.std.specs.FinMap as map
use Rattle.cds_messages.specs.Dirs.{dir_total}
use Rattle.cds_stamps.proofs.TreeViews.{len-view}
use Rattle.house_directory.proofs.states.DirStates.len.Goals as goal

pub returns : goal.returns
returns c = c.len.ensures.len ∙ sym (len-view dir_total c.self.inside.states.entries c.len.ensures.ordered) ∙ ap map.len c.self.view_is
