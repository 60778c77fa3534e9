use Rattle.std.proofs.Common.{sym, ◌∙◌, ap}
use Rattle.std.specs.FinMap as map
use Rattle.cds_messages.specs.Dirs.{dir_total}
use Rattle.cds_stamps.proofs.TreeViews.{get-view}
use Rattle.house_directory.proofs.states.DirStates.get.Goals as goal

pub returns : goal.returns
returns c = c.get.ensures.value ∙ sym (get-view dir_total c.self.inside.states.entries c.args.dir.now) ∙ ap (λ m. map.get m c.args.dir.now) c.self.view_is
