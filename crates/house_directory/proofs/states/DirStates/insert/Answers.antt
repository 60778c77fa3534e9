use Rattle.std.proofs.Common.{sym, ◌∙◌, ap}
use Rattle.std.specs.FinMap as map
use Rattle.cds_messages.specs.Dirs.{dir_total, dir_exact}
use Rattle.cds_stamps.proofs.TreeViews.{get-view, view-insert}
use Rattle.house_directory.proofs.states.DirStates.insert.Goals as goal

pub returns-clause-before : goal.returns-clause-before
returns-clause-before c =
    c.in_ok-insert.ensures.old ∙ sym (get-view dir_total c.self.inside.states.entries c.args.dir) ∙ ap (λ m. map.get m c.args.dir) c.self.view_is

pub returns-clause-ok : goal.returns-clause-ok
returns-clause-ok c =
    view-insert dir_total dir_exact c.self.inside.states.entries c.insert.new.self.entries c.args.dir c.args.state c.in_ok-insert.ensures.updates.0
    ∙ ap (λ m. map.insert m c.args.dir c.args.state) c.self.view_is
