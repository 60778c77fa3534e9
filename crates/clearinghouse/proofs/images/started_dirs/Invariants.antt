use Rattle.std.proofs.Common.{◌≡◌}
use Rattle.std.specs.Prelude.{map}
use Rattle.std.specs.FinMap.{empty, entries}
use Rattle.cds_messages.specs.Dirs.{dir_cmp}
use Rattle.record_fields.specs.Added.{add_all}
use Rattle.clearinghouse.specs.HouseImages.{started_of}
use Rattle.clearinghouse.proofs.images.started_dirs.Given as goal

-- with the rest of the directories it is the whole
abbrev pub invariant-loop-dir : goal.invariant-loop-dir
invariant-loop-dir l =
    add_all l.dirs (map (λ e. (e.0, started_of e.1)) l.dir-iterator) ≡ add_all (empty {R = dir_cmp}) (map (λ e. (e.0, started_of e.1)) (entries l.fn.kept))
