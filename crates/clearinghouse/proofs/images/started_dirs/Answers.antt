use Rattle.std.proofs.Common.{List, sym, ap, ◌∙◌}
use Rattle.std.specs.Prelude.{map}
use Rattle.cds_stamps.specs.declared.numbers.DirId.{DirId}
use Rattle.cds_messages.specs.declared.image.ImageDir.{ImageDir}
use Rattle.cds_messages.specs.Dirs.{dir_total, dir_exact}
use Rattle.record_fields.specs.Added.{add_all}
use Rattle.record_fields.proofs.Mapped.{mapped_made}
use Rattle.clearinghouse.specs.HouseImages.{started_of}
use Rattle.clearinghouse.proofs.images.started_dirs.Goals as goal

pub returns : goal.returns
returns c =
    ap (λ (es : List (DirId × ImageDir)). add_all c.loop-dir.dirs (map (λ e. (e.0, started_of e.1)) es)) (sym c.in-None.ensures.steps.0)
    ∙ c.loop-dir.invariant ∙ mapped_made dir_total dir_exact started_of c.args.kept
