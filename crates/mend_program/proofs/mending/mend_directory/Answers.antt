use Rattle.std.proofs.Common.{ap, Global}
use Rattle.cds_stamps.specs.declared.numbers.DirId.{DirId}
use Rattle.cell_model.specs.Cells.{empty_cell}
use Rattle.cds_stamps.specs.declared.numbers.HouseNo.{HouseNo}
use Rattle.house_directory.specs.HouseMessages.{numbers_of}
use Rattle.std.specs.declared.vec.Vec.{Vec}
use Rattle.mend_replay.specs.MendRules.{mend_state}
use Rattle.mend_program.proofs.mending.mend_directory.Goals as goal

pub returns : goal.returns
returns g c =
    c.serve_lines.ensures (mend_state c.args.dir.0 (numbers_of c.args.without.items) empty_cell)
    (ap (λ (dir : DirId). dir.0) c.new.ensures.dir, ap (λ (v : Vec HouseNo Global). numbers_of v.items) c.new.ensures.without, c.new.ensures.cell)
