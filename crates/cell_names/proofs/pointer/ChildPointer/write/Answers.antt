use Rattle.std.proofs.Common.{◌≡◌, ap, ◌∙◌, arith}
use Rattle.std.proofs.lemmas.Grind.{common_steps}
use Rattle.cell_names.specs.ChildPointers.{pointer_in, pointer_octets, pointer_of}
use Rattle.cell_names.proofs.PointerLaws.{written_read}
use Rattle.cell_names.proofs.pointer.ChildPointer.write.Goals as goal

pub returns-clause-readable : goal.returns-clause-readable
returns-clause-readable c =
    let p = pointer_in c.args.self.now in
    let written : c.loop-house.octets.items ≡ pointer_octets p = grind (arith, common_steps) in
    ap pointer_of written ∙ written_read p c.dir_octets.ensures.range c.others-others.ensures.lawful
