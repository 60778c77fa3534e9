use Rattle.std.proofs.Common.{◌≡◌, ◌∙◌, ap, arith, false}
use Rattle.std.specs.Prelude.{◌==◌}
use Rattle.std.proofs.lemmas.Bool.Decides.{nat_tests}
use Rattle.cell_model.specs.Sets.{has}
use Rattle.cds_cell.proofs.MemberLists.{contains_number}
use Rattle.cds_cell.proofs.reader.is_listed.Goals as goal

pub returns-else-eq : goal.returns-else-eq
returns-else-eq c =
    let test = c.if-eq.ensures in
    let master = c.master.ensures in
    let other : (c.args.house.0 == c.args.houses.now.master) ≡ false = grind (arith, nat_tests, test, master) in
    rw other (c.contains.ensures.value ∙ contains_number c.args.house.0 c.others.result.now ∙ ap (has c.args.house.0) c.others.ensures.value)
