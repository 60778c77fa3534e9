use Rattle.std.proofs.Common.{◌≡◌, ap, ◌∙◌, arith}
use Rattle.std.proofs.lemmas.Grind.{common_steps}
use Rattle.cell_names.specs.FullNames.{name_fault, components_of, full_name_octets}
use Rattle.cell_names.proofs.FullNameLaws.{name_fault-spelling, components_of-spelling}
use Rattle.cell_names.proofs.full_name.FullName.print.Goals as goal

pub returns-clause-lawful : goal.returns-clause-lawful
returns-clause-lawful c =
    let spelled : c.append_spelling.new.octets.items ≡ full_name_octets c.args.self.now = grind (arith, common_steps) in
    ap name_fault spelled ∙ name_fault-spelling c.args.self.now c.spelled_len.ensures.lawful

pub returns-clause-read : goal.returns-clause-read
returns-clause-read c =
    let spelled : c.append_spelling.new.octets.items ≡ full_name_octets c.args.self.now = grind (arith, common_steps) in
    ap components_of spelled ∙ components_of-spelling c.args.self.now c.spelled_len.ensures.lawful
