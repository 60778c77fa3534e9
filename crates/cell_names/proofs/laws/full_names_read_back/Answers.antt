use Rattle.cell_names.proofs.FullNameLaws.{spelling-components, components_of-spelling}
use Rattle.cell_names.proofs.laws.full_names_read_back.Goals as goal

pub returns : goal.returns
returns c = record {
  spelled = λ octets e. (spelling-components octets e).1;
  lawful = λ octets e. (spelling-components octets e).0;
  read = components_of-spelling;
}
