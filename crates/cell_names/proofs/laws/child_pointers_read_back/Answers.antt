use Rattle.cell_names.proofs.PointerLaws.{pointer_of-pointer_octets, pointer_octets-pointer_of}
use Rattle.cell_names.proofs.laws.child_pointers_read_back.Goals as goal

pub returns : goal.returns
returns c = record {
  read = pointer_of-pointer_octets;
  lawful = λ octets p all e. (pointer_octets-pointer_of octets p all e).0;
  written = λ octets p all e. (pointer_octets-pointer_of octets p all e).1;
}
