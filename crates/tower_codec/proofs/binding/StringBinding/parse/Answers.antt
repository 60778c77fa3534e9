use Rattle.tower_codec.proofs.BindingLaws.{binding_found, binding_again, is_read}
use Rattle.tower_codec.proofs.BindingFaults.{fault_told}
use Rattle.tower_codec.proofs.binding.StringBinding.parse.Goals as goal

pub returns-clause-found : goal.returns-clause-found
returns-clause-found c = binding_found c.args.octets.now c.from_parts.result c.from_parts.ensures

pub returns-clause-only : goal.returns-clause-only
returns-clause-only c = λ binding h. is_read c.from_parts.result c.args.octets.now binding c.from_parts.ensures (binding_again c.args.octets.now binding h)

pub returns-clause-fault : goal.returns-clause-fault
returns-clause-fault c = fault_told c.args.octets.now c.from_parts.result c.from_parts.ensures
