use Rattle.ns_profiles.proofs.ElementLaws.{fault_found, known_found, said_found}
use Rattle.ns_profiles.proofs.element.check.Goals as goal

pub returns-clause-found : goal.returns-clause-found
returns-clause-found c = fault_found c.args.octets.now c.check_fields.result c.check_fields.ensures

pub returns-clause-known : goal.returns-clause-known
returns-clause-known c = known_found c.args.octets.now c.check_fields.result c.check_fields.ensures

pub returns-clause-lawful : goal.returns-clause-lawful
returns-clause-lawful c = said_found c.args.octets.now c.type_inv.octets c.check_fields.result c.check_fields.ensures
