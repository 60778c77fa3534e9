use Rattle.std.proofs.Common.{sym, ◌∙◌}
use Rattle.std.specs.Option.{option_copied}
use Rattle.ns_profiles.specs.Profiles.{is_meant}
use Rattle.ns_profiles.proofs.Searches.{read_test, fault_test}
use Rattle.ns_profiles.proofs.search.is_element.Goals as goal

pub returns-in-Ok : goal.returns-in-Ok
returns-in-Ok c = c.is_meant.ensures ∙ sym (read_test (is_meant (option_copied c.args.interface) c.args.member.now) c.args.octets.now c.in-Ok.ensures.found)

pub returns-in-Err : goal.returns-in-Err
returns-in-Err c = sym (fault_test (is_meant (option_copied c.args.interface) c.args.member.now) c.args.octets.now _ c.in-Err.ensures.found)
