use Rattle.std.proofs.Common.{sym, ◌∙◌}
use Rattle.ns_profiles.specs.Profiles.{is_taken}
use Rattle.ns_profiles.proofs.Searches.{read_test, fault_test}
use Rattle.ns_profiles.proofs.search.is_sought.Goals as goal

pub returns-in-Ok : goal.returns-in-Ok
returns-in-Ok c = c.is_taken.ensures ∙ sym (read_test (is_taken c.args.interface.now) c.args.octets.now c.in-Ok.ensures.found)

pub returns-in-Err : goal.returns-in-Err
returns-in-Err c = sym (fault_test (is_taken c.args.interface.now) c.args.octets.now _ c.in-Err.ensures.found)
