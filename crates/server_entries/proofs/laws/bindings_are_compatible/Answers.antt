use Rattle.server_entries.proofs.ExportLaws.{binding_serves, binding_among}
use Rattle.server_entries.proofs.laws.bindings_are_compatible.Goals as goal

pub returns : goal.returns
returns c = λ wanted towers held binding. (binding_serves wanted towers held binding, binding_among wanted towers held binding)
