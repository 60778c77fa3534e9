use Rattle.server_entries.proofs.ExportLaws.{exported_found}
use Rattle.server_entries.proofs.laws.exported_servers_are_found.Goals as goal

pub returns : goal.returns
returns c = exported_found
