use Rattle.server_entries.proofs.ExportLaws.{goes}
use Rattle.server_entries.proofs.laws.exported_servers_can_go.Goals as goal

pub returns : goal.returns
returns c = goes
