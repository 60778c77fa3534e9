use Rattle.clerk_lines.proofs.ReadBack.{entry_read_back}
use Rattle.clerk_lines.proofs.laws.entries_are_read_back.Goals as goal

pub returns : goal.returns
returns c = entry_read_back
