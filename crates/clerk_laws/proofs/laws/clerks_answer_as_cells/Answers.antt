use Rattle.script_replay.specs.Replies.{wanted_by}
use Rattle.clerk_laws.proofs.CellReplies.{imports_so, links_so, plans_so, reads_so}
use Rattle.clerk_laws.proofs.laws.clerks_answer_as_cells.Goals as goal

pub returns-clause-reads : goal.returns-clause-reads
returns-clause-reads c = reads_so c.cells_tell_the_model.ensures

pub returns-clause-links : goal.returns-clause-links
returns-clause-links c = links_so c.cells_tell_the_model.ensures

pub returns-clause-imports : goal.returns-clause-imports
returns-clause-imports c g x high h heard made name interface object tcp udp a all =
    imports_so c.cells_tell_the_model.ensures g x high h heard made name (wanted_by interface object tcp udp) a all

pub returns-clause-plans : goal.returns-clause-plans
returns-clause-plans c = plans_so c.cells_tell_the_model.ensures
