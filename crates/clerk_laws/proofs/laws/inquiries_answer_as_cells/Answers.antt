use Rattle.script_replay.specs.Replies.{wanted_by}
use Rattle.clerk_laws.proofs.CellReplies.{batches_so, lists_so}
use Rattle.clerk_laws.proofs.laws.inquiries_answer_as_cells.Goals as goal

pub returns-clause-lists : goal.returns-clause-lists
returns-clause-lists c = lists_so c.cells_tell_the_model.ensures

pub returns-clause-lookups : goal.returns-clause-lookups
returns-clause-lookups c g x high h heard made name interface object tcp udp most a all =
    batches_so c.cells_tell_the_model.ensures g x high h heard made name (wanted_by interface object tcp udp) most a all
