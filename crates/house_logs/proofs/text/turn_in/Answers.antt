use Rattle.house_logs.proofs.TextLemmas.{turn_other}
use Rattle.house_logs.proofs.text.turn_in.Goals as goal

pub returns-in_default-2 : goal.returns-in_default-2
returns-in_default-2 c =
    turn_other c.args.text.now c.in-Some.line.now c.in-Some.rest.now c.in-Some.ensures.cut.0 c.in-Some.ensures.cut.1
    (rw c.in_default-2.is at c.in_ok-said.ensures)
