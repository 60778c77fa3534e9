use Rattle.std.proofs.Common.{sym, subst}
use Rattle.house_turns.specs.Records.{IsRecord}
use Rattle.house_program.proofs.ProcessLemmas.{speaks_so}
use Rattle.house_program.proofs.running.first_segment.Goals as goal

pub returns-clause-first : goal.returns-clause-first
returns-clause-first c = subst (IsRecord _ _) (sym c.in_ok-next.ensures.first) c.in_ok-first.ensures.body

pub returns-clause-said : goal.returns-clause-said
returns-clause-said c = speaks_so _ _ _ _ c.in_ok-first.ensures.after c.in_ok-next.ensures.said c.in_ok-said.ensures
