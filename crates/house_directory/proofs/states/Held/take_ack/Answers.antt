use Rattle.std.proofs.Common.{refl, ap, subst}
use Rattle.skulk_core.specs.MasterRounds.{IsPhaseOf, TakesSpread}
use Rattle.house_directory.proofs.Takings.{waits_answer}
use Rattle.house_directory.proofs.states.Held.take_ack.Goals as goal

pub returns-in_default : goal.returns-in_default
returns-in_default c = record {
  lawful = c.count-count.ensures.lawful;
  next = c.spread.result;
  does = subst (λ n. TakesSpread c.args.t.now c.args.from n c.args.self.now.skulk c.spread.new.self c.spread.result)
      c.count-count.ensures.count c.spread.ensures.does;
  keeps = λ me. subst (λ n. IsPhaseOf n me c.args.self.now.skulk → IsPhaseOf n me c.spread.new.self) c.count-count.ensures.count
      (c.spread.ensures.phase me);
  after = waits_answer c.args.t.now c.spread.result c.args.self.now _ _ _ c.in_default.not-Stale c.in_default.not-Complete refl
      (ap (λ t. t.answer) c.taken_with.ensures) (ap (λ t. t.outgoing) c.taken_with.ensures);
}
