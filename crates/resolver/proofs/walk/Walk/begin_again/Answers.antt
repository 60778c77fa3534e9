use Rattle.std.proofs.Common.{List, ℕ, ◌+◌, [], ◌∷◌, ◌++◌, drop, ap, arith, length, length-append}
use Rattle.resolver.specs.PassWords.{present_name}
use Rattle.resolver.proofs.PassLaws.{one_link_less}
use Rattle.resolver.proofs.walk.Walk.begin_again.Goals as goal

pub returns-in_ok-push-in-Ok-clause-ahead : goal.returns-in_ok-push-in-Ok-clause-ahead
returns-in_ok-push-in-Ok-clause-ahead c = omega (
  arith,
  c.requires.few,
  one_link_less (length c.deref.result.now) (c.args.self.now.first.now ∷ c.deref.result.now)
      (c.args.target ++ drop (c.args.self.now.done + 1) (present_name c.args.self.now.first.now c.deref.result.now)) c.in-Ok.next c.in-Ok.ensures.answer,
  ap length c.deref.ensures.value,
  ap length c.in_ok-push-in-Ok.ensures.items,
  length-append c.args.self.now.later.items (c.in-Ok.next ∷ []),
)
