use Rattle.std.proofs.Common.{sym, ◌∙◌}
use Rattle.skulk_core.proofs.RoundLaws.{last_spread, one_spread}
use Rattle.skulk_core.proofs.skulk.Skulk.spread.Goals as goal

pub returns-then-has_all-clause-does : goal.returns-then-has_all-clause-does
returns-then-has_all-clause-does c =
    last_spread c.in-Spreading.own c.args.t c.in-Spreading.answered c.with-answered.result c.args.from c.args.members c.args.self.now
    (sym c.if-eq.true ∙ c.eq.ensures) c.with-answered.ensures c.in-Spreading.is (sym c.has_all.ensures ∙ c.if-has_all.true)

pub returns-else-has_all-clause-does : goal.returns-else-has_all-clause-does
returns-else-has_all-clause-does c =
    one_spread c.in-Spreading.own c.args.t c.in-Spreading.answered c.with-answered.result c.args.from c.args.members c.args.self.now
    (sym c.if-eq.true ∙ c.eq.ensures) c.with-answered.ensures c.in-Spreading.is (sym c.has_all.ensures ∙ c.if-has_all.false)
