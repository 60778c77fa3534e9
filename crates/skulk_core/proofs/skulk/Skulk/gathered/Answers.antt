use Rattle.std.proofs.Common.{sym, ◌∙◌}
use Rattle.skulk_core.proofs.RoundLaws.{last_gathered, one_gathered, next_round}
use Rattle.skulk_core.proofs.skulk.Skulk.gathered.Goals as goal

pub returns-then-has_all-clause-does : goal.returns-then-has_all-clause-does
returns-then-has_all-clause-does c =
    last_gathered c.in-Gathering.own c.args.t c.in-Gathering.answered c.with-answered.result c.args.from c.args.members c.args.self.now
    (sym c.if-eq.true ∙ c.eq.ensures) c.with-answered.ensures c.args.me c.only.result c.in-Gathering.is
    (sym c.has_all.ensures ∙ c.if-has_all.true) c.only.ensures

pub returns-then-has_all-clause-phase : goal.returns-then-has_all-clause-phase
returns-then-has_all-clause-phase c =
    next_round c.in-Gathering.own c.in-Gathering.answered c.only.result c.args.members c.args.me c.args.self.now c.in-Gathering.is c.requires.me c.only.ensures

pub returns-else-has_all-clause-does : goal.returns-else-has_all-clause-does
returns-else-has_all-clause-does c =
    one_gathered c.in-Gathering.own c.args.t c.in-Gathering.answered c.with-answered.result c.args.from c.args.members c.args.self.now
    (sym c.if-eq.true ∙ c.eq.ensures) c.with-answered.ensures c.args.me c.in-Gathering.is (sym c.has_all.ensures ∙ c.if-has_all.false)
