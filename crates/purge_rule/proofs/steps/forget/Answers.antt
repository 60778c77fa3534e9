use Rattle.std.proofs.Common.{◌≡◌, true, false, not, sym, ap, ◌∙◌, arith}
use Rattle.cds_stamps.specs.Stamps.{is_earlier, is_up_to}
use Rattle.directory.specs.Held.{held_in}
use Rattle.purge_rule.proofs.StepLaws.{goes_on, arrives, arrives_late, spends_more}
use Rattle.purge_rule.proofs.steps.forget.Goals as goal

pub loop-first-preserved : goal.loop-first-preserved
loop-first-preserved g c =
    let early : is_earlier c.args.t c.in-Some.first ≡ false = sym c.is_later.ensures ∙ c.if-is_later.false in
    let up : is_up_to c.args.t c.in-Some.first ≡ true = ap not early in
    record {
      way = goes_on c.args.t c.in-Some.first c.args.table.now c.loop-first.table c.drop_first-dropped.new.self up c.in-Some.ensures.first
          c.drop_first-dropped.ensures.dropped c.loop-first.invariant.way;
      fewer = let a = c.drop_first-dropped.ensures.fewer in let b = c.loop-first.invariant.fewer in omega arith;
      spends = spends_more c.args.steps.now (held_in c.args.table.now) c.loop-first.steps (held_in c.loop-first.table) c.add-in-Some.new.self
          (held_in c.drop_first-dropped.new.self) c.drop_first-dropped.result c.drop_first-dropped.ensures.count c.drop_first-dropped.ensures.fewer
          c.add-in-Some.ensures c.loop-first.invariant.fewer c.loop-first.invariant.spends;
    }

pub returns-then-is_later-clause-dropped : goal.returns-then-is_later-clause-dropped
returns-then-is_later-clause-dropped g c =
    let late : is_earlier c.args.t c.in-Some.first ≡ true = sym c.is_later.ensures ∙ c.if-is_later.true in
    arrives_late c.args.t c.in-Some.first c.args.table.now c.loop-first.table late c.in-Some.ensures.first c.loop-first.invariant.way
    c.first_deletion.ensures.valid

pub returns-clause-dropped : goal.returns-clause-dropped
returns-clause-dropped g c =
    arrives c.args.t c.args.table.now c.loop-first.table c.in_default.ensures.none c.loop-first.invariant.way c.first_deletion.ensures.valid
