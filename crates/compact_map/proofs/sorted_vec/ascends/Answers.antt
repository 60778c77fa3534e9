use Rattle.std.proofs.Common.{arith}
use Rattle.compact_map.proofs.Ascending.{ascend_one, ascend_next, ascend_all}
use Rattle.compact_map.proofs.sorted_vec.ascends.Goals as goal

pub loop-at-init : goal.loop-at-init
loop-at-init g c = (omega arith, ascend_one g.K.Ord.cmp c.args.entries.now)

pub overflow_sub-at : goal.overflow_sub-at
overflow_sub-at g c = c.loop-at.invariant.0

pub loop-at-preserved : goal.loop-at-preserved
loop-at-preserved g c = (
  omega (arith, c.loop-at.invariant.0),
  ascend_next g.K.Ord.cmp c.args.entries.now c.loop-at.at c.index-entries-at.result c.index-entries-at-in-loop-at.result c.loop-at.invariant.0
      c.loop-at-test.true c.loop-at.invariant.1 c.in-Less.ensures,
)

pub returns : goal.returns
returns g c = λ _. ascend_all g.K.Ord.cmp g.met.K.Ord.total c.args.entries.now c.loop-at.at (omega (arith, c.loop-at-test.false)) c.loop-at.invariant.1
