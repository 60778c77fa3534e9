use Rattle.std.proofs.Common.{arith}
use Rattle.compact_map.proofs.Places.{above_next, ends_at, ends_before, ends_past}
use Rattle.compact_map.proofs.sorted_vec.place_of.Goals as goal

pub loop-at-init : goal.loop-at-init
loop-at-init g c = tt

pub returns-in-Less : goal.returns-in-Less
returns-in-Less g c =
    ends_before (g.K.Ord.cmp c.args.key.now) c.args.entries.now c.loop-at.at c.index-entries-at.result c.loop-at-test.true c.loop-at.invariant
    c.in-Less.ensures

pub returns-in-Equal : goal.returns-in-Equal
returns-in-Equal g c =
    ends_at (g.K.Ord.cmp c.args.key.now) c.args.entries.now c.loop-at.at c.index-entries-at.result c.loop-at-test.true c.loop-at.invariant
    c.in-Equal.ensures

pub loop-at-preserved : goal.loop-at-preserved
loop-at-preserved g c =
    above_next (g.K.Ord.cmp c.args.key.now) c.args.entries.now c.loop-at.at c.index-entries-at.result c.loop-at-test.true c.loop-at.invariant
    c.in-Greater.ensures

pub returns : goal.returns
returns g c =
    ends_past (g.K.Ord.cmp c.args.key.now) c.args.entries.now c.loop-at.at (omega (arith, c.loop-at-test.false)) c.loop-at.invariant
