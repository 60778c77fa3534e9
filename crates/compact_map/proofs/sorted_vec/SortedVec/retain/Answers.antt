use Rattle.std.proofs.Common.{arith, subst}
use Rattle.std.specs.Map.Calls.{CalledAtPair, TakesPair}
use Rattle.compact_map.specs.MapEntries.{IsOrdered}
use Rattle.compact_map.proofs.Sifting.{begun, asked, kept_next, dropped_next, ended, kept_ordered}
use Rattle.compact_map.proofs.sorted_vec.SortedVec.retain.Goals as goal

pub loop-at-init : goal.loop-at-init
loop-at-init g c = rw c.self.view_is (begun (CalledAtPair g.F.FnMut) (TakesPair g.F.FnMut) c.args.f c.args.self.now c.requires)

pub invariant_of-self : goal.invariant_of-self
invariant_of-self g c =
    kept_ordered (CalledAtPair g.F.FnMut) g.K.Ord.cmp c.args.f c.args.self.now _
    (ended (CalledAtPair g.F.FnMut) (TakesPair g.F.FnMut) c.args.f c.args.self.now c.loop-at.invariant
    (omega (arith, c.loop-at-test.false, c.len.ensures, c.loop-at.self-inside.entries.ok.0)))
    (subst (IsOrdered g.K.Ord.cmp) c.self.view_is c.self.invariant)

pub asks-requires : goal.asks-requires
asks-requires g c =
    asked (CalledAtPair g.F.FnMut) (TakesPair g.F.FnMut) c.args.f c.args.self.now c.loop-at.invariant c.index_mut.result.now
    (omega (arith, c.loop-at-test.true, c.len.ensures, c.loop-at.self-inside.entries.ok.0)) c.index_mut.ensures.value

pub loop-at-smaller-then-asks : goal.loop-at-smaller-then-asks
loop-at-smaller-then-asks g c = omega (arith, c.loop-at-test.true, c.len.ensures)

pub loop-at-preserved-then-asks : goal.loop-at-preserved-then-asks
loop-at-preserved-then-asks g c =
    kept_next (CalledAtPair g.F.FnMut) (TakesPair g.F.FnMut) c.args.f c.args.self.now c.loop-at.invariant c.index_mut.result.now
    (omega (arith, c.loop-at-test.true, c.len.ensures, c.loop-at.self-inside.entries.ok.0)) c.index_mut.ensures.value
    c.asks.new.entry c.asks.ensures.same_key c.asks.new.f (rw c.if-asks.true at c.asks.ensures.called)

pub loop-at-smaller : goal.loop-at-smaller
loop-at-smaller g c = omega (arith, c.loop-at-test.true, c.len.ensures, c.remove.ensures.len)

pub loop-at-preserved : goal.loop-at-preserved
loop-at-preserved g c = rw c.remove.ensures.items
    (dropped_next (CalledAtPair g.F.FnMut) (TakesPair g.F.FnMut) c.args.f c.args.self.now c.loop-at.invariant c.index_mut.result.now
    (omega (arith, c.loop-at-test.true, c.len.ensures, c.loop-at.self-inside.entries.ok.0)) c.index_mut.ensures.value
    c.asks.new.entry c.asks.ensures.same_key c.asks.new.f (rw c.if-asks.false at c.asks.ensures.called))

pub returns-clause-filtered : goal.returns-clause-filtered
returns-clause-filtered g c =
    ended (CalledAtPair g.F.FnMut) (TakesPair g.F.FnMut) c.args.f c.args.self.now c.loop-at.invariant
    (omega (arith, c.loop-at-test.false, c.len.ensures, c.loop-at.self-inside.entries.ok.0))

pub returns-clause-in_order : goal.returns-clause-in_order
returns-clause-in_order g c = (
  subst (IsOrdered g.K.Ord.cmp) c.self.view_is c.self.invariant,
  kept_ordered (CalledAtPair g.F.FnMut) g.K.Ord.cmp c.args.f c.args.self.now _
      (ended (CalledAtPair g.F.FnMut) (TakesPair g.F.FnMut) c.args.f c.args.self.now c.loop-at.invariant
      (omega (arith, c.loop-at-test.false, c.len.ensures, c.loop-at.self-inside.entries.ok.0)))
      (subst (IsOrdered g.K.Ord.cmp) c.self.view_is c.self.invariant),
)
