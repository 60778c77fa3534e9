use Rattle.clerk_turns.specs.Asking.{root_ask}
use Rattle.clerk_turns.proofs.RootAsks.{asked_all, asking_at}
use Rattle.clerk_turns.proofs.clerk.Clerk.put_each.Goals as goal

pub loop-house-init : goal.loop-house-init
loop-house-init c = λ more after rest. rw c.new-text.ensures.items rest

pub loop-house-preserved : goal.loop-house-preserved
loop-house-preserved c =
    asking_at (root_ask 0) c.args.houses.now c.loop-house.house-index c.args.job c.args.self.now c.loop-house.text.items c.loop-house.self _
    _ _ _ _ c.loop-house-test.true c.loop-house.invariant c.in_ok-asks.ensures c.deref.ensures.value c.in_ok-extend_from_slice.ensures.items

pub returns : goal.returns
returns c =
    asked_all (root_ask 0) c.args.houses.now c.loop-house.house-index c.args.job c.args.self.now c.loop-house.text.items c.loop-house.self
    c.loop-house-test.false c.loop-house.invariant
