use Rattle.clerk_turns.specs.Asking.{name_ask}
use Rattle.clerk_turns.proofs.RootAsks.{asked_all, asking_more}
use Rattle.clerk_turns.proofs.clerk.Clerk.put_names.Goals as goal

pub loop-lack-init : goal.loop-lack-init
loop-lack-init c = λ more after rest. rw c.new-text.ensures.items rest

pub loop-lack-preserved : goal.loop-lack-preserved
loop-lack-preserved c =
    asking_more (name_ask c.args.high) c.args.lacks.now c.loop-lack.lack-index c.args.job c.args.self.now c.loop-lack.text.items c.loop-lack.self c.lack-item.result
    _ _ _ _ c.loop-lack-test.true c.lack-item.is
    c.loop-lack.invariant c.in_ok-asks.ensures c.deref.ensures.value c.in_ok-extend_from_slice.ensures.items

pub returns : goal.returns
returns c =
    asked_all (name_ask c.args.high) c.args.lacks.now c.loop-lack.lack-index c.args.job c.args.self.now c.loop-lack.text.items c.loop-lack.self
    c.loop-lack-test.false c.loop-lack.invariant
