use Rattle.directory.specs.Updates.{change_of, Add}
use Rattle.server_entries.specs.Exports.{tower_added}
use Rattle.server_entries.proofs.ListSteps.{pushed_more}
use Rattle.server_entries.proofs.exports.push_towers.Goals as goal

pub loop-binding-preserved : goal.loop-binding-preserved
loop-binding-preserved c =
    pushed_more change_of (tower_added c.args.name.now c.args.interface.now) c.args.updates.now.items c.loop-binding.updates.items c.push.new.self.items _
    c.args.bindings.now
    c.loop-binding.binding-index c.binding-item.result c.loop-binding-test.true c.binding-item.is c.in_ok-push.ensures.items c.loop-binding.invariant
    (λ i. Add (c.in_ok-copy.ensures i) (c.in_ok-known.ensures i) (c.in_ok-value.ensures i))
