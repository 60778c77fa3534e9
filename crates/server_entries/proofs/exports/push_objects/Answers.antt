use Rattle.directory.specs.Updates.{change_of, Add}
use Rattle.server_entries.specs.Exports.{object_added}
use Rattle.server_entries.proofs.ListSteps.{pushed_more}
use Rattle.server_entries.proofs.exports.push_objects.Goals as goal

pub loop-object-preserved : goal.loop-object-preserved
loop-object-preserved c =
    pushed_more change_of (object_added c.args.name.now) c.args.updates.now.items c.loop-object.updates.items c.push.new.self.items _ c.args.objects.now
    c.loop-object.object-index c.object-item.result c.loop-object-test.true c.object-item.is c.in_ok-push.ensures.items c.loop-object.invariant
    (λ i. Add (c.in_ok-copy.ensures i) (c.in_ok-known.ensures i) (c.in_ok-value.ensures i))
