use Rattle.std.proofs.Common.{sym, ◌∙◌}
use Rattle.server_entries.specs.Exports.{object_goes}
use Rattle.server_entries.proofs.ListSteps.{passes_some}
use Rattle.server_entries.proofs.exports.objects_to_go.Goals as goal

pub returns-in_err-push-clause-none : goal.returns-in_err-push-clause-none
returns-in_err-push-clause-none c = λ none.
    absurd (passes_some (object_goes c.args.objects.now) c.args.held.now c.loop-value.value-index c.value-item.result c.loop-value-test.true c.value-item.is
    (sym c.object_goes.ensures ∙ c.if-object_goes.true) none)
