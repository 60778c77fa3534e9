use Rattle.std.proofs.Common.{sym, ◌∙◌}
use Rattle.std.specs.Option.{option_copied}
use Rattle.server_entries.specs.Exports.{tower_goes}
use Rattle.server_entries.proofs.ListSteps.{passes_some}
use Rattle.server_entries.proofs.exports.towers_to_go.Goals as goal

pub returns-in_err-push-clause-none : goal.returns-in_err-push-clause-none
returns-in_err-push-clause-none c = λ none.
    absurd (passes_some (tower_goes (option_copied c.args.interface)) c.args.towers.now c.loop-value.value-index c.value-item.result c.loop-value-test.true
    c.value-item.is (sym c.tower_goes.ensures ∙ c.if-tower_goes.true) none)
