use Rattle.std.proofs.Common.{cond, eqb, length, ap, sym, ◌∙◌}
use Rattle.std.specs.Prelude.{Some}
use Rattle.server_entries.specs.Clients.{lesser}
use Rattle.server_entries.proofs.LeastLaws.{least_more}
use Rattle.server_entries.proofs.client.least_object.Goals as goal

pub loop-value-preserved : goal.loop-value-preserved
loop-value-preserved c =
    let value = c.value-item.result in
    let v = value.now in
    c.least_with-least.ensures ∙ ap (λ o. cond (eqb (length v) 16) (Some (lesser v o)) o) c.loop-value.invariant
    ∙ sym (least_more (λ b. b.now) c.args.held.now c.loop-value.value-index value c.loop-value-test.true c.value-item.is)
