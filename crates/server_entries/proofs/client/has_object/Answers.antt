use Rattle.std.proofs.Common.{sym, ap, ap₂, ◌∙◌}
use Rattle.std.specs.Str.{bytes_eq}
use Rattle.std.proofs.lemmas.List.Folds.{list_any_at}
use Rattle.server_entries.proofs.ListSteps.{list_any_seen}
use Rattle.server_entries.proofs.client.has_object.Goals as goal

pub returns-then-eq : goal.returns-then-eq
returns-then-eq c =
    let object = c.args.object.now in
    let value = c.value-item.result in
    let held = c.args.held.now in
    let one = ap (λ b. bytes_eq b.now object) (sym c.value-item.is)
    ∙ ap₂ bytes_eq (sym c.octets.ensures) (sym (c.as_slice.ensures ∙ c.as_bytes.ensures)) ∙ sym c.eq.ensures ∙ c.if-eq.true in
    sym (list_any_seen (λ v. bytes_eq v object) (λ v. v.now) held
    ∙ list_any_at (λ v. bytes_eq v.now object) held c.loop-value.value-index value c.loop-value-test.true one)
