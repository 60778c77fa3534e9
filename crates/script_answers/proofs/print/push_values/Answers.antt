use Rattle.std.proofs.Common.{[], ◌∷◌, ◌++◌, ◌∙◌, ap, append_assoc, length}
use Rattle.std.specs.Fmt.{decimal}
use Rattle.hex.specs.Hex.{encode_lower}
use Rattle.script_answers.proofs.Printing.{on_err, row_ends, row_goes_on, spaced_map, still_begins}
use Rattle.script_answers.proofs.print.push_values.Goals as goal

pub returns-in_err-push_hex-clause-err : goal.returns-in_err-push_hex-clause-err
returns-in_err-push_hex-clause-err c =
    on_err c.from_residual-in_err-push_hex.result
    (still_begins c.args.line.now.items _ c.push.new.self.items c.push_hex.new.line.items
    (c.in_ok-push.ensures.items ∙ ap (λ l. l ++ 32 ∷ []) c.loop-value.invariant ∙ append_assoc c.args.line.now.items _ (32 ∷ []))
    c.in_err-push_hex.ensures.err)

pub loop-value-preserved : goal.loop-value-preserved
loop-value-preserved c =
    row_goes_on (λ v. 32 ∷ encode_lower v) c.args.values.now c.loop-value.value-index c.value-item.result c.args.line.now.items
    (32 ∷ decimal (length c.args.values.now)) c.loop-value.line.items c.push_hex.new.line.items c.loop-value-test.true c.loop-value.invariant
    (c.in_ok-push_hex.ensures.ok
    ∙ ap (λ l. l ++ encode_lower c.octets.result.now) c.in_ok-push.ensures.items
    ∙ append_assoc c.loop-value.line.items (32 ∷ []) (encode_lower c.octets.result.now)
    ∙ ap (λ v. c.loop-value.line.items ++ 32 ∷ encode_lower v) (c.octets.ensures ∙ c.value-item.is))

pub returns-clause-ok : goal.returns-clause-ok
returns-clause-ok c =
    row_ends (λ v. 32 ∷ encode_lower v) c.args.values.now c.loop-value.value-index c.args.line.now.items
    (32 ∷ decimal (length c.args.values.now)) c.loop-value.line.items c.loop-value-test.false c.loop-value.invariant
    ∙ ap (λ l. c.args.line.now.items ++ ((32 ∷ decimal (length c.args.values.now)) ++ l)) (spaced_map encode_lower c.args.values.now)
