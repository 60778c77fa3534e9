use Rattle.std.proofs.Common.{◌≡◌, List, ℕ, subst, sym}
use Rattle.cds_explain.specs.Explained.{ExplainsFirst, ExplainsUpTo}
use Rattle.cds_explain.specs.declared.cause.Reason.{Reason}
use Rattle.cds_explain.proofs.AddingLemmas.{was_fault}
use Rattle.cds_explain.proofs.ExplainerLemmas.{whole_first}
use Rattle.cds_explain.proofs.explanation.explain.Goals as goal

pub returns-in-Err-Fault-clause-reason : goal.returns-in-Err-Fault-clause-reason
returns-in-Err-Fault-clause-reason c = λ told is.
    let logs = c.args.logs.now in
    let reason = c.in-Err-Fault.reason in
    let text = c.run-ended.new.self.replay.text.items in
    let script : text ≡ c.into_script-script.result.items = cc (c.into_script-script.ensures) in
    let up_to = was_fault (λ (r : Reason). ExplainsUpTo text logs r) c.in-Err-Fault.field-0 reason c.in-Err-Fault.field-0-is c.in-Err-Fault.ensures.stopped in
    subst (λ (r : Reason). ExplainsUpTo c.into_script-script.result.items logs r) (sym (c.ending_of.ensures.reason told is))
    (subst (λ (t : List ℕ). ExplainsUpTo t logs reason) script up_to)

pub returns-in-Ok-clause-partly : goal.returns-in-Ok-clause-partly
returns-in-Ok-clause-partly c =
    let logs = c.args.logs.now in
    let text = c.run-ended.new.self.replay.text.items in
    let script : text ≡ c.into_script-script.result.items = cc (c.into_script-script.ensures) in
    subst (λ (t : List ℕ). ExplainsFirst t logs) script (whole_first text logs c.in-Ok.ensures.whole)
