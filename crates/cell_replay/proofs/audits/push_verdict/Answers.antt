use Rattle.std.proofs.Common.{◌++◌, ◌∙◌, sym, ap, append_assoc}
use Rattle.std.specs.Prelude.{codes, decimal}
use Rattle.std.proofs.lemmas.Result.{on_ok_weaker}
use Rattle.cell_replay.specs.AuditTexts.{verdict_said}
use Rattle.cell_replay.proofs.audits.push_verdict.Goals as goal

pub returns-in_ok-extend_from_slice-in-NoReplica : goal.returns-in_ok-extend_from_slice-in-NoReplica
returns-in_ok-extend_from_slice-in-NoReplica c =
    on_ok_weaker c.push_number.result (λ is.
    is ∙ ap (λ l. l ++ decimal c.from.result) c.in_ok-extend_from_slice-in-NoReplica.ensures.items
    ∙ append_assoc c.args.line.now.items (codes "refused NoReplica ") (decimal c.from.result)
    ∙ ap (λ n. c.args.line.now.items ++ (codes "refused NoReplica " ++ decimal n)) c.from.ensures
    ∙ ap (λ v. c.args.line.now.items ++ verdict_said c.args.dir v) (sym c.in-NoReplica.is)) c.push_number.ensures.ok
