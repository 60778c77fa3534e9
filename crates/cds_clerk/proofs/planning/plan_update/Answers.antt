use Rattle.std.proofs.Common.{◌≡◌, false, sym, ap, ◌∙◌}
use Rattle.std.specs.Prelude.{Some, None}
use Rattle.cell_names.specs.ChildPointers.{Pointer}
use Rattle.resolver.specs.PassWords.{first_walker}
use Rattle.resolver.specs.Readers.{Reader}
use Rattle.resolver.specs.Walks.{Ends}
use Rattle.resolver.proofs.PassLaws.{if_ok}
use Rattle.cds_clerk.specs.declared.heard.Lack.{Lack}
use Rattle.cds_clerk.specs.Agreements.{Agrees, IsNeeded}
use Rattle.cds_clerk.specs.Heards.{IsUnheard, heard_root}
use Rattle.cds_clerk.specs.Plans.{update_at}
use Rattle.cds_clerk.proofs.HeardLaws.{end_is, if_ended}
use Rattle.cds_clerk.proofs.PlanLaws.{has_root, misses_none, same_plan}
use Rattle.cds_clerk.proofs.planning.plan_update.Goals as goal

pub returns-in-Ended-clause-done : goal.returns-in-Ended-clause-done
returns-in-Ended-clause-done c =
    let h = c.args.heard.now in
    let name = c.args.name.now in
    let done = if_ended c.in_ok-end.field-0 c.in-Ended.end (λ e. (r : Reader) → Agrees r h → Ends r false name e) c.in-Ended.is c.in_ok-end.ensures.done in
    if_ok c.update_at.result
    (λ x its. same_plan x _ _ (λ a is r agrees. is ∙ ap (update_at c.args.update.now) (sym (end_is r false name c.in-Ended.end (done r agrees)))) its)
    c.update_at.ensures.asked

pub returns-in-Ended-clause-asks : goal.returns-in-Ended-clause-asks
returns-in-Ended-clause-asks c = misses_none c.update_at.result (IsUnheard c.args.heard.now) c.update_at.ensures.known

pub returns-in-Ended-clause-needs : goal.returns-in-Ended-clause-needs
returns-in-Ended-clause-needs c =
    let h = c.args.heard.now in
    misses_none c.update_at.result (λ (q : Lack). (root : Pointer) → heard_root h.root ≡ Some (Some root) → IsNeeded h false (first_walker root c.args.name.now) q)
    c.update_at.ensures.known

pub returns-in-Ended-clause-root : goal.returns-in-Ended-clause-root
returns-in-Ended-clause-root c = has_root c.update_at.result (heard_root c.args.heard.now.root ≡ None) c.update_at.ensures.known
