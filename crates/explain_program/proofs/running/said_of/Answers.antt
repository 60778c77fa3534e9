use Rattle.std.proofs.Common.{List, sym, subst}
use Rattle.house_logs.specs.declared.log.HouseLog.{HouseLog}
use Rattle.explain_program.specs.declared.told.PlacedFault.{PlacedFault}
use Rattle.explain_program.specs.Folders.{IsEvidence}
use Rattle.explain_program.proofs.RunLemmas.{ok_then, said_told}
use Rattle.explain_program.proofs.running.said_of.Goals as goal

pub returns : goal.returns
returns c =
    let fs = c.args.folders.now in
    let logs = c.deref.result.now in
    let faults = c.deref-2.result.now in
    ok_then c.told_of.result
    (λ t told. said_told fs logs faults c.in_ok-explanation.explanation t
    (subst (λ (l : List HouseLog). IsEvidence fs l faults) (sym c.deref.ensures.value)
    (subst (λ (f : List PlacedFault). IsEvidence fs c.in_ok-evidence.evidence.logs.items f) (sym c.deref-2.ensures.value) c.in_ok-evidence.ensures))
    told c.in_ok-explanation.ensures.sound c.in_ok-explanation.ensures.partly c.in_ok-explanation.ensures.reason)
    c.told_of.ensures
