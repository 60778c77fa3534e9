use Rattle.std.proofs.Common.{◌<◌, length, sym, ◌∙◌, ap, subst, arith, List}
use Rattle.house_journal.specs.declared.step.Step.{Step}
use Rattle.house_journal.specs.MemoryDisks.{Fits, noted_sync}
use Rattle.house_journal.proofs.MemorySteps.{fits_synced, synced_last}
use Rattle.std.proofs.lemmas.Grind.{common_steps}
use Rattle.house_journal.proofs.memory.MemDisk.note_sync.Goals as goal

pub invariant_of-self : goal.invariant_of-self
invariant_of-self c =
    let m = c.self.inside in
    let some : 0 < length m.steps.items = grind (arith, common_steps) in
    subst (λ (l : List Step). Fits l m.octets.items) (sym (synced_last m.steps.items _ c.index_mut.result.now some (omega arith) c.index_mut.ensures.value))
    (fits_synced _ _ c.self.invariant)

pub returns : goal.returns
returns c =
    let m = c.self.inside in
    let some : 0 < length m.steps.items = grind (arith, common_steps) in
    ap (λ (l : List Step). record { octets = m.octets.items; steps = l; calls = m.calls; faults = m.faults; stop = m.stop })
    (synced_last m.steps.items _ c.index_mut.result.now some (omega arith) c.index_mut.ensures.value)
    ∙ ap noted_sync c.self.view_is
