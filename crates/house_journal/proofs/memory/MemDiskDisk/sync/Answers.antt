use Rattle.std.proofs.Common.{sym, ◌∙◌, ap, subst}
use Rattle.house_journal.specs.MemoryDisks.{MemState, noted_sync}
use Rattle.house_journal.proofs.MemoryCalls.{Ticks}
use Rattle.house_journal.proofs.Ticking.{elapses_synced}
use Rattle.house_journal.proofs.memory.MemDiskDisk.sync.Goals as goal

pub returns-clause-time : goal.returns-clause-time
returns-clause-time c =
    let m : MemState = c.args.self.now in
    subst (λ (n : MemState). Ticks m n) (sym (c.note_sync.ensures ∙ ap noted_sync c.count_call.ensures.counted)) (elapses_synced m.steps m.octets)
