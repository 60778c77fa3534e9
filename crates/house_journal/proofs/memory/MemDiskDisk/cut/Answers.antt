use Rattle.std.proofs.Common.{sym, ◌∙◌, ap, subst}
use Rattle.house_journal.specs.Disks.{Follows, CutBack}
use Rattle.house_journal.specs.MemoryDisks.{MemState, after_write_call}
use Rattle.house_journal.proofs.MemoryCalls.{Leaves, cut_crash}
use Rattle.house_journal.proofs.memory.MemDiskDisk.cut.Goals as goal

pub returns-in_err-count_call-clause-crash : goal.returns-in_err-count_call-clause-crash
returns-in_err-count_call-clause-crash c =
    let m : MemState = c.args.self.now in
    subst (λ (n : MemState). Follows (CutBack c.args.size) (Leaves m) (Leaves n))
    (sym (c.count_call.ensures.counted ∙ ap after_write_call c.in_ok-note_cut.ensures.ok)) (cut_crash m c.args.size)

pub returns-clause-crash : goal.returns-clause-crash
returns-clause-crash c =
    let m : MemState = c.args.self.now in
    subst (λ (n : MemState). Follows (CutBack c.args.size) (Leaves m) (Leaves n))
    (sym (c.count_call.ensures.counted ∙ ap after_write_call c.in_ok-note_cut.ensures.ok)) (cut_crash m c.args.size)
