use Rattle.std.proofs.Common.{Bool, sym, ◌∙◌, ap, subst, length}
use Rattle.std.specs.Prelude.{Some}
use Rattle.house_journal.specs.Disks.{Follows, Torn, Wrote, told_change}
use Rattle.house_journal.specs.MemoryDisks.{MemState, after_write_call, told_of, fails}
use Rattle.house_journal.proofs.MemoryCalls.{Leaves, Ticks, write_crash, write_time, write_told, write_stop, failed_is}
use Rattle.house_journal.proofs.memory.MemDiskDisk.write_at.Goals as goal

pub returns-in_err-count_call-clause-crash : goal.returns-in_err-count_call-clause-crash
returns-in_err-count_call-clause-crash c =
    let m : MemState = c.args.self.now in
    let piece = c.args.piece.now in
    subst (λ (n : MemState). Follows (Torn c.args.at (length piece)) (Leaves m) (Leaves n))
    (sym (c.count_call.ensures.counted ∙ ap after_write_call c.in_ok-note_write.ensures.ok)) (write_crash m c.args.at piece c.requires.start)

pub returns-clause-crash : goal.returns-clause-crash
returns-clause-crash c =
    let m : MemState = c.args.self.now in
    let piece = c.args.piece.now in
    subst (λ (n : MemState). Follows (Torn c.args.at (length piece)) (Leaves m) (Leaves n))
    (sym (c.count_call.ensures.counted ∙ ap after_write_call c.in_ok-note_write.ensures.ok)) (write_crash m c.args.at piece c.requires.start)

pub returns-in_err-count_call-clause-time : goal.returns-in_err-count_call-clause-time
returns-in_err-count_call-clause-time c =
    let m : MemState = c.args.self.now in
    subst (λ (n : MemState). Ticks m n)
    (sym (c.count_call.ensures.counted ∙ ap after_write_call c.in_ok-note_write.ensures.ok)) (write_time m c.args.at c.args.piece.now c.requires.start)

pub returns-clause-time : goal.returns-clause-time
returns-clause-time c =
    let m : MemState = c.args.self.now in
    subst (λ (n : MemState). Ticks m n)
    (sym (c.count_call.ensures.counted ∙ ap after_write_call c.in_ok-note_write.ensures.ok)) (write_time m c.args.at c.args.piece.now c.requires.start)

pub returns-in_err-count_call-clause-told : goal.returns-in_err-count_call-clause-told
returns-in_err-count_call-clause-told c done =
    let m : MemState = c.args.self.now in
    let at = c.args.at in
    let piece = c.args.piece.now in
    let mid = c.in_ok-note_write.ensures.ok in
    let stays = sym (ap (λ (n : MemState). n.stop) mid ∙ write_stop m at piece c.requires.start) in
    ap (λ (n : MemState). Some (told_of n)) (c.count_call.ensures.counted ∙ ap after_write_call mid)
    ∙ ap Some (write_told m at piece c.requires.start)
    ∙ ap (λ (b : Bool). Some (told_change (Wrote at piece) b (told_of m)))
    (ap fails stays ∙ c.in_err-count_call.ensures.err ∙ sym (failed_is c.from_residual-in_err-count_call.result c.from_residual-in_err-count_call.ensures.1))

pub returns-clause-told : goal.returns-clause-told
returns-clause-told c done =
    let m : MemState = c.args.self.now in
    let at = c.args.at in
    let piece = c.args.piece.now in
    let mid = c.in_ok-note_write.ensures.ok in
    let stays = sym (ap (λ (n : MemState). n.stop) mid ∙ write_stop m at piece c.requires.start) in
    ap (λ (n : MemState). Some (told_of n)) (c.count_call.ensures.counted ∙ ap after_write_call mid)
    ∙ ap Some (write_told m at piece c.requires.start)
    ∙ ap (λ (b : Bool). Some (told_change (Wrote at piece) b (told_of m))) (ap fails stays ∙ c.in_ok-count_call.ensures.ok)
