use Rattle.std.proofs.Common.{◌≡◌, ◌≤◌, arith, ℕ, List, length, take, drop, false, sym, ◌∙◌, ap, subst}
use Rattle.house_journal.specs.declared.step.Step.{Step}
use Rattle.house_journal.specs.Disks.{with_piece}
use Rattle.house_journal.specs.MemoryDisks.{write_of, FitsStep, before_step}
use Rattle.house_journal.proofs.MemoryCalls.{fits_write}
use Rattle.house_journal.proofs.MemorySteps.{fits_more}
use Rattle.house_journal.proofs.Ticking.{before_write}
use Rattle.std.proofs.lemmas.Grind.{common_steps}
use Rattle.house_journal.proofs.memory.MemDisk.note_write.Goals as goal

pub invariant_of-self-in-Ok : goal.invariant_of-self-in-Ok
invariant_of-self-in-Ok c =
    let file = c.self.inside.octets.items in
    let at = c.args.at in
    let piece = c.args.piece.now in
    let s : Step = record { cuts = false; at = at; len = length piece; gone = c.in_ok-gone.gone; synced = false } in
    let gone : c.in_ok-gone.gone ≡ take (length piece) (drop at file) = grind (arith, common_steps) in
    let is : write_of at piece file ≡ s =
    ap (λ (l : List ℕ). record { cuts = false; at = at; len = length piece; gone = l; synced = false }) (sym gone) in
    let within : at ≤ length file = grind (arith, common_steps) in
    let new = c.overwrite.new.octets.items in
    let wrote : new ≡ with_piece file at piece = c.in-Ok.ensures.ok in
    let step = subst (λ (f : List ℕ). FitsStep (write_of at piece file) f) (sym wrote) (fits_write at piece file within) in
    let back = ap (before_step (write_of at piece file)) wrote ∙ before_write at piece file within in
    rw c.in_ok-push.ensures.items
    (fits_more c.self.inside.steps.items s file new (subst (λ (x : Step). FitsStep x new) is step) (subst (λ (x : Step). before_step x new ≡ file) is back) c.self.invariant)
