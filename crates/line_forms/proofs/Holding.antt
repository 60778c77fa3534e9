-- What holds of a form when a run over lines ends.
use Rattle.std.proofs.Common.{◌≡◌, ◌≢◌, ◌⊎◌, inl, inr, List, ℕ, sym, subst}
use Rattle.cds_base.specs.declared.scan.LineFault.{LineFault}
use Rattle.cds_base.specs.declared.scan.LineFault.TheVariants.{ReadFault as NotRead}
use Rattle.reply_buffer.specs.declared.replies.LineEnd.{LineEnd}
use Rattle.reply_buffer.specs.declared.replies.LineEnd.TheVariants as end
use Rattle.line_forms.specs.Endings.{Finishes, IsQueued, Side, StopsWith}
use Rattle.line_forms.specs.Leaving.{HoldsAt}
use Rattle.line_forms.specs.declared.endings.Status.{Status}
use Rattle.line_forms.specs.declared.endings.Status.TheVariants.{Ok as AllRead, Usage, BadInput, ReadFault, WriteFault, OutOfMemory, JournalFull}
use Rattle.line_forms.proofs.Turns.{is_read}

module _ (Holds : LineEnd → Type 0) where
  -- what waits goes out
  pub finish_holds : (e : LineEnd) (sink sink' : Side) (waits : List ℕ) (status result : Status) → HoldsAt Holds status → Holds e
      → Finishes sink sink' waits status result → HoldsAt Holds result
  finish_holds e sink sink' waits status result so holds (inl done) = subst (λ (r : Status). HoldsAt Holds r) (sym done.0) so
  finish_holds e sink sink' waits status result so holds (inr failed) = subst (λ (r : Status). HoldsAt Holds r) (sym failed.0) (e, holds)

  -- the same with a last text, where there was memory for it
  pub stop_holds : (sink sink' : Side) (status : Status) (text waited : List ℕ) (result : Status) → HoldsAt Holds status → Holds end.GoesOn
      → StopsWith sink sink' status text waited result → HoldsAt Holds result
  stop_holds sink sink' status text waited result so holds (mid, waits, queued, finishes) = by queued
    where
      by : IsQueued status text waited waits mid → HoldsAt Holds result
      by (inl is) = finish_holds end.GoesOn sink sink' waits mid result (subst (λ (r : Status). HoldsAt Holds r) (sym is.0) so) holds finishes
      by (inr is) = finish_holds end.GoesOn sink sink' waits mid result (subst (λ (r : Status). HoldsAt Holds r) (sym is.0) (inl holds)) holds finishes

  -- the run ends at a fault
  pub fault_holds : {P : Type 0} (sink sink' : Side) (fault : LineFault) (text waited : List ℕ) (result : Status) → Holds end.GoesOn
      → (fault ≡ NotRead → (result ≡ ReadFault) × P) → (fault ≢ NotRead → StopsWith sink sink' BadInput text waited result) → HoldsAt Holds result
  fault_holds sink sink' fault text waited result holds read other = by (is_read fault)
    where
      by : (fault ≡ NotRead) ⊎ (fault ≢ NotRead) → HoldsAt Holds result
      by (inl is) = subst (λ (r : Status). HoldsAt Holds r) (sym (read is).0) holds
      by (inr is) = stop_holds sink sink' BadInput text waited result (inl holds) holds (other is)

  -- what holds after each line, however it ended, holds when the run has ended
  pub always_holds : {P : Type 0} (status : Status) → ((e : LineEnd) → Holds e → P) → HoldsAt Holds status → P
  always_holds AllRead each at = each end.GoesOn at
  always_holds BadInput each (inl at) = each end.GoesOn at
  always_holds BadInput each (inr at) = each end.Stops at
  always_holds ReadFault each at = each end.GoesOn at
  always_holds WriteFault each at = each at.0 at.1
  always_holds OutOfMemory each (inl at) = each end.GoesOn at
  always_holds OutOfMemory each (inr at) = each end.NoMemory at
  always_holds JournalFull each at = each end.Full at
  always_holds Usage each at = absurd at
