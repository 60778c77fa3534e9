-- All disks are there, and none of them is set to stop.
use Rattle.std.proofs.Common.{◌≡◌, ◌≢◌, ℕ, ◌<◌, ◌==◌, Bool, true, false, List, refl, sym, ◌∙◌, subst, arith}
use Rattle.std.specs.Prelude.{Some, IfSome, slice_get, slice_set}
use Rattle.std.proofs.lemmas.Bool.Decides.{nat_tests}
use Rattle.std.proofs.lemmas.List.{length-set}
use Rattle.house_journal.specs.MemoryDisks.{MemState}
use Rattle.house_journal.specs.declared.step.Stop.TheVariants.{Never}
use Rattle.disk_journals.specs.KeptJournals.{IsNew}
use Rattle.journal_replay.specs.CellDisks.{AreNew, AreUsable, disk_count}
use Rattle.journal_replay.proofs.OneHouse.{set_here, set_other}
use Rattle.journal_replay.proofs.Putting.{each_some}

-- new disks
pub new_usable : (disks : List MemState) → AreNew disks → AreUsable disks
new_usable disks new = record {
  count = new.count;
  each = λ i. each_some (slice_get disks i) IsNew (λ m. m.stop ≡ Never) (λ m is. is.never) (new.each i);
}

-- one of them is another than before
pub set_usable : (disks : List MemState) (at : ℕ) (m : MemState) → at < disk_count → m.stop ≡ Never → AreUsable disks → AreUsable (slice_set disks at m)
set_usable disks at m within never usable = record {
  count = length-set disks at m ∙ usable.count;
  each = λ i. by_same i (i == at) refl;
}
  where
    first : slice_get (slice_set disks at m) at ≡ Some m
    first = set_here disks at m (omega (arith, within, usable.count))

    by_same : (i : ℕ) (b : Bool) → (i == at) ≡ b → IfSome (slice_get (slice_set disks at m) i) (λ d. d.stop ≡ Never)
    by_same i true e =
        let same : i ≡ at = grind (arith, nat_tests) in
        subst (λ (j : ℕ). IfSome (slice_get (slice_set disks at m) j) (λ d. d.stop ≡ Never)) (sym same) (rw first never)
    by_same i false e =
        let other : i ≢ at = grind (arith, nat_tests) in
        rw (set_other disks at m i other) (usable.each i)
