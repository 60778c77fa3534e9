-- The calls of a disk in memory: what a crash may leave after each, that time goes on, and what is
-- told.
use Rattle.std.proofs.Common.{◌≡◌, ⊎_elim, ℕ, zero, suc, ◌+◌, ◌≤◌, Bool, true, false, if◌then◌else◌, List, [], ◌∷◌, ◌++◌}
use Rattle.std.proofs.Common.{length, take, drop, refl, sym, ◌∙◌, ap, subst, arith, length-append, length-drop}
use Rattle.std.specs.Prelude.{Result, Ok, Err, IsErrAnd, is_err}
use Rattle.std.proofs.lemmas.List.{take_at, drop_at, length-take, length-take-le}
use Rattle.house_journal.specs.declared.disk.DiskError.{DiskError}
use Rattle.house_journal.specs.declared.disk.DiskError.TheVariants.{Failed, OutOfMemory}
use Rattle.cds_base.specs.Counts.{HasCause, next_count}
use Rattle.house_journal.specs.declared.step.Stop.{Stop}
use Rattle.house_journal.specs.declared.step.Stop.TheVariants.{Never, After, Stopped}
use Rattle.house_journal.specs.Disks.{Torn, CutBack, Follows, Elapses, Wrote, told_change, HasDiskCause, with_piece}
use Rattle.house_journal.specs.MemoryDisks.{MemState, FitsStep, write_of, cut_of, before_step, change_of, left_now, left_from, moment_of}
use Rattle.house_journal.specs.MemoryDisks.{noted_write, noted_cut, after_write_call, has_stopped, fails, told_of, synced_in, changes_in}
use Rattle.house_journal.specs.ClockProofs.{reads_left_lem}
use Rattle.house_journal.proofs.WholeSteps.{torn_whole, cut_whole}
use Rattle.house_journal.proofs.Ticking.{before_write, before_cut, elapses_step, elapses_none}

-- what a crash may leave of a disk
abbrev pub Leaves : MemState → List ℕ → Type 0
Leaves m c = left_now m.steps m.octets c

-- time goes on between two disks
abbrev pub Ticks : MemState → MemState → Type 0
Ticks m n =
    Elapses (moment_of m.steps) (moment_of n.steps) (λ t c. left_from t m.steps m.octets c) (λ t c. left_from t n.steps n.octets c) (Leaves n)

-- what does nothing is one of what a crash may make of a write, or of a cut
pub torn_none : (at n : ℕ) (c : List ℕ) → Torn at n c c
torn_none at n c = record { longer = omega arith; within = omega arith; stays = λ i lt outside. refl }

pub cut_none : (n : ℕ) (c : List ℕ) → CutBack n c c
cut_none n c = record { kept = omega arith; within = omega arith; stays = λ i lt in_new. refl }

-- a write
module _ (m : MemState) (at : ℕ) (piece : List ℕ) (start : at ≤ length m.octets) where
  abbrev after : MemState
  after = record m { octets = with_piece m.octets at piece; steps = write_of at piece m.octets ∷ m.steps }

  back : before_step (write_of at piece m.octets) (with_piece m.octets at piece) ≡ m.octets
  back = before_write at piece m.octets start

  pub write_crash : Follows (Torn at (length piece)) (Leaves m) (Leaves (noted_write at piece m))
  write_crash = by_stop (has_stopped m.stop)
    where
      by_stop : (b : Bool) → Follows (Torn at (length piece)) (Leaves m) (Leaves (if b then m else after))
      by_stop true c left = (c, left, torn_none at (length piece) c)
      by_stop false c left =
          ⊎_elim
          (λ is. (m.octets, reads_left_lem m.steps m.octets, subst (λ (f : List ℕ). Torn at (length piece) m.octets f) (sym is) (torn_whole at piece m.octets start)))
          (λ from. (from.0, subst (λ (f : List ℕ). left_now m.steps f from.0) back from.1, from.2))
          left

  pub write_time : Ticks m (noted_write at piece m)
  write_time = by_stop (has_stopped m.stop)
    where
      by_stop : (b : Bool) → Ticks m (if b then m else after)
      by_stop true = elapses_none m.steps m.octets
      by_stop false = elapses_step (write_of at piece m.octets) m.steps m.octets (with_piece m.octets at piece) refl back

  change : change_of (write_of at piece m.octets) (with_piece m.octets at piece) ≡ Wrote at piece
  change = ap (Wrote at) (ap (take (length piece)) (drop_at (take at m.octets) (piece ++ drop (at + length piece) m.octets) at (length-take-le at m.octets start))
      ∙ take_at piece (drop (at + length piece) m.octets) (length piece) refl)

  pub write_told : told_of (after_write_call (noted_write at piece m)) ≡ told_change (Wrote at piece) (fails m.stop) (told_of m)
  write_told = by_stop m.stop
    where
      by_stop : (p : Stop) → (let n : MemState = record m { stop = p } in
          told_of (after_write_call (noted_write at piece n)) ≡ told_change (Wrote at piece) (fails p) (told_of n))
      by_stop Never = λ i. record {
        synced = synced_in m.steps (back i);
        changes = changes_in m.steps (back i) ++ change i ∷ [];
        closed = false;
        calls = next_count m.calls;
        plan = (told_change (Wrote at piece) false (told_of (record m { stop = Never }))).plan;
      }
      by_stop (After zero leave) = λ i. record {
        synced = synced_in m.steps (back i);
        changes = changes_in m.steps (back i) ++ change i ∷ [];
        closed = true;
        calls = next_count m.calls;
        plan = (told_change (Wrote at piece) true (told_of (record m { stop = After zero leave }))).plan;
      }
      by_stop (After (suc left) leave) = λ i. record {
        synced = synced_in m.steps (back i);
        changes = changes_in m.steps (back i) ++ change i ∷ [];
        closed = false;
        calls = next_count m.calls;
        plan = (told_change (Wrote at piece) false (told_of (record m { stop = After (suc left) leave }))).plan;
      }
      by_stop (Stopped leave) = refl

  pub write_stop : (noted_write at piece m).stop ≡ m.stop
  write_stop = by_stop (has_stopped m.stop)
    where
      by_stop : (b : Bool) → (if b then m else after).stop ≡ m.stop
      by_stop true = refl
      by_stop false = refl

  pub write_faults : (noted_write at piece m).faults ≡ m.faults
  write_faults = by_stop (has_stopped m.stop)
    where
      by_stop : (b : Bool) → (if b then m else after).faults ≡ m.faults
      by_stop true = refl
      by_stop false = refl

-- a cut
module _ (m : MemState) (size : ℕ) where
  abbrev short : MemState
  short = record m { octets = take size m.octets; steps = cut_of size m.octets ∷ m.steps }

  pub cut_crash : Follows (CutBack size) (Leaves m) (Leaves (noted_cut size m))
  cut_crash = by_stop (has_stopped m.stop)
    where
      by_stop : (b : Bool) → Follows (CutBack size) (Leaves m) (Leaves (if b then m else short))
      by_stop true c left = (c, left, cut_none size c)
      by_stop false c left =
          ⊎_elim
          (λ is. (m.octets, reads_left_lem m.steps m.octets, subst (λ (f : List ℕ). CutBack size m.octets f) (sym is) (cut_whole size m.octets)))
          (λ from. (from.0, subst (λ (f : List ℕ). left_now m.steps f from.0) (before_cut size m.octets) from.1, from.2))
          left

  pub cut_faults : (noted_cut size m).faults ≡ m.faults
  cut_faults = by_stop (has_stopped m.stop)
    where
      by_stop : (b : Bool) → (if b then m else short).faults ≡ m.faults
      by_stop true = refl
      by_stop false = refl

-- a write fits the octets after it
pub fits_write : (at : ℕ) (piece file : List ℕ) → at ≤ length file → FitsStep (write_of at piece file) (with_piece file at piece)
fits_write at piece file within =
    let front = length-take-le at file within in
    let rest = length-drop (at + length piece) file in
    let inner = length-append piece (drop (at + length piece) file) in
    let whole = length-append (take at file) (piece ++ drop (at + length piece) file) in
    let gone = length-take (length piece) (drop at file) in
    let left = length-drop at file in
    record {
      within = omega (arith, front, inner, whole);
      cut = λ is. absurd (cc (is));
      replaced = λ is. omega (arith, gone);
      grown = λ is few. omega (arith, gone, left, few, front, rest, inner, whole);
    }

-- an error that a failure became is that failure
pub failed_is : (r : Result (Unit {0}) DiskError) → IsErrAnd r (λ e. e ≡ Failed) → is_err r ≡ true
failed_is (Ok x) is = absurd is
failed_is (Err e) is = refl

pub failed_cause : (before now : ℕ) (r : Result (Unit {0}) DiskError) → IsErrAnd r (λ e. e ≡ Failed)
    → {E : Type 0} (x : E) → (let failed : Result (Unit {0}) E = Err x in HasCause before now failed) → HasDiskCause before now r
failed_cause before now (Ok x) is e cause = absurd is
failed_cause before now (Err Failed) is e cause = (cause.later, cause.failed)
failed_cause before now (Err OutOfMemory) is e cause = absurd (cc (is))
