-- What a put leaves that is stopped at one of its calls.
use Rattle.std.proofs.Common.{◌≡◌, ℕ, zero, suc, ◌+◌, ◌-◌, ◌/◌, ◌<◌, ◌≤◌, ◌^◌, Bool, true, false, List, [], ◌∷◌, ◌++◌, length, take, drop, replicate, refl, sym, ◌∙◌, ap, if◌then◌else◌, arith, append_assoc, length-append, add-zero}
use Rattle.std.proofs.lemmas.List.{append-nil, take_at, take-append-drop}
use Rattle.house_journal.specs.Disks.{Change, Plan, Stops, Stopped, Told, Wrote, with_piece}
use Rattle.house_journal.specs.Disks as plans
use Rattle.house_journal.specs.MemoryDisks.{before_step, change_of, changes_in, plan_of, synced_in}
use Rattle.house_journal.specs.JournalRecords.{IsAtRest, IsRecordOf, images}
use Rattle.house_journal.specs.Restarts.{filled_to, left_by}
use Rattle.house_journal.specs.Tellings.{told_failed, put_calls}
use Rattle.house_journal.specs.declared.leave.Leave.{Leave}
use Rattle.house_journal.specs.declared.leave.Leave.TheVariants.{Keep, Drop, Torn}
use Rattle.house_journal.specs.declared.step.Step.{Step}
use Rattle.house_journal.specs.declared.step.Stop.{Stop}
use Rattle.house_journal.specs.declared.step.Stop.TheVariants as stop
use Rattle.house_journal.proofs.Records.{Rests, closed_images, joined, rests}
use Rattle.house_journal.proofs.Appending.{done_images, first_done, second_done, staged_size}
use Rattle.disk_journals.specs.KeptJournals.{stops_after}

module _ (file : List ℕ) (place : ℕ) (rest : IsAtRest file place) (image octets : List ℕ) (is : IsRecordOf image octets) (room : place + length octets ≤ 2 ^ 40) where
  r : Rests file place
  r = rests file place rest

  -- whatever is after the closed gate
  shut_images : (x c : List ℕ) → c ≡ joined r.records ++ 0 ∷ x → images c ≡ images file
  shut_images x c c_is = ap images c_is ∙ closed_images r.records r.are 0 x (λ e. cc (e)) ∙ sym r.images

  -- a write after the closed gate
  written_behind : (z piece : List ℕ) → (x : List ℕ) × (with_piece (file ++ z) (place + 1) piece ≡ joined r.records ++ 0 ∷ x)
  written_behind z piece =
      let x = piece ++ drop (place + 1 + length piece) (file ++ z) in
      (x, ap (λ (l : List ℕ). l ++ x) (take_at file z (place + 1) rest.last) ∙ ap (λ (l : List ℕ). l ++ x) r.split ∙ append_assoc (joined r.records) (0 ∷ []) x)

  -- in the first two calls: the images of before
  pub stopped_early : (leave : Leave) → images (left_by leave file (Wrote (place + 1) (drop 1 octets) ∷ [])) ≡ images file
  stopped_early Keep =
      let w = written_behind [] (drop 1 octets) in
      shut_images w.0 _ (ap (λ (l : List ℕ). with_piece l (place + 1) (drop 1 octets)) (sym (append-nil file)) ∙ w.1)
  stopped_early Drop = refl
  stopped_early Torn =
      let w = written_behind (replicate (place + 1 + length (drop 1 octets) - length file) 255) (take (length (drop 1 octets) / 2) (drop 1 octets)) in
      shut_images w.0 _ w.1

  one_gate : take 1 octets ≡ 1 ∷ []
  one_gate = ap (take 1) is.split

  abbrev after_first : List ℕ
  after_first = with_piece file (place + 1) (drop 1 octets)

  shut_first : images after_first ≡ images file
  shut_first = stopped_early Keep

  no_filling : filled_to (place + 1) after_first ≡ after_first
  no_filling =
      let size : length after_first ≡ place + 1 + length (drop 1 octets) =
      ap length (first_done file place rest image octets is room) ∙ staged_size file place rest image octets is room in
      let none : place + 1 - length after_first ≡ 0 = omega (arith, size) in
      ap (λ (n : ℕ). after_first ++ replicate n 255) none ∙ append-nil after_first

  -- in the last two: the new one too, where the gate is kept
  pub stopped_late : (leave : Leave) → images (left_by leave after_first (Wrote place (take 1 octets) ∷ []))
      ≡ (if stops_after 3 leave then images file ++ image ∷ [] else images file)
  stopped_late Keep =
      ap (λ (l : List ℕ). images (with_piece after_first place l)) one_gate
      ∙ ap (λ (l : List ℕ). images (with_piece l place (1 ∷ []))) (first_done file place rest image octets is room)
      ∙ ap images (second_done file place rest image octets is room) ∙ done_images file place rest image octets is room
  stopped_late Drop = shut_first
  stopped_late Torn =
      ap (λ (l : List ℕ). images (with_piece (filled_to (place + length l) after_first) place (take (length l / 2) l))) one_gate
      ∙ ap (λ (l : List ℕ). images (with_piece l place [])) no_filling
      ∙ ap images nothing ∙ shut_first
    where
      nothing : with_piece after_first place [] ≡ after_first
      nothing = ap (λ (n : ℕ). take place after_first ++ drop n after_first) (add-zero place) ∙ take-append-drop place after_first

-- ---- what a disk tells

-- where nothing was written since the last sync, the octets are those of then
pub synced_all : (steps : List Step) (file : List ℕ) → changes_in steps file ≡ [] → synced_in steps file ≡ file
synced_all [] file none = refl
synced_all (s ∷ earlier) file none = by_synced s.synced none
  where
    by_synced : (b : Bool) → (if b then [] else changes_in earlier (before_step s file) ++ change_of s file ∷ []) ≡ []
        → (if b then file else synced_in earlier (before_step s file)) ≡ file
    by_synced true none = refl
    by_synced false none = absurd (let size = ap length none ∙ refl in let sum = length-append (changes_in earlier (before_step s file)) (change_of s file ∷ []) in omega (arith, size, sum))

-- a disk that stops so has this plan
pub stop_is : (s : Stop) (leave : Leave) → plan_of s ≡ Stopped leave → s ≡ stop.Stopped leave
stop_is stop.Never leave is = absurd (cc)
stop_is (stop.After left l) leave is = absurd (cc)
stop_is (stop.Stopped l) leave is = cc

pub never_is : (s : Stop) → plan_of s ≡ plans.Never → s ≡ stop.Never
never_is stop.Never is = refl
never_is (stop.After left l) is = absurd (cc)
never_is (stop.Stopped l) is = absurd (cc)

-- the plan of a disk that failed at the call at which it stops
pub failed_plan : (place : ℕ) (octets file : List ℕ) (t : Told) (k : ℕ) (leave : Leave) → k < 4 → t.plan ≡ Stops k leave
    → (told_failed k (put_calls place octets) file t).plan ≡ Stopped leave
failed_plan place octets file t zero leave few is = ap plans.plan_after is
failed_plan place octets file t (suc zero) leave few is = ap (λ p. plans.plan_after (plans.plan_after p)) is
failed_plan place octets file t (suc (suc zero)) leave few is = ap (λ p. plans.plan_after (plans.plan_after (plans.plan_after p))) is
failed_plan place octets file t (suc (suc (suc zero))) leave few is = ap (λ p. plans.plan_after (plans.plan_after (plans.plan_after (plans.plan_after p)))) is
failed_plan place octets file t (suc (suc (suc (suc k)))) leave few is = absurd (omega (arith, few))
