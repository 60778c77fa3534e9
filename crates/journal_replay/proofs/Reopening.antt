-- New disks, and what a journal gives that is opened again.
use Rattle.std.proofs.Common.{◌≡◌, ◌≢◌, ⊎_elim, ℕ, zero, suc, get_or, ◌+◌, ◌<◌, ◌≤◌, ◌==◌, Bool, true, false, List, [], length, refl, sym, ◌∙◌, ap, subst, if◌then◌else◌, arith}
use Rattle.std.specs.Prelude.{Option, Some, None, IfSome, replicate, slice_get, slice_index, slice_set}
use Rattle.std.proofs.lemmas.Bool.Decides.{nat_tests}
use Rattle.std.proofs.lemmas.List.{length-replicate, length-set}
use Rattle.std.proofs.lemmas.Option.{slice_get_cases}
use Rattle.std.specs.List.{last_or}
use Rattle.house_journal.specs.MemoryDisks.{MemState, left_now}
use Rattle.house_journal.specs.JournalRecords.{IsOpenable, gate_of, images, images_after, last_image, octets_after}
use Rattle.house_journal.specs.Restarts.{CanBeOpened}
use Rattle.house_journal.specs.Faults.{JournalState}
use Rattle.disk_journals.specs.KeptJournals.{Holds, IsKept, IsNew, IsOpen}
use Rattle.disk_journals.specs.declared.kept.KeptHouse.{KeptHouse}
use Rattle.cell_model.specs.Cells.{Cell, empty_cell}
use Rattle.script_answers.specs.declared.answer.Answer.TheVariants as answer
use Rattle.script_answers.specs.declared.answer.ScriptRefusal.TheVariants as why
use Rattle.cds_cell.specs.CommandImages.{octets_at}
use Rattle.cds_cell.specs.ModelCells.{Stands}
use Rattle.script_replay.specs.Replies.{asked_of}
use Rattle.journal_replay.specs.declared.keeper.Keeper.{Keeper}
use Rattle.journal_replay.specs.CellJournals.{JournaledCell, Lists, empty_state}
use Rattle.journal_replay.specs.CellDisks.{AreKept, AreNew, GiveImages, HoldAll, disk_count, image_in}
use Rattle.journal_replay.specs.Keeping.{StandsKeeper}
use Rattle.journal_replay.specs.PrivateJournals.{IsGiven}
use Rattle.journal_replay.proofs.Giving.{made_of_image, unmade_of_none}
use Rattle.journal_replay.proofs.OneHouse.{get_is, hold_then, holds_reads, set_here, set_other}
use Rattle.journal_replay.proofs.Putting.{each_some}

-- ---- new disks

-- each place of a list of nothings has nothing
none_at : {A : Type 0} (n i : ℕ) (P : Option A → Type 0) → P None → IfSome (slice_get (replicate n None) i) P
none_at zero i P none = tt
none_at (suc n) zero P none = none
none_at (suc n) (suc i) P none = none_at n i P none

pub new_kept : (n : ℕ) (houses : List (Option KeptHouse)) (disks : List MemState) → n ≡ disk_count → houses ≡ replicate n None → AreNew disks
    → AreKept houses disks
new_kept n houses disks count none new = record {
  all_houses = ap length none ∙ length-replicate n None ∙ count;
  all_disks = new.count;
  each = λ i. subst (λ (hs : List (Option KeptHouse)). IfSome (slice_get hs i) (λ h. IfSome (slice_get disks i) (IsKept h))) (sym none)
      (none_at n i (λ h. IfSome (slice_get disks i) (IsKept h)) (new.each i));
}

-- a new disk has no image, whatever a crash leaves
pub new_holds : (m : MemState) → IsNew m → Holds m []
unfolding images_after octets_after
new_holds m new c left =
    let now : left_now m.steps [] c = subst (λ o. left_now m.steps o c) new.octets left in
    let empty : c ≡ [] = subst (λ s. left_now s [] c) new.steps now in
    subst (λ (c : List ℕ). (images c ≡ []) × IsOpenable c) (sym empty) (refl, record { clean = λ one. omega arith; small = omega arith })

pub new_stand : (k : Keeper) → Stands k.replayer.cell empty_cell → AreNew k.disks.items → StandsKeeper k empty_state
new_stand k cell new = record {
  cell = cell;
  disks = λ i. each_some (slice_get k.disks.items i) IsNew (λ m. Holds m []) new_holds (new.each i);
  gives = λ i within. refl;
}

-- a new disk has no last image
pub none_there : (m : MemState) → IsNew m → None ≡ last_image m.octets
unfolding images_after
none_there m new = ap (λ (l : List ℕ). last_image l) (sym new.octets)

-- a journal that is open can be opened again
pub open_can : (j : JournalState) (m : MemState) → IsOpen j m → CanBeOpened m
open_can j m open' c left =
    let same = open'.synced c left in
    let closed : slice_index m.octets (gate_of m.octets) ≡ 0 = ap (slice_index m.octets) (sym open'.rest.gate) ∙ open'.rest.closed in
    subst IsOpenable (sym same) (record { clean = λ one. absurd (let e = sym closed ∙ one in cc); small = open'.small })

-- ---- a journal that is opened again

-- the journal of a house is open on its disk, or its disk is new
pub kept_there : (houses : List (Option KeptHouse)) (disks : List MemState) (at : ℕ) (h : Option KeptHouse) (m : MemState) → AreKept houses disks
    → at < disk_count → h ≡ get_or houses at h → m ≡ get_or disks at m → IsKept h m
kept_there houses disks at h m kept within house disk =
    let first = get_is houses at h (omega (arith, within, kept.all_houses)) house in
    let second = get_is disks at m (omega (arith, within, kept.all_disks)) disk in
    let all = kept.each at in
    rw (first, second) at all

pub open_there : (houses : List (Option KeptHouse)) (disks : List MemState) (at : ℕ) (h : Option KeptHouse) (k : KeptHouse) (m : MemState)
    → AreKept houses disks → at < disk_count → h ≡ get_or houses at h → h ≡ Some k → m ≡ get_or disks at m → IsKept (Some k) m
open_there houses disks at h k m kept within house is disk = subst (λ o. IsKept o m) is (kept_there houses disks at h m kept within house disk)

-- all disks hold what they held
pub opened_hold : (disks : List MemState) (at : ℕ) (before after : MemState) → length disks ≡ disk_count → at < disk_count → before ≡ get_or disks at before
    → ((list : List (List ℕ)) → Holds before list → Holds after list) → (lists : Lists) → HoldAll disks lists → HoldAll (slice_set disks at after) lists
opened_hold disks at before after count few disk crash lists hold =
    let within : at < length disks = omega (arith, few, count) in
    let there = get_is disks at before within disk in
    let all = hold at in
    let now : Holds before (lists (at + 1)) = rw there at all in
    hold_then disks (slice_set disks at after) at after (set_here disks at after within) (λ i other. set_other disks at after i other) lists lists hold
    (crash (lists (at + 1)) now) (λ i other. refl)

-- all journals are kept
pub opened_kept : (houses : List (Option KeptHouse)) (disks : List MemState) (at : ℕ) (h : Option KeptHouse) (m : MemState) → AreKept houses disks
    → at < disk_count → IsKept h m → AreKept (slice_set houses at h) (slice_set disks at m)
opened_kept houses disks at h m kept within here = record {
  all_houses = length-set houses at h ∙ kept.all_houses;
  all_disks = length-set disks at m ∙ kept.all_disks;
  each = λ i. by_same i (i == at) refl;
}
  where
    first : slice_get (slice_set houses at h) at ≡ Some h
    first = set_here houses at h (omega (arith, within, kept.all_houses))

    second : slice_get (slice_set disks at m) at ≡ Some m
    second = set_here disks at m (omega (arith, within, kept.all_disks))

    by_same : (i : ℕ) (b : Bool) → (i == at) ≡ b
        → IfSome (slice_get (slice_set houses at h) i) (λ h. IfSome (slice_get (slice_set disks at m) i) (IsKept h))
    by_same i true e =
        let same : i ≡ at = grind (arith, nat_tests) in
        subst (λ j. IfSome (slice_get (slice_set houses at h) j) (λ h. IfSome (slice_get (slice_set disks at m) j) (IsKept h))) (sym same) (rw (first, second) here)
    by_same i false e =
        let other : i ≢ at = grind (arith, nat_tests) in
        rw (set_other houses at h i other, set_other disks at m i other) (kept.each i)

-- the last image of a journal is that of its house
pub given : (s : JournaledCell) (h at : ℕ) (disks : List MemState) (m : MemState) (o : Option (List ℕ)) → h ≡ at + 1 → length disks ≡ disk_count
    → at < disk_count → m ≡ get_or disks at m → HoldAll disks s.lists → GiveImages s → o ≡ last_image m.octets → IsGiven o s.cell h
given s h at disks m o house count few disk hold gives is =
    let there = get_is disks at m (omega (arith, few, count)) disk in
    let all = hold at in
    let now : Holds m (s.lists (at + 1)) = rw there at all in
    by_image o (is ∙ ap (last_or None) (holds_reads m (s.lists (at + 1)) now) ∙ gives at few ∙ ap (image_in s.cell) (sym house))
  where
    by_image : (o : Option (List ℕ)) → o ≡ image_in s.cell h → IsGiven o s.cell h
    by_image (Some octets) is = let made = made_of_image s.cell h octets (sym is) in (sym made.1, made.0)
    by_image None is = λ first. unmade_of_none s.cell h (sym is)

-- a house without a journal has a new disk
pub new_there : (houses : List (Option KeptHouse)) (disks : List MemState) (at : ℕ) (h : Option KeptHouse) → AreKept houses disks
    → at < disk_count → h ≡ get_or houses at h → h ≡ None → (m : MemState) × (m ≡ get_or disks at m) × IsNew m
new_there houses disks at h kept within house is =
    ⊎_elim
    (λ w. (w.0, sym w.3, subst (λ o. IsKept o w.0) is (kept_there houses disks at h w.0 kept within house (sym w.3))))
    (λ w. absurd (omega (arith, w.0, within, kept.all_disks)))
    (slice_get_cases disks at).1

-- the answer to the question for the image
pub image_answer : (o : List ℕ) (g : Cell) (h : ℕ) → IsGiven (Some o) g h → answer.Octets o ≡ asked_of g h (answer.Octets (octets_at g h))
image_answer o g h given =
    ap (λ (i : List ℕ). answer.Octets i) given.0 ∙ sym (ap (λ (b : Bool). if b then answer.Octets (octets_at g h) else answer.Refused why.NoHouse) given.1)

pub no_image_answer : (g : Cell) (h : ℕ) → 1 ≤ h → IsGiven None g h → answer.Refused why.NoHouse ≡ asked_of g h (answer.Octets (octets_at g h))
no_image_answer g h first given =
    sym (ap (λ (b : Bool). if b then answer.Octets (octets_at g h) else answer.Refused why.NoHouse) (given first))
