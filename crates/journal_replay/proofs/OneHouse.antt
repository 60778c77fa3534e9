-- One house puts its image: the journals and the disks after that.
use Rattle.std.proofs.Common.{◌≡◌, ◌≢◌, inl, inr, ⊎_elim, ℕ, zero, suc, length, get_or, ◌+◌, ◌^◌, ◌<◌, ◌≤◌, ◌==◌, Bool, true, false, ◌||◌, ◌&&◌, not, List, [], ◌∷◌, ◌++◌, refl, sym, ◌∙◌, ap, subst, if◌then◌else◌, arith}
use Rattle.std.specs.Prelude.{Option, Some, None, Result, Ok, Err, IfSome, OnOk, nat_lt, slice_get, slice_set}
use Rattle.std.proofs.lemmas.Bool.Decides.{nat_tests}
use Rattle.house_journal.specs.ClockProofs.{reads_left_lem}
use Rattle.house_journal.specs.MemoryDisks.{MemState, left_now}
use Rattle.house_journal.specs.JournalRecords.{IsOpenable, images}
use Rattle.cell_model.specs.Cells.{Cell}
use Rattle.cell_model.specs.Sets.{has}
use Rattle.cell_model.proofs.Views.{put_other, put_same}
use Rattle.cds_cell.proofs.Vecs.{written}
use Rattle.cds_cell.specs.CommandImages.{octets_at}
use Rattle.disk_journals.specs.KeptJournals.{Holds, HoldsEither, IsKept, is_last, noted_image, size_of}
use Rattle.disk_journals.specs.declared.faults.Unkept.{Unkept}
use Rattle.disk_journals.specs.declared.faults.Unkept.TheVariants.{Full, OutOfMemory}
use Rattle.disk_journals.specs.declared.kept.KeptHouse.{KeptHouse}
use Rattle.disk_journals.proofs.Lasts.{noted_last, noted_new}
use Rattle.journal_replay.specs.CellJournals.{Lists, Put, has_to_put, lacks_room, puts_of, with_put}
use Rattle.journal_replay.specs.CellDisks.{ArePutting, HoldAll, HoldBut}
use Rattle.journal_replay.specs.PrivateJournals.{PutsAll}
use Rattle.journal_replay.proofs.Putting.{each_some, the_put}

-- what is read of a disk is what it holds
pub holds_reads : (m : MemState) (list : List (List ℕ)) → Holds m list → images m.octets ≡ list
holds_reads m list holds = (holds m.octets (reads_left_lem m.steps m.octets)).0

-- a disk that is kept leaves what is read of it
kept_synced : (o : Option KeptHouse) (m : MemState) → IsKept o m → (c : List ℕ) → left_now m.steps m.octets c → c ≡ m.octets
kept_synced None m new c left = let now = subst (λ s. left_now s m.octets c) new.steps left in now
kept_synced (Some k) m kept c left = kept.0.synced c left

-- so it holds that
pub kept_holds : (o : Option KeptHouse) (m : MemState) (list other : List (List ℕ)) → IsKept o m → HoldsEither m list other → Holds m (images m.octets)
kept_holds o m list other kept either c left =
    let same = kept_synced o m kept c left in
    (ap images same, subst IsOpenable (sym same) (either m.octets (reads_left_lem m.steps m.octets)).1)

-- ---- a list in which one place is another

pub set_here : {A : Type 0} (xs : List A) (i : ℕ) (x : A) → i < length xs → slice_get (slice_set xs i x) i ≡ Some x
set_here xs i x within = written xs i x within

pub get_is : {A : Type 0} (xs : List A) (i : ℕ) (x : A) → i < length xs → x ≡ get_or xs i x → slice_get xs i ≡ Some x
get_is [] i x within is = absurd (omega (arith, within))
get_is (y ∷ ys) zero x within is = ap Some (sym is)
get_is (y ∷ ys) (suc i) x within is = get_is ys i x (omega (arith, within)) is

pub set_other : {A : Type 0} (xs : List A) (i : ℕ) (x : A) (j : ℕ) → j ≢ i → slice_get (slice_set xs i x) j ≡ slice_get xs j
set_other [] i x j other = refl
set_other (y ∷ ys) zero x zero other = absurd (other refl)
set_other (y ∷ ys) zero x (suc j) other = refl
set_other (y ∷ ys) (suc i) x zero other = refl
set_other (y ∷ ys) (suc i) x (suc j) other = set_other ys i x j (λ same. other (ap suc same))

-- ---- all disks, where one is another than before

module _ (old new : List MemState) (at : ℕ) (m : MemState) (here : slice_get new at ≡ Some m) (others : (i : ℕ) → i ≢ at → slice_get new i ≡ slice_get old i) where
  by_place : (P : ℕ → Option MemState → Type 0) → P at (Some m) → ((i : ℕ) → i ≢ at → P i (slice_get old i)) → (i : ℕ) → P i (slice_get new i)
  by_place P now there i = by_same (i == at) refl
    where
      by_same : (b : Bool) → (i == at) ≡ b → P i (slice_get new i)
      by_same true e = let same : i ≡ at = grind (arith, nat_tests) in subst (λ j. P j (slice_get new j)) (sym same) (subst (P at) (sym here) now)
      by_same false e = let other : i ≢ at = grind (arith, nat_tests) in subst (P i) (sym (others i other)) (there i other)

  pub hold_then : (lists lists' : Lists) → HoldAll old lists → Holds m (lists' (at + 1)) → ((i : ℕ) → i ≢ at → lists' (i + 1) ≡ lists (i + 1)) → HoldAll new lists'
  hold_then lists lists' hold now same =
      by_place (λ i o. IfSome o (λ m. Holds m (lists' (i + 1)))) now (λ i other. subst (λ l. IfSome (slice_get old i) (λ m. Holds m l)) (sym (same i other)) (hold i))

  pub but_then : (lists : Lists) (p : Put) → HoldAll old lists → HoldsEither m (lists (at + 1)) (with_put p lists (at + 1)) → HoldBut new lists p
  but_then lists p hold now =
      by_place (λ i o. IfSome o (λ m. HoldsEither m (lists (i + 1)) (with_put p lists (i + 1)))) now
      (λ i other. each_some (slice_get old i) (λ m. Holds m (lists (i + 1))) (λ m. HoldsEither m (lists (i + 1)) (with_put p lists (i + 1)))
      (λ m holds c left. let h = holds c left in (inl h.0, h.1)) (hold i))

-- a put at a house leaves the journals of others
pub put_apart : (p : Put) (lists : Lists) (at : ℕ) → p.house ≡ at + 1 → (i : ℕ) → i ≢ at → with_put p lists (i + 1) ≡ lists (i + 1)
put_apart p lists at house i other =
    let apart : i + 1 ≢ p.house = (λ same. other (omega (arith, same, house))) in
    put_other lists p.house (lists p.house ++ p.image ∷ []) (i + 1) apart

pub put_here : (p : Put) (lists : Lists) (at : ℕ) → p.house ≡ at + 1 → with_put p lists (at + 1) ≡ lists (at + 1) ++ p.image ∷ []
put_here p lists at house =
    let same = put_same lists p.house (lists p.house ++ p.image ∷ []) in
    ap (with_put p lists) (sym house) ∙ same ∙ ap (λ n. lists n ++ p.image ∷ []) house

-- ---- a house that puts its image

module _ (g : Cell) (h at : ℕ) (house : h ≡ at + 1) (image : List ℕ) (is : octets_at g h ≡ image) (made : has h g.made ≡ true)
    (old new : List MemState) (before after : MemState) (there : slice_get old at ≡ Some before) (here : slice_get new at ≡ Some after)
    (others : (i : ℕ) → i ≢ at → slice_get new i ≡ slice_get old i) (lists : Lists) (hold : HoldAll old lists)
    (r : Result (Unit {0}) Unkept) (kept : Option KeptHouse) (are : OnOk r (IsKept kept after))
    (then_images : OnOk r (images after.octets ≡ noted_image image (images before.octets)))
    (crash : HoldsEither after (images before.octets) (noted_image image (images before.octets)))
    (room : OnOk r (is_last image (images before.octets) ≡ false → size_of (images before.octets ++ image ∷ []) ≤ 2 ^ 40))
    (full : r ≡ Err Full → (is_last image (images before.octets) ≡ false) × (2 ^ 40 < size_of (images before.octets ++ image ∷ []))) where
  abbrev p : Put
  p = the_put g h

  list : images before.octets ≡ lists (at + 1)
  list = holds_reads before (lists (at + 1)) (let all = hold at in rw there at all)

  reads : images before.octets ≡ lists h
  reads = list ∙ ap lists (sym house)

  first : nat_lt 0 h ≡ true
  first = grind (arith, nat_tests)

  -- it puts it where it is not the last
  has_it : has_to_put g lists h ≡ not (is_last image (images before.octets))
  has_it =
      ap (λ (b : Bool). b && (has h g.made && not (is_last (octets_at g h) (lists h)))) first
      ∙ ap (λ (b : Bool). b && not (is_last (octets_at g h) (lists h))) made
      ∙ ap (λ (i : List ℕ). not (is_last i (lists h))) is ∙ ap (λ (l : List (List ℕ)). not (is_last image l)) (sym reads)

  with_image : lists h ++ octets_at g h ∷ [] ≡ images before.octets ++ image ∷ []
  with_image = ap (λ (l : List (List ℕ)). l ++ octets_at g h ∷ []) (sym reads) ∙ ap (λ (i : List ℕ). images before.octets ++ i ∷ []) is

  -- no room is told exactly where there is none
  lacks : (b : Bool) → nat_lt (2 ^ 40) (size_of (images before.octets ++ image ∷ [])) ≡ b → lacks_room lists (p ∷ []) ≡ b
  lacks b test = ap (λ (l : List (List ℕ)). nat_lt 1099511627776 (size_of l) || false) with_image ∙ ap (λ (c : Bool). c || false) test ∙ or_false b
    where
      or_false : (b : Bool) → (b || false) ≡ b
      or_false true = refl
      or_false false = refl

  none : is_last image (images before.octets) ≡ true → PutsAll r new lists []
  none last = by_end r full
    where
      same : noted_image image (images before.octets) ≡ lists (at + 1)
      same = noted_last image (images before.octets) last ∙ list

      now : Holds after (lists (at + 1))
      now c left =
          let either = crash c left in
          (⊎_elim (λ is. is ∙ list) (λ is. is ∙ same) either.0, either.1)

      all : HoldAll new lists
      all = hold_then old new at after here others lists lists hold now (λ i other. refl)

      by_end : (r : Result (Unit {0}) Unkept) → (r ≡ Err Full → (is_last image (images before.octets) ≡ false) × (2 ^ 40 < size_of (images before.octets ++ image ∷ [])))
          → PutsAll r new lists []
      by_end (Ok x) full = (all, refl)
      by_end (Err OutOfMemory) full = all
      by_end (Err Full) full = absurd (let new = (full refl).0 in cc)

  one : is_last image (images before.octets) ≡ false → PutsAll r new lists (p ∷ [])
  one new_image = by_end r are then_images room full
    where
      noted_is : noted_image image (images before.octets) ≡ images before.octets ++ image ∷ []
      noted_is = noted_new image (images before.octets) new_image

      list_then : with_put p lists (at + 1) ≡ images before.octets ++ image ∷ []
      list_then = put_here p lists at house ∙ ap (λ n. lists n ++ octets_at g h ∷ []) (sym house) ∙ with_image

      either : HoldsEither after (lists (at + 1)) (with_put p lists (at + 1))
      either c left =
          let e = crash c left in
          (⊎_elim (λ is. inl (is ∙ list)) (λ is. inr (is ∙ noted_is ∙ sym list_then)) e.0, e.1)

      putting : ArePutting new lists (p ∷ [])
      putting = inl (but_then old new at after here others lists p hold either)

      by_end : (r : Result (Unit {0}) Unkept) → OnOk r (IsKept kept after) → OnOk r (images after.octets ≡ noted_image image (images before.octets))
          → OnOk r (is_last image (images before.octets) ≡ false → size_of (images before.octets ++ image ∷ []) ≤ 2 ^ 40)
          → (r ≡ Err Full → (is_last image (images before.octets) ≡ false) × (2 ^ 40 < size_of (images before.octets ++ image ∷ [])))
          → PutsAll r new lists (p ∷ [])
      by_end (Ok x) are images_then room full =
          let now = kept_holds kept after (images before.octets) (noted_image image (images before.octets)) are crash in
          let wanted : images after.octets ≡ with_put p lists (at + 1) = images_then ∙ noted_is ∙ sym list_then in
          let few = room new_image in (
            hold_then old new at after here others lists (with_put p lists) hold (subst (Holds after) wanted now) (put_apart p lists at house),
            lacks false (grind (arith, nat_tests)),
          )
      by_end (Err OutOfMemory) are images_then room full = putting
      by_end (Err Full) are images_then room full = let many = (full refl).1 in (putting, lacks true (grind (arith, nat_tests)))

  -- a house puts its image, where its journal lacks it
  pub house_puts : PutsAll r new lists (puts_of g (h ∷ []) lists)
  house_puts = by_last (is_last image (images before.octets)) refl
    where
      by_last : (b : Bool) → is_last image (images before.octets) ≡ b → PutsAll r new lists (puts_of g (h ∷ []) lists)
      by_last true last = rw (has_it, last) (none last)
      by_last false last = rw (has_it, last) (one last)

  -- where it has no room, that is told
  pub house_lacks : (is_last image (images before.octets) ≡ false → 2 ^ 40 < size_of (images before.octets ++ image ∷ []) → r ≡ Err Full)
      → lacks_room lists (puts_of g (h ∷ []) lists) ≡ true → r ≡ Err Full
  house_lacks told = by_last (is_last image (images before.octets)) refl
    where
      by_room : is_last image (images before.octets) ≡ false → (b : Bool) → nat_lt (2 ^ 40) (size_of (images before.octets ++ image ∷ [])) ≡ b
          → lacks_room lists (p ∷ []) ≡ true → r ≡ Err Full
      by_room last true test none = told last (grind (arith, nat_tests))
      by_room last false test none = absurd (let e = sym (lacks false test) ∙ none in cc)

      by_last : (b : Bool) → is_last image (images before.octets) ≡ b → lacks_room lists (puts_of g (h ∷ []) lists) ≡ true → r ≡ Err Full
      by_last true last none = absurd (let e = rw (has_it, last) at none in cc)
      by_last false last none =
          let e = rw (has_it, last) at none in
          by_room last (nat_lt (2 ^ 40) (size_of (images before.octets ++ image ∷ []))) refl e

-- a house that was not made puts nothing, nor does one with a number that no house has
pub none_puts : (g : Cell) (h : ℕ) (lists : Lists) → (nat_lt 0 h && has h g.made) ≡ false → puts_of g (h ∷ []) lists ≡ []
none_puts g h lists is = by_test (nat_lt 0 h) (has h g.made) is
  where
    by_test : (a b : Bool) → (a && b) ≡ false
        → (if a && (b && not (is_last (octets_at g h) (lists h))) then the_put g h ∷ [] else []) ≡ []
    by_test true true is = absurd (cc)
    by_test true false is = refl
    by_test false b is = refl
