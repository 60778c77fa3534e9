-- One house whose put is stopped: the journals and the disks after that.
use Rattle.std.proofs.Common.{◌≡◌, ◌≢◌, inl, inr, ⊎_elim, ℕ, zero, suc, ◌+◌, ◌^◌, ◌<◌, ◌≤◌, ◌==◌, Bool, true, false, ◌||◌, List, [], ◌∷◌, ◌++◌, length, refl, sym, ◌∙◌, ap, subst, if◌then◌else◌, arith}
use Rattle.std.specs.Prelude.{Option, Some, None, Result, Ok, Err, IfOk, IfSome, OnOk, nat_lt, slice_get, slice_set}
use Rattle.std.specs.List.{last_or}
use Rattle.std.specs.Option.{option_map_or}
use Rattle.std.specs.Str.{bytes_eq}
use Rattle.std.proofs.lemmas.Bool.Decides.{nat_tests}
use Rattle.std.proofs.lemmas.List.{length-set}
use Rattle.house_journal.specs.MemoryDisks.{MemState}
use Rattle.house_journal.specs.JournalRecords.{images, images_after, last_image}
use Rattle.disk_journals.specs.KeptJournals.{Holds, HoldsEither, IsKept, IsNew, is_last, size_of}
use Rattle.disk_journals.specs.declared.faults.Unkept.{Unkept}
use Rattle.disk_journals.specs.declared.faults.Unkept.TheVariants.{Full, OutOfMemory}
use Rattle.disk_journals.specs.declared.kept.KeptHouse.{KeptHouse}
use Rattle.disk_journals.proofs.Lasts.{last_is, last_more, last_same}
use Rattle.journal_replay.specs.CellJournals.{Lists, Put, lacks_room, with_put}
use Rattle.journal_replay.specs.CellDisks.{AreKept, ArePutting, HoldAll, disk_count}
use Rattle.journal_replay.specs.PrivateJournals.{GivesUp, StopsPut}
use Rattle.journal_replay.proofs.OneHouse.{but_then, hold_then, holds_reads, kept_holds, put_apart, put_here, set_here, set_other}

or_false : (b : Bool) → (b || false) ≡ b
or_false true = refl
or_false false = refl

module _ (h at : ℕ) (house : h ≡ at + 1) (image : List ℕ) (old new : List MemState) (before after : MemState)
    (there : slice_get old at ≡ Some before) (here : slice_get new at ≡ Some after) (others : (i : ℕ) → i ≢ at → slice_get new i ≡ slice_get old i)
    (lists : Lists) (hold : HoldAll old lists) (crash : HoldsEither after (images before.octets) (images before.octets ++ image ∷ [])) where
  abbrev p : Put
  p = record { house = h; image = image }

  abbrev longer : List (List ℕ)
  longer = images before.octets ++ image ∷ []

  list : images before.octets ≡ lists (at + 1)
  list = holds_reads before (lists (at + 1)) (let all = hold at in rw there at all)

  reads : images before.octets ≡ lists h
  reads = list ∙ ap lists (sym house)

  longer_is : with_put p lists (at + 1) ≡ longer
  longer_is = put_here p lists at house ∙ ap (λ (l : List (List ℕ)). l ++ image ∷ []) (sym list)

  same_size : lists h ++ image ∷ [] ≡ longer
  same_size = ap (λ (l : List (List ℕ)). l ++ image ∷ []) (sym reads)

  lacks : (b : Bool) → nat_lt (2 ^ 40) (size_of longer) ≡ b → lacks_room lists (p ∷ []) ≡ b
  lacks b test = ap (λ (l : List (List ℕ)). nat_lt 1099511627776 (size_of l) || false) same_size ∙ ap (λ (c : Bool). c || false) test ∙ or_false b

  putting : ArePutting new lists (p ∷ [])
  putting = inl (but_then old new at after here others lists p hold
      (λ c left. let e = crash c left in (⊎_elim (λ is. inl (is ∙ list)) (λ is. inr (is ∙ sym longer_is)) e.0, e.1)))

  -- it was given up
  stop_up : (e : Unkept) → (e ≡ Full → 2 ^ 40 < size_of longer) → GivesUp e new lists (p ∷ [])
  stop_up OutOfMemory full = putting
  stop_up Full full = let many = full refl in (putting, lacks true (grind (arith, nat_tests)))

  -- it was stopped, and the journal was opened again
  stop_held : (stops : Bool) (k : KeptHouse) → IsKept (Some k) after → images after.octets ≡ (if stops then longer else images before.octets)
      → HoldAll new (if stops then with_put p lists else lists)
  stop_held true k kept is =
      hold_then old new at after here others lists (with_put p lists) hold
      (subst (Holds after) (is ∙ sym longer_is) (kept_holds (Some k) after (images before.octets) longer kept crash)) (put_apart p lists at house)
  stop_held false k kept is =
      hold_then old new at after here others lists lists hold
      (subst (Holds after) (is ∙ list) (kept_holds (Some k) after (images before.octets) longer kept crash)) (λ i other. refl)

  stop_room : size_of longer ≤ 2 ^ 40 → lacks_room lists (p ∷ []) ≡ false
  stop_room few = lacks false (grind (arith, nat_tests))

  -- so it is with the house of these disks
  pub house_stops : (stops : Bool) (k : KeptHouse) (r : Result Bool Unkept) → is_last image (lists h) ≡ false → OnOk r (IsKept (Some k) after)
      → (is_last image (images before.octets) ≡ false → IfOk r (λ word. word ≡ stops))
      → OnOk r (images after.octets ≡ (if stops then longer else images before.octets))
      → OnOk r (size_of longer ≤ 2 ^ 40) → (r ≡ Err Full → 2 ^ 40 < size_of longer) → StopsPut r new lists stops p
  house_stops stops k (Ok word) other kept is images_then few full =
      (is (ap (is_last image) reads ∙ other), stop_held stops k kept images_then, stop_room few)
  house_stops stops k (Err e) other kept is images_then few full = stop_up e (λ same. full (ap Err same))

  -- where it has no room, that is told
  pub stop_lacks : (r : Result Bool Unkept) → (2 ^ 40 < size_of longer → r ≡ Err Full) → lacks_room lists (p ∷ []) ≡ true → r ≡ Err Full
  stop_lacks r told none = by_room (nat_lt (2 ^ 40) (size_of longer)) refl
    where
      by_room : (b : Bool) → nat_lt (2 ^ 40) (size_of longer) ≡ b → r ≡ Err Full
      by_room true test = told (grind (arith, nat_tests))
      by_room false test = absurd (let e = sym (lacks false test) ∙ none in cc)

-- ---- one house

-- the word: the journal gives the image where it was kept
pub word_is : (stops : Bool) (image : List ℕ) (xs : List (List ℕ)) (m : MemState) (o : Option (List ℕ)) → is_last image xs ≡ false
    → images m.octets ≡ (if stops then xs ++ image ∷ [] else xs) → o ≡ last_image m.octets
    → option_map_or (bytes_eq image) o false ≡ stops
word_is true image xs m o other is last =
    ap (λ (x : Option (List ℕ)). option_map_or (bytes_eq image) x false) (last ∙ ap (last_or None) is)
    ∙ last_same image (xs ++ image ∷ []) (last_more None xs image)
word_is false image xs m o other is last =
    ap (λ (x : Option (List ℕ)). option_map_or (bytes_eq image) x false) (last ∙ ap (last_or None) is) ∙ other

-- where it gives the image, that is the last
pub given_last : (image : List ℕ) (m : MemState) (o : Option (List ℕ)) → o ≡ last_image m.octets → option_map_or (bytes_eq image) o false ≡ true
    → last_image m.octets ≡ Some image
given_last image m o last is = last_is image (images m.octets) (ap (λ (x : Option (List ℕ)). option_map_or (bytes_eq image) x false) (sym last) ∙ is)

-- and else it is as before
pub still_last : (stops : Bool) (image : List ℕ) (xs : List (List ℕ)) (m : MemState) (o : Option (List ℕ)) (was : List ℕ)
    → images m.octets ≡ (if stops then xs ++ image ∷ [] else xs) → o ≡ last_image m.octets → option_map_or (bytes_eq image) o false ≡ false
    → last_or None xs ≡ Some was → last_image m.octets ≡ Some was
still_last true image xs m o was is last other old =
    let now : last_image m.octets ≡ Some image = ap (last_or None) is ∙ last_more None xs image in
    let same : option_map_or (bytes_eq image) o false ≡ true =
    ap (λ (x : Option (List ℕ)). option_map_or (bytes_eq image) x false) last ∙ last_same image (images m.octets) now in
    absurd (let e = sym other ∙ same in cc)
still_last false image xs m o was is last other old = ap (last_or None) is ∙ old

-- ---- all houses

-- a house and its disk that are others than before
pub kept_at : (houses : List (Option KeptHouse)) (disks : List MemState) (at : ℕ) (k : Option KeptHouse) (m : MemState) → AreKept houses disks
    → at < disk_count → IsKept k m → AreKept (slice_set houses at k) (slice_set disks at m)
kept_at houses disks at k m are within is = record {
  all_houses = length-set houses at k ∙ are.all_houses;
  all_disks = length-set disks at m ∙ are.all_disks;
  each = λ i. by_same i (i == at) refl;
}
  where
    first : slice_get (slice_set houses at k) at ≡ Some k
    first = set_here houses at k (omega (arith, within, are.all_houses))

    second : slice_get (slice_set disks at m) at ≡ Some m
    second = set_here disks at m (omega (arith, within, are.all_disks))

    here : IfSome (slice_get (slice_set houses at k) at) (λ h. IfSome (slice_get (slice_set disks at m) at) (IsKept h))
    here = subst (λ (o : Option (Option KeptHouse)). IfSome o (λ h. IfSome (slice_get (slice_set disks at m) at) (IsKept h))) (sym first)
        (subst (λ (o : Option MemState). IfSome o (IsKept k)) (sym second) is)

    by_same : (i : ℕ) (b : Bool) → (i == at) ≡ b → IfSome (slice_get (slice_set houses at k) i) (λ h. IfSome (slice_get (slice_set disks at m) i) (IsKept h))
    by_same i true e =
        let same : i ≡ at = grind (arith, nat_tests) in
        subst (λ (j : ℕ). IfSome (slice_get (slice_set houses at k) j) (λ h. IfSome (slice_get (slice_set disks at m) j) (IsKept h))) (sym same) here
    by_same i false e =
        let other : i ≢ at = grind (arith, nat_tests) in
        subst (λ (o : Option (Option KeptHouse)). IfSome o (λ h. IfSome (slice_get (slice_set disks at m) i) (IsKept h))) (sym (set_other houses at k i other))
        (subst (λ (o : Option MemState). IfSome (slice_get houses i) (λ h. IfSome o (IsKept h))) (sym (set_other disks at m i other)) (are.each i))

pub kept_then : {A : Type 0} (r : Result A Unkept) (houses : List (Option KeptHouse)) (disks : List MemState) (at : ℕ) (k : Option KeptHouse) (m : MemState)
    → AreKept houses disks → at < disk_count → OnOk r (IsKept k m) → OnOk r (AreKept (slice_set houses at k) (slice_set disks at m))
kept_then (Ok x) houses disks at k m are within is = kept_at houses disks at k m are within is
kept_then (Err e) houses disks at k m are within is = tt

-- a house without a journal has a new disk, which holds no image
new_images : (m : MemState) → IsNew m → images m.octets ≡ []
unfolding images_after
new_images m new = ap (λ (l : List ℕ). images l) new.octets

some_there : {A : Type 0} (xs : List A) (i : ℕ) → i < length xs → slice_get xs i ≡ None → ⊥
some_there [] i within is = absurd (omega (arith, within))
some_there (x ∷ xs) zero within is = cc
some_there (x ∷ xs) (suc i) within is = some_there xs i (omega (arith, within)) is

pub none_kept : (houses : List (Option KeptHouse)) (disks : List MemState) (at : ℕ) (lists : Lists) → AreKept houses disks → at < disk_count
    → slice_get houses at ≡ Some None → HoldAll disks lists → lists (at + 1) ≡ []
none_kept houses disks at lists are within is hold =
    by_disk (slice_get disks at) refl
    (subst (λ (o : Option (Option KeptHouse)). IfSome o (λ h. IfSome (slice_get disks at) (IsKept h))) is (are.each at)) (hold at)
  where
    by_disk : (o : Option MemState) → slice_get disks at ≡ o → IfSome o (IsKept None) → IfSome o (λ m. Holds m (lists (at + 1))) → lists (at + 1) ≡ []
    by_disk None there new holds = absurd (some_there disks at (omega (arith, within, are.all_disks)) there)
    by_disk (Some m) there new holds = sym (holds_reads m (lists (at + 1)) holds) ∙ new_images m new
