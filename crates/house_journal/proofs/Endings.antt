-- What a crash leaves while the end of a journal is put in order.
use Rattle.std.proofs.Common.{◌≡◌, ◌≢◌, ◌⊎◌, inl, inr, ⊎_elim, ℕ, zero, suc, ◌+◌, ◌^◌, ◌≤◌, ◌<◌, ◌==◌, nat_le, min, true, false, List, [], ◌∷◌, ◌++◌, length, take, drop, slice_index, get_or}
use Rattle.std.specs.Prelude.{Some, None, slice_get}
use Rattle.std.proofs.Common.{refl, sym, ◌∙◌, ap, subst, arith, append_assoc, length-append, length-drop}
use Rattle.std.proofs.lemmas.List.{drop_all, get_or_append_left, get_or_at, nil_from_length, length-take, take_min}
use Rattle.std.proofs.lemmas.List.Prefix.{front_from_reads}
use Rattle.std.proofs.lemmas.Bool.{cases_eq, cases_Bool, and_parts, leb-true}
use Rattle.house_journal.specs.Disks.{CutBack, Torn, with_piece}
use Rattle.house_journal.specs.JournalRecords.{length_at, is_open, images, gate_of, HasImagesOf, IsClean, IsOpenable, IsAtRest}
use Rattle.house_journal.proofs.Records.{AreRecords, joined, images_of, Parts, parts, parts_images, parts_gate, closed, uncounted, ends_images, ends_gate, closed_images, closed_clean, at_rest}

-- at most one octet is no record
short_shut : (e : List ℕ) → length e ≤ 1 → is_open e ≡ false
short_shut e few = ⊎_elim (λ is_on. absurd (long is_on)) (λ shut. shut) (cases_Bool (is_open e))
  where
    long : is_open e ≡ true → ⊥
    long is_on =
        let both = and_parts (slice_index e 0 == 1) (nat_le (length_at e + 10) (length e)) is_on in
        let size = leb-true (length_at e + 10) (length e) both.1 in
        omega (arith, size, few)

module _ (file : List ℕ) where
  abbrev p : Parts file
  p = parts file

  abbrev a : List ℕ
  a = joined p.records

  abbrev P : List ℕ → Type 0
  P c = HasImagesOf file c

  at : gate_of file ≡ length a
  at = parts_gate file p

  same : images file ≡ images_of p.records
  same = parts_images file p

  -- the file itself
  pub file_so : IsOpenable file → P file
  file_so clean = (refl, clean)

  -- after the records is an octet that is no open gate
  closed_so : (y : ℕ) (x c : List ℕ) → y ≢ 1 → c ≡ a ++ y ∷ x → length c ≤ 2 ^ 40 → P c
  closed_so y x c other is small = (
    ap images is ∙ closed_images p.records p.are y x other ∙ sym same,
    record { clean = subst IsClean (sym is) (closed_clean p.records p.are y x other); small = small },
  )

  -- in the cut
  pub cut_torn : IsOpenable file → (c : List ℕ) → CutBack (min (length file) (length a + 1)) file c → P c
  cut_torn clean c cut = by_rest p.rest p.split p.some
    where
      by_rest : (rest : List ℕ) → file ≡ a ++ rest → (0 < length rest) ⊎ (p.records ≡ []) → P c
      by_rest [] split some =
          let none : p.records ≡ [] = ⊎_elim (λ lt. absurd (omega (arith, lt))) (λ is. is) some in
          let empty : length file ≡ 0 = ap length split ∙ length-append a [] ∙ ap (λ (l : List (List ℕ)). length (joined l) + 0) none in
          let file_nil : file ≡ [] = nil_from_length file empty in
          let nil : c ≡ [] = nil_from_length c (omega (arith, cut.within, empty)) in
          subst P (file_nil ∙ sym nil) (file_so clean)
      by_rest (g ∷ b) split some =
          let size = length-append a (g ∷ b) in
          let whole = ap length split in
          let front_size = length-append a (g ∷ []) in
          let x = drop (length (a ++ g ∷ [])) c in
          let long : length (a ++ g ∷ []) ≤ length c = omega (arith, cut.kept, size, whole, front_size) in
          let front : c ≡ (a ++ g ∷ []) ++ x = front_from_reads 0 c (a ++ g ∷ []) long
          (λ i lt. cut.stays i (omega (arith, lt, size, whole, front_size)) (omega (arith, lt, long))
          ∙ ap (λ (l : List ℕ). get_or l i 0) (split ∙ sym (append_assoc a (g ∷ []) b))
          ∙ get_or_append_left (a ++ g ∷ []) b 0 i lt) in
          let c_is : c ≡ a ++ g ∷ x = front ∙ append_assoc a (g ∷ []) x in
          ⊎_elim
          (λ one.
          let gate : slice_index file (gate_of file) ≡ 1 =
          ap (slice_index file) at ∙ ap (λ (l : List ℕ). slice_index l (length a)) split ∙ get_or_at a g b 0 (length a) refl ∙ one in
          let few = clean.clean gate in
          let left = length-drop (length (a ++ g ∷ [])) c in
          let nothing : x ≡ [] = nil_from_length x (omega (arith, left, few, at, front_size, cut.within)) in
          let no_more : b ≡ [] = nil_from_length b (omega (arith, few, at, size, whole)) in
          subst P (split ∙ ap (λ (l : List ℕ). a ++ g ∷ l) (no_more ∙ sym nothing) ∙ sym c_is) (file_so clean))
          (λ other. closed_so g x c other c_is (omega (arith, cut.within, clean.small)))
          (cases_eq g 1)

  -- the file cut at the gate: the records, and at most one octet
  abbrev pub end : List ℕ
  end = take 1 p.rest

  pub end_few : length end ≤ 1
  end_few = omega (arith, length-take 1 p.rest)

  pub end_some : (0 < length end) ⊎ (p.records ≡ [])
  end_some = ⊎_elim (λ lt. inl (omega (arith, lt, length-take 1 p.rest))) (λ none. inr none) p.some

  pub place_within : length a ≤ length file
  place_within = omega (arith, ap length p.split, length-append a p.rest)

  pub cut_done : take (min (length file) (length a + 1)) file ≡ a ++ end
  cut_done =
      take_min' ∙ ap (take (length a + 1)) p.split ∙ take_past a p.rest 1
    where
      take_min' : take (min (length file) (length a + 1)) file ≡ take (length a + 1) file
      take_min' = let on : min (length file) (length a + 1) ≡ min (length a + 1) (length file) = omega arith in ap (λ (k : ℕ). take k file) on ∙ take_min (length a + 1) file

      take_past : (xs ys : List ℕ) (n : ℕ) → take (length xs + n) (xs ++ ys) ≡ xs ++ take n ys
      take_past [] ys n = let on : 0 + n ≡ n = omega arith in ap (λ (k : ℕ). take k ys) on
      take_past (x ∷ xs) ys n = let on : length (x ∷ xs) + n ≡ suc (length xs + n) = omega arith in
          ap (λ (k : ℕ). take k (x ∷ xs ++ ys)) on ∙ ap (λ (l : List ℕ). x ∷ l) (take_past xs ys n)

-- a file of records and at most one octet after them, where there is one unless there are no
-- records: while its gate is written
module _ (rs : List (List ℕ)) (are : AreRecords rs) (e : List ℕ) (few : length e ≤ 1) (some : (0 < length e) ⊎ (rs ≡ [])) where
  abbrev front : List ℕ
  front = joined rs

  pub short_images : images (front ++ e) ≡ images_of rs
  short_images = ⊎_elim (λ one. ends_images rs are e one (short_shut e few)) none some
    where
      none : rs ≡ [] → images (front ++ e) ≡ images_of rs
      none is = ap (λ (l : List (List ℕ)). images (joined l ++ e)) is ∙ closed e (short_shut e few) ∙ ap images_of (sym is)

  pub short_gate : gate_of (front ++ e) ≡ length front
  short_gate = ⊎_elim (λ one. ends_gate rs are e one (short_shut e few)) none some
    where
      none : rs ≡ [] → gate_of (front ++ e) ≡ length front
      none is = ap (λ (l : List (List ℕ)). gate_of (joined l ++ e)) is ∙ uncounted e (short_shut e few) ∙ ap (λ (l : List (List ℕ)). length (joined l)) (sym is)

  pub short_clean : IsClean (front ++ e)
  short_clean gate = let size = length-append front e in let at = short_gate in omega (arith, size, at, few)

-- a file whose last octet, if it has one after the records, is the gate that ends the list: while
-- that gate is written
module _ (file : List ℕ) (place : ℕ) (gate : place ≡ gate_of file) (last : length file ≤ place + 1)
    (room : place + 1 ≤ 2 ^ 40) where
  abbrev q : Parts file
  q = parts file

  q_size : length (joined q.records) ≡ place
  q_size = sym (gate ∙ parts_gate file q)

  q_whole : length file ≡ place + length q.rest
  q_whole = omega (arith, ap length q.split, length-append (joined q.records) q.rest, q_size)

  q_few : length q.rest ≤ 1
  q_few = omega (arith, q_whole, last)

  abbrev Q : List ℕ → Type 0
  Q c = HasImagesOf file c

  pub gate_start : place ≤ length file
  gate_start = omega (arith, q_whole)

  q_short : (e c : List ℕ) → length e ≤ 1 → (0 < length e) ⊎ (q.records ≡ []) → c ≡ joined q.records ++ e → length c ≤ 2 ^ 40 → Q c
  q_short e c few some is small = (
    ap images is ∙ short_images q.records q.are e few some ∙ sym (parts_images file q),
    record { clean = subst IsClean (sym is) (short_clean q.records q.are e few some); small = small },
  )

  pub gate_so : (c : List ℕ) → c ≡ file → Q c
  gate_so c is = q_short q.rest c q_few q.some (is ∙ q.split) (omega (arith, ap length is, last, room))

  pub gate_torn : (c : List ℕ) → Torn place 1 file c → Q c
  gate_torn c torn =
      let e = drop (length (joined q.records)) c in
      let left = length-drop (length (joined q.records)) c in
      q_short e c (omega (arith, left, torn.within, q_size, last))
      (⊎_elim (λ lt. inl (omega (arith, left, lt, torn.longer, q_whole, q_size))) (λ none. inr none) q.some)
      (front_from_reads 0 c (joined q.records) (omega (arith, torn.longer, q_whole, q_size))
      (λ i lt. torn.stays i (omega (arith, lt, q_whole, q_size)) (inl (omega (arith, lt, q_size)))
      ∙ ap (λ (l : List ℕ). get_or l i 0) q.split ∙ get_or_append_left (joined q.records) q.rest 0 i lt))
      (omega (arith, torn.within, last, room))

  pub gate_written : with_piece file place (0 ∷ []) ≡ take place file ++ 0 ∷ []
  gate_written = ap (λ (l : List ℕ). take place file ++ 0 ∷ l) (drop_all (place + 1) file (omega (arith, last)))

-- an octet of a front
pub get_front : (place : ℕ) (file : List ℕ) → slice_get (take (place + 1) file) place ≡ slice_get file place
get_front zero [] = refl
get_front zero (b ∷ bs) = refl
get_front (suc place) [] = let on : suc place + 1 ≡ suc (place + 1) = omega arith in let none : List ℕ = [] in ap (λ (n : ℕ). slice_get (take n none) (suc place)) on
get_front (suc place) (b ∷ bs) =
    let on : suc place + 1 ≡ suc (place + 1) = omega arith in ap (λ (n : ℕ). slice_get (take n (b ∷ bs)) (suc place)) on ∙ get_front place bs

-- the octet at a place, read by itself
pub got_one : (place : ℕ) (file buf : List ℕ) → place < length file → buf ≡ take 1 (drop place file) → Some (slice_index buf 0) ≡ slice_get file place
got_one place [] buf lt is = absurd (omega (arith, lt))
got_one zero (b ∷ bs) buf lt is = ap (λ (l : List ℕ). Some (slice_index l 0)) is
got_one (suc place) (b ∷ bs) buf lt is = got_one place bs buf (omega (arith, lt)) is

pub got_none : (place : ℕ) (file : List ℕ) → length file ≤ place → None ≡ slice_get file place
got_none place [] le = refl
got_none zero (b ∷ bs) le = absurd (omega (arith, le))
got_none (suc place) (b ∷ bs) le = got_none place bs (omega (arith, le))

-- the whole of it: a file, of which no other outcome is left; cut after the gate that ends its list
module _ (file : List ℕ) (size place : ℕ) (all : size ≡ length file) (gate : place ≡ gate_of file) where
  abbrev w : Parts file
  w = parts file

  w_size : length (joined w.records) ≡ place
  w_size = sym (gate ∙ parts_gate file w)

  abbrev W : List ℕ → Type 0
  W c = HasImagesOf file c

  at_cut : min size (place + 1) ≡ min (length file) (length (joined w.records) + 1)
  at_cut = (λ i. min (all i) (sym w_size i + 1))

  pub cut_crash : IsOpenable file → (c : List ℕ) → CutBack (min size (place + 1)) file c → W c
  cut_crash clean c cut = cut_torn file clean c (subst (λ (n : ℕ). CutBack n file c) at_cut cut)

  pub cut_file : (f : List ℕ) → f ≡ take (min size (place + 1)) file → f ≡ joined w.records ++ end file
  cut_file f is = is ∙ ap (λ (n : ℕ). take n file) at_cut ∙ cut_done file

  pub cut_gate : (f : List ℕ) → f ≡ take (min size (place + 1)) file → place ≡ gate_of f
  cut_gate f is = sym (ap gate_of (cut_file f is) ∙ short_gate w.records w.are (end file) (end_few file) (end_some file) ∙ w_size)

  pub cut_images : (f : List ℕ) → f ≡ take (min size (place + 1)) file → images f ≡ images file
  cut_images f is =
      ap images (cut_file f is) ∙ short_images w.records w.are (end file) (end_few file) (end_some file) ∙ sym (parts_images file w)

  pub cut_get : (f : List ℕ) → f ≡ take (min size (place + 1)) file → slice_get f place ≡ slice_get file place
  cut_get f is =
      let on : min size (place + 1) ≡ min (place + 1) (length file) = omega (arith, all) in
      ap (λ (l : List ℕ). slice_get l place) (is ∙ ap (λ (n : ℕ). take n file) on ∙ take_min (place + 1) file) ∙ get_front place file

  pub cut_last : (f : List ℕ) → f ≡ take (min size (place + 1)) file → length f ≤ place + 1
  cut_last f is = omega (arith, ap length is, length-take (min size (place + 1)) file)

-- the gate that ends the list is within the file, or at its start
pub gate_room : (file : List ℕ) (place most : ℕ) → place ≡ gate_of file → length file ≤ most → 1 ≤ most → place + 1 ≤ most
gate_room file place most gate few one = ⊎_elim within first p.some
  where
    p : Parts file
    p = parts file

    within : 0 < length p.rest → place + 1 ≤ most
    within lt = let at = parts_gate file p in let whole = ap length p.split in let sum = length-append (joined p.records) p.rest in
        omega (arith, gate, at, whole, sum, lt, few)

    first : p.records ≡ [] → place + 1 ≤ most
    first none = let at = parts_gate file p in let nothing = ap (λ (l : List (List ℕ)). length (joined l)) none in omega (arith, gate, at, nothing, one)

-- a list in front of another
front_of : (xs ys : List ℕ) → take (length xs) (xs ++ ys) ≡ xs
front_of [] ys = refl
front_of (x ∷ xs) ys =
    let on : length (x ∷ xs) ≡ suc (length xs) = omega arith in
    ap (λ (n : ℕ). take n (x ∷ xs ++ ys)) on ∙ ap (λ (l : List ℕ). x ∷ l) (front_of xs ys)

-- a file whose list ends at a place is at rest there, once it is cut off and closed
pub settled : (file : List ℕ) (place : ℕ) → place ≡ gate_of file → (new : List ℕ) → new ≡ take (gate_of file) file ++ 0 ∷ [] → IsAtRest new place
settled file place gate new is =
    let p = parts file in
    let size : gate_of file ≡ length (joined p.records) = parts_gate file p in
    let front : take (gate_of file) file ≡ joined p.records =
    ap (λ (n : ℕ). take n file) size ∙ ap (take (length (joined p.records))) p.split ∙ front_of (joined p.records) p.rest in
    subst (λ (n : ℕ). IsAtRest new n) (sym (gate ∙ size))
    (subst (λ (l : List ℕ). IsAtRest l (length (joined p.records))) (sym (is ∙ ap (λ (l : List ℕ). l ++ 0 ∷ []) front)) (at_rest p.records p.are))
