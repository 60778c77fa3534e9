-- What a crash may leave, step by step, is what the sentence on places and sizes says.
use Rattle.std.proofs.Common.{◌≡◌, ◌⊎◌, ⊎_elim, inl, inr, ℕ, ◌+◌, ◌-◌, ◌≤◌, ◌<◌, ◌&&◌, nat_le, min, max, Bool, true, false, if◌then◌else◌, MatchBool, List, [], ◌∷◌, ◌++◌}
use Rattle.std.proofs.Common.{map, length, take, drop, slice_index, refl, sym, ◌∙◌, ap, subst, arith, length-append, length-drop}
use Rattle.std.specs.List.{range_with_len}
use Rattle.std.proofs.lemmas.Bool.{and_from, and_left, and_right, le-leb, lt-leb, leb-true, leb-false, cases_Bool}
use Rattle.std.proofs.lemmas.List.{length-take-le, length-map, ext_get_or}
use Rattle.std.proofs.lemmas.List.FromFn.{length-range_with_len, get_or-map-range_with_len}
use Rattle.house_journal.specs.declared.step.Step.{Step}
use Rattle.house_journal.specs.Disks.{Change, Wrote, CutTo, Torn, CutBack, with_piece}
use Rattle.house_journal.specs.MemoryDisks.{FitsStep, Fits, Tears, before_step, change_of, left_now, synced_in, changes_in}
use Rattle.house_journal.specs.CrashSets.{size_after, least_size, most_size, Spares, Untouched, IsLeft}
use Rattle.house_journal.specs.Restarts.{done_by}
use Rattle.house_journal.specs.ClockProofs.{reads_left_lem}
use Rattle.house_journal.proofs.WholeSteps.{torn_whole, cut_whole}
use Rattle.house_journal.proofs.Restarting.{redone}

-- ---- sizes

-- the size after several
abbrev size_behind : ℕ → List Change → ℕ
size_behind size [] = size
size_behind size (change ∷ later) = size_behind (size_after change size) later

size_more : (size : ℕ) (changes : List Change) (c : Change) → size_behind size (changes ++ c ∷ []) ≡ size_after c (size_behind size changes)
size_more size [] c = refl
size_more size (x ∷ changes) c = size_more (size_after x size) changes c

least_more : (size : ℕ) (changes : List Change) (c : Change)
    → least_size size (changes ++ c ∷ []) ≡ min (least_size size changes) (size_after c (size_behind size changes))
least_more size [] c = refl
least_more size (x ∷ changes) c = omega (arith, least_more (size_after x size) changes c)

most_more : (size : ℕ) (changes : List Change) (c : Change)
    → most_size size (changes ++ c ∷ []) ≡ max (most_size size changes) (size_after c (size_behind size changes))
most_more size [] c = refl
most_more size (x ∷ changes) c = omega (arith, most_more (size_after x size) changes c)

least_under : (size : ℕ) (changes : List Change) → least_size size changes ≤ size_behind size changes
least_under size [] = omega arith
least_under size (x ∷ changes) = omega (arith, least_under (size_after x size) changes)

most_over : (size : ℕ) (changes : List Change) → size_behind size changes ≤ most_size size changes
most_over size [] = omega arith
most_over size (x ∷ changes) = omega (arith, most_over (size_after x size) changes)

-- an untouched place was always there
untouched_within : (i size : ℕ) (changes : List Change) → i < size → Untouched i changes → i < least_size size changes
untouched_within i size [] lt spared = lt
untouched_within i size (Wrote at piece ∷ changes) lt spared =
    omega (arith, lt, untouched_within i (max size (at + length piece)) changes (omega (arith, lt)) spared.1)
untouched_within i size (CutTo end ∷ changes) lt spared = omega (arith, lt, untouched_within i end changes spared.0 spared.1)

untouched_more : (i : ℕ) (changes : List Change) (c : Change) → Untouched i changes → Spares i c → Untouched i (changes ++ c ∷ [])
untouched_more i [] c spared spares = (spares, tt)
untouched_more i (x ∷ changes) c spared spares = (spared.0, untouched_more i changes c spared.1 spares)

untouched_front : (i : ℕ) (changes : List Change) (c : Change) → Untouched i (changes ++ c ∷ []) → Untouched i changes × Spares i c
untouched_front i [] c spared = (tt, spared.0)
untouched_front i (x ∷ changes) c spared = let rest = untouched_front i changes c spared.1 in ((spared.0, rest.0), rest.1)

over_or_under : (n i : ℕ) → (i < n) ⊎ (n ≤ i)
over_or_under n i = ⊎_elim (λ is. inl (omega (arith, leb-true (i + 1) n is))) (λ is. inr (omega (arith, leb-false (i + 1) n is))) (cases_Bool (nat_le (i + 1) n))

under_or_over : (n i : ℕ) → (n ≤ i) ⊎ (i < n)
under_or_over n i = ⊎_elim (λ lt. inr lt) (λ le. inl le) (over_or_under n i)

-- ---- one step

-- octets with those of the last sync in n places from one on
module _ (synced c : List ℕ) (at n : ℕ) where
  abbrev inside : ℕ → Bool
  inside i = nat_le at i && (nat_le (i + 1) (at + n) && nat_le (i + 1) (length synced))

  abbrev octet : ℕ → ℕ
  octet i = if inside i then slice_index synced i else slice_index c i

  abbrev patched : ℕ → List ℕ
  patched size = map octet (range_with_len 0 size)

  patched_size : (size : ℕ) → length (patched size) ≡ size
  patched_size size = length-map (range_with_len 0 size) octet ∙ length-range_with_len 0 size

  patched_at : (size i : ℕ) → i < size → slice_index (patched size) i ≡ octet i
  patched_at size i lt = get_or-map-range_with_len octet 0 size i i 0 lt (omega arith)

  pick : (b : Bool) (i : ℕ) → inside i ≡ b → octet i ≡ (if b then slice_index synced i else slice_index c i)
  pick b i is = ap (λ (x : Bool). if x then slice_index synced i else slice_index c i) is

  within : (i : ℕ) → at ≤ i → i < at + n → i < length synced → octet i ≡ slice_index synced i
  within i from to there = pick true i (and_from (nat_le at i) (nat_le (i + 1) (at + n) && nat_le (i + 1) (length synced)) (le-leb at i from)
      (and_from (nat_le (i + 1) (at + n)) (nat_le (i + 1) (length synced)) (le-leb (i + 1) (at + n) (omega (arith, to))) (le-leb (i + 1) (length synced) (omega (arith, there)))))

  before : (i : ℕ) → i < at → octet i ≡ slice_index c i
  before i lt = pick false i (and_left (nat_le at i) (nat_le (i + 1) (at + n) && nat_le (i + 1) (length synced)) (lt-leb at i lt))

  after : (i : ℕ) → at + n ≤ i → octet i ≡ slice_index c i
  after i le = pick false i (and_right (nat_le at i) (nat_le (i + 1) (at + n) && nat_le (i + 1) (length synced))
      (and_left (nat_le (i + 1) (at + n)) (nat_le (i + 1) (length synced)) (lt-leb (i + 1) (at + n) (omega (arith, le)))))

module _ (synced : List ℕ) (changes : List Change) where
  abbrev least : ℕ
  least = least_size (length synced) changes

  abbrev most : ℕ
  most = most_size (length synced) changes

  abbrev size : ℕ
  size = size_behind (length synced) changes

  bounds : (least ≤ size) × (size ≤ most)
  bounds = (least_under (length synced) changes, most_over (length synced) changes)

  -- a write
  module _ (at : ℕ) (piece : List ℕ) where
    abbrev wrote : List Change
    wrote = changes ++ Wrote at piece ∷ []

    wrote_least : least_size (length synced) wrote ≡ least
    wrote_least = omega (arith, least_more (length synced) changes (Wrote at piece), bounds.0)

    wrote_most : most_size (length synced) wrote ≡ max most (at + length piece)
    wrote_most = omega (arith, most_more (length synced) changes (Wrote at piece), bounds.1)

    pub write_on : (d c : List ℕ) → IsLeft synced changes d → Torn at (length piece) d c → IsLeft synced wrote c
    write_on d c left torn = record {
      least = omega (arith, wrote_least, left.least, torn.longer);
      most = omega (arith, wrote_most, left.most, torn.within);
      stays = λ i lt spared.
          let parts = untouched_front i changes (Wrote at piece) spared in
          torn.stays i (omega (arith, left.least, untouched_within i (length synced) changes lt parts.0)) parts.1 ∙ left.stays i lt parts.0;
    }

    pub write_back : (c : List ℕ) → IsLeft synced wrote c → (d : List ℕ) × IsLeft synced changes d × Torn at (length piece) d c
    write_back c left =
        let n = min (length c) most in
        let d = patched synced c at (length piece) n in
        let long : length d ≡ n = patched_size synced c at (length piece) n in
        let low : least ≤ n = omega (arith, wrote_least, left.least, bounds.0, bounds.1) in
        let high : length c ≤ max most (at + length piece) = omega (arith, wrote_most, left.most) in (
          d,
          record {
            least = omega (arith, long, low);
            most = omega (arith, long);
            stays = λ i lt spared.
                let there = untouched_within i (length synced) changes lt spared in
                patched_at synced c at (length piece) n i (omega (arith, there, low)) ∙ at_place c left i lt spared;
          },
          record {
            longer = omega (arith, long);
            within = omega (arith, long, high);
            stays = λ i lt outside. sym (patched_at synced c at (length piece) n i (omega (arith, lt, long)) ∙ beside c i outside);
          },
        )
      where
        -- a place that was there at the last sync
        at_place : (c : List ℕ) → IsLeft synced wrote c → (i : ℕ) → i < length synced → Untouched i changes
            → octet synced c at (length piece) i ≡ slice_index synced i
        at_place c left i lt spared =
            ⊎_elim
            (λ early. before synced c at (length piece) i early ∙ left.stays i lt (untouched_more i changes (Wrote at piece) spared (inl early)))
            (λ from. ⊎_elim
            (λ late. after synced c at (length piece) i late ∙ left.stays i lt (untouched_more i changes (Wrote at piece) spared (inr late)))
            (λ to. within synced c at (length piece) i from to lt)
            (under_or_over (at + length piece) i))
            (over_or_under at i)

        -- a place that was not written
        beside : (c : List ℕ) (i : ℕ) → (i < at) ⊎ (at + length piece ≤ i) → octet synced c at (length piece) i ≡ slice_index c i
        beside c i (inl early) = before synced c at (length piece) i early
        beside c i (inr late) = after synced c at (length piece) i late

  -- a cut
  module _ (end : ℕ) (fits : end ≤ size) where
    abbrev cut : List Change
    cut = changes ++ CutTo end ∷ []

    cut_least : least_size (length synced) cut ≡ min least end
    cut_least = least_more (length synced) changes (CutTo end)

    cut_most : most_size (length synced) cut ≡ most
    cut_most = omega (arith, most_more (length synced) changes (CutTo end), bounds.1, fits)

    pub cut_on : (d c : List ℕ) → IsLeft synced changes d → CutBack end d c → IsLeft synced cut c
    cut_on d c left back = record {
      least = omega (arith, cut_least, left.least, back.kept);
      most = omega (arith, cut_most, left.most, back.within);
      stays = λ i lt spared.
          let parts = untouched_front i changes (CutTo end) spared in
          let there = untouched_within i (length synced) changes lt parts.0 in
          back.stays i parts.1 (omega (arith, left.least, back.kept, there, parts.1)) ∙ left.stays i lt parts.0;
    }

    pub cut_from : (c : List ℕ) → IsLeft synced cut c → (d : List ℕ) × IsLeft synced changes d × CutBack end d c
    cut_from c left =
        let n = max (length c) least in
        let d = patched synced c end (length synced) n in
        let long : length d ≡ n = patched_size synced c end (length synced) n in
        let low : min least end ≤ length c = omega (arith, cut_least, left.least) in
        let high : length c ≤ most = omega (arith, cut_most, left.most) in (
          d,
          record {
            least = omega (arith, long);
            most = omega (arith, long, high, bounds.0, bounds.1);
            stays = λ i lt spared.
                let there = untouched_within i (length synced) changes lt spared in
                patched_at synced c end (length synced) n i (omega (arith, there))
                ∙ ⊎_elim
                (λ early. before synced c end (length synced) i early ∙ left.stays i lt (untouched_more i changes (CutTo end) spared early))
                (λ from. within synced c end (length synced) i from (omega (arith, lt)) lt)
                (over_or_under end i);
          },
          record {
            kept = omega (arith, long, low);
            within = omega (arith, long);
            stays = λ i early lt. sym (patched_at synced c end (length synced) n i (omega (arith, lt)) ∙ before synced c end (length synced) i early);
          },
        )

-- ---- all steps

-- the sizes before and after a step
module _ (s : Step) (file : List ℕ) (fits : FitsStep s file) where
  abbrev old : List ℕ
  old = before_step s file

  old_size : length old ≡ s.at + (length s.gone + (length file - (s.at + s.len)))
  old_size =
      omega (
        arith,
        length-append (take s.at file) (s.gone ++ drop (s.at + s.len) file),
        length-append s.gone (drop (s.at + s.len) file),
        length-drop (s.at + s.len) file,
        length-take-le s.at file (omega (arith, fits.within)),
      )

  piece_size : length (take s.len (drop s.at file)) ≡ s.len
  piece_size = length-take-le s.len (drop s.at file) (omega (arith, length-drop s.at file, fits.within))

  pub sizes : size_after (change_of s file) (length old) ≡ length file
  sizes = by_cuts s.cuts refl
    where
      by_cuts : (b : Bool) → s.cuts ≡ b → size_after (if b then CutTo s.at else Wrote s.at (take s.len (drop s.at file))) (length old) ≡ length file
      by_cuts true on = fits.cut on
      by_cuts false off = ⊎_elim
          (λ less. omega (arith, old_size, piece_size, fits.within, less, fits.grown off less))
          (λ more. omega (arith, old_size, piece_size, fits.within, more, fits.replaced off))
          (over_or_under s.len (length s.gone))

-- a step done whole
tears_whole : (s : Step) (file : List ℕ) → FitsStep s file → Tears s (before_step s file) file
tears_whole s file fits = subst (Tears s (before_step s file)) (redone s file fits) (by_cuts s.cuts refl)
  where
    old : List ℕ
    old = before_step s file

    by_cuts : (b : Bool) → s.cuts ≡ b
        → (let c = done_by (if b then CutTo s.at else Wrote s.at (take s.len (drop s.at file))) old in MatchBool b (CutBack s.at old c) (Torn s.at s.len old c))
    by_cuts true on = cut_whole s.at old
    by_cuts false off =
        subst (λ (n : ℕ). Torn s.at n old (with_piece old s.at (take s.len (drop s.at file)))) (piece_size s file fits)
        (torn_whole s.at (take s.len (drop s.at file)) old (omega (arith, old_size s file fits)))

-- a step further, and back
module _ (s : Step) (file : List ℕ) (fits : FitsStep s file) (synced : List ℕ) (changes : List Change) (size_is : size synced changes ≡ length (before_step s file)) where
  abbrev change : Change
  change = change_of s file

  pub on : (d c : List ℕ) → IsLeft synced changes d → Tears s d c → IsLeft synced (changes ++ change ∷ []) c
  on d c left tears = by_cuts s.cuts tears
    where
      piece : List ℕ
      piece = take s.len (drop s.at file)

      by_cuts : (b : Bool) → MatchBool b (CutBack s.at d c) (Torn s.at s.len d c) → IsLeft synced (changes ++ (if b then CutTo s.at else Wrote s.at piece) ∷ []) c
      by_cuts true back = cut_on synced changes s.at (omega (arith, size_is, old_size s file fits)) d c left back
      by_cuts false torn = write_on synced changes s.at piece d c left (subst (λ (n : ℕ). Torn s.at n d c) (sym (piece_size s file fits)) torn)

  pub back : (c : List ℕ) → IsLeft synced (changes ++ change ∷ []) c → (d : List ℕ) × IsLeft synced changes d × Tears s d c
  back c left = by_cuts s.cuts left
    where
      piece : List ℕ
      piece = take s.len (drop s.at file)

      by_cuts : (b : Bool) → IsLeft synced (changes ++ (if b then CutTo s.at else Wrote s.at piece) ∷ []) c
          → (d : List ℕ) × IsLeft synced changes d × MatchBool b (CutBack s.at d c) (Torn s.at s.len d c)
      by_cuts true here = cut_from synced changes s.at (omega (arith, size_is, old_size s file fits)) c here
      by_cuts false here =
          let found = write_back synced changes s.at piece c here in
          (found.0, found.1, subst (λ (n : ℕ). Torn s.at n found.0 c) (piece_size s file fits) found.2)

-- the size that is read is that after all changes
sizes_behind : (steps : List Step) (file : List ℕ) → Fits steps file → size (synced_in steps file) (changes_in steps file) ≡ length file
sizes_behind [] file fits = refl
sizes_behind (s ∷ earlier) file fits = by_synced s.synced (sizes_behind earlier (before_step s file) fits.1)
  where
    old : List ℕ
    old = before_step s file

    by_synced : (b : Bool) → size (synced_in earlier old) (changes_in earlier old) ≡ length old
        → size (if b then file else synced_in earlier old) (if b then [] else changes_in earlier old ++ change_of s file ∷ []) ≡ length file
    by_synced true rest = refl
    by_synced false rest =
        size_more (length (synced_in earlier old)) (changes_in earlier old) (change_of s file)
        ∙ ap (size_after (change_of s file)) rest ∙ sizes s file fits.0

-- where nothing was written
none_on : (file c : List ℕ) → c ≡ file → IsLeft file [] c
none_on file c is = record {
  least = omega (arith, ap length is);
  most = omega (arith, ap length is);
  stays = λ i lt spared. ap (λ (l : List ℕ). slice_index l i) is;
}

none_back : (file c : List ℕ) → IsLeft file [] c → c ≡ file
none_back file c left =
    let same : length c ≡ length file = omega (arith, left.least, left.most) in
    ext_get_or 0 c file same (λ i lt. left.stays i (omega (arith, lt, same)) tt)

pub left_is : (steps : List Step) (file : List ℕ) → Fits steps file → (c : List ℕ) → left_now steps file c
    → IsLeft (synced_in steps file) (changes_in steps file) c
left_is [] file fits c left = none_on file c left
left_is (s ∷ earlier) file fits c left = by_synced (left_is earlier (before_step s file) fits.1) s.synced left
  where
    old : List ℕ
    old = before_step s file

    go_on : (d : List ℕ) → IsLeft (synced_in earlier old) (changes_in earlier old) d → Tears s d c
        → IsLeft (synced_in earlier old) (changes_in earlier old ++ change_of s file ∷ []) c
    go_on d = on s file fits.0 (synced_in earlier old) (changes_in earlier old) (sizes_behind earlier old fits.1) d c

    by_synced : ((d : List ℕ) → left_now earlier old d → IsLeft (synced_in earlier old) (changes_in earlier old) d)
        → (b : Bool) → MatchBool b (c ≡ file) ((c ≡ file) ⊎ ((d : List ℕ) × left_now earlier old d × Tears s d c))
        → IsLeft (if b then file else synced_in earlier old) (if b then [] else changes_in earlier old ++ change_of s file ∷ []) c
    by_synced rest true is = none_on file c is
    by_synced rest false (inl is) =
        go_on old (rest old (reads_left_lem earlier old)) (subst (Tears s old) (sym is) (tears_whole s file fits.0))
    by_synced rest false (inr from) = go_on from.0 (rest from.0 from.1) from.2

pub is_left : (steps : List Step) (file : List ℕ) → Fits steps file → (c : List ℕ) → IsLeft (synced_in steps file) (changes_in steps file) c
    → left_now steps file c
is_left [] file fits c left = none_back file c left
is_left (s ∷ earlier) file fits c left = by_synced (is_left earlier (before_step s file) fits.1) s.synced left
  where
    old : List ℕ
    old = before_step s file

    by_synced : ((d : List ℕ) → IsLeft (synced_in earlier old) (changes_in earlier old) d → left_now earlier old d)
        → (b : Bool) → IsLeft (if b then file else synced_in earlier old) (if b then [] else changes_in earlier old ++ change_of s file ∷ []) c
        → MatchBool b (c ≡ file) ((c ≡ file) ⊎ ((d : List ℕ) × left_now earlier old d × Tears s d c))
    by_synced rest true here = none_back file c here
    by_synced rest false here =
        let from = back s file fits.0 (synced_in earlier old) (changes_in earlier old) (sizes_behind earlier old fits.1) c here in
        inr (from.0, rest from.0 from.1, from.2)
