-- Calls that only read, one after another; and what the head of a record says.
use Rattle.std.proofs.Common.{◌≡◌, inl, inr, ⊎_elim, ℕ, ◌+◌, ◌-◌, ◌≤◌, ◌<◌, ◌==◌, nat_le, true, false, List, length, take, drop, slice_index}
use Rattle.std.proofs.Common.{refl, sym, ◌∙◌, ap, arith, length-drop}
use Rattle.std.proofs.lemmas.List.{drop-drop, get_or-take}
use Rattle.std.proofs.lemmas.Bool.{and_from, and_left, and_right, eq-eqb, ne_eqb, le-leb, lt-leb}
use Rattle.std.specs.Int.{w64, from_be_bytes}
use Rattle.house_journal.specs.declared.disk.Disk.{Ghosts}
use Rattle.house_journal.specs.Disks.{OnlyReads}
use Rattle.std.specs.Prelude.{Option, Some}
use Rattle.std.specs.List.{last_or}
use Rattle.house_journal.specs.JournalRecords.{is_open, length_at, gate_of, images, last_image}
use Rattle.house_journal.proofs.Records.{opened, counted, closed, uncounted}

module _ {D : Type 0} (g : Ghosts D) where
  abbrev pub Reads : D → D → Type 0
  Reads old new = OnlyReads g.reads g.told g.may_leave g.moment g.left_since old new

  pub reads_none : (d : D) → Reads d d
  reads_none d = record {
    same = refl;
    tells = refl;
    crash = λ c left. left;
    time = record { later = omega arith; nothing_else = λ t c le left. inl left; keeps = λ t c le left. left };
  }

  pub reads_over : ((d : D) (t : ℕ) (c : List ℕ) → t ≤ g.moment d → g.may_leave d c → g.left_since d t c) → (a b d : D) → Reads a b → Reads b d → Reads a d
  reads_over counts a b d first second = record {
    same = second.same ∙ first.same;
    tells = second.tells ∙ first.tells;
    crash = λ c left. first.crash c (second.crash c left);
    time = record {
      later = omega (arith, first.time.later, second.time.later);
      nothing_else = λ t c le left. ⊎_elim
          (λ mid. ⊎_elim (λ was. inl was) (λ now. inl (counts a t c le (first.crash c now))) (first.time.nothing_else t c le mid))
          (λ now. inr now)
          (second.time.nothing_else t c (omega (arith, le, first.time.later)) left);
      keeps = λ t c le left. second.time.keeps t c (omega (arith, le, first.time.later)) (first.time.keeps t c le left);
    };
  }

-- a head that was read says what is at the place
module _ (file : List ℕ) (at : ℕ) (gate head : List ℕ) (one : gate ≡ take 1 (drop at file)) (eight : head ≡ take 8 (drop (at + 1) file)) (long : at + 10 ≤ length file)
  where
    abbrev f : List ℕ
    f = drop at file

    size : length f ≡ length file - at
    size = length-drop at file

    gate_is : slice_index gate 0 ≡ slice_index f 0
    gate_is = ap (λ (l : List ℕ). slice_index l 0) one ∙ get_or-take 1 f 0 0 (omega arith)

    len_is : from_be_bytes w64 head ≡ length_at f
    len_is = ap (from_be_bytes w64) (eight ∙ ap (take 8) (sym (drop-drop 1 at file)))

    pub head_opens : slice_index gate 0 ≡ 1 → from_be_bytes w64 head ≤ length file - at - 10
        → (is_open f ≡ true) × (from_be_bytes w64 head ≡ length_at f) × (at + from_be_bytes w64 head + 10 ≤ length file)
    head_opens on few = (
      and_from (slice_index f 0 == 1) (nat_le (length_at f + 10) (length f)) (eq-eqb (slice_index f 0) 1 (sym gate_is ∙ on))
          (le-leb (length_at f + 10) (length f) (omega (arith, few, len_is, size, long))),
      len_is,
      omega (arith, few, long),
    )

    pub gate_shuts : (slice_index gate 0 ≡ 1 → ⊥) → is_open f ≡ false
    gate_shuts off = and_left (slice_index f 0 == 1) (nat_le (length_at f + 10) (length f)) (ne_eqb (slice_index f 0) 1 (λ on. off (gate_is ∙ on)))

    pub length_shuts : length file - at - 10 < from_be_bytes w64 head → is_open f ≡ false
    length_shuts more = and_right (slice_index f 0 == 1) (nat_le (length_at f + 10) (length f)) (lt-leb (length_at f + 10) (length f) (omega (arith, more, len_is, size, long)))

-- fewer than ten octets are no record
pub few_shut : (f : List ℕ) → length f < 10 → is_open f ≡ false
few_shut f few = and_right (slice_index f 0 == 1) (nat_le (length_at f + 10) (length f)) (lt-leb (length_at f + 10) (length f) (omega (arith, few)))

-- a record further
pub gate_on : (file : List ℕ) (at n : ℕ) → is_open (drop at file) ≡ true → n ≡ length_at (drop at file) → gate_of file ≡ at + gate_of (drop at file)
    → gate_of file ≡ at + (n + 9) + gate_of (drop (at + (n + 9)) file)
gate_on file at n is len so_far =
    let next = counted (drop at file) is in
    let more : gate_of (drop (length_at (drop at file) + 9) (drop at file)) ≡ gate_of (drop (at + (n + 9)) file) =
    ap gate_of (drop-drop (length_at (drop at file) + 9) at file ∙ ap (λ (k : ℕ). drop (at + (k + 9)) file) (sym len)) in
    omega (arith, next, more, so_far, len)

pub gate_ends : (file : List ℕ) (at : ℕ) → is_open (drop at file) ≡ false → gate_of file ≡ at + gate_of (drop at file) → at ≡ gate_of file
gate_ends file at shut so_far = let none = uncounted (drop at file) shut in omega (arith, none, so_far)

-- and the last image so far
pub last_on : (file : List ℕ) (at n : ℕ) → is_open (drop at file) ≡ true → n ≡ length_at (drop at file) → (so_far : Option (List ℕ))
    → last_image file ≡ last_or so_far (images (drop at file))
    → last_image file ≡ last_or (Some (take n (drop (at + 9) file))) (images (drop (at + (n + 9)) file))
last_on file at n is len so_far last =
    let k = length_at (drop at file) in
    last ∙ ap (last_or so_far) (opened (drop at file) is)
    ∙ ap (λ (l : List ℕ). last_or (Some (take k l)) (images (drop (k + 9) (drop at file)))) (drop-drop 9 at file)
    ∙ ap (λ (l : List ℕ). last_or (Some (take k (drop (at + 9) file))) (images l)) (drop-drop (k + 9) at file)
    ∙ ap (λ (j : ℕ). last_or (Some (take j (drop (at + 9) file))) (images (drop (at + (j + 9)) file))) (sym len)

pub last_ends : (file : List ℕ) (at : ℕ) → is_open (drop at file) ≡ false → (so_far : Option (List ℕ))
    → last_image file ≡ last_or so_far (images (drop at file)) → so_far ≡ last_image file
last_ends file at shut so_far last = sym (last ∙ ap (last_or so_far) (closed (drop at file) shut))
