-- Each journal gives the image of its house, once those that act have put theirs.
use Rattle.std.proofs.Common.{◌≡◌, ◌≢◌, ◌⊎◌, inl, inr, ℕ, ◌+◌, ◌≤◌, ◌==◌, Bool, true, false, ◌||◌, ◌&&◌, not, List, [], ◌∷◌, ◌++◌, refl, sym, ◌∙◌, ap, if◌then◌else◌, arith}
use Rattle.std.specs.Prelude.{Some, None, nat_lt}
use Rattle.std.specs.List.{last_or}
use Rattle.std.proofs.lemmas.Bool.Decides.{nat_tests}
use Rattle.cell_model.specs.Cells.{Cell}
use Rattle.cell_model.specs.Sets.{has}
use Rattle.cell_model.proofs.Views.{put_other, put_same}
use Rattle.cds_cell.specs.CommandImages.{octets_at}
use Rattle.journal_replay.specs.CellJournals.{Lists, JournaledCell, Put, has_to_put, puts_of, with_put, with_puts}
use Rattle.disk_journals.specs.KeptJournals.{is_last}
use Rattle.disk_journals.proofs.Lasts.{last_is, last_more}
use Rattle.journal_replay.specs.CellDisks.{GiveImages, image_in}

-- the image of a house that was made, and of one that was not
pub image_of_made : (g : Cell) (h : ℕ) → has h g.made ≡ true → image_in g h ≡ Some (octets_at g h)
image_of_made g h made = ap (λ (b : Bool). if b then Some (octets_at g h) else None) made

pub no_image : (g : Cell) (h : ℕ) → has h g.made ≡ false → image_in g h ≡ None
no_image g h made = ap (λ (b : Bool). if b then Some (octets_at g h) else None) made

-- a house that has an image was made
pub made_of_image : (g : Cell) (h : ℕ) (image : List ℕ) → image_in g h ≡ Some image → (has h g.made ≡ true) × (octets_at g h ≡ image)
made_of_image g h image is = by_made (has h g.made) refl is
  where
    by_made : (b : Bool) → has h g.made ≡ b → (if b then Some (octets_at g h) else None) ≡ Some image → (has h g.made ≡ true) × (octets_at g h ≡ image)
    by_made true made is = (made, cc)
    by_made false made is = absurd (cc)

pub unmade_of_none : (g : Cell) (h : ℕ) → image_in g h ≡ None → has h g.made ≡ false
unmade_of_none g h is = by_made (has h g.made) refl is
  where
    by_made : (b : Bool) → has h g.made ≡ b → (if b then Some (octets_at g h) else None) ≡ None → has h g.made ≡ false
    by_made true made is = absurd (cc)
    by_made false made is = made

-- a journal gives the image of its house, or that is still to be put
abbrev Given : Cell → List ℕ → Lists → ℕ → Type 0
Given g xs lists x = (last_or None (lists x) ≡ image_in g x) ⊎ ((has x xs ≡ true) × (has x g.made ≡ false → last_or None (lists x) ≡ None))

abbrev the_put : Cell → ℕ → Put
the_put g y = record { house = y; image = octets_at g y }

-- a house that puts its image was made
put_made : (g : Cell) (lists : Lists) (y : ℕ) → has_to_put g lists y ≡ true → has y g.made ≡ true
put_made g lists y is = by_test (nat_lt 0 y) (has y g.made) refl is
  where
    by_test : (a b : Bool) → has y g.made ≡ b → (a && (b && not (is_last (octets_at g y) (lists y)))) ≡ true → has y g.made ≡ true
    by_test true true made is = made
    by_test true false made is = absurd (cc)
    by_test false b made is = absurd (cc)

after_put : (g : Cell) (ys : List ℕ) (lists : Lists) (x y : ℕ) → has_to_put g lists y ≡ true → Given g (y ∷ ys) lists x → Given g ys (with_put (the_put g y) lists) x
after_put g ys lists x y is given = by_same (x == y) refl
  where
    here : x ≡ y → Given g ys (with_put (the_put g y) lists) x
    here same =
        let new : with_put (the_put g y) lists x ≡ lists y ++ octets_at g y ∷ [] =
        ap (with_put (the_put g y) lists) same ∙ put_same lists y (lists y ++ octets_at g y ∷ []) in
        inl (ap (last_or None) new ∙ last_more None (lists y) (octets_at g y) ∙ sym (image_of_made g y (put_made g lists y is)) ∙ ap (image_in g) (sym same))

    there : x ≢ y → (x == y) ≡ false → Given g (y ∷ ys) lists x → Given g ys (with_put (the_put g y) lists) x
    there other differs (inl gives) = inl (ap (last_or None) (put_other lists y (lists y ++ octets_at g y ∷ []) x other) ∙ gives)
    there other differs (inr due) =
        let old = put_other lists y (lists y ++ octets_at g y ∷ []) x other in
        inr (sym (ap (λ (b : Bool). b || has x ys) differs) ∙ due.0, λ unmade. ap (last_or None) old ∙ due.1 unmade)

    by_same : (b : Bool) → (x == y) ≡ b → Given g ys (with_put (the_put g y) lists) x
    by_same true e = let same : x ≡ y = grind (arith, nat_tests) in here same
    by_same false e = let other : x ≢ y = grind (arith, nat_tests) in there other e given

-- a house that puts nothing gives its image already
no_put : (g : Cell) (ys : List ℕ) (lists : Lists) (x y : ℕ) → 1 ≤ x → has_to_put g lists y ≡ false → Given g (y ∷ ys) lists x → Given g ys lists x
no_put g ys lists x y first is (inl gives) = inl gives
no_put g ys lists x y first is (inr due) = by_same (x == y) refl due.0
  where
    here : x ≡ y → Given g ys lists x
    here same = by_made (has y g.made) (is_last (octets_at g y) (lists y)) refl refl
      where
        some : nat_lt 0 y ≡ true
        some = grind (arith, nat_tests)

        by_made : (a b : Bool) → has y g.made ≡ a → is_last (octets_at g y) (lists y) ≡ b → Given g ys lists x
        by_made true true made last =
            inl (ap (λ n. last_or None (lists n)) same ∙ last_is (octets_at g y) (lists y) last ∙ sym (image_of_made g y made) ∙ ap (image_in g) (sym same))
        by_made true false made last = absurd (let e = rw (some, made, last) at is in cc)
        by_made false b made last =
            inl (due.1 (ap (λ n. has n g.made) same ∙ made) ∙ sym (no_image g y made) ∙ ap (image_in g) (sym same))

    by_same : (b : Bool) → (x == y) ≡ b → (b || has x ys) ≡ true → Given g ys lists x
    by_same true e stands = let same : x ≡ y = grind (arith, nat_tests) in here same
    by_same false e stands = inr (stands, due.1)

pub puts_give : (g : Cell) (xs : List ℕ) (lists : Lists) (x : ℕ) → 1 ≤ x → Given g xs lists x
    → last_or None (with_puts (puts_of g xs lists) lists x) ≡ image_in g x
puts_give g [] lists x first (inl gives) = gives
puts_give g [] lists x first (inr due) = absurd (let e = due.0 in cc)
puts_give g (y ∷ ys) lists x first given =
    by_put (has_to_put g lists y) refl (λ lists given. puts_give g ys lists x first given)
  where
    by_put : (b : Bool) → has_to_put g lists y ≡ b
        → ((lists : Lists) → Given g ys lists x → last_or None (with_puts (puts_of g ys lists) lists x) ≡ image_in g x)
        → last_or None (with_puts (if b then the_put g y ∷ puts_of g ys (with_put (the_put g y) lists) else puts_of g ys lists) lists x) ≡ image_in g x
    by_put true is later = later (with_put (the_put g y) lists) (after_put g ys lists x y is given)
    by_put false is later = later lists (no_put g ys lists x y first is given)

-- where a cell changes the images of houses that act alone, and makes others of them alone, the
-- journals give the images of all, once these are put
pub give_after : (s : JournaledCell) (g : Cell) (xs : List ℕ) → GiveImages s
    → ((x : ℕ) → has x xs ≡ false → image_in g x ≡ image_in s.cell x)
    → ((x : ℕ) → has x g.made ≡ false → has x s.cell.made ≡ false)
    → GiveImages (record { cell = g; lists = with_puts (puts_of g xs s.lists) s.lists })
give_after s g xs gives others grows i within = puts_give g xs s.lists (i + 1) (omega arith) (by_acts (has (i + 1) xs) refl)
  where
    by_acts : (b : Bool) → has (i + 1) xs ≡ b → Given g xs s.lists (i + 1)
    by_acts true acts = inr (acts, λ unmade. gives i within ∙ no_image s.cell (i + 1) (grows (i + 1) unmade))
    by_acts false stays = inl (gives i within ∙ sym (others (i + 1) stays))
