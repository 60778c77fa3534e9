-- How many directories a cell has, and their greatest epoch.
use Rattle.std.proofs.Common.{◌≡◌, ℕ, zero, suc, ◌+◌, ◌≤◌, ◌⊎◌, inl, inr, false, List, [], ◌∷◌, length, refl, sym, ◌∙◌, subst, arith, ⊎_elim}
use Rattle.std.specs.Prelude.{Option, Some, None, max, slice_get, ◌==◌}
use Rattle.std.proofs.lemmas.Bool.{cases_lt}
use Rattle.std.proofs.lemmas.Bool.Decides.{nat_tests}
use Rattle.cell_model.specs.Cells as model
use Rattle.cds_cell.specs.declared.cell.Cell.{Cell}
use Rattle.cds_cell.specs.declared.console.Listing.{Listing}
use Rattle.cds_cell.specs.ModelCells.{IsGreatestEpoch, StandsAs, StandsListing, directory_count, directory_of, greatest_epoch}

-- the console has as many directories as the model
pub directories_counted : (c : Cell) (g : model.Cell) → StandsAs c g → length c.directories.items ≡ directory_count g
directories_counted c g s = by_list c.directories.items (s.directories 1) s.next
  where
    by_list : (ls : List Listing) → StandsListing (directory_of ls 1) g 1 → g.next_dir ≡ max 2 (length ls + 1) → length ls ≡ directory_count g
    by_list [] none next = rw none refl
    by_list (l ∷ ls) known next =
        let there : (g.top 1 == 0) ≡ false = grind (arith, nat_tests, known.0, known.1) in
        rw there (omega (arith, next))

-- ---- epochs

-- no directory has a greater epoch
epoch_within : (ls : List Listing) (i : ℕ) (l : Listing) → slice_get ls i ≡ Some l → l.epoch.0 ≤ greatest_epoch ls
epoch_within [] i l is = absurd (cc)
epoch_within (k ∷ ks) zero l is = let same : k ≡ l = cc in subst (λ (z : Listing). z.epoch.0 ≤ max k.epoch.0 (greatest_epoch ks)) same (omega arith)
epoch_within (k ∷ ks) (suc i) l is = let rest = epoch_within ks i l is in omega (arith, rest)

-- a directory of the console with the greatest epoch
record HasGreatest (ls : List Listing) : Type 0 where
  pub place : ℕ
  pub listing : Listing
  pub there : slice_get ls place ≡ Some listing
  pub greatest : listing.epoch.0 ≡ greatest_epoch ls

-- there is one, or no epoch at all
epoch_there : (ls : List Listing) → (greatest_epoch ls ≡ 0) ⊎ HasGreatest ls
epoch_there [] = inl refl
epoch_there (k ∷ ks) =
    ⊎_elim
    (λ less. ⊎_elim
    (λ none. absurd (omega (arith, less, none)))
    (λ (it : HasGreatest ks). let is = it.greatest in
    inr (record { place = suc it.place; listing = it.listing; there = it.there; greatest = omega (arith, less, is) }))
    (epoch_there ks))
    (λ least. inr (record { place = zero; listing = k; there = refl; greatest = omega (arith, least) }))
    (cases_lt k.epoch.0 (greatest_epoch ks))

-- the greatest epoch of the console is the model's
pub epochs_counted : (c : Cell) (g : model.Cell) → StandsAs c g → IsGreatestEpoch g (greatest_epoch c.directories.items)
epochs_counted c g s = record {
  given = ⊎_elim
      (λ none. (zero, s.directories zero ∙ sym none))
      (λ (it : HasGreatest c.directories.items). let known : StandsListing (Some it.listing) g (suc it.place) =
      subst (λ (o : Option Listing). StandsListing o g (suc it.place)) it.there (s.directories (suc it.place)) in
      (suc it.place, known.1 ∙ it.greatest))
      (epoch_there c.directories.items);
  greatest = within;
}
  where
    within : (d : ℕ) → g.top d ≤ greatest_epoch c.directories.items
    within zero = let none = s.directories zero in omega (arith, none)
    within (suc i) = by_listing (slice_get c.directories.items i) refl (s.directories (suc i))
      where
        by_listing : (o : Option Listing) → slice_get c.directories.items i ≡ o → StandsListing o g (suc i) → g.top (suc i) ≤ greatest_epoch c.directories.items
        by_listing None there none = omega (arith, none)
        by_listing (Some l) there known =
            let top = known.1 in
            let low = epoch_within c.directories.items i l there in
            omega (arith, top, low)
