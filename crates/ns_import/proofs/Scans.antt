-- A search passes over what was seen, and enters the first item that was not.
use Rattle.std.proofs.Common.{◌≡◌, ℕ, zero, suc, Bool, true, false, List, [], ◌∷◌, refl, sym, ap, ◌∙◌}
use Rattle.std.specs.Prelude.{if◌then◌else◌}
use Rattle.cds_stamps.specs.Firsts.{has}
use Rattle.ns_import.specs.DepthFirst.{behind_seen, enter_first, depth_first}
use Rattle.ns_import.proofs.Firsts.{or_right, Within, has_head, within_rest}

module _ {A : Type 0} (same : A → A → Bool) where
  -- an item in front that was seen is passed over
  behind_seen-old : (seen : List A) (f : A) (rest : List A) → has same f seen ≡ true → behind_seen same seen (f ∷ rest) ≡ behind_seen same seen rest
  behind_seen-old seen f rest e = ap (λ b. if b then behind_seen same seen rest else f ∷ rest) e

  -- one that was not stays in front
  pub behind_seen-new : (seen : List A) (f : A) (rest : List A) → has same f seen ≡ false → behind_seen same seen (f ∷ rest) ≡ f ∷ rest
  behind_seen-new seen f rest e = ap (λ b. if b then behind_seen same seen rest else f ∷ rest) e

  -- of items that were all seen nothing is left
  pub behind_seen-none : (seen rest : List A) → ((x : A) → same x x ≡ true) → Within same seen rest → behind_seen same seen rest ≡ []
  behind_seen-none seen [] itself w = refl
  behind_seen-none seen (f ∷ rest) itself w =
      behind_seen-old seen f rest (w f (has_head same itself f rest)) ∙ behind_seen-none seen rest itself (within_rest same seen f rest w)

  -- the item in front was not seen
  pub front_is_new : (seen rest : List A) (f : A) (fs : List A) → behind_seen same seen rest ≡ f ∷ fs → has same f seen ≡ false
  front_is_new seen [] f fs e = absurd cc
  front_is_new seen (g ∷ rest) f fs e = by_front (has same g seen) refl (front_is_new seen rest f fs) e
    where
      by_front : (b : Bool) → has same g seen ≡ b → (behind_seen same seen rest ≡ f ∷ fs → has same f seen ≡ false)
          → (if b then behind_seen same seen rest else g ∷ rest) ≡ f ∷ fs → has same f seen ≡ false
      by_front true old later d = later d
      by_front false new later d = let is : g ≡ f = cc in ap (λ z. has same z seen) (sym is) ∙ new

  -- what is left after what was seen waited
  front_waited : (seen rest : List A) → Within same rest (behind_seen same seen rest)
  front_waited seen [] x h = h
  front_waited seen (g ∷ rest) x h = by_front (has same g seen) (front_waited seen rest x) h
    where
      by_front : (b : Bool) → (has same x (behind_seen same seen rest) ≡ true → has same x rest ≡ true)
          → has same x (if b then behind_seen same seen rest else g ∷ rest) ≡ true → has same x (g ∷ rest) ≡ true
      by_front true later d = or_right (same x g) (has same x rest) (later d)
      by_front false later d = d

  -- and so did the item in front and what is left after it
  pub front_within : (seen rest : List A) (f : A) (fs : List A) → behind_seen same seen rest ≡ f ∷ fs → Within same rest (f ∷ fs)
  front_within seen rest f fs e x h = front_waited seen rest x (ap (has same x) e ∙ h)

module _ {A : Type 0} (same : A → A → Bool) (edges : A → List A) where
  -- searches of which the same is left after what was seen are one
  same_front : (steps : ℕ) (seen rest others : List A) → behind_seen same seen rest ≡ behind_seen same seen others
      → depth_first same edges steps seen rest ≡ depth_first same edges steps seen others
  same_front zero seen rest others e = refl
  same_front (suc k) seen rest others e = ap (enter_first same edges (λ s r. depth_first same edges k s r) seen) e

  -- where nothing is left after what was seen, the search is at its end
  pub depth_first_ends : (steps : ℕ) (seen rest : List A) → behind_seen same seen rest ≡ [] → depth_first same edges steps seen rest ≡ []
  depth_first_ends zero seen rest e = refl
  depth_first_ends (suc k) seen rest e = ap (enter_first same edges (λ s r. depth_first same edges k s r) seen) e

  -- no item waits: the search is at its end
  pub depth_first-none : (steps : ℕ) (seen : List A) → depth_first same edges steps seen [] ≡ []
  depth_first-none steps seen = depth_first_ends steps seen [] refl

  -- an item that was seen is passed over
  pub depth_first-old : (steps : ℕ) (seen : List A) (f : A) (rest : List A) → has same f seen ≡ true
      → depth_first same edges steps seen (f ∷ rest) ≡ depth_first same edges steps seen rest
  depth_first-old steps seen f rest e = same_front steps seen (f ∷ rest) rest (behind_seen-old same seen f rest e)

  -- what is left after what was seen is searched as all that waits
  pub depth_first-behind_seen : (steps : ℕ) (seen rest : List A)
      → depth_first same edges steps seen rest ≡ depth_first same edges steps seen (behind_seen same seen rest)
  depth_first-behind_seen steps seen rest = same_front steps seen rest (behind_seen same seen rest) (sym (again rest))
    where
      again : (xs : List A) → behind_seen same seen (behind_seen same seen xs) ≡ behind_seen same seen xs
      again [] = refl
      again (f ∷ fs) = by_front (has same f seen) refl (again fs)
        where
          by_front : (b : Bool) → has same f seen ≡ b → behind_seen same seen (behind_seen same seen fs) ≡ behind_seen same seen fs
              → behind_seen same seen (if b then behind_seen same seen fs else f ∷ fs) ≡ (if b then behind_seen same seen fs else f ∷ fs)
          by_front true old later = later
          by_front false new later = behind_seen-new same seen f fs new
