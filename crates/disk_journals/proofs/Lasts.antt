-- The last image of a journal.
use Rattle.std.proofs.Common.{◌≡◌, ◌≢◌, ℕ, Bool, true, false, List, [], ◌∷◌, ◌++◌, refl, sym, ◌∙◌, ap, if◌then◌else◌}
use Rattle.std.specs.Prelude.{Option, Some, None}
use Rattle.std.specs.List.{last_or}
use Rattle.std.specs.Option.{option_map_or}
use Rattle.std.specs.Str.{bytes_eq}
use Rattle.std.proofs.lemmas.Slice.Eq.{bytes_eq-Decides}
use Rattle.disk_journals.specs.KeptJournals.{is_last, noted_image}

-- the last of a list with one more
pub last_more : {A : Type 0} (o : Option A) (xs : List A) (x : A) → last_or o (xs ++ x ∷ []) ≡ Some x
last_more o [] x = refl
last_more o (y ∷ xs) x = last_more (Some y) xs x

-- an image that is the last
pub last_is : (image : List ℕ) (list : List (List ℕ)) → is_last image list ≡ true → last_or None list ≡ Some image
last_is image list is = by_last (last_or None list) refl is
  where
    by_last : (o : Option (List ℕ)) → last_or None list ≡ o → option_map_or (bytes_eq image) o false ≡ true → last_or None list ≡ Some image
    by_last None last is = absurd (cc)
    by_last (Some i) last is = last ∙ ap Some (sym ((bytes_eq-Decides image i).0 is))

-- and one that is not
pub last_is_not : (image : List ℕ) (list : List (List ℕ)) → last_or None list ≢ Some image → is_last image list ≡ false
last_is_not image list other = by_test (is_last image list) refl
  where
    by_test : (b : Bool) → is_last image list ≡ b → b ≡ false
    by_test true is = absurd (other (last_is image list is))
    by_test false is = refl

pub last_same : (image : List ℕ) (list : List (List ℕ)) → last_or None list ≡ Some image → is_last image list ≡ true
last_same image list last = ap (λ (o : Option (List ℕ)). option_map_or (bytes_eq image) o false) last ∙ (bytes_eq-Decides image image).1 refl

-- an image that is the last is noted already
pub noted_last : (image : List ℕ) (list : List (List ℕ)) → is_last image list ≡ true → noted_image image list ≡ list
noted_last image list is = ap (λ (b : Bool). if b then list else list ++ image ∷ []) is

pub noted_new : (image : List ℕ) (list : List (List ℕ)) → is_last image list ≡ false → noted_image image list ≡ list ++ image ∷ []
noted_new image list is = ap (λ (b : Bool). if b then list else list ++ image ∷ []) is
