-- Lists of texts in one word, each read after the others.
use Rattle.std.proofs.Common.{◌≡◌, ℕ, Bor, Bool, true, false, List, [], ◌∷◌, ◌++◌, refl, sym, ap, ◌∙◌, append_assoc, append-nil, if◌then◌else◌}
use Rattle.std.specs.Prelude.{Option, Some, None, ◌==◌}
use Rattle.std.specs.Option.{option_map, option_map_or}
use Rattle.std.specs.List.{onto_first}
use Rattle.tower_codec.specs.BindingReading.{cut_at_mark}
use Rattle.cell_script.specs.NameService.{◌>>=◌, all_said, texts_of}

-- the texts of a list that is cut at its first comma
abbrev texts_cut : List ℕ → Option (List ℕ × List ℕ) → List (List ℕ)
texts_cut w None = w ∷ []
texts_cut w (Some p) = p.0 ∷ texts_of p.1

-- an octet in front of a list
abbrev octet_first : ℕ → Option (List ℕ × List ℕ) → Option (List ℕ × List ℕ)
octet_first c o = option_map (λ p. (c ∷ p.0, p.1)) o

onto_first_text : (c : ℕ) (w : List ℕ) (o : Option (List ℕ × List ℕ)) → onto_first c (texts_cut w o) ≡ texts_cut (c ∷ w) (octet_first c o)
onto_first_text c w None = refl
onto_first_text c w (Some p) = refl

-- the texts of a list are those of its first cut
texts_of-cut : (w : List ℕ) → texts_of w ≡ texts_cut w (cut_at_mark 44 w)
unfolding cut_at_mark
texts_of-cut [] = refl
texts_of-cut (c ∷ w) = one_more (c == 44) (texts_of-cut w)
  where
    one_more : (comma : Bool) → texts_of w ≡ texts_cut w (cut_at_mark 44 w)
        → (if comma then [] ∷ texts_of w else onto_first c (texts_of w))
        ≡ texts_cut (c ∷ w) (if comma then Some ([], w) else octet_first c (cut_at_mark 44 w))
    one_more true rest = refl
    one_more false rest = ap (onto_first c) rest ∙ onto_first_text c w (cut_at_mark 44 w)

-- the texts of a list with a comma
pub texts_at_cut : (w a b : List ℕ) → Some (a, b) ≡ cut_at_mark 44 w → texts_of w ≡ a ∷ texts_of b
texts_at_cut w a b is = texts_of-cut w ∙ ap (texts_cut w) (sym is)

-- the one text of a list without a comma
pub texts_uncut : (w : List ℕ) → None ≡ cut_at_mark 44 w → texts_of w ≡ w ∷ []
texts_uncut w is = texts_of-cut w ∙ ap (texts_cut w) (sym is)

-- what texts say, after what was said
abbrev pub behind : {A : Type 0} → List A → Option (List A) → Option (List A)
behind xs o = option_map (λ ys. xs ++ ys) o

-- what a text and the texts after it say
abbrev and_then : {A : Type 0} → Option A → Option (List A) → Option (List A)
and_then o a = o >>= λ x. a >>= λ xs. Some (x ∷ xs)

-- after nothing
pub behind_none : {A : Type 0} (xs : List A) (o : Option (List A)) → xs ≡ [] → behind xs o ≡ o
behind_none xs None none = refl
behind_none xs (Some ys) none = ap (λ zs. Some (zs ++ ys)) none

-- the texts that are left of a list
abbrev pub texts_left : Option (Bor (List ℕ)) → List (List ℕ)
texts_left rest = option_map_or (λ r. texts_of r.now) rest []

module _ {A : Type 0} (says : List ℕ → Option A) where
  -- one text more
  pub all_said-push : (xs now : List A) (all : List (List ℕ)) (t : List ℕ) (ts : List (List ℕ)) (x : A)
      → now ≡ xs ++ x ∷ [] → all ≡ t ∷ ts → Some x ≡ says t → behind now (all_said says ts) ≡ behind xs (all_said says all)
  unfolding all_said
  all_said-push xs now all t ts x more is one = ap (λ ys. behind ys (all_said says ts)) more ∙ moved (all_said says ts)
      ∙ ap (λ o. behind xs (and_then o (all_said says ts))) one ∙ ap (λ us. behind xs (all_said says us)) (sym is)
    where
      moved : (o : Option (List A)) → behind (xs ++ x ∷ []) o ≡ behind xs (and_then (Some x) o)
      moved None = refl
      moved (Some ys) = ap Some (append_assoc xs (x ∷ []) ys)

  -- a text that says nothing
  pub all_said-stops : (xs : List A) (all : List (List ℕ)) (t : List ℕ) (ts : List (List ℕ)) → all ≡ t ∷ ts → None ≡ says t
      → None ≡ behind xs (all_said says all)
  unfolding all_said
  all_said-stops xs all t ts is none = ap (λ o. behind xs (and_then o (all_said says ts))) none ∙ ap (λ us. behind xs (all_said says us)) (sym is)

  -- no more texts
  pub all_said-end : (xs : List A) (all : List (List ℕ)) → all ≡ [] → Some xs ≡ behind xs (all_said says all)
  unfolding all_said
  all_said-end xs all is = ap Some (sym (append-nil xs)) ∙ ap (λ us. behind xs (all_said says us)) (sym is)
