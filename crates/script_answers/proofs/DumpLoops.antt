-- The lines of a map's entries, as a loop puts them one after another.
use Rattle.std.proofs.Common.{◌≡◌, ℕ, List, [], ◌∷◌, ◌++◌, refl, sym, ap, subst, ◌∙◌, append_assoc, append-nil}
use Rattle.std.proofs.lemmas.List.Concat.{flat_map-append}
use Rattle.script_answers.specs.Texts.{line_text, lines_text, lines_of_each}

-- octets that are put after others, which were put after the old ones
pub behind : (old x y out new : List ℕ) → out ≡ old ++ x → new ≡ out ++ y → new ≡ old ++ (x ++ y)
behind old x y out new e f = f ∙ ap (λ (z : List ℕ). z ++ y) e ∙ append_assoc old x y

-- lines after others
pub lines_behind : (number : ℕ) (ls ms : List (List ℕ)) → lines_text number (ls ++ ms) ≡ lines_text number ls ++ lines_text number ms
lines_behind number ls ms = flat_map-append (line_text number) ls ms

module _ {X : Type 0} (lines : List ℕ → X → List (List ℕ)) (number : ℕ) where
  -- of all these entries, all but the rest are written
  pub record Written (all rest : List (List ℕ × X)) (old out : List ℕ) : Type 0 where
    pub octets : out ++ lines_text number (lines_of_each lines rest) ≡ old ++ lines_text number (lines_of_each lines all)

  -- before the first entry nothing is written
  pub writing_begins : (all rest : List (List ℕ × X)) (old : List ℕ) → rest ≡ all → Written all rest old old
  writing_begins all rest old e = subst (λ r. Written all r old old) (sym e) (record { octets = refl })

  -- an entry that was written brings the loop one further
  pub writing_goes_on : (all es rest : List (List ℕ × X)) (k : List ℕ) (x : X) (old out new : List ℕ) → es ≡ (k, x) ∷ rest
      → Written all es old out → new ≡ out ++ lines_text number (lines k x) → Written all rest old new
  unfolding lines_of_each
  writing_goes_on all es rest k x old out new first so_far written =
      let h : Written all ((k, x) ∷ rest) old out = subst (λ r. Written all r old out) first so_far in record {
        octets =
            ap (λ (z : List ℕ). z ++ lines_text number (lines_of_each lines rest)) written
            ∙ append_assoc out (lines_text number (lines k x)) (lines_text number (lines_of_each lines rest))
            ∙ ap (λ (z : List ℕ). out ++ z) (sym (lines_behind number (lines k x) (lines_of_each lines rest))) ∙ h.octets;
      }

  -- after the last entry all are written
  pub writing_ends : (all rest : List (List ℕ × X)) (old out : List ℕ) → rest ≡ [] → Written all rest old out
      → out ≡ old ++ lines_text number (lines_of_each lines all)
  unfolding lines_of_each
  writing_ends all rest old out none so_far =
      let h : Written all [] old out = subst (λ r. Written all r old out) none so_far in
      sym (append-nil out) ∙ h.octets
