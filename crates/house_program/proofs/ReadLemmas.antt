-- Records that a house does again, one after the other.
use Rattle.std.proofs.Common.{◌≡◌, ◌≢◌, inl, inr, ℕ, List, [], ◌∷◌, ◌++◌, map, refl, sym, ◌∙◌, ap, subst, append_assoc, append-nil}
use Rattle.std.specs.Prelude.{Bool, false, if◌then◌else◌, codes}
use Rattle.std.proofs.lemmas.List.{map-append}
use Rattle.house_journal.specs.JournalRecords.{images}
use Rattle.house_program.specs.Beginnings.{body_in, is_other_head}
use Rattle.house_turns.specs.Openings.{EndsLife, OpensBy, RedoneBy, Redoes, Resumes, begins_with}
use Rattle.house_turns.specs.declared.house.House.{House}

-- one record more
redone_on : (h at next : House) (bodies : List (List ℕ)) (body : List ℕ) → RedoneBy h bodies at → Redoes at body next → RedoneBy h (bodies ++ body ∷ []) next
redone_on h at next [] body so more = (next, subst (λ (x : House). Redoes x body next) so more, refl)
redone_on h at next (b ∷ bodies) body so more = (so.0, so.1, redone_on so.0 at next bodies body so.2 more)

-- the records that were read were done again, and the others follow
pub record IsRedoing (octets rest : List ℕ) (old now : House) : Type 0 where
  pub done : List (List ℕ)
  pub split : images octets ≡ done ++ images rest
  pub redone : RedoneBy old (map body_in done) now

pub redoing_first : (octets : List ℕ) (old : House) → IsRedoing octets octets old old
redoing_first octets old = record { done = []; split = refl; redone = refl }

pub redoing_on : (octets rest : List ℕ) (old now next : House) (one behind : List ℕ) → IsRedoing octets rest old now → images rest ≡ one ∷ images behind
    → Redoes now (body_in one) next → IsRedoing octets behind old next
redoing_on octets rest old now next one behind so more redoes = record {
  done = so.done ++ one ∷ [];
  split = so.split ∙ ap (λ (l : List (List ℕ)). so.done ++ l) more ∙ sym (append_assoc so.done (one ∷ []) (images behind));
  redone =
      subst (λ (l : List (List ℕ)). RedoneBy old l next) (sym (map-append body_in so.done (one ∷ [])))
      (redone_on old now next (map body_in so.done) (body_in one) so.redone redoes);
}

pub redoing_ends : (octets rest : List ℕ) (old now : House) → IsRedoing octets rest old now → images rest ≡ [] → RedoneBy old (map body_in (images octets)) now
redoing_ends octets rest old now so none =
    subst (λ (l : List (List ℕ)). RedoneBy old (map body_in l) now)
    (sym (so.split ∙ ap (λ (l : List (List ℕ)). so.done ++ l) none ∙ append-nil so.done)) so.redone

-- a house that resumes, does the others again, and ends
pub opens : (records first others : List ℕ) (begun at opened : House) → images records ≡ first ∷ images others → Resumes (body_in first) begun
    → RedoneBy begun (map body_in (images others)) at → EndsLife at opened → OpensBy (map body_in (images records)) opened
opens records first others begun at opened split resumes redone ends = record {
  first = body_in first;
  others = map body_in (images others);
  begun = begun;
  at = at;
  split = ap (map body_in) split;
  resumes = resumes;
  redone = redone;
  ends = ends;
}

-- the head of another version
pub other_head : (head : List ℕ) (a b : Bool) → a ≡ begins_with (codes "cdshouse journal 2 ") head → a ≡ false
    → b ≡ begins_with (codes "cdshouse journal ") head → b ≡ is_other_head head
other_head head a b this not_this is =
    is ∙ sym (ap (λ (x : Bool). if x then false else begins_with (codes "cdshouse journal ") head) (sym this ∙ not_this))
