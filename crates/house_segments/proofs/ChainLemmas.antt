-- A chain that grows by one record, and what a crash leaves of a segment that is as it was.
use Rattle.std.proofs.Common.{◌≡◌, inl, inr, ⊎_elim, ℕ, List, [], ◌∷◌, ◌++◌, refl, sym, ◌∙◌, ap, take, false}
use Rattle.house_journal.specs.declared.disk.Disk.{Ghosts}
use Rattle.house_journal.specs.Journals.{IsReady}
use Rattle.house_segments.specs.declared.segment.Segment.{Segment}
use Rattle.house_journal.specs.JournalRecords.{gate_of, images, images_after, octets_after, IsBeforeOrAfter}
use Rattle.house_segments.specs.Chains.{chained, digest_after, last_digest, sealed}
use Rattle.house_segments.specs.Segments.{IsAt, IsWithOrWithout}

-- one record more
pub chained-append : (before : List ℕ) (bodies : List (List ℕ)) (body : List ℕ)
    → chained before (bodies ++ body ∷ []) ≡ chained before bodies ++ sealed (last_digest before bodies) body ∷ []
chained-append before [] body = refl
chained-append before (b ∷ bodies) body =
    ap (λ (l : List (List ℕ)). sealed before b ∷ l) (chained-append (digest_after before b) bodies body)

-- its digest
pub last_digest-append : (before : List ℕ) (bodies : List (List ℕ)) (body : List ℕ)
    → last_digest before (bodies ++ body ∷ []) ≡ digest_after (last_digest before bodies) body
last_digest-append before [] body = refl
last_digest-append before (b ∷ bodies) body = last_digest-append (digest_after before b) bodies body

-- an empty disk is a closed gate once it is opened: a list of no records
pub none_yet : images (take (gate_of []) [] ++ 0 ∷ []) ≡ []
unfolding images_after octets_after
none_yet = refl

-- what a put of a record leaves, by the bodies
pub by_bodies : (before : List ℕ) (bodies : List (List ℕ)) (body digest octets : List ℕ) (was : List (List ℕ))
    → was ≡ chained before bodies → digest ≡ last_digest before bodies → octets ≡ body ++ digest_after digest body
    → (c : List ℕ) → IsBeforeOrAfter was octets c → IsWithOrWithout before bodies body c
by_bodies before bodies body digest octets was is last whole c left =
    ⊎_elim (λ old. inl (old ∙ is))
    (λ new. inr (new ∙ ap (λ (l : List (List ℕ)). l ++ octets ∷ []) is
    ∙ ap (λ (r : List ℕ). chained before bodies ++ r ∷ []) (whole ∙ ap (λ (d : List ℕ). sealed d body) last)
    ∙ sym (chained-append before bodies body)))
    left.0

-- a disk that was empty, after it was opened
pub none_opened : (now was : List ℕ) → now ≡ take (gate_of was) was ++ 0 ∷ [] → was ≡ [] → images now ≡ []
none_opened now was rests empty = ap images (rests ∙ ap (λ (f : List ℕ). take (gate_of f) f ++ 0 ∷ []) empty) ∙ none_yet

-- a journal that was opened on an empty disk has no record yet
pub none_begun : {D : Type 0} (g : Ghosts D) (s : Segment D) (before : List ℕ) → IsReady g s.disk s.journal.place → s.journal.broken ≡ false
    → images (g.reads s.disk) ≡ [] → s.digest ≡ before → IsAt g s before []
none_begun g s before ready whole none digest = record {
  ready = ready;
  whole = whole;
  records = none;
  digest = digest;
}
