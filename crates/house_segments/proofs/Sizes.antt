-- How large a segment is, by the bodies of its records.
use Rattle.std.proofs.Common.{◌≡◌, ℕ, ◌+◌, ◌<◌, ◌^◌, List, [], ◌∷◌, ◌++◌, length, refl, ap, subst, append_assoc, arith, length-append, length-drop}
use Rattle.std.specs.Prelude.{Result, Ok, Err, IsErrAnd}
use Rattle.sha2.proofs.Facts256.{length-sha256}
use Rattle.house_journal.specs.declared.disk.Disk.{Ghosts}
use Rattle.house_journal.specs.JournalRecords.{IsAtRest, images}
use Rattle.house_journal.proofs.Records.{AreRecords, images_of, joined, rests}
use Rattle.house_segments.specs.Chains.{chained, digest_after}
use Rattle.house_segments.specs.Segments.{IsAt, place_of, size_with}
use Rattle.house_segments.specs.declared.segment.Segment.{Segment}

-- the octets of a list of records and of the gate that ends it
abbrev octets_in : List (List ℕ) → ℕ
octets_in [] = 1
octets_in (record_octets ∷ records) = octets_in records + 9 + length record_octets

joined_size : (rs : List (List ℕ)) → AreRecords rs → octets_in (images_of rs) ≡ length (joined rs) + 1
joined_size [] are = refl
joined_size (r ∷ rs) are =
    let rest = joined_size rs are.1 in
    let sized = are.0.sized in
    omega (arith, rest, sized, length-append r (joined rs), length-drop 9 r)

chained_size : (before : List ℕ) (bodies : List (List ℕ)) → octets_in (chained before bodies) ≡ size_with bodies
chained_size before [] = refl
chained_size before (body ∷ bodies) =
    let rest = chained_size (digest_after before body) bodies in
    let digest = length-sha256 (before ++ body) in
    omega (arith, rest, digest, length-append body (digest_after before body))

-- the fault that a call passes on
pub the_fault : {T E : Type 0} (r : Result T E) (e x : E) → IsErrAnd r (λ s. s ≡ e) → r ≡ Err x → e ≡ x
the_fault (Ok t) e x is full = absurd is
the_fault {T} (Err s) e x is full = cc (is, full)

-- one body more
pub size_more : (bodies : List (List ℕ)) (body : List ℕ) → size_with (bodies ++ body ∷ []) ≡ size_with bodies + 41 + length body
size_more [] body = refl
size_more (b ∷ bodies) body = let more = size_more bodies body in omega (arith, more)

-- the gate that ends a segment is its last octet
pub size_at : {D : Type 0} (g : Ghosts D) (s : Segment D) (before : List ℕ) (bodies : List (List ℕ)) → IsAt g s before bodies → size_with bodies ≡ place_of s + 1
size_at g s before bodies at =
    let r = rests (g.reads s.disk) (place_of s) at.ready.rest in
    let whole = joined_size r.records r.are in
    let same = ap octets_in r.images in
    let chain = ap octets_in at.records in
    let bodies_are = chained_size before bodies in
    let size = r.size in
    omega (arith, whole, same, chain, bodies_are, size)

-- a record has no room
pub no_room : {D : Type 0} (g : Ghosts D) (s : Segment D) (before : List ℕ) (bodies : List (List ℕ)) (body : List ℕ) → IsAt g s before bodies
    → 2 ^ 40 < place_of s + length body + 42 → 2 ^ 40 < size_with (bodies ++ body ∷ [])
no_room g s before bodies body at large =
    let size = size_at g s before bodies at in
    let more = size_more bodies body in
    omega (arith, size, more, large)

-- the first of two has none
pub no_room_for_two : (bodies : List (List ℕ)) (first second : List ℕ) → 2 ^ 40 < size_with (bodies ++ first ∷ [])
    → 2 ^ 40 < size_with (bodies ++ first ∷ second ∷ [])
no_room_for_two bodies first second large =
    let less = size_two bodies in
    omega (arith, less, large)
  where
    size_two : (b : List (List ℕ)) → size_with (b ++ first ∷ second ∷ []) ≡ size_with (b ++ first ∷ []) + 41 + length second
    size_two [] = omega arith
    size_two (x ∷ b) = let more = size_two b in omega (arith, more)

-- the second has none
pub second_has_none : (bodies : List (List ℕ)) (first second : List ℕ) → 2 ^ 40 < size_with ((bodies ++ first ∷ []) ++ second ∷ [])
    → 2 ^ 40 < size_with (bodies ++ first ∷ second ∷ [])
second_has_none bodies first second large =
    subst (λ (l : List (List ℕ)). 2 ^ 40 < size_with l) (append_assoc bodies (first ∷ []) (second ∷ [])) large
