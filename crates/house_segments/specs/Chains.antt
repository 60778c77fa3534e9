-- Records that are chained: each ends in a digest of the digest before it and of itself.
use Rattle.std.specs.Prelude.{ℕ, List, [], ◌∷◌, ◌++◌}
use Rattle.sha2.specs.Sha256.{sha256}

-- the digest of a record with this body, after a record with this digest
abbrev pub digest_after : (before body : List ℕ) → List ℕ
digest_after before body = sha256 (before ++ body)

-- the octets of that record
abbrev pub sealed : (before body : List ℕ) → List ℕ
sealed before body = body ++ digest_after before body

-- the records with these bodies, one after the other
abbrev pub chained : (before : List ℕ) → (bodies : List (List ℕ)) → List (List ℕ)
chained before [] = []
chained before (body ∷ bodies) = sealed before body ∷ chained (digest_after before body) bodies

-- the digest of the last of them
abbrev pub last_digest : (before : List ℕ) → (bodies : List (List ℕ)) → List ℕ
last_digest before [] = before
last_digest before (body ∷ bodies) = last_digest (digest_after before body) bodies
