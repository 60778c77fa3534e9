-- The record of a house, and of a turn.
use Rattle.std.proofs.Common.{◌≡◌, ℕ, ◌+◌, ◌^◌, ◌<◌, List, length, subst, ap, ◌∙◌}
use Rattle.std.specs.Prelude.{Option, Some, None, Result, Ok, Err, IfOk, SomeIff}
use Rattle.std.specs.declared.alloc.AllocError.{AllocError}
use Rattle.house_entries.specs.Bodies.{body_of}
use Rattle.house_turns.specs.declared.house.House.{House}
use Rattle.house_turns.specs.Records.{HomeFits, IsRecord, IsTurnRecord, image_in}

-- the octets of a house as it is, with a text
pub record_body : {T : Type 0} (items : T → List ℕ) (r : Result T AllocError) (h : House) (text : List ℕ) (image : Option (List ℕ)) → h.entry < 2 ^ 64
    → h.clock < 2 ^ 64 → length text < 2 ^ 32 → image ≡ image_in h.home → HomeFits h.home → IfOk r (λ v. items v ≡ body_of h.entry h.clock text image)
    → IfOk r (λ v. IsRecord h text (items v))
record_body items (Err e) h text image numbered timed short same fits are = tt
record_body items (Ok v) h text image numbered timed short same fits are = record {
  body = record { numbered = numbered; timed = timed; short = short; octets_are = are ∙ ap (body_of h.entry h.clock text) same };
  fits = fits;
}

-- those of a turn
pub turn_body : {T : Type 0} (items : T → List ℕ) (r : Result T AllocError) (h : House) (text : List ℕ) → h.entry < 2 ^ 64 → h.clock < 2 ^ 64
    → length text < 2 ^ 32 → IfOk r (λ v. items v ≡ body_of h.entry h.clock text None) → IfOk r (λ v. IsTurnRecord h text (items v))
turn_body items (Err e) h text numbered timed short are = tt
turn_body items (Ok v) h text numbered timed short are =
    record { body = record { numbered = numbered; timed = timed; short = short; octets_are = are } }

-- the record of a turn is that of the house that keeps its text
pub turn_record : (h : House) (n : ℕ) (last kept text octets : List ℕ) → kept ≡ text → IsTurnRecord (record h { entry = n }) kept octets
    → IsTurnRecord (record h { entry = n; last = last }) text octets
turn_record h n last kept text octets same is =
    subst (λ (t : List ℕ). IsTurnRecord (record h { entry = n; last = last }) t octets) same (record { body = is.body })

-- the entry after a turn is the next one
pub counted_on : (o : Option ℕ) (entry n : ℕ) → SomeIff o (entry + 1 < 2 ^ 64) (entry + 1) → o ≡ Some n → n ≡ entry + 1
counted_on None entry n one is = absurd (cc)
counted_on (Some m) entry n one is =
    let same : n ≡ m = cc in
    same ∙ one.1

-- the house after a turn
pub turn_after : (h : House) (n : ℕ) (last text : List ℕ) → n ≡ h.entry + 1 → last ≡ text
    → record h { entry = n; last = last } ≡ record h { entry = h.entry + 1; last = text }
turn_after h n last text counted same =
    ap (λ (e : ℕ). record h { entry = e; last = last }) counted ∙ ap (λ (l : List ℕ). record h { entry = h.entry + 1; last = l }) same
