-- The words of the list of an epoch, one by one.
use Rattle.std.proofs.Common.{◌≡◌, ◌+◌, ℕ, suc, Bool, true, false, ◌&&◌, nat_le, List, [], ◌∷◌, ◌++◌, length, ap, sym, ◌∙◌, refl, if◌then◌else◌, append_assoc, append-nil, arith}
use Rattle.std.specs.Prelude.{Result, Ok, Err}
use Rattle.std.proofs.lemmas.Bool.{le-leb}
use Rattle.cds_stamps.specs.declared.alloc_or.AllocOr.{AllocOr}
use Rattle.cds_stamps.specs.declared.alloc_or.AllocOr.TheVariants.{Fault, OutOfMemory}
use Rattle.cds_stamps.specs.declared.members.Member.{Member}
use Rattle.cds_stamps.specs.declared.numbers.HouseNo.{HouseNo}
use Rattle.cds_stamps.specs.Outcomes.{Answers}
use Rattle.cell_script.specs.declared.fault.ParseFault.{ParseFault}
use Rattle.cell_script.specs.Words.{house_of}
use Rattle.cell_script.specs.WordForms.{◌>>=◌, Many, Takes, Words, each_word, said_at, take_words}
use Rattle.cell_script.proofs.Reading.{behind}
use Rattle.house_lines.specs.MemberWords.{is_dash, member_of}
use Rattle.house_lines.specs.Listings.{after_dash, before_dash, leaving_said, members_said}

-- a dash with a word after it parts a list
pub record Parts (w : List ℕ) (ws : List (List ℕ)) : Type 0 where
  pub before : before_dash (w ∷ ws) ≡ []
  pub after : after_dash (w ∷ ws) ≡ ws

pub parted : (w : List ℕ) (ws : List (List ℕ)) → (is_dash w && nat_le 1 (length ws)) ≡ true → Parts w ws
parted w [] is = absurd (by_dash (is_dash w) is)
  where
    by_dash : (b : Bool) → (b && false) ≡ true → ⊥
    by_dash true is = cc
    by_dash false is = cc
parted w (v ∷ ws) is = by_dash (is_dash w) refl (nat_le 1 (length (v ∷ ws))) is
  where
    by_dash : (b : Bool) → is_dash w ≡ b → (more : Bool) → (b && more) ≡ true → Parts w (v ∷ ws)
    by_dash true dash more is = record { before = rw dash refl; after = rw dash refl }
    by_dash false dash more is = absurd (cc)

-- any other word is before it
pub record Before (w : List ℕ) (ws : List (List ℕ)) : Type 0 where
  pub before : before_dash (w ∷ ws) ≡ w ∷ before_dash ws
  pub after : after_dash (w ∷ ws) ≡ after_dash ws

pub unparted : (w : List ℕ) (ws : List (List ℕ)) → (is_dash w && nat_le 1 (length ws)) ≡ false → Before w ws
unparted w [] is = record { before = refl; after = refl }
unparted w (v ∷ ws) is = by_dash (is_dash w) refl (nat_le 1 (length (v ∷ ws))) (le-leb 1 (length (v ∷ ws)) (omega arith)) is
  where
    by_dash : (b : Bool) → is_dash w ≡ b → (more : Bool) → more ≡ true → (b && more) ≡ false → Before w (v ∷ ws)
    by_dash true dash more there is = absurd (cc)
    by_dash false dash more there is = record { before = rw dash refl; after = rw dash refl }

-- what was said, without the words that are left
abbrev without_words : {A : Type 0} → Result (A × Words) ParseFault → Result A ParseFault
without_words (Ok p) = Ok p.0
without_words (Err e) = Err e

-- words that are taken as a list are that list
pub all_are_each : (r : Result (List HouseNo) (AllocOr ParseFault)) (s left : Words) → Takes r left (take_words (Many house_of) s)
    → Answers r (each_word house_of s.read s.rest)
unfolding take_words
all_are_each r s left takes = by_said (each_word house_of s.read s.rest) r takes
  where
    by_said : (said : Result (List HouseNo) ParseFault) (r : Result (List HouseNo) (AllocOr ParseFault))
        → Takes r left (said >>= λ xs. Ok (xs, (record { read = s.read + length s.rest; rest = [] })))
        → Answers r said
    by_said (Ok xs) (Ok h) takes = ap (λ (r : Result (List HouseNo × Words) ParseFault). without_words r) takes
    by_said (Ok xs) (Err (Fault f)) takes = absurd (cc)
    by_said (Ok xs) (Err OutOfMemory) takes = tt
    by_said (Err e) (Ok h) takes = absurd (cc)
    by_said (Err e) (Err (Fault f)) takes = cc
    by_said (Err e) (Err OutOfMemory) takes = tt

-- ---- members, word by word

-- the members up to here, and the words that are left
pub record IsReading (first : Member) (s : Words) (ms : List Member) (now : Words) : Type 0 where
  pub said : members_said first s ≡ behind ms (each_word member_of now.read (before_dash now.rest))
  pub leaving : after_dash s.rest ≡ after_dash now.rest
  pub read : now.read + length (before_dash now.rest) ≡ s.read + length (before_dash s.rest)

pub reading_begins : (first : Member) (s : Words) → IsReading first s (first ∷ []) s
reading_begins first s = record { said = refl; leaving = refl; read = refl }

-- no word is left to be a member
last_said : (first : Member) (s now : Words) (ms : List Member) → IsReading first s ms now → before_dash now.rest ≡ [] → members_said first s ≡ Ok ms
last_said first s now ms so none =
    so.said ∙ ap (λ (l : List (List ℕ)). behind ms (each_word member_of now.read l)) none ∙ ap (λ (l : List Member). Ok l) (append-nil ms)

-- the words end
pub reading_ends : (first : Member) (s now : Words) (ms : List Member) → IsReading first s ms now → now.rest ≡ []
    → (members_said first s ≡ Ok ms) × (each_word house_of now.read now.rest ≡ leaving_said s)
reading_ends first s now ms so none =
    let after : after_dash s.rest ≡ [] = so.leaving ∙ ap (λ (l : List (List ℕ)). after_dash l) none in
    let read = s.read + length (before_dash s.rest) + 1 in (
      last_said first s now ms so (ap (λ (l : List (List ℕ)). before_dash l) none),
      ap (λ (l : List (List ℕ)). each_word house_of now.read l) none ∙ sym (ap (λ (l : List (List ℕ)). each_word house_of read l) after),
    )

-- a dash parts them
pub reading_parts : (first : Member) (s now next : Words) (ms : List Member) (w : List ℕ) → IsReading first s ms now → now.rest ≡ w ∷ next.rest
    → (is_dash w && nat_le 1 (length next.rest)) ≡ true → next.read ≡ now.read + 1
    → (members_said first s ≡ Ok ms) × (each_word house_of next.read next.rest ≡ leaving_said s)
reading_parts first s now next ms w so is dash read =
    let parts = parted w next.rest dash in
    let none : before_dash now.rest ≡ [] = ap (λ (l : List (List ℕ)). before_dash l) is ∙ parts.before in
    let after : after_dash s.rest ≡ next.rest = so.leaving ∙ ap (λ (l : List (List ℕ)). after_dash l) is ∙ parts.after in
    let zero_left : length (before_dash now.rest) ≡ 0 = ap (λ (l : List (List ℕ)). length l) none in
    let before = so.read in
    let at : next.read ≡ s.read + length (before_dash s.rest) + 1 = omega (arith, zero_left, before, read) in (
      last_said first s now ms so none,
      ap (λ (n : ℕ). each_word house_of n next.rest) at
          ∙ sym (ap (λ (l : List (List ℕ)). each_word house_of (s.read + length (before_dash s.rest) + 1) l) after),
    )

-- a word is no member
pub reading_fails : (first : Member) (s now : Words) (ms : List Member) (w : List ℕ) (ws : List (List ℕ)) (e : ParseFault) → IsReading first s ms now
    → now.rest ≡ w ∷ ws → (is_dash w && nat_le 1 (length ws)) ≡ false → said_at (now.read + 1) (member_of w) ≡ Err e → members_said first s ≡ Err e
reading_fails first s now ms w ws e so is other bad =
    let left : before_dash now.rest ≡ w ∷ before_dash ws = ap (λ (l : List (List ℕ)). before_dash l) is ∙ (unparted w ws other).before in
    so.said ∙ ap (λ (l : List (List ℕ)). behind ms (each_word member_of now.read l)) left
    ∙ ap (λ (r : Result Member ParseFault). behind ms (r >>= λ x. each_word member_of (now.read + 1) (before_dash ws) >>= λ xs. Ok (x ∷ xs))) bad

-- or one more
with_one : (ms : List Member) (m : Member) (r : Result (List Member) ParseFault)
    → behind ms (r >>= λ xs. Ok (m ∷ xs)) ≡ behind (ms ++ m ∷ []) r
with_one ms m (Ok xs) = ap (λ (l : List Member). Ok l) (sym (append_assoc ms (m ∷ []) xs))
with_one ms m (Err e) = refl

pub reading_on : (first : Member) (s now next : Words) (ms : List Member) (w : List ℕ) (m : Member) → IsReading first s ms now → now.rest ≡ w ∷ next.rest
    → (is_dash w && nat_le 1 (length next.rest)) ≡ false → said_at (now.read + 1) (member_of w) ≡ Ok m → next.read ≡ now.read + 1
    → IsReading first s (ms ++ m ∷ []) next
reading_on first s now next ms w m so is other good read =
    let one = unparted w next.rest other in
    let left : before_dash now.rest ≡ w ∷ before_dash next.rest = ap (λ (l : List (List ℕ)). before_dash l) is ∙ one.before in
    let size : length (before_dash now.rest) ≡ suc (length (before_dash next.rest)) = ap (λ (l : List (List ℕ)). length l) left in
    let before = so.read in
    record {
      said =
          so.said ∙ ap (λ (l : List (List ℕ)). behind ms (each_word member_of now.read l)) left
          ∙ ap (λ (r : Result Member ParseFault). behind ms (r >>= λ x. each_word member_of (now.read + 1) (before_dash next.rest) >>= λ xs. Ok (x ∷ xs))) good
          ∙ with_one ms m (each_word member_of (now.read + 1) (before_dash next.rest))
          ∙ ap (λ (n : ℕ). behind (ms ++ m ∷ []) (each_word member_of n (before_dash next.rest))) (sym read);
      leaving = so.leaving ∙ ap (λ (l : List (List ℕ)). after_dash l) is ∙ one.after;
      read = omega (arith, size, before, read);
    }
