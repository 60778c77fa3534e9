-- Posts that are messages of the model, as the view of a house tells them.
use Rattle.std.proofs.Common.{◌≡◌, ◌≢◌, ℕ, zero, suc, Bool, true, false, List, [], ◌∷◌, ◌++◌, map, Option, Some, refl, sym, ap, subst, ◌∙◌, arith, inl, inr}
use Rattle.std.specs.Prelude.{slice_get, ◌==◌, ◌&&◌, if◌then◌else◌}
use Rattle.std.specs.Option.{option_map}
use Rattle.std.specs.Str.{bytes_eq}
use Rattle.std.proofs.lemmas.Slice.Eq.{bytes_eq-Decides}
use Rattle.std.proofs.lemmas.Bool.Decides.{nat_tests}
use Rattle.cds_records.specs.RecordOctets.{message_octets}
use Rattle.cds_messages.specs.declared.message.Message.{Message}
use Rattle.cell_model.specs.Cells as model
use Rattle.cell_model.specs.Sets.{In}
use Rattle.cds_cell.specs.Recorded.{octets_of}
use Rattle.cds_cell.proofs.RecordedLaws.{message_recorded}
use Rattle.cell_runs.specs.Entries.{Post}
use Rattle.cell_runs.specs.OrderSteps.{ArePosts, IsLetterOf}
use Rattle.cell_runs.specs.Orders.{place_of}
use Rattle.cell_runs.specs.Views.{or_none, post_of}

-- ---- posts

-- a letter is its message's octets
pub letter_octets : (to : ℕ) (octets : List ℕ) (m : model.Message) → IsLetterOf to octets m → or_none (octets_of m) ≡ octets
letter_octets to octets m l =
    ap (λ (o : Option Message). or_none (option_map message_octets o)) (message_recorded to l.carried m l.stands) ∙ sym l.octets_are

post_is : (p : Post) (m : model.Message) → IsLetterOf p.to p.octets m → post_of m ≡ p
post_is p m l = λ i. record { to = l.stands.head.receiver i; octets = letter_octets p.to p.octets m l i }

-- messages are the posts that they are told as
pub posts_are : (ps : List Post) (ms : List model.Message) → ArePosts ps ms → map post_of ms ≡ ps
posts_are [] [] are = refl
posts_are (p ∷ ps) (m ∷ ms) are = λ i. post_is p m are.0 i ∷ posts_are ps ms are.1 i
posts_are [] (m ∷ ms) are = elim are [ ]
posts_are (p ∷ ps) [] are = elim are [ ]

pub posts_append : (ps qs : List Post) (ms ns : List model.Message) → ArePosts ps ms → ArePosts qs ns → ArePosts (ps ++ qs) (ms ++ ns)
posts_append [] qs [] ns are more = more
posts_append (p ∷ ps) qs (m ∷ ms) ns are more = (are.0, posts_append ps qs ms ns are.1 more)
posts_append [] qs (m ∷ ms) ns are more = elim are [ ]
posts_append (p ∷ ps) qs [] ns are more = elim are [ ]

-- ---- the place of octets

-- the message at a place, which is that of the octets
pub record FoundAt (x : ℕ) (octets : List ℕ) (place : ℕ) (ms : List model.Message) : Type 0 where
  pub message : model.Message
  pub there : slice_get ms place ≡ Some message
  pub letter : IsLetterOf x octets message

is_post : (x : ℕ) (octets : List ℕ) (p : Post) → ((p.to == x) && bytes_eq octets p.octets) ≡ true → record { to = x; octets = octets } ≡ p
is_post x octets p on =
    let to : p.to ≡ x = grind (arith, nat_tests, on) in
    let same : octets ≡ p.octets = grind (arith, bytes_eq-Decides, on) in
    λ i. record { to = sym to i; octets = same i }

no_post : (x : ℕ) (octets : List ℕ) (p : Post) → ((p.to == x) && bytes_eq octets p.octets) ≡ false → record { to = x; octets = octets } ≢ p
no_post x octets p off is =
    let to : p.to ≡ x = ap (λ (q : Post). q.to) (sym is) in
    let same : octets ≡ p.octets = ap (λ (q : Post). q.octets) is in
    let on : bytes_eq octets p.octets ≡ true = grind (arith, bytes_eq-Decides, same) in
    let here : (p.to == x) ≡ true = grind (arith, nat_tests, to) in
    absurd (cc (off, on, here))

pub found_at : (x : ℕ) (octets : List ℕ) (ps : List Post) (ms : List model.Message) → ArePosts ps ms → In (record { to = x; octets = octets }) ps
    → FoundAt x octets (place_of x octets ps) ms
found_at x octets [] ms are there = elim there [ ]
found_at x octets (p ∷ ps) [] are there = elim are [ ]
found_at x octets (p ∷ ps) (m ∷ ms) are there = by ((p.to == x) && bytes_eq octets p.octets) refl there (found_at x octets ps ms are.1)
  where
    by : (b : Bool) → ((p.to == x) && bytes_eq octets p.octets) ≡ b → In (record { to = x; octets = octets }) (p ∷ ps)
        → (In (record { to = x; octets = octets }) ps → FoundAt x octets (place_of x octets ps) ms)
        → FoundAt x octets (if b then zero else suc (place_of x octets ps)) (m ∷ ms)
    by true on i later = record {
      message = m;
      there = refl;
      letter = subst (λ (q : Post). IsLetterOf q.to q.octets m) (sym (is_post x octets p on)) are.0;
    }
    by false off (inl is) later = absurd (no_post x octets p off is)
    by false off (inr i) later =
        let f = later i in
        record { message = f.message; there = f.there; letter = f.letter }
