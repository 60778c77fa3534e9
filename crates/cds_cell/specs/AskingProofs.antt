-- Proofs alone: who is asked shows what it is asked for; and what is seen as an object shows.
use Rattle.std.specs.Prelude.{◌≡◌, ℕ, Bool, true, false, not, ◌||◌, ◌==◌, if◌then◌else◌, List, [], ◌∷◌, Option, Some, None, is_some, refl}
use Rattle.std.specs.Option.{option_or, option_and_then}
use Rattle.std.proofs.Common.{◌∙◌, subst}
use Rattle.cds_stamps.specs.Firsts.{first_some}
use Rattle.cds_stamps.specs.Members.{master_of}
use Rattle.cell_names.specs.FullNames.{is_full_name, components_of}
use Rattle.cell_names.specs.ChildPointers.{Pointer, pointer_of}
use Rattle.directory.specs.declared.entry.Kind.{Kind}
use Rattle.directory.specs.declared.entry.Kind.TheVariants as kind
use Rattle.directory.specs.Shown.{Shown, lead_of}
use Rattle.resolver.specs.Readers.{Object, Absent, Link}
use Rattle.cds_cell.specs.Asking.{Asked, View, Views, answers_with, answer_of_house, house_to_ask, in_turn}
use Rattle.cds_cell.specs.Readings.{child_sight, led_sight, shown_sight}

-- ---- who is asked

-- an item that the first gives is one's
first_given : {A B : Type 0} (P : B → Type 0) (f : A → Option B) → ((x : A) (y : B) → f x ≡ Some y → P y) → (xs : List A) (y : B)
    → first_some f xs ≡ Some y → P y
first_given P f each [] y h = cc
first_given {A = A} {B = B} P f each (x ∷ xs) y h = by_first (f x) refl (first_given P f each xs y) h
  where
    by_first : (o : Option B) → f x ≡ o → (first_some f xs ≡ Some y → P y) → option_or o (first_some f xs) ≡ Some y → P y
    by_first None is rest h = rest h
    by_first (Some z) is rest h = each x y (is ∙ h)

answer_shows : (high : Bool) (x : ℕ) (v : View) (a : Asked) → answers_with high x v ≡ Some a → record { house = x; view = v } ≡ a
answer_shows high x v a h = by_test (not high || (master_of v.members == x)) h
  where
    by_test : (b : Bool) → (if b then Some (record { house = x; view = v }) else None) ≡ Some a → record { house = x; view = v } ≡ a
    by_test true h = cc
    by_test false h = cc

answering_shows : (views : Views) (high : Bool) (d x : ℕ) (a : Asked) → answer_of_house views high d x ≡ Some a → views d a.house ≡ Some a.view
answering_shows views high d x a h = by_view (views d x) refl h
  where
    by_view : (o : Option View) → views d x ≡ o → option_and_then (answers_with high x) o ≡ Some a → views d a.house ≡ Some a.view
    by_view None is h = cc
    by_view (Some v) is h = subst (λ (z : Asked). views d z.house ≡ Some z.view) (answer_shows high x v a h) is

-- the house that is asked shows what it is asked for
pub asked_shows : (views : Views) (d : ℕ) (prefer : Option ℕ) (high : Bool) (houses : List ℕ) (a : Asked) → house_to_ask views d prefer high houses ≡ Some a
    → views d a.house ≡ Some a.view
asked_shows views d prefer high houses a h =
    first_given (λ (z : Asked). views d z.house ≡ Some z.view) (answer_of_house views high d) (answering_shows views high d) (in_turn prefer high houses) a h

-- ---- the objects that show

led_object : (m house : ℕ) (k : Kind) (lead : Option (List ℕ)) → led_sight k m lead ≡ Object house → m ≡ house
led_object m house kind.Object lead h = cc
led_object m house kind.Link None h = cc
led_object m house kind.Link (Some v) h = by_test (is_full_name v) h
  where
    by_test : (b : Bool) → (if b then Link m (components_of v) else Absent m) ≡ Object house → m ≡ house
    by_test true h = cc
    by_test false h = cc
led_object m house kind.Child None h = cc
led_object m house kind.Child (Some v) h = by_pointer (pointer_of v) h
  where
    by_pointer : (o : Option Pointer) → child_sight m o ≡ Object house → m ≡ house
    by_pointer None h = cc
    by_pointer (Some p) h = cc

-- what is seen as an object is seen so at this house, and shows there
pub shown_object : (m house : ℕ) (o : Option Shown) → shown_sight m o ≡ Object house → (m ≡ house) × (is_some o ≡ true)
shown_object m house None h = cc
shown_object m house (Some e) h = (led_object m house e.kind (lead_of e) h, refl)
