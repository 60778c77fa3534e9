-- What a history knows of an entry that shows.
use Rattle.std.proofs.Common.{◌≡◌, ℕ, Bool, true, false, List, [], ◌∷◌, Option, Some, None, refl, sym, ap, subst, ◌∙◌, ◌⊎◌, inl, inr, ⊎_elim}
use Rattle.std.specs.Prelude.{◌&&◌, is_none, if◌then◌else◌}
use Rattle.std.specs.List.{Contains}
use Rattle.std.specs.Option.{option_and_then}
use Rattle.std.specs.declared.cmp.Ordering.{Ordering}
use Rattle.std.specs.Ordering.{is_lt}
use Rattle.cds_stamps.specs.declared.stamp.Stamp.{Stamp}
use Rattle.cds_stamps.specs.Semilattice.{maybe, greater}
use Rattle.cds_stamps.specs.Keyed.{ties_are_equal}
use Rattle.cds_stamps.specs.Octets.{octets_exact, is_octets}
use Rattle.attr_sets.specs.AttributeCells.{shown_values}
use Rattle.attr_sets.proofs.Greatest.{Contains-head, Contains-tail, same_inside}
use Rattle.directory.specs.Histories.{Mark, Birth, Death, Attr, Born, birth_cmp, birth_of, death_of, attr_history}
use Rattle.directory.specs.Shown.{Shown, leads, shown_born, shown_of_name}

-- the greater of two is one of them
one_of : {K : Type 0} (R : K → K → Ordering) (x y : K) → (greater R x y ≡ x) ⊎ (greater R x y ≡ y)
one_of R x y = at (is_lt (R x y))
  where
    at : (t : Bool) → ((if t then y else x) ≡ x) ⊎ ((if t then y else x) ≡ y)
    at true = inr refl
    at false = inl refl

-- the greatest birth of a name is a mark of the history
pub birth_among : (h : List Mark) (n : List ℕ) (b : Born) → birth_of h n ≡ Some b → Contains h (Birth n b.kind b.at)
birth_among [] n b e = cc (e)
birth_among (Birth m k c ∷ h) n b e = at (is_octets n m) refl (birth_of h n) refl e (birth_among h n b)
  where
    here : n ≡ m → record { at = c; kind = k } ≡ b → Contains (Birth m k c ∷ h) (Birth n b.kind b.at)
    here named same = subst (Contains (Birth m k c ∷ h)) (λ i. Birth (sym named i) (same i).kind (same i).at) (Contains-head (Birth m k c) h)

    later : Contains h (Birth n b.kind b.at) → Contains (Birth m k c ∷ h) (Birth n b.kind b.at)
    later = Contains-tail (Birth m k c) h (Birth n b.kind b.at)

    at : (t : Bool) → is_octets n m ≡ t → (y : Option Born) → birth_of h n ≡ y
        → maybe (greater birth_cmp) (if t then Some (record { at = c; kind = k }) else None) y ≡ Some b
        → (birth_of h n ≡ Some b → Contains h (Birth n b.kind b.at)) → Contains (Birth m k c ∷ h) (Birth n b.kind b.at)
    at false p y q e rec = later (rec (q ∙ e))
    at true p None q e rec = here (ties_are_equal octets_exact n m p) (same_inside (record { at = c; kind = k }) b e)
    at true p (Some y) q e rec =
        let is : greater birth_cmp (record { at = c; kind = k }) y ≡ b = same_inside (greater birth_cmp (record { at = c; kind = k }) y) b e in
        ⊎_elim (λ first. here (ties_are_equal octets_exact n m p) (sym first ∙ is)) (λ second. later (rec (q ∙ ap Some
        (sym second ∙ is)))) (one_of birth_cmp (record { at = c; kind = k }) y)
birth_among (Death m c s ∷ h) n b e = Contains-tail (Death m c s) h (Birth n b.kind b.at) (birth_among h n b e)
birth_among (Attr m c a x ∷ h) n b e = Contains-tail (Attr m c a x) h (Birth n b.kind b.at) (birth_among h n b e)

-- what is known of an entry that shows
pub record IsSeen (h : List Mark) (n : List ℕ) (e : Shown) : Type 0 where
  pub born : birth_of h n ≡ Some (record { at = e.birth; kind = e.kind })
  pub alive : death_of h n e.birth ≡ None
  pub leading : leads e.kind e.values ≡ true
  pub values : (a : List ℕ) → e.values a ≡ shown_values (attr_history h n e.birth a)

-- an entry that shows has its birth in the history
pub seen : (h : List Mark) (n : List ℕ) (e : Shown) → shown_of_name h n ≡ Some e → IsSeen h n e
seen h n e is = by_birth (birth_of h n) refl is
  where
    live : (b : Born) → birth_of h n ≡ Some b → (d : Option Stamp) → death_of h n b.at ≡ d → (t : Bool)
        → leads b.kind (λ a. shown_values (attr_history h n b.at a)) ≡ t
        → (if is_none d && t then Some (record { birth = b.at; kind = b.kind; values = λ a. shown_values (attr_history h n b.at a) }) else None) ≡ Some e
        → IsSeen h n e
    live b born (Some s) p t q is = cc (is)
    live b born None p false q is = cc (is)
    live b born None p true q is =
        subst (IsSeen h n) (same_inside (record { birth = b.at; kind = b.kind; values = λ a. shown_values (attr_history h n b.at a) }) e is)
        (record { born = born; alive = p; leading = q; values = λ a. refl })

    by_birth : (b : Option Born) → birth_of h n ≡ b → option_and_then (shown_born h n) b ≡ Some e → IsSeen h n e
    by_birth None p is = cc (is)
    by_birth (Some b) p is = live b p (death_of h n b.at) refl (leads b.kind (λ a. shown_values (attr_history h n b.at a))) refl is
