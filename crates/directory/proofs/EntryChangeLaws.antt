-- Changes of an entry's values are accepted one after the other.
use Rattle.std.proofs.Common.{◌≡◌, ℕ, false, List, [], ◌∷◌, ◌++◌, map, Option, Some, None, refl, sym, ap, ◌∙◌}
use Rattle.std.specs.Prelude.{is_none}
use Rattle.std.specs.List.{AllByRecursion}
use Rattle.std.specs.Option.{IsSomeAnd}
use Rattle.directory.specs.Updates.{Change, Create, MakeLink, MakeChild, Delete, Add, Remove, Put, Clear, Repoint}
use Rattle.directory.specs.Histories.{Mark, IsHistory}
use Rattle.directory.specs.Shown.{Shown, shown_of_name, is_reserved, live_refusal, refusal_of, marks_of}
use Rattle.directory.specs.EntryChanges.{creation, ChangesValue, AreAccepted}
use Rattle.directory.proofs.ChangeLaws.{shown-create, shown-add, shown-remove}

-- what shows, where something does
some_of : {X : Type 0} (P : X → Type 0) (o : Option X) → IsSomeAnd o P → (x : X) × (o ≡ Some x)
some_of P None some = absurd some
some_of P (Some x) some = (x, refl)

not_reserved : (a : List ℕ) → is_reserved a ≡ false → live_refusal (is_reserved a) ≡ None
not_reserved a free = ap live_refusal free

-- a change of a value is accepted where the entry shows, and leaves it showing
one_accepted : (h : List Mark) (n : List ℕ) (e : Shown) (u : Change) (us : List Change) → shown_of_name h n ≡ Some e → ChangesValue n u
    → ((g : List Mark) (f : Shown) → shown_of_name g n ≡ Some f → AreAccepted g us) → AreAccepted h (u ∷ us)
one_accepted h n e (Create m) us is change rest = absurd change
one_accepted h n e (MakeLink m target) us is change rest = absurd change
one_accepted h n e (MakeChild m pointer) us is change rest = absurd change
one_accepted h n e (Delete m) us is change rest = absurd change
one_accepted h n e (Add m a v) us is change rest =
    let there : shown_of_name h m ≡ Some e = ap (shown_of_name h) change.0 ∙ is in
    let free = not_reserved a change.1 in (
      ap (λ o. refusal_of o (Add m a v)) there ∙ free,
      λ s before.
          let after = some_of _ (shown_of_name (h ++ marks_of (shown_of_name h m) (Add m a v) s) m) (shown-add h m e there s a v before free) in
          rest (h ++ marks_of (shown_of_name h m) (Add m a v) s) after.0 (ap (shown_of_name (h ++ marks_of (shown_of_name h m) (Add m a v) s)) (sym change.0) ∙ after.1),
    )
one_accepted h n e (Remove m a v) us is change rest =
    let there : shown_of_name h m ≡ Some e = ap (shown_of_name h) change.0 ∙ is in
    let free = not_reserved a change.1 in (
      ap (λ o. refusal_of o (Remove m a v)) there ∙ free,
      λ s before.
          let after = some_of _ (shown_of_name (h ++ marks_of (shown_of_name h m) (Remove m a v) s) m) (shown-remove h m e there s a v before free) in
          rest (h ++ marks_of (shown_of_name h m) (Remove m a v) s) after.0 (ap (shown_of_name (h ++ marks_of (shown_of_name h m) (Remove m a v) s)) (sym change.0) ∙ after.1),
    )
one_accepted h n e (Put m a v) us is change rest = absurd change
one_accepted h n e (Clear m a) us is change rest = absurd change
one_accepted h n e (Repoint m master others) us is change rest = absurd change

-- changes of values are accepted where the entry shows
pub changes_accepted : (us : List Change) (h : List Mark) (n : List ℕ) (e : Shown) → shown_of_name h n ≡ Some e → AllByRecursion (ChangesValue n) us → AreAccepted h us
changes_accepted [] h n e is all = tt
changes_accepted (u ∷ us) h n e is all = one_accepted h n e u us is all.0 (λ g f shows. changes_accepted us g n f shows all.1)

-- and after the creation of the entry where it is absent
pub creation_accepted : (h : List Mark) (n : List ℕ) (us : List Change) → IsHistory h → AllByRecursion (ChangesValue n) us
    → AreAccepted h (creation n (is_none (shown_of_name h n)) ++ us)
creation_accepted h n us known all = by_shown (shown_of_name h n) refl
  where
    by_shown : (o : Option Shown) → shown_of_name h n ≡ o → AreAccepted h (creation n (is_none o) ++ us)
    by_shown None is = (
      ap (λ o. refusal_of o
          (Create n)) is,
      λ s before. changes_accepted us (h ++ marks_of (shown_of_name h n) (Create n) s) n _ (shown-create h n s known before) all,
    )
    by_shown (Some e) is = changes_accepted us h n e is all

-- ---- lists of changes of values

-- what a function makes of each item changes a value, where it does so of any
pub each_changes : {X : Type 0} (n : List ℕ) (f : X → Change) → ((x : X) → ChangesValue n (f x)) → (xs : List X) → AllByRecursion (ChangesValue n) (map f xs)
each_changes n f changes [] = tt
each_changes n f changes (x ∷ xs) = (changes x, each_changes n f changes xs)

-- changes of values after others
pub all_change : (n : List ℕ) (us vs : List Change) → AllByRecursion (ChangesValue n) us → AllByRecursion (ChangesValue n) vs
    → AllByRecursion (ChangesValue n) (us ++ vs)
all_change n [] vs first second = second
all_change n (u ∷ us) vs first second = (first.0, all_change n us vs first.1 second)
