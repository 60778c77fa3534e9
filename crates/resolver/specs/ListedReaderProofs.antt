-- Proofs alone: that a reader over a list of entries shows only the objects among them.
use Rattle.std.specs.Prelude.{◌≡◌, ℕ, Bool, true, false, ◌&&◌, ◌==◌, List, [], ◌∷◌, nat_eq, if◌then◌else◌, refl}
use Rattle.std.specs.Cmp.Lexicographic.{pointwise}
use Rattle.std.specs.List.{Contains}
use Rattle.std.proofs.Common.{ap, subst, arith}
use Rattle.std.proofs.lemmas.Bool.Decides.{nat_tests}
use Rattle.std.proofs.lemmas.List.Elements.{Contains-append_right}
use Rattle.std.proofs.lemmas.Slice.Eq.{bytes_eq-Decides}
use Rattle.resolver.specs.declared.seen.Seen.{Seen}
use Rattle.resolver.specs.declared.seen.Seen.TheVariants as seen
use Rattle.resolver.specs.declared.seen.Found.{Found}
use Rattle.resolver.specs.Readers.{Object, sight_of, object_found, ShowsOnly}
use Rattle.resolver.specs.ListedReaders.{sight_in, list_reader, objects_in}

-- what is among the later objects is among all
later : (e : ℕ × List ℕ × Seen) (es : List (ℕ × List ℕ × Seen)) (f : Found) → Contains (objects_in es) f → Contains (objects_in (e ∷ es)) f
later (dir, name, seen.Unreachable) es f c = c
later (dir, name, seen.Absent house) es f c = c
later (dir, name, seen.Object house) es f c = Contains-append_right (object_found dir house.0 name ∷ []) (objects_in es) f c
later (dir, name, seen.Link house target) es f c = c
later (dir, name, seen.Child house child) es f c = c

-- an entry that is seen as an object is the first of the objects
first : (dir : ℕ) (name : List ℕ) (s : Seen) (es : List (ℕ × List ℕ × Seen)) (house : ℕ) → sight_of s ≡ Object house
    → Contains (objects_in ((dir, name, s) ∷ es)) (object_found dir house name)
first dir name seen.Unreachable es house h = cc
first dir name (seen.Absent at) es house h = cc
first dir name (seen.Object at) es house h = let is : at.0 ≡ house = cc in (0, omega arith, ap (λ x. object_found dir x name) is)
first dir name (seen.Link at target) es house h = cc
first dir name (seen.Child at child) es house h = cc

-- the tests of a look-up say that the directory and the name are these
tests : (d dir : ℕ) (n name : List ℕ) → (d == dir && pointwise nat_eq n name) ≡ true → (d ≡ dir) × (n ≡ name)
tests d dir n name h = by_dir (d == dir) refl h
  where
    by_dir : (b : Bool) → (d == dir) ≡ b → (b && pointwise nat_eq n name) ≡ true → (d ≡ dir) × (n ≡ name)
    by_dir true is k = (grind (arith, nat_tests, is), (bytes_eq-Decides n name).0 k)
    by_dir false is k = cc

-- an object that is seen is among the objects
among : (es : List (ℕ × List ℕ × Seen)) (dir house : ℕ) (name : List ℕ) → sight_in es dir name ≡ Object house
    → Contains (objects_in es) (object_found dir house name)
among [] dir house name h = cc
among (e ∷ es) dir house name h = by_test (e.0 == dir && pointwise nat_eq e.1 name) refl (among es dir house name) h
  where
    by_test : (b : Bool) → (e.0 == dir && pointwise nat_eq e.1 name) ≡ b
        → (sight_in es dir name ≡ Object house → Contains (objects_in es) (object_found dir house name))
        → (if b then sight_of e.2 else sight_in es dir name) ≡ Object house → Contains (objects_in (e ∷ es)) (object_found dir house name)
    by_test true is rest k =
        let same = tests e.0 dir e.1 name is in
        let here = first e.0 e.1 e.2 es house k in
        let named = subst (λ n. Contains (objects_in (e ∷ es)) (object_found e.0 house n)) same.1 here in
        subst (λ d. Contains (objects_in (e ∷ es)) (object_found d house name)) same.0 named
    by_test false off rest k = later e es (object_found dir house name) (rest k)

-- the reader of these entries shows only the objects among them
pub listed_shows_only : (rooted : Bool) (es : List (ℕ × List ℕ × Seen)) → ShowsOnly (list_reader rooted es) (objects_in es)
listed_shows_only rooted es at house name h = among es at.dir house name h
