-- Links: whether the name to which one leads came up before.
use Rattle.std.proofs.Common.{◌≡◌, ◌∙◌, ℕ, suc, ◌-◌, Bool, true, false, List, [], ◌∷◌, ◌++◌, length, take, drop, refl, sym, ap, subst}
use Rattle.std.proofs.Common.{append-nil, arith}
use Rattle.std.specs.Prelude.{Option, Some, None, nat_eq, slice_get}
use Rattle.std.specs.Option.{option_eq}
use Rattle.std.specs.Cmp.Lexicographic.{pointwise}
use Rattle.std.proofs.Math.Seq.{take-append_seam}
use Rattle.std.proofs.lemmas.List.{take-append-drop}
use Rattle.std.proofs.lemmas.Bool.Decides.{nat_tests}
use Rattle.std.proofs.lemmas.Slice.Eq.{bytes_eq-Decides}
use Rattle.cell_names.specs.FullNames.{is_name, splice_fault, IsComponentList}
use Rattle.cell_names.proofs.FullNameLaws.{is_name-Decides, splice_fault-none}

-- components that are those of a full name have no fault
pub full_has_no_fault : (name all : List (List ℕ)) → IsComponentList name → is_name name all ≡ true → splice_fault all ≡ None
full_has_no_fault name all lawful same =
    subst (λ n. splice_fault n ≡ None) ((is_name-Decides name all).0 same) ((splice_fault-none name lawful.simple).1 lawful)

-- after the same components, what comes next decides
same_front : (front a b : List (List ℕ)) → is_name (front ++ a) (front ++ b) ≡ is_name a b
same_front [] a b = refl
same_front (c ∷ front) a b = let same : pointwise nat_eq c c ≡ true = (bytes_eq-Decides c c).1 refl in rw same (same_front front a b)

pub begins_so : (name front rest end : List (List ℕ)) → is_name (take (length front) name) front ≡ true → end ≡ drop (length front) name
    → is_name end rest ≡ is_name name (front ++ rest)
begins_so name front rest end begins is =
    let parts : front ++ end ≡ name =
    (λ i. sym ((is_name-Decides (take (length front) name) front).0 begins) i ++ is i) ∙ take-append-drop (length front) name in
    sym (same_front front end rest) ∙ ap (λ n. is_name n (front ++ rest)) parts

-- a name that begins otherwise is another
pub begins_otherwise : (name front rest : List (List ℕ)) → is_name (take (length front) name) front ≡ false → false ≡ is_name name (front ++ rest)
begins_otherwise name front rest begins = by_test (is_name name (front ++ rest)) refl
  where
    by_test : (b : Bool) → is_name name (front ++ rest) ≡ b → false ≡ b
    by_test true is =
        let all : name ≡ front ++ rest = (is_name-Decides name (front ++ rest)).0 is in
        let same : is_name (take (length front) name) front ≡ true =
        (is_name-Decides (take (length front) name) front).1 (ap (take (length front)) all ∙ take-append_seam front rest) in cc
    by_test false is = refl

-- ---- the last component

-- octets that are equal, if there are any
pub octets_alike : (a b : Option ℕ) → a ≡ b → option_eq nat_eq a b ≡ true
octets_alike None None is = refl
octets_alike None (Some y) is = absurd (cc is)
octets_alike (Some x) None is = absurd (cc is)
octets_alike (Some x) (Some y) is = nat_alike x y is
  where
    nat_alike : (m n : ℕ) → ◌≡◌ {A = Option ℕ} (Some m) (Some n) → nat_eq m n ≡ true
    nat_alike m n e = let same : m ≡ n = cc (e) in grind (arith, nat_tests, same)

module _ {X : Type 0} where
  in_front : (y : X) (ys : List X) (x : X) → Some x ≡ slice_get ys (length ys - 1) → Some x ≡ slice_get (y ∷ ys) (length (y ∷ ys) - 1)
  in_front y [] x is = cc (is)
  in_front y (z ∷ zs) x is =
      let inner : length (z ∷ zs) - 1 ≡ length zs = omega arith in
      let outer : length (y ∷ z ∷ zs) - 1 ≡ suc (length zs) = omega arith in
      is ∙ ap (slice_get (z ∷ zs)) inner ∙ sym (ap (slice_get (y ∷ z ∷ zs)) outer)

  -- the last of those after is the last of all
  pub last_behind : (front rest : List X) (x : X) → Some x ≡ slice_get rest (length rest - 1) → Some x ≡ slice_get (front ++ rest) (length (front ++ rest) - 1)
  last_behind [] rest x is = is
  last_behind (y ∷ front) rest x is = in_front y (front ++ rest) x (last_behind front rest x is)

  some_last : (x : X) (xs : List X) → None ≡ slice_get (x ∷ xs) (length (x ∷ xs) - 1) → ⊥
  some_last x [] is = absurd (cc is)
  some_last x (y ∷ ys) is =
      let outer : length (x ∷ y ∷ ys) - 1 ≡ suc (length ys) = omega arith in
      let inner : length (y ∷ ys) - 1 ≡ length ys = omega arith in
      some_last y ys (is ∙ ap (slice_get (x ∷ y ∷ ys)) outer ∙ sym (ap (slice_get (y ∷ ys)) inner))

  -- where none is after them, theirs is
  pub last_in_front : (front rest : List X) → None ≡ slice_get rest (length rest - 1)
      → slice_get front (length front - 1) ≡ slice_get (front ++ rest) (length (front ++ rest) - 1)
  last_in_front front [] none = ap (λ (xs : List X). slice_get xs (length xs - 1)) (sym (append-nil front))
  last_in_front front (x ∷ xs) none = absurd (some_last x xs none)
