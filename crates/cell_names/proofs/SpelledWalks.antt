-- Octets that are compared with components, each after a slash.
use Rattle.std.proofs.Common.{◌≡◌, ◌≢◌, ◌↔◌, ℕ, ◌+◌, ◌<◌, Bool, true, false, List, [], ◌∷◌, ◌++◌}
use Rattle.std.proofs.Common.{length, get_or, drop, take, Option, Some, None, Bor, refl, sym, ap, ◌∙◌, append_assoc, length-append, arith}
use Rattle.std.specs.Prelude.{◌==◌}
use Rattle.std.specs.Prelude.{MatchOption, IsTrue}
use Rattle.std.specs.Cmp.{tied_itself}
use Rattle.std.specs.Cmp.Lexicographic.{nat_list_cmp_total}
use Rattle.std.specs.Ordering.{is_eq}
use Rattle.std.proofs.lemmas.List.{append_cancel_left, take-append-drop, at_drop_more}
use Rattle.std.proofs.lemmas.Grind.{flat_map-append}
use Rattle.cds_stamps.specs.Keyed.{ties_are_equal}
use Rattle.cds_stamps.specs.Octets.{octets_exact, is_octets}
use Rattle.cell_names.specs.FullNames.{cell_root, slash, behind_slashes, full_name_octets}

-- the octets after a slash, after which a component was sought
pub behind_slash : (octets behind component : List ℕ) (r : Option (Bor (List ℕ))) → octets ≡ slash ∷ behind
    → MatchOption r ((rest : List ℕ) → behind ≢ component ++ rest) (λ rest. behind ≡ component ++ rest.now)
    → MatchOption r ((rest : List ℕ) → octets ≢ slash ∷ (component ++ rest)) (λ rest. octets ≡ slash ∷ (component ++ rest.now))
behind_slash octets behind component None is none = λ rest e. let same : slash ∷ behind ≡ slash ∷ (component ++ rest) = sym is ∙ e in none rest (cc)
behind_slash octets behind component (Some rest) is some = is ∙ ap (λ (o : List ℕ). slash ∷ o) some

-- where the next component does not follow, the octets do not begin with the components
pub not_followed : (octets rest : List ℕ) (cs : List (List ℕ)) (i : ℕ) (c : List ℕ) → i < length cs → c ≡ get_or cs i c
    → octets ≡ behind_slashes (take i cs) ++ rest → ((behind : List ℕ) → rest ≢ slash ∷ (c ++ behind)) → (tail : List ℕ)
    → octets ≢ behind_slashes cs ++ tail
not_followed octets rest cs i c less at is none tail e =
    none (behind_slashes (drop (i + 1) cs) ++ tail)
    (append_cancel_left (behind_slashes (take i cs)) rest (slash ∷ (c ++ (behind_slashes (drop (i + 1) cs) ++ tail)))
    (sym is ∙ e ∙ ap (λ (o : List ℕ). o ++ tail) parted ∙ onward))
  where
    next : behind_slashes (drop i cs) ≡ slash ∷ (c ++ behind_slashes (drop (i + 1) cs))
    next = at_drop_more behind_slashes cs i c less ∙ ap (λ (c : List ℕ). slash ∷ (c ++ behind_slashes (drop (i + 1) cs))) (sym at)

    parted : behind_slashes cs ≡ behind_slashes (take i cs) ++ slash ∷ (c ++ behind_slashes (drop (i + 1) cs))
    parted =
        ap behind_slashes (sym (take-append-drop i cs))
        ∙ flat_map-append (λ (c : List ℕ). slash ∷ c) (take i cs) (drop i cs)
        ∙ ap (λ (o : List ℕ). behind_slashes (take i cs) ++ o) next

    onward : (behind_slashes (take i cs) ++ slash ∷ (c ++ behind_slashes (drop (i + 1) cs))) ++ tail
        ≡ behind_slashes (take i cs) ++ slash ∷ (c ++ (behind_slashes (drop (i + 1) cs) ++ tail))
    onward =
        append_assoc (behind_slashes (take i cs)) (slash ∷ (c ++ behind_slashes (drop (i + 1) cs))) tail
        ∙ ap (λ (o : List ℕ). behind_slashes (take i cs) ++ slash ∷ o) (append_assoc c (behind_slashes (drop (i + 1) cs)) tail)

-- the octets after the root, after which components were sought
pub behind_root : (octets behind : List ℕ) (cs : List (List ℕ)) (r : Option (Bor (List ℕ))) → octets ≡ cell_root ++ behind
    → MatchOption r ((rest : List ℕ) → behind ≢ behind_slashes cs ++ rest) (λ rest. behind ≡ behind_slashes cs ++ rest.now)
    → MatchOption r ((rest : List ℕ) → octets ≢ full_name_octets cs ++ rest) (λ rest. octets ≡ full_name_octets cs ++ rest.now)
behind_root octets behind cs None is none = λ rest e.
    let same : cell_root ++ behind ≡ cell_root ++ (behind_slashes cs ++ rest) = sym is ∙ e in
    none rest (append_cancel_left cell_root behind (behind_slashes cs ++ rest) same)
behind_root octets behind cs (Some rest) is some = is ∙ ap (λ (o : List ℕ). cell_root ++ o) some

-- octets are the same as themselves
pub same_octets : (o : List ℕ) → is_octets o o ≡ true
same_octets o = ap is_eq (tied_itself nat_list_cmp_total o)

-- a test that holds exactly where octets are these is the test for them
pub tests_octets : (r : Bool) (these octets : List ℕ) → (IsTrue r ↔ (octets ≡ these)) → r ≡ is_octets these octets
tests_octets true these octets holds = let is : octets ≡ these = holds.0 refl in rw is (sym (same_octets these))
tests_octets false these octets holds = by_case (is_octets these octets) refl
  where
    by_case : (b : Bool) → is_octets these octets ≡ b → false ≡ b
    by_case true e = holds.1 (sym (ties_are_equal octets_exact these octets e))
    by_case false e = refl

-- octets that begin so are these exactly where nothing is after them
pub spelled_whole : (octets these rest : List ℕ) (r : Bool) → octets ≡ these ++ rest → r ≡ (length rest == 0) → IsTrue r ↔ (octets ≡ these)
spelled_whole octets these [] r is test = (λ t. is ∙ nothing_more these, λ e. test)
  where
    nothing_more : (xs : List ℕ) → xs ++ [] ≡ xs
    nothing_more [] = refl
    nothing_more (x ∷ xs) = ap (λ (ys : List ℕ). x ∷ ys) (nothing_more xs)
spelled_whole octets these (b ∷ bs) r is test =
    let some : r ≡ false = test ∙ grind arith in (
      λ t. absurd (cc (t, some)),
      λ e. let more : length these ≡ length these + length (b ∷ bs) = ap length (sym e ∙ is) ∙ length-append these (b ∷ bs) in absurd (omega arith),
    )

-- octets that do not begin so are not these
pub not_spelled : (octets these : List ℕ) → ((rest : List ℕ) → octets ≢ these ++ rest) → octets ≢ these
not_spelled octets these none e = none [] (e ∙ all_there these)
  where
    all_there : (xs : List ℕ) → xs ≡ xs ++ []
    all_there [] = refl
    all_there (x ∷ xs) = ap (λ (ys : List ℕ). x ∷ ys) (all_there xs)
