-- Octets without a fault are the full names of the grammar, and their components are those that
-- were spelled.
use Rattle.std.proofs.Common.{◌≡◌, ℕ, ◌+◌, ◌≤◌, Bool, true, false, cond, List, [], ◌∷◌}
use Rattle.std.proofs.Common.{◌++◌, length, Option, Some, None, refl, sym, ap, ◌∙◌, subst, arith, rules}
use Rattle.std.specs.Prelude.{◌↔◌, IsTrue, not, nat_lt, nat_eq, ◌==◌, ◌||◌}
use Rattle.std.specs.Option.{option_or}
use Rattle.std.specs.List.{All, AllByRecursion, flat_map, slice_split, onto_first, starts_with}
use Rattle.std.specs.Cmp.Lexicographic.{pointwise}
use Rattle.std.proofs.lemmas.Bool.Decides.{Decides-eqb}
use Rattle.std.proofs.lemmas.List.Elements.{All-from_recursion, recursion_from_All, All-weaker}
use Rattle.std.proofs.lemmas.List.Splits.{slice_split_none, slice_split_at}
use Rattle.std.proofs.lemmas.Slice.Eq.{bytes_eq-Decides, slice_eq-Decides, starts_is}
use Rattle.cds_stamps.specs.Names.{component_fault, is_name_octet, IsSimpleName}
use Rattle.cds_stamps.proofs.NameLaws.{no_fault, component_lawful, component_none}
use Rattle.cell_names.specs.FullNames.{cell_root, slash, full_name_octets, is_local, components_of, components_fault}
use Rattle.cell_names.specs.FullNames.{longest_name, name_fault, splice_fault, is_name, IsComponentList, IsFullName}

-- the components, each after its slash
abbrev pub tail_of : List (List ℕ) → List ℕ
tail_of = flat_map (λ c. slash ∷ c)

no_first_fault : {E : Type 0} (x y : Option E) → option_or x y ≡ None → (x ≡ None) × (y ≡ None)
no_first_fault None y e = (refl, e)
no_first_fault (Some x) y e = cc

-- components without a fault are simple names
pub components_lawful : (place : ℕ) (cs : List (List ℕ)) → components_fault place cs ≡ None → AllByRecursion IsSimpleName cs
components_lawful place [] e = tt
components_lawful place ([] ∷ cs) e = cc
components_lawful place ((b ∷ bs) ∷ cs) e =
    let found = no_first_fault (component_fault place 1 (b ∷ bs)) _ e in
    let lawful = component_lawful place 1 (b ∷ bs) (omega arith) found.0 in (
      record { filled = omega arith; short = omega (arith, lawful.1); each = All-from_recursion _ (b ∷ bs) lawful.0 },
      components_lawful
          (place + length (b ∷ bs) + 1) cs found.1,
    )

-- simple names are components without a fault
pub components_none : (place : ℕ) (cs : List (List ℕ)) → AllByRecursion IsSimpleName cs → components_fault place cs ≡ None
components_none place [] each = refl
components_none place ([] ∷ cs) each = let filled = each.0.filled in absurd (omega arith)
components_none place ((b ∷ bs) ∷ cs) each =
    let short = each.0.short in
    rw (component_none place 1 (b ∷ bs) (recursion_from_All _ (b ∷ bs) each.0.each) (omega arith)) (components_none (place + length (b ∷ bs) + 1) cs each.1)

-- the parts between slashes, each after a slash, are what was split
pub tail_of-slice_split : (bs : List ℕ) → tail_of (slice_split (λ b. b == slash) bs) ≡ slash ∷ bs
tail_of-slice_split [] = refl
tail_of-slice_split (b ∷ bs) = by_slash (b == slash) refl (slice_split (λ b. b == slash) bs) (tail_of-slice_split bs)
  where
    by_slash : (t : Bool) → (b == slash) ≡ t → (parts : List (List ℕ)) → tail_of parts ≡ slash ∷ bs
        → tail_of (cond t ([] ∷ parts) (onto_first b parts)) ≡ slash ∷ b ∷ bs
    by_slash true e parts is = let same : b ≡ slash = grind arith in rw (is, same) refl
    by_slash false e [] is = cc
    by_slash false e (c ∷ parts) is = cc

-- a simple name has no slash
pub no_slash : (c : List ℕ) → IsSimpleName c → All (λ b. (b == slash) ≡ false) c
no_slash c name = All-weaker (λ b. IsTrue (is_name_octet b)) (λ b. (b == slash) ≡ false) (λ b e. grind (arith, e)) c name.each

-- what was spelled is split again
pub slice_split-tail_of : (c : List ℕ) (cs : List (List ℕ)) → IsSimpleName c → AllByRecursion IsSimpleName cs
    → slice_split (λ b. b == slash) (c ++ tail_of cs) ≡ c ∷ cs
slice_split-tail_of c [] name each = let same : c ++ [] ≡ c = search rules in rw same (slice_split_none (λ b. b == slash) c (no_slash c name))
slice_split-tail_of c (d ∷ cs) name each =
    slice_split_at (λ b. b == slash) c slash (d ++ tail_of cs) (no_slash c name) refl ∙ ap (λ cs. c ∷ cs) (slice_split-tail_of d cs each.0 each.1)

-- the components of what is spelled
pub components_of-spelling : (cs : List (List ℕ)) → IsComponentList cs → components_of (full_name_octets cs) ≡ cs
components_of-spelling cs lawful = by_first cs (recursion_from_All IsSimpleName cs lawful.simple)
  where
    by_first : (cs : List (List ℕ)) → AllByRecursion IsSimpleName cs → components_of (full_name_octets cs) ≡ cs
    by_first [] each = refl
    by_first (c ∷ cs) each = slice_split-tail_of c cs each.0 each.1

-- what is spelled has no fault
pub name_fault-spelling : (cs : List (List ℕ)) → IsComponentList cs → name_fault (full_name_octets cs) ≡ None
name_fault-spelling [] lawful = refl
name_fault-spelling (c ∷ cs) lawful =
    let short = lawful.short in
    let fits : nat_lt longest_name (length (full_name_octets (c ∷ cs))) ≡ false = grind arith in
    rw (fits, components_of-spelling (c ∷ cs) lawful) (components_none 5 (c ∷ cs) (recursion_from_All IsSimpleName (c ∷ cs) lawful.simple))

-- local octets spell what is after their slashes
spelled_from : (octets rest : List ℕ) → octets ≡ cell_root ++ slash ∷ rest → full_name_octets (components_of octets) ≡ octets
spelled_from octets rest e = rw e (ap (λ t. cell_root ++ t) (tail_of-slice_split rest))

spelling-components_of : (octets : List ℕ) → is_local octets ≡ true → full_name_octets (components_of octets) ≡ octets
spelling-components_of octets local = by_root (pointwise nat_eq octets cell_root) refl local
  where
    by_root : (t : Bool) → pointwise nat_eq octets cell_root ≡ t → (t || starts_with nat_eq octets (cell_root ++ slash ∷ [])) ≡ true
        → full_name_octets (components_of octets) ≡ octets
    by_root true root local = let same : octets ≡ cell_root = (bytes_eq-Decides octets cell_root).0 root in rw same refl
    by_root false root local = spelled_from octets _ ((starts_is Decides-eqb octets (cell_root ++ slash ∷ []) _ refl).0 local)

holds : (t : Bool) → not t ≡ false → t ≡ true
holds true e = refl
holds false e = cc

-- octets without a fault spell their components
pub spelling-components : (octets : List ℕ) → name_fault octets ≡ None → IsComponentList (components_of octets) × (octets ≡ full_name_octets (components_of octets))
spelling-components [] e = cc
spelling-components (b ∷ bs) e =
    let local = no_fault (not (is_local (b ∷ bs))) _ _ e in
    let short = no_fault (nat_lt longest_name (length (b ∷ bs))) _ _ local.1 in
    let spelled : full_name_octets (components_of (b ∷ bs)) ≡ b ∷ bs = spelling-components_of (b ∷ bs) (holds _ local.0) in
    let fits : length (b ∷ bs) ≤ longest_name = grind (arith, short.0) in (
      record {
        simple = All-from_recursion IsSimpleName _ (components_lawful 5 _ short.1);
        short = subst (λ (o : List ℕ). length o ≤ longest_name) (sym spelled) fits;
      },
      sym spelled,
    )

-- no fault is found exactly in full names
pub name_fault-none : (octets : List ℕ) → (name_fault octets ≡ None) ↔ IsFullName octets
name_fault-none octets = (
  λ e. let back = spelling-components octets e in record { components = components_of octets; lawful = back.0; spelled = back.1 },
  λ name. rw name.spelled (name_fault-spelling name.components name.lawful),
)

-- simple names have no fault together exactly where they spell a full name
pub splice_fault-none : (cs : List (List ℕ)) → All IsSimpleName cs → (splice_fault cs ≡ None) ↔ IsComponentList cs
splice_fault-none cs simple = (
  λ e. let test = no_fault (nat_lt longest_name (length (full_name_octets cs))) _ _ e in record { simple = simple; short = grind (arith, test.0) },
  λ lawful.
      let short = lawful.short in
      let fits : nat_lt longest_name (length (full_name_octets cs)) ≡ false = grind arith in
      rw fits refl,
)

-- the test for the same components
pub is_name-Decides : (a b : List (List ℕ)) → IsTrue (is_name a b) ↔ (a ≡ b)
is_name-Decides a b = slice_eq-Decides bytes_eq-Decides a b (is_name a b) refl
