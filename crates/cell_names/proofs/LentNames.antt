-- The last component of octets that are a full name.
use Rattle.std.proofs.Common.{◌≡◌, ◌≢◌, ℕ, ◌+◌, Bool, true, false, List, [], ◌∷◌, ◌++◌, length, drop}
use Rattle.std.proofs.Common.{take, eqb, Some, None, Bor, refl, sym, ap, ◌∙◌, subst, arith}
use Rattle.std.proofs.Common.{append_assoc, length-append}
use Rattle.std.specs.Prelude.{◌==◌, ◌||◌}
use Rattle.std.specs.List.{AllByRecursion, slice_split, list_any}
use Rattle.std.proofs.Math.Seq.{get_or-append_seam}
use Rattle.std.proofs.lemmas.List.{append_cancel_left}
use Rattle.std.proofs.lemmas.List.Elements.{All-from_recursion, recursion_from_All}
use Rattle.std.proofs.lemmas.List.Folds.{list_any_none}
use Rattle.std.proofs.lemmas.List.Splits.{slice_split_none}
use Rattle.std.proofs.lemmas.Bool.Decides.{Decides-eqb}
use Rattle.std.proofs.lemmas.Slice.Eq.{strip_prefix_is}
use Rattle.std.specs.Cmp.Lexicographic.{pointwise}
use Rattle.std.proofs.lemmas.Grind.{flat_map-append}
use Rattle.cds_stamps.specs.Names.{simple_name_fault, IsSimpleName}
use Rattle.cell_names.specs.FullNames.{cell_root, slash, full_name_octets, behind_slashes, components_of, name_fault, IsComponentList}
use Rattle.cell_names.proofs.FullNameLaws.{spelling-components, no_slash}
use Rattle.cell_names.proofs.Spellings.{component_simple}

-- no octet is a slash
abbrev pub HasNoSlash : List ℕ → Type 0
HasNoSlash = AllByRecursion (λ b. (b == slash) ≡ false)

-- where a test finds no slash, there is none
no_slash_by : (bs : List ℕ) → list_any (λ b. b == slash) bs ≡ false → HasNoSlash bs
no_slash_by [] none = tt
no_slash_by (b ∷ bs) none = by_octet (b == slash) refl none (no_slash_by bs)
  where
    by_octet : (t : Bool) → (b == slash) ≡ t → (t || list_any (λ b. b == slash) bs) ≡ false
        → (list_any (λ b. b == slash) bs ≡ false → HasNoSlash bs) → HasNoSlash (b ∷ bs)
    by_octet true is none others = cc
    by_octet false is none others = (is, others none)

-- octets in front of a part that is split at its first octet
split_behind : (c rest : List ℕ) (parts : List (List ℕ)) → HasNoSlash c → slice_split (λ b. b == slash) rest ≡ [] ∷ parts
    → slice_split (λ b. b == slash) (c ++ rest) ≡ c ∷ parts
split_behind [] rest parts none is = is
split_behind (b ∷ bs) rest parts none is = rw (none.0, split_behind bs rest parts none.1 is) refl

-- components, each after a slash, and after a last slash octets without any
split_last : (cs : List (List ℕ)) (last : List ℕ) → AllByRecursion IsSimpleName cs → HasNoSlash last
    → slice_split (λ b. b == slash) (behind_slashes cs ++ slash ∷ last) ≡ [] ∷ (cs ++ last ∷ [])
split_last [] last each none = ap (λ parts. [] ∷ parts) (slice_split_none (λ b. b == slash) last (All-from_recursion _ last none))
split_last (c ∷ cs) last each none =
    let further = split_last cs last each.1 none in
    ap (λ o. [] ∷ slice_split (λ b. b == slash) o) (append_assoc c (behind_slashes cs) (slash ∷ last))
    ∙ ap (λ parts. [] ∷ parts)
    (split_behind c (behind_slashes cs ++ slash ∷ last) (cs ++ last ∷ []) (recursion_from_All _ c (no_slash c each.0)) further)

-- a component more is spelled after a slash
spelling_more : (cs : List (List ℕ)) (last : List ℕ) → full_name_octets (cs ++ last ∷ []) ≡ full_name_octets cs ++ slash ∷ last
spelling_more cs last =
    ap (λ o. cell_root ++ o) (flat_map-append (λ (c : List ℕ). slash ∷ c) cs (last ∷ []) ∙ ap (λ o. behind_slashes cs ++ slash ∷ o) (nothing_more last))
  where
    nothing_more : (xs : List ℕ) → xs ++ [] ≡ xs
    nothing_more [] = refl
    nothing_more (x ∷ xs) = ap (λ ys. x ∷ ys) (nothing_more xs)

module _ (octets : List ℕ) (sound : name_fault octets ≡ None) (front : List (List ℕ)) where
  -- a name of these components and one more is spelled by them, a slash and that one
  pub spelled_so : (last : List ℕ) → components_of octets ≡ front ++ last ∷ [] → octets ≡ full_name_octets front ++ slash ∷ last
  spelled_so last e = (spelling-components octets sound).1 ∙ ap full_name_octets e ∙ spelling_more front last

  -- and the one more is a simple name
  last_simple : (last : List ℕ) → components_of octets ≡ front ++ last ∷ [] → IsSimpleName last
  last_simple last e =
      let lawful = subst IsComponentList e (spelling-components octets sound).0 in
      subst IsSimpleName (get_or-append_seam front last [] last)
      (lawful.simple (length front) last (omega (arith, length-append front (last ∷ []))))

  -- so it is where octets without a slash stand after them
  pub last_found : (last : List ℕ) → IsComponentList front → octets ≡ full_name_octets front ++ slash ∷ last → list_any (λ b. b == slash) last ≡ false
      → components_of octets ≡ front ++ last ∷ []
  last_found last lawful e none =
      ap components_of e ∙ ap (drop 1) (split_last front last (recursion_from_All IsSimpleName front lawful.simple) (no_slash_by last none))

  -- and not where a slash is among them
  pub none_behind_slash : (last : List ℕ) → octets ≡ full_name_octets front ++ slash ∷ last → list_any (λ b. b == slash) last ≡ true
      → (other : List ℕ) → components_of octets ≢ front ++ other ∷ []
  none_behind_slash last e some other is =
      let same : full_name_octets front ++ slash ∷ last ≡ full_name_octets front ++ slash ∷ other = sym e ∙ spelled_so other is in
      let cut : slash ∷ last ≡ slash ∷ other = append_cancel_left (full_name_octets front) (slash ∷ last) (slash ∷ other) same in
      let one : last ≡ other = cc in
      let none : list_any (λ b. b == slash) other ≡ false = list_any_none (λ b. b == slash) other (no_slash other (last_simple other is)) in
      let both : list_any (λ b. b == slash) other ≡ true = subst (λ (o : List ℕ). list_any (λ b. b == slash) o ≡ true) one some in
      cc

  -- nor where the octets do not begin with them
  pub none_behind : ((rest : List ℕ) → octets ≢ full_name_octets front ++ rest) → (other : List ℕ) → components_of octets ≢ front ++ other ∷ []
  none_behind none other is = none (slash ∷ other) (spelled_so other is)

  -- nor where no slash is next
  pub none_without_slash : (behind : List ℕ) → octets ≡ full_name_octets front ++ behind → ((last : List ℕ) → behind ≢ slash ∷ last)
      → (other : List ℕ) → components_of octets ≢ front ++ other ∷ []
  none_without_slash behind e none other is =
      none other (append_cancel_left (full_name_octets front) behind (slash ∷ other) (sym e ∙ spelled_so other is))

  -- the last component has no fault
  pub last_sound : (last : List ℕ) → components_of octets ≡ front ++ last ∷ [] → simple_name_fault last ≡ None
  last_sound last e =
      component_simple octets sound (length front) last
      (rw e (omega (arith, length-append front (last ∷ []))))
      (rw e (sym (get_or-append_seam front last [] last)))

-- what is after these components and a slash
pub spelled_with_last : (octets behind : List ℕ) (lent front : List (List ℕ)) (last : Bor (List ℕ)) → octets ≡ full_name_octets lent ++ behind → lent ≡ front
    → (pointwise eqb (take 1 behind) (slash ∷ []) ≡ true) × (last.now ≡ drop 1 behind) × (length last.now + 1 ≡ length behind)
    → octets ≡ full_name_octets front ++ slash ∷ last.now
spelled_with_last octets behind lent front last begins same cut =
    begins ∙ ap (λ (name : List (List ℕ)). full_name_octets name ++ behind) same
    ∙ ap (λ o. full_name_octets front ++ o) (strip_prefix_is Decides-eqb behind (slash ∷ []) (Some last) cut)
