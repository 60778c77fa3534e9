-- The attributes of an entry, as a house says them.
use Rattle.std.proofs.Common.{◌≡◌, ℕ, Bool, true, false, cond, List, [], ◌∷◌, ◌++◌, refl, sym, ap, subst, ◌∙◌}
use Rattle.std.specs.Prelude.{Option, Some, None, nat_eq}
use Rattle.std.specs.declared.cmp.Ordering.TheVariants.{Less}
use Rattle.std.specs.Cmp.{tied_itself}
use Rattle.std.specs.Cmp.Lexicographic.{nat_list_cmp_total, pointwise, texts_ties}
use Rattle.std.specs.FinMap.{entries, find}
use Rattle.std.specs.List.{All, AllByRecursion, flat_map}
use Rattle.std.specs.List.Sorted.{IsStrictlySortedBy}
use Rattle.std.specs.Map.{keys_of}
use Rattle.std.specs.Option.{option_map_or}
use Rattle.std.specs.Ordering.{eq_by_cmp, is_eq}
use Rattle.std.proofs.lemmas.List.Concat.{flat_map-cons}
use Rattle.std.proofs.lemmas.List.Elements.{All-cons, All-head, All-nil, All-tail}
use Rattle.attr_sets.specs.declared.cell.AttrCell.{AttrCell}
use Rattle.attr_sets.specs.AttributeCells.{cell_values}
use Rattle.attr_sets.proofs.ShownLaws.{map_rises, present_rise}
use Rattle.cds_stamps.specs.Keyed.{ties_are_equal}
use Rattle.cds_stamps.specs.Names.{attr_fault}
use Rattle.cds_stamps.specs.Octets.{octets_cmp, octets_exact}
use Rattle.script_answers.specs.Texts.{lines_of_each}
use Rattle.house_turns.specs.Showings.{attr_shown}
use Rattle.clerk_lines.specs.declared.shown.ShownAttr.{ShownAttr}
use Rattle.clerk_lines.specs.ShownEntries.{attr_values}
use Rattle.clerk_lines.specs.ShownTexts.{IsSayableAttr, IsValue, attr_texts}

-- an attribute as it is heard, if it has values
abbrev pub attr_as : (name : List ℕ) → List (List ℕ) → List ShownAttr
attr_as name [] = []
attr_as name (v ∷ vs) = record { name = name; values = v ∷ vs } ∷ []

-- all attributes as they are heard
pub attrs_as : List (List ℕ × AttrCell) → List ShownAttr
attrs_as [] = []
attrs_as (e ∷ es) = attr_as e.0 (cell_values e.1) ++ attrs_as es

-- ---- their lines

one_lines : (name : List ℕ) (vs : List (List ℕ)) (more : List ShownAttr)
    → attr_shown name vs ++ flat_map attr_texts more ≡ flat_map attr_texts (attr_as name vs ++ more)
one_lines name [] more = refl
one_lines name (v ∷ vs) more = sym (flat_map-cons attr_texts (record { name = name; values = v ∷ vs }) more)

pub attrs_lines : (es : List (List ℕ × AttrCell)) → lines_of_each (λ name c. attr_shown name (cell_values c)) es ≡ flat_map attr_texts (attrs_as es)
unfolding lines_of_each attrs_as
attrs_lines [] = refl
attrs_lines (e ∷ es) =
    flat_map-cons (λ (a : List ℕ × AttrCell). attr_shown a.0 (cell_values a.1)) e es
    ∙ ap (λ (ls : List (List ℕ)). attr_shown e.0 (cell_values e.1) ++ ls) (attrs_lines es)
    ∙ one_lines e.0 (cell_values e.1) (attrs_as es)

-- ---- they can be said

one_sayable : (name : List ℕ) (vs : List (List ℕ)) (more : List ShownAttr) → attr_fault name ≡ None → IsStrictlySortedBy octets_cmp vs → All IsValue vs
    → All IsSayableAttr more → All IsSayableAttr (attr_as name vs ++ more)
one_sayable name [] more named sorted values rest = rest
one_sayable name (v ∷ vs) more named sorted values rest =
    All-cons IsSayableAttr (record { name = name; values = v ∷ vs }) more (record { named = named; ascending = sorted; values = values }) rest

pub attrs_sayable : (es : List (List ℕ × AttrCell)) → All (λ a. attr_fault a.0 ≡ None) es → All (λ a. All IsValue (cell_values a.1)) es
    → All IsSayableAttr (attrs_as es)
unfolding attrs_as
attrs_sayable [] named values = All-nil IsSayableAttr
attrs_sayable (e ∷ es) named values =
    let N : List ℕ × AttrCell → Type 0 = λ a. attr_fault a.0 ≡ None in
    let V : List ℕ × AttrCell → Type 0 = λ a. All IsValue (cell_values a.1) in
    one_sayable e.0 (cell_values e.1) (attrs_as es) (All-head N e es named) (present_rise (entries e.1.values) (map_rises e.1.values)) (All-head V e es values)
    (attrs_sayable es (All-tail N e es named) (All-tail V e es values))

-- ---- what they say

-- octets tie with others as these do with them
same_ties : (a b : List ℕ) → eq_by_cmp octets_cmp a b ≡ eq_by_cmp octets_cmp b a
same_ties a b = by_both (eq_by_cmp octets_cmp a b) (eq_by_cmp octets_cmp b a) refl refl
  where
    itself : (x y : List ℕ) → eq_by_cmp octets_cmp x y ≡ true → eq_by_cmp octets_cmp y x ≡ true
    itself x y tie =
        let same : x ≡ y = ties_are_equal octets_exact x y tie in
        subst (λ (z : List ℕ). eq_by_cmp octets_cmp z x ≡ true) same (ap is_eq (tied_itself nat_list_cmp_total x))

    by_both : (s t : Bool) → eq_by_cmp octets_cmp a b ≡ s → eq_by_cmp octets_cmp b a ≡ t → s ≡ t
    by_both true t p q = sym (itself a b p) ∙ q
    by_both false true p q = sym p ∙ itself b a q
    by_both false false p q = refl

-- a name has the same octets as one of an attribute, if their order ties
names_tie : (name a : List ℕ) → pointwise nat_eq name a ≡ eq_by_cmp octets_cmp a name
names_tie name a = texts_ties name a ∙ same_ties name a

-- none of greater keys is this one
none_above : (a : List ℕ) (es : List (List ℕ × AttrCell)) → AllByRecursion (λ k. octets_cmp a k ≡ Less) (keys_of es) → find octets_cmp a es ≡ None
none_above a [] below = refl
none_above a (e ∷ es) below =
    let off : eq_by_cmp octets_cmp a e.0 ≡ false = ap is_eq below.0 in
    ap (λ (t : Bool). cond t (Some e.1) (find octets_cmp a es)) off ∙ none_above a es below.1

abbrev valued : Option AttrCell → List (List ℕ)
valued o = option_map_or cell_values o []

-- the values of an attribute by an entry, and those after it
one_values : (a name : List ℕ) (c : AttrCell) (vs : List (List ℕ)) (more : List ShownAttr) (o : Option AttrCell) (t : Bool) → cell_values c ≡ vs
    → eq_by_cmp octets_cmp a name ≡ t → (t ≡ true → o ≡ None) → attr_values a more ≡ valued o
    → attr_values a (attr_as name vs ++ more) ≡ valued (cond t (Some c) o)
unfolding attr_values
one_values a name c [] more o true is tie none rest = rest ∙ ap valued (none refl) ∙ sym is
one_values a name c [] more o false is tie none rest = rest
one_values a name c (v ∷ vs) more o true is tie none rest =
    let on : pointwise nat_eq name a ≡ true = names_tie name a ∙ tie in rw on (sym is)
one_values a name c (v ∷ vs) more o false is tie none rest =
    let off : pointwise nat_eq name a ≡ false = names_tie name a ∙ tie in rw off rest

pub attrs_values : (a : List ℕ) (es : List (List ℕ × AttrCell)) → IsStrictlySortedBy octets_cmp (keys_of es)
    → attr_values a (attrs_as es) ≡ valued (find octets_cmp a es)
unfolding attrs_as attr_values IsStrictlySortedBy
attrs_values a [] sorted = refl
attrs_values a (e ∷ es) sorted =
    one_values a e.0 e.1 (cell_values e.1) (attrs_as es) (find octets_cmp a es) (eq_by_cmp octets_cmp a e.0) refl refl
    (λ tie. none_above a es (subst (λ (k : List ℕ). AllByRecursion (λ j. octets_cmp k j ≡ Less) (keys_of es)) (sym (ties_are_equal octets_exact a e.0 tie)) sorted.0))
    (attrs_values a es sorted.1)
