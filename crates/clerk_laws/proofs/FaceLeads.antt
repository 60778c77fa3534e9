-- Where an entry leads, as a house says it.
use Rattle.std.proofs.Common.{◌≡◌, ℕ, Bool, true, false, List, [], ◌∷◌, ◌++◌, length, refl, sym, ap, subst, ◌∙◌, arith}
use Rattle.std.specs.Prelude.{Option, Some, None, codes, filter, is_none, ◌==◌, if◌then◌else◌}
use Rattle.std.specs.List.{AllByRecursion}
use Rattle.std.specs.Option.{option_map, option_map_or}
use Rattle.std.proofs.lemmas.Bool.Decides.{nat_tests}
use Rattle.cds_stamps.specs.declared.stamp.Stamp.{Stamp}
use Rattle.cell_names.specs.ChildPointers.{Pointer, is_child_pointer}
use Rattle.cell_names.specs.FullNames.{components_of, is_full_name, name_fault}
use Rattle.cell_names.proofs.FullNameLaws.{spelling-components}
use Rattle.directory.specs.Kinds.{link_target, replicas}
use Rattle.directory.specs.Shown.{Shown, lead_of, leads, only_one, pointers, targets}
use Rattle.directory.specs.declared.entry.Kind.{Kind}
use Rattle.directory.specs.declared.entry.Kind.TheVariants as kind
use Rattle.script_answers.specs.Texts.{kind_word}
use Rattle.house_turns.specs.Showings.{lead_words, pointer_words}
use Rattle.clerk_lines.specs.declared.shown.Lead.{Lead}
use Rattle.clerk_lines.specs.declared.shown.Lead.TheVariants as lead
use Rattle.clerk_lines.specs.ShownTexts.{IsSayableLead, lead_text}
use Rattle.clerk_laws.specs.Faces.{IsSayableLed, child_at, lead_at}

-- ---- the one readable value

pub all_pass : (p : List ℕ → Bool) (xs : List (List ℕ)) → AllByRecursion (λ v. p v ≡ true) (filter p xs)
all_pass p [] = tt
all_pass p (x ∷ xs) = by_test (p x) refl (all_pass p xs)
  where
    by_test : (t : Bool) → p x ≡ t → AllByRecursion (λ v. p v ≡ true) (filter p xs)
        → AllByRecursion (λ v. p v ≡ true) (if t then x ∷ filter p xs else filter p xs)
    by_test true is rest = (is, rest)
    by_test false is rest = rest

-- the only item of a list of one
pub record IsOnly (P : List ℕ → Type 0) (xs : List (List ℕ)) : Type 0 where
  pub item : List ℕ
  pub only : only_one xs ≡ Some item
  pub passes : P item

one_of : (P : List ℕ → Type 0) (xs : List (List ℕ)) → AllByRecursion P xs → (length xs == 1) ≡ true → IsOnly P xs
one_of P [] all one = absurd (cc)
one_of P (x ∷ []) all one = record { item = x; only = refl; passes = all.0 }
one_of P (x ∷ y ∷ ys) all one = let off : (length (x ∷ y ∷ ys) == 1) ≡ false = grind (arith, nat_tests) in absurd (cc (sym off ∙ one))

-- ---- a lead

-- how an entry of this kind is said that leads there
pub record IsLed (k : Kind) (o : Option (List ℕ)) : Type 0 where
  pub to : Lead
  pub leads : lead_at k o ≡ Some to
  pub text : kind_word k ++ option_map_or (lead_words k) o [] ≡ lead_text to
  pub sayable : IsSayableLead to

is_none_of : {A : Type 0} (o : Option A) → is_none o ≡ true → o ≡ None
is_none_of None is = refl
is_none_of (Some x) is = cc

link_led : (v : List ℕ) → is_full_name v ≡ true → IsLed kind.Link (Some v)
link_led v full =
    let spelled = spelling-components v (is_none_of (name_fault v) full) in record {
      to = lead.Link (components_of v);
      leads = refl;
      text = ap (λ (w : List ℕ). codes "link" ++ 32 ∷ w) spelled.1;
      sayable = spelled.0;
    }

child_led : (v : List ℕ) → IsSayableLed kind.Child (Some v) → IsLed kind.Child (Some v)
child_led v said = record {
  to = lead.Child (child_at said.0);
  leads = ap (option_map (λ p. lead.Child (child_at p))) said.1;
  text = ap (λ (o : Option Pointer). codes "child" ++ pointer_words o) said.1;
  sayable = said.2;
}

pub led : (b : Stamp) (k : Kind) (values : List ℕ → List (List ℕ)) → let e : Shown = record { birth = b; kind = k; values = values } in
    leads k values ≡ true → IsSayableLed k (lead_of e) → IsLed k (lead_of e)
led b kind.Object values on said = record { to = lead.Object; leads = refl; text = refl; sayable = tt }
led b kind.Link values on said =
    let one = one_of (λ v. is_full_name v ≡ true) (targets (values link_target)) (all_pass is_full_name (values link_target)) on in
    subst (IsLed kind.Link) (sym one.only) (link_led one.item one.passes)
led b kind.Child values on said =
    let one = one_of (λ v. is_child_pointer v ≡ true) (pointers (values replicas)) (all_pass is_child_pointer (values replicas)) on in
    subst (IsLed kind.Child) (sym one.only) (child_led one.item (subst (IsSayableLed kind.Child) one.only said))
