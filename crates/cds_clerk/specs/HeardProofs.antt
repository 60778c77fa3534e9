-- What was heard shows finitely many objects.
use Rattle.std.proofs.Common.{◌≡◌, ℕ, Bool, true, false, List, [], ◌∷◌, map, refl, sym, ap, subst, ◌∙◌, arith}
use Rattle.std.specs.Prelude.{Option, Some, None, unwrap_or, nat_eq, ◌==◌, ◌&&◌, if◌then◌else◌}
use Rattle.std.specs.Cmp.Lexicographic.{pointwise, texts_ties}
use Rattle.std.specs.List.{Contains}
use Rattle.std.specs.Option.{option_map, option_map_or}
use Rattle.std.proofs.lemmas.Bool.{and_parts}
use Rattle.cds_stamps.proofs.ListMembers.{Contains-head, Contains-tail}
use Rattle.cds_stamps.specs.Keyed.{ties_are_equal}
use Rattle.cds_stamps.specs.Octets.{octets_exact}
use Rattle.cell_names.specs.ChildPointers.{Pointer}
use Rattle.directory.specs.declared.entry.Kind.{Kind}
use Rattle.directory.specs.declared.entry.Kind.TheVariants as kind
use Rattle.resolver.specs.declared.seen.Found.{Found}
use Rattle.resolver.specs.Readers.{Sight, ShowsOnly, Unreachable, object_found}
use Rattle.resolver.specs.SeenEnds.{entry_seen}
use Rattle.clerk_lines.specs.declared.hearing.Told.{Told}
use Rattle.clerk_lines.specs.declared.hearing.Told.TheVariants as told
use Rattle.clerk_lines.specs.declared.shown.Lead.{Lead}
use Rattle.clerk_lines.specs.declared.shown.Lead.TheVariants as lead
use Rattle.clerk_lines.specs.declared.shown.ShownEntry.{ShownEntry}
use Rattle.cds_clerk.specs.declared.heard.Answered.{Answered}
use Rattle.cds_clerk.specs.declared.heard.Heard.{Heard}
use Rattle.cds_clerk.specs.Heards.{heard_sight, is_about, lead_sight, near_of, seen_among, seen_by, seen_first, told_of}
use Rattle.cds_clerk.specs.Readings.{least_reader}

-- ---- what is seen was shown

-- an entry that is seen was shown by that house
abbrev pub IsTold : List Answered → (dir : ℕ) → (name : List ℕ) → Option Sight → Type 0
IsTold answers dir name o =
    (x : ℕ) (k : Kind) → entry_seen (unwrap_or o Unreachable) ≡ Some (x, k)
    → (e : ShownEntry) × (told_of answers dir x name ≡ Some (told.Shows e))

same_house : (x y : ℕ) (k l : Kind) → ◌≡◌ {A = Option (ℕ × Kind)} (Some (x, k)) (Some (y, l))
    → x ≡ y
same_house x y k l is = ap (λ (o : Option (ℕ × Kind)). option_map_or (λ q. q.0) o x) is

module _ (answers : List Answered) (dir : ℕ) (name : List ℕ) where
  -- the house said so
  abbrev IsSaid : ℕ → ShownEntry → Type 0
  IsSaid x e = told_of answers dir x name ≡ Some (told.Shows e)

  lead_told : (x : ℕ) (e : ShownEntry) (to : Lead) → IsSaid x e
      → IsTold answers dir name (Some (lead_sight x to))
  lead_told x e lead.Object is y k seen =
      (e, subst (λ (z : ℕ). IsSaid z e) (same_house x y kind.Object k seen) is)
  lead_told x e (lead.Link target) is y k seen =
      (e, subst (λ (z : ℕ). IsSaid z e) (same_house x y kind.Link k seen) is)
  lead_told x e (lead.Child p) is y k seen =
      (e, subst (λ (z : ℕ). IsSaid z e) (same_house x y kind.Child k seen) is)

  house_told : (x : ℕ) (t : Option Told) (later : Option Sight) → told_of answers dir x name ≡ t
      → IsTold answers dir name later → IsTold answers dir name (seen_by t x later)
  house_told x None later is rest y k seen = absurd (cc)
  house_told x (Some told.Passed) later is rest y k seen = rest y k seen
  house_told x (Some told.Absent) later is rest y k seen = absurd (cc)
  house_told x (Some (told.Shows e)) later is rest y k seen = lead_told x e e.lead is y k seen

  among_told : (houses : List ℕ) (later : Option Sight) → IsTold answers dir name later
      → IsTold answers dir name (seen_among answers dir name houses later)
  unfolding seen_among
  among_told [] later rest = rest
  among_told (x ∷ xs) later rest =
      house_told x (told_of answers dir x name) (seen_among answers dir name xs later) refl
      (among_told xs later rest)

  first_told : (near : Option ℕ) (later : Option Sight) → IsTold answers dir name later
      → IsTold answers dir name (seen_first answers dir name near later)
  first_told None later rest = rest
  first_told (Some x) later rest =
      house_told x (told_of answers dir x name) later refl rest

pub sight_told : (h : Heard) (at : Pointer) (name : List ℕ)
    → IsTold h.answers at.dir name (heard_sight h at name)
sight_told h at name =
    let houses : List ℕ = at.master ∷ at.others in
    first_told h.answers at.dir name (near_of (option_map (λ x. x.0) h.near) houses)
    (seen_among h.answers at.dir name houses (Some Unreachable))
    (among_told h.answers at.dir name houses (Some Unreachable) (λ x k seen. absurd (cc)))

-- ---- objects

-- an object for each answer: more than show, but finitely many
abbrev pub told_objects : List Answered → List Found
told_objects answers = map (λ a. object_found a.dir.0 a.house.0 a.name) answers

-- numbers and names that tie are equal
pub same_number : (a b : ℕ) → (a == b) ≡ true → a ≡ b
same_number a b is = grind (arith, is)

pub same_name : (a b : List ℕ) → pointwise nat_eq a b ≡ true → a ≡ b
same_name a b is = ties_are_equal octets_exact a b (sym (texts_ties a b) ∙ is)

-- an answer about this is one of its object
about_is : (a : Answered) (dir house : ℕ) (name : List ℕ) → is_about a dir house name ≡ true
    → object_found a.dir.0 a.house.0 a.name ≡ object_found dir house name
about_is a dir house name is =
    let named : Bool = pointwise nat_eq a.name name in
    let first = and_parts (a.dir.0 == dir) (a.house.0 == house && named) is in
    let rest = and_parts (a.house.0 == house) named first.1 in
    let d = same_number a.dir.0 dir first.0 in
    let x = same_number a.house.0 house rest.0 in
    let n = same_name a.name name rest.1 in
    λ i. object_found (d i) (x i) (n i)

told_contains : (answers : List Answered) (dir house : ℕ) (name : List ℕ) (t : Told)
    → told_of answers dir house name ≡ Some t
    → Contains (told_objects answers) (object_found dir house name)
unfolding told_of
told_contains [] dir house name t is = absurd (cc)
told_contains (a ∷ more) dir house name t is =
    by_test (is_about a dir house name) refl (told_contains more dir house name t) is
  where
    front : Found
    front = object_found a.dir.0 a.house.0 a.name

    by_test : (b : Bool) → is_about a dir house name ≡ b
        → (told_of more dir house name ≡ Some t
        → Contains (told_objects more) (object_found dir house name))
        → (if b then Some a.told else told_of more dir house name) ≡ Some t
        → Contains (told_objects (a ∷ more)) (object_found dir house name)
    by_test true about rest here =
        subst (Contains (told_objects (a ∷ more))) (about_is a dir house name about)
        (Contains-head front (told_objects more))
    by_test false about rest later =
        Contains-tail front (told_objects more) (object_found dir house name) (rest later)

-- a reader of what was heard shows these objects alone
pub least_shows_only : (h : Heard) → ShowsOnly (least_reader h) (told_objects h.answers)
least_shows_only h at house name is =
    let shown = sight_told h at name house kind.Object (ap entry_seen is) in
    told_contains h.answers at.dir house name (told.Shows shown.0) shown.1
