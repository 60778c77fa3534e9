-- Where an entry leads.
use Rattle.std.proofs.Common.{◌≡◌, ◌≢◌, filter, ap, ℕ, Bool, true, List, [], ◌∷◌, Option, Some, None, IsSome, refl, sym, subst, ◌∙◌, arith}
use Rattle.std.specs.Prelude.{◌==◌, is_none, length, if◌then◌else◌}
use Rattle.std.specs.List.{All}
use Rattle.std.proofs.lemmas.List.Elements.{filter_passes, recursion_from_All}
use Rattle.cds_stamps.specs.declared.stamp.Stamp.{Stamp}
use Rattle.cell_names.specs.FullNames.{is_full_name}
use Rattle.cell_names.specs.ChildPointers.{pointer_fault, is_child_pointer}
use Rattle.directory.specs.declared.entry.Kind.{Kind}
use Rattle.directory.specs.declared.entry.Kind.TheVariants.{Object, Link, Child}
use Rattle.directory.specs.declared.entry.EntryCell.{EntryCell}
use Rattle.directory.specs.Kinds.{is_child, link_target, replicas}
use Rattle.directory.specs.Shown.{Shown, targets, pointers, is_readable, leads, only_one, lead_of, face_of}

one_there : {X : Type 0} (xs : List X) → (length xs == 1) ≡ true → IsSome (only_one xs)
one_there [] e = cc (e)
one_there (x ∷ []) e = refl
one_there (x ∷ y ∷ xs) e = absurd (grind (arith, e))

one_holds : {X : Type 0} (P : X → Type 0) (xs : List X) (x : X) → All P xs → only_one xs ≡ Some x → P x
one_holds P [] x all e = cc (e)
one_holds P (y ∷ []) x all e = subst P (same y x e) (recursion_from_All P (y ∷ []) all).0
  where
    same : {X : Type 0} (y x : X) → Some y ≡ Some x → y ≡ x
    same y x e = cc (e)
one_holds P (y ∷ z ∷ xs) x all e = cc (e)

none_if : {X : Type 0} (x : Option X) → is_none x ≡ true → x ≡ None
none_if None e = refl
none_if (Some x) e = cc (e)

-- what leads on leads somewhere, unless it is an object
pub leads_somewhere : (e : Shown) → leads e.kind e.values ≡ true → e.kind ≢ Object → IsSome (lead_of e)
leads_somewhere e = at e.birth e.kind e.values
  where
    at : (b : Stamp) (k : Kind) (values : List ℕ → List (List ℕ)) → leads k values ≡ true → k ≢ Object
        → IsSome (lead_of (record { birth = b; kind = k; values = values }))
    at b Object values leading other = absurd (other refl)
    at b Link values leading other = one_there (targets (values link_target)) leading
    at b Child values leading other = one_there (pointers (values replicas)) leading

-- and where it leads reads as what its kind needs
pub lead_reads : (e : Shown) (v : List ℕ) → lead_of e ≡ Some v → is_readable e.kind v ≡ true
lead_reads e = at e.birth e.kind e.values
  where
    at : (b : Stamp) (k : Kind) (values : List ℕ → List (List ℕ)) (v : List ℕ) → lead_of (record { birth = b; kind = k; values = values }) ≡ Some v
        → is_readable k v ≡ true
    at b Object values v e = cc (e)
    at b Link values v e = one_holds (λ w. is_full_name w ≡ true) (targets (values link_target)) v (filter_passes is_full_name (values link_target)) e
    at b Child values v e = one_holds (λ w. is_child_pointer w ≡ true) (pointers (values replicas)) v (filter_passes is_child_pointer (values replicas)) e

-- the one value that reads
pub one_reads : (reads : List ℕ → Bool) (v : List ℕ) (vs : List (List ℕ)) → vs ≡ v ∷ [] → reads v ≡ true → filter reads vs ≡ v ∷ []
one_reads reads v vs is read = ap (filter reads) is ∙ ap (λ (t : Bool). if t then v ∷ [] else []) read

child_is : (k : Kind) → is_child k ≡ true → k ≡ Child
child_is Object e = cc (e)
child_is Link e = cc (e)
child_is Child e = refl

-- and where it leads reads as a child pointer
pub child_reads : (e : EntryCell) (v : List ℕ) → is_child e.kind ≡ true → lead_of (face_of e) ≡ Some v → pointer_fault v ≡ None
child_reads e v child leading = none_if (pointer_fault v) (ap (λ k. is_readable k v) (sym (child_is e.kind child)) ∙ lead_reads (face_of e) v leading)
