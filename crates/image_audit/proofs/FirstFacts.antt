-- The fact that is reported is the first open one of both replicas, and where none is reported none
-- is open.
use Rattle.std.proofs.Common.{◌≡◌, inl, inr, ℕ, Bool, true, false, List, [], ◌∷◌, Option, Some, None, refl, sym, ap, subst, ◌∙◌, ⊎_elim, arith}
use Rattle.std.specs.Prelude.{if◌then◌else◌}
use Rattle.std.specs.List.{Contains, find}
use Rattle.std.specs.declared.cmp.Ordering.{Ordering}
use Rattle.std.specs.declared.cmp.Ordering.TheVariants.{Less, Equal, Greater}
use Rattle.std.specs.Ordering.{is_lt, nat_cmp, ordering_then}
use Rattle.std.specs.Cmp.{IsTotalOrder}
use Rattle.cds_stamps.specs.declared.stamp.Stamp.{Stamp}
use Rattle.cds_stamps.specs.declared.numbers.DirId.{DirId}
use Rattle.cds_stamps.proofs.ListMembers.{Contains-head, Contains-tail}
use Rattle.directory.proofs.UpdateLaws.{not_both}
use Rattle.purge_rule.specs.declared.replica.Replica.{Replica}
use Rattle.cds_messages.specs.declared.image.Image.{Image}
use Rattle.image_audit.specs.declared.fact.Fact.{Fact}
use Rattle.image_audit.specs.declared.verdict.Verdict.TheVariants.{Agree, Differ}
use Rattle.image_audit.specs.Facts.{facts, is_open, fact_cmp}
use Rattle.image_audit.specs.Verdicts.{smaller, is_up_to_same, open_of, first_of, first_open, replica_in, tell_verdict, verdict_of, verdict}
use Rattle.image_audit.specs.LawWords.{IsOpenFact, OpenIn, told_cmp, IsFirstOpen}
use Rattle.image_audit.proofs.Looked.{find-none}
use Rattle.image_audit.proofs.FactOrder.{fact_total, first_is_least}

-- ---- one replica

-- what is found is in the list, and passes
find-some : {A : Type 0} (p : A → Bool) (xs : List A) (f : A) → find p xs ≡ Some f → Contains xs f × (p f ≡ true)
find-some p [] f found = absurd (cc (found))
find-some p (x ∷ xs) f found = at (p x) refl found (λ h. find-some p xs f h)
  where
    at : (b : Bool) → p x ≡ b → (if b then Some x else find p xs) ≡ Some f → (find p xs ≡ Some f → Contains xs f × (p f ≡ true))
        → Contains (x ∷ xs) f × (p f ≡ true)
    at true is h later = let same : x ≡ f = cc (h) in (subst (Contains (x ∷ xs)) same (Contains-head x xs), ap p (sym same) ∙ is)
    at false is h later = let rest = later h in (Contains-tail x xs f rest.0, rest.1)

module _ (t : Option Stamp) (own other : Replica) where
  abbrev found : Option Fact
  found = find (is_open other.table) (facts t own.table)

  -- what is reported of it is open
  open_found : (f : Fact) → open_of t own other ≡ Some f → IsOpenFact t own other f
  open_found f is = at (is_up_to_same t other.all_up_to) refl is
    where
      at : (b : Bool) → is_up_to_same t other.all_up_to ≡ b → (if b then found else None) ≡ Some f → IsOpenFact t own other f
      at true asked h =
          let some = find-some (is_open other.table) (facts t own.table) f h in
          record { among = some.0; asked = asked; silent = some.1 }
      at false asked h = absurd (cc (h))

  -- and no other open one comes before it
  open_least : (f g : Fact) → open_of t own other ≡ Some f → IsOpenFact t own other g → is_lt (fact_cmp g f) ≡ false
  open_least f g is one =
      first_is_least t own.table (is_open other.table) f g (sym (ap (λ b. if b then found else None) one.asked) ∙ is) one.among one.silent

  -- where nothing is reported none is open
  open_none : open_of t own other ≡ None → (g : Fact) → IsOpenFact t own other g → ⊥
  open_none is g one =
      not_both (is_open other.table g) one.silent
      (find-none (is_open other.table) (facts t own.table) (sym (ap (λ b. if b then found else None) one.asked) ∙ is) g one.among)

-- ---- any order

module _ {K : Type 0} {R : K → K → Ordering} (o : IsTotalOrder R) where
  above : (f g h : K) → is_lt (R g f) ≡ true → is_lt (R h f) ≡ false → R h g ≡ Greater
  above f g h p q = grind (arith, p, q, o.trans h g f, o.antisymm h f, o.antisymm h g, o.antisymm g f, o.congr h g f, o.congr g h f)

  not_less : (f g h : K) → is_lt (R g f) ≡ false → is_lt (R h g) ≡ false → is_lt (R h f) ≡ false
  not_less f g h p q =
      grind (
        arith,
        p,
        q,
        o.trans h f g,
        o.trans f g h,
        o.trans g h f,
        o.trans f h g,
        o.antisymm h f,
        o.antisymm h g,
        o.antisymm g f,
        o.antisymm f g,
        o.congr h g f,
        o.congr g h f,
        o.congr f g h,
        o.congr g f h,
      )

then_not : (r s : Ordering) → is_lt r ≡ false → is_lt s ≡ false → is_lt (ordering_then r s) ≡ false
then_not Less s p q = p
then_not Equal s p q = q
then_not Greater s p q = refl

-- ---- both

module _ (one two : Replica) where
  abbrev t : Option Stamp
  t = smaller one.all_up_to two.all_up_to

  -- what is reported is the first, of the first replica
  first_is : (f : Fact) → open_of t one two ≡ Some f → ((g : Fact) → IsOpenFact t two one g → is_lt (fact_cmp g f) ≡ false) → IsFirstOpen one two 1 f
  first_is f is others = record {
    open_there = inl (refl, open_found t one two f is);
    first = λ j g. ⊎_elim
        (λ mine. subst (λ j. is_lt (told_cmp (j, g) (1, f)) ≡ false) (sym mine.0)
        (then_not (fact_cmp g f) (nat_cmp 1 1) (open_least t one two f g is mine.1) refl))
        (λ theirs. subst (λ j. is_lt (told_cmp (j, g) (1, f)) ≡ false) (sym theirs.0)
        (then_not (fact_cmp g f) (nat_cmp 2 1) (others g theirs.1) refl));
  }

  -- or of the second
  second_is : (f : Fact) → open_of t two one ≡ Some f → ((g : Fact) → IsOpenFact t one two g → fact_cmp g f ≡ Greater) → IsFirstOpen one two 2 f
  second_is f is others = record {
    open_there = inr (refl, open_found t two one f is);
    first = λ j g. ⊎_elim
        (λ mine. subst (λ j. is_lt (told_cmp (j, g) (2, f)) ≡ false) (sym mine.0)
        (ap (λ r. is_lt (ordering_then r (nat_cmp 1 2))) (others g mine.1)))
        (λ theirs. subst (λ j. is_lt (told_cmp (j, g) (2, f)) ≡ false) (sym theirs.0)
        (then_not (fact_cmp g f) (nat_cmp 2 2) (open_least t two one f g is theirs.1) refl));
  }

  -- what is reported of two: the first open fact, or that there is none
  abbrev IsFirst : Option (ℕ × Fact) → Type 0
  IsFirst None = (image : ℕ) (f : Fact) → OpenIn one two image f → ⊥
  IsFirst (Some f) = IsFirstOpen one two f.0 f.1

  first_told : (p q : Option Fact) → open_of t one two ≡ p → open_of t two one ≡ q → IsFirst (first_of p q)
  first_told None None p q =
      λ image f. ⊎_elim (λ mine. open_none t one two p f mine.1) (λ theirs. open_none t two one q f theirs.1)
  first_told (Some f) None p q = first_is f p (λ g h. absurd (open_none t two one q g h))
  first_told None (Some g) p q = second_is g q (λ h mine. absurd (open_none t one two p h mine))
  first_told (Some f) (Some g) p q = at (is_lt (fact_cmp g f)) refl
    where
      at : (b : Bool) → is_lt (fact_cmp g f) ≡ b → IsFirst (if b then Some (2, g) else Some (1, f))
      at true less = second_is g q (λ h mine. above fact_total f g h less (open_least t one two f h p mine))
      at false not_before = first_is f p (λ h theirs. not_less fact_total f g h not_before (open_least t two one g h q theirs))

  both_told : IsFirst (first_open one two)
  both_told = first_told (open_of t one two) (open_of t two one) refl refl

-- ---- images

module _ (first second : Image) (dir : DirId) (one two : Replica) (mine : replica_in first dir ≡ Some one) (theirs : replica_in second dir ≡ Some two) where
  told_is : verdict first second dir ≡ tell_verdict (smaller one.all_up_to two.all_up_to) (first_open one two)
  told_is = ap (λ r. verdict_of r (replica_in second dir)) mine ∙ ap (verdict_of (Some one)) theirs

  -- the fact that is reported is the first open one
  pub differ_first : (image : ℕ) (f : Fact) → verdict first second dir ≡ Differ image f → IsFirstOpen one two image f
  differ_first image f is = by_told (first_open one two) (sym told_is ∙ is) (both_told one two)
    where
      by_told : (x : Option (ℕ × Fact)) → tell_verdict (smaller one.all_up_to two.all_up_to) x ≡ Differ image f → IsFirst one two x → IsFirstOpen one two image f
      by_told None h first = absurd (cc (h))
      by_told (Some x) h first =
          let same : x.0 ≡ image = cc (h) in
          let fact : x.1 ≡ f = cc (h) in
          subst (λ i. IsFirstOpen one two i f) same (subst (IsFirstOpen one two x.0) fact first)

  -- and where they are reported to agree none is open
  pub agree_none : (t : Option Stamp) → verdict first second dir ≡ Agree t → (image : ℕ) (f : Fact) → OpenIn one two image f → ⊥
  agree_none t is = by_told (first_open one two) (sym told_is ∙ is) (both_told one two)
    where
      by_told : (x : Option (ℕ × Fact)) → tell_verdict (smaller one.all_up_to two.all_up_to) x ≡ Agree t → IsFirst one two x
          → (image : ℕ) (f : Fact) → OpenIn one two image f → ⊥
      by_told None h first = first
      by_told (Some x) h first = absurd (cc (h))
