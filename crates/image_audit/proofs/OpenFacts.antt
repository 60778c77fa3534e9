-- The first fact that is reported of a table is the first open one.
use Rattle.std.proofs.Common.{◌≡◌, ℕ, Bool, true, false, not, List, [], ◌∷◌, Option, Some, None, refl, ap, ◌∙◌}
use Rattle.std.specs.Prelude.{◌&&◌, ◌||◌, if◌then◌else◌}
use Rattle.std.specs.List.{find, flat_map}
use Rattle.std.specs.Option.{option_map_or, option_and_then, option_or}
use Rattle.std.specs.FinMap.{get, entries}
use Rattle.std.proofs.lemmas.List.Folds.{find-append}
use Rattle.cds_stamps.specs.declared.stamp.Stamp.{Stamp}
use Rattle.cds_stamps.specs.Firsts.{first_some}
use Rattle.cds_stamps.specs.Stamps.{is_earlier, is_up_to, is_stamp}
use Rattle.cds_stamps.proofs.FirstLaws.{find-flat_map}
use Rattle.directory.specs.declared.entry.EntryCell.{EntryCell}
use Rattle.directory.specs.Entries.{Entries}
use Rattle.directory.specs.Kinds.{is_kind}
use Rattle.image_audit.specs.declared.fact.Fact.{Fact}
use Rattle.image_audit.specs.declared.fact.Fact.TheVariants.{Birth, Value}
use Rattle.image_audit.specs.Facts.{birth_fact, value_fact, attr_facts, entry_facts, facts, answers_fact, answers_cell, is_open}
use Rattle.image_audit.specs.PrivateOpen.{open_birth, open_beside, open_entry}

-- ---- the first of a list

-- where two functions make the same of each item, they make the same first
first_some-same : {A B : Type 0} (f g : A → Option B) → ((x : A) → f x ≡ g x) → (xs : List A) → first_some f xs ≡ first_some g xs
first_some-same f g same [] = refl
first_some-same f g same (x ∷ xs) = ap (λ y. option_or y (first_some f xs)) (same x) ∙ ap (option_or (g x)) (first_some-same f g same xs)

-- where nothing is made of any item, there is no first
first_some-none : {A B : Type 0} (f : A → Option B) → ((x : A) → f x ≡ None) → (xs : List A) → first_some f xs ≡ None
first_some-none f none [] = refl
first_some-none f none (x ∷ xs) = ap (λ y. option_or y (first_some f xs)) (none x) ∙ first_some-none f none xs

-- of one item that may be there, the first that passes
find-one : {A : Type 0} (p : A → Bool) (x : A) (b : Bool) → find p (if b then x ∷ [] else []) ≡ (if b && p x then Some x else None)
find-one p x true = refl
find-one p x false = refl

-- ---- one entry, beside what the other has of its name

module _ (t : Stamp) (n : List ℕ) (e : EntryCell) where
  abbrev c : Stamp
  c = e.birth

  -- an entry answers, if there is one
  abbrev answered : Fact → Option EntryCell → Bool
  answered f o = option_map_or (answers_fact f) o false

  -- what is open beside an entry of the other
  abbrev found : Option EntryCell → Option Fact
  found o =
      option_or (if is_up_to t c && not (answered (Birth n e.kind c) o) then Some (Birth n e.kind c) else None)
      (first_some (λ a. first_some (λ v. if (v.1.present && is_up_to t v.1.stamp) && not (answered (Value n c a.0 v.0 v.1.stamp) o)
      then Some (Value n c a.0 v.0 v.1.stamp) else None) (entries a.1.values)) (entries e.attrs))

  -- the first of its facts that is open is what is open beside the entry that the table has of its
  -- name
  find-found : (table : Entries) → find (is_open table) (entry_facts t (n, e)) ≡ found (get table n)
  find-found table =
      find-append (is_open table) (birth_fact t n e) (flat_map (attr_facts t n c) (entries e.attrs))
      ∙ ap (λ x. option_or x (find (is_open table) (flat_map (attr_facts t n c) (entries e.attrs)))) (find-one (is_open table) (Birth n e.kind c) (is_up_to t c))
      ∙ ap (option_or (if is_up_to t c && is_open table (Birth n e.kind c) then Some (Birth n e.kind c) else None))
      (find-flat_map (is_open table) (attr_facts t n c) (entries e.attrs) ∙ first_some-same _ _ (λ a.
      find-flat_map (is_open table) (value_fact t n c a.0) (entries a.1.values) ∙ first_some-same _ _ (λ v.
      find-one (is_open table) (Value n c a.0 v.0 v.1.stamp) (v.1.present && is_up_to t v.1.stamp)) (entries a.1.values)) (entries e.attrs))

  -- where the same facts are answered, the same are open
  found-same : (same : Option EntryCell) (o : Option EntryCell)
      → answered (Birth n e.kind c) o ≡ option_map_or (λ o. is_kind o.kind e.kind) same false
      → ((a v : List ℕ) (s : Stamp) → answered (Value n c a v s) o ≡ option_map_or (answers_cell v s) (option_and_then (λ o. get o.attrs a) same) false)
      → found o ≡ open_beside t n e same
  found-same same o birth value =
      ap (λ b. option_or (if is_up_to t c && not b then Some (Birth n e.kind c) else None) (first_some (λ a. first_some (λ v.
      if (v.1.present && is_up_to t v.1.stamp) && not (answered (Value n c a.0 v.0 v.1.stamp) o) then Some (Value n c a.0 v.0 v.1.stamp) else None)
      (entries a.1.values)) (entries e.attrs))) birth
      ∙ ap (option_or (open_birth t n e same)) (first_some-same _ _ (λ a. first_some-same _ _ (λ v.
      ap (λ b. if (v.1.present && is_up_to t v.1.stamp) && not b then Some (Value n c a.0 v.0 v.1.stamp) else None) (value a.0 v.0 v.1.stamp))
      (entries a.1.values)) (entries e.attrs))

  never : (b : Bool) → (if b && false then Some (Birth n e.kind c) else None) ≡ None
  never true = refl
  never false = refl

  none_found : (b : Bool) (f : Fact) → (if b && false then Some f else None) ≡ None
  none_found true f = refl
  none_found false f = refl

  -- beside a later birth all is answered
  found-later : (o : EntryCell) → is_earlier c o.birth ≡ true → found (Some o) ≡ None
  found-later o later =
      ap (λ b. option_or (if is_up_to t c && not (b || (is_stamp o.birth c && is_kind o.kind e.kind)) then Some (Birth n e.kind c) else None)
      (first_some (λ a. first_some (λ v. if (v.1.present && is_up_to t v.1.stamp) && not (answered (Value n c a.0 v.0 v.1.stamp) (Some o))
      then Some (Value n c a.0 v.0 v.1.stamp) else None) (entries a.1.values)) (entries e.attrs))) later
      ∙ ap (λ x. option_or x (first_some (λ a. first_some (λ v. if (v.1.present && is_up_to t v.1.stamp)
      && not (answered (Value n c a.0 v.0 v.1.stamp) (Some o))
      then Some (Value n c a.0 v.0 v.1.stamp) else None) (entries a.1.values)) (entries e.attrs))) (never (is_up_to t c))
      ∙ first_some-none _ (λ a. first_some-none _ (λ v.
      ap (λ b. if (v.1.present && is_up_to t v.1.stamp) && not (b || (is_stamp o.birth c
      && option_map_or (answers_cell v.0 v.1.stamp) (get o.attrs a.0) false)) then Some (Value n c a.0 v.0 v.1.stamp) else None) later
      ∙ none_found (v.1.present && is_up_to t v.1.stamp) (Value n c a.0 v.0 v.1.stamp)) (entries a.1.values)) (entries e.attrs)

  -- beside another that is not later only the same birth answers
  found-other : (o : EntryCell) → is_earlier c o.birth ≡ false → found (Some o) ≡ open_beside t n e (if is_stamp o.birth c then Some o else None)
  found-other o not_later = at (is_stamp o.birth c) refl
    where
      at : (b : Bool) → is_stamp o.birth c ≡ b → found (Some o) ≡ open_beside t n e (if b then Some o else None)
      at true same =
          found-same (Some o) (Some o)
          (ap (λ b. b || (is_stamp o.birth c && is_kind o.kind e.kind)) not_later ∙ ap (λ b. b && is_kind o.kind e.kind) same)
          (λ a v s. ap (λ b. b || (is_stamp o.birth c && option_map_or (answers_cell v s) (get o.attrs a) false)) not_later
          ∙ ap (λ b. b && option_map_or (answers_cell v s) (get o.attrs a) false) same)
      at false apart =
          found-same None (Some o)
          (ap (λ b. b || (is_stamp o.birth c && is_kind o.kind e.kind)) not_later ∙ ap (λ b. b && is_kind o.kind e.kind) apart)
          (λ a v s. ap (λ b. b || (is_stamp o.birth c && option_map_or (answers_cell v s) (get o.attrs a) false)) not_later
          ∙ ap (λ b. b && option_map_or (answers_cell v s) (get o.attrs a) false) apart)

  found-entry : (o : Option EntryCell) → found o ≡ open_entry t n e o
  found-entry None = found-same None None refl (λ a v s. refl)
  found-entry (Some o) = at (is_earlier c o.birth) refl
    where
      at : (b : Bool) → is_earlier c o.birth ≡ b
          → found (Some o) ≡ (if b then None else open_beside t n e (if is_stamp o.birth c then Some o else None))
      at true later = found-later o later
      at false not_later = found-other o not_later

-- the first open fact of a table is that of the first entry that has one
pub first_told : (t : Stamp) (own other : Entries)
    → find (is_open other) (facts (Some t) own) ≡ first_some (λ e. open_entry t e.0 e.1 (get other e.0)) (entries own)
first_told t own other =
    find-flat_map (is_open other) (entry_facts t) (entries own)
    ∙ first_some-same _ _ (λ e. find-found t e.0 e.1 other ∙ found-entry t e.0 e.1 (get other e.0)) (entries own)
