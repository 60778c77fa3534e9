-- The facts of a table, by what is looked up in it; and what holds of each open fact of a list that
-- has none.
use Rattle.std.proofs.Common.{◌≡◌, ℕ, Bool, true, false, List, [], ◌∷◌, Some, None, refl, sym, ap, subst, ◌∙◌, ⊎_elim}
use Rattle.std.specs.Prelude.{◌&&◌, if◌then◌else◌}
use Rattle.std.specs.FinMap.{get, entries}
use Rattle.std.specs.List.{Contains, find, flat_map}
use Rattle.std.proofs.lemmas.List.Elements.{Contains-append_left, Contains-append_right, Contains-append_cases}
use Rattle.cds_stamps.specs.declared.stamp.Stamp.{Stamp}
use Rattle.cds_stamps.specs.Stamps.{is_up_to}
use Rattle.cds_stamps.proofs.ListMembers.{Contains-head, Contains-tail, Contains-none, Contains-cases, Contains-flat_map, flat_map-Contains}
use Rattle.attr_sets.specs.declared.mark.ValueMark.{ValueMark}
use Rattle.attr_sets.specs.declared.cell.AttrCell.{AttrCell}
use Rattle.attr_sets.specs.Marks.{present_at}
use Rattle.attr_sets.proofs.ShownLaws.{has_entry, entry_of}
use Rattle.directory.specs.declared.entry.Kind.{Kind}
use Rattle.directory.specs.declared.entry.EntryCell.{EntryCell}
use Rattle.directory.specs.Entries.{Entries}
use Rattle.image_audit.specs.declared.fact.Fact.{Fact}
use Rattle.image_audit.specs.declared.fact.Fact.TheVariants.{Birth, Value}
use Rattle.image_audit.specs.Facts.{birth_fact, value_fact, attr_facts, entry_facts, facts}
use Rattle.image_audit.specs.LawWords.{HasCell}

-- ---- lists

-- of a list in which none passes each does not
pub find-none : {A : Type 0} (p : A → Bool) (xs : List A) → find p xs ≡ None → (x : A) → Contains xs x → p x ≡ false
find-none p [] none x c = absurd (Contains-none x c)
find-none p (y ∷ xs) none x c = at (p y) refl none (λ h rest. find-none p xs h x rest)
  where
    at : (b : Bool) → p y ≡ b → (if b then Some y else find p xs) ≡ None → (find p xs ≡ None → Contains xs x → p x ≡ false) → p x ≡ false
    at true is h others = absurd (cc (h))
    at false is h others = ⊎_elim (λ same. ap p (sym same) ∙ is) (others h) (Contains-cases y xs x c)

-- and where each does not pass there is no first
pub none-find : {A : Type 0} (p : A → Bool) (xs : List A) → ((x : A) → Contains xs x → p x ≡ false) → find p xs ≡ None
none-find p [] each = refl
none-find p (x ∷ xs) each =
    ap (λ b. if b then Some x else find p xs) (each x (Contains-head x xs)) ∙ none-find p xs (λ y c. each y (Contains-tail x xs y c))

-- what is in a list of one item that may be there
pub in_one : {A : Type 0} (b : Bool) (x y : A) → Contains (if b then x ∷ [] else []) y → (b ≡ true) × (x ≡ y)
in_one true x y c = (refl, ⊎_elim (λ is. is) (λ rest. absurd (Contains-none y rest)) (Contains-cases x [] y c))
in_one false x y c = absurd (Contains-none y c)

-- and that it is there
one_in : {A : Type 0} (b : Bool) (x : A) → b ≡ true → Contains (if b then x ∷ [] else []) x
one_in true x is = Contains-head x []
one_in false x is = absurd (cc (is))

-- two tests that both pass
pub both_pass : (a b : Bool) → (a && b) ≡ true → (a ≡ true) × (b ≡ true)
both_pass true b e = (refl, e)
both_pass false b e = absurd (cc (e))

-- ---- facts

-- an entry has this birth and kind, up to t
pub record HasBirth (t : Stamp) (table : Entries) (n : List ℕ) (k : Kind) (c : Stamp) : Type 0 where
  pub entry : EntryCell
  pub has : get table n ≡ Some entry
  pub kind : entry.kind ≡ k
  pub birth : entry.birth ≡ c
  pub early : is_up_to t c ≡ true

-- an entry of this birth has this value, present up to t
pub record HasValue (t : Stamp) (table : Entries) (n : List ℕ) (c : Stamp) (a v : List ℕ) (s : Stamp) : Type 0 where
  pub cell : AttrCell
  pub of : HasCell table n c a cell
  pub marked : get cell.values v ≡ Some (present_at s)
  pub early : is_up_to t s ≡ true

-- a table has a fact
abbrev pub HasFact : Stamp → Entries → Fact → Type 0
HasFact t table (Birth n k c) = HasBirth t table n k c
HasFact t table (Value n c a v s) = HasValue t table n c a v s

module _ (t : Stamp) (table : Entries) where
  looked_birth : (n : List ℕ) (e : EntryCell) → Contains (entries table) (n, e) → (f : Fact) → Contains (birth_fact t n e) f → HasFact t table f
  looked_birth n e there f c =
      let one = in_one (is_up_to t e.birth) (Birth n e.kind e.birth) f c in
      subst (HasFact t table) one.1
      (record { entry = e; has = has_entry table n e there; kind = refl; birth = refl; early = one.0 })

  present_is : (m : ValueMark) → m.present ≡ true → m ≡ present_at m.stamp
  present_is m is = λ i. record { present = is i; stamp = m.stamp }

  looked_value : (n : List ℕ) (e : EntryCell) → Contains (entries table) (n, e) → (a : List ℕ) (cell : AttrCell) → Contains (entries e.attrs) (a, cell)
      → (v : List ℕ) (m : ValueMark) → Contains (entries cell.values) (v, m) → (f : Fact) → Contains (value_fact t n e.birth a (v, m)) f → HasFact t table f
  looked_value n e there a cell at v m marked f c =
      let one = in_one (m.present && is_up_to t m.stamp) (Value n e.birth a v m.stamp) f c in
      let both = both_pass m.present (is_up_to t m.stamp) one.0 in
      subst (HasFact t table) one.1
      (record {
        cell = cell;
        of = record { entry = e; has = has_entry table n e there; birth = refl; has_cell = has_entry e.attrs a cell at };
        marked = has_entry cell.values v m marked ∙ ap Some (present_is m both.0);
        early = both.1;
      })

  -- what is among the facts of a table is looked up in it
  pub looked : (f : Fact) → Contains (facts (Some t) table) f → HasFact t table f
  looked f c =
      let at = flat_map-Contains (entry_facts t) (entries table) f c in
      let n : List ℕ = at.0.0 in
      let e : EntryCell = at.0.1 in
      ⊎_elim (looked_birth n e at.1 f)
      (λ values.
      let in_attr = flat_map-Contains (attr_facts t n e.birth) (entries e.attrs) f values in
      let in_value = flat_map-Contains (value_fact t n e.birth in_attr.0.0) (entries in_attr.0.1.values) f in_attr.2 in
      looked_value n e at.1 in_attr.0.0 in_attr.0.1 in_attr.1 in_value.0.0 in_value.0.1 in_value.1 f in_value.2)
      (Contains-append_cases (birth_fact t n e) (flat_map (attr_facts t n e.birth) (entries e.attrs)) f at.2)

  -- and what is looked up is among them
  pub listed : (f : Fact) → HasFact t table f → Contains (facts (Some t) table) f
  listed (Birth n k c) h =
      let e : EntryCell = h.entry in
      let is : Birth n e.kind e.birth ≡ Birth n k c = λ i. Birth n (h.kind i) (h.birth i) in
      Contains-flat_map (entry_facts t) (entries table) (n, e) (Birth n k c) (entry_of table n e h.has)
      (Contains-append_left (birth_fact t n e) (flat_map (attr_facts t n e.birth) (entries e.attrs)) (Birth n k c)
      (subst (Contains (birth_fact t n e)) is (one_in (is_up_to t e.birth) (Birth n e.kind e.birth) (ap (is_up_to t) h.birth ∙ h.early))))
  listed (Value n c a v s) h =
      let e : EntryCell = h.of.entry in
      let is : Value n e.birth a v s ≡ Value n c a v s = ap (λ b. Value n b a v s) h.of.birth in
      Contains-flat_map (entry_facts t) (entries table) (n, e) (Value n c a v s) (entry_of table n e h.of.has)
      (Contains-append_right (birth_fact t n e) (flat_map (attr_facts t n e.birth) (entries e.attrs)) (Value n c a v s)
      (Contains-flat_map (attr_facts t n e.birth) (entries e.attrs) (a, h.cell) (Value n c a v s) (entry_of e.attrs a h.cell h.of.has_cell)
      (Contains-flat_map (value_fact t n e.birth a) (entries h.cell.values) (v, present_at s) (Value n c a v s) (entry_of h.cell.values v (present_at s) h.marked)
      (subst (Contains (value_fact t n e.birth a (v, present_at s))) is (one_in (is_up_to t s) (Value n e.birth a v s) h.early)))))
