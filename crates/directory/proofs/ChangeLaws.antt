-- What shows after an accepted update.
use Rattle.std.proofs.Common.{◌≡◌, ◌≢◌, ℕ, Bool, true, false, List, [], ◌∷◌, ◌++◌, Option, Some, None}
use Rattle.std.proofs.Common.{IsSome, refl, sym, ap, subst, ◌∙◌, ◌⊎◌, inl, inr, ⊎_elim, ◌↔◌, arith, append-nil}
use Rattle.std.specs.Prelude.{◌&&◌, ◌||◌, ◌==◌, IsSomeAnd, is_none, not, length, if◌then◌else◌}
use Rattle.std.specs.declared.cmp.Ordering.{Ordering}
use Rattle.std.specs.declared.cmp.Ordering.TheVariants.{Less, Equal}
use Rattle.std.specs.List.Sorted.{IsStrictlySortedBy}
use Rattle.std.specs.List.{AllByRecursion, Contains, cons_option}
use Rattle.std.specs.Option.{option_and_then}
use Rattle.std.specs.Cmp.{eq_by_cmp_equiv, tied_itself}
use Rattle.std.specs.Cmp.Lexicographic.{nat_list_cmp_total}
use Rattle.std.proofs.lemmas.List.Elements.{filter_map-append}
use Rattle.cds_stamps.specs.declared.stamp.Stamp.{Stamp}
use Rattle.cds_stamps.specs.Semilattice.{maybe, greater, join_of-append}
use Rattle.cds_stamps.specs.Keyed.{ties_are_equal}
use Rattle.cds_stamps.specs.Stamps.{is_earlier, is_stamp, earlier_stamp}
use Rattle.cds_stamps.specs.Octets.{octets_cmp, octets_exact, is_octets}
use Rattle.cell_names.specs.FullNames.{is_full_name, full_name_octets, IsComponentList}
use Rattle.cell_names.specs.Houses.{IsHouses}
use Rattle.cell_names.specs.ChildPointers.{Pointer, is_child_pointer, pointer_octets}
use Rattle.cell_names.proofs.FullNameLaws.{name_fault-spelling}
use Rattle.cell_names.proofs.PointerLaws.{written_read}
use Rattle.attr_sets.proofs.ShownLaws.{shown_values-ascending}
use Rattle.attr_sets.specs.AttributeCells.{AttrMark, Cleared, Marked, attr_stamp, shown_values}
use Rattle.attr_sets.specs.ShownValues as attr
use Rattle.attr_sets.proofs.Greatest.{Contains-head, Contains-tail, Contains-none, Contains-cases}
use Rattle.attr_sets.proofs.UpdateLaws.{shown_values-added, shown_values-removed, shown_values-put, shown_values-cleared}
use Rattle.directory.specs.declared.entry.Kind.{Kind}
use Rattle.directory.specs.declared.entry.Kind.TheVariants.{Object, Link, Child}
use Rattle.directory.specs.Kinds.{is_child, link_target, replicas}
use Rattle.directory.specs.Updates.{Change, Create, MakeLink, MakeChild, Delete, Add, Remove, Put, Clear, Repoint, changed_name}
use Rattle.directory.specs.Histories.{Mark, Birth, Death, Attr, Born, name_in, birth_in}
use Rattle.directory.specs.Histories.{birth_cmp, attr_mark_in, birth_of, death_of, attr_history, IsHistory, IsBefore}
use Rattle.directory.specs.Shown.{Shown, leads, targets, pointers, only_one, lead_of, value_mark, shown_dir}
use Rattle.directory.specs.Shown.{shown_if_live, shown_born, shown_of_name, is_reserved, live_refusal, refusal_of, marks_of, ChangesValues}
use Rattle.directory.proofs.HistoryLaws.{births, death_joined, before, no_birth, no_death, no_attrs}
use Rattle.directory.proofs.FragmentLaws.{same_octets, one_birth, one_death, changes, birth_of-changes, death_of-changes, attr_history-changes}
use Rattle.directory.proofs.ShownLaws.{shown_values-nil}
use Rattle.directory.proofs.TableLaws.{birth_of-other}
use Rattle.directory.proofs.Leads.{one_reads, leads_somewhere}
use Rattle.directory.proofs.SeenLaws.{birth_among, IsSeen, seen}
use Rattle.directory.proofs.UpdateLaws.{marks_of-names}

alone : {X : Type 0} (f : X → X → X) (x : Option X) → maybe f x None ≡ x
alone f None = refl
alone f (Some x) = refl

-- ---- other names

death_of-other : (ms : List Mark) (n q : List ℕ) (c : Stamp) → AllByRecursion (λ m. name_in m ≡ n) ms → is_octets q n ≡ false → death_of ms q c ≡ None
death_of-other [] n q c named apart = refl
death_of-other (Birth m k d ∷ ms) n q c named apart = death_of-other ms n q c named.1 apart
death_of-other (Death m d s ∷ ms) n q c named apart =
    ap (λ t. maybe earlier_stamp (if t && is_stamp c d then Some s else None) (death_of ms q c)) (ap (is_octets q) named.0 ∙ apart)
    ∙ death_of-other ms n q c named.1 apart
death_of-other (Attr m d a x ∷ ms) n q c named apart = death_of-other ms n q c named.1 apart

attr_history-other : (ms : List Mark) (n q : List ℕ) (c : Stamp) (a : List ℕ) → AllByRecursion (λ m. name_in m ≡ n) ms → is_octets q n ≡ false
    → attr_history ms q c a ≡ []
attr_history-other [] n q c a named apart = refl
attr_history-other (Birth m k d ∷ ms) n q c a named apart = attr_history-other ms n q c a named.1 apart
attr_history-other (Death m d s ∷ ms) n q c a named apart = attr_history-other ms n q c a named.1 apart
attr_history-other (Attr m d b x ∷ ms) n q c a named apart =
    ap (λ t. cons_option (if t && is_stamp c d && is_octets a b then Some x else None) (attr_history ms q c a)) (ap (is_octets q) named.0 ∙ apart)
    ∙ attr_history-other ms n q c a named.1 apart

octets_apart : (q n : List ℕ) → q ≢ n → is_octets q n ≡ false
octets_apart q n differs = at (is_octets q n) refl
  where
    at : (t : Bool) → is_octets q n ≡ t → t ≡ false
    at true same = absurd (differs (ties_are_equal octets_exact q n same))
    at false same = refl

-- marks of one name change no other
pub shown-other : (h ms : List Mark) (n q : List ℕ) → AllByRecursion (λ m. name_in m ≡ n) ms → q ≢ n → shown_of_name (h ++ ms) q ≡ shown_of_name h q
shown-other h ms n q named differs = ap (option_and_then (shown_born (h ++ ms) q)) birth ∙ by_birth (birth_of h q)
  where
    apart : is_octets q n ≡ false
    apart = octets_apart q n differs

    birth : birth_of (h ++ ms) q ≡ birth_of h q
    birth = join_of-append births (birth_in q) h ms ∙ ap (maybe (greater birth_cmp) (birth_of h q)) (birth_of-other ms n q named apart)
        ∙ alone (greater birth_cmp) (birth_of h q)

    death : (c : Stamp) → death_of (h ++ ms) q c ≡ death_of h q c
    death c = sym (death_joined h ms q c) ∙ ap (maybe earlier_stamp (death_of h q c)) (death_of-other ms n q c named apart)
        ∙ alone earlier_stamp (death_of h q c)

    history : (c : Stamp) (a : List ℕ) → attr_history (h ++ ms) q c a ≡ attr_history h q c a
    history c a = filter_map-append (attr_mark_in q c a) h ms ∙ ap (λ l. attr_history h q c a ++ l) (attr_history-other ms n q c a named apart)
        ∙ append-nil (attr_history h q c a)

    by_birth : (b : Option Born) → option_and_then (shown_born (h ++ ms) q) b ≡ option_and_then (shown_born h q) b
    by_birth None = refl
    by_birth (Some b) = λ i. shown_if_live (death b.at i) (record { birth = b.at; kind = b.kind; values = λ a. shown_values (history b.at a i) })

-- ---- a new entry

-- no birth of the history is later
births_before : (h : List Mark) (n : List ℕ) (s : Stamp) → IsBefore h s → before (birth_of h n) s ≡ true
births_before h n s earlier = at (birth_of h n) refl
  where
    at : (b : Option Born) → birth_of h n ≡ b → before b s ≡ true
    at None e = refl
    at (Some b) e = earlier (Birth n b.kind b.at) (birth_among h n b e)

newest : (x : Option Born) (b : Born) → before x b.at ≡ true → maybe (greater birth_cmp) x (Some b) ≡ Some b
newest None b e = refl
newest (Some x) b e = ap Some (grind (arith, e))

module _ (h : List Mark) (n : List ℕ) (s : Stamp) (known : IsHistory h) (earlier : IsBefore h s) (k : Kind) (a : List ℕ) (xs : List AttrMark) where
  abbrev new_born : Born
  new_born = record { at = s; kind = k }

  -- the marks of a new entry
  abbrev pub new_marks : List Mark
  new_marks = Birth n k s ∷ changes n s a xs

  -- the values of an attribute d of the new entry
  abbrev pub new_values : List ℕ → List (List ℕ)
  new_values d = shown_values (if is_octets d a then xs else [])

  unborn : before (birth_of h n) s ≡ true
  unborn = births_before h n s earlier

  birth_new : birth_of (h ++ new_marks) n ≡ Some new_born
  birth_new =
      join_of-append births (birth_in n) h new_marks
      ∙ ap (maybe (greater birth_cmp) (birth_of h n)) (ap (maybe
      (greater birth_cmp) (if is_octets n n then Some new_born else None)) (birth_of-changes n s a xs) ∙ one_birth n new_born)
      ∙ newest (birth_of h n) new_born unborn

  death_new : death_of (h ++ new_marks) n s ≡ None
  death_new = sym (death_joined h new_marks n s)
      ∙ ap (λ d. maybe earlier_stamp d (death_of new_marks n s)) (no_death h h n s known.births (no_birth h n s unborn)) ∙ death_of-changes n s a xs

  history_new : (d : List ℕ) → attr_history (h ++ new_marks) n s d ≡ (if is_octets d a then xs else [])
  history_new d =
      filter_map-append (attr_mark_in n s d) h new_marks ∙ ap (λ l. l ++ attr_history new_marks n s d) (no_attrs h h n s d known.births (no_birth h n s unborn))
      ∙ attr_history-changes n s a d (is_octets d a) refl xs

  -- a new entry shows, where it leads on
  pub shown-born : leads k new_values ≡ true → shown_of_name (h ++ new_marks) n ≡ Some (record { birth = s; kind = k; values = new_values })
  shown-born leading =
      ap (option_and_then (shown_born (h ++ new_marks) n)) birth_new
      ∙ (λ i. shown_if_live (death_new i) (record { birth = s; kind = k; values = λ d. shown_values (history_new d i) }))
      ∙ ap (λ t. if t then Some (record { birth = s; kind = k; values = new_values }) else None) leading

-- a created object shows, with no values
pub shown-created : (h : List Mark) (n : List ℕ) (s : Stamp) → IsHistory h → IsBefore h s
    → shown_of_name (h ++ Birth n Object s ∷ []) n ≡ Some (record { birth = s; kind = Object; values = λ _. [] })
shown-created h n s known earlier = shown-born h n s known earlier Object [] [] refl
    ∙ (λ i. Some (record { birth = s; kind = Object; values = λ d. nothing (is_octets d []) i }))
  where
    nothing : (t : Bool) → shown_values (if t then [] else []) ≡ []
    nothing true = shown_values-nil
    nothing false = shown_values-nil

-- ---- a new link and a new child

-- a list in strict order whose only item is v
one_item : (xs : List (List ℕ)) (v : List ℕ) → IsStrictlySortedBy octets_cmp xs → ((w : List ℕ) → Contains xs w ↔ (w ≡ v)) → xs ≡ v ∷ []
unfolding IsStrictlySortedBy
one_item [] v up only = absurd (Contains-none v ((only v).1 refl))
one_item (x ∷ []) v up only = ap (λ w. w ∷ []) ((only x).0 (Contains-head x []))
one_item (x ∷ y ∷ xs) v up only =
    let first : x ≡ v = (only x).0 (Contains-head x (y ∷ xs)) in
    let second : y ≡ v = (only y).0 (Contains-tail x (y ∷ xs) y (Contains-head y xs)) in
    absurd (not_less ((λ i. octets_cmp (sym first i) (sym second i)) ∙ up.0.0) (tied_itself nat_list_cmp_total v))
  where
    not_less : {r : Ordering} → r ≡ Less → r ≡ Equal → ⊥
    not_less p q = cc (p, q)

one_value : (h : List AttrMark) (v : List ℕ) → ((w : List ℕ) → Contains (shown_values h) w ↔ (w ≡ v)) → shown_values h ≡ v ∷ []
one_value h v only = one_item (shown_values h) v (shown_values-ascending h) only

-- of one present mark its value shows
one_shows : (v : List ℕ) (s : Stamp) → shown_values (Marked v (record { present = true; stamp = s }) ∷ []) ≡ v ∷ []
one_shows v s =
    one_value (Marked v (record { present = true; stamp = s }) ∷ []) v (λ w.
    let law = shown_values-added [] v s (λ m found. absurd (Contains-none m found)) w in
    (λ c. ⊎_elim (λ is. is) (λ old. absurd (Contains-none w (subst (λ l. Contains l w) shown_values-nil old))) (law.0 c), λ is. law.1 (inl is)))

module _ (h : List Mark) (n : List ℕ) (s : Stamp) (known : IsHistory h) (earlier : IsBefore h s) (k : Kind) (a v : List ℕ) where
  -- the values of a new entry that has one
  abbrev pub only_value : List ℕ → List (List ℕ)
  only_value d = if is_octets d a then v ∷ [] else []

  first_values : (d : List ℕ) → new_values h n s known earlier k a (Marked v (record { present = true; stamp = s }) ∷ []) d ≡ only_value d
  first_values d = at (is_octets d a)
    where
      at : (t : Bool) → shown_values (if t then Marked v (record { present = true; stamp = s }) ∷ [] else []) ≡ (if t then v ∷ [] else [])
      at true = one_shows v s
      at false = shown_values-nil

  pub shown-led : leads k only_value ≡ true
      → shown_of_name (h ++ Birth n k s ∷ value_mark n s a v true s ∷ []) n ≡ Some (record { birth = s; kind = k; values = only_value })
  shown-led leading =
      let values : new_values h n s known earlier k a (Marked v (record { present = true; stamp = s }) ∷ []) ≡ only_value = λ i d. first_values d i in
      shown-born h n s known earlier k a (Marked v (record { present = true; stamp = s }) ∷ []) (ap (leads k) values ∙ leading)
      ∙ ap (λ (f : List ℕ → List (List ℕ)). Some (record { birth = s; kind = k; values = f })) values

-- the octets of a pointer to lawful houses read as one, whatever the directory
pointer_reads : (p : Pointer) → IsHouses (record { master = p.master; others = p.others }) → is_child_pointer (pointer_octets p) ≡ true
pointer_reads p lawful =
    let q : Pointer = record { dir = 0; master = p.master; others = p.others } in
    reads_where (is_child_pointer (pointer_octets q)) q q (written_read q (omega arith) lawful)
  where
    reads_where : (t : Bool) (x y : Pointer) → (if t then Some x else None) ≡ Some y → t ≡ true
    reads_where true x y e = refl
    reads_where false x y e = cc (e)

-- the one value of an attribute that has it alone
alone_at : (a v : List ℕ) → (if is_octets a a then v ∷ [] else []) ≡ v ∷ []
alone_at a v = ap (λ t. if t then v ∷ [] else []) (same_octets a)

-- the one value by which a new link and a new child lead
one_target : (target : List (List ℕ)) → IsComponentList target
    → targets (if is_octets link_target link_target then full_name_octets target ∷ [] else []) ≡ full_name_octets target ∷ []
one_target target lawful = one_reads is_full_name (full_name_octets target) _ (alone_at link_target (full_name_octets target)) (ap is_none (name_fault-spelling target lawful))

one_pointer : (p : Pointer) → IsHouses (record { master = p.master; others = p.others })
    → pointers (if is_octets replicas replicas then pointer_octets p ∷ [] else []) ≡ pointer_octets p ∷ []
one_pointer p lawful = one_reads is_child_pointer (pointer_octets p) _ (alone_at replicas (pointer_octets p)) (pointer_reads p lawful)

counts_one : (vs : List (List ℕ)) (v : List ℕ) → vs ≡ v ∷ [] → (length vs == 1) ≡ true
counts_one vs v is = ap (λ (ws : List (List ℕ)). length ws == 1) is

module _ (h : List Mark) (n : List ℕ) (target : List
    (List ℕ)) (s : Stamp) (known : IsHistory h) (earlier : IsBefore h s) (lawful : IsComponentList target) where
  -- a new link shows
  pub shown-linked : shown_of_name (h ++ marks_of (shown_of_name h n) (MakeLink n target) s) n
      ≡ Some (record { birth = s; kind = Link; values = λ a. if is_octets a link_target then full_name_octets target ∷ [] else [] })
  shown-linked = shown-led h n s known earlier Link link_target (full_name_octets target) (counts_one _ (full_name_octets target) (one_target target lawful))

  -- and leads to its target
  pub lead-linked : IsSomeAnd (shown_of_name (h ++ marks_of (shown_of_name h n) (MakeLink n target) s) n) (λ e. lead_of e ≡ Some (full_name_octets target))
  lead-linked = subst (λ x. IsSomeAnd x (λ e. lead_of e ≡ Some (full_name_octets target))) (sym shown-linked) (ap only_one (one_target target lawful))

module _ (h : List Mark) (n : List ℕ) (p : Pointer) (s : Stamp) (known : IsHistory h) (earlier : IsBefore h s) (lawful : IsHouses
    (record { master = p.master; others = p.others })) where
  -- a new child shows
  pub shown-child : shown_of_name (h ++ marks_of (shown_of_name h n) (MakeChild n p) s) n
      ≡ Some (record { birth = s; kind = Child; values = λ a. if is_octets a replicas then pointer_octets p ∷ [] else [] })
  shown-child = shown-led h n s known earlier Child replicas (pointer_octets p) (counts_one _ (pointer_octets p) (one_pointer p lawful))

  -- and leads by its pointer
  pub lead-child : IsSomeAnd (shown_of_name (h ++ marks_of (shown_of_name h n) (MakeChild n p) s) n) (λ e. lead_of e ≡ Some (pointer_octets p))
  lead-child = subst (λ x. IsSomeAnd x (λ e. lead_of e ≡ Some (pointer_octets p))) (sym shown-child) (ap only_one (one_pointer p lawful))

-- ---- a change of one attribute of an entry that shows

-- an attribute that is not reserved is neither of the two
not_reserved : (a : List ℕ) → is_reserved a ≡ false → (is_octets link_target a ≡ false) × (is_octets replicas a ≡ false)
not_reserved a e = by_tests (is_octets a link_target) (is_octets a replicas) refl refl e
  where
    turned : (q : List ℕ) → is_octets a q ≡ false → is_octets q a ≡ false
    turned q e = (eq_by_cmp_equiv nat_list_cmp_total).symm q a ∙ e

    by_tests : (t r : Bool) → is_octets a link_target ≡ t → is_octets a replicas ≡ r → (t || r) ≡ false
        → (is_octets link_target a ≡ false) × (is_octets replicas a ≡ false)
    by_tests true r p q e = cc (e)
    by_tests false true p q e = cc (e)
    by_tests false false p q e = (turned link_target p, turned replicas q)

leads-same : (k : Kind) (v w : List ℕ → List (List ℕ)) → v link_target ≡ w link_target → v replicas ≡ w replicas → leads k v ≡ leads k w
leads-same Object v w t r = refl
leads-same Link v w t r = ap (λ vs. length (targets vs) == 1) t
leads-same Child v w t r = ap (λ vs. length (pointers vs) == 1) r

module _ (h : List Mark) (n : List ℕ) (e : Shown) (s : IsSeen h n e) (a : List ℕ) (xs : List AttrMark) where
  abbrev born_here : Born
  born_here = record { at = e.birth; kind = e.kind }

  abbrev marks : List Mark
  marks = Birth n e.kind e.birth ∷ changes n e.birth a xs

  -- the values of an attribute d after the change
  abbrev pub values_after : List ℕ → List (List ℕ)
  values_after d = shown_values (attr_history h n e.birth d ++ (if is_octets d a then xs else []))

  birth_stays : birth_of (h ++ marks) n ≡ Some born_here
  birth_stays =
      join_of-append births (birth_in n) h marks ∙ ap (λ x. maybe (greater birth_cmp) x (birth_of marks n)) s.born
      ∙ ap (maybe (greater birth_cmp) (Some born_here)) (ap (maybe
      (greater birth_cmp) (if is_octets n n then Some born_here else None)) (birth_of-changes n e.birth a xs) ∙ one_birth n born_here)
      ∙ ap Some (births.idem born_here)

  death_stays : death_of (h ++ marks) n e.birth ≡ None
  death_stays = sym (death_joined h marks n e.birth) ∙ ap (λ d. maybe earlier_stamp d (death_of marks n e.birth)) s.alive ∙ death_of-changes n e.birth a xs

  history_after : (d : List ℕ) → attr_history (h ++ marks) n e.birth d ≡ attr_history h n e.birth d ++ (if is_octets d a then xs else [])
  history_after d = filter_map-append (attr_mark_in n e.birth d) h marks
      ∙ ap (λ l. attr_history h n e.birth d ++ l) (attr_history-changes n e.birth a d (is_octets d a) refl xs)

  pub values_stay : (d : List ℕ) → is_octets d a ≡ false → values_after d ≡ e.values d
  values_stay d apart = ap (λ t. shown_values (attr_history h n e.birth d ++ (if t then xs else []))) apart
      ∙ ap shown_values (append-nil (attr_history h n e.birth d)) ∙ sym (s.values d)

  -- it still shows, where it still leads on
  pub shown-if_led : leads e.kind values_after ≡ true → shown_of_name (h ++ marks) n ≡ Some (record { birth = e.birth; kind = e.kind; values = values_after })
  shown-if_led leading =
      ap (option_and_then (shown_born (h ++ marks) n)) birth_stays
      ∙ (λ i. shown_if_live (death_stays i) (record { birth = e.birth; kind = e.kind; values = λ d. shown_values (history_after d i) }))
      ∙ ap (λ t. if t then Some (record { birth = e.birth; kind = e.kind; values = values_after }) else None) leading

  pub shown-changed : is_reserved a ≡ false → shown_of_name (h ++ marks) n ≡ Some (record { birth = e.birth; kind = e.kind; values = values_after })
  shown-changed free =
      shown-if_led (leads-same e.kind values_after e.values (values_stay link_target
      (not_reserved a free).0) (values_stay replicas (not_reserved a free).1) ∙ s.leading)

  -- and so the change is of that attribute alone
  pub changes-values : (P : List ℕ → Type 0) → ((w : List ℕ) → Contains (shown_values (attr_history h n e.birth a ++ xs)) w ↔ P w)
      → ChangesValues e a P (record { birth = e.birth; kind = e.kind; values = values_after })
  changes-values P here = record {
    birth = refl;
    kind = refl;
    others = λ b differs. values_stay b (octets_apart b a differs);
    changed = λ w. subst (λ t. Contains (shown_values (attr_history h n e.birth a ++ (if t then xs else []))) w ↔ P w) (sym (same_octets a)) (here w);
  }

-- the marks of an attribute are marks of the history
attrs_before : (h : List Mark) (n : List ℕ) (c : Stamp) (a : List ℕ) (s : Stamp) → IsBefore h s → attr.IsBefore (attr_history h n c a) s
attrs_before [] n c a s earlier x found = absurd (Contains-none x found)
attrs_before (Birth m k d ∷ h) n c a s earlier x found = attrs_before h n c a s (λ m' r. earlier m' (Contains-tail (Birth m k d) h m' r)) x found
attrs_before (Death m d t ∷ h) n c a s earlier x found = attrs_before h n c a s (λ m' r. earlier m' (Contains-tail (Death m d t) h m' r)) x found
attrs_before (Attr m d b y ∷ h) n c a s earlier x found =
    at (is_octets n m && is_stamp c d && is_octets a b) found (attrs_before h n c a s (λ m' r. earlier m' (Contains-tail (Attr m d b y) h m' r)) x)
  where
    at : (t : Bool) → Contains (cons_option (if t then Some y else None) (attr_history h n c a)) x
        → (Contains (attr_history h n c a) x → is_earlier (attr_stamp x) s ≡ true) → is_earlier (attr_stamp x) s ≡ true
    at false found rec = rec found
    at true found rec =
        ⊎_elim (λ same. ap (λ z. is_earlier
        (attr_stamp z) s) (sym same) ∙ earlier (Attr m d b y) (Contains-head (Attr m d b y) h)) rec (Contains-cases y (attr_history h n c a) x found)

-- the four changes
module _ (h : List Mark) (n : List ℕ) (e : Shown) (s : IsSeen h n e) (a v : List ℕ) (t : Stamp) (earlier : IsBefore h t) where
  abbrev known_marks : List AttrMark
  known_marks = attr_history h n e.birth a

  abbrev values_before : (w : List ℕ) → Contains (shown_values known_marks) w ↔ Contains (e.values a) w
  values_before w = (subst (λ l. Contains l w) (sym (s.values a)), subst (λ l. Contains l w) (s.values a))

  abbrev mark : Bool → AttrMark
  mark present = Marked v (record { present = present; stamp = t })

  -- after an addition
  pub added : ChangesValues e a (λ w. (w ≡ v) ⊎ Contains (e.values a) w) (record {
    birth = e.birth;
    kind = e.kind;
    values = values_after h n e s a
        (mark true ∷ []);
  })
  added = changes-values h n e s a (mark true ∷ []) (λ w. (w ≡ v) ⊎ Contains (e.values a) w) (λ w.
      let law = shown_values-added known_marks v t (attrs_before h n e.birth a t earlier) w in
      (λ c. ⊎_elim inl (λ old. inr ((values_before w).0 old)) (law.0 c), λ c. law.1 (⊎_elim inl (λ old. inr ((values_before w).1 old)) c)))

  -- after a removal
  pub removed : ChangesValues e a (λ w. (w ≢ v) × Contains (e.values a) w) (record {
    birth = e.birth;
    kind = e.kind;
    values = values_after h n e s a
        (mark false ∷ []);
  })
  removed = changes-values h n e s a (mark false ∷ []) (λ w. (w ≢ v) × Contains (e.values a) w) (λ w.
      let law = shown_values-removed known_marks v t (attrs_before h n e.birth a t earlier) w in
      (λ c. ((law.0 c).0, (values_before w).0 (law.0 c).1), λ c. law.1 (c.0, (values_before w).1 c.1)))

  -- after a put
  pub replaced : ChangesValues e a (λ w. w ≡ v) (record { birth = e.birth; kind = e.kind; values = values_after h n e s a (Cleared t ∷ mark true ∷ []) })
  replaced = changes-values h n e s a (Cleared t ∷ mark true ∷ []) (λ w. w ≡ v) (λ w. shown_values-put known_marks v t (attrs_before h n e.birth a t earlier) w)

  -- after a clear
  pub cleared : ChangesValues e a (λ _. ⊥) (record { birth = e.birth; kind = e.kind; values = values_after h n e s a (Cleared t ∷ []) })
  cleared =
      changes-values h n e s a (Cleared t ∷ []) (λ _. ⊥) (λ w. (shown_values-cleared known_marks v t (attrs_before h n e.birth a t earlier) w, λ c. absurd c))

  -- the only value of the attribute
  pub replaced_value : values_after h n e s a (Cleared t ∷ mark true ∷ []) a ≡ v ∷ []
  replaced_value =
      ap (λ r. shown_values (known_marks ++ (if r then Cleared t ∷ mark true ∷ [] else []))) (same_octets a)
      ∙ one_value (known_marks ++ Cleared t ∷ mark true ∷ []) v (λ w. shown_values-put known_marks v t (attrs_before h n e.birth a t earlier) w)

-- a deleted entry no longer shows
pub shown-deleted : (h : List Mark) (n : List ℕ) (e : Shown) (t : Stamp) → IsSeen h n e → shown_of_name (h ++ Birth n e.kind e.birth ∷ Death n e.birth t ∷ []) n ≡ None
shown-deleted h n e t s =
    let ms : List Mark = Birth n e.kind e.birth ∷ Death n e.birth t ∷ [] in
    let b : Born = record { at = e.birth; kind = e.kind } in
    let birth : birth_of (h ++ ms) n ≡ Some b =
    join_of-append births (birth_in n) h ms ∙ ap (λ x. maybe (greater birth_cmp) x (birth_of ms n)) s.born
    ∙ ap (maybe (greater birth_cmp) (Some b)) (one_birth n b) ∙ ap Some (births.idem b) in
    let this : death_of ms n e.birth ≡ Some t = one_death n e.birth t in
    let death : death_of (h ++ ms) n e.birth ≡ Some t = sym (death_joined h ms n e.birth)
    ∙ ap (λ d. maybe earlier_stamp d (death_of ms n e.birth)) s.alive ∙ this in
    ap (option_and_then (shown_born (h ++ ms) n)) birth
    ∙ ap (λ d. shown_if_live d (record { birth = e.birth; kind = e.kind; values = λ a. shown_values (attr_history (h ++ ms) n e.birth a) })) death

-- ---- accepted updates of an entry that shows

accepted_free : (a : List ℕ) → live_refusal (is_reserved a) ≡ None → is_reserved a ≡ false
accepted_free a = at (is_reserved a)
  where
    at : (t : Bool) → live_refusal t ≡ None → t ≡ false
    at true e = cc (e)
    at false e = refl

module _ (h : List Mark) (n : List ℕ) (e : Shown) (is : shown_of_name h n ≡ Some e) (t : Stamp) where
  -- what shows after the marks of an update, if they are what it makes of e
  after : (u : Change) (P : Shown → Type 0) (f : Shown) → shown_of_name (h ++ marks_of (Some e) u t) n ≡ Some f → P f
      → IsSomeAnd (shown_of_name (h ++ marks_of (shown_of_name h n) u t) n) P
  after u P f now holds = subst (λ x. IsSomeAnd (shown_of_name (h ++ marks_of x u t) n) P) (sym is) (subst (λ x. IsSomeAnd x P) (sym now) holds)

  module _ (a v : List ℕ) (earlier : IsBefore h t) (accepted : live_refusal (is_reserved a) ≡ None) where
    abbrev mark_is : Bool → AttrMark
    mark_is present = Marked v (record { present = present; stamp = t })

    -- an addition shows
    pub shown-add : IsSomeAnd (shown_of_name (h ++ marks_of (shown_of_name h n) (Add n a v) t) n) (ChangesValues e a (λ w. (w ≡ v) ⊎ Contains (e.values a) w))
    shown-add =
        after (Add n a v) _ _ (shown-changed h n e (seen h n e is) a (mark_is true ∷ []) (accepted_free a accepted)) (added h n e (seen h n e is) a v t earlier)

    -- a removal shows
    pub shown-remove : IsSomeAnd (shown_of_name (h ++ marks_of (shown_of_name h n) (Remove n a v) t) n) (ChangesValues e a (λ w. (w ≢ v) × Contains (e.values a) w))
    shown-remove =
        after (Remove n a v) _ _ (shown-changed h n e
        (seen h n e is) a (mark_is false ∷ []) (accepted_free a accepted)) (removed h n e (seen h n e is) a v t earlier)

    -- a put shows
    pub shown-put : IsSomeAnd (shown_of_name (h ++ marks_of (shown_of_name h n) (Put n a v) t) n) (ChangesValues e a (λ w. w ≡ v))
    shown-put =
        after (Put n a v) _ _ (shown-changed h n e
        (seen h n e is) a (Cleared t ∷ mark_is true ∷ []) (accepted_free a accepted)) (replaced h n e (seen h n e is) a v t earlier)

    -- a clear shows
    pub shown-clear : IsSomeAnd (shown_of_name (h ++ marks_of (shown_of_name h n) (Clear n a) t) n) (ChangesValues e a (λ _. ⊥))
    shown-clear =
        after (Clear n a) _ _ (shown-changed h n e (seen h n e is) a (Cleared t ∷ []) (accepted_free a accepted)) (cleared h n e (seen h n e is) a v t earlier)

  -- a deleted entry does not show
  pub shown-delete : shown_of_name (h ++ marks_of (shown_of_name h n) (Delete n) t) n ≡ None
  shown-delete = ap (λ x. shown_of_name (h ++ marks_of x (Delete n) t) n) is ∙ shown-deleted h n e t (seen h n e is)

-- only a child is repointed
repointed_kind : (k : Kind) → live_refusal (not (is_child k)) ≡ None → k ≡ Child
repointed_kind Object e = cc (e)
repointed_kind Link e = cc (e)
repointed_kind Child e = refl

lead-by_kind : (e : Shown) → e.kind ≡ Child → lead_of e ≡ only_one (pointers (e.values replicas))
lead-by_kind e is = ap (λ k. lead_of (record { birth = e.birth; kind = k; values = e.values })) is

module _
    (h : List Mark)
    (n : List ℕ) (e : Shown) (is : shown_of_name h n ≡ Some e) (s : Stamp) (master : ℕ) (others : List ℕ) (earlier : IsBefore h s) (accepted : live_refusal
    (not (is_child e.kind)) ≡ None)
    (lawful : IsHouses (record { master = master; others = others })) where
  abbrev new_pointer : List ℕ
  new_pointer = pointer_octets (record { dir = shown_dir e; master = master; others = others })

  abbrev is_seen : IsSeen h n e
  is_seen = seen h n e is

  abbrev repointed_values : List ℕ → List (List ℕ)
  repointed_values = values_after h n e is_seen replicas (Cleared s ∷ Marked new_pointer (record { present = true; stamp = s }) ∷ [])

  repointed_alone : pointers (repointed_values replicas) ≡ new_pointer ∷ []
  repointed_alone =
      one_reads is_child_pointer new_pointer (repointed_values replicas) (replaced_value h n e is_seen replicas new_pointer s earlier)
      (pointer_reads (record { dir = shown_dir e; master = master; others = others }) lawful)

  repointed : shown_of_name (h ++ marks_of (Some e) (Repoint n master others) s) n ≡ Some (record { birth = e.birth; kind = e.kind; values = repointed_values })
  repointed =
      shown-if_led h n e is_seen replicas (Cleared s ∷ Marked new_pointer (record { present = true; stamp = s }) ∷ [])
      (ap (λ k. leads k repointed_values) (repointed_kind e.kind accepted) ∙ counts_one _ new_pointer repointed_alone)

  -- a repointed child shows
  pub shown-repoint : IsSomeAnd (shown_of_name (h ++ marks_of (shown_of_name h n) (Repoint n master others) s) n) (ChangesValues e replicas (λ w. w ≡ new_pointer))
  shown-repoint = after h n e is s (Repoint n master others) _ _ repointed (replaced h n e is_seen replicas new_pointer s earlier)

  -- and leads by its new pointer
  pub lead-repoint : IsSomeAnd (shown_of_name (h ++ marks_of (shown_of_name h n) (Repoint n master others) s) n) (λ f. lead_of f ≡ Some new_pointer)
  lead-repoint =
      after h n e is s (Repoint n master others) (λ f. lead_of f ≡ Some new_pointer) _ repointed
      (lead-by_kind (record { birth = e.birth; kind = e.kind; values = repointed_values }) (repointed_kind e.kind accepted) ∙ ap only_one repointed_alone)

-- what shows leads somewhere
pub shown-leads : (h : List Mark) (n : List ℕ) (e : Shown) → shown_of_name h n ≡ Some e → e.kind ≢ Object → IsSome (lead_of e)
shown-leads h n e is = leads_somewhere e (seen h n e is).leading

-- a created object shows
pub shown-create : (h : List Mark) (n : List ℕ) (s : Stamp) → IsHistory h → IsBefore h s
    → shown_of_name (h ++ marks_of (shown_of_name h n) (Create n) s) n ≡ Some (record { birth = s; kind = Object; values = λ _. [] })
shown-create = shown-created

-- other names show what they did
pub shown-others : (h : List Mark) (u : Change) (s : Stamp) → IsHistory h → IsBefore h s → refusal_of (shown_of_name h (changed_name u)) u ≡ None
    → (q : List ℕ) → q ≢ changed_name u
    → shown_of_name (h ++ marks_of (shown_of_name h (changed_name u)) u s) q ≡ shown_of_name h q
shown-others h u s known earlier accepted q differs =
    shown-other h (marks_of (shown_of_name h (changed_name u)) u s) (changed_name u) q (marks_of-names h u s known earlier accepted) differs
