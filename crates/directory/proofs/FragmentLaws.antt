-- The entry that the marks of one update make.
use Rattle.std.proofs.Common.{◌≡◌, ℕ, Bool, true, false, cond, List, [], ◌∷◌, map, Option, Some, None, Result, Ok, Err, IfOk, IsSome, refl, sym, ap, ◌∙◌, is_eq}
use Rattle.std.specs.Prelude.{◌&&◌, if◌then◌else◌}
use Rattle.std.specs.declared.alloc.AllocError.{AllocError}
use Rattle.std.specs.FinMap.{FinMap, same_map, empty, insert, get-empty, get-insert}
use Rattle.std.specs.List.{cons_option}
use Rattle.std.specs.Option.{option_map}
use Rattle.std.specs.Cmp.{tied_itself}
use Rattle.std.specs.Cmp.Lexicographic.{nat_list_cmp_total}
use Rattle.cds_stamps.specs.declared.stamp.Stamp.{Stamp}
use Rattle.cds_stamps.specs.Semilattice.{maybe, greater}
use Rattle.cds_stamps.specs.Stamps.{stamp_total, is_stamp, earlier_stamp}
use Rattle.cds_stamps.specs.Octets.{octets_cmp, octets_exact, is_octets}
use Rattle.attr_sets.specs.declared.cell.AttrCell.{AttrCell}
use Rattle.attr_sets.specs.AttributeCells.{AttrMark, cell_of}
use Rattle.directory.specs.declared.entry.Kind.{Kind}
use Rattle.directory.specs.declared.entry.Fragment.{Fragment}
use Rattle.directory.specs.declared.entry.EntryCell.{EntryCell}
use Rattle.directory.specs.declared.update.UpdateRefusal.{UpdateRefusal}
use Rattle.directory.specs.declared.update.UpdateRefusal.TheVariants.{NoSuchEntry}
use Rattle.directory.specs.Histories.{Mark, Birth, Death, Attr, Born, birth_cmp, birth_of, death_of, attr_history, cell_of_some, attrs_of, entry_at, entry_of}
use Rattle.directory.specs.Shown.{Shown}
use Rattle.directory.proofs.HistoryLaws.{get-attrs_of}

-- octets are themselves
pub same_octets : (n : List ℕ) → is_octets n n ≡ true
same_octets n = ap is_eq (tied_itself nat_list_cmp_total n)

-- a stamp is itself
pub same_stamp : (s : Stamp) → is_stamp s s ≡ true
same_stamp s = ap is_eq (tied_itself stamp_total s)

-- one birth of a name
pub one_birth : (n : List ℕ) (b : Born) → maybe (greater birth_cmp) (if is_octets n n then Some b else None) None ≡ Some b
one_birth n b = ap (λ t. maybe (greater birth_cmp) (if t then Some b else None) None) (same_octets n)

-- a birth alone
pub entry_of-born : (n : List ℕ) (k : Kind) (s : Stamp) → entry_of (Birth n k s ∷ []) n ≡ Some (record { birth = s; kind = k; death = None; attrs = empty })
entry_of-born n k s =
    let h : List Mark = Birth n k s ∷ [] in
    let attrs : attrs_of h n s
    ≡ empty = same_map nat_list_cmp_total octets_exact (attrs_of h n s) empty (λ a. get-attrs_of h n s a ∙ sym (get-empty octets_cmp a)) in
    ap (option_map (entry_at h n)) (one_birth n (record { at = s; kind = k })) ∙ (λ i. Some (record { birth = s; kind = k; death = None; attrs = attrs i }))

-- a birth and a death
pub one_death : (n : List ℕ) (c s : Stamp) → maybe earlier_stamp (if is_octets n n && is_stamp c c then Some s else None) None ≡ Some s
one_death n c s = ap (λ t. maybe earlier_stamp (if t then Some s else None) None) (ap (λ t. t && is_stamp c c) (same_octets n) ∙ same_stamp c)

-- the entry of a birth and a death
pub entry_of-deleted : (n : List ℕ) (k : Kind) (c s : Stamp)
    → entry_of (Birth n k c ∷ Death n c s ∷ []) n ≡ Some (record { birth = c; kind = k; death = Some s; attrs = empty })
entry_of-deleted n k c s =
    let h : List Mark = Birth n k c ∷ Death n c s ∷ [] in
    let attrs : attrs_of h n c
    ≡ empty = same_map nat_list_cmp_total octets_exact (attrs_of h n c) empty (λ a. get-attrs_of h n c a ∙ sym (get-empty octets_cmp a)) in
    ap (option_map (entry_at h n)) (one_birth n (record { at = c; kind = k }))
    ∙ (λ i. Some (record { birth = c; kind = k; death = one_death n c s i; attrs = attrs i }))

-- ---- marks of one attribute

-- marks of one attribute
abbrev pub changes : List ℕ → Stamp → List ℕ → List AttrMark → List Mark
changes n c a xs = map (Attr n c a) xs

-- which have no birth
pub birth_of-changes : (n : List ℕ) (c : Stamp) (a : List ℕ) (xs : List AttrMark) → birth_of (changes n c a xs) n ≡ None
birth_of-changes n c a [] = refl
birth_of-changes n c a (x ∷ xs) = birth_of-changes n c a xs

-- and no death
pub death_of-changes : (n : List ℕ) (c : Stamp) (a : List ℕ) (xs : List AttrMark) → death_of (changes n c a xs) n c ≡ None
death_of-changes n c a [] = refl
death_of-changes n c a (x ∷ xs) = death_of-changes n c a xs

about_both : (n : List ℕ) (c : Stamp) (r : Bool) → (is_octets n n && is_stamp c c && r) ≡ r
about_both n c r = ap (λ t. t && is_stamp c c && r) (same_octets n) ∙ ap (λ t. t && r) (same_stamp c)

-- and are the history of that attribute alone
pub attr_history-changes : (n : List ℕ) (c : Stamp) (a d : List ℕ) (t : Bool) → is_octets d a ≡ t → (xs : List AttrMark)
    → attr_history (changes n c a xs) n c d ≡ (if t then xs else [])
attr_history-changes n c a d true e [] = refl
attr_history-changes n c a d false e [] = refl
attr_history-changes n c a d true e (x ∷ xs) =
    ap (λ r. cons_option (if r then Some x else None) (attr_history (changes n c a xs) n c d)) (about_both n c (is_octets d a) ∙ e)
    ∙ ap (λ l. x ∷ l) (attr_history-changes n c a d true e xs)
attr_history-changes n c a d false e (x ∷ xs) =
    ap (λ r. cons_option (if r then Some x else None) (attr_history (changes n c a xs) n c d)) (about_both n c (is_octets d a) ∙ e)
    ∙ attr_history-changes n c a d false e xs

module _ (n : List ℕ) (k : Kind) (c : Stamp) (a : List ℕ) (x : AttrMark) (xs : List AttrMark) where
  -- a birth, and marks of one attribute
  abbrev pub one_changed : List Mark
  one_changed = Birth n k c ∷ changes n c a (x ∷ xs)

  changed_birth : birth_of one_changed n ≡ Some (record { at = c; kind = k })
  changed_birth =
      ap (maybe (greater birth_cmp) (if is_octets n n then Some (record { at = c; kind = k }) else None)) (birth_of-changes n c a (x ∷ xs))
      ∙ one_birth n (record { at = c; kind = k })

  changed_attrs : attrs_of one_changed n c ≡ insert empty a (cell_of (x ∷ xs))
  changed_attrs = same_map nat_list_cmp_total octets_exact (attrs_of one_changed n c) (insert empty a (cell_of (x ∷ xs))) (λ b.
      get-attrs_of one_changed n c b ∙ ap cell_of_some (attr_history-changes n c a b (is_octets b a) refl (x ∷ xs)) ∙ at (is_octets b a)
      ∙ sym (get-insert nat_list_cmp_total empty a (cell_of (x ∷ xs)) b ∙ ap (cond (is_octets b a) (Some (cell_of (x ∷ xs)))) (get-empty octets_cmp b)))
    where
      at : (t : Bool) → cell_of_some (if t then x ∷ xs else []) ≡ cond t (Some (cell_of (x ∷ xs))) None
      at true = refl
      at false = refl

  -- the entry of a birth and marks of one attribute
  pub entry_of-changed : entry_of one_changed n ≡ Some (record { birth = c; kind = k; death = None; attrs = insert empty a (cell_of (x ∷ xs)) })
  entry_of-changed =
      ap (option_map (entry_at one_changed n)) changed_birth
      ∙ (λ i. Some (record { birth = c; kind = k; death = death_of-changes n c a (x ∷ xs) i; attrs = changed_attrs i }))

-- ---- what the makers of fragments promise is the entry of the marks

-- a fragment of this name, with the entry that the marks make
pub made_fragment : (r : Result Fragment AllocError) (n : List ℕ) → IfOk r (λ f. f.name ≡ n) → (made : EntryCell) (marks : List Mark)
    → entry_of marks n ≡ Some made → IfOk r (λ f. f.entry ≡ made) → IfOk r (λ f. entry_of marks f.name ≡ Some f.entry)
made_fragment (Ok f) n named made marks is entry = ap (entry_of marks) named ∙ is ∙ ap Some (sym entry)
made_fragment (Err e) n named made marks is entry = tt

module _ (r : Result Fragment AllocError) (n : List ℕ) (k : Kind) (s : Stamp) (named : IfOk r (λ f. f.name ≡ n)) where
  -- the fragment of a new entry is the entry of its birth
  pub born_fragment : (none : FinMap octets_cmp AttrCell) → none ≡ empty
      → IfOk r (λ f. f.entry ≡ record { birth = s; kind = k; death = None; attrs = none })
      → IfOk r (λ f. entry_of (Birth n k s ∷ []) f.name ≡ Some f.entry)
  born_fragment none is =
      made_fragment r n named (record { birth = s; kind = k; death = None; attrs = none }) (Birth n k s ∷ []) (entry_of-born n k s ∙ (λ i. Some
      (record { birth = s; kind = k; death = None; attrs = sym is i })))

  -- so is that of one with a value
  pub led_fragment : (a : List ℕ) (x : AttrMark)
      → IfOk r (λ f. f.entry ≡ record { birth = s; kind = k; death = None; attrs = insert empty a (cell_of (x ∷ [])) })
      → IfOk r (λ f. entry_of (Birth n k s ∷ Attr n s a x ∷ []) f.name ≡ Some f.entry)
  led_fragment a x =
      made_fragment r n named
      (record { birth = s; kind = k; death = None; attrs = insert empty a (cell_of (x ∷ [])) })
      (Birth n k s ∷ Attr n s a x ∷ []) (entry_of-changed n k s a x [])

-- what is accepted of what shows alone, where it is accepted
pub shows : (e : Option Shown) (refused : Option Shown → Option UpdateRefusal) → refused None ≡ Some NoSuchEntry → refused e ≡ None → IsSome e
shows None refused none accepted = cc (none, accepted)
shows (Some e) refused none accepted = refl
