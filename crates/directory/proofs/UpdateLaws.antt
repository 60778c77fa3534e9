-- The marks of an accepted update belong together and with the history that they are added to.
use Rattle.std.proofs.Common.{◌≡◌, ℕ, Bool, true, false, List, [], ◌∷◌, ◌++◌, Option, Some, None, refl, sym, ap, subst, ◌∙◌, ◌⊎◌, inl, inr, ⊎_elim, arith}
use Rattle.std.specs.Prelude.{◌&&◌, ◌||◌, not, IfSome, if◌then◌else◌}
use Rattle.std.specs.FinMap.{get}
use Rattle.std.specs.List.{AllByRecursion, Contains, list_any}
use Rattle.std.specs.Option.{IsSomeAnd}
use Rattle.std.specs.Ordering.{is_lt}
use Rattle.std.specs.Cmp.{tied_itself}
use Rattle.std.proofs.lemmas.List.Folds.{list_any-append}
use Rattle.std.proofs.lemmas.List.Elements.{Contains-append_cases}
use Rattle.cds_stamps.specs.declared.stamp.Stamp.{Stamp}
use Rattle.cds_stamps.specs.Stamps.{stamp_total, is_earlier, is_stamp, is_up_to}
use Rattle.cds_stamps.specs.Undos.{RaisesAt}
use Rattle.cell_names.specs.FullNames.{full_name_octets}
use Rattle.cell_names.specs.ChildPointers.{pointer_octets}
use Rattle.attr_sets.specs.AttributeCells.{Cleared}
use Rattle.attr_sets.proofs.Greatest.{Contains-none, Contains-cases}
use Rattle.directory.specs.declared.entry.Kind.{Kind}
use Rattle.directory.specs.declared.entry.Kind.TheVariants.{Object, Link, Child}
use Rattle.directory.specs.declared.entry.EntryCell.{EntryCell}
use Rattle.directory.specs.declared.entry.Fragment.{Fragment}
use Rattle.directory.specs.Applied.{TakesIn}
use Rattle.directory.specs.Kinds.{link_target, replicas}
use Rattle.directory.specs.Entries.{Entries, join_entries, IsValidEntry}
use Rattle.directory.specs.Updates.{Change, Create, MakeLink, MakeChild, Delete, Add, Remove, Put, Clear, Repoint, changed_name}
use Rattle.directory.specs.Histories.{Mark, Birth, Death, Attr, Born, name_in, born_in, stamp_in}
use Rattle.directory.specs.Histories.{birth_in, is_birth, entry_of, table_of, HasBirths, IsAfterBirth, HasOneKind, IsHistory, IsBefore}
use Rattle.directory.specs.Shown.{Shown, shown_of_name, shown_in, refusal_of, value_mark, put_marks, shown_dir, marks_of}
use Rattle.directory.proofs.FragmentLaws.{same_octets, same_stamp}
use Rattle.directory.proofs.ShownLaws.{shown_in-table_of}
use Rattle.directory.proofs.TableLaws.{joined-table_of}
use Rattle.directory.proofs.SeenLaws.{birth_among, seen}

-- ---- lists

all_append : {X : Type 0} (P : X → Type 0) (xs ys : List X) → AllByRecursion P xs → AllByRecursion P ys → AllByRecursion P (xs ++ ys)
all_append P [] ys p q = q
all_append P (x ∷ xs) ys p q = (p.0, all_append P xs ys p.1 q)

all_map : {X : Type 0} (P Q : X → Type 0) → ((x : X) → P x → Q x) → (xs : List X) → AllByRecursion P xs → AllByRecursion Q xs
all_map P Q f [] p = tt
all_map P Q f (x ∷ xs) p = (f x p.0, all_map P Q f xs p.1)

-- what holds of each item holds of one that is there
pub all_at : {X : Type 0} (P : X → Type 0) (xs : List X) (x : X) → AllByRecursion P xs → Contains xs x → P x
all_at P [] x p c = absurd (Contains-none x c)
all_at P (y ∷ xs) x p c = ⊎_elim (λ same. subst P same p.0) (λ r. all_at P xs x p.1 r) (Contains-cases y xs x c)

-- one of two is true
pub or_left : (a b : Bool) → a ≡ true → (a || b) ≡ true
or_left a b e = ap (λ a. a || b) e

-- or the other
pub or_right : (a b : Bool) → b ≡ true → (a || b) ≡ true
or_right true b e = refl
or_right false b e = e

-- ---- stamps

-- no stamp is earlier than itself
pub not_itself : (s : Stamp) → is_earlier s s ≡ false
not_itself s = ap is_lt (tied_itself stamp_total s)

-- of two stamps one alone is earlier
pub not_later : (a b : Stamp) → is_earlier a b ≡ true → is_earlier b a ≡ false
not_later a b e = grind (arith, stamp_total.antisymm a b, stamp_total.antisymm b a)

-- nothing is both true and false
pub not_both : (b : Bool) → b ≡ true → b ≡ false → ⊥
not_both true p q = cc (q)
not_both false p q = cc (p)

-- ---- two histories together

pub births-append : (g h : List Mark) → HasBirths g → HasBirths h → HasBirths (g ++ h)
births-append g h p q =
    all_append (λ m. list_any (is_birth (name_in m) (born_in m)) (g ++ h) ≡ true) g h
    (all_map (λ m. list_any (is_birth
    (name_in m)
    (born_in m)) g ≡ true) (λ m. list_any (is_birth
    (name_in m) (born_in m)) (g ++ h) ≡ true) (λ m e. list_any-append (is_birth (name_in m) (born_in m)) g h ∙ or_left _ _ e) g p)
    (all_map (λ m. list_any (is_birth
    (name_in m)
    (born_in m)) h ≡ true) (λ m. list_any (is_birth
    (name_in m) (born_in m)) (g ++ h) ≡ true) (λ m e. list_any-append (is_birth (name_in m) (born_in m)) g h ∙ or_right _ _ e) h q)

-- ---- the form of the marks of an update

-- the mark is about the entry n that was born at c, it is stamped s, and it is no birth
abbrev pub IsAbout : List ℕ → Stamp → Stamp → Mark → Type 0
IsAbout n c s m = (name_in m ≡ n) × (born_in m ≡ c) × (stamp_in m ≡ s) × ((q : List ℕ) → birth_in q m ≡ None)

-- a birth of n, and marks about that entry; the birth is new, or that of the entry that shows
pub record IsUpdate (e : Option Shown) (n : List ℕ) (s : Stamp) (ms : List Mark) : Type 0 where
  pub kind : Kind
  pub birth : Stamp
  pub rest : List Mark
  pub marks : ms ≡ Birth n kind birth ∷ rest
  pub about : AllByRecursion (IsAbout n birth s) rest
  pub source : (birth ≡ s) ⊎ ((x : Shown) × (e ≡ Some x) × (x.birth ≡ birth) × (x.kind ≡ kind))

value_about : (n : List ℕ) (c : Stamp) (a v : List ℕ) (present : Bool) (s : Stamp) → IsAbout n c s (value_mark n c a v present s)
value_about n c a v present s = (refl, refl, refl, λ q. refl)

-- the marks of an accepted update are a birth and what belongs to it
pub marks_are : (e : Option Shown) (u : Change) (s : Stamp) → refusal_of e u ≡ None → IsUpdate e (changed_name u) s (marks_of e u s)
marks_are e (Create n) s ok = record { kind = Object; birth = s; rest = []; marks = refl; about = tt; source = inl refl }
marks_are e (MakeLink n target) s ok = record {
  kind = Link;
  birth = s;
  rest = value_mark n s link_target (full_name_octets target) true s ∷ [];
  marks = refl;
  about = (value_about n s link_target (full_name_octets target) true s, tt);
  source = inl refl;
}
marks_are e (MakeChild n pointer) s ok = record {
  kind = Child;
  birth = s;
  rest = value_mark n s replicas (pointer_octets pointer) true s ∷ [];
  marks = refl;
  about = (value_about n s replicas (pointer_octets pointer) true s, tt);
  source = inl refl;
}
marks_are None (Delete n) s ok = cc (ok)
marks_are (Some e) (Delete n) s ok = record {
  kind = e.kind;
  birth = e.birth;
  rest = Death n e.birth s ∷ [];
  marks = refl;
  about = ((refl, refl, refl, λ q. refl), tt);
  source = inr (e, refl, refl, refl);
}
marks_are None (Add n a v) s ok = cc (ok)
marks_are (Some e) (Add n a v) s ok = record {
  kind = e.kind;
  birth = e.birth;
  rest = value_mark n e.birth a v true s ∷ [];
  marks = refl;
  about = (value_about n e.birth a v true s, tt);
  source = inr (e, refl, refl, refl);
}
marks_are None (Remove n a v) s ok = cc (ok)
marks_are (Some e) (Remove n a v) s ok = record {
  kind = e.kind;
  birth = e.birth;
  rest = value_mark n e.birth a v false s ∷ [];
  marks = refl;
  about = (value_about n e.birth a v false s, tt);
  source = inr (e, refl, refl, refl);
}
marks_are None (Put n a v) s ok = cc (ok)
marks_are (Some e) (Put n a v) s ok = record {
  kind = e.kind;
  birth = e.birth;
  rest = put_marks n e.birth a v s;
  marks = refl;
  about = ((refl, refl, refl, λ q. refl), (value_about n e.birth a v true s, tt));
  source = inr (e, refl, refl, refl);
}
marks_are None (Clear n a) s ok = cc (ok)
marks_are (Some e) (Clear n a) s ok = record {
  kind = e.kind;
  birth = e.birth;
  rest = Attr n e.birth a (Cleared s) ∷ [];
  marks = refl;
  about = ((refl, refl, refl, λ q. refl), tt);
  source = inr (e, refl, refl, refl);
}
marks_are None (Repoint n master others) s ok = cc (ok)
marks_are (Some e) (Repoint n master others) s ok =
    let v : List ℕ = pointer_octets (record { dir = shown_dir e; master = master; others = others }) in
    record {
      kind = e.kind;
      birth = e.birth;
      rest = put_marks n e.birth replicas v s;
      marks = refl;
      about = ((refl, refl, refl, λ q. refl), (value_about n e.birth replicas v true s, tt));
      source = inr (e, refl, refl, refl);
    }

-- ---- the marks of an update are a history, also together with the one before

module _ (h : List Mark) (n : List ℕ) (s : Stamp) (ms : List Mark) (known : IsHistory h) (before : IsBefore h s) (u : IsUpdate (shown_of_name h n) n s ms) where
  -- the birth of an entry that shows is a mark of the history
  pub old_birth : (x : Shown) → shown_of_name h n ≡ Some x → x.birth ≡ u.birth → x.kind ≡ u.kind → Contains h (Birth n u.kind u.birth)
  old_birth x is birth kind =
      subst (λ
      (b : Born). Contains h
      (Birth n b.kind b.at)) (λ i. record { at = birth i; kind = kind i }) (birth_among h n
      (record { at = x.birth; kind = x.kind }) (seen h n x is).born)

  not_after : is_earlier s u.birth ≡ false
  not_after =
      ⊎_elim (λ new. ap (is_earlier s) new ∙ not_itself s) (λ old. not_later u.birth s (before
      (Birth n u.kind u.birth) (old_birth old.0 old.1 old.2 old.3))) u.source

  abbrev all : List Mark
  all = Birth n u.kind u.birth ∷ u.rest

  first_birth : list_any (is_birth n u.birth) all ≡ true
  first_birth = or_left _ _ (ap (λ t. t && is_stamp u.birth u.birth) (same_octets n) ∙ same_stamp u.birth)

  births_of_all : HasBirths all
  births_of_all = (
    first_birth,
    all_map (IsAbout n u.birth s) (λ m. list_any (is_birth (name_in m) (born_in m)) all ≡ true)
        (λ m a. ap (λ q. list_any (is_birth q (born_in m)) all) a.0 ∙ ap (λ c. list_any (is_birth n c) all) a.1 ∙ first_birth) u.rest u.about,
  )

  ordered_all : IsAfterBirth all
  ordered_all = (
    ap not (not_itself u.birth),
    all_map (IsAbout n u.birth s) (λ m. is_up_to (stamp_in m) (born_in m) ≡ true) (λ m a. ap (λ t. is_up_to t
        (born_in m)) a.2 ∙ ap (is_up_to s) a.1 ∙ ap not not_after) u.rest u.about,
  )

  -- each birth of the marks is their first mark
  pub one_birth_of : (q : List ℕ) (j : Kind) (d : Stamp) → Contains all (Birth q j d) → (n ≡ q) × (u.kind ≡ j) × (u.birth ≡ d)
  one_birth_of q j d c =
      ⊎_elim (λ same. (ap name_in same, kind_same same, ap born_in same)) (λ r. absurd (no_birth (all_at
      (IsAbout n u.birth s) u.rest (Birth q j d) u.about r).3)) (Contains-cases (Birth n u.kind u.birth) u.rest (Birth q j d) c)
    where
      kind_same : Birth n u.kind u.birth ≡ Birth q j d → u.kind ≡ j
      kind_same e = cc (e)

      no_birth : ((p : List ℕ) → birth_in p (Birth q j d) ≡ None) → ⊥
      no_birth none = some_is_none (sym (ap (λ t. if t then Some (record { at = d; kind = j }) else None) (same_octets q)) ∙ none q)
        where
          some_is_none : {b : Born} → Some b ≡ None → ⊥
          some_is_none e = cc (e)

  kinds_of_all : HasOneKind all
  kinds_of_all q d j k a b = sym (one_birth_of q j d a).1 ∙ (one_birth_of q k d b).1

  -- the marks are a history
  pub all_history : IsHistory all
  all_history = record { births = births_of_all; ordered = ordered_all; kinds = kinds_of_all }

  -- a birth of the history and the one of the marks agree
  agree : (q : List ℕ) (j k : Kind) (d : Stamp) → Contains h (Birth q j d) → Contains all (Birth q k d) → j ≡ k
  agree q j k d old new =
      let same = one_birth_of q k d new in
      ⊎_elim (λ is. absurd (not_both (is_earlier d s) (before (Birth q j d) old) (ap (λ d. is_earlier d s) (sym same.2 ∙ is) ∙ not_itself s)))
      (λ x. known.kinds q d j k old (subst (λ (m : Mark). Contains h m) (λ i. Birth (same.0 i) (same.1 i) (same.2 i)) (old_birth x.0 x.1 x.2 x.3))) u.source

  kinds_of_both : HasOneKind (h ++ all)
  kinds_of_both q d j k a b =
      ⊎_elim (λ x. ⊎_elim (λ y. known.kinds q d j k x y) (λ y. agree q j k d x y) (Contains-append_cases h all (Birth q k d) b))
      (λ x. ⊎_elim (λ y. sym (agree q k j d y x)) (λ y. kinds_of_all q d j k x y) (Contains-append_cases h all (Birth q k d) b))
      (Contains-append_cases h all (Birth q j d) a)

  -- also with the one before
  pub both_history : IsHistory (h ++ all)
  both_history = record {
    births = births-append h all known.births births_of_all;
    ordered = all_append (λ m. is_up_to (stamp_in m) (born_in m) ≡ true) h all known.ordered ordered_all;
    kinds = kinds_of_both;
  }

  -- and are about one name
  pub names_of_all : AllByRecursion (λ m. name_in m ≡ n) all
  names_of_all = (refl, all_map (IsAbout n u.birth s) (λ m. name_in m ≡ n) (λ m a. a.0) u.rest u.about)

-- the marks of an accepted update that is later than the history
module _ (h : List Mark) (u : Change) (s : Stamp) (known : IsHistory h) (before : IsBefore h s) (accepted : refusal_of (shown_of_name h
    (changed_name u)) u ≡ None) where
  abbrev update : IsUpdate (shown_of_name h (changed_name u)) (changed_name u) s (marks_of (shown_of_name h (changed_name u)) u s)
  update = marks_are (shown_of_name h (changed_name u)) u s accepted

  -- the marks of an accepted update are a history
  pub marks_of-history : IsHistory (marks_of (shown_of_name h (changed_name u)) u s)
  marks_of-history = subst IsHistory (sym update.marks) (all_history h (changed_name u) s _ known before update)

  -- also together with the history that it is accepted in
  pub marks_of-together : IsHistory (h ++ marks_of (shown_of_name h (changed_name u)) u s)
  marks_of-together = subst (λ ms. IsHistory (h ++ ms)) (sym update.marks) (both_history h (changed_name u) s _ known before update)

  -- and are about its name
  pub marks_of-names : AllByRecursion (λ m. name_in m ≡ changed_name u) (marks_of (shown_of_name h (changed_name u)) u s)
  marks_of-names = subst (AllByRecursion (λ m. name_in m ≡ changed_name u)) (sym update.marks) (names_of_all h (changed_name u) s _ known before update)

  -- the table of a house that accepts it: its fragment is joined in, and the table is that of the
  -- history with the marks
  pub accepted-table_of : (old new : Entries) (f : Fragment) → old ≡ table_of h → f.name ≡ changed_name u
      → entry_of (marks_of (shown_in old (changed_name u)) u s) f.name ≡ Some f.entry
      → (IfSome (get old f.name) IsValidEntry → IsValidEntry f.entry → RaisesAt join_entries old new f.name f.entry)
      → new ≡ table_of (h ++ marks_of (shown_of_name h (changed_name u)) u s)
  accepted-table_of old new f stands named made joins =
      let seen_there : shown_in old (changed_name u) ≡ shown_of_name h (changed_name u) = ap (λ t. shown_in t (changed_name u)) stands
      ∙ shown_in-table_of h (changed_name u) in
      let now : entry_of (marks_of (shown_of_name h (changed_name u)) u s) f.name ≡ Some f.entry = ap (λ x. entry_of (marks_of x u s) f.name) (sym seen_there) ∙ made in
      joined-table_of h (marks_of (shown_of_name h (changed_name u)) u s) f.name f.entry old new known.births marks_of-history.births
      (subst (λ n. AllByRecursion (λ m. name_in m ≡ n) (marks_of (shown_of_name h (changed_name u)) u s)) (sym named) marks_of-names) now stands joins

  -- or the update is applied in place
  pub applied-table_of : (old new : Entries) → old ≡ table_of h → TakesIn old new (changed_name u) (marks_of (shown_in old (changed_name u)) u s)
      → new ≡ table_of (h ++ marks_of (shown_of_name h (changed_name u)) u s)
  applied-table_of old new stands takes =
      let seen_there : shown_in old (changed_name u) ≡ shown_of_name h (changed_name u) = ap (λ t. shown_in t (changed_name u)) stands
      ∙ shown_in-table_of h (changed_name u) in
      by_entry (entry_of marks (changed_name u)) refl (subst (λ x. TakesIn old new (changed_name u) (marks_of x u s)) seen_there takes)
    where
      marks : List Mark
      marks = marks_of (shown_of_name h (changed_name u)) u s

      by_entry : (x : Option EntryCell) → entry_of marks (changed_name u) ≡ x
          → IsSomeAnd x (λ e. IfSome (get old (changed_name u)) IsValidEntry → RaisesAt join_entries old new (changed_name u) e)
          → new ≡ table_of (h ++ marks)
      by_entry None is joins = absurd joins
      by_entry (Some e) is joins =
          joined-table_of h marks (changed_name u) e old new known.births marks_of-history.births marks_of-names is stands (λ own _. joins own)
