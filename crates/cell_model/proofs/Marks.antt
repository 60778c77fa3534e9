-- The marks of an update: each has its stamp, or is the birth that the history has.
use Rattle.std.proofs.Common.{◌≡◌, ℕ, ◌+◌, ◌<◌, max, ◌⊎◌, inl, inr, Bool, true, false, cond, eqb, List, [], ◌∷◌, Option, Some, None, refl, sym, ap}
use Rattle.std.proofs.Common.{◌∙◌, subst, arith, ⊎_elim}
use Rattle.std.specs.declared.cmp.Ordering.{Ordering}
use Rattle.std.specs.Ordering.{is_lt}
use Rattle.std.specs.Option.{option_and_then}
use Rattle.cds_stamps.specs.declared.stamp.Stamp.{Stamp}
use Rattle.cds_stamps.specs.Semilattice.{maybe, join_of, greater}
use Rattle.cds_stamps.specs.Stamps.{next_stamp, last_time}
use Rattle.cds_stamps.specs.Octets.{is_octets, octets_exact}
use Rattle.cds_stamps.specs.Keyed.{ties_are_equal}
use Rattle.attr_sets.specs.AttributeCells.{AttrMark, attr_stamp}
use Rattle.directory.specs.declared.entry.Kind.{Kind}
use Rattle.directory.specs.declared.entry.Kind.TheVariants.{Object, Link, Child}
use Rattle.directory.specs.Histories.{Mark, Birth, Death, Attr, stamp_in, name_in, born_in, Born, birth_in, birth_of, birth_cmp, death_of}
use Rattle.directory.specs.Shown.{Shown, leads, shown_of_name, shown_born, shown_if_live, refusal_of, marks_of, with_birth}
use Rattle.directory.specs.Updates.{Change, Create, MakeLink, MakeChild, Delete, Add, Remove, Put, Clear, Repoint, changed_name}
use Rattle.cell_model.specs.Sets.{In, IsUpTo}
use Rattle.cell_model.proofs.Lists.{up_to_itself}

-- the join of a list by a choice is what one of its items has
chosen : {A X : Type 0} (f : X → X → X) → ((x y : X) → (f x y ≡ x) ⊎ (f x y ≡ y)) → (p : A → Option X) (xs : List A) (y : X) → join_of f p xs ≡ Some y
    → (x : A) × In x xs × (p x ≡ Some y)
chosen f choice p [] y e = absurd (cc)
chosen {A} {X} f choice p (x ∷ xs) y e = go (p x) refl (join_of f p xs) refl e (λ q. let w = chosen f choice p xs y q in (w.0, inr w.1, w.2))
  where
    go : (o : Option X) → p x ≡ o → (q : Option X) → join_of f p xs ≡ q → maybe f o q ≡ Some y
        → (join_of f p xs ≡ Some y → (z : A) × In z (x ∷ xs) × (p z ≡ Some y)) → (z : A) × In z (x ∷ xs) × (p z ≡ Some y)
    go None a q b e' there = there (b ∙ e')
    go (Some u) a None b e' there = (x, inl refl, a ∙ e')
    go (Some u) a (Some w) b e' there = ⊎_elim
        (λ (l : f u w ≡ u). let z : u ≡ y = cc in (x, inl refl, a ∙ ap Some z))
        (λ (r : f u w ≡ w). let z : w ≡ y = cc in there (b ∙ ap Some z))
        (choice u w)

-- the greater of two is one of them
pub greater_choice : {K : Type 0} (R : K → K → Ordering) (x y : K) → (greater R x y ≡ x) ⊎ (greater R x y ≡ y)
greater_choice {K} R x y = go (is_lt (R x y))
  where
    go : (b : Bool) → (cond b y x ≡ x) ⊎ (cond b y x ≡ y)
    go true = inr refl
    go false = inl refl

birth_is : (n : List ℕ) (m : Mark) (b : Born) → birth_in n m ≡ Some b → m ≡ Birth n b.kind b.at
birth_is n (Birth o kind c) b e = go (is_octets n o) refl e
  where
    go : (t : Bool) → is_octets n o ≡ t → cond t (Some (record { at = c; kind = kind })) None ≡ Some b → Birth o kind c ≡ Birth n b.kind b.at
    go true q e' = let s : n ≡ o = ties_are_equal octets_exact n o q in let z : record { at = c; kind = kind } ≡ b = cc in ap (λ (l : List ℕ). Birth l kind c) (sym s)
        ∙ ap (λ (y : Born). Birth n y.kind y.at) z
    go false q e' = absurd (cc)
birth_is n (Death o c s) b e = absurd (cc)
birth_is n (Attr o c a x) b e = absurd (cc)

-- the greatest birth of a name is in the history
pub birth_stands : (h : List Mark) (n : List ℕ) (b : Born) → birth_of h n ≡ Some b → In (Birth n b.kind b.at) h
birth_stands h n b e =
    let w = chosen (greater birth_cmp) (greater_choice birth_cmp) (birth_in n) h b e in
    subst (λ (z : Mark). In z h) (birth_is n w.0 b w.2) w.1

-- an entry that shows is that of the greatest birth
pub shown_is : (h : List Mark) (n : List ℕ) (e : Shown) → shown_of_name h n ≡ Some e
    → (b : Born) × (birth_of h n ≡ Some b) × (b.at ≡ e.birth) × (b.kind ≡ e.kind) × (death_of h n e.birth ≡ None)
shown_is h n e q = go (birth_of h n) refl q
  where
    live : (b : Born) (o : Option Stamp) → death_of h n b.at ≡ o → (s : Shown) → (s.birth ≡ b.at) × (s.kind ≡ b.kind) → shown_if_live o s ≡ Some e
        → (b.at ≡ e.birth) × (b.kind ≡ e.kind) × (death_of h n e.birth ≡ None)
    live b None d s is e' = test (leads s.kind s.values) refl e'
      where
        test : (t : Bool) → leads s.kind s.values ≡ t → cond t (Some s) None ≡ Some e → (b.at ≡ e.birth) × (b.kind ≡ e.kind) × (death_of h n e.birth ≡ None)
        test true r e'' =
            let same : s ≡ e = cc in
            let at : b.at ≡ e.birth = sym is.0 ∙ ap (λ (z : Shown). z.birth) same in
            (at, sym is.1 ∙ ap (λ (z : Shown). z.kind) same, ap (death_of h n) (sym at) ∙ d)
        test false r e'' = absurd (cc)
    live b (Some t) d s is e' = absurd (cc)

    go : (o : Option Born) → birth_of h n ≡ o → option_and_then (shown_born h n) o ≡ Some e
        → (b : Born) × (birth_of h n ≡ Some b) × (b.at ≡ e.birth) × (b.kind ≡ e.kind) × (death_of h n e.birth ≡ None)
    go None b e' = absurd (cc)
    go (Some b) q' e' = let l = live b (death_of h n b.at) refl _ (refl, refl) e' in (b, q', l.0, l.1, l.2)

-- the history has the birth of an entry that shows
pub shown_birth : (h : List Mark) (n : List ℕ) (e : Shown) → shown_of_name h n ≡ Some e → In (Birth n e.kind e.birth) h
shown_birth h n e q =
    let w = shown_is h n e q in
    subst (λ (z : Mark). In z h) (ap (λ (c : Stamp). Birth n (w.0).kind c) w.2 ∙ ap (λ (k : Kind). Birth n k e.birth) w.3) (birth_stands h n w.0 w.1)

-- each mark is stamped s, or is in the history
abbrev pub Fits : List Mark → Stamp → List Mark → Type 0
Fits h s ms = (k : Mark) → In k ms → (stamp_in k ≡ s) ⊎ In k h

-- a mark stamped s, and two
one_fits : (h : List Mark) (s : Stamp) (m : Mark) → stamp_in m ≡ s → Fits h s (m ∷ [])
one_fits h s m e k (inl q) = inl (ap stamp_in q ∙ e)
one_fits h s m e k (inr i) = elim i [ ]

two_fit : (h : List Mark) (s : Stamp) (m n : Mark) → stamp_in m ≡ s → stamp_in n ≡ s → Fits h s (m ∷ n ∷ [])
two_fit h s m n e f k (inl q) = inl (ap stamp_in q ∙ e)
two_fit h s m n e f k (inr i) = one_fits h s n f k i

birth_fits : (h : List Mark) (n : List ℕ) (s : Stamp) (o : Option Shown) (ms : Shown → List Mark) → shown_of_name h n ≡ o → ((e : Shown) → Fits h s (ms e))
    → Fits h s (with_birth n o ms)
birth_fits h n s None ms q f k i = elim i [ ]
birth_fits h n s (Some e) ms q f k (inl b) = inr (subst (λ (z : Mark). In z h) (sym b) (shown_birth h n e q))
birth_fits h n s (Some e) ms q f k (inr i) = f e k i

-- the marks of an update fit to the history, with their stamp
pub marks_fit : (h : List Mark) (u : Change) (s : Stamp) → Fits h s (marks_of (shown_of_name h (changed_name u)) u s)
marks_fit h (Create n) s = one_fits h s _ refl
marks_fit h (MakeLink n target) s = two_fit h s _ _ refl refl
marks_fit h (MakeChild n pointer) s = two_fit h s _ _ refl refl
marks_fit h (Delete n) s = birth_fits h n s _ _ refl (λ e. one_fits h s _ refl)
marks_fit h (Add n a v) s = birth_fits h n s _ _ refl (λ e. one_fits h s _ refl)
marks_fit h (Remove n a v) s = birth_fits h n s _ _ refl (λ e. one_fits h s _ refl)
marks_fit h (Put n a v) s = birth_fits h n s _ _ refl (λ e. two_fit h s _ _ refl refl)
marks_fit h (Clear n a) s = birth_fits h n s _ _ refl (λ e. one_fits h s _ refl)
marks_fit h (Repoint n master others) s = birth_fits h n s _ _ refl (λ e. two_fit h s _ _ refl refl)

-- what is known of the next stamp
pub stamp_next : (clock floor node : ℕ) (s : Stamp) → next_stamp clock floor node ≡ Some s → (floor < s.time) × (s.node ≡ node)
stamp_next clock floor node s e = go (eqb floor last_time) e
  where
    go : (b : Bool) → cond b None (Some (record { time = max clock (floor + 1); node = node })) ≡ Some s → (floor < s.time) × (s.node ≡ node)
    go true q = absurd (cc)
    go false q =
        let is : record { time = max clock (floor + 1); node = node } ≡ s = cc in
        let t : max clock (floor + 1) ≡ s.time = ap (λ (z : Stamp). z.time) is in
        (omega arith, ap (λ (z : Stamp). z.node) (sym is))

-- ---- what the marks of an update are

-- a mark of its stamp; none is later; each has its birth, is not earlier than it, and one entry has
-- one kind
pub record WellMade (s : Stamp) (ms : List Mark) : Type 0 where
  pub own : (k : Mark) × In k ms × (stamp_in k ≡ s)
  pub stamped : (k : Mark) → In k ms → IsUpTo (stamp_in k) s
  pub births : (k : Mark) → In k ms → (j : Kind) × In (Birth (name_in k) j (born_in k)) ms
  pub ordered : (k : Mark) → In k ms → IsUpTo (born_in k) (stamp_in k)
  pub kinds : (n : List ℕ) (c : Stamp) (j k : Kind) → In (Birth n j c) ms → In (Birth n k c) ms → j ≡ k

-- a mark about (n, c) that is stamped s, and no birth
pub record About (n : List ℕ) (c s : Stamp) (k : Mark) : Type 0 where
  pub name : name_in k ≡ n
  pub born : born_in k ≡ c
  pub stamp : stamp_in k ≡ s
  pub other : (o : List ℕ) (j : Kind) (b : Stamp) → Birth o j b ≡ k → ⊥

module _ (n : List ℕ) (kind : Kind) (c s : Stamp) (rest : List Mark) (up : IsUpTo c s) (about : (k : Mark) → In k rest → About n c s k) where
  abbrev made : List Mark
  made = Birth n kind c ∷ rest

  its_birth : (k : Mark) → In k made → (j : Kind) × In (Birth (name_in k) j (born_in k)) made
  its_birth k (inl e) = (kind, inl (ap (λ (o : List ℕ). Birth o kind (born_in k)) (ap name_in e) ∙ ap (λ (b : Stamp). Birth n kind b) (ap born_in e)))
  its_birth k (inr i) = let a = about k i in (kind, inl (ap (λ (o : List ℕ). Birth o kind (born_in k)) a.name ∙ ap (λ (b : Stamp). Birth n kind b) a.born))

  in_order : (k : Mark) → In k made → IsUpTo (born_in k) (stamp_in k)
  in_order k (inl e) = subst (λ (z : Mark). IsUpTo (born_in z) (stamp_in z)) (sym e) (up_to_itself c)
  in_order k (inr i) = let a = about k i in subst (λ (z : Stamp). IsUpTo z (stamp_in k)) (sym a.born) (subst (λ (z : Stamp). IsUpTo c z) (sym a.stamp) up)

  none_later : (k : Mark) → In k made → IsUpTo (stamp_in k) s
  none_later k (inl e) = subst (λ (z : Mark). IsUpTo (stamp_in z) s) (sym e) up
  none_later k (inr i) = let a = about k i in subst (λ (z : Stamp). IsUpTo z s) (sym a.stamp) (up_to_itself s)

  kind_is : (o : List ℕ) (j : Kind) (b : Stamp) → In (Birth o j b) made → j ≡ kind
  kind_is o j b (inl e) = cc
  kind_is o j b (inr i) = absurd ((about (Birth o j b) i).other o j b refl)

  well_made : (k : Mark) × In k made × (stamp_in k ≡ s) → WellMade s made
  well_made own = record {
    own = own;
    stamped = none_later;
    births = its_birth;
    ordered = in_order;
    kinds = λ o b j k i i'. kind_is o j b i
        ∙ sym (kind_is o k b i');
  }

no_about : (n : List ℕ) (c s : Stamp) (k : Mark) → In k [] → About n c s k
no_about n c s k i = elim i [ ]

one_about : (n : List ℕ) (c s : Stamp) (m k : Mark) → About n c s m → In k (m ∷ []) → About n c s k
one_about n c s m k a (inl e) = subst (λ (z : Mark). About n c s z) (sym e) a
one_about n c s m k a (inr i) = elim i [ ]

two_about : (n : List ℕ) (c s : Stamp) (m m' k : Mark) → About n c s m → About n c s m' → In k (m ∷ m' ∷ []) → About n c s k
two_about n c s m m' k a b (inl e) = subst (λ (z : Mark). About n c s z) (sym e) a
two_about n c s m m' k a b (inr i) = one_about n c s m' k b i

attr_about : (n : List ℕ) (c : Stamp) (a : List ℕ) (x : AttrMark) (s : Stamp) → attr_stamp x ≡ s → About n c s (Attr n c a x)
attr_about n c a x s e = record { name = refl; born = refl; stamp = e; other = λ o j b q. cc }

death_about : (n : List ℕ) (c s : Stamp) → About n c s (Death n c s)
death_about n c s = record { name = refl; born = refl; stamp = refl; other = λ o j b q. cc }

-- the marks of an update of an entry that shows
shown_made : (n : List ℕ) (s : Stamp) (e : Shown) (rest : List Mark) → IsUpTo e.birth s → ((k : Mark) → In k rest → About n e.birth s k)
    → (k : Mark) × In k rest × (stamp_in k ≡ s) → WellMade s (Birth n e.kind e.birth ∷ rest)
shown_made n s e rest up about own = well_made n e.kind e.birth s rest up about (own.0, inr own.1, own.2)

-- the marks of an update that is not refused
pub marks_made : (o : Option Shown) (u : Change) (s : Stamp) → refusal_of o u ≡ None → ((e : Shown) → o ≡ Some e → IsUpTo e.birth s)
    → WellMade s (marks_of o u s)
marks_made o (Create n) s fine up = well_made n Object s s [] (up_to_itself s) (no_about n s s) (_, inl refl, refl)
marks_made o (MakeLink n target) s fine up = well_made n Link s s _ (up_to_itself s) (λ k. one_about n s s _ k (attr_about n s _ _ s refl)) (_, inl refl, refl)
marks_made o (MakeChild n pointer) s fine up =
    well_made n Child s s _ (up_to_itself s) (λ k. one_about n s s _ k (attr_about n s _ _ s refl)) (_, inl refl, refl)
marks_made (Some e) (Delete n) s fine up = shown_made n s e _ (up e refl) (λ k. one_about n e.birth s _ k (death_about n e.birth s)) (_, inl refl, refl)
marks_made (Some e) (Add n a v) s fine up =
    shown_made n s e _ (up e refl) (λ k. one_about n e.birth s _ k (attr_about n e.birth a _ s refl)) (_, inl refl, refl)
marks_made (Some e) (Remove n a v) s fine up =
    shown_made n s e _ (up e refl) (λ k. one_about n e.birth s _ k (attr_about n e.birth a _ s refl)) (_, inl refl, refl)
marks_made (Some e) (Put n a v) s fine up =
    shown_made n s e _ (up e refl) (λ k. two_about n e.birth s _ _ k (attr_about n e.birth a _ s refl) (attr_about n e.birth a _ s refl)) (_, inl refl, refl)
marks_made (Some e) (Clear n a) s fine up =
    shown_made n s e _ (up e refl) (λ k. one_about n e.birth s _ k (attr_about n e.birth a _ s refl)) (_, inl refl, refl)
marks_made (Some e) (Repoint n master others) s fine up =
    shown_made n s e _ (up e refl) (λ k. two_about n e.birth s _ _ k (attr_about n e.birth _ _ s refl) (attr_about n e.birth _ _ s refl)) (_, inl refl, refl)
marks_made None (Delete n) s fine up = absurd (cc)
marks_made None (Add n a v) s fine up = absurd (cc)
marks_made None (Remove n a v) s fine up = absurd (cc)
marks_made None (Put n a v) s fine up = absurd (cc)
marks_made None (Clear n a) s fine up = absurd (cc)
marks_made None (Repoint n master others) s fine up = absurd (cc)
