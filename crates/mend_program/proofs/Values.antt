-- How many values a reader sees: no more than updates made present so far.
use Rattle.std.proofs.Common.{◌≡◌, ℕ, ◌+◌, ◌≤◌, inl, inr, Bool, true, false, cond, List, [], ◌∷◌, ◌++◌, length, refl, sym, ap, ◌∙◌, subst, arith, ⊎_elim}
use Rattle.std.proofs.Common.{length-append, suc}
use Rattle.std.specs.Prelude.{filter, Option, Some, None, ◌&&◌, is_none}
use Rattle.std.specs.List.{AllByRecursion, Contains, cons_option}
use Rattle.std.specs.List.Sorted.{IsStrictlySortedBy}
use Rattle.std.specs.Option.{option_and_then}
use Rattle.std.specs.declared.cmp.Ordering.TheVariants.{Less, Greater}
use Rattle.std.specs.Ordering.{ordering_reverse}
use Rattle.std.specs.Cmp.Lexicographic.{nat_list_cmp_total}
use Rattle.cds_stamps.specs.declared.stamp.Stamp.{Stamp}
use Rattle.cds_stamps.specs.Ascending.{in_ascending_order}
use Rattle.cds_stamps.specs.Octets.{is_octets, octets_cmp}
use Rattle.cds_stamps.specs.Stamps.{is_stamp}
use Rattle.cds_stamps.proofs.AscendingLaws.{Rises, ascending-had, ascending-rises}
use Rattle.cds_stamps.proofs.ListMembers.{Contains-cases, Contains-head, Contains-none, Contains-tail, filter-Contains}
use Rattle.attr_sets.specs.declared.mark.ValueMark.{ValueMark}
use Rattle.attr_sets.specs.AttributeCells.{AttrMark, Cleared, Marked, shown_values}
use Rattle.attr_sets.proofs.ShownLaws.{shown_values-are}
use Rattle.directory.specs.declared.update.UpdateRefusal.{UpdateRefusal}
use Rattle.directory.specs.Histories.{Mark, Birth, Death, Attr, Born, attr_history, attr_mark_in, birth_of, death_of}
use Rattle.directory.specs.Shown.{Shown, leads, marks_of, shown_born, shown_of_name}
use Rattle.directory.specs.Updates as changes
use Rattle.cell_model.specs.Cells.{Slot, Absent, Gone, Held, House, Cell}
use Rattle.cell_model.specs.Commands as commands
use Rattle.cell_model.specs.Commands.{Accepted, Command, Refusal}
use Rattle.cell_model.specs.Sets.{In, IsPart}
use Rattle.cell_model.specs.Turns.{accept, accept_at, accept_in, stamp_at, unless_refused, update_refusal}
use Rattle.cell_model.specs.Steps.{accepted_updates, first_refusal, outcome, effect, refusals_of, replay, unless}
use Rattle.cell_model.proofs.AtHouses.{accepted_of, at_house-accepted}
use Rattle.cell_model.proofs.Lists.{In-append_left, In-append_right, append_nil}
use Rattle.cell_model.proofs.Runs.{reaching_at}
use Rattle.resolver.specs.declared.seen.Found.{Found}
use Rattle.cds_cell.specs.Readings.{slot_view, values_at, values_of}
use Rattle.script_replay.specs.Replies.{trusted_reader}

-- ---- lists in which nothing is there twice

abbrev Apart : List (List ℕ) → Type 0
Apart [] = Unit {0}
Apart (x ∷ xs) = (In x xs → ⊥) × Apart xs

abbrev dropped : (x : List ℕ) (ys : List (List ℕ)) → In x ys → List (List ℕ)
dropped x [] i = []
dropped x (y ∷ ys) (inl e) = ys
dropped x (y ∷ ys) (inr i) = y ∷ dropped x ys i

dropped_count : (x : List ℕ) (ys : List (List ℕ)) (i : In x ys) → length ys ≡ suc (length (dropped x ys i))
dropped_count x [] i = absurd i
dropped_count x (y ∷ ys) (inl e) = refl
dropped_count x (y ∷ ys) (inr i) = ap (λ (n : ℕ). suc n) (dropped_count x ys i)

dropped_keeps : (x : List ℕ) (ys : List (List ℕ)) (i : In x ys) (z : List ℕ) → (z ≡ x → ⊥) → In z ys → In z (dropped x ys i)
dropped_keeps x [] i z apart j = absurd i
dropped_keeps x (y ∷ ys) (inl e) z apart (inl f) = absurd (apart (f ∙ sym e))
dropped_keeps x (y ∷ ys) (inl e) z apart (inr j) = j
dropped_keeps x (y ∷ ys) (inr i) z apart (inl f) = inl f
dropped_keeps x (y ∷ ys) (inr i) z apart (inr j) = inr (dropped_keeps x ys i z apart j)

-- such a list is no longer than one that has all of it
apart_few : (xs ys : List (List ℕ)) → Apart xs → IsPart xs ys → length xs ≤ length ys
apart_few [] ys apart part = omega arith
apart_few (x ∷ xs) ys apart part =
    let i : In x ys = part x (inl refl) in
    let count = dropped_count x ys i in
    let rest : length xs ≤ length (dropped x ys i) =
    apart_few xs (dropped x ys i) apart.1
    (λ z j. dropped_keeps x ys i z (λ (e : z ≡ x). apart.0 (subst (λ (w : List ℕ). In w xs) e j)) (part z (inr j))) in
    omega (arith, count, rest)

in_from : {A : Type 0} (xs : List A) (x : A) → Contains xs x → In x xs
in_from [] x c = absurd (Contains-none x c)
in_from (y ∷ ys) x c = ⊎_elim (λ (is : y ≡ x). inl (sym is)) (λ later. inr (in_from ys x later)) (Contains-cases y ys x c)

contains_from : {A : Type 0} (xs : List A) (x : A) → In x xs → Contains xs x
contains_from [] x i = absurd i
contains_from (y ∷ ys) x i =
    ⊎_elim (λ (is : x ≡ y). subst (λ z. Contains (y ∷ ys) z) (sym is) (Contains-head y ys)) (λ later. Contains-tail y ys x (contains_from ys x later)) i

never_below : (x : List ℕ) → octets_cmp x x ≡ Less → ⊥
never_below x e = let back : octets_cmp x x ≡ Greater = nat_list_cmp_total.antisymm x x ∙ ap ordering_reverse e in cc

above_in : (x : List ℕ) (ys : List (List ℕ)) (z : List ℕ) → AllByRecursion (λ y. octets_cmp x y ≡ Less) ys → In z ys → octets_cmp x z ≡ Less
above_in x [] z all i = absurd i
above_in x (y ∷ ys) z all (inl e) = subst (λ (w : List ℕ). octets_cmp x w ≡ Less) (sym e) all.0
above_in x (y ∷ ys) z all (inr i) = above_in x ys z all.1 i

rises_apart : (xs : List (List ℕ)) → Rises xs → Apart xs
unfolding IsStrictlySortedBy
rises_apart [] rises = tt
rises_apart (x ∷ xs) rises = (λ i. never_below x (above_in x xs x rises.0 i), rises_apart xs rises.1)

-- octets in ascending order are no more than octets among which each of them is
pub ordered_few : (p : List ℕ → Bool) (values ys : List (List ℕ)) → IsPart values ys → length (in_ascending_order (filter p values)) ≤ length ys
ordered_few p values ys part =
    apart_few (in_ascending_order (filter p values)) ys (rises_apart (in_ascending_order (filter p values)) (ascending-rises (filter p values)))
    (λ v i. part v (in_from values v (filter-Contains p values v
    (ascending-had (filter p values) v (contains_from (in_ascending_order (filter p values)) v i))).0))

-- ---- values that updates made present

-- what a mark makes present
abbrev pub made_by : Mark → List (List ℕ)
made_by (Birth n kind c) = []
made_by (Death n c s) = []
made_by (Attr n c a (Cleared s)) = []
made_by (Attr n c a (Marked v k)) = cond k.present (v ∷ []) []

abbrev pub all_made : List Mark → List (List ℕ)
all_made [] = []
all_made (m ∷ ms) = made_by m ++ all_made ms

-- what accepted updates made present
abbrev pub made_in : List Accepted → List (List ℕ)
made_in [] = []
made_in (x ∷ xs) = all_made x.marks ++ made_in xs

pub made_both : (xs ys : List Accepted) → length (made_in (xs ++ ys)) ≡ length (made_in xs) + length (made_in ys)
made_both [] ys = omega arith
made_both (x ∷ xs) ys =
    let rest = made_both xs ys in
    let one = length-append (all_made x.marks) (made_in (xs ++ ys)) in
    let two = length-append (all_made x.marks) (made_in xs) in
    omega (arith, rest, one, two)

in_made : (ms : List Mark) (m : Mark) (v : List ℕ) → In m ms → In v (made_by m) → In v (all_made ms)
in_made [] m v i j = absurd i
in_made (x ∷ ms) m v (inl e) j = In-append_left v (made_by x) (all_made ms) (subst (λ (z : Mark). In v (made_by z)) e j)
in_made (x ∷ ms) m v (inr i) j = In-append_right v (made_by x) (all_made ms) (in_made ms m v i j)

in_accepted : (xs : List Accepted) (a : Accepted) (v : List ℕ) → In a xs → In v (all_made a.marks) → In v (made_in xs)
in_accepted [] a v i j = absurd i
in_accepted (x ∷ xs) a v (inl e) j = In-append_left v (all_made x.marks) (made_in xs) (subst (λ (z : Accepted). In v (all_made z.marks)) e j)
in_accepted (x ∷ xs) a v (inr i) j = In-append_right v (all_made x.marks) (made_in xs) (in_accepted xs a v i j)

-- what a history shows was made present by one of its marks
mark_made : (n : List ℕ) (c : Stamp) (a : List ℕ) (m : Mark) (v : List ℕ) (k : ValueMark) → attr_mark_in n c a m ≡ Some (Marked v k) → k.present ≡ true
    → In v (made_by m)
mark_made n c a (Birth o kind d) v k is present = absurd (cc (is))
mark_made n c a (Death o d s) v k is present = absurd (cc (is))
mark_made n c a (Attr o d b x) v k is present = by_test (is_octets n o && is_stamp c d && is_octets a b) is
  where
    by_mark : (y : AttrMark) → y ≡ Marked v k → In v (made_by (Attr o d b y))
    by_mark (Cleared s) same = absurd (cc (same))
    by_mark (Marked w j) same =
        let value : v ≡ w = cc (same) in
        let mark : k ≡ j = cc (same) in
        subst (λ (t : Bool). In v (cond t (w ∷ []) [])) (sym (ap (λ (z : ValueMark). z.present) (sym mark) ∙ present)) (inl value)

    by_test : (t : Bool) → cond t (Some x) None ≡ Some (Marked v k) → In v (made_by (Attr o d b x))
    by_test true same = let it : x ≡ Marked v k = cc (same) in by_mark x it
    by_test false same = absurd (cc (same))

history_made : (h : List Mark) (n : List ℕ) (c : Stamp) (a : List ℕ) (v : List ℕ) (k : ValueMark) → In (Marked v k) (attr_history h n c a) → k.present ≡ true
    → (m : Mark) × In m h × In v (made_by m)
history_made [] n c a v k i present = absurd i
history_made (m ∷ ms) n c a v k i present = by_mark (λ j. history_made ms n c a v k j present) (attr_mark_in n c a m) refl i
  where
    later : ((x : Mark) × In x ms × In v (made_by x)) → (x : Mark) × In x (m ∷ ms) × In v (made_by x)
    later found = (found.0, inr found.1, found.2)

    by_mark : (In (Marked v k) (attr_history ms n c a) → (x : Mark) × In x ms × In v (made_by x)) → (o : Option AttrMark) → attr_mark_in n c a m ≡ o
        → In (Marked v k) (cons_option o (attr_history ms n c a)) → (x : Mark) × In x (m ∷ ms) × In v (made_by x)
    by_mark rest None is j = later (rest j)
    by_mark rest (Some x) is (inl e) = (m, inl refl, mark_made n c a m v k (is ∙ ap Some (sym e)) present)
    by_mark rest (Some x) is (inr j) = later (rest j)

-- each value that a replica shows was made present by an update of its history
shown_made : (h : List Mark) (n a : List ℕ) (v : List ℕ) → In v (values_of a (shown_of_name h n)) → (m : Mark) × In m h × In v (made_by m)
shown_made h n a v i = by_birth (birth_of h n) i
  where
    by_live : (b : Born) (t : Bool)
        → In v (values_of a (cond t (Some (record { birth = b.at; kind = b.kind; values = λ a. shown_values (attr_history h n b.at a) })) None))
        → (m : Mark) × In m h × In v (made_by m)
    by_live b true j =
        let s = (shown_values-are (attr_history h n b.at a) v).0 (contains_from (shown_values (attr_history h n b.at a)) v j) in
        history_made h n b.at a v s.mark (in_from (attr_history h n b.at a) (Marked v s.mark) s.greatest.among) s.present
    by_live b false j = absurd j

    by_birth : (o : Option Born) → In v (values_of a (option_and_then (shown_born h n) o)) → (m : Mark) × In m h × In v (made_by m)
    by_birth None j = absurd j
    by_birth (Some b) j =
        by_live b (is_none (death_of h n b.at) && leads b.kind (λ a. shown_values (attr_history h n b.at a))) j

-- what a reader sees of an attribute was made present by the updates so far
pub values_made : (cs : List Command) (at : Found) (a : List ℕ) → IsPart ((trusted_reader (replay cs)).values at a) (made_in (accepted_updates cs))
values_made cs at a v i = by_up (((replay cs).house at.house.0).up) i
  where
    by_slot : (s : Slot) → ((replay cs).house at.house.0).slots at.dir.0 ≡ s → In v (values_at at a (slot_view s)) → In v (made_in (accepted_updates cs))
    by_slot Absent is j = absurd j
    by_slot (Gone e) is j = absurd j
    by_slot (Held r) is j =
        let m = shown_made r.history at.name a v j in
        let w = (reaching_at at.dir.0 cs cs [] (append_nil cs)).known.only at.house.0 r is m.0 m.1 in
        in_accepted (accepted_updates cs) w.by v w.logged (in_made w.by.marks m.0 v w.has m.2)

    by_up : (t : Bool) → In v (values_at at a (cond t (slot_view (((replay cs).house at.house.0).slots at.dir.0)) None)) → In v (made_in (accepted_updates cs))
    by_up true j = by_slot (((replay cs).house at.house.0).slots at.dir.0) refl j
    by_up false j = absurd j

-- ---- how many values an update makes present

-- a removal makes none present, and any other update at most one
abbrev pub gain : changes.Change → ℕ
gain (changes.Remove n a v) = 0
gain _ = 1

marks_few : (e : Option Shown) (u : changes.Change) (s : Stamp) → length (all_made (marks_of e u s) ++ []) ≤ gain u
marks_few e (changes.Create n) s = omega arith
marks_few e (changes.MakeLink n target) s = omega arith
marks_few e (changes.MakeChild n pointer) s = omega arith
marks_few None (changes.Delete n) s = omega arith
marks_few None (changes.Add n a v) s = omega arith
marks_few None (changes.Remove n a v) s = omega arith
marks_few None (changes.Put n a v) s = omega arith
marks_few None (changes.Clear n a) s = omega arith
marks_few None (changes.Repoint n master others) s = omega arith
marks_few (Some x) (changes.Delete n) s = omega arith
marks_few (Some x) (changes.Add n a v) s = omega arith
marks_few (Some x) (changes.Remove n a v) s = omega arith
marks_few (Some x) (changes.Put n a v) s = omega arith
marks_few (Some x) (changes.Clear n a) s = omega arith
marks_few (Some x) (changes.Repoint n master others) s = omega arith

pub accept_gains : (h : ℕ) (now : House) (d : ℕ) (u : changes.Change) (s : Slot) → length (made_in (accepted_of (accept_in h now d u s))) ≤ gain u
accept_gains h now d u Absent = omega arith
accept_gains h now d u (Gone e) = omega arith
accept_gains h now d u (Held r) = by_refusal (update_refusal h u r)
  where
    by_stamp : (o : Option Stamp) → length (made_in (accepted_of (accept_at h now d u r o))) ≤ gain u
    by_stamp None = omega arith
    by_stamp (Some s) = marks_few (shown_of_name r.history (changes.changed_name u)) u s

    by_refusal : (o : Option UpdateRefusal) → length (made_in (accepted_of (unless_refused o (accept_at h now d u r (stamp_at now))))) ≤ gain u
    by_refusal None = by_stamp (stamp_at now)
    by_refusal (Some w) = omega arith

-- an update at a house
pub update_gains : (g : Cell) (h d : ℕ) (u : changes.Change) → length (made_in (outcome g (commands.Accept h d u)).accepted) ≤ gain u
update_gains g h d u = by_refusal (first_refusal (refusals_of g (commands.Accept h d u)))
  where
    by_refusal : (o : Option Refusal) → length (made_in (unless g o (effect g (commands.Accept h d u))).accepted) ≤ gain u
    by_refusal None =
        subst (λ (l : List Accepted). length (made_in l) ≤ gain u) (sym (at_house-accepted g h (accept h (g.house h) d u)))
        (accept_gains h (g.house h) d u ((g.house h).slots d))
    by_refusal (Some r) = omega arith
