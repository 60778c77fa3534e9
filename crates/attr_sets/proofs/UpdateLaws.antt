-- What an update that is later than all before does to the values that show.
use Rattle.std.proofs.Common.{◌≡◌, ℕ, Bool, true, false, List, [], ◌∷◌, ◌++◌, refl, sym, ap, subst, ◌∙◌, ◌⊎◌, inl, inr, ⊎_elim, ◌↔◌, is_eq, arith}
use Rattle.std.specs.Ordering.{is_lt}
use Rattle.std.specs.Cmp.{tied_itself}
use Rattle.std.specs.Cmp.Lexicographic.{nat_list_cmp_total}
use Rattle.std.specs.List.{Contains}
use Rattle.std.proofs.lemmas.List.Elements.{Contains-append_left, Contains-append_right, Contains-append_cases}
use Rattle.cds_stamps.specs.declared.stamp.Stamp.{Stamp}
use Rattle.cds_stamps.specs.Keyed.{ties_are_equal}
use Rattle.cds_stamps.specs.Octets.{octets_exact, is_octets}
use Rattle.cds_stamps.specs.Stamps.{is_earlier, stamp_total}
use Rattle.attr_sets.specs.declared.mark.ValueMark.{ValueMark}
use Rattle.attr_sets.specs.Marks.{mark_cmp, mark_total}
use Rattle.attr_sets.specs.AttributeCells.{AttrMark, Cleared, Marked, shown_values}
use Rattle.attr_sets.specs.ShownValues.{IsShown, IsBefore}
use Rattle.attr_sets.proofs.Greatest.{Contains-head, Contains-none, Contains-cases}
use Rattle.attr_sets.proofs.ShownLaws.{shown_values-are}

-- ---- marks that are earlier

not_both : (b : Bool) → b ≡ true → b ≡ false → ⊥
not_both true p q = cc (q)
not_both false p q = cc (p)

-- what is earlier is not later
not_later : (a b : Stamp) → is_earlier a b ≡ true → is_earlier b a ≡ false
not_later a b e = grind (arith, stamp_total.antisymm a b, stamp_total.antisymm b a)

earlier_mark : (m n : ValueMark) → is_earlier m.stamp n.stamp ≡ true → is_lt (mark_cmp m n) ≡ true
earlier_mark m n e = grind (arith, e)

earlier_below : (m n : ValueMark) → is_earlier m.stamp n.stamp ≡ true → is_lt (mark_cmp n m) ≡ false
earlier_below m n e = grind (arith, e, stamp_total.antisymm m.stamp n.stamp, stamp_total.antisymm n.stamp m.stamp)

not_itself : (m : ValueMark) → is_lt (mark_cmp m m) ≡ false
not_itself m = ap is_lt (tied_itself mark_total m)

stamp_not_itself : (s : Stamp) → is_earlier s s ≡ false
stamp_not_itself s = ap is_lt (tied_itself stamp_total s)

-- ---- the one mark of an update

not_clear : (s : Stamp) (v : List ℕ) (m : ValueMark) → Cleared s ≡ Marked v m → ⊥
not_clear s v m e = cc (e)

one_value : (v w : List ℕ) (m n : ValueMark) → Marked v m ≡ Marked w n → v ≡ w
one_value v w m n e = cc (e)

one_mark : (v w : List ℕ) (m n : ValueMark) → Marked v m ≡ Marked w n → m ≡ n
one_mark v w m n e = cc (e)

one_stamp : (s c : Stamp) → Cleared s ≡ Cleared c → s ≡ c
one_stamp s c e = cc (e)

module _ (h x : List AttrMark) where
  -- a value that shows by a mark of before showed before
  shown_before : (w : List ℕ) (s : IsShown (h ++ x) w) → Contains h (Marked w s.mark) → IsShown h w
  shown_before w s old = record {
    mark = s.mark;
    greatest = record { among = old; greatest = λ n c. s.greatest.greatest n (Contains-append_left h x (Marked w n) c) };
    present = s.present;
    uncleared = λ c in_h. s.uncleared c (Contains-append_left h x (Cleared c) in_h);
  }

  -- a value shows as before, where the update is neither about it nor a clear
  still_shown : (w : List ℕ) → IsShown h w → ((n : ValueMark) → Contains x (Marked w n) → ⊥) → ((c : Stamp) → Contains x (Cleared c) → ⊥) → IsShown (h ++ x) w
  still_shown w s other clear = record {
    mark = s.mark;
    greatest = record {
      among = Contains-append_left h x (Marked w s.mark) s.greatest.among;
      greatest = λ n c. ⊎_elim (s.greatest.greatest n) (λ new. absurd (other n new)) (Contains-append_cases h x (Marked w n) c);
    };
    present = s.present;
    uncleared = λ c in_all. ⊎_elim (s.uncleared c) (λ new. absurd (clear c new)) (Contains-append_cases h x (Cleared c) in_all);
  }

  -- a value shows by a present mark that is later than all before
  newly_shown : (v : List ℕ) (m : ValueMark) → IsBefore h m.stamp → m.present ≡ true → Contains x (Marked v m)
      → ((n : ValueMark) → Contains x (Marked v n) → n ≡ m) → ((c : Stamp) → Contains x (Cleared c) → c ≡ m.stamp) → IsShown (h ++ x) v
  newly_shown v m before p new one clear = record {
    mark = m;
    greatest = record {
      among = Contains-append_right h x (Marked v m) new;
      greatest =
          λ n c. ⊎_elim (λ old. earlier_below n m (before
          (Marked v n) old)) (λ newer. ap (λ n. is_lt (mark_cmp m n)) (one n newer) ∙ not_itself m) (Contains-append_cases h x (Marked v n) c);
    };
    present = p;
    uncleared =
        λ c in_all. ⊎_elim (λ old. not_later c m.stamp (before
        (Cleared c) old)) (λ newer. ap (is_earlier m.stamp) (clear c newer) ∙ stamp_not_itself m.stamp) (Contains-append_cases h x (Cleared c) in_all);
  }

-- the one item of a list
only : {A : Type 0} (a b : A) → Contains (a ∷ []) b → a ≡ b
only a b c = ⊎_elim (λ e. e) (λ none. absurd (Contains-none b none)) (Contains-cases a [] b c)

module _ (h : List AttrMark) (v : List ℕ) (s : Stamp) (before : IsBefore h s) where
  abbrev mark : Bool → ValueMark
  mark present = record { present = present; stamp = s }

  abbrev with_mark : Bool → List AttrMark
  with_mark present = Marked v (mark present) ∷ []

  -- a value other than v shows as before
  other_shown : (b : Bool) (w : List ℕ) → (w ≡ v → ⊥) → IsShown h w → IsShown (h ++ with_mark b) w
  other_shown b w differs shown =
      still_shown h (with_mark b) w shown (λ n c. differs (sym (one_value v w (mark b) n (only (Marked v
      (mark b)) (Marked w n) c)))) (λ c in_new. not_clear c v (mark b) (sym (only (Marked v (mark b)) (Cleared c) in_new)))

  added : IsShown (h ++ with_mark true) v
  added =
      newly_shown h (with_mark true) v (mark true) before refl (Contains-head (Marked v (mark true)) []) (λ n c. sym (one_mark v v (mark true) n (only
      (Marked v (mark true)) (Marked v n) c)))
      (λ c in_new. absurd (not_clear c v (mark true) (sym (only (Marked v (mark true)) (Cleared c) in_new))))

  shown_added : (w : List ℕ) → IsShown (h ++ with_mark true) w ↔ ((w ≡ v) ⊎ IsShown h w)
  shown_added w = (
    λ shown. ⊎_elim (λ old. inr (shown_before h (with_mark true) w shown old)) (λ new. inl (sym (one_value v w (mark true) shown.mark (only (Marked v
        (mark true)) (Marked w shown.mark) new)))) (Contains-append_cases h (with_mark true) (Marked w shown.mark) shown.greatest.among),
    ⊎_elim (λ is. subst (IsShown (h ++ with_mark true)) (sym is) added) (λ shown. by_case w shown (is_octets w v) refl),
  )
    where
      by_case : (w : List ℕ) → IsShown h w → (b : Bool) → is_octets w v ≡ b → IsShown (h ++ with_mark true) w
      by_case w shown true is = subst (IsShown (h ++ with_mark true)) (sym (ties_are_equal octets_exact w v is)) added
      by_case w shown false is =
          other_shown true w (λ e. not_both (is_octets w v) (ap (λ x. is_octets x v) e ∙ ap is_eq (tied_itself nat_list_cmp_total v)) is) shown

  shown_removed : (w : List ℕ) → IsShown (h ++ with_mark false) w ↔ (((w ≡ v) → ⊥) × IsShown h w)
  shown_removed w = (
    λ shown. ⊎_elim (λ old. (
      λ e. gone w e shown old,
      shown_before h
          (with_mark false) w shown old,
    )) (λ new. absurd (absent w shown new))
        (Contains-append_cases h (with_mark false) (Marked w shown.mark) shown.greatest.among),
    λ p. other_shown false w p.0 p.1,
  )
    where
      absent : (w : List ℕ) (shown : IsShown (h ++ with_mark false) w) → Contains (with_mark false) (Marked w shown.mark) → ⊥
      absent w shown new =
          not_both shown.mark.present shown.present (ap (λ (m : ValueMark). m.present) (sym (one_mark v w (mark false) shown.mark (only (Marked v
          (mark false)) (Marked w shown.mark) new))))

      gone : (w : List ℕ) → w ≡ v → (shown : IsShown (h ++ with_mark false) w) → Contains h (Marked w shown.mark) → ⊥
      gone w e shown old =
          not_both (is_lt (mark_cmp shown.mark (mark false))) (earlier_mark shown.mark (mark false) (before (Marked w shown.mark) old))
          (shown.greatest.greatest (mark false) (Contains-append_right h (with_mark false) (Marked w (mark false)) (subst (λ w. Contains
          (with_mark false) (Marked w (mark false))) (sym e) (Contains-head (Marked v (mark false)) []))))

  abbrev with_put : List AttrMark
  with_put = Cleared s ∷ Marked v (mark true) ∷ []

  put_only : (a : AttrMark) → Contains with_put a → (Cleared s ≡ a) ⊎ (Marked v (mark true) ≡ a)
  put_only a c = ⊎_elim inl (λ rest. inr (only (Marked v (mark true)) a rest)) (Contains-cases (Cleared s) (Marked v (mark true) ∷ []) a c)

  shown_put : (w : List ℕ) → IsShown (h ++ with_put) w ↔ (w ≡ v)
  shown_put w = (
    λ shown. ⊎_elim (λ old. absurd (cleared w shown old)) (λ new. ⊎_elim (λ e. absurd (not_clear s w shown.mark e)) (λ e. sym (one_value v w
        (mark true) shown.mark e)) (put_only (Marked w shown.mark) new)) (Contains-append_cases h with_put (Marked w shown.mark) shown.greatest.among),
    λ is. subst (IsShown (h ++ with_put)) (sym is) here,
  )
    where
      cleared : (w : List ℕ) (shown : IsShown (h ++ with_put) w) → Contains h (Marked w shown.mark) → ⊥
      cleared w shown old =
          not_both (is_earlier shown.mark.stamp s) (before (Marked w shown.mark) old) (shown.uncleared s (Contains-append_right h with_put
          (Cleared s) (Contains-head (Cleared s) (Marked v (mark true) ∷ []))))

      here : IsShown (h ++ with_put) v
      here =
          newly_shown h with_put v (mark true) before refl (Contains-append_right (Cleared s ∷ []) (Marked v
          (mark true) ∷ []) (Marked v (mark true)) (Contains-head (Marked v (mark true)) []))
          (λ n c. ⊎_elim (λ e. absurd (not_clear s v n e)) (λ e. sym (one_mark v v (mark true) n e)) (put_only (Marked v n) c))
          (λ c in_new. ⊎_elim (λ e. sym (one_stamp s c e)) (λ e. absurd (not_clear c v (mark true) (sym e))) (put_only (Cleared c) in_new))

  -- a clear hides all
  shown_cleared : (w : List ℕ) → IsShown (h ++ Cleared s ∷ []) w → ⊥
  shown_cleared w shown =
      ⊎_elim (λ old. not_both (is_earlier shown.mark.stamp s) (before (Marked w shown.mark) old) (shown.uncleared s (Contains-append_right h
      (Cleared s ∷ []) (Cleared s) (Contains-head (Cleared s) []))))
      (λ new. not_clear s w shown.mark (only (Cleared s) (Marked w shown.mark) new)) (Contains-append_cases h
      (Cleared s ∷ []) (Marked w shown.mark) shown.greatest.among)

-- ---- the same of the values that show

both_ways : {A B C : Type 0} → A ↔ B → B ↔ C → A ↔ C
both_ways p q = (λ a. q.0 (p.0 a), λ c. p.1 (q.1 c))

module _ (h : List AttrMark) (v : List ℕ) (s : Stamp) (before : IsBefore h s) (w : List ℕ) where
  -- after an addition the value shows, and what showed
  pub shown_values-added : Contains (shown_values (h ++ Marked v (record { present = true; stamp = s }) ∷ [])) w ↔ ((w ≡ v) ⊎ Contains (shown_values h) w)
  shown_values-added =
      both_ways (shown_values-are (h ++ Marked v (record { present = true; stamp = s }) ∷ []) w)
      (both_ways (shown_added h v s before w) (
        ⊎_elim inl (λ shown. inr
            ((shown_values-are h w).1 shown)),
        ⊎_elim inl (λ shown. inr ((shown_values-are h w).0 shown)),
      ))

  -- after a removal the value does not show
  pub shown_values-removed : Contains (shown_values (h ++ Marked v
      (record { present = false; stamp = s }) ∷ [])) w ↔ (((w ≡ v) → ⊥) × Contains (shown_values h) w)
  shown_values-removed =
      both_ways (shown_values-are (h ++ Marked v (record { present = false; stamp = s }) ∷ []) w)
      (both_ways (shown_removed h v s before w) (λ p. (p.0, (shown_values-are h w).1 p.1), λ p. (p.0, (shown_values-are h w).0 p.1)))

  -- after a put the value shows alone
  pub shown_values-put : Contains (shown_values (h ++ Cleared s ∷ Marked v (record { present = true; stamp = s }) ∷ [])) w ↔ (w ≡ v)
  shown_values-put = both_ways (shown_values-are (h ++ Cleared s ∷ Marked v (record { present = true; stamp = s }) ∷ []) w) (shown_put h v s before w)

  -- after a clear nothing shows
  pub shown_values-cleared : Contains (shown_values (h ++ Cleared s ∷ [])) w → ⊥
  shown_values-cleared c = shown_cleared h v s before w ((shown_values-are (h ++ Cleared s ∷ []) w).0 c)
