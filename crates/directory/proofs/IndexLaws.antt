-- The index of a table's deletions: what it knows of after each call's changes.
use Rattle.std.proofs.Common.{◌≡◌, ℕ, Bool, true, false, cond, List, [], ◌∷◌, Option, Some, None, refl, sym, ap, subst, ◌∙◌, ⊎_elim, arith}
use Rattle.std.proofs.Common.{Result, Ok, Err, IfOk, OnOk, OnErr, is_ok}
use Rattle.std.specs.Prelude.{if◌then◌else◌, IfSome}
use Rattle.std.specs.Option.{IsSomeAnd}
use Rattle.std.specs.FinMap.{get, empty, insert, get-empty, get-insert}
use Rattle.std.specs.List.{fold, AllByRecursion}
use Rattle.std.specs.Cmp.Lexicographic.{nat_list_cmp_total}
use Rattle.std.proofs.lemmas.Bool.{false≢true}
use Rattle.cds_stamps.specs.Octets.{octets_cmp, octets_exact, is_octets}
use Rattle.cds_stamps.specs.Stamps.{is_up_to}
use Rattle.cds_stamps.specs.declared.stamp.Stamp.{Stamp}
use Rattle.cds_stamps.specs.Keyed.{ties_are_equal}
use Rattle.cds_stamps.specs.Undos.{RaisesAt}
use Rattle.directory.specs.Purges.{purged_table}
use Rattle.directory.specs.declared.entry.EntryCell.{EntryCell}
use Rattle.directory.specs.declared.deletions.What.{What}
use Rattle.directory.specs.declared.deletions.Deletion.{Deletion}
use Rattle.directory.specs.declared.deletions.Deletions.{Deletions}
use Rattle.directory.specs.Applied.{TakesIn, LeavesOthers}
use Rattle.directory.specs.Deletions.{has_lost, is_lost, has_deletion, without, is_deletion, is_before, deleted_by, IsFirst}
use Rattle.directory.specs.Entries.{Entries, join_entries, join_tables, IsValidEntry, IsValidTable}
use Rattle.directory.specs.EntryLawProofs.{table_join}
use Rattle.directory.specs.Histories.{entry_of}
use Rattle.directory.specs.IndexWords.{is_indexed, deletion_count, Keeps, AddsAt, KnowsAll, BeginsWell, BeginsWellElsewhere, IsSettled, IsIndexed, IsKnown}
use Rattle.directory.specs.Shown.{Shown, marks_of}
use Rattle.directory.specs.Updates.{Change, changed_name}
use Rattle.directory.proofs.DeletionLaws.{others_stay, raised_deletion, raised_valid, joined_deletion, update_lost, without_has, without_valid, purged_without}
use Rattle.directory.proofs.DeletionOrder.{neither_before}
use Rattle.directory.proofs.DeletionSets.{one_deletion}
use Rattle.directory.proofs.TableLaws.{entry_of-valid}

-- an index that knows of the same
pub index_same : (x y : Deletions) (m : Entries) → ((d : Deletion) → is_indexed y d ≡ is_indexed x d) → deletion_count y ≡ deletion_count x → y.most ≡ x.most
    → IsIndexed x m → IsIndexed y m
index_same x y m same as_many room i = record {
  valid = i.valid;
  all = λ d h. same d ∙ i.all d h;
  first = λ d h least. i.first d (sym (same d) ∙ h) (λ e has. least e (same e ∙ has));
  within = let a = i.within in omega (arith, a, as_many, room);
}

-- a call that settles the index
pub settled : (x y : Deletions) (m : Entries) → IsKnown x m → (KnowsAll x m → KnowsAll y m) → BeginsWell y m → IsSettled x y m → IsIndexed y m
settled x y m known all first is = record { valid = known.valid; all = all known.all; first = first; within = is.within }

-- an entry that is joined in, whose deletions the index knows then
pub raised_known : (x y : Deletions) (m n : Entries) (k : List ℕ) (e : EntryCell) → Keeps x y
    → ((s : Stamp) (w : What) → has_lost e s w ≡ true → is_indexed y (record { stamp = s; name = k; what = w }) ≡ true)
    → IsValidEntry e → RaisesAt join_entries m n k e → IsKnown x m → IsKnown y n
raised_known x y m n k e keeps adds valid raises i = record {
  valid = raised_valid m n k e i.valid valid raises;
  all = λ d h. ⊎_elim
      (λ own. keeps d (i.all d own))
      (λ new. subst (λ k. is_indexed y (record { stamp = d.stamp; name = k; what = d.what }) ≡ true) (sym new.0) (adds d.stamp d.what new.1))
      (raised_deletion m n k e raises d h);
}

module _ (x y : Deletions) (m n : Entries) (keeps : Keeps x y) (i : IsIndexed x m) where
  -- entries that stay
  pub known_still : n ≡ m → IsKnown y n
  known_still same = record {
    valid = subst IsValidTable (sym same) i.valid;
    all = λ d h. keeps d (i.all d (ap (λ m. has_deletion m d) (sym same) ∙ h));
  }

  -- an entry that is joined in
  pub known_raised : (k : List ℕ) (e : EntryCell)
      → ((s : Stamp) (w : What) → has_lost e s w ≡ true → is_indexed y (record { stamp = s; name = k; what = w }) ≡ true)
      → IsValidEntry e → RaisesAt join_entries m n k e → IsKnown y n
  known_raised k e adds valid raises = raised_known x y m n k e keeps adds valid raises (record { valid = i.valid; all = i.all })

  -- an update that is added
  pub known_update : (shown : Option Shown) (u : Change) (s : Stamp) → IfSome (deleted_by u s) (λ d. is_indexed y d ≡ true)
      → TakesIn m n (changed_name u) (marks_of shown u s) → IsKnown y n
  known_update shown u s adds takes =
      at (entry_of (marks_of shown u s) (changed_name u)) takes (update_lost shown u s) (entry_of-valid (marks_of shown u s) (changed_name u))
    where
      at : (e : Option EntryCell)
          → IsSomeAnd e (λ e. IfSome (get m (changed_name u)) IsValidEntry → RaisesAt join_entries m n (changed_name u) e)
          → IfSome e (λ e. (r : Stamp) (w : What) → has_lost e r w ≡ true
          → deleted_by u s ≡ Some (record { stamp = r; name = changed_name u; what = w }))
          → IfSome e IsValidEntry → IsKnown y n
      at None none lost valid = absurd none
      at (Some e) raises lost valid =
          known_raised (changed_name u) e (λ r w h. subst (λ d. IfSome d (λ d. is_indexed y d ≡ true)) (lost r w h) adds) valid
          (raises (i.valid (changed_name u)))

  -- another table that is joined in
  pub known_joined : (others : Deletions) (other : Entries) → Keeps others y → IsIndexed others other → n ≡ join_tables m other → IsKnown y n
  known_joined others other adds j joined = record {
    valid = subst IsValidTable (sym joined) (table_join.keeps m other i.valid j.valid);
    all = λ d h. ⊎_elim (λ own. keeps d (i.all d own)) (λ new. adds d (j.all d new))
        (joined_deletion m other d (ap (λ m. has_deletion m d) (sym joined) ∙ h));
  }

-- what comes first in the entry of another name than was changed
pub begins_elsewhere : (x y : Deletions) (m n : Entries) (k : List ℕ) → AddsAt k x y → LeavesOthers m n k → IsIndexed x m → BeginsWellElsewhere k y n
begins_elsewhere x y m n k adds leaves i d apart h least =
    others_stay m n k leaves d apart ∙ i.first d (sym (adds.1 d apart) ∙ h) (λ e has. least e (adds.0 e has))

-- a deletion that is taken out of the index, and dropped from the entries if they have it
pub known_dropped : (x y : Deletions) (m n : Entries) (d : Deletion)
    → ((e : Deletion) → is_indexed y e ≡ (if is_deletion e d then false else is_indexed x e))
    → n ≡ (if has_deletion m d then without m d else m) → IsKnown x m → IsKnown y n
known_dropped x y m n d rest dropped known = at (has_deletion m d) refl (dropped)
  where
    stays : (e : Deletion) → is_deletion e d ≡ false → has_deletion m e ≡ true → is_indexed y e ≡ true
    stays e apart h = rest e ∙ ap (λ b. if b then false else is_indexed x e) apart ∙ known.all e h

    other : (e : Deletion) → has_deletion m d ≡ false → has_deletion m e ≡ true → (b : Bool) → is_deletion e d ≡ b → is_deletion e d ≡ false
    other e none h true same = absurd (false≢true (sym none ∙ ap (has_deletion m) (sym (one_deletion e d same)) ∙ h))
    other e none h false apart = apart

    at : (b : Bool) → has_deletion m d ≡ b → n ≡ (if b then without m d else m) → IsKnown y n
    at true has is = record {
      valid = subst IsValidTable (sym is) (without_valid m d known.valid);
      all = λ e h. let left = without_has m d e (ap (λ m. has_deletion m e) (sym is) ∙ h) in stays e left.1 left.0;
    }
    at false has is = record {
      valid = subst IsValidTable (sym is) known.valid;
      all = λ e h. let own : has_deletion m e ≡ true = ap (λ m. has_deletion m e) (sym is) ∙ h in
          stays e (other e has own (is_deletion e d) refl) own;
    }

-- what the index has first is the table's first deletion
pub first_of : (x : Deletions) (m : Entries) (d : Deletion) → IsIndexed x m → is_indexed x d ≡ true
    → ((e : Deletion) → is_indexed x e ≡ true → is_before e d ≡ false) → IsFirst m d
first_of x m d i h least = (i.first d h least, λ e has. least e (i.all e has))

-- there is one first deletion
pub one_first : (m : Entries) (d e : Deletion) → IsFirst m d → IsFirst m e → d ≡ e
one_first m d e f g = neither_before d e (g.1 d f.0) (f.1 e g.0)

-- the deletions up to t that are dropped are dropped with the others up to it
pub purged_dropped : (m n : Entries) (d : Deletion) (t : Stamp) → is_up_to t d.stamp ≡ true → n ≡ (if has_deletion m d then without m d else m)
    → purged_table t n ≡ purged_table t m
purged_dropped m n d t early dropped = at (has_deletion m d) refl dropped
  where
    at : (b : Bool) → has_deletion m d ≡ b → n ≡ (if b then without m d else m) → purged_table t n ≡ purged_table t m
    at true has is = ap (purged_table t) is ∙ purged_without m d t has early
    at false has is = ap (purged_table t) is

-- an empty table, and an index that knows of nothing
pub empty_index : (x : Deletions) (m : Entries) → m ≡ empty → ((d : Deletion) → is_indexed x d ≡ false) → deletion_count x ≡ 0 → IsIndexed x m
empty_index x m none nothing zero = record {
  valid = λ q. subst (λ e. IfSome e IsValidEntry) (sym (gone q)) tt;
  all = λ d h. absurd (false≢true (sym (ap (λ e. is_lost e d.stamp d.what) (gone d.name)) ∙ h));
  first = λ d h least. absurd (false≢true (sym (nothing d) ∙ h));
  within = omega (arith, zero);
}
  where
    gone : (q : List ℕ) → get m q ≡ None
    gone q = ap (λ m. get m q) none ∙ get-empty octets_cmp q

-- a table into which an entry is put
pub known_inserted : (x y : Deletions) (m n : Entries) (k : List ℕ) (e : EntryCell) → Keeps x y
    → ((s : Stamp) (w : What) → has_lost e s w ≡ true → is_indexed y (record { stamp = s; name = k; what = w }) ≡ true)
    → n ≡ insert m k e → KnowsAll x m → KnowsAll y n
known_inserted x y m n k e keeps adds put known d h =
    at (is_octets d.name k) refl (ap (λ e. is_lost e d.stamp d.what) (sym (ap (λ n. get n d.name) put ∙ get-insert nat_list_cmp_total m k e d.name)) ∙ h)
  where
    at : (b : Bool) → is_octets d.name k ≡ b → is_lost (cond b (Some e) (get m d.name)) d.stamp d.what ≡ true → is_indexed y d ≡ true
    at true same lost = subst (λ k. is_indexed y (record { stamp = d.stamp; name = k; what = d.what }) ≡ true) (sym (ties_are_equal octets_exact d.name k same))
        (adds d.stamp d.what lost)
    at false other lost = keeps d (known d lost)

-- entries that are put into a table, one after another
pub folded_valid : (m : Entries) (ps : List (List ℕ × EntryCell)) → IsValidTable m → AllByRecursion (λ p. IsValidEntry p.1) ps
    → IsValidTable (fold (λ m p. insert m p.0 p.1) m ps)
folded_valid m [] valid all = valid
folded_valid m (p ∷ ps) valid all = folded_valid (insert m p.0 p.1) ps inserted all.1
  where
    at : (q : List ℕ) (b : Bool) → IfSome (cond b (Some p.1) (get m q)) IsValidEntry
    at q true = all.0
    at q false = valid q

    inserted : IsValidTable (insert m p.0 p.1)
    inserted q = subst (λ e. IfSome e IsValidEntry) (sym (get-insert nat_list_cmp_total m p.0 p.1 q)) (at q (is_octets q p.0))

-- what is left when the first deletion is dropped
pub record IsDropped (y : Deletions) (m n : Entries) : Type 0 where
  pub d : Deletion
  pub first : IsFirst m d
  pub left : n ≡ without m d
  pub known : IsKnown y n

-- where the first deletion in the index goes from both, it was the first of the table, and the
-- index knows of those left
pub first_dropped : (x y : Deletions) (m n : Entries) (d : Deletion) → IsIndexed x m
    → (is_indexed x d ≡ true) × ((e : Deletion) → is_indexed x e ≡ true → is_before e d ≡ false)
    → ((e : Deletion) → is_indexed y e ≡ (if is_deletion e d then false else is_indexed x e))
    → n ≡ (if has_deletion m d then without m d else m) → IsDropped y m n
first_dropped x y m n d i least rest dropped =
    let first = first_of x m d i least.0 least.1 in
    record {
      d = d;
      first = first;
      left = dropped ∙ ap (λ b. if b then without m d else m) first.0;
      known = known_dropped x y m n d rest dropped (record { valid = i.valid; all = i.all });
    }

-- ---- results

-- an answer that may be a refusal, each way
pub on_answer : {A R E P Q C : Type 0} (r : Result (Result A R) E) → IfOk r (λ a. OnOk a P) → IfOk r (λ a. OnErr a Q) → OnErr r Q → (P → C) → (Q → C) → C
on_answer (Ok (Ok a)) p refused err f g = f p
on_answer (Ok (Err e)) p refused err f g = g refused
on_answer (Err e) p refused err f g = g err

-- what an Ok says
pub when_ok : {A E P : Type 0} (r : Result A E) → is_ok r ≡ true → OnOk r P → P
when_ok (Ok a) is p = p
when_ok (Err e) is p = absurd (false≢true is)

-- what holds anyway
pub on_any : {A E P : Type 0} (r : Result A E) → P → OnOk r P
on_any (Ok a) p = p
on_any (Err e) p = tt
