-- Updates that are applied in place, and whose fragments are told.
use Rattle.std.proofs.Common.{◌≡◌, ℕ, Bool, true, false, cond, List, Option, Some, None, Result, Ok, Err, IfOk, OnOk, IsSome, refl, sym, ap, subst, ◌∙◌}
use Rattle.std.specs.Prelude.{◌&&◌, is_none, IfSome, if◌then◌else◌}
use Rattle.std.specs.BTreeMap.{is_at}
use Rattle.std.specs.Cmp.Lexicographic.{nat_list_cmp_total}
use Rattle.std.specs.FinMap.{get, from_entries}
use Rattle.std.specs.Map.{lookup, set_value}
use Rattle.std.specs.Option.{option_and_then}
use Rattle.std.specs.Result.{result_err}
use Rattle.std.proofs.lemmas.Result.{IfOk-weaker, on_ok_weaker, on_err_weaker}
use Rattle.cds_stamps.specs.declared.stamp.Stamp.{Stamp}
use Rattle.cds_stamps.specs.Octets.{octets_cmp, octets_exact}
use Rattle.cds_stamps.specs.Outcomes.{ok_unless}
use Rattle.cds_stamps.proofs.Undoing.{not_here}
use Rattle.directory.specs.declared.entry.EntryCell.{EntryCell}
use Rattle.directory.specs.declared.entry.Fragment.{Fragment}
use Rattle.directory.specs.declared.update.OwnUpdate.{OwnUpdate}
use Rattle.directory.specs.declared.update.UpdateRefusal.{UpdateRefusal}
use Rattle.directory.specs.declared.update.UpdateRefusal.TheVariants.{NoSuchEntry}
use Rattle.directory.specs.Applied.{TakesOwn, TakesIn, LeavesOthers}
use Rattle.directory.specs.Entries.{Entries, join_entries, IsValidEntry}
use Rattle.directory.specs.Histories.{Mark, entry_of}
use Rattle.directory.specs.OwnUpdateWords.{own_refusal, own_made, IsOwnUpdate, AcceptsEntry, AcceptsOwn}
use Rattle.directory.specs.Shown.{Shown, shown_in, shown_entry, face_of, leads, refusal_of, marks_of}
use Rattle.directory.specs.ToldWords.{AcceptsUpdate, TellsUpdate}
use Rattle.directory.specs.Updates.{Change, changed_name}
use Rattle.directory.proofs.Applying.{changed_here, takes_own, takes_shown}
use Rattle.directory.proofs.Dropping.{found, stays}
use Rattle.directory.proofs.FragmentLaws.{shows}
use Rattle.directory.proofs.Untouched.{untouched}

-- a check answers what its refusal decides
pub refusal_told : {E : Type 0} (r : Result (Unit {0}) E) (refusal : Option E) → r ≡ ok_unless refusal tt → result_err r ≡ refusal
refusal_told r None is = ap result_err is
refusal_told r (Some e) is = ap result_err is

-- and the refusal decides the answer
answer_told : {E : Type 0} (a : Result (Unit {0}) E) (refusal : Option E) → result_err a ≡ refusal → a ≡ ok_unless refusal tt
answer_told (Ok x) None is = refl
answer_told (Ok x) (Some e) is = cc (is)
answer_told (Err e) None is = cc (is)
answer_told (Err e) (Some f) is = cc (is)

-- what follows of an answer that tells its refusal, where nothing was said against
where_told : {A E F P Q : Type 0} (r : Result (Result A E) F) (refusal : Option E) → IfOk r (λ a. result_err a ≡ refusal)
    → IfOk r (λ a. OnOk a P) → (refusal ≡ None → P → Q) → IfOk r (λ a. OnOk a Q)
where_told (Err e) refusal is p f = tt
where_told (Ok (Err e)) refusal is p f = tt
where_told (Ok (Ok x)) refusal is p f = f (sym is) p

-- ---- an entry that is changed in place, in its table

module _ (m : Entries) (es fs : List (List ℕ × EntryCell)) (n : List ℕ) (view : from_entries {R = octets_cmp} es ≡ m) where
  module _ (own next : EntryCell) (had : Some own ≡ lookup (is_at (octets_cmp n)) es) (set : fs ≡ set_value (is_at (octets_cmp n)) es next)
      (puts : (q : List ℕ) → lookup (is_at (octets_cmp q)) fs ≡ cond (is_at (octets_cmp n) q) (Some next) (lookup (is_at (octets_cmp q)) es)) where
    -- an entry that stays leaves the table as it is
    pub stays_here : next ≡ own → from_entries fs ≡ m
    stays_here same = stays m es fs n next view (ap Some same ∙ had) set

    -- what is joined into the entry is joined into the table
    pub takes_here : (made : EntryCell → EntryCell) → (IsValidEntry own → next ≡ join_entries own (made own)) → TakesOwn m (from_entries fs) n made
    takes_here made joins =
        takes_own m (from_entries fs) n made own (found m es n (Some own) view had)
        (changed_here nat_list_cmp_total octets_exact IsValidEntry join_entries m es fs n own (made own) next view had joins puts)

    -- the other names have what they had
    pub apart_here : LeavesOthers m (from_entries fs) n
    apart_here = untouched nat_list_cmp_total octets_exact m es fs n next view puts

    -- what the entry accepts, the table accepts of it
    pub accepts_here : {A F : Type 0} (o : OwnUpdate) (s : Stamp) (r : Result (Result A UpdateRefusal) F)
        → AcceptsEntry own next o s r → AcceptsOwn m (from_entries fs) n o s r
    accepts_here o s r accepts = record {
      answer = subst (λ x. IfOk r (λ a. result_err a ≡ own_refusal (option_and_then shown_entry x) o)) (sym (found m es n (Some own) view had)) accepts.answer;
      ok = IfOk-weaker r _ _ (λ a. on_ok_weaker a (takes_here (λ e. own_made o e s))) accepts.ok;
      others = apart_here;
      refused = IfOk-weaker r _ _ (λ a. on_err_weaker a stays_here) accepts.refused;
      err = on_err_weaker r stays_here accepts.err;
    }

  -- an entry that is not there accepts nothing
  pub accepts_none : {A F : Type 0} (o : OwnUpdate) (s : Stamp) → None ≡ lookup (is_at (octets_cmp n)) es → fs ≡ es
      → AcceptsOwn {A = A} {E = F} m (from_entries fs) n o s (Ok (Err NoSuchEntry))
  accepts_none o s none same =
      let gone = not_here nat_list_cmp_total octets_exact m es fs n view none same in
      record {
        answer = sym (ap (λ x. own_refusal (option_and_then shown_entry x) o) gone.0);
        ok = tt;
        others = λ q _. ap (λ m. get m q) gone.1;
        refused = gone.1;
        err = tt;
      }

-- ---- what a table accepts of an entry, as an update

-- the marks of an entry that shows, and what is made of it
own_live : (n : List ℕ) (marks : Option Shown → List Mark) (g own : EntryCell) (b : Bool) → IsSome (if b then Some (face_of own) else None)
    → entry_of (marks (Some (face_of own))) n ≡ Some g → entry_of (marks (if b then Some (face_of own) else None)) n ≡ Some g
own_live n marks g own true live made = made
own_live n marks g own false live made = cc (live)

own_marks : (n : List ℕ) (marks : Option Shown → List Mark) (made : EntryCell → EntryCell)
    → ((own : EntryCell) → entry_of (marks (Some (face_of own))) n ≡ Some (made own))
    → (g : EntryCell) (x : Option EntryCell) → IsSome (option_and_then shown_entry x) → IfSome x (λ e. g ≡ made e)
    → entry_of (marks (option_and_then shown_entry x)) n ≡ Some g
own_marks n marks made is g None live e = cc (live)
own_marks n marks made is g (Some own) live e =
    own_live n marks g own (is_none own.death && leads own.kind (face_of own).values) live (is own ∙ ap Some (sym e))

module _ (old new : Entries) (u : Change) (o : OwnUpdate) (s : Stamp) (is : IsOwnUpdate u o) where
  -- the fragment that is told of an entry is the entry of its marks
  own_told : {F : Type 0} (r : Result (Result Fragment UpdateRefusal) F)
      → IfOk r (λ a. result_err a ≡ own_refusal (shown_in old (changed_name u)) o) → IfOk r (λ a. IfOk a (λ f. f.name ≡ changed_name u))
      → IfOk r (λ a. IfOk a (λ f. IfSome (get old (changed_name u)) (λ e. f.entry ≡ own_made o e s)))
      → IfOk r (λ a. IfOk a (λ f. entry_of (marks_of (shown_in old (changed_name u)) u s) f.name ≡ Some f.entry))
  own_told (Err e) answer named entry = tt
  own_told (Ok (Err e)) answer named entry = tt
  own_told (Ok (Ok f)) answer named entry =
      ap (entry_of (marks_of (shown_in old (changed_name u)) u s)) named
      ∙ own_marks (changed_name u) (λ e. marks_of e u s) (λ e. own_made o e s) (λ e. is.entry e s) f.entry (get old (changed_name u))
      (shows (shown_in old (changed_name u)) (λ e. own_refusal e o) refl (sym answer)) entry

  -- the entry of the update's marks is joined in, where it is accepted
  own_taken : {A F : Type 0} (r : Result (Result A UpdateRefusal) F) → AcceptsOwn old new (changed_name u) o s r
      → IfOk r (λ a. OnOk a (TakesIn old new (changed_name u) (marks_of (shown_in old (changed_name u)) u s)))
  own_taken r own = where_told r (own_refusal (shown_in old (changed_name u)) o) own.answer own.ok (λ accepted.
      takes_shown old new (changed_name u) (λ e. own_made o e s) (λ e. marks_of e u s) (λ e. is.entry e s)
      (shows (shown_in old (changed_name u)) (λ e. own_refusal e o) refl accepted))

  -- what is accepted of an entry is accepted as an update
  pub accepts_own : {F : Type 0} (r : Result (Result (Unit {0}) UpdateRefusal) F) → AcceptsOwn old new (changed_name u) o s r → AcceptsUpdate old new u s r
  accepts_own r own = record {
    answer = IfOk-weaker r _ _ (λ a told. answer_told a (refusal_of (shown_in old (changed_name u)) u)
        (told ∙ sym (is.refusal (shown_in old (changed_name u))))) own.answer;
    ok = own_taken r own;
    others = own.others;
    refused = own.refused;
    err = own.err;
  }

  -- and so is what is told of it
  pub tells_own : {F : Type 0} (r : Result (Result Fragment UpdateRefusal) F) → AcceptsOwn old new (changed_name u) o s r
      → IfOk r (λ a. IfOk a (λ f. f.name ≡ changed_name u)) → IfOk r (λ a. IfOk a (λ f. IfSome (get old (changed_name u)) (λ e. f.entry ≡ own_made o e s)))
      → TellsUpdate old new u s r
  tells_own r own name entry = record {
    answer = IfOk-weaker r _ _ (λ a told. told ∙ sym (is.refusal (shown_in old (changed_name u)))) own.answer;
    ok = own_taken r own;
    name = name;
    entry = own_told r own.answer name entry;
    others = own.others;
    refused = own.refused;
    err = own.err;
  }
