-- An explainer that does the next entry of a journal, and where it ends.
use Rattle.std.proofs.Common.{◌≡◌, ◌≢◌, ℕ, suc, ◌+◌, ◌<◌, ◌≤◌, ◌⊎◌, inl, inr, Bool, true, false, eqb, List, [], ◌∷◌, ◌++◌, length, take, drop, get_or, Option, Some, None, refl, sym, ◌∙◌, ap, subst, arith, append-nil}
use Rattle.std.specs.Prelude.{IfSome, slice_get, slice_index, slice_set}
use Rattle.std.proofs.lemmas.List.{get_or-set_other, get_or-set_same, length-set, length-take-le, take-append-drop, take_all}
use Rattle.std.proofs.lemmas.Option.{get_or_from_slice_get, slice_get_within}
use Rattle.std.proofs.Math.Seq.{take-suc}
use Rattle.cell_model.specs.Commands.{Command}
use Rattle.cell_model.specs.Sets.{In}
use Rattle.cell_model.proofs.Lists.{In-append_cases, In-from_get}
use Rattle.cell_runs.specs.Entries.{Entry}
use Rattle.house_logs.specs.declared.log.HouseLog.{HouseLog}
use Rattle.house_logs.specs.declared.log.LogEntry.{LogEntry}
use Rattle.cds_explain.specs.Explained.{Explains, ExplainsFirst, ExplainsUpTo, HasNoLog, Makes, view}
use Rattle.cds_explain.specs.LoggedEntries.{AreLogged, NextEntry, NoEntry}
use Rattle.cds_explain.specs.PrivateExplainers.{AreApart, GoesOn, HasExplained, IsAllDone, IsNextAt, SameBut, Stops, clock_after}
use Rattle.cds_explain.specs.declared.cause.Reason.{Reason}
use Rattle.cds_explain.specs.declared.explainer.Explainer.{Explainer}
use Rattle.cds_explain.proofs.AddingLemmas.{logged-append}
use Rattle.cds_explain.proofs.MakingLemmas.{makes_more}

-- ---- lists

-- one value is set
pub same_set : (xs : List ℕ) (place value : ℕ) → SameBut place xs (slice_set xs place value)
same_set xs place value = record {
  count = length-set xs place value;
  others = λ i n. get_or-set_other xs place i value 0 n;
}

pub same_none : (xs : List ℕ) (place : ℕ) → SameBut place xs xs
same_none xs place = record { count = refl; others = λ i n. refl }

pub same_more : (place : ℕ) (xs ys zs : List ℕ) → SameBut place xs ys → SameBut place ys zs → SameBut place xs zs
same_more place xs ys zs a b = record { count = b.count ∙ a.count; others = λ i n. b.others i n ∙ a.others i n }

-- the first values, and one more
take_next : {A : Type 0} (xs : List A) (n : ℕ) (x : A) → slice_get xs n ≡ Some x → take (n + 1) xs ≡ take n xs ++ x ∷ []
take_next xs n x is =
    let next : n + 1 ≡ suc n = omega arith in
    ap (λ (k : ℕ). take k xs) next
    ∙ take-suc xs n x (slice_get_within xs n x is)
    ∙ ap (λ (y : _). take n xs ++ y ∷ []) (get_or_from_slice_get xs n x x is)

-- where a value of a list is
place_in : {A : Type 0} (x : A) (xs : List A) → In x xs → (i : ℕ) × (slice_get xs i ≡ Some x)
place_in x [] here = elim here [ ]
place_in x (y ∷ ys) (inl same) = (0, ap Some (sym same))
place_in x (y ∷ ys) (inr here) = let at = place_in x ys here in (suc at.0, at.1)

-- ---- houses

-- journals at two places are of two houses
houses_differ : (logs : List HouseLog) (i j : ℕ) (a b : HouseLog) → AreApart logs → i ≢ j → slice_get logs i ≡ Some a → slice_get logs j ≡ Some b
    → a.house.0 ≢ b.house.0
houses_differ logs i j a b apart differ ia jb same = by (eqb_lt i j)
  where
    eqb_lt : (i j : ℕ) → (i < j) ⊎ (j ≤ i)
    eqb_lt i j = grind arith

    by : (i < j) ⊎ (j ≤ i) → ⊥
    by (inl lt) = apart j i a b lt ia jb same
    by (inr le) = apart i j b a (let lt : j < i = omega (arith, le, differ) in lt) jb ia (sym same)

-- a house without a journal is another than one that has one
no_log_differs : (logs : List HouseLog) (x i : ℕ) (log : HouseLog) → HasNoLog x logs → slice_get logs i ≡ Some log → x ≢ log.house.0
no_log_differs logs x i log none is same =
    none i log (slice_get_within logs i log is)
    (subst (λ (l : HouseLog). l.house.0 ≡ x) (sym (get_or_from_slice_get logs i log log is)) (sym same))

-- as many entries as the journal has
logged_count : (ls : List LogEntry) (es : List Entry) → AreLogged ls es → length ls ≡ length es
logged_count _ _ NoEntry = refl
logged_count _ _ (NextEntry l e ls es is rest) = let more = logged_count ls es rest in grind (arith, more)

-- ---- one entry more

-- of a fact of each journal: what holds of the one at this place, and of all others
at_each : (P : ℕ → HouseLog → Type 0) (logs : List HouseLog) (place : ℕ) (log : HouseLog) → slice_get logs place ≡ Some log → P place log
    → ((i : ℕ) (other : HouseLog) → i ≢ place → slice_get logs i ≡ Some other → P i other)
    → (i : ℕ) (other : HouseLog) → slice_get logs i ≡ Some other → P i other
at_each P logs place log there here others i other is = by (eqb i place) refl
  where
    by : (b : Bool) → eqb i place ≡ b → P i other
    by true on =
        let same : place ≡ i = grind (arith, on) in
        let e : log ≡ other = cc (there, is, same) in
        subst (λ (k : ℕ). P k other) same (subst (P place) e here)
    by false off = others i other (let n : i ≢ place = grind (arith, off) in n) is

-- the next entry of the journal at a place is done
pub explained_more : (old new : Explainer) (logs : List HouseLog) (place : ℕ) (log : HouseLog) (entry : LogEntry) (h : HasExplained old logs)
    → slice_get logs place ≡ Some log → slice_get log.entries.items (slice_index old.done.items place) ≡ Some entry
    → GoesOn h.cs log.house.0 (entry ∷ []) (slice_index new.clocks.items place) new.replay → SameBut place old.clocks.items new.clocks.items
    → SameBut place old.done.items new.done.items → slice_index new.done.items place ≡ slice_index old.done.items place + 1 → HasExplained new logs
explained_more old new logs place log entry h there is goes clocks done count = record {
  cs = goes.new;
  has_done = goes.has_done;
  apart = h.apart;
  made = λ i other at. subst (λ (l : List Command). Makes l other) (sym goes.adds.follows) (makes_more h.cs goes.adds.more other (h.made i other at));
  views = at_each (λ i other. AreLogged (take (slice_index new.done.items i) other.entries.items) (view other.house.0 goes.new)) logs place log there here
      (λ i other n at.
      subst (AreLogged (take (slice_index new.done.items i) other.entries.items)) (sym (goes.adds.there other.house.0 (differs i other n at)))
      (subst (λ (k : ℕ). AreLogged (take k other.entries.items) (view other.house.0 h.cs)) (sym (done.others i n)) (h.views i other at)));
  clocks = at_each (λ i other. clock_after goes.new other.house.0 ≡ slice_index new.clocks.items i) logs place log there goes.adds.clock
      (λ i other n at. goes.adds.clocks other.house.0 (differs i other n at) ∙ h.clocks i other at ∙ sym (clocks.others i n));
  others = λ x none. goes.adds.there x (no_log_differs logs x place log none there) ∙ h.others x none;
  count = done.count ∙ h.count;
  clock_count = clocks.count ∙ h.clock_count;
}
  where
    n : ℕ
    n = slice_index old.done.items place

    differs : (i : ℕ) (other : HouseLog) → i ≢ place → slice_get logs i ≡ Some other → other.house.0 ≢ log.house.0
    differs i other n at = houses_differ logs i place other log h.apart n at there

    next : take (slice_index new.done.items place) log.entries.items ≡ take n log.entries.items ++ entry ∷ []
    next = ap (λ (k : ℕ). take k log.entries.items) count ∙ take_next log.entries.items n entry is

    here : AreLogged (take (slice_index new.done.items place) log.entries.items) (view log.house.0 goes.new)
    here =
        subst (AreLogged (take (slice_index new.done.items place) log.entries.items)) (sym goes.adds.here)
        (subst (λ (ls : List LogEntry). AreLogged ls (view log.house.0 h.cs ++ goes.adds.entries)) (sym next)
        (logged-append (take n log.entries.items) (entry ∷ []) (view log.house.0 h.cs) goes.adds.entries (h.views place log there) goes.adds.logged))

-- ---- turns of the loops

-- the count of a journal is set
pub done_set : (old mid : Explainer) (place count : ℕ) → mid.done ≡ old.done → SameBut place old.done.items (slice_set mid.done.items place count)
done_set old mid place count same =
    let is : mid.done.items ≡ old.done.items = cc in
    subst (λ (xs : List ℕ). SameBut place old.done.items (slice_set xs place count)) (sym is) (same_set old.done.items place count)

pub done_is : (old mid : Explainer) (logs : List HouseLog) (place count : ℕ) → HasExplained old logs → place < length logs → mid.done ≡ old.done
    → slice_index (slice_set mid.done.items place count) place ≡ count
done_is old mid logs place count h lt same =
    let is : mid.done.items ≡ old.done.items = cc in
    let many = h.count in
    let within : place < length mid.done.items = subst (λ (xs : List ℕ). place < length xs) (sym is) (omega arith) in
    get_or-set_same mid.done.items place count 0 within

-- where nothing was done
pub explained_same : (old new : Explainer) (logs : List HouseLog) → new ≡ old → HasExplained old logs → HasExplained new logs
explained_same old new logs same h = subst (λ (e : Explainer). HasExplained e logs) (sym same) h

-- the reason of an entry that is not done
pub next_at : (old new : Explainer) (logs : List HouseLog) (place : ℕ) (log : HouseLog) (at : ℕ) (reason : Reason) → slice_get logs place ≡ Some log
    → slice_index old.done.items place ≡ at → new.done ≡ old.done → at < length log.entries.items → reason.house ≡ log.house → reason.entry ≡ at + 2
    → IsNextAt logs new.done.items reason
next_at old new logs place log at reason there is same lt house number =
    let here : slice_index new.done.items place ≡ at = cc in
    record {
      place = place;
      log = log;
      here = there;
      house = house;
      number = omega arith;
      left = omega arith;
    }

-- one house more of a round: the journals of all of them are done
pub round_whole : (old new : Explainer) (logs : List HouseLog) (order : List ℕ) (k place : ℕ) → k < length order → place ≡ get_or order k 0
    → SameBut place old.done.items new.done.items → IsAllDone logs new.done.items place → ((i : ℕ) → In i (take k order) → IsAllDone logs old.done.items i)
    → (i : ℕ) → In i (take (k + 1) order) → IsAllDone logs new.done.items i
round_whole old new logs order k place lt is same this before i here = by (eqb i place) refl
  where
    next : take (k + 1) order ≡ take k order ++ place ∷ []
    next =
        let more : k + 1 ≡ suc k = omega arith in
        ap (λ (n : ℕ). take n order) more
        ∙ take-suc order k 0 lt
        ∙ ap (λ (p : ℕ). take k order ++ p ∷ []) (sym is)

    early : i ≢ place → In i (take k order) ⊎ In i (place ∷ []) → In i (take k order)
    early differ (inl before) = before
    early differ (inr (inl same)) = absurd (differ same)
    early differ (inr (inr none)) = elim none [ ]

    by : (b : Bool) → eqb i place ≡ b → IsAllDone logs new.done.items i
    by true on = let e : place ≡ i = grind (arith, on) in subst (IsAllDone logs new.done.items) e this
    by false off =
        let differ : i ≢ place = grind (arith, off) in
        let at = early differ (In-append_cases i (take k order) (place ∷ []) (subst (In i) next here)) in
        λ log there. subst (λ (n : ℕ). length log.entries.items ≤ n) (sym (same.others i differ)) (before i at log there)

-- and the reason that is kept is that of a next entry, where none went on
pub round_next : (old new : Explainer) (logs : List HouseLog) (place : ℕ) (result going next : Option Reason) → SameBut place old.done.items new.done.items
    → slice_index new.done.items place ≡ slice_index old.done.items place → (result ≡ going) ⊎ (result ≡ next)
    → IfSome going (IsNextAt logs old.done.items) → IfSome next (IsNextAt logs new.done.items) → IfSome result (IsNextAt logs new.done.items)
round_next old new logs place result going next same still one before this = by one
  where
    each : (i : ℕ) → slice_index old.done.items i ≡ slice_index new.done.items i
    each i = at (eqb i place) refl
      where
        at : (b : Bool) → eqb i place ≡ b → slice_index old.done.items i ≡ slice_index new.done.items i
        at true on =
            let e : place ≡ i = grind (arith, on) in
            subst (λ (p : ℕ). slice_index old.done.items p ≡ slice_index new.done.items p) e (sym still)
        at false off = let differ : i ≢ place = grind (arith, off) in sym (same.others i differ)

    later : (o : Option Reason) → IfSome o (IsNextAt logs old.done.items) → IfSome o (IsNextAt logs new.done.items)
    later None is = tt
    later (Some reason) is = record {
      place = is.place;
      log = is.log;
      here = is.here;
      house = is.house;
      number = is.number ∙ ap (λ (n : ℕ). n + 2) (each is.place);
      left = subst (λ (n : ℕ). n < length is.log.entries.items) (each is.place) is.left;
    }

    by : (result ≡ going) ⊎ (result ≡ next) → IfSome result (IsNextAt logs new.done.items)
    by (inl is) = subst (λ (o : Option Reason). IfSome o (IsNextAt logs new.done.items)) (sym is) (later going before)
    by (inr is) = subst (λ (o : Option Reason). IfSome o (IsNextAt logs new.done.items)) (sym is) this

-- what holds of a reason, if there is one
pub of_some : (P : Reason → Type 0) (o : Option Reason) (reason : Reason) → o ≡ Some reason → IfSome o P → P reason
of_some P o reason is holds = subst (λ (z : Option Reason). IfSome z P) is holds

-- ---- the ends

-- a script that says no more than an explainer has done explains the first entries
pub explained_first : (e : Explainer) (logs : List HouseLog) (text : List ℕ) (h : HasExplained e logs) → Stops h.cs text → ExplainsFirst text logs
explained_first e logs text h stops = record {
  cs = stops.new;
  script = stops.script;
  views =
      λ log here.
      let at = place_in log logs here in
      let n : ℕ = slice_index e.done.items at.0 in
      record {
        first = take n log.entries.items;
        more = drop n log.entries.items;
        parts = sym (take-append-drop n log.entries.items);
        logged = subst (AreLogged (take n log.entries.items)) (sym (stops.quiet log.house.0)) (h.views at.0 log at.1);
      };
  others = λ x none. stops.quiet x ∙ h.others x none;
}

-- and a reason names the next entry
pub explained_up_to : (e : Explainer) (logs : List HouseLog) (text : List ℕ) (reason : Reason) (h : HasExplained e logs) → Stops h.cs text
    → IsNextAt logs e.done.items reason → ExplainsUpTo text logs reason
unfolding explained_first
explained_up_to e logs text reason h stops next = record {
  first = explained_first e logs text h stops;
  next = inr (record {
    log = next.log;
    here = In-from_get next.log logs next.place next.here;
    house = next.house;
    number = next.number ∙ ap (λ (k : ℕ). k + 2) (sym many);
    left = subst (λ (k : ℕ). k < length next.log.entries.items) (sym many) next.left;
  });
}
  where
    n : ℕ
    n = slice_index e.done.items next.place

    many : length (view next.log.house.0 stops.new) ≡ n
    many =
        ap length (stops.quiet next.log.house.0)
        ∙ sym (logged_count (take n next.log.entries.items) (view next.log.house.0 h.cs) (h.views next.place next.log next.here))
        ∙ length-take-le n next.log.entries.items (let left = next.left in omega arith)

-- all entries of all journals are done
pub explained_whole : (e : Explainer) (logs : List HouseLog) → HasExplained e logs → ((i : ℕ) → i < length logs → IsAllDone logs e.done.items i)
    → Explains e.replay.text.items logs
explained_whole e logs h all = record {
  cs = h.cs;
  script = h.has_done.script;
  made = λ log here. let at = place_in log logs here in h.made at.0 log at.1;
  views =
      λ log here.
      let at = place_in log logs here in
      let n : ℕ = slice_index e.done.items at.0 in
      let most : length log.entries.items ≤ n = all at.0 (slice_get_within logs at.0 log at.1) log at.1 in
      subst (λ (ls : List LogEntry). AreLogged ls (view log.house.0 h.cs)) (take_all n log.entries.items most) (h.views at.0 log at.1);
  others = h.others;
}

-- a script that explains journals explains first entries
pub whole_first : (text : List ℕ) (logs : List HouseLog) → Explains text logs → ExplainsFirst text logs
whole_first text logs e = record {
  cs = e.cs;
  script = e.script;
  views = λ log here. record {
    first = log.entries.items;
    more = [];
    parts = sym (append-nil log.entries.items);
    logged = e.views log here;
  };
  others = e.others;
}
