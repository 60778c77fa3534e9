-- Houses that are made, before any of them does anything.
use Rattle.std.proofs.Common.{◌≡◌, ℕ, ◌+◌, ◌<◌, ◌≤◌, ◌⊎◌, inl, inr, List, [], ◌∷◌, ◌++◌, length, take, Some, None, refl, sym, ◌∙◌, ap, subst, append_assoc, arith}
use Rattle.std.specs.Prelude.{IfSome, slice_get, slice_index}
use Rattle.std.proofs.lemmas.Bool.{cases_lt}
use Rattle.std.proofs.lemmas.Option.{slice_get_within}
use Rattle.cell_model.specs.Cells.{Cell, empty_cell}
use Rattle.cell_model.specs.Commands as commands
use Rattle.cell_model.specs.Commands.{Command}
use Rattle.cell_model.specs.Sets.{In}
use Rattle.cell_model.specs.Steps.{replay}
use Rattle.cell_model.proofs.Lists.{In-append_cases}
use Rattle.cell_model.proofs.Runs.{replay-append}
use Rattle.cell_runs.specs.Views.{image_in}
use Rattle.house_logs.specs.declared.log.HouseLog.{HouseLog}
use Rattle.cell_runs.specs.Entries.{Entry}
use Rattle.cds_explain.specs.Explained.{ExplainsUpTo, Makes, Scripts, view}
use Rattle.house_logs.specs.declared.log.LogEntry.{LogEntry}
use Rattle.cds_explain.specs.LoggedEntries.{AreLogged, NoEntry}
use Rattle.cds_explain.specs.PrivateExplainers.{AreTwins, HasBegun, HasExplained, HasMade, HasTwin, IsFirstOfHouse, MakesOnly}
use Rattle.cds_explain.specs.PrivateReplays.{DoesQuietly, HasDone}
use Rattle.cds_explain.specs.declared.cause.Cause.{Cause}
use Rattle.cds_explain.specs.declared.cause.Reason.{Reason}
use Rattle.cds_explain.specs.declared.explainer.Explainer.{Explainer}
use Rattle.cds_explain.specs.declared.replay.Replay.{Replay}
use Rattle.cds_explain.proofs.ClockLemmas.{house_made}
use Rattle.cds_explain.proofs.ViewLemmas.{view_quiet}

-- a house that was made is made in more commands
pub makes_more : (cs more : List Command) (log : HouseLog) → Makes cs log → Makes (cs ++ more) log
makes_more cs more log m = record {
  early = m.early;
  late = m.late ++ more;
  parts =
      ap (λ (l : List Command). l ++ more) m.parts
      ∙ append_assoc m.early (commands.House log.house.0 log.node ∷ m.late) more;
  done = m.done;
  image = m.image;
}

-- before the first house
pub none_made : (r : Replay) (logs : List HouseLog) → HasDone r [] → HasMade r logs []
none_made r logs has = record {
  cs = [];
  has_done = has;
  views = λ x. refl;
  clocks = λ x. refl;
  made = λ i log here. elim here [ ];
  once = λ i here. elim here [ ];
}

-- one house more, of no journal or of one that is left out
pub made_other : (old new : Replay) (logs : List HouseLog) (places : List ℕ) (x node : ℕ) (h : HasMade old logs places)
    → DoesQuietly h.cs (commands.House x node) new → HasMade new logs places
made_other old new logs places x node h does = record {
  cs = h.cs ++ commands.House x node ∷ [];
  has_done = does.has_done;
  views = λ y. view_quiet y h.cs (commands.House x node) refl ∙ h.views y;
  clocks =
      λ y. ap (λ (g : Cell). (g.house y).clock) (replay-append h.cs (commands.House x node ∷ []) empty_cell)
      ∙ house_made (replay h.cs) x node h.clocks y;
  made = λ i log here is. makes_more h.cs (commands.House x node ∷ []) log (h.made i log here is);
  once = h.once;
}

-- one more, of the journal at a place
pub made_more : (old new : Replay) (logs : List HouseLog) (places : List ℕ) (place : ℕ) (log : HouseLog) (h : HasMade old logs places)
    → slice_get logs place ≡ Some log → IsFirstOfHouse logs place → (does : DoesQuietly h.cs (commands.House log.house.0 log.node) new)
    → IfSome log.image (λ i. image_in (replay (h.cs ++ commands.House log.house.0 log.node ∷ [])) log.house.0 ≡ i) → HasMade new logs (places ++ place ∷ [])
unfolding made_other
made_more old new logs places place log h there first does image = record {
  cs = rest.cs;
  has_done = rest.has_done;
  views = rest.views;
  clocks = rest.clocks;
  made =
      λ i other here is. by_place i (In-append_cases i places (place ∷ []) here)
      (λ early. rest.made i other early is)
      (λ same. subst (λ (z : HouseLog). Makes rest.cs z) (let e : log ≡ other = cc (there, is, same) in e) this);
  once = λ i here. by_place i (In-append_cases i places (place ∷ []) here) (h.once i) (λ same. subst (IsFirstOfHouse logs) (sym same) first);
}
  where
    rest : HasMade new logs places
    rest = made_other old new logs places log.house.0 log.node h does

    this : Makes (h.cs ++ commands.House log.house.0 log.node ∷ []) log
    this = record {
      early = h.cs;
      late = [];
      parts = refl;
      done = does.answer;
      image =
          subst (λ (g : Cell). IfSome log.image (λ i. image_in g log.house.0 ≡ i)) (replay-append h.cs (commands.House log.house.0 log.node ∷ []) empty_cell)
          image;
    }

    by_place : {P : Type 0} (i : ℕ) → In i places ⊎ In i (place ∷ []) → (In i places → P) → (i ≡ place → P) → P
    by_place i (inl early) before here = before early
    by_place i (inr (inl same)) before here = here same
    by_place i (inr (inr none)) before here = elim none [ ]

-- a place of no journal
pub made_past : (r : Replay) (logs : List HouseLog) (places : List ℕ) (place : ℕ) → HasMade r logs places → slice_get logs place ≡ None
    → HasMade r logs (places ++ place ∷ [])
made_past r logs places place h none = record {
  cs = h.cs;
  has_done = h.has_done;
  views = h.views;
  clocks = h.clocks;
  made = λ i log here is. by_place i (In-append_cases i places (place ∷ []) here) (λ early. h.made i log early is) (λ same. absurd (cc (is, same, none)));
  once =
      λ i here. by_place i (In-append_cases i places (place ∷ []) here) (h.once i)
      (λ same. λ j a b lt ja ib. absurd (cc (ib, same, none)));
}
  where
    by_place : {P : Type 0} (i : ℕ) → In i places ⊎ In i (place ∷ []) → (In i places → P) → (i ≡ place → P) → P
    by_place i (inl early) before here = before early
    by_place i (inr (inl same)) before here = here same
    by_place i (inr (inr none)) before here = elim none [ ]

-- where it stops
pub makes_only : (r new : Replay) (logs : List HouseLog) (places : List ℕ) → HasMade r logs places → new.text ≡ r.text → MakesOnly new.text.items
makes_only r new logs places h kept =
    let is : r.text.items ≡ new.text.items = cc in
    record { cs = h.cs; script = subst (λ (t : List ℕ). Scripts t h.cs) is h.has_done.script; views = h.views }

-- no entry is logged by none
none_logged : (ls : List LogEntry) (es : List Entry) → ls ≡ [] → es ≡ [] → AreLogged ls es
none_logged ls es a b = subst (λ (l : List LogEntry). AreLogged l es) (sym a) (subst (AreLogged []) (sym b) NoEntry)

pub makes_up_to : (text : List ℕ) (logs : List HouseLog) (reason : Reason) → MakesOnly text → reason.entry ≡ 1 → ExplainsUpTo text logs reason
makes_up_to text logs reason m number = record {
  first = record {
    cs = m.cs;
    script = m.script;
    views = λ log here. record {
      first = [];
      more = log.entries.items;
      parts = refl;
      logged = none_logged [] (view log.house.0 m.cs) refl (m.views log.house.0);
    };
    others = λ x none. m.views x;
  };
  next = inl (record { number = number; nothing = m.views reason.house.0 });
}

-- all houses are made, and no entry is done
pub begun_explained : (e : Explainer) (logs : List HouseLog) (places : List ℕ) → HasBegun e logs places → ((i : ℕ) → i < length logs → In i places)
    → HasExplained e logs
begun_explained e logs places b each = record {
  cs = h.cs;
  has_done = h.has_done;
  apart = λ i j a c lt ja ic. h.once i (each i (slice_get_within logs i c ic)) j a c lt ja ic;
  made = λ i log is. h.made i log (each i (slice_get_within logs i log is)) is;
  views =
      λ i log is. none_logged (take (slice_index e.done.items i) log.entries.items) (view log.house.0 h.cs) (sym (none i log.entries.items))
      (h.views log.house.0);
  clocks = λ i log is. h.clocks log.house.0 ∙ sym (b.clocks i);
  others = λ x none. h.views x;
  count = b.count;
  clock_count = b.clock_count;
}
  where
    h : HasMade e.replay logs places
    h = b.made

    none : {A : Type 0} (i : ℕ) (xs : List A) → [] ≡ take (slice_index e.done.items i) xs
    none i xs = sym (ap (λ (n : ℕ). take n xs) (b.done i))

-- ---- journals of one house or one node

the_same : {A : Type 0} {x y : A} → Some x ≡ Some y → x ≡ y
the_same is = cc

-- two journals of one house or one node
pub twin_is : (logs : List HouseLog) (i place : ℕ) (a b : HouseLog) (why : Cause) → i < place → slice_get logs i ≡ Some a → slice_get logs place ≡ Some b
    → AreTwins a b why → HasTwin logs place why
twin_is logs i place a b why before there here twins = record { i = i; a = a; b = b; before = before; there = there; here = here; twins = twins }

-- what holds of the journals before a place, and of the one there
pub first_more : (logs : List HouseLog) (P : HouseLog → Type 0) (k : ℕ) (other : HouseLog) → slice_get logs k ≡ Some other
    → ((i : ℕ) (a : HouseLog) → i < k → slice_get logs i ≡ Some a → P a) → P other → (i : ℕ) (a : HouseLog) → i < k + 1 → slice_get logs i ≡ Some a → P a
first_more logs P k other here all one i a less there = by (cases_lt i k)
  where
    by : (i < k) ⊎ (k ≤ i) → P a
    by (inl before) = all i a before there
    by (inr after) =
        let place : i ≡ k = omega (arith, less, after) in
        let same : other ≡ a = the_same (sym here ∙ ap (slice_get logs) (sym place) ∙ there) in
        subst P same one

-- of all journals before one at a place
pub first_of_all : (logs : List HouseLog) (P : HouseLog → HouseLog → Type 0) (place k : ℕ) (log : HouseLog) → slice_get logs place ≡ Some log → place ≤ k
    → ((i : ℕ) (a : HouseLog) → i < k → slice_get logs i ≡ Some a → P a log)
    → (i : ℕ) (a b : HouseLog) → i < place → slice_get logs i ≡ Some a → slice_get logs place ≡ Some b → P a b
first_of_all logs P place k log here long all i a b less there at_place =
    let near : i < k = omega (arith, less, long) in
    subst (λ (l : HouseLog). P a l) (the_same (sym here ∙ at_place)) (all i a near there)
