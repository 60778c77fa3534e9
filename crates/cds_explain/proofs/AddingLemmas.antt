-- What more commands add to the entries of houses.
use Rattle.std.proofs.Common.{◌≡◌, ◌≢◌, inl, inr, ℕ, Bool, true, false, eqb, List, [], ◌∷◌, ◌++◌, Option, Some, None, refl, sym, ◌∙◌, ap, subst, arith, append-nil, append_assoc}
use Rattle.std.specs.Prelude.{Result, Ok, Err}
use Rattle.std.specs.Result.{IsErr, IsErrAnd}
use Rattle.cds_stamps.specs.declared.alloc_or.AllocOr.{AllocOr}
use Rattle.cds_stamps.specs.declared.alloc_or.AllocOr.TheVariants.{Fault, OutOfMemory}
use Rattle.cell_model.specs.Cells.{Cell, empty_cell}
use Rattle.cell_model.specs.Commands as commands
use Rattle.cell_model.specs.Commands.{Command, Done, Refusal}
use Rattle.cell_model.specs.Steps.{first_refusal, outcome, refusals_of, replay, set_clock, stays, unless}
use Rattle.cell_model.proofs.Runs.{replay-append}
use Rattle.cell_runs.specs.Entries.{Entry}
use Rattle.cell_runs.specs.Views.{seen_at}
use Rattle.house_logs.specs.declared.log.LogEntry.{LogEntry}
use Rattle.house_lines.specs.declared.line.HouseOrder.{HouseOrder}
use Rattle.house_lines.specs.declared.line.HouseOrder.TheVariants as order
use Rattle.cds_explain.specs.Explained.{Scripts, view}
use Rattle.cds_explain.specs.LoggedEntries.{AreLogged, IsLogged, NextEntry, NoEntry}
use Rattle.cds_explain.specs.PrivateConsole.{IsReady}
use Rattle.cds_explain.specs.PrivateExplainers.{Adds, GoesOn, IsTimed, Stops, clock_after}
use Rattle.cds_explain.specs.PrivateReplays.{DoesEntry, DoesQuietly, HasDone, IfFault, OfFault}
use Rattle.cds_explain.specs.declared.replay.Replay.{Replay}
use Rattle.cds_explain.proofs.ClockLemmas.{clock_set, crash_keeps, seen_keeps}
use Rattle.cds_explain.proofs.ViewLemmas.{view_here, view_quiet, view_there}

-- ---- faults

-- what a fault implies
pub fault_then : {F : Type 0} {P Q : F → Type 0} (e : AllocOr F) → ((f : F) → Q f → P f) → OfFault e Q → OfFault e P
fault_then (Fault f) then is = then f is
fault_then OutOfMemory then is = tt

-- one that is passed on
pub fault_passed : {U F : Type 0} {P Q : F → Type 0} (r : Result U (AllocOr F)) (e : AllocOr F) → IsErr r × IsErrAnd r (λ y. y ≡ e)
    → ((f : F) → Q f → P f) → OfFault e Q → IfFault r P
fault_passed (Ok x) e is then q = tt
fault_passed {U} {F} {P} {Q} (Err y) e is then q = subst (λ (z : AllocOr F). OfFault z P) (sym is.1) (fault_then e then q)

-- what holds anyway
pub fault_anyhow : {U F : Type 0} {P : F → Type 0} (r : Result U (AllocOr F)) → ((f : F) → P f) → IfFault r P
fault_anyhow (Ok x) all = tt
fault_anyhow (Err (Fault f)) all = all f
fault_anyhow (Err OutOfMemory) all = tt

-- two facts of a fault
pub both_faults : {F : Type 0} (P Q : F → Type 0) (e : AllocOr F) → OfFault e P → OfFault e Q → OfFault e (λ f. P f × Q f)
both_faults P Q (Fault f) p q = (p, q)
both_faults P Q OutOfMemory p q = tt

-- what holds of each fault
pub any_fault : {F : Type 0} {P : F → Type 0} (e : AllocOr F) → ((f : F) → e ≡ Fault f → P f) → OfFault e P
any_fault (Fault f) each = each f refl
any_fault OutOfMemory each = tt

-- what holds of this fault
pub was_fault : {F : Type 0} (Q : F → Type 0) (e : AllocOr F) (f : F) → e ≡ Fault f → OfFault e Q → Q f
was_fault {F} Q e f is q = subst (λ (z : AllocOr F). OfFault z Q) is q

-- ---- entries

-- more entries after others
pub logged-append : (ls ks : List LogEntry) (es fs : List Entry) → AreLogged ls es → AreLogged ks fs → AreLogged (ls ++ ks) (es ++ fs)
logged-append _ ks _ fs NoEntry more = more
logged-append _ ks _ fs (NextEntry l e ls es is rest) more = NextEntry l e (ls ++ ks) (es ++ fs) is (logged-append ls ks es fs rest more)

-- no entry is one of no journal
pub logged_none : (es : List Entry) → AreLogged [] es → es ≡ []
logged_none _ NoEntry = refl

-- ---- one command

-- the clock of a house after one command more
clock_then : (cs : List Command) (c : Command) (y : ℕ) → clock_after (cs ++ c ∷ []) y ≡ ((outcome (replay cs) c).cell.house y).clock
clock_then cs c y = ap (λ (g : Cell). (g.house y).clock) (replay-append cs (c ∷ []) empty_cell)

-- no command
adds_none : (cs : List Command) (x time : ℕ) → clock_after cs x ≡ time → Adds cs cs x [] time
adds_none cs x time clock = record {
  more = [];
  follows = sym (append-nil cs);
  entries = [];
  logged = NoEntry;
  here = sym (append-nil (view x cs));
  there = λ y n. refl;
  clock = clock;
  clocks = λ y n. refl;
}

-- one that is seen nowhere
adds_quiet : (cs : List Command) (c : Command) (x time : ℕ) → seen_at (replay cs) c ≡ None → ((outcome (replay cs) c).cell.house x).clock ≡ time
    → ((y : ℕ) → y ≢ x → ((outcome (replay cs) c).cell.house y).clock ≡ clock_after cs y) → Adds cs (cs ++ c ∷ []) x [] time
adds_quiet cs c x time none clock clocks = record {
  more = c ∷ [];
  follows = refl;
  entries = [];
  logged = NoEntry;
  here = view_quiet x cs c none ∙ sym (append-nil (view x cs));
  there = λ y n. view_quiet y cs c none;
  clock = clock_then cs c x ∙ clock;
  clocks = λ y n. clock_then cs c y ∙ clocks y n;
}

-- one that is an entry
adds_entry : (cs : List Command) (c : Command) (x : ℕ) (l : LogEntry) (e : Entry) → seen_at (replay cs) c ≡ Some (x, e) → IsLogged l e
    → Adds cs (cs ++ c ∷ []) x (l ∷ []) (clock_after cs x)
adds_entry cs c x l e is logged = record {
  more = c ∷ [];
  follows = refl;
  entries = e ∷ [];
  logged = NextEntry l e [] [] logged NoEntry;
  here = view_here x cs c e is;
  there = λ y n. view_there x y cs c e is n;
  clock = clock_then cs c x ∙ seen_keeps (replay cs) c (x, e) is x;
  clocks = λ y n. clock_then cs c y ∙ seen_keeps (replay cs) c (x, e) is y;
}

-- more after more
adds_more : (cs mid new : List Command) (x t u : ℕ) (ls ks : List LogEntry) → Adds cs mid x ls t → Adds mid new x ks u → Adds cs new x (ls ++ ks) u
adds_more cs mid new x t u ls ks a b = record {
  more = a.more ++ b.more;
  follows =
      b.follows
      ∙ ap (λ (l : List Command). l ++ b.more) a.follows
      ∙ append_assoc cs a.more b.more;
  entries = a.entries ++ b.entries;
  logged = logged-append ls ks a.entries b.entries a.logged b.logged;
  here =
      b.here
      ∙ ap (λ (l : List Entry). l ++ b.entries) a.here
      ∙ append_assoc (view x cs) a.entries b.entries;
  there = λ y n. b.there y n ∙ a.there y n;
  clock = b.clock;
  clocks = λ y n. b.clocks y n ∙ a.clocks y n;
}

-- ---- replays

-- a house crashes
crash_goes : (cs : List Command) (x : ℕ) (r : Replay) → DoesQuietly cs (commands.Crash x) r → GoesOn cs x [] (clock_after cs x) r
crash_goes cs x r does = record {
  new = cs ++ commands.Crash x ∷ [];
  has_done = does.has_done;
  adds = adds_quiet cs (commands.Crash x) x (clock_after cs x) refl (crash_keeps (replay cs) x x) (λ y n. crash_keeps (replay cs) x y);
}

-- its clock is set, or was this one
pub timed_goes : (cs : List Command) (x time : ℕ) (r : Replay) → IsTimed cs x time r → GoesOn cs x [] time r
timed_goes cs x time r (inl (has_done, clock)) = record { new = cs; has_done = has_done; adds = adds_none cs x time clock }
timed_goes cs x time r (inr does) =
    let set = clock_set (replay cs) x time does.answer in
    record {
      new = cs ++ commands.Clock x time ∷ [];
      has_done = does.has_done;
      adds = adds_quiet cs (commands.Clock x time) x time refl set.0 set.1;
    }

-- it does an entry
entry_goes : (cs : List Command) (x : ℕ) (l : LogEntry) (r : Replay) → DoesEntry cs x l r → GoesOn cs x (l ∷ []) (clock_after cs x) r
entry_goes cs x l r does = record {
  new = cs ++ does.command ∷ [];
  has_done = does.has_done;
  adds = adds_entry cs does.command x l does.entry does.seen does.logged;
}

-- more after more
pub goes_more : (cs : List Command) (x t u : ℕ) (ls ks : List LogEntry) (mid new : Replay) (a : GoesOn cs x ls t mid) → GoesOn a.new x ks u new
    → GoesOn cs x (ls ++ ks) u new
goes_more cs x t u ls ks mid new a b = record { new = b.new; has_done = b.has_done; adds = adds_more cs a.new b.new x t u ls ks a.adds b.adds }

-- a crash, and the clock
pub crash_timed : (cs : List Command) (x time : ℕ) (first second : Replay) (crash : DoesQuietly cs (commands.Crash x) first)
    → IsTimed (cs ++ commands.Crash x ∷ []) x time second → GoesOn cs x [] time second
unfolding crash_goes
crash_timed cs x time first second crash timed =
    goes_more cs x (clock_after cs x) time [] [] first second (crash_goes cs x first crash) (timed_goes (cs ++ commands.Crash x ∷ []) x time second timed)

-- the clock after a crash
pub clock_of_crash : (cs : List Command) (x time : ℕ) → clock_after cs x ≡ time → clock_after (cs ++ commands.Crash x ∷ []) x ≡ time
clock_of_crash cs x time is = clock_then cs (commands.Crash x) x ∙ crash_keeps (replay cs) x x ∙ is

-- an entry after the clock, which is known
pub timed_entry : (cs : List Command) (x time known : ℕ) (l : LogEntry) (mid new : Replay) (a : GoesOn cs x [] time mid) → known ≡ time → DoesEntry a.new x l new
    → GoesOn cs x (l ∷ []) known new
timed_entry cs x time known l mid new a is does =
    subst (λ (t : ℕ). GoesOn cs x (l ∷ []) t new) (a.adds.clock ∙ sym is)
    (goes_more cs x time (clock_after a.new x) [] (l ∷ []) mid new a (entry_goes a.new x l new does))

-- what a turn needs is as it was before the clock was set
ready_then : (g : Cell) (x time : ℕ) (o : HouseOrder) (serial : ℕ) → IsReady g x o serial → IsReady (outcome g (commands.Clock x time)).cell x o serial
ready_then g x time o serial ready = by (first_refusal (refusals_of g (commands.Clock x time)))
  where
    set : (o : HouseOrder) → IsReady g x o serial → IsReady (set_clock g x time) x o serial
    set (order.Take octets) ready = record { m = ready.m; there = ready.there; receiver = ready.receiver; octets_are = ready.octets_are }
    set other ready = ready

    by : (r : Option Refusal) → IsReady (unless g r (stays (set_clock g x time) Done)).cell x o serial
    by None = set o ready
    by (Some r) = ready

pub ready_timed : (cs : List Command) (x time : ℕ) (o : HouseOrder) (serial : ℕ) (r : Replay) → IsReady (replay cs) x o serial → (timed : IsTimed cs x time r)
    → IsReady (replay (timed_goes cs x time r timed).new) x o serial
unfolding timed_goes
ready_timed cs x time o serial r ready (inl (has_done, clock)) = ready
ready_timed cs x time o serial r ready (inr does) =
    subst (λ (g : Cell). IsReady g x o serial) (sym (replay-append cs (commands.Clock x time ∷ []) empty_cell)) (ready_then (replay cs) x time o serial ready)

-- ---- where it stops

-- no house did anything more
quiet : (cs new : List Command) (x time : ℕ) → Adds cs new x [] time → (y : ℕ) → view y new ≡ view y cs
quiet cs new x time a y = by (eqb y x) refl
  where
    by : (b : Bool) → eqb y x ≡ b → view y new ≡ view y cs
    by true on =
        let same : y ≡ x = grind (arith, on) in
        subst (λ (z : ℕ). view z new ≡ view z cs) (sym same)
        (a.here ∙ ap (λ (es : List Entry). view x cs ++ es) (logged_none a.entries a.logged) ∙ append-nil (view x cs))
    by false off = a.there y (let n : y ≢ x = grind (arith, off) in n)

-- a replay stops with this text
pub stops_here : (cs : List Command) (r new : Replay) → HasDone r cs → new.text ≡ r.text → Stops cs new.text.items
stops_here cs r new has kept =
    let is : r.text.items ≡ new.text.items = cc in
    record { new = cs; script = subst (λ (t : List ℕ). Scripts t cs) is has.script; quiet = λ y. refl }

-- with quiet commands more
pub stops_after : (cs : List Command) (x time : ℕ) (r new : Replay) → GoesOn cs x [] time r → new.text ≡ r.text → Stops cs new.text.items
stops_after cs x time r new a kept =
    let is : r.text.items ≡ new.text.items = cc in
    record { new = a.new; script = subst (λ (t : List ℕ). Scripts t a.new) is a.has_done.script; quiet = quiet cs a.new x time a.adds }

-- after a crash
pub stops_crashed : (cs : List Command) (x : ℕ) (r new : Replay) → DoesQuietly cs (commands.Crash x) r → new.text ≡ r.text → Stops cs new.text.items
stops_crashed cs x r new does = stops_after cs x (clock_after cs x) r new (crash_goes cs x r does)
