-- What house 1 shows is what the accepted updates show, and how an update changes it.
use Rattle.std.proofs.Common.{◌≡◌, ◌≢◌, ℕ, ◌<◌, true, false, List, [], ◌∷◌, ◌++◌, Option, Some, None, inl, inr, refl, sym, ap, ◌∙◌, subst, arith, ⊎_elim}
use Rattle.std.specs.Option.{IsSomeAnd}
use Rattle.std.proofs.lemmas.Bool.Decides.{nat_tests}
use Rattle.cds_stamps.specs.declared.stamp.Stamp.{Stamp}
use Rattle.cds_stamps.specs.Members.{Member, is_listed, since_in}
use Rattle.cds_stamps.specs.Stamps.{is_earlier}
use Rattle.directory.specs.declared.entry.Kind.TheVariants.{Object}
use Rattle.directory.specs.Entries.{Entries}
use Rattle.directory.specs.Histories.{Mark, stamp_in, IsHistory, IsBefore, SameMarks}
use Rattle.directory.specs.Shown.{Shown, ChangesValues, shown_of_name, shown_in, is_reserved, refusal_of, live_refusal, marks_of}
use Rattle.directory.specs.Updates.{Change, Create, Delete, Add, Remove, changed_name}
use Rattle.directory.proofs.ChangeLaws.{shown-others, shown-create, shown-add, shown-remove, shown-delete}
use Rattle.directory.proofs.MemberLaws.{table_of-same}
use Rattle.directory.proofs.ShownLaws.{shown_in-table_of}
use Rattle.cell_model.specs.Cells.{Phase, Cell, IsHeld}
use Rattle.cell_model.specs.Commands.{Command, Accepted}
use Rattle.cell_model.specs.Sets.{In}
use Rattle.cell_model.specs.Steps.{replay, accepted_updates}
use Rattle.cell_model.specs.Floors.{FloorsHold}
use Rattle.cell_model.specs.Holdings.{HistoriesHold}
use Rattle.cell_model.proofs.Lists.{In-append_left, In-append_right, In-append_cases}
use Rattle.cell_model.proofs.Terms.{Listed}
use Rattle.cell_model.proofs.Runs.{roll_of}
use Rattle.cell_model.proofs.NeverComes.{reaching_last}
use Rattle.cell_model.proofs.Merging.{contains_in, in_contains}
use Rattle.cell_model.proofs.Standing.{histories_lem}
use Rattle.cell_model.proofs.FloorTimes.{floors_lem}
use Rattle.form_laws.proofs.Trios.{trio, replica, IsOwn, Steady}

-- the marks of updates
abbrev pub marks_by : List Accepted → List Mark
marks_by [] = []
marks_by (a ∷ log) = a.marks ++ marks_by log

-- what they show of a name
abbrev pub shows : List Accepted → List ℕ → Option Shown
shows log n = shown_of_name (marks_by log) n

marks_in_log : (log : List Accepted) (a : Accepted) (k : Mark) → In a log → In k a.marks → In k (marks_by log)
marks_in_log [] a k i j = elim i [ ]
marks_in_log (b ∷ log) a k (inl e) j = In-append_left k b.marks (marks_by log) (subst (λ (z : Accepted). In k z.marks) e j)
marks_in_log (b ∷ log) a k (inr i) j = In-append_right k b.marks (marks_by log) (marks_in_log log a k i j)

log_of_mark : (log : List Accepted) (k : Mark) → In k (marks_by log) → (a : Accepted) × In a log × In k a.marks
log_of_mark [] k i = elim i [ ]
log_of_mark (b ∷ log) k i =
    ⊎_elim (λ (j : In k b.marks). (b, inl refl, j)) (λ (j : In k (marks_by log)). let w = log_of_mark log k j in (w.0, inr w.1, w.2))
    (In-append_cases k b.marks (marks_by log) i)

-- where house 1 alone accepted updates, it has their marks and no others
one_log : (commands : List Command) (h : List Mark) (a : Option Stamp) (ph : Phase) → ((b : Accepted) → In b (accepted_updates commands) → IsOwn b)
    → IsHeld (replay commands) 1 1 (replica h a ph) → SameMarks h (marks_by (accepted_updates commands))
one_log commands h a ph own at k =
    let reach = reaching_last commands 1 in
    let ok = reach.sound.held 1 (replica h a ph) at in (
      λ c.
          let w = reach.known.only 1 (replica h a ph) at k (contains_in h k c) in
          in_contains (marks_by (accepted_updates commands)) k (marks_in_log (accepted_updates commands) w.by k w.logged w.has),
      λ c.
          let w = log_of_mark (accepted_updates commands) k (contains_in (marks_by (accepted_updates commands)) k c) in
          let mine = own w.0 w.1 in
          let term : Listed ((roll_of 1 commands).list 1) (w.0).by (w.0).since =
          subst (λ (ms : List Member). Listed ms (w.0).by (w.0).since) ok.members
          (ap (λ (x : ℕ). is_listed x trio) mine.0, ap (λ (x : ℕ). since_in trio x 0) mine.0 ∙ sym mine.1) in
          in_contains h k (reach.known.all w.0 (replica h a ph) w.1 mine.2
          (subst (λ (x : ℕ). IsHeld (replay commands) x 1 (replica h a ph)) (sym mine.0) at) term k w.2),
    )

-- what the history of house 1 shows is what the accepted updates show
pub same_shown : (f : ℕ) (log : List Accepted) (p : ℕ) (g : Cell) (h : List Mark) (a : Option Stamp) (ph : Phase) → Steady f log p g
    → IsHeld g 1 1 (replica h a ph) → (n : List ℕ) → shown_of_name h n ≡ shows log n
same_shown f log p g h a ph s at n =
    let past = s.past in
    let same : SameMarks h (marks_by log) =
    subst (λ (l : List Accepted). SameMarks h (marks_by l)) past.logged
    (one_log past.commands h a ph (subst (λ (l : List Accepted). (b : Accepted) → In b l → IsOwn b) (sym past.logged) s.own)
    (subst (λ (z : Cell). IsHeld z 1 1 (replica h a ph)) (sym past.leads) at)) in
    sym (shown_in-table_of h n) ∙ ap (λ (t : Entries). shown_in t n) (table_of-same h (marks_by log) same) ∙ shown_in-table_of (marks_by log) n

-- ---- an update

-- what an update leaves to be shown: its marks, which are stamped later than the history, come
-- after it
pub record After (log : List Accepted) (u : Change) (log' : List Accepted) : Type 0 where
  pub history : List Mark
  pub stamp : Stamp
  pub whole : IsHistory history
  pub before : IsBefore history stamp
  pub old : (n : List ℕ) → shown_of_name history n ≡ shows log n
  pub new : (n : List ℕ) → shown_of_name (history ++ marks_of (shown_of_name history (changed_name u)) u stamp) n ≡ shows log' n

earlier_time : (a b : Stamp) → a.time < b.time → is_earlier a b ≡ true
earlier_time a b lt = grind (arith, nat_tests)

-- the history of house 1 is whole
pub history_whole : (f : ℕ) (log : List Accepted) (p : ℕ) (g : Cell) (h : List Mark) (a : Option Stamp) (ph : Phase) → Steady f log p g
    → IsHeld g 1 1 (replica h a ph) → IsHistory h
history_whole f log p g h a ph s at = (subst HistoriesHold s.past.leads (histories_lem s.past.commands)).houses 1 1 (replica h a ph) at

-- it is earlier than a stamp above the house's floor
pub history_before : (f : ℕ) (log : List Accepted) (p : ℕ) (g : Cell) (h : List Mark) (a : Option Stamp) (ph : Phase) (t : Stamp) → Steady f log p g
    → IsHeld g 1 1 (replica h a ph) → (g.house 1).floor < t.time → IsBefore h t
history_before f log p g h a ph t s at above k c =
    let low = ((subst FloorsHold s.past.leads (floors_lem s.past.commands)).houses 1 1 (replica h a ph) at).marks k (contains_in h k c) in
    earlier_time (stamp_in k) t (omega (arith, low.0, above))

-- the entry shows, as an object
pub record Live (log : List Accepted) (n : List ℕ) : Type 0 where
  pub entry : Shown
  pub shows_it : shows log n ≡ Some entry
  pub object : entry.kind ≡ Object

-- the update of another name leaves what shows of this one
pub other_shown : (log log' : List Accepted) (u : Change) (q : List ℕ) → After log u log' → refusal_of (shows log (changed_name u)) u ≡ None
    → q ≢ changed_name u → shows log' q ≡ shows log q
other_shown log log' u q w free apart =
    let ok : refusal_of (shown_of_name w.history (changed_name u)) u ≡ None = ap (λ (e : Option Shown). refusal_of e u) (w.old (changed_name u)) ∙ free in
    sym (w.new q) ∙ shown-others w.history u w.stamp w.whole w.before ok q apart ∙ w.old q

-- so an entry lives on
pub live_same : (log log' : List Accepted) (q : List ℕ) → shows log' q ≡ shows log q → Live log q → Live log' q
live_same log log' q e l = record { entry = l.entry; shows_it = e ∙ l.shows_it; object = l.object }

-- an entry that is created lives
pub created : (log log' : List Accepted) (n : List ℕ) → After log (Create n) log' → Live log' n
created log log' n w = record {
  entry = record { birth = w.stamp; kind = Object; values = λ _. [] };
  shows_it = sym (w.new n) ∙ shown-create w.history n w.stamp w.whole w.before;
  object = refl;
}

-- one that is deleted does not show
pub deleted : (log log' : List Accepted) (n : List ℕ) → After log (Delete n) log' → Live log n → shows log' n ≡ None
deleted log log' n w l = sym (w.new n) ∙ shown-delete w.history n l.entry (w.old n ∙ l.shows_it) w.stamp

still_live : (log' : List Accepted) (n a : List ℕ) (e : Shown) (P : List ℕ → Type 0) (o : Option Shown) → o ≡ shows log' n → e.kind ≡ Object
    → IsSomeAnd o (ChangesValues e a P) → Live log' n
still_live log' n a e P None is k c = elim c [ ]
still_live log' n a e P (Some x) is k c = record { entry = x; shows_it = sym is; object = c.kind ∙ k }

-- one that gets a value lives on
pub value_added : (log log' : List Accepted) (n a v : List ℕ) → is_reserved a ≡ false → After log (Add n a v) log' → Live log n → Live log' n
value_added log log' n a v free w l =
    still_live log' n a l.entry _ _ (w.new n) l.object
    (shown-add w.history n l.entry (w.old n ∙ l.shows_it) w.stamp a v w.before (ap live_refusal free))

-- and so does one that loses one
pub value_removed : (log log' : List Accepted) (n a v : List ℕ) → is_reserved a ≡ false → After log (Remove n a v) log' → Live log n → Live log' n
value_removed log log' n a v free w l =
    still_live log' n a l.entry _ _ (w.new n) l.object
    (shown-remove w.history n l.entry (w.old n ∙ l.shows_it) w.stamp a v w.before (ap live_refusal free))
