-- What house 1 does where it has a stamp left: an update, and a skulk.
use Rattle.std.proofs.Common.{◌≡◌, ℕ, ◌+◌, ◌<◌, ◌≤◌, max, Bool, false, ◌||◌, not, eqb, cond, List, [], ◌∷◌, ◌++◌, Option, Some, None, inl, inr, refl, ap, ◌∙◌}
use Rattle.std.proofs.Common.{arith}
use Rattle.cds_stamps.specs.declared.stamp.Stamp.{Stamp}
use Rattle.cds_stamps.specs.Stamps.{last_time}
use Rattle.directory.specs.declared.update.UpdateRefusal.{UpdateRefusal}
use Rattle.directory.specs.Histories.{Mark}
use Rattle.directory.specs.Shown.{Shown, shown_of_name, refusal_of, marks_of}
use Rattle.directory.specs.Updates.{Change, changed_name}
use Rattle.cell_model.specs.Cells.{Phase, Gathering, Slot, House, Update, Gather, Message, Cell}
use Rattle.cell_model.specs.Commands.{Command, NoDirectory, NoHouse, Down, Accepted, Accept, Skulk, Stamped}
use Rattle.cell_model.specs.Sets.{In}
use Rattle.cell_model.specs.Turns.{stamp_at, unless_refused, accept_at, accept_in, skulk_at, skulk_in}
use Rattle.cell_model.specs.Steps.{is_unknown, is_missing, is_down, at_house, outcome, serials_of}
use Rattle.cell_model.specs.Mending.{deliver_commands}
use Rattle.cell_model.proofs.Deliveries.{Fails, not_refused, Waiting, waiting_more}
use Rattle.cell_model.proofs.Readiness.{changed, letter, held_here}
use Rattle.form_laws.proofs.Goings.{Goes, goes_first}
use Rattle.form_laws.proofs.Trios.{replica, IsOwn, Seated, Steady, turned_steady, quiet_steady}
use Rattle.form_laws.proofs.SkulkRuns.{Filled, first_gather}
use Rattle.form_laws.proofs.Shows.{shows, same_shown, history_whole, history_before, After}

-- ---- stamps

-- the stamp that a house issues next, where its floor is not the last time
abbrev pub next : House → Stamp
next now = record { time = max now.clock (now.floor + 1); node = now.node }

not_equal : (a b : ℕ) → a < b → eqb a b ≡ false
not_equal a b lt = grind arith

stamp_left : (f : ℕ) (now : House) → Seated f now → f < last_time → stamp_at now ≡ Some (next now)
stamp_left f now s left =
    ap (λ (b : Bool). cond b None (Some (next now))) (not_equal now.floor last_time (omega (arith, s.low)))

next_time : (f : ℕ) (now : House) → Seated f now → (now.floor < (next now).time) × ((next now).time ≤ f + 1)
next_time f now s = (omega arith, omega (arith, s.low, s.clock))

-- ---- refusals

none_holds : (f : ℕ) (log : List Accepted) (p : ℕ) (g : Cell) → Steady f log p g
    → Fails ((is_unknown g 1, NoDirectory) ∷ (is_missing g (1 ∷ []), NoHouse) ∷ (is_down g 1, Down) ∷ [])
none_holds f log p g s =
    (ap (λ (k : ℕ). eqb k 0) s.known, (ap (λ (b : Bool). not b || false) s.made, (ap not (s.seat 1 refl).up, tt)))

-- ---- an update

-- the update that house 1 accepts
abbrev made : List Mark → Change → Stamp → Accepted
made h u t = record { by = 1; dir = 1; epoch = 1; since = 1; stamp = t; marks = marks_of (shown_of_name h (changed_name u)) u t }

-- an update that what shows does not refuse is accepted, and two messages tell of it
pub accept_run : (f p q : ℕ) (log : List Accepted) (g : Cell) (ms : List Message) (u : Change) (cs : List Command) (n : ℕ) (S : Cell → Type 0)
    → Steady f log p g → f < last_time → Waiting g q ms → refusal_of (shows log (changed_name u)) u ≡ None
    → ((t : Stamp) (marks : List Mark) (log' : List Accepted) (g' : Cell) → Steady (f + 1) log' p g' → t.time ≤ f + 1
    → Waiting g' q (ms ++ letter 1 1 2 1 t.time (Update marks) ∷ letter 1 1 3 1 t.time (Update marks) ∷ []) → After log u log' → Goes g' cs n S)
    → Goes g (Accept 1 1 u ∷ cs) n S
accept_run f p q log g ms u cs n S s left w free rest =
    let y = s.seat 1 refl in
    let h : List Mark = y.history in
    let t : Stamp = next (g.house 1) in
    let marks : List Mark = marks_of (shown_of_name h (changed_name u)) u t in
    let posts : List Message = letter 1 1 2 1 t.time (Update marks) ∷ letter 1 1 3 1 t.time (Update marks) ∷ [] in
    let new : List Accepted = made h u t ∷ [] in
    let g' : Cell = changed g 1 1 t.time (replica (h ++ marks) y.up_to y.phase) posts in
    let e : outcome g (Accept 1 1 u) ≡ record { cell = g'; answer = Stamped t (serials_of g posts); accepted = new } =
    not_refused g (Accept 1 1 u) (none_holds f log p g s)
    ∙ ap (λ (o : Slot). at_house g 1 (accept_in 1 (g.house 1) 1 u o)) y.held
    ∙ ap (λ (r : Option UpdateRefusal). at_house g 1 (unless_refused r (accept_at 1 (g.house 1) 1 u (replica h y.up_to y.phase) (stamp_at (g.house 1)))))
    (ap (λ (x : Option Shown). refusal_of x u) (same_shown f log p g h y.up_to y.phase s y.held (changed_name u)) ∙ free)
    ∙ ap (λ (o : Option Stamp). at_house g 1 (accept_at 1 (g.house 1) 1 u (replica h y.up_to y.phase) o)) (stamp_left f (g.house 1) y left) in
    let times = next_time f (g.house 1) y in
    let higher : f ≤ f + 1 = omega arith in
    let s' : Steady (f + 1) (log ++ new) p g' =
    turned_steady f (f + 1) log new p g (Accept 1 1 u) 1 t.time (h ++ marks) y.up_to y.phase posts (Stamped t (serials_of g posts)) e refl times.1 higher
    (λ b i. own b i) s in
    goes_first g (Accept 1 1 u) cs n S _ e tt refl
    (rest t marks (log ++ new) g' s' times.1 (waiting_more g g' q ms posts w refl refl) (record {
      history = h;
      stamp = t;
      whole = history_whole f log p g h y.up_to y.phase s y.held;
      before = history_before f log p g h y.up_to y.phase t s y.held times.0;
      old = same_shown f log p g h y.up_to y.phase s y.held;
      new = same_shown (f + 1) (log ++ new) p g' (h ++ marks) y.up_to y.phase s'
          (held_here g 1 1 t.time (replica (h ++ marks) y.up_to y.phase) posts);
    }))
  where
    own : (b : Accepted) → In b (made (s.seat 1 refl).history u (next (g.house 1)) ∷ []) → IsOwn b
    own b (inl is) = (ap (λ (z : Accepted). z.by) is, ap (λ (z : Accepted). z.since) is, ap (λ (z : Accepted). z.dir) is)
    own b (inr i) = elim i [ ]

-- ---- a skulk

-- a skulk and ten messages, after all that was posted
pub skulk_run : (f p : ℕ) (log : List Accepted) (g : Cell) → Steady f log p g → f < last_time → Waiting g p []
    → Goes g (Skulk 1 1 ∷ deliver_commands p 10) 1 (Filled (f + 1) log p (p + 10))
skulk_run f p log g s left w =
    let y = s.seat 1 refl in
    let t : Stamp = next (g.house 1) in
    let posts : List Message = letter 1 1 2 1 t.time (Gather t) ∷ letter 1 1 3 1 t.time (Gather t) ∷ [] in
    let r : Phase = Gathering t [] in
    let g' : Cell = changed g 1 1 t.time (replica y.history y.up_to r) posts in
    let e : outcome g (Skulk 1 1) ≡ record { cell = g'; answer = Stamped t (serials_of g posts); accepted = [] } =
    not_refused g (Skulk 1 1) (none_holds f log p g s)
    ∙ ap (λ (o : Slot). at_house g 1 (skulk_in 1 (g.house 1) 1 o)) y.held
    ∙ ap (λ (o : Option Stamp). at_house g 1 (skulk_at 1 (g.house 1) 1 (replica y.history y.up_to y.phase) o)) (stamp_left f (g.house 1) y left) in
    let times = next_time f (g.house 1) y in
    let higher : f ≤ f + 1 = omega arith in
    goes_first g (Skulk 1 1) (deliver_commands p 10) 1 (Filled (f + 1) log p (p + 10)) _ e tt refl
    (first_gather (f + 1) p (p + 10) log t g' p t.time y.history y.up_to
    (quiet_steady f (f + 1) log p g (Skulk 1 1) 1 t.time y.history y.up_to r posts (Stamped t (serials_of g posts)) e refl times.1 higher s)
    (held_here g 1 1 t.time (replica y.history y.up_to r) posts) refl times.1 (waiting_more g g' p [] posts w refl refl))
