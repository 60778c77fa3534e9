-- What a house holds after a step is a history again, and no time of it is above the house's floor.
use Rattle.std.proofs.Common.{◌≡◌, ℕ, ◌<◌, ◌≤◌, Bool, true, false, cond, List, [], ◌∷◌, Option, Some, None, refl, sym, ap, ◌∙◌}
use Rattle.std.proofs.Common.{subst, arith, ⊎_elim, le_trans, le_refl, eqb, nat_le}
use Rattle.std.proofs.lemmas.Bool.Decides.{nat_tests}
use Rattle.attr_sets.proofs.Greatest.{Contains-none}
use Rattle.cds_stamps.specs.declared.stamp.Stamp.{Stamp}
use Rattle.cds_stamps.specs.Members.{Member, master_of, others_of, since_in}
use Rattle.cds_stamps.specs.Semilattice.{maybe}
use Rattle.cds_stamps.specs.Stamps.{is_earlier, later_stamp}
use Rattle.directory.specs.declared.update.UpdateRefusal.{UpdateRefusal}
use Rattle.directory.specs.declared.update.UpdateRefusal.TheVariants.{NotMaster}
use Rattle.directory.specs.Histories.{Mark, IsHistory, IsBefore, CanMerge, stamp_in, born_in, up_to}
use Rattle.directory.specs.Updates.{Change, changed_name}
use Rattle.directory.specs.Shown.{Shown, shown_of_name, refusal_of}
use Rattle.directory.proofs.UpdateLaws.{marks_of-history, marks_of-together}
use Rattle.cell_model.specs.Cells.{Phase, Idle, Gathering, Spreading, Replica, Slot, Absent, Gone, Held, House, Copy, Body, Update, Gathered, Spread, Join}
use Rattle.cell_model.specs.Cells.{Message}
use Rattle.cell_model.specs.Bodies.{marks_in, up_to_in, round_of}
use Rattle.cell_model.specs.Sets.{In, IsUpTo}
use Rattle.cell_model.specs.Turns.{HouseStep, Stays, Turns, refuses, unless_refused, with_slot, with_marks, merge_copy, later_up_to, running_skulk_stamp, stamp_at, first_replica}
use Rattle.cell_model.specs.Turns.{found_directory, accept_at, update_refusal, accept_in, accept, begin, skulk_at, skulk_in, skulk, epoch_replica, new_epoch_in}
use Rattle.cell_model.specs.Turns.{new_epoch, floor_after, replica_of_copy, kept_at_join, take}
use Rattle.cell_model.specs.Merges.{of_update, of_gathered, of_spread, of_join}
use Rattle.cell_model.specs.Floors.{IsBelow, ReplicaBelow}
use Rattle.cell_model.specs.Taking.{CanTake}
use Rattle.cell_model.proofs.Lists.{In-append_cases, time_up_to, earlier_up_to}
use Rattle.cell_model.proofs.Marks.{marks_fit, marks_made, shown_birth, stamp_next}
use Rattle.cell_model.proofs.Rows as rows
use Rattle.cell_model.proofs.Views.{put_same}
use Rattle.cell_model.proofs.Moves.{new_marks}
use Rattle.cell_model.proofs.Lifts.{later_is}
use Rattle.cell_model.proofs.Merging.{in_contains, contains_in, In-filter}
use Rattle.cell_model.proofs.Passages.{not_refused}

-- the marks of a replica are a history, and no time of it is above the floor
pub record Fine (floor : ℕ) (r : Replica) : Type 0 where
  pub history : IsHistory r.history
  pub below : ReplicaBelow r floor

-- so it is of what a house has of a directory
abbrev pub FineSlot : ℕ → Slot → Type 0
FineSlot floor s = (r : Replica) → s ≡ Held r → Fine floor r

-- and of what it has after a step
abbrev pub FineAfter : ℕ → HouseStep → Type 0
FineAfter d (Stays answer) = Unit {0}
FineAfter d (Turns t) = FineSlot t.house.floor (t.house.slots d)

-- ---- times

mark_later : (k : Mark) (a b : ℕ) → a ≤ b → IsBelow k a → IsBelow k b
mark_later k a b le w = (le_trans w.0 le, le_trans w.1 le)

-- a later floor
pub below_later : (r : Replica) (a b : ℕ) → a ≤ b → ReplicaBelow r a → ReplicaBelow r b
below_later r a b le w = record {
  marks = λ k i. mark_later k a b le (w.marks k i);
  all_up_to = λ t e. le_trans (w.all_up_to t e) le;
  phase = λ t e. le_trans (w.phase t e) le;
}

-- more marks
pub grown_below : (r : Replica) (marks : List Mark) (floor : ℕ) → ReplicaBelow r floor → ((k : Mark) → In k marks → IsBelow k floor)
    → ReplicaBelow (with_marks r marks) floor
grown_below r marks floor w new = record {
  marks = λ k i. ⊎_elim (λ old. w.marks k old) (λ more. new k more) (In-append_cases k r.history marks i);
  all_up_to = w.all_up_to;
  phase = w.phase;
}

-- another phase
pub phase_below : (r : Replica) (p : Phase) (floor : ℕ) → ReplicaBelow r floor → ((t : Stamp) → running_skulk_stamp p ≡ Some t → t.time ≤ floor)
    → ReplicaBelow (record r { phase = p }) floor
phase_below r p floor w run = record { marks = w.marks; all_up_to = w.all_up_to; phase = run }

-- none that runs
pub idle_below : (r : Replica) (floor : ℕ) → ReplicaBelow r floor → ReplicaBelow (record r { phase = Idle }) floor
idle_below r floor w = record { marks = w.marks; all_up_to = w.all_up_to; phase = λ t e. absurd (cc) }

-- the later AllUpTo
pub raised_below : (r : Replica) (t : Stamp) (floor : ℕ) → ReplicaBelow r floor → t.time ≤ floor
    → ReplicaBelow (record r { all_up_to = later_up_to r.all_up_to t }) floor
raised_below r t floor w le = record {
  marks = w.marks;
  all_up_to = λ s e. ⊎_elim (λ (l : r.all_up_to ≡ Some s). w.all_up_to s l)
      (λ (l : Some t ≡ Some s). let same : t ≡ s = cc in subst (λ (z : Stamp). z.time ≤ floor) same le)
      (later_is r.all_up_to (Some t) s e);
  phase = w.phase;
}

-- a copy that is joined in
pub merged_below : (r : Replica) (copy : Copy) (floor : ℕ) → ReplicaBelow r floor → ((k : Mark) → In k copy.history → IsBelow k floor)
    → ((t : Stamp) → copy.all_up_to ≡ Some t → t.time ≤ floor) → ReplicaBelow (merge_copy r copy) floor
merged_below r copy floor w marks up = record {
  marks = λ k i. ⊎_elim (λ old. w.marks k old) (λ more. marks k more) (In-append_cases k r.history copy.history i);
  all_up_to = λ t e. ⊎_elim (λ l. w.all_up_to t l) (λ l. up t l) (later_is r.all_up_to copy.all_up_to t e);
  phase = w.phase;
}

-- ---- the slot that a step leaves

after_held : (now : House) (d floor : ℕ) (q : Replica) → Fine floor q → FineSlot floor ((with_slot now d floor (Held q)).slots d)
after_held now d floor q w r at =
    let z : Held q ≡ Held r = sym (put_same now.slots d (Held q)) ∙ at in let same : q ≡ r = cc in subst (Fine floor) same w

after_gone : (now : House) (d floor e : ℕ) → FineSlot floor ((with_slot now d floor (Gone e)).slots d)
after_gone now d floor e r at = let z : Gone e ≡ Held r = sym (put_same now.slots d (Gone e)) ∙ at in absurd (cc)

-- ---- messages

module _ (now : House) (m : Message) (can : CanTake now m) (fine : FineSlot now.floor (now.slots m.dir)) where
  abbrev floor : ℕ
  floor = floor_after now m

  own_le : now.floor ≤ floor_after now m
  own_le = omega arith

  its_le : m.floor ≤ floor_after now m
  its_le = omega arith

  old : (r : Replica) → now.slots m.dir ≡ Held r → ReplicaBelow r floor
  old r held = below_later r now.floor floor own_le (fine r held).below

  its_marks : (b : Body) → m.body ≡ b → (k : Mark) → In k (marks_in b) → IsBelow k floor
  its_marks b is k i = mark_later k m.floor floor its_le (can.below.marks k (subst (λ (z : Body). In k (marks_in z)) (sym is) i))

  its_up : (b : Body) → m.body ≡ b → (t : Stamp) → up_to_in b ≡ Some t → t.time ≤ floor
  its_up b is t e = le_trans (can.below.all_up_to t (ap up_to_in is ∙ e)) its_le

  its_round : (b : Body) → m.body ≡ b → (t : Stamp) → round_of b ≡ Some t → t.time ≤ floor
  its_round b is t e = le_trans (can.below.round t (ap round_of is ∙ e)) its_le

  joined_in : (b : Body) (r : Replica) (copy : Copy) → m.body ≡ b → marks_in b ≡ copy.history → up_to_in b ≡ copy.all_up_to → now.slots m.dir ≡ Held r
      → ReplicaBelow (merge_copy r copy) floor
  joined_in b r copy is marks up held =
      merged_below r copy floor (old r held) (λ k i. its_marks b is k (subst (λ (l : List Mark). In k l) (sym marks) i)) (λ t e. its_up b is t (up ∙ e))

  stamp_phase : (p : Phase) (t : Stamp) → running_skulk_stamp p ≡ Some t → t.time ≤ floor → (s : Stamp) → running_skulk_stamp p ≡ Some s → s.time ≤ floor
  stamp_phase p t is le s e = let z : Some t ≡ Some s = sym is ∙ e in let same : t ≡ s = cc in subst (λ (z : Stamp). z.time ≤ floor) same le

  pub row_fine : (s : HouseStep) → rows.Row now m s → FineAfter m.dir s
  row_fine s (rows.passes a q) = tt
  row_fine s (rows.unlisted r held epoch out) = tt
  row_fine s (rows.outside ms copy is out) = tt
  row_fine s (rows.updates marks r k) =
      after_held now m.dir floor (with_marks r marks) (record {
        history = (can.merges r marks r.all_up_to k.held (of_update marks k.is k.epoch)).both;
        below = grown_below r marks floor (old r k.held) (its_marks (Update marks) k.is);
      })
  row_fine s (rows.gives t r k) = after_held now m.dir floor r (record { history = (fine r k.held).history; below = old r k.held })
  row_fine s (rows.gathers t copy a r k run) =
      after_held now m.dir floor (record (merge_copy r copy) { phase = Gathering t (m.sender ∷ a) }) (record {
        history = (can.merges r copy.history (maybe later_stamp r.all_up_to copy.all_up_to) k.held (of_gathered t copy k.is k.epoch)).both;
        below = phase_below (merge_copy r copy) (Gathering t (m.sender ∷ a)) floor (joined_in (Gathered t copy) r copy k.is refl refl k.held)
            (stamp_phase (Gathering t (m.sender ∷ a)) t refl (its_round (Gathered t copy) k.is t refl));
      })
  row_fine s (rows.turns t copy a r k run all) =
      after_held now m.dir floor (record (merge_copy r copy) { phase = Spreading t [] }) (record {
        history = (can.merges r copy.history (maybe later_stamp r.all_up_to copy.all_up_to) k.held (of_gathered t copy k.is k.epoch)).both;
        below = phase_below (merge_copy r copy) (Spreading t []) floor (joined_in (Gathered t copy) r copy k.is refl refl k.held)
            (stamp_phase (Spreading t []) t refl (its_round (Gathered t copy) k.is t refl));
      })
  row_fine s (rows.gathers_again t copy a r k run) =
      after_held now m.dir floor (merge_copy r copy) (record {
        history = (can.merges r copy.history (maybe later_stamp r.all_up_to copy.all_up_to) k.held (of_gathered t copy k.is k.epoch)).both;
        below = joined_in (Gathered t copy) r copy k.is refl refl k.held;
      })
  row_fine s (rows.spreads t copy r k) =
      after_held now m.dir floor (merge_copy r copy) (record {
        history = (can.merges r copy.history (maybe later_stamp r.all_up_to copy.all_up_to) k.held (of_spread t copy k.is k.epoch)).both;
        below = joined_in (Spread t copy) r copy k.is refl refl k.held;
      })
  row_fine s (rows.acks_early t a r k run) = after_held now m.dir floor r (record { history = (fine r k.held).history; below = old r k.held })
  row_fine s (rows.acks t a r k run) =
      after_held now m.dir floor (record r { phase = Spreading t (m.sender ∷ a) }) (record {
        history = (fine r k.held).history;
        below = phase_below r (Spreading t (m.sender ∷ a)) floor (old r k.held)
            (stamp_phase (Spreading t (m.sender ∷ a)) t refl (its_round _ k.is t refl));
      })
  row_fine s (rows.completes t a r k run all) =
      after_held now m.dir floor (record r { all_up_to = later_up_to r.all_up_to t; phase = Idle }) (record {
        history = (fine r k.held).history;
        below = idle_below (record r { all_up_to = later_up_to r.all_up_to t }) floor (raised_below r t floor (old r k.held) (its_round _ k.is t refl));
      })
  row_fine s (rows.advances t r k) =
      after_held now m.dir floor (record r { all_up_to = later_up_to r.all_up_to t }) (record {
        history = (fine r k.held).history;
        below = raised_below r t floor (old r k.held) (its_up _ k.is t refl);
      })
  row_fine s (rows.copies ms copy k low) =
      after_held now m.dir floor (replica_of_copy m ms copy) (record {
        history = subst IsHistory (ap marks_in k.is) can.history;
        below = record { marks = its_marks (Join ms copy) k.is; all_up_to = its_up (Join ms copy) k.is; phase = λ t e. absurd (cc) };
      })
  row_fine s (rows.keeps ms copy r k held le since) =
      after_held now m.dir floor (kept_at_join m ms copy r) (record {
        history = (can.merges r copy.history (maybe later_stamp r.all_up_to copy.all_up_to) held (of_join ms copy k.is le since)).both;
        below =
            let w = joined_in (Join ms copy) r copy k.is refl refl held in
            record { marks = w.marks; all_up_to = w.all_up_to; phase = λ t e. absurd (cc) };
      })
  row_fine s (rows.leaves k low) = after_gone now m.dir floor m.epoch

  -- what a house has after a message
  pub take_fine : FineAfter m.dir (take now m)
  take_fine = row_fine (take now m) (rows.take_row now m)

-- ---- updates

by_time : (a b : Stamp) → a.time < b.time → is_earlier a b ≡ true
by_time a b lt = grind (arith, nat_tests)

-- the marks of an update that a house accepts with a stamp above its floor
module _ (r : Replica) (floor : ℕ) (u : Change) (s : Stamp) (fine : Fine floor r) (above : floor < s.time)
    (accepted : refusal_of (shown_of_name r.history (changed_name u)) u ≡ None) where
  before : IsBefore r.history s
  before m there = by_time (stamp_in m) s (let low = ((fine.below).marks m (contains_in r.history m there)).0 in omega arith)

  -- those up to AllUpTo stand in the history
  covered : (t : Option Stamp) → r.all_up_to ≡ t → (k : Mark) → In k (up_to (new_marks r u s) t) → In k r.history
  covered None is k i = elim i [ ]
  covered (Some t) is k i =
      let w = In-filter t (new_marks r u s) k i in
      let early : t.time ≤ floor = (fine.below).all_up_to t is in
      ⊎_elim (λ mine. absurd (let late : s.time ≤ t.time = subst (λ (q : Stamp). q.time ≤ t.time) mine (time_up_to (stamp_in k) t w.1) in omega arith))
      (λ was. was) (marks_fit r.history u s k w.0)

  -- they can be merged
  pub accepted_merge : CanMerge r.history (new_marks r u s) r.all_up_to
  accepted_merge = record {
    covered = λ k there. in_contains r.history k (covered r.all_up_to refl k (contains_in (up_to (new_marks r u s) r.all_up_to) k there));
    mine = fine.history;
    theirs = marks_of-history r.history u s fine.history before accepted;
    both = marks_of-together r.history u s fine.history before accepted;
  }

  born_before : (e : Shown) → shown_of_name r.history (changed_name u) ≡ Some e → IsUpTo e.birth s
  born_before e is =
      let low : e.birth.time ≤ floor = ((fine.below).marks _ (shown_birth r.history (changed_name u) e is)).1 in
      earlier_up_to e.birth s (omega arith)

  -- and no time of what comes of them is above the stamp's
  pub accepted_fine : Fine s.time (with_marks r (new_marks r u s))
  accepted_fine =
      let made = marks_made (shown_of_name r.history (changed_name u)) u s accepted born_before in
      record {
        history = accepted_merge.both;
        below = grown_below r (new_marks r u s) s.time (below_later r floor s.time (omega arith) fine.below)
            (λ k i. let stamped = time_up_to (stamp_in k) s (made.stamped k i) in
            let born = time_up_to (born_in k) (stamp_in k) (made.ordered k i) in (stamped, omega arith));
      }

accept_at_fine : (h : ℕ) (now : House) (d : ℕ) (u : Change) (r : Replica) (o : Option Stamp) → stamp_at now ≡ o → update_refusal h u r ≡ None → Fine now.floor r
    → FineAfter d (accept_at h now d u r o)
accept_at_fine h now d u r None is fits fine = tt
accept_at_fine h now d u r (Some s) is fits fine =
    after_held now d s.time (with_marks r (new_marks r u s))
    (accepted_fine r now.floor u s fine (stamp_next now.clock now.floor now.node s is).0 (not_refused h u r fits))

unless_fine : (h : ℕ) (now : House) (d : ℕ) (u : Change) (r : Replica) (q : Option UpdateRefusal) → update_refusal h u r ≡ q → Fine now.floor r
    → FineAfter d (unless_refused q (accept_at h now d u r (stamp_at now)))
unless_fine h now d u r None is fine = accept_at_fine h now d u r (stamp_at now) refl is fine
unless_fine h now d u r (Some q) is fine = tt

accept_in_fine : (h : ℕ) (now : House) (d : ℕ) (u : Change) (s : Slot) → FineSlot now.floor s → FineAfter d (accept_in h now d u s)
accept_in_fine h now d u Absent fine = tt
accept_in_fine h now d u (Gone e) fine = tt
accept_in_fine h now d u (Held r) fine = unless_fine h now d u r (update_refusal h u r) refl (fine r refl)

-- what a house has after an update
pub accept_fine : (h : ℕ) (now : House) (d : ℕ) (u : Change) → FineSlot now.floor (now.slots d) → FineAfter d (accept h now d u)
accept_fine h now d u fine = accept_in_fine h now d u (now.slots d) fine

-- ---- skulks, epochs and new directories

begin_fine : (h : ℕ) (now : House) (d : ℕ) (r : Replica) (t : Stamp) (os : List ℕ) → now.floor < t.time → Fine now.floor r
    → FineAfter d (begin h now d r t os)
begin_fine h now d r t [] above fine =
    after_held now d t.time (record r { all_up_to = later_up_to r.all_up_to t; phase = Idle }) (record {
      history = fine.history;
      below = idle_below (record r { all_up_to = later_up_to r.all_up_to t }) t.time
          (raised_below r t t.time (below_later r now.floor t.time (omega arith) fine.below) (le_refl _));
    })
begin_fine h now d r t (y ∷ ys) above fine =
    after_held now d t.time (record r { phase = Gathering t [] }) (record {
      history = fine.history;
      below = phase_below r (Gathering t []) t.time (below_later r now.floor t.time (omega arith) fine.below)
          (λ s e. let same : t ≡ s = cc in subst (λ (z : Stamp). z.time ≤ t.time) same (le_refl _));
    })

skulk_at_fine : (h : ℕ) (now : House) (d : ℕ) (r : Replica) (o : Option Stamp) → stamp_at now ≡ o → Fine now.floor r → FineAfter d (skulk_at h now d r o)
skulk_at_fine h now d r None is fine = tt
skulk_at_fine h now d r (Some t) is fine = begin_fine h now d r t (others_of h r.members) (stamp_next now.clock now.floor now.node t is).0 fine

if_fine : (d : ℕ) (b : Bool) (x y : HouseStep) → FineAfter d x → FineAfter d y → FineAfter d (cond b x y)
if_fine d true x y k l = k
if_fine d false x y k l = l

skulk_in_fine : (h : ℕ) (now : House) (d : ℕ) (s : Slot) → FineSlot now.floor s → FineAfter d (skulk_in h now d s)
skulk_in_fine h now d Absent fine = tt
skulk_in_fine h now d (Gone e) fine = tt
skulk_in_fine h now d (Held r) fine =
    if_fine d (eqb (master_of r.members) h) (skulk_at h now d r (stamp_at now)) (refuses NotMaster) (skulk_at_fine h now d r (stamp_at now) refl (fine r refl)) tt

-- what a house has after a skulk began
pub skulk_fine : (h : ℕ) (now : House) (d : ℕ) → FineSlot now.floor (now.slots d) → FineAfter d (skulk h now d)
skulk_fine h now d fine = skulk_in_fine h now d (now.slots d) fine

epoch_in_fine : (m : ℕ) (now : House) (d k : ℕ) (ms : List Member) (left : List ℕ) (s : Slot) → FineSlot now.floor s
    → FineAfter d (new_epoch_in m now d k ms left s)
epoch_in_fine m now d k ms left Absent fine = tt
epoch_in_fine m now d k ms left (Gone e) fine = tt
epoch_in_fine m now d k ms left (Held r) fine =
    if_fine d (nat_le (since_in ms m 0) r.epoch) _ _
    (after_held now d now.floor (epoch_replica k ms r) (record {
      history = (fine r refl).history;
      below = let w = (fine r refl).below in record { marks = w.marks; all_up_to = w.all_up_to; phase = λ t e. absurd (cc) };
    })) tt

-- what a house has after a new epoch
pub epoch_fine : (m : ℕ) (now : House) (d k : ℕ) (ms : List Member) (left : List ℕ) → FineSlot now.floor (now.slots d)
    → FineAfter d (new_epoch m now d k ms left)
epoch_fine m now d k ms left fine = epoch_in_fine m now d k ms left (now.slots d) fine

-- and of a directory that it makes
pub found_fine : (m : ℕ) (now : House) (d : ℕ) (ms : List Member) → FineAfter d (Turns (found_directory m now d ms))
found_fine m now d ms =
    after_held now d now.floor (first_replica ms) (record {
      history = record { births = tt; ordered = tt; kinds = λ n c j k i i'. absurd (Contains-none _ i) };
      below = record { marks = λ k i. elim i [ ]; all_up_to = λ t e. absurd (cc); phase = λ t e. absurd (cc) };
    })
