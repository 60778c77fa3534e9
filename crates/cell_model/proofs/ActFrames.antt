-- What an act of a house leaves in its directory.
use Rattle.std.proofs.Common.{◌≡◌, ℕ, ◌<◌, ◌≤◌, ◌⊎◌, inl, inr, List, [], ◌∷◌, ◌++◌, Some, None, refl, sym, ap, ◌∙◌, subst, arith, ⊎_elim, le_refl}
use Rattle.std.proofs.lemmas.Bool.{cases_lt}
use Rattle.cds_stamps.specs.declared.stamp.Stamp.{Stamp}
use Rattle.cds_stamps.specs.Members.{Member, master_of, others_of, since_in}
use Rattle.directory.specs.Histories.{Mark, stamp_in}
use Rattle.directory.specs.Updates.{Change}
use Rattle.cell_model.specs.Cells.{Idle, Gathering, Spreading, Replica, Slot, Gone, Held, Copy, Body, Update, Gather, Gathered, Spread, SpreadAck}
use Rattle.cell_model.specs.Cells.{Advance, Join, Leave, Message, Cell, IsHeld}
use Rattle.cell_model.specs.Commands.{Accepted}
use Rattle.cell_model.specs.Sets.{In, IsPart}
use Rattle.cell_model.specs.Turns.{with_marks, copy_of, merge_copy, to_each, later_up_to, replica_of_copy as copied_at, kept_at_join}
use Rattle.cell_model.proofs.Lists.{In-append_left, In-append_right, In-append_cases, In-map}
use Rattle.cell_model.proofs.Terms.{Listed, listed_once}
use Rattle.cell_model.proofs.Facts.{View, view, IsPosted, Holds, Roll, marks_in, round_of, Reached, Kind, Sound, Turn, same, idle, begins, answered}
use Rattle.cell_model.proofs.Facts.{turned, acked, Took, Past, grew, rose, copied, Came, own, sent, fresh, Answers, New, Frame}
use Rattle.cell_model.proofs.Bounds.{reached_held}
use Rattle.cell_model.proofs.FirstRound.{slot_cases}
use Rattle.cell_model.proofs.Marks.{marks_fit, stamp_next}
use Rattle.cell_model.proofs.Views.{In-of_dir, altered}
use Rattle.cell_model.proofs.Moves.{floor_at, reply_at, others_at, new_marks, Taking, Entering, Issuing, accepting}
use Rattle.cell_model.proofs.Frames.{altered_frame, new_post, new_each, one_post, held_owed, grown_owed}

-- ---- a message is taken

module _ (roll : Roll) (g : Cell) (m : Message) (s : Sound roll (view m.dir g)) where
  abbrev v : View
  v = view m.dir g

  abbrev left : Slot → List Message → View
  left slot posts = altered v m.receiver (floor_at g m) slot posts v.top v.present

  at_dir : In m g.bag → IsPosted v m
  at_dir i = In-of_dir m.dir g.bag m i refl

  -- one of the receiver's epoch
  taken_frame : (b : Body) (r q : Replica) (posts : List Message) → Taking g m b r → r.epoch ≡ q.epoch → q.members ≡ r.members → IsPart r.history q.history
      → Turn roll v m.receiver (floor_at g m) r q → ((k : Mark) → In k q.history → In k r.history ⊎ In k (marks_in b)) → IsPart (marks_in b) q.history
      → ((p : Message) → In p posts → New roll v (left (Held q) posts) [] p) → Frame roll v (left (Held q) posts) []
  taken_frame b r q posts k e mem sub turn come adds post =
      altered_frame roll v [] m.receiver (floor_at g m) (Held q) posts v.top v.present s
      (grown_owed roll v [] m.receiver (floor_at g m) (Held q) posts v.top v.present s r q refl k.held (omega arith) e mem sub turn
      (λ j i. ⊎_elim (λ l. inl l)
      (λ n. inr (sent m (at_dir k.posted) (k.epoch ∙ e) (subst (λ (z : Body). In j (marks_in z)) (sym k.is) n) (omega arith)
      (subst (λ (z : Body). IsPart (marks_in z) q.history) (sym k.is) adds))) (come j i)))
      post (le_refl _) s.good s.present (λ e z. inl z)

  nothing : (q : Replica) (p : Message) → In p [] → New roll v (left (Held q) []) [] p
  nothing q p i = elim i [ ]

  grows : (r : Replica) (marks : List Mark) → IsPart r.history (r.history ++ marks)
  grows r marks k i = In-append_left k r.history marks i

  -- what answers m
  abbrev answer : (b : Body) (r : Replica) (p : Message) → Taking g m b r → p.sender ≡ m.receiver → p.epoch ≡ m.epoch → m.floor ≤ p.floor → Answers v p b
  answer b r p k by e fl = record {
    to = m;
    held = r;
    posted = at_dir k.posted;
    is = k.is;
    epoch = sym e;
    floor = fl;
    holds = subst (λ (z : ℕ). Holds v z r) (sym by) k.held;
    holds_epoch = sym k.epoch ∙ sym e;
  }

  -- an update that is taken frames the step
  pub updates_frame : (marks : List Mark) (r : Replica) → Taking g m (Update marks) r → Frame roll v (left (Held (with_marks r marks)) []) []
  updates_frame marks r k =
      taken_frame (Update marks) r (with_marks r marks) [] k refl refl (grows r marks) (same refl) (λ j i. In-append_cases j r.history marks i)
      (λ j i. In-append_right j r.history marks i) (nothing _)

  -- so does a Gather that is answered
  pub gives_frame : (t : Stamp) (r : Replica) → Taking g m (Gather t) r → Frame roll v (left (Held r) (reply_at g m (Gathered t (copy_of r)))) []
  gives_frame t r k =
      taken_frame (Gather t) r r (reply_at g m (Gathered t (copy_of r))) k refl refl (λ j i. i) (same refl) (λ j i. inl i) (λ j i. elim i [ ])
      (one_post roll v [] m.receiver (floor_at g m) (Held r) _ v.top v.present s _
      (new_post roll v [] m.receiver (floor_at g m) (Held r) _ v.top v.present s r refl m.dir m.sender m.epoch (floor_at g m) (Gathered t (copy_of r))
      (sym k.epoch) refl (λ j i. i) (inl (λ j i. i)) (λ c e. cc)
      (answer (Gather t) r _ k refl refl (omega arith), λ j i. i)))

  -- an answer in the first round, where others are still to come
  pub gathers_frame : (t : Stamp) (copy : Copy) (a : List ℕ) (r : Replica) → Taking g m (Gathered t copy) r → r.phase ≡ Gathering t a
      → Frame roll v (left (Held (record (merge_copy r copy) { phase = Gathering t (m.sender ∷ a) })) []) []
  gathers_frame t copy a r k run =
      let q : Replica = record (merge_copy r copy) { phase = Gathering t (m.sender ∷ a) } in
      taken_frame (Gathered t copy) r q [] k refl refl (grows r copy.history)
      (answered t a m copy run refl (at_dir k.posted) k.is (λ j i. In-append_right j r.history copy.history i))
      (λ j i. In-append_cases j r.history copy.history i) (λ j i. In-append_right j r.history copy.history i) (nothing q)

  -- the last answer in the first round, with which the second begins
  pub turns_frame : (t : Stamp) (copy : Copy) (a : List ℕ) (r : Replica) → Taking g m (Gathered t copy) r → r.phase ≡ Gathering t a
      → ((x : ℕ) → In x (others_of m.receiver r.members) → In x (m.sender ∷ a))
      → Frame roll v (left (Held (record (merge_copy r copy) { phase = Spreading t [] })) (others_at g m r (Spread t (copy_of (merge_copy r copy))))) []
  turns_frame t copy a r k run all =
      let q : Replica = record (merge_copy r copy) { phase = Spreading t [] } in
      let head : master_of r.members ≡ m.receiver = ((s.held m.receiver r k.held).phase t (cc)).0 in
      taken_frame (Gathered t copy) r q (others_at g m r (Spread t (copy_of (merge_copy r copy)))) k refl refl (grows r copy.history)
      (turned t a m copy run refl (at_dir k.posted) k.is (λ j i. In-append_right j r.history copy.history i)
      (λ y o. all y (subst (λ (z : ℕ). In y (others_of z r.members)) head o)))
      (λ j i. In-append_cases j r.history copy.history i) (λ j i. In-append_right j r.history copy.history i)
      (new_each roll v [] m.receiver (floor_at g m) (Held q) _ v.top v.present s q refl (others_of m.receiver r.members) m.dir r.epoch (floor_at g m)
      (Spread t (copy_of (merge_copy r copy))) refl refl (λ j i. i) (inl (λ j i. i)) (λ c e. cc) (λ _ _. (refl, λ j i. i)))

  -- an answer of the first round that comes in the second
  pub gathers_again_frame : (t : Stamp) (copy : Copy) (r : Replica) → Taking g m (Gathered t copy) r → Frame roll v (left (Held (merge_copy r copy)) []) []
  gathers_again_frame t copy r k =
      taken_frame (Gathered t copy) r (merge_copy r copy) [] k refl refl (grows r copy.history) (same refl) (λ j i. In-append_cases j r.history copy.history i)
      (λ j i. In-append_right j r.history copy.history i) (nothing (merge_copy r copy))

  -- a Spread that is taken and answered
  pub spreads_frame : (t : Stamp) (copy : Copy) (r : Replica) → Taking g m (Spread t copy) r
      → Frame roll v (left (Held (merge_copy r copy)) (reply_at g m (SpreadAck t))) []
  spreads_frame t copy r k =
      taken_frame (Spread t copy) r (merge_copy r copy) (reply_at g m (SpreadAck t)) k refl refl (grows r copy.history) (same refl)
      (λ j i. In-append_cases j r.history copy.history i) (λ j i. In-append_right j r.history copy.history i)
      (one_post roll v [] m.receiver (floor_at g m) (Held (merge_copy r copy)) _ v.top v.present s _
      (new_post roll v [] m.receiver (floor_at g m) (Held (merge_copy r copy)) _ v.top v.present s (merge_copy r copy) refl m.dir m.sender m.epoch (floor_at g m)
      (SpreadAck t) (sym k.epoch) refl (λ j i. elim i [ ]) (inr (λ j i. elim i [ ])) (λ c e. cc)
      (copy, answer (Spread t copy) r _ k refl refl (omega arith), λ j i. In-append_right j r.history copy.history i)))

  -- an answer of the second round that comes in the first
  pub acks_early_frame : (t : Stamp) (r : Replica) → Taking g m (SpreadAck t) r → Frame roll v (left (Held r) []) []
  acks_early_frame t r k = taken_frame (SpreadAck t) r r [] k refl refl (λ j i. i) (same refl) (λ j i. inl i) (λ j i. elim i [ ]) (nothing r)

  -- an answer in the second round, where others are still to come
  pub acks_frame : (t : Stamp) (a : List ℕ) (r : Replica) → Taking g m (SpreadAck t) r → r.phase ≡ Spreading t a
      → Frame roll v (left (Held (record r { phase = Spreading t (m.sender ∷ a) })) []) []
  acks_frame t a r k run =
      let q : Replica = record r { phase = Spreading t (m.sender ∷ a) } in
      taken_frame (SpreadAck t) r q [] k refl refl (λ j i. i) (acked t a m run refl (at_dir k.posted) k.is) (λ j i. inl i) (λ j i. elim i [ ]) (nothing q)

  -- the last answer in the second round, with which the skulk completes
  pub completes_frame : (t : Stamp) (r : Replica) → Taking g m (SpreadAck t) r
      → Frame roll v (left (Held (record r { all_up_to = later_up_to r.all_up_to t; phase = Idle })) (others_at g m r (Advance t))) []
  completes_frame t r k =
      let q : Replica = record r { all_up_to = later_up_to r.all_up_to t; phase = Idle } in
      taken_frame (SpreadAck t) r q (others_at g m r (Advance t)) k refl refl (λ j i. i) (idle refl) (λ j i. inl i) (λ j i. elim i [ ])
      (new_each roll v [] m.receiver (floor_at g m) (Held q) _ v.top v.present s q refl (others_of m.receiver r.members) m.dir r.epoch (floor_at g m)
      (Advance t) refl refl (λ j i. elim i [ ]) (inr (λ j i. elim i [ ])) (λ c e. cc)
      (λ _ _. (m, at_dir k.posted, k.is, k.epoch, omega arith)))

  -- an Advance that is taken
  pub advances_frame : (t : Stamp) (r : Replica) → Taking g m (Advance t) r → Frame roll v (left (Held (record r { all_up_to = later_up_to r.all_up_to t })) []) []
  advances_frame t r k =
      let q : Replica = record r { all_up_to = later_up_to r.all_up_to t } in
      taken_frame (Advance t) r q [] k refl refl (λ j i. i) (same refl) (λ j i. inl i) (λ j i. elim i [ ]) (nothing q)

  -- a Join
  entered_frame : (ms : List Member) (copy : Copy) (q : Replica) → ((e : ℕ) → Reached e (v.house m.receiver).slot → e ≤ q.epoch)
      → Past roll v (left (Held q) []) m.receiver (floor_at g m) q
      → ((k : Mark) → In k q.history → Came roll v (left (Held q) []) [] m.receiver (floor_at g m) q k) → Frame roll v (left (Held q) []) []
  entered_frame ms copy q up past come =
      altered_frame roll v [] m.receiver (floor_at g m) (Held q) [] v.top v.present s
      (held_owed roll v [] m.receiver (floor_at g m) (Held q) [] v.top v.present s q refl (omega arith) up past come)
      (nothing q) (le_refl _) s.good s.present (λ e z. inl z)

  -- the list of a Join, and the since of the receiver in it
  join_since : (ms : List Member) (copy : Copy) → Entering g m (Join ms copy)
      → (ms ≡ roll.list m.epoch) × Listed (roll.list m.epoch) m.receiver (since_in ms m.receiver 0)
  join_since ms copy en =
      let k : (ms ≡ roll.list m.epoch) × ((b : ℕ) × Listed (roll.list m.epoch) m.receiver b) =
      subst (λ (b : Body). Kind roll m b) en.is (s.messages m (at_dir en.posted)).kind in
      (k.0, (k.1.1.0, ap (λ (z : List Member). since_in z m.receiver 0) (sym k.0)))

  took_join : (ms : List Member) (copy : Copy) (q : Replica) → Entering g m (Join ms copy) → m.epoch ≡ q.epoch → q.members ≡ ms
      → IsPart copy.history q.history → q.phase ≡ Idle → Took v m ms copy q (floor_at g m)
  took_join ms copy q en e mem sub i = record { posted = at_dir en.posted; is = en.is; epoch = e; members = mem; marks = sub; raised = omega arith; idle = i }

  came_by : (ms : List Member) (copy : Copy) (q : Replica) (k : Mark) → Entering g m (Join ms copy) → m.epoch ≡ q.epoch → IsPart copy.history q.history
      → In k copy.history → Came roll v (left (Held q) []) [] m.receiver (floor_at g m) q k
  came_by ms copy q k en e adds i =
      sent m (at_dir en.posted) e (subst (λ (b : Body). In k (marks_in b)) (sym en.is) i) (omega arith)
      (subst (λ (b : Body). IsPart (marks_in b) q.history) (sym en.is) adds)

  -- a Join that is taken as a copy
  pub copies_frame : (ms : List Member) (copy : Copy) → Entering g m (Join ms copy)
      → ((r : Replica) → IsHeld g m.receiver m.dir r → (r.epoch ≤ m.epoch) × (r.epoch < since_in ms m.receiver 0))
      → Frame roll v (left (Held (copied_at m ms copy)) []) []
  copies_frame ms copy en low =
      entered_frame ms copy (copied_at m ms copy)
      (λ e up. let z = lower e up in omega arith)
      (copied m ms copy refl lower (λ r b at l. let z = low r at in let w = listed_once (roll.list m.epoch) m.receiver b (since_in ms m.receiver 0) l j.1 in
      omega (arith, z.1)) (took_join ms copy (copied_at m ms copy) en refl refl (λ k i. i) refl))
      (λ k i. came_by ms copy (copied_at m ms copy) k en refl (λ j z. z) i)
    where
      j : (ms ≡ roll.list m.epoch) × Listed (roll.list m.epoch) m.receiver (since_in ms m.receiver 0)
      j = join_since ms copy en

      lower : (e : ℕ) → Reached e (v.house m.receiver).slot → e < m.epoch
      lower e up = ⊎_elim
          (λ (w : (q : Replica) × ((v.house m.receiver).slot ≡ Held q) × (e ≤ q.epoch)).
          let z = low w.0 w.1 in omega (arith, z.1, w.2, s.good.order m.epoch m.receiver (since_in ms m.receiver 0) (s.messages m (at_dir en.posted)).top j.1))
          (λ (w : (d : ℕ) × ((v.house m.receiver).slot ≡ Gone d) × (e ≤ d)). omega (arith, en.gone w.0 w.1, w.2))
          (slot_cases e _ up)

  -- a Join that is joined into the replica
  pub keeps_frame : (ms : List Member) (copy : Copy) (r : Replica) → Entering g m (Join ms copy) → IsHeld g m.receiver m.dir r → r.epoch ≤ m.epoch
      → since_in ms m.receiver 0 ≤ r.epoch → Frame roll v (left (Held (kept_at_join m ms copy r)) []) []
  keeps_frame ms copy r en at le since =
      entered_frame ms copy (kept_at_join m ms copy r)
      (λ e up. let z = reached_held e _ r at up in omega arith)
      (⊎_elim
      (λ (lt : r.epoch < m.epoch). rose r m ms copy at lt (λ k i. In-append_left k r.history copy.history i) refl cont took)
      (λ (ge : m.epoch ≤ r.epoch).
      let e : r.epoch ≡ m.epoch = omega arith in
      grew r at e (j.0 ∙ ap roll.list (sym e) ∙ sym (s.held m.receiver r at).members) (λ k i. In-append_left k r.history copy.history i) (idle refl))
      (cases_lt r.epoch m.epoch))
      (λ k i. ⊎_elim (λ l. own r at l le cont (λ j z. In-append_left j r.history copy.history z))
      (λ n. came_by ms copy (kept_at_join m ms copy r) k en refl (λ j z. In-append_right j r.history copy.history z) n)
      (In-append_cases k r.history copy.history i))
    where
      j : (ms ≡ roll.list m.epoch) × Listed (roll.list m.epoch) m.receiver (since_in ms m.receiver 0)
      j = join_since ms copy en

      cont : (b : ℕ) → Listed (roll.list m.epoch) m.receiver b → b ≤ r.epoch
      cont b l = let w = listed_once (roll.list m.epoch) m.receiver b (since_in ms m.receiver 0) l j.1 in omega arith

      took : Took v m ms copy (kept_at_join m ms copy r) (floor_at g m)
      took = took_join ms copy (kept_at_join m ms copy r) en refl refl (λ k i. In-append_right k r.history copy.history i) refl

  -- a Leave
  pub leaves_frame : Entering g m Leave → ((r : Replica) → IsHeld g m.receiver m.dir r → r.epoch < m.epoch) → Frame roll v (left (Gone m.epoch) []) []
  leaves_frame en low =
      altered_frame roll v [] m.receiver (floor_at g m) (Gone m.epoch) [] v.top v.present s
      (record {
        rises = omega arith;
        climbs = λ e up. ⊎_elim
            (λ (w : (q : Replica) × ((v.house m.receiver).slot ≡ Held q) × (e ≤ q.epoch)). omega (arith, low w.0 w.1, w.2))
            (λ (w : (d : ℕ) × ((v.house m.receiver).slot ≡ Gone d) × (e ≤ d)). omega (arith, en.gone w.0 w.1, w.2))
            (slot_cases e _ up);
        past = λ r' e. absurd (cc);
        comes = λ r' k e i. absurd (cc);
        next = λ r _. inr (m.epoch, refl);
        gone = λ e z. inr (m, at_dir en.posted, en.is, cc, refl);
      })
      (λ p i. elim i [ ]) (le_refl _) s.good s.present (λ e z. inl z)

-- ---- a house issues a stamp

module _ (roll : Roll) (g : Cell) (h d : ℕ) (r : Replica) (t : Stamp) (i : Issuing g h d r t) (home : roll.home (g.house h).node ≡ h)
    (s : Sound roll (view d g)) where
  abbrev u : View
  u = view d g

  issued : ((g.house h).floor < t.time) × (t.node ≡ (g.house h).node)
  issued = stamp_next (g.house h).clock (g.house h).floor (g.house h).node t i.next

  at_home : roll.home t.node ≡ h
  at_home = ap roll.home issued.1 ∙ home

  later : (g.house h).floor ≤ t.time
  later = omega (arith, issued.0)

  -- a house that accepts an update
  pub accepts_frame : d ≡ roll.dir → (c : Change)
      → Frame roll u (altered u h t.time (Held (with_marks r (new_marks r c t))) (to_each (others_of h r.members) d h r.epoch t.time (Update (new_marks r c t))) u.top
      u.present) (accepting h d c r t ∷ [])
  accepts_frame dir c =
      altered_frame roll u new h t.time (Held q) posts u.top u.present s
      (grown_owed roll u new h t.time (Held q) posts u.top u.present s r q refl i.held later refl refl (λ k z. In-append_left k r.history marks z) (same refl)
      (λ k z. ⊎_elim (λ l. inl l) (come k) (In-append_cases k r.history marks z)))
      (new_each roll u new h t.time (Held q) posts u.top u.present s q refl (others_of h r.members) d r.epoch t.time (Update marks) refl refl
      (λ k z. In-append_right k r.history marks z) (inr (λ k z. record { by = accepting h d c r t; logged = inl refl; dir = dir; has = z; part = λ j y. y }))
      (λ c' e. cc) (λ _ _. tt))
      (le_refl _) s.good s.present (λ e z. inl z)
    where
      marks : List Mark
      marks = new_marks r c t

      q : Replica
      q = with_marks r (new_marks r c t)

      posts : List Message
      posts = to_each (others_of h r.members) d h r.epoch t.time (Update (new_marks r c t))

      new : List Accepted
      new = accepting h d c r t ∷ []

      quiet : (m : Message) (a : Stamp) → IsPosted (altered u h t.time (Held q) posts u.top u.present) m → round_of m.body ≡ Some a → IsPosted u m
      quiet m a z e = ⊎_elim (λ was. was)
          (λ n. let w = In-map (λ (x : ℕ). record { receiver = x; dir = d; sender = h; epoch = r.epoch; floor = t.time; body = Update (new_marks r c t) }) m
          (others_of h r.members) n in
          let is : m.body ≡ Update (new_marks r c t) = ap (λ (y : Message). y.body) w.2 in
          let none : None ≡ Some a = subst (λ (b : Body). round_of b ≡ Some a) is e in
          absurd (cc))
          (In-append_cases m u.bag posts z)

      come : (k : Mark) → In k (new_marks r c t) → In k r.history ⊎ Came roll u (altered u h t.time (Held q) posts u.top u.present) new h t.time q k
      come k z = ⊎_elim
          (λ (e : stamp_in k ≡ t).
          let low : (g.house h).floor < (stamp_in k).time = subst (λ (y : Stamp). (g.house h).floor < y.time) (sym e) issued.0 in
          let high : (stamp_in k).time ≤ t.time = subst (λ (y : Stamp). y.time ≤ t.time) (sym e) (le_refl _) in
          inr (fresh r (accepting h d c r t) i.held refl low high (inl refl) dir z e (λ j y. In-append_right j r.history (new_marks r c t) y) quiet))
          (λ old. inl old)
          (marks_fit r.history c t k z)

  -- a master that begins a skulk with others
  pub skulks_frame : master_of r.members ≡ h
      → Frame roll u (altered u h t.time (Held (record r { phase = Gathering t [] })) (to_each (others_of h r.members) d h r.epoch t.time (Gather t)) u.top
      u.present) []
  skulks_frame head =
      let q : Replica = record r { phase = Gathering t [] } in
      let posts : List Message = to_each (others_of h r.members) d h r.epoch t.time (Gather t) in
      altered_frame roll u [] h t.time (Held q) posts u.top u.present s
      (grown_owed roll u [] h t.time (Held q) posts u.top u.present s r q refl i.held later refl refl (λ k z. z)
      (begins t refl head at_home issued.0 (le_refl _) (λ k z. z)) (λ k z. inl z))
      (new_each roll u [] h t.time (Held q) posts u.top u.present s q refl (others_of h r.members) d r.epoch t.time (Gather t) refl refl (λ k z. elim z [ ])
      (inr (λ k z. elim z [ ])) (λ c e. cc) (λ _ _. refl))
      (le_refl _) s.good s.present (λ e z. inl z)

  -- a master without others, whose skulk begins and completes at once
  pub lone_frame : Frame roll u (altered u h t.time (Held (record r { all_up_to = later_up_to r.all_up_to t; phase = Idle })) [] u.top u.present) []
  lone_frame =
      let q : Replica = record r { all_up_to = later_up_to r.all_up_to t; phase = Idle } in
      altered_frame roll u [] h t.time (Held q) [] u.top u.present s
      (grown_owed roll u [] h t.time (Held q) [] u.top u.present s r q refl i.held later refl refl (λ k z. z) (idle refl) (λ k z. inl z))
      (λ m z. elim z [ ]) (le_refl _) s.good s.present (λ e z. inl z)
