-- What houses have after a skulk whose messages come, if nothing is accepted meanwhile.
use Rattle.std.proofs.Common.{◌≡◌, ℕ, ◌≤◌, ◌<◌, true, List, [], ◌∷◌, ◌++◌, Some, refl, sym, ap, ◌∙◌, subst, arith, ⊎_elim, append_assoc}
use Rattle.cds_stamps.specs.declared.stamp.Stamp.{Stamp}
use Rattle.cds_stamps.specs.Members.{Member, others_of, is_listed, since_in}
use Rattle.directory.specs.Entries.{Entries}
use Rattle.directory.specs.Histories.{Mark}
use Rattle.directory.specs.Shown.{shown_of_name, shown_in}
use Rattle.directory.proofs.MemberLaws.{table_of-same}
use Rattle.directory.proofs.ShownLaws.{shown_in-table_of}
use Rattle.cell_model.specs.Bodies.{round_of, copy_in, marks_in}
use Rattle.cell_model.specs.Cells.{Phase, Replica, Slot, Held, Copy, Body, Gather, Gathered, Message, Cell, IsHeld, empty_cell}
use Rattle.cell_model.specs.Commands as commands
use Rattle.cell_model.specs.Commands.{Command, Accepted}
use Rattle.cell_model.specs.Sets.{In, IsPart}
use Rattle.cell_model.specs.Turns.{running_skulk_stamp, copy_of}
use Rattle.cell_model.specs.Steps.{outcome, replay, accepted_from}
use Rattle.cell_model.specs.Agreement.{place_of}
use Rattle.cell_model.proofs.Lists.{append_nil, In-append_left, In-append_right}
use Rattle.cell_model.proofs.Terms.{Listed, listed_or}
use Rattle.cell_model.proofs.Facts.{View, view, Kind, IsPosted, Holds, Roll, Reached, Sound, Past, grew, rose, crowned, copied, founded, Came, own, sent, fresh, New}
use Rattle.cell_model.proofs.Facts.{Frame, HeldOk}
use Rattle.cell_model.proofs.Views.{In-of_dir, In-from_dir}
use Rattle.cell_model.proofs.Passages.{Passage, whole, halves}
use Rattle.cell_model.proofs.Merging.{contains_in, in_contains}
use Rattle.cell_model.proofs.Moves.{outcome_steps}
use Rattle.cell_model.proofs.Runs.{replay-append, accepted-append, roll_of, fit_at, step_passage, reaching_at}
use Rattle.fair_runs.specs.Fairness.{Begins, IsUndisturbed, IsDelivered, IsFair}
use Rattle.fair_runs.proofs.Phases.{Asked, Told, Hears}
use Rattle.fair_runs.proofs.Raises.{Staying, step_raises}
use Rattle.fair_runs.proofs.Begun.{Begun}
use Rattle.fair_runs.proofs.Prefixes.{one_more, parts_of, cell_next}
use Rattle.fair_runs.proofs.Courses as courses
use Rattle.fair_runs.proofs.Endings as endings
use Rattle.fair_runs.proofs.Letters as letters
use Rattle.fair_runs.proofs.Letters.{Reply, Ack}
use Rattle.fair_runs.specs.Converging.{AllStay, IsQuiet, IsAllUpTo, HaveConverged, CellsConverge}

-- two replicas that a house holds at once are one
held_once : (v : View) (x : ℕ) (q r : Replica) → Holds v x q → Holds v x r → q ≡ r
held_once v x q r a b = let e : Held q ≡ Held r = sym a ∙ b in cc

-- two histories with the same marks show the same
same_shown : (g h : List Mark) (n : List ℕ) → IsPart g h → IsPart h g → shown_of_name g n ≡ shown_of_name h n
same_shown g h n there back =
    sym (shown_in-table_of g n)
    ∙ ap (λ (z : Entries). shown_in z n)
    (table_of-same g h (λ m. (λ c. in_contains h m (there m (contains_in g m c)), λ c. in_contains g m (back m (contains_in h m c)))))
    ∙ shown_in-table_of h n

-- ---- one step, in which the epoch stays

module _ (roll : Roll) (v v' : View) (new : List Accepted) (f : Frame roll v v' new) (sound : Sound roll v) (k : ℕ) where
  -- no house forgets
  grows : (x : ℕ) (q q' : Replica) → Holds v x q → q.epoch ≡ k → Holds v' x q' → q'.epoch ≡ k → IsPart q.history q'.history
  grows x q q' at ep at' ep' = go (f.past x q' at')
    where
      go : Past roll v v' x (v'.house x).floor q' → IsPart q.history q'.history
      go (grew r h e _ sub _) = subst (λ (z : Replica). IsPart z.history q'.history) (held_once v x r q h at) sub
      go (rose r m ms copy h lt sub _ _ _) = subst (λ (z : Replica). IsPart z.history q'.history) (held_once v x r q h at) sub
      go (crowned r h lt sub _ _ _ _ _ _) = subst (λ (z : Replica). IsPart z.history q'.history) (held_once v x r q h at) sub
      go (copied m ms copy _ above _ _) =
          let up : Reached q.epoch (v.house x).slot = subst (λ (s : Slot). Reached q.epoch s) (sym at) (omega arith) in
          let lt : q.epoch < q'.epoch = above q.epoch up in absurd (omega arith)
      go (founded zero _ _ _ _ _) =
          let ok = sound.held x q at in
          let top : q.epoch ≤ v.top = ok.top in
          let low : q.epoch ≡ 0 = omega (arith, zero, top) in
          absurd (sound.good.none x ok.listed.0 (subst (λ (z : ℕ). Listed (roll.list z) x ok.listed.0) low ok.listed.1))

  module _ (quiet : (a : Accepted) → In a new → a.dir ≡ roll.dir → ⊥) (stay : (x s : ℕ) → Listed (roll.list k) x s → (q : Replica) × Holds v x q × (q.epoch ≡ k))
      (sound' : Sound roll v') (U : Mark → Type 0) where
    -- the marks of the epoch are these
    Within : View → Type 0
    Within w = ((x : ℕ) (q : Replica) (j : Mark) → Holds w x q → q.epoch ≡ k → In j q.history → U j)
        × ((m : Message) (j : Mark) → IsPosted w m → m.epoch ≡ k → In j (marks_in m.body) → U j)

    within_house : ((x : ℕ) (q : Replica) (j : Mark) → Holds v x q → q.epoch ≡ k → In j q.history → U j)
        → ((m : Message) (j : Mark) → IsPosted v m → m.epoch ≡ k → In j (marks_in m.body) → U j) → (x : ℕ) (q' : Replica) (j : Mark) → Holds v' x q'
        → q'.epoch ≡ k → In j q'.history → U j
    within_house houses messages x q' j at' ep' i = go (f.comes x q' j at' i)
      where
        ok : HeldOk roll v' x q'
        ok = sound'.held x q' at'

        here : (q : Replica) × Holds v x q × (q.epoch ≡ k)
        here = stay x ok.listed.0 (subst (λ (z : ℕ). Listed (roll.list z) x ok.listed.0) ep' ok.listed.1)

        go : Came roll v v' new x (v'.house x).floor q' j → U j
        go (own r at l _ _ _) = houses x r j at (ap (λ (z : Replica). z.epoch) (held_once v x r here.0 at here.1) ∙ here.2) l
        go (sent m posted e l _ _) = messages m j posted (e ∙ ep') l
        go (fresh r a _ _ _ _ logged dir _ _ _ _) = absurd (quiet a logged dir)

    within_message : ((x : ℕ) (q : Replica) (j : Mark) → Holds v' x q → q.epoch ≡ k → In j q.history → U j)
        → ((m : Message) (j : Mark) → IsPosted v m → m.epoch ≡ k → In j (marks_in m.body) → U j) → (m : Message) (j : Mark) → IsPosted v' m → m.epoch ≡ k
        → In j (marks_in m.body) → U j
    within_message houses messages m j posted ep i =
        ⊎_elim (λ was. messages m j was ep i) (λ (n : New roll v v' new m). houses m.sender n.q j n.held (n.epoch ∙ ep) (n.marks j i)) (f.posts m posted)

-- ---- all that follows

module _ (start late : List Command) (h d k : ℕ) (t : Stamp) (calm : IsUndisturbed start late h d k t)
    (stay : AllStay start late d k ((roll_of d (start ++ late)).list k)) (quiet : IsQuiet start late d)
    (none : (m : Message) (copy : Copy) → In m (replay (start ++ [])).bag → m.dir ≡ d → m.body ≡ Gathered t copy → ⊥) where
  -- a house of the epoch has the mark at the start
  pub record Known (j : Mark) : Type 0 where
    pub house : ℕ
    pub replica : Replica
    pub held : IsHeld (replay (start ++ [])) house d replica
    pub epoch : replica.epoch ≡ k
    pub has_it : In j replica.history

  -- at each moment: the houses of the epoch and its messages have such marks alone; each answer of
  -- the first round has all that its house had at the start; and no house has forgotten any of that
  pub record Kept (past : List Command) : Type 0 where
    pub houses : (x : ℕ) (q : Replica) (j : Mark) → IsHeld (replay (start ++ past)) x d q → q.epoch ≡ k → In j q.history → Known j
    pub messages : (m : Message) (j : Mark) → In m (replay (start ++ past)).bag → m.dir ≡ d → m.epoch ≡ k → In j (marks_in m.body) → Known j
    pub told : (m : Message) (copy : Copy) (p : Replica) → In m (replay (start ++ past)).bag → m.dir ≡ d → m.body ≡ Gathered t copy → m.epoch ≡ k
        → IsHeld (replay (start ++ [])) m.sender d p → p.epoch ≡ k → IsPart p.history copy.history
    pub grown : (x : ℕ) (p q : Replica) → IsHeld (replay (start ++ [])) x d p → p.epoch ≡ k → IsHeld (replay (start ++ past)) x d q → q.epoch ≡ k
        → IsPart p.history q.history

  sound_at : (past left : List Command) → past ++ left ≡ late → Sound (roll_of d (start ++ late)) (view d (replay (start ++ past)))
  sound_at past left e = (reaching_at d (start ++ late) (start ++ past) left (parts_of start past left late e)).sound

  stay_at : (past left : List Command) → past ++ left ≡ late → (x s : ℕ) → Listed ((roll_of d (start ++ late)).list k) x s
      → (q : Replica) × Holds (view d (replay (start ++ past))) x q × (q.epoch ≡ k)
  stay_at past left e x s l = stay past left e x l.0

  -- what each command does to any house and message of the directory
  frame_at : (past left : List Command) (c : Command) → past ++ c ∷ left ≡ late
      → Frame (roll_of d (start ++ late)) (view d (replay (start ++ past))) (view d (replay (start ++ (past ++ c ∷ []))))
      (outcome (replay (start ++ past)) c).accepted
  frame_at past left c e =
      subst (λ (g : Cell). Frame (roll_of d (start ++ late)) (view d (replay (start ++ past))) (view d g) (outcome (replay (start ++ past)) c).accepted)
      (sym (cell_next start past c))
      (by_passage (step_passage d (start ++ late) (start ++ past) left c (parts_of start past (c ∷ left) late e)
      (reaching_at d (start ++ late) (start ++ past) (c ∷ left) (parts_of start past (c ∷ left) late e))))
    where
      by_passage : Passage (roll_of d (start ++ late)) (view d (replay (start ++ past))) (view d (outcome (replay (start ++ past)) c).cell)
          (outcome (replay (start ++ past)) c).accepted
          → Frame (roll_of d (start ++ late)) (view d (replay (start ++ past))) (view d (outcome (replay (start ++ past)) c).cell)
          (outcome (replay (start ++ past)) c).accepted
      by_passage (whole f accepting) = f
      by_passage (halves z) = let here = calm past (c ∷ left) e in absurd (z.vacant h here.replica here.held)

  -- nothing is accepted
  quiet_at : (past left : List Command) (c : Command) → past ++ c ∷ left ≡ late → (a : Accepted) → In a (outcome (replay (start ++ past)) c).accepted
      → a.dir ≡ d → ⊥
  quiet_at past left c e a i dir =
      let g : Cell = replay (start ++ past) in
      let there : accepted_from (replay start) late ≡ accepted_from (replay start) past ++ accepted_from g (c ∷ left) =
      ap (accepted_from (replay start)) (sym e) ∙ accepted-append past (c ∷ left) (replay start)
      ∙ ap (λ (z : Cell). accepted_from (replay start) past ++ accepted_from z (c ∷ left)) (sym (replay-append start past empty_cell)) in
      quiet a (subst (λ (l : List Accepted). In a l) (sym there)
      (In-append_right a (accepted_from (replay start) past) (accepted_from g (c ∷ left))
      (In-append_left a (outcome g c).accepted (accepted_from (outcome g c).cell left) i))) dir

  -- no house forgets in a step
  pub grows_at : (past left : List Command) (c : Command) → past ++ c ∷ left ≡ late → (x : ℕ) (q q' : Replica) → IsHeld (replay (start ++ past)) x d q
      → q.epoch ≡ k → IsHeld (replay (start ++ (past ++ c ∷ []))) x d q' → q'.epoch ≡ k → IsPart q.history q'.history
  grows_at past left c e x q q' at ep at' ep' =
      grows (roll_of d (start ++ late)) (view d (replay (start ++ past))) (view d (replay (start ++ (past ++ c ∷ []))))
      (outcome (replay (start ++ past)) c).accepted (frame_at past left c e) (sound_at past (c ∷ left) e) k x q q' at ep at' ep'

  kept_first : Kept []
  kept_first = record {
    houses = λ x q j at ep i. record { house = x; replica = q; held = at; epoch = ep; has_it = i };
    messages = λ m j i dir ep l.
        let law = (sound_at [] late refl).messages m (In-of_dir d (replay (start ++ [])).bag m i dir) in
        let by = stay [] late refl m.sender (subst (λ (z : ℕ). Listed ((roll_of d (start ++ late)).list z) m.sender law.by.0) ep law.by.1).0 in
        record { house = m.sender; replica = by.0; held = by.1; epoch = by.2; has_it = law.held by.0 by.1 (by.2 ∙ sym ep) j l };
    told = λ m copy p i dir is ep at ep'. absurd (none m copy i dir is);
    grown = λ x p q at ep at' ep' j i.
        subst (λ (z : Replica). In j z.history) (held_once (view d (replay (start ++ []))) x p q at at') i;
  }

  kept_step : (past left : List Command) (c : Command) → past ++ c ∷ left ≡ late → Kept past → Kept (past ++ c ∷ [])
  kept_step past left c e w = record {
    houses = houses;
    messages = λ m j i dir ep l.
        within_message roll v v' new f before k calm_new stay_here after Known houses
        (λ z jj at ez lz. let b = In-from_dir d (replay (start ++ past)).bag z at in w.messages z jj b.0 b.1 ez lz) m j
        (In-of_dir d (replay (start ++ (past ++ c ∷ []))).bag m i dir) ep l;
    told = λ m copy p i dir is ep at ep'.
        ⊎_elim (λ was. let b = In-from_dir d (replay (start ++ past)).bag m was in w.told m copy p b.0 dir is ep at ep')
        (λ (n : New roll v v' new m).
        let c_is : copy ≡ copy_of n.q = n.copied copy (ap copy_in is) in
        λ j l. subst (λ (z : Copy). In j z.history) (sym c_is) (grown m.sender p n.q at ep' n.held (n.epoch ∙ ep) j l))
        (f.posts m (In-of_dir d (replay (start ++ (past ++ c ∷ []))).bag m i dir));
    grown = grown;
  }
    where
      roll : Roll
      roll = roll_of d (start ++ late)

      v : View
      v = view d (replay (start ++ past))

      v' : View
      v' = view d (replay (start ++ (past ++ c ∷ [])))

      new : List Accepted
      new = (outcome (replay (start ++ past)) c).accepted

      f : Frame (roll_of d (start ++ late)) (view d (replay (start ++ past))) (view d (replay (start ++ (past ++ c ∷ []))))
          (outcome (replay (start ++ past)) c).accepted
      f = frame_at past left c e

      before : Sound (roll_of d (start ++ late)) (view d (replay (start ++ past)))
      before = sound_at past (c ∷ left) e

      after : Sound (roll_of d (start ++ late)) (view d (replay (start ++ (past ++ c ∷ []))))
      after = sound_at (past ++ c ∷ []) left (one_more past left late c e)

      calm_new : (a : Accepted) → In a (outcome (replay (start ++ past)) c).accepted → a.dir ≡ d → ⊥
      calm_new = quiet_at past left c e

      stay_here : (x s : ℕ) → Listed ((roll_of d (start ++ late)).list k) x s → (q : Replica) × Holds (view d (replay (start ++ past))) x q × (q.epoch ≡ k)
      stay_here = stay_at past (c ∷ left) e

      houses : (x : ℕ) (q : Replica) (j : Mark) → IsHeld (replay (start ++ (past ++ c ∷ []))) x d q → q.epoch ≡ k → In j q.history → Known j
      houses = within_house roll v v' new f before k calm_new stay_here after Known w.houses
          (λ z jj at ez lz. let b = In-from_dir d (replay (start ++ past)).bag z at in w.messages z jj b.0 b.1 ez lz)

      grown : (x : ℕ) (p q : Replica) → IsHeld (replay (start ++ [])) x d p → p.epoch ≡ k → IsHeld (replay (start ++ (past ++ c ∷ []))) x d q → q.epoch ≡ k
          → IsPart p.history q.history
      grown x p q at ep at' ep' =
          let ok = after.held x q at' in
          let here = stay_here x ok.listed.0 (subst (λ (z : ℕ). Listed ((roll_of d (start ++ late)).list z) x ok.listed.0) ep' ok.listed.1) in
          λ j i. grows_at past left c e x here.0 q here.1 here.2 at' ep' j (w.grown x p here.0 at ep here.1 here.2 j i)

  pub kept_run : (mid past left : List Command) → past ++ (mid ++ left) ≡ late → Kept past → Kept (past ++ mid)
  kept_run [] past left e w = subst (λ (l : List Command). Kept l) (sym (append_nil past)) w
  kept_run (c ∷ mid) past left e w =
      subst (λ (l : List Command). Kept l) (append_assoc past (c ∷ []) mid)
      (kept_run mid (past ++ c ∷ []) left (one_more past (mid ++ left) late c e) (kept_step past (mid ++ left) c e w))

  -- at each moment
  pub kept_at : (past left : List Command) → past ++ left ≡ late → Kept past
  kept_at past left e = kept_run past [] left e kept_first

  -- from any moment to the end no house forgets
  pub grows_on : (left past : List Command) → past ++ left ≡ late → (x : ℕ) (q q' : Replica) → is_listed x ((roll_of d (start ++ late)).list k) ≡ true
      → IsHeld (replay (start ++ past)) x d q → q.epoch ≡ k → IsHeld (replay (start ++ late)) x d q' → q'.epoch ≡ k → IsPart q.history q'.history
  grows_on [] past e x q q' l at ep at' ep' =
      let here = subst (λ (z : List Command). IsHeld (replay (start ++ z)) x d q) (sym (append_nil past) ∙ e) at in
      λ j i. subst (λ (z : Replica). In j z.history) (held_once (view d (replay (start ++ late))) x q q' here at') i
  grows_on (c ∷ left) past e x q q' l at ep at' ep' =
      let next = stay (past ++ c ∷ []) left (one_more past left late c e) x l in
      λ j i. grows_on left (past ++ c ∷ []) (one_more past left late c e) x next.0 q' l next.1 next.2 at' ep' j
      (grows_at past left c e x q next.0 at ep next.1 next.2 j i)

  -- what is known of any house of the list in a step
  staying : (past left : List Command) (c : Command) → past ++ c ∷ left ≡ late → (x : ℕ) (q q' : Replica) → IsHeld (replay (start ++ past)) x d q
      → q.epoch ≡ k → IsHeld (outcome (replay (start ++ past)) c).cell x d q' → q'.epoch ≡ k
      → Staying (replay (start ++ past)) (outcome (replay (start ++ past)) c).cell x d q q'
  staying past left c e x q q' at ep at' ep' =
      let g : Cell = replay (start ++ past) in
      let sound = sound_at past (c ∷ left) e in
      let ok = sound.held x q at in
      let fit = fit_at d (start ++ late) (start ++ past) (c ∷ left) (parts_of start past (c ∷ left) late e) in
      record {
        at = at;
        at' = at';
        epoch = ep ∙ sym ep';
        known = λ zero. sound.good.none x ok.listed.0
            (subst (λ (z : ℕ). Listed ((roll_of d (start ++ late)).list z) x ok.listed.0) (none_below zero ok.top) ok.listed.1);
        top = ok.top;
        next = λ le. fit.plain.unknown d le;
        joins = λ m ms copy i dir is.
            let law = sound.messages m (In-of_dir d g.bag m i dir) in
            let kind : (ms ≡ (roll_of d (start ++ late)).list m.epoch) × ((s : ℕ) × Listed ((roll_of d (start ++ late)).list m.epoch) m.receiver s) =
            subst (λ (b : Body). Kind (roll_of d (start ++ late)) m b) is law.kind in
            let le : kind.1.0 ≤ m.epoch = sound.good.order m.epoch m.receiver kind.1.0 law.top kind.1.1 in
            let is_since : since_in ms m.receiver 0 ≡ kind.1.0 = ap (λ (l : List Member). since_in l m.receiver 0) kind.0 ∙ kind.1.1.1 in
            subst (λ (z : ℕ). z ≤ m.epoch) (sym is_since) le;
      }
    where
      none_below : (replay (start ++ past)).top d ≡ 0 → q.epoch ≤ (replay (start ++ past)).top d → q.epoch ≡ 0
      none_below zero le = omega (arith, zero, le)

  -- from any moment to the end no AllUpTo falls
  pub raises_on : (left past : List Command) → past ++ left ≡ late → (x : ℕ) (q q' : Replica) → is_listed x ((roll_of d (start ++ late)).list k) ≡ true
      → IsHeld (replay (start ++ past)) x d q → q.epoch ≡ k → IsAllUpTo t q.all_up_to → IsHeld (replay (start ++ late)) x d q' → IsAllUpTo t q'.all_up_to
  raises_on [] past e x q q' l at ep low at' =
      let here = subst (λ (z : List Command). IsHeld (replay (start ++ z)) x d q) (sym (append_nil past) ∙ e) at in
      subst (λ (z : Replica). IsAllUpTo t z.all_up_to) (held_once (view d (replay (start ++ late))) x q q' here at') low
  raises_on (c ∷ left) past e x q q' l at ep low at' =
      let g : Cell = replay (start ++ past) in
      let next = stay (past ++ c ∷ []) left (one_more past left late c e) x l in
      let there = subst (λ (z : Cell). IsHeld z x d next.0) (cell_next start past c) next.1 in
      let low' = step_raises g (outcome g c).cell x d t q next.0 (place_of g c) (outcome g c).answer (outcome g c).accepted (outcome_steps g c)
      (staying past left c e x q next.0 at ep there next.2) low in
      raises_on left (past ++ c ∷ []) (one_more past left late c e) x next.0 q' l next.1 next.2 low' at'

-- ---- the skulk

module _ (early late : List Command) (h d : ℕ) (t : Stamp) (r : Replica) (b : Begins early h d t r)
    (calm : IsUndisturbed (early ++ commands.Skulk h d ∷ []) late h d r.epoch t) (fair : IsFair (early ++ commands.Skulk h d ∷ []) late d t)
    (stay_of : AllStay (early ++ commands.Skulk h d ∷ []) late d r.epoch r.members) (quiet : IsQuiet (early ++ commands.Skulk h d ∷ []) late d) where
  abbrev list : List Member
  list = (roll_of d ((early ++ commands.Skulk h d ∷ []) ++ late)).list r.epoch

  abbrev begins : Begun (replay early) (replay ((early ++ commands.Skulk h d ∷ []) ++ [])) h d t
  begins = endings.begins early late h d t r b calm

  epoch_0 : begins.replica.epoch ≡ r.epoch
  epoch_0 = endings.epoch_0 early late h d t r b calm

  members_0 : r.members ≡ list
  members_0 = endings.members_0 early late h d t r b calm

  stay : AllStay (early ++ commands.Skulk h d ∷ []) late d r.epoch list
  stay past left e x l = stay_of past left e x (subst (λ (z : List Member). is_listed x z ≡ true) (sym members_0) l)

  -- no answer of the first round is there at the start
  none : (m : Message) (copy : Copy) → In m (replay ((early ++ commands.Skulk h d ∷ []) ++ [])).bag → m.dir ≡ d → m.body ≡ Gathered t copy → ⊥
  none m copy i dir is =
      let new = endings.only_questions early late h d t r b calm m i dir (ap round_of is) in
      let z : Gather t ≡ Gathered t copy = sym new ∙ is in cc

  -- the cell after some of what follows
  kept : (past left : List Command) → past ++ left ≡ late
      → Kept (early ++ commands.Skulk h d ∷ []) late h d r.epoch t calm stay quiet none past
  kept past left e = kept_at (early ++ commands.Skulk h d ∷ []) late h d r.epoch t calm stay quiet none past left e

  abbrev KnownHere : Mark → Type 0
  KnownHere j = Known (early ++ commands.Skulk h d ∷ []) late h d r.epoch t calm stay quiet none j

  abbrev Step : List Command → Command → Phase → Type 0
  Step past c f = courses.Stepped (early ++ commands.Skulk h d ∷ []) late h d r.epoch t calm past c f

  abbrev after : List Command → Cell
  after past = replay ((early ++ commands.Skulk h d ∷ []) ++ past)

  -- a replica has all that the house had at the start
  abbrev HasOf : ℕ → Replica → Type 0
  HasOf y q =
      (p : Replica) → IsHeld (replay ((early ++ commands.Skulk h d ∷ []) ++ [])) y d p → p.epoch ≡ r.epoch → IsPart p.history q.history

  -- a replica has all that any house had, and so has the master
  abbrev HasAll : List Command → Replica → Type 0
  HasAll past full =
      ((j : Mark) → KnownHere j → In j full.history)
      × ((q : Replica) → IsHeld (replay ((early ++ commands.Skulk h d ∷ []) ++ past)) h d q → q.epoch ≡ r.epoch → (j : Mark) → KnownHere j → In j q.history)

  -- what the master holds after a step
  held_after : (past left : List Command) (c : Command) (f : Phase) → past ++ c ∷ left ≡ late → (s : Step past c f)
      → IsHeld (replay ((early ++ commands.Skulk h d ∷ []) ++ (past ++ c ∷ []))) h d s.after
  held_after past left c f e s =
      subst (λ (g : Cell). IsHeld g h d s.after)
      (sym (cell_next (early ++ commands.Skulk h d ∷ []) past c)) s.at'

  hearing : (past left : List Command) (c : Command) (f : Phase) → past ++ c ∷ left ≡ late → running_skulk_stamp f ≡ Some t → (s : Step past c f) → (y : ℕ)
      → Hears (replay ((early ++ commands.Skulk h d ∷ []) ++ past)) d t y s.after → HasOf y s.after
  hearing past left c f e run s y w p at ep j i =
      let reach = courses.reached (early ++ commands.Skulk h d ∷ []) late h d r.epoch t calm past (c ∷ left) e in
      let own = (reach.sound.held h s.before s.at).own t (ap running_skulk_stamp s.phase ∙ run) w.message
      (In-of_dir d (replay ((early ++ commands.Skulk h d ∷ []) ++ past)).bag w.message w.posted w.dir) (ap round_of w.body) in
      let at' = subst (λ (z : ℕ). IsHeld (replay ((early ++ commands.Skulk h d ∷ []) ++ [])) z d p) (sym w.sender) at in
      w.part j ((kept past (c ∷ left) e).told w.message w.copy p w.posted w.dir w.body (own ∙ s.epoch) at' ep j i)

  keeping : (past left : List Command) (c : Command) (f : Phase) → past ++ c ∷ left ≡ late → (s : Step past c f) → (y : ℕ) → HasOf y s.before → HasOf y s.after
  keeping past left c f e s y q p at ep j i =
      grows_at (early ++ commands.Skulk h d ∷ []) late h d r.epoch t calm stay quiet none past left c e h s.before s.after s.at s.epoch
      (held_after past left c f e s) s.epoch' j (q p at ep j i)

  filling : (past left : List Command) (c : Command) (f : Phase) → past ++ c ∷ left ≡ late → (s : Step past c f)
      → ((y : ℕ) → In y (others_of h list) → HasOf y s.after) → HasAll (past ++ c ∷ []) s.after
  filling past left c f e s all = (
    full,
    λ q at ep j known.
        let same = held_once (view d (replay ((early ++ commands.Skulk h d ∷ []) ++ (past ++ c ∷ [])))) h s.after q (held_after past left c f e s) at in
        subst (λ (z : Replica). In j z.history) same (full j known),
  )
    where
      full : (j : Mark) → KnownHere j → In j s.after.history
      full j known =
          let reach = courses.reached (early ++ commands.Skulk h d ∷ []) late h d r.epoch t calm [] late refl in
          let ok = reach.sound.held known.house known.replica known.held in
          let l = subst (λ (z : ℕ). is_listed known.house ((roll_of d ((early ++ commands.Skulk h d ∷ []) ++ late)).list z) ≡ true) known.epoch ok.listed.1.0 in
          ⊎_elim
          (λ (i : known.house ≡ h).
          (kept (past ++ c ∷ []) left (append_assoc past (c ∷ []) left ∙ e)).grown h known.replica s.after
          (subst (λ (z : ℕ). IsHeld (replay ((early ++ commands.Skulk h d ∷ []) ++ [])) z d known.replica) i known.held) known.epoch
          (held_after past left c f e s) s.epoch' j known.has_it)
          (λ (i : In known.house (others_of h list)). all known.house i known.replica known.held known.epoch j known.has_it)
          (listed_or known.house h list l)

  lasting : (past left : List Command) (c : Command) → past ++ c ∷ left ≡ late → (full : Replica) → HasAll past full → HasAll (past ++ c ∷ []) full
  lasting past left c e full w = (
    w.0,
    λ q at ep j known.
        let here = calm past (c ∷ left) e in
        grows_at (early ++ commands.Skulk h d ∷ []) late h d r.epoch t calm stay quiet none past left c e h here.replica q here.held here.epoch at ep j
        (w.1 here.replica here.held here.epoch j known),
  )

  other : In begins.another (others_of h list)
  other = endings.other early late h d t r b calm

  replies : (y : ℕ) → In y (others_of h list) → Reply (early ++ commands.Skulk h d ∷ []) late h d r.epoch t y
  replies y i =
      letters.reply_of (early ++ commands.Skulk h d ∷ []) late h d r.epoch t calm fair y (endings.questions early late h d t r b calm y i)

  acks : (full : Replica) → courses.AreAsked (early ++ commands.Skulk h d ∷ []) late h d r.epoch t calm begins.another other late full → (y : ℕ)
      → In y (others_of h list) → Ack (early ++ commands.Skulk h d ∷ []) late h d r.epoch t y
  acks full asked y i = letters.ack_of (early ++ commands.Skulk h d ∷ []) late h d r.epoch t calm fair full y (asked y i)

  end : endings.Finished (early ++ commands.Skulk h d ∷ []) late h d r.epoch t calm begins.another other HasOf HasAll hearing keeping filling lasting
      (replay early) begins epoch_0 replies acks
  end = endings.finished (early ++ commands.Skulk h d ∷ []) late h d r.epoch t calm begins.another other HasOf HasAll hearing keeping filling lasting
      (replay early) begins epoch_0 replies acks

  -- at the end each house of the list has every mark that any of them had
  full_at : (x : ℕ) (p : Replica) → is_listed x list ≡ true → IsHeld (replay ((early ++ commands.Skulk h d ∷ []) ++ late)) x d p → p.epoch ≡ r.epoch
      → (j : Mark) → KnownHere j → In j p.history
  full_at x p l at ep j known =
      ⊎_elim (λ (e : x ≡ h). end.has_all.1 p (subst (λ (z : ℕ). IsHeld (replay ((early ++ commands.Skulk h d ∷ []) ++ late)) z d p) e at) ep j known)
      (λ i. by_question (end.asked x i)) (listed_or x h list l)
    where
      by_question : Asked (replay ((early ++ commands.Skulk h d ∷ []) ++ late)) h d r.epoch t x end.full → In j p.history
      by_question ask =
          let w : IsDelivered (early ++ commands.Skulk h d ∷ []) late ask.message = fair ask.message ask.posted ask.dir (ap round_of ask.body) in
          let now = letters.spread_after (early ++ commands.Skulk h d ∷ []) late h d r.epoch t calm fair ask.message ask.copy ask.dir ask.sender ask.epoch ask.body w in
          let here = subst (λ (z : ℕ). IsHeld (replay ((early ++ commands.Skulk h d ∷ []) ++ (w.past ++ commands.Deliver w.serial ∷ []))) z d now.0)
          ask.receiver now.1 in
          grows_on (early ++ commands.Skulk h d ∷ []) late h d r.epoch t calm stay quiet none w.left (w.past ++ commands.Deliver w.serial ∷ [])
          (append_assoc w.past (commands.Deliver w.serial ∷ []) w.left ∙ w.parts) x now.0 p l here now.2 at ep j (now.3 j (ask.whole j (end.has_all.0 j known)))

  -- a house of the list is in the epoch at the end
  epoch_at : (x : ℕ) (p : Replica) → is_listed x list ≡ true → IsHeld (replay ((early ++ commands.Skulk h d ∷ []) ++ late)) x d p → p.epoch ≡ r.epoch
  epoch_at x p l at =
      let q = stay late [] (append_nil late) x l in
      ap (λ (z : Replica). z.epoch) (held_once (view d (replay ((early ++ commands.Skulk h d ∷ []) ++ late))) x p q.0 at q.1) ∙ q.2

  -- the AllUpTo of each is the stamp or later: the master's since it completed the skulk, that of
  -- another since it learned that
  up_to_at : (x : ℕ) (p : Replica) → is_listed x list ≡ true → IsHeld (replay ((early ++ commands.Skulk h d ∷ []) ++ late)) x d p → IsAllUpTo t p.all_up_to
  up_to_at x p l at = ⊎_elim (λ (e : x ≡ h). of_master e) (λ i. of_member (end.over.told x i)) (listed_or x h list l)
    where
      of_master : x ≡ h → IsAllUpTo t p.all_up_to
      of_master e =
          let o = end.over in
          raises_on (early ++ commands.Skulk h d ∷ []) late h d r.epoch t calm stay quiet none o.rest (o.early ++ commands.Deliver o.serial ∷ [])
          (append_assoc o.early (commands.Deliver o.serial ∷ []) o.rest ∙ o.parts) x o.replica p l
          (subst (λ (z : ℕ). IsHeld (replay ((early ++ commands.Skulk h d ∷ []) ++ (o.early ++ commands.Deliver o.serial ∷ []))) z d o.replica) (sym e) o.held)
          o.epoch o.up_to at

      of_member : Told (replay ((early ++ commands.Skulk h d ∷ []) ++ late)) h d r.epoch t x → IsAllUpTo t p.all_up_to
      of_member told =
          let w : IsDelivered (early ++ commands.Skulk h d ∷ []) late told.message = fair told.message told.posted told.dir (ap round_of told.body) in
          let now = letters.advance_after (early ++ commands.Skulk h d ∷ []) late h d r.epoch t calm fair told.message told.dir told.sender told.epoch told.body w in
          let here = subst (λ (z : ℕ). IsHeld (replay ((early ++ commands.Skulk h d ∷ []) ++ (w.past ++ commands.Deliver w.serial ∷ []))) z d now.0)
          told.receiver now.1 in
          raises_on (early ++ commands.Skulk h d ∷ []) late h d r.epoch t calm stay quiet none w.left (w.past ++ commands.Deliver w.serial ∷ [])
          (append_assoc w.past (commands.Deliver w.serial ∷ []) w.left ∙ w.parts) x now.0 p l here now.2 now.3 at

  pub converged_at : (x y : ℕ) (p q : Replica) → is_listed x r.members ≡ true → is_listed y r.members ≡ true
      → IsHeld (replay ((early ++ commands.Skulk h d ∷ []) ++ late)) x d p → IsHeld (replay ((early ++ commands.Skulk h d ∷ []) ++ late)) y d q
      → HaveConverged t p q
  converged_at x y p q lx ly at at' =
      let lx' = subst (λ (z : List Member). is_listed x z ≡ true) members_0 lx in
      let ly' = subst (λ (z : List Member). is_listed y z ≡ true) members_0 ly in
      let ep = epoch_at x p lx' at in
      let ep' = epoch_at y q ly' at' in
      let all = kept late [] (append_nil late) in
      let there = λ (j : Mark) (i : In j p.history). full_at y q ly' at' ep' j (all.houses x p j at ep i) in
      let back = λ (j : Mark) (i : In j q.history). full_at x p lx' at ep j (all.houses y q j at' ep' i) in
      record {
        marks = λ j. (there j, back j);
        shown = λ n. same_shown p.history q.history n there back;
        first = up_to_at x p lx' at;
        second = up_to_at y q ly' at';
      }

-- of any list of commands
pub cells_converge_lem : (early late : List Command) → CellsConverge early late
cells_converge_lem early late h d t r b calm fair stay quiet x y p q lx ly at at' =
    converged_at early late h d t r b calm fair stay quiet x y p q lx ly at at'
