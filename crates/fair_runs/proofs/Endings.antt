-- A skulk whose messages are delivered is complete.
use Rattle.std.proofs.Common.{◌≡◌, ℕ, ◌⊎◌, inl, inr, Bool, true, false, ◌&&◌, cond, List, [], ◌∷◌, ◌++◌, Some, refl, sym, ap, ◌∙◌, subst, ⊎_elim}
use Rattle.std.proofs.Common.{eqb, ◌||◌, ◌≤◌, ◌<◌, arith, append_assoc}
use Rattle.cds_stamps.specs.declared.stamp.Stamp.{Stamp}
use Rattle.cds_stamps.specs.Members.{Member, others_of, is_listed}
use Rattle.cell_model.specs.Bodies.{round_of}
use Rattle.cell_model.specs.Cells.{Phase, Idle, Gathering, Spreading, Replica, Held, Copy, Body, Gather, Gathered, Spread, SpreadAck, Advance, Message, Cell, IsHeld, empty_cell}
use Rattle.cell_model.specs.Commands as commands
use Rattle.cell_model.specs.Commands.{Command, Complete}
use Rattle.cell_model.specs.Completions.{CompletesBy, with_last, IsLastAck}
use Rattle.cell_model.specs.Sets.{In, has}
use Rattle.cell_model.specs.Turns.{running_skulk_stamp, copy_of, merge_copy, later_up_to, takes, take_and_answer, to_others, floor_after, all_answered}
use Rattle.cell_model.specs.Steps.{at_house, outcome, replay}
use Rattle.cell_model.proofs.Lists.{has-from_In, append_nil}
use Rattle.cell_model.proofs.Terms.{In-others_of}
use Rattle.cell_model.proofs.Facts.{view}
use Rattle.cell_model.proofs.Views.{In-of_dir}
use Rattle.cell_model.proofs.Moves.{message_posted}
use Rattle.cell_model.proofs.Completing.{answers_lem}
use Rattle.cell_model.proofs.Passages.{slot_after}
use Rattle.cell_model.proofs.Rounds.{Round}
use Rattle.cell_model.proofs.Rows.{Own}
use Rattle.cell_model.proofs.Runs.{replay-append, roll_of, reaching_at}
use Rattle.fair_runs.specs.Fairness.{Begins, IsUndisturbed, IsDelivered, IsComplete, SkulksEnd}
use Rattle.fair_runs.proofs.Phases.{Asked, Hears}
use Rattle.fair_runs.proofs.Takes.{gathered_take, ack_take, delivered}
use Rattle.fair_runs.proofs.Begun.{Begun, Questioned, begun}
use Rattle.fair_runs.proofs.Prefixes.{one_more, cell_next}
use Rattle.fair_runs.proofs.Courses as courses
use Rattle.fair_runs.proofs.Letters as letters
use Rattle.fair_runs.proofs.Letters.{Reply, Ack}

-- all of these answered
answered_to : (xs a : List ℕ) → ((x : ℕ) → In x xs → In x a) → all_answered xs a ≡ true
answered_to [] a all = refl
answered_to (x ∷ xs) a all =
    ap (λ (b : Bool). b && all_answered xs a) (has-from_In x a (all x (inl refl))) ∙ answered_to xs a (λ y i. all y (inr i))

-- each of these is there, or what all want
all_or : (xs a : List ℕ) (W : Type 0) → ((x : ℕ) → In x xs → In x a ⊎ W) → ((x : ℕ) → In x xs → In x a) ⊎ W
all_or [] a W each = inl (λ x i. elim i [ ])
all_or (x ∷ xs) a W each = by_first (each x (inl refl)) (all_or xs a W (λ y i. each y (inr i)))
  where
    by_first : In x a ⊎ W → ((y : ℕ) → In y xs → In y a) ⊎ W → ((y : ℕ) → In y (x ∷ xs) → In y a) ⊎ W
    by_first (inr w) rest = inr w
    by_first (inl i) (inr w) = inr w
    by_first (inl i) (inl rest) = inl (λ y j. ⊎_elim (λ (e : y ≡ x). subst (λ (z : ℕ). In z a) (sym e) i) (λ z. rest y z) j)

module _ (start late : List Command) (h d k : ℕ) (t : Stamp) (calm : IsUndisturbed start late h d k t) (another : ℕ)
    (other : In another (others_of h ((roll_of d (start ++ late)).list k))) (Q : ℕ → Replica → Type 0) (P : List Command → Replica → Type 0)
    (hearing : (past left : List Command) (c : Command) (f : Phase) → past ++ c ∷ left ≡ late → running_skulk_stamp f ≡ Some t → (s : courses.Stepped start late h d k t calm past c f)
    → (y : ℕ) → Hears (replay (start ++ past)) d t y s.after → Q y s.after)
    (keeping : (past left : List Command) (c : Command) (f : Phase) → past ++ c ∷ left ≡ late → (s : courses.Stepped start late h d k t calm past c f)
    → (y : ℕ) → Q y s.before → Q y s.after)
    (filling : (past left : List Command) (c : Command) (f : Phase) → past ++ c ∷ left ≡ late → (s : courses.Stepped start late h d k t calm past c f)
    → ((y : ℕ) → In y (others_of h ((roll_of d (start ++ late)).list k)) → Q y s.after) → P (past ++ c ∷ []) s.after)
    (lasting : (past left : List Command) (c : Command) → past ++ c ∷ left ≡ late → (full : Replica) → P past full → P (past ++ c ∷ []) full) where
  abbrev At : List Command → Phase → Type 0
  At past f = courses.At start late h d k t calm past f

  -- how far the skulk is
  abbrev Stage : List Command → Type 0
  Stage past = courses.Stage start late h d k t calm another other Q P hearing keeping filling lasting (λ a. Unit {0}) (λ a. Unit {0}) past

  -- and the house was heard in the first round
  abbrev Heard : List Command → ℕ → Type 0
  Heard past y = courses.Stage start late h d k t calm another other Q P hearing keeping filling lasting (λ a. In y a) (λ a. Unit {0}) past

  -- and the first round is over, and the house was heard in the second
  abbrev HeardTwice : List Command → ℕ → Type 0
  HeardTwice past y = courses.Stage start late h d k t calm another other Q P hearing keeping filling lasting (λ a. ⊥) (λ a. In y a) past

  abbrev others : List ℕ
  others = others_of h ((roll_of d (start ++ late)).list k)

  -- what the master holds after a delivery
  at_after : (past : List Command) (n : ℕ) (z : Message) (R : Replica) (posts : List Message) (answer : List ℕ → commands.Answer)
      → outcome (replay (start ++ past)) (commands.Deliver n)
      ≡ at_house (replay (start ++ past)) z.receiver (takes ((replay (start ++ past)).house z.receiver) z (Held R) posts answer) → z.receiver ≡ h → z.dir ≡ d
      → R.epoch ≡ k → At (past ++ commands.Deliver n ∷ []) R.phase
  at_after past n z R posts answer e to dir epoch =
      let g : Cell = replay (start ++ past) in
      let held = subst (λ (c : Cell). IsHeld c z.receiver z.dir R) (ap (λ o. o.cell) (sym e))
      (slot_after g z.receiver z.dir (floor_after (g.house z.receiver) z) (Held R)) in
      let held' = subst (λ (x : ℕ). IsHeld (outcome g (commands.Deliver n)).cell x d R) to
      (subst (λ (x : ℕ). IsHeld (outcome g (commands.Deliver n)).cell z.receiver x R) dir held) in
      record {
        replica = R;
        held = subst (λ (c : Cell). IsHeld c h d R) (sym (cell_next start past (commands.Deliver n))) held';
        epoch = epoch;
        phase = refl;
      }

  -- an answer, as its master takes it
  own_at : (past left : List Command) (e : past ++ left ≡ late) (f : Phase) (a : At past f) (z : Message) (b : Body) (y : ℕ)
      → In y (others_of h ((roll_of d (start ++ late)).list k)) → z.dir ≡ d → z.receiver ≡ h → z.sender ≡ y → z.epoch ≡ k → z.body ≡ b
      → Own ((replay (start ++ past)).house z.receiver) z b a.replica
  own_at past left e f a z b y i dir to from epoch body =
      let g : Cell = replay (start ++ past) in
      let list = courses.listed start late h d k t calm past left e h a.replica a.held a.epoch in
      record {
        is = body;
        held = ap (λ (x : ℕ). (g.house x).slots z.dir) to ∙ ap (g.house h).slots dir ∙ a.held;
        epoch = epoch ∙ sym a.epoch;
        member = ap (λ (v : ℕ). is_listed v a.replica.members) from ∙ ap (is_listed y) list ∙ (In-others_of y h ((roll_of d (start ++ late)).list k) i).1;
      }

  module _ (was : Cell) (begun : Begun was (replay (start ++ [])) h d t) (epoch_0 : begun.replica.epoch ≡ k)
      (gathered : (y : ℕ) → In y (others_of h ((roll_of d (start ++ late)).list k)) → Reply start late h d k t y)
      (acked : (full : Replica) → courses.AreAsked start late h d k t calm another other late full → (y : ℕ)
      → In y (others_of h ((roll_of d (start ++ late)).list k)) → Ack start late h d k t y) where
    at_0 : Stage []
    at_0 = courses.first []
        (record { replica = begun.replica; held = begun.held; epoch = epoch_0; phase = begun.phase })
        (courses.at_first start late h d k t calm another other) (λ y i. elim i [ ]) tt

    stage_step : (past left : List Command) (c : Command) → past ++ c ∷ left ≡ late → Stage past → Stage (past ++ c ∷ [])
    stage_step past left c e s =
        courses.stage_step start late h d k t calm another other Q P hearing keeping filling lasting (λ a. Unit {0}) (λ a. Unit {0}) (λ y a w. tt) (λ a w. tt) (λ y a w. tt) past left c e s

    -- what was heard stays so
    heard_on : (left past : List Command) (y : ℕ) → past ++ left ≡ late → Heard past y → Heard late y
    heard_on left past y e w =
        subst (λ (l : List Command). Heard l y) e
        (courses.stage_run start late h d k t calm another other Q P hearing keeping filling lasting (λ a. In y a) (λ a. Unit {0}) (λ z a i. inr i) (λ a i. tt) (λ z a i. tt) left past []
        (ap (λ (l : List Command). past ++ l) (append_nil left) ∙ e) w)

    twice_on : (left past : List Command) (y : ℕ) → past ++ left ≡ late → HeardTwice past y → HeardTwice late y
    twice_on left past y e w =
        subst (λ (l : List Command). HeardTwice l y) e
        (courses.stage_run start late h d k t calm another other Q P hearing keeping filling lasting (λ a. ⊥) (λ a. In y a) (λ z a i. i) (λ a i. elim i [ ]) (λ z a i. inr i) left past []
        (ap (λ (l : List Command). past ++ l) (append_nil left) ∙ e) w)

    -- two phases at one moment
    one : (past : List Command) (f f' : Phase) → At past f → At past f' → f ≡ f'
    one past f f' a b = courses.one_phase start late h d k t calm past f f' a b

    stage_at : (past left : List Command) → past ++ left ≡ late → Stage past
    stage_at past left e = courses.stage_run start late h d k t calm another other Q P hearing keeping filling lasting (λ a. Unit {0}) (λ a. Unit {0}) (λ y a w. tt) (λ a w. tt) (λ y a w. tt) past [] left e at_0

    -- the answer of the first round is heard
    hears : (z : Message) (copy : Copy) (y : ℕ) → In y others → z.dir ≡ d → z.receiver ≡ h → z.sender ≡ y → z.epoch ≡ k → z.body ≡ Gathered t copy
        → IsDelivered start late z → Heard late y
    hears z copy y i dir to from epoch body w = by_stage (stage_at w.past (commands.Deliver w.serial ∷ w.left) w.parts)
      where
        e_next : (w.past ++ commands.Deliver w.serial ∷ []) ++ w.left ≡ late
        e_next = one_more w.past w.left late (commands.Deliver w.serial) w.parts

        -- where the second round has begun
        in_second : At (w.past ++ commands.Deliver w.serial ∷ []) (Spreading t []) → Stage (w.past ++ commands.Deliver w.serial ∷ [])
            → Heard (w.past ++ commands.Deliver w.serial ∷ []) y
        in_second at (courses.first b at' some noted _) =
            let p = one (w.past ++ commands.Deliver w.serial ∷ []) (Spreading t []) (Gathering t b) at at' in absurd (cc)
        in_second at (courses.second b at' some full has_all asked _) = courses.second b at' some full has_all asked tt
        in_second at (courses.over o full has_all asked) = courses.over o full has_all asked

        -- where the first goes on
        in_first : (a : List ℕ) → In y a → At (w.past ++ commands.Deliver w.serial ∷ []) (Gathering t a) → Stage (w.past ++ commands.Deliver w.serial ∷ [])
            → Heard (w.past ++ commands.Deliver w.serial ∷ []) y
        in_first a it at (courses.first b at' some noted _) =
            let p = one (w.past ++ commands.Deliver w.serial ∷ []) (Gathering t a) (Gathering t b) at at' in
            let l : a ≡ b = cc in courses.first b at' some noted (subst (λ (x : List ℕ). In y x) l it)
        in_first a it at (courses.second b at' some full has_all asked _) = courses.second b at' some full has_all asked tt
        in_first a it at (courses.over o full has_all asked) = courses.over o full has_all asked

        by_all : Stage w.past → (b : List ℕ) (at : At w.past (Gathering t b)) (c : Bool)
            → outcome (replay (start ++ w.past)) (commands.Deliver w.serial)
            ≡ at_house (replay (start ++ w.past)) z.receiver
            (cond c
            (take_and_answer ((replay (start ++ w.past)).house z.receiver) z (Held (record (merge_copy at.replica copy) { phase = Spreading t [] }))
            (to_others ((replay (start ++ w.past)).house z.receiver) z at.replica (Spread t (copy_of (merge_copy at.replica copy)))))
            (take_and_answer ((replay (start ++ w.past)).house z.receiver) z (Held (record (merge_copy at.replica copy) { phase = Gathering t (z.sender ∷ b) }))
            []))
            → Heard late y
        by_all s b at true e =
            heard_on w.left (w.past ++ commands.Deliver w.serial ∷ []) y e_next
            (in_second (at_after w.past w.serial z (record (merge_copy at.replica copy) { phase = Spreading t [] })
            (to_others ((replay (start ++ w.past)).house z.receiver) z at.replica (Spread t (copy_of (merge_copy at.replica copy)))) commands.Taken e to dir
            at.epoch) (stage_step w.past w.left (commands.Deliver w.serial) w.parts s))
        by_all s b at false e =
            heard_on w.left (w.past ++ commands.Deliver w.serial ∷ []) y e_next
            (in_first (z.sender ∷ b) (inl (sym from))
            (at_after w.past w.serial z (record (merge_copy at.replica copy) { phase = Gathering t (z.sender ∷ b) }) [] commands.Taken e to dir at.epoch)
            (stage_step w.past w.left (commands.Deliver w.serial) w.parts s))

        by_stage : Stage w.past → Heard late y
        by_stage (courses.second b at some full has_all asked _) =
            heard_on (commands.Deliver w.serial ∷ w.left) w.past y w.parts (courses.second b at some full has_all asked tt)
        by_stage (courses.over o full has_all asked) =
            heard_on (commands.Deliver w.serial ∷ w.left) w.past y w.parts (courses.over o full has_all asked)
        by_stage (courses.first b at some noted _) =
            by_all (courses.first b at some noted tt) b at (all_answered (others_of z.receiver at.replica.members) (z.sender ∷ b))
            (delivered (replay (start ++ w.past)) w.serial z _ w.message w.up (gathered_take ((replay (start ++ w.past)).house z.receiver) z t copy b at.replica
            (own_at w.past (commands.Deliver w.serial ∷ w.left) w.parts (Gathering t b) at z (Gathered t copy) y i dir to from epoch body) at.phase))

    -- so is each other member
    heard_first : (y : ℕ) → In y others → Heard late y
    heard_first y i = let z = gathered y i in hears z.letter z.copy y i z.dir z.receiver z.sender z.epoch z.body z.arrives

    -- the answer of the second round is heard
    hears_twice : (z : Message) (y : ℕ) → In y others → z.dir ≡ d → z.receiver ≡ h → z.sender ≡ y → z.epoch ≡ k → z.body ≡ SpreadAck t
        → IsDelivered start late z → HeardTwice late y
    hears_twice z y i dir to from epoch body w = by_stage (stage_at w.past (commands.Deliver w.serial ∷ w.left) w.parts)
      where
        e_next : (w.past ++ commands.Deliver w.serial ∷ []) ++ w.left ≡ late
        e_next = one_more w.past w.left late (commands.Deliver w.serial) w.parts

        -- where no round runs any more
        in_none : At (w.past ++ commands.Deliver w.serial ∷ []) Idle → Stage (w.past ++ commands.Deliver w.serial ∷ [])
            → HeardTwice (w.past ++ commands.Deliver w.serial ∷ []) y
        in_none at (courses.first b at' some noted _) =
            let p = one (w.past ++ commands.Deliver w.serial ∷ []) Idle (Gathering t b) at at' in absurd (cc)
        in_none at (courses.second b at' some full has_all asked _) =
            let p = one (w.past ++ commands.Deliver w.serial ∷ []) Idle (Spreading t b) at at' in absurd (cc)
        in_none at (courses.over o full has_all asked) = courses.over o full has_all asked

        -- where the second goes on
        in_second : (a : List ℕ) → In y a → At (w.past ++ commands.Deliver w.serial ∷ []) (Spreading t a) → Stage (w.past ++ commands.Deliver w.serial ∷ [])
            → HeardTwice (w.past ++ commands.Deliver w.serial ∷ []) y
        in_second a it at (courses.first b at' some noted _) =
            let p = one (w.past ++ commands.Deliver w.serial ∷ []) (Spreading t a) (Gathering t b) at at' in absurd (cc)
        in_second a it at (courses.second b at' some full has_all asked _) =
            let p = one (w.past ++ commands.Deliver w.serial ∷ []) (Spreading t a) (Spreading t b) at at' in
            let l : a ≡ b = cc in courses.second b at' some full has_all asked (subst (λ (x : List ℕ). In y x) l it)
        in_second a it at (courses.over o full has_all asked) = courses.over o full has_all asked

        by_all : Stage w.past → (b : List ℕ) (at : At w.past (Spreading t b)) (c : Bool)
            → outcome (replay (start ++ w.past)) (commands.Deliver w.serial)
            ≡ at_house (replay (start ++ w.past)) z.receiver
            (cond c
            (takes ((replay (start ++ w.past)).house z.receiver) z
            (Held (record at.replica { all_up_to = later_up_to at.replica.all_up_to t; phase = Idle }))
            (to_others ((replay (start ++ w.past)).house z.receiver) z at.replica (Advance t)) (Complete t))
            (take_and_answer ((replay (start ++ w.past)).house z.receiver) z (Held (record at.replica { phase = Spreading t (z.sender ∷ b) })) []))
            → HeardTwice late y
        by_all s b at true e =
            twice_on w.left (w.past ++ commands.Deliver w.serial ∷ []) y e_next
            (in_none (at_after w.past w.serial z (record at.replica { all_up_to = later_up_to at.replica.all_up_to t; phase = Idle })
            (to_others ((replay (start ++ w.past)).house z.receiver) z at.replica (Advance t)) (Complete t) e to dir at.epoch)
            (stage_step w.past w.left (commands.Deliver w.serial) w.parts s))
        by_all s b at false e =
            twice_on w.left (w.past ++ commands.Deliver w.serial ∷ []) y e_next
            (in_second (z.sender ∷ b) (inl (sym from))
            (at_after w.past w.serial z (record at.replica { phase = Spreading t (z.sender ∷ b) }) [] commands.Taken e to dir at.epoch)
            (stage_step w.past w.left (commands.Deliver w.serial) w.parts s))

        -- no answer of the second round is posted in the first
        too_early : (b : List ℕ) → At w.past (Gathering t b) → ⊥
        too_early b at =
            let g : Cell = replay (start ++ w.past) in
            let reach = courses.reached start late h d k t calm w.past (commands.Deliver w.serial ∷ w.left) w.parts in
            let posted : In z g.bag = message_posted g w.serial ((eqb w.serial 0) || has w.serial g.lost) z w.message in
            let round = subst (λ (p : Phase). Round (roll_of d (start ++ late)) (view d g) h at.replica p) at.phase (reach.rounds h at.replica at.held) in
            round.no_ack z (In-of_dir d g.bag z posted dir) body

        by_stage : Stage w.past → HeardTwice late y
        by_stage (courses.first b at some noted _) = elim (too_early b at) [ ]
        by_stage (courses.over o full has_all asked) =
            twice_on (commands.Deliver w.serial ∷ w.left) w.past y w.parts (courses.over o full has_all asked)
        by_stage (courses.second b at some full has_all asked _) =
            by_all (courses.second b at some full has_all asked tt) b at (all_answered (others_of z.receiver at.replica.members) (z.sender ∷ b))
            (delivered (replay (start ++ w.past)) w.serial z _ w.message w.up (ack_take ((replay (start ++ w.past)).house z.receiver) z t b at.replica
            (own_at w.past (commands.Deliver w.serial ∷ w.left) w.parts (Spreading t b) at z (SpreadAck t) y i dir to from epoch body) at.phase))

    -- so is each other member, if the second round runs at the end
    heard_second : (full : Replica) → ((x : ℕ) → In x others → Asked (replay (start ++ late)) h d k t x full) → (y : ℕ) → In y others → HeardTwice late y
    heard_second full asked y i = let z = acked full asked y i in hears_twice z.letter y i z.dir z.receiver z.sender z.epoch z.body z.arrives

    -- the skulk is complete, and each other member was asked with what the master had once all were
    -- heard
    pub record Finished : Type 0 where
      pub over : courses.Over start late h d k t calm late
      pub full : Replica
      pub has_all : P late full
      pub asked : courses.AreAsked start late h d k t calm another other late full

    -- who was heard is noted in the round that runs at the end
    noted_first : (a : List ℕ) → At late (Gathering t a) → (y : ℕ) → Heard late y → In y a ⊎ Finished
    noted_first a at y (courses.first b at' some noted i) =
        let p = one late (Gathering t b) (Gathering t a) at' at in
        let l : b ≡ a = cc in inl (subst (λ (x : List ℕ). In y x) l i)
    noted_first a at y (courses.second b at' some full has_all asked _) =
        let p = one late (Spreading t b) (Gathering t a) at' at in absurd (cc)
    noted_first a at y (courses.over o full has_all asked) = inr (record { over = o; full = full; has_all = has_all; asked = asked })

    noted_second : (a : List ℕ) → At late (Spreading t a) → (y : ℕ) → HeardTwice late y → In y a ⊎ Finished
    noted_second a at y (courses.first b at' some noted i) = elim i [ ]
    noted_second a at y (courses.second b at' some full has_all asked i) =
        let p = one late (Spreading t b) (Spreading t a) at' at in
        let l : b ≡ a = cc in inl (subst (λ (x : List ℕ). In y x) l i)
    noted_second a at y (courses.over o full has_all asked) = inr (record { over = o; full = full; has_all = has_all; asked = asked })

    -- so it is at the end
    pub finished : Finished
    finished = by_stage (stage_at late [] (append_nil late))
      where
        not_all : (a : List ℕ) → all_answered others a ≡ false → ((y : ℕ) → In y others → In y a) ⊎ Finished → Finished
        not_all a some (inr o) = o
        not_all a some (inl all) = let e : false ≡ true = sym some ∙ answered_to others a all in absurd (cc)

        by_stage : Stage late → Finished
        by_stage (courses.over o full has_all asked) = record { over = o; full = full; has_all = has_all; asked = asked }
        by_stage (courses.first a at some noted _) = not_all a some (all_or others a Finished (λ y i. noted_first a at y (heard_first y i)))
        by_stage (courses.second a at some full has_all asked _) =
            not_all a some (all_or others a Finished (λ y i. noted_second a at y (heard_second full asked y i)))

    -- the delivery that ends it brings the last answer
    last_of : (past : List Command) (n : ℕ) → CompletesBy (replay (start ++ past)) t (commands.Deliver n) → IsLastAck (replay (start ++ past)) n t
    last_of past n (with_last _ last) = last

    pub complete : IsComplete start late h d t
    complete =
        let o = finished.over in
        record {
          past = o.early;
          serial = o.serial;
          left = o.rest;
          parts = o.parts;
          serials = o.serials;
          place = o.place;
          answer = o.answer;
          last = last_of o.early o.serial ((answers_lem (start ++ o.early) (commands.Deliver o.serial)).completes t o.serials o.answer);
        }

-- a skulk that is answered with its stamp has begun
pub begins_at : (early : List Command) (h d : ℕ) (t : Stamp) (r : Replica) → Begins early h d t r
    → Begun (replay early) (replay ((early ++ commands.Skulk h d ∷ []) ++ [])) h d t
begins_at early h d t r b =
    subst (λ (g : Cell). Begun (replay early) g h d t)
    (sym (replay-append early (commands.Skulk h d ∷ []) empty_cell) ∙ ap replay (sym (append_nil (early ++ commands.Skulk h d ∷ []))))
    (begun (replay early) h d t b.serials b.answer)

-- ---- from the start on

module _ (early late : List Command) (h d : ℕ) (t : Stamp) (r : Replica) (b : Begins early h d t r)
    (calm : IsUndisturbed (early ++ commands.Skulk h d ∷ []) late h d r.epoch t) where
  pub begins : Begun (replay early) (replay ((early ++ commands.Skulk h d ∷ []) ++ [])) h d t
  begins = begins_at early h d t r b

  pub same_replica : begins.replica ≡ r
  same_replica =
      let held = subst (λ (l : List Command). IsHeld (replay l) h d begins.replica) (append_nil (early ++ commands.Skulk h d ∷ [])) begins.held in
      let slots : Held begins.replica ≡ Held r = sym held ∙ b.held in cc

  pub epoch_0 : begins.replica.epoch ≡ r.epoch
  epoch_0 = ap (λ (z : Replica). z.epoch) same_replica

  pub members_0 : r.members ≡ (roll_of d ((early ++ commands.Skulk h d ∷ []) ++ late)).list r.epoch
  members_0 = ap (λ (z : Replica). z.members) (sym same_replica)
      ∙ courses.listed (early ++ commands.Skulk h d ∷ []) late h d r.epoch t calm [] late refl h begins.replica begins.held epoch_0

  pub other : In begins.another (others_of h ((roll_of d ((early ++ commands.Skulk h d ∷ []) ++ late)).list r.epoch))
  other = subst (λ (l : List Member). In begins.another (others_of h l)) (ap (λ (z : Replica). z.members) same_replica ∙ members_0) begins.other

  -- each question of the first round is there
  pub questions : (y : ℕ) → In y (others_of h ((roll_of d ((early ++ commands.Skulk h d ∷ []) ++ late)).list r.epoch))
      → Questioned (replay ((early ++ commands.Skulk h d ∷ []) ++ [])) h d r.epoch t y
  questions y i =
      subst (λ (z : ℕ). Questioned (replay ((early ++ commands.Skulk h d ∷ []) ++ [])) h d z t y) epoch_0
      (begins.asked y (subst (λ (l : List Member). In y (others_of h l)) (sym (ap (λ (z : Replica). z.members) same_replica ∙ members_0)) i))

  -- of its messages only questions of the first round are there
  pub only_questions : (m : Message) → In m (replay ((early ++ commands.Skulk h d ∷ []) ++ [])).bag → m.dir ≡ d → round_of m.body ≡ Some t → m.body ≡ Gather t
  only_questions m i dir is =
      ⊎_elim
      (λ was.
      let reach = (reaching_at d ((early ++ commands.Skulk h d ∷ []) ++ late) early (commands.Skulk h d ∷ late)
      (sym (append_assoc early (commands.Skulk h d ∷ []) late))).sound in
      let now = courses.reached (early ++ commands.Skulk h d ∷ []) late h d r.epoch t calm [] late refl in
      let home = ((now.sound.held h begins.replica begins.held).phase t (ap running_skulk_stamp begins.phase)).1 in
      let le = ((reach.messages m (In-of_dir d (replay early).bag m was dir)).round t is).1 in
      let low : t.time ≤ ((replay early).house h).floor = subst (λ (z : ℕ). t.time ≤ ((replay early).house z).floor) home le in
      let high : ((replay early).house h).floor < t.time = begins.fresh in absurd (omega arith))
      (λ new. new)
      (begins.posted m i)

  -- if an answer of each to each round is delivered, the skulk is complete
  pub ends_if_heard : ((y : ℕ) → In y (others_of h ((roll_of d ((early ++ commands.Skulk h d ∷ []) ++ late)).list r.epoch))
      → Reply (early ++ commands.Skulk h d ∷ []) late h d r.epoch t y)
      → ((full : Replica) → courses.AreAsked (early ++ commands.Skulk h d ∷ []) late h d r.epoch t calm begins.another other late full → (y : ℕ)
      → In y (others_of h ((roll_of d ((early ++ commands.Skulk h d ∷ []) ++ late)).list r.epoch)) → Ack (early ++ commands.Skulk h d ∷ []) late h d r.epoch t y)
      → IsComplete (early ++ commands.Skulk h d ∷ []) late h d t
  ends_if_heard gathered acked =
      complete (early ++ commands.Skulk h d ∷ []) late h d r.epoch t calm begins.another other (λ y r. Unit {0}) (λ past r. Unit {0})
      (λ past left c f e run s y w. tt) (λ past left c f e s y q. tt) (λ past left c f e s all. tt) (λ past left c e full w. tt) (replay early) begins
      epoch_0 gathered acked

-- of any list of commands
pub skulks_end_lem : (early late : List Command) → SkulksEnd early late
skulks_end_lem early late h d t r b calm fair =
    ends_if_heard early late h d t r b calm
    (λ y i. letters.reply_of (early ++ commands.Skulk h d ∷ []) late h d r.epoch t calm fair y (questions early late h d t r b calm y i))
    (λ full asked y i. letters.ack_of (early ++ commands.Skulk h d ∷ []) late h d r.epoch t calm fair full y (asked y i))
