-- A skulk from its start on, while nothing disturbs it.
use Rattle.std.proofs.Common.{inl, inr, ◌≡◌, ℕ, ◌≤◌, true, false, List, [], ◌∷◌, ◌++◌, Option, Some, None, refl, sym, ap, ◌∙◌}
use Rattle.std.proofs.Common.{subst, arith, append_assoc}
use Rattle.cds_stamps.specs.declared.stamp.Stamp.{Stamp}
use Rattle.cds_stamps.specs.Members.{Member, master_of, others_of}
use Rattle.cell_model.specs.Cells.{Phase, Gathering, Spreading, Replica, Held, Body, Message, Cell, IsHeld}
use Rattle.cell_model.specs.Commands as commands
use Rattle.cell_model.specs.Commands.{Command, Taken, Complete, Accepted}
use Rattle.cell_model.specs.Completions.{CompletesBy, with_last, at_once}
use Rattle.cell_model.specs.Sets.{In}
use Rattle.cell_model.specs.Turns.{running_skulk_stamp, all_answered}
use Rattle.cell_model.specs.Steps.{outcome, replay, accepted_updates}
use Rattle.cell_model.specs.Agreement.{place_of}
use Rattle.cell_model.proofs.Lists.{append_nil}
use Rattle.cell_model.proofs.Terms.{Listed}
use Rattle.cell_model.proofs.Facts.{view, Kind, Roll}
use Rattle.cell_model.proofs.Views.{In-of_dir, In-from_dir}
use Rattle.cell_model.proofs.Moves.{outcome_steps}
use Rattle.cell_model.proofs.Answering.{taken_by}
use Rattle.cell_model.proofs.Completing.{answers_lem}
use Rattle.cell_model.proofs.Passages.{Reaching, passage_stays}
use Rattle.cell_model.proofs.Runs.{roll_of, fit_at, step_passage, reaching_at}
use Rattle.fair_runs.specs.Fairness.{IsUndisturbed}
use Rattle.fair_runs.specs.Converging.{IsAllUpTo}
use Rattle.fair_runs.proofs.Prefixes.{one_more, parts_of, cell_next}
use Rattle.fair_runs.proofs.Phases.{Asked, Told, Hears, Goes, same, gathered, turned, acked, completed, goes}
use Rattle.fair_runs.proofs.Takes.{still_gathering, still_spreading}
use Rattle.fair_runs.proofs.Joins.{joins_lem}

-- two commands' places
in_place : (g : Cell) (c : Command) (h d x e : ℕ) → place_of g c ≡ Some (h, d) → c ≡ commands.Skulk x e → (x ≡ h) × (e ≡ d)
in_place g c h d x e p q =
    let k : Some (x, e) ≡ Some (h, d) = sym (ap (place_of g) q) ∙ p in
    (ap (λ (o : Option (ℕ × ℕ)). elim o [ None ↦ h | Some z ↦ z.0 ]) k, ap (λ (o : Option (ℕ × ℕ)). elim o [ None ↦ d | Some z ↦ z.1 ]) k)

module _ (start late : List Command) (h d k : ℕ) (t : Stamp) (calm : IsUndisturbed start late h d k t) where
  -- the cell after the start and some of what follows
  abbrev cell : List Command → Cell
  cell past = replay (start ++ past)

  abbrev roll : Roll
  roll = roll_of d (start ++ late)

  -- the other members of the epoch
  abbrev others : List ℕ
  others = others_of h ((roll_of d (start ++ late)).list k)

  pub reached : (past left : List Command) → past ++ left ≡ late
      → Reaching (roll_of d (start ++ late)) (view d (replay (start ++ past))) (accepted_updates (start ++ past))
  reached past left e = reaching_at d (start ++ late) (start ++ past) left (parts_of start past left late e)

  -- what a house holds at this epoch has the epoch's list
  pub listed : (past left : List Command) → past ++ left ≡ late → (x : ℕ) (r : Replica) → IsHeld (replay (start ++ past)) x d r → r.epoch ≡ k
      → r.members ≡ (roll_of d (start ++ late)).list k
  listed past left e x r at ep = ((reached past left e).sound.held x r at).members ∙ ap (roll_of d (start ++ late)).list ep

  -- a posted message of the directory stays
  stays_posted : (past left : List Command) (c : Command) → past ++ c ∷ left ≡ late → (m : Message) → m.dir ≡ d → In m (replay (start ++ past)).bag
      → In m (replay (start ++ (past ++ c ∷ []))).bag
  stays_posted past left c e m dir i =
      let g : Cell = replay (start ++ past) in
      let p = step_passage d (start ++ late) (start ++ past) left c (parts_of start past (c ∷ left) late e) (reached past (c ∷ left) e) in
      let i' = passage_stays (roll_of d (start ++ late)) (view d g) (view d (outcome g c).cell) (outcome g c).accepted p m (In-of_dir d g.bag m i dir) in
      subst (λ (z : Cell). In m z.bag) (sym (cell_next start past c)) (In-from_dir d (outcome g c).cell.bag m i').0

  -- and is there at the end
  pub ends_posted : (left past : List Command) → past ++ left ≡ late → (m : Message) → m.dir ≡ d → In m (replay (start ++ past)).bag
      → In m (replay (start ++ late)).bag
  ends_posted [] past e m dir i = subst (λ (l : List Command). In m (replay (start ++ l)).bag) (sym (append_nil past) ∙ e) i
  ends_posted (c ∷ left) past e m dir i = ends_posted left (past ++ c ∷ []) (one_more past left late c e) m dir (stays_posted past left c e m dir i)

  -- the master holds a replica of the epoch, in this phase
  pub record At (past : List Command) (f : Phase) : Type 0 where
    pub replica : Replica
    pub held : IsHeld (replay (start ++ past)) h d replica
    pub epoch : replica.epoch ≡ k
    pub phase : replica.phase ≡ f

  -- it is in one phase
  pub one_phase : (past : List Command) (f f' : Phase) → At past f → At past f' → f ≡ f'
  one_phase past f f' a b =
      let p : Held a.replica ≡ Held b.replica = sym a.held ∙ b.held in
      let r : a.replica ≡ b.replica = cc in sym a.phase ∙ ap (λ (z : Replica). z.phase) r ∙ b.phase

  -- to each other member a message says that the skulk is complete
  abbrev pub AreTold : List Command → Type 0
  AreTold past = (x : ℕ) → In x (others_of h ((roll_of d (start ++ late)).list k)) → Told (replay (start ++ past)) h d k t x

  -- a delivery answered that the skulk is complete: its master's AllUpTo was the stamp or later
  -- then, and a message says so to each other member
  pub record Over (past : List Command) : Type 0 where
    pub early : List Command
    pub serial : ℕ
    pub rest : List Command
    pub parts : early ++ commands.Deliver serial ∷ rest ≡ past
    pub serials : List ℕ
    pub place : place_of (replay (start ++ early)) (commands.Deliver serial) ≡ Some (h, d)
    pub answer : (outcome (replay (start ++ early)) (commands.Deliver serial)).answer ≡ Complete t serials
    pub replica : Replica
    pub held : IsHeld (replay (start ++ (early ++ commands.Deliver serial ∷ []))) h d replica
    pub epoch : replica.epoch ≡ k
    pub up_to : IsAllUpTo t replica.all_up_to
    pub told : AreTold past

  -- these messages stay posted
  told_on : (past left : List Command) (c : Command) → past ++ c ∷ left ≡ late → AreTold past → AreTold (past ++ c ∷ [])
  told_on past left c e told x i =
      let q = told x i in
      record {
        message = q.message;
        posted = stays_posted past left c e q.message q.dir q.posted;
        dir = q.dir;
        receiver = q.receiver;
        sender = q.sender;
        epoch = q.epoch;
        body = q.body;
      }

  over_on : (past left : List Command) (c : Command) → past ++ c ∷ left ≡ late → Over past → Over (past ++ c ∷ [])
  over_on past left c e o = record {
    early = o.early;
    serial = o.serial;
    rest = o.rest ++ c ∷ [];
    parts = sym (append_assoc o.early (commands.Deliver o.serial ∷ o.rest) (c ∷ [])) ∙ ap (λ (l : List Command). l ++ c ∷ []) o.parts;
    serials = o.serials;
    place = o.place;
    answer = o.answer;
    replica = o.replica;
    held = o.held;
    epoch = o.epoch;
    up_to = o.up_to;
    told = told_on past left c e o.told;
  }

  -- a step of the master while the skulk runs
  pub record Stepped (past : List Command) (c : Command) (f : Phase) : Type 0 where
    pub before : Replica
    pub after : Replica
    pub at : IsHeld (replay (start ++ past)) h d before
    pub at' : IsHeld (outcome (replay (start ++ past)) c).cell h d after
    pub epoch : before.epoch ≡ k
    pub epoch' : after.epoch ≡ k
    pub phase : before.phase ≡ f
    pub goes : Goes h d t (replay (start ++ past)) (outcome (replay (start ++ past)) c).cell (place_of (replay (start ++ past)) c) (outcome (replay (start ++ past)) c).answer before after

  module _ (another : ℕ) (other : In another (others_of h ((roll_of d (start ++ late)).list k))) where
    pub step : (past left : List Command) (c : Command) → past ++ c ∷ left ≡ late → (f : Phase) → running_skulk_stamp f ≡ Some t → At past f → Stepped past c f
    step past left c e f run a =
        let g : Cell = replay (start ++ past) in
        let next = calm (past ++ c ∷ []) left (one_more past left late c e) in
        let at' = subst (λ (z : Cell). IsHeld z h d next.replica) (cell_next start past c) next.held in
        let reach = reached past (c ∷ left) e in
        let ok = reach.sound.held h a.replica a.held in
        let runs : running_skulk_stamp a.replica.phase ≡ Some t = ap running_skulk_stamp a.phase ∙ run in
        let phase = ok.phase t runs in
        let fit = fit_at d (start ++ late) (start ++ past) (c ∷ left) (parts_of start past (c ∷ left) late e) in
        record {
          before = a.replica;
          after = next.replica;
          at = a.held;
          at' = at';
          epoch = a.epoch;
          epoch' = next.epoch;
          phase = a.phase;
          goes = goes g (outcome g c).cell h d t a.replica next.replica (place_of g c) (outcome g c).answer (outcome g c).accepted (outcome_steps g c) (record {
            at = a.held;
            at' = at';
            epoch = a.epoch ∙ sym next.epoch;
            up = subst (λ (z : Cell). (z.house h).up ≡ true) (cell_next start past c) next.up;
            run = runs;
            runs = next.runs;
            low = phase.2;
            known = λ zero. reach.sound.good.none h ok.listed.0
                (subst (λ (z : ℕ). Listed ((roll_of d (start ++ late)).list z) h ok.listed.0) (none_below g zero ok.top) ok.listed.1);
            top = ok.top;
            next = λ le. fit.plain.unknown d le;
            another = another;
            other = subst (λ (l : List Member). In another (others_of h l)) (sym (listed past (c ∷ left) e h a.replica a.held a.epoch)) other;
            joins = λ m ms copy i dir to is ep.
                let law = reach.sound.messages m (In-of_dir d g.bag m i dir) in
                let kind : (ms ≡ roll.list m.epoch) × ((s : ℕ) × Listed (roll.list m.epoch) m.receiver s) =
                subst (λ (b : Body). Kind (roll_of d (start ++ late)) m b) is law.kind in
                let list : ms ≡ a.replica.members = kind.0 ∙ ap roll.list ep ∙ sym ok.members in
                joins_lem (start ++ past) m ms copy i is (to ∙ sym phase.0 ∙ ap master_of (sym list));
          });
        }
      where
        none_below : (g : Cell) → g.top d ≡ 0 → a.replica.epoch ≤ g.top d → a.replica.epoch ≡ 0
        none_below g zero le = omega (arith, zero, le)

    -- nobody has answered at first
    none_yet : (os : List ℕ) → In another os → all_answered os [] ≡ false
    none_yet [] i = elim i [ ]
    none_yet (x ∷ os) i = refl

    pub at_first : all_answered (others_of h ((roll_of d (start ++ late)).list k)) [] ≡ false
    at_first = none_yet _ other

    -- the other members of what the house holds
    pub its_others : (past left : List Command) → past ++ left ≡ late → (r : Replica) → IsHeld (replay (start ++ past)) h d r → r.epoch ≡ k
        → others_of h r.members ≡ others_of h ((roll_of d (start ++ late)).list k)
    its_others past left e r at ep = ap (others_of h) (listed past left e h r at ep)

    -- a command that completes the skulk is a delivery
    pub by_delivery : (past left : List Command) (c : Command) (r : Replica) → past ++ c ∷ left ≡ late → IsHeld (replay (start ++ past)) h d r → r.epoch ≡ k
        → place_of (replay (start ++ past)) c ≡ Some (h, d) → CompletesBy (replay (start ++ past)) t c → (n : ℕ) × (c ≡ commands.Deliver n)
    by_delivery past left c r e at ep p (with_last n last) = (n, refl)
    by_delivery past left c r e at ep p (at_once x y lone) =
        let z = in_place (replay (start ++ past)) (commands.Skulk x y) h d x y p refl in
        let held : IsHeld (replay (start ++ past)) h d lone.replica =
        subst (λ (v : ℕ). IsHeld (replay (start ++ past)) h v lone.replica) z.1
        (subst (λ (v : ℕ). IsHeld (replay (start ++ past)) v y lone.replica) z.0 lone.held) in
        let same_slot : Held lone.replica ≡ Held r = sym held ∙ at in
        let same_replica : lone.replica ≡ r = cc in
        let none : others_of h ((roll_of d (start ++ late)).list k) ≡ [] =
        sym (its_others past (commands.Skulk x y ∷ left) e r at ep) ∙ ap (λ (v : Replica). others_of h v.members) (sym same_replica)
        ∙ ap (λ (v : ℕ). others_of v lone.replica.members) (sym z.0) ∙ lone.none in
        elim (subst (λ (l : List ℕ). In another l) none other) [ ]

    over_by : (past : List Command) (c : Command) (f : Phase) (n : ℕ) (ns : List ℕ) (s : Stepped past c f) → c ≡ commands.Deliver n
        → place_of (replay (start ++ past)) c ≡ Some (h, d) → (outcome (replay (start ++ past)) c).answer ≡ Complete t ns → IsAllUpTo t s.after.all_up_to → AreTold (past ++ c ∷ []) → Over (past ++ c ∷ [])
    over_by past c f n ns s is p e up told = record {
      early = past;
      serial = n;
      rest = [];
      parts = ap (λ (x : Command). past ++ x ∷ []) (sym is);
      serials = ns;
      place = subst (λ (x : Command). place_of (replay (start ++ past)) x ≡ Some (h, d)) is p;
      answer = subst (λ (x : Command). (outcome (replay (start ++ past)) x).answer ≡ Complete t ns) is e;
      replica = s.after;
      held = subst (λ (x : Command). IsHeld (replay (start ++ (past ++ x ∷ []))) h d s.after) is
          (subst (λ (z : Cell). IsHeld z h d s.after) (sym (cell_next start past c)) s.at');
      epoch = s.epoch';
      up_to = up;
      told = told;
    }

    completes_there : (past left : List Command) (c : Command) (f : Phase) (ns : List ℕ) → past ++ c ∷ left ≡ late → (s : Stepped past c f)
        → (outcome (replay (start ++ past)) c).answer ≡ Complete t ns → place_of (replay (start ++ past)) c ≡ Some (h, d) → IsAllUpTo t s.after.all_up_to
        → ((x : ℕ) → In x (others_of h s.before.members) → Told (outcome (replay (start ++ past)) c).cell h d s.before.epoch t x) → Over (past ++ c ∷ [])
    completes_there past left c f ns e s a p up told =
        let w = by_delivery past left c s.before e s.at s.epoch p ((answers_lem (start ++ past) c).completes t ns a) in
        let o = its_others past (c ∷ left) e s.before s.at s.epoch in
        over_by past c f w.0 ns s w.1 p a up
        (λ x i. subst (λ (z : Cell). Told z h d k t x) (sym (cell_next start past c))
        (subst (λ (z : ℕ). Told (outcome (replay (start ++ past)) c).cell h d z t x) s.epoch (told x (subst (λ (z : List ℕ). In x z) (sym o) i))))

    -- the phase after a step
    at_next : (past : List Command) (c : Command) (f f' : Phase) → (s : Stepped past c f) → s.after.phase ≡ f' → At (past ++ c ∷ []) f'
    at_next past c f f' s p = record {
      replica = s.after;
      held = subst (λ (z : Cell). IsHeld z h d s.after) (sym (cell_next start past c)) s.at';
      epoch = s.epoch';
      phase = p;
    }

    -- another house has yet to answer after a delivery, too
    first_on : (past left : List Command) (c : Command) (a a' ns : List ℕ) → past ++ c ∷ left ≡ late → (s : Stepped past c (Gathering t a))
        → s.after.phase ≡ Gathering t a' → (outcome (replay (start ++ past)) c).answer ≡ Taken ns
        → all_answered (others_of h ((roll_of d (start ++ late)).list k)) a ≡ false → all_answered (others_of h ((roll_of d (start ++ late)).list k)) a' ≡ false
    first_on past left c a a' ns e s p answer some =
        let g : Cell = replay (start ++ past) in
        let w = taken_by g c ns answer in
        let o = its_others past (c ∷ left) e s.before s.at s.epoch in
        subst (λ (l : List ℕ). all_answered l a' ≡ false) o
        (still_gathering g w.0 h d t s.before s.after a a' s.at (subst (λ (x : Command). IsHeld (outcome g x).cell h d s.after) w.1 s.at') s.phase p
        (subst (λ (l : List ℕ). all_answered l a ≡ false) (sym o) some))

    second_on : (past left : List Command) (c : Command) (a a' ns : List ℕ) → past ++ c ∷ left ≡ late → (s : Stepped past c (Spreading t a))
        → s.after.phase ≡ Spreading t a' → (outcome (replay (start ++ past)) c).answer ≡ Taken ns
        → all_answered (others_of h ((roll_of d (start ++ late)).list k)) a ≡ false → all_answered (others_of h ((roll_of d (start ++ late)).list k)) a' ≡ false
    second_on past left c a a' ns e s p answer some =
        let g : Cell = replay (start ++ past) in
        let w = taken_by g c ns answer in
        let o = its_others past (c ∷ left) e s.before s.at s.epoch in
        subst (λ (l : List ℕ). all_answered l a' ≡ false) o
        (still_spreading g w.0 h d t s.before s.after a a' s.at (subst (λ (x : Command). IsHeld (outcome g x).cell h d s.after) w.1 s.at') s.phase p
        (subst (λ (l : List ℕ). all_answered l [] ≡ false) (sym o) at_first) (subst (λ (l : List ℕ). all_answered l a ≡ false) (sym o) some))

    -- each other member was asked in the second round, with what this replica has
    abbrev pub AreAsked : List Command → Replica → Type 0
    AreAsked past full = (x : ℕ) → In x (others_of h ((roll_of d (start ++ late)).list k)) → Asked (replay (start ++ past)) h d k t x full

    -- a question stays posted
    asked_on : (past left : List Command) (c : Command) (full : Replica) → past ++ c ∷ left ≡ late → AreAsked past full → AreAsked (past ++ c ∷ []) full
    asked_on past left c full e asked x i =
        let q = asked x i in
        record {
          message = q.message;
          copy = q.copy;
          posted = stays_posted past left c e q.message q.dir q.posted;
          dir = q.dir;
          receiver = q.receiver;
          sender = q.sender;
          epoch = q.epoch;
          body = q.body;
          whole = q.whole;
        }

    -- Q is what the master's replica has of a house that was heard, and P what it has once all were
    module _ (Q : ℕ → Replica → Type 0) (P : List Command → Replica → Type 0)
        (hearing : (past left : List Command) (c : Command) (f : Phase) → past ++ c ∷ left ≡ late → running_skulk_stamp f ≡ Some t → (s : Stepped past c f) → (y : ℕ)
        → Hears (replay (start ++ past)) d t y s.after → Q y s.after)
        (keeping : (past left : List Command) (c : Command) (f : Phase) → past ++ c ∷ left ≡ late → (s : Stepped past c f) → (y : ℕ) → Q y s.before
        → Q y s.after)
        (filling : (past left : List Command) (c : Command) (f : Phase) → past ++ c ∷ left ≡ late → (s : Stepped past c f)
        → ((y : ℕ) → In y (others_of h ((roll_of d (start ++ late)).list k)) → Q y s.after) → P (past ++ c ∷ []) s.after)
        (lasting : (past left : List Command) (c : Command) → past ++ c ∷ left ≡ late → (full : Replica) → P past full → P (past ++ c ∷ []) full) where
      -- how far the skulk is: one of the rounds runs, another house has yet to answer in it, and of
      -- those that answered this holds; or it is complete
      pub data Stage (first_has second_has : List ℕ → Type 0) (past : List Command) : Type 0 where
        first : (a : List ℕ) (at : At past (Gathering t a)) → all_answered (others_of h ((roll_of d (start ++ late)).list k)) a ≡ false
            → ((y : ℕ) → In y a → Q y at.replica) → first_has a → Stage first_has second_has past
        second : (a : List ℕ) → At past (Spreading t a) → all_answered (others_of h ((roll_of d (start ++ late)).list k)) a ≡ false → (full : Replica) → P past full
            → AreAsked past full → second_has a → Stage first_has second_has past
        over : Over past → (full : Replica) → P past full → AreAsked past full → Stage first_has second_has past

      -- who was heard after one more answer
      heard_in : (past left : List Command) (c : Command) (a b : List ℕ) (y : ℕ) → past ++ c ∷ left ≡ late → (s : Stepped past c (Gathering t a)) → a ≡ b
          → ((x : ℕ) → In x a → Q x s.before) → Hears (replay (start ++ past)) d t y s.after → (x : ℕ) → In x (y ∷ b) → Q x s.after
      heard_in past left c a b y e s l noted w x (inl z) = subst (λ (v : ℕ). Q v s.after) (sym z) (hearing past left c (Gathering t a) e refl s y w)
      heard_in past left c a b y e s l noted w x (inr i) =
          keeping past left c (Gathering t a) e s x (noted x (subst (λ (v : List ℕ). In x v) (sym l) i))

      module _ (W V : List ℕ → Type 0) (more : (y : ℕ) (a : List ℕ) → W a → W (y ∷ a)) (turn : (a : List ℕ) → W a → V [])
          (more_again : (y : ℕ) (a : List ℕ) → V a → V (y ∷ a)) where
        stage_first : (past left : List Command) (c : Command) (a : List ℕ) → past ++ c ∷ left ≡ late → (s : Stepped past c (Gathering t a))
            → all_answered (others_of h ((roll_of d (start ++ late)).list k)) a ≡ false → ((y : ℕ) → In y a → Q y s.before) → W a
            → Goes h d t (replay (start ++ past)) (outcome (replay (start ++ past)) c).cell (place_of (replay (start ++ past)) c)
            (outcome (replay (start ++ past)) c).answer s.before s.after
            → Stage W V (past ++ c ∷ [])
        unfolding at_next
        stage_first past left c a e s some noted has_it (same p) =
            first a (at_next past c (Gathering t a) (Gathering t a) s (p ∙ s.phase)) some (λ y i. keeping past left c (Gathering t a) e s y (noted y i)) has_it
        stage_first past left c a e s some noted has_it (gathered b ns y p q answer w) =
            let v : Gathering t a ≡ Gathering t b = sym s.phase ∙ p in
            let l : a ≡ b = cc in
            first (y ∷ b) (at_next past c (Gathering t a) (Gathering t (y ∷ b)) s q) (first_on past left c a (y ∷ b) ns e s q answer some)
            (λ x i. heard_in past left c a b y e s l noted w x i) (more y b (subst W l has_it))
        stage_first past left c a e s some noted has_it (turned b y p q asked all w) =
            let v : Gathering t a ≡ Gathering t b = sym s.phase ∙ p in
            let l : a ≡ b = cc in
            let o = its_others past (c ∷ left) e s.before s.at s.epoch in
            second [] (at_next past c (Gathering t a) (Spreading t []) s q) at_first s.after
            (filling past left c (Gathering t a) e s
            (λ x i. heard_in past left c a b y e s l noted w x (all x (subst (λ (z : List ℕ). In x z) (sym o) i))))
            (λ x i. subst (λ (z : Cell). Asked z h d k t x s.after) (sym (cell_next start past c))
            (subst (λ (z : ℕ). Asked (outcome (replay (start ++ past)) c).cell h d z t x s.after) s.epoch (asked x (subst (λ (z : List ℕ). In x z) (sym o) i)))) (turn a has_it)
        stage_first past left c a e s some noted has_it (acked b ns y p q answer) = let z : Gathering t a ≡ Spreading t b = sym s.phase ∙ p in absurd (cc)
        stage_first past left c a e s some noted has_it (completed b ns q answer p up told) = let z : Gathering t a ≡ Spreading t b = sym s.phase ∙ q in absurd (cc)

        -- those that answered so far
        list_is : (past : List Command) (c : Command) (a b : List ℕ) (s : Stepped past c (Spreading t a)) → s.before.phase ≡ Spreading t b → a ≡ b
        list_is past c a b s p = let z : Spreading t a ≡ Spreading t b = sym s.phase ∙ p in cc

        stage_second : (past left : List Command) (c : Command) (a : List ℕ) → past ++ c ∷ left ≡ late → (s : Stepped past c (Spreading t a))
            → all_answered (others_of h ((roll_of d (start ++ late)).list k)) a ≡ false → (full : Replica) → P past full → AreAsked past full → V a
            → Goes h d t (replay (start ++ past)) (outcome (replay (start ++ past)) c).cell (place_of (replay (start ++ past)) c)
            (outcome (replay (start ++ past)) c).answer s.before s.after
            → Stage W V (past ++ c ∷ [])
        stage_second past left c a e s some full has_all asked has_it (same p) =
            second a (at_next past c (Spreading t a) (Spreading t a) s (p ∙ s.phase)) some full (lasting past left c e full has_all) (asked_on past left c full e asked) has_it
        stage_second past left c a e s some full has_all asked has_it (gathered b ns y p q answer w) =
            let z : Spreading t a ≡ Gathering t b = sym s.phase ∙ p in absurd (cc)
        stage_second past left c a e s some full has_all asked has_it (turned b y p q told all w) =
            let z : Spreading t a ≡ Gathering t b = sym s.phase ∙ p in absurd (cc)
        stage_second past left c a e s some full has_all asked has_it (acked b ns y p q answer) =
            second (y ∷ b) (at_next past c (Spreading t a) (Spreading t (y ∷ b)) s q) (second_on past left c a (y ∷ b) ns e s q answer some) full (lasting past left c e full has_all)
            (asked_on past left c full e asked) (more_again y b (subst V (list_is past c a b s p) has_it))
        stage_second past left c a e s some full has_all asked has_it (completed b ns q answer p up told) =
            over (completes_there past left c (Spreading t a) ns e s answer p up told) full (lasting past left c e full has_all) (asked_on past left c full e asked)

        pub stage_step : (past left : List Command) (c : Command) → past ++ c ∷ left ≡ late → Stage W V past → Stage W V (past ++ c ∷ [])
        unfolding step
        stage_step past left c e (first a at some noted has_it) =
            let s = step past left c e (Gathering t a) refl at in stage_first past left c a e s some noted has_it s.goes
        stage_step past left c e (second a at some full has_all asked has_it) =
            let s = step past left c e (Spreading t a) refl at in stage_second past left c a e s some full has_all asked has_it s.goes
        stage_step past left c e (over o full has_all asked) =
            over (over_on past left c e o) full (lasting past left c e full has_all) (asked_on past left c full e asked)

        -- at each moment
        pub stage_run : (mid past left : List Command) → past ++ (mid ++ left) ≡ late → Stage W V past → Stage W V (past ++ mid)
        stage_run [] past left e s = subst (λ (l : List Command). Stage W V l) (sym (append_nil past)) s
        stage_run (c ∷ mid) past left e s =
            subst (λ (l : List Command). Stage W V l) (append_assoc past (c ∷ []) mid)
            (stage_run mid (past ++ c ∷ []) left (one_more past (mid ++ left) late c e) (stage_step past (mid ++ left) c e s))
