-- A skulk from its begin to its completion, where the houses of its list are ready for it.
use Rattle.std.proofs.Common.{◌≡◌, ◌≢◌, ℕ, ◌+◌, ◌*◌, suc, inl, inr, Bool, true, false, ◌||◌, not, cond, List, [], ◌∷◌, ◌++◌, length, Option, Some}
use Rattle.std.proofs.Common.{None, refl, sym, ap, ◌∙◌, subst, arith}
use Rattle.std.specs.Option.{option_map}
use Rattle.cds_stamps.specs.declared.stamp.Stamp.{Stamp}
use Rattle.cds_stamps.specs.Members.{Member, master_of, others_of, is_listed}
use Rattle.directory.specs.declared.update.UpdateRefusal.TheVariants as why
use Rattle.cell_model.specs.Cells.{Idle, Gathering, Spreading, Replica, Slot, Copy, Body, Gather, Gathered, Spread, SpreadAck, Advance}
use Rattle.cell_model.specs.Cells.{Message, Cell, IsHeld}
use Rattle.cell_model.specs.Commands as command
use Rattle.cell_model.specs.Commands.{Command, Skulk, Deliver, Refused}
use Rattle.cell_model.specs.Sets.{In, has}
use Rattle.cell_model.specs.Turns.{copy_of, merge_copy, later_up_to, floor_after, to_each, stamp_at, begin, skulk_at, skulk_in, refuses}
use Rattle.cell_model.specs.Steps.{Outcome, is_missing, is_unknown, is_down, at_house, outcome, serials_of}
use Rattle.cell_model.specs.Agreement.{place_of}
use Rattle.cell_model.specs.Mending.{deliver_commands, skulk_commands}
use Rattle.cell_model.proofs.Lists.{append_nil, eq_to}
use Rattle.cell_model.proofs.Terms.{In-others_of}
use Rattle.cell_model.proofs.Deliveries.{Run, run_none, run_first, run_map, Finish, finish_one, finish_first, finish_append, delivering-append}
use Rattle.cell_model.proofs.Deliveries.{not_refused, Waiting, next_message, delivered, waiting_next, waiting_more}
use Rattle.cell_model.proofs.Readiness.{Ready, changed, letter, held_here, ready_changed, gather_taken, spread_taken, answer_taken, ack_taken}
use Rattle.cell_model.proofs.Answerings.{Once, Left, left_all, left_next, last_answers, more_answer, AreAnswers, AllTakeAsk, Asked}
use Rattle.cell_model.proofs.Answerings.{AreOthers, asked_run}

-- an answer of the first round
abbrev IsGathered : Stamp → Body → Type 0
IsGathered t b = (copy : Copy) × (b ≡ Gathered t copy)

-- an answer of the second round
abbrev IsAck : Stamp → Body → Type 0
IsAck t b = b ≡ SpreadAck t

-- the master began the second round, and its Spreads wait
record Spreads (d m k : ℕ) (ms : List Member) (t : Stamp) (p : ℕ) (g : Cell) : Type 0 where
  ready : Ready d k ms g
  replica : Replica
  held : IsHeld g m d replica
  epoch : replica.epoch ≡ k
  members : replica.members ≡ ms
  phase : replica.phase ≡ Spreading t []
  floor : ℕ
  copy : Copy
  waiting : Waiting g p (to_each (others_of m ms) d m k floor (Spread t copy))

-- the skulk is over: the houses are ready for another, and nothing runs at the master
pub record Skulked (d m k : ℕ) (ms : List Member) (g : Cell) : Type 0 where
  pub ready : Ready d k ms g
  pub replica : Replica
  pub held : IsHeld g m d replica
  pub idle : replica.phase ≡ Idle

module _ (d m k : ℕ) (ms : List Member) (t : Stamp) (master_listed : is_listed m ms ≡ true) where
  -- the master has ended its skulk in this step
  skulked : (g : Cell) (floor : ℕ) (r : Replica) (posts : List Message) → Ready d k ms g → r.epoch ≡ k → r.members ≡ ms → r.phase ≡ Idle
      → Skulked d m k ms (changed g m d floor r posts)
  skulked g floor r posts s e l i =
      record { ready = ready_changed d k ms g m floor r posts s e l; replica = r; held = held_here g m d floor r posts; idle = i }

  gather_answers : AllTakeAsk d m k ms (Gather t) (IsGathered t)
  gather_answers now y floor r at e l = record {
    replica = r;
    answer = Gathered t (copy_of r);
    is = gather_taken d k ms m t now y floor r master_listed at e l;
    epoch = e;
    members = l;
    says = (copy_of r, refl);
  }

  spread_answers : (copy : Copy) → AllTakeAsk d m k ms (Spread t copy) (IsAck t)
  spread_answers copy now y floor r at e l = record {
    replica = merge_copy r copy;
    answer = SpreadAck t;
    is = spread_taken d k ms m t copy now y floor r master_listed at e l;
    epoch = e;
    members = l;
    says = refl;
  }

  same_posts : (q : Replica) (floor : ℕ) (b : Body) → q.epoch ≡ k → q.members ≡ ms
      → to_each (others_of m q.members) d m q.epoch floor b ≡ to_each (others_of m ms) d m k floor b
  same_posts q floor b e l =
      ap (λ (ls : List Member). to_each (others_of m ls) d m q.epoch floor b) l ∙ ap (λ (n : ℕ). to_each (others_of m ms) d m n floor b) e

  -- the master takes the answers of the first round, and begins the second with the last
  gathering_run : (ys : List ℕ) (zs : List Message) (y : ℕ) (g : Cell) (p : ℕ) (q : Replica) (a : List ℕ) → AreOthers m ms (y ∷ ys)
      → AreAnswers d m k (IsGathered t) (y ∷ ys) zs → Left (others_of m ms) a (y ∷ ys) → Ready d k ms g → IsHeld g m d q → q.epoch ≡ k → q.members ≡ ms
      → q.phase ≡ Gathering t a → Waiting g p zs → Run g (deliver_commands p (suc (length ys))) (Spreads d m k ms t (p + suc (length ys)))
  gathering_run ys [] y g p q a others ans left s at e l run w = elim ans [ ]
  gathering_run [] (z ∷ z' ∷ zs) y g p q a others ans left s at e l run w = elim ans.1 [ ]
  gathering_run (y' ∷ ys) (z ∷ []) y g p q a others ans left s at e l run w = elim ans.1 [ ]
  gathering_run [] (z ∷ []) y g p q a others ans left s at e l run w =
      let f = ans.0.floor in
      let copy = ans.0.says.0 in
      let answer : Message = letter d k m y f (Gathered t copy) in
      let is : z ≡ answer = ans.0.is ∙ ap (λ (b : Body). letter d k m y f b) ans.0.says.1 in
      let w' : Waiting g p (answer ∷ []) = subst (λ (x : Message). Waiting g p (x ∷ [])) is w in
      let out = answer_taken d k ms m t copy a (g.house m) y f q true (others y (inl refl)).1 at e l run (last_answers (others_of m ms) a y left) in
      let f' : ℕ = floor_after (g.house m) answer in
      let r : Replica = record (merge_copy q copy) { phase = Spreading t [] } in
      let b : Body = Spread t (copy_of (merge_copy q copy)) in
      let posts : List Message = to_each (others_of m q.members) d m q.epoch f' b in
      let h : Cell = changed g m d f' r posts in
      run_first g (Deliver (p + 1)) [] (Spreads d m k ms t (p + 1)) _ (delivered g p answer [] _ w' (s.up m master_listed) out) tt
      (run_none h (Spreads d m k ms t (p + 1)) (record {
        ready = ready_changed d k ms g m f' r posts s e l;
        replica = r;
        held = held_here g m d f' r posts;
        epoch = e;
        members = l;
        phase = refl;
        floor = f';
        copy = copy_of (merge_copy q copy);
        waiting = subst (λ (ls : List Message). Waiting h (p + 1) ls) (same_posts q f' b e l) (waiting_next g h p answer [] posts w' refl refl);
      }))
  gathering_run (y' ∷ ys) (z ∷ z' ∷ zs) y g p q a others ans left s at e l run w =
      let f = ans.0.floor in
      let copy = ans.0.says.0 in
      let answer : Message = letter d k m y f (Gathered t copy) in
      let is : z ≡ answer = ans.0.is ∙ ap (λ (b : Body). letter d k m y f b) ans.0.says.1 in
      let w' : Waiting g p (answer ∷ z' ∷ zs) = subst (λ (x : Message). Waiting g p (x ∷ z' ∷ zs)) is w in
      let out = answer_taken d k ms m t copy a (g.house m) y f q false (others y (inl refl)).1 at e l run (more_answer (others_of m ms) a y y' ys left) in
      let f' : ℕ = floor_after (g.house m) answer in
      let r : Replica = record (merge_copy q copy) { phase = Gathering t (y ∷ a) } in
      let h : Cell = changed g m d f' r [] in
      let place : (p + 1) + suc (length ys) ≡ p + suc (suc (length ys)) = omega arith in
      let rest : Waiting h (p + 1) (z' ∷ zs) =
      subst (λ (ls : List Message). Waiting h (p + 1) ls) (append_nil (z' ∷ zs)) (waiting_next g h p answer (z' ∷ zs) [] w' refl refl) in
      let more = gathering_run ys (z' ∷ zs) y' h (p + 1) r (y ∷ a) (λ x i. others x (inr i)) ans.1 (left_next (others_of m ms) a y (y' ∷ ys) left)
      (ready_changed d k ms g m f' r [] s e l) (held_here g m d f' r []) e l refl rest in
      run_first g (Deliver (p + 1)) (deliver_commands (p + 1) (suc (length ys))) (Spreads d m k ms t (p + suc (suc (length ys)))) _
      (delivered g p answer (z' ∷ zs) _ w' (s.up m master_listed) out) tt
      (run_map h (deliver_commands (p + 1) (suc (length ys))) _ _ more (λ c x. subst (λ (n : ℕ). Spreads d m k ms t n c) place x))

  -- the master takes the answers of the second round, and completes with the last
  spreading_run : (ys : List ℕ) (zs : List Message) (y : ℕ) (g : Cell) (p : ℕ) (q : Replica) (a : List ℕ) → AreOthers m ms (y ∷ ys)
      → AreAnswers d m k (IsAck t) (y ∷ ys) zs → Left (others_of m ms) a (y ∷ ys) → Ready d k ms g → IsHeld g m d q → q.epoch ≡ k → q.members ≡ ms
      → q.phase ≡ Spreading t a → Waiting g p zs → Finish g m d (deliver_commands p (suc (length ys))) t (Skulked d m k ms)
  spreading_run ys [] y g p q a others ans left s at e l run w = elim ans [ ]
  spreading_run [] (z ∷ z' ∷ zs) y g p q a others ans left s at e l run w = elim ans.1 [ ]
  spreading_run (y' ∷ ys) (z ∷ []) y g p q a others ans left s at e l run w = elim ans.1 [ ]
  spreading_run [] (z ∷ []) y g p q a others ans left s at e l run w =
      let f = ans.0.floor in
      let answer : Message = letter d k m y f (SpreadAck t) in
      let is : z ≡ answer = ans.0.is ∙ ap (λ (b : Body). letter d k m y f b) ans.0.says in
      let w' : Waiting g p (answer ∷ []) = subst (λ (x : Message). Waiting g p (x ∷ [])) is w in
      let out = ack_taken d k ms m t a (g.house m) y f q true (others y (inl refl)).1 at e l run (last_answers (others_of m ms) a y left) in
      let f' : ℕ = floor_after (g.house m) answer in
      let r : Replica = record q { all_up_to = later_up_to q.all_up_to t; phase = Idle } in
      let posts : List Message = to_each (others_of m q.members) d m q.epoch f' (Advance t) in
      let at_answer : place_of g (Deliver (p + 1)) ≡ Some (m, d) =
      ap (option_map (λ (x : Message). (x.receiver, x.dir))) (next_message g p answer [] w') in
      finish_one g m d (Deliver (p + 1)) t (serials_of g posts) (Skulked d m k ms) _ (delivered g p answer [] _ w' (s.up m master_listed) out) refl at_answer
      (skulked g f' r posts s e l refl)
  spreading_run (y' ∷ ys) (z ∷ z' ∷ zs) y g p q a others ans left s at e l run w =
      let f = ans.0.floor in
      let answer : Message = letter d k m y f (SpreadAck t) in
      let is : z ≡ answer = ans.0.is ∙ ap (λ (b : Body). letter d k m y f b) ans.0.says in
      let w' : Waiting g p (answer ∷ z' ∷ zs) = subst (λ (x : Message). Waiting g p (x ∷ z' ∷ zs)) is w in
      let out = ack_taken d k ms m t a (g.house m) y f q false (others y (inl refl)).1 at e l run (more_answer (others_of m ms) a y y' ys left) in
      let f' : ℕ = floor_after (g.house m) answer in
      let r : Replica = record q { phase = Spreading t (y ∷ a) } in
      let h : Cell = changed g m d f' r [] in
      let rest : Waiting h (p + 1) (z' ∷ zs) =
      subst (λ (ls : List Message). Waiting h (p + 1) ls) (append_nil (z' ∷ zs)) (waiting_next g h p answer (z' ∷ zs) [] w' refl refl) in
      let more = spreading_run ys (z' ∷ zs) y' h (p + 1) r (y ∷ a) (λ x i. others x (inr i)) ans.1 (left_next (others_of m ms) a y (y' ∷ ys) left)
      (ready_changed d k ms g m f' r [] s e l) (held_here g m d f' r []) e l refl rest in
      finish_first g m d (Deliver (p + 1)) (deliver_commands (p + 1) (suc (length ys))) t (Skulked d m k ms) _
      (delivered g p answer (z' ∷ zs) _ w' (s.up m master_listed) out) tt more

-- four rounds of deliveries, one after the other
four_rounds : (n p : ℕ) → deliver_commands p (4 * n)
    ≡ deliver_commands p n ++ (deliver_commands (p + n) n ++ (deliver_commands ((p + n) + n) n ++ deliver_commands (((p + n) + n) + n) n))
four_rounds n p =
    let sum : 4 * n ≡ n + (n + (n + n)) = omega arith in
    ap (λ (c : ℕ). deliver_commands p c) sum ∙ delivering-append n (n + (n + n)) p
    ∙ ap (λ (l : List Command). deliver_commands p n ++ l)
    (delivering-append n (n + n) (p + n) ∙ ap (λ (l : List Command). deliver_commands (p + n) n ++ l) (delivering-append n n ((p + n) + n)))

-- what a skulk rests on: the houses are ready, nothing that is posted next is lost, and the master
-- has this stamp next, if one is left
pub record CanSkulk (d m k : ℕ) (ms : List Member) (next : Option Stamp) (p : ℕ) (g : Cell) : Type 0 where
  pub ready : Ready d k ms g
  pub waiting : Waiting g p []
  pub known : g.top d ≢ 0
  pub made : has m g.made ≡ true
  pub stamp : stamp_at (g.house m) ≡ next

-- a skulk at the master is a step with its next stamp
skulk_step : (d m k : ℕ) (ms : List Member) (next : Option Stamp) → is_listed m ms ≡ true → master_of ms ≡ m → (g : Cell) (p : ℕ) (q : Replica)
    → CanSkulk d m k ms next p g → IsHeld g m d q → q.members ≡ ms → outcome g (Skulk m d) ≡ at_house g m (skulk_at m (g.house m) d q next)
skulk_step d m k ms next master_listed master g p q c at l =
    let unknown : is_unknown g d ≡ false = (let n = c.known in grind arith) in
    let missing : is_missing g (m ∷ []) ≡ false = ap (λ (b : Bool). not b || false) c.made in
    let down : is_down g m ≡ false = ap not (c.ready.up m master_listed) in
    not_refused g (Skulk m d) (unknown, (missing, (down, tt)))
    ∙ ap (λ (s : Slot). at_house g m (skulk_in m (g.house m) d s)) at
    ∙ ap (λ (b : Bool). at_house g m (cond b (skulk_at m (g.house m) d q (stamp_at (g.house m))) (refuses why.NotMaster)))
    (eq_to (master_of q.members) m (ap master_of l ∙ master))
    ∙ ap (λ (o : Option Stamp). at_house g m (skulk_at m (g.house m) d q o)) c.stamp

-- without a stamp it is refused
pub skulk_refused : (d m k : ℕ) (ms : List Member) → is_listed m ms ≡ true → master_of ms ≡ m → (g : Cell) (p : ℕ) → CanSkulk d m k ms None p g
    → (outcome g (Skulk m d)).answer ≡ Refused (command.Update why.StampsSpent)
skulk_refused d m k ms master_listed master g p c =
    let at = c.ready.holds m master_listed in
    ap (λ (o : Outcome). o.answer) (skulk_step d m k ms None master_listed master g p at.0 c at.1 at.3)

module _ (d m k : ℕ) (ms : List Member) (t : Stamp) (master_listed : is_listed m ms ≡ true) (master : master_of ms ≡ m) (once : Once (others_of m ms)) where
  skulk_begins : (g : Cell) (p : ℕ) (q : Replica) → CanSkulk d m k ms (Some t) p g → IsHeld g m d q → q.members ≡ ms
      → outcome g (Skulk m d) ≡ at_house g m (begin m (g.house m) d q t (others_of m ms))
  skulk_begins g p q c at l =
      skulk_step d m k ms (Some t) master_listed master g p q c at l
      ∙ ap (λ (ls : List Member). at_house g m (begin m (g.house m) d q t (others_of m ls))) l

  finish_with : (os : List ℕ) → others_of m ms ≡ os → (g : Cell) (p : ℕ) → CanSkulk d m k ms (Some t) p g
      → Finish g m d (skulk_commands m d p (length os)) t (Skulked d m k ms)
  finish_with [] o g p c =
      let at = c.ready.holds m master_listed in
      let q : Replica = at.0 in
      let r : Replica = record q { all_up_to = later_up_to q.all_up_to t; phase = Idle } in
      let none : 0 ≡ 4 * 0 = omega arith in
      subst (λ (n : ℕ). Finish g m d (Skulk m d ∷ deliver_commands p n) t (Skulked d m k ms)) none
      (finish_one g m d (Skulk m d) t [] (Skulked d m k ms) _
      (skulk_begins g p q c at.1 at.3 ∙ ap (λ (l : List ℕ). at_house g m (begin m (g.house m) d q t l)) o) refl refl
      (skulked d m k ms t master_listed g t.time r [] c.ready at.2 at.3 refl))
  finish_with (y ∷ ys) o g p c =
      let at = c.ready.holds m master_listed in
      let q : Replica = at.0 in
      let r : Replica = record q { phase = Gathering t [] } in
      let os : List ℕ = y ∷ ys in
      let n : ℕ = suc (length ys) in
      let posts : List Message = to_each os d m q.epoch t.time (Gather t) in
      let h : Cell = changed g m d t.time r posts in
      let others : AreOthers m ms os = λ x i. In-others_of x m ms (subst (λ (l : List ℕ). In x l) (sym o) i) in
      let left : Left (others_of m ms) [] os = subst (λ (l : List ℕ). Left (others_of m ms) [] l) o (left_all (others_of m ms) once) in
      let asks : Waiting h p (to_each os d m k t.time (Gather t) ++ []) =
      subst (λ (l : List Message). Waiting h p l) (ap (λ (e : ℕ). to_each os d m e t.time (Gather t)) at.2 ∙ sym (append_nil _))
      (waiting_more g h p [] posts c.waiting refl refl) in
      let first = asked_run d m k ms (Gather t) (IsGathered t) (gather_answers d m k ms t master_listed) r os h p t.time [] others
      (ready_changed d k ms g m t.time r posts c.ready at.2 at.3) (held_here g m d t.time r posts) asks in
      let done : Finish h m d
      (deliver_commands p n ++ (deliver_commands (p + n) n ++ (deliver_commands ((p + n) + n) n ++ deliver_commands (((p + n) + n) + n) n))) t (Skulked d m k ms) =
      finish_append h m d (deliver_commands p n) (deliver_commands (p + n) n ++ (deliver_commands ((p + n) + n) n ++ deliver_commands (((p + n) + n) + n) n)) t
      (Asked d m k ms (IsGathered t) r os (p + n) []) (Skulked d m k ms) first
      (λ g1 a. finish_append g1 m d (deliver_commands (p + n) n) (deliver_commands ((p + n) + n) n ++ deliver_commands (((p + n) + n) + n) n) t
      (Spreads d m k ms t ((p + n) + n)) (Skulked d m k ms)
      (gathering_run d m k ms t master_listed ys a.replies y g1 (p + n) r [] others a.each left a.ready a.master at.2 at.3 refl a.waiting)
      (λ g2 s. finish_append g2 m d (deliver_commands ((p + n) + n) n) (deliver_commands (((p + n) + n) + n) n) t
      (Asked d m k ms (IsAck t) s.replica os (((p + n) + n) + n) []) (Skulked d m k ms)
      (asked_run d m k ms (Spread t s.copy) (IsAck t) (spread_answers d m k ms t master_listed s.copy) s.replica os g2 ((p + n) + n) s.floor [] others
      s.ready s.held
      (subst (λ (l : List Message). Waiting g2 ((p + n) + n) l)
      (ap (λ (l : List ℕ). to_each l d m k s.floor (Spread t s.copy)) o ∙ sym (append_nil _)) s.waiting))
      (λ g3 b. spreading_run d m k ms t master_listed ys b.replies y g3 (((p + n) + n) + n) s.replica [] others b.each left b.ready b.master
      s.epoch s.members s.phase b.waiting))) in
      finish_first g m d (Skulk m d) (deliver_commands p (4 * n)) t (Skulked d m k ms) _
      (skulk_begins g p q c at.1 at.3 ∙ ap (λ (l : List ℕ). at_house g m (begin m (g.house m) d q t l)) o) tt
      (subst (λ (l : List Command). Finish h m d l t (Skulked d m k ms)) (sym (four_rounds n p)) done)

  -- a skulk and its messages complete it, and the houses stay at their epoch
  pub skulk_finishes : (g : Cell) (p : ℕ) → CanSkulk d m k ms (Some t) p g → Finish g m d (skulk_commands m d p (length (others_of m ms))) t (Skulked d m k ms)
  skulk_finishes g p c = finish_with (others_of m ms) refl g p c
