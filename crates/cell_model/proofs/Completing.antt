-- Which answers come, and where a skulk completes.
use Rattle.std.proofs.Common.{◌≡◌, ℕ, Bool, true, false, ◌&&◌, ◌||◌, eqb, cond, List, [], ◌∷◌, ◌++◌, Option, Some, None, refl, sym, ap, ◌∙◌, subst}
use Rattle.std.proofs.Common.{⊎_elim, append_assoc}
use Rattle.cds_stamps.specs.declared.stamp.Stamp.{Stamp}
use Rattle.cds_stamps.specs.Members.{master_of, others_of, is_listed}
use Rattle.directory.specs.declared.update.UpdateRefusal.TheVariants.{NotMaster}
use Rattle.cell_model.specs.Cells.{Spreading, Replica, Slot, Absent, Gone, Held, House, SpreadAck, Message, Cell}
use Rattle.cell_model.specs.Cells.{empty_cell}
use Rattle.cell_model.specs.Commands as command
use Rattle.cell_model.specs.Commands.{Command, Refusal, Answer, Foreign, Complete, Accepted}
use Rattle.cell_model.specs.Sets.{In, has}
use Rattle.cell_model.specs.Turns.{HouseStep, refuses, stamp_at, begin, skulk_at, skulk_in, take}
use Rattle.cell_model.specs.Steps.{refusal_outcome, at_house, deliver, message_at, is_down, refusals_of, first_refusal}
use Rattle.cell_model.specs.Steps.{effect, outcome, replay}
use Rattle.cell_model.specs.Rounds.{TookSpread}
use Rattle.cell_model.specs.Completions.{IsLastAck, IsLone, with_last, at_once, AnswersHold}
use Rattle.cell_model.proofs.Lists.{append_nil}
use Rattle.cell_model.proofs.Answering.{IsPlain, IsBegun, said}
use Rattle.cell_model.proofs.Rows as rows
use Rattle.cell_model.proofs.Facts.{View, view, Holds, Roll, Turn, same, idle, begins, answered, turned, acked, Past, grew, rose, crowned, copied}
use Rattle.cell_model.proofs.Facts.{founded, Frame}
use Rattle.cell_model.proofs.Starts.{Acked}
use Rattle.cell_model.proofs.Views.{In-from_dir}
use Rattle.cell_model.proofs.Moves.{message_posted}
use Rattle.cell_model.proofs.Passages.{Passage, whole, halves}
use Rattle.cell_model.proofs.Runs.{replay-append, roll_of, step_passage, reaching_at}
use Rattle.cell_model.proofs.NeverComes.{nevers_lem}
use Rattle.cell_model.proofs.Stamping.{unless_complete}

-- ---- who answered in the second round has posted its answer

abbrev Acks : View → Type 0
Acks v = (x : ℕ) (r : Replica) (t : Stamp) (a : List ℕ) → Holds v x r → r.phase ≡ Spreading t a → (y : ℕ) → In y a → Acked v t y

module _ (roll : Roll) (g g' : View) (new : List Accepted) (f : Frame roll g g' new) (v : Acks g) where
  still : (t : Stamp) (y : ℕ) → Acked g t y → Acked g' t y
  still t y w = (w.0, f.stays w.0 w.1, w.2, w.3)

  acks_turn : (x floor : ℕ) (r r' : Replica) (t : Stamp) (a : List ℕ) → Holds g x r → r'.phase ≡ Spreading t a → Turn roll g x floor r r' → (y : ℕ) → In y a
      → Acked g' t y
  acks_turn x floor r r' t a at run (same e) y i = still t y (v x r t a at (sym e ∙ run) y i)
  acks_turn x floor r r' t a at run (idle e) y i = absurd (cc)
  acks_turn x floor r r' t a at run (begins _ e _ _ _ _ _) y i = absurd (cc)
  acks_turn x floor r r' t a at run (answered _ _ _ _ _ e _ _ _) y i = absurd (cc)
  acks_turn x floor r r' t a at run (turned u _ _ _ _ e _ _ _ _) y i =
      let none : [] ≡ a = cc in elim (subst (λ (l : List ℕ). In y l) (sym none) i) [ ]
  acks_turn x floor r r' t a at run (acked u b m was e posted is) y i =
      let list : m.sender ∷ b ≡ a = cc in
      let stamp : u ≡ t = cc in
      ⊎_elim (λ (z : y ≡ m.sender). (m, f.stays m posted, sym z, is ∙ ap SpreadAck stamp))
      (λ (z : In y b). still t y (v x r t b at (was ∙ ap (λ (s : Stamp). Spreading s b) stamp) y z))
      (subst (λ (l : List ℕ). In y l) (sym list) i)

  acks_past : (x floor : ℕ) (r' : Replica) (t : Stamp) (a : List ℕ) → r'.phase ≡ Spreading t a → Past roll g g' x floor r' → (y : ℕ) → In y a
      → Acked g' t y
  acks_past x floor r' t a run (grew r at _ _ _ turn) = acks_turn x floor r r' t a at run turn
  acks_past x floor r' t a run (rose _ _ _ _ _ _ _ _ _ took) = let e = took.idle in absurd (cc)
  acks_past x floor r' t a run (crowned _ _ _ _ _ _ _ _ _ e) = absurd (cc)
  acks_past x floor r' t a run (copied _ _ _ _ _ _ took) = let e = took.idle in absurd (cc)
  acks_past x floor r' t a run (founded _ _ _ _ _ e) = absurd (cc)

  acks_kept : Acks g'
  acks_kept x r' t a at run = acks_past x (g'.house x).floor r' t a run (f.past x r' at)

acks_passed : (roll : Roll) (v v' : View) (n : List Accepted) → Passage roll v v' n → Acks v → Acks v'
acks_passed roll v v' n (whole f acc) k = acks_kept roll v v' n f k
acks_passed roll v v' n (halves h) k = acks_kept roll h.mid v' [] h.second (acks_kept roll v h.mid n h.first k)

acks_run : (d : ℕ) (all early mid late : List Command) → early ++ (mid ++ late) ≡ all → Acks (view d (replay early)) → Acks (view d (replay (early ++ mid)))
acks_run d all early [] late e v = subst (λ (l : List Command). Acks (view d (replay l))) (sym (append_nil early)) v
acks_run d all early (c ∷ mid) late e v =
    let p = step_passage d all early (mid ++ late) c e (reaching_at d all early (c ∷ (mid ++ late)) e) in
    let cell : replay (early ++ c ∷ []) ≡ (outcome (replay early) c).cell = replay-append early (c ∷ []) empty_cell in
    subst (λ (l : List Command). Acks (view d (replay l))) (append_assoc early (c ∷ []) mid)
    (acks_run d all (early ++ c ∷ []) mid late (append_assoc early (c ∷ []) (mid ++ late) ∙ e)
    (subst (λ (z : Cell). Acks (view d z)) (sym cell) (acks_passed (roll_of d all) _ _ _ p v)))

acks_lem : (d : ℕ) (commands : List Command) → Acks (view d (replay commands))
acks_lem d commands = acks_run d commands [] commands [] (append_nil commands) (λ x r t a at. absurd (cc))

-- ---- skulks

begin_lone : (g : Cell) (h d : ℕ) (r : Replica) (s t : Stamp) (ns os : List ℕ) → (at_house g h (begin h (g.house h) d r s os)).answer ≡ Complete t ns
    → os ≡ []
begin_lone g h d r s t ns [] e = refl
begin_lone g h d r s t ns (y ∷ ys) e = absurd (cc)

stamped_lone : (g : Cell) (h d : ℕ) (r : Replica) (o : Option Stamp) (t : Stamp) (ns : List ℕ)
    → (at_house g h (skulk_at h (g.house h) d r o)).answer ≡ Complete t ns → others_of h r.members ≡ []
stamped_lone g h d r None t ns e = absurd (cc)
stamped_lone g h d r (Some s) t ns e = begin_lone g h d r s t ns (others_of h r.members) e

skulk_lone : (g : Cell) (h d : ℕ) (o : Slot) (t : Stamp) (ns : List ℕ) → (g.house h).slots d ≡ o
    → (at_house g h (skulk_in h (g.house h) d o)).answer ≡ Complete t ns → IsLone g h d
skulk_lone g h d Absent t ns at e = absurd (cc)
skulk_lone g h d (Gone k) t ns at e = absurd (cc)
skulk_lone g h d (Held r) t ns at e = by_test (eqb (master_of r.members) h) e
  where
    by_test : (b : Bool) → (at_house g h (cond b (skulk_at h (g.house h) d r (stamp_at (g.house h))) (refuses NotMaster))).answer ≡ Complete t ns → IsLone g h d
    by_test true q = record { replica = r; held = at; none = stamped_lone g h d r (stamp_at (g.house h)) t ns q }
    by_test false q = absurd (cc)

-- ---- messages

module _ (commands : List Command) (m : Message) (posted : In m (replay commands).bag) where
  abbrev g : Cell
  g = replay commands

  abbrev now : House
  now = (replay commands).house m.receiver

  row_known : (s : HouseStep) → rows.Row now m s → (at_house g m.receiver s).answer ≡ Foreign → ⊥
  row_known s (rows.passes a q) e = subst rows.IsPassed e q
  row_known s (rows.unlisted r held epoch out) e =
      let is : is_listed m.sender r.members ≡ true = (nevers_lem commands).from_member m r posted held epoch in absurd (cc)
  row_known s (rows.outside ms copy is out) e =
      let both = (nevers_lem commands).among_members m ms copy posted is in
      let true_too : (is_listed m.receiver ms && is_listed m.sender ms) ≡ true =
      ap (λ (b : Bool). b && is_listed m.sender ms) both.0 ∙ both.1 in absurd (cc)
  row_known s _ e = absurd (cc)

  -- the sender has just posted its answer, the others did so before
  all_acked : (t : Stamp) (a : List ℕ) (r : Replica) → m.body ≡ SpreadAck t → now.slots m.dir ≡ Held r → r.phase ≡ Spreading t a → rows.AllIn m r a
      → (y : ℕ) → In y (others_of m.receiver r.members) → TookSpread g m.dir t y
  all_acked t a r is held run all y o = ⊎_elim
      (λ (z : y ≡ m.sender). record { message = m; posted = posted; dir = refl; sender = sym z; body = is })
      (λ (z : In y a).
      let w = acks_lem m.dir commands m.receiver r t a held run y z in
      let i = In-from_dir m.dir (replay commands).bag w.0 w.1 in
      record { message = w.0; posted = i.0; dir = i.1; sender = w.2; body = w.3 })
      (all y o)

  row_completes : (n : ℕ) (t : Stamp) (ns : List ℕ) (s : HouseStep) → message_at g n ≡ Some m → rows.Row now m s
      → (at_house g m.receiver s).answer ≡ Complete t ns → IsLastAck g n t
  row_completes n t ns s at (rows.passes a q) e = elim (subst rows.IsPassed e q) [ ]
  row_completes n t ns s at (rows.completes u a r k run all) e =
      let same : u ≡ t = cc in
      let is : m.body ≡ SpreadAck t = k.is ∙ ap SpreadAck same in
      let runs : r.phase ≡ Spreading t a = run ∙ ap (λ (z : Stamp). Spreading z a) same in
      record { message = m; replica = r; answered = a; at = at; body = is; held = k.held; phase = runs; all = all_acked t a r is k.held runs all }
  row_completes n t ns s at _ e = absurd (cc)

deliver_known : (commands : List Command) (n : ℕ) (o : Option Message) → message_at (replay commands) n ≡ o
    → (deliver (replay commands) o).answer ≡ Foreign → ⊥
deliver_known commands n None at e = absurd (cc)
deliver_known commands n (Some m) at e = by_down (is_down (replay commands) m.receiver) e
  where
    posted : In m (replay commands).bag
    posted = message_posted (replay commands) n ((eqb n 0) || has n (replay commands).lost) m at

    by_down : (b : Bool)
        → (cond b (refusal_outcome (replay commands) command.Down) (at_house (replay commands) m.receiver (take ((replay commands).house m.receiver) m))).answer ≡ Foreign
        → ⊥
    by_down true q = absurd (cc)
    by_down false q = row_known commands m posted _ (rows.take_row ((replay commands).house m.receiver) m) q

deliver_completes : (commands : List Command) (n : ℕ) (o : Option Message) (t : Stamp) (ns : List ℕ) → message_at (replay commands) n ≡ o
    → (deliver (replay commands) o).answer ≡ Complete t ns → IsLastAck (replay commands) n t
deliver_completes commands n None t ns at e = absurd (cc)
deliver_completes commands n (Some m) t ns at e = by_down (is_down (replay commands) m.receiver) e
  where
    posted : In m (replay commands).bag
    posted = message_posted (replay commands) n ((eqb n 0) || has n (replay commands).lost) m at

    by_down : (b : Bool)
        → (cond b (refusal_outcome (replay commands) command.Down) (at_house (replay commands) m.receiver (take ((replay commands).house m.receiver) m))).answer
        ≡ Complete t ns → IsLastAck (replay commands) n t
    by_down true q = absurd (cc)
    by_down false q = row_completes commands m posted n t ns _ at (rows.take_row ((replay commands).house m.receiver) m) q

-- ---- all commands

-- a command that is answered otherwise
plain_holds : (g : Cell) (c : Command) → IsPlain (outcome g c).answer → AnswersHold g c
plain_holds g c p = record { not_foreign = λ e. subst IsPlain e p; completes = λ t ns e. elim (subst IsPlain e p) [ ] }

-- which answers come, of each command
pub answers_lem : (commands : List Command) (c : Command) → AnswersHold (replay commands) c
answers_lem commands (command.Skulk h d) = record {
  not_foreign = λ e. subst IsBegun e (said (replay commands) (command.Skulk h d));
  completes = λ t ns e. at_once h d (skulk_lone (replay commands) h d (((replay commands).house h).slots d) t ns refl
      (unless_complete (replay commands) (first_refusal (refusals_of (replay commands) (command.Skulk h d)))
      (effect (replay commands) (command.Skulk h d)) t ns e));
}
answers_lem commands (command.Deliver n) = record {
  not_foreign = deliver_known commands n (message_at (replay commands) n) refl;
  completes = λ t ns e. with_last n (deliver_completes commands n (message_at (replay commands) n) t ns refl e);
}
answers_lem commands (command.House h node) = plain_holds (replay commands) (command.House h node) (said (replay commands) (command.House h node))
answers_lem commands (command.Clock h time) = plain_holds (replay commands) (command.Clock h time) (said (replay commands) (command.Clock h time))
answers_lem commands (command.Root m rs ss) = plain_holds (replay commands) (command.Root m rs ss) (said (replay commands) (command.Root m rs ss))
answers_lem commands (command.Mkdir h d n m rs ss) =
    plain_holds (replay commands) (command.Mkdir h d n m rs ss) (said (replay commands) (command.Mkdir h d n m rs ss))
answers_lem commands (command.Repoint h d n m rs) =
    plain_holds (replay commands) (command.Repoint h d n m rs) (said (replay commands) (command.Repoint h d n m rs))
answers_lem commands (command.Accept h d u) = plain_holds (replay commands) (command.Accept h d u) (said (replay commands) (command.Accept h d u))
answers_lem commands (command.Epoch d m rs ss) = plain_holds (replay commands) (command.Epoch d m rs ss) (said (replay commands) (command.Epoch d m rs ss))
answers_lem commands (command.Lose n) = plain_holds (replay commands) (command.Lose n) (said (replay commands) (command.Lose n))
answers_lem commands (command.Crash h) = plain_holds (replay commands) (command.Crash h) (said (replay commands) (command.Crash h))
answers_lem commands (command.Start h) = plain_holds (replay commands) (command.Start h) (said (replay commands) (command.Start h))
