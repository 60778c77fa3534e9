-- The second round of a skulk, from its start on, at every moment of a run.
use Rattle.std.proofs.Common.{◌≡◌, ℕ, ◌<◌, ◌≤◌, true, List, [], ◌∷◌, ◌++◌, Some, refl, sym, ap, ◌∙◌, subst, arith, ⊎_elim, le_refl, le_trans, append_assoc}
use Rattle.std.proofs.lemmas.Bool.{cases_lt}
use Rattle.cds_stamps.specs.declared.stamp.Stamp.{Stamp}
use Rattle.cds_stamps.specs.Members.{Member, master_of, others_of, is_listed}
use Rattle.directory.specs.Histories.{Mark, stamp_in}
use Rattle.cell_model.specs.Cells.{Phase, Idle, Spreading, Replica, Slot, Held, Gathered, Message, Cell, IsHeld, empty_cell}
use Rattle.cell_model.specs.Commands as commands
use Rattle.cell_model.specs.Commands.{Command, Answer, Complete, Accepted}
use Rattle.cell_model.specs.Sets.{In, has}
use Rattle.cell_model.specs.Turns.{skulk, stamp_at, with_slot, later_up_to, running_skulk_stamp}
use Rattle.cell_model.specs.Steps.{first_refusal, refusals_of, move_house, at_house, outcome, replay_from, replay, accepted_updates}
use Rattle.cell_model.specs.Agreement.{place_of}
use Rattle.cell_model.specs.Provenance.{HasPassed}
use Rattle.cell_model.specs.Rounds.{TookSpread, StartsSecond, with_last, alone, HasHeld, FromSecond, SecondHolds, HasUpTo, WhileSpreading}
use Rattle.cell_model.specs.Rounds.{SpreadingHolds, AfterSpreading, CompletedHolds, CompletedAtOnce}
use Rattle.cell_model.proofs.Lists.{append_nil, up_to_trans}
use Rattle.cell_model.proofs.Terms.{others, listed_or}
use Rattle.cell_model.proofs.Facts.{View, view, Holds, Roll, Sound, Frame}
use Rattle.cell_model.proofs.Bounds.{same_held, reached_held, round_at}
use Rattle.cell_model.proofs.SecondRound.{Spreads, Done, Answered}
use Rattle.cell_model.proofs.Rounds.{Round}
use Rattle.cell_model.proofs.Soundness.{sound_kept}
use Rattle.cell_model.proofs.Starts.{Acked, Covering, Started, started_kept, started_turned, started_alone}
use Rattle.cell_model.proofs.Marks.{stamp_next}
use Rattle.cell_model.proofs.Views.{In-of_dir, In-from_dir}
use Rattle.cell_model.proofs.Moves.{Issuing, Act, lone, completes, Steps, outcome_steps}
use Rattle.cell_model.proofs.Wholes.{Plain, up_made, run_onward, empty_plain}
use Rattle.cell_model.proofs.Passages.{whole_at, Passage, whole, halves, PostedBy, passage_posts, Reaching, Completing, completing, act_completed}
use Rattle.cell_model.proofs.Runs.{replay-append, roll_of, fit_at, step_passage, reaching_at}
use Rattle.cell_model.proofs.Agreeing.{Finished, finished, done_run}
use Rattle.cell_model.proofs.Advances.{same_place}
use Rattle.cell_model.proofs.NeverComes.{reaching_last, lawful}
use Rattle.cell_model.proofs.Provenances.{reached_passed}
use Rattle.cell_model.proofs.Stamping.{skulk_issues, unless_complete}
use Rattle.cell_model.proofs.GatheringRuns.{own_updates}

-- ---- from the start on

started_passed : (roll : Roll) (v v' : View) (n log : List Accepted) (h k : ℕ) (t : Stamp) (x : List Mark) → Passage roll v v' n → Reaching roll v log
    → Started roll v h k t x → Started roll v' h k t x
started_passed roll v v' n log h k t x (whole f acc) r b = started_kept roll v v' n r.sound (sound_kept roll v v' n r.sound f) f h k t x b
started_passed roll v v' n log h k t x (halves w) r b =
    let s1 = sound_kept roll v w.mid n r.sound w.first in
    started_kept roll w.mid v' [] s1 (sound_kept roll w.mid v' [] s1 w.second) w.second h k t x
    (started_kept roll v w.mid n r.sound s1 w.first h k t x b)

started_run : (d : ℕ) (all early mid late : List Command) (h k : ℕ) (t : Stamp) (x : List Mark) → early ++ (mid ++ late) ≡ all
    → Started (roll_of d all) (view d (replay early)) h k t x → Started (roll_of d all) (view d (replay (early ++ mid))) h k t x
started_run d all early [] late h k t x e b = subst (λ (l : List Command). Started (roll_of d all) (view d (replay l)) h k t x) (sym (append_nil early)) b
started_run d all early (c ∷ mid) late h k t x e b =
    let g = replay early in
    let o = outcome g c in
    let r = reaching_at d all early (c ∷ (mid ++ late)) e in
    let p = step_passage d all early (mid ++ late) c e r in
    let cell : replay (early ++ c ∷ []) ≡ o.cell = replay-append early (c ∷ []) empty_cell in
    let next : Started (roll_of d all) (view d o.cell) h k t x = started_passed (roll_of d all) (view d g) (view d o.cell) o.accepted _ h k t x p r b in
    subst (λ (l : List Command). Started (roll_of d all) (view d (replay l)) h k t x) (append_assoc early (c ∷ []) mid)
    (started_run d all (early ++ c ∷ []) mid late h k t x (append_assoc early (c ∷ []) (mid ++ late)
    ∙ e) (subst (λ (z : Cell). Started (roll_of d all) (view d z) h k t x) (sym cell) next))

-- ---- the start at a master that is alone

-- what a skulk that completes by its command does
record Alone (g : Cell) (h d : ℕ) (o : Slot) (t : Stamp) : Type 0 where
  was : Replica
  issuing : Issuing g h d was t
  head : master_of was.members ≡ h
  none : others_of h was.members ≡ []
  is : o ≡ Held (record was { all_up_to = later_up_to was.all_up_to t; phase = Idle })

act_alone : (g : Cell) (h d floor : ℕ) (o : Slot) (posts : List Message) (t : Stamp) (ns : List ℕ) (n : List Accepted)
    → ((r : Replica) → IsHeld g h d r → running_skulk_stamp r.phase ≡ Some t → t.time ≤ (g.house h).floor) → stamp_at (g.house h) ≡ Some t
    → Act g h d floor o posts (Complete t ns) n → Alone g h d o t
act_alone g h d floor o posts t ns n low new (lone _ _ r _ i head none) = record { was = r; issuing = i; head = head; none = none; is = refl }
act_alone g h d floor o posts t ns n low new (completes m _ a r _ k run all) =
    let z = stamp_next (g.house m.receiver).clock (g.house m.receiver).floor (g.house m.receiver).node t new in
    let w = low r k.held (subst (λ (y : Phase). running_skulk_stamp y ≡ Some t) (sym run) refl) in
    absurd (omega (arith, z.0))

-- the frame of a step at a house that holds the directory
frame_of : (roll : Roll) (v v' : View) (n : List Accepted) (h : ℕ) (r : Replica) → Passage roll v v' n → Holds v h r → Frame roll v v' n
frame_of roll v v' n h r (whole f acc) at = f
frame_of roll v v' n h r (halves w) at = absurd (w.vacant h r at)

record Start (all early : List Command) (c : Command) (h d : ℕ) (r : Replica) (t : Stamp) : Type 0 where
  started : Started (roll_of d all) (view d (replay (early ++ c ∷ []))) h r.epoch t r.history
  answers : (y : ℕ) → In y (others_of h r.members) → Answered (view d (replay (early ++ c ∷ []))) t y

module _ (all early late : List Command) (h d : ℕ) (r : Replica) (t : Stamp) (ns : List ℕ) (is : early ++ commands.Skulk h d ∷ late ≡ all)
    (complete : (outcome (replay early) (commands.Skulk h d)).answer ≡ Complete t ns) (held : IsHeld (replay (early ++ commands.Skulk h d ∷ [])) h d r) where
  abbrev g : Cell
  g = replay early

  abbrev c : Command
  c = commands.Skulk h d

  abbrev o' : Cell
  o' = (outcome (replay early) (commands.Skulk h d)).cell

  abbrev roll : Roll
  roll = roll_of d all

  cell : replay (early ++ c ∷ []) ≡ o'
  cell = replay-append early (c ∷ []) empty_cell

  r0 : Reaching roll (view d g) (accepted_updates early)
  r0 = reaching_at d all early (c ∷ late) is

  alone_at : Completing g o' (Some (h, d)) t ns (outcome g c).accepted → Start all early c h d r t
  alone_at z = by_place z.house z.dir z.floor z.slot z.posts (same_place h d z.house z.dir z.at) z.act z.is
    where
      new : stamp_at (g.house h) ≡ Some t
      new = skulk_issues g h d ((g.house h).slots d) t ns
          (unless_complete g (first_refusal (refusals_of g c)) (at_house g h (skulk h (g.house h) d)) t ns complete)

      low : (q : Replica) → IsHeld g h d q → running_skulk_stamp q.phase ≡ Some t → t.time ≤ (g.house h).floor
      low q at run = ((r0.sound.held h q at).phase t run).2

      here : (floor : ℕ) (o : Slot) (posts : List Message) → Act g h d floor o posts (Complete t ns) (outcome g c).accepted
          → o' ≡ move_house g h (with_slot (g.house h) d floor o) posts → Start all early c h d r t
      here floor o posts act same_cell =
          let a = act_alone g h d floor o posts t ns (outcome g c).accepted low new act in
          let w = whole_at roll g (fit_at d all early (c ∷ late) is) in
          let done = act_completed roll g h d floor o posts t ns (outcome g c).accepted w r0.sound r0.rounds refl act in
          let f : Frame roll (view d g) (view d o') (outcome g c).accepted =
          frame_of roll (view d g) (view d o') (outcome g c).accepted h a.was (step_passage d all early late c is r0) a.issuing.held in
          let s' : Sound roll (view d o') = sound_kept roll (view d g) (view d o') (outcome g c).accepted r0.sound f in
          let at : IsHeld o' h d done.replica = subst (λ (y : Cell). IsHeld y h d done.replica) (sym same_cell) done.holds in
          let mine : done.replica ≡ r = same_held _ done.replica r at (subst (λ (y : Cell). IsHeld y h d r) cell held) in
          let shape : Held done.replica ≡ Held (record a.was { all_up_to = later_up_to a.was.all_up_to t; phase = Idle }) = sym done.is ∙ a.is in
          let q : done.replica ≡ record a.was { all_up_to = later_up_to a.was.all_up_to t; phase = Idle } = cc in
          let members : done.replica.members ≡ a.was.members = ap (λ (z : Replica). z.members) q in
          let issued = stamp_next (g.house h).clock (g.house h).floor (g.house h).node t a.issuing.next in
          let home : roll.home t.node ≡ h = ap roll.home issued.1 ∙ w.at_home h (up_made g h (fit_at d all early (c ∷ late) is).plain a.issuing.up) in
          let d' : Done roll (view d o') done.replica.epoch t done.replica.history =
          subst (λ (y : Cell). Done roll (view d y) done.replica.epoch t done.replica.history) (sym same_cell) done.done in
          let b : Started roll (view d o') h done.replica.epoch t done.replica.history =
          started_alone roll (view d g) (view d o') (outcome g c).accepted h done.replica t r0.sound s' f at (ap (λ (z : Replica). z.phase) q) (ap master_of members
          ∙ a.head) home issued.0 (d'.bounded.floors h done.replica at (le_refl _)) d' in
          record {
            started = subst (λ (y : Cell). Started roll (view d y) h r.epoch t r.history) (sym cell)
                (subst (λ (z : Replica). Started roll (view d o') h z.epoch t z.history) mine b);
            answers = λ y i. absurd
                (nobody y (subst (λ (z : List ℕ). In y z) (ap (λ (z : Replica). others_of h z.members) (sym mine) ∙ ap (others_of h) members ∙ a.none) i));
          }
        where
          nobody : (y : ℕ) → In y [] → ⊥
          nobody y i = i

      by_place : (x k floor : ℕ) (o : Slot) (posts : List Message) → (h ≡ x) × (d ≡ k) → Act g x k floor o posts (Complete t ns) (outcome g c).accepted
          → o' ≡ move_house g x (with_slot (g.house x) k floor o) posts → Start all early c h d r t
      by_place x k floor o posts e act same_cell =
          here floor o posts
          (subst (λ (y : ℕ). Act g y d floor o posts (Complete t ns) (outcome g c).accepted) (sym e.0)
          (subst (λ (y : ℕ). Act g x y floor o posts (Complete t ns) (outcome g c).accepted) (sym e.1) act))
          (subst (λ (y : ℕ). o' ≡ move_house g y (with_slot (g.house y) d floor o) posts) (sym e.0)
          (subst (λ (y : ℕ). o' ≡ move_house g x (with_slot (g.house x) y floor o) posts) (sym e.1) same_cell))

  start_alone : Start all early c h d r t
  start_alone = alone_at
      (completing g o' (Some (h, d)) t ns (outcome g c).accepted
      (subst (λ (z : Answer). Steps g (Some (h, d)) o' z (outcome g c).accepted) complete (outcome_steps g c)))

-- ---- the start with the last answer

start_last : (all early late : List Command) (c : Command) (h d : ℕ) (r : Replica) (t : Stamp) → early ++ c ∷ late ≡ all
    → IsHeld (replay (early ++ c ∷ [])) h d r → r.phase ≡ Spreading t [] → Start all early c h d r t
start_last all early late c h d r t is at phase =
    let here = reaching_at d all (early ++ c ∷ []) late (append_assoc early (c ∷ []) late ∙ is) in
    let v : View = view d (replay (early ++ c ∷ [])) in
    let spreads : Spreads (roll_of d all) v h r t [] = subst (λ (z : Phase). Round (roll_of d all) v h r z) phase (here.rounds h r at) in
    let ok = here.sound.held h r at in
    let head = (ok.phase t (subst (λ (z : Phase). running_skulk_stamp z ≡ Some t) (sym phase) refl)).0 in
    record {
      started = started_turned (roll_of d all) v h r t here.sound at phase spreads;
      answers = λ y o. spreads.answers y
          (subst (λ (z : List Member). In y (others z)) ok.members (subst (λ (z : ℕ). In y (others_of z r.members)) (sym head) o));
    }

start_held : (early : List Command) (c : Command) (h d : ℕ) (r : Replica) (t : Stamp) → StartsSecond early c h d r t → IsHeld (replay (early ++ c ∷ [])) h d r
start_held early c h d r t (with_last q a hq run at phase) = at
start_held early c h d r t (alone ns is complete at) = at

start_of : (all early late : List Command) (c : Command) (h d : ℕ) (r : Replica) (t : Stamp) → early ++ c ∷ late ≡ all → StartsSecond early c h d r t
    → Start all early c h d r t
start_of all early late c h d r t is (with_last q a hq run at phase) = start_last all early late c h d r t is at phase
start_of all early late c h d r t is (alone ns skulks complete at) =
    let at' = subst (λ (z : Command). IsHeld (replay (early ++ z ∷ [])) h d r) skulks at in
    let complete' = subst (λ (z : Command). (outcome (replay early) z).answer ≡ Complete t ns) skulks complete in
    let is' = subst (λ (z : Command). early ++ z ∷ late ≡ all) skulks is in
    subst (λ (z : Command). Start all early z h d r t) (sym skulks) (start_alone all early late h d r t ns is' complete' at')

-- ---- who has held an epoch

-- the sender of a posted message held its epoch
abbrev SendersHeld : List Command → Type 0
SendersHeld commands = (m : Message) → In m (replay commands).bag → HasHeld commands m.sender m.dir m.epoch

held_on : (commands more : List Command) (y d k : ℕ) → HasHeld commands y d k → HasHeld (commands ++ more) y d k
held_on commands more y d k w = record {
  early = w.early;
  late = w.late ++ more;
  replica = w.replica;
  parts = sym (append_assoc w.early w.late more)
      ∙ ap (λ (l : List Command). l ++ more) w.parts;
  held = w.held;
  epoch = w.epoch;
}

senders_step : (early : List Command) (c : Command) → SendersHeld early → SendersHeld (early ++ c ∷ [])
senders_step early c w m i = ⊎_elim
    (λ was. held_on early (c ∷ []) m.sender m.dir m.epoch (w m (In-from_dir m.dir (replay early).bag m was).0))
    (λ (p : PostedBy (view m.dir (outcome (replay early) c).cell) m).
    record {
      early = early ++ c ∷ [];
      late = [];
      replica = p.replica;
      parts = append_nil (early ++ c ∷ []);
      held =
          subst (λ (z : Cell). IsHeld z m.sender m.dir p.replica) (sym cell) p.held;
      epoch = p.epoch;
    })
    (passage_posts (roll_of m.dir (early ++ c ∷ [])) _ _ _
    (step_passage m.dir (early ++ c ∷ []) early [] c refl (reaching_at m.dir (early ++ c ∷ []) early (c ∷ []) refl)) m
    (In-of_dir m.dir (outcome (replay early) c).cell.bag m (subst (λ (z : Cell). In m z.bag) cell i) refl))
  where
    cell : replay (early ++ c ∷ []) ≡ (outcome (replay early) c).cell
    cell = replay-append early (c ∷ []) empty_cell

senders_run : (early mid : List Command) → SendersHeld early → SendersHeld (early ++ mid)
senders_run early [] w = subst (λ (l : List Command). SendersHeld l) (sym (append_nil early)) w
senders_run early (c ∷ mid) w =
    subst (λ (l : List Command). SendersHeld l) (append_assoc early (c ∷ []) mid) (senders_run (early ++ c ∷ []) mid (senders_step early c w))

senders_lem : (commands : List Command) → SendersHeld commands
senders_lem commands = senders_run [] commands (λ m i. elim i [ ])

-- ---- from the second round on

module _ (all early late : List Command) (c : Command) (h d : ℕ) (r : Replica) (t : Stamp) (is : early ++ c ∷ late ≡ all)
    (starts : StartsSecond early c h d r t) where
  abbrev roll1 : Roll
  roll1 = roll_of d all

  begun : List Command
  begun = early ++ c ∷ []

  begun_is : (early ++ c ∷ []) ++ late ≡ all
  begun_is = append_assoc early (c ∷ []) late ∙ is

  at_start : Start all early c h d r t
  at_start = start_of all early late c h d r t is starts

  now : Started roll1 (view d (replay all)) h r.epoch t r.history
  now = subst (λ (l : List Command). Started (roll_of d all) (view d (replay l)) h r.epoch t r.history) begun_is
      (started_run d all (early ++ c ∷ []) late [] h r.epoch t r.history (ap (λ (l : List Command). (early ++ c ∷ []) ++ l) (append_nil late)
      ∙ begun_is) at_start.started)

  last : Reaching roll1 (view d (replay all)) (accepted_updates all)
  last = reaching_last all d

  members_are : r.members ≡ roll1.list r.epoch
  members_are = ((reaching_at d all (early ++ c ∷ []) late begun_is).sound.held h r (start_held early c h d r t starts)).members

  heads : master_of r.members ≡ h
  heads = ap master_of members_are ∙ at_start.started.head

  -- the other members, by the list of the run and by the master's own
  other : (y : ℕ) → In y (others (roll1.list r.epoch)) → In y (others_of h r.members)
  other y o = subst (λ (z : ℕ). In y (others_of z r.members)) heads (subst (λ (z : List Member). In y (others z)) (sym members_are) o)

  has_held : (y : ℕ) → is_listed y r.members ≡ true → HasHeld all y d r.epoch
  has_held y l = ⊎_elim
      (λ (e : y ≡ h). record {
        early = early ++ c ∷ [];
        late = late;
        replica = r;
        parts = begun_is;
        held =
            subst (λ (z : ℕ). IsHeld (replay (early ++ c ∷ [])) z d r) (sym e) (start_held early c h d r t starts);
        epoch = refl;
      })
      (λ o.
      let w = at_start.answers y o in
      let i = In-from_dir d (replay (early ++ c ∷ [])).bag w.0 w.2 in
      let e = at_start.started.epochs w.0 w.2 (round_at w.0 (Gathered t w.1) t w.4 refl) in
      let held : HasHeld (early ++ c ∷ []) y d r.epoch =
      subst (λ (z : ℕ). HasHeld (early ++ c ∷ []) z d r.epoch) w.3
      (subst (λ (z : ℕ). HasHeld (early ++ c ∷ []) (w.0).sender z r.epoch) i.1
      (subst (λ (z : ℕ). HasHeld (early ++ c ∷ []) (w.0).sender (w.0).dir z) e (senders_lem (early ++ c ∷ []) w.0 i.0))) in
      subst (λ (l : List Command). HasHeld l y d r.epoch) begun_is (held_on (early ++ c ∷ []) late y d r.epoch held))
      (listed_or y h r.members l)

  -- the floors of houses do not fall from the start on
  rises : (y : ℕ) → ((replay (early ++ c ∷ [])).house y).floor ≤ ((replay all).house y).floor
  rises y =
      let cell : replay_from (replay (early ++ c ∷ [])) late ≡ replay all = sym (replay-append (early ++ c ∷ []) late empty_cell) ∙ ap replay begun_is in
      subst (λ (z : Cell). ((replay (early ++ c ∷ [])).house y).floor ≤ (z.house y).floor) cell
      ((run_onward late (replay (early ++ c ∷ [])) (run_onward (early ++ c ∷ []) empty_cell empty_plain).plain).rises y)

  -- each member has a floor of at least the time of t
  high : (y : ℕ) → is_listed y r.members ≡ true → t.time ≤ ((replay all).house y).floor
  high y l = ⊎_elim
      (λ (e : y ≡ h). subst (λ (z : ℕ). t.time ≤ ((replay all).house z).floor) (sym e) now.low)
      (λ o.
      let w = at_start.answers y o in
      let i = In-from_dir d (replay (early ++ c ∷ [])).bag w.0 w.2 in
      let said = lawful (early ++ c ∷ []) w.0 i.0 in
      let low = (said.round t (round_at w.0 (Gathered t w.1) t w.4 refl)).0 in
      subst (λ (z : ℕ). t.time ≤ ((replay all).house z).floor) w.3 (le_trans low (le_trans said.floor (rises (w.0).sender))))
      (listed_or y h r.members l)

  from_second : FromSecond all d r t
  from_second = record {
    sentences = record {
      houses = λ x q j hq le i up. now.bounded.within x q j hq le i up;
      messages = λ m j i dir le ij up. now.bounded.within_m m j (In-of_dir d (replay all).bag m i dir) le ij up;
      updates = λ u q j i dir hq le since up ij.
          let stamped = (last.known.well u i dir).stamped j ij in
          now.bounded.within u.by q j hq le (own_updates roll1 (view d (replay all)) (accepted_updates all) last.sound last.known u q i dir hq since j ij)
          (up_to_trans (stamp_in j) u.stamp t stamped up);
      later_houses = λ x q hq lt. now.bounded.floors x q hq (omega arith);
      later_messages = λ m i dir lt. now.bounded.sent m (In-of_dir d (replay all).bag m i dir) lt;
    };
    floors = λ x q hq le. now.bounded.floors x q hq le;
    answered = high;
    members = has_held;
  }

  while_spreading : ((y : ℕ) → In y (others_of h r.members) → HasPassed (replay all) y d r.epoch → TookSpread (replay all) d t y)
      → WhileSpreading (replay all) h d r t
  while_spreading p = record {
    master = λ q hq j i up. ⊎_elim
        (λ (lt : r.epoch < q.epoch). covers.later h q hq lt j i up)
        (λ (ge : q.epoch ≤ r.epoch).
        let low : r.epoch ≤ q.epoch = reached_held r.epoch _ q hq (now.bounded.members h now.listed.0 now.listed.1) in
        now.master q hq (omega arith) j i up)
        (cases_lt r.epoch q.epoch);
    members = λ y q w hq j i up. covers.took y q (acked y w) hq j i up;
    later = λ x q hq lt j i up. covers.later x q hq lt j i up;
    joins = λ m ms copy im dir body lt j i up. covers.joins m ms copy (In-of_dir d (replay all).bag m im dir) body lt j i up;
  }
    where
      acked : (y : ℕ) → TookSpread (replay all) d t y → Acked (view d (replay all)) t y
      acked y w = (w.message, In-of_dir d (replay all).bag w.message w.posted w.dir, w.sender, w.body)

      covers : Covering (view d (replay all)) r.epoch t r.history
      covers = now.covers (λ y o up. let w = p y (other y o) (reached_passed r.epoch _ up) in
          (w.message, In-of_dir d (replay all).bag w.message w.posted w.dir, w.sender, w.body))

-- what holds from the start of the second round on holds in every run
pub second_lem : (all : List Command) → SecondHolds all
second_lem all early late c h d r t is starts = from_second all early late c h d r t is starts

-- what spreading brings about, in every run
pub spreading_lem : (all : List Command) → SpreadingHolds all
spreading_lem all early late c h d r t is starts p = while_spreading all early late c h d r t is starts p

-- ---- from completion on

-- what a completed skulk leaves, in terms of what the master had at the start
after_done : (all : List Command) (d : ℕ) (r : Replica) (t : Stamp) (k : ℕ) (marks : List Mark) → Done (roll_of d all) (view d (replay all)) k t marks
    → k ≡ r.epoch → HasUpTo t r.history marks → AfterSpreading (replay all) d r t
after_done all d r t k marks done e sub = record {
  houses = λ x q hq le j i up. done.kept x q j hq (omega arith) (sub j i up) up;
  joins = λ m ms copy im dir body lt j i up. done.joins m ms copy j (In-of_dir d (replay all).bag m im dir) body (omega arith) (sub j i up) up;
}

-- the master that completes has what it had at the start
act_keeps : (roll : Roll) (g : Cell) (h k : ℕ) (X : List Mark) (x d floor : ℕ) (o : Slot) (posts : List Message) (t : Stamp) (ns : List ℕ)
    (n : List Accepted) → ((y : ℕ) → has y g.made ≡ true → roll.home (g.house y).node ≡ y) → Plain g → Started roll (view d g) h k t X
    → Act g x d floor o posts (Complete t ns) n → (q : Replica) × (o ≡ Held q) × (q.epoch ≡ k) × HasUpTo t X q.history
act_keeps roll g h k X x d floor o posts t ns n homes plain b (lone _ _ r _ i head none) =
    let issued = stamp_next (g.house x).clock (g.house x).floor (g.house x).node t i.next in
    let here : x ≡ h = sym (homes x (up_made g x plain i.up)) ∙ ap roll.home (sym issued.1) ∙ b.home in
    absurd (omega (arith, issued.0, subst (λ (y : ℕ). t.time ≤ (g.house y).floor) (sym here) b.low))
act_keeps roll g h k X x d floor o posts t ns n homes plain b (completes m _ a r _ taking run all) =
    let w = b.runs m.receiver r taking.held (subst (λ (y : Phase). running_skulk_stamp y ≡ Some t) (sym run) refl) in
    (record r { all_up_to = later_up_to r.all_up_to t; phase = Idle }, refl, w.0, w.1)

module _ (all early late : List Command) (e : Command) (h k x d : ℕ) (r : Replica) (t : Stamp) (ns : List ℕ) (is : early ++ e ∷ late ≡ all)
    (b : Started (roll_of d all) (view d (replay early)) h r.epoch t r.history) (complete : (outcome (replay early) e).answer ≡ Complete t ns)
    (at : place_of (replay early) e ≡ Some (x, d)) where
  abbrev g2 : Cell
  g2 = replay early

  abbrev roll2 : Roll
  roll2 = roll_of d all

  after_act : (floor : ℕ) (o : Slot) (posts : List Message) → Act g2 x d floor o posts (Complete t ns) (outcome g2 e).accepted
      → (outcome g2 e).cell ≡ move_house g2 x (with_slot (g2.house x) d floor o) posts → AfterSpreading (replay all) d r t
  after_act floor o posts act same_cell =
      let here = reaching_at d all early (e ∷ late) is in
      let fit = fit_at d all early (e ∷ late) is in
      let keeps = act_keeps roll2 g2 h r.epoch r.history x d floor o posts t ns (outcome g2 e).accepted fit.homes fit.plain b act in
      let done = act_completed roll2 g2 x d floor o posts t ns (outcome g2 e).accepted (whole_at roll2 g2 fit) here.sound here.rounds refl act in
      let shape : Held done.replica ≡ Held keeps.0 = sym done.is ∙ keeps.1 in
      let q : done.replica ≡ keeps.0 = cc in
      let cell : replay (early ++ e ∷ []) ≡ move_house g2 x (with_slot (g2.house x) d floor o) posts = replay-append early (e ∷ []) empty_cell ∙ same_cell in
      let split : (early ++ e ∷ []) ++ late ≡ all = append_assoc early (e ∷ []) late ∙ is in
      let first : Done roll2 (view d (replay (early ++ e ∷ []))) done.replica.epoch t done.replica.history =
      subst (λ (y : Cell). Done roll2 (view d y) done.replica.epoch t done.replica.history) (sym cell) done.done in
      let end : Done roll2 (view d (replay all)) done.replica.epoch t done.replica.history =
      subst (λ (l : List Command). Done roll2 (view d (replay l)) done.replica.epoch t done.replica.history) split
      (done_run d all (early ++ e ∷ []) late [] done.replica.epoch t done.replica.history (ap (λ (l : List Command). (early ++ e ∷ []) ++ l) (append_nil late)
      ∙ split) first) in
      after_done all d r t done.replica.epoch done.replica.history end (ap (λ (z : Replica). z.epoch) q
      ∙ keeps.2) (subst (λ (z : Replica). HasUpTo t r.history z.history) (sym q) keeps.3)

  after_place : Completing g2 (outcome g2 e).cell (place_of g2 e) t ns (outcome g2 e).accepted → AfterSpreading (replay all) d r t
  after_place z = by_place z.house z.dir z.floor z.slot z.posts (same_place x d z.house z.dir (sym at ∙ z.at)) z.act z.is
    where
      by_place : (y k' floor : ℕ) (o : Slot) (posts : List Message) → (x ≡ y) × (d ≡ k') → Act g2 y k' floor o posts (Complete t ns) (outcome g2 e).accepted
          → (outcome g2 e).cell ≡ move_house g2 y (with_slot (g2.house y) k' floor o) posts → AfterSpreading (replay all) d r t
      by_place y k' floor o posts s act same_cell =
          after_act floor o posts
          (subst (λ (z : ℕ). Act g2 z d floor o posts (Complete t ns) (outcome g2 e).accepted) (sym s.0)
          (subst (λ (z : ℕ). Act g2 y z floor o posts (Complete t ns) (outcome g2 e).accepted) (sym s.1) act))
          (subst (λ (z : ℕ). (outcome g2 e).cell ≡ move_house g2 z (with_slot (g2.house z) d floor o) posts) (sym s.0)
          (subst (λ (z : ℕ). (outcome g2 e).cell ≡ move_house g2 y (with_slot (g2.house y) z floor o) posts) (sym s.1) same_cell))

  after_complete : AfterSpreading (replay all) d r t
  after_complete = after_place
      (completing g2 (outcome g2 e).cell (place_of g2 e) t ns (outcome g2 e).accepted
      (subst (λ (z : Answer). Steps g2 (place_of g2 e) (outcome g2 e).cell z (outcome g2 e).accepted) complete (outcome_steps g2 e)))

-- what a completed skulk leaves, in every run
pub completed_lem : (all : List Command) → CompletedHolds all
completed_lem all early mid late c e h x d r t ns is starts complete at =
    let start = start_of all early (mid ++ e ∷ late) c h d r t is starts in
    let split : (early ++ c ∷ []) ++ (mid ++ e ∷ late) ≡ all = append_assoc early (c ∷ []) (mid ++ e ∷ late) ∙ is in
    let then : Started (roll_of d all) (view d (replay (early ++ c ∷ mid))) h r.epoch t r.history =
    subst (λ (l : List Command). Started (roll_of d all) (view d (replay l)) h r.epoch t r.history) (append_assoc early (c ∷ []) mid)
    (started_run d all (early ++ c ∷ []) mid (e ∷ late) h r.epoch t r.history split start.started) in
    after_complete all (early ++ c ∷ mid) late e h r.epoch x d r t ns (append_assoc early (c ∷ mid) (e ∷ late) ∙ is) then complete at

-- a skulk that completes in the step that begins it
at_once : (all early late : List Command) (h d : ℕ) (r : Replica) (t : Stamp) (ns : List ℕ) → early ++ commands.Skulk h d ∷ late ≡ all
    → IsHeld (replay (early ++ commands.Skulk h d ∷ [])) h d r → Finished all early (commands.Skulk h d) t → AfterSpreading (replay all) d r t
at_once all early late h d r t ns is held f =
    let same_at = same_place f.house f.dir h d (sym f.at) in
    let split : (early ++ commands.Skulk h d ∷ []) ++ late ≡ all = append_assoc early (commands.Skulk h d ∷ []) late ∙ is in
    let here : IsHeld (replay (early ++ commands.Skulk h d ∷ [])) h d f.replica =
    subst (λ (x : ℕ). IsHeld (replay (early ++ commands.Skulk h d ∷ [])) x d f.replica) same_at.0
    (subst (λ (z : ℕ). IsHeld (replay (early ++ commands.Skulk h d ∷ [])) f.house z f.replica) same_at.1 f.holds) in
    let same : f.replica ≡ r = same_held _ f.replica r here held in
    let done : Done (roll_of d all) (view d (replay (early ++ commands.Skulk h d ∷ []))) f.replica.epoch t f.replica.history =
    subst (λ (z : ℕ). Done (roll_of z all) (view z (replay (early ++ commands.Skulk h d ∷ []))) f.replica.epoch t f.replica.history) same_at.1 f.done in
    let end : Done (roll_of d all) (view d (replay all)) f.replica.epoch t f.replica.history =
    subst (λ (l : List Command). Done (roll_of d all) (view d (replay l)) f.replica.epoch t f.replica.history) split
    (done_run d all (early ++ commands.Skulk h d ∷ []) late [] f.replica.epoch t f.replica.history
    (ap (λ (l : List Command). (early ++ commands.Skulk h d ∷ []) ++ l) (append_nil late) ∙ split) done) in
    after_done all d r t f.replica.epoch f.replica.history end (ap (λ (z : Replica). z.epoch) same)
    (λ j i up. subst (λ (z : Replica). In j z.history) (sym same) i)

-- a skulk that completes at once leaves the same
pub at_once_lem : (all : List Command) → CompletedAtOnce all
at_once_lem all early late h d r t ns is complete held =
    at_once all early late h d r t ns is held (finished all early late (commands.Skulk h d) t ns is complete)
