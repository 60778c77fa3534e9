-- No stamp of a node is later than the floor of its house: stamps of marks, of skulks that run, and
-- of skulks that completed.
use Rattle.std.proofs.Common.{◌≡◌, ℕ, ◌<◌, ◌≤◌, true, List, [], ◌∷◌, ◌++◌, Option, Some, refl, sym, ap, ◌∙◌, subst, arith}
use Rattle.std.proofs.Common.{le_trans, le_refl}
use Rattle.cds_stamps.specs.declared.stamp.Stamp.{Stamp}
use Rattle.directory.specs.Histories.{Mark, stamp_in}
use Rattle.cell_model.specs.Bodies.{marks_in, round_of, up_to_in}
use Rattle.cell_model.specs.Cells.{Cell, House, Message, Phase, Slot, Replica, empty_cell}
use Rattle.cell_model.specs.Commands.{Accepted, Answer, Command, Complete}
use Rattle.cell_model.specs.Reached.{IsReached}
use Rattle.cell_model.specs.Sets.{In, has}
use Rattle.cell_model.specs.Skulks.{IsCompleted}
use Rattle.cell_model.specs.Steps.{move_house, outcome, replay, replay_from, accepted_updates}
use Rattle.cell_model.specs.Turns.{running_skulk_stamp, with_slot}
use Rattle.cell_model.specs.Agreement.{place_of}
use Rattle.cell_model.proofs.Lists.{append_nil}
use Rattle.cell_model.proofs.Marks.{stamp_next}
use Rattle.cell_model.proofs.Views.{In-of_dir, put_back}
use Rattle.cell_model.proofs.Moves.{Act, Steps, completes, lone, outcome_steps}
use Rattle.cell_model.proofs.Wholes.{Onward, empty_plain, home_of, run_onward, step_onward, up_made}
use Rattle.cell_model.proofs.Passages.{Completing, completing}
use Rattle.cell_model.proofs.Runs.{fit_at, reaching_at, replay-append}
use Rattle.cell_model.proofs.Issues.{logged_at}
use Rattle.cell_model.proofs.Advances.{advances_lem}
use Rattle.cell_model.proofs.NeverComes.{lawful, reaching_last}
use Rattle.cell_model.proofs.Standing.{on_reached}
use Rattle.own_stamps.specs.NoneLater.{HousesGaveTheirs, IsKnown, NoneIsLater}

-- ---- skulks that completed

-- the house of the stamp's node is this one, and its floor is not below the stamp
abbrev GaveIt : (all : List Command) (g : Cell) (t : Stamp) → ℕ → Type 0
GaveIt all g t h = (home_of (replay all) t.node ≡ h) × (t.time ≤ (g.house h).floor)

module _ (all early late : List Command) (c : Command) (whole : early ++ c ∷ late ≡ all) where
  abbrev now : Cell
  now = replay early

  abbrev then : Cell
  then = (outcome now c).cell

  -- the act that completes a skulk is one of the house that gave its stamp
  completed_act : (h d floor : ℕ) (o : Slot) (posts : List Message) (t : Stamp) (ns : List ℕ) (n : List Accepted)
      → Act now h d floor o posts (Complete t ns) n → then ≡ move_house now h (with_slot (now.house h) d floor o) posts → GaveIt all then t h
  completed_act h d floor o posts t ns n (lone _ _ r _ i head alone) is =
      let fit = fit_at d all early (c ∷ late) whole in
      let issued = stamp_next (now.house h).clock (now.house h).floor (now.house h).node t i.next in (
        ap (home_of (replay all)) issued.1 ∙ fit.homes h (up_made now h fit.plain i.up),
        subst (λ (z : Cell). t.time ≤ (z.house h).floor) (sym is)
            (put_back (λ (v : House). t.time ≤ v.floor) now.house h (with_slot (now.house h) d t.time o) (le_refl _)),
      )
  completed_act h d floor o posts t ns n (completes m _ a r _ k run heard) is =
      let runs : running_skulk_stamp r.phase ≡ Some t = subst (λ (y : Phase). running_skulk_stamp y ≡ Some t) (sym run) refl in
      let held = ((reaching_at m.dir all early (c ∷ late) whole).sound.held m.receiver r k.held).phase t runs in
      (held.1, le_trans held.2 ((step_onward now c (fit_at d all early (c ∷ late) whole).plain).rises h))

  completed_step : (t : Stamp) (ns : List ℕ) → (outcome now c).answer ≡ Complete t ns → (h : ℕ) × GaveIt all then t h
  completed_step t ns answers =
      let o = outcome now c in
      let steps : Steps now (place_of now c) o.cell (Complete t ns) o.accepted =
      subst (λ (z : Answer). Steps now (place_of now c) o.cell z o.accepted) answers (outcome_steps now c) in
      let z = completing now o.cell (place_of now c) t ns o.accepted steps in
      (z.house, completed_act z.house z.dir z.floor z.slot z.posts t ns o.accepted z.act z.is)

  -- and no floor falls
  completed_last : (t : Stamp) (ns : List ℕ) → (outcome now c).answer ≡ Complete t ns → (h : ℕ) × GaveIt all (replay all) t h
  completed_last t ns answers =
      let w = completed_step t ns answers in
      let plain = (step_onward now c (run_onward early empty_cell empty_plain).plain).plain in
      let cell : replay_from then late ≡ replay all = sym (replay-append early (c ∷ late) empty_cell) ∙ ap replay whole in
      let rest : Onward then (replay all) = subst (λ (z : Cell). Onward then z) cell (run_onward late then plain) in
      (w.0, (w.1.0, le_trans w.1.1 (rest.rises w.0)))

-- ---- each stamp of a message

module _ (all : List Command) where
  abbrev last : Cell
  last = replay all

  at_home : (x : ℕ) → has x last.made ≡ true → home_of last (last.house x).node ≡ x
  at_home x made = (fit_at 0 all all [] (append_nil all)).homes x made

  -- a house knows each stamp of its node that its house gave
  known_stamp : (t : Stamp) (h x : ℕ) → GaveIt all last t h → has x last.made ≡ true → IsKnown (last.house x).node (last.house x).floor t
  known_stamp t h x gave made same =
      let is : h ≡ x = sym gave.0 ∙ ap (home_of last) same ∙ at_home x made in
      subst (λ (y : ℕ). t.time ≤ (last.house y).floor) is gave.1

  known_mark : (m : Message) (x : ℕ) (k : Mark) → In m last.bag → has x last.made ≡ true → In k (marks_in m.body)
      → IsKnown (last.house x).node (last.house x).floor (stamp_in k)
  known_mark m x k i made has_it same =
      let origin = (reaching_last all m.dir).known.origin_m m (In-of_dir m.dir last.bag m i refl) k has_it in
      let logged = logged_at all in
      let by : ℕ = origin.by.by in
      let gave : GaveIt all last origin.by.stamp by = (
        ap (home_of last) (logged.node origin.by origin.logged) ∙ at_home by (logged.made origin.by origin.logged),
        logged.below origin.by origin.logged,
      ) in
      subst (λ (s : Stamp). IsKnown (last.house x).node (last.house x).floor s) (sym origin.stamp) (known_stamp origin.by.stamp by x gave made) same

  known_round : (m : Message) (x : ℕ) (t : Stamp) → In m last.bag → has x last.made ≡ true → round_of m.body ≡ Some t
      → IsKnown (last.house x).node (last.house x).floor t
  known_round m x t i made is =
      known_stamp t (home_of last t.node) x (refl, ((lawful all m i).round t is).1) made

  known_up_to : (m : Message) (x : ℕ) (t : Stamp) → In m last.bag → has x last.made ≡ true → up_to_in m.body ≡ Some t
      → IsKnown (last.house x).node (last.house x).floor t
  known_up_to m x t i made is =
      let done : IsCompleted all m.dir t ((advances_lem all).messages m t i is).0 = ((advances_lem all).messages m t i is).2 in
      let w = completed_last all done.early done.late done.command done.parts t done.serials done.answer in
      known_stamp t w.0 x w.1 made

  known_last : HousesGaveTheirs last
  known_last m x i made = record {
    marks = λ k has_it. known_mark m x k i made has_it;
    all_up_to = λ t is. known_up_to m x t i made is;
    round = λ t is. known_round m x t i made is;
  }

-- so it is in each cell that is reached
pub gave_theirs : (g : Cell) → IsReached g → HousesGaveTheirs g
gave_theirs = on_reached HousesGaveTheirs known_last
