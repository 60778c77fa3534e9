-- From a completed skulk on, all agree.
use Rattle.std.proofs.Common.{◌≡◌, ℕ, ◌≤◌, List, [], ◌∷◌, ◌++◌, Some, refl, sym, ap, ◌∙◌, subst, append_assoc}
use Rattle.cds_stamps.specs.declared.stamp.Stamp.{Stamp}
use Rattle.cds_stamps.specs.Members.{Member, since_in}
use Rattle.directory.specs.Histories.{Mark, stamp_in}
use Rattle.cell_model.specs.Cells.{Replica, Cell, IsHeld, empty_cell}
use Rattle.cell_model.specs.Commands.{Command, Answer, Complete, Accepted}
use Rattle.cell_model.specs.Sets.{In, IsPart}
use Rattle.cell_model.specs.Turns.{with_slot}
use Rattle.cell_model.specs.Steps.{move_house, outcome, replay, accepted_updates}
use Rattle.cell_model.specs.Agreement.{place_of, IsAgreed, Agrees, Converges}
use Rattle.cell_model.proofs.Lists.{append_nil, up_to_trans, In-append_left}
use Rattle.cell_model.proofs.Terms.{Listed}
use Rattle.cell_model.proofs.Facts.{View, view, Holds, Roll, Sound}
use Rattle.cell_model.proofs.SecondRound.{Done}
use Rattle.cell_model.proofs.Moves.{Steps, outcome_steps}
use Rattle.cell_model.proofs.Known.{Known}
use Rattle.cell_model.proofs.Passages.{whole_at, done_passed, completing, act_completed}
use Rattle.cell_model.proofs.Deletions.{deleted}
use Rattle.cell_model.proofs.Issues.{logged_at}
use Rattle.cell_model.proofs.Runs.{replay-append, accepted-append, roll_of, fit_at, step_passage, reaching_at}

-- what a completed skulk leaves stays
pub done_run : (d : ℕ) (all early mid late : List Command) (k : ℕ) (t : Stamp) (marks : List Mark) → early ++ (mid ++ late) ≡ all
    → Done (roll_of d all) (view d (replay early)) k t marks → Done (roll_of d all) (view d (replay (early ++ mid))) k t marks
done_run d all early [] late k t marks e done = subst (λ (l : List Command). Done (roll_of d all) (view d (replay l)) k t marks) (sym (append_nil early)) done
done_run d all early (c ∷ mid) late k t marks e done =
    let g = replay early in
    let o = outcome g c in
    let r = reaching_at d all early (c ∷ (mid ++ late)) e in
    let p = step_passage d all early (mid ++ late) c e r in
    let cell : replay (early ++ c ∷ []) ≡ o.cell = replay-append early (c ∷ []) empty_cell in
    let next : Done (roll_of d all) (view d o.cell) k t marks = done_passed (roll_of d all) (view d g) (view d o.cell) o.accepted _ k t marks p r done in
    subst (λ (l : List Command). Done (roll_of d all) (view d (replay l)) k t marks) (append_assoc early (c ∷ []) mid)
    (done_run d all (early ++ c ∷ []) mid late k t marks (append_assoc early (c ∷ []) (mid ++ late)
    ∙ e) (subst (λ (z : Cell). Done (roll_of d all) (view d z) k t marks) (sym cell) next))

-- the step that completes, and where
pub record Finished (all early : List Command) (c : Command) (t : Stamp) : Type 0 where
  pub house : ℕ
  pub dir : ℕ
  pub replica : Replica
  pub at : place_of (replay early) c ≡ Some (house, dir)
  pub holds : IsHeld (replay (early ++ c ∷ [])) house dir replica
  pub done : Done (roll_of dir all) (view dir (replay (early ++ c ∷ []))) replica.epoch t replica.history

-- a command that answers that a skulk completes leaves the skulk finished in the whole run
pub finished : (all early late : List Command) (c : Command) (t : Stamp) (ns : List ℕ) → early ++ c ∷ late ≡ all
    → (outcome (replay early) c).answer ≡ Complete t ns → Finished all early c t
finished all early late c t ns is complete =
    let g = replay early in
    let o = outcome g c in
    let steps : Steps g (place_of g c) o.cell (Complete t ns) o.accepted =
    subst (λ (a : Answer). Steps g (place_of g c) o.cell a o.accepted) complete (outcome_steps g c) in
    let z = completing g o.cell (place_of g c) t ns o.accepted steps in
    let roll = roll_of z.dir all in
    let r = reaching_at z.dir all early (c ∷ late) is in
    let w = whole_at roll g (fit_at z.dir all early (c ∷ late) is) in
    let done = act_completed roll g z.house z.dir z.floor z.slot z.posts t ns o.accepted w r.sound r.rounds refl z.act in
    let cell : replay (early ++ c ∷ []) ≡ move_house g z.house (with_slot (g.house z.house) z.dir z.floor z.slot) z.posts = replay-append early (c ∷ []) empty_cell
    ∙ z.is in
    record {
      house = z.house;
      dir = z.dir;
      replica = done.replica;
      at = z.at;
      holds = subst (λ (y : Cell). IsHeld y z.house z.dir done.replica) (sym cell) done.holds;
      done = subst (λ (y : Cell). Done roll (view z.dir y) done.replica.epoch t done.replica.history) (sym cell) done.done;
    }

-- ---- agreement

module _ (d : ℕ) (t : Stamp) (roll : Roll) (dir : roll.dir ≡ d) (v v' : View) (so_far all : List Accepted) (h x : ℕ) (r q : Replica) (s' : Sound roll v')
    (before : Known roll v so_far) (known : Known roll v' all) (holds : Holds v h r) (done : Done roll v' r.epoch t r.history) (held : Holds v' x q)
    (le : r.epoch ≤ q.epoch) (once : (a b : Accepted) → In a all → In b all → a.stamp ≡ b.stamp → a ≡ b) (more : IsPart so_far all) where
  agreed_mark : (k : Mark) → In k r.history → (a : Accepted) × IsAgreed d so_far r.history a × In k a.marks
  agreed_mark k i = let w = before.only h r holds k i in (w.by, record { logged = w.logged; dir = w.dir ∙ dir; part = w.part }, w.has)

  -- a house at the epoch of a completed skulk or a later one agrees
  pub agrees : Agrees d t so_far all r.history x q
  agrees = record {
    same = λ k up. (λ i. agreed_mark k (done.bounded.within x q k held le i up), λ u. done.kept x q k held le (u.1.part k u.2) up);
    whole = λ a i da by since up.
        let ok = s'.held x q held in
        let term : Listed (roll.list q.epoch) a.by a.since =
        subst (λ (y : ℕ). Listed (roll.list q.epoch) y a.since) (sym by) (
          ok.listed.1.0,
          ap (λ (z : List Member). since_in z x 0) (sym ok.members)
              ∙ sym since,
        ) in
        let in_q = known.all a q i (da ∙ sym dir) (subst (λ (y : ℕ). Holds v' y q) (sym by) held) term in
        let part : IsPart a.marks r.history =
        λ k ik. done.bounded.within x q k held le (in_q k ik) (up_to_trans (stamp_in k) a.stamp t ((known.well a i (da ∙ sym dir)).stamped k ik) up) in
        let own = (known.well a i (da ∙ sym dir)).own in
        let o = before.origin h r holds own.0 (part own.0 own.1) in
        let same_a : o.by ≡ a = once o.by a (more o.by o.logged) i (sym o.stamp ∙ own.2) in
        record { logged = subst (λ (z : Accepted). In z so_far) same_a o.logged; dir = da; part = part };
    deleted = λ a c k u ic up cov shown. deleted q.history c k (done.kept x q c held le (u.part c ic) up) cov shown;
  }

-- the theorem of convergence
pub converges_lem : (all : List Command) → Converges all
converges_lem all early late c t ns is complete =
    let f = finished all early late c t ns is complete in
    let roll = roll_of f.dir all in
    let is' : (early ++ c ∷ []) ++ late ≡ all = append_assoc early (c ∷ []) late ∙ is in
    let before = reaching_at f.dir all (early ++ c ∷ []) late is' in
    let last = reaching_at f.dir all all [] (append_nil all) in
    let end : Done roll (view f.dir (replay all)) f.replica.epoch t f.replica.history =
    subst (λ (l : List Command). Done roll (view f.dir (replay l)) f.replica.epoch t f.replica.history) is'
    (done_run f.dir all (early ++ c ∷ []) late [] f.replica.epoch t f.replica.history (ap (λ (l : List Command). (early ++ c ∷ []) ++ l) (append_nil late)
    ∙ is') f.done) in
    let more : IsPart (accepted_updates (early ++ c ∷ [])) (accepted_updates all) =
    λ a i. subst (λ (l : List Command). In a (accepted_updates l)) is'
    (subst (λ (l : List Accepted). In a l) (sym (accepted-append (early ++ c ∷ []) late empty_cell)) (In-append_left a (accepted_updates (early ++ c ∷ [])) _ i)) in (
      f.house,
      f.dir,
      f.replica,
      f.at,
      f.holds,
      λ x q held le. agrees f.dir t roll refl (view f.dir (replay (early ++ c ∷ []))) (view f.dir (replay all)) (accepted_updates (early ++ c ∷ [])) (accepted_updates all)
          f.house x f.replica q last.sound before.known last.known f.holds end held le (logged_at all).once more,
    )
