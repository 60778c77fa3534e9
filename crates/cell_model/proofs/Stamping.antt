-- Stamps are issued above floors, each once; and the AllUpTo of a skulk that completes.
use Rattle.std.proofs.Common.{◌≡◌, ℕ, ◌+◌, ◌<◌, ◌≤◌, Bool, true, false, not, cond, eqb, List, [], ◌∷◌, ◌++◌, Option, Some, None, refl, sym, ap, ◌∙◌}
use Rattle.std.proofs.Common.{subst, arith}
use Rattle.std.specs.Ordering.{is_lt}
use Rattle.std.specs.declared.cmp.Ordering.{Ordering}
use Rattle.std.specs.declared.cmp.Ordering.TheVariants.{Less, Equal, Greater}
use Rattle.cds_stamps.specs.declared.stamp.Stamp.{Stamp}
use Rattle.cds_stamps.specs.Stamps.{stamp_cmp, stamp_total, stamp_exact, later_stamp}
use Rattle.cds_stamps.specs.Members.{Member, master_of, others_of}
use Rattle.directory.specs.declared.update.UpdateRefusal.TheVariants.{NotMaster}
use Rattle.cell_model.specs.Cells.{Phase, Idle, Replica, Slot, Absent, Gone, Held, House, Update, Message, Cell, IsHeld, empty_cell}
use Rattle.cell_model.specs.Commands as commands
use Rattle.cell_model.specs.Commands.{Command, Refusal, Answer, Made, Stamped, Complete, Refused, Accepted}
use Rattle.cell_model.specs.Sets.{IsUpTo}
use Rattle.cell_model.specs.Turns.{first_replica, with_marks, to_each, with_slot, later_up_to, running_skulk_stamp, stamp_at, refuses, begin, skulk_at, skulk_in, skulk}
use Rattle.cell_model.specs.Steps.{Outcome, cell_with_directory, member_list_of, unless, refusals_of, first_refusal, move_house, at_house, outcome, replay_from, replay}
use Rattle.cell_model.specs.Agreement.{place_of}
use Rattle.cell_model.specs.Skulks.{RaisesUpTo}
use Rattle.cell_model.specs.Floors.{FloorsHold, IsAboveHouse, stamp_issued, Issues, IssuesAbove, IssuesOnce}
use Rattle.cell_model.proofs.Lists.{append_nil, earlier_up_to}
use Rattle.directory.specs.Histories.{Mark}
use Rattle.cell_model.proofs.Facts.{view}
use Rattle.cell_model.proofs.SecondRound.{Done}
use Rattle.cell_model.proofs.Marks.{stamp_next}
use Rattle.cell_model.proofs.Views.{put_at, put_back}
use Rattle.cell_model.proofs.Moves.{new_marks, Issuing, Act, accepts, skulks, lone, completes, Move, stays, acts, Steps, one, mkdirs, outcome_steps}
use Rattle.cell_model.proofs.Wholes.{Plain, Onward, up_made, step_onward, run_onward, empty_plain}
use Rattle.cell_model.proofs.Passages.{completing, slot_after}
use Rattle.cell_model.proofs.Runs.{replay-append, roll_of}
use Rattle.cell_model.proofs.Advances.{completed_done, advances_lem, place, same_place}
use Rattle.cell_model.proofs.FloorTimes.{floors_lem}
use Rattle.cell_model.proofs.NeverComes.{reaching_last}

-- a house issues the stamp in a step, and has it as its floor
pub record IssuedAt (g g' : Cell) (p : Option (ℕ × ℕ)) (s : Stamp) : Type 0 where
  pub house : ℕ
  pub dir : ℕ
  pub replica : Replica
  pub at : p ≡ Some (house, dir)
  pub issuing : Issuing g house dir replica s
  pub floor : (g'.house house).floor ≡ s.time

act_floor : (g : Cell) (h d : ℕ) (s : Stamp) (o : Slot) (posts : List Message) → ((move_house g h (with_slot (g.house h) d s.time o) posts).house h).floor ≡ s.time
act_floor g h d s o posts = put_back (λ (v : House). v.floor ≡ s.time) g.house h (with_slot (g.house h) d s.time o) refl

act_stamped : (g : Cell) (p : Option (ℕ × ℕ)) (h d floor : ℕ) (o : Slot) (posts : List Message) (s : Stamp) (ns : List ℕ) (n : List Accepted)
    → p ≡ Some (h, d) → Act g h d floor o posts (Stamped s ns) n → IssuedAt g (move_house g h (with_slot (g.house h) d floor o) posts) p s
act_stamped g p h d floor o posts s ns n at (accepts _ _ u r _ _ i fine) =
    record { house = h; dir = d; replica = r; at = at; issuing = i; floor = act_floor g h d s o posts }
act_stamped g p h d floor o posts s ns n at (skulks _ _ r _ _ i head) =
    record { house = h; dir = d; replica = r; at = at; issuing = i; floor = act_floor g h d s o posts }

move_stamped : (g g' : Cell) (p : Option (ℕ × ℕ)) (s : Stamp) (ns : List ℕ) (n : List Accepted) → Move g p g' (Stamped s ns) n → IssuedAt g g' p s
move_stamped g g' p s ns n (stays _ q) = elim q [ ]
move_stamped g g' p s ns n (acts h d at floor o posts _ _ act) = act_stamped g p h d floor o posts s ns n at act

steps_stamped : (g g' : Cell) (p : Option (ℕ × ℕ)) (s : Stamp) (ns : List ℕ) (n : List Accepted) → Steps g p g' (Stamped s ns) n → IssuedAt g g' p s
steps_stamped g g' p s ns n (one _ _ _ m) = move_stamped g g' p s ns n m

act_made : (g : Cell) (h e floor : ℕ) (o : Slot) (posts : List Message) (d : ℕ) (s : Stamp) (ns : List ℕ) (n : List Accepted)
    → Act g h e floor o posts (Made d s ns) n → ⊥
act_made g h e floor o posts d s ns n x = elim x [ ]

move_made : (g g' : Cell) (p : Option (ℕ × ℕ)) (d : ℕ) (s : Stamp) (ns : List ℕ) (n : List Accepted) → Move g p g' (Made d s ns) n → ⊥
move_made g g' p d s ns n (stays _ q) = q
move_made g g' p d s ns n (acts h e at floor o posts _ _ act) = act_made g h e floor o posts d s ns n act

-- a new directory changes no floor
founded_floor : (g : Cell) (d m : ℕ) (ms : List Member) (nd x : ℕ) → ((record (cell_with_directory g d m ms) { next_dir = nd }).house x).floor ≡ (g.house x).floor
founded_floor g d m ms nd =
    put_at (λ x (v : House). v.floor ≡ (g.house x).floor) g.house m (with_slot (g.house m) d (g.house m).floor (Held (first_replica ms))) refl (λ x _. refl)

steps_made : (g g' : Cell) (p : Option (ℕ × ℕ)) (d : ℕ) (s : Stamp) (ns : List ℕ) (n : List Accepted) → Steps g p g' (Made d s ns) n → IssuedAt g g' p s
steps_made g g' p d s ns n (one _ _ _ m) = absurd (move_made g g' p d s ns n m)
steps_made g g' p d s ns n (mkdirs h e m u rs ss r _ _ at i fine up known) =
    let o : Slot = Held (with_marks r (new_marks r u s)) in
    let posts : List Message = to_each (others_of h r.members) e h r.epoch s.time (Update (new_marks r u s)) in
    record {
      house = h;
      dir = e;
      replica = r;
      at = at;
      issuing = i;
      floor = founded_floor (move_house g h (with_slot (g.house h) e s.time o) posts) g.next_dir m (member_list_of [] 1 m rs ss) (g.next_dir + 1) h ∙ act_floor g h e s o posts;
    }

-- ---- a skulk that completes at once

-- a command that is not refused answers as its outcome does
pub unless_complete : (g : Cell) (r : Option Refusal) (o : Outcome) (t : Stamp) (ns : List ℕ) → (unless g r o).answer ≡ Complete t ns → o.answer ≡ Complete t ns
unless_complete g None o t ns e = e
unless_complete g (Some r) o t ns e = absurd (cc)

begin_issues : (g : Cell) (h d : ℕ) (r : Replica) (s t : Stamp) (ns : List ℕ) (os : List ℕ)
    → (at_house g h (begin h (g.house h) d r s os)).answer ≡ Complete t ns → s ≡ t
begin_issues g h d r s t ns [] e = cc
begin_issues g h d r s t ns (y ∷ ys) e = absurd (cc)

skulk_at_issues : (g : Cell) (h d : ℕ) (r : Replica) (o : Option Stamp) (t : Stamp) (ns : List ℕ)
    → (at_house g h (skulk_at h (g.house h) d r o)).answer ≡ Complete t ns → o ≡ Some t
skulk_at_issues g h d r None t ns e = absurd (cc)
skulk_at_issues g h d r (Some s) t ns e = ap Some (begin_issues g h d r s t ns (others_of h r.members) e)

-- a skulk that completes at once has the stamp that its house issues
pub skulk_issues : (g : Cell) (h d : ℕ) (o : Slot) (t : Stamp) (ns : List ℕ) → (at_house g h (skulk_in h (g.house h) d o)).answer ≡ Complete t ns
    → stamp_at (g.house h) ≡ Some t
skulk_issues g h d Absent t ns e = absurd (cc)
skulk_issues g h d (Gone k) t ns e = absurd (cc)
skulk_issues g h d (Held r) t ns e = by_test (eqb (master_of r.members) h) e
  where
    by_test : (b : Bool) → (at_house g h (cond b (skulk_at h (g.house h) d r (stamp_at (g.house h))) (refuses NotMaster))).answer ≡ Complete t ns
        → stamp_at (g.house h) ≡ Some t
    by_test true q = skulk_at_issues g h d r (stamp_at (g.house h)) t ns q
    by_test false q = absurd (cc)

-- a skulk that completes by its command was begun by it
act_complete : (g : Cell) (d' : ℕ) (p : Option (ℕ × ℕ)) (h d floor : ℕ) (o : Slot) (posts : List Message) (t : Stamp) (ns : List ℕ) (n : List Accepted)
    → p ≡ Some (h, d) → ((x k : ℕ) (r : Replica) → p ≡ Some (x, k) → IsHeld g x k r → running_skulk_stamp r.phase ≡ Some t → t.time ≤ (g.house x).floor)
    → ((x k : ℕ) → p ≡ Some (x, k) → stamp_at (g.house x) ≡ Some t) → Act g h d floor o posts (Complete t ns) n
    → IssuedAt g (move_house g h (with_slot (g.house h) d floor o) posts) p t
act_complete g d' p h d floor o posts t ns n at low new (lone _ _ r _ i head alone) =
    record { house = h; dir = d; replica = r; at = at; issuing = i; floor = act_floor g h d t o posts }
act_complete g d' p h d floor o posts t ns n at low new (completes m _ a r _ k run all) =
    let z = stamp_next (g.house m.receiver).clock (g.house m.receiver).floor (g.house m.receiver).node t (new m.receiver m.dir at) in
    let w = low m.receiver m.dir r at k.held (subst (λ (y : Phase). running_skulk_stamp y ≡ Some t) (sym run) refl) in
    absurd (omega (arith, z.0))

-- ---- every stamp that is issued

skulk_completes : (early : List Command) (h d : ℕ) (t : Stamp) (ns : List ℕ) → (outcome (replay early) (commands.Skulk h d)).answer ≡ Complete t ns
    → IssuedAt (replay early) (outcome (replay early) (commands.Skulk h d)).cell (Some (h, d)) t
skulk_completes early h d t ns e =
    let g = replay early in
    let o = outcome g (commands.Skulk h d) in
    let steps : Steps g (Some (h, d)) o.cell (Complete t ns) o.accepted =
    subst (λ (z : Answer). Steps g (Some (h, d)) o.cell z o.accepted) e (outcome_steps g (commands.Skulk h d)) in
    let z = completing g o.cell (Some (h, d)) t ns o.accepted steps in
    let new : (x k : ℕ) → place h d ≡ place x k → stamp_at (g.house x) ≡ Some t =
    λ x k at. subst (λ (y : ℕ). stamp_at (g.house y) ≡ Some t) (same_place h d x k at).0
    (skulk_issues g h d ((g.house h).slots d) t ns
    (unless_complete g (first_refusal (refusals_of g (commands.Skulk h d))) (at_house g h (skulk h (g.house h) d)) t ns e)) in
    let low : (x k : ℕ) (r : Replica) → place h d ≡ place x k → IsHeld g x k r → running_skulk_stamp r.phase ≡ Some t
    → t.time ≤ (g.house x).floor = λ x k r at held run. (((reaching_last early k).sound.held x r held).phase t run).2 in
    subst (λ (y : Cell). IssuedAt g y (Some (h, d)) t) (sym z.is)
    (act_complete g d (Some (h, d)) z.house z.dir z.floor z.slot z.posts t ns o.accepted z.at low new z.act)

complete_issued : (early : List Command) (c : Command) (u s : Stamp) (ns : List ℕ) → (outcome (replay early) c).answer ≡ Complete u ns
    → stamp_issued c (Complete u ns) ≡ Some s → IssuedAt (replay early) (outcome (replay early) c).cell (place_of (replay early) c) s
complete_issued early (commands.Skulk h d) u s ns q f = let us : u ≡ s = cc in
    subst (λ (z : Stamp). IssuedAt (replay early) (outcome (replay early) (commands.Skulk h d)).cell (Some (h, d)) z) us (skulk_completes early h d u ns q)
complete_issued early _ u s ns q f = absurd (cc)

pub issued_at : (early : List Command) (c : Command) (s : Stamp) → Issues early c s
    → IssuedAt (replay early) (outcome (replay early) c).cell (place_of (replay early) c) s
issued_at early c s e = by_answer (outcome (replay early) c).answer refl e
  where
    steps : (a : Answer) → (outcome (replay early) c).answer ≡ a
        → Steps (replay early) (place_of (replay early) c) (outcome (replay early) c).cell a (outcome (replay early) c).accepted
    steps a q = subst (λ (z : Answer). Steps (replay early) (place_of (replay early) c) (outcome (replay early) c).cell z (outcome (replay early) c).accepted)
        q (outcome_steps (replay early) c)

    by_answer : (a : Answer) → (outcome (replay early) c).answer ≡ a → stamp_issued c a ≡ Some s
        → IssuedAt (replay early) (outcome (replay early) c).cell (place_of (replay early) c) s
    by_answer (Stamped u ns) q f = let us : u ≡ s = cc in
        subst (λ (z : Stamp). IssuedAt (replay early) (outcome (replay early) c).cell (place_of (replay early) c) z) us
        (steps_stamped _ _ _ u ns _ (steps (Stamped u ns) q))
    by_answer (Made d u ns) q f = let us : u ≡ s = cc in
        subst (λ (z : Stamp). IssuedAt (replay early) (outcome (replay early) c).cell (place_of (replay early) c) z) us
        (steps_made _ _ _ d u ns _ (steps (Made d u ns) q))
    by_answer (Complete u ns) q f = complete_issued early c u s ns q f
    by_answer _ q f = absurd (cc)

-- a stamp above the floor is above all times of the house
above_house : (commands : List Command) (h : ℕ) (s : Stamp) → ((replay commands).house h).floor < s.time → IsAboveHouse (replay commands) h s
above_house commands h s lt = record {
  floor = lt;
  marks = λ d r k at i. let w = (floors.houses h d r at).marks k i in (omega (arith, w.0), omega (arith, w.1));
  all_up_to = λ d r t at e. omega (arith, (floors.houses h d r at).all_up_to t e);
  phase = λ d r t at e. omega (arith, (floors.houses h d r at).phase t e);
}
  where
    floors : FloorsHold (replay commands)
    floors = floors_lem commands

-- each stamp is issued above all times that stand in its house
pub issues_above_lem : (commands : List Command) (c : Command) → IssuesAbove commands c
issues_above_lem commands c s e = above (issued_at commands c s e)
  where
    above : IssuedAt (replay commands) (outcome (replay commands) c).cell (place_of (replay commands) c) s
        → (h d : ℕ) × (place_of (replay commands) c ≡ Some (h, d)) × IsAboveHouse (replay commands) h s
        × (((outcome (replay commands) c).cell.house h).floor ≡ s.time) × (s.node ≡ ((replay commands).house h).node)
    above i =
        let z = stamp_next ((replay commands).house i.house).clock ((replay commands).house i.house).floor ((replay commands).house i.house).node s
        i.issuing.next in
        (i.house, i.dir, i.at, above_house commands i.house s z.0, i.floor, z.1)

-- a later stamp is another one
different : (g g1 g2 g3 : Cell) (p q : Option (ℕ × ℕ)) (s t : Stamp) → Plain g → Plain g2 → Onward g g2 → Onward g1 g2 → IssuedAt g g1 p s
    → IssuedAt g2 g3 q t → s ≡ t → ⊥
different g g1 g2 g3 p q s t plain plain2 on on1 i j e =
    let a = stamp_next (g.house i.house).clock (g.house i.house).floor (g.house i.house).node s i.issuing.next in
    let b = stamp_next (g2.house j.house).clock (g2.house j.house).floor (g2.house j.house).node t j.issuing.next in
    let made = up_made g i.house plain i.issuing.up in
    let k = on.kept i.house made in
    let same : i.house ≡ j.house = plain2.nodes i.house j.house k.0 (up_made g2 j.house plain2 j.issuing.up) (k.1 ∙ sym a.1 ∙ ap (λ (z : Stamp). z.node) e
    ∙ b.1) in
    let low : (g2.house i.house).floor < t.time = subst (λ (x : ℕ). (g2.house x).floor < t.time) (sym same) b.0 in
    omega (arith, on1.rises i.house, i.floor, ap (λ (z : Stamp). z.time) e)

-- no stamp is issued twice
pub issues_once_lem : (all : List Command) → IssuesOnce all
issues_once_lem all early mid late c e s t is a b same =
    let on0 = run_onward early empty_cell empty_plain in
    let on1 = step_onward (replay early) c on0.plain in
    let on2 = run_onward mid (outcome (replay early) c).cell on1.plain in
    let cell : replay (early ++ c ∷ mid) ≡ replay_from (outcome (replay early) c).cell mid = replay-append early (c ∷ mid) empty_cell in
    let whole = run_onward (c ∷ mid) (replay early) on0.plain in
    different (replay early) (outcome (replay early) c).cell (replay (early ++ c ∷ mid)) _ _ _ s t on0.plain
    (subst (λ (z : Cell). Plain z) (sym cell) on2.plain)
    (subst (λ (z : Cell). Onward (replay early) z) (sym cell) whole)
    (subst (λ (z : Cell). Onward (outcome (replay early) c).cell z) (sym cell) on2)
    (issued_at early c s a) (issued_at (early ++ c ∷ mid) e t b) same

-- ---- the AllUpTo of a skulk that completes

later_of : (u t : Stamp) → IsUpTo u t → later_stamp u t ≡ t
later_of u t up = go (stamp_cmp u t) refl
  where
    go : (r : Ordering) → stamp_cmp u t ≡ r → later_stamp u t ≡ t
    go Less e = ap (λ (z : Ordering). cond (is_lt z) t u) e
    go Equal e = ap (λ (z : Ordering). cond (is_lt z) t u) e ∙ stamp_exact u t e
    go Greater e =
        let turned : stamp_cmp t u ≡ Less = grind (arith, stamp_total.antisymm u t, stamp_total.antisymm t u) in
        let late : not (is_lt (stamp_cmp t u)) ≡ false = ap (λ (z : Ordering). not (is_lt z)) turned in
        absurd (cc)

-- the AllUpTo that a master has is not later than the skulk that it completes
raised_to : (commands : List Command) (h d : ℕ) (r : Replica) (t : Stamp) → IsHeld (replay commands) h d r
    → ((u : Stamp) (k : ℕ) (marks : List Mark) → r.all_up_to ≡ Some u → k ≤ r.epoch → Done (roll_of d commands) (view d (replay commands)) k u marks
    → IsUpTo u t) → later_up_to r.all_up_to t ≡ Some t
raised_to commands h d r t at below = go r.all_up_to refl
  where
    go : (o : Option Stamp) → r.all_up_to ≡ o → later_up_to o t ≡ Some t
    go None e = refl
    go (Some u) e =
        let w = (advances_lem commands).houses h d r u at e in
        let done = completed_done d commands commands [] u w.0 (append_nil commands) w.2 in
        ap Some (later_of u t (below u w.0 done.0 e w.1 done.1))

-- what an act that completes leaves
act_raises : (commands : List Command) (p : Option (ℕ × ℕ)) (h d floor : ℕ) (o : Slot) (posts : List Message) (t : Stamp) (ns : List ℕ) (n : List Accepted)
    → Act (replay commands) h d floor o posts (Complete t ns) n → (r : Replica) × (o ≡ Held r) × (r.all_up_to ≡ Some t)
act_raises commands p h d floor o posts t ns n (lone _ _ r _ i head alone) =
    let z = stamp_next ((replay commands).house h).clock ((replay commands).house h).floor ((replay commands).house h).node t i.next in (
      record r { all_up_to = later_up_to r.all_up_to t; phase = Idle },
      refl,
      raised_to commands h d r t i.held (λ u k marks e le done. earlier_up_to u t (omega (arith, done.bounded.floors h r i.held le, z.0))),
    )
act_raises commands p h d floor o posts t ns n (completes m _ a r _ k run all) =
    let runs : running_skulk_stamp r.phase ≡ Some t = subst (λ (y : Phase). running_skulk_stamp y ≡ Some t) (sym run) refl in (
      record r { all_up_to = later_up_to r.all_up_to t; phase = Idle },
      refl,
      raised_to commands m.receiver m.dir r t k.held (λ u j marks e le done. done.bounded.rounds m.receiver r t k.held le runs),
    )

-- the AllUpTo of a master becomes the stamp of the skulk that it completes
pub raises_lem : (commands : List Command) (c : Command) → RaisesUpTo commands c
raises_lem commands c t ns e =
    let g = replay commands in
    let o = outcome g c in
    let steps : Steps g (place_of g c) o.cell (Complete t ns) o.accepted =
    subst (λ (z : Answer). Steps g (place_of g c) o.cell z o.accepted) e (outcome_steps g c) in
    let z = completing g o.cell (place_of g c) t ns o.accepted steps in
    let w = act_raises commands (place_of g c) z.house z.dir z.floor z.slot z.posts t ns o.accepted z.act in
    let held : IsHeld (move_house g z.house (with_slot (g.house z.house) z.dir z.floor z.slot) z.posts) z.house z.dir w.0 = slot_after g z.house z.dir z.floor z.slot
    ∙ w.1 in
    (z.house, z.dir, w.0, z.at, subst (λ (y : Cell). IsHeld y z.house z.dir w.0) (sym z.is) held, w.2)
