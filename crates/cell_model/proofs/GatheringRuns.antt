-- The first round of a skulk, at every moment of a run.
use Rattle.std.proofs.Common.{◌≡◌, ℕ, ◌≤◌, ◌⊎◌, inl, inr, Bool, true, false, ◌&&◌, eqb, cond, List, [], ◌∷◌, Option, Some, None, refl, sym, ap, ◌∙◌}
use Rattle.std.proofs.Common.{subst, le_trans}
use Rattle.cds_stamps.specs.declared.stamp.Stamp.{Stamp}
use Rattle.cds_stamps.specs.Members.{Member, master_of, others_of, since_in}
use Rattle.cds_stamps.specs.Stamps.{is_stamp}
use Rattle.directory.specs.Histories.{Mark, stamp_in}
use Rattle.cell_model.specs.Cells.{Phase, Gathering, Replica, Copy, Body, Update, Gather, Gathered, Spread, SpreadAck, Advance, Join, Leave, Message}
use Rattle.cell_model.specs.Cells.{Cell, IsHeld}
use Rattle.cell_model.specs.Commands.{Command, Accepted}
use Rattle.cell_model.specs.Sets.{In}
use Rattle.cell_model.specs.Turns.{running_skulk_stamp}
use Rattle.cell_model.specs.Steps.{replay, accepted_updates}
use Rattle.cell_model.specs.Provenance.{HasPassed}
use Rattle.cell_model.specs.Rounds.{TookGather, answer_in, or_first, first_answer, InGathering, at_master, at_member, in_answer, WhileGathering, GatheringHolds}
use Rattle.cell_model.proofs.Lists.{eq_from, eq_to, stamp_from, up_to_trans, and_left, and_right}
use Rattle.cell_model.proofs.Terms.{others, listed-others}
use Rattle.cell_model.proofs.Facts.{View, view, Holds, Roll, HeldOk, Sound}
use Rattle.cell_model.proofs.Bounds.{round_at}
use Rattle.cell_model.proofs.FirstRound.{GatheredBy, Found, Covered, Gathers}
use Rattle.cell_model.proofs.Rounds.{Round}
use Rattle.cell_model.proofs.Deletions.{same_stamp}
use Rattle.cell_model.proofs.Views.{In-of_dir}
use Rattle.cell_model.proofs.Known.{Known}
use Rattle.cell_model.proofs.Passages.{Reaching}
use Rattle.cell_model.proofs.Runs.{roll_of}
use Rattle.cell_model.proofs.NeverComes.{reaching_last}
use Rattle.cell_model.proofs.Provenances.{reached_passed}

-- ---- the first answer of a house

answer_is : (b : Body) (t : Stamp) (copy : Copy) → answer_in b t ≡ Some copy → b ≡ Gathered t copy
answer_is (Gathered u own) t copy e = go (is_stamp u t) refl e
  where
    go : (c : Bool) → is_stamp u t ≡ c → cond c (Some own) None ≡ Some copy → Gathered u own ≡ Gathered t copy
    go true q e' = let s = stamp_from u t q in let z : own ≡ copy = cc in cc
    go false q e' = absurd (cc)
answer_is (Update marks) t copy e = absurd (cc)
answer_is (Gather u) t copy e = absurd (cc)
answer_is (Spread u own) t copy e = absurd (cc)
answer_is (SpreadAck u) t copy e = absurd (cc)
answer_is (Advance u) t copy e = absurd (cc)
answer_is (Join ms own) t copy e = absurd (cc)
answer_is Leave t copy e = absurd (cc)

first_posted : (ms : List Message) (d y : ℕ) (t : Stamp) (copy : Copy) → first_answer ms d y t ≡ Some copy
    → (m : Message) × In m ms × (m.dir ≡ d) × (m.sender ≡ y) × (m.body ≡ Gathered t copy)
first_posted [] d y t copy e = absurd (cc)
first_posted (m ∷ ms) d y t copy e = go ((eqb m.dir d) && (eqb m.sender y)) refl (answer_in m.body t) refl e (first_posted ms d y t copy)
  where
    go : (b : Bool) → ((eqb m.dir d) && (eqb m.sender y)) ≡ b → (o : Option Copy) → answer_in m.body t ≡ o → or_first b o (first_answer ms d y t) ≡ Some copy
        → (first_answer ms d y t ≡ Some copy → (p : Message) × In p ms × (p.dir ≡ d) × (p.sender ≡ y) × (p.body ≡ Gathered t copy))
        → (p : Message) × In p (m ∷ ms) × (p.dir ≡ d) × (p.sender ≡ y) × (p.body ≡ Gathered t copy)
    go true q (Some l) w e' rest = let z : l ≡ copy = cc in
        (m, inl refl, eq_from _ _ (and_left _ (eqb m.sender y) q), eq_from _ _ (and_right (eqb m.dir d) _ q), answer_is m.body t copy (w ∙ ap Some z))
    go true q None w e' rest = let r = rest e' in (r.0, inr r.1, r.2, r.3, r.4)
    go false q o w e' rest = let r = rest e' in (r.0, inr r.1, r.2, r.3, r.4)

none_posted : (ms : List Message) (d y : ℕ) (t : Stamp) (p : Message) (copy : Copy) → first_answer ms d y t ≡ None → In p ms → p.dir ≡ d → p.sender ≡ y
    → p.body ≡ Gathered t copy → ⊥
none_posted [] d y t p copy e i dir by is = i
none_posted (m ∷ ms) d y t p copy e i dir by is =
    go ((eqb m.dir d) && (eqb m.sender y)) refl (answer_in m.body t) refl e i (λ z j. none_posted ms d y t p copy z j dir by is)
  where
    answers : m ≡ p → answer_in m.body t ≡ Some copy
    answers s = ap (λ (z : Message). answer_in z.body t) s ∙ ap (λ (z : Body). answer_in z t) is ∙ ap (λ (b : Bool). cond b (Some copy) None) (same_stamp t)

    hits : m ≡ p → ((eqb m.dir d) && (eqb m.sender y)) ≡ true
    hits s =
        let a : eqb m.dir d ≡ true = eq_to m.dir d (ap (λ (z : Message). z.dir) s ∙ dir) in
        ap (λ (b : Bool). b && eqb m.sender y) a ∙ eq_to m.sender y (ap (λ (z : Message). z.sender) s ∙ by)

    go : (b : Bool) → ((eqb m.dir d) && (eqb m.sender y)) ≡ b → (o : Option Copy) → answer_in m.body t ≡ o → or_first b o (first_answer ms d y t) ≡ None
        → (p ≡ m) ⊎ In p ms → (first_answer ms d y t ≡ None → In p ms → ⊥) → ⊥
    go true q (Some l) w e' i' rest = absurd (cc)
    go true q None w e' (inl s) rest = let h = answers (sym s) in absurd (cc)
    go true q None w e' (inr i') rest = rest e' i'
    go false q o w e' (inl s) rest = let h = hits (sym s) in absurd (cc)
    go false q o w e' (inr i') rest = rest e' i'

-- ---- the sentences

-- the updates that a house accepted in its present term stand in its history
pub own_updates : (roll : Roll) (v : View) (log : List Accepted) → Sound roll v → Known roll v log → (a : Accepted) (q : Replica) → In a log
    → a.dir ≡ roll.dir → Holds v a.by q → a.since ≡ since_in q.members a.by 0 → (j : Mark) → In j a.marks → In j q.history
own_updates roll v log s k a q i dir at since j ij =
    let ok = s.held a.by q at in
    k.all a q i dir at (ok.listed.1.0, ap (λ (z : List Member). since_in z a.by 0) (sym ok.members) ∙ sym since) j ij

module _ (commands : List Command) (h d : ℕ) (r : Replica) (t : Stamp) (a : List ℕ) (at : IsHeld (replay commands) h d r) (run : r.phase ≡ Gathering t a)
    (p : (y : ℕ) → In y (others_of h r.members) → HasPassed (replay commands) y d r.epoch → TookGather (replay commands) d t y) where
  abbrev g : Cell
  g = replay commands

  abbrev roll : Roll
  roll = roll_of d commands

  abbrev v : View
  v = view d (replay commands)

  here : Reaching roll v (accepted_updates commands)
  here = reaching_last commands d

  ok : HeldOk roll v h r
  ok = (reaching_last commands d).sound.held h r at

  head : (master_of r.members ≡ h) × (roll.home t.node ≡ h) × (t.time ≤ (v.house h).floor)
  head = ((reaching_last commands d).sound.held h r at).phase t (subst (λ (z : Phase). running_skulk_stamp z ≡ Some t) (sym run) refl)

  round : Gathers roll v h r t a
  round = subst (λ (z : Phase). Round roll v h r z) run ((reaching_last commands d).rounds h r at)

  -- the other members, by the list of the run and by the master's own
  other : (y : ℕ) → In y (others (roll.list r.epoch)) → In y (others_of h r.members)
  other y o = subst (λ (z : ℕ). In y (others_of z r.members)) head.0 (subst (λ (z : List Member). In y (others z)) (sym ok.members) o)

  took : (y : ℕ) → TookGather g d t y → GatheredBy v t a y
  took y w = inr (w.message, w.copy, In-of_dir d g.bag w.message w.posted w.dir, w.sender, w.body)

  covered : Covered roll v r.epoch t a r.history
  covered = round.covered (λ y o up. took y (p y (other y o) (reached_passed r.epoch _ up)))

  found : (j : Mark) → Found roll v r.epoch t a r.history j → InGathering g h d r t j
  found j (inl i) = at_master i
  found j (inr w) = go (first_answer g.bag d w.0 t) refl
    where
      go : (o : Option Copy) → first_answer g.bag d w.0 t ≡ o → InGathering g h d r t j
      go (Some copy) e =
          let m = first_posted g.bag d w.0 t copy e in
          in_answer w.0 copy (other w.0 w.1.other) e (w.1.told m.0 copy (In-of_dir d g.bag m.0 m.1 m.2) m.3 m.4)
      go None e =
          let silent : TookGather g d t w.0 → ⊥ = λ m. none_posted g.bag d w.0 t m.message m.copy e m.posted m.dir m.sender m.body in
          let stays = w.1.stay (λ up. silent (p w.0 (other w.0 w.1.other) (reached_passed r.epoch _ up))) in
          let l = listed-others w.0 (roll.list r.epoch) w.1.other in
          let since : since_in r.members w.0 0 ≤ (stays.0).epoch =
          subst (λ (z : ℕ). z ≤ (stays.0).epoch) (sym l.1.1 ∙ ap (λ (z : List Member). since_in z w.0 0) (sym ok.members)) (stays.3 l.0 l.1) in
          at_member w.0 stays.0 (other w.0 w.1.other) stays.1 since silent stays.2

  while_gathering : WhileGathering commands h d r t
  while_gathering = record {
    sentences = record {
      houses = λ x q j hq le i up. found j (covered.within x q j hq le i up);
      messages = λ m j i dir le ij up. found j (covered.within_m m j (In-of_dir d g.bag m i dir) le ij up);
      updates = λ u q j i dir hq le since up ij.
          let stamped = (here.known.well u i dir).stamped j ij in
          found j (covered.within u.by q j hq le (own_updates roll v (accepted_updates commands) here.sound here.known u q i dir hq since j ij)
          (up_to_trans (stamp_in j) u.stamp t stamped up));
      later_houses = λ x q hq lt. covered.high x q hq lt;
      later_messages = λ m i dir lt. covered.sent m (In-of_dir d g.bag m i dir) lt;
    };
    master = head.2;
    answered = λ y o w.
        let l = here.sound.messages w.message (In-of_dir d g.bag w.message w.posted w.dir) in
        le_trans (l.round t (round_at w.message (Gathered t w.copy) t w.body refl)).0
        (subst (λ (z : ℕ). (w.message).floor ≤ (g.house z).floor) w.sender l.floor);
  }

-- what holds while a master gathers holds in every run
pub gathering_lem : (commands : List Command) → GatheringHolds commands
gathering_lem commands h d r t a at run p = while_gathering commands h d r t a at run p
