-- The stamps that houses issue.
use Rattle.std.proofs.Common.{◌≡◌, ℕ, ◌<◌, ◌≤◌, ◌+◌, append_assoc, inl, inr, true, List, [], ◌∷◌, ◌++◌, Option, refl, sym, ap, ◌∙◌, subst, arith}
use Rattle.std.proofs.Common.{⊎_elim, le_refl, le_trans}
use Rattle.cds_stamps.specs.declared.stamp.Stamp.{Stamp}
use Rattle.cds_stamps.specs.Members.{others_of}
use Rattle.cell_model.specs.Cells.{Replica, Slot, Held, House, Update, Message, Cell, empty_cell}
use Rattle.cell_model.specs.Commands.{Command, Answer, Accepted}
use Rattle.cell_model.specs.Sets.{In, has}
use Rattle.cell_model.specs.Turns.{with_marks, to_each, with_slot}
use Rattle.cell_model.specs.Steps.{move_house, outcome, replay_from, replay, accepted_from, accepted_updates}
use Rattle.cell_model.specs.Agreement.{place_of}
use Rattle.cell_model.proofs.Lists.{append_nil, In-append_cases}
use Rattle.cell_model.proofs.Marks.{stamp_next}
use Rattle.cell_model.proofs.Views.{put_back}
use Rattle.cell_model.proofs.Moves.{new_marks, Issuing, Act, accepts, Move, acts, Steps, one, mkdirs, outcome_steps}
use Rattle.cell_model.proofs.MoveFrames.{act_rises}
use Rattle.cell_model.proofs.Wholes.{Plain, Onward, up_made, moved_onward, step_onward, founded_onward, empty_plain}

-- a stamp that a house issues in a step: above its floor before, at most its floor after, of its
-- node
pub record Issued (g g' : Cell) (h : ℕ) (s : Stamp) : Type 0 where
  pub made : has h g.made ≡ true
  pub above : (g.house h).floor < s.time
  pub within : s.time ≤ (g'.house h).floor
  pub node : s.node ≡ (g.house h).node

floor_after_act : (g : Cell) (h d : ℕ) (s : Stamp) (o : Slot) (posts : List Message)
    → s.time ≤ ((move_house g h (with_slot (g.house h) d s.time o) posts).house h).floor
floor_after_act g h d s o posts = put_back (λ (v : House). s.time ≤ v.floor) g.house h (with_slot (g.house h) d s.time o) (le_refl _)

pub issuing_issued : (g g' : Cell) (h d : ℕ) (r : Replica) (s : Stamp) → Plain g → Issuing g h d r s → s.time ≤ (g'.house h).floor → Issued g g' h s
issuing_issued g g' h d r s p i within =
    let z = stamp_next (g.house h).clock (g.house h).floor (g.house h).node s i.next in
    record { made = up_made g h p i.up; above = z.0; within = within; node = z.1 }

-- each accepted update has a stamp that its house issued, and is the only one of the step
act_accepted : (g : Cell) (h d floor : ℕ) (o : Slot) (posts : List Message) (a : Answer) (n : List Accepted) → Plain g → Act g h d floor o posts a n
    → (b : Accepted) → In b n → Issued g (move_house g h (with_slot (g.house h) d floor o) posts) b.by b.stamp × ((c : Accepted) → In c n → c ≡ b)
act_accepted g h d floor o posts a n p (accepts _ _ u r s ns i fine) b (inl e) = (
  subst (λ (z : Accepted). Issued g (move_house g h (with_slot (g.house h) d floor o) posts) z.by z.stamp) (sym e)
      (issuing_issued g _ h d r s p i (floor_after_act g h d s o posts)),
  λ c ic. only c ic,
)
  where
    only : (c : Accepted) → In c n → c ≡ b
    only c (inl f) = f ∙ sym e
    only c (inr z) = elim z [ ]
act_accepted g h d floor o posts a n p (accepts _ _ u r s ns i fine) b (inr z) = elim z [ ]
act_accepted g h d floor o posts a n p _ b i = elim i [ ]

move_accepted : (g g' : Cell) (pl : Option (ℕ × ℕ)) (a : Answer) (n : List Accepted) → Plain g → Move g pl g' a n → (b : Accepted) → In b n
    → Issued g g' b.by b.stamp × ((c : Accepted) → In c n → c ≡ b)
move_accepted g g' pl a n p (acts h d at floor o posts x l act) b i = act_accepted g h d floor o posts x l p act b i
move_accepted g g' pl a n p _ b i = elim i [ ]

pub steps_accepted : (g g' : Cell) (pl : Option (ℕ × ℕ)) (a : Answer) (n : List Accepted) → Plain g → Steps g pl g' a n → (b : Accepted) → In b n
    → Issued g g' b.by b.stamp × ((c : Accepted) → In c n → c ≡ b)
steps_accepted g g' pl a n p (one _ _ _ m) b i = move_accepted g g' pl a n p m b i
steps_accepted g g' pl a n p (mkdirs h d m u rs ss r s ns at is fine up known) b i =
    let w = act_accepted g h d s.time _ _ _ n p (accepts h d u r s ns is fine) b i in
    let o : Slot = Held (with_marks r (new_marks r u s)) in
    let posts : List Message = to_each (others_of h r.members) d h r.epoch s.time (Update (new_marks r u s)) in
    let first = moved_onward g h (with_slot (g.house h) d s.time o) posts p (up_made g h p is.up) refl
    (act_rises g h d s.time _ _ _ n (accepts h d u r s ns is fine)) in
    let lt : g.next_dir < g.next_dir + 1 = omega arith in
    let le : g.next_dir ≤ g.next_dir + 1 = omega arith in
    let second = founded_onward _ g.next_dir m _ (g.next_dir + 1) first.plain (up_made g m p up) (p.unknown g.next_dir (le_refl _)) lt le in
    (record { made = w.0.made; above = w.0.above; within = le_trans w.0.within (second.rises b.by); node = w.0.node }, w.1)

-- ---- the accepted updates of a run

pub record Logged (g : Cell) (log : List Accepted) : Type 0 where
  pub made : (a : Accepted) → In a log → has a.by g.made ≡ true
  pub below : (a : Accepted) → In a log → a.stamp.time ≤ (g.house a.by).floor
  pub node : (a : Accepted) → In a log → a.stamp.node ≡ (g.house a.by).node
  pub once : (a b : Accepted) → In a log → In b log → a.stamp ≡ b.stamp → a ≡ b

-- an update of this step has another stamp than the earlier ones
new_stamp : (g g' : Cell) (log : List Accepted) (a b : Accepted) → Plain g → Logged g log → In a log → Issued g g' b.by b.stamp → a.stamp ≡ b.stamp → ⊥
new_stamp g g' log a b p l i is e =
    let same : a.by ≡ b.by = p.nodes a.by b.by (l.made a i) is.made (sym (l.node a i) ∙ ap (λ (z : Stamp). z.node) e ∙ is.node) in
    let low : a.stamp.time ≤ (g.house b.by).floor = subst (λ (x : ℕ). a.stamp.time ≤ (g.house x).floor) same (l.below a i) in
    omega (arith, is.above, ap (λ (z : Stamp). z.time) e)

logged_kept : (g g' : Cell) (n log : List Accepted) → Plain g → Onward g g'
    → ((b : Accepted) → In b n → Issued g g' b.by b.stamp × ((c : Accepted) → In c n → c ≡ b)) → Logged g log → Logged g' (log ++ n)
logged_kept g g' n log p o new l = record {
  made = λ a i. ⊎_elim (λ was. (o.kept a.by (l.made a was)).0) (λ z. (o.kept a.by (new a z).0.made).0) (In-append_cases a log n i);
  below = λ a i. ⊎_elim (λ was. le_trans (l.below a was) (o.rises a.by)) (λ z. (new a z).0.within) (In-append_cases a log n i);
  node = λ a i. ⊎_elim (λ was. l.node a was ∙ sym (o.kept a.by (l.made a was)).1) (λ z. (new a z).0.node
      ∙ sym (o.kept a.by (new a z).0.made).1) (In-append_cases a log n i);
  once = λ a b i j e. ⊎_elim
      (λ was. ⊎_elim (λ was'. l.once a b was was' e) (λ z. absurd (new_stamp g g' log a b p l was (new b z).0 e)) (In-append_cases b log n j))
      (λ z. ⊎_elim (λ was'. absurd (new_stamp g g' log b a p l was' (new a z).0 (sym e))) (λ z'. (new b z').1 a z) (In-append_cases b log n j))
      (In-append_cases a log n i);
}

logged_run : (cs : List Command) (g : Cell) (log : List Accepted) → Plain g → Logged g log → Logged (replay_from g cs) (log ++ accepted_from g cs)
logged_run [] g log p l = subst (λ (z : List Accepted). Logged g z) (sym (append_nil log)) l
logged_run (c ∷ cs) g log p l =
    let o = outcome g c in
    let on = step_onward g c p in
    let l' = logged_kept g o.cell o.accepted log p on (steps_accepted g o.cell (place_of g c) o.answer o.accepted p (outcome_steps g c)) l in
    subst (λ (z : List Accepted). Logged (replay_from o.cell cs) z) (append_assoc log o.accepted (accepted_from o.cell cs))
    (logged_run cs o.cell (log ++ o.accepted) on.plain l')

-- what the accepted updates of a run say of its cell
pub logged_at : (cs : List Command) → Logged (replay cs) (accepted_updates cs)
logged_at cs = logged_run cs empty_cell [] empty_plain
    (record { made = λ a i. elim i [ ]; below = λ a i. elim i [ ]; node = λ a i. elim i [ ]; once = λ a b i. elim i [ ] })
