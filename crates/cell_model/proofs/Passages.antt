-- What a command leaves in a directory: one frame, or two.
use Rattle.std.proofs.Common.{◌≡◌, ◌≢◌, ℕ, ◌+◌, ◌≤◌, ◌⊎◌, inl, inr, Bool, true, false, eqb, cond, List, [], ◌∷◌, ◌++◌, Option, Some, None, refl, sym}
use Rattle.std.proofs.Common.{ap, ◌∙◌, subst, arith, ⊎_elim, le_refl}
use Rattle.cds_stamps.specs.declared.stamp.Stamp.{Stamp}
use Rattle.cds_stamps.specs.Members.{Member, master_of, others_of, is_accepting}
use Rattle.directory.specs.Histories.{Mark, Birth, stamp_in}
use Rattle.directory.specs.Shown.{shown_of_name, refusal_of}
use Rattle.directory.specs.declared.update.UpdateRefusal.TheVariants.{NotMaster}
use Rattle.directory.specs.Updates.{Change, changed_name}
use Rattle.cell_model.specs.Cells.{Phase, Idle, Spreading, Replica, Slot, Held, House, Update, SpreadAck, Copy, Message, Cell, IsHeld, put}
use Rattle.cell_model.specs.Commands.{Answer, Complete, Accepted}
use Rattle.cell_model.specs.Sets.{In, IsPart, has}
use Rattle.cell_model.specs.Turns.{with_marks, with_slot, to_each, running_skulk_stamp, update_refusal, first_replica, copy_of, later_up_to}
use Rattle.cell_model.specs.Steps.{move_house, cell_with_directory, member_list_of}
use Rattle.cell_model.proofs.Lists.{append_nil, eq_from, In-append_right, earlier_up_to}
use Rattle.cell_model.proofs.Facts.{View, view, IsPosted, Holds, Roll, marks_in, copy_in, Sound, New, Frame}
use Rattle.cell_model.proofs.Bounds.{held_low}
use Rattle.cell_model.proofs.SecondRound.{Done, done_kept, done_when}
use Rattle.cell_model.proofs.FirstRound.{lone_done}
use Rattle.cell_model.proofs.Soundness.{sound_kept}
use Rattle.cell_model.proofs.Rounds.{Round, Rounds, rounds_kept, round_acked}
use Rattle.cell_model.proofs.Marks.{shown_birth, marks_made, stamp_next}
use Rattle.cell_model.proofs.Views.{put_at, put_same, put_back, In-of_dir}
use Rattle.cell_model.proofs.Moves.{floor_at, new_marks, IsUp, Issuing, Taking, accepting, Act, accepts, lone, completes, Move, stays, acts, Steps, one, mkdirs}
use Rattle.cell_model.proofs.EpochFrames.{Whole}
use Rattle.cell_model.proofs.MoveFrames.{home_of_up, act_rises, founding_frame, founded_view, acting_frame, move_frame}
use Rattle.cell_model.proofs.Wholes.{Plain, whole_of, up_made, moved_onward}
use Rattle.cell_model.proofs.Known.{Known, known_kept, Accepting, AllAccepting}

-- ---- what a step accepts

-- the slot of the house that acts
pub slot_after : (g : Cell) (h d floor : ℕ) (o : Slot) → (put g.house h (with_slot (g.house h) d floor o) h).slots d ≡ o
slot_after g h d floor o = put_back (λ (v : House). v.slots d ≡ o) g.house h (with_slot (g.house h) d floor o) (put_same (g.house h).slots d o)

-- what a house that accepts updates does not refuse
pub not_refused : (h : ℕ) (u : Change) (r : Replica) → update_refusal h u r ≡ None → refusal_of (shown_of_name r.history (changed_name u)) u ≡ None
not_refused h u r e = go (is_accepting h r.members) e
  where
    go : (b : Bool) → cond b (refusal_of (shown_of_name r.history (changed_name u)) u) (Some NotMaster) ≡ None → refusal_of (shown_of_name r.history (changed_name u)) u ≡ None
    go true q = q
    go false q = absurd (cc)

accept_accepting : (g : Cell) (h d : ℕ) (u : Change) (r : Replica) (s : Stamp) (posts : List Message) → Issuing g h d r s → update_refusal h u r ≡ None
    → ((k : Mark) → In k r.history → (stamp_in k).time ≤ (g.house h).floor)
    → Accepting (view d g) (view d (move_house g h (with_slot (g.house h) d s.time (Held (with_marks r (new_marks r u s)))) posts)) (accepting h d u r s)
accept_accepting g h d u r s posts i fine floors =
    let issued = stamp_next (g.house h).clock (g.house h).floor (g.house h).node s i.next in
    record {
      was = r;
      now = with_marks r (new_marks r u s);
      held = i.held;
      holds = slot_after g h d s.time (Held (with_marks r (new_marks r u s)));
      epoch = refl;
      epoch' = refl;
      since = refl;
      marks = λ k z. In-append_right k r.history (new_marks r u s) z;
      well = marks_made (shown_of_name r.history (changed_name u)) u s (not_refused h u r fine)
          (λ e q. earlier_up_to e.birth s
          (omega (arith, floors (Birth (changed_name u) e.kind e.birth) (shown_birth r.history (changed_name u) e q), issued.0)));
      fresh = issued.0;
    }

act_accepting : (roll : Roll) (g : Cell) (h d floor : ℕ) (o : Slot) (posts : List Message) (a : Answer) (n : List Accepted) → Sound roll (view roll.dir g)
    → Act g h d floor o posts a n → AllAccepting roll.dir (view roll.dir g) (view roll.dir (move_house g h (with_slot (g.house h) d floor o) posts)) n
act_accepting roll g h d floor o posts a n s (accepts _ _ u r t ns i fine) b (inl e) dir =
    subst (λ (z : Accepted). Accepting (view roll.dir g) (view roll.dir (move_house g h (with_slot (g.house h) d t.time (Held (with_marks r (new_marks r u t)))) posts)) z)
    (sym e)
    (here roll.dir (sym (ap (λ (z : Accepted). z.dir) e) ∙ dir) s)
  where
    here : (d' : ℕ) → d ≡ d' → Sound roll (view d' g)
        → Accepting (view d' g) (view d' (move_house g h (with_slot (g.house h) d t.time (Held (with_marks r (new_marks r u t)))) posts)) (accepting h d u r t)
    here d' same s' =
        subst (λ (z : ℕ). Accepting (view z g) (view z (move_house g h (with_slot (g.house h) d t.time (Held (with_marks r (new_marks r u t)))) posts)) (accepting h d u r t))
        same
        (accept_accepting g h d u r t posts i fine (λ k z. (s'.held h r (subst (λ (y : ℕ). (g.house h).slots y ≡ Held r) same i.held)).floors k z))
act_accepting roll g h d floor o posts a n s (accepts _ _ u r t ns i fine) b (inr z) dir = elim z [ ]
act_accepting roll g h d floor o posts a n s _ b i dir = elim i [ ]

move_accepting : (roll : Roll) (g g' : Cell) (p : Option (ℕ × ℕ)) (a : Answer) (n : List Accepted) → Sound roll (view roll.dir g) → Move g p g' a n
    → AllAccepting roll.dir (view roll.dir g) (view roll.dir g') n
move_accepting roll g g' p a n s (acts h d at floor o posts c l act) b i dir = act_accepting roll g h d floor o posts c l s act b i dir
move_accepting roll g g' p a n s _ b i dir = elim i [ ]

-- ---- passages

-- what a run says of a cell of it
pub record Fit (roll : Roll) (g : Cell) : Type 0 where
  pub plain : Plain g
  pub homes : (x : ℕ) → has x g.made ≡ true → roll.home (g.house x).node ≡ x
  pub present : g.present roll.dir ≡ roll.list (g.top roll.dir)

-- what a run says of a cell of it, of its houses at large
pub whole_at : (roll : Roll) (g : Cell) → Fit roll g → Whole roll.home g
whole_at roll g f = whole_of roll.home g f.plain f.homes

-- a command that makes this directory: the update of its parent, and then the directory
pub record Halves (roll : Roll) (v v' : View) (n : List Accepted) : Type 0 where
  pub mid : View
  pub first : Frame roll v mid n
  pub accepting : AllAccepting roll.dir v mid n
  pub second : Frame roll mid v' []
  pub vacant : (x : ℕ) (r : Replica) → Holds v x r → ⊥
  pub still : (x : ℕ) (r : Replica) → Holds mid x r → Holds v' x r
  pub floors : (x : ℕ) → (mid.house x).floor ≡ (v'.house x).floor

-- a new directory takes no replica away
founded_still : (roll : Roll) (g : Cell) (d m : ℕ) (ms : List Member) → Sound roll (view roll.dir g) → g.top d ≡ 0 → (x : ℕ) (r : Replica)
    → IsHeld g x roll.dir r → (put g.house m (with_slot (g.house m) d (g.house m).floor (Held (first_replica ms))) x).slots roll.dir ≡ Held r
founded_still roll g d m ms s none x r at =
    put_at (λ y v. (q : Replica) → IsHeld g y roll.dir q → v.slots roll.dir ≡ Held q) g.house m
    (with_slot (g.house m) d (g.house m).floor (Held (first_replica ms)))
    (λ q z. by_slot (eqb roll.dir d) refl q z) (λ y _ q z. z) x r at
  where
    by_slot : (b : Bool) → eqb roll.dir d ≡ b → (q : Replica) → IsHeld g m roll.dir q → cond b (Held (first_replica ms)) ((g.house m).slots roll.dir) ≡ Held q
    by_slot true e q z = absurd (omega (arith, held_low roll (view roll.dir g) m q s z, (s.held m q z).top, ap g.top (eq_from roll.dir d e), none))
    by_slot false e q z = z

-- what a command leaves in a directory: one frame, or two in a row
pub data Passage (roll : Roll) (v v' : View) (n : List Accepted) : Type 0 where
  whole : Frame roll v v' n → AllAccepting roll.dir v v' n → Passage roll v v' n
  halves : Halves roll v v' n → Passage roll v v' n

-- whether the command makes this directory
by_number : (roll : Roll) (g : Cell) (m : ℕ) (rs ss : List ℕ) (n : List Accepted) (g1 : Cell) (nd : ℕ) → Whole roll.home g1 → g.top g.next_dir ≡ 0
    → g1.top g.next_dir ≡ 0 → Sound roll (view roll.dir g) → Sound roll (view roll.dir g1) → Frame roll (view roll.dir g) (view roll.dir g1) n
    → AllAccepting roll.dir (view roll.dir g) (view roll.dir g1) n
    → put g1.present g.next_dir (member_list_of [] 1 m rs ss) roll.dir ≡ roll.list (put g1.top g.next_dir 1 roll.dir)
    → Passage roll (view roll.dir g) (view roll.dir (record (cell_with_directory g1 g.next_dir m (member_list_of [] 1 m rs ss)) { next_dir = nd })) n
by_number roll g m rs ss n g1 nd w1 none none1 s s1 fr acc fit = go (eqb roll.dir g.next_dir) refl
  where
    go : (b : Bool) → eqb roll.dir g.next_dir ≡ b
        → Passage roll (view roll.dir g) (view roll.dir (record (cell_with_directory g1 g.next_dir m (member_list_of [] 1 m rs ss)) { next_dir = nd })) n
    go true e = halves (record {
      mid = view roll.dir g1;
      first = fr;
      accepting = acc;
      second = founding_frame roll g1 g.next_dir m rs ss nd w1 none1 roll.dir s1 fit;
      vacant = λ x r h. omega (arith, held_low roll (view roll.dir g) x r s h, (s.held x r h).top, ap g.top (eq_from roll.dir g.next_dir e), none);
      still = founded_still roll g1 g.next_dir m (member_list_of [] 1 m rs ss) s1 none1;
      floors = put_at (λ x v. (g1.house x).floor ≡ v.floor) g1.house m _ refl (λ x _. refl);
    })
    go false e =
        let apart : roll.dir ≢ g.next_dir = grind arith in
        let is = founded_view g1 g.next_dir m (member_list_of [] 1 m rs ss) nd roll.dir apart in
        whole (subst (λ (z : View). Frame roll (view roll.dir g) z n) (sym is) fr)
        (subst (λ (z : View). AllAccepting roll.dir (view roll.dir g) z n) (sym is) acc)

-- each step of a cell is a passage of each directory
pub passage : (roll : Roll) (g g' : Cell) (p : Option (ℕ × ℕ)) (a : Answer) (n : List Accepted) → Fit roll g → Fit roll g' → Sound roll (view roll.dir g)
    → Steps g p g' a n → Passage roll (view roll.dir g) (view roll.dir g') n
passage roll g g' p a n f f' s (one _ _ _ m) = whole (move_frame roll g g' p a n (whole_at roll g f) s f'.present m) (move_accepting roll g g' p a n s m)
passage roll g g' p a n f f' s (mkdirs h d m u rs ss r t ns at i fine up known) =
    let o : Slot = Held (with_marks r (new_marks r u t)) in
    let posts : List Message = to_each (others_of h r.members) d h r.epoch t.time (Update (new_marks r u t)) in
    let g1 : Cell = move_house g h (with_slot (g.house h) d t.time o) posts in
    let act = accepts h d u r t ns i fine in
    let made = up_made g h f.plain i.up in
    let on = moved_onward g h (with_slot (g.house h) d t.time o) posts f.plain made refl (act_rises g h d t.time o posts _ n act) in
    let fr : Frame roll (view roll.dir g) (view roll.dir g1) n = acting_frame roll g h d t.time o posts _ n (whole_at roll g f) act s in
    let s1 : Sound roll (view roll.dir g1) = sound_kept roll (view roll.dir g) (view roll.dir g1) n s fr in
    let w1 : Whole roll.home g1 = whole_of roll.home g1 on.plain (λ x mx. ap roll.home (on.kept x mx).1 ∙ f.homes x mx) in
    by_number roll g m rs ss n g1 (g.next_dir + 1) w1 (f.plain.unknown g.next_dir (le_refl _)) (f.plain.unknown g.next_dir (le_refl _)) s s1 fr
    (act_accepting roll g h d t.time o posts _ n s act) f'.present

-- ---- what every reached cell is

-- what holds of a directory in every cell that is reached, with the updates that were accepted
pub record Reaching (roll : Roll) (v : View) (log : List Accepted) : Type 0 where
  pub sound : Sound roll v
  pub rounds : Rounds roll v
  pub known : Known roll v log

by_frame : (roll : Roll) (v v' : View) (n log : List Accepted) → Frame roll v v' n → AllAccepting roll.dir v v' n → Reaching roll v log
    → Reaching roll v' (log ++ n)
by_frame roll v v' n log f acc r =
    let s' = sound_kept roll v v' n r.sound f in
    record { sound = s'; rounds = rounds_kept roll v v' n r.sound s' f r.rounds; known = known_kept roll v v' n log r.sound s' f acc r.known }

none_accepting : (d : ℕ) (v v' : View) → AllAccepting d v v' []
none_accepting d v v' b i = elim i [ ]

-- a passage keeps it
pub reaching_kept : (roll : Roll) (v v' : View) (n log : List Accepted) → Passage roll v v' n → Reaching roll v log → Reaching roll v' (log ++ n)
reaching_kept roll v v' n log (whole f acc) r = by_frame roll v v' n log f acc r
reaching_kept roll v v' n log (halves h) r =
    let r1 = by_frame roll v h.mid n log h.first h.accepting r in
    subst (λ (l : List Accepted). Reaching roll v' l) (append_nil (log ++ n))
    (by_frame roll h.mid v' [] (log ++ n) h.second (none_accepting roll.dir h.mid v') r1)

-- ---- what a skulk that completed leaves

-- a passage keeps what a skulk that completed leaves
pub done_passed : (roll : Roll) (v v' : View) (n log : List Accepted) (k : ℕ) (t : Stamp) (all : List Mark) → Passage roll v v' n → Reaching roll v log
    → Done roll v k t all → Done roll v' k t all
done_passed roll v v' n log k t all (whole f acc) r d = done_kept roll v v' n r.sound (sound_kept roll v v' n r.sound f) f k t all d
done_passed roll v v' n log k t all (halves h) r d =
    let s1 = sound_kept roll v h.mid n r.sound h.first in
    done_kept roll h.mid v' [] s1 (sound_kept roll h.mid v' [] s1 h.second) h.second k t all
    (done_kept roll v h.mid n r.sound s1 h.first k t all d)

-- the act that completes a skulk
pub record Completing (g g' : Cell) (p : Option (ℕ × ℕ)) (t : Stamp) (ns : List ℕ) (n : List Accepted) : Type 0 where
  pub house : ℕ
  pub dir : ℕ
  pub floor : ℕ
  pub slot : Slot
  pub posts : List Message
  pub at : p ≡ Some (house, dir)
  pub act : Act g house dir floor slot posts (Complete t ns) n
  pub is : g' ≡ move_house g house (with_slot (g.house house) dir floor slot) posts

completing_move : (g g' : Cell) (p : Option (ℕ × ℕ)) (t : Stamp) (ns : List ℕ) (n : List Accepted) → Move g p g' (Complete t ns) n → Completing g g' p t ns n
completing_move g g' p t ns n (stays _ q) = elim q [ ]
completing_move g g' p t ns n (acts h d at floor o posts _ _ act) =
    record { house = h; dir = d; floor = floor; slot = o; posts = posts; at = at; act = act; is = refl }

-- a step that answers that a skulk completes is an act that completes it
pub completing : (g g' : Cell) (p : Option (ℕ × ℕ)) (t : Stamp) (ns : List ℕ) (n : List Accepted) → Steps g p g' (Complete t ns) n → Completing g g' p t ns n
completing g g' p t ns n (one _ _ _ m) = completing_move g g' p t ns n m

-- the master that completes, and that the skulk is done
pub record Completed (roll : Roll) (v' : View) (h : ℕ) (o : Slot) (t : Stamp) : Type 0 where
  pub replica : Replica
  pub is : o ≡ Held replica
  pub holds : Holds v' h replica
  pub done : Done roll v' replica.epoch t replica.history

module _ (roll : Roll) (g : Cell) (w : Whole roll.home g) (s : Sound roll (view roll.dir g)) (rounds : Rounds roll (view roll.dir g)) where
  abbrev v : View
  v = view roll.dir g

  lone_completed : (h d : ℕ) (r : Replica) (t : Stamp) → d ≡ roll.dir → Issuing g h d r t → master_of r.members ≡ h → others_of h r.members ≡ []
      → (v' : View) → v' ≡ view roll.dir (move_house g h (with_slot (g.house h) d t.time (Held (record r { all_up_to = later_up_to r.all_up_to t; phase = Idle }))) [])
      → Sound roll v' → Frame roll v v' [] → Completed roll v' h (Held (record r { all_up_to = later_up_to r.all_up_to t; phase = Idle })) t
  lone_completed h d r t dir i head alone v' is s' f =
      let q : Replica = record r { all_up_to = later_up_to r.all_up_to t; phase = Idle } in
      let issued = stamp_next (g.house h).clock (g.house h).floor (g.house h).node t i.next in
      let home : roll.home t.node ≡ h = ap roll.home issued.1 ∙ w.at_home h (up_is_made h i.up) in
      let at : Holds v' h q =
      subst (λ (z : View). Holds z h q) (sym is)
      (subst (λ (z : ℕ). ((move_house g h (with_slot (g.house h) d t.time (Held q)) []).house h).slots z ≡ Held q) dir (slot_after g h d t.time (Held q))) in
      let high : t.time ≤ (v'.house h).floor =
      subst (λ (z : View). t.time ≤ (z.house h).floor) (sym is)
      (put_back (λ (x : House). t.time ≤ x.floor) g.house h (with_slot (g.house h) d t.time (Held q)) (le_refl _)) in
      record {
        replica = q;
        is = refl;
        holds = at;
        done = lone_done roll v v' [] h q t s s' f at head home issued.0 high refl
            (λ y o. subst (λ (l : List ℕ). In y l) (ap (λ (z : ℕ). others_of z r.members) head ∙ alone) o);
      }
    where
      up_is_made : (x : ℕ) → IsUp g x → has x g.made ≡ true
      up_is_made x up = home_of_up roll.home g x w up

  last_completed : (m : Message) (t : Stamp) (a : List ℕ) (r : Replica) → m.dir ≡ roll.dir → Taking g m (SpreadAck t) r → r.phase ≡ Spreading t a
      → ((x : ℕ) → In x (others_of m.receiver r.members) → In x (m.sender ∷ a)) → (posts : List Message) (v' : View)
      → v' ≡ view roll.dir
      (move_house g m.receiver (with_slot (g.house m.receiver) m.dir (floor_at g m) (Held (record r { all_up_to = later_up_to r.all_up_to t; phase = Idle }))) posts)
      → Sound roll v' → Frame roll v v' [] → Completed roll v' m.receiver (Held (record r { all_up_to = later_up_to r.all_up_to t; phase = Idle })) t
  last_completed m t a r dir k run all posts v' is s' f =
      let q : Replica = record r { all_up_to = later_up_to r.all_up_to t; phase = Idle } in
      let at : Holds v m.receiver r = subst (λ (z : ℕ). (g.house m.receiver).slots z ≡ Held r) dir k.held in
      let at' : Holds v' m.receiver q =
      subst (λ (z : View). Holds z m.receiver q) (sym is)
      (subst (λ (z : ℕ). ((move_house g m.receiver (with_slot (g.house m.receiver) m.dir (floor_at g m) (Held q)) posts).house m.receiver).slots z ≡ Held q) dir
      (slot_after g m.receiver m.dir (floor_at g m) (Held q))) in
      let runs : running_skulk_stamp r.phase ≡ Some t = subst (λ (z : Phase). running_skulk_stamp z ≡ Some t) (sym run) refl in
      let ok = (s.held m.receiver r at).phase t runs in
      let round = subst (λ (z : Phase). Round roll v m.receiver r z) run (rounds m.receiver r at) in
      let posted = In-of_dir roll.dir g.bag m k.posted dir in
      let sp = round_acked roll v v' [] s s' f m.receiver r q at at' refl (λ j i. i) t a m run posted k.is round in
      record {
        replica = q;
        is = refl;
        holds = at';
        done = done_when roll v' m.receiver q t (m.sender ∷ a) s' at' ok.0 sp (λ y o. all y (subst (λ (z : ℕ). In y (others_of z r.members)) ok.0 o));
      }

-- an act that completes a skulk leaves what a completed skulk does
pub act_completed : (roll : Roll) (g : Cell) (h d floor : ℕ) (o : Slot) (posts : List Message) (t : Stamp) (ns : List ℕ) (n : List Accepted)
    → Whole roll.home g → Sound roll (view roll.dir g) → Rounds roll (view roll.dir g) → d ≡ roll.dir → Act g h d floor o posts (Complete t ns) n
    → Completed roll (view roll.dir (move_house g h (with_slot (g.house h) d floor o) posts)) h o t
act_completed roll g h d floor o posts t ns n w s rounds dir (lone _ _ r _ i head alone) =
    let f : Frame roll (view roll.dir g) (view roll.dir (move_house g h (with_slot (g.house h) d floor o) posts)) [] =
    acting_frame roll g h d floor o posts _ [] w (lone h d r t i head alone) s in
    lone_completed roll g w s rounds h d r t dir i head alone _ refl (sound_kept roll _ _ [] s f) f
act_completed roll g h d floor o posts t ns n w s rounds dir (completes m _ a r _ k run all) =
    let f : Frame roll (view roll.dir g) (view roll.dir (move_house g h (with_slot (g.house h) d floor o) posts)) [] =
    acting_frame roll g h d floor o posts _ [] w (completes m t a r ns k run all) s in
    last_completed roll g w s rounds m t a r dir k run all _ _ refl (sound_kept roll _ _ [] s f) f

-- ---- what a step posts

-- a message that a step posts, and what its sender holds after the step
pub record PostedBy (v' : View) (m : Message) : Type 0 where
  pub replica : Replica
  pub held : Holds v' m.sender replica
  pub epoch : replica.epoch ≡ m.epoch
  pub floor : m.floor ≡ (v'.house m.sender).floor
  pub marks : IsPart (marks_in m.body) replica.history
  pub copied : (c : Copy) → copy_in m.body ≡ Some c → c ≡ copy_of replica

new_by : (roll : Roll) (v v' : View) (n : List Accepted) (m : Message) → New roll v v' n m → PostedBy v' m
new_by roll v v' n m w = record { replica = w.q; held = w.held; epoch = w.epoch; floor = w.floor; marks = w.marks; copied = w.copied }

-- a message that is posted after a passage was posted before it, or is posted in it
pub passage_posts : (roll : Roll) (v v' : View) (n : List Accepted) → Passage roll v v' n → (m : Message) → IsPosted v' m → IsPosted v m ⊎ PostedBy v' m
passage_posts roll v v' n (whole f acc) m i = ⊎_elim (λ was. inl was) (λ w. inr (new_by roll v v' n m w)) (f.posts m i)
passage_posts roll v v' n (halves h) m i = ⊎_elim
    (λ mid. ⊎_elim (λ was. inl was)
    (λ (w : New roll v h.mid n m).
    inr (record {
      replica = w.q;
      held = h.still m.sender w.q w.held;
      epoch = w.epoch;
      floor = w.floor
          ∙ h.floors m.sender;
      marks = w.marks;
      copied = w.copied;
    }))
    (h.first.posts m mid))
    (λ w. inr (new_by roll h.mid v' [] m w))
    (h.second.posts m i)

-- messages stay posted, and floors do not fall
pub passage_stays : (roll : Roll) (v v' : View) (n : List Accepted) → Passage roll v v' n → (m : Message) → IsPosted v m → IsPosted v' m
passage_stays roll v v' n (whole f acc) m i = f.stays m i
passage_stays roll v v' n (halves h) m i = h.second.stays m (h.first.stays m i)
