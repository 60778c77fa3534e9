-- What is known of accepted updates: all marks are theirs, and each house keeps those of its
-- present term.
use Rattle.std.proofs.Common.{◌≡◌, ℕ, ◌<◌, ◌≤◌, List, ◌++◌, sym, ap, ◌∙◌, subst, arith, ⊎_elim, le_refl, le_trans}
use Rattle.cds_stamps.specs.Members.{Member, since_in}
use Rattle.directory.specs.Histories.{Mark, stamp_in}
use Rattle.cell_model.specs.Sets.{In, IsPart}
use Rattle.cell_model.specs.Cells.{Replica, Slot, Gone, Held, Message}
use Rattle.cell_model.specs.Commands.{Accepted}
use Rattle.cell_model.proofs.Lists.{In-append_left, In-append_right, In-append_cases}
use Rattle.cell_model.proofs.Terms.{Listed}
use Rattle.cell_model.proofs.Facts.{View, IsPosted, Holds, Roll, marks_in, Reached, Sound, Past, grew, rose, crowned, copied, founded, Came, own}
use Rattle.cell_model.proofs.Facts.{sent, fresh, Brings, New, Frame}
use Rattle.cell_model.proofs.Bounds.{held_reached, same_held}
use Rattle.cell_model.proofs.FirstRound.{slot_cases}
use Rattle.cell_model.proofs.Marks.{WellMade}

-- a mark is here by an update of the directory that was accepted, all of whose marks stand here
pub record Whence (d : ℕ) (log : List Accepted) (h : List Mark) (k : Mark) : Type 0 where
  pub by : Accepted
  pub logged : In by log
  pub dir : by.dir ≡ d
  pub has : In k by.marks
  pub part : IsPart by.marks h

-- each mark of a history came by an accepted update, of which the history has all
abbrev pub Closed : ℕ → List Accepted → List Mark → Type 0
Closed d log h = (k : Mark) → In k h → Whence d log h k

-- a mark is here by an update that was accepted, whose stamp it has
pub record Origin (d : ℕ) (log : List Accepted) (k : Mark) : Type 0 where
  pub by : Accepted
  pub logged : In by log
  pub dir : by.dir ≡ d
  pub has : In k by.marks
  pub stamp : stamp_in k ≡ by.stamp

-- what holds of the accepted updates in every cell that is reached
pub record Known (roll : Roll) (g : View) (log : List Accepted) : Type 0 where
  pub only : (x : ℕ) (r : Replica) → Holds g x r → Closed roll.dir log r.history
  pub only_m : (m : Message) → IsPosted g m → Closed roll.dir log (marks_in m.body)
  pub up : (a : Accepted) → In a log → a.dir ≡ roll.dir → Reached a.epoch (g.house a.by).slot
  pub term : (a : Accepted) → In a log → a.dir ≡ roll.dir → (a.epoch ≤ g.top) × Listed (roll.list a.epoch) a.by a.since
  pub all : (a : Accepted) (r : Replica) → In a log → a.dir ≡ roll.dir → Holds g a.by r → Listed (roll.list r.epoch) a.by a.since → IsPart a.marks r.history
  pub well : (a : Accepted) → In a log → a.dir ≡ roll.dir → WellMade a.stamp a.marks
  pub origin : (x : ℕ) (r : Replica) → Holds g x r → (k : Mark) → In k r.history → Origin roll.dir log k
  pub origin_m : (m : Message) → IsPosted g m → (k : Mark) → In k (marks_in m.body) → Origin roll.dir log k

-- an update that a step accepts
pub record Accepting (g g' : View) (b : Accepted) : Type 0 where
  pub was : Replica
  pub now : Replica
  pub held : Holds g b.by was
  pub holds : Holds g' b.by now
  pub epoch : was.epoch ≡ b.epoch
  pub epoch' : now.epoch ≡ b.epoch
  pub since : b.since ≡ since_in was.members b.by 0
  pub marks : IsPart b.marks now.history
  pub well : WellMade b.stamp b.marks
  pub fresh : (g.house b.by).floor < b.stamp.time

-- each update of a step in this directory is one that the step accepts
abbrev pub AllAccepting : ℕ → View → View → List Accepted → Type 0
AllAccepting d g g' new = (b : Accepted) → In b new → b.dir ≡ d → Accepting g g' b

pub more_known : (d : ℕ) (log new : List Accepted) (h h' : List Mark) (k : Mark) → IsPart h h' → Whence d log h k → Whence d (log ++ new) h' k
more_known d log new h h' k sub w =
    record { by = w.by; logged = In-append_left w.by log new w.logged; dir = w.dir; has = w.has; part = λ j i. sub j (w.part j i) }

pub more_origin : (d : ℕ) (log new : List Accepted) (k : Mark) → Origin d log k → Origin d (log ++ new) k
more_origin d log new k o = record { by = o.by; logged = In-append_left o.by log new o.logged; dir = o.dir; has = o.has; stamp = o.stamp }

module _ (roll : Roll) (g g' : View) (new log : List Accepted) (s : Sound roll g) (s' : Sound roll g') (f : Frame roll g g' new)
    (acc : AllAccepting roll.dir g g' new) (w : Known roll g log) where
  known_came : (x floor : ℕ) (r' : Replica) (k : Mark) → Came roll g g' new x floor r' k → Whence roll.dir (log ++ new) r'.history k
  known_came x floor r' k (own r h i _ _ sub) = more_known roll.dir log new r.history r'.history k sub (w.only x r h k i)
  known_came x floor r' k (sent m at _ i _ sub) = more_known roll.dir log new (marks_in m.body) r'.history k sub (w.only_m m at k i)
  known_came x floor r' k (fresh r a _ _ _ _ i dir ik _ sub _) = record { by = a; logged = In-append_right a log new i; dir = dir; has = ik; part = sub }

  origin_came : (x floor : ℕ) (r' : Replica) (k : Mark) → Came roll g g' new x floor r' k → Origin roll.dir (log ++ new) k
  origin_came x floor r' k (own r h i _ _ sub) = more_origin roll.dir log new k (w.origin x r h k i)
  origin_came x floor r' k (sent m at _ i _ sub) = more_origin roll.dir log new k (w.origin_m m at k i)
  origin_came x floor r' k (fresh r a _ _ _ _ i dir ik e sub _) = record { by = a; logged = In-append_right a log new i; dir = dir; has = ik; stamp = e }

  -- a house keeps the updates of its present term
  all_past : (b : Accepted) (r' : Replica) → In b log → b.dir ≡ roll.dir → Holds g' b.by r' → Listed (roll.list r'.epoch) b.by b.since
      → Past roll g g' b.by (g'.house b.by).floor r' → IsPart b.marks r'.history
  all_past b r' i dir h' l (grew r h e _ sub _) = λ k ik. sub k (w.all b r i dir h (subst (λ (z : ℕ). Listed (roll.list z) b.by b.since) (sym e) l) k ik)
  all_past b r' i dir h' l (rose r _ _ _ h lt sub _ cont _) =
      λ k ik. sub k (w.all b r i dir h (s'.good.term r.epoch r'.epoch b.by b.since (omega arith) (s'.held b.by r' h').top (cont b.since l) l) k ik)
  all_past b r' i dir h' l (crowned r h lt sub cont _ _ _ _ _) =
      λ k ik. sub k (w.all b r i dir h (s'.good.term r.epoch r'.epoch b.by b.since (omega arith) (s'.held b.by r' h').top (cont b.since l) l) k ik)
  all_past b r' i dir h' l (founded none _ _ _ _ _) =
      let t = w.term b i dir in
      let zero_epoch : b.epoch ≡ 0 = omega (arith, t.0, none) in
      absurd (s.good.none b.by b.since (subst (λ (z : ℕ). Listed (roll.list z) b.by b.since) zero_epoch t.1))
  all_past b r' i dir h' l (copied m ms copy _ lower out _) =
      let t = w.term b i dir in
      let young = s.good.order b.epoch b.by b.since t.0 t.1 in
      ⊎_elim
      (λ (z : (q : Replica) × ((g.house b.by).slot ≡ Held q) × (b.epoch ≤ q.epoch)). absurd (omega (arith, out z.0 b.since z.1 l, z.2, young)))
      (λ (z : (e : ℕ) × ((g.house b.by).slot ≡ Gone e) × (b.epoch ≤ e)).
      let lt = lower z.0 (subst (λ (o : Slot). Reached z.0 o) (sym z.1) (le_refl _)) in
      absurd ((s.gone b.by z.0 z.1).2 b.since (s'.good.term z.0 r'.epoch b.by b.since (omega arith) (s'.held b.by r' h').top (omega (arith, young, z.2)) l)))
      (slot_cases b.epoch _ (w.up b i dir))

  only' : (x : ℕ) (r' : Replica) → Holds g' x r' → Closed roll.dir (log ++ new) r'.history
  only' x r' h' k i = known_came x _ r' k (f.comes x r' k h' i)

  posted_known : (m : Message) → New roll g g' new m → Closed roll.dir (log ++ new) (marks_in m.body)
  posted_known m n k i = ⊎_elim
      (λ (all : IsPart n.q.history (marks_in m.body)). let o = only' m.sender n.q n.held k (n.marks k i) in
      record { by = o.by; logged = o.logged; dir = o.dir; has = o.has; part = λ j ij. all j (o.part j ij) })
      (λ (b : (k : Mark) → In k (marks_in m.body) → Brings roll.dir new (marks_in m.body) k). let o = b k i in
      record { by = o.by; logged = In-append_right o.by log new o.logged; dir = o.dir; has = o.has; part = o.part })
      n.source

  -- what an update of this step says of its term
  new_term : (b : Accepted) → Accepting g g' b → (b.epoch ≤ g'.top) × Listed (roll.list b.epoch) b.by b.since
  new_term b z =
      let ok = s.held b.by z.was z.held in
      let same_since : since_in (roll.list z.was.epoch) b.by 0 ≡ b.since = ap (λ (y : List Member). since_in y b.by 0) (sym ok.members) ∙ sym z.since in
      (omega (arith, ok.top, z.epoch, f.top), subst (λ (y : ℕ). Listed (roll.list y) b.by b.since) z.epoch (ok.listed.1.0, same_since))

  -- any step keeps what is known of accepted updates
  pub known_kept : Known roll g' (log ++ new)
  known_kept = record {
    only = only';
    only_m = λ m at k i. ⊎_elim (λ was. more_known roll.dir log new (marks_in m.body) (marks_in m.body) k (λ j z. z) (w.only_m m was k i))
        (λ (n : New roll g g' new m). posted_known m n k i) (f.posts m at);
    up = λ b i dir. ⊎_elim (λ was. f.climbs b.by b.epoch (w.up b was dir)) (λ n. let z = acc b n dir in
        held_reached b.epoch _ z.now z.holds (omega (arith, z.epoch'))) (In-append_cases b log new i);
    term = λ b i dir. ⊎_elim (λ was. let z = w.term b was dir in (le_trans z.0 f.top, z.1)) (λ n. new_term b (acc b n dir)) (In-append_cases b log new i);
    all = λ b r' i dir h' l. ⊎_elim
        (λ was. all_past b r' was dir h' l (f.past b.by r' h'))
        (λ n. let z = acc b n dir in subst (λ (y : Replica). IsPart b.marks y.history) (same_held _ z.now r' z.holds h') z.marks)
        (In-append_cases b log new i);
    well = λ b i dir. ⊎_elim (λ was. w.well b was dir) (λ n. (acc b n dir).well) (In-append_cases b log new i);
    origin = λ x r' h' k i. origin_came x _ r' k (f.comes x r' k h' i);
    origin_m = λ m at k i. ⊎_elim (λ was. more_origin roll.dir log new k (w.origin_m m was k i))
        (λ (n : New roll g g' new m). origin_came m.sender _ n.q k (f.comes m.sender n.q k n.held (n.marks k i))) (f.posts m at);
  }
