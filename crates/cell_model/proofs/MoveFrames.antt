-- What any command leaves in any directory.
use Rattle.std.proofs.Common.{◌≡◌, ◌≢◌, ℕ, suc, ◌+◌, ◌≤◌, ◌⊎◌, inl, inr, Bool, true, false, ◌||◌, eqb, List, [], ◌∷◌, ◌++◌, refl, sym, ap, ◌∙◌}
use Rattle.std.proofs.Common.{subst, arith, ⊎_elim, le_refl}
use Rattle.std.specs.Prelude.{Option}
use Rattle.std.specs.List.{list_any}
use Rattle.cds_stamps.specs.declared.stamp.Stamp.{Stamp}
use Rattle.cds_stamps.specs.Members.{Member, others_of, is_listed, since_in}
use Rattle.cell_model.specs.Cells.{Idle, Replica, Slot, Absent, Gone, Held, House, Message, Cell, IsHeld, put}
use Rattle.cell_model.specs.Commands.{Answer, Accepted}
use Rattle.cell_model.specs.Sets.{In, has}
use Rattle.cell_model.specs.Turns.{with_slot, first_replica, epoch_replica, crash_slot}
use Rattle.cell_model.specs.Steps.{move_house, member_list_of, left_members, cell_with_directory as founded_at}
use Rattle.cell_model.proofs.Lists.{append_nil, In-append_cases, eq_from, or_left, or_right, or_cases}
use Rattle.cell_model.proofs.Terms.{flip_eq}
use Rattle.cell_model.proofs.Facts.{Seat, View, of_dir, seat, view, Roll, Sound, same, grew, own, Frame}
use Rattle.cell_model.proofs.Marks.{stamp_next}
use Rattle.cell_model.proofs.Views.{put_at, put_same, put_other, of_dir-all, of_dir-none, AllOf, to_each-dir, altered, same_view, seat_put, view_moved}
use Rattle.cell_model.proofs.Moves.{first_told, IsUp, Issuing, Act, accepts, skulks, lone, updates, gives, gathers, turns, gathers_again, spreads, acks_early}
use Rattle.cell_model.proofs.Moves.{acks, completes, advances, copies, keeps, leaves, Move, stays, houses, clocks, loses, crashes, starts, acts}
use Rattle.cell_model.proofs.Moves.{founds, crowns, epoch_told, promote}
use Rattle.cell_model.proofs.Frames.{risen_frame, crash_frame}
use Rattle.cell_model.proofs.EpochFrames.{Whole, founds_frame, crowns_frame}
use Rattle.cell_model.proofs.ActFrames.{updates_frame, gives_frame, gathers_frame, turns_frame, gathers_again_frame, spreads_frame, acks_early_frame}
use Rattle.cell_model.proofs.ActFrames.{acks_frame, completes_frame, advances_frame, copies_frame, keeps_frame, leaves_frame, accepts_frame}
use Rattle.cell_model.proofs.ActFrames.{skulks_frame, lone_frame}

-- a house that is up was made
pub home_of_up : (home : ℕ → ℕ) (g : Cell) (h : ℕ) → Whole home g → IsUp g h → has h g.made ≡ true
home_of_up home g h w up = go (has h g.made) refl
  where
    go : (b : Bool) → has h g.made ≡ b → has h g.made ≡ true
    go true e = e
    go false e = let z : (g.house h).up ≡ false = ap (λ (v : House). v.up) (w.unmade h e) in absurd (cc)

-- ---- an act

reply_dir : (d : ℕ) (p q : Message) → q.dir ≡ d → In p (q ∷ []) → p.dir ≡ d
reply_dir d p q e (inl z) = ap (λ (y : Message). y.dir) z ∙ e
reply_dir d p q e (inr z) = elim z [ ]

-- what an act posts is about its directory
pub act_posts : (g : Cell) (h d floor : ℕ) (o : Slot) (posts : List Message) (a : Answer) (n : List Accepted) → Act g h d floor o posts a n → AllOf d posts
act_posts g h d floor o posts a n (accepts _ _ c r s ns i fine) = to_each-dir _ d h _ _ _
act_posts g h d floor o posts a n (skulks _ _ r t ns i head) = to_each-dir _ d h _ _ _
act_posts g h d floor o posts a n (lone _ _ r t i head alone) = λ m i. elim i [ ]
act_posts g h d floor o posts a n (updates m marks r ns k) = λ m i. elim i [ ]
act_posts g h d floor o posts a n (gives m t r ns k) = λ p i. reply_dir m.dir p _ refl i
act_posts g h d floor o posts a n (gathers m t copy l r ns k run) = λ m i. elim i [ ]
act_posts g h d floor o posts a n (turns m t copy l r ns k run all) = to_each-dir _ d h _ _ _
act_posts g h d floor o posts a n (gathers_again m t copy l r ns k run) = λ m i. elim i [ ]
act_posts g h d floor o posts a n (spreads m t copy r ns k) = λ p i. reply_dir m.dir p _ refl i
act_posts g h d floor o posts a n (acks_early m t l r ns k run) = λ m i. elim i [ ]
act_posts g h d floor o posts a n (acks m t l r ns k run) = λ m i. elim i [ ]
act_posts g h d floor o posts a n (completes m t l r ns k run all) = to_each-dir _ d h _ _ _
act_posts g h d floor o posts a n (advances m t r ns k) = λ m i. elim i [ ]
act_posts g h d floor o posts a n (copies m ms copy ns en low) = λ m i. elim i [ ]
act_posts g h d floor o posts a n (keeps m ms copy r ns en at le since) = λ m i. elim i [ ]
act_posts g h d floor o posts a n (leaves m ns en low) = λ m i. elim i [ ]

issued_later : (g : Cell) (h d : ℕ) (r : Replica) (s : Stamp) → Issuing g h d r s → (g.house h).floor ≤ s.time
issued_later g h d r s i = let z = stamp_next (g.house h).clock (g.house h).floor (g.house h).node s i.next in omega (arith, z.0)

-- an act lowers no floor
pub act_rises : (g : Cell) (h d floor : ℕ) (o : Slot) (posts : List Message) (a : Answer) (n : List Accepted) → Act g h d floor o posts a n
    → (g.house h).floor ≤ floor
act_rises g h d floor o posts a n (accepts _ _ c r s ns i fine) = issued_later g h d r s i
act_rises g h d floor o posts a n (skulks _ _ r t ns i head) = issued_later g h d r t i
act_rises g h d floor o posts a n (lone _ _ r t i head alone) = issued_later g h d r t i
act_rises g h d floor o posts a n (updates m marks r ns k) = omega arith
act_rises g h d floor o posts a n (gives m t r ns k) = omega arith
act_rises g h d floor o posts a n (gathers m t copy l r ns k run) = omega arith
act_rises g h d floor o posts a n (turns m t copy l r ns k run all) = omega arith
act_rises g h d floor o posts a n (gathers_again m t copy l r ns k run) = omega arith
act_rises g h d floor o posts a n (spreads m t copy r ns k) = omega arith
act_rises g h d floor o posts a n (acks_early m t l r ns k run) = omega arith
act_rises g h d floor o posts a n (acks m t l r ns k run) = omega arith
act_rises g h d floor o posts a n (completes m t l r ns k run all) = omega arith
act_rises g h d floor o posts a n (advances m t r ns k) = omega arith
act_rises g h d floor o posts a n (copies m ms copy ns en low) = omega arith
act_rises g h d floor o posts a n (keeps m ms copy r ns en at le since) = omega arith
act_rises g h d floor o posts a n (leaves m ns en low) = omega arith

-- an act, seen from its directory
act_frame : (roll : Roll) (g : Cell) (h d floor : ℕ) (o : Slot) (posts : List Message) (a : Answer) (n : List Accepted) → d ≡ roll.dir → Whole roll.home g
    → Sound roll (view d g) → Act g h d floor o posts a n → Frame roll (view d g) (altered (view d g) h floor o posts (g.top d) (g.present d)) n
act_frame roll g h d floor o posts a n dir w s (accepts _ _ c r t ns i fine) =
    accepts_frame roll g h d r t i (w.at_home h (home_of_up roll.home g h w i.up)) s dir c
act_frame roll g h d floor o posts a n dir w s (skulks _ _ r t ns i head) = skulks_frame roll g h d r t i (w.at_home h (home_of_up roll.home g h w i.up)) s head
act_frame roll g h d floor o posts a n dir w s (lone _ _ r t i head alone) = lone_frame roll g h d r t i (w.at_home h (home_of_up roll.home g h w i.up)) s
act_frame roll g h d floor o posts a n dir w s (updates m marks r ns k) = updates_frame roll g m s marks r k
act_frame roll g h d floor o posts a n dir w s (gives m t r ns k) = gives_frame roll g m s t r k
act_frame roll g h d floor o posts a n dir w s (gathers m t copy l r ns k run) = gathers_frame roll g m s t copy l r k run
act_frame roll g h d floor o posts a n dir w s (turns m t copy l r ns k run all) = turns_frame roll g m s t copy l r k run all
act_frame roll g h d floor o posts a n dir w s (gathers_again m t copy l r ns k run) = gathers_again_frame roll g m s t copy r k
act_frame roll g h d floor o posts a n dir w s (spreads m t copy r ns k) = spreads_frame roll g m s t copy r k
act_frame roll g h d floor o posts a n dir w s (acks_early m t l r ns k run) = acks_early_frame roll g m s t r k
act_frame roll g h d floor o posts a n dir w s (acks m t l r ns k run) = acks_frame roll g m s t l r k run
act_frame roll g h d floor o posts a n dir w s (completes m t l r ns k run all) = completes_frame roll g m s t r k
act_frame roll g h d floor o posts a n dir w s (advances m t r ns k) = advances_frame roll g m s t r k
act_frame roll g h d floor o posts a n dir w s (copies m ms copy ns en low) = copies_frame roll g m s ms copy en low
act_frame roll g h d floor o posts a n dir w s (keeps m ms copy r ns en at le since) = keeps_frame roll g m s ms copy r en at le since
act_frame roll g h d floor o posts a n dir w s (leaves m ns en low) = leaves_frame roll g m s en low

-- ---- a change of one house, in its directory and in another

-- the view of the directory that a change is about
pub view_in : (g : Cell) (h d floor : ℕ) (o : Slot) (posts : List Message) (top : ℕ → ℕ) (present : ℕ → List Member) → AllOf d posts
    → view d (record (move_house g h (with_slot (g.house h) d floor o) posts) { top = top; present = present })
    ≡ altered (view d g) h floor o posts (top d) (present d)
view_in g h d floor o posts top present all =
    view_moved g h (with_slot (g.house h) d floor o) posts top present d
    ∙ ap (λ (z : Slot). altered (view d g) h floor z (of_dir d posts) (top d) (present d)) (put_same (g.house h).slots d o)
    ∙ ap (λ (z : List Message). altered (view d g) h floor o z (top d) (present d)) (of_dir-all d posts all)

-- and of another one
pub view_out : (g : Cell) (h d floor : ℕ) (o : Slot) (posts : List Message) (top : ℕ → ℕ) (present : ℕ → List Member) (d' : ℕ) → d' ≢ d → AllOf d posts
    → view d' (record (move_house g h (with_slot (g.house h) d floor o) posts) { top = top; present = present })
    ≡ altered (view d' g) h floor ((g.house h).slots d') [] (top d') (present d')
view_out g h d floor o posts top present d' n all =
    let n' : d ≢ d' = λ e. n (sym e) in
    view_moved g h (with_slot (g.house h) d floor o) posts top present d'
    ∙ ap (λ (z : Slot). altered (view d' g) h floor z (of_dir d' posts) (top d') (present d')) (put_other (g.house h).slots d o d' n)
    ∙ ap (λ (z : List Message). altered (view d' g) h floor ((g.house h).slots d') z (top d') (present d')) (of_dir-none d' d posts n' all)

by_dir : (P : ℕ → Type 0) (d d' : ℕ) → P d → (d' ≢ d → P d') → P d'
by_dir P d d' here there = go (eqb d' d) refl
  where
    go : (b : Bool) → eqb d' d ≡ b → P d'
    go true e = subst P (sym (eq_from d' d e)) here
    go false e = let n : d' ≢ d = grind arith in there n

-- ---- houses at large

view_house : (g : Cell) (h : ℕ) (now : House) (made : List ℕ) (d : ℕ)
    → view d (record g { made = made; house = put g.house h now }) ≡ altered (view d g) h now.floor (now.slots d) [] (g.top d) (g.present d)
view_house g h now made d = same_view _ _ (seat_put g h now d) (sym (append_nil (of_dir d g.bag))) refl refl

still_frame : (roll : Roll) (v : View) → Sound roll v → (new : List Accepted) → Frame roll v v new
still_frame roll v s new = record {
  rises = λ x. le_refl _;
  climbs = λ x e z. z;
  past = λ x r' e. grew r' e refl refl (λ k z. z) (same refl);
  comes = λ x r' k e i. own r' e i (le_refl _) (λ b l. s.good.order r'.epoch x b (s.held x r' e).top l) (λ j z. z);
  next = λ x r e. inl (r, e);
  gone = λ x e z. inl z;
  stays = λ m i. i;
  posts = λ m i. inl i;
  top = le_refl _;
  good = s.good;
  present = s.present;
  heads = λ e z. inl z;
}

-- where no house has the number or the node, none of those that were made has
pub taken_not : (g : Cell) (h node : ℕ) (xs : List ℕ) → list_any (λ x. (eqb x h) || (eqb (g.house x).node node)) xs ≡ false
    → (has h xs ≡ false) × ((x : ℕ) → has x xs ≡ true → (g.house x).node ≢ node)
taken_not g h node [] e = (refl, λ x z. absurd (cc))
taken_not g h node (y ∷ ys) e =
    let a = or_left (eqb y h || eqb (g.house y).node node) _ e in
    let rest = taken_not g h node ys (or_right (eqb y h || eqb (g.house y).node node) _ e) in
    let p = or_left (eqb y h) _ a in
    let q = or_right (eqb y h) _ a in
    let here : (eqb h y || has h ys) ≡ false = ap (λ (b : Bool). b || has h ys) (flip_eq h y ∙ p) ∙ rest.0 in (
      here,
      λ x z. ⊎_elim (λ r. let same_x : x ≡ y = eq_from x y r in subst (λ (k : ℕ). (g.house k).node ≢ node) (sym same_x) (not_eq (g.house y).node node q))
          (rest.1 x) (or_cases (eqb x y) (has x ys) z),
    )
  where
    not_eq : (a b : ℕ) → eqb a b ≡ false → a ≢ b
    not_eq a b e = grind arith

-- ---- a move, seen from any directory

-- the Joins of a new directory are about it
pub first_joins_dir : (g : Cell) (d m : ℕ) (ms : List Member) → AllOf d (first_told g d m ms)
first_joins_dir g d m ms = to_each-dir _ d m _ _ _

-- what a new epoch posts is about its directory
pub epoch_posts_dir : (g : Cell) (d m k : ℕ) (ms : List Member) (r : Replica) → AllOf d (epoch_told g d m k ms r)
epoch_posts_dir g d m k ms r p i =
    ⊎_elim (to_each-dir (others_of m ms) d m k _ _ p) (to_each-dir (left_members (g.present d) ms) d m k _ _ p) (In-append_cases p _ _ i)

-- the list of an epoch of this directory, where the console's list and last epoch were just set
fit_set : (roll : Roll) (top : ℕ → ℕ) (present : ℕ → List Member) (d k : ℕ) (ms : List Member) → put present d ms d ≡ roll.list (put top d k d)
    → ms ≡ roll.list k
fit_set roll top present d k ms e = sym (put_same present d ms) ∙ e ∙ ap roll.list (put_same top d k)

-- another directory, where the console's list and last epoch of this one were set
fit_kept : (v : View) (h floor : ℕ) (top : ℕ → ℕ) (present : ℕ → List Member) (d k : ℕ) (ms : List Member) (d' : ℕ) → d' ≢ d
    → altered v h floor (v.house h).slot [] (put top d k d') (put present d ms d') ≡ altered v h floor (v.house h).slot [] (top d') (present d')
fit_kept v h floor top present d k ms d' n = ap (λ (z : ℕ). altered v h floor (v.house h).slot [] z (put present d ms d')) (put_other top d k d' n)
    ∙ ap (λ (z : List Member). altered v h floor (v.house h).slot [] (top d') z) (put_other present d ms d' n)

-- a new directory, seen from any directory
pub founding_frame : (roll : Roll) (g : Cell) (d m : ℕ) (rs ss : List ℕ) (nd : ℕ) → Whole roll.home g → g.top d ≡ 0 → (d' : ℕ) → Sound roll (view d' g)
    → put g.present d (member_list_of [] 1 m rs ss) d' ≡ roll.list (put g.top d 1 d')
    → Frame roll (view d' g) (view d' (record (founded_at g d m (member_list_of [] 1 m rs ss)) { next_dir = nd })) []
founding_frame roll g d m rs ss nd w none d' s fit =
    by_dir (λ z. Sound roll (view z g) → put g.present d ms z ≡ roll.list (put g.top d 1 z)
    → Frame roll (view z g) (view z (record (founded_at g d m ms) { next_dir = nd })) []) d d'
    (λ s' fit'.
    let is : view d (record (founded_at g d m ms) { next_dir = nd })
    ≡ altered (view d g) m (g.house m).floor (Held (first_replica ms)) (first_told g d m ms) 1 ms =
    view_in g m d (g.house m).floor (Held (first_replica ms)) (first_told g d m ms) (put g.top d 1) (put g.present d ms) (first_joins_dir g d m ms)
    ∙ ap (λ (z : ℕ). altered (view d g) m (g.house m).floor (Held (first_replica ms)) (first_told g d m ms) z (put g.present d ms d)) (put_same g.top d 1)
    ∙ ap (λ (z : List Member). altered (view d g) m (g.house m).floor (Held (first_replica ms)) (first_told g d m ms) 1 z) (put_same g.present d ms) in
    subst (λ (z : View). Frame roll (view d g) z []) (sym is) (founds_frame roll g d m rs ss w s' none (fit_set roll g.top g.present d 1 ms fit')))
    (λ n s' _.
    subst (λ (z : View). Frame roll (view d' g) z [])
    (sym (view_out g m d (g.house m).floor (Held (first_replica ms)) (first_told g d m ms) (put g.top d 1) (put g.present d ms) d' n
    (first_joins_dir g d m ms) ∙ fit_kept (view d' g) m (g.house m).floor g.top g.present d 1 ms d' n))
    (risen_frame roll (view d' g) s' m (g.house m).floor (le_refl _) []))
    s fit
  where
    ms : List Member
    ms = member_list_of [] 1 m rs ss

-- a new directory changes nothing of another one
put_itself : (f : ℕ → Seat) (m x : ℕ) → put f m (f m) x ≡ f x
put_itself f m = put_at (λ x v. v ≡ f x) f m (f m) refl (λ x _. refl)

-- a new directory is no other one's matter
pub founded_view : (g : Cell) (d m : ℕ) (ms : List Member) (nd d' : ℕ) → d' ≢ d → view d' (record (founded_at g d m ms) { next_dir = nd }) ≡ view d' g
founded_view g d m ms nd d' n =
    view_out g m d (g.house m).floor (Held (first_replica ms)) (first_told g d m ms) (put g.top d 1) (put g.present d ms) d' n (first_joins_dir g d m ms)
    ∙ fit_kept (view d' g) m (g.house m).floor g.top g.present d 1 ms d' n
    ∙ same_view _ _ (put_itself (seat d' g) m) (append_nil (of_dir d' g.bag)) refl refl

-- a new epoch, seen from any directory
pub promotion_frame : (roll : Roll) (g : Cell) (d m k : ℕ) (rs ss : List ℕ) (r : Replica) → k ≡ suc (g.top d) → IsHeld g m d r
    → is_listed m (g.present d) ≡ true → since_in (g.present d) m 0 ≤ r.epoch → (d' : ℕ) → Sound roll (view d' g)
    → put g.present d (member_list_of (g.present d) k m rs ss) d' ≡ roll.list (put g.top d k d')
    → Frame roll (view d' g) (view d' (promote g d m k (member_list_of (g.present d) k m rs ss) r).cell) []
promotion_frame roll g d m k rs ss r next at l since d' s fit =
    by_dir (λ z. Sound roll (view z g) → put g.present d ms z ≡ roll.list (put g.top d k z)
    → Frame roll (view z g) (view z (promote g d m k ms r).cell) []) d d'
    (λ s' fit'.
    let is : view d (promote g d m k ms r).cell ≡ altered (view d g) m (g.house m).floor (Held (epoch_replica k ms r)) (epoch_told g d m k ms r) k ms =
    view_in g m d (g.house m).floor (Held (epoch_replica k ms r)) (epoch_told g d m k ms r) (put g.top d k) (put g.present d ms) (epoch_posts_dir g d m k ms r)
    ∙ ap (λ (z : ℕ). altered (view d g) m (g.house m).floor (Held (epoch_replica k ms r)) (epoch_told g d m k ms r) z (put g.present d ms d))
    (put_same g.top d k)
    ∙ ap (λ (z : List Member). altered (view d g) m (g.house m).floor (Held (epoch_replica k ms r)) (epoch_told g d m k ms r) k z) (put_same g.present d ms) in
    subst (λ (z : View). Frame roll (view d g) z []) (sym is) (crowns_frame roll g d m k rs ss r next s' at l since (fit_set roll g.top g.present d k ms fit')))
    (λ n s' _.
    subst (λ (z : View). Frame roll (view d' g) z [])
    (sym (view_out g m d (g.house m).floor (Held (epoch_replica k ms r)) (epoch_told g d m k ms r) (put g.top d k) (put g.present d ms) d' n
    (epoch_posts_dir g d m k ms r) ∙ fit_kept (view d' g) m (g.house m).floor g.top g.present d k ms d' n))
    (risen_frame roll (view d' g) s' m (g.house m).floor (le_refl _) []))
    s fit
  where
    ms : List Member
    ms = member_list_of (g.present d) k m rs ss

-- an act, seen from any directory
pub acting_frame : (roll : Roll) (g : Cell) (h d floor : ℕ) (o : Slot) (posts : List Message) (a : Answer) (n : List Accepted) → Whole roll.home g
    → Act g h d floor o posts a n → Sound roll (view roll.dir g)
    → Frame roll (view roll.dir g) (view roll.dir (move_house g h (with_slot (g.house h) d floor o) posts)) n
acting_frame roll g h d floor o posts a n w act s =
    by_dir (λ z. z ≡ roll.dir → Sound roll (view z g) → Frame roll (view z g) (view z (move_house g h (with_slot (g.house h) d floor o) posts)) n) d roll.dir
    (λ dir s'. subst (λ (z : View). Frame roll (view d g) z n) (sym (view_in g h d floor o posts g.top g.present all))
    (act_frame roll g h d floor o posts a n dir w s' act))
    (λ ne _ s'. subst (λ (z : View). Frame roll (view roll.dir g) z n) (sym (view_out g h d floor o posts g.top g.present roll.dir ne all))
    (risen_frame roll (view roll.dir g) s' h floor (act_rises g h d floor o posts a n act) n))
    refl s
  where
    all : AllOf d posts
    all = act_posts g h d floor o posts a n act

crash_cases : (o : Slot) → (crash_slot o ≡ o) ⊎ ((r : Replica) × (o ≡ Held r) × (crash_slot o ≡ Held (record r { phase = Idle })))
crash_cases Absent = inl refl
crash_cases (Gone e) = inl refl
crash_cases (Held r) = inr (r, refl, refl)

-- each move is a frame of each directory
pub move_frame : (roll : Roll) (g g' : Cell) (p : Option (ℕ × ℕ)) (a : Answer) (n : List Accepted) → Whole roll.home g → Sound roll (view roll.dir g)
    → g'.present roll.dir ≡ roll.list (g'.top roll.dir) → Move g p g' a n → Frame roll (view roll.dir g) (view roll.dir g') n
move_frame roll g g' p a n w s fit (stays b q) = still_frame roll (view roll.dir g) s []
move_frame roll g g' p a n w s fit (houses h node free) =
    let e = w.unmade h (taken_not g h node g.made free).0 in
    let low : (g.house h).floor ≤ 0 = omega (arith, ap (λ (v : House). v.floor) e) in
    let none : (g.house h).slots roll.dir ≡ Absent = ap (λ (v : House). v.slots roll.dir) e in
    subst (λ (z : View). Frame roll (view roll.dir g) z [])
    (sym (view_house g h (record { node = node; clock = 0; floor = 0; up = true; slots = λ d. Absent }) (g.made ++ h ∷ []) roll.dir))
    (subst (λ (o : Slot). Frame roll (view roll.dir g) (altered (view roll.dir g) h 0 o [] (g.top roll.dir) (g.present roll.dir)) []) none
    (risen_frame roll (view roll.dir g) s h 0 low []))
move_frame roll g g' p a n w s fit (clocks h time made) =
    subst (λ (z : View). Frame roll (view roll.dir g) z []) (sym (view_house g h (record (g.house h) { clock = time }) g.made roll.dir))
    (risen_frame roll (view roll.dir g) s h (g.house h).floor (le_refl _) [])
move_frame roll g g' p a n w s fit (loses i) = still_frame roll (view roll.dir g) s []
move_frame roll g g' p a n w s fit (crashes h up) =
    subst (λ (z : View). Frame roll (view roll.dir g) z [])
    (sym (view_moved g h (record (g.house h) { up = false; slots = λ d. crash_slot ((g.house h).slots d) }) [] g.top g.present roll.dir))
    (crash_frame roll (view roll.dir g) s h ((g.house h).slots roll.dir) _ refl (crash_cases ((g.house h).slots roll.dir)))
move_frame roll g g' p a n w s fit (starts h made) =
    subst (λ (z : View). Frame roll (view roll.dir g) z []) (sym (view_moved g h (record (g.house h) { up = true }) [] g.top g.present roll.dir))
    (risen_frame roll (view roll.dir g) s h (g.house h).floor (le_refl _) [])
move_frame roll g g' p a n w s fit (acts h d _ floor o posts b l act) = acting_frame roll g h d floor o posts b l w act s
move_frame roll g g' p a n w s fit (founds d m rs ss ns one up none) = founding_frame roll g d m rs ss g.next_dir w none roll.dir s fit
move_frame roll g g' p a n w s fit (crowns d m rs ss r up known at l since) = promotion_frame roll g d m (g.top d + 1) rs ss r (omega arith) at l since roll.dir s fit
