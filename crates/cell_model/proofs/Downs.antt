-- A house that is down runs no skulk.
use Rattle.std.proofs.Common.{◌≡◌, ℕ, ◌+◌, true, false, List, [], ◌∷◌, refl, sym, ap, ◌∙◌, Option}
use Rattle.cell_model.specs.Cells.{Idle, Replica, Slot, Absent, Gone, Held, House, Cell, empty_cell, put}
use Rattle.cell_model.specs.Commands.{Command, Answer, Accepted}
use Rattle.cell_model.specs.Turns.{with_slot, with_marks, first_replica, epoch_replica, crash_slot, crashed_house, started_house}
use Rattle.cell_model.specs.Steps.{member_list_of, outcome, replay_from, replay}
use Rattle.cell_model.specs.Agreement.{place_of}
use Rattle.cell_model.proofs.Views.{put_at}
use Rattle.cell_model.proofs.Moves.{new_marks, Move, stays, houses, clocks, loses, crashes, starts, acts, founds, crowns, Steps, one, mkdirs, outcome_steps}
use Rattle.cell_model.proofs.Wholes.{act_up}

-- no skulk runs at the house, where it is down
abbrev IsStill : House → Type 0
IsStill now = now.up ≡ false → (d : ℕ) (r : Replica) → now.slots d ≡ Held r → r.phase ≡ Idle

-- so it is at each house
abbrev pub Still : Cell → Type 0
Still g = (x : ℕ) → IsStill (g.house x)

-- a house changes
still_put : (f : ℕ → House) (h : ℕ) (now : House) → ((x : ℕ) → IsStill (f x)) → IsStill now → (x : ℕ) → IsStill (put f h now x)
still_put f h now v here = put_at (λ x (y : House). IsStill y) f h now here (λ x _. v x)

-- one that is up is not down
up_still : (now : House) → now.up ≡ true → IsStill now
up_still now up down d r at = let z : true ≡ false = sym up ∙ down in absurd (cc)

crashed_still : (s : Slot) (r : Replica) → crash_slot s ≡ Held r → r.phase ≡ Idle
crashed_still Absent r e = absurd (cc)
crashed_still (Gone k) r e = absurd (cc)
crashed_still (Held q) r e = let z : record q { phase = Idle } ≡ r = cc in ap (λ (y : Replica). y.phase) (sym z)

move_still : (g g' : Cell) (p : Option (ℕ × ℕ)) (a : Answer) (l : List Accepted) → Still g → Move g p g' a l → Still g'
move_still g g' p a l v (stays b q) = v
move_still g g' p a l v (houses h node free) =
    still_put g.house h (record { node = node; clock = 0; floor = 0; up = true; slots = λ d. Absent }) v
    (up_still (record { node = node; clock = 0; floor = 0; up = true; slots = λ d. Absent }) refl)
move_still g g' p a l v (clocks h time made) = still_put g.house h (record (g.house h) { clock = time }) v (v h)
move_still g g' p a l v (loses i) = v
move_still g g' p a l v (crashes h up) =
    still_put g.house h (crashed_house (g.house h)) v (λ down d r at. crashed_still ((g.house h).slots d) r at)
move_still g g' p a l v (starts h made) = still_put g.house h (started_house (g.house h)) v (up_still (started_house (g.house h)) refl)
move_still g g' p a l v (acts h d _ floor o posts b n act) =
    still_put g.house h (with_slot (g.house h) d floor o) v (up_still (with_slot (g.house h) d floor o) (act_up g h d floor o posts b n act))
move_still g g' p a l v (founds d m rs ss ns root up none) =
    still_put g.house m (with_slot (g.house m) d (g.house m).floor (Held (first_replica (member_list_of [] 1 m rs ss)))) v
    (up_still (with_slot (g.house m) d (g.house m).floor (Held (first_replica (member_list_of [] 1 m rs ss)))) up)
move_still g g' p a l v (crowns d m rs ss r up known at list since) =
    let s : Slot = Held (epoch_replica (g.top d + 1) (member_list_of (g.present d) (g.top d + 1) m rs ss) r) in
    still_put g.house m (with_slot (g.house m) d (g.house m).floor s) v (up_still (with_slot (g.house m) d (g.house m).floor s) up)

steps_still : (g g' : Cell) (p : Option (ℕ × ℕ)) (a : Answer) (l : List Accepted) → Still g → Steps g p g' a l → Still g'
steps_still g g' p a l v (one _ _ _ m) = move_still g g' p a l v m
steps_still g g' p a l v (mkdirs h d m u rs ss r s ns at i fine up known) =
    let now : House = with_slot (g.house h) d s.time (Held (with_marks r (new_marks r u s))) in
    let f : ℕ → House = put g.house h now in
    let up_still_then : (f m).up ≡ true = put_at (λ x (y : House). (g.house x).up ≡ true → y.up ≡ true) g.house h now (λ e. e) (λ x _ e. e) m up in
    still_put f m (with_slot (f m) g.next_dir (f m).floor (Held (first_replica (member_list_of [] 1 m rs ss)))) (still_put g.house h now v (up_still now i.up))
    (up_still (with_slot (f m) g.next_dir (f m).floor (Held (first_replica (member_list_of [] 1 m rs ss)))) up_still_then)

run_still : (cs : List Command) (g : Cell) → Still g → Still (replay_from g cs)
run_still [] g v = v
run_still (c ∷ cs) g v =
    run_still cs (outcome g c).cell (steps_still g (outcome g c).cell (place_of g c) (outcome g c).answer (outcome g c).accepted v (outcome_steps g c))

-- in every run
pub still_lem : (commands : List Command) → Still (replay commands)
still_lem commands = run_still commands empty_cell (λ x down d r at. absurd (cc))
