-- No master gets a Join of its own list.
use Rattle.std.proofs.Common.{◌≡◌, ◌≢◌, ℕ, ◌+◌, inl, inr, List, [], ◌∷◌, ◌++◌, Option, sym, ap, ◌∙◌, ⊎_elim}
use Rattle.cds_stamps.specs.Members.{Member, master_of, others_of}
use Rattle.cell_model.specs.Cells.{Slot, Held, Copy, Body, Update, Join, Leave, Message, Cell, empty_cell}
use Rattle.cell_model.specs.Commands.{Command, Answer, Accepted}
use Rattle.cell_model.specs.Sets.{In}
use Rattle.cell_model.specs.Turns.{with_slot, with_marks, copy_of, to_each, first_replica, first_joins}
use Rattle.cell_model.specs.Steps.{move_house, member_list_of, left_members, outcome, replay_from, replay}
use Rattle.cell_model.specs.Agreement.{place_of}
use Rattle.cell_model.proofs.Lists.{In-map, In-append_cases}
use Rattle.cell_model.proofs.Terms.{In-others_of, master_new}
use Rattle.cell_model.proofs.Moves.{Act, accepts, skulks, lone, updates, gives, gathers, turns, gathers_again, spreads, acks_early, acks, completes, advances}
use Rattle.cell_model.proofs.Moves.{copies, keeps, leaves, Move, stays, houses, clocks, loses, crashes, starts, acts, founds, crowns, Steps, one, mkdirs}
use Rattle.cell_model.proofs.Moves.{new_marks, outcome_steps}

-- the Joins among these go to other houses than the master of their list
abbrev pub GoElsewhere : List Message → Type 0
GoElsewhere ms = (m : Message) (list : List Member) (copy : Copy) → In m ms → m.body ≡ Join list copy → m.receiver ≢ master_of list

both : (xs ys : List Message) → GoElsewhere xs → GoElsewhere ys → GoElsewhere (xs ++ ys)
both xs ys l r m list copy i is = ⊎_elim (λ a. l m list copy a is) (λ b. r m list copy b is) (In-append_cases m xs ys i)

none : GoElsewhere []
none m list copy i is = elim i [ ]

-- what has another body is no Join
each_other : (rs : List ℕ) (d sender epoch floor : ℕ) (b : Body) → ((list : List Member) (copy : Copy) → b ≡ Join list copy → ⊥)
    → GoElsewhere (to_each rs d sender epoch floor b)
each_other rs d sender epoch floor b other m list copy i is =
    let w = In-map (λ (x : ℕ). record { receiver = x; dir = d; sender = sender; epoch = epoch; floor = floor; body = b }) m rs i in
    absurd (other list copy (sym (ap (λ (z : Message). z.body) w.2) ∙ is))

-- Joins to the others of a list
each_join : (h d epoch floor : ℕ) (ms : List Member) (c : Copy) → master_of ms ≡ h → GoElsewhere (to_each (others_of h ms) d h epoch floor (Join ms c))
each_join h d epoch floor ms c head m list copy i is =
    let w = In-map (λ (x : ℕ). record { receiver = x; dir = d; sender = h; epoch = epoch; floor = floor; body = Join ms c }) m (others_of h ms) i in
    let apart : w.0 ≢ h = (In-others_of w.0 h ms w.1).0 in
    let lists : Join ms c ≡ Join list copy = sym (ap (λ (z : Message). z.body) w.2) ∙ is in
    let same : ms ≡ list = cc in
    λ e. apart (sym (ap (λ (z : Message). z.receiver) w.2) ∙ e ∙ ap master_of (sym same) ∙ head)

-- an answer
answer_other : (m : Message) → ((list : List Member) (copy : Copy) → m.body ≡ Join list copy → ⊥) → GoElsewhere (m ∷ [])
answer_other m other z list copy (inl e) is = absurd (other list copy (sym (ap (λ (x : Message). x.body) e) ∙ is))
answer_other m other z list copy (inr i) is = elim i [ ]

act_joins : (g : Cell) (h d floor : ℕ) (s : Slot) (posts : List Message) (a : Answer) (n : List Accepted) → Act g h d floor s posts a n → GoElsewhere posts
act_joins g h d floor s posts a n (accepts _ _ u r st ns k ok) = each_other _ d h r.epoch st.time _ (λ list copy e. absurd (cc))
act_joins g h d floor s posts a n (skulks _ _ r t ns k master) = each_other _ d h r.epoch t.time _ (λ list copy e. absurd (cc))
act_joins g h d floor s posts a n (lone _ _ r t k master alone) = none
act_joins g h d floor s posts a n (updates m marks r ns k) = none
act_joins g h d floor s posts a n (gives m t r ns k) = answer_other _ (λ list copy e. absurd (cc))
act_joins g h d floor s posts a n (gathers m t copy b r ns k run) = none
act_joins g h d floor s posts a n (turns m t copy b r ns k run all) = each_other _ _ _ _ _ _ (λ list c e. absurd (cc))
act_joins g h d floor s posts a n (gathers_again m t copy b r ns k run) = none
act_joins g h d floor s posts a n (spreads m t copy r ns k) = answer_other _ (λ list c e. absurd (cc))
act_joins g h d floor s posts a n (acks_early m t b r ns k run) = none
act_joins g h d floor s posts a n (acks m t b r ns k run) = none
act_joins g h d floor s posts a n (completes m t b r ns k run all) = each_other _ _ _ _ _ _ (λ list copy e. absurd (cc))
act_joins g h d floor s posts a n (advances m t r ns k) = none
act_joins g h d floor s posts a n (copies m ms copy ns k low) = none
act_joins g h d floor s posts a n (keeps m ms copy r ns k held le since) = none
act_joins g h d floor s posts a n (leaves m ns k low) = none

move_joins : (g g' : Cell) (p : Option (ℕ × ℕ)) (a : Answer) (n : List Accepted) → Move g p g' a n → GoElsewhere g.bag → GoElsewhere g'.bag
move_joins g g' p a n (stays _ q) k = k
move_joins g g' p a n (houses x node new) k = k
move_joins g g' p a n (clocks x time made) k = k
move_joins g g' p a n (loses x) k = k
move_joins g g' p a n (crashes x up) k = both g.bag [] k none
move_joins g g' p a n (starts x made) k = both g.bag [] k none
move_joins g g' p a n (acts x e _ floor s posts _ _ act) k = both g.bag posts k (act_joins g x e floor s posts a n act)
move_joins g g' p a n (founds d m rs ss ns root up new) k = both g.bag _ k (each_join m d 1 (g.house m).floor _ _ (master_new [] 1 m rs ss))
move_joins g g' p a n (crowns d m rs ss r up known held listed since) k =
    let ms : List Member = member_list_of (g.present d) (g.top d + 1) m rs ss in
    let told : List Message = to_each (others_of m ms) d m (g.top d + 1) (g.house m).floor (Join ms (copy_of r)) in
    let out : List Message = to_each (left_members (g.present d) ms) d m (g.top d + 1) (g.house m).floor Leave in
    both g.bag (told ++ out) k
    (both told out (each_join m d (g.top d + 1) (g.house m).floor ms (copy_of r) (master_new (g.present d) (g.top d + 1) m rs ss))
    (each_other (left_members (g.present d) ms) d m (g.top d + 1) (g.house m).floor Leave (λ list copy e. absurd (cc))))

step_joins : (g g' : Cell) (p : Option (ℕ × ℕ)) (a : Answer) (n : List Accepted) → Steps g p g' a n → GoElsewhere g.bag → GoElsewhere g'.bag
step_joins g g' p a n (one _ _ _ move) k = move_joins g g' p a n move k
step_joins g g' p a n (mkdirs h d m u rs ss r s ns _ i ok up known) k =
    let ms : List Member = member_list_of [] 1 m rs ss in
    let marks = new_marks r u s in
    let mid : Cell = move_house g h (with_slot (g.house h) d s.time (Held (with_marks r marks)))
    (to_each (others_of h r.members) d h r.epoch s.time (Update marks)) in
    both mid.bag (first_joins (mid.house m).floor g.next_dir m ms)
    (both g.bag (to_each (others_of h r.members) d h r.epoch s.time (Update marks)) k
    (each_other (others_of h r.members) d h r.epoch s.time (Update marks) (λ list copy e. absurd (cc))))
    (each_join m g.next_dir 1 (mid.house m).floor ms (copy_of (first_replica ms)) (master_new [] 1 m rs ss))

-- so it is after any commands
pub joins_after : (cs : List Command) (g : Cell) → GoElsewhere g.bag → GoElsewhere (replay_from g cs).bag
joins_after [] g k = k
joins_after (c ∷ cs) g k =
    joins_after cs (outcome g c).cell (step_joins g (outcome g c).cell (place_of g c) (outcome g c).answer (outcome g c).accepted (outcome_steps g c) k)

pub joins_lem : (cs : List Command) → GoElsewhere (replay cs).bag
joins_lem cs = joins_after cs empty_cell none
