-- A cell of two houses for which the premises of the laws hold, by computing: each house accepts an
-- update that never comes to the other, and a skulk brings both of them to both.
use Rattle.std.proofs.Common.{inl, inr, ◌⊎◌, ◌≡◌, ℕ, zero, suc, true, List, [], ◌∷◌, ◌++◌, Option, Some, None, refl, sym, ◌∙◌, subst, append_assoc}
use Rattle.std.specs.Prelude.{codes}
use Rattle.cds_stamps.specs.declared.stamp.Stamp.{Stamp}
use Rattle.cds_stamps.specs.Members.{Member, others_of}
use Rattle.directory.specs.declared.entry.Kind.TheVariants.{Object}
use Rattle.directory.specs.Histories.{Birth}
use Rattle.directory.specs.Updates.{Create}
use Rattle.cell_model.specs.Bodies.{round_of}
use Rattle.cell_model.specs.Cells.{Gathering, Replica, Message, Cell, IsHeld, empty_cell}
use Rattle.cell_model.specs.Commands.{Command, House, Root, Accept, Skulk, Deliver, Lose, Done, Posted, Stamped, Taken, Complete}
use Rattle.cell_model.specs.Sets.{In}
use Rattle.cell_model.specs.Turns.{running_skulk_stamp}
use Rattle.cell_model.specs.Steps.{member_list_of, message_at, outcome, replay, answers}
use Rattle.cell_model.proofs.ExampleWords.{at}
use Rattle.cell_model.proofs.Lists.{append_nil}
use Rattle.cell_model.proofs.Terms.{listed_or}
use Rattle.cell_model.proofs.Runs.{replay-append}
use Rattle.fair_runs.specs.Fairness.{Begins, Attends, IsUndisturbed, IsDelivered, IsFair, IsComplete}
use Rattle.fair_runs.specs.Converging.{AllStay, IsQuiet, HaveConverged}
use Rattle.fair_runs.proofs.Endings.{skulks_end_lem}
use Rattle.fair_runs.proofs.Converging.{cells_converge_lem}

-- ---- the run

-- the skulk's stamp
abbrev stamp : Stamp
stamp = at 2 10

abbrev early : List Command
early =
    House 1 10 ∷ House 2 11 ∷ Root 1 (2 ∷ []) (2 ∷ []) ∷ Deliver 1 ∷ Accept 2 1 (Create (codes "e")) ∷ Accept 1 1 (Create (codes "f")) ∷ []

abbrev start : List Command
start = early ++ Skulk 1 1 ∷ []

-- both updates are lost, the question of the first round comes twice, and the second answer to it
-- in the second round
abbrev late : List Command
late = Lose 2 ∷ Lose 3 ∷ Deliver 4 ∷ Deliver 4 ∷ Deliver 5 ∷ Deliver 6 ∷ Deliver 7 ∷ Deliver 8 ∷ Deliver 9 ∷ []

run-answers : answers (start ++ late) ≡
    Done ∷ Done ∷ Posted (1 ∷ []) ∷ Taken [] ∷ Stamped (at 1 11) (2 ∷ []) ∷ Stamped (at 1 10) (3 ∷ []) ∷ Stamped (at 2 10) (4 ∷ []) ∷
    Done ∷ Done ∷ Taken (5 ∷ []) ∷ Taken (6 ∷ []) ∷ Taken (7 ∷ []) ∷ Taken [] ∷ Taken (8 ∷ []) ∷ Complete (at 2 10) (9 ∷ []) ∷ Taken [] ∷ []
run-answers = refl

abbrev list : List Member
list = member_list_of [] 1 1 (2 ∷ []) (2 ∷ [])

-- what the master holds once the skulk has begun
abbrev master : Replica
master = record {
  epoch = 1;
  members = list;
  history = Birth (codes "f") Object (at 1 10) ∷ [];
  all_up_to = None;
  phase = Gathering (at 2 10) [];
}

begins : Begins early 1 1 stamp master
begins = record { serials = 4 ∷ []; answer = refl; held = refl }

-- ---- what holds at each moment

-- of the cell, and after each command
abbrev Throughout : (Cell → Type 0) → Cell → List Command → Type 0
Throughout P g [] = P g
Throughout P g (c ∷ cs) = P g × Throughout P (outcome g c).cell cs

at_once : (P : Cell → Type 0) (g : Cell) (cs : List Command) → Throughout P g cs → P g
at_once P g [] w = w
at_once P g (c ∷ cs) w = w.0

all_along : (P : Cell → Type 0) (cs begun : List Command) → Throughout P (replay begun) cs → (past left : List Command) → past ++ left ≡ cs
    → P (replay (begun ++ past))
all_along P cs begun w [] left e = subst (λ (l : List Command). P (replay l)) (sym (append_nil begun)) (at_once P (replay begun) cs w)
all_along P [] begun w (x ∷ past) left e = let z : x ∷ (past ++ left) ≡ [] = e in absurd (cc)
all_along P (c ∷ cs) begun w (x ∷ past) left e =
    let z : x ∷ (past ++ left) ≡ c ∷ cs = e in
    let head : c ≡ x = cc in
    let tail : past ++ left ≡ cs = cc in
    let next = subst (λ (g : Cell). Throughout P g cs) (sym (replay-append begun (c ∷ []) empty_cell)) w.1 in
    subst (λ (z : Command). P (replay (begun ++ z ∷ past))) head
    (subst (λ (l : List Command). P (replay l)) (append_assoc begun (c ∷ []) past) (all_along P cs (begun ++ c ∷ []) next past left tail))

-- no skulk runs, or this one
abbrev IsOnly : Option Stamp → Type 0
IsOnly None = Unit {0}
IsOnly (Some s) = s ≡ stamp

only : (o : Option Stamp) → IsOnly o → (u : Stamp) → o ≡ Some u → u ≡ stamp
only None is u e = absurd (cc)
only (Some s) is u e = let same : s ≡ u = cc in sym same ∙ is

attends : (g : Cell) (q : Replica) → IsHeld g 1 1 q → (g.house 1).up ≡ true → q.epoch ≡ 1 → IsOnly (running_skulk_stamp q.phase) → Attends g 1 1 1 stamp
attends g q held up epoch is = record { up = up; replica = q; held = held; epoch = epoch; runs = only (running_skulk_stamp q.phase) is }

undisturbed : IsUndisturbed start late 1 1 1 stamp
undisturbed = all_along (λ (g : Cell). Attends g 1 1 1 stamp) late start (
  attends _ _ refl refl refl refl,
  (
    attends _ _ refl refl refl refl,
    (
      attends _ _ refl refl refl refl,
      (
        attends _ _ refl refl refl refl,
        (
          attends _ _ refl refl refl refl,
          (
            attends _ _ refl refl refl refl,
            (
              attends _ _ refl refl refl refl,
              (
                attends _ _ refl refl refl refl,
                (
                  attends _ _ refl refl refl tt,
                  attends _ _ refl refl refl tt,
                ),
              ),
            ),
          ),
        ),
      ),
    ),
  ),
)

-- both houses hold the directory in the epoch
record BothHold (g : Cell) : Type 0 where
  one : Replica
  two : Replica
  at_one : IsHeld g 1 1 one
  at_two : IsHeld g 2 1 two
  epoch_one : one.epoch ≡ 1
  epoch_two : two.epoch ≡ 1

hold : (g : Cell) (p q : Replica) → IsHeld g 1 1 p → IsHeld g 2 1 q → p.epoch ≡ 1 → q.epoch ≡ 1 → BothHold g
hold g p q at_one at_two epoch_one epoch_two =
    record { one = p; two = q; at_one = at_one; at_two = at_two; epoch_one = epoch_one; epoch_two = epoch_two }

both_hold : (past left : List Command) → past ++ left ≡ late → BothHold (replay (start ++ past))
both_hold = all_along BothHold late start (
  hold _ _ _ refl refl refl refl,
  (
    hold _ _ _ refl refl refl refl,
    (
      hold _ _ _ refl refl refl refl,
      (
        hold _ _ _ refl refl refl refl,
        (
          hold _ _ _ refl refl refl refl,
          (
            hold _ _ _ refl refl refl refl,
            (
              hold _ _ _ refl refl refl refl,
              (
                hold _ _ _ refl refl refl refl,
                (
                  hold _ _ _ refl refl refl refl,
                  hold _ _ _ refl refl refl refl,
                ),
              ),
            ),
          ),
        ),
      ),
    ),
  ),
)

stay : AllStay start late 1 1 list
stay past left e x l = by_house (listed_or x 1 list l)
  where
    w : BothHold (replay (start ++ past))
    w = both_hold past left e

    by_house : (x ≡ 1) ⊎ In x (others_of 1 list) → (q : Replica) × IsHeld (replay (start ++ past)) x 1 q × (q.epoch ≡ 1)
    by_house (inl i) = (w.one, subst (λ (z : ℕ). IsHeld (replay (start ++ past)) z 1 w.one) (sym i) w.at_one, w.epoch_one)
    by_house (inr (inl i)) = (w.two, subst (λ (z : ℕ). IsHeld (replay (start ++ past)) z 1 w.two) (sym i) w.at_two, w.epoch_two)
    by_house (inr (inr i)) = elim i [ ]

-- ---- each message of the skulk is delivered

-- the first commands, and those after them
abbrev firsts : ℕ → List Command → List Command
firsts zero cs = []
firsts (suc n) [] = []
firsts (suc n) (c ∷ cs) = c ∷ firsts n cs

abbrev after : ℕ → List Command → List Command
after zero cs = cs
after (suc n) [] = []
after (suc n) (c ∷ cs) = after n cs

comes : (k n : ℕ) (m : Message) (q : Replica) → firsts k late ++ Deliver n ∷ after (suc k) late ≡ late
    → message_at (replay (start ++ firsts k late)) n ≡ Some m → IsHeld (replay (start ++ firsts k late)) m.receiver m.dir q
    → ((replay (start ++ firsts k late)).house m.receiver).up ≡ true → q.epoch ≡ m.epoch → IsDelivered start late m
comes k n m q parts is held up epoch = record {
  past = firsts k late;
  serial = n;
  left = after (suc k) late;
  parts = parts;
  message = is;
  up = up;
  replica = q;
  held = held;
  epoch = epoch;
}

abbrev AllCome : List Message → Type 0
AllCome [] = Unit {0}
AllCome (m ∷ ms) = (round_of m.body ≡ Some stamp → IsDelivered start late m) × AllCome ms

each_comes : (ms : List Message) → AllCome ms → (m : Message) → In m ms → round_of m.body ≡ Some stamp → IsDelivered start late m
each_comes [] w m i round = elim i [ ]
each_comes (x ∷ ms) w m (inl e) round =
    subst (λ (z : Message). IsDelivered start late z) (sym e) (w.0 (subst (λ (z : Message). round_of z.body ≡ Some stamp) e round))
each_comes (x ∷ ms) w m (inr i) round = each_comes ms w.1 m i round

-- a message of no skulk
of_none : {A : Type 0} → None ≡ Some stamp → A
of_none e = absurd (cc)

fair : IsFair start late 1 stamp
fair m i dir round = each_comes (replay (start ++ late)).bag (
  of_none,
  (
    of_none,
    (
      of_none,
      (
        (λ _. comes 2 4 _ _ refl refl refl refl refl),
        (
          (λ _. comes 4 5 _ _ refl refl refl refl refl),
          (
            (λ _. comes 5 6 _ _ refl refl refl refl refl),
            (
              (λ _. comes 6 7 _ _ refl refl refl refl refl),
              (
                (λ _. comes 7 8 _ _ refl refl refl refl refl),
                (
                  (λ _. comes 8 9 _ _ refl refl refl refl refl),
                  tt,
                ),
              ),
            ),
          ),
        ),
      ),
    ),
  ),
) m i round

-- nothing is accepted meanwhile
quiet : IsQuiet start late 1
quiet a i dir = i

-- ---- so the laws say of it

ends : IsComplete start late 1 1 stamp
ends = skulks_end_lem early late 1 1 stamp master begins undisturbed fair

converged : (p q : Replica) → IsHeld (replay (start ++ late)) 1 1 p → IsHeld (replay (start ++ late)) 2 1 q → HaveConverged stamp p q
converged p q at_1 at_2 = cells_converge_lem early late 1 1 stamp master begins undisturbed fair stay quiet 1 2 p q refl refl at_1 at_2
