-- Cells in trouble, and the commands that mend them, by computing.
use Rattle.std.proofs.Common.{◌≡◌, List, [], ◌∷◌, ◌++◌, refl}
use Rattle.std.specs.Prelude.{Some, codes, take}
use Rattle.std.specs.Option.{option_map}
use Rattle.cds_stamps.specs.declared.members.MemberKind.TheVariants.{Master, ReadOnly}
use Rattle.cds_stamps.specs.Stamps.{last_time}
use Rattle.directory.specs.declared.update.UpdateRefusal.TheVariants as why
use Rattle.directory.specs.Updates.{Create}
use Rattle.cell_model.specs.Cells.{Idle, Gathering, Replica}
use Rattle.cell_model.specs.Commands.{Command, House, Clock, Root, Accept, Epoch, Skulk, Deliver, Lose, Crash, Start, NoMessage, Update, Done, Stamped}
use Rattle.cell_model.specs.Commands.{NewEpoch, Taken, Complete, Refused}
use Rattle.cell_model.specs.Steps.{answers_from, replay}
use Rattle.cell_model.specs.Mending.{mend_commands, skulking_at}
use Rattle.cell_model.proofs.ExampleWords.{at, listed, replica_at, state_at}
use Rattle.cell_model.proofs.Skulking.{crash_in_second, old_master, overtaken}

-- a master that crashed in the second round, and is still down: it is started, and has a new epoch
abbrev crashed : List Command
crashed = take 10 crash_in_second

crashed-mending : mend_commands (replay crashed) 1 ≡
    Start 1 ∷ Epoch 1 1 (2 ∷ []) [] ∷ Deliver 6 ∷ Skulk 1 1 ∷ Deliver 7 ∷ Deliver 8 ∷ Deliver 9 ∷ Deliver 10 ∷ []
crashed-mending = refl

crashed-answers : answers_from (replay crashed) (mend_commands (replay crashed) 1) ≡
    Done ∷ NewEpoch 2 (6 ∷ []) ∷ Taken [] ∷ Stamped (at 2 10) (7 ∷ []) ∷ Taken (8 ∷ []) ∷ Taken (9 ∷ []) ∷ Taken (10 ∷ []) ∷
    Complete (at 2 10) (11 ∷ []) ∷ []
crashed-answers = refl

-- where its houses are up and hold its last epoch, a skulk and its messages are enough
crashed-skulking : skulking_at (replay (crashed ++ Start 1 ∷ [])) 1 ≡ Skulk 1 1 ∷ Deliver 6 ∷ Deliver 7 ∷ Deliver 8 ∷ Deliver 9 ∷ []
crashed-skulking = refl

crashed-skulking-answers : answers_from (replay (crashed ++ Start 1 ∷ [])) (skulking_at (replay (crashed ++ Start 1 ∷ [])) 1) ≡
    Stamped (at 2 10) (6 ∷ []) ∷ Taken (7 ∷ []) ∷ Taken (8 ∷ []) ∷ Taken (9 ∷ []) ∷ Complete (at 2 10) (10 ∷ []) ∷ []
crashed-skulking-answers = refl

-- every message was lost: two of three houses never had the directory
abbrev all_lost : List Command
all_lost =
    House 1 10 ∷ House 2 11 ∷ House 3 12 ∷ Root 2 (1 ∷ 3 ∷ []) [] ∷ Lose 1 ∷ Lose 2 ∷ Accept 2 1 (Create (codes "e")) ∷ Lose 3 ∷ Lose 4 ∷ Skulk 2 1 ∷
    Lose 5 ∷ Lose 6 ∷ []

all_lost-mending : mend_commands (replay all_lost) 1 ≡
    Epoch 1 2 (1 ∷ 3 ∷ []) [] ∷ Deliver 7 ∷ Deliver 8 ∷ Skulk 2 1 ∷ Deliver 9 ∷ Deliver 10 ∷ Deliver 11 ∷ Deliver 12 ∷ Deliver 13 ∷ Deliver 14 ∷
    Deliver 15 ∷ Deliver 16 ∷ []
all_lost-mending = refl

all_lost-answers : answers_from (replay all_lost) (mend_commands (replay all_lost) 1) ≡
    NewEpoch 2 (7 ∷ 8 ∷ []) ∷ Taken [] ∷ Taken [] ∷ Stamped (at 3 11) (9 ∷ 10 ∷ []) ∷ Taken (11 ∷ []) ∷ Taken (12 ∷ []) ∷ Taken [] ∷
    Taken (13 ∷ 14 ∷ []) ∷ Taken (15 ∷ []) ∷ Taken (16 ∷ []) ∷ Taken [] ∷ Complete (at 3 11) (17 ∷ 18 ∷ []) ∷ []
all_lost-answers = refl

-- the new epoch keeps the secondary houses
abbrev joins_lost : List Command
joins_lost = House 1 10 ∷ House 2 11 ∷ House 3 12 ∷ Root 2 (1 ∷ 3 ∷ []) (3 ∷ []) ∷ Lose 1 ∷ Lose 2 ∷ []

joins_lost-mending : mend_commands (replay joins_lost) 1 ≡
    Epoch 1 2 (1 ∷ 3 ∷ []) (3 ∷ []) ∷ Deliver 3 ∷ Deliver 4 ∷ Skulk 2 1 ∷ Deliver 5 ∷ Deliver 6 ∷ Deliver 7 ∷ Deliver 8 ∷ Deliver 9 ∷ Deliver 10 ∷
    Deliver 11 ∷ Deliver 12 ∷ []
joins_lost-mending = refl

-- an old master that is listed again, and still holds its old list: it comes back in a new term
abbrev came_back : List Command
came_back = take 10 old_master

came_back-mending : mend_commands (replay came_back) 1 ≡
    Epoch 1 2 (1 ∷ []) [] ∷ Deliver 5 ∷ Skulk 2 1 ∷ Deliver 6 ∷ Deliver 7 ∷ Deliver 8 ∷ Deliver 9 ∷ []
came_back-mending = refl

came_back-answers : answers_from (replay came_back) (mend_commands (replay came_back) 1) ≡
    NewEpoch 4 (5 ∷ []) ∷ Taken [] ∷ Stamped (at 2 11) (6 ∷ []) ∷ Taken (7 ∷ []) ∷ Taken (8 ∷ []) ∷ Taken (9 ∷ []) ∷
    Complete (at 2 11) (10 ∷ []) ∷ []
came_back-answers = refl

came_back-state : state_at (replay (came_back ++ mend_commands (replay came_back) 1)) 1 1
    ≡ Some (4, Some (at 1 11), listed 1 3 ReadOnly ∷ listed 2 1 Master ∷ [])
came_back-state = refl

-- an old master whose skulk still runs, and that has not heard of its successor: after the mending
-- it runs none
abbrev overtaken_round : List Command
overtaken_round = House 1 10 ∷ House 2 11 ∷ Root 1 (2 ∷ []) [] ∷ Deliver 1 ∷ Skulk 1 1 ∷ Deliver 2 ∷ Epoch 1 2 (1 ∷ []) [] ∷ []

overtaken_round-mending : mend_commands (replay overtaken_round) 1 ≡
    Epoch 1 2 (1 ∷ []) [] ∷ Deliver 5 ∷ Skulk 2 1 ∷ Deliver 6 ∷ Deliver 7 ∷ Deliver 8 ∷ Deliver 9 ∷ []
overtaken_round-mending = refl

overtaken_round-answers : answers_from (replay overtaken_round) (mend_commands (replay overtaken_round) 1) ≡
    NewEpoch 3 (5 ∷ []) ∷ Taken [] ∷ Stamped (at 2 11) (6 ∷ []) ∷ Taken (7 ∷ []) ∷ Taken (8 ∷ []) ∷ Taken (9 ∷ []) ∷
    Complete (at 2 11) (10 ∷ []) ∷ []
overtaken_round-answers = refl

overtaken_round-before : option_map (λ (r : Replica). r.phase) (replica_at (replay overtaken_round) 1 1) ≡ Some (Gathering (at 1 10) [])
overtaken_round-before = refl

overtaken_round-behind : option_map (λ (r : Replica). r.phase) (replica_at (replay (overtaken_round ++ mend_commands (replay overtaken_round) 1)) 1 1) ≡ Some Idle
overtaken_round-behind = refl

-- a house that a late Leave made Gone is listed again, but its Join is lost, and it is down
abbrev gone_late : List Command
gone_late = overtaken ++ Epoch 1 1 (2 ∷ []) [] ∷ Lose 3 ∷ Crash 2 ∷ []

gone_late-mending : mend_commands (replay gone_late) 1 ≡
    Start 2 ∷ Epoch 1 1 (2 ∷ []) [] ∷ Deliver 4 ∷ Skulk 1 1 ∷ Deliver 5 ∷ Deliver 6 ∷ Deliver 7 ∷ Deliver 8 ∷ []
gone_late-mending = refl

gone_late-answers : answers_from (replay gone_late) (mend_commands (replay gone_late) 1) ≡
    Done ∷ NewEpoch 4 (4 ∷ []) ∷ Taken [] ∷ Stamped (at 1 10) (5 ∷ []) ∷ Taken (6 ∷ []) ∷ Taken (7 ∷ []) ∷ Taken (8 ∷ []) ∷
    Complete (at 1 10) (9 ∷ []) ∷ []
gone_late-answers = refl

-- a master that is alone and down
abbrev alone_down : List Command
alone_down = House 1 10 ∷ Root 1 [] [] ∷ Crash 1 ∷ []

alone_down-answers : answers_from (replay alone_down) (mend_commands (replay alone_down) 1) ≡ Done ∷ NewEpoch 2 [] ∷ Complete (at 1 10) [] ∷ []
alone_down-answers = refl

-- a house whose floor is the last time answers all the same, where it is not the master
abbrev member_spent : List Command
member_spent =
    House 1 10 ∷ House 2 11 ∷ Root 1 (2 ∷ []) [] ∷ Deliver 1 ∷ Clock 2 last_time ∷ Epoch 1 2 (1 ∷ []) [] ∷ Accept 2 1 (Create (codes "e")) ∷
    Epoch 1 1 (2 ∷ []) [] ∷ []

member_spent-answers : answers_from (replay member_spent) (mend_commands (replay member_spent) 1) ≡
    NewEpoch 4 (5 ∷ []) ∷ Taken [] ∷ Stamped (at 1 10) (6 ∷ []) ∷ Taken (7 ∷ []) ∷ Taken (8 ∷ []) ∷ Taken (9 ∷ []) ∷ Complete (at 1 10) (10 ∷ []) ∷ []
member_spent-answers = refl

-- where it is the master, it has no stamp for the skulk
master_spent-answers : answers_from (replay (take 7 member_spent)) (mend_commands (replay (take 7 member_spent)) 1) ≡
    NewEpoch 3 (4 ∷ []) ∷ Taken [] ∷ Refused (Update why.StampsSpent) ∷ Refused NoMessage ∷ Refused NoMessage ∷ Refused NoMessage ∷ Refused NoMessage ∷ []
master_spent-answers = refl
