-- Runs with skulks and new epochs, by computing.
use Rattle.std.proofs.Common.{◌≡◌, List, [], ◌∷◌, refl}
use Rattle.std.specs.Prelude.{false, Some, None, codes, take}
use Rattle.cds_stamps.specs.declared.members.MemberKind.TheVariants.{Master, ReadOnly}
use Rattle.directory.specs.declared.update.UpdateRefusal.TheVariants as why
use Rattle.directory.specs.Updates.{Create, Delete}
use Rattle.cell_model.specs.Commands.{Command, House, Clock, Root, Accept, Epoch, Skulk, Deliver, Crash, Start, Down, NotJoined, Update, Done}
use Rattle.cell_model.specs.Commands.{Posted, Stamped, NewEpoch, Taken, Late, Early, Stale, Complete, Refused}
use Rattle.cell_model.specs.Steps.{answers, replay}
use Rattle.cell_model.proofs.ExampleWords.{at, listed, value_at, state_at, left_at}

-- a skulk that is begun again
abbrev begun_again : List Command
begun_again =
    House 1 10 ∷ House 2 11 ∷ House 3 12 ∷ Root 1 (2 ∷ 3 ∷ []) [] ∷ Deliver 1 ∷ Deliver 2 ∷ Skulk 1 1 ∷ Deliver 3 ∷ Deliver 4 ∷ Deliver 5 ∷ Skulk 1 1 ∷
    Deliver 6 ∷ Deliver 7 ∷ Deliver 8 ∷ Deliver 9 ∷ Deliver 10 ∷ Deliver 11 ∷ Deliver 12 ∷ Deliver 13 ∷ Deliver 14 ∷ Deliver 14 ∷ []

begun_again-answers : answers begun_again ≡
    Done ∷ Done ∷ Done ∷ Posted (1 ∷ 2 ∷ []) ∷ Taken [] ∷ Taken [] ∷ Stamped (at 1 10) (3 ∷ 4 ∷ []) ∷ Taken (5 ∷ []) ∷ Taken (6 ∷ []) ∷ Taken [] ∷
    Stamped (at 2 10) (7 ∷ 8 ∷ []) ∷ Stale (at 1 10) (Some (at 2 10)) ∷ Taken (9 ∷ []) ∷ Taken (10 ∷ []) ∷ Taken [] ∷ Taken (11 ∷ 12 ∷ []) ∷
    Taken (13 ∷ []) ∷ Taken (14 ∷ []) ∷ Taken [] ∷ Complete (at 2 10) (15 ∷ 16 ∷ []) ∷ Stale (at 2 10) None ∷ []
begun_again-answers = refl

-- an update between the two rounds is later than the skulk
abbrev between_rounds : List Command
between_rounds =
    House 1 10 ∷ House 2 11 ∷ Root 1 (2 ∷ []) [] ∷ Deliver 1 ∷ Accept 1 1 (Create (codes "e")) ∷ Skulk 1 1 ∷ Deliver 3 ∷
    Accept 1 1 (Delete (codes "e")) ∷ Deliver 4 ∷ Deliver 6 ∷ Deliver 7 ∷ []

between_rounds-answers : answers between_rounds ≡
    Done ∷ Done ∷ Posted (1 ∷ []) ∷ Taken [] ∷ Stamped (at 1 10) (2 ∷ []) ∷ Stamped (at 2 10) (3 ∷ []) ∷ Taken (4 ∷ []) ∷
    Stamped (at 3 10) (5 ∷ []) ∷ Taken (6 ∷ []) ∷ Taken (7 ∷ []) ∷ Complete (at 2 10) (8 ∷ []) ∷ []
between_rounds-answers = refl

between_rounds-dump_1 : state_at (replay (take 11 between_rounds)) 1 1 ≡ Some (1, Some (at 2 10), listed 1 1 Master ∷ listed 2 1 ReadOnly ∷ [])
between_rounds-dump_1 = refl

between_rounds-dump_1_left : left_at (replay (take 11 between_rounds)) 1 1 (codes "e") ≡ Some (at 1 10, Some (at 3 10))
between_rounds-dump_1_left = refl

-- a master that is alone completes at once
abbrev single_member : List Command
single_member =
    House 1 10 ∷ Root 1 [] [] ∷ Skulk 1 1 ∷ []

single_member-answers : answers single_member ≡
    Done ∷ Posted [] ∷ Complete (at 1 10) [] ∷ []
single_member-answers = refl

-- a deletion that was purged does not return
abbrev purged_deletion : List Command
purged_deletion =
    House 1 10 ∷ House 2 11 ∷ House 3 12 ∷ Root 1 (2 ∷ 3 ∷ []) [] ∷ Deliver 1 ∷ Deliver 2 ∷ Accept 1 1 (Create (codes "e")) ∷
    Accept 1 1 (Delete (codes "e")) ∷ Skulk 1 1 ∷ Deliver 7 ∷ Deliver 8 ∷ Deliver 9 ∷ Deliver 10 ∷ Deliver 11 ∷ Deliver 12 ∷ Deliver 13 ∷
    Deliver 14 ∷ Deliver 15 ∷ Deliver 3 ∷ Deliver 4 ∷ []

purged_deletion-answers : answers purged_deletion ≡
    Done ∷ Done ∷ Done ∷ Posted (1 ∷ 2 ∷ []) ∷ Taken [] ∷ Taken [] ∷ Stamped (at 1 10) (3 ∷ 4 ∷ []) ∷ Stamped (at 2 10) (5 ∷ 6 ∷ []) ∷
    Stamped (at 3 10) (7 ∷ 8 ∷ []) ∷ Taken (9 ∷ []) ∷ Taken (10 ∷ []) ∷ Taken [] ∷ Taken (11 ∷ 12 ∷ []) ∷ Taken (13 ∷ []) ∷ Taken (14 ∷ []) ∷
    Taken [] ∷ Complete (at 3 10) (15 ∷ 16 ∷ []) ∷ Taken [] ∷ Taken [] ∷ Taken [] ∷ []
purged_deletion-answers = refl

purged_deletion-read_1 : value_at (replay (take 20 purged_deletion)) 2 1 (codes "e") (codes "A") (1 ∷ []) ≡ None
purged_deletion-read_1 = refl

purged_deletion-read_2 : value_at (replay (take 20 purged_deletion)) 3 1 (codes "e") (codes "A") (1 ∷ []) ≡ None
purged_deletion-read_2 = refl

purged_deletion-dump_3 : state_at (replay (take 20 purged_deletion)) 2 1
    ≡ Some (1, Some (at 3 10), listed 1 1 Master ∷ listed 2 1 ReadOnly ∷ listed 3 1 ReadOnly ∷ [])
purged_deletion-dump_3 = refl

purged_deletion-dump_3_left : left_at (replay (take 20 purged_deletion)) 2 1 (codes "e") ≡ None
purged_deletion-dump_3_left = refl

purged_deletion-dump_4 : state_at (replay (take 20 purged_deletion)) 3 1 ≡ Some (1, None, listed 1 1 Master ∷ listed 2 1 ReadOnly ∷ listed 3 1 ReadOnly ∷ [])
purged_deletion-dump_4 = refl

purged_deletion-dump_4_left : left_at (replay (take 20 purged_deletion)) 3 1 (codes "e") ≡ Some (at 1 10, Some (at 2 10))
purged_deletion-dump_4_left = refl

-- an old master comes back in a new term
abbrev pub old_master : List Command
old_master =
    House 1 10 ∷ House 2 11 ∷ Root 1 (2 ∷ []) [] ∷ Deliver 1 ∷ Epoch 1 2 [] [] ∷ Accept 1 1 (Create (codes "lone")) ∷ Deliver 3 ∷ Skulk 2 1 ∷
    Epoch 1 2 (1 ∷ []) [] ∷ Epoch 1 1 (2 ∷ []) [] ∷ Deliver 4 ∷ Deliver 2 ∷ []

old_master-answers : answers old_master ≡
    Done ∷ Done ∷ Posted (1 ∷ []) ∷ Taken [] ∷ NewEpoch 2 (2 ∷ []) ∷ Stamped (at 1 10) (3 ∷ []) ∷ Late 1 2 ∷ Complete (at 1 11) [] ∷
    NewEpoch 3 (4 ∷ []) ∷ Refused (NotJoined 1 3) ∷ Taken [] ∷ Late 2 3 ∷ []
old_master-answers = refl

old_master-read_1 : value_at (replay (take 11 old_master)) 1 1 (codes "lone") (codes "A") (1 ∷ []) ≡ None
old_master-read_1 = refl

old_master-dump_2 : state_at (replay (take 12 old_master)) 1 1 ≡ Some (3, Some (at 1 11), listed 1 3 ReadOnly ∷ listed 2 1 Master ∷ [])
old_master-dump_2 = refl

old_master-dump_2_left : left_at (replay (take 12 old_master)) 1 1 (codes "lone") ≡ None
old_master-dump_2_left = refl

-- a house that missed two epochs keeps its updates
abbrev missed_epochs : List Command
missed_epochs =
    House 1 10 ∷ House 2 11 ∷ Root 1 (2 ∷ []) [] ∷ Deliver 1 ∷ Epoch 1 2 (1 ∷ []) [] ∷ Epoch 1 2 (1 ∷ []) [] ∷ Accept 1 1 (Create (codes "kept")) ∷
    Accept 2 1 (Create (codes "new")) ∷ Deliver 5 ∷ Deliver 3 ∷ Deliver 2 ∷ Accept 1 1 (Create (codes "x")) ∷ Skulk 2 1 ∷ Deliver 6 ∷ Deliver 7 ∷
    Deliver 8 ∷ Deliver 9 ∷ []

missed_epochs-answers : answers missed_epochs ≡
    Done ∷ Done ∷ Posted (1 ∷ []) ∷ Taken [] ∷ NewEpoch 2 (2 ∷ []) ∷ NewEpoch 3 (3 ∷ []) ∷ Stamped (at 1 10) (4 ∷ []) ∷ Stamped (at 1 11) (5 ∷ []) ∷
    Early 3 1 ∷ Taken [] ∷ Late 2 3 ∷ Refused (Update why.NotMaster) ∷ Stamped (at 2 11) (6 ∷ []) ∷ Taken (7 ∷ []) ∷ Taken (8 ∷ []) ∷
    Taken (9 ∷ []) ∷ Complete (at 2 11) (10 ∷ []) ∷ []
missed_epochs-answers = refl

missed_epochs-read_1 : value_at (replay (take 17 missed_epochs)) 2 1 (codes "kept") (codes "A") (1 ∷ []) ≡ Some false
missed_epochs-read_1 = refl

missed_epochs-read_2 : value_at (replay (take 17 missed_epochs)) 1 1 (codes "new") (codes "A") (1 ∷ []) ≡ Some false
missed_epochs-read_2 = refl

-- a crash in the second round
abbrev pub crash_in_second : List Command
crash_in_second =
    House 1 10 ∷ House 2 11 ∷ Root 1 (2 ∷ []) [] ∷ Deliver 1 ∷ Skulk 1 1 ∷ Deliver 2 ∷ Deliver 3 ∷ Deliver 4 ∷ Crash 1 ∷ Deliver 5 ∷ Start 1 ∷
    Deliver 5 ∷ Skulk 1 1 ∷ Deliver 6 ∷ Deliver 7 ∷ Deliver 8 ∷ Deliver 9 ∷ []

crash_in_second-answers : answers crash_in_second ≡
    Done ∷ Done ∷ Posted (1 ∷ []) ∷ Taken [] ∷ Stamped (at 1 10) (2 ∷ []) ∷ Taken (3 ∷ []) ∷ Taken (4 ∷ []) ∷ Taken (5 ∷ []) ∷ Done ∷ Refused Down ∷
    Done ∷ Stale (at 1 10) None ∷ Stamped (at 2 10) (6 ∷ []) ∷ Taken (7 ∷ []) ∷ Taken (8 ∷ []) ∷ Taken (9 ∷ []) ∷ Complete (at 2 10) (10 ∷ []) ∷ []
crash_in_second-answers = refl

-- a member that took a Gather issues stamps above its time
abbrev above_gather : List Command
above_gather =
    House 1 10 ∷ House 2 11 ∷ Root 1 (2 ∷ []) [] ∷ Deliver 1 ∷ Clock 1 100 ∷ Skulk 1 1 ∷ Deliver 2 ∷ Epoch 1 2 (1 ∷ []) [] ∷
    Accept 2 1 (Create (codes "e")) ∷ []

above_gather-answers : answers above_gather ≡
    Done ∷ Done ∷ Posted (1 ∷ []) ∷ Taken [] ∷ Done ∷ Stamped (at 100 10) (2 ∷ []) ∷ Taken (3 ∷ []) ∷ NewEpoch 2 (4 ∷ []) ∷
    Stamped (at 101 11) (5 ∷ []) ∷ []
above_gather-answers = refl

-- a Join that a Leave of a later epoch has overtaken does not bring the directory back
abbrev pub overtaken : List Command
overtaken = House 1 10 ∷ House 2 11 ∷ Root 1 (2 ∷ []) [] ∷ Epoch 1 1 [] [] ∷ Deliver 2 ∷ Deliver 1 ∷ Deliver 2 ∷ []

overtaken-answers : answers overtaken ≡
    Done ∷ Done ∷ Posted (1 ∷ []) ∷ NewEpoch 2 (2 ∷ []) ∷ Taken [] ∷ Late 1 2 ∷ Late 2 2 ∷ []
overtaken-answers = refl
