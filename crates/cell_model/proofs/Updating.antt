-- Runs with updates and refusals, by computing.
use Rattle.std.proofs.Common.{◌≡◌, List, [], ◌∷◌, refl}
use Rattle.std.specs.Prelude.{true, false, Some, codes, take}
use Rattle.cds_stamps.specs.Stamps.{last_time}
use Rattle.directory.specs.declared.update.UpdateRefusal.TheVariants as why
use Rattle.directory.specs.Updates.{Create, Delete, Add, Remove, Put}
use Rattle.cell_model.specs.Commands.{Command, House, Clock, Root, Accept, Epoch, Skulk, Deliver, Lose, Crash, Start, HouseExists, DirectoryExists}
use Rattle.cell_model.specs.Commands.{NoHouse, NoDirectory, BadMembers, NotMember, Down, Up, NoMessage, Update, Done, Posted, Stamped, NewEpoch}
use Rattle.cell_model.specs.Commands.{Taken, NoReplica, Refused}
use Rattle.cell_model.specs.Steps.{answers, replay}
use Rattle.cell_model.proofs.ExampleWords.{at, value_at}

-- the plain run: a house, a directory, an entry, a value that comes and goes
abbrev plain : List Command
plain =
    House 1 10 ∷ Root 1 [] [] ∷ Clock 1 100 ∷ Accept 1 1 (Create (codes "lpr")) ∷ Accept 1 1 (Add (codes "lpr") (codes "CDS_Class") (codes "Pr")) ∷
    Accept 1 1 (Remove (codes "lpr") (codes "CDS_Class") (codes "Pr")) ∷ []

plain-answers : answers plain ≡ Done ∷ Posted [] ∷ Done ∷ Stamped (at 100 10) [] ∷ Stamped (at 101 10) [] ∷ Stamped (at 102 10) [] ∷ []
plain-answers = refl

plain-read_1 : value_at (replay (take 5 plain)) 1 1 (codes "lpr") (codes "CDS_Class") (codes "Pr") ≡ Some true
plain-read_1 = refl

plain-read_2 : value_at (replay plain) 1 1 (codes "lpr") (codes "CDS_Class") (codes "Pr") ≡ Some false
plain-read_2 = refl

-- the later stamp wins
abbrev later_wins : List Command
later_wins =
    House 1 10 ∷ House 2 11 ∷ Root 1 (2 ∷ []) [] ∷ Deliver 1 ∷ Accept 1 1 (Create (codes "e")) ∷ Accept 1 1 (Add (codes "e") (codes "A") (1 ∷ [])) ∷
    Accept 1 1 (Remove (codes "e") (codes "A") (1 ∷ [])) ∷ Deliver 2 ∷ Deliver 3 ∷ Deliver 4 ∷ Deliver 3 ∷ []

later_wins-answers : answers later_wins ≡
    Done ∷ Done ∷ Posted (1 ∷ []) ∷ Taken [] ∷ Stamped (at 1 10) (2 ∷ []) ∷ Stamped (at 2 10) (3 ∷ []) ∷ Stamped (at 3 10) (4 ∷ []) ∷ Taken [] ∷
    Taken [] ∷ Taken [] ∷ Taken [] ∷ []
later_wins-answers = refl

later_wins-read_1 : value_at (replay (take 9 later_wins)) 2 1 (codes "e") (codes "A") (1 ∷ []) ≡ Some true
later_wins-read_1 = refl

later_wins-read_2 : value_at (replay (take 10 later_wins)) 2 1 (codes "e") (codes "A") (1 ∷ []) ≡ Some false
later_wins-read_2 = refl

later_wins-read_3 : value_at (replay (take 11 later_wins)) 2 1 (codes "e") (codes "A") (1 ∷ []) ≡ Some false
later_wins-read_3 = refl

-- equal times at two houses, and a clock that is set back
abbrev equal_times : List Command
equal_times =
    House 1 10 ∷ House 2 11 ∷ Root 1 (2 ∷ []) [] ∷ Deliver 1 ∷ Accept 1 1 (Create (codes "e")) ∷ Deliver 2 ∷ Clock 1 10 ∷ Clock 2 10 ∷
    Accept 1 1 (Put (codes "e") (codes "A") (1 ∷ [])) ∷ Epoch 1 2 (1 ∷ []) [] ∷ Accept 2 1 (Put (codes "e") (codes "A") (2 ∷ [])) ∷ Deliver 4 ∷
    Deliver 5 ∷ Clock 2 3 ∷ Accept 2 1 (Put (codes "e") (codes "A") (3 ∷ [])) ∷ []

equal_times-answers : answers equal_times ≡
    Done ∷ Done ∷ Posted (1 ∷ []) ∷ Taken [] ∷ Stamped (at 1 10) (2 ∷ []) ∷ Taken [] ∷ Done ∷ Done ∷ Stamped (at 10 10) (3 ∷ []) ∷
    NewEpoch 2 (4 ∷ []) ∷ Stamped (at 10 11) (5 ∷ []) ∷ Taken [] ∷ Taken [] ∷ Done ∷ Stamped (at 11 11) (6 ∷ []) ∷ []
equal_times-answers = refl

equal_times-read_1 : value_at (replay (take 12 equal_times)) 1 1 (codes "e") (codes "A") (1 ∷ []) ≡ Some true
equal_times-read_1 = refl

equal_times-read_2 : value_at (replay (take 13 equal_times)) 1 1 (codes "e") (codes "A") (2 ∷ []) ≡ Some true
equal_times-read_2 = refl

-- a house whose floor is the last time issues no stamp
abbrev last_stamp : List Command
last_stamp =
    House 1 10 ∷ Root 1 [] [] ∷ Clock 1 last_time ∷ Accept 1 1 (Create (codes "e")) ∷ Accept 1 1 (Add (codes "e") (codes "A") (1 ∷ [])) ∷ Skulk 1 1 ∷ []

last_stamp-answers : answers last_stamp ≡
    Done ∷ Posted [] ∷ Done ∷ Stamped (at last_time 10) [] ∷ Refused (Update why.StampsSpent) ∷ Refused (Update why.StampsSpent) ∷ []
last_stamp-answers = refl

last_stamp-read_1 : value_at (replay (take 6 last_stamp)) 1 1 (codes "e") (codes "A") (1 ∷ []) ≡ Some false
last_stamp-read_1 = refl

-- a second birth hides what the first one had
abbrev second_birth : List Command
second_birth =
    House 1 10 ∷ House 2 11 ∷ Root 1 (2 ∷ []) [] ∷ Deliver 1 ∷ Accept 1 1 (Create (codes "e")) ∷ Accept 1 1 (Add (codes "e") (codes "A") (1 ∷ [])) ∷
    Accept 1 1 (Delete (codes "e")) ∷ Accept 1 1 (Create (codes "e")) ∷ Deliver 5 ∷ Deliver 3 ∷ []

second_birth-answers : answers second_birth ≡
    Done ∷ Done ∷ Posted (1 ∷ []) ∷ Taken [] ∷ Stamped (at 1 10) (2 ∷ []) ∷ Stamped (at 2 10) (3 ∷ []) ∷ Stamped (at 3 10) (4 ∷ []) ∷
    Stamped (at 4 10) (5 ∷ []) ∷ Taken [] ∷ Taken [] ∷ []
second_birth-answers = refl

second_birth-read_1 : value_at (replay (take 10 second_birth)) 2 1 (codes "e") (codes "A") (1 ∷ []) ≡ Some false
second_birth-read_1 = refl

-- refusals
abbrev refusals : List Command
refusals =
    House 1 10 ∷ House 1 11 ∷ House 2 11 ∷ Root 1 (2 ∷ []) [] ∷ Root 2 [] [] ∷ Accept 2 1 (Create (codes "e")) ∷ Accept 1 1 (Create (codes "e")) ∷
    Deliver 2 ∷ Deliver 1 ∷ Accept 2 1 (Create (codes "f")) ∷ Accept 1 1 (Create (codes "e")) ∷ Accept 1 1 (Add (codes "f") (codes "A") (1 ∷ [])) ∷
    Accept 1 1 (Put (codes "e") (codes "CDS_Replicas") (1 ∷ [])) ∷ Epoch 1 3 [] [] ∷ Epoch 1 1 (1 ∷ []) [] ∷ Epoch 9 1 [] [] ∷ House 3 12 ∷
    Epoch 1 3 (1 ∷ []) [] ∷ Lose 2 ∷ Deliver 2 ∷ Crash 2 ∷ Epoch 1 2 [] [] ∷ Start 2 ∷ Start 2 ∷ Skulk 2 1 ∷ []

refusals-answers : answers refusals ≡
    Done ∷ Refused HouseExists ∷ Done ∷ Posted (1 ∷ []) ∷ Refused DirectoryExists ∷ Refused (Update why.NoReplica) ∷ Stamped (at 1 10) (2 ∷ []) ∷
    NoReplica ∷ Taken [] ∷ Refused (Update why.NotMaster) ∷ Refused (Update why.EntryExists) ∷ Refused (Update why.NoSuchEntry) ∷
    Refused (Update why.WrongKind) ∷ Refused NoHouse ∷ Refused BadMembers ∷ Refused NoDirectory ∷ Done ∷ Refused NotMember ∷ Done ∷
    Refused NoMessage ∷ Done ∷ Refused Down ∷ Done ∷ Refused Up ∷ Refused (Update why.NotMaster) ∷ []
refusals-answers = refl
