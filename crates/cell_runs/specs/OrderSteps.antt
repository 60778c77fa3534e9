-- What an order tells a house of the model to do (own, after C705, updates, skulks and new epochs).
use Rattle.std.specs.Prelude.{◌≡◌, ℕ, List, [], ◌∷◌, ◌++◌}
use Rattle.cds_stamps.specs.Members.{Member}
use Rattle.cds_stamps.specs.Numbers.{root_dir}
use Rattle.directory.specs.Updates.{MakeChild}
use Rattle.record_fields.specs.Decoding.{IsWhole}
use Rattle.cds_records.specs.RecordOctets.{message_octets}
use Rattle.cds_records.specs.Records as records
use Rattle.cds_messages.specs.Validity.{IsValidMessage}
use Rattle.cds_messages.specs.declared.message.Message.{Message}
use Rattle.cell_model.specs.Cells as model
use Rattle.cell_model.specs.Commands.{Answer, Made, Stamped}
use Rattle.cell_model.specs.Steps.{member_list_of, sorted_houses}
use Rattle.cell_model.specs.Taking.{CanTake}
use Rattle.cell_model.specs.Turns.{HouseStep, Stays, Turns, Turn, found_directory, accept, skulk, new_epoch, take}
use Rattle.house_directory.specs.HouseMessages.{StandsMessage}
use Rattle.cell_runs.specs.Entries.{Order, Root, Mkdir, Accept, Skulk, Epoch, Take, Post}

-- ---- steps

-- the answer to an update that makes a child: its stamp, and the number of its directory (own)
abbrev pub with_number : (d : ℕ) → Answer → Answer
with_number d (Stamped s ns) = Made d s ns
with_number d other = other

-- a turn, and a new directory in the same turn: its Joins are posted after the others (own, after
-- C705, creating a directory)
abbrev pub then_found : (x d : ℕ) → List Member → HouseStep → HouseStep
then_found x d ms (Stays answer) = Stays answer
then_found x d ms (Turns t) =
    let founded : Turn = found_directory x t.house d ms in
    Turns
    (record {
      house = founded.house;
      posts = t.posts ++ founded.posts;
      answer =
          λ ns. with_number d (t.answer ns);
      accepted = t.accepted;
    })

-- the step of the house x at an order; of a message that is taken, m is that message (own)
abbrev pub order_step : (x : ℕ) → model.House → Order → model.Message → HouseStep
order_step x now (Root rs ss) m =
    Turns (found_directory x now root_dir (member_list_of [] 1 x rs ss))
order_step x now (Mkdir d n made rs ss) m =
    then_found x made (member_list_of [] 1 x rs ss)
    (accept x now d (MakeChild n (record { dir = made; master = x; others = sorted_houses rs })))
order_step x now (Accept d u) m = accept x now d u
order_step x now (Skulk d) m = skulk x now d
order_step x now (Epoch d k ms left) m = new_epoch x now d k ms left
order_step x now (Take octets) m = take now m

-- ---- messages as octets

-- octets are the whole of a valid message to a house, which is this one of the model (own)
pub record IsLetterOf (to : ℕ) (octets : List ℕ) (m : model.Message) : Type 0 where
  pub carried : Message
  pub stands : StandsMessage to carried m
  pub valid : IsValidMessage carried
  pub octets_are : octets ≡ message_octets carried
  pub whole : IsWhole records.message carried octets

-- a Take may have taken m: its octets are those of m, and the house can take m (own)
abbrev pub Carries : (x : ℕ) → model.House → Order → model.Message → Type 0
Carries x now (Take octets) m = IsLetterOf x octets m × CanTake now m
Carries x now other m = Unit {0}

-- posts are these messages of the model, one by one (own)
abbrev pub ArePosts : List Post → List model.Message → Type 0
ArePosts [] [] = Unit {0}
ArePosts (p ∷ ps) (m ∷ ms) = IsLetterOf p.to p.octets m × ArePosts ps ms
ArePosts _ _ = ⊥
