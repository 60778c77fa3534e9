-- What is compared of an entry and the replay.
use Rattle.std.specs.Prelude.{◌≡◌, ℕ, ◌+◌, true, List, [], ◌∷◌, drop, length, map, Option, Some, None, IfSome}
use Rattle.cds_stamps.specs.Members.{members_of}
use Rattle.cds_stamps.specs.declared.numbers.DirId.{DirId}
use Rattle.cds_stamps.specs.declared.numbers.EpochNo.{EpochNo}
use Rattle.cell_model.specs.Cells.{Cell, Message}
use Rattle.cell_model.specs.Commands.{Command, Epoch}
use Rattle.cell_model.specs.Sets.{has}
use Rattle.cell_model.specs.Steps.{Outcome, message_at}
use Rattle.cds_cell.specs.Recorded.{octets_of}
use Rattle.cell_runs.specs.Entries as entries
use Rattle.cell_runs.specs.LineAnswers.{answer_said}
use Rattle.cell_runs.specs.Views as views
use Rattle.cell_runs.specs.Views.{image_in, is_turn}
use Rattle.script_answers.specs.Texts.{answer_line}
use Rattle.script_answers.specs.declared.answer.Answer.{Answer}
use Rattle.script_answers.specs.declared.answer.Answer.TheVariants as answer
use Rattle.house_logs.specs.declared.log.LoggedTurn.{LoggedTurn}
use Rattle.house_directory.specs.HouseMessages.{numbers_of}
use Rattle.house_lines.specs.declared.line.EpochList.{EpochList}
use Rattle.house_logs.specs.declared.log.PostedOctets.{PostedOctets}
use Rattle.house_lines.specs.declared.line.HouseOrder.{HouseOrder}
use Rattle.house_lines.specs.declared.line.HouseOrder.TheVariants as order
use Rattle.cds_explain.specs.LoggedEntries.{post_of}

-- an answer of a turn, as a house has it, which knows no serials; none, if nothing was done
abbrev pub own_of : Answer → Option Answer
own_of (answer.Posted ns) = Some answer.Done
own_of (answer.Made d s ns) = Some (answer.Made d s [])
own_of (answer.Stamped s ns) = Some (answer.Stamped s [])
own_of (answer.Epoch e ns) = Some (answer.Epoch e [])
own_of (answer.Taken ns) = Some (answer.Taken [])
own_of (answer.Complete t ns) = Some (answer.Complete t [])
own_of other = None

-- the line of an answer, as a house has it, is this one
abbrev pub IsOwnLine : Answer → (line : List ℕ) → Type 0
IsOwnLine a line = (told : Answer) × (own_of a ≡ Some told) × (answer_line told ≡ line)

-- the message of a serial number goes to this house, and has these octets
pub record IsPosted (g : Cell) (serial : ℕ) (to : ℕ) (octets : List ℕ) : Type 0 where
  pub m : Message
  pub there : message_at g serial ≡ Some m
  pub receiver : m.receiver ≡ to
  pub octets_are : octets_of m ≡ Some octets

-- the messages after the first ones, so many, are these
abbrev pub ArePostedAfter : Cell → ℕ → List PostedOctets → Type 0
ArePostedAfter g n [] = length g.bag ≡ n
ArePostedAfter g n (p ∷ ps) = IsPosted g (n + 1) p.to.0 p.octets × ArePostedAfter g (n + 1) ps

-- the house x was made, and has this image
pub record HasImage (g : Cell) (x : ℕ) (image : List ℕ) : Type 0 where
  pub made : has x g.made ≡ true
  pub is : image_in g x ≡ image

-- what a command came to at the house x is this turn, but for its order and its clock; with its
-- image, if the journal has it
pub record DoesTurn (g : Cell) (x : ℕ) (t : LoggedTurn) (o : Outcome) : Type 0 where
  pub turn : is_turn o.answer ≡ true
  pub answer : answer_said o.answer ≡ t.answer
  pub posts : map views.post_of (drop (length g.bag) o.cell.bag) ≡ map post_of t.posts.items
  pub image : IfSome t.image (λ i. image_in o.cell x ≡ i)

-- the console gives the house x the epoch of an order: the next one, with its list and those that
-- leave
pub record IsGivenBy (g : Cell) (x : ℕ) (d : DirId) (k : EpochNo) (list : EpochList) (c : Command)
    : Type 0 where
  pub rs : List ℕ
  pub ss : List ℕ
  pub is : c ≡ Epoch d.0 x rs ss
  pub order : views.epoch_order g d.0 (g.top d.0 + 1) x rs ss
      ≡ entries.Epoch d.0 k.0 (members_of list.members) (numbers_of list.leaving)

-- what the console and the bag have to have for an order of the house x, which the command c does:
-- the number of a new directory, the list of an epoch, and the message that is taken
abbrev pub IsOrdered : Cell → (x : ℕ) → HouseOrder → (serial : ℕ) → Command → Type 0
IsOrdered g x (order.Mkdir d n made ls) serial c = g.next_dir ≡ made.0
IsOrdered g x (order.Epoch d k list) serial c = IsGivenBy g x d k list c
IsOrdered g x (order.Take octets) serial c = IsPosted g serial x octets
IsOrdered g x other serial c = Unit {0}
