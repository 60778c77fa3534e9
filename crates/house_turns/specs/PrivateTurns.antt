-- Words of private functions alone: what they come to, by the types that they answer with.
use Rattle.std.specs.Prelude.{◌≡◌, ◌≢◌, ℕ, ◌+◌, All, false, List, [], ◌∷◌, ◌++◌, map, Option, None, Some, Ok, codes}
use Rattle.script_answers.specs.Texts.{answer_line, lines_text}
use Rattle.script_answers.specs.declared.answer.Answer.TheVariants as answer
use Rattle.script_answers.specs.declared.answer.ScriptRefusal.{ScriptRefusal}
use Rattle.script_answers.specs.declared.answer.ScriptRefusal.TheVariants as why
use Rattle.std.specs.List.{flat_map}
use Rattle.cds_stamps.specs.declared.numbers.EpochNo.{EpochNo}
use Rattle.cds_stamps.specs.declared.numbers.HouseNo.{HouseNo}
use Rattle.cell_model.specs.Steps.{member_list_of}
use Rattle.cell_script.specs.declared.lists.Listed.{Listed}
use Rattle.cell_runs.specs.LineOrders.{listed_houses, listed_secondaries}
use Rattle.cell_runs.specs.OrderSteps.{then_found}
use Rattle.cell_runs.specs.Entries.{Post}
use Rattle.cell_runs.specs.LineAnswers.{refused}
use Rattle.house_turns.specs.PostTexts.{piece_lines, pieces_of, post_line}
use Rattle.record_fields.specs.Decoding.{IsWhole}
use Rattle.cds_records.specs.RecordOctets.{message_octets}
use Rattle.cds_records.specs.Records as records
use Rattle.house_directory.specs.declared.epochs.EpochRefusal.{EpochRefusal}
use Rattle.house_directory.specs.declared.epochs.EpochRefusal.TheVariants as epoch
use Rattle.house_directory.specs.declared.posted.Posted.{Posted}
use Rattle.house_directory.specs.declared.taking.Taken.TheVariants as taken
use Rattle.house_directory.specs.declared.states.DirState.{DirState}
use Rattle.house_directory.specs.declared.states.DirState.TheVariants as state
use Rattle.clearinghouse.specs.declared.house.Clearinghouse.{Clearinghouse}
use Rattle.clearinghouse.specs.declared.letters.Letters.{Letters}
use Rattle.house_lines.specs.declared.line.HouseOrder.{HouseOrder}
use Rattle.house_lines.specs.declared.line.HouseQuestion.{HouseQuestion}
use Rattle.house_turns.specs.declared.said.Posts as posts
use Rattle.house_turns.specs.declared.said.Said as said
use Rattle.house_turns.specs.declared.said.Said.TheVariants.{Told, Turned}
use Rattle.house_serving.specs.Turns as serving
use Rattle.cds_stamps.specs.Members.{Member}
use Rattle.cds_stamps.specs.declared.numbers.DirId.{DirId}
use Rattle.directory.specs.Updates.{Change}
use Rattle.cds_messages.specs.Validity.{IsValidMessage}
use Rattle.cds_messages.specs.declared.message.Message.{Message}
use Rattle.cell_model.specs.Cells as model
use Rattle.cell_model.specs.Taking.{CanTake}
use Rattle.cell_model.specs.Turns.{accept, take}
use Rattle.house_directory.specs.HouseMessages.{StandsMessage}
use Rattle.clearinghouse.specs.HouseImages.{start_of_octets, with_skulks}
use Rattle.clearinghouse.specs.LawfulHouses.{IsLawful}
use Rattle.clearinghouse.specs.ModelHouses.{StandsHouse}
use Rattle.house_turns.specs.declared.house.House.{House}
use Rattle.house_turns.specs.LineOutcomes.{ComesTo, IsMessageOf, IsOneLine, IsOutcome, Outcome, Posts, StaysAt, Tells}
pub use Rattle.house_turns.specs.LineOutcomes.{posts_said, taken_line, taken_outcome}
use Rattle.house_turns.specs.HouseReplies.{new_clearinghouse, turn_lines, turn_text}
use Rattle.house_turns.specs.Openings.{house_with, is_skulk, segment_line}
use Rattle.house_turns.specs.RunningSkulks.{AllFit, running_lines}
use Rattle.house_turns.specs.declared.running.RunningLines.{RunningLines}
use Rattle.clearinghouse.specs.declared.running.RunningSkulk.{RunningSkulk}
use Rattle.house_turns.specs.Records.{IsTurnRecord}
use Rattle.house_turns.specs.HouseAnswers.{asked_said, early_refusal}

-- the members of a new directory: this house is the master, and the others are what the line says
abbrev pub first_members : (x : ℕ) → List Listed → List Member
first_members x ls = member_list_of [] 1 x (listed_houses ls) (listed_secondaries ls)

-- a message to each of its receivers, if there is one
abbrev pub posts_of_letters : Option Letters → List Post
posts_of_letters None = []
posts_of_letters (Some ls) =
    map (λ h. record { to = h.0; octets = ls.octets.items }) ls.receivers.items

-- the messages that are posted
abbrev pub posts_in : posts.Posts → List Post
posts_in ps = posts_of_letters ps.first ++ posts_of_letters ps.second

-- the lines of these octets to each of these houses, in an answer
abbrev pub letters_text : (number : ℕ) → (octets : List ℕ) → List HouseNo → List ℕ
letters_text number octets =
    flat_map (λ h. lines_text number (piece_lines h.0 (pieces_of 2000 octets)))

-- and in a record
abbrev pub letters_kept : (octets : List ℕ) → List HouseNo → List ℕ
letters_kept octets = flat_map (λ h. post_line (codes "post ") h.0 octets ++ 10 ∷ [])

-- the octets of a posted message are the whole of it, if it is valid
abbrev pub IsWholeIfValid : Posted → Type 0
IsWholeIfValid p =
    IsValidMessage p.message → IsWhole records.message p.message (message_octets p.message)

-- posts are these messages as octets, and each is whole
pub record ArePostsOf (posts : List Post) (ps : List Posted) : Type 0 where
  pub octets : posts ≡ posts_said ps
  pub whole : All IsWholeIfValid ps

-- the epoch in which a directory is held, if it is
abbrev pub epoch_of : Option DirState → Option EpochNo
epoch_of None = None
epoch_of (Some (state.Gone e)) = None
epoch_of (Some (state.Held h)) = Some h.epoch

-- why an epoch is refused
abbrev pub epoch_refusal_of : EpochRefusal → ScriptRefusal
epoch_refusal_of epoch.NoReplica = why.NoReplica
epoch_refusal_of (epoch.NotJoined held since) = why.NotJoined held since
epoch_refusal_of (epoch.StaleEpoch held given) = why.NotAbove held

-- what is said is an outcome: these lines, with the number of theirs; or these posts, and this
-- answer
abbrev pub Says : (number : ℕ) → said.Said → Outcome → Type 0
Says number (Told text) (Tells lines) = text.items ≡ lines_text number lines
Says number (Turned ps octets) (Posts posts answer) =
    (posts_in ps ≡ posts) × (octets.items ≡ answer)
Says number _ _ = ⊥

-- an order comes to what is said
pub record Comes (number : ℕ) (old new : Clearinghouse) (clock : ℕ) (told : HouseOrder)
    (s : said.Said) : Type 0 where
  pub outcome : Outcome
  pub says : Says number s outcome
  pub comes : ComesTo old clock told outcome new

-- an order is refused before the model is asked
abbrev pub ComesUnless : Option (List ℕ) → (number : ℕ) → (old new : Clearinghouse) → (clock : ℕ)
    → HouseOrder → said.Said → Type 0
ComesUnless (Some refusal) number old new clock told s =
    Says number s (Tells (refusal ∷ [])) × (new ≡ old)
ComesUnless None number old new clock told s = Comes number old new clock told s

-- what is said to an order at a clearinghouse, which is so before it and so after it
abbrev pub Does : (number : ℕ) → (old new : Clearinghouse) → (clock : ℕ) → HouseOrder → said.Said
    → Type 0
Does number old new clock told s = ComesUnless (early_refusal old told) number old new clock told s

-- what a message comes to: whichever house of the model the clearinghouse is for, and whichever
-- message, it is that house's step
pub record TakesMessage (number : ℕ) (old new : Clearinghouse) (message : Message)
    (s : said.Said) : Type 0 where
  pub outcome : Outcome
  pub says : Says number s outcome
  pub step : (now : model.House) (m : model.Message) → StandsHouse old now
      → StandsMessage old.house.0 message m → CanTake now m
      → IsOutcome (take now m) outcome old new
  pub taken : IsMessageOf message old new outcome
  pub stays : StaysAt outcome old new
  pub one_line : IsOneLine outcome
  pub house : new.house ≡ old.house
  pub node : new.node ≡ old.node
  pub lawful : IsLawful old → IsLawful new

-- a message is refused, or else comes to this
abbrev pub TakesUnless : Option (List ℕ) → (number : ℕ) → (old new : Clearinghouse) → Message
    → said.Said → Type 0
TakesUnless (Some refusal) number old new message s =
    Says number s (Tells (refusal ∷ [])) × (new ≡ old)
TakesUnless None number old new message s = TakesMessage number old new message s

-- what an update comes to that makes a child, and its directory
pub record MakesChild (number : ℕ) (old new : Clearinghouse) (clock : ℕ) (dir : DirId)
    (change : Change) (child : DirId) (members : List Member)
    (s : said.Said) : Type 0 where
  pub outcome : Outcome
  pub says : Says number s outcome
  pub step : (now : model.House) → StandsHouse old now → now.clock ≡ clock
      → IsOutcome (then_found old.house.0 child.0 members
      (accept old.house.0 now dir.0 change)) outcome old new
  pub stays : StaysAt outcome old new
  pub one_line : IsOneLine outcome
  pub house : new.house ≡ old.house
  pub node : new.node ≡ old.node
  pub lawful : IsLawful old → IsLawful new

-- no house was made
abbrev pub SaysNone : (number : ℕ) → said.Said → Type 0
SaysNone number s = Says number s (Tells (refused why.NoHouse ∷ []))

-- what is said to an order, if there is a clearinghouse to do it, and the house after it
abbrev pub Obeys : Option Clearinghouse → (number : ℕ) → (old new : House) → HouseOrder → said.Said
    → Type 0
Obeys None number old new told s = SaysNone number s × (new ≡ old)
Obeys (Some c) number old new told s =
    (c' : Clearinghouse) × Does number c c' old.clock told s
    × (new ≡ record old { home = Some c' })

-- what is said to a question
abbrev pub SaysAsked : Option Clearinghouse → (number : ℕ) → HouseQuestion → said.Said → Type 0
SaysAsked None number asked s = SaysNone number s
SaysAsked (Some c) number asked s = Says number s (Tells (asked_said c asked))

-- what is said to a line that makes the house, and the house after it
abbrev pub Makes : Option Clearinghouse → (number : ℕ) → (old new : House) → HouseNo → (node : ℕ)
    → said.Said → Type 0
Makes None number old new x node s =
    Says number s (Posts [] (answer_line answer.Done))
    × (new ≡ record old { home = Some (new_clearinghouse x node); node = node })
Makes (Some c) number old new x node s =
    Says number s (Tells (refused why.HouseExists ∷ [])) × (new ≡ old)

-- what is said to a line that sets the clock, and the house after it
abbrev pub SetsClock : Option Clearinghouse → (number : ℕ) → (old new : House) → (time : ℕ)
    → said.Said → Type 0
SetsClock None number old new time s = SaysNone number s × (new ≡ old)
SetsClock (Some c) number old new time s =
    Says number s (Tells (answer_line answer.Done ∷ [])) × (new ≡ record old { clock = time })

-- ---- replies

-- the reply that a turn gives, and the house after it, which did the turn already
pub record TurnReply (h : House) (number : ℕ) (line : List ℕ) (posts : List Post) (answer : List ℕ)
    (reply : serving.Said) (h' : House) : Type 0 where
  pub text : reply.text ≡ lines_text number (turn_lines posts answer)
  pub octets : List ℕ
  pub body : reply.body ≡ Some octets
  pub record_is : IsTurnRecord h' (turn_text line posts answer) octets
  pub after : h' ≡ record h { entry = h.entry + 1; last = turn_text line posts answer }

-- the reply that what is said gives, and the house after it
abbrev pub ReplyOf : House → (number : ℕ) → (line : List ℕ) → said.Said → serving.Said → House
    → Type 0
ReplyOf h number line (Told text) reply h' =
    (reply ≡ record { text = text.items; body = None }) × (h' ≡ h)
ReplyOf h number line (Turned ps octets) reply h' =
    TurnReply h number line (posts_in ps) octets.items reply h'

-- ---- the first records of segments

-- the clearinghouse that starts of an image; none, if none does
abbrev pub StartsOf : (image : List ℕ) → Option Clearinghouse → Type 0
StartsOf image None = (c : Clearinghouse) → start_of_octets image ≢ Ok c
StartsOf image (Some c) = start_of_octets image ≡ Ok c

-- the lines of these skulks are in front of a text, and this comes after them
pub record SkulksFirst (text : List ℕ) (skulks : List RunningSkulk) (rest : List ℕ) : Type 0 where
  pub whole : text ≡ running_lines skulks ++ rest
  pub fit : AllFit skulks
  pub ends : is_skulk rest ≡ false

-- what is read of the front of a text
abbrev pub ReadsSkulks : (text : List ℕ) → Option RunningLines → Type 0
ReadsSkulks text None =
    (skulks : List RunningSkulk) (rest : List ℕ) → ¬ SkulksFirst text skulks rest
ReadsSkulks text (Some lines) = SkulksFirst text lines.skulks.items lines.rest.now

-- the text of a first record, after so many entries, says that these skulks run, and repeats this
-- last turn
pub data IsFirstText (entry : ℕ) (text : List ℕ) : List RunningSkulk → (last : List ℕ)
    → Type 0 where
  OfStart : (last : List ℕ) → text ≡ codes "start" ++ (10 ∷ last) → IsFirstText entry text [] last
  OfSegment : (rest : List ℕ) (skulks : List RunningSkulk) (last : List ℕ)
      → text ≡ segment_line entry ++ rest → SkulksFirst rest skulks last
      → IsFirstText entry text skulks last

-- what is read of such a text
abbrev pub ReadsFirst : (entry : ℕ) → (text : List ℕ) → Option RunningLines → Type 0
ReadsFirst entry text None =
    (skulks : List RunningSkulk) (last : List ℕ) → ¬ IsFirstText entry text skulks last
ReadsFirst entry text (Some lines) = IsFirstText entry text lines.skulks.items lines.rest.now

-- a house resumes with this text and this image
pub record ResumesAs (entry clock : ℕ) (text image : List ℕ) (h : House) : Type 0 where
  pub skulks : List RunningSkulk
  pub last : List ℕ
  pub home : Clearinghouse
  pub says : IsFirstText entry text skulks last
  pub starts : start_of_octets image ≡ Ok home
  pub is : h ≡ house_with (with_skulks skulks home) entry clock last

-- the house that resumes so; none, if none does
abbrev pub ResumesBy : (entry clock : ℕ) → (text image : List ℕ) → Option House → Type 0
ResumesBy entry clock text image None = (h : House) → ¬ ResumesAs entry clock text image h
ResumesBy entry clock text image (Some h) = ResumesAs entry clock text image h
