-- What an order comes to at a house (own, after C705, updates, skulks and new epochs).
use Rattle.std.specs.Prelude.{◌≡◌, ◌≢◌, All, ℕ, List, [], ◌∷◌, length, map, Ok, codes, if◌then◌else◌}
use Rattle.record_fields.specs.Decoding.{decode_by}
use Rattle.cds_records.specs.RecordOctets.{message_octets}
use Rattle.cds_records.specs.Records as records
use Rattle.cds_messages.specs.declared.message.Message.{Message}
use Rattle.script_answers.specs.Texts.{answer_line}
use Rattle.script_answers.specs.declared.answer.Answer.TheVariants as answer
use Rattle.cell_model.specs.Cells as model
use Rattle.cell_model.specs.Turns.{HouseStep, Stays, Turns}
use Rattle.house_directory.specs.DirectorySteps.{is_taken}
use Rattle.house_directory.specs.declared.posted.Posted.{Posted}
use Rattle.house_directory.specs.declared.taking.Taken.{Taken}
use Rattle.house_directory.specs.declared.taking.Taken.TheVariants as taken
use Rattle.clearinghouse.specs.HouseTakes.{TakesPosting}
use Rattle.clearinghouse.specs.LawfulHouses.{IsLawful}
use Rattle.clearinghouse.specs.ModelHouses.{StandsHouse}
use Rattle.clearinghouse.specs.declared.house.Clearinghouse.{Clearinghouse}
use Rattle.house_lines.specs.declared.line.HouseOrder.{HouseOrder}
use Rattle.house_lines.specs.declared.line.HouseOrder.TheVariants as order
use Rattle.cell_runs.specs.Entries.{Post}
use Rattle.cell_runs.specs.LineAnswers.{answer_said}
use Rattle.cell_runs.specs.LineOrders.{order_of}
use Rattle.cell_runs.specs.OrderSteps.{ArePosts, Carries, order_step}

-- no turn: an answer alone; or a turn: what it posts, and its answer (own)
pub data Outcome : Type 0 where
  Tells : (lines : List (List ℕ)) → Outcome
  Posts : (posts : List Post) → (answer : List ℕ) → Outcome

-- an order comes to what the step of the model is: its answer, and nothing changes; or the messages
-- and the answer of the turn, and then the clearinghouse is for the house after it (own)
abbrev pub IsOutcome : HouseStep → Outcome → (c c' : Clearinghouse) → Type 0
IsOutcome (Stays answer) (Tells lines) c c' = (lines ≡ answer_said answer ∷ []) × (c' ≡ c)
IsOutcome (Turns turn) (Posts posts answer) c c' =
    ArePosts posts turn.posts × ((ns : List ℕ) → answer ≡ answer_said (turn.answer ns))
    × StandsHouse c' turn.house
IsOutcome _ _ c c' = ⊥

-- posted messages as octets
abbrev pub posts_said : List Posted → List Post
posts_said = map (λ p. record { to = p.to.0; octets = message_octets p.message })

-- what is said of a message, taken or not
abbrev pub taken_line : Taken → List ℕ
taken_line taken.Taken = answer_line (answer.Taken [])
taken_line (taken.Late k e) = answer_line (answer.Late k e)
taken_line (taken.Early k e) = answer_line (answer.Early k e)
taken_line (taken.Stale t r) = answer_line (answer.Stale t r)
taken_line taken.NoReplica = answer_line answer.NoReplica
taken_line taken.Foreign = codes "ok foreign"
taken_line (taken.Complete t) = answer_line (answer.Complete t [])

-- what a message comes to that is taken, or not
abbrev pub taken_outcome : Taken → List Post → Outcome
taken_outcome t posts = if is_taken t then Posts posts (taken_line t) else Tells (taken_line t ∷ [])

-- a message makes this of a clearinghouse, also one that no house posted: its answer, and what is
-- posted (own)
pub record IsMessageOf (m : Message) (c c' : Clearinghouse) (outcome : Outcome) : Type 0 where
  pub answer : Taken
  pub posted : List Posted
  pub takes : TakesPosting m c c' answer posted
  pub is : outcome ≡ taken_outcome answer (posts_said posted)

-- a `take` does what the message does that its octets are (own)
abbrev pub TakesMessageOf : HouseOrder → (c c' : Clearinghouse) → Outcome → Type 0
TakesMessageOf (order.Take octets) c c' outcome =
    (m : Message) → decode_by records.message octets ≡ Ok (m, length octets)
    → IsMessageOf m c c' outcome
TakesMessageOf other c c' outcome = Unit {0}

-- an answer alone changes nothing (own)
abbrev pub StaysAt : Outcome → (c c' : Clearinghouse) → Type 0
StaysAt (Tells lines) c c' = c' ≡ c
StaysAt (Posts posts answer) c c' = Unit {0}

-- no line ends among octets
abbrev pub HasNoEnd : List ℕ → Type 0
HasNoEnd = All (λ b. b ≢ 10)

-- the answer of a turn is one line (own)
abbrev pub IsOneLine : Outcome → Type 0
IsOneLine (Tells lines) = Unit {0}
IsOneLine (Posts posts answer) = HasNoEnd answer

-- what an order comes to at a clearinghouse, and how that is after it. Whichever house of the model
-- it is for, and whichever message a `take` is for, it is that house's step. A message that is none
-- of the model does what it says, too (own)
pub record ComesTo (c : Clearinghouse) (clock : ℕ) (told : HouseOrder) (outcome : Outcome)
    (c' : Clearinghouse) : Type 0 where
  pub step : (now : model.House) (m : model.Message) → StandsHouse c now → now.clock ≡ clock
      → Carries c.house.0 now (order_of told) m
      → IsOutcome (order_step c.house.0 now (order_of told) m) outcome c c'
  pub takes : TakesMessageOf told c c' outcome
  pub stays : StaysAt outcome c c'
  pub one_line : IsOneLine outcome
  pub house : c'.house ≡ c.house
  pub node : c'.node ≡ c.node
  pub lawful : IsLawful c → IsLawful c'
