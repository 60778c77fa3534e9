-- What a house replies to a line, and what its record says (own, after C705, updates, skulks and
-- new epochs).
use Rattle.std.specs.Prelude.{◌≡◌, ℕ, ◌+◌, nat_lt, Bool, true, false, List, [], ◌∷◌, ◌++◌, length, Option, Some, None, Result, Ok, Err, codes}
use Rattle.std.specs.FinMap.{empty}
use Rattle.std.specs.List.{flat_map}
use Rattle.cds_stamps.specs.declared.numbers.HouseNo.{HouseNo}
use Rattle.cell_script.specs.Words.{words_of}
use Rattle.cell_script.specs.declared.fault.ParseFault.{ParseFault}
use Rattle.script_answers.specs.Texts.{answer_line, lines_text, parse_fault_text}
use Rattle.script_answers.specs.declared.answer.Answer.TheVariants as answer
use Rattle.script_answers.specs.declared.answer.ScriptRefusal.TheVariants as why
use Rattle.clearinghouse.specs.declared.house.Clearinghouse.{Clearinghouse}
use Rattle.house_lines.specs.LineRows.{said_in}
use Rattle.house_lines.specs.declared.line.HouseLine.{HouseLine}
use Rattle.house_lines.specs.declared.line.HouseLine.TheVariants as asks
use Rattle.house_lines.specs.declared.line.HouseOrder.{HouseOrder}
use Rattle.house_lines.specs.declared.line.HouseOrder.TheVariants as order
use Rattle.house_lines.specs.declared.line.HouseQuestion.{HouseQuestion}
use Rattle.house_serving.specs.Turns.{Said}
use Rattle.cell_runs.specs.Entries.{Post}
use Rattle.cell_runs.specs.LineAnswers.{refused}
use Rattle.house_turns.specs.declared.house.House.{House}
use Rattle.house_turns.specs.declared.house.TheConstants.{MOST_MESSAGE}
use Rattle.house_turns.specs.HouseAnswers.{asked_said, early_refusal}
use Rattle.house_turns.specs.LineOutcomes.{ComesTo, Outcome, Posts, Tells}
use Rattle.house_turns.specs.Records.{IsTurnRecord}
use Rattle.house_turns.specs.PostTexts.{octets_line, piece_lines, pieces_of, post_line}

-- ---- messages that are posted, and texts

-- the lines that tell messages, in pieces of 2,000 octets (own)
abbrev pub posts_lines : List Post → List (List ℕ)
posts_lines = flat_map (λ p. piece_lines p.to (pieces_of 2000 p.octets))

-- the lines that tell a turn: its messages, and its answer (own)
abbrev pub turn_lines : List Post → (answer : List ℕ) → List (List ℕ)
turn_lines posts answer = posts_lines posts ++ answer ∷ []

-- messages in a record, each with a line end (own)
abbrev pub posts_text : List Post → List ℕ
posts_text = flat_map (λ p. post_line (codes "post ") p.to p.octets ++ 10 ∷ [])

-- the text of a turn in its record: its line, its messages, and its answer (own)
abbrev pub turn_text : (line : List ℕ) → List Post → (answer : List ℕ) → List ℕ
turn_text line posts answer = line ++ (10 ∷ (posts_text posts ++ (answer ++ 10 ∷ [])))

-- words with one space between two (own)
abbrev pub with_spaces : List (List ℕ) → List ℕ
with_spaces [] = []
with_spaces (w ∷ []) = w
with_spaces (w ∷ v ∷ ws) = w ++ (32 ∷ with_spaces (v ∷ ws))

-- the line of a message that is taken (own)
abbrev pub take_line : List ℕ → List ℕ
take_line octets = octets_line (codes "take ") octets

-- ---- replies

-- a clearinghouse that is new (own)
abbrev pub new_clearinghouse : HouseNo → (node : ℕ) → Clearinghouse
new_clearinghouse x node =
    record { house = x; node = node; floor = record { time = 0 }; dirs = empty; spent = false }

-- no turn: these lines, and no record (own)
abbrev pub tells_alone : (number : ℕ) → List (List ℕ) → Said
tells_alone number lines = record { text = lines_text number lines; body = None }

-- a house after lines alone: it has this clearinghouse, and no octets of a message (own)
abbrev pub with_home : House → Option Clearinghouse → House
with_home h c = record h { home = c; more = [] }

-- a house after a turn: it has this clearinghouse, one entry more, and this last turn (own)
abbrev pub after_turn : House → Clearinghouse → (turn : List ℕ) → House
after_turn h c turn = record h { home = Some c; entry = h.entry + 1; last = turn; more = [] }

-- a turn: its lines; its record, which is that of the house after it; and that house (own)
pub record IsTurnReply (h : House) (number : ℕ) (line : List ℕ) (posts : List Post)
    (answer : List ℕ) (c' : Clearinghouse) (said : Said)
    (h' : House) : Type 0 where
  pub text : said.text ≡ lines_text number (turn_lines posts answer)
  pub octets : List ℕ
  pub body : said.body ≡ Some octets
  pub record_is : IsTurnRecord h' (turn_text line posts answer) octets
  pub after : h' ≡ after_turn h c' (turn_text line posts answer)

-- the reply that what a line comes to gives (own)
abbrev pub IsReply : House → ℕ → (line : List ℕ) → Outcome → (c' : Clearinghouse) → Said → House
    → Type 0
IsReply h number line (Tells lines) c' said h' =
    (said ≡ tells_alone number lines) × (h' ≡ with_home h (Some c'))
IsReply h number line (Posts posts answer) c' said h' =
    IsTurnReply h number line posts answer c' said h'

-- the reply to an order that asks a clearinghouse for a step (own)
pub record StepReply (h : House) (c : Clearinghouse) (number : ℕ) (line : List ℕ)
    (told : HouseOrder) (said : Said)
    (h' : House) : Type 0 where
  pub outcome : Outcome
  pub c' : Clearinghouse
  pub comes : ComesTo c h.clock told outcome c'
  pub reply : IsReply h number line outcome c' said h'

-- these lines alone are the answer, and the house has no octets of a message (own)
abbrev pub TellsLines : House → ℕ → List (List ℕ) → Said → House → Type 0
TellsLines h number lines said h' =
    (said ≡ tells_alone number lines) × (h' ≡ record h { more = [] })

-- no house was made: all but the line that makes one is refused (own)
abbrev pub TellsNone : House → ℕ → Said → House → Type 0
TellsNone h number said h' = TellsLines h number (refused why.NoHouse ∷ []) said h'

-- the reply to an order, unless this refusal comes before (own)
abbrev pub UnlessRefused : House → (c : Clearinghouse) → ℕ → (line : List ℕ) → HouseOrder
    → Option (List ℕ) → Said → House → Type 0
UnlessRefused h c number line told (Some refusal) said h' =
    TellsLines h number (refusal ∷ []) said h'
UnlessRefused h c number line told None said h' = StepReply h c number line told said h'

-- the reply to an order, by what the folder has (own)
abbrev pub RepliesOrder : Option Clearinghouse → House → ℕ → (line : List ℕ) → HouseOrder → Said
    → House → Type 0
RepliesOrder None h number line told said h' = TellsNone h number said h'
RepliesOrder (Some c) h number line told said h' =
    UnlessRefused h c number line told (early_refusal c told) said h'

-- the reply to a question (own)
abbrev pub RepliesAsked : Option Clearinghouse → House → ℕ → HouseQuestion → Said → House → Type 0
RepliesAsked None h number asked said h' = TellsNone h number said h'
RepliesAsked (Some c) h number asked said h' = TellsLines h number (asked_said c asked) said h'

-- the reply to a line that makes the house: a turn, if there is none yet (own)
abbrev pub RepliesMade : Option Clearinghouse → House → ℕ → (line : List ℕ) → HouseNo → (node : ℕ)
    → Said → House → Type 0
RepliesMade None h number line x node said h' =
    IsTurnReply (record h { node = node }) number line [] (answer_line answer.Done)
    (new_clearinghouse x node) said h'
RepliesMade (Some c) h number line x node said h' =
    TellsLines h number (refused why.HouseExists ∷ []) said h'

-- the reply to a line that sets the clock (own)
abbrev pub RepliesClock : Option Clearinghouse → House → ℕ → (time : ℕ) → Said → House → Type 0
RepliesClock None h number time said h' = TellsNone h number said h'
RepliesClock (Some c) h number time said h' =
    (said ≡ tells_alone number (answer_line answer.Done ∷ []))
    × (h' ≡ record h { clock = time; more = [] })

-- the reply to octets, by whether they are too many for a message; if not, they are kept (own)
abbrev pub RepliesMoreIf : (many : Bool) → House → ℕ → (octets : List ℕ) → Said → House → Type 0
RepliesMoreIf true h number octets said h' =
    TellsLines h number (codes "refused TooLong" ∷ []) said h'
RepliesMoreIf false h number octets said h' =
    (said ≡ tells_alone number (answer_line answer.Done ∷ [])) × (h' ≡ record h { more = octets })

-- the reply to octets in front of a message: with those that were kept before (own)
abbrev pub RepliesMore : House → ℕ → (octets : List ℕ) → Said → House → Type 0
RepliesMore h number octets said h' =
    RepliesMoreIf (nat_lt MOST_MESSAGE (length (h.more ++ octets))) h number (h.more ++ octets)
    said h'

-- the reply to the octets of a message, by whether they are too many (own)
abbrev pub RepliesTakeIf : (many : Bool) → House → (c : Clearinghouse) → ℕ → (octets : List ℕ)
    → Said → House → Type 0
RepliesTakeIf true h c number octets said h' =
    TellsLines h number (codes "refused TooLong" ∷ []) said h'
RepliesTakeIf false h c number octets said h' =
    RepliesOrder (Some c) h number (take_line octets) (order.Take octets) said h'

-- the reply to all octets of a message (own)
abbrev pub RepliesTake : Option Clearinghouse → House → ℕ → (octets : List ℕ) → Said → House
    → Type 0
RepliesTake None h number octets said h' = TellsNone h number said h'
RepliesTake (Some c) h number octets said h' =
    RepliesTakeIf (nat_lt MOST_MESSAGE (length octets)) h c number octets said h'

-- the reply to a line of these words, which say this (own)
abbrev pub RepliesTo : House → ℕ → (words : List (List ℕ)) → HouseLine → Said → House → Type 0
RepliesTo h number words (asks.House x node) said h' =
    RepliesMade h.home h number (with_spaces words) x node said h'
RepliesTo h number words (asks.Clock time) said h' = RepliesClock h.home h number time said h'
RepliesTo h number words (asks.More octets) said h' = RepliesMore h number octets said h'
RepliesTo h number words (asks.Ask asked) said h' = RepliesAsked h.home h number asked said h'
RepliesTo h number words (asks.Order (order.Take octets)) said h' =
    RepliesTake h.home h number (h.more ++ octets) said h'
RepliesTo h number words (asks.Order told) said h' =
    RepliesOrder h.home h number (with_spaces words) told said h'

-- the reply to a line that says something, nothing, or has a fault (own)
abbrev pub RepliesIf : House → ℕ → (words : List (List ℕ)) → Result (Option HouseLine) ParseFault
    → Said → House → Type 0
RepliesIf h number words (Ok None) said h' = (said ≡ record { text = []; body = None }) × (h' ≡ h)
RepliesIf h number words (Ok (Some says)) said h' = RepliesTo h number words says said h'
RepliesIf h number words (Err fault) said h' =
    (said ≡ record { text = parse_fault_text number fault; body = None })
    × (h' ≡ record h { more = [] })

-- the reply of a house to a line (own)
abbrev pub Responds : House → ℕ → (line : List ℕ) → Said → House → Type 0
Responds h number line said h' =
    RepliesIf h number (words_of line) (said_in (words_of line)) said h'
