-- What the records of a folder tell: which house was made, and its entries.
use Rattle.std.specs.Prelude.{◌≡◌, ℕ, List, [], ◌∷◌, ◌++◌, None, Some, Ok, codes, map}
use Rattle.cell_script.specs.Words.{words_of}
use Rattle.script_answers.specs.Texts.{answer_line}
use Rattle.script_answers.specs.declared.answer.Answer.TheVariants as answer
use Rattle.house_entries.specs.Bodies.{IsBody}
use Rattle.house_lines.specs.LineRows.{said_in}
use Rattle.house_lines.specs.declared.line.HouseLine.{HouseLine}
use Rattle.house_lines.specs.declared.line.HouseLine.TheVariants as asks
use Rattle.house_lines.specs.declared.line.HouseOrder.{HouseOrder}
use Rattle.cds_stamps.specs.declared.numbers.HouseNo.{HouseNo}
use Rattle.cell_runs.specs.Entries.{Order, Take, Entry, Post, Started, Turned, TurnEntry}
use Rattle.cell_runs.specs.HonestRuns.{IsHonest}
use Rattle.cell_runs.specs.LineOrders.{order_of}
use Rattle.cell_runs.specs.Orders.{MadeHouse, new_house}
use Rattle.house_turns.specs.HouseReplies.{take_line, turn_text}
use Rattle.house_turns.specs.LineOutcomes.{HasNoEnd}
use Rattle.house_turns.specs.PostTexts.{post_line}

-- the line of a record says this
abbrev pub LineSays : (line : List ℕ) → HouseLine → Type 0
LineSays line says = said_in (words_of line) ≡ Ok (Some says)

-- the line of a record says this order: it is `take` with all octets of a message, or its words
-- say it
pub data SaysOrder : (line : List ℕ) → Order → Type 0 where
  SaysTake : (octets : List ℕ) → SaysOrder (take_line octets) (Take octets)
  SaysOther : (line : List ℕ) (told : HouseOrder) → LineSays line (asks.Order told)
      → SaysOrder line (order_of told)

-- the body of the record of a turn: its line and its answer are one line each, and it does not show
-- the entry's image
pub record IsTurnBody (body : List ℕ) (e : TurnEntry) : Type 0 where
  pub number : ℕ
  pub line : List ℕ
  pub says : SaysOrder line e.order
  pub line_ends_nowhere : HasNoEnd line
  pub answer_ends_nowhere : HasNoEnd e.answer
  pub is : IsBody body number e.clock (turn_text line e.posts e.answer) None

-- that of a start: a line says so, and the text of the last turn follows
pub record IsStartBody (body image : List ℕ) : Type 0 where
  pub number : ℕ
  pub clock : ℕ
  pub last : List ℕ
  pub is : IsBody body number clock (codes "start" ++ (10 ∷ last)) (Some image)

-- that of an entry
abbrev pub IsEntryBody : (body : List ℕ) → Entry → Type 0
IsEntryBody body (Started image) = IsStartBody body image
IsEntryBody body (Turned e) = IsTurnBody body e

-- that of a segment with which no process begins: a line says so, and no entry
pub record IsSegmentBody (body : List ℕ) : Type 0 where
  pub number : ℕ
  pub clock : ℕ
  pub rest : List ℕ
  pub image : List ℕ
  pub is : IsBody body number clock (codes "segment " ++ rest) (Some image)

-- that of a segment of a folder that has no house yet
pub record IsNewBody (body : List ℕ) : Type 0 where
  pub number : ℕ
  pub clock : ℕ
  pub is : IsBody body number clock (codes "new" ++ 10 ∷ []) None

-- that of the line that made this house
pub record IsMakingBody (body : List ℕ) (made : MadeHouse) : Type 0 where
  pub number : ℕ
  pub clock : ℕ
  pub line : List ℕ
  pub line_ends_nowhere : HasNoEnd line
  pub house : HouseNo
  pub says : LineSays line (asks.House house made.node)
  pub numbered : made.house ≡ house.0
  pub is : IsBody body number clock (turn_text line [] (answer_line answer.Done)) None

-- bodies tell entries, each one but for those of segments
pub data TellEntries : (bodies : List (List ℕ)) → List Entry → Type 0 where
  TellNone : TellEntries [] []
  TellSegment : (body : List ℕ) (bodies : List (List ℕ)) (es : List Entry)
      → IsSegmentBody body → TellEntries bodies es → TellEntries (body ∷ bodies) es
  TellEntry : (body : List ℕ) (bodies : List (List ℕ)) (e : Entry) (es : List Entry)
      → IsEntryBody body e → TellEntries bodies es → TellEntries (body ∷ bodies) (e ∷ es)

-- bodies tell of a house that was made, and its entries after that
pub data TellHouse : (bodies : List (List ℕ)) → MadeHouse → List Entry → Type 0 where
  TellMade : (body : List ℕ) (bodies : List (List ℕ)) (made : MadeHouse) (es : List Entry)
      → IsMakingBody body made → TellEntries bodies es → TellHouse (body ∷ bodies) made es
  TellNew : (body : List ℕ) (bodies : List (List ℕ)) (made : MadeHouse) (es : List Entry)
      → IsNewBody body → TellHouse bodies made es → TellHouse (body ∷ bodies) made es

-- bodies of a folder that has no house yet
abbrev pub TellNoHouse : (bodies : List (List ℕ)) → Type 0
TellNoHouse [] = Unit {0}
TellNoHouse (body ∷ bodies) = IsNewBody body × TellNoHouse bodies

-- bodies tell of a house that was made, and its entries are those of a house that does as the model
-- does
pub record TellHonestHouse (bodies : List (List ℕ)) : Type 0 where
  pub made : MadeHouse
  pub entries : List Entry
  pub tell : TellHouse bodies made entries
  pub honest : IsHonest made.house (new_house made.node) entries

-- ---- what two readings have in common

-- the line of a message in a record
abbrev pub post_kept : Post → List ℕ
post_kept p = post_line (codes "post ") p.to p.octets

-- two turns have one clock and one answer, their messages are kept in the same lines, and one line
-- says the orders of both
pub record AreAlikeTurns (e f : TurnEntry) : Type 0 where
  pub clock : e.clock ≡ f.clock
  pub line : List ℕ
  pub says : SaysOrder line e.order
  pub says_too : SaysOrder line f.order
  pub posts : map post_kept e.posts ≡ map post_kept f.posts
  pub answer : e.answer ≡ f.answer

-- two entries are starts with one image, or turns that are alike
abbrev pub AreAlike : Entry → Entry → Type 0
AreAlike (Started image) (Started other) = image ≡ other
AreAlike (Turned e) (Turned f) = AreAlikeTurns e f
AreAlike _ _ = ⊥

-- so it is of the entries of two lists, one by one
abbrev pub AllAlike : List Entry → List Entry → Type 0
AllAlike [] [] = Unit {0}
AllAlike (e ∷ es) (f ∷ fs) = AreAlike e f × AllAlike es fs
AllAlike _ _ = ⊥
