-- A script that explains journals: its replay gives each house the entries of its own.
use Rattle.std.specs.Prelude.{◌≡◌, ◌≢◌, ◌⊎◌, ℕ, ◌+◌, ◌<◌, List, [], ◌∷◌, ◌++◌, All, IfSome, length}
use Rattle.cell_model.specs.Cells.{empty_cell}
use Rattle.cell_model.specs.Commands.{Command, Done, House}
use Rattle.cell_model.specs.Steps.{outcome, replay}
use Rattle.cell_model.specs.Sets.{In}
use Rattle.line_forms.specs.Leaving.{text_of}
use Rattle.script_replay.specs.Headline.{commands_of}
use Rattle.script_replay.specs.Replies.{Numbered}
use Rattle.script_replay.specs.Scripts.{IsScript}
use Rattle.cell_runs.specs.Entries.{Entry}
use Rattle.cell_runs.specs.Views.{image_in, view_from}
use Rattle.house_logs.specs.declared.log.HouseLog.{HouseLog}
use Rattle.house_logs.specs.declared.log.LogEntry.{LogEntry}
use Rattle.cds_explain.specs.LoggedEntries.{AreLogged}
use Rattle.cds_explain.specs.declared.cause.Reason.{Reason}

-- the text is the lines of a script, which makes these commands
pub record Scripts (text : List ℕ) (cs : List Command) : Type 0 where
  pub lines : List (List ℕ)
  pub said : List Numbered
  pub text_is : text ≡ text_of lines
  pub script : IsScript 1 lines said
  pub commands : commands_of said ≡ cs

-- what the house x does in these commands, entry by entry
abbrev pub view : (x : ℕ) → List Command → List Entry
view x cs = view_from empty_cell x cs

-- the house of a journal is made in these commands, with the image that the journal has, if it has
-- one
pub record Makes (cs : List Command) (log : HouseLog) : Type 0 where
  pub early : List Command
  pub late : List Command
  pub parts : cs ≡ early ++ House log.house.0 log.node ∷ late
  pub done : (outcome (replay early) (House log.house.0 log.node)).answer ≡ Done
  pub image : IfSome log.image (λ i.
      image_in (outcome (replay early) (House log.house.0 log.node)).cell log.house.0 ≡ i)

-- no journal is of the house x
abbrev pub HasNoLog : (x : ℕ) → List HouseLog → Type 0
HasNoLog x logs = All (λ log. log.house.0 ≢ x) logs

-- a script explains journals: each house is made, and does exactly the entries of its own, with
-- their answers and messages, and with each image that a journal has; and no other house does
-- anything
pub record Explains (text : List ℕ) (logs : List HouseLog) : Type 0 where
  pub cs : List Command
  pub script : Scripts text cs
  pub made : (log : HouseLog) → In log logs → Makes cs log
  pub views : (log : HouseLog) → In log logs → AreLogged log.entries.items (view log.house.0 cs)
  pub others : (x : ℕ) → HasNoLog x logs → view x cs ≡ []

-- entries are the first ones of a journal
pub record AreFirst (all : List LogEntry) (es : List Entry) : Type 0 where
  pub first : List LogEntry
  pub more : List LogEntry
  pub parts : all ≡ first ++ more
  pub logged : AreLogged first es

-- a script explains the first entries of each journal
pub record ExplainsFirst (text : List ℕ) (logs : List HouseLog) : Type 0 where
  pub cs : List Command
  pub script : Scripts text cs
  pub views : (log : HouseLog) → In log logs → AreFirst log.entries.items (view log.house.0 cs)
  pub others : (x : ℕ) → HasNoLog x logs → view x cs ≡ []

-- the entry of a reason is the next one of a journal after those that its house does in these
-- commands; the first of them has the number 2
pub record IsNext (cs : List Command) (logs : List HouseLog) (reason : Reason) : Type 0 where
  pub log : HouseLog
  pub here : In log logs
  pub house : reason.house ≡ log.house
  pub number : reason.entry ≡ length (view log.house.0 cs) + 2
  pub left : length (view log.house.0 cs) < length log.entries.items

-- the entry of a reason is the making of its house, which did nothing in these commands
pub record IsMaking (cs : List Command) (reason : Reason) : Type 0 where
  pub number : reason.entry ≡ 1
  pub nothing : view reason.house.0 cs ≡ []

-- a script explains journals up to the entry of a reason
pub record ExplainsUpTo (text : List ℕ) (logs : List HouseLog) (reason : Reason) : Type 0 where
  pub first : ExplainsFirst text logs
  pub next : IsMaking first.cs reason ⊎ IsNext first.cs logs reason
