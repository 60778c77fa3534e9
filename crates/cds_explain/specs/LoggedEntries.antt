-- The entries of a house that its journal has.
use Rattle.std.specs.Prelude.{◌≡◌, ℕ, List, [], ◌∷◌, map, IfSome}
use Rattle.cell_runs.specs.Entries.{Post, TurnEntry, Entry, Started, Turned}
use Rattle.cell_runs.specs.LineOrders.{order_of}
use Rattle.house_logs.specs.declared.log.LogEntry.{LogEntry}
use Rattle.house_logs.specs.declared.log.LogEntry.TheVariants as entry
use Rattle.house_logs.specs.declared.log.LoggedTurn.{LoggedTurn}
use Rattle.house_logs.specs.declared.log.PostedOctets.{PostedOctets}

-- a message that was posted
abbrev pub post_of : PostedOctets → Post
post_of p = record { to = p.to.0; octets = p.octets }

-- a turn, with the image that the house has after it
abbrev pub turn_of : LoggedTurn → (image : List ℕ) → TurnEntry
turn_of t image =
    record {
      clock = t.clock;
      order = order_of t.order;
      posts = map post_of t.posts.items;
      answer = t.answer;
      image = image;
    }

-- an entry is that of a journal, in all that the journal has of it: it need not have the image
-- after a turn
pub data IsLogged : LogEntry → Entry → Type 0 where
  StartIs : (image : List ℕ) → IsLogged (entry.Started image) (Started image)
  TurnIs : (t : LoggedTurn) (image : List ℕ) → IfSome t.image (λ i. image ≡ i)
      → IsLogged (entry.Turned t) (Turned (turn_of t image))

-- entries are those of a journal, one after the other
pub data AreLogged : List LogEntry → List Entry → Type 0 where
  NoEntry : AreLogged [] []
  NextEntry : (l : LogEntry) (e : Entry) (ls : List LogEntry) (es : List Entry) → IsLogged l e
      → AreLogged ls es → AreLogged (l ∷ ls) (e ∷ es)
