-- Updates of a directory at a house, one after another up to the first that is refused (own, after
-- C705, updates).
use Rattle.std.specs.Prelude.{◌≡◌, ℕ, ◌+◌, true, List, [], ◌∷◌, ◌++◌, Option, Some, None}
use Rattle.std.specs.Option.{option_map}
use Rattle.cds_stamps.specs.Members.{master_of}
use Rattle.directory.specs.declared.entry.Kind.{Kind}
use Rattle.directory.specs.declared.update.UpdateRefusal.{UpdateRefusal}
use Rattle.directory.specs.Shown.{shown_of_name}
use Rattle.directory.specs.Updates.{Change}
use Rattle.cell_model.specs.Cells as model
use Rattle.cell_model.specs.Commands as command
use Rattle.cell_model.specs.Steps.{Outcome, effect}
use Rattle.cds_cell.specs.declared.cell.Cell.{Cell}
use Rattle.cds_cell.specs.declared.updating.AcceptedAll.{AcceptedAll}
use Rattle.cds_cell.specs.ModelCells.{Stands}

-- what comes of updates at a house: how many were accepted, the serials of the messages that they
-- posted, why the next one was refused, if one was, and the cell after them (own)
pub record Accepting : Type 0 where
  pub count : ℕ
  pub posted : List ℕ
  pub refused : Option UpdateRefusal
  pub cell : model.Cell

-- no update more is accepted (own)
abbrev pub no_more_updates : model.Cell → Option UpdateRefusal → Accepting
no_more_updates g refused = record { count = 0; posted = []; refused = refused; cell = g }

-- so many updates were accepted before, which posted these messages (own)
abbrev pub behind : (n : ℕ) → (ns : List ℕ) → Accepting → Accepting
behind n ns w = record w { count = n + w.count; posted = ns ++ w.posted }

-- an update by its answer: one that was stamped counts, and those after it follow; at one that was
-- refused all stops. Nothing else is answered to an update (own)
abbrev pub by_answer : command.Answer → model.Cell → (rest : Accepting) → Accepting
by_answer (command.Stamped s ns) g rest = behind 1 ns rest
by_answer (command.Refused (command.Update r)) g rest = no_more_updates g (Some r)
by_answer _ g rest = no_more_updates g None

-- updates of the directory d at the house h, one after another up to the first that is refused
-- (own, after C705, updates)
abbrev pub accept_in_turn : model.Cell → (h d : ℕ) → List Change → Accepting
accept_in_turn g h d [] = no_more_updates g None
accept_in_turn g h d (u ∷ us) =
    let o : Outcome = effect g (command.Accept h d u) in
    by_answer o.answer o.cell (accept_in_turn o.cell h d us)

-- the answer is that of an update which was accepted (own)
abbrev pub IsStamped : command.Answer → Type 0
IsStamped (command.Stamped s ns) = Unit {0}
IsStamped _ = ⊥

-- the serials of the messages that such an update posted (own)
abbrev pub posted_in : command.Answer → List ℕ
posted_in (command.Stamped s ns) = ns
posted_in _ = []

-- what the program tells of updates, and its cell after them, are these (own)
pub record IsAccepting (a : AcceptedAll) (c : Cell) (w : Accepting) : Type 0 where
  pub count : a.count ≡ w.count
  pub posted : a.posted ≡ w.posted
  pub refused : a.refused ≡ w.refused
  pub stands : Stands c w.cell

-- a house that is up holds a directory, whose master it is by the list that it holds; and it shows
-- there an entry n of this kind, or none (own, after C705, confidence of lookups)
pub record ShowsAsMaster (g : model.Cell) (h d : ℕ) (n : List ℕ) (kind : Option Kind) : Type 0 where
  pub replica : model.Replica
  pub up : (g.house h).up ≡ true
  pub held : model.IsHeld g h d replica
  pub master : master_of replica.members ≡ h
  pub shows : option_map (λ e. e.kind) (shown_of_name replica.history n) ≡ kind
