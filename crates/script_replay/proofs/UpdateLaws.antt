-- Updates that a command of the name service asks for: what becomes of them, and that they are
-- refused for want of stamps alone.
use Rattle.std.proofs.Common.{◌≡◌, ◌⊎◌, ℕ, true, List, refl, ap}
use Rattle.std.specs.Prelude.{Option, Some, None, Result, Ok, Err, is_none}
use Rattle.std.specs.Option.{option_map}
use Rattle.cds_stamps.specs.Members.{master_of}
use Rattle.directory.specs.declared.entry.Kind.{Kind}
use Rattle.directory.specs.declared.entry.Kind.TheVariants as kind
use Rattle.directory.specs.declared.update.UpdateRefusal.TheVariants as why
use Rattle.directory.specs.EntryChanges.{AreAccepted}
use Rattle.directory.specs.Histories.{IsHistory, Mark}
use Rattle.directory.specs.Shown.{Shown, shown_of_name}
use Rattle.directory.specs.Updates.{Change}
use Rattle.cell_model.specs.Cells as model
use Rattle.cell_model.specs.Holdings.{HistoriesHold}
use Rattle.cell_model.specs.Reached.{IsReached}
use Rattle.resolver.specs.declared.refusal.Refusal.{Refusal}
use Rattle.resolver.specs.declared.seen.Found.{Found}
use Rattle.resolver.specs.declared.seen.Place.{Place}
use Rattle.script_answers.specs.declared.answer.ScriptRefusal.{ScriptRefusal}
use Rattle.cds_cell.specs.declared.cell.Cell.{Cell}
use Rattle.cds_cell.specs.declared.house.CellHouse.{CellHouse}
use Rattle.cds_cell.specs.declared.house.HouseState.TheVariants as state
use Rattle.cds_cell.specs.declared.house.HouseState.{HouseState}
use Rattle.cds_cell.specs.Accepting.{ShowsAsMaster, accept_in_turn}
use Rattle.cds_cell.specs.CellHouses.{StandsState, is_up_state}
use Rattle.cds_cell.specs.ModelCells.{MaybeStandsHouse, Stands, house_of}
use Rattle.ns_commands.specs.Asks.{Asks, changes_unless, fills, object_in, of_entry, of_kind, place_to_fill, to_fill, unless}
use Rattle.script_replay.specs.Replies.{LacksStampsAlone}

-- ---- houses

state_up : (x : _) (s : HouseState) (now : model.House) → StandsState x s now → is_up_state (Some s) ≡ true → now.up ≡ true
state_up x (state.Up c) now stands up = stands.0
state_up x (state.Down octets) now stands up = absurd (cc)

house_up : (o : Option CellHouse) (now : model.House) → MaybeStandsHouse o now → is_up_state (option_map (λ h. h.state) o) ≡ true → now.up ≡ true
house_up None now stands up = absurd (cc)
house_up (Some h) now stands up = state_up h.house h.state now stands.state up

-- a house of the cell that is up is up in the model
pub model_up : (c : Cell) (g : model.Cell) (x : ℕ) → Stands c g → is_up_state (option_map (λ h. h.state) (house_of c.houses.items x)) ≡ true
    → (g.house x).up ≡ true
model_up c g x s up = house_up (house_of c.houses.items x) (g.house x) (s.stands.houses x) up

-- ---- refusals

-- nothing shows exactly where there is no kind
shows_none : (o : Option Shown) (k : Option Kind) → option_map (λ e. e.kind) o ≡ k → is_none o ≡ is_none k
shows_none None k is = ap is_none is
shows_none (Some e) k is = ap is_none is

shows_some : (o : Option Shown) (k : Kind) → option_map (λ e. e.kind) o ≡ Some k → (e : Shown) × (o ≡ Some e)
shows_some None k is = absurd (cc)
shows_some (Some e) k is = (e, refl)

module _ (g : model.Cell) (reached : IsReached g) (histories : HistoriesHold g)
    (alone : (h d : ℕ) (r : model.Replica) (us : List Change) → IsReached g → (g.house h).up ≡ true → model.IsHeld g h d r
    → master_of r.members ≡ h → AreAccepted r.history us
    → ((accept_in_turn g h d us).refused ≡ None) ⊎ ((accept_in_turn g h d us).refused ≡ Some why.StampsSpent)) where
  -- a master that shows an entry so refuses updates which such a history accepts for want of stamps
  -- alone
  master_lacks : (h d : ℕ) (n : List ℕ) (k : Option Kind) (us : List Change) → ShowsAsMaster g h d n k
      → ((past : List Mark) → IsHistory past → option_map (λ e. e.kind) (shown_of_name past n) ≡ k → AreAccepted past us)
      → ((accept_in_turn g h d us).refused ≡ None) ⊎ ((accept_in_turn g h d us).refused ≡ Some why.StampsSpent)
  master_lacks h d n k us shows accepted =
      alone h d shows.replica us reached shows.up shows.held shows.master
      (accepted shows.replica.history (histories.houses h d shows.replica shows.held) shows.shows)

  -- of a place whose entry may have to be made
  pub place_lacks : (found : Result Place Refusal) (list : Place → List Change)
      → ((p : Place) → found ≡ Ok p → ShowsAsMaster g p.house.0 p.dir.0 p.name p.kind)
      → ((p : Place) (past : List Mark) → IsHistory past → is_none (shown_of_name past p.name) ≡ is_none p.kind → AreAccepted past (list p))
      → LacksStampsAlone g (of_entry (place_to_fill found) (λ place. fills place (list place)))
  place_lacks (Err r) list shows accepted = tt
  place_lacks (Ok p) list shows accepted = by_kind p.kind
    where
      lacks : LacksStampsAlone g (fills p (list p))
      lacks = master_lacks p.house.0 p.dir.0 p.name p.kind (list p) (shows p refl)
          (λ past history is. accepted p past history (shows_none (shown_of_name past p.name) p.kind is))

      by_kind : (k : Option Kind) → LacksStampsAlone g (of_entry (to_fill k p) (λ place. fills place (list place)))
      by_kind None = lacks
      by_kind (Some kind.Object) = lacks
      by_kind (Some kind.Link) = tt
      by_kind (Some kind.Child) = tt

  -- of an entry that was found
  pub found_lacks : (found : Result Found Refusal) (fault : Found → Option ScriptRefusal) (list : Found → List Change)
      → ((f : Found) → found ≡ Ok f → ShowsAsMaster g f.house.0 f.dir.0 f.name (Some f.kind))
      → ((f : Found) (past : List Mark) (e : Shown) → shown_of_name past f.name ≡ Some e → AreAccepted past (list f))
      → LacksStampsAlone g (of_entry (object_in found) (λ entry. changes_unless (fault entry) entry (list entry)))
  found_lacks (Err r) fault list shows accepted = tt
  found_lacks (Ok f) fault list shows accepted = by_kind f.kind
    where
      lacks : (o : Option ScriptRefusal) → LacksStampsAlone g (changes_unless o f (list f))
      lacks (Some why) = tt
      lacks None = master_lacks f.house.0 f.dir.0 f.name (Some f.kind) (list f) (shows f refl)
          (λ past history is. let e = shows_some (shown_of_name past f.name) f.kind is in accepted f past e.0 e.1)

      by_kind : (k : Kind) → LacksStampsAlone g (of_entry (of_kind k f) (λ entry. changes_unless (fault entry) entry (list entry)))
      by_kind kind.Object = lacks (fault f)
      by_kind kind.Link = tt
      by_kind kind.Child = tt

  -- after a fault
  pub unless_lacks : (fault : Option ScriptRefusal) (asks : Asks) → LacksStampsAlone g asks → LacksStampsAlone g (unless fault asks)
  unless_lacks None asks lacks = lacks
  unless_lacks (Some why) asks lacks = tt
