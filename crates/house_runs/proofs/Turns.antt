-- A line that came to a turn is an entry of the model's step.
use Rattle.std.proofs.Common.{◌≡◌, ℕ, Bool, true, false, List, ◌∷◌, refl, sym, subst, ◌∙◌}
use Rattle.std.specs.Prelude.{Option, Some, None, if◌then◌else◌, is_some}
use Rattle.std.specs.FinMap.{get}
use Rattle.cds_records.specs.RecordOctets.{image_octets}
use Rattle.cds_stamps.specs.Numbers.{root_dir}
use Rattle.cell_model.specs.Cells as model
use Rattle.cell_model.specs.Steps.{is_bad_list}
use Rattle.cell_model.specs.Turns.{HouseStep, Stays, Turns, Turn}
use Rattle.script_answers.specs.declared.answer.ScriptRefusal.TheVariants as why
use Rattle.cds_cell.proofs.RecordedLaws.{slot_recorded}
use Rattle.clearinghouse.specs.HouseImages.{image_of}
use Rattle.clearinghouse.specs.ModelHouses.{StandsHouse}
use Rattle.clearinghouse.specs.declared.house.Clearinghouse.{Clearinghouse}
use Rattle.clearinghouse.proofs.Starting.{got_kept}
use Rattle.house_lines.specs.declared.line.HouseOrder.{HouseOrder}
use Rattle.house_lines.specs.declared.line.HouseOrder.TheVariants as order
use Rattle.cell_runs.specs.Entries.{Order, TurnEntry, Post}
use Rattle.cell_runs.specs.HonestRuns.{HasGoodList, IsImageOf, IsTurnOf, at_clock}
use Rattle.cell_runs.specs.LineOrders.{listed_houses, order_of}
use Rattle.cell_runs.specs.OrderSteps.{Carries, order_step}
use Rattle.house_turns.specs.LineOutcomes.{ComesTo, IsOutcome, Posts}
use Rattle.house_turns.specs.HouseAnswers.{early_refusal, maybe_refused}

-- the image of a clearinghouse is that of each house of the model that it is for
pub image_stands : (c : Clearinghouse) (now : model.House) → StandsHouse c now → IsImageOf c.house.0 now (image_octets (image_of c))
image_stands c now stands = record {
  image = image_of c;
  octets_are = refl;
  house = refl;
  node = sym stands.node;
  floor = sym stands.floor;
  dirs = λ d. got_kept c d ∙ sym (slot_recorded c.house.0 c.floor.time (get c.dirs d) (now.slots d.0) (stands.slots d.0));
}

-- the clock of the model's house is the cell's
at_clock_stands : (c : Clearinghouse) (now : model.House) (clock : ℕ) → StandsHouse c now → StandsHouse c (at_clock now clock)
at_clock_stands c now clock stands = record { node = stands.node; floor = stands.floor; slots = stands.slots }

-- a turn of the house x of the model, for which the clearinghouse is after it
pub record TurnsTo (x : ℕ) (e : TurnEntry) (step : HouseStep) (c' : Clearinghouse) : Type 0 where
  pub turn : Turn
  pub is : IsTurnOf x e step turn
  pub stands : StandsHouse c' turn.house

-- the entry of a turn
abbrev pub entry_of : (clock : ℕ) → Order → List Post → (answer : List ℕ) → (c' : Clearinghouse) → TurnEntry
entry_of clock order posts answer c' =
    record { clock = clock; order = order; posts = posts; answer = answer; image = image_octets (image_of c') }

by_step : (step : HouseStep) (clock : ℕ) (order : Order) (posts : List Post) (answer : List ℕ) (c c' : Clearinghouse) → c'.house ≡ c.house
    → IsOutcome step (Posts posts answer) c c' → TurnsTo c.house.0 (entry_of clock order posts answer c') step c'
by_step (Stays a) clock order posts answer c c' house is = absurd is
by_step (Turns t) clock order posts answer c c' house is = record {
  turn = t;
  is = record {
    step_is = refl;
    posts = is.0;
    answer = is.1;
    image = subst (λ x. IsImageOf x.0 t.house (image_octets (image_of c'))) house (image_stands c' t.house is.2);
  };
  stands = is.2;
}

-- an order that comes to a turn is that of the model, whichever house the clearinghouse is for, and
-- whichever message is taken
pub turns_to : (c c' : Clearinghouse) (clock : ℕ) (told : HouseOrder) (posts : List Post) (answer : List ℕ) → ComesTo c clock told (Posts posts answer) c'
    → (now : model.House) (m : model.Message) → StandsHouse c now → Carries c.house.0 (at_clock now clock) (order_of told) m
    → TurnsTo c.house.0 (entry_of clock (order_of told) posts answer c') (order_step c.house.0 (at_clock now clock) (order_of told) m) c'
turns_to c c' clock told posts answer comes now m stands carries =
    let there : model.House = at_clock now clock in
    by_step (order_step c.house.0 there (order_of told) m) clock (order_of told) posts answer c c' comes.house
    (comes.step there m (at_clock_stands c now clock stands) refl carries)

-- ---- houses of a new directory

good_list : (held bad : Bool)
    → maybe_refused (if held then Some why.DirectoryExists else (if bad then Some why.BadMembers else None)) ≡ None → bad ≡ false
good_list true bad none = absurd (cc)
good_list false true none = absurd (cc)
good_list false false none = refl

-- an order that is not refused early gives a good list
pub has_good_list : (c : Clearinghouse) (told : HouseOrder) → early_refusal c told ≡ None → HasGoodList c.house.0 (order_of told)
has_good_list c (order.Root ls) none =
    good_list (is_some (get c.dirs (record { 0 = root_dir }))) (is_bad_list (c.house.0 ∷ listed_houses ls)) none
has_good_list c (order.Mkdir d n made ls) none = good_list (is_some (get c.dirs made)) (is_bad_list (c.house.0 ∷ listed_houses ls)) none
has_good_list c other none = tt
