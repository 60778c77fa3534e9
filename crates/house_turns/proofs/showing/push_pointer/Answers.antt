use Rattle.std.proofs.Common.{◌≡◌, ◌++◌, sym, subst}
use Rattle.std.specs.Prelude.{Option, OnOk}
use Rattle.cell_names.specs.ChildPointers.{Pointer}
use Rattle.house_turns.specs.Showings.{pointer_words}
use Rattle.house_turns.proofs.Shows.{nothing_led, unreadable}
use Rattle.house_turns.proofs.showing.push_pointer.Goals as goal

pub returns-in-Ok : goal.returns-in-Ok
returns-in-Ok c =
    subst (λ (o : Option Pointer). OnOk c.push_places.result (c.push_places.new.text.items ≡ c.args.text.now.items ++ pointer_words o))
    (sym c.in-Ok.ensures.read) c.push_places.ensures

pub returns-in-Err-Fault : goal.returns-in-Err-Fault
returns-in-Err-Fault c =
    nothing_led c.args.octets.now c.args.text.now.items
    (unreadable c.args.octets.now _ (rw c.in-Err-Fault.field-0-is at c.in-Err-Fault.ensures.lacking))
