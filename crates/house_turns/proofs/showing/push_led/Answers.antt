use Rattle.std.proofs.Common.{◌≡◌, [], ◌++◌, List, ℕ, sym, subst, ap, ◌∙◌, append-nil}
use Rattle.std.specs.Prelude.{Option, OnOk}
use Rattle.std.specs.Option.{option_map_or}
use Rattle.house_turns.specs.Showings.{lead_words}
use Rattle.house_turns.proofs.showing.push_led.Goals as goal

pub returns-in-Some : goal.returns-in-Some
returns-in-Some c =
    subst (λ (o : Option (List ℕ)). OnOk c.push_lead.result
    (c.push_lead.new.text.items ≡ c.args.text.now.items ++ option_map_or (lead_words c.args.entry.now.kind) o []))
    c.in-Some.ensures (rw c.octets.ensures at c.push_lead.ensures)

pub returns-in-None : goal.returns-in-None
returns-in-None c =
    sym (append-nil c.args.text.now.items)
    ∙ ap (λ (o : Option (List ℕ)). c.args.text.now.items ++ option_map_or (lead_words c.args.entry.now.kind) o []) c.in-None.ensures
