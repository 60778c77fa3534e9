use Rattle.house_turns.proofs.Shows.{entry_written}
use Rattle.house_turns.proofs.showing.entry_told.Goals as goal

pub returns : goal.returns
returns c =
    entry_written c.args.number c.args.entry.now c.new-text.result.items c.push_lead_line.new.text.items c.push_attrs.new.text.items
    c.push_last_line.new.text.items c.new-text.ensures.items c.in_ok-push_lead_line.ensures c.in_ok-push_attrs.ensures c.in_ok-push_last_line.ensures
