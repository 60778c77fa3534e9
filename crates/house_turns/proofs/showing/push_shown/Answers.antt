use Rattle.std.proofs.Common.{◌≡◌, ◌<◌, length, arith}
use Rattle.house_turns.proofs.Shows.{attr_written, none_written}
use Rattle.house_turns.proofs.showing.push_shown.Goals as goal

pub returns-then-is_empty : goal.returns-then-is_empty
returns-then-is_empty c =
    let none : length c.args.values.now ≡ 0 = grind (arith, c.if-is_empty.ensures) in
    none_written c.args.number c.args.name.now c.args.values.now c.args.text.now.items none

pub returns : goal.returns
returns c =
    let some : 0 < length c.args.values.now = grind (arith, c.if-is_empty.ensures) in
    attr_written c.args.number c.args.name.now c.args.values.now c.args.text.now.items c.push_attr_line.new.text.items c.push_values.new.text.items some
    c.in_ok-push_attr_line.ensures c.in_ok-push_values.ensures
