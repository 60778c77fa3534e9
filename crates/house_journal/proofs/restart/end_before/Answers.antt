use Rattle.std.proofs.Common.{◌≡◌, ◌++◌, ◌-◌, ◌+◌, take, drop, arith}
use Rattle.std.proofs.lemmas.Grind.{common_steps}
use Rattle.house_journal.proofs.Tails.{before_past}
use Rattle.house_journal.proofs.restart.end_before.Goals as goal

pub returns : goal.returns
returns c front size =
    let s = c.args.step.now in
    let end = c.args.end.now in
    let low = c.args.low in
    let is : c.extend_from_slice-2.new.self.items ≡ take (s.at - low) end ++ (s.gone ++ drop (s.at - low + s.len) end) =
    grind (arith, common_steps) in
    before_past front end low size s c.requires.from c.extend_from_slice-2.new.self.items is
