use Rattle.std.proofs.Common.{◌≡◌}
use Rattle.std.specs.Prelude.{Some}
use Rattle.house_turns.proofs.SkulkWords.{node_cut, time_cut}
use Rattle.house_turns.proofs.running.stamp_in.Goals as goal

pub returns-in_err-number_in : goal.returns-in_err-number_in
returns-in_err-number_in c = λ s fits is.
    let none = c.in_err-number_in.ensures s.time fits.time (time_cut s c.args.word.now c.cut_at.result.0.now fits.time is c.cut_at.ensures.before) in
    absurd (cc (none))

pub returns-in_err-node_in : goal.returns-in_err-node_in
returns-in_err-node_in c = λ s fits is.
    let none = c.in_err-node_in.ensures s.node fits.node (node_cut s c.args.word.now c.cut_at.result.1.now fits.time is c.cut_at.ensures.after) in
    absurd (cc (none))

pub returns : goal.returns
returns c = λ s fits is.
    let some = c.in_ok-number_in.ensures s.time fits.time (time_cut s c.args.word.now c.cut_at.result.0.now fits.time is c.cut_at.ensures.before) in
    let other = c.in_ok-node_in.ensures s.node fits.node (node_cut s c.args.word.now c.cut_at.result.1.now fits.time is c.cut_at.ensures.after) in
    let time : c.in_ok-number_in.field-0 ≡ s.time = cc (some) in
    let node : c.in_ok-node_in.field-0 ≡ s.node = cc (other) in
    λ i. Some (record { time = time i; node = node i })
