use Rattle.std.proofs.Common.{◌≡◌}
use Rattle.std.specs.Prelude.{Some}
use Rattle.house_turns.proofs.SkulkWords.{line_cuts}
use Rattle.house_turns.proofs.running.words_in.Goals as goal

pub returns-in_err-directory_in : goal.returns-in_err-directory_in
returns-in_err-directory_in c = λ r fits is.
    let cuts = line_cuts r c.args.line.now c.cut_at.result.1.now c.cut_at-2.result.0.now c.cut_at-2.result.1.now c.cut_at-3.result.0.now c.cut_at-3.result.1.now
    c.cut_at-4.result.0.now c.cut_at-4.result.1.now is c.cut_at.ensures.after c.cut_at-2.ensures.before c.cut_at-2.ensures.after c.cut_at-3.ensures.before
    c.cut_at-3.ensures.after c.cut_at-4.ensures.before c.cut_at-4.ensures.after in
    let none = c.in_err-directory_in.ensures r.dir.0 fits.dir cuts.dir_is in
    absurd (cc (none))

pub returns-in_err-round_in : goal.returns-in_err-round_in
returns-in_err-round_in c = λ r fits is.
    let cuts = line_cuts r c.args.line.now c.cut_at.result.1.now c.cut_at-2.result.0.now c.cut_at-2.result.1.now c.cut_at-3.result.0.now c.cut_at-3.result.1.now
    c.cut_at-4.result.0.now c.cut_at-4.result.1.now is c.cut_at.ensures.after c.cut_at-2.ensures.before c.cut_at-2.ensures.after c.cut_at-3.ensures.before
    c.cut_at-3.ensures.after c.cut_at-4.ensures.before c.cut_at-4.ensures.after in
    let none = c.in_err-round_in.ensures r.round cuts.round_is in
    absurd (cc (none))

pub returns-in_err-stamp_in : goal.returns-in_err-stamp_in
returns-in_err-stamp_in c = λ r fits is.
    let cuts = line_cuts r c.args.line.now c.cut_at.result.1.now c.cut_at-2.result.0.now c.cut_at-2.result.1.now c.cut_at-3.result.0.now c.cut_at-3.result.1.now
    c.cut_at-4.result.0.now c.cut_at-4.result.1.now is c.cut_at.ensures.after c.cut_at-2.ensures.before c.cut_at-2.ensures.after c.cut_at-3.ensures.before
    c.cut_at-3.ensures.after c.cut_at-4.ensures.before c.cut_at-4.ensures.after in
    let none = c.in_err-stamp_in.ensures r.t fits.stamp cuts.stamp_is in
    absurd (cc (none))

pub returns-in_err-number_in : goal.returns-in_err-number_in
returns-in_err-number_in c = λ r fits is.
    let cuts = line_cuts r c.args.line.now c.cut_at.result.1.now c.cut_at-2.result.0.now c.cut_at-2.result.1.now c.cut_at-3.result.0.now c.cut_at-3.result.1.now
    c.cut_at-4.result.0.now c.cut_at-4.result.1.now is c.cut_at.ensures.after c.cut_at-2.ensures.before c.cut_at-2.ensures.after c.cut_at-3.ensures.before
    c.cut_at-3.ensures.after c.cut_at-4.ensures.before c.cut_at-4.ensures.after in
    let none = c.in_err-number_in.ensures r.answered.0 fits.answered cuts.answered_is in
    absurd (cc (none))

pub returns : goal.returns
returns c = λ r fits is.
    let cuts = line_cuts r c.args.line.now c.cut_at.result.1.now c.cut_at-2.result.0.now c.cut_at-2.result.1.now c.cut_at-3.result.0.now c.cut_at-3.result.1.now
    c.cut_at-4.result.0.now c.cut_at-4.result.1.now is c.cut_at.ensures.after c.cut_at-2.ensures.before c.cut_at-2.ensures.after c.cut_at-3.ensures.before
    c.cut_at-3.ensures.after c.cut_at-4.ensures.before c.cut_at-4.ensures.after in
    let one = c.in_ok-directory_in.ensures r.dir.0 fits.dir cuts.dir_is in
    let two = c.in_ok-round_in.ensures r.round cuts.round_is in
    let three = c.in_ok-stamp_in.ensures r.t fits.stamp cuts.stamp_is in
    let four = c.in_ok-number_in.ensures r.answered.0 fits.answered cuts.answered_is in
    let dir : c.in_ok-directory_in.field-0 ≡ r.dir = cc (one) in
    let round : c.in_ok-round_in.field-0 ≡ r.round = cc (two) in
    let stamp : c.in_ok-stamp_in.field-0 ≡ r.t = cc (three) in
    let answered : c.in_ok-number_in.field-0 ≡ r.answered.0 = cc (four) in
    λ i. Some (record { dir = dir i; round = round i; t = stamp i; answered = record { 0 = answered i } })
