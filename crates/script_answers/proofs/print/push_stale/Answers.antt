use Rattle.std.proofs.Common.{List, ℕ}
use Rattle.std.proofs.lemmas.Result.{on_err_weaker}
use Rattle.script_answers.proofs.Printing.{still_begins}
use Rattle.script_answers.proofs.print.push_stale.Goals as goal

pub returns-clause-err : goal.returns-clause-err
returns-clause-err c =
    let end : List ℕ = c.push_spaced_stamp_or.new.line.items in
    on_err_weaker c.push_spaced_stamp_or.result
    (λ begun. still_begins c.args.line.now.items _ c.push_word.new.line.items end c.in_ok-push_word.ensures.ok
    (still_begins c.push_word.new.line.items _ c.push_spaced_stamp.new.line.items end c.in_ok-push_spaced_stamp.ensures.ok begun))
    c.push_spaced_stamp_or.ensures.err
