use Rattle.std.proofs.Common.{List, ◌∙◌, ◌/◌, ◌++◌, ap, take, sym, arith, length-append}
use Rattle.house_journal.specs.declared.step.Tear.{Tear}
use Rattle.house_journal.specs.Unwindings.{all_torn}
use Rattle.house_journal.proofs.Restarting.{tear_is, all_torn_more}
use Rattle.house_journal.proofs.Tails.{drop_past, from_more}
use Rattle.house_journal.proofs.restart.note_half.Goals as goal

pub returns-clause-noted : goal.returns-clause-noted
returns-clause-noted c front size file =
    let tears = c.args.tears.now.items in
    let t = c.in_ok-half.half in
    let is = c.in_ok-half.ensures in
    let s = c.args.step.now in
    let end = c.args.end.now in
    let sum = length-append front end in
    ap (λ (l : List Tear). all_torn l file) c.in_ok-push.ensures.items
    ∙ all_torn_more tears t file
    ∙ ap (all_torn tears) (tear_is s (front ++ end) file t c.if-step.false (omega (arith, c.requires.within, sum, size)) is.at is.end
    (is.half ∙ ap (take (s.len / 2)) (sym (drop_past front end c.args.low size s.at c.requires.from))))

pub returns-clause-from : goal.returns-clause-from
returns-clause-from c are =
    rw c.in_ok-push.ensures.items (from_more c.args.low c.args.tears.now.items c.in_ok-half.half are (omega (arith, c.in_ok-half.ensures.at, c.requires.from)))
