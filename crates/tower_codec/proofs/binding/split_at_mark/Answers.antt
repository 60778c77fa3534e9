use Rattle.std.proofs.Common.{◌+◌, take, Some, sym, ap, ◌∙◌, List, ℕ}
use Rattle.std.proofs.lemmas.List.{take_rest}
use Rattle.tower_codec.proofs.Cuts.{cut_on, cut_here, cut_end}
use Rattle.tower_codec.proofs.binding.split_at_mark.Goals as goal

pub returns-then-c-mark-clause-cut : goal.returns-then-c-mark-clause-cut
returns-then-c-mark-clause-cut c =
    let text = c.args.text.now in
    let i = c.loop-i.i in
    ap (λ (x : List ℕ). Some (take i text, x)) (take_rest text (i + 1)) ∙ sym (cut_here c.args.mark text i c.loop-i-test.true c.if-c-mark.true)
    ∙ c.loop-i.invariant

pub loop-i-preserved : goal.loop-i-preserved
loop-i-preserved c = cut_on c.args.mark c.args.text.now c.loop-i.i c.loop-i-test.true c.if-c-mark.false ∙ c.loop-i.invariant

pub returns-clause-cut : goal.returns-clause-cut
returns-clause-cut c = sym (cut_end c.args.mark c.args.text.now c.loop-i.i c.loop-i-test.false) ∙ c.loop-i.invariant
