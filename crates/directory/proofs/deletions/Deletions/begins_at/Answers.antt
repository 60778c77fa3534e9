use Rattle.std.proofs.Common.{◌≡◌, true, nat_eq, ap, sym, ◌∙◌, arith}
use Rattle.std.specs.Cmp.Lexicographic.{pointwise, texts_ties}
use Rattle.directory.proofs.DeletionOrder.{neither_before}
use Rattle.directory.proofs.FragmentLaws.{same_octets}
use Rattle.directory.proofs.deletions.Deletions.begins_at.Goals as goal

pub returns-in-Some : goal.returns-in-Some
returns-in-Some c = λ no d h least same.
    let first = c.in-Some.first.now in
    let n = c.args.name.now in
    let own : first.name ≡ n = ap (λ d. d.name) (sym (neither_before d first (c.in-Some.ensures.first.1 d h) (least first c.in-Some.ensures.first.0))) ∙ same in
    let yes : c.eq.result ≡ true = c.eq.ensures ∙ ap (λ m. pointwise nat_eq m n) own ∙ texts_ties n n ∙ same_octets n in
    grind (arith, no, yes)
