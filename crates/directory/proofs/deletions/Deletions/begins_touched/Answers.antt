use Rattle.std.proofs.Common.{◌≡◌, Bool, true, false, nat_eq, refl, sym, ap, subst, ◌∙◌}
use Rattle.std.specs.Prelude.{◌&&◌, IsFalse}
use Rattle.std.specs.Cmp.Lexicographic.{pointwise, texts_ties}
use Rattle.cds_stamps.specs.Octets.{is_octets}
use Rattle.directory.specs.IndexWords.{may_undo, touches}
use Rattle.directory.specs.Updates.{change_of, changed_name}
use Rattle.directory.proofs.DeletionOrder.{neither_before}
use Rattle.directory.proofs.deletions.Deletions.begins_touched.Goals as goal

not_both : (a b : Bool) → IsFalse b → (a && b) ≡ false
not_both false b is = refl
not_both true b is = is

pub returns-then-eq : goal.returns-then-eq
returns-then-eq c = λ no d h least.
    let first = c.in-Some.first.now in
    let u = change_of c.args.update.now in
    let is = sym (neither_before d first (c.in-Some.ensures.first.1 d h) (least first c.in-Some.ensures.first.0)) in
    subst (λ d. touches u d ≡ false) is
    (not_both (is_octets first.name (changed_name u)) (may_undo u first.what) (subst IsFalse c.reaches.ensures no))

pub returns-else-eq : goal.returns-else-eq
returns-else-eq c = λ no d h least.
    let first = c.in-Some.first.now in
    let u = change_of c.args.update.now in
    let is = sym (neither_before d first (c.in-Some.ensures.first.1 d h) (least first c.in-Some.ensures.first.0)) in
    let apart : is_octets first.name (changed_name u) ≡ false =
    sym (c.eq.ensures ∙ ap (pointwise nat_eq first.name) c.name.ensures ∙ texts_ties first.name (changed_name u)) ∙ c.if-eq.false in
    subst (λ d. touches u d ≡ false) is (ap (λ b. b && may_undo u first.what) apart)
