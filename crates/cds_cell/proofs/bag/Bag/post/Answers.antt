use Rattle.std.proofs.Common.{◌+◌, ◌<◌, ◌≤◌, ◌∷◌, drop, length, refl, sym, ap, subst, ◌∙◌}
use Rattle.std.specs.Rc.{rc_slice_items}
use Rattle.std.proofs.Math.ListN.{get_or}
use Rattle.std.proofs.lemmas.List.{drop_all, drop_more}
use Rattle.cds_cell.proofs.Bags.{PostsLetters, letters_end, letters_go_on}
use Rattle.cds_cell.proofs.bag.Bag.post.Goals as goal

pub loop-to-preserved : goal.loop-to-preserved
loop-to-preserved c =
    let all = c.args.letters.receivers.items in
    let i = c.loop-to.to-index in
    letters_go_on c.args.self.now c.loop-to.self c.post_one.new.self c.args.serials.now c.loop-to.serials c.post_one.new.serials
    (rc_slice_items c.in_ok-shared.shared) all (drop (i + 1) all) _ _ c.in_ok-post_one.ensures refl c.in_ok-clone.ensures.cases
    (subst (PostsLetters c.args.self.now c.loop-to.self c.args.serials.now c.loop-to.serials (rc_slice_items c.in_ok-shared.shared) all)
    (drop_more all i (record { 0 = 0 }) (subst (λ xs. i < length xs) c.deref-to-items.ensures.value c.loop-to-test.true)
    ∙ ap (λ xs. get_or xs i (record { 0 = 0 }) ∷ drop (i + 1) all) (sym c.deref-to-items.ensures.value))
    c.loop-to.invariant)

pub returns : goal.returns
returns c = λ ps are.
    let all = c.args.letters.receivers.items in
    let i = c.loop-to.to-index in
    letters_end c.args.self.now c.loop-to.self c.args.serials.now c.loop-to.serials (rc_slice_items c.in_ok-shared.shared) all c.args.letters ps
    (subst (PostsLetters c.args.self.now c.loop-to.self c.args.serials.now c.loop-to.serials (rc_slice_items c.in_ok-shared.shared) all)
    (drop_all i all (subst (λ xs. length xs ≤ i) c.deref-to-items.ensures.value c.loop-to-test.false)) c.loop-to.invariant)
    c.in_ok-shared.ensures refl are
