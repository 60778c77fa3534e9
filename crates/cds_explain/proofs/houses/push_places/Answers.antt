use Rattle.std.proofs.Common.{◌≡◌, ◌∷◌, ◌++◌, [], ◌<◌, ℕ, refl, inl, sym, subst, arith, rules}
use Rattle.std.proofs.lemmas.Option.{slice_get_read, slice_get_within}
use Rattle.cell_model.specs.Sets.{In}
use Rattle.cell_model.proofs.Lists.{In-append_left, In-append_right}
use Rattle.cds_explain.proofs.PlaceLemmas.{each_more}
use Rattle.cds_explain.proofs.houses.push_places.Goals as goal
use Rattle.cds_explain.proofs.houses.push_places.Goals.{then-from-number+in_ok-push, else-from-number}

pub loop-place-preserved : goal.loop-place-preserved
loop-place-preserved c =
    let logs = c.args.logs.now in
    let place = c.loop-place.place in
    let log = c.index-logs-place.result in
    let old = c.loop-place.places.items in
    let new = c.if-from-number.places.items in
    let inv = c.loop-place.invariant in
    let there = slice_get_read logs _ place log refl (omega arith) c.index-logs-place.is in
    let fits : log.house.0 < 256 = search rules in
    let fit = each_more (λ i l. l.house.0 < 256) logs place log there fits inv.fits in
    elim c.if-from-number.branch [
      | then-from-number+in_ok-push w ↦
          let pushed : new ≡ old ++ place ∷ [] = cc (w.in_ok-push.ensures.items, w.places-is) in
          let keeps = λ (i : ℕ) (here : In i old). subst (In i) (sym pushed) (In-append_left i old (place ∷ []) here) in
          record {
            kept = λ i here. keeps i (inv.kept i here);
            found =
                each_more (λ i l. l.house.0 ≡ c.args.number → In i new) logs place log there
                (λ same. subst (In place) (sym pushed) (In-append_right place old (place ∷ []) (inl refl)))
                (λ i l lt is same. keeps i (inv.found i l lt is same));
            fits = fit;
          }
      | else-from-number w ↦
          let same : old ≡ new = cc (w.places-is) in
          let keeps = λ (i : ℕ) (here : In i old). subst (In i) same here in
          record {
            kept = λ i here. keeps i (inv.kept i here);
            found =
                each_more (λ i l. l.house.0 ≡ c.args.number → In i new) logs place log there
                (λ is. absurd (w.if-from-number.false (cc (c.from.ensures, is))))
                (λ i l lt is same. keeps i (inv.found i l lt is same));
            fits = fit;
          }
    ]

pub returns-clause-found : goal.returns-clause-found
returns-clause-found c = λ i log is same.
    let lt = slice_get_within c.args.logs.now i log is in
    c.loop-place.invariant.found i log (omega (arith, lt)) is same

pub returns-clause-fits : goal.returns-clause-fits
returns-clause-fits c = λ i log is.
    let lt = slice_get_within c.args.logs.now i log is in
    c.loop-place.invariant.fits i log (omega (arith, lt)) is
