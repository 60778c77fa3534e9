use Rattle.std.proofs.Common.{refl}
use Rattle.cds_explain.proofs.ExplainerLemmas.{round_next, round_whole}
use Rattle.cds_explain.proofs.explainer.Explainer.go_round.Goals as goal

pub loop-place-preserved : goal.loop-place-preserved
loop-place-preserved c =
    let logs = c.args.logs.now in
    let order = c.args.order.now in
    let old = c.loop-place.self in
    let new = c.go_on.new.self in
    let now = c.in_ok-next.ensures in
    record {
      explained = now.explained;
      whole =
          λ none.
          let both = c.and-going.ensures.none none in
          round_whole old new logs order c.loop-place.place-index _ c.loop-place-test.true refl now.others (now.whole both.1) (c.loop-place.invariant.whole both.0);
      next =
          λ went.
          let both = c.and-going.ensures.went went in
          round_next old new logs _ c.and-going.result.stopped c.loop-place.going.stopped c.in_ok-next.next.stopped now.others (now.still both.1)
          c.and-going.ensures.one (c.loop-place.invariant.next both.0) now.next;
    }
