use Rattle.std.proofs.Common.{◌≡◌, [], ◌∷◌, ◌++◌, List, ℕ, Option, refl, subst, arith}
use Rattle.std.specs.Prelude.{IfSome}
use Rattle.cell_runs.specs.Views.{image_in}
use Rattle.cell_model.specs.Commands.{House}
use Rattle.cell_model.specs.Steps.{replay}
use Rattle.std.proofs.lemmas.Option.{slice_get_past, slice_get_read}
use Rattle.cds_explain.proofs.AddingLemmas.{fault_anyhow}
use Rattle.cds_explain.proofs.MakingLemmas.{made_more, made_other, made_past, makes_only}
use Rattle.cds_explain.proofs.making.make_house.Goals as goal

pub returns-then-place-logs-clause-done : goal.returns-then-place-logs-clause-done
returns-then-place-logs-clause-done c = λ places made.
    made_past c.args.replay.now c.args.logs.now places c.args.place made (slice_get_past c.args.logs.now c.args.place (omega arith))

pub returns-clause-done : goal.returns-clause-done
returns-clause-done c = λ places made.
    let logs = c.args.logs.now in
    let log = c.index-logs-place.result in
    let does = c.in_ok-make.ensures.done made.cs made.has_done in
    made_more c.args.replay.now c.make.new.self logs places c.args.place log made
    (slice_get_read logs _ c.args.place log refl (omega arith) c.index-logs-place.is) c.in_default.ensures.house does
    (subst (λ (o : Option (List ℕ)). IfSome o (λ i. image_in (replay (made.cs ++ House log.house.0 log.node ∷ [])) log.house.0 ≡ i)) c.as_ref.ensures.value
    (c.in_ok-compare_shown.ensures.same (replay (made.cs ++ House log.house.0 log.node ∷ [])) does.has_done.stands))

pub returns-in_err-compare_shown-clause-stopped : goal.returns-in_err-compare_shown-clause-stopped
returns-in_err-compare_shown-clause-stopped c = λ places made.
    let logs = c.args.logs.now in
    let new = c.make.new.self in
    let does = c.in_ok-make.ensures.done made.cs made.has_done in
    let h = made_other c.args.replay.now new logs places _ _ made does in
    fault_anyhow c.from_residual-in_err-compare_shown.result (λ cause. makes_only new new logs places h refl)
