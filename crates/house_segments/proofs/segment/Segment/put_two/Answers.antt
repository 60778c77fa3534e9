use Rattle.std.proofs.Common.{◌++◌, ◌∷◌, [], List, ℕ, ap, subst, append_assoc}
use Rattle.std.specs.Prelude.{Err, OnOk}
use Rattle.house_segments.specs.Segments.{IsAt}
use Rattle.house_segments.proofs.Sizes.{no_room_for_two, second_has_none, the_fault}
use Rattle.house_segments.proofs.segment.Segment.put_two.Goals as goal

pub returns-in_err-put-clause-full : goal.returns-in_err-put-clause-full
returns-in_err-put-clause-full g c full before bodies at =
    no_room_for_two bodies c.args.first.now c.args.second.now (c.in_err-put.ensures.large (ap Err (the_fault _ _ _ c.from_residual.ensures.1 full)) before bodies at)

pub returns-clause-ok : goal.returns-clause-ok
returns-clause-ok g c before bodies at =
    subst (λ (l : List (List ℕ)). OnOk c.put-2.result (IsAt g.D.Disk c.put-2.new.self before l))
    (append_assoc bodies (c.args.first.now ∷ []) (c.args.second.now ∷ []))
    (c.put-2.ensures.ok before (bodies ++ c.args.first.now ∷ []) (c.in_ok-put.ensures.ok before bodies at))

pub returns-clause-full : goal.returns-clause-full
returns-clause-full g c full before bodies at =
    second_has_none bodies c.args.first.now c.args.second.now
    (c.put-2.ensures.large full before (bodies ++ c.args.first.now ∷ []) (c.in_ok-put.ensures.ok before bodies at))
