use Rattle.std.proofs.Common.{◌∷◌, [], refl, ◌∙◌, ap}
use Rattle.std.specs.Prelude.{Err}
use Rattle.house_segments.proofs.ChainLemmas.{none_begun}
use Rattle.house_segments.proofs.segment.Segment.begin.Goals as goal

pub put_two-requires : goal.put_two-requires
put_two-requires g c =
    let o = c.in-Ok.ensures in
    record { ready = (c.args.before, [], none_begun g.D.Disk _ c.args.before o.ready.0 o.ready.1 o.none refl) }

pub returns-in-Ok-put_two-clause-ok : goal.returns-in-Ok-put_two-clause-ok
returns-in-Ok-put_two-clause-ok g c =
    let o = c.in-Ok.ensures in
    c.in-Ok-put_two.ensures.ok c.args.before [] (none_begun g.D.Disk _ c.args.before o.ready.0 o.ready.1 o.none refl)

pub returns-in-Err-put_two-clause-full : goal.returns-in-Err-put_two-clause-full
returns-in-Err-put_two-clause-full g c full =
    let o = c.in-Ok.ensures in
    c.put_two.ensures.full (c.in-Err-put_two.is ∙ ap Err full) c.args.before [] (none_begun g.D.Disk _ c.args.before o.ready.0 o.ready.1 o.none refl)
