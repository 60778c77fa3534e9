use Rattle.std.proofs.Common.{◌≡◌, ◌∙◌, IfOk, not, ap, subst}
use Rattle.resolver.specs.Readers.{Sight, sight_of}
use Rattle.directory.specs.Shown.{face_of}
use Rattle.cds_cell.specs.Readings.{led_sight}
use Rattle.cds_cell.proofs.EntrySights.{alive_seen, lead_readable}
use Rattle.cds_cell.proofs.reader.see_entry.Goals as goal

pub returns-then-is_none : goal.returns-then-is_none
returns-then-is_none c =
    let e = c.args.entry.now in
    let alive = alive_seen e c.args.house.0 (c.is_none.ensures ∙ ap not c.if-is_none.true) in
    subst (λ (s : Sight). IfOk c.see_led.result (λ seen. sight_of seen ≡ s)) (ap (led_sight e.kind c.args.house.0) c.lead.ensures ∙ alive) c.see_led.ensures

pub see_led-requires : goal.see_led-requires
see_led-requires c = lead_readable (face_of c.args.entry.now) _ c.lead.ensures
