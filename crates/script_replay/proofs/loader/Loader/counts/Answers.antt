use Rattle.std.proofs.Common.{◌∙◌, ap, refl}
use Rattle.std.specs.Option.{option_map_or}
use Rattle.directory.specs.Shown.{live_count}
use Rattle.cds_cell.specs.ModelCells.{Stands}
use Rattle.script_replay.specs.Loading.{values_shown}
use Rattle.script_replay.proofs.loader.Loader.counts.Goals as goal

pub returns : goal.returns
returns c g s =
    let stands : Stands c.cell.result.now g = rw c.cell.ensures s in
    let table = c.first_table.ensures g stands in
    record {
      commands = refl;
      accepted = refl;
      complete = refl;
      live = c.in_ok-live.ensures.live ∙ ap (λ o. option_map_or live_count o 0) table;
      values = c.in_ok-live.ensures.values ∙ ap (λ o. option_map_or values_shown o 0) table;
    }
