use Rattle.cell_replay.proofs.TowerTurns.{unread_towers}
use Rattle.cell_replay.proofs.towers.print_towers.Goals as goal

pub returns-in-Err : goal.returns-in-Err
returns-in-Err g c = unread_towers _ _ _ _
