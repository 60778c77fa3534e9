use Rattle.std.proofs.Common.{true}
use Rattle.cds_cell.specs.Accepting.{ShowsAsMaster}
use Rattle.cds_cell.specs.Readings.{cell_reader}
use Rattle.cds_cell.specs.Telling.{program_reader}
use Rattle.cds_cell.proofs.AskedHouses.{IsUpAt, asked_shows_as_master, seen_as_master, seen_up}
use Rattle.cds_cell.proofs.WalkSights.{ends_where}
use Rattle.cds_cell.proofs.laws.asked_houses_accept.Goals as goal

pub returns-clause-asked : goal.returns-clause-asked
returns-clause-asked c g prefer d houses a is n = asked_shows_as_master g prefer d houses a is n

pub returns-clause-placed : goal.returns-clause-placed
returns-clause-placed c g prefer name at is =
    (ends_where (cell_reader g prefer true) (ShowsAsMaster g)
    (seen_as_master c.accepted_updates_lead.ensures.led c.accepted_updates_lead.ensures.read g prefer)
    (c.walks_end.ensures (cell_reader g prefer true) true name)).1 at is

pub returns-clause-found : goal.returns-clause-found
returns-clause-found c g prefer last name f is =
    (ends_where (cell_reader g prefer true) (ShowsAsMaster g)
    (seen_as_master c.accepted_updates_lead.ensures.led c.accepted_updates_lead.ensures.read g prefer)
    (c.walks_end.ensures (cell_reader g prefer true) last name)).0 f is

pub returns-clause-placed_up : goal.returns-clause-placed_up
returns-clause-placed_up c cell prefer high name at is =
    (ends_where (program_reader cell prefer high) (λ h d n k. IsUpAt cell h) (seen_up cell prefer high) (c.walks_end.ensures (program_reader cell prefer high) true name)).1 at is

pub returns-clause-found_up : goal.returns-clause-found_up
returns-clause-found_up c cell prefer high last name f is =
    (ends_where (program_reader cell prefer high) (λ h d n k. IsUpAt cell h) (seen_up cell prefer high) (c.walks_end.ensures (program_reader cell prefer high) last name)).0 f is
