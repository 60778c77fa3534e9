-- What is said to a question: an answer, or updates.
use Rattle.std.specs.Prelude.{◌≡◌, true, Ok}
use Rattle.std.specs.Option.{option_map}
use Rattle.cell_model.specs.Cells as model
use Rattle.cds_cell.specs.declared.cell.Cell.{Cell}
use Rattle.cds_cell.specs.CellHouses.{is_up_state}
use Rattle.cds_cell.specs.ModelCells.{house_of}
use Rattle.ns_commands.specs.Asks.{changes_in}
use Rattle.script_replay.specs.declared.said.Reply.{Reply}
use Rattle.script_replay.specs.declared.said.Reply.TheVariants as reply
use Rattle.script_replay.specs.Replies.{Said, does, says}

-- what the program says to a question is what the model says: the answer, or what becomes of the
-- updates
abbrev pub IsSaid : Reply → model.Cell → Said → Type 0
IsSaid (reply.Answer a) g said = said ≡ says a
IsSaid (reply.Updates u) g said = said ≡ does g (Ok (changes_in u))

-- updates are asked for at a house that is up
abbrev pub ActsAtUp : Reply → Cell → Type 0
ActsAtUp (reply.Answer a) c = Unit {0}
ActsAtUp (reply.Updates u) c = is_up_state (option_map (λ h. h.state) (house_of c.houses.items u.house.0)) ≡ true
