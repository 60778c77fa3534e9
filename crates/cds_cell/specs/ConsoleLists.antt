-- What a console lists of a directory.
use Rattle.std.specs.Prelude.{◌≡◌, ℕ, ◌≤◌, List}
use Rattle.cds_stamps.specs.Members.{Member}
use Rattle.cell_model.specs.Cells.{Cell}

-- this is the last epoch of the directory, and this its present list
pub record IsListed (g : Cell) (d k : ℕ) (ms : List Member) : Type 0 where
  pub some : 1 ≤ k
  pub top : g.top d ≡ k
  pub present : g.present d ≡ ms
