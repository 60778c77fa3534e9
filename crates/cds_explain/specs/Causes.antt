-- What has to be so of a cell where an entry cannot be next.
use Rattle.std.specs.Prelude.{◌≡◌, ◌+◌, ◌≤◌, ◌<◌}
use Rattle.cds_stamps.specs.declared.numbers.DirId.{DirId}
use Rattle.cds_stamps.specs.declared.numbers.EpochNo.{EpochNo}
use Rattle.cell_model.specs.Cells.{Cell}
use Rattle.house_lines.specs.declared.line.HouseOrder.{HouseOrder}
use Rattle.house_lines.specs.declared.line.HouseOrder.TheVariants as order
use Rattle.cds_explain.specs.declared.cause.Cause.{Cause}
use Rattle.cds_explain.specs.declared.cause.Cause.TheVariants as cause

-- a root is there
abbrev pub HindersRoot : Cell → Cause → Type 0
HindersRoot g cause.SecondRoot = 1 ≤ g.top 1
HindersRoot g other = ⊥

-- another directory is the next one, or there is no root yet
abbrev pub HindersMkdir : Cell → (made : DirId) → Cause → Type 0
HindersMkdir g made (cause.MadeBefore d) = (d ≡ made) × (made.0 < g.next_dir)
HindersMkdir g made (cause.DirectoryLater d next) =
    (d ≡ made) × (next ≡ g.next_dir) × (g.next_dir ≡ made.0 → g.top 1 ≡ 0) × (g.next_dir ≤ made.0)
HindersMkdir g made other = ⊥

-- the last epoch of the directory is not the one before
abbrev pub HindersEpoch : Cell → DirId → EpochNo → Cause → Type 0
HindersEpoch g d k (cause.EpochAfter e last) =
    (e ≡ k) × (last.0 ≡ g.top d.0) × (k.0 ≤ g.top d.0)
HindersEpoch g d k (cause.EpochLater e last) =
    (e ≡ k) × (last.0 ≡ g.top d.0) × (g.top d.0 < k.0) × (g.top d.0 + 1 ≡ k.0 → g.top d.0 ≡ 0)
HindersEpoch g d k other = ⊥

-- no message was found
abbrev pub HindersTake : Cause → Type 0
HindersTake cause.NotPosted = Unit {0}
HindersTake other = ⊥

-- why an order cannot be next in this cell
abbrev pub Hinders : Cell → HouseOrder → Cause → Type 0
Hinders g (order.Root ls) c = HindersRoot g c
Hinders g (order.Mkdir d n made ls) c = HindersMkdir g made c
Hinders g (order.Epoch d k list) c = HindersEpoch g d k c
Hinders g (order.Take octets) c = HindersTake c
Hinders g other c = ⊥
