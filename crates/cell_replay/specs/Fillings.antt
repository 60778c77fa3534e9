-- The fillings of the window through which `towers` reads.
use Rattle.std.specs.Prelude.{◌≡◌, ℕ, ◌<◌, List, [], ◌++◌, length}
use Rattle.cell_replay.specs.declared.limits.TheConstants.{TOWER_SIGHT}
use Rattle.line_forms.specs.Demand.{Demand, IsUnbroken, whole}
use Rattle.cell_replay.specs.TowerDemand.{TowersDemand}

-- this is after the whole towers of the octets: no further tower is whole, and no fault shows
pub record LeavesPart (octets part : List ℕ) : Type 0 where
  pub towers : List ℕ
  pub text : List ℕ
  pub demand : Demand
  pub split : octets ≡ towers ++ part
  pub told : TowersDemand 1 towers (whole text)
  pub demands : TowersDemand 1 octets demand
  pub no_more : demand.body ≡ text
  pub unbroken : IsUnbroken demand.verdict

-- the octets that have come where a filling begins: none yet; or after those of the filling before
-- came as many as made 1,025 with the part of a tower that was left
pub data BeginsFilling : List ℕ → Type 0 where
  AtFirst : BeginsFilling []
  Behind : {octets : List ℕ} → (part more : List ℕ) → BeginsFilling octets → LeavesPart octets part → length (part ++ more) ≡ TOWER_SIGHT
      → BeginsFilling (octets ++ more)

-- a filling began after these octets, and did not end with those that came
pub record IsUnfilled (octets came : List ℕ) : Type 0 where
  pub begins : BeginsFilling octets
  pub part : List ℕ
  pub leaves : LeavesPart octets part
  pub few : length (part ++ came) < TOWER_SIGHT
