-- The two rounds of a skulk at its master: what each call answers and leaves (own, after C705,
-- skulks).
use Rattle.std.specs.Prelude.{◌≡◌, ℕ, ◌≤◌, Bool, true, false, ◌||◌, ◌==◌, MatchBool, Option, Some, None}
use Rattle.cds_stamps.specs.declared.stamp.Stamp.{Stamp}
use Rattle.cds_stamps.specs.Stamps.{is_stamp}
use Rattle.cds_stamps.specs.declared.mask.MemberMask.{MemberMask}
use Rattle.skulk_core.specs.declared.skulk.Skulk.{Skulk}
use Rattle.skulk_core.specs.declared.skulk.Skulk.TheVariants.{Idle, Gathering, Spreading}
use Rattle.skulk_core.specs.declared.skulk.Next.{Next}
use Rattle.skulk_core.specs.declared.skulk.Next.TheVariants.{Nothing, Stale, SendSpread, Complete}
use Rattle.cds_stamps.specs.Places.{has_place, each_place}

-- ---- sets of places

-- the member at this place alone (own)
abbrev pub only : ℕ → ℕ → Bool
only place p = p == place

-- those that answered, and the member at this place (own)
abbrev pub also : MemberMask → ℕ → ℕ → Bool
also mask place p = has_place mask p || p == place

-- ---- phases

-- the stamp of the skulk that runs (own)
abbrev pub running_stamp : Skulk → Option Stamp
running_stamp Idle = None
running_stamp (Gathering t answered) = Some t
running_stamp (Spreading t answered) = Some t

-- the first round of t runs, and the test says which members have answered in it (own, after C705,
-- skulks)
pub record IsGathering (t : Stamp) (test : ℕ → Bool) (s : Skulk) : Type 0 where
  pub mask : MemberMask
  pub round : s ≡ Gathering t mask
  pub places : (p : ℕ) → has_place mask p ≡ test p

-- the second round of t runs, and the test says which members have answered in it (own, after C705,
-- skulks)
pub record IsSpreading (t : Stamp) (test : ℕ → Bool) (s : Skulk) : Type 0 where
  pub mask : MemberMask
  pub round : s ≡ Spreading t mask
  pub places : (p : ℕ) → has_place mask p ≡ test p

-- ---- calls

-- a skulk begins: at the only member it is complete; else its first round runs, and the master
-- alone has answered (own, after C705, skulks)
abbrev pub Begins : Stamp → (members me : ℕ) → (new : Skulk) → Next → Type 0
Begins t members me new next =
    MatchBool (members == 1) ((new ≡ Idle) × (next ≡ Complete t)) (IsGathering t (only me) new × (next ≡ Nothing))

-- an answer to a skulk that does not run changes nothing (own, after C705, skulks)
abbrev pub IsStale : (old new : Skulk) → Next → Type 0
IsStale old new next = (new ≡ old) × (next ≡ Stale (running_stamp old))

-- an answer of the other round of the skulk that runs changes nothing (own)
abbrev pub Waits : (old new : Skulk) → Next → Type 0
Waits old new next = (new ≡ old) × (next ≡ Nothing)

-- an answer of the first round: the last one missing begins the second, in which the master alone
-- has answered (own, after C705, skulks)
abbrev pub Gathers : Stamp → MemberMask → (from members me : ℕ) → (new : Skulk) → Next → Type 0
Gathers t answered from members me new next =
    MatchBool (each_place members (also answered from))
    (IsSpreading t (only me) new × (next ≡ SendSpread))
    (IsGathering t (also answered from) new × (next ≡ Nothing))

-- an answer of the second round: the last one missing completes the skulk (own, after C705, skulks)
abbrev pub Spreads : Stamp → MemberMask → (from members : ℕ) → (new : Skulk) → Next → Type 0
Spreads t answered from members new next =
    MatchBool (each_place members (also answered from))
    ((new ≡ Idle) × (next ≡ Complete t))
    (IsSpreading t (also answered from) new × (next ≡ Nothing))

-- an answer to the first round of t, by what runs (own, after C705, skulks)
abbrev pub TakesGathered : Stamp → (from members me : ℕ) → (old new : Skulk) → Next → Type 0
TakesGathered t from members me Idle new next = IsStale Idle new next
TakesGathered t from members me (Gathering u answered) new next =
    MatchBool (is_stamp t u) (Gathers u answered from members me new next) (IsStale (Gathering u answered) new next)
TakesGathered t from members me (Spreading u answered) new next =
    MatchBool (is_stamp t u) (Waits (Spreading u answered) new next) (IsStale (Spreading u answered) new next)

-- an answer to the second round of t, by what runs (own, after C705, skulks)
abbrev pub TakesSpread : Stamp → (from members : ℕ) → (old new : Skulk) → Next → Type 0
TakesSpread t from members Idle new next = IsStale Idle new next
TakesSpread t from members (Gathering u answered) new next =
    MatchBool (is_stamp t u) (Waits (Gathering u answered) new next) (IsStale (Gathering u answered) new next)
TakesSpread t from members (Spreading u answered) new next =
    MatchBool (is_stamp t u) (Spreads u answered from members new next) (IsStale (Spreading u answered) new next)

-- ---- what every phase keeps

-- a round of so many members: no others have answered, the master has, and a member is missing
-- (own)
pub record IsRound (members me : ℕ) (answered : MemberMask) : Type 0 where
  pub no_others : (p : ℕ) → members ≤ p → has_place answered p ≡ false
  pub master : has_place answered me ≡ true
  pub missing : each_place members (has_place answered) ≡ false

-- the phase of a skulk of so many members at the master at this place (own)
abbrev pub IsPhaseOf : (members me : ℕ) → Skulk → Type 0
IsPhaseOf members me Idle = Unit {0}
IsPhaseOf members me (Gathering t answered) = IsRound members me answered
IsPhaseOf members me (Spreading t answered) = IsRound members me answered
