-- An AllUpTo that is t or later.
use Rattle.std.proofs.Common.{◌≡◌, Bool, true, false, not, cond, Option, Some, None, refl, ap, arith}
use Rattle.std.specs.Ordering.{is_lt}
use Rattle.cds_stamps.specs.declared.stamp.Stamp.{Stamp}
use Rattle.cds_stamps.specs.Semilattice.{maybe}
use Rattle.cds_stamps.specs.Stamps.{stamp_cmp, is_earlier, later_stamp}
use Rattle.cell_model.specs.Cells.{Slot, Absent, Gone, Held}
use Rattle.cell_model.specs.Sets.{IsUpTo}
use Rattle.cell_model.specs.Turns.{later_up_to}
use Rattle.cell_model.proofs.Lists.{up_to_itself, up_to_trans}
use Rattle.fair_runs.specs.Converging.{IsAllUpTo}

-- the AllUpTo of what a house has
abbrev pub up_to_of : Slot → Option Stamp
up_to_of Absent = None
up_to_of (Gone e) = None
up_to_of (Held r) = r.all_up_to

earlier_is : (u v : Stamp) → is_earlier u v ≡ true → IsUpTo u v
earlier_is u v e = grind arith

later_left : (t u v : Stamp) → IsUpTo t u → IsUpTo t (later_stamp u v)
later_left t u v low = by_test (is_lt (stamp_cmp u v)) refl
  where
    by_test : (b : Bool) → is_lt (stamp_cmp u v) ≡ b → IsUpTo t (cond b v u)
    by_test true e = up_to_trans t u v low (earlier_is u v e)
    by_test false e = low

later_right : (t u : Stamp) → IsUpTo t (later_stamp u t)
later_right t u = by_test (is_lt (stamp_cmp u t)) refl
  where
    by_test : (b : Bool) → is_lt (stamp_cmp u t) ≡ b → IsUpTo t (cond b t u)
    by_test true e = up_to_itself t
    by_test false e = ap not e

-- an AllUpTo that rises to t
pub raised : (t : Stamp) (o : Option Stamp) → IsAllUpTo t (later_up_to o t)
raised t None = up_to_itself t
raised t (Some u) = later_right t u

-- one that is joined with another
pub joined : (t : Stamp) (o p : Option Stamp) → IsAllUpTo t o → IsAllUpTo t (maybe later_stamp o p)
joined t None p low = elim low [ ]
joined t (Some u) None low = low
joined t (Some u) (Some v) low = later_left t u v low
