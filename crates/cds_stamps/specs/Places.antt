-- Which members of a directory a mask has, by their places in the member list, counted from 0.
use Rattle.std.specs.Prelude.{ℕ, zero, suc, Bool, true, ◌&&◌, ◌==◌}
use Rattle.std.specs.Int.{bit_at}
use Rattle.cds_stamps.specs.declared.mask.MemberMask.{MemberMask}

-- the mask has the member at this place: its bit is set
abbrev pub has_place : MemberMask → ℕ → Bool
has_place mask place = bit_at mask.0 place == 1

-- the test holds at each of the first n places
abbrev pub each_place : ℕ → (ℕ → Bool) → Bool
each_place zero test = true
each_place (suc n) test = each_place n test && test n
