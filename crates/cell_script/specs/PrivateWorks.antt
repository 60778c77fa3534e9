-- Words of private contracts: the bounds of what an iterator over the script of `load` keeps.
use Rattle.std.specs.Prelude.{◌≡◌, ℕ, ◌+◌, ◌*◌, ◌^◌, ◌≤◌, ◌<◌, Bool, true, nat_le, nat_lt, IsTrue}
use Rattle.cell_script.specs.declared.work.Work.{Work}
use Rattle.cell_script.specs.declared.work.Work.TheVariants as part

-- a part names an entry that there is, and houses up to the last, or the root after it
abbrev pub is_work : Work → Bool
is_work (part.Houses h) = nat_le h 4
is_work (part.Create k) = nat_lt k 16
is_work (part.Add k v) = nat_lt k 16
is_work (part.Remove k v) = nat_lt k 16
is_work (part.Renew k) = nat_lt k 16
is_work part.Skulk = true
is_work part.Nothing = true

-- the numbers of messages are small
pub record IsFates (deliver step deliveries lose losses : ℕ) : Type 0 where
  pub near : step ≤ 2
  pub delivered : deliver + 2 * deliveries ≤ 2 ^ 32
  pub lost : lose + losses ≤ 2 ^ 32

-- the serial number of the next message is at most this: after the two first messages, two for each
-- entry, and 14 for each round with its skulk
abbrev pub most_serial : (entries round : ℕ) → ℕ
most_serial entries round = 3 + 2 * entries + 14 * round

-- the numbers of a place are within their bounds
pub record IsPlace (rounds round draw serial entries : ℕ) (skulk_is_due : Bool) (work : Work) : Type 0 where
  pub few_rounds : rounds ≤ 20000
  pub begun : round ≤ rounds
  pub few_entries : entries ≤ 16
  pub small : draw < 2147483648
  pub few_messages : serial ≤ most_serial entries round
  pub room_for_skulk : skulk_is_due ≡ true → serial + 10 ≤ most_serial entries round
  pub sound : IsTrue (is_work work)
