-- From every state a skulk can complete: the commands that bring it about, and what they leave
-- (own, after C705, skulks and new epochs).
use Rattle.std.specs.Prelude.{◌≡◌, ℕ, zero, suc, ◌+◌, ◌*◌, ◌≤◌, true, if◌then◌else◌, List, [], ◌∷◌, ◌++◌, length, Some, None}
use Rattle.cds_stamps.specs.declared.stamp.Stamp.{Stamp}
use Rattle.cds_stamps.specs.Members.{Member, master_of, others_of, is_listed, secondaries_of}
use Rattle.cell_model.specs.Cells.{Idle, Replica, Cell, IsHeld}
use Rattle.cell_model.specs.Commands.{Command, Epoch, Skulk, Deliver, Start, Answer, Done, Stamped, NewEpoch, Taken, Complete}
use Rattle.cell_model.specs.Sets.{In}
use Rattle.cell_model.specs.Turns.{stamp_at}
use Rattle.cell_model.specs.Steps.{is_down, outcome, replay_from, replay, answers_from, accepted_updates}
use Rattle.cell_model.specs.Agreement.{place_of, Agrees}

-- ---- the commands

-- `start` for each of these houses that is down (own)
abbrev pub start_commands : Cell → List Member → List Command
start_commands g [] = []
start_commands g (y ∷ ys) = if is_down g y.house then Start y.house ∷ start_commands g ys else start_commands g ys

-- `deliver` for so many messages, one after the other, after the first ones (own)
abbrev pub deliver_commands : (first count : ℕ) → List Command
deliver_commands first zero = []
deliver_commands first (suc n) = Deliver (first + 1) ∷ deliver_commands (first + 1) n

-- a skulk of the directory at its master m, and each message that its steps post, as it is posted,
-- after the first ones: a Gather for each of so many other houses, their answers, a Spread for each
-- of them, and their answers (own)
abbrev pub skulk_commands : (m d first others : ℕ) → List Command
skulk_commands m d first others = Skulk m d ∷ deliver_commands first (4 * others)

-- a skulk of the directory, in a cell in which the houses of the console's present list have that
-- list already (own)
abbrev pub skulking_at : Cell → ℕ → List Command
skulking_at g d =
    let m : ℕ = master_of (g.present d) in
    skulk_commands m d (length g.bag) (length (others_of m (g.present d)))

-- what mends a directory: the houses of the console's present list are started, get an epoch with
-- the same master and the same houses of the same kinds, take its Joins, and then the master's
-- skulk completes (own)
abbrev pub mend_commands : Cell → ℕ → List Command
mend_commands g d =
    let m : ℕ = master_of (g.present d) in
    let rs : List ℕ = others_of m (g.present d) in
    start_commands g (g.present d) ++ Epoch d m rs (secondaries_of (g.present d))
    ∷ (deliver_commands (length g.bag) (length rs) ++ skulk_commands m d (length g.bag + length rs) (length rs))

-- ---- what they leave

-- the command was not refused and not in vain: a house is up, a new epoch was taken, a message was
-- taken, a skulk began, or completed (own)
abbrev pub HasWorked : Answer → Type 0
HasWorked Done = Unit {0}
HasWorked (NewEpoch e ns) = Unit {0}
HasWorked (Taken ns) = Unit {0}
HasWorked (Stamped s ns) = Unit {0}
HasWorked (Complete t ns) = Unit {0}
HasWorked _ = ⊥

-- from the cell g on each of the commands works, and the last one completes the skulk t of the
-- directory d at the house h (own)
pub record Completes (g : Cell) (h d : ℕ) (commands : List Command) (t : Stamp) : Type 0 where
  pub works : (a : Answer) → In a (answers_from g commands) → HasWorked a
  pub early : List Command
  pub last : Command
  pub serials : List ℕ
  pub parts : early ++ last ∷ [] ≡ commands
  pub place : place_of (replay_from g early) last ≡ Some (h, d)
  pub answer : (outcome (replay_from g early) last).answer ≡ Complete t serials

-- each house of the list holds the directory at this epoch (own)
abbrev pub IsHeldBy : Cell → (d k : ℕ) → List Member → Type 0
IsHeldBy g d k ms = (x : ℕ) → is_listed x ms ≡ true → (q : Replica) × IsHeld g x d q × (q.epoch ≡ k)

-- no skulk of it runs there (own)
abbrev pub IsIdleBy : Cell → ℕ → List Member → Type 0
IsIdleBy g d ms = (x : ℕ) (q : Replica) → is_listed x ms ≡ true → IsHeld g x d q → q.phase ≡ Idle

-- and each of them agrees up to t with all the updates that the master has (own)
pub record IsAgreedBy (commands : List Command) (d : ℕ) (t : Stamp) (ms : List Member) : Type 0 where
  pub replica : Replica
  pub held : IsHeld (replay commands) (master_of ms) d replica
  pub agree : (x : ℕ) (q : Replica) → is_listed x ms ≡ true → IsHeld (replay commands) x d q
      → Agrees d t (accepted_updates commands) (accepted_updates commands) replica.history x q

-- each house of the console's present list is up, and holds the directory at the console's last
-- epoch (own)
pub record IsReady (g : Cell) (d : ℕ) : Type 0 where
  pub known : 1 ≤ g.top d
  pub up : (x : ℕ) → is_listed x (g.present d) ≡ true → (g.house x).up ≡ true
  pub held : IsHeldBy g d (g.top d) (g.present d)

-- after these commands others complete the skulk t. Then each house of the list has epoch k, runs
-- no skulk, and agrees up to t (own)
pub record IsSettled (commands next : List Command) (d k : ℕ) (t : Stamp) (ms : List Member) : Type 0 where
  pub completes : Completes (replay commands) (master_of ms) d next t
  pub held : IsHeldBy (replay (commands ++ next)) d k ms
  pub idle : IsIdleBy (replay (commands ++ next)) d ms
  pub agreed : IsAgreedBy (commands ++ next) d t ms

-- where the houses of the console's present list are ready, a skulk and its messages are enough.
-- The stamp is the one that the master has next (own)
abbrev pub SkulkCompletes : List Command → ℕ → Type 0
SkulkCompletes commands d =
    let g : Cell = replay commands in
    (t : Stamp) → IsReady g d → stamp_at (g.house (master_of (g.present d))) ≡ Some t → IsSettled commands (skulking_at g d) d (g.top d) t (g.present d)

-- what mends a directory does, wherever the master of the console's present list has a stamp left:
-- it is the skulk's, and the epoch is the next one. For n houses there are at most 6 n - 3 commands
-- (own)
pub record IsMended (commands : List Command) (d : ℕ) (t : Stamp) : Type 0 where
  pub settled : IsSettled commands (mend_commands (replay commands) d) d ((replay commands).top d + 1) t ((replay commands).present d)
  pub few : length (mend_commands (replay commands) d) + 3 ≤ 6 * length ((replay commands).present d)

-- so no state is stuck (own)
abbrev pub IsNeverStuck : List Command → ℕ → Type 0
IsNeverStuck commands d =
    let g : Cell = replay commands in
    (t : Stamp) → 1 ≤ g.top d → stamp_at (g.house (master_of (g.present d))) ≡ Some t → IsMended commands d t

-- but the stamp is needed: where the master has none left, its skulk is refused (own)
abbrev pub NeedsStamp : List Command → ℕ → Type 0
NeedsStamp commands d =
    let g : Cell = replay commands in
    let m : ℕ = master_of (g.present d) in
    (t : Stamp) → 1 ≤ g.top d → stamp_at (g.house m) ≡ None → Completes g m d (mend_commands g d) t → ⊥
