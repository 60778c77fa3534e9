-- Houses that are gone for good are left out of a directory: who is its master then, the commands
-- that bring it about, and what they leave.
use Rattle.std.specs.Prelude.{◌≡◌, ℕ, ◌+◌, ◌*◌, ◌≤◌, true, ◌&&◌, not, ◌==◌, nat_lt, nat_le, if◌then◌else◌, List, [], ◌∷◌, ◌++◌, length, Option, Some, None}
use Rattle.std.specs.Option.{option_map}
use Rattle.cds_stamps.specs.declared.members.MemberKind.TheVariants.{Master}
use Rattle.cds_stamps.specs.declared.stamp.Stamp.{Stamp}
use Rattle.cds_stamps.specs.Members.{Member, master_of, others_of, is_listed, secondaries_of, since_in}
use Rattle.cell_model.specs.Cells.{Slot, Absent, Gone, Held, Cell}
use Rattle.cell_model.specs.Commands.{Command, Epoch}
use Rattle.cell_model.specs.Mending.{IsSettled, deliver_commands, skulk_commands, start_commands}
use Rattle.cell_model.specs.Sets.{has}
use Rattle.cell_model.specs.Steps.{member_list_of, replay}
use Rattle.cell_model.specs.Turns.{stamp_at}

-- ---- who is master

-- a house that could be master, and the epoch that it holds
pub record Candidate : Type 0 where
  pub house : ℕ
  pub epoch : ℕ

-- the epoch of what a house holds, if that is a replica of this epoch or a later one
abbrev pub held_since : Slot → ℕ → Option ℕ
held_since Absent since = None
held_since (Gone e) since = None
held_since (Held r) since = if nat_le since r.epoch then Some r.epoch else None

-- a member could be master if it stays, and holds the directory at its `since` or later
abbrev pub candidate_of : Cell → (d : ℕ) → (hs : List ℕ) → Member → Option Candidate
candidate_of g d hs y =
    if has y.house hs then None
    else option_map (λ k. record { house = y.house; epoch = k }) (held_since ((g.house y.house).slots d) y.since)

-- the one that holds a later epoch; of two at one epoch, the first
abbrev pub better : Option Candidate → Option Candidate → Option Candidate
better None other = other
better (Some b) None = Some b
better (Some b) (Some c) = if nat_lt b.epoch c.epoch then Some c else Some b

-- the best of these members and of the one so far
abbrev pub best_of : Cell → (d : ℕ) → (hs : List ℕ) → Option Candidate → List Member → Option Candidate
best_of g d hs so_far [] = so_far
best_of g d hs so_far (y ∷ ys) = best_of g d hs (better so_far (candidate_of g d hs y)) ys

-- the master of a directory without these houses: as before, if that one stays; else the member
-- whose held epoch is the latest, and of those the one of the lowest number; or none
abbrev pub new_master : Cell → (d : ℕ) → (hs : List ℕ) → Option ℕ
new_master g d hs =
    if has (master_of (g.present d)) hs then option_map (λ (c : Candidate). c.house) (best_of g d hs None (g.present d))
    else Some (master_of (g.present d))

-- ---- the commands

-- the members that are none of these houses, with m as their master
abbrev pub kept_members : (hs : List ℕ) → (m : ℕ) → List Member → List Member
kept_members hs m [] = []
kept_members hs m (y ∷ ys) =
    if has y.house hs then kept_members hs m ys
    else record y { kind = if y.house == m then Master else y.kind } ∷ kept_members hs m ys

-- the list of the next epoch, without these houses
abbrev pub smaller_list : Cell → (d : ℕ) → (hs : List ℕ) → (m : ℕ) → List Member
smaller_list g d hs m =
    let kept : List Member = kept_members hs m (g.present d) in
    member_list_of (g.present d) (g.top d + 1) m (others_of m kept) (secondaries_of kept)

-- the houses that stay are started, get an epoch without the others, take its Joins, and then the
-- skulk of the master m completes. The epoch posts a message to each house of the old list but m:
-- the Leaves stand after the Joins, and are not delivered
abbrev pub leaving_commands : Cell → (d : ℕ) → (hs : List ℕ) → (m : ℕ) → List Command
leaving_commands g d hs m =
    let kept : List Member = kept_members hs m (g.present d) in
    let rs : List ℕ = others_of m kept in
    start_commands g kept ++ Epoch d m rs (secondaries_of kept)
    ∷ (deliver_commands (length g.bag) (length rs) ++ skulk_commands m d (length g.bag + length (others_of m (g.present d))) (length rs))

-- ---- what they leave

-- what leaves houses out does: the skulk t completes, and each house of the smaller list agrees up
-- to t. That list has the houses of the old one but for those that are left out, each in its term,
-- and m is its master. For n houses that stay there are at most 6 n - 3 commands
pub record IsLeftOut (commands : List Command) (d : ℕ) (hs : List ℕ) (m : ℕ) (t : Stamp) : Type 0 where
  pub settled : (let g : Cell = replay commands in
      IsSettled commands (leaving_commands g d hs m) d (g.top d + 1) t (smaller_list g d hs m))
  pub master : master_of (smaller_list (replay commands) d hs m) ≡ m
  pub houses : (x : ℕ) → is_listed x (smaller_list (replay commands) d hs m) ≡ (is_listed x ((replay commands).present d) && not (has x hs))
  pub terms : (x : ℕ) → is_listed x (smaller_list (replay commands) d hs m) ≡ true
      → since_in (smaller_list (replay commands) d hs m) x 0 ≡ since_in ((replay commands).present d) x 0
  pub few : length (leaving_commands (replay commands) d hs m) + 3 ≤ 6 * length (smaller_list (replay commands) d hs m)

-- so any houses can be left out, wherever one that stays can be master and has a stamp left
abbrev pub LeavesOut : List Command → (d : ℕ) → (hs : List ℕ) → Type 0
LeavesOut commands d hs =
    let g : Cell = replay commands in
    (m : ℕ) (t : Stamp) → 1 ≤ g.top d → new_master g d hs ≡ Some m → stamp_at (g.house m) ≡ Some t → IsLeftOut commands d hs m t
