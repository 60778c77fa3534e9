-- What the replicas of a directory agree on once a skulk is complete (own, after C705, the meaning
-- of AllUpTo).
use Rattle.std.specs.Prelude.{◌≡◌, ℕ, ◌≤◌, ◌↔◌, true, false, List, [], ◌∷◌, ◌++◌, Option, Some, None}
use Rattle.std.specs.Option.{option_map}
use Rattle.cds_stamps.specs.declared.stamp.Stamp.{Stamp}
use Rattle.cds_stamps.specs.Members.{since_in}
use Rattle.cds_stamps.specs.Stamps.{is_earlier}
use Rattle.attr_sets.specs.declared.mark.ValueMark.{ValueMark}
use Rattle.attr_sets.specs.Marks.{mark_after_clear}
use Rattle.attr_sets.specs.AttributeCells.{Cleared, Marked, greatest_clear, greatest_mark}
use Rattle.directory.specs.Histories.{Mark, Birth, Death, Attr, stamp_in, name_in, born_in, attr_history}
use Rattle.directory.specs.Shown.{Shown, shown_of_name}
use Rattle.cell_model.specs.Cells.{Replica, Message, Cell, IsHeld}
use Rattle.cell_model.specs.Commands.{Command, Mkdir, Repoint, Accept, Epoch, Skulk, Deliver, Complete, Accepted}
use Rattle.cell_model.specs.Sets.{In, IsPart, IsUpTo}
use Rattle.cell_model.specs.Steps.{message_at, outcome, replay, accepted_updates}

-- the house and the directory that a command acts at (own)
abbrev pub place_of : Cell → Command → Option (ℕ × ℕ)
place_of g (Mkdir h d n m rs ss) = Some (h, d)
place_of g (Repoint h d n m rs) = Some (h, d)
place_of g (Accept h d u) = Some (h, d)
place_of g (Epoch d m rs ss) = Some (m, d)
place_of g (Skulk h d) = Some (h, d)
place_of g (Deliver n) = option_map (λ (m : Message). (m.receiver, m.dir)) (message_at g n)
place_of g _ = None

-- an accepted update of the directory, all of whose marks stand in this history (own)
pub record IsAgreed (d : ℕ) (log : List Accepted) (history : List Mark) (a : Accepted) : Type 0 where
  pub logged : In a log
  pub dir : a.dir ≡ d
  pub part : IsPart a.marks history

-- the entry n that was born at c shows (own)
abbrev pub IsLive : List Mark → List ℕ → Stamp → Type 0
IsLive h n c = (e : Shown) × (shown_of_name h n ≡ Some e) × (e.birth ≡ c)

-- a birth shows where its entry does; a mark of a value where its entry does, and it is the
-- greatest of its value, present, and not earlier than a clear; a death and a clear show nowhere
-- (own)
abbrev pub IsShown : List Mark → Mark → Type 0
IsShown h (Birth n kind c) = IsLive h n c
IsShown h (Death n c s) = ⊥
IsShown h (Attr n c a (Cleared s)) = ⊥
IsShown h (Attr n c a (Marked v m)) =
    IsLive h n c × (m.present ≡ true)
    × (mark_after_clear (greatest_clear (attr_history h n c a)) (greatest_mark (attr_history h n c a) v) ≡ Some m)

-- a deletion covers a mark: a death all marks of its entry; an absent value those of the same value
-- that are present and not later; a clear those of its attribute's values that are earlier (own)
pub data Covers : Mark → Mark → Type 0 where
  of_death : (n : List ℕ) (c s : Stamp) (k : Mark) → name_in k ≡ n → born_in k ≡ c → Covers (Death n c s) k
  of_absence : (n : List ℕ) (c : Stamp) (a v : List ℕ) (m p : ValueMark) → m.present ≡ false → p.present ≡ true → IsUpTo p.stamp m.stamp
      → Covers (Attr n c a (Marked v m)) (Attr n c a (Marked v p))
  of_clear : (n : List ℕ) (c : Stamp) (a v : List ℕ) (s : Stamp) (p : ValueMark) → is_earlier p.stamp s ≡ true
      → Covers (Attr n c a (Cleared s)) (Attr n c a (Marked v p))

-- a replica r of the house x agrees up to t with the updates that stand in this history, of those
-- accepted so far
pub record Agrees (d : ℕ) (t : Stamp) (so_far all : List Accepted) (history : List Mark) (x : ℕ) (r : Replica) : Type 0 where
  -- its marks up to t are those of these updates
  pub same : (k : Mark) → IsUpTo (stamp_in k) t → In k r.history ↔ ((a : Accepted) × IsAgreed d so_far history a × In k a.marks)
  -- each update up to t that it accepted in its present term is one of them
  pub whole : (a : Accepted) → In a all → a.dir ≡ d → a.by ≡ x → a.since ≡ since_in r.members x 0 → IsUpTo a.stamp t → IsAgreed d so_far history a
  -- and no mark that one of their deletions up to t covers shows
  pub deleted : (a : Accepted) (c k : Mark) → IsAgreed d so_far history a → In c a.marks → IsUpTo (stamp_in c) t → Covers c k → IsShown r.history k → ⊥

-- of any list of commands: from a step on that answers Complete(t), each house that holds the
-- directory at the epoch of the skulk's master or a later one agrees up to t with what the master
-- had in that step (own)
abbrev pub Converges : List Command → Type 0
Converges all =
    (early late : List Command) (c : Command) (t : Stamp) (ns : List ℕ) → early ++ c ∷ late ≡ all → (outcome (replay early) c).answer ≡ Complete t ns →
    (h d : ℕ) × (r : Replica) × (place_of (replay early) c ≡ Some (h, d)) × IsHeld (replay (early ++ c ∷ [])) h d r
    × ((x : ℕ) (q : Replica) → IsHeld (replay all) x d q → r.epoch ≤ q.epoch → Agrees d t (accepted_updates (early ++ c ∷ [])) (accepted_updates all) r.history x q)
