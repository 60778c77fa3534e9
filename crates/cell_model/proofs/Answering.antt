-- Which answers come to which commands.
use Rattle.std.proofs.Common.{◌≡◌, ℕ, ◌+◌, Bool, true, false, eqb, cond, List, [], ◌∷◌, Option, Some, None, refl, subst, nat_le}
use Rattle.cds_stamps.specs.declared.stamp.Stamp.{Stamp}
use Rattle.cds_stamps.specs.Members.{Member, master_of, others_of, since_in}
use Rattle.directory.specs.declared.update.UpdateRefusal.{UpdateRefusal}
use Rattle.directory.specs.declared.update.UpdateRefusal.TheVariants.{NotMaster}
use Rattle.directory.specs.Updates as changes
use Rattle.directory.specs.Updates.{Change}
use Rattle.cell_model.specs.Cells.{Replica, Slot, Absent, Gone, Held, Message, Cell}
use Rattle.cell_model.specs.Commands as command
use Rattle.cell_model.specs.Commands.{Command, Refusal, Answer, Stamped, Taken, Foreign, Complete, Refused}
use Rattle.cell_model.specs.Turns.{HouseStep, refuses, unless_refused, accept_at, update_refusal, accept_in, stamp_at, begin, skulk_at, skulk_in}
use Rattle.cell_model.specs.Turns.{new_epoch_in}
use Rattle.cell_model.specs.Steps.{Outcome, at_house, unless, with_directory, with_epoch, lose, message_at, refusals_of, first_refusal, sorted_houses}
use Rattle.cell_model.specs.Steps.{member_list_of, left_members, effect, outcome}

-- ---- all but skulks and messages

-- neither that a message is taken or its sender no member, nor that a skulk completes
abbrev pub IsPlain : Answer → Type 0
IsPlain (Taken ns) = ⊥
IsPlain Foreign = ⊥
IsPlain (Complete t ns) = ⊥
IsPlain _ = Unit {0}

accept_plain : (g : Cell) (h d : ℕ) (u : Change) (r : Replica) (q : Option UpdateRefusal) (o : Option Stamp)
    → IsPlain (at_house g h (unless_refused q (accept_at h (g.house h) d u r o))).answer
accept_plain g h d u r (Some q) o = tt
accept_plain g h d u r None None = tt
accept_plain g h d u r None (Some s) = tt

slot_plain : (g : Cell) (h d : ℕ) (u : Change) (s : Slot) → IsPlain (at_house g h (accept_in h (g.house h) d u s)).answer
slot_plain g h d u Absent = tt
slot_plain g h d u (Gone e) = tt
slot_plain g h d u (Held r) = accept_plain g h d u r (update_refusal h u r) (stamp_at (g.house h))

made_plain : (g : Cell) (h d m : ℕ) (ms : List Member) (u : Change) (r : Replica) (q : Option UpdateRefusal) (o : Option Stamp)
    → IsPlain (with_directory (at_house g h (unless_refused q (accept_at h (g.house h) d u r o))) g.next_dir m ms
    (at_house g h (unless_refused q (accept_at h (g.house h) d u r o))).answer).answer
made_plain g h d m ms u r (Some q) o = tt
made_plain g h d m ms u r None None = tt
made_plain g h d m ms u r None (Some s) = tt

mkdir_plain : (g : Cell) (h d m : ℕ) (ms : List Member) (u : Change) (s : Slot)
    → IsPlain (with_directory (at_house g h (accept_in h (g.house h) d u s)) g.next_dir m ms (at_house g h (accept_in h (g.house h) d u s)).answer).answer
mkdir_plain g h d m ms u Absent = tt
mkdir_plain g h d m ms u (Gone e) = tt
mkdir_plain g h d m ms u (Held r) = made_plain g h d m ms u r (update_refusal h u r) (stamp_at (g.house h))

-- the answer to a new epoch, when the console has noted it
abbrev epoch_answer : (g : Cell) (d m : ℕ) → List Member → HouseStep → Answer
epoch_answer g d m ms s = (with_epoch (at_house g m s) d ms (at_house g m s).answer).answer

epoch_by : (g : Cell) (d m : ℕ) (ms : List Member) (b : Bool) (x y : HouseStep) → IsPlain (epoch_answer g d m ms x) → IsPlain (epoch_answer g d m ms y)
    → IsPlain (epoch_answer g d m ms (cond b x y))
epoch_by g d m ms true x y p q = p
epoch_by g d m ms false x y p q = q

epoch_plain : (g : Cell) (d m k : ℕ) (ms : List Member) (left : List ℕ) (s : Slot)
    → IsPlain (epoch_answer g d m ms (new_epoch_in m (g.house m) d k ms left s))
epoch_plain g d m k ms left Absent = tt
epoch_plain g d m k ms left (Gone e) = tt
epoch_plain g d m k ms left (Held r) = epoch_by g d m ms (nat_le (since_in ms m 0) r.epoch) _ _ tt tt

lose_plain : (g : Cell) (n : ℕ) (o : Option Message) → IsPlain (lose g n o).answer
lose_plain g n None = tt
lose_plain g n (Some m) = tt

unless_plain : (g : Cell) (r : Option Refusal) (o : Outcome) → IsPlain o.answer → IsPlain (unless g r o).answer
unless_plain g None o p = p
unless_plain g (Some r) o p = tt

-- ---- skulks

-- that a skulk begins, or completes at once, or a refusal
abbrev pub IsBegun : Answer → Type 0
IsBegun (Stamped t ns) = Unit {0}
IsBegun (Complete t ns) = Unit {0}
IsBegun (Refused r) = Unit {0}
IsBegun _ = ⊥

begin_begun : (g : Cell) (h d : ℕ) (r : Replica) (s : Stamp) (os : List ℕ) → IsBegun (at_house g h (begin h (g.house h) d r s os)).answer
begin_begun g h d r s [] = tt
begin_begun g h d r s (y ∷ ys) = tt

stamped_begun : (g : Cell) (h d : ℕ) (r : Replica) (o : Option Stamp) → IsBegun (at_house g h (skulk_at h (g.house h) d r o)).answer
stamped_begun g h d r None = tt
stamped_begun g h d r (Some s) = begin_begun g h d r s (others_of h r.members)

skulk_begun : (g : Cell) (h d : ℕ) (o : Slot) → IsBegun (at_house g h (skulk_in h (g.house h) d o)).answer
skulk_begun g h d Absent = tt
skulk_begun g h d (Gone k) = tt
skulk_begun g h d (Held r) = by_test (eqb (master_of r.members) h)
  where
    by_test : (b : Bool) → IsBegun (at_house g h (cond b (skulk_at h (g.house h) d r (stamp_at (g.house h))) (refuses NotMaster))).answer
    by_test true = stamped_begun g h d r (stamp_at (g.house h))
    by_test false = tt

unless_begun : (g : Cell) (r : Option Refusal) (o : Outcome) → IsBegun o.answer → IsBegun (unless g r o).answer
unless_begun g None o p = p
unless_begun g (Some r) o p = tt

-- ---- all commands

-- what is known of the answer to a command
abbrev pub Said : Cell → Command → Type 0
Said g (command.Skulk h d) = IsBegun (outcome g (command.Skulk h d)).answer
Said g (command.Deliver n) = Unit {0}
Said g c = IsPlain (outcome g c).answer

plain_of : (g : Cell) (c : Command) → IsPlain (effect g c).answer → IsPlain (outcome g c).answer
plain_of g c p = unless_plain g (first_refusal (refusals_of g c)) (effect g c) p

-- which answer comes to a command
pub said : (g : Cell) (c : Command) → Said g c
said g (command.House h node) = plain_of g (command.House h node) tt
said g (command.Clock h time) = plain_of g (command.Clock h time) tt
said g (command.Root m rs ss) = plain_of g (command.Root m rs ss) tt
said g (command.Mkdir h d n m rs ss) =
    let u : Change = changes.MakeChild n (record { dir = g.next_dir; master = m; others = sorted_houses rs }) in
    plain_of g (command.Mkdir h d n m rs ss) (mkdir_plain g h d m (member_list_of [] 1 m rs ss) u ((g.house h).slots d))
said g (command.Repoint h d n m rs) =
    plain_of g (command.Repoint h d n m rs) (slot_plain g h d (changes.Repoint n m (sorted_houses rs)) ((g.house h).slots d))
said g (command.Accept h d u) = plain_of g (command.Accept h d u) (slot_plain g h d u ((g.house h).slots d))
said g (command.Epoch d m rs ss) =
    let ms : List Member = member_list_of (g.present d) (g.top d + 1) m rs ss in
    plain_of g (command.Epoch d m rs ss) (epoch_plain g d m (g.top d + 1) ms (left_members (g.present d) ms) ((g.house m).slots d))
said g (command.Skulk h d) =
    unless_begun g (first_refusal (refusals_of g (command.Skulk h d))) (effect g (command.Skulk h d)) (skulk_begun g h d ((g.house h).slots d))
said g (command.Deliver n) = tt
said g (command.Lose n) = plain_of g (command.Lose n) (lose_plain g n (message_at g n))
said g (command.Crash h) = plain_of g (command.Crash h) tt
said g (command.Start h) = plain_of g (command.Start h) tt

plain_taken : (g : Cell) (c : Command) (ns : List ℕ) → IsPlain (outcome g c).answer → (outcome g c).answer ≡ Taken ns → (n : ℕ) × (c ≡ command.Deliver n)
plain_taken g c ns p e = elim (subst IsPlain e p) [ ]

-- what is taken was delivered
pub taken_by : (g : Cell) (c : Command) (ns : List ℕ) → (outcome g c).answer ≡ Taken ns → (n : ℕ) × (c ≡ command.Deliver n)
taken_by g (command.Skulk h d) ns e = elim (subst IsBegun e (said g (command.Skulk h d))) [ ]
taken_by g (command.Deliver n) ns e = (n, refl)
taken_by g (command.House h node) ns e = plain_taken g (command.House h node) ns (said g (command.House h node)) e
taken_by g (command.Clock h time) ns e = plain_taken g (command.Clock h time) ns (said g (command.Clock h time)) e
taken_by g (command.Root m rs ss) ns e = plain_taken g (command.Root m rs ss) ns (said g (command.Root m rs ss)) e
taken_by g (command.Mkdir h d n m rs ss) ns e = plain_taken g (command.Mkdir h d n m rs ss) ns (said g (command.Mkdir h d n m rs ss)) e
taken_by g (command.Repoint h d n m rs) ns e = plain_taken g (command.Repoint h d n m rs) ns (said g (command.Repoint h d n m rs)) e
taken_by g (command.Accept h d u) ns e = plain_taken g (command.Accept h d u) ns (said g (command.Accept h d u)) e
taken_by g (command.Epoch d m rs ss) ns e = plain_taken g (command.Epoch d m rs ss) ns (said g (command.Epoch d m rs ss)) e
taken_by g (command.Lose n) ns e = plain_taken g (command.Lose n) ns (said g (command.Lose n)) e
taken_by g (command.Crash h) ns e = plain_taken g (command.Crash h) ns (said g (command.Crash h)) e
taken_by g (command.Start h) ns e = plain_taken g (command.Start h) ns (said g (command.Start h)) e
