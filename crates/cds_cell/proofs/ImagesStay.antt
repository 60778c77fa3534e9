-- A command changes the image of no house but those that act in it.
use Rattle.std.proofs.Common.{◌≡◌, ◌≢◌, ℕ, ◌+◌, Bool, true, false, List, [], ◌∷◌, Option, Some, None, refl, sym, ap, ◌∙◌, arith}
use Rattle.std.specs.Prelude.{◌==◌, if◌then◌else◌}
use Rattle.std.specs.FinMap.{same_map}
use Rattle.std.proofs.lemmas.Bool.Decides.{nat_tests}
use Rattle.cds_stamps.specs.Members.{Member}
use Rattle.cds_messages.specs.Dirs.{dir_exact, dir_total}
use Rattle.directory.specs.Updates as updates
use Rattle.cell_model.specs.Cells.{Absent, Cell, Gone, Held, House, Message, Slot, put}
use Rattle.cell_model.specs.Commands as command
use Rattle.cell_model.specs.Commands.{Answer, Command, Refusal, NewEpoch, Stamped}
use Rattle.cell_model.specs.Holdings.{NumbersHold}
use Rattle.cell_model.specs.Reached.{IsReached}
use Rattle.cell_model.specs.Sets.{has}
use Rattle.cell_model.specs.Steps.{Outcome, sorted_houses, at_house, deliver, effect, first_refusal, is_down, left_members, member_list_of, lose, message_at, outcome}
use Rattle.cell_model.specs.Steps.{refusals_of, refusal_outcome, unless, with_directory, with_epoch}
use Rattle.cell_model.specs.Turns.{HouseStep, Turns, accept, crash_slot, crashed_house, found_directory, new_epoch, skulk, started_house, take}
use Rattle.cell_model.proofs.AtHouses.{at_house-there}
use Rattle.cell_model.proofs.Lists.{or_left, or_right}
use Rattle.cell_model.proofs.Numbers.{numbers_lem}
use Rattle.cell_model.proofs.Standing.{on_reached, reached_lem}
use Rattle.cell_model.proofs.Views.{put_at, put_other}
use Rattle.cds_cell.specs.CommandImages.{actors, receivers_of}
use Rattle.cds_cell.specs.Recorded.{image_at, kept_in}
use Rattle.cds_cell.proofs.RecordedLaws.{got_recorded}

-- ---- images

-- two houses have the same in their images
record SameKept (old new : House) : Type 0 where
  node : new.node ≡ old.node
  floor : new.floor ≡ old.floor
  kept : (d : ℕ) → kept_in (new.slots d) ≡ kept_in (old.slots d)

-- so they have the same image in two cells
image_same : (g g' : Cell) (x : ℕ) → NumbersHold g → NumbersHold g' → SameKept (g.house x) (g'.house x) → image_at g' x ≡ image_at g x
image_same g g' x numbers numbers' same i = record {
  house = record { 0 = x };
  node = same.node i;
  floor = same.floor i;
  dirs = same_map dir_total dir_exact (image_at g' x).dirs (image_at g x).dirs
      (λ q. got_recorded g' numbers' x q ∙ same.kept q.0 ∙ sym (got_recorded g numbers x q)) i;
}

-- a house that is the same
same_kept : (h k : House) → k ≡ h → SameKept h k
same_kept h k is = record {
  node = ap (λ (n : House). n.node) is;
  floor = ap (λ (n : House). n.floor) is;
  kept = λ d. ap (λ (n : House). kept_in (n.slots d)) is;
}

-- an image has no skulk
crashed_kept : (s : Slot) → kept_in (crash_slot s) ≡ kept_in s
crashed_kept Absent = refl
crashed_kept (Gone e) = refl
crashed_kept (Held r) = refl

-- one house of a cell changes, but not in its image
put_kept : (g : Cell) (h x : ℕ) (now : House) → SameKept (g.house h) now → SameKept (g.house x) (put g.house h now x)
put_kept g h x now same = put_at (λ y v. SameKept (g.house y) v) g.house h now same (λ y apart. same_kept (g.house y) (g.house y) refl) x

-- ---- the houses that do not act

-- a house that is none of these is not the first, and none of the others
not_first : (x h : ℕ) (hs : List ℕ) → has x (h ∷ hs) ≡ false → x ≢ h
not_first x h hs off =
    let none : (x == h) ≡ false = or_left (x == h) (has x hs) off in
    grind (arith, nat_tests, none)

not_second : (x h m : ℕ) → has x (h ∷ m ∷ []) ≡ false → x ≢ m
not_second x h m off = not_first x m [] (or_right (x == h) (has x (m ∷ [])) off)

-- the step of another house
at_other : (g : Cell) (h x : ℕ) (s : HouseStep) → x ≢ h → SameKept (g.house x) ((at_house g h s).cell.house x)
at_other g h x s apart = same_kept (g.house x) ((at_house g h s).cell.house x) (at_house-there g h s x apart)

-- a directory that another house makes after an update
made_there : (o : Outcome) (d m : ℕ) (ms : List Member) (a : Answer) (x : ℕ) → x ≢ m → (with_directory o d m ms a).cell.house x ≡ o.cell.house x
made_there o d m ms (Stamped s ns) x apart = at_house-there o.cell m (Turns (found_directory m (o.cell.house m) d ms)) x apart
made_there o d m ms a x apart = refl

-- the console notes an epoch
epoch_there : (o : Outcome) (d : ℕ) (ms : List Member) (a : Answer) (x : ℕ) → (with_epoch o d ms a).cell.house x ≡ o.cell.house x
epoch_there o d ms (NewEpoch k ns) x = refl
epoch_there o d ms a x = refl

-- a message that comes to another house
delivered_there : (g : Cell) (x : ℕ) (o : Option Message) → has x (receivers_of o) ≡ false → SameKept (g.house x) ((deliver g o).cell.house x)
delivered_there g x None off = same_kept (g.house x) (g.house x) refl
delivered_there g x (Some m) off = by (is_down g m.receiver) (at_other g m.receiver x (take (g.house m.receiver) m) (not_first x m.receiver [] off))
  where
    by : (b : Bool) → SameKept (g.house x) ((at_house g m.receiver (take (g.house m.receiver) m)).cell.house x)
        → SameKept (g.house x) ((if b then refusal_outcome g command.Down else at_house g m.receiver (take (g.house m.receiver) m)).cell.house x)
    by true same = same_kept (g.house x) (g.house x) refl
    by false same = same

lost_there : (g : Cell) (n x : ℕ) (o : Option Message) → SameKept (g.house x) ((lose g n o).cell.house x)
lost_there g n x None = same_kept (g.house x) (g.house x) refl
lost_there g n x (Some m) = same_kept (g.house x) (g.house x) refl

-- ---- commands

-- what a command does that nothing was said against
effect_keeps : (g : Cell) (c : Command) (x : ℕ) → has x (actors g c) ≡ false → SameKept (g.house x) ((effect g c).cell.house x)
effect_keeps g (command.House h node) x off = same_kept (g.house x) _ (put_other g.house h _ x (not_first x h [] off))
effect_keeps g (command.Clock h time) x off =
    put_kept g h x (record (g.house h) { clock = time }) (record { node = refl; floor = refl; kept = λ d. refl })
effect_keeps g (command.Root m rs ss) x off =
    at_other g m x (Turns (found_directory m (g.house m) 1 (member_list_of [] 1 m rs ss))) (not_first x m [] off)
effect_keeps g (command.Mkdir h d n m rs ss) x off =
    let u : updates.Change = updates.MakeChild n (record { dir = g.next_dir; master = m; others = sorted_houses rs }) in
    let o : Outcome = at_house g h (accept h (g.house h) d u) in
    same_kept (g.house x) _ (made_there o g.next_dir m (member_list_of [] 1 m rs ss) o.answer x (not_second x h m off)
    ∙ at_house-there g h (accept h (g.house h) d u) x (not_first x h (m ∷ []) off))
effect_keeps g (command.Repoint h d n m rs) x off = at_other g h x (accept h (g.house h) d (updates.Repoint n m (sorted_houses rs))) (not_first x h [] off)
effect_keeps g (command.Accept h d u) x off = at_other g h x (accept h (g.house h) d u) (not_first x h [] off)
effect_keeps g (command.Epoch d m rs ss) x off =
    let ms : List Member = member_list_of (g.present d) (g.top d + 1) m rs ss in
    let s : HouseStep = new_epoch m (g.house m) d (g.top d + 1) ms (left_members (g.present d) ms) in
    let o : Outcome = at_house g m s in
    same_kept (g.house x) _ (epoch_there o d ms o.answer x ∙ at_house-there g m s x (not_first x m [] off))
effect_keeps g (command.Skulk h d) x off = at_other g h x (skulk h (g.house h) d) (not_first x h [] off)
effect_keeps g (command.Deliver n) x off = delivered_there g x (message_at g n) off
effect_keeps g (command.Lose n) x off = lost_there g n x (message_at g n)
effect_keeps g (command.Crash h) x off =
    put_kept g h x (crashed_house (g.house h)) (record { node = refl; floor = refl; kept = λ d. crashed_kept ((g.house h).slots d) })
effect_keeps g (command.Start h) x off =
    put_kept g h x (started_house (g.house h)) (record { node = refl; floor = refl; kept = λ d. refl })

-- a command that is refused changes nothing
outcome_keeps : (g : Cell) (c : Command) (x : ℕ) → has x (actors g c) ≡ false → SameKept (g.house x) ((outcome g c).cell.house x)
outcome_keeps g c x off = by (first_refusal (refusals_of g c)) (effect_keeps g c x off)
  where
    by : (o : Option Refusal) → SameKept (g.house x) ((effect g c).cell.house x) → SameKept (g.house x) ((unless g o (effect g c)).cell.house x)
    by None same = same
    by (Some r) same = same_kept (g.house x) (g.house x) refl

-- a command changes the image of no house but those that act in it
pub images_stay : (g : Cell) (c : Command) (x : ℕ) → IsReached g → has x (actors g c) ≡ false → image_at (outcome g c).cell x ≡ image_at g x
images_stay g c x reached off =
    image_same g (outcome g c).cell x (on_reached NumbersHold numbers_lem g reached)
    (on_reached NumbersHold numbers_lem (outcome g c).cell (reached_lem.after g c reached)) (outcome_keeps g c x off)
