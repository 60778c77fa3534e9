-- What commands of a line leave: the cell, the journals and the disks.
use Rattle.std.proofs.Common.{◌≡◌, ℕ, zero, suc, ◌+◌, ◌<◌, ◌≤◌, Bool, true, false, ◌||◌, ◌&&◌, List, [], ◌∷◌, ◌++◌, map, take, refl, sym, ◌∙◌, ap, subst, arith}
use Rattle.std.specs.Prelude.{Some, None, Result, Ok, Err, IsErrAnd, nat_lt}
use Rattle.directory.specs.Updates.{Change}
use Rattle.house_journal.specs.MemoryDisks.{MemState}
use Rattle.cell_model.specs.Cells.{Cell}
use Rattle.cell_model.specs.Commands as command
use Rattle.cell_model.specs.Commands.{Command}
use Rattle.cell_model.specs.Reached.{IsReached}
use Rattle.cell_model.specs.Sets.{has}
use Rattle.cell_model.specs.Steps.{outcome, replay_from}
use Rattle.script_answers.specs.declared.answer.Answer.{Answer}
use Rattle.journal_forms.specs.declared.journal_answer.JournalAnswer.{JournalAnswer}
use Rattle.journal_forms.specs.declared.journal_line.JournalLine.{JournalLine}
use Rattle.cds_cell.specs.CommandImages.{actors}
use Rattle.cds_cell.specs.Recorded.{image_at}
use Rattle.cds_cell.specs.ModelCells.{Stands}
use Rattle.script_replay.specs.Replies.{Said, does, says}
use Rattle.ns_commands.specs.Asks.{Changes}
use Rattle.cds_cell.specs.Accepting.{accept_in_turn}
use Rattle.std.specs.List.{last_or}
use Rattle.std.proofs.lemmas.Bool.Decides.{nat_tests}
use Rattle.cds_cell.specs.CommandImages.{octets_at}
use Rattle.disk_journals.specs.KeptJournals.{is_last}
use Rattle.disk_journals.proofs.Lasts.{last_same}
use Rattle.journal_replay.proofs.OneHouse.{none_puts}
use Rattle.disk_journals.specs.declared.faults.Unkept.{Unkept}
use Rattle.disk_journals.specs.declared.faults.Unkept.TheVariants.{Full, OutOfMemory}
use Rattle.journal_replay.specs.declared.keeper.Keeper.{Keeper}
use Rattle.journal_replay.specs.CellJournals.{JournaledCell, Lists, Put, acting_houses, lacks_room, puts_in, puts_of, with_puts}
use Rattle.journal_replay.specs.CellDisks.{ArePutting, GiveImages, HoldAll, disk_count, image_in}
use Rattle.journal_replay.specs.Keeping.{StandsKeeper}
use Rattle.journal_replay.specs.PrivateJournals.{AreDone, Does, GivesUp, PutsAll, Replies, said_puts}
use Rattle.journal_replay.proofs.Acting.{Spare, grown, spared, updates_spare}
use Rattle.journal_replay.proofs.Giving.{give_after, image_of_made}
use Rattle.journal_replay.proofs.Putting.{putting_at_start, putting_at_end, putting_first, putting_then, puts_then, room_then, with_puts_then}

-- ---- what was given up

pub gives_up_memory : (disks : List MemState) (lists : Lists) (ps : List Put) (e : Unkept) → e ≡ OutOfMemory → HoldAll disks lists → GivesUp e disks lists ps
gives_up_memory disks lists ps Full is hold = absurd (cc)
gives_up_memory disks lists ps OutOfMemory is hold = putting_at_start disks lists ps hold

pub gives_up_then : (disks : List MemState) (lists : Lists) (ps : List Put) (e : Unkept) → e ≡ OutOfMemory → HoldAll disks (with_puts ps lists) → GivesUp e disks lists ps
gives_up_then disks lists ps Full is hold = absurd (cc)
gives_up_then disks lists ps OutOfMemory is hold = putting_at_end disks lists ps hold

module _ (k : Keeper) (s : JournaledCell) (said : Said) where
  pub does_memory : (r : Result Answer Unkept) → IsErrAnd r (λ e. e ≡ OutOfMemory) → HoldAll k.disks.items s.lists → Does r k s said
  does_memory (Ok a) is hold = absurd is
  does_memory (Err e) is hold = gives_up_memory k.disks.items s.lists (said_puts s said) e is hold

  pub does_give_up : (r : Result Answer Unkept) (x : Unkept) → IsErrAnd r (λ e. e ≡ x) → GivesUp x k.disks.items s.lists (said_puts s said) → Does r k s said
  does_give_up (Ok a) x is up = absurd is
  does_give_up (Err e) x is up = subst (λ y. GivesUp y k.disks.items s.lists (said_puts s said)) (sym is) up

module _ (k : Keeper) (s : JournaledCell) (l : JournalLine) where
  pub replies_memory : (r : Result JournalAnswer Unkept) → IsErrAnd r (λ e. e ≡ OutOfMemory) → ArePutting k.disks.items s.lists (puts_in s l) → Replies r k s l
  replies_memory (Ok a) is putting = absurd is
  replies_memory (Err Full) is putting = absurd (cc)
  replies_memory (Err OutOfMemory) is putting = putting

  pub replies_give_up : (r : Result JournalAnswer Unkept) (x : Unkept) → IsErrAnd r (λ e. e ≡ x) → GivesUp x k.disks.items s.lists (puts_in s l) → Replies r k s l
  replies_give_up (Ok a) x is up = absurd is
  replies_give_up (Err e) x is up = subst (λ y. GivesUp y k.disks.items s.lists (puts_in s l)) (sym is) up

-- ---- two houses

-- a put that was given up is, with those after it
gives_up_first : (disks : List MemState) (lists : Lists) (ps qs : List Put) (e : Unkept) → GivesUp e disks lists ps → GivesUp e disks lists (ps ++ qs)
gives_up_first disks lists ps qs OutOfMemory up = putting_first disks lists ps qs up
gives_up_first disks lists ps qs Full up =
    (putting_first disks lists ps qs up.0, room_then lists ps qs ∙ ap (λ (b : Bool). b || lacks_room (with_puts ps lists) qs) up.1)

gives_up_later : (disks : List MemState) (lists : Lists) (ps qs : List Put) (e : Unkept) → lacks_room lists ps ≡ false
    → GivesUp e disks (with_puts ps lists) qs → GivesUp e disks lists (ps ++ qs)
gives_up_later disks lists ps qs OutOfMemory room up = putting_then disks lists ps qs up
gives_up_later disks lists ps qs Full room up = (
  putting_then disks lists ps qs up.0,
  room_then lists ps qs ∙ ap (λ (b : Bool). b || lacks_room (with_puts ps lists) qs) room ∙ up.1,
)

-- the puts of two houses
module _ (g : Cell) (xs ys : List ℕ) (lists : Lists) where
  abbrev first : List Put
  first = puts_of g xs lists

  abbrev second : List Put
  second = puts_of g ys (with_puts first lists)

  pub both_first : (r : Result (Unit {0}) Unkept) (x : Unkept) (disks : List MemState) → IsErrAnd r (λ e. e ≡ x) → GivesUp x disks lists first
      → PutsAll r disks lists (puts_of g (xs ++ ys) lists)
  both_first (Ok y) x disks is up = absurd is
  both_first (Err e) x disks is up =
      rw (puts_then g xs ys lists) (subst (λ y. GivesUp y disks lists (first ++ second)) (sym is) (gives_up_first disks lists first second x up))

  pub both_later : (r : Result (Unit {0}) Unkept) (disks : List MemState) → lacks_room lists first ≡ false → PutsAll r disks (with_puts first lists) second
      → PutsAll r disks lists (puts_of g (xs ++ ys) lists)
  both_later (Ok y) disks room puts =
      rw (puts_then g xs ys lists) (
        subst (HoldAll disks) (sym (with_puts_then first second lists)) puts.0,
        room_then lists first second ∙ ap (λ (b : Bool). b || lacks_room (with_puts first lists) second) room ∙ puts.1,
      )
  both_later (Err e) disks room up = rw (puts_then g xs ys lists) (gives_up_later disks lists first second e room up)

-- ---- what commands leave

module _ (stays : (g : Cell) (c : Command) (x : ℕ) → IsReached g → has x (actors g c) ≡ false → image_at (outcome g c).cell x ≡ image_at g x) where
  -- the journals give the images once the houses that act have put theirs
  pub give_done : (s : JournaledCell) (cs : List Command) → IsReached s.cell → GiveImages s
      → ((x : ℕ) → has x (acting_houses s.cell cs) ≡ false → Spare s.cell cs x)
      → GiveImages (record { cell = replay_from s.cell cs; lists = with_puts (puts_of (replay_from s.cell cs) (acting_houses s.cell cs) s.lists) s.lists })
  give_done s cs reached gives spare =
      give_after s (replay_from s.cell cs) (acting_houses s.cell cs) gives
      (λ x other. spared stays s.cell cs x reached (spare x other)) (λ x unmade. grown s.cell cs x unmade)

-- a single command leaves other houses alone
pub one_spares : (g : Cell) (c : Command) (x : ℕ) → has x (acting_houses g (c ∷ [])) ≡ false → Spare g (c ∷ []) x
one_spares g c x other = (other, tt)

-- and so do updates at a house
pub updates_act : (g : Cell) (h d : ℕ) (us : List Change) (x : ℕ) → has x (acting_houses g (map (command.Accept h d) us)) ≡ false → Spare g (map (command.Accept h d) us) x
updates_act g h d [] x other = tt
updates_act g h d (u ∷ us) x other = updates_spare g h d (u ∷ us) x other

-- commands are done where the cell is so, and the houses put their images
pub done_all : (a : Answer) (k : Keeper) (s : JournaledCell) (said : Said) → said.answer ≡ Some a → Stands k.replayer.cell (replay_from s.cell said.steps)
    → GiveImages (record { cell = replay_from s.cell said.steps; lists = with_puts (said_puts s said) s.lists })
    → HoldAll k.disks.items (with_puts (said_puts s said) s.lists) → lacks_room s.lists (said_puts s said) ≡ false → AreDone a k s said
done_all a k s said answer cell gives hold room = record {
  answer = answer;
  stands = record { cell = cell; disks = hold; gives = gives };
  room = room;
}

-- a house that puts nothing, as its journal gives its image
pub nothing_new : (s : JournaledCell) (h : ℕ) → h ≤ disk_count → GiveImages s → puts_of s.cell (h ∷ []) s.lists ≡ []
nothing_new s zero few gives = none_puts s.cell zero s.lists refl
nothing_new s (suc at) few gives = by_made (has (suc at) s.cell.made) refl
  where
    within : at < disk_count
    within = omega (arith, few)

    last : last_or None (s.lists (suc at)) ≡ image_in s.cell (suc at)
    last = let same : at + 1 ≡ suc at = omega arith in subst (λ n. last_or None (s.lists n) ≡ image_in s.cell n) same (gives at within)

    first : nat_lt 0 (suc at) ≡ true
    first = grind (arith, nat_tests)

    by_made : (b : Bool) → has (suc at) s.cell.made ≡ b → puts_of s.cell (suc at ∷ []) s.lists ≡ []
    by_made false made = none_puts s.cell (suc at) s.lists (ap (λ (b : Bool). nat_lt 0 (suc at) && b) made ∙ and_false (nat_lt 0 (suc at)))
      where
        and_false : (b : Bool) → (b && false) ≡ false
        and_false true = refl
        and_false false = refl
    by_made true made =
        let old : is_last (octets_at s.cell (suc at)) (s.lists (suc at)) ≡ true =
        last_same (octets_at s.cell (suc at)) (s.lists (suc at)) (last ∙ image_of_made s.cell (suc at) made) in
        rw (first, made, old) refl

-- the puts of updates at a house are those of the house
pub updates_puts : (s : JournaledCell) (h d : ℕ) (us : List Change) → h ≤ disk_count → GiveImages s
    → puts_of (replay_from s.cell (map (command.Accept h d) us)) (h ∷ []) s.lists
    ≡ puts_of (replay_from s.cell (map (command.Accept h d) us)) (acting_houses s.cell (map (command.Accept h d) us)) s.lists
updates_puts s h d [] few gives = nothing_new s h few gives
updates_puts s h d (u ∷ us) few gives = refl

-- an answer alone leaves all as it is
pub done_nothing : (a : Answer) (k : Keeper) (s : JournaledCell) (said : Said) → said ≡ says a → StandsKeeper k s → AreDone a k s said
done_nothing a k s said is stands =
    subst (AreDone a k s) (sym is) (record { answer = refl; stands = stands; room = refl })

-- ---- updates that a question asks for

module _ (s : JournaledCell) (ch : Changes) (few : ch.house ≤ disk_count) (gives : GiveImages s) where
  abbrev asked : Said
  asked = does s.cell (Ok ch)

  abbrev us : List Change
  us = take (accept_in_turn s.cell ch.house ch.dir ch.list).count ch.list

  abbrev their_puts : List Put
  their_puts = puts_of (replay_from s.cell asked.steps) (ch.house ∷ []) s.lists

  puts_same : their_puts ≡ said_puts s asked
  puts_same = updates_puts s ch.house ch.dir us few gives

  pub asked_up : (disks : List MemState) (e : Unkept) → GivesUp e disks s.lists their_puts → GivesUp e disks s.lists (said_puts s asked)
  asked_up disks e up = subst (GivesUp e disks s.lists) puts_same up

  pub asked_done : (stays : (g : Cell) (c : Command) (x : ℕ) → IsReached g → has x (actors g c) ≡ false → image_at (outcome g c).cell x ≡ image_at g x)
      (a : Answer) (k : Keeper) → IsReached s.cell → asked.answer ≡ Some a → Stands k.replayer.cell (replay_from s.cell asked.steps)
      → HoldAll k.disks.items (with_puts their_puts s.lists) → lacks_room s.lists their_puts ≡ false → AreDone a k s asked
  asked_done stays a k reached answer cell hold room =
      done_all a k s asked answer cell (give_done stays s asked.steps reached gives (updates_act s.cell ch.house ch.dir us))
      (subst (λ (ps : List Put). HoldAll k.disks.items (with_puts ps s.lists)) puts_same hold)
      (subst (λ (ps : List Put). lacks_room s.lists ps ≡ false) puts_same room)
