-- What is replied to a line that stops a put, and what it leaves.
use Rattle.std.proofs.Common.{◌≡◌, ℕ, ◌+◌, ◌≤◌, Bool, true, false, List, [], ◌∷◌, length, refl, sym, ◌∙◌, ap, subst, if◌then◌else◌}
use Rattle.std.specs.Prelude.{Option, Some, None, Result, Ok, Err, IsErrAnd, OnOk}
use Rattle.std.specs.Option.{option_map}
use Rattle.cell_model.specs.Cells.{Cell}
use Rattle.cell_model.specs.Commands as command
use Rattle.cell_model.specs.Commands.{Command}
use Rattle.cell_model.specs.Reached.{IsReached}
use Rattle.cell_model.specs.Sets.{has}
use Rattle.cell_model.specs.Steps.{outcome, replay_from}
use Rattle.cell_model.proofs.Standing.{reached_lem}
use Rattle.script_answers.specs.declared.answer.Answer.{Answer}
use Rattle.cds_cell.specs.CommandImages.{actors, crash_losing, image_after}
use Rattle.cds_cell.specs.Recorded.{image_at}
use Rattle.cds_cell.specs.ModelCells.{Stands}
use Rattle.cds_cell.specs.Scripted.{answer_of}
use Rattle.journal_forms.specs.declared.journal_answer.JournalAnswer.{JournalAnswer}
use Rattle.journal_forms.specs.declared.journal_answer.JournalAnswer.TheVariants as answer
use Rattle.journal_forms.specs.declared.journal_line.JournalLine.{JournalLine}
use Rattle.disk_journals.specs.declared.faults.Unkept.{Unkept}
use Rattle.disk_journals.specs.declared.faults.Unkept.TheVariants.{Full, OutOfMemory}
use Rattle.house_journal.specs.MemoryDisks.{MemState}
use Rattle.journal_replay.specs.declared.keeper.Keeper.{Keeper}
use Rattle.journal_replay.specs.Journaled.{JournalSaid, command_done, journal_said, stop_refused, stop_said, stop_unless, command_stopped, stopped_if}
use Rattle.journal_replay.specs.CellJournals.{JournaledCell, Lists, Put, lacks_room, lasts, puts_in, puts_of, stop_puts, with_put, with_puts}
use Rattle.journal_replay.specs.CellDisks.{ArePutting, GiveImages, HoldAll, disk_count}
use Rattle.journal_replay.specs.Keeping.{StandsKeeper}
use Rattle.journal_replay.specs.PrivateJournals.{GivesUp, IsReplied, Replies, Tells, answered_unless}
use Rattle.journal_replay.proofs.Acting.{crash_spares, outcome_made, spared}
use Rattle.journal_replay.proofs.Doing.{replies_give_up, replies_memory}
use Rattle.journal_replay.proofs.Giving.{give_after}
use Rattle.journal_replay.proofs.Putting.{putting_at_end, putting_at_start}
use Rattle.journal_replay.proofs.StopPuts.{image_put, not_refused, nothing_put, only_crash}

-- ---- a line of which it is known what it does and puts

pub replied_by : (a : JournalAnswer) (k : Keeper) (s : JournaledCell) (l : JournalLine) (said : JournalSaid) (ps : List Put)
    → journal_said s.cell l ≡ said → puts_in s l ≡ ps → said.answer ≡ Some a
    → StandsKeeper k (record { cell = replay_from s.cell said.steps; lists = if lasts l then with_puts ps s.lists else s.lists })
    → lacks_room s.lists ps ≡ false → IsReplied a k s l
replied_by a k s l said ps said_is puts answer stands room = record {
  answer = ap (λ (x : JournalSaid). x.answer) said_is ∙ answer;
  stands =
      subst (λ (x : JournalSaid). StandsKeeper k (record { cell = replay_from s.cell x.steps; lists = if lasts l then with_puts (puts_in s l) s.lists else s.lists }))
      (sym said_is)
      (subst (λ (x : List Put). StandsKeeper k (record { cell = replay_from s.cell said.steps; lists = if lasts l then with_puts x s.lists else s.lists }))
      (sym puts) stands);
  room = ap (lacks_room s.lists) puts ∙ room;
}

either_same : {A : Type 0} (b : Bool) (x : A) → (if b then x else x) ≡ x
either_same true x = refl
either_same false x = refl

-- one that puts nothing
replied_still : (a : JournalAnswer) (k : Keeper) (s : JournaledCell) (l : JournalLine) (said : JournalSaid)
    → journal_said s.cell l ≡ said → puts_in s l ≡ [] → said.answer ≡ Some a
    → StandsKeeper k (record { cell = replay_from s.cell said.steps; lists = s.lists }) → IsReplied a k s l
replied_still a k s l said said_is puts answer stands =
    replied_by a k s l said [] said_is puts answer
    (subst (λ (x : Lists). StandsKeeper k (record { cell = replay_from s.cell said.steps; lists = x })) (sym (either_same (lasts l) s.lists)) stands)
    refl

-- ---- a stop that is not refused

allowed_puts : (s : JournaledCell) (h : ℕ) (c : Command) → stop_refused s.cell h c ≡ None
    → stop_puts s h c (stop_refused s.cell h c) ≡ puts_of (outcome s.cell c).cell (h ∷ []) s.lists
allowed_puts s h c allowed = ap (stop_puts s h c) allowed

-- the command leaves the image: it is done
still_said : (g : Cell) (h : ℕ) (after : Bool) (c : Command) → stop_refused g h c ≡ None → image_after g h c ≡ None → stop_said g h after c ≡ command_done g c
still_said g h after c allowed none = ap (stop_unless g h after c) allowed ∙ ap (stopped_if g h after c) none

-- the command makes another image: its put is stopped
pub stopped_put_is : (s : JournaledCell) (l : JournalLine) (h : ℕ) (c : Command) (image : List ℕ) → puts_in s l ≡ stop_puts s h c (stop_refused s.cell h c)
    → 1 ≤ h → h ≤ disk_count → GiveImages s → stop_refused s.cell h c ≡ None → image_after s.cell h c ≡ Some image
    → puts_in s l ≡ record { house = h; image = image } ∷ []
stopped_put_is s l h c image puts first few gives allowed some = puts ∙ allowed_puts s h c allowed ∙ image_put s h c image first few gives allowed some

stopped_said : (g : Cell) (h : ℕ) (after : Bool) (c : Command) (image : List ℕ) → stop_refused g h c ≡ None → image_after g h c ≡ Some image
    → stop_said g h after c ≡ command_stopped g h after c
stopped_said g h after c image allowed some = ap (stop_unless g h after c) allowed ∙ ap (stopped_if g h after c) some

-- ---- the images that the journals give

module _ (stays : (g : Cell) (c : Command) (x : ℕ) → IsReached g → has x (actors g c) ≡ false → image_at (outcome g c).cell x ≡ image_at g x) where
  -- a crash leaves them
  give_crash : (g : Cell) (lists : Lists) (h n : ℕ) → IsReached g → GiveImages (record { cell = g; lists = lists })
      → GiveImages (record { cell = replay_from g (crash_losing g h n); lists = lists })
  give_crash g lists h n reached gives i within =
      gives i within ∙ sym (spared stays g (crash_losing g h n) (i + 1) reached (crash_spares g h n (i + 1)))

  -- and the put of the only house that acts gives its own
  give_next : (s : JournaledCell) (h : ℕ) (c : Command) (ps : List Put) → IsReached s.cell → GiveImages s → actors s.cell c ≡ h ∷ []
      → puts_of (outcome s.cell c).cell (h ∷ []) s.lists ≡ ps → GiveImages (record { cell = (outcome s.cell c).cell; lists = with_puts ps s.lists })
  give_next s h c ps reached gives acts puts =
      subst (λ (ps : List Put). GiveImages (record { cell = (outcome s.cell c).cell; lists = with_puts ps s.lists })) puts
      (give_after s (outcome s.cell c).cell (h ∷ []) gives
      (λ x other. spared stays s.cell (c ∷ []) x reached (ap (has x) acts ∙ other, tt)) (λ x. (outcome_made s.cell c x).1))

  -- the command leaves the image
  pub replied_done : (a : Answer) (k : Keeper) (s : JournaledCell) (l : JournalLine) (h : ℕ) (after : Bool) (c : Command)
      → journal_said s.cell l ≡ stop_said s.cell h after c → puts_in s l ≡ stop_puts s h c (stop_refused s.cell h c)
      → 1 ≤ h → h ≤ disk_count → IsReached s.cell → GiveImages s → stop_refused s.cell h c ≡ None → image_after s.cell h c ≡ None
      → answer_of (outcome s.cell c).answer ≡ Some a → HoldAll k.disks.items s.lists → Stands k.replayer.cell (outcome s.cell c).cell
      → IsReplied (answer.Plain a) k s l
  replied_done a k s l h after c said puts first few reached gives allowed none answered disks cell =
      let nothing = nothing_put s h c first few gives allowed none in
      let acts = (not_refused s.cell h c allowed).1 in
      replied_still (answer.Plain a) k s l (command_done s.cell c) (said ∙ still_said s.cell h after c allowed none)
      (puts ∙ allowed_puts s h c allowed ∙ nothing) (ap (option_map answer.Plain) answered)
      (record { cell = cell; disks = disks; gives = give_next s h c [] reached gives acts nothing })

  -- the image is kept
  pub replied_after : (k : Keeper) (s : JournaledCell) (l : JournalLine) (h : ℕ) (after : Bool) (c : Command) (image : List ℕ) → after ≡ true
      → journal_said s.cell l ≡ stop_said s.cell h after c → puts_in s l ≡ stop_puts s h c (stop_refused s.cell h c) → lasts l ≡ after
      → 1 ≤ h → h ≤ disk_count → IsReached s.cell → GiveImages s → stop_refused s.cell h c ≡ None → image_after s.cell h c ≡ Some image
      → (let p : Put = record { house = h; image = image } in HoldAll k.disks.items (with_put p s.lists) × (lacks_room s.lists (p ∷ []) ≡ false))
      → Stands k.replayer.cell (replay_from (outcome s.cell c).cell (crash_losing (outcome s.cell c).cell h (length s.cell.bag)))
      → IsReplied answer.StoppedAfter k s l
  replied_after k s l h after c image is said puts last first few reached gives allowed some disks cell =
      let p : Put = record { house = h; image = image } in
      let one = image_put s h c image first few gives allowed some in
      let acts = (not_refused s.cell h c allowed).1 in
      let next = give_next s h c (p ∷ []) reached gives acts one in
      let end = give_crash (outcome s.cell c).cell (with_put p s.lists) h (length s.cell.bag) (reached_lem.after s.cell c reached) next in
      replied_by answer.StoppedAfter k s l (command_stopped s.cell h true c) (p ∷ []) (said ∙ ap (λ (b : Bool). stop_said s.cell h b c) is ∙ stopped_said s.cell h true c image allowed some)
      (puts ∙ allowed_puts s h c allowed ∙ one) refl
      (subst (λ (b : Bool). StandsKeeper k (record { cell = replay_from s.cell (command_stopped s.cell h true c).steps; lists = if b then with_put p s.lists else s.lists }))
      (sym (last ∙ is)) (record { cell = cell; disks = disks.0; gives = end })) disks.1

  -- or not
  pub replied_before : (k : Keeper) (s : JournaledCell) (l : JournalLine) (h : ℕ) (after : Bool) (c : Command) (image : List ℕ) → after ≡ false
      → journal_said s.cell l ≡ stop_said s.cell h after c → puts_in s l ≡ stop_puts s h c (stop_refused s.cell h c) → lasts l ≡ after
      → 1 ≤ h → h ≤ disk_count → IsReached s.cell → GiveImages s → stop_refused s.cell h c ≡ None → image_after s.cell h c ≡ Some image
      → (let p : Put = record { house = h; image = image } in HoldAll k.disks.items s.lists × (lacks_room s.lists (p ∷ []) ≡ false))
      → Stands k.replayer.cell (outcome s.cell (command.Crash h)).cell → IsReplied answer.StoppedBefore k s l
  replied_before k s l h after c image is said puts last first few reached gives allowed some disks cell =
      let p : Put = record { house = h; image = image } in
      let one = image_put s h c image first few gives allowed some in
      let end = give_crash s.cell s.lists h (length s.cell.bag) reached gives in
      let crashed = subst (λ (cs : List Command). GiveImages (record { cell = replay_from s.cell cs; lists = s.lists })) (only_crash s.cell h) end in
      replied_by answer.StoppedBefore k s l (command_stopped s.cell h false c) (p ∷ []) (said ∙ ap (λ (b : Bool). stop_said s.cell h b c) is ∙ stopped_said s.cell h false c image allowed some)
      (puts ∙ allowed_puts s h c allowed ∙ one) refl
      (subst (λ (b : Bool). StandsKeeper k (record { cell = replay_from s.cell (command_stopped s.cell h false c).steps; lists = if b then with_put p s.lists else s.lists }))
      (sym (last ∙ is)) (record { cell = cell; disks = disks.0; gives = crashed })) disks.1

-- ---- under way

-- a stopped put that has its image, or not
stopped_putting : (disks : List MemState) (lists : Lists) (b : Bool) (p : Put) → HoldAll disks (if b then with_put p lists else lists) → ArePutting disks lists (p ∷ [])
stopped_putting disks lists true p hold = putting_at_end disks lists (p ∷ []) hold
stopped_putting disks lists false p hold = putting_at_start disks lists (p ∷ []) hold

pub stopped_memory : (k : Keeper) (s : JournaledCell) (l : JournalLine) (b : Bool) (p : Put) (r : Result JournalAnswer Unkept) → IsErrAnd r (λ e. e ≡ OutOfMemory)
    → puts_in s l ≡ p ∷ [] → HoldAll k.disks.items (if b then with_put p s.lists else s.lists) → Replies r k s l
stopped_memory k s l b p r is puts hold =
    replies_memory k s l r is (subst (ArePutting k.disks.items s.lists) (sym puts) (stopped_putting k.disks.items s.lists b p hold))

pub stopped_up : (k : Keeper) (s : JournaledCell) (l : JournalLine) (p : Put) (r : Result JournalAnswer Unkept) (x : Unkept) → IsErrAnd r (λ e. e ≡ x)
    → puts_in s l ≡ p ∷ [] → GivesUp x k.disks.items s.lists (p ∷ []) → Replies r k s l
stopped_up k s l p r x is puts up = replies_give_up k s l r x is (subst (GivesUp x k.disks.items s.lists) (sym puts) up)

-- ---- the answer to the command, unless its put was stopped

pub unless_memory : (r : Result (Option JournalAnswer) Unkept) (a : Answer) (k : Keeper) (s : JournaledCell) (l : JournalLine) → IsErrAnd r (λ e. e ≡ OutOfMemory)
    → HoldAll k.disks.items s.lists → Replies (answered_unless r a) k s l
unless_memory (Ok x) a k s l is hold = absurd is
unless_memory (Err e) a k s l is hold = replies_memory k s l (Err e) is (putting_at_start k.disks.items s.lists (puts_in s l) hold)

pub unless_up : (r : Result (Option JournalAnswer) Unkept) (a : Answer) (x : Unkept) (k : Keeper) (s : JournaledCell) (l : JournalLine) → IsErrAnd r (λ e. e ≡ x)
    → GivesUp x k.disks.items s.lists (puts_in s l) → Replies (answered_unless r a) k s l
unless_up (Ok y) a x k s l is up = absurd is
unless_up (Err e) a x k s l is up = replies_give_up k s l (Err e) x is up

pub unless_tells : (r : Result (Option JournalAnswer) Unkept) (a : Answer) (before after : Bool) → Tells r before after → Tells (answered_unless r a) before after
unless_tells (Ok None) a before after so = so
unless_tells (Ok (Some stopped)) a before after so = so
unless_tells (Err Full) a before after so = so
unless_tells (Err OutOfMemory) a before after so = so

pub unless_ok : (r : Result (Option JournalAnswer) Unkept) (a : Answer) (P : Type 0) → OnOk r P → OnOk (answered_unless r a) P
unless_ok (Ok None) a P so = so
unless_ok (Ok (Some stopped)) a P so = so
unless_ok (Err e) a P so = so
