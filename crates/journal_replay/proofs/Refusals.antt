-- A command that is refused leaves the cell as it was, and no house puts an image after it.
use Rattle.std.proofs.Common.{◌≡◌, ℕ, ◌+◌, ◌≤◌, Bool, true, false, List, [], ◌∷◌, ◌++◌, refl, sym, ◌∙◌, ap, subst}
use Rattle.std.specs.Prelude.{Option, Some, None, IfSome, nat_le, nat_lt, ◌==◌, ◌&&◌, if◌then◌else◌}
use Rattle.cds_stamps.specs.declared.numbers.HouseNo.{HouseNo}
use Rattle.cds_stamps.specs.declared.stamp.Stamp.{Stamp}
use Rattle.cds_stamps.specs.Members.{Member, is_listed, master_of, others_of, since_in}
use Rattle.cds_stamps.specs.Stamps.{is_stamp}
use Rattle.directory.specs.declared.update.UpdateRefusal.{UpdateRefusal}
use Rattle.directory.specs.Updates.{Change}
use Rattle.directory.specs.Updates as updates
use Rattle.cell_model.specs.Cells as model
use Rattle.cell_model.specs.Cells.{Cell, House, Message}
use Rattle.cell_model.specs.Commands as command
use Rattle.cell_model.specs.Commands.{Answer, Command, Made, NewEpoch, Posted, Refusal, Refused, Stamped}
use Rattle.cell_model.specs.Steps.{Outcome, at_house, deliver, effect, first_refusal, is_down, left_members, lose, member_list_of, message_at, outcome}
use Rattle.cell_model.specs.Steps.{refusal_outcome, refusals_of, sorted_houses, unless, with_directory, with_epoch}
use Rattle.cell_model.specs.Turns as turns
use Rattle.cell_model.specs.Turns.{HouseStep, Stays, Turns}
use Rattle.script_answers.specs.declared.answer.Answer as script
use Rattle.script_answers.specs.declared.answer.Answer.TheVariants as answer
use Rattle.cds_cell.specs.CommandImages.{actors, one_or_none}
use Rattle.cds_cell.specs.ModelCells.{IsStep}
use Rattle.cds_cell.specs.Scripted.{answer_of}
use Rattle.journal_replay.specs.declared.keeper.Keeper.{Keeper}
use Rattle.journal_replay.specs.CellJournals.{JournaledCell, Put, lacks_room, puts_of, with_puts}
use Rattle.journal_replay.specs.CellDisks.{GiveImages, HoldAll, disk_count}
use Rattle.journal_replay.specs.PrivateJournals.{AreDone, is_refusal}
use Rattle.journal_replay.proofs.Doing.{done_all, nothing_new}
use Rattle.journal_replay.proofs.Putting.{puts_then}

-- whether it is a refusal
abbrev refuses : Answer → Bool
refuses (Refused r) = true
refuses _ = false

-- a turn is answered otherwise
abbrev Works : HouseStep → Type 0
Works (Stays answer) = Unit {0}
Works (Turns turn) = (ns : List ℕ) → refuses (turn.answer ns) ≡ false

either : (b : Bool) (s t : HouseStep) → Works s → Works t → Works (if b then s else t)
either true s t h k = h
either false s t h k = k

module _ (now : House) where
  -- an update
  accepts : (h d : ℕ) (u : Change) → Works (turns.accept h now d u)
  accepts h d u = in_slot (now.slots d)
    where
      at_stamp : (r : model.Replica) (o : Option Stamp) → Works (turns.accept_at h now d u r o)
      at_stamp r None = tt
      at_stamp r (Some s) = λ ns. refl

      otherwise : (o : Option UpdateRefusal) (s : HouseStep) → Works s → Works (turns.unless_refused o s)
      otherwise None s k = k
      otherwise (Some r) s k = tt

      in_slot : (s : model.Slot) → Works (turns.accept_in h now d u s)
      in_slot model.Absent = tt
      in_slot (model.Gone e) = tt
      in_slot (model.Held r) = otherwise (turns.update_refusal h u r) (turns.accept_at h now d u r (turns.stamp_at now)) (at_stamp r (turns.stamp_at now))

  -- a skulk
  skulks : (h d : ℕ) → Works (turns.skulk h now d)
  skulks h d = in_slot (now.slots d)
    where
      begins : (r : model.Replica) (t : Stamp) (others : List ℕ) → Works (turns.begin h now d r t others)
      begins r t [] = λ ns. refl
      begins r t (y ∷ ys) = λ ns. refl

      at_stamp : (r : model.Replica) (o : Option Stamp) → Works (turns.skulk_at h now d r o)
      at_stamp r None = tt
      at_stamp r (Some t) = begins r t (others_of h r.members)

      in_slot : (s : model.Slot) → Works (turns.skulk_in h now d s)
      in_slot model.Absent = tt
      in_slot (model.Gone e) = tt
      in_slot (model.Held r) = either (master_of r.members == h) _ _ (at_stamp r (turns.stamp_at now)) tt

  -- a new epoch
  epochs : (m d k : ℕ) (ms : List Member) (left : List ℕ) → Works (turns.new_epoch m now d k ms left)
  epochs m d k ms left = in_slot (now.slots d)
    where
      in_slot : (s : model.Slot) → Works (turns.new_epoch_in m now d k ms left s)
      in_slot model.Absent = tt
      in_slot (model.Gone e) = tt
      in_slot (model.Held r) = either (nat_le (since_in ms m 0) r.epoch) _ _ (λ ns. refl) tt

  -- a message
  takes : (m : Message) → Works (turns.take now m)
  takes m = in_body m.body (now.slots m.dir)
    where
      gathered : (r : model.Replica) (t : Stamp) (q : model.Replica) (answered : List ℕ) → Works (turns.take_gathered_answer now m r t q answered)
      gathered r t q answered = either (turns.all_answered (others_of m.receiver r.members) answered) _ _ (λ ns. refl) (λ ns. refl)

      spread : (r : model.Replica) (t : Stamp) (answered : List ℕ) → Works (turns.spread now m r t answered)
      spread r t answered = either (turns.all_answered (others_of m.receiver r.members) answered) _ _ (λ ns. refl) (λ ns. refl)

      first : (t : Stamp) (copy : model.Copy) (r : model.Replica) (p : model.Phase) → Works (turns.take_gathered now m t copy r p)
      first t copy r model.Idle = tt
      first t copy r (model.Gathering u answered) = either (is_stamp t u) _ _ (gathered r u (turns.merge_copy r copy) (m.sender ∷ answered)) tt
      first t copy r (model.Spreading u answered) = either (is_stamp t u) _ _ (λ ns. refl) tt

      second : (t : Stamp) (r : model.Replica) (p : model.Phase) → Works (turns.take_ack now m t r p)
      second t r model.Idle = tt
      second t r (model.Gathering u answered) = either (is_stamp t u) _ _ (λ ns. refl) tt
      second t r (model.Spreading u answered) = either (is_stamp t u) _ _ (spread r u (m.sender ∷ answered)) tt

      own : (r : model.Replica) (b : model.Body) → Works (turns.take_own now m r b)
      own r (model.Update marks) = λ ns. refl
      own r (model.Gather t) = λ ns. refl
      own r (model.Gathered t copy) = first t copy r r.phase
      own r (model.Spread t copy) = λ ns. refl
      own r (model.SpreadAck t) = second t r r.phase
      own r (model.Advance t) = λ ns. refl
      own r (model.Join members copy) = tt
      own r model.Leave = tt

      other : (b : model.Body) (s : model.Slot) → Works (turns.take_other now m b s)
      other b model.Absent = tt
      other b (model.Gone e) = tt
      other b (model.Held r) =
          either (nat_lt m.epoch r.epoch) _ _ tt (either (nat_lt r.epoch m.epoch) _ _ tt (either (is_listed m.sender r.members) _ _ (own r b) tt))

      otherwise : (o : Option ℕ) (s : HouseStep) → Works s → Works (turns.unless_late m o s)
      otherwise None s k = k
      otherwise (Some e) s k = tt

      in_body : (b : model.Body) (s : model.Slot) → Works (turns.take_in now m b s)
      in_body (model.Join members copy) s =
          otherwise (turns.late_join m.epoch s) _ (either (is_listed m.receiver members && is_listed m.sender members) _ _ (λ ns. refl) tt)
      in_body model.Leave s = otherwise (turns.late_leave m.epoch s) _ (λ ns. refl)
      in_body (model.Update marks) s = other (model.Update marks) s
      in_body (model.Gather t) s = other (model.Gather t) s
      in_body (model.Gathered t copy) s = other (model.Gathered t copy) s
      in_body (model.Spread t copy) s = other (model.Spread t copy) s
      in_body (model.SpreadAck t) s = other (model.SpreadAck t) s
      in_body (model.Advance t) s = other (model.Advance t) s

-- ---- in a cell

module _ (g : Cell) where
  -- what is refused leaves it
  abbrev Leaves : Outcome → Type 0
  Leaves o = refuses o.answer ≡ true → o.cell ≡ g

  at_a_house : (h : ℕ) (s : HouseStep) → Works s → Leaves (at_house g h s)
  at_a_house h (Stays answer) works refused = refl
  at_a_house h (Turns turn) works refused = absurd (cc (works _, refused))

  makes : (o : Outcome) (d m : ℕ) (ms : List Member) (a : Answer) → o.answer ≡ a → Leaves o → Leaves (with_directory o d m ms a)
  makes o d m ms (Stamped s ns) is leaves refused = absurd (cc (refused))
  makes o d m ms a is leaves refused = leaves refused

  begins : (o : Outcome) (d : ℕ) (ms : List Member) (a : Answer) → o.answer ≡ a → Leaves o → Leaves (with_epoch o d ms a)
  begins o d ms (NewEpoch k ns) is leaves refused = let same : refuses o.answer ≡ false = rw is refl in absurd (cc (same, refused))
  begins o d ms a is leaves refused = leaves refused

  delivers : (o : Option Message) → Leaves (deliver g o)
  delivers None refused = refl
  delivers (Some m) refused = by (is_down g m.receiver) refused
    where
      by : (b : Bool) → Leaves (if b then refusal_outcome g command.Down else at_house g m.receiver (turns.take (g.house m.receiver) m))
      by true refused = refl
      by false refused = at_a_house m.receiver (turns.take (g.house m.receiver) m) (takes (g.house m.receiver) m) refused

  loses : (n : ℕ) (o : Option Message) → Leaves (lose g n o)
  loses n None refused = refl
  loses n (Some m) refused = absurd (cc (refused))

  effect_leaves : (c : Command) → Leaves (effect g c)
  effect_leaves (command.House h node) refused = absurd (cc (refused))
  effect_leaves (command.Clock h time) refused = absurd (cc (refused))
  effect_leaves (command.Root m rs ss) refused = absurd (cc (refused))
  effect_leaves (command.Mkdir h d n m rs ss) refused =
      let u : Change = updates.MakeChild n (record { dir = g.next_dir; master = m; others = sorted_houses rs }) in
      let o : Outcome = at_house g h (turns.accept h (g.house h) d u) in
      makes o g.next_dir m (member_list_of [] 1 m rs ss) o.answer refl (at_a_house h (turns.accept h (g.house h) d u) (accepts (g.house h) h d u)) refused
  effect_leaves (command.Repoint h d n m rs) refused =
      let u : Change = updates.Repoint n m (sorted_houses rs) in
      at_a_house h (turns.accept h (g.house h) d u) (accepts (g.house h) h d u) refused
  effect_leaves (command.Accept h d u) refused = at_a_house h (turns.accept h (g.house h) d u) (accepts (g.house h) h d u) refused
  effect_leaves (command.Epoch d m rs ss) refused =
      let ms : List Member = member_list_of (g.present d) (g.top d + 1) m rs ss in
      let left : List ℕ = left_members (g.present d) ms in
      let s : HouseStep = turns.new_epoch m (g.house m) d (g.top d + 1) ms left in
      begins (at_house g m s) d ms (at_house g m s).answer refl (at_a_house m s (epochs (g.house m) m d (g.top d + 1) ms left)) refused
  effect_leaves (command.Skulk h d) refused = at_a_house h (turns.skulk h (g.house h) d) (skulks (g.house h) h d) refused
  effect_leaves (command.Deliver n) refused = delivers (message_at g n) refused
  effect_leaves (command.Lose n) refused = loses n (message_at g n) refused
  effect_leaves (command.Crash h) refused = absurd (cc (refused))
  effect_leaves (command.Start h) refused = absurd (cc (refused))

  refused_leaves : (c : Command) → Leaves (outcome g c)
  refused_leaves c = by (first_refusal (refusals_of g c))
    where
      by : (o : Option Refusal) → Leaves (unless g o (effect g c))
      by None refused = effect_leaves c refused
      by (Some r) refused = refl

-- ---- on the disks

-- a refusal that is answered is one of the model
is_told : (m : Answer) (a : script.Answer) → answer_of m ≡ Some a → is_refusal a ≡ true → refuses m ≡ true
is_told m a told refused = by m told
  where
    kept : (x : script.Answer) → ◌≡◌ {A = Option script.Answer} (Some x) (Some a) → is_refusal x ≡ true
    kept x is = let same : x ≡ a = cc (is) in ap is_refusal same ∙ refused

    by : (m : Answer) → answer_of m ≡ Some a → refuses m ≡ true
    by command.Done is = absurd (cc (kept answer.Done is))
    by (Posted ns) is = absurd (cc (kept (answer.Posted ns) is))
    by (Made d s ns) is = absurd (cc (kept (answer.Made (record { 0 = d }) s ns) is))
    by (Stamped s ns) is = absurd (cc (kept (answer.Stamped s ns) is))
    by (NewEpoch e ns) is = absurd (cc (kept (answer.Epoch (record { 0 = e }) ns) is))
    by (command.Taken ns) is = absurd (cc (kept (answer.Taken ns) is))
    by (command.Late k e) is = absurd (cc (kept (answer.Late (record { 0 = k }) (record { 0 = e })) is))
    by (command.Early k e) is = absurd (cc (kept (answer.Early (record { 0 = k }) (record { 0 = e })) is))
    by (command.Stale t r) is = absurd (cc (kept (answer.Stale t r) is))
    by command.NoReplica is = absurd (cc (kept answer.NoReplica is))
    by command.Foreign is = absurd (cc (is))
    by (command.Complete t ns) is = absurd (cc (kept (answer.Complete t ns) is))
    by (Refused r) is = refl

-- two houses whose journals give their images put none
puts_none : (s : JournaledCell) (first second : Option HouseNo) → GiveImages s → IfSome first (λ h. h.0 ≤ disk_count)
    → IfSome second (λ h. h.0 ≤ disk_count) → puts_of s.cell (one_or_none first ++ one_or_none second) s.lists ≡ []
puts_none s None None gives few few' = refl
puts_none s None (Some b) gives few few' = nothing_new s b.0 few' gives
puts_none s (Some a) None gives few few' = nothing_new s a.0 few gives
puts_none s (Some a) (Some b) gives few few' =
    puts_then s.cell (a.0 ∷ []) (b.0 ∷ []) s.lists
    ∙ ap (λ (ps : List Put). ps ++ puts_of s.cell (b.0 ∷ []) (with_puts ps s.lists)) (nothing_new s a.0 few gives)
    ∙ nothing_new s b.0 few' gives

-- a refused command is done where it is answered
pub refused_done : (a : script.Answer) (k : Keeper) (s : JournaledCell) (c : Command) (first second : Option HouseNo)
    → IsStep a k.replayer.cell (outcome s.cell c) → is_refusal a ≡ true → one_or_none first ++ one_or_none second ≡ actors s.cell c
    → IfSome first (λ h. h.0 ≤ disk_count) → IfSome second (λ h. h.0 ≤ disk_count) → GiveImages s → HoldAll k.disks.items s.lists
    → AreDone a k s (record { steps = c ∷ []; answer = answer_of (outcome s.cell c).answer })
refused_done a k s c first second step refused acting few few' gives hold =
    let next : Cell = (outcome s.cell c).cell in
    let same : next ≡ s.cell = refused_leaves s.cell c (is_told (outcome s.cell c).answer a step.answer refused) in
    let none : puts_of next (actors s.cell c) s.lists ≡ [] =
    ap (λ (g : Cell). puts_of g (actors s.cell c) s.lists) same ∙ ap (λ (xs : List ℕ). puts_of s.cell xs s.lists) (sym acting)
    ∙ puts_none s first second gives few few' in
    done_all a k s (record { steps = c ∷ []; answer = answer_of (outcome s.cell c).answer }) step.answer step.stands
    (subst (λ (ps : List Put). GiveImages (record { cell = next; lists = with_puts ps s.lists })) (sym none)
    (subst (λ (g : Cell). GiveImages (record { cell = g; lists = s.lists })) (sym same) gives))
    (subst (λ (ps : List Put). HoldAll k.disks.items (with_puts ps s.lists)) (sym none) hold) (ap (lacks_room s.lists) none)
