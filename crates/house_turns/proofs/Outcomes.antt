-- What a line comes to, from the step of the clearinghouse.
use Rattle.std.proofs.Common.{◌≡◌, ℕ, Bool, true, false, List, [], ◌∷◌, ◌++◌, refl, ap, ◌∙◌}
use Rattle.std.specs.Prelude.{Option, Some, None, Ok, Err, ◌==◌, ◌&&◌, nat_le, nat_lt, if◌then◌else◌}
use Rattle.cds_stamps.specs.declared.stamp.Stamp.{Stamp}
use Rattle.cds_stamps.specs.Members.{Member, is_listed, master_of, others_of, since_in}
use Rattle.cds_stamps.specs.Stamps.{is_stamp}
use Rattle.directory.specs.declared.update.UpdateRefusal.{UpdateRefusal}
use Rattle.directory.specs.declared.update.UpdateRefusal.TheVariants as why
use Rattle.directory.specs.Updates.{Change}
use Rattle.cell_model.specs.Cells as model
use Rattle.cell_model.specs.Commands as command
use Rattle.cell_model.specs.Turns as turns
use Rattle.cell_model.specs.Turns.{HouseStep, Stays, Turns}
use Rattle.script_answers.specs.Texts.{answer_line}
use Rattle.script_answers.specs.declared.answer.Answer.TheVariants as answer
use Rattle.house_directory.specs.declared.posted.Posted.{Posted}
use Rattle.house_directory.specs.declared.skulks.Begun.TheVariants as begun
use Rattle.house_directory.specs.declared.taking.Taken.{Taken}
use Rattle.house_directory.specs.declared.taking.Taken.TheVariants as taken
use Rattle.house_directory.specs.declared.epochs.EpochRefusal.{EpochRefusal}
use Rattle.house_directory.specs.declared.epochs.EpochRefusal.TheVariants as epoch
use Rattle.house_directory.specs.DirectorySteps.{IsBegunAnswer, IsEpochAnswer, IsStampAnswer, IsTakeAnswer, is_taken}
use Rattle.house_directory.specs.HouseMessages.{StandEach}
use Rattle.house_directory.proofs.Posts.{each_append}
use Rattle.cds_stamps.specs.declared.numbers.EpochNo.{EpochNo}
use Rattle.script_answers.specs.declared.answer.ScriptRefusal.TheVariants as refusal
use Rattle.clearinghouse.specs.declared.house.Clearinghouse.{Clearinghouse}
use Rattle.clearinghouse.specs.HouseSteps.{IsStep, IsTurn}
use Rattle.clearinghouse.specs.ModelHouses.{StandsHouse}
use Rattle.cell_runs.specs.OrderSteps.{then_found, with_number}
use Rattle.cell_runs.specs.Entries.{Post}
use Rattle.cds_cell.specs.Scripted.{update_refusal_of}
use Rattle.cell_runs.specs.LineAnswers.{answer_said, refused}
use Rattle.house_turns.specs.LineOutcomes.{IsOutcome, Posts, Tells}
use Rattle.house_turns.specs.PrivateTurns.{ArePostsOf, epoch_refusal_of, taken_line}
use Rattle.house_turns.proofs.Letters.{posts_stand}

-- ---- turns and other answers

-- an answer is that of a turn
abbrev pub of_turn : command.Answer → Bool
of_turn command.Done = false
of_turn (command.Posted ns) = true
of_turn (command.Made d s ns) = true
of_turn (command.Stamped s ns) = true
of_turn (command.NewEpoch e ns) = true
of_turn (command.Taken ns) = true
of_turn (command.Late k e) = false
of_turn (command.Early k e) = false
of_turn (command.Stale t r) = false
of_turn command.NoReplica = false
of_turn command.Foreign = false
of_turn (command.Complete t ns) = true
of_turn (command.Refused r) = false

-- a step answers as a turn exactly where it is one
abbrev pub Fits : HouseStep → Type 0
Fits (Stays a) = of_turn a ≡ false
Fits (Turns t) = (ns : List ℕ) → of_turn (t.answer ns) ≡ true

-- what is said of each answer that passes a test, and whether those are answers of turns
pub record Reads (Answers : command.Answer → Type 0) (turn : Bool) (said : List ℕ) : Type 0 where
  pub kind : (a : command.Answer) → Answers a → of_turn a ≡ turn
  pub is : (a : command.Answer) → Answers a → said ≡ answer_said a

module _ (Answers : command.Answer → Type 0) (said : List ℕ) (c c' : Clearinghouse) (posted : List Posted) where
  -- no turn, with this answer
  pub tells_outcome : (s : HouseStep) → Fits s → Reads Answers false said → IsStep Answers s c c' posted → IsOutcome s (Tells (said ∷ [])) c c'
  tells_outcome (Stays a) fits reads step = (ap (λ (l : List ℕ). l ∷ []) (reads.is a step.0), step.1)
  tells_outcome (Turns t) fits reads step =
      let on : of_turn (t.answer []) ≡ true = fits [] in
      let off : of_turn (t.answer []) ≡ false = reads.kind (t.answer []) (step.0 []) in
      absurd (cc)

  -- a turn, with these posts and this answer
  pub posts_outcome : (s : HouseStep) (posts : List Post) → Fits s → Reads Answers true said → ArePostsOf posts posted → IsStep Answers s c c' posted
      → IsOutcome s (Posts posts said) c c'
  posts_outcome (Stays a) posts fits reads are step =
      let on : of_turn a ≡ true = reads.kind a step.0 in
      absurd (cc)
  posts_outcome (Turns t) posts fits reads are step = (
    posts_stand posts posted t.posts are step.1.each,
    λ ns. reads.is (t.answer ns) (step.0 ns),
    step.1.stands,
  )

-- ---- answers

-- the stamp of an update
pub stamped_reads : (s : Stamp) → Reads (IsStampAnswer (Ok s)) true (answer_line (answer.Stamped s []))
stamped_reads s = record { kind = kind; is = is }
  where
    kind : (a : command.Answer) → IsStampAnswer (Ok s) a → of_turn a ≡ true
    kind (command.Stamped t ns) same = refl
    kind a same = absurd same

    is : (a : command.Answer) → IsStampAnswer (Ok s) a → answer_line (answer.Stamped s []) ≡ answer_said a
    is (command.Stamped t ns) same = ap (λ (s : Stamp). answer_line (answer.Stamped s [])) same
    is a same = absurd same

-- an update that is refused
pub refused_reads : (r : UpdateRefusal) → Reads (IsStampAnswer (Err r)) false (refused (update_refusal_of r))
refused_reads r = record { kind = kind; is = is }
  where
    kind : (a : command.Answer) → IsStampAnswer (Err r) a → of_turn a ≡ false
    kind (command.Refused (command.Update q)) same = refl
    kind a same = absurd same

    is : (a : command.Answer) → IsStampAnswer (Err r) a → refused (update_refusal_of r) ≡ answer_said a
    is (command.Refused (command.Update q)) same = ap (λ (r : UpdateRefusal). refused (update_refusal_of r)) same
    is a same = absurd same

-- a skulk that begins
pub started_reads : (s : Stamp) → Reads (IsBegunAnswer (Ok (begun.Started s))) true (answer_line (answer.Stamped s []))
started_reads s = record { kind = kind; is = is }
  where
    kind : (a : command.Answer) → IsBegunAnswer (Ok (begun.Started s)) a → of_turn a ≡ true
    kind (command.Stamped t ns) same = refl
    kind a same = absurd same

    is : (a : command.Answer) → IsBegunAnswer (Ok (begun.Started s)) a → answer_line (answer.Stamped s []) ≡ answer_said a
    is (command.Stamped t ns) same = ap (λ (s : Stamp). answer_line (answer.Stamped s [])) same
    is a same = absurd same

-- one that is complete at once
pub complete_reads : (s : Stamp) → Reads (IsBegunAnswer (Ok (begun.Complete s))) true (answer_line (answer.Complete s []))
complete_reads s = record { kind = kind; is = is }
  where
    kind : (a : command.Answer) → IsBegunAnswer (Ok (begun.Complete s)) a → of_turn a ≡ true
    kind (command.Complete t ns) same = refl
    kind a same = absurd same

    is : (a : command.Answer) → IsBegunAnswer (Ok (begun.Complete s)) a → answer_line (answer.Complete s []) ≡ answer_said a
    is (command.Complete t ns) same = ap (λ (s : Stamp). answer_line (answer.Complete s [])) same
    is a same = absurd same

-- one that is refused
pub unskulked_reads : (r : UpdateRefusal) → Reads (IsBegunAnswer (Err r)) false (refused (update_refusal_of r))
unskulked_reads r = record { kind = kind; is = is }
  where
    kind : (a : command.Answer) → IsBegunAnswer (Err r) a → of_turn a ≡ false
    kind (command.Refused (command.Update q)) same = refl
    kind a same = absurd same

    is : (a : command.Answer) → IsBegunAnswer (Err r) a → refused (update_refusal_of r) ≡ answer_said a
    is (command.Refused (command.Update q)) same = ap (λ (r : UpdateRefusal). refused (update_refusal_of r)) same
    is a same = absurd same

-- ---- the steps of lines

-- one of two steps
either_fits : (b : Bool) (s t : HouseStep) → Fits s → Fits t → Fits (if b then s else t)
either_fits true s t a b = a
either_fits false s t a b = b

-- updates
pub accept_fits : (x : ℕ) (now : model.House) (d : ℕ) (u : Change) → Fits (turns.accept x now d u)
accept_fits x now d u = by_slot (now.slots d)
  where
    by_stamp : (r : model.Replica) (o : Option Stamp) → Fits (turns.accept_at x now d u r o)
    by_stamp r None = refl
    by_stamp r (Some s) = λ ns. refl

    by_refusal : (r : model.Replica) (o : Option UpdateRefusal) → Fits (turns.unless_refused o (turns.accept_at x now d u r (turns.stamp_at now)))
    by_refusal r None = by_stamp r (turns.stamp_at now)
    by_refusal r (Some q) = refl

    by_slot : (s : model.Slot) → Fits (turns.accept_in x now d u s)
    by_slot model.Absent = refl
    by_slot (model.Gone e) = refl
    by_slot (model.Held r) = by_refusal r (turns.update_refusal x u r)

-- skulks
pub skulk_fits : (x : ℕ) (now : model.House) (d : ℕ) → Fits (turns.skulk x now d)
skulk_fits x now d = by_slot (now.slots d)
  where
    by_others : (r : model.Replica) (s : Stamp) (ys : List ℕ) → Fits (turns.begin x now d r s ys)
    by_others r s [] = λ ns. refl
    by_others r s (y ∷ ys) = λ ns. refl

    by_stamp : (r : model.Replica) (o : Option Stamp) → Fits (turns.skulk_at x now d r o)
    by_stamp r None = refl
    by_stamp r (Some s) = by_others r s (others_of x r.members)

    by_slot : (s : model.Slot) → Fits (turns.skulk_in x now d s)
    by_slot model.Absent = refl
    by_slot (model.Gone e) = refl
    by_slot (model.Held r) =
        either_fits (master_of r.members == x) (turns.skulk_at x now d r (turns.stamp_at now)) (turns.refuses why.NotMaster) (by_stamp r (turns.stamp_at now)) refl

-- new epochs
pub epoch_fits : (x : ℕ) (now : model.House) (d k : ℕ) (ms : List Member) (left : List ℕ) → Fits (turns.new_epoch x now d k ms left)
epoch_fits x now d k ms left = by_slot (now.slots d)
  where
    by_slot : (s : model.Slot) → Fits (turns.new_epoch_in x now d k ms left s)
    by_slot model.Absent = refl
    by_slot (model.Gone e) = refl
    by_slot (model.Held r) = by_term (nat_le (since_in ms x 0) r.epoch)
      where
        by_term : (b : Bool) → Fits (if b
            then turns.turn_without_updates (turns.with_slot now d now.floor (model.Held (turns.epoch_replica k ms r))) (turns.epoch_posts now.floor d x k ms left r) (command.NewEpoch k)
            else Stays (command.Refused (command.NotJoined r.epoch (since_in ms x 0))))
        by_term true = λ ns. refl
        by_term false = refl

-- messages
pub take_fits : (now : model.House) (m : model.Message) → Fits (turns.take now m)
take_fits now m = by_body m.body (now.slots m.dir)
  where
    gathered_answer : (b : Bool) (r r' : model.Replica) (t : Stamp) (answered : List ℕ) → Fits (if b
        then turns.take_and_answer now m (model.Held (record r' { phase = model.Spreading t [] })) (turns.to_others now m r (model.Spread t (turns.copy_of r')))
        else turns.take_and_answer now m (model.Held (record r' { phase = model.Gathering t answered })) [])
    gathered_answer true r r' t answered = λ ns. refl
    gathered_answer false r r' t answered = λ ns. refl

    gathered : (t : Stamp) (copy : model.Copy) (r : model.Replica) (p : model.Phase) → Fits (turns.take_gathered now m t copy r p)
    gathered t copy r model.Idle = refl
    gathered t copy r (model.Gathering u answered) =
        either_fits (is_stamp t u) (turns.take_gathered_answer now m r u (turns.merge_copy r copy) (m.sender ∷ answered))
        (turns.stale t (model.Gathering u answered))
        (gathered_answer (turns.all_answered (others_of m.receiver r.members) (m.sender ∷ answered)) r (turns.merge_copy r copy) u (m.sender ∷ answered)) refl
    gathered t copy r (model.Spreading u answered) =
        either_fits (is_stamp t u) (turns.take_and_answer now m (model.Held (turns.merge_copy r copy)) []) (turns.stale t (model.Spreading u answered))
        (λ ns. refl) refl

    spread_fits : (b : Bool) (r : model.Replica) (t : Stamp) (answered : List ℕ) → Fits (if b
        then turns.takes now m (model.Held (record r { all_up_to = turns.later_up_to r.all_up_to t; phase = model.Idle })) (turns.to_others now m r (model.Advance t)) (command.Complete t)
        else turns.take_and_answer now m (model.Held (record r { phase = model.Spreading t answered })) [])
    spread_fits true r t answered = λ ns. refl
    spread_fits false r t answered = λ ns. refl

    ack : (t : Stamp) (r : model.Replica) (p : model.Phase) → Fits (turns.take_ack now m t r p)
    ack t r model.Idle = refl
    ack t r (model.Gathering u answered) =
        either_fits (is_stamp t u) (turns.take_and_answer now m (model.Held r) []) (turns.stale t (model.Gathering u answered)) (λ ns. refl) refl
    ack t r (model.Spreading u answered) =
        either_fits (is_stamp t u) (turns.spread now m r u (m.sender ∷ answered)) (turns.stale t (model.Spreading u answered))
        (spread_fits (turns.all_answered (others_of m.receiver r.members) (m.sender ∷ answered)) r u (m.sender ∷ answered)) refl

    own : (r : model.Replica) (b : model.Body) → Fits (turns.take_own now m r b)
    own r (model.Update marks) = λ ns. refl
    own r (model.Gather t) = λ ns. refl
    own r (model.Gathered t copy) = gathered t copy r r.phase
    own r (model.Spread t copy) = λ ns. refl
    own r (model.SpreadAck t) = ack t r r.phase
    own r (model.Advance t) = λ ns. refl
    own r (model.Join members copy) = refl
    own r model.Leave = refl

    other : (b : model.Body) (s : model.Slot) → Fits (turns.take_other now m b s)
    other b model.Absent = refl
    other b (model.Gone e) = refl
    other b (model.Held r) = by_late (nat_lt m.epoch r.epoch)
      where
        by_sender : (l : Bool) → Fits (if l then turns.take_own now m r b else Stays command.Foreign)
        by_sender true = own r b
        by_sender false = refl

        by_early : (l : Bool) → Fits (if l
            then Stays (command.Early m.epoch r.epoch)
            else (if is_listed m.sender r.members then turns.take_own now m r b else Stays command.Foreign))
        by_early true = refl
        by_early false = by_sender (is_listed m.sender r.members)

        by_late : (l : Bool) → Fits (if l
            then Stays (command.Late m.epoch r.epoch)
            else
            (if nat_lt r.epoch m.epoch then Stays (command.Early m.epoch r.epoch)
            else (if is_listed m.sender r.members then turns.take_own now m r b else Stays command.Foreign)))
        by_late true = refl
        by_late false = by_early (nat_lt r.epoch m.epoch)

    unless_late_fits : (o : Option ℕ) (s : HouseStep) → Fits s → Fits (turns.unless_late m o s)
    unless_late_fits None s fits = fits
    unless_late_fits (Some e) s fits = refl

    join : (members : List Member) (copy : model.Copy) (s : model.Slot) → Fits (turns.take_join now m members copy s)
    join members copy s =
        unless_late_fits (turns.late_join m.epoch s)
        (if is_listed m.receiver members && is_listed m.sender members
        then turns.take_and_answer now m (model.Held (turns.join_replica m members copy s)) [] else Stays command.Foreign)
        (by_listed (is_listed m.receiver members && is_listed m.sender members))
      where
        by_listed : (b : Bool) → Fits (if b then turns.take_and_answer now m (model.Held (turns.join_replica m members copy s)) [] else Stays command.Foreign)
        by_listed true = λ ns. refl
        by_listed false = refl

    by_body : (b : model.Body) (s : model.Slot) → Fits (turns.take_in now m b s)
    by_body (model.Join members copy) s = join members copy s
    by_body model.Leave s = unless_late_fits (turns.late_leave m.epoch s) (turns.take_and_answer now m (model.Gone m.epoch) []) (λ ns. refl)
    by_body (model.Update marks) s = other (model.Update marks) s
    by_body (model.Gather t) s = other (model.Gather t) s
    by_body (model.Gathered t copy) s = other (model.Gathered t copy) s
    by_body (model.Spread t copy) s = other (model.Spread t copy) s
    by_body (model.SpreadAck t) s = other (model.SpreadAck t) s
    by_body (model.Advance t) s = other (model.Advance t) s

-- ---- what a message comes to

take_line_is : (t : Taken) (a : command.Answer) → IsTakeAnswer t a → taken_line t ≡ answer_said a
take_line_is taken.Taken (command.Taken ns) same = refl
take_line_is (taken.Complete s) (command.Complete t ns) same = ap (λ (s : Stamp). answer_line (answer.Complete s [])) same
take_line_is (taken.Late a b) (command.Late k e) same =
    ap (λ (k : ℕ). answer_line (answer.Late (record { 0 = k }) b)) same.0 ∙ ap (λ (e : ℕ). answer_line (answer.Late (record { 0 = k }) (record { 0 = e }))) same.1
take_line_is (taken.Early a b) (command.Early k e) same =
    ap (λ (k : ℕ). answer_line (answer.Early (record { 0 = k }) b)) same.0 ∙ ap (λ (e : ℕ). answer_line (answer.Early (record { 0 = k }) (record { 0 = e }))) same.1
take_line_is (taken.Stale a b) (command.Stale t r) same =
    ap (λ (t : Stamp). answer_line (answer.Stale t b)) same.0 ∙ ap (λ (r : Option Stamp). answer_line (answer.Stale t r)) same.1
take_line_is taken.NoReplica command.NoReplica same = refl
take_line_is taken.Foreign command.Foreign same = refl
take_line_is taken.Taken a same = absurd same
take_line_is (taken.Complete s) a same = absurd same
take_line_is (taken.Late a b) x same = absurd same
take_line_is (taken.Early a b) x same = absurd same
take_line_is (taken.Stale a b) x same = absurd same
take_line_is taken.NoReplica a same = absurd same
take_line_is taken.Foreign a same = absurd same

-- a message that is taken, or completes a skulk
pub taken_reads : (t : Taken) → is_taken t ≡ true → Reads (IsTakeAnswer t) true (taken_line t)
taken_reads t on = record { kind = kind t on; is = take_line_is t }
  where
    kind : (t : Taken) → is_taken t ≡ true → (a : command.Answer) → IsTakeAnswer t a → of_turn a ≡ true
    kind taken.Taken on (command.Taken ns) same = refl
    kind (taken.Complete s) on (command.Complete t ns) same = refl
    kind taken.Taken on a same = absurd same
    kind (taken.Complete s) on a same = absurd same
    kind (taken.Late a b) on x same = absurd (cc)
    kind (taken.Early a b) on x same = absurd (cc)
    kind (taken.Stale a b) on x same = absurd (cc)
    kind taken.NoReplica on x same = absurd (cc)
    kind taken.Foreign on x same = absurd (cc)

-- one that is not
pub untaken_reads : (t : Taken) → is_taken t ≡ false → Reads (IsTakeAnswer t) false (taken_line t)
untaken_reads t off = record { kind = kind t off; is = take_line_is t }
  where
    kind : (t : Taken) → is_taken t ≡ false → (a : command.Answer) → IsTakeAnswer t a → of_turn a ≡ false
    kind taken.Taken off a same = absurd (cc)
    kind (taken.Complete s) off a same = absurd (cc)
    kind (taken.Late a b) off (command.Late k e) same = refl
    kind (taken.Early a b) off (command.Early k e) same = refl
    kind (taken.Stale a b) off (command.Stale k e) same = refl
    kind taken.NoReplica off command.NoReplica same = refl
    kind taken.Foreign off command.Foreign same = refl
    kind (taken.Late a b) off x same = absurd same
    kind (taken.Early a b) off x same = absurd same
    kind (taken.Stale a b) off x same = absurd same
    kind taken.NoReplica off x same = absurd same
    kind taken.Foreign off x same = absurd same

-- ---- new epochs, and children

-- an epoch that is entered
pub entered_reads : (k : EpochNo) → Reads (IsEpochAnswer k.0 None) true (answer_line (answer.Epoch k []))
entered_reads k = record { kind = kind; is = is }
  where
    kind : (a : command.Answer) → IsEpochAnswer k.0 None a → of_turn a ≡ true
    kind (command.NewEpoch e ns) same = refl
    kind a same = absurd same

    is : (a : command.Answer) → IsEpochAnswer k.0 None a → answer_line (answer.Epoch k []) ≡ answer_said a
    is (command.NewEpoch e ns) same = ap (λ (e : ℕ). answer_line (answer.Epoch (record { 0 = e }) [])) same
    is a same = absurd same

-- one that is refused
pub unentered_reads : (k : ℕ) (r : EpochRefusal) → Reads (IsEpochAnswer k (Some r)) false (refused (epoch_refusal_of r))
unentered_reads k r = record { kind = kind r; is = is r }
  where
    kind : (r : EpochRefusal) (a : command.Answer) → IsEpochAnswer k (Some r) a → of_turn a ≡ false
    kind epoch.NoReplica (command.Refused q) same = refl
    kind (epoch.NotJoined held since) (command.Refused q) same = refl
    kind epoch.NoReplica a same = absurd same
    kind (epoch.NotJoined held since) a same = absurd same
    kind (epoch.StaleEpoch held given) a same = absurd same

    is : (r : EpochRefusal) (a : command.Answer) → IsEpochAnswer k (Some r) a → refused (epoch_refusal_of r) ≡ answer_said a
    is epoch.NoReplica (command.Refused (command.Update why.NoReplica)) same = refl
    is (epoch.NotJoined held since) (command.Refused (command.NotJoined e s)) same =
        ap (λ (e : ℕ). refused (refusal.NotJoined (record { 0 = e }) since)) same.0
        ∙ ap (λ (s : ℕ). refused (refusal.NotJoined (record { 0 = e }) (record { 0 = s }))) same.1
    is epoch.NoReplica a same = absurd same
    is (epoch.NotJoined held since) a same = absurd same
    is (epoch.StaleEpoch held given) a same = absurd same

module _ (x d : ℕ) (ms : List Member) (c : Clearinghouse) where
  -- a child that is refused
  pub child_tells : (s : HouseStep) (lines : List (List ℕ)) (c' : Clearinghouse) → IsOutcome s (Tells lines) c c'
      → IsOutcome (then_found x d ms s) (Tells lines) c c'
  child_tells (Stays a) lines c' is = is
  child_tells (Turns t) lines c' is = absurd is

  -- a child that is made, and its directory
  pub child_posts : (s : HouseStep) (stamp : Stamp) (c' c'' : Clearinghouse) (ps qs : List Posted) (posts : List Post) → Fits s
      → IsStep (IsStampAnswer (Ok stamp)) s c c' ps → ((now : model.House) → StandsHouse c' now → IsTurn (turns.found_directory x now d ms) c'' qs)
      → ArePostsOf posts (ps ++ qs)
      → IsOutcome (then_found x d ms s) (Posts posts (answer_line (answer.Made (record { 0 = d }) stamp []))) c c''
  child_posts (Stays a) stamp c' c'' ps qs posts fits step founds are =
      let on : of_turn a ≡ true = (stamped_reads stamp).kind a step.0 in
      absurd (cc)
  child_posts (Turns t) stamp c' c'' ps qs posts fits step founds are =
      let founded = founds t.house step.1.stands in
      let more : List model.Message = (turns.found_directory x t.house d ms).posts in
      let each : StandEach (ps ++ qs) (t.posts ++ more) = each_append ps qs t.posts more step.1.each founded.each in (
        posts_stand posts (ps ++ qs) (t.posts ++ more) are each,
        λ ns. made (t.answer ns) (step.0 ns),
        founded.stands,
      )
    where
      made : (a : command.Answer) → IsStampAnswer (Ok stamp) a → answer_line (answer.Made (record { 0 = d }) stamp []) ≡ answer_said (with_number d a)
      made (command.Stamped s ns) same = ap (λ (s : Stamp). answer_line (answer.Made (record { 0 = d }) s [])) same
      made a same = absurd same
