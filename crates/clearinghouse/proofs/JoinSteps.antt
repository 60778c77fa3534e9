-- Joins and Leaves: what comes of them is the step of the house of the model.
use Rattle.std.proofs.Common.{◌≡◌, ℕ, ◌≤◌, Bool, true, false, List, [], Option, Some, None, refl, sym, ap, subst, ◌∙◌, arith, nat_lt, nat_le}
use Rattle.std.specs.Prelude.{max, if◌then◌else◌, ◌&&◌, ◌||◌, not, MatchBool, MatchOption}
use Rattle.std.specs.Option.{option_map}
use Rattle.std.specs.FinMap.{get, insert}
use Rattle.cds_stamps.specs.declared.numbers.DirId.{DirId}
use Rattle.cds_stamps.specs.declared.numbers.EpochNo.{EpochNo}
use Rattle.cds_stamps.specs.declared.members.Member as declared
use Rattle.cds_stamps.specs.declared.stamp.Floor.{Floor}
use Rattle.cds_stamps.specs.Members.{Member, members_of, is_listed, since_in}
use Rattle.purge_rule.specs.declared.replica.Replica.{Replica}
use Rattle.purge_rule.specs.Replicas.{replica_of, together}
use Rattle.cds_messages.specs.declared.message.Body.TheVariants as body
use Rattle.cds_messages.specs.declared.message.Message.{Message}
use Rattle.cell_model.specs.Cells as model
use Rattle.cell_model.specs.Commands as command
use Rattle.cell_model.specs.Turns as turn
use Rattle.cell_model.specs.Turns.{HouseStep, Stays, Turns, take_and_answer, replica_of_copy, kept_at_join, join_replica, late_join, late_leave, unless_late, take_join}
use Rattle.cell_model.specs.Turns.{take_leave, take_other}
use Rattle.cell_model.specs.Turns.{take_in, take}
use Rattle.cell_model.specs.Merges.{of_join}
use Rattle.cell_model.specs.Taking.{CanTake}
use Rattle.cell_model.proofs.Rows as rows
use Rattle.cell_model.proofs.Rows.{le_from}
use Rattle.cell_model.proofs.Views.{put_same}
use Rattle.cell_model.proofs.Fine.{Fine, FineAfter, FineSlot, take_fine}
use Rattle.clearinghouse.specs.declared.house.Clearinghouse.{Clearinghouse}
use Rattle.house_directory.specs.declared.states.Held.{Held}
use Rattle.house_directory.specs.declared.states.DirState.{DirState}
use Rattle.house_directory.specs.declared.states.DirState.TheVariants as state
use Rattle.house_directory.specs.declared.outgoing.Outgoing.{Outgoing}
use Rattle.house_directory.specs.declared.taking.Taken.{Taken}
use Rattle.house_directory.specs.declared.taking.Taken.TheVariants as answers
use Rattle.house_directory.specs.HouseMessages.{StandsBody, StandsMessage, LooksBody, LooksMessage, StandEach}
use Rattle.clearinghouse.specs.HouseLetters.{posts_at, sender_of}
use Rattle.house_directory.specs.ModelReplicas.{LooksHeld, LooksSlot, StandsHeld, StandsSlot}
use Rattle.clearinghouse.specs.ModelHouses.{LooksHouse, StandsHouse}
use Rattle.house_directory.specs.DirectorySteps.{IsTakeAnswer, is_taken}
use Rattle.clearinghouse.specs.HouseSteps.{IsStep, LooksStep}
use Rattle.house_directory.specs.Times.{latest_in_message}
use Rattle.house_directory.specs.DirectoryTurns.{HeldStep, LooksAfter, floor_taken}
use Rattle.house_directory.specs.DirectoryTakes.{Answers, copy_of, held_in}
use Rattle.clearinghouse.specs.HouseTakes.{Copies, HasJoined, HasLeft, Merges, TakesAt, TakesJoin, TakesLeave, TakesOther}
use Rattle.house_directory.specs.DirectoryTakes.{join_foreign, join_passed, leave_passed}
use Rattle.clearinghouse.proofs.Houses.{house_holds, got_here, slot_looks, step_of}
use Rattle.house_directory.proofs.Posts.{posts_none}
use Rattle.house_directory.proofs.TakeSteps.{replica_taken, message_is, latest_is, other_step, other_looks}

-- what a house has of a directory stands for a slot, where it looks like it, and its replica is the
-- one of the history
slot_stands : (me floor : ℕ) (s : DirState) (slot : model.Slot) → LooksSlot me (Some s) slot
    → ((h : Held) (q : model.Replica) → s ≡ state.Held h → slot ≡ model.Held q → h.replica ≡ replica_of q.history q.all_up_to) → FineSlot floor slot
    → StandsSlot me floor (Some s) slot
slot_stands me floor (state.Gone e) (model.Gone k) looks content fine = looks
slot_stands me floor (state.Held h) (model.Held q) looks content fine =
    record { looks = looks; replica = content h q refl refl; history = (fine q refl).history; below = (fine q refl).below }
slot_stands me floor (state.Gone e) model.Absent looks content fine = elim looks [ ]
slot_stands me floor (state.Gone e) (model.Held q) looks content fine = elim looks [ ]
slot_stands me floor (state.Held h) model.Absent looks content fine = elim looks [ ]
slot_stands me floor (state.Held h) (model.Gone k) looks content fine = elim looks [ ]

-- an epoch, where it is told
if_epoch : (b : Bool) (e : EpochNo) → option_map (λ (x : EpochNo). x.0) (if b then Some e else None) ≡ (if b then Some e.0 else None)
if_epoch true e = refl
if_epoch false e = refl

not_late : (k e : ℕ) (b : Bool) → nat_lt k e ≡ b → (if b then Some e else None) ≡ None → e ≤ k
not_late k e true is none = absurd (cc)
not_late k e false is none = grind (arith, is)

module _ (msg : Message) (now : model.House) (old new : Clearinghouse) (a : Taken) (o : Option Outgoing) where
  abbrev said : model.Body → model.Message
  said c = record { receiver = old.house.0; dir = msg.dir.0; sender = msg.from.0; epoch = msg.epoch.0; floor = msg.floor; body = c }

  -- what becomes of the house, in the model and in the program: nothing, or it has something else
  -- of the directory, and posts nothing
  data Comes (n : ℕ) (c : model.Body) (s : HouseStep) : Type 0 where
    stays : (answer : Taken) (says : command.Answer) → s ≡ Stays says → IsTakeAnswer answer says → Answers old new answer a o → Comes n c s
    turns : (has : DirState) (slot : model.Slot) → s ≡ take_and_answer now (said c) slot [] → a ≡ answers.Taken → o ≡ None
        → new ≡ record old { floor = record { time = max old.floor.time n }; dirs = insert old.dirs msg.dir has } → LooksSlot old.house.0 (Some has) slot
        → (StandsHouse old now → StandsBody msg.body c → CanTake now (said c) → (h : Held) (q : model.Replica) → has ≡ state.Held h → slot ≡ model.Held q
        → h.replica ≡ replica_of q.history q.all_up_to) → Comes n c s

  posts_nothing : o ≡ None → posts_at new msg.dir o ≡ []
  posts_nothing none = ap (posts_at new msg.dir) none ∙ posts_none (sender_of new msg.dir) (get new.dirs msg.dir)

  step_from : (n : ℕ) (c : model.Body) (s : HouseStep) → Comes n c s → StandsHouse old now → StandsBody msg.body c → CanTake now (said c) → n ≡ msg.floor
      → FineAfter msg.dir.0 s → IsStep (IsTakeAnswer a) s old new (posts_at new msg.dir o)
  step_from n c s (stays answer says is h z) stands carries can low fine =
      subst (λ x. IsStep (IsTakeAnswer a) x old new (posts_at new msg.dir o)) (sym is)
      (subst (λ x. IsTakeAnswer x says) (sym z.1) h, z.0, posts_nothing z.2)
  step_from n c s (turns has slot is ans none after looks content) stands carries can low fine =
      let floor : Floor = record { time = max old.floor.time n } in
      let same : max old.floor.time n ≡ max now.floor msg.floor = ap (λ x. max x n) (sym stands.floor) ∙ ap (max now.floor) low in
      let w : FineSlot (max now.floor msg.floor) ((turn.with_slot now msg.dir.0 (max now.floor msg.floor) slot).slots msg.dir.0) =
      subst (FineAfter msg.dir.0) is fine in
      let f : FineSlot (max now.floor msg.floor) slot = subst (FineSlot (max now.floor msg.floor)) (put_same now.slots msg.dir.0 slot) w in
      let has_stands : StandsSlot old.house.0 (max old.floor.time n) (Some has) slot =
      subst (λ x. StandsSlot old.house.0 x (Some has) slot) (sym same)
      (slot_stands old.house.0 (max now.floor msg.floor) has slot looks (content stands carries can) f) in
      let house : StandsHouse (record old { floor = floor; dirs = insert old.dirs msg.dir has }) (turn.with_slot now msg.dir.0 (max old.floor.time n) slot) =
      house_holds old now msg.dir floor has slot stands (omega arith) has_stands in
      subst (λ x. IsStep (IsTakeAnswer a) x old new (posts_at new msg.dir o)) (sym is) (
        (λ ns. subst (λ x. IsTakeAnswer x (command.Taken ns)) (sym ans) tt),
        record {
          stands = subst (λ (x : Clearinghouse). StandsHouse x (turn.with_slot now msg.dir.0 (max now.floor msg.floor) slot)) (sym after)
              (subst (λ x. StandsHouse (record old { floor = floor; dirs = insert old.dirs msg.dir has }) (turn.with_slot now msg.dir.0 x slot)) same house);
          each = subst (λ ps. StandEach ps []) (sym (posts_nothing none)) tt;
        },
      )

  looks_from : (n : ℕ) (c : model.Body) (s : HouseStep) → Comes n c s → LooksStep (IsTakeAnswer a) s msg.dir new
  looks_from n c s (stays answer says is h z) =
      subst (λ x. LooksStep (IsTakeAnswer a) x msg.dir new) (sym is) (subst (λ x. IsTakeAnswer x says) (sym z.1) h)
  looks_from n c s (turns has slot is ans none after looks content) =
      subst (λ x. LooksStep (IsTakeAnswer a) x msg.dir new) (sym is) (
        (λ ns. subst (λ x. IsTakeAnswer x (command.Taken ns)) (sym ans) tt),
        subst (λ (x : Clearinghouse). LooksHouse x msg.dir (turn.with_slot now msg.dir.0 (max now.floor msg.floor) slot)) (sym after)
            (subst (λ x. LooksSlot old.house.0 x ((turn.with_slot now msg.dir.0 (max now.floor msg.floor) slot).slots msg.dir.0))
            (sym (got_here old.dirs msg.dir has))
            (subst (λ x. LooksSlot old.house.0 (Some has) x) (sym (put_same now.slots msg.dir.0 slot)) looks)),
      )

  -- ---- Leaves

  leave_is : (s : Option DirState) (slot : model.Slot) → LooksSlot old.house.0 s slot
      → option_map (λ (e : EpochNo). e.0) (leave_passed msg.epoch s) ≡ late_leave msg.epoch.0 slot
  leave_is None model.Absent h = refl
  leave_is (Some (state.Gone e)) (model.Gone k) h =
      if_epoch (nat_le msg.epoch.0 e.0) e ∙ ap (λ x. if nat_le msg.epoch.0 x then Some x else None) (sym h)
  leave_is (Some (state.Held x)) (model.Held r) h =
      if_epoch (nat_le msg.epoch.0 x.epoch.0) x.epoch ∙ ap (λ e. if nat_le msg.epoch.0 e then Some e else None) (sym h.epoch)
  leave_is None (model.Gone k) h = elim h [ ]
  leave_is None (model.Held r) h = elim h [ ]
  leave_is (Some (state.Gone e)) model.Absent h = elim h [ ]
  leave_is (Some (state.Gone e)) (model.Held r) h = elim h [ ]
  leave_is (Some (state.Held x)) model.Absent h = elim h [ ]
  leave_is (Some (state.Held x)) (model.Gone k) h = elim h [ ]

  leave_by : (p : Option EpochNo) → option_map (λ (e : EpochNo). e.0) p ≡ late_leave msg.epoch.0 (now.slots msg.dir.0)
      → MatchOption p (HasLeft msg old new a o) (λ e. Answers old new (answers.Late msg.epoch e) a o)
      → Comes msg.floor model.Leave (take_leave now (said model.Leave) (now.slots msg.dir.0))
  leave_by (Some e) is z =
      stays (answers.Late msg.epoch e) (command.Late msg.epoch.0 e.0)
      (ap (λ x. unless_late (said model.Leave) x (take_and_answer now (said model.Leave) (model.Gone msg.epoch.0) [])) (sym is)) (refl, refl) z
  leave_by None is z =
      turns (state.Gone msg.epoch) (model.Gone msg.epoch.0)
      (ap (λ x. unless_late (said model.Leave) x (take_and_answer now (said model.Leave) (model.Gone msg.epoch.0) [])) (sym is))
      z.answer z.posts z.after refl (λ stands carries can h q got. absurd (cc))

  leave_comes : LooksHouse old msg.dir now → TakesLeave msg old new a o → Comes msg.floor model.Leave (take_leave now (said model.Leave) (now.slots msg.dir.0))
  leave_comes looks z = leave_by (leave_passed msg.epoch (get old.dirs msg.dir)) (leave_is (get old.dirs msg.dir) (now.slots msg.dir.0) looks) z

  -- ---- Joins

  join_is : (s : Option DirState) (slot : model.Slot) → LooksSlot old.house.0 s slot
      → option_map (λ (e : EpochNo). e.0) (join_passed msg.epoch s) ≡ late_join msg.epoch.0 slot
  join_is None model.Absent h = refl
  join_is (Some (state.Gone e)) (model.Gone k) h =
      if_epoch (nat_le msg.epoch.0 e.0) e ∙ ap (λ x. if nat_le msg.epoch.0 x then Some x else None) (sym h)
  join_is (Some (state.Held x)) (model.Held r) h =
      if_epoch (nat_lt msg.epoch.0 x.epoch.0) x.epoch ∙ ap (λ e. if nat_lt msg.epoch.0 e then Some e else None) (sym h.epoch)
  join_is None (model.Gone k) h = elim h [ ]
  join_is None (model.Held r) h = elim h [ ]
  join_is (Some (state.Gone e)) model.Absent h = elim h [ ]
  join_is (Some (state.Gone e)) (model.Held r) h = elim h [ ]
  join_is (Some (state.Held x)) model.Absent h = elim h [ ]
  join_is (Some (state.Held x)) (model.Gone k) h = elim h [ ]

  module _ (ms : List declared.Member) (copy : Replica) (c : model.Copy) (is_join : msg.body ≡ body.Join ms copy) where
    abbrev list : List Member
    list = members_of ms

    abbrev this : model.Message
    this = record { receiver = old.house.0; dir = msg.dir.0; sender = msg.from.0; epoch = msg.epoch.0; floor = msg.floor; body = model.Join (members_of ms) c }

    abbrev Comes_so : HouseStep → Type 0
    Comes_so s = Comes (latest_in_message msg) (model.Join (members_of ms) c) s

    carried : StandsBody msg.body (model.Join (members_of ms) c) → copy ≡ replica_of c.history c.all_up_to
    carried w = (subst (λ x. StandsBody x (model.Join (members_of ms) c)) is_join w).1

    -- the house has the copy
    has_copy : (between : Clearinghouse) (s : HouseStep) → s ≡ take_and_answer now this (model.Held (replica_of_copy this list c)) [] → a ≡ answers.Taken → o ≡ None
        → new ≡ record between { floor = record { time = max old.floor.time (latest_in_message msg) } } → Copies msg ms copy old between → Comes_so s
    has_copy between s is ans none after z =
        turns (state.Held (copy_of msg.epoch ms copy)) (model.Held (replica_of_copy this list c)) is ans none
        (after ∙ ap (λ (x : Clearinghouse). record x { floor = record { time = max old.floor.time (latest_in_message msg) } }) z)
        (record { epoch = refl; members = refl; phase = tt })
        (λ stands carries can h q got at.
        let mine : copy_of msg.epoch ms copy ≡ h = cc in
        let its : replica_of_copy this list c ≡ q = cc in
        ap (λ (x : Held). x.replica) (sym mine) ∙ carried carries ∙ ap (λ (x : model.Replica). replica_of x.history x.all_up_to) its)

    -- or it merges it in
    has_merged : (between : Clearinghouse) (s : HouseStep) (x : Held) (r : model.Replica) → s ≡ take_and_answer now this (model.Held (kept_at_join this list c r)) []
        → a ≡ answers.Taken → o ≡ None → new ≡ record between { floor = record { time = max old.floor.time (latest_in_message msg) } }
        → get old.dirs msg.dir ≡ Some (state.Held x) → now.slots msg.dir.0 ≡ model.Held r → r.epoch ≤ msg.epoch.0 → since_in list old.house.0 0 ≤ r.epoch
        → Merges msg ms copy old between x → Comes_so s
    has_merged between s x r is ans none after got held le since z =
        turns (state.Held z.held) (model.Held (kept_at_join this list c r)) is ans none
        (after ∙ ap (λ (y : Clearinghouse). record y { floor = record { time = max old.floor.time (latest_in_message msg) } }) z.after)
        (subst (λ h. LooksHeld old.house.0 h (kept_at_join this list c r)) (sym z.joins.rest) (record { epoch = refl; members = refl; phase = tt }))
        (λ stands carries can h q mine its.
        let w : StandsSlot old.house.0 old.floor.time (Some (state.Held x)) (model.Held r) =
        subst (λ y. StandsSlot old.house.0 old.floor.time y (model.Held r)) got
        (subst (λ y. StandsSlot old.house.0 old.floor.time (get old.dirs msg.dir) y) held (stands.slots msg.dir.0)) in
        let same : z.held ≡ h = cc in
        let kept : kept_at_join this list c r ≡ q = cc in
        ap (λ (y : Held). y.replica) (sym same)
        ∙ replica_taken x.replica copy z.held.replica r.history c.history r.all_up_to c.all_up_to w.replica (carried carries)
        (can.merges r c.history (together r.all_up_to c.all_up_to) held (of_join list c refl le since)) z.joins.replica
        ∙ ap (λ (y : model.Replica). replica_of y.history y.all_up_to) kept)

    by_term : (between : Clearinghouse) (s : HouseStep) (x : Held) (r : model.Replica) (b : Bool) → nat_le (since_in list old.house.0 0) x.epoch.0 ≡ b
        → LooksHeld old.house.0 x r
        → s ≡ take_and_answer now this (model.Held (if nat_le (since_in list old.house.0 0) r.epoch then kept_at_join this list c r else replica_of_copy this list c)) []
        → a ≡ answers.Taken → o ≡ None → new ≡ record between { floor = record { time = max old.floor.time (latest_in_message msg) } }
        → get old.dirs msg.dir ≡ Some (state.Held x) → now.slots msg.dir.0 ≡ model.Held r → r.epoch ≤ msg.epoch.0
        → MatchBool b (Merges msg ms copy old between x) (Copies msg ms copy old between) → Comes_so s
    by_term between s x r true term looks is ans none after got held le z =
        let kept : nat_le (since_in list old.house.0 0) r.epoch ≡ true = ap (nat_le (since_in list old.house.0 0)) looks.epoch ∙ term in
        has_merged between s x r (is ∙ ap (λ b. take_and_answer now this (model.Held (if b then kept_at_join this list c r else replica_of_copy this list c)) []) kept)
        ans none after got held le (le_from _ _ kept) z
    by_term between s x r false term looks is ans none after got held le z =
        let kept : nat_le (since_in list old.house.0 0) r.epoch ≡ false = ap (nat_le (since_in list old.house.0 0)) looks.epoch ∙ term in
        has_copy between s (is ∙ ap (λ b. take_and_answer now this (model.Held (if b then kept_at_join this list c r else replica_of_copy this list c)) []) kept) ans none after z

    by_slot : (between : Clearinghouse) (step : HouseStep) (s : Option DirState) (slot : model.Slot) → get old.dirs msg.dir ≡ s → now.slots msg.dir.0 ≡ slot
        → LooksSlot old.house.0 s slot → late_join msg.epoch.0 slot ≡ None → step ≡ take_and_answer now this (model.Held (join_replica this list c slot)) []
        → a ≡ answers.Taken → o ≡ None → new ≡ record between { floor = record { time = max old.floor.time (latest_in_message msg) } }
        → MatchOption (held_in s) (Copies msg ms copy old between)
        (λ h. MatchBool (nat_le (since_in list old.house.0 0) h.epoch.0) (Merges msg ms copy old between h) (Copies msg ms copy old between))
        → Comes_so step
    by_slot between step None model.Absent got held looks late is ans none after z = has_copy between step is ans none after z
    by_slot between step (Some (state.Gone e)) (model.Gone k) got held looks late is ans none after z = has_copy between step is ans none after z
    by_slot between step (Some (state.Held x)) (model.Held r) got held looks late is ans none after z =
        by_term between step x r (nat_le (since_in list old.house.0 0) x.epoch.0) refl looks is ans none after got held
        (not_late msg.epoch.0 r.epoch (nat_lt msg.epoch.0 r.epoch) refl late) z
    by_slot between step None (model.Gone k) got held looks late is ans none after z = elim looks [ ]
    by_slot between step None (model.Held r) got held looks late is ans none after z = elim looks [ ]
    by_slot between step (Some (state.Gone e)) model.Absent got held looks late is ans none after z = elim looks [ ]
    by_slot between step (Some (state.Gone e)) (model.Held r) got held looks late is ans none after z = elim looks [ ]
    by_slot between step (Some (state.Held x)) model.Absent got held looks late is ans none after z = elim looks [ ]
    by_slot between step (Some (state.Held x)) (model.Gone k) got held looks late is ans none after z = elim looks [ ]

    abbrev listed_or : Bool → Bool → HouseStep
    listed_or x y = if x && y then take_and_answer now this (model.Held (join_replica this list c (now.slots msg.dir.0))) [] else Stays command.Foreign

    by_listed : (step : HouseStep) (x y : Bool) → LooksHouse old msg.dir now → late_join msg.epoch.0 (now.slots msg.dir.0) ≡ None → step ≡ listed_or x y
        → MatchOption (if not x || not y then Some answers.Foreign else None) (HasJoined msg ms copy old new a o) (λ answer. Answers old new answer a o)
        → Comes_so step
    by_listed step true true looks late is z =
        by_slot z.between step (get old.dirs msg.dir) (now.slots msg.dir.0) refl refl looks late is z.answer z.posts z.after z.has
    by_listed step true false looks late is z = stays answers.Foreign command.Foreign is tt z
    by_listed step false true looks late is z = stays answers.Foreign command.Foreign is tt z
    by_listed step false false looks late is z = stays answers.Foreign command.Foreign is tt z

    join_by : (p : Option EpochNo) → option_map (λ (e : EpochNo). e.0) p ≡ late_join msg.epoch.0 (now.slots msg.dir.0) → LooksHouse old msg.dir now
        → MatchOption (join_foreign old.house.0 msg list p) (HasJoined msg ms copy old new a o) (λ answer. Answers old new answer a o)
        → Comes_so (take_join now this list c (now.slots msg.dir.0))
    join_by (Some e) is looks z =
        stays (answers.Late msg.epoch e) (command.Late msg.epoch.0 e.0)
        (ap (λ x. unless_late this x (listed_or (is_listed old.house.0 list) (is_listed msg.from.0 list))) (sym is)) (refl, refl) z
    join_by None is looks z =
        by_listed (take_join now this list c (now.slots msg.dir.0)) (is_listed old.house.0 list) (is_listed msg.from.0 list) looks (sym is)
        (ap (λ x. unless_late this x (listed_or (is_listed old.house.0 list) (is_listed msg.from.0 list))) (sym is)) z

    join_comes : LooksHouse old msg.dir now → TakesJoin msg ms copy old new a o → Comes_so (take_join now this list c (now.slots msg.dir.0))
    join_comes looks z = join_by (join_passed msg.epoch (get old.dirs msg.dir)) (join_is (get old.dirs msg.dir) (now.slots msg.dir.0) looks) looks z

-- ---- of any message of the model

slot_fine : (me floor : ℕ) (s : Option DirState) (slot : model.Slot) → StandsSlot me floor s slot → FineSlot floor slot
slot_fine me floor None model.Absent h q at = absurd (cc)
slot_fine me floor (Some (state.Gone e)) (model.Gone k) h q at = absurd (cc)
slot_fine me floor (Some (state.Held x)) (model.Held r) h q at =
    let same : r ≡ q = cc in subst (Fine floor) same (record { history = h.history; below = h.below })
slot_fine me floor None (model.Gone k) h q at = elim h [ ]
slot_fine me floor None (model.Held r) h q at = elim h [ ]
slot_fine me floor (Some (state.Gone e)) model.Absent h q at = elim h [ ]
slot_fine me floor (Some (state.Gone e)) (model.Held r) h q at = elim h [ ]
slot_fine me floor (Some (state.Held x)) model.Absent h q at = elim h [ ]
slot_fine me floor (Some (state.Held x)) (model.Gone k) h q at = elim h [ ]

house_fine : (c : Clearinghouse) (now : model.House) (dir : DirId) → StandsHouse c now → FineSlot now.floor (now.slots dir.0)
house_fine c now dir stands =
    subst (λ x. FineSlot x (now.slots dir.0)) (sym stands.floor) (slot_fine c.house.0 c.floor.time (get c.dirs dir) (now.slots dir.0) (stands.slots dir.0))

module _ (msg : Message) (now : model.House) (old new : Clearinghouse) (a : Taken) (o : Option Outgoing) where
  abbrev told : model.Body → model.Message
  told c = record { receiver = old.house.0; dir = msg.dir.0; sender = msg.from.0; epoch = msg.epoch.0; floor = msg.floor; body = c }

  carries_all : (c : model.Body) → StandsBody msg.body c → StandsMessage old.house.0 msg (told c)
  carries_all c w = record { head = record { receiver = refl; dir = refl; sender = refl; epoch = refl; floor = refl }; body = w }

  abbrev Step : model.Message → Type 0
  Step m = IsStep (IsTakeAnswer a) (take now m) old new (posts_at new msg.dir o)

  join_said : (ms : List declared.Member) (copy : Replica) (b : model.Body) → msg.body ≡ body.Join ms copy → StandsBody (body.Join ms copy) b
      → StandsHouse old now → CanTake now (told b) → TakesJoin msg ms copy old new a o → Step (told b)
  join_said ms copy (model.Join ns c) is w stands can z =
      subst (λ l. StandsBody msg.body (model.Join l c) → CanTake now (told (model.Join l c)) → Step (told (model.Join l c))) w.0
      (λ carries can.
      step_from msg now old new a o (latest_in_message msg) (model.Join (members_of ms) c) (take now (told (model.Join (members_of ms) c)))
      (join_comes msg now old new a o ms copy c is
      (slot_looks old.house.0 old.floor.time (get old.dirs msg.dir) (now.slots msg.dir.0) (stands.slots msg.dir.0)) z)
      stands carries can (latest_is old.house.0 msg (told (model.Join (members_of ms) c)) now (carries_all (model.Join (members_of ms) c) carries) can)
      (take_fine now (told (model.Join (members_of ms) c)) can (house_fine old now msg.dir stands)))
      (subst (λ x. StandsBody x (model.Join ns c)) (sym is) w) can
  join_said ms copy _ is w stands can z = elim w [ ]

  join_seen : (ms : List declared.Member) (copy : Replica) (b : model.Body) → msg.body ≡ body.Join ms copy → LooksBody (body.Join ms copy) b
      → LooksHouse old msg.dir now → TakesJoin msg ms copy old new a o → LooksStep (IsTakeAnswer a) (take now (told b)) msg.dir new
  join_seen ms copy (model.Join ns c) is w looks z =
      subst (λ l. LooksStep (IsTakeAnswer a) (take now (told (model.Join l c))) msg.dir new) w
      (looks_from msg now old new a o (latest_in_message msg) (model.Join (members_of ms) c) (take now (told (model.Join (members_of ms) c)))
      (join_comes msg now old new a o ms copy c is looks z))
  join_seen ms copy _ is w looks z = elim w [ ]

  leave_said : (b : model.Body) → msg.body ≡ body.Leave → StandsBody body.Leave b → StandsHouse old now → CanTake now (told b) → TakesLeave msg old new a o
      → Step (told b)
  leave_said model.Leave is w stands can z =
      step_from msg now old new a o msg.floor model.Leave (take now (told model.Leave))
      (leave_comes msg now old new a o (slot_looks old.house.0 old.floor.time (get old.dirs msg.dir) (now.slots msg.dir.0) (stands.slots msg.dir.0)) z)
      stands (subst (λ x. StandsBody x model.Leave) (sym is) tt) can refl (take_fine now (told model.Leave) can (house_fine old now msg.dir stands))
  leave_said _ is w stands can z = elim w [ ]

  leave_seen : (b : model.Body) → LooksBody body.Leave b → LooksHouse old msg.dir now → TakesLeave msg old new a o
      → LooksStep (IsTakeAnswer a) (take now (told b)) msg.dir new
  leave_seen model.Leave w looks z =
      looks_from msg now old new a o msg.floor model.Leave (take now (told model.Leave)) (leave_comes msg now old new a o looks z)
  leave_seen _ w looks z = elim w [ ]

  -- a Join is the step
  pub join_step : (ms : List declared.Member) (copy : Replica) (m : model.Message) → msg.body ≡ body.Join ms copy → StandsHouse old now
      → StandsMessage old.house.0 msg m → CanTake now m → TakesJoin msg ms copy old new a o → Step m
  join_step ms copy m is stands carries can z =
      subst (λ (x : model.Message). CanTake now x → Step x) (sym (message_is old.house.0 msg m carries.head))
      (λ can. join_said ms copy m.body is (subst (λ x. StandsBody x m.body) is carries.body) stands can z) can

  -- and looks so
  pub join_looks : (ms : List declared.Member) (copy : Replica) (m : model.Message) → msg.body ≡ body.Join ms copy → LooksHouse old msg.dir now
      → LooksMessage old.house.0 msg m → TakesJoin msg ms copy old new a o → LooksStep (IsTakeAnswer a) (take now m) msg.dir new
  join_looks ms copy m is looks carries z =
      subst (λ (x : model.Message). LooksStep (IsTakeAnswer a) (take now x) msg.dir new) (sym (message_is old.house.0 msg m carries.head))
      (join_seen ms copy m.body is (subst (λ x. LooksBody x m.body) is carries.body) looks z)

  -- a Leave is the step
  pub leave_step : (m : model.Message) → msg.body ≡ body.Leave → StandsHouse old now → StandsMessage old.house.0 msg m → CanTake now m
      → TakesLeave msg old new a o → Step m
  leave_step m is stands carries can z =
      subst (λ (x : model.Message). CanTake now x → Step x) (sym (message_is old.house.0 msg m carries.head))
      (λ can. leave_said m.body is (subst (λ x. StandsBody x m.body) is carries.body) stands can z) can

  -- and looks so
  pub leave_looks : (m : model.Message) → msg.body ≡ body.Leave → LooksHouse old msg.dir now → LooksMessage old.house.0 msg m → TakesLeave msg old new a o
      → LooksStep (IsTakeAnswer a) (take now m) msg.dir new
  leave_looks m is looks carries z =
      subst (λ (x : model.Message). LooksStep (IsTakeAnswer a) (take now x) msg.dir new) (sym (message_is old.house.0 msg m carries.head))
      (leave_seen m.body (subst (λ x. LooksBody x m.body) is carries.body) looks z)

-- ---- any other message

-- a message that is neither a Join nor a Leave, by what the house of the model has
take_is : (now : model.House) (m : model.Message) (b : model.Body) → rows.IsOther b → take_in now m b (now.slots m.dir) ≡ take_other now m b (now.slots m.dir)
take_is now m (model.Update marks) w = refl
take_is now m (model.Gather t) w = refl
take_is now m (model.Gathered t c) w = refl
take_is now m (model.Spread t c) w = refl
take_is now m (model.SpreadAck t) w = refl
take_is now m (model.Advance t) w = refl
take_is now m (model.Join ms c) w = elim w [ ]
take_is now m model.Leave w = elim w [ ]

-- the floor of what comes of a message, in both ways of telling it
floor_is : (a : Taken) (now floor latest old : ℕ) → now ≡ old → latest ≡ floor → max old (if is_taken a then latest else 0) ≡ floor_taken a now floor
floor_is answers.Taken now floor latest old same low = ap (λ x. max x latest) (sym same) ∙ ap (max now) low
floor_is (answers.Complete t) now floor latest old same low = ap (λ x. max x latest) (sym same) ∙ ap (max now) low
floor_is (answers.Late e f) now floor latest old same low = omega (arith, same)
floor_is (answers.Early e f) now floor latest old same low = omega (arith, same)
floor_is (answers.Stale t r) now floor latest old same low = omega (arith, same)
floor_is answers.NoReplica now floor latest old same low = omega (arith, same)
floor_is answers.Foreign now floor latest old same low = omega (arith, same)

module _ (msg : Message) (now : model.House) (old new : Clearinghouse) (a : Taken) (o : Option Outgoing) (m : model.Message) where
  nothing_posted : o ≡ None → posts_at new msg.dir o ≡ []
  nothing_posted none = ap (posts_at new msg.dir) none ∙ posts_none (sender_of new msg.dir) (get new.dirs msg.dir)

  abbrev Step_so : HouseStep → Type 0
  Step_so s = IsStep (IsTakeAnswer a) s old new (posts_at new msg.dir o)

  -- no replica is held
  none_step : Answers old new answers.NoReplica a o → Step_so (Stays command.NoReplica)
  none_step z = (subst (λ x. IsTakeAnswer x command.NoReplica) (sym z.1) tt, z.0, nothing_posted z.2)

  held_step : (h : Held) (r : model.Replica) → get old.dirs msg.dir ≡ Some (state.Held h) → now.slots msg.dir.0 ≡ model.Held r
      → StandsHeld old.house.0 now.floor h r
      → StandsHouse old now → StandsMessage old.house.0 msg m → CanTake now m → rows.IsOther m.body → TakesAt msg old new h a o
      → Step_so (take_other now m m.body (model.Held r))
  held_step h r got held here stands carries can other z =
      let floor : Floor = record { time = max old.floor.time (if is_taken a then latest_in_message msg else 0) } in
      let same : max old.floor.time (if is_taken a then latest_in_message msg else 0) ≡ floor_taken a now.floor msg.floor =
      floor_is a now.floor msg.floor (latest_in_message msg) old.floor.time stands.floor (latest_is old.house.0 msg m now carries can) in
      let step : HeldStep (IsTakeAnswer a) (take_other now m m.body (model.Held r)) now old.house msg.dir h z.held floor.time o =
      subst (λ x. HeldStep (IsTakeAnswer a) (take_other now m m.body (model.Held r)) now old.house msg.dir h z.held x o) (sym same)
      (other_step old.house msg m now h z.held r a o carries here can (ap now.slots carries.head.dir ∙ held) other z.takes) in
      subst (λ (x : Clearinghouse). IsStep (IsTakeAnswer a) (take_other now m m.body (model.Held r)) old x (posts_at x msg.dir o)) (sym z.after)
      (step_of (IsTakeAnswer a) (take_other now m m.body (model.Held r)) old now msg.dir h z.held floor o stands got (omega arith) step)

  slot_step : (s : Option DirState) (slot : model.Slot) → get old.dirs msg.dir ≡ s → now.slots msg.dir.0 ≡ slot → StandsSlot old.house.0 now.floor s slot
      → StandsHouse old now → StandsMessage old.house.0 msg m → CanTake now m → rows.IsOther m.body
      → MatchOption (held_in s) (Answers old new answers.NoReplica a o) (λ h. TakesAt msg old new h a o) → Step_so (take_other now m m.body slot)
  slot_step None model.Absent got held here stands carries can other z = none_step z
  slot_step (Some (state.Gone e)) (model.Gone k) got held here stands carries can other z = none_step z
  slot_step (Some (state.Held h)) (model.Held r) got held here stands carries can other z = held_step h r got held here stands carries can other z
  slot_step None (model.Gone k) got held here stands carries can other z = elim here [ ]
  slot_step None (model.Held r) got held here stands carries can other z = elim here [ ]
  slot_step (Some (state.Gone e)) model.Absent got held here stands carries can other z = elim here [ ]
  slot_step (Some (state.Gone e)) (model.Held r) got held here stands carries can other z = elim here [ ]
  slot_step (Some (state.Held h)) model.Absent got held here stands carries can other z = elim here [ ]
  slot_step (Some (state.Held h)) (model.Gone k) got held here stands carries can other z = elim here [ ]

  -- a message that is neither a Join nor a Leave is the step
  pub message_step : StandsHouse old now → StandsMessage old.house.0 msg m → CanTake now m → rows.IsOther m.body → TakesOther msg old new a o
      → IsStep (IsTakeAnswer a) (take now m) old new (posts_at new msg.dir o)
  message_step stands carries can other z =
      subst Step_so (sym (take_is now m m.body other))
      (subst (λ d. Step_so (take_other now m m.body (now.slots d))) (sym carries.head.dir)
      (slot_step (get old.dirs msg.dir) (now.slots msg.dir.0) refl refl
      (subst (λ x. StandsSlot old.house.0 x (get old.dirs msg.dir) (now.slots msg.dir.0)) (sym stands.floor) (stands.slots msg.dir.0))
      stands carries can other z))

  abbrev Looks_so : HouseStep → Type 0
  Looks_so s = LooksStep (IsTakeAnswer a) s msg.dir new

  none_looks : Answers old new answers.NoReplica a o → Looks_so (Stays command.NoReplica)
  none_looks z = subst (λ x. IsTakeAnswer x command.NoReplica) (sym z.1) tt

  after_looks : (s : HouseStep) (h : Held) → new ≡ record old { floor = new.floor; dirs = insert old.dirs msg.dir (state.Held h) }
      → LooksAfter (IsTakeAnswer a) s now old.house.0 msg.dir.0 h → Looks_so s
  after_looks (Stays answer) h after w = w
  after_looks (Turns t) h after w = (
    w.0,
    subst (λ (x : Clearinghouse). LooksHouse x msg.dir t.house) (sym after)
        (subst (λ x. LooksSlot old.house.0 x (t.house.slots msg.dir.0)) (sym (got_here old.dirs msg.dir (state.Held h)))
        (subst (λ (x : model.House). LooksSlot old.house.0 (Some (state.Held h)) (x.slots msg.dir.0)) (sym w.1.house)
        (subst (λ x. LooksSlot old.house.0 (Some (state.Held h)) x) (sym (put_same now.slots msg.dir.0 (model.Held w.1.replica))) w.1.looks))),
  )

  slot_seen : (s : Option DirState) (slot : model.Slot) → get old.dirs msg.dir ≡ s → LooksSlot old.house.0 s slot → LooksMessage old.house.0 msg m
      → MatchOption (held_in s) (Answers old new answers.NoReplica a o) (λ h. TakesAt msg old new h a o) → Looks_so (take_other now m m.body slot)
  slot_seen None model.Absent got here carries z = none_looks z
  slot_seen (Some (state.Gone e)) (model.Gone k) got here carries z = none_looks z
  slot_seen (Some (state.Held h)) (model.Held r) got here carries z =
      after_looks (take_other now m m.body (model.Held r)) z.held
      (z.after ∙ ap (λ f. record old { floor = f; dirs = insert old.dirs msg.dir (state.Held z.held) }) (ap (λ (x : Clearinghouse). x.floor) (sym z.after)))
      (other_looks old.house msg m now h z.held r a o carries here z.takes)
  slot_seen None (model.Gone k) got here carries z = elim here [ ]
  slot_seen None (model.Held r) got here carries z = elim here [ ]
  slot_seen (Some (state.Gone e)) model.Absent got here carries z = elim here [ ]
  slot_seen (Some (state.Gone e)) (model.Held r) got here carries z = elim here [ ]
  slot_seen (Some (state.Held h)) model.Absent got here carries z = elim here [ ]
  slot_seen (Some (state.Held h)) (model.Gone k) got here carries z = elim here [ ]

  -- and looks so
  pub message_looks : LooksHouse old msg.dir now → LooksMessage old.house.0 msg m → rows.IsOther m.body → TakesOther msg old new a o
      → LooksStep (IsTakeAnswer a) (take now m) msg.dir new
  message_looks looks carries other z =
      subst Looks_so (sym (take_is now m m.body other))
      (subst (λ d. Looks_so (take_other now m m.body (now.slots d))) (sym carries.head.dir)
      (slot_seen (get old.dirs msg.dir) (now.slots msg.dir.0) refl looks carries z))
