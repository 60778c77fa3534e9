-- What a message makes of a clearinghouse, in all that the call promises.
use Rattle.std.proofs.Common.{◌≡◌, ◌≢◌, ℕ, Bool, true, false, List, length, Option, Some, None, Result, Ok, Err, refl, sym, ap, subst, ◌∙◌, arith}
use Rattle.std.specs.Prelude.{max, nat_lt, nat_le, if◌then◌else◌, MatchBool, MatchOption, IfOk, OnOk, OnErr}
use Rattle.std.specs.FinMap.{get, insert}
use Rattle.std.specs.declared.alloc.AllocError.{AllocError}
use Rattle.cds_stamps.specs.declared.members.Member as declared
use Rattle.cds_stamps.specs.declared.numbers.DirId.{DirId}
use Rattle.cds_stamps.specs.declared.numbers.EpochNo.{EpochNo}
use Rattle.cds_stamps.specs.declared.numbers.HouseNo.{HouseNo}
use Rattle.cds_stamps.specs.declared.stamp.Floor.{Floor}
use Rattle.cds_stamps.specs.declared.stamp.Stamp.{Stamp}
use Rattle.cds_stamps.specs.Members.{members_of, place_of, since_in}
use Rattle.purge_rule.specs.declared.delta.Delta.{Delta}
use Rattle.purge_rule.specs.declared.replica.Replica.{Replica}
use Rattle.skulk_core.specs.declared.skulk.Next.{Next}
use Rattle.skulk_core.specs.declared.skulk.Next.TheVariants as next
use Rattle.skulk_core.specs.MasterRounds.{TakesSpread}
use Rattle.cds_messages.specs.declared.message.Body.{Body}
use Rattle.cds_messages.specs.declared.message.Body.TheVariants as body
use Rattle.cds_messages.specs.declared.message.Message.{Message}
use Rattle.cds_messages.specs.Validity.{IsValidMessage}
use Rattle.cell_model.specs.Cells as model
use Rattle.cell_model.specs.Taking.{CanTake}
use Rattle.cell_model.specs.Turns.{take}
use Rattle.cell_model.proofs.Rows as rows
use Rattle.clearinghouse.specs.declared.house.Clearinghouse.{Clearinghouse}
use Rattle.house_directory.specs.declared.states.Held.{Held}
use Rattle.house_directory.specs.declared.states.DirState.{DirState}
use Rattle.house_directory.specs.declared.states.DirState.TheVariants as state
use Rattle.house_directory.specs.declared.outgoing.Outgoing.{Outgoing}
use Rattle.house_directory.specs.declared.outgoing.Turn.{Turn}
use Rattle.house_directory.specs.declared.taking.Taken.{Taken}
use Rattle.house_directory.specs.declared.taking.Taken.TheVariants as answers
use Rattle.clearinghouse.specs.LawfulHouses.{IsLawful}
use Rattle.house_directory.specs.HouseMessages.{LooksBody, LooksMessage, StandsMessage}
use Rattle.clearinghouse.specs.HouseLetters.{posts_at}
use Rattle.clearinghouse.specs.ModelHouses.{LooksHouse, StandsHouse}
use Rattle.house_directory.specs.DirectorySteps.{IsTakeAnswer, UnlessTaken, is_taken}
use Rattle.clearinghouse.specs.HouseSteps.{IsStep, LooksStep}
use Rattle.clearinghouse.specs.HouseTakes.{Takes, TakesBody}
use Rattle.house_directory.specs.Times.{latest_in_message}
use Rattle.clearinghouse.specs.PrivateTurns.{Heeds, SameHouse}
use Rattle.house_directory.specs.DirectoryTakes.{AfterGathered, AfterSpread, Answers, TakesFirst}
use Rattle.clearinghouse.specs.HouseTakes.{Copies, HasCopy, HasJoined, HasLeft, Merges, TakesAt}
use Rattle.house_directory.specs.DirectoryTakes.{TakesHere, TakesOwn, TakesSecond, copy_of, held_in, join_bar}
use Rattle.clearinghouse.specs.HouseTakes.{TakesJoin, TakesLeave, TakesOther, with_directory_state}
use Rattle.house_directory.specs.DirectoryTakes.{leave_passed}
use Rattle.clearinghouse.proofs.Houses.{got_there, same_house}
use Rattle.house_directory.proofs.Keeping.{stale_phase}
use Rattle.clearinghouse.proofs.Keeping.{other_kept, join_kept, leave_kept}
use Rattle.house_directory.proofs.Maps.{if_ok_map}
use Rattle.house_directory.proofs.TakeSteps.{body_looks}
use Rattle.clearinghouse.proofs.JoinSteps.{message_step, message_looks, join_step, join_looks, leave_step, leave_looks}

-- what the call makes of the clearinghouse, what it answers, and what is to be posted
pub record Does (msg : Message) (old new : Clearinghouse) (a : Taken) (o : Option Outgoing) : Type 0 where
  pub who : SameHouse old new
  pub same : UnlessTaken a ((new ≡ old) × (o ≡ None))
  pub takes : Takes msg old new a o
  pub kept : IsValidMessage msg → IsLawful old → IsLawful new
  pub others : (dir : DirId) → dir ≢ msg.dir → get new.dirs dir ≡ get old.dirs dir
  pub looks : (now : model.House) (m : model.Message) → LooksHouse old msg.dir now → LooksMessage old.house.0 msg m
      → LooksStep (IsTakeAnswer a) (take now m) msg.dir new
  pub step : (now : model.House) (m : model.Message) → StandsHouse old now → StandsMessage old.house.0 msg m → CanTake now m
      → IsStep (IsTakeAnswer a) (take now m) old new (posts_at new msg.dir o)

-- ---- what is not taken changes nothing

-- what holds anyway
unless_of : (a : Taken) (P : Type 0) → P → UnlessTaken a P
unless_of answers.Taken P h = tt
unless_of (answers.Complete t) P h = tt
unless_of (answers.Late e f) P h = h
unless_of (answers.Early e f) P h = h
unless_of (answers.Stale t r) P h = h
unless_of answers.NoReplica P h = h
unless_of answers.Foreign P h = h

taken_so : (a : Taken) (P : Type 0) → a ≡ answers.Taken → UnlessTaken a P
taken_so a P is = subst (λ x. UnlessTaken x P) (sym is) tt

completed_so : (a : Taken) (t : Stamp) (P : Type 0) → a ≡ answers.Complete t → UnlessTaken a P
completed_so a t P is = subst (λ x. UnlessTaken x P) (sym is) tt

first_same : (me : HouseNo) (from : ℕ) (t : Stamp) (r : Delta) (old new : Held) (a : Taken) (o : Option Outgoing) → TakesFirst me from t r old new a o
    → UnlessTaken a ((new ≡ old) × (o ≡ None))
first_same me from t r old new a o w = by_next w.next w.after
  where
    by_next : (n : Next) → AfterGathered t r w.phase n old new a o → UnlessTaken a ((new ≡ old) × (o ≡ None))
    by_next (next.Stale running) z = unless_of a ((new ≡ old) × (o ≡ None)) (z.0, z.2)
    by_next next.Nothing z = taken_so a ((new ≡ old) × (o ≡ None)) z.answer
    by_next next.SendSpread z = taken_so a ((new ≡ old) × (o ≡ None)) z.answer
    by_next (next.Complete u) z = taken_so a ((new ≡ old) × (o ≡ None)) z.answer

second_same : (from : ℕ) (t : Stamp) (old new : Held) (a : Taken) (o : Option Outgoing) → TakesSecond from t old new a o
    → UnlessTaken a ((new ≡ old) × (o ≡ None))
second_same from t old new a o w = by_next w.next w.does w.after
  where
    by_next : (n : Next) → TakesSpread t from (length old.members) old.skulk new.skulk n → AfterSpread t n old new a o
        → UnlessTaken a ((new ≡ old) × (o ≡ None))
    by_next (next.Stale running) does z =
        let same : new ≡ old =
        z.0 ∙ ap (λ k. record old { skulk = k }) (stale_phase t from (length old.members) old.skulk new.skulk running does) in
        unless_of a ((new ≡ old) × (o ≡ None)) (same, z.2)
    by_next next.Nothing does z = taken_so a ((new ≡ old) × (o ≡ None)) z.1
    by_next next.SendSpread does z = taken_so a ((new ≡ old) × (o ≡ None)) z.1
    by_next (next.Complete u) does z = completed_so a t ((new ≡ old) × (o ≡ None)) z.2

own_same : (me : HouseNo) (from : ℕ) (sender : HouseNo) (b : Body) (old new : Held) (a : Taken) (o : Option Outgoing) → TakesOwn me from sender b old new a o
    → UnlessTaken a ((new ≡ old) × (o ≡ None))
own_same me from sender (body.Update f) old new a o z = taken_so a ((new ≡ old) × (o ≡ None)) z.2
own_same me from sender (body.Gather t) old new a o z = taken_so a ((new ≡ old) × (o ≡ None)) z.1
own_same me from sender (body.Gathered t r) old new a o z = first_same me from t r old new a o z
own_same me from sender (body.Spread t r) old new a o z = taken_so a ((new ≡ old) × (o ≡ None)) z.2
own_same me from sender (body.SpreadAck t) old new a o z = second_same from t old new a o z
own_same me from sender (body.Advance t) old new a o z = taken_so a ((new ≡ old) × (o ≡ None)) z.2
own_same me from sender (body.Join ms r) old new a o z = unless_of a ((new ≡ old) × (o ≡ None)) z.0
own_same me from sender body.Leave old new a o z = unless_of a ((new ≡ old) × (o ≡ None)) z.0

-- what becomes of what is held
here_same : (me : HouseNo) (m : Message) (old new : Held) (a : Taken) (o : Option Outgoing) → TakesHere me m old new a o
    → UnlessTaken a ((new ≡ old) × (o ≡ None))
here_same me m old new a o z = early (nat_lt m.epoch.0 old.epoch.0) z
  where
    at : (p : Option ℕ) → MatchOption p (Answers old new answers.Foreign a o) (λ from. TakesOwn me from m.from m.body old new a o)
        → UnlessTaken a ((new ≡ old) × (o ≡ None))
    at None w = unless_of a ((new ≡ old) × (o ≡ None)) (w.0, w.2)
    at (Some from) w = own_same me from m.from m.body old new a o w

    late : (b : Bool)
        → MatchBool b (Answers old new (answers.Early m.epoch old.epoch) a o)
        (MatchOption (place_of m.from.0 (members_of old.members)) (Answers old new answers.Foreign a o) (λ from. TakesOwn me from m.from m.body old new a o))
        → UnlessTaken a ((new ≡ old) × (o ≡ None))
    late true w = unless_of a ((new ≡ old) × (o ≡ None)) (w.0, w.2)
    late false w = at (place_of m.from.0 (members_of old.members)) w

    early : (b : Bool)
        → MatchBool b (Answers old new (answers.Late m.epoch old.epoch) a o)
        (MatchBool (nat_lt old.epoch.0 m.epoch.0) (Answers old new (answers.Early m.epoch old.epoch) a o)
        (MatchOption (place_of m.from.0 (members_of old.members)) (Answers old new answers.Foreign a o) (λ from. TakesOwn me from m.from m.body old new a o)))
        → UnlessTaken a ((new ≡ old) × (o ≡ None))
    early true w = unless_of a ((new ≡ old) × (o ≡ None)) (w.0, w.2)
    early false w = late (nat_lt old.epoch.0 m.epoch.0) w

-- so of the clearinghouse
at_same : (m : Message) (old new : Clearinghouse) (h : Held) (a : Taken) (o : Option Outgoing) → Some h ≡ held_in (get old.dirs m.dir) → TakesAt m old new h a o
    → UnlessTaken a ((new ≡ old) × (o ≡ None))
at_same m old new h a o here z = by a (here_same old.house m h z.held a o z.takes) z.after
  where
    stays : z.held ≡ h → new ≡ with_directory_state old m 0 (state.Held z.held) → new ≡ old
    stays same after =
        let low : max old.floor.time 0 ≡ old.floor.time = omega arith in
        after ∙ same_house old m.dir h z.held (record { time = max old.floor.time 0 }) here same (λ i. record { time = low i })

    by : (b : Taken) → UnlessTaken b ((z.held ≡ h) × (o ≡ None)) → new ≡ with_directory_state old m (if is_taken b then latest_in_message m else 0) (state.Held z.held)
        → UnlessTaken b ((new ≡ old) × (o ≡ None))
    by answers.Taken u after = tt
    by (answers.Complete t) u after = tt
    by (answers.Late e f) u after = (stays u.0 after, u.1)
    by (answers.Early e f) u after = (stays u.0 after, u.1)
    by (answers.Stale t r) u after = (stays u.0 after, u.1)
    by answers.NoReplica u after = (stays u.0 after, u.1)
    by answers.Foreign u after = (stays u.0 after, u.1)

-- ---- who the house is, and what it has of other directories

-- a clearinghouse that is as another, but for its floor and one directory
abbrev pub Besides : (m : Message) (old new : Clearinghouse) → Type 0
Besides m old new = SameHouse old new × ((dir : DirId) → dir ≢ m.dir → get new.dirs dir ≡ get old.dirs dir)

besides_none : (m : Message) (old new : Clearinghouse) → new ≡ old → Besides m old new
besides_none m old new is = (
  record { house = ap (λ (c : Clearinghouse). c.house) is; node = ap (λ (c : Clearinghouse). c.node) is; spent = ap (λ (c : Clearinghouse). c.spent) is },
  λ dir other. ap (λ (c : Clearinghouse). get c.dirs dir) is,
)

besides_one : (m : Message) (old new : Clearinghouse) (floor : Floor) (s : DirState) → new ≡ record old { floor = floor; dirs = insert old.dirs m.dir s }
    → Besides m old new
besides_one m old new floor s is = (
  record { house = ap (λ (c : Clearinghouse). c.house) is; node = ap (λ (c : Clearinghouse). c.node) is; spent = ap (λ (c : Clearinghouse). c.spent) is },
  λ dir other. ap (λ (c : Clearinghouse). get c.dirs dir) is ∙ got_there old.dirs m.dir dir s other,
)

copy_besides : (m : Message) (ms : List declared.Member) (r : Replica) (old new : Clearinghouse) → HasCopy m ms r old new → Besides m old new
copy_besides m ms r old new has = by_held (held_in (get old.dirs m.dir)) has
  where
    over : Copies m ms r old new → Besides m old new
    over z = besides_one m old new old.floor (state.Held (copy_of m.epoch ms r)) z

    by_term : (h : Held) (b : Bool) → MatchBool b (Merges m ms r old new h) (Copies m ms r old new) → Besides m old new
    by_term h true z = besides_one m old new old.floor (state.Held z.held) z.after
    by_term h false z = over z

    by_held : (o : Option Held)
        → MatchOption o (Copies m ms r old new)
        (λ h. MatchBool (nat_le (since_in (members_of ms) old.house.0 0) h.epoch.0) (Merges m ms r old new h) (Copies m ms r old new))
        → Besides m old new
    by_held None z = over z
    by_held (Some h) z = by_term h (nat_le (since_in (members_of ms) old.house.0 0) h.epoch.0) z

joined_besides : (m : Message) (ms : List declared.Member) (r : Replica) (old new : Clearinghouse) (a : Taken) (o : Option Outgoing)
    → HasJoined m ms r old new a o
    → Besides m old new
joined_besides m ms r old new a o z =
    let between = copy_besides m ms r old z.between z.has in (
      record {
        house = ap (λ (c : Clearinghouse). c.house) z.after ∙ between.0.house;
        node = ap (λ (c : Clearinghouse). c.node) z.after ∙ between.0.node;
        spent = ap (λ (c : Clearinghouse). c.spent) z.after ∙ between.0.spent;
      },
      λ dir other. ap (λ (c : Clearinghouse). get c.dirs dir) z.after ∙ between.1 dir other,
    )

-- ---- the three kinds of messages

-- a body that is neither a Join nor a Leave
other_of : (b : Body) (c : model.Body) → ((ms : List declared.Member) (r : Replica) → b ≡ body.Join ms r → ⊥) → (b ≡ body.Leave → ⊥) → LooksBody b c
    → rows.IsOther c
other_of b (model.Update marks) j l z = tt
other_of b (model.Gather t) j l z = tt
other_of b (model.Gathered t c) j l z = tt
other_of b (model.Spread t c) j l z = tt
other_of b (model.SpreadAck t) j l z = tt
other_of b (model.Advance t) j l z = tt
other_of (body.Join ms r) (model.Join ns c) j l z = j ms r refl
other_of (body.Update f) (model.Join ns c) j l z = z
other_of (body.Gather t) (model.Join ns c) j l z = z
other_of (body.Gathered t r) (model.Join ns c) j l z = z
other_of (body.Spread t r) (model.Join ns c) j l z = z
other_of (body.SpreadAck t) (model.Join ns c) j l z = z
other_of (body.Advance t) (model.Join ns c) j l z = z
other_of body.Leave (model.Join ns c) j l z = z
other_of body.Leave model.Leave j l z = l refl
other_of (body.Join ms r) model.Leave j l z = z
other_of (body.Update f) model.Leave j l z = z
other_of (body.Gather t) model.Leave j l z = z
other_of (body.Gathered t r) model.Leave j l z = z
other_of (body.Spread t r) model.Leave j l z = z
other_of (body.SpreadAck t) model.Leave j l z = z
other_of (body.Advance t) model.Leave j l z = z

-- what becomes of a clearinghouse where a message is neither
other_takes : (b : Body) (msg : Message) (old new : Clearinghouse) (a : Taken) (o : Option Outgoing)
    → ((ms : List declared.Member) (r : Replica) → b ≡ body.Join ms r → ⊥) → (b ≡ body.Leave → ⊥) → TakesOther msg old new a o
    → TakesBody b msg old new a o
other_takes (body.Update f) msg old new a o j l z = z
other_takes (body.Gather t) msg old new a o j l z = z
other_takes (body.Gathered t r) msg old new a o j l z = z
other_takes (body.Spread t r) msg old new a o j l z = z
other_takes (body.SpreadAck t) msg old new a o j l z = z
other_takes (body.Advance t) msg old new a o j l z = z
other_takes (body.Join ms r) msg old new a o j l z = absurd (j ms r refl)
other_takes body.Leave msg old new a o j l z = absurd (l refl)

-- any message but a Join or a Leave
pub other_does : (msg : Message) (old new : Clearinghouse) (a : Taken) (o : Option Outgoing)
    → ((ms : List declared.Member) (r : Replica) → msg.body ≡ body.Join ms r → ⊥)
    → (msg.body ≡ body.Leave → ⊥) → TakesOther msg old new a o → Does msg old new a o
other_does msg old new a o not-join not-leave z =
    let rest = by (held_in (get old.dirs msg.dir)) refl z in
    record {
      who = rest.0.0;
      same = rest.1;
      takes = other_takes msg.body msg old new a o not-join not-leave z;
      kept = λ valid. other_kept msg old new a o valid z;
      others = rest.0.1;
      looks = λ now m looks carries. message_looks msg now old new a o m looks carries (other_of msg.body m.body not-join not-leave carries.body) z;
      step = λ now m stands carries can.
          message_step msg now old new a o m stands carries can (other_of msg.body m.body not-join not-leave (body_looks msg.body m.body carries.body)) z;
    }
  where
    by : (h : Option Held) → h ≡ held_in (get old.dirs msg.dir) → MatchOption h (Answers old new answers.NoReplica a o) (λ h. TakesAt msg old new h a o)
        → Besides msg old new × UnlessTaken a ((new ≡ old) × (o ≡ None))
    by None is w = (besides_none msg old new w.0, unless_of a ((new ≡ old) × (o ≡ None)) (w.0, w.2))
    by (Some h) is w = (
      besides_one msg old new (record { time = max old.floor.time (if is_taken a then latest_in_message msg else 0) }) (state.Held w.held) w.after,
      at_same msg old new h a o is w,
    )

-- a Join
pub join_does : (msg : Message) (ms : List declared.Member) (r : Replica) (old new : Clearinghouse) (a : Taken) (o : Option Outgoing)
    → msg.body ≡ body.Join ms r
    → TakesJoin msg ms r old new a o → Does msg old new a o
join_does msg ms r old new a o is z =
    let rest = by (join_bar old.house.0 msg (members_of ms) (get old.dirs msg.dir)) z in
    record {
      who = rest.0.0;
      same = rest.1;
      takes = subst (λ b. TakesBody b msg old new a o) (sym is) z;
      kept = λ valid. join_kept msg ms r old new a o is valid z;
      others = rest.0.1;
      looks = λ now m looks carries. join_looks msg now old new a o ms r m is looks carries z;
      step = λ now m stands carries can. join_step msg now old new a o ms r m is stands carries can z;
    }
  where
    by : (bar : Option Taken) → MatchOption bar (HasJoined msg ms r old new a o) (λ answer. Answers old new answer a o)
        → Besides msg old new × UnlessTaken a ((new ≡ old) × (o ≡ None))
    by None w = (joined_besides msg ms r old new a o w, taken_so a ((new ≡ old) × (o ≡ None)) w.answer)
    by (Some answer) w = (besides_none msg old new w.0, unless_of a ((new ≡ old) × (o ≡ None)) (w.0, w.2))

-- a Leave
pub leave_does : (msg : Message) (old new : Clearinghouse) (a : Taken) (o : Option Outgoing) → msg.body ≡ body.Leave → TakesLeave msg old new a o
    → Does msg old new a o
leave_does msg old new a o is z =
    let rest = by (leave_passed msg.epoch (get old.dirs msg.dir)) z in
    record {
      who = rest.0.0;
      same = rest.1;
      takes = subst (λ b. TakesBody b msg old new a o) (sym is) z;
      kept = λ valid. leave_kept msg old new a o z;
      others = rest.0.1;
      looks = λ now m looks carries. leave_looks msg now old new a o m is looks carries z;
      step = λ now m stands carries can. leave_step msg now old new a o m is stands carries can z;
    }
  where
    by : (passed : Option EpochNo) → MatchOption passed (HasLeft msg old new a o) (λ e. Answers old new (answers.Late msg.epoch e) a o)
        → Besides msg old new × UnlessTaken a ((new ≡ old) × (o ≡ None))
    by None w = (
      besides_one msg old new (record { time = max old.floor.time msg.floor }) (state.Gone msg.epoch) w.after,
      taken_so a ((new ≡ old) × (o ≡ None)) w.answer,
    )
    by (Some e) w = (besides_none msg old new w.0, unless_of a ((new ≡ old) × (o ≡ None)) (w.0, w.2))

-- ---- the call, which may want for memory

-- it does so, or changes nothing
pub record DoesOr (msg : Message) (old new : Clearinghouse) (done : Result (Turn Taken) AllocError) : Type 0 where
  pub does : IfOk done (λ t. Does msg old new t.answer t.outgoing)
  pub wants : OnErr done (new ≡ old)

-- by what the part of the call promises
does_or : (msg : Message) (old mid new : Clearinghouse) (done result : Result (Turn Taken) AllocError) (P : Turn Taken → Type 0) → new ≡ mid → result ≡ done
    → ((t : Turn Taken) → P t → Does msg old mid t.answer t.outgoing) → IfOk done P → OnErr done (mid ≡ old) → DoesOr msg old new result
does_or msg old mid new done result P self is each ok err =
    subst (λ x. DoesOr msg old x result) (sym self)
    (subst (DoesOr msg old mid) (sym is) (record { does = if_ok_map P (λ t. Does msg old mid t.answer t.outgoing) done each ok; wants = err }))

-- a call with a message that is neither a Join nor a Leave does what is promised, or wants for
-- memory and changes nothing
pub done_other : (msg : Message) (old mid new : Clearinghouse) (done result : Result (Turn Taken) AllocError) → new ≡ mid → result ≡ done
    → ((ms : List declared.Member) (r : Replica) → msg.body ≡ body.Join ms r → ⊥) → (msg.body ≡ body.Leave → ⊥)
    → IfOk done (λ t. TakesOther msg old mid t.answer t.outgoing) → OnErr done (mid ≡ old) → DoesOr msg old new result
done_other msg old mid new done result self is not-join not-leave ok err =
    does_or msg old mid new done result (λ t. TakesOther msg old mid t.answer t.outgoing) self is
    (λ t z. other_does msg old mid t.answer t.outgoing not-join not-leave z) ok err

-- a call with a Join does what is promised, or wants for memory and changes nothing
pub done_join : (msg : Message) (ms : List declared.Member) (r : Replica) (old mid new : Clearinghouse) (done result : Result (Turn Taken) AllocError)
    → new ≡ mid → result ≡ done → msg.body ≡ body.Join ms r → IfOk done (λ t. TakesJoin msg ms r old mid t.answer t.outgoing) → OnErr done (mid ≡ old)
    → DoesOr msg old new result
done_join msg ms r old mid new done result self is join ok err =
    does_or msg old mid new done result (λ t. TakesJoin msg ms r old mid t.answer t.outgoing) self is
    (λ t z. join_does msg ms r old mid t.answer t.outgoing join z) ok err

-- a call with a Leave does what is promised, or wants for memory and changes nothing
pub done_leave : (msg : Message) (old mid new : Clearinghouse) (done result : Result (Turn Taken) AllocError) → new ≡ mid → result ≡ done
    → msg.body ≡ body.Leave → IfOk done (λ t. TakesLeave msg old mid t.answer t.outgoing) → OnErr done (mid ≡ old) → DoesOr msg old new result
done_leave msg old mid new done result self is leave ok err =
    does_or msg old mid new done result (λ t. TakesLeave msg old mid t.answer t.outgoing) self is
    (λ t z. leave_does msg old mid t.answer t.outgoing leave z) ok err

-- what it tells of a call that returns
pub or_told : (msg : Message) (old new : Clearinghouse) (done : Result (Turn Taken) AllocError) (P : Turn Taken → Type 0)
    → ((t : Turn Taken) → Does msg old new t.answer t.outgoing → P t) → DoesOr msg old new done → IfOk done P
or_told msg old new done P each d = if_ok_map (λ t. Does msg old new t.answer t.outgoing) P done each d.does

-- who the house is
pub or_who : (msg : Message) (old new : Clearinghouse) (done : Result (Turn Taken) AllocError) → DoesOr msg old new done → SameHouse old new
or_who msg old new done d = by done d.does d.wants
  where
    by : (r : Result (Turn Taken) AllocError) → IfOk r (λ t. Does msg old new t.answer t.outgoing) → OnErr r (new ≡ old) → SameHouse old new
    by (Ok t) does wants = does.who
    by (Err e) does wants = (besides_none msg old new wants).0

-- and what it has of other directories
pub or_others : (msg : Message) (old mid new : Clearinghouse) (done result : Result (Turn Taken) AllocError) → result ≡ done → Heeds mid new done
    → DoesOr msg old mid done → OnOk result ((dir : DirId) → dir ≢ msg.dir → get new.dirs dir ≡ get old.dirs dir)
or_others msg old mid new done result is heeds d =
    subst (λ r. OnOk r ((dir : DirId) → dir ≢ msg.dir → get new.dirs dir ≡ get old.dirs dir)) (sym is) (by done d.does heeds.same)
  where
    by : (r : Result (Turn Taken) AllocError) → IfOk r (λ t. Does msg old mid t.answer t.outgoing) → OnOk r (new ≡ mid)
        → OnOk r ((dir : DirId) → dir ≢ msg.dir → get new.dirs dir ≡ get old.dirs dir)
    by (Ok t) does same = λ dir other. ap (λ (c : Clearinghouse). get c.dirs dir) same ∙ does.others dir other
    by (Err e) does same = tt

-- and that it stays lawful
pub or_kept : (msg : Message) (old new : Clearinghouse) (done : Result (Turn Taken) AllocError) → DoesOr msg old new done → IsValidMessage msg → IsLawful old
    → IsLawful new
or_kept msg old new done d valid lawful = by done d.does d.wants
  where
    by : (r : Result (Turn Taken) AllocError) → IfOk r (λ t. Does msg old new t.answer t.outgoing) → OnErr r (new ≡ old) → IsLawful new
    by (Ok t) does wants = does.kept valid lawful
    by (Err e) does wants = subst IsLawful (sym wants) lawful
