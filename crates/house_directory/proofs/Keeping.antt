-- What is held of a directory is lawful after a message.
use Rattle.std.proofs.Common.{◌≡◌, ℕ, ◌≤◌, Bool, true, false, length, Option, Some, None, refl, sym, ap, subst, ◌∙◌, arith}
use Rattle.std.specs.Prelude.{nat_lt, MatchBool, MatchOption, List, unwrap_or}
use Rattle.cds_stamps.specs.declared.members.Member as declared
use Rattle.cds_stamps.specs.declared.numbers.HouseNo.{HouseNo}
use Rattle.cds_stamps.specs.declared.stamp.Stamp.{Stamp}
use Rattle.cds_stamps.specs.Members.{members_of, place_of}
use Rattle.cds_stamps.specs.Places.{each_place}
use Rattle.cds_stamps.specs.Stamps.{is_stamp}
use Rattle.directory.specs.Entries.{IsValidTable}
use Rattle.purge_rule.specs.declared.delta.Delta.{Delta}
use Rattle.purge_rule.specs.declared.replica.Replica.{Replica}
use Rattle.purge_rule.specs.Replicas.{IsDelta}
use Rattle.purge_rule.specs.Latest.{DeltaUpTo}
use Rattle.purge_rule.proofs.Times.{latest_in_entry-≤, latest_in_delta-≤, latest_time-≤}
use Rattle.skulk_core.specs.declared.skulk.Skulk.{Skulk}
use Rattle.skulk_core.specs.declared.skulk.Skulk.TheVariants as skulk
use Rattle.skulk_core.specs.declared.skulk.Next.{Next}
use Rattle.skulk_core.specs.declared.skulk.Next.TheVariants as next
use Rattle.skulk_core.specs.MasterRounds.{Gathers, IsGathering, IsPhaseOf, IsSpreading, IsStale, Spreads, TakesGathered, TakesSpread, Waits, also, only, running_stamp}
use Rattle.cds_messages.specs.declared.message.Body.{Body}
use Rattle.cds_messages.specs.declared.message.Body.TheVariants as body
use Rattle.cds_messages.specs.declared.message.Message.{Message}
use Rattle.cds_messages.specs.Validity.{IsValidBody, IsValidMessage}
use Rattle.house_directory.specs.declared.states.Held.{Held}
use Rattle.house_directory.specs.declared.outgoing.Outgoing.{Outgoing}
use Rattle.house_directory.specs.declared.taking.Taken.{Taken}
use Rattle.house_directory.specs.declared.taking.Taken.TheVariants as answers
use Rattle.house_directory.specs.LawfulDirectories.{IsLawfulHeld, RunsSkulk}
use Rattle.house_directory.specs.DirectorySteps.{is_taken}
use Rattle.house_directory.specs.Times.{BodyUpTo, latest_in_body}
use Rattle.house_directory.specs.DirectoryTakes.{Advances, AfterGathered, AfterSpread, Answers, JoinsAnswer}
use Rattle.house_directory.specs.DirectoryTakes.{TakesDelta, TakesFirst, TakesHere, TakesOwn}
use Rattle.house_directory.specs.DirectoryTakes.{TakesSecond, place_in}

-- ---- times

-- a body with no time above n
pub body_within : (n : ℕ) (b : Body) → latest_in_body b ≤ n → BodyUpTo n b
body_within n (body.Update f) le = (latest_in_entry-≤ n f.entry).0 le
body_within n (body.Gather t) le = le
body_within n (body.Gathered t d) le = (omega (arith, le), (latest_in_delta-≤ n d).0 (omega (arith, le)))
body_within n (body.Spread t d) le = (omega (arith, le), (latest_in_delta-≤ n d).0 (omega (arith, le)))
body_within n (body.SpreadAck t) le = le
body_within n (body.Advance t) le = le
body_within n (body.Join ms r) le = (latest_time-≤ n r).0 le
body_within n body.Leave le = tt

-- ---- phases

-- a skulk that runs at the house is its own
abbrev IsOwn : (me n : ℕ) → List declared.Member → Skulk → Type 0
IsOwn me n ms s = (u : Stamp) → running_stamp s ≡ Some u → RunsSkulk me n ms s u

-- what runs ran before
abbrev Runs : (old new : Skulk) → Type 0
Runs old new = (u : Stamp) → running_stamp new ≡ Some u → running_stamp old ≡ Some u

runs_same : (old new : Skulk) → new ≡ old → Runs old new
runs_same old new is u h = ap running_stamp (sym is) ∙ h

runs_gathering : (v : Stamp) (test : ℕ → Bool) (old new : Skulk) → running_stamp old ≡ Some v → IsGathering v test new → Runs old new
runs_gathering v test old new was g u h = was ∙ ap running_stamp (sym g.round) ∙ h

runs_spreading : (v : Stamp) (test : ℕ → Bool) (old new : Skulk) → running_stamp old ≡ Some v → IsSpreading v test new → Runs old new
runs_spreading v test old new was g u h = was ∙ ap running_stamp (sym g.round) ∙ h

runs_idle : (old new : Skulk) → new ≡ skulk.Idle → Runs old new
runs_idle old new is u h = absurd (let e : None ≡ Some u = ap running_stamp (sym is) ∙ h in cc)

gathered_runs : (t : Stamp) (from n me : ℕ) (old new : Skulk) (x : Next) → TakesGathered t from n me old new x → Runs old new
gathered_runs t from n me skulk.Idle new x h = runs_same skulk.Idle new h.0
gathered_runs t from n me (skulk.Gathering v m) new x h = by (is_stamp t v) h
  where
    last : (b : Bool)
        → MatchBool b (IsSpreading v (only me) new × (x ≡ next.SendSpread)) (IsGathering v (also m from) new × (x ≡ next.Nothing))
        → Runs (skulk.Gathering v m) new
    last true w = runs_spreading v (only me) (skulk.Gathering v m) new refl w.0
    last false w = runs_gathering v (also m from) (skulk.Gathering v m) new refl w.0

    by : (b : Bool) → MatchBool b (Gathers v m from n me new x) (IsStale (skulk.Gathering v m) new x) → Runs (skulk.Gathering v m) new
    by true w = last (each_place n (also m from)) w
    by false w = runs_same (skulk.Gathering v m) new w.0
gathered_runs t from n me (skulk.Spreading v m) new x h = by (is_stamp t v) h
  where
    by : (b : Bool) → MatchBool b (Waits (skulk.Spreading v m) new x) (IsStale (skulk.Spreading v m) new x) → Runs (skulk.Spreading v m) new
    by true w = runs_same (skulk.Spreading v m) new w.0
    by false w = runs_same (skulk.Spreading v m) new w.0

spread_runs : (t : Stamp) (from n : ℕ) (old new : Skulk) (x : Next) → TakesSpread t from n old new x → Runs old new
spread_runs t from n skulk.Idle new x h = runs_same skulk.Idle new h.0
spread_runs t from n (skulk.Gathering v m) new x h = by (is_stamp t v) h
  where
    by : (b : Bool) → MatchBool b (Waits (skulk.Gathering v m) new x) (IsStale (skulk.Gathering v m) new x) → Runs (skulk.Gathering v m) new
    by true w = runs_same (skulk.Gathering v m) new w.0
    by false w = runs_same (skulk.Gathering v m) new w.0
spread_runs t from n (skulk.Spreading v m) new x h = by (is_stamp t v) h
  where
    last : (b : Bool) → MatchBool b ((new ≡ skulk.Idle) × (x ≡ next.Complete v)) (IsSpreading v (also m from) new × (x ≡ next.Nothing))
        → Runs (skulk.Spreading v m) new
    last true w = runs_idle (skulk.Spreading v m) new w.0
    last false w = runs_spreading v (also m from) (skulk.Spreading v m) new refl w.0

    by : (b : Bool) → MatchBool b (Spreads v m from n new x) (IsStale (skulk.Spreading v m) new x) → Runs (skulk.Spreading v m) new
    by true w = last (each_place n (also m from)) w
    by false w = runs_same (skulk.Spreading v m) new w.0

-- a stale answer of the second round leaves the phase
pub stale_phase : (t : Stamp) (from n : ℕ) (old new : Skulk) (ran : Option Stamp) → TakesSpread t from n old new (next.Stale ran) → new ≡ old
stale_phase t from n skulk.Idle new ran h = h.0
stale_phase t from n (skulk.Gathering u m) new ran h = by (is_stamp t u) h
  where
    by : (b : Bool) → MatchBool b (Waits (skulk.Gathering u m) new (next.Stale ran)) (IsStale (skulk.Gathering u m) new (next.Stale ran))
        → new ≡ skulk.Gathering u m
    by true w = w.0
    by false w = w.0
stale_phase t from n (skulk.Spreading u m) new ran h = by (is_stamp t u) h
  where
    last : (b : Bool)
        → MatchBool b ((new ≡ skulk.Idle) × (next.Stale ran ≡ next.Complete u)) (IsSpreading u (also m from) new × (next.Stale ran ≡ next.Nothing))
        → new ≡ skulk.Spreading u m
    last true w = absurd (let e = w.1 in cc)
    last false w = absurd (let e = w.1 in cc)

    by : (b : Bool) → MatchBool b (Spreads u m from n new (next.Stale ran)) (IsStale (skulk.Spreading u m) new (next.Stale ran))
        → new ≡ skulk.Spreading u m
    by true w = last (each_place n (also m from)) w
    by false w = w.0

-- the skulk that runs is the house's own still
runs_own : (me n : ℕ) (ms : List declared.Member) (old new : Skulk) → Runs old new
    → ((place : ℕ) → place_of me (members_of ms) ≡ Some place → IsPhaseOf (length ms) place old → IsPhaseOf (length ms) place new)
    → IsOwn me n ms old → IsOwn me n ms new
runs_own me n ms old new runs keeps own u h =
    let was = own u (runs u h) in
    record { time = was.time; place = was.place; member = was.member; round = keeps was.place was.member was.round }

-- ---- what is held

-- a delta is merged in, and the phase is this
merged_lawful : (me n : ℕ) (d : Delta) (phase : Skulk) (old new : Held) → TakesDelta old.replica d new.replica
    → new ≡ record old { replica = new.replica; skulk = phase } → IsLawfulHeld me n old → IsDelta d → DeltaUpTo n d
    → IsOwn me n old.members phase → IsLawfulHeld me n new
merged_lawful me n d phase old new takes rest lawful is below runs =
    subst (IsLawfulHeld me n) (sym rest)
    (record { valid = takes.valid lawful.valid is.valid; replica = takes.below n lawful.valid is.valid lawful.replica below; skulk = runs })

advanced_lawful : (me n : ℕ) (t : Stamp) (phase : Skulk) (old new : Held) → Advances old.replica t new.replica
    → new ≡ record old { replica = new.replica; skulk = phase } → IsLawfulHeld me n old → t.time ≤ n → IsOwn me n old.members phase
    → IsLawfulHeld me n new
advanced_lawful me n t phase old new takes rest lawful le runs =
    subst (IsLawfulHeld me n) (sym rest)
    (record { valid = takes.valid lawful.valid; replica = takes.below n lawful.valid lawful.replica le; skulk = runs })

-- whatever is answered, what is held is lawful up to n, if the body has no time above n where it is
-- taken
module _ (me : HouseNo) (n : ℕ) (old new : Held) (a : Taken) (o : Option Outgoing) (lawful : IsLawfulHeld me.0 n old) where
  same_lawful : new ≡ old → IsLawfulHeld me.0 n new
  same_lawful is = subst (IsLawfulHeld me.0 n) (sym is) lawful

  taken_is : a ≡ answers.Taken → is_taken a ≡ true
  taken_is is = ap is_taken is

  first_lawful : (from : ℕ) (t : Stamp) (r : Delta) → TakesFirst me from t r old new a o → IsDelta r
      → (is_taken a ≡ true → (t.time ≤ n) × DeltaUpTo n r) → IsLawfulHeld me.0 n new
  first_lawful from t r w valid up = by_next w.next w.after
    where
      keeps : (place : ℕ) → place_of me.0 (members_of old.members) ≡ Some place → IsPhaseOf (length old.members) place old.skulk
          → IsPhaseOf (length old.members) place w.phase
      keeps place here round =
          let at : place_in me old.members ≡ place = ap (λ p. unwrap_or p 0) here in
          subst (λ p. IsPhaseOf (length old.members) p w.phase) at (w.keeps (subst (λ p. IsPhaseOf (length old.members) p old.skulk) (sym at) round))

      own : IsOwn me.0 n old.members w.phase
      own =
          runs_own me.0 n old.members old.skulk w.phase
          (gathered_runs t from (length old.members) (place_in me old.members) old.skulk w.phase w.next w.does) keeps lawful.skulk

      joins : (x : Next) → JoinsAnswer t r w.phase x old new a o → IsLawfulHeld me.0 n new
      joins x j = let times = up (taken_is j.answer) in merged_lawful me.0 n r w.phase old new j.replica j.rest lawful valid times.1 own

      by_next : (x : Next) → AfterGathered t r w.phase x old new a o → IsLawfulHeld me.0 n new
      by_next (next.Stale ran) z = same_lawful z.0
      by_next next.Nothing z = joins next.Nothing z
      by_next next.SendSpread z = joins next.SendSpread z
      by_next (next.Complete u) z = joins (next.Complete u) z

  second_lawful : (from : ℕ) (t : Stamp) → TakesSecond from t old new a o → (is_taken a ≡ true → t.time ≤ n) → IsLawfulHeld me.0 n new
  second_lawful from t w up = by_next w.next w.does w.after
    where
      own : IsOwn me.0 n old.members new.skulk
      own =
          runs_own me.0 n old.members old.skulk new.skulk (spread_runs t from (length old.members) old.skulk new.skulk w.next w.does)
          (λ place here. w.keeps place) lawful.skulk

      waits : new ≡ record old { skulk = new.skulk } → IsLawfulHeld me.0 n new
      waits rest = subst (IsLawfulHeld me.0 n) (sym rest) (record { valid = lawful.valid; replica = lawful.replica; skulk = own })

      by_next : (x : Next) → TakesSpread t from (length old.members) old.skulk new.skulk x → AfterSpread t x old new a o → IsLawfulHeld me.0 n new
      by_next (next.Stale ran) does z =
          same_lawful (z.0 ∙ ap (λ k. record old { skulk = k }) (stale_phase t from (length old.members) old.skulk new.skulk ran does))
      by_next next.Nothing does z = waits z.0
      by_next next.SendSpread does z = waits z.0
      by_next (next.Complete u) does z = let le = up (ap is_taken z.2) in advanced_lawful me.0 n t new.skulk old new z.0 z.1 lawful le own

  own_lawful : (from : ℕ) (sender : HouseNo) (b : Body) → TakesOwn me from sender b old new a o → IsValidBody b
      → (is_taken a ≡ true → BodyUpTo n b) → IsLawfulHeld me.0 n new
  own_lawful from sender (body.Update f) z valid up =
      subst (IsLawfulHeld me.0 n) (sym z.1)
      (record { valid = z.0.valid lawful.valid valid; replica = z.0.below n lawful.valid valid lawful.replica (up (taken_is z.2)); skulk = lawful.skulk })
  own_lawful from sender (body.Gather t) z valid up = same_lawful z.0
  own_lawful from sender (body.Gathered t r) z valid up = first_lawful from t r z valid up
  own_lawful from sender (body.Spread t r) z valid up = merged_lawful me.0 n r old.skulk old new z.0 z.1 lawful valid (up (taken_is z.2)).1 lawful.skulk
  own_lawful from sender (body.SpreadAck t) z valid up = second_lawful from t z up
  own_lawful from sender (body.Advance t) z valid up = advanced_lawful me.0 n t old.skulk old new z.0 z.1 lawful (up (taken_is z.2)) lawful.skulk
  own_lawful from sender (body.Join ms r) z valid up = same_lawful z.0.0
  own_lawful from sender body.Leave z valid up = same_lawful z.0.0

  pub here_lawful : (m : Message) → TakesHere me m old new a o → IsValidMessage m → (is_taken a ≡ true → BodyUpTo n m.body) → IsLawfulHeld me.0 n new
  here_lawful m z valid up = early (nat_lt m.epoch.0 old.epoch.0) z
    where
      at : (p : Option ℕ) → MatchOption p (Answers old new answers.Foreign a o) (λ from. TakesOwn me from m.from m.body old new a o) → IsLawfulHeld me.0 n new
      at None w = same_lawful w.0
      at (Some from) w = own_lawful from m.from m.body w valid up

      late : (b : Bool)
          → MatchBool b (Answers old new (answers.Early m.epoch old.epoch) a o)
          (MatchOption (place_of m.from.0 (members_of old.members)) (Answers old new answers.Foreign a o) (λ from. TakesOwn me from m.from m.body old new a o))
          → IsLawfulHeld me.0 n new
      late true w = same_lawful w.0
      late false w = at (place_of m.from.0 (members_of old.members)) w

      early : (b : Bool)
          → MatchBool b (Answers old new (answers.Late m.epoch old.epoch) a o)
          (MatchBool (nat_lt old.epoch.0 m.epoch.0) (Answers old new (answers.Early m.epoch old.epoch) a o)
          (MatchOption (place_of m.from.0 (members_of old.members)) (Answers old new answers.Foreign a o) (λ from. TakesOwn me from m.from m.body old new a o)))
          → IsLawfulHeld me.0 n new
      early true w = same_lawful w.0
      early false w = late (nat_lt old.epoch.0 m.epoch.0) w
