-- New directories and new epochs.
use Rattle.std.proofs.Common.{◌≡◌, ℕ, ◌<◌, Bool, true, false, List, [], Option, Some, None, Result, Ok, Err, refl, sym, ap, subst, ◌∙◌, arith, le_refl}
use Rattle.std.specs.Prelude.{IfOk, OnOk, OnErr, nat_lt, nat_le, if◌then◌else◌}
use Rattle.std.specs.Result.{result_err}
use Rattle.std.specs.FinMap.{get, insert}
use Rattle.std.specs.declared.alloc.AllocError.{AllocError}
use Rattle.std.proofs.lemmas.Bool.Decides.{nat_tests}
use Rattle.attr_sets.proofs.Greatest.{Contains-none}
use Rattle.cds_stamps.specs.declared.members.Member as declared
use Rattle.cds_stamps.specs.declared.numbers.DirId.{DirId}
use Rattle.cds_stamps.specs.declared.numbers.EpochNo.{EpochNo}
use Rattle.cds_stamps.specs.declared.numbers.HouseNo.{HouseNo}
use Rattle.cds_stamps.specs.Members.{Member, members_of, others_of, since_in}
use Rattle.directory.specs.declared.update.UpdateRefusal.TheVariants as why
use Rattle.directory.proofs.TableLaws.{table_of-valid}
use Rattle.purge_rule.proofs.Times.{table_of-up_to}
use Rattle.skulk_core.specs.declared.skulk.Skulk.TheVariants as skulk
use Rattle.cell_model.specs.Cells as model
use Rattle.cell_model.specs.Commands as command
use Rattle.cell_model.specs.Turns as turn
use Rattle.cell_model.specs.Turns.{copy_of, epoch_posts, epoch_replica, first_replica, found_directory, with_slot, new_epoch, new_epoch_in, to_each}
use Rattle.house_directory.specs.declared.epochs.EpochRefusal.{EpochRefusal}
use Rattle.house_directory.specs.declared.epochs.EpochRefusal.TheVariants as refusal
use Rattle.clearinghouse.specs.declared.house.Clearinghouse.{Clearinghouse}
use Rattle.house_directory.specs.declared.outgoing.Outgoing.{Outgoing}
use Rattle.house_directory.specs.declared.outgoing.Outgoing.TheVariants as out
use Rattle.house_directory.specs.declared.states.DirState.{DirState}
use Rattle.house_directory.specs.declared.states.DirState.TheVariants as state
use Rattle.house_directory.specs.declared.states.Held.{Held}
use Rattle.house_directory.specs.LawfulDirectories.{IsLawfulHeld}
use Rattle.clearinghouse.specs.LawfulHouses.{IsLawful}
use Rattle.house_directory.specs.HouseMessages.{StandEach, leave_of, numbers_of, posts_if, posts_to}
use Rattle.clearinghouse.specs.HouseLetters.{epoch_posts_at, posts_at}
use Rattle.house_directory.specs.Refusing.{IsLater, epoch_refused}
use Rattle.house_directory.specs.ModelReplicas.{StandsHeld}
use Rattle.clearinghouse.specs.ModelHouses.{StandsHouse}
use Rattle.house_directory.specs.DirectorySteps.{IsEpochAnswer}
use Rattle.clearinghouse.specs.HouseSteps.{Enters, IsStep, IsTurn}
use Rattle.clearinghouse.specs.PrivateTurns.{SameHouse}
use Rattle.house_directory.specs.DirectorySteps.{first_held}
use Rattle.clearinghouse.specs.HouseSteps.{with_new_directory}
use Rattle.house_directory.specs.DirectoryTakes.{held_in}
use Rattle.clearinghouse.proofs.Houses.{by_slot, got_here, house_holds, house_lawful, turn_of}
use Rattle.house_directory.proofs.Posts.{each_append, each_stands, posts_stand}

-- ---- a new directory

-- its replica stands for the model's first
first_stands : (me floor : ℕ) (ms : List declared.Member) → StandsHeld me floor (first_held ms) (first_replica (members_of ms))
first_stands me floor ms = record {
  looks = record { epoch = refl; members = refl; phase = tt };
  replica = refl;
  history = record { births = tt; ordered = tt; kinds = λ n c j k i i'. absurd (Contains-none _ i) };
  below = record { marks = λ k i. elim i [ ]; all_up_to = λ t e. absurd (cc); phase = λ t e. absurd (cc) };
}

-- and is lawful
first_lawful : (me floor : ℕ) (ms : List declared.Member) → IsLawfulHeld me floor (first_held ms)
first_lawful me floor ms = record {
  valid = table_of-valid [];
  replica = record { table = table_of-up_to floor [] tt; all_up_to = tt };
  skulk = λ t e. absurd (cc);
}

-- makes a turn of the model
founds : (c : Clearinghouse) (now : model.House) (dir : DirId) (ms : List declared.Member) → StandsHouse c now
    → IsTurn (found_directory c.house.0 now dir.0 (members_of ms)) (with_new_directory c dir ms) (posts_at (with_new_directory c dir ms) dir (Some out.Join))
founds c now dir ms stands =
    turn_of c now dir (first_held ms) c.floor (found_directory c.house.0 now dir.0 (members_of ms)) (Some out.Join) stands (le_refl _)
    (record {
      replica = first_replica (members_of ms);
      house = ap (λ f. with_slot now dir.0 f (model.Held (first_replica (members_of ms)))) stands.floor;
      stands = first_stands c.house.0 c.floor.time ms;
      each =
          posts_stand (record { house = c.house; dir = dir; floor = c.floor.time }) (first_held ms) out.Join
          (model.Join (members_of ms) (copy_of (first_replica (members_of ms)))) (others_of c.house.0 (members_of ms)) dir.0 c.house.0 1 now.floor
          refl refl refl refl stands.floor (refl, refl);
    })

module _ (c : Clearinghouse) (dir : DirId) (ms : List declared.Member) (mid : Clearinghouse) where
  pub found_lawful : (done : Result Outgoing AllocError) → OnOk done (mid ≡ with_new_directory c dir ms) → OnErr done (mid ≡ c) → IsLawful c → IsLawful mid
  found_lawful (Ok o) holds same lawful =
      subst IsLawful (sym holds)
      (house_lawful c dir c.floor (state.Held (first_held ms)) (le_refl _)
      (λ h is. let same : first_held ms ≡ h = cc in subst (IsLawfulHeld c.house.0 c.floor.time) same (first_lawful c.house.0 c.floor.time ms)) lawful)
  found_lawful (Err e) holds same lawful = subst IsLawful (sym same) lawful

  pub found_step : (now : model.House) (done : Result Outgoing AllocError) → IfOk done (λ o. o ≡ out.Join) → OnOk done (mid ≡ with_new_directory c dir ms)
      → StandsHouse c now
      → IfOk done (λ o. IsTurn (found_directory c.house.0 now dir.0 (members_of ms)) mid (posts_at mid dir (Some o)))
  found_step now (Ok o) join holds stands =
      subst (λ x. IsTurn (found_directory c.house.0 now dir.0 (members_of ms)) mid (posts_at mid dir (Some x))) (sym join)
      (subst (λ x. IsTurn (found_directory c.house.0 now dir.0 (members_of ms)) x (posts_at x dir (Some out.Join))) (sym holds) (founds c now dir ms stands))
  found_step now (Err e) join holds stands = tt

-- ---- a new epoch

-- a house that holds nothing refuses
none_refused : (me k : ℕ) (ms : List Member) (o : Option DirState) → held_in o ≡ None → epoch_refused me k ms o ≡ Some refusal.NoReplica
none_refused me k ms None none = refl
none_refused me k ms (Some (state.Gone e)) none = refl
none_refused me k ms (Some (state.Held h)) none = absurd (cc)

not_yet : (held since : ℕ) → nat_lt held since ≡ true → nat_le since held ≡ false
not_yet held since is = grind (arith, is, nat_tests)

in_time : (held since : ℕ) → nat_lt held since ≡ false → nat_le since held ≡ true
in_time held since is = grind (arith, is, nat_tests)

fresh : (k held : ℕ) → held < k → nat_le k held ≡ false
fresh k held later = grind (arith, nat_tests)

-- what is held in the new epoch
abbrev pub entered : EpochNo → List declared.Member → Held → Held
entered k ms h = record h { epoch = k; members = ms; skulk = skulk.Idle }

module _ (c new : Clearinghouse) (now : model.House) (dir : DirId) (k : EpochNo) (ms : List declared.Member) (leaving : List HouseNo) where
  abbrev IsEntered : Option EpochRefusal → turn.HouseStep → Type 0
  IsEntered e step = IsStep (IsEpochAnswer k.0 e) step c new (epoch_posts_at new dir k leaving e)

  refuses_here : (e : Result (Unit {0}) EpochRefusal) → result_err e ≡ Some refusal.NoReplica → OnErr e (new ≡ c)
      → IsEntered (result_err e) (turn.refuses why.NoReplica)
  refuses_here (Ok x) is same = absurd (cc)
  refuses_here (Err r) is same =
      let own : r ≡ refusal.NoReplica = cc in
      subst (λ r. IsEntered (Some r) (turn.refuses why.NoReplica)) (sym own) (tt, same, refl)

  -- the house with the new epoch, and what it has to post, make the turn of the model
  takes_here : (h : Held) (r : model.Replica) → new ≡ record c { dirs = insert c.dirs dir (state.Held (entered k ms h)) } → StandsHouse c now
      → StandsHeld c.house.0 c.floor.time h r
      → IsTurn (record {
        house = with_slot now dir.0 now.floor (model.Held (epoch_replica k.0 (members_of ms) r));
        posts = epoch_posts now.floor dir.0 c.house.0 k.0 (members_of ms) (numbers_of leaving) r;
        answer = command.NewEpoch k.0;
        accepted = [];
      }) new (epoch_posts_at new dir k leaving None)
  takes_here h r after stands held =
      subst (λ x. IsTurn (record {
        house = with_slot now dir.0 now.floor (model.Held (epoch_replica k.0 (members_of ms) r));
        posts = epoch_posts now.floor dir.0 c.house.0 k.0 (members_of ms) (numbers_of leaving) r;
        answer = command.NewEpoch k.0;
        accepted = [];
      }) x (epoch_posts_at x dir k leaving None)) (sym after)
      (record {
        stands =
            subst (λ f. StandsHouse (record c { dirs = insert c.dirs dir (state.Held (entered k ms h)) })
            (with_slot now dir.0 f (model.Held (epoch_replica k.0 (members_of ms) r)))) (sym stands.floor)
            (house_holds c now dir c.floor (state.Held (entered k ms h)) (model.Held (epoch_replica k.0 (members_of ms) r)) stands (le_refl _)
            (record {
              looks = record { epoch = refl; members = refl; phase = tt };
              replica = held.replica;
              history = held.history;
              below = record { marks = held.below.marks; all_up_to = held.below.all_up_to; phase = λ t e. absurd (cc) };
            }));
        each =
            each_append
            (posts_at (record c { dirs = insert c.dirs dir (state.Held (entered k ms h)) }) dir (Some out.Join))
            (posts_to (numbers_of leaving) (leave_of (record { house = c.house; dir = dir; floor = c.floor.time }) k))
            (to_each (others_of c.house.0 (members_of ms)) dir.0 c.house.0 k.0 now.floor (model.Join (members_of ms) (copy_of r)))
            (to_each (numbers_of leaving) dir.0 c.house.0 k.0 now.floor model.Leave)
            (subst (λ s. StandEach (posts_if (record { house = c.house; dir = dir; floor = c.floor.time }) s (Some out.Join))
            (to_each (others_of c.house.0 (members_of ms)) dir.0 c.house.0 k.0 now.floor (model.Join (members_of ms) (copy_of r))))
            (sym (got_here c.dirs dir (state.Held (entered k ms h))))
            (posts_stand (record { house = c.house; dir = dir; floor = c.floor.time }) (entered k ms h) out.Join (model.Join (members_of ms) (copy_of r))
            (others_of c.house.0 (members_of ms)) dir.0 c.house.0 k.0 now.floor refl refl refl refl stands.floor (refl, held.replica)))
            (each_stands (leave_of (record { house = c.house; dir = dir; floor = c.floor.time }) k) model.Leave dir.0 c.house.0 k.0 now.floor
            refl refl refl stands.floor tt (numbers_of leaving));
      })

  -- with the epoch held that it is to follow
  module _ (h : Held) (r : model.Replica) (got : get c.dirs dir ≡ Some (state.Held h)) (who : SameHouse c new) (stands : StandsHouse c now)
      (held : StandsHeld c.house.0 c.floor.time h r) (later : h.epoch.0 < k.0) where
    fault_is : (b : Bool) → nat_lt h.epoch.0 (since_in (members_of ms) c.house.0 0) ≡ b
        → epoch_refused c.house.0 k.0 (members_of ms) (get c.dirs dir)
        ≡ (if b then Some (refusal.NotJoined (record { 0 = h.epoch.0 }) (record { 0 = since_in (members_of ms) c.house.0 0 })) else None)
    fault_is b is =
        ap (epoch_refused c.house.0 k.0 (members_of ms)) got
        ∙ ap (λ x. if x then Some (refusal.StaleEpoch (record { 0 = h.epoch.0 }) (record { 0 = k.0 }))
        else (if nat_lt h.epoch.0 (since_in (members_of ms) c.house.0 0)
        then Some (refusal.NotJoined (record { 0 = h.epoch.0 }) (record { 0 = since_in (members_of ms) c.house.0 0 })) else None)) (fresh k.0 h.epoch.0 later)
        ∙ ap (λ x. if x then Some (refusal.NotJoined (record { 0 = h.epoch.0 }) (record { 0 = since_in (members_of ms) c.house.0 0 })) else None) is

    abbrev joined_or : Bool → turn.HouseStep
    joined_or b =
        if b
        then turn.turn_without_updates (with_slot now dir.0 now.floor (model.Held (epoch_replica k.0 (members_of ms) r)))
        (epoch_posts now.floor dir.0 c.house.0 k.0 (members_of ms) (numbers_of leaving) r) (command.NewEpoch k.0)
        else turn.Stays (command.Refused (command.NotJoined r.epoch (since_in (members_of ms) c.house.0 0)))

    by_since : (e : Result (Unit {0}) EpochRefusal) (b : Bool) → nat_lt h.epoch.0 (since_in (members_of ms) c.house.0 0) ≡ b
        → result_err e ≡ (if b then Some (refusal.NotJoined (record { 0 = h.epoch.0 }) (record { 0 = since_in (members_of ms) c.house.0 0 })) else None)
        → OnErr e (new ≡ c) → OnOk e (Enters c new dir k ms) → IsEntered (result_err e) (joined_or (nat_le (since_in (members_of ms) c.house.0 0) r.epoch))
    by_since (Ok x) true before is same enters = absurd (cc)
    by_since (Err q) true before is same enters =
        let cause : q ≡ refusal.NotJoined (record { 0 = h.epoch.0 }) (record { 0 = since_in (members_of ms) c.house.0 0 }) = cc in
        let late : nat_le (since_in (members_of ms) c.house.0 0) r.epoch ≡ false =
        ap (nat_le (since_in (members_of ms) c.house.0 0)) held.looks.epoch ∙ not_yet h.epoch.0 (since_in (members_of ms) c.house.0 0) before in
        subst (λ b. IsEntered (Some q) (joined_or b)) (sym late)
        (subst (λ q. IsEntered (Some q) (joined_or false)) (sym cause) ((sym held.looks.epoch, refl), same, refl))
    by_since (Err q) false before is same enters = absurd (cc)
    by_since (Ok x) false before is same enters =
        let on_time : nat_le (since_in (members_of ms) c.house.0 0) r.epoch ≡ true =
        ap (nat_le (since_in (members_of ms) c.house.0 0)) held.looks.epoch ∙ in_time h.epoch.0 (since_in (members_of ms) c.house.0 0) before in
        let own : enters.held ≡ h = (let e : Some (state.Held enters.held) ≡ Some (state.Held h) = sym enters.before ∙ got in cc) in
        let dirs : new.dirs ≡ insert c.dirs dir (state.Held (entered k ms h)) =
        enters.after ∙ ap (λ x. insert c.dirs dir (state.Held (entered k ms x))) own in
        let after : new ≡ record c { dirs = insert c.dirs dir (state.Held (entered k ms h)) } =
        λ i. record { house = who.house i; node = who.node i; floor = enters.floor i; dirs = dirs i; spent = who.spent i } in
        subst (λ b. IsEntered None (joined_or b)) (sym on_time) (λ ns. refl, takes_here h r after stands held)

    in_epoch : (e : Result (Unit {0}) EpochRefusal) → result_err e ≡ epoch_refused c.house.0 k.0 (members_of ms) (get c.dirs dir)
        → OnErr e (new ≡ c) → OnOk e (Enters c new dir k ms)
        → IsEntered (result_err e) (new_epoch_in c.house.0 now dir.0 k.0 (members_of ms) (numbers_of leaving) (model.Held r))
    in_epoch e is same enters =
        by_since e (nat_lt h.epoch.0 (since_in (members_of ms) c.house.0 0)) refl
        (is ∙ fault_is (nat_lt h.epoch.0 (since_in (members_of ms) c.house.0 0)) refl) same enters

  -- a new epoch that is later than the one held is the step of the model
  pub enters_step : (e : Result (Unit {0}) EpochRefusal) → result_err e ≡ epoch_refused c.house.0 k.0 (members_of ms) (get c.dirs dir)
      → OnErr e (new ≡ c) → OnOk e (Enters c new dir k ms) → SameHouse c new → StandsHouse c now → IsLater k.0 (get c.dirs dir)
      → IsStep (IsEpochAnswer k.0 (result_err e)) (new_epoch c.house.0 now dir.0 k.0 (members_of ms) (numbers_of leaving)) c new
      (epoch_posts_at new dir k leaving (result_err e))
  enters_step e is same enters who stands later =
      by_slot c.house.0 c.floor.time (get c.dirs dir) (now.slots dir.0)
      (λ s. IsEntered (result_err e) (new_epoch_in c.house.0 now dir.0 k.0 (members_of ms) (numbers_of leaving) s)) (stands.slots dir.0)
      (λ none. refuses_here e (is ∙ none_refused c.house.0 k.0 (members_of ms) (get c.dirs dir) none) same)
      (λ g none. refuses_here e (is ∙ none_refused c.house.0 k.0 (members_of ms) (get c.dirs dir) none) same)
      (λ h r got here held. in_epoch h r got who stands held (subst (IsLater k.0) got later) e is same enters)

-- ---- in a call that may want for memory

module _ (c mid : Clearinghouse) (dir : DirId) (k : EpochNo) (ms : List declared.Member) (who : SameHouse c mid) where
  entered_lawful : Enters c mid dir k ms → IsLawful c → IsLawful mid
  entered_lawful enters lawful =
      let after : mid ≡ record c { dirs = insert c.dirs dir (state.Held (entered k ms enters.held)) } =
      λ i. record { house = who.house i; node = who.node i; floor = enters.floor i; dirs = enters.after i; spent = who.spent i } in
      let own = lawful dir enters.held enters.before in
      let fine : IsLawfulHeld c.house.0 c.floor.time (entered k ms enters.held) =
      record { valid = own.valid; replica = own.replica; skulk = λ t e. absurd (cc) } in
      subst IsLawful (sym after)
      (house_lawful c dir c.floor (state.Held (entered k ms enters.held)) (le_refl _)
      (λ h is. let same : entered k ms enters.held ≡ h = cc in subst (IsLawfulHeld c.house.0 c.floor.time) same fine) lawful)

  by_answer : (e : Result (Unit {0}) EpochRefusal) → OnErr e (mid ≡ c) → OnOk e (Enters c mid dir k ms) → IsLawful c → IsLawful mid
  by_answer (Ok x) same enters lawful = entered_lawful enters lawful
  by_answer (Err r) same enters lawful = subst IsLawful (sym same) lawful

  -- it is lawful still
  pub enters_lawful : (done : Result (Result (Unit {0}) EpochRefusal) AllocError) → IfOk done (λ e. OnErr e (mid ≡ c))
      → IfOk done (λ e. OnOk e (Enters c mid dir k ms))
      → OnErr done (mid ≡ c) → IsLawful c → IsLawful mid
  enters_lawful (Ok e) same enters err lawful = by_answer e same enters lawful
  enters_lawful (Err x) same enters err lawful = subst IsLawful (sym err) lawful

  -- and a step of the model
  pub enters_steps : (now : model.House) (leaving : List HouseNo) (done : Result (Result (Unit {0}) EpochRefusal) AllocError)
      → IfOk done (λ e. result_err e ≡ epoch_refused c.house.0 k.0 (members_of ms) (get c.dirs dir))
      → IfOk done (λ e. OnErr e (mid ≡ c)) → IfOk done (λ e. OnOk e (Enters c mid dir k ms)) → StandsHouse c now → IsLater k.0 (get c.dirs dir)
      → IfOk done (λ e. IsStep (IsEpochAnswer k.0 (result_err e)) (new_epoch c.house.0 now dir.0 k.0 (members_of ms) (numbers_of leaving)) c mid
      (epoch_posts_at mid dir k leaving (result_err e)))
  enters_steps now leaving (Ok e) is same enters stands later = enters_step c mid now dir k ms leaving e is same enters who stands later
  enters_steps now leaving (Err x) is same enters stands later = tt
