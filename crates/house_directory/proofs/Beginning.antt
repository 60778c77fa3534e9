-- A skulk that begins at a master.
use Rattle.std.proofs.Common.{◌≡◌, ℕ, ◌<◌, ◌≤◌, Bool, true, false, List, [], ◌∷◌, Option, Some, None, Result, Ok, Err, refl, sym, ap, subst, ◌∙◌}
use Rattle.std.proofs.Common.{arith, le_refl}
use Rattle.std.proofs.Common.{suc, cond, ◌+◌, ◌||◌, MatchBool}
use Rattle.std.proofs.lemmas.List.{length-map}
use Rattle.std.specs.List.{fold}
use Rattle.std.specs.Prelude.{◌==◌, length, if◌then◌else◌}
use Rattle.cds_stamps.specs.declared.numbers.DirId.{DirId}
use Rattle.cds_stamps.specs.declared.stamp.Stamp.{Stamp}
use Rattle.cds_stamps.specs.declared.members.Member as declared
use Rattle.cds_stamps.specs.declared.numbers.HouseNo.{HouseNo}
use Rattle.cds_stamps.specs.Members.{Member, is_listed, is_master, master_of, masters_in, member_of, members_fault, members_of, others_of}
use Rattle.cds_stamps.proofs.Masks.{same_place}
use Rattle.cds_stamps.proofs.MemberLaws.{no_members_fault}
use Rattle.cds_stamps.specs.Stamps.{next_stamp}
use Rattle.directory.specs.declared.update.UpdateRefusal.{UpdateRefusal}
use Rattle.directory.specs.declared.update.UpdateRefusal.TheVariants as why
use Rattle.purge_rule.specs.declared.replica.Replica.{Replica}
use Rattle.purge_rule.specs.Replicas.{replica_of, together}
use Rattle.skulk_core.specs.declared.skulk.Skulk.{Skulk}
use Rattle.skulk_core.specs.declared.skulk.Skulk.TheVariants as skulk
use Rattle.skulk_core.specs.declared.skulk.Next.{Next}
use Rattle.skulk_core.specs.declared.skulk.Next.TheVariants as next
use Rattle.skulk_core.specs.MasterRounds.{Begins, IsGathering, IsPhaseOf, only, running_stamp}
use Rattle.cell_model.specs.Cells as model
use Rattle.cell_model.specs.Turns as turn
use Rattle.cell_model.specs.Turns.{begin, later_up_to, skulk_in, stamp_at}
use Rattle.cell_model.proofs.Lists.{or_true}
use Rattle.cell_model.proofs.Fine.{below_later, idle_below, phase_below, raised_below}
use Rattle.house_directory.specs.declared.states.Held.{Held}
use Rattle.house_directory.specs.declared.outgoing.Outgoing.{Outgoing}
use Rattle.house_directory.specs.declared.outgoing.Outgoing.TheVariants as out
use Rattle.house_directory.specs.declared.skulks.Begun.{Begun}
use Rattle.house_directory.specs.declared.skulks.Begun.TheVariants as started
use Rattle.house_directory.specs.declared.updates.Issuer.{Issuer}
use Rattle.house_directory.specs.ModelReplicas.{StandsPhase}
use Rattle.house_directory.specs.DirectorySteps.{IsBegunAnswer}
use Rattle.house_directory.specs.LawfulDirectories.{IsLawfulHeld}
use Rattle.house_directory.specs.Refusing.{begun_among}
use Rattle.house_directory.specs.DirectoryTurns.{HeldStep, IssuesAt}
use Rattle.house_directory.specs.DirectoryTakes.{Advances, place_in}
use Rattle.house_directory.proofs.Phases.{BeginRow, complete, begun, begin_row, phase_listed, place_listed, same_running}
use Rattle.house_directory.proofs.Accepting.{held_replica}
use Rattle.house_directory.proofs.Posts.{posts_stand}

module _ (by : Issuer) (now : model.House) (dir : DirId) (r : model.Replica) (t : Stamp) (old : Held) where
  -- at the only member the skulk is complete
  pub completes_at_once : (new : Replica) (phase : Skulk) → others_of by.house.0 (members_of old.members) ≡ []
      → StandsPhase by.house.0 (members_of old.members) phase model.Idle
      → Advances old.replica t new → now.floor < t.time → IssuesAt now by now.floor dir old r
      → HeldStep (IsBegunAnswer (Ok (started.Complete t))) (begin by.house.0 now dir.0 r t (others_of by.house.0 r.members)) now by.house dir old
      (record old { replica = new; skulk = phase }) t.time None
  completes_at_once new phase alone idle advances above at =
      subst (λ hs. HeldStep (IsBegunAnswer (Ok (started.Complete t))) (begin by.house.0 now dir.0 r t hs) now by.house dir old
      (record old { replica = new; skulk = phase }) t.time None)
      (sym (ap (others_of by.house.0) at.stands.looks.members ∙ alone)) (
        λ ns. refl,
        record {
          replica = record r { all_up_to = later_up_to r.all_up_to t; phase = model.Idle };
          house = refl;
          stands = record {
            looks = record { epoch = at.stands.looks.epoch; members = at.stands.looks.members; phase = idle };
            replica =
                advances.merged r.history (held_replica by.house.0 now.floor old r at.stands)
                ∙ ap (λ (a : Option Stamp). replica_of r.history (together a (Some t))) (ap (λ (x : Replica). x.all_up_to) at.stands.replica);
            history = at.stands.history;
            below = idle_below (record r { all_up_to = later_up_to r.all_up_to t }) t.time
                (raised_below r t t.time (below_later r now.floor t.time (omega arith) at.stands.below) (le_refl _));
          };
          each = tt;
        },
      )

  -- at any other its first round is posted
  pub begins_round : (phase : Skulk) (y : ℕ) (ys : List ℕ) → others_of by.house.0 (members_of old.members) ≡ y ∷ ys
      → StandsPhase by.house.0 (members_of old.members) phase (model.Gathering t []) → now.floor < t.time → IssuesAt now by now.floor dir old r
      → HeldStep (IsBegunAnswer (Ok (started.Started t))) (begin by.house.0 now dir.0 r t (others_of by.house.0 r.members)) now by.house dir old
      (record old { skulk = phase }) t.time (Some (out.Gather t))
  begins_round phase y ys others gathering above at =
      subst (λ hs. HeldStep (IsBegunAnswer (Ok (started.Started t))) (begin by.house.0 now dir.0 r t hs) now by.house dir old
      (record old { skulk = phase }) t.time (Some (out.Gather t)))
      (sym (ap (others_of by.house.0) at.stands.looks.members ∙ others)) (
        λ ns. refl,
        record {
          replica = record r { phase = model.Gathering t [] };
          house = refl;
          stands = record {
            looks = record { epoch = at.stands.looks.epoch; members = at.stands.looks.members; phase = gathering };
            replica = at.stands.replica;
            history = at.stands.history;
            below = phase_below r (model.Gathering t []) t.time (below_later r now.floor t.time (omega arith) at.stands.below)
                (λ s e. let same : t ≡ s = cc in subst (λ (z : Stamp). z.time ≤ t.time) same (le_refl _));
          };
          each =
              posts_stand (record { house = by.house; dir = dir; floor = t.time }) (record old { skulk = phase }) (out.Gather t) (model.Gather t) (y ∷ ys)
              dir.0 by.house.0 r.epoch t.time (sym others) refl refl at.stands.looks.epoch refl refl;
        },
      )

module _ (by : Issuer) (now : model.House) (dir : DirId) (low : ℕ) (r : model.Replica) (old : Held) where
  abbrev master_or : Bool → turn.HouseStep
  master_or b = if b then turn.skulk_at by.house.0 now dir.0 r (stamp_at now) else turn.refuses why.NotMaster

  master_is : (b : Bool) → (master_of (members_of old.members) == by.house.0) ≡ b → IssuesAt now by low dir old r → (master_of r.members == by.house.0) ≡ b
  master_is b is at = ap (λ ms. master_of ms == by.house.0) at.stands.looks.members ∙ is

  own_stamp : (o : Option Stamp) → next_stamp by.clock low by.node ≡ o → IssuesAt now by low dir old r → stamp_at now ≡ o
  own_stamp o issued at =
      ap (λ c. next_stamp c now.floor now.node) at.clock ∙ ap (λ l. next_stamp by.clock l now.node) at.floor ∙ ap (next_stamp by.clock low) at.node ∙ issued

  -- another house refuses
  pub other_refuses : (master_of (members_of old.members) == by.house.0) ≡ false → IssuesAt now by low dir old r
      → HeldStep (IsBegunAnswer (Err why.NotMaster)) (skulk_in by.house.0 now dir.0 (model.Held r)) now by.house dir old old low None
  other_refuses other at =
      subst (λ b. HeldStep (IsBegunAnswer (Err why.NotMaster)) (master_or b) now by.house dir old old low None) (sym (master_is false other at))
      (refl, refl, sym at.floor, refl)

  -- with no stamp left it refuses
  pub spent_refuses : (master_of (members_of old.members) == by.house.0) ≡ true → next_stamp by.clock low by.node ≡ None → IssuesAt now by low dir old r
      → HeldStep (IsBegunAnswer (Err why.StampsSpent)) (skulk_in by.house.0 now dir.0 (model.Held r)) now by.house dir old old low None
  spent_refuses own none at =
      subst (λ b. HeldStep (IsBegunAnswer (Err why.StampsSpent)) (master_or b) now by.house dir old old low None) (sym (master_is true own at))
      (subst (λ o. HeldStep (IsBegunAnswer (Err why.StampsSpent)) (turn.skulk_at by.house.0 now dir.0 r o) now by.house dir old old low None)
      (sym (own_stamp None none at))
      (refl, refl, sym at.floor, refl))

  -- else it begins
  pub begins : (new : Held) (t : Stamp) (a : Result Begun UpdateRefusal) (floor : ℕ) (o : Option Outgoing)
      → (master_of (members_of old.members) == by.house.0) ≡ true → next_stamp by.clock low by.node ≡ Some t → IssuesAt now by low dir old r
      → HeldStep (IsBegunAnswer a) (begin by.house.0 now dir.0 r t (others_of by.house.0 r.members)) now by.house dir old new floor o
      → HeldStep (IsBegunAnswer a) (skulk_in by.house.0 now dir.0 (model.Held r)) now by.house dir old new floor o
  begins new t a floor o own issued at step =
      subst (λ b. HeldStep (IsBegunAnswer a) (master_or b) now by.house dir old new floor o) (sym (master_is true own at))
      (subst (λ s. HeldStep (IsBegunAnswer a) (turn.skulk_at by.house.0 now dir.0 r s) now by.house dir old new floor o)
      (sym (own_stamp (Some t) issued at)) step)

-- ---- what comes of it, by the rows

masters_listed : (ms : List Member) (n : ℕ) → masters_in ms ≡ suc n → is_listed (master_of ms) ms ≡ true
masters_listed [] n some = absurd (cc)
masters_listed (y ∷ ys) n some = by (masters_listed ys n) (is_master y.kind) refl
  where
    by : (masters_in ys ≡ suc n → is_listed (master_of ys) ys ≡ true) → (b : Bool) → is_master y.kind ≡ b → is_listed (master_of (y ∷ ys)) (y ∷ ys) ≡ true
    by rest true is =
        ap (λ b. is_listed (if b then y.house else master_of ys) (y ∷ ys)) is ∙ ap (λ b. b || is_listed y.house ys) (same_place y.house y.house refl)
    by rest false is =
        ap (λ b. is_listed (if b then y.house else master_of ys) (y ∷ ys)) is
        ∙ or_true (y.house == master_of ys) (is_listed (master_of ys) ys)
        (rest (ap (λ b. fold (λ (a : ℕ) (x : Member). a + cond (is_master x.kind) 1 0) (0 + cond b 1 0) ys) (sym is) ∙ some))

-- the row of a skulk that begins at the master
pub row_begins : (h : HouseNo) (ms : List declared.Member) (t : Stamp) (phase : Skulk) (n : Next) (count mine : ℕ) → members_fault (members_of ms) ≡ None
    → master_of (members_of ms) ≡ h.0 → count ≡ length ms → mine ≡ place_in h ms → Begins t count mine phase n → BeginRow h.0 (members_of ms) t phase n
row_begins h ms t phase n count mine lawful master counted place does =
    let listed : is_listed h.0 (members_of ms) ≡ true =
    subst (λ x. is_listed x (members_of ms) ≡ true) master (masters_listed (members_of ms) 0 (no_members_fault (members_of ms) lawful).3) in
    begin_row h.0 (place_in h ms) (members_of ms) t phase n lawful (place_listed h.0 (members_of ms) listed)
    (subst (λ k. Begins t k (place_in h ms) phase n) (counted ∙ sym (length-map ms member_of)) (subst (λ k. Begins t count k phase n) place does))

module _ (by : Issuer) (t : Stamp) (old : Held) (phase : Skulk) (n : Next) (row : BeginRow by.house.0 (members_of old.members) t phase n) where
  -- a skulk that is complete at once
  module _ (new : Replica) (u : Stamp) (done : n ≡ next.Complete u) (advances : Advances old.replica t new) where
    pub completed_step : (now : model.House) (dir : DirId) (r : model.Replica) → IssuesAt now by now.floor dir old r → now.floor < t.time
        → HeldStep (IsBegunAnswer (Ok (started.Complete t))) (begin by.house.0 now dir.0 r t (others_of by.house.0 r.members)) now by.house dir old
        (record old { replica = new; skulk = phase }) t.time None
    completed_step now dir r at above =
        elim row [
          | complete alone idle is ↦ completes_at_once by now dir r t old new phase alone
              (subst (λ s. StandsPhase by.house.0 (members_of old.members) s model.Idle) (sym idle) tt) advances above at
          | begun y ys others gathering is ↦ absurd (cc)
        ]

    pub completed_lawful : IsLawfulHeld by.house.0 t.time old → IsLawfulHeld by.house.0 t.time (record old { replica = new; skulk = phase })
    completed_lawful lawful = record {
      valid = advances.valid lawful.valid;
      replica = advances.below t.time lawful.valid lawful.replica (le_refl _);
      skulk = λ v is. elim row [
        | complete alone idle is' ↦ absurd (let e : running_stamp skulk.Idle ≡ Some v = ap running_stamp (sym idle) ∙ is in cc)
        | begun y ys others gathering is' ↦ absurd (cc)
      ];
    }

  -- a skulk that has begun
  module _ (more : (u : Stamp) → n ≡ next.Complete u → ⊥) where
    pub begun_step : (now : model.House) (dir : DirId) (r : model.Replica) → IssuesAt now by now.floor dir old r → now.floor < t.time
        → HeldStep (IsBegunAnswer (Ok (started.Started t))) (begin by.house.0 now dir.0 r t (others_of by.house.0 r.members)) now by.house dir old
        (record old { skulk = phase }) t.time (Some (out.Gather t))
    begun_step now dir r at above =
        elim row [
          | complete alone idle is ↦ absurd (more t is)
          | begun y ys others gathering is ↦ begins_round by now dir r t old phase y ys others gathering above at
        ]

    pub begun_lawful : IsPhaseOf (length old.members) (place_in by.house old.members) phase → IsLawfulHeld by.house.0 t.time old
        → IsLawfulHeld by.house.0 t.time (record old { skulk = phase })
    begun_lawful round lawful = record {
      valid = lawful.valid;
      replica = lawful.replica;
      skulk = λ v is. elim row [
        | complete alone idle is' ↦ absurd (more t is')
        | begun y ys others gathering is' ↦
            (let e : Some v ≡ Some t = sym is ∙ same_running by.house.0 (members_of old.members) phase (model.Gathering t []) gathering in
            let same : t ≡ v = cc in record {
              time = subst (λ (z : Stamp). z.time ≤ t.time) same (le_refl _);
              place = place_in by.house old.members;
              member = place_listed by.house.0 (members_of old.members) (phase_listed by.house.0 (members_of old.members) phase t [] gathering);
              round = round;
            })
      ];
    }

-- a skulk that is not complete at once has other members
pub begun_answer : (t : Stamp) (ms : List declared.Member) (count mine : ℕ) (phase : Skulk) (n : Next) → count ≡ length ms → Begins t count mine phase n
    → ((u : Stamp) → n ≡ next.Complete u → ⊥) → Ok (started.Started t) ≡ begun_among ms (Ok t)
begun_answer t ms count mine phase n counted does more =
    sym (ap (λ b. if b then Ok (started.Complete t) else Ok (started.Started t)) (ap (λ k. k == 1) (sym counted) ∙ by (count == 1) does refl))
  where
    by : (b : Bool) → MatchBool b ((phase ≡ skulk.Idle) × (n ≡ next.Complete t)) (IsGathering t (only mine) phase × (n ≡ next.Nothing)) → (count == 1) ≡ b
        → (count == 1) ≡ false
    by true does is = absurd (more t does.1)
    by false does is = is

-- a skulk that is complete at once leaves none, and else its first round runs
pub begun_idle : (b : Bool) (t : Stamp) (p : ℕ) (phase : Skulk) (n : Next) (u : Stamp)
    → MatchBool b ((phase ≡ skulk.Idle) × (n ≡ next.Complete t)) (IsGathering t (only p) phase × (n ≡ next.Nothing)) → n ≡ next.Complete u
    → phase ≡ skulk.Idle
begun_idle true t p phase n u does is = does.0
begun_idle false t p phase n u does is = absurd (let e : next.Nothing ≡ next.Complete u = sym does.1 ∙ is in cc)

-- a skulk that is not complete at once runs its first round, in which the master alone has answered
pub begun_round : (b : Bool) (t : Stamp) (p : ℕ) (phase : Skulk) (n : Next)
    → MatchBool b ((phase ≡ skulk.Idle) × (n ≡ next.Complete t)) (IsGathering t (only p) phase × (n ≡ next.Nothing))
    → ((u : Stamp) → n ≡ next.Complete u → ⊥) → IsGathering t (only p) phase
begun_round true t p phase n does more = absurd (more t does.1)
begun_round false t p phase n does more = does.0
