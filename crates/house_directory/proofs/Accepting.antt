-- An update that is accepted: its marks are added, and posted.
use Rattle.std.proofs.Common.{◌≡◌, ℕ, ◌<◌, ◌≤◌, true, List, [], ◌++◌, Option, Some, None, Result, Ok, Err, refl, sym, ap, subst, ◌∙◌, arith}
use Rattle.std.specs.Prelude.{if◌then◌else◌, unwrap_or, IfSome}
use Rattle.std.specs.List.{AllByRecursion}
use Rattle.cds_stamps.specs.declared.numbers.DirId.{DirId}
use Rattle.cds_stamps.specs.declared.numbers.HouseNo.{HouseNo}
use Rattle.cds_stamps.specs.declared.stamp.Stamp.{Stamp}
use Rattle.cds_stamps.specs.Members.{is_accepting, members_of, others_of}
use Rattle.cds_stamps.specs.Stamps.{is_earlier, next_stamp}
use Rattle.std.proofs.lemmas.Bool.Decides.{nat_tests}
use Rattle.directory.specs.declared.entry.Fragment.{Fragment}
use Rattle.directory.specs.declared.update.UpdateRefusal.{UpdateRefusal}
use Rattle.directory.specs.declared.update.UpdateRefusal.TheVariants as why
use Rattle.directory.specs.Applied.{TakesIn}
use Rattle.directory.specs.Entries.{Entries}
use Rattle.directory.specs.Histories.{Mark, IsBefore, name_in, stamp_in, entry_of}
use Rattle.directory.specs.Purges.{purged_entries}
use Rattle.directory.specs.Updates.{Change, changed_name}
use Rattle.directory.specs.Shown.{shown_of_name, shown_in, refusal_of, marks_of}
use Rattle.directory.proofs.AppliedPurges.{applied-purged}
use Rattle.directory.proofs.PurgeLaws.{shown_in-purged}
use Rattle.directory.proofs.UpdateLaws.{marks_of-names}
use Rattle.purge_rule.specs.declared.replica.Replica.{Replica}
use Rattle.purge_rule.specs.Replicas.{replica_of}
use Rattle.purge_rule.proofs.ReplicaLaws.{same_replica}
use Rattle.cell_model.specs.Cells as model
use Rattle.cell_model.specs.Turns as turn
use Rattle.cell_model.specs.Turns.{with_marks, update_refusal, accept_in, accept_at, stamp_at, to_each}
use Rattle.cell_model.specs.Floors.{ReplicaBelow}
use Rattle.cell_model.proofs.Merging.{contains_in}
use Rattle.cell_model.proofs.Fine.{Fine, accepted_fine}
use Rattle.house_directory.specs.declared.states.Held.{Held}
use Rattle.house_directory.specs.declared.states.DirState.TheVariants as state
use Rattle.house_directory.specs.declared.outgoing.Outgoing.{Outgoing}
use Rattle.house_directory.specs.declared.outgoing.Outgoing.TheVariants as out
use Rattle.house_directory.specs.declared.updates.Issuer.{Issuer}
use Rattle.house_directory.specs.Refusing.{held_refusal, stamp_unless}
use Rattle.house_directory.specs.ModelReplicas.{StandsHeld}
use Rattle.house_directory.specs.DirectorySteps.{IsStampAnswer}
use Rattle.house_directory.specs.HouseMessages.{StandEach, posts_if, posts_of}
use Rattle.house_directory.specs.DirectoryTurns.{AddsMarks, HeldStep, IssuesAt, PostsFragment, new_marks}
use Rattle.house_directory.proofs.Posts.{posts_stand}

-- what is held shows what the replica of the model shows
pub held_shows : (me floor : ℕ) (held : Held) (r : model.Replica) (n : List ℕ) → StandsHeld me floor held r → shown_in held.replica.table n ≡ shown_of_name r.history n
held_shows me floor held r n stands = ap (λ (x : Replica). shown_in x.table n) stands.replica ∙ shown_in-purged r.history r.all_up_to n

-- the replica of the model of what is held, up to the AllUpTo of that
pub held_replica : (me floor : ℕ) (held : Held) (r : model.Replica) → StandsHeld me floor held r → held.replica ≡ replica_of r.history held.replica.all_up_to
held_replica me floor held r stands = stands.replica ∙ ap (replica_of r.history) (sym (ap (λ (x : Replica). x.all_up_to) stands.replica))

-- it is a history, and no time of it is above the floor
pub fine_held : (me floor : ℕ) (held : Held) (r : model.Replica) → StandsHeld me floor held r → Fine floor r
fine_held me floor held r stands = record { history = stands.history; below = stands.below }

by_time : (a b : Stamp) → a.time < b.time → is_earlier a b ≡ true
by_time a b lt = grind (arith, nat_tests)

before_stamp : (r : model.Replica) (floor : ℕ) (s : Stamp) → ReplicaBelow r floor → floor < s.time → IsBefore r.history s
before_stamp r floor s below above m there = by_time (stamp_in m) s (let low = (below.marks m (contains_in r.history m there)).0 in omega arith)

module _ (held : Held) (table : Entries) (u : Change) (s : Stamp) (fine : refusal_of (shown_in held.replica.table (changed_name u)) u ≡ None)
    (takes : TakesIn held.replica.table table (changed_name u) (marks_of (shown_in held.replica.table (changed_name u)) u s))
    (me : ℕ) (r : model.Replica) (floor : ℕ) (stands : StandsHeld me floor held r) (above : floor < s.time) where
  seen : shown_in held.replica.table (changed_name u) ≡ shown_of_name r.history (changed_name u)
  seen = held_shows me floor held r (changed_name u) stands

  accepted : refusal_of (shown_of_name r.history (changed_name u)) u ≡ None
  accepted = ap (λ e. refusal_of e u) (sym seen) ∙ fine

  before : IsBefore r.history s
  before = before_stamp r floor s stands.below above

  up_to_before : (a : Option Stamp) → ((t : Stamp) → a ≡ Some t → t.time ≤ floor) → IfSome a (λ t. is_earlier t s ≡ true)
  up_to_before None below = tt
  up_to_before (Some t) below = by_time t s (let low = below t refl in omega arith)

  grown_stands : StandsHeld me s.time (record held { replica = record held.replica { table = table } }) (with_marks r (new_marks r u s))
  grown_stands =
      let up : held.replica.all_up_to ≡ r.all_up_to = ap (λ (x : Replica). x.all_up_to) stands.replica in
      let after = accepted_fine r floor u s (fine_held me floor held r stands) above accepted in
      let now : table ≡ purged_entries (r.history ++ new_marks r u s) r.all_up_to =
      applied-purged r.history u s stands.history before accepted r.all_up_to (up_to_before r.all_up_to stands.below.all_up_to)
      held.replica.table table (ap (λ (x : Replica). x.table) stands.replica) takes in
      record {
        looks = record { epoch = stands.looks.epoch; members = stands.looks.members; phase = stands.looks.phase };
        replica = same_replica table (purged_entries (r.history ++ new_marks r u s) r.all_up_to) held.replica.all_up_to r.all_up_to now up;
        history = after.history;
        below = after.below;
      }

  -- a house that is alone adds the marks of an accepted update, and posts nothing
  pub adds_alone : others_of me (members_of held.members) ≡ []
      → AddsMarks me r u s (record held { replica = record held.replica { table = table } }) None
  adds_alone none = record { stands = grown_stands; posts = ap (others_of me) stands.looks.members ∙ none }

  -- a house adds the marks of an accepted update, and posts their fragment
  pub adds_posted : (f : Fragment) → f.name ≡ changed_name u → entry_of (marks_of (shown_in held.replica.table (changed_name u)) u s) f.name ≡ Some f.entry
      → AddsMarks me r u s (record held { replica = record held.replica { table = table } }) (Some (out.Update f))
  adds_posted f name entry = record {
    stands = grown_stands;
    posts = (
      f,
      refl,
      record {
        named =
            subst (λ n. AllByRecursion (λ m. name_in m ≡ n) (new_marks r u s)) (sym name)
            (marks_of-names r.history u s stands.history before accepted);
        entry = subst (λ e. entry_of (marks_of e u s) f.name ≡ Some f.entry) seen entry;
      },
    );
  }

-- what is to be posted stands for the messages with the marks
marks_stand : (me : HouseNo) (dir : DirId) (floor : ℕ) (new : Held) (r : model.Replica) (marks : List Mark) (o : Option Outgoing)
    → r.members ≡ members_of new.members → r.epoch ≡ new.epoch.0 → PostsFragment (others_of me.0 r.members) marks o
    → StandEach (posts_if (record { house = me; dir = dir; floor = floor }) (Some (state.Held new)) o)
    (to_each (others_of me.0 r.members) dir.0 me.0 r.epoch floor (model.Update marks))
marks_stand me dir floor new r marks None members epoch posts =
    subst (λ hs. StandEach [] (to_each hs dir.0 me.0 r.epoch floor (model.Update marks))) (sym posts) tt
marks_stand me dir floor new r marks (Some o) members epoch posts =
    subst (λ x. StandEach (posts_of (record { house = me; dir = dir; floor = floor }) new x)
    (to_each (others_of me.0 r.members) dir.0 me.0 r.epoch floor (model.Update marks))) (sym posts.1)
    (posts_stand (record { house = me; dir = dir; floor = floor }) new (out.Update posts.0) (model.Update marks) (others_of me.0 r.members)
    dir.0 me.0 r.epoch floor (ap (others_of me.0) members) refl refl epoch refl posts.2)

module _ (by : Issuer) (now : model.House) (dir : DirId) (low : ℕ) (u : Change) (r : model.Replica) where
  -- with the stamp that is issued the update is accepted
  stamped : (old new : Held) (s : Stamp) (o : Option Outgoing) → next_stamp by.clock low by.node ≡ Some s → AddsMarks by.house.0 r u s new o
      → IssuesAt now by low dir old r
      → HeldStep (IsStampAnswer (Ok s)) (accept_at by.house.0 now dir.0 u r (stamp_at now)) now by.house dir old new s.time o
  stamped old new s o issued adds at =
      let own : stamp_at now ≡ Some s =
      ap (λ c. next_stamp c now.floor now.node) at.clock ∙ ap (λ l. next_stamp by.clock l now.node) at.floor ∙ ap (next_stamp by.clock low) at.node ∙ issued in
      subst (λ x. HeldStep (IsStampAnswer (Ok s)) (accept_at by.house.0 now dir.0 u r x) now by.house dir old new s.time o) (sym own) (
        λ ns. refl,
        record {
          replica = with_marks r (new_marks r u s);
          house = refl;
          stands = adds.stands;
          each = marks_stand by.house dir s.time new r (new_marks r u s) o adds.stands.looks.members adds.stands.looks.epoch adds.posts;
        },
      )

  -- with no stamp left it is refused
  unstamped : (old : Held) → next_stamp by.clock low by.node ≡ None → IssuesAt now by low dir old r
      → HeldStep (IsStampAnswer (Err why.StampsSpent)) (accept_at by.house.0 now dir.0 u r (stamp_at now)) now by.house dir old old low None
  unstamped old issued at =
      let own : stamp_at now ≡ None =
      ap (λ c. next_stamp c now.floor now.node) at.clock ∙ ap (λ l. next_stamp by.clock l now.node) at.floor ∙ ap (next_stamp by.clock low) at.node ∙ issued in
      subst (λ o. HeldStep (IsStampAnswer (Err why.StampsSpent)) (accept_at by.house.0 now dir.0 u r o) now by.house dir old old low None) (sym own)
      (refl, refl, sym at.floor, refl)

  -- the refusal of the table is that of the model
  its_refusal : (old : Held) (q : Option UpdateRefusal) → is_accepting by.house.0 (members_of old.members) ≡ true
      → refusal_of (shown_in old.replica.table (changed_name u)) u ≡ q → IssuesAt now by low dir old r → update_refusal by.house.0 u r ≡ q
  its_refusal old q accepts is at =
      ap (λ ms. if is_accepting by.house.0 ms then refusal_of (shown_of_name r.history (changed_name u)) u else Some why.NotMaster) at.stands.looks.members
      ∙ ap (λ b. if b then refusal_of (shown_of_name r.history (changed_name u)) u else Some why.NotMaster) accepts
      ∙ ap (λ e. refusal_of e u) (sym (held_shows by.house.0 low old r (changed_name u) at.stands)) ∙ is

  -- what the table accepts goes on to the stamp
  accepted_in : (old new : Held) (floor : ℕ) (a : Result Stamp UpdateRefusal) (o : Option Outgoing)
      → is_accepting by.house.0 (members_of old.members) ≡ true
      → refusal_of (shown_in old.replica.table (changed_name u)) u ≡ None → IssuesAt now by low dir old r
      → HeldStep (IsStampAnswer a) (accept_at by.house.0 now dir.0 u r (stamp_at now)) now by.house dir old new floor o
      → HeldStep (IsStampAnswer a) (accept_in by.house.0 now dir.0 u (model.Held r)) now by.house dir old new floor o
  accepted_in old new floor a o accepts is at step =
      subst (λ q. HeldStep (IsStampAnswer a) (turn.unless_refused q (accept_at by.house.0 now dir.0 u r (stamp_at now))) now by.house dir old new floor o)
      (sym (its_refusal old None accepts is at)) step

  -- an update that the table accepts is accepted with the stamp that is issued
  pub stamp_accepts : (old new : Held) (s : Stamp) (o : Option Outgoing) → is_accepting by.house.0 (members_of old.members) ≡ true
      → refusal_of (shown_in old.replica.table (changed_name u)) u ≡ None → next_stamp by.clock low by.node ≡ Some s → AddsMarks by.house.0 r u s new o
      → IssuesAt now by low dir old r
      → HeldStep (IsStampAnswer (Ok s)) (accept_in by.house.0 now dir.0 u (model.Held r)) now by.house dir old new s.time o
  stamp_accepts old new s o accepts is issued adds at = accepted_in old new s.time (Ok s) o accepts is at (stamped old new s o issued adds at)

  -- what it refuses is refused
  pub table_refuses : (old : Held) (q : UpdateRefusal) → is_accepting by.house.0 (members_of old.members) ≡ true
      → refusal_of (shown_in old.replica.table (changed_name u)) u ≡ Some q → IssuesAt now by low dir old r
      → HeldStep (IsStampAnswer (Err q)) (accept_in by.house.0 now dir.0 u (model.Held r)) now by.house dir old old low None
  table_refuses old q accepts is at =
      subst (λ p. HeldStep (IsStampAnswer (Err q)) (turn.unless_refused p (accept_at by.house.0 now dir.0 u r (stamp_at now)))
      now by.house dir old old low None)
      (sym (its_refusal old (Some q) accepts is at)) (refl, refl, sym at.floor, refl)

  -- with no stamp left an update is refused as the table refuses it, or since none is left
  pub spent_refuses : (old : Held) (q : Option UpdateRefusal) → is_accepting by.house.0 (members_of old.members) ≡ true
      → refusal_of (shown_in old.replica.table (changed_name u)) u ≡ q → next_stamp by.clock low by.node ≡ None → IssuesAt now by low dir old r
      → HeldStep (IsStampAnswer (Err (unwrap_or q why.StampsSpent))) (accept_in by.house.0 now dir.0 u (model.Held r)) now by.house dir old old low None
  spent_refuses old None accepts is issued at = accepted_in old old low (Err why.StampsSpent) None accepts is at (unstamped old issued at)
  spent_refuses old (Some q) accepts is issued at = table_refuses old q accepts is at

-- what a house that accepts updates answers with no stamp left
pub answer_spent : (me : ℕ) (u : Change) (h : Held) (q : Option UpdateRefusal) → is_accepting me (members_of h.members) ≡ true
    → refusal_of (shown_in h.replica.table (changed_name u)) u ≡ q → Err (unwrap_or q why.StampsSpent) ≡ stamp_unless (held_refusal me u h) None
answer_spent me u h q accepts is =
    by q ∙ sym (ap (λ b. stamp_unless (if b then refusal_of (shown_in h.replica.table (changed_name u)) u else Some why.NotMaster) None) accepts
    ∙ ap (λ p. stamp_unless p None) is)
  where
    by : (p : Option UpdateRefusal) → Err (unwrap_or p why.StampsSpent) ≡ stamp_unless p None
    by None = refl
    by (Some r) = refl
