-- Messages that are neither Joins nor Leaves, at a house that holds their directory: what comes of
-- them is the step of the house of the model.
use Rattle.std.proofs.Common.{◌≡◌, ℕ, ◌≤◌, ◌++◌, Bool, true, false, List, [], ◌∷◌, length, Option, Some, None, refl, sym, ap, subst, ◌∙◌, arith, inl, inr}
use Rattle.std.specs.Prelude.{max, unwrap_or, nat_lt, if◌then◌else◌, MatchBool, MatchOption, IfSome}
use Rattle.std.specs.List.{AllByRecursion}
use Rattle.std.proofs.lemmas.Bool.Decides.{nat_tests}
use Rattle.std.proofs.lemmas.List.{length-map}
use Rattle.cds_stamps.specs.declared.numbers.DirId.{DirId}
use Rattle.cds_stamps.specs.declared.numbers.EpochNo.{EpochNo}
use Rattle.cds_stamps.specs.declared.numbers.HouseNo.{HouseNo}
use Rattle.cds_stamps.specs.declared.stamp.Stamp.{Stamp}
use Rattle.cds_stamps.specs.Members.{Member, members_of, members_fault, place_of, is_listed, others_of}
use Rattle.directory.specs.Histories.{Mark, CanMerge, entry_of}
use Rattle.directory.specs.declared.entry.EntryCell.{EntryCell}
use Rattle.directory.specs.declared.entry.Fragment.{Fragment}
use Rattle.purge_rule.specs.declared.delta.Delta.{Delta}
use Rattle.purge_rule.specs.declared.replica.Replica.{Replica}
use Rattle.purge_rule.specs.Replicas.{replica_of, delta_in, delta_of, together, IsFragmentOf}
use Rattle.purge_rule.specs.Latest.{EntryUpTo, MarkUpTo, ReplicaUpTo, DeltaUpTo, StampUpTo, latest_time, latest_in_delta}
use Rattle.purge_rule.proofs.ReplicaLaws.{delta_in-up_to}
use Rattle.purge_rule.proofs.Times.{latest_in_entry-≤, latest_in_delta-≤, latest_time-≤, entry_of-up_to}
use Rattle.purge_rule.proofs.MergeLaws.{purged-up_to}
use Rattle.skulk_core.specs.declared.skulk.Skulk.{Skulk}
use Rattle.skulk_core.specs.declared.skulk.Next.{Next}
use Rattle.skulk_core.specs.declared.skulk.Next.TheVariants as next
use Rattle.skulk_core.specs.MasterRounds.{TakesGathered, TakesSpread}
use Rattle.cds_messages.specs.declared.message.Body.{Body}
use Rattle.cds_messages.specs.declared.message.Body.TheVariants as body
use Rattle.cds_messages.specs.declared.message.Message.{Message}
use Rattle.cell_model.specs.Sets.{In}
use Rattle.cell_model.specs.Cells as model
use Rattle.cell_model.specs.Bodies.{marks_in, up_to_in, round_of}
use Rattle.cell_model.specs.Commands as command
use Rattle.cell_model.specs.Turns as turn
use Rattle.cell_model.specs.Turns.{Turn, HouseStep, Stays, Turns, with_marks, merge_copy, later_up_to, takes, take_own, take_other, take_gathered, take_ack, reply, to_others}
use Rattle.cell_model.specs.Turns.{copy_of}
use Rattle.cell_model.specs.Merges.{of_update, of_gathered, of_spread}
use Rattle.cell_model.specs.Taking.{CanTake}
use Rattle.cell_model.proofs.Rows as rows
use Rattle.cell_model.proofs.Views.{put_same}
use Rattle.cell_model.proofs.Fine.{Fine, FineAfter, FineSlot, row_fine}
use Rattle.house_directory.specs.declared.states.Held.{Held}
use Rattle.house_directory.specs.declared.states.DirState.TheVariants as state
use Rattle.house_directory.specs.declared.outgoing.Outgoing.{Outgoing}
use Rattle.house_directory.specs.declared.outgoing.Outgoing.TheVariants as out
use Rattle.house_directory.specs.declared.outgoing.Sender.{Sender}
use Rattle.house_directory.specs.declared.taking.Taken.{Taken}
use Rattle.house_directory.specs.declared.taking.Taken.TheVariants as taken
use Rattle.house_directory.specs.HouseMessages as posting
use Rattle.house_directory.specs.HouseMessages.{StandsBody, StandsCopy, StandsDelta, StandsHead, StandsMessage, LooksBody, LooksMessage, StandEach, posts_if, receivers_of}
use Rattle.house_directory.specs.HouseMessages.{receiver_of}
use Rattle.house_directory.specs.ModelReplicas.{LooksHeld, StandsHeld, StandsPhase}
use Rattle.house_directory.specs.DirectorySteps.{IsTakeAnswer}
use Rattle.house_directory.specs.Times.{BodyUpTo, latest_in_body, latest_in_message}
use Rattle.house_directory.specs.DirectoryTurns.{HeldStep, HeldTurn, LooksAfter, floor_taken}
use Rattle.house_directory.specs.DirectoryTakes.{Advances, AfterGathered, AfterSpread, Answers, JoinsAnswer, TakesFirst, TakesFragment, TakesHere, TakesOwn}
use Rattle.house_directory.specs.DirectoryTakes.{TakesDelta, TakesReplica, TakesSecond, place_in}
use Rattle.house_directory.proofs.Phases.{GatherRow, AckRow, gather_row, ack_row, placed, unlisted, place_listed}
use Rattle.house_directory.proofs.Phases as phases
use Rattle.house_directory.proofs.Posts.{posts_stand}

-- ---- replicas

pub fragment_taken : (old new : Replica) (f : Fragment) (h marks : List Mark) (t : Option Stamp) → old ≡ replica_of h t → CanMerge h marks t
    → IsFragmentOf marks f → TakesFragment old f new → new ≡ replica_of (h ++ marks) t
fragment_taken old new f h marks t is can fragment takes =
    (subst (λ (x : Replica). TakesFragment x f new) is takes).merged h marks can fragment refl

-- a replica into which another is merged is that of both histories, up to the later of their stamps
pub replica_taken : (old other new : Replica) (h g : List Mark) (t u : Option Stamp) → old ≡ replica_of h t → other ≡ replica_of g u
    → CanMerge h g (together t u) → TakesReplica old other new → new ≡ replica_of (h ++ g) (together t u)
replica_taken old other new h g t u is also can takes =
    (subst (λ (x : Replica). TakesReplica (replica_of h t) x new) also (subst (λ (x : Replica). TakesReplica x other new) is takes)).merged h g can refl refl

-- so is one into which a delta is merged
pub delta_taken : (old : Replica) (other : Delta) (new : Replica) (h g : List Mark) (t u : Option Stamp) → old ≡ replica_of h t → other ≡ delta_of g u
    → CanMerge h g (together t u) → TakesDelta old other new → new ≡ replica_of (h ++ g) (together t u)
delta_taken old other new h g t u is also can takes =
    (subst (λ (x : Delta). TakesDelta (replica_of h t) x new) also (subst (λ (x : Replica). TakesDelta x other new) is takes)).merged h g can refl refl

pub replica_advanced : (old new : Replica) (h : List Mark) (t : Option Stamp) (s : Stamp) → old ≡ replica_of h t → Advances old s new
    → new ≡ replica_of h (together t (Some s))
replica_advanced old new h t s is takes = (subst (λ (x : Replica). Advances x s new) is takes).merged h refl

-- ---- what becomes of a message

module _ (me : HouseNo) (dir : DirId) (sender : HouseNo) (k fl : ℕ) (now : model.House) (old new : Held) (r : model.Replica) (from : ℕ) (a : Taken)
    (o : Option Outgoing) (looks : LooksHeld me.0 old r) (here : place_of sender.0 r.members ≡ Some from)
    (epoch : k ≡ r.epoch) where
  abbrev message : model.Body → model.Message
  message c = record { receiver = me.0; dir = dir.0; sender = sender.0; epoch = k; floor = fl; body = c }

  abbrev floor : ℕ
  floor = max now.floor fl

  abbrev who : Sender
  who = record { house = me; dir = dir; floor = max now.floor fl }

  -- what is held and posted, as the model has it
  data Core (b : Body) (c : model.Body) (s : HouseStep) : Type 0 where
    stays : (answer : command.Answer) → s ≡ Stays answer → IsTakeAnswer a answer → new ≡ old → floor_taken a now.floor fl ≡ now.floor → o ≡ None
        → Core b c s
    turns : (q : model.Replica) (posts : List model.Message) (answer : List ℕ → command.Answer) → s ≡ takes now (message c) (model.Held q) posts answer
        → ((ns : List ℕ) → IsTakeAnswer a (answer ns)) → floor_taken a now.floor fl ≡ floor → LooksHeld me.0 new q
        → (old.replica ≡ replica_of r.history r.all_up_to → StandsBody b c → CanTake now (message c) → now.slots dir.0 ≡ model.Held r
        → new.replica ≡ replica_of q.history q.all_up_to)
        → (new.replica ≡ replica_of q.history q.all_up_to → StandEach (posts_if who (Some (state.Held new)) o) posts) → Core b c s

  count : length old.members ≡ length r.members
  count = sym (length-map old.members _) ∙ ap (λ (ms : List Member). length ms) (sym looks.members)

  own_place : is_listed me.0 r.members ≡ true → place_of me.0 r.members ≡ Some (place_in me old.members)
  own_place listed = place_listed me.0 r.members listed ∙ ap (λ (ms : List Member). Some (unwrap_or (place_of me.0 ms) 0)) looks.members

  -- the answer Taken, with the floor of the message
  answered : a ≡ taken.Taken → (ns : List ℕ) → IsTakeAnswer a (command.Taken ns)
  answered is ns = subst (λ x. IsTakeAnswer x (command.Taken ns)) (sym is) tt

  raises : a ≡ taken.Taken → floor_taken a now.floor fl ≡ floor
  raises is = ap (λ x. floor_taken x now.floor fl) is

  -- nothing is posted
  posts_nothing : o ≡ None → StandEach (posts_if who (Some (state.Held new)) o) []
  posts_nothing none = subst (λ x. StandEach (posts_if who (Some (state.Held new)) x) []) (sym none) tt

  -- what is held looks so
  looks_as : (h : Held) (q : model.Replica) → new ≡ h → LooksHeld me.0 h q → LooksHeld me.0 new q
  looks_as h q is w = subst (λ x. LooksHeld me.0 x q) (sym is) w

  phase_as : (s : Skulk) (p : model.Phase) → StandsPhase me.0 r.members s p → StandsPhase me.0 (members_of old.members) s p
  phase_as s p w = subst (λ ms. StandsPhase me.0 ms s p) looks.members w

  -- one answer, to the sender
  posts_reply : (g : Outgoing) (c : model.Body) (d : model.Body) → o ≡ Some g → receiver_of g ≡ Some sender.0 → new.epoch ≡ old.epoch
      → StandsBody (posting.body_of new g) d → StandEach (posts_if who (Some (state.Held new)) o) (reply now (message c) d)
  posts_reply g c d is to same stands =
      subst (λ x. StandEach (posts_if who (Some (state.Held new)) x) (reply now (message c) d)) (sym is)
      (posts_stand who new g d (sender.0 ∷ []) dir.0 me.0 k floor (ap (λ x. receivers_of x (others_of me.0 (members_of new.members))) (sym to)) refl refl
      (epoch ∙ looks.epoch ∙ ap (λ (e : EpochNo). e.0) (sym same)) refl stands)

  -- something to each other member
  posts_others : (g : Outgoing) (c : model.Body) (d : model.Body) → o ≡ Some g → receiver_of g ≡ None → new.epoch ≡ old.epoch → new.members ≡ old.members
      → StandsBody (posting.body_of new g) d → StandEach (posts_if who (Some (state.Held new)) o) (to_others now (message c) r d)
  posts_others g c d is to same list stands =
      subst (λ x. StandEach (posts_if who (Some (state.Held new)) x) (to_others now (message c) r d)) (sym is)
      (posts_stand who new g d (others_of me.0 r.members) dir.0 me.0 r.epoch floor
      (ap (others_of me.0) (looks.members ∙ ap members_of (sym list)) ∙ ap (λ x. receivers_of x (others_of me.0 (members_of new.members))) (sym to))
      refl refl (looks.epoch ∙ ap (λ (e : EpochNo). e.0) (sym same)) refl stands)

  abbrev gathered_message : Stamp → model.Copy → model.Message
  gathered_message t c = message (model.Gathered t c)

  abbrev ack_message : Stamp → model.Message
  ack_message t = message (model.SpreadAck t)

  -- ---- answers of the first round

  first : (t : Stamp) (rep : Delta) (c : model.Copy) → TakesFirst me from t rep old new a o
      → Core (body.Gathered t rep) (model.Gathered t c) (take_gathered now (message (model.Gathered t c)) t c r r.phase)
  first t rep c w = by_row
      (gather_row now (message (model.Gathered t c)) t r from (place_in me old.members) (ap members_fault looks.members ∙ w.lawful)
      here own_place c old.skulk w.phase r.phase w.next refl
      (subst (λ ms. StandsPhase me.0 ms old.skulk r.phase) (sym looks.members) looks.phase)
      (subst (λ n. TakesGathered t from n (place_in me old.members) old.skulk w.phase w.next) count w.does))
    where
      joins : (n : Next) (q : model.Phase) → JoinsAnswer t rep w.phase n old new a o → StandsPhase me.0 r.members w.phase q → (posts : List model.Message)
          → take_gathered now (gathered_message t c) t c r r.phase
          ≡ takes now (gathered_message t c) (model.Held (record (merge_copy r c) { phase = q })) posts command.Taken
          → (new.replica ≡ replica_of (merge_copy r c).history (merge_copy r c).all_up_to → StandEach (posts_if who (Some (state.Held new)) o) posts)
          → Core (body.Gathered t rep) (model.Gathered t c) (take_gathered now (gathered_message t c) t c r r.phase)
      joins n q j phase posts is each =
          turns (record (merge_copy r c) { phase = q }) posts command.Taken is (answered j.answer) (raises j.answer)
          (looks_as (record old { replica = new.replica; skulk = w.phase }) (record (merge_copy r c) { phase = q }) j.rest
          (record { epoch = looks.epoch; members = looks.members; phase = phase_as w.phase q phase }))
          (λ stands carries can held. delta_taken old.replica rep new.replica r.history c.history r.all_up_to c.all_up_to stands carries.1
          (can.merges r c.history (together r.all_up_to c.all_up_to) held (of_gathered t c refl epoch)) j.replica)
          each

      by_row : GatherRow now (gathered_message t c) t c r r.phase old.skulk w.phase w.next
          → Core (body.Gathered t rep) (model.Gathered t c) (take_gathered now (gathered_message t c) t c r r.phase)
      by_row (phases.stale is n) =
          let z : AfterGathered t rep w.phase (next.Stale (turn.running_skulk_stamp r.phase)) old new a o =
          subst (λ x. AfterGathered t rep w.phase x old new a o) n w.after in
          stays (command.Stale t (turn.running_skulk_stamp r.phase)) is
          (subst (λ x. IsTakeAnswer x (command.Stale t (turn.running_skulk_stamp r.phase))) (sym z.1) (refl, refl))
          z.0 (ap (λ x. floor_taken x now.floor fl) z.1) z.2
      by_row (phases.waits q is phase n) =
          let j : JoinsAnswer t rep w.phase next.Nothing old new a o = subst (λ x. AfterGathered t rep w.phase x old new a o) n w.after in
          joins next.Nothing q j phase [] is (λ _. posts_nothing j.posts)
      by_row (phases.spreads is phase n) =
          let j : JoinsAnswer t rep w.phase next.SendSpread old new a o = subst (λ x. AfterGathered t rep w.phase x old new a o) n w.after in
          joins next.SendSpread (model.Spreading t []) j phase (to_others now (gathered_message t c) r (model.Spread t (copy_of (merge_copy r c)))) is
          (λ stands. posts_others (out.Spread t) (model.Gathered t c) (model.Spread t (copy_of (merge_copy r c))) j.posts refl
          (ap (λ (h : Held). h.epoch) j.rest) (ap (λ (h : Held). h.members) j.rest) (refl, ap delta_in stands))

  -- ---- answers of the second round

  second : (t : Stamp) → TakesSecond from t old new a o
      → Core (body.SpreadAck t) (model.SpreadAck t) (take_ack now (message (model.SpreadAck t)) t r r.phase)
  second t w = by_row
      (ack_row now (message (model.SpreadAck t)) t r from (place_in me old.members) (ap members_fault looks.members ∙ w.lawful)
      here own_place old.skulk new.skulk r.phase w.next refl
      (subst (λ ms. StandsPhase me.0 ms old.skulk r.phase) (sym looks.members) looks.phase)
      (subst (λ n. TakesSpread t from n old.skulk new.skulk w.next) count w.does))
    where
      by_row : AckRow now (ack_message t) t r r.phase old.skulk new.skulk w.next
          → Core (body.SpreadAck t) (model.SpreadAck t) (take_ack now (ack_message t) t r r.phase)
      by_row (phases.stale is n same) =
          let z : AfterSpread t (next.Stale (turn.running_skulk_stamp r.phase)) old new a o = subst (λ x. AfterSpread t x old new a o) n w.after in
          stays (command.Stale t (turn.running_skulk_stamp r.phase)) is
          (subst (λ x. IsTakeAnswer x (command.Stale t (turn.running_skulk_stamp r.phase))) (sym z.1) (refl, refl))
          (z.0 ∙ ap (λ s. record old { skulk = s }) same) (ap (λ x. floor_taken x now.floor fl) z.1) z.2
      by_row (phases.waits q is phase n) =
          let z : AfterSpread t next.Nothing old new a o = subst (λ x. AfterSpread t x old new a o) n w.after in
          turns (record r { phase = q }) [] command.Taken is (answered z.1) (raises z.1)
          (looks_as (record old { skulk = new.skulk }) (record r { phase = q }) z.0
          (record { epoch = looks.epoch; members = looks.members; phase = phase_as new.skulk q phase }))
          (λ stands carries can held. ap (λ (h : Held). h.replica) z.0 ∙ stands)
          (λ _. posts_nothing z.2)
      by_row (phases.completes is idle n) =
          let z : AfterSpread t (next.Complete t) old new a o = subst (λ x. AfterSpread t x old new a o) n w.after in
          turns (record r { all_up_to = later_up_to r.all_up_to t; phase = model.Idle }) (to_others now (ack_message t) r (model.Advance t)) (command.Complete t) is
          (λ ns. subst (λ x. IsTakeAnswer x (command.Complete t ns)) (sym z.2) refl) (ap (λ x. floor_taken x now.floor fl) z.2)
          (looks_as (record old { replica = new.replica; skulk = new.skulk }) (record r { all_up_to = later_up_to r.all_up_to t; phase = model.Idle }) z.1
          (record {
            epoch = looks.epoch;
            members = looks.members;
            phase = subst (λ x. StandsPhase me.0 (members_of old.members) x model.Idle) (sym idle) tt;
          }))
          (λ stands carries can held. replica_advanced old.replica new.replica r.history r.all_up_to t stands z.0)
          (λ _. posts_others (out.Advance t) (model.SpreadAck t) (model.Advance t) z.3 refl (ap (λ (h : Held). h.epoch) z.1)
          (ap (λ (h : Held). h.members) z.1) refl)

  -- ---- all of them

  same_looks : new ≡ old → LooksHeld me.0 new r
  same_looks is = looks_as old r is looks

  core : (b : Body) (c : model.Body) → LooksBody b c → TakesOwn me from sender b old new a o → Core b c (take_own now (message c) r c)
  core (body.Update f) (model.Update marks) w z =
      turns (with_marks r marks) [] command.Taken refl (answered z.2) (raises z.2)
      (looks_as (record old { replica = new.replica }) (with_marks r marks) z.1 (record { epoch = looks.epoch; members = looks.members; phase = looks.phase }))
      (λ stands carries can held. fragment_taken old.replica new.replica f r.history marks r.all_up_to stands
      (can.merges r marks r.all_up_to held (of_update marks refl epoch)) carries z.0)
      (λ _. posts_nothing z.3)
  core (body.Gather t) (model.Gather u) w z =
      turns r (reply now (message (model.Gather u)) (model.Gathered u (copy_of r))) command.Taken refl (answered z.1) (raises z.1) (same_looks z.0)
      (λ stands carries can held. ap (λ (h : Held). h.replica) z.0 ∙ stands)
      (λ stands. posts_reply (out.Gathered t sender) (model.Gather u) (model.Gathered u (copy_of r)) z.2 refl (ap (λ (h : Held). h.epoch) z.0) (w, ap delta_in stands))
  core (body.Gathered t rep) (model.Gathered u c) w z =
      subst (λ v. Core (body.Gathered v rep) (model.Gathered u c) (take_own now (message (model.Gathered u c)) r (model.Gathered u c))) (sym w)
      (first u rep c (subst (λ v. TakesFirst me from v rep old new a o) w z))
  core (body.Spread t rep) (model.Spread u c) w z =
      turns (merge_copy r c) (reply now (message (model.Spread u c)) (model.SpreadAck u)) command.Taken refl (answered z.2) (raises z.2)
      (looks_as (record old { replica = new.replica }) (merge_copy r c) z.1 (record { epoch = looks.epoch; members = looks.members; phase = looks.phase }))
      (λ stands carries can held. delta_taken old.replica rep new.replica r.history c.history r.all_up_to c.all_up_to stands carries.1
      (can.merges r c.history (together r.all_up_to c.all_up_to) held (of_spread u c refl epoch)) z.0)
      (λ _. posts_reply (out.SpreadAck t sender) (model.Spread u c) (model.SpreadAck u) z.3 refl (ap (λ (h : Held). h.epoch) z.1) w)
  core (body.SpreadAck t) (model.SpreadAck u) w z =
      subst (λ v. Core (body.SpreadAck v) (model.SpreadAck u) (take_own now (message (model.SpreadAck u)) r (model.SpreadAck u))) (sym w)
      (second u (subst (λ v. TakesSecond from v old new a o) w z))
  core (body.Advance t) (model.Advance u) w z =
      turns (record r { all_up_to = later_up_to r.all_up_to u }) [] command.Taken refl (answered z.2) (raises z.2)
      (looks_as (record old { replica = new.replica }) (record r { all_up_to = later_up_to r.all_up_to u }) z.1
      (record { epoch = looks.epoch; members = looks.members; phase = looks.phase }))
      (λ stands carries can held. replica_advanced old.replica new.replica r.history r.all_up_to u stands
      (subst (λ v. Advances old.replica v new.replica) w z.0))
      (λ _. posts_nothing z.3)
  core (body.Join ms rep) (model.Join ns c) w z =
      stays command.Foreign refl (subst (λ x. IsTakeAnswer x command.Foreign) (sym z.1) tt) z.0.0 (ap (λ x. floor_taken x now.floor fl) z.1) z.0.1
  core body.Leave model.Leave w z =
      stays command.Foreign refl (subst (λ x. IsTakeAnswer x command.Foreign) (sym z.1) tt) z.0.0 (ap (λ x. floor_taken x now.floor fl) z.1) z.0.1
  core _ _ w z = elim w [ ]

  -- ---- the clauses

  fine_slot : StandsHeld me.0 now.floor old r → now.slots dir.0 ≡ model.Held r → FineSlot now.floor (now.slots dir.0)
  fine_slot stands held q at =
      let z : model.Held r ≡ model.Held q = sym held ∙ at in
      let same : r ≡ q = cc in
      subst (Fine now.floor) same (record { history = stands.history; below = stands.below })

  step_by : (b : Body) (c : model.Body) (s : HouseStep) → Core b c s → StandsHeld me.0 now.floor old r → StandsBody b c → CanTake now (message c)
      → now.slots dir.0 ≡ model.Held r → FineAfter dir.0 s → HeldStep (IsTakeAnswer a) s now me dir old new (floor_taken a now.floor fl) o
  step_by b c s (stays answer is ans same low none) stands carries can held fine =
      subst (λ x. HeldStep (IsTakeAnswer a) x now me dir old new (floor_taken a now.floor fl) o) (sym is) (ans, same, low, none)
  step_by b c s (turns q posts answer is ans high looks' rep each) stands carries can held fine =
      let replica = rep stands.replica carries can held in
      let w : FineSlot floor ((turn.with_slot now dir.0 floor (model.Held q)).slots dir.0) = subst (FineAfter dir.0) is fine in
      let f : Fine floor q = w q (put_same now.slots dir.0 (model.Held q)) in
      let after : Turn = record { house = turn.with_slot now dir.0 floor (model.Held q); posts = posts; answer = answer; accepted = [] } in
      subst (λ x. HeldStep (IsTakeAnswer a) x now me dir old new (floor_taken a now.floor fl) o) (sym is) (
        ans,
        subst (λ n. HeldTurn after now me dir new n o) (sym high) (record {
          replica = q;
          house = refl;
          stands = record { looks = looks'; replica = replica; history = f.history; below = f.below };
          each = each replica;
        }),
      )

  looks_by : (b : Body) (c : model.Body) (s : HouseStep) → Core b c s → LooksAfter (IsTakeAnswer a) s now me.0 dir.0 new
  looks_by b c s (stays answer is ans same low none) = subst (λ x. LooksAfter (IsTakeAnswer a) x now me.0 dir.0 new) (sym is) ans
  looks_by b c s (turns q posts answer is ans high looks' rep each) =
      subst (λ x. LooksAfter (IsTakeAnswer a) x now me.0 dir.0 new) (sym is) (ans, record { replica = q; floor = floor; house = refl; looks = looks' })

-- what stands for what a message says looks like it
pub body_looks : (b : Body) (c : model.Body) → StandsBody b c → LooksBody b c
body_looks (body.Update f) (model.Update ms) w = tt
body_looks (body.Gather t) (model.Gather u) w = w
body_looks (body.Gathered t rep) (model.Gathered u c) w = w.0
body_looks (body.Spread t rep) (model.Spread u c) w = w.0
body_looks (body.SpreadAck t) (model.SpreadAck u) w = w
body_looks (body.Advance t) (model.Advance u) w = w
body_looks (body.Join ms rep) (model.Join ns c) w = w.0
body_looks body.Leave model.Leave w = tt
body_looks _ _ w = elim w [ ]

-- ---- of any message of the model

-- the message of the model, by what a message to the house says
pub message_is : (to : ℕ) (m : Message) (n : model.Message) → StandsHead to m n
    → n ≡ record { receiver = to; dir = m.dir.0; sender = m.from.0; epoch = m.epoch.0; floor = m.floor; body = n.body }
message_is to m n h = λ i. record {
  receiver = h.receiver i;
  dir = h.dir i;
  sender = h.sender i;
  epoch = h.epoch i;
  floor = h.floor i;
  body = n.body;
}

-- what a step does with what is held, that is a member's message of its epoch or not
module _ (me : HouseNo) (msg : Message) (now : model.House) (old new : Held) (r : model.Replica) (a : Taken) (o : Option Outgoing) where
  abbrev said : model.Body → model.Message
  said c = record { receiver = me.0; dir = msg.dir.0; sender = msg.from.0; epoch = msg.epoch.0; floor = msg.floor; body = c }

  abbrev Step : HouseStep → Type 0
  Step s = HeldStep (IsTakeAnswer a) s now me msg.dir old new (floor_taken a now.floor msg.floor) o

  abbrev Looks : HouseStep → Type 0
  Looks s = LooksAfter (IsTakeAnswer a) s now me.0 msg.dir.0 new

  answered_so : (answer : Taken) (said : command.Answer) → a ≡ answer → IsTakeAnswer answer said → IsTakeAnswer a said
  answered_so answer said is h = subst (λ x. IsTakeAnswer x said) (sym is) h

  -- nothing is changed
  step_stays : (answer : Taken) (said : command.Answer) → Answers old new answer a o → IsTakeAnswer answer said
      → floor_taken answer now.floor msg.floor ≡ now.floor → Step (Stays said)
  step_stays answer said z h low = (answered_so answer said z.1 h, z.0, ap (λ x. floor_taken x now.floor msg.floor) z.1 ∙ low, z.2)

  looks_stays : (answer : Taken) (said : command.Answer) → Answers old new answer a o → IsTakeAnswer answer said → Looks (Stays said)
  looks_stays answer said z h = answered_so answer said z.1 h

  own_place_of : LooksHeld me.0 old r → (from : ℕ) → place_of msg.from.0 (members_of old.members) ≡ Some from → place_of msg.from.0 r.members ≡ Some from
  own_place_of looks from here = ap (place_of msg.from.0) looks.members ∙ here

  -- by the member's place
  placed_step : (c : model.Body) (p : Option ℕ) → place_of msg.from.0 (members_of old.members) ≡ p → StandsHeld me.0 now.floor old r → StandsBody msg.body c
      → CanTake now (said c) → now.slots msg.dir.0 ≡ model.Held r → rows.IsOther c → msg.epoch.0 ≡ r.epoch
      → MatchOption p (Answers old new taken.Foreign a o) (λ from. TakesOwn me from msg.from msg.body old new a o)
      → Step (if is_listed msg.from.0 r.members then take_own now (said c) r c else Stays command.Foreign)
  placed_step c None is stands carries can held other epoch z =
      subst (λ b. Step (if b then take_own now (said c) r c else Stays command.Foreign))
      (sym (unlisted msg.from.0 r.members (ap (place_of msg.from.0) stands.looks.members ∙ is)))
      (step_stays taken.Foreign command.Foreign z tt refl)
  placed_step c (Some from) is stands carries can held other epoch z =
      let here = own_place_of stands.looks from is in
      let listed : is_listed msg.from.0 r.members ≡ true = placed msg.from.0 from r.members here in
      let fine : FineAfter msg.dir.0 (take_own now (said c) r c) =
      row_fine now (said c) can (fine_slot me msg.dir msg.from msg.epoch.0 msg.floor now old new r from a o stands.looks here epoch stands held)
      (take_own now (said c) r c) (rows.own_row now (said c) r c other (record { is = refl; held = held; epoch = epoch; member = listed })) in
      subst (λ b. Step (if b then take_own now (said c) r c else Stays command.Foreign)) (sym listed)
      (step_by me msg.dir msg.from msg.epoch.0 msg.floor now old new r from a o stands.looks here epoch msg.body c (take_own now (said c) r c)
      (core me msg.dir msg.from msg.epoch.0 msg.floor now old new r from a o stands.looks here epoch msg.body c (body_looks msg.body c carries) z)
      stands carries can held fine)

  placed_looks : (c : model.Body) (p : Option ℕ) → place_of msg.from.0 (members_of old.members) ≡ p → LooksHeld me.0 old r → LooksBody msg.body c
      → msg.epoch.0 ≡ r.epoch
      → MatchOption p (Answers old new taken.Foreign a o) (λ from. TakesOwn me from msg.from msg.body old new a o)
      → Looks (if is_listed msg.from.0 r.members then take_own now (said c) r c else Stays command.Foreign)
  placed_looks c None is looks carries epoch z =
      subst (λ b. Looks (if b then take_own now (said c) r c else Stays command.Foreign))
      (sym (unlisted msg.from.0 r.members (ap (place_of msg.from.0) looks.members ∙ is)))
      (looks_stays taken.Foreign command.Foreign z tt)
  placed_looks c (Some from) is looks carries epoch z =
      let here = own_place_of looks from is in
      subst (λ b. Looks (if b then take_own now (said c) r c else Stays command.Foreign)) (sym (placed msg.from.0 from r.members here))
      (looks_by me msg.dir msg.from msg.epoch.0 msg.floor now old new r from a o looks here epoch msg.body c (take_own now (said c) r c)
      (core me msg.dir msg.from msg.epoch.0 msg.floor now old new r from a o looks here epoch msg.body c carries z))

  -- by the epochs
  same_epoch : LooksHeld me.0 old r → nat_lt msg.epoch.0 old.epoch.0 ≡ false → nat_lt old.epoch.0 msg.epoch.0 ≡ false → msg.epoch.0 ≡ r.epoch
  same_epoch looks low high = let same = looks.epoch in grind (arith, nat_tests, low, high, same)

  abbrev Placed : Type 0
  Placed = MatchOption (place_of msg.from.0 (members_of old.members)) (Answers old new taken.Foreign a o)
      (λ from. TakesOwn me from msg.from msg.body old new a o)

  abbrev by_epoch : ℕ → (low high : Bool) → HouseStep → HouseStep
  by_epoch e low high step =
      if low then Stays (command.Late msg.epoch.0 e) else (if high then Stays (command.Early msg.epoch.0 e) else step)

  epochs_step : (step : HouseStep) (low high : Bool) → nat_lt msg.epoch.0 old.epoch.0 ≡ low → nat_lt old.epoch.0 msg.epoch.0 ≡ high
      → (nat_lt msg.epoch.0 old.epoch.0 ≡ false → nat_lt old.epoch.0 msg.epoch.0 ≡ false → Placed → Step step)
      → MatchBool low (Answers old new (taken.Late msg.epoch old.epoch) a o) (MatchBool high (Answers old new (taken.Early msg.epoch old.epoch) a o) Placed)
      → Step (by_epoch old.epoch.0 low high step)
  epochs_step step true high is also here z = step_stays (taken.Late msg.epoch old.epoch) (command.Late msg.epoch.0 old.epoch.0) z (refl, refl) refl
  epochs_step step false true is also here z = step_stays (taken.Early msg.epoch old.epoch) (command.Early msg.epoch.0 old.epoch.0) z (refl, refl) refl
  epochs_step step false false is also here z = here is also z

  epochs_looks : (step : HouseStep) (low high : Bool) → nat_lt msg.epoch.0 old.epoch.0 ≡ low → nat_lt old.epoch.0 msg.epoch.0 ≡ high
      → (nat_lt msg.epoch.0 old.epoch.0 ≡ false → nat_lt old.epoch.0 msg.epoch.0 ≡ false → Placed → Looks step)
      → MatchBool low (Answers old new (taken.Late msg.epoch old.epoch) a o) (MatchBool high (Answers old new (taken.Early msg.epoch old.epoch) a o) Placed)
      → Looks (by_epoch old.epoch.0 low high step)
  epochs_looks step true high is also here z = looks_stays (taken.Late msg.epoch old.epoch) (command.Late msg.epoch.0 old.epoch.0) z (refl, refl)
  epochs_looks step false true is also here z = looks_stays (taken.Early msg.epoch old.epoch) (command.Early msg.epoch.0 old.epoch.0) z (refl, refl)
  epochs_looks step false false is also here z = here is also z

  -- a message that is neither a Join nor a Leave is the step
  said_step : (c : model.Body) → StandsHeld me.0 now.floor old r → StandsBody msg.body c → CanTake now (said c) → now.slots msg.dir.0 ≡ model.Held r
      → rows.IsOther c → TakesHere me msg old new a o → Step (take_other now (said c) c (model.Held r))
  said_step c stands carries can held other z =
      subst (λ e. Step (by_epoch e (nat_lt msg.epoch.0 e) (nat_lt e msg.epoch.0)
      (if is_listed msg.from.0 r.members then take_own now (said c) r c else Stays command.Foreign)))
      (sym stands.looks.epoch)
      (epochs_step (if is_listed msg.from.0 r.members then take_own now (said c) r c else Stays command.Foreign)
      (nat_lt msg.epoch.0 old.epoch.0) (nat_lt old.epoch.0 msg.epoch.0) refl refl
      (λ low high w. placed_step c (place_of msg.from.0 (members_of old.members)) refl stands carries can held other (same_epoch stands.looks low high) w) z)

  said_looks : (c : model.Body) → LooksHeld me.0 old r → LooksBody msg.body c → TakesHere me msg old new a o
      → Looks (take_other now (said c) c (model.Held r))
  said_looks c looks carries z =
      subst (λ e. Looks (by_epoch e (nat_lt msg.epoch.0 e) (nat_lt e msg.epoch.0)
      (if is_listed msg.from.0 r.members then take_own now (said c) r c else Stays command.Foreign)))
      (sym looks.epoch)
      (epochs_looks (if is_listed msg.from.0 r.members then take_own now (said c) r c else Stays command.Foreign)
      (nat_lt msg.epoch.0 old.epoch.0) (nat_lt old.epoch.0 msg.epoch.0) refl refl
      (λ low high w. placed_looks c (place_of msg.from.0 (members_of old.members)) refl looks carries (same_epoch looks low high) w) z)

-- a message that is neither a Join nor a Leave, at a house that holds its directory, is the step
pub other_step : (me : HouseNo) (msg : Message) (m : model.Message) (now : model.House) (old new : Held) (r : model.Replica) (a : Taken) (o : Option Outgoing)
    → StandsMessage me.0 msg m → StandsHeld me.0 now.floor old r → CanTake now m → now.slots m.dir ≡ model.Held r
    → rows.IsOther m.body → TakesHere me msg old new a o
    → HeldStep (IsTakeAnswer a) (take_other now m m.body (model.Held r)) now me msg.dir old new (floor_taken a now.floor msg.floor) o
other_step me msg m now old new r a o carries stands can held other z =
    subst (λ (x : model.Message). CanTake now x → now.slots x.dir ≡ model.Held r
    → HeldStep (IsTakeAnswer a) (take_other now x x.body (model.Held r)) now me msg.dir old new (floor_taken a now.floor msg.floor) o)
    (sym (message_is me.0 msg m carries.head))
    (λ can held. said_step me msg now old new r a o m.body stands carries.body can held other z) can held

-- and looks so
pub other_looks : (me : HouseNo) (msg : Message) (m : model.Message) (now : model.House) (old new : Held) (r : model.Replica) (a : Taken)
    (o : Option Outgoing) → LooksMessage me.0 msg m → LooksHeld me.0 old r → TakesHere me msg old new a o
    → LooksAfter (IsTakeAnswer a) (take_other now m m.body (model.Held r)) now me.0 msg.dir.0 new
other_looks me msg m now old new r a o carries looks z =
    subst (λ (x : model.Message). LooksAfter (IsTakeAnswer a) (take_other now x x.body (model.Held r)) now me.0 msg.dir.0 new)
    (sym (message_is me.0 msg m carries.head))
    (said_looks me msg now old new r a o m.body looks carries.body z)

-- ---- the greatest time of a message is its floor

each_mark : (n : ℕ) (ms : List Mark) → ((k : Mark) → In k ms → MarkUpTo n k) → AllByRecursion (MarkUpTo n) ms
each_mark n [] h = tt
each_mark n (k ∷ ks) h = (h k (inl refl), each_mark n ks (λ j i. h j (inr i)))

stamp_up_to : (n : ℕ) (o : Option Stamp) → ((t : Stamp) → o ≡ Some t → t.time ≤ n) → StampUpTo n o
stamp_up_to n None h = tt
stamp_up_to n (Some t) h = h t refl

module _ (n : ℕ) (c : model.Copy) (marks : (k : Mark) → In k c.history → MarkUpTo n k) (up : (t : Stamp) → c.all_up_to ≡ Some t → t.time ≤ n) where
  history_up_to : ReplicaUpTo n (replica_of c.history c.all_up_to)
  history_up_to = record { table = purged-up_to n c.history c.all_up_to (each_mark n c.history marks); all_up_to = stamp_up_to n c.all_up_to up }

  copy_up_to : (rep : Replica) → StandsCopy rep c → ReplicaUpTo n rep
  copy_up_to rep is = subst (ReplicaUpTo n) (sym is) history_up_to

  delta_up_to : (d : Delta) → StandsDelta d c → DeltaUpTo n d
  delta_up_to d is = subst (DeltaUpTo n) (sym is) (delta_in-up_to n (replica_of c.history c.all_up_to) history_up_to)

some_entry : (n : ℕ) (o : Option EntryCell) (e : EntryCell) → o ≡ Some e → IfSome o (EntryUpTo n) → EntryUpTo n e
some_entry n o e is h = subst (λ x. IfSome x (EntryUpTo n)) is h

-- what a message carries has no time above its floor, where the message of the model has none
body_up_to : (n : ℕ) (b : Body) (c : model.Body) → StandsBody b c → ((k : Mark) → In k (marks_in c) → MarkUpTo n k)
    → ((t : Stamp) → up_to_in c ≡ Some t → t.time ≤ n) → ((t : Stamp) → round_of c ≡ Some t → t.time ≤ n) → BodyUpTo n b
body_up_to n (body.Update f) (model.Update ms) w marks up round =
    some_entry n (entry_of ms f.name) f.entry w.entry (entry_of-up_to n ms f.name (each_mark n ms marks))
body_up_to n (body.Gather t) (model.Gather u) w marks up round = subst (λ (x : Stamp). x.time ≤ n) (sym w) (round u refl)
body_up_to n (body.Gathered t d) (model.Gathered u c) w marks up round =
    (subst (λ (x : Stamp). x.time ≤ n) (sym w.0) (round u refl), delta_up_to n c marks up d w.1)
body_up_to n (body.Spread t d) (model.Spread u c) w marks up round =
    (subst (λ (x : Stamp). x.time ≤ n) (sym w.0) (round u refl), delta_up_to n c marks up d w.1)
body_up_to n (body.SpreadAck t) (model.SpreadAck u) w marks up round = subst (λ (x : Stamp). x.time ≤ n) (sym w) (round u refl)
body_up_to n (body.Advance t) (model.Advance u) w marks up round = subst (λ (x : Stamp). x.time ≤ n) (sym w) (round u refl)
body_up_to n (body.Join ms rep) (model.Join ns c) w marks up round = copy_up_to n c marks up rep w.1
body_up_to n body.Leave model.Leave w marks up round = tt
body_up_to n _ _ w marks up round = elim w [ ]

both_up_to : (a b n : ℕ) → a ≤ n → b ≤ n → max a b ≤ n
both_up_to a b n p q = omega (arith, p, q)

latest_low : (n : ℕ) (b : Body) → BodyUpTo n b → latest_in_body b ≤ n
latest_low n (body.Update f) w = (latest_in_entry-≤ n f.entry).1 w
latest_low n (body.Gather t) w = w
latest_low n (body.Gathered t d) w = both_up_to t.time (latest_in_delta d) n w.0 ((latest_in_delta-≤ n d).1 w.1)
latest_low n (body.Spread t d) w = both_up_to t.time (latest_in_delta d) n w.0 ((latest_in_delta-≤ n d).1 w.1)
latest_low n (body.SpreadAck t) w = w
latest_low n (body.Advance t) w = w
latest_low n (body.Join ms rep) w = (latest_time-≤ n rep).1 w
latest_low n body.Leave w = omega arith

-- the greatest time in a message that can be taken is its floor
pub latest_is : (to : ℕ) (msg : Message) (m : model.Message) (now : model.House) → StandsMessage to msg m → CanTake now m → latest_in_message msg ≡ msg.floor
latest_is to msg m now carries can =
    let low = latest_low m.floor msg.body (body_up_to m.floor msg.body m.body carries.body can.below.marks can.below.all_up_to can.below.round) in
    let same = carries.head.floor in
    omega (arith, low, same)
