-- How many messages a command posts: to each member of a list at most two.
use Rattle.std.proofs.Common.{◌≡◌, ℕ, ◌+◌, ◌≤◌, Bool, true, false, eqb, cond, List, [], ◌∷◌, ◌++◌, length, refl, sym, ap, ◌∙◌, subst, arith}
use Rattle.std.proofs.Common.{length-append, suc, nat_lt}
use Rattle.std.proofs.Common.{not}
use Rattle.std.specs.Prelude.{Option, Some, None, nat_le, ◌&&◌}
use Rattle.std.specs.List.{list_any}
use Rattle.cds_stamps.specs.declared.stamp.Stamp.{Stamp}
use Rattle.cds_stamps.specs.Members.{Member, is_listed, master_of, others_of, since_in}
use Rattle.cds_stamps.specs.Stamps.{is_stamp}
use Rattle.directory.specs.declared.update.UpdateRefusal.{UpdateRefusal}
use Rattle.directory.specs.declared.update.UpdateRefusal.TheVariants as why
use Rattle.directory.specs.Updates as changes
use Rattle.cell_model.specs.Cells.{Phase, Idle, Gathering, Spreading, Replica, Slot, Absent, Gone, Held, House, Body, Update, Gather, Gathered}
use Rattle.cell_model.specs.Cells.{Spread, SpreadAck, Advance, Join, Leave, Copy, Message, Cell, empty_cell}
use Rattle.cell_model.specs.Commands as commands
use Rattle.cell_model.specs.Commands.{Accepted, Command, Refusal, Answer, Stamped, NewEpoch, Complete}
use Rattle.cell_model.specs.Sets.{has}
use Rattle.cell_model.specs.Turns.{HouseStep, Stays, Turns, accept, accept_at, accept_in, all_answered, begin, epoch_posts, found_directory, late_join, late_leave}
use Rattle.cell_model.specs.Turns.{new_epoch, new_epoch_in, skulk, skulk_at, skulk_in, take, take_ack, take_gathered, take_in, take_other, take_own}
use Rattle.cell_model.specs.Turns.{stamp_at, to_each, unless_late, unless_refused, update_refusal, copy_of, epoch_replica, first_replica, floor_after}
use Rattle.cell_model.specs.Turns.{join_replica, later_up_to, merge_copy, refuses, spread, stale, take_and_answer, take_gathered_answer, takes, to_others}
use Rattle.cell_model.specs.Turns.{turn_without_updates, with_slot}
use Rattle.cell_model.specs.Steps.{Outcome, at_house, cell_with_directory, deliver, effect, first_refusal, is_down, left_members, lose, member_list_of}
use Rattle.cell_model.specs.Steps.{message_at, outcome, refusal_outcome, refusals_of, replay, sorted_houses, unless, with_directory, with_epoch}
use Rattle.cell_model.proofs.AtHouses.{accepted_of, at_house-accepted, at_house-bag, posts_of}
use Rattle.cell_model.proofs.Deliveries.{Fails}
use Rattle.cell_model.proofs.Lists.{append_nil, or_right}
use Rattle.cell_model.proofs.PresentLists.{proper_new, tidy_lem}
use Rattle.mend_program.proofs.Values.{accept_gains, gain, made_in}
use Rattle.cell_model.proofs.Runs.{lists_of, replay-append, reaching_at}

-- ---- to how many

others_few : (h : ℕ) (ms : List Member) → length (others_of h ms) ≤ length ms
others_few h [] = omega arith
others_few h (y ∷ ys) = by_test (eqb y.house h) (others_few h ys)
  where
    by_test : (b : Bool) → length (others_of h ys) ≤ length ys → length (cond b (others_of h ys) (y.house ∷ others_of h ys)) ≤ suc (length ys)
    by_test true few = omega (arith, few)
    by_test false few = omega (arith, few)

left_few : (old now : List Member) → length (left_members old now) ≤ length old
left_few [] now = omega arith
left_few (y ∷ ys) now = by_test (is_listed y.house now) (left_few ys now)
  where
    by_test : (b : Bool) → length (left_members ys now) ≤ length ys → length (cond b (left_members ys now) (y.house ∷ left_members ys now)) ≤ suc (length ys)
    by_test true few = omega (arith, few)
    by_test false few = omega (arith, few)

each_few : (hs : List ℕ) (dir sender epoch floor : ℕ) (b : Body) → length (to_each hs dir sender epoch floor b) ≡ length hs
each_few [] dir sender epoch floor b = refl
each_few (h ∷ hs) dir sender epoch floor b = ap (λ (n : ℕ). suc n) (each_few hs dir sender epoch floor b)

-- to the other members of a list
others_posted : (h : ℕ) (ms : List Member) (dir sender epoch floor : ℕ) (b : Body) → length ms ≤ 64
    → length (to_each (others_of h ms) dir sender epoch floor b) ≤ 64
others_posted h ms dir sender epoch floor b most =
    let count = each_few (others_of h ms) dir sender epoch floor b in
    let fewer = others_few h ms in omega (arith, count, fewer, most)

-- ---- steps of a house

-- a step posts at most 64 messages
abbrev FewPosts : HouseStep → Type 0
FewPosts s = length (posts_of s) ≤ 64

-- and accepts no update
abbrev Few : HouseStep → Type 0
Few s = FewPosts s × (accepted_of s ≡ [])

-- what a slot holds has at most 64 members
abbrev pub FewMembers : Slot → Type 0
FewMembers Absent = Unit {0}
FewMembers (Gone e) = Unit {0}
FewMembers (Held r) = length r.members ≤ 64

accept_few : (h : ℕ) (now : House) (d : ℕ) (u : changes.Change) (s : Slot) → FewMembers s → FewPosts (accept_in h now d u s)
accept_few h now d u Absent few = omega arith
accept_few h now d u (Gone e) few = omega arith
accept_few h now d u (Held r) few = by_refusal (update_refusal h u r)
  where
    by_stamp : (o : Option Stamp) → FewPosts (accept_at h now d u r o)
    by_stamp None = omega arith
    by_stamp (Some s) = others_posted h r.members d h r.epoch s.time _ few

    by_refusal : (o : Option UpdateRefusal) → FewPosts (unless_refused o (accept_at h now d u r (stamp_at now)))
    by_refusal None = by_stamp (stamp_at now)
    by_refusal (Some w) = omega arith

gain_one : (u : changes.Change) → gain u ≤ 1
gain_one (changes.Create n) = omega arith
gain_one (changes.MakeLink n target) = omega arith
gain_one (changes.MakeChild n pointer) = omega arith
gain_one (changes.Delete n) = omega arith
gain_one (changes.Add n a v) = omega arith
gain_one (changes.Remove n a v) = omega arith
gain_one (changes.Put n a v) = omega arith
gain_one (changes.Clear n a) = omega arith
gain_one (changes.Repoint n master others) = omega arith

begin_few : (h : ℕ) (now : House) (d : ℕ) (r : Replica) (t : Stamp) (hs : List ℕ) → length hs ≤ 64 → Few (begin h now d r t hs)
begin_few h now d r t [] few = (omega arith, refl)
begin_few h now d r t (y ∷ ys) few = (let count = each_few (y ∷ ys) d h r.epoch t.time (Gather t) in omega (arith, count, few), refl)

skulk_few : (h : ℕ) (now : House) (d : ℕ) (s : Slot) → FewMembers s → Few (skulk_in h now d s)
skulk_few h now d Absent few = (omega arith, refl)
skulk_few h now d (Gone e) few = (omega arith, refl)
skulk_few h now d (Held r) few = by_test (eqb (master_of r.members) h)
  where
    by_stamp : (o : Option Stamp) → Few (skulk_at h now d r o)
    by_stamp None = (omega arith, refl)
    by_stamp (Some t) = begin_few h now d r t (others_of h r.members) (let fewer = others_few h r.members in omega (arith, fewer, few))

    by_test : (b : Bool) → Few (cond b (skulk_at h now d r (stamp_at now)) (refuses why.NotMaster))
    by_test true = by_stamp (stamp_at now)
    by_test false = (omega arith, refl)

gathered_few : (now : House) (m : Message) (t : Stamp) (copy : Copy) (r : Replica) (phase : Phase) → length r.members ≤ 64
    → Few (take_gathered now m t copy r phase)
gathered_few now m t copy r Idle most = (omega arith, refl)
gathered_few now m t copy r (Gathering u answered) most = by_stamp (is_stamp t u)
  where
    by_all : (b : Bool) → Few (cond b
        (take_and_answer now m (Held (record (merge_copy r copy) { phase = Spreading u [] })) (to_others now m r (Spread u (copy_of (merge_copy r copy)))))
        (take_and_answer now m (Held (record (merge_copy r copy) { phase = Gathering u (m.sender ∷ answered) })) []))
    by_all true = (others_posted m.receiver r.members m.dir m.receiver r.epoch (floor_after now m) (Spread u (copy_of (merge_copy r copy))) most, refl)
    by_all false = (omega arith, refl)

    by_stamp : (b : Bool) → Few (cond b (take_gathered_answer now m r u (merge_copy r copy) (m.sender ∷ answered)) (stale t (Gathering u answered)))
    by_stamp true = by_all (all_answered (others_of m.receiver r.members) (m.sender ∷ answered))
    by_stamp false = (omega arith, refl)
gathered_few now m t copy r (Spreading u answered) most = by_stamp (is_stamp t u)
  where
    by_stamp : (b : Bool) → Few (cond b (take_and_answer now m (Held (merge_copy r copy)) []) (stale t (Spreading u answered)))
    by_stamp true = (omega arith, refl)
    by_stamp false = (omega arith, refl)

ack_few : (now : House) (m : Message) (t : Stamp) (r : Replica) (phase : Phase) → length r.members ≤ 64 → Few (take_ack now m t r phase)
ack_few now m t r Idle most = (omega arith, refl)
ack_few now m t r (Gathering u answered) most = by_stamp (is_stamp t u)
  where
    by_stamp : (b : Bool) → Few (cond b (take_and_answer now m (Held r) []) (stale t (Gathering u answered)))
    by_stamp true = (omega arith, refl)
    by_stamp false = (omega arith, refl)
ack_few now m t r (Spreading u answered) most = by_stamp (is_stamp t u)
  where
    by_all : (b : Bool) → Few (cond b
        (takes now m (Held (record r { all_up_to = later_up_to r.all_up_to u; phase = Idle })) (to_others now m r (Advance u)) (Complete u))
        (take_and_answer now m (Held (record r { phase = Spreading u (m.sender ∷ answered) })) []))
    by_all true = (others_posted m.receiver r.members m.dir m.receiver r.epoch (floor_after now m) (Advance u) most, refl)
    by_all false = (omega arith, refl)

    by_stamp : (b : Bool) → Few (cond b (spread now m r u (m.sender ∷ answered)) (stale t (Spreading u answered)))
    by_stamp true = by_all (all_answered (others_of m.receiver r.members) (m.sender ∷ answered))
    by_stamp false = (omega arith, refl)

own_few : (now : House) (m : Message) (r : Replica) (b : Body) → length r.members ≤ 64 → Few (take_own now m r b)
own_few now m r (Update marks) most = (omega arith, refl)
own_few now m r (Gather t) most = (omega arith, refl)
own_few now m r (Gathered t copy) most = gathered_few now m t copy r r.phase most
own_few now m r (Spread t copy) most = (omega arith, refl)
own_few now m r (SpreadAck t) most = ack_few now m t r r.phase most
own_few now m r (Advance t) most = (omega arith, refl)
own_few now m r (Join members copy) most = (omega arith, refl)
own_few now m r Leave most = (omega arith, refl)

other_few : (now : House) (m : Message) (body : Body) (s : Slot) → FewMembers s → Few (take_other now m body s)
other_few now m body Absent few = (omega arith, refl)
other_few now m body (Gone e) few = (omega arith, refl)
other_few now m body (Held r) few = by_late (nat_lt m.epoch r.epoch)
  where
    by_listed : (b : Bool) → Few (cond b (take_own now m r body) (Stays commands.Foreign))
    by_listed true = own_few now m r body few
    by_listed false = (omega arith, refl)

    by_early : (b : Bool) → Few (cond b (Stays (commands.Early m.epoch r.epoch)) (cond (is_listed m.sender r.members) (take_own now m r body) (Stays commands.Foreign)))
    by_early true = (omega arith, refl)
    by_early false = by_listed (is_listed m.sender r.members)

    by_late : (b : Bool) → Few (cond b (Stays (commands.Late m.epoch r.epoch)) (cond (nat_lt r.epoch m.epoch) (Stays (commands.Early m.epoch r.epoch))
        (cond (is_listed m.sender r.members) (take_own now m r body) (Stays commands.Foreign))))
    by_late true = (omega arith, refl)
    by_late false = by_early (nat_lt r.epoch m.epoch)

late_few : (m : Message) (o : Option ℕ) (s : HouseStep) → Few s → Few (unless_late m o s)
late_few m None s few = few
late_few m (Some e) s few = (omega arith, refl)

take_few : (now : House) (m : Message) (b : Body) (s : Slot) → FewMembers s → Few (take_in now m b s)
take_few now m (Join members copy) s few =
    late_few m (late_join m.epoch s) _ (by_listed (is_listed m.receiver members && is_listed m.sender members))
  where
    by_listed : (b : Bool) → Few (cond b (take_and_answer now m (Held (join_replica m members copy s)) []) (Stays commands.Foreign))
    by_listed true = (omega arith, refl)
    by_listed false = (omega arith, refl)
take_few now m Leave s few = late_few m (late_leave m.epoch s) (take_and_answer now m (Gone m.epoch) []) (omega arith, refl)
take_few now m (Update marks) s few = other_few now m (Update marks) s few
take_few now m (Gather t) s few = other_few now m (Gather t) s few
take_few now m (Gathered t copy) s few = other_few now m (Gathered t copy) s few
take_few now m (Spread t copy) s few = other_few now m (Spread t copy) s few
take_few now m (SpreadAck t) s few = other_few now m (SpreadAck t) s few
take_few now m (Advance t) s few = other_few now m (Advance t) s few

both_few : (joins leaves : List Message) → length joins ≤ 64 → length leaves ≤ 64 → length (joins ++ leaves) ≤ 128
both_few joins leaves first second = let count = length-append joins leaves in omega (arith, count, first, second)

left_posted : (left : List ℕ) (d m k floor : ℕ) → length left ≤ 64 → length (to_each left d m k floor Leave) ≤ 64
left_posted left d m k floor few = let count = each_few left d m k floor Leave in omega (arith, count, few)

-- a step posts at most 128 messages, and accepts no update
abbrev FewLed : HouseStep → Type 0
FewLed s = (length (posts_of s) ≤ 128) × (accepted_of s ≡ [])

epoch_few : (m : ℕ) (now : House) (d k : ℕ) (ms : List Member) (left : List ℕ) (s : Slot) → length ms ≤ 64 → length left ≤ 64
    → FewLed (new_epoch_in m now d k ms left s)
epoch_few m now d k ms left Absent few gone = (omega arith, refl)
epoch_few m now d k ms left (Gone e) few gone = (omega arith, refl)
epoch_few m now d k ms left (Held r) few gone = by_test (nat_le (since_in ms m 0) r.epoch)
  where
    by_test : (b : Bool) → FewLed (cond b
        (turn_without_updates (with_slot now d now.floor (Held (epoch_replica k ms r))) (epoch_posts now.floor d m k ms left r) (NewEpoch k))
        (Stays (commands.Refused (commands.NotJoined r.epoch (since_in ms m 0)))))
    by_test true = (
      both_few (to_each (others_of m ms) d m k now.floor (Join ms (copy_of r))) (to_each left d m k now.floor Leave)
          (others_posted m ms d m k now.floor (Join ms (copy_of r)) few) (left_posted left d m k now.floor gone),
      refl,
    )
    by_test false = (omega arith, refl)

-- ---- commands

at_few : (g : Cell) (h : ℕ) (s : HouseStep) (n : ℕ) → length (posts_of s) ≤ n → length (at_house g h s).cell.bag ≤ length g.bag + n
at_few g h s n few =
    let is : length (at_house g h s).cell.bag ≡ length g.bag + length (posts_of s) =
    ap (λ (l : List Message). length l) (at_house-bag g h s) ∙ length-append g.bag (posts_of s) in omega (arith, is, few)

founded_few : (g : Cell) (d m : ℕ) (ms : List Member) → length ms ≤ 64 → length (cell_with_directory g d m ms).bag ≤ length g.bag + 64
founded_few g d m ms most =
    at_few g m (Turns (found_directory m (g.house m) d ms)) 64 (others_posted m ms d m 1 (g.house m).floor (Join ms (copy_of (first_replica ms))) most)

directory_few : (o : Outcome) (d m : ℕ) (ms : List Member) (a : Answer) → length ms ≤ 64
    → length (with_directory o d m ms a).cell.bag ≤ length o.cell.bag + 64
directory_few o d m ms (Stamped s ns) most = founded_few o.cell d m ms most
directory_few o d m ms _ most = omega arith

epoch_bag : (o : Outcome) (d : ℕ) (ms : List Member) (a : Answer) → length (with_epoch o d ms a).cell.bag ≤ length o.cell.bag
epoch_bag o d ms (NewEpoch k ns) = omega arith
epoch_bag o d ms _ = omega arith

directory_accepted : (o : Outcome) (d m : ℕ) (ms : List Member) (a : Answer) → (with_directory o d m ms a).accepted ≡ o.accepted
directory_accepted o d m ms (Stamped s ns) = refl
directory_accepted o d m ms _ = refl

epoch_accepted : (o : Outcome) (d : ℕ) (ms : List Member) (a : Answer) → (with_epoch o d ms a).accepted ≡ o.accepted
epoch_accepted o d ms (NewEpoch k ns) = refl
epoch_accepted o d ms _ = refl

moved_few : (g : Cell) → length (g.bag ++ []) ≤ length g.bag + 128
moved_few g = let count = length-append g.bag [] in omega (arith, count)

module _ (g : Cell) (held : (x d : ℕ) → FewMembers ((g.house x).slots d)) (lists : (d : ℕ) → length (g.present d) ≤ 64) where
  update_few : (h d : ℕ) (u : changes.Change) → length (at_house g h (accept h (g.house h) d u)).cell.bag ≤ length g.bag + 64
  update_few h d u = at_few g h (accept h (g.house h) d u) 64 (accept_few h (g.house h) d u ((g.house h).slots d) (held h d))

  delivered_few : (o : Option Message) → length (deliver g o).cell.bag ≤ length g.bag + 128
  delivered_few None = omega arith
  delivered_few (Some m) = by_down (is_down g m.receiver)
    where
      by_down : (b : Bool) → length (cond b (refusal_outcome g commands.Down) (at_house g m.receiver (take (g.house m.receiver) m))).cell.bag ≤ length g.bag + 128
      by_down true = omega arith
      by_down false =
          let few = at_few g m.receiver (take (g.house m.receiver) m) 64
          (take_few (g.house m.receiver) m m.body ((g.house m.receiver).slots m.dir) (held m.receiver m.dir)).0 in
          omega (arith, few)

  lost_few : (n : ℕ) (o : Option Message) → length (lose g n o).cell.bag ≤ length g.bag + 128
  lost_few n None = omega arith
  lost_few n (Some m) = omega arith

  effect_few : (c : Command) → Fails (refusals_of g c) → length (effect g c).cell.bag ≤ length g.bag + 128
  effect_few (commands.House h node) f = omega arith
  effect_few (commands.Clock h time) f = omega arith
  effect_few (commands.Root m rs ss) f =
      let few = founded_few g 1 m (member_list_of [] 1 m rs ss) (proper_new g.made [] 1 1 m rs ss f.1.1.0 f.1.0).few in omega (arith, few)
  effect_few (commands.Mkdir h d n m rs ss) f =
      let u : changes.Change = changes.MakeChild n (record { dir = g.next_dir; master = m; others = sorted_houses rs }) in
      let o : Outcome = at_house g h (accept h (g.house h) d u) in
      let missing : list_any (λ x. not (has x g.made)) (m ∷ rs) ≡ false =
      or_right (not (has h g.made)) (list_any (λ x. not (has x g.made)) (m ∷ rs)) f.1.0 in
      let first : length o.cell.bag ≤ length g.bag + 64 = update_few h d u in
      let second = directory_few o g.next_dir m (member_list_of [] 1 m rs ss) o.answer (proper_new g.made [] 1 1 m rs ss f.1.1.0 missing).few in
      omega (arith, first, second)
  effect_few (commands.Repoint h d n m rs) f = let few = update_few h d (changes.Repoint n m (sorted_houses rs)) in omega (arith, few)
  effect_few (commands.Accept h d u) f = let few = update_few h d u in omega (arith, few)
  effect_few (commands.Epoch d m rs ss) f =
      let ms : List Member = member_list_of (g.present d) (g.top d + 1) m rs ss in
      let left : List ℕ = left_members (g.present d) ms in
      let s : HouseStep = new_epoch m (g.house m) d (g.top d + 1) ms left in
      let fewer : length left ≤ length (g.present d) = left_few (g.present d) ms in
      let most : length (g.present d) ≤ 64 = lists d in
      let listed : length ms ≤ 64 = (proper_new g.made (g.present d) 1 (g.top d + 1) m rs ss f.1.1.0 f.1.0).few in
      let first = at_few g m s 128 (epoch_few m (g.house m) d (g.top d + 1) ms left ((g.house m).slots d) listed (omega (arith, fewer, most))).0 in
      let second = epoch_bag (at_house g m s) d ms (at_house g m s).answer in
      omega (arith, first, second)
  effect_few (commands.Skulk h d) f =
      let few = at_few g h (skulk h (g.house h) d) 64 (skulk_few h (g.house h) d ((g.house h).slots d) (held h d)).0 in omega (arith, few)
  effect_few (commands.Deliver n) f = delivered_few (message_at g n)
  effect_few (commands.Lose n) f = lost_few n (message_at g n)
  effect_few (commands.Crash h) f = moved_few g
  effect_few (commands.Start h) f = moved_few g

  -- at most one value is made present
  one_gained : (h d : ℕ) (u : changes.Change) → length (made_in (at_house g h (accept h (g.house h) d u)).accepted) ≤ 1
  one_gained h d u =
      subst (λ (l : List Accepted). length (made_in l) ≤ 1) (sym (at_house-accepted g h (accept h (g.house h) d u)))
      (let few = accept_gains h (g.house h) d u ((g.house h).slots d) in let one = gain_one u in omega (arith, few, one))

  none_gained : (h : ℕ) (s : HouseStep) → accepted_of s ≡ [] → length (made_in (at_house g h s).accepted) ≤ 1
  none_gained h s none = subst (λ (l : List Accepted). length (made_in l) ≤ 1) (sym (at_house-accepted g h s ∙ none)) (omega arith)

  delivered_gains : (o : Option Message) → length (made_in (deliver g o).accepted) ≤ 1
  delivered_gains None = omega arith
  delivered_gains (Some m) = by_down (is_down g m.receiver)
    where
      by_down : (b : Bool) → length (made_in (cond b (refusal_outcome g commands.Down) (at_house g m.receiver (take (g.house m.receiver) m))).accepted) ≤ 1
      by_down true = omega arith
      by_down false =
          none_gained m.receiver (take (g.house m.receiver) m)
          (take_few (g.house m.receiver) m m.body ((g.house m.receiver).slots m.dir) (held m.receiver m.dir)).1

  lost_gains : (n : ℕ) (o : Option Message) → length (made_in (lose g n o).accepted) ≤ 1
  lost_gains n None = omega arith
  lost_gains n (Some m) = omega arith

  effect_gains : (c : Command) → Fails (refusals_of g c) → length (made_in (effect g c).accepted) ≤ 1
  effect_gains (commands.House h node) f = omega arith
  effect_gains (commands.Clock h time) f = omega arith
  effect_gains (commands.Root m rs ss) f = omega arith
  effect_gains (commands.Mkdir h d n m rs ss) f =
      let u : changes.Change = changes.MakeChild n (record { dir = g.next_dir; master = m; others = sorted_houses rs }) in
      let o : Outcome = at_house g h (accept h (g.house h) d u) in
      subst (λ (l : List Accepted). length (made_in l) ≤ 1) (sym (directory_accepted o g.next_dir m (member_list_of [] 1 m rs ss) o.answer)) (one_gained h d u)
  effect_gains (commands.Repoint h d n m rs) f = one_gained h d (changes.Repoint n m (sorted_houses rs))
  effect_gains (commands.Accept h d u) f = one_gained h d u
  effect_gains (commands.Epoch d m rs ss) f =
      let ms : List Member = member_list_of (g.present d) (g.top d + 1) m rs ss in
      let left : List ℕ = left_members (g.present d) ms in
      let s : HouseStep = new_epoch m (g.house m) d (g.top d + 1) ms left in
      let fewer : length left ≤ length (g.present d) = left_few (g.present d) ms in
      let most : length (g.present d) ≤ 64 = lists d in
      let listed : length ms ≤ 64 = (proper_new g.made (g.present d) 1 (g.top d + 1) m rs ss f.1.1.0 f.1.0).few in
      let none = (epoch_few m (g.house m) d (g.top d + 1) ms left ((g.house m).slots d) listed (omega (arith, fewer, most))).1 in
      subst (λ (l : List Accepted). length (made_in l) ≤ 1) (sym (epoch_accepted (at_house g m s) d ms (at_house g m s).answer)) (none_gained m s none)
  effect_gains (commands.Skulk h d) f =
      none_gained h (skulk h (g.house h) d) (skulk_few h (g.house h) d ((g.house h).slots d) (held h d)).1
  effect_gains (commands.Deliver n) f = delivered_gains (message_at g n)
  effect_gains (commands.Lose n) f = lost_gains n (message_at g n)
  effect_gains (commands.Crash h) f = omega arith
  effect_gains (commands.Start h) f = omega arith

fails_first : (b : Bool) (r : Refusal) (ts : List (Bool × Refusal)) → cond b (Some r) (first_refusal ts) ≡ None → (b ≡ false) × (first_refusal ts ≡ None)
fails_first true r ts e = absurd (cc)
fails_first false r ts e = (refl, e)

fails_all : (ts : List (Bool × Refusal)) → first_refusal ts ≡ None → Fails ts
fails_all [] e = tt
fails_all (t ∷ ts) e = let p = fails_first t.0 t.1 ts e in (p.0, fails_all ts p.1)

-- ---- runs

lists_few : (d : ℕ) (cs early : List Command) (e : ℕ) → length (lists_of d cs (replay early) e) ≤ 64
lists_few d [] early e = ((tidy_lem early).lists d).few
lists_few d (c ∷ cs) early e =
    by_test (eqb e ((replay early).top d))
    (subst (λ (g : Cell). length (lists_of d cs g e) ≤ 64) (replay-append early (c ∷ []) empty_cell) (lists_few d cs (early ++ c ∷ []) e))
  where
    by_test : (b : Bool) → length (lists_of d cs (outcome (replay early) c).cell e) ≤ 64
        → length (cond b ((replay early).present d) (lists_of d cs (outcome (replay early) c).cell e)) ≤ 64
    by_test true rest = ((tidy_lem early).lists d).few
    by_test false rest = rest

-- each replica that a house holds has at most 64 members
held_few : (cs : List Command) (x d : ℕ) → FewMembers (((replay cs).house x).slots d)
held_few cs x d = by_slot (((replay cs).house x).slots d) refl
  where
    by_slot : (s : Slot) → ((replay cs).house x).slots d ≡ s → FewMembers s
    by_slot Absent at = tt
    by_slot (Gone e) at = tt
    by_slot (Held r) at =
        let ok = (reaching_at d cs cs [] (append_nil cs)).sound.held x r at in
        subst (λ (ms : List Member). length ms ≤ 64) (sym ok.members) (lists_few d cs [] r.epoch)

-- a command posts at most 128 messages
pub command_posts : (cs : List Command) (c : Command) → length (outcome (replay cs) c).cell.bag ≤ length (replay cs).bag + 128
command_posts cs c = by_refusal (first_refusal (refusals_of (replay cs) c)) refl
  where
    by_refusal : (o : Option Refusal) → first_refusal (refusals_of (replay cs) c) ≡ o
        → length (unless (replay cs) o (effect (replay cs) c)).cell.bag ≤ length (replay cs).bag + 128
    by_refusal None is =
        effect_few (replay cs) (held_few cs) (λ d. ((tidy_lem cs).lists d).few) c (fails_all (refusals_of (replay cs) c) is)
    by_refusal (Some r) is = omega arith

-- it makes at most one value present
pub command_gains : (cs : List Command) (c : Command) → length (made_in (outcome (replay cs) c).accepted) ≤ 1
command_gains cs c = by_refusal (first_refusal (refusals_of (replay cs) c)) refl
  where
    by_refusal : (o : Option Refusal) → first_refusal (refusals_of (replay cs) c) ≡ o → length (made_in (unless (replay cs) o (effect (replay cs) c)).accepted) ≤ 1
    by_refusal None is =
        effect_gains (replay cs) (held_few cs) (λ d. ((tidy_lem cs).lists d).few) c (fails_all (refusals_of (replay cs) c) is)
    by_refusal (Some r) is = omega arith

-- and an update posts at most 64 messages
pub update_posts : (cs : List Command) (h d : ℕ) (u : changes.Change)
    → length (outcome (replay cs) (commands.Accept h d u)).cell.bag ≤ length (replay cs).bag + 64
update_posts cs h d u = by_refusal (first_refusal (refusals_of (replay cs) (commands.Accept h d u)))
  where
    by_refusal : (o : Option Refusal) → length (unless (replay cs) o (effect (replay cs) (commands.Accept h d u))).cell.bag ≤ length (replay cs).bag + 64
    by_refusal None = update_few (replay cs) (held_few cs) (λ d. ((tidy_lem cs).lists d).few) h d u
    by_refusal (Some r) = omega arith
