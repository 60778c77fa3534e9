-- Houses are left out: those that stay are started, get a new epoch, take its Joins, and the skulk
-- of its master completes.
use Rattle.std.proofs.Common.{◌≡◌, ◌≢◌, ℕ, ◌+◌, ◌*◌, ◌≤◌, zero, suc, inl, inr, Bool, true, false, ◌||◌, ◌&&◌, not, cond, List, [], ◌∷◌, ◌++◌, length}
use Rattle.std.proofs.Common.{Option, Some, None, append_assoc, refl, sym, ap, ◌∙◌, subst, arith, ⊎_elim, nat_lt, nat_le, le_refl, length-append}
use Rattle.std.specs.List.{list_any}
use Rattle.std.specs.Option.{option_map}
use Rattle.cds_stamps.specs.declared.stamp.Stamp.{Stamp}
use Rattle.cds_stamps.specs.Members.{Member, master_of, others_of, is_listed, secondaries_of, since_in, most_members}
use Rattle.cell_model.specs.Cells.{Replica, Slot, Absent, Gone, Held, House, Body, Join, Leave, Message, Cell, IsHeld}
use Rattle.cell_model.specs.Commands.{Command, Epoch, Start, NewEpoch, NotJoined, Refused}
use Rattle.cell_model.specs.Sets.{In, has}
use Rattle.cell_model.specs.Turns.{HouseStep, Stays, turn_without_updates, with_slot, copy_of, to_each, stamp_at, epoch_replica, epoch_posts, new_epoch, new_epoch_in}
use Rattle.cell_model.specs.Steps.{Outcome, is_unknown, is_down, is_bad_list, at_house, member_list_of, left_members, note_epoch}
use Rattle.cell_model.specs.Steps.{with_epoch, serials_of, outcome, replay}
use Rattle.cell_model.specs.Provenance.{epoch_of}
use Rattle.cell_model.specs.Mending.{start_commands, deliver_commands, skulk_commands}
use Rattle.cell_model.proofs.Agreed.{settles, some_epoch, waiting_none}
use Rattle.cell_model.proofs.Answerings.{Once, AreOthers}
use Rattle.cell_model.proofs.Deliveries.{Run, run_first, run_append, Finish, finish_append, not_refused, Waiting, waiting_more}
use Rattle.cell_model.proofs.Facts.{Reached, view, Roll, Sound}
use Rattle.cell_model.proofs.NeverComes.{reaching_last}
use Rattle.cell_model.proofs.PresentLists.{houses_of, listed_house, house_listed, in_ascending, ascending_in, once_to, others_once, IsProper, houses_new}
use Rattle.cell_model.proofs.PresentLists.{proper_new, tidy_lem}
use Rattle.cell_model.proofs.Readiness.{changed, held_here}
use Rattle.cell_model.proofs.ReadySkulks.{Skulked, CanSkulk, skulk_finishes}
use Rattle.cell_model.proofs.Runs.{roll_of}
use Rattle.cell_model.proofs.Starting.{alike_self, Started, start_run}
use Rattle.cell_model.proofs.Terms.{Listed, listed_at, listed_or, In-others_of, master_new, since_kept, since_listed, since_new}
use Rattle.cell_model.proofs.Views.{put_at, put_same, put_other}
use Rattle.mend_model.specs.Leaving.{Candidate, LeavesOut, best_of, kept_members, leaving_commands, new_master, smaller_list}
use Rattle.mend_model.proofs.Candidates.{CanLead, best_leads}
use Rattle.mend_model.proofs.Joins.{Joining, join_run}
use Rattle.mend_model.proofs.KeptMembers.{house_kept, kept_and_left, kept_few, kept_house, kept_once, length_houses, length_sorted, others_less}

-- ---- the smaller list

none_missing : (made hs : List ℕ) → ((x : ℕ) → In x hs → has x made ≡ true) → list_any (λ h. not (has h made)) hs ≡ false
none_missing made [] f = refl
none_missing made (h ∷ hs) f =
    ap (λ (b : Bool). not b || list_any (λ x. not (has x made)) hs) (f h (inl refl)) ∙ none_missing made hs (λ x i. f x (inr i))

length_each : (ys : List ℕ) (d m k floor : ℕ) (b : Body) → length (to_each ys d m k floor b) ≡ length ys
length_each [] d m k floor b = refl
length_each (y ∷ ys) d m k floor b = ap (λ (n : ℕ). suc n) (length_each ys d m k floor b)

module _ (made : List ℕ) (top : ℕ) (ms : List Member) (proper : IsProper made top ms) (k : ℕ) (hs : List ℕ) (m : ℕ)
    (listed : is_listed m ms ≡ true) (stays : has m hs ≡ false) where
  abbrev kept : List Member
  kept = kept_members hs m ms

  abbrev others : List ℕ
  others = others_of m (kept_members hs m ms)

  abbrev smaller : List Member
  smaller = member_list_of ms k m (others_of m (kept_members hs m ms)) (secondaries_of (kept_members hs m ms))

  kept_in : (x : ℕ) → is_listed x (kept_members hs m ms) ≡ true → (is_listed x ms ≡ true) × (has x hs ≡ false)
  kept_in x l = let w = kept_house hs m x ms (listed_house x kept l) in (house_listed x ms w.0, w.1)

  kept_once_all : Once (houses_of (kept_members hs m ms))
  kept_once_all = kept_once hs m ms proper.once

  master_kept : In m (houses_of (kept_members hs m ms))
  master_kept = house_kept hs m m ms (listed_house m ms listed) stays

  -- its houses are those of the old list that stay
  smaller_in : (x : ℕ) → is_listed x smaller ≡ true → (is_listed x ms ≡ true) × (has x hs ≡ false)
  smaller_in x l =
      ⊎_elim (λ (e : x ≡ m). subst (λ (z : ℕ). (is_listed z ms ≡ true) × (has z hs ≡ false)) (sym e) (listed, stays))
      (λ (o : In x (others_of m kept)). kept_in x (In-others_of x m kept o).1)
      (in_ascending x (m ∷ others_of m kept) (subst (λ (l : List ℕ). In x l) (houses_new ms k m (others_of m kept) (secondaries_of kept)) (listed_house x smaller l)))

  in_smaller : (x : ℕ) → is_listed x ms ≡ true → has x hs ≡ false → is_listed x smaller ≡ true
  in_smaller x l n =
      let i : In x (m ∷ others_of m kept) =
      ⊎_elim (λ (e : x ≡ m). inl e) (λ (o : In x (others_of m kept)). inr o)
      (listed_or x m kept (house_listed x kept (house_kept hs m x ms (listed_house x ms l) n))) in
      house_listed x smaller
      (subst (λ (l : List ℕ). In x l) (sym (houses_new ms k m (others_of m kept) (secondaries_of kept))) (ascending_in x (m ∷ others_of m kept) i))

  pub smaller_listed : (x : ℕ) → is_listed x smaller ≡ (is_listed x ms && not (has x hs))
  smaller_listed x = by_parts (is_listed x ms) refl (has x hs) refl (is_listed x smaller) refl
    where
      by_parts : (a : Bool) → is_listed x ms ≡ a → (b : Bool) → has x hs ≡ b → (c : Bool) → is_listed x smaller ≡ c → c ≡ (a && not b)
      by_parts a ea b eb true ec = let w = smaller_in x ec in sym (ap (λ (t : Bool). t && not b) (sym ea ∙ w.0) ∙ ap not (sym eb ∙ w.1))
      by_parts true ea false eb false ec = absurd (cc (sym ec ∙ in_smaller x ea eb))
      by_parts true ea true eb false ec = refl
      by_parts false ea b eb false ec = refl

  apart : In m (others_of m (kept_members hs m ms)) → ⊥
  apart i = (In-others_of m m kept i).0 refl

  others_one : Once (others_of m (kept_members hs m ms))
  others_one = others_once m kept kept_once_all

  kept_count : suc (length (others_of m (kept_members hs m ms))) ≡ length (kept_members hs m ms)
  kept_count = others_less m kept kept_once_all master_kept

  not_missing : list_any (λ h. not (has h made)) (m ∷ others_of m (kept_members hs m ms)) ≡ false
  not_missing = none_missing made (m ∷ others_of m kept) (λ x i. proper.known x (by_place x i))
    where
      by_place : (x : ℕ) → In x (m ∷ others_of m kept) → is_listed x ms ≡ true
      by_place x (inl e) = subst (λ (z : ℕ). is_listed z ms ≡ true) (sym e) listed
      by_place x (inr i) = (kept_in x (In-others_of x m kept i).1).0

  not_bad : is_bad_list (m ∷ others_of m (kept_members hs m ms)) ≡ false
  not_bad =
      let count = kept_count in
      let fewer = kept_few hs m ms in
      let few = proper.few in
      ap (λ (b : Bool). b || nat_lt most_members (suc (length (others_of m kept)))) (once_to (m ∷ others_of m kept) (apart, others_one))
      ∙ within_test (suc (length (others_of m kept))) (omega (arith, count, fewer, few))
    where
      within_test : (n : ℕ) → n ≤ most_members → nat_lt most_members n ≡ false
      within_test n le = grind (arith, le)

  smaller_proper : IsProper made k smaller
  smaller_proper = proper_new made ms k k m (others_of m kept) (secondaries_of kept) not_bad not_missing

  pub smaller_once : Once (others_of m smaller)
  smaller_once = others_once m smaller smaller_proper.once

  pub smaller_head : is_listed m smaller ≡ true
  smaller_head = in_smaller m listed stays

  smaller_length : length smaller ≡ suc (length (others_of m (kept_members hs m ms)))
  smaller_length =
      sym (length_houses smaller) ∙ ap (λ (l : List ℕ). length l) (houses_new ms k m (others_of m kept) (secondaries_of kept))
      ∙ length_sorted (m ∷ others_of m kept)

  -- it has as many others as stay
  pub smaller_count : length (others_of m smaller) ≡ length (others_of m (kept_members hs m ms))
  smaller_count =
      let less = others_less m smaller smaller_proper.once (listed_house m smaller smaller_head) in
      let size = smaller_length in
      omega (arith, less, size)

  -- its Joins and its Leaves are as many as the old list has others
  pub posts_count : length (others_of m (kept_members hs m ms)) + length (left_members ms smaller) ≡ length (others_of m ms)
  posts_count = kept_and_left hs m smaller ms stays (λ x i. smaller_listed x ∙ ap (λ (b : Bool). b && not (has x hs)) (house_listed x ms i))

-- ---- the new epoch

-- the houses that stay are up, none is beyond the last epoch, and the new master holds an epoch of
-- its term
record Ripe (d k : ℕ) (ms : List Member) (hs : List ℕ) (m : ℕ) (next : Option Stamp) (p : ℕ) (g : Cell) : Type 0 where
  top : g.top d ≡ k
  present : g.present d ≡ ms
  known : k ≢ 0
  up : (x : ℕ) → is_listed x ms ≡ true → has x hs ≡ false → (g.house x).up ≡ true
  below : (x : ℕ) → epoch_of ((g.house x).slots d) ≤ k
  listed : is_listed m ms ≡ true
  stays : has m hs ≡ false
  replica : Replica
  held : IsHeld g m d replica
  since : since_in ms m 0 ≤ replica.epoch
  proper : IsProper g.made k ms
  stamp : stamp_at (g.house m) ≡ next
  waiting : Waiting g p []

module _ (d k : ℕ) (ms : List Member) (hs : List ℕ) (m : ℕ) (next : Option Stamp) (p : ℕ) (g : Cell) (c : Ripe d k ms hs m next p g) where
  abbrev rs : List ℕ
  rs = others_of m (kept_members hs m ms)

  abbrev ss : List ℕ
  ss = secondaries_of (kept_members hs m ms)

  abbrev now : List Member
  now = member_list_of ms (k + 1) m (others_of m (kept_members hs m ms)) (secondaries_of (kept_members hs m ms))

  abbrev joins : List Message
  joins = to_each (others_of m now) d m (k + 1) (g.house m).floor (Join now (copy_of c.replica))

  abbrev leaves : List Message
  leaves = to_each (left_members ms now) d m (k + 1) (g.house m).floor Leave

  abbrev crowned : Cell
  crowned = note_epoch (changed g m d (g.house m).floor (epoch_replica (k + 1) now c.replica) (joins ++ leaves)) d (k + 1) now

  epoch_works : outcome g (Epoch d m rs ss) ≡ record { cell = crowned; answer = NewEpoch (k + 1) (serials_of g (joins ++ leaves)); accepted = [] }
  epoch_works =
      let house : House = with_slot (g.house m) d (g.house m).floor (Held (epoch_replica (k + 1) now c.replica)) in
      let given : List Member → ℕ → Outcome = λ (l : List Member) (n : ℕ).
      (let fresh : List Member = member_list_of l (n + 1) m rs ss in
      let o : Outcome = at_house g m (new_epoch m (g.house m) d (n + 1) fresh (left_members l fresh)) in
      with_epoch o d fresh o.answer) in
      let done : HouseStep → Outcome = λ (s : HouseStep). with_epoch (at_house g m s) d now (at_house g m s).answer in
      let told : HouseStep = turn_without_updates house (epoch_posts (g.house m).floor d m (k + 1) now (left_members ms now) c.replica) (NewEpoch (k + 1)) in
      let unknown : is_unknown g d ≡ false = (let n : g.top d ≢ 0 = (λ e. c.known (sym c.top ∙ e)) in grind (arith, n)) in
      let member : not (is_listed m (g.present d)) ≡ false = ap (λ (l : List Member). not (is_listed m l)) c.present ∙ ap not c.listed in
      let down : is_down g m ≡ false = ap not (c.up m c.listed c.stays) in
      let since : nat_le (since_in now m 0) c.replica.epoch ≡ true =
      (let a = since_kept ms (k + 1) m rs ss c.listed in
      let le : since_in now m 0 ≤ c.replica.epoch = omega (arith, a, c.since) in
      grind (arith, le)) in
      not_refused g (Epoch d m rs ss) (
        unknown,
        (
          not_missing g.made k ms c.proper (k + 1) hs m c.listed c.stays,
          (not_bad g.made k ms c.proper (k + 1) hs m c.listed c.stays, (member, (down, tt))),
        ),
      )
      ∙ ap (λ (l : List Member). given l (g.top d)) c.present
      ∙ ap (λ (n : ℕ). given ms n) c.top
      ∙ ap (λ (s : Slot). done (new_epoch_in m (g.house m) d (k + 1) now (left_members ms now) s)) c.held
      ∙ ap (λ (b : Bool). done (cond b told (Stays (Refused (NotJoined c.replica.epoch (since_in now m 0)))))) since

  joins_wait : Joining d m (k + 1) now next (g.house m).floor (copy_of c.replica) leaves (others_of m now) p crowned
  joins_wait =
      let r : Replica = epoch_replica (k + 1) now c.replica in
      let floor : ℕ = (g.house m).floor in
      let house : House = with_slot (g.house m) d floor (Held r) in
      record {
        up = λ x l.
            let w = smaller_in g.made k ms c.proper (k + 1) hs m c.listed c.stays x l in
            put_at (λ z (w : House). (g.house z).up ≡ true → w.up ≡ true) g.house m house (λ e. e) (λ z _ e. e) x (c.up x w.0 w.1);
        holds = λ x l n. ⊎_elim
            (λ (e : x ≡ m). subst (λ (z : ℕ). (q : Replica) × IsHeld crowned z d q × (q.epoch ≡ k + 1) × (q.members ≡ now)) (sym e)
            (r, held_here g m d floor r (joins ++ leaves), refl, refl))
            (λ (o : In x (others_of m now)). absurd (n o))
            (listed_or x m now l);
        below = λ x i.
            let other = (In-others_of x m now i).0 in
            let low : epoch_of ((crowned.house x).slots d) ≤ k =
            subst (λ (w : House). epoch_of (w.slots d) ≤ k) (sym (put_other g.house m house x other)) (c.below x) in
            omega (arith, low);
        waiting = waiting_more g crowned p [] (joins ++ leaves) c.waiting refl refl;
        known = λ e. (let same = put_same g.top d (k + 1) in omega (arith, same, e));
        made = c.proper.known m c.listed;
        stamp = ap stamp_at (put_same g.house m house) ∙ c.stamp;
      }

  -- a new epoch, and its Joins
  ripe_joined : Run g (Epoch d m rs ss ∷ deliver_commands p (length rs)) (CanSkulk d m (k + 1) now next (p + length (others_of m ms)))
  ripe_joined =
      let n : ℕ = length rs in
      let head = smaller_head g.made k ms c.proper (k + 1) hs m c.listed c.stays in
      let once = smaller_once g.made k ms c.proper (k + 1) hs m c.listed c.stays in
      let size = smaller_count g.made k ms c.proper (k + 1) hs m c.listed c.stays in
      let sum = posts_count g.made k ms c.proper (k + 1) hs m c.listed c.stays in
      let left = length_each (left_members ms now) d m (k + 1) (g.house m).floor Leave in
      let place : (p + length rs) + length leaves ≡ p + length (others_of m ms) = omega (arith, sum, left) in
      let others : AreOthers m now (others_of m now) = λ x i. In-others_of x m now i in
      let joined : Run crowned (deliver_commands p n) (CanSkulk d m (k + 1) now next ((p + n) + length leaves)) =
      subst (λ (l : ℕ). Run crowned (deliver_commands p l) (CanSkulk d m (k + 1) now next ((p + l) + length leaves))) size
      (join_run d m (k + 1) now next (g.house m).floor (copy_of c.replica) leaves head (others_of m now) crowned p once others joins_wait) in
      run_first g (Epoch d m rs ss) (deliver_commands p n) (CanSkulk d m (k + 1) now next (p + length (others_of m ms))) _ epoch_works tt
      (subst (λ (q : ℕ). Run crowned (deliver_commands p n) (CanSkulk d m (k + 1) now next q)) place joined)

-- ---- every cell that is reached

starting_few : (g : Cell) (ys : List Member) → length (start_commands g ys) ≤ length ys
starting_few g [] = le_refl _
starting_few g (y ∷ ys) = by_state (is_down g y.house) (starting_few g ys)
  where
    by_state : (b : Bool) → length (start_commands g ys) ≤ length ys → length (cond b (Start y.house ∷ start_commands g ys) (start_commands g ys)) ≤ suc (length ys)
    by_state true le = omega (arith, le)
    by_state false le = omega (arith, le)

delivering_count : (n p : ℕ) → length (deliver_commands p n) ≡ n
delivering_count zero p = refl
delivering_count (suc n) p = ap (λ (c : ℕ). suc c) (delivering_count n (p + 1))

module _ (all : List Command) (d : ℕ) (some : (replay all).top d ≢ 0) where
  abbrev g : Cell
  g = replay all

  abbrev roll : Roll
  roll = roll_of d all

  abbrev list : List Member
  list = (replay all).present d

  sound : Sound (roll_of d all) (view d (replay all))
  sound = (reaching_last all d).sound

  proper : IsProper (replay all).made ((replay all).top d) ((replay all).present d)
  proper = (tidy_lem all).lists d

  -- no house is beyond the last epoch
  slot_low : (x : ℕ) (s : Slot) → (g.house x).slots d ≡ s → epoch_of s ≤ g.top d
  slot_low x Absent at = omega arith
  slot_low x (Gone e) at = (sound.gone x e at).1
  slot_low x (Held r) at = (sound.held x r at).top

  head_listed : is_listed (master_of list) list ≡ true
  head_listed = proper.headed some

  head_at : (n : ℕ) → g.top d ≡ n → n ≢ 0 → Reached n ((g.house (master_of (roll.list n))).slots d)
  head_at zero e low = absurd (low refl)
  head_at (suc k) e low = sound.heads k (subst (λ (n : ℕ). suc k ≤ n) (sym e) (le_refl (suc k)))

  head_listed_since : Listed (roll.list (g.top d)) (master_of list) (since_in list (master_of list) 0)
  head_listed_since =
      subst (λ (l : List Member). Listed l (master_of list) (since_in list (master_of list) 0)) sound.present (listed_at list (master_of list) head_listed)

  -- the master of the present list holds the last epoch
  head_holds : (s : Slot) → (g.house (master_of list)).slots d ≡ s → Reached (g.top d) s → (r : Replica) × IsHeld g (master_of list) d r × (g.top d ≤ r.epoch)
  head_holds Absent at up = elim up [ ]
  head_holds (Gone e) at up =
      let w = sound.gone (master_of list) e at in
      let low = w.1 in
      let same : e ≡ g.top d = omega (arith, up, low) in
      absurd (w.2 (since_in list (master_of list) 0)
      (subst (λ (n : ℕ). Listed (roll.list n) (master_of list) (since_in list (master_of list) 0)) (sym same) head_listed_since))
  head_holds (Held r) at up = (r, at, up)

  -- so it can be master, if it stays
  master_leads : (hs : List ℕ) → has (master_of list) hs ≡ false → CanLead g d hs list (master_of list)
  master_leads hs stays =
      let w = head_holds ((g.house (master_of list)).slots d) refl
      (subst (λ (l : List Member). Reached (g.top d) ((g.house (master_of l)).slots d)) (sym sound.present) (head_at (g.top d) refl some)) in
      let order = sound.good.order (g.top d) (master_of list) (since_in list (master_of list) 0) (le_refl (g.top d)) head_listed_since in
      let high = w.2 in
      record { listed = head_listed; stays = stays; replica = w.0; held = w.1; since = omega (arith, order, high) }

  -- and so can whoever is chosen
  chosen_leads : (hs : List ℕ) (m : ℕ) → new_master g d hs ≡ Some m → CanLead g d hs list m
  chosen_leads hs m is = by_test (has (master_of list) hs) refl is
    where
      by_test : (b : Bool) → has (master_of list) hs ≡ b
          → cond b (option_map (λ (c : Candidate). c.house) (best_of g d hs None list)) (Some (master_of list)) ≡ Some m → CanLead g d hs list m
      by_test true e is = best_leads g d hs list proper.once m is
      by_test false e is = let same : master_of list ≡ m = cc (is) in subst (CanLead g d hs list) same (master_leads hs e)

  module _ (hs : List ℕ) (m : ℕ) (lead : CanLead (replay all) d hs ((replay all).present d) m) where
    abbrev keeping : List Member
    keeping = kept_members hs m ((replay all).present d)

    abbrev after : List Member
    after = smaller_list (replay all) d hs m

    -- once the houses that stay are started
    ripe : (next : Option Stamp) → stamp_at (g.house m) ≡ next → (h : Cell) → Started g g keeping h → Ripe d (g.top d) list hs m next (length g.bag) h
    ripe next stamp h s =
        let a = s.alike in
        let v = tidy_lem all in
        let none = waiting_none g v in
        record {
          top = ap (λ (f : ℕ → ℕ). f d) a.top;
          present = ap (λ (f : ℕ → List Member). f d) a.present;
          known = some;
          up = λ x l n. s.up x (house_kept hs m x list (listed_house x list l) n);
          below = λ x. subst (λ (f : ℕ → Slot). epoch_of (f d) ≤ g.top d) (sym (a.slots x)) (slot_low x ((g.house x).slots d) refl);
          listed = lead.listed;
          stays = lead.stays;
          replica = lead.replica;
          held = ap (λ (f : ℕ → Slot). f d) (a.slots m) ∙ lead.held;
          since = lead.since;
          proper = subst (λ (l : List ℕ). IsProper l (g.top d) list) (sym a.made) proper;
          stamp = a.stamps m ∙ stamp;
          waiting = record {
            before = none.before;
            bag = a.bag ∙ none.bag;
            count = none.count;
            lost = λ n lt. ap (has n) a.lost ∙ none.lost n lt;
          };
        }

    abbrev leaving : List Command
    leaving = start_commands g keeping ++ Epoch d m (others_of m keeping) (secondaries_of keeping) ∷ deliver_commands (length g.bag) (length (others_of m keeping))

    abbrev skulking_then : List Command
    skulking_then = skulk_commands m d (length g.bag + length (others_of m list)) (length (others_of m keeping))

    in_parts : leaving ++ skulking_then ≡ leaving_commands g d hs m
    in_parts =
        append_assoc (start_commands g keeping)
        (Epoch d m (others_of m keeping) (secondaries_of keeping) ∷ deliver_commands (length g.bag) (length (others_of m keeping))) skulking_then

    leaving_runs : (next : Option Stamp) → stamp_at (g.house m) ≡ next
        → Run g leaving (CanSkulk d m (g.top d + 1) after next (length g.bag + length (others_of m list)))
    leaving_runs next stamp =
        let n : ℕ = length (others_of m keeping) in
        run_append g (start_commands g keeping) (Epoch d m (others_of m keeping) (secondaries_of keeping) ∷ deliver_commands (length g.bag) n) (Started g g keeping)
        (CanSkulk d m (g.top d + 1) after next (length g.bag + length (others_of m list)))
        (start_run g keeping g (kept_once hs m list proper.once) (λ x i. proper.known x (house_listed x list (kept_house hs m x list i).0)) (alike_self g) (λ x i. refl))
        (λ h s. ripe_joined d (g.top d) list hs m next (length g.bag) h (ripe next stamp h s))

    after_head : is_listed m after ≡ true
    after_head = smaller_head g.made (g.top d) list proper (g.top d + 1) hs m lead.listed lead.stays

    after_master : master_of after ≡ m
    after_master = master_new list (g.top d + 1) m (others_of m keeping) (secondaries_of keeping)

    -- then a skulk completes
    leaving_finishes : (t : Stamp) → stamp_at (g.house m) ≡ Some t → Finish g m d (leaving_commands g d hs m) t (Skulked d m (g.top d + 1) after)
    leaving_finishes t stamp =
        let k : ℕ = g.top d + 1 in
        let place : ℕ = length g.bag + length (others_of m list) in
        let over : Cell → Type 0 = Skulked d m k after in
        let count : length (others_of m after) ≡ length (others_of m keeping) =
        smaller_count g.made (g.top d) list proper k hs m lead.listed lead.stays in
        let once = smaller_once g.made (g.top d) list proper k hs m lead.listed lead.stays in
        subst (λ (l : List Command). Finish g m d l t over) in_parts
        (finish_append g m d leaving skulking_then t (CanSkulk d m k after (Some t) place) over (leaving_runs (Some t) stamp)
        (λ h s. subst (λ (l : ℕ). Finish h m d (skulk_commands m d place l) t over) count (skulk_finishes d m k after t after_head after_master once h place s)))

    after_terms : (x : ℕ) → is_listed x after ≡ true → since_in after x 0 ≡ since_in list x 0
    after_terms x l =
        let w = smaller_in g.made (g.top d) list proper (g.top d + 1) hs m lead.listed lead.stays x l in
        since_new list (g.top d + 1) m x (others_of m keeping) (secondaries_of keeping) l ∙ since_listed x (g.top d + 1) list w.0

    -- for n houses that stay there are at most 6 n - 3 commands
    leaving_few : length (leaving_commands g d hs m) + 3 ≤ 6 * length after
    leaving_few =
        let n : ℕ = length (others_of m keeping) in
        let p : ℕ = length g.bag in
        let q : ℕ = length g.bag + length (others_of m list) in
        let starts = starting_few g keeping in
        let stay = kept_count g.made (g.top d) list proper (g.top d + 1) hs m lead.listed lead.stays in
        let size = smaller_length g.made (g.top d) list proper (g.top d + 1) hs m lead.listed lead.stays in
        let a = length-append (start_commands g keeping)
        (Epoch d m (others_of m keeping) (secondaries_of keeping) ∷ (deliver_commands p n ++ skulk_commands m d q n)) in
        let b = length-append (deliver_commands p n) (skulk_commands m d q n) in
        let first = delivering_count n p in
        let then = delivering_count (4 * n) q in
        omega (arith, starts, stay, size, a, b, first, then)

-- whoever is chosen is in the list, and stays
pub chosen_stays : (all : List Command) (d : ℕ) (hs : List ℕ) (m : ℕ) → 1 ≤ (replay all).top d → new_master (replay all) d hs ≡ Some m
    → (is_listed m ((replay all).present d) ≡ true) × (has m hs ≡ false)
chosen_stays all d hs m known is = let lead = chosen_leads all d (some_epoch ((replay all).top d) known) hs m is in (lead.listed, lead.stays)

-- in every run
pub leaving_lem : (all : List Command) (d : ℕ) (hs : List ℕ) → LeavesOut all d hs
leaving_lem all d hs m t known is stamp =
    let g : Cell = replay all in
    let some = some_epoch (g.top d) known in
    let lead = chosen_leads all d some hs m is in
    let after : List Member = smaller_list g d hs m in
    let head : is_listed (master_of after) after ≡ true =
    subst (λ (x : ℕ). is_listed x after ≡ true) (sym (after_master all d some hs m lead)) (after_head all d some hs m lead) in
    let finish : Finish g (master_of after) d (leaving_commands g d hs m) t (Skulked d (master_of after) (g.top d + 1) after) =
    subst (λ (x : ℕ). Finish g x d (leaving_commands g d hs m) t (Skulked d x (g.top d + 1) after)) (sym (after_master all d some hs m lead))
    (leaving_finishes all d some hs m lead t stamp) in
    record {
      settled = settles all (leaving_commands g d hs m) d (g.top d + 1) t after after head refl (λ x l. l) finish;
      master = after_master all d some hs m lead;
      houses = λ x. smaller_listed g.made (g.top d) (g.present d) (proper all d some) (g.top d + 1) hs m lead.listed lead.stays x;
      terms = λ x l. after_terms all d some hs m lead x l;
      few = leaving_few all d some hs m lead;
    }
