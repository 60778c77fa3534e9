-- No state is stuck: the houses of the console's present list are started, get a new epoch, take
-- its Joins, and the master's skulk completes.
use Rattle.std.proofs.Common.{◌≡◌, ◌≢◌, ℕ, ◌+◌, ◌*◌, ◌≤◌, zero, suc, inl, inr, Bool, true, false, ◌||◌, not, eqb, cond, List, [], ◌∷◌, ◌++◌, map, length}
use Rattle.std.proofs.Common.{Option, Some, None, append_assoc, refl, sym, ap, ◌∙◌, subst, arith, ⊎_elim, nat_lt, nat_le, le_refl, length-append}
use Rattle.std.specs.List.{list_any}
use Rattle.cds_stamps.specs.declared.stamp.Stamp.{Stamp}
use Rattle.cds_stamps.specs.Members.{Member, master_of, others_of, is_listed, secondaries_of, since_in, most_members}
use Rattle.cell_model.specs.Cells.{Replica, Slot, Absent, Gone, Held, House, Join, Message, Cell, IsHeld}
use Rattle.cell_model.specs.Commands.{Command, Epoch, Skulk, Start, NewEpoch, NotJoined, Refused}
use Rattle.cell_model.specs.Sets.{In, has}
use Rattle.cell_model.specs.Turns.{HouseStep, Stays, turn_without_updates, with_slot, copy_of, to_each, stamp_at, epoch_replica, epoch_posts, new_epoch, new_epoch_in}
use Rattle.cell_model.specs.Steps.{Outcome, is_unknown, is_down, is_bad_list, at_house, insert_house, sorted_houses, kind_among}
use Rattle.cell_model.specs.Steps.{member_list_of, left_members, note_epoch, with_epoch, serials_of, outcome, replay_from, replay}
use Rattle.cell_model.specs.Provenance.{epoch_of}
use Rattle.cell_model.specs.Mending.{start_commands, deliver_commands, skulk_commands, mend_commands, HasWorked, IsNeverStuck, NeedsStamp}
use Rattle.cell_model.proofs.Lists.{append_nil, eq_to}
use Rattle.cell_model.proofs.Terms.{Listed, listed_at, listed_or, In-others_of, master_new, since_kept}
use Rattle.cell_model.proofs.Facts.{Reached, view, Roll, Sound}
use Rattle.cell_model.proofs.Views.{put_at, put_same, put_other}
use Rattle.cell_model.proofs.Runs.{roll_of}
use Rattle.cell_model.proofs.NeverComes.{reaching_last}
use Rattle.cell_model.proofs.Deliveries.{Works, works_behind, Run, run_first, run_append, Finish, finish_append, not_refused, Waiting, waiting_more}
use Rattle.cell_model.proofs.Readiness.{changed, held_here}
use Rattle.cell_model.proofs.Answerings.{Once, AreOthers}
use Rattle.cell_model.proofs.PresentLists.{houses_of, listed_house, house_listed, in_ascending, ascending_in, once_to, others_once, IsProper, houses_new}
use Rattle.cell_model.proofs.PresentLists.{proper_new, tidy_lem}
use Rattle.cell_model.proofs.ReadySkulks.{Skulked, CanSkulk, skulk_refused, skulk_finishes}
use Rattle.cell_model.proofs.Agreed.{settles, waiting_none, some_epoch}
use Rattle.cell_model.proofs.Starting.{alike_self, Started, start_run}
use Rattle.cell_model.proofs.JoinRuns.{Joining, join_run}

-- ---- how many others a list has

module _ (old : List Member) (k m : ℕ) (ss : List ℕ) where
  -- the others of a new list with these houses
  abbrev others_among : List ℕ → List ℕ
  others_among hs = others_of m (map (λ x. record { house = x; since = since_in old x k; kind = kind_among m ss x }) hs)

  count_step : (c b : Bool) (xs ys : List ℕ) (x z : ℕ) → length xs ≡ length (cond b ys (x ∷ ys))
      → length (cond c xs (z ∷ xs)) ≡ length (cond b (cond c ys (z ∷ ys)) (x ∷ cond c ys (z ∷ ys)))
  count_step true true xs ys x z e = e
  count_step true false xs ys x z e = e
  count_step false true xs ys x z e = ap (λ (n : ℕ). suc n) e
  count_step false false xs ys x z e = ap (λ (n : ℕ). suc n) e

  count_insert : (x : ℕ) (zs : List ℕ) → length (others_among (insert_house x zs)) ≡ length (others_among (x ∷ zs))
  count_insert x [] = refl
  count_insert x (z ∷ zs) = by_order (nat_lt z x) (count_insert x zs)
    where
      by_order : (b : Bool) → length (others_among (insert_house x zs)) ≡ length (others_among (x ∷ zs))
          → length (others_among (cond b (z ∷ insert_house x zs) (x ∷ z ∷ zs))) ≡ length (others_among (x ∷ z ∷ zs))
      by_order true e = count_step (eqb z m) (eqb x m) (others_among (insert_house x zs)) (others_among zs) x z e
      by_order false e = refl

  count_ascending : (zs : List ℕ) → length (others_among (sorted_houses zs)) ≡ length (others_among zs)
  count_ascending [] = refl
  count_ascending (z ∷ zs) = count_insert z (sorted_houses zs) ∙ by_house (eqb z m) (count_ascending zs)
    where
      by_house : (b : Bool) → length (others_among (sorted_houses zs)) ≡ length (others_among zs)
          → length (cond b (others_among (sorted_houses zs)) (z ∷ others_among (sorted_houses zs))) ≡ length (cond b (others_among zs) (z ∷ others_among zs))
      by_house true e = e
      by_house false e = ap (λ (n : ℕ). suc n) e

  count_apart : (zs : List ℕ) → (In m zs → ⊥) → length (others_among zs) ≡ length zs
  count_apart [] n = refl
  count_apart (z ∷ zs) n =
      let apart : z ≢ m = λ e. n (inl (sym e)) in
      let other : eqb z m ≡ false = grind (arith, apart) in
      ap (λ (b : Bool). length (cond b (others_among zs) (z ∷ others_among zs))) other
      ∙ ap (λ (c : ℕ). suc c) (count_apart zs (λ i. n (inr i)))

  -- a new list has as many others as it was given
  others_count : (rs : List ℕ) → (In m rs → ⊥) → length (others_of m (member_list_of old k m rs ss)) ≡ length rs
  others_count rs n =
      count_ascending (m ∷ rs) ∙ ap (λ (b : Bool). length (cond b (others_among rs) (m ∷ others_among rs))) (eq_to m m refl) ∙ count_apart rs n

others_le : (h : ℕ) (ms : List Member) → length (others_of h ms) ≤ length ms
others_le h [] = le_refl _
others_le h (y ∷ ys) = by_house (eqb y.house h) (others_le h ys)
  where
    by_house : (b : Bool) → length (others_of h ys) ≤ length ys → length (cond b (others_of h ys) (y.house ∷ others_of h ys)) ≤ suc (length ys)
    by_house true le = omega (arith, le)
    by_house false le = omega (arith, le)

-- one listed house is not among the others
others_fewer : (h : ℕ) (ms : List Member) → is_listed h ms ≡ true → suc (length (others_of h ms)) ≤ length ms
others_fewer h [] e = absurd (cc)
others_fewer h (y ∷ ys) e = by_house (eqb y.house h) e (others_fewer h ys)
  where
    by_house : (b : Bool) → (b || is_listed h ys) ≡ true → (is_listed h ys ≡ true → suc (length (others_of h ys)) ≤ length ys)
        → suc (length (cond b (others_of h ys) (y.house ∷ others_of h ys))) ≤ suc (length ys)
    by_house true l rest = let le = others_le h ys in omega (arith, le)
    by_house false l rest = let less = rest l in omega (arith, less)

-- ---- the list of the new epoch

none_missing : (made hs : List ℕ) → ((x : ℕ) → In x hs → has x made ≡ true) → list_any (λ h. not (has h made)) hs ≡ false
none_missing made [] f = refl
none_missing made (h ∷ hs) f =
    ap (λ (b : Bool). not b || list_any (λ x. not (has x made)) hs) (f h (inl refl)) ∙ none_missing made hs (λ x i. f x (inr i))

none_leaves : (old now : List Member) → ((x : ℕ) → In x (houses_of old) → is_listed x now ≡ true) → left_members old now ≡ []
none_leaves [] now f = refl
none_leaves (y ∷ ys) now f =
    ap (λ (b : Bool). cond b (left_members ys now) (y.house ∷ left_members ys now)) (f y.house (inl refl)) ∙ none_leaves ys now (λ x i. f x (inr i))

module _ (ms : List Member) (k m : ℕ) (listed : is_listed m ms ≡ true) where
  -- the list of epoch k with the same master and the same houses
  abbrev renewed : List Member
  renewed = member_list_of ms k m (others_of m ms) (secondaries_of ms)

  renewed_has : (x : ℕ) → is_listed x ms ≡ true → is_listed x renewed ≡ true
  renewed_has x l =
      let i : In x (m ∷ others_of m ms) = ⊎_elim (λ (e : x ≡ m). inl e) (λ (o : In x (others_of m ms)). inr o) (listed_or x m ms l) in
      house_listed x renewed
      (subst (λ (hs : List ℕ). In x hs) (sym (houses_new ms k m (others_of m ms) (secondaries_of ms))) (ascending_in x (m ∷ others_of m ms) i))

  renewed_only : (x : ℕ) → is_listed x renewed ≡ true → is_listed x ms ≡ true
  renewed_only x l =
      ⊎_elim (λ (e : x ≡ m). subst (λ (z : ℕ). is_listed z ms ≡ true) (sym e) listed) (λ (o : In x (others_of m ms)). (In-others_of x m ms o).1)
      (in_ascending x (m ∷ others_of m ms) (subst (λ (hs : List ℕ). In x hs) (houses_new ms k m (others_of m ms) (secondaries_of ms)) (listed_house x renewed l)))

  apart : In m (others_of m ms) → ⊥
  apart i = (In-others_of m m ms i).0 refl

  renewed_count : length (others_of m renewed) ≡ length (others_of m ms)
  renewed_count = others_count ms k m (secondaries_of ms) (others_of m ms) apart

  not_missing : (made : List ℕ) (top : ℕ) → IsProper made top ms → list_any (λ h. not (has h made)) (m ∷ others_of m ms) ≡ false
  not_missing made top p = none_missing made (m ∷ others_of m ms) (λ x i. p.known x (by_place x i))
    where
      by_place : (x : ℕ) → In x (m ∷ others_of m ms) → is_listed x ms ≡ true
      by_place x (inl e) = subst (λ (z : ℕ). is_listed z ms ≡ true) (sym e) listed
      by_place x (inr i) = (In-others_of x m ms i).1

  not_bad : (made : List ℕ) (top : ℕ) → IsProper made top ms → is_bad_list (m ∷ others_of m ms) ≡ false
  not_bad made top p =
      let fewer = others_fewer m ms listed in
      let few = p.few in
      ap (λ (b : Bool). b || nat_lt most_members (suc (length (others_of m ms)))) (once_to (m ∷ others_of m ms) (apart, others_once m ms p.once))
      ∙ within_test (suc (length (others_of m ms))) (omega (arith, fewer, few))
    where
      within_test : (n : ℕ) → n ≤ most_members → nat_lt most_members n ≡ false
      within_test n le = grind (arith, le)

-- ---- the new epoch

-- the houses of the console's present list are up, none is beyond its last epoch, and its master
-- holds that one
record Ripe (d k : ℕ) (ms : List Member) (next : Option Stamp) (p : ℕ) (g : Cell) : Type 0 where
  top : g.top d ≡ k
  present : g.present d ≡ ms
  known : k ≢ 0
  up : (x : ℕ) → is_listed x ms ≡ true → (g.house x).up ≡ true
  below : (x : ℕ) → epoch_of ((g.house x).slots d) ≤ k
  replica : Replica
  held : IsHeld g (master_of ms) d replica
  epoch : replica.epoch ≡ k
  since : since_in ms (master_of ms) 0 ≤ k
  proper : IsProper g.made k ms
  stamp : stamp_at (g.house (master_of ms)) ≡ next
  waiting : Waiting g p []

module _ (d k : ℕ) (ms : List Member) (next : Option Stamp) (p : ℕ) (g : Cell) (c : Ripe d k ms next p g) where
  abbrev m : ℕ
  m = master_of ms

  listed : is_listed (master_of ms) ms ≡ true
  listed = c.proper.headed c.known

  abbrev now : List Member
  now = member_list_of ms (k + 1) (master_of ms) (others_of (master_of ms) ms) (secondaries_of ms)

  abbrev joins : List Message
  joins = to_each (others_of (master_of ms) now) d (master_of ms) (k + 1) (g.house (master_of ms)).floor (Join now (copy_of c.replica))

  abbrev crowned : Cell
  crowned = note_epoch (changed g (master_of ms) d (g.house (master_of ms)).floor (epoch_replica (k + 1) now c.replica) joins) d (k + 1) now

  epoch_works : outcome g (Epoch d (master_of ms) (others_of (master_of ms) ms) (secondaries_of ms))
      ≡ record { cell = crowned; answer = NewEpoch (k + 1) (serials_of g joins); accepted = [] }
  epoch_works =
      let rs : List ℕ = others_of m ms in
      let house : House = with_slot (g.house m) d (g.house m).floor (Held (epoch_replica (k + 1) now c.replica)) in
      let given : List Member → ℕ → Outcome = λ (l : List Member) (n : ℕ).
      (let fresh : List Member = member_list_of l (n + 1) m rs (secondaries_of ms) in
      let o : Outcome = at_house g m (new_epoch m (g.house m) d (n + 1) fresh (left_members l fresh)) in
      with_epoch o d fresh o.answer) in
      let done : HouseStep → Outcome = λ (s : HouseStep). with_epoch (at_house g m s) d now (at_house g m s).answer in
      let told : List ℕ → HouseStep = λ (left : List ℕ).
      turn_without_updates house (epoch_posts (g.house m).floor d m (k + 1) now left c.replica) (NewEpoch (k + 1)) in
      let unknown : is_unknown g d ≡ false = (let n : g.top d ≢ 0 = (λ e. c.known (sym c.top ∙ e)) in grind (arith, n)) in
      let member : not (is_listed m (g.present d)) ≡ false = ap (λ (l : List Member). not (is_listed m l)) c.present ∙ ap not listed in
      let down : is_down g m ≡ false = ap not (c.up m listed) in
      let since : nat_le (since_in now m 0) c.replica.epoch ≡ true =
      (let a = since_kept ms (k + 1) m rs (secondaries_of ms) listed in
      let le : since_in now m 0 ≤ c.replica.epoch = omega (arith, a, c.since, c.epoch) in
      grind (arith, le)) in
      let left : left_members ms now ≡ [] = none_leaves ms now (λ x i. renewed_has ms (k + 1) m listed x (house_listed x ms i)) in
      not_refused g (Epoch d m rs (secondaries_of ms))
      (unknown, (not_missing ms (k + 1) m listed g.made k c.proper, (not_bad ms (k + 1) m listed g.made k c.proper, (member, (down, tt)))))
      ∙ ap (λ (l : List Member). given l (g.top d)) c.present
      ∙ ap (λ (n : ℕ). given ms n) c.top
      ∙ ap (λ (s : Slot). done (new_epoch_in m (g.house m) d (k + 1) now (left_members ms now) s)) c.held
      ∙ ap (λ (b : Bool). done (cond b (told (left_members ms now)) (Stays (Refused (NotJoined c.replica.epoch (since_in now m 0)))))) since
      ∙ ap (λ (l : List ℕ). done (told l)) left
      ∙ ap (λ (l : List Message). done (turn_without_updates house l (NewEpoch (k + 1)))) (append_nil joins)

  joins_wait : Joining d (master_of ms) (k + 1) now next (g.house (master_of ms)).floor (copy_of c.replica) (others_of (master_of ms) now) p crowned
  joins_wait =
      let r : Replica = epoch_replica (k + 1) now c.replica in
      let floor : ℕ = (g.house m).floor in
      let house : House = with_slot (g.house m) d floor (Held r) in
      record {
        up = λ x l. put_at (λ z (w : House). (g.house z).up ≡ true → w.up ≡ true) g.house m house (λ e. e) (λ z _ e. e) x
            (c.up x (renewed_only ms (k + 1) m listed x l));
        holds = λ x l n. ⊎_elim
            (λ (e : x ≡ master_of ms). subst (λ (z : ℕ). (q : Replica) × IsHeld crowned z d q × (q.epoch ≡ k + 1) × (q.members ≡ now)) (sym e)
            (r, held_here g (master_of ms) d floor r joins, refl, refl))
            (λ (o : In x (others_of (master_of ms) now)). absurd (n o))
            (listed_or x (master_of ms) now l);
        below = λ x i.
            let other = (In-others_of x (master_of ms) now i).0 in
            let low : epoch_of ((crowned.house x).slots d) ≤ k =
            subst (λ (w : House). epoch_of (w.slots d) ≤ k) (sym (put_other g.house m house x other)) (c.below x) in
            omega (arith, low);
        waiting = waiting_more g crowned p [] joins c.waiting refl refl;
        known = λ e. (let same = put_same g.top d (k + 1) in omega (arith, same, e));
        made = c.proper.known m listed;
        stamp = ap stamp_at (put_same g.house m house) ∙ c.stamp;
      }

  renewed_head : is_listed (master_of ms) now ≡ true
  renewed_head = renewed_has ms (k + 1) (master_of ms) listed (master_of ms) listed

  renewed_once : Once (others_of (master_of ms) now)
  renewed_once =
      let rs : List ℕ = others_of (master_of ms) ms in
      let fine = not_bad ms (k + 1) (master_of ms) listed g.made k c.proper in
      let there = not_missing ms (k + 1) (master_of ms) listed g.made k c.proper in
      others_once (master_of ms) now (proper_new g.made ms (k + 1) (k + 1) (master_of ms) rs (secondaries_of ms) fine there).once

  -- a new epoch, and its Joins
  ripe_joined : Run g (Epoch d (master_of ms) (others_of (master_of ms) ms) (secondaries_of ms) ∷ deliver_commands p (length (others_of (master_of ms) ms)))
      (CanSkulk d (master_of ms) (k + 1) now next (p + length (others_of (master_of ms) ms)))
  ripe_joined =
      let n : ℕ = length (others_of m ms) in
      let others : AreOthers m now (others_of m now) = λ x i. In-others_of x m now i in
      let joined : Run crowned (deliver_commands p n) (CanSkulk d m (k + 1) now next (p + n)) =
      subst (λ (l : ℕ). Run crowned (deliver_commands p l) (CanSkulk d m (k + 1) now next (p + l))) (renewed_count ms (k + 1) m listed)
      (join_run d m (k + 1) now next (g.house m).floor (copy_of c.replica) renewed_head (others_of m now) crowned p renewed_once others joins_wait) in
      run_first g (Epoch d m (others_of m ms) (secondaries_of ms)) (deliver_commands p n) (CanSkulk d m (k + 1) now next (p + n)) _ epoch_works tt joined

-- ---- every cell that is reached

module _ (all : List Command) (d : ℕ) (some : (replay all).top d ≢ 0) where
  abbrev g : Cell
  g = replay all

  abbrev roll : Roll
  roll = roll_of d all

  abbrev list : List Member
  list = (replay all).present d

  sound : Sound (roll_of d all) (view d (replay all))
  sound = (reaching_last all d).sound

  head_listed : is_listed (master_of list) list ≡ true
  head_listed = ((tidy_lem all).lists d).headed some

  -- no house is beyond the last epoch
  slot_low : (x : ℕ) (s : Slot) → (g.house x).slots d ≡ s → epoch_of s ≤ g.top d
  slot_low x Absent at = omega arith
  slot_low x (Gone e) at = (sound.gone x e at).1
  slot_low x (Held r) at = (sound.held x r at).top

  head_at : (n : ℕ) → g.top d ≡ n → n ≢ 0 → Reached n ((g.house (master_of (roll.list n))).slots d)
  head_at zero e low = absurd (low refl)
  head_at (suc k) e low = sound.heads k (subst (λ (n : ℕ). suc k ≤ n) (sym e) (le_refl (suc k)))

  head_listed_since : Listed (roll.list (g.top d)) (master_of list) (since_in list (master_of list) 0)
  head_listed_since =
      subst (λ (l : List Member). Listed l (master_of list) (since_in list (master_of list) 0)) sound.present (listed_at list (master_of list) head_listed)

  -- the master of the present list holds the last epoch
  head_holds : (s : Slot) → (g.house (master_of list)).slots d ≡ s → Reached (g.top d) s
      → (r : Replica) × IsHeld g (master_of list) d r × (r.epoch ≡ g.top d)
  head_holds Absent at up = elim up [ ]
  head_holds (Gone e) at up =
      let w = sound.gone (master_of list) e at in
      let low = w.1 in
      let same : e ≡ g.top d = omega (arith, up, low) in
      absurd (w.2 (since_in list (master_of list) 0)
      (subst (λ (n : ℕ). Listed (roll.list n) (master_of list) (since_in list (master_of list) 0)) (sym same) head_listed_since))
  head_holds (Held r) at up = let low = (sound.held (master_of list) r at).top in (r, at, omega (arith, up, low))

  master_holds : (r : Replica) × IsHeld g (master_of list) d r × (r.epoch ≡ g.top d)
  master_holds =
      head_holds ((g.house (master_of list)).slots d) refl
      (subst (λ (l : List Member). Reached (g.top d) ((g.house (master_of l)).slots d)) (sym sound.present) (head_at (g.top d) refl some))

  -- once its houses are started
  ripe : (next : Option Stamp) → stamp_at (g.house (master_of list)) ≡ next → (h : Cell) → Started g g list h
      → Ripe d (g.top d) list next (length g.bag) h
  ripe next stamp h s =
      let a = s.alike in
      let w = master_holds in
      let v = tidy_lem all in
      let none = waiting_none g v in
      record {
        top = ap (λ (f : ℕ → ℕ). f d) a.top;
        present = ap (λ (f : ℕ → List Member). f d) a.present;
        known = some;
        up = λ x l. s.up x (listed_house x list l);
        below = λ x. subst (λ (f : ℕ → Slot). epoch_of (f d) ≤ g.top d) (sym (a.slots x)) (slot_low x ((g.house x).slots d) refl);
        replica = w.0;
        held = ap (λ (f : ℕ → Slot). f d) (a.slots (master_of list)) ∙ w.1;
        epoch = w.2;
        since = sound.good.order (g.top d) (master_of list) (since_in list (master_of list) 0) (le_refl (g.top d)) head_listed_since;
        proper = subst (λ (l : List ℕ). IsProper l (g.top d) list) (sym a.made) (v.lists d);
        stamp = a.stamps (master_of list) ∙ stamp;
        waiting = record {
          before = none.before;
          bag = a.bag ∙ none.bag;
          count = none.count;
          lost = λ n lt. ap (has n) a.lost ∙ none.lost n lt;
        };
      }

  abbrev renewal : List Member
  renewal = member_list_of list (g.top d + 1) (master_of list) (others_of (master_of list) list) (secondaries_of list)

  -- the houses are started, and take a new epoch
  abbrev renewing : List Command
  renewing =
      start_commands g list
      ++ Epoch d (master_of list) (others_of (master_of list) list) (secondaries_of list) ∷ deliver_commands (length g.bag) (length (others_of (master_of list) list))

  abbrev skulking_then : List Command
  skulking_then =
      skulk_commands (master_of list) d (length g.bag + length (others_of (master_of list) list)) (length (others_of (master_of list) list))

  in_parts : renewing ++ skulking_then ≡ mend_commands g d
  in_parts =
      append_assoc (start_commands g list)
      (Epoch d (master_of list) (others_of (master_of list) list) (secondaries_of list) ∷ deliver_commands (length g.bag) (length (others_of (master_of list) list))) skulking_then

  renewing_runs : (next : Option Stamp) → stamp_at (g.house (master_of list)) ≡ next → Run g renewing
      (CanSkulk d (master_of list) (g.top d + 1) renewal next (length g.bag + length (others_of (master_of list) list)))
  renewing_runs next stamp =
      let p = (tidy_lem all).lists d in
      let m : ℕ = master_of list in
      let n : ℕ = length (others_of m list) in
      run_append g (start_commands g list) (Epoch d m (others_of m list) (secondaries_of list) ∷ deliver_commands (length g.bag) n) (Started g g list)
      (CanSkulk d m (g.top d + 1) renewal next (length g.bag + n))
      (start_run g list g p.once (λ x i. p.known x (house_listed x list i)) (alike_self g) (λ x i. refl))
      (λ h s. ripe_joined d (g.top d) list next (length g.bag) h (ripe next stamp h s))

  renewal_head : is_listed (master_of list) renewal ≡ true
  renewal_head = renewed_has list (g.top d + 1) (master_of list) head_listed (master_of list) head_listed

  renewal_once : Once (others_of (master_of list) renewal)
  renewal_once =
      let p = (tidy_lem all).lists d in
      let m : ℕ = master_of list in
      let k : ℕ = g.top d + 1 in
      let fine = not_bad list k m head_listed g.made (g.top d) p in
      let there = not_missing list k m head_listed g.made (g.top d) p in
      others_once m renewal (proper_new g.made list k k m (others_of m list) (secondaries_of list) fine there).once

  -- then a skulk completes
  mending_finishes : (t : Stamp) → stamp_at (g.house (master_of list)) ≡ Some t
      → Finish g (master_of list) d (mend_commands g d) t (Skulked d (master_of list) (g.top d + 1) renewal)
  mending_finishes t stamp =
      let m : ℕ = master_of list in
      let n : ℕ = length (others_of m list) in
      let k : ℕ = g.top d + 1 in
      let place : ℕ = length g.bag + n in
      let over : Cell → Type 0 = Skulked d m k renewal in
      let count : length (others_of m renewal) ≡ n = renewed_count list k m head_listed in
      subst (λ (l : List Command). Finish g m d l t over) in_parts
      (finish_append g m d renewing skulking_then t (CanSkulk d m k renewal (Some t) place) over (renewing_runs (Some t) stamp)
      (λ h s. subst (λ (l : ℕ). Finish h m d (skulk_commands m d place l) t over) count
      (skulk_finishes d m k renewal t renewal_head (master_new list k m (others_of m list) (secondaries_of list)) renewal_once h place s)))

  -- without a stamp none does
  mending_needs : stamp_at (g.house (master_of list)) ≡ None → Works g (mend_commands g d) → ⊥
  mending_needs none w =
      let m : ℕ = master_of list in
      let k : ℕ = g.top d + 1 in
      let r = renewing_runs None none in
      let later = works_behind renewing skulking_then g (subst (λ (l : List Command). Works g l) (sym in_parts) w) in
      let refused = skulk_refused d m k renewal renewal_head (master_new list k m (others_of m list) (secondaries_of list)) (replay_from g renewing) _ r.state in
      subst HasWorked refused (later (outcome (replay_from g renewing) (Skulk m d)).answer (inl refl))

starting_few : (g : Cell) (ys : List Member) → length (start_commands g ys) ≤ length ys
starting_few g [] = le_refl _
starting_few g (y ∷ ys) = by_state (is_down g y.house) (starting_few g ys)
  where
    by_state : (b : Bool) → length (start_commands g ys) ≤ length ys → length (cond b (Start y.house ∷ start_commands g ys) (start_commands g ys)) ≤ suc (length ys)
    by_state true le = omega (arith, le)
    by_state false le = omega (arith, le)

delivering_count : (n p : ℕ) → length (deliver_commands p n) ≡ n
delivering_count zero p = refl
delivering_count (suc n) p = ap (λ (c : ℕ). suc c) (delivering_count n (p + 1))

-- for n houses there are at most 6 n - 3 commands
mending_few : (g : Cell) (d : ℕ) → is_listed (master_of (g.present d)) (g.present d) ≡ true → length (mend_commands g d) + 3 ≤ 6 * length (g.present d)
mending_few g d listed =
    let ms : List Member = g.present d in
    let m : ℕ = master_of ms in
    let n : ℕ = length (others_of m ms) in
    let p : ℕ = length g.bag in
    let starts = starting_few g ms in
    let fewer = others_fewer m ms listed in
    let a = length-append (start_commands g ms) (Epoch d m (others_of m ms) (secondaries_of ms) ∷ (deliver_commands p n ++ skulk_commands m d (p + n) n)) in
    let b = length-append (deliver_commands p n) (skulk_commands m d (p + n) n) in
    let first = delivering_count n p in
    let then = delivering_count (4 * n) (p + n) in
    omega (arith, starts, fewer, a, b, first, then)

-- no state is stuck
pub mended_lem : (all : List Command) (d : ℕ) → IsNeverStuck all d
mended_lem all d t low stamp =
    let g : Cell = replay all in
    let ms : List Member = g.present d in
    let m : ℕ = master_of ms in
    let k : ℕ = g.top d + 1 in
    let some = some_epoch (g.top d) low in
    let listed = ((tidy_lem all).lists d).headed some in
    record {
      settled = settles all (mend_commands g d) d k t ms (member_list_of ms k m (others_of m ms) (secondaries_of ms)) listed (master_new ms k m (others_of m ms) (secondaries_of ms))
          (λ x l. renewed_has ms k m listed x l)
          (mending_finishes all d some t stamp);
      few = mending_few g d listed;
    }

-- and the stamp is needed
pub needs_lem : (all : List Command) (d : ℕ) → NeedsStamp all d
needs_lem all d t low none c = mending_needs all d (some_epoch ((replay all).top d) low) none c.works
