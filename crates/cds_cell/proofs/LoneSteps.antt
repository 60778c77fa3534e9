-- What a command of one house leaves of its cell: all but that house, messages that it posts, and
-- what the console lists of one directory.
use Rattle.std.proofs.Common.{◌≡◌, ◌≢◌, ◌⊎◌, inl, inr, ℕ, ◌+◌, ◌<◌, Bool, true, false, ◌||◌, List, [], ◌∷◌, ◌++◌, refl, sym, ap, subst, ◌∙◌, arith}
use Rattle.std.specs.Prelude.{Option, Some, None, nat_le, ◌==◌, if◌then◌else◌}
use Rattle.std.specs.List.{list_any}
use Rattle.std.proofs.lemmas.Bool.Decides.{nat_tests}
use Rattle.cds_stamps.specs.Members.{Member, since_in}
use Rattle.cds_stamps.specs.Numbers.{root_dir}
use Rattle.directory.specs.Updates as updates
use Rattle.cell_model.specs.Cells.{Absent, Cell, Gone, Held, Message, Replica, Slot}
use Rattle.cell_model.specs.Commands as command
use Rattle.cell_model.specs.Commands.{Command, NewEpoch, NotJoined, Refusal, Refused}
use Rattle.cell_model.specs.Sets.{has}
use Rattle.cell_model.specs.Steps.{at_house, deliver, effect, first_refusal, is_down, is_taken, is_unknown, left_members, member_list_of}
use Rattle.cell_model.specs.Steps.{message_at, outcome, refusals_of, refusal_outcome, sorted_houses, unless, with_epoch}
use Rattle.cell_model.specs.Turns.{HouseStep, Stays, Turns, accept, epoch_posts, epoch_replica, first_joins, first_replica, new_epoch_in, skulk, take}
use Rattle.cell_model.specs.Turns.{turn_without_updates, with_slot}
use Rattle.cell_model.proofs.Lists.{append_nil, eq_from, not_true, or_left, or_right}
use Rattle.cell_model.proofs.Views.{put_other, put_same}
use Rattle.cds_cell.specs.CommandImages.{actors, receivers_of}
use Rattle.cds_cell.proofs.ActSteps.{passed}
use Rattle.cds_cell.proofs.KeptNodes.{KeepsNode, SameNode, accept_keeps, holding_same, skulk_keeps, take_keeps}

-- the console lists a directory anew: the root, of which it knew none, or one with a later epoch
abbrev pub Renews : (g o : Cell) → Command → ℕ → Type 0
Renews g o (command.Root m rs ss) d = g.top d ≡ 0
Renews g o (command.Epoch e m rs ss) d = (d ≡ e) × (g.top d < o.top d)
Renews g o k d = ⊥

-- it knows the same of a directory
abbrev pub SameListed : (g o : Cell) → ℕ → Type 0
SameListed g o d = (o.top d ≡ g.top d) × (o.present d ≡ g.present d)

-- what a command of a house leaves of its cell
pub record ActsAlone (g o : Cell) (h : ℕ) (k : Command) : Type 0 where
  pub made : o.made ≡ g.made
  pub lost : o.lost ≡ g.lost
  pub posts : List Message
  pub bag : o.bag ≡ g.bag ++ posts
  pub others : (x : ℕ) → x ≢ h → o.house x ≡ g.house x
  pub same : SameNode (g.house h) (o.house h)
  pub listed : (d : ℕ) → SameListed g o d ⊎ Renews g o k d

-- all stays
still : (g : Cell) (h : ℕ) (k : Command) → ActsAlone g g h k
still g h k = record {
  made = refl;
  lost = refl;
  posts = [];
  bag = sym (append_nil g.bag);
  others = λ x apart. refl;
  same = record { node = refl; clock = refl; up = refl };
  listed = λ d. inl (refl, refl);
}

-- the house does a step
stepped : (g : Cell) (h : ℕ) (k : Command) (s : HouseStep) → KeepsNode (g.house h) s → ActsAlone g (at_house g h s).cell h k
stepped g h k (Stays answer) keeps = still g h k
stepped g h k (Turns t) keeps = record {
  made = refl;
  lost = refl;
  posts = t.posts;
  bag = refl;
  others = put_other g.house h t.house;
  same = subst (SameNode (g.house h)) (sym (put_same g.house h t.house)) keeps;
  listed = λ d. inl (refl, refl);
}

-- ---- the console lists a directory anew

-- the root
rooted : (g : Cell) (m : ℕ) (rs ss : List ℕ) → g.top 1 ≡ 0 → ActsAlone g (effect g (command.Root m rs ss)).cell m (command.Root m rs ss)
rooted g m rs ss new =
    let ms : List Member = member_list_of [] 1 m rs ss in
    record {
      made = refl;
      lost = refl;
      posts = first_joins (g.house m).floor 1 m ms;
      bag = refl;
      others = put_other g.house m (with_slot (g.house m) 1 (g.house m).floor (Held (first_replica ms)));
      same = subst (SameNode (g.house m)) (sym (put_same g.house m (with_slot (g.house m) 1 (g.house m).floor (Held (first_replica ms)))))
          (holding_same (g.house m) 1 (g.house m).floor (Held (first_replica ms)));
      listed = λ d. by d (d == 1) refl;
    }
  where
    by : (d : ℕ) (b : Bool) → (d == 1) ≡ b
        → (((if b then 1 else g.top d) ≡ g.top d) × ((if b then member_list_of [] 1 m rs ss else g.present d) ≡ g.present d)) ⊎ (g.top d ≡ 0)
    by d true on = let same : d ≡ 1 = grind (arith, nat_tests, on) in inr (ap g.top same ∙ new)
    by d false off = inl (refl, refl)

-- the next epoch of a directory
module _ (g : Cell) (d m : ℕ) (rs ss : List ℕ) (ms : List Member) (left : List ℕ) where
  -- which its master enters
  abbrev later : Replica → HouseStep
  later r =
      turn_without_updates (with_slot (g.house m) d (g.house m).floor (Held (epoch_replica (g.top d + 1) ms r)))
      (epoch_posts (g.house m).floor d m (g.top d + 1) ms left r) (NewEpoch (g.top d + 1))

  -- the directory after the step of its master
  abbrev Noted : HouseStep → Type 0
  Noted s = ActsAlone g (with_epoch (at_house g m s) d ms (at_house g m s).answer).cell m (command.Epoch d m rs ss)

  listed_later : (e : ℕ) (b : Bool) → (e == d) ≡ b
      → (((if b then g.top d + 1 else g.top e) ≡ g.top e) × ((if b then ms else g.present e) ≡ g.present e))
      ⊎ ((e ≡ d) × (g.top e < (if b then g.top d + 1 else g.top e)))
  listed_later e true on =
      let same : e ≡ d = grind (arith, nat_tests, on) in
      let top : g.top e ≡ g.top d = ap g.top same in
      inr (same, omega (arith, top))
  listed_later e false off = inl (refl, refl)

  by_since : (r : Replica) (b : Bool) → Noted (if b then later r else Stays (Refused (NotJoined r.epoch (since_in ms m 0))))
  by_since r true = record {
    made = refl;
    lost = refl;
    posts = epoch_posts (g.house m).floor d m (g.top d + 1) ms left r;
    bag = refl;
    others = put_other g.house m (with_slot (g.house m) d (g.house m).floor (Held (epoch_replica (g.top d + 1) ms r)));
    same = subst (SameNode (g.house m)) (sym (put_same g.house m (with_slot (g.house m) d (g.house m).floor (Held (epoch_replica (g.top d + 1) ms r)))))
        (holding_same (g.house m) d (g.house m).floor (Held (epoch_replica (g.top d + 1) ms r)));
    listed = λ e. listed_later e (e == d) refl;
  }
  by_since r false = still g m (command.Epoch d m rs ss)

  entered : (s : Slot) → Noted (new_epoch_in m (g.house m) d (g.top d + 1) ms left s)
  entered Absent = still g m (command.Epoch d m rs ss)
  entered (Gone e) = still g m (command.Epoch d m rs ss)
  entered (Held r) = by_since r (nat_le (since_in ms m 0) r.epoch)

-- ---- commands

-- a message that comes to its receiver
delivered : (g : Cell) (h n : ℕ) (o : Option Message) → receivers_of o ≡ h ∷ [] → ActsAlone g (deliver g o).cell h (command.Deliver n)
delivered g h n None acts = absurd (cc (acts))
delivered g h n (Some m) acts =
    let same : m.receiver ≡ h = cc (acts) in
    subst (λ x. ActsAlone g (deliver g (Some m)).cell x (command.Deliver n)) same (by_down (is_down g m.receiver))
  where
    by_down : (b : Bool)
        → ActsAlone g (if b then refusal_outcome g command.Down else at_house g m.receiver (take (g.house m.receiver) m)).cell m.receiver (command.Deliver n)
    by_down true = still g m.receiver (command.Deliver n)
    by_down false = stepped g m.receiver (command.Deliver n) (take (g.house m.receiver) m) (take_keeps (g.house m.receiver) m)

-- a house that was made has its number, and its node is taken
not_free : (g : Cell) (x node : ℕ) (ys : List ℕ) → list_any (λ y. (y == x) || ((g.house y).node == node)) ys ≡ false → has x ys ≡ false
not_free g x node [] free = refl
not_free g x node (y ∷ ys) free =
    let rest : has x ys ≡ false = not_free g x node ys (or_right ((y == x) || ((g.house y).node == node)) _ free) in
    let other : (y == x) ≡ false = or_left (y == x) ((g.house y).node == node) (or_left ((y == x) || ((g.house y).node == node)) _ free) in
    grind (arith, nat_tests, rest, other)

-- so it is not made again
made_again : (g : Cell) (x node : ℕ) → has x g.made ≡ true → first_refusal (refusals_of g (command.House x node)) ≡ None → ⊥
made_again g x node made none =
    let free : has x g.made ≡ false =
    not_free g x node g.made (passed (refusals_of g (command.House x node)) (is_taken g x node) command.HouseExists (inl refl) none) in
    cc (free, made)

-- a command that nothing was said against, of its house
by_actor : (g : Cell) (x h : ℕ) (k : Command) → x ∷ [] ≡ h ∷ [] → ActsAlone g (effect g k).cell x k → ActsAlone g (effect g k).cell h k
by_actor g x h k acts alone = let same : x ≡ h = cc (acts) in subst (λ y. ActsAlone g (effect g k).cell y k) same alone

effect_alone : (g : Cell) (h : ℕ) (k : Command) → actors g k ≡ h ∷ [] → has h g.made ≡ true → first_refusal (refusals_of g k) ≡ None
    → ActsAlone g (effect g k).cell h k
effect_alone g h (command.House x node) acts made none =
    let same : h ≡ x = cc (acts) in
    absurd (made_again g x node (subst (λ y. has y g.made ≡ true) same made) none)
effect_alone g h (command.Root m rs ss) acts made none =
    let new : g.top 1 ≡ 0 =
    eq_from (g.top 1) 0
    (not_true (is_unknown g root_dir) (passed (refusals_of g (command.Root m rs ss)) _ command.DirectoryExists (inl refl) none)) in
    by_actor g m h (command.Root m rs ss) acts (rooted g m rs ss new)
effect_alone g h (command.Repoint x d n m rs) acts made none =
    let u : updates.Change = updates.Repoint n m (sorted_houses rs) in
    by_actor g x h (command.Repoint x d n m rs) acts
    (stepped g x (command.Repoint x d n m rs) (accept x (g.house x) d u) (accept_keeps (g.house x) x d u))
effect_alone g h (command.Accept x d u) acts made none =
    by_actor g x h (command.Accept x d u) acts (stepped g x (command.Accept x d u) (accept x (g.house x) d u) (accept_keeps (g.house x) x d u))
effect_alone g h (command.Epoch d m rs ss) acts made none =
    let ms : List Member = member_list_of (g.present d) (g.top d + 1) m rs ss in
    by_actor g m h (command.Epoch d m rs ss) acts (entered g d m rs ss ms (left_members (g.present d) ms) ((g.house m).slots d))
effect_alone g h (command.Skulk x d) acts made none =
    by_actor g x h (command.Skulk x d) acts (stepped g x (command.Skulk x d) (skulk x (g.house x) d) (skulk_keeps (g.house x) x d))
effect_alone g h (command.Deliver n) acts made none = delivered g h n (message_at g n) acts
effect_alone g h (command.Mkdir x d n m rs ss) acts made none = absurd (cc (acts))
effect_alone g h (command.Clock x time) acts made none = absurd (cc (acts))
effect_alone g h (command.Lose n) acts made none = absurd (cc (acts))
effect_alone g h (command.Crash x) acts made none = absurd (cc (acts))
effect_alone g h (command.Start x) acts made none = absurd (cc (acts))

-- a command of one house, which was made
pub outcome_alone : (g : Cell) (h : ℕ) (k : Command) → actors g k ≡ h ∷ [] → has h g.made ≡ true → ActsAlone g (outcome g k).cell h k
outcome_alone g h k acts made = by (first_refusal (refusals_of g k)) refl
  where
    by : (o : Option Refusal) → first_refusal (refusals_of g k) ≡ o → ActsAlone g (unless g o (effect g k)).cell h k
    by None none = effect_alone g h k acts made none
    by (Some r) some = still g h k
