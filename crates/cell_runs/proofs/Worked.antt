-- The command of an order is the turn of its house.
use Rattle.std.proofs.Common.{◌≡◌, ◌≢◌, ℕ, suc, ◌+◌, ◌-◌, Bool, true, false, ◌||◌, not, eqb, cond, List, [], ◌∷◌, ◌++◌, Option, Some, None, refl, sym, ap, subst, ◌∙◌, arith, inl, inr, append_assoc}
use Rattle.std.specs.Prelude.{slice_get, ◌==◌, nat_le, if◌then◌else◌}
use Rattle.std.proofs.lemmas.Bool.Decides.{nat_tests}
use Rattle.cds_stamps.specs.declared.stamp.Stamp.{Stamp}
use Rattle.cds_stamps.specs.Members.{Member, others_of, secondaries_of, since_in}
use Rattle.cds_stamps.specs.Numbers.{root_dir}
use Rattle.directory.specs.declared.update.UpdateRefusal.{UpdateRefusal}
use Rattle.directory.specs.Updates.{Change, MakeChild}
use Rattle.cell_model.specs.Cells as model
use Rattle.cell_model.specs.Cells.{Absent, Cell, House, Message, Replica, Slot, put}
use Rattle.cell_model.specs.Commands as commands
use Rattle.cell_model.specs.Commands.{Answer, Command}
use Rattle.cell_model.specs.Holdings.{NumbersHold}
use Rattle.cell_model.specs.Reached.{IsReached}
use Rattle.cell_model.specs.Sets.{In, has}
use Rattle.cell_model.specs.Steps.{Outcome, at_house, deliver, is_bad_list, is_down, is_missing, is_unknown, left_members, member_list_of, message_at, note_epoch, outcome, refusal_outcome, root, serials_of, sorted_houses, with_directory, with_epoch}
use Rattle.cell_model.specs.Turns as turns
use Rattle.cell_model.specs.Turns.{HouseStep, Stays, Turns, Turn, first_joins, found_directory}
use Rattle.cell_model.proofs.AtHouses.{answer_of}
use Rattle.cell_model.proofs.Deliveries.{not_refused}
use Rattle.cell_model.proofs.Numbers.{numbers_lem}
use Rattle.cell_model.proofs.Standing.{on_reached}
use Rattle.cell_model.proofs.Views.{put_other, put_same}
use Rattle.cell_runs.specs.Entries.{Order, Root, Mkdir, Accept, Skulk, Epoch, Take, Post}
use Rattle.cell_runs.specs.LineAnswers.{answer_said}
use Rattle.cell_runs.specs.OrderSteps.{IsLetterOf, order_step, then_found, with_number}
use Rattle.cell_runs.specs.Orders.{Seen, IsGiven, order_seen, place_of}
use Rattle.cell_runs.specs.Views.{is_turn, seen_at, taking_seen, turn_seen}
use Rattle.cell_runs.proofs.OrderTurns.{accept_held, epoch_held, skulk_held, turn_fine}
use Rattle.cell_runs.proofs.Posted.{letter_octets}

-- what is known of a cell, beside the messages
abbrev pub seen_of : List Post → Cell → Seen
seen_of posts g = record { made = g.made; posts = posts; top = g.top; present = g.present; next_dir = g.next_dir }

-- the house x of the cell can act: it was made, and is up; and no message was lost
pub record CanAct (g : Cell) (x : ℕ) : Type 0 where
  pub reached : IsReached g
  pub made : has x g.made ≡ true
  pub up : (g.house x).up ≡ true
  pub lost : g.lost ≡ []

-- the command is this turn of the house x, at this order, with this answer
pub record Worked (g : Cell) (posts : List Post) (x : ℕ) (order : Order) (answer : List ℕ) (t : Turn) (c : Command) : Type 0 where
  pub o : Outcome
  pub is : outcome g c ≡ o
  pub bag : o.cell.bag ≡ g.bag ++ t.posts
  pub here : o.cell.house x ≡ t.house
  pub there : (y : ℕ) → y ≢ x → o.cell.house y ≡ g.house y
  pub lost : o.cell.lost ≡ g.lost
  pub made : o.cell.made ≡ g.made
  pub knows : order_seen (seen_of posts g) x order ≡ seen_of posts o.cell
  pub turn : is_turn o.answer ≡ true
  pub said : answer ≡ answer_said o.answer
  pub seen : seen_at g c ≡ turn_seen g x order o

itself : (x : ℕ) → eqb x x ≡ true
itself x = grind arith

-- ---- nothing is refused

-- the directory of a house that has something of it is known
known : (g : Cell) (x d : ℕ) → IsReached g → ((g.house x).slots d ≡ Absent → ⊥) → is_unknown g d ≡ false
known g x d reached held = by (is_unknown g d) refl
  where
    by : (b : Bool) → is_unknown g d ≡ b → b ≡ false
    by false off = refl
    by true on =
        let none : g.top d ≡ 0 = grind (arith, nat_tests, on) in
        absurd (held (((on_reached NumbersHold numbers_lem g reached).nothing d none).absent x))

-- houses that were made are not missing
not_missing : (g : Cell) (hs : List ℕ) → ((h : ℕ) → In h hs → has h g.made ≡ true) → is_missing g hs ≡ false
not_missing g [] all = refl
not_missing g (h ∷ hs) all =
    ap (λ (b : Bool). not b || is_missing g hs) (all h (inl refl)) ∙ not_missing g hs (λ k i. all k (inr i))

-- one of these, and others
with_first : (g : Cell) (x : ℕ) (hs : List ℕ) → has x g.made ≡ true → ((h : ℕ) → In h hs → has h g.made ≡ true) → (h : ℕ) → In h (x ∷ hs) → has h g.made ≡ true
with_first g x hs first rest h (inl is) = subst (λ (k : ℕ). has k g.made ≡ true) (sym is) first
with_first g x hs first rest h (inr i) = rest h i

none_more : (g : Cell) (h : ℕ) → In h [] → has h g.made ≡ true
none_more g h i = elim i [ ]

not_down : (g : Cell) (x : ℕ) → CanAct g x → is_down g x ≡ false
not_down g x can = ap not can.up

-- ---- a turn that is the house's alone

-- what the command is, if it is the house's step
at_turn : (g : Cell) (posts : List Post) (x : ℕ) (order : Order) (answer : List ℕ) (t : Turn) (c : Command) → outcome g c ≡ at_house g x (Turns t)
    → order_seen (seen_of posts g) x order ≡ seen_of posts g → ((ns : List ℕ) → is_turn (t.answer ns) ≡ true)
    → ((ns : List ℕ) → answer ≡ answer_said (t.answer ns)) → seen_at g c ≡ turn_seen g x order (outcome g c) → Worked g posts x order answer t c
at_turn g posts x order answer t c is knows turn said seen = record {
  o = at_house g x (Turns t);
  is = is;
  bag = refl;
  here = put_same g.house x t.house;
  there = λ y apart. put_other g.house x t.house y apart;
  lost = refl;
  made = refl;
  knows = knows;
  turn = turn (serials_of g t.posts);
  said = said (serials_of g t.posts);
  seen = seen ∙ ap (turn_seen g x order) is;
}

module _ (g : Cell) (posts : List Post) (x : ℕ) (can : CanAct g x) (answer : List ℕ) (m : Message) (t : Turn) where
  pub accept_worked : (d : ℕ) (u : Change) → turns.accept x (g.house x) d u ≡ Turns t → ((ns : List ℕ) → answer ≡ answer_said (t.answer ns))
      → Worked g posts x (Accept d u) answer t (commands.Accept x d u)
  accept_worked d u is said =
      at_turn g posts x (Accept d u) answer t (commands.Accept x d u)
      (not_refused g (commands.Accept x d u)
      (known g x d can.reached (accept_held x (g.house x) d u t is), (not_missing g (x ∷ []) (with_first g x [] can.made (none_more g)), (not_down g x can, tt)))
      ∙ ap (at_house g x) is) refl (turn_fine x (g.house x) (Accept d u) m t is).0 said refl

  pub skulk_worked : (d : ℕ) → turns.skulk x (g.house x) d ≡ Turns t → ((ns : List ℕ) → answer ≡ answer_said (t.answer ns))
      → Worked g posts x (Skulk d) answer t (commands.Skulk x d)
  skulk_worked d is said =
      at_turn g posts x (Skulk d) answer t (commands.Skulk x d)
      (not_refused g (commands.Skulk x d)
      (known g x d can.reached (skulk_held x (g.house x) d t is), (not_missing g (x ∷ []) (with_first g x [] can.made (none_more g)), (not_down g x can, tt)))
      ∙ ap (at_house g x) is) refl (turn_fine x (g.house x) (Skulk d) m t is).0 said refl

-- ---- messages

-- the message at a place, of which none was lost
message_there : (g : Cell) (place : ℕ) (m : Message) → g.lost ≡ [] → slice_get g.bag place ≡ Some m → message_at g (suc place) ≡ Some m
message_there g place m lost there =
    let some : eqb (suc place) 0 ≡ false = grind arith in
    let at : suc place - 1 ≡ place = omega arith in
    ap (λ (b : Bool). cond (b || has (suc place) g.lost) None (slice_get g.bag (suc place - 1))) some
    ∙ ap (λ (l : List ℕ). cond (has (suc place) l) None (slice_get g.bag (suc place - 1))) lost
    ∙ ap (slice_get g.bag) at ∙ there

pub take_worked : (g : Cell) (posts : List Post) (x : ℕ) → CanAct g x → (octets answer : List ℕ) (m : Message) (t : Turn)
    → slice_get g.bag (place_of x octets posts) ≡ Some m → IsLetterOf x octets m → turns.take (g.house x) m ≡ Turns t
    → ((ns : List ℕ) → answer ≡ answer_said (t.answer ns)) → Worked g posts x (Take octets) answer t (commands.Deliver (suc (place_of x octets posts)))
take_worked g posts x can octets answer m t there letter is said =
    let n : ℕ = suc (place_of x octets posts) in
    let to : m.receiver ≡ x = letter.stands.head.receiver in
    let at : message_at g n ≡ Some m = message_there g (place_of x octets posts) m can.lost there in
    at_turn g posts x (Take octets) answer t (commands.Deliver n)
    (ap (deliver g) at
    ∙ ap (λ (h : ℕ). cond (is_down g h) (refusal_outcome g commands.Down) (at_house g h (turns.take (g.house h) m))) to
    ∙ ap (λ (b : Bool). cond b (refusal_outcome g commands.Down) (at_house g x (turns.take (g.house x) m))) (not_down g x can)
    ∙ ap (at_house g x) is) refl (turn_fine x (g.house x) (Take octets) m t is).0 said
    (ap (λ (o : Option Message). taking_seen g o (outcome g (commands.Deliver n))) at
    ∙ (λ i. turn_seen g (to i) (Take (letter_octets x octets m letter i)) (outcome g (commands.Deliver n))))

-- ---- the root

same_turn : (s t : Turn) → Turns s ≡ Turns t → s ≡ t
same_turn s t is = cc

pub root_worked : (g : Cell) (posts : List Post) (x : ℕ) → CanAct g x → (answer : List ℕ) (t : Turn) (rs ss : List ℕ)
    → g.top root_dir ≡ 0 → ((h : ℕ) → In h rs → has h g.made ≡ true) → is_bad_list (x ∷ rs) ≡ false
    → Turns (found_directory x (g.house x) root_dir (member_list_of [] 1 x rs ss)) ≡ Turns t → ((ns : List ℕ) → answer ≡ answer_said (t.answer ns))
    → Worked g posts x (Root rs ss) answer t (commands.Root x rs ss)
root_worked g posts x can answer t rs ss none made good is said =
    let ms : List Member = member_list_of [] 1 x rs ss in
    let f : Turn = found_directory x (g.house x) root_dir ms in
    let same : f ≡ t = same_turn f t is in
    let new : not (is_unknown g root_dir) ≡ false = ap (λ (n : ℕ). not (n == 0)) none in
    let can_be : outcome g (commands.Root x rs ss) ≡ root g x ms =
    not_refused g (commands.Root x rs ss) (new, (not_missing g (x ∷ rs) (with_first g x rs can.made made), (good, (not_down g x can, tt)))) in
    subst (λ (z : Turn). Worked g posts x (Root rs ss) answer z (commands.Root x rs ss)) same (record {
      o = root g x ms;
      is = can_be;
      bag = refl;
      here = put_same g.house x f.house;
      there = λ y apart. put_other g.house x f.house y apart;
      lost = refl;
      made = refl;
      knows = refl;
      turn = refl;
      said = said (serials_of g (first_joins (g.house x).floor root_dir x ms)) ∙ ap (λ (z : Turn). answer_said (z.answer (serials_of g (first_joins (g.house x).floor root_dir x ms)))) (sym same);
      seen = ap (turn_seen g x (Root rs ss)) can_be;
    })

-- ---- epochs

epoch_said : (x : ℕ) (now : House) (d k : ℕ) (ms : List Member) (left : List ℕ) (t : Turn) → turns.new_epoch x now d k ms left ≡ Turns t
    → (ns : List ℕ) → t.answer ns ≡ commands.NewEpoch k ns
epoch_said x now d k ms left t is ns = by_slot (now.slots d) is
  where
    by_test : (r : Replica) (b : Bool) → (if b then turns.turn_without_updates (turns.with_slot now d now.floor (model.Held (turns.epoch_replica k ms r)))
        (turns.epoch_posts now.floor d x k ms left r) (commands.NewEpoch k) else Stays (commands.Refused (commands.NotJoined r.epoch (since_in ms x 0)))) ≡ Turns t
        → t.answer ns ≡ commands.NewEpoch k ns
    by_test r true here = sym (ap (λ (s : HouseStep). answer_of s ns) here)
    by_test r false here = absurd (cc (here))

    by_slot : (s : Slot) → turns.new_epoch_in x now d k ms left s ≡ Turns t → t.answer ns ≡ commands.NewEpoch k ns
    by_slot model.Absent here = absurd (cc (here))
    by_slot (model.Gone e) here = absurd (cc (here))
    by_slot (model.Held r) here = by_test r (nat_le (since_in ms x 0) r.epoch) here

-- the new cell knows the epoch, and what the house answers is its number
epoch_noted : (o : Outcome) (d k : ℕ) (ms : List Member) (ns : List ℕ) → o.answer ≡ commands.NewEpoch k ns
    → with_epoch o d ms o.answer ≡ record o { cell = note_epoch o.cell d k ms }
epoch_noted o d k ms ns is = ap (with_epoch o d ms) is

pub epoch_worked : (g : Cell) (posts : List Post) (x : ℕ) → CanAct g x → (answer : List ℕ) (m : Message) (t : Turn) (d k : ℕ) (ms : List Member) (left : List ℕ)
    → IsGiven (seen_of posts g) x d k ms left → turns.new_epoch x (g.house x) d k ms left ≡ Turns t → ((ns : List ℕ) → answer ≡ answer_said (t.answer ns))
    → Worked g posts x (Epoch d k ms left) answer t (commands.Epoch d x (others_of x ms) (secondaries_of ms))
epoch_worked g posts x can answer m t d k ms left given is said =
    let rs : List ℕ = others_of x ms in
    let ss : List ℕ = secondaries_of ms in
    let c : Command = commands.Epoch d x rs ss in
    let next : ℕ = g.top d + 1 in
    let members : ms ≡ member_list_of (g.present d) next x rs ss = given.members ∙ ap (λ (n : ℕ). member_list_of (g.present d) n x rs ss) given.next in
    let leaving : left ≡ left_members (g.present d) (member_list_of (g.present d) next x rs ss) = given.leaving ∙ ap (left_members (g.present d)) members in
    let by : ℕ → List Member → List ℕ → Outcome = λ n l q. at_house g x (turns.new_epoch x (g.house x) d n l q) in
    let o : Outcome = at_house g x (Turns t) in
    let ns : List ℕ = serials_of g t.posts in
    let e : Outcome = record o { cell = note_epoch o.cell d k ms } in
    let is_e : outcome g c ≡ e =
    not_refused g c (
      known g x d can.reached (epoch_held x (g.house x) d k ms left t is),
      (
        not_missing g (x ∷ rs) (with_first g x rs can.made given.made),
        (given.good, (ap not given.listed, (not_down g x can, tt))),
      ),
    )
    ∙ sym (λ i. with_epoch (by (given.next i) (members i) (leaving i)) d (members i) (by (given.next i) (members i) (leaving i)).answer)
    ∙ ap (λ (s : HouseStep). with_epoch (at_house g x s) d ms (at_house g x s).answer) is
    ∙ epoch_noted o d k ms ns (epoch_said x (g.house x) d k ms left t is ns) in
    record {
      o = e;
      is = is_e;
      bag = refl;
      here = put_same g.house x t.house;
      there = λ y apart. put_other g.house x t.house y apart;
      lost = refl;
      made = refl;
      knows = refl;
      turn = (turn_fine x (g.house x) (Epoch d k ms left) m t is).0 ns;
      said = said ns;
      seen = (λ i. turn_seen g x (Epoch d (sym given.next i) (sym members i) (sym leaving i)) (outcome g c)) ∙ ap (turn_seen g x (Epoch d k ms left)) is_e;
    }

-- ---- children

-- a turn that accepts an update answers by a stamp
accept_stamped : (x : ℕ) (now : House) (d : ℕ) (u : Change) (t : Turn) → turns.accept x now d u ≡ Turns t
    → (s : Stamp) × ((ns : List ℕ) → t.answer ns ≡ commands.Stamped s ns)
accept_stamped x now d u t is = by_slot (now.slots d) is
  where
    by_stamp : (r : Replica) (o : Option UpdateRefusal) (n : Option Stamp) → turns.unless_refused o (turns.accept_at x now d u r n) ≡ Turns t
        → (s : Stamp) × ((ns : List ℕ) → t.answer ns ≡ commands.Stamped s ns)
    by_stamp r (Some q) n here = absurd (cc (here))
    by_stamp r None None here = absurd (cc (here))
    by_stamp r None (Some s) here = (s, λ ns. sym (ap (λ (z : HouseStep). answer_of z ns) here))

    by_slot : (s : Slot) → turns.accept_in x now d u s ≡ Turns t → (s : Stamp) × ((ns : List ℕ) → t.answer ns ≡ commands.Stamped s ns)
    by_slot model.Absent here = absurd (cc (here))
    by_slot (model.Gone e) here = absurd (cc (here))
    by_slot (model.Held r) here = by_stamp r (turns.update_refusal x u r) (turns.stamp_at now) here

-- the turn that makes the child, and the whole turn, in which its directory is made after it
record Child (x d : ℕ) (ms : List Member) (s : HouseStep) (t : Turn) : Type 0 where
  first : Turn
  is : s ≡ Turns first
  whole : record {
    house = (found_directory x first.house d ms).house;
    posts = first.posts ++ (found_directory x first.house d ms).posts;
    answer = λ ns. with_number d (first.answer ns);
    accepted = first.accepted;
  } ≡ t

child_of : (x d : ℕ) (ms : List Member) (s : HouseStep) (t : Turn) → then_found x d ms s ≡ Turns t → Child x d ms s t
child_of x d ms (Stays a) t is = absurd (cc (is))
child_of x d ms (Turns f) t is = record { first = f; is = refl; whole = same_turn _ t is }

pub mkdir_worked : (g : Cell) (posts : List Post) (x : ℕ) → CanAct g x → (answer : List ℕ) (m : Message) (t : Turn) (d : ℕ) (n : List ℕ) (made : ℕ) (rs ss : List ℕ)
    → g.next_dir ≡ made → ((h : ℕ) → In h rs → has h g.made ≡ true) → is_bad_list (x ∷ rs) ≡ false
    → order_step x (g.house x) (Mkdir d n made rs ss) m ≡ Turns t → ((ns : List ℕ) → answer ≡ answer_said (t.answer ns))
    → Worked g posts x (Mkdir d n made rs ss) answer t (commands.Mkdir x d n x rs ss)
mkdir_worked g posts x can answer m t d n made rs ss number there good is said =
    subst (λ (k : ℕ). order_step x (g.house x) (Mkdir d n k rs ss) m ≡ Turns t → Worked g posts x (Mkdir d n k rs ss) answer t (commands.Mkdir x d n x rs ss))
    number at_next is
  where
    at_next : order_step x (g.house x) (Mkdir d n g.next_dir rs ss) m ≡ Turns t → Worked g posts x (Mkdir d n g.next_dir rs ss) answer t (commands.Mkdir x d n x rs ss)
    at_next step =
        let next : ℕ = g.next_dir in
        let ms : List Member = member_list_of [] 1 x rs ss in
        let u : Change = MakeChild n (record { dir = next; master = x; others = sorted_houses rs }) in
        let child = child_of x next ms (turns.accept x (g.house x) d u) t step in
        let first : Turn = child.first in
        let stamped = accept_stamped x (g.house x) d u first child.is in
        let s : Stamp = stamped.0 in
        let o : Outcome = at_house g x (Turns first) in
        let ns : List ℕ = serials_of g first.posts in
        let c : Command = commands.Mkdir x d n x rs ss in
        let e : Outcome = with_directory o next x ms (commands.Stamped s ns) in
        let is_e : outcome g c ≡ e =
        not_refused g c (
          known g x d can.reached (accept_held x (g.house x) d u first child.is),
          (
            not_missing g (x ∷ x ∷ rs) (with_first g x (x ∷ rs) can.made (with_first g x rs can.made there)),
            (good, (ap (λ (b : Bool). b || b) (not_down g x can), tt)),
          ),
        )
        ∙ ap (λ (z : HouseStep). with_directory (at_house g x z) next x ms (at_house g x z).answer) child.is
        ∙ ap (with_directory o next x ms) (stamped.1 ns) in
        let one : put g.house x first.house x ≡ first.house = put_same g.house x first.house in
        let f : House → Turn = λ now. found_directory x now next ms in
        subst (λ (z : Turn). Worked g posts x (Mkdir d n next rs ss) answer z c) child.whole (record {
          o = e;
          is = is_e;
          bag = ap (λ (now : House). (g.bag ++ first.posts) ++ (f now).posts) one ∙ append_assoc g.bag first.posts (f first.house).posts;
          here = put_same (put g.house x first.house) x (f (put g.house x first.house x)).house ∙ ap (λ (now : House). (f now).house) one;
          there = λ y apart. put_other (put g.house x first.house) x (f (put g.house x first.house x)).house y apart ∙ put_other g.house x first.house y apart;
          lost = refl;
          made = refl;
          knows = refl;
          turn = refl;
          said = said ns ∙ ap (λ (z : Turn). answer_said (z.answer ns)) (sym child.whole)
              ∙ ap (λ (a : Answer). answer_said (with_number next a)) (stamped.1 ns);
          seen = ap (λ (b : Bool). cond b (turn_seen g x (Mkdir d n next rs ss) (outcome g c)) None) (itself x)
              ∙ ap (turn_seen g x (Mkdir d n next rs ss)) is_e;
        })
