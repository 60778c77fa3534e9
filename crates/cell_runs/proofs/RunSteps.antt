-- One entry more: its commands are done, and the houses of the cell are those of the entries that
-- are left.
use Rattle.std.proofs.Common.{◌≡◌, ◌≢◌, ℕ, Bool, true, false, ◌||◌, not, eqb, cond, List, [], ◌∷◌, ◌++◌, length, drop, map, Some, None, refl, sym, ap, subst, ◌∙◌, arith}
use Rattle.std.specs.Prelude.{slice_get}
use Rattle.std.specs.FinMap.{same_map}
use Rattle.std.proofs.Math.Seq.{drop-append_seam}
use Rattle.cds_messages.specs.Dirs.{dir_exact, dir_total}
use Rattle.cds_records.specs.RecordOctets.{image_octets}
use Rattle.cell_model.specs.Cells as model
use Rattle.cell_model.specs.Cells.{Cell, House, Message, put}
use Rattle.cell_model.specs.Commands as commands
use Rattle.cell_model.specs.Commands.{Answer, Command, Refusal}
use Rattle.cell_model.specs.Holdings.{NumbersHold}
use Rattle.cell_model.specs.Reached.{IsReached}
use Rattle.cell_model.specs.Sets.{In, has}
use Rattle.cell_model.specs.Steps.{Outcome, crash, is_missing, outcome, set_clock, start, stays}
use Rattle.cell_model.specs.Taking.{CanTake}
use Rattle.cell_model.specs.Turns.{Turns, Turn, crashed_house, started_house}
use Rattle.cell_model.proofs.Deliveries.{not_refused}
use Rattle.cell_model.proofs.Lists.{In-from_get, append_nil}
use Rattle.cell_model.proofs.Numbers.{numbers_lem}
use Rattle.cell_model.proofs.Standing.{can_take_lem, on_reached, reached_lem}
use Rattle.cell_model.proofs.Views.{put_other, put_same}
use Rattle.cds_cell.specs.Recorded.{image_at, kept_in}
use Rattle.cds_cell.proofs.RecordedLaws.{got_recorded}
use Rattle.cell_runs.specs.Entries.{Order, Root, Mkdir, Accept, Skulk, Epoch, Take, Post, TurnEntry, Entry, Started, Turned}
use Rattle.cell_runs.specs.HonestRuns.{HasGoodList, IsHonest, IsImageOf, IsTurnOf, at_clock, restarted_house}
use Rattle.cell_runs.specs.LineAnswers.{answer_said}
use Rattle.cell_runs.specs.OrderSteps.{ArePosts, Carries, order_step}
use Rattle.cell_runs.specs.Orders.{CanFollow, Seen, after, command_of, entries_of, place_of}
use Rattle.cell_runs.specs.Views.{image_in, is_turn, post_of, seen_at, start_seen, turn_seen}
use Rattle.cell_runs.proofs.OrderTurns.{turn_fine}
use Rattle.cell_runs.proofs.Posted.{found_at, posts_append, posts_are}
use Rattle.cell_runs.proofs.Worked.{CanAct, Worked, accept_worked, epoch_worked, mkdir_worked, root_worked, seen_of, skulk_worked, take_worked}

-- ---- entries

pub entries_here : (x : ℕ) (e : Entry) (line : List (ℕ × Entry)) → entries_of x ((x, e) ∷ line) ≡ e ∷ entries_of x line
entries_here x e line = let on : eqb x x ≡ true = grind arith in ap (λ (b : Bool). cond b (e ∷ entries_of x line) (entries_of x line)) on

pub entries_there : (x y : ℕ) (e : Entry) (line : List (ℕ × Entry)) → y ≢ x → entries_of y ((x, e) ∷ line) ≡ entries_of y line
entries_there x y e line apart =
    let off : eqb x y ≡ false = grind (arith, apart) in
    ap (λ (b : Bool). cond b (e ∷ entries_of y line) (entries_of y line)) off

-- the posts of an entry
abbrev pub posts_in : Entry → List Post
posts_in (Started image) = []
posts_in (Turned e) = e.posts

-- ---- images

-- octets that are the image of a house of the model are its image in the cell
image_is : (g : Cell) (x : ℕ) (now : House) (octets : List ℕ) → IsReached g → g.house x ≡ now → IsImageOf x now octets → image_in g x ≡ octets
image_is g x now octets reached is i =
    ap image_octets same ∙ sym i.octets_are
  where
    numbers : NumbersHold g
    numbers = on_reached NumbersHold numbers_lem g reached

    same : image_at g x ≡ i.image
    same j = record {
      house = ap (λ (n : ℕ). record { 0 = n }) (sym i.house) j;
      node = (ap (λ (h : House). h.node) is ∙ sym i.node) j;
      floor = (ap (λ (h : House). h.floor) is ∙ sym i.floor) j;
      dirs = same_map dir_total dir_exact (image_at g x).dirs i.image.dirs
          (λ q. got_recorded g numbers x q ∙ ap (λ (h : House). kept_in (h.slots q.0)) is ∙ sym (i.dirs q)) j;
    }

-- ---- what holds between entries

-- the cell after some entries, and those that are left: the messages that were posted are the
-- cell's; each house is up, and the entries that are left are those of an honest house from it on
pub record Matches (g : Cell) (posts : List Post) (line : List (ℕ × Entry)) : Type 0 where
  pub reached : IsReached g
  pub up : (x : ℕ) → has x g.made ≡ true → (g.house x).up ≡ true
  pub lost : g.lost ≡ []
  pub bag : ArePosts posts g.bag
  pub honest : (x : ℕ) → has x g.made ≡ true → IsHonest x (g.house x) (entries_of x line)
  pub others : (x : ℕ) → has x g.made ≡ false → entries_of x line ≡ []

-- two commands that an entry is: the first one is seen nowhere, and the second one is the entry
pub record EntryDone (g : Cell) (posts : List Post) (x : ℕ) (e : Entry) (line : List (ℕ × Entry)) (c d : Command) : Type 0 where
  pub middle : Cell
  pub o : Outcome
  pub first_is : outcome g c ≡ stays middle commands.Done
  pub second_is : outcome middle d ≡ o
  pub first_seen : seen_at g c ≡ None
  pub second_seen : seen_at middle d ≡ Some (x, e)
  pub done : (r : Refusal) → o.answer ≡ commands.Refused r → ⊥
  pub knows : after (seen_of posts g) x e ≡ seen_of (posts ++ posts_in e) o.cell
  pub matches : Matches o.cell (posts ++ posts_in e) line

-- a house that has an entry was made
has_entry : (g : Cell) (posts : List Post) (x : ℕ) (e : Entry) (line : List (ℕ × Entry)) → Matches g posts ((x, e) ∷ line) → has x g.made ≡ true
has_entry g posts x e line m = by (has x g.made) refl
  where
    by : (b : Bool) → has x g.made ≡ b → b ≡ true
    by true is = refl
    by false is = let z : e ∷ entries_of x line ≡ [] = sym (entries_here x e line) ∙ m.others x is in absurd (cc (z))

-- a cell after a command
reached_after : (g : Cell) (c : Command) (o : Outcome) → IsReached g → outcome g c ≡ o → IsReached o.cell
reached_after g c o reached is = subst (λ (z : Outcome). IsReached z.cell) is (reached_lem.after g c reached)

-- what holds of the house x, and of all others, holds of each
pub each : (P : ℕ → Type 0) (x : ℕ) → P x → ((y : ℕ) → y ≢ x → P y) → (y : ℕ) → P y
each P x here there y = by (eqb y x) refl
  where
    by : (b : Bool) → eqb y x ≡ b → P y
    by true on = let same : x ≡ y = grind (arith, on) in subst P same here
    by false off = there y (let z : y ≢ x = grind (arith, off) in z)

-- ---- turns

-- an answer of a turn refuses nothing
not_refusal : (a : Answer) → is_turn a ≡ true → (r : Refusal) → a ≡ commands.Refused r → ⊥
not_refusal a on r is = let z : is_turn (commands.Refused r) ≡ true = ap is_turn (sym is) ∙ on in absurd (cc (z))

-- the entry of a turn
turn_seen_as : (g : Cell) (x : ℕ) (e : TurnEntry) (o : Outcome) (posts : List Message) → (g.house x).clock ≡ e.clock → is_turn o.answer ≡ true
    → o.cell.bag ≡ g.bag ++ posts → ArePosts e.posts posts → e.answer ≡ answer_said o.answer → image_in o.cell x ≡ e.image
    → turn_seen g x e.order o ≡ Some (x, Turned e)
turn_seen_as g x e o posts clock on bag are said image =
    let posted : map post_of (drop (length g.bag) o.cell.bag) ≡ e.posts =
    ap (λ (l : List Message). map post_of (drop (length g.bag) l)) bag ∙ ap (map post_of) (drop-append_seam g.bag posts) ∙ posts_are e.posts posts are in
    ap (λ (b : Bool). cond b (Some (
      x,
      Turned (record {
        clock = (g.house x).clock;
        order = e.order;
        posts = map post_of (drop (length g.bag) o.cell.bag);
        answer = answer_said o.answer;
        image = image_in o.cell x;
      }),
    )) None) on
    ∙ (λ i. Some (x, Turned (record { clock = clock i; order = e.order; posts = posted i; answer = sym said i; image = image i })))

-- a message that an order took is at the place of its octets
abbrev pub IsThere : Cell → List Post → (x : ℕ) → Order → Message → Type 0
IsThere g posts x (Take octets) m = slice_get g.bag (place_of x octets posts) ≡ Some m
IsThere g posts x other m = Unit {0}

-- the message that an order took: any message, where it took none
pub record Choice (g : Cell) (posts : List Post) (x : ℕ) (order : Order) : Type 0 where
  pub message : Message
  pub carries : Carries x (g.house x) order message
  pub there : IsThere g posts x order message

-- some message
abbrev any_message : Message
any_message = record { receiver = 0; dir = 0; sender = 0; epoch = 0; floor = 0; body = model.Leave }

choice_of : (g : Cell) (posts : List Post) (x : ℕ) (order : Order) → IsReached g → ArePosts posts g.bag → CanFollow (seen_of posts g) x order
    → Choice g posts x order
choice_of g posts x (Root rs ss) reached bag follows = record { message = any_message; carries = tt; there = tt }
choice_of g posts x (Mkdir d n made rs ss) reached bag follows = record { message = any_message; carries = tt; there = tt }
choice_of g posts x (Accept d u) reached bag follows = record { message = any_message; carries = tt; there = tt }
choice_of g posts x (Skulk d) reached bag follows = record { message = any_message; carries = tt; there = tt }
choice_of g posts x (Epoch d k ms left) reached bag follows = record { message = any_message; carries = tt; there = tt }
choice_of g posts x (Take octets) reached bag follows =
    let f = found_at x octets posts g.bag bag follows in
    let m : Message = f.message in
    let can : CanTake (g.house m.receiver) m =
    on_reached (λ (z : Cell). In m z.bag → CanTake (z.house m.receiver) m) (λ cs. can_take_lem cs m) g reached (In-from_get m g.bag (place_of x octets posts) f.there) in
    record {
      message = m;
      carries = (f.letter, subst (λ (h : ℕ). CanTake (g.house h) m) f.letter.stands.head.receiver can);
      there = f.there;
    }

-- the command of each order is its turn
worked : (g : Cell) (posts : List Post) (x : ℕ) → CanAct g x → (order : Order) (answer : List ℕ) (t : Turn) (c : Choice g posts x order) → HasGoodList x order
    → CanFollow (seen_of posts g) x order → order_step x (g.house x) order c.message ≡ Turns t → ((ns : List ℕ) → answer ≡ answer_said (t.answer ns))
    → Worked g posts x order answer t (command_of (seen_of posts g) x order)
worked g posts x can (Root rs ss) answer t c good follows is said = root_worked g posts x can answer t rs ss follows.0 follows.1 good is said
worked g posts x can (Mkdir d n made rs ss) answer t c good follows is said =
    mkdir_worked g posts x can answer c.message t d n made rs ss follows.0 follows.1 good is said
worked g posts x can (Accept d u) answer t c good follows is said = accept_worked g posts x can answer c.message t d u is said
worked g posts x can (Skulk d) answer t c good follows is said = skulk_worked g posts x can answer c.message t d is said
worked g posts x can (Epoch d k ms left) answer t c good follows is said = epoch_worked g posts x can answer c.message t d k ms left follows is said
worked g posts x can (Take octets) answer t c good follows is said = take_worked g posts x can octets answer c.message t c.there c.carries.0 is said

-- a house that was made is not missing
not_missing_alone : (g : Cell) (x : ℕ) → has x g.made ≡ true → is_missing g (x ∷ []) ≡ false
not_missing_alone g x made = ap (λ (b : Bool). not b || false) made

-- a house that has no entry left
others_left : (g : Cell) (posts : List Post) (x : ℕ) (e : Entry) (line : List (ℕ × Entry)) → Matches g posts ((x, e) ∷ line)
    → (y : ℕ) → has y g.made ≡ false → entries_of y line ≡ []
others_left g posts x e line m =
    each (λ (y : ℕ). has y g.made ≡ false → entries_of y line ≡ []) x
    (λ none. let z : true ≡ false = sym (has_entry g posts x e line m) ∙ none in absurd (cc (z)))
    (λ y apart none. sym (entries_there x y e line apart) ∙ m.others y none)

-- what a house did before is still to be done by another one
honest_there : (g : Cell) (posts : List Post) (x : ℕ) (e : Entry) (line : List (ℕ × Entry)) → Matches g posts ((x, e) ∷ line)
    → (y : ℕ) (now : House) → y ≢ x → has y g.made ≡ true → now ≡ g.house y → IsHonest y now (entries_of y line)
honest_there g posts x e line m y now apart made is =
    subst (λ (h : House). IsHonest y h (entries_of y line)) (sym is) (subst (IsHonest y (g.house y)) (entries_there x y e line apart) (m.honest y made))

module _ (g : Cell) (posts : List Post) (x : ℕ) (e : TurnEntry) (line : List (ℕ × Entry)) (m : Matches g posts ((x, Turned e) ∷ line))
    (follows : CanFollow (seen_of posts g) x e.order) where
  made : has x g.made ≡ true
  made = has_entry g posts x (Turned e) line m

  -- the clock is set
  abbrev g1 : Cell
  g1 = set_clock g x e.clock

  clock_is : outcome g (commands.Clock x e.clock) ≡ stays g1 commands.Done
  clock_is = not_refused g (commands.Clock x e.clock) (not_missing_alone g x made, tt)

  now_is : g1.house x ≡ at_clock (g.house x) e.clock
  now_is = put_same g.house x (at_clock (g.house x) e.clock)

  can : CanAct g1 x
  can = record {
    reached = reached_after g (commands.Clock x e.clock) (stays g1 commands.Done) m.reached clock_is;
    made = made;
    up = ap (λ (h : House). h.up) now_is ∙ m.up x made;
    lost = m.lost;
  }

  own : IsHonest x (g.house x) (Turned e ∷ entries_of x line)
  own = subst (IsHonest x (g.house x)) (entries_here x (Turned e) line) (m.honest x made)

  abbrev Does : House → Message → Type 0
  Does now k = Carries x now e.order k → (t : Turn) × IsTurnOf x e (order_step x now e.order k) t × IsHonest x t.house (entries_of x line)

  choice : Choice g1 posts x e.order
  choice = choice_of g1 posts x e.order can.reached m.bag follows

  does : (t : Turn) × IsTurnOf x e (order_step x (g1.house x) e.order choice.message) t × IsHonest x t.house (entries_of x line)
  does = subst (λ (h : House). Does h choice.message) (sym now_is) (own.1 choice.message) choice.carries

  abbrev t : Turn
  t = does.0

  is_turn_of : IsTurnOf x e (order_step x (g1.house x) e.order choice.message) t
  is_turn_of = does.1

  work : Worked g1 posts x e.order e.answer t (command_of (seen_of posts g1) x e.order)
  work = worked g1 posts x can e.order e.answer t choice own.0 follows is_turn_of.step_is is_turn_of.answer

  reached_then : IsReached work.o.cell
  reached_then = reached_after g1 (command_of (seen_of posts g1) x e.order) work.o can.reached work.is

  same_there : (y : ℕ) → y ≢ x → work.o.cell.house y ≡ g.house y
  same_there y apart = work.there y apart ∙ put_other g.house x (at_clock (g.house x) e.clock) y apart

  made_before : (y : ℕ) (b : Bool) → has y work.o.cell.made ≡ b → has y g.made ≡ b
  made_before y b is = sym (ap (has y) work.made) ∙ is

  matches_then : Matches work.o.cell (posts ++ e.posts) line
  matches_then = record {
    reached = reached_then;
    up = λ y is. each (λ (y : ℕ). has y g.made ≡ true → (work.o.cell.house y).up ≡ true) x
        (λ _. ap (λ (h : House). h.up) work.here ∙ (turn_fine x (g1.house x) e.order choice.message t is_turn_of.step_is).1 ∙ can.up)
        (λ y apart there. ap (λ (h : House). h.up) (same_there y apart) ∙ m.up y there) y (made_before y true is);
    lost = work.lost ∙ m.lost;
    bag = subst (ArePosts (posts ++ e.posts)) (sym work.bag) (posts_append posts e.posts g.bag t.posts m.bag is_turn_of.posts);
    honest = λ y is. each (λ (y : ℕ). has y g.made ≡ true → IsHonest y (work.o.cell.house y) (entries_of y line)) x
        (λ _. subst (λ (h : House). IsHonest x h (entries_of x line)) (sym work.here) does.2)
        (λ y apart there. honest_there g posts x (Turned e) line m y (work.o.cell.house y) apart there (same_there y apart)) y (made_before y true is);
    others = λ y none. others_left g posts x (Turned e) line m y (made_before y false none);
  }

  pub turn_done : EntryDone g posts x (Turned e) line (commands.Clock x e.clock) (command_of (seen_of posts g) x e.order)
  turn_done = record {
    middle = g1;
    o = work.o;
    first_is = clock_is;
    second_is = work.is;
    first_seen = refl;
    second_seen = work.seen
        ∙ turn_seen_as g1 x e work.o t.posts (ap (λ (h : House). h.clock) now_is) work.turn work.bag is_turn_of.posts work.said
        (image_is work.o.cell x t.house e.image reached_then work.here is_turn_of.image);
    done = not_refusal work.o.answer work.turn;
    knows = ap (λ (s : Seen). record s { posts = posts ++ e.posts }) work.knows;
    matches = matches_then;
  }

-- ---- starts

module _ (g : Cell) (posts : List Post) (x : ℕ) (image : List ℕ) (line : List (ℕ × Entry)) (m : Matches g posts ((x, Started image) ∷ line)) where
  made_so : has x g.made ≡ true
  made_so = has_entry g posts x (Started image) line m

  abbrev down : Cell
  down = crash g x

  abbrev after_start : Outcome
  after_start = stays (start down x) commands.Done

  crash_is : outcome g (commands.Crash x) ≡ stays down commands.Done
  crash_is = not_refused g (commands.Crash x) (not_missing_alone g x made_so, (ap not (m.up x made_so), tt))

  down_is : down.house x ≡ crashed_house (g.house x)
  down_is = put_same g.house x (crashed_house (g.house x))

  start_is : outcome down (commands.Start x) ≡ after_start
  start_is =
      not_refused down (commands.Start x)
      (not_missing_alone g x made_so, (ap (λ (h : House). not (not h.up)) down_is, tt))

  then_is : after_start.cell.house x ≡ restarted_house (g.house x)
  then_is = put_same down.house x (started_house (down.house x)) ∙ ap started_house down_is

  then_there : (y : ℕ) → y ≢ x → after_start.cell.house y ≡ g.house y
  then_there y apart = put_other down.house x (started_house (down.house x)) y apart ∙ put_other g.house x (crashed_house (g.house x)) y apart

  start_own : IsHonest x (g.house x) (Started image ∷ entries_of x line)
  start_own = subst (IsHonest x (g.house x)) (entries_here x (Started image) line) (m.honest x made_so)

  start_reached : IsReached after_start.cell
  start_reached = reached_after down (commands.Start x) after_start (reached_after g (commands.Crash x) (stays down commands.Done) m.reached crash_is) start_is

  pub start_done : EntryDone g posts x (Started image) line (commands.Crash x) (commands.Start x)
  start_done = record {
    middle = down;
    o = after_start;
    first_is = crash_is;
    second_is = start_is;
    first_seen = refl;
    second_seen = ap (λ (o : Outcome). start_seen x o.cell o.answer) start_is
        ∙ ap (λ (i : List ℕ). Some (x, Started i)) (image_is after_start.cell x (restarted_house (g.house x)) image start_reached then_is start_own.0);
    done = λ r is. absurd (cc (is));
    knows = ap (λ (p : List Post). seen_of p g) (sym (append_nil posts));
    matches = record {
      reached = start_reached;
      up = each (λ (y : ℕ). has y g.made ≡ true → (after_start.cell.house y).up ≡ true) x (λ _. ap (λ (h : House). h.up) then_is)
          (λ y apart there. ap (λ (h : House). h.up) (then_there y apart) ∙ m.up y there);
      lost = m.lost;
      bag = subst (ArePosts (posts ++ [])) (sym (append_nil (g.bag ++ []))) (posts_append posts [] g.bag [] m.bag tt);
      honest = each (λ (y : ℕ). has y g.made ≡ true → IsHonest y (after_start.cell.house y) (entries_of y line)) x
          (λ _. subst (λ (h : House). IsHonest x h (entries_of x line)) (sym then_is) start_own.1)
          (λ y apart there. honest_there g posts x (Started image) line m y (after_start.cell.house y) apart there (then_there y apart));
      others = others_left g posts x (Started image) line m;
    };
  }
