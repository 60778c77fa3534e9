-- Of each house that a master heard, its question and its answer were delivered.
use Rattle.std.proofs.Common.{inl, inr, ◌≡◌, ℕ, ◌+◌, Bool, true, false, ◌||◌, not, eqb, cond, List, [], ◌∷◌, ◌++◌, Option, Some, None}
use Rattle.std.proofs.Common.{refl, sym, ap, ◌∙◌, subst, ⊎_elim, append_assoc}
use Rattle.std.specs.Option.{option_map}
use Rattle.cds_stamps.specs.declared.stamp.Stamp.{Stamp}
use Rattle.cds_stamps.specs.Members.{Member, others_of}
use Rattle.cell_model.specs.Cells.{Phase, Idle, Gathering, Spreading, Replica, Slot, Absent, Gone, Held, House, Copy, Body, Update, Gather, Gathered}
use Rattle.cell_model.specs.Cells.{Spread, SpreadAck, Advance, Join, Leave, Message, Cell, IsHeld, empty_cell, put}
use Rattle.cell_model.specs.Commands as commands
use Rattle.cell_model.specs.Commands.{Command, Answer, Taken, Complete, Accepted}
use Rattle.cell_model.specs.Completions.{CompletesBy, at_once}
use Rattle.cell_model.specs.Sets.{In, has}
use Rattle.cell_model.specs.Turns.{HouseStep, with_slot, with_marks, copy_of, to_each, first_replica, epoch_replica, crash_slot, crashed_house, started_house, floor_after, take}
use Rattle.cell_model.specs.Steps.{refusal_outcome, move_house, at_house, member_list_of, left_members, message_at, deliver, outcome, replay}
use Rattle.cell_model.specs.Agreement.{place_of}
use Rattle.cell_model.proofs.Lists.{append_nil, In-map, In-append_cases}
use Rattle.cell_model.proofs.Views.{put_at}
use Rattle.cell_model.proofs.Rows as rows
use Rattle.cell_model.proofs.Rows.{Row, Own}
use Rattle.cell_model.proofs.Moves.{Act, accepts, skulks, lone, completes, Move, stays, houses, clocks, loses, crashes, starts, acts, founds, crowns, Steps, one, mkdirs}
use Rattle.cell_model.proofs.Moves.{new_marks, message_posted, outcome_steps}
use Rattle.cell_model.proofs.Answering.{IsPlain, said, taken_by}
use Rattle.cell_model.proofs.Completing.{answers_lem}
use Rattle.cell_model.proofs.Runs.{replay-append}
use Rattle.fair_runs.specs.Needs.{WasDelivered, HasAnswered, SkulkNeeds}

-- of the first round: the question was delivered, and the answer
pub record Gave (past : List Command) (d h y : ℕ) (t : Stamp) : Type 0 where
  pub gather : WasDelivered [] past d h y (Gather t)
  pub copy : Copy
  pub gathered : WasDelivered [] past d y h (Gathered t copy)

-- and of the second
pub record Confirmed (past : List Command) (d h y : ℕ) (t : Stamp) : Type 0 where
  pub copy : Copy
  pub spread : WasDelivered [] past d h y (Spread t copy)
  pub ack : WasDelivered [] past d y h (SpreadAck t)

-- so it is of each house that is noted in a phase, and in the second round of each other member in
-- the first
abbrev OfPhase : List Command → (d h : ℕ) → List Member → Phase → Type 0
OfPhase past d h ms Idle = Unit {0}
OfPhase past d h ms (Gathering t a) = (y : ℕ) → In y a → Gave past d h y t
OfPhase past d h ms (Spreading t a) = ((y : ℕ) → In y (others_of h ms) → Gave past d h y t) × ((y : ℕ) → In y a → Confirmed past d h y t)

abbrev OfSlot : List Command → (d h : ℕ) → Slot → Type 0
OfSlot past d h Absent = Unit {0}
OfSlot past d h (Gone e) = Unit {0}
OfSlot past d h (Held r) = OfPhase past d h r.members r.phase

-- the question to an answer was delivered
abbrev OfBody : List Command → Message → Body → Type 0
OfBody past m (Update marks) = Unit {0}
OfBody past m (Gather t) = Unit {0}
OfBody past m (Gathered t copy) = WasDelivered [] past m.dir m.receiver m.sender (Gather t)
OfBody past m (Spread t copy) = Unit {0}
OfBody past m (SpreadAck t) = (copy : Copy) × WasDelivered [] past m.dir m.receiver m.sender (Spread t copy)
OfBody past m (Advance t) = Unit {0}
OfBody past m (Join ms copy) = Unit {0}
OfBody past m Leave = Unit {0}

abbrev OfPosts : List Command → List Message → Type 0
OfPosts past ms = (m : Message) → In m ms → OfBody past m m.body

-- so it is of all houses and messages
record Kept (past : List Command) (g : Cell) : Type 0 where
  houses : (x d : ℕ) → OfSlot past d x ((g.house x).slots d)
  messages : OfPosts past g.bag

-- ---- after one command more

later : (past : List Command) (c : Command) (d x y : ℕ) (b : Body) → WasDelivered [] past d x y b → WasDelivered [] (past ++ c ∷ []) d x y b
later past c d x y b w = record {
  message = w.message;
  dir = w.dir;
  sender = w.sender;
  receiver = w.receiver;
  body = w.body;
  delivered = record {
    past = w.delivered.past;
    serial = w.delivered.serial;
    left = w.delivered.left ++ c ∷ [];
    parts = sym (append_assoc w.delivered.past (commands.Deliver w.delivered.serial ∷ w.delivered.left) (c ∷ []))
        ∙ ap (λ (l : List Command). l ++ c ∷ []) w.delivered.parts;
    message = w.delivered.message;
    up = w.delivered.up;
    replica = w.delivered.replica;
    held = w.delivered.held;
    epoch = w.delivered.epoch;
  };
}

gave_later : (past : List Command) (c : Command) (d h y : ℕ) (t : Stamp) → Gave past d h y t → Gave (past ++ c ∷ []) d h y t
gave_later past c d h y t w = record {
  gather = later past c d h y (Gather t) w.gather;
  copy = w.copy;
  gathered = later past c d y h (Gathered t w.copy) w.gathered;
}

confirmed_later : (past : List Command) (c : Command) (d h y : ℕ) (t : Stamp) → Confirmed past d h y t → Confirmed (past ++ c ∷ []) d h y t
confirmed_later past c d h y t w = record {
  copy = w.copy;
  spread = later past c d h y (Spread t w.copy) w.spread;
  ack = later past c d y h (SpreadAck t) w.ack;
}

phase_later : (past : List Command) (c : Command) (d h : ℕ) (ms : List Member) (f : Phase) → OfPhase past d h ms f → OfPhase (past ++ c ∷ []) d h ms f
phase_later past c d h ms Idle w = tt
phase_later past c d h ms (Gathering t a) w = λ y i. gave_later past c d h y t (w y i)
phase_later past c d h ms (Spreading t a) w = (λ y i. gave_later past c d h y t (w.0 y i), λ y i. confirmed_later past c d h y t (w.1 y i))

slot_later : (past : List Command) (c : Command) (d h : ℕ) (s : Slot) → OfSlot past d h s → OfSlot (past ++ c ∷ []) d h s
slot_later past c d h Absent w = tt
slot_later past c d h (Gone e) w = tt
slot_later past c d h (Held r) w = phase_later past c d h r.members r.phase w

body_later : (past : List Command) (c : Command) (m : Message) (b : Body) → OfBody past m b → OfBody (past ++ c ∷ []) m b
body_later past c m (Update marks) w = tt
body_later past c m (Gather t) w = tt
body_later past c m (Gathered t copy) w = later past c m.dir m.receiver m.sender (Gather t) w
body_later past c m (Spread t copy) w = tt
body_later past c m (SpreadAck t) w = (w.0, later past c m.dir m.receiver m.sender (Spread t w.0) w.1)
body_later past c m (Advance t) w = tt
body_later past c m (Join ms copy) w = tt
body_later past c m Leave w = tt

kept_later : (past : List Command) (c : Command) (g : Cell) → Kept past g → Kept (past ++ c ∷ []) g
kept_later past c g k = record {
  houses = λ x d. slot_later past c d x ((g.house x).slots d) (k.houses x d);
  messages = λ m i. body_later past c m m.body (k.messages m i);
}

-- ---- a change of a house, and posts

none : (past : List Command) → OfPosts past []
none past m i = elim i [ ]

both : (past : List Command) (xs ys : List Message) → OfPosts past xs → OfPosts past ys → OfPosts past (xs ++ ys)
both past xs ys l r m i = ⊎_elim (λ a. l m a) (λ b. r m b) (In-append_cases m xs ys i)

each : (past : List Command) (rs : List ℕ) (d sender epoch floor : ℕ) (b : Body) → ((m : Message) → OfBody past m b)
    → OfPosts past (to_each rs d sender epoch floor b)
each past rs d sender epoch floor b fine m i =
    let f : ℕ → Message = λ x. record { receiver = x; dir = d; sender = sender; epoch = epoch; floor = floor; body = b } in
    let w = In-map f m rs i in subst (λ (z : Message). OfBody past z z.body) (sym w.2) (fine (f w.0))

moved : (past : List Command) (g : Cell) (h d floor : ℕ) (s : Slot) (posts : List Message) → Kept past g → OfSlot past d h s → OfPosts past posts
    → Kept past (move_house g h (with_slot (g.house h) d floor s) posts)
moved past g h d floor s posts k slot fine = record {
  houses = put_at (λ x (v : House). (e : ℕ) → OfSlot past e x (v.slots e)) g.house h (with_slot (g.house h) d floor s)
      (put_at (λ e (v : Slot). OfSlot past e h v) (g.house h).slots d s slot (λ e _. k.houses h e)) (λ x _ e. k.houses x e);
  messages = both past g.bag posts k.messages fine;
}

-- a house that holds what it held, in all but its marks and its AllUpTo
old : (past : List Command) (g : Cell) (h d : ℕ) (r : Replica) → Kept past g → IsHeld g h d r → OfPhase past d h r.members r.phase
old past g h d r k at = subst (λ (s : Slot). OfSlot past d h s) at (k.houses h d)

-- ---- a command that is no delivery

act_kept : (past : List Command) (g : Cell) (h d floor : ℕ) (s : Slot) (posts : List Message) (a : Answer) (n : List Accepted) → Act g h d floor s posts a n
    → ((ns : List ℕ) → a ≡ Taken ns → ⊥) → Kept past g → Kept past (move_house g h (with_slot (g.house h) d floor s) posts)
act_kept past g h d floor s posts a n (accepts _ _ u r st ns i ok) untaken k =
    moved past g h d floor s posts k (old past g h d r k i.held)
    (each past (others_of h r.members) d h r.epoch st.time (Update (new_marks r u st)) (λ m. tt))
act_kept past g h d floor s posts a n (skulks _ _ r t ns i master) untaken k =
    moved past g h d floor s posts k (λ y e. elim e [ ]) (each past (others_of h r.members) d h r.epoch t.time (Gather t) (λ m. tt))
act_kept past g h d floor s posts a n (lone _ _ r t i master alone) untaken k = moved past g h d floor s posts k tt (none past)
act_kept past g h d floor s posts a n (completes m t b r ns i run all) untaken k =
    moved past g h d floor s posts k tt (each past (others_of m.receiver r.members) m.dir m.receiver r.epoch (floor_after (g.house m.receiver) m) (Advance t) (λ z. tt))
act_kept past g h d floor s posts a n _ untaken k = absurd (untaken _ refl)

crashed : (past : List Command) (d h : ℕ) (s : Slot) → OfSlot past d h (crash_slot s)
crashed past d h Absent = tt
crashed past d h (Gone e) = tt
crashed past d h (Held r) = tt

-- houses that have what they had
same_slots : (past : List Command) (g : Cell) (h : ℕ) (v : House) → Kept past g → ((e : ℕ) → OfSlot past e h (v.slots e)) → (x e : ℕ)
    → OfSlot past e x ((put g.house h v x).slots e)
same_slots past g h v k new = put_at (λ x (v : House). (e : ℕ) → OfSlot past e x (v.slots e)) g.house h v new (λ x _ e. k.houses x e)

move_kept : (past : List Command) (g g' : Cell) (p : Option (ℕ × ℕ)) (a : Answer) (n : List Accepted) → Move g p g' a n
    → ((ns : List ℕ) → a ≡ Taken ns → ⊥) → Kept past g → Kept past g'
move_kept past g g' p a n (stays _ q) untaken k = k
move_kept past g g' p a n (houses h node new) untaken k = record {
  houses = same_slots past g h (record { node = node; clock = 0; floor = 0; up = true; slots = λ e. Absent }) k (λ e. tt);
  messages = k.messages;
}
move_kept past g g' p a n (clocks h time made) untaken k = record {
  houses = same_slots past g h (record (g.house h) { clock = time }) k (λ e. k.houses h e);
  messages = k.messages;
}
move_kept past g g' p a n (loses x) untaken k = record { houses = k.houses; messages = k.messages }
move_kept past g g' p a n (crashes h up) untaken k = record {
  houses = same_slots past g h (crashed_house (g.house h)) k (λ e. crashed past e h ((g.house h).slots e));
  messages = both past g.bag [] k.messages (none past);
}
move_kept past g g' p a n (starts h made) untaken k = record {
  houses = same_slots past g h (started_house (g.house h)) k (λ e. k.houses h e);
  messages = both past g.bag [] k.messages (none past);
}
move_kept past g g' p a n (acts h d _ floor s posts _ _ act) untaken k = act_kept past g h d floor s posts a n act untaken k
move_kept past g g' p a n (founds d m rs ss ns root up new) untaken k =
    let ms : List Member = member_list_of [] 1 m rs ss in
    let w = moved past g m d (g.house m).floor (Held (first_replica ms)) (to_each (others_of m ms) d m 1 (g.house m).floor (Join ms (copy_of (first_replica ms)))) k tt
    (each past (others_of m ms) d m 1 (g.house m).floor (Join ms (copy_of (first_replica ms))) (λ z. tt)) in
    record { houses = w.houses; messages = w.messages }
move_kept past g g' p a n (crowns d m rs ss r up known held listed since) untaken k =
    let e : ℕ = g.top d + 1 in
    let ms : List Member = member_list_of (g.present d) e m rs ss in
    let out : List ℕ = left_members (g.present d) ms in
    let told : List Message = to_each (others_of m ms) d m e (g.house m).floor (Join ms (copy_of r)) in
    let w = moved past g m d (g.house m).floor (Held (epoch_replica e ms r)) (told ++ to_each out d m e (g.house m).floor Leave) k tt
    (both past told (to_each out d m e (g.house m).floor Leave) (each past (others_of m ms) d m e (g.house m).floor (Join ms (copy_of r)) (λ z. tt))
    (each past out d m e (g.house m).floor Leave (λ z. tt))) in
    record { houses = w.houses; messages = w.messages }

steps_kept : (past : List Command) (g g' : Cell) (p : Option (ℕ × ℕ)) (a : Answer) (n : List Accepted) → Steps g p g' a n
    → ((ns : List ℕ) → a ≡ Taken ns → ⊥) → Kept past g → Kept past g'
steps_kept past g g' p a n (one _ _ _ move) untaken k = move_kept past g g' p a n move untaken k
steps_kept past g g' p a n (mkdirs h d m u rs ss r s ns _ i ok up known) untaken k =
    let ms : List Member = member_list_of [] 1 m rs ss in
    let marks = new_marks r u s in
    let posts : List Message = to_each (others_of h r.members) d h r.epoch s.time (Update marks) in
    let mid : Cell = move_house g h (with_slot (g.house h) d s.time (Held (with_marks r marks))) posts in
    let w = moved past g h d s.time (Held (with_marks r marks)) posts k (old past g h d r k i.held)
    (each past (others_of h r.members) d h r.epoch s.time (Update marks) (λ z. tt)) in
    let v = moved past mid m g.next_dir (mid.house m).floor (Held (first_replica ms))
    (to_each (others_of m ms) g.next_dir m 1 (mid.house m).floor (Join ms (copy_of (first_replica ms)))) w tt
    (each past (others_of m ms) g.next_dir m 1 (mid.house m).floor (Join ms (copy_of (first_replica ms))) (λ z. tt)) in
    record { houses = v.houses; messages = v.messages }

-- ---- a delivery

module _ (past : List Command) (n : ℕ) (m : Message) (at : message_at (replay past) n ≡ Some m) (up : ((replay past).house m.receiver).up ≡ true)
    (k : Kept (past ++ commands.Deliver n ∷ []) (replay past)) where
  abbrev next : List Command
  next = past ++ commands.Deliver n ∷ []

  abbrev now : House
  now = (replay past).house m.receiver

  -- the message itself
  this : (b : Body) (r : Replica) → Own now m b r → WasDelivered [] (past ++ commands.Deliver n ∷ []) m.dir m.sender m.receiver b
  this b r own = record {
    message = m;
    dir = refl;
    sender = refl;
    receiver = refl;
    body = own.is;
    delivered = record { past = past; serial = n; left = []; parts = refl; message = at; up = up; replica = r; held = own.held; epoch = sym own.epoch };
  }

  posted : In m (replay past).bag
  posted = message_posted (replay past) n ((eqb n 0) || has n (replay past).lost) m at

  question : (b : Body) → m.body ≡ b → OfBody (past ++ commands.Deliver n ∷ []) m b
  question b is = subst (λ (z : Body). OfBody (past ++ commands.Deliver n ∷ []) m z) is (k.messages m posted)

  -- a house that is heard in the first round
  gave : (t : Stamp) (copy : Copy) (r : Replica) (y : ℕ) → Own now m (Gathered t copy) r → y ≡ m.sender
      → Gave (past ++ commands.Deliver n ∷ []) m.dir m.receiver y t
  gave t copy r y own e =
      let w : Gave (past ++ commands.Deliver n ∷ []) m.dir m.receiver m.sender t =
      record { gather = question (Gathered t copy) own.is; copy = copy; gathered = this (Gathered t copy) r own } in
      subst (λ (z : ℕ). Gave (past ++ commands.Deliver n ∷ []) m.dir m.receiver z t) (sym e) w

  -- and in the second
  confirmed : (t : Stamp) (r : Replica) (y : ℕ) → Own now m (SpreadAck t) r → y ≡ m.sender → Confirmed (past ++ commands.Deliver n ∷ []) m.dir m.receiver y t
  confirmed t r y own e =
      let q : (copy : Copy) × WasDelivered [] (past ++ commands.Deliver n ∷ []) m.dir m.receiver m.sender (Spread t copy) = question (SpreadAck t) own.is in
      let w : Confirmed (past ++ commands.Deliver n ∷ []) m.dir m.receiver m.sender t = record { copy = q.0; spread = q.1; ack = this (SpreadAck t) r own } in
      subst (λ (z : ℕ). Confirmed (past ++ commands.Deliver n ∷ []) m.dir m.receiver z t) (sym e) w

  -- what was noted before
  noted : (f : Phase) (r : Replica) → now.slots m.dir ≡ Held r → r.phase ≡ f → OfPhase (past ++ commands.Deliver n ∷ []) m.dir m.receiver r.members f
  noted f r held run =
      subst (λ (z : Phase). OfPhase (past ++ commands.Deliver n ∷ []) m.dir m.receiver r.members z) run
      (old (past ++ commands.Deliver n ∷ []) (replay past) m.receiver m.dir r k held)

  -- each that is noted in the first round, the sender too
  gave_all : (t : Stamp) (copy : Copy) (a : List ℕ) (r : Replica) → Own now m (Gathered t copy) r → r.phase ≡ Gathering t a → (y : ℕ) → In y (m.sender ∷ a)
      → Gave (past ++ commands.Deliver n ∷ []) m.dir m.receiver y t
  gave_all t copy a r own run y i = ⊎_elim (λ e. gave t copy r y own e) (λ was. noted (Gathering t a) r own.held run y was) i

  confirmed_all : (t : Stamp) (a : List ℕ) (r : Replica) → Own now m (SpreadAck t) r → r.phase ≡ Spreading t a → (y : ℕ) → In y (m.sender ∷ a)
      → Confirmed (past ++ commands.Deliver n ∷ []) m.dir m.receiver y t
  confirmed_all t a r own run y i = ⊎_elim (λ e. confirmed t r y own e) (λ was. (noted (Spreading t a) r own.held run).1 y was) i

  abbrev KeptBy : HouseStep → Type 0
  KeptBy s = Kept (past ++ commands.Deliver n ∷ []) (at_house (replay past) m.receiver s).cell

  -- the receiver changes, and posts
  to : (s : Slot) (posts : List Message) → OfSlot (past ++ commands.Deliver n ∷ []) m.dir m.receiver s → OfPosts (past ++ commands.Deliver n ∷ []) posts
      → Kept (past ++ commands.Deliver n ∷ []) (move_house (replay past) m.receiver (with_slot now m.dir (floor_after now m) s) posts)
  to s posts slot fine = moved (past ++ commands.Deliver n ∷ []) (replay past) m.receiver m.dir (floor_after now m) s posts k slot fine

  -- what it tells each other member
  told : (r : Replica) (b : Body) → ((z : Message) → OfBody (past ++ commands.Deliver n ∷ []) z b)
      → OfPosts (past ++ commands.Deliver n ∷ []) (to_each (others_of m.receiver r.members) m.dir m.receiver r.epoch (floor_after now m) b)
  told r b fine = each (past ++ commands.Deliver n ∷ []) (others_of m.receiver r.members) m.dir m.receiver r.epoch (floor_after now m) b fine

  -- its answer
  one_post : (z : Message) → OfBody (past ++ commands.Deliver n ∷ []) z z.body → OfPosts (past ++ commands.Deliver n ∷ []) (z ∷ [])
  one_post z fine y (inl e) = subst (λ (v : Message). OfBody (past ++ commands.Deliver n ∷ []) v v.body) (sym e) fine
  one_post z fine y (inr i) = elim i [ ]

  row_kept : (s : HouseStep) → Row now m s → KeptBy s
  row_kept s (rows.passes a p) = k
  row_kept s (rows.unlisted q e ep lacks) = k
  row_kept s (rows.outside ms copy b lacks) = k
  row_kept s (rows.updates marks q own) = to (Held (with_marks q marks)) [] (noted q.phase q own.held refl) (none _)
  row_kept s (rows.gives t q own) = to (Held q) _ (noted q.phase q own.held refl) (one_post _ (this (Gather t) q own))
  row_kept s (rows.gathers t copy a q own run) = to _ [] (gave_all t copy a q own run) (none _)
  row_kept s (rows.turns t copy a q own run all) =
      to _ _ (λ y i. gave_all t copy a q own run y (all y i), λ y i. elim i [ ]) (told q _ (λ z. tt))
  row_kept s (rows.gathers_again t copy a q own run) = to _ [] (noted q.phase q own.held refl) (none _)
  row_kept s (rows.spreads t copy q own) = to _ _ (noted q.phase q own.held refl) (one_post _ (copy, this (Spread t copy) q own))
  row_kept s (rows.acks_early t a q own run) = to (Held q) [] (noted q.phase q own.held refl) (none _)
  row_kept s (rows.acks t a q own run) =
      to _ [] ((noted (Spreading t a) q own.held run).0, confirmed_all t a q own run) (none _)
  row_kept s (rows.completes t a q own run all) = to _ _ tt (told q (Advance t) (λ z. tt))
  row_kept s (rows.advances t q own) = to _ [] (noted q.phase q own.held refl) (none _)
  row_kept s (rows.copies ms copy own low) = to _ [] tt (none _)
  row_kept s (rows.keeps ms copy q own held le since) = to _ [] tt (none _)
  row_kept s (rows.leaves own low) = to _ [] tt (none _)

  -- where it completes a skulk
  row_needs : (s : HouseStep) → Row now m s → (r : Replica) (t : Stamp) (ns : List ℕ) → (at_house (replay past) m.receiver s).answer ≡ Complete t ns
      → now.slots m.dir ≡ Held r → (y : ℕ) → In y (others_of m.receiver r.members) → HasAnswered (past ++ commands.Deliver n ∷ []) m.dir m.receiver y t
  row_needs s (rows.passes a p) r t ns e held y i = elim (subst rows.IsPassed e p) [ ]
  row_needs s (rows.completes u a q own run all) r t ns e held y i =
      let is : u ≡ t = cc in
      let slots : Held r ≡ Held q = sym held ∙ own.held in
      let same : r ≡ q = cc in
      let i' = subst (λ (z : Replica). In y (others_of m.receiver z.members)) same i in
      let first = (noted (Spreading u a) q own.held run).0 y i' in
      let second = confirmed_all u a q own run y (all y i') in
      let w : HasAnswered (past ++ commands.Deliver n ∷ []) m.dir m.receiver y u = record {
        gather = first.gather;
        first = first.copy;
        gathered = first.gathered;
        second = second.copy;
        spread = second.spread;
        ack = second.ack;
      } in
      subst (λ (z : Stamp). HasAnswered (past ++ commands.Deliver n ∷ []) m.dir m.receiver y z) is w
  row_needs s _ r t ns e held y i = absurd (cc)

deliver_kept : (past : List Command) (n : ℕ) → Kept (past ++ commands.Deliver n ∷ []) (replay past)
    → Kept (past ++ commands.Deliver n ∷ []) (outcome (replay past) (commands.Deliver n)).cell
deliver_kept past n k = by_message (message_at (replay past) n) refl
  where
    by_message : (o : Option Message) → message_at (replay past) n ≡ o → Kept (past ++ commands.Deliver n ∷ []) (deliver (replay past) o).cell
    by_message None e = k
    by_message (Some m) e = by_down ((replay past).house m.receiver).up refl
      where
        by_down : (b : Bool) → ((replay past).house m.receiver).up ≡ b
            → Kept (past ++ commands.Deliver n ∷ [])
            (cond (not b) (refusal_outcome (replay past) commands.Down) (at_house (replay past) m.receiver (take ((replay past).house m.receiver) m))).cell
        by_down false up = k
        by_down true up = row_kept past n m e up k (take ((replay past).house m.receiver) m) (rows.take_row ((replay past).house m.receiver) m)

deliver_needs : (past : List Command) (n : ℕ) → Kept (past ++ commands.Deliver n ∷ []) (replay past) → SkulkNeeds past (commands.Deliver n)
deliver_needs past n k h d r t ns answer place at y i = by_message (message_at (replay past) n) refl answer
  where
    by_message : (o : Option Message) → message_at (replay past) n ≡ o → (deliver (replay past) o).answer ≡ Complete t ns
        → HasAnswered (past ++ commands.Deliver n ∷ []) d h y t
    by_message None e q = absurd (cc)
    by_message (Some m) e q = by_down ((replay past).house m.receiver).up refl q
      where
        there : ◌≡◌ {A = Option (ℕ × ℕ)} (Some (m.receiver, m.dir)) (Some (h, d))
        there = sym (ap (λ (o : Option Message). option_map (λ (m : Message). (m.receiver, m.dir)) o) e) ∙ place

        to : m.receiver ≡ h
        to = ap (λ (o : Option (ℕ × ℕ)). elim o [ None ↦ h | Some z ↦ z.0 ]) there

        dir : m.dir ≡ d
        dir = ap (λ (o : Option (ℕ × ℕ)). elim o [ None ↦ d | Some z ↦ z.1 ]) there

        held : ((replay past).house m.receiver).slots m.dir ≡ Held r
        held = ap (λ (z : ℕ). ((replay past).house z).slots m.dir) to ∙ ap ((replay past).house h).slots dir ∙ at

        among : In y (others_of m.receiver r.members)
        among = subst (λ (z : ℕ). In y (others_of z r.members)) (sym to) i

        by_down : (b : Bool) → ((replay past).house m.receiver).up ≡ b
            → (cond (not b) (refusal_outcome (replay past) commands.Down) (at_house (replay past) m.receiver (take ((replay past).house m.receiver) m))).answer
            ≡ Complete t ns → HasAnswered (past ++ commands.Deliver n ∷ []) d h y t
        by_down false up q2 = absurd (cc)
        by_down true up q2 =
            subst (λ (z : ℕ). HasAnswered (past ++ commands.Deliver n ∷ []) z h y t) dir
            (subst (λ (z : ℕ). HasAnswered (past ++ commands.Deliver n ∷ []) m.dir z y t) to
            (row_needs past n m e up k _ (rows.take_row ((replay past).house m.receiver) m) r t ns q2 held y among))

-- ---- whole runs

other_kept : (past : List Command) (c : Command) → ((n : ℕ) → c ≡ commands.Deliver n → ⊥) → Kept (past ++ c ∷ []) (replay past)
    → Kept (past ++ c ∷ []) (outcome (replay past) c).cell
other_kept past c other k =
    let g : Cell = replay past in
    steps_kept (past ++ c ∷ []) g (outcome g c).cell (place_of g c) (outcome g c).answer (outcome g c).accepted (outcome_steps g c)
    (λ ns e. let w = taken_by g c ns e in other w.0 w.1) k

command_kept : (past : List Command) (c : Command) → Kept (past ++ c ∷ []) (replay past) → Kept (past ++ c ∷ []) (outcome (replay past) c).cell
command_kept past (commands.Deliver n) k = deliver_kept past n k
command_kept past c k = other_kept past c (λ n e. absurd (cc)) k

kept_run : (cs past : List Command) → Kept past (replay past) → Kept (past ++ cs) (replay (past ++ cs))
kept_run [] past k = subst (λ (l : List Command). Kept l (replay l)) (sym (append_nil past)) k
kept_run (c ∷ cs) past k =
    let here = command_kept past c (kept_later past c (replay past) k) in
    let here' = subst (λ (g : Cell). Kept (past ++ c ∷ []) g) (sym (replay-append past (c ∷ []) empty_cell)) here in
    subst (λ (l : List Command). Kept l (replay l)) (append_assoc past (c ∷ []) cs) (kept_run cs (past ++ c ∷ []) here')

kept_all : (past : List Command) → Kept past (replay past)
kept_all past = kept_run past [] (record { houses = λ x d. tt; messages = none [] })

-- a master that is alone has nobody to ask
skulk_needs : (past : List Command) (x e h d : ℕ) (r : Replica) (t : Stamp) (y : ℕ) → CompletesBy (replay past) t (commands.Skulk x e)
    → ◌≡◌ {A = Option (ℕ × ℕ)} (Some (x, e)) (Some (h, d)) → IsHeld (replay past) h d r → In y (others_of h r.members) → HasAnswered (past ++ commands.Skulk x e ∷ []) d h y t
skulk_needs past x e h d r t y (at_once _ _ w) place at i =
    let to : x ≡ h = ap (λ (o : Option (ℕ × ℕ)). elim o [ None ↦ h | Some z ↦ z.0 ]) place in
    let dir : e ≡ d = ap (λ (o : Option (ℕ × ℕ)). elim o [ None ↦ d | Some z ↦ z.1 ]) place in
    let slots : Held w.replica ≡ Held r =
    sym w.held ∙ ap (λ (z : ℕ). ((replay past).house z).slots e) to ∙ ap ((replay past).house h).slots dir ∙ at in
    let same : w.replica ≡ r = cc in
    let alone : others_of h r.members ≡ [] =
    ap (λ (v : Replica). others_of h v.members) (sym same) ∙ ap (λ (z : ℕ). others_of z w.replica.members) (sym to) ∙ w.none in
    elim (subst (λ (l : List ℕ). In y l) alone i) [ ]

-- after any commands, for any one
pub skulk_needs_lem : (past : List Command) (c : Command) → SkulkNeeds past c
skulk_needs_lem past (commands.Deliver n) = deliver_needs past n (kept_later past (commands.Deliver n) (replay past) (kept_all past))
skulk_needs_lem past (commands.Skulk x e) =
    λ h d r t ns answer place at y i. skulk_needs past x e h d r t y ((answers_lem past (commands.Skulk x e)).completes t ns answer) place at i
skulk_needs_lem past c = λ h d r t ns answer place at y i. elim (subst IsPlain answer (said (replay past) c)) [ ]
