-- A round of a skulk: who has still to answer, the answers that wait, and how the others give them.
use Rattle.std.proofs.Common.{◌≡◌, ◌≢◌, ℕ, ◌+◌, suc, ◌⊎◌, inl, inr, Bool, true, false, ◌&&◌, List, [], ◌∷◌, ◌++◌, length, refl, sym, subst}
use Rattle.std.proofs.Common.{arith, append_assoc, ⊎_elim}
use Rattle.cds_stamps.specs.Members.{Member, is_listed}
use Rattle.cell_model.specs.Cells.{Replica, Held, House, Body, Message, Cell, IsHeld}
use Rattle.cell_model.specs.Sets.{In, has}
use Rattle.cell_model.specs.Turns.{floor_after, take_and_answer, reply, to_each, all_answered, take}
use Rattle.cell_model.specs.Mending.{deliver_commands}
use Rattle.cell_model.proofs.Lists.{append_nil, has-from_In, answered_all}
use Rattle.cell_model.proofs.Deliveries.{Run, run_none, run_first, run_map, Waiting, delivered, waiting_next}
use Rattle.cell_model.proofs.Readiness.{Ready, changed, letter, held_there, ready_changed}

-- ---- who has still to answer

-- no house is there twice
abbrev pub Once : List ℕ → Type 0
Once [] = Unit {0}
Once (y ∷ ys) = (In y ys → ⊥) × Once ys

-- of the houses os these answered, and these have still to do so
pub record Left (os answered ys : List ℕ) : Type 0 where
  pub all : (x : ℕ) → In x os → In x answered ⊎ In x ys
  pub part : (x : ℕ) → In x ys → In x os
  pub apart : (x : ℕ) → In x ys → In x answered → ⊥
  pub once : Once ys

-- at first all have
pub left_all : (os : List ℕ) → Once os → Left os [] os
left_all os once = record { all = λ x i. inr i; part = λ x i. i; apart = λ x i j. elim j [ ]; once = once }

-- one answers
pub left_next : (os a : List ℕ) (y : ℕ) (ys : List ℕ) → Left os a (y ∷ ys) → Left os (y ∷ a) ys
left_next os a y ys l = record {
  all = λ x i. ⊎_elim (λ (j : In x a). inl (inr j)) (λ (j : In x (y ∷ ys)). ⊎_elim (λ (e : x ≡ y). inl (inl e)) (λ (o : In x ys). inr o) j) (l.all x i);
  part = λ x i. l.part x (inr i);
  apart = λ x i j. ⊎_elim (λ (e : x ≡ y). l.once.0 (subst (λ (z : ℕ). In z ys) e i)) (λ (o : In x a). l.apart x (inr i) o) j;
  once = l.once.1;
}

both_true : (a b : Bool) → a ≡ true → b ≡ true → (a && b) ≡ true
both_true true b e f = f
both_true false b e f = e

answered_to : (xs answered : List ℕ) → ((x : ℕ) → In x xs → In x answered) → all_answered xs answered ≡ true
answered_to [] answered f = refl
answered_to (x ∷ xs) answered f =
    both_true (has x answered) (all_answered xs answered) (has-from_In x answered (f x (inl refl))) (answered_to xs answered (λ y i. f y (inr i)))

not_so : (b : Bool) → (b ≡ true → ⊥) → b ≡ false
not_so true f = absurd (f refl)
not_so false f = refl

-- with the last of them all have answered
pub last_answers : (os a : List ℕ) (y : ℕ) → Left os a (y ∷ []) → all_answered os (y ∷ a) ≡ true
last_answers os a y l = answered_to os (y ∷ a)
    (λ x i. ⊎_elim (λ (j : In x a). inr j) (λ (j : In x (y ∷ [])). ⊎_elim (λ (e : x ≡ y). inl e) (λ (o : In x []). elim o [ ]) j) (l.all x i))

-- before, not all have
pub more_answer : (os a : List ℕ) (y y' : ℕ) (ys : List ℕ) → Left os a (y ∷ y' ∷ ys) → all_answered os (y ∷ a) ≡ false
more_answer os a y y' ys l =
    let next = left_next os a y (y' ∷ ys) l in
    not_so (all_answered os (y ∷ a)) (λ e. next.apart y' (inl refl) (answered_all os (y ∷ a) e y' (next.part y' (inl refl))))

-- ---- the answers

-- an answer of the house y to the master m
pub record IsAnswer (d m k : ℕ) (P : Body → Type 0) (y : ℕ) (z : Message) : Type 0 where
  pub floor : ℕ
  pub body : Body
  pub says : P body
  pub is : z ≡ letter d k m y floor body

-- one of each of these houses, in their order
abbrev pub AreAnswers : (d m k : ℕ) → (Body → Type 0) → List ℕ → List Message → Type 0
AreAnswers d m k P [] [] = Unit {0}
AreAnswers d m k P [] (z ∷ zs) = ⊥
AreAnswers d m k P (y ∷ ys) [] = ⊥
AreAnswers d m k P (y ∷ ys) (z ∷ zs) = IsAnswer d m k P y z × AreAnswers d m k P ys zs

-- what a house does at a message of its master with this body: it answers so, and stays at its
-- epoch and its list
pub record TakesAsk (d m k : ℕ) (ms : List Member) (ask : Body) (P : Body → Type 0) (now : House) (y floor : ℕ) : Type 0 where
  pub replica : Replica
  pub answer : Body
  pub is : take now (letter d k y m floor ask) ≡ take_and_answer now (letter d k y m floor ask) (Held replica) (reply now (letter d k y m floor ask) answer)
  pub epoch : replica.epoch ≡ k
  pub members : replica.members ≡ ms
  pub says : P answer

-- each house that holds the epoch and the list does so
abbrev pub AllTakeAsk : (d m k : ℕ) → List Member → Body → (Body → Type 0) → Type 0
AllTakeAsk d m k ms ask P =
    (now : House) (y floor : ℕ) (r : Replica) → now.slots d ≡ Held r → r.epoch ≡ k → r.members ≡ ms → TakesAsk d m k ms ask P now y floor

-- the houses have answered the master, which holds what it held: their answers wait after others
pub record Asked (d m k : ℕ) (ms : List Member) (P : Body → Type 0) (q : Replica) (ys : List ℕ) (p : ℕ) (later : List Message) (g : Cell) : Type 0 where
  pub ready : Ready d k ms g
  pub master : IsHeld g m d q
  pub replies : List Message
  pub each : AreAnswers d m k P ys replies
  pub waiting : Waiting g p (later ++ replies)

-- each of these is another house than the master, and listed
abbrev pub AreOthers : ℕ → List Member → List ℕ → Type 0
AreOthers m ms ys = (y : ℕ) → In y ys → (y ≢ m) × (is_listed y ms ≡ true)

module _ (d m k : ℕ) (ms : List Member) (ask : Body) (P : Body → Type 0) (answers : AllTakeAsk d m k ms ask P) (q : Replica) where
  asked_none : (g : Cell) (p : ℕ) (later : List Message) → Ready d k ms g → IsHeld g m d q → Waiting g p later → Asked d m k ms P q [] (p + 0) later g
  asked_none g p later s at w =
      let place : p ≡ p + 0 = omega arith in
      record {
        ready = s;
        master = at;
        replies = [];
        each = tt;
        waiting = subst (λ (n : ℕ). Waiting g n (later ++ [])) place (subst (λ (l : List Message). Waiting g p l) (sym (append_nil later)) w);
      }

  asked_more : (g : Cell) (p y floor : ℕ) (ys : List ℕ) (b : Body) (later : List Message) → P b
      → Asked d m k ms P q ys ((p + 1) + length ys) (later ++ letter d k m y floor b ∷ []) g → Asked d m k ms P q (y ∷ ys) (p + suc (length ys)) later g
  asked_more g p y floor ys b later says a =
      let place : (p + 1) + length ys ≡ p + suc (length ys) = omega arith in
      record {
        ready = a.ready;
        master = a.master;
        replies = letter d k m y floor b ∷ a.replies;
        each = (record { floor = floor; body = b; says = says; is = refl }, a.each);
        waiting = subst (λ (n : ℕ). Waiting g n (later ++ letter d k m y floor b ∷ a.replies)) place
            (subst (λ (l : List Message). Waiting g ((p + 1) + length ys) l) (append_assoc later (letter d k m y floor b ∷ []) a.replies) a.waiting);
      }

  -- where the master asked each of these, and nothing is before that, so many deliveries bring
  -- their answers
  pub asked_run : (ys : List ℕ) (g : Cell) (p floor : ℕ) (later : List Message) → AreOthers m ms ys → Ready d k ms g → IsHeld g m d q
      → Waiting g p (to_each ys d m k floor ask ++ later) → Run g (deliver_commands p (length ys)) (Asked d m k ms P q ys (p + length ys) later)
  asked_run [] g p floor later others s at w = run_none g (Asked d m k ms P q [] (p + 0) later) (asked_none g p later s at w)
  asked_run (y ∷ ys) g p floor later others s at w =
      let here = others y (inl refl) in
      let has_it = s.holds y here.1 in
      let a = answers (g.house y) y floor has_it.0 has_it.1 has_it.2 has_it.3 in
      let asks : Message = letter d k y m floor ask in
      let rest : List Message = to_each ys d m k floor ask ++ later in
      let f : ℕ = floor_after (g.house y) asks in
      let posts : List Message = letter d k m y f a.answer ∷ [] in
      let h : Cell = changed g y d f a.replica posts in
      let more = asked_run ys h (p + 1) floor (later ++ posts) (λ x i. others x (inr i))
      (ready_changed d k ms g y f a.replica posts s a.epoch a.members) (held_there g y d f a.replica posts m q (λ e. here.0 (sym e)) at)
      (subst (λ (l : List Message). Waiting h (p + 1) l) (append_assoc (to_each ys d m k floor ask) later posts)
      (waiting_next g h p asks rest posts w refl refl)) in
      run_first g _ (deliver_commands (p + 1) (length ys)) (Asked d m k ms P q (y ∷ ys) (p + suc (length ys)) later) _
      (delivered g p asks rest _ w (s.up y here.1) a.is) tt
      (run_map h (deliver_commands (p + 1) (length ys)) _ _ more (λ c z. asked_more c p y f ys a.answer later a.says z))
