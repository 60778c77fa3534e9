-- Lists of commands that work one after the other, and messages that are delivered in the order in
-- which they were posted.
use Rattle.std.proofs.Common.{◌≡◌, ℕ, ◌+◌, ◌-◌, ◌<◌, inl, inr, Bool, true, false, ◌||◌, not, eqb, cond, List, [], ◌∷◌, ◌++◌, length, Option, Some, None}
use Rattle.std.proofs.Common.{refl, sym, ap, ◌∙◌, subst, arith, append_assoc, length-append, zero, suc}
use Rattle.std.specs.Prelude.{slice_get}
use Rattle.cds_stamps.specs.declared.stamp.Stamp.{Stamp}
use Rattle.cell_model.specs.Sets.{In, has}
use Rattle.cell_model.specs.Cells.{Message, Cell}
use Rattle.cell_model.specs.Commands as commands
use Rattle.cell_model.specs.Commands.{Command, Refusal, Answer, Complete, Deliver}
use Rattle.cell_model.specs.Turns.{HouseStep, take}
use Rattle.cell_model.specs.Steps.{Outcome, first_refusal, unless, refusal_outcome, refusals_of, effect, outcome, at_house, message_at, deliver}
use Rattle.cell_model.specs.Steps.{replay_from, answers_from}
use Rattle.cell_model.specs.Agreement.{place_of}
use Rattle.cell_model.specs.Mending.{deliver_commands, HasWorked, Completes}
use Rattle.cell_model.proofs.Runs.{replay-append}

-- ---- lists of commands

-- each of the commands works
abbrev pub Works : Cell → List Command → Type 0
Works g cs = (a : Answer) → In a (answers_from g cs) → HasWorked a

-- each of the commands works, and they lead to a cell of which this holds
pub record Run (g : Cell) (cs : List Command) (S : Cell → Type 0) : Type 0 where
  pub works : Works g cs
  pub state : S (replay_from g cs)

-- no command
pub run_none : (g : Cell) (S : Cell → Type 0) → S g → Run g [] S
run_none g S s = record { works = λ a i. elim i [ ]; state = s }

works_first : (g : Cell) (c : Command) (cs : List Command) → HasWorked (outcome g c).answer → Works (outcome g c).cell cs → Works g (c ∷ cs)
works_first g c cs w v a (inl e) = subst HasWorked (sym e) w
works_first g c cs w v a (inr i) = v a i

works_append : (cs ds : List Command) (g : Cell) → Works g cs → Works (replay_from g cs) ds → Works g (cs ++ ds)
works_append [] ds g u v a i = v a i
works_append (c ∷ cs) ds g u v a (inl e) = u a (inl e)
works_append (c ∷ cs) ds g u v a (inr i) = works_append cs ds (outcome g c).cell (λ b j. u b (inr j)) v a i

-- where all of the commands work, the later ones do
pub works_behind : (cs ds : List Command) (g : Cell) → Works g (cs ++ ds) → Works (replay_from g cs) ds
works_behind [] ds g w a i = w a i
works_behind (c ∷ cs) ds g w a i = works_behind cs ds (outcome g c).cell (λ b j. w b (inr j)) a i

-- a command that works, and then others
pub run_first : (g : Cell) (c : Command) (cs : List Command) (S : Cell → Type 0) (o : Outcome) → outcome g c ≡ o → HasWorked o.answer → Run o.cell cs S
    → Run g (c ∷ cs) S
run_first g c cs S o e w r =
    let here = subst (λ (z : Outcome). Run z.cell cs S) (sym e) r in
    record { works = works_first g c cs (subst (λ (z : Outcome). HasWorked z.answer) (sym e) w) here.works; state = here.state }

-- one list after the other
pub run_append : (g : Cell) (cs ds : List Command) (S U : Cell → Type 0) → Run g cs S → ((h : Cell) → S h → Run h ds U) → Run g (cs ++ ds) U
run_append g cs ds S U r k =
    let next = k (replay_from g cs) r.state in
    record { works = works_append cs ds g r.works next.works; state = subst U (sym (replay-append cs ds g)) next.state }

-- a run that leads to more
pub run_map : (g : Cell) (cs : List Command) (S U : Cell → Type 0) → Run g cs S → ((h : Cell) → S h → U h) → Run g cs U
run_map g cs S U r k = record { works = r.works; state = k (replay_from g cs) r.state }

-- each of the commands works, the last completes the skulk t of d at the house m, and they lead to
-- a cell of which this holds
pub record Finish (g : Cell) (m d : ℕ) (cs : List Command) (t : Stamp) (S : Cell → Type 0) : Type 0 where
  pub completes : Completes g m d cs t
  pub state : S (replay_from g cs)

-- a command that completes the skulk
pub finish_one : (g : Cell) (m d : ℕ) (c : Command) (t : Stamp) (ns : List ℕ) (S : Cell → Type 0) (o : Outcome) → outcome g c ≡ o → o.answer ≡ Complete t ns
    → place_of g c ≡ Some (m, d) → S o.cell → Finish g m d (c ∷ []) t S
finish_one g m d c t ns S o e a place s =
    let same : (outcome g c).answer ≡ Complete t ns = ap (λ (z : Outcome). z.answer) e ∙ a in
    record {
      completes = record {
        works = works_first g c [] (subst HasWorked (sym same) tt) (λ b i. elim i [ ]);
        early = [];
        last = c;
        serials = ns;
        parts = refl;
        place = place;
        answer = same;
      };
      state = subst (λ (z : Outcome). S z.cell) (sym e) s;
    }

-- commands that work, and then others that complete the skulk
pub finish_append : (g : Cell) (m d : ℕ) (cs ds : List Command) (t : Stamp) (S U : Cell → Type 0) → Run g cs S
    → ((h : Cell) → S h → Finish h m d ds t U) → Finish g m d (cs ++ ds) t U
finish_append g m d cs ds t S U r k =
    let next = k (replay_from g cs) r.state in
    let c = next.completes in
    record {
      completes = record {
        works = works_append cs ds g r.works c.works;
        early = cs ++ c.early;
        last = c.last;
        serials = c.serials;
        parts = append_assoc cs c.early (c.last ∷ []) ∙ ap (λ (l : List Command). cs ++ l) c.parts;
        place = subst (λ (z : Cell). place_of z c.last ≡ Some (m, d)) (sym (replay-append cs c.early g)) c.place;
        answer = subst (λ (z : Cell). (outcome z c.last).answer ≡ Complete t c.serials) (sym (replay-append cs c.early g)) c.answer;
      };
      state = subst U (sym (replay-append cs ds g)) next.state;
    }

-- a command that works, and then others that complete the skulk
pub finish_first : (g : Cell) (m d : ℕ) (c : Command) (ds : List Command) (t : Stamp) (U : Cell → Type 0) (o : Outcome) → outcome g c ≡ o
    → HasWorked o.answer → Finish o.cell m d ds t U → Finish g m d (c ∷ ds) t U
finish_first g m d c ds t U o e w f =
    let to : Cell → Type 0 = λ (z : Cell). z ≡ o.cell in
    finish_append g m d (c ∷ []) ds t to U (run_first g c [] to o e w (run_none o.cell to refl))
    (λ h s. subst (λ (z : Cell). Finish z m d ds t U) (sym s) f)

-- so many deliveries, and then so many
pub delivering-append : (n k p : ℕ) → deliver_commands p (n + k) ≡ deliver_commands p n ++ deliver_commands (p + n) k
delivering-append zero k p =
    ap (λ (l : ℕ). deliver_commands p l) (omega arith) ∙ ap (λ (q : ℕ). deliver_commands q k) (omega arith)
delivering-append (suc n) k p =
    let sum : suc n + k ≡ suc (n + k) = omega arith in
    let place : (p + 1) + n ≡ p + suc n = omega arith in
    ap (λ (l : ℕ). deliver_commands p l) sum ∙ ap (λ (l : List Command). Deliver (p + 1) ∷ l)
    (delivering-append n k (p + 1) ∙ ap (λ (q : ℕ). deliver_commands (p + 1) n ++ deliver_commands q k) place)

-- ---- refusals

-- none of the tests holds
abbrev pub Fails : List (Bool × Refusal) → Type 0
Fails [] = Unit {0}
Fails (t ∷ ts) = (t.0 ≡ false) × Fails ts

none_refuses : (ts : List (Bool × Refusal)) → Fails ts → first_refusal ts ≡ None
none_refuses [] f = refl
none_refuses (t ∷ ts) f = ap (λ (b : Bool). cond b (Some t.1) (first_refusal ts)) f.0 ∙ none_refuses ts f.1

-- a command that is not refused has its effect
pub not_refused : (g : Cell) (c : Command) → Fails (refusals_of g c) → outcome g c ≡ effect g c
not_refused g c f = ap (λ (r : Option Refusal). unless g r (effect g c)) (none_refuses (refusals_of g c) f)

-- ---- messages in the order of posting

-- after the first p messages there are these, and none of them is lost
pub record Waiting (g : Cell) (p : ℕ) (ms : List Message) : Type 0 where
  pub before : List Message
  pub bag : g.bag ≡ before ++ ms
  pub count : length before ≡ p
  pub lost : (n : ℕ) → p < n → has n g.lost ≡ false

get_behind : (xs : List Message) (m : Message) (ms : List Message) → slice_get (xs ++ m ∷ ms) (length xs) ≡ Some m
get_behind [] m ms = refl
get_behind (x ∷ xs) m ms = get_behind xs m ms

-- the first of them is the message of the next serial
pub next_message : (g : Cell) (p : ℕ) (m : Message) (ms : List Message) → Waiting g p (m ∷ ms) → message_at g (p + 1) ≡ Some m
next_message g p m ms w =
    let some : eqb (p + 1) 0 ≡ false = grind arith in
    let place : (p + 1) - 1 ≡ length w.before = omega (arith, w.count) in
    ap (λ (b : Bool). cond (b || has (p + 1) g.lost) None (slice_get g.bag ((p + 1) - 1))) some
    ∙ ap (λ (b : Bool). cond b None (slice_get g.bag ((p + 1) - 1))) (w.lost (p + 1) (omega arith))
    ∙ ap (λ (l : List Message). slice_get l ((p + 1) - 1)) w.bag
    ∙ ap (λ (n : ℕ). slice_get (w.before ++ m ∷ ms) n) place
    ∙ get_behind w.before m ms

-- the next delivery is a step of its receiver, where that is up
pub delivered : (g : Cell) (p : ℕ) (m : Message) (ms : List Message) (s : HouseStep) → Waiting g p (m ∷ ms) → (g.house m.receiver).up ≡ true
    → take (g.house m.receiver) m ≡ s → outcome g (Deliver (p + 1)) ≡ at_house g m.receiver s
delivered g p m ms s w up e =
    ap (deliver g) (next_message g p m ms w)
    ∙ ap (λ (b : Bool). cond (not b) (refusal_outcome g commands.Down) (at_house g m.receiver (take (g.house m.receiver) m))) up
    ∙ ap (at_house g m.receiver) e

-- what waits after the first of them was taken and others were posted, in a cell with that bag and
-- equal losses
pub waiting_next : (g h : Cell) (p : ℕ) (m : Message) (ms posts : List Message) → Waiting g p (m ∷ ms) → h.bag ≡ g.bag ++ posts → h.lost ≡ g.lost
    → Waiting h (p + 1) (ms ++ posts)
waiting_next g h p m ms posts w bag lost = record {
  before = w.before ++ m ∷ [];
  bag = bag ∙ ap (λ (l : List Message). l ++ posts) w.bag ∙ append_assoc w.before (m ∷ ms) posts ∙ sym (append_assoc w.before (m ∷ []) (ms ++ posts));
  count = length-append w.before (m ∷ []) ∙ ap (λ (n : ℕ). n + 1) w.count;
  lost = λ n lt. ap (has n) lost ∙ w.lost n (omega arith);
}

-- what waits after others were posted
pub waiting_more : (g h : Cell) (p : ℕ) (ms posts : List Message) → Waiting g p ms → h.bag ≡ g.bag ++ posts → h.lost ≡ g.lost → Waiting h p (ms ++ posts)
waiting_more g h p ms posts w bag lost = record {
  before = w.before;
  bag = bag ∙ ap (λ (l : List Message). l ++ posts) w.bag ∙ append_assoc w.before ms posts;
  count = w.count;
  lost = λ n lt. ap (has n) lost ∙ w.lost n lt;
}
