-- Lists of commands that work one after the other, with the number of skulks that they complete.
use Rattle.std.proofs.Common.{◌≡◌, ℕ, ◌+◌, Bool, true, false, cond, List, [], ◌∷◌, ◌++◌, refl, ap, ◌∙◌, arith}
use Rattle.std.specs.Prelude.{◌&&◌, count_by}
use Rattle.std.specs.List.{zip}
use Rattle.std.proofs.lemmas.List.Sums.{sum_by-append}
use Rattle.cell_model.specs.Cells.{Cell}
use Rattle.cell_model.specs.Commands.{Command, Answer, Deliver}
use Rattle.cell_model.specs.Steps.{Outcome, outcome, replay_from, answers_from}
use Rattle.cell_model.specs.Mending.{HasWorked}
use Rattle.cell_model.proofs.Deliveries.{Run, run_none, run_first, run_append, run_map}
use Rattle.script_replay.specs.Loading.{is_completion}

-- how many of these answers tell that a skulk is complete
abbrev pub completions : List Answer → ℕ
completions = count_by is_completion

-- the command delivers a message
abbrev pub is_delivery : Command → Bool
is_delivery (Deliver n) = true
is_delivery _ = false

-- a delivery that completes a skulk
abbrev pub delivers : Command × Answer → Bool
delivers (c, a) = is_delivery c && is_completion a

-- how many of these commands do, from this cell on
abbrev pub deliveries : Cell → List Command → ℕ
deliveries g cs = count_by delivers (zip cs (answers_from g cs))

-- each of the commands works, n of them complete a skulk, all by deliveries, and they lead to a
-- cell of which this holds
pub record Goes (g : Cell) (cs : List Command) (n : ℕ) (S : Cell → Type 0) : Type 0 where
  pub run : Run g cs S
  pub complete : completions (answers_from g cs) ≡ n
  pub delivered : deliveries g cs ≡ n

-- no command
pub goes_none : (g : Cell) (S : Cell → Type 0) → S g → Goes g [] 0 S
goes_none g S s = record { run = run_none g S s; complete = refl; delivered = refl }

-- so many with this answer
abbrev pub with_answer : Answer → ℕ → ℕ
with_answer a n = cond (is_completion a) (n + 1) n

one_more : (b : Bool) (n : ℕ) → (0 + cond b 1 0) + n ≡ cond b (n + 1) n
one_more true n = omega arith
one_more false n = omega arith

-- a count of one item more
pub count_more : {A : Type 0} (p : A → Bool) (x : A) (xs : List A) → count_by p (x ∷ xs) ≡ cond (p x) (count_by p xs + 1) (count_by p xs)
count_more {A} p x xs = sum_by-append (λ (y : A). cond (p y) 1 0) (x ∷ []) xs ∙ one_more (p x) (count_by p xs)

-- a count of two lists
pub count_append : {A : Type 0} (p : A → Bool) (xs ys : List A) → count_by p (xs ++ ys) ≡ count_by p xs + count_by p ys
count_append {A} p xs ys = sum_by-append (λ (y : A). cond (p y) 1 0) xs ys

-- a command that works, which alone can be a delivery that completes a skulk, and then others
pub goes_first : (g : Cell) (c : Command) (cs : List Command) (n : ℕ) (S : Cell → Type 0) (o : Outcome) → outcome g c ≡ o → HasWorked o.answer
    → delivers (c, o.answer) ≡ is_completion o.answer
    → Goes o.cell cs n S → Goes g (c ∷ cs) (with_answer o.answer n) S
goes_first g c cs n S o e w by r = record {
  run = run_first g c cs S o e w r.run;
  complete = ap (λ (z : Outcome). completions (z.answer ∷ answers_from z.cell cs)) e ∙ count_more is_completion o.answer (answers_from o.cell cs)
      ∙ ap (with_answer o.answer) r.complete;
  delivered = ap (λ (z : Outcome). count_by delivers ((c, z.answer) ∷ zip cs (answers_from z.cell cs))) e
      ∙ count_more delivers (c, o.answer) (zip cs (answers_from o.cell cs))
      ∙ ap (λ (b : Bool). cond b (deliveries o.cell cs + 1) (deliveries o.cell cs)) by ∙ ap (with_answer o.answer) r.delivered;
}

-- answers of one list after the other
pub answers-append : (cs ds : List Command) (g : Cell) → answers_from g (cs ++ ds) ≡ answers_from g cs ++ answers_from (replay_from g cs) ds
answers-append [] ds g = refl
answers-append (c ∷ cs) ds g = ap (λ (l : List Answer). (outcome g c).answer ∷ l) (answers-append cs ds (outcome g c).cell)

zip_append : (cs ds : List Command) (g : Cell)
    → zip (cs ++ ds) (answers_from g (cs ++ ds)) ≡ zip cs (answers_from g cs) ++ zip ds (answers_from (replay_from g cs) ds)
zip_append [] ds g = refl
zip_append (c ∷ cs) ds g = ap (λ (l : List (Command × Answer)). (c, (outcome g c).answer) ∷ l) (zip_append cs ds (outcome g c).cell)

-- deliveries of one list after the other
pub deliveries_append : (cs ds : List Command) (g : Cell) → deliveries g (cs ++ ds) ≡ deliveries g cs + deliveries (replay_from g cs) ds
deliveries_append cs ds g =
    ap (count_by delivers) (zip_append cs ds g) ∙ count_append delivers (zip cs (answers_from g cs)) (zip ds (answers_from (replay_from g cs) ds))

-- one list after the other
pub goes_append : (g : Cell) (cs ds : List Command) (n m : ℕ) (S U : Cell → Type 0) → Goes g cs n S → ((h : Cell) → S h → Goes h ds m U)
    → Goes g (cs ++ ds) (n + m) U
goes_append g cs ds n m S U r k = record {
  run = run_append g cs ds S U r.run (λ h s. (k h s).run);
  complete = ap completions (answers-append cs ds g)
      ∙ count_append is_completion (answers_from g cs) (answers_from (replay_from g cs) ds)
      ∙ ap (λ (x : ℕ). x + completions (answers_from (replay_from g cs) ds)) r.complete
      ∙ ap (λ (x : ℕ). n + x) (k (replay_from g cs) r.run.state).complete;
  delivered = deliveries_append cs ds g ∙ ap (λ (x : ℕ). x + deliveries (replay_from g cs) ds) r.delivered
      ∙ ap (λ (x : ℕ). n + x) (k (replay_from g cs) r.run.state).delivered;
}

-- a run that leads to more
pub goes_map : (g : Cell) (cs : List Command) (n : ℕ) (S U : Cell → Type 0) → Goes g cs n S → ((h : Cell) → S h → U h) → Goes g cs n U
goes_map g cs n S U r k = record { run = run_map g cs S U r.run k; complete = r.complete; delivered = r.delivered }
