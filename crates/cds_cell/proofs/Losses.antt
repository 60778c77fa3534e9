-- Messages that are lost after the first ones, and the commands that lose them.
use Rattle.std.proofs.Common.{◌≡◌, ℕ, ◌+◌, ◌-◌, ◌≤◌, ◌<◌, Bool, true, false, List, [], ◌∷◌, ◌++◌, map, length, refl, sym, ap, subst, ◌∙◌, arith}
use Rattle.std.specs.Prelude.{Option, Some, None, max, if◌then◌else◌, ◌==◌}
use Rattle.std.specs.List.{range_with_len}
use Rattle.std.proofs.lemmas.Bool.Decides.{nat_tests}
use Rattle.std.proofs.lemmas.List.FromFn.{map-range_with_len_more}
use Rattle.cell_model.specs.Cells as model
use Rattle.cell_model.specs.Commands as command
use Rattle.cell_model.specs.Steps.{message_at, outcome, replay_from}
use Rattle.cell_model.proofs.Runs.{replay-append}
use Rattle.cell_model.proofs.Standing.{reached_lem}
use Rattle.cds_cell.specs.declared.bag.Bag.{Bag}
use Rattle.cds_cell.specs.declared.cell.Cell.{Cell}
use Rattle.cds_cell.specs.Bags.{MaybeStandsLetter, StandsBag, letter_at}
use Rattle.cds_cell.specs.CommandImages.{crash_losing, serials_after}
use Rattle.cds_cell.specs.PrivateActs.{KeepsRest}
use Rattle.cds_cell.specs.ModelCells.{Stands, StandsAs}
use Rattle.cds_cell.proofs.Bags.{lost_stands}
use Rattle.cds_cell.proofs.HouseActs.{lost_elsewhere, rest_stands}

-- ---- one message

-- the bag without a message that is not in the model's
unlost_stands : (b c : Bag) (g : model.Cell) (n : ℕ) → StandsBag b g → message_at g n ≡ None → c.posted ≡ b.posted
    → ((q : ℕ) → letter_at c q ≡ (if q == n then None else letter_at b q)) → StandsBag c g
unlost_stands b c g n s none posted letters = record {
  posted = posted ∙ s.posted;
  letters = λ q. by q (q == n) refl (letters q) (s.letters q);
  lost = s.lost;
}
  where
    by : (q : ℕ) (t : Bool) → (q == n) ≡ t → letter_at c q ≡ (if t then None else letter_at b q) → MaybeStandsLetter (letter_at b q) (message_at g q)
        → MaybeStandsLetter (letter_at c q) (message_at g q)
    by q true on is h =
        let same : q ≡ n = grind (arith, nat_tests, on) in
        rw (is, same, none) tt
    by q false off is h = subst (λ o. MaybeStandsLetter o (message_at g q)) (sym is) h

-- a bag that a message was taken out of is that of the model after its loss, whether it was there
-- or not
pub lost_one : (c d : Cell) (g : model.Cell) (n : ℕ) → Stands c g → d.houses ≡ c.houses → KeepsRest c d → d.bag.posted ≡ c.bag.posted
    → ((q : ℕ) → letter_at d.bag q ≡ (if q == n then None else letter_at c.bag q)) → Stands d (outcome g (command.Lose n)).cell
lost_one c d g n s houses rest posted letters = record {
  reached = reached_lem.after g (command.Lose n) s.reached;
  stands = by (message_at g n) refl;
}
  where
    by : (o : Option model.Message) → message_at g n ≡ o → StandsAs d (outcome g (command.Lose n)).cell
    by None is =
        let bag : StandsBag d.bag g = unlost_stands c.bag d.bag g n s.stands.bag is posted letters in
        rw is (rest_stands c d g g s.stands houses rest (λ x. refl)
        (record { made = refl; lost = refl; top = refl; present = refl; next_dir = refl }) bag)
    by (Some m) is =
        rw is (lost_elsewhere c d g n s.stands houses rest (lost_stands c.bag d.bag g n m s.stands.bag is posted letters))

-- ---- those after the first ones

-- the messages of numbers above `kept` are lost, up to number n
pub record AreLost (old now : Cell) (kept n : ℕ) : Type 0 where
  pub houses : now.houses ≡ old.houses
  pub rest : KeepsRest old now
  pub posted : now.bag.posted ≡ old.bag.posted
  pub few : n ≤ max kept old.bag.posted
  pub stands : (g : model.Cell) → Stands old g → Stands now (replay_from g (map command.Lose (range_with_len (kept + 1) (n - kept))))

pub none_lost : (c : Cell) (kept : ℕ) → AreLost c c kept kept
none_lost c kept = record {
  houses = refl;
  rest = record { directories = refl; spent = refl };
  posted = refl;
  few = omega arith;
  stands = λ g s. let none : kept - kept ≡ 0 = omega arith in rw none s;
}

-- one more
pub lost_more : (old now next : Cell) (kept n : ℕ) → AreLost old now kept n → kept ≤ n → n < old.bag.posted → next.houses ≡ now.houses
    → next.directories ≡ now.directories → next.spent ≡ now.spent → next.bag.posted ≡ now.bag.posted
    → ((q : ℕ) → letter_at next.bag q ≡ (if q == n + 1 then None else letter_at now.bag q)) → AreLost old next kept (n + 1)
lost_more old now next kept n l low less houses directories spent posted letters = record {
  houses = houses ∙ l.houses;
  rest = record { directories = directories ∙ l.rest.directories; spent = spent ∙ l.rest.spent };
  posted = posted ∙ l.posted;
  few = omega (arith, less);
  stands = λ g s. subst (λ (z : model.Cell). Stands next z) (after g)
      (lost_one now next (before g) (n + 1) (l.stands g s) houses (record { directories = directories; spent = spent }) posted letters);
}
  where
    lost : ℕ → List command.Command
    lost k = map command.Lose (range_with_len (kept + 1) k)

    before : model.Cell → model.Cell
    before g = replay_from g (lost (n - kept))

    more : lost (n + 1 - kept) ≡ lost (n - kept) ++ command.Lose (n + 1) ∷ []
    more =
        let count : n + 1 - kept ≡ n - kept + 1 = omega (arith, low) in
        let number : kept + 1 + (n - kept) ≡ n + 1 = omega (arith, low) in
        ap lost count ∙ map-range_with_len_more command.Lose (kept + 1) (n - kept) (n + 1) number

    after : (g : model.Cell) → (outcome (before g) (command.Lose (n + 1))).cell ≡ replay_from g (lost (n + 1 - kept))
    after g = sym (ap (replay_from g) more ∙ replay-append (lost (n - kept)) (command.Lose (n + 1) ∷ []) g)

-- all of them
pub all_lost : (old now : Cell) (kept n : ℕ) → AreLost old now kept n → kept ≤ n → old.bag.posted ≤ n → (g : model.Cell) → Stands old g
    → Stands now (replay_from g (map command.Lose (serials_after kept g)))
all_lost old now kept n l low high g s =
    let posted : old.bag.posted ≡ length g.bag = s.stands.bag.posted in
    let few = l.few in
    let count : n - kept ≡ length g.bag - kept = omega (arith, low, high, posted, few) in
    subst (λ k. Stands now (replay_from g (map command.Lose (range_with_len (kept + 1) k)))) count (l.stands g s)

-- and then a house crashes
pub losing_crash : (g : model.Cell) (h kept : ℕ) → replay_from g (crash_losing g h kept)
    ≡ (outcome (replay_from g (map command.Lose (serials_after kept g))) (command.Crash h)).cell
losing_crash g h kept = replay-append (map command.Lose (serials_after kept g)) (command.Crash h ∷ []) g
