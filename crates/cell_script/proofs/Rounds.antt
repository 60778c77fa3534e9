-- The script of `load`, from a place on.
use Rattle.std.proofs.Common.{◌≡◌, ◌<◌, ◌+◌, ◌-◌, ◌*◌, ◌/◌, ◌%◌, ℕ, zero, suc, false, List, [], ◌∷◌}
use Rattle.std.proofs.Common.{◌++◌, map, refl, sym, ◌∙◌, ap, arith, append_assoc, Bool}
use Rattle.std.specs.Prelude.{if◌then◌else◌, ◌==◌}
use Rattle.std.specs.List.{range_with_len}
use Rattle.std.specs.Fmt.{decimal, digits}
use Rattle.cell_script.specs.declared.command.Command.{Command}
use Rattle.cell_script.specs.declared.command.Command.TheVariants as command
use Rattle.cell_script.specs.declared.place.Place.{Place}
use Rattle.cell_script.specs.Generated.{Part, change_round, drawn_change, drawn_entry, drawn_value, entry_deleted, entry_made, laid_out, next_draw, nobody}
use Rattle.cell_script.specs.Generated.{ends_with_skulk, round_of, rounds_behind, skulk_if, the_first, value_changed}
use Rattle.cell_script.specs.PrivateGenerated.{behind, commands_of, fates_of, left_at, numbers_by_steps}

-- the number of an entry, in two digits
pub decimal_teen : (k : ℕ) → k < 6 → decimal (10 + k) ≡ 49 ∷ (48 + k) ∷ []
unfolding digits
decimal_teen zero small = refl
decimal_teen (suc zero) small = refl
decimal_teen (suc (suc zero)) small = refl
decimal_teen (suc (suc (suc zero))) small = refl
decimal_teen (suc (suc (suc (suc zero)))) small = refl
decimal_teen (suc (suc (suc (suc (suc zero))))) small = refl
decimal_teen (suc (suc (suc (suc (suc (suc k)))))) small = absurd (omega arith)

-- a row of numbers begins with the first
pub range_more : (a b : ℕ) → a < b → range_with_len a (b - a) ≡ a ∷ range_with_len (a + 1) (b - (a + 1))
range_more a b more = let e : b - a ≡ suc (b - (a + 1)) = omega arith in ap (range_with_len a) e

-- the rounds begin with the next one
pub rounds_more : (last round x : ℕ) → round < last
    → rounds_behind last round x (last - round)
    ≡ round_of last (round + 1, next_draw x) ++ rounds_behind last (round + 1) (next_draw x) (last - (round + 1))
rounds_more last round x more =
    let e : last - round ≡ suc (last - (round + 1)) = omega arith in ap (rounds_behind last round x) e

-- no entry and no skulk is left: then the next round comes
pub behind_round : (p : Place) → p.entries ≡ 16 → p.skulk_is_due ≡ false → p.round < p.rounds
    → behind p
    ≡ laid_out p.serial (round_of p.rounds (p.round + 1, next_draw p.draw) ++ rounds_behind p.rounds (p.round + 1) (next_draw p.draw) (p.rounds - (p.round + 1)))
behind_round p entries due more = rw (entries, due, rounds_more p.rounds p.round p.draw more) refl

-- ---- what a round makes of its messages

two_told : (t s : ℕ) → t < 2 → (if t == 1 then (λ (first : ℕ). first ∷ (first + 2) ∷ []) else nobody) s ≡ numbers_by_steps s 2 (2 * t)
two_told zero s small = refl
two_told (suc zero) s small = refl
two_told (suc (suc t)) s small = absurd (omega arith)

one_told : (t s : ℕ) → t < 2 → (if t == 1 then the_first else nobody) s ≡ numbers_by_steps s 2 t
one_told zero s small = refl
one_told (suc zero) s small = refl
one_told (suc (suc t)) s small = absurd (omega arith)

-- where the entry is made anew
renewed : (x s : ℕ) (ps : List Part) → drawn_change x ≡ 7
    → laid_out s (change_round x ∷ ps)
    ≡ entry_deleted (drawn_entry x) ∷ entry_made (drawn_entry x)
    ∷ (map command.Deliver (numbers_by_steps s 2 (2 * (x / 256 / 32768 % 2))) ++ (map command.Lose (range_with_len s 4) ++ laid_out (s + 4) ps))
renewed x s ps is =
    let told : x / 256 / 32768 % 2 < 2 = omega arith in
    rw (is, two_told (x / 256 / 32768 % 2) s told) refl

-- where a value is changed
changed : (x s : ℕ) (ps : List Part) → (drawn_change x == 7) ≡ false
    → laid_out s (change_round x ∷ ps)
    ≡ value_changed (drawn_change x) (drawn_entry x) (drawn_value x)
    ∷ (map command.Deliver (numbers_by_steps s 2 (x / 256 / 32768 % 2)) ++ (map command.Lose (range_with_len s 2) ++ laid_out (s + 2) ps))
changed x s ps is =
    let told : x / 256 / 32768 % 2 < 2 = omega arith in
    rw (is, one_told (x / 256 / 32768 % 2) s told) refl

-- ---- the place after

-- the part q is what is laid out
laid_at : (q : Place) (cs ds ls rest : List Command) → commands_of q.work ≡ cs → fates_of q.fates ≡ ds ++ ls → behind q ≡ rest
    → left_at q ≡ cs ++ (ds ++ (ls ++ rest))
laid_at q cs ds ls rest work fates more = rw (work, fates, more, append_assoc ds ls rest) refl

-- the parts that are left after a round with the number x
abbrev pub parts_behind : Place → (x : ℕ) → (due : Bool) → List Part
parts_behind p x due = skulk_if due ++ rounds_behind p.rounds (p.round + 1) x (p.rounds - (p.round + 1))

-- no entry and no skulk is left to p, and q begins its next round
module _ (p q : Place) (x : ℕ) (due : Bool) (entries : p.entries ≡ 16) (none_due : p.skulk_is_due ≡ false) (more : p.round < p.rounds)
    (drawn : x ≡ next_draw p.draw) (ends : due ≡ ends_with_skulk p.rounds (p.round + 1)) where
  here : laid_out p.serial (change_round x ∷ parts_behind p x due) ≡ behind p
  here =
      ap (λ (y : ℕ). laid_out p.serial (change_round y ∷ parts_behind p y due)) drawn
      ∙ ap (λ (b : Bool). laid_out p.serial (change_round (next_draw p.draw) ∷ parts_behind p (next_draw p.draw) b)) ends
      ∙ sym (behind_round p entries none_due more)

  pub begins_renewed : drawn_change x ≡ 7
      → commands_of q.work ≡ entry_deleted (drawn_entry x) ∷ entry_made (drawn_entry x) ∷ []
      → fates_of q.fates ≡ map command.Deliver (numbers_by_steps p.serial 2 (2 * (x / 256 / 32768 % 2))) ++ map command.Lose (range_with_len p.serial 4)
      → behind q ≡ laid_out (p.serial + 4) (parts_behind p x due) → left_at q ≡ behind p
  begins_renewed seven work fates rest =
      laid_at q (entry_deleted (drawn_entry x) ∷ entry_made (drawn_entry x) ∷ [])
      (map command.Deliver (numbers_by_steps p.serial 2 (2 * (x / 256 / 32768 % 2)))) (map command.Lose (range_with_len p.serial 4)) _ work fates rest
      ∙ sym (renewed x p.serial (parts_behind p x due) seven)
      ∙ here

  pub begins_changed : (drawn_change x == 7) ≡ false
      → commands_of q.work ≡ value_changed (drawn_change x) (drawn_entry x) (drawn_value x) ∷ []
      → fates_of q.fates ≡ map command.Deliver (numbers_by_steps p.serial 2 (x / 256 / 32768 % 2)) ++ map command.Lose (range_with_len p.serial 2)
      → behind q ≡ laid_out (p.serial + 2) (parts_behind p x due) → left_at q ≡ behind p
  begins_changed other work fates rest =
      laid_at q (value_changed (drawn_change x) (drawn_entry x) (drawn_value x) ∷ [])
      (map command.Deliver (numbers_by_steps p.serial 2 (x / 256 / 32768 % 2))) (map command.Lose (range_with_len p.serial 2)) _ work fates rest
      ∙ sym (changed x p.serial (parts_behind p x due) other)
      ∙ here
