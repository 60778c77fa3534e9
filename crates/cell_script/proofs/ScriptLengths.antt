-- How many commands the script of `load` has at most.
use Rattle.std.proofs.Common.{◌≤◌, ◌+◌, ◌*◌, ℕ, zero, suc, Bool, true, false, List, [], ◌∷◌, ◌++◌, map, length, arith, length-append}
use Rattle.std.specs.Prelude.{if◌then◌else◌, ◌==◌}
use Rattle.std.specs.List.{range_with_len}
use Rattle.std.proofs.lemmas.List.{length-map}
use Rattle.std.proofs.lemmas.List.FromFn.{length-range_with_len}
use Rattle.cell_script.specs.declared.command.Command.{Command}
use Rattle.cell_script.specs.declared.command.Command.TheVariants as command
use Rattle.cell_script.specs.Generated.{Part, change_round, drawn_change, entry, is_told, laid_out, new_entry_round, next_draw, nobody, first_part}
use Rattle.cell_script.specs.Generated.{ends_with_skulk, rounds_behind, script, skulk_if, the_first, value_round}

-- a part has at most 21 commands, wherever its messages begin
IsShort : Part → Type 0
IsShort p = (first : ℕ) → length p.commands + length (p.delivered first) + p.posted ≤ 21

-- these have, and there are so many of them at most
record AreShort (most : ℕ) (ps : List Part) : Type 0 where
  few : length ps ≤ most
  short : (first : ℕ) → length (laid_out first ps) ≤ 21 * length ps

none_short : AreShort 0 []
unfolding IsShort
none_short = record { few = omega arith; short = λ first. omega arith }

one_more : (most : ℕ) (p : Part) (ps : List Part) → IsShort p → AreShort most ps → AreShort (most + 1) (p ∷ ps)
unfolding IsShort
one_more most p ps short more = record {
  few = omega (arith, more.few);
  short = λ first.
      let rest = more.short (first + p.posted) in
      let here = short first in
      let lost : List Command = map command.Lose (range_with_len first p.posted) in
      let told : List Command = map command.Deliver (p.delivered first) in
      omega (
        arith,
        rest,
        here,
        length-append p.commands (told ++ (lost ++ laid_out (first + p.posted) ps)),
        length-append told (lost ++ laid_out (first + p.posted) ps),
        length-append lost (laid_out (first + p.posted) ps),
        length-map (p.delivered first) command.Deliver,
        length-map (range_with_len first p.posted) command.Lose,
        length-range_with_len first p.posted,
      );
}

-- ---- the parts

told_few : (b : Bool) (told : ℕ → List ℕ) (most : ℕ) → ((first : ℕ) → length (told first) ≤ most)
    → (first : ℕ) → length ((if b then told else nobody) first) ≤ most
told_few true told most few first = few first
told_few false told most few first = omega arith

value_short : (x : ℕ) → IsShort (value_round x)
unfolding IsShort
value_short x first = let few = told_few (is_told x) the_first 1 (λ n. omega arith) first in omega (arith, few)

renewed_short : (x : ℕ) → IsShort (new_entry_round x)
unfolding IsShort
renewed_short x first = let few = told_few (is_told x) (λ n. n ∷ (n + 2) ∷ []) 2 (λ n. omega arith) first in omega (arith, few)

change_short : (x : ℕ) → IsShort (change_round x)
change_short x = by_change (drawn_change x == 7)
  where
    by_change : (b : Bool) → IsShort (if b then new_entry_round x else value_round x)
    by_change true = renewed_short x
    by_change false = value_short x

-- a skulk is the longest
skulk_short : (b : Bool) (most : ℕ) (ps : List Part) → AreShort most ps → AreShort (most + 1) (skulk_if b ++ ps)
unfolding IsShort
skulk_short true most ps more = one_more most _ ps (λ first. omega arith) more
skulk_short false most ps more = record { few = omega (arith, more.few); short = more.short }

rounds_short : (last before x count : ℕ) → AreShort (2 * count) (rounds_behind last before x count)
rounds_short last before x zero = none_short
rounds_short last before x (suc count) =
    let rest = rounds_short last (before + 1) (next_draw x) count in
    let more = one_more (2 * count + 1) (change_round (next_draw x)) _ (change_short (next_draw x))
    (skulk_short (ends_with_skulk last (before + 1)) (2 * count) (rounds_behind last (before + 1) (next_draw x) count) rest) in
    record { few = omega (arith, more.few); short = more.short }

entries_short : (k count most : ℕ) (ps : List Part) → AreShort most ps → AreShort (most + count) (map entry (range_with_len k count) ++ ps)
unfolding IsShort
entries_short k zero most ps more = record { few = omega (arith, more.few); short = more.short }
entries_short k (suc count) most ps more =
    let rest = one_more (most + count) (entry k) _ (λ first. omega arith) (entries_short (k + 1) count most ps more) in
    record { few = omega (arith, rest.few); short = rest.short }

-- the whole script
pub few_commands : (n : ℕ) → length (script n) ≤ 42 * n + 357
unfolding IsShort
few_commands n =
    let all = one_more (2 * n + 16) first_part _ (λ first. omega arith) (entries_short 0 16 (2 * n) (rounds_behind n 0 n n) (rounds_short n 0 n n)) in
    omega (arith, all.few, all.short 1)
