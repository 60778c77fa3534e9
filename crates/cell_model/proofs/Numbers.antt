-- How houses and directories are numbered, in every cell that is reached.
use Rattle.std.proofs.Common.{◌≡◌, ◌≢◌, ℕ, ◌+◌, ◌<◌, ◌≤◌, ◌⊎◌, inl, inr, Bool, true, false, eqb, cond, List, [], ◌∷◌, Option, refl, sym, ap, ◌∙◌, subst}
use Rattle.std.proofs.Common.{arith, ⊎_elim, le_refl}
use Rattle.std.proofs.lemmas.Bool.{cases_lt}
use Rattle.cell_model.specs.Cells.{Slot, Absent, Gone, Held, Message, Cell, empty_cell, put}
use Rattle.cell_model.specs.Commands.{Command, Answer, Accepted}
use Rattle.cell_model.specs.Sets.{In}
use Rattle.cell_model.specs.Steps.{outcome, replay_from, replay}
use Rattle.cell_model.specs.Agreement.{place_of}
use Rattle.cell_model.specs.Holdings.{NumbersHold}
use Rattle.cell_model.proofs.Terms.{Listed}
use Rattle.cell_model.proofs.Bounds.{held_low}
use Rattle.cell_model.proofs.Views.{put_other}
use Rattle.cell_model.proofs.Moves.{Move, stays, houses, clocks, loses, crashes, starts, acts, founds, crowns, Steps, one, mkdirs, outcome_steps}
use Rattle.cell_model.proofs.Wholes.{Plain, run_onward, empty_plain}
use Rattle.cell_model.proofs.Runs.{roll_of}
use Rattle.cell_model.proofs.NeverComes.{reaching_last, lawful}

-- which directories there are, by their last epochs and the number of the next
record Numbered (top : ℕ → ℕ) (next : ℕ) : Type 0 where
  two : 2 ≤ next
  zero : top 0 ≡ 0
  known : (d : ℕ) → 2 ≤ d → d < next → 1 ≤ top d
  root : (d : ℕ) → 1 ≤ top d → 1 ≤ top 1

-- a directory more, or a later epoch of one
numbered_put : (top : ℕ → ℕ) (next next' d k : ℕ) → Numbered top next → 1 ≤ k → d ≢ 0 → next ≤ next'
    → ((e : ℕ) → next ≤ e → e < next' → e ≡ d) → (d ≡ 1) ⊎ (1 ≤ top 1) → Numbered (put top d k) next'
numbered_put top next next' d k p low some le new rooted = record {
  two = omega (arith, p.two, le);
  zero = put_other top d k 0 (λ e. some (sym e)) ∙ p.zero;
  known = λ e two lt. known_by e two lt (eqb e d) refl;
  root = λ e h. root_by (eqb 1 d) refl;
}
  where
    known_by : (e : ℕ) → 2 ≤ e → e < next' → (b : Bool) → eqb e d ≡ b → 1 ≤ cond b k (top e)
    known_by e two lt true q = low
    known_by e two lt false q =
        let apart : e ≢ d = grind arith in
        ⊎_elim (λ (below : e < next). p.known e two below) (λ (behind : next ≤ e). absurd (apart (new e behind lt))) (cases_lt e next)

    root_by : (b : Bool) → eqb 1 d ≡ b → 1 ≤ cond b k (top 1)
    root_by true q = low
    root_by false q = ⊎_elim (λ (first : d ≡ 1). let apart : 1 ≢ d = grind arith in absurd (apart (sym first))) (λ has. has) rooted

-- a directory that has an epoch has a number
known_some : (top : ℕ → ℕ) (next d : ℕ) → Numbered top next → top d ≢ 0 → d ≢ 0
known_some top next d p known e = known (ap top e ∙ p.zero)

at_least : (n : ℕ) → n ≢ 0 → 1 ≤ n
at_least n some = grind (arith, some)

move_numbered : (g g' : Cell) (p : Option (ℕ × ℕ)) (a : Answer) (n : List Accepted) → Numbered g.top g.next_dir → Move g p g' a n
    → Numbered g'.top g'.next_dir
move_numbered g g' p a n v (stays b q) = v
move_numbered g g' p a n v (houses h node free) = v
move_numbered g g' p a n v (clocks h time made) = v
move_numbered g g' p a n v (loses i) = v
move_numbered g g' p a n v (crashes h up) = v
move_numbered g g' p a n v (starts h made) = v
move_numbered g g' p a n v (acts h d _ floor o posts b l act) = v
move_numbered g g' p a n v (founds d m rs ss ns root up none) =
    numbered_put g.top g.next_dir g.next_dir d 1 v (le_refl _) (λ e. omega (arith, root, e)) (le_refl _) (λ e le lt. absurd (omega arith)) (inl root)
move_numbered g g' p a n v (crowns d m rs ss r up known at l since) =
    numbered_put g.top g.next_dir g.next_dir d (g.top d + 1) v (omega arith) (known_some g.top g.next_dir d v known) (le_refl _)
    (λ e le lt. absurd (omega arith)) (inr (v.root d (at_least (g.top d) known)))

steps_numbered : (g g' : Cell) (p : Option (ℕ × ℕ)) (a : Answer) (n : List Accepted) → Numbered g.top g.next_dir → Steps g p g' a n
    → Numbered g'.top g'.next_dir
steps_numbered g g' p a n v (one _ _ _ m) = move_numbered g g' p a n v m
steps_numbered g g' p a n v (mkdirs h d m u rs ss r s ns at i fine up known) =
    numbered_put g.top g.next_dir (g.next_dir + 1) g.next_dir 1 v (le_refl _) (λ e. omega (arith, e, v.two)) (omega arith) (λ e le lt. omega arith)
    (inr (v.root d (at_least (g.top d) known)))

run_numbered : (cs : List Command) (g : Cell) → Numbered g.top g.next_dir → Numbered (replay_from g cs).top (replay_from g cs).next_dir
run_numbered [] g v = v
run_numbered (c ∷ cs) g v =
    run_numbered cs (outcome g c).cell (steps_numbered g (outcome g c).cell (place_of g c) (outcome g c).answer (outcome g c).accepted v (outcome_steps g c))

empty_numbered : Numbered empty_cell.top empty_cell.next_dir
empty_numbered = record { two = le_refl _; zero = refl; known = λ d two lt. absurd (omega arith); root = λ d h. h }

module _ (commands : List Command) where
  abbrev g : Cell
  g = replay commands

  plain : Plain (replay commands)
  plain = (run_onward commands empty_cell empty_plain).plain

  -- a directory without an epoch is nowhere
  nowhere : (d : ℕ) → (replay commands).top d ≡ 0 → (x : ℕ) (s : Slot) → ((replay commands).house x).slots d ≡ s → s ≡ Absent
  nowhere d none x Absent at = refl
  nowhere d none x (Gone e) at = let w = (reaching_last commands d).sound.gone x e at in absurd (omega (arith, w.0, w.1, none))
  nowhere d none x (Held r) at =
      let s = (reaching_last commands d).sound in
      absurd (omega (arith, held_low _ _ x r s at, (s.held x r at).top, none))

  unposted : (d : ℕ) → (replay commands).top d ≡ 0 → (m : Message) → In m (replay commands).bag → m.dir ≡ d → ⊥
  unposted d none m i at =
      let l = lawful commands m i in
      let low : m.epoch ≡ 0 = omega (arith, l.top, ap (replay commands).top at, none) in
      (reaching_last commands m.dir).sound.good.none m.sender l.by.0
      (subst (λ (k : ℕ). Listed ((roll_of m.dir commands).list k) m.sender l.by.0) low l.by.1)

  -- how houses, nodes and directories are numbered
  pub numbers_lem : NumbersHold (replay commands)
  numbers_lem =
      let v = run_numbered commands empty_cell empty_numbered in record {
        unmade = plain.unmade;
        nodes = plain.nodes;
        two = v.two;
        known = v.known;
        unknown = λ d w. ⊎_elim (λ (e : d ≡ 0). ap (replay commands).top e ∙ v.zero) (λ (le : (replay commands).next_dir ≤ d). plain.unknown d le) w;
        nothing = λ d none. record {
          top = none;
          present = plain.bare d none;
          absent = λ x. nowhere d none x (((replay commands).house x).slots d) refl;
          unposted = unposted d none;
        };
        root = v.root;
      }
