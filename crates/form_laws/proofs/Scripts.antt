-- The whole script: its opening by computing, and then part by part.
use Rattle.std.proofs.Common.{◌≡◌, ℕ, ◌+◌, ◌*◌, ◌<◌, ◌≤◌, zero, suc, true, false, ◌||◌, eqb, List, [], ◌∷◌, ◌++◌, length, map, inl, inr, None}
use Rattle.std.proofs.Common.{refl, sym, ap, ◌∙◌, subst, arith, ⊎_elim}
use Rattle.std.specs.Prelude.{IsSome, is_some, count_by}
use Rattle.std.specs.List.{range_with_len, enumerate_from, AllByRecursion}
use Rattle.std.proofs.lemmas.List.FromFn.{length-enumerate_from}
use Rattle.std.proofs.lemmas.Bool.{false≢true}
use Rattle.cds_stamps.specs.Members.{is_listed}
use Rattle.directory.specs.Shown.{shown_of_name, live_count}
use Rattle.directory.specs.Purges.{purged_entries}
use Rattle.directory.proofs.PurgeLaws.{shown_in-purged}
use Rattle.cell_model.specs.Cells.{Idle, Cell, empty_cell}
use Rattle.cell_model.specs.Commands as model
use Rattle.cell_model.specs.Commands.{Refusal, Answer, Done, Posted, Made, Stamped, NewEpoch, Taken, Late, Early, Stale, NoReplica, Foreign, Complete, Refused}
use Rattle.cell_model.specs.Sets.{In}
use Rattle.cell_model.specs.Steps.{replay_from, replay, answers_from, answers}
use Rattle.cell_model.specs.Mending.{HasWorked}
use Rattle.cell_model.proofs.Lists.{In-append_cases, or_cases, eq_from}
use Rattle.cell_model.proofs.Runs.{replay-append}
use Rattle.cell_script.specs.Generated.{Part, laid_out, first_part, entry, entry_name, draws, next_draw, rounds_behind, script}
use Rattle.cds_cell.specs.Scripted.{step_of}
use Rattle.form_laws.specs.Unrefused.{IsNeverRefused, IsInFull, AllCommandsWork, is_skulk, AllComplete, IsLoaded, Loads}
use Rattle.script_replay.specs.Loading.{is_completion}
use Rattle.form_laws.proofs.Goings.{Goes, completions, deliveries, count_append, answers-append, deliveries_append}
use Rattle.form_laws.proofs.Trios.{trio, replica, Seated}
use Rattle.form_laws.proofs.Shows.{same_shown}
use Rattle.form_laws.proofs.Entries.{And, Making}
use Rattle.form_laws.proofs.Parts.{steps_of, laid_steps, skulks_of, Between}
use Rattle.form_laws.proofs.LiveCounts.{sixteen_live}
use Rattle.form_laws.proofs.Rounds.{rounds_lead, rounds_few, skulks_in, skulks_laid, LiveSomewhere, making_run}

-- ---- the opening

abbrev opened : Cell
opened = replay (steps_of first_part 1)

opening-answers : answers (steps_of first_part 1) ≡ Done ∷ Done ∷ Done ∷ Posted (1 ∷ 2 ∷ []) ∷ Taken [] ∷ Taken [] ∷ Done ∷ Done ∷ []
opening-answers = refl

each_of : {A : Type 0} (P : A → Type 0) (xs : List A) → AllByRecursion P xs → (x : A) → In x xs → P x
each_of P [] all x i = elim i [ ]
each_of P (y ∷ xs) all x (inl e) = subst P (sym e) all.0
each_of P (y ∷ xs) all x (inr i) = each_of P xs all.1 x i

opening_works : (a : Answer) → In a (answers (steps_of first_part 1)) → IsInFull a
opening_works a i =
    each_of IsInFull (Done ∷ Done ∷ Done ∷ Posted (1 ∷ 2 ∷ []) ∷ Taken [] ∷ Taken [] ∷ Done ∷ Done ∷ [])
    (tt, (tt, (tt, (tt, (tt, (tt, (tt, (tt, tt)))))))) a
    (subst (λ (l : List Answer). In a l) opening-answers i)

-- what holds of the three houses holds of each that is listed
each_listed : (P : ℕ → Type 0) → P 1 → P 2 → P 3 → (x : ℕ) → is_listed x trio ≡ true → P x
each_listed P one two three x l = ⊎_elim (λ (e : eqb 1 x ≡ true). subst P (eq_from 1 x e) one)
    (λ (m : (eqb 2 x || (eqb 3 x || false)) ≡ true). ⊎_elim (λ (e : eqb 2 x ≡ true). subst P (eq_from 2 x e) two)
    (λ (n : (eqb 3 x || false) ≡ true). ⊎_elim (λ (e : eqb 3 x ≡ true). subst P (eq_from 3 x e) three) (λ (none : false ≡ true). absurd (cc))
    (or_cases (eqb 3 x) false n))
    (or_cases (eqb 2 x) (eqb 3 x || false) m))
    (or_cases (eqb 1 x) (eqb 2 x || (eqb 3 x || false)) l)

opening_between : Between 0 2 (And (Making 0)) opened
opening_between = record {
  log = [];
  filled = record {
    steady = record {
      past = record { commands = steps_of first_part 1; leads = refl; logged = refl };
      own = λ a i. elim i [ ];
      made = refl;
      known = refl;
      seat = each_listed (λ (x : ℕ). Seated 0 (opened.house x))
          (record { up = refl; clock = refl; low = omega arith; history = []; up_to = None; phase = Idle; held = refl })
          (record { up = refl; clock = refl; low = omega arith; history = []; up_to = None; phase = Idle; held = refl })
          (record { up = refl; clock = refl; low = omega arith; history = []; up_to = None; phase = Idle; held = refl });
      lost = λ n lt. grind arith;
    };
    count = refl;
  };
  entries = (record { live = λ k lt. absurd (omega arith); absent = λ k le lt. refl }, λ q some. absurd (false≢true some));
}

-- ---- the answers

in_full : (a : Answer) → HasWorked a → IsInFull a
in_full Done w = w
in_full (Posted ns) w = tt
in_full (Made d s ns) w = w
in_full (Stamped s ns) w = w
in_full (NewEpoch e ns) w = w
in_full (Taken ns) w = w
in_full (Late k e) w = w
in_full (Early k e) w = w
in_full (Stale t r) w = w
in_full NoReplica w = w
in_full Foreign w = w
in_full (Complete t ns) w = w
in_full (Refused r) w = w

length-draws : (count x : ℕ) → length (draws x count) ≡ count
length-draws zero x = refl
length-draws (suc count) x = ap suc (length-draws count (next_draw x))

-- ---- the entries

-- house 1 shows each of the sixteen entries
each_shown : (g : Cell) (s : LiveSomewhere g) (k : ℕ) → k < 16 → IsSome (shown_of_name (s.2.filled.steady.seat 1 refl).history (entry_name k))
each_shown g s k lt =
    let b = s.2 in
    let y = b.filled.steady.seat 1 refl in
    let l = b.entries.0 k lt in
    ap is_some (same_shown s.0 b.log s.1 g y.history y.up_to y.phase b.filled.steady y.held (entry_name k) ∙ l.shows_it)

-- and its table has sixteen entries that live
pub sixteen_somewhere : (g : Cell) (s : LiveSomewhere g)
    → live_count (purged_entries (s.2.filled.steady.seat 1 refl).history (s.2.filled.steady.seat 1 refl).up_to) ≡ 16
sixteen_somewhere g s =
    let b = s.2 in
    let y = b.filled.steady.seat 1 refl in
    let same = same_shown s.0 b.log s.1 g y.history y.up_to y.phase b.filled.steady y.held in
    sixteen_live (purged_entries y.history y.up_to)
    (λ k lt. ap is_some (shown_in-purged y.history y.up_to (entry_name k)) ∙ each_shown g s k lt)
    (λ q some. b.entries.1 q (ap is_some (sym (shown_in-purged y.history y.up_to q ∙ same q)) ∙ some))

-- so house 1 has them
loaded : (g : Cell) → LiveSomewhere g → IsLoaded g
loaded g s =
    let y = s.2.filled.steady.seat 1 refl in
    record { replica = replica y.history y.up_to y.phase; held = y.held; shows = each_shown g s; live = sixteen_somewhere g s }

-- ---- the script

-- the script from its opening on
module _ (n : ℕ) (low : n ≤ 20000) where
  abbrev rounds : List Part
  rounds = rounds_behind n 0 n n

  abbrev parts : List Part
  parts = map entry (range_with_len 0 16) ++ rounds

  abbrev steps : List model.Command
  steps = map step_of (laid_out 3 parts)

  all_steps : map step_of (script n) ≡ steps_of first_part 1 ++ steps
  all_steps = laid_steps 1 first_part parts

  all_answers : answers (map step_of (script n)) ≡ answers (steps_of first_part 1) ++ answers_from opened steps
  all_answers = ap answers all_steps ∙ answers-append (steps_of first_part 1) steps empty_cell

  goes : Goes opened steps (skulks_in parts) LiveSomewhere
  goes =
      let few : length rounds ≤ 2 * n =
      omega (arith, rounds_few n (enumerate_from (0 + 1) (draws n n)), length-enumerate_from (0 + 1) (draws n n), length-draws n n) in
      making_run 16 0 rounds refl (rounds_lead n (enumerate_from (0 + 1) (draws n n))) 0 2 opened (omega (arith, few, low)) opening_between

  -- each command of the script works
  pub script_works : AllCommandsWork (script n)
  script_works a i =
      ⊎_elim (opening_works a) (λ (j : In a (answers_from opened steps)). in_full a (goes.run.works a j))
      (In-append_cases a (answers (steps_of first_part 1)) (answers_from opened steps) (subst (λ (l : List Answer). In a l) all_answers i))

  -- so none of them is refused
  pub script_unrefused : IsNeverRefused (script n)
  script_unrefused why i = script_works (Refused why) i

  -- each skulk becomes complete
  pub script_completes : AllComplete (script n)
  script_completes =
      let told = ap completions all_answers in
      let parted = count_append is_completion (answers (steps_of first_part 1)) (answers_from opened steps) in
      let none : completions (answers (steps_of first_part 1)) ≡ 0 = refl in
      let begun = skulks_laid 1 (first_part ∷ parts) in
      let opens : skulks_of first_part ≡ 0 = refl in
      omega (arith, told, parted, none, begun, opens, goes.complete)

  -- each by a delivery
  pub script_delivers : deliveries empty_cell (map step_of (script n)) ≡ count_by is_skulk (map step_of (script n))
  script_delivers =
      let told = ap (deliveries empty_cell) all_steps in
      let parted = deliveries_append (steps_of first_part 1) steps empty_cell in
      let none : deliveries empty_cell (steps_of first_part 1) ≡ 0 = refl in
      let begun = skulks_laid 1 (first_part ∷ parts) in
      let opens : skulks_of first_part ≡ 0 = refl in
      omega (arith, told, parted, none, begun, opens, goes.delivered)

  -- after it the sixteen entries live
  pub script_lives : LiveSomewhere (replay (map step_of (script n)))
  script_lives =
      let at : replay (map step_of (script n)) ≡ replay_from opened steps = ap replay all_steps ∙ replay-append (steps_of first_part 1) steps empty_cell in
      subst LiveSomewhere (sym at) goes.run.state

  -- at house 1
  pub script_loads : Loads (script n)
  script_loads = loaded (replay (map step_of (script n))) script_lives
