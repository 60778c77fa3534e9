-- The parts of the script, one by one: each of their commands works.
use Rattle.std.proofs.Common.{◌≡◌, ℕ, ◌+◌, ◌≤◌, Bool, true, false, List, [], ◌∷◌, ◌++◌, length, map, None, refl, sym, ap, ◌∙◌, subst}
use Rattle.std.proofs.Common.{arith, append_assoc, length-append}
use Rattle.std.specs.Prelude.{count_by, if◌then◌else◌}
use Rattle.std.specs.List.{range_with_len}
use Rattle.std.proofs.lemmas.List.{map-append}
use Rattle.cds_stamps.specs.Stamps.{last_time}
use Rattle.directory.specs.Histories.{Mark}
use Rattle.directory.specs.Shown.{refusal_of}
use Rattle.directory.specs.Updates.{Change, changed_name}
use Rattle.cell_model.specs.Cells.{Update, Message, Cell}
use Rattle.cell_model.specs.Commands as model
use Rattle.cell_model.specs.Commands.{Accepted, Accept, Deliver, Lose, Taken}
use Rattle.cell_model.specs.Turns.{floor_after, take_in}
use Rattle.cell_model.proofs.Lists.{append_nil}
use Rattle.cell_model.proofs.Deliveries.{Waiting, waiting_next}
use Rattle.cell_model.proofs.Readiness.{changed, letter}
use Rattle.cell_script.specs.declared.command.Command.{Command}
use Rattle.cell_script.specs.declared.command.Command.TheVariants as command
use Rattle.cell_script.specs.Generated.{Part, laid_out, nobody, the_first}
use Rattle.cds_cell.specs.Scripted.{step_of}
use Rattle.form_laws.specs.Unrefused.{is_skulk}
use Rattle.form_laws.proofs.Goings.{Goes, goes_map}
use Rattle.form_laws.proofs.Trios.{replica, Steady, steady_below, deliver_run}
use Rattle.form_laws.proofs.SkulkRuns.{Filled}
use Rattle.form_laws.proofs.Losses.{lose_run}
use Rattle.form_laws.proofs.Shows.{shows, After}
use Rattle.form_laws.proofs.Stamps.{accept_run}

-- ---- the steps of a part

-- the steps of a part whose messages begin with this serial
abbrev pub steps_of : Part → ℕ → List model.Command
steps_of r first = map step_of r.commands ++ (map Deliver (r.delivered first) ++ map Lose (range_with_len first r.posted))

delivered_steps : (ns : List ℕ) → map step_of (map command.Deliver ns) ≡ map Deliver ns
delivered_steps [] = refl
delivered_steps (n ∷ ns) = ap (λ (l : List model.Command). Deliver n ∷ l) (delivered_steps ns)

lost_steps : (ns : List ℕ) → map step_of (map command.Lose ns) ≡ map Lose ns
lost_steps [] = refl
lost_steps (n ∷ ns) = ap (λ (l : List model.Command). Lose n ∷ l) (lost_steps ns)

-- the steps of a part come before those of the others
pub laid_steps : (first : ℕ) (r : Part) (rs : List Part)
    → map step_of (laid_out first (r ∷ rs)) ≡ steps_of r first ++ map step_of (laid_out (first + r.posted) rs)
laid_steps first r rs =
    let told : List Command = map command.Deliver (r.delivered first) in
    let gone : List Command = map command.Lose (range_with_len first r.posted) in
    let rest : List Command = laid_out (first + r.posted) rs in
    let cs : List model.Command = map step_of r.commands in
    let ds : List model.Command = map Deliver (r.delivered first) in
    let ls : List model.Command = map Lose (range_with_len first r.posted) in
    map-append step_of r.commands (told ++ (gone ++ rest))
    ∙ ap (λ (l : List model.Command). cs ++ l)
    (map-append step_of told (gone ++ rest) ∙ ap (λ (l : List model.Command). l ++ map step_of (gone ++ rest)) (delivered_steps (r.delivered first))
    ∙ ap (λ (l : List model.Command). ds ++ l)
    (map-append step_of gone rest ∙ ap (λ (l : List model.Command). l ++ map step_of rest) (lost_steps (range_with_len first r.posted)))
    ∙ sym (append_assoc ds ls (map step_of rest)))
    ∙ sym (append_assoc cs (ds ++ ls) (map step_of rest))

-- ---- between two parts

-- p messages were posted, and all are lost; this holds of the updates that were accepted
pub record Between (f p : ℕ) (P : List Accepted → Type 0) (g : Cell) : Type 0 where
  pub log : List Accepted
  pub filled : Filled f log p p g
  pub entries : P log

-- nothing waits then
pub nothing_waits : (f p : ℕ) (log : List Accepted) (g : Cell) → Filled f log p p g → Waiting g p []
nothing_waits f p log g s = record { before = g.bag; bag = sym (append_nil g.bag); count = s.count; lost = s.steady.lost }

-- how many messages were posted where some wait
waiting_count : (g : Cell) (q : ℕ) (ms : List Message) → Waiting g q ms → length g.bag ≡ q + length ms
waiting_count g q ms w = ap length w.bag ∙ length-append w.before ms ∙ ap (λ (n : ℕ). n + length ms) w.count

-- the messages of a part are lost, at its end
pub close_run : (n f f' : ℕ) (log : List Accepted) (p : ℕ) (P : List Accepted → Type 0) (g : Cell) → Steady f log p g → length g.bag ≡ p + n → f ≤ f' → P log
    → Goes g (map Lose (range_with_len (p + 1) n)) 0 (Between f' (p + n) P)
close_run n f f' log p P g s count le holds =
    goes_map g _ 0 (Filled f log (p + n) (p + n)) (Between f' (p + n) P) (lose_run n f log p g (record { steady = s; count = count }))
    (λ z h. record { log = log; filled = record { steady = steady_below f f' log (p + n) z le h.steady; count = h.count }; entries = holds })

-- house 2 is told of an update
pub told_run : (f p q x : ℕ) (log : List Accepted) (g : Cell) (marks : List Mark) (ms : List Message) (cs : List model.Command) (n : ℕ) (S : Cell → Type 0)
    → Steady f log p g → x ≤ f → Waiting g q (letter 1 1 2 1 x (Update marks) ∷ ms)
    → ((g' : Cell) → Steady f log p g' → Waiting g' (q + 1) ms → Goes g' cs n S) → Goes g (Deliver (q + 1) ∷ cs) n S
told_run f p q x log g marks ms cs n S s low w rest =
    let z : Message = letter 1 1 2 1 x (Update marks) in
    let y = s.seat 2 refl in
    let fl : floor_after (g.house 2) z ≤ f = omega (arith, y.low) in
    let g' : Cell = changed g 2 1 (floor_after (g.house 2) z) (replica (y.history ++ marks) y.up_to y.phase) [] in
    deliver_run f p q log g z ms (floor_after (g.house 2) z) (y.history ++ marks) y.up_to y.phase [] Taken cs n S s w refl fl
    (ap (take_in (g.house 2) z (Update marks)) y.held) tt
    (λ s' w'. rest g' s' (subst (λ (l : List Message). Waiting g' (q + 1) l) (append_nil ms) w'))

-- ---- one update

-- how many skulks a part begins
abbrev pub skulks_of : Part → ℕ
skulks_of r = count_by is_skulk (map step_of r.commands)

-- from cells of which P holds, the steps of the part lead to cells of which Q holds, and complete
-- each skulk that it begins
abbrev pub Leads : Part → (P Q : List Accepted → Type 0) → Type 0
Leads r P Q =
    (f p : ℕ) (g : Cell) → f + 2 ≤ last_time → Between f p P g → Goes g (steps_of r (p + 1)) (skulks_of r) (Between (f + 2) (p + r.posted) Q)

module _ (P Q : List Accepted → Type 0) (u : Change) (free : (log : List Accepted) → P log → refusal_of (shows log (changed_name u)) u ≡ None)
    (after : (log log' : List Accepted) → P log → After log u log' → Q log') where
  told_or_not : (told : Bool) (f p x : ℕ) (log : List Accepted) (g : Cell) (marks : List Mark) → Steady (f + 1) log p g → x ≤ f + 1 → Q log
      → Waiting g p (letter 1 1 2 1 x (Update marks) ∷ letter 1 1 3 1 x (Update marks) ∷ [])
      → Goes g (map Deliver ((if told then the_first else nobody) (p + 1)) ++ map Lose (range_with_len (p + 1) 2)) 0 (Between (f + 2) (p + 2) Q)
  told_or_not false f p x log g marks s low holds w =
      let le : f + 1 ≤ f + 2 = omega arith in
      close_run 2 (f + 1) (f + 2) log p Q g s (waiting_count g p _ w) le holds
  told_or_not true f p x log g marks s low holds w =
      let le : f + 1 ≤ f + 2 = omega arith in
      let sum : (p + 1) + 1 ≡ p + 2 = omega arith in
      told_run (f + 1) p p x log g marks (letter 1 1 3 1 x (Update marks) ∷ []) (map Lose (range_with_len (p + 1) 2)) 0 (Between (f + 2) (p + 2) Q) s low w
      (λ g' s' w'. close_run 2 (f + 1) (f + 2) log p Q g' s' (waiting_count g' (p + 1) _ w' ∙ sum) le holds)

  -- an update of which house 2 is told or nobody
  pub one_update : (told : Bool) (f p : ℕ) (g : Cell) → f + 2 ≤ last_time → Between f p P g
      → Goes g (Accept 1 1 u ∷ (map Deliver ((if told then the_first else nobody) (p + 1)) ++ map Lose (range_with_len (p + 1) 2))) 0
      (Between (f + 2) (p + 2) Q)
  one_update told f p g left b =
      accept_run f p p b.log g [] u _ 0 (Between (f + 2) (p + 2) Q) b.filled.steady (omega (arith, left)) (nothing_waits f p b.log g b.filled)
      (free b.log b.entries)
      (λ t marks log' g' s' low w a. told_or_not told f p t.time log' g' marks s' low (after b.log log' b.entries a) w)

-- ---- two updates

module _ (P M Q : List Accepted → Type 0) (u u' : Change) (free : (log : List Accepted) → P log → refusal_of (shows log (changed_name u)) u ≡ None)
    (after : (log log' : List Accepted) → P log → After log u log' → M log')
    (free' : (log : List Accepted) → M log → refusal_of (shows log (changed_name u')) u' ≡ None)
    (after' : (log log' : List Accepted) → M log → After log u' log' → Q log') where
  both_or_not : (told : Bool) (f p x x' : ℕ) (log : List Accepted) (g : Cell) (marks marks' : List Mark) → Steady f log p g → x ≤ f → x' ≤ f
      → Q log
      → Waiting g p
      (letter 1 1 2 1 x (Update marks) ∷ letter 1 1 3 1 x (Update marks) ∷ letter 1 1 2 1 x' (Update marks') ∷ letter 1 1 3 1 x' (Update marks') ∷ [])
      → Goes g (map Deliver ((if told then (λ (first : ℕ). first ∷ (first + 2) ∷ []) else nobody) (p + 1)) ++ map Lose (range_with_len (p + 1) 4)) 0
      (Between f (p + 4) Q)
  both_or_not false f p x x' log g marks marks' s low low' holds w =
      let le : f ≤ f = omega arith in
      close_run 4 f f log p Q g s (waiting_count g p _ w) le holds
  both_or_not true f p x x' log g marks marks' s low low' holds w =
      let le : f ≤ f = omega arith in
      let sum : (((p + 1) + 1) + 1) + 1 ≡ p + 4 = omega arith in
      let third : ((p + 1) + 1) + 1 ≡ (p + 1) + 2 = omega arith in
      let there : Message = letter 1 1 2 1 x' (Update marks') in
      let last : List Message = letter 1 1 3 1 x' (Update marks') ∷ [] in
      let lost : List model.Command = map Lose (range_with_len (p + 1) 4) in
      told_run f p p x log g marks (letter 1 1 3 1 x (Update marks) ∷ there ∷ last) (Deliver ((p + 1) + 2) ∷ lost) 0 (Between f (p + 4) Q) s low w
      (λ g' s' w'.
      subst (λ (n : ℕ). Goes g' (Deliver n ∷ lost) 0 (Between f (p + 4) Q)) third
      (told_run f p ((p + 1) + 1) x' log g' marks' last lost 0 (Between f (p + 4) Q) s' low'
      (waiting_next g' g' (p + 1) (letter 1 1 3 1 x (Update marks)) (there ∷ last) [] w' (sym (append_nil g'.bag)) refl)
      (λ g'' s'' w''. close_run 4 f f log p Q g'' s'' (waiting_count g'' (((p + 1) + 1) + 1) _ w'' ∙ sum) le holds)))

  -- two updates, of both of which house 2 is told or nobody
  pub two_updates : (told : Bool) (f p : ℕ) (g : Cell) → f + 2 ≤ last_time → Between f p P g
      → Goes g (Accept 1 1 u ∷ Accept 1 1 u'
      ∷ (map Deliver ((if told then (λ (first : ℕ). first ∷ (first + 2) ∷ []) else nobody) (p + 1)) ++ map Lose (range_with_len (p + 1) 4)))
      0 (Between (f + 2) (p + 4) Q)
  two_updates told f p g left b =
      let sum : (f + 1) + 1 ≡ f + 2 = omega arith in
      accept_run f p p b.log g [] u _ 0 (Between (f + 2) (p + 4) Q) b.filled.steady (omega (arith, left)) (nothing_waits f p b.log g b.filled)
      (free b.log b.entries)
      (λ t marks log' g' s' low w a.
      let m = after b.log log' b.entries a in
      accept_run (f + 1) p p log' g' _ u' _ 0 (Between (f + 2) (p + 4) Q) s' (omega (arith, left)) w (free' log' m)
      (λ t' marks' log'' g'' s'' low' w' a'.
      both_or_not told (f + 2) p t.time t'.time log'' g'' marks marks' (subst (λ (n : ℕ). Steady n log'' p g'') sum s'') (omega (arith, low))
      (omega (arith, low')) (after' log' log'' m a') w'))
