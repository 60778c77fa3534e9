-- How a cell is loaded, from command to command.
use Rattle.std.proofs.Common.{◌≡◌, ◌≤◌, ◌<◌, ◌+◌, ◌*◌, ℕ, Bool, true, false, cond, List, [], ◌∷◌, map, length, refl, sym, ◌∙◌, ap, subst, arith}
use Rattle.std.specs.Prelude.{Option, Some, None, count_by, sum_by, not, ◌&&◌, if◌then◌else◌}
use Rattle.std.specs.FinMap.{entries}
use Rattle.std.specs.Option.{option_map_or}
use Rattle.std.proofs.lemmas.List.Sums.{sum_by-cons}
use Rattle.attr_sets.specs.AttributeCells.{cell_values, present_in}
use Rattle.attr_sets.specs.declared.cell.AttrCell.{AttrCell}
use Rattle.attr_sets.specs.declared.mark.ValueMark.{ValueMark}
use Rattle.directory.specs.Shown.{live_count}
use Rattle.cell_model.specs.Cells.{Cell, empty_cell}
use Rattle.cell_model.specs.Commands as model
use Rattle.cell_model.specs.Steps.{Outcome, outcome, replay, replay_from}
use Rattle.script_answers.specs.declared.answer.Answer.{Answer}
use Rattle.cell_script.specs.declared.command.Command.{Command}
use Rattle.cell_script.specs.declared.command.ScriptLine.{ScriptLine}
use Rattle.cell_script.specs.declared.command.ScriptLine.TheVariants as line
use Rattle.cell_script.specs.Generated.{TakesFirst}
use Rattle.cds_cell.specs.Scripted.{answer_of, step_of}
use Rattle.cds_cell.specs.ModelCells.{Stands}
use Rattle.script_replay.specs.declared.counts.Counts.{Counts}
use Rattle.script_replay.specs.declared.loader.Loader.{Loader}
use Rattle.script_replay.specs.Loading.{answered_from, completes, first_table, is_accepted, is_change, is_completion}
use Rattle.script_replay.specs.Loading.{is_delivery, is_refusal, summary_of, summary_text, values_shown}
use Rattle.script_replay.specs.PrivateKinds.{is_complete, line_changes, line_delivers, refuses}
use Rattle.script_replay.specs.LoadSteps.{Takes, Tells}
use Rattle.script_replay.specs.Answering.{IsReply}

count_cons : {A : Type 0} (p : A → Bool) (x : A) (xs : List A) → count_by p (x ∷ xs) ≡ cond (p x) 1 0 + count_by p xs
count_cons p x xs = sum_by-cons (λ y. cond (p y) 1 0) x xs

-- of all commands these are left: the cell stands for the model's after the others, and the counts
-- are those of the others
pub record IsLoading (loader : Loader) (left all : List Command) : Type 0 where
  pub cell : Cell
  pub stands : Stands loader.replayer.cell cell
  pub commands : loader.commands + length left ≡ length all
  pub accepted : loader.accepted + count_by is_accepted (answered_from cell left) ≡ count_by is_accepted (answered_from empty_cell all)
  pub complete : loader.complete + count_by completes (answered_from cell left) ≡ count_by completes (answered_from empty_cell all)
  pub behind : replay_from cell (map step_of left) ≡ replay (map step_of all)

-- a load begins with all commands left, a cell without houses, and nothing counted
pub loading_begins : (loader : Loader) (left all : List Command) → left ≡ all → Stands loader.replayer.cell empty_cell → loader.commands ≡ 0
    → loader.accepted ≡ 0 → loader.complete ≡ 0 → IsLoading loader left all
loading_begins loader left all same stands no_command none_accepted none_complete =
    subst (λ (cs : List Command). IsLoading loader cs all) (sym same)
    (record {
      cell = empty_cell;
      stands = stands;
      commands = omega (arith, no_command);
      accepted = omega (arith, none_accepted);
      complete = omega (arith, none_complete);
      behind = refl;
    })

pub loading_goes_on : (old new : Loader) (c : Command) (left left' all : List Command) → left ≡ c ∷ left' → IsLoading old left all
    → ((g : Cell) → Stands old.replayer.cell g → Takes old new g c) → IsLoading new left' all
loading_goes_on old new c left left' all first so_far taken =
    let h : IsLoading old (c ∷ left') all = subst (λ (cs : List Command). IsLoading old cs all) first so_far in
    let t = taken h.cell h.stands in
    let o : Outcome = outcome h.cell (step_of c) in
    let one = count_cons is_accepted (c, o.answer) (answered_from o.cell left') in
    let one_skulk = count_cons completes (c, o.answer) (answered_from o.cell left') in
    record {
      cell = o.cell;
      stands = t.stands;
      commands = omega (arith, h.commands, t.commands);
      accepted = omega (arith, h.accepted, t.accepted, one);
      complete = omega (arith, h.complete, t.complete, one_skulk);
      behind = h.behind;
    }

-- the counts are those of the summary, once none is left
pub loading_ends : (loader : Loader) (left all : List Command) (rounds : ℕ) (counts : Counts) → left ≡ [] → (so_far : IsLoading loader left all)
    → Tells counts loader so_far.cell
    → summary_text rounds (record {
      commands = counts.commands;
      accepted = counts.accepted;
      complete = counts.complete;
      live = counts.live;
      values = counts.values;
    }) ≡ summary_text rounds (summary_of all)
loading_ends loader left all rounds counts none so_far told =
    let behind : so_far.cell ≡ replay (map step_of all) =
    ap (λ (cs : List Command). replay_from so_far.cell (map step_of cs)) (sym none) ∙ so_far.behind in
    let commands : counts.commands ≡ length all = omega (arith, so_far.commands, told.commands, ap length none) in
    let accepted : counts.accepted ≡ count_by is_accepted (answered_from empty_cell all) =
    omega (arith, so_far.accepted, told.accepted, ap (λ (cs : List Command). count_by is_accepted (answered_from so_far.cell cs)) none) in
    let complete : counts.complete ≡ count_by completes (answered_from empty_cell all) =
    omega (arith, so_far.complete, told.complete, ap (λ (cs : List Command). count_by completes (answered_from so_far.cell cs)) none) in
    let live : counts.live ≡ option_map_or live_count (first_table (replay (map step_of all))) 0 =
    told.live ∙ ap (λ (g : Cell). option_map_or live_count (first_table g) 0) behind in
    let values : counts.values ≡ option_map_or values_shown (first_table (replay (map step_of all))) 0 =
    told.values ∙ ap (λ (g : Cell). option_map_or values_shown (first_table g) 0) behind in
    rw (commands, accepted, complete, live, values) refl

-- ---- what comes next

pub comes_next : (left left' : List Command) (l : ScriptLine) → TakesFirst left left' (Some l) → (c : Command) × (left ≡ c ∷ left') × (l ≡ line.Cell c)
comes_next [] left' l taken = let e : Some l ≡ None = taken.0 in cc
comes_next (c ∷ cs) left' l taken =
    let e : Some l ≡ Some (line.Cell c) = taken.0 in
    let same : l ≡ line.Cell c = cc in
    (c, ap (λ (xs : List Command). c ∷ xs) (sym taken.1), same)

-- where no command comes next, none is left
pub none_left : (left left' : List Command) → TakesFirst left left' None → left ≡ []
none_left [] left' taken = refl
none_left (c ∷ cs) left' taken = let e : None ≡ Some (line.Cell c) = taken.0 in cc

-- ---- values

one_value : (b : Bool) (v : List ℕ) (vs : List (List ℕ)) → length (if b then v ∷ vs else vs) ≡ cond b 1 0 + length vs
one_value true v vs = omega arith
one_value false v vs = omega arith

-- the present values of a cell, counted
pub present_count : (es : List (List ℕ × ValueMark)) → length (present_in es) ≡ count_by (λ e. e.1.present) es
present_count [] = refl
present_count (e ∷ es) =
    one_value e.1.present e.0 (present_in es) ∙ ap (λ (n : ℕ). cond e.1.present 1 0 + n) (present_count es)
    ∙ sym (count_cons (λ (v : List ℕ × ValueMark). v.1.present) e es)

-- ---- what the answers of the script tell of the model's

refusal_of_answer : (m : model.Answer) → option_map_or refuses (answer_of m) false ≡ is_refusal m
refusal_of_answer model.Done = refl
refusal_of_answer (model.Posted ns) = refl
refusal_of_answer (model.Made d s ns) = refl
refusal_of_answer (model.Stamped s ns) = refl
refusal_of_answer (model.NewEpoch e ns) = refl
refusal_of_answer (model.Taken ns) = refl
refusal_of_answer (model.Late k e) = refl
refusal_of_answer (model.Early k e) = refl
refusal_of_answer (model.Stale t r) = refl
refusal_of_answer model.NoReplica = refl
refusal_of_answer model.Foreign = refl
refusal_of_answer (model.Complete t ns) = refl
refusal_of_answer (model.Refused r) = refl

completion_of_answer : (m : model.Answer) → option_map_or is_complete (answer_of m) false ≡ is_completion m
completion_of_answer model.Done = refl
completion_of_answer (model.Posted ns) = refl
completion_of_answer (model.Made d s ns) = refl
completion_of_answer (model.Stamped s ns) = refl
completion_of_answer (model.NewEpoch e ns) = refl
completion_of_answer (model.Taken ns) = refl
completion_of_answer (model.Late k e) = refl
completion_of_answer (model.Early k e) = refl
completion_of_answer (model.Stale t r) = refl
completion_of_answer model.NoReplica = refl
completion_of_answer model.Foreign = refl
completion_of_answer (model.Complete t ns) = refl
completion_of_answer (model.Refused r) = refl

refusal_told : (m : model.Answer) (a : Answer) → answer_of m ≡ Some a → refuses a ≡ is_refusal m
refusal_told m a is = ap (λ (o : Option Answer). option_map_or refuses o false) (sym is) ∙ refusal_of_answer m

completion_told : (m : model.Answer) (a : Answer) → answer_of m ≡ Some a → is_complete a ≡ is_completion m
completion_told m a is = ap (λ (o : Option Answer). option_map_or is_complete o false) (sym is) ∙ completion_of_answer m

-- a command was stepped: the counts are those of the model's answer
pub took : (old new : Loader) (g : Cell) (l : ScriptLine) (c : Command) (a : Answer) → l ≡ line.Cell c → IsReply a new.replayer.cell g l
    → new.commands ≡ old.commands + 1
    → new.accepted ≡ old.accepted + cond (line_changes l && not (refuses a)) 1 0
    → new.complete ≡ old.complete + cond (line_delivers l && is_complete a) 1 0
    → Takes old new g c
took old new g l c a said reply commands accepted complete =
    let m : model.Answer = (outcome g (step_of c)).answer in
    let it : IsReply a new.replayer.cell g (line.Cell c) = subst (IsReply a new.replayer.cell g) said reply in
    record {
      commands = commands;
      accepted =
          accepted ∙ ap (λ (k : ScriptLine). old.accepted + cond (line_changes k && not (refuses a)) 1 0) said
          ∙ ap (λ (b : Bool). old.accepted + cond (is_change c && not b) 1 0) (refusal_told m a it.answer);
      complete =
          complete ∙ ap (λ (k : ScriptLine). old.complete + cond (line_delivers k && is_complete a) 1 0) said
          ∙ ap (λ (b : Bool). old.complete + cond (is_delivery c && b) 1 0) (completion_told m a it.answer);
      stands = it.stands;
    }

-- ---- a turn

module _ (left left' : List Command) (next : Option ScriptLine) (l : ScriptLine) (taken : TakesFirst left left' next) (is : next ≡ Some l) where
  first : (c : Command) × (left ≡ c ∷ left') × (l ≡ line.Cell c)
  first = comes_next left left' l (subst (TakesFirst left left') is taken)

  pub next_turn : (old new : Loader) (all : List Command) → IsLoading old left all
      → ((g : Cell) (c : Command) → Stands old.replayer.cell g → l ≡ line.Cell c → Takes old new g c) → IsLoading new left' all
  next_turn old new all so_far steps = loading_goes_on old new first.0 left left' all first.1 so_far (λ g s. steps g first.0 s first.2)

  pub fewer_left : length left' < length left
  fewer_left = let e = ap length first.1 in omega (arith, e)

-- so few commands are replayed
pub few_taken : (loader : Loader) (left all made : List Command) (rounds : ℕ) → IsLoading loader left all → made ≡ all → length made ≤ 42 * rounds + 357
    → rounds ≤ 20000 → loader.commands < 16777216
few_taken loader left all made rounds so_far same few most = omega (arith, so_far.commands, ap length same, few, most)

-- ---- sums

-- the values of one attribute more
pub values_go_on : (count more now total : ℕ) (rest rest' : List (List ℕ × AttrCell)) (k : List ℕ) (x : AttrCell) → rest ≡ (k, x) ∷ rest'
    → count + sum_by (λ (a : List ℕ × AttrCell). length (cell_values a.1)) rest ≡ total → more ≡ count_by (λ v. v.1.present) (entries x.values)
    → now ≡ count + more → now + sum_by (λ (a : List ℕ × AttrCell). length (cell_values a.1)) rest' ≡ total
values_go_on count more now total rest rest' k x first so_far counted sum =
    let f : List ℕ × AttrCell → ℕ = λ a. length (cell_values a.1) in
    let split : sum_by f rest ≡ length (cell_values x) + sum_by f rest' = ap (sum_by f) first ∙ sum_by-cons f (k, x) rest' in
    let same : length (cell_values x) ≡ count_by (λ v. v.1.present) (entries x.values) = present_count (entries x.values) in
    omega (arith, so_far, counted, sum, split, same)
