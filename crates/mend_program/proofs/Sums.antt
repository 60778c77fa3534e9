-- A script and the lines after it that mend a directory are a script that mends it.
use Rattle.std.proofs.Common.{◌≡◌, inl, inr, ℕ, suc, ◌+◌, ◌≤◌, List, [], ◌∷◌, ◌++◌, map, length, refl, sym, ◌∙◌, ap, subst}
use Rattle.std.proofs.Common.{arith}
use Rattle.std.specs.Prelude.{Option, None, Some, Ok, Err, Result}
use Rattle.std.specs.List.{AllByRecursion}
use Rattle.cds_stamps.specs.declared.stamp.Stamp.{Stamp}
use Rattle.cds_stamps.specs.Members.{Member, master_of}
use Rattle.cell_model.specs.Agreement.{place_of}
use Rattle.cell_model.specs.Cells.{Cell, empty_cell}
use Rattle.cell_model.specs.Commands as model
use Rattle.cell_model.specs.Mending as mending
use Rattle.cell_model.specs.Mending.{Completes, IsAgreedBy, IsHeldBy, IsIdleBy, IsSettled}
use Rattle.cell_model.specs.Sets.{In}
use Rattle.cell_model.specs.Steps.{answers_from, outcome, replay, replay_from}
use Rattle.cell_model.proofs.Runs.{replay-append}
use Rattle.cell_script.specs.declared.command.ScriptLine.{ScriptLine}
use Rattle.cell_script.specs.declared.command.ScriptLine.TheVariants as line
use Rattle.cell_script.specs.declared.fault.ParseFault.{ParseFault}
use Rattle.cell_script.specs.CommandRows.{said_in}
use Rattle.cell_script.specs.Words.{words_of}
use Rattle.cds_cell.specs.Scripted.{answer_of, step_of}
use Rattle.script_replay.specs.Replies.{Numbered, reply_to, steps_of}
use Rattle.script_replay.specs.Headline.{cell_after_script, commands_from, commands_of}
use Rattle.script_replay.specs.Scripts.{IsScript, IsScriptOf, Says}
use Rattle.line_forms.specs.Leaving.{text_of}
use Rattle.script_replay.proofs.HeadlineLaws.{commands-append}
use Rattle.mend_replay.specs.MendLines.{command_line, command_lines}
use Rattle.mend_replay.proofs.ReadBack.{CanMend, as_command, is_as_command, line_fits, line_says_so}
use Rattle.mend_program.specs.Mended.{AllLinesWork, LineWorks, MendsBehind}
use Rattle.mend_program.proofs.Sayable.{AllSaid}

-- ---- lines

-- the text of lines, each with its end
pub lines_text : (cs : List model.Command) → command_lines cs ≡ text_of (map command_line cs)
lines_text [] = refl
lines_text (c ∷ cs) = ap (λ (l : List ℕ). (command_line c ++ 10 ∷ []) ++ l) (lines_text cs)

-- what the lines of commands say, from this number on
abbrev pub numbered : ℕ → List model.Command → List Numbered
numbered number [] = []
numbered number (c ∷ cs) = record { number = number; says = line.Cell (as_command c) } ∷ numbered (number + 1) cs

-- they are a script
pub commands_script : (number : ℕ) (cs : List model.Command) → AllSaid cs → number + length cs ≤ 16777217 → IsScript number (map command_line cs) (numbered number cs)
commands_script number [] all few = refl
commands_script number (c ∷ cs) all few = (
  line_fits c number all.0 (omega (arith, few)),
  subst (λ (r : Result (Option ScriptLine) ParseFault). Says number r (numbered number (c ∷ cs)) (IsScriptOf said_in (number + 1) (map command_line cs)))
      (sym (line_says_so c all.0))
      (numbered (number + 1) cs, refl, commands_script (number + 1) cs all.1 (omega (arith, few))),
)

-- one script after another
pub script_append : (number : ℕ) (xs ys : List (List ℕ)) (said more : List Numbered) → IsScript number xs said → IsScript (number + length xs) ys more
    → IsScript number (xs ++ ys) (said ++ more)
script_append number [] ys said more first second =
    subst (λ (s : List Numbered). IsScript number ys (s ++ more)) (sym first) (subst (λ (n : ℕ). IsScript n ys more) (let e : number + 0 ≡ number = omega arith in e) second)
script_append number (x ∷ xs) ys said more first second =
    (first.0, by_saying (λ said is. script_append (number + 1) xs ys said more is (subst (λ (n : ℕ). IsScript n ys more) next second)) (said_in (words_of x)) said first.1)
  where
    next : number + suc (length xs) ≡ number + 1 + length xs
    next = omega arith

    by_saying : ((said : List Numbered) → IsScript (number + 1) xs said → IsScript (number + 1) (xs ++ ys) (said ++ more))
        → (r : Result (Option ScriptLine) ParseFault) (said : List Numbered) → Says number r said (IsScriptOf said_in (number + 1) xs)
        → Says number r (said ++ more) (IsScriptOf said_in (number + 1) (xs ++ ys))
    by_saying behind (Ok None) said is = behind said is
    by_saying behind (Ok (Some l)) said is = (is.0 ++ more, ap (λ (s : List Numbered). s ++ more) is.1, behind is.0 is.2)
    by_saying behind (Err fault) said is = is

-- ---- commands

abbrev pub AllMend : List model.Command → Type 0
AllMend = AllByRecursion CanMend

-- the commands of these lines are these commands
pub commands_again : (g : Cell) (number : ℕ) (cs : List model.Command) → AllMend cs → commands_from steps_of g (numbered number cs) ≡ cs
commands_again g number [] all = refl
commands_again g number (c ∷ cs) all =
    ap (λ (made : List model.Command). made ++ commands_from steps_of (replay_from g made) (numbered (number + 1) cs))
    (ap (λ (s : model.Command). s ∷ []) (is_as_command c all.0))
    ∙ ap (λ (ds : List model.Command). c ∷ ds) (commands_again (outcome g c).cell (number + 1) cs all.1)

-- after a script they come after its commands
pub commands_behind : (said : List Numbered) (number : ℕ) (cs : List model.Command) → AllMend cs
    → commands_of (said ++ numbered number cs) ≡ commands_of said ++ cs
commands_behind said number cs all =
    commands-append empty_cell said (numbered number cs) ∙ ap (λ (ds : List model.Command). commands_of said ++ ds) (commands_again (cell_after_script said) number cs all)

-- so the cell is that after both
pub cell_both : (said : List Numbered) (number : ℕ) (cs : List model.Command) → AllMend cs
    → cell_after_script (said ++ numbered number cs) ≡ replay_from (cell_after_script said) cs
cell_both said number cs all = ap replay (commands_behind said number cs all) ∙ replay-append (commands_of said) cs empty_cell

-- ---- answers

-- a command that worked has such an answer in the script
worked_answer : (a : model.Answer) → mending.HasWorked a → LineWorks (answer_of a)
worked_answer model.Done w = tt
worked_answer (model.NewEpoch e ns) w = tt
worked_answer (model.Taken ns) w = tt
worked_answer (model.Stamped s ns) w = tt
worked_answer (model.Complete t ns) w = tt
worked_answer (model.Posted ns) w = absurd w
worked_answer (model.Made d s ns) w = absurd w
worked_answer (model.Late k e) w = absurd w
worked_answer (model.Early k e) w = absurd w
worked_answer (model.Stale t r) w = absurd w
worked_answer model.NoReplica w = absurd w
worked_answer model.Foreign w = absurd w
worked_answer (model.Refused r) w = absurd w

-- a line among those of commands is that of one of them, after the commands before it
pub record IsSplit (number : ℕ) (cs : List model.Command) (early late : List Numbered) (l : Numbered) : Type 0 where
  pub front : List model.Command
  pub command : model.Command
  pub behind : List model.Command
  pub parts : cs ≡ front ++ command ∷ behind
  pub before : early ≡ numbered number front
  pub says : l.says ≡ line.Cell (as_command command)

split_line : (number : ℕ) (cs : List model.Command) (early late : List Numbered) (l : Numbered) → numbered number cs ≡ early ++ l ∷ late
    → IsSplit number cs early late l
split_line number [] [] late l is = absurd (cc (is))
split_line number [] (e ∷ es) late l is = absurd (cc (is))
split_line number (c ∷ cs) [] late l is = record {
  front = [];
  command = c;
  behind = cs;
  parts = refl;
  before = refl;
  says = (let same : record { number = number; says = line.Cell (as_command c) } ≡ l = cc (is) in ap (λ (x : Numbered). x.says) (sym same));
}
split_line number (c ∷ cs) (e ∷ es) late l is =
    let rest : numbered (number + 1) cs ≡ es ++ l ∷ late = cc (is) in
    let first : record { number = number; says = line.Cell (as_command c) } ≡ e = cc (is) in
    let s = split_line (number + 1) cs es late l rest in record {
      front = c ∷ s.front;
      command = s.command;
      behind = s.behind;
      parts = ap (λ (ds : List model.Command). c ∷ ds) s.parts;
      before = ap (λ (x : Numbered). x ∷ es) (sym first) ∙ ap (λ (ls : List Numbered). record { number = number; says = line.Cell (as_command c) } ∷ ls) s.before;
      says = s.says;
    }

all_front : (P : model.Command → Type 0) (cs ds : List model.Command) → AllByRecursion P (cs ++ ds) → AllByRecursion P cs × AllByRecursion P ds
all_front P [] ds all = (tt, all)
all_front P (c ∷ cs) ds all = let rest = all_front P cs ds all.1 in ((all.0, rest.0), rest.1)

answer_there : (cs ds : List model.Command) (c : model.Command) (g : Cell) → In (outcome (replay_from g cs) c).answer (answers_from g (cs ++ c ∷ ds))
answer_there [] ds c g = inl refl
answer_there (b ∷ cs) ds c g = inr (answer_there cs ds c (outcome g b).cell)

module _ (said : List Numbered) (number : ℕ) (cs : List model.Command) (all : AllMend cs) where
  -- what a line of these is answered
  line_answer : (early late : List Numbered) (l : Numbered) (s : IsSplit number cs early late l)
      → reply_to (cell_after_script (said ++ early)) l.says ≡ answer_of (outcome (replay_from (cell_after_script said) s.front) s.command).answer
  line_answer early late l s =
      let mend = all_front CanMend s.front (s.command ∷ s.behind) (subst AllMend s.parts all) in
      let cell : cell_after_script (said ++ early) ≡ replay_from (cell_after_script said) s.front =
      ap (λ (e : List Numbered). cell_after_script (said ++ e)) s.before ∙ cell_both said number s.front mend.0 in
      ap (reply_to (cell_after_script (said ++ early))) s.says
      ∙ ap (λ (g : Cell). answer_of (outcome g (step_of (as_command s.command))).answer) cell
      ∙ ap (λ (c : model.Command). answer_of (outcome (replay_from (cell_after_script said) s.front) c).answer) (is_as_command s.command mend.1.0)

  -- each line works where each command does
  pub lines_work : ((a : model.Answer) → In a (answers_from (cell_after_script said) cs) → mending.HasWorked a) → AllLinesWork said (numbered number cs)
  lines_work works early late l is =
      let s = split_line number cs early late l is in
      let there : In (outcome (replay_from (cell_after_script said) s.front) s.command).answer (answers_from (cell_after_script said) cs) =
      subst (λ (ds : List model.Command). In (outcome (replay_from (cell_after_script said) s.front) s.command).answer (answers_from (cell_after_script said) ds))
      (sym s.parts) (answer_there s.front s.behind s.command (cell_after_script said)) in
      subst LineWorks (sym (line_answer early late l s))
      (worked_answer (outcome (replay_from (cell_after_script said) s.front) s.command).answer (works _ there))

numbered-append : (number : ℕ) (cs ds : List model.Command) → numbered number (cs ++ ds) ≡ numbered number cs ++ numbered (number + length cs) ds
numbered-append number [] ds = ap (λ (n : ℕ). numbered n ds) (let e : number ≡ number + 0 = omega arith in e)
numbered-append number (c ∷ cs) ds =
    ap (λ (ls : List Numbered). record { number = number; says = line.Cell (as_command c) } ∷ ls)
    (numbered-append (number + 1) cs ds ∙ ap (λ (n : ℕ). numbered (number + 1) cs ++ numbered n ds) (let e : number + 1 + length cs ≡ number + suc (length cs) = omega arith in e))

-- commands that settle a directory are lines that mend it
pub settled_mends : (said : List Numbered) (number d k : ℕ) (t : Stamp) (ms : List Member) (cs : List model.Command) → AllMend cs
    → IsSettled (commands_of said) cs d k t ms → MendsBehind said d t ms (numbered number cs)
settled_mends said number d k t ms cs all settled =
    let done : Completes (cell_after_script said) (master_of ms) d cs t = settled.completes in
    let mend = all_front CanMend done.early (done.last ∷ []) (subst AllMend (sym done.parts) all) in
    let both : commands_of (said ++ numbered number cs) ≡ commands_of said ++ cs = commands_behind said number cs all in
    let cell : cell_after_script (said ++ numbered number done.early) ≡ replay_from (cell_after_script said) done.early = cell_both said number done.early mend.0 in
    let step : step_of (as_command done.last) ≡ done.last = is_as_command done.last mend.1.0 in
    record {
      works = lines_work said number cs all done.works;
      early = numbered number done.early;
      last = record { number = number + length done.early; says = line.Cell (as_command done.last) };
      serials = done.serials;
      epoch = k;
      parts = ap (numbered number) (sym done.parts) ∙ numbered-append number done.early (done.last ∷ []);
      place =
          ap (λ (g : Cell). place_of g (step_of (as_command done.last))) cell
          ∙ ap (place_of (replay_from (cell_after_script said) done.early)) step ∙ done.place;
      complete =
          ap (λ (g : Cell). answer_of (outcome g (step_of (as_command done.last))).answer) cell
          ∙ ap (λ (c : model.Command). answer_of (outcome (replay_from (cell_after_script said) done.early) c).answer) step
          ∙ ap answer_of done.answer;
      held = subst (λ (ds : List model.Command). IsHeldBy (replay ds) d k ms) (sym both) settled.held;
      idle = subst (λ (ds : List model.Command). IsIdleBy (replay ds) d ms) (sym both) settled.idle;
      agreed = subst (λ (ds : List model.Command). IsAgreedBy ds d t ms) (sym both) settled.agreed;
    }
