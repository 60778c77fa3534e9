-- A replay that has done one command more.
use Rattle.std.proofs.Common.{◌≡◌, ℕ, ◌+◌, ◌≤◌, true, List, [], ◌∷◌, ◌++◌, length, Option, Some, refl, sym, ◌∙◌, ap, subst, arith}
use Rattle.std.specs.Prelude.{IfSome}
use Rattle.cds_stamps.specs.Members.{Member, members_of}
use Rattle.cds_stamps.specs.declared.numbers.HouseNo.{HouseNo}
use Rattle.cds_base.specs.declared.scan.TheConstants.{MOST_LINES}
use Rattle.cell_model.specs.Cells.{Cell, empty_cell}
use Rattle.cell_model.specs.Commands as model
use Rattle.cell_model.specs.Steps.{Outcome, left_members, member_list_of, outcome, replay}
use Rattle.cell_model.proofs.Runs.{replay-append}
use Rattle.cell_script.specs.Listings.{houses_in, secondaries_in}
use Rattle.cell_script.specs.declared.command.Command.{Command}
use Rattle.cell_script.specs.declared.command.Command.TheVariants as command
use Rattle.script_replay.specs.declared.replayer.Replayer.{Replayer}
use Rattle.cds_cell.specs.ModelCells.{Stands}
use Rattle.cds_cell.specs.Scripted.{answer_of, step_of}
use Rattle.cell_runs.specs.Entries as entries
use Rattle.cell_runs.specs.Entries.{Started, Turned}
use Rattle.cell_runs.specs.LineAnswers.{answer_said}
use Rattle.cell_runs.specs.Views.{image_in, is_turn, start_seen}
use Rattle.house_directory.specs.HouseMessages.{numbers_of}
use Rattle.house_logs.specs.declared.log.LoggedTurn.{LoggedTurn}
use Rattle.house_lines.specs.declared.line.HouseOrder.{HouseOrder}
use Rattle.house_lines.specs.declared.line.HouseOrder.TheVariants as order
use Rattle.script_answers.specs.Texts.{answer_line}
use Rattle.script_answers.specs.declared.answer.Answer.{Answer}
use Rattle.script_answers.specs.declared.answer.Answer.TheVariants as answer
use Rattle.entry_lines.specs.declared.command.Said.{Said}
use Rattle.entry_lines.specs.EntryCommands.{IsCommandOf}
use Rattle.entry_lines.specs.SaidLines.{SaysCommand}
use Rattle.house_logs.specs.declared.log.LogEntry.TheVariants as logged
use Rattle.cds_explain.specs.LoggedEntries.{StartIs, TurnIs, turn_of}
use Rattle.cds_explain.specs.PrivateComparing.{ArePostedAfter, DoesTurn, IsOrdered, own_of}
use Rattle.cds_explain.specs.PrivateConsole.{HasMembers, IsListedAs, IsReady}
use Rattle.cds_explain.specs.PrivateReplays.{DoesEntry, DoesQuietly, HasDone, HasStepped}
use Rattle.cds_explain.specs.declared.replay.Replay.{Replay}
use Rattle.cds_explain.proofs.ComparingLemmas.{own_turn, posted_rest}
use Rattle.cds_explain.proofs.EpochLemmas.{present_after}
use Rattle.cds_explain.proofs.OrderLemmas.{order_seen, turn_is}
use Rattle.cds_explain.proofs.ScriptLemmas.{line_added}

-- the script says that it is done exactly where the model does
done_only : (a : model.Answer) → answer_of a ≡ Some answer.Done → a ≡ model.Done
done_only model.Done is = refl
done_only (model.Posted ns) is = absurd (cc (is))
done_only (model.Made d s ns) is = absurd (cc (is))
done_only (model.Stamped s ns) is = absurd (cc (is))
done_only (model.NewEpoch e ns) is = absurd (cc (is))
done_only (model.Taken ns) is = absurd (cc (is))
done_only (model.Late k e) is = absurd (cc (is))
done_only (model.Early k e) is = absurd (cc (is))
done_only (model.Stale t r) is = absurd (cc (is))
done_only model.NoReplica is = absurd (cc (is))
done_only model.Foreign is = absurd (cc (is))
done_only (model.Complete t ns) is = absurd (cc (is))
done_only (model.Refused r) is = absurd (cc (is))

-- nothing is done of no line
pub none_done : (r : Replay) → r.text.items ≡ [] → r.lines ≡ 0 → Stands r.replayer.cell empty_cell → HasDone r []
none_done r text lines stands = record {
  script = record { lines = []; said = []; text_is = text; script = refl; commands = refl };
  count = lines;
  stands = stands;
}

-- what holds of a line that was found
pub said_has : (P : Said → Type 0) (o : Option Said) (s : Said) → o ≡ Some s → IfSome o P → P s
said_has P o s there holds = subst (λ (z : Option Said). IfSome z P) there holds

-- what holds of its command, where that is known
pub said_as : (P : Command → Type 0) (o : Option Said) (s : Said) (c : Command) → o ≡ Some s → IfSome o (λ (z : Said). z.command ≡ c) → P s.command → P c
said_as P o s c there is holds = subst P (said_has (λ (z : Said). z.command ≡ c) o s there is) holds

-- a line more, and its command
pub done_more : (old mid new : Replay) (cs : List model.Command) (c : Command) (line : List ℕ) (a : Answer) → HasDone old cs
    → HasStepped cs (step_of c) a old mid → new.text.items ≡ mid.text.items ++ (line ++ 10 ∷ []) → new.lines ≡ mid.lines → new.replayer ≡ mid.replayer
    → SaysCommand line c → HasDone new (cs ++ step_of c ∷ [])
done_more old mid new cs c line a has stepped text lines replayer says =
    let count = has.count in
    let more = stepped.count in
    let most = stepped.few in
    let few : length has.script.lines + 1 ≤ MOST_LINES = omega arith in
    let is : new.text.items ≡ old.text.items ++ (line ++ 10 ∷ []) = cc (stepped.text, text) in
    let added = line_added old.text.items new.text.items line cs c has.script is few says in
    let g : replay (cs ++ step_of c ∷ []) ≡ (outcome (replay cs) (step_of c)).cell = replay-append cs (step_of c ∷ []) empty_cell in
    let many : new.lines ≡ length added.0.lines = omega (arith, added.1) in
    record {
      script = added.0;
      count = many;
      stands =
          subst (λ (r : Replayer). Stands r.cell (replay (cs ++ step_of c ∷ []))) (sym replayer)
          (subst (λ (z : Cell). Stands mid.replayer.cell z) (sym g) stepped.step.stands);
    }

-- one that is answered that it is done
pub done_quietly : (old mid new : Replay) (cs : List model.Command) (c : Command) (line : List ℕ) → HasDone old cs
    → HasStepped cs (step_of c) answer.Done old mid → new.text.items ≡ mid.text.items ++ (line ++ 10 ∷ []) → new.lines ≡ mid.lines
    → new.replayer ≡ mid.replayer → SaysCommand line c → DoesQuietly cs (step_of c) new
done_quietly old mid new cs c line has stepped text lines replayer says = record {
  has_done = done_more old mid new cs c line answer.Done has stepped text lines replayer says;
  answer = done_only (outcome (replay cs) (step_of c)).answer stepped.step.answer;
}

-- a start, with the image that was compared
pub start_done : (old mid new : Replay) (cs : List model.Command) (h : HouseNo) (line image : List ℕ) → HasDone old cs
    → HasStepped cs (model.Start h.0) answer.Done old mid → new.text.items ≡ mid.text.items ++ (line ++ 10 ∷ []) → new.lines ≡ mid.lines
    → new.replayer ≡ mid.replayer → SaysCommand line (command.Start h) → image_in (outcome (replay cs) (model.Start h.0)).cell h.0 ≡ image
    → DoesEntry cs h.0 (logged.Started image) new
start_done old mid new cs h line image has stepped text lines replayer says same = record {
  command = model.Start h.0;
  has_done = done_more old mid new cs (command.Start h) line answer.Done has stepped text lines replayer says;
  entry = Started image;
  seen =
      ap (start_seen h.0 o.cell) (done_only o.answer stepped.step.answer)
      ∙ ap (λ (octets : List ℕ). Some (h.0, Started octets)) same;
  logged = StartIs image;
}
  where
    o : Outcome
    o = outcome (replay cs) (model.Start h.0)

-- ---- turns

-- what the console and the bag have to have for an order: of an epoch what the console lists after
-- it
pub ordered : (g : Cell) (h : HouseNo) (o : HouseOrder) (serial : ℕ) (c : Command) (before : List Member) → IsCommandOf h o serial c → IsReady g h.0 o serial
    → is_turn (outcome g (step_of c)).answer ≡ true → HasMembers g o before → IsListedAs (outcome g (step_of c)).cell o before
    → IsOrdered g h.0 o serial (step_of c)
ordered g h (order.Mkdir d n made ls) serial c before is ready turn has lists = ready.1
ordered g h (order.Take octets) serial c before is ready turn has lists = ready
ordered g h (order.Epoch d k list) serial c before is ready turn has lists = record {
  rs = rs;
  ss = ss;
  is = same;
  order = λ j. entries.Epoch d.0 (number j) (members j) (left j);
}
  where
    rs : List ℕ
    rs = numbers_of (houses_in is.0)

    ss : List ℕ
    ss = numbers_of (secondaries_in is.0)

    same : step_of c ≡ model.Epoch d.0 h.0 rs ss
    same = ap step_of is.1

    number : g.top d.0 + 1 ≡ k.0
    number = sym ready.1

    members : member_list_of (g.present d.0) (g.top d.0 + 1) h.0 rs ss ≡ members_of list.members
    members =
        sym (present_after g d.0 h.0 rs ss (subst (λ (z : model.Command). is_turn (outcome g z).answer ≡ true) same turn))
        ∙ ap (λ (z : model.Command). (outcome g z).cell.present d.0) (sym same)
        ∙ lists.0

    left : left_members (g.present d.0) (member_list_of (g.present d.0) (g.top d.0 + 1) h.0 rs ss) ≡ numbers_of list.leaving
    left =
        (λ j. left_members (sym (has ready.0) j) (members j))
        ∙ lists.1
ordered g h other serial c before is ready turn has lists = tt

-- a line more, and its command, which is a turn of the house h
pub turn_done : (old mid new : Replay) (cs : List model.Command) (c : Command) (line : List ℕ) (h : HouseNo) (t : LoggedTurn) (serial : ℕ) (before : List Member) (a told : Answer)
    → HasDone old cs → HasStepped cs (step_of c) a old mid → new.text.items ≡ mid.text.items ++ (line ++ 10 ∷ []) → new.lines ≡ mid.lines
    → new.replayer ≡ mid.replayer → SaysCommand line c → IsCommandOf h t.order serial c → IsReady (replay cs) h.0 t.order serial
    → HasMembers (replay cs) t.order before → IsListedAs (outcome (replay cs) (step_of c)).cell t.order before → own_of a ≡ Some told
    → answer_line told ≡ t.answer → ArePostedAfter (outcome (replay cs) (step_of c)).cell (length (replay cs).bag) t.posts.items
    → IfSome t.image (λ i. image_in (outcome (replay cs) (step_of c)).cell h.0 ≡ i) → ((replay cs).house h.0).clock ≡ t.clock
    → DoesEntry cs h.0 (logged.Turned t) new
turn_done old mid new cs c line h t serial before a told has stepped text lines replayer says is ready members lists owns answers posts image clock = record {
  command = step_of c;
  has_done = done_more old mid new cs c line a has stepped text lines replayer says;
  entry = Turned (turn_of t (image_in o.cell h.0));
  seen = order_seen g h t.order serial c is (ordered g h t.order serial c before is ready own.0 members lists) ∙ turn_is g h.0 t o does clock;
  logged = TurnIs t (image_in o.cell h.0) image;
}
  where
    g : Cell
    g = replay cs

    o : Outcome
    o = outcome g (step_of c)

    own : (is_turn o.answer ≡ true) × (answer_said o.answer ≡ answer_line told)
    own = own_turn o.answer a told stepped.step.answer owns

    does : DoesTurn g h.0 t o
    does = record { turn = own.0; answer = own.1 ∙ answers; posts = posted_rest o.cell (length g.bag) t.posts.items posts; image = image }
