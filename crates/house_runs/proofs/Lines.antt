-- What one line comes to at a house that runs.
use Rattle.std.proofs.Common.{◌≡◌, ℕ, Bool, true, false, List, [], ◌∷◌, ◌++◌, length, refl, sym, ap, subst, ◌∙◌}
use Rattle.std.specs.Prelude.{Option, Some, None, Result, Ok, Err, nat_lt}
use Rattle.cds_stamps.specs.declared.numbers.HouseNo.{HouseNo}
use Rattle.cell_script.specs.Words.{words_of}
use Rattle.cell_script.specs.declared.fault.ParseFault.{ParseFault}
use Rattle.cell_model.specs.Cells as model
use Rattle.script_answers.specs.declared.answer.ScriptRefusal.TheVariants as why
use Rattle.clearinghouse.specs.LawfulHouses.{IsLawful}
use Rattle.clearinghouse.specs.ModelHouses.{StandsHouse}
use Rattle.clearinghouse.specs.declared.house.Clearinghouse.{Clearinghouse}
use Rattle.house_entries.specs.Bodies.{IsBody}
use Rattle.house_lines.specs.LineRows.{said_in}
use Rattle.house_lines.specs.declared.line.HouseLine.{HouseLine}
use Rattle.house_lines.specs.declared.line.HouseLine.TheVariants as asks
use Rattle.house_lines.specs.declared.line.HouseOrder.{HouseOrder}
use Rattle.house_lines.specs.declared.line.HouseOrder.TheVariants as order
use Rattle.house_serving.specs.Turns.{Said}
use Rattle.cell_runs.specs.Entries.{TurnEntry, Post}
use Rattle.cell_runs.specs.HonestRuns.{HasGoodList, at_clock}
use Rattle.cell_runs.specs.LineAnswers.{refused}
use Rattle.cell_runs.specs.LineOrders.{order_of}
use Rattle.cell_runs.specs.OrderSteps.{Carries, order_step}
use Rattle.house_turns.specs.declared.house.House.{House}
use Rattle.house_turns.specs.declared.house.TheConstants.{MOST_MESSAGE}
use Rattle.house_turns.specs.LineOutcomes.{ComesTo, HasNoEnd, Outcome, Posts, Tells}
use Rattle.house_turns.specs.HouseReplies.{IsReply, IsTurnReply, RepliesAsked, RepliesClock, RepliesIf, RepliesMade, RepliesMoreIf, RepliesOrder, RepliesTake}
use Rattle.house_turns.specs.HouseReplies.{RepliesTakeIf, RepliesTo, Responds, TellsLines, UnlessRefused, with_spaces, take_line, turn_text}
use Rattle.house_turns.specs.HouseAnswers.{asked_said, early_refusal}
use Rattle.house_turns.proofs.PlainLines.{line_begins, take_begins}
use Rattle.house_runs.specs.Tales.{IsTurnBody, LineSays, SaysOrder, SaysOther, SaysTake}
use Rattle.house_runs.proofs.JoinedWords.{words_again}
use Rattle.house_runs.proofs.Turns.{TurnsTo, entry_of, has_good_list, turns_to}

-- a house that runs has this clearinghouse
pub record Runs (x : ℕ) (h : House) (c : Clearinghouse) : Type 0 where
  pub home : h.home ≡ Some c
  pub number : c.house.0 ≡ x
  pub lawful : IsLawful c

-- another house with the same clearinghouse
pub runs_on : (x : ℕ) (h h' : House) (c : Clearinghouse) → h'.home ≡ h.home → Runs x h c → Runs x h' c
runs_on x h h' c same runs = record { home = same ∙ runs.home; number = runs.number; lawful = runs.lawful }

-- a turn that a house did: its record says the entry, which is the step of the model, whichever
-- house of it the clearinghouse is for
pub record DoesTurn (x : ℕ) (c : Clearinghouse) (body : List ℕ) (c' : Clearinghouse) : Type 0 where
  pub entry : TurnEntry
  pub tells : IsTurnBody body entry
  pub good : HasGoodList x entry.order
  pub turns : (now : model.House) (m : model.Message) → StandsHouse c now → Carries x (at_clock now entry.clock) entry.order m
      → TurnsTo x entry (order_step x (at_clock now entry.clock) entry.order m) c'

-- a line gives no record, and the house has what it had; or the record of a turn
pub data LineDone (x : ℕ) (c : Clearinghouse) (said : Said) (mid : House) : Type 0 where
  NoTurn : said.body ≡ None → Runs x mid c → LineDone x c said mid
  OneTurn : (body : List ℕ) (c' : Clearinghouse) → said.body ≡ Some body → DoesTurn x c body c' → Runs x mid c' → LineDone x c said mid

module _ (x : ℕ) (h : House) (c : Clearinghouse) (runs : Runs x h c) (number : ℕ) (said : Said) (mid : House) where
  -- a line that leaves the clearinghouse, and gives no record
  no_turn : said.body ≡ None → mid.home ≡ h.home → LineDone x c said mid
  no_turn none same = NoTurn none (runs_on x h mid c same runs)

  told_lines : (lines : List (List ℕ)) → TellsLines h number lines said mid → LineDone x c said mid
  told_lines lines told = no_turn (ap (λ (s : Said). s.body) told.0) (ap (λ (k : House). k.home) told.1)

  module _ (told : HouseOrder) (words : List ℕ) (line_is : SaysOrder words (order_of told)) (plain : HasNoEnd words) where
    -- the record of a turn
    turn_done : early_refusal c told ≡ None → (posts : List Post) (answer : List ℕ) (c' : Clearinghouse) → ComesTo c h.clock told (Posts posts answer) c'
        → IsTurnReply h number words posts answer c' said mid → LineDone x c said mid
    turn_done none posts answer c' comes reply =
        let home : mid.home ≡ Some c' = ap (λ (k : House). k.home) reply.after in
        let clock : mid.clock ≡ h.clock = ap (λ (k : House). k.clock) reply.after in
        let own : c'.house.0 ≡ x = ap (λ (n : HouseNo). n.0) comes.house ∙ runs.number in
        let next : Runs x mid c' = record { home = home; number = own; lawful = comes.lawful runs.lawful } in
        OneTurn reply.octets c' reply.body (record {
          entry = entry_of h.clock (order_of told) posts answer c';
          tells = record {
            number = mid.entry;
            line = words;
            says = line_is;
            line_ends_nowhere = plain;
            answer_ends_nowhere = comes.one_line;
            is = subst (λ (k : ℕ). IsBody reply.octets mid.entry k (turn_text words posts answer) None) clock reply.record_is.body;
          };
          good = subst (λ (y : ℕ). HasGoodList y (order_of told)) runs.number (has_good_list c told none);
          turns = subst (λ (y : ℕ).
              (now : model.House) (m : model.Message) → StandsHouse c now → Carries y (at_clock now h.clock) (order_of told) m
              → TurnsTo y (entry_of h.clock (order_of told) posts answer c') (order_step y (at_clock now h.clock) (order_of told) m) c')
              runs.number (turns_to c c' h.clock told posts answer comes);
        }) next

    by_outcome : early_refusal c told ≡ None → (o : Outcome) (c' : Clearinghouse) → ComesTo c h.clock told o c' → IsReply h number words o c' said mid
        → LineDone x c said mid
    by_outcome none (Tells lines) c' comes reply =
        no_turn (ap (λ (s : Said). s.body) reply.0)
        (ap (λ (k : House). k.home) reply.1 ∙ ap (λ (d : Clearinghouse). Some d) comes.stays ∙ sym runs.home)
    by_outcome none (Posts posts answer) c' comes reply = turn_done none posts answer c' comes reply

    by_refusal : (r : Option (List ℕ)) → early_refusal c told ≡ r → UnlessRefused h c number words told r said mid → LineDone x c said mid
    by_refusal (Some refusal) early reply = told_lines (refusal ∷ []) reply
    by_refusal None early reply = by_outcome early reply.outcome reply.c' reply.comes reply.reply

    -- an order
    pub ordered : RepliesOrder (Some c) h number words told said mid → LineDone x c said mid
    ordered reply = by_refusal (early_refusal c told) refl reply

  -- a line of these words, with one space between two
  module _ (words : List (List ℕ)) where
    more_kept : (many : Bool) (octets : List ℕ) → RepliesMoreIf many h number octets said mid → LineDone x c said mid
    more_kept true octets reply = no_turn (ap (λ (s : Said). s.body) reply.0) (ap (λ (k : House). k.home) reply.1)
    more_kept false octets reply = no_turn (ap (λ (s : Said). s.body) reply.0) (ap (λ (k : House). k.home) reply.1)

    take_done : (many : Bool) (octets : List ℕ) → RepliesTakeIf many h c number octets said mid → LineDone x c said mid
    take_done true octets reply = no_turn (ap (λ (s : Said). s.body) reply.0) (ap (λ (k : House). k.home) reply.1)
    take_done false octets reply = ordered (order.Take octets) (take_line octets) (SaysTake octets) (take_begins octets).plain reply

    by_line : (says : HouseLine) → said_in words ≡ Ok (Some says) → LineSays (with_spaces words) says → RepliesTo h number words says said mid → LineDone x c said mid
    by_line (asks.House y n) read is reply =
        told_lines (refused why.HouseExists ∷ [])
        (subst (λ (o : Option Clearinghouse). RepliesMade o h number (with_spaces words) y n said mid) runs.home reply)
    by_line (asks.Clock t) read is reply =
        let told = subst (λ (o : Option Clearinghouse). RepliesClock o h number t said mid) runs.home reply in
        no_turn (ap (λ (s : Said). s.body) told.0) (ap (λ (k : House). k.home) told.1)
    by_line (asks.More octets) read is reply = more_kept (nat_lt MOST_MESSAGE (length (h.more ++ octets))) (h.more ++ octets) reply
    by_line (asks.Ask q) read is reply =
        told_lines (asked_said c q) (subst (λ (o : Option Clearinghouse). RepliesAsked o h number q said mid) runs.home reply)
    by_line (asks.Order (order.Take octets)) read is reply =
        take_done (nat_lt MOST_MESSAGE (length (h.more ++ octets))) (h.more ++ octets)
        (subst (λ (o : Option Clearinghouse). RepliesTake o h number (h.more ++ octets) said mid) runs.home reply)
    by_line (asks.Order told) read is reply =
        ordered told (with_spaces words) (SaysOther (with_spaces words) told is) (line_begins words (asks.Order told) read).plain
        (subst (λ (o : Option Clearinghouse). RepliesOrder o h number (with_spaces words) told said mid) runs.home reply)

  -- a line at a house that runs
  pub line_done : (line : List ℕ) → Responds h number line said mid → LineDone x c said mid
  line_done line reply = by (said_in (words_of line)) refl reply
    where
      by : (r : Result (Option HouseLine) ParseFault) → said_in (words_of line) ≡ r → RepliesIf h number (words_of line) r said mid
          → LineDone x c said mid
      by (Ok None) is reply = no_turn (ap (λ (s : Said). s.body) reply.0) (ap (λ (k : House). k.home) reply.1)
      by (Ok (Some says)) is reply = by_line (words_of line) says is (ap said_in (words_again line) ∙ is) reply
      by (Err fault) is reply = no_turn (ap (λ (s : Said). s.body) reply.0) (ap (λ (k : House). k.home) reply.1)
