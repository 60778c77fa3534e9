-- The last turn, after each line.
use Rattle.std.proofs.Common.{◌≡◌, ℕ, Bool, true, false, List, [], ◌∷◌, ◌++◌, length, refl, sym, ap, subst, ◌∙◌}
use Rattle.std.specs.Prelude.{Option, Some, None, Result, Ok, Err, codes, nat_lt}
use Rattle.cell_script.specs.Words.{words_of}
use Rattle.cell_script.specs.declared.fault.ParseFault.{ParseFault}
use Rattle.script_answers.specs.Texts.{answer_line}
use Rattle.script_answers.specs.declared.answer.Answer.TheVariants as answer
use Rattle.script_answers.specs.declared.answer.ScriptRefusal.TheVariants as why
use Rattle.clearinghouse.specs.declared.house.Clearinghouse.{Clearinghouse}
use Rattle.house_entries.specs.Bodies.{IsBody}
use Rattle.house_lines.specs.LineRows.{said_in}
use Rattle.house_lines.specs.declared.line.HouseLine.{HouseLine}
use Rattle.house_lines.specs.declared.line.HouseLine.TheVariants as asks
use Rattle.house_lines.specs.declared.line.HouseOrder.{HouseOrder}
use Rattle.house_lines.specs.declared.line.HouseOrder.TheVariants as order
use Rattle.house_lines.specs.declared.line.HouseQuestion.{HouseQuestion}
use Rattle.cds_stamps.specs.declared.numbers.HouseNo.{HouseNo}
use Rattle.house_serving.specs.Turns.{Said}
use Rattle.cell_runs.specs.Entries.{Post}
use Rattle.cell_runs.specs.LineAnswers.{refused}
use Rattle.house_turns.specs.declared.house.House.{House}
use Rattle.house_turns.specs.declared.house.TheConstants.{MOST_MESSAGE}
use Rattle.house_turns.specs.LineOutcomes.{ComesTo, HasNoEnd, Outcome, Posts, Tells}
use Rattle.house_turns.specs.HouseReplies.{IsReply, IsTurnReply, RepliesAsked, RepliesClock, RepliesIf, RepliesMade, RepliesMoreIf, RepliesOrder, RepliesTake, RepliesTakeIf, RepliesTo}
use Rattle.house_turns.specs.HouseReplies.{Responds, TellsLines, UnlessRefused, new_clearinghouse, posts_text, take_line, turn_text, with_spaces}
use Rattle.house_turns.specs.HouseAnswers.{asked_said, early_refusal}
use Rattle.house_turns.specs.Openings.{HasTurn, IsTurnText, Redoes, is_skulk}
use Rattle.house_turns.specs.Records.{IsTurnRecord}
use Rattle.house_turns.proofs.PlainTexts.{done_ends_nowhere}
use Rattle.house_turns.proofs.PlainLines.{BeginsTurn, line_begins, take_begins}

-- ---- lines

-- a line gives no record, and leaves the last turn; or its record is that of a turn, which is the
-- last one then
pub data LineKept (h : House) (said : Said) (h' : House) : Type 0 where
  NoTurn : said.body ≡ None → h'.home ≡ h.home → h'.last ≡ h.last → LineKept h said h'
  OneTurn : (octets : List ℕ) (c : Clearinghouse) → said.body ≡ Some octets → h'.home ≡ Some c → IsTurnText h'.last
      → IsTurnRecord h' h'.last octets → LineKept h said h'

module _ (h : House) (number : ℕ) (said : Said) (h' : House) where
  lines_kept : (lines : List (List ℕ)) → TellsLines h number lines said h' → LineKept h said h'
  lines_kept lines told =
      NoTurn (ap (λ (s : Said). s.body) told.0) (ap (λ (k : House). k.home) told.1) (ap (λ (k : House). k.last) told.1)

  -- a turn of a house that may have got its node in it
  turn_kept : (g : House) (line : List ℕ) → BeginsTurn line → (posts : List Post) (answer : List ℕ) → HasNoEnd answer → (c' : Clearinghouse)
      → IsTurnReply g number line posts answer c' said h' → LineKept h said h'
  turn_kept g line begins posts answer one_line c' reply =
      let text : List ℕ = turn_text line posts answer in
      let home : h'.home ≡ Some c' = ap (λ (k : House). k.home) reply.after in
      let last : h'.last ≡ text = ap (λ (k : House). k.last) reply.after in
      OneTurn reply.octets c' reply.body home
      (record {
        line = line;
        posts = posts;
        answer = answer;
        is = last;
        line_ends_nowhere = begins.plain;
        answer_ends_nowhere = one_line;
        no_skulk = ap is_skulk last ∙ begins.no_skulk (10 ∷ (posts_text posts ++ (answer ++ 10 ∷ [])));
      })
      (subst (λ (l : List ℕ). IsTurnRecord h' l reply.octets) (sym last) reply.record_is)

  module _ (c : Clearinghouse) (home : h.home ≡ Some c) (line : List ℕ) (begins : BeginsTurn line) where
    outcome_kept : (told : HouseOrder) (o : Outcome) (c' : Clearinghouse) → ComesTo c h.clock told o c' → IsReply h number line o c' said h'
        → LineKept h said h'
    outcome_kept told (Tells lines) c' comes reply =
        NoTurn (ap (λ (s : Said). s.body) reply.0)
        (ap (λ (k : House). k.home) reply.1 ∙ ap (λ (d : Clearinghouse). Some d) comes.stays ∙ sym home) (ap (λ (k : House). k.last) reply.1)
    outcome_kept told (Posts posts answer) c' comes reply = turn_kept h line begins posts answer comes.one_line c' reply

    refusal_kept : (told : HouseOrder) (r : Option (List ℕ)) → UnlessRefused h c number line told r said h' → LineKept h said h'
    refusal_kept told (Some refusal) reply = lines_kept (refusal ∷ []) reply
    refusal_kept told None reply = outcome_kept told reply.outcome reply.c' reply.comes reply.reply

  order_kept : (line : List ℕ) → BeginsTurn line → (told : HouseOrder) (o : Option Clearinghouse) → h.home ≡ o
      → RepliesOrder o h number line told said h' → LineKept h said h'
  order_kept line begins told None home reply = lines_kept (refused why.NoHouse ∷ []) reply
  order_kept line begins told (Some c) home reply = refusal_kept c home line begins told (early_refusal c told) reply

  asked_kept : (q : HouseQuestion) (o : Option Clearinghouse) → RepliesAsked o h number q said h' → LineKept h said h'
  asked_kept q None reply = lines_kept (refused why.NoHouse ∷ []) reply
  asked_kept q (Some c) reply = lines_kept (asked_said c q) reply

  made_kept : (line : List ℕ) → BeginsTurn line → (x : HouseNo) (node : ℕ) (o : Option Clearinghouse) → RepliesMade o h number line x node said h'
      → LineKept h said h'
  made_kept line begins x node None reply =
      turn_kept (record h { node = node }) line begins [] (answer_line answer.Done) done_ends_nowhere (new_clearinghouse x node) reply
  made_kept line begins x node (Some c) reply = lines_kept (refused why.HouseExists ∷ []) reply

  clock_kept : (time : ℕ) (o : Option Clearinghouse) → RepliesClock o h number time said h' → LineKept h said h'
  clock_kept time None reply = lines_kept (refused why.NoHouse ∷ []) reply
  clock_kept time (Some c) reply =
      NoTurn (ap (λ (s : Said). s.body) reply.0) (ap (λ (k : House). k.home) reply.1) (ap (λ (k : House). k.last) reply.1)

  more_kept : (many : Bool) (octets : List ℕ) → RepliesMoreIf many h number octets said h' → LineKept h said h'
  more_kept true octets reply = lines_kept (codes "refused TooLong" ∷ []) reply
  more_kept false octets reply =
      NoTurn (ap (λ (s : Said). s.body) reply.0) (ap (λ (k : House). k.home) reply.1) (ap (λ (k : House). k.last) reply.1)

  message_kept : (c : Clearinghouse) → h.home ≡ Some c → (many : Bool) (octets : List ℕ) → RepliesTakeIf many h c number octets said h'
      → LineKept h said h'
  message_kept c home true octets reply = lines_kept (codes "refused TooLong" ∷ []) reply
  message_kept c home false octets reply = order_kept (take_line octets) (take_begins octets) (order.Take octets) (Some c) home reply

  take_kept : (o : Option Clearinghouse) → h.home ≡ o → (octets : List ℕ) → RepliesTake o h number octets said h' → LineKept h said h'
  take_kept None home octets reply = lines_kept (refused why.NoHouse ∷ []) reply
  take_kept (Some c) home octets reply = message_kept c home (nat_lt MOST_MESSAGE (length octets)) octets reply

  words_kept : (words : List (List ℕ)) (says : HouseLine) → said_in words ≡ Ok (Some says) → RepliesTo h number words says said h' → LineKept h said h'
  words_kept words (asks.More octets) is reply = more_kept (nat_lt MOST_MESSAGE (length (h.more ++ octets))) (h.more ++ octets) reply
  words_kept words (asks.House x node) is reply = made_kept (with_spaces words) (line_begins words (asks.House x node) is) x node h.home reply
  words_kept words (asks.Clock time) is reply = clock_kept time h.home reply
  words_kept words (asks.Ask q) is reply = asked_kept q h.home reply
  words_kept words (asks.Order (order.Take octets)) is reply = take_kept h.home refl (h.more ++ octets) reply
  words_kept words (asks.Order told) is reply = order_kept (with_spaces words) (line_begins words (asks.Order told) is) told h.home refl reply

  pub line_kept : (line : List ℕ) → Responds h number line said h' → LineKept h said h'
  line_kept line reply = by (said_in (words_of line)) refl reply
    where
      by : (r : Result (Option HouseLine) ParseFault) → said_in (words_of line) ≡ r → RepliesIf h number (words_of line) r said h' → LineKept h said h'
      by (Ok None) is reply =
          NoTurn (ap (λ (s : Said). s.body) reply.0) (ap (λ (k : House). k.home) reply.1) (ap (λ (k : House). k.last) reply.1)
      by (Ok (Some says)) is reply = words_kept (words_of line) says is reply
      by (Err fault) is reply =
          NoTurn (ap (λ (s : Said). s.body) reply.0) (ap (λ (k : House). k.home) reply.1) (ap (λ (k : House). k.last) reply.1)

-- a record that a line gives is that of the last turn
pub last_of_reply : (h h' : House) (number : ℕ) (line octets : List ℕ) (said : Said) → Responds h number line said h' → said.body ≡ Some octets
    → IsTurnRecord h' h'.last octets
last_of_reply h h' number line octets said reply some = by (line_kept h number said h' line reply)
  where
    by : LineKept h said h' → IsTurnRecord h' h'.last octets
    by (NoTurn none home last) = absurd (cc (none, some))
    by (OneTurn others c is home turn record_is) =
        let same : others ≡ octets = cc (some, is) in
        subst (IsTurnRecord h' h'.last) same record_is

pub last_redone : (h h' : House) (body : List ℕ) → Redoes h body h' → IsBody body h'.entry h'.clock h'.last None
last_redone h h' body redoes = (last_of_reply (record h { clock = redoes.clock; more = [] }) h' 0 redoes.line body redoes.said redoes.does redoes.same).body

-- ---- what can be said again

-- a house has a turn, whether it was made or not
pub has_turn : (o : Option Clearinghouse) (last : List ℕ) → IsTurnText last → HasTurn o last
has_turn None last turn = tt
has_turn (Some c) last turn = turn

pub turn_after : (h h' : House) (number : ℕ) (line : List ℕ) (said : Said) → Responds h number line said h' → HasTurn h.home h.last
    → HasTurn h'.home h'.last
turn_after h h' number line said reply turn = by (line_kept h number said h' line reply)
  where
    by : LineKept h said h' → HasTurn h'.home h'.last
    by (NoTurn none home last) =
        subst (λ (o : Option Clearinghouse). HasTurn o h'.last) (sym home) (subst (λ (l : List ℕ). HasTurn h.home l) (sym last) turn)
    by (OneTurn octets c is home text record_is) = has_turn h'.home h'.last text
