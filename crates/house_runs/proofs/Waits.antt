-- What one line comes to where no house was made yet.
use Rattle.std.proofs.Common.{◌≡◌, ℕ, Bool, true, false, List, ◌++◌, length, refl, sym, ap, subst, ◌∙◌}
use Rattle.std.specs.Prelude.{Option, Some, None, Result, Ok, Err, nat_lt}
use Rattle.std.specs.FinMap.{get-empty}
use Rattle.cds_stamps.specs.declared.numbers.HouseNo.{HouseNo}
use Rattle.cell_model.specs.Cells as model
use Rattle.cell_script.specs.Words.{words_of}
use Rattle.cell_script.specs.declared.fault.ParseFault.{ParseFault}
use Rattle.house_directory.specs.ModelReplicas.{StandsSlot}
use Rattle.house_directory.specs.declared.states.DirState.TheVariants as state
use Rattle.house_directory.specs.declared.states.Held.{Held}
use Rattle.clearinghouse.specs.LawfulHouses.{IsLawful}
use Rattle.clearinghouse.specs.ModelHouses.{StandsHouse}
use Rattle.clearinghouse.specs.declared.house.Clearinghouse.{Clearinghouse}
use Rattle.house_lines.specs.LineRows.{said_in}
use Rattle.house_lines.specs.declared.line.HouseLine.{HouseLine}
use Rattle.house_lines.specs.declared.line.HouseLine.TheVariants as asks
use Rattle.house_lines.specs.declared.line.HouseOrder.TheVariants as order
use Rattle.house_serving.specs.Turns.{Said}
use Rattle.cell_runs.specs.Orders.{new_house}
use Rattle.house_turns.specs.declared.house.House.{House}
use Rattle.house_turns.specs.declared.house.TheConstants.{MOST_MESSAGE}
use Rattle.house_turns.specs.HouseReplies.{RepliesAsked, RepliesClock, RepliesIf, RepliesMade, RepliesMoreIf, RepliesOrder, RepliesTake, RepliesTo, Responds, TellsNone, with_spaces, new_clearinghouse}
use Rattle.house_turns.proofs.PlainLines.{line_begins}
use Rattle.house_runs.specs.Tales.{IsMakingBody, LineSays}
use Rattle.house_runs.proofs.JoinedWords.{words_again}
use Rattle.house_runs.proofs.Lines.{Runs}

-- a new clearinghouse is for the new house of the model
pub new_stands : (x : HouseNo) (node : ℕ) → StandsHouse (new_clearinghouse x node) (new_house node)
new_stands x node = record {
  node = refl;
  floor = refl;
  slots = λ d. subst (λ o. StandsSlot x.0 0 o model.Absent) (sym (get-empty _ (record { 0 = d }))) tt;
}

pub new_lawful : (x : HouseNo) (node : ℕ) → IsLawful (new_clearinghouse x node)
new_lawful x node = λ dir h is. absurd (none h (sym (get-empty _ dir) ∙ is))
  where
    none : (h : Held) → None ≡ Some (state.Held h) → ⊥
    none h is = absurd (cc)

-- the record of the line that made this house, and the house that runs then
pub record Makes (body : List ℕ) (mid : House) : Type 0 where
  pub number : HouseNo
  pub node : ℕ
  pub makes : IsMakingBody body (record { house = number.0; node = node })
  pub runs : Runs number.0 mid (new_clearinghouse number node)

-- a line gives no record, and there is no house yet, nor an entry more; or it makes one
pub data LineWaits (h : House) (said : Said) (mid : House) : Type 0 where
  NotMade : said.body ≡ None → mid.home ≡ None → mid.entry ≡ h.entry → LineWaits h said mid
  MadeNow : (body : List ℕ) → said.body ≡ Some body → Makes body mid → LineWaits h said mid

module _ (h : House) (home : h.home ≡ None) (number : ℕ) (said : Said) (mid : House) where
  not_made : said.body ≡ None → mid.home ≡ h.home → mid.entry ≡ h.entry → LineWaits h said mid
  not_made none same entry = NotMade none (same ∙ home) entry

  refused_none : TellsNone h number said mid → LineWaits h said mid
  refused_none told = not_made (ap (λ (s : Said). s.body) told.0) (ap (λ (k : House). k.home) told.1) (ap (λ (k : House). k.entry) told.1)

  module _ (words : List (List ℕ)) where
    makes : (x : HouseNo) (node : ℕ) → said_in words ≡ Ok (Some (asks.House x node)) → LineSays (with_spaces words) (asks.House x node) → RepliesMade None h number (with_spaces words) x node said mid
        → LineWaits h said mid
    makes x node read is reply =
        let c : Clearinghouse = new_clearinghouse x node in
        let made : mid.home ≡ Some c = ap (λ (k : House). k.home) reply.after in
        MadeNow reply.octets reply.body (record {
          number = x;
          node = node;
          makes = record {
            number = mid.entry;
            clock = mid.clock;
            line = with_spaces words;
            line_ends_nowhere = (line_begins words (asks.House x node) read).plain;
            house = x;
            says = is;
            numbered = refl;
            is = reply.record_is.body;
          };
          runs = record { home = made; number = refl; lawful = new_lawful x node };
        })

    more_kept : (many : Bool) (octets : List ℕ) → RepliesMoreIf many h number octets said mid → LineWaits h said mid
    more_kept true octets reply = not_made (ap (λ (s : Said). s.body) reply.0) (ap (λ (k : House). k.home) reply.1) (ap (λ (k : House). k.entry) reply.1)
    more_kept false octets reply = not_made (ap (λ (s : Said). s.body) reply.0) (ap (λ (k : House). k.home) reply.1) (ap (λ (k : House). k.entry) reply.1)

    by_line : (says : HouseLine) → said_in words ≡ Ok (Some says) → LineSays (with_spaces words) says → RepliesTo h number words says said mid → LineWaits h said mid
    by_line (asks.House x n) read is reply =
        makes x n read is (subst (λ (o : Option Clearinghouse). RepliesMade o h number (with_spaces words) x n said mid) home reply)
    by_line (asks.Clock t) read is reply = refused_none (subst (λ (o : Option Clearinghouse). RepliesClock o h number t said mid) home reply)
    by_line (asks.More octets) read is reply = more_kept (nat_lt MOST_MESSAGE (length (h.more ++ octets))) (h.more ++ octets) reply
    by_line (asks.Ask q) read is reply = refused_none (subst (λ (o : Option Clearinghouse). RepliesAsked o h number q said mid) home reply)
    by_line (asks.Order (order.Take octets)) read is reply =
        refused_none (subst (λ (o : Option Clearinghouse). RepliesTake o h number (h.more ++ octets) said mid) home reply)
    by_line (asks.Order told) read is reply =
        refused_none (subst (λ (o : Option Clearinghouse). RepliesOrder o h number (with_spaces words) told said mid) home reply)

  -- a line where no house was made yet
  pub line_waits : (line : List ℕ) → Responds h number line said mid → LineWaits h said mid
  line_waits line reply = by (said_in (words_of line)) refl reply
    where
      by : (r : Result (Option HouseLine) ParseFault) → said_in (words_of line) ≡ r → RepliesIf h number (words_of line) r said mid → LineWaits h said mid
      by (Ok None) is reply = not_made (ap (λ (s : Said). s.body) reply.0) (ap (λ (k : House). k.home) reply.1) (ap (λ (k : House). k.entry) reply.1)
      by (Ok (Some says)) is reply = by_line (words_of line) says is (ap said_in (words_again line) ∙ is) reply
      by (Err fault) is reply = not_made (ap (λ (s : Said). s.body) reply.0) (ap (λ (k : House). k.home) reply.1) (ap (λ (k : House). k.entry) reply.1)
