-- What a house replies to a line, from what is said to it.
use Rattle.std.proofs.Common.{◌≡◌, ℕ, ◌+◌, Bool, true, false, List, [], ◌∷◌, ◌++◌, length, refl, sym, ap, subst, ◌∙◌}
use Rattle.std.specs.Prelude.{Option, Some, None, Result, Ok, Err, IfOk, OnOk, codes, nat_lt, not, is_some, if◌then◌else◌}
use Rattle.std.specs.declared.alloc.AllocError.{AllocError}
use Rattle.cds_stamps.specs.declared.numbers.HouseNo.{HouseNo}
use Rattle.clearinghouse.specs.declared.house.Clearinghouse.{Clearinghouse}
use Rattle.script_answers.specs.Texts.{answer_line}
use Rattle.script_answers.specs.declared.answer.Answer.TheVariants as answer
use Rattle.house_lines.specs.declared.line.HouseLine.{HouseLine}
use Rattle.house_lines.specs.declared.line.HouseLine.TheVariants as line
use Rattle.house_lines.specs.declared.line.HouseOrder.{HouseOrder}
use Rattle.house_lines.specs.declared.line.HouseOrder.TheVariants as order
use Rattle.house_lines.specs.declared.line.HouseQuestion.{HouseQuestion}
use Rattle.cell_runs.specs.Entries.{Post}
use Rattle.cell_runs.specs.LineAnswers.{refused}
use Rattle.house_turns.specs.declared.house.House.{House}
use Rattle.house_turns.specs.declared.house.TheConstants.{MOST_MESSAGE}
use Rattle.house_turns.specs.declared.said.Said.{Said}
use Rattle.house_serving.specs.Turns as serving
use Rattle.house_serving.specs.declared.responder.Reply.{Reply}
use Rattle.house_serving.specs.Replies.{said_in}
use Rattle.cell_script.specs.Words.{words_of}
use Rattle.cell_script.specs.declared.fault.ParseFault.{ParseFault}
use Rattle.house_lines.specs.LineRows as rows
use Rattle.script_answers.specs.Texts.{parse_fault_text}
use Rattle.script_answers.specs.declared.answer.ScriptRefusal.TheVariants as why
use Rattle.house_turns.specs.declared.said.Said.TheVariants.{Told, Turned}
use Rattle.house_turns.specs.LineOutcomes.{Outcome, Posts, Tells}
use Rattle.house_turns.specs.HouseReplies.{IsReply, RepliesAsked, RepliesClock, RepliesIf, RepliesMade, RepliesMore, RepliesMoreIf, RepliesOrder, RepliesTake, RepliesTakeIf, RepliesTo, Responds}
use Rattle.house_turns.specs.HouseReplies.{TellsLines, UnlessRefused, new_clearinghouse, take_line, tells_alone, turn_text, with_spaces}
use Rattle.house_turns.specs.HouseAnswers.{asked_said, early_refusal}
use Rattle.house_turns.specs.PrivateTurns.{ComesUnless, Does, Makes, Obeys, ReplyOf, Says, SaysAsked, SetsClock, TurnReply}

-- ---- replies

-- the house without the octets of a message
abbrev pub without_more : House → House
without_more h = record h { more = [] }

module _ (h : House) (number : ℕ) (words : List ℕ) where
  -- if some lines alone are said, the house is as it was
  told_lines : (s : Said) (lines : List (List ℕ)) (mid : House) (said : serving.Said) (h' : House) → Says number s (Tells lines)
      → ReplyOf mid number words s said h' → (said ≡ tells_alone number lines) × (h' ≡ mid)
  told_lines (Told text) lines mid said h' says reply =
      (reply.0 ∙ ap (λ (t : List ℕ). record { text = t; body = None }) says, reply.1)
  told_lines (Turned ps octets) lines mid said h' says reply = absurd says

  -- a turn
  turn_posts : (s : Said) (posts : List Post) (answer : List ℕ) (mid : House) (said : serving.Said) (h' : House) → Says number s (Posts posts answer)
      → ReplyOf mid number words s said h' → TurnReply mid number words posts answer said h'
  turn_posts (Told text) posts answer mid said h' says reply = absurd says
  turn_posts (Turned ps octets) posts answer mid said h' says reply =
      subst (λ (a : List ℕ). TurnReply mid number words posts a said h') says.1
      (subst (λ (p : List Post). TurnReply mid number words p octets.items said h') says.0 reply)

  module _ (s : Said) (said : serving.Said) (mid h' : House) (reply : ReplyOf (without_more mid) number words s said h') where
    -- nothing changed
    tells_lines : (lines : List (List ℕ)) → Says number s (Tells lines) → mid ≡ h → TellsLines h number lines said h'
    tells_lines lines says same =
        let told = told_lines s lines (without_more mid) said h' says reply in
        (told.0, told.1 ∙ ap without_more same)

    -- a question
    asked_reply : (o : Option Clearinghouse) (q : HouseQuestion) → mid ≡ h → SaysAsked o number q s → RepliesAsked o h number q said h'
    asked_reply None q same says = tells_lines (refused why.NoHouse ∷ []) says same
    asked_reply (Some c) q same says = tells_lines (asked_said c q) says same

    -- a line that makes the house
    made_reply : (o : Option Clearinghouse) (x : HouseNo) (n : ℕ) → Makes o number h mid x n s → RepliesMade o h number words x n said h'
    made_reply (Some c) x n makes = tells_lines (refused why.HouseExists ∷ []) makes.0 makes.1
    made_reply None x n makes =
        let turn = turn_posts s [] (answer_line answer.Done) (without_more mid) said h' makes.0 reply in
        record {
          text = turn.text;
          octets = turn.octets;
          body = turn.body;
          record_is = turn.record_is;
          after = turn.after ∙ ap (λ (m : House). record m { entry = m.entry + 1; more = []; last = turn_text words [] (answer_line answer.Done) }) makes.1;
        }

    -- one that sets the clock
    clock_reply : (o : Option Clearinghouse) (t : ℕ) → SetsClock o number h mid t s → RepliesClock o h number t said h'
    clock_reply None t sets = tells_lines (refused why.NoHouse ∷ []) sets.0 sets.1
    clock_reply (Some c) t sets =
        let told = told_lines s (answer_line answer.Done ∷ []) (without_more mid) said h' sets.0 reply in
        (told.0, told.1 ∙ ap without_more sets.1)

    -- an order
    module _ (c : Clearinghouse) (home : h.home ≡ Some c) (c' : Clearinghouse) (o : HouseOrder) (after : mid ≡ record h { home = Some c' }) where
      by_outcome : (out : Outcome) → Says number s out → IsReply h number words out c' said h'
      by_outcome (Tells lines) says =
          let told = told_lines s lines (without_more mid) said h' says reply in
          (told.0, told.1 ∙ ap without_more after)
      by_outcome (Posts posts answer) says =
          let turn = turn_posts s posts answer (without_more mid) said h' says reply in
          record {
            text = turn.text;
            octets = turn.octets;
            body = turn.body;
            record_is = turn.record_is;
            after = turn.after ∙ ap (λ (m : House). record m { entry = m.entry + 1; more = []; last = turn_text words posts answer }) after;
          }

      as_before : c' ≡ c → mid ≡ h
      as_before same =
          after ∙ ap (λ (d : Clearinghouse). record h { home = Some d }) same ∙ ap (λ (d : Option Clearinghouse). record h { home = d }) (sym home)

      by_refusal : (r : Option (List ℕ)) → ComesUnless r number c c' h.clock o s → UnlessRefused h c number words o r said h'
      by_refusal (Some refusal) comes = tells_lines (refusal ∷ []) comes.0 (as_before comes.1)
      by_refusal None comes = record { outcome = comes.outcome; c' = c'; comes = comes.comes; reply = by_outcome comes.outcome comes.says }

      -- what a clearinghouse does
      does_reply : Does number c c' h.clock o s → UnlessRefused h c number words o (early_refusal c o) said h'
      does_reply does = by_refusal (early_refusal c o) does

    order_reply : (home : Option Clearinghouse) → h.home ≡ home → (o : HouseOrder) → Obeys home number h mid o s → RepliesOrder home h number words o said h'
    order_reply None none o obeys = tells_lines (refused why.NoHouse ∷ []) obeys.0 obeys.1
    order_reply (Some c) some o obeys = does_reply c some obeys.0 o obeys.2 obeys.1

  -- the same of calls that may run out of memory
  module _ (r : Result Reply AllocError) (s : Said) (mid h' : House) (reply : IfOk r (λ t. ReplyOf (without_more mid) number words s (said_in t) h')) where
    pub asked_replied : (q : HouseQuestion) → mid ≡ h → SaysAsked h.home number q s → IfOk r (λ t. RepliesAsked h.home h number q (said_in t) h')
    asked_replied q same says = go r reply
      where
        go : (r : Result Reply AllocError) → IfOk r (λ t. ReplyOf (without_more mid) number words s (said_in t) h')
            → IfOk r (λ t. RepliesAsked h.home h number q (said_in t) h')
        go (Ok t) reply = asked_reply s (said_in t) mid h' reply h.home q same says
        go (Err e) reply = tt

    pub made_replied : (x : HouseNo) (n : ℕ) → Makes h.home number h mid x n s → IfOk r (λ t. RepliesMade h.home h number words x n (said_in t) h')
    made_replied x n makes = go r reply
      where
        go : (r : Result Reply AllocError) → IfOk r (λ t. ReplyOf (without_more mid) number words s (said_in t) h')
            → IfOk r (λ t. RepliesMade h.home h number words x n (said_in t) h')
        go (Ok t) reply = made_reply s (said_in t) mid h' reply h.home x n makes
        go (Err e) reply = tt

    pub clock_replied : (t : ℕ) → SetsClock h.home number h mid t s → IfOk r (λ k. RepliesClock h.home h number t (said_in k) h')
    clock_replied time sets = go r reply
      where
        go : (r : Result Reply AllocError) → IfOk r (λ t. ReplyOf (without_more mid) number words s (said_in t) h')
            → IfOk r (λ t. RepliesClock h.home h number time (said_in t) h')
        go (Ok t) reply = clock_reply s (said_in t) mid h' reply h.home time sets
        go (Err e) reply = tt

    pub order_replied : (o : HouseOrder) → Obeys h.home number h mid o s → IfOk r (λ t. RepliesOrder h.home h number words o (said_in t) h')
    order_replied o obeys = go r reply
      where
        go : (r : Result Reply AllocError) → IfOk r (λ t. ReplyOf (without_more mid) number words s (said_in t) h')
            → IfOk r (λ t. RepliesOrder h.home h number words o (said_in t) h')
        go (Ok t) reply = order_reply s (said_in t) mid h' reply h.home refl o obeys
        go (Err e) reply = tt

-- the reply to an order that is no `take`
pub words_replied : (r : Result Reply AllocError) (h h' : House) (number : ℕ) (ws : List (List ℕ)) (o : HouseOrder)
    → ((octets : List ℕ) → o ≡ order.Take octets → ⊥) → IfOk r (λ t. RepliesOrder h.home h number (with_spaces ws) o (said_in t) h')
    → IfOk r (λ t. RepliesTo h number ws (line.Order o) (said_in t) h')
words_replied r h h' number ws (order.Take octets) other replies = absurd (other octets refl)
words_replied r h h' number ws o other replies = replies

-- the reply to a message
pub take_replied : (r : Result Reply AllocError) (h : House) (number : ℕ) (words octets : List ℕ) (c c' : Clearinghouse) (s : Said) (h' : House)
    → h.home ≡ Some c → h.more ≡ [] → Does number c c' h.clock (order.Take octets) s
    → IfOk r (λ t. ReplyOf (record h { home = Some c' }) number words s (said_in t) h')
    → IfOk r (λ t. RepliesOrder (Some c) h number words (order.Take octets) (said_in t) h')
take_replied (Err e) h number words octets c c' s h' home none does reply = tt
take_replied (Ok t) h number words octets c c' s h' home none does reply =
    does_reply h number words s (said_in t) (record h { home = Some c' }) h'
    (subst (λ (m : List ℕ). ReplyOf (record h { home = Some c'; more = m }) number words s (said_in t) h') none reply)
    c home c' (order.Take octets) refl does

-- ---- octets of messages

module _ (r : Result Reply AllocError) (h mid h' : House) (number : ℕ) (octets : List ℕ) (s : Said) where
  -- some lines are said, and no octets are kept any more
  told_replied : (lines : List (List ℕ)) → mid ≡ without_more h → Says number s (Tells lines) → IfOk r (λ t. ReplyOf mid number [] s (said_in t) h')
      → IfOk r (λ t. TellsLines h number lines (said_in t) h')
  told_replied lines same says reply = go r reply
    where
      go : (r : Result Reply AllocError) → IfOk r (λ t. ReplyOf mid number [] s (said_in t) h') → IfOk r (λ t. TellsLines h number lines (said_in t) h')
      go (Ok t) reply = let told = told_lines h number [] s lines mid (said_in t) h' says reply in (told.0, told.1 ∙ same)
      go (Err e) reply = tt

  -- too many octets in front of a message
  pub more_refused : nat_lt MOST_MESSAGE (length (h.more ++ octets)) ≡ true → mid ≡ without_more h → Says number s (Tells (codes "refused TooLong" ∷ []))
      → IfOk r (λ t. ReplyOf mid number [] s (said_in t) h') → IfOk r (λ t. RepliesMore h number octets (said_in t) h')
  more_refused many same says reply =
      subst (λ (b : Bool). IfOk r (λ t. RepliesMoreIf b h number (h.more ++ octets) (said_in t) h')) (sym many)
      (told_replied (codes "refused TooLong" ∷ []) same says reply)

  -- octets that are kept
  pub more_kept : nat_lt MOST_MESSAGE (length (h.more ++ octets)) ≡ false → mid ≡ record h { more = h.more ++ octets }
      → Says number s (Tells (answer_line answer.Done ∷ [])) → IfOk r (λ t. ReplyOf mid number [] s (said_in t) h')
      → IfOk r (λ t. RepliesMore h number octets (said_in t) h')
  more_kept few same says reply =
      subst (λ (b : Bool). IfOk r (λ t. RepliesMoreIf b h number (h.more ++ octets) (said_in t) h')) (sym few) (go r reply)
    where
      go : (r : Result Reply AllocError) → IfOk r (λ t. ReplyOf mid number [] s (said_in t) h')
          → IfOk r (λ t. RepliesMoreIf false h number (h.more ++ octets) (said_in t) h')
      go (Ok t) reply =
          let told = told_lines h number [] s (answer_line answer.Done ∷ []) mid (said_in t) h' says reply in
          (told.0, told.1 ∙ same)
      go (Err e) reply = tt

  -- a message for no house
  pub take_unmade : h.home ≡ None → mid ≡ without_more h → Says number s (Tells (refused why.NoHouse ∷ []))
      → IfOk r (λ t. ReplyOf mid number [] s (said_in t) h') → IfOk r (λ t. RepliesTake h.home h number octets (said_in t) h')
  take_unmade none same says reply =
      subst (λ (o : Option Clearinghouse). IfOk r (λ t. RepliesTake o h number octets (said_in t) h')) (sym none)
      (told_replied (refused why.NoHouse ∷ []) same says reply)

  -- a message of too many octets
  pub take_refused : (c : Clearinghouse) → h.home ≡ Some c → nat_lt MOST_MESSAGE (length octets) ≡ true → mid ≡ without_more h
      → Says number s (Tells (codes "refused TooLong" ∷ [])) → IfOk r (λ t. ReplyOf mid number [] s (said_in t) h')
      → IfOk r (λ t. RepliesTake h.home h number octets (said_in t) h')
  take_refused c home many same says reply =
      subst (λ (o : Option Clearinghouse). IfOk r (λ t. RepliesTake o h number octets (said_in t) h')) (sym home)
      (subst (λ (b : Bool). IfOk r (λ t. RepliesTakeIf b h c number octets (said_in t) h')) (sym many)
      (told_replied (codes "refused TooLong" ∷ []) same says reply))

-- octets that a house kept count no more once it takes them
module _ (h : House) (number : ℕ) (words : List ℕ) (c : Clearinghouse) (said : serving.Said) (h' : House) where
  without_reply : (o : Outcome) (c' : Clearinghouse) → IsReply (without_more h) number words o c' said h' → IsReply h number words o c' said h'
  without_reply (Tells lines) c' reply = reply
  without_reply (Posts posts answer) c' reply = record { text = reply.text; octets = reply.octets; body = reply.body; record_is = reply.record_is; after = reply.after }

  without_refusal : (o : Option (List ℕ)) (l : HouseOrder) → UnlessRefused (without_more h) c number words l o said h'
      → UnlessRefused h c number words l o said h'
  without_refusal (Some refusal) l reply = reply
  without_refusal None l reply =
      record { outcome = reply.outcome; c' = reply.c'; comes = reply.comes; reply = without_reply reply.outcome reply.c' reply.reply }

-- the reply to a message that is not too large
pub take_all_replied : (r : Result Reply AllocError) (h h' : House) (number : ℕ) (octets : List ℕ) (c : Clearinghouse) → h.home ≡ Some c
    → nat_lt MOST_MESSAGE (length octets) ≡ false
    → IfOk r (λ t. RepliesOrder (Some c) (without_more h) number (take_line octets) (order.Take octets) (said_in t) h')
    → IfOk r (λ t. RepliesTake h.home h number octets (said_in t) h')
take_all_replied r h h' number octets c home few reply =
    subst (λ (o : Option Clearinghouse). IfOk r (λ t. RepliesTake o h number octets (said_in t) h')) (sym home)
    (subst (λ (b : Bool). IfOk r (λ t. RepliesTakeIf b h c number octets (said_in t) h')) (sym few) (go r reply))
  where
    go : (r : Result Reply AllocError) → IfOk r (λ t. RepliesOrder (Some c) (without_more h) number (take_line octets) (order.Take octets) (said_in t) h')
        → IfOk r (λ t. RepliesOrder (Some c) h number (take_line octets) (order.Take octets) (said_in t) h')
    go (Ok t) reply = without_refusal h number (take_line octets) c (said_in t) h' (early_refusal c (order.Take octets)) (order.Take octets) reply
    go (Err e) reply = tt

-- ---- tests

-- there is none, or one, by a test
pub none_by : {A : Type 0} (o : Option A) (b : Bool) → is_some o ≡ not b → b ≡ true → o ≡ None
none_by None b is test = refl
none_by (Some x) true is test = absurd (cc)
none_by (Some x) false is test = absurd (cc)

pub some_by : {A : Type 0} (o : Option A) (b : Bool) → is_some o ≡ not b → b ≡ false → (x : A) × (o ≡ Some x)
some_by None true is test = absurd (cc)
some_by None false is test = absurd (cc)
some_by (Some x) b is test = (x, refl)

-- octets are too many, or not, by a test
pub many_by : (fits many : Bool) → fits ≡ not many → fits ≡ false → many ≡ true
many_by fits true is test = refl
many_by fits false is test = absurd (cc)

pub few_by : (fits many : Bool) → fits ≡ not many → fits ≡ true → many ≡ false
few_by fits true is test = absurd (cc)
few_by fits false is test = refl

-- the house after that
pub gathered_none : (h mid : House) (octets : List ℕ) (fits : Bool) → mid ≡ record h { more = if fits then octets else [] } → fits ≡ false → mid ≡ without_more h
gathered_none h mid octets fits is test = is ∙ ap (λ (b : Bool). record h { more = if b then octets else [] }) test

pub gathered_all : (h mid : House) (octets : List ℕ) (fits : Bool) → mid ≡ record h { more = if fits then octets else [] } → fits ≡ true
    → mid ≡ record h { more = octets }
gathered_all h mid octets fits is test = is ∙ ap (λ (b : Bool). record h { more = if b then octets else [] }) test

-- ---- the clearinghouse that a house has

module _ (r : Result Said AllocError) (number : ℕ) (old : House) where
  -- a house is made once
  pub make_refused : (x : HouseNo) (n : ℕ) → is_some old.home ≡ true → IfOk r (λ s. Says number s (Tells (refused why.HouseExists ∷ [])))
      → IfOk r (λ s. Makes old.home number old old x n s)
  make_refused x n some = go r old.home some
    where
      go : (r : Result Said AllocError) (o : Option Clearinghouse) → is_some o ≡ true → IfOk r (λ s. Says number s (Tells (refused why.HouseExists ∷ [])))
          → IfOk r (λ s. Makes o number old old x n s)
      go (Err e) o some says = tt
      go (Ok s) None some says = absurd (cc)
      go (Ok s) (Some c) some says = (says, refl)

  pub make_made : (x : HouseNo) (n : ℕ) (c : Clearinghouse) → is_some old.home ≡ false → c ≡ new_clearinghouse x n
      → IfOk r (λ s. Says number s (Posts [] (answer_line answer.Done)))
      → IfOk r (λ s. Makes old.home number old (record old { home = Some c; node = n }) x n s)
  make_made x n c none new = go r old.home none
    where
      go : (r : Result Said AllocError) (o : Option Clearinghouse) → is_some o ≡ false → IfOk r (λ s. Says number s (Posts [] (answer_line answer.Done)))
          → IfOk r (λ s. Makes o number old (record old { home = Some c; node = n }) x n s)
      go (Err e) o none says = tt
      go (Ok s) None none says = (says, ap (λ (c : Clearinghouse). record old { home = Some c; node = n }) new)
      go (Ok s) (Some c) none says = absurd (cc)

  -- its clock is set, if it was made
  pub clock_refused : (t : ℕ) → old.home ≡ None → IfOk r (λ s. Says number s (Tells (refused why.NoHouse ∷ [])))
      → IfOk r (λ s. SetsClock old.home number old old t s)
  clock_refused t none says = subst (λ (o : Option Clearinghouse). IfOk r (λ s. SetsClock o number old old t s)) (sym none) (go r says)
    where
      go : (r : Result Said AllocError) → IfOk r (λ s. Says number s (Tells (refused why.NoHouse ∷ [])))
          → IfOk r (λ s. SetsClock None number old old t s)
      go (Err e) says = tt
      go (Ok s) says = (says, refl)

  pub clock_set : (t : ℕ) (c : Clearinghouse) → old.home ≡ Some c → IfOk r (λ s. Says number s (Tells (answer_line answer.Done ∷ [])))
      → IfOk r (λ s. SetsClock old.home number old (record old { clock = t }) t s)
  clock_set t c some says =
      subst (λ (o : Option Clearinghouse). IfOk r (λ s. SetsClock o number old (record old { clock = t }) t s)) (sym some) (go r says)
    where
      go : (r : Result Said AllocError) → IfOk r (λ s. Says number s (Tells (answer_line answer.Done ∷ [])))
          → IfOk r (λ s. SetsClock (Some c) number old (record old { clock = t }) t s)
      go (Err e) says = tt
      go (Ok s) says = (says, refl)

  -- it is asked, if it was made
  pub home_unasked : (l : HouseOrder) → old.home ≡ None → IfOk r (λ s. Says number s (Tells (refused why.NoHouse ∷ [])))
      → IfOk r (λ s. Obeys old.home number old old l s)
  home_unasked l none says = subst (λ (o : Option Clearinghouse). IfOk r (λ s. Obeys o number old old l s)) (sym none) (go r says)
    where
      go : (r : Result Said AllocError) → IfOk r (λ s. Says number s (Tells (refused why.NoHouse ∷ []))) → IfOk r (λ s. Obeys None number old old l s)
      go (Err e) says = tt
      go (Ok s) says = (says, refl)

  pub home_asked : (l : HouseOrder) (c c' : Clearinghouse) → old.home ≡ Some c
      → IfOk r (λ s. Does number c c' old.clock l s)
      → IfOk r (λ s. Obeys old.home number old (record old { home = Some c' }) l s)
  home_asked l c c' some does =
      subst (λ (o : Option Clearinghouse). IfOk r (λ s. Obeys o number old (record old { home = Some c' }) l s)) (sym some) (go r does)
    where
      go : (r : Result Said AllocError) → IfOk r (λ s. Does number c c' old.clock l s)
          → IfOk r (λ s. Obeys (Some c) number old (record old { home = Some c' }) l s)
      go (Err e) does = tt
      go (Ok s) does = (c', does, refl)

-- ---- lines

-- the reply to a line, by what the line says
pub responds_by : (r : Result Reply AllocError) (h h' : House) (number : ℕ) (octets : List ℕ) (says : Result (Option HouseLine) ParseFault)
    → rows.said_in (words_of octets) ≡ says → IfOk r (λ t. RepliesIf h number (words_of octets) says (said_in t) h')
    → IfOk r (λ t. Responds h number octets (said_in t) h')
responds_by r h h' number octets says is reply =
    subst (λ (e : Result (Option HouseLine) ParseFault). IfOk r (λ t. RepliesIf h number (words_of octets) e (said_in t) h')) (sym is) reply

-- the reply to a line that has a fault
pub fault_replied : (r : Result Reply AllocError) (h h' : House) (number : ℕ) (words : List (List ℕ)) (fault : ParseFault)
    → IfOk r (λ t. said_in t ≡ record { text = parse_fault_text number fault; body = None }) → OnOk r (h' ≡ without_more h)
    → IfOk r (λ t. RepliesIf h number words (Err fault) (said_in t) h')
fault_replied (Ok t) h h' number words fault said after = (said, after)
fault_replied (Err e) h h' number words fault said after = tt

-- the reply to a message whose octets were kept, and are kept no more
pub whole_taken : (r : Result Reply AllocError) (h mid h' : House) (number : ℕ) (all octets : List ℕ) (c : Clearinghouse) → octets ≡ all → mid ≡ without_more h
    → IfOk r (λ t. RepliesOrder (Some c) mid number (take_line octets) (order.Take octets) (said_in t) h')
    → IfOk r (λ t. RepliesOrder (Some c) (without_more h) number (take_line all) (order.Take all) (said_in t) h')
whole_taken r h mid h' number all octets c same is reply =
    subst (λ (o : List ℕ). IfOk r (λ t. RepliesOrder (Some c) (without_more h) number (take_line o) (order.Take o) (said_in t) h')) same
    (subst (λ (k : House). IfOk r (λ t. RepliesOrder (Some c) k number (take_line octets) (order.Take octets) (said_in t) h')) is reply)
