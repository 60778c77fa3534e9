-- Records that cannot be the next ones.
use Rattle.std.proofs.Common.{◌≡◌, ◌≢◌, ℕ, ◌+◌, false, List, [], ◌∷◌, ◌++◌, length, drop, slice_index, Option, Some, None, Ok, refl, sym, ◌∙◌, ap, subst, append_assoc, length-append, arith}
use Rattle.std.specs.Prelude.{codes, decimal, is_none, option_copied}
use Rattle.std.proofs.lemmas.List.{append_cancel_left}
use Rattle.std.proofs.lemmas.List.Elements.{All-cons, All-nil}
use Rattle.cell_script.specs.Words.{words_of}
use Rattle.house_entries.specs.declared.body.Body.{Body}
use Rattle.house_lines.specs.LineRows.{said_in}
use Rattle.house_lines.specs.declared.line.HouseLine.TheVariants as asks
use Rattle.house_logs.specs.declared.log.LogEntry.{LogEntry}
use Rattle.house_logs.specs.declared.log.LoggedTurn.{LoggedTurn}
use Rattle.house_logs.specs.declared.log.PostedOctets.{PostedOctets}
use Rattle.house_logs.specs.declared.reader.LogReader.{LogReader}
use Rattle.house_logs.specs.declared.text.TurnText.{TurnText}
use Rattle.house_logs.specs.Logs.{making_text}
use Rattle.house_logs.specs.PrivateReads.{AsMaking, AsNew, AsSegment, AsStart, AsTurn, CanBeNew, CanFollow, CanGoOn, CanMake, CanStart, CanTurn, IsAfterRunning, IsTurnText, MakesHouse, known_in}
use Rattle.house_logs.specs.Records.{CanBe, image_of}
use Rattle.house_logs.specs.TurnTexts.{HasNoEnd, IsAnswer, posts_text, turn_text}
use Rattle.house_logs.proofs.RecordLemmas.{known_end}
use Rattle.house_logs.proofs.TextLemmas.{one_line, turn_line_is}

-- ---- texts

word_of_three : (a b c : ℕ) → a ≢ 10 → b ≢ 10 → c ≢ 10 → HasNoEnd (a ∷ b ∷ c ∷ [])
word_of_three a b c x y z =
    All-cons (λ (o : ℕ). o ≢ 10) a (b ∷ c ∷ []) x (All-cons (λ (o : ℕ). o ≢ 10) b (c ∷ []) y (All-cons (λ (o : ℕ). o ≢ 10) c [] z (All-nil (λ (o : ℕ). o ≢ 10))))

-- the text of a turn is none of a process without a house
new_no_turn : (line : List ℕ) (posts : List PostedOctets) (answer : List ℕ) → HasNoEnd line → turn_text line posts answer ≡ codes "new" ++ 10 ∷ [] → ⊥
new_no_turn line posts answer none is =
    let two = one_line line (posts_text posts ++ (answer ++ 10 ∷ [])) (codes "new") [] none
    (word_of_three 110 101 119 (λ e. absurd (omega (arith, e))) (λ e. absurd (omega (arith, e))) (λ e. absurd (omega (arith, e)))) is in
    let all = ap length two.1 in
    let left = length-append (posts_text posts) (answer ++ 10 ∷ []) in
    let right = length-append answer (10 ∷ []) in
    absurd (omega (arith, all, left, right))

-- the answer of a house that is made
ok_says : IsAnswer (codes "ok")
ok_says = record {
  no_end =
      All-cons (λ (o : ℕ). o ≢ 10) 111 (107 ∷ []) (λ e. absurd (omega (arith, e)))
      (All-cons (λ (o : ℕ). o ≢ 10) 107 [] (λ e. absurd (omega (arith, e))) (All-nil (λ (o : ℕ). o ≢ 10)));
  other = λ rest is. (let first : 111 ≡ 112 = ap (λ (l : List ℕ). slice_index l 0) is in absurd (omega (arith, first)));
}

making_turn : (text line : List ℕ) → HasNoEnd line → text ≡ making_text line → IsTurnText text line [] (codes "ok")
making_turn text line none is = record { parts = record { no_end = none; each = tt; says = ok_says }; is = is }

-- messages and an answer that are the answer `ok`
said_ok : (posts : List PostedOctets) (answer : List ℕ) → HasNoEnd answer → posts_text posts ++ (answer ++ 10 ∷ []) ≡ codes "ok" ++ 10 ∷ []
    → (posts ≡ []) × (answer ≡ codes "ok")
said_ok [] answer none is = (refl, (one_line answer [] (codes "ok") [] none ok_says.no_end is).0)
said_ok (p ∷ ps) answer none is =
    let first : 112 ≡ 111 = ap (λ (l : List ℕ). slice_index l 0) is in
    absurd (omega (arith, first))

-- ---- what does not follow

pub none_entry : (r : LogReader) (b : Body) → CanFollow r b → option_copied b.image ≡ None → b.text.now ≡ codes "new" ++ 10 ∷ [] → b.number ≡ r.number
none_entry r b (AsNew is) bare new = is.number ∙ sym is.last
none_entry r b (AsMaking is) bare new = absurd (new_no_turn is.line [] (codes "ok") is.no_end (sym is.text ∙ new))
none_entry r b (AsTurn is) bare new = absurd (new_no_turn is.line is.turn.posts.items is.turn.answer is.says.parts.no_end (sym is.text ∙ new))
none_entry r b (AsStart is) bare new = absurd (cc (bare, is.shows))
none_entry r b (AsSegment is) bare new = absurd (cc (bare, is.shows))

pub an_entry : (r : LogReader) (b : Body) → CanFollow r b → option_copied b.image ≡ None → b.text.now ≢ codes "new" ++ 10 ∷ [] → b.number ≡ r.number + 1
an_entry r b (AsNew is) bare other = absurd (other is.text)
an_entry r b (AsMaking is) bare other = is.number
an_entry r b (AsTurn is) bare other = is.number
an_entry r b (AsStart is) bare other = is.number
an_entry r b (AsSegment is) bare other = absurd (cc (bare, is.shows))

pub a_segment : (r : LogReader) (b : Body) (image rest : List ℕ) → CanFollow r b → option_copied b.image ≡ Some image → b.text.now ≡ codes "segment " ++ rest
    → b.number ≡ r.number
a_segment r b image rest (AsNew is) shows begins = absurd (cc (shows, is.bare))
a_segment r b image rest (AsMaking is) shows begins = absurd (cc (shows, is.bare))
a_segment r b image rest (AsTurn is) shows begins = absurd (cc (shows, is.bare))
a_segment r b image rest (AsStart is) shows begins =
    let second : 116 ≡ 101 = ap (λ (l : List ℕ). slice_index l 1) (sym is.text ∙ begins) in
    absurd (omega (arith, second))
a_segment r b image rest (AsSegment is) shows begins = is.number

pub a_start : (r : LogReader) (b : Body) (image : List ℕ) → CanFollow r b → option_copied b.image ≡ Some image
    → ((rest : List ℕ) → b.text.now ≢ codes "segment " ++ rest) → b.number ≡ r.number + 1
a_start r b image (AsNew is) shows other = absurd (cc (shows, is.bare))
a_start r b image (AsMaking is) shows other = absurd (cc (shows, is.bare))
a_start r b image (AsTurn is) shows other = absurd (cc (shows, is.bare))
a_start r b image (AsStart is) shows other = is.number
a_start r b image (AsSegment is) shows other =
    absurd (other ((decimal r.number ++ 10 ∷ []) ++ is.rest) (is.text ∙ append_assoc (codes "segment ") (decimal r.number ++ 10 ∷ []) is.rest))

-- ---- turns

pub no_turn : (r : LogReader) (b : Body) (parts : TurnText) → IsTurnText b.text.now parts.line.now parts.posts.items parts.answer.now
    → ((t : LoggedTurn) → said_in (words_of parts.line.now) ≢ Ok (Some (asks.Order t.order))) → ¬ CanTurn r b
no_turn r b parts text none is =
    let same = turn_line_is b.text.now is.line parts.line.now is.turn.answer parts.answer.now is.turn.posts.items parts.posts.items
    (record { parts = is.says.parts; is = is.text }) text in
    none is.turn (ap (λ (l : List ℕ). said_in (words_of l)) (sym same) ∙ is.says.says)

pub no_making : (r : LogReader) (b : Body) (parts : TurnText) → IsTurnText b.text.now parts.line.now parts.posts.items parts.answer.now
    → (parts.posts.items ≡ [] → parts.answer.now ≡ codes "ok" → ¬ MakesHouse parts.line.now) → ¬ CanMake r b
no_making r b parts text none is =
    let two = one_line parts.line.now (posts_text parts.posts.items ++ (parts.answer.now ++ 10 ∷ [])) is.line (codes "ok" ++ 10 ∷ [])
    text.parts.no_end is.no_end (sym text.is ∙ is.text) in
    let said = said_ok parts.posts.items parts.answer.now text.parts.says.no_end two.1 in
    none said.0 said.1 (subst MakesHouse (sym two.0) is.makes)

pub no_text : (r : LogReader) (b : Body)
    → ((line : List ℕ) (posts : List PostedOctets) (answer : List ℕ) → ¬ IsTurnText b.text.now line posts answer) → (¬ CanMake r b) × (¬ CanTurn r b)
no_text r b none = (
  λ is. none is.line [] (codes "ok") (making_turn b.text.now is.line is.no_end is.text),
  λ is. none is.line is.turn.posts.items is.turn.answer (record { parts = is.says.parts; is = is.text }),
)

pub not_due : (r : LogReader) (b : Body) → b.number ≢ r.number + 1 → (¬ CanMake r b) × (¬ CanTurn r b)
not_due r b other = (λ is. other is.number, λ is. other is.number)

pub no_house_turns : (r : LogReader) (b : Body) → r.made ≡ None → ¬ CanTurn r b
no_house_turns r b none is = absurd (cc (ap is_none none, is.some))

pub no_house_again : (r : LogReader) (b : Body) → is_none r.made ≡ false → ¬ CanMake r b
no_house_again r b some is = absurd (cc (ap is_none is.none, some))

-- ---- starts and segments

pub no_start : (r : LogReader) (b : Body) (turn : List ℕ) → b.text.now ≡ codes "start" ++ (10 ∷ turn)
    → ¬ ((is_none r.made ≡ false) × ((b.number ≡ r.number + 1) × ((b.clock ≡ 0) × (turn ≡ r.turn.items)))) → ¬ CanStart r b
no_start r b turn text none is =
    none (is.some, (is.number, (is.clock, ap (λ (l : List ℕ). drop 6 l) (sym text ∙ is.text))))

pub not_last : (r : LogReader) (b : Body) → ¬ ((is_none r.made ≡ false) × ((b.number ≡ r.number) × (b.clock ≡ r.clock))) → ¬ CanGoOn r b
not_last r b none is = none (is.some, (is.number, is.clock))

pub no_segment_line : (r : LogReader) (b : Body) (line : List ℕ) → line ≡ codes "segment " ++ (decimal r.number ++ 10 ∷ [])
    → ((rest : List ℕ) → b.text.now ≢ line ++ rest) → ¬ CanGoOn r b
no_segment_line r b line begins none is = none is.rest (is.text ∙ ap (λ (l : List ℕ). l ++ is.rest) (sym begins))

pub not_running : (r : LogReader) (b : Body) (line rest : List ℕ) → line ≡ codes "segment " ++ (decimal r.number ++ 10 ∷ []) → b.text.now ≡ line ++ rest
    → ¬ IsAfterRunning rest r.turn.items → ¬ CanGoOn r b
not_running r b line rest begins parts none is =
    let same = append_cancel_left line rest is.rest (sym parts ∙ is.text ∙ ap (λ (l : List ℕ). l ++ is.rest) (sym begins)) in
    none (subst (λ (l : List ℕ). IsAfterRunning l r.turn.items) (sym same) is.after)

pub other_known : (r : LogReader) (b : Body) (image : List ℕ) → option_copied b.image ≡ Some image → ¬ CanBe (known_in r.image r.entries.items) image
    → ¬ CanGoOn r b
other_known r b image shows none is =
    let same : is.image ≡ image = cc (sym is.shows ∙ shows) in
    none (subst (CanBe (known_in r.image r.entries.items)) same is.known)

-- an image that the last entry does not have
pub not_shown : (image : Option (List ℕ)) (es front : List LogEntry) (e : LogEntry) (known : Option (List ℕ)) (i : List ℕ) → es ≡ front ++ e ∷ []
    → known ≡ image_of e → ¬ CanBe known i → ¬ CanBe (known_in image es) i
not_shown image es front e known i parts is none can =
    none (subst (λ (o : Option (List ℕ)). CanBe o i) (known_end image es front e parts ∙ sym is) can)

-- ---- all of them

pub bare_none : (r : LogReader) (b : Body) → option_copied b.image ≡ None → ¬ CanBeNew r b → (¬ CanMake r b) × (¬ CanTurn r b) → ¬ CanFollow r b
bare_none r b bare new turns (AsNew is) = new is
bare_none r b bare new turns (AsMaking is) = turns.0 is
bare_none r b bare new turns (AsTurn is) = turns.1 is
bare_none r b bare new turns (AsStart is) = absurd (cc (bare, is.shows))
bare_none r b bare new turns (AsSegment is) = absurd (cc (bare, is.shows))

pub shown_none : (r : LogReader) (b : Body) (image : List ℕ) → option_copied b.image ≡ Some image → ¬ CanStart r b → ¬ CanGoOn r b → ¬ CanFollow r b
shown_none r b image shows start segment (AsNew is) = absurd (cc (shows, is.bare))
shown_none r b image shows start segment (AsMaking is) = absurd (cc (shows, is.bare))
shown_none r b image shows start segment (AsTurn is) = absurd (cc (shows, is.bare))
shown_none r b image shows start segment (AsStart is) = start is
shown_none r b image shows start segment (AsSegment is) = segment is

-- the text of a new process is no turn
pub new_turns : (r : LogReader) (b : Body) → b.text.now ≡ codes "new" ++ 10 ∷ [] → (¬ CanMake r b) × (¬ CanTurn r b)
new_turns r b new = (
  λ is. new_no_turn is.line [] (codes "ok") is.no_end (sym is.text ∙ new),
  λ is. new_no_turn is.line is.turn.posts.items is.turn.answer is.says.parts.no_end (sym is.text ∙ new),
)

pub other_new : (r : LogReader) (b : Body) → b.text.now ≢ codes "new" ++ 10 ∷ [] → ¬ CanBeNew r b
other_new r b other is = other is.text

pub not_new : (r : LogReader) (b : Body)
    → ¬ ((r.made ≡ None) × ((b.number ≡ 0) × ((b.clock ≡ 0) × (b.text.now ≡ codes "new" ++ 10 ∷ [])))) → ¬ CanBeNew r b
not_new r b none is = none (is.none, (is.number, (is.clock, is.text)))

-- that of a start begins otherwise than that of a segment
pub start_no_segment : (r : LogReader) (b : Body) (turn : List ℕ) → b.text.now ≡ codes "start" ++ (10 ∷ turn) → ¬ CanGoOn r b
start_no_segment r b turn text is =
    let second : 101 ≡ 116 = ap (λ (l : List ℕ). slice_index l 1) (sym is.text ∙ text) in
    absurd (omega (arith, second))

pub other_start : (r : LogReader) (b : Body) → ((rest : List ℕ) → b.text.now ≢ (codes "start" ++ 10 ∷ []) ++ rest) → ¬ CanStart r b
other_start r b none is = none r.turn.items is.text
