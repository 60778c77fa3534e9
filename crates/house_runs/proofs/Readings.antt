-- Records tell one tale.
use Rattle.std.proofs.Common.{◌≡◌, ◌⊎◌, inl, inr, ℕ, List, [], ◌∷◌, ◌++◌, get_or, refl, sym, ap, subst, ◌∙◌, append_assoc, arith}
use Rattle.std.specs.Prelude.{Option, None, Some, Result, Ok, codes, map}
use Rattle.std.proofs.lemmas.List.Concat.{flat_map-cons}
use Rattle.cds_stamps.specs.declared.numbers.HouseNo.{HouseNo}
use Rattle.cell_script.specs.Words.{words_of}
use Rattle.cell_script.specs.declared.fault.ParseFault.{ParseFault}
use Rattle.script_answers.specs.Texts.{answer_line}
use Rattle.script_answers.specs.declared.answer.Answer.TheVariants as answer
use Rattle.house_entries.specs.Bodies.{IsBody}
use Rattle.house_entries.proofs.BodyLemmas.{one_record}
use Rattle.house_lines.specs.LineRows.{said_in}
use Rattle.house_lines.specs.declared.line.HouseLine.{HouseLine}
use Rattle.house_lines.specs.declared.line.HouseLine.TheVariants as asks
use Rattle.cell_runs.specs.Entries.{Entry, Post, Started, Turned, TurnEntry}
use Rattle.cell_runs.specs.Orders.{MadeHouse}
use Rattle.house_turns.specs.HouseReplies.{posts_text, turn_text}
use Rattle.house_turns.specs.LineOutcomes.{HasNoEnd}
use Rattle.house_turns.proofs.PlainTexts.{text_ends_nowhere}
use Rattle.house_turns.proofs.RunningLines.{halves}
use Rattle.house_turns.proofs.SaidAgain.{post_has_no_end}
use Rattle.house_runs.specs.Tales.{AllAlike, AreAlike, AreAlikeTurns, IsEntryBody, IsMakingBody, IsNewBody, IsSegmentBody, IsTurnBody, SaysOrder, TellEntries, TellEntry}
use Rattle.house_runs.specs.Tales.{TellHouse, TellMade, TellNew, TellNone, TellSegment, post_kept}

-- messages in a record, by the line of the first
posts_first : (p : Post) (ps : List Post) (rest : List ℕ) → posts_text (p ∷ ps) ++ rest ≡ post_kept p ++ (10 ∷ (posts_text ps ++ rest))
posts_first p ps rest =
    ap (λ (t : List ℕ). t ++ rest) (flat_map-cons (λ (p : Post). post_kept p ++ 10 ∷ []) p ps)
    ∙ append_assoc (post_kept p ++ 10 ∷ []) (posts_text ps) rest ∙ append_assoc (post_kept p) (10 ∷ []) (posts_text ps ++ rest)

-- an answer, with its line end, is left
not_over : (before answer : List ℕ) → [] ≡ before ++ (answer ++ 10 ∷ []) → ⊥
not_over [] [] over = absurd (cc over)
not_over [] (a ∷ answer) over = absurd (cc over)
not_over (b ∷ before) answer over = absurd (cc over)

-- messages and an answer are those of one reading
same_posts : (ps qs : List Post) (a b : List ℕ) → HasNoEnd a → HasNoEnd b → posts_text ps ++ (a ++ 10 ∷ []) ≡ posts_text qs ++ (b ++ 10 ∷ [])
    → (map post_kept ps ≡ map post_kept qs) × (a ≡ b)
same_posts [] [] a b plain plain' same = (refl, (halves 10 a [] b [] plain plain' same).0)
same_posts (p ∷ ps) [] a b plain plain' same =
    let cut = halves 10 (post_kept p) (posts_text ps ++ (a ++ 10 ∷ [])) b [] (post_has_no_end p) plain' (sym (posts_first p ps (a ++ 10 ∷ [])) ∙ same) in
    absurd (not_over (posts_text ps) a (sym cut.1))
same_posts [] (q ∷ qs) a b plain plain' same =
    let cut = halves 10 a [] (post_kept q) (posts_text qs ++ (b ++ 10 ∷ [])) plain (post_has_no_end q) (same ∙ posts_first q qs (b ++ 10 ∷ [])) in
    absurd (not_over (posts_text qs) b cut.1)
same_posts (p ∷ ps) (q ∷ qs) a b plain plain' same =
    let cut = halves 10 (post_kept p) (posts_text ps ++ (a ++ 10 ∷ [])) (post_kept q) (posts_text qs ++ (b ++ 10 ∷ [])) (post_has_no_end p) (post_has_no_end q)
    (sym (posts_first p ps (a ++ 10 ∷ [])) ∙ same ∙ posts_first q qs (b ++ 10 ∷ [])) in
    let rest = same_posts ps qs a b plain plain' cut.1 in
    ((λ i. cut.0 i ∷ rest.0 i), rest.1)

-- a record tells one turn
one_turn : (body : List ℕ) (e f : TurnEntry) → IsTurnBody body e → IsTurnBody body f → AreAlikeTurns e f
one_turn body e f is too =
    let same = one_record body is.number e.clock (turn_text is.line e.posts e.answer) None too.number f.clock (turn_text too.line f.posts f.answer) None is.is too.is in
    let cut = halves 10 is.line (posts_text e.posts ++ (e.answer ++ 10 ∷ [])) too.line (posts_text f.posts ++ (f.answer ++ 10 ∷ [])) is.line_ends_nowhere
    too.line_ends_nowhere same.2 in
    let posts = same_posts e.posts f.posts e.answer f.answer is.answer_ends_nowhere too.answer_ends_nowhere cut.1 in
    record {
      clock = same.1;
      line = is.line;
      says = is.says;
      says_too = subst (λ l. SaysOrder l f.order) (sym cut.0) too.says;
      posts = posts.0;
      answer = posts.1;
    }

-- ---- records of one kind

-- octets of two records that are no turns
same_image : (octets : List ℕ) (n c : ℕ) (t i : List ℕ) (n' c' : ℕ) (t' i' : List ℕ) → IsBody octets n c t (Some i) → IsBody octets n' c' t' (Some i')
    → (t ≡ t') × (i ≡ i')
same_image octets n c t i n' c' t' i' one other =
    let same = one_record octets n c t (Some i) n' c' t' (Some i') one other in
    let image : i ≡ i' = cc (same.3) in
    (same.2, image)

turn_or_image : (octets : List ℕ) (n c : ℕ) (t : List ℕ) (n' c' : ℕ) (t' i' : List ℕ) → IsBody octets n c t None → IsBody octets n' c' t' (Some i') → ⊥
turn_or_image octets n c t n' c' t' i' one other =
    let same = (one_record octets n c t None n' c' t' (Some i') one other).3 in absurd (cc same)

start_or_segment : (last rest : List ℕ) → codes "start" ++ (10 ∷ last) ≡ codes "segment " ++ rest → ⊥
start_or_segment last rest same = let e : 116 ≡ 101 = ap (λ (l : List ℕ). get_or l 1 0) same in omega (arith, e)

segment_or_entry : (body : List ℕ) (e : Entry) → IsSegmentBody body → IsEntryBody body e → ⊥
segment_or_entry body (Started image) is too =
    start_or_segment too.last is.rest (sym (same_image body is.number is.clock (codes "segment " ++ is.rest) is.image too.number too.clock
    (codes "start" ++ (10 ∷ too.last)) image is.is too.is).0)
segment_or_entry body (Turned e) is too =
    turn_or_image body too.number e.clock (turn_text too.line e.posts e.answer) is.number is.clock (codes "segment " ++ is.rest) is.image too.is is.is

one_entry : (body : List ℕ) (e f : Entry) → IsEntryBody body e → IsEntryBody body f → AreAlike e f
one_entry body (Started image) (Started other) is too =
    (same_image body is.number is.clock (codes "start" ++ (10 ∷ is.last)) image too.number too.clock (codes "start" ++ (10 ∷ too.last)) other is.is too.is).1
one_entry body (Turned e) (Turned f) is too = one_turn body e f is too
one_entry body (Started image) (Turned f) is too =
    turn_or_image body too.number f.clock (turn_text too.line f.posts f.answer) is.number is.clock (codes "start" ++ (10 ∷ is.last)) image too.is is.is
one_entry body (Turned e) (Started image) is too =
    turn_or_image body is.number e.clock (turn_text is.line e.posts e.answer) too.number too.clock (codes "start" ++ (10 ∷ too.last)) image is.is too.is

-- ---- entries

-- what the first record of these tells
abbrev FirstOf : List (List ℕ) → List Entry → Type 0
FirstOf [] es = es ≡ []
FirstOf (body ∷ bodies) es =
    (IsSegmentBody body × TellEntries bodies es) ⊎ ((e : Entry) × (rest : List Entry) × (es ≡ e ∷ rest) × IsEntryBody body e × TellEntries bodies rest)

first_of : (bodies : List (List ℕ)) (es : List Entry) → TellEntries bodies es → FirstOf bodies es
first_of _ _ TellNone = refl
first_of _ _ (TellSegment body bodies es is rest) = inl (is, rest)
first_of _ _ (TellEntry body bodies e es is rest) = inr (e, es, refl, is, rest)

one_tale : (bodies : List (List ℕ)) (es fs : List Entry) → TellEntries bodies es → TellEntries bodies fs → AllAlike es fs
one_tale [] es fs tell too =
    subst (λ l. AllAlike l fs) (sym (first_of [] es tell)) (subst (λ l. AllAlike [] l) (sym (first_of [] fs too)) tt)
one_tale (body ∷ bodies) es fs tell too =
    by (first_of (body ∷ bodies) es tell) (first_of (body ∷ bodies) fs too) (λ es' fs' tell' too'. one_tale bodies es' fs' tell' too')
  where
    by : FirstOf (body ∷ bodies) es → FirstOf (body ∷ bodies) fs
        → ((es' fs' : List Entry) → TellEntries bodies es' → TellEntries bodies fs' → AllAlike es' fs') → AllAlike es fs
    by (inl a) (inl b) later = later es fs a.1 b.1
    by (inl a) (inr b) later = absurd (segment_or_entry body b.0 a.0 b.3)
    by (inr a) (inl b) later = absurd (segment_or_entry body a.0 b.0 a.3)
    by (inr a) (inr b) later =
        subst (λ l. AllAlike l fs) (sym a.2)
        (subst (λ l. AllAlike (a.0 ∷ a.1) l) (sym b.2) (one_entry body a.0 b.0 a.3 b.3, later a.1 b.1 a.4 b.4))

-- ---- the house that was made

-- the answer of a line that makes a house
abbrev done : List ℕ
done = answer_line answer.Done

making_or_new : (body : List ℕ) (made : MadeHouse) → IsMakingBody body made → IsNewBody body → ⊥
making_or_new body made is new =
    let same = one_record body is.number is.clock (turn_text is.line [] done) None new.number new.clock (codes "new" ++ 10 ∷ []) None is.is new.is in
    let cut = halves 10 is.line (done ++ 10 ∷ []) (codes "new") [] is.line_ends_nowhere (text_ends_nowhere (codes "new") refl) same.2 in
    not_over [] done (sym cut.1)

one_making : (body : List ℕ) (made other : MadeHouse) → IsMakingBody body made → IsMakingBody body other → made ≡ other
one_making body made other is too =
    let same = one_record body is.number is.clock (turn_text is.line [] done) None too.number too.clock (turn_text too.line [] done) None is.is too.is in
    let cut = halves 10 is.line (done ++ 10 ∷ []) too.line (done ++ 10 ∷ []) is.line_ends_nowhere too.line_ends_nowhere same.2 in
    let says : ◌≡◌ {A = Result (Option HouseLine) ParseFault} (Ok (Some (asks.House is.house made.node))) (Ok (Some (asks.House too.house other.node))) =
    sym is.says ∙ ap (λ l. said_in (words_of l)) cut.0 ∙ too.says in
    let number : is.house ≡ too.house = cc says in
    let node : made.node ≡ other.node = cc says in
    let house : made.house ≡ other.house = is.numbered ∙ ap (λ (n : HouseNo). n.0) number ∙ sym too.numbered in
    λ i. record { house = house i; node = node i }

-- what the first record of these tells
abbrev FirstMade : List (List ℕ) → MadeHouse → List Entry → Type 0
FirstMade [] made es = ⊥
FirstMade (body ∷ bodies) made es = (IsMakingBody body made × TellEntries bodies es) ⊎ (IsNewBody body × TellHouse bodies made es)

first_made : (bodies : List (List ℕ)) (made : MadeHouse) (es : List Entry) → TellHouse bodies made es → FirstMade bodies made es
first_made _ _ _ (TellMade body bodies made es is rest) = inl (is, rest)
first_made _ _ _ (TellNew body bodies made es is rest) = inr (is, rest)

-- the law
pub one_house : (bodies : List (List ℕ)) (made other : MadeHouse) (es fs : List Entry) → TellHouse bodies made es → TellHouse bodies other fs
    → (made ≡ other) × AllAlike es fs
one_house [] made other es fs tell too = absurd (first_made [] made es tell)
one_house (body ∷ bodies) made other es fs tell too =
    by (first_made (body ∷ bodies) made es tell) (first_made (body ∷ bodies) other fs too) (λ tell' too'. one_house bodies made other es fs tell' too')
  where
    by : FirstMade (body ∷ bodies) made es → FirstMade (body ∷ bodies) other fs
        → (TellHouse bodies made es → TellHouse bodies other fs → (made ≡ other) × AllAlike es fs) → (made ≡ other) × AllAlike es fs
    by (inl a) (inl b) later = (one_making body made other a.0 b.0, one_tale bodies es fs a.1 b.1)
    by (inl a) (inr b) later = absurd (making_or_new body made a.0 b.0)
    by (inr a) (inl b) later = absurd (making_or_new body other b.0 a.0)
    by (inr a) (inr b) later = later a.1 b.1
