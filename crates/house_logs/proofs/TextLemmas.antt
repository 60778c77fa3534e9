-- Texts by their lines.
use Rattle.std.proofs.Common.{◌≡◌, ◌≢◌, ◌<◌, ◌+◌, ℕ, List, [], ◌∷◌, ◌++◌, length, take, drop, slice_index, refl, sym, ◌∙◌, ap, subst, arith, append_assoc, length-append}
use Rattle.std.specs.Prelude.{◌==◌, if◌then◌else◌, Bool, true, false, IfNone, IfOk, IfSome, Option, Some, None, Result, Ok, Err, codes}
use Rattle.std.specs.List.{AllByRecursion}
use Rattle.std.proofs.lemmas.List.{append_cancel_left}
use Rattle.std.proofs.lemmas.List.Elements.{All-head, All-tail}
use Rattle.std.proofs.Math.Seq.{drop-append_seam, take-append_seam}
use Rattle.std.specs.Bool.{Decides, OnFalse}
use Rattle.std.specs.Borrow.{Bor}
use Rattle.std.proofs.lemmas.Bool.{false≢true}
use Rattle.std.proofs.lemmas.Bool.Decides.{nat_tests}
use Rattle.cds_stamps.specs.Outcomes.{Answers}
use Rattle.cds_stamps.specs.declared.alloc_or.AllocOr.{AllocOr}
use Rattle.cds_stamps.specs.declared.alloc_or.AllocOr.TheVariants.{Fault, OutOfMemory}
use Rattle.cds_stamps.specs.declared.numbers.HouseNo.{HouseNo}
use Rattle.house_logs.specs.Reads.{OfFault}
use Rattle.cell_script.specs.declared.fault.ParseFault.{ParseFault}
use Rattle.cell_script.specs.declared.fault.ParseFault.TheVariants.{WrongCount}
use Rattle.cell_script.specs.WordForms.{◌>>=◌, One, Takes, Words, check_count, next_word, said_at, take_words}
use Rattle.cell_script.specs.Words.{house_of, octets_of, words_of}
use Rattle.house_logs.specs.declared.log.PostedOctets.{PostedOctets}
use Rattle.house_logs.specs.PrivateReads.{AreRunning, AreSaid, IsAfterRunning, IsTurnText}
use Rattle.house_logs.specs.Records.{running_text}
use Rattle.house_logs.specs.TurnTexts.{AreWordsOf, HasNoEnd, IsPost, post_line, posts_text}

-- ---- what a text begins with

-- a text that is too short begins with none
pub few_after : (text front : List ℕ) → length text < length front → (rest : List ℕ) → text ≢ front ++ rest
few_after text front few rest is =
    let all = ap length is in
    let size = length-append front rest in
    absurd (omega (arith, few, all, size))

-- nor does one whose first octets are others
pub other_front : (text front begin : List ℕ) → begin ≡ take (length front) text → begin ≢ front → (rest : List ℕ) → text ≢ front ++ rest
other_front text front begin is differs rest same = differs (is ∙ ap (take (length front)) same ∙ take-append_seam front rest)

-- ---- where the first line ends

-- a line ends among these
pub has_end : (xs ys : List ℕ) → HasNoEnd (xs ++ (10 ∷ ys)) → ⊥
has_end [] ys none = All-head (λ (b : ℕ). b ≢ 10) 10 ys none refl
has_end (x ∷ xs) ys none = has_end xs ys (All-tail (λ (b : ℕ). b ≢ 10) x (xs ++ (10 ∷ ys)) none)

-- a text has one first line
pub one_line : (xs ys us vs : List ℕ) → HasNoEnd xs → HasNoEnd us → xs ++ (10 ∷ ys) ≡ us ++ (10 ∷ vs) → (xs ≡ us) × (ys ≡ vs)
one_line [] ys [] vs none none' same = (refl, ap (λ (l : List ℕ). drop 1 l) same)
one_line [] ys (u ∷ us) vs none none' same =
    absurd (All-head (λ (b : ℕ). b ≢ 10) u us none' (sym (ap (λ (l : List ℕ). slice_index l 0) same)))
one_line (x ∷ xs) ys [] vs none none' same =
    absurd (All-head (λ (b : ℕ). b ≢ 10) x xs none (ap (λ (l : List ℕ). slice_index l 0) same))
one_line (x ∷ xs) ys (u ∷ us) vs none none' same =
    let first : x ≡ u = ap (λ (l : List ℕ). slice_index l 0) same in
    let rest = one_line xs ys us vs (All-tail (λ (b : ℕ). b ≢ 10) x xs none) (All-tail (λ (b : ℕ). b ≢ 10) u us none')
    (ap (λ (l : List ℕ). drop 1 l) same) in
    (ap (λ (b : ℕ). b ∷ xs) first ∙ ap (λ (l : List ℕ). u ∷ l) rest.0, rest.1)

-- ---- lines of skulks

running_first : (l : List ℕ) (ls : List (List ℕ)) → running_text (l ∷ ls) ≡ codes "running " ++ (l ++ (10 ∷ running_text ls))
running_first l ls =
    append_assoc (codes "running ") (l ++ 10 ∷ []) (running_text ls)
    ∙ ap (λ (t : List ℕ). codes "running " ++ t) (append_assoc l (10 ∷ []) (running_text ls))

behind_line : (lines : List (List ℕ)) (text words line behind : List ℕ) → AllByRecursion HasNoEnd lines → text ≡ running_text lines
    → text ≡ codes "running " ++ words → words ≡ line ++ (10 ∷ behind) → HasNoEnd line → AreRunning behind
behind_line [] text words line behind each are begins parts none = absurd (cc (are, begins))
behind_line (l ∷ ls) text words line behind each are begins parts none =
    let same = append_cancel_left (codes "running ") words (l ++ (10 ∷ running_text ls)) (sym begins ∙ are ∙ running_first l ls) in
    let two = one_line line behind l (running_text ls) none each.0 (sym parts ∙ same) in
    record { lines = ls; each = each.1; are = two.1 }

-- a text is lines of skulks if what is after its first line is
pub record AreAlike (text rest : List ℕ) : Type 0 where
  pub to : AreRunning text → AreRunning rest
  pub back : AreRunning rest → AreRunning text

pub alike_none : (text : List ℕ) → AreAlike text text
alike_none text = record { to = λ r. r; back = λ r. r }

pub alike_more : (text rest words line behind : List ℕ) → AreAlike text rest → rest ≡ codes "running " ++ words → words ≡ line ++ (10 ∷ behind) → HasNoEnd line
    → AreAlike text behind
alike_more text rest words line behind so begins parts none = record {
  to = λ r. (let here = so.to r in behind_line here.lines rest words line behind here.each here.are begins parts none);
  back = λ r. so.back (record {
    lines = line ∷ r.lines;
    each = (none, r.each);
    are =
        begins ∙ ap (λ (w : List ℕ). codes "running " ++ w) (parts ∙ ap (λ (b : List ℕ). line ++ (10 ∷ b)) r.are) ∙ sym (running_first line r.lines);
  });
}

-- a text that does not begin as such a line is none
no_line : (lines : List (List ℕ)) (text : List ℕ) → text ≡ running_text lines → text ≢ [] → ((words : List ℕ) → text ≢ codes "running " ++ words) → ⊥
no_line [] text are some other = some are
no_line (l ∷ ls) text are some other = other (l ++ (10 ∷ running_text ls)) (are ∙ running_first l ls)

pub running_not : (text rest : List ℕ) → AreAlike text rest → rest ≢ [] → ((words : List ℕ) → rest ≢ codes "running " ++ words) → AreRunning text → ⊥
running_not text rest so some other r = let here = so.to r in no_line here.lines rest here.are some other

-- nor is one without an end
no_end_of : (lines : List (List ℕ)) (text words : List ℕ) → text ≡ running_text lines → text ≡ codes "running " ++ words → HasNoEnd words → ⊥
no_end_of [] text words are begins none = absurd (cc (are, begins))
no_end_of (l ∷ ls) text words are begins none =
    let same = append_cancel_left (codes "running ") words (l ++ (10 ∷ running_text ls)) (sym begins ∙ are ∙ running_first l ls) in
    has_end l (running_text ls) (subst HasNoEnd same none)

pub running_endless : (text rest words : List ℕ) → AreAlike text rest → rest ≡ codes "running " ++ words → HasNoEnd words → AreRunning text → ⊥
running_endless text rest words so begins none r = let here = so.to r in no_end_of here.lines rest words here.are begins none

pub running_done : (text rest : List ℕ) → AreAlike text rest → rest ≡ [] → AreRunning text
running_done text rest so empty = so.back (record { lines = []; each = tt; are = empty })

-- ---- what comes after them

-- octets in two parts, of which the second are as many
pub same_parts : (a b c d : List ℕ) → a ++ b ≡ c ++ d → length b ≡ length d → (a ≡ c) × (b ≡ d)
same_parts a b c d same size =
    let left = length-append a b in
    let right = length-append c d in
    let all = ap length same in
    let front : length a ≡ length c = omega (arith, left, right, all, size) in (
      sym (take-append_seam a b) ∙ ap (take (length a)) same ∙ ap (λ (n : ℕ). take n (c ++ d)) front ∙ take-append_seam c d,
      sym (drop-append_seam a b) ∙ ap (drop (length a)) same ∙ ap (λ (n : ℕ). drop n (c ++ d)) front ∙ drop-append_seam c d,
    )

pub after_parts : (octets text front back : List ℕ) → octets ≡ front ++ back → length back ≡ length text → IsAfterRunning octets text → (back ≡ text) × AreRunning front
after_parts octets text front back parts size is =
    let two = same_parts front back (running_text is.lines) text (sym parts ∙ is.are) size in
    (two.1, record { lines = is.lines; each = is.each; are = two.0 })

pub parts_after : (octets text front back : List ℕ) → octets ≡ front ++ back → back ≡ text → AreRunning front → IsAfterRunning octets text
parts_after octets text front back parts same is = record {
  lines = is.lines;
  each = is.each;
  are = parts ∙ ap (λ (l : List ℕ). l ++ back) is.are ∙ ap (λ (l : List ℕ). running_text is.lines ++ l) same;
}

pub few_running : (octets text : List ℕ) → length octets < length text → IsAfterRunning octets text → ⊥
few_running octets text few is =
    let all = ap length is.are in
    let size = length-append (running_text is.lines) text in
    absurd (omega (arith, few, all, size))

-- ---- messages and answers

posts_first : (p : PostedOctets) (ps : List PostedOctets) (rest : List ℕ) → posts_text (p ∷ ps) ++ rest ≡ post_line p ++ (10 ∷ (posts_text ps ++ rest))
posts_first p ps rest =
    append_assoc (post_line p ++ 10 ∷ []) (posts_text ps) rest ∙ append_assoc (post_line p) (10 ∷ []) (posts_text ps ++ rest)

posts_more : (ps : List PostedOctets) (p : PostedOctets) (rest : List ℕ) → posts_text (ps ++ p ∷ []) ++ rest ≡ posts_text ps ++ (post_line p ++ (10 ∷ rest))
posts_more [] p rest = posts_first p [] rest
posts_more (q ∷ ps) p rest =
    posts_first q (ps ++ p ∷ []) rest ∙ ap (λ (l : List ℕ). post_line q ++ (10 ∷ l)) (posts_more ps p rest)
    ∙ sym (posts_first q ps (post_line p ++ (10 ∷ rest)))

each_more : (ps : List PostedOctets) (p : PostedOctets) → AllByRecursion IsPost ps → IsPost p → AllByRecursion IsPost (ps ++ p ∷ [])
each_more [] p each is = (is, tt)
each_more (q ∷ ps) p each is = (each.0, each_more ps p each.1 is)

-- a text is the messages so far and a rest; what the text is as messages and an answer, the rest is
pub record PartsLeft (text rest : List ℕ) (posts : List PostedOctets) : Type 0 where
  pub so_far : text ≡ posts_text posts ++ rest
  pub each : AllByRecursion IsPost posts
  pub left : (ps : List PostedOctets) (answer : List ℕ) → AreSaid text ps answer → (qs : List PostedOctets) × AreSaid rest qs answer

pub parts_none : (text : List ℕ) → PartsLeft text text []
parts_none text = record { so_far = refl; each = tt; left = λ ps answer is. (ps, is) }

-- the first line of messages and an answer: a message, or the answer
first_is_post : (qs : List PostedOctets) (rest line behind answer words : List ℕ) → AreSaid rest qs answer → rest ≡ line ++ (10 ∷ behind) → HasNoEnd line
    → line ≡ codes "post " ++ words → (p : PostedOctets) × (rs : List PostedOctets) × IsPost p × (line ≡ post_line p) × AreSaid behind rs answer
first_is_post [] rest line behind answer words is parts none begins =
    let two = one_line line behind answer [] none is.says.no_end (sym parts ∙ is.is) in
    absurd (is.says.other words (sym two.0 ∙ begins))
first_is_post (q ∷ qs) rest line behind answer words is parts none begins =
    let two = one_line line behind (post_line q) (posts_text qs ++ (answer ++ 10 ∷ [])) none is.each.0.no_end
    (sym parts ∙ is.is ∙ posts_first q qs (answer ++ 10 ∷ [])) in
    (q, qs, is.each.0, two.0, record { each = is.each.1; says = is.says; is = two.1 })

-- one message more was read
pub parts_more : (text rest line behind words : List ℕ) (posts : List PostedOctets) (p : PostedOctets) → PartsLeft text rest posts
    → rest ≡ line ++ (10 ∷ behind) → HasNoEnd line → line ≡ codes "post " ++ words → line ≡ post_line p
    → AreWordsOf (drop 1 (words_of (post_line p))) p → PartsLeft text behind (posts ++ p ∷ [])
parts_more text rest line behind words posts p so parts none begins is said = record {
  so_far =
      so.so_far ∙ ap (λ (l : List ℕ). posts_text posts ++ l) (parts ∙ ap (λ (l : List ℕ). l ++ (10 ∷ behind)) is) ∙ sym (posts_more posts p behind);
  each = each_more posts p so.each (record { words = said; no_end = subst HasNoEnd is none });
  left = λ ps answer all. (let here = so.left ps answer all in let first = first_is_post here.0 rest line behind answer words here.1 parts none begins in (first.1, first.4));
}

-- a message is none
pub parts_bad : (text rest line behind words : List ℕ) (posts : List PostedOctets) → PartsLeft text rest posts → rest ≡ line ++ (10 ∷ behind) → HasNoEnd line
    → line ≡ codes "post " ++ words → ((p : PostedOctets) → IsPost p → line ≢ post_line p) → (ps : List PostedOctets) (answer : List ℕ) → ¬ AreSaid text ps answer
parts_bad text rest line behind words posts so parts none begins bad ps answer all =
    let here = so.left ps answer all in
    let first = first_is_post here.0 rest line behind answer words here.1 parts none begins in
    bad first.0 first.2 first.3

-- no message is next
begins_post : (p : PostedOctets) → post_line p ≡ codes "post " ++ drop 5 (post_line p)
begins_post p = refl

no_post : (qs : List PostedOctets) (rest line behind answer : List ℕ) → AreSaid rest qs answer → rest ≡ line ++ (10 ∷ behind) → HasNoEnd line
    → ((words : List ℕ) → line ≢ codes "post " ++ words) → behind ≡ []
no_post [] rest line behind answer is parts none other = (one_line line behind answer [] none is.says.no_end (sym parts ∙ is.is)).1
no_post (q ∷ qs) rest line behind answer is parts none other =
    let two = one_line line behind (post_line q) (posts_text qs ++ (answer ++ 10 ∷ [])) none is.each.0.no_end
    (sym parts ∙ is.is ∙ posts_first q qs (answer ++ 10 ∷ [])) in
    absurd (other (drop 5 (post_line q)) (two.0 ∙ begins_post q))

pub parts_long : (text rest line behind : List ℕ) (posts : List PostedOctets) → PartsLeft text rest posts → rest ≡ line ++ (10 ∷ behind) → HasNoEnd line
    → ((words : List ℕ) → line ≢ codes "post " ++ words) → behind ≢ [] → (ps : List PostedOctets) (answer : List ℕ) → ¬ AreSaid text ps answer
parts_long text rest line behind posts so parts none other more ps answer all =
    let here = so.left ps answer all in more (no_post here.0 rest line behind answer here.1 parts none other)

-- the answer is the last line
pub parts_all : (text rest line behind : List ℕ) (posts : List PostedOctets) → PartsLeft text rest posts → rest ≡ line ++ (10 ∷ behind) → HasNoEnd line
    → ((words : List ℕ) → line ≢ codes "post " ++ words) → behind ≡ [] → AreSaid text posts line
parts_all text rest line behind posts so parts none other empty = record {
  each = so.each;
  says = record { no_end = none; other = other };
  is = so.so_far ∙ ap (λ (l : List ℕ). posts_text posts ++ l) (parts ∙ ap (λ (l : List ℕ). line ++ (10 ∷ l)) empty);
}

-- no line ends
endless : (qs : List PostedOctets) (rest answer : List ℕ) → AreSaid rest qs answer → HasNoEnd rest → ⊥
endless [] rest answer is none = has_end answer [] (subst HasNoEnd is.is none)
endless (q ∷ qs) rest answer is none =
    has_end (post_line q) (posts_text qs ++ (answer ++ 10 ∷ [])) (subst HasNoEnd (is.is ∙ posts_first q qs (answer ++ 10 ∷ [])) none)

pub parts_endless : (text rest : List ℕ) (posts : List PostedOctets) → PartsLeft text rest posts → HasNoEnd rest → (ps : List PostedOctets) (answer : List ℕ) → ¬ AreSaid text ps answer
parts_endless text rest posts so none ps answer all = let here = so.left ps answer all in endless here.0 rest answer here.1 none

-- ---- turns

pub turn_none : (text : List ℕ) → HasNoEnd text → (line : List ℕ) (posts : List PostedOctets) (answer : List ℕ) → ¬ IsTurnText text line posts answer
turn_none text none line posts answer is = has_end line (posts_text posts ++ (answer ++ 10 ∷ [])) (subst HasNoEnd is.is none)

pub turn_other : (text first rest : List ℕ) → text ≡ first ++ (10 ∷ rest) → HasNoEnd first
    → ((posts : List PostedOctets) (answer : List ℕ) → ¬ AreSaid rest posts answer) → (line : List ℕ) (posts : List PostedOctets) (answer : List ℕ)
    → ¬ IsTurnText text line posts answer
turn_other text first rest parts none other line posts answer is =
    let two = one_line first rest line (posts_text posts ++ (answer ++ 10 ∷ [])) none is.parts.no_end (sym parts ∙ is.is) in
    other posts answer (record { each = is.parts.each; says = is.parts.says; is = two.1 })

pub turn_said : (text line rest answer : List ℕ) (posts : List PostedOctets) → text ≡ line ++ (10 ∷ rest) → HasNoEnd line → AreSaid rest posts answer
    → IsTurnText text line posts answer
turn_said text line rest answer posts parts none said = record {
  parts = record { no_end = none; each = said.each; says = said.says };
  is = parts ∙ ap (λ (l : List ℕ). line ++ (10 ∷ l)) said.is;
}

-- a text has one line
pub turn_line_is : (text line other answer answer' : List ℕ) (posts posts' : List PostedOctets) → IsTurnText text line posts answer
    → IsTurnText text other posts' answer' → line ≡ other
turn_line_is text line other answer answer' posts posts' one two =
    (one_line line (posts_text posts ++ (answer ++ 10 ∷ [])) other (posts_text posts' ++ (answer' ++ 10 ∷ [])) one.parts.no_end two.parts.no_end
    (sym one.is ∙ two.is)).0

-- ---- words

-- a word that says something
word_said : {A : Type 0} (says : List ℕ → Option A) (read : ℕ) (w : List ℕ) (ws : List (List ℕ)) (x : A) (left : Words)
    → next_word says read (w ∷ ws) ≡ Ok (x, left) → (says w ≡ Some x) × (left.rest ≡ ws)
word_said {A} says read w ws x left is = by (says w) refl
  where
    by : (o : Option A) → says w ≡ o → (says w ≡ Some x) × (left.rest ≡ ws)
    by None said = let none = rw said at is in absurd (cc (none))
    by (Some y) said =
        let one : A × Words = (y, record { read = read + 1; rest = ws }) in
        let other : A × Words = (x, left) in
        let some = rw said at is in
        let same : one ≡ other = cc (some) in
        (said ∙ ap (λ (p : A × Words). Some p.0) same, sym (ap (λ (p : A × Words). p.1.rest) same))

three_counted : (s : Words) (w u v : List ℕ) (us : List (List ℕ)) → s.rest ≡ w ∷ u ∷ v ∷ us → check_count false 2 s ≡ Ok tt → ⊥
unfolding check_count
three_counted s w u v us is count =
    let off : (length (w ∷ u ∷ v ∷ us) == 2) ≡ false = grind (arith, nat_tests) in
    let so = rw (is, off) at count in
    absurd (cc (so))

pub words_are : (ws : List (List ℕ)) (s mid left : Words) (to : HouseNo) (octets : List ℕ) → s.rest ≡ ws → check_count false 2 s ≡ Ok tt
    → take_words (One house_of) s ≡ Ok (to, mid) → take_words (One octets_of) mid ≡ Ok (octets, left) → AreWordsOf ws (record { to = to; octets = octets })
unfolding check_count take_words
words_are [] s mid left to octets rest count house digits =
    absurd (cc (sym (ap (λ (l : List (List ℕ)). next_word house_of s.read l) rest) ∙ house))
words_are (w ∷ ws) s mid left to octets rest count house digits =
    let first = word_said house_of s.read w ws to mid (sym (ap (λ (l : List (List ℕ)). next_word house_of s.read l) rest) ∙ house) in
    by ws rest first (sym (ap (λ (l : List (List ℕ)). next_word octets_of mid.read l) first.1) ∙ digits)
  where
    by : (us : List (List ℕ)) → s.rest ≡ w ∷ us → (house_of w ≡ Some to) × (mid.rest ≡ us) → next_word octets_of mid.read us ≡ Ok (octets, left)
        → AreWordsOf (w ∷ us) (record { to = to; octets = octets })
    by [] rest first digits = absurd (cc (digits))
    by (u ∷ []) rest first digits =
        let second = word_said octets_of mid.read u [] octets left digits in
        record { to = w; digits = u; two = refl; house = first.0; octets = second.0 }
    by (u ∷ v ∷ us) rest first digits =
        absurd (three_counted s w u v us rest count)

two_counted : (s : Words) (p : PostedOctets) → AreWordsOf s.rest p → check_count false 2 s ≡ Ok tt
unfolding check_count
two_counted s p is = ap (λ (l : List (List ℕ)). if length l == 2 then Ok tt else Err (WrongCount (s.read + length l))) is.two

house_taken : (s : Words) (p : PostedOctets) → (is : AreWordsOf s.rest p) → take_words (One house_of) s ≡ Ok (p.to, record { read = s.read + 1; rest = is.digits ∷ [] })
unfolding take_words
house_taken s p is =
    ap (λ (l : List (List ℕ)). next_word house_of s.read l) is.two
    ∙ ap (λ (o : Option HouseNo). said_at (s.read + 1) o >>= λ x. Ok (x, record { read = s.read + 1; rest = is.digits ∷ [] })) is.house

octets_taken : (s : Words) (p : PostedOctets) (digits : List ℕ) → s.rest ≡ digits ∷ [] → octets_of digits ≡ Some p.octets
    → take_words (One octets_of) s ≡ Ok (p.octets, record { read = s.read + 1; rest = [] })
unfolding take_words
octets_taken s p digits rest is =
    ap (λ (l : List (List ℕ)). next_word octets_of s.read l) rest
    ∙ ap (λ (o : Option (List ℕ)). said_at (s.read + 1) o >>= λ x. Ok (x, record { read = s.read + 1; rest = [] })) is

pub count_is : (s : Words) (f : ParseFault) → check_count false 2 s ≡ Err f → (p : PostedOctets) → ¬ AreWordsOf s.rest p
count_is s f is p words = absurd (cc (sym is ∙ two_counted s p words))

pub house_is : (s : Words) (f : ParseFault) → take_words (One house_of) s ≡ Err f → (p : PostedOctets) → ¬ AreWordsOf s.rest p
house_is s f is p words = absurd (cc (sym is ∙ house_taken s p words))

pub octets_is : (s mid : Words) (to : HouseNo) (f : ParseFault) → take_words (One house_of) s ≡ Ok (to, mid) → take_words (One octets_of) mid ≡ Err f
    → (p : PostedOctets) → ¬ AreWordsOf s.rest p
octets_is s mid to f house is p words =
    let one : HouseNo × Words = (to, mid) in
    let other : HouseNo × Words = (p.to, record { read = s.read + 1; rest = words.digits ∷ [] }) in
    let both = sym house ∙ house_taken s p words in
    let same : one ≡ other = cc (both) in
    let rest : mid.rest ≡ words.digits ∷ [] = ap (λ (x : HouseNo × Words). x.1.rest) same in
    let none = sym is ∙ octets_taken mid p words.digits rest words.octets in
    absurd (cc (none))

-- the words after the first one
pub behind_first : (old new : Words) (o : Option (Bor (List ℕ))) → IfSome o (λ w. old.rest ≡ w.now ∷ new.rest) → IfNone o (old.rest ≡ []) → IfNone o (new ≡ old)
    → drop 1 old.rest ≡ new.rest
behind_first old new (Some w) some none same = ap (λ (l : List (List ℕ)). drop 1 l) some
behind_first old new None some none same =
    ap (λ (l : List (List ℕ)). drop 1 l) none ∙ sym (ap (λ (s : Words). s.rest) same ∙ none)

-- ---- answers

pub answers_fault : {T : Type 0} (e : AllocOr ParseFault) (expected : Result T ParseFault) → Answers {T = T} {E = ParseFault} (Err e) expected
    → OfFault e (λ f. expected ≡ Err f)
answers_fault (Fault f) expected is = is
answers_fault OutOfMemory expected is = tt

pub takes_fault : {A : Type 0} (e : AllocOr ParseFault) (left : Words) (expected : Result (A × Words) ParseFault) → Takes {A = A} (Err e) left expected
    → OfFault e (λ f. expected ≡ Err f)
takes_fault (Fault f) left expected is = is
takes_fault OutOfMemory left expected is = tt

-- what is not so
pub decides_none : {P : Type 0} → ¬ P → Decides false P
decides_none none = (λ e. absurd (false≢true e), λ p. absurd (none p))

pub decides_off : {P : Type 0} (b : Bool) → b ≡ false → ¬ P → Decides b P
decides_off b off none = (λ on. absurd (false≢true (sym off ∙ on)), λ p. absurd (none p))

-- what follows where a test fails
pub refused_then : {E P Q : Type 0} (r : Result Bool E) → (P → Q) → IfOk r (λ b. OnFalse b P) → IfOk r (λ b. OnFalse b Q)
refused_then (Ok true) gives is = tt
refused_then (Ok false) gives is = gives is
refused_then (Err e) gives is = tt
