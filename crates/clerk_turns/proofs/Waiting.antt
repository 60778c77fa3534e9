-- Each command waits for a question, whatever line is taken.
use Rattle.std.proofs.Common.{◌≡◌, ◌≢◌, ◌+◌, ◌-◌, ℕ, zero, suc, Bool, true, false, List, [], ◌∷◌, ◌++◌, map, take, append_assoc, append-nil, length-append, refl, sym, ap, subst, ◌∙◌}
use Rattle.std.proofs.Common.{⊎_elim, inl, inr, get_or, length, arith, tests}
use Rattle.std.specs.Prelude.{◌⊎◌, ◌==◌, ◌||◌, if◌then◌else◌, codes, decimal, cond, not, is_some, nat_le, nat_lt, Option, Some, None, Result, Ok, Err, slice_get}
use Rattle.std.specs.List.{flat_map, list_any, position, position_or_len, remove}
use Rattle.std.proofs.Math.Seq.{take-append_seam}
use Rattle.std.proofs.lemmas.List.Concat.{flat_map-append}
use Rattle.std.proofs.lemmas.List.Folds.{list_any-append}
use Rattle.std.proofs.lemmas.List.Quantifiers.{position-Some}
use Rattle.cell_script.specs.declared.fault.ParseFault.{ParseFault}
use Rattle.cds_base.specs.Counts.{next_count}
use Rattle.cds_stamps.specs.declared.numbers.HouseNo.{HouseNo}
use Rattle.cds_stamps.specs.declared.numbers.DirId.{DirId}
use Rattle.script_answers.specs.declared.answer.Answer.TheVariants as answer
use Rattle.script_answers.specs.Texts.{answer_line, import_end}
use Rattle.inquire_forms.specs.Inquired.{Inquired, Plain, Members, Entries, Elements, Batches}
use Rattle.inquire_forms.specs.InquireTexts.{listed_count, listed_lines}
use Rattle.clerk_lines.specs.ClerkTexts.{say_text}
use Rattle.clerk_lines.specs.declared.line.ClerkWord.{ClerkWord}
use Rattle.clerk_lines.specs.declared.line.ClerkWord.TheVariants.{Do, Hear, Down}
use Rattle.clerk_lines.specs.declared.status.RootList.{RootList}
use Rattle.clerk_lines.specs.ClerkWords.{Said, line_said}
use Rattle.clerk_lines.specs.Hearings.{is_last, told_at_end}
use Rattle.clerk_lines.specs.RootLists.{root_said}
use Rattle.clerk_lines.specs.declared.hearing.Told.TheVariants.{Passed}
use Rattle.cell_script.specs.Words.{words_of}
use Rattle.cds_clerk.specs.declared.heard.Answered.{Answered}
use Rattle.cds_clerk.specs.declared.heard.Lack.{Lack}
use Rattle.clerk_turns.specs.declared.clerk.Clerk.{Clerk}
use Rattle.clerk_turns.specs.declared.clerk.Job.{Job}
use Rattle.clerk_turns.specs.declared.clerk.Question.{Question}
use Rattle.clerk_turns.specs.declared.clerk.Topic.{Topic}
use Rattle.clerk_turns.specs.declared.clerk.Topic.TheVariants as topic
use Rattle.clerk_turns.specs.declared.command.Command.{Command}
use Rattle.clerk_turns.specs.declared.sending.Fate.{Fate}
use Rattle.clerk_turns.specs.declared.sending.Fate.TheVariants as fate
use Rattle.clerk_turns.specs.Asking.{Ask, Asks, AsksEach, Puts, PutsEach, name_ask, no_more, one_more, root_ask}
use Rattle.clerk_turns.specs.ClerkRows.{command_said}
use Rattle.clerk_turns.specs.Clerks.{IsQuestionTaken, TakesJob, TakesQuestion, job_place, question_place, waits_for}
use Rattle.clerk_turns.specs.Commands.{is_high, may_repeat, is_update}
use Rattle.clerk_turns.specs.Sendings.{Ends, SendsLine, in_doubt, last_said, again, fate_of, next_line, most_tries, one_line_on, refusal_in, with_doubt, with_plan}
use Rattle.clerk_turns.specs.Turns.{AnswersTopic, AsksAtPlace, AsksHouses, AsksOn, Begins, BeginsSaid, Cases, Goes, GoesIfAll, GoesRooted, HearsLine, HearsMore, IfThere, IsRootTold, IsTold}
use Rattle.clerk_turns.specs.Turns.{IsTurn, IsVain, Keeps, RootHeard, Settles, StepComes, StepDown, StepTold, TakesWord, TopicDown, TriesAgain, TurnOf, Waits, WithJob, WithQuestion}
use Rattle.clerk_turns.specs.Turns.{answer_to, first_job, is_unreached, place_of, root_in, topic_with, with_answer, with_list, with_root}
use Rattle.clerk_turns.specs.Says.{answer_said, fault_said, list_said, parse_fault_line, unreached_line}
use Rattle.clerk_turns.specs.Waiting.{AllWait, AreWaiting, IsSaidLast, IsUnderWayOrSaid, has_number}

-- ---- lists

or_false : (a b : Bool) → (a || b) ≡ false → (a ≡ false) × (b ≡ false)
or_false true b is = absurd (cc (is))
or_false false b is = (refl, is)

both_false : (a b : Bool) → a ≡ false → b ≡ false → (a || b) ≡ false
both_false true b p q = absurd (cc (p))
both_false false b p q = q

or_right : (a b : Bool) → b ≡ true → (a || b) ≡ true
or_right true b is = refl
or_right false b is = is

or_other : (a b : Bool) → a ≡ false → (a || b) ≡ true → b ≡ true
or_other true b not is = absurd (cc (not))
or_other false b not is = is

module _ {X : Type 0} (t : X → Bool) where
  any_removed : (xs : List X) (i : ℕ) → list_any t xs ≡ false → list_any t (remove xs i) ≡ false
  any_removed [] zero is = refl
  any_removed [] (suc i) is = refl
  any_removed (x ∷ xs) zero is = (or_false (t x) (list_any t xs) is).1
  any_removed (x ∷ xs) (suc i) is =
      both_false (t x) (list_any t (remove xs i)) (or_false (t x) (list_any t xs) is).0 (any_removed xs i (or_false (t x) (list_any t xs) is).1)

  any_kept : (xs : List X) (i : ℕ) (x : X) → slice_get xs i ≡ Some x → t x ≡ false → list_any t xs ≡ true → list_any t (remove xs i) ≡ true
  any_kept [] i x at not is = absurd (cc (is))
  any_kept (y ∷ ys) zero x at not is =
      let same : y ≡ x = cc (at) in
      or_other (t y) (list_any t ys) (ap t same ∙ not) is
  any_kept (y ∷ ys) (suc i) x at not is = by_head (t y) is (any_kept ys i x at not)
    where
      by_head : (b : Bool) → (b || list_any t ys) ≡ true → (list_any t ys ≡ true → list_any t (remove ys i) ≡ true) → (b || list_any t (remove ys i)) ≡ true
      by_head true is rest = refl
      by_head false is rest = rest is

  any_at : (xs : List X) (i : ℕ) (x : X) → slice_get xs i ≡ Some x → list_any t xs ≡ false → t x ≡ false
  any_at [] i x at is = absurd (cc (at))
  any_at (y ∷ ys) zero x at is =
      let same : y ≡ x = cc (at) in
      ap t (sym same) ∙ (or_false (t y) (list_any t ys) is).0
  any_at (y ∷ ys) (suc i) x at is = any_at ys i x at (or_false (t y) (list_any t ys) is).1

  any_before : (xs ys : List X) → list_any t xs ≡ true → list_any t (xs ++ ys) ≡ true
  any_before xs ys is = list_any-append t xs ys ∙ ap (λ (b : Bool). b || list_any t ys) is

  any_last : (xs : List X) (x : X) → t x ≡ true → list_any t (xs ++ x ∷ []) ≡ true
  any_last xs x is = list_any-append t xs (x ∷ []) ∙ or_right (list_any t xs) (t x || false) (ap (λ (b : Bool). b || false) is)

  none_with : (xs : List X) (x : X) → list_any t xs ≡ false → t x ≡ false → list_any t (xs ++ x ∷ []) ≡ false
  none_with xs x is not = list_any-append t xs (x ∷ []) ∙ both_false (list_any t xs) (t x || false) is (both_false (t x) false not refl)

  -- what the first place says of the item there
  passes_at : (xs : List X) (i : ℕ) (x : X) → position t xs ≡ Some i → slice_get xs i ≡ Some x → t x ≡ true
  passes_at xs i x first at = ap t (sym (read xs i x at)) ∙ (position-Some t xs i x first).1
    where
      read : (ys : List X) (k : ℕ) (y : X) → slice_get ys k ≡ Some y → get_or ys k y ≡ y
      read [] k y is = absurd (cc (is))
      read (z ∷ zs) zero y is = cc (is)
      read (z ∷ zs) (suc k) y is = read zs k y is

  within_if : (xs : List X) → list_any t xs ≡ true → nat_lt (position_or_len t xs) (length xs) ≡ true
  within_if [] is = absurd (cc (is))
  within_if (x ∷ xs) is = by_head (t x) is (within_if xs)
    where
      by_head : (b : Bool) → (b || list_any t xs) ≡ true → (list_any t xs ≡ true → nat_lt (position_or_len t xs) (length xs) ≡ true)
          → nat_lt (cond (not b) (1 + position_or_len t xs) 0) (length (x ∷ xs)) ≡ true
      by_head true is rest = grind (arith, tests)
      by_head false is rest = let r = rest is in grind (arith, tests, r)

  none_pass : (xs : List X) → position t xs ≡ None → list_any t xs ≡ false
  none_pass xs is = by_any (list_any t xs) refl
    where
      by_any : (b : Bool) → list_any t xs ≡ b → list_any t xs ≡ false
      by_any false any = any
      by_any true any =
          let e : Some (position_or_len t xs) ≡ None = ap (λ (b : Bool). cond b (Some (position_or_len t xs)) None) (sym (within_if xs any)) ∙ is in
          absurd (cc (e))

  passes_within : (xs : List X) → nat_lt (position_or_len t xs) (length xs) ≡ true → list_any t xs ≡ true
  passes_within [] is = absurd (cc (is))
  passes_within (x ∷ xs) is = by_head (t x) is (passes_within xs)
    where
      by_head : (b : Bool) → nat_lt (cond (not b) (1 + position_or_len t xs) 0) (length (x ∷ xs)) ≡ true
          → (nat_lt (position_or_len t xs) (length xs) ≡ true → list_any t xs ≡ true) → (b || list_any t xs) ≡ true
      by_head true is rest = refl
      by_head false is rest = rest (grind (arith, tests, is))

  one_passes : (xs : List X) (place : ℕ) → position t xs ≡ Some place → list_any t xs ≡ true
  one_passes xs place is = by_within (nat_lt (position_or_len t xs) (length xs)) refl
    where
      by_within : (b : Bool) → nat_lt (position_or_len t xs) (length xs) ≡ b → list_any t xs ≡ true
      by_within true within = passes_within xs within
      by_within false within =
          let e : None ≡ Some place = ap (λ (b : Bool). cond b (Some (position_or_len t xs)) None) (sym within) ∙ is in
          absurd (cc (e))

same_number : (a b : ℕ) → (a == b) ≡ true → a ≡ b
same_number a b is = grind (arith, is)

itself : (a : ℕ) → (a == a) ≡ true
itself a = grind arith

other_number : (a b : ℕ) → (a == b) ≡ false → (b == a) ≡ false
other_number a b is = grind (arith, is)

-- ---- commands that wait

-- each command but those of this number waits, and no two have one number
abbrev AreWaitingBut : (number : ℕ) → List Question → List Job → Type 0
AreWaitingBut number qs [] = Unit {0}
AreWaitingBut number qs (j ∷ js) =
    ((j.number == number) ≡ false → waits_for j.number qs ≡ true) × (has_number j.number js ≡ false) × AreWaitingBut number qs js

-- a question was taken out
but_its : (js : List Job) (qs : List Question) (number : ℕ) (q : Question) (qs' : List Question) → IsQuestionTaken number qs q qs' → AreWaiting qs js
    → AreWaitingBut q.job qs' js
but_its [] qs number q qs' taken waiting = tt
but_its (j ∷ js) qs number q qs' taken waiting = (
  λ other. subst (λ (left : List Question). waits_for j.number left ≡ true) (sym taken.taken.out)
      (any_kept (λ (p : Question). p.job == j.number) qs taken.place q taken.taken.there (other_number j.number q.job other) waiting.0),
  waiting.1,
  but_its js qs number q qs' taken waiting.2,
)

-- there is no command of that number
none_but : (js : List Job) (number : ℕ) (qs : List Question) → AreWaitingBut number qs js → has_number number js ≡ false → AreWaiting qs js
none_but [] number qs waiting none = tt
none_but (j ∷ js) number qs waiting none =
    let parts = or_false (j.number == number) (has_number number js) none in
    (waiting.0 parts.0, waiting.1, none_but js number qs waiting.2 parts.1)

-- more questions wait, and one of that number
more_wait : (js : List Job) (number : ℕ) (qs qs' : List Question) → ((k : ℕ) → waits_for k qs ≡ true → waits_for k qs' ≡ true)
    → waits_for number qs' ≡ true → AreWaitingBut number qs js → AreWaiting qs' js
more_wait [] number qs qs' more its waiting = tt
more_wait (j ∷ js) number qs qs' more its waiting = (by_number (j.number == number) refl, waiting.1, more_wait js number qs qs' more its waiting.2)
  where
    by_number : (b : Bool) → (j.number == number) ≡ b → waits_for j.number qs' ≡ true
    by_number true is = subst (λ (k : ℕ). waits_for k qs' ≡ true) (sym (same_number j.number number is)) its
    by_number false is = more j.number (waiting.0 is)

-- the command of that number was taken out
taken_out : (js : List Job) (place number : ℕ) (job : Job) (qs : List Question) → slice_get js place ≡ Some job → job.number ≡ number
    → AreWaitingBut number qs js → AreWaiting qs (remove js place) × (has_number number (remove js place) ≡ false)
taken_out [] place number job qs at is waiting = absurd (cc (at))
taken_out (j ∷ js) zero number job qs at is waiting =
    let same : j ≡ job = cc (at) in
    let none : has_number number js ≡ false = subst (λ (k : ℕ). has_number k js ≡ false) (ap (λ (x : Job). x.number) same ∙ is) waiting.1 in
    (none_but js number qs waiting.2 none, none)
taken_out (j ∷ js) (suc place) number job qs at is waiting =
    let rest = taken_out js place number job qs at is waiting.2 in
    let unlike : (j.number == number) ≡ false =
    other_number number j.number (subst (λ (k : ℕ). (k == j.number) ≡ false) is (any_at (λ (x : Job). x.number == j.number) js place job at waiting.1)) in (
      (waiting.0 unlike, any_removed (λ (x : Job). x.number == j.number) js place waiting.1, rest.0),
      both_false (j.number == number) (has_number number (remove js place)) unlike rest.1,
    )

-- it is under way again, and waits
put_back : (js : List Job) (job : Job) (qs : List Question) → AreWaiting qs js → has_number job.number js ≡ false → waits_for job.number qs ≡ true
    → AreWaiting qs (js ++ job ∷ [])
put_back [] job qs waiting none its = (its, refl, tt)
put_back (j ∷ js) job qs waiting none its =
    let parts = or_false (j.number == job.number) (has_number job.number js) none in (
      waiting.0,
      none_with (λ (x : Job). x.number == j.number) js job waiting.1 (other_number j.number job.number parts.0),
      put_back js job qs waiting.2 parts.1 its,
    )

all_but : (js : List Job) (number : ℕ) (qs : List Question) → AreWaiting qs js → AreWaitingBut number qs js
all_but [] number qs waiting = tt
all_but (j ∷ js) number qs waiting = (λ other. waiting.0, waiting.1, all_but js number qs waiting.2)

grown : (js : List Job) (qs qs' : List Question) → ((k : ℕ) → waits_for k qs ≡ true → waits_for k qs' ≡ true) → AreWaiting qs js → AreWaiting qs' js
grown [] qs qs' more waiting = tt
grown (j ∷ js) qs qs' more waiting = (more j.number waiting.0, waiting.1, grown js qs qs' more waiting.2)

-- ---- questions

-- all commands wait, and none has this number
abbrev Ready : (number : ℕ) → Clerk → Type 0
Ready number c = AllWait c × (has_number number c.jobs.items ≡ false)

puts_more : (job : ℕ) (c : Clerk) (ask : Ask) (said : List ℕ) (c' : Clerk) → Puts job c ask said c' → (k : ℕ) → waits_for k c.questions.items ≡ true
    → waits_for k c'.questions.items ≡ true
puts_more job c ask said c' puts k is =
    ap (λ (qs : List Question). waits_for k qs) puts.questions
    ∙ any_before (λ (q : Question). q.job == k) c.questions.items (record { number = c'.asked; job = job; topic = ask.topic } ∷ []) is

puts_its : (job : ℕ) (c : Clerk) (ask : Ask) (said : List ℕ) (c' : Clerk) → Puts job c ask said c' → waits_for job c'.questions.items ≡ true
puts_its job c ask said c' puts =
    ap (λ (qs : List Question). waits_for job qs) puts.questions
    ∙ any_last (λ (q : Question). q.job == job) c.questions.items (record { number = c'.asked; job = job; topic = ask.topic }) (itself job)

each_more : (job : ℕ) (c : Clerk) (asks : List Ask) (said : List ℕ) (c' : Clerk) → PutsEach job c asks said c' → (k : ℕ) → waits_for k c.questions.items ≡ true
    → waits_for k c'.questions.items ≡ true
each_more job c asks said c' (no_more d) k is = is
each_more job c asks said c' (one_more d mid d' ask more text rest puts each) k is =
    each_more job mid more rest d' each k (puts_more job d ask text mid puts k is)

each_jobs : (job : ℕ) (c : Clerk) (asks : List Ask) (said : List ℕ) (c' : Clerk) → PutsEach job c asks said c' → c'.jobs ≡ c.jobs
each_jobs job c asks said c' (no_more d) = refl
each_jobs job c asks said c' (one_more d mid d' ask more text rest puts each) = each_jobs job mid more rest d' each ∙ puts.jobs

each_its : (job : ℕ) (c : Clerk) (ask : Ask) (asks : List Ask) (said : List ℕ) (c' : Clerk) → PutsEach job c (ask ∷ asks) said c'
    → waits_for job c'.questions.items ≡ true
each_its job c ask asks said c' (one_more d mid d' first more text rest puts each) = each_more job mid asks rest d' each job (puts_its job d ask text mid puts)

-- what is left of a turn for a command of this number that was taken out: each command waits; it is
-- under way again, or a line of its answer was said last; and the others are under way as before
abbrev Leaves : Clerk → (number : ℕ) → (said : List ℕ) → Clerk → Type 0
Leaves c number said c' =
    AllWait c' × IsUnderWayOrSaid number said c' × ((k : ℕ) → has_number k c.jobs.items ≡ true → has_number k c'.jobs.items ≡ true)

-- it ends with this text
ends_with : (c : Clerk) (number : ℕ) (text said : List ℕ) (c' : Clerk) → Ready number c → IsSaidLast number text → Ends c text said c' → Leaves c number said c'
ends_with c number text said c' ready last ends = (
  subst AllWait (sym ends.1) ready.0,
  inr (subst (IsSaidLast number) (sym ends.0) last),
  λ k is. ap (λ (d : Clerk). has_number k d.jobs.items) ends.1 ∙ is,
)

-- one line
one_line : (number : ℕ) (line : List ℕ) → IsSaidLast number (say_text number line)
one_line number line = ([], line, refl)

-- a text that may be in doubt
doubted : (doubt : Bool) (number : ℕ) (text : List ℕ) → IsSaidLast number text → IsSaidLast number (in_doubt doubt text)
doubted false number text last = last
doubted true number text last = (last.0, last.1 ++ codes " doubt", cut last.0 last.1 text last.2)
  where
    less : (front : List ℕ) → length (front ++ 10 ∷ []) - 1 ≡ length front
    less front = let long = length-append front (10 ∷ []) in omega (arith, long)

    cut : (before line all : List ℕ) → all ≡ before ++ say_text number line
        → take (length all - 1) all ++ (codes " doubt" ++ 10 ∷ []) ≡ before ++ say_text number (line ++ codes " doubt")
    cut before line all is =
        let front : List ℕ = before ++ (codes "say " ++ (decimal number ++ (32 ∷ line))) in
        let whole : all ≡ front ++ 10 ∷ [] = is ∙ simp append_assoc in
        ap (λ (t : List ℕ). take (length t - 1) t ++ (codes " doubt" ++ 10 ∷ [])) whole
        ∙ ap (λ (n : ℕ). take n (front ++ 10 ∷ []) ++ (codes " doubt" ++ 10 ∷ [])) (less front)
        ∙ ap (λ (t : List ℕ). t ++ (codes " doubt" ++ 10 ∷ [])) (take-append_seam front (10 ∷ []))
        ∙ simp append_assoc

-- the last of several lines
last_of : (number : ℕ) (lines : List (List ℕ)) (last : List ℕ) → IsSaidLast number (flat_map (say_text number) (lines ++ last ∷ []))
last_of number lines last = (
  flat_map (say_text number) lines,
  last,
  flat_map-append (say_text number) lines (last ∷ []) ∙ ap (λ (t : List ℕ). flat_map (say_text number) lines ++ t) (append-nil (say_text number last)),
)

list_last : (number : ℕ) (said : Inquired) (dirs : List DirId) → IsSaidLast number (flat_map (say_text number) (list_said said dirs))
list_last number said dirs =
    subst (λ (lines : List (List ℕ)). IsSaidLast number (flat_map (say_text number) lines))
    (append_assoc (listed_lines said) (map unreached_line dirs) (import_end (listed_count said) ∷ []))
    (last_of number (listed_lines said ++ map unreached_line dirs) (import_end (listed_count said)))

answer_last : (number : ℕ) (said : Inquired) (dirs : List DirId) → IsSaidLast number (answer_said number said dirs)
answer_last number (Plain (answer.Bindings bs)) dirs = list_last number (Plain (answer.Bindings bs)) dirs
answer_last number (Plain answer.Done) dirs = last_of number [] (answer_line answer.Done)
answer_last number (Plain (answer.Posted a)) dirs = last_of number [] (answer_line (answer.Posted a))
answer_last number (Plain (answer.Made a b d)) dirs = last_of number [] (answer_line (answer.Made a b d))
answer_last number (Plain (answer.Stamped a b)) dirs = last_of number [] (answer_line (answer.Stamped a b))
answer_last number (Plain (answer.Epoch a b)) dirs = last_of number [] (answer_line (answer.Epoch a b))
answer_last number (Plain (answer.Taken a)) dirs = last_of number [] (answer_line (answer.Taken a))
answer_last number (Plain (answer.Late a b)) dirs = last_of number [] (answer_line (answer.Late a b))
answer_last number (Plain (answer.Early a b)) dirs = last_of number [] (answer_line (answer.Early a b))
answer_last number (Plain (answer.Stale a b)) dirs = last_of number [] (answer_line (answer.Stale a b))
answer_last number (Plain answer.NoReplica) dirs = last_of number [] (answer_line answer.NoReplica)
answer_last number (Plain (answer.Complete a b)) dirs = last_of number [] (answer_line (answer.Complete a b))
answer_last number (Plain (answer.Values a)) dirs = last_of number [] (answer_line (answer.Values a))
answer_last number (Plain (answer.Target a)) dirs = last_of number [] (answer_line (answer.Target a))
answer_last number (Plain (answer.Updates a b)) dirs = last_of number [] (answer_line (answer.Updates a b))
answer_last number (Plain (answer.Dump a b d e)) dirs = last_of number [] (answer_line (answer.Dump a b d e))
answer_last number (Plain (answer.Octets a)) dirs = last_of number [] (answer_line (answer.Octets a))
answer_last number (Plain (answer.Decoded a b)) dirs = last_of number [] (answer_line (answer.Decoded a b))
answer_last number (Plain (answer.Refused a)) dirs = last_of number [] (answer_line (answer.Refused a))
answer_last number (Members names) dirs = list_last number (Members names) dirs
answer_last number (Entries interfaces objects) dirs = list_last number (Entries interfaces objects) dirs
answer_last number (Elements elements) dirs = list_last number (Elements elements) dirs
answer_last number (Batches batches) dirs = list_last number (Batches batches) dirs

-- a command that has a question more is under way with the others
joined : (c mid c' : Clerk) (job : Job) (said : List ℕ) → Ready job.number c → mid.jobs ≡ c.jobs
    → ((k : ℕ) → waits_for k c.questions.items ≡ true → waits_for k mid.questions.items ≡ true) → waits_for job.number mid.questions.items ≡ true
    → c'.jobs.items ≡ mid.jobs.items ++ job ∷ [] → c'.questions ≡ mid.questions → Leaves c job.number said c'
joined c mid c' job said ready same more its put asked =
    let jobs_are : c'.jobs.items ≡ c.jobs.items ++ job ∷ [] = put ∙ ap (λ js. js.items ++ job ∷ []) same in (
      subst (λ (js : List Job). AreWaiting c'.questions.items js) (sym jobs_are)
          (subst (λ qs. AreWaiting qs.items (c.jobs.items ++ job ∷ [])) (sym asked)
          (put_back c.jobs.items job mid.questions.items (grown c.jobs.items c.questions.items mid.questions.items more ready.0) ready.1 its)),
      inl (ap (λ (js : List Job). has_number job.number js) jobs_are ∙ any_last (λ (j : Job). j.number == job.number) c.jobs.items job (itself job.number)),
      λ k is. ap (λ (js : List Job). has_number k js) jobs_are ∙ any_before (λ (j : Job). j.number == k) c.jobs.items (job ∷ []) is,
    )

asked_one : (c : Clerk) (job : Job) (ask : Ask) (said : List ℕ) (c' : Clerk) → Ready job.number c → Asks c job ask said c' → Leaves c job.number said c'
asked_one c job ask said c' ready asks =
    joined c asks.0 c' job said ready asks.1.jobs (puts_more job.number c ask said asks.0 asks.1) (puts_its job.number c ask said asks.0 asks.1) asks.2.jobs asks.2.questions

asked_some : (c : Clerk) (job : Job) (ask : Ask) (more : List Ask) (said : List ℕ) (c' : Clerk) → Ready job.number c → AsksEach c job (ask ∷ more) said c' → Leaves c job.number said c'
asked_some c job ask more said c' ready asks =
    joined c asks.0 c' job said ready (each_jobs job.number c (ask ∷ more) said asks.0 asks.1) (each_more job.number c (ask ∷ more) said asks.0 asks.1)
    (each_its job.number c ask more said asks.0 asks.1) asks.2.jobs asks.2.questions

kept : (c : Clerk) (job : Job) (said : List ℕ) (c' : Clerk) → Ready job.number c → waits_for job.number c.questions.items ≡ true → Keeps c job said c' → Leaves c job.number said c'
kept c job said c' ready its keeps = joined c c c' job said ready refl (λ k is. is) its keeps.1.jobs keeps.1.questions

-- ---- how a command goes on

cases_of : (b : Bool) {Yes No : Type 0} → Cases b Yes No → ((b ≡ true) × Yes) ⊎ ((b ≡ false) × No)
cases_of true its = inl (refl, its)
cases_of false its = inr (refl, its)

there_of : (o : Option ℕ) {There Lacking : Type 0} → IfThere o There Lacking → ((place : ℕ) × (o ≡ Some place) × There) ⊎ ((o ≡ None) × Lacking)
there_of None lacking = inr (refl, lacking)
there_of (Some place) there = inl (place, refl, there)

forgets : (b : Bool) (c : Clerk) (number : ℕ) (said : List ℕ) (c' : Clerk) → Ready number c → IsSaidLast number said
    → c' ≡ (if b then record c { root = None } else c) → Leaves c number said c'
forgets true c number said c' ready last is = ends_with (record c { root = None }) number said said c' ready last (refl, is)
forgets false c number said c' ready last is = ends_with c number said said c' ready last (refl, is)

sends_line : (o : Option (List ℕ)) (c : Clerk) (job : Job) (house : HouseNo) (said : List ℕ) (c' : Clerk) → Ready job.number c → SendsLine o c job house said c'
    → Leaves c job.number said c'
sends_line None c job house said c' ready ends =
    ends_with c job.number (say_text job.number (codes "ok " ++ decimal job.sending.done)) said c' ready (one_line job.number (codes "ok " ++ decimal job.sending.done)) ends
sends_line (Some line) c job house said c' ready asks = asked_one c job (record { house = house; line = line; topic = topic.Step house }) said c' ready asks

names_asked : (lacks : List Lack) (c : Clerk) (job : Job) (said : List ℕ) (c' : Clerk) → lacks ≢ [] → Ready job.number c
    → AsksEach c job (map (name_ask (is_high job.command)) lacks) said c' → Leaves c job.number said c'
names_asked [] c job said c' some ready asks = absurd (some refl)
names_asked (q ∷ qs) c job said c' some ready asks =
    asked_some c job (name_ask (is_high job.command) q) (map (name_ask (is_high job.command)) qs) said c' ready asks

goes_rooted : (c : Clerk) (job : Job) (said : List ℕ) (c' : Clerk) → Ready job.number c → GoesRooted c job said c' → Leaves c job.number said c'
goes_rooted c job said c' ready (inl has) =
    forgets (is_unreached has.answer) c job.number said c' ready
    (subst (IsSaidLast job.number) (sym has.text)
    (doubted job.sending.doubt job.number (answer_said job.number has.answer has.unreached) (answer_last job.number has.answer has.unreached)))
    has.after
goes_rooted c job said c' ready (inr (inl has)) = sends_line (next_line (with_plan job has.updates).sending) c (with_plan job has.updates) has.updates.house said c' ready has.sends
goes_rooted c job said c' ready (inr (inr lacks)) = names_asked lacks.lacks c job said c' lacks.wanted.some ready lacks.asks

settles : (c : Clerk) (job : Job) (said : List ℕ) (c' : Clerk) → Ready job.number c → Settles c job said c' → Leaves c job.number said c'
settles c job said c' ready goes = goes_rooted (record c { root = place_of (root_in job.latest) }) (with_root job) said c' ready goes

asks_at : (o : Option HouseNo) (c : Clerk) (job : Job) (place : ℕ) (said : List ℕ) (c' : Clerk) → Ready job.number c → AsksAtPlace o c job place said c' → Leaves c job.number said c'
asks_at None c job place said c' ready goes = settles c job said c' ready goes
asks_at (Some house) c job place said c' ready asks = asked_one c job (root_ask place house) said c' ready asks

asks_houses : (hs : List HouseNo) (high : Bool) (c : Clerk) (job : Job) (said : List ℕ) (c' : Clerk) → Ready job.number c → AsksHouses hs high c job said c' → Leaves c job.number said c'
asks_houses [] high c job said c' ready goes = settles c job said c' ready goes
asks_houses (h ∷ hs) true c job said c' ready asks = asked_some c job (root_ask 0 h) (map (root_ask 0) hs) said c' ready asks
asks_houses (h ∷ hs) false c job said c' ready asks = asked_one c job (root_ask 0 h) said c' ready asks

goes : (c : Clerk) (job : Job) (said : List ℕ) (c' : Clerk) → Ready job.number c → Goes c job said c' → Leaves c job.number said c'
goes c job said c' ready (inl rooted) = goes_rooted c job said c' ready rooted
goes c job said c' ready (inr asks) = asks_houses c.houses.items (is_high job.command) c job said c' ready asks.asks

goes_if_all : (c : Clerk) (job : Job) (said : List ℕ) (c' : Clerk) → Ready job.number c → GoesIfAll c job said c' → Leaves c job.number said c'
goes_if_all c job said c' ready its =
    ⊎_elim (λ keeps. kept c job said c' ready keeps.0 keeps.1) (λ on. goes c job said c' ready on.1) (cases_of (waits_for job.number c.questions.items) its)

root_heard : (c : Clerk) (job : Job) (place : ℕ) (said : List ℕ) (c' : Clerk) → Ready job.number c → RootHeard c job place said c' → Leaves c job.number said c'
root_heard c job place said c' ready its = ⊎_elim (λ high. waits high.1) (λ low. asks_on low.1) (cases_of (is_high job.command) its)
  where
    waits : Waits c job said c' → Leaves c job.number said c'
    waits w =
        ⊎_elim (λ keeps. kept c job said c' ready keeps.0 keeps.1) (λ on. settles c job said c' ready on.1) (cases_of (waits_for job.number c.questions.items) w)

    asks_on : AsksOn c job place said c' → Leaves c job.number said c'
    asks_on w =
        ⊎_elim (λ on. settles c job said c' ready on.1) (λ asks. asks_at (slice_get c.houses.items (next_count place)) c job (next_count place) said c' ready asks.1)
        (cases_of (is_some job.latest) w)

tries_again : (c : Clerk) (job : Job) (why said : List ℕ) (c' : Clerk) → Ready job.number c → TriesAgain c job why said c' → Leaves c job.number said c'
tries_again c job why said c' ready its = ⊎_elim (λ often. last often.1) (λ on. goes c job said c' ready on.1) (cases_of (nat_le most_tries job.sending.tries) its)
  where
    last : Ends c (last_said job why) said c' → Leaves c job.number said c'
    last ends = ends_with c job.number (last_said job why) said c' ready (doubted job.sending.doubt job.number (say_text job.number why) (one_line job.number why)) ends

step_comes : (f : Fate) (c : Clerk) (job : Job) (house : HouseNo) (last said : List ℕ) (c' : Clerk) → Ready job.number c → StepComes f c job house last said c' → Leaves c job.number said c'
step_comes fate.Done c job house last said c' ready ends = ends_with c job.number (say_text job.number last) said c' ready (one_line job.number last) ends
step_comes fate.Refused c job house last said c' ready ends =
    ends_with c job.number (last_said job last) said c' ready (doubted job.sending.doubt job.number (say_text job.number last) (one_line job.number last)) ends
step_comes fate.Spent c job house last said c' ready ends =
    let line = codes "refused StampsSpent " ++ decimal job.sending.done in
    ends_with c job.number (last_said job line) said c' ready (doubted job.sending.doubt job.number (say_text job.number line) (one_line job.number line)) ends
step_comes fate.Again c job house last said c' ready its = tries_again (record c { root = None }) (again job) (refusal_in last) said c' ready its
step_comes fate.Next c job house last said c' ready sends = sends_line (next_line (one_line_on job).sending) c (one_line_on job) house said c' ready sends

step_down : (c : Clerk) (job : Job) (said : List ℕ) (c' : Clerk) → Ready job.number c → StepDown c job said c' → Leaves c job.number said c'
step_down c job said c' ready its =
    ⊎_elim (λ on. tries_again (record c { root = None }) (again (with_doubt job)) (codes "refused Down") said c' ready on.1)
    (λ ends. ends_with c job.number (last_said (with_doubt job) (codes "refused Down")) said c' ready
    (doubted true job.number (say_text job.number (codes "refused Down")) (one_line job.number (codes "refused Down"))) ends.1)
    (cases_of (may_repeat job.command) its)

-- ---- lines

-- what a turn makes of a clerk: each command waits; one that was under way still is, or a line of
-- its answer was said last
abbrev Turned : Clerk → (said : List ℕ) → Clerk → Type 0
Turned c said c' = AllWait c' × ((k : ℕ) → has_number k c.jobs.items ≡ true → IsUnderWayOrSaid k said c')

-- the first command of this number is taken out
with_job : (c : Clerk) (number : ℕ) (P : Clerk → Job → Type 0) (said : List ℕ) (c' : Clerk) → AreWaitingBut number c.questions.items c.jobs.items
    → ((d : Clerk) (job : Job) → Ready job.number d → P d job → Leaves d job.number said c') → WithJob c number P said c' → Turned c said c'
with_job c number P said c' waiting next its = ⊎_elim (λ there. taken there.2) (λ lacking. vain lacking.0 lacking.1) (there_of (job_place number c.jobs.items) its)
  where
    vain : job_place number c.jobs.items ≡ None → IsVain c said c' → Turned c said c'
    vain none comes = (
      subst AllWait (sym comes.1) (none_but c.jobs.items number c.questions.items waiting (none_pass (λ (j : Job). j.number == number) c.jobs.items none)),
      λ k is. inl (ap (λ (d : Clerk). has_number k d.jobs.items) comes.1 ∙ is),
    )

    taken : (mid : Clerk) × (job : Job) × TakesJob number c job mid × P mid job → Turned c said c'
    taken t =
        let takes = t.2 in
        let place = takes.taken.place in
        let its_number : t.1.number ≡ number =
        same_number t.1.number number
        (passes_at (λ (j : Job). j.number == number) c.jobs.items place t.1 takes.taken.first takes.taken.taken.there) in
        let left = taken_out c.jobs.items place number t.1 c.questions.items takes.taken.taken.there its_number waiting in
        let waits : AreWaiting c.questions.items takes.jobs.items = subst (AreWaiting c.questions.items) (sym takes.taken.taken.out) left.0 in
        let none : has_number number takes.jobs.items ≡ false =
        subst (λ (js : List Job). has_number number js ≡ false) (sym takes.taken.taken.out) left.1 in
        let leaves =
        next t.0 t.1
        (subst (λ (d : Clerk). Ready t.1.number d) (sym takes.after) (waits, subst (λ (k : ℕ). has_number k takes.jobs.items ≡ false) (sym its_number) none))
        t.3 in
        (leaves.0, λ k is. by_number k is (k == number) refl its_number takes leaves)
      where
        by_number : (k : ℕ) → has_number k c.jobs.items ≡ true → (b : Bool) → (k == number) ≡ b → t.1.number ≡ number → (takes : TakesJob number c t.1 t.0)
            → Leaves t.0 t.1.number said c' → IsUnderWayOrSaid k said c'
        by_number k is true same its_number takes leaves =
            subst (λ (n : ℕ). IsUnderWayOrSaid n said c') (its_number ∙ sym (same_number k number same)) leaves.1
        by_number k is false other its_number takes leaves =
            let kept : has_number k takes.jobs.items ≡ true =
            ap (λ (js : List Job). has_number k js) takes.taken.taken.out
            ∙ any_kept (λ (j : Job). j.number == k) c.jobs.items takes.taken.place t.1 takes.taken.taken.there
            (ap (λ (n : ℕ). n == k) its_number ∙ other_number k number other) is in
            inl (leaves.2 k (ap (λ (d : Clerk). has_number k d.jobs.items) takes.after ∙ kept))

-- nothing comes of a line
in_vain : (c : Clerk) (said : List ℕ) (c' : Clerk) → AllWait c → IsVain c said c' → Turned c said c'
in_vain c said c' all vain = (subst AllWait (sym vain.1) all, λ k is. inl (ap (λ (d : Clerk). has_number k d.jobs.items) vain.1 ∙ is))

-- the first question of this number is taken out
with_question : (c : Clerk) (number : ℕ) (P : Clerk → Question → Type 0) (said : List ℕ) (c' : Clerk) → AllWait c
    → ((d : Clerk) (q : Question) → AreWaitingBut q.job d.questions.items d.jobs.items → P d q → Turned d said c') → WithQuestion c number P said c' → Turned c said c'
with_question c number P said c' all next its = ⊎_elim (λ there. taken there.2) (λ lacking. in_vain c said c' all lacking.1) (there_of (question_place number c.questions.items) its)
  where
    taken : (mid : Clerk) × (q : Question) × TakesQuestion number c q mid × P mid q → Turned c said c'
    taken t =
        let takes = t.2 in
        let turned =
        next t.0 t.1
        (subst (λ (d : Clerk). AreWaitingBut t.1.job d.questions.items d.jobs.items) (sym takes.after)
        (but_its c.jobs.items c.questions.items number t.1 takes.questions.items takes.taken all))
        t.3 in
        (turned.0, λ k is. turned.1 k (ap (λ (d : Clerk). has_number k d.jobs.items) takes.after ∙ is))

told : (c : Clerk) (number : ℕ) (a : Answered) (said : List ℕ) (c' : Clerk) → AreWaitingBut number c.questions.items c.jobs.items → IsTold c number a said c' → Turned c said c'
told c number a said c' waiting its =
    with_job c number (λ d job. GoesIfAll d (with_answer job a) said c') said c' waiting (λ d job ready on. goes_if_all d (with_answer job a) said c' ready on) its

root_told : (c : Clerk) (number place : ℕ) (list : Option RootList) (said : List ℕ) (c' : Clerk) → AreWaitingBut number c.questions.items c.jobs.items
    → IsRootTold c number place list said c' → Turned c said c'
root_told c number place list said c' waiting its =
    with_job c number (λ d job. RootHeard d (with_list job list) place said c') said c' waiting
    (λ d job ready on. root_heard d (with_list job list) place said c' ready on) its

answers : (t : Topic) (c : Clerk) (job : ℕ) (last said : List ℕ) (c' : Clerk) → AreWaitingBut job c.questions.items c.jobs.items → AnswersTopic t c job last said c' → Turned c said c'
answers (topic.Show lack hearing) c job last said c' waiting its = told c job (answer_to lack (told_at_end hearing last)) said c' waiting its
answers (topic.Root place) c job last said c' waiting its = root_told c job place (root_said (words_of last)) said c' waiting its
answers (topic.Step house) c job last said c' waiting its =
    with_job c job (λ d j. StepTold d j house last said c') said c' waiting
    (λ d j ready on. step_comes (fate_of (is_update j.command) last) d j house last said c' ready on) its

downs : (t : Topic) (c : Clerk) (job : ℕ) (said : List ℕ) (c' : Clerk) → AreWaitingBut job c.questions.items c.jobs.items → TopicDown t c job said c' → Turned c said c'
downs (topic.Show lack hearing) c job said c' waiting its = told c job (answer_to lack Passed) said c' waiting its
downs (topic.Root place) c job said c' waiting its = root_told c job place None said c' waiting its
downs (topic.Step house) c job said c' waiting its = with_job c job (λ d j. StepDown d j said c') said c' waiting (λ d j ready on. step_down d j said c' ready on) its

hears_more : (c : Clerk) (q : Question) (line said : List ℕ) (c' : Clerk) → AreWaitingBut q.job c.questions.items c.jobs.items → HearsMore c q line said c' → Turned c said c'
hears_more c q line said c' waiting its =
    let put : Question = record q { topic = topic_with q.topic line } in (
      subst (λ js. AreWaiting c'.questions.items js.items) (sym its.jobs)
          (more_wait c.jobs.items q.job c.questions.items c'.questions.items
          (λ k is. ap (λ (qs : List Question). waits_for k qs) its.questions ∙ any_before (λ (p : Question). p.job == k) c.questions.items (put ∷ []) is)
          (ap (λ (qs : List Question). waits_for q.job qs) its.questions ∙ any_last (λ (p : Question). p.job == q.job) c.questions.items put (itself q.job)) waiting),
      λ k is. inl (ap (λ js. has_number k js.items) its.jobs ∙ is),
    )

begins_said : (c : Clerk) (number : ℕ) (r : Result Command ParseFault) (said : List ℕ) (c' : Clerk) → Ready number c → BeginsSaid c number r said c'
    → Leaves c number said c'
begins_said c number (Ok command) said c' ready its = goes c (first_job number command its.heard its.sending) said c' ready its.goes
begins_said c number (Err fault) said c' ready ends =
    ends_with c number (fault_said number fault) said c' ready (one_line number (parse_fault_line fault)) ends

-- a command of this number is under way before, or begins
begins : (c : Clerk) (number : ℕ) (text said : List ℕ) (c' : Clerk) → AllWait c → Begins c number text said c'
    → Turned c said c' × IsUnderWayOrSaid number said c'
begins c number text said c' all its = ⊎_elim (λ there. on there.0 there.1 there.2) (λ lacking. begun lacking.0 lacking.1) (there_of (job_place number c.jobs.items) its)
  where
    on : (place : ℕ) → job_place number c.jobs.items ≡ Some place → IsVain c said c' → Turned c said c' × IsUnderWayOrSaid number said c'
    on place is vain =
        let turned = in_vain c said c' all vain in
        (turned, turned.1 number (one_passes (λ (j : Job). j.number == number) c.jobs.items place is))

    begun : job_place number c.jobs.items ≡ None → BeginsSaid c number (command_said (words_of text)) said c'
        → Turned c said c' × IsUnderWayOrSaid number said c'
    begun none said_so =
        let leaves = begins_said c number (command_said (words_of text)) said c' (all, none_pass (λ (j : Job). j.number == number) c.jobs.items none) said_so in
        ((leaves.0, λ k is. inl (leaves.2 k is)), leaves.1)

takes_word : (w : ClerkWord) (c : Clerk) (number : ℕ) (text said : List ℕ) (c' : Clerk) → AllWait c → TakesWord w c number text said c' → Turned c said c'
takes_word Do c number text said c' all its = (begins c number text said c' all its).0
takes_word Hear c number text said c' all its =
    with_question c number (λ d q. HearsLine d q text said c') said c' all
    (λ d q waiting on. ⊎_elim (λ last. answers q.topic d q.job text said c' waiting last.1) (λ more. hears_more d q text said c' waiting more.1) (cases_of (is_last text) on))
    its
takes_word Down c number text said c' all its =
    with_question c number (λ d q. TopicDown q.topic d q.job said c') said c' all (λ d q waiting on. downs q.topic d q.job said c' waiting on) its

-- a turn leaves no command without a question, or without its answer
turned : (o : Option Said) (c : Clerk) (said : List ℕ) (c' : Clerk) → TurnOf o c said c' → AllWait c → Turned c said c'
turned None c said c' vain all = in_vain c said c' all vain
turned (Some line) c said c' turn all = takes_word line.0 c line.1 line.2 said c' all turn

pub all_wait : (c c' : Clerk) (line said : List ℕ) → IsTurn c line said c' → AllWait c → AllWait c'
all_wait c c' line said turn all = (turned (line_said line) c said c' turn all).0

pub under_way_or_said : (c c' : Clerk) (line said : List ℕ) → IsTurn c line said c' → AllWait c → (k : ℕ) → has_number k c.jobs.items ≡ true
    → IsUnderWayOrSaid k said c'
under_way_or_said c c' line said turn all = (turned (line_said line) c said c' turn all).1

pub begun_or_said : (c c' : Clerk) (line said text : List ℕ) (k : ℕ) → line_said line ≡ Some (Do, k, text) → IsTurn c line said c' → AllWait c
    → IsUnderWayOrSaid k said c'
begun_or_said c c' line said text k is turn all = (begins c k text said c' all (subst (λ (o : Option Said). TurnOf o c said c') is turn)).1

pub none_wait : (c : Clerk) → c.jobs.items ≡ [] → AllWait c
none_wait c none = subst (AreWaiting c.questions.items) (sym none) tt
