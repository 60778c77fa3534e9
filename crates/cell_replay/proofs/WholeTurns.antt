-- What a whole input demands, and how a form that reads it ends.
use Rattle.std.proofs.Common.{◌≡◌, ◌↔◌, ◌⊎◌, inl, inr, ℕ, ◌≤◌, ◌<◌, Bool, true, false, List, [], ◌++◌, length, refl, sym, ◌∙◌, ap, subst, arith}
use Rattle.std.proofs.Common.{append-nil, length-append}
use Rattle.std.proofs.lemmas.Bool.Decides.{nat_tests}
use Rattle.std.specs.Prelude.{Option, Result, Ok, Err, IfOk, IsTrue, nat_lt}
use Rattle.std.specs.declared.alloc.AllocError.{AllocError}
use Rattle.std.specs.Io.KnownBytes.{Consumes, IsAtEnd}
use Rattle.cds_base.specs.Counts.{Rose}
use Rattle.cds_base.specs.SourceReading.{GrowsByReading}
use Rattle.cds_base.proofs.KnownOctets.{appends_none}
use Rattle.cell_replay.specs.declared.whole.Said.{Said}
use Rattle.cell_replay.specs.declared.whole.Said.TheVariants as says
use Rattle.line_forms.specs.declared.endings.Status.{Status}
use Rattle.line_forms.specs.declared.endings.Status.TheVariants.{Ok as AllRead, BadInput, ReadFault, OutOfMemory}
use Rattle.line_forms.specs.Demand.{Demand, Faulty, IsUnbroken, ends_with, faulty_with, cut_short_with}
use Rattle.cell_replay.specs.WholeDemand.{WholeTask, said_of, told_whole, too_long_text, whole_demand}
use Rattle.cell_replay.specs.FormReadings.{by_whole}
use Rattle.cds_base.specs.RunEnds.{IsFront}
use Rattle.line_forms.specs.Runs.{AnswersFront}
use Rattle.line_forms.specs.Endings.{EndsBetween, Finishes, IsDue, Side, side}
use Rattle.cell_replay.specs.PrivateWholes.{IsSaid, SaysEnd}
use Rattle.line_forms.proofs.Progress.{Pending, finishes, read_failed, wrote_all}
use Rattle.cell_replay.proofs.Streams.{le_or_lt}

-- ---- what is demanded

-- of so many octets what is said of them
few_demand : (task : WholeTask) (octets : List ℕ) → length octets ≤ 16777216 → whole_demand task octets ≡ told_whole (said_of task octets)
few_demand task octets few = let it_is : nat_lt 16777216 (length octets) ≡ false = grind (arith, nat_tests) in rw it_is refl

-- of more that they are too many
many_demand : (task : WholeTask) (octets : List ℕ) → 16777216 < length octets → whole_demand task octets ≡ faulty_with (too_long_text task)
many_demand task octets many = let it_is : nat_lt 16777216 (length octets) ≡ true = grind (arith, nat_tests) in rw it_is refl

-- what is said is due at the end alone
no_body : (said : Result (List ℕ) (List ℕ)) → (told_whole said).body ≡ []
no_body (Ok text) = refl
no_body (Err text) = refl

-- and no fault shows before it
unbroken : (said : Result (List ℕ) (List ℕ)) → IsUnbroken (told_whole said).verdict
unbroken (Ok text) = tt
unbroken (Err text) = tt

-- the body of an input is due whatever follows
pub whole_body_stays : (task : WholeTask) (xs ys : List ℕ) → IsFront (whole_demand task xs).body (whole_demand task (xs ++ ys)).body
whole_body_stays task xs ys = by_size (le_or_lt (length xs) 16777216)
  where
    by_size : (length xs ≤ 16777216) ⊎ (16777216 < length xs) → IsFront (whole_demand task xs).body (whole_demand task (xs ++ ys)).body
    by_size (inl few) =
        let none : (whole_demand task xs).body ≡ [] = ap (λ (d : Demand). d.body) (few_demand task xs few) ∙ no_body (said_of task xs) in
        let all : List ℕ = (whole_demand task (xs ++ ys)).body in
        (all, sym (ap (λ (l : List ℕ). l ++ all) none))
    by_size (inr many) =
        let more : 16777216 < length (xs ++ ys) = omega (arith, many, length-append xs ys) in (
          [],
          ap (λ (d : Demand). d.body) (many_demand task (xs ++ ys) more) ∙ ap (λ (d : Demand). d.body) (sym (many_demand task xs many))
              ∙ sym (append-nil (whole_demand task xs).body),
        )

-- a fault that shows ends what is due
pub whole_fault_stays : (task : WholeTask) (xs ys : List ℕ) → (whole_demand task xs).verdict ≡ Faulty
    → whole_demand task (xs ++ ys) ≡ whole_demand task xs
whole_fault_stays task xs ys faulty = by_size (le_or_lt (length xs) 16777216)
  where
    by_size : (length xs ≤ 16777216) ⊎ (16777216 < length xs) → whole_demand task (xs ++ ys) ≡ whole_demand task xs
    by_size (inl few) =
        absurd (subst IsUnbroken (subst (λ (d : Demand). d.verdict ≡ Faulty) (few_demand task xs few) faulty) (unbroken (said_of task xs)))
    by_size (inr many) =
        let more : 16777216 < length (xs ++ ys) = omega (arith, many, length-append xs ys) in
        many_demand task (xs ++ ys) more ∙ sym (many_demand task xs many)

-- ---- how a run ends

-- all that was read is held, where nothing was held before
pub read_from_none : (left left' : Option (List ℕ)) (octets octets' : List ℕ) → octets ≡ [] → GrowsByReading left left' octets octets'
    → Consumes left left' octets'
read_from_none left left' octets octets' none grows =
    subst (Consumes left left') (sym (grows.grown ∙ ap (λ (l : List ℕ). l ++ grows.read) none)) grows.taken

-- a window that the input did not fill holds no octet too many
pub has_few : (ended : Bool) (held room : ℕ) → IsTrue ended → (IsTrue ended ↔ (held < room)) → room ≡ 16777217 → held ≤ 16777216
has_few ended held room has_ended means is = let less : held < room = means.0 has_ended in omega (arith, less, is)

-- a test that fails is not true
pub not_true : (b : Bool) → b ≡ false → ¬ (IsTrue b)
not_true b e is = absurd (cc (e, is))

-- and one that is full holds one too many
pub has_many : (ended : Bool) (held room : ℕ) → ¬ (IsTrue ended) → (IsTrue ended ↔ (held < room)) → room ≡ 16777217 → 16777216 < held
has_many ended held room goes_on means is = by_size (le_or_lt 16777217 held)
  where
    by_size : (16777217 ≤ held) ⊎ (held < 16777217) → 16777216 < held
    by_size (inl le) = omega (arith, le)
    by_size (inr lt) = absurd (goes_on (means.1 (omega (arith, is, lt))))

module _ (task : WholeTask) (first left' old : Option (List ℕ)) (octets : List ℕ) (taken : Consumes first left' octets)
    (few : length octets ≤ 16777217) where
  -- these were read, and nothing was written
  abbrev all_read : Pending (by_whole task) first left' old old octets
  all_read = record {
    front = [];
    since = [];
    out = [];
    demand = whole_demand task [];
    taken = taken;
    written = appends_none old;
    demands = refl;
    answered = ([], sym (ap (λ (l : List ℕ). l ++ []) (no_body (said_of task []))));
    near = inl refl;
    few = few;
  }

  -- nothing answers that nothing was read
  answers_none : AnswersFront (by_whole task) first left' []
  answers_none = record {
    front = [];
    one = [];
    behind = octets;
    demand = whole_demand task [];
    taken = taken;
    demands = refl;
    due = (sym (no_body (said_of task [])), unbroken (said_of task []));
    at_once = inl refl;
    soon = few;
  }

  module _ (reads reads' writes writes' : ℕ) (new' : Option (List ℕ)) (result : Status) (calm : reads' ≡ reads) where
    -- a text goes out, and it is all that is due
    text_ends : (d : Demand) (text : List ℕ) (status : Status) → whole_demand task octets ≡ d
        → IsDue (AnswersFront (by_whole task) first left') (IsAtEnd left') status d text
        → Finishes (side old writes) (side new' writes') text status result
        → EndsBetween (by_whole task) (side first reads) (side left' reads') (side old writes) (side new' writes') result
    text_ends d text status demands due finished =
        finishes (by_whole task) first left' old old octets all_read d demands new' text status result reads reads' writes writes writes' due finished
        calm refl

    -- there are too many octets
    pub too_long_ends : 16777216 < length octets → (text : List ℕ) → text ≡ too_long_text task
        → Finishes (side old writes) (side new' writes') text BadInput result
        → EndsBetween (by_whole task) (side first reads) (side left' reads') (side old writes) (side new' writes') result
    too_long_ends many text is finished =
        text_ends (faulty_with text) text BadInput (many_demand task octets many ∙ ap faulty_with (sym is)) (inl (refl, refl)) finished

    module _ (short : length octets ≤ 16777216) (ended : IsAtEnd left') where
      -- what is said goes out
      pub said_ends : (text : List ℕ) → said_of task octets ≡ Ok text → Finishes (side old writes) (side new' writes') text AllRead result
          → EndsBetween (by_whole task) (side first reads) (side left' reads') (side old writes) (side new' writes') result
      said_ends text is finished =
          text_ends (ends_with text) text AllRead (few_demand task octets short ∙ ap told_whole is) (ended, (refl, refl)) finished

      -- what is said of a fault goes out
      pub fault_ends : (text : List ℕ) → said_of task octets ≡ Err text → Finishes (side old writes) (side new' writes') text BadInput result
          → EndsBetween (by_whole task) (side first reads) (side left' reads') (side old writes) (side new' writes') result
      fault_ends text is finished =
          text_ends (cut_short_with text) text BadInput (few_demand task octets short ∙ ap told_whole is) (inr (refl, ended, refl)) finished

  -- there was no memory
  pub nothing_said : (reads reads' writes : ℕ) → reads' ≡ reads
      → EndsBetween (by_whole task) (side first reads) (side left' reads') (side old writes) (side old writes) OutOfMemory
  nothing_said reads reads' writes calm =
      text_ends reads reads' writes writes old OutOfMemory calm (whole_demand task octets) [] OutOfMemory refl
      (inl ((whole_demand task octets).body, refl), answers_none) (inl (refl, appends_none old, refl))

  -- what is said of too many octets goes out, or there was no memory for it
  pub too_long_said : (said : Result Said AllocError) → IfOk said (λ s. IsSaid s (Err (too_long_text task))) → 16777216 < length octets
      → (reads reads' writes writes' : ℕ) (new' : Option (List ℕ)) (result : Status) → reads' ≡ reads
      → SaysEnd said (side old writes) (side new' writes') result
      → EndsBetween (by_whole task) (side first reads) (side left' reads') (side old writes) (side new' writes') result
  too_long_said (Ok (says.Text text)) is many reads reads' writes writes' new' result calm ends = absurd (cc (is))
  too_long_said (Ok (says.Fault text)) is many reads reads' writes writes' new' result calm ends =
      too_long_ends reads reads' writes writes' new' result calm many text.items (fault_is (too_long_text task) text.items is) ends
    where
      fault_is : (due octets : List ℕ) → ◌≡◌ {A = Result (List ℕ) (List ℕ)} (Err due) (Err octets) → octets ≡ due
      fault_is due octets e = cc (e)
  too_long_said (Err e) is many reads reads' writes writes' new' result calm ends =
      subst (λ (s : Status). EndsBetween (by_whole task) (side first reads) (side left' reads') (side old writes) (side new' writes') s) (sym ends.0)
      (subst (λ (k : Side). EndsBetween (by_whole task) (side first reads) (side left' reads') (side old writes) k OutOfMemory) (sym ends.1)
      (nothing_said reads reads' writes calm))

  -- a read failed
  pub whole_unread : length octets ≤ 16777216 → (reads reads' writes : ℕ) → Rose reads reads'
      → EndsBetween (by_whole task) (side first reads) (side left' reads') (side old writes) (side old writes) ReadFault
  whole_unread short reads reads' writes rose =
      read_failed (by_whole task) first left' old old octets all_read reads reads' writes writes
      (wrote_all (by_whole task) first left' old old octets all_read (told_whole (said_of task octets)) (few_demand task octets short) refl
      (sym (no_body (said_of task octets)), unbroken (said_of task octets)) reads reads' writes writes)
      rose refl

  -- what is said of the whole input goes out, or there was no memory for it
  pub saying_ends : (said : Result Said AllocError) → IfOk said (λ s. IsSaid s (said_of task octets)) → length octets ≤ 16777216 → IsAtEnd left'
      → (reads reads' writes writes' : ℕ) (new' : Option (List ℕ)) (result : Status) → reads' ≡ reads
      → SaysEnd said (side old writes) (side new' writes') result
      → EndsBetween (by_whole task) (side first reads) (side left' reads') (side old writes) (side new' writes') result
  saying_ends (Ok (says.Text text)) is short ended reads reads' writes writes' new' result calm ends =
      said_ends reads reads' writes writes' new' result calm short ended text.items is ends
  saying_ends (Ok (says.Fault text)) is short ended reads reads' writes writes' new' result calm ends =
      fault_ends reads reads' writes writes' new' result calm short ended text.items is ends
  saying_ends (Err e) is short ended reads reads' writes writes' new' result calm ends =
      subst (λ (s : Status). EndsBetween (by_whole task) (side first reads) (side left' reads') (side old writes) (side new' writes') s) (sym ends.0)
      (subst (λ (k : Side). EndsBetween (by_whole task) (side first reads) (side left' reads') (side old writes) k OutOfMemory) (sym ends.1)
      (nothing_said reads reads' writes calm))
