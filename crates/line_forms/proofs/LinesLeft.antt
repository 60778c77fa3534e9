-- The lines that a run answered so far, and what it leaves when it ends.
use Rattle.std.proofs.Common.{◌≡◌, ◌≢◌, ◌⊎◌, ◌↔◌, inl, inr, ℕ, ◌+◌, ◌<◌, Bool, List, [], ◌∷◌, ◌++◌, length, take, drop, refl, sym, ◌∙◌, ap, subst}
use Rattle.std.proofs.Common.{arith, append_assoc, append-nil, length-append, take-append-drop}
use Rattle.std.specs.Prelude.{Option, None, Some, Ok, Err, IsTrue}
use Rattle.std.specs.Io.KnownBytes.{Appends, Consumes, IsAtEnd}
use Rattle.cds_base.specs.LineFaults.{AreClean, IsLine, ShowsFault, fault_at}
use Rattle.cds_base.specs.Lines.{HasFault, HasMoved, IsNext, IsReady, lines_so_far, octets_ahead, fault_of_lines}
use Rattle.cds_base.specs.SourceReading.{GrowsByReading}
use Rattle.cds_base.specs.declared.lines.Lines.{Lines}
use Rattle.cds_base.specs.declared.scan.LineFault.{LineFault}
use Rattle.cds_base.specs.declared.scan.LineFault.TheVariants.{NoLineEnd, ReadFault as NotRead}
use Rattle.cds_base.proofs.KnownOctets.{appends_more, appends_none, consumes_self}
use Rattle.cds_base.proofs.LineAnswers.{fault_shown}
use Rattle.reply_buffer.specs.declared.replies.LineEnd.TheVariants as line
use Rattle.reply_buffer.specs.LineEnds.{Ends}
use Rattle.reply_buffer.specs.Responses.{ResponseOf, GoesOn, Stops, Fills}
use Rattle.reply_buffer.specs.Waiting.{Flushes}
use Rattle.line_forms.specs.declared.endings.Status.{Status}
use Rattle.line_forms.specs.declared.endings.Status.TheVariants.{Ok as AllRead, BadInput, ReadFault, WriteFault, OutOfMemory, JournalFull}
use Rattle.line_forms.specs.Leaving.{IsLeft, LeadsTo, Leaves, LinesRead, NoneFollows, text_of}
use Rattle.line_forms.specs.Demand.{LineRule}
use Rattle.line_forms.specs.Endings.{Finishes, IsQueued, StopsWith, between, side}
use Rattle.cds_base.specs.RunEnds.{IsFront, Run}
use Rattle.line_forms.proofs.Progress.{reads_on}
use Rattle.line_forms.proofs.Turns.{is_read}

-- ---- the first line of what follows

-- two lines that come first in the same octets are one
clean_same : (number place : ℕ) (xs ys r s : List ℕ) → AreClean number place xs → AreClean number place ys → xs ++ 10 ∷ r ≡ ys ++ 10 ∷ s → xs ≡ ys
clean_same number place [] [] r s first second is = refl
clean_same number place [] (y ∷ ys) r s first second is = let same : y ≡ 10 = cc in absurd (second.0 same)
clean_same number place (x ∷ xs) [] r s first second is = let same : x ≡ 10 = cc in absurd (first.0 same)
clean_same number place (x ∷ xs) (y ∷ ys) r s first second is =
    let same : x ≡ y = cc in
    let more : xs ++ 10 ∷ r ≡ ys ++ 10 ∷ s = cc in
    let rest : xs ≡ ys = clean_same number (place + 1) xs ys r s first.2 second.2 more in
    cc (same, rest)

-- clean octets begin with no whole line
clean_unended : (number place : ℕ) (held xs r : List ℕ) → AreClean number place held → AreClean number place xs → held ≡ xs ++ 10 ∷ r → ⊥
clean_unended number place [] [] r clean first is = absurd (cc (is))
clean_unended number place [] (x ∷ xs) r clean first is = absurd (cc (is))
clean_unended number place (h ∷ hs) [] r clean first is = let same : h ≡ 10 = cc in absurd (clean.0 same)
clean_unended number place (h ∷ hs) (x ∷ xs) r clean first is =
    let more : hs ≡ xs ++ 10 ∷ r = cc in
    clean_unended number (place + 1) hs xs r clean.2 first.2 more

-- nor do octets that show a fault
fault_unended : (number place : ℕ) (fault : LineFault) (front xs r rest : List ℕ) (octet : ℕ) → AreClean number place front → AreClean number place xs
    → fault_at number (length front + place) octet ≡ Some fault → fault_at number (length xs + place) 10 ≡ None
    → front ++ octet ∷ rest ≡ xs ++ 10 ∷ r → ⊥
fault_unended number place fault [] [] r rest octet clean first shown ends is =
    let same : octet ≡ 10 = cc in
    let clash : Some fault ≡ None = sym shown ∙ ap (fault_at number (0 + place)) same ∙ ends in
    absurd (cc (clash))
fault_unended number place fault [] (x ∷ xs) r rest octet clean first shown ends is =
    let same : octet ≡ x = cc in
    let none : fault_at number place x ≡ None = first.1 in
    let start : 0 + place ≡ place = omega arith in
    let clash : Some fault ≡ None = sym shown ∙ ap (λ n. fault_at number n octet) start ∙ ap (fault_at number place) same ∙ none in
    absurd (cc (clash))
fault_unended number place fault (f ∷ fs) [] r rest octet clean first shown ends is = let same : f ≡ 10 = cc in absurd (clean.0 same)
fault_unended number place fault (f ∷ fs) (x ∷ xs) r rest octet clean first shown ends is =
    let more : fs ++ octet ∷ rest ≡ xs ++ 10 ∷ r = cc in
    fault_unended number (place + 1) fault fs xs r rest octet clean.2 first.2
    (subst (λ (n : ℕ). fault_at number n octet ≡ Some fault) (omega arith) shown)
    (subst (λ (n : ℕ). fault_at number n 10 ≡ None) (omega arith) ends) more

joined : (xs r : List ℕ) → (xs ++ 10 ∷ []) ++ r ≡ xs ++ 10 ∷ r
joined xs r = append_assoc xs (10 ∷ []) r

text_more : (lines : List (List ℕ)) (line : List ℕ) → text_of (lines ++ line ∷ []) ≡ text_of lines ++ (line ++ 10 ∷ [])
text_more [] line = append-nil (line ++ 10 ∷ [])
text_more (l ∷ ls) line =
    ap (λ (t : List ℕ). (l ++ 10 ∷ []) ++ t) (text_more ls line) ∙ sym (append_assoc (l ++ 10 ∷ []) (text_of ls) (line ++ 10 ∷ []))

length_more : (lines : List (List ℕ)) (line : List ℕ) → length (lines ++ line ∷ []) ≡ length lines + 1
length_more lines line = let size = length-append lines (line ∷ []) in omega (arith, size)

-- nothing waits, or the next line is there already
pub nothing_or_ready : (old new : Option (List ℕ)) (waited waits : List ℕ) (lines : Lines) {ready : Bool} → Flushes old new waited waits ready
    → (IsTrue ready ↔ IsReady lines) → (waits ≡ []) ⊎ IsReady lines
nothing_or_ready old new waited waits lines {ready = ready} writes means = by writes.whole
  where
    by : (waits ≡ []) ⊎ (IsTrue ready × (length waits < 65536)) → (waits ≡ []) ⊎ IsReady lines
    by (inl none) = inl none
    by (inr there) = inr (means.0 there.0)

module _ {S : Type 0} (rule : LineRule S) where
  -- no whole line comes first here that is answered
  abbrev NoneAnswered : ℕ → S → List ℕ → Type 0
  NoneAnswered number at rest = (line more : List ℕ) → rest ≡ (line ++ 10 ∷ []) ++ more → IsLine number line
      → (text : List ℕ) × (rule.response number at line ≡ Stops text)

  after_clean : (number : ℕ) (at : S) (held : List ℕ) → AreClean number 1 held → NoneAnswered number at held
  after_clean number at held clean xs more is there =
      absurd (clean_unended number 1 held xs more clean there.0 (is ∙ joined xs more))

  after_fault : (number : ℕ) (at : S) (held : List ℕ) (fault : LineFault) → ShowsFault number fault held → NoneAnswered number at held
  after_fault number at held fault shows xs more is there =
      absurd (fault_unended number 1 fault shows.front xs more shows.rest shows.octet shows.clean there.0 shows.shown there.1
      (sym shows.split ∙ is ∙ joined xs more))

  after_stopped : (number : ℕ) (at : S) (octets behind text : List ℕ) → IsLine number octets → rule.response number at octets ≡ Stops text
      → NoneAnswered number at ((octets ++ 10 ∷ []) ++ behind)
  after_stopped number at octets behind text here responds xs more is there =
      let same : octets ≡ xs = clean_same number 1 octets xs behind more here.0 there.0 (sym (joined octets behind) ∙ is ∙ joined xs more) in
      (text, subst (λ l. rule.response number at l ≡ Stops text) same responds)

  -- the form is at a state, or broke off at the line that comes first here
  abbrev pub StandsOrBroke : (At : S → Type 0) → (Broken : ℕ → S → List ℕ → Type 0) → ℕ → S → List ℕ → Type 0
  StandsOrBroke At Broken number at rest =
      At at ⊎ ((line : List ℕ) × (more : List ℕ) × (rest ≡ (line ++ 10 ∷ []) ++ more) × IsLine number line × Broken number at line)

  -- ---- the lines so far

  -- the lines that were answered so far, the state after them, and what of their text was written
  pub record LinesSo (state : S) (first left old new : Option (List ℕ)) (held waits : List ℕ) (count : ℕ) (at : S) : Type 0 where
    pub lines : List (List ℕ)
    pub text : List ℕ
    pub out : List ℕ
    pub leads : LeadsTo rule 1 state lines text at
    pub counts : count ≡ length lines
    pub taken : Consumes first left (text_of lines ++ held)
    pub written : Appends old new out
    pub said : out ++ waits ≡ text

  pub none_so : (state : S) (first old : Option (List ℕ)) (held waits : List ℕ) (count : ℕ) → held ≡ [] → waits ≡ [] → count ≡ 0
      → LinesSo state first first old old held waits count state
  none_so state first old held waits count none nothing zero_count = record {
    lines = [];
    text = [];
    out = [];
    leads = (refl, refl);
    counts = zero_count;
    taken = subst (Consumes first first) (sym none) (consumes_self first);
    written = appends_none old;
    said = nothing;
  }

  -- one line more, after others
  leads_more : (number : ℕ) (state : S) (lines : List (List ℕ)) (text : List ℕ) (at : S) (line said : List ℕ) (next : S)
      → LeadsTo rule number state lines text at → IsLine (number + length lines) line → rule.response (number + length lines) at line ≡ GoesOn said next
      → LeadsTo rule number state (lines ++ line ∷ []) (text ++ said) next
  leads_more number state [] text at line said next leads is responds =
      let none : number + 0 ≡ number = omega arith in (
        said,
        next,
        [],
        subst (λ n. IsLine n line) none is,
        subst (λ s. rule.response number s line ≡ GoesOn said next) leads.1 (subst (λ n. rule.response n at line ≡ GoesOn said next) none responds),
        ap (λ (t : List ℕ). t ++ said) leads.0 ∙ sym (append-nil said),
        (refl, refl),
      )
  leads_more number state (l ∷ ls) text at line said next leads is responds =
      let more : number + length (l ∷ ls) ≡ number + 1 + length ls = omega arith in (
        leads.0,
        leads.1,
        leads.2 ++ said,
        leads.3,
        leads.4,
        ap (λ (t : List ℕ). t ++ said) leads.5 ∙ append_assoc leads.0 leads.2 said,
        leads_more (number + 1) leads.1 ls leads.2 at line said next leads.6 (subst (λ n. IsLine n line) more is)
            (subst (λ n. rule.response n at line ≡ GoesOn said next) more responds),
      )

  module _ (state : S) (first left old new : Option (List ℕ)) (held waits : List ℕ) (count : ℕ) (at : S)
      (s : LinesSo state first left old new held waits count at) where
    -- a part of what waits went out
    pub flushed_so : (new' : Option (List ℕ)) (waits' : List ℕ) (ready : Bool) → Flushes new new' waits waits' ready
        → LinesSo state first left old new' held waits' count at
    flushed_so new' waits' ready writes = record {
      lines = s.lines;
      text = s.text;
      out = s.out ++ writes.sent;
      leads = s.leads;
      counts = s.counts;
      taken = s.taken;
      written = appends_more old new new' s.out writes.sent s.written writes.written;
      said = append_assoc s.out writes.sent waits' ∙ ap (λ (w : List ℕ). s.out ++ w) (sym writes.split) ∙ s.said;
    }

    -- the number of the next line
    number_is : (n : ℕ) → n ≡ count + 1 → n ≡ length s.lines + 1
    number_is n is = let same = s.counts in omega (arith, is, same)

    -- a line more is answered
    module _ (left' : Option (List ℕ)) (held' line' : List ℕ) (number : ℕ) (is_next : number ≡ count + 1) (is_line : IsLine number line')
        (grows : GrowsByReading left left' held ((line' ++ 10 ∷ []) ++ held')) where
      took : Consumes first left' (text_of s.lines ++ ((line' ++ 10 ∷ []) ++ held'))
      took = reads_on first left left' (text_of s.lines) held ((line' ++ 10 ∷ []) ++ held') s.taken grows

      pub answered_so : (said : List ℕ) (next : S) (waits' : List ℕ) → rule.response number at line' ≡ GoesOn said next → waits' ≡ waits ++ said
          → LinesSo state first left' old new held' waits' (count + 1) next
      answered_so said next waits' responds waiting =
          let same : number ≡ 1 + length s.lines = (let n = number_is number is_next in omega (arith, n)) in
          record {
            lines = s.lines ++ line' ∷ [];
            text = s.text ++ said;
            out = s.out;
            leads = leads_more 1 state s.lines s.text at line' said next s.leads (subst (λ n. IsLine n line') same is_line)
                (subst (λ n. rule.response n at line' ≡ GoesOn said next) same responds);
            counts = (let size = length_more s.lines line' in let c = s.counts in omega (arith, size, c));
            taken = subst (Consumes first left')
                (sym (append_assoc (text_of s.lines) (line' ++ 10 ∷ []) held') ∙ ap (λ (t : List ℕ). t ++ held') (sym (text_more s.lines line'))) took;
            written = s.written;
            said = ap (λ (w : List ℕ). s.out ++ w) waiting ∙ sym (append_assoc s.out waits said) ∙ ap (λ (t : List ℕ). t ++ said) s.said;
          }

    -- ---- endings

    module _ (At : S → Type 0) (Broken : ℕ → S → List ℕ → Type 0) (left' new' : Option (List ℕ)) (reads reads' writes mid writes' : ℕ)
        (rest : List ℕ) (taken : Consumes first left' (text_of s.lines ++ rest)) where
      abbrev run : Run
      run = between (side first reads) (side left' reads') (side old writes) (side new' writes')

      -- this was read and written
      abbrev read_so : (out : List ℕ) → Appends old new' out → LinesRead rule state run
      read_so out went = record { lines = s.lines; text = s.text; at = at; rest = rest; out = out; leads = s.leads; taken = taken; written = went }

      none_follows : NoneAnswered (count + 1) at rest → NoneAnswered (length s.lines + 1) at rest
      none_follows none = subst (λ n. NoneAnswered n at rest) (ap (λ n. n + 1) s.counts) none

      -- a write failed
      pub unwritten_so : (k : ℕ) (waits' : List ℕ) → Appends new new' (take k waits')
          → (IsFront (s.out ++ take k waits') s.text ⊎ NoneAnswered (length s.lines + 1) at rest)
          → StandsOrBroke At Broken (length s.lines + 1) at rest
          → Leaves rule At Broken state run WriteFault
      unwritten_so k waits' went front is =
          let b : LinesRead rule state run = read_so (s.out ++ take k waits') (appends_more old new new' s.out (take k waits') s.written went) in
          (b, front, by is)
        where
          by : StandsOrBroke At Broken (length s.lines + 1) at rest
              → IsLeft At Broken (read_so (s.out ++ take k waits') (appends_more old new new' s.out (take k waits') s.written went))
          by (inl stands) = inl stands
          by (inr b) = inr (b.0, record { more = b.1; splits = b.2; is_line = b.3; broken = b.4 })

      -- a front of what waits is one of the text
      part_waits : (k : ℕ) → IsFront (s.out ++ take k waits) s.text
      part_waits k =
          (drop k waits, sym s.said ∙ ap (λ (l : List ℕ). s.out ++ l) (sym (take-append-drop k waits)) ∙ sym (append_assoc s.out (take k waits) (drop k waits)))

      -- a last text goes out after the lines', where none follows
      pub last_so : (more waits' : List ℕ) (status result : Status) → waits' ≡ waits ++ more → Finishes (side new mid) (side new' writes') waits' status result
          → NoneAnswered (count + 1) at rest → At at
          → ((b : LinesRead rule state run) → NoneFollows b → b.rest ≡ rest → IsFront b.text b.out → At b.at → Leaves rule At Broken state run status)
          → Leaves rule At Broken state run result
      last_so more waits' status result waiting (inl done) none stands leaves =
          let b : LinesRead rule state run = read_so (s.out ++ waits') (appends_more old new new' s.out waits' s.written done.1) in
          subst (λ (z : Status). Leaves rule At Broken state run z) (sym done.0)
          (leaves b (none_follows none) refl
          (more, ap (λ (w : List ℕ). s.out ++ w) waiting ∙ sym (append_assoc s.out waits more) ∙ ap (λ (t : List ℕ). t ++ more) s.said) stands)
      last_so more waits' status result waiting (inr failed) none stands leaves =
          subst (λ (z : Status). Leaves rule At Broken state run z) (sym failed.0)
          (unwritten_so failed.1.0 waits' failed.1.2 (inr (none_follows none)) (inl stands))

      -- all that waits goes out
      pub all_so : (waits' : List ℕ) (status result : Status) → waits' ≡ waits → Finishes (side new mid) (side new' writes') waits' status result
          → StandsOrBroke At Broken (length s.lines + 1) at rest
          → ((went : Appends old new' (s.out ++ waits')) → (s.out ++ waits' ≡ s.text) → Leaves rule At Broken state run status)
          → Leaves rule At Broken state run result
      all_so waits' status result same (inl done) is leaves =
          subst (λ (z : Status). Leaves rule At Broken state run z) (sym done.0)
          (leaves (appends_more old new new' s.out waits' s.written done.1) (ap (λ (w : List ℕ). s.out ++ w) same ∙ s.said))
      all_so waits' status result same (inr failed) is leaves =
          subst (λ (z : Status). Leaves rule At Broken state run z) (sym failed.0)
          (unwritten_so failed.1.0 waits' failed.1.2
          (inl (subst (λ (w : List ℕ). IsFront (s.out ++ take failed.1.0 w) s.text) (sym same) (part_waits failed.1.0))) is)

      -- a last text goes out, where there was memory for it, and no line follows
      pub stopped_so : (text : List ℕ) (status result : Status) → StopsWith (side new mid) (side new' writes') status text waits result
          → NoneAnswered (count + 1) at rest → At at
          → ((b : LinesRead rule state run) → NoneFollows b → b.rest ≡ rest → IsFront b.text b.out → At b.at → Leaves rule At Broken state run status)
          → Leaves rule At Broken state run result
      stopped_so text status result stops none stands leaves = by stops.2
        where
          by : IsQueued status text waits stops.1 stops.0 → Leaves rule At Broken state run result
          by (inl is) =
              last_so text stops.1 status result is.1 (subst (λ (z : Status). Finishes (side new mid) (side new' writes') stops.1 z result) is.0 stops.3)
              none stands leaves
          by (inr is) =
              all_so stops.1 OutOfMemory result is.1 (subst (λ (z : Status). Finishes (side new mid) (side new' writes') stops.1 z result) is.0 stops.3)
              (inl stands) (λ went all. (read_so (s.out ++ stops.1) went, all, inl stands))

  -- ---- the call for the next line

  module _ {A : Type 0} (left_of : A → Option (List ℕ)) (faults_of : A → ℕ) (source source' : A)
      (state : S) (first old new : Option (List ℕ)) (reads writes : ℕ) (lines lines' : Lines) (waits : List ℕ) (at : S)
      (s : LinesSo state first (left_of source) old new (octets_ahead lines) waits (lines_so_far lines) at) (unbroken : fault_of_lines lines ≡ None) where
    abbrev left : Option (List ℕ)
    left = left_of source

    abbrev left' : Option (List ℕ)
    left' = left_of source'

    -- a whole line
    module _ (number : ℕ) (octets : List ℕ) (moved : HasMoved left_of faults_of source source' lines lines' (Ok (Some (number, octets)))) (waits' : List ℕ) where
      abbrev next : IsNext left left' lines lines' (Ok (Some (number, octets)))
      next = moved.next unbroken

      is_line : IsLine number octets
      is_line = subst (λ n. IsLine n octets) (sym next.answer.0) next.answer.1

      abbrev rest : List ℕ
      rest = (octets ++ 10 ∷ []) ++ octets_ahead lines'

      taken : Consumes first left' (text_of s.lines ++ rest)
      taken = took state first left old new (octets_ahead lines) waits (lines_so_far lines) at s left' (octets_ahead lines') octets number next.answer.0 is_line next.answer.2

      number_so : number ≡ length s.lines + 1
      number_so = number_is state first left old new (octets_ahead lines) waits (lines_so_far lines) at s number next.answer.0

      -- the form goes on
      pub goes_on_so : (At : S → Type 0) → Ends line.GoesOn (rule.response number at octets) waits waits' At
          → (at' : S) × At at' × LinesSo state first left' old new (octets_ahead lines') waits' (lines_so_far lines') at'
      goes_on_so At ends = by (rule.response number at octets) refl ends
        where
          by : (r : ResponseOf S) → rule.response number at octets ≡ r → Ends line.GoesOn r waits waits' At
              → (at' : S) × At at' × LinesSo state first left' old new (octets_ahead lines') waits' (lines_so_far lines') at'
          by (GoesOn text then) is ends = (
            then,
            ends.1,
            subst (λ n. LinesSo state first left' old new (octets_ahead lines') waits' n then) (sym next.number)
                (answered_so state first left old new (octets_ahead lines) waits (lines_so_far lines) at s left' (octets_ahead lines') octets number next.answer.0 is_line
                next.answer.2 text then waits' is ends.0),
          )
          by (Stops text) is ends = absurd ends
          by Fills is ends = absurd ends

      module _ (At : S → Type 0) (Broken : ℕ → S → List ℕ → Type 0) (new' : Option (List ℕ)) (mid writes' : ℕ) (result : Status) where
        abbrev ran : Run
        ran = between (side first reads) (side left' (faults_of source')) (side old writes) (side new' writes')

        -- the line is at fault
        pub stops_so : (At' : S → Type 0) → Ends line.Stops (rule.response number at octets) waits waits' At'
            → Finishes (side new mid) (side new' writes') waits' BadInput result → At at → Leaves rule At Broken state ran result
        stops_so At' ends finished stands = by (rule.response number at octets) refl ends
          where
            by : (r : ResponseOf S) → rule.response number at octets ≡ r → Ends line.Stops r waits waits' At' → Leaves rule At Broken state ran result
            by (GoesOn text then) is ends = absurd ends
            by Fills is ends = absurd ends
            by (Stops text) is ends =
                last_so state first left old new (octets_ahead lines) waits (lines_so_far lines) at s At Broken left' new' reads (faults_of source') writes mid writes' rest
                taken text waits' BadInput result ends finished
                (after_stopped (lines_so_far lines + 1) at octets (octets_ahead lines') text next.answer.1 (subst (λ n. rule.response n at octets ≡ Stops text) next.answer.0 is))
                stands (λ b none same front is. (b, none, front, is))

        broke : Broken number at octets → StandsOrBroke At Broken (length s.lines + 1) at rest
        broke broken =
            inr (octets, octets_ahead lines', refl, subst (λ n. IsLine n octets) number_so is_line, subst (λ n. Broken n at octets) number_so broken)

        -- there was no memory for it
        pub memory_so : waits' ≡ waits → Finishes (side new mid) (side new' writes') waits' OutOfMemory result → Broken number at octets
            → Leaves rule At Broken state ran result
        memory_so same finished broken =
            all_so state first left old new (octets_ahead lines) waits (lines_so_far lines) at s At Broken left' new' reads (faults_of source') writes mid writes' rest
            taken waits' OutOfMemory result same finished (broke broken)
            (λ went all. (
              read_so state first left old new (octets_ahead lines) waits (lines_so_far lines) at s At Broken left' new' reads (faults_of source') writes mid writes'
                  rest taken (s.out ++ waits') went,
              all,
              inr (
                octets,
                record {
                  more = octets_ahead lines';
                  splits = refl;
                  is_line = subst (λ n. IsLine n octets) number_so is_line;
                  broken = subst (λ n. Broken n at octets) number_so broken;
                },
              ),
            ))

        -- a journal has no room for what it puts
        pub fills_so : (At' : S → Type 0) → Ends line.Full (rule.response number at octets) waits waits' At'
            → Finishes (side new mid) (side new' writes') waits' JournalFull result → Broken number at octets → Leaves rule At Broken state ran result
        fills_so At' ends finished broken = by (rule.response number at octets) refl ends
          where
            by : (r : ResponseOf S) → rule.response number at octets ≡ r → Ends line.Full r waits waits' At' → Leaves rule At Broken state ran result
            by (GoesOn text then) is ends = absurd ends
            by (Stops text) is ends = absurd ends
            by Fills is ends =
                all_so state first left old new (octets_ahead lines) waits (lines_so_far lines) at s At Broken left' new' reads (faults_of source') writes mid writes' rest
                taken waits' JournalFull result ends finished (broke broken)
                (λ went all. (
                  read_so state first left old new (octets_ahead lines) waits (lines_so_far lines) at s At Broken left' new' reads (faults_of source') writes mid
                      writes' rest taken (s.out ++ waits') went,
                  all,
                  (
                    octets,
                    record {
                      more = octets_ahead lines';
                      splits = refl;
                      is_line = subst (λ n. IsLine n octets) number_so is_line;
                      broken = subst (λ n. Broken n at octets) number_so broken;
                    },
                    subst (λ n. rule.response n at octets ≡ Fills) number_so is,
                  ),
                ))

    -- nothing more is taken
    module _ (grows : GrowsByReading left left' (octets_ahead lines) (octets_ahead lines')) (At : S → Type 0) (Broken : ℕ → S → List ℕ → Type 0)
        (new' : Option (List ℕ)) (mid writes' : ℕ) (result : Status) where
      abbrev ends : Run
      ends = between (side first reads) (side left' (faults_of source')) (side old writes) (side new' writes')

      taken_so : Consumes first left' (text_of s.lines ++ octets_ahead lines')
      taken_so = reads_on first left left' (text_of s.lines) (octets_ahead lines) (octets_ahead lines') s.taken grows

      -- the input ended
      pub all_read_so : octets_ahead lines' ≡ [] → (text : List ℕ) → StopsWith (side new mid) (side new' writes') AllRead text waits result → At at
          → Leaves rule At Broken state ends result
      all_read_so none text stops stands =
          stopped_so state first left old new (octets_ahead lines) waits (lines_so_far lines) at s At Broken left' new' reads (faults_of source') writes mid writes'
          (octets_ahead lines') taken_so text AllRead result stops (after_clean (lines_so_far lines + 1) at (octets_ahead lines') (subst (λ l. AreClean (lines_so_far lines + 1) 1 l) (sym none) tt))
          stands (λ b follows same front is. (b, same ∙ none, front, is))

      -- the octets show a fault, or end within a line
      pub broken_so : (fault : LineFault) → ShowsFault (lines_so_far lines + 1) fault (octets_ahead lines') ⊎ AreClean (lines_so_far lines + 1) 1 (octets_ahead lines')
          → (text : List ℕ) → StopsWith (side new mid) (side new' writes') BadInput text waits result → At at
          → Leaves rule At Broken state ends result
      broken_so fault shown text stops stands =
          stopped_so state first left old new (octets_ahead lines) waits (lines_so_far lines) at s At Broken left' new' reads (faults_of source') writes mid writes'
          (octets_ahead lines') taken_so text BadInput result stops (by shown)
          stands (λ b follows same front is. (b, follows, front, is))
        where
          by : ShowsFault (lines_so_far lines + 1) fault (octets_ahead lines') ⊎ AreClean (lines_so_far lines + 1) 1 (octets_ahead lines') → NoneAnswered (lines_so_far lines + 1) at (octets_ahead lines')
          by (inl shows) = after_fault (lines_so_far lines + 1) at (octets_ahead lines') fault shows
          by (inr clean) = after_clean (lines_so_far lines + 1) at (octets_ahead lines') clean

      -- a read failed, where nothing waited
      pub unread_so : AreClean (lines_so_far lines + 1) 1 (octets_ahead lines') → waits ≡ [] → new' ≡ new → At at → Leaves rule At Broken state ends ReadFault
      unread_so clean none same stands = (
        read_so state first left old new (octets_ahead lines) waits (lines_so_far lines) at s At Broken left' new' reads (faults_of source') writes mid writes'
            (octets_ahead lines') taken_so s.out (subst (λ n. Appends old n s.out) (sym same) s.written),
        none_follows state first left old new (octets_ahead lines) waits (lines_so_far lines) at s At Broken left' new' reads (faults_of source') writes mid writes'
            (octets_ahead lines') taken_so (after_clean (lines_so_far lines + 1) at (octets_ahead lines') clean),
        sym (append-nil s.out) ∙ ap (λ (w : List ℕ). s.out ++ w) (sym none) ∙ s.said,
        stands,
      )

    -- the input ends
    pub input_ends_so : HasMoved left_of faults_of source source' lines lines' (Ok None) → (At : S → Type 0)
        → (Broken : ℕ → S → List ℕ → Type 0) (new' : Option (List ℕ)) (mid writes' : ℕ) (result : Status) (text : List ℕ)
        → StopsWith (side new mid) (side new' writes') AllRead text waits result → At at
        → Leaves rule At Broken state (between (side first reads) (side left' (faults_of source')) (side old writes) (side new' writes')) result
    input_ends_so moved At Broken new' mid writes' result text stops stands =
        let next = moved.next unbroken in
        all_read_so next.answer.0 At Broken new' mid writes' result next.answer.1 text stops stands

    -- the lines end at a fault
    module _ {K : Type 0} (written_of : K → Option (List ℕ)) (failed_of : K → ℕ) (sink sink' : K) (result : Status) (fault : LineFault)
        (At : S → Type 0) (Broken : ℕ → S → List ℕ → Type 0) (text : List ℕ) (at_sink : written_of sink ≡ new)
        (moved : HasMoved left_of faults_of source source' lines lines' (Err fault)) (way : (waits ≡ []) ⊎ IsReady lines)
        (read : fault ≡ NotRead → (result ≡ ReadFault) × (sink' ≡ sink))
        (other : fault ≢ NotRead → StopsWith (side (written_of sink) (failed_of sink)) (side (written_of sink') (failed_of sink')) BadInput text waits result)
        (stands : At at) where
      abbrev ended : Status → Type 0
      ended z = Leaves rule At Broken state (between (side first reads) (side left' (faults_of source')) (side old writes) (side (written_of sink') (failed_of sink'))) z

      abbrev no_line : IsNext left left' lines lines' (Err fault)
      no_line = moved.next unbroken

      failed : fault ≡ NotRead → (waits ≡ []) ⊎ IsReady lines → ended ReadFault
      failed is (inr ready) = absurd ((moved.ready ready).1 unbroken (ap (λ (f : LineFault). Err f) is))
      failed is (inl none) =
          let clean : HasFault (lines_so_far lines + 1) (octets_ahead lines') left' NotRead =
          subst (λ f. HasFault (lines_so_far lines + 1) (octets_ahead lines') left' f) is no_line.answer.1 in
          unread_so no_line.answer.0 At Broken (written_of sink') (failed_of sink) (failed_of sink') result clean none
          (ap written_of (read is).1 ∙ at_sink) stands

      shown : ShowsFault (lines_so_far lines + 1) fault (octets_ahead lines') ⊎ (IsAtEnd left' × AreClean (lines_so_far lines + 1) 1 (octets_ahead lines') × (0 < length (octets_ahead lines'))
          × (fault ≡ NoLineEnd (lines_so_far lines + 1) (length (octets_ahead lines') + 1)))
          → ShowsFault (lines_so_far lines + 1) fault (octets_ahead lines') ⊎ AreClean (lines_so_far lines + 1) 1 (octets_ahead lines')
      shown (inl shows) = inl shows
      shown (inr ended) = inr ended.1

      by_fault : (fault ≡ NotRead) ⊎ (fault ≢ NotRead) → ended result
      by_fault (inl is) = subst ended (sym (read is).0) (failed is way)
      by_fault (inr is) =
          broken_so no_line.answer.0 At Broken (written_of sink') (failed_of sink) (failed_of sink') result fault
          (shown (fault_shown (lines_so_far lines + 1) (octets_ahead lines') left' fault no_line.answer.1 is)) text
          (subst (λ (w : Option (List ℕ)). StopsWith (side w (failed_of sink)) (side (written_of sink') (failed_of sink')) BadInput text waits result)
          at_sink (other is)) stands

      pub ends_at_fault_so : ended result
      ends_at_fault_so = by_fault (is_read fault)

  -- nothing is read and nothing written
  pub unread_left : (At : S → Type 0) (Broken : ℕ → S → List ℕ → Type 0) (state : S) (left old : Option (List ℕ)) (reads writes : ℕ)
      → At state → Leaves rule At Broken state (between (side left reads) (side left reads) (side old writes) (side old writes)) OutOfMemory
  unread_left At Broken state left old reads writes stands = (
    record {
      lines = [];
      text = [];
      at = state;
      rest = [];
      out = [];
      leads = (refl, refl);
      taken = consumes_self left;
      written = appends_none old;
    },
    refl,
    inl stands,
  )

  -- a write failed between two lines
  pub write_fails_so : (At : S → Type 0) (Broken : ℕ → S → List ℕ → Type 0) (state : S) (first left old new : Option (List ℕ))
      (held waits : List ℕ) (count : ℕ) (at : S) (s : LinesSo state first left old new held waits count at) (new' : Option (List ℕ))
      (reads reads' writes writes' k : ℕ) → Appends new new' (take k waits) → At at
      → Leaves rule At Broken state (between (side first reads) (side left reads') (side old writes) (side new' writes')) WriteFault
  write_fails_so At Broken state first left old new held waits count at s new' reads reads' writes writes' k went stands =
      unwritten_so state first left old new held waits count at s At Broken left new' reads reads' writes writes writes' held s.taken k waits went
      (inl (part_waits state first left old new held waits count at s At Broken left new' reads reads' writes writes writes' held s.taken k)) (inl stands)
