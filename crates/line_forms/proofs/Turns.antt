-- Between two lines of a run, and what the call for the next line leaves.
use Rattle.std.proofs.Common.{◌≡◌, ◌≢◌, ◌⊎◌, ◌↔◌, inl, inr, ⊎_elim, ℕ, ◌+◌, ◌≤◌, ◌<◌, length}
use Rattle.std.proofs.Common.{Bool, List, [], ◌∷◌, ◌++◌, take, refl, sym, ◌∙◌, ap, subst}
use Rattle.std.proofs.Common.{arith, append_assoc, append-nil}
use Rattle.std.specs.Prelude.{Option, None, Some, Ok, Err, Result, IsTrue}
use Rattle.std.specs.Io.KnownBytes.{Appends, IsAtEnd}
use Rattle.cds_base.specs.Counts.{Rose}
use Rattle.cds_base.specs.SourceReading.{GrowsByReading}
use Rattle.cds_base.specs.declared.lines.Lines.{Lines}
use Rattle.cds_base.specs.declared.scan.LineFault.{LineFault}
use Rattle.cds_base.specs.declared.scan.LineFault.TheVariants.{LineTooLong, NotAscii, NoLineEnd, TooManyLines, ReadFault as NotRead}
use Rattle.cds_base.specs.LineFaults.{AreClean, IsLine, ShowsFault}
use Rattle.cds_base.specs.Lines.{lines_so_far, octets_ahead, fault_of_lines, IsReady, IsNext, HasLineCause, HasMoved}
use Rattle.cds_base.proofs.KnownOctets.{consumes_self, appends_none}
use Rattle.cds_base.proofs.LineAnswers.{fault_shown}
use Rattle.reply_buffer.specs.declared.replies.LineEnd.TheVariants as line
use Rattle.line_forms.specs.declared.endings.Status.{Status}
use Rattle.line_forms.specs.declared.endings.Status.TheVariants.{Ok as AllRead, BadInput, ReadFault, WriteFault, OutOfMemory, JournalFull}
use Rattle.line_forms.specs.Demand.{Demand, IsUnbroken, LineRule, line_demand, at_end, then_rest}
use Rattle.reply_buffer.specs.Responses.{ResponseOf, GoesOn, Stops, Fills}
use Rattle.line_forms.specs.Demand.{faulty_with, full_journal_demand, ends_with, cut_short_with, with_front}
use Rattle.line_forms.specs.Readings.{by_lines}
use Rattle.reply_buffer.specs.LineEnds.{Ends}
use Rattle.reply_buffer.specs.Waiting.{Flushes}
use Rattle.line_forms.specs.Runs.{AnswersFront, IsBody, IsFaulty, IsFilled, IsPart, IsWhole}
use Rattle.line_forms.specs.Endings.{IsDue, Finishes, StopsWith, side, EndsBetween}
use Rattle.line_forms.proofs.Scanning.{scanned, demanded_scanned}
use Rattle.line_forms.proofs.Demands.{demand_line, demand_broken, demand_part}
use Rattle.line_forms.proofs.Progress.{Pending, Reached, StopsHere, Turn, started, flushed_before, goes_on, one_taken, demands_with, more_read}
use Rattle.line_forms.proofs.Progress.{write_failed, finishes, stops_with, wrote_all, read_failed, reads_on, answers_taken}

-- the count of failures stays where no read failed
no_rise : (T : Type 0) (before now : ℕ) (fault : LineFault) → fault ≢ NotRead
    → (let failed : Result T LineFault = Err fault in HasLineCause before now failed) → now ≡ before
no_rise T before now (LineTooLong n k) other cause = cause
no_rise T before now (NotAscii n k) other cause = cause
no_rise T before now (NoLineEnd n k) other cause = cause
no_rise T before now (TooManyLines n k) other cause = cause
no_rise T before now NotRead other cause = absurd (other refl)

-- whether a read failed
pub is_read : (fault : LineFault) → (fault ≡ NotRead) ⊎ (fault ≢ NotRead)
is_read (LineTooLong n k) = inr (λ is. cc (is))
is_read (NotAscii n k) = inr (λ is. cc (is))
is_read (NoLineEnd n k) = inr (λ is. cc (is))
is_read (TooManyLines n k) = inr (λ is. cc (is))
is_read NotRead = inl refl

-- what was counted is not more than the lines given
pub counts_on : (left left' : Option (List ℕ)) (lines lines' : Lines) (number : ℕ) (octets : List ℕ) (x : ℕ)
    → IsNext left left' lines lines' (Ok (Some (number, octets))) → x ≤ number → x ≤ lines_so_far lines'
counts_on left left' lines lines' number octets x next few =
    let first = next.answer.0 in
    let more = next.number in
    omega (arith, first, more, few)

module _ {S : Type 0} (rule : LineRule S) where
  -- what the octets after the lines so far demand
  abbrev pub BehindLines : ℕ → S → List ℕ → Demand → Type 0
  BehindLines count at r d = scanned rule (count + 1) at [] r ≡ d

  pub lines_stop : (count : ℕ) (at : S) → StopsHere (BehindLines count at)
  lines_stop count at = record { demand = at_end rule (count + 1) at []; behind = demand_part rule (count + 1) at [] tt; none = refl; unbroken = tt }

  -- before the first line
  pub first_line : (state : S) (first old : Option (List ℕ)) (held waits : List ℕ) (count : ℕ) → held ≡ [] → waits ≡ [] → count ≡ 0
      → Reached (by_lines rule state) first first old old held waits (BehindLines count state)
  first_line state first old held waits count none nothing zero_count =
      started (by_lines rule state) first old held waits (BehindLines count state) none nothing
      (λ r d behind. demanded_scanned rule state r ∙ ap (λ (n : ℕ). scanned rule (n + 1) state [] r) (sym zero_count) ∙ behind) (lines_stop count state)

  -- the form is where the lines so far bring it, no fault was met, and no call failed
  pub record IsBetween (state : S) (first left old new : Option (List ℕ)) (reads reads' writes writes' : ℕ) (lines : Lines) (At : S → Type 0)
      (waits : List ℕ) : Type 0 where
    pub at : S
    pub stands : At at
    pub reached : Reached (by_lines rule state) first left old new (octets_ahead lines) waits (BehindLines (lines_so_far lines) at)
    pub unbroken : fault_of_lines lines ≡ None
    pub calm : reads' ≡ reads
    pub quiet : writes' ≡ writes

  module _ (state : S) (first left old new : Option (List ℕ)) (reads reads' writes writes' : ℕ) (lines : Lines) (At : S → Type 0)
      (waits : List ℕ) (b : IsBetween state first left old new reads reads' writes writes' lines At waits) where
    -- a write failed
    pub write_fails : (new' : Option (List ℕ)) (k writes'' : ℕ) → (k < length waits) × Appends new new' (take k waits) → Rose writes' writes''
        → EndsBetween (by_lines rule state) (side first reads) (side left reads') (side old writes) (side new' writes'') WriteFault
    write_fails new' k writes'' went rose =
        let now = b.reached.pending in
        let rest : Demand = scanned rule (lines_so_far lines + 1) b.at [] (octets_ahead lines) in
        write_failed (by_lines rule state) first left old new (octets_ahead lines) now (with_front (now.out ++ waits) rest)
        (b.reached.so_far (octets_ahead lines) rest refl) new' waits k writes writes'' reads reads' went
        (inl (rest.body, refl))
        (subst (λ n. Rose n writes'') b.quiet rose) b.calm

    -- way was made for the next line
    pub turned : (new' : Option (List ℕ)) (waits' : List ℕ) (ready : Bool) → Flushes new new' waits waits' ready → (IsTrue ready ↔ IsReady lines)
        → Turn (by_lines rule state) first left old new' (octets_ahead lines) waits' (BehindLines (lines_so_far lines) b.at) (IsReady lines)
    turned new' waits' ready writes means = flushed_before (by_lines rule state) first left old new new' (octets_ahead lines) waits waits'
        (BehindLines (lines_so_far lines) b.at) ready (IsReady lines) b.reached (lines_stop (lines_so_far lines) b.at) writes means.0

  -- ---- what is due after the lines so far, with this text

  module _ (left' : Option (List ℕ)) (out waits : List ℕ) (count : ℕ) (at : S) where
    -- a line is faulty
    line_due : (line r text waits' : List ℕ) → IsLine (count + 1) line → rule.response (count + 1) at line ≡ Stops text → waits' ≡ waits ++ text
        → BehindLines count at ((line ++ 10 ∷ []) ++ r) (faulty_with text) × IsFaulty (IsAtEnd left') (with_front (out ++ waits) (faulty_with text)) (out ++ waits')
    line_due line r text waits' is responds waiting = (
      demand_line rule (count + 1) at line r is ∙ ap (λ e. then_rest e (λ next. scanned rule (count + 1 + 1) next [] r)) responds,
      inl (refl, ap (λ (w : List ℕ). out ++ w) waiting ∙ sym (append_assoc out waits text)),
    )

    -- a line finds no room in a journal
    fill_due : (line r waits' : List ℕ) → IsLine (count + 1) line → rule.response (count + 1) at line ≡ Fills → waits' ≡ waits
        → BehindLines count at ((line ++ 10 ∷ []) ++ r) full_journal_demand × IsFilled (with_front (out ++ waits) full_journal_demand) (out ++ waits')
    fill_due line r waits' is responds same = (
      demand_line rule (count + 1) at line r is ∙ ap (λ e. then_rest e (λ next. scanned rule (count + 1 + 1) next [] r)) responds,
      (refl, ap (λ (w : List ℕ). out ++ w) same ∙ sym (append-nil (out ++ waits))),
    )

    -- the input ends
    all_due : (held' : List ℕ) → held' ≡ [] → IsAtEnd left' → BehindLines count at held' (ends_with (rule.end_text at))
        × IsAtEnd left' × IsWhole (with_front (out ++ waits) (ends_with (rule.end_text at))) (out ++ (waits ++ rule.end_text at))
    all_due held' none ended = (
      ap (scanned rule (count + 1) at []) none ∙ demand_part rule (count + 1) at [] tt,
      ended,
      (refl, sym (append_assoc out waits (rule.end_text at)) ∙ ap (λ (w : List ℕ). w ++ rule.end_text at) (sym (append-nil (out ++ waits)))),
    )

    -- a read failed: all that is due whatever follows was written
    body_due : (held' : List ℕ) → waits ≡ [] → IsBody (with_front (out ++ waits) (at_end rule (count + 1) at held')) out
    body_due held' none = (
      sym (ap (λ (l : List ℕ). (out ++ waits) ++ l) (no_body held') ∙ append-nil (out ++ waits)
          ∙ ap (λ (w : List ℕ). out ++ w) none ∙ append-nil out),
      unshown held',
    )
      where
        unshown : (l : List ℕ) → IsUnbroken (at_end rule (count + 1) at l).verdict
        unshown [] = tt
        unshown (b ∷ bs) = tt

        no_body : (l : List ℕ) → (at_end rule (count + 1) at l).body ≡ []
        no_body [] = refl
        no_body (b ∷ bs) = refl

    -- the octets held show a fault, or the input ends within the line
    fault_due : (held' : List ℕ) (fault : LineFault) → ShowsFault (count + 1) fault held'
        ⊎ (IsAtEnd left' × AreClean (count + 1) 1 held' × (0 < length held') × (fault ≡ NoLineEnd (count + 1) (length held' + 1)))
        → (d : Demand) × BehindLines count at held' d × IsFaulty (IsAtEnd left') (with_front (out ++ waits) d) (out ++ (waits ++ rule.fault_text fault))
    fault_due held' fault (inl shows) = (
      faulty_with (rule.fault_text fault),
      ap (scanned rule (count + 1) at []) (sym (append-nil held')) ∙ demand_broken rule (count + 1) at fault held' shows [],
      inl (refl, sym (append_assoc out waits (rule.fault_text fault))),
    )
    fault_due held' fault (inr ended) = (
      cut_short_with (rule.fault_text fault),
      demand_part rule (count + 1) at held' ended.1 ∙ no_line_end held' ended.2 ended.3,
      inr (refl, ended.0, sym (append_assoc out waits (rule.fault_text fault)) ∙ ap (λ (w : List ℕ). w ++ rule.fault_text fault) (sym (append-nil (out ++ waits)))),
    )
      where
        no_line_end : (l : List ℕ) → 0 < length l → fault ≡ NoLineEnd (count + 1) (length l + 1) → at_end rule (count + 1) at l ≡ cut_short_with (rule.fault_text fault)
        no_line_end [] some is = absurd (omega arith)
        no_line_end (b ∷ bs) some is = ap (λ (f : LineFault). cut_short_with (rule.fault_text f)) (sym is)

  -- ---- the call for the next line

  module _ {A : Type 0} (left_of : A → Option (List ℕ)) (faults_of : A → ℕ) (source source' : A)
      (state : S) (first old new : Option (List ℕ)) (reads writes : ℕ) (lines lines' : Lines) (waits : List ℕ) (at : S)
      (t : Turn (by_lines rule state) first (left_of source) old new (octets_ahead lines) waits (BehindLines (lines_so_far lines) at) (IsReady lines))
      (unbroken : fault_of_lines lines ≡ None) (calm : faults_of source ≡ reads) where
    abbrev left : Option (List ℕ)
    left = left_of source

    abbrev left' : Option (List ℕ)
    left' = left_of source'

    abbrev Behind : List ℕ → Demand → Type 0
    Behind = BehindLines (lines_so_far lines) at

    abbrev now : Pending (by_lines rule state) first left old new (octets_ahead lines)
    now = t.reached.pending

    abbrev Moved : Result (Option (ℕ × List ℕ)) LineFault → Type 0
    Moved result = HasMoved left_of faults_of source source' lines lines' result

    -- no line waits for its reply, or nothing is read for the next one
    turn : (result : Result (Option (ℕ × List ℕ)) LineFault) → Moved result → (now.since ≡ []) ⊎ (left' ≡ left)
    turn result moved = ⊎_elim (λ none. inl none.0) (λ ready. inr (ap left_of (moved.ready ready).0)) t.turn

    -- a whole line, with its end
    module _ (number : ℕ) (octets : List ℕ) (moved : Moved (Ok (Some (number, octets)))) (waits' : List ℕ) where
      abbrev next : IsNext left left' lines lines' (Ok (Some (number, octets)))
      next = moved.next unbroken

      abbrev one : List ℕ
      one = octets ++ 10 ∷ []

      is_line : IsLine (lines_so_far lines + 1) octets
      is_line = next.answer.1

      abbrev turned_so : (now.since ≡ []) ⊎ (left' ≡ left)
      turned_so = turn (Ok (Some (number, octets))) moved

      abbrev taken : Pending (by_lines rule state) first left' old new (octets_ahead lines')
      taken = one_taken (by_lines rule state) first left old new (octets_ahead lines) waits Behind t.reached left' (octets_ahead lines') one
          (lines_so_far lines + 1, octets, is_line, refl) next.answer.2 moved.few turned_so

      responds : (r : ResponseOf S) → rule.response number at octets ≡ r → rule.response (lines_so_far lines + 1) at octets ≡ r
      responds r is = subst (λ (n : ℕ). rule.response n at octets ≡ r) next.answer.0 is

      demands : (d : Demand) → Behind (one ++ octets_ahead lines') d → (by_lines rule state).demands ((taken.front ++ taken.since) ++ octets_ahead lines')
          (with_front (now.out ++ waits) d)
      demands d behind = demands_with (by_lines rule state) first left old new (octets_ahead lines) waits Behind t.reached left' (octets_ahead lines') one
          (lines_so_far lines + 1, octets, is_line, refl) next.answer.2 moved.few turned_so (octets_ahead lines') d behind

      -- the form goes on
      pub line_goes_on : (At' : S → Type 0) (writes' : ℕ) → Ends line.GoesOn (rule.response number at octets) waits waits' At' → writes' ≡ writes
          → IsBetween state first left' old new reads (faults_of source') writes writes' lines' At' waits'
      line_goes_on At' writes' ends quiet = by_response (rule.response number at octets) refl ends
        where
          by_response : (r : ResponseOf S) → rule.response number at octets ≡ r → Ends line.GoesOn r waits waits' At'
              → IsBetween state first left' old new reads (faults_of source') writes writes' lines' At' waits'
          by_response (GoesOn text then) is ends = record {
            at = then;
            stands = ends.1;
            reached = goes_on (by_lines rule state) first left old new (octets_ahead lines) waits Behind t.reached left' (octets_ahead lines') one
                (lines_so_far lines + 1, octets, is_line, refl) next.answer.2 moved.few turned_so text waits' (BehindLines (lines_so_far lines') then)
                (λ r d behind.
                demand_line rule (lines_so_far lines + 1) at octets r is_line
                ∙ ap (λ e. then_rest e (λ next. scanned rule (lines_so_far lines + 1 + 1) next [] r)) (responds (GoesOn text then) is)
                ∙ ap (λ (n : ℕ). with_front text (scanned rule (n + 1) then [] r)) (sym next.number)
                ∙ ap (with_front text) behind)
                ends.0;
            unbroken = next.fault;
            calm = moved.cause unbroken ∙ calm;
            quiet = quiet;
          }
          by_response (Stops text) is ends = absurd ends
          by_response Fills is ends = absurd ends

      module _ (new' : Option (List ℕ)) (mid writes' : ℕ) (result : Status) (quiet : mid ≡ writes) where
        -- the form stops at the line
        pub line_stops : (At' : S → Type 0) → Ends line.Stops (rule.response number at octets) waits waits' At'
            → Finishes (side new mid) (side new' writes') waits' BadInput result
            → EndsBetween (by_lines rule state) (side first reads) (side left' (faults_of source')) (side old writes) (side new' writes') result
        line_stops At' ends finished = by_response (rule.response number at octets) refl ends
          where
            by_response : (r : ResponseOf S) → rule.response number at octets ≡ r → Ends line.Stops r waits waits' At'
                → EndsBetween (by_lines rule state) (side first reads) (side left' (faults_of source')) (side old writes) (side new' writes') result
            by_response (GoesOn text then) is ends = absurd ends
            by_response (Stops text) is ends =
                let due = line_due left' now.out waits (lines_so_far lines) at octets (octets_ahead lines') text waits' is_line (responds (Stops text) is) ends in
                finishes (by_lines rule state) first left' old new (octets_ahead lines') taken (with_front (now.out ++ waits) (faulty_with text))
                (demands (faulty_with text) due.0)
                new' waits' BadInput result reads (faults_of source') writes mid writes' due.1 finished (moved.cause unbroken ∙ calm) quiet
            by_response Fills is ends = absurd ends

        -- a journal has no room for what the line puts
        pub line_fills : (At' : S → Type 0) → Ends line.Full (rule.response number at octets) waits waits' At'
            → Finishes (side new mid) (side new' writes') waits' JournalFull result
            → EndsBetween (by_lines rule state) (side first reads) (side left' (faults_of source')) (side old writes) (side new' writes') result
        line_fills At' ends finished = by_response (rule.response number at octets) refl ends
          where
            by_response : (r : ResponseOf S) → rule.response number at octets ≡ r → Ends line.Full r waits waits' At'
                → EndsBetween (by_lines rule state) (side first reads) (side left' (faults_of source')) (side old writes) (side new' writes') result
            by_response (GoesOn text then) is ends = absurd ends
            by_response (Stops text) is ends = absurd ends
            by_response Fills is ends =
                let due = fill_due left' now.out waits (lines_so_far lines) at octets (octets_ahead lines') waits' is_line (responds Fills is) ends in
                finishes (by_lines rule state) first left' old new (octets_ahead lines') taken (with_front (now.out ++ waits) full_journal_demand)
                (demands full_journal_demand due.0)
                new' waits' JournalFull result reads (faults_of source') writes mid writes' due.1 finished (moved.cause unbroken ∙ calm) quiet

        -- there was no memory for the reply
        pub line_without_memory : waits' ≡ waits → Finishes (side new mid) (side new' writes') waits' OutOfMemory result
            → EndsBetween (by_lines rule state) (side first reads) (side left' (faults_of source')) (side old writes) (side new' writes') result
        line_without_memory same finished =
            let rest : Demand = scanned rule (lines_so_far lines + 1) at [] (one ++ octets_ahead lines') in
            let answered : AnswersFront (by_lines rule state) first left' (now.out ++ waits) =
            answers_taken (by_lines rule state) first left old new (octets_ahead lines) waits Behind t.reached left' one (octets_ahead lines') (lines_stop (lines_so_far lines) at)
            (reads_on first left left' (now.front ++ now.since) (octets_ahead lines) (one ++ octets_ahead lines') now.taken next.answer.2)
            (inr (lines_so_far lines + 1, octets, is_line, refl)) moved.few in
            finishes (by_lines rule state) first left' old new (octets_ahead lines') taken (with_front (now.out ++ waits) rest) (demands rest refl)
            new' waits' OutOfMemory result reads (faults_of source') writes mid writes'
            (subst (λ (w : List ℕ). IsPart (IsAtEnd left') (with_front (now.out ++ waits) rest) (now.out ++ w) × AnswersFront (by_lines rule state) first left' (now.out ++ w))
            (sym same) (inl (rest.body, refl), answered))
            finished (moved.cause unbroken ∙ calm) quiet

    -- nothing more is taken
    module _ (grows : GrowsByReading left left' (octets_ahead lines) (octets_ahead lines')) (few : length (octets_ahead lines') ≤ 8192) (turns : (now.since ≡ []) ⊎ (left' ≡ left)) where
      abbrev read_so : Pending (by_lines rule state) first left' old new (octets_ahead lines')
      read_so = more_read (by_lines rule state) first left old new (octets_ahead lines) waits Behind t.reached left' (octets_ahead lines') grows few turns

      -- what is due goes out with a last text
      ends_so : (d : Demand) → Behind (octets_ahead lines') d → (text : List ℕ) (status : Status)
          → IsDue (AnswersFront (by_lines rule state) first left') (IsAtEnd left') status (with_front (now.out ++ waits) d) (now.out ++ (waits ++ text))
          → (new' : Option (List ℕ)) (mid writes' : ℕ) (result : Status) → StopsWith (side new mid) (side new' writes') status text waits result
          → faults_of source' ≡ reads → mid ≡ writes → EndsBetween (by_lines rule state) (side first reads) (side left' (faults_of source')) (side old writes)
          (side new' writes') result
      ends_so d behind text status due new' mid writes' result stops calm quiet =
          stops_with (by_lines rule state) first left' old new (octets_ahead lines') read_so (with_front (now.out ++ waits) d) (t.reached.so_far (octets_ahead lines') d behind)
          new' text waits status result reads (faults_of source') writes mid writes' due
          (answers_taken (by_lines rule state) first left old new (octets_ahead lines) waits Behind t.reached left' [] (octets_ahead lines') (lines_stop (lines_so_far lines) at)
          (reads_on first left left' (now.front ++ now.since) (octets_ahead lines) (octets_ahead lines') now.taken grows) (inl refl) few)
          stops calm quiet

      -- a read failed, where nothing waited
      fails_so : AreClean (lines_so_far lines + 1) 1 (octets_ahead lines') → waits ≡ [] → (writes' : ℕ) → Rose reads (faults_of source') → writes' ≡ writes
          → EndsBetween (by_lines rule state) (side first reads) (side left' (faults_of source')) (side old writes) (side new writes') ReadFault
      fails_so clean none writes' rose quiet =
          read_failed (by_lines rule state) first left' old new (octets_ahead lines') read_so reads (faults_of source') writes writes'
          (wrote_all (by_lines rule state) first left' old new (octets_ahead lines') read_so (with_front (now.out ++ waits) (at_end rule (lines_so_far lines + 1) at (octets_ahead lines')))
          (t.reached.so_far (octets_ahead lines') (at_end rule (lines_so_far lines + 1) at (octets_ahead lines')) (demand_part rule (lines_so_far lines + 1) at (octets_ahead lines') clean))
          refl (body_due left' now.out waits (lines_so_far lines) at (octets_ahead lines') none) reads (faults_of source') writes writes')
          rose quiet

    module _ (new' : Option (List ℕ)) (mid writes' : ℕ) (result : Status) (quiet : mid ≡ writes) where
      -- the input ends
      pub input_ends : Moved (Ok None) → StopsWith (side new mid) (side new' writes') AllRead (rule.end_text at) waits result
          → EndsBetween (by_lines rule state) (side first reads) (side left' (faults_of source')) (side old writes) (side new' writes') result
      input_ends moved stops =
          let next = moved.next unbroken in
          let due = all_due left' now.out waits (lines_so_far lines) at (octets_ahead lines') next.answer.1 next.answer.2 in
          ends_so next.answer.0 moved.few (turn (Ok None) moved) (ends_with (rule.end_text at)) due.0
          (rule.end_text at) AllRead (due.1, due.2) new' mid writes' result stops (moved.cause unbroken ∙ calm) quiet

      -- the octets show a fault, or the input ends within a line
      pub line_breaks : (fault : LineFault) → Moved (Err fault) → fault ≢ NotRead
          → StopsWith (side new mid) (side new' writes') BadInput (rule.fault_text fault) waits result
          → EndsBetween (by_lines rule state) (side first reads) (side left' (faults_of source')) (side old writes) (side new' writes') result
      line_breaks fault moved other stops =
          let next = moved.next unbroken in
          let due = fault_due left' now.out waits (lines_so_far lines) at (octets_ahead lines') fault
          (fault_shown (lines_so_far lines + 1) (octets_ahead lines') left' fault next.answer.1 other) in
          ends_so next.answer.0 moved.few (turn (Err fault) moved) due.0 due.1 (rule.fault_text fault) BadInput due.2 new' mid writes' result stops
          (no_rise (Option (ℕ × List ℕ)) (faults_of source) (faults_of source') fault other (moved.cause unbroken) ∙ calm) quiet

    -- a read failed
    pub read_fails : (writes' : ℕ) → writes' ≡ writes → Moved (Err NotRead)
        → EndsBetween (by_lines rule state) (side first reads) (side left' (faults_of source')) (side old writes) (side new writes') ReadFault
    read_fails writes' quiet moved = by_turn t.turn
      where
        by_turn : ((now.since ≡ []) × (waits ≡ [])) ⊎ IsReady lines → EndsBetween (by_lines rule state) (side first reads) (side left' (faults_of source'))
            (side old writes) (side new writes') ReadFault
        by_turn (inr ready) = absurd ((moved.ready ready).1 unbroken refl)
        by_turn (inl none) =
            let next = moved.next unbroken in
            fails_so next.answer.0 moved.few (turn (Err NotRead) moved) next.answer.1 none.1 writes'
            (subst (λ (n : ℕ). Rose n (faults_of source')) calm (moved.cause unbroken).1) quiet

    -- either way
    pub ends_at_fault : {K : Type 0} (written_of : K → Option (List ℕ)) (failed_of : K → ℕ) (sink sink' : K) (result : Status) (fault : LineFault)
        → written_of sink ≡ new → failed_of sink ≡ writes → Moved (Err fault)
        → (fault ≡ NotRead → (result ≡ ReadFault) × (sink' ≡ sink)) → (fault ≢ NotRead
        → StopsWith (side (written_of sink) (failed_of sink)) (side (written_of sink') (failed_of sink')) BadInput (rule.fault_text fault) waits result)
        → EndsBetween (by_lines rule state) (side first reads) (side left' (faults_of source')) (side old writes) (side (written_of sink') (failed_of sink')) result
    ends_at_fault written_of failed_of sink sink' result fault at_sink quiet moved read other = by_fault (is_read fault)
      where
        by_fault : (fault ≡ NotRead) ⊎ (fault ≢ NotRead) → EndsBetween (by_lines rule state) (side first reads) (side left' (faults_of source')) (side old writes)
            (side (written_of sink') (failed_of sink')) result
        by_fault (inl is) =
            subst (λ (s : Status). EndsBetween (by_lines rule state) (side first reads) (side left' (faults_of source')) (side old writes)
            (side (written_of sink') (failed_of sink')) s) (sym (read is).0)
            (subst (λ (w : Option (List ℕ)). EndsBetween (by_lines rule state) (side first reads) (side left' (faults_of source')) (side old writes)
            (side w (failed_of sink')) ReadFault) (sym (ap written_of (read is).1 ∙ at_sink))
            (read_fails (failed_of sink') (ap failed_of (read is).1 ∙ quiet) (subst (λ (f : LineFault). Moved (Err f)) is moved)))
        by_fault (inr is) =
            line_breaks (written_of sink') (failed_of sink) (failed_of sink') result quiet fault moved is
            (subst (λ (w : Option (List ℕ)). StopsWith (side w (failed_of sink)) (side (written_of sink') (failed_of sink')) BadInput
            (rule.fault_text fault) waits result) at_sink (other is))

  -- nothing is read and nothing written
  pub unread_lines : (state : S) (left old : Option (List ℕ)) (reads writes : ℕ)
      → EndsBetween (by_lines rule state) (side left reads) (side left reads) (side old writes) (side old writes) OutOfMemory
  unread_lines state left old reads writes = (
    record {
      read = [];
      text = [];
      demand = line_demand rule state [];
      taken = consumes_self left;
      written = appends_none old;
      demands = refl;
      due = inl ((line_demand rule state []).body, refl);
    },
    (
      [],
      appends_none old,
      record {
        front = [];
        one = [];
        behind = [];
        demand = at_end rule 1 state [];
        taken = consumes_self left;
        demands = demanded_scanned rule state [] ∙ demand_part rule 1 state [] tt;
        due = (refl, tt);
        at_once = inl refl;
        soon = omega arith;
      },
    ),
    (refl, refl),
  )
