-- Between two towers of a run, and how it ends.
use Rattle.std.proofs.Common.{◌≡◌, ◌↔◌, ◌⊎◌, inl, inr, ℕ, ◌+◌, ◌≤◌, ◌<◌, Bool, true, false, List, [], ◌∷◌, ◌++◌, length, take, drop, refl}
use Rattle.std.proofs.Common.{sym, ◌∙◌, ap, subst, arith, append_assoc, append-nil, length-drop, take-append-drop}
use Rattle.std.specs.Prelude.{Option, IsTrue, nat_lt, if◌then◌else◌}
use Rattle.std.specs.Io.KnownBytes.{Appends, IsAtEnd}
use Rattle.std.proofs.lemmas.Bool.Decides.{nat_tests}
use Rattle.hex.specs.Hex.{IsBytes}
use Rattle.cds_base.specs.Counts.{Rose}
use Rattle.cds_base.specs.SourceReading.{GrowsByReading}
use Rattle.cds_base.specs.Windows.{WindowOctets}
use Rattle.cds_base.proofs.KnownOctets.{consumes_self, consumes_more, appends_none}
use Rattle.tower_codec.specs.Tower.{Floor}
use Rattle.tower_codec.specs.Spelling.{tower_octets}
use Rattle.tower_codec.proofs.SpellingLaws.{tower_spelled}
use Rattle.cell_replay.specs.declared.towers.StreamFault.{StreamFault}
use Rattle.cell_replay.specs.declared.towers.StreamFault.TheVariants as stream
use Rattle.line_forms.specs.declared.endings.Status.{Status}
use Rattle.line_forms.specs.declared.endings.Status.TheVariants.{Ok as AllRead, BadInput, ReadFault, WriteFault, OutOfMemory}
use Rattle.reply_buffer.specs.TowerTexts.{tower_text}
use Rattle.cell_replay.specs.StreamTexts.{stream_fault_text}
use Rattle.cell_replay.specs.TowerDemand.{IsTaken, Nothing, AtFault, PartOf, TowersDemand}
use Rattle.line_forms.specs.Demand.{Demand, IsUnbroken, whole, with_front, faulty_with, ends_with, cut_short_with}
use Rattle.cell_replay.specs.FormReadings.{by_towers}
use Rattle.cell_replay.specs.PrivateSights.{TellsFault, IsUnended}
use Rattle.cell_replay.specs.Fillings.{LeavesPart, BeginsFilling, AtFirst, Behind}
use Rattle.line_forms.specs.Runs.{AnswersFront}
use Rattle.line_forms.specs.Endings.{IsDue, Finishes, StopsWith, side, EndsBetween}
use Rattle.cell_replay.proofs.Streams.{total, le_or_lt}
use Rattle.line_forms.proofs.Progress.{Pending, Reached, StopsHere, Turn, moved, started, all_out, goes_on, reached_more, more_read, write_failed}
use Rattle.line_forms.proofs.Progress.{finishes, stops_with, read_failed, answers_taken}

-- what the octets after the towers so far demand
abbrev pub BehindTowers : ℕ → List ℕ → Demand → Type 0
BehindTowers number r d = TowersDemand number r d

pub towers_stop : (number : ℕ) → StopsHere (BehindTowers number)
towers_stop number = record { demand = ends_with []; behind = ([], Nothing, refl, refl); none = refl; unbroken = tt }

-- the towers so far were answered; nothing follows what is held where the input has ended; and no
-- call failed
pub record IsAmong (first left old new : Option (List ℕ)) (reads reads' writes writes' : ℕ) (window : WindowOctets) (number : ℕ) (ended : Bool)
    (waits : List ℕ) : Type 0 where
  pub reached : Reached by_towers first left old new window.octets waits (BehindTowers number)
  pub filled : ended ≡ false → BeginsFilling ((reached.pending.front ++ reached.pending.since) ++ window.octets)
  pub stopped : ended ≡ true → IsAtEnd left
  pub room : window.room ≡ 1025
  pub counted : number ≤ 16777217
  pub calm : reads' ≡ reads
  pub quiet : writes' ≡ writes

-- before the first tower
pub first_tower : (first old : Option (List ℕ)) (reads writes : ℕ) (window : WindowOctets) (waits : List ℕ) → window.octets ≡ [] → window.room ≡ 1025
    → waits ≡ []
    → IsAmong first first old old reads reads writes writes window 1 false waits
first_tower first old reads writes window waits none room nothing = record {
  reached = started by_towers first old window.octets waits (BehindTowers 1) none nothing (λ r d behind. behind) (towers_stop 1);
  filled = λ goes. subst BeginsFilling (sym none) AtFirst;
  stopped = λ is. cc (is);
  room = room;
  counted = omega arith;
  calm = refl;
  quiet = refl;
}

-- a part of a tower demands no text, and shows no fault
pub part_demand : (number : ℕ) (octets : List ℕ) → IsUnended number octets → (d : Demand) × TowersDemand number octets d × (d.body ≡ []) × IsUnbroken d.verdict
part_demand number octets (inl none) = (ends_with [], ([], Nothing, none, refl), refl, tt)
part_demand number octets (inr part) = (cut_short_with (stream_fault_text number (stream.Tower part.0)), ([], PartOf part.0, part.1, refl), refl, tt)

-- how many reads may come before the next tower is told or at fault
abbrev pub reads_left : Bool → ℕ → ℕ
reads_left true held = 0
reads_left false held = if nat_lt held 1025 then 1 else 0

pub few_reads : (ended : Bool) (held : ℕ) → reads_left ended held ≤ 1
few_reads true held = omega arith
few_reads false held = by_test (nat_lt held 1025)
  where
    by_test : (b : Bool) → (if b then 1 else 0) ≤ 1
    by_test true = omega arith
    by_test false = omega arith

pub one_read : (held : ℕ) → held < 1025 → reads_left false held ≡ 1
one_read held few = let it_is : nat_lt held 1025 ≡ true = grind (arith, nat_tests) in rw it_is refl

pub no_read : (ended : Bool) (held : ℕ) → (IsTrue ended ↔ (held < 1025)) → reads_left ended held ≡ 0
no_read true held means = refl
no_read false held means = by_test (nat_lt held 1025) refl
  where
    contrary : IsTrue false → ⊥
    contrary is = cc (is)

    by_test : (b : Bool) → nat_lt held 1025 ≡ b → ◌≡◌ {A = ℕ} (if b then 1 else 0) 0
    by_test true is = let few : held < 1025 = grind (arith, nat_tests) in absurd (contrary (means.1 few))
    by_test false is = refl

-- a window that is not short is full
pub full_window : (ended : Bool) (held room : ℕ) → (IsTrue ended ↔ (held < room)) → room ≡ 1025 → held ≤ 1025 → ended ≡ false → held ≡ 1025
full_window true held room means is within goes = cc (goes)
full_window false held room means is within goes = by_size (le_or_lt 1025 held)
  where
    contrary : IsTrue false → ⊥
    contrary is = cc (is)

    by_size : (1025 ≤ held) ⊎ (held < 1025) → held ≡ 1025
    by_size (inl le) = omega (arith, le, within)
    by_size (inr lt) = absurd (contrary (means.1 (omega (arith, is, lt))))

-- a tower that is taken is spelled in few octets
pub taken_short : (number : ℕ) (floors : List Floor) (octets : List ℕ) → IsTaken number floors octets → length (tower_octets floors) ≤ 1024
taken_short number floors octets taken =
    let same = ap length (tower_spelled floors octets taken.2).1 in
    let few = taken.1 in
    omega (arith, same, few)

module _ (first left old new : Option (List ℕ)) (reads reads' writes writes' : ℕ) (window : WindowOctets) (number : ℕ) (ended : Bool) (waits : List ℕ)
    (b : IsAmong first left old new reads reads' writes writes' window number ended waits) where
  abbrev held : List ℕ
  held = window.octets

  abbrev now : Pending by_towers first left old new held
  now = b.reached.pending

  -- with what waits, the towers so far are answered
  answered : AnswersFront by_towers first left (now.out ++ waits)
  answered =
      answers_taken by_towers first left old new held waits (BehindTowers number) b.reached left [] held (towers_stop number) now.taken (inl refl) now.few

  -- a tower is told, and taken off
  pub tower_told : (floors : List Floor) (n : ℕ) (window' : WindowOctets) (waits' : List ℕ) → n ≤ length held → IsTaken number floors (take n held)
      → window' ≡ record { octets = drop n held; room = window.room } → waits' ≡ waits ++ tower_text floors
      → IsAmong first left old new reads reads' writes writes' window' (number + 1) ended waits'
  tower_told floors n window' waits' within taken off told =
      let octets : window'.octets ≡ drop n held = ap (λ (w : WindowOctets). w.octets) off in
      let whole_held : take n held ++ window'.octets ≡ held = ap (λ (l : List ℕ). take n held ++ l) octets ∙ take-append-drop n held in
      let split : take n held ++ window'.octets ≡ held ++ [] = whole_held ∙ sym (append-nil held) in
      let same : (now.front ++ now.since) ++ held ≡ (now.front ++ (now.since ++ take n held)) ++ window'.octets =
      ap (λ (l : List ℕ). (now.front ++ now.since) ++ l) (sym whole_held) ∙ sym (append_assoc (now.front ++ now.since) (take n held) window'.octets)
      ∙ ap (λ (c : List ℕ). c ++ window'.octets) (append_assoc now.front now.since (take n held)) in
      record {
        reached = goes_on by_towers first left old new held waits (BehindTowers number) b.reached left window'.octets (take n held) (number, floors, taken)
            (record { read = []; taken = consumes_self left; grown = split })
            (subst (λ (l : List ℕ). length l ≤ 1025) (sym octets) (omega (arith, now.few, length-drop n held))) (inr refl)
            (tower_text floors) waits' (BehindTowers (number + 1))
            (λ r d behind. (floors ∷ behind.0, behind.1, (take n held, r, refl, taken, behind.2), ap (with_front (tower_text floors)) behind.3))
            told;
        filled = λ goes. subst BeginsFilling same (b.filled goes);
        stopped = b.stopped;
        room = ap (λ (w : WindowOctets). w.room) off ∙ b.room;
        counted = let few = taken.0 in omega (arith, few);
        calm = b.calm;
        quiet = b.quiet;
      }

  -- what is due goes out, where this is demanded of what is held
  module _ (d : Demand) (behind : BehindTowers number held d) where
    -- what is due goes out with a last text
    pub tells : (new' : Option (List ℕ)) (mid writes'' : ℕ) (text : List ℕ) (status result : Status)
        → IsDue (AnswersFront by_towers first left) (IsAtEnd left) status (with_front (now.out ++ waits) d) (now.out ++ (waits ++ text))
        → StopsWith (side new writes') (side new' writes'') status text waits result
        → EndsBetween by_towers (side first reads) (side left reads') (side old writes) (side new' writes'') result
    tells new' mid writes'' text status result due stops =
        stops_with by_towers first left old new held now (with_front (now.out ++ waits) d) (b.reached.so_far held d behind) new' text waits status
        result reads reads' writes writes' writes'' due answered stops b.calm b.quiet

    -- what is due goes out
    pub stops : (new' : Option (List ℕ)) (writes'' : ℕ) (status result : Status)
        → IsDue (AnswersFront by_towers first left) (IsAtEnd left) status (with_front (now.out ++ waits) d) (now.out ++ waits)
        → Finishes (side new writes') (side new' writes'') waits status result
        → EndsBetween by_towers (side first reads) (side left reads') (side old writes) (side new' writes'') result
    stops new' writes'' status result due finished =
        finishes by_towers first left old new held now (with_front (now.out ++ waits) d) (b.reached.so_far held d behind) new' waits status result
        reads reads' writes writes' writes'' due finished b.calm b.quiet

  -- there was no memory for the text
  pub tower_without_memory : IsBytes held → (new' : Option (List ℕ)) (writes'' : ℕ) (waits' : List ℕ) (result : Status) → waits' ≡ waits
      → Finishes (side new writes') (side new' writes'') waits' OutOfMemory result
      → EndsBetween by_towers (side first reads) (side left reads') (side old writes) (side new' writes'') result
  tower_without_memory bytes new' writes'' waits' result same finished =
      let d = total number held bytes in
      stops d.0 d.1 new' writes'' OutOfMemory result (inl (d.0.body, refl), answered)
      (subst (λ (w : List ℕ). Finishes (side new writes') (side new' writes'') w OutOfMemory result) same finished)

  -- the input ends after the last tower
  pub towers_end : ended ≡ true → held ≡ [] → (new' : Option (List ℕ)) (writes'' : ℕ) (result : Status)
      → Finishes (side new writes') (side new' writes'') waits AllRead result
      → EndsBetween by_towers (side first reads) (side left reads') (side old writes) (side new' writes'') result
  towers_end end none new' writes'' result finished =
      stops (ends_with []) ([], Nothing, none, refl) new' writes'' AllRead result
      (b.stopped end, (refl, sym (append-nil ((now.out ++ waits) ++ []) ∙ append-nil (now.out ++ waits)))) finished

  -- the next tower is at fault
  pub tower_at_fault : (fault : StreamFault) → TellsFault number held ended fault → (new' : Option (List ℕ)) (writes'' : ℕ) (result : Status)
      → StopsWith (side new writes') (side new' writes'') BadInput (stream_fault_text number fault) waits result
      → EndsBetween by_towers (side first reads) (side left reads') (side old writes) (side new' writes'') result
  tower_at_fault fault (inl shows) new' writes'' result stops =
      tells (faulty_with (stream_fault_text number fault)) ([], AtFault fault, shows, refl) new' writes' writes''
      (stream_fault_text number fault) BadInput result
      (inl (refl, sym (append_assoc now.out waits (stream_fault_text number fault)))) stops
  tower_at_fault (stream.Tower fault) (inr part) new' writes'' result stops =
      tells (cut_short_with (stream_fault_text number (stream.Tower fault))) ([], PartOf fault, part.1, refl) new' writes' writes''
      (stream_fault_text number (stream.Tower fault)) BadInput result
      (inr (
        refl,
        b.stopped part.0,
        sym (append_assoc now.out waits (stream_fault_text number (stream.Tower fault)))
            ∙ ap (λ (w : List ℕ). w ++ stream_fault_text number (stream.Tower fault)) (sym (append-nil (now.out ++ waits))),
      )) stops
  tower_at_fault stream.TooLong (inr part) new' writes'' result stops = absurd part.1
  tower_at_fault stream.TooManyTowers (inr part) new' writes'' result stops = absurd part.1

  -- a write failed
  pub text_unwritten : IsBytes held → (new' : Option (List ℕ)) (k writes'' : ℕ) → (k < length waits) × Appends new new' (take k waits)
      → Rose writes' writes'' → EndsBetween by_towers (side first reads) (side left reads') (side old writes) (side new' writes'') WriteFault
  text_unwritten bytes new' k writes'' went rose =
      let d = total number held bytes in
      write_failed by_towers first left old new held now (with_front (now.out ++ waits) d.0)
      (b.reached.so_far held d.0 d.1) new' waits k writes writes'' reads reads' went
      (inl (d.0.body, refl)) (subst (λ n. Rose n writes'') b.quiet rose) b.calm

  -- all texts went out, and the window is filled
  module _ (new' left' : Option (List ℕ)) (window' : WindowOctets) (going : ended ≡ false) (unended : IsUnended number held)
      (went : Appends new new' waits) (grows : GrowsByReading left left' held window'.octets) (within : length window'.octets ≤ 1025) where
    abbrev way : Turn by_towers first left old new' held [] (BehindTowers number) ⊥
    way = all_out by_towers first left old new held waits (BehindTowers number) b.reached new' waits ⊥ went refl (towers_stop number)

    abbrev sent : Pending by_towers first left old new' held
    sent = way.reached.pending

    abbrev told : List ℕ
    told = sent.front ++ sent.since

    none_waits : way.reached.pending.since ≡ []
    none_waits = refl

    abbrev part : (d : Demand) × TowersDemand number held d × (d.body ≡ []) × IsUnbroken d.verdict
    part = part_demand number held unended

    abbrev demand : Demand
    demand = with_front (sent.out ++ []) part.0

    demands : TowersDemand 1 (told ++ held) demand
    demands = way.reached.so_far held part.0 part.1

    body : demand.body ≡ sent.out
    body = ap (λ (l : List ℕ). (sent.out ++ []) ++ l) part.2 ∙ append-nil (sent.out ++ []) ∙ append-nil sent.out

    -- what is held is after the towers that were told
    leaves : LeavesPart (told ++ held) held
    leaves = record {
      towers = told;
      text = sent.out;
      demand = demand;
      split = refl;
      told = moved by_towers (told ++ []) told (with_front (sent.out ++ []) (ends_with [])) (whole sent.out) (append-nil told)
          (ap whole (append-nil (sent.out ++ []) ∙ append-nil sent.out)) (way.reached.so_far [] (ends_with []) ([], Nothing, refl, refl));
      demands = demands;
      no_more = body;
      unbroken = part.3;
    }

    begins : BeginsFilling (told ++ held)
    begins = subst (λ (c : List ℕ). BeginsFilling (c ++ held)) (sym (append-nil (now.front ++ now.since))) (b.filled going)

    joined : (told ++ held) ++ grows.read ≡ told ++ window'.octets
    joined = append_assoc told held grows.read ∙ ap (λ (l : List ℕ). told ++ l) (sym grows.grown)

    -- the window was filled, or the input ended
    pub window_filled : (reads'' writes'' : ℕ) (waits' : List ℕ) (ended' : Bool) → waits' ≡ [] → window'.room ≡ window.room
        → (ended' ≡ true → IsAtEnd left') → (ended' ≡ false → length window'.octets ≡ 1025)
        → reads'' ≡ reads' → writes'' ≡ writes' → IsAmong first left' old new' reads reads'' writes writes'' window' number ended' waits'
    window_filled reads'' writes'' waits' ended' none room end full calm quiet =
        subst (λ (w : List ℕ). IsAmong first left' old new' reads reads'' writes writes'' window' number ended' w) (sym none) (record {
          reached = reached_more by_towers first left old new' held [] (BehindTowers number) way.reached left' window'.octets grows within (inl none_waits);
          filled = λ goes. subst BeginsFilling joined (Behind held grows.read begins leaves (ap length (sym grows.grown) ∙ full goes));
          stopped = end;
          room = room ∙ b.room;
          counted = b.counted;
          calm = calm ∙ b.calm;
          quiet = quiet ∙ b.quiet;
        })

    -- a read failed while the window was filled
    pub fill_fails : IsBytes window'.octets → length window'.octets < 1025 → (reads'' writes'' : ℕ) → Rose reads' reads'' → writes'' ≡ writes'
        → EndsBetween by_towers (side first reads) (side left' reads'') (side old writes) (side new' writes'') ReadFault
    fill_fails bytes few reads'' writes'' rose quiet =
        let d = total number window'.octets bytes in
        read_failed by_towers first left' old new' window'.octets
        (more_read by_towers first left old new' held [] (BehindTowers number) way.reached left' window'.octets grows within (inl none_waits))
        reads reads'' writes writes''
        (record {
          octets = told ++ held;
          came = grows.read;
          text = sent.out;
          demand = demand;
          with_came = with_front (sent.out ++ []) d.0;
          taken = consumes_more first left left' (told ++ held) grows.read sent.taken grows.taken;
          written = sent.written;
          demands = demands;
          due = (sym body, part.3);
          late = record {
            begins = begins;
            part = held;
            leaves = leaves;
            few = let size = ap length grows.grown in omega (arith, few, size);
          };
          later = subst (λ (l : List ℕ). TowersDemand 1 l (with_front (sent.out ++ []) d.0)) (sym joined) (way.reached.so_far window'.octets d.0 d.1);
          stays = (d.0.body, ap (λ (w : List ℕ). w ++ d.0.body) (append-nil sent.out));
        })
        (subst (λ n. Rose n reads'') b.calm rose) (quiet ∙ b.quiet)

-- nothing is read and nothing written
pub unread_towers : (left old : Option (List ℕ)) (reads writes : ℕ) → EndsBetween by_towers (side left reads) (side left reads) (side old writes)
    (side old writes) OutOfMemory
unread_towers left old reads writes = (
  record {
    read = [];
    text = [];
    demand = ends_with [];
    taken = consumes_self left;
    written = appends_none old;
    demands = ([], Nothing, refl, refl);
    due = inl ([], refl);
  },
  (
    [],
    appends_none old,
    record {
      front = [];
      one = [];
      behind = [];
      demand = ends_with [];
      taken = consumes_self left;
      demands = ([], Nothing, refl, refl);
      due = (refl, tt);
      at_once = inl refl;
      soon = omega arith;
    },
  ),
  (refl, refl),
)
