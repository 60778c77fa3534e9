-- What a process did, segment by segment.
use Rattle.std.proofs.Common.{◌≡◌, ◌≢◌, ◌⊎◌, inl, inr, ⊎_elim, ℕ, ◌+◌, ◌^◌, ◌<◌, List, [], ◌∷◌, ◌++◌, length, take, drop, refl, sym, ◌∙◌, ap, subst, append_assoc, append-nil, take-append-drop, arith}
use Rattle.std.specs.Prelude.{Option, Some, None, Result, Ok, Err, IsErrAnd}
use Rattle.std.specs.Io.KnownBytes.{Appends, IsAtEnd}
use Rattle.cds_base.specs.Lines.{fault_of_lines, lines_so_far, octets_ahead}
use Rattle.cds_base.specs.SourceReading.{GrowsByReading}
use Rattle.cds_base.specs.declared.lines.Lines.{Lines}
use Rattle.cds_base.proofs.KnownOctets.{appends_more, appends_none}
use Rattle.cds_stamps.specs.declared.alloc_or.AllocOr.{AllocOr}
use Rattle.cds_stamps.specs.declared.alloc_or.AllocOr.TheVariants as alloc
use Rattle.cds_stamps.specs.declared.alloc_or.AllocOr.TheVariants.{Fault}
use Rattle.house_journal.specs.declared.disk.Disk.{Ghosts}
use Rattle.house_journal.specs.declared.journal.JournalFault.{JournalFault}
use Rattle.house_journal.specs.declared.journal.JournalFault.TheVariants as journal
use Rattle.house_journal.specs.Journals.{LeavesOnly}
use Rattle.house_segments.specs.Segments.{HasBodies, IsAt, disk_of, size_with}
use Rattle.house_segments.specs.declared.segment.Segment.{Segment}
use Rattle.house_serving.specs.Faults.{fault_line_text, fault_of_house, too_long}
use Rattle.cds_base.specs.RunEnds.{Run}
use Rattle.house_serving.specs.Serving.{Course, EndsSo, HasAfter, HasFront, HasNoLine, IsOver, LacksRoom, LastLine, LinesDone, Records, Served, course, first_records, lines_done, moment, number_after}
use Rattle.house_serving.specs.Turns.{Dialogue, Turn, bodies_of, lines_text, texts_of}
use Rattle.house_serving.specs.declared.ending.Ending.{Ending}
use Rattle.house_serving.specs.declared.ending.Ending.TheVariants.{BadInput, DiskFault, Full, Grown, InputEnds, OutOfMemory, ReadFault, WriteFault}
use Rattle.house_serving.proofs.Fronts.{front_none, left_at, unmoved}
use Rattle.house_turns.specs.HouseReplies.{Responds}
use Rattle.house_turns.specs.declared.house.House.{House}
use Rattle.house_segments.specs.Chains.{last_digest}
use Rattle.house_program.specs.Beginnings.{first_bodies}
use Rattle.house_program.specs.Files.{Files, NumberedFile, WithFile}
use Rattle.house_program.specs.Lives.{IsFaultLine, IsFrontSaid}
use Rattle.house_program.specs.PrivateLives.{EndsDue, EndsWhole, IsPassed, IsUnmade, SegmentDone, Spoken, passage, remains}
use Rattle.house_program.specs.declared.segments.Left.{Left}
use Rattle.house_program.specs.declared.segments.Next.{Next}
use Rattle.house_program.specs.Statuses.{status_after, status_not_begun, status_of_folder}
use Rattle.house_program.specs.declared.folder.FolderFault.{FolderFault}
use Rattle.house_program.specs.declared.folder.FolderFault.TheVariants as folders
use Rattle.house_program.specs.declared.status.Status.{Status}
use Rattle.house_program.specs.declared.status.Status.TheVariants as statuses

-- ---- what is said first, and then lines

-- the line of a fault
fault_line : (number : ℕ) (one octets : List ℕ) (left : Option (List ℕ)) (last : List ℕ) → HasNoLine number one octets left last → IsFaultLine last
fault_line number one octets left last (inl is) = inr (fault_of_house is.0, is.3)
fault_line number one octets left last (inr is) = inr (too_long number, is.4)

maybe_fault : (number : ℕ) (one octets : List ℕ) (left : Option (List ℕ)) (last : List ℕ) → (last ≡ []) ⊎ HasNoLine number one octets left last → IsFaultLine last
maybe_fault number one octets left last (inl none) = inl none
maybe_fault number one octets left last (inr is) = fault_line number one octets left last is

-- the answers of lines, and what was written of them
record Words (turns : List Turn) (text : List ℕ) : Type 0 where
  last : List ℕ
  unsaid : List ℕ
  fault : IsFaultLine last
  front : texts_of turns ++ last ≡ text ++ unsaid

all_words : (turns : List Turn) (text last : List ℕ) → IsFaultLine last → text ≡ texts_of turns ++ last → Words turns text
all_words turns text last fault all = record { last = last; unsaid = []; fault = fault; front = sym all ∙ sym (append-nil text) }

exact_words : (turns : List Turn) (text : List ℕ) → text ≡ texts_of turns → Words turns text
exact_words turns text all = all_words turns text [] (inl refl) (all ∙ sym (append-nil (texts_of turns)))

module _ {D : Type 0} (g : Ghosts D) (first : Records) (way : Course House D) (done : LinesDone House) (last : LastLine) where
  words : (ending : Ending) → EndsSo g first way done last ending → Words done.turns done.text
  words InputEnds ends = all_words done.turns done.text last.said (inl ends.1) ends.0.all_written
  words BadInput ends = all_words done.turns done.text last.said
      (fault_line (number_after way done.turns) last.taken (octets_ahead way.to.lines) way.run.left' last.said ends.1) ends.0.all_written
  words ReadFault ends = all_words done.turns done.text last.said (inl ends.1) ends.0.all_written
  words WriteFault ends = record {
    last = last.said;
    unsaid = ends.0.0;
    fault = maybe_fault (number_after way done.turns) last.taken (octets_ahead way.to.lines) way.run.left' last.said ends.2;
    front = ends.0.1;
  }
  words OutOfMemory ends = exact_words done.turns done.text ends
  words Full ends = exact_words done.turns done.text ends.0
  words DiskFault ends = exact_words done.turns done.text ends
  words Grown ends = all_words done.turns done.text last.said (inl ends.1) ends.0.all_written

  -- what holds where all that is due was done
  record Due : Type 0 where
    here : done.at ≡ way.to.house
    none_over : done.over ≡ []
    synced : HasAfter g way.to.segment first (bodies_of done.turns)
    all : done.text ≡ texts_of done.turns
    no_one : last.taken ≡ []

  due_at : (ending : Ending) → EndsWhole ending → EndsSo g first way done last ending → Due
  due_at ending (inl is) ends =
      let so = subst (EndsSo g first way done last) is ends in
      record {
        here = so.0.here;
        none_over = so.0.none_over;
        synced = so.0.synced;
        all = so.0.all_written ∙ ap (λ (l : List ℕ). texts_of done.turns ++ l) so.1 ∙ append-nil (texts_of done.turns);
        no_one = so.2;
      }
  due_at ending (inr is) ends =
      let so = subst (EndsSo g first way done last) is ends in
      record {
        here = so.0.here;
        none_over = so.0.none_over;
        synced = so.0.synced;
        all = so.0.all_written ∙ ap (λ (l : List ℕ). texts_of done.turns ++ l) so.1 ∙ append-nil (texts_of done.turns);
        no_one = so.2;
      }

  unbroken_at : (ending : Ending) → ending ≡ Grown → EndsSo g first way done last ending → fault_of_lines way.to.lines ≡ None
  unbroken_at ending is ends = (subst (EndsSo g first way done last) is ends).3

  ended_at : (ending : Ending) → ending ≡ InputEnds → EndsSo g first way done last ending
      → (octets_ahead way.to.lines ≡ []) × IsAtEnd way.run.left'
  ended_at ending is ends =
      let so = subst (EndsSo g first way done last) is ends in (so.3, so.4)

module _ {D : Type 0} (g : Ghosts D) (before : List ℕ) (bodies : List (List ℕ)) (said : List ℕ) (house house' : House) (segment segment' : Segment D)
    (lines lines' : Lines) where
  -- it was said, and then lines were answered
  pub spoke : (run : Run) (written0 : Option (List ℕ)) (writes0 : ℕ) (ending : Ending) → Appends written0 run.written said
      → Served Responds g (first_records before bodies) (course (moment house segment lines) (moment house' segment' lines') run) ending
      → Spoken g (first_records before bodies) said (course (moment house segment lines) (moment house' segment' lines') (record run { written = written0; writes = writes0 })) ending
  spoke run written0 writes0 ending wrote s =
      let way : Course House D = (course (moment house segment lines) (moment house' segment' lines') run) in
      let w = words g (first_records before bodies) way s.done s.last ending s.ends in
      let same : lines_so_far lines + length s.done.turns + 1 ≡ lines_so_far lines + 1 + length s.done.turns = omega arith in
      record {
        done = lines_done s.done.turns s.done.over (said ++ s.done.text) s.done.at;
        talk = s.work.talk;
        over_one = subst (λ (n : ℕ). IsOver Responds n s.done.at s.done.over) same s.over_one;
        wrote = appends_more written0 run.written run.written' said s.done.text wrote s.work.wrote;
        crash = s.work.crash;
        acknowledged = s.work.acknowledged;
        says = record {
          last = w.last;
          unsaid = w.unsaid;
          fault = w.fault;
          front = ap (λ (l : List ℕ). said ++ l) w.front ∙ sym (append_assoc said s.done.text w.unsaid);
        };
        whole = λ is.
            let d = due_at g (first_records before bodies) way s.done s.last ending is s.ends in
            record {
              here = d.here;
              none_over = d.none_over;
              all = ap (λ (l : List ℕ). said ++ l) d.all;
              synced = d.synced;
              read =
                  subst (λ (l : List ℕ). GrowsByReading run.left run.left' (octets_ahead lines) (lines_text s.done.turns ++ (l ++ octets_ahead lines')))
                  d.no_one s.read;
            };
        due = record {
          counted = s.counted;
          stopped = λ is.
              let so = subst (EndsSo g (first_records before bodies) way s.done s.last) is s.ends in
              record {
                last = s.last.said;
                one = s.last.taken;
                all = ap (λ (l : List ℕ). said ++ l) so.0.all_written;
                read = s.read;
                faulty = subst (λ (n : ℕ). HasNoLine n s.last.taken (octets_ahead lines') run.left' s.last.said) same so.1;
              };
          crowded = λ is. record {
            one = s.last.taken;
            read = s.read;
            lacks = subst (λ (n : ℕ). LacksRoom Responds n s.done.at s.done.over s.last.taken (bodies ++ bodies_of s.done.turns)) same (s.room is);
          };
          unbroken = λ is.
              unbroken_at g (first_records before bodies) way s.done s.last ending is s.ends;
          input = λ is.
              ended_at g (first_records before bodies) way s.done s.last ending is s.ends;
        };
      }

-- not all was said
pub unspoken : {D : Type 0} (g : Ghosts D) (only : (d : D) (c : List ℕ) → g.left_since d (g.moment d) c → g.may_leave d c) (before : List ℕ)
    (bodies : List (List ℕ)) (said : List ℕ) (house : House) (segment : Segment D) (lines : Lines) (run : Run) (k : ℕ)
    → IsAt g segment before bodies → Appends run.written run.written' (take k said)
    → Spoken g (first_records before bodies) said (course (moment house segment lines) (moment house segment lines) run) WriteFault
unspoken g only before bodies said house segment lines run k at wrote = record {
  done = lines_done [] [] (take k said) house;
  talk = refl;
  over_one = inl refl;
  wrote = wrote;
  crash = unmoved g before bodies only [] segment at;
  acknowledged = λ c left. subst (λ (l : List (List ℕ)). HasFront before l [] c) (sym (append-nil bodies))
      (front_none before bodies [] c (left_at g before bodies segment at c left));
  says = record { last = []; unsaid = drop k said; fault = inl refl; front = append-nil said ∙ sym (take-append-drop k said) };
  whole = λ is. not_due is;
  due = record {
    unbroken = λ is. absurd (cc (is));
    counted = λ is. absurd (cc (is));
    input = λ is. absurd (cc (is));
    stopped = λ is. absurd (cc (is));
    crowded = λ is. absurd (cc (is));
  };
}
  where
    not_due : {P : Type 0} → EndsWhole WriteFault → P
    not_due (inl is) = absurd (cc (is))
    not_due (inr is) = absurd (cc (is))

-- octets are said alike
pub said_as : {D : Type 0} (g : Ghosts D) (before : List ℕ) (bodies : List (List ℕ)) (said other : List ℕ) (house house' : House)
    (segment segment' : Segment D) (lines lines' : Lines) (run : Run) (ending : Ending) → said ≡ other
    → Spoken g (first_records before bodies) said (course (moment house segment lines) (moment house' segment' lines') run) ending
    → Spoken g (first_records before bodies) other (course (moment house segment lines) (moment house' segment' lines') run) ending
said_as g before bodies said other house house' segment segment' lines lines' run ending same spoken =
    subst (λ (l : List ℕ). Spoken g (first_records before bodies) l (course (moment house segment lines) (moment house' segment' lines') run) ending) same spoken

-- ---- a segment that is made, named and closed

pub with_more : (kept kept1 : Files → Type 0) (number : ℕ) (L L1 : List ℕ → Type 0) (files : Files) → ((f : Files) → kept1 f → kept f)
    → ((c : List ℕ) → L1 c → L c) → WithFile kept1 number L1 files → WithFile kept number L files
with_more kept kept1 number L L1 files fewer weaker w = record {
  front = w.front;
  octets = w.octets;
  before = fewer w.front w.before;
  left = weaker w.octets w.left;
  split = w.split;
}

-- a segment that was begun, whether it got its number or not
pub unnamed : {D : Type 0} (g : Ghosts D) (segment : Segment D) (d : D) (next : Next) (base base1 kept kept1 X : Files → Type 0)
    → d ≡ disk_of segment → IsAt g segment next.before (first_bodies next) → ((f : Files) → base1 f → base f) → ((f : Files) → kept1 f → kept f)
    → ((f : Files) → X f → base1 f ⊎ WithFile kept1 next.number (g.may_leave d) f)
    → (f : Files) → X f → base f ⊎ WithFile kept next.number (HasBodies next.before (first_bodies next)) f
unnamed {D} g segment d next base base1 kept kept1 X same at fewer quiet either f is =
    ⊎_elim (λ was. inl (fewer f was))
    (λ w. inr (with_more kept kept1 next.number (HasBodies next.before (first_bodies next)) (g.may_leave d) f quiet
    (λ c l. left_at g next.before (first_bodies next) segment at c (subst (λ (x : D). g.may_leave x c) same l)) w)) (either f is)

module _ (kept ever : Files → Type 0) (next : Next) (house : House) (lines : Lines) (run : Run) where
  abbrev AtFirst : List (List ℕ) → List ℕ → Type 0
  AtFirst more = HasFront next.before (first_bodies next) more

  -- nothing was said, and no line was done
  pub unsaid : (kept' ever' : Files → Type 0) (status : Status) → IsUnmade next [] status → Appends run.written run.written' []
      → ((files : Files) → kept' files → kept files ⊎ WithFile kept next.number (HasBodies next.before (first_bodies next)) files)
      → ((files : Files) → ever' files → ever files ⊎ WithFile kept next.number (HasBodies next.before (first_bodies next)) files)
      → SegmentDone (remains kept ever) (remains kept' ever') next (passage house house lines lines run) (Err status)
  unsaid kept' ever' status bad wrote at_end moments = record {
    done = lines_done [] [] [] house;
    talk = refl;
    over_one = inl refl;
    wrote = wrote;
    any_moment = λ files left. ⊎_elim (λ was. inl was)
        (λ w. inr (with_more kept kept next.number (AtFirst []) (HasBodies next.before (first_bodies next)) files (λ f k. k)
        (λ c has. front_none next.before (first_bodies next) [] c has) w)) (moments files left);
    at_the_end = λ files left. ⊎_elim (λ was. inl (was, refl, refl))
        (λ w. inr (with_more kept kept next.number (HasFront next.before (first_bodies next ++ []) []) (HasBodies next.before (first_bodies next)) files (λ f k. k)
        (λ c has. front_none next.before (first_bodies next ++ []) [] c
        (subst (λ (l : List (List ℕ)). HasBodies next.before l c) (sym (append-nil (first_bodies next))) has)) w)) (at_end files left);
    says = record { last = []; unsaid = next.said.items; fault = inl refl; front = append-nil next.said.items };
    passed = λ left is due. absurd (cc (is));
    due = λ left is. absurd (cc (is));
    unmade = λ s is. subst (IsUnmade next []) (err_is status s is) bad;
  }
    where
      err_is : (a b : Status) → (let e : Result Left Status = Err a in e ≡ Err b) → a ≡ b
      err_is a b same = cc (same)

  -- a segment that is not made, by any error that is no success
  pub refused : (kept' ever' : Files → Type 0) (Q : Status → Type 0) (r : Result Left Status) → IsErrAnd r Q → ((s : Status) → Q s → IsUnmade next [] s)
      → Appends run.written run.written' []
      → ((files : Files) → kept' files → kept files ⊎ WithFile kept next.number (HasBodies next.before (first_bodies next)) files)
      → ((files : Files) → ever' files → ever files ⊎ WithFile kept next.number (HasBodies next.before (first_bodies next)) files)
      → SegmentDone (remains kept ever) (remains kept' ever') next (passage house house lines lines run) r
  refused kept' ever' Q (Ok x) is bad wrote at_end moments = absurd is
  refused kept' ever' Q (Err s) is bad wrote at_end moments = unsaid kept' ever' s (bad s is) wrote at_end moments

  -- the segment was named, and lines were answered
  module _ {D : Type 0} (g : Ghosts D) (segment segment' : Segment D) (house' : House) (lines' : Lines) (ending : Ending)
      (s : Spoken g (first_records next.before (first_bodies next)) next.said.items (course (moment house segment lines) (moment house' segment' lines') run) ending) where
    abbrev All : List ℕ → Type 0
    All = HasFront next.before (first_bodies next) (bodies_of s.done.turns ++ s.done.over)

    pub named : (kept1 ever1 kept2 ever2 kept3 ever3 : Files → Type 0) (left : Left) (d d' : D) → left.ending ≡ ending → IsAt g segment next.before (first_bodies next)
        → ((before : List ℕ) (bodies : List (List ℕ)) → IsAt g segment' before bodies → left.digest ≡ last_digest before bodies)
        → d ≡ disk_of segment → d' ≡ disk_of segment'
        → ((f : Files) → kept1 f → kept f) → ((f : Files) → ever1 f → ever f) → ((f : Files) → kept2 f → kept1 f)
        → ((f : Files) → ever2 f → ever1 f ⊎ WithFile kept1 next.number (g.may_leave d) f)
        → ((f : Files) → kept3 f → WithFile kept2 next.number (g.may_leave d') f)
        → ((f : Files) → ever3 f → ever2 f ⊎ WithFile kept2 next.number (g.left_since d' (g.moment d)) f)
        → SegmentDone (remains kept ever) (remains kept3 ever3) next (passage house house' lines lines' run) (Ok left)
    named kept1 ever1 kept2 ever2 kept3 ever3 left d d' so at digest same same' quiet calm others naming closing moments = record {
      done = s.done;
      talk = s.talk;
      over_one = s.over_one;
      wrote = s.wrote;
      any_moment = λ files is. ⊎_elim
          (λ was. ⊎_elim (λ old. inl (calm files old))
          (λ w. inr (with_more kept kept1 next.number All (g.may_leave d) files quiet
          (λ c l. front_none next.before (first_bodies next) (bodies_of s.done.turns ++ s.done.over) c
          (left_at g next.before (first_bodies next) segment at c (subst (λ (x : D). g.may_leave x c) same l))) w))
          (naming files was))
          (λ w. inr (with_more kept kept2 next.number All (g.left_since d' (g.moment d)) files (λ f k. quiet f (others f k))
          (λ c l. s.crash.each c (subst (λ (x : D). g.left_since x (g.moment (disk_of segment)) c) same'
          (subst (λ (x : D). g.left_since d' (g.moment x) c) same l))) w))
          (moments files is);
      at_the_end = λ files is. inr (with_more kept kept2 next.number (HasFront next.before (first_bodies next ++ bodies_of s.done.turns) s.done.over)
          (g.may_leave d') files (λ f k. quiet f (others f k)) (λ c l. s.acknowledged c (subst (λ (x : D). g.may_leave x c) same' l)) (closing files is));
      says = s.says;
      passed = λ l is due.
          let same : left ≡ l = cc (is) in
          let w = s.whole (subst EndsWhole so (subst (λ (x : Left). EndsWhole x.ending) (sym same) due)) in
          subst (λ (x : Left). IsPassed kept kept3 next (passage house house' lines lines' run) s.done x) same record {
            here = w.here;
            none_over = w.none_over;
            all = w.all;
            digest = digest next.before (first_bodies next ++ bodies_of s.done.turns) w.synced;
            leaves = λ files is. with_more kept kept2 next.number (HasBodies next.before (first_bodies next ++ bodies_of s.done.turns))
                (g.may_leave d') files (λ f k. quiet f (others f k))
                (λ c l. left_at g next.before (first_bodies next ++ bodies_of s.done.turns) segment' w.synced c (subst (λ (x : D). g.may_leave x c) same' l)) (closing files is);
            read = w.read;
          };
      due = λ l is.
          let same : left ≡ l = cc (is) in
          subst (λ (x : Left). EndsDue (first_bodies next) next.said.items (passage house house' lines lines' run) s.done x.ending) same
          (subst (EndsDue (first_bodies next) next.said.items (passage house house' lines lines' run) s.done) (sym so) s.due);
      unmade = λ status is. absurd (cc (is));
    }

-- ---- statuses

-- a status that says nothing of lines and of room
pub record IsPlain (status : Status) : Type 0 where
  pub not_ok : status ≢ statuses.Ok
  pub not_faulty : status ≢ statuses.BadInput
  pub not_full : status ≢ statuses.Full

pub memory_plain : (s : Status) → s ≡ statuses.OutOfMemory → IsPlain s
memory_plain s is = record { not_ok = λ so. absurd (cc (is, so)); not_faulty = λ so. absurd (cc (is, so)); not_full = λ so. absurd (cc (is, so)) }

disk_plain : (s : Status) → s ≡ statuses.DiskFault → IsPlain s
disk_plain s is = record { not_ok = λ so. absurd (cc (is, so)); not_faulty = λ so. absurd (cc (is, so)); not_full = λ so. absurd (cc (is, so)) }

pub bad_plain : (s : Status) → s ≡ statuses.BadFolder → IsPlain s
bad_plain s is = record { not_ok = λ so. absurd (cc (is, so)); not_faulty = λ so. absurd (cc (is, so)); not_full = λ so. absurd (cc (is, so)) }

pub other_plain : (s : Status) → s ≡ statuses.OtherVersion → IsPlain s
other_plain s is = record { not_ok = λ so. absurd (cc (is, so)); not_faulty = λ so. absurd (cc (is, so)); not_full = λ so. absurd (cc (is, so)) }

pub deeds_plain : (s : Status) → s ≡ statuses.OtherDeeds → IsPlain s
deeds_plain s is = record { not_ok = λ so. absurd (cc (is, so)); not_faulty = λ so. absurd (cc (is, so)); not_full = λ so. absurd (cc (is, so)) }

taken_plain : (s : Status) → s ≡ statuses.Taken → IsPlain s
taken_plain s is = record { not_ok = λ so. absurd (cc (is, so)); not_faulty = λ so. absurd (cc (is, so)); not_full = λ so. absurd (cc (is, so)) }

pub folder_plain : (f : FolderFault) (s : Status) → s ≡ status_of_folder f → IsPlain s
folder_plain folders.Unreadable s is = bad_plain s is
folder_plain folders.Taken s is = taken_plain s is
folder_plain folders.Failed s is = disk_plain s is
folder_plain folders.OutOfMemory s is = memory_plain s is

-- a segment is not made, and nothing was done
pub plain_unmade : (next : Next) (s : Status) → IsPlain s → IsUnmade next [] s
plain_unmade next s plain = record { not_ok = plain.not_ok; not_faulty = plain.not_faulty; full = λ is. absurd (plain.not_full is) }

pub begun_unmade : (next : Next) (fault : AllocOr JournalFault) (s : Status) → s ≡ status_not_begun fault
    → (fault ≡ Fault journal.Full → 2 ^ 40 < size_with (first_bodies next)) → IsUnmade next [] s
begun_unmade next (Fault journal.Full) s is large = record {
  not_ok = λ so. absurd (cc (is, so));
  not_faulty = λ so. absurd (cc (is, so));
  full = λ so. (refl, large refl);
}
begun_unmade next (Fault journal.DiskFault) s is large = plain_unmade next s (disk_plain s is)
begun_unmade next (Fault journal.Reopen) s is large = plain_unmade next s (disk_plain s is)
begun_unmade next alloc.OutOfMemory s is large = plain_unmade next s (memory_plain s is)

-- the status after an ending is a success where the input ended
pub ok_ends : (e : Ending) (s : Status) → Some s ≡ status_after e → s ≡ statuses.Ok → e ≡ InputEnds
ok_ends InputEnds s is ok = refl
ok_ends BadInput s is ok = absurd (cc (is, ok))
ok_ends ReadFault s is ok = absurd (cc (is, ok))
ok_ends WriteFault s is ok = absurd (cc (is, ok))
ok_ends OutOfMemory s is ok = absurd (cc (is, ok))
ok_ends Full s is ok = absurd (cc (is, ok))
ok_ends DiskFault s is ok = absurd (cc (is, ok))
ok_ends Grown s is ok = absurd (cc (is, ok))

-- the process goes on after this ending alone
pub goes_on : (e : Ending) → None ≡ status_after e → e ≡ Grown
goes_on InputEnds is = absurd (cc)
goes_on BadInput is = absurd (cc)
goes_on ReadFault is = absurd (cc)
goes_on WriteFault is = absurd (cc)
goes_on OutOfMemory is = absurd (cc)
goes_on Full is = absurd (cc)
goes_on DiskFault is = absurd (cc)
goes_on Grown is = refl

-- that of a fault of octets where the input had one, and a full one where a record had no room
pub faulty_ends : (e : Ending) (s : Status) → Some s ≡ status_after e → s ≡ statuses.BadInput → e ≡ BadInput
faulty_ends InputEnds s is so = absurd (cc (is, so))
faulty_ends BadInput s is so = refl
faulty_ends ReadFault s is so = absurd (cc (is, so))
faulty_ends WriteFault s is so = absurd (cc (is, so))
faulty_ends OutOfMemory s is so = absurd (cc (is, so))
faulty_ends Full s is so = absurd (cc (is, so))
faulty_ends DiskFault s is so = absurd (cc (is, so))
faulty_ends Grown s is so = absurd (cc (is, so))

pub full_ends : (e : Ending) (s : Status) → Some s ≡ status_after e → s ≡ statuses.Full → e ≡ Full
full_ends InputEnds s is so = absurd (cc (is, so))
full_ends BadInput s is so = absurd (cc (is, so))
full_ends ReadFault s is so = absurd (cc (is, so))
full_ends WriteFault s is so = absurd (cc (is, so))
full_ends OutOfMemory s is so = absurd (cc (is, so))
full_ends Full s is so = refl
full_ends DiskFault s is so = absurd (cc (is, so))
full_ends Grown s is so = absurd (cc (is, so))
