-- A process as it goes on from segment to segment, and what it did when it ends.
use Rattle.std.proofs.Common.{◌≡◌, ◌≢◌, ◌⊎◌, inl, inr, ⊎_elim, ℕ, ◌+◌, ◌^◌, ◌<◌, ◌≤◌, List, [], ◌∷◌, ◌++◌, length, refl, sym, ◌∙◌, ap, subst, append_assoc, append-nil, length-append, arith}
use Rattle.std.specs.Prelude.{Option, Some, None, Result, Ok, Err, IsErrAnd}
use Rattle.std.specs.Io.KnownBytes.{Appends, IsAtEnd}
use Rattle.cds_base.specs.Lines.{IsFresh, fault_of_lines, lines_so_far, octets_ahead}
use Rattle.cds_base.specs.SourceReading.{GrowsByReading}
use Rattle.cds_base.specs.declared.lines.Lines.{Lines}
use Rattle.cds_base.proofs.KnownOctets.{appends_more, appends_none, consumes_self}
use Rattle.house_entries.specs.Bodies.{head_of}
use Rattle.house_segments.specs.Chains.{last_digest}
use Rattle.house_segments.specs.Segments.{HasBodies, size_with}
use Rattle.cds_base.specs.RunEnds.{Run}
use Rattle.house_serving.specs.Serving.{HasFront, HasNoLine, IsOver}
use Rattle.house_serving.specs.Turns.{Dialogue, Turn, bodies_in, bodies_of, lines_text, texts_of}
use Rattle.house_serving.specs.declared.ending.Ending.{Ending}
use Rattle.house_serving.specs.declared.ending.Ending.TheVariants.{BadInput, Grown, InputEnds}
use Rattle.house_serving.proofs.Runs.{reads_after, run_between}
use Rattle.house_serving.proofs.Works.{bodies-append, lines-append, talks_on, texts-append}
use Rattle.house_turns.specs.HouseReplies.{Responds}
use Rattle.house_turns.specs.Openings.{IsSegmentRecord, after_start, new_house, start_text}
use Rattle.house_turns.specs.Records.{IsRecord}
use Rattle.house_turns.specs.declared.house.House.{House}
use Rattle.house_runs.specs.Folders.{AreSegments, BeginsWith, Beginning, FolderSegment, OpensFrom, ProcessBegins, ProcessGoesOn, folder_bodies, last_bodies, segment_bodies}
use Rattle.house_runs.proofs.Crashes.{Done, front_done, of_over}
use Rattle.house_program.specs.Beginnings.{FindsSo, first_bodies}
use Rattle.house_program.specs.Files.{Files, NumberedFile, WithFile, last_file, number_in}
use Rattle.house_program.specs.HouseFolders.{AreFiles, BeginsAnew, EndsIn, Found, HasFolderFront, IsHouseFolder, LeavesHouse, digest_after_all}
use Rattle.house_program.specs.Lives.{EndsWith, HasBadLine, HasNoRoom, AllIsAnswered, IsSaidFirst, IsIdle, KeepsAllSaid, IsReadNext, IsFrontSaid, Life, Lived, NoFirst, NoNext, NoNumber, last_size_after, turns_in}
use Rattle.house_program.specs.PrivateLives.{EndsDue, IsCrowded, EndsWhole, IsPassed, IsStoppedAt, SegmentDone, passage, remains}
use Rattle.house_program.specs.Statuses.{status_after, status_of}
use Rattle.house_program.specs.declared.reading.FolderHouse.{FolderHouse}
use Rattle.house_program.specs.declared.segments.Left.{Left}
use Rattle.house_program.specs.declared.segments.Next.{Next}
use Rattle.house_program.specs.declared.status.Status.{Status}
use Rattle.house_program.specs.declared.status.Status.TheVariants as statuses
use Rattle.house_program.proofs.LifeLemmas.{IsPlain, faulty_ends, full_ends, memory_plain, ok_ends}
use Rattle.house_program.proofs.FolderLemmas.{SegmentsTo, anew_on, are_segments, bodies_on, digests_on, file_on, found_digest, found_number, found_of, found_opens, goes_from, house_on, none_to, number_of_found, segments_on}

pub turns_on : (ss : List FolderSegment) (s : FolderSegment) → turns_in (ss ++ s ∷ []) ≡ turns_in ss ++ s.turns
turns_on [] s = append-nil s.turns
turns_on (t ∷ ss) s = ap (λ (l : List Turn). t.turns ++ l) (turns_on ss s) ∙ sym (append_assoc t.turns (turns_in ss) s.turns)

-- the files of before, and those of these segments
pub record HasAll (kept0 : Files → Type 0) (found : Found) (segments : List FolderSegment) (files : Files) : Type 0 where
  pub was : Files
  pub made : Files
  pub kept : kept0 was
  pub after : (h : IsHouseFolder was) → EndsIn (h.gone ++ h.segments) found
  pub split : files ≡ was ++ made
  pub are : AreFiles (found.number + 1) found.digest segments made

-- a process between two segments
pub record Made (kept0 ever0 kept ever : Files → Type 0) (found : Found) (opened : House) (said : List ℕ) (left left' written written' : Option (List ℕ))
    (lines : Lines) (segments : List FolderSegment) (prior : House) (text unsaid : List ℕ) : Type 0 where
  pub opens : OpensFrom found.last opened
  pub speaks : IsSaidFirst (after_start opened opened.home) said
  pub follow : SegmentsTo found.last new_house segments prior
  pub anew : BeginsAnew segments
  pub silent : segments ≡ [] → text ≡ []
  pub wrote : Appends written written' text
  pub words : text ++ unsaid ≡ said ++ texts_of (turns_in segments)
  pub leaves : (files : Files) → kept files → HasAll kept0 found segments files
  pub moments : (files : Files) → ever files → ever0 files ⊎ HasFolderFront kept0 found (folder_bodies segments) files
  pub read : GrowsByReading left left' [] (lines_text (turns_in segments) ++ octets_ahead lines)
  pub counted : lines_so_far lines ≡ length (turns_in segments)

-- and the segment that it is to make
pub record Ready (kept : Files → Type 0) (found : Found) (lines : Lines) (segments : List FolderSegment) (prior house : House) (unsaid : List ℕ) (next : Next) : Type 0 where
  pub begins : Beginning
  pub starts : BeginsWith begins (last_bodies found.last segments) prior next.first.items house
  pub first : segments ≡ [] → begins ≡ ProcessBegins
  pub number : next.number ≡ found.number + 1 + length segments
  pub digest : next.before ≡ digest_after_all (found.number + 1) found.digest segments
  pub says : next.said.items ≡ unsaid
  pub above : (files : Files) → kept files → number_in (last_file files) < next.number
  pub unbroken : fault_of_lines lines ≡ None

-- more records
pub front_grows : (kept : Files → Type 0) (found : Found) (records more : List (List ℕ)) (files : Files) → HasFolderFront kept found records files
    → HasFolderFront kept found (records ++ more) files
front_grows kept found records more files f = record {
  was = f.was;
  made = f.made;
  segments = f.segments;
  more = f.more ++ more;
  kept = f.kept;
  after = f.after;
  split = f.split;
  are = f.are;
  follow = f.follow;
  begins = f.begins;
  records = ap (λ (l : List (List ℕ)). l ++ more) f.records ∙ append_assoc (folder_bodies f.segments) f.more more;
}

-- a process may end so before the segment after this one
pub record MayStop (number : ℕ) (status : Status) : Type 0 where
  pub not_ok : status ≢ statuses.Ok
  pub not_faulty : status ≢ statuses.BadInput
  pub full : status ≡ statuses.Full → 2 ^ 64 ≤ number + 1

-- a process that does nothing more
module _ (kept0 ever0 kept ever : Files → Type 0) (found : Found) (opened : House) (said : List ℕ) (run : Run) (lines : Lines)
    (segments : List FolderSegment) (prior : House) (text unsaid : List ℕ)
    (m : Made kept0 ever0 kept ever found opened said run.left run.left' run.written run.written' lines segments prior text unsaid) where
  pub rests : (kept' ever' : Files → Type 0) (status : Status) → status ≢ statuses.Ok → status ≢ statuses.BadInput
      → (status ≡ statuses.Full → 2 ^ 64 ≤ found.number + length segments + 1) → ((f : Files) → kept' f → kept f) → ((f : Files) → ever' f → ever f)
      → Life kept0 ever0 kept' ever' run status
  rests kept' ever' status bad clean full fewer calm = record {
    found = found;
    opened = opened;
    segments = segments;
    over = [];
    said = said;
    text = text;
    opens = m.opens;
    speaks = m.speaks;
    wrote = m.wrote;
    any_moment = λ files left. ⊎_elim (λ was. inl was) (λ f. inr (front_grows kept0 found (folder_bodies segments) [] files f)) (m.moments files (calm files left));
    at_the_end = λ files left.
        let all = m.leaves files (fewer files left) in
        record {
          front = record {
            was = all.was;
            made = all.made;
            segments = segments;
            more = [];
            kept = all.kept;
            after = all.after;
            split = all.split;
            are = all.are;
            follow = are_segments found.last new_house prior segments m.follow;
            begins = m.anew;
            records = refl;
          };
          started = m.silent;
          answered = turns_in segments;
          more = [];
          split = sym (append-nil (turns_in segments));
          says = record {
            last = [];
            unsaid = unsaid;
            fault = inl refl;
            front = ap (λ (l : List ℕ). said ++ l) (append-nil (texts_of (turns_in segments))) ∙ sym m.words;
          };
        };
    answers = λ is. absurd (bad is);
    faulty = λ is. absurd (clean is);
    full = λ is. NoNumber (full is);
  }

-- ---- a segment more

-- a front that has one segment more
pub record OneMore (kept0 : Files → Type 0) (found : Found) (records : List (List ℕ)) (files : Files) (segments : List FolderSegment) (s : FolderSegment) : Type 0 where
  pub front : HasFolderFront kept0 found records files
  pub are : front.segments ≡ segments ++ s ∷ []

module _ (kept0 ever0 kept ever : Files → Type 0) (found : Found) (opened : House) (said : List ℕ) (left left' written written' : Option (List ℕ)) (lines : Lines)
    (segments : List FolderSegment) (prior house : House) (text unsaid : List ℕ) (next : Next)
    (m : Made kept0 ever0 kept ever found opened said left left' written written' lines segments prior text unsaid)
    (r : Ready kept found lines segments prior house unsaid next) where
  -- the segment with these lines
  abbrev pub segment_with : List Turn → FolderSegment
  segment_with turns = record { begins = r.begins; first = next.first.items; number = lines_so_far lines + 1; turns = turns }

  -- its records are those that the file has
  has_bodies : (turns : List Turn) (octets : List ℕ) → HasBodies next.before (first_bodies next ++ bodies_of turns) octets
      → HasBodies (digest_after_all (found.number + 1) found.digest segments) (head_of (found.number + 1 + length segments)
      (digest_after_all (found.number + 1) found.digest segments) ∷ segment_bodies (segment_with turns)) octets
  has_bodies turns octets has =
      subst (λ (b : List ℕ). HasBodies b (head_of (found.number + 1 + length segments) b ∷ (next.first.items ∷ bodies_of turns)) octets) r.digest
      (subst (λ (n : ℕ). HasBodies next.before (head_of n next.before ∷ (next.first.items ∷ bodies_of turns)) octets) r.number has)

  all_with : (turns : List Turn) (L : List ℕ → Type 0) → ((c : List ℕ) → L c → HasBodies next.before (first_bodies next ++ bodies_of turns) c)
      → (files : Files) → WithFile kept next.number L files → HasAll kept0 found (segments ++ segment_with turns ∷ []) files
  all_with turns L so files w =
      let all = m.leaves w.front w.before in
      record {
        was = all.was;
        made = all.made ++ record { number = found.number + 1 + length segments; octets = w.octets } ∷ [];
        kept = all.kept;
        after = all.after;
        split =
            w.split
            ∙ ap (λ (n : ℕ). w.front ++ record { number = n; octets = w.octets } ∷ []) r.number
            ∙ ap (λ (l : Files). l ++ record { number = found.number + 1 + length segments; octets = w.octets } ∷ []) all.split
            ∙ append_assoc all.was all.made (record { number = found.number + 1 + length segments; octets = w.octets } ∷ []);
        are =
            file_on (found.number + 1) found.digest segments (segment_with turns) all.made w.octets all.are
            (has_bodies turns w.octets (so w.octets w.left));
      }

  front_with : (turns : List Turn) (at : House) (rest over : List (List ℕ)) (done : List Turn) → Dialogue Responds (lines_so_far lines + 1) house turns at
      → bodies_of done ++ over ≡ bodies_of turns ++ rest → (files : Files)
      → HasAll kept0 found (segments ++ segment_with turns ∷ []) files
      → OneMore kept0 found (folder_bodies (segments ++ segment_with done ∷ []) ++ over) files segments (segment_with turns)
  front_with turns at rest over done talk same files all = record {
    front = record {
      was = all.was;
      made = all.made;
      segments = segments ++ segment_with turns ∷ [];
      more = rest;
      kept = all.kept;
      after = all.after;
      split = all.split;
      are = all.are;
      follow =
          are_segments found.last new_house at (segments ++ segment_with turns ∷ [])
          (segments_on found.last new_house prior house at segments (segment_with turns) m.follow r.starts talk);
      begins = anew_on segments (segment_with turns) m.anew r.first;
      records =
          ap (λ (l : List (List ℕ)). l ++ over) (bodies_on segments (segment_with done))
          ∙ append_assoc (folder_bodies segments) (next.first.items ∷ bodies_of done) over
          ∙ ap (λ (l : List (List ℕ)). folder_bodies segments ++ next.first.items ∷ l) same
          ∙ sym (append_assoc (folder_bodies segments) (next.first.items ∷ bodies_of turns) rest)
          ∙ ap (λ (l : List (List ℕ)). l ++ rest) (sym (bodies_on segments (segment_with turns)));
    };
    are = refl;
  }

  module _ (kept' ever' : Files → Type 0) (house' : House) (lines' : Lines) (left'' written'' : Option (List ℕ)) (reads reads' writes writes' : ℕ) (result : Result Left Status)
      (d : SegmentDone (remains kept ever) (remains kept' ever') next (passage house house' lines lines' (record { left = left'; left' = left''; written = written'; written' = written''; reads = reads; reads' = reads'; writes = writes; writes' = writes' })) result) where
    abbrev after_it : List FolderSegment
    after_it = segments ++ segment_with d.done.turns ∷ []

    -- a front of the records of the lines that were done
    front_of : (files : Files) → WithFile kept next.number (HasFront next.before (first_bodies next) (bodies_of d.done.turns ++ d.done.over)) files
        → HasFolderFront kept0 found (folder_bodies after_it ++ d.done.over) files
    front_of files w =
        let is = w.left in
        let done = front_done Responds d.done.turns (lines_so_far lines + 1) house d.done.at d.done.over is.front is.rest d.talk d.over_one is.split in
        let same = ap (λ (l : List (List ℕ)). first_bodies next ++ l) (sym done.are) in
        (front_with done.turns done.at is.rest d.done.over d.done.turns done.talk (is.split ∙ ap (λ (l : List (List ℕ)). l ++ is.rest) (sym done.are)) files
        (all_with done.turns (λ c. c ≡ w.octets) (λ c one. subst (λ (x : List ℕ). HasBodies next.before (first_bodies next ++ bodies_of done.turns) x) (sym one)
        (subst (λ (l : List (List ℕ)). HasBodies next.before l w.octets) same is.has)) files (record { front = w.front; octets = w.octets; before = w.before; left = refl; split = w.split }))).front

    moments : (files : Files) → ever' files → ever0 files ⊎ HasFolderFront kept0 found (folder_bodies after_it ++ d.done.over) files
    moments files is =
        ⊎_elim
        (λ was. ⊎_elim (λ old. inl old) (λ f. inr (old_front files f)) (m.moments files was))
        (λ w. inr (front_of files w)) (d.any_moment files is)
      where
        old_front : (files : Files) → HasFolderFront kept0 found (folder_bodies segments) files → HasFolderFront kept0 found (folder_bodies after_it ++ d.done.over) files
        old_front files f =
            subst (λ (l : List (List ℕ)). HasFolderFront kept0 found l files)
            (sym (append_assoc (folder_bodies segments) (next.first.items ∷ bodies_of d.done.turns) d.done.over)
            ∙ ap (λ (l : List (List ℕ)). l ++ d.done.over) (sym (bodies_on segments (segment_with d.done.turns))))
            (front_grows kept0 found (folder_bodies segments) ((next.first.items ∷ bodies_of d.done.turns) ++ d.done.over) files f)

    -- what was said so far, and of this segment
    words_on : (turns : List Turn) (last more : List ℕ) (some : List ℕ) → next.said.items ++ (texts_of turns ++ last) ≡ some ++ more
        → said ++ (texts_of (turns_in segments ++ turns) ++ last) ≡ (text ++ some) ++ more
    words_on turns last more some front =
        ap (λ (l : List ℕ). said ++ (l ++ last)) (texts-append (turns_in segments) turns)
        ∙ ap (λ (l : List ℕ). said ++ l) (append_assoc (texts_of (turns_in segments)) (texts_of turns) last)
        ∙ sym (append_assoc said (texts_of (turns_in segments)) (texts_of turns ++ last))
        ∙ ap (λ (l : List ℕ). l ++ (texts_of turns ++ last)) (sym m.words ∙ ap (λ (l : List ℕ). text ++ l) (sym r.says))
        ∙ append_assoc text next.said.items (texts_of turns ++ last)
        ∙ ap (λ (l : List ℕ). text ++ l) front
        ∙ sym (append_assoc text some more)

    not_none : {A : Type 0} (ss : List FolderSegment) (s : FolderSegment) → ss ++ s ∷ [] ≡ [] → A
    not_none [] s none = absurd (cc (none))
    not_none (t ∷ ss) s none = absurd (cc (none))

    -- nothing was said, and the segment may have no name
    kept_without : (files : Files) → kept files → d.done.text ≡ [] → KeepsAllSaid kept0 found (folder_bodies after_it ++ d.done.over) said (text ++ d.done.text) files
    kept_without files is none =
        let all = m.leaves files is in
        let same : text ++ d.done.text ≡ text = ap (λ (l : List ℕ). text ++ l) none ∙ append-nil text in
        record {
          front = record {
            was = all.was;
            made = all.made;
            segments = segments;
            more = (next.first.items ∷ bodies_of d.done.turns) ++ d.done.over;
            kept = all.kept;
            after = all.after;
            split = all.split;
            are = all.are;
            follow = are_segments found.last new_house prior segments m.follow;
            begins = m.anew;
            records =
                ap (λ (l : List (List ℕ)). l ++ d.done.over) (bodies_on segments (segment_with d.done.turns))
                ∙ append_assoc (folder_bodies segments) (next.first.items ∷ bodies_of d.done.turns) d.done.over;
          };
          started = λ no. same ∙ m.silent no;
          answered = turns_in segments;
          more = [];
          split = sym (append-nil (turns_in segments));
          says = record {
            last = [];
            unsaid = unsaid;
            fault = inl refl;
            front = ap (λ (l : List ℕ). said ++ l) (append-nil (texts_of (turns_in segments))) ∙ sym m.words ∙ ap (λ (l : List ℕ). l ++ unsaid) (sym same);
          };
        }

    -- all lines that were done are kept
    kept_with : (files : Files) → WithFile kept next.number (HasFront next.before (first_bodies next ++ bodies_of d.done.turns) d.done.over) files
        → KeepsAllSaid kept0 found (folder_bodies after_it ++ d.done.over) said (text ++ d.done.text) files
    kept_with files w =
        let is = w.left in
        let done = of_over Responds (lines_so_far lines + 1 + length d.done.turns) d.done.at d.done.over is.front is.rest d.over_one is.split in
        let turns = d.done.turns ++ done.turns in
        let are : bodies_of turns ≡ bodies_of d.done.turns ++ is.front =
        bodies-append d.done.turns done.turns ∙ ap (λ (l : List (List ℕ)). bodies_of d.done.turns ++ l) done.are in
        let has : HasBodies next.before (first_bodies next ++ bodies_of turns) w.octets =
        subst (λ (l : List (List ℕ)). HasBodies next.before l w.octets)
        (append_assoc (first_bodies next) (bodies_of d.done.turns) is.front ∙ ap (λ (l : List (List ℕ)). first_bodies next ++ l) (sym are)) is.has in
        let one = front_with turns done.at is.rest d.done.over d.done.turns (talks_on Responds (lines_so_far lines + 1) house d.done.at done.at d.done.turns done.turns d.talk done.talk)
        (ap (λ (l : List (List ℕ)). bodies_of d.done.turns ++ l) is.split ∙ sym (append_assoc (bodies_of d.done.turns) is.front is.rest)
        ∙ ap (λ (l : List (List ℕ)). l ++ is.rest) (sym are)) files
        (all_with turns (λ c. c ≡ w.octets) (λ c same. subst (λ (x : List ℕ). HasBodies next.before (first_bodies next ++ bodies_of turns) x) (sym same) has) files
        (record { front = w.front; octets = w.octets; before = w.before; left = refl; split = w.split })) in
        record {
          front = one.front;
          started = λ none. not_none segments (segment_with turns) (sym one.are ∙ none);
          answered = turns_in segments ++ d.done.turns;
          more = done.turns;
          split = ap turns_in one.are ∙ turns_on segments (segment_with turns) ∙ sym (append_assoc (turns_in segments) d.done.turns done.turns);
          says = record {
            last = d.says.last;
            unsaid = d.says.unsaid;
            fault = d.says.fault;
            front = words_on d.done.turns d.says.last d.says.unsaid d.done.text d.says.front;
          };
        }

    -- all that was read
    read_on : (rest : List ℕ) → GrowsByReading left' left'' (octets_ahead lines) (lines_text d.done.turns ++ rest)
        → GrowsByReading left left'' [] (lines_text (turns_in after_it) ++ rest)
    read_on rest read =
        subst (GrowsByReading left left'' [])
        (sym (append_assoc (lines_text (turns_in segments)) (lines_text d.done.turns) rest)
        ∙ ap (λ (l : List ℕ). l ++ rest) (sym (lines-append (turns_in segments) d.done.turns) ∙ ap lines_text (sym (turns_on segments (segment_with d.done.turns)))))
        (reads_after left left' left'' [] (lines_text (turns_in segments)) (octets_ahead lines) (lines_text d.done.turns ++ rest) m.read read)

    -- the segment with these lines is as a house makes it, and has so many octets
    ends_with : (turns : List Turn) (at : House) → Dialogue Responds (lines_so_far lines + 1) house turns at
        → EndsWith found (segments ++ segment_with turns ∷ []) segments (segment_with turns)
    ends_with turns at talk = record {
      split = refl;
      are =
          are_segments found.last new_house at (segments ++ segment_with turns ∷ [])
          (segments_on found.last new_house prior house at segments (segment_with turns) m.follow r.starts talk);
    }

    sized : (turns : List Turn) → 2 ^ 40 < size_with (first_bodies next ++ bodies_of turns) → 2 ^ 40 < last_size_after found segments (segment_with turns)
    sized turns large =
        subst (λ (b : List ℕ). 2 ^ 40 < size_with (head_of (found.number + 1 + length segments) b ∷ (next.first.items ∷ bodies_of turns))) r.digest
        (subst (λ (n : ℕ). 2 ^ 40 < size_with (head_of n next.before ∷ (next.first.items ∷ bodies_of turns))) r.number large)

    -- the first record has no room
    no_first : d.done.turns ≡ [] → 2 ^ 40 < size_with (first_bodies next) → (run : Run) → HasNoRoom run found after_it
    no_first none large run =
        NoFirst segments (segment_with d.done.turns) none (ends_with d.done.turns d.done.at d.talk)
        (sized d.done.turns (subst (λ (l : List (List ℕ)). 2 ^ 40 < size_with (first_bodies next ++ l)) (sym (ap bodies_of none)) large))

    -- the record of the next line has none
    no_next : (c : IsCrowded (first_bodies next) (passage house house' lines lines' (record { left = left'; left' = left''; written = written'; written' = written''; reads = reads; reads' = reads'; writes = writes; writes' = writes' })) d.done)
        → (run : Run) → run.left ≡ left → run.left' ≡ left'' → HasNoRoom run found after_it
    no_next c run from to =
        let n = c.lacks.next in
        let turn : Turn = record { line = n.line; said = n.said } in
        let turns = d.done.turns ++ turn ∷ [] in
        let talk = talks_on Responds (lines_so_far lines + 1) house d.done.at n.next d.done.turns (turn ∷ []) d.talk (n.next, n.does, refl) in
        let bodies : (first_bodies next ++ bodies_of d.done.turns) ++ d.done.over ≡ first_bodies next ++ bodies_of turns =
        append_assoc (first_bodies next) (bodies_of d.done.turns) d.done.over
        ∙ ap (λ (l : List (List ℕ)). first_bodies next ++ l)
        (ap (λ (l : List (List ℕ)). bodies_of d.done.turns ++ l) (n.bodies ∙ sym (append-nil (bodies_in n.said.body))) ∙ sym (bodies-append d.done.turns (turn ∷ []))) in
        NoNext segments (segment_with d.done.turns) (segment_with turns) turn refl refl (ends_with turns n.next talk) (
          octets_ahead lines',
          subst (λ (x : Option (List ℕ)). GrowsByReading x run.left' [] (lines_text (turns_in after_it) ++ ((n.line ++ 10 ∷ []) ++ octets_ahead lines'))) (sym from)
              (subst (λ (x : Option (List ℕ)). GrowsByReading left x [] (lines_text (turns_in after_it) ++ ((n.line ++ 10 ∷ []) ++ octets_ahead lines'))) (sym to)
              (subst (λ (l : List ℕ). GrowsByReading left left'' [] (lines_text (turns_in after_it) ++ (l ++ octets_ahead lines'))) c.lacks.line (read_on (c.one ++ octets_ahead lines') c.read))),
        )
        (sized turns (subst (λ (l : List (List ℕ)). 2 ^ 40 < size_with l) bodies c.lacks.large))

    -- the next line is none
    bad_line : IsStoppedAt next.said.items (passage house house' lines lines' (record { left = left'; left' = left''; written = written'; written' = written''; reads = reads; reads' = reads'; writes = writes; writes' = writes' })) d.done
        → (run : Run) → run.left ≡ left → run.left' ≡ left'' → HasBadLine run said (turns_in after_it) (text ++ d.done.text)
    bad_line s run from to =
        let same = turns_on segments (segment_with d.done.turns) in
        let counted = m.counted in
        let numbered : lines_so_far lines + 1 + length d.done.turns ≡ length (turns_in after_it) + 1 =
        omega (arith, counted, ap length same, length-append (turns_in segments) d.done.turns) in
        record {
          last = s.last;
          one = s.one;
          ahead = octets_ahead lines';
          all =
              sym (append-nil (text ++ d.done.text))
              ∙ sym (words_on d.done.turns s.last [] d.done.text (sym s.all ∙ sym (append-nil d.done.text)))
              ∙ ap (λ (l : List Turn). said ++ (texts_of l ++ s.last)) (sym same);
          read =
              subst (λ (x : Option (List ℕ)). GrowsByReading x run.left' [] (lines_text (turns_in after_it) ++ (s.one ++ octets_ahead lines'))) (sym from)
              (subst (λ (x : Option (List ℕ)). GrowsByReading left x [] (lines_text (turns_in after_it) ++ (s.one ++ octets_ahead lines'))) (sym to)
              (read_on (s.one ++ octets_ahead lines') s.read));
          faulty =
              subst (λ (x : Option (List ℕ)). HasNoLine (length (turns_in after_it) + 1) s.one (octets_ahead lines') x s.last) (sym to)
              (subst (λ (n : ℕ). HasNoLine n s.one (octets_ahead lines') left'' s.last) numbered s.faulty);
        }

    -- the process ends with the status of an ending, or with that of a segment that was not made
    abbrev pub EndsBy : Status → Type 0
    EndsBy status = ((l : Left) × (result ≡ Ok l) × (Some status ≡ status_after l.ending)) ⊎ (result ≡ Err status)

    abbrev ByEnding : Ending → Type 0
    ByEnding ending = (l : Left) × (result ≡ Ok l) × (l.ending ≡ ending)

    ok_by : (status : Status) → EndsBy status → status ≡ statuses.Ok → ByEnding InputEnds
    ok_by status (inl l) is = (l.0, l.1, ok_ends l.0.ending status l.2 is)
    ok_by status (inr e) is = absurd ((d.unmade status e).not_ok is)

    faulty_by : (status : Status) → EndsBy status → status ≡ statuses.BadInput → ByEnding BadInput
    faulty_by status (inl l) is = (l.0, l.1, faulty_ends l.0.ending status l.2 is)
    faulty_by status (inr e) is = absurd ((d.unmade status e).not_faulty is)

    full_by : (status : Status) → EndsBy status → status ≡ statuses.Full → (run : Run) → run.left ≡ left → run.left' ≡ left'' → HasNoRoom run found after_it
    full_by status (inl l) is run from to = no_next ((d.due l.0 l.1).crowded (full_ends l.0.ending status l.2 is)) run from to
    full_by status (inr e) is run from to = let u = (d.unmade status e).full is in no_first u.0 u.1 run

    -- how the process ends after this segment
    pub ends : (reads0 reads1 writes0 writes1 : ℕ) (status : Status) → EndsBy status
        → Life kept0 ever0 kept' ever'
        (record { left = left; left' = left''; written = written; written' = written''; reads = reads0; reads' = reads1; writes = writes0; writes' = writes1 }) status
    ends reads0 reads1 writes0 writes1 status why = record {
      found = found;
      opened = opened;
      segments = after_it;
      over = d.done.over;
      said = said;
      text = text ++ d.done.text;
      opens = m.opens;
      speaks = m.speaks;
      wrote = appends_more written written' written'' text d.done.text m.wrote d.wrote;
      any_moment = moments;
      at_the_end = λ files is. ⊎_elim (λ was. kept_without files was.0 was.1) (λ w. kept_with files w) (d.at_the_end files is);
      answers = λ is.
          let so = ok_by status why is in
          let p = d.passed so.0 so.1 (inr so.2) in
          let e = (d.due so.0 so.1).input so.2 in
          record {
            all =
                ap (λ (l : List ℕ). text ++ l) p.all
                ∙ sym (append-nil (text ++ (next.said.items ++ texts_of d.done.turns)))
                ∙ sym (words_on d.done.turns [] [] (next.said.items ++ texts_of d.done.turns) (ap (λ (l : List ℕ). next.said.items ++ l) (append-nil (texts_of d.done.turns)) ∙ sym (append-nil (next.said.items ++ texts_of d.done.turns))))
                ∙ ap (λ (l : List ℕ). said ++ l) (append-nil (texts_of (turns_in segments ++ d.done.turns)))
                ∙ ap (λ (l : List Turn). said ++ texts_of l) (sym (turns_on segments (segment_with d.done.turns)));
            read =
                subst (GrowsByReading left left'' [])
                (ap (λ (l : List ℕ). lines_text (turns_in segments) ++ (lines_text d.done.turns ++ l)) e.0
                ∙ ap (λ (l : List ℕ). lines_text (turns_in segments) ++ l) (append-nil (lines_text d.done.turns))
                ∙ sym (lines-append (turns_in segments) d.done.turns)
                ∙ ap lines_text (sym (turns_on segments (segment_with d.done.turns))))
                (reads_after left left' left'' [] (lines_text (turns_in segments)) (octets_ahead lines) (lines_text d.done.turns ++ octets_ahead lines') m.read p.read);
            ends = e.1;
          };
      faulty = λ is.
          let so = faulty_by status why is in
          bad_line ((d.due so.0 so.1).stopped so.2)
          (record { left = left; left' = left''; written = written; written' = written''; reads = reads0; reads' = reads1; writes = writes0; writes' = writes1 }) refl refl;
      full = λ is.
          full_by status why is
          (record { left = left; left' = left''; written = written; written' = written''; reads = reads0; reads' = reads1; writes = writes0; writes' = writes1 }) refl refl;
    }

    -- the process goes on in the next segment
    pub passes : (l : Left) → result ≡ Ok l → l.ending ≡ Grown
        → Made kept0 ever0 kept' ever' found opened said left left'' written written'' lines' after_it house' (text ++ d.done.text) []
    passes l is grown =
        let p = d.passed l is (inl grown) in
        record {
          opens = m.opens;
          speaks = m.speaks;
          follow = segments_on found.last new_house prior house house' segments (segment_with d.done.turns) m.follow r.starts
              (subst (λ (h : House). Dialogue Responds (lines_so_far lines + 1) house d.done.turns h) p.here d.talk);
          anew = anew_on segments (segment_with d.done.turns) m.anew r.first;
          silent = λ none. not_none segments (segment_with d.done.turns) none;
          wrote = appends_more written written' written'' text d.done.text m.wrote d.wrote;
          words =
              append-nil (text ++ d.done.text)
              ∙ ap (λ (l : List ℕ). text ++ l) p.all
              ∙ sym (append-nil (text ++ (next.said.items ++ texts_of d.done.turns)))
              ∙ sym (words_on d.done.turns [] [] (next.said.items ++ texts_of d.done.turns) (ap (λ (l : List ℕ). next.said.items ++ l) (append-nil (texts_of d.done.turns)) ∙ sym (append-nil (next.said.items ++ texts_of d.done.turns))))
              ∙ ap (λ (l : List ℕ). said ++ l) (append-nil (texts_of (turns_in segments ++ d.done.turns)))
              ∙ ap (λ (l : List Turn). said ++ texts_of l) (sym (turns_on segments (segment_with d.done.turns)));
          leaves = λ files k. all_with d.done.turns (HasBodies next.before (first_bodies next ++ bodies_of d.done.turns)) (λ c has. has) files (p.leaves files k);
          moments = λ files e. ⊎_elim (λ old. inl old)
              (λ f. inr (subst (λ (l : List (List ℕ)). HasFolderFront kept0 found l files)
              (ap (λ (o : List (List ℕ)). folder_bodies after_it ++ o) p.none_over ∙ append-nil (folder_bodies after_it)) f)) (moments files e);
          read =
              subst (GrowsByReading left left'' [])
              (sym (append_assoc (lines_text (turns_in segments)) (lines_text d.done.turns) (octets_ahead lines'))
              ∙ ap (λ (l : List ℕ). l ++ octets_ahead lines') (sym (lines-append (turns_in segments) d.done.turns) ∙ ap lines_text (sym (turns_on segments (segment_with d.done.turns)))))
              (reads_after left left' left'' [] (lines_text (turns_in segments)) (octets_ahead lines) (lines_text d.done.turns ++ octets_ahead lines') m.read p.read);
          counted =
              let so_far = m.counted in
              let more = (d.due l is).counted grown in
              let same = ap length (turns_on segments (segment_with d.done.turns)) in
              omega (arith, so_far, more, same, length-append (turns_in segments) d.done.turns);
        }

    pub gets_ready : (l : Left) → result ≡ Ok l → l.ending ≡ Grown → (next' : Next) → next'.number ≡ next.number + 1 → next'.before ≡ l.digest
        → IsSegmentRecord house' next'.first.items → next'.said.items ≡ [] → Ready kept' found lines' after_it house' house' [] next'
    gets_ready l is grown next' number digest first none =
        let p = d.passed l is (inl grown) in
        let size = length-append segments (segment_with d.done.turns ∷ []) in
        let numbered = r.number in
        record {
          begins = ProcessGoesOn;
          starts = (refl, first);
          first = λ no. not_none segments (segment_with d.done.turns) no;
          number = omega (arith, number, numbered, size);
          digest =
              digest ∙ p.digest
              ∙ ap (λ (b : List ℕ). last_digest b (head_of next.number b ∷ (next.first.items ∷ bodies_of d.done.turns))) r.digest
              ∙ ap (λ (n : ℕ). last_digest (digest_after_all (found.number + 1) found.digest segments)
              (head_of n (digest_after_all (found.number + 1) found.digest segments) ∷ (next.first.items ∷ bodies_of d.done.turns))) r.number
              ∙ sym (digests_on (found.number + 1) found.digest segments (segment_with d.done.turns ∷ []));
          says = none;
          above = λ files k. above_it files (p.leaves files k) number;
          unbroken = (d.due l is).unbroken grown;
        }
      where
        last_number : (fs : Files) (n : ℕ) (octets : List ℕ) → number_in (last_file (fs ++ record { number = n; octets = octets } ∷ [])) ≡ n
        last_number [] n octets = refl
        last_number (f ∷ []) n octets = refl
        last_number (f ∷ (g ∷ fs)) n octets = last_number (g ∷ fs) n octets

        above_it : (files : Files) → WithFile kept next.number (HasBodies next.before (first_bodies next ++ bodies_of d.done.turns)) files
            → next'.number ≡ next.number + 1 → number_in (last_file files) < next'.number
        above_it files w number =
            let same : number_in (last_file files) ≡ next.number = ap (λ (l : Files). number_in (last_file l)) w.split ∙ last_number w.front next.number w.octets in
            omega (arith, same, number)

-- ---- the start

pub starts_made : (kept ever : Files → Type 0) (found : Found) (opened : House) (said : List ℕ) (left written : Option (List ℕ)) (lines : Lines)
    → OpensFrom found.last opened → IsSaidFirst (after_start opened opened.home) said → ((files : Files) → kept files → (h : IsHouseFolder files) → EndsIn (h.gone ++ h.segments) found)
    → octets_ahead lines ≡ [] → lines_so_far lines ≡ 0 → Made kept ever kept ever found opened said left left written written lines [] new_house [] said
starts_made kept ever found opened said left written lines opens speaks after none zero = record {
  opens = opens;
  speaks = speaks;
  follow = none_to found.last new_house;
  anew = tt;
  silent = λ no. refl;
  wrote = appends_none written;
  words = sym (append-nil said);
  leaves = λ files k. record { was = files; made = []; kept = k; after = after files k; split = sym (append-nil files); are = refl };
  moments = λ files e. inl e;
  read = record { read = []; taken = consumes_self left; grown = none };
  counted = zero;
}

-- ---- what a crash leaves is the folder of a house

front_house : (kept : Files → Type 0) (found : Found) (records : List (List ℕ)) (files : Files) → LeavesHouse kept → HasFolderFront kept found records files
    → IsHouseFolder files
front_house kept found records files house f =
    let h = house f.was f.kept in
    house_on files f.was f.made f.segments found h (f.after h) f.split f.are f.follow f.begins

pub lived_house : (kept ever kept' ever' : Files → Type 0) (run : Run) (status : Status) → Lived kept ever kept' ever' run status
    → LeavesHouse kept → LeavesHouse ever → LeavesHouse kept' × LeavesHouse ever'
lived_house kept ever kept' ever' run status (inl idle) house always =
    (λ files k. house files (idle.fewer files k), λ files e. always files (idle.calm files e))
lived_house kept ever kept' ever' run status (inr life) house always = (
  λ files k. front_house kept life.found _ files house (life.at_the_end files k).front,
  λ files e. ⊎_elim (always files) (λ f. front_house kept life.found _ files house f) (life.any_moment files e),
)

-- ---- a process at work, whatever it found and made so far
pub record IsLiving (kept0 ever0 kept ever : Files → Type 0) (run : Run) (lines : Lines) (house : House) (next : Next) : Type 0 where
  pub found : Found
  pub opened : House
  pub said : List ℕ
  pub segments : List FolderSegment
  pub prior : House
  pub text : List ℕ
  pub unsaid : List ℕ
  pub made : Made kept0 ever0 kept ever found opened said run.left run.left' run.written run.written' lines segments prior text unsaid
  pub ready : Ready kept found lines segments prior house unsaid next

-- it began
pub living_first : (kept ever : Files → Type 0) (f : FolderHouse) (so : FindsSo kept f) (left written : Option (List ℕ)) (reads writes : ℕ) (lines : Lines) (house : House) (next : Next)
    → IsSaidFirst (after_start f.house f.house.home) next.said.items → IsFresh lines
    → next.number ≡ f.number + 1 → next.before ≡ f.digest → house ≡ after_start f.house f.house.home
    → IsRecord house (start_text f.house.home f.house.last) next.first.items
    → IsLiving kept ever kept ever (run_between left left written written reads reads writes writes) lines house next
living_first kept ever f so left written reads writes lines house next speaks fresh number digest is record_is =
    let found = found_of f so.file so.is in
    let at = found_number f so.file so.is in
    let in_file = number_of_found f so.file so.is in
    record {
      found = found;
      opened = f.house;
      said = next.said.items;
      segments = [];
      prior = new_house;
      text = [];
      unsaid = next.said.items;
      made =
          starts_made kept ever found f.house next.said.items left written lines (found_opens f so.file so.is) speaks
          (λ files k h. goes_from f so.file so.is files (so.always files k) h) fresh.empty fresh.number;
      ready = record {
        begins = ProcessBegins;
        starts = (f.house, found_opens f so.file so.is, is, record_is);
        first = λ no. refl;
        number = omega (arith, number, at);
        digest = digest ∙ sym (found_digest f so.file so.is);
        says = refl;
        above = λ files k. above_all files k;
        unbroken = fresh.fault;
      };
    }
  where
    above_all : (files : Files) → kept files → number_in (last_file files) < next.number
    above_all files k =
        let same : number_in (last_file files) ≡ f.number = ap number_in (so.always files k) ∙ number_of_found f so.file so.is in
        omega (arith, same, number)

module _ (kept0 ever0 kept ever kept' ever' : Files → Type 0) (left left' left'' written written' written'' : Option (List ℕ)) (reads0 reads reads' writes0 writes writes' : ℕ)
    (lines lines' : Lines) (house house' : House) (next : Next) (result : Result Left Status)
    (l : IsLiving kept0 ever0 kept ever (run_between left left' written written' reads0 reads writes0 writes) lines house next)
    (d : SegmentDone (remains kept ever) (remains kept' ever') next (passage house house' lines lines' (run_between left' left'' written' written'' reads reads' writes writes')) result) where
  abbrev whole_run : Run
  whole_run = run_between left left'' written written'' reads0 reads' writes0 writes'

  -- it ends in this segment
  pub living_ends : (status : Status) → ((x : Left) × (result ≡ Ok x) × (Some status ≡ status_after x.ending)) ⊎ (result ≡ Err status)
      → Lived kept0 ever0 kept' ever' whole_run status
  living_ends status why =
      inr (ends kept0 ever0 kept ever l.found l.opened l.said left left' written written' lines l.segments l.prior house l.text l.unsaid next l.made l.ready
      kept' ever' house' lines' left'' written'' reads reads' writes writes' result d reads0 reads' writes0 writes' status why)

  -- it goes on
  pub living_on : (x : Left) → result ≡ Ok x → x.ending ≡ Grown → (next' : Next) → next'.number ≡ next.number + 1 → next'.before ≡ x.digest
      → IsSegmentRecord house' next'.first.items → next'.said.items ≡ [] → IsLiving kept0 ever0 kept' ever' whole_run lines' house' next'
  living_on x is grown next' number digest first none = record {
    found = l.found;
    opened = l.opened;
    said = l.said;
    segments = l.segments ++ segment_with kept0 ever0 kept ever l.found l.opened l.said left left' written written' lines l.segments l.prior house l.text l.unsaid next
        l.made l.ready d.done.turns ∷ [];
    prior = house';
    text = l.text ++ d.done.text;
    unsaid = [];
    made =
        passes kept0 ever0 kept ever l.found l.opened l.said left left' written written' lines l.segments l.prior house l.text l.unsaid next l.made l.ready
        kept' ever' house' lines' left'' written'' reads reads' writes writes' result d x is grown;
    ready =
        gets_ready kept0 ever0 kept ever l.found l.opened l.said left left' written written' lines l.segments l.prior house l.text l.unsaid next l.made l.ready
        kept' ever' house' lines' left'' written'' reads reads' writes writes' result d x is grown next' number digest first none;
  }

  -- it ends after this segment, since memory ran out, or the numbers did
  pub living_stops : (x : Left) → result ≡ Ok x → x.ending ≡ Grown → (status : Status) → MayStop next.number status
      → Lived kept0 ever0 kept' ever' whole_run status
  living_stops x is grown status may =
      inr (rests kept0 ever0 kept' ever' l.found l.opened l.said whole_run lines' _ _ _ _
      (passes kept0 ever0 kept ever l.found l.opened l.said left left' written written' lines l.segments l.prior house l.text l.unsaid next l.made l.ready
      kept' ever' house' lines' left'' written'' reads reads' writes writes' result d x is grown) kept' ever' status may.not_ok may.not_faulty
      (λ full. let large = may.full full in let at = l.ready.number in omega (
        arith,
        large,
        at,
        length-append l.segments
            (segment_with kept0 ever0 kept ever l.found l.opened l.said left left' written written' lines l.segments l.prior house l.text l.unsaid next l.made l.ready d.done.turns ∷ []),
      ))
      (λ f k. k) (λ f e. e))

-- ---- errors

-- an error, and what holds of it
pub err_lived : (kept0 ever0 kept ever : Files → Type 0) (run : Run) (Q : Status → Type 0) (r : Result Status Status) → IsErrAnd r Q
    → ((s : Status) → Q s → Lived kept0 ever0 kept ever run s) → Lived kept0 ever0 kept ever run (status_of r)
err_lived kept0 ever0 kept ever run Q (Ok s) is all = absurd is
err_lived kept0 ever0 kept ever run Q (Err s) is all = all s is

-- nothing was done before it
pub idle : (kept ever kept' ever' : Files → Type 0) (run : Run) (status : Status) → IsPlain status → Appends run.written run.written' []
    → ((f : Files) → kept' f → kept f) → ((f : Files) → ever' f → ever f) → Lived kept ever kept' ever' run status
idle kept ever kept' ever' run status plain wrote fewer calm = inl record {
  wrote = wrote;
  calm = calm;
  fewer = fewer;
  not_ok = plain.not_ok;
  not_faulty = plain.not_faulty;
  full = λ is. absurd (plain.not_full is);
}

-- nothing was done, and there may be no number for a segment
pub idle_at : (kept ever : Files → Type 0) (run : Run) (f : FolderHouse) (so : FindsSo kept f) (status : Status) → MayStop f.number status
    → Appends run.written run.written' [] → Lived kept ever kept ever run status
idle_at kept ever run f so status may wrote = inl record {
  wrote = wrote;
  calm = λ files e. e;
  fewer = λ files k. k;
  not_ok = may.not_ok;
  not_faulty = may.not_faulty;
  full = λ is files k.
      let large = may.full is in
      let same : number_in (last_file files) ≡ f.number = ap number_in (so.always files k) ∙ number_of_found f so.file so.is in
      omega (arith, large, same);
}

-- a process that went on from less
pub lived_later : (kept0 ever0 kept1 ever1 kept ever : Files → Type 0) (run : Run) (status : Status) → ((f : Files) → kept1 f → kept0 f) → ((f : Files) → ever1 f → ever0 f)
    → Lived kept1 ever1 kept ever run status → Lived kept0 ever0 kept ever run status
lived_later kept0 ever0 kept1 ever1 kept ever run status fewer calm (inl idle) =
    inl record {
      wrote = idle.wrote;
      calm = λ f e. calm f (idle.calm f e);
      fewer = λ f k. fewer f (idle.fewer f k);
      not_ok = idle.not_ok;
      not_faulty = idle.not_faulty;
      full = idle.full;
    }
lived_later kept0 ever0 kept1 ever1 kept ever run status fewer calm (inr life) = inr record {
  found = life.found;
  opened = life.opened;
  segments = life.segments;
  over = life.over;
  said = life.said;
  text = life.text;
  opens = life.opens;
  speaks = life.speaks;
  wrote = life.wrote;
  any_moment = λ f e. ⊎_elim (λ was. inl (calm f was)) (λ x. inr (front_later f x)) (life.any_moment f e);
  at_the_end = λ f k.
      let x = life.at_the_end f k in
      record {
        front = record {
          was = x.front.was;
          made = x.front.made;
          segments = x.front.segments;
          more = x.front.more;
          kept = fewer x.front.was x.front.kept;
          after = x.front.after;
          split = x.front.split;
          are = x.front.are;
          follow = x.front.follow;
          begins = x.front.begins;
          records = x.front.records;
        };
        started = x.started;
        answered = x.answered;
        more = x.more;
        split = x.split;
        says = x.says;
      };
  answers = life.answers;
  faulty = life.faulty;
  full = life.full;
}
  where
    front_later : (f : Files) → HasFolderFront kept1 life.found (folder_bodies life.segments ++ life.over) f → HasFolderFront kept0 life.found (folder_bodies life.segments ++ life.over) f
    front_later f x = record {
      was = x.was;
      made = x.made;
      segments = x.segments;
      more = x.more;
      kept = fewer x.was x.kept;
      after = x.after;
      split = x.split;
      are = x.are;
      follow = x.follow;
      begins = x.begins;
      records = x.records;
    }

-- ---- the first words

-- what was said of a house is what the process says first
pub speaks_so : (h h' : House) (said next : List ℕ) → h' ≡ h → next ≡ said → IsSaidFirst h' said → IsSaidFirst h next
speaks_so h h' said next same also speaks = subst (λ (x : House). IsSaidFirst x next) same (subst (IsSaidFirst h') (sym also) speaks)

-- memory ran out, or the numbers did
pub may_stop : (number : ℕ) (e s : Status) → (e ≡ statuses.OutOfMemory) ⊎ ((e ≡ statuses.Full) × (2 ^ 64 ≤ number + 1)) → s ≡ e → MayStop number s
may_stop number e s (inl memory) same =
    let plain = memory_plain s (same ∙ memory) in
    record { not_ok = plain.not_ok; not_faulty = plain.not_faulty; full = λ is. absurd (plain.not_full is) }
may_stop number e s (inr full) same = record {
  not_ok = λ is. absurd (cc (is, same ∙ full.0));
  not_faulty = λ is. absurd (cc (is, same ∙ full.0));
  full = λ is. full.1;
}
