-- A run between two lines, and how it ends.
use Rattle.std.proofs.Common.{◌≡◌, ◌≢◌, inl, inr, ⊎_elim, ℕ, ◌<◌, ◌+◌, List, [], ◌∷◌, ◌++◌, length, refl, sym, ◌∙◌, ap, subst, take, drop, take-append-drop, append_assoc, append-nil, length-append, arith}
use Rattle.std.specs.Prelude.{Option, Some, None, Result, Ok, Err}
use Rattle.cds_base.specs.Counts.{Rose}
use Rattle.cds_base.specs.Lines.{lines_so_far, octets_ahead, fault_of_lines, HasFault, HasLineCause, IsNext}
use Rattle.cds_base.specs.LineFaults.{IsLine}
use Rattle.cds_base.specs.SourceReading.{GrowsByReading}
use Rattle.cds_base.specs.declared.lines.Lines.{Lines}
use Rattle.cds_base.specs.declared.scan.LineFault.{LineFault}
use Rattle.cds_base.specs.declared.scan.LineFault.TheVariants as fault
use Rattle.cds_base.proofs.KnownOctets.{appends_none, consumes_more, consumes_self}
use Rattle.house_journal.specs.declared.disk.Disk.{Ghosts}
use Rattle.house_segments.specs.Segments.{IsAt, disk_of}
use Rattle.house_segments.specs.declared.segment.Segment.{Segment}
use Rattle.house_serving.specs.Ending.{HasEndingCause, failures}
use Rattle.house_serving.specs.Ending as one_line
use Rattle.house_serving.specs.Faults.{fault_line_text, fault_of_house, too_long}
use Rattle.house_serving.specs.PrivateParts.{LineCourse, LineEndsSo, LineServed, StopsAtFault, line_course, line_moment}
use Rattle.cds_base.specs.RunEnds.{Run}
use Rattle.house_serving.specs.Serving.{Course, EndsSo, HasAfter, HasNoLine, IsOver, IsAllSaid, LacksRoom, Records, Served, Work, course, deed, deed_of, first_records, lines_done, moment}
use Rattle.house_serving.specs.declared.faults.TheConstants.{MOST_LINE}
use Rattle.house_serving.specs.Turns.{Replying, Turn, bodies_of, lines_text, texts_of}
use Rattle.house_serving.specs.declared.ending.Ending.{Ending}
use Rattle.house_serving.specs.declared.ending.Ending.TheVariants.{InputEnds, BadInput, ReadFault, WriteFault, OutOfMemory, Full, DiskFault, Grown}
use Rattle.house_serving.proofs.Works.{bodies-append, lines-append, no_work, said_more, texts-append, work_so, works_on}

-- octets come after others that were read
pub reads_after : (a b c : Option (List ℕ)) (first front held held' : List ℕ) → GrowsByReading a b first (front ++ held) → GrowsByReading b c held held'
    → GrowsByReading a c first (front ++ held')
reads_after a b c first front held held' so_far more = record {
  read = so_far.read ++ more.read;
  taken = consumes_more a b c so_far.read more.read so_far.taken more.taken;
  grown = ap (λ (l : List ℕ). front ++ l) more.grown ∙ sym (append_assoc front held more.read) ∙ ap (λ (l : List ℕ). l ++ more.read) so_far.grown
      ∙ append_assoc first so_far.read more.read;
}

-- between two lines: all lines so far were done, and nothing of them is open
pub record IsBetween {H D : Type 0} (responds : Replying H) (g : Ghosts D) (first : Records) (way : Course H D) : Type 0 where
  pub turns : List Turn
  pub work : Work responds g first (lines_so_far way.from.lines + 1) (deed_of way) (lines_done turns [] (texts_of turns) way.to.house)
  pub read : GrowsByReading way.run.left way.run.left' (octets_ahead way.from.lines) (lines_text turns ++ octets_ahead way.to.lines)
  pub synced : HasAfter g way.to.segment first (bodies_of turns)
  pub number : lines_so_far way.to.lines ≡ lines_so_far way.from.lines + length turns
  pub reads : way.run.reads' ≡ way.run.reads
  pub writes : way.run.writes' ≡ way.run.writes
  pub disks : g.faults (disk_of way.to.segment) ≡ g.faults (disk_of way.from.segment)

-- a run by its values
abbrev pub run_between : (left left' written written' : Option (List ℕ)) → (reads reads' writes writes' : ℕ) → Run
run_between left left' written written' reads reads' writes writes' =
    record {
      left = left;
      left' = left';
      written = written;
      written' = written';
      reads = reads;
      reads' = reads';
      writes = writes;
      writes' = writes';
    }

-- four lists, two and two
regroup : (a b c d : List ℕ) → a ++ ((b ++ c) ++ d) ≡ (a ++ b) ++ (c ++ d)
regroup a b c d = simp append_assoc

-- the count of failures stays if no read failed
no_rise : (before now : ℕ) (f : LineFault) → f ≢ fault.ReadFault
    → (let failed : Result (Option (ℕ × List ℕ)) LineFault = Err f in HasLineCause before now failed) → now ≡ before
no_rise before now (fault.LineTooLong n k) other cause = cause
no_rise before now (fault.NotAscii n k) other cause = cause
no_rise before now (fault.NoLineEnd n k) other cause = cause
no_rise before now (fault.TooManyLines n k) other cause = cause
no_rise before now fault.ReadFault other cause = absurd (other refl)

module _ {H D : Type 0} (responds : Replying H) (g : Ghosts D) (before : List ℕ) (bodies : List (List ℕ))
    (only : (d : D) (c : List ℕ) → g.left_since d (g.moment d) c → g.may_leave d c) (house : H) (segment : Segment D) (lines : Lines) where
  -- nothing was done yet
  pub begins_between : (left written : Option (List ℕ)) (reads writes : ℕ) → IsAt g segment before bodies
      → IsBetween responds g (first_records before bodies) (course (moment house segment lines) (moment house segment lines) (run_between left left written written reads reads writes writes))
  begins_between left written reads writes at = record {
    turns = [];
    work = no_work responds g before bodies only (lines_so_far lines + 1) house segment at written written [] (appends_none written);
    read = record { read = []; taken = consumes_self left; grown = sym (append-nil (octets_ahead lines)) };
    synced = subst (λ (l : List (List ℕ)). IsAt g segment before l) (sym (append-nil bodies)) at;
    number = omega arith;
    reads = refl;
    writes = refl;
    disks = refl;
  }

  module _ (house1 : H) (segment1 : Segment D) (lines1 : Lines) (left left1 written written1 : Option (List ℕ)) (reads reads1 writes writes1 : ℕ)
      (b : IsBetween responds g (first_records before bodies) (course (moment house segment lines) (moment house1 segment1 lines1) (run_between left left1 written written1 reads reads1 writes writes1))) where
    -- the segment has grown
    pub grown : fault_of_lines lines1 ≡ None
        → Served responds g (first_records before bodies) (course (moment house segment lines) (moment house1 segment1 lines1) (run_between left left1 written written1 reads reads1 writes writes1)) Grown
    grown unbroken = record {
      done = lines_done b.turns [] (texts_of b.turns) house1;
      last = record { taken = []; said = [] };
      over_one = inl refl;
      work = b.work;
      read = b.read;
      ends = (record { here = refl; none_over = refl; synced = b.synced; all_written = sym (append-nil (texts_of b.turns)) }, refl, refl, unbroken);
      room = λ is. absurd (cc (is));
      counted = λ is. b.number;
      cause = (b.reads, b.writes, b.disks);
    }

    module _ (lines2 : Lines) (left2 : Option (List ℕ)) (reads2 : ℕ) where
      -- the input ended
      pub input_ends : IsNext left1 left2 lines1 lines2 (Ok None) → reads2 ≡ reads1
          → Served responds g (first_records before bodies) (course (moment house segment lines) (moment house1 segment1 lines2) (run_between left left2 written written1 reads reads2 writes writes1)) InputEnds
      input_ends next calm = record {
        done = lines_done b.turns [] (texts_of b.turns) house1;
        last = record { taken = []; said = [] };
        over_one = inl refl;
        work = b.work;
        read = reads_after left left1 left2 (octets_ahead lines) (lines_text b.turns) (octets_ahead lines1) (octets_ahead lines2) b.read next.answer.0;
        ends = (
          record { here = refl; none_over = refl; synced = b.synced; all_written = sym (append-nil (texts_of b.turns)) },
          refl,
          refl,
          next.answer.1,
          next.answer.2,
        );
        room = λ is. absurd (cc (is));
        counted = λ is. absurd (cc (is));
        cause = (calm ∙ b.reads, b.writes, b.disks);
      }

      -- a fault of lines
      module _ (f : LineFault) (next : IsNext left1 left2 lines1 lines2 (Err f)) (written2 : Option (List ℕ)) (writes2 : ℕ) where
        abbrev run2 : Run
        run2 = run_between left left2 written written2 reads reads2 writes writes2

        all_read : GrowsByReading left left2 (octets_ahead lines) (lines_text b.turns ++ octets_ahead lines2)
        all_read = reads_after left left1 left2 (octets_ahead lines) (lines_text b.turns) (octets_ahead lines1) (octets_ahead lines2) b.read next.answer.0

        faulty : HasFault (lines_so_far lines + length b.turns + 1) (octets_ahead lines2) left2 f
        faulty = subst (λ (n : ℕ). HasFault (n + 1) (octets_ahead lines2) left2 f) b.number next.answer.1

        pub stops_at : (result : Ending) → StopsAtFault written1 written2 writes1 writes2 f result
            → (let failed : Result (Option (ℕ × List ℕ)) LineFault = Err f in HasLineCause reads1 reads2 failed)
            → Served responds g (first_records before bodies) (course (moment house segment lines) (moment house1 segment1 lines2) run2) result
        stops_at ReadFault stops cause =
            let failed : Result (Option (ℕ × List ℕ)) LineFault = Err fault.ReadFault in
            let rose : HasLineCause reads1 reads2 failed = rw stops.0 at cause in
            record {
              done = lines_done b.turns [] (texts_of b.turns) house1;
              last = record { taken = []; said = [] };
              over_one = inl refl;
              work = subst (λ w. Work responds g (first_records before bodies) (lines_so_far lines + 1) (deed house (disk_of segment) (disk_of segment1) written w) (lines_done b.turns [] (texts_of b.turns) house1))
                  (sym stops.1) b.work;
              read = all_read;
              ends = (record { here = refl; none_over = refl; synced = b.synced; all_written = sym (append-nil (texts_of b.turns)) }, refl, refl);
              room = λ is. absurd (cc (is));
              counted = λ is. absurd (cc (is));
              cause = (subst (λ (n : ℕ). Rose n reads2) b.reads rose.1, stops.2 ∙ b.writes, b.disks);
            }
        stops_at BadInput stops cause =
            let line = fault_line_text (fault_of_house f) in
            record {
              done = lines_done b.turns [] (texts_of b.turns ++ line) house1;
              last = record { taken = []; said = line };
              over_one = inl refl;
              work = said_more responds g before bodies (lines_so_far lines + 1) house house1 (disk_of segment) (disk_of segment1) written written1 written2 b.turns []
                  (texts_of b.turns) line b.work stops.1;
              read = all_read;
              ends = (
                record { here = refl; none_over = refl; synced = b.synced; all_written = refl },
                inl (f, faulty, refl, refl),
              );
              room = λ is. absurd (cc (is));
              counted = λ is. absurd (cc (is));
              cause = (no_rise reads1 reads2 f stops.0 cause ∙ b.reads, stops.2 ∙ b.writes, b.disks);
            }
        stops_at WriteFault stops cause =
            let line = fault_line_text (fault_of_house f) in
            let part = take stops.1.0 line in
            record {
              done = lines_done b.turns [] (texts_of b.turns ++ part) house1;
              last = record { taken = []; said = line };
              over_one = inl refl;
              work = said_more responds g before bodies (lines_so_far lines + 1) house house1 (disk_of segment) (disk_of segment1) written written1 written2 b.turns []
                  (texts_of b.turns) part b.work stops.1.1;
              read = all_read;
              ends = (
                (
                  drop stops.1.0 line,
                  ap (λ (l : List ℕ). texts_of b.turns ++ l) (sym (take-append-drop stops.1.0 line)) ∙ sym (append_assoc (texts_of b.turns) part (drop stops.1.0 line)),
                ),
                refl,
                inr (inl (f, faulty, refl, refl)),
              );
              room = λ is. absurd (cc (is));
              counted = λ is. absurd (cc (is));
              cause = (no_rise reads1 reads2 f stops.0 cause ∙ b.reads, subst (λ (n : ℕ). Rose n writes2) b.writes stops.2, b.disks);
            }
        stops_at OutOfMemory stops cause = record {
          done = lines_done b.turns [] (texts_of b.turns) house1;
          last = record { taken = []; said = [] };
          over_one = inl refl;
          work = subst (λ w. Work responds g (first_records before bodies) (lines_so_far lines + 1) (deed house (disk_of segment) (disk_of segment1) written w) (lines_done b.turns [] (texts_of b.turns) house1))
              (sym stops.1) b.work;
          read = all_read;
          ends = refl;
          room = λ is. absurd (cc (is));
          counted = λ is. absurd (cc (is));
          cause = (no_rise reads1 reads2 f stops.0 cause ∙ b.reads, stops.2 ∙ b.writes, b.disks);
        }
        stops_at InputEnds stops cause = absurd stops
        stops_at Full stops cause = absurd stops
        stops_at DiskFault stops cause = absurd stops
        stops_at Grown stops cause = absurd stops

      -- a line
      module _ (number : ℕ) (line : List ℕ) (next : IsNext left1 left2 lines1 lines2 (Ok (Some (number, line)))) (calm : reads2 ≡ reads1) (house2 : H)
          (segment2 : Segment D) (written2 : Option (List ℕ)) (writes2 : ℕ) (result : Result (Unit {0}) Ending)
          (served : LineServed responds g (first_records before (bodies ++ bodies_of b.turns)) (line_course number line (line_moment house1 segment1 written1 writes1) (line_moment house2 segment2 written2 writes2)) result)
        where
          abbrev way1 : LineCourse H D
          way1 = line_course number line (line_moment house1 segment1 written1 writes1) (line_moment house2 segment2 written2 writes2)

          abbrev turns : List Turn
          turns = b.turns ++ served.done.turns

          works : Work responds g (first_records before bodies) (lines_so_far lines + 1) (deed house (disk_of segment) (disk_of segment2) written written2) (lines_done turns served.done.over (texts_of b.turns ++ served.done.text) served.done.at)
          works =
              let first = next.answer.0 in
              let same = b.number in
              let numbered : number ≡ lines_so_far lines + 1 + length b.turns = omega (arith, first, same) in
              works_on responds g before bodies (lines_so_far lines + 1) house house1 (disk_of segment) (disk_of segment1) (disk_of segment2) written written1 written2
              b.turns (texts_of b.turns) served.done b.work
              (subst (λ (n : ℕ). Work responds g (first_records before (bodies ++ bodies_of b.turns)) n
              (deed house1 (disk_of segment1) (disk_of segment2) written1 written2) served.done) numbered served.work)

          line_read : GrowsByReading left left2 (octets_ahead lines) (lines_text turns ++ (served.last.taken ++ octets_ahead lines2))
          line_read =
              subst (λ (l : List ℕ). GrowsByReading left left2 (octets_ahead lines) l)
              (ap (λ (l : List ℕ). lines_text b.turns ++ (l ++ octets_ahead lines2)) (sym served.takes)
              ∙ regroup (lines_text b.turns) (lines_text served.done.turns) served.last.taken (octets_ahead lines2)
              ∙ ap (λ (l : List ℕ). l ++ (served.last.taken ++ octets_ahead lines2)) (sym (lines-append b.turns served.done.turns)))
              (reads_after left left1 left2 (octets_ahead lines) (lines_text b.turns) (octets_ahead lines1) ((line ++ 10 ∷ []) ++ octets_ahead lines2) b.read next.answer.2)

          all_synced : IsAt g segment2 before ((bodies ++ bodies_of b.turns) ++ bodies_of served.done.turns) → IsAt g segment2 before (bodies ++ bodies_of turns)
          all_synced at =
              subst (λ (l : List (List ℕ)). IsAt g segment2 before l)
              (append_assoc bodies (bodies_of b.turns) (bodies_of served.done.turns) ∙ ap (λ (l : List (List ℕ)). bodies ++ l) (sym (bodies-append b.turns served.done.turns)))
              at

          all_texts : (last text : List ℕ) → text ≡ texts_of served.done.turns ++ last → texts_of b.turns ++ text ≡ texts_of turns ++ last
          all_texts last text is =
              ap (λ (l : List ℕ). texts_of b.turns ++ l) is ∙ sym (append_assoc (texts_of b.turns) (texts_of served.done.turns) last)
              ∙ ap (λ (l : List ℕ). l ++ last) (sym (texts-append b.turns served.done.turns))

          whole_texts : (text : List ℕ) → text ≡ texts_of served.done.turns → texts_of b.turns ++ text ≡ texts_of turns
          whole_texts text is = ap (λ (l : List ℕ). texts_of b.turns ++ l) is ∙ sym (texts-append b.turns served.done.turns)

          settles : IsAllSaid g (first_records before (bodies ++ bodies_of b.turns)) house2 segment2 served.done served.last.said
              → IsAllSaid g (first_records before bodies) house2 segment2 (lines_done turns served.done.over (texts_of b.turns ++ served.done.text) served.done.at) served.last.said
          settles settled = record {
            here = settled.here;
            none_over = settled.none_over;
            synced = all_synced settled.synced;
            all_written = all_texts served.last.said served.done.text settled.all_written;
          }

          -- it was done and answered
          pub goes_on : result ≡ Ok tt
              → IsBetween responds g (first_records before bodies) (course (moment house segment lines) (moment house2 segment2 lines2) (run_between left left2 written written2 reads reads2 writes writes2))
          goes_on is =
              let ends = subst (λ (r : Result (Unit {0}) Ending). LineEndsSo g (first_records before (bodies ++ bodies_of b.turns)) way1 served.done served.last r) is served.ends in
              let cause = subst (λ (r : Result (Unit {0}) Ending). one_line.HasAnswerCause writes1 writes2 (g.faults (disk_of segment1)) (g.faults (disk_of segment2)) r) is served.cause in
              let settled = settles ends.0 in
              let one_more = ends.3 in
              let first = b.number in
              let more = next.number in
              record {
                turns = turns;
                work = work_so responds g before bodies (lines_so_far lines + 1) house served.done.at house2 (disk_of segment) (disk_of segment2) written written2 turns served.done.over []
                    (texts_of b.turns ++ served.done.text) (texts_of turns) works settled.none_over
                    (settled.all_written ∙ ap (λ (l : List ℕ). texts_of turns ++ l) ends.1 ∙ append-nil (texts_of turns)) settled.here;
                read = subst (λ (l : List ℕ). GrowsByReading left left2 (octets_ahead lines) (lines_text turns ++ (l ++ octets_ahead lines2))) ends.2 line_read;
                synced = settled.synced;
                number = omega (arith, first, more, one_more, length-append b.turns served.done.turns);
                reads = calm ∙ b.reads;
                writes = cause.0 ∙ b.writes;
                disks = cause.1 ∙ b.disks;
              }

          -- what a line's ending says is what the run's says
          abbrev run3 : Run
          run3 = run_between left left2 written written2 reads reads2 writes writes2

          -- the record that is over is that of the line after all of them
          over_next : IsOver responds (lines_so_far lines + length turns + 1) served.done.at served.done.over
          over_next =
              let first = next.answer.0 in
              let same = b.number in
              let numbered : number + length served.done.turns ≡ lines_so_far lines + length turns + 1 =
              omega (arith, first, same, length-append b.turns served.done.turns) in
              subst (λ (n : ℕ). IsOver responds n served.done.at served.done.over) numbered served.over_one

          served_by : (ending : Ending)
              → EndsSo g (first_records before bodies) (course (moment house segment lines) (moment house2 segment2 lines2) run3) (lines_done turns served.done.over (texts_of b.turns ++ served.done.text) served.done.at) served.last ending
              → HasEndingCause (failures reads writes (g.faults (disk_of segment))) (failures reads2 writes2 (g.faults (disk_of segment2))) ending
              → (ending ≡ Full → LacksRoom responds (lines_so_far lines + length turns + 1) served.done.at served.done.over served.last.taken (bodies ++ bodies_of turns))
              → (ending ≡ Grown → lines_so_far lines2 ≡ lines_so_far lines + length turns)
              → Served responds g (first_records before bodies) (course (moment house segment lines) (moment house2 segment2 lines2) run3) ending
          served_by ending ends cause room counted = record {
            done = lines_done turns served.done.over (texts_of b.turns ++ served.done.text) served.done.at;
            last = served.last;
            over_one = over_next;
            work = works;
            read = line_read;
            ends = ends;
            room = room;
            counted = counted;
            cause = cause;
          }

          abbrev Ends : Ending → Type 0
          Ends e = LineEndsSo g (first_records before (bodies ++ bodies_of b.turns)) way1 served.done served.last (Err e)

          abbrev Cause : Ending → Type 0
          Cause e = one_line.HasAnswerCause writes1 writes2 (g.faults (disk_of segment1)) (g.faults (disk_of segment2)) (Err e)

          -- a line that is too long
          line_faulty : served.done.turns ≡ [] → MOST_LINE < length line → served.last.said ≡ fault_line_text (too_long number)
              → HasNoLine (lines_so_far lines + length turns + 1) served.last.taken (octets_ahead lines2) left2 served.last.said
          line_faulty none long says =
              let first = next.answer.0 in
              let same = b.number in
              let size = ap length none in
              let numbered : number ≡ lines_so_far lines + length turns + 1 = omega (arith, first, same, size, length-append b.turns served.done.turns) in
              let alone : served.last.taken ≡ line ++ 10 ∷ [] = ap (λ (ts : List Turn). lines_text ts ++ served.last.taken) (sym none) ∙ served.takes in
              inr (
                line,
                subst (λ (n : ℕ). IsLine n line) numbered (subst (λ (n : ℕ). IsLine n line) (sym first) next.answer.1),
                long,
                alone,
                subst (λ (n : ℕ). served.last.said ≡ fault_line_text (too_long n)) numbered says,
              )

          -- the record of the line has no room after all of them
          no_room : LacksRoom responds (number + length served.done.turns) served.done.at served.done.over served.last.taken ((bodies ++ bodies_of b.turns) ++ bodies_of served.done.turns)
              → LacksRoom responds (lines_so_far lines + length turns + 1) served.done.at served.done.over served.last.taken (bodies ++ bodies_of turns)
          no_room lacks =
              let first = next.answer.0 in
              let same = b.number in
              let numbered : number + length served.done.turns ≡ lines_so_far lines + length turns + 1 =
              omega (arith, first, same, length-append b.turns served.done.turns) in
              subst (λ (l : List (List ℕ)). LacksRoom responds (lines_so_far lines + length turns + 1) served.done.at served.done.over served.last.taken l)
              (append_assoc bodies (bodies_of b.turns) (bodies_of served.done.turns) ∙ ap (λ (l : List (List ℕ)). bodies ++ l) (sym (bodies-append b.turns served.done.turns)))
              (subst (λ (n : ℕ). LacksRoom responds n served.done.at served.done.over served.last.taken ((bodies ++ bodies_of b.turns) ++ bodies_of served.done.turns)) numbered lacks)

          abbrev Room : Ending → Type 0
          Room e = e ≡ Full → LacksRoom responds (number + length served.done.turns) served.done.at served.done.over served.last.taken ((bodies ++ bodies_of b.turns) ++ bodies_of served.done.turns)

          ends_by : (ending : Ending) → Ends ending → Cause ending → Room ending → Served responds g (first_records before bodies) (course (moment house segment lines) (moment house2 segment2 lines2) run3) ending
          ends_by BadInput ends cause room =
              served_by BadInput (settles ends.0, line_faulty ends.1 ends.2 ends.3) (calm ∙ b.reads, cause.0 ∙ b.writes, cause.1 ∙ b.disks) (λ is. absurd (cc (is))) (λ is. absurd (cc (is)))
          ends_by WriteFault ends cause room = served_by WriteFault (
            (
              ends.0.0,
              ap (λ (l : List ℕ). l ++ served.last.said) (texts-append b.turns served.done.turns) ∙ append_assoc (texts_of b.turns) (texts_of served.done.turns) served.last.said
                  ∙ ap (λ (l : List ℕ). texts_of b.turns ++ l) ends.0.1 ∙ sym (append_assoc (texts_of b.turns) served.done.text ends.0.0),
            ),
            ends.1,
            ⊎_elim (λ none. inl none) (λ long. inr (line_faulty long.0 long.1 long.2)) ends.2,
          )
              (calm ∙ b.reads, subst (λ (n : ℕ). Rose n writes2) b.writes cause.0, cause.1 ∙ b.disks) (λ is. absurd (cc (is))) (λ is. absurd (cc (is)))
          ends_by OutOfMemory ends cause room = served_by OutOfMemory (whole_texts served.done.text ends) (calm ∙ b.reads, cause.0 ∙ b.writes, cause.1 ∙ b.disks) (λ is. absurd (cc (is))) (λ is. absurd (cc (is)))
          ends_by Full ends cause room =
              served_by Full (whole_texts served.done.text ends.0, all_synced ends.1) (calm ∙ b.reads, cause.0 ∙ b.writes, cause.1 ∙ b.disks)
              (λ is. no_room (room refl)) (λ is. absurd (cc (is)))
          ends_by DiskFault ends cause room =
              served_by DiskFault (whole_texts served.done.text ends)
              (calm ∙ b.reads, cause.0 ∙ b.writes, subst (λ (n : ℕ). Rose n (g.faults (disk_of segment2))) b.disks cause.1) (λ is. absurd (cc (is))) (λ is. absurd (cc (is)))
          ends_by InputEnds ends cause room = absurd ends
          ends_by ReadFault ends cause room = absurd ends
          ends_by Grown ends cause room = absurd ends

          -- it ended the run
          pub line_ends : (ending : Ending) → result ≡ Err ending
              → Served responds g (first_records before bodies) (course (moment house segment lines) (moment house2 segment2 lines2) run3) ending
          line_ends ending is =
              ends_by ending
              (subst (λ (r : Result (Unit {0}) Ending). LineEndsSo g (first_records before (bodies ++ bodies_of b.turns)) way1 served.done served.last r) is served.ends)
              (subst (λ (r : Result (Unit {0}) Ending). one_line.HasAnswerCause writes1 writes2 (g.faults (disk_of segment1)) (g.faults (disk_of segment2)) r) is served.cause)
              (λ full. served.room (is ∙ ap Err full))
