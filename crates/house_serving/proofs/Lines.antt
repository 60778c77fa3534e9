-- How one line ends.
use Rattle.std.proofs.Common.{◌≡◌, inl, inr, ℕ, ◌+◌, ◌^◌, ◌<◌, List, [], ◌∷◌, ◌++◌, length, take, drop, refl, sym, ◌∙◌, subst, append-nil, take-append-drop, arith}
use Rattle.std.specs.Prelude.{Option, Ok, Err}
use Rattle.std.specs.Io.KnownBytes.{Appends}
use Rattle.cds_base.specs.Counts.{Rose}
use Rattle.cds_base.proofs.KnownOctets.{appends_none}
use Rattle.house_journal.specs.declared.disk.Disk.{Ghosts}
use Rattle.house_segments.specs.Segments.{IsAt, disk_of, size_with}
use Rattle.house_segments.specs.declared.segment.Segment.{Segment}
use Rattle.house_serving.specs.Faults.{fault_line_text, too_long}
use Rattle.house_serving.specs.PrivateParts.{KeepsRecord, LineServed, StopsAtFault, line_course, line_moment}
use Rattle.house_serving.specs.Serving.{IsOver, LacksRoom, first_records, lines_done}
use Rattle.house_serving.specs.Turns.{Replying, Said, Turn, bodies_in}
use Rattle.house_serving.specs.declared.ending.Ending.{Ending}
use Rattle.house_serving.specs.declared.ending.Ending.TheVariants.{InputEnds, BadInput, ReadFault, WriteFault, OutOfMemory, Full, DiskFault, Grown}
use Rattle.house_serving.specs.declared.faults.TheConstants.{MOST_LINE}
use Rattle.house_serving.proofs.Works.{line_work, no_work, open_work}

module _ {H D : Type 0} (responds : Replying H) (g : Ghosts D) (before : List ℕ) (bodies : List (List ℕ))
    (only : (d : D) (c : List ℕ) → g.left_since d (g.moment d) c → g.may_leave d c) (number : ℕ) (line : List ℕ) (house : H) (s : Segment D)
    (at : IsAt g s before bodies) where
  -- what is at the segment, where no line is done
  here : IsAt g s before (bodies ++ [])
  here = subst (λ (l : List (List ℕ)). IsAt g s before l) (sym (append-nil bodies)) at

  -- a line that is too long
  pub cut_off : (written written' : Option (List ℕ)) (writes writes' : ℕ) (ending : Ending) → MOST_LINE < length line
      → StopsAtFault written written' writes writes' (too_long number) ending
      → LineServed responds g (first_records before bodies) (line_course number line (line_moment house s written writes) (line_moment house s written' writes')) (Err ending)
  cut_off written written' writes writes' BadInput long stops = record {
    done = lines_done [] [] (fault_line_text (too_long number)) house;
    last = record { taken = line ++ 10 ∷ []; said = fault_line_text (too_long number) };
    over_one = inl refl;
    work = no_work responds g before bodies only number house s at written written' (fault_line_text (too_long number)) stops.1;
    takes = refl;
    ends = (record { here = refl; none_over = refl; synced = here; all_written = refl }, refl, long, refl);
    cause = (stops.2, refl);
    room = λ is. absurd (cc (is));
  }
  cut_off written written' writes writes' WriteFault long stops =
      let whole = fault_line_text (too_long number) in
      record {
        done = lines_done [] [] (take stops.1.0 whole) house;
        last = record { taken = line ++ 10 ∷ []; said = whole };
        over_one = inl refl;
        work = no_work responds g before bodies only number house s at written written' (take stops.1.0 whole) stops.1.1;
        takes = refl;
        ends = ((drop stops.1.0 whole, sym (take-append-drop stops.1.0 whole)), refl, inr (refl, long, refl));
        cause = (stops.2, refl);
        room = λ is. absurd (cc (is));
      }
  cut_off written written' writes writes' OutOfMemory long stops = record {
    done = lines_done [] [] [] house;
    last = record { taken = line ++ 10 ∷ []; said = [] };
    over_one = inl refl;
    work = no_work responds g before bodies only number house s at written written' []
        (subst (λ w. Appends written w []) (sym stops.1) (appends_none written));
    takes = refl;
    ends = refl;
    cause = (stops.2, refl);
    room = λ is. absurd (cc (is));
  }
  cut_off written written' writes writes' ReadFault long stops = absurd (cc (stops.0))
  cut_off written written' writes writes' InputEnds long stops = absurd stops
  cut_off written written' writes writes' Full long stops = absurd stops
  cut_off written written' writes writes' DiskFault long stops = absurd stops
  cut_off written written' writes writes' Grown long stops = absurd stops

  -- a line of which no reply was made
  pub line_unmade : (house' : H) (written : Option (List ℕ)) (writes : ℕ)
      → LineServed responds g (first_records before bodies) (line_course number line (line_moment house s written writes) (line_moment house' s written writes)) (Err OutOfMemory)
  line_unmade house' written writes = record {
    done = lines_done [] [] [] house;
    last = record { taken = line ++ 10 ∷ []; said = [] };
    over_one = inl refl;
    work = no_work responds g before bodies only number house s at written written [] (appends_none written);
    takes = refl;
    ends = refl;
    cause = (refl, refl);
    room = λ is. absurd (cc (is));
  }

  -- the reply to a line was made, whose record is over
  line_over : (house' : H) (said : Said) → responds house number line said house'
      → IsOver responds (number + 0) house (bodies_in said.body)
  line_over house' said does =
      let same : number ≡ number + 0 = omega arith in
      subst (λ (n : ℕ). IsOver responds n house (bodies_in said.body)) same
      (inr (record { line = line; said = said; next = house'; does = does; bodies = refl }))

  -- it has no room
  kept_room : (house' : H) (s' : Segment D) (said : Said) → responds house number line said house' → KeepsRecord g (first_records before bodies) s s' said.body (Err Full)
      → LacksRoom responds (number + 0) house (bodies_in said.body) (line ++ 10 ∷ []) (bodies ++ [])
  kept_room house' s' said does keeps =
      let same : number ≡ number + 0 = omega arith in
      subst (λ (n : ℕ). LacksRoom responds n house (bodies_in said.body) (line ++ 10 ∷ []) (bodies ++ [])) same
      record {
        next = record { line = line; said = said; next = house'; does = does; bodies = refl };
        line = refl;
        large =
            subst (λ (l : List (List ℕ)). 2 ^ 40 < size_with (l ++ bodies_in said.body)) (sym (append-nil bodies)) (keeps.full refl).1;
      }

  -- a line whose record was not put, or may have been
  pub line_kept_open : (house' : H) (s' : Segment D) (said : Said) (ending : Ending) (written : Option (List ℕ)) (writes : ℕ)
      → responds house number line said house' → KeepsRecord g (first_records before bodies) s s' said.body (Err ending)
      → LineServed responds g (first_records before bodies) (line_course number line (line_moment house s written writes) (line_moment house' s' written writes)) (Err ending)
  line_kept_open house' s' said OutOfMemory written writes does keeps = record {
    done = lines_done [] (bodies_in said.body) [] house;
    last = record { taken = line ++ 10 ∷ []; said = [] };
    over_one = line_over house' said does;
    work = open_work responds g before bodies number house (disk_of s) (disk_of s') (bodies_in said.body) keeps.crash keeps.left written;
    takes = refl;
    ends = refl;
    cause = (refl, keeps.cause);
    room = λ is. absurd (cc (is));
  }
  line_kept_open house' s' said DiskFault written writes does keeps = record {
    done = lines_done [] (bodies_in said.body) [] house;
    last = record { taken = line ++ 10 ∷ []; said = [] };
    over_one = line_over house' said does;
    work = open_work responds g before bodies number house (disk_of s) (disk_of s') (bodies_in said.body) keeps.crash keeps.left written;
    takes = refl;
    ends = refl;
    cause = (refl, keeps.cause);
    room = λ is. absurd (cc (is));
  }
  line_kept_open house' s' said Full written writes does keeps = record {
    done = lines_done [] (bodies_in said.body) [] house;
    last = record { taken = line ++ 10 ∷ []; said = [] };
    over_one = line_over house' said does;
    work = open_work responds g before bodies number house (disk_of s) (disk_of s') (bodies_in said.body) keeps.crash keeps.left written;
    takes = refl;
    ends = (refl, subst (λ (t : Segment D). IsAt g t before (bodies ++ [])) (sym (keeps.full refl).0) here);
    cause = (refl, keeps.cause);
    room = λ is. kept_room house' s' said does keeps;
  }
  line_kept_open house' s' said InputEnds written writes does keeps = absurd keeps.cause
  line_kept_open house' s' said BadInput written writes does keeps = absurd keeps.cause
  line_kept_open house' s' said ReadFault written writes does keeps = absurd keeps.cause
  line_kept_open house' s' said WriteFault written writes does keeps = absurd keeps.cause
  line_kept_open house' s' said Grown written writes does keeps = absurd keeps.cause

  -- a line that was done and answered
  pub line_answered : (house' : H) (s' : Segment D) (said : Said) → responds house number line said house' → KeepsRecord g (first_records before bodies) s s' said.body (Ok tt)
      → (written written' : Option (List ℕ)) (writes writes' : ℕ) → Appends written written' said.text → writes' ≡ writes
      → LineServed responds g (first_records before bodies) (line_course number line (line_moment house s written writes) (line_moment house' s' written' writes')) (Ok tt)
  line_answered house' s' said does keeps written written' writes writes' wrote calm =
      let t : Turn = record { line = line; said = said } in
      record {
        done = lines_done (t ∷ []) [] said.text house';
        last = record { taken = []; said = [] };
        over_one = inl refl;
        work = line_work responds g before bodies number house house' t does (disk_of s) s' keeps.crash keeps.ok written written' said.text wrote;
        takes = append-nil ((line ++ 10 ∷ []) ++ []) ∙ append-nil (line ++ 10 ∷ []);
        ends = (
          record {
            here = refl;
            none_over = refl;
            synced = subst (λ (l : List (List ℕ)). IsAt g s' before (bodies ++ l)) (sym (append-nil (bodies_in said.body))) keeps.ok;
            all_written = sym (append-nil (said.text ++ []) ∙ append-nil said.text);
          },
          refl,
          refl,
          refl,
        );
        cause = (calm, keeps.cause);
        room = λ is. absurd (cc (is));
      }

  -- a line that was done, of whose answer a part was written
  pub line_written : (house' : H) (s' : Segment D) (said : Said) → responds house number line said house' → KeepsRecord g (first_records before bodies) s s' said.body (Ok tt)
      → (written written' : Option (List ℕ)) (writes writes' k : ℕ) → Appends written written' (take k said.text) → Rose writes writes'
      → LineServed responds g (first_records before bodies) (line_course number line (line_moment house s written writes) (line_moment house' s' written' writes')) (Err WriteFault)
  line_written house' s' said does keeps written written' writes writes' k wrote rose =
      let t : Turn = record { line = line; said = said } in
      record {
        done = lines_done (t ∷ []) [] (take k said.text) house';
        last = record { taken = []; said = [] };
        over_one = inl refl;
        work = line_work responds g before bodies number house house' t does (disk_of s) s' keeps.crash keeps.ok written written' (take k said.text) wrote;
        takes = append-nil ((line ++ 10 ∷ []) ++ []) ∙ append-nil (line ++ 10 ∷ []);
        ends = ((drop k said.text, append-nil (said.text ++ []) ∙ append-nil said.text ∙ sym (take-append-drop k said.text)), refl, inl refl);
        cause = (rose, keeps.cause);
        room = λ is. absurd (cc (is));
      }
