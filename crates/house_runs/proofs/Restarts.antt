-- A house resumes with the first record of the last segment of its folder, and is lawful there and
-- after each record that it does again.
use Rattle.std.proofs.Common.{◌≡◌, ℕ, ◌+◌, List, [], ◌∷◌, ◌++◌, refl, sym, ap, subst, ◌∙◌}
use Rattle.std.specs.Prelude.{Option, Some, None, codes}
use Rattle.cds_records.specs.RecordOctets.{image_octets}
use Rattle.clearinghouse.specs.HouseImages.{house_after_restart, image_of, skulks_of, with_skulks}
use Rattle.clearinghouse.specs.declared.house.Clearinghouse.{Clearinghouse}
use Rattle.clearinghouse.proofs.Restarting.{restarted_lawful}
use Rattle.clearinghouse.proofs.Starting.{image_starts}
use Rattle.house_entries.specs.Bodies.{IsBody}
use Rattle.house_entries.proofs.BodyLemmas.{one_record}
use Rattle.house_serving.specs.Turns.{Dialogue, Said, Turn, bodies_of}
use Rattle.house_turns.specs.declared.house.House.{House}
use Rattle.house_turns.specs.HouseReplies.{Responds, new_clearinghouse}
use Rattle.house_turns.specs.Openings as opening
use Rattle.house_turns.specs.Openings.{Began, EndsLife, HasTurn, IsSegmentRecord, IsTurnText, MayEnd, NoneMade, OpensBy, RedoneBy, Restarts, Resumes, WentOn, after_start, new_house, segment_text, start_text}
use Rattle.house_turns.specs.Records.{HomeFits, IsRecord, image_in}
use Rattle.house_turns.specs.RunningSkulks.{SkulksFit, running_lines}
use Rattle.house_turns.proofs.LastTurns.{has_turn, turn_after}
use Rattle.house_turns.proofs.Resumptions.{turn_is_no_skulk}
use Rattle.house_runs.specs.Folders.{AreSegments, Beginning, BeginsWith, FolderSegment, IsFolder, OpensFrom, ProcessBegins, ProcessGoesOn, last_bodies, segment_bodies}
use Rattle.house_runs.proofs.Lines.{LineDone, NoTurn, OneTurn, Runs, line_done, runs_on}
use Rattle.house_runs.proofs.Segments.{AtSegment, AtStart, BeganAs, first_of_split, made_turn, no_turn_yet, others_of_split, restart_twice, restarted, resumed, start_home, start_last, unspent}
use Rattle.house_runs.proofs.Waits.{LineWaits, MadeNow, NotMade, line_waits}

-- there is no house yet, nor an entry; or a house that is lawful and has a last turn
pub data Holds (h : House) : Type 0 where
  Unmade : h.home ≡ None → h.entry ≡ 0 → Holds h
  Made : (x : ℕ) (c : Clearinghouse) → Runs x h c → HasTurn h.home h.last → Holds h

-- after a line
line_holds : (h mid : House) (number : ℕ) (line : List ℕ) (said : Said) → Responds h number line said mid → Holds h → Holds mid
line_holds h mid number line said does (Unmade home zero) = by (line_waits h home number said mid line does)
  where
    by : LineWaits h said mid → Holds mid
    by (NotMade none home' entry) = Unmade home' (entry ∙ zero)
    by (MadeNow body some makes) =
        Made makes.number.0 (new_clearinghouse makes.number makes.node) makes.runs (turn_after h mid number line said does (no_turn_yet h home))
line_holds h mid number line said does (Made x c runs turn) = by (line_done x h c runs number said mid line does)
  where
    after : HasTurn mid.home mid.last
    after = turn_after h mid number line said does turn

    by : LineDone x c said mid → Holds mid
    by (NoTurn none runs') = Made x c runs' after
    by (OneTurn body c' some done runs') = Made x c' runs' after

-- after lines
turns_hold : (turns : List Turn) (number : ℕ) (h at : House) → Dialogue Responds number h turns at → Holds h → Holds at
turns_hold [] number h at talk holds = subst Holds (sym talk) holds
turns_hold (t ∷ ts) number h at talk holds =
    turns_hold ts (number + 1) talk.0 at talk.2 (line_holds h talk.0 number t.line t.said talk.1 holds)

-- at another clock, and without octets of a message
at_clock_holds : (h : House) (clock : ℕ) → Holds h → Holds (record h { clock = clock; more = [] })
at_clock_holds h clock (Unmade home zero) = Unmade home zero
at_clock_holds h clock (Made x c runs turn) = Made x c (runs_on x h (record h { clock = clock; more = [] }) c refl runs) turn

-- after records that are done again
pub redone_holds : (bodies : List (List ℕ)) (h at : House) → RedoneBy h bodies at → Holds h → Holds at
redone_holds [] h at done holds = subst Holds (sym done) holds
redone_holds (body ∷ bodies) h at done holds =
    let r = done.1 in
    redone_holds bodies done.0 at done.2
    (line_holds (record h { clock = r.clock; more = [] }) done.0 0 r.line r.said r.does (at_clock_holds h r.clock holds))

-- it may end
pub holds_may_end : (h : House) → Holds h → MayEnd h.home
holds_may_end h (Unmade home zero) = subst MayEnd (sym home) tt
holds_may_end h (Made x c runs turn) = subst MayEnd (sym runs.home) runs.lawful

-- ---- the first record of a segment

-- it is that of a folder without a house, or of a house that was made
pub data BeganSo (first : List ℕ) (begun : House) : Type 0 where
  BeganNew : (clock : ℕ) → begun.home ≡ None → begun.entry ≡ 0 → IsBody first 0 clock (codes "new" ++ 10 ∷ []) None → BeganSo first begun
  BeganMade : (x : ℕ) (c : Clearinghouse) → Runs x begun c → HasTurn begun.home begun.last → BeganAs first begun c → BeganSo first begun

-- who begins so holds
began_holds : (first : List ℕ) (begun : House) → BeganSo first begun → Holds begun
began_holds first begun (BeganNew clock home zero body) = Unmade home zero
began_holds first begun (BeganMade x c runs turn began) = Made x c runs turn

-- a house resumes with it
pub record ResumesSo (first : List ℕ) : Type 0 where
  pub house : House
  pub resumes : Resumes first house

pub some_resumes : (first : List ℕ) (begun : House) → BeganSo first begun → ResumesSo first
some_resumes first begun (BeganNew clock home zero body) = record { house = new_house; resumes = opening.Anew clock body }
some_resumes first begun (BeganMade x c runs turn (AtStart still is)) =
    let body : IsBody first begun.entry begun.clock (start_text (Some c) begun.last) (Some (image_octets (image_of c))) =
    subst (λ (o : Option Clearinghouse). IsBody first begun.entry begun.clock (start_text (Some c) begun.last) (image_in o)) runs.home is.body in
    record {
      house = opening.house_with (house_after_restart c) begun.entry begun.clock begun.last;
      resumes =
          Began begun.entry begun.clock begun.last (image_octets (image_of c)) (house_after_restart c) body
          (image_starts c runs.lawful (subst HomeFits runs.home is.fits));
    }
some_resumes first begun (BeganMade x c runs turn (AtSegment is)) =
    let body : IsBody first begun.entry begun.clock (segment_text begun (Some c)) (Some (image_octets (image_of c))) =
    subst (λ (o : Option Clearinghouse). IsBody first begun.entry begun.clock (segment_text begun o) (image_in o)) runs.home is.record_is.body in
    record {
      house = opening.house_with (with_skulks (skulks_of c) (house_after_restart c)) begun.entry begun.clock begun.last;
      resumes =
          WentOn begun.entry begun.clock (skulks_of c) begun.last (image_octets (image_of c)) (house_after_restart c) body (subst SkulksFit runs.home is.running)
          (turn_is_no_skulk begun c runs.home turn) (image_starts c runs.lawful (subst HomeFits runs.home is.record_is.fits));
    }

-- each house that resumes with it holds
new_again : (first : List ℕ) (again : House) (clock : ℕ) → IsBody first 0 clock (codes "new" ++ 10 ∷ []) None → Resumes first again → again ≡ new_house
new_again first _ clock new (opening.Anew clock' is) = refl
new_again first _ clock new (Began entry clock' last image c is starts) =
    let same = (one_record first entry clock' (codes "start" ++ (10 ∷ last)) (Some image) 0 clock (codes "new" ++ 10 ∷ []) None is new).3 in
    absurd (cc same)
new_again first _ clock new (WentOn entry clock' skulks last image c is fit ends starts) =
    let text : List ℕ = opening.segment_line entry ++ (running_lines skulks ++ last) in
    let same = (one_record first entry clock' text (Some image) 0 clock (codes "new" ++ 10 ∷ []) None is new).3 in
    absurd (cc same)

pub again_holds : (first : List ℕ) (begun again : House) → BeganSo first begun → Resumes first again → Holds again
again_holds first begun again (BeganNew clock home zero body) resumes = subst Holds (sym (new_again first again clock body resumes)) (Unmade refl refl)
again_holds first begun again (BeganMade x c runs turn began) resumes =
    let a = resumed x first begun again c runs turn began resumes in
    Made x (unspent c) a.runs a.turn

-- ---- from one segment to the next

-- a process went on with it
goes_on_so : (first : List ℕ) (begun : House) → IsSegmentRecord begun first → Holds begun → BeganSo first begun
goes_on_so first begun is (Unmade home zero) =
    BeganNew begun.clock home zero
    (subst (λ (n : ℕ). IsBody first n begun.clock (codes "new" ++ 10 ∷ []) None) zero
    (subst (λ (o : Option Clearinghouse). IsBody first begun.entry begun.clock (segment_text begun o) (image_in o)) home is.record_is.body))
goes_on_so first begun is (Made x c runs turn) = BeganMade x c runs turn (AtSegment is)

-- a process began with it, from this house
starts_so : (first : List ℕ) (opened begun : House) → opened ≡ new_house → begun ≡ after_start opened opened.home
    → IsRecord begun (start_text opened.home opened.last) first → BeganSo first begun
starts_so first opened begun new after is =
    let same : begun ≡ new_house = after ∙ ap (λ (h : House). after_start h h.home) new in
    let here : IsRecord new_house (codes "new" ++ 10 ∷ []) first =
    subst (λ (h : House). IsRecord h (codes "new" ++ 10 ∷ []) first) same
    (subst (λ (h : House). IsRecord begun (start_text h.home h.last) first) new is) in
    BeganNew 0 (ap (λ (h : House). h.home) same) (ap (λ (h : House). h.entry) same) here.body

begins_so : (first : List ℕ) (at opened begun : House) → Holds at → EndsLife at opened → begun ≡ after_start opened opened.home
    → IsRecord begun (start_text opened.home opened.last) first → BeganSo first begun
begins_so first at _ begun holds (NoneMade none) after is = starts_so first new_house begun refl after is
begins_so first at _ begun (Unmade none zero) (Restarts own c' home fits starts) after is = absurd (cc (home, none))
begins_so first at _ begun (Made x c there turn) (Restarts own own' made fits starts) after is =
    let opened = opening.house_with own' at.entry 0 at.last in
    let c' : Clearinghouse = house_after_restart c in
    let so = restarted at opened c there.home there.lawful (Restarts own own' made fits starts) in
    let home : begun.home ≡ Some c' = ap (λ (k : House). k.home) after ∙ start_home opened opened.home ∙ so.home in
    let last : begun.last ≡ opened.last = ap (λ (k : House). k.last) after ∙ start_last opened opened.home in
    let own_record : IsRecord begun (start_text (Some c') opened.last) first = subst (λ (o : Option Clearinghouse). IsRecord begun (start_text o opened.last) first) so.home is in
    BeganMade x c' (record { home = home; number = there.number; lawful = restarted_lawful c there.lawful })
    (has_turn begun.home begun.last (subst IsTurnText (sym (last ∙ so.last)) (made_turn at c there.home turn)))
    (AtStart (restart_twice c there.lawful) (subst (λ (l : List ℕ). IsRecord begun (start_text (Some c') l) first) (sym last) own_record))

-- the next segment begins so
next_so : (b : Beginning) (s : FolderSegment) (begun at : House) (first : List ℕ) (begun' : House) → BeganSo s.first begun → Holds at
    → BeginsWith b (Some (segment_bodies s)) at first begun' → BeganSo first begun'
next_so ProcessGoesOn s begun at first begun' so holds is = goes_on_so first begun' is.1 (subst Holds (sym is.0) holds)
next_so ProcessBegins s begun at first begun' so holds is =
    let o : OpensBy (s.first ∷ bodies_of s.turns) is.0 = is.1 in
    let resumes : Resumes s.first o.begun =
    subst (λ b. Resumes b o.begun) (sym (first_of_split s.first o.first (bodies_of s.turns) o.others o.split)) o.resumes in
    begins_so first o.at is.0 begun' (redone_holds o.others o.begun o.at o.redone (again_holds s.first begun o.begun so resumes)) o.ends is.2 is.3

-- the first segment of all
first_so : (b : Beginning) (first : List ℕ) (begun : House) → BeginsWith b None new_house first begun → BeganSo first begun
first_so ProcessGoesOn first begun is = goes_on_so first begun is.1 (subst Holds (sym is.0) (Unmade refl refl))
first_so ProcessBegins first begun is = starts_so first is.0 begun is.1 is.2 is.3

-- ---- the last segment of a folder

-- it has these bodies, and a house resumes with the first of them
pub record LastBegan (bodies : List (List ℕ)) : Type 0 where
  pub first : List ℕ
  pub others : List (List ℕ)
  pub begun : House
  pub split : bodies ≡ first ∷ others
  pub so : BeganSo first begun

last_began : (ss : List FolderSegment) (s : FolderSegment) (begun at : House) → BeganSo s.first begun → Dialogue Responds s.number begun s.turns at
    → AreSegments (Some (segment_bodies s)) at ss → (bodies : List (List ℕ)) → last_bodies (Some (segment_bodies s)) ss ≡ Some bodies → LastBegan bodies
last_began [] s begun at so talk are bodies is = record {
  first = s.first;
  others = bodies_of s.turns;
  begun = begun;
  split = sym (the_bodies (segment_bodies s) bodies is);
  so = so;
}
  where
    the_bodies : (a b : List (List ℕ)) → ◌≡◌ {A = Option (List (List ℕ))} (Some a) (Some b) → a ≡ b
    the_bodies a b same = cc (same)
last_began (t ∷ ts) s begun at so talk are bodies is =
    last_began ts t are.0 are.1
    (next_so t.begins s begun at t.first are.0 so (turns_hold s.turns s.number begun at talk (began_holds s.first begun so)) are.2) are.3 are.4 bodies is

pub folder_began : (segments : List FolderSegment) → IsFolder segments → (bodies : List (List ℕ)) → last_bodies None segments ≡ Some bodies → LastBegan bodies
folder_began [] is bodies none = absurd (cc (none))
folder_began (s ∷ ss) is bodies some = last_began ss s is.0 is.1 (first_so s.begins s.first is.0 is.2) is.3 is.4 bodies some
