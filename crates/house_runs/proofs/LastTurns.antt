-- A house that starts has the last turn of its folder to say again.
use Rattle.std.proofs.Common.{◌≡◌, ℕ, ◌+◌, List, [], ◌∷◌, refl, sym, ap, subst, ◌∙◌}
use Rattle.std.specs.Prelude.{Option, Some, None}
use Rattle.clearinghouse.specs.declared.house.Clearinghouse.{Clearinghouse}
use Rattle.house_serving.specs.Turns.{Dialogue, Turn, bodies_of}
use Rattle.house_turns.specs.declared.house.House.{House}
use Rattle.house_turns.specs.HouseReplies.{Responds}
use Rattle.house_turns.specs.Openings.{EndsLife, HasTurn, IsTurnText, NoneMade, RedoneBy, Restarts, Resumes, after_start, new_house, start_text}
use Rattle.house_turns.specs.Records.{IsRecord}
use Rattle.house_turns.proofs.LastTurns.{has_turn, turn_after}
use Rattle.house_turns.proofs.Resumptions.{last_of_segment, last_of_start}
use Rattle.house_runs.specs.Folders.{AreSegments, Beginning, BeginsWith, FolderSegment, IsFolder, OpensFrom, ProcessBegins, ProcessGoesOn, last_bodies, segment_bodies}
use Rattle.house_runs.proofs.Segments.{first_of_split, new_segment, new_start, none_resumed, start_home, start_last}

-- a house that was made has a last turn
abbrev Has : House → Type 0
Has h = HasTurn h.home h.last

none_has : (h : House) → h.home ≡ None → Has h
none_has h none = subst (λ (o : Option Clearinghouse). HasTurn o h.last) (sym none) tt

started_has : (h : House) → Has h → Has (after_start h h.home)
started_has h has =
    subst (λ (o : Option Clearinghouse). HasTurn o (after_start h h.home).last) (sym (start_home h h.home))
    (subst (λ (l : List ℕ). HasTurn h.home l) (sym (start_last h h.home)) has)

-- ---- lines

turns_have : (turns : List Turn) (number : ℕ) (h at : House) → Has h → Dialogue Responds number h turns at → Has at
turns_have [] number h at has talk = subst Has (sym talk) has
turns_have (t ∷ ts) number h at has talk =
    turns_have ts (number + 1) talk.0 at (turn_after h talk.0 number t.line t.said talk.1 has) talk.2

redone_have : (bodies : List (List ℕ)) (h at : House) → Has h → RedoneBy h bodies at → Has at
redone_have [] h at has done = subst Has (sym done) has
redone_have (body ∷ bodies) h at has done =
    let r = done.1 in
    redone_have bodies done.0 at (turn_after (record h { clock = r.clock; more = [] }) done.0 0 r.line r.said r.does has) done.2

ended_has : (h opened : House) → Has h → EndsLife h opened → Has opened
ended_has h _ has (NoneMade none) = tt
ended_has h _ has (Restarts c c' home fits starts) = subst (λ (o : Option Clearinghouse). HasTurn o h.last) home has

-- ---- segments

-- a process that goes on from these records has a last turn
abbrev Opens : Option (List (List ℕ)) → Type 0
Opens last = (opened : House) → OpensFrom last opened → Has opened

-- what resumes with the first record of a segment has the last turn that it repeats
module _ (last : Option (List (List ℕ))) (h : House) (first : List ℕ) (begun : House) (has : Has h) (opens : Opens last) where
  begins_have : (b : Beginning) → BeginsWith b last h first begun → Has begun
  begins_have ProcessGoesOn is = subst Has (sym is.0) has
  begins_have ProcessBegins is = subst Has (sym is.2) (started_has is.0 (opens is.0 is.1))

  resumed_has : (b : Beginning) → BeginsWith b last h first begun → (again : House) → Resumes first again → Has again
  resumed_has ProcessGoesOn is again resumes = by begun.home refl
    where
      by : (o : Option Clearinghouse) → begun.home ≡ o → Has again
      by None none = none_has again (none_resumed first again (new_segment begun first none is.1) resumes)
      by (Some c) made =
          let own : Has begun = begins_have ProcessGoesOn is in
          let turn : IsTurnText begun.last = subst (λ (o : Option Clearinghouse). HasTurn o begun.last) made own in
          has_turn again.home again.last (subst IsTurnText (sym (last_of_segment begun again c first made own is.1 resumes)) turn)
  resumed_has ProcessBegins is again resumes = by is.0.home refl
    where
      home : begun.home ≡ is.0.home
      home = ap (λ (k : House). k.home) is.2 ∙ start_home is.0 is.0.home

      by : (o : Option Clearinghouse) → is.0.home ≡ o → Has again
      by None none = none_has again (none_resumed first again (new_start begun is.0 first (home ∙ none) none is.3) resumes)
      by (Some c) made =
          let turn : IsTurnText is.0.last = subst (λ (o : Option Clearinghouse). HasTurn o is.0.last) made (opens is.0 is.1) in
          let own : IsRecord begun (start_text (Some c) is.0.last) first = subst (λ (o : Option Clearinghouse). IsRecord begun (start_text o is.0.last) first) made is.3 in
          has_turn again.home again.last (subst IsTurnText (sym (last_of_start begun again c is.0.last first (home ∙ made) own resumes)) turn)

  segment_opens : (s : FolderSegment) → s.first ≡ first → BeginsWith s.begins last h first begun → Opens (Some (segment_bodies s))
  segment_opens s same is opened o =
      let resumes : Resumes first o.begun = subst (λ b. Resumes b o.begun) (sym (first_of_split s.first o.first (bodies_of s.turns) o.others o.split) ∙ same) o.resumes in
      ended_has o.at opened (redone_have o.others o.begun o.at (resumed_has s.begins is o.begun resumes) o.redone) o.ends

segments_open : (ss : List FolderSegment) (last : Option (List (List ℕ))) (h : House) → Has h → Opens last → AreSegments last h ss → Opens (last_bodies last ss)
segments_open [] last h has opens are = opens
segments_open (s ∷ ss) last h has opens are =
    segments_open ss (Some (segment_bodies s)) are.1
    (turns_have s.turns s.number are.0 are.1 (begins_have last h s.first are.0 has opens s.begins are.2) are.3)
    (segment_opens last h s.first are.0 has opens s refl are.2) are.4

-- the law
pub start_has_turn : (segments : List FolderSegment) (opened : House) → IsFolder segments → OpensFrom (last_bodies None segments) opened
    → HasTurn (after_start opened opened.home).home (after_start opened opened.home).last
start_has_turn segments opened is opens =
    started_has opened (segments_open segments None new_house tt (λ o new. none_has o (ap (λ (k : House). k.home) new)) is opened opens)
