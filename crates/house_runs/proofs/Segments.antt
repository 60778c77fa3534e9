-- What the records of a folder tell, segment by segment: the entries of a segment are those of
-- whoever went on from it, the process that wrote it, or one that did its lines again.
use Rattle.std.proofs.Common.{◌≡◌, ℕ, ◌+◌, ◌⊎◌, inl, inr, List, [], ◌∷◌, ◌++◌, refl, sym, ap, subst, ◌∙◌}
use Rattle.std.specs.Prelude.{Option, Some, None, Result, Ok, codes, decimal, false}
use Rattle.cds_records.specs.RecordOctets.{image_octets}
use Rattle.cds_records.specs.RecordRanges.{FitsImage}
use Rattle.cds_cell.proofs.KeptImages.{image_again}
use Rattle.cell_model.specs.Cells as model
use Rattle.cell_model.specs.Turns.{crashed_house}
use Rattle.clearinghouse.specs.HouseImages.{house_after_restart, image_of, skulks_of, start_of_octets, started_from, with_skulks}
use Rattle.clearinghouse.specs.LawfulHouses.{IsLawful}
use Rattle.clearinghouse.specs.ModelHouses.{StandsHouse}
use Rattle.clearinghouse.specs.declared.house.Clearinghouse.{Clearinghouse}
use Rattle.clearinghouse.proofs.Restarting.{crash_stands, restarted_lawful, start_stands}
use Rattle.clearinghouse.proofs.RunningOn.{goes_on}
use Rattle.clearinghouse.proofs.Starting.{image_starts}
use Rattle.house_entries.specs.Bodies.{IsBody}
use Rattle.house_entries.proofs.BodyLemmas.{one_record}
use Rattle.house_serving.specs.Turns.{Dialogue, Said, Turn, bodies_in, bodies_of}
use Rattle.cell_runs.specs.Entries.{Entry, Started, Turned}
use Rattle.cell_runs.specs.HonestRuns.{IsHonest, IsImageOf, restarted_house}
use Rattle.cell_runs.specs.Orders.{MadeHouse}
use Rattle.cell_runs.specs.Orders as runs
use Rattle.house_turns.specs.declared.house.House.{House}
use Rattle.house_turns.specs.HouseReplies.{Responds, new_clearinghouse}
use Rattle.house_turns.specs.Openings as opening
use Rattle.house_turns.specs.Openings.{EndsLife, HasTurn, IsSegmentRecord, IsTurnText, NoneMade, OpensBy, RedoneBy, Restarts, Resumes, after_start, new_house, segment_text, start_text}
use Rattle.house_turns.specs.Records.{HomeFits, IsRecord, image_in}
use Rattle.house_turns.specs.RunningSkulks.{running_lines}
use Rattle.house_turns.proofs.LastTurns.{has_turn, turn_after}
use Rattle.house_turns.proofs.Resumptions.{segment_resumes, start_resumes, turn_is_no_skulk}
use Rattle.house_runs.specs.Folders.{AreSegments, Beginning, BeginsWith, FolderSegment, IsFolder, ProcessBegins, ProcessGoesOn, folder_bodies, segment_bodies}
use Rattle.house_runs.specs.Tales.{IsNewBody, IsSegmentBody, IsStartBody, TellEntries, TellEntry, TellHonestHouse, TellMade, TellNew, TellNoHouse, TellNone, TellSegment}
use Rattle.house_runs.proofs.Lines.{DoesTurn, LineDone, NoTurn, OneTurn, Runs, line_done, runs_on}
use Rattle.house_runs.proofs.Turns.{image_stands}
use Rattle.house_runs.proofs.Waits.{LineWaits, MadeNow, Makes, NotMade, line_waits, new_stands}

-- ---- a house that was made

-- bodies tell entries that are the model's, from each house of it on for which the clearinghouse is
record Goes (x : ℕ) (c : Clearinghouse) (bodies : List (List ℕ)) : Type 0 where
  entries : List Entry
  tell : TellEntries bodies entries
  honest : (now : model.House) → StandsHouse c now → IsHonest x now entries

-- a turn, and what comes after it
turn_first : (x : ℕ) (c c' : Clearinghouse) (body : List ℕ) (bodies : List (List ℕ)) → DoesTurn x c body c' → Goes x c' bodies → Goes x c (body ∷ bodies)
turn_first x c c' body bodies does goes = record {
  entries = Turned does.entry ∷ goes.entries;
  tell = TellEntry body bodies (Turned does.entry) goes.entries does.tells goes.tell;
  honest = λ now stands. (
    does.good,
    λ m carries.
        let t = does.turns now m stands carries in
        (t.turn, t.is, goes.honest t.turn.house t.stands),
  );
}

-- a start
start_first : (x : ℕ) (c : Clearinghouse) (body : List ℕ) (bodies : List (List ℕ)) → c.house.0 ≡ x
    → IsStartBody body (image_octets (image_of (house_after_restart c))) → Goes x (house_after_restart c) bodies → Goes x c (body ∷ bodies)
start_first x c body bodies number is goes =
    let image : List ℕ = image_octets (image_of (house_after_restart c)) in
    record {
      entries = Started image ∷ goes.entries;
      tell = TellEntry body bodies (Started image) goes.entries is goes.tell;
      honest = λ now stands.
          let up : StandsHouse (house_after_restart c) (restarted_house now) =
          start_stands (house_after_restart c) (crashed_house now) (crash_stands c now stands) in (
            subst (λ (y : ℕ). IsImageOf y (restarted_house now) image) number (image_stands (house_after_restart c) (restarted_house now) up),
            goes.honest (restarted_house now) up,
          );
    }

-- a segment with which a process goes on
segment_first : (x : ℕ) (c : Clearinghouse) (body : List ℕ) (bodies : List (List ℕ)) → IsSegmentBody body → Goes x c bodies → Goes x c (body ∷ bodies)
segment_first x c body bodies is goes = record {
  entries = goes.entries;
  tell = TellSegment body bodies goes.entries is goes.tell;
  honest = goes.honest;
}

-- a clearinghouse that is not spent is for the same houses of the model
abbrev pub unspent : Clearinghouse → Clearinghouse
unspent c = record c { spent = false }

unspent_goes : (x : ℕ) (c : Clearinghouse) (bodies : List (List ℕ)) → Goes x (unspent c) bodies → Goes x c bodies
unspent_goes x c bodies goes = record {
  entries = goes.entries;
  tell = goes.tell;
  honest = λ now stands. goes.honest now (record { node = stands.node; floor = stands.floor; slots = stands.slots });
}

-- lines of a segment, and what comes after them
module _ (x : ℕ) (rest : List (List ℕ)) (at : House) where
  -- what comes after the last of them
  abbrev After : Type 0
  After = (c : Clearinghouse) → Runs x at c → HasTurn at.home at.last → Goes x c rest

  none_left : (h : House) (c : Clearinghouse) → Runs x h c → HasTurn h.home h.last → at ≡ h → After → Goes x c rest
  none_left h c runs turn same next =
      next c (runs_on x h at c (ap (λ (k : House). k.home) same) runs) (subst (λ (k : House). HasTurn k.home k.last) (sym same) turn)

  -- as a process did them
  turns_go : (turns : List Turn) (number : ℕ) (h : House) (c : Clearinghouse) → Runs x h c → HasTurn h.home h.last → Dialogue Responds number h turns at
      → After → Goes x c (bodies_of turns ++ rest)
  turns_go [] number h c runs turn talk next = none_left h c runs turn talk next
  turns_go (t ∷ ts) number h c runs turn talk next =
      by (line_done x h c runs number t.said talk.0 t.line talk.1)
      (λ c' runs'. turns_go ts (number + 1) talk.0 c' runs' (turn_after h talk.0 number t.line t.said talk.1 turn) talk.2 next)
    where
      by : LineDone x c t.said talk.0 → ((c' : Clearinghouse) → Runs x talk.0 c' → Goes x c' (bodies_of ts ++ rest))
          → Goes x c ((bodies_in t.said.body ++ bodies_of ts) ++ rest)
      by (NoTurn none runs') later = subst (λ b. Goes x c ((bodies_in b ++ bodies_of ts) ++ rest)) (sym none) (later c runs')
      by (OneTurn body c' some does runs') later =
          subst (λ b. Goes x c ((bodies_in b ++ bodies_of ts) ++ rest)) (sym some) (turn_first x c c' body (bodies_of ts ++ rest) does (later c' runs'))

  -- as a process did them again
  redone_go : (bodies : List (List ℕ)) (h : House) (c : Clearinghouse) → Runs x h c → HasTurn h.home h.last → RedoneBy h bodies at → After
      → Goes x c (bodies ++ rest)
  redone_go [] h c runs turn done next = none_left h c runs turn done next
  redone_go (body ∷ bodies) h c runs turn done next =
      let r = done.1 in
      let h' : House = record h { clock = r.clock; more = [] } in
      by r.said (line_done x h' c (runs_on x h h' c refl runs) 0 r.said done.0 r.line r.does) r.same
      (λ c' runs'. redone_go bodies done.0 c' runs' (turn_after h' done.0 0 r.line r.said r.does turn) done.2 next)
    where
      by : (said : Said) → LineDone x c said done.0 → said.body ≡ Some body → ((c' : Clearinghouse) → Runs x done.0 c' → Goes x c' (bodies ++ rest))
          → Goes x c (body ∷ (bodies ++ rest))
      by said (NoTurn none runs') some later = absurd (cc (none, some))
      by said (OneTurn own c' has does runs') some later =
          let same : own ≡ body = cc (has, some) in
          subst (λ (b : List ℕ). Goes x c (b ∷ (bodies ++ rest))) same (turn_first x c c' own (bodies ++ rest) does (later c' runs'))

-- ---- how a segment begins

-- a result that is two values is one
one_value : {T E : Type 0} (r : Result T E) (a b : T) → r ≡ Ok a → r ≡ Ok b → a ≡ b
one_value r a b first second = cc (first, second)

-- the house that starts of its own image
own_image : (c c' : Clearinghouse) → IsLawful c → FitsImage (image_of c) → start_of_octets (image_octets (image_of c)) ≡ Ok c' → c' ≡ house_after_restart c
own_image c c' lawful fits starts = one_value (start_of_octets (image_octets (image_of c))) c' (house_after_restart c) starts (image_starts c lawful fits)

-- the first record of a segment, at which a house that was made is so: a process began with it, or
-- went on
pub data BeganAs (first : List ℕ) (begun : House) (c : Clearinghouse) : Type 0 where
  AtStart : house_after_restart c ≡ c → IsRecord begun (start_text (Some c) begun.last) first → BeganAs first begun c
  AtSegment : IsSegmentRecord begun first → BeganAs first begun c

-- a house that resumes there is the same again
pub record IsAgain (x : ℕ) (begun : House) (c : Clearinghouse) (again : House) : Type 0 where
  pub runs : Runs x again (unspent c)
  pub turn : HasTurn again.home again.last

pub made_turn : (h : House) (c : Clearinghouse) → h.home ≡ Some c → HasTurn h.home h.last → IsTurnText h.last
made_turn h c home turn = subst (λ (o : Option Clearinghouse). HasTurn o h.last) home turn

module _ (x : ℕ) (first : List ℕ) (begun again : House) (c : Clearinghouse) (runs : Runs x begun c) (turn : HasTurn begun.home begun.last) where
  is_again : again.home ≡ Some (unspent c) → again.last ≡ begun.last → IsAgain x begun c again
  is_again home last = record {
    runs = record { home = home; number = runs.number; lawful = runs.lawful };
    turn = has_turn again.home again.last (subst IsTurnText (sym last) (made_turn begun c runs.home turn));
  }

  pub resumed : BeganAs first begun c → Resumes first again → IsAgain x begun c again
  resumed (AtStart still is) resumes =
      let r = start_resumes begun again c begun.last first runs.home is resumes in
      let own : r.home ≡ c = own_image c r.home runs.lawful (subst HomeFits runs.home is.fits) r.starts ∙ still in
      let usable : c.spent ≡ false = ap (λ (d : Clearinghouse). d.spent) (sym still) in
      is_again
      (ap (λ (k : House). k.home) r.is ∙ ap (λ (d : Clearinghouse). Some d) (own ∙ ap (λ b. record c { spent = b }) usable))
      (ap (λ (k : House). k.last) r.is)
  resumed (AtSegment is) resumes =
      let r = segment_resumes begun again c first runs.home (turn_is_no_skulk begun c runs.home turn) is resumes in
      let own : r.home ≡ house_after_restart c = own_image c r.home runs.lawful (subst HomeFits runs.home is.record_is.fits) r.starts in
      is_again
      (ap (λ (k : House). k.home) r.is ∙ ap (λ (d : Clearinghouse). Some (with_skulks (skulks_of c) d)) own
      ∙ ap (λ (d : Clearinghouse). Some d) (goes_on c runs.lawful))
      (ap (λ (k : House). k.last) r.is)

-- ---- how a process ends

-- a crash of a house that starts leaves it
pub restart_twice : (c : Clearinghouse) → IsLawful c → house_after_restart (house_after_restart c) ≡ house_after_restart c
restart_twice c lawful = ap started_from (image_again c lawful)

pub record IsRestarted (at : House) (c : Clearinghouse) (opened : House) : Type 0 where
  pub home : opened.home ≡ Some (house_after_restart c)
  pub last : opened.last ≡ at.last

pub restarted : (at opened : House) (c : Clearinghouse) → at.home ≡ Some c → IsLawful c → EndsLife at opened → IsRestarted at c opened
restarted at _ c home lawful (NoneMade none) = absurd (cc (home, none))
restarted at _ c home lawful (Restarts own c' is fits starts) =
    let same : own ≡ c = cc (is, home) in
    record {
      home = ap (λ (d : Clearinghouse). Some d)
          (own_image own c' (subst IsLawful (sym same) lawful) fits starts ∙ ap house_after_restart same);
      last = refl;
    }

ends_new : (at opened : House) → at.home ≡ None → EndsLife at opened → opened.home ≡ None
ends_new at _ home (NoneMade none) = refl
ends_new at _ home (Restarts own c' is fits starts) = absurd (cc (is, home))

-- a start leaves what a house has, and the last turn
pub start_home : (h : House) (o : Option Clearinghouse) → (after_start h o).home ≡ h.home
start_home h None = refl
start_home h (Some c) = refl

pub start_last : (h : House) (o : Option Clearinghouse) → (after_start h o).last ≡ h.last
start_last h None = refl
start_last h (Some c) = refl

-- ---- the next segment, and what comes after its first record

module _ (first : List ℕ) (begun : House) (rest : List (List ℕ)) where
  -- what is to say of the house of the next segment
  abbrev Next : Type 0
  Next = (x : ℕ) (c : Clearinghouse) → Runs x begun c → HasTurn begun.home begun.last → BeganAs first begun c → Goes x c rest

  -- a process that goes on
  then_goes_on : (x : ℕ) (at : House) (c : Clearinghouse) → Runs x at c → HasTurn at.home at.last → begun ≡ at → IsSegmentRecord begun first → Next
      → Goes x c (first ∷ rest)
  then_goes_on x at c there turn same is next =
      let runs : Runs x begun c = runs_on x at begun c (ap (λ (k : House). k.home) same) there in
      segment_first x c first rest (record {
        number = begun.entry;
        clock = begun.clock;
        rest = (decimal begun.entry ++ 10 ∷ []) ++ (running_lines (skulks_of c) ++ begun.last);
        image = image_octets (image_of c);
        is = subst (λ (o : Option Clearinghouse). IsBody first begun.entry begun.clock (segment_text begun o) (image_in o)) runs.home is.record_is.body;
      })
      (next x c runs (subst (λ (k : House). HasTurn k.home k.last) (sym same) turn) (AtSegment is))

  -- a process that begins
  then_begins : (x : ℕ) (at opened : House) (c : Clearinghouse) → Runs x at c → HasTurn at.home at.last → EndsLife at opened
      → begun ≡ after_start opened opened.home → IsRecord begun (start_text opened.home opened.last) first → Next → Goes x c (first ∷ rest)
  then_begins x at opened c there turn ends after is next =
      let c' : Clearinghouse = house_after_restart c in
      let so = restarted at opened c there.home there.lawful ends in
      let home : begun.home ≡ Some c' = ap (λ (k : House). k.home) after ∙ start_home opened opened.home ∙ so.home in
      let last : begun.last ≡ opened.last = ap (λ (k : House). k.last) after ∙ start_last opened opened.home in
      let own : IsRecord begun (start_text (Some c') opened.last) first = subst (λ (o : Option Clearinghouse). IsRecord begun (start_text o opened.last) first) so.home is in
      start_first x c first rest there.number (record {
        number = begun.entry;
        clock = begun.clock;
        last = opened.last;
        is = subst (λ (o : Option Clearinghouse). IsBody first begun.entry begun.clock (start_text (Some c') opened.last) (image_in o)) home own.body;
      })
      (next x c' (record { home = home; number = there.number; lawful = restarted_lawful c there.lawful })
      (has_turn begun.home begun.last (subst IsTurnText (sym (last ∙ so.last)) (made_turn at c there.home turn)))
      (AtStart (restart_twice c there.lawful) (subst (λ (l : List ℕ). IsRecord begun (start_text (Some c') l) first) (sym last) own)))

-- the records of a segment are these
pub first_of_split : (a b : List ℕ) (front others : List (List ℕ)) → a ∷ front ≡ b ∷ others → a ≡ b
first_of_split a b front others same = cc same

pub others_of_split : (a b : List ℕ) (front others : List (List ℕ)) → a ∷ front ≡ b ∷ others → front ≡ others
others_of_split a b front others same = cc same

-- ---- segments of a house that was made

module _ (x : ℕ) (s : FolderSegment) (begun at : House) (c : Clearinghouse) (runs : Runs x begun c) (turn : HasTurn begun.home begun.last)
    (began : BeganAs s.first begun c) (talk : Dialogue Responds s.number begun s.turns at) where
  -- a segment, and the next one
  told : (b : Beginning) (first : List ℕ) (begun' : House) (rest : List (List ℕ)) → BeginsWith b (Some (segment_bodies s)) at first begun'
      → Next first begun' rest → Goes x c (bodies_of s.turns ++ (first ∷ rest))
  told ProcessGoesOn first begun' rest is next =
      turns_go x (first ∷ rest) at s.turns s.number begun c runs turn talk
      (λ d there turn'. then_goes_on first begun' rest x at d there turn' is.0 is.1 next)
  told ProcessBegins first begun' rest is next =
      let o : OpensBy (s.first ∷ bodies_of s.turns) is.0 = is.1 in
      let others = others_of_split s.first o.first (bodies_of s.turns) o.others o.split in
      let again = resumed x s.first begun o.begun c runs turn began
      (subst (λ b. Resumes b o.begun) (sym (first_of_split s.first o.first (bodies_of s.turns) o.others o.split)) o.resumes) in
      unspent_goes x c (bodies_of s.turns ++ (first ∷ rest))
      (subst (λ bs. Goes x (unspent c) (bs ++ (first ∷ rest))) (sym others)
      (redone_go x (first ∷ rest) o.at o.others o.begun (unspent c) again.runs again.turn o.redone
      (λ d there turn'. then_begins first begun' rest x o.at is.0 d there turn' o.ends is.2 is.3 next)))

segments_go : (ss : List FolderSegment) (x : ℕ) (s : FolderSegment) (begun at : House) (c : Clearinghouse) → Runs x begun c
    → HasTurn begun.home begun.last → BeganAs s.first begun c → Dialogue Responds s.number begun s.turns at
    → AreSegments (Some (segment_bodies s)) at ss → Goes x c (bodies_of s.turns ++ folder_bodies ss)
segments_go [] x s begun at c runs turn began talk are =
    turns_go x [] at s.turns s.number begun c runs turn talk (λ d there turn'. record { entries = []; tell = TellNone; honest = λ now stands. tt })
segments_go (t ∷ ts) x s begun at c runs turn began talk are =
    told x s begun at c runs turn began talk t.begins t.first are.0 (bodies_of t.turns ++ folder_bodies ts) are.2
    (λ y d there turn' began'. segments_go ts y t are.0 are.1 d there turn' began' are.3 are.4)

-- ---- no house yet

-- bodies tell of no house, or of an honest one
abbrev pub TellHouseOrNone : List (List ℕ) → Type 0
TellHouseOrNone bodies = TellNoHouse bodies ⊎ TellHonestHouse bodies

-- a record of no house, and what comes after it
new_first : (body : List ℕ) (bodies : List (List ℕ)) → IsNewBody body → TellHouseOrNone bodies → TellHouseOrNone (body ∷ bodies)
new_first body bodies is (inl none) = inl (is, none)
new_first body bodies is (inr t) =
    inr (record { made = t.made; entries = t.entries; tell = TellNew body bodies t.made t.entries is t.tell; honest = t.honest })

-- the record of the line that made it
made_first : (body : List ℕ) (bodies : List (List ℕ)) (mid : House) → (makes : Makes body mid)
    → Goes makes.number.0 (new_clearinghouse makes.number makes.node) bodies → TellHouseOrNone (body ∷ bodies)
made_first body bodies mid makes goes =
    let made : MadeHouse = record { house = makes.number.0; node = makes.node } in
    inr (record {
      made = made;
      entries = goes.entries;
      tell = TellMade body bodies made goes.entries makes.makes goes.tell;
      honest = goes.honest (runs.new_house makes.node) (new_stands makes.number makes.node);
    })

-- a house that was not made has no turn to say
pub no_turn_yet : (h : House) → h.home ≡ None → HasTurn h.home h.last
no_turn_yet h home = subst (λ (o : Option Clearinghouse). HasTurn o h.last) (sym home) tt

-- lines of a segment, and what comes after them
module _ (rest : List (List ℕ)) (at : House) (waits : at.home ≡ None → TellHouseOrNone rest) (goes : (x : ℕ) → After x rest at) where
  -- as a process did them
  turns_wait : (turns : List Turn) (number : ℕ) (h : House) → h.home ≡ None → Dialogue Responds number h turns at → TellHouseOrNone (bodies_of turns ++ rest)
  turns_wait [] number h home talk = waits (ap (λ (k : House). k.home) talk ∙ home)
  turns_wait (t ∷ ts) number h home talk =
      by (line_waits h home number t.said talk.0 t.line talk.1) (λ home'. turns_wait ts (number + 1) talk.0 home' talk.2)
    where
      by : LineWaits h t.said talk.0 → (talk.0.home ≡ None → TellHouseOrNone (bodies_of ts ++ rest))
          → TellHouseOrNone ((bodies_in t.said.body ++ bodies_of ts) ++ rest)
      by (NotMade none home' entry) later = subst (λ b. TellHouseOrNone ((bodies_in b ++ bodies_of ts) ++ rest)) (sym none) (later home')
      by (MadeNow body some makes) later =
          subst (λ b. TellHouseOrNone ((bodies_in b ++ bodies_of ts) ++ rest)) (sym some)
          (made_first body (bodies_of ts ++ rest) talk.0 makes
          (turns_go makes.number.0 rest at ts (number + 1) talk.0 (new_clearinghouse makes.number makes.node) makes.runs
          (turn_after h talk.0 number t.line t.said talk.1 (no_turn_yet h home)) talk.2 (goes makes.number.0)))

  -- as a process did them again
  redone_wait : (bodies : List (List ℕ)) (h : House) → h.home ≡ None → RedoneBy h bodies at → TellHouseOrNone (bodies ++ rest)
  redone_wait [] h home done = waits (ap (λ (k : House). k.home) done ∙ home)
  redone_wait (body ∷ bodies) h home done =
      let r = done.1 in
      let h' : House = record h { clock = r.clock; more = [] } in
      by r.said (line_waits h' home 0 r.said done.0 r.line r.does) r.same (turn_after h' done.0 0 r.line r.said r.does (no_turn_yet h' home))
      (λ home'. redone_wait bodies done.0 home' done.2)
    where
      by : (said : Said) → LineWaits (record h { clock = done.1.clock; more = [] }) said done.0 → said.body ≡ Some body → HasTurn done.0.home done.0.last
          → (done.0.home ≡ None → TellHouseOrNone (bodies ++ rest)) → TellHouseOrNone (body ∷ (bodies ++ rest))
      by said (NotMade none home' entry) some turn later = absurd (cc (none, some))
      by said (MadeNow own has makes) some turn later =
          let same : own ≡ body = cc (has, some) in
          subst (λ (b : List ℕ). TellHouseOrNone (b ∷ (bodies ++ rest))) same
          (made_first own (bodies ++ rest) done.0 makes
          (redone_go makes.number.0 rest at bodies done.0 (new_clearinghouse makes.number makes.node) makes.runs turn done.2 (goes makes.number.0)))

-- the first record where there is no house
pub new_segment : (begun : House) (first : List ℕ) → begun.home ≡ None → IsSegmentRecord begun first → IsNewBody first
new_segment begun first none is = record {
  number = begun.entry;
  clock = begun.clock;
  is = subst (λ (o : Option Clearinghouse). IsBody first begun.entry begun.clock (segment_text begun o) (image_in o)) none is.record_is.body;
}

pub new_start : (begun opened : House) (first : List ℕ) → begun.home ≡ None → opened.home ≡ None → IsRecord begun (start_text opened.home opened.last) first
    → IsNewBody first
new_start begun opened first none unmade is = record {
  number = begun.entry;
  clock = begun.clock;
  is = subst (λ (o : Option Clearinghouse). IsBody first begun.entry begun.clock (start_text o opened.last) None) unmade
      (subst (λ (o : Option Clearinghouse). IsBody first begun.entry begun.clock (start_text opened.home opened.last) (image_in o)) none is.body);
}

-- a house that resumes with it is none
pub none_resumed : (first : List ℕ) (again : House) → IsNewBody first → Resumes first again → again.home ≡ None
none_resumed first _ new (opening.Anew clock is) = refl
none_resumed first _ new (opening.Began entry clock last image c is starts) =
    let same = (one_record first entry clock (codes "start" ++ (10 ∷ last)) (Some image) new.number new.clock (codes "new" ++ 10 ∷ []) None is new.is).3 in
    absurd (cc same)
none_resumed first _ new (opening.WentOn entry clock skulks last image c is fit ends starts) =
    let text : List ℕ = opening.segment_line entry ++ (running_lines skulks ++ last) in
    let same = (one_record first entry clock text (Some image) new.number new.clock (codes "new" ++ 10 ∷ []) None is new.is).3 in
    absurd (cc same)

module _ (s : FolderSegment) (begun at : House) (home : begun.home ≡ None) (new : IsNewBody s.first)
    (talk : Dialogue Responds s.number begun s.turns at) where
  -- a segment, and the next one
  waits_told : (b : Beginning) (first : List ℕ) (begun' : House) (rest : List (List ℕ)) → BeginsWith b (Some (segment_bodies s)) at first begun'
      → (begun'.home ≡ None → IsNewBody first → TellHouseOrNone rest) → Next first begun' rest → TellHouseOrNone (bodies_of s.turns ++ (first ∷ rest))
  waits_told ProcessGoesOn first begun' rest is waits next =
      turns_wait (first ∷ rest) at
      (λ home'.
      let none : begun'.home ≡ None = ap (λ (k : House). k.home) is.0 ∙ home' in
      let body : IsNewBody first = new_segment begun' first none is.1 in
      new_first first rest body (waits none body))
      (λ x d there turn. then_goes_on first begun' rest x at d there turn is.0 is.1 next)
      s.turns s.number begun home talk
  waits_told ProcessBegins first begun' rest is waits next =
      let o : OpensBy (s.first ∷ bodies_of s.turns) is.0 = is.1 in
      let others = others_of_split s.first o.first (bodies_of s.turns) o.others o.split in
      let resumes : Resumes s.first o.begun = subst (λ b. Resumes b o.begun) (sym (first_of_split s.first o.first (bodies_of s.turns) o.others o.split)) o.resumes in
      subst (λ bs. TellHouseOrNone (bs ++ (first ∷ rest))) (sym others)
      (redone_wait (first ∷ rest) o.at
      (λ home'.
      let unmade : is.0.home ≡ None = ends_new o.at is.0 home' o.ends in
      let none : begun'.home ≡ None = ap (λ (k : House). k.home) is.2 ∙ start_home is.0 is.0.home ∙ unmade in
      let body : IsNewBody first = new_start begun' is.0 first none unmade is.3 in
      new_first first rest body (waits none body))
      (λ x d there turn. then_begins first begun' rest x o.at is.0 d there turn o.ends is.2 is.3 next)
      o.others o.begun (none_resumed s.first o.begun new resumes) o.redone)

segments_wait : (ss : List FolderSegment) (s : FolderSegment) (begun at : House) → begun.home ≡ None → IsNewBody s.first
    → Dialogue Responds s.number begun s.turns at → AreSegments (Some (segment_bodies s)) at ss → TellHouseOrNone (bodies_of s.turns ++ folder_bodies ss)
segments_wait [] s begun at home new talk are =
    turns_wait [] at (λ home'. inl tt) (λ x d there turn. record { entries = []; tell = TellNone; honest = λ now stands. tt }) s.turns s.number begun home talk
segments_wait (t ∷ ts) s begun at home new talk are =
    waits_told s begun at home new talk t.begins t.first are.0 (bodies_of t.turns ++ folder_bodies ts) are.2
    (λ home' new'. segments_wait ts t are.0 are.1 home' new' are.3 are.4)
    (λ y d there turn began. segments_go ts y t are.0 are.1 d there turn began are.3 are.4)

-- the first segment of all
first_new : (b : Beginning) (first : List ℕ) (begun : House) → BeginsWith b None new_house first begun → (begun.home ≡ None) × IsNewBody first
first_new ProcessGoesOn first begun is =
    let none : begun.home ≡ None = ap (λ (k : House). k.home) is.0 in
    (none, new_segment begun first none is.1)
first_new ProcessBegins first begun is =
    let unmade : is.0.home ≡ None = ap (λ (k : House). k.home) is.1 in
    let none : begun.home ≡ None = ap (λ (k : House). k.home) is.2 ∙ start_home is.0 is.0.home ∙ unmade in
    (none, new_start begun is.0 first none unmade is.3)

-- the law
pub folders_tell : (segments : List FolderSegment) → IsFolder segments → TellHouseOrNone (folder_bodies segments)
folders_tell [] is = inl tt
folders_tell (s ∷ ss) is =
    let begins = first_new s.begins s.first is.0 is.2 in
    new_first s.first (bodies_of s.turns ++ folder_bodies ss) begins.1 (segments_wait ss s is.0 is.1 begins.0 begins.1 is.3 is.4)
