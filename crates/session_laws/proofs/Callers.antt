-- What is so at each moment of a caller: his records are a folder, where his session is.
use Rattle.std.proofs.Common.{◌≡◌, ℕ, ◌+◌, List, [], ◌∷◌, ◌++◌, length, map, length-append, refl, sym, ap, subst, ◌∙◌, append-nil, append_assoc, arith}
use Rattle.std.specs.Prelude.{Bool, true, false, Option, Some, None}
use Rattle.std.proofs.lemmas.List.{map-append}
use Rattle.house_serving.specs.Turns.{Dialogue, Turn, bodies_in, bodies_of}
use Rattle.house_serving.proofs.Works.{bodies-append, talks_on}
use Rattle.house_turns.specs.declared.house.House.{House}
use Rattle.house_turns.specs.HouseReplies.{Responds}
use Rattle.house_turns.specs.Openings.{EndsLife, IsSegmentRecord, NoneMade, RedoneBy, Redoes, Restarts, Resumes, new_house}
use Rattle.house_runs.specs.Folders.{AreSegments, Beginning, BeginsWith, FolderSegment, OpensFrom, ProcessBegins, ProcessGoesOn, last_bodies, segment_bodies}
use Rattle.house_sessions.specs.Refusals.{why_no_line}
use Rattle.house_sessions.specs.Steps.{IsSaid, IsStarted}
use Rattle.house_sessions.specs.declared.session.Session.{Session}
use Rattle.house_sessions.specs.declared.session.Stage.{Stage}
use Rattle.house_sessions.specs.declared.session.Stage.TheVariants as is
use Rattle.session_laws.specs.Callers.{AreOfFolder, Asks, Begins, Caller, Doing, GoesOn, KeepsFirst, KeepsNext, Later, Lives, New, NextSegment, Nothing, one_more, Opens, Reading, Reads, Says, Starts, Stops}

abbrev Bodies : Type 0
Bodies = List (List ℕ)

-- ---- segments

-- segments that follow these records, where the house is so, and the house after them
abbrev SegmentsTo : (last : Option Bodies) → House → List FolderSegment → House → Type 0
SegmentsTo last house [] at = at ≡ house
SegmentsTo last house (s ∷ ss) at =
    (begun : House) × (mid : House) × BeginsWith s.begins last house s.first begun × Dialogue Responds s.number begun s.turns mid
    × SegmentsTo (Some (segment_bodies s)) mid ss at

are_segments : (last : Option Bodies) (house at : House) (ss : List FolderSegment) → SegmentsTo last house ss at → AreSegments last house ss
are_segments last house at [] to = tt
are_segments last house at (s ∷ ss) to = (to.0, to.1, to.2, to.3, are_segments (Some (segment_bodies s)) to.1 at ss to.4)

-- a folder ends with some house
folder_to : (last : Option Bodies) (house : House) (ss : List FolderSegment) → AreSegments last house ss → (at : House) × SegmentsTo last house ss at
folder_to last house [] are = (house, refl)
folder_to last house (s ∷ ss) are =
    let later = folder_to (Some (segment_bodies s)) are.1 ss are.4 in (later.0, (are.0, are.1, are.2, are.3, later.1))

-- one segment more
one_on : (last : Option Bodies) (house at begun at' : House) (ss : List FolderSegment) (s : FolderSegment) → SegmentsTo last house ss at
    → BeginsWith s.begins (last_bodies last ss) at s.first begun → Dialogue Responds s.number begun s.turns at' → SegmentsTo last house (ss ++ s ∷ []) at'
one_on last house at begun at' [] s to begins talk = (begun, at', subst (λ (h : House). BeginsWith s.begins last h s.first begun) to begins, talk, refl)
one_on last house at begun at' (t ∷ ss) s to begins talk = (to.0, to.1, to.2, to.3, one_on (Some (segment_bodies t)) to.1 at begun at' ss s to.4 begins talk)

-- ---- the records of the last segment

abbrev last_in : Option Bodies → List Bodies → Option Bodies
last_in last [] = last
last_in last (bodies ∷ later) = last_in (Some bodies) later

last_is : (last : Option Bodies) (ss : List FolderSegment) → last_bodies last ss ≡ last_in last (map segment_bodies ss)
last_is last [] = refl
last_is last (s ∷ ss) = last_is (Some (segment_bodies s)) ss

last_on : (last : Option Bodies) (before : List Bodies) (bodies : Bodies) → last_in last (before ++ bodies ∷ []) ≡ Some bodies
last_on last [] bodies = refl
last_on last (b ∷ before) bodies = last_on (Some b) before bodies

more_on : (body : List ℕ) (before : List Bodies) (bodies : Bodies) → one_more body (before ++ bodies ∷ []) ≡ before ++ (bodies ++ body ∷ []) ∷ []
more_on body [] bodies = refl
more_on body (b ∷ []) bodies = refl
more_on body (b ∷ c ∷ before) bodies = ap (λ (l : List Bodies). b ∷ l) (more_on body (c ∷ before) bodies)

-- ---- what is so at a moment

-- a session reads the records of the last segment: from the first one on it did some again
data IsRead (last : Option Bodies) (s : Session) (left : Bodies) : Type 0 where
  NoneKept : last ≡ None → s.house ≡ new_house → left ≡ [] → IsRead last s left
  SomeKept : (first : List ℕ) (done : Bodies) (begun : House) → last ≡ Some (first ∷ (done ++ left)) → Resumes first begun
      → RedoneBy begun done s.house → IsRead last s left

-- the house is where a folder ends, but for the record of a turn, if it waits
record IsIn (kept : List Bodies) (s : Session) (waits : Option (List ℕ)) : Type 0 where
  before : List FolderSegment
  here : FolderSegment
  mid : House
  begun : House
  bodies : Bodies
  to : SegmentsTo None new_house before mid
  begins : BeginsWith here.begins (last_bodies None before) mid here.first begun
  talk : Dialogue Responds here.number begun here.turns s.house
  counted : here.number + length here.turns ≡ s.number + 1
  these : segment_bodies here ≡ bodies ++ bodies_in waits
  kept_are : map segment_bodies before ++ bodies ∷ [] ≡ kept

-- the record that waits begins a segment of a folder
record IsFirst (kept : List Bodies) (s : Session) (body : List ℕ) : Type 0 where
  segments : List FolderSegment
  at : House
  how : Beginning
  to : SegmentsTo None new_house segments at
  begins : BeginsWith how (last_bodies None segments) at body s.house
  kept_are : map segment_bodies segments ≡ kept

abbrev Stands : (begins : Bool) → (kept : List Bodies) → Session → (waits : Option (List ℕ)) → Type 0
Stands true kept s (Some body) = IsFirst kept s body
Stands true kept s None = IsIn kept s None
Stands false kept s waits = IsIn kept s waits

abbrev At : (kept : List Bodies) → Doing → Type 0
At kept Nothing = Unit {0}
At kept (Reads s left) = IsRead (last_in None kept) s left
At kept (Asks begins s) = Stands begins kept s s.body

record IsSo (c : Caller) : Type 0 where
  folder : AreOfFolder c.kept
  at : At c.kept c.doing

-- ---- one step

-- what the house of before did again, and one record more
redone_on : (begun mid at : House) (done : Bodies) (body : List ℕ) → RedoneBy begun done mid → Redoes mid body at → RedoneBy begun (done ++ body ∷ []) at
redone_on begun mid at [] body redone redoes = (at, subst (λ (h : House). Redoes h body at) redone redoes, refl)
redone_on begun mid at (b ∷ done) body redone redoes = (redone.0, redone.1, redone_on redone.0 mid at done body redone.2 redoes)

read_on : (last : Option Bodies) (s s' : Session) (body : List ℕ) (left : Bodies) → IsRead last s (body ∷ left) → Redoes s.house body s'.house → IsRead last s' left
read_on last s s' body left (NoneKept none new nothing) redoes = absurd (cc (nothing))
read_on last s s' body left (SomeKept first done begun is resumes redone) redoes =
    SomeKept first (done ++ body ∷ []) begun (is ∙ ap (λ (l : Bodies). Some (first ∷ l)) (sym (append_assoc done (body ∷ []) left)))
    resumes (redone_on begun s.house s'.house done body redone redoes)

-- a house that was not made is new after the end of its life
new_ends : (h opened : House) → h ≡ new_house → EndsLife h opened → opened ≡ new_house
new_ends h opened new (NoneMade none) = refl
new_ends h opened new (Restarts c c' some fits starts) =
    let none : None ≡ Some c = sym (ap (λ (k : House). k.home) new) ∙ some in absurd (cc (none))

opens_from : (last : Option Bodies) (s : Session) (opened : House) → IsRead last s [] → EndsLife s.house opened → OpensFrom last opened
opens_from last s opened (NoneKept none new nothing) ends = subst (λ (l : Option Bodies). OpensFrom l opened) (sym none) (new_ends s.house opened new ends)
opens_from last s opened (SomeKept first done begun is resumes redone) ends =
    subst (λ (l : Option Bodies). OpensFrom l opened) (sym is)
    (record {
      first = first;
      others = done ++ [];
      begun = begun;
      at = s.house;
      split = refl;
      resumes = resumes;
      redone = subst (λ (l : Bodies). RedoneBy begun l s.house) (sym (append-nil done)) redone;
      ends = ends;
    })

starts_so : (kept : List Bodies) (s s' : Session) → AreOfFolder kept → IsRead (last_in None kept) s [] → IsStarted s.house s' → Stands true kept s' s'.body
starts_so kept s s' folder read started =
    let end = folder_to None new_house folder.segments folder.folder in
    let last : last_in None kept ≡ last_bodies None folder.segments = sym (last_is None folder.segments ∙ ap (last_in None) folder.kept_are) in
    let from = opens_from (last_bodies None folder.segments) s started.opened (subst (λ (l : Option Bodies). IsRead l s []) last read) started.ends in
    subst (λ (w : Option (List ℕ)). Stands true kept s' w) (sym started.waits)
    (record {
      segments = folder.segments;
      at = end.0;
      how = ProcessBegins;
      to = end.1;
      begins = (started.opened, from, started.starts, started.record_is);
      kept_are = folder.kept_are;
    })

-- no record waits at a session that takes a line
none_waits : (stage : Stage) (waits : Option (List ℕ)) (number : ℕ) (line : List ℕ) → why_no_line stage waits number line ≡ None → waits ≡ None
none_waits is.Reading waits number line taken = absurd (cc (taken))
none_waits is.Running None number line taken = refl
none_waits is.Running (Some body) number line taken = absurd (cc (taken))
none_waits is.Spent waits number line taken = absurd (cc (taken))

no_record : (begins : Bool) (kept : List Bodies) (s : Session) → s.body ≡ None → Stands begins kept s s.body → IsIn kept s None
no_record true kept s none stands = subst (λ (w : Option (List ℕ)). Stands true kept s w) none stands
no_record false kept s none stands = subst (λ (w : Option (List ℕ)). Stands false kept s w) none stands

-- the segments of a session of which no record waits
module _ (kept : List Bodies) (s : Session) (i : IsIn kept s None) where
  all_to : SegmentsTo None new_house (i.before ++ i.here ∷ []) s.house
  all_to = one_on None new_house i.mid i.begun s.house i.before i.here i.to i.begins i.talk

  all_kept : map segment_bodies (i.before ++ i.here ∷ []) ≡ kept
  all_kept =
      map-append segment_bodies i.before (i.here ∷ [])
      ∙ ap (λ (b : Bodies). map segment_bodies i.before ++ b ∷ []) (i.these ∙ append-nil i.bodies)
      ∙ i.kept_are

  folder_of : AreOfFolder kept
  folder_of = record { segments = i.before ++ i.here ∷ []; folder = are_segments None new_house s.house (i.before ++ i.here ∷ []) all_to; kept_are = all_kept }

-- a line more
said_so : (kept : List Bodies) (s s' : Session) (line : List ℕ) → IsIn kept s None → IsSaid s line s' → IsIn kept s' s'.body
said_so kept s s' line i said =
    let turn : Turn = record { line = line; said = said.said } in
    let now : Responds s.house (i.here.number + length i.here.turns) line said.said s'.house =
    subst (λ (n : ℕ). Responds s.house n line said.said s'.house) (sym i.counted) said.responds in
    let counted = i.counted in let more = length-append i.here.turns (turn ∷ []) in let number = said.number in
    let these : segment_bodies (record i.here { turns = i.here.turns ++ turn ∷ [] }) ≡ i.bodies ++ bodies_in said.said.body =
    ap (λ (l : Bodies). i.here.first ∷ l) (bodies-append i.here.turns (turn ∷ []) ∙ ap (λ (l : Bodies). bodies_of i.here.turns ++ l) (append-nil (bodies_in said.said.body)))
    ∙ ap (λ (l : Bodies). l ++ bodies_in said.said.body) (i.these ∙ append-nil i.bodies) in
    subst (λ (w : Option (List ℕ)). IsIn kept s' w) (sym said.body)
    (record {
      before = i.before;
      here = record i.here { turns = i.here.turns ++ turn ∷ [] };
      mid = i.mid;
      begun = i.begun;
      bodies = i.bodies;
      to = i.to;
      begins = i.begins;
      talk = talks_on Responds i.here.number i.begun s.house s'.house i.here.turns (turn ∷ []) i.talk (s'.house, now, refl);
      counted = omega (arith, counted, more, number);
      these = these;
      kept_are = i.kept_are;
    })

next_so : (kept : List Bodies) (s : Session) (body : List ℕ) → IsIn kept s None → IsSegmentRecord s.house body
    → IsFirst kept (record s { text = []; body = Some body }) body
next_so kept s body i is = record {
  segments = i.before ++ i.here ∷ [];
  at = s.house;
  how = ProcessGoesOn;
  to = all_to kept s i;
  begins = (refl, is);
  kept_are = all_kept kept s i;
}

kept_first : (kept : List Bodies) (s : Session) (body : List ℕ) → IsFirst kept s body → IsIn (kept ++ (body ∷ []) ∷ []) (record s { body = None }) None
kept_first kept s body f = record {
  before = f.segments;
  here = record { begins = f.how; first = body; number = s.number + 1; turns = [] };
  mid = f.at;
  begun = s.house;
  bodies = body ∷ [];
  to = f.to;
  begins = f.begins;
  talk = refl;
  counted = omega arith;
  these = refl;
  kept_are = ap (λ (l : List Bodies). l ++ (body ∷ []) ∷ []) f.kept_are;
}

kept_next : (kept : List Bodies) (s : Session) (body : List ℕ) → IsIn kept s (Some body) → IsIn (one_more body kept) (record s { body = None }) None
kept_next kept s body i = record {
  before = i.before;
  here = i.here;
  mid = i.mid;
  begun = i.begun;
  bodies = i.bodies ++ body ∷ [];
  to = i.to;
  begins = i.begins;
  talk = i.talk;
  counted = i.counted;
  these = i.these ∙ sym (append-nil (i.bodies ++ body ∷ []));
  kept_are = sym (more_on body (map segment_bodies i.before) i.bodies) ∙ ap (one_more body) i.kept_are;
}

-- ---- a life

at_doing : (c : Caller) (doing : Doing) → c.doing ≡ doing → IsSo c → At c.kept doing
at_doing c doing is so = subst (λ (d : Doing). At c.kept d) is so.at

goes_so : (c c' : Caller) → IsSo c → GoesOn c c' → IsSo c'
goes_so c c' so Stops = record { folder = so.folder; at = tt }
goes_so c c' so (New nothing none) = record { folder = so.folder; at = NoneKept (ap (last_in None) none) refl refl }
goes_so c c' so (Opens before first others s nothing some resumes) = record {
  folder = so.folder;
  at = SomeKept first [] s.house (ap (last_in None) some ∙ last_on None before (first ∷ others)) resumes refl;
}
goes_so c c' so (Reading s s' body left reads redoes) = record {
  folder = so.folder;
  at = read_on (last_in None c.kept) s s' body left (at_doing c (Reads s (body ∷ left)) reads so) redoes;
}
goes_so c c' so (Starts s s' reads started) = record {
  folder = so.folder;
  at = starts_so c.kept s s' so.folder (at_doing c (Reads s []) reads so) started;
}
goes_so c c' so (Says begins s s' line asks said) =
    let none = none_waits s.stage s.body s.number line said.taken in record {
      folder = so.folder;
      at = said_so c.kept s s' line (no_record begins c.kept s none (at_doing c (Asks begins s) asks so)) said;
    }
goes_so c c' so (NextSegment begins s body asks none is) = record {
  folder = so.folder;
  at = next_so c.kept s body (no_record begins c.kept s none (at_doing c (Asks begins s) asks so)) is;
}
goes_so c c' so (KeepsFirst s body asks waits) =
    let first : IsFirst c.kept s body = subst (λ (w : Option (List ℕ)). Stands true c.kept s w) waits (at_doing c (Asks true s) asks so) in
    let now = kept_first c.kept s body first in record {
      folder = folder_of (c.kept ++ (body ∷ []) ∷ []) (record s { body = None }) now;
      at = now;
    }
goes_so c c' so (KeepsNext s body asks waits) =
    let turn : IsIn c.kept s (Some body) = subst (λ (w : Option (List ℕ)). Stands false c.kept s w) waits (at_doing c (Asks false s) asks so) in
    let now = kept_next c.kept s body turn in record {
      folder = folder_of (one_more body c.kept) (record s { body = None }) now;
      at = now;
    }

lives_so : (c : Caller) → Lives c → IsSo c
lives_so c Begins = record { folder = record { segments = []; folder = tt; kept_are = refl }; at = tt }
lives_so c (Later b c' lives goes) = goes_so b c' (lives_so b lives) goes

pub are_of_folder : (c : Caller) → Lives c → AreOfFolder c.kept
are_of_folder c lives = (lives_so c lives).folder
