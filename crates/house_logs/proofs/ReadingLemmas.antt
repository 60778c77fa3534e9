-- What was read of a journal, and one record more.
use Rattle.std.proofs.Common.{◌≡◌, ℕ, ◌+◌, Bool, true, false, List, [], ◌∷◌, ◌++◌, Option, Some, None, refl, sym, ◌∙◌, ap, subst, append_assoc}
use Rattle.std.specs.Prelude.{Result, Ok, Err, IfOk, codes, decimal, is_none}
use Rattle.std.specs.Bool.{OnTrue}
use Rattle.std.specs.Result.{IsErr, IsErrAnd}
use Rattle.cds_stamps.specs.declared.alloc_or.AllocOr.{AllocOr}
use Rattle.cds_stamps.specs.declared.alloc_or.AllocOr.TheVariants.{Fault, OutOfMemory}
use Rattle.cell_script.specs.Words.{words_of}
use Rattle.house_entries.specs.Bodies.{IsBody}
use Rattle.house_lines.specs.LineRows.{said_in}
use Rattle.house_lines.specs.declared.line.HouseLine.TheVariants as asks
use Rattle.house_logs.specs.declared.log.LogEntry.{LogEntry}
use Rattle.house_logs.specs.declared.log.LogEntry.TheVariants as entry
use Rattle.house_logs.specs.declared.log.LoggedTurn.{LoggedTurn}
use Rattle.house_logs.specs.declared.log.Making.{Making}
use Rattle.house_logs.specs.declared.log.PostedOctets.{PostedOctets}
use Rattle.house_logs.specs.declared.reader.LogReader.{LogReader}
use Rattle.house_logs.specs.declared.text.TurnText.{TurnText}
use Rattle.house_logs.specs.Logs.{IsLogOf, making_text}
use Rattle.house_logs.specs.PrivateReads.{IsAfterRunning, IsMadeBy, IsTurnBy, IsTurnText}
use Rattle.house_logs.specs.Reads.{HasRead, HasReadOf, IfFault, OfFault, told_of}
use Rattle.house_logs.specs.Records.{AreRecords, Follows, CanBe, OfEntry, SegmentRecord, Shows, StartRecord, Told, TurnRecord, image_of, running_text, with_image}
use Rattle.house_logs.specs.TurnTexts.{AreParts, HasNoEnd, turn_text}

-- ---- records

-- one record more
pub records-more : (s mid end : Told) (bodies : List (List ℕ)) (body : List ℕ) → AreRecords s bodies mid → Follows mid body end
    → AreRecords s (bodies ++ body ∷ []) end
records-more s mid end [] body same next = (end, subst (λ (z : Told). Follows z body end) same next, refl)
records-more s mid end (b ∷ bodies) body all next = (all.0, all.1, records-more all.0 mid end bodies body all.2 next)

-- one record more of a house that was made
added : (bodies : List (List ℕ)) (octets : List ℕ) (s end : Told) → IsLogOf bodies s → Follows s octets end → IsLogOf (bodies ++ octets ∷ []) end
added bodies octets s end has one = record {
  news = has.news;
  first = has.first;
  others = has.others ++ octets ∷ [];
  begun = has.begun;
  parts = ap (λ (l : List (List ℕ)). l ++ octets ∷ []) has.parts ∙ append_assoc has.news (has.first ∷ has.others) (octets ∷ []);
  are_new = has.are_new;
  begins = has.begins;
  records = records-more has.begun s end has.others octets has.records one;
}

-- ---- one record more

-- of a house that was made
pub more_read : (o : Option Making) (r new : LogReader) (bodies : List (List ℕ)) (octets : List ℕ) → HasReadOf o r bodies → is_none o ≡ false
    → ((m : Making) → Follows (told_of m r) octets (told_of m new)) → HasReadOf o new (bodies ++ octets ∷ [])
more_read None r new bodies octets has some next = absurd (cc (some))
more_read (Some m) r new bodies octets has some next = added bodies octets (told_of m r) (told_of m new) has (next m)

-- the house is made
pub making_read : (o : Option Making) (r new : LogReader) (bodies : List (List ℕ)) (octets line : List ℕ) (m : Making) → HasReadOf o r bodies → o ≡ None
    → HasNoEnd line → said_in (words_of line) ≡ Ok (Some (asks.House m.house m.node)) → new.number ≡ r.number + 1 → new.clock ≡ 0
    → new.turn.items ≡ making_text line → new.entries.items ≡ r.entries.items → new.image ≡ None → IsBody octets (r.number + 1) 0 (making_text line) None
    → HasReadOf (Some m) new (bodies ++ octets ∷ [])
making_read (Some n) r new bodies octets line m has none one says number clock turn es bare is = absurd (cc (none))
making_read None r new bodies octets line m has none one says number clock turn es bare is = record {
  news = bodies;
  first = octets;
  others = [];
  begun = told_of m new;
  parts = refl;
  are_new = has.0;
  begins = record {
    line = line;
    no_end = one;
    says = says;
    body_is = subst (λ (n : ℕ). IsBody octets n 0 (making_text line) None) first is;
    bare = bare;
    alone = es ∙ has.2;
    number = number ∙ first;
    clock = clock;
    turn = turn;
  };
  records = refl;
}
  where
    first : r.number + 1 ≡ 1
    first = ap (λ (n : ℕ). n + 1) has.1

-- ---- images

-- the last entry of what was read shows an image
pub last_shown : (m : Making) (r new : LogReader) (front : List LogEntry) (e shown : LogEntry) (image : List ℕ) (known : Option (List ℕ))
    → r.entries.items ≡ front ++ e ∷ [] → known ≡ image_of e → CanBe known image → shown ≡ with_image image e → new.entries.items ≡ front ++ shown ∷ []
    → new.image ≡ r.image → new.number ≡ r.number → new.clock ≡ r.clock → new.turn ≡ r.turn → Shows (told_of m r) image (told_of m new)
last_shown m r new front e shown image known parts is can with es kept number clock turn =
    OfEntry front e parts (subst (λ (o : Option (List ℕ)). CanBe o image) is can) (λ j. record {
      house = m.house;
      node = m.node;
      image = kept j;
      entries = (es ∙ ap (λ (l : LogEntry). front ++ l ∷ []) with) j;
      number = number j;
      clock = clock j;
      turn = (turn j).items;
    })

-- what follows where an image was shown
pub shown_then : {E : Type 0} {P : Making → Type 0} {Q : Type 0} (result : Result Bool E) → ((m : Making) → IfOk result (λ b. OnTrue b (P m)))
    → (((m : Making) → P m) → Q) → IfOk result (λ b. OnTrue b Q)
shown_then (Ok true) all then = then all
shown_then (Ok false) all then = tt
shown_then (Err e) all then = tt

-- ---- with the fields of a record

-- what was read with this house
read_with : (r : LogReader) (o : Option Making) (bodies : List (List ℕ)) → r.made ≡ o → HasReadOf o r bodies → HasRead r bodies
read_with r o bodies made is = record { is = subst (λ (m : Option Making). HasReadOf m r bodies) (sym made) is }

-- a start
pub took_start : (r new : LogReader) (bodies : List (List ℕ)) (octets image turn : List ℕ) (number clock : ℕ) → HasRead r bodies
    → IsBody octets number clock (codes "start" ++ (10 ∷ turn)) (Some image) → is_none r.made ≡ false → number ≡ r.number + 1 → clock ≡ 0
    → turn ≡ r.turn.items → new.made ≡ r.made → new.image ≡ r.image → new.number ≡ number → new.clock ≡ 0 → new.turn.items ≡ r.turn.items
    → new.entries.items ≡ r.entries.items ++ entry.Started image ∷ [] → HasRead new (bodies ++ octets ∷ [])
took_start r new bodies octets image turn number clock has is some due timed last made kept numbered timed' turned es =
    read_with new r.made (bodies ++ octets ∷ []) made (more_read r.made r new bodies octets has.is some one)
  where
    body : IsBody octets (r.number + 1) 0 (codes "start" ++ (10 ∷ r.turn.items)) (Some image)
    body =
        subst (λ (n : ℕ). IsBody octets n 0 (codes "start" ++ (10 ∷ r.turn.items)) (Some image)) due
        (subst (λ (k : ℕ). IsBody octets number k (codes "start" ++ (10 ∷ r.turn.items)) (Some image)) timed
        (subst (λ (t : List ℕ). IsBody octets number clock (codes "start" ++ (10 ∷ t)) (Some image)) last is))

    one : (m : Making) → Follows (told_of m r) octets (told_of m new)
    one m = StartRecord image body (λ j. record {
      house = m.house;
      node = m.node;
      image = kept j;
      entries = es j;
      number = (numbered ∙ due) j;
      clock = timed' j;
      turn = turned j;
    })

-- the text of such a record, by its line
segment_says : (text rest turn : List ℕ) (number : ℕ) (running : List (List ℕ)) → text ≡ (codes "segment " ++ (decimal number ++ 10 ∷ [])) ++ rest
    → rest ≡ running_text running ++ turn → text ≡ codes "segment " ++ (decimal number ++ (10 ∷ (running_text running ++ turn)))
segment_says text rest turn number running is says =
    is
    ∙ ap (λ (r : List ℕ). (codes "segment " ++ (decimal number ++ 10 ∷ [])) ++ r) says
    ∙ append_assoc (codes "segment ") (decimal number ++ 10 ∷ []) (running_text running ++ turn)
    ∙ ap (λ (l : List ℕ). codes "segment " ++ l) (append_assoc (decimal number) (10 ∷ []) (running_text running ++ turn))

-- the first record of a segment in the middle of a process
pub took_segment : (r new : LogReader) (bodies : List (List ℕ)) (octets image text line rest : List ℕ) (number clock : ℕ) → HasRead r bodies
    → IsBody octets number clock text (Some image) → is_none r.made ≡ false → number ≡ r.number → clock ≡ r.clock
    → line ≡ codes "segment " ++ (decimal r.number ++ 10 ∷ []) → text ≡ line ++ rest → IsAfterRunning rest r.turn.items
    → new.made ≡ r.made → ((m : Making) → Shows (told_of m r) image (told_of m new)) → HasRead new (bodies ++ octets ∷ [])
took_segment r new bodies octets image text line rest number clock has is some due timed begins parts runs made shows =
    read_with new r.made (bodies ++ octets ∷ []) made
    (more_read r.made r new bodies octets has.is some (λ m. SegmentRecord image (record { running = runs.lines; lines = runs.each; is = body }) (shows m)))
  where
    whole : List ℕ
    whole = codes "segment " ++ (decimal r.number ++ (10 ∷ (running_text runs.lines ++ r.turn.items)))

    says : text ≡ whole
    says = segment_says text rest r.turn.items r.number runs.lines (parts ∙ ap (λ (l : List ℕ). l ++ rest) begins) runs.are

    body : IsBody octets r.number r.clock whole (Some image)
    body =
        subst (λ (n : ℕ). IsBody octets n r.clock whole (Some image)) due
        (subst (λ (k : ℕ). IsBody octets number k whole (Some image)) timed
        (subst (λ (t : List ℕ). IsBody octets number clock t (Some image)) says is))

-- a turn
pub took_turn : (r new : LogReader) (bodies : List (List ℕ)) (octets text : List ℕ) (number clock : ℕ) (parts : TurnText) (t : LoggedTurn)
    → HasRead r bodies → IsBody octets number clock text None → IsTurnBy parts clock t → is_none r.made ≡ false → number ≡ r.number + 1
    → IsTurnText text parts.line.now parts.posts.items parts.answer.now → new.made ≡ r.made → new.image ≡ r.image → new.number ≡ number
    → new.clock ≡ clock → new.turn.items ≡ text → new.entries.items ≡ r.entries.items ++ entry.Turned t ∷ [] → HasRead new (bodies ++ octets ∷ [])
took_turn r new bodies octets text number clock parts t has is by some due says made kept numbered timed turned es =
    read_with new r.made (bodies ++ octets ∷ []) made (more_read r.made r new bodies octets has.is some one)
  where
    line : List ℕ
    line = parts.line.now

    same : text ≡ turn_text line t.posts.items t.answer
    same = says.is ∙ (λ j. turn_text line (sym by.posts j).items (sym by.answer j))

    body : IsBody octets (r.number + 1) t.clock (turn_text line t.posts.items t.answer) None
    body =
        subst (λ (n : ℕ). IsBody octets n t.clock (turn_text line t.posts.items t.answer) None) due
        (subst (λ (k : ℕ). IsBody octets number k (turn_text line t.posts.items t.answer) None) (sym by.clock_is)
        (subst (λ (x : List ℕ). IsBody octets number clock x None) same is))

    kept_parts : AreParts line t.posts.items t.answer
    kept_parts = subst (λ (a : List ℕ). AreParts line t.posts.items a) (sym by.answer) (subst (λ (ps : List PostedOctets). AreParts line ps parts.answer.now) (λ j. (sym by.posts j).items) says.parts)

    one : (m : Making) → Follows (told_of m r) octets (told_of m new)
    one m = TurnRecord line t (record { says = by.says; parts = kept_parts }) (record { is = body; bare = by.bare }) (λ j. record {
      house = m.house;
      node = m.node;
      image = kept j;
      entries = es j;
      number = (numbered ∙ due) j;
      clock = (timed ∙ sym by.clock_is) j;
      turn = (turned ∙ same) j;
    })

-- the turn that makes the house
pub took_making : (r new : LogReader) (bodies : List (List ℕ)) (octets text : List ℕ) (number clock : ℕ) (parts : TurnText) (m : Making)
    → HasRead r bodies → IsBody octets number clock text None → IsMadeBy parts m → r.made ≡ None → number ≡ r.number + 1 → clock ≡ 0
    → IsTurnText text parts.line.now parts.posts.items parts.answer.now → new.made ≡ Some m → new.image ≡ None → new.number ≡ number
    → new.clock ≡ 0 → new.turn.items ≡ text → new.entries.items ≡ r.entries.items → HasRead new (bodies ++ octets ∷ [])
took_making r new bodies octets text number clock parts m has is by none due timed says made bare numbered timed' turned es =
    read_with new (Some m) (bodies ++ octets ∷ []) made
    (making_read r.made r new bodies octets parts.line.now m has.is none says.parts.no_end by.says (numbered ∙ due) timed' (turned ∙ same) es bare body)
  where
    same : text ≡ making_text parts.line.now
    same = says.is ∙ (λ j. turn_text parts.line.now (by.posts j) (by.answer j))

    body : IsBody octets (r.number + 1) 0 (making_text parts.line.now) None
    body =
        subst (λ (n : ℕ). IsBody octets n 0 (making_text parts.line.now) None) due
        (subst (λ (k : ℕ). IsBody octets number k (making_text parts.line.now) None) timed
        (subst (λ (x : List ℕ). IsBody octets number clock x None) same is))

-- ---- faults

-- what a fault implies
pub fault_then : {F : Type 0} {P Q : F → Type 0} (e : AllocOr F) → ((f : F) → Q f → P f) → OfFault e Q → OfFault e P
fault_then (Fault f) then is = then f is
fault_then OutOfMemory then is = tt

-- one that is passed on
pub fault_passed : {U F : Type 0} {P Q : F → Type 0} (r : Result U (AllocOr F)) (e : AllocOr F) → IsErr r × IsErrAnd r (λ y. y ≡ e)
    → ((f : F) → Q f → P f) → OfFault e Q → IfFault r P
fault_passed (Ok x) e is then q = tt
fault_passed {U} {F} {P} {Q} (Err y) e is then q = subst (λ (z : AllocOr F). OfFault z P) (sym is.1) (fault_then e then q)

-- what two facts of a fault imply
two_then : {F : Type 0} {P Q R : F → Type 0} (e : AllocOr F) → ((f : F) → Q f → R f → P f) → OfFault e Q → OfFault e R → OfFault e P
two_then (Fault f) then q r = then f q r
two_then OutOfMemory then q r = tt

-- of one that is passed on
pub two_passed : {U F : Type 0} {P Q R : F → Type 0} (r : Result U (AllocOr F)) (e : AllocOr F) → IsErr r × IsErrAnd r (λ y. y ≡ e)
    → ((f : F) → Q f → R f → P f) → OfFault e Q → OfFault e R → IfFault r P
two_passed (Ok x) e is then q s = tt
two_passed {U} {F} {P} {Q} {R} (Err y) e is then q s = subst (λ (z : AllocOr F). OfFault z P) (sym is.1) (two_then e then q s)

-- that of a call
pub fault_called : {U F : Type 0} {P Q : F → Type 0} (r : Result U (AllocOr F)) → ((f : F) → Q f → P f) → IfFault r Q → IfFault r P
fault_called (Ok x) then q = tt
fault_called (Err e) then q = fault_then e then q

-- what was read does not know of the digest and the number of the segment
pub read_kept : (read new : LogReader) (bodies : List (List ℕ)) → new.made ≡ read.made → new.image ≡ read.image → new.entries.items ≡ read.entries.items
    → new.number ≡ read.number → new.clock ≡ read.clock → new.turn ≡ read.turn → HasRead read bodies → HasRead new bodies
read_kept read new bodies made image es number clock turn has =
    read_with new read.made bodies made (by read.made has.is)
  where
    by : (o : Option Making) → HasReadOf o read bodies → HasReadOf o new bodies
    by None is = (is.0, number ∙ is.1, es ∙ is.2)
    by (Some m) is = subst (IsLogOf bodies) (λ j. record {
      house = m.house;
      node = m.node;
      image = sym image j;
      entries = sym es j;
      number = sym number j;
      clock = sym clock j;
      turn = (sym turn j).items;
    }) is
