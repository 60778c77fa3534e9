-- How a house resumes with the first record of a segment: as it was when that was made.
use Rattle.std.proofs.Common.{◌≡◌, ◌≢◌, ℕ, List, [], ◌∷◌, ◌++◌, drop, get_or, refl, sym, ap, subst, ◌∙◌, arith}
use Rattle.std.specs.Prelude.{Option, Some, None, Result, Ok, Err, IfNone, IfOk, IfSome, OnSome, codes, false}
use Rattle.std.specs.declared.alloc.AllocError.{AllocError}
use Rattle.std.proofs.lemmas.List.{append_cancel_left}
use Rattle.cds_records.specs.RecordOctets.{image_octets}
use Rattle.clearinghouse.specs.HouseImages.{image_of, skulks_of, start_of_octets, with_skulks}
use Rattle.clearinghouse.specs.declared.house.Clearinghouse.{Clearinghouse}
use Rattle.clearinghouse.specs.declared.running.RunningSkulk.{RunningSkulk}
use Rattle.house_entries.specs.Bodies.{IsBody}
use Rattle.house_entries.proofs.BodyLemmas.{one_record}
use Rattle.house_turns.specs.declared.house.House.{House}
use Rattle.house_turns.specs.declared.running.RunningLines.{RunningLines}
use Rattle.house_turns.specs.Openings.{Anew, Began, EndsLife, HasTurn, IsSegmentRecord, IsTurnText, NoneMade, OpensBy, Restarts, Resumes, WentOn}
use Rattle.house_turns.specs.Openings.{house_with, is_skulk, new_house, segment_line, segment_text, start_text}
use Rattle.house_turns.specs.PrivateTurns.{IsFirstText, OfSegment, OfStart, ReadsFirst, ReadsSkulks, ResumesAs, ResumesBy, SkulksFirst}
use Rattle.house_turns.specs.Records.{IsRecord, image_in}
use Rattle.house_turns.specs.RunningSkulks.{AllFit, SkulksFit, running_lines}
use Rattle.house_turns.proofs.RunningLines.{skulks_again}

-- ---- as it was

-- a house resumes as this one, whose clearinghouse starts of its image and has these skulks
pub record Resumed (b : House) (c : Clearinghouse) (skulks : List RunningSkulk) (last : List ℕ) (h : House) : Type 0 where
  pub home : Clearinghouse
  pub starts : start_of_octets (image_octets (image_of c)) ≡ Ok home
  pub is : h ≡ house_with (with_skulks skulks home) b.entry b.clock last

-- the fields of a house that resumes
resumed : (b : House) (c home : Clearinghouse) (skulks skulks' : List RunningSkulk) (entry clock : ℕ) (last last' image : List ℕ)
    → b.entry ≡ entry → b.clock ≡ clock → last ≡ last' → skulks ≡ skulks' → ◌≡◌ {A = Option (List ℕ)} (Some (image_octets (image_of c))) (Some image)
    → start_of_octets image ≡ Ok home → Resumed b c skulks last (house_with (with_skulks skulks' home) entry clock last')
resumed b c home skulks skulks' entry clock last last' image entries clocks lasts same images starts =
    let octets : image_octets (image_of c) ≡ image = cc images in
    record {
      home = home;
      starts = ap start_of_octets octets ∙ starts;
      is =
          ap (λ (s : List RunningSkulk). house_with (with_skulks s home) entry clock last') (sym same)
          ∙ ap (λ (e : ℕ). house_with (with_skulks skulks home) e clock last') (sym entries)
          ∙ ap (λ (k : ℕ). house_with (with_skulks skulks home) b.entry k last') (sym clocks)
          ∙ ap (house_with (with_skulks skulks home) b.entry b.clock) (sym lasts);
    }

-- the image of a house that was made
made_image : (b : House) (c : Clearinghouse) → b.home ≡ Some c → image_in b.home ≡ Some (image_octets (image_of c))
made_image b c made = ap image_in made

-- the text of a segment is not that of a start
other_text : (last rest : List ℕ) (entry : ℕ) → codes "start" ++ (10 ∷ last) ≢ segment_line entry ++ rest
other_text last rest entry same = let e : 116 ≡ 101 = ap (λ (l : List ℕ). get_or l 1 0) same in omega (arith, e)

-- at a start
pub start_resumes : (b h : House) (c : Clearinghouse) (last octets : List ℕ) → b.home ≡ Some c → IsRecord b (start_text (Some c) last) octets
    → Resumes octets h → Resumed b c [] last h
start_resumes b _ c last octets made is (Anew clock body) =
    let none = (one_record octets b.entry b.clock (start_text (Some c) last) (image_in b.home) 0 clock (codes "new" ++ 10 ∷ []) None is.body body).3 in
    absurd (cc (none, made_image b c made))
start_resumes b _ c last octets made is (Began entry clock last' image c' body starts) =
    let same = one_record octets b.entry b.clock (start_text (Some c) last) (image_in b.home) entry clock (codes "start" ++ (10 ∷ last')) (Some image) is.body body in
    resumed b c c' [] [] entry clock last last' image same.0 same.1 (ap (drop 6) same.2) refl (sym (made_image b c made) ∙ same.3) starts
start_resumes b _ c last octets made is (WentOn entry clock skulks last' image c' body fit ends starts) =
    let same = one_record octets b.entry b.clock (start_text (Some c) last) (image_in b.home) entry clock (segment_line entry ++ (running_lines skulks ++ last'))
    (Some image) is.body body in
    absurd (other_text last (running_lines skulks ++ last') entry same.2)

-- at a next segment
segment_of : (b h : House) (c : Clearinghouse) (octets : List ℕ) → b.home ≡ Some c → is_skulk b.last ≡ false → AllFit (skulks_of c)
    → IsRecord b (segment_text b (Some c)) octets → Resumes octets h → Resumed b c (skulks_of c) b.last h
segment_of b _ c octets made other fits is (Anew clock body) =
    let none = (one_record octets b.entry b.clock (segment_text b (Some c)) (image_in b.home) 0 clock (codes "new" ++ 10 ∷ []) None is.body body).3 in
    absurd (cc (none, made_image b c made))
segment_of b _ c octets made other fits is (Began entry clock last' image c' body starts) =
    let same = one_record octets b.entry b.clock (segment_text b (Some c)) (image_in b.home) entry clock (codes "start" ++ (10 ∷ last')) (Some image) is.body body in
    absurd (other_text last' (running_lines (skulks_of c) ++ b.last) b.entry (sym same.2))
segment_of b _ c octets made other fits is (WentOn entry clock skulks last' image c' body fit ends starts) =
    let same = one_record octets b.entry b.clock (segment_text b (Some c)) (image_in b.home) entry clock (segment_line entry ++ (running_lines skulks ++ last'))
    (Some image) is.body body in
    let texts : segment_line entry ++ (running_lines (skulks_of c) ++ b.last) ≡ segment_line entry ++ (running_lines skulks ++ last') =
    ap (λ (e : ℕ). segment_line e ++ (running_lines (skulks_of c) ++ b.last)) (sym same.0) ∙ same.2 in
    let lines = append_cancel_left (segment_line entry) (running_lines (skulks_of c) ++ b.last) (running_lines skulks ++ last') texts in
    let read = skulks_again (skulks_of c) skulks b.last last' fits fit other ends lines in
    resumed b c c' (skulks_of c) skulks entry clock b.last last' image same.0 same.1 read.1 read.0 (sym (made_image b c made) ∙ same.3) starts

pub segment_resumes : (b h : House) (c : Clearinghouse) (octets : List ℕ) → b.home ≡ Some c → is_skulk b.last ≡ false → IsSegmentRecord b octets
    → Resumes octets h → Resumed b c (skulks_of c) b.last h
segment_resumes b h c octets made other is =
    segment_of b h c octets made other (subst SkulksFit made is.running)
    (subst (λ (o : Option Clearinghouse). IsRecord b (segment_text b o) octets) made is.record_is)

-- a last turn is no line of a skulk
pub turn_is_no_skulk : (h : House) (c : Clearinghouse) → h.home ≡ Some c → HasTurn h.home h.last → is_skulk h.last ≡ false
turn_is_no_skulk h c made turn = (by h.last (subst (λ (o : Option Clearinghouse). HasTurn o h.last) made turn))
  where
    by : (last : List ℕ) → IsTurnText last → is_skulk last ≡ false
    by last turn = turn.no_skulk

-- ---- the last turn

pub last_of_start : (h o : House) (c : Clearinghouse) (last octets : List ℕ) → h.home ≡ Some c → IsRecord h (start_text (Some c) last) octets
    → Resumes octets o → o.last ≡ last
last_of_start h o c last octets made is resumes = ap (λ (k : House). k.last) (start_resumes h o c last octets made is resumes).is

pub last_of_segment : (h o : House) (c : Clearinghouse) (octets : List ℕ) → h.home ≡ Some c → HasTurn h.home h.last → IsSegmentRecord h octets
    → Resumes octets o → o.last ≡ h.last
last_of_segment h o c octets made turn is resumes =
    ap (λ (k : House). k.last) (segment_resumes h o c octets made (turn_is_no_skulk h c made turn) is resumes).is

pub last_of_end : (h o : House) (c : Clearinghouse) → h.home ≡ Some c → EndsLife h o → o.last ≡ h.last
last_of_end h _ c made (NoneMade none) = absurd (cc (made, none))
last_of_end h _ c made (Restarts c' home is fits starts) = refl

pub last_opened : (bodies : List (List ℕ)) (o : House) (c : Clearinghouse) (opens : OpensBy bodies o) → opens.at.home ≡ Some c → o.last ≡ opens.at.last
last_opened bodies o c opens made = last_of_end opens.at o c made opens.ends

-- ---- what is read of a first record

-- it is a start
pub start_read : (entry : ℕ) (text last : List ℕ) (lines : RunningLines) → text ≡ codes "start" ++ (10 ∷ last) → lines.skulks.items ≡ [] → lines.rest.now ≡ last
    → ReadsFirst entry text (Some lines)
start_read entry text last lines is none rest =
    subst (λ (s : List RunningSkulk). IsFirstText entry text s lines.rest.now) (sym none)
    (subst (IsFirstText entry text []) (sym rest) (OfStart last is))

-- it is none of a segment
pub not_first : (entry : ℕ) (text : List ℕ) → ((last : List ℕ) → text ≢ codes "start" ++ (10 ∷ last)) → ((rest : List ℕ) → text ≢ segment_line entry ++ rest)
    → (skulks : List RunningSkulk) (last : List ℕ) → IsFirstText entry text skulks last → ⊥
not_first entry text start segment _ last (OfStart _ is) = start last is
not_first entry text start segment skulks last (OfSegment rest _ _ is first) = segment rest is

-- it is one of a segment
pub segment_read : (entry : ℕ) (text rest : List ℕ) (o : Option RunningLines) → ((last : List ℕ) → text ≢ codes "start" ++ (10 ∷ last))
    → text ≡ segment_line entry ++ rest → ReadsSkulks rest o → ReadsFirst entry text o
segment_read entry text rest (Some lines) start is reads = OfSegment rest lines.skulks.items lines.rest.now is reads
segment_read entry text rest None start is reads = λ skulks last first. by skulks last first
  where
    by : (skulks : List RunningSkulk) (last : List ℕ) → IsFirstText entry text skulks last → ⊥
    by _ last (OfStart _ begins) = start last begins
    by skulks last (OfSegment others _ _ same first) =
        reads skulks last (subst (λ (t : List ℕ). SkulksFirst t skulks last) (append_cancel_left (segment_line entry) others rest (sym same ∙ is)) first)

-- ---- the house of a first record

-- octets that are the body of no record
pub none_resumes : (octets : List ℕ) → ((number clock : ℕ) (text : List ℕ) (image : Option (List ℕ)) → IsBody octets number clock text image → ⊥)
    → (h : House) → Resumes octets h → ⊥
none_resumes octets none _ (Anew clock body) = none 0 clock (codes "new" ++ 10 ∷ []) None body
none_resumes octets none _ (Began entry clock last image c body starts) = none entry clock (codes "start" ++ (10 ∷ last)) (Some image) body
none_resumes octets none _ (WentOn entry clock skulks last image c body fit ends starts) =
    none entry clock (segment_line entry ++ (running_lines skulks ++ last)) (Some image) body

-- a record without an image
module _ (octets : List ℕ) (n clock : ℕ) (text : List ℕ) (body : IsBody octets n clock text None) where
  pub new_resumes : (o : Option House) → IfSome o (λ h. h ≡ new_house) → OnSome o (n ≡ 0) → OnSome o (text ≡ codes "new" ++ 10 ∷ [])
      → IfSome o (Resumes octets)
  new_resumes None new zero is = tt
  new_resumes (Some h) new zero is =
      subst (λ (k : House). Resumes octets k) (sym new)
      (Anew clock (subst (λ (t : List ℕ). IsBody octets 0 clock t None) is (subst (λ (m : ℕ). IsBody octets m clock text None) zero body)))

  not_new : (n ≡ 0 → text ≢ codes "new" ++ 10 ∷ []) → (h : House) → Resumes octets h → ⊥
  not_new none _ (Anew clock' body') =
      let same = one_record octets n clock text None 0 clock' (codes "new" ++ 10 ∷ []) None body body' in
      none same.0 same.2
  not_new none _ (Began entry clock' last image c body' starts) =
      let same = (one_record octets n clock text None entry clock' (codes "start" ++ (10 ∷ last)) (Some image) body body').3 in
      absurd (cc same)
  not_new none _ (WentOn entry clock' skulks last image c body' fit ends starts) =
      let same = (one_record octets n clock text None entry clock' (segment_line entry ++ (running_lines skulks ++ last)) (Some image) body body').3 in
      absurd (cc same)

  pub new_not_resumes : (o : Option House) → IfNone o (n ≡ 0 → text ≢ codes "new" ++ 10 ∷ []) → IfNone o ((h : House) → Resumes octets h → ⊥)
  new_not_resumes (Some h) none = tt
  new_not_resumes None none = not_new none

-- a record with an image
module _ (octets : List ℕ) (n clock : ℕ) (text image : List ℕ) (body : IsBody octets n clock text (Some image)) where
  by_text : (skulks : List RunningSkulk) (last : List ℕ) (c : Clearinghouse) → IsFirstText n text skulks last → start_of_octets image ≡ Ok c
      → Resumes octets (house_with (with_skulks skulks c) n clock last)
  by_text _ last c (OfStart _ is) starts = Began n clock last image c (subst (λ (t : List ℕ). IsBody octets n clock t (Some image)) is body) starts
  by_text skulks last c (OfSegment rest _ _ is first) starts =
      WentOn n clock skulks last image c
      (subst (λ (t : List ℕ). IsBody octets n clock t (Some image)) (is ∙ ap (λ (r : List ℕ). segment_line n ++ r) first.whole) body) first.fit first.ends
      starts

  made_resumes : (o : Option House) → ResumesBy n clock text image o → IfSome o (Resumes octets)
  made_resumes None by = tt
  made_resumes (Some h) by =
      subst (λ (k : House). Resumes octets k) (sym by.is) (by_text by.skulks by.last by.home by.says by.starts)

  pub made_resumed : (r : Result (Option House) AllocError) → IfOk r (ResumesBy n clock text image) → IfOk r (λ o. IfSome o (Resumes octets))
  made_resumed (Err e) by = tt
  made_resumed (Ok o) by = made_resumes o by

  -- a house with this entry, clock and image resumes with the text
  as_before : (entry clock' : ℕ) (image' : List ℕ) (c : Clearinghouse) (skulks : List RunningSkulk) (last : List ℕ) → n ≡ entry → clock ≡ clock'
      → ◌≡◌ {A = Option (List ℕ)} (Some image) (Some image') → IsFirstText entry text skulks last → start_of_octets image' ≡ Ok c
      → ResumesAs n clock text image (house_with (with_skulks skulks c) entry clock' last)
  as_before entry clock' image' c skulks last entries clocks images says starts =
      let octets_are : image ≡ image' = cc images in
      record {
        skulks = skulks;
        last = last;
        home = c;
        says = subst (λ (e : ℕ). IsFirstText e text skulks last) (sym entries) says;
        starts = ap start_of_octets octets_are ∙ starts;
        is =
            ap (λ (e : ℕ). house_with (with_skulks skulks c) e clock' last) (sym entries)
            ∙ ap (λ (k : ℕ). house_with (with_skulks skulks c) n k last) (sym clocks);
      }

  as_it_resumes : (h : House) → Resumes octets h → ResumesAs n clock text image h
  as_it_resumes _ (Anew clock' body') =
      let same = (one_record octets n clock text (Some image) 0 clock' (codes "new" ++ 10 ∷ []) None body body').3 in
      absurd (cc same)
  as_it_resumes _ (Began entry clock' last image' c body' starts) =
      let same = one_record octets n clock text (Some image) entry clock' (codes "start" ++ (10 ∷ last)) (Some image') body body' in
      as_before entry clock' image' c [] last same.0 same.1 same.3 (OfStart last same.2) starts
  as_it_resumes _ (WentOn entry clock' skulks last image' c body' fit ends starts) =
      let rest : List ℕ = running_lines skulks ++ last in
      let same = one_record octets n clock text (Some image) entry clock' (segment_line entry ++ rest) (Some image') body body' in
      as_before entry clock' image' c skulks last same.0 same.1 same.3
      (OfSegment rest skulks last same.2 (record { whole = refl; fit = fit; ends = ends })) starts

  made_not_resumes : (o : Option House) → ResumesBy n clock text image o → IfNone o ((h : House) → Resumes octets h → ⊥)
  made_not_resumes (Some h) by = tt
  made_not_resumes None by = λ h resumes. by h (as_it_resumes h resumes)

  pub made_not_resumed : (r : Result (Option House) AllocError) → IfOk r (ResumesBy n clock text image)
      → IfOk r (λ o. IfNone o ((h : House) → Resumes octets h → ⊥))
  made_not_resumed (Err e) by = tt
  made_not_resumed (Ok o) by = made_not_resumes o by

-- the text is none of a first record
pub unread_first : (n clock : ℕ) (text image : List ℕ) → ((skulks : List RunningSkulk) (last : List ℕ) → IsFirstText n text skulks last → ⊥)
    → (h : House) → ResumesAs n clock text image h → ⊥
unread_first n clock text image none h by = none by.skulks by.last by.says

-- no clearinghouse starts of the image
pub unstarted : (n clock : ℕ) (text image : List ℕ) → ((c : Clearinghouse) → start_of_octets image ≢ Ok c) → (h : House) → ResumesAs n clock text image h → ⊥
unstarted n clock text image none h by = none by.home by.starts

-- the house that resumes
pub resumes_as : (n clock : ℕ) (text image : List ℕ) (skulks : List RunningSkulk) (home after : Clearinghouse) (last kept : List ℕ) (h : House)
    → IsFirstText n text skulks last → start_of_octets image ≡ Ok home → after ≡ with_skulks skulks home → kept ≡ last → h ≡ house_with after n clock kept
    → ResumesAs n clock text image h
resumes_as n clock text image skulks home after last kept h says starts runs same is = record {
  skulks = skulks;
  last = last;
  home = home;
  says = says;
  starts = starts;
  is = is ∙ ap (λ (c : Clearinghouse). house_with c n clock kept) runs ∙ ap (house_with (with_skulks skulks home) n clock) same;
}

-- what a call reads of one of a segment, unless it runs out of memory
pub segment_reads : (entry : ℕ) (text rest : List ℕ) (r : Result (Option RunningLines) AllocError) → ((last : List ℕ) → text ≢ codes "start" ++ (10 ∷ last))
    → text ≡ segment_line entry ++ rest → IfOk r (ReadsSkulks rest) → IfOk r (ReadsFirst entry text)
segment_reads entry text rest (Err e) start is reads = tt
segment_reads entry text rest (Ok o) start is reads = segment_read entry text rest o start is reads
