-- Segments that follow one another, and their files.
use Rattle.std.proofs.Common.{◌≡◌, ◌≢◌, inl, inr, ⊎_elim, ℕ, ◌+◌, ◌-◌, List, [], ◌∷◌, ◌++◌, length, map, take, refl, sym, ◌∙◌, ap, subst, append_assoc, append-nil, length-append, arith}
use Rattle.std.specs.Prelude.{Option, Some, None, codes, decimal, replicate}
use Rattle.std.proofs.Math.Seq.{take-append_seam}
use Rattle.sha2.proofs.Facts256.{length-sha256}
use Rattle.house_entries.specs.Bodies.{head_of}
use Rattle.house_journal.specs.JournalRecords.{images}
use Rattle.house_segments.specs.Chains.{chained, digest_after, last_digest, sealed}
use Rattle.house_segments.specs.Reading.{IsLast}
use Rattle.house_segments.specs.Segments.{HasBodies}
use Rattle.house_segments.proofs.ReadLemmas.{chain_on, same_before}
use Rattle.house_serving.specs.Turns.{Dialogue, Turn, bodies_of}
use Rattle.house_turns.specs.HouseReplies.{Responds}
use Rattle.house_turns.specs.Openings.{OpensBy, new_house}
use Rattle.house_turns.specs.declared.house.House.{House}
use Rattle.house_runs.specs.Folders.{AreSegments, BeginsWith, Beginning, FolderSegment, IsFolder, OpensFrom, ProcessBegins, ProcessGoesOn, folder_bodies, last_bodies, segment_bodies}
use Rattle.house_program.specs.Beginnings.{IsFound, IsLastSegment, body_in}
use Rattle.house_program.specs.Files.{Files, NumberedFile, last_file, number_in}
use Rattle.house_program.specs.HouseFolders.{AreFiles, BeginsAnew, EndsIn, Found, IsHouseFolder, bodies_in_file, digest_after_all}
use Rattle.house_program.specs.declared.reading.FolderHouse.{FolderHouse}

-- ---- segments

-- segments that follow these records, where the house is so, and the house after them
abbrev pub SegmentsTo : (last : Option (List (List ℕ))) → House → List FolderSegment → House → Type 0
SegmentsTo last house [] at = at ≡ house
SegmentsTo last house (s ∷ ss) at =
    (begun : House) × (mid : House) × BeginsWith s.begins last house s.first begun × Dialogue Responds s.number begun s.turns mid
    × SegmentsTo (Some (segment_bodies s)) mid ss at

pub none_to : (last : Option (List (List ℕ))) (house : House) → SegmentsTo last house [] house
none_to last house = refl

pub are_segments : (last : Option (List (List ℕ))) (house at : House) (ss : List FolderSegment) → SegmentsTo last house ss at → AreSegments last house ss
are_segments last house at [] to = tt
are_segments last house at (s ∷ ss) to = (to.0, to.1, to.2, to.3, are_segments (Some (segment_bodies s)) to.1 at ss to.4)

-- one segment more
pub segments_on : (last : Option (List (List ℕ))) (house at begun at' : House) (ss : List FolderSegment) (s : FolderSegment) → SegmentsTo last house ss at
    → BeginsWith s.begins (last_bodies last ss) at s.first begun → Dialogue Responds s.number begun s.turns at' → SegmentsTo last house (ss ++ s ∷ []) at'
segments_on last house at begun at' [] s to begins talk = (begun, at', subst (λ (h : House). BeginsWith s.begins last h s.first begun) to begins, talk, refl)
segments_on last house at begun at' (t ∷ ss) s to begins talk =
    (to.0, to.1, to.2, to.3, segments_on (Some (segment_bodies t)) to.1 at begun at' ss s to.4 begins talk)

pub last_on : (last : Option (List (List ℕ))) (ss : List FolderSegment) (s : FolderSegment) → last_bodies last (ss ++ s ∷ []) ≡ Some (segment_bodies s)
last_on last [] s = refl
last_on last (t ∷ ss) s = last_on (Some (segment_bodies t)) ss s

pub bodies_on : (ss : List FolderSegment) (s : FolderSegment) → folder_bodies (ss ++ s ∷ []) ≡ folder_bodies ss ++ segment_bodies s
bodies_on [] s = append-nil (segment_bodies s)
bodies_on (t ∷ ss) s =
    ap (λ (l : List (List ℕ)). segment_bodies t ++ l) (bodies_on ss s) ∙ sym (append_assoc (segment_bodies t) (folder_bodies ss) (segment_bodies s))

pub anew_on : (ss : List FolderSegment) (s : FolderSegment) → BeginsAnew ss → (ss ≡ [] → s.begins ≡ ProcessBegins) → BeginsAnew (ss ++ s ∷ [])
anew_on [] s anew first = first refl
anew_on (t ∷ ss) s anew first = anew

-- a process that begins asks for no house of before
begins_anew : (b : Beginning) (last : Option (List (List ℕ))) (house other : House) (first : List ℕ) (begun : House) → b ≡ ProcessBegins
    → BeginsWith b last house first begun → BeginsWith b last other first begun
begins_anew ProcessBegins last house other first begun is begins = begins
begins_anew ProcessGoesOn last house other first begun is begins = absurd (cc (is))

other_house : (last : Option (List (List ℕ))) (house other : House) (ss : List FolderSegment) → BeginsAnew ss → AreSegments last house ss
    → AreSegments last other ss
other_house last house other [] anew are = tt
other_house last house other (s ∷ ss) anew are = (are.0, are.1, begins_anew s.begins last house other s.first are.0 anew are.2, are.3, are.4)

-- segments of before, and those of a process that begins
pub folder_on : (last : Option (List (List ℕ))) (house other : House) (ss ts : List FolderSegment) → AreSegments last house ss → BeginsAnew ts
    → AreSegments (last_bodies last ss) other ts → AreSegments last house (ss ++ ts)
folder_on last house other [] ts are anew then = other_house last other house ts anew then
folder_on last house other (s ∷ ss) ts are anew then =
    (are.0, are.1, are.2, are.3, folder_on (Some (segment_bodies s)) are.1 other ss ts are.4 anew then)

-- ---- files

pub digests_on : (number : ℕ) (before : List ℕ) (ss ts : List FolderSegment)
    → digest_after_all number before (ss ++ ts) ≡ digest_after_all (number + length ss) (digest_after_all number before ss) ts
digests_on number before [] ts =
    let same : number ≡ number + 0 = omega arith in
    ap (λ (n : ℕ). digest_after_all n before ts) same
digests_on number before (s ∷ ss) ts =
    let same : number + 1 + length ss ≡ number + length (s ∷ ss) = omega arith in
    digests_on (number + 1) (last_digest before (bodies_in_file number before s)) ss ts
    ∙ ap (λ (n : ℕ). digest_after_all n (digest_after_all number before (s ∷ ss)) ts) same

pub files_on : (number : ℕ) (before : List ℕ) (ss ts : List FolderSegment) (fs gs : Files) → AreFiles number before ss fs
    → AreFiles (number + length ss) (digest_after_all number before ss) ts gs → AreFiles number before (ss ++ ts) (fs ++ gs)
files_on number before [] ts fs gs are then =
    let same : number + 0 ≡ number = omega arith in
    subst (λ (l : Files). AreFiles number before ts (l ++ gs)) (sym are) (subst (λ (n : ℕ). AreFiles n before ts gs) same then)
files_on number before (s ∷ ss) ts fs gs are then =
    let same : number + length (s ∷ ss) ≡ number + 1 + length ss = omega arith in (
      are.0,
      are.1 ++ gs,
      ap (λ (l : Files). l ++ gs) are.2,
      are.3,
      files_on (number + 1) (last_digest before (bodies_in_file number before s)) ss ts are.1 gs are.4
          (subst (λ (n : ℕ). AreFiles n (digest_after_all number before (s ∷ ss)) ts gs) same then),
    )

pub file_on : (number : ℕ) (before : List ℕ) (ss : List FolderSegment) (s : FolderSegment) (fs : Files) (octets : List ℕ) → AreFiles number before ss fs
    → HasBodies (digest_after_all number before ss) (bodies_in_file (number + length ss) (digest_after_all number before ss) s) octets
    → AreFiles number before (ss ++ s ∷ []) (fs ++ record { number = number + length ss; octets = octets } ∷ [])
file_on number before ss s fs octets are has =
    files_on number before ss (s ∷ []) fs (record { number = number + length ss; octets = octets } ∷ []) are (octets, [], refl, has, refl)

-- a digest has 32 octets
pub last_size : (before : List ℕ) (bodies : List (List ℕ)) → length before ≡ 32 → length (last_digest before bodies) ≡ 32
last_size before [] size = size
last_size before (b ∷ bodies) size = last_size (digest_after before b) bodies (length-sha256 (before ++ b))

pub digests_size : (number : ℕ) (before : List ℕ) (ss : List FolderSegment) → length before ≡ 32 → length (digest_after_all number before ss) ≡ 32
digests_size number before [] size = size
digests_size number before (s ∷ ss) size =
    digests_size (number + 1) (last_digest before (bodies_in_file number before s)) ss (last_size before (bodies_in_file number before s) size)

pub zeros_size : length {A = ℕ} (replicate 32 0) ≡ 32
zeros_size = refl

-- the last of files that are segments, if there is one
pub record LastOf (number : ℕ) (before : List ℕ) (ss : List FolderSegment) (last : Option (List (List ℕ))) (fs : Files) : Type 0 where
  pub one : FolderSegment
  pub at : ℕ
  pub after : List ℕ
  pub octets : List ℕ
  pub file : last_file fs ≡ Some (record { number = at; octets = octets })
  pub numbered : at + 1 ≡ number + length ss
  pub has : HasBodies after (bodies_in_file at after one) octets
  pub digest : digest_after_all number before ss ≡ last_digest after (bodies_in_file at after one)
  pub bodies : last_bodies last ss ≡ Some (segment_bodies one)
  pub sized : length before ≡ 32 → length after ≡ 32

last_of_on : (number : ℕ) (before : List ℕ) (s t : FolderSegment) (ss : List FolderSegment) (last : Option (List (List ℕ))) (f g : NumberedFile) (gs : Files)
    → LastOf (number + 1) (last_digest before (bodies_in_file number before s)) (t ∷ ss) (Some (segment_bodies s)) (g ∷ gs)
    → LastOf number before (s ∷ (t ∷ ss)) last (f ∷ (g ∷ gs))
last_of_on number before s t ss last f g gs l =
    let numbered = l.numbered in
    record {
      one = l.one;
      at = l.at;
      after = l.after;
      octets = l.octets;
      file = l.file;
      numbered = omega (arith, numbered);
      has = l.has;
      digest = l.digest;
      bodies = l.bodies;
      sized = λ size. l.sized (last_size before (bodies_in_file number before s) size);
    }

pub last_of : (number : ℕ) (before : List ℕ) (s : FolderSegment) (ss : List FolderSegment) (last : Option (List (List ℕ))) (fs : Files)
    → AreFiles number before (s ∷ ss) fs → LastOf number before (s ∷ ss) last fs
last_of number before s [] last fs are = record {
  one = s;
  at = number;
  after = before;
  octets = are.0;
  file = ap last_file (are.2 ∙ ap (λ (l : Files). record { number = number; octets = are.0 } ∷ l) are.4);
  numbered = omega arith;
  has = are.3;
  digest = refl;
  bodies = refl;
  sized = λ size. size;
}
last_of number before s (t ∷ ss) last fs are =
    let next = are.4 in
    let rest = last_of (number + 1) (last_digest before (bodies_in_file number before s)) t ss (Some (segment_bodies s)) are.1 are.4 in
    let whole : fs ≡ record { number = number; octets = are.0 } ∷ (record { number = number + 1; octets = next.0 } ∷ next.1) =
    are.2 ∙ ap (λ (l : Files). record { number = number; octets = are.0 } ∷ l) next.2 in
    subst (λ (l : Files). LastOf number before (s ∷ (t ∷ ss)) last l) (sym whole)
    (last_of_on number before s t ss last (record { number = number; octets = are.0 }) (record { number = number + 1; octets = next.0 }) next.1
    (subst (λ (l : Files). LastOf (number + 1) (last_digest before (bodies_in_file number before s)) (t ∷ ss) (Some (segment_bodies s)) l) next.2 rest))

-- ---- what a process finds

-- a record without its digest is its body
body_of_sealed : (before body : List ℕ) → body_in (sealed before body) ≡ body
body_of_sealed before body =
    let size = length-append body (digest_after before body) in
    let digest = length-sha256 (before ++ body) in
    let front : length (sealed before body) - 32 ≡ length body = omega (arith, size, digest) in
    ap (λ (n : ℕ). take n (sealed before body)) front ∙ take-append_seam body (digest_after before body)

pub bodies_of_chain : (before : List ℕ) (bodies : List (List ℕ)) → map body_in (chained before bodies) ≡ bodies
bodies_of_chain before [] = refl
bodies_of_chain before (b ∷ bodies) =
    ap (λ (r : List ℕ). r ∷ map body_in (chained (digest_after before b) bodies)) (body_of_sealed before b)
    ∙ ap (λ (l : List (List ℕ)). b ∷ l) (bodies_of_chain (digest_after before b) bodies)

abbrev pub tail_list : List (List ℕ) → List (List ℕ)
tail_list [] = []
tail_list (r ∷ rs) = rs

-- the head of a segment is its title and the digest before it
pub title_and_digest : (number : ℕ) (before : List ℕ) → head_of number [] ++ before ≡ head_of number before
title_and_digest number before =
    append_assoc (codes "cdshouse journal 2 ") (decimal number ++ 10 ∷ []) before
    ∙ ap (λ (l : List ℕ). codes "cdshouse journal 2 " ++ l) (append_assoc (decimal number) (10 ∷ []) before)

-- the digest of the last record is that of the chain
last_of_chain : (number : ℕ) (title after : List ℕ) (records bodies : List (List ℕ)) (last digest : List ℕ) → IsLast title records last digest
    → records ≡ chained after ((title ++ after) ∷ bodies) → digest ≡ last_digest after ((title ++ after) ∷ bodies)
last_of_chain number title after records bodies last digest is chain =
    let all = is.front ++ last ∷ [] in
    let whole : chained is.before all ++ [] ≡ chained after ((title ++ after) ∷ bodies) =
    append-nil (chained is.before all) ∙ sym is.chain ∙ chain in
    let one = same_before title is.before after is.others bodies []
    (ap (λ (l : List (List ℕ)). chained is.before l ++ []) (sym is.head) ∙ whole) in
    let on = chain_on after all ((title ++ after) ∷ bodies) [] (ap (λ (b : List ℕ). chained b all ++ []) (sym one) ∙ whole) in
    let none : on.others ≡ [] = none_left (last_digest after all) on.others on.chain in
    is.says ∙ ap (λ (b : List ℕ). last_digest b all) one
    ∙ ap (last_digest after) (sym (on.bodies ∙ ap (λ (l : List (List ℕ)). all ++ l) none ∙ append-nil all))
  where
    none_left : (d : List ℕ) (others : List (List ℕ)) → [] ≡ chained d others → others ≡ []
    none_left d [] same = refl
    none_left d (b ∷ others) same = absurd (cc (same))

-- a file whose records are a segment, as a process goes on from it
found_last : (number : ℕ) (after : List ℕ) (s : FolderSegment) (octets : List ℕ) (f : FolderHouse) → HasBodies after (bodies_in_file number after s) octets
    → IsLastSegment number octets f → (f.digest ≡ last_digest after (bodies_in_file number after s)) × OpensBy (segment_bodies s) f.house
found_last number after s octets f has is =
    let head_is = title_and_digest number after in
    let chain : images octets ≡ chained after ((head_of number [] ++ after) ∷ segment_bodies s) =
    has ∙ ap (λ (h : List ℕ). chained after (h ∷ segment_bodies s)) (sym head_is) in
    let others : is.others ≡ chained (digest_after after (head_of number after)) (segment_bodies s) = ap tail_list (sym is.records ∙ has) in (
      last_of_chain number (head_of number []) after (images octets) (segment_bodies s) is.last f.digest is.chain chain
          ∙ ap (λ (h : List ℕ). last_digest after (h ∷ segment_bodies s)) head_is,
      subst (λ (l : List (List ℕ)). OpensBy l f.house)
          (ap (map body_in) others ∙ bodies_of_chain (digest_after after (head_of number after)) (segment_bodies s)) is.house,
    )

pub last_bodies-append : (last : Option (List (List ℕ))) (ss ts : List FolderSegment) → last_bodies last (ss ++ ts) ≡ last_bodies (last_bodies last ss) ts
last_bodies-append last [] ts = refl
last_bodies-append last (s ∷ ss) ts = last_bodies-append (Some (segment_bodies s)) ss ts

-- what a process goes on from
abbrev pub found_of : (f : FolderHouse) (o : Option NumberedFile) → IsFound o f → Found
found_of f None is = record { last = None; number = f.number; digest = f.digest }
found_of f (Some file) is = record { last = Some (map body_in is.others); number = f.number; digest = f.digest }

pub found_number : (f : FolderHouse) (o : Option NumberedFile) (is : IsFound o f) → (found_of f o is).number ≡ f.number
found_number f None is = refl
found_number f (Some file) is = refl

pub found_digest : (f : FolderHouse) (o : Option NumberedFile) (is : IsFound o f) → (found_of f o is).digest ≡ f.digest
found_digest f None is = refl
found_digest f (Some file) is = refl

pub found_opens : (f : FolderHouse) (o : Option NumberedFile) (is : IsFound o f) → OpensFrom (found_of f o is).last f.house
found_opens f None is = is.0
found_opens f (Some file) is = is.house

-- its number is that of the last file
pub number_of_found : (f : FolderHouse) (o : Option NumberedFile) (is : IsFound o f) → number_in o ≡ f.number
number_of_found f None is = sym is.1
number_of_found f (Some file) is = sym is.numbered

-- where the folder has no file
none_found : (f : FolderHouse) (o : Option NumberedFile) (is : IsFound o f) → o ≡ None → EndsIn [] (found_of f o is)
none_found f None is none = record { last = refl; number = is.1; digest = is.2 }
none_found f (Some file) is none = absurd (cc (none))

-- where it has one
some_found : (f : FolderHouse) (o : Option NumberedFile) (is : IsFound o f) (gone ss : List FolderSegment) (s : FolderSegment) (files : Files)
    → o ≡ last_file files → AreFiles (length gone + 1) (digest_after_all 1 (replicate 32 0) gone) (s ∷ ss) files → EndsIn (gone ++ s ∷ ss) (found_of f o is)
some_found f None is gone ss s files one are =
    let l = last_of (length gone + 1) (digest_after_all 1 (replicate 32 0) gone) s ss (last_bodies None gone) files are in
    absurd (cc (one, l.file))
some_found f (Some file) is gone ss s files one are =
    let zeros = replicate 32 0 in
    let l = last_of (length gone + 1) (digest_after_all 1 zeros gone) s ss (last_bodies None gone) files are in
    let same : file ≡ record { number = l.at; octets = l.octets } = cc (one, l.file) in
    let at = subst (λ (x : NumberedFile). IsLastSegment x.number x.octets f) same is in
    let so = found_last l.at l.after l.one l.octets f l.has at in
    let bodies : map body_in is.others ≡ segment_bodies l.one = so_bodies file l.at l.after l.one l.octets same l.has is in
    let numbered = l.numbered in
    let number = at.numbered in
    let size = length-append gone (s ∷ ss) in
    let order : length gone + 1 ≡ 1 + length gone = omega arith in
    record {
      last = ap (λ (b : List (List ℕ)). Some b) bodies ∙ sym l.bodies ∙ sym (last_bodies-append None gone (s ∷ ss));
      number = omega (arith, numbered, number, size);
      digest =
          so.0 ∙ sym l.digest
          ∙ ap (λ (n : ℕ). digest_after_all n (digest_after_all 1 zeros gone) (s ∷ ss)) order
          ∙ sym (digests_on 1 zeros gone (s ∷ ss));
    }
  where
    so_bodies : (file : NumberedFile) (number : ℕ) (after : List ℕ) (s : FolderSegment) (octets : List ℕ) → file ≡ record { number = number; octets = octets }
        → HasBodies after (bodies_in_file number after s) octets → (is : IsLastSegment file.number file.octets f) → map body_in is.others ≡ segment_bodies s
    so_bodies file number after s octets same has is =
        let chain : images file.octets ≡ chained after (bodies_in_file number after s) = ap (λ (x : NumberedFile). images x.octets) same ∙ has in
        ap (map body_in) (ap tail_list (sym is.records ∙ chain)) ∙ bodies_of_chain (digest_after after (head_of number after)) (segment_bodies s)

-- a process goes on from the last segment of each folder that has the file that was found
pub goes_from : (f : FolderHouse) (o : Option NumberedFile) (is : IsFound o f) (files : Files) → last_file files ≡ o → (h : IsHouseFolder files)
    → EndsIn (h.gone ++ h.segments) (found_of f o is)
goes_from f o is files last h = by_segments h.gone h.segments h.last_is_there h.are
  where
    by_segments : (gone segments : List FolderSegment) → (segments ≡ [] → gone ≡ [])
        → AreFiles (length gone + 1) (digest_after_all 1 (replicate 32 0) gone) segments files → EndsIn (gone ++ segments) (found_of f o is)
    by_segments gone [] there are =
        subst (λ (l : List FolderSegment). EndsIn l (found_of f o is)) (sym (append-nil gone ∙ there refl))
        (none_found f o is (sym last ∙ ap last_file are))
    by_segments gone (s ∷ ss) there are = some_found f o is gone ss s files (sym last) are

-- ---- a folder and the segments of one process more are the folder of a house
pub house_on : (files : Files) (front : Files) (made : Files) (segments : List FolderSegment) (found : Found) → (h : IsHouseFolder front)
    → EndsIn (h.gone ++ h.segments) found → files ≡ front ++ made → AreFiles (found.number + 1) found.digest segments made
    → AreSegments found.last new_house segments → BeginsAnew segments → IsHouseFolder files
house_on files front made segments found h after split are follow anew =
    let zeros = replicate 32 0 in
    let size = length-append h.gone h.segments in
    let number = after.number in
    let place : found.number + 1 ≡ length h.gone + 1 + length h.segments = omega (arith, size, number) in
    let order : 1 + length h.gone ≡ length h.gone + 1 = omega arith in
    let digest : found.digest ≡ digest_after_all (length h.gone + 1) (digest_after_all 1 zeros h.gone) h.segments =
    after.digest ∙ digests_on 1 zeros h.gone h.segments
    ∙ ap (λ (n : ℕ). digest_after_all n (digest_after_all 1 zeros h.gone) h.segments) order in
    let here = subst (λ (d : List ℕ). AreFiles (length h.gone + 1 + length h.segments) d segments made) digest
    (subst (λ (n : ℕ). AreFiles n found.digest segments made) place are) in
    record {
      gone = h.gone;
      segments = h.segments ++ segments;
      folder =
          subst IsFolder (append_assoc h.gone h.segments segments)
          (folder_on None new_house new_house (h.gone ++ h.segments) segments h.folder anew
          (subst (λ (l : Option (List (List ℕ))). AreSegments l new_house segments) after.last follow));
      last_is_there = λ none. h.last_is_there (none_front h.segments segments none);
      are =
          subst (AreFiles (length h.gone + 1) (digest_after_all 1 zeros h.gone) (h.segments ++ segments)) (sym split)
          (files_on (length h.gone + 1) (digest_after_all 1 zeros h.gone) h.segments segments front made h.are here);
    }
  where
    none_front : (ss ts : List FolderSegment) → ss ++ ts ≡ [] → ss ≡ []
    none_front [] ts none = refl
    none_front (s ∷ ss) ts none = absurd (cc (none))
