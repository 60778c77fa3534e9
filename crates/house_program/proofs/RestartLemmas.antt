-- The last file of the folder of a house is a segment, and a house goes on from its records.
use Rattle.std.proofs.Common.{◌≡◌, ℕ, ◌+◌, List, [], ◌∷◌, ◌++◌, length, map, refl, sym, ◌∙◌, ap, subst}
use Rattle.std.specs.Prelude.{Option, Some, None, replicate}
use Rattle.house_entries.specs.Bodies.{head_of}
use Rattle.house_journal.specs.JournalRecords.{images}
use Rattle.house_segments.specs.Chains.{chained, digest_after}
use Rattle.house_segments.specs.Reading.{IsSegment}
use Rattle.house_turns.specs.Openings.{MayEnd, Resumes}
use Rattle.house_turns.specs.declared.house.House.{House}
use Rattle.house_runs.specs.Folders.{FolderSegment, IsFolder, last_bodies, segment_bodies}
use Rattle.house_runs.proofs.Restarts.{LastBegan, again_holds, folder_began, holds_may_end, redone_holds, some_resumes}
use Rattle.house_program.specs.Beginnings.{body_in}
use Rattle.house_program.specs.Causes.{CannotGoOn, DoesAnother, HeadAlone, NoHouse, NoHouseOf, NoSegment, NoneResumes, Unlawful}
use Rattle.house_program.specs.Files.{Files, NumberedFile, last_file}
use Rattle.house_program.specs.HouseFolders.{AreFiles, IsHouseFolder, bodies_in_file, digest_after_all}
use Rattle.house_program.specs.Restarts.{EndedOnce, IsTakenUp}
use Rattle.house_program.specs.declared.status.Status.{Status}
use Rattle.house_program.specs.declared.status.Status.TheVariants as statuses
use Rattle.house_program.proofs.FolderLemmas.{LastOf, bodies_of_chain, last_bodies-append, last_of, zeros_size, digests_size, tail_list, title_and_digest}

-- a house goes on from records after a head, or does other than they say
no_house : (records bodies : List (List ℕ)) (status : Status) → map body_in records ≡ bodies → LastBegan bodies → NoHouseOf records status
    → status ≡ statuses.OtherDeeds
no_house records bodies _ are b (HeadAlone none) = absurd (none_of records (are ∙ b.split) none)
  where
    none_of : (rs : List (List ℕ)) → map body_in rs ≡ b.first ∷ b.others → rs ≡ [] → ⊥
    none_of [] split none = absurd (cc (split))
    none_of (r ∷ rs) split none = absurd (cc (none))
no_house records bodies _ are b (NoneResumes first others split none) =
    let some = some_resumes b.first b.begun b.so in
    absurd (none some.house (subst (λ (l : List ℕ). Resumes l some.house) (sym (first_is first others split)) some.resumes))
  where
    first_is : (r : List ℕ) (rs : List (List ℕ)) → records ≡ r ∷ rs → body_in r ≡ b.first
    first_is r rs split = cc (ap (map body_in) (sym split) ∙ are ∙ b.split)
no_house records bodies _ are b (DoesAnother first others begun split resumes other) = refl
no_house records bodies _ are b (Unlawful first others begun at split resumes redone bad) =
    absurd (bad (holds_may_end at (redone_holds (map body_in others) begun at redone
    (again_holds b.first b.begun begun b.so (subst (λ (l : List ℕ). Resumes l begun) (first_is first others split) resumes)))))
  where
    first_is : (r : List ℕ) (rs : List (List ℕ)) → records ≡ r ∷ rs → body_in r ≡ b.first
    first_is r rs split = cc (ap (map body_in) (sym split) ∙ are ∙ b.split)

-- the octets of a segment, which no crash made longer
goes_on_from : (number : ℕ) (after : List ℕ) (s : FolderSegment) (octets : List ℕ) (status : Status) → images octets ≡ chained after (bodies_in_file number after s)
    → length after ≡ 32 → LastBegan (segment_bodies s) → ¬ EndedOnce (head_of number []) octets → CannotGoOn number octets status
    → status ≡ statuses.OtherDeeds
goes_on_from number after s octets status has size began never (NoSegment bad is) =
    let chain : images octets ≡ chained after ((head_of number [] ++ after) ∷ segment_bodies s) =
    has ∙ ap (λ (h : List ℕ). chained after (h ∷ segment_bodies s)) (sym (title_and_digest number after)) in
    absurd (bad (record {
      before = after;
      others = segment_bodies s;
      size = size;
      chain = chain;
      ends = λ later. never (record { before = after; others = segment_bodies s; size = size; chain = chain; later = later });
    }))
goes_on_from number after s octets status has size began never (NoHouse whole head records split bad) =
    let others : records ≡ chained (digest_after after (head_of number after)) (segment_bodies s) = ap tail_list (sym split ∙ has) in
    no_house records (segment_bodies s) status (ap (map body_in) others ∙ bodies_of_chain (digest_after after (head_of number after)) (segment_bodies s)) began bad

pub taken_up : (files : Files) → IsHouseFolder files → IsTakenUp files
taken_up files h file last never status refused = by_segments h.gone h.segments h.folder h.are
  where
    by_segments : (gone segments : List FolderSegment) → IsFolder (gone ++ segments)
        → AreFiles (length gone + 1) (digest_after_all 1 (replicate 32 0) gone) segments files → status ≡ statuses.OtherDeeds
    by_segments gone [] folder are = let none : last_file files ≡ None = ap last_file are in absurd (cc (last, none))
    by_segments gone (s ∷ ss) folder are =
        let zeros = replicate 32 0 in
        let l = last_of (length gone + 1) (digest_after_all 1 zeros gone) s ss (last_bodies None gone) files are in
        let same : file ≡ record { number = l.at; octets = l.octets } = cc (last, l.file) in
        let began = folder_began (gone ++ s ∷ ss) folder (segment_bodies l.one) (last_bodies-append None gone (s ∷ ss) ∙ l.bodies) in
        goes_on_from l.at l.after l.one l.octets status l.has (l.sized (digests_size 1 zeros gone zeros_size)) began
        (subst (λ (x : NumberedFile). ¬ EndedOnce (head_of x.number []) x.octets) same never)
        (subst (λ (x : NumberedFile). CannotGoOn x.number x.octets status) same refused)
