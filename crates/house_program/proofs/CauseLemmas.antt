-- Why a process ends with its status.
use Rattle.std.proofs.Common.{◌≡◌, ◌≢◌, ◌⊎◌, ◌↔◌, inl, inr, ⊎_elim, ℕ, ◌+◌, ◌^◌, ◌≤◌, arith, List, [], ◌∷◌, ◌++◌, map, refl, sym, ◌∙◌, ap, subst}
use Rattle.std.specs.Prelude.{Bool, true, false, if◌then◌else◌, Option, Some, None, Result, Ok, Err, IsErrAnd, IfErr, IfOk, OnOk, is_some}
use Rattle.cds_base.specs.Counts.{Rose}
use Rattle.clearinghouse.specs.declared.house.Clearinghouse.{Clearinghouse}
use Rattle.cds_stamps.specs.declared.alloc_or.AllocOr.{AllocOr}
use Rattle.cds_stamps.specs.declared.alloc_or.AllocOr.TheVariants as alloc
use Rattle.cds_stamps.specs.declared.alloc_or.AllocOr.TheVariants.{Fault}
use Rattle.house_entries.specs.Bodies.{head_of}
use Rattle.house_journal.specs.declared.journal.JournalFault.{JournalFault}
use Rattle.house_journal.specs.declared.journal.JournalFault.TheVariants as journal
use Rattle.house_journal.specs.JournalRecords.{images}
use Rattle.house_segments.specs.Chains.{chained}
use Rattle.house_segments.specs.Reading.{EndedLater, IsLast, IsSegment, end_of}
use Rattle.house_segments.specs.Segments.{HasFaultCause}
use Rattle.house_serving.specs.Ending.{HasEndingCause, failures}
use Rattle.house_serving.specs.declared.ending.Ending.{Ending}
use Rattle.house_serving.specs.declared.ending.Ending.TheVariants as endings
use Rattle.house_turns.specs.Openings.{Differs, MayEnd, RedoneBy, Resumes}
use Rattle.house_turns.specs.declared.house.House.{House}
use Rattle.house_program.specs.Beginnings.{FindsSo, IsLastSegment, begins_otherwise, body_in, status_not_read}
use Rattle.house_program.specs.Causes.{CannotGoOn, ProcessCounts, DoesAnother, DoesOther, HasStatusCause, HasFolderEnd, HasSegmentCause, HeadAlone, IsFolderRefused, IsWholeSegment, NoHouse, NoHouseOf, NoSegment, NoneResumes, Unlawful}
use Rattle.house_program.specs.Files.{CountsFile, Files, RoseAt, last_file}
use Rattle.house_program.specs.Statuses.{ends_by_disk, is_disk_fault, status_after, status_not_begun, status_of, status_of_folder}
use Rattle.house_program.specs.declared.folder.FolderCounts.{FolderCounts}
use Rattle.house_program.specs.declared.folder.FolderFault.{FolderFault}
use Rattle.house_program.specs.declared.folder.FolderFault.TheVariants as folders
use Rattle.house_program.specs.declared.reading.FolderHouse.{FolderHouse}
use Rattle.house_program.specs.declared.segments.Left.{Left}
use Rattle.house_program.specs.declared.status.Status.{Status}
use Rattle.house_program.specs.declared.status.Status.TheVariants as statuses
use Rattle.house_program.proofs.LifeLemmas.{IsPlain, bad_plain, deeds_plain, folder_plain, memory_plain, other_plain}
use Rattle.house_program.proofs.ReadLemmas.{IsRedoing}

-- ---- errors

-- what holds of an error holds of the status
pub err_status : (P Q : Status → Type 0) (r : Result Status Status) → IsErrAnd r Q → ((s : Status) → Q s → P s) → P (status_of r)
err_status P Q (Ok s) is all = absurd is
err_status P Q (Err s) is all = all s is

pub err_why : {T : Type 0} (P Q : Status → Type 0) (r : Result T Status) → IsErrAnd r Q → ((s : Status) → Q s → P s) → IfErr r P
err_why P Q (Ok x) is all = absurd is
err_why P Q (Err s) is all = all s is

pub if_err : {T : Type 0} (P Q : Status → Type 0) (r : Result T Status) → IfErr r P → ((s : Status) → P s → Q s) → IfErr r Q
if_err P Q (Ok x) is all = tt
if_err P Q (Err s) is all = all s is

pub on_ok : {T : Type 0} (P : Type 0) (r : Result T Status) → P → OnOk r P
on_ok P (Ok x) p = p
on_ok P (Err s) p = tt

pub err_segment : (before now : ProcessCounts) (Q : Status → Type 0) (r : Result Left Status) → IsErrAnd r Q
    → ((s : Status) → Q s → HasStatusCause (λ x. ⊥) before now s) → HasSegmentCause before now r
err_segment before now Q (Ok l) is all = absurd is
err_segment before now Q (Err s) is all = all s is

-- ---- counts

abbrev pub counts : ℕ → ℕ → FolderCounts → ProcessCounts
counts r w f = record { reads = r; writes = w; folder = f }

pub same_counts : (r r' w w' : ℕ) (f f' : FolderCounts) → r' ≡ r → w' ≡ w → f' ≡ f → counts r' w' f' ≡ counts r w f
same_counts r r' w w' f f' reads writes folder =
    ap (λ (x : ℕ). counts x w' f') reads ∙ ap (λ (x : ℕ). counts r x f') writes ∙ ap (λ (x : FolderCounts). counts r w x) folder

-- nothing failed, and memory ran out, or the numbers did
pub calm_memory : (R : Status → Type 0) (b n : ProcessCounts) (s : Status) → s ≡ statuses.OutOfMemory → n ≡ b → HasStatusCause R b n s
calm_memory R b n s is calm = subst (λ (x : Status). HasStatusCause R b n x) (sym is) calm

pub calm_full : (R : Status → Type 0) (b n : ProcessCounts) (s : Status) → s ≡ statuses.Full → n ≡ b → HasStatusCause R b n s
calm_full R b n s is calm = subst (λ (x : Status). HasStatusCause R b n x) (sym is) calm

pub calm_either : (R : Status → Type 0) (b n : ProcessCounts) (number : ℕ) (e s : Status) → (e ≡ statuses.OutOfMemory) ⊎ ((e ≡ statuses.Full) × (2 ^ 64 ≤ number + 1)) → s ≡ e → n ≡ b
    → HasStatusCause R b n s
calm_either R b n number e s (inl memory) same calm = calm_memory R b n s (same ∙ memory) calm
calm_either R b n number e s (inr full) same calm = calm_full R b n s (same ∙ full.0) calm

-- nothing failed before
pub after_calm : (R : Status → Type 0) (b m n : ProcessCounts) (s : Status) → m ≡ b → HasStatusCause R m n s → HasStatusCause R b n s
after_calm R b m n s calm cause = subst (λ (x : ProcessCounts). HasStatusCause R x n s) calm cause

-- with more reasons to be refused
pub cause_more : (R R' : Status → Type 0) (b n : ProcessCounts) (s : Status) → ((x : Status) → R x → R' x) → HasStatusCause R b n s → HasStatusCause R' b n s
cause_more R R' b n statuses.Ok more c = c
cause_more R R' b n statuses.Usage more c = c
cause_more R R' b n statuses.BadInput more c = c
cause_more R R' b n statuses.ReadFault more c = c
cause_more R R' b n statuses.WriteFault more c = c
cause_more R R' b n statuses.OutOfMemory more c = c
cause_more R R' b n statuses.Full more c = c
cause_more R R' b n statuses.DiskFault more c = c
cause_more R R' b n statuses.BadFolder more (inl c) = inl c
cause_more R R' b n statuses.BadFolder more (inr c) = inr (c.0, more statuses.BadFolder c.1)
cause_more R R' b n statuses.Taken more c = c
cause_more R R' b n statuses.OtherVersion more c = (c.0, more statuses.OtherVersion c.1)
cause_more R R' b n statuses.OtherDeeds more c = (c.0, more statuses.OtherDeeds c.1)

-- ---- calls of the folder

pub folder_cause : (R : Status → Type 0) (r r' w w' : ℕ) (f f' : FolderCounts) (fault : FolderFault) (s : Status) → s ≡ status_of_folder fault
    → r' ≡ r → w' ≡ w → RoseAt fault f f' → HasStatusCause R (counts r w f) (counts r' w' f') s
folder_cause R r r' w w' f f' folders.Unreadable s is reads writes rose =
    subst (λ (x : Status). HasStatusCause R (counts r w f) (counts r' w' f') x) (sym is) (inl (reads, writes, rose))
folder_cause R r r' w w' f f' folders.Taken s is reads writes rose =
    subst (λ (x : Status). HasStatusCause R (counts r w f) (counts r' w' f') x) (sym is) (reads, writes, rose)
folder_cause R r r' w w' f f' folders.Failed s is reads writes rose =
    subst (λ (x : Status). HasStatusCause R (counts r w f) (counts r' w' f') x) (sym is) (inr (reads, writes, rose))
folder_cause R r r' w w' f f' folders.OutOfMemory s is reads writes rose =
    subst (λ (x : Status). HasStatusCause R (counts r w f) (counts r' w' f') x) (sym is) (same_counts r r' w w' f f' reads writes rose)

-- ---- the last file

by_version : (kept : Files → Type 0) (b n : ProcessCounts) (s : Status) (other : Bool) → n ≡ b
    → s ≡ (if other then statuses.OtherVersion else statuses.BadFolder) → IsFolderRefused kept s → HasStatusCause (IsFolderRefused kept) b n s
by_version kept b n s true calm is r =
    subst (λ (x : Status). HasStatusCause (IsFolderRefused kept) b n x) (sym is) (calm, subst (IsFolderRefused kept) is r)
by_version kept b n s false calm is r =
    subst (λ (x : Status). HasStatusCause (IsFolderRefused kept) b n x) (sym is) (inr (calm, subst (IsFolderRefused kept) is r))

by_house : (kept : Files → Type 0) (b n : ProcessCounts) (records : List (List ℕ)) (s : Status) → n ≡ b → IsFolderRefused kept s → NoHouseOf records s
    → HasStatusCause (IsFolderRefused kept) b n s
by_house kept b n records _ calm r (HeadAlone none) = inr (calm, r)
by_house kept b n records _ calm r (NoneResumes first others split none) = inr (calm, r)
by_house kept b n records _ calm r (DoesAnother first others begun split resumes other) = (calm, r)
by_house kept b n records _ calm r (Unlawful first others begun at split resumes redone bad) = inr (calm, r)

by_reason : (kept : Files → Type 0) (b n : ProcessCounts) (number : ℕ) (octets : List ℕ) (s : Status) → n ≡ b → IsFolderRefused kept s
    → CannotGoOn number octets s → HasStatusCause (IsFolderRefused kept) b n s
by_reason kept b n number octets s calm r (NoSegment bad is) = by_version kept b n s (begins_otherwise (images octets)) calm is r
by_reason kept b n number octets s calm r (NoHouse whole head records split bad) = by_house kept b n records s calm r bad

pub folder_end : (kept : Files → Type 0) (r r' w w' : ℕ) (f f' : FolderCounts) (s : Status) → r' ≡ r → w' ≡ w → HasFolderEnd (IsFolderRefused kept) f f' s
    → HasStatusCause (IsFolderRefused kept) (counts r w f) (counts r' w' f') s
folder_end kept r r' w w' f f' s reads writes (inl x) = folder_cause (IsFolderRefused kept) r r' w w' f f' x.0 s x.1 reads writes x.2
folder_end kept r r' w w' f f' s reads writes (inr (same, inl memory)) =
    calm_memory (IsFolderRefused kept) (counts r w f) (counts r' w' f') s memory (same_counts r r' w w' f f' reads writes same)
folder_end kept r r' w w' f f' s reads writes (inr (same, inr refused)) =
    by_reason kept (counts r w f) (counts r' w' f') refused.file.number refused.file.octets s (same_counts r r' w w' f f' reads writes same) refused refused.why

-- ---- a run of lines

-- a run of lines after something was written
pub run_later : (reads reads' writes0 writes writes' disks disks' : ℕ) (ending : Ending) → writes ≡ writes0
    → HasEndingCause (failures reads writes disks) (failures reads' writes' disks') ending → HasEndingCause (failures reads writes0 disks) (failures reads' writes' disks') ending
run_later reads reads' writes0 writes writes' disks disks' ending same c = subst (λ (w : ℕ). HasEndingCause (failures reads w disks) (failures reads' writes' disks') ending) same c

the_one : (a s : Status) → (let some : Option Status = Some a in some ≡ Some s) → a ≡ s
the_one a s is = cc (is)

by_ending : (r r' w w' k k' : ℕ) (f f' : FolderCounts) (ending : Ending) (s : Status) → HasEndingCause (failures r w k) (failures r' w' k') ending
    → CountsFile (ends_by_disk ending) f f' → status_after ending ≡ Some s → HasStatusCause (λ x. ⊥) (counts r w f) (counts r' w' f') s
by_ending r r' w w' k k' f f' endings.InputEnds s c same is =
    subst (λ (x : Status). HasStatusCause (λ y. ⊥) (counts r w f) (counts r' w' f') x) (the_one statuses.Ok s is) (same_counts r r' w w' f f' c.0 c.1 same)
by_ending r r' w w' k k' f f' endings.BadInput s c same is =
    subst (λ (x : Status). HasStatusCause (λ y. ⊥) (counts r w f) (counts r' w' f') x) (the_one statuses.BadInput s is) (same_counts r r' w w' f f' c.0 c.1 same)
by_ending r r' w w' k k' f f' endings.ReadFault s c same is =
    subst (λ (x : Status). HasStatusCause (λ y. ⊥) (counts r w f) (counts r' w' f') x) (the_one statuses.ReadFault s is) (c.0, c.1, same)
by_ending r r' w w' k k' f f' endings.WriteFault s c same is =
    subst (λ (x : Status). HasStatusCause (λ y. ⊥) (counts r w f) (counts r' w' f') x) (the_one statuses.WriteFault s is) (c.0, c.1, same)
by_ending r r' w w' k k' f f' endings.OutOfMemory s c same is =
    subst (λ (x : Status). HasStatusCause (λ y. ⊥) (counts r w f) (counts r' w' f') x) (the_one statuses.OutOfMemory s is) (same_counts r r' w w' f f' c.0 c.1 same)
by_ending r r' w w' k k' f f' endings.Full s c same is =
    subst (λ (x : Status). HasStatusCause (λ y. ⊥) (counts r w f) (counts r' w' f') x) (the_one statuses.Full s is) (same_counts r r' w w' f f' c.0 c.1 same)
by_ending r r' w w' k k' f f' endings.DiskFault s c same is =
    subst (λ (x : Status). HasStatusCause (λ y. ⊥) (counts r w f) (counts r' w' f') x) (the_one statuses.DiskFault s is) (inl (c.0, c.1, same))
by_ending r r' w w' k k' f f' endings.Grown s c same is = absurd (cc (is))

grown_calm : (r r' w w' k k' : ℕ) (f f' : FolderCounts) (ending : Ending) → HasEndingCause (failures r w k) (failures r' w' k') ending → CountsFile (ends_by_disk ending) f f'
    → ending ≡ endings.Grown → counts r' w' f' ≡ counts r w f
grown_calm r r' w w' k k' f f' ending c same is =
    let so = subst (HasEndingCause (failures r w k) (failures r' w' k')) is c in
    same_counts r r' w w' f f' so.0 so.1 (subst (λ (e : Ending). CountsFile (ends_by_disk e) f f') is same)

pub segment_cause : (r r' w w' k k' : ℕ) (f f' : FolderCounts) (failed : Bool) (left : Left) (ending : Ending) → left.ending ≡ ending
    → HasEndingCause (failures r w k) (failures r' w' k') ending → failed ≡ ends_by_disk ending → CountsFile failed f f'
    → HasSegmentCause (counts r w f) (counts r' w' f') (Ok left)
segment_cause r r' w w' k k' f f' failed left ending so c is same =
    let here = subst (HasEndingCause (failures r w k) (failures r' w' k')) (sym so) c in
    let counted = subst (λ (e : Ending). CountsFile (ends_by_disk e) f f') (sym so) (subst (λ (b : Bool). CountsFile b f f') is same) in (
      λ status after. by_ending r r' w w' k k' f f' left.ending status here counted after,
      λ grown. grown_calm r r' w w' k k' f f' left.ending here counted grown,
    )

-- a file is counted if a call of it failed
pub counts_later : (failed : Bool) (f0 f f' : FolderCounts) → f ≡ f0 → CountsFile failed f f' → CountsFile failed f0 f'
counts_later failed f0 f f' same c = subst (λ (x : FolderCounts). CountsFile failed x f') same c

some_failed : (n : ℕ) → Rose 0 n → 1 ≤ n
some_failed n rose = omega (arith, rose)

none_failed : {P : Type 0} (n : ℕ) → n ≡ 0 → 1 ≤ n → P
none_failed n none some = absurd (omega (arith, none, some))

pub ends_failed : (r r' w w' k k' : ℕ) (ending : Ending) (failed : Bool) → k ≡ 0 → HasEndingCause (failures r w k) (failures r' w' k') ending → failed ≡ ends_by_disk ending
    → (failed ≡ true) ↔ (1 ≤ k')
ends_failed r r' w w' k k' endings.InputEnds failed none c is = (λ so. absurd (cc (is, so)), λ some. none_failed k' (c.2 ∙ none) some)
ends_failed r r' w w' k k' endings.BadInput failed none c is = (λ so. absurd (cc (is, so)), λ some. none_failed k' (c.2 ∙ none) some)
ends_failed r r' w w' k k' endings.ReadFault failed none c is = (λ so. absurd (cc (is, so)), λ some. none_failed k' (c.2 ∙ none) some)
ends_failed r r' w w' k k' endings.WriteFault failed none c is = (λ so. absurd (cc (is, so)), λ some. none_failed k' (c.2 ∙ none) some)
ends_failed r r' w w' k k' endings.OutOfMemory failed none c is = (λ so. absurd (cc (is, so)), λ some. none_failed k' (c.2 ∙ none) some)
ends_failed r r' w w' k k' endings.Full failed none c is = (λ so. absurd (cc (is, so)), λ some. none_failed k' (c.2 ∙ none) some)
ends_failed r r' w w' k k' endings.DiskFault failed none c is = (λ so. some_failed k' (subst (λ (x : ℕ). Rose x k') none c.2), λ some. is)
ends_failed r r' w w' k k' endings.Grown failed none c is = (λ so. absurd (cc (is, so)), λ some. none_failed k' (c.2 ∙ none) some)

-- ---- a segment that is not begun

pub begun_failed : (n : ℕ) (fault : AllocOr JournalFault) (failed : Bool) → HasFaultCause 0 n fault → failed ≡ is_disk_fault fault → (failed ≡ true) ↔ (1 ≤ n)
begun_failed n (Fault journal.DiskFault) failed c is = (λ so. some_failed n c, λ some. is)
begun_failed n (Fault journal.Full) failed c is = (λ so. absurd (cc (is, so)), λ some. none_failed n c some)
begun_failed n (Fault journal.Reopen) failed c is = absurd c
begun_failed n alloc.OutOfMemory failed c is = (λ so. absurd (cc (is, so)), λ some. none_failed n c some)

pub not_begun_cause : (R : Status → Type 0) (r w n : ℕ) (f f' : FolderCounts) (fault : AllocOr JournalFault) (s : Status) → s ≡ status_not_begun fault
    → HasFaultCause 0 n fault → CountsFile (is_disk_fault fault) f f' → HasStatusCause R (counts r w f) (counts r w f') s
not_begun_cause R r w n f f' (Fault journal.DiskFault) s is c counted =
    subst (λ (x : Status). HasStatusCause R (counts r w f) (counts r w f') x) (sym is) (inl (refl, refl, counted))
not_begun_cause R r w n f f' (Fault journal.Full) s is c counted =
    subst (λ (x : Status). HasStatusCause R (counts r w f) (counts r w f') x) (sym is) (same_counts r r w w f f' refl refl counted)
not_begun_cause R r w n f f' (Fault journal.Reopen) s is c counted = absurd c
not_begun_cause R r w n f f' alloc.OutOfMemory s is c counted =
    subst (λ (x : Status). HasStatusCause R (counts r w f) (counts r w f') x) (sym is) (same_counts r r w w f f' refl refl counted)

-- ---- records

pub redoing_differs : (octets rest : List ℕ) (old now : House) (one behind : List ℕ) → IsRedoing octets rest old now → images rest ≡ one ∷ images behind
    → Differs now (body_in one) → DoesOther old (images octets)
redoing_differs octets rest old now one behind so more differs = record {
  done = so.done;
  one = one;
  others = images behind;
  at = now;
  split = so.split ∙ ap (λ (l : List (List ℕ)). so.done ++ l) more;
  redone = so.redone;
  differs = differs;
}

pub redoing_why : (octets rest : List ℕ) (old now : House) (one behind : List ℕ) → IsRedoing octets rest old now → images rest ≡ one ∷ images behind
    → Differs now (body_in one)
    → (statuses.OtherDeeds ≡ statuses.OutOfMemory) ⊎ ((statuses.OtherDeeds ≡ statuses.OtherDeeds) × DoesOther old (images octets))
redoing_why octets rest old now one behind so more differs = inr (refl, redoing_differs octets rest old now one behind so more differs)

pub unresumed : (body : List ℕ) → ((h : House) → ¬ Resumes body h)
    → (statuses.BadFolder ≡ statuses.OutOfMemory) ⊎ ((statuses.BadFolder ≡ statuses.BadFolder) × ((h : House) → ¬ Resumes body h))
unresumed body none = inr (refl, none)

-- a house that is lawful ends
pub unlawful : (home : Option Clearinghouse) (o : Option House) → o ≡ None → (MayEnd home → is_some o ≡ true)
    → (statuses.BadFolder ≡ statuses.OutOfMemory) ⊎ ((statuses.BadFolder ≡ statuses.BadFolder) × ¬ MayEnd home)
unlawful home o is lawful = inr (refl, λ may. absurd (cc (subst (λ (x : Option House). is_some x ≡ true) is (lawful may))))

-- ---- the records after the head

-- memory ran out, or no house goes on
abbrev pub NoHouseFor : (records : List ℕ) → Status → Type 0
NoHouseFor records s = (s ≡ statuses.OutOfMemory) ⊎ NoHouseOf (images records) s

pub none_begins : (records : List ℕ) → images records ≡ [] → NoHouseFor records statuses.BadFolder
none_begins records none = inr (HeadAlone none)

pub none_resumed : (records first others body : List ℕ) (e s : Status) → images records ≡ first ∷ images others → body ≡ body_in first
    → (e ≡ statuses.OutOfMemory) ⊎ ((e ≡ statuses.BadFolder) × ((h : House) → ¬ Resumes body h)) → s ≡ e → NoHouseFor records s
none_resumed records first others body e s split one (inl memory) same = inl (same ∙ memory)
none_resumed records first others body e s split one (inr bad) same =
    inr (subst (NoHouseOf (images records)) (sym (same ∙ bad.0))
    (NoneResumes first (images others) split (subst (λ (b : List ℕ). (h : House) → ¬ Resumes b h) one bad.1)))

pub none_redone : (records first others body : List ℕ) (begun : House) (e s : Status) → images records ≡ first ∷ images others → body ≡ body_in first
    → Resumes body begun → (e ≡ statuses.OutOfMemory) ⊎ ((e ≡ statuses.OtherDeeds) × DoesOther begun (images others)) → s ≡ e → NoHouseFor records s
none_redone records first others body begun e s split one resumes (inl memory) same = inl (same ∙ memory)
none_redone records first others body begun e s split one resumes (inr bad) same =
    inr (subst (NoHouseOf (images records)) (sym (same ∙ bad.0))
    (DoesAnother first (images others) begun split (subst (λ (b : List ℕ). Resumes b begun) one resumes) bad.1))

pub none_ended : {T : Type 0} (records first others body : List ℕ) (begun at : House) (r : Result T Status) → images records ≡ first ∷ images others
    → body ≡ body_in first → Resumes body begun → RedoneBy begun (map body_in (images others)) at
    → IfErr r (λ s. (s ≡ statuses.OutOfMemory) ⊎ ((s ≡ statuses.BadFolder) × ¬ MayEnd at.home)) → IfErr r (NoHouseFor records)
none_ended records first others body begun at r split one resumes redone why =
    if_err (λ s. (s ≡ statuses.OutOfMemory) ⊎ ((s ≡ statuses.BadFolder) × ¬ MayEnd at.home)) (NoHouseFor records) r why by_case
  where
    by_case : (s : Status) → (s ≡ statuses.OutOfMemory) ⊎ ((s ≡ statuses.BadFolder) × ¬ MayEnd at.home) → NoHouseFor records s
    by_case s (inl memory) = inl memory
    by_case s (inr bad) =
        inr (subst (NoHouseOf (images records)) (sym bad.0)
        (Unlawful first (images others) begun at split (subst (λ (b : List ℕ). Resumes b begun) one resumes) redone bad.1))

-- ---- the octets of a segment

-- octets of which the last record was found are a whole segment
pub whole_segment : (number : ℕ) (title octets body digest : List ℕ) → title ≡ head_of number [] → IsLast title (images octets) body digest
    → (EndedLater digest (end_of octets) → ⊥) → IsWholeSegment number octets
whole_segment number title octets body digest head last ended =
    record { body = body; digest = digest; last = subst (λ (t : List ℕ). IsLast t (images octets) body digest) head last; ended = ended }

-- memory ran out, or no house goes on
abbrev pub NoneFor : (number : ℕ) → (octets : List ℕ) → Status → Type 0
NoneFor number octets s = (s ≡ statuses.OutOfMemory) ⊎ CannotGoOn number octets s

pub no_segment : (number : ℕ) (title octets : List ℕ) (s : Status) → title ≡ head_of number [] → (IsSegment title octets → ⊥)
    → s ≡ status_not_read (images octets) → NoneFor number octets s
no_segment number title octets s head bad is = inr (NoSegment (subst (λ (t : List ℕ). IsSegment t octets → ⊥) head bad) is)

pub no_house : (number : ℕ) (octets head records : List ℕ) (e s : Status) → IsWholeSegment number octets → images octets ≡ head ∷ images records
    → NoHouseFor records e → s ≡ e → NoneFor number octets s
no_house number octets head records e s whole split (inl memory) same = inl (same ∙ memory)
no_house number octets head records e s whole split (inr bad) same =
    inr (NoHouse whole head (images records) split (subst (NoHouseOf (images records)) (sym same) bad))

-- a segment has a head
has_head : {A : Type 0} (title : List ℕ) (records : List (List ℕ)) (last digest : List ℕ) → IsLast title records last digest → records ≡ [] → A
has_head title records last digest is none =
    absurd (cc (is.chain ∙ ap (λ (l : List (List ℕ)). chained is.before l) is.head, none))

pub headless : (number : ℕ) (title octets last digest : List ℕ) → IsLast title (images octets) last digest → images octets ≡ []
    → NoneFor number octets statuses.BadFolder
headless number title octets last digest is none = has_head title (images octets) last digest is none

-- what the folder answered of its last file
refused_file : (kept : Files → Type 0) (f f' : FolderCounts) (number : ℕ) (octets : List ℕ) (s : Status)
    → ((files : Files) → kept files → last_file files ≡ Some (record { number = number; octets = octets })) → f' ≡ f
    → (s ≡ statuses.OutOfMemory) ⊎ CannotGoOn number octets s → HasFolderEnd (IsFolderRefused kept) f f' s
refused_file kept f f' number octets s always calm (inl memory) = inr (calm, inl memory)
refused_file kept f f' number octets s always calm (inr bad) =
    inr (calm, inr (record { file = record { number = number; octets = octets }; always = always; why = bad }))

pub refused_by_file : {T : Type 0} (kept : Files → Type 0) (f f' : FolderCounts) (number : ℕ) (octets read : List ℕ) (r : Result T Status)
    → ((files : Files) → kept files → last_file files ≡ Some (record { number = number; octets = octets })) → f' ≡ f → read ≡ octets
    → IfErr r (NoneFor number read) → IfErr r (HasFolderEnd (IsFolderRefused kept) f f')
refused_by_file kept f f' number octets read r always calm same why =
    if_err (NoneFor number read) (HasFolderEnd (IsFolderRefused kept) f f') r why
    (λ s bad. refused_file kept f f' number octets s always calm (subst (λ (l : List ℕ). NoneFor number l s) same bad))

-- what the folder answered is what a process finds
pub finds_file : (kept : Files → Type 0) (number : ℕ) (octets read : List ℕ) (r : Result FolderHouse Status)
    → ((files : Files) → kept files → last_file files ≡ Some (record { number = number; octets = octets })) → read ≡ octets
    → IfOk r (IsLastSegment number read) → IfOk r (FindsSo kept)
finds_file kept number octets read (Ok f) always same is = record {
  file = Some (record { number = number; octets = octets });
  always = always;
  is = subst (λ (l : List ℕ). IsLastSegment number l f) same is;
}
finds_file kept number octets read (Err s) always same is = tt

-- the lock was held before
pub folder_end_later : (kept : Files → Type 0) (r w : ℕ) (f0 f f' : FolderCounts) (e s : Status) → f ≡ f0 → HasFolderEnd (IsFolderRefused kept) f f' e → s ≡ e
    → HasStatusCause (IsFolderRefused kept) (counts r w f0) (counts r w f') s
folder_end_later kept r w f0 f f' e s same end is =
    subst (λ (x : Status). HasStatusCause (IsFolderRefused kept) (counts r w f0) (counts r w f') x) (sym is)
    (folder_end kept r r w w f0 f' e refl refl (subst (λ (x : FolderCounts). HasFolderEnd (IsFolderRefused kept) x f' e) same end))

-- a fault of the folder after a call that was done
pub rose_later : (fault : FolderFault) (f0 f f' : FolderCounts) → f ≡ f0 → RoseAt fault f f' → RoseAt fault f0 f'
rose_later fault f0 f f' same rose = subst (λ (x : FolderCounts). RoseAt fault x f') same rose

-- ---- a folder that is not read

by_version_plain : (other : Bool) (s : Status) → s ≡ (if other then statuses.OtherVersion else statuses.BadFolder) → IsPlain s
by_version_plain true s is = other_plain s is
by_version_plain false s is = bad_plain s is

house_plain : (records : List (List ℕ)) (s : Status) → NoHouseOf records s → IsPlain s
house_plain records _ (HeadAlone none) = bad_plain statuses.BadFolder refl
house_plain records _ (NoneResumes first others split none) = bad_plain statuses.BadFolder refl
house_plain records _ (DoesAnother first others begun split resumes other) = deeds_plain statuses.OtherDeeds refl
house_plain records _ (Unlawful first others begun at split resumes redone bad) = bad_plain statuses.BadFolder refl

why_plain : (number : ℕ) (octets : List ℕ) (s : Status) → CannotGoOn number octets s → IsPlain s
why_plain number octets s (NoSegment bad is) = by_version_plain (begins_otherwise (images octets)) s is
why_plain number octets s (NoHouse whole head records split bad) = house_plain records s bad

pub unread_plain : (kept : Files → Type 0) (f f' : FolderCounts) (e s : Status) → HasFolderEnd (IsFolderRefused kept) f f' e → s ≡ e → IsPlain s
unread_plain kept f f' e s (inl x) is = folder_plain x.0 s (is ∙ x.1)
unread_plain kept f f' e s (inr (same, inl memory)) is = memory_plain s (is ∙ memory)
unread_plain kept f f' e s (inr (same, inr refused)) is = subst IsPlain (sym is) (why_plain refused.file.number refused.file.octets e refused.why)
