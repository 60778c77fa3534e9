-- What a crash leaves of a segment: a front of the records that were put.
use Rattle.std.proofs.Common.{◌≡◌, ◌≢◌, ⊎_elim, ℕ, ◌^◌, ◌<◌, ◌≤◌, List, [], ◌∷◌, ◌++◌, refl, sym, ◌∙◌, ap, subst, append_assoc, append-nil}
use Rattle.std.specs.Prelude.{Some, Result, Err, OnOk}
use Rattle.house_journal.specs.declared.disk.Disk.{Ghosts}
use Rattle.house_journal.specs.Journals.{LeavesOnly}
use Rattle.house_journal.specs.JournalRecords.{images}
use Rattle.cds_stamps.specs.declared.alloc_or.AllocOr.{AllocOr}
use Rattle.cds_stamps.specs.declared.alloc_or.AllocOr.TheVariants.{Fault}
use Rattle.house_journal.specs.Faults.{HasJournalCause}
use Rattle.house_journal.specs.declared.journal.JournalFault.{JournalFault}
use Rattle.house_journal.specs.declared.journal.JournalFault.TheVariants as journal
use Rattle.house_journal.proofs.Moments.{begins, weaker}
use Rattle.house_segments.specs.Segments.{HasBodies, IsAt, IsWithOrWithout, disk_of, size_with}
use Rattle.house_segments.specs.declared.segment.Segment.{Segment}
use Rattle.house_serving.specs.PrivateParts.{ending_of_put, HasKeepCause, KeepsRecord}
use Rattle.house_serving.specs.Serving.{HasFront, first_records}
use Rattle.house_serving.specs.declared.ending.Ending.{Ending}
use Rattle.house_serving.specs.declared.ending.Ending.TheVariants.{Full}

-- these bodies, and none of the others
pub front_none : (before : List ℕ) (bodies more : List (List ℕ)) (c : List ℕ) → HasBodies before bodies c → HasFront before bodies more c
front_none before bodies more c has = record {
  front = [];
  rest = more;
  split = refl;
  has = subst (λ (l : List (List ℕ)). HasBodies before l c) (sym (append-nil bodies)) has;
}

-- these and all of the others
pub front_all : (before : List ℕ) (bodies more : List (List ℕ)) (c : List ℕ) → HasBodies before (bodies ++ more) c → HasFront before bodies more c
front_all before bodies more c has = record { front = more; rest = []; split = sym (append-nil more); has = has }

-- with or without one
pub front_one : (before : List ℕ) (bodies : List (List ℕ)) (body c : List ℕ) → IsWithOrWithout before bodies body c
    → HasFront before bodies (body ∷ []) c
front_one before bodies body c left =
    ⊎_elim (λ without. front_none before bodies (body ∷ []) c without) (λ with. front_all before bodies (body ∷ []) c with) left

-- a front of the first ones is a front of all
pub front_more : (before : List ℕ) (bodies some more : List (List ℕ)) (c : List ℕ) → HasFront before bodies some c → HasFront before bodies (some ++ more) c
front_more before bodies some more c is = record {
  front = is.front;
  rest = is.rest ++ more;
  split = ap (λ (l : List (List ℕ)). l ++ more) is.split ∙ append_assoc is.front is.rest more;
  has = is.has;
}

-- a front of the later ones, after the first ones
pub front_later : (before : List ℕ) (bodies some more : List (List ℕ)) (c : List ℕ) → HasFront before (bodies ++ some) more c
    → HasFront before bodies (some ++ more) c
front_later before bodies some more c is = record {
  front = some ++ is.front;
  rest = is.rest;
  split = ap (λ (l : List (List ℕ)). some ++ l) is.split ∙ sym (append_assoc some is.front is.rest);
  has = subst (λ (l : List (List ℕ)). HasBodies before l c) (append_assoc bodies some is.front) is.has;
}

module _ {D : Type 0} (g : Ghosts D) (before : List ℕ) (bodies : List (List ℕ)) where
  -- each crash of a segment leaves its records
  pub left_at : (s : Segment D) → IsAt g s before bodies → (c : List ℕ) → g.may_leave (disk_of s) c → HasBodies before bodies c
  left_at s at c left = ap images (at.ready.durable c left) ∙ at.records

  -- so it is while nothing is put
  pub unmoved : ((d : D) (c : List ℕ) → g.left_since d (g.moment d) c → g.may_leave d c) → (more : List (List ℕ)) (s : Segment D)
      → IsAt g s before bodies → LeavesOnly g (disk_of s) (disk_of s) (HasFront before bodies more)
  unmoved only more s at =
      (begins g (HasFront before bodies more) (disk_of s) (only (disk_of s)) (λ c left. front_none before bodies more c (left_at s at c left))).so_far

  -- a record was put, or may have been
  pub kept_by_put : ((d : D) (t : ℕ) (c : List ℕ) → t ≤ g.moment d → g.may_leave d c → g.left_since d t c) → (body : List ℕ) (s s' : Segment D)
      (result : Result (Unit {0}) Ending) → LeavesOnly g (disk_of s) (disk_of s') (IsWithOrWithout before bodies body)
      → OnOk result (IsAt g s' before (bodies ++ body ∷ [])) → (result ≡ Err Full → (s' ≡ s) × (2 ^ 40 < size_with (bodies ++ body ∷ []))) → HasKeepCause (g.faults (disk_of s)) (g.faults (disk_of s')) result
      → KeepsRecord g (first_records before bodies) s s' (Some body) result
  kept_by_put counts body s s' result crash ok full cause = record {
    crash = weaker g (IsWithOrWithout before bodies body) (HasFront before bodies (body ∷ [])) (disk_of s) (disk_of s') (front_one before bodies body) crash;
    left = λ c left. front_one before bodies body c (crash.each c (counts (disk_of s') (g.moment (disk_of s)) c crash.later left));
    ok = ok;
    full = full;
    cause = cause;
  }

-- a put that failed so ends a run by its cause
pub fault_keeps : (disks disks' : ℕ) (fault : JournalFault) → fault ≢ journal.Reopen
    → (let failed : Result (Unit {0}) (AllocOr JournalFault) = Err (Fault fault) in HasJournalCause disks disks' failed)
    → HasKeepCause disks disks' (Err (ending_of_put fault))
fault_keeps disks disks' journal.Full other cause = cause
fault_keeps disks disks' journal.DiskFault other cause = cause.1
fault_keeps disks disks' journal.Reopen other cause = absurd (other refl)

-- only a full journal ends it as full
pub only_full : (fault : JournalFault) → (P : Type 0) → (fault ≡ journal.Full → P)
    → (let ends : Result (Unit {0}) Ending = Err (ending_of_put fault) in ends ≡ Err Full) → P
only_full journal.Full P so is = so refl
only_full journal.DiskFault P so is = absurd (cc (is))
only_full journal.Reopen P so is = absurd (cc (is))
