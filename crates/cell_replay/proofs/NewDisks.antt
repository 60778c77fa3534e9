-- New disks, one after another.
use Rattle.std.proofs.Common.{◌≡◌, ℕ, zero, suc, ◌+◌, List, [], ◌∷◌, ◌++◌, length, refl, sym, ap, ◌∙◌, subst, arith, length-append}
use Rattle.std.specs.Prelude.{Option, Some, None, IfSome, slice_get}
use Rattle.house_journal.specs.MemoryDisks.{MemState}
use Rattle.house_journal.specs.JournalRecords.{images}
use Rattle.house_journal.specs.declared.step.Stop.TheVariants.{Never}
use Rattle.disk_journals.specs.KeptJournals.{Holds, IsNew}
use Rattle.disk_journals.proofs.Leaving.{new_holds, no_images}
use Rattle.journal_replay.specs.CellDisks.{AreNew}
use Rattle.journal_replay.specs.CellJournals.{empty_state}
use Rattle.journal_replay.specs.JournalRules.{AreOnDisks}

-- so many new disks so far
pub record AreNewSo (disks : List MemState) (n : ℕ) : Type 0 where
  pub count : length disks ≡ n
  pub each : (i : ℕ) → IfSome (slice_get disks i) IsNew

pub none_new : AreNewSo [] 0
none_new = record { count = refl; each = λ i. tt }

each_more : (disks : List MemState) (m : MemState) → ((i : ℕ) → IfSome (slice_get disks i) IsNew) → IsNew m → (i : ℕ)
    → IfSome (slice_get (disks ++ m ∷ []) i) IsNew
each_more [] m each new zero = new
each_more [] m each new (suc i) = tt
each_more (d ∷ ds) m each new zero = each 0
each_more (d ∷ ds) m each new (suc i) = each_more ds m (λ j. each (suc j)) new i

-- one more
pub one_new : (disks disks' : List MemState) (m : MemState) (n : ℕ) → AreNewSo disks n → IsNew m → disks' ≡ disks ++ m ∷ [] → AreNewSo disks' (n + 1)
one_new disks disks' m n so new is =
    let size = length-append disks (m ∷ []) in
    let count = so.count in
    subst (λ ds. AreNewSo ds (n + 1)) (sym is) (record { count = omega (arith, size, count); each = each_more disks m so.each new })

-- all
pub all_new : (disks : List MemState) → AreNewSo disks 255 → AreNew disks
all_new disks so = record { count = so.count; each = so.each }

-- a disk as it is made
pub is_new : (m : MemState) → m ≡ record { octets = []; steps = []; calls = 0; faults = 0; stop = Never } → IsNew m
is_new m is = record { octets = ap (λ (m : MemState). m.octets) is; steps = ap (λ (m : MemState). m.steps) is; never = ap (λ (m : MemState). m.stop) is }

-- ---- what new disks have

-- nothing is on a new disk, whatever a crash leaves
nothing_held : (m : MemState) → IsNew m → Holds m []
nothing_held m new = subst (λ list. Holds m list) (ap images new.octets ∙ no_images) (new_holds m new)

-- so new disks are those of a cell without houses
pub new_on_disks : (disks disks' : List MemState) → AreNew disks → disks' ≡ disks → AreOnDisks disks' empty_state
new_on_disks disks disks' new same = subst (λ ds. AreOnDisks ds empty_state) (sym same) (hold, λ i less. refl)
  where
    hold : (i : ℕ) → IfSome (slice_get disks i) (λ m. Holds m [])
    hold i = by (slice_get disks i) (new.each i)
      where
        by : (o : Option MemState) → IfSome o IsNew → IfSome o (λ m. Holds m [])
        by None n = tt
        by (Some m) n = nothing_held m n
