-- Out of memory of a part, and of the whole.
use Rattle.std.proofs.Common.{ℕ, Result, Ok, Err}
use Rattle.cds_stamps.specs.declared.alloc_or.AllocOr.{AllocOr}
use Rattle.cds_stamps.specs.declared.alloc_or.AllocOr.TheVariants.{Fault, OutOfMemory}
use Rattle.record_fields.specs.declared.fault.Broken.{Broken}
use Rattle.record_fields.specs.Decoding.{error_of}
use Rattle.record_fields.specs.MemoryFaults.{IfWant}

-- what holds where a part wants for memory gives what holds of the whole
pub part_wants : {E : Type 0} (P Q : Type 0) (e : AllocOr E) → (P → Q) → IfWant {T = ℕ} P (Err e) → IfWant {T = ℕ} Q (Err e)
part_wants P Q (Fault b) f h = tt
part_wants P Q OutOfMemory f h = f h

-- the same of the error by its place
pub place_wants : (P Q : Type 0) (len : ℕ) (e : AllocOr Broken) → (P → Q) → IfWant {T = ℕ} P (Err e) → IfWant {T = ℕ} Q (Err (error_of len e))
place_wants P Q len (Fault b) f h = tt
place_wants P Q len OutOfMemory f h = f h

-- what holds in any case
pub any_wants : {T E : Type 0} (P : Type 0) (r : Result T (AllocOr E)) → P → IfWant P r
any_wants P (Ok x) h = tt
any_wants P (Err (Fault b)) h = tt
any_wants P (Err OutOfMemory) h = h
