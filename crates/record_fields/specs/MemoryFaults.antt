-- Where a result is out of memory.
use Rattle.std.specs.Prelude.{Result, Ok, Err}
use Rattle.cds_stamps.specs.declared.alloc_or.AllocOr.{AllocOr}
use Rattle.cds_stamps.specs.declared.alloc_or.AllocOr.TheVariants.{Fault, OutOfMemory}

-- this holds where the result is out of memory
abbrev pub IfWant : {T E : Type 0} → Type 0 → Result T (AllocOr E) → Type 0
IfWant P (Ok x) = Unit {0}
IfWant P (Err (Fault fault)) = Unit {0}
IfWant P (Err OutOfMemory) = P
