-- Answers of calls that may find a fault, and may run out of memory.
use Rattle.std.specs.Prelude.{◌≡◌, Option, Some, None, Result, Ok, Err}
use Rattle.cds_stamps.specs.declared.alloc_or.AllocOr.{AllocOr}
use Rattle.cds_stamps.specs.declared.alloc_or.AllocOr.TheVariants.{Fault, OutOfMemory}

-- the value, unless there is a fault
abbrev pub ok_unless : {T E : Type 0} → Option E → T → Result T E
ok_unless None value = Ok value
ok_unless (Some fault) value = Err fault

-- the result is the expected one, or out of memory, of which nothing is said
abbrev pub Answers : {T E : Type 0} → Result T (AllocOr E) → Result T E → Type 0
Answers (Ok value) expected = expected ≡ Ok value
Answers (Err (Fault fault)) expected = expected ≡ Err fault
Answers (Err OutOfMemory) expected = Unit {0}
