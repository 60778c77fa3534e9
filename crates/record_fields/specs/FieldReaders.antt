-- What a reader of fields returned, by the reading of its layout.
use Rattle.std.specs.Prelude.{◌≡◌, ℕ, List, [], ◌∷◌, ◌++◌, Result, Ok, Err}
use Rattle.std.specs.FinMap.{FinMap, insert}
use Rattle.std.specs.declared.cmp.Ordering.{Ordering}
use Rattle.cds_stamps.specs.declared.alloc_or.AllocOr.{AllocOr}
use Rattle.cds_stamps.specs.declared.alloc_or.AllocOr.TheVariants.{Fault, OutOfMemory}
use Rattle.record_fields.specs.declared.fault.Broken.{Broken}
use Rattle.record_fields.specs.Layouts.{Layout}
use Rattle.record_fields.specs.LayoutReading.{read}

-- what a reader returned, seen by `view`, and what it leaves are what reading by the layout gives;
-- or it is out of memory
abbrev pub Reads : {X A : Type 0} → (X → A) → Layout A → List ℕ → List ℕ → Result X (AllocOr Broken) → Type 0
Reads view l old new (Ok x) = read l old ≡ Ok (view x, new)
Reads view l old new (Err (Fault b)) = read l old ≡ Err b
Reads view l old new (Err OutOfMemory) = Unit {0}

-- what a reader that takes no memory returned, and what it leaves, in the same way; it never wants
-- for memory
abbrev pub ReadsSurely : {X A : Type 0} → (X → A) → Layout A → List ℕ → List ℕ → Result X Broken → Type 0
ReadsSurely view l old new (Ok x) = read l old ≡ Ok (view x, new)
ReadsSurely view l old new (Err b) = read l old ≡ Err b

-- what a reader of one more item returned, its key, and how it left the map and the octets
abbrev pub Adds : {Y K X : Type 0} {R : K → K → Ordering} → (Y → K) → Layout (K × X) → (old new : FinMap R X) → List ℕ → List ℕ → Result Y (AllocOr Broken)
    → Type 0
Adds {X = X} view l m n old new (Ok y) = (x : X) × (read l old ≡ Ok ((view y, x), new)) × (n ≡ insert m (view y) x)
Adds view l m n old new (Err (Fault b)) = read l old ≡ Err b
Adds view l m n old new (Err OutOfMemory) = Unit {0}

-- the same where the items are put after one another
abbrev pub Puts : {Y K X : Type 0} → (Y → K) → Layout (K × X) → (old new : List (K × X)) → List ℕ → List ℕ → Result Y (AllocOr Broken) → Type 0
Puts {X = X} view l es fs old new (Ok y) = (x : X) × (read l old ≡ Ok ((view y, x), new)) × (fs ≡ es ++ (view y, x) ∷ [])
Puts view l es fs old new (Err (Fault b)) = read l old ≡ Err b
Puts view l es fs old new (Err OutOfMemory) = Unit {0}
