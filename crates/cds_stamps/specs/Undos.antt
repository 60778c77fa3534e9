-- Words of private contracts, but for `RaisesAt`, which public ones cite too: logs that take
-- changes of a finite map back. An entry of a log has the key that was changed, and what mends the
-- value that stood there; None, where the key was new. The last change is last, and is taken back
-- first.
use Rattle.std.specs.Prelude.{◌≡◌, Bool, true, false, List, [], ◌∷◌, Option, Some, None, if◌then◌else◌, refl}
use Rattle.std.proofs.Common.{ap, ◌∙◌}
use Rattle.std.specs.Option.{option_map}
use Rattle.std.specs.declared.cmp.Ordering.{Ordering}
use Rattle.std.specs.Ordering.{eq_by_cmp}
use Rattle.std.specs.Cmp.{IsTotalOrder}
use Rattle.std.specs.FinMap.{FinMap, IsAntisymmetric, get, keys, contains_key-keys}
use Rattle.cds_stamps.specs.Semilattice.{maybe}
use Rattle.cds_stamps.specs.Keyed.{of_keys, get-of_all_keys, no_value}

-- what one change leaves when it is taken back: nothing at a new key, else the mended value
abbrev pub value_taken_back : {X U : Type 0} → (U → X → X) → Option U → Option X → Option X
value_taken_back undo None x = None
value_taken_back undo (Some u) x = option_map (undo u) x

-- the way back to a value that was replaced whole is the value itself
abbrev pub put_back : {X : Type 0} → X → X → X
put_back old x = old

-- what a log leaves at a key when it is taken back, the last change first
abbrev pub back_at : {K X U : Type 0} → (K → K → Ordering) → (U → X → X) → List (K × Option U) → K → Option X → Option X
back_at R undo [] q x = x
back_at R undo (e ∷ log) q x = if eq_by_cmp R q e.0 then value_taken_back undo e.1 (back_at R undo log q x) else back_at R undo log q x

-- n is m with x joined in at k
abbrev pub RaisesAt : {K X : Type 0} {R : K → K → Ordering} → (X → X → X) → FinMap R X → FinMap R X → K → X → Type 0
RaisesAt {K} {X} {R} f m n k x = (q : K) → get n q ≡ maybe f (get m q) (if eq_by_cmp R q k then Some x else None)

-- the log takes n back to m
abbrev pub TakesBack : {K X U : Type 0} {R : K → K → Ordering} → (U → X → X) → FinMap R X → FinMap R X → List (K × Option U) → Type 0
TakesBack {K} {R = R} undo m n log = (q : K) → back_at R undo log q (get n q) ≡ get m q

-- the longer log takes n to where the shorter log takes m
abbrev pub LogsChange : {K X U : Type 0} {R : K → K → Ordering} → (U → X → X) → FinMap R X → FinMap R X → List (K × Option U) → List (K × Option U) → Type 0
LogsChange {K} {R = R} undo m n log longer = (q : K) → back_at R undo longer q (get n q) ≡ back_at R undo log q (get m q)

-- n is m with the change u at k taken back
abbrev pub MendsAt : {K X U : Type 0} {R : K → K → Ordering} → (U → X → X) → FinMap R X → FinMap R X → K → Option U → Type 0
MendsAt {K} {R = R} undo m n k u = (q : K) → get n q ≡ back_at R undo ((k, u) ∷ []) q (get m q)

-- the map that a log takes m back to
pub taken_back : {K X U : Type 0} {R : K → K → Ordering} → (U → X → X) → List (K × Option U) → FinMap R X → FinMap R X
taken_back {R = R} undo log m = of_keys (keys m) (λ q. back_at R undo log q (get m q))

-- nothing is taken back of nothing
mended-none : {X U : Type 0} (undo : U → X → X) (u : Option U) (b : Bool) (x : Option X) → x ≡ None → (if b then value_taken_back undo u x else x) ≡ None
mended-none undo None true x e = refl
mended-none undo (Some u) true x e = ap (option_map (undo u)) e
mended-none undo u false x e = e

back_at-none : {K X U : Type 0} (R : K → K → Ordering) (undo : U → X → X) (log : List (K × Option U)) (q : K) (x : Option X) → x ≡ None
    → back_at R undo log q x ≡ None
back_at-none R undo [] q x e = e
back_at-none R undo (d ∷ log) q x e = mended-none undo d.1 (eq_by_cmp R q d.0) (back_at R undo log q x) (back_at-none R undo log q x e)

-- what is at a key of the map that a log takes back
pub get-taken_back : {K X U : Type 0} {R : K → K → Ordering} → IsTotalOrder R → IsAntisymmetric R
    → (undo : U → X → X) (log : List (K × Option U)) (m : FinMap R X) (q : K) → get (taken_back undo log m) q ≡ back_at R undo log q (get m q)
unfolding taken_back
get-taken_back {R = R} o same undo log m =
    get-of_all_keys o same (keys m) (λ q. back_at R undo log q (get m q))
    (λ q e. back_at-none R undo log q (get m q) (no_value (get m q) (contains_key-keys m q ∙ e)))
