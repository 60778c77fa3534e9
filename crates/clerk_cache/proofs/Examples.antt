-- Examples of what a clerk answers over a reader that changes between its questions.
use Rattle.std.proofs.Common.{◌≡◌, ℕ, List, [], ◌∷◌, refl}
use Rattle.std.specs.Prelude.{codes, length, None}
use Rattle.cds_stamps.specs.declared.numbers.HouseNo.{HouseNo}
use Rattle.cell_names.specs.ChildPointers.{Pointer}
use Rattle.resolver.specs.Readers.{Reader, Sight, Unreachable, Absent, Object}
use Rattle.clerk_cache.specs.declared.clerk.Clerk.{Clerk}
use Rattle.clerk_cache.specs.Clerks.{new_clerk, sight_answer}

-- a reader that sees the same of each name
abbrev seeing : Sight → Reader
seeing s = record { root = None; sees = λ at name. s; values = λ entry attr. [] }

abbrev here : Pointer
here = record { dir = 1; master = 1; others = [] }

abbrev house : ℕ → HouseNo
house n = record { 0 = n }

-- the clerk after it was asked for a name, where this was seen
abbrev asked : Sight → List ℕ → Clerk → Clerk
asked s name c = (sight_answer 3 (seeing s) here name c).1

-- what it answers then, where this is seen
abbrev answer : Sight → List ℕ → Clerk → Sight
answer s name c = (sight_answer 4 (seeing s) here name c).0

abbrev empty : ℕ → Clerk
empty room = new_clerk room (house 1)

first_answer : answer (Object 1) (codes "a") (empty 1) ≡ Object 1
first_answer = refl

kept_answer : answer (Absent 1) (codes "a") (asked (Object 1) (codes "a") (empty 1)) ≡ Object 1
kept_answer = refl

-- what no house answered is asked again
unreachable : answer (Absent 1) (codes "a") (asked Unreachable (codes "a") (empty 1)) ≡ Absent 1
unreachable = refl

-- a clerk of room 1 keeps its last answer alone
dropped : answer (Absent 1) (codes "a") (asked (Object 1) (codes "b") (asked (Object 1) (codes "a") (empty 1))) ≡ Absent 1
dropped = refl

-- one of room 2 keeps the answer that was asked for again
moved : answer (Absent 1) (codes "a")
    (asked (Object 1) (codes "c") (asked (Object 1) (codes "a") (asked (Object 1) (codes "b") (asked (Object 1) (codes "a") (empty 2))))) ≡ Object 1
moved = refl

-- another house is another question
other_house : answer (Absent 2) (codes "a") (record (asked (Object 1) (codes "a") (empty 1)) { prefer = house 2 }) ≡ Absent 2
other_house = refl
