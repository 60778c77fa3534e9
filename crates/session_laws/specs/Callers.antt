-- Callers of sessions who do their part, and the records that they have kept. Own.
use Rattle.std.specs.Prelude.{◌≡◌, ℕ, Bool, true, false, List, [], ◌∷◌, ◌++◌, map, Some, None}
use Rattle.house_turns.specs.Openings.{IsSegmentRecord, Redoes, Resumes, new_house}
use Rattle.house_runs.specs.Folders.{FolderSegment, IsFolder, segment_bodies}
use Rattle.house_sessions.specs.Steps.{IsSaid, IsStarted, at_first}
use Rattle.house_sessions.specs.declared.session.Session.{Session}

-- what a caller is at: he has no session; one reads the records of the last segment, of which these
-- are left; or one has started, and if a record of it waits, that begins a segment or does not
pub data Doing : Type 0 where
  Nothing : Doing
  Reads : Session → (left : List (List ℕ)) → Doing
  Asks : (begins : Bool) → Session → Doing

-- a caller: the bodies of the records that he has kept, segment by segment, and what he is at
pub record Caller : Type 0 where
  pub kept : List (List (List ℕ))
  pub doing : Doing

-- segments, of which the last has one record more
abbrev pub one_more : (body : List ℕ) → List (List (List ℕ)) → List (List (List ℕ))
one_more body [] = []
one_more body (bodies ∷ []) = (bodies ++ body ∷ []) ∷ []
one_more body (bodies ∷ next ∷ later) = bodies ∷ one_more body (next ∷ later)

-- how a caller goes on: at any moment he may stop; each call of a session does what its contract
-- says; and a record is kept before the call that says so
pub data GoesOn (c : Caller) : Caller → Type 0 where
  Stops : GoesOn c (record c { doing = Nothing })
  New : c.doing ≡ Nothing → c.kept ≡ []
      → GoesOn c (record c { doing = Reads (at_first new_house) [] })
  Opens : (before : List (List (List ℕ))) (first : List ℕ) (others : List (List ℕ)) (s : Session)
      → c.doing ≡ Nothing → c.kept ≡ before ++ (first ∷ others) ∷ [] → Resumes first s.house
      → GoesOn c (record c { doing = Reads s others })
  Reading : (s s' : Session) (body : List ℕ) (left : List (List ℕ))
      → c.doing ≡ Reads s (body ∷ left) → Redoes s.house body s'.house
      → GoesOn c (record c { doing = Reads s' left })
  Starts : (s s' : Session) → c.doing ≡ Reads s [] → IsStarted s.house s'
      → GoesOn c (record c { doing = Asks true s' })
  Says : (begins : Bool) (s s' : Session) (line : List ℕ) → c.doing ≡ Asks begins s
      → IsSaid s line s' → GoesOn c (record c { doing = Asks false s' })
  NextSegment : (begins : Bool) (s : Session) (body : List ℕ) → c.doing ≡ Asks begins s
      → s.body ≡ None → IsSegmentRecord s.house body
      → GoesOn c (record c { doing = Asks true (record s { text = []; body = Some body }) })
  KeepsFirst : (s : Session) (body : List ℕ) → c.doing ≡ Asks true s → s.body ≡ Some body
      → GoesOn c (record {
        kept = c.kept ++ (body ∷ []) ∷ [];
        doing = Asks false (record s { body = None });
      })
  KeepsNext : (s : Session) (body : List ℕ) → c.doing ≡ Asks false s → s.body ≡ Some body
      → GoesOn c (record {
        kept = one_more body c.kept;
        doing = Asks false (record s { body = None });
      })

-- the life of a caller: he begins with no record, and goes on
pub data Lives : Caller → Type 0 where
  Begins : Lives (record { kept = []; doing = Nothing })
  Later : (c c' : Caller) → Lives c → GoesOn c c' → Lives c'

-- these records are those of a folder, segment by segment
pub record AreOfFolder (kept : List (List (List ℕ))) : Type 0 where
  pub segments : List FolderSegment
  pub folder : IsFolder segments
  pub kept_are : map segment_bodies segments ≡ kept
