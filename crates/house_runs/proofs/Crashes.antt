-- What a crash leaves of a segment: its first records, and those of lines that were answered.
use Rattle.std.proofs.Common.{◌≡◌, ℕ, ◌+◌, inl, inr, List, [], ◌∷◌, ◌++◌, length, refl, sym, ap, subst, ◌∙◌, append_assoc, append-nil, arith}
use Rattle.std.specs.Prelude.{Option, Some, None}
use Rattle.cds_base.specs.Lines.{lines_so_far}
use Rattle.house_journal.specs.declared.disk.Disk.{Ghosts}
use Rattle.house_journal.specs.Journals.{LeavesOnly}
use Rattle.house_journal.proofs.Moments.{weaker}
use Rattle.house_segments.specs.Segments.{HasBodies, disk_of}
use Rattle.house_serving.specs.Serving.{Course, HasFront, IsOver, Records, Served}
use Rattle.house_serving.specs.Turns.{Dialogue, Said, Turn, bodies_in, bodies_of}
use Rattle.house_serving.specs.declared.ending.Ending.{Ending}
use Rattle.house_serving.proofs.Fronts.{front_later}
use Rattle.house_turns.specs.declared.house.House.{House}
use Rattle.house_turns.specs.HouseReplies.{Responds}
use Rattle.house_runs.specs.Folders.{HasLines}

-- lines whose records have these bodies
pub record Done {H : Type 0} (responds : H → ℕ → List ℕ → Said → H → Type 0) (number : ℕ) (house : H) (bodies : List (List ℕ)) : Type 0 where
  pub turns : List Turn
  pub at : H
  pub talk : Dialogue responds number house turns at
  pub are : bodies_of turns ≡ bodies

-- a front of the bodies of a line and of those after it has none of them, or begins with that
-- line's
front_of_line : (b : Option (List ℕ)) (later front rest : List (List ℕ)) → bodies_in b ++ later ≡ front ++ rest → (P : List (List ℕ) → Type 0) → P []
    → ((more left : List (List ℕ)) → later ≡ more ++ left → P (bodies_in b ++ more)) → P front
front_of_line None later front rest split P none some = some front rest split
front_of_line (Some body) later [] rest split P none some = none
front_of_line (Some body) later (first ∷ front) rest split P none some =
    let same : body ≡ first = cc (split) in
    let tail : later ≡ front ++ rest = cc (split) in
    subst (λ (b : List ℕ). P (b ∷ front)) same (some front rest tail)

module _ {H : Type 0} (responds : H → ℕ → List ℕ → Said → H → Type 0) where
  none_done : (number : ℕ) (house : H) → Done responds number house []
  none_done number house = record { turns = []; at = house; talk = refl; are = refl }

  -- one line, and others after it
  line_first : (number : ℕ) (house mid : H) (t : Turn) (bodies : List (List ℕ)) → responds house number t.line t.said mid
      → Done responds (number + 1) mid bodies → Done responds number house (bodies_in t.said.body ++ bodies)
  line_first number house mid t bodies does later = record {
    turns = t ∷ later.turns;
    at = later.at;
    talk = (mid, does, later.talk);
    are = ap (λ (l : List (List ℕ)). bodies_in t.said.body ++ l) later.are;
  }

  -- a front of no body
  of_none : (number : ℕ) (house : H) (front rest : List (List ℕ)) → [] ≡ front ++ rest → Done responds number house front
  of_none number house [] rest split = none_done number house
  of_none number house (body ∷ front) rest split = absurd (cc (split))

  -- a front of the body that is over
  pub of_over : (number : ℕ) (house : H) (over front rest : List (List ℕ)) → IsOver responds number house over → over ≡ front ++ rest
      → Done responds number house front
  of_over number house over front rest (inl none) split = of_none number house front rest (sym none ∙ split)
  of_over number house over front rest (inr next) split =
      let t : Turn = record { line = next.line; said = next.said } in
      front_of_line next.said.body [] front rest (append-nil (bodies_in next.said.body) ∙ sym next.bodies ∙ split) (Done responds number house)
      (none_done number house)
      (λ more left is. line_first number house next.next t more next.does (of_none (number + 1) next.next more left is))

  -- a front of the bodies of lines, and of the one that is over, is that of the first of the lines
  pub front_done : (turns : List Turn) (number : ℕ) (house at : H) (over front rest : List (List ℕ)) → Dialogue responds number house turns at
      → IsOver responds (number + length turns) at over → bodies_of turns ++ over ≡ front ++ rest → Done responds number house front
  front_done [] number house at over front rest talk is split =
      let same : number + 0 ≡ number = omega arith in
      of_over number house over front rest (subst (λ (h : H). IsOver responds number h over) talk (subst (λ (n : ℕ). IsOver responds n at over) same is)) split
  front_done (t ∷ ts) number house at over front rest talk is split =
      let same : number + length (t ∷ ts) ≡ number + 1 + length ts = omega arith in
      front_of_line t.said.body (bodies_of ts ++ over) front rest (sym (append_assoc (bodies_in t.said.body) (bodies_of ts) over) ∙ split)
      (Done responds number house) (none_done number house)
      (λ more left later. line_first number house talk.0 t more talk.1
      (front_done ts (number + 1) talk.0 at over more left talk.2 (subst (λ (n : ℕ). IsOver responds n at over) same is) later))

module _ {D : Type 0} (g : Ghosts D) (first : Records) (way : Course House D) (ending : Ending) (s : Served Responds g first way ending) where
  has_lines : (c : List ℕ) → HasFront first.before first.bodies (bodies_of s.done.turns ++ s.done.over) c → HasLines first.before first.bodies (lines_so_far way.from.lines + 1) way.from.house c
  has_lines c is =
      let same : lines_so_far way.from.lines + length s.done.turns + 1 ≡ lines_so_far way.from.lines + 1 + length s.done.turns = omega arith in
      let done = front_done Responds s.done.turns (lines_so_far way.from.lines + 1) way.from.house s.done.at s.done.over is.front is.rest s.work.talk
      (subst (λ (n : ℕ). IsOver Responds n s.done.at s.done.over) same s.over_one) is.split in
      record {
        turns = done.turns;
        at = done.at;
        talk = done.talk;
        bodies = subst (λ (l : List (List ℕ)). HasBodies first.before (first.bodies ++ l) c) (sym done.are) is.has;
      }

  -- a crash at any moment of a run
  pub any_moment : LeavesOnly g (disk_of way.from.segment) (disk_of way.to.segment) (HasLines first.before first.bodies (lines_so_far way.from.lines + 1) way.from.house)
  any_moment =
      weaker g (HasFront first.before first.bodies (bodies_of s.done.turns ++ s.done.over)) (HasLines first.before first.bodies (lines_so_far way.from.lines + 1) way.from.house) (disk_of way.from.segment)
      (disk_of way.to.segment) has_lines s.work.crash

  -- and one after it
  pub afterwards : (c : List ℕ) → g.may_leave (disk_of way.to.segment) c → HasLines first.before first.bodies (lines_so_far way.from.lines + 1) way.from.house c
  afterwards c left = has_lines c (front_later first.before first.bodies (bodies_of s.done.turns) s.done.over c (s.work.acknowledged c left))
