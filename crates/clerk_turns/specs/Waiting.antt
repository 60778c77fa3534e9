-- Commands that are under way, and the questions for which they wait (own).
use Rattle.std.specs.Prelude.{◌≡◌, ◌⊎◌, ◌==◌, ℕ, Bool, true, false, List, [], ◌∷◌, ◌++◌}
use Rattle.std.specs.List.{list_any}
use Rattle.clerk_lines.specs.ClerkTexts.{say_text}
use Rattle.clerk_turns.specs.declared.clerk.Clerk.{Clerk}
use Rattle.clerk_turns.specs.declared.clerk.Job.{Job}
use Rattle.clerk_turns.specs.declared.clerk.Question.{Question}
use Rattle.clerk_turns.specs.Clerks.{waits_for}

-- one of these commands has this number
abbrev pub has_number : (number : ℕ) → List Job → Bool
has_number number jobs = list_any (λ j. j.number == number) jobs

-- each of these commands waits for one of these questions, and no two have one number
abbrev pub AreWaiting : List Question → List Job → Type 0
AreWaiting questions [] = Unit {0}
AreWaiting questions (j ∷ js) =
    (waits_for j.number questions ≡ true) × (has_number j.number js ≡ false)
    × AreWaiting questions js

-- each command of a clerk waits for a question that a house was asked
abbrev pub AllWait : Clerk → Type 0
AllWait c = AreWaiting c.questions.items c.jobs.items

-- a line of the answer to this command is the last one that is said
abbrev pub IsSaidLast : (command : ℕ) → (said : List ℕ) → Type 0
IsSaidLast k said = (before line : List ℕ) × (said ≡ before ++ say_text k line)

-- a command is under way after this was said, or what was said ends with a line of its answer
abbrev pub IsUnderWayOrSaid : (command : ℕ) → (said : List ℕ) → Clerk → Type 0
IsUnderWayOrSaid k said c = (has_number k c.jobs.items ≡ true) ⊎ IsSaidLast k said
