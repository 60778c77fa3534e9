-- The commands and the questions of a clerk.
use Rattle.std.specs.Prelude.{◌≡◌, ◌==◌, ℕ, Bool, List, Option, Some, slice_get}
use Rattle.std.specs.List.{list_any, position, remove}
use Rattle.std.specs.Global.{Vec}
use Rattle.clerk_turns.specs.declared.clerk.Clerk.{Clerk}
use Rattle.clerk_turns.specs.declared.clerk.Job.{Job}
use Rattle.clerk_turns.specs.declared.clerk.Question.{Question}

-- where the first question of this number is
abbrev pub question_place : (number : ℕ) → List Question → Option ℕ
question_place number questions = position (λ q. q.number == number) questions

-- where the first command of this number is
abbrev pub job_place : (number : ℕ) → List Job → Option ℕ
job_place number jobs = position (λ j. j.number == number) jobs

-- what is at this place is taken out
pub record IsTaken {X : Type 0} (place : ℕ) (before : List X) (x : X) (after : List X)
    : Type 0 where
  pub there : slice_get before place ≡ Some x
  pub out : after ≡ remove before place

-- the first question of this number is taken out
pub record IsQuestionTaken (number : ℕ) (before : List Question) (q : Question)
    (after : List Question) : Type 0 where
  pub place : ℕ
  pub first : question_place number before ≡ Some place
  pub taken : IsTaken place before q after

-- the first command of this number is taken out
pub record IsJobTaken (number : ℕ) (before : List Job) (j : Job) (after : List Job) : Type 0 where
  pub place : ℕ
  pub first : job_place number before ≡ Some place
  pub taken : IsTaken place before j after

-- a clerk after a question was taken out by its number
pub record TakesQuestion (number : ℕ) (c : Clerk) (q : Question) (c' : Clerk) : Type 0 where
  pub questions : Vec Question
  pub taken : IsQuestionTaken number c.questions.items q questions.items
  pub after : c' ≡ record c { questions = questions }

-- a clerk after a command was taken out by its number
pub record TakesJob (number : ℕ) (c : Clerk) (j : Job) (c' : Clerk) : Type 0 where
  pub jobs : Vec Job
  pub taken : IsJobTaken number c.jobs.items j jobs.items
  pub after : c' ≡ record c { jobs = jobs }

-- a question waits that is asked for this command
abbrev pub waits_for : (job : ℕ) → List Question → Bool
waits_for job questions = list_any (λ q. q.job == job) questions
