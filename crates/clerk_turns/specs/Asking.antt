-- What a clerk asks houses for a command (own).
use Rattle.std.specs.Prelude.{◌≡◌, ℕ, Bool, List, [], ◌∷◌, ◌++◌, codes}
use Rattle.cds_base.specs.Counts.{next_count}
use Rattle.cds_stamps.specs.declared.numbers.HouseNo.{HouseNo}
use Rattle.clerk_lines.specs.declared.hearing.Hearing.TheVariants.{Begun}
use Rattle.clerk_lines.specs.ClerkTexts.{ask_text, show_text}
use Rattle.cds_clerk.specs.declared.heard.Lack.{Lack}
use Rattle.clerk_turns.specs.declared.clerk.Clerk.{Clerk}
use Rattle.clerk_turns.specs.declared.clerk.Job.{Job}
use Rattle.clerk_turns.specs.declared.clerk.Topic.{Topic}
use Rattle.clerk_turns.specs.declared.clerk.Topic.TheVariants as topic

-- what a house is asked: a line, and what it is about
pub record Ask : Type 0 where
  pub house : HouseNo
  pub line : List ℕ
  pub topic : Topic

-- what shows of a name
abbrev pub name_ask : (high : Bool) → Lack → Ask
name_ask high q =
    record { house = q.house; line = show_text high q.dir.0 q.name; topic = topic.Show q Begun }

-- where the root directory is, of the house at this place
abbrev pub root_ask : (place : ℕ) → HouseNo → Ask
root_ask place house = record { house = house; line = codes "status 1"; topic = topic.Root place }

-- this is asked for the command of this number, under the next number of a question
pub record Puts (job : ℕ) (c : Clerk) (ask : Ask) (said : List ℕ) (c' : Clerk) : Type 0 where
  pub number : c'.asked ≡ next_count c.asked
  pub text : said ≡ ask_text c'.asked job ask.house.0 ask.line
  pub questions : c'.questions.items
      ≡ c.questions.items ++ record { number = c'.asked; job = job; topic = ask.topic } ∷ []
  pub near : c'.near ≡ c.near
  pub houses : c'.houses ≡ c.houses
  pub root : c'.root ≡ c.root
  pub jobs : c'.jobs ≡ c.jobs

-- all of these are asked, one after the other
pub data PutsEach (job : ℕ) : Clerk → List Ask → (said : List ℕ) → Clerk → Type 0 where
  no_more : (c : Clerk) → PutsEach job c [] [] c
  one_more : (c mid c' : Clerk) (ask : Ask) (asks : List Ask) (said more : List ℕ)
      → Puts job c ask said mid
      → PutsEach job mid asks more c' → PutsEach job c (ask ∷ asks) (said ++ more) c'

-- a command is under way with the others
pub record IsWithJob (c : Clerk) (job : Job) (c' : Clerk) : Type 0 where
  pub near : c'.near ≡ c.near
  pub houses : c'.houses ≡ c.houses
  pub root : c'.root ≡ c.root
  pub asked : c'.asked ≡ c.asked
  pub jobs : c'.jobs.items ≡ c.jobs.items ++ job ∷ []
  pub questions : c'.questions ≡ c.questions

-- this is asked for a command, which waits
abbrev pub Asks : Clerk → Job → Ask → (said : List ℕ) → Clerk → Type 0
Asks c job ask said c' = (mid : Clerk) × Puts job.number c ask said mid × IsWithJob mid job c'

-- all of these are asked for a command, which waits
abbrev pub AsksEach : Clerk → Job → List Ask → (said : List ℕ) → Clerk → Type 0
AsksEach c job asks said c' =
    (mid : Clerk) × PutsEach job.number c asks said mid × IsWithJob mid job c'
