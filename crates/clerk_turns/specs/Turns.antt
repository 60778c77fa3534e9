-- What a clerk makes of each line (own).
use Rattle.std.specs.Prelude.{◌≡◌, ◌⊎◌, ℕ, Bool, true, false, nat_le, nat_lt, if◌then◌else◌, is_some, List, [], ◌∷◌, ◌++◌, map, Option, Some, None, Result, Ok, Err, slice_get, codes, decimal}
use Rattle.cds_base.specs.Counts.{next_count}
use Rattle.cds_stamps.specs.Numbers.{root_dir}
use Rattle.cds_stamps.specs.declared.numbers.DirId.{DirId}
use Rattle.cds_stamps.specs.declared.numbers.HouseNo.{HouseNo}
use Rattle.cell_names.specs.declared.pointer.ChildPointer.{ChildPointer}
use Rattle.script_answers.specs.declared.answer.Answer.TheVariants as answer
use Rattle.script_answers.specs.declared.answer.ScriptRefusal.TheVariants as why
use Rattle.inquire_forms.specs.Inquired.{Inquired, Plain}
use Rattle.clerk_lines.specs.declared.hearing.Told.{Told}
use Rattle.clerk_lines.specs.declared.hearing.Told.TheVariants.{Passed}
use Rattle.clerk_lines.specs.declared.line.ClerkWord.{ClerkWord}
use Rattle.clerk_lines.specs.declared.line.ClerkWord.TheVariants.{Do, Hear, Down}
use Rattle.clerk_lines.specs.declared.status.RootList.{RootList}
use Rattle.clerk_lines.specs.ClerkTexts.{say_text}
use Rattle.clerk_lines.specs.ClerkWords.{Said, line_said}
use Rattle.clerk_lines.specs.Hearings.{heard_with, is_last, told_at_end}
use Rattle.clerk_lines.specs.RootLists.{root_said}
use Rattle.cell_script.specs.declared.fault.ParseFault.{ParseFault}
use Rattle.cell_script.specs.Words.{words_of}
use Rattle.ns_commands.specs.declared.updates.Updates.{Updates}
use Rattle.cds_clerk.specs.declared.heard.Heard.{Heard}
use Rattle.cds_clerk.specs.declared.heard.Lack.{Lack}
use Rattle.cds_clerk.specs.declared.heard.Root.{Root}
use Rattle.cds_clerk.specs.declared.heard.Root.TheVariants as root
use Rattle.cds_clerk.specs.declared.heard.Answered.{Answered}
use Rattle.cds_clerk.specs.Heards.{heard_root}
use Rattle.clerk_turns.specs.declared.command.Command.{Command}
use Rattle.clerk_turns.specs.declared.clerk.Question.{Question}
use Rattle.clerk_turns.specs.declared.clerk.Clerk.{Clerk}
use Rattle.clerk_turns.specs.declared.clerk.Job.{Job}
use Rattle.clerk_turns.specs.declared.clerk.Sending.{Sending}
use Rattle.clerk_turns.specs.declared.clerk.Topic.{Topic}
use Rattle.clerk_turns.specs.declared.clerk.Topic.TheVariants as topic
use Rattle.clerk_turns.specs.declared.sending.Fate.{Fate}
use Rattle.clerk_turns.specs.declared.sending.Fate.TheVariants as fate
use Rattle.clerk_turns.specs.Commands.{is_high, is_update, may_repeat}
use Rattle.clerk_turns.specs.Answers.{AreNotReached, ArePlanned, AreWanted, IsAnswer}
use Rattle.clerk_turns.specs.Asking.{Asks, AsksEach, IsWithJob, name_ask, root_ask}
use Rattle.clerk_turns.specs.ClerkRows.{command_said}
use Rattle.clerk_turns.specs.Clerks.{TakesJob, TakesQuestion, job_place, question_place, waits_for}
use Rattle.clerk_turns.specs.Says.{answer_said, fault_said}
use Rattle.clerk_turns.specs.Sendings.{Ends, IsUnsent, Sends, again, with_doubt, fate_of, in_doubt, last_said, most_tries, with_plan, refusal_in, one_line_on}

-- the one, if a test says so, and else the other
abbrev pub Cases : Bool → (Yes No : Type 0) → Type 0
Cases true Yes No = Yes
Cases false Yes No = No

-- the one, if there is something, and else the other
abbrev pub IfThere : Option ℕ → (There Lacking : Type 0) → Type 0
IfThere None There Lacking = Lacking
IfThere (Some place) There Lacking = There

-- nothing comes of it
abbrev pub IsVain : Clerk → (said : List ℕ) → Clerk → Type 0
IsVain c said c' = (said ≡ []) × (c' ≡ c)

-- ---- where the root directory is

-- the later one of two lists, by their epochs
abbrev pub later_list : Option RootList → Option RootList → Option RootList
later_list None heard = heard
later_list (Some latest) None = Some latest
later_list (Some latest) (Some heard) =
    if nat_lt latest.epoch.0 heard.epoch.0 then Some heard else Some latest

-- where it is by the latest list; nowhere, if there is none
abbrev pub root_in : Option RootList → Root
root_in None = root.Nowhere
root_in (Some list) = root.At (record { dir = record { 0 = root_dir }; houses = list.houses })

-- its place, if it is anywhere
abbrev pub place_of : Root → Option ChildPointer
place_of root.Unheard = None
place_of root.Nowhere = None
place_of (root.At p) = Some p

-- where it was for an earlier command, if that is known
abbrev pub rest_root : Option ChildPointer → Root
rest_root None = root.Unheard
rest_root (Some p) = root.At p

-- a command that knows where it is, by the latest list that it heard
abbrev pub with_root : Job → Job
with_root job = record job { heard = record job.heard { root = root_in job.latest }; latest = None }

-- ---- how a command goes on

-- an answer says that no house of a directory is reached
abbrev pub is_unreached : Inquired → Bool
is_unreached (Plain (answer.Refused (why.Unreachable dir))) = true
is_unreached other = false

-- where the root directory is is not known any more, if a directory was not reached
abbrev pub after_answer : Inquired → Clerk → Clerk
after_answer a c = if is_unreached a then record c { root = None } else c

-- what was heard for a command, with one more answer
abbrev pub with_answer : Job → Answered → Job
with_answer job a =
    record job { heard = record job.heard { answers = job.heard.answers ++ a ∷ [] } }

-- it has its answer by what was heard, and ends
pub record HasAnswer (c : Clerk) (job : Job) (said : List ℕ) (c' : Clerk) : Type 0 where
  pub answer : Inquired
  pub unreached : List DirId
  pub is : IsAnswer job.heard job.command answer
  pub are : AreNotReached job.heard job.command unreached
  pub text : said ≡ in_doubt job.sending.doubt (answer_said job.number answer unreached)
  pub after : c' ≡ after_answer answer c

-- it asks for updates by what was heard, and the first of them is sent to its house
pub record HasPlan (c : Clerk) (job : Job) (said : List ℕ) (c' : Clerk) : Type 0 where
  pub updates : Updates
  pub are : ArePlanned job.heard job.command updates
  pub sends : Sends c (with_plan job updates) updates.house said c'

-- houses are asked at once for all names of which something lacks
pub record Lacks (c : Clerk) (job : Job) (said : List ℕ) (c' : Clerk) : Type 0 where
  pub lacks : List Lack
  pub wanted : AreWanted job.heard job.command lacks
  pub asks : AsksEach c job (map (name_ask (is_high job.command)) lacks) said c'

-- a command that knows where the root directory is goes on by all that was heard for it: it has its
-- answer or its plan, or something lacks
abbrev pub GoesRooted : Clerk → Job → (said : List ℕ) → Clerk → Type 0
GoesRooted c job said c' = HasAnswer c job said c' ⊎ (HasPlan c job said c' ⊎ Lacks c job said c')

-- it heard where the root directory is, and goes on so; the next commands begin there
abbrev pub Settles : Clerk → Job → (said : List ℕ) → Clerk → Type 0
Settles c job said c' =
    GoesRooted (record c { root = place_of (root_in job.latest) }) (with_root job) said c'

-- the house at this place is asked where the root directory is; without one the command goes on
abbrev pub AsksAtPlace : Option HouseNo → Clerk → Job → (place : ℕ) → (said : List ℕ) → Clerk
    → Type 0
AsksAtPlace None c job place said c' = Settles c job said c'
AsksAtPlace (Some house) c job place said c' = Asks c job (root_ask place house) said c'

abbrev pub AsksAt : Clerk → Job → (place : ℕ) → (said : List ℕ) → Clerk → Type 0
AsksAt c job place said c' = AsksAtPlace (slice_get c.houses.items place) c job place said c'

-- if masters alone are trusted, all houses are asked at once, and else the first one; if there is
-- none, the command goes on
abbrev pub AsksHouses : List HouseNo → (high : Bool) → Clerk → Job → (said : List ℕ) → Clerk
    → Type 0
AsksHouses [] high c job said c' = Settles c job said c'
AsksHouses (h ∷ hs) true c job said c' = AsksEach c job (map (root_ask 0) (h ∷ hs)) said c'
AsksHouses (h ∷ hs) false c job said c' = Asks c job (root_ask 0 h) said c'

-- where the root directory is was not heard, and is asked
pub record AsksRoot (c : Clerk) (job : Job) (said : List ℕ) (c' : Clerk) : Type 0 where
  pub unheard : heard_root job.heard.root ≡ None
  pub asks : AsksHouses c.houses.items (is_high job.command) c job said c'

-- a command goes on by all that was heard for it
abbrev pub Goes : Clerk → Job → (said : List ℕ) → Clerk → Type 0
Goes c job said c' = GoesRooted c job said c' ⊎ AsksRoot c job said c'

-- ---- a command of which nothing is heard or sent yet
abbrev pub first_job : ℕ → Command → Heard → Sending → Job
first_job number command heard sending = record {
  number = number;
  command = command;
  heard = heard;
  latest = None;
  sending = sending;
}

-- a command begins

-- at its beginning a command knows where the root directory was, unless masters alone are trusted
pub record IsFirst (c : Clerk) (high : Bool) (h : Heard) : Type 0 where
  pub near : h.near ≡ (if high then None else Some c.near)
  pub root : h.root ≡ (if high then root.Unheard else rest_root c.root)
  pub answers : h.answers ≡ []

-- a command begins
pub record BeginsCommand (c : Clerk) (number : ℕ) (command : Command) (said : List ℕ)
    (c' : Clerk) : Type 0 where
  pub heard : Heard
  pub first : IsFirst c (is_high command) heard
  pub sending : Sending
  pub unsent : IsUnsent sending
  pub goes : Goes c (first_job number command heard sending) said c'

-- what says a command begins it; a fault is said
abbrev pub BeginsSaid : Clerk → (number : ℕ) → Result Command ParseFault → (said : List ℕ)
    → Clerk → Type 0
BeginsSaid c number (Ok command) said c' = BeginsCommand c number command said c'
BeginsSaid c number (Err fault) said c' = Ends c (fault_said number fault) said c'

-- nothing comes of it if a command of this number is under way
abbrev pub Begins : Clerk → (number : ℕ) → (text said : List ℕ) → Clerk → Type 0
Begins c number text said c' =
    IfThere (job_place number c.jobs.items) (IsVain c said c')
    (BeginsSaid c number (command_said (words_of text)) said c')

-- ---- answers of houses

-- the first command of this number is taken out, and this comes of it; nothing, if there is none
abbrev pub WithJob : Clerk → (number : ℕ) → (Clerk → Job → Type 0) → (said : List ℕ) → Clerk
    → Type 0
WithJob c number P said c' =
    IfThere (job_place number c.jobs.items)
    ((mid : Clerk) × (job : Job) × TakesJob number c job mid × P mid job) (IsVain c said c')

-- the first question of this number is taken out, and this comes of it; nothing, if there is none
abbrev pub WithQuestion : Clerk → (number : ℕ) → (Clerk → Question → Type 0) → (said : List ℕ)
    → Clerk → Type 0
WithQuestion c number P said c' =
    IfThere (question_place number c.questions.items)
    ((mid : Clerk) × (q : Question) × TakesQuestion number c q mid × P mid q) (IsVain c said c')

-- a command waits, and nothing is said
abbrev pub Keeps : Clerk → Job → (said : List ℕ) → Clerk → Type 0
Keeps c job said c' = (said ≡ []) × IsWithJob c job c'

-- a command waits for the other houses that were asked, or goes on
abbrev pub GoesIfAll : Clerk → Job → (said : List ℕ) → Clerk → Type 0
GoesIfAll c job said c' =
    Cases (waits_for job.number c.questions.items) (Keeps c job said c') (Goes c job said c')

-- what a house said of a name
abbrev pub answer_to : Lack → Told → Answered
answer_to lack t = record { dir = lack.dir; house = lack.house; name = lack.name; told = t }

-- a house said what shows of a name: the command goes on with that, if all have said so
abbrev pub IsTold : Clerk → (number : ℕ) → Answered → (said : List ℕ) → Clerk → Type 0
IsTold c number a said c' =
    WithJob c number (λ d job. GoesIfAll d (with_answer job a) said c') said c'

-- a command waits for the others that were asked where the root directory is, or has all answers
abbrev pub Waits : Clerk → Job → (said : List ℕ) → Clerk → Type 0
Waits c job said c' =
    Cases (waits_for job.number c.questions.items) (Keeps c job said c') (Settles c job said c')

-- a command goes on if a house said where the root directory is; else the next house is asked
abbrev pub AsksOn : Clerk → Job → (place : ℕ) → (said : List ℕ) → Clerk → Type 0
AsksOn c job place said c' =
    Cases (is_some job.latest) (Settles c job said c') (AsksAt c job (next_count place) said c')

-- if masters alone are trusted, all houses are waited for
abbrev pub RootHeard : Clerk → Job → (place : ℕ) → (said : List ℕ) → Clerk → Type 0
RootHeard c job place said c' =
    Cases (is_high job.command) (Waits c job said c') (AsksOn c job place said c')

-- a command for which one list more of the root directory was heard, if there is one
abbrev pub with_list : Job → Option RootList → Job
with_list job list = record job { latest = later_list job.latest list }

-- a house said where the root directory is, or nothing of that
abbrev pub IsRootTold : Clerk → (number place : ℕ) → Option RootList → (said : List ℕ) → Clerk
    → Type 0
IsRootTold c number place list said c' =
    WithJob c number (λ d job. RootHeard d (with_list job list) place said c') said c'

-- ---- answers to the lines of a plan

-- a command is tried once more; or it was so often, and ends with this reason
abbrev pub TriesAgain : Clerk → Job → (why said : List ℕ) → Clerk → Type 0
TriesAgain c job why said c' =
    Cases (nat_le most_tries job.sending.tries) (Ends c (last_said job why) said c')
    (Goes c job said c')

-- a plan is worked out again, of what houses say now
abbrev pub PlansAgain : Clerk → Job → (why said : List ℕ) → Clerk → Type 0
PlansAgain c job why said c' = TriesAgain (record c { root = None }) (again job) why said c'

-- what comes of the answer of a house to a line, by what it means
abbrev pub StepComes : Fate → Clerk → Job → HouseNo → (last said : List ℕ) → Clerk → Type 0
StepComes fate.Done c job house last said c' = Ends c (say_text job.number last) said c'
StepComes fate.Refused c job house last said c' = Ends c (last_said job last) said c'
StepComes fate.Spent c job house last said c' =
    Ends c (last_said job (codes "refused StampsSpent " ++ decimal job.sending.done)) said c'
StepComes fate.Again c job house last said c' = PlansAgain c job (refusal_in last) said c'
StepComes fate.Next c job house last said c' = Sends c (one_line_on job) house said c'

-- a house answered to a line
abbrev pub StepTold : Clerk → Job → HouseNo → (last said : List ℕ) → Clerk → Type 0
StepTold c job house last said c' =
    StepComes (fate_of (is_update job.command) last) c job house last said c'

-- the house of a line is not reached: nobody knows whether it was done
abbrev pub StepDown : Clerk → Job → (said : List ℕ) → Clerk → Type 0
StepDown c job said c' =
    Cases (may_repeat job.command)
    (PlansAgain c (with_doubt job) (codes "refused Down") said c')
    (Ends c (last_said (with_doubt job) (codes "refused Down")) said c')

-- ---- lines

-- a question has its whole answer, of which this is the last line
abbrev pub AnswersTopic : Topic → Clerk → (job : ℕ) → (last said : List ℕ) → Clerk → Type 0
AnswersTopic (topic.Show lack hearing) c job last said c' =
    IsTold c job (answer_to lack (told_at_end hearing last)) said c'
AnswersTopic (topic.Root place) c job last said c' =
    IsRootTold c job place (root_said (words_of last)) said c'
AnswersTopic (topic.Step house) c number last said c' =
    WithJob c number (λ d job. StepTold d job house last said c') said c'

-- what was heard of an answer with one more line
abbrev pub topic_with : Topic → List ℕ → Topic
topic_with (topic.Show lack hearing) line = topic.Show lack (heard_with hearing line)
topic_with (topic.Root place) line = topic.Root place
topic_with (topic.Step house) line = topic.Step house

-- a line of an answer that has more is kept
pub record HearsMore (c : Clerk) (q : Question) (line said : List ℕ) (c' : Clerk) : Type 0 where
  pub text : said ≡ []
  pub questions : c'.questions.items
      ≡ c.questions.items ++ record q { topic = topic_with q.topic line } ∷ []
  pub near : c'.near ≡ c.near
  pub houses : c'.houses ≡ c.houses
  pub root : c'.root ≡ c.root
  pub jobs : c'.jobs ≡ c.jobs
  pub asked : c'.asked ≡ c.asked

-- a line of the answer to this question: the last one, or not
abbrev pub HearsLine : Clerk → Question → (line said : List ℕ) → Clerk → Type 0
HearsLine c q line said c' =
    Cases (is_last line) (AnswersTopic q.topic c q.job line said c') (HearsMore c q line said c')

-- a line of the answer to a question
abbrev pub Hears : Clerk → (number : ℕ) → (line said : List ℕ) → Clerk → Type 0
Hears c number line said c' = WithQuestion c number (λ d q. HearsLine d q line said c') said c'

-- the house is not reached that was asked this: what it was asked is passed over
abbrev pub TopicDown : Topic → Clerk → (job : ℕ) → (said : List ℕ) → Clerk → Type 0
TopicDown (topic.Show lack hearing) c job said c' = IsTold c job (answer_to lack Passed) said c'
TopicDown (topic.Root place) c job said c' = IsRootTold c job place None said c'
TopicDown (topic.Step house) c number said c' =
    WithJob c number (λ d job. StepDown d job said c') said c'

-- the house of a question is not reached
abbrev pub IsDown : Clerk → (number : ℕ) → (said : List ℕ) → Clerk → Type 0
IsDown c number said c' = WithQuestion c number (λ d q. TopicDown q.topic d q.job said c') said c'

-- what comes of a line by what it is, its number, and its text
abbrev pub TakesWord : ClerkWord → Clerk → (number : ℕ) → (text said : List ℕ) → Clerk → Type 0
TakesWord Do c number text said c' = Begins c number text said c'
TakesWord Hear c number text said c' = Hears c number text said c'
TakesWord Down c number text said c' = IsDown c number said c'

-- nothing comes of a line that is none of a clerk's
abbrev pub TurnOf : Option Said → Clerk → (said : List ℕ) → Clerk → Type 0
TurnOf None c said c' = IsVain c said c'
TurnOf (Some line) c said c' = TakesWord line.0 c line.1 line.2 said c'

-- what a clerk makes of a line: what it says and asks, and how it is after it
abbrev pub IsTurn : Clerk → (line said : List ℕ) → Clerk → Type 0
IsTurn c line said c' = TurnOf (line_said line) c said c'
