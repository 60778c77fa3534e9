-- The forms of words, and how a line is read word by word.
use Rattle.std.specs.Prelude.{◌≡◌, ℕ, ◌+◌, Bool, true, false, nat_le, ◌==◌, if◌then◌else◌, List, [], ◌∷◌, length, Some, None, Option, Ok, Err, Result}
use Rattle.std.specs.Result.{result_err}
use Rattle.cds_stamps.specs.declared.alloc_or.AllocOr.{AllocOr}
use Rattle.cds_stamps.specs.declared.alloc_or.AllocOr.TheVariants.{Fault, OutOfMemory}
use Rattle.cell_script.specs.declared.command.Question.{Question}
use Rattle.cell_script.specs.declared.fault.ParseFault.{ParseFault}
use Rattle.cell_script.specs.declared.fault.ParseFault.TheVariants.{WrongCount, BadWord}
use Rattle.cell_script.specs.Words.{octets_asked}

-- the forms of words: one word that says something, any number of words that each do, and the two
-- words that ask for octets
pub data Form : Type 1 where
  One : {A : Type 0} → (says : List ℕ → Option A) → Form
  Many : {A : Type 0} → (says : List ℕ → Option A) → Form
  Encoded : Form

-- what words of a form say
abbrev pub Said : Form → Type 0
Said (One {A} says) = A
Said (Many {A} says) = List A
Said Encoded = Question

-- the words of a line that are still to be read, and how many were read before them
pub record Words : Type 0 where
  pub read : ℕ
  pub rest : List (List ℕ)

-- a step of a line, and then the next one
infixl 10 ◌>>=◌
-- the next step of a line that has no fault so far
abbrev pub ◌>>=◌ : {A B : Type 0} → Result A ParseFault → (A → Result B ParseFault) → Result B ParseFault
Ok x >>= f = f x
Err e >>= f = Err e

-- the word of this number has to say something
abbrev pub said_at : {A : Type 0} → ℕ → Option A → Result A ParseFault
said_at number None = Err (BadWord number)
said_at number (Some x) = Ok x

-- the next word, and those after it; so many were read before
abbrev pub next_word : {A : Type 0} → (List ℕ → Option A) → ℕ → List (List ℕ) → Result (A × Words) ParseFault
next_word says read [] = Err (WrongCount read)
next_word says read (w ∷ ws) = do
  x ← said_at (read + 1) (says w)
  Ok (x, record { read = read + 1; rest = ws })

-- what words of one kind say, as many as there are
abbrev pub each_word : {A : Type 0} → (List ℕ → Option A) → ℕ → List (List ℕ) → Result (List A) ParseFault
each_word says read [] = Ok []
each_word says read (w ∷ ws) = do
  x ← said_at (read + 1) (says w)
  xs ← each_word says (read + 1) ws
  Ok (x ∷ xs)

-- likewise of all words that are left, and no words after them
abbrev pub all_words : {A : Type 0} → (List ℕ → Option A) → ℕ → List (List ℕ) → Result (List A × Words) ParseFault
all_words says read ws = do
  xs ← each_word says read ws
  Ok (xs, record { read = read + length ws; rest = [] })

-- a word that tells what the next one asks for, and that one
abbrev pub two_words : ℕ → List (List ℕ) → Result (Question × Words) ParseFault
two_words read ws = next_word octets_asked read ws >>= λ t. next_word t.0 t.1.read t.1.rest

-- the words of a form, and those after them
unfoldable pub take_words : (f : Form) → Words → Result (Said f × Words) ParseFault
take_words (One says) s = next_word says s.read s.rest
take_words (Many says) s = all_words says s.read s.rest
take_words Encoded s = two_words s.read s.rest

-- ---- lines of several forms

-- how many words these forms stand for at least, and whether for more of them too
abbrev pub least_of : List Form → ℕ
least_of [] = 0
least_of (One says ∷ fs) = least_of fs + 1
least_of (Many says ∷ fs) = least_of fs
least_of (Encoded ∷ fs) = least_of fs + 2

abbrev pub is_open : List Form → Bool
is_open [] = false
is_open (Many says ∷ fs) = true
is_open (f ∷ fs) = is_open fs

-- there are as many words as wanted, or at least so many
unfoldable pub check_count : Bool → ℕ → Words → Result (Unit {0}) ParseFault
check_count more least s =
    if (if more then nat_le least (length s.rest) else length s.rest == least) then Ok tt else Err (WrongCount (s.read + length s.rest))

-- the fault of a number of words that these forms don't stand for
abbrev pub count_fault : List Form → Words → Option ParseFault
count_fault fs s = result_err (check_count (is_open fs) (least_of fs) s)

-- what builds an A of what words of these forms say
abbrev pub Builds : List Form → Type 0 → Type 0
Builds [] A = A
Builds (f ∷ fs) A = Said f → Builds fs A

-- likewise, with a last step
abbrev pub followed_by : {A B : Type 0} → (A → B) → (fs : List Form) → Builds fs A → Builds fs B
followed_by last [] a = last a
followed_by last (f ∷ fs) build = λ x. followed_by last fs (build x)

-- from left to right, each form says something, or the first word at fault is told
abbrev pub build_words : {A : Type 0} → (fs : List Form) → Builds fs A → Words → Result A ParseFault
build_words [] a s = Ok a
build_words (f ∷ fs) build s = take_words f s >>= λ t. build_words fs (build t.0) t.1

-- the number of words comes first
abbrev pub read_as : {A : Type 0} → (fs : List Form) → Builds fs A → Words → Result A ParseFault
read_as fs build s = check_count (is_open fs) (least_of fs) s >>= λ _. build_words fs build s

-- what reading some words answered, and the words it left, are these, or there was no memory
abbrev pub Takes : {A : Type 0} → Result A (AllocOr ParseFault) → Words → Result (A × Words) ParseFault → Type 0
Takes (Ok x) left expected = expected ≡ Ok (x, left)
Takes (Err (Fault fault)) left expected = expected ≡ Err fault
Takes (Err OutOfMemory) left expected = Unit {0}
