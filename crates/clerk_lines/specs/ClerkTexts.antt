-- What a clerk writes.
use Rattle.std.specs.Prelude.{ℕ, Bool, if◌then◌else◌, List, [], ◌∷◌, ◌++◌, codes, decimal}

-- a number, and a space
abbrev pub after_number : ℕ → List ℕ → List ℕ
after_number n text = decimal n ++ (32 ∷ text)

-- a line of a command's answer
abbrev pub say_text : (command : ℕ) → List ℕ → List ℕ
say_text command line = codes "say " ++ after_number command (line ++ 10 ∷ [])

-- a question to a house, for a command
abbrev pub ask_text : (question command house : ℕ) → List ℕ → List ℕ
ask_text question command house line =
    codes "ask "
    ++ after_number question (after_number command (after_number house (line ++ 10 ∷ [])))

-- how much an answer is trusted, and a space
abbrev pub confidence_word : (high : Bool) → List ℕ
confidence_word high = if high then codes "high " else codes "low "

-- the question what shows of a name
abbrev pub show_text : (high : Bool) → (dir : ℕ) → (name : List ℕ) → List ℕ
show_text high dir name = codes "show " ++ (confidence_word high ++ after_number dir name)
