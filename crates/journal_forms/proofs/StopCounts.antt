-- A command that can be stopped is told to have too few or too many words before any of them is
-- read, or never.
use Rattle.std.proofs.Common.{◌≡◌, ℕ, ◌+◌, ◌<◌, ◌≤◌, ◌==◌, nat_le, Bool, true, false, List, [], ◌∷◌, length, refl, sym, subst, ap, not, ◌||◌, ◌&&◌, arith, MatchBool, if◌then◌else◌}
use Rattle.std.specs.Prelude.{Option, Some, None, Result, Ok, Err}
use Rattle.std.specs.Result.{result_err}
use Rattle.std.specs.Str.{bytes_eq}
use Rattle.std.proofs.lemmas.Bool.Decides.{nat_tests}
use Rattle.std.proofs.lemmas.Slice.Eq.{bytes_eq-Decides}
use Rattle.cell_script.specs.declared.command.ScriptLine.{ScriptLine}
use Rattle.cell_script.specs.declared.fault.ParseFault.{ParseFault}
use Rattle.cell_script.specs.declared.fault.ParseFault.TheVariants.{UnknownCommand, WrongCount, BadWord}
use Rattle.cell_script.specs.WordForms.{◌>>=◌, Builds, Form, Words, build_words, check_count, is_open, least_of, next_word, read_as, take_words, all_words, each_word, said_at}
use Rattle.cell_script.specs.WordForms.{One, Many, Encoded}
use Rattle.cell_script.specs.CommandRows.{Row, said_among, early_among, no_command, said_by, early_by, rows}
use Rattle.journal_forms.specs.JournalLines.{is_among, is_stoppable, stoppable_words, behind_five}

-- forms of a word each, the last of which may be for any number of them
abbrev ends_open : List Form → Bool
ends_open [] = true
ends_open (One says ∷ fs) = ends_open fs
ends_open (Many says ∷ []) = true
ends_open (Many says ∷ f ∷ fs) = false
ends_open (Encoded ∷ fs) = false

-- as many words as these forms stand for
abbrev Counts : Bool → ℕ → ℕ → Type 0
Counts more least n = MatchBool more (least ≤ n) (n ≡ least)

fewer : (more : Bool) (least : ℕ) (rest : List (List ℕ)) (w : List ℕ) (ws : List (List ℕ)) → rest ≡ w ∷ ws
    → Counts more (least + 1) (length rest) → Counts more least (length ws)
fewer true least rest w ws is counts = let size = ap length is in omega (arith, size, counts)
fewer false least rest w ws is counts = let size = ap length is in omega (arith, size, counts)

some : (more : Bool) (least n : ℕ) → Counts more (least + 1) n → 0 < n
some true least n counts = omega (arith, counts)
some false least n counts = omega (arith, counts)

-- a word that has to be there, and is
word_then : {A B : Type 0} (says : List ℕ → Option A) (read : ℕ) (rest : List (List ℕ)) (next : A × Words → Result B ParseFault) (n : ℕ)
    → 0 < length rest
    → ((x : A) (w : List ℕ) (ws : List (List ℕ)) → rest ≡ w ∷ ws → next (x, record { read = read + 1; rest = ws }) ≡ Err (WrongCount n) → ⊥)
    → (next_word says read rest >>= next) ≡ Err (WrongCount n) → ⊥
word_then says read [] next n some later is = absurd (omega (arith, some))
word_then {A} says read (w ∷ ws) next n some later is = by_said (says w) is
  where
    by_said : (said : Option A) → ((said_at (read + 1) said >>= λ x. Ok (x, record { read = read + 1; rest = ws })) >>= next) ≡ Err (WrongCount n) → ⊥
    by_said None is = absurd (cc)
    by_said (Some x) is = later x w ws refl is

-- any number of words
words_then : {A : Type 0} (says : List ℕ → Option A) (read : ℕ) (rest : List (List ℕ)) (n : ℕ) → each_word says read rest ≡ Err (WrongCount n) → ⊥
words_then says read [] n is = absurd (cc)
words_then {A} says read (w ∷ ws) n is = by_said (says w) (words_then says (read + 1) ws n) is
  where
    by_more : (x : A) (more : Result (List A) ParseFault) → (more ≡ Err (WrongCount n) → ⊥) → (more >>= λ xs. Ok (x ∷ xs)) ≡ Err (WrongCount n) → ⊥
    by_more x (Ok xs) never is = absurd (cc)
    by_more x (Err e) never is = never is

    by_said : (said : Option A) → (each_word says (read + 1) ws ≡ Err (WrongCount n) → ⊥)
        → (said_at (read + 1) said >>= λ x. each_word says (read + 1) ws >>= λ xs. Ok (x ∷ xs)) ≡ Err (WrongCount n) → ⊥
    by_said None never is = absurd (cc)
    by_said (Some x) never is = by_more x (each_word says (read + 1) ws) never is

-- a word that is there, of lines that go on with fewer
abbrev Short : Type 0 → List Form → Type 0
Short A fs = (build : Builds fs A) (s : Words) (n : ℕ) → Counts (is_open fs) (least_of fs) (length s.rest) → build_words fs build s ≡ Err (WrongCount n) → ⊥

-- all words that are left
all_then : {A B : Type 0} (says : List ℕ → Option A) (read : ℕ) (rest : List (List ℕ)) (next : List A × Words → Result B ParseFault) (n : ℕ)
    → ((t : List A × Words) → next t ≡ Err (WrongCount n) → ⊥)
    → (all_words says read rest >>= next) ≡ Err (WrongCount n) → ⊥
all_then {A} says read rest next n later is = by_words (each_word says read rest) (words_then says read rest n) is
  where
    by_words : (r : Result (List A) ParseFault) → (r ≡ Err (WrongCount n) → ⊥)
        → ((r >>= λ xs. Ok (xs, record { read = read + length rest; rest = [] })) >>= next) ≡ Err (WrongCount n) → ⊥
    by_words (Ok xs) never is = later (xs, record { read = read + length rest; rest = [] }) is
    by_words (Err e) never is = never (let same : e ≡ WrongCount n = cc in ap Err same)

-- words that are as many as such forms stand for are never told to be too few or too many
never_short : {A : Type 0} (fs : List Form) → ends_open fs ≡ true → Short A fs
unfolding take_words
never_short [] ends build s n counts is = absurd (cc)
never_short (Many says ∷ []) ends build s n counts is = all_then says s.read s.rest (λ t. build_words [] (build t.0) t.1) n (λ t e. absurd (cc)) is
never_short (Many says ∷ f ∷ fs) ends build s n counts is = absurd (cc)
never_short (Encoded ∷ fs) ends build s n counts is = absurd (cc)
never_short (One says ∷ fs) ends build s n counts is =
    word_then says s.read s.rest (λ t. build_words fs (build t.0) t.1) n (some (is_open fs) (least_of fs) (length s.rest) counts)
    (λ x w ws rest e. never_short fs ends (build x) (record { read = s.read + 1; rest = ws }) n
    (fewer (is_open fs) (least_of fs) s.rest w ws rest counts) e) is

-- ---- rows

-- a row of a command that can be stopped has such forms
abbrev row_ends : Row → Bool
row_ends row = not (is_stoppable row.word) || ends_open row.forms

abbrev rows_end : List Row → Bool
rows_end [] = true
rows_end (row ∷ rows) = row_ends row && rows_end rows

ends_where : (name : List ℕ) (row : Row) → is_stoppable name ≡ true → row_ends row ≡ true → bytes_eq name row.word ≡ true → ends_open row.forms ≡ true
ends_where name row stoppable ends same =
    by_word (is_stoppable row.word) (subst (λ w. is_stoppable w ≡ true) ((bytes_eq-Decides name row.word).0 same) stoppable) ends
  where
    by_word : (b : Bool) → b ≡ true → (not b || ends_open row.forms) ≡ true → ends_open row.forms ≡ true
    by_word true is ends = ends
    by_word false is ends = absurd (cc)

both : (a b : Bool) → (a && b) ≡ true → (a ≡ true) × (b ≡ true)
both true true is = (refl, refl)
both true false is = absurd (cc)
both false b is = absurd (cc)

count_decides : (more : Bool) (least n : ℕ) → (if more then nat_le least n else n == least) ≡ true → Counts more least n
count_decides true least n is = grind (arith, nat_tests)
count_decides false least n is = grind (arith, nat_tests)

-- a wrong number of words shows early
early_among_rows : (those : List Row) (name : List ℕ) (s : Words) (n : ℕ) → is_stoppable name ≡ true → rows_end those ≡ true
    → said_among those no_command name s ≡ Err (WrongCount n) → early_among those (Some (UnknownCommand 1)) name s ≡ Some (WrongCount n)
unfolding check_count
early_among_rows [] name s n stoppable ends is = absurd (cc)
early_among_rows (row ∷ rows) name s n stoppable ends is =
    let ends' = both (row_ends row) (rows_end rows) ends in
    by_word (bytes_eq name row.word) refl ends'.0 (early_among_rows rows name s n stoppable ends'.1) is
  where
    enough : Bool
    enough = if is_open row.forms then nat_le (least_of row.forms) (length s.rest) else length s.rest == least_of row.forms

    by_test : (b : Bool) → enough ≡ b → ends_open row.forms ≡ true
        → ((let r : Result (Unit {0}) ParseFault = if b then Ok tt else Err (WrongCount (s.read + length s.rest)) in r) >>= λ _. build_words row.forms row.says s) ≡ Err (WrongCount n)
        → result_err (let r : Result (Unit {0}) ParseFault = if b then Ok tt else Err (WrongCount (s.read + length s.rest)) in r) ≡ Some (WrongCount n)
    by_test true counts ends is =
        absurd (never_short row.forms ends row.says s n (count_decides (is_open row.forms) (least_of row.forms) (length s.rest) counts) is)
    by_test false counts ends is = cc

    by_word : (same : Bool) → bytes_eq name row.word ≡ same → row_ends row ≡ true
        → (said_among rows no_command name s ≡ Err (WrongCount n) → early_among rows (Some (UnknownCommand 1)) name s ≡ Some (WrongCount n))
        → (if same then read_as row.forms row.says s else said_among rows no_command name s) ≡ Err (WrongCount n)
        → (if same then result_err (check_count (is_open row.forms) (least_of row.forms) s) else early_among rows (Some (UnknownCommand 1)) name s) ≡ Some (WrongCount n)
    by_word true same ends others is = by_test enough refl (ends_where name row stoppable ends same) is
    by_word false same ends others is = others is

-- the number of the words of a command that can be stopped shows early
pub wrong_count_shows : (name : List ℕ) (ws : List (List ℕ)) (n : ℕ) → is_stoppable name ≡ true
    → said_by name (behind_five ws) ≡ Err (WrongCount n) → early_by name (behind_five ws) ≡ Some (WrongCount n)
unfolding said_by early_by
wrong_count_shows name ws n stoppable is = early_among_rows rows name (behind_five ws) n stoppable refl is

-- ---- what shows early is their number

abbrev is_row : List Row → List ℕ → Bool
is_row [] name = false
is_row (row ∷ rows) name = bytes_eq name row.word || is_row rows name

-- the number of the words is told, where a row has the first one
early_counts : (rows : List Row) (name : List ℕ) (s : Words) (fault : ParseFault) → is_row rows name ≡ true
    → early_among rows (Some (UnknownCommand 1)) name s ≡ Some fault → (n : ℕ) × (fault ≡ WrongCount n)
unfolding check_count
early_counts [] name s fault row is = absurd (cc)
early_counts (r ∷ rows) name s fault row is = by_word (bytes_eq name r.word) (early_counts rows name s fault) row is
  where
    by_test : (b : Bool) → result_err (let r : Result (Unit {0}) ParseFault = if b then Ok tt else Err (WrongCount (s.read + length s.rest)) in r) ≡ Some fault
        → (n : ℕ) × (fault ≡ WrongCount n)
    by_test true is = absurd (cc)
    by_test false is = (s.read + length s.rest, cc)

    by_word : (same : Bool) → (is_row rows name ≡ true → early_among rows (Some (UnknownCommand 1)) name s ≡ Some fault → (n : ℕ) × (fault ≡ WrongCount n))
        → (same || is_row rows name) ≡ true
        → (if same then result_err (check_count (is_open r.forms) (least_of r.forms) s) else early_among rows (Some (UnknownCommand 1)) name s) ≡ Some fault
        → (n : ℕ) × (fault ≡ WrongCount n)
    by_word true others row is =
        by_test (if is_open r.forms then nat_le (least_of r.forms) (length s.rest) else length s.rest == least_of r.forms) is
    by_word false others row is = others row is

-- what holds of each of these words holds of one that is among them
abbrev EachWord : (List ℕ → Type 0) → List (List ℕ) → Type 0
EachWord P [] = Unit {0}
EachWord P (w ∷ ws) = P w × EachWord P ws

among : (P : List ℕ → Type 0) (ws : List (List ℕ)) (name : List ℕ) → EachWord P ws → is_among ws name ≡ true → P name
among P [] name each is = absurd (cc)
among P (w ∷ ws) name each is = by_word (bytes_eq name w) refl (among P ws name each.1) is
  where
    by_word : (same : Bool) → bytes_eq name w ≡ same → (is_among ws name ≡ true → P name) → (same || is_among ws name) ≡ true → P name
    by_word true same later is = subst P (sym ((bytes_eq-Decides name w).0 same)) each.0
    by_word false same later is = later is

stoppable_is_row : (name : List ℕ) → is_stoppable name ≡ true → is_row rows name ≡ true
stoppable_is_row name is =
    among (λ w. is_row rows w ≡ true) stoppable_words name (refl, (refl, (refl, (refl, (refl, (refl, (refl, (refl, (refl, (refl, (refl, (refl, tt)))))))))))) is

-- a fault of such a command that shows early is the number of its words
pub early_is_count : (name : List ℕ) (ws : List (List ℕ)) (fault : ParseFault) → is_stoppable name ≡ true
    → early_by name (behind_five ws) ≡ Some fault → (n : ℕ) × (fault ≡ WrongCount n)
unfolding early_by
early_is_count name ws fault stoppable is = early_counts rows name (behind_five ws) fault (stoppable_is_row name stoppable) is
