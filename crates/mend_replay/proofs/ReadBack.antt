-- The lines of commands that mend are read as these commands, and are lines that a script may have.
use Rattle.std.proofs.Common.{◌≡◌, inl, inr, ℕ, suc, ◌+◌, ◌*◌, ◌<◌, ◌≤◌, ◌^◌, Bool, true, false, List, [], ◌∷◌, ◌++◌, map, length, length-append, refl, sym, subst, ◌∙◌}
use Rattle.std.proofs.Common.{ap, arith, if◌then◌else◌}
use Rattle.std.specs.Prelude.{Some, Ok, codes, filter}
use Rattle.std.specs.Fmt.{decimal}
use Rattle.std.specs.List.{AllByRecursion}
use Rattle.std.proofs.lemmas.Fmt.{length-decimal-le}
use Rattle.cds_base.specs.LineFaults.{IsLine}
use Rattle.cell_model.specs.Commands as model
use Rattle.cell_model.specs.Sets.{In, has}
use Rattle.cell_script.specs.declared.command.Command.{Command}
use Rattle.cell_script.specs.declared.command.Command.TheVariants as command
use Rattle.cell_script.specs.declared.command.ScriptLine.TheVariants as line
use Rattle.cell_script.specs.CommandRows.{said_in}
use Rattle.cell_script.specs.Listings.{houses_in, secondaries_in}
use Rattle.cell_script.specs.Words.{words_of}
use Rattle.house_directory.specs.HouseMessages.{numbers_of}
use Rattle.cds_cell.specs.Scripted.{step_of}
use Rattle.script_answers.specs.Texts.{spaced, unwords}
use Rattle.command_lines.specs.CommandTexts.{command_words as script_words, listed_word}
use Rattle.command_lines.specs.SayableCommands.{AreListed, CanBeSaid as IsSayable, IsHouse}
use Rattle.command_lines.proofs.CommandWords.{line_of_words, line_fits as script_line_fits}
use Rattle.command_lines.proofs.SaidCommands.{command_said}
use Rattle.mend_replay.specs.MendLines.{command_line, command_words, listed_house}
use Rattle.mend_replay.specs.SayableCommands.{CanBeSaid, SaysCommand}

-- ---- the steps that they are

houses_again : (ss rs : List ℕ) → numbers_of (houses_in (map (listed_house ss) rs)) ≡ rs
houses_again ss [] = refl
houses_again ss (x ∷ rs) = ap (λ (xs : List ℕ). x ∷ xs) (houses_again ss rs)

secondaries_again : (ss rs : List ℕ) → numbers_of (secondaries_in (map (listed_house ss) rs)) ≡ filter (λ x. has x ss) rs
secondaries_again ss [] = refl
secondaries_again ss (x ∷ rs) = by_kind (has x ss) (secondaries_again ss rs)
  where
    by_kind : (b : Bool) → numbers_of (secondaries_in (map (listed_house ss) rs)) ≡ filter (λ x. has x ss) rs
        → numbers_of (if b then record { 0 = x } ∷ secondaries_in (map (listed_house ss) rs) else secondaries_in (map (listed_house ss) rs))
        ≡ (if b then x ∷ filter (λ x. has x ss) rs else filter (λ x. has x ss) rs)
    by_kind true rest = ap (λ (xs : List ℕ). x ∷ xs) rest
    by_kind false rest = rest

-- ---- the commands in a script

-- one of the four commands that mend; the secondary houses of an epoch are some of the others, in
-- their order
abbrev pub CanMend : model.Command → Type 0
CanMend (model.Start h) = Unit {0}
CanMend (model.Epoch d m rs ss) = ss ≡ filter (λ x. has x ss) rs
CanMend (model.Skulk h d) = Unit {0}
CanMend (model.Deliver n) = Unit {0}
CanMend _ = ⊥

pub can_mend : (c : model.Command) → CanBeSaid c → CanMend c
can_mend (model.Start h) can = tt
can_mend (model.Epoch d m rs ss) can = can.3
can_mend (model.Skulk h d) can = tt
can_mend (model.Deliver n) can = tt
can_mend (model.House h node) can = absurd can
can_mend (model.Clock h time) can = absurd can
can_mend (model.Root m rs ss) can = absurd can
can_mend (model.Mkdir h d n m rs ss) can = absurd can
can_mend (model.Repoint h d n m rs) can = absurd can
can_mend (model.Accept h d u) can = absurd can
can_mend (model.Lose n) can = absurd can
can_mend (model.Crash h) can = absurd can

-- such a command in the script
abbrev pub as_command : model.Command → Command
as_command (model.Start h) = command.Start (record { 0 = h })
as_command (model.Epoch d m rs ss) = command.Epoch (record { 0 = d }) (record { 0 = m }) (map (listed_house ss) rs)
as_command (model.Skulk h d) = command.Skulk (record { 0 = h }) (record { 0 = d })
as_command (model.Deliver n) = command.Deliver n
as_command _ = command.Deliver 0

-- is that command
pub is_as_command : (c : model.Command) → CanMend c → step_of (as_command c) ≡ c
is_as_command (model.Start h) can = refl
is_as_command (model.Epoch d m rs ss) can =
    ap (λ (hs : List ℕ). model.Epoch d m hs (numbers_of (secondaries_in (map (listed_house ss) rs)))) (houses_again ss rs)
    ∙ ap (model.Epoch d m rs) (secondaries_again ss rs ∙ sym can)
is_as_command (model.Skulk h d) can = refl
is_as_command (model.Deliver n) can = refl
is_as_command (model.House h node) can = absurd can
is_as_command (model.Clock h time) can = absurd can
is_as_command (model.Root m rs ss) can = absurd can
is_as_command (model.Mkdir h d n m rs ss) can = absurd can
is_as_command (model.Repoint h d n m rs) can = absurd can
is_as_command (model.Accept h d u) can = absurd can
is_as_command (model.Lose n) can = absurd can
is_as_command (model.Crash h) can = absurd can

are_listed : (ss rs : List ℕ) → ((x : ℕ) → In x rs → IsHouse x) → AreListed (map (listed_house ss) rs)
are_listed ss [] are = tt
are_listed ss (x ∷ rs) are = (are x (inl refl), are_listed ss rs (λ y i. are y (inr i)))

-- which a line can say
sayable : (c : model.Command) → CanBeSaid c → IsSayable (as_command c)
sayable (model.Start h) can = can
sayable (model.Epoch d m rs ss) can = (can.0, can.1, are_listed ss rs can.2)
sayable (model.Skulk h d) can = can
sayable (model.Deliver n) can = can
sayable (model.House h node) can = absurd can
sayable (model.Clock h time) can = absurd can
sayable (model.Root m rs ss) can = absurd can
sayable (model.Mkdir h d n m rs ss) can = absurd can
sayable (model.Repoint h d n m rs) can = absurd can
sayable (model.Accept h d u) can = absurd can
sayable (model.Lose n) can = absurd can
sayable (model.Crash h) can = absurd can

-- in the same words
same_words : (c : model.Command) → CanBeSaid c → command_words c ≡ script_words (as_command c)
same_words (model.Start h) can = refl
same_words (model.Epoch d m rs ss) can = refl
same_words (model.Skulk h d) can = refl
same_words (model.Deliver n) can = refl
same_words (model.House h node) can = absurd can
same_words (model.Clock h time) can = absurd can
same_words (model.Root m rs ss) can = absurd can
same_words (model.Mkdir h d n m rs ss) can = absurd can
same_words (model.Repoint h d n m rs) can = absurd can
same_words (model.Accept h d u) can = absurd can
same_words (model.Lose n) can = absurd can
same_words (model.Crash h) can = absurd can

-- and is what its line says
pub line_says_so : (c : model.Command) → CanBeSaid c → said_in (words_of (command_line c)) ≡ Ok (Some (line.Cell (as_command c)))
line_says_so c can =
    ap (λ (ws : List (List ℕ)). said_in (words_of (unwords ws))) (same_words c can)
    ∙ ap said_in (line_of_words (as_command c) (sayable c can)).words ∙ command_said (as_command c) (sayable c can)

pub line_says : (c : model.Command) → CanBeSaid c → SaysCommand (command_line c) c
line_says c can = (as_command c, line_says_so c can, is_as_command c (can_mend c can))

-- ---- how long the lines are

abbrev AreShort : List (List ℕ) → Type 0
AreShort = AllByRecursion (λ w. length w ≤ 21)

behind_length : (ws : List (List ℕ)) → AreShort ws → length (spaced ws) ≤ 22 * length ws
behind_length [] all = omega arith
behind_length (w ∷ ws) all =
    let rest = behind_length ws all.1 in
    let one = all.0 in
    let size = length-append w (spaced ws) in
    omega (arith, rest, one, size)

line_length : (ws : List (List ℕ)) → AreShort ws → length (unwords ws) ≤ 22 * length ws
line_length [] all = omega arith
line_length (w ∷ ws) all =
    let rest = behind_length ws all.1 in
    let one = all.0 in
    let size = length-append w (spaced ws) in
    omega (arith, rest, one, size)

number_short : (n : ℕ) → n < 2 ^ 64 → length (decimal n) ≤ 20
number_short n few = length-decimal-le 20 n (omega arith) (omega (arith, few)) few

listed_short : (ss rs : List ℕ) → ((x : ℕ) → In x rs → IsHouse x) → AreShort (map listed_word (map (listed_house ss) rs))
listed_short ss [] are = tt
listed_short ss (x ∷ rs) are = (by_kind (has x ss), listed_short ss rs (λ y i. are y (inr i)))
  where
    short : length (decimal x) ≤ 20
    short = let is = are x (inl refl) in number_short x (omega (arith, is.1))

    by_kind : (b : Bool) → length (if b then 115 ∷ decimal x else decimal x) ≤ 21
    by_kind true = let size = short in omega (arith, size)
    by_kind false = let size = short in omega (arith, size)

words_short : (c : model.Command) → CanBeSaid c → AreShort (command_words c)
words_short (model.Start h) can = (omega arith, (let s = number_short h (omega (arith, can.1)) in omega (arith, s), tt))
words_short (model.Epoch d m rs ss) can =
    let s = number_short d (omega (arith, can.0.1)) in
    let s' = number_short m (omega (arith, can.1.1)) in
    (omega arith, (omega (arith, s), (omega (arith, s'), listed_short ss rs can.2)))
words_short (model.Skulk h d) can =
    let s = number_short h (omega (arith, can.0.1)) in
    let s' = number_short d (omega (arith, can.1.1)) in
    (omega arith, (omega (arith, s), (omega (arith, s'), tt)))
words_short (model.Deliver n) can = (omega arith, (let s = number_short n (omega (arith, can.1)) in omega (arith, s), tt))
words_short (model.House h node) can = absurd can
words_short (model.Clock h time) can = absurd can
words_short (model.Root m rs ss) can = absurd can
words_short (model.Mkdir h d n m rs ss) can = absurd can
words_short (model.Repoint h d n m rs) can = absurd can
words_short (model.Accept h d u) can = absurd can
words_short (model.Lose n) can = absurd can
words_short (model.Crash h) can = absurd can

few_words : (c : model.Command) → CanBeSaid c → length (command_words c) ≤ 67
few_words (model.Start h) can = omega arith
few_words (model.Epoch d m rs ss) can = let few = can.4 in let size = length_map ss rs in omega (arith, few, size)
  where
    length_map : (ss rs : List ℕ) → length (map listed_word (map (listed_house ss) rs)) ≡ length rs
    length_map ss [] = refl
    length_map ss (x ∷ rs) = ap (λ (n : ℕ). suc n) (length_map ss rs)
few_words (model.Skulk h d) can = omega arith
few_words (model.Deliver n) can = omega arith
few_words (model.House h node) can = absurd can
few_words (model.Clock h time) can = absurd can
few_words (model.Root m rs ss) can = absurd can
few_words (model.Mkdir h d n m rs ss) can = absurd can
few_words (model.Repoint h d n m rs) can = absurd can
few_words (model.Accept h d u) can = absurd can
few_words (model.Lose n) can = absurd can
few_words (model.Crash h) can = absurd can

pub line_fits : (c : model.Command) (number : ℕ) → CanBeSaid c → number ≤ 16777216 → IsLine number (command_line c)
line_fits c number can check_count =
    let size = line_length (command_words c) (words_short c can) in
    let few = few_words c can in
    let short : length (command_line c) ≤ 4096 = omega (arith, size, few) in
    let same = same_words c can in
    subst (λ (ws : List (List ℕ)). IsLine number (unwords ws)) (sym same)
    (script_line_fits (as_command c) number (sayable c can) (subst (λ (ws : List (List ℕ)). length (unwords ws) ≤ 4096) same short) check_count)
