-- The updates of an entry by their first words.
use Rattle.std.proofs.Common.{◌≡◌, ℕ, ◌+◌, false, List, [], ◌∷◌, refl}
use Rattle.std.specs.Prelude.{None, Result, Ok, Err}
use Rattle.std.specs.Result.{result_err}
use Rattle.cds_stamps.specs.declared.numbers.DirId.{DirId}
use Rattle.directory.specs.declared.update.Update.{Update}
use Rattle.cell_script.specs.declared.fault.ParseFault.{ParseFault}
use Rattle.cell_script.specs.declared.update_word.UpdateWord.{UpdateWord}
use Rattle.cell_script.specs.declared.update_word.UpdateWord.TheVariants as kind
use Rattle.cell_script.specs.Words.{directory_of}
use Rattle.cell_script.specs.WordForms.{◌>>=◌, Builds, Form, One, Words, build_words, check_count, followed_by, least_of, take_words}
use Rattle.cell_script.specs.CommandRows.{update_among, update_in, update_row, update_words}
use Rattle.cell_script.proofs.Updates.{built_then, none_early, none_said}
use Rattle.house_lines.specs.declared.line.HouseLine.{HouseLine}
use Rattle.house_lines.specs.declared.line.HouseLine.TheVariants as line
use Rattle.house_lines.specs.declared.line.HouseOrder.TheVariants as order
use Rattle.house_lines.specs.LineRows.{updates}
use Rattle.house_lines.specs.PrivateLineRows.{by_message_rows, by_update_rows}

-- what the words of an update say: its directory, and what it is of
abbrev pub at_directory : UpdateWord → Words → Result HouseLine ParseFault
at_directory u s =
    check_count false (1 + least_of (update_row u).forms) s
    >>= λ _. take_words (One directory_of) s >>= λ d. update_in u d.1 >>= λ x. Ok (line.Order (order.Update d.0 x))

-- a line of a directory, and forms that say an update
read_by_forms : (fs : List Form) (build : Builds fs Update) (count : ℕ) (s : Words)
    → (check_count false count s
    >>= λ _. build_words (One directory_of ∷ fs) (λ d. followed_by (λ u. line.Order (order.Update d u)) fs build) s)
    ≡ (check_count false count s >>= λ _. take_words (One directory_of) s >>= λ d. build_words fs build d.1 >>= λ x. Ok (line.Order (order.Update d.0 x)))
read_by_forms fs build count s = by_count (check_count false count s)
  where
    by_directory : (r : Result (DirId × Words) ParseFault)
        → (r >>= λ d. build_words fs (followed_by (λ u. line.Order (order.Update d.0 u)) fs build) d.1)
        ≡ (r >>= λ d. build_words fs build d.1 >>= λ x. Ok (line.Order (order.Update d.0 x)))
    by_directory (Ok d) = built_then (λ u. line.Order (order.Update d.0 u)) fs build d.1
    by_directory (Err e) = refl

    by_count : (r : Result (Unit {0}) ParseFault)
        → (r >>= λ _. build_words (One directory_of ∷ fs) (λ d. followed_by (λ u. line.Order (order.Update d u)) fs build) s)
        ≡ (r >>= λ _. take_words (One directory_of) s >>= λ d. build_words fs build d.1 >>= λ x. Ok (line.Order (order.Update d.0 x)))
    by_count (Ok x) = by_directory (take_words (One directory_of) s)
    by_count (Err e) = refl

read_at_directory : (u : UpdateWord) (s : Words)
    → (check_count false (1 + least_of (update_row u).forms) s >>= λ _. build_words (updates u).forms (updates u).says s) ≡ at_directory u s
unfolding update_in
read_at_directory u s = read_by_forms (update_row u).forms (update_row u).says (1 + least_of (update_row u).forms) s

pub update_said : (u : UpdateWord) (s : Words) → (by_update_rows (update_row u).word s).said ≡ at_directory u s
unfolding by_update_rows
update_said kind.Create s = read_at_directory kind.Create s
update_said kind.Link s = read_at_directory kind.Link s
update_said kind.Delete s = read_at_directory kind.Delete s
update_said kind.Add s = read_at_directory kind.Add s
update_said kind.Remove s = read_at_directory kind.Remove s
update_said kind.Put s = read_at_directory kind.Put s
update_said kind.Clear s = read_at_directory kind.Clear s

pub update_early : (u : UpdateWord) (s : Words) → (by_update_rows (update_row u).word s).early ≡ result_err (check_count false (1 + least_of (update_row u).forms) s)
unfolding by_update_rows
update_early kind.Create s = refl
update_early kind.Link s = refl
update_early kind.Delete s = refl
update_early kind.Add s = refl
update_early kind.Remove s = refl
update_early kind.Put s = refl
update_early kind.Clear s = refl

-- a word of no update
pub no_update : (word : List ℕ) (s : Words) → update_among update_words word ≡ None → by_update_rows word s ≡ by_message_rows word s
unfolding by_update_rows
no_update word s none =
    let said = none_said updates (λ u. refl) update_words (by_message_rows word s).said word s none in
    let early = none_early updates (λ u. refl) update_words (by_message_rows word s).early word s none in
    rw (said, early) refl
