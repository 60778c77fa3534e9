-- The updates of an entry by their first words.
use Rattle.std.proofs.Common.{◌≡◌, ℕ, ◌+◌, Bool, true, false, List, [], ◌∷◌, map, refl, ap, ◌∙◌, if◌then◌else◌}
use Rattle.std.specs.Prelude.{Option, Some, None, Result, Ok, Err}
use Rattle.std.specs.Result.{result_err}
use Rattle.std.specs.Str.{bytes_eq}
use Rattle.cds_stamps.specs.declared.numbers.DirId.{DirId}
use Rattle.cds_stamps.specs.declared.numbers.HouseNo.{HouseNo}
use Rattle.directory.specs.declared.update.Update.{Update}
use Rattle.directory.specs.declared.update.Update.TheVariants as update
use Rattle.cell_script.specs.declared.command.Command.TheVariants as command
use Rattle.cell_script.specs.declared.command.ScriptLine.{ScriptLine}
use Rattle.cell_script.specs.declared.command.ScriptLine.TheVariants as line
use Rattle.cell_script.specs.declared.fault.ParseFault.{ParseFault}
use Rattle.cell_script.specs.declared.update_word.UpdateWord.{UpdateWord}
use Rattle.cell_script.specs.declared.update_word.UpdateWord.TheVariants as kind
use Rattle.cell_script.specs.Words.{attr_name_of, directory_of, full_name_of, house_of, octets_value_of, simple_name_of}
use Rattle.cell_script.specs.WordForms.{◌>>=◌, Builds, Form, One, Said, Words, build_words, check_count, count_fault, followed_by, least_of, read_as, take_words}
use Rattle.cell_script.specs.CommandRows.{RowOf, early_among, said_among, update_among, update_in, update_row, update_words, updates}
use Rattle.cell_script.specs.PrivateRows.{by_replica_rows, by_update_rows}

-- ---- tables of updates

-- no row of an update has a word that is of none of them
module _ {Line : Type 0} (row : UpdateWord → RowOf Line) (same : (u : UpdateWord) → (row u).word ≡ (update_row u).word) where
  pub none_said : (kinds : List UpdateWord) (other : Result Line ParseFault) (word : List ℕ) (s : Words) → update_among kinds word ≡ None
      → said_among (map row kinds) other word s ≡ other
  none_said [] other word s none = refl
  none_said (u ∷ kinds) other word s none = rw (same u) (by_word (bytes_eq word (update_row u).word) (none_said kinds other word s) none)
    where
      by_word : (is : Bool) → (update_among kinds word ≡ None → said_among (map row kinds) other word s ≡ other)
          → (if is then Some u else update_among kinds word) ≡ None
          → (if is then read_as (row u).forms (row u).says s else said_among (map row kinds) other word s) ≡ other
      by_word true others none = absurd (cc)
      by_word false others none = others none

  pub none_early : (kinds : List UpdateWord) (other : Option ParseFault) (word : List ℕ) (s : Words) → update_among kinds word ≡ None
      → early_among (map row kinds) other word s ≡ other
  none_early [] other word s none = refl
  none_early (u ∷ kinds) other word s none = rw (same u) (by_word (bytes_eq word (update_row u).word) (none_early kinds other word s) none)
    where
      by_word : (is : Bool) → (update_among kinds word ≡ None → early_among (map row kinds) other word s ≡ other)
          → (if is then Some u else update_among kinds word) ≡ None
          → (if is then count_fault (row u).forms s else early_among (map row kinds) other word s) ≡ other
      by_word true others none = absurd (cc)
      by_word false others none = others none

-- what is built, and then a last step
pub built_then : {A B : Type 0} (last : A → B) (fs : List Form) (build : Builds fs A) (s : Words)
    → build_words fs (followed_by last fs build) s ≡ (build_words fs build s >>= λ x. Ok (last x))
built_then last [] build s = refl
built_then {A} {B} last (f ∷ fs) build s = by_words (take_words f s) (λ t. built_then last fs (build t.0) t.1)
  where
    by_words : (r : Result (Said f × Words) ParseFault)
        → ((t : Said f × Words) → build_words fs (followed_by last fs (build t.0)) t.1 ≡ (build_words fs (build t.0) t.1 >>= λ x. Ok (last x)))
        → (r >>= λ t. build_words fs (followed_by last fs (build t.0)) t.1) ≡ ((r >>= λ t. build_words fs (build t.0) t.1) >>= λ x. Ok (last x))
    by_words (Ok t) later = later t
    by_words (Err e) later = refl

-- ---- the words of each update

pub create_reads : (s : Words) → update_in kind.Create s ≡ (take_words (One simple_name_of) s >>= λ x. Ok (update.Create x.0))
unfolding update_in
create_reads s = refl

pub link_reads : (s : Words) → update_in kind.Link s ≡ (take_words (One simple_name_of) s >>= λ x. take_words (One full_name_of) x.1 >>= λ y. Ok (update.MakeLink x.0 y.0))
unfolding update_in
link_reads s = refl

pub delete_reads : (s : Words) → update_in kind.Delete s ≡ (take_words (One simple_name_of) s >>= λ x. Ok (update.Delete x.0))
unfolding update_in
delete_reads s = refl

pub add_reads : (s : Words) → update_in kind.Add s ≡ (take_words (One simple_name_of) s >>= λ x. take_words (One attr_name_of) x.1 >>= λ y. take_words (One octets_value_of) y.1 >>= λ z. Ok (update.Add x.0 y.0 z.0))
unfolding update_in
add_reads s = refl

pub remove_reads : (s : Words) → update_in kind.Remove s ≡ (take_words (One simple_name_of) s >>= λ x. take_words (One attr_name_of) x.1 >>= λ y. take_words (One octets_value_of) y.1 >>= λ z. Ok (update.Remove x.0 y.0 z.0))
unfolding update_in
remove_reads s = refl

pub put_reads : (s : Words) → update_in kind.Put s ≡ (take_words (One simple_name_of) s >>= λ x. take_words (One attr_name_of) x.1 >>= λ y. take_words (One octets_value_of) y.1 >>= λ z. Ok (update.Put x.0 y.0 z.0))
unfolding update_in
put_reads s = refl

pub clear_reads : (s : Words) → update_in kind.Clear s ≡ (take_words (One simple_name_of) s >>= λ x. take_words (One attr_name_of) x.1 >>= λ y. Ok (update.Clear x.0 y.0))
unfolding update_in
clear_reads s = refl

-- ---- updates of a script

-- what the words of an update say: its house, its directory, and what it is of
abbrev pub at_house : UpdateWord → Words → Result ScriptLine ParseFault
at_house u s =
    check_count false (2 + least_of (update_row u).forms) s >>= λ _. take_words (One house_of) s >>= λ h. take_words (One directory_of) h.1
    >>= λ d. update_in u d.1 >>= λ x. Ok (line.Cell (command.Update h.0 d.0 x))

-- a command of a house, a directory, and forms that say an update
read_by_forms : (fs : List Form) (build : Builds fs Update) (count : ℕ) (s : Words)
    → (check_count false count s
    >>= λ _. build_words (One house_of ∷ One directory_of ∷ fs)
    (followed_by line.Cell (One house_of ∷ One directory_of ∷ fs) (λ h d. followed_by (command.Update h d) fs build)) s)
    ≡ (check_count false count s >>= λ _. take_words (One house_of) s >>= λ h. take_words (One directory_of) h.1
    >>= λ d. build_words fs build d.1 >>= λ x. Ok (line.Cell (command.Update h.0 d.0 x)))
read_by_forms fs build count s = by_count (check_count false count s)
  where
    by_said : (h : HouseNo) (d : DirId) (r : Result Update ParseFault)
        → ((r >>= λ x. Ok (command.Update h d x)) >>= λ c. Ok (line.Cell c)) ≡ (r >>= λ x. Ok (line.Cell (command.Update h d x)))
    by_said h d (Ok x) = refl
    by_said h d (Err e) = refl

    by_words : (h : HouseNo) (d : DirId) (s : Words)
        → build_words fs (followed_by line.Cell fs (followed_by (command.Update h d) fs build)) s
        ≡ (build_words fs build s >>= λ x. Ok (line.Cell (command.Update h d x)))
    by_words h d s =
        built_then line.Cell fs (followed_by (command.Update h d) fs build) s
        ∙ (ap (λ r. r >>= λ c. Ok (line.Cell c)) (built_then (command.Update h d) fs build s) ∙ by_said h d (build_words fs build s))

    by_directory : (h : HouseNo) (r : Result (DirId × Words) ParseFault)
        → (r >>= λ d. build_words fs (followed_by line.Cell fs (followed_by (command.Update h d.0) fs build)) d.1)
        ≡ (r >>= λ d. build_words fs build d.1 >>= λ x. Ok (line.Cell (command.Update h d.0 x)))
    by_directory h (Ok d) = by_words h d.0 d.1
    by_directory h (Err e) = refl

    by_house : (r : Result (HouseNo × Words) ParseFault)
        → (r >>= λ h. take_words (One directory_of) h.1
        >>= λ d. build_words fs (followed_by line.Cell fs (followed_by (command.Update h.0 d.0) fs build)) d.1)
        ≡ (r >>= λ h. take_words (One directory_of) h.1 >>= λ d. build_words fs build d.1 >>= λ x. Ok (line.Cell (command.Update h.0 d.0 x)))
    by_house (Ok h) = by_directory h.0 (take_words (One directory_of) h.1)
    by_house (Err e) = refl

    by_count : (r : Result (Unit {0}) ParseFault)
        → (r >>= λ _. build_words (One house_of ∷ One directory_of ∷ fs)
        (followed_by line.Cell (One house_of ∷ One directory_of ∷ fs) (λ h d. followed_by (command.Update h d) fs build)) s)
        ≡ (r >>= λ _. take_words (One house_of) s >>= λ h. take_words (One directory_of) h.1
        >>= λ d. build_words fs build d.1 >>= λ x. Ok (line.Cell (command.Update h.0 d.0 x)))
    by_count (Ok x) = by_house (take_words (One house_of) s)
    by_count (Err e) = refl

read_at_house : (u : UpdateWord) (s : Words)
    → (check_count false (2 + least_of (update_row u).forms) s >>= λ _. build_words (updates u).forms (updates u).says s) ≡ at_house u s
unfolding update_in
read_at_house u s = read_by_forms (update_row u).forms (update_row u).says (2 + least_of (update_row u).forms) s

pub update_said : (u : UpdateWord) (s : Words) → (by_update_rows (update_row u).word s).said ≡ at_house u s
unfolding by_update_rows
update_said kind.Create s = read_at_house kind.Create s
update_said kind.Link s = read_at_house kind.Link s
update_said kind.Delete s = read_at_house kind.Delete s
update_said kind.Add s = read_at_house kind.Add s
update_said kind.Remove s = read_at_house kind.Remove s
update_said kind.Put s = read_at_house kind.Put s
update_said kind.Clear s = read_at_house kind.Clear s

pub update_early : (u : UpdateWord) (s : Words) → (by_update_rows (update_row u).word s).early ≡ result_err (check_count false (2 + least_of (update_row u).forms) s)
unfolding by_update_rows
update_early kind.Create s = refl
update_early kind.Link s = refl
update_early kind.Delete s = refl
update_early kind.Add s = refl
update_early kind.Remove s = refl
update_early kind.Put s = refl
update_early kind.Clear s = refl

-- a word of no update
pub no_update : (word : List ℕ) (s : Words) → update_among update_words word ≡ None → by_update_rows word s ≡ by_replica_rows word s
unfolding by_update_rows
no_update word s none =
    let said = none_said updates (λ u. refl) update_words (by_replica_rows word s).said word s none in
    let early = none_early updates (λ u. refl) update_words (by_replica_rows word s).early word s none in
    rw (said, early) refl
