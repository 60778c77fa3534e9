-- The words of commands are the words of their lines, which a script may have.
use Rattle.std.proofs.Common.{◌≡◌, ℕ, ◌+◌, ◌<◌, ◌≤◌, Bool, true, false, List, [], ◌∷◌, ◌++◌, map, length, refl, ap, ◌∙◌, subst, sym, arith}
use Rattle.std.specs.Prelude.{None, codes, if◌then◌else◌}
use Rattle.std.specs.Fmt.{decimal}
use Rattle.std.specs.List.{AllPass, list_all}
use Rattle.std.proofs.lemmas.Bool.Decides.{nat_tests}
use Rattle.std.proofs.lemmas.List.Concat.{flat_map-cons}
use Rattle.std.proofs.lemmas.List.Elements.{All-append, All-cons, All-nil, All-weaker}
use Rattle.std.proofs.lemmas.List.Sums.{list_all-from_AllPass}
use Rattle.hex.specs.Hex.{encode_lower}
use Rattle.cds_base.specs.LineFaults.{is_printable, IsLine}
use Rattle.cds_stamps.specs.declared.numbers.DirId.{DirId}
use Rattle.cds_stamps.specs.declared.numbers.HouseNo.{HouseNo}
use Rattle.directory.specs.declared.update.Update.{Update}
use Rattle.directory.specs.declared.update.Update.TheVariants as update
use Rattle.cell_script.specs.declared.command.Command.{Command}
use Rattle.cell_script.specs.declared.command.Command.TheVariants as command
use Rattle.cell_script.specs.declared.lists.Listed.{Listed}
use Rattle.cell_script.specs.Words.{words_of}
use Rattle.script_answers.specs.Texts.{node_octets, spaced, unwords}
use Rattle.script_answers.proofs.ReadWords.{node_bytes}
use Rattle.script_answers.proofs.WordTexts.{AreMarks, AreWords, IsWord, attr_word, decimal_word, given_word, hex_word, is_mark, name_word, simple_word, value_filled, words_again}
use Rattle.command_lines.specs.CommandTexts.{command_line, command_words, house_word, listed_word, update_word, updated_words}
use Rattle.command_lines.specs.SayableCommands.{AreHouses, AreListed, CanBeSaid, CanUpdate, IsDirectory, IsHouse, IsSerial, IsValue}
use Rattle.command_lines.proofs.LineLemmas.{printable_line}

-- ---- words

a_house : (h : HouseNo) → IsHouse h.0 → IsWord (house_word h)
a_house h is = decimal_word h.0 (omega (arith, is.1))

a_directory : (d : DirId) → IsDirectory d.0 → IsWord (decimal d.0)
a_directory d is = decimal_word d.0 (omega (arith, is.1))

a_message : (n : ℕ) → IsSerial n → IsWord (decimal n)
a_message n is = decimal_word n (omega (arith, is.1))

a_value : (v : List ℕ) → IsValue v → IsWord (encode_lower v)
a_value v is = hex_word v is.octets (value_filled v is.sized)

a_listed : (l : Listed) → IsHouse l.house.0 → IsWord (listed_word l)
a_listed l is = by_kind l.secondary
  where
    number : IsWord (house_word l.house)
    number = a_house l.house is

    by_kind : (b : Bool) → IsWord (if b then 115 ∷ house_word l.house else house_word l.house)
    by_kind true = record { some = omega arith; marks = All-cons (λ b. is_mark b ≡ true) 115 (house_word l.house) refl number.marks }
    by_kind false = number

the_listed : (ls : List Listed) → AreListed ls → AreWords (map listed_word ls)
the_listed [] are = tt
the_listed (l ∷ ls) are = (a_listed l are.0, the_listed ls are.1)

the_houses : (hs : List HouseNo) → AreHouses hs → AreWords (map house_word hs)
the_houses [] are = tt
the_houses (h ∷ hs) are = (a_house h are.0, the_houses hs are.1)

update_is_word : (u : Update) → CanUpdate u → IsWord (update_word u)
update_is_word (update.Create s) can = given_word (codes "create") (omega arith) refl
update_is_word (update.MakeLink s n) can = given_word (codes "link") (omega arith) refl
update_is_word (update.MakeChild s p) can = absurd can
update_is_word (update.Delete s) can = given_word (codes "delete") (omega arith) refl
update_is_word (update.Add s a v) can = given_word (codes "add") (omega arith) refl
update_is_word (update.Remove s a v) can = given_word (codes "remove") (omega arith) refl
update_is_word (update.Put s a v) can = given_word (codes "put") (omega arith) refl
update_is_word (update.Clear s a) can = given_word (codes "clear") (omega arith) refl
update_is_word (update.Repoint s hs) can = absurd can

updated_are_words : (u : Update) → CanUpdate u → AreWords (updated_words u)
updated_are_words (update.Create s) can = (simple_word s can, tt)
updated_are_words (update.MakeLink s n) can = (simple_word s can.0, (name_word n can.1, tt))
updated_are_words (update.MakeChild s p) can = absurd can
updated_are_words (update.Delete s) can = (simple_word s can, tt)
updated_are_words (update.Add s a v) can = (simple_word s can.0, (attr_word a can.1, (a_value v can.2, tt)))
updated_are_words (update.Remove s a v) can = (simple_word s can.0, (attr_word a can.1, (a_value v can.2, tt)))
updated_are_words (update.Put s a v) can = (simple_word s can.0, (attr_word a can.1, (a_value v can.2, tt)))
updated_are_words (update.Clear s a) can = (simple_word s can.0, (attr_word a can.1, tt))
updated_are_words (update.Repoint s hs) can = absurd can

-- ---- lines

-- words are those of their line, and it has no other octets
pub record IsLineOf (ws : List (List ℕ)) : Type 0 where
  pub words : words_of (unwords ws) ≡ ws
  pub shown : list_all is_printable (unwords ws) ≡ true

word_shown : (w : List ℕ) → AreMarks w → AllPass is_printable w
word_shown w marks = All-weaker (λ b. is_mark b ≡ true) (λ b. is_printable b ≡ true) shown w marks
  where
    shown : (b : ℕ) → is_mark b ≡ true → is_printable b ≡ true
    shown b is = grind (arith, nat_tests, is)

behind_shown : (ws : List (List ℕ)) → AreWords ws → AllPass is_printable (spaced ws)
behind_shown [] are = All-nil (λ b. is_printable b ≡ true)
behind_shown (w ∷ ws) are =
    let P : ℕ → Type 0 = λ b. is_printable b ≡ true in
    subst (λ (o : List ℕ). AllPass is_printable o) (sym (flat_map-cons (λ (w : List ℕ). 32 ∷ w) w ws))
    (All-append P (32 ∷ w) (spaced ws) (All-cons P 32 w refl (word_shown w are.0.marks)) (behind_shown ws are.1))

of_words : (w : List ℕ) (ws : List (List ℕ)) → IsWord w → AreWords ws → IsLineOf (w ∷ ws)
of_words w ws is are = record {
  words = words_again w ws (is, are);
  shown = list_all-from_AllPass is_printable (unwords (w ∷ ws))
      (All-append (λ b. is_printable b ≡ true) w (spaced ws) (word_shown w is.marks) (behind_shown ws are));
}

-- likewise after a word that is given
pub given : (w : List ℕ) (ws : List (List ℕ)) → 0 < length w → list_all is_mark w ≡ true → AreWords ws → IsLineOf (w ∷ ws)
given w ws some is are = of_words w ws (given_word w some is) are

pub line_of_words : (c : Command) → CanBeSaid c → IsLineOf (command_words c)
line_of_words (command.House h n) can =
    given (codes "house") _ (omega arith) refl (a_house h can.0, (hex_word (node_octets n) (node_bytes n) (omega arith), tt))
line_of_words (command.Clock h t) can =
    given (codes "clock") _ (omega arith) refl (a_house h can.0, (decimal_word t (omega (arith, can.1)), tt))
line_of_words (command.Root h ls) can = given (codes "root") _ (omega arith) refl (a_house h can.0, the_listed ls can.1)
line_of_words (command.Mkdir h d s m ls) can =
    given (codes "mkdir") _ (omega arith) refl (a_house h can.0, (a_directory d can.1, (simple_word s can.2, (a_house m can.3, the_listed ls can.4))))
line_of_words (command.Repoint h d s m hs) can =
    given (codes "repoint") _ (omega arith) refl (a_house h can.0, (a_directory d can.1, (simple_word s can.2, (a_house m can.3, the_houses hs can.4))))
line_of_words (command.Update h d u) can =
    of_words (update_word u) _ (update_is_word u can.2) (a_house h can.0, (a_directory d can.1, updated_are_words u can.2))
line_of_words (command.Epoch d m ls) can =
    given (codes "epoch") _ (omega arith) refl (a_directory d can.0, (a_house m can.1, the_listed ls can.2))
line_of_words (command.Skulk h d) can = given (codes "skulk") _ (omega arith) refl (a_house h can.0, (a_directory d can.1, tt))
line_of_words (command.Deliver n) can = given (codes "deliver") _ (omega arith) refl (a_message n can, tt)
line_of_words (command.Lose n) can = given (codes "lose") _ (omega arith) refl (a_message n can, tt)
line_of_words (command.Crash h) can = given (codes "crash") _ (omega arith) refl (a_house h can, tt)
line_of_words (command.Start h) can = given (codes "start") _ (omega arith) refl (a_house h can, tt)

pub line_fits : (c : Command) (number : ℕ) → CanBeSaid c → length (command_line c) ≤ 4096 → number ≤ 16777216 → IsLine number (command_line c)
line_fits c number can short few = printable_line (command_line c) short (line_of_words c can).shown number few
