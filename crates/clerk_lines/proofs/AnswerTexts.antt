-- What each line of an entry says.
use Rattle.std.proofs.Common.{◌≡◌, ℕ, ◌+◌, ◌≤◌, true, List, [], ◌∷◌, ◌++◌, length, map, refl, ap, ◌∙◌, arith}
use Rattle.std.specs.Prelude.{Some, None, Ok, codes, decimal, nat_le}
use Rattle.std.specs.List.{All}
use Rattle.std.proofs.lemmas.Bool.Decides.{nat_tests}
use Rattle.std.proofs.lemmas.List.Elements.{All-cons, All-head, All-tail, All-weaker}
use Rattle.hex.specs.Hex.{encode_lower}
use Rattle.cds_stamps.specs.Names.{attr_fault}
use Rattle.cds_stamps.specs.declared.numbers.DirId.{DirId}
use Rattle.cds_stamps.specs.declared.numbers.HouseNo.{HouseNo}
use Rattle.attr_sets.specs.Values.{value_fault}
use Rattle.cell_names.specs.declared.pointer.ChildPointer.{ChildPointer}
use Rattle.cell_names.specs.FullNames.{IsComponentList, full_name_octets}
use Rattle.cell_script.specs.Words.{attr_name_of, directory_of, full_name_of, house_of, octets_value_of, words_of}
use Rattle.cell_script.specs.WordForms.{check_count, each_word, take_words}
use Rattle.script_answers.specs.Texts.{spaced_numbers}
use Rattle.clerk_lines.specs.declared.answer.AnswerLine.TheVariants as line
use Rattle.clerk_lines.specs.AnswerRows.{answer_said, said_by}
use Rattle.clerk_lines.specs.ShownTexts.{IsHouseNumber, IsSayableChild, IsValue, value_text}
use Rattle.script_answers.proofs.ReadWords.{directory_read, house_read, name_read, value_read}
use Rattle.script_answers.proofs.WordTexts.{IsNumber, attr_word, given_word, hex_word, name_word, value_filled, words_both, words_spaced}

-- ---- lines of one word, and of two

pub object_said : answer_said (words_of (codes "object")) ≡ Ok line.Object
unfolding answer_said said_by check_count
object_said = refl

link_after : (w : List ℕ) (n : List (List ℕ)) → full_name_of w ≡ Some n → answer_said (codes "link" ∷ w ∷ []) ≡ Ok (line.Link n)
unfolding answer_said said_by check_count take_words
link_after w n is = rw is refl

attr_after : (w : List ℕ) → attr_name_of w ≡ Some w → answer_said (codes "attr" ∷ w ∷ []) ≡ Ok (line.Attr w)
unfolding answer_said said_by check_count take_words
attr_after w is = rw is refl

value_after : (w v : List ℕ) → octets_value_of w ≡ Some v → answer_said (codes "value" ∷ w ∷ []) ≡ Ok (line.Value v)
unfolding answer_said said_by check_count take_words
value_after w v is = rw is refl

pub link_said : (n : List (List ℕ)) → IsComponentList n → answer_said (words_of (codes "link " ++ full_name_octets n)) ≡ Ok (line.Link n)
link_said n list =
    let octets : List ℕ = full_name_octets n in
    let words : words_of (codes "link" ++ 32 ∷ octets) ≡ codes "link" ∷ octets ∷ [] =
    words_both (codes "link") octets (given_word (codes "link") (omega arith) refl) (name_word n list) in
    ap answer_said words ∙ link_after octets n (name_read n list)

pub attr_said : (w : List ℕ) → attr_fault w ≡ None → answer_said (words_of (codes "attr " ++ w)) ≡ Ok (line.Attr w)
attr_said w named =
    let read : attr_name_of w ≡ Some w = rw named refl in
    let words : words_of (codes "attr" ++ 32 ∷ w) ≡ codes "attr" ∷ w ∷ [] =
    words_both (codes "attr") w (given_word (codes "attr") (omega arith) refl) (attr_word w named) in
    ap answer_said words ∙ attr_after w read

pub value_said : (v : List ℕ) → IsValue v → answer_said (words_of (value_text v)) ≡ Ok (line.Value v)
value_said v is =
    let w : List ℕ = encode_lower v in
    let sized : value_fault v ≡ None = is.sized in
    let words : words_of (codes "value" ++ 32 ∷ w) ≡ codes "value" ∷ w ∷ [] =
    words_both (codes "value") w (given_word (codes "value") (omega arith) refl) (hex_word v is.octets (value_filled v sized)) in
    ap answer_said words ∙ value_after w v (value_read v is.octets sized)

-- ---- a child

abbrev numbered : List ℕ → List HouseNo
numbered ns = map (λ n. record { 0 = n }) ns

houses_read : (read : ℕ) (ns : List ℕ) → All IsHouseNumber ns → each_word house_of read (map decimal ns) ≡ Ok (numbered ns)
houses_read read [] all = refl
houses_read read (n ∷ ns) all =
    let is = All-head IsHouseNumber n ns all in
    let first = house_read n is.0 is.1 in
    let rest = houses_read (read + 1) ns (All-tail IsHouseNumber n ns all) in
    rw (first, rest) refl

child_after : (d m : List ℕ) (ws : List (List ℕ)) (dir : DirId) (master : HouseNo) (others : List HouseNo) → directory_of d ≡ Some dir
    → house_of m ≡ Some master → each_word house_of 3 ws ≡ Ok others → answer_said (codes "child" ∷ d ∷ m ∷ ws) ≡ Ok (line.Child dir master others)
unfolding answer_said said_by check_count take_words
child_after d m ws dir master others first second rest =
    let enough : nat_le 2 (length (d ∷ m ∷ ws)) ≡ true = grind (arith, nat_tests) in
    rw (enough, first, second, rest) refl

house_numbers : (ns : List ℕ) → All IsHouseNumber ns → All IsNumber ns
house_numbers ns all =
    All-weaker IsHouseNumber IsNumber (λ n is. omega (arith, is.1)) ns all

pub child_said : (p : ChildPointer) → IsSayableChild p
    → answer_said (words_of (codes "child" ++ spaced_numbers (p.dir.0 ∷ p.houses.master ∷ p.houses.others)))
    ≡ Ok (line.Child p.dir (record { 0 = p.houses.master }) (numbered p.houses.others))
child_said p is =
    let d : ℕ = p.dir.0 in
    let m : ℕ = p.houses.master in
    let os : List ℕ = p.houses.others in
    let made = is.made in
    let few = is.few in
    let all : All IsNumber (d ∷ m ∷ os) =
    All-cons IsNumber d (m ∷ os) (omega arith) (house_numbers (m ∷ os) (All-cons IsHouseNumber m os is.master is.others)) in
    ap answer_said (words_spaced (codes "child") (d ∷ m ∷ os) (given_word (codes "child") (omega arith) refl) all)
    ∙ child_after (decimal d) (decimal m) (map decimal os) p.dir (record { 0 = m }) (numbered os) (directory_read d made few) (house_read m is.master.0 is.master.1)
    (houses_read 3 os is.others)
