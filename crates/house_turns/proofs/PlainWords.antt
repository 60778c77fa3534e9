-- Words that say something: no line ends in them.
use Rattle.std.proofs.Common.{◌≡◌, ℕ, Bool, true, false, List, [], ◌∷◌, refl, sym, ap, subst, ◌∙◌, arith}
use Rattle.std.specs.Prelude.{◌==◌, ◌&&◌, not, nat_le, nat_lt, if◌then◌else◌, codes, Option, Some, None, Result, Ok, Err}
use Rattle.std.specs.Char.{is_ascii_digit}
use Rattle.std.specs.Int.{from_be_bytes, w64}
use Rattle.std.specs.List.{AllByRecursion, list_all}
use Rattle.std.specs.Option.{option_and_then, option_map}
use Rattle.std.specs.Result.{result_ok}
use Rattle.std.specs.Str.{bytes_eq}
use Rattle.std.proofs.lemmas.List.Concat.{flat_map-cons}
use Rattle.std.proofs.lemmas.List.Elements.{All-cons, All-nil, recursion_from_All}
use Rattle.std.proofs.lemmas.List.Sums.{AllPass-from_list_all}
use Rattle.std.proofs.lemmas.Option.{option_and_then_some}
use Rattle.std.proofs.lemmas.Slice.Eq.{bytes_eq-Decides}
use Rattle.hex.specs.Hex.{decode_of, decode_sized, is_hex_digit}
use Rattle.hex.specs.declared.error.FromHexError.{FromHexError}
use Rattle.hex.proofs.HexLemmas.{decode_of-ok, decode_sized-ok, decode_sized-twice}
use Rattle.cds_stamps.specs.declared.members.MemberKind.TheVariants.{Master, ReadOnly, Secondary}
use Rattle.cds_stamps.specs.declared.numbers.DirId.{DirId}
use Rattle.cds_stamps.specs.declared.numbers.HouseNo.{HouseNo}
use Rattle.cds_stamps.specs.Names.{IsSimpleName, attr_fault, is_attr_octet, is_name_octet, simple_name_fault}
use Rattle.cds_stamps.specs.Outcomes.{ok_unless}
use Rattle.cds_stamps.proofs.NameLaws.{attr_name_laws, simple_name_laws}
use Rattle.cell_names.specs.FullNames.{behind_slashes, cell_root, components_of, name_fault, slash}
use Rattle.cell_names.proofs.FullNameLaws.{spelling-components}
use Rattle.cell_model.proofs.Lists.{and_right}
use Rattle.cell_script.specs.declared.lists.Listed.{Listed}
use Rattle.cell_script.specs.Words.{attr_name_of, confidence_of, directory_of, full_name_of, house_of, is_decimal, listed_as, listed_of, most_directory, most_house, most_serial, node_of, number_end, number_of, number_to, octets_of, octets_value_of, serial_of, simple_name_of, value_in, value_of}
use Rattle.tower_codec.specs.BindingReading.{cut_at_mark}
use Rattle.tower_codec.proofs.Cuts.{cut_found}
use Rattle.house_lines.specs.MemberWords.{kind_of, member_of}
use Rattle.house_turns.specs.LineOutcomes.{HasNoEnd}
use Rattle.house_turns.proofs.PlainTexts.{both_end_nowhere, more_end_nowhere, none_end_nowhere, passed_end_nowhere, text_ends_nowhere}

-- no line ends in a word that says something
abbrev pub ArePlain : {A : Type 0} → (List ℕ → Option A) → Type 0
ArePlain {A} says = (w : List ℕ) (x : A) → says w ≡ Some x → HasNoEnd w

-- what a word says, and something of that
mapped : {A B : Type 0} (f : A → B) (says : List ℕ → Option A) → ArePlain says → ArePlain (λ w. option_map f (says w))
mapped {A} {B} f says plain w y is = by (says w) refl is
  where
    by : (o : Option A) → says w ≡ o → option_map f o ≡ Some y → HasNoEnd w
    by None said is = absurd (cc (is))
    by (Some x) said is = plain w x said

bounded : {A B : Type 0} (f : A → Option B) (says : List ℕ → Option A) → ArePlain says → ArePlain (λ w. option_and_then f (says w))
bounded f says plain w y is = option_and_then_some f (says w) y is (λ x said rest. plain w x said)

-- ---- numbers

digits_end_nowhere : (w : List ℕ) → is_decimal w ≡ true → HasNoEnd w
digits_end_nowhere [] on = none_end_nowhere
digits_end_nowhere (c ∷ []) on =
    passed_end_nowhere is_ascii_digit (c ∷ []) refl
    (All-cons (λ (b : ℕ). is_ascii_digit b ≡ true) c [] on (All-nil (λ (b : ℕ). is_ascii_digit b ≡ true)))
digits_end_nowhere (c ∷ d ∷ cs) on =
    passed_end_nowhere is_ascii_digit (c ∷ d ∷ cs) refl
    (AllPass-from_list_all is_ascii_digit (c ∷ d ∷ cs) (and_right (not (c == 48)) (list_all is_ascii_digit (c ∷ d ∷ cs)) on))

pub plain_number : ArePlain number_of
unfolding number_of
plain_number w n is = by (is_decimal w) refl (nat_lt (value_of w) number_end) is
  where
    by : (d : Bool) → is_decimal w ≡ d → (l : Bool) → (if d && l then Some (value_of w) else None) ≡ Some n → HasNoEnd w
    by true on l is = digits_end_nowhere w on
    by false off l is = absurd (cc (is))

plain_number_to : (most : ℕ) → ArePlain (number_to most)
plain_number_to most = bounded (λ (n : ℕ). if nat_le 1 n && nat_le n most then Some n else None) number_of plain_number

pub plain_house : ArePlain house_of
plain_house = mapped (λ (n : ℕ). let h : HouseNo = record { 0 = n } in h) (number_to most_house) (plain_number_to most_house)

pub plain_directory : ArePlain directory_of
plain_directory = mapped (λ (n : ℕ). let d : DirId = record { 0 = n } in d) (number_to most_directory) (plain_number_to most_directory)

pub plain_serial : ArePlain serial_of
plain_serial = plain_number_to most_serial

plain_listed_as : (secondary : Bool) → ArePlain (listed_as secondary)
plain_listed_as secondary = mapped (λ (h : HouseNo). let l : Listed = record { house = h; secondary = secondary } in l) house_of plain_house

pub plain_listed : ArePlain listed_of
plain_listed [] l is = none_end_nowhere
plain_listed (c ∷ cs) l is = by (c == 115) refl is
  where
    by : (b : Bool) → (c == 115) ≡ b → (if b then listed_as true cs else listed_as false (c ∷ cs)) ≡ Some l → HasNoEnd (c ∷ cs)
    by true on is =
        more_end_nowhere c cs (λ same. let off : (10 == 115) ≡ true = ap (λ (b : ℕ). b == 115) (sym same) ∙ on in absurd (cc))
        (plain_listed_as true cs l is)
    by false off is = plain_listed_as false (c ∷ cs) l is

-- ---- octets in hexadecimal digits

decoded_end_nowhere : (w octets : List ℕ) → decode_of w ≡ Ok octets → HasNoEnd w
decoded_end_nowhere w octets is = passed_end_nowhere is_hex_digit w refl (decode_of-ok w octets is).1

pub plain_octets : ArePlain octets_of
plain_octets w x is = by (decode_of w) refl is
  where
    by : (r : Result (List ℕ) FromHexError) → decode_of w ≡ r → result_ok r ≡ Some x → HasNoEnd w
    by (Ok octets) said is = decoded_end_nowhere w octets said
    by (Err e) said is = absurd (cc (is))

pub plain_value : ArePlain octets_value_of
plain_value = bounded value_in octets_of plain_octets

plain_sized : (count : ℕ) → ArePlain (λ w. result_ok (decode_sized w count))
plain_sized count w x is = by (decode_sized w count) refl is
  where
    by : (r : Result (List ℕ) FromHexError) → decode_sized w count ≡ r → result_ok r ≡ Some x → HasNoEnd w
    by (Ok octets) said is = decoded_end_nowhere w octets (sym (decode_sized-twice w count (decode_sized-ok w count octets said)) ∙ said)
    by (Err e) said is = absurd (cc (is))

pub plain_node : ArePlain node_of
plain_node = mapped (λ (octets : List ℕ). from_be_bytes w64 (0 ∷ 0 ∷ octets)) (λ w. result_ok (decode_sized w 6)) (plain_sized 6)

-- ---- names

no_fault : {F A : Type 0} (o : Option F) (y x : A) → result_ok (ok_unless o y) ≡ Some x → o ≡ None
no_fault None y x is = refl
no_fault (Some f) y x is = absurd (cc (is))

name_ends_nowhere : (w : List ℕ) → IsSimpleName w → HasNoEnd w
name_ends_nowhere w name = passed_end_nowhere is_name_octet w refl name.each

pub plain_name : ArePlain simple_name_of
plain_name w x is = name_ends_nowhere w ((simple_name_laws w).0 (no_fault (simple_name_fault w) w x is))

pub plain_attr : ArePlain attr_name_of
plain_attr w x is = passed_end_nowhere is_attr_octet w refl ((attr_name_laws w).0 (no_fault (attr_fault w) w x is)).each

components_end_nowhere : (cs : List (List ℕ)) → AllByRecursion IsSimpleName cs → HasNoEnd (behind_slashes cs)
components_end_nowhere [] each = none_end_nowhere
components_end_nowhere (c ∷ cs) each =
    subst HasNoEnd (sym (flat_map-cons (λ (c : List ℕ). slash ∷ c) c cs))
    (both_end_nowhere (slash ∷ c) (behind_slashes cs) (more_end_nowhere slash c (omega arith) (name_ends_nowhere c each.0)) (components_end_nowhere cs each.1))

pub plain_full_name : ArePlain full_name_of
plain_full_name w x is =
    let spelled = spelling-components w (no_fault (name_fault w) (components_of w) x is) in
    subst HasNoEnd (sym spelled.1)
    (both_end_nowhere cell_root (behind_slashes (components_of w)) (text_ends_nowhere cell_root refl)
    (components_end_nowhere (components_of w) (recursion_from_All IsSimpleName (components_of w) spelled.0.simple)))

-- ---- members

-- a word that is this one
pub same_word : (w text : List ℕ) → bytes_eq w text ≡ true → HasNoEnd text → HasNoEnd w
same_word w text is plain = subst HasNoEnd (sym ((bytes_eq-Decides w text).0 is)) plain

plain_kind : ArePlain kind_of
unfolding kind_of
plain_kind w k is = by (bytes_eq w (codes "m")) refl (bytes_eq w (codes "s")) refl (bytes_eq w (codes "r")) refl is
  where
    by : (m : Bool) → bytes_eq w (codes "m") ≡ m → (s : Bool) → bytes_eq w (codes "s") ≡ s → (r : Bool) → bytes_eq w (codes "r") ≡ r
        → (if m then Some Master else (if s then Some Secondary else (if r then Some ReadOnly else None))) ≡ Some k → HasNoEnd w
    by true on s second r third is = same_word w (codes "m") on (text_ends_nowhere (codes "m") refl)
    by false off true on r third is = same_word w (codes "s") on (text_ends_nowhere (codes "s") refl)
    by false off false other true on is = same_word w (codes "r") on (text_ends_nowhere (codes "r") refl)
    by false off false other false none is = absurd (cc (is))

pub plain_confidence : ArePlain confidence_of
plain_confidence w x is = by (bytes_eq w (codes "low")) refl (bytes_eq w (codes "high")) refl is
  where
    by : (l : Bool) → bytes_eq w (codes "low") ≡ l → (h : Bool) → bytes_eq w (codes "high") ≡ h
        → (if l then Some false else (if h then Some true else None)) ≡ Some x → HasNoEnd w
    by true on h second is = same_word w (codes "low") on (text_ends_nowhere (codes "low") refl)
    by false off true on is = same_word w (codes "high") on (text_ends_nowhere (codes "high") refl)
    by false off false none is = absurd (cc (is))

-- a word of two parts
parts_end_nowhere : (w : List ℕ) (p : List ℕ × List ℕ) → cut_at_mark 58 w ≡ Some p → HasNoEnd p.0 → HasNoEnd p.1 → HasNoEnd w
parts_end_nowhere w p is first rest =
    subst HasNoEnd (sym (cut_found 58 w p is)) (both_end_nowhere p.0 (58 ∷ p.1) first (more_end_nowhere 58 p.1 (omega arith) rest))

pub plain_member : ArePlain member_of
unfolding member_of
plain_member w m is =
    option_and_then_some _ (cut_at_mark 58 w) m is (λ parts cut is1.
    option_and_then_some _ (cut_at_mark 58 parts.1) m is1 (λ later cut' is2.
    option_and_then_some _ (house_of parts.0) m is2 (λ h house is3.
    option_and_then_some _ (serial_of later.0) m is3 (λ n since is4.
    option_and_then_some _ (kind_of later.1) m is4 (λ k kind is5.
    parts_end_nowhere w parts cut (plain_house parts.0 h house)
    (parts_end_nowhere parts.1 later cut' (plain_serial later.0 n since) (plain_kind later.1 k kind)))))))
