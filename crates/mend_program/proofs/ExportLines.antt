-- How much an export of a line can ask for: each text of a list has its least length, and a line
-- its greatest.
use Rattle.std.proofs.Common.{◌≡◌, ◌≢◌, ℕ, ◌+◌, ◌*◌, ◌≤◌, Bool, true, false, ◌&&◌, not, cond, List, [], ◌∷◌, ◌++◌, length, refl, sym, ◌∙◌, ap, subst}
use Rattle.std.proofs.Common.{arith, length-append, nat_lt}
use Rattle.std.specs.Prelude.{filter, Option, None, Some, Ok, Err, Result, codes, nat_eq, ◌==◌, if◌then◌else◌}
use Rattle.std.specs.List.{AllByRecursion, list_any, slice_split, onto_first, starts_with}
use Rattle.std.specs.Option.{option_and_then, option_map}
use Rattle.std.specs.Result.{result_ok}
use Rattle.std.specs.Str.{bytes_eq}
use Rattle.std.proofs.lemmas.Bool.Decides.{nat_tests}
use Rattle.uuid.specs.Parts.{is_nil_bytes}
use Rattle.uuid.specs.Text.{digits_of, has_hyphens, parsed_simple}
use Rattle.cds_stamps.specs.declared.numbers.HouseNo.{HouseNo}
use Rattle.cds_base.specs.declared.scan.TheConstants.{LONGEST_LINE, MOST_LINES}
use Rattle.cds_base.specs.declared.scan.LineFault.{LineFault}
use Rattle.cds_base.specs.declared.scan.LineFault.TheVariants.{LineTooLong, TooManyLines}
use Rattle.cds_base.specs.LineFaults.{AreClean, IsLine, fault_at}
use Rattle.tower_codec.specs.declared.binding.StringBinding.{StringBinding}
use Rattle.tower_codec.specs.declared.fault.BindingFault.{BindingFault}
use Rattle.tower_codec.specs.declared.rpc.Protseq.{Protseq}
use Rattle.tower_codec.specs.declared.rpc.Protseq.TheVariants.{Tcp, Udp}
use Rattle.tower_codec.specs.Binding.{IsBinding, protseq_name}
use Rattle.tower_codec.specs.BindingReading.{binding_of}
use Rattle.tower_codec.proofs.BindingLaws.{binding_found}
use Rattle.cell_script.specs.declared.command.Question.{Question}
use Rattle.cell_script.specs.declared.command.Question.TheVariants as question
use Rattle.cell_script.specs.declared.command.ScriptLine.{ScriptLine}
use Rattle.cell_script.specs.declared.command.ScriptLine.TheVariants as line
use Rattle.cell_script.specs.declared.fault.ParseFault.{ParseFault}
use Rattle.cell_script.specs.CommandRows.{Row, no_command, rows, said_among, said_by, said_in, some_line}
use Rattle.cell_script.specs.NameService.{all_said, binding_said, bindings_of, is_none_word, list_of, object_said, objects_of, texts_of}
use Rattle.cell_script.specs.WordForms.{◌>>=◌, Builds, Form, One, Many, Encoded}
use Rattle.cell_script.specs.WordForms.{Said, Words, all_words, build_words, check_count, each_word, is_open, least_of, next_word, read_as, said_at, take_words, two_words}
use Rattle.cell_script.specs.Words.{house_of, image_asked, message_asked, octets_asked}
use Rattle.cell_script.specs.Words.{serial_of, words_of}

-- of what comes of something without a fault, this holds
abbrev Holds : {A E : Type 0} → Result A E → (A → Type 0) → Type 0
Holds (Ok x) P = P x
Holds (Err e) P = Unit {0}

-- a line that exports a server names at most so many bindings and objects
abbrev pub IsShort : ScriptLine → Type 0
IsShort (line.Question (question.Export name interface bindings objects)) = length bindings + length objects ≤ 402
IsShort _ = Unit {0}

-- ---- parts between marks

-- the octets of the parts, and a mark for each
abbrev total : List (List ℕ) → ℕ
total [] = 0
total (p ∷ ps) = length p + 1 + total ps

split_step : (x : ℕ) (parts : List (List ℕ)) (n : ℕ) (b : Bool) → total parts ≡ n + 1 → total (cond b ([] ∷ parts) (onto_first x parts)) ≡ n + 2
split_step x parts n true e = omega (arith, e)
split_step x [] n false e = absurd (omega (arith, e))
split_step x (part ∷ parts) n false e = omega (arith, e)

split_total : (p : ℕ → Bool) (w : List ℕ) → total (slice_split p w) ≡ length w + 1
split_total p [] = refl
split_total p (x ∷ xs) = let is = split_step x (slice_split p xs) (length xs) (p x) (split_total p xs) in omega (arith, is)

-- what so many octets at least and a mark come to for each item
abbrev weight : {A : Type 0} → ℕ → List A → ℕ
weight k [] = 0
weight k (x ∷ xs) = k + 1 + weight k xs

none_weight : {A : Type 0} (k n : ℕ) (xs : List A) → Some [] ≡ Some xs → weight k xs ≤ n
none_weight {A} k n xs is = let same : [] ≡ xs = cc (is) in subst (λ (zs : List A). weight k zs ≤ n) same (omega arith)

said_weight : {A : Type 0} (says : List ℕ → Option A) (k : ℕ) → ((w : List ℕ) (x : A) → says w ≡ Some x → k ≤ length w)
    → (ws : List (List ℕ)) (xs : List A) → all_said says ws ≡ Some xs → weight k xs ≤ total ws
unfolding all_said
said_weight {A} says k long [] xs is = none_weight k 0 xs is
said_weight {A} says k long (w ∷ ws) xs is = by_word (λ ys e. said_weight says k long ws ys e) (says w) refl is
  where
    by_rest : ((ys : List A) → all_said says ws ≡ Some ys → weight k ys ≤ total ws) → (x : A) → k ≤ length w → (o : Option (List A)) → all_said says ws ≡ o
        → option_and_then (λ ys. Some (x ∷ ys)) o ≡ Some xs → weight k xs ≤ total (w ∷ ws)
    by_rest behind x enough None at e = absurd (cc (e))
    by_rest behind x enough (Some ys) at e =
        let same : x ∷ ys ≡ xs = cc (e) in
        let rest = behind ys at in
        subst (λ (zs : List A). weight k zs ≤ total (w ∷ ws)) same (omega (arith, rest, enough))

    by_word : ((ys : List A) → all_said says ws ≡ Some ys → weight k ys ≤ total ws) → (o : Option A) → says w ≡ o
        → option_and_then (λ x. option_and_then (λ ys. Some (x ∷ ys)) (all_said says ws)) o ≡ Some xs → weight k xs ≤ total (w ∷ ws)
    by_word behind None at e = absurd (cc (e))
    by_word behind (Some x) at e = by_rest behind x (long w x at) (all_said says ws) refl e

-- what a word lists
list_weight : {A : Type 0} (says : List ℕ → Option A) (k : ℕ) → ((w : List ℕ) (x : A) → says w ≡ Some x → k ≤ length w)
    → (w : List ℕ) (xs : List A) → list_of says w ≡ Some xs → weight k xs ≤ length w + 1
list_weight {A} says k long w xs is = by_none (is_none_word w) is
  where
    by_none : (b : Bool) → cond b (Some []) (all_said says (texts_of w)) ≡ Some xs → weight k xs ≤ length w + 1
    by_none true e = none_weight k (length w + 1) xs e
    by_none false e =
        let some = said_weight says k long (texts_of w) xs e in
        let whole = split_total (λ b. b == 44) w in omega (arith, some, whole)

-- ---- bindings and objects

name_long : (protseq : Protseq) → length (protseq_name protseq) ≡ 12
name_long Tcp = refl
name_long Udp = refl

binding_long : (w : List ℕ) (b : StringBinding) → binding_said w ≡ Some b → 13 ≤ length w
unfolding binding_said
binding_long w b is = by_at (list_any (λ b. b == 64) w) is
  where
    by_parts : (c : StringBinding) (object rest : List ℕ) → w ≡ object ++ (protseq_name c.protseq ++ 58 ∷ rest) → 13 ≤ length w
    by_parts c object rest same =
        let whole : length w ≡ length object + length (protseq_name c.protseq ++ 58 ∷ rest) =
        ap (λ (l : List ℕ). length l) same ∙ length-append object (protseq_name c.protseq ++ 58 ∷ rest) in
        let part : length (protseq_name c.protseq ++ 58 ∷ rest) ≡ length (protseq_name c.protseq) + length (58 ∷ rest) =
        length-append (protseq_name c.protseq) (58 ∷ rest) in
        let name = name_long c.protseq in omega (arith, whole, part, name)

    by_read : (r : Result StringBinding BindingFault) → binding_of w ≡ r → result_ok r ≡ Some b → 13 ≤ length w
    by_read (Ok c) at e = let found : IsBinding w c = binding_found w (Ok c) at in by_parts c found.1.0 _ found.1.4
    by_read (Err f) at e = absurd (cc (e))

    by_at : (t : Bool) → cond t None (result_ok (binding_of w)) ≡ Some b → 13 ≤ length w
    by_at true e = absurd (cc (e))
    by_at false e = by_read (binding_of w) refl e

object_long : (w : List ℕ) (o : List ℕ) → object_said w ≡ Some o → 36 ≤ length w
unfolding object_said
object_long w o is = by_count (length w == 36) refl is
  where
    by_count : (b : Bool) → (length w == 36) ≡ b
        → option_and_then (λ uuid. cond (is_nil_bytes uuid) None (Some uuid)) (cond (b && has_hyphens w) (parsed_simple (digits_of w)) None) ≡ Some o
        → 36 ≤ length w
    by_count true at e = let same : length w ≡ 36 = grind (arith, nat_tests, at) in omega (arith, same)
    by_count false at e = absurd (cc (e))

weighed : {A : Type 0} (xs : List A) → weight 13 xs ≡ 14 * length xs
weighed [] = refl
weighed (x ∷ xs) = let rest = weighed xs in omega (arith, rest)

weighed_objects : {A : Type 0} (xs : List A) → weight 36 xs ≡ 37 * length xs
weighed_objects [] = refl
weighed_objects (x ∷ xs) = let rest = weighed_objects xs in omega (arith, rest)

bindings_few : (w : List ℕ) (bs : List StringBinding) → length w ≤ 4096 → bindings_of w ≡ Some bs → length bs ≤ 292
unfolding bindings_of
bindings_few w bs short is =
    let some = list_weight binding_said 13 binding_long w bs is in
    let count = weighed bs in omega (arith, some, count, short)

objects_few : (w : List ℕ) (os : List (List ℕ)) → length w ≤ 4096 → objects_of w ≡ Some os → length os ≤ 110
unfolding objects_of
objects_few w os short is =
    let some = list_weight object_said 36 object_long w os is in
    let count = weighed_objects os in omega (arith, some, count, short)

-- ---- words of a line

-- no word has more octets than a line
abbrev AllShort : List (List ℕ) → Type 0
AllShort = AllByRecursion (λ w. length w ≤ 4096)

-- what a form of one word says, a word says that has no more octets than a line; and the two words
-- of octets are no export
abbrev Valid : (f : Form) → Said f → Type 0
Valid (One says) x = (w : List ℕ) × (length w ≤ 4096) × (says w ≡ Some x)
Valid (Many says) x = Unit {0}
Valid Encoded x = IsShort (line.Question x)

next_short : {A : Type 0} (P : A → Type 0) (says : List ℕ → Option A) → ((w : List ℕ) (x : A) → length w ≤ 4096 → says w ≡ Some x → P x)
    → (read : ℕ) (ws : List (List ℕ)) → AllShort ws → Holds (next_word says read ws) (λ t. P t.0 × AllShort t.1.rest)
next_short P says fits read [] short = tt
next_short {A} P says fits read (w ∷ ws) short = by_word (says w) refl
  where
    by_word : (o : Option A) → says w ≡ o
        → Holds (said_at (read + 1) o >>= λ x. let t : A × Words = (x, record { read = read + 1; rest = ws }) in Ok t) (λ t. P t.0 × AllShort t.1.rest)
    by_word None is = tt
    by_word (Some x) is = (fits w x short.0 is, short.1)

next_said : {A : Type 0} (says : List ℕ → Option A) (read : ℕ) (ws : List (List ℕ)) → AllShort ws
    → Holds (next_word says read ws) (λ t. ((w : List ℕ) × (length w ≤ 4096) × (says w ≡ Some t.0)) × AllShort t.1.rest)
next_said {A} says read ws short = next_short (λ (x : A). (w : List ℕ) × (length w ≤ 4096) × (says w ≡ Some x)) says (λ w x l is. (w, l, is)) read ws short

all_any : {A : Type 0} (says : List ℕ → Option A) (read : ℕ) (ws : List (List ℕ)) → Holds (all_words says read ws) (λ t. Unit {0} × AllShort t.1.rest)
all_any {A} says read ws = by_each (each_word says read ws)
  where
    by_each : (r : Result (List A) ParseFault)
        → Holds (r >>= λ xs. let t : List A × Words = (xs, record { read = read + length ws; rest = [] }) in Ok t) (λ t. Unit {0} × AllShort t.1.rest)
    by_each (Ok xs) = (tt, tt)
    by_each (Err e) = tt

message_short : (v : List ℕ) (q : Question) → message_asked v ≡ Some q → IsShort (line.Question q)
message_short v q is = by_number (serial_of v) is
  where
    by_number : (o : Option ℕ) → option_map question.OctetsMsg o ≡ Some q → IsShort (line.Question q)
    by_number None e = absurd (cc (e))
    by_number (Some n) e = let same : question.OctetsMsg n ≡ q = cc (e) in subst (λ (z : Question). IsShort (line.Question z)) same tt

image_short : (v : List ℕ) (q : Question) → image_asked v ≡ Some q → IsShort (line.Question q)
image_short v q is = by_house (house_of v) is
  where
    by_house : (o : Option HouseNo) → option_map question.OctetsHouse o ≡ Some q → IsShort (line.Question q)
    by_house None e = absurd (cc (e))
    by_house (Some h) e = let same : question.OctetsHouse h ≡ q = cc (e) in subst (λ (z : Question). IsShort (line.Question z)) same tt

-- what octets are asked for is no export
asked_short : (w : List ℕ) (f : List ℕ → Option Question) → octets_asked w ≡ Some f → (v : List ℕ) (q : Question) → f v ≡ Some q → IsShort (line.Question q)
asked_short w f is v q e = by_words (bytes_eq w (codes "msg")) (bytes_eq w (codes "house")) is
  where
    by_words : (b c : Bool) → cond b (Some message_asked) (cond c (Some image_asked) None) ≡ Some f → IsShort (line.Question q)
    by_words true c at =
        let same : message_asked ≡ f = cc (at) in message_short v q (subst (λ (g : List ℕ → Option Question). g v ≡ Some q) (sym same) e)
    by_words false true at =
        let same : image_asked ≡ f = cc (at) in image_short v q (subst (λ (g : List ℕ → Option Question). g v ≡ Some q) (sym same) e)
    by_words false false at = absurd (cc (at))

two_short : (read : ℕ) (ws : List (List ℕ)) → AllShort ws → Holds (two_words read ws) (λ t. IsShort (line.Question t.0) × AllShort t.1.rest)
two_short read ws short =
    by_first (next_word octets_asked read ws)
    (next_short (λ f. (v : List ℕ) (q : Question) → f v ≡ Some q → IsShort (line.Question q)) octets_asked (λ w f l is. asked_short w f is) read ws short)
  where
    by_first : (r : Result ((List ℕ → Option Question) × Words) ParseFault)
        → Holds r (λ t. ((v : List ℕ) (q : Question) → t.0 v ≡ Some q → IsShort (line.Question q)) × AllShort t.1.rest)
        → Holds (r >>= λ t. next_word t.0 t.1.read t.1.rest) (λ t. IsShort (line.Question t.0) × AllShort t.1.rest)
    by_first (Ok t) kept = next_short (λ q. IsShort (line.Question q)) t.0 (λ w q l is. kept.0 w q is) t.1.read t.1.rest kept.1
    by_first (Err e) kept = tt

taken_short : (f : Form) (s : Words) → AllShort s.rest → Holds (take_words f s) (λ t. Valid f t.0 × AllShort t.1.rest)
unfolding take_words
taken_short (One says) s short = next_said says s.read s.rest short
taken_short (Many says) s short = all_any says s.read s.rest
taken_short Encoded s short = two_short s.read s.rest short

-- ---- what lines say

-- what is built of what such words say is so
abbrev AllBuilt : {A : Type 0} → (A → Type 0) → (fs : List Form) → Builds fs A → Type 0
AllBuilt Q [] a = Q a
AllBuilt Q (f ∷ fs) build = (x : Said f) → Valid f x → AllBuilt Q fs (build x)

built_all : {A : Type 0} (Q : A → Type 0) (fs : List Form) (build : Builds fs A) → AllBuilt Q fs build → (s : Words) → AllShort s.rest
    → Holds (build_words fs build s) Q
built_all Q [] a all s short = all
built_all {A} Q (f ∷ fs) build all s short =
    by_taken (λ x valid rest kept. built_all Q fs (build x) (all x valid) rest kept) (take_words f s) (taken_short f s short)
  where
    by_taken : ((x : Said f) → Valid f x → (rest : Words) → AllShort rest.rest → Holds (build_words fs (build x) rest) Q)
        → (r : Result (Said f × Words) ParseFault) → Holds r (λ t. Valid f t.0 × AllShort t.1.rest) → Holds (r >>= λ t. build_words fs (build t.0) t.1) Q
    by_taken behind (Ok t) valid = behind t.0 valid.0 t.1 valid.1
    by_taken behind (Err e) valid = tt

read_all : {A : Type 0} (Q : A → Type 0) (fs : List Form) (build : Builds fs A) → AllBuilt Q fs build → (s : Words) → AllShort s.rest
    → Holds (read_as fs build s) Q
read_all Q fs build all s short = by_count (check_count (is_open fs) (least_of fs) s)
  where
    by_count : (r : Result (Unit {0}) ParseFault) → Holds (r >>= λ _. build_words fs build s) Q
    by_count (Ok u) = built_all Q fs build all s short
    by_count (Err e) = tt

-- each of these rows says short lines
abbrev AreShortRows : List Row → Type 0
AreShortRows [] = Unit {0}
AreShortRows (row ∷ rs) = AllBuilt IsShort row.forms row.says × AreShortRows rs

rows_short : AreShortRows rows
rows_short = (
  λ h _ n _. tt,
  (
    λ h _ t _. tt,
    (
      λ m _ ls _. tt,
      (
        λ h _ d _ n _ m _ ls _. tt,
        (
          λ h _ d _ n _ m _ rs _. tt,
          (
            λ h _ d _ n _. tt,
            (
              λ h _ d _ n _ t _. tt,
              (
                λ h _ d _ n _. tt,
                (
                  λ h _ d _ n _ a _ v _. tt,
                  (
                    λ h _ d _ n _ a _ v _. tt,
                    (
                      λ h _ d _ n _ a _ v _. tt,
                      (
                        λ h _ d _ n _ a _. tt,
                        (
                          λ d _ m _ ls _. tt,
                          (
                            λ h _ d _. tt,
                            (
                              λ n _. tt,
                              (
                                λ n _. tt,
                                (
                                  λ h _. tt,
                                  (
                                    λ h _. tt,
                                    (
                                      λ h _ c _ n _ a _. tt,
                                      (
                                        λ h _ c _ n _. tt,
                                        (
                                          λ h _ d _. tt,
                                          (
                                            λ q few. few,
                                            (
                                              λ o _. tt,
                                              (
                                                λ n _ i _ b binds o names.
                                                    let few = bindings_few binds.0 b binds.1 binds.2 in
                                                    let fewer = objects_few names.0 o names.1 names.2 in omega (arith, few, fewer),
                                                (
                                                  λ n _ i _ o _. tt,
                                                  (
                                                    λ n _ m _. tt,
                                                    (
                                                      λ n _ m _. tt,
                                                      (
                                                        λ n _ i _ m _ p _ a _. tt,
                                                        (
                                                          λ n _ i _ m _. tt,
                                                          (
                                                            λ h _ c _ n _ i _ o _ p _. tt,
                                                            tt,
                                                          ),
                                                        ),
                                                      ),
                                                    ),
                                                  ),
                                                ),
                                              ),
                                            ),
                                          ),
                                        ),
                                      ),
                                    ),
                                  ),
                                ),
                              ),
                            ),
                          ),
                        ),
                      ),
                    ),
                  ),
                ),
              ),
            ),
          ),
        ),
      ),
    ),
  ),
)

among_short : (rs : List Row) → AreShortRows rs → (word : List ℕ) (s : Words) → AllShort s.rest → Holds (said_among rs no_command word s) IsShort
among_short [] all word s short = tt
among_short (row ∷ rs) all word s short = by_word (among_short rs all.1 word s short) (bytes_eq word row.word)
  where
    by_word : Holds (said_among rs no_command word s) IsShort
        → (same : Bool) → Holds (if same then read_as row.forms row.says s else said_among rs no_command word s) IsShort
    by_word others true = read_all IsShort row.forms row.says all.0 s short
    by_word others false = others

by_short : (word : List ℕ) (s : Words) → AllShort s.rest → Holds (said_by word s) IsShort
unfolding said_by
by_short word s short = among_short rows rows_short word s short

said_short : (ws : List (List ℕ)) (l : ScriptLine) → AllShort ws → said_in ws ≡ Ok (Some l) → IsShort l
said_short [] l short is = absurd (cc (is))
said_short (w ∷ ws) l short is = by_comment (starts_with nat_eq w (codes "#")) is
  where
    by_saying : (r : Result ScriptLine ParseFault) → Holds r IsShort → some_line r ≡ Ok (Some l) → IsShort l
    by_saying (Ok x) few is = let same : x ≡ l = cc (is) in subst IsShort same few
    by_saying (Err e) few is = absurd (cc (is))

    by_comment : (b : Bool) → (if b then Ok None else some_line (said_by w (record { read = 1; rest = ws }))) ≡ Ok (Some l) → IsShort l
    by_comment true is = absurd (cc (is))
    by_comment false is = by_saying (said_by w (record { read = 1; rest = ws })) (by_short w (record { read = 1; rest = ws }) short.1) is

-- ---- lines

place_short : (number place octet : ℕ) → octet ≢ 10 → fault_at number place octet ≡ None → place ≤ 4096
unfolding fault_at
place_short number place octet apart is = by_end _ _ (octet == 10) refl is
  where
    by_long : (strange : Option LineFault) (b : Bool) → nat_lt LONGEST_LINE place ≡ b → cond b (Some (LineTooLong number place)) strange ≡ None → place ≤ 4096
    by_long strange true at e = absurd (cc (e))
    by_long strange false at e = grind (arith, nat_tests, at)

    by_end : (late strange : Option LineFault) (b : Bool) → (octet == 10) ≡ b
        → cond b late (cond (nat_lt LONGEST_LINE place) (Some (LineTooLong number place)) strange) ≡ None → place ≤ 4096
    by_end late strange true at e = let same : octet ≡ 10 = grind (arith, nat_tests, at) in absurd (apart same)
    by_end late strange false at e = by_long strange (nat_lt LONGEST_LINE place) refl e

clean_short : (number place : ℕ) (octets : List ℕ) → AreClean number place octets → place ≤ 4097 → place + length octets ≤ 4097
clean_short number place [] clean low = omega (arith, low)
clean_short number place (octet ∷ octets) clean low =
    let here = place_short number place octet clean.0 clean.1 in
    let rest = clean_short number (place + 1) octets clean.2 (omega (arith, here)) in
    omega (arith, rest)

parts_short : (n : ℕ) (ps : List (List ℕ)) → total ps ≤ n + 1 → n ≤ 4096 → AllShort ps
parts_short n [] few most = tt
parts_short n (p ∷ ps) few most = (omega (arith, few, most), parts_short n ps (omega (arith, few)) most)

filter_short : (t : List ℕ → Bool) (ps : List (List ℕ)) → AllShort ps → AllShort (filter t ps)
filter_short t [] short = tt
filter_short t (p ∷ ps) short = by_test (t p) (filter_short t ps short.1)
  where
    by_test : (b : Bool) → AllShort (filter t ps) → AllShort (cond b (p ∷ filter t ps) (filter t ps))
    by_test true rest = (short.0, rest)
    by_test false rest = rest

-- what a line of a script says
pub line_short : (number : ℕ) (text : List ℕ) (l : ScriptLine) → IsLine number text → said_in (words_of text) ≡ Ok (Some l) → IsShort l
line_short number text l is says =
    let count = clean_short number 1 text is.0 (omega arith) in
    let whole = split_total (λ b. b == 32) text in
    said_short (words_of text) l
    (filter_short (λ w. not (length w == 0)) (slice_split (λ b. b == 32) text)
    (parts_short (length text) (slice_split (λ b. b == 32) text) (omega (arith, whole)) (omega (arith, count)))) says

-- and of so many lines each has a number
pub line_numbered : (number : ℕ) (text : List ℕ) → IsLine number text → number ≤ 16777216
unfolding fault_at
line_numbered number text is = by_test (nat_lt MOST_LINES number) refl is.1
  where
    by_test : (b : Bool) → nat_lt MOST_LINES number ≡ b → cond b (Some (TooManyLines number (length text + 1))) None ≡ None → number ≤ 16777216
    by_test true at e = absurd (cc (e))
    by_test false at e = grind (arith, nat_tests, at)
