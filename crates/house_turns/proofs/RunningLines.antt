-- Lines of skulks that run: they are read back as they were written.
use Rattle.std.proofs.Common.{◌≡◌, ◌≢◌, ℕ, ◌<◌, ◌^◌, Bool, true, false, eqb, List, [], ◌∷◌, ◌++◌, length, take, drop, get_or, refl, sym, ap, subst, ◌∙◌, append_assoc, arith}
use Rattle.std.specs.Prelude.{◌==◌, nat_eq, not, codes, decimal, Ok, Result}
use Rattle.std.specs.Int.{from_be_bytes, w64}
use Rattle.std.specs.List.{All, after_first, before_first, list_all, starts_with}
use Rattle.std.specs.Str.{all_ascii_digits, bytes_eq}
use Rattle.std.proofs.lemmas.Slice.Eq.{bytes_eq-Decides}
use Rattle.std.specs.Char.{is_ascii_digit}
use Rattle.std.proofs.lemmas.Bool.{and_parts}
use Rattle.std.proofs.lemmas.Fmt.{decimal_injective, digits_decimal}
use Rattle.std.proofs.lemmas.Grind.{flat_map-append}
use Rattle.std.proofs.lemmas.List.Concat.{flat_map-cons}
use Rattle.std.proofs.lemmas.List.Elements.{All-append, All-cons, All-head, All-nil, All-tail, All-weaker}
use Rattle.std.proofs.lemmas.Str.Parse.{numerals_by_value, tells_all_ascii_digits}
use Rattle.hex.specs.Hex.{decode_of, encode_lower}
use Rattle.hex.proofs.HexLemmas.{decode_of-encode_lower}
use Rattle.cds_stamps.specs.declared.stamp.Stamp.{Stamp}
use Rattle.record_fields.specs.FieldRanges.{FitsStamp}
use Rattle.script_answers.specs.Texts.{node_octets, stamp_text}
use Rattle.script_answers.proofs.ReadWords.{node_bytes, node_is}
use Rattle.clearinghouse.specs.declared.running.Round.{Round}
use Rattle.clearinghouse.specs.declared.running.Round.TheVariants.{Gather, Spread}
use Rattle.clearinghouse.specs.declared.running.RunningSkulk.{RunningSkulk}
use Rattle.house_turns.specs.LineOutcomes.{HasNoEnd}
use Rattle.house_turns.specs.Openings.{is_skulk}
use Rattle.house_turns.specs.PrivateTurns.{SkulksFirst}
use Rattle.house_turns.specs.RunningSkulks.{AllFit, FitsRunning, round_word, running_line, running_lines}
use Rattle.house_turns.proofs.Cuts.{cut_after, cut_before}
use Rattle.house_turns.proofs.PlainTexts.{both_end_nowhere, more_end_nowhere, text_ends_nowhere}
use Rattle.house_turns.proofs.SaidAgain.{IsDigit, decimal_digits, decimal_ends_nowhere, hex_digits, hex_ends_nowhere, no_space}

-- ---- octets without a separator

-- octets in front of a separator, and those after it
pub halves : (sep : ℕ) (xs ys xs' ys' : List ℕ) → All (λ b. b ≢ sep) xs → All (λ b. b ≢ sep) xs' → xs ++ (sep ∷ ys) ≡ xs' ++ (sep ∷ ys')
    → (xs ≡ xs') × (ys ≡ ys')
halves sep xs ys xs' ys' none none' same =
    let whole : List ℕ = xs ++ (sep ∷ ys) in
    let before : List ℕ = before_first (λ (b : ℕ). eqb b sep) whole in
    let after : List ℕ = after_first (λ (b : ℕ). eqb b sep) whole in (
      sym (cut_before sep whole xs ys before refl none refl) ∙ cut_before sep whole xs' ys' before same none' refl,
      sym (cut_after sep whole xs ys after refl none refl) ∙ cut_after sep whole xs' ys' after same none' refl,
    )

-- a separator is among these
pub has_end : (xs ys : List ℕ) → HasNoEnd (xs ++ (10 ∷ ys)) → ⊥
has_end [] ys none = All-head (λ (b : ℕ). b ≢ 10) 10 ys none refl
has_end (x ∷ xs) ys none = has_end xs ys (All-tail (λ (b : ℕ). b ≢ 10) x (xs ++ (10 ∷ ys)) none)

pub no_spaces : (xs : List ℕ) → list_all (λ b. not (b == 32)) xs ≡ true → All (λ b. b ≢ 32) xs
no_spaces [] is = All-nil (λ (b : ℕ). b ≢ 32)
no_spaces (x ∷ xs) is =
    let both = and_parts (not (x == 32)) (list_all (λ b. not (b == 32)) xs) is in
    All-cons (λ (b : ℕ). b ≢ 32) x xs (other x both.0) (no_spaces xs both.1)
  where
    other : (b : ℕ) → not (b == 32) ≡ true → b ≢ 32
    other b on is = let off : not (32 == 32) ≡ true = ap (λ (n : ℕ). not (n == 32)) (sym is) ∙ on in absurd (cc off)

-- decimal digits are no `@`
digits_no_sign : (ds : List ℕ) → all_ascii_digits ds ≡ true → All (λ b. b ≢ 64) ds
digits_no_sign [] is = All-nil (λ (b : ℕ). b ≢ 64)
digits_no_sign (d ∷ ds) is =
    let both = and_parts (is_ascii_digit d) (all_ascii_digits ds) is in
    All-cons (λ (b : ℕ). b ≢ 64) d ds (other d both.0) (digits_no_sign ds both.1)
  where
    other : (b : ℕ) → is_ascii_digit b ≡ true → b ≢ 64
    other b on is = let off : is_ascii_digit 64 ≡ true = ap is_ascii_digit (sym is) ∙ on in absurd (cc off)

pub decimal_no_sign : (n : ℕ) → n < 2 ^ 64 → All (λ b. b ≢ 64) (decimal n)
decimal_no_sign n small = digits_no_sign (decimal n) (digits_decimal (numerals_by_value (λ ds. all_ascii_digits ds ≡ true) tells_all_ascii_digits) n small)

pub decimal_no_space : (n : ℕ) → All (λ b. b ≢ 32) (decimal n)
decimal_no_space n = All-weaker IsDigit (λ (b : ℕ). b ≢ 32) no_space (decimal n) (decimal_digits n)

hex_no_space : (octets : List ℕ) → All (λ b. b ≢ 32) (encode_lower octets)
hex_no_space octets = All-weaker IsDigit (λ (b : ℕ). b ≢ 32) no_space (encode_lower octets) (hex_digits octets)

-- ---- nodes

node_again : (n m : ℕ) → n < 2 ^ 48 → m < 2 ^ 48 → encode_lower (node_octets n) ≡ encode_lower (node_octets m) → n ≡ m
node_again n m small small' same =
    let both : ◌≡◌ {A = Result (List ℕ) _} (Ok (node_octets n)) (Ok (node_octets m)) =
    sym (decode_of-encode_lower (node_octets n) (node_bytes n)) ∙ ap decode_of same ∙ decode_of-encode_lower (node_octets m) (node_bytes m) in
    let octets : node_octets n ≡ node_octets m = cc both in
    sym (node_is n small) ∙ ap (λ (o : List ℕ). from_be_bytes w64 (0 ∷ 0 ∷ o)) octets ∙ node_is m small'

-- ---- a line

stamp_again : (s s' : Stamp) → FitsStamp s → FitsStamp s' → stamp_text s ≡ stamp_text s' → s ≡ s'
stamp_again s s' fits fits' same =
    let cut = halves 64 (decimal s.time) (encode_lower (node_octets s.node)) (decimal s'.time) (encode_lower (node_octets s'.node))
    (decimal_no_sign s.time fits.time) (decimal_no_sign s'.time fits'.time) same in
    let time : s.time ≡ s'.time = decimal_injective s.time s'.time fits.time fits'.time cut.0 in
    let node : s.node ≡ s'.node = node_again s.node s'.node fits.node fits'.node cut.1 in
    λ i. record { time = time i; node = node i }

round_again : (a b : Round) → round_word a ≡ round_word b → a ≡ b
round_again Gather Gather same = refl
round_again Spread Spread same = refl
round_again Gather Spread same = absurd (let e : 103 ≡ 115 = ap (λ (l : List ℕ). get_or l 0 0) same in omega (arith, e))
round_again Spread Gather same = absurd (let e : 115 ≡ 103 = ap (λ (l : List ℕ). get_or l 0 0) same in omega (arith, e))

pub stamp_no_space : (s : Stamp) → All (λ b. b ≢ 32) (stamp_text s)
stamp_no_space s =
    let P : ℕ → Type 0 = λ b. b ≢ 32 in
    All-append P (decimal s.time) (64 ∷ encode_lower (node_octets s.node)) (decimal_no_space s.time)
    (All-cons P 64 (encode_lower (node_octets s.node)) (omega arith) (hex_no_space (node_octets s.node)))

pub round_no_space : (r : Round) → All (λ b. b ≢ 32) (round_word r)
round_no_space Gather = no_spaces (codes "gather") refl
round_no_space Spread = no_spaces (codes "spread") refl

-- the words of a line after the stamp, after the directory, and after the first one
abbrev pub round_words : RunningSkulk → List ℕ
round_words r = round_word r.round ++ (32 ∷ decimal r.answered.0)

abbrev pub stamp_words : RunningSkulk → List ℕ
stamp_words r = stamp_text r.t ++ (32 ∷ round_words r)

abbrev pub line_words : RunningSkulk → List ℕ
line_words r = decimal r.dir.0 ++ (32 ∷ stamp_words r)

line_again : (r r' : RunningSkulk) → FitsRunning r → FitsRunning r' → running_line r ≡ running_line r' → r ≡ r'
line_again r r' fits fits' same =
    let words : line_words r ≡ line_words r' = ap (drop 8) same in
    let dirs = halves 32 (decimal r.dir.0) (stamp_words r) (decimal r'.dir.0) (stamp_words r') (decimal_no_space r.dir.0) (decimal_no_space r'.dir.0) words in
    let stamps = halves 32 (stamp_text r.t) (round_words r) (stamp_text r'.t) (round_words r') (stamp_no_space r.t) (stamp_no_space r'.t) dirs.1 in
    let rounds = halves 32 (round_word r.round) (decimal r.answered.0) (round_word r'.round) (decimal r'.answered.0) (round_no_space r.round) (round_no_space r'.round) stamps.1 in
    let low = fits.dir in
    let low' = fits'.dir in
    let dir = decimal_injective r.dir.0 r'.dir.0 (omega (arith, low)) (omega (arith, low')) dirs.0 in
    let stamp = stamp_again r.t r'.t fits.stamp fits'.stamp stamps.0 in
    let round = round_again r.round r'.round rounds.0 in
    let answered = decimal_injective r.answered.0 r'.answered.0 fits.answered fits'.answered rounds.1 in
    λ i. record { dir = record { 0 = dir i }; round = round i; t = stamp i; answered = record { 0 = answered i } }

pub line_ends_nowhere : (r : RunningSkulk) → HasNoEnd (running_line r)
line_ends_nowhere r =
    both_end_nowhere (codes "running ") (line_words r) (text_ends_nowhere (codes "running ") refl)
    (both_end_nowhere (decimal r.dir.0) (32 ∷ stamp_words r) (decimal_ends_nowhere r.dir.0)
    (more_end_nowhere 32 (stamp_words r) (omega arith)
    (both_end_nowhere (stamp_text r.t) (32 ∷ round_words r)
    (both_end_nowhere (decimal r.t.time) (64 ∷ encode_lower (node_octets r.t.node)) (decimal_ends_nowhere r.t.time)
    (more_end_nowhere 64 (encode_lower (node_octets r.t.node)) (omega arith) (hex_ends_nowhere (node_octets r.t.node))))
    (more_end_nowhere 32 (round_words r) (omega arith)
    (both_end_nowhere (round_word r.round) (32 ∷ decimal r.answered.0) (word r.round)
    (more_end_nowhere 32 (decimal r.answered.0) (omega arith) (decimal_ends_nowhere r.answered.0)))))))
  where
    word : (a : Round) → HasNoEnd (round_word a)
    word Gather = text_ends_nowhere (codes "gather") refl
    word Spread = text_ends_nowhere (codes "spread") refl

-- ---- lines

pub lines_cons : (r : RunningSkulk) (rs : List RunningSkulk) (last : List ℕ)
    → running_lines (r ∷ rs) ++ last ≡ running_line r ++ (10 ∷ (running_lines rs ++ last))
lines_cons r rs last =
    ap (λ (t : List ℕ). t ++ last) (flat_map-cons (λ (r : RunningSkulk). running_line r ++ 10 ∷ []) r rs)
    ∙ append_assoc (running_line r ++ 10 ∷ []) (running_lines rs) last ∙ append_assoc (running_line r) (10 ∷ []) (running_lines rs ++ last)

-- what begins with a line of a skulk
not_last : (r : RunningSkulk) (rs : List RunningSkulk) (last rest : List ℕ) → is_skulk last ≡ false → last ≡ running_lines (r ∷ rs) ++ rest → ⊥
not_last r rs last rest ends same =
    let on : is_skulk (running_line r ++ (10 ∷ (running_lines rs ++ rest))) ≡ true = refl in
    absurd (cc (on, ends, ap is_skulk (same ∙ lines_cons r rs rest)))

-- the skulks that lines say, and what comes after them
pub skulks_again : (rs rs' : List RunningSkulk) (last last' : List ℕ) → AllFit rs → AllFit rs' → is_skulk last ≡ false → is_skulk last' ≡ false
    → running_lines rs ++ last ≡ running_lines rs' ++ last' → (rs ≡ rs') × (last ≡ last')
skulks_again [] [] last last' fit fit' ends ends' same = (refl, same)
skulks_again [] (r ∷ rs) last last' fit fit' ends ends' same = absurd (not_last r rs last last' ends same)
skulks_again (r ∷ rs) [] last last' fit fit' ends ends' same = absurd (not_last r rs last' last ends' (sym same))
skulks_again (r ∷ rs) (r' ∷ rs') last last' fit fit' ends ends' same =
    let cut = halves 10 (running_line r) (running_lines rs ++ last) (running_line r') (running_lines rs' ++ last') (line_ends_nowhere r) (line_ends_nowhere r')
    (sym (lines_cons r rs last) ∙ same ∙ lines_cons r' rs' last') in
    let more = skulks_again rs rs' last last' fit.1 fit'.1 ends ends' cut.1 in
    let one = line_again r r' fit.0 fit'.0 cut.0 in
    ((λ i. one i ∷ more.0 i), more.1)

-- octets that begin so, as they are compared
same_bytes : (a b : List ℕ) (p q : Bool) → bytes_eq a b ≡ p → bytes_eq b a ≡ q → p ≡ q
same_bytes a b true true is so = refl
same_bytes a b false false is so = refl
same_bytes a b true false is so =
    let on : bytes_eq b a ≡ true = (bytes_eq-Decides b a).1 (sym ((bytes_eq-Decides a b).0 is)) in
    absurd (cc (on, so))
same_bytes a b false true is so =
    let on : bytes_eq a b ≡ true = (bytes_eq-Decides a b).1 (sym ((bytes_eq-Decides b a).0 so)) in
    absurd (cc (on, is))

pub begins_skulk : (xs : List ℕ) (b : Bool) → b ≡ starts_with nat_eq xs (codes "running ") → is_skulk xs ≡ b
begins_skulk xs b is =
    same_bytes (take (length (codes "running ")) xs) (codes "running ") (is_skulk xs) (starts_with nat_eq xs (codes "running ")) refl refl ∙ sym is

-- ---- what is read

-- these skulks were read, and the lines of others are left
pub record SkulksLeft (text : List ℕ) (done : List RunningSkulk) (rest : List ℕ) : Type 0 where
  pub whole : text ≡ running_lines done ++ rest
  pub fit : AllFit done
  pub left : (skulks : List RunningSkulk) (last : List ℕ) → SkulksFirst text skulks last
      → (todo : List RunningSkulk) × SkulksFirst rest todo last

pub none_read : (text : List ℕ) (done : List RunningSkulk) → done ≡ [] → SkulksLeft text done text
none_read text done none =
    subst (λ (d : List RunningSkulk). SkulksLeft text d text) (sym none)
    (record { whole = refl; fit = tt; left = λ skulks last first. (skulks, first) })

-- a line of a skulk is left, where the rest begins so
pub record NextSkulk (rest last : List ℕ) (todo : List RunningSkulk) : Type 0 where
  pub skulk : RunningSkulk
  pub others : List RunningSkulk
  pub whole : rest ≡ running_line skulk ++ (10 ∷ (running_lines others ++ last))
  pub fits : FitsRunning skulk
  pub fit : AllFit others
  pub ends : is_skulk last ≡ false

next_left : (rest last : List ℕ) (todo : List RunningSkulk) → is_skulk rest ≡ true → SkulksFirst rest todo last → NextSkulk rest last todo
next_left rest last [] begins first = absurd (cc (begins, first.ends, ap is_skulk first.whole))
next_left rest last (r ∷ rs) begins first =
    record { skulk = r; others = rs; whole = first.whole ∙ lines_cons r rs last; fits = first.fit.0; fit = first.fit.1; ends = first.ends }

-- one more was read
pub fit_more : (rs : List RunningSkulk) (r : RunningSkulk) → AllFit rs → FitsRunning r → AllFit (rs ++ r ∷ [])
fit_more [] r fit fits = (fits, tt)
fit_more (s ∷ rs) r fit fits = (fit.0, fit_more rs r fit.1 fits)

pub one_read : (text rest line behind : List ℕ) (done after : List RunningSkulk) (r : RunningSkulk) → SkulksLeft text done rest → is_skulk rest ≡ true
    → rest ≡ line ++ (10 ∷ behind) → HasNoEnd line → line ≡ running_line r → FitsRunning r → after ≡ done ++ r ∷ [] → SkulksLeft text after behind
one_read text rest line behind done after r so begins whole no_end is fits pushed =
    subst (λ (d : List RunningSkulk). SkulksLeft text d behind) (sym pushed) (record {
      whole =
          so.whole ∙ ap (λ (t : List ℕ). running_lines done ++ t) (whole ∙ ap (λ (l : List ℕ). l ++ (10 ∷ behind)) is)
          ∙ ap (λ (t : List ℕ). running_lines done ++ t) (sym (lines_cons r [] behind))
          ∙ sym (append_assoc (running_lines done) (running_lines (r ∷ [])) behind)
          ∙ ap (λ (t : List ℕ). t ++ behind) (sym (flat_map-append (λ (r : RunningSkulk). running_line r ++ 10 ∷ []) done (r ∷ [])));
      fit = fit_more done r so.fit fits;
      left = λ skulks last first.
          let todo = so.left skulks last first in
          let next = next_left rest last todo.0 begins todo.1 in
          let cut = halves 10 line behind (running_line next.skulk) (running_lines next.others ++ last) no_end (line_ends_nowhere next.skulk)
          (sym whole ∙ next.whole) in
          (next.others, record { whole = cut.1; fit = next.fit; ends = next.ends });
    })

-- no line ends in the rest
pub endless_read : (text rest : List ℕ) (done : List RunningSkulk) → SkulksLeft text done rest → is_skulk rest ≡ true → HasNoEnd rest
    → (skulks : List RunningSkulk) (last : List ℕ) → SkulksFirst text skulks last → ⊥
endless_read text rest done so begins no_end skulks last first =
    let todo = so.left skulks last first in
    let next = next_left rest last todo.0 begins todo.1 in
    has_end (running_line next.skulk) (running_lines next.others ++ last) (subst HasNoEnd next.whole no_end)

-- the next line is that of no skulk
pub other_read : (text rest line behind : List ℕ) (done : List RunningSkulk) → SkulksLeft text done rest → is_skulk rest ≡ true
    → rest ≡ line ++ (10 ∷ behind) → HasNoEnd line → ((r : RunningSkulk) → FitsRunning r → line ≢ running_line r)
    → (skulks : List RunningSkulk) (last : List ℕ) → SkulksFirst text skulks last → ⊥
other_read text rest line behind done so begins whole no_end none skulks last first =
    let todo = so.left skulks last first in
    let next = next_left rest last todo.0 begins todo.1 in
    let cut = halves 10 line behind (running_line next.skulk) (running_lines next.others ++ last) no_end (line_ends_nowhere next.skulk)
    (sym whole ∙ next.whole) in
    none next.skulk next.fits cut.0

-- all were read
pub all_read : (text rest : List ℕ) (done : List RunningSkulk) → SkulksLeft text done rest → is_skulk rest ≡ false → SkulksFirst text done rest
all_read text rest done so ends = record { whole = so.whole; fit = so.fit; ends = ends }
