-- The words of a skulk that runs, cut and read; and skulks that are written or run on, one by one.
use Rattle.std.proofs.Common.{◌≡◌, ℕ, ◌+◌, ◌<◌, ◌^◌, eqb, List, [], ◌∷◌, ◌++◌, length, take, drop, get_or, refl, sym, ap, subst, ◌∙◌, append_assoc, append-nil}
use Rattle.std.specs.Prelude.{codes, decimal, Option, Some, None, Result, Ok, Err, MatchResult, SomeIff}
use Rattle.std.specs.List.{after_first, before_first}
use Rattle.std.proofs.lemmas.Grind.{flat_map-append}
use Rattle.std.proofs.lemmas.List.{drop_more, take_more}
use Rattle.hex.specs.Hex.{decode_sized, encode_lower}
use Rattle.hex.specs.declared.error.FromHexError.{FromHexError}
use Rattle.hex.proofs.HexLemmas.{decode_sized-encode_lower}
use Rattle.cds_stamps.specs.declared.stamp.Stamp.{Stamp}
use Rattle.script_answers.specs.Texts.{node_octets, stamp_text}
use Rattle.script_answers.proofs.ReadWords.{node_bytes}
use Rattle.clearinghouse.specs.HouseImages.{with_skulks}
use Rattle.clearinghouse.specs.declared.house.Clearinghouse.{Clearinghouse}
use Rattle.clearinghouse.specs.declared.running.RunningSkulk.{RunningSkulk}
use Rattle.house_turns.specs.RunningSkulks.{AllFit, FitsRunning, round_word, running_line, running_lines}
use Rattle.house_turns.proofs.Cuts.{cut_after, cut_before}
use Rattle.house_turns.proofs.RunningLines.{decimal_no_sign, decimal_no_space, fit_more, line_words, no_spaces, round_no_space, round_words, stamp_no_space, stamp_words}

-- ---- cuts

-- the words of a line
pub record LineCuts (r : RunningSkulk) (dir stamp round answered : List ℕ) : Type 0 where
  pub dir_is : dir ≡ decimal r.dir.0
  pub stamp_is : stamp ≡ stamp_text r.t
  pub round_is : round ≡ round_word r.round
  pub answered_is : answered ≡ decimal r.answered.0

pub line_cuts : (r : RunningSkulk) (line first dir second stamp third round answered : List ℕ) → line ≡ running_line r
    → first ≡ after_first (λ b. eqb b 32) line → dir ≡ before_first (λ b. eqb b 32) first → second ≡ after_first (λ b. eqb b 32) first
    → stamp ≡ before_first (λ b. eqb b 32) second → third ≡ after_first (λ b. eqb b 32) second
    → round ≡ before_first (λ b. eqb b 32) third → answered ≡ after_first (λ b. eqb b 32) third → LineCuts r dir stamp round answered
line_cuts r line first dir second stamp third round answered is one two three four five six seven =
    let words : first ≡ line_words r = cut_after 32 line (codes "running") (line_words r) first is (no_spaces (codes "running") refl) one in
    let later : second ≡ stamp_words r = cut_after 32 first (decimal r.dir.0) (stamp_words r) second words (decimal_no_space r.dir.0) three in
    let last : third ≡ round_words r = cut_after 32 second (stamp_text r.t) (round_words r) third later (stamp_no_space r.t) five in
    record {
      dir_is = cut_before 32 first (decimal r.dir.0) (stamp_words r) dir words (decimal_no_space r.dir.0) two;
      stamp_is = cut_before 32 second (stamp_text r.t) (round_words r) stamp later (stamp_no_space r.t) four;
      round_is = cut_before 32 third (round_word r.round) (decimal r.answered.0) round last (round_no_space r.round) six;
      answered_is = cut_after 32 third (round_word r.round) (decimal r.answered.0) answered last (round_no_space r.round) seven;
    }

-- the time and the node of a stamp
pub time_cut : (s : Stamp) (word time : List ℕ) → s.time < 2 ^ 64 → word ≡ stamp_text s → time ≡ before_first (λ b. eqb b 64) word → time ≡ decimal s.time
time_cut s word time low is cut = cut_before 64 word (decimal s.time) (encode_lower (node_octets s.node)) time is (decimal_no_sign s.time low) cut

pub node_cut : (s : Stamp) (word node : List ℕ) → s.time < 2 ^ 64 → word ≡ stamp_text s → node ≡ after_first (λ b. eqb b 64) word
    → node ≡ encode_lower (node_octets s.node)
node_cut s word node low is cut = cut_after 64 word (decimal s.time) (encode_lower (node_octets s.node)) node is (decimal_no_sign s.time low) cut

-- ---- nodes

-- the digits of a node are read
pub node_read : (n : ℕ) (word : List ℕ) (r : Result (Unit {0}) FromHexError) (out : List ℕ) → word ≡ encode_lower (node_octets n)
    → MatchResult (decode_sized word 6) (λ octets. (r ≡ Ok tt) × (out ≡ octets)) (λ e. r ≡ Err e) → (r ≡ Ok tt) × (out ≡ node_octets n)
node_read n word r out is reads =
    subst (λ (d : Result (List ℕ) FromHexError). MatchResult d (λ octets. (r ≡ Ok tt) × (out ≡ octets)) (λ e. r ≡ Err e))
    (ap (λ (w : List ℕ). decode_sized w 6) is ∙ decode_sized-encode_lower (node_octets n) 6 refl (node_bytes n)) reads

-- and its number is that of a node
pub node_made : (o : Option ℕ) (m n : ℕ) → SomeIff o (m < 2 ^ 48) m → m ≡ n → n < 2 ^ 48 → o ≡ Some n
node_made None m n made is small = absurd (made (subst (λ (k : ℕ). k < 2 ^ 48) (sym is) small))
node_made (Some x) m n made is small = ap (λ (k : ℕ). Some k) (made.1 ∙ is)

-- ---- one by one

-- the line of one more was written
pub lines_next : (skulks : List RunningSkulk) (i : ℕ) (r : RunningSkulk) (old text line after : List ℕ) → i < length skulks → r ≡ get_or skulks i r
    → text ≡ old ++ running_lines (take i skulks) → line ≡ text ++ running_line r → after ≡ line ++ 10 ∷ []
    → after ≡ old ++ running_lines (take (i + 1) skulks)
lines_next skulks i r old text line after less at so wrote ended =
    let more : take (i + 1) skulks ≡ take i skulks ++ r ∷ [] = take_more skulks i r less ∙ ap (λ (x : RunningSkulk). take i skulks ++ x ∷ []) (sym at) in
    let f : RunningSkulk → List ℕ = λ r. running_line r ++ 10 ∷ [] in
    ended ∙ ap (λ (t : List ℕ). t ++ 10 ∷ []) (wrote ∙ ap (λ (t : List ℕ). t ++ running_line r) so)
    ∙ append_assoc (old ++ running_lines (take i skulks)) (running_line r) (10 ∷ [])
    ∙ append_assoc old (running_lines (take i skulks)) (running_line r ++ 10 ∷ [])
    ∙ ap (λ (t : List ℕ). old ++ (running_lines (take i skulks) ++ t)) (sym (append-nil (running_line r ++ 10 ∷ [])))
    ∙ ap (λ (t : List ℕ). old ++ t) (sym (flat_map-append f (take i skulks) (r ∷ [])))
    ∙ ap (λ (s : List RunningSkulk). old ++ running_lines s) (sym more)

pub fit_next : (skulks : List RunningSkulk) (i : ℕ) (r : RunningSkulk) → i < length skulks → r ≡ get_or skulks i r → AllFit (take i skulks) → FitsRunning r
    → AllFit (take (i + 1) skulks)
fit_next skulks i r less at fit fits =
    subst AllFit (sym (take_more skulks i r less ∙ ap (λ (x : RunningSkulk). take i skulks ++ x ∷ []) (sym at))) (fit_more (take i skulks) r fit fits)

-- one more runs on
pub run_next : (skulks : List RunningSkulk) (i : ℕ) (r : RunningSkulk) (all home after : Clearinghouse) → i < length skulks → r ≡ get_or skulks i r
    → with_skulks (drop i skulks) home ≡ all → after ≡ with_skulks (r ∷ []) home → with_skulks (drop (i + 1) skulks) after ≡ all
run_next skulks i r all home after less at so is =
    let more : drop i skulks ≡ r ∷ drop (i + 1) skulks = drop_more skulks i r less ∙ ap (λ (x : RunningSkulk). x ∷ drop (i + 1) skulks) (sym at) in
    ap (with_skulks (drop (i + 1) skulks)) is ∙ ap (λ (s : List RunningSkulk). with_skulks s home) (sym more) ∙ so
