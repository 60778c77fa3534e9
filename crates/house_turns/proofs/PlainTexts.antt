-- Texts in which no line ends: the answers of turns.
use Rattle.std.proofs.Common.{◌≡◌, ◌≢◌, ℕ, Bool, true, false, List, [], ◌∷◌, ◌++◌, refl, sym, ap, ◌∙◌, arith}
use Rattle.std.specs.Prelude.{◌==◌, codes, decimal, not}
use Rattle.std.specs.List.{AllPass, list_all}
use Rattle.std.proofs.lemmas.List.Elements.{All-append, All-cons, All-nil, All-weaker}
use Rattle.std.proofs.lemmas.List.Sums.{AllPass-from_list_all}
use Rattle.hex.specs.Hex.{encode_lower}
use Rattle.cds_stamps.specs.declared.numbers.DirId.{DirId}
use Rattle.cds_stamps.specs.declared.numbers.EpochNo.{EpochNo}
use Rattle.cds_stamps.specs.declared.stamp.Stamp.{Stamp}
use Rattle.script_answers.specs.Texts.{answer_line, node_octets, stamp_text}
use Rattle.script_answers.specs.declared.answer.Answer.TheVariants as answer
use Rattle.house_directory.specs.declared.taking.Taken.{Taken}
use Rattle.house_directory.specs.declared.taking.Taken.TheVariants as taken
use Rattle.cell_runs.specs.Entries.{Post}
use Rattle.house_turns.specs.LineOutcomes.{HasNoEnd, IsOneLine}
use Rattle.house_turns.specs.PrivateTurns.{taken_outcome}
use Rattle.house_turns.proofs.SaidAgain.{decimal_ends_nowhere, hex_ends_nowhere}

-- ---- octets

-- octets that pass a test which a line end does not pass
pub passed_end_nowhere : (p : ℕ → Bool) (xs : List ℕ) → p 10 ≡ false → AllPass p xs → HasNoEnd xs
passed_end_nowhere p xs off all = All-weaker (λ (b : ℕ). p b ≡ true) (λ (b : ℕ). b ≢ 10) other xs all
  where
    other : (b : ℕ) → p b ≡ true → b ≢ 10
    other b on is = let end : p 10 ≡ true = ap p (sym is) ∙ on in absurd (cc (end, off))

-- a text whose octets are known
pub text_ends_nowhere : (xs : List ℕ) → list_all (λ b. not (b == 10)) xs ≡ true → HasNoEnd xs
text_ends_nowhere xs is = passed_end_nowhere (λ (b : ℕ). not (b == 10)) xs refl (AllPass-from_list_all (λ (b : ℕ). not (b == 10)) xs is)

pub none_end_nowhere : HasNoEnd []
none_end_nowhere = All-nil (λ (b : ℕ). b ≢ 10)

pub more_end_nowhere : (b : ℕ) (xs : List ℕ) → b ≢ 10 → HasNoEnd xs → HasNoEnd (b ∷ xs)
more_end_nowhere b xs other rest = All-cons (λ (b : ℕ). b ≢ 10) b xs other rest

pub both_end_nowhere : (xs ys : List ℕ) → HasNoEnd xs → HasNoEnd ys → HasNoEnd (xs ++ ys)
both_end_nowhere xs ys first rest = All-append (λ (b : ℕ). b ≢ 10) xs ys first rest

-- ---- answers

-- a stamp, without messages that were posted
stamp_ends_nowhere : (s : Stamp) → HasNoEnd (stamp_text s ++ [])
stamp_ends_nowhere s =
    both_end_nowhere (stamp_text s) []
    (both_end_nowhere (decimal s.time) (64 ∷ encode_lower (node_octets s.node)) (decimal_ends_nowhere s.time)
    (more_end_nowhere 64 (encode_lower (node_octets s.node)) (omega arith) (hex_ends_nowhere (node_octets s.node)))) none_end_nowhere

pub done_ends_nowhere : HasNoEnd (answer_line answer.Done)
done_ends_nowhere = text_ends_nowhere (codes "ok") refl

pub stamped_ends_nowhere : (s : Stamp) → HasNoEnd (answer_line (answer.Stamped s []))
stamped_ends_nowhere s = both_end_nowhere (codes "ok ") (stamp_text s ++ []) (text_ends_nowhere (codes "ok ") refl) (stamp_ends_nowhere s)

pub complete_ends_nowhere : (s : Stamp) → HasNoEnd (answer_line (answer.Complete s []))
complete_ends_nowhere s =
    both_end_nowhere (codes "ok complete ") (stamp_text s ++ []) (text_ends_nowhere (codes "ok complete ") refl) (stamp_ends_nowhere s)

pub made_ends_nowhere : (d : DirId) (s : Stamp) → HasNoEnd (answer_line (answer.Made d s []))
made_ends_nowhere d s =
    both_end_nowhere (codes "ok ") (decimal d.0 ++ (32 ∷ (stamp_text s ++ []))) (text_ends_nowhere (codes "ok ") refl)
    (both_end_nowhere (decimal d.0) (32 ∷ (stamp_text s ++ [])) (decimal_ends_nowhere d.0)
    (more_end_nowhere 32 (stamp_text s ++ []) (omega arith) (stamp_ends_nowhere s)))

pub epoch_ends_nowhere : (k : EpochNo) → HasNoEnd (answer_line (answer.Epoch k []))
epoch_ends_nowhere k =
    both_end_nowhere (codes "ok ") (decimal k.0 ++ []) (text_ends_nowhere (codes "ok ") refl)
    (both_end_nowhere (decimal k.0) [] (decimal_ends_nowhere k.0) none_end_nowhere)

-- what a message comes to
pub taken_is_one_line : (t : Taken) (posts : List Post) → IsOneLine (taken_outcome t posts)
taken_is_one_line taken.Taken posts = both_end_nowhere (codes "ok taken") [] (text_ends_nowhere (codes "ok taken") refl) none_end_nowhere
taken_is_one_line (taken.Complete s) posts = complete_ends_nowhere s
taken_is_one_line (taken.Late a b) posts = tt
taken_is_one_line (taken.Early a b) posts = tt
taken_is_one_line (taken.Stale a b) posts = tt
taken_is_one_line taken.NoReplica posts = tt
taken_is_one_line taken.Foreign posts = tt
