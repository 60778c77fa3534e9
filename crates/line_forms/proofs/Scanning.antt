-- The demand of an input, octet by octet.
use Rattle.std.proofs.Common.{◌≡◌, ◌≢◌, ℕ, ◌+◌, ◌<◌, Bool, true, false, List, [], ◌∷◌, ◌++◌, length, refl, sym, ◌∙◌, ap, subst, arith, append_assoc}
use Rattle.std.proofs.Common.{append-nil, if◌then◌else◌}
use Rattle.std.specs.Prelude.{Option, None, Some, ◌==◌}
use Rattle.std.specs.List.{onto_first}
use Rattle.std.specs.Option.{option_or}
use Rattle.std.proofs.lemmas.Bool.Decides.{nat_tests}
use Rattle.std.proofs.lemmas.List.Splits.{length-slice_split}
use Rattle.cds_base.specs.declared.scan.LineFault.{LineFault}
use Rattle.cds_base.specs.LineFaults.{fault_at, AreClean}
use Rattle.line_forms.specs.Demand.{Demand, LineRule, demand, line_demand, first_fault, pieces_of, at_end, unless_fault, then_rest}
use Rattle.line_forms.specs.Demand.{faulty_with}

-- where this much has come of line number: an octet is at fault, or ends the line, or joins it
unfoldable pub scanned : {S : Type 0} → LineRule S → ℕ → S → List ℕ → List ℕ → Demand
scanned rule number state line [] = at_end rule number state line
scanned rule number state line (b ∷ bs) =
    unless_fault rule (fault_at number (length line + 1) b)
    (if b == 10 then then_rest (rule.response number state line) (λ next. scanned rule (number + 1) next [] bs)
    else scanned rule number state (line ++ b ∷ []) bs)

-- one more clean octet
pub clean_more : (number place : ℕ) (line : List ℕ) (b : ℕ) → AreClean number place line → b ≢ 10 → fault_at number (place + length line) b ≡ None
    → AreClean number place (line ++ b ∷ [])
clean_more number place [] b clean other none = (other, subst (λ (n : ℕ). fault_at number n b ≡ None) (omega arith) none, tt)
clean_more number place (x ∷ xs) b clean other none =
    (clean.0, clean.1, clean_more number (place + 1) xs b clean.2 other (subst (λ (n : ℕ). fault_at number n b ≡ None) (omega arith) none))

-- the octet is a line end
pub is_ten : (b : ℕ) → (b == 10) ≡ true → b ≡ 10
is_ten b is = grind (arith, nat_tests)

-- the octet is no line end
pub no_ten : (b : ℕ) → (b == 10) ≡ false → b ≢ 10
no_ten b is = grind (arith, nat_tests)

-- clean octets show no fault, and the first fault is one after them
behind_clean : (number place : ℕ) (line xs : List ℕ) → AreClean number place line
    → first_fault number place (line ++ xs) ≡ first_fault number (place + length line) xs
behind_clean number place [] xs clean = ap (λ (n : ℕ). first_fault number n xs) (omega arith)
behind_clean number place (b ∷ bs) xs clean =
    ap (λ (f : Option LineFault). option_or f (first_fault number (place + 1) (bs ++ xs))) clean.1
    ∙ behind_clean number (place + 1) bs xs clean.2
    ∙ ap (λ (n : ℕ). first_fault number n xs) (omega arith)

fault_behind : (number : ℕ) (line xs : List ℕ) (b : ℕ) (f : LineFault) → AreClean number 1 line → fault_at number (length line + 1) b ≡ Some f
    → first_fault number 1 (line ++ b ∷ xs) ≡ Some f
fault_behind number line xs b f clean is =
    behind_clean number 1 line (b ∷ xs) clean
    ∙ ap (λ (n : ℕ). option_or (fault_at number n b) (first_fault number (n + 1) xs)) (omega arith)
    ∙ ap (λ (o : Option LineFault). option_or o (first_fault number (length line + 1 + 1) xs)) is

or_none : {X : Type 0} (o : Option X) → option_or o None ≡ o
or_none None = refl
or_none (Some x) = refl

-- what has come of a line is in front of the first piece
abbrev glued : List ℕ → List (List ℕ) → List (List ℕ)
glued line [] = line ∷ []
glued line (piece ∷ pieces) = (line ++ piece) ∷ pieces

glued_none : (pieces : List (List ℕ)) → 0 < length pieces → glued [] pieces ≡ pieces
glued_none [] some = absurd (omega arith)
glued_none (piece ∷ pieces) some = refl

glued_more : (line : List ℕ) (b : ℕ) (pieces : List (List ℕ)) → glued (line ++ b ∷ []) pieces ≡ glued line (onto_first b pieces)
glued_more line b [] = refl
glued_more line b (piece ∷ pieces) = ap (λ (l : List ℕ). l ∷ pieces) (append_assoc line (b ∷ []) piece)

some_pieces : (octets : List ℕ) → 0 < length (pieces_of octets)
some_pieces octets = omega (arith, length-slice_split (λ (b : ℕ). b == 10) octets)

module _ {S : Type 0} (rule : LineRule S) where
  -- an octet at fault ends the demand of the piece in which it is
  broken : (number : ℕ) (state : S) (line : List ℕ) (b : ℕ) (f : LineFault) (pieces : List (List ℕ)) → AreClean number 1 line
      → fault_at number (length line + 1) b ≡ Some f
      → demand rule number state (glued line (onto_first b pieces)) ≡ faulty_with (rule.fault_text f)
  unfolding demand
  broken number state line b f [] clean is =
      ap (λ (o : Option LineFault). unless_fault rule o (at_end rule number state (line ++ b ∷ []))) (fault_behind number line [] b f clean is)
  broken number state line b f (piece ∷ []) clean is =
      ap (λ (o : Option LineFault). unless_fault rule o (at_end rule number state (line ++ b ∷ piece))) (fault_behind number line piece b f clean is)
  broken number state line b f (piece ∷ second ∷ pieces) clean is =
      ap (λ (o : Option LineFault). unless_fault rule o (then_rest (rule.response number state (line ++ b ∷ piece))
      (λ next. demand rule (number + 1) next (second ∷ pieces))))
      (ap (first_fault number 1) (append_assoc line (b ∷ piece) (10 ∷ [])) ∙ fault_behind number line (piece ++ 10 ∷ []) b f clean is)

  -- a whole line, after which the pieces stand
  ended : (number : ℕ) (state : S) (line : List ℕ) (pieces : List (List ℕ)) → 0 < length pieces
      → demand rule number state (line ∷ pieces) ≡ unless_fault rule (first_fault number 1 (line ++ 10 ∷ []))
      (then_rest (rule.response number state line) (λ next. demand rule (number + 1) next pieces))
  unfolding demand
  ended number state line [] some = absurd (omega arith)
  ended number state line (piece ∷ pieces) some = refl

  -- octet by octet the same is demanded as piece by piece
  pub scanned_pieces : (number : ℕ) (state : S) (line octets : List ℕ) → AreClean number 1 line
      → demand rule number state (glued line (pieces_of octets)) ≡ scanned rule number state line octets
  unfolding demand scanned
  scanned_pieces number state line [] clean =
      ap (λ (l : List ℕ). unless_fault rule (first_fault number 1 l) (at_end rule number state l)) (append-nil line)
      ∙ ap (λ (o : Option LineFault). unless_fault rule o (at_end rule number state line)) (ap (first_fault number 1) (sym (append-nil line))
      ∙ behind_clean number 1 line [] clean)
  scanned_pieces number state line (b ∷ bs) clean =
      by_ten (λ next. scanned_pieces (number + 1) next [] bs tt) (λ clean. scanned_pieces number state (line ++ b ∷ []) bs clean) (b == 10) refl
    where
      by_fault : (AreClean number 1 (line ++ b ∷ []) → demand rule number state (glued (line ++ b ∷ []) (pieces_of bs)) ≡ scanned rule number state
          (line ++ b ∷ []) bs) → (b == 10) ≡ false
          → (f : Option LineFault) → fault_at number (length line + 1) b ≡ f
          → demand rule number state (glued line (onto_first b (pieces_of bs))) ≡ unless_fault rule f (scanned rule number state (line ++ b ∷ []) bs)
      by_fault joined inside None is =
          ap (demand rule number state) (sym (glued_more line b (pieces_of bs)))
          ∙ joined (clean_more number 1 line b clean (no_ten b inside) (subst (λ (n : ℕ). fault_at number n b ≡ None) (omega arith) is))
      by_fault joined inside (Some f) is = broken number state line b f (pieces_of bs) clean is

      at_ten : ((next : S) → demand rule (number + 1) next (glued [] (pieces_of bs)) ≡ scanned rule (number + 1) next [] bs) → b ≡ 10
          → demand rule number state ((line ++ []) ∷ pieces_of bs) ≡ unless_fault rule (fault_at number (length line + 1) b)
          (then_rest (rule.response number state line) (λ next. scanned rule (number + 1) next [] bs))
      at_ten behind ten =
          ap (λ (l : List ℕ). demand rule number state (l ∷ pieces_of bs)) (append-nil line)
          ∙ ended number state line (pieces_of bs) (some_pieces bs)
          ∙ ap (λ (o : Option LineFault). unless_fault rule o (then_rest (rule.response number state line) (λ next. demand rule (number + 1) next (pieces_of bs))))
          (behind_clean number 1 line (10 ∷ []) clean ∙ or_none (fault_at number (1 + length line) 10)
          ∙ ap (λ (n : ℕ). fault_at number n 10) (omega arith) ∙ ap (fault_at number (length line + 1)) (sym ten))
          ∙ ap (λ (rest : S → Demand). unless_fault rule (fault_at number (length line + 1) b) (then_rest (rule.response number state line) rest))
          (λ i next. (ap (demand rule (number + 1) next) (sym (glued_none (pieces_of bs) (some_pieces bs))) ∙ behind next) i)

      by_ten : ((next : S) → demand rule (number + 1) next (glued [] (pieces_of bs)) ≡ scanned rule (number + 1) next [] bs)
          → (AreClean number 1 (line ++ b ∷ []) → demand rule number state (glued (line ++ b ∷ []) (pieces_of bs)) ≡ scanned rule number state (line ++ b ∷ []) bs)
          → (c : Bool) → (b == 10) ≡ c
          → demand rule number state (glued line (if c then [] ∷ pieces_of bs else onto_first b (pieces_of bs)))
          ≡ unless_fault rule (fault_at number (length line + 1) b) (if c then then_rest (rule.response number state line)
          (λ next. scanned rule (number + 1) next [] bs) else scanned rule number state (line ++ b ∷ []) bs)
      by_ten behind joined true is = at_ten behind (is_ten b is)
      by_ten behind joined false is = by_fault joined is (fault_at number (length line + 1) b) refl

  -- what an input demands, octet by octet
  pub demanded_scanned : (state : S) (octets : List ℕ) → line_demand rule state octets ≡ scanned rule 1 state [] octets
  demanded_scanned state octets = ap (demand rule 1 state) (sym (glued_none (pieces_of octets) (some_pieces octets))) ∙ scanned_pieces 1 state [] octets tt
