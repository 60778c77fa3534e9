-- What stays due whatever follows.
use Rattle.std.proofs.Common.{◌≡◌, ℕ, ◌+◌, Bool, true, false, List, [], ◌∷◌, ◌++◌, length, refl, sym, ◌∙◌, ap, subst, append_assoc, append-nil}
use Rattle.std.proofs.Common.{if◌then◌else◌}
use Rattle.std.specs.Prelude.{Option, None, Some, ◌==◌}
use Rattle.cds_base.specs.declared.scan.LineFault.{LineFault}
use Rattle.cds_base.specs.LineFaults.{fault_at}
use Rattle.reply_buffer.specs.Responses.{ResponseOf, GoesOn, Stops, Fills}
use Rattle.line_forms.specs.Demand.{Demand, Faulty, LineRule, line_demand, unless_fault, then_rest, with_front}
use Rattle.cds_base.specs.RunEnds.{IsFront}
use Rattle.line_forms.proofs.Scanning.{scanned, demanded_scanned}

module _ {S : Type 0} (rule : LineRule S) where
  -- ---- what stays due

  -- the body of an input is due whatever follows
  pub body_stays : (number : ℕ) (state : S) (line xs ys : List ℕ)
      → IsFront (scanned rule number state line xs).body (scanned rule number state line (xs ++ ys)).body
  unfolding scanned
  body_stays number state [] [] ys = ((scanned rule number state [] ys).body, refl)
  body_stays number state (b ∷ bs) [] ys = ((scanned rule number state (b ∷ bs) ys).body, refl)
  body_stays number state line (x ∷ xs) ys =
      by_fault (λ next. body_stays (number + 1) next [] xs ys) (body_stays number state (line ++ x ∷ []) xs ys) (fault_at number (length line + 1) x)
    where
      by_response : ((next : S) → IsFront (scanned rule (number + 1) next [] xs).body (scanned rule (number + 1) next [] (xs ++ ys)).body)
          → (r : ResponseOf S) → IsFront (then_rest r (λ next. scanned rule (number + 1) next [] xs)).body
          (then_rest r (λ next. scanned rule (number + 1) next [] (xs ++ ys))).body
      by_response behind (GoesOn text next) =
          let front = behind next in
          (front.0, ap (λ (l : List ℕ). text ++ l) front.1 ∙ sym (append_assoc text (scanned rule (number + 1) next [] xs).body front.0))
      by_response behind (Stops text) = ([], sym (append-nil text))
      by_response behind Fills = ([], refl)

      by_ten : ((next : S) → IsFront (scanned rule (number + 1) next [] xs).body (scanned rule (number + 1) next [] (xs ++ ys)).body)
          → IsFront (scanned rule number state (line ++ x ∷ []) xs).body (scanned rule number state (line ++ x ∷ []) (xs ++ ys)).body
          → (c : Bool) → IsFront (if c then then_rest (rule.response number state line) (λ next. scanned rule (number + 1) next [] xs) else scanned rule number state
          (line ++ x ∷ []) xs).body
          (if c then then_rest (rule.response number state line) (λ next. scanned rule (number + 1) next [] (xs ++ ys)) else scanned rule number state (line ++ x ∷ [])
          (xs ++ ys)).body
      by_ten behind joined true = by_response behind (rule.response number state line)
      by_ten behind joined false = joined

      by_fault : ((next : S) → IsFront (scanned rule (number + 1) next [] xs).body (scanned rule (number + 1) next [] (xs ++ ys)).body)
          → IsFront (scanned rule number state (line ++ x ∷ []) xs).body (scanned rule number state (line ++ x ∷ []) (xs ++ ys)).body
          → (f : Option LineFault)
          → IsFront (unless_fault rule f (if x == 10 then then_rest (rule.response number state line)
          (λ next. scanned rule (number + 1) next [] xs) else scanned rule number state (line ++ x ∷ []) xs)).body
          (unless_fault rule f (if x == 10 then then_rest (rule.response number state line) (λ next. scanned rule (number + 1) next [] (xs ++ ys)) else scanned rule
          number state (line ++ x ∷ []) (xs ++ ys))).body
      by_fault behind joined None = by_ten behind joined (x == 10)
      by_fault behind joined (Some fault) = ([], sym (append-nil (rule.fault_text fault)))

  -- a fault that shows ends the demand rule
  pub fault_stays : (number : ℕ) (state : S) (line xs ys : List ℕ) → (scanned rule number state line xs).verdict ≡ Faulty
      → scanned rule number state line (xs ++ ys) ≡ scanned rule number state line xs
  unfolding scanned
  fault_stays number state [] [] ys faulty = absurd (cc (faulty))
  fault_stays number state (b ∷ bs) [] ys faulty = absurd (cc (faulty))
  fault_stays number state line (x ∷ xs) ys faulty =
      by_fault (λ next faulty. fault_stays (number + 1) next [] xs ys faulty) (λ faulty. fault_stays number state (line ++ x ∷ []) xs ys faulty)
      (fault_at number (length line + 1) x) faulty
    where
      by_response : ((next : S) → (scanned rule (number + 1) next [] xs).verdict ≡ Faulty
          → scanned rule (number + 1) next [] (xs ++ ys) ≡ scanned rule (number + 1) next [] xs)
          → (r : ResponseOf S) → (then_rest r (λ next. scanned rule (number + 1) next [] xs)).verdict ≡ Faulty
          → then_rest r (λ next. scanned rule (number + 1) next [] (xs ++ ys)) ≡ then_rest r (λ next. scanned rule (number + 1) next [] xs)
      by_response behind (GoesOn text next) faulty = ap (with_front text) (behind next faulty)
      by_response behind (Stops text) faulty = refl
      by_response behind Fills faulty = refl

      by_ten : ((next : S) → (scanned rule (number + 1) next [] xs).verdict ≡ Faulty
          → scanned rule (number + 1) next [] (xs ++ ys) ≡ scanned rule (number + 1) next [] xs)
          → ((scanned rule number state (line ++ x ∷ []) xs).verdict ≡ Faulty
          → scanned rule number state (line ++ x ∷ []) (xs ++ ys) ≡ scanned rule number state (line ++ x ∷ []) xs)
          → (c : Bool)
          → (if c then then_rest (rule.response number state line) (λ next. scanned rule (number + 1) next [] xs) else scanned rule number state
          (line ++ x ∷ []) xs).verdict ≡ Faulty
          → (if c then then_rest (rule.response number state line) (λ next. scanned rule (number + 1) next [] (xs ++ ys)) else scanned rule number state
          (line ++ x ∷ []) (xs ++ ys))
          ≡ (if c then then_rest (rule.response number state line) (λ next. scanned rule (number + 1) next [] xs) else scanned rule number state (line ++ x ∷ []) xs)
      by_ten behind joined true faulty = by_response behind (rule.response number state line) faulty
      by_ten behind joined false faulty = joined faulty

      by_fault : ((next : S) → (scanned rule (number + 1) next [] xs).verdict ≡ Faulty
          → scanned rule (number + 1) next [] (xs ++ ys) ≡ scanned rule (number + 1) next [] xs)
          → ((scanned rule number state (line ++ x ∷ []) xs).verdict ≡ Faulty
          → scanned rule number state (line ++ x ∷ []) (xs ++ ys) ≡ scanned rule number state (line ++ x ∷ []) xs)
          → (f : Option LineFault)
          → (unless_fault rule f (if x == 10 then then_rest (rule.response number state line) (λ next. scanned rule (number + 1) next [] xs) else scanned rule number
          state (line ++ x ∷ []) xs)).verdict ≡ Faulty
          → unless_fault rule f (if x == 10 then then_rest (rule.response number state line) (λ next. scanned rule (number + 1) next [] (xs ++ ys)) else scanned rule
          number state (line ++ x ∷ []) (xs ++ ys))
          ≡ unless_fault rule f (if x == 10 then then_rest (rule.response number state line) (λ next. scanned rule (number + 1) next [] xs) else scanned rule number
          state (line ++ x ∷ []) xs)
      by_fault behind joined None faulty = by_ten behind joined (x == 10) faulty
      by_fault behind joined (Some fault) faulty = refl

  -- ---- the same of whole inputs

  -- the body of lines is due whatever follows
  pub demanded_body : (state : S) (xs ys : List ℕ) → IsFront (line_demand rule state xs).body (line_demand rule state (xs ++ ys)).body
  demanded_body state xs ys =
      let front = body_stays 1 state [] xs ys in (
        front.0,
        ap (λ (d : Demand). d.body) (demanded_scanned rule state (xs ++ ys)) ∙ front.1
            ∙ ap (λ (d : Demand). d.body ++ front.0) (sym (demanded_scanned rule state xs)),
      )

  -- a fault of lines that shows ends what is due
  pub demanded_fault : (state : S) (xs ys : List ℕ) → (line_demand rule state xs).verdict ≡ Faulty → line_demand rule state (xs ++ ys) ≡ line_demand rule state xs
  demanded_fault state xs ys faulty =
      let same = demanded_scanned rule state xs in
      demanded_scanned rule state (xs ++ ys)
      ∙ fault_stays 1 state [] xs ys (subst (λ (d : Demand). d.verdict ≡ Faulty) same faulty)
      ∙ sym same
