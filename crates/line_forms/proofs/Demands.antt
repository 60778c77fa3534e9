-- The demand of an input, line by line.
use Rattle.std.proofs.Common.{◌≡◌, ◌≢◌, ℕ, ◌+◌, false, List, [], ◌∷◌, ◌++◌, length, refl, sym, ◌∙◌, ap, subst, arith, append_assoc, append-nil, length-append}
use Rattle.std.specs.Prelude.{None, Some, ◌==◌}
use Rattle.std.proofs.lemmas.Bool.Decides.{nat_tests}
use Rattle.cds_base.specs.declared.scan.LineFault.{LineFault}
use Rattle.cds_base.specs.LineFaults.{fault_at, AreClean, IsLine, ShowsFault}
use Rattle.line_forms.specs.Demand.{LineRule, at_end, then_rest, faulty_with}
use Rattle.line_forms.proofs.Scanning.{scanned}

not_ten : (b : ℕ) → b ≢ 10 → (b == 10) ≡ false
not_ten b other = grind (arith, nat_tests)

module _ {S : Type 0} (rule : LineRule S) where
  -- clean octets join the line
  pub demand_clean : (number : ℕ) (state : S) (line p r : List ℕ) → AreClean number (length line + 1) p
      → scanned rule number state line (p ++ r) ≡ scanned rule number state (line ++ p) r
  unfolding scanned
  demand_clean number state line [] r clean = ap (λ (l : List ℕ). scanned rule number state l r) (sym (append-nil line))
  demand_clean number state line (b ∷ bs) r clean =
      let P : ℕ → Type 0 = λ place. AreClean number place bs in
      let size : length line + 1 + 1 ≡ length (line ++ b ∷ []) + 1 = omega (arith, length-append line (b ∷ [])) in
      let sound : fault_at number (length line + 1) b ≡ None = clean.1 in
      let inside : (b == 10) ≡ false = not_ten b clean.0 in
      let joins : scanned rule number state line (b ∷ (bs ++ r)) ≡ scanned rule number state (line ++ b ∷ []) (bs ++ r) = rw (sound, inside) refl in
      joins
      ∙ demand_clean number state (line ++ b ∷ []) bs r (subst P size clean.2)
      ∙ ap (λ (l : List ℕ). scanned rule number state l r) (append_assoc line (b ∷ []) bs)

  -- a line end hands the line over
  demand_ends : (number : ℕ) (state : S) (line r : List ℕ) → fault_at number (length line + 1) 10 ≡ None
      → scanned rule number state line (10 ∷ r) ≡ then_rest (rule.response number state line) (λ next. scanned rule (number + 1) next [] r)
  unfolding scanned
  demand_ends number state line r none = rw none refl

  -- an octet at fault ends the demand
  demand_breaks : (number : ℕ) (state : S) (line : List ℕ) (b : ℕ) (bs : List ℕ) (fault : LineFault) → fault_at number (length line + 1) b ≡ Some fault
      → scanned rule number state line (b ∷ bs) ≡ faulty_with (rule.fault_text fault)
  unfolding scanned
  demand_breaks number state line b bs fault is = rw is refl

  -- a whole line in front of what follows it
  pub demand_line : (number : ℕ) (state : S) (line r : List ℕ) → IsLine number line
      → scanned rule number state [] ((line ++ 10 ∷ []) ++ r) ≡ then_rest (rule.response number state line) (λ next. scanned rule (number + 1) next [] r)
  demand_line number state line r is =
      ap (scanned rule number state []) (append_assoc line (10 ∷ []) r) ∙ demand_clean number state [] line (10 ∷ r) is.0 ∙ demand_ends number state line r is.1

  -- a fault of a line, whatever follows
  pub demand_broken : (number : ℕ) (state : S) (fault : LineFault) (octets : List ℕ) → ShowsFault number fault octets → (r : List ℕ)
      → scanned rule number state [] (octets ++ r) ≡ faulty_with (rule.fault_text fault)
  demand_broken number state fault octets shows r =
      ap (λ (l : List ℕ). scanned rule number state [] (l ++ r)) shows.split
      ∙ ap (scanned rule number state []) (append_assoc shows.front (shows.octet ∷ shows.rest) r)
      ∙ demand_clean number state [] shows.front (shows.octet ∷ (shows.rest ++ r)) shows.clean
      ∙ demand_breaks number state shows.front shows.octet (shows.rest ++ r) fault shows.shown

  nothing_more : (number : ℕ) (state : S) (line : List ℕ) → scanned rule number state line [] ≡ at_end rule number state line
  unfolding scanned
  nothing_more number state line = refl

  -- a part of a line, and nothing after it
  pub demand_part : (number : ℕ) (state : S) (held : List ℕ) → AreClean number 1 held → scanned rule number state [] held ≡ at_end rule number state held
  demand_part number state held clean =
      ap (scanned rule number state []) (sym (append-nil held)) ∙ demand_clean number state [] held [] clean ∙ nothing_more number state held
