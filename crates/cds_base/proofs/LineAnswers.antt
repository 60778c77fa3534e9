-- What the octets held say of the answer about the next line.
use Rattle.std.proofs.Common.{◌≡◌, ◌≢◌, ◌⊎◌, inl, inr, ℕ, ◌+◌, ◌<◌, List, length, refl, ◌∙◌, ap, arith}
use Rattle.std.specs.Prelude.{Some, Err, Result}
use Rattle.std.specs.declared.option.Option.{Option}
use Rattle.std.proofs.lemmas.Bool.Decides.{nat_tests}
use Rattle.std.specs.Io.KnownBytes.{IsAtEnd}
use Rattle.cds_base.specs.declared.scan.LineFault.{LineFault}
use Rattle.cds_base.specs.declared.scan.LineFault.TheVariants.{LineTooLong, NotAscii, NoLineEnd, TooManyLines, ReadFault}
use Rattle.cds_base.specs.LineFaults.{fault_at, AreClean, ShowsFault}
use Rattle.cds_base.specs.Lines.{HasFault, HasLineCause}

-- no octet shows a failed read, nor a missing line end
shows_no_read : (number place octet : ℕ) → fault_at number place octet ≢ Some ReadFault
unfolding fault_at
shows_no_read number place octet is = grind (arith, nat_tests)

shows_no_end : (number place octet n k : ℕ) → fault_at number place octet ≢ Some (NoLineEnd n k)
unfolding fault_at
shows_no_end number place octet n k is = grind (arith, nat_tests)

module _ (number : ℕ) (octets : List ℕ) where
  -- a fault that the octets show is one of the line
  pub has_fault : (left : Option (List ℕ)) (fault : LineFault) → ShowsFault number fault octets → HasFault number octets left fault
  has_fault left (LineTooLong n k) shown = shown
  has_fault left (NotAscii n k) shown = shown
  has_fault left (NoLineEnd n k) shown = absurd (shows_no_end _ _ _ n k shown.shown)
  has_fault left (TooManyLines n k) shown = shown
  has_fault left ReadFault shown = absurd (shows_no_read _ _ _ shown.shown)

  -- no read failed where the octets show the fault
  pub fault_cause : (before now : ℕ) (fault : LineFault) → ShowsFault number fault octets → now ≡ before → HasLineCause {T = Option ℕ} before now (Err fault)
  fault_cause before now (LineTooLong n k) shown same = same
  fault_cause before now (NotAscii n k) shown same = same
  fault_cause before now (NoLineEnd n k) shown same = same
  fault_cause before now (TooManyLines n k) shown same = same
  fault_cause before now ReadFault shown same = absurd (shows_no_read _ _ _ shown.shown)

  -- a fault that the octets show is no failed read
  pub no_read_fault : (fault : LineFault) → ShowsFault number fault octets → (let failed : Result (Option ℕ) LineFault = Err ReadFault in Err fault ≢ failed)
  no_read_fault fault shown is =
      let same : fault ≡ ReadFault = cc in
      shows_no_read _ _ _ (shown.shown ∙ ap (λ (f : LineFault). Some f) same)

  -- a fault that is no failed read: the octets show it, or the input ends within the line
  pub fault_shown : (left : Option (List ℕ)) (fault : LineFault) → HasFault number octets left fault → fault ≢ ReadFault
      → ShowsFault number fault octets ⊎ (IsAtEnd left × AreClean number 1 octets × (0 < length octets) × (fault ≡ NoLineEnd number (length octets + 1)))
  fault_shown left (LineTooLong n k) has some = inl has
  fault_shown left (NotAscii n k) has some = inl has
  fault_shown left (NoLineEnd n k) has some =
      let number_is = has.3 in
      let place_is = has.4 in
      inr (has.0, has.1, has.2, cc (number_is, place_is))
  fault_shown left (TooManyLines n k) has some = inl has
  fault_shown left ReadFault has some = absurd (some refl)
