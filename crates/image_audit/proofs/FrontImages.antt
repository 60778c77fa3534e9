-- The image at the front of octets, by their first octet.
use Rattle.std.proofs.Common.{◌≡◌, ℕ, zero, suc, Bool, true, false, nat_eq, List, [], ◌∷◌, ◌++◌, length, take, drop, Some, None, Result, Ok, Err, inl, inr, refl, sym, ap, subst, ◌∙◌, arith}
use Rattle.std.proofs.Common.{append_assoc, take-append-drop}
use Rattle.std.specs.List.{starts_with}
use Rattle.std.proofs.lemmas.Bool.{eqb-true}
use Rattle.cds_stamps.specs.declared.alloc_or.AllocOr.{AllocOr}
use Rattle.cds_stamps.specs.declared.alloc_or.AllocOr.TheVariants.{Fault, OutOfMemory}
use Rattle.cds_stamps.specs.Outcomes.{Answers}
use Rattle.record_fields.specs.declared.fault.Rule.TheVariants.{Short, BadTag}
use Rattle.record_fields.specs.declared.fault.RecordFault.{RecordFault}
use Rattle.record_fields.specs.Fields.{outside, octet}
use Rattle.record_fields.specs.Decoding.{Decodes, decode_by, with_memory}
use Rattle.record_fields.specs.Layouts.{Stands}
use Rattle.record_fields.specs.MemoryFaults.{IfWant}
use Rattle.record_fields.proofs.LayoutLaws.{front_stands}
use Rattle.record_fields.proofs.OneDecoding.{answers_decoding, decoding_decodes}
use Rattle.cds_messages.specs.declared.image.Image.{Image}
use Rattle.cds_records.specs.Images.{image_in, image, image_1, either_image}
use Rattle.cds_records.specs.RecordMemory.{image_head, WantsForImage}
use Rattle.cds_records.proofs.WholeDecoding.{fault_is, format_former, format_present, format_unknown, format_missing, whole_decoded, image_has_head}
use Rattle.image_audit.proofs.Looked.{both_pass}

-- after no octet there is no image of format 2
present_missing : decode_by image [] ≡ Err (record { rule = Short; place = 1 })
unfolding image image_in octet
present_missing = fault_is image [] (record { rule = Short; place = 1 }) (record {
  left = 0;
  breaks = inl (inl (omega arith, refl, refl));
  at = refl;
})

-- nor after a first octet that is not 2
present_unknown : (n : ℕ) (rest : List ℕ) → outside BadTag 2 2 n ≡ Some BadTag → decode_by image (n ∷ rest) ≡ Err (record { rule = BadTag; place = 1 })
unfolding image image_in octet
present_unknown n rest is = fault_is image (n ∷ rest) (record { rule = BadTag; place = 1 }) (record {
  left = length (n ∷ rest);
  breaks = inl (inr (n ∷ [], rest, refl, refl, is, refl));
  at = omega arith;
})

-- the octets begin with 1
abbrev is_former : List ℕ → Bool
is_former octets = starts_with nat_eq octets (1 ∷ [])

-- what does not is read by format 2
read_by_present : (octets : List ℕ) → is_former octets ≡ false → decode_by either_image octets ≡ decode_by image octets
read_by_present [] other = format_missing ∙ sym present_missing
read_by_present (zero ∷ rest) other = format_unknown 0 rest (λ e. absurd (omega arith)) (λ e. absurd (omega arith)) ∙ sym (present_unknown 0 rest refl)
read_by_present (suc zero ∷ rest) other = absurd (cc (other))
read_by_present (suc (suc zero) ∷ rest) other = format_present rest
read_by_present (suc (suc (suc n)) ∷ rest) other =
    format_unknown (suc (suc (suc n))) rest (λ e. absurd (omega arith)) (λ e. absurd (omega arith))
    ∙ sym (present_unknown (suc (suc (suc n))) rest (outside_two n))
  where
    outside_two : (n : ℕ) → outside BadTag 2 2 (suc (suc (suc n))) ≡ Some BadTag
    outside_two n = grind arith

first_is : (m : ℕ) (rest : List ℕ) → is_former (m ∷ rest) ≡ true → m ≡ 1
first_is m rest former = sym (eqb-true 1 m (both_pass (nat_eq 1 m) true former).0)

-- and what does by format 1
read_by_former : (octets : List ℕ) → is_former octets ≡ true → decode_by either_image octets ≡ decode_by image_1 octets
read_by_former [] former = absurd (cc (former))
read_by_former (m ∷ rest) former =
    let is : m ∷ rest ≡ 1 ∷ rest = ap (λ m. m ∷ rest) (first_is m rest former) in
    ap (decode_by either_image) is ∙ format_former rest ∙ ap (decode_by image_1) (sym is)

-- after a first octet 1 an image of format 1 was read
pub front_former : (octets : List ℕ) (r : Result (Image × ℕ) (AllocOr RecordFault)) → is_former octets ≡ true → Decodes image_1 octets r
    → Answers r (decode_by either_image octets)
front_former octets r former decodes = subst (Answers r) (sym (read_by_former octets former)) (answers_decoding image_1 octets r decodes)

-- and else one of format 2
pub front_present : (octets : List ℕ) (r : Result (Image × ℕ) (AllocOr RecordFault)) → is_former octets ≡ false → Decodes image octets r
    → Answers r (decode_by either_image octets)
front_present octets r other decodes = subst (Answers r) (sym (read_by_present octets other)) (answers_decoding image octets r decodes)

-- ---- memory

-- a whole head of one format is one of either
wider : (format : ℕ) → outside BadTag 1 2 format ≡ None → (octets : List ℕ) → WantsForImage format format octets → WantsForImage 1 2 octets
unfolding image_head octet
wider format known octets w =
    let h = w.2 in
    let same : format ≡ h.0 = grind (arith, h.2.4) in
    (w.0, w.1, (h.0, h.1, (h.2.0, h.2.1, h.2.2, h.2.3, ap (outside BadTag 1 2) (sym same) ∙ known), h.3))

-- what holds where memory is wanted may be known anyway
pub wants : {T E : Type 0} {P : Type 0} (r : Result T (AllocOr E)) → P → IfWant P r
wants (Ok x) p = tt
wants (Err (Fault f)) p = tt
wants (Err OutOfMemory) p = p

-- of two formats each wants memory after a whole head of either alone
pub wants_former : {T E : Type 0} (octets : List ℕ) (r : Result T (AllocOr E)) → IfWant (WantsForImage 1 1 octets) r → IfWant (WantsForImage 1 2 octets) r
wants_former octets (Ok x) w = tt
wants_former octets (Err (Fault f)) w = tt
wants_former octets (Err OutOfMemory) w = wider 1 refl octets w

pub wants_present : {T E : Type 0} (octets : List ℕ) (r : Result T (AllocOr E)) → IfWant (WantsForImage 2 2 octets) r → IfWant (WantsForImage 1 2 octets) r
wants_present octets (Ok x) w = tt
wants_present octets (Err (Fault f)) w = tt
wants_present octets (Err OutOfMemory) w = wider 2 refl octets w

-- octets that begin with an image begin with a whole head
pub has_head : (octets : List ℕ) (i : Image) (n : ℕ) → decode_by either_image octets ≡ Ok (i, n) → WantsForImage 1 2 octets
has_head octets i n is =
    let decodes : Decodes either_image octets (Ok (i, n)) =
    subst (λ d. Decodes either_image octets (with_memory d)) is (decoding_decodes either_image octets) in
    let head = image_has_head (take n octets) i (whole_decoded either_image i (take n octets) decodes.whole) in
    let front = front_stands (image_head 1 2) (take n octets) head.0 head.1 head.2 in
    let more : front.0 ++ (head.1 ++ drop n octets) ≡ octets =
    sym (append_assoc front.0 head.1 (drop n octets)) ∙ ap (λ f. f ++ drop n octets) (sym front.1) ∙ take-append-drop n octets in
    (head.0, head.1 ++ drop n octets, subst (λ o. Stands (image_head 1 2) o head.0 (head.1 ++ drop n octets)) more (front.2 (head.1 ++ drop n octets)))
