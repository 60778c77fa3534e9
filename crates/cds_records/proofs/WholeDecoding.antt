-- Octets that are one image of either format, or none, and the same image in format 2.
use Rattle.std.proofs.Common.{◌≡◌, ℕ, zero, suc, ◌<◌, ◌≤◌, List, [], ◌∷◌, length, Some, None, Result, Ok, Err, inl, inr, refl, sym, ap, ◌∙◌, append-nil, arith}
use Rattle.std.specs.Prelude.{◌+◌, if◌then◌else◌}
use Rattle.std.specs.List.{All}
use Rattle.std.specs.Result.{result_map_both}
use Rattle.cds_stamps.specs.declared.alloc_or.AllocOr.{AllocOr}
use Rattle.cds_stamps.specs.declared.alloc_or.AllocOr.TheVariants.{Fault, OutOfMemory}
use Rattle.cds_stamps.specs.Outcomes.{Answers}
use Rattle.cds_stamps.proofs.Masks.{same_place, other_place}
use Rattle.record_fields.specs.declared.fault.Rule.TheVariants.{Short, BadTag, Trailing}
use Rattle.record_fields.specs.declared.fault.RecordFault.{RecordFault}
use Rattle.record_fields.specs.declared.fault.Broken.{Broken}
use Rattle.record_fields.specs.LayoutReading.{read}
use Rattle.record_fields.specs.Layouts.{Layout}
use Rattle.record_fields.specs.Fields.{outside, octet}
use Rattle.record_fields.specs.Decoding.{Decodes, IsFault, IsWhole, decode_by, with_memory}
use Rattle.record_fields.proofs.OneDecoding.{of_read, answers_decoding, decoding_decodes}
use Rattle.record_fields.proofs.LayoutLaws.{read_stands, stands_read}
use Rattle.cds_messages.specs.declared.image.Image.{Image}
use Rattle.cds_records.specs.Images.{image_behind, image_in, image, image_1, either_image}
use Rattle.cds_records.specs.RecordMemory.{image_head, WantsForImage}
use Rattle.cds_records.specs.RecordOctets.{image_octets}
use Rattle.cds_records.specs.RecordRanges.{FitsImage}
use Rattle.cds_records.specs.Migration.{whole_of, whole_image, migrated_image}
use Rattle.cds_records.proofs.SpellingRecords.{spell_image}
use Rattle.cds_records.proofs.Valid.{image_valid}
use Rattle.cds_records.proofs.WholeImages.{the_image_whole}

-- ---- answers

module _ {A : Type 0} (l : Layout A) (octets : List ℕ) where
  -- an error is handed on
  pub error_is : (e : AllocOr RecordFault) → Decodes l octets (Err e) → Answers {T = A} (Err e) (whole_of octets (decode_by l octets))
  error_is (Fault f) decodes = ap (whole_of octets) (answers_decoding l octets (Err (Fault f)) decodes)
  error_is OutOfMemory decodes = tt

  -- octets that follow are a fault
  pub trailing_is : (value : A) (size : ℕ) → Decodes l octets (Ok (value, size)) → size < length octets
      → whole_of octets (decode_by l octets) ≡ Err (record { rule = Trailing; place = size + 1 })
  trailing_is value size decodes more =
      ap (whole_of octets) (answers_decoding l octets (Ok (value, size)) decodes)
      ∙ ap (λ b. if b then Ok value else Err (record { rule = Trailing; place = size + 1 })) (other_place size (length octets) (λ e. absurd (omega arith)))

  -- with none they are the whole
  pub whole_is : (value : A) (size : ℕ) → Decodes l octets (Ok (value, size)) → length octets ≤ size → whole_of octets (decode_by l octets) ≡ Ok value
  whole_is value size decodes all =
      let within : size ≤ length octets = decodes.within in
      ap (whole_of octets) (answers_decoding l octets (Ok (value, size)) decodes)
      ∙ ap (λ b. if b then Ok value else Err (record { rule = Trailing; place = size + 1 })) (same_place size (length octets) (omega arith))

  -- the first fault is what they decode to
  pub fault_is : (f : RecordFault) → IsFault l octets f → decode_by l octets ≡ Err f
  fault_is f is = by (decode_by l octets) ((decoding_decodes l octets).each_fault f is)
    where
      by : (d : Result (A × ℕ) RecordFault) → Answers (with_memory d) (Err f) → d ≡ Err f
      by (Ok y) h = absurd (cc)
      by (Err g) h = sym h

-- octets that are the whole of a value are decoded as it
pub whole_decoded : {A : Type 0} (l : Layout A) (v : A) (octets : List ℕ) → IsWhole l v octets → whole_of octets (decode_by l octets) ≡ Ok v
whole_decoded {A} l v octets whole =
    ap (whole_of octets) (by (decode_by l octets) ((decoding_decodes l octets).only v octets [] whole (sym (append-nil octets))))
    ∙ ap (λ b. if b then Ok v else Err (record { rule = Trailing; place = length octets + 1 })) (same_place (length octets) (length octets) refl)
  where
    by : (d : Result (A × ℕ) RecordFault) → Answers (with_memory d) (Ok (v, length octets)) → d ≡ Ok (v, length octets)
    by (Ok y) h = sym h
    by (Err f) h = absurd (cc)

-- ---- formats

module _ (format : ℕ) (known : outside BadTag 1 2 format ≡ None) (i : Image) (octets : List ℕ) where
  -- an image of one format is one of either
  in_either : IsWhole (image_in format format) i octets → IsWhole either_image i octets
  unfolding either_image image_in octet
  in_either h = let same : format ≡ h.0 = grind (arith, h.2.4) in (h.0, h.1, (h.2.0, h.2.1, h.2.2, h.2.3, ap (outside BadTag 1 2) (sym same) ∙ known), h.3)

-- an image of format 2 is one of either
pub image_in_either : (i : Image) (octets : List ℕ) → IsWhole image i octets → IsWhole either_image i octets
unfolding image
image_in_either i octets = in_either 2 refl i octets

-- so is one of format 1
pub image_1_in_either : (i : Image) (octets : List ℕ) → IsWhole image_1 i octets → IsWhole either_image i octets
unfolding image_1
image_1_in_either i octets = in_either 1 refl i octets

-- a first octet that is no format
unknown : (n : ℕ) → (n ≡ 1 → ⊥) → (n ≡ 2 → ⊥) → outside BadTag 1 2 n ≡ Some BadTag
unknown zero a b = refl
unknown (suc zero) a b = absurd (a refl)
unknown (suc (suc zero)) a b = absurd (b refl)
unknown (suc (suc (suc n))) a b = grind arith

pub format_unknown : (n : ℕ) (rest : List ℕ) → (n ≡ 1 → ⊥) → (n ≡ 2 → ⊥) → decode_by either_image (n ∷ rest) ≡ Err (record { rule = BadTag; place = 1 })
unfolding either_image image_in octet
format_unknown n rest a b = fault_is either_image (n ∷ rest) (record { rule = BadTag; place = 1 }) (record {
  left = length (n ∷ rest);
  breaks = inl (inr (n ∷ [], rest, refl, refl, unknown n a b, refl));
  at = omega arith;
})

-- no octet
pub format_missing : decode_by either_image [] ≡ Err (record { rule = Short; place = 1 })
unfolding either_image image_in octet
format_missing = fault_is either_image [] (record { rule = Short; place = 1 }) (record {
  left = 0;
  breaks = inl (inl (omega arith, refl, refl));
  at = refl;
})

-- after a first octet 1 an image is of format 1
pub format_former : (rest : List ℕ) → decode_by either_image (1 ∷ rest) ≡ decode_by image_1 (1 ∷ rest)
unfolding either_image image_1 image_in octet
format_former rest = refl

-- after 2 it is of format 2
pub format_present : (rest : List ℕ) → decode_by either_image (2 ∷ rest) ≡ decode_by image (2 ∷ rest)
unfolding either_image image image_in octet
format_present rest = refl

-- octets of an image begin with a whole head
pub image_has_head : (octets : List ℕ) (i : Image) → whole_image octets ≡ Ok i → WantsForImage 1 2 octets
unfolding either_image image_in image_behind image_head
image_has_head octets i is = by (read (image_in 1 2) octets) refl is
  where
    by : (r : Result (Image × List ℕ) Broken) → read (image_in 1 2) octets ≡ r → whole_of octets (of_read (length octets) r) ≡ Ok i
        → WantsForImage 1 2 octets
    by (Err b) e h = absurd (cc)
    by (Ok (j, rest)) e h =
        let s = read_stands (image_in 1 2) octets j rest e in
        let house = s.3.3 in
        let node = house.3 in
        let floor = node.3 in
        let count = floor.3 in (
          count.0,
          count.1,
          (
            s.0,
            s.1,
            s.2,
            (
              s.3.0,
              s.3.1,
              s.3.2,
              (
                house.0,
                house.1,
                house.2,
                (
                  node.0,
                  node.1,
                  node.2,
                  (
                    floor.0,
                    floor.1,
                    floor.2,
                    (count.0, count.1, count.2, (refl, refl)),
                  ),
                ),
              ),
            ),
          ),
        )

-- ---- migration

-- the image of these octets is written in format 2
pub image_migrated : (i : Image) (octets : List ℕ) → IsWhole either_image i octets → migrated_image octets ≡ Ok (image_octets i)
image_migrated i octets whole = ap (result_map_both image_octets (λ fault. fault)) (whole_decoded either_image i octets whole)

-- octets of an image of format 2 that fits stay as they are
pub image_stays : (i : Image) (octets : List ℕ) → FitsImage i → All (λ n. n < 256) octets → All (λ n. n < 256) (image_octets i) → IsWhole image i octets
    → migrated_image octets ≡ Ok octets
unfolding image
image_stays i octets fits bytes own_bytes whole =
    image_migrated i octets (image_in_either i octets whole)
    ∙ ap Ok
    (spell_image.same i (image_octets i) octets own_bytes bytes
    (the_image_whole i (image_valid 2 2 octets i [] (stands_read (image_in 2 2) octets i [] whole)) fits) whole)
