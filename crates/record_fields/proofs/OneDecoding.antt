-- Decoding as a function is what octets decode to, and so is each answer.
use Rattle.std.proofs.Common.{◌≡◌, ℕ, ◌-◌, List, length, take, drop, Ok, Err, refl, sym, subst}
use Rattle.std.specs.Prelude.{Result}
use Rattle.std.specs.Result.{result_map_both}
use Rattle.std.proofs.lemmas.List.{take-append-drop, length-take-le}
use Rattle.cds_stamps.specs.declared.alloc_or.AllocOr.{AllocOr}
use Rattle.cds_stamps.specs.Outcomes.{Answers}
use Rattle.record_fields.specs.declared.fault.Broken.{Broken}
use Rattle.record_fields.specs.declared.fault.RecordFault.{RecordFault}
use Rattle.record_fields.specs.Layouts.{Layout}
use Rattle.record_fields.specs.LayoutReading.{read}
use Rattle.record_fields.specs.Decoding.{fault_of, Decodes, decode_by, with_memory}
use Rattle.record_fields.proofs.DecodingLaws.{decoded, not_decoded}

-- what a reading comes to
abbrev pub of_read : {A : Type 0} → ℕ → Result (A × List ℕ) Broken → Result (A × ℕ) RecordFault
of_read len = result_map_both (λ r. (r.0, len - length r.1)) (fault_of len)

-- what is answered is what the function says
pub decoding_decodes : {A : Type 0} (l : Layout A) (octets : List ℕ) → Decodes l octets (with_memory (decode_by l octets))
decoding_decodes {A} l octets = go (read l octets) refl
  where
    go : (r : Result (A × List ℕ) Broken) → read l octets ≡ r → Decodes l octets (with_memory (of_read (length octets) r))
    go (Ok (value, rest)) is = decoded l octets value rest (length octets - length rest) is refl
    go (Err b) is = not_decoded l octets b is

-- each answer is what is decoded, or out of memory
pub answers_decoding : {A : Type 0} (l : Layout A) (octets : List ℕ) (r : Result (A × ℕ) (AllocOr RecordFault)) → Decodes l octets r
    → Answers r (decode_by l octets)
answers_decoding {A} l octets r h = go (decode_by l octets) (decoding_decodes l octets)
  where
    go : (d : Result (A × ℕ) RecordFault) → Decodes l octets (with_memory d) → Answers r d
    go (Ok (value, n)) is =
        let size : length (take n octets) ≡ n = length-take-le n octets is.within in
        subst (λ k. Answers r (Ok (value, k))) size (h.only value (take n octets) (drop n octets) is.whole (sym (take-append-drop n octets)))
    go (Err f) is = h.each_fault f is.fault
