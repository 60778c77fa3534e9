-- Decoding from what was read.
use Rattle.std.proofs.Common.{◌≡◌, ℕ, ◌+◌, ◌-◌, ◌≤◌, List, [], ◌++◌, length, take, Ok, Err, inl, inr, refl, sym, ap, subst, ◌∙◌, append-nil, arith}
use Rattle.std.proofs.lemmas.List.{take_at, length-append}
use Rattle.record_fields.specs.declared.fault.Rule.{Rule}
use Rattle.record_fields.specs.declared.fault.Broken.{Broken}
use Rattle.cds_stamps.specs.declared.alloc_or.AllocOr.{AllocOr}
use Rattle.cds_stamps.specs.declared.alloc_or.AllocOr.TheVariants.{Fault, OutOfMemory}
use Rattle.record_fields.specs.Layouts.{Layout, done, field, next, Stands, Breaks}
use Rattle.record_fields.specs.LayoutReading.{read}
use Rattle.record_fields.specs.FieldReaders.{Reads}
use Rattle.record_fields.specs.Decoding.{fault_of, error_of, IsLeftWithin, IsWhole, Decodes}
use Rattle.record_fields.proofs.LayoutLaws.{ok_is, stands_read, read_stands, breaks_read, read_breaks, front_stands}

-- a whole front is read in front of any rest
pub whole_read : {A : Type 0} (l : Layout A) (value : A) (front rest : List ℕ) → IsWhole l value front → read l (front ++ rest) ≡ Ok (value, rest)
whole_read l value front rest h =
    let f = front_stands l front value [] h in
    let same : front ≡ f.0 = f.1 ∙ append-nil f.0 in
    ap (λ (y : List ℕ). read l (y ++ rest)) same ∙ stands_read l (f.0 ++ rest) value rest (f.2 rest)

-- no more octets are left than there were
pub left_within : {A : Type 0} (l : Layout A) (octets : List ℕ) (rule : Rule) (left : ℕ) → Breaks l octets rule left → left ≤ length octets
left_within (done a) octets rule left h = absurd h
left_within (field size says r) octets rule left h = elim h [ inl s ↦ omega (arith, s.2) | inr w ↦ omega (arith, w.5) ]
left_within (next first second) octets rule left h =
    elim h [
      | inl f ↦ left_within first octets rule left f
      | inr w ↦ (let behind = left_within (second w.0) w.1 rule left w.3 in
          let front = front_stands first octets w.0 w.1 w.2 in
          omega (arith, behind, ap length front.1, length-append front.0 w.1))
    ]

-- what was read is what the octets decode to
pub decoded : {A : Type 0} (l : Layout A) (octets : List ℕ) (value : A) (rest : List ℕ) (n : ℕ) → read l octets ≡ Ok (value, rest)
    → n ≡ length octets - length rest → Decodes l octets (Ok (value, n))
decoded l octets value rest n e n_is =
    let f = front_stands l octets value rest (read_stands l octets value rest e) in
    let len : n ≡ length f.0 = omega (arith, ap length f.1, length-append f.0 rest) in
    let front : take n octets ≡ f.0 = ap (λ (k : ℕ). take k octets) len ∙ ap (take (length f.0)) f.1 ∙ take_at f.0 rest (length f.0) refl in
    record {
      within = omega arith;
      whole = subst (λ (y : List ℕ). Stands l y value []) (append-nil f.0 ∙ sym front) (f.2 []);
      only = λ other own more h is.
          let again : Ok (other, more) ≡ Ok (value, rest) = sym (whole_read l other own more h) ∙ ap (read l) (sym is) ∙ e in
          let same : (other, more) ≡ (value, rest) = ok_is (other, more) (value, rest) again in
          let rest_is : more ≡ rest = ap (λ p. p.1) same in
          let count : length own ≡ n = omega (arith, ap length is, length-append own more, ap length rest_is) in
          (λ i. Ok (ap (λ p. p.0) same i, count i));
      fault = tt;
      each_fault = λ other h.
          let fails : read l octets ≡ Err (record { rule = other.rule; left = h.left }) = breaks_read l octets other.rule h.left h.breaks in
          absurd cc;
    }

-- a rule that was broken is the fault of the octets
pub not_decoded : {A : Type 0} (l : Layout A) (octets : List ℕ) (b : Broken) → read l octets ≡ Err b
    → Decodes l octets (Err (Fault (fault_of (length octets) b)))
not_decoded l octets b e =
    let breaks = read_breaks l octets b e in
    let within = left_within l octets b.rule b.left breaks in
    record {
      within = tt;
      whole = tt;
      only = λ other own more h is. absurd (let again : Ok (other, more) ≡ Err b = sym (whole_read l other own more h) ∙ ap (read l) (sym is) ∙ e in cc);
      fault = record { left = b.left; breaks = breaks; at = omega arith };
      each_fault = λ other h.
          let fails : Err (record { rule = other.rule; left = h.left }) ≡ Err b = sym (breaks_read l octets other.rule h.left h.breaks) ∙ e in
          let same : record { rule = other.rule; left = h.left } ≡ b = cc in
          let rule_is : other.rule ≡ b.rule = ap (λ (c : Broken). c.rule) same in
          let left_is : h.left ≡ b.left = ap (λ (c : Broken). c.left) same in
          let place_is : other.place ≡ length octets - b.left + 1 = omega (arith, h.at) in
          (λ i. Err (record { rule = rule_is i; place = place_is i }));
    }

pub no_memory : {A : Type 0} (l : Layout A) (octets : List ℕ) → Decodes {A = A} l octets (Err OutOfMemory)
no_memory l octets = record { within = tt; whole = tt; only = λ other own more h is. tt; fault = tt; each_fault = λ fault h. tt }

-- no more octets are left than there were
pub rest_within : {A : Type 0} (l : Layout A) (octets : List ℕ) (value : A) (rest : List ℕ) → read l octets ≡ Ok (value, rest) → length rest ≤ length octets
rest_within l octets value rest e =
    let f = front_stands l octets value rest (read_stands l octets value rest e) in
    omega (arith, ap length f.1, length-append f.0 rest)

-- an error leaves no more octets than there were
pub error_within : {A : Type 0} (l : Layout A) (octets z : List ℕ) (e : AllocOr Broken) → Reads (λ (x : A). x) l octets z (Err e)
    → IsLeftWithin (length octets) e
error_within l octets z (Fault b) h = left_within l octets b.rule b.left (read_breaks l octets b h)
error_within l octets z OutOfMemory h = tt

-- a reader's error is what the octets decode to
pub error_decodes : {A : Type 0} (l : Layout A) (octets z : List ℕ) (e : AllocOr Broken) → Reads (λ (x : A). x) l octets z (Err e)
    → Decodes l octets (Err (error_of (length octets) e))
error_decodes l octets z (Fault b) h = not_decoded l octets b h
error_decodes l octets z OutOfMemory h = no_memory l octets
