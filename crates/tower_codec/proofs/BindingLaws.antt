-- What is read of a string binding is a form of it, and each form is read.
use Rattle.std.proofs.Common.{◌≡◌, ℕ, zero, suc, ◌<◌, ◌^◌, Bool, true, false, cond, not, eqb, ◌==◌, List, [], ◌∷◌, ◌++◌, length, get_or, drop, All}
use Rattle.std.proofs.Common.{Option, Some, None, Result, Ok, Err, IfOk, inl, inr, refl, sym, ap, subst, ◌∙◌, append_assoc, lit<, arith}
use Rattle.std.specs.Option.{option_map, ok_or}
use Rattle.std.specs.Char.{is_ascii_digit}
use Rattle.std.specs.Str.{bytes_eq}
use Rattle.std.specs.Fmt.{decimal}
use Rattle.std.proofs.lemmas.Bool.{eqb-true, ne_eqb, cases_eq, cases_Bool, and_parts, and_from}
use Rattle.std.proofs.lemmas.List.{append-nil, drop_at, nil_from_length}
use Rattle.std.proofs.lemmas.Slice.Eq.{bytes_eq-Decides}
use Rattle.uuid.specs.Parts.{zero_bytes, is_nil_bytes}
use Rattle.uuid.specs.Text.{parsed_hyphenated, hyphenated_text, lower}
use Rattle.uuid.proofs.RoundTrips.{parses_hyphenated_text}
use Rattle.tower_codec.specs.declared.binding.StringBinding.{StringBinding}
use Rattle.tower_codec.specs.declared.fault.BindingFault.{BindingFault}
use Rattle.tower_codec.specs.declared.fault.BindingFault.TheVariants.{BadObject, BadProtseq, BadAddress, BadEndpoint}
use Rattle.tower_codec.specs.declared.rpc.Protseq.{Protseq}
use Rattle.tower_codec.specs.declared.rpc.Protseq.TheVariants.{Tcp, Udp}
use Rattle.tower_codec.specs.ReadingSteps.{◌>>=◌, Gives}
use Rattle.tower_codec.specs.Binding.{protseq_name, address_text, object_text, endpoint_text, binding_text, IsObjectPart, IsEndpointPart, FitsBinding}
use Rattle.tower_codec.specs.Binding.{IsUuid, IsBinding}
use Rattle.tower_codec.specs.BindingReading.{cut_at_mark, number_of, object_of, object_at, protseq_named, protseq_at, parts_of, endpoint_parts, octet_at}
use Rattle.tower_codec.specs.BindingReading.{address_of, port_before, port_of, binding_of}
use Rattle.tower_codec.proofs.StepLaws.{ok_is, bind_ok, ok_or_ok, pair_ok}
use Rattle.tower_codec.proofs.Cuts.{lacks, lacks-append, cut_again, cut_none, cut_found}
use Rattle.tower_codec.proofs.Numbers.{number_again, number_found, decimal_lacks}
use Rattle.tower_codec.proofs.UuidTexts.{uuid_lacks}

abbrev Reading : Type 0 → Type 0
Reading A = Result A BindingFault

-- ---- Objects.

-- The object part in front of the rest.
record ObjectStands (text object rest : List ℕ) : Type 0 where
  part : List ℕ
  is : IsObjectPart part object
  front : text ≡ part ++ rest

object_stands : (text : List ℕ) (cut_is : Option (List ℕ × List ℕ)) (y : List ℕ × List ℕ) → cut_at_mark 64 text ≡ cut_is → object_of text cut_is ≡ Ok y
    → ObjectStands text y.0 y.1
object_stands text None y e h =
    subst (λ (z : List ℕ × List ℕ). ObjectStands text z.0 z.1) (ok_is (zero_bytes, text) y h)
    (record { part = []; is = inl (refl, refl); front = refl })
object_stands text (Some p) y e h =
    let found = pair_ok (parsed_hyphenated p.0) p.1 BadObject y h in
    record {
      part = p.0 ++ 64 ∷ [];
      is = inr (p.0, refl, found.0);
      front = cut_found 64 text p e ∙ ap (λ (x : List ℕ). p.0 ++ 64 ∷ x) found.1 ∙ sym (append_assoc p.0 (64 ∷ []) y.1);
    }

object_found : (text : List ℕ) (y : List ℕ × List ℕ) → object_at text ≡ Ok y → ObjectStands text y.0 y.1
unfolding object_at
object_found text y h = object_stands text (cut_at_mark 64 text) y refl h

object_again : (part object rest : List ℕ) → IsObjectPart part object → lacks 64 rest ≡ true → object_at (part ++ rest) ≡ Ok (object, rest)
unfolding object_at
object_again part object rest (inl nil) lack =
    let none : cut_at_mark 64 rest ≡ None = cut_none 64 rest lack in
    let text : part ++ rest ≡ rest = ap (λ (x : List ℕ). x ++ rest) nil.0 in
    ap object_at text ∙ rw (none, nil.1) refl
object_again part object rest (inr uuid) lack =
    let text : part ++ rest ≡ uuid.0 ++ 64 ∷ rest = ap (λ (x : List ℕ). x ++ rest) uuid.1 ∙ append_assoc uuid.0 (64 ∷ []) rest in
    let found : cut_at_mark 64 (uuid.0 ++ 64 ∷ rest) ≡ Some (uuid.0, rest) = cut_again 64 uuid.0 rest
    (uuid_lacks 64 uuid.0 object uuid.2 (λ e. absurd (omega arith)) refl) in
    ap object_at text ∙ rw (found, uuid.2) refl

-- ---- Protocol sequences.

named_is : (name : List ℕ) (protseq : Protseq) → protseq_named name ≡ Some protseq → name ≡ protseq_name protseq
unfolding protseq_named
named_is name protseq h =
    elim (cases_Bool (bytes_eq name (protseq_name Tcp))) [
      | inl tcp ↦ (let is : ◌≡◌ {A = Option Protseq} (Some Tcp) (Some protseq) = rw tcp at h in
          let same : Tcp ≡ protseq = cc in
          (bytes_eq-Decides name (protseq_name Tcp)).0 tcp ∙ ap protseq_name same)
      | inr no_tcp ↦ elim (cases_Bool (bytes_eq name (protseq_name Udp))) [
        | inl udp ↦ (let is : ◌≡◌ {A = Option Protseq} (Some Udp) (Some protseq) = rw (no_tcp, udp) at h in
            let same : Udp ≡ protseq = cc in
            (bytes_eq-Decides name (protseq_name Udp)).0 udp ∙ ap protseq_name same)
        | inr no_udp ↦ absurd (let is : ◌≡◌ {A = Option Protseq} None (Some protseq) = rw (no_tcp, no_udp) at h in cc)
      ]
    ]

named_again : (protseq : Protseq) → protseq_named (protseq_name protseq) ≡ Some protseq
unfolding protseq_named
named_again Tcp = refl
named_again Udp = refl

-- A protocol sequence that is read is in front with its mark.
pub protseq_found : (text : List ℕ) (y : Protseq × List ℕ) → protseq_at text ≡ Ok y → text ≡ protseq_name y.0 ++ 58 ∷ y.1
unfolding protseq_at
protseq_found text y h =
    let a = bind_ok (ok_or (cut_at_mark 58 text) BadProtseq) (λ p. ok_or (option_map (λ protseq. (protseq, p.1)) (protseq_named p.0)) BadProtseq) y h in
    let parts = cut_found 58 text a.0 (ok_or_ok (cut_at_mark 58 text) BadProtseq a.0 a.1) in
    let named = pair_ok (protseq_named a.0.0) a.0.1 BadProtseq y a.2 in
    parts ∙ ap (λ (x : List ℕ). x ++ 58 ∷ a.0.1) (named_is a.0.0 y.0 named.0) ∙ ap (λ (x : List ℕ). protseq_name y.0 ++ 58 ∷ x) named.1

name_lacks : (mark : ℕ) (protseq : Protseq) → lacks mark (protseq_name Tcp) ≡ true → lacks mark (protseq_name Udp) ≡ true
    → lacks mark (protseq_name protseq) ≡ true
name_lacks mark Tcp tcp udp = tcp
name_lacks mark Udp tcp udp = udp

-- A name with its mark is read as its protocol sequence.
pub protseq_again : (protseq : Protseq) (rest : List ℕ) → protseq_at (protseq_name protseq ++ 58 ∷ rest) ≡ Ok (protseq, rest)
unfolding protseq_at
protseq_again protseq rest =
    rw (cut_again 58 (protseq_name protseq) rest (name_lacks 58 protseq refl refl), named_again protseq) refl

-- ---- Addresses.

octet_found : (text : List ℕ) (y : ℕ × List ℕ) → octet_at text ≡ Ok y → (text ≡ decimal y.0 ++ 46 ∷ y.1) × (y.0 < 256)
unfolding octet_at
octet_found text y h =
    let a = bind_ok (ok_or (cut_at_mark 46 text) BadAddress) (λ p. ok_or (option_map (λ n. (n, p.1)) (number_of 255 p.0)) BadAddress) y h in
    let parts = cut_found 46 text a.0 (ok_or_ok (cut_at_mark 46 text) BadAddress a.0 a.1) in
    let found = pair_ok (number_of 255 a.0.0) a.0.1 BadAddress y a.2 in
    let number = number_found 255 y.0 a.0.0 (lit< tt) found.0 in
    (parts ∙ ap (λ (x : List ℕ). x ++ 46 ∷ a.0.1) number.0 ∙ ap (λ (x : List ℕ). decimal y.0 ++ 46 ∷ x) found.1, omega (arith, number.1))

octet_again : (n : ℕ) (rest : List ℕ) → n < 256 → octet_at (decimal n ++ 46 ∷ rest) ≡ Ok (n, rest)
unfolding octet_at
octet_again n rest small =
    rw (cut_again 46 (decimal n) rest (decimal_lacks 46 n (omega arith) refl), number_again 255 n (omega arith) (lit< tt)) refl

-- An address that is spelled by a text.
pub record Spells (text address : List ℕ) : Type 0 where
  pub text_is : text ≡ address_text address
  pub four : length address ≡ 4
  pub octets : All (λ n. n < 256) address

four_octets : (a b c d : ℕ) → a < 256 → b < 256 → c < 256 → d < 256 → All (λ n. n < 256) (a ∷ b ∷ c ∷ d ∷ [])
four_octets a b c d la lb lc ld zero e within = la
four_octets a b c d la lb lc ld (suc zero) e within = lb
four_octets a b c d la lb lc ld (suc (suc zero)) e within = lc
four_octets a b c d la lb lc ld (suc (suc (suc zero))) e within = ld
four_octets a b c d la lb lc ld (suc (suc (suc (suc k)))) e within = absurd (omega arith)

-- An address that is read is spelled by the text.
pub address_found : (text address : List ℕ) → address_of text ≡ Ok address → Spells text address
unfolding address_of
address_found text address h =
    let a = bind_ok (octet_at text) (λ first. octet_at first.1 >>= λ second. octet_at second.1 >>= λ third. ok_or
    (number_of 255 third.1) BadAddress >>= λ fourth. Ok (first.0 ∷ second.0 ∷ third.0 ∷ fourth ∷ [])) address h in
    let b = bind_ok (octet_at a.0.1) (λ second. octet_at second.1 >>= λ third. ok_or (number_of 255 third.1) BadAddress >>= λ fourth. Ok
    (a.0.0 ∷ second.0 ∷ third.0 ∷ fourth ∷ [])) address a.2 in
    let c = bind_ok (octet_at b.0.1) (λ third. ok_or (number_of 255 third.1) BadAddress >>= λ fourth. Ok (a.0.0 ∷ b.0.0 ∷ third.0 ∷ fourth ∷ [])) address b.2 in
    let d = bind_ok (ok_or (number_of 255 c.0.1) BadAddress) (λ fourth. Ok (a.0.0 ∷ b.0.0 ∷ c.0.0 ∷ fourth ∷ [])) address c.2 in
    let first = octet_found text a.0 a.1 in
    let second = octet_found a.0.1 b.0 b.1 in
    let third = octet_found b.0.1 c.0 c.1 in
    let fourth = number_found 255 d.0 c.0.1 (lit< tt) (ok_or_ok (number_of 255 c.0.1) BadAddress d.0 d.1) in
    let made : List ℕ = a.0.0 ∷ b.0.0 ∷ c.0.0 ∷ d.0 ∷ [] in
    let spelled : text ≡ address_text made =
    first.0
    ∙ ap (λ (x : List ℕ). decimal a.0.0 ++ 46 ∷ x) (second.0
    ∙ ap (λ (x : List ℕ). decimal b.0.0 ++ 46 ∷ x) (third.0
    ∙ ap (λ (x : List ℕ). decimal c.0.0 ++ 46 ∷ x) fourth.0)) in
    subst (Spells text) (ok_is made address d.2) (record {
      text_is = spelled;
      four = refl;
      octets = four_octets a.0.0 b.0.0 c.0.0 d.0 first.1 second.1 third.1 (omega (arith, fourth.1));
    })

-- The text of an address is read as it.
pub address_again : (address : List ℕ) → length address ≡ 4 → All (λ n. n < 256) address → address_of (address_text address) ≡ Ok address
unfolding address_of
address_again [] len octets = absurd (omega arith)
address_again (a ∷ []) len octets = absurd (omega arith)
address_again (a ∷ b ∷ []) len octets = absurd (omega arith)
address_again (a ∷ b ∷ c ∷ []) len octets = absurd (omega arith)
address_again (a ∷ b ∷ c ∷ d ∷ []) len octets =
    let third = 46 ∷ decimal d in
    let second = 46 ∷ (decimal c ++ third) in
    rw (
      octet_again a (decimal b ++ second) (octets 0 0 (lit< tt)),
      octet_again b (decimal c ++ third) (octets 1 0 (lit< tt)),
      octet_again c (decimal d) (octets 2 0 (lit< tt)),
      number_again 255 d (let last = octets 3 0 (lit< tt) in omega arith) (lit< tt),
    ) refl
address_again (a ∷ b ∷ c ∷ d ∷ e ∷ address) len octets = absurd (omega arith)

-- The text of an address has digits and dots alone.
pub address_lacks : (mark : ℕ) (address : List ℕ) → length address ≡ 4 → All (λ n. n < 256) address → is_ascii_digit mark ≡ false
    → lacks mark (46 ∷ []) ≡ true → lacks mark (address_text address) ≡ true
address_lacks mark address len octets other dot =
    let at : (i : ℕ) → i < 4 → lacks mark (decimal (get_or address i 0)) ≡ true = λ i within.
    decimal_lacks mark (get_or address i 0) (let small = octets i 0 (omega arith) in omega arith) other in
    let and_dot : (x y : List ℕ) → lacks mark x ≡ true → lacks mark y ≡ true → lacks mark (x ++ 46 ∷ y) ≡ true = λ x y g h.
    lacks-append mark x (46 ∷ y) g (lacks-append mark (46 ∷ []) y dot h) in
    and_dot _ _ (at 0 (lit< tt)) (and_dot _ _ (at 1 (lit< tt)) (and_dot _ _ (at 2 (lit< tt)) (at 3 (lit< tt))))

-- ---- Endpoints.

guard_some : {A : Type 0} (b : Bool) (o : Option A) (y : A) → cond b o None ≡ Some y → (b ≡ true) × (o ≡ Some y)
guard_some true o y e = (refl, e)
guard_some false o y e = absurd cc

-- The endpoint's part after the rest of the text.
record EndpointStands (text : List ℕ) (parts : List ℕ × List ℕ) (port : ℕ) : Type 0 where
  is : IsEndpointPart parts.1 port
  small : port < 2 ^ 16
  whole : text ≡ parts.0 ++ parts.1

port_stands : (text : List ℕ) (cut_is : Option (List ℕ × List ℕ)) (port : ℕ) → cut_at_mark 93 text ≡ cut_is → port_before cut_is ≡ Some port
    → (91 ∷ text ≡ 91 ∷ (decimal port ++ 93 ∷ [])) × (port < 2 ^ 16)
port_stands text None port e h = absurd cc
port_stands text (Some p) port e h =
    let g = guard_some (length p.1 == 0) (number_of 65535 p.0) port h in
    let last : p.1 ≡ [] = nil_from_length p.1 (eqb-true (length p.1) 0 g.0) in
    let number = number_found 65535 port p.0 (lit< tt) g.1 in (
      ap (λ (x : List ℕ). 91 ∷ x) (cut_found 93 text p e ∙ ap (λ (x : List ℕ). x ++ 93 ∷ p.1) number.0
          ∙ ap (λ (x : List ℕ). decimal port ++ 93 ∷ x) last),
      omega (arith, number.1),
    )

none_stands : (text : List ℕ) (port : ℕ) → port_of [] ≡ Ok port → EndpointStands text (text, []) port
unfolding port_of
none_stands text port h =
    let zero_is : port ≡ 0 = sym (ok_is 0 port h) in
    record { is = inl (refl, zero_is); small = omega arith; whole = sym (append-nil text) }

port_found : (text : List ℕ) (port : ℕ) → port_of (91 ∷ text) ≡ Ok port → (91 ∷ text ≡ 91 ∷ (decimal port ++ 93 ∷ [])) × (port < 2 ^ 16)
unfolding port_of
port_found text port h = port_stands text (cut_at_mark 93 text) port refl (ok_or_ok (port_before (cut_at_mark 93 text)) BadEndpoint port h)

endpoint_stands : (text : List ℕ) (cut_is : Option (List ℕ × List ℕ)) (port : ℕ) → cut_at_mark 91 text ≡ cut_is → port_of (parts_of text cut_is).1 ≡ Ok port
    → EndpointStands text (parts_of text cut_is) port
endpoint_stands text None port e h = none_stands text port h
endpoint_stands text (Some p) port e h =
    let parts = cut_found 91 text p e in
    let rest : drop (length p.0) text ≡ 91 ∷ p.1 = ap (drop (length p.0)) parts ∙ drop_at p.0 (91 ∷ p.1) (length p.0) refl in
    let found = port_found p.1 port (ap port_of (sym rest) ∙ h) in
    record { is = inr (rest ∙ found.0); small = found.1; whole = parts ∙ ap (λ (x : List ℕ). p.0 ++ x) (sym rest) }

endpoint_found : (text : List ℕ) (port : ℕ) → port_of (endpoint_parts text).1 ≡ Ok port → EndpointStands text (endpoint_parts text) port
unfolding endpoint_parts
endpoint_found text port h = endpoint_stands text (cut_at_mark 91 text) port refl h

-- An endpoint part is cut off, and read as its port.
pub endpoint_again : (front part : List ℕ) (port : ℕ) → IsEndpointPart part port → port < 2 ^ 16 → lacks 91 front ≡ true
    → (endpoint_parts (front ++ part) ≡ (front, part)) × (port_of part ≡ Ok port)
unfolding endpoint_parts port_of
endpoint_again front part port (inl none) small lack =
    let text : front ++ part ≡ front = ap (λ (x : List ℕ). front ++ x) none.0 ∙ append-nil front in
    let same : (front, []) ≡ (front, part) = ap (λ (x : List ℕ). (front, x)) (sym none.0) in
    (ap endpoint_parts text ∙ rw (cut_none 91 front lack) same, ap port_of none.0 ∙ ap Ok (sym none.1))
endpoint_again front part port (inr some) small lack =
    let digits : cut_at_mark 93 (decimal port ++ 93 ∷ []) ≡ Some (decimal port, []) = cut_again 93 (decimal port) [] (decimal_lacks 93 port (omega arith) refl) in
    let text : front ++ part ≡ front ++ 91 ∷ (decimal port ++ 93 ∷ []) = ap (λ (x : List ℕ). front ++ x) some in
    let found : cut_at_mark 91 (front ++ 91 ∷ (decimal port ++ 93 ∷ [])) ≡ Some (front, decimal port ++ 93 ∷ []) = cut_again 91 front (decimal port ++ 93 ∷ []) lack in
    let rest : drop (length front) (front ++ 91 ∷ (decimal port ++ 93 ∷ [])) ≡ part = drop_at front (91 ∷ (decimal port ++ 93 ∷ []))
    (length front) refl ∙ sym some in
    (ap endpoint_parts text ∙ rw (found, rest) refl, ap port_of some ∙ rw (digits, number_again 65535 port (omega arith) (lit< tt)) refl)

-- ---- Bindings.

-- The parts of a text that was read.
binding_stands : (text : List ℕ) (binding : StringBinding) → binding_of text ≡ Ok binding → IsBinding text binding
unfolding binding_of
binding_stands text binding h =
    let made : List ℕ → Protseq → List ℕ → ℕ → StringBinding = λ object protseq address port. record
    { object = object; protseq = protseq; address = address; port = port } in
    let a = bind_ok (object_at text) (λ object. protseq_at object.1 >>= λ protseq. address_of (endpoint_parts protseq.1).0 >>= λ address. port_of
    (endpoint_parts protseq.1).1 >>= λ port. Ok (made object.0 protseq.0 address port)) binding h in
    let b = bind_ok (protseq_at a.0.1) (λ protseq. address_of (endpoint_parts protseq.1).0 >>= λ address. port_of
    (endpoint_parts protseq.1).1 >>= λ port. Ok (made a.0.0 protseq.0 address port)) binding a.2 in
    let parts = endpoint_parts b.0.1 in
    let c = bind_ok (address_of parts.0) (λ address. port_of parts.1 >>= λ port. Ok (made a.0.0 b.0.0 address port)) binding b.2 in
    let d = bind_ok (port_of parts.1) (λ port. Ok (made a.0.0 b.0.0 c.0 port)) binding c.2 in
    let object = object_found text a.0 a.1 in
    let protseq = protseq_found a.0.1 b.0 b.1 in
    let address = address_found parts.0 c.0 c.1 in
    let endpoint = endpoint_found b.0.1 d.0 d.1 in
    let spelled : text ≡ object.part ++ (protseq_name b.0.0 ++ (58 ∷ (address_text c.0 ++ parts.1))) =
    object.front ∙ ap (λ (x : List ℕ). object.part ++ x) (protseq ∙ ap (λ (x : List ℕ). protseq_name b.0.0 ++ 58 ∷ x)
    (endpoint.whole ∙ ap (λ (x : List ℕ). x ++ parts.1) address.text_is)) in
    subst (IsBinding text) (ok_is (made a.0.0 b.0.0 c.0 d.0) binding d.2)
    (record { four = address.four; octets = address.octets; port = endpoint.small }, (object.part, parts.1, object.is, endpoint.is, spelled))

-- What is read is a form of the binding.
pub binding_found : (text : List ℕ) (r : Result StringBinding BindingFault) → Gives (λ b. b) r (binding_of text) → IfOk r (IsBinding text)
binding_found text (Ok b) h = binding_stands text b h
binding_found text (Err e) h = tt

-- What reading gives is what was returned.
pub is_read : (r : Result StringBinding BindingFault) (text : List ℕ) (binding : StringBinding) → Gives (λ b. b) r (binding_of text)
    → binding_of text ≡ Ok binding → r ≡ Ok binding
is_read (Ok b) text binding h e = sym h ∙ e
is_read (Err f) text binding h e = sym h ∙ e

endpoint_lacks : (mark : ℕ) (part : List ℕ) (port : ℕ) → IsEndpointPart part port → port < 2 ^ 16 → is_ascii_digit mark ≡ false
    → lacks mark (91 ∷ 93 ∷ []) ≡ true → lacks mark part ≡ true
endpoint_lacks mark part port (inl none) small other marks = rw none.0 refl
endpoint_lacks mark part port (inr some) small other marks =
    let open_close = and_parts (not (eqb 91 mark)) (lacks mark (93 ∷ [])) marks in
    rw some (and_from (not (eqb 91 mark)) (lacks mark (decimal port ++ 93 ∷ [])) open_close.0
    (lacks-append mark (decimal port) (93 ∷ []) (decimal_lacks mark port (omega arith) other) open_close.1))

-- A form of a binding is read as it.
pub binding_again : (text : List ℕ) (binding : StringBinding) → IsBinding text binding → binding_of text ≡ Ok binding
unfolding binding_of
binding_again text binding h =
    let fits = h.0 in
    let parts = h.1 in
    let address = address_text binding.address in
    let rest = address ++ parts.1 in
    let behind = protseq_name binding.protseq ++ 58 ∷ rest in
    let lack_at : lacks 64 behind ≡ true =
    lacks-append 64 (protseq_name binding.protseq) (58 ∷ rest) (name_lacks 64 binding.protseq refl refl)
    (lacks-append 64 (58 ∷ []) rest refl
    (lacks-append 64 address parts.1 (address_lacks 64 binding.address fits.four fits.octets refl refl)
    (endpoint_lacks 64 parts.1 binding.port parts.3 fits.port refl refl))) in
    let object : object_at (parts.0 ++ behind) ≡ Ok (binding.object, behind) = object_again parts.0 binding.object behind parts.2 lack_at in
    let protseq : protseq_at behind ≡ Ok (binding.protseq, rest) = protseq_again binding.protseq rest in
    let endpoint = endpoint_again address parts.1 binding.port parts.3 fits.port (address_lacks 91 binding.address fits.four fits.octets refl refl) in
    let found : address_of address ≡ Ok binding.address = address_again binding.address fits.four fits.octets in
    ap binding_of parts.4 ∙ rw (object, protseq, endpoint.0, found, endpoint.1) refl

-- A text is a form of one binding at most.
pub one_binding : (text : List ℕ) (binding other : StringBinding) → IsBinding text binding → IsBinding text other → binding ≡ other
one_binding text binding other g h = ok_is {E = BindingFault} binding other (sym (binding_again text binding g) ∙ binding_again text other h)

-- ---- What is printed.

-- What is printed is a form of the binding.
pub printed : (binding : StringBinding) → FitsBinding binding → IsUuid binding.object → IsBinding (binding_text binding) binding
printed binding fits uuid =
    let object : IsObjectPart (object_text binding.object) binding.object =
    elim (cases_Bool (is_nil_bytes binding.object)) [
      | inl nil ↦ inl (rw nil refl, (bytes_eq-Decides binding.object zero_bytes).0 nil)
      | inr some ↦ inr (
        hyphenated_text lower binding.object,
        rw some refl,
        sym
            (parses_hyphenated_text lower binding.object (inl refl) uuid.sixteen uuid.octets),
      )
    ] in
    let endpoint : IsEndpointPart (endpoint_text binding.port) binding.port =
    elim (cases_eq binding.port 0) [
      | inl none ↦ inl (rw none refl, none)
      | inr some ↦ inr (rw (ne_eqb binding.port 0 some) refl)
    ] in
    (fits, (object_text binding.object, endpoint_text binding.port, object, endpoint, refl))
