-- The fault of a text is that of its first part that no binding has there.
use Rattle.std.proofs.Common.{◌≡◌, ℕ, ◌<◌, ◌^◌, true, List, [], ◌∷◌, ◌++◌, length, drop, Option, Some, None, Result, Ok, Err, inl, inr, refl, sym, ap}
use Rattle.std.proofs.Common.{subst, ◌∙◌, append_assoc, append-nil}
use Rattle.std.specs.Prelude.{IfErr}
use Rattle.std.specs.Option.{option_map, ok_or}
use Rattle.std.proofs.lemmas.Bool.{eq-eqb, cases_eq, ne_eqb}
use Rattle.std.proofs.lemmas.List.{drop_at}
use Rattle.uuid.specs.Parts.{zero_bytes}
use Rattle.uuid.specs.Text.{parsed_hyphenated}
use Rattle.tower_codec.specs.declared.binding.StringBinding.{StringBinding}
use Rattle.tower_codec.specs.declared.fault.BindingFault.{BindingFault}
use Rattle.tower_codec.specs.declared.fault.BindingFault.TheVariants.{BadObject, BadProtseq, BadAddress, BadEndpoint}
use Rattle.tower_codec.specs.declared.rpc.Protseq.{Protseq}
use Rattle.tower_codec.specs.ReadingSteps.{◌>>=◌, Gives}
use Rattle.tower_codec.specs.Binding.{address_text, IsEndpointPart}
use Rattle.tower_codec.specs.BindingReading.{cut_at_mark, number_of, object_of, object_at, protseq_named, protseq_at, parts_of, endpoint_parts, octet_at}
use Rattle.tower_codec.specs.BindingReading.{address_of, port_before, port_of, binding_of}
use Rattle.tower_codec.specs.BindingFaults.{HasMark, MayBeEndpoint, ObjectThen, ProtseqThen, AddressThen, IsBindingFault}
use Rattle.tower_codec.proofs.StepLaws.{ok_is, bind_err, pair_ok}
use Rattle.tower_codec.proofs.Cuts.{lacks, cut_again, cut_none, cut_found}
use Rattle.tower_codec.proofs.BindingLaws.{protseq_found, protseq_again, address_found, address_again, address_lacks, endpoint_again}

-- ---- Marks.

abbrev more_front : ℕ → List ℕ × List ℕ → List ℕ × List ℕ
more_front c p = (c ∷ p.0, p.1)

-- a text with a mark is cut
mark_cut : (mark : ℕ) (front back : List ℕ) → cut_at_mark mark (front ++ mark ∷ back) ≡ None → ⊥
unfolding cut_at_mark
mark_cut mark [] back none = let cuts = rw (eq-eqb mark mark refl) at none in cc (cuts)
mark_cut mark (c ∷ front) back none =
    elim (cases_eq c mark) [
      | inl same ↦ (let cuts = rw (eq-eqb c mark same) at none in cc (cuts))
      | inr other ↦ (let cuts = rw (ne_eqb c mark other) at none in mark_cut mark front back (unmapped (cut_at_mark mark (front ++ mark ∷ back)) cuts))
    ]
  where
    unmapped : (o : Option (List ℕ × List ℕ)) → option_map (more_front c) o ≡ None → o ≡ None
    unmapped None e = refl
    unmapped (Some p) e = absurd cc

no_mark : (mark : ℕ) (text : List ℕ) → cut_at_mark mark text ≡ None → HasMark mark text → ⊥
no_mark mark text none has = mark_cut mark has.0 has.1 (ap (cut_at_mark mark) (sym has.2) ∙ none)

-- no mark is before the first
first_mark : (mark : ℕ) (text : List ℕ) (p : List ℕ × List ℕ) → cut_at_mark mark text ≡ Some p → HasMark mark p.0 → ⊥
unfolding cut_at_mark
first_mark mark [] p e has = absurd cc
first_mark mark (c ∷ text) p e has =
    elim (cases_eq c mark) [
      | inl same ↦ (let cuts : ◌≡◌ {A = Option (List ℕ × List ℕ)} (Some ([], text)) (Some p) = rw (eq-eqb c mark same) at e in
          none_in has.0 has.1 (ap (λ (q : List ℕ × List ℕ). q.0) (some_is ([], text) p cuts) ∙ has.2))
      | inr other ↦ (let cuts = rw (ne_eqb c mark other) at e in later (first_mark mark text) (cut_at_mark mark text) refl cuts other)
    ]
  where
    some_is : (q r : List ℕ × List ℕ) → ◌≡◌ {A = Option (List ℕ × List ℕ)} (Some q) (Some r) → q ≡ r
    some_is q r same = cc

    none_in : (front back : List ℕ) → [] ≡ front ++ mark ∷ back → ⊥
    none_in [] back is = cc
    none_in (b ∷ front) back is = cc

    at_head : (front back rest : List ℕ) → (c ≡ mark → ⊥) → (HasMark mark rest → ⊥) → c ∷ rest ≡ front ++ mark ∷ back → ⊥
    at_head [] back rest other none is = other (cc (is))
    at_head (b ∷ front) back rest other none is = let same : rest ≡ front ++ mark ∷ back = cc (is) in none (front, back, same)

    later : ((q : List ℕ × List ℕ) → cut_at_mark mark text ≡ Some q → HasMark mark q.0 → ⊥) → (o : Option (List ℕ × List ℕ)) → cut_at_mark mark text ≡ o
        → option_map (more_front c) o ≡ Some p → (c ≡ mark → ⊥) → ⊥
    later behind None is e other = cc (e)
    later behind (Some q) is e other =
        let front : c ∷ q.0 ≡ p.0 = ap (λ (r : List ℕ × List ℕ). r.0) (some_is (c ∷ q.0, q.1) p e) in
        at_head has.0 has.1 q.0 other (behind q is) (front ∙ has.2)

-- ---- Readings that fail.

-- only one fault comes of a reading
ok_or_err : {A : Type 0} (o : Option A) (d e : BindingFault) → ok_or o d ≡ Err e → (o ≡ None) × (d ≡ e)
ok_or_err None d e is = (refl, cc)
ok_or_err (Some x) d e is = absurd cc

never : {A : Type 0} (x : A) (e : BindingFault) → ◌≡◌ {A = Result A BindingFault} (Ok x) (Err e) → ⊥
never x e is = cc

mapped_none : {A B : Type 0} (o : Option A) (f : A → B) → option_map f o ≡ None → o ≡ None
mapped_none None f is = refl
mapped_none (Some x) f is = absurd cc

object_fails : (text : List ℕ) (o : Option (List ℕ × List ℕ)) (e : BindingFault) → cut_at_mark 64 text ≡ o → object_of text o ≡ Err e → (BadObject ≡ e)
    × IsBindingFault text BadObject
object_fails text None e is fails = absurd cc
object_fails text (Some p) e is fails =
    let failed = ok_or_err (option_map (λ object. (object, p.1)) (parsed_hyphenated p.0)) BadObject e fails in
    (failed.1, (p.0, p.1, cut_found 64 text p is, first_mark 64 text p is, mapped_none (parsed_hyphenated p.0) (λ object. (object, p.1)) failed.0))

no_object : (text : List ℕ) (e : BindingFault) → object_at text ≡ Err e → (BadObject ≡ e) × IsBindingFault text BadObject
unfolding object_at
no_object text e fails = object_fails text (cut_at_mark 64 text) e refl fails

-- a part with its mark is not empty
mark_ends : (front : List ℕ) (mark : ℕ) → front ++ mark ∷ [] ≡ [] → ⊥
mark_ends [] mark is = cc
mark_ends (b ∷ front) mark is = cc

object_stand : (text : List ℕ) (o : Option (List ℕ × List ℕ)) (y : List ℕ × List ℕ) → cut_at_mark 64 text ≡ o → object_of text o ≡ Ok y → ObjectThen text y.1
object_stand text None y none is =
    subst (λ (z : List ℕ × List ℕ). ObjectThen text z.1) (ok_is (zero_bytes, text) y is)
    ([], zero_bytes, inl (refl, refl), refl, λ empty has. no_mark 64 text none has)
object_stand text (Some p) y some is =
    let found = pair_ok (parsed_hyphenated p.0) p.1 BadObject y is in (
      p.0 ++ 64 ∷ [],
      y.0,
      inr (p.0, refl, found.0),
      cut_found 64 text p some ∙ ap (λ (x : List ℕ). p.0 ++ 64 ∷ x) found.1 ∙ sym (append_assoc p.0 (64 ∷ []) y.1),
      λ empty has. mark_ends p.0 64 empty,
    )

object_then : (text : List ℕ) (y : List ℕ × List ℕ) → object_at text ≡ Ok y → ObjectThen text y.1
unfolding object_at
object_then text y is = object_stand text (cut_at_mark 64 text) y refl is

protseq_fails : (text : List ℕ) (e : BindingFault) → protseq_at text ≡ Err e → BadProtseq ≡ e
unfolding protseq_at
protseq_fails text e fails =
    elim (bind_err (ok_or (cut_at_mark 58 text) BadProtseq) (λ p. ok_or (option_map (λ protseq. (protseq, p.1)) (protseq_named p.0)) BadProtseq) e fails) [
      | inl none ↦ (ok_or_err (cut_at_mark 58 text) BadProtseq e none).1
      | inr some ↦ (ok_or_err (option_map (λ protseq. (protseq, some.0.1)) (protseq_named some.0.0)) BadProtseq e some.2).1
    ]

no_protseq : (text : List ℕ) (e : BindingFault) → protseq_at text ≡ Err e → (rest : List ℕ) → ProtseqThen text rest → ⊥
no_protseq text e fails rest stands = never (stands.0, rest) e (sym (protseq_again stands.0 rest) ∙ ap protseq_at (sym stands.1) ∙ fails)

octet_fails : (text : List ℕ) (e : BindingFault) → octet_at text ≡ Err e → BadAddress ≡ e
unfolding octet_at
octet_fails text e fails =
    elim (bind_err (ok_or (cut_at_mark 46 text) BadAddress) (λ p. ok_or (option_map (λ n. (n, p.1)) (number_of 255 p.0)) BadAddress) e fails) [
      | inl none ↦ (ok_or_err (cut_at_mark 46 text) BadAddress e none).1
      | inr some ↦ (ok_or_err (option_map (λ n. (n, some.0.1)) (number_of 255 some.0.0)) BadAddress e some.2).1
    ]

address_fails : (text : List ℕ) (e : BindingFault) → address_of text ≡ Err e → BadAddress ≡ e
unfolding address_of
address_fails text e fails =
    elim (bind_err (octet_at text) (λ first. octet_at first.1 >>= λ second. octet_at second.1 >>= λ third. ok_or
    (number_of 255 third.1) BadAddress >>= λ fourth. Ok (first.0 ∷ second.0 ∷ third.0 ∷ fourth ∷ [])) e fails) [
      | inl none ↦ octet_fails text e none
      | inr a ↦ elim (bind_err (octet_at a.0.1) (λ second. octet_at second.1 >>= λ third. ok_or (number_of 255 third.1) BadAddress >>= λ fourth. Ok
          (a.0.0 ∷ second.0 ∷ third.0 ∷ fourth ∷ [])) e a.2) [
            | inl none ↦ octet_fails a.0.1 e none
            | inr b ↦ elim (bind_err (octet_at b.0.1) (λ third. ok_or (number_of 255 third.1) BadAddress >>= λ fourth. Ok
                (a.0.0 ∷ b.0.0 ∷ third.0 ∷ fourth ∷ [])) e b.2) [
                  | inl none ↦ octet_fails b.0.1 e none
                  | inr c ↦ elim (bind_err (ok_or (number_of 255 c.0.1) BadAddress) (λ fourth. Ok (a.0.0 ∷ b.0.0 ∷ c.0.0 ∷ fourth ∷ [])) e c.2) [
                    | inl none ↦ (ok_or_err (number_of 255 c.0.1) BadAddress e none).1
                    | inr d ↦ absurd (never (a.0.0 ∷ b.0.0 ∷ c.0.0 ∷ d.0 ∷ []) e d.2)
                  ]
                ]
          ]
    ]

-- what is in front of where an endpoint may begin
parts_again : (front rest : List ℕ) → lacks 91 front ≡ true → MayBeEndpoint rest → endpoint_parts (front ++ rest) ≡ (front, rest)
unfolding endpoint_parts
parts_again front rest lack (inl none) =
    let text : front ++ rest ≡ front = ap (λ (x : List ℕ). front ++ x) none ∙ append-nil front in
    let same : (front, []) ≡ (front, rest) = ap (λ (x : List ℕ). (front, x)) (sym none) in
    ap endpoint_parts text ∙ rw (cut_none 91 front lack) same
parts_again front rest lack (inr some) =
    let text : front ++ rest ≡ front ++ 91 ∷ some.0 = ap (λ (x : List ℕ). front ++ x) some.1 in
    let found : cut_at_mark 91 (front ++ 91 ∷ some.0) ≡ Some (front, some.0) = cut_again 91 front some.0 lack in
    let behind : drop (length front) (front ++ 91 ∷ some.0) ≡ rest = drop_at front (91 ∷ some.0) (length front) refl ∙ sym some.1 in
    ap endpoint_parts text ∙ rw (found, behind) refl

record PartsStand (text : List ℕ) (parts : List ℕ × List ℕ) : Type 0 where
  whole : text ≡ parts.0 ++ parts.1
  endpoint : MayBeEndpoint parts.1

parts_stand : (text : List ℕ) (o : Option (List ℕ × List ℕ)) → cut_at_mark 91 text ≡ o → PartsStand text (parts_of text o)
parts_stand text None none = record { whole = sym (append-nil text); endpoint = inl refl }
parts_stand text (Some p) some =
    let found = cut_found 91 text p some in
    let rest : drop (length p.0) text ≡ 91 ∷ p.1 = ap (drop (length p.0)) found ∙ drop_at p.0 (91 ∷ p.1) (length p.0) refl in
    record { whole = found ∙ ap (λ (x : List ℕ). p.0 ++ x) (sym rest); endpoint = inr (p.1, rest) }

endpoint_stand : (text : List ℕ) → PartsStand text (endpoint_parts text)
unfolding endpoint_parts
endpoint_stand text = parts_stand text (cut_at_mark 91 text) refl

no_address : (text : List ℕ) (e : BindingFault) → address_of (endpoint_parts text).0 ≡ Err e → (rest : List ℕ) → AddressThen text rest → ⊥
no_address text e fails rest (address, fits, is, may) =
    let parts : endpoint_parts text ≡ (address_text address, rest) =
    ap endpoint_parts is ∙ parts_again (address_text address) rest (address_lacks 91 address fits.0 fits.1 refl refl) may in
    never address e (sym (address_again address fits.0 fits.1) ∙ ap (λ (p : List ℕ × List ℕ). address_of p.0) (sym parts) ∙ fails)

address_then : (text address : List ℕ) → address_of (endpoint_parts text).0 ≡ Ok address → AddressThen text (endpoint_parts text).1
address_then text address is =
    let spells = address_found (endpoint_parts text).0 address is in
    let parts = endpoint_stand text in
    (address, (spells.four, spells.octets), parts.whole ∙ ap (λ (x : List ℕ). x ++ (endpoint_parts text).1) spells.text_is, parts.endpoint)

port_fails : (text : List ℕ) (e : BindingFault) → port_of text ≡ Err e → BadEndpoint ≡ e
unfolding port_of
port_fails [] e fails = absurd cc
port_fails (bracket ∷ text) e fails = (ok_or_err (port_before (cut_at_mark 93 text)) BadEndpoint e fails).1

no_port : (part : List ℕ) (e : BindingFault) → port_of part ≡ Err e → (port : ℕ) → port < 2 ^ 16 → IsEndpointPart part port → ⊥
no_port part e fails port small is = never port e (sym (endpoint_again [] part port is small refl).1 ∙ fails)

-- ---- Whole texts.

binding_fails : (text : List ℕ) (e : BindingFault) → binding_of text ≡ Err e → IsBindingFault text e
unfolding binding_of
binding_fails text e fails =
    elim (bind_err (object_at text) (λ object. protseq_at object.1 >>= λ protseq. address_of (endpoint_parts protseq.1).0 >>= λ address. port_of
    (endpoint_parts protseq.1).1 >>= λ port. Ok (made object.0 protseq.0 address port)) e fails) [
      | inl none ↦ (let no = no_object text e none in subst (IsBindingFault text) no.0 no.1)
      | inr a ↦ behind_object a.0 (object_then text a.0 a.1) a.2
    ]
  where
    made : List ℕ → Protseq → List ℕ → ℕ → StringBinding
    made object protseq address port = record { object = object; protseq = protseq; address = address; port = port }

    behind_protseq : (y : List ℕ × List ℕ) (z : Protseq × List ℕ) → ObjectThen text y.1 → ProtseqThen y.1 z.1
        → (address_of (endpoint_parts z.1).0 >>= λ address. port_of (endpoint_parts z.1).1 >>= λ port. Ok (made y.0 z.0 address port)) ≡ Err e
        → IsBindingFault text e
    behind_protseq y z object protseq fails =
        elim (bind_err (address_of (endpoint_parts z.1).0) (λ address. port_of (endpoint_parts z.1).1 >>= λ port. Ok (made y.0 z.0 address port)) e fails) [
          | inl none ↦ subst (IsBindingFault text) (address_fails (endpoint_parts z.1).0 e none) (y.1, z.1, object, protseq, no_address z.1 e none)
          | inr c ↦ elim (bind_err (port_of (endpoint_parts z.1).1) (λ port. Ok (made y.0 z.0 c.0 port)) e c.2) [
            | inl none ↦ subst (IsBindingFault text) (port_fails (endpoint_parts z.1).1 e none)
                (y.1, z.1, (endpoint_parts z.1).1, object, protseq, address_then z.1 c.0 c.1, no_port (endpoint_parts z.1).1 e none)
            | inr d ↦ absurd (never (made y.0 z.0 c.0 d.0) e d.2)
          ]
        ]

    behind_object : (y : List ℕ × List ℕ) → ObjectThen text y.1
        → (protseq_at y.1 >>= λ protseq. address_of (endpoint_parts protseq.1).0 >>= λ address. port_of (endpoint_parts protseq.1).1 >>= λ port. Ok
        (made y.0 protseq.0 address port)) ≡ Err e → IsBindingFault text e
    behind_object y object fails =
        elim (bind_err (protseq_at y.1) (λ protseq. address_of (endpoint_parts protseq.1).0 >>= λ address. port_of
        (endpoint_parts protseq.1).1 >>= λ port. Ok (made y.0 protseq.0 address port)) e fails) [
          | inl none ↦ subst (IsBindingFault text) (protseq_fails y.1 e none) (y.1, object, no_protseq y.1 e none)
          | inr b ↦ behind_protseq y b.0 object (b.0.0, protseq_found y.1 b.0 b.1) b.2
        ]

-- what is told of a text that is no binding
pub fault_told : (text : List ℕ) (r : Result StringBinding BindingFault) → Gives (λ b. b) r (binding_of text) → IfErr r (IsBindingFault text)
fault_told text (Ok b) gives = tt
fault_told text (Err e) gives = binding_fails text e gives
