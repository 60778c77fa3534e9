-- Reading by a layout gives exactly what is there, or exactly the first field that breaks a rule.
use Rattle.std.proofs.Common.{◌≡◌, ℕ, ◌<◌, ◌≤◌, ◌⊎◌, List, [], ◌++◌, length, take, drop, Option, Some, None, Result, Ok, Err, refl, sym, ap, subst, ◌∙◌, inl}
use Rattle.std.proofs.Common.{inr, append_assoc, append-nil, arith}
use Rattle.std.proofs.lemmas.Bool.{le-ltb, lt-ltb, cases_lt}
use Rattle.std.proofs.lemmas.List.{take_at, drop_at, take-append-drop, length-append, length-take-le, append_cancel_right}
use Rattle.record_fields.specs.declared.fault.Rule.{Rule}
use Rattle.record_fields.specs.declared.fault.Rule.TheVariants.{Short}
use Rattle.record_fields.specs.declared.fault.Broken.{Broken}
use Rattle.record_fields.specs.Layouts.{Layout, done, field, next, Stands, Breaks}
use Rattle.record_fields.specs.LayoutReading.{◌>>=◌, by_rule, read}

-- ---- steps

-- equal answers have equal values
pub ok_is : {A E : Type 0} (x y : A) → ◌≡◌ {A = Result A E} (Ok x) (Ok y) → x ≡ y
ok_is x y e = cc

-- two steps that answer: what each answers
pub bind_ok : {A B E : Type 0} (r : Result A E) (f : A → Result B E) (y : B) → (r >>= f) ≡ Ok y → (x : A) × (r ≡ Ok x) × (f x ≡ Ok y)
bind_ok (Ok x) f y e = (x, refl, e)
bind_ok (Err d) f y e = absurd cc

pub bind_err : {A B E : Type 0} (r : Result A E) (f : A → Result B E) (d : E) → (r >>= f) ≡ Err d → (r ≡ Err d) ⊎ ((x : A) × (r ≡ Ok x) × (f x ≡ Err d))
bind_err (Ok x) f d e = inr (x, refl, e)
bind_err (Err c) f d e = inl cc

-- ---- one field

abbrev one : {A : Type 0} → ℕ → (List ℕ → A) → (A → Option Rule) → List ℕ → Result (A × List ℕ) Broken
one size says rule x = read (field size says rule) x

short_field : {A : Type 0} (size : ℕ) (says : List ℕ → A) (rule : A → Option Rule) (x : List ℕ) → length x < size
    → one size says rule x ≡ Err (record { rule = Short; left = 0 })
short_field size says rule x short = rw (lt-ltb (length x) size short) refl

whole_field : {A : Type 0} (size : ℕ) (says : List ℕ → A) (rule : A → Option Rule) (x : List ℕ) → size ≤ length x
    → one size says rule x ≡ by_rule (rule (says (take size x))) (length x) (says (take size x)) (drop size x)
whole_field size says rule x whole = rw (le-ltb (length x) size whole) refl

front_field : {A : Type 0} (says : List ℕ → A) (rule : A → Option Rule) (own rest : List ℕ)
    → one (length own) says rule (own ++ rest) ≡ by_rule (rule (says own)) (length (own ++ rest)) (says own) rest
front_field says rule own rest =
    whole_field (length own) says rule (own ++ rest) (omega (arith, length-append own rest))
    ∙ rw (take_at own rest (length own) refl, drop_at own rest (length own) refl) refl

field_ok : {A : Type 0} (size : ℕ) (says : List ℕ → A) (rule : A → Option Rule) (own rest : List ℕ) (v : A) → length own ≡ size → says own ≡ v
    → rule v ≡ None → one size says rule (own ++ rest) ≡ Ok (v, rest)
field_ok size says rule own rest v len said lawful =
    subst (λ n. one n says rule (own ++ rest) ≡ Ok (v, rest)) len (front_field says rule own rest ∙ rw (said, lawful) refl)

field_err : {A : Type 0} (size : ℕ) (says : List ℕ → A) (rule : A → Option Rule) (own rest : List ℕ) (r : Rule) → length own ≡ size
    → rule (says own) ≡ Some r → one size says rule (own ++ rest) ≡ Err (record { rule = r; left = length (own ++ rest) })
field_err size says rule own rest r len breaks =
    subst (λ n. one n says rule (own ++ rest) ≡ Err (record { rule = r; left = length (own ++ rest) })) len (front_field says rule own rest ∙ rw breaks refl)

ruled_ok : {A : Type 0} (r : Option Rule) (n : ℕ) (v w : A) (y z : List ℕ) → by_rule r n v y ≡ Ok (w, z) → (r ≡ None) × (v ≡ w) × (y ≡ z)
ruled_ok {A} None n v w y z e =
    let same : (v, y) ≡ (w, z) = ok_is (v, y) (w, z) e in
    (refl, ap (λ (p : A × List ℕ). p.0) same, ap (λ (p : A × List ℕ). p.1) same)
ruled_ok (Some r) n v w y z e = absurd cc

ruled_err : {A : Type 0} (r : Option Rule) (n : ℕ) (v : A) (y : List ℕ) (b : Broken) → by_rule r n v y ≡ Err b → (r ≡ Some b.rule) × (b.left ≡ n)
ruled_err None n v y b e = absurd cc
ruled_err (Some r) n v y b e =
    let same : record { rule = r; left = n } ≡ b = cc in
    (ap (λ (b : Broken). Some b.rule) same, ap (λ (b : Broken). b.left) (sym same))

-- ---- the laws

-- what is at the front is read
pub stands_read : {A : Type 0} (l : Layout A) (x : List ℕ) (v : A) (rest : List ℕ) → Stands l x v rest → read l x ≡ Ok (v, rest)
stands_read (done a) x v rest h = λ i. Ok (h.0 i, h.1 i)
stands_read (field size says rule) x v rest h = ap (one size says rule) h.1 ∙ field_ok size says rule h.0 rest v h.2 h.3 h.4
stands_read (next first second) x v rest h = rw (stands_read first x h.0 h.1 h.2) (stands_read (second h.0) h.1 v rest h.3)

-- what is read is at the front
pub read_stands : {A : Type 0} (l : Layout A) (x : List ℕ) (v : A) (rest : List ℕ) → read l x ≡ Ok (v, rest) → Stands l x v rest
read_stands {A} (done a) x v rest e =
    let same : (a, x) ≡ (v, rest) = ok_is (a, x) (v, rest) e in
    (ap (λ (p : A × List ℕ). p.0) same, ap (λ (p : A × List ℕ). p.1) same)
read_stands (field size says rule) x v rest e =
    elim (cases_lt (length x) size) [
      | inl short ↦ absurd (let fails = short_field size says rule x short in cc)
      | inr whole ↦ (let r = ruled_ok (rule (says (take size x))) (length x) (says (take size x)) v (drop size x) rest
          (sym (whole_field size says rule x whole) ∙ e) in (
            take size x,
            sym (take-append-drop size x) ∙ ap (λ (y : List ℕ). take size x ++ y) r.2,
            length-take-le size x whole,
            r.1,
            ap rule (sym r.1) ∙ r.0,
          ))
    ]
read_stands (next first second) x v rest e =
    let a = bind_ok (read first x) (λ y. read (second y.0) y.1) (v, rest) e in
    (a.0.0, a.0.1, read_stands first x a.0.0 a.0.1 a.1, read_stands (second a.0.0) a.0.1 v rest a.2)

-- a field that breaks a rule fails the reading
pub breaks_read : {A : Type 0} (l : Layout A) (x : List ℕ) (r : Rule) (left : ℕ) → Breaks l x r left → read l x ≡ Err (record { rule = r; left = left })
breaks_read (done a) x r left h = absurd h
breaks_read (field size says rule) x r left h =
    elim h [
      | inl s ↦ short_field size says rule x s.0 ∙ (λ i. Err (record { rule = sym s.1 i; left = sym s.2 i }))
      | inr w ↦ ap (one size says rule) w.2 ∙ field_err size says rule w.0 w.1 r w.3 w.4
          ∙ (λ i. Err (record { rule = r; left = (ap length (sym w.2) ∙ sym w.5) i }))
    ]
breaks_read (next first second) x r left h =
    elim h [
      | inl f ↦ rw (breaks_read first x r left f) refl
      | inr w ↦ rw (stands_read first x w.0 w.1 w.2) (breaks_read (second w.0) w.1 r left w.3)
    ]

-- a reading fails only at a field that breaks a rule
pub read_breaks : {A : Type 0} (l : Layout A) (x : List ℕ) (b : Broken) → read l x ≡ Err b → Breaks l x b.rule b.left
read_breaks (done a) x b e = absurd cc
read_breaks (field size says rule) x b e =
    elim (cases_lt (length x) size) [
      | inl short ↦ (let fails = short_field size says rule x short in
          let same : b ≡ record { rule = Short; left = 0 } = cc in
          inl (short, ap (λ (b : Broken). b.rule) same, ap (λ (b : Broken). b.left) same))
      | inr whole ↦ (let r = ruled_err (rule (says (take size x))) (length x) (says (take size x)) (drop size x) b
          (sym (whole_field size says rule x whole) ∙ e) in
          inr (take size x, drop size x, sym (take-append-drop size x), length-take-le size x whole, r.0, r.1))
    ]
read_breaks (next first second) x b e =
    elim (bind_err (read first x) (λ y. read (second y.0) y.1) b e) [
      | inl f ↦ inl (read_breaks first x b f)
      | inr a ↦ inr (a.0.0, a.0.1, read_stands first x a.0.0 a.0.1 a.1, read_breaks (second a.0.0) a.0.1 b a.2)
    ]

-- what is in front of a rest is so in front of any
pub front_stands : {A : Type 0} (l : Layout A) (x : List ℕ) (v : A) (rest : List ℕ) → Stands l x v rest
    → (front : List ℕ) × (x ≡ front ++ rest) × ((other : List ℕ) → Stands l (front ++ other) v other)
front_stands (done a) x v rest h = ([], h.1, λ other. (h.0, refl))
front_stands (field size says rule) x v rest h = (h.0, h.1, λ other. (h.0, refl, h.2, h.3, h.4))
front_stands (next first second) x v rest h =
    let one = front_stands first x h.0 h.1 h.2 in
    let two = front_stands (second h.0) h.1 v rest h.3 in (
      one.0 ++ two.0,
      one.1 ∙ ap (λ (y : List ℕ). one.0 ++ y) two.1 ∙ sym (append_assoc one.0 two.0 rest),
      λ other. (
        h.0,
        two.0 ++ other,
        subst (λ y. Stands first y h.0 (two.0 ++ other)) (sym (append_assoc one.0 two.0 other))
            (one.2 (two.0 ++ other)),
        two.2 other,
      ),
    )

-- whole octets of a layout begin no others, and say one value
pub one_front : {A : Type 0} (l : Layout A) (v w : A) (a b x y : List ℕ) → Stands l a v [] → Stands l b w [] → a ++ x ≡ b ++ y → (v ≡ w) × (a ≡ b) × (x ≡ y)
one_front {A} l v w a b x y h k e =
    let mine = front_stands l a v [] h in
    let other = front_stands l b w [] k in
    let a_is : a ≡ mine.0 = mine.1 ∙ append-nil mine.0 in
    let b_is : b ≡ other.0 = other.1 ∙ append-nil other.0 in
    let read_a : read l (a ++ x) ≡ Ok (v, x) = stands_read l (a ++ x) v x (subst (λ z. Stands l (z ++ x) v x) (sym a_is) (mine.2 x)) in
    let read_b : read l (b ++ y) ≡ Ok (w, y) = stands_read l (b ++ y) w y (subst (λ z. Stands l (z ++ y) w y) (sym b_is) (other.2 y)) in
    let same : (v, x) ≡ (w, y) = ok_is (v, x) (w, y) (sym read_a ∙ ap (read l) e ∙ read_b) in
    let rest_is : x ≡ y = ap (λ (p : A × List ℕ). p.1) same in
    (ap (λ (p : A × List ℕ). p.0) same, append_cancel_right a b x (e ∙ ap (λ (z : List ℕ). b ++ z) (sym rest_is)), rest_is)
