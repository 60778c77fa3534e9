-- What is known of the octets that a source has left and a sink has taken, over several calls.
-- A source or a sink that tells nothing is `None`, of which all of this holds.
use Rattle.std.proofs.Common.{◌≡◌, ℕ, ◌+◌, List, [], ◌++◌, take, drop, refl, sym, ◌∙◌, ap, subst, append_assoc}
use Rattle.std.specs.Prelude.{None, Some}
use Rattle.std.specs.declared.option.Option.{Option}
use Rattle.std.proofs.lemmas.List.{append-nil}
use Rattle.std.proofs.Math.Seq.{take-add}
use Rattle.std.specs.Io.KnownBytes.{Appends, Keeps, Consumes, prepend_known}
use Rattle.cds_base.specs.SourceReading.{GrowsByReading}

pub keeps_self : (known : Option (List ℕ)) → Keeps known known
keeps_self None = tt
keeps_self (Some xs) = refl

pub keeps_more : (a b c : Option (List ℕ)) → Keeps a b → Keeps b c → Keeps a c
keeps_more None b c first second = tt
keeps_more (Some p) None c first second = absurd first
keeps_more (Some p) (Some q) None first second = absurd second
keeps_more (Some p) (Some q) (Some r) first second = second ∙ first

-- ---- octets written

-- what is known of a sink is itself with no octets more after it
pub appends_none : (known : Option (List ℕ)) → Appends known known []
appends_none None = tt
appends_none (Some xs) = sym (append-nil xs)

-- what a sink takes in two turns is in it one after the other
pub appends_more : (a b c : Option (List ℕ)) (xs ys : List ℕ) → Appends a b xs → Appends b c ys → Appends a c (xs ++ ys)
appends_more None b c xs ys first second = tt
appends_more (Some p) None c xs ys first second = absurd first
appends_more (Some p) (Some q) None xs ys first second = absurd second
appends_more (Some p) (Some q) (Some r) xs ys first second = second ∙ ap (λ (l : List ℕ). l ++ ys) first ∙ append_assoc p xs ys

pub appends_kept : (a b c : Option (List ℕ)) (xs : List ℕ) → Appends a b xs → Keeps b c → Appends a c xs
appends_kept None b c xs first same = tt
appends_kept (Some p) None c xs first same = absurd first
appends_kept (Some p) (Some q) None xs first same = absurd same
appends_kept (Some p) (Some q) (Some r) xs first same = same ∙ first

-- octets that stay are none more
pub keeps_appends : (a b : Option (List ℕ)) → Keeps a b → Appends a b []
keeps_appends a b kept = appends_kept a a b [] (appends_none a) kept

-- one part more of a piece that goes out in parts
pub appends_part : (a b c : Option (List ℕ)) (piece : List ℕ) (m n : ℕ)
    → Appends a b (take m piece) → Appends b c (take n (drop m piece)) → Appends a c (take (m + n) piece)
appends_part a b c piece m n first second =
    let P : List ℕ → Type 0 = Appends a c in
    subst P (sym (take-add m n piece)) (appends_more a b c (take m piece) (take n (drop m piece)) first second)

-- ---- octets read

-- what is known of a source is itself with no octets taken off its front
pub consumes_self : (known : Option (List ℕ)) → Consumes known known []
consumes_self None = tt
consumes_self (Some xs) = refl

-- what is read of a source in two turns stood at its front one after the other
pub consumes_more : (a b c : Option (List ℕ)) (xs ys : List ℕ) → Consumes a b xs → Consumes b c ys → Consumes a c (xs ++ ys)
consumes_more None b c xs ys first second = tt
consumes_more (Some p) None c xs ys first second = absurd first
consumes_more (Some p) (Some q) None xs ys first second = absurd second
consumes_more (Some p) (Some q) (Some r) xs ys first second = first ∙ ap (λ (l : List ℕ). xs ++ l) second ∙ sym (append_assoc xs ys r)

pub consumes_kept : (a b c : Option (List ℕ)) (xs : List ℕ) → Consumes a b xs → Keeps b c → Consumes a c xs
consumes_kept None b c xs first same = tt
consumes_kept (Some p) None c xs first same = absurd first
consumes_kept (Some p) (Some q) None xs first same = absurd same
consumes_kept (Some p) (Some q) (Some r) xs first same = first ∙ ap (λ (l : List ℕ). xs ++ l) (sym same)

-- octets that stay are none taken
pub keeps_consumes : (a b : Option (List ℕ)) → Keeps a b → Consumes a b []
keeps_consumes a b kept = consumes_kept a a b [] (consumes_self a) kept

-- where no octet is held, what is held and left is what is left
pub consumes_none : (known : Option (List ℕ)) (held : List ℕ) → held ≡ [] → Consumes known (prepend_known held known) []
consumes_none None held none = tt
consumes_none (Some xs) held none = ap (λ (l : List ℕ). l ++ xs) (sym none)

-- what was taken and is still held has been read
pub reads_held : (a b left : Option (List ℕ)) (xs held : List ℕ) → Consumes a b xs → Keeps b (prepend_known held left) → Consumes a left (xs ++ held)
reads_held None b left xs held taken kept = tt
reads_held (Some p) None left xs held taken kept = absurd taken
reads_held (Some p) (Some q) None xs held taken kept = absurd kept
reads_held (Some p) (Some q) (Some r) xs held taken kept = taken ∙ ap (λ (l : List ℕ). xs ++ l) (sym kept) ∙ sym (append_assoc xs held r)

-- ---- octets held that grow by reading

-- nothing was read, and the octets are as they were
pub grows_none : (left left' : Option (List ℕ)) (octets octets' : List ℕ) → Keeps left left' → octets' ≡ octets → GrowsByReading left left' octets octets'
grows_none left left' octets octets' kept same = record {
  read = [];
  taken = keeps_consumes left left' kept;
  grown = same ∙ sym (append-nil octets);
}

-- octets that grew twice by reading grew once by both
pub grows_more : (a b c : Option (List ℕ)) (xs ys zs : List ℕ) → GrowsByReading a b xs ys → GrowsByReading b c ys zs → GrowsByReading a c xs zs
grows_more a b c xs ys zs first second = record {
  read = first.read ++ second.read;
  taken = consumes_more a b c first.read second.read first.taken second.taken;
  grown = second.grown ∙ ap (λ (l : List ℕ). l ++ second.read) first.grown ∙ append_assoc xs first.read second.read;
}

-- what is in front and is taken off was the front of what was held and what was left
pub grows_consumes : (left left' : Option (List ℕ)) (held held' front : List ℕ) → GrowsByReading left left' held (front ++ held')
    → Consumes (prepend_known held left) (prepend_known held' left') front
grows_consumes None left' held held' front grows = tt
grows_consumes (Some xs) None held held' front grows = absurd grows.taken
grows_consumes (Some xs) (Some ys) held held' front grows =
    ap (λ (l : List ℕ). held ++ l) grows.taken ∙ sym (append_assoc held grows.read ys)
    ∙ ap (λ (l : List ℕ). l ++ ys) (sym grows.grown) ∙ append_assoc front held' ys

-- what is held and what is left together stay
pub grows_keeps : (left left' : Option (List ℕ)) (held held' : List ℕ) → GrowsByReading left left' held held'
    → Keeps (prepend_known held left) (prepend_known held' left')
grows_keeps None left' held held' grows = tt
grows_keeps (Some xs) None held held' grows = absurd grows.taken
grows_keeps (Some xs) (Some ys) held held' grows =
    ap (λ (l : List ℕ). l ++ ys) grows.grown ∙ append_assoc held grows.read ys ∙ ap (λ (l : List ℕ). held ++ l) (sym grows.taken)
