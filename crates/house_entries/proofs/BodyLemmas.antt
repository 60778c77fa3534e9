-- Bodies of records, field by field.
use Rattle.std.proofs.Common.{◌≡◌, ◌≢◌, ◌+◌, ◌<◌, ◌≤◌, ◌^◌, ◌-◌, ℕ, zero, suc, List, [], ◌∷◌, ◌++◌, length, take, drop, get_or, slice_index, ap, sym, ◌∙◌, subst, refl, arith}
use Rattle.std.proofs.Common.{append_assoc, length-append, length-drop, take-append-drop}
use Rattle.std.specs.Prelude.{Option, Some, None}
use Rattle.std.specs.Int.{to_be_bytes, from_be_bytes, w32, w64}
use Rattle.std.proofs.lemmas.List.{append_cancel_left, drop-drop, get_or-drop, length-take-le, take_all}
use Rattle.std.proofs.lemmas.Nat.{from_be_bytes-to_be_bytes_4, from_be_bytes-to_be_bytes_8, be_bytes_4, be_bytes_8}
use Rattle.std.proofs.Math.Seq.{drop-append_seam, drop-cons, take-append_seam}
use Rattle.house_entries.specs.Bodies.{IsBody, body_of, image_in, mark_of}

-- ---- one record

-- a number in front, and what follows it
eight : (n m : ℕ) (xs ys : List ℕ) → n < 2 ^ 64 → m < 2 ^ 64 → to_be_bytes w64 n ++ xs ≡ to_be_bytes w64 m ++ ys → (n ≡ m) × (xs ≡ ys)
eight n m xs ys low low' e =
    let same : to_be_bytes w64 n ≡ to_be_bytes w64 m = ap (λ (l : List ℕ). take 8 l) e in
    (sym (from_be_bytes-to_be_bytes_8 n low) ∙ ap (λ (l : List ℕ). from_be_bytes w64 l) same ∙ from_be_bytes-to_be_bytes_8 m low', ap (λ (l : List ℕ). drop 8 l) e)

-- a length in front, and what follows it
four : (n m : ℕ) (xs ys : List ℕ) → n < 2 ^ 32 → m < 2 ^ 32 → to_be_bytes w32 n ++ xs ≡ to_be_bytes w32 m ++ ys → (n ≡ m) × (xs ≡ ys)
four n m xs ys low low' e =
    let same : to_be_bytes w32 n ≡ to_be_bytes w32 m = ap (λ (l : List ℕ). take 4 l) e in
    (sym (from_be_bytes-to_be_bytes_4 n low) ∙ ap (λ (l : List ℕ). from_be_bytes w32 l) same ∙ from_be_bytes-to_be_bytes_4 m low', ap (λ (l : List ℕ). drop 4 l) e)

-- texts of one length, and what follows them
texts : (t t' xs ys : List ℕ) → length t ≡ length t' → t ++ xs ≡ t' ++ ys → (t ≡ t') × (xs ≡ ys)
texts t t' xs ys same e =
    let first : t ≡ t' = sym (take-append_seam t xs) ∙ ap (λ (n : ℕ). take n (t ++ xs)) same ∙ ap (λ (l : List ℕ). take (length t') l) e ∙ take-append_seam t' ys in
    (first, append_cancel_left t' xs ys (ap (λ (l : List ℕ). l ++ xs) (sym first) ∙ e))

-- a mark and the octets after the text are those of one image
images : (i j : Option (List ℕ)) → mark_of i ≡ mark_of j → image_in i ≡ image_in j → i ≡ j
images None None mark rest = refl
images None (Some b) mark rest = absurd (cc)
images (Some a) None mark rest = absurd (cc)
images (Some a) (Some b) mark rest = ap (λ (x : List ℕ). Some x) rest

-- octets are the body of one record
pub one_record : (octets : List ℕ) (n c : ℕ) (t : List ℕ) (i : Option (List ℕ)) (n' c' : ℕ) (t' : List ℕ) (i' : Option (List ℕ))
    → IsBody octets n c t i → IsBody octets n' c' t' i' → (n ≡ n') × (c ≡ c') × (t ≡ t') × (i ≡ i')
one_record octets n c t i n' c' t' i' one other =
    let same : body_of n c t i ≡ body_of n' c' t' i' = sym one.octets_are ∙ other.octets_are in
    let number = eight n n' _ _ one.numbered other.numbered same in
    let clock = eight c c' _ _ one.timed other.timed number.1 in
    let mark : mark_of i ≡ mark_of i' = ap (λ (l : List ℕ). slice_index l 0) clock.1 in
    let len = four (length t) (length t') _ _ one.short other.short (ap (λ (l : List ℕ). drop 1 l) clock.1) in
    let text = texts t t' _ _ len.0 len.1 in
    (number.0, clock.0, text.0, images i i' mark text.1)

-- ---- what is read of a body

-- the fields of octets that are a body
pub record Fields (octets : List ℕ) (t : List ℕ) (i : Option (List ℕ)) : Type 0 where
  pub long : 21 + length t ≤ length octets
  pub len : length t ≡ from_be_bytes w32 (take 4 (drop 17 (take 21 octets)))
  pub mark : slice_index (take 21 octets) 16 ≡ mark_of i
  pub rest : drop (length t) (drop 21 octets) ≡ image_in i

fields : (octets : List ℕ) (n c : ℕ) (t : List ℕ) (i : Option (List ℕ)) → IsBody octets n c t i → Fields octets t i
fields octets n c t i is = subst (λ (l : List ℕ). Fields l t i) (sym is.octets_are) (record {
  long = let len = length-append t (image_in i) in omega (arith, len);
  len = sym (from_be_bytes-to_be_bytes_4 (length t) is.short);
  mark = refl;
  rest = drop-append_seam t (image_in i);
})

pub few_octets : (octets : List ℕ) (n c : ℕ) (t : List ℕ) (i : Option (List ℕ)) → length octets < 21 → IsBody octets n c t i → ⊥
few_octets octets n c t i few is = let long = (fields octets n c t i is).long in omega (arith, long, few)

pub text_fits : (octets front rest : List ℕ) (len n c : ℕ) (t : List ℕ) (i : Option (List ℕ)) → front ≡ take 21 octets → rest ≡ drop 21 octets
    → len ≡ from_be_bytes w32 (take 4 (drop 17 front)) → length rest < len → IsBody octets n c t i → ⊥
text_fits octets front rest len n c t i first last is long body =
    let so = fields octets n c t i body in
    let same : len ≡ length t = is ∙ ap (λ (l : List ℕ). from_be_bytes w32 (take 4 (drop 17 l))) first ∙ sym so.len in
    let left : length rest ≡ length (drop 21 octets) = ap (λ (l : List ℕ). length l) last in
    let size = length-drop 21 octets in
    let more = so.long in
    omega (arith, same, left, size, more, long)

pub image_fits : (octets front rest tail : List ℕ) (len mark n c : ℕ) (t : List ℕ) (i : Option (List ℕ)) → front ≡ take 21 octets → rest ≡ drop 21 octets
    → len ≡ from_be_bytes w32 (take 4 (drop 17 front)) → tail ≡ drop len rest → mark ≡ slice_index front 16
    → ((j : Option (List ℕ)) → mark ≡ mark_of j → tail ≢ image_in j) → IsBody octets n c t i → ⊥
image_fits octets front rest tail len mark n c t i first last is after at none body =
    let so = fields octets n c t i body in
    let same : len ≡ length t = is ∙ ap (λ (l : List ℕ). from_be_bytes w32 (take 4 (drop 17 l))) first ∙ sym so.len in
    none i (at ∙ ap (λ (l : List ℕ). slice_index l 16) first ∙ so.mark)
    (after ∙ ap (λ (k : ℕ). drop k rest) same ∙ ap (λ (l : List ℕ). drop (length t) l) last ∙ so.rest)

-- ---- octets that are read as a body

-- a part of octets is octets
taken : (n : ℕ) (l : List ℕ) → ((k : ℕ) → get_or l k 0 < 256) → (k : ℕ) → get_or (take n l) k 0 < 256
taken zero l low k = omega arith
taken (suc n) [] low k = omega arith
taken (suc n) (x ∷ l) low zero = low 0
taken (suc n) (x ∷ l) low (suc k) = taken n l (λ j. low (suc j)) k

low_part : (at n : ℕ) (f : List ℕ) → ((k : ℕ) → get_or f k 0 < 256) → (k : ℕ) → get_or (take n (drop at f)) k 0 < 256
low_part at n f low = taken n (drop at f) (λ k. subst (λ (x : ℕ). x < 256) (sym (get_or-drop at f k 0)) (low (at + k)))

-- the fields in front, one by one
fields_are : (ns cs ls : List ℕ) (m : ℕ) (ns' cs' ls' : List ℕ) (m' : ℕ) → ns ≡ ns' → cs ≡ cs' → m ≡ m' → ls ≡ ls'
    → ns ++ (cs ++ (m ∷ ls)) ≡ ns' ++ (cs' ++ (m' ∷ ls'))
fields_are ns cs ls m ns' cs' ls' m' n c k l =
    ap (λ (x : List ℕ). x ++ (cs ++ (m ∷ ls))) n ∙ ap (λ (x : List ℕ). ns' ++ (x ++ (m ∷ ls))) c
    ∙ ap (λ (x : ℕ). ns' ++ (cs' ++ (x ∷ ls))) k ∙ ap (λ (x : List ℕ). ns' ++ (cs' ++ (m' ∷ x))) l

-- the fields in front, and what follows them
joined : (front rest ns cs ls : List ℕ) (m : ℕ) (tail : List ℕ) → front ≡ ns ++ (cs ++ (m ∷ ls)) → rest ≡ tail
    → front ++ rest ≡ ns ++ (cs ++ (m ∷ (ls ++ tail)))
joined front rest ns cs ls m tail first last =
    ap (λ (x : List ℕ). x ++ rest) first ∙ ap (λ (x : List ℕ). (ns ++ (cs ++ (m ∷ ls))) ++ x) last
    ∙ append_assoc ns (cs ++ (m ∷ ls)) tail ∙ ap (λ (x : List ℕ). ns ++ x) (append_assoc cs (m ∷ ls) tail)

-- the front of a body: two numbers, a mark and a length
front_parts : (f : List ℕ) → length f ≡ 21
    → f ≡ take 8 f ++ (take 8 (drop 8 f) ++ (slice_index f 16 ∷ take 4 (drop 17 f)))
front_parts f len =
    let later : drop 8 f ≡ take 8 (drop 8 f) ++ drop 16 f = sym (take-append-drop 8 (drop 8 f)) ∙ ap (λ (l : List ℕ). take 8 (drop 8 f) ++ l) (drop-drop 8 8 f) in
    let mark : drop 16 f ≡ slice_index f 16 ∷ drop 17 f = drop-cons f 16 0 (omega (arith, len)) in
    let size : length (drop 17 f) ≡ 21 - 17 = length-drop 17 f ∙ ap (λ (k : ℕ). k - 17) len in
    let last : drop 17 f ≡ take 4 (drop 17 f) = sym (take_all 4 (drop 17 f) (omega (arith, size))) in
    let tail : drop 16 f ≡ slice_index f 16 ∷ take 4 (drop 17 f) = mark ∙ ap (λ (l : List ℕ). slice_index f 16 ∷ l) last in
    sym (take-append-drop 8 f) ∙ ap (λ (l : List ℕ). take 8 f ++ l) (later ∙ ap (λ (l : List ℕ). take 8 (drop 8 f) ++ l) tail)

-- eight or four octets are those of their number
eight_are : (f : List ℕ) (at n : ℕ) → ((k : ℕ) → get_or f k 0 < 256) → at + 8 ≤ length f → n ≡ from_be_bytes w64 (take 8 (drop at f))
    → to_be_bytes w64 n ≡ take 8 (drop at f)
eight_are f at n low long is =
    let size = length-drop at f in
    be_bytes_8 (take 8 (drop at f)) n (length-take-le 8 (drop at f) (omega (arith, size, long))) (low_part at 8 f low) is

four_are : (f : List ℕ) (at n : ℕ) → ((k : ℕ) → get_or f k 0 < 256) → at + 4 ≤ length f → n ≡ from_be_bytes w32 (take 4 (drop at f))
    → to_be_bytes w32 n ≡ take 4 (drop at f)
four_are f at n low long is =
    let size = length-drop at f in
    be_bytes_4 (take 4 (drop at f)) n (length-take-le 4 (drop at f) (omega (arith, size, long))) (low_part at 4 f low) is

pub body_is : (octets front rest text tail : List ℕ) (n c len mark : ℕ) (i : Option (List ℕ)) → ((k : ℕ) → get_or octets k 0 < 256) → 21 ≤ length octets
    → front ≡ take 21 octets → rest ≡ drop 21 octets → len ≡ from_be_bytes w32 (take 4 (drop 17 front)) → len ≤ length rest
    → text ≡ take len rest → tail ≡ drop len rest → n ≡ from_be_bytes w64 (take 8 (drop 0 front)) → c ≡ from_be_bytes w64 (take 8 (drop 8 front))
    → mark ≡ slice_index front 16 → mark ≡ mark_of i → tail ≡ image_in i → n < 2 ^ 64 → c < 2 ^ 64 → len < 2 ^ 32
    → IsBody octets n c text i
body_is octets front rest text tail n c len mark i low long first last is fits body after number clock at marked image low_n low_c low_len =
    let size : length front ≡ 21 = ap (λ (l : List ℕ). length l) first ∙ length-take-le 21 octets long in
    let octet : (k : ℕ) → get_or front k 0 < 256 = λ k. subst (λ (l : List ℕ). get_or l k 0 < 256) (sym first) (low_part 0 21 octets low k) in
    let text_len : length text ≡ len = ap (λ (l : List ℕ). length l) body ∙ length-take-le len rest fits in
    let ns : take 8 front ≡ to_be_bytes w64 n = sym (eight_are front 0 n octet (omega (arith, size)) number) in
    let cs : take 8 (drop 8 front) ≡ to_be_bytes w64 c = sym (eight_are front 8 c octet (omega (arith, size)) clock) in
    let ls : take 4 (drop 17 front) ≡ to_be_bytes w32 (length text) =
    sym (four_are front 17 len octet (omega (arith, size)) is) ∙ ap (λ (k : ℕ). to_be_bytes w32 k) (sym text_len) in
    let whole : octets ≡ front ++ rest = sym (take-append-drop 21 octets) ∙ ap (λ (l : List ℕ). l ++ drop 21 octets) (sym first) ∙ ap (λ (l : List ℕ). front ++ l) (sym last) in
    let ends : rest ≡ text ++ image_in i =
    sym (take-append-drop len rest) ∙ ap (λ (l : List ℕ). l ++ drop len rest) (sym body) ∙ ap (λ (l : List ℕ). text ++ l) (sym after ∙ image) in
    record {
      numbered = low_n;
      timed = low_c;
      short = subst (λ (k : ℕ). k < 2 ^ 32) (sym text_len) low_len;
      octets_are =
          whole ∙ joined front rest (to_be_bytes w64 n) (to_be_bytes w64 c) (to_be_bytes w32 (length text)) (mark_of i) (text ++ image_in i)
          (front_parts front size ∙ fields_are (take 8 front) (take 8 (drop 8 front)) (take 4 (drop 17 front)) (slice_index front 16) _ _ _ _ ns cs (sym at ∙ marked) ls) ends;
    }
