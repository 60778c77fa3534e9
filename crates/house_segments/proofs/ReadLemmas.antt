-- The record at the front of octets, and a chain that is read record by record.
use Rattle.std.proofs.Common.{◌≡◌, ◌≢◌, ℕ, ◌+◌, ◌≤◌, ◌<◌, ◌==◌, nat_le, true, false, List, [], ◌∷◌, ◌++◌, length, take, drop, slice_index, refl, sym, ◌∙◌, ap, subst, inl, inr}
use Rattle.std.proofs.Common.{arith, append_assoc, append-nil, take-append-drop, length-append}
use Rattle.std.specs.Prelude.{Option, Some, None, IfNone}
use Rattle.std.proofs.lemmas.List.{append_cancel_left, drop-drop}
use Rattle.std.proofs.Math.Seq.{drop-append_seam, take-append_seam}
use Rattle.sha2.proofs.Facts256.{length-sha256}
use Rattle.std.proofs.lemmas.Bool.{and_from, and_left, and_right, eq-eqb, ne_eqb, le-leb, lt-leb}
use Rattle.house_journal.specs.JournalRecords.{gate_of, images, is_open, length_at}
use Rattle.house_journal.proofs.Readings.{few_shut}
use Rattle.house_journal.proofs.Records.{opened, closed, counted, uncounted}
use Rattle.house_segments.specs.Chains.{chained, digest_after, last_digest, sealed}
use Rattle.house_segments.specs.Reading.{EndedLater, IsLast, IsSegment, end_of}
use Rattle.house_segments.proofs.ChainLemmas.{chained-append, last_digest-append}

-- ---- the record at the front

pub front_open : (f : List ℕ) (n : ℕ) → slice_index f 0 ≡ 1 → n ≡ length_at f → n + 9 < length f
    → images f ≡ take n (drop 9 f) ∷ images (drop n (drop 9 f))
front_open f n on len long =
    let open_gate : is_open f ≡ true = and_from (slice_index f 0 == 1) (nat_le (length_at f + 10) (length f)) (eq-eqb (slice_index f 0) 1 on)
    (le-leb (length_at f + 10) (length f) (omega (arith, long, len))) in
    let same : n + 9 ≡ 9 + n = omega arith in
    opened f open_gate
    ∙ ap (λ (k : ℕ). take k (drop 9 f) ∷ images (drop (k + 9) f)) (sym len)
    ∙ ap (λ (l : List ℕ). take n (drop 9 f) ∷ images l) (ap (λ (k : ℕ). drop k f) same ∙ sym (drop-drop n 9 f))

-- the same of octets after an open gate
pub sized_open : (f : List ℕ) (n : ℕ) → n ≡ length_at (1 ∷ f) → n + 8 < length f → images (1 ∷ f) ≡ take n (drop 8 f) ∷ images (drop n (drop 8 f))
sized_open f n len long = front_open (1 ∷ f) n refl len (omega (arith, long))

pub few_none : (f : List ℕ) → length f < 10 → images f ≡ []
few_none f few = closed f (few_shut f few)

pub other_none : (f : List ℕ) → slice_index f 0 ≢ 1 → images f ≡ []
other_none f off = closed f (and_left (slice_index f 0 == 1) (nat_le (length_at f + 10) (length f)) (ne_eqb (slice_index f 0) 1 off))

pub long_none : (f : List ℕ) (n : ℕ) → n ≡ length_at f → length f ≤ n + 9 → images f ≡ []
long_none f n len long =
    closed f (and_right (slice_index f 0 == 1) (nat_le (length_at f + 10) (length f)) (lt-leb (length_at f + 10) (length f) (omega (arith, long, len))))

-- ---- the end of the list

shut_end : (f : List ℕ) → is_open f ≡ false → end_of f ≡ f
shut_end f shut = ap (λ (k : ℕ). drop k f) (uncounted f shut)

pub few_end : (f : List ℕ) → length f < 10 → end_of f ≡ f
few_end f few = shut_end f (few_shut f few)

pub other_end : (f : List ℕ) → slice_index f 0 ≢ 1 → end_of f ≡ f
other_end f off = shut_end f (and_left (slice_index f 0 == 1) (nat_le (length_at f + 10) (length f)) (ne_eqb (slice_index f 0) 1 off))

pub long_end : (f : List ℕ) (n : ℕ) → n ≡ length_at f → length f ≤ n + 9 → end_of f ≡ f
long_end f n len long =
    shut_end f (and_right (slice_index f 0 == 1) (nat_le (length_at f + 10) (length f)) (lt-leb (length_at f + 10) (length f) (omega (arith, long, len))))

pub sized_end : (f : List ℕ) (n : ℕ) → n ≡ length_at (1 ∷ f) → n + 8 < length f → end_of (1 ∷ f) ≡ end_of (drop n (drop 8 f))
sized_end f n len long =
    let all = 1 ∷ f in
    let open_gate : is_open all ≡ true = and_from (slice_index all 0 == 1) (nat_le (length_at all + 10) (length all)) (eq-eqb (slice_index all 0) 1 refl)
    (le-leb (length_at all + 10) (length all) (omega (arith, long, len))) in
    let same : length_at all + 9 ≡ 9 + n = omega (arith, len) in
    let behind : drop (length_at all + 9) all ≡ drop n (drop 8 f) = ap (λ (k : ℕ). drop k all) same ∙ sym (drop-drop n 9 all) in
    ap (λ (k : ℕ). drop k all) (counted all open_gate)
    ∙ sym (drop-drop (gate_of (drop (length_at all + 9) all)) (length_at all + 9) all)
    ∙ ap end_of behind

-- ---- records that are none of a chain

-- octets in two parts, of which the second are as many
same_parts : (a b c d : List ℕ) → a ++ b ≡ c ++ d → length b ≡ length d → (a ≡ c) × (b ≡ d)
same_parts a b c d same size =
    let left = length-append a b in
    let right = length-append c d in
    let all = ap length same in
    let front : length a ≡ length c = omega (arith, left, right, all, size) in (
      sym (take-append_seam a b) ∙ ap (take (length a)) same ∙ ap (λ (n : ℕ). take n (c ++ d)) front ∙ take-append_seam c d,
      sym (drop-append_seam a b) ∙ ap (drop (length a)) same ∙ ap (λ (n : ℕ). drop n (c ++ d)) front ∙ drop-append_seam c d,
    )

pub few_unsealed : (octets before : List ℕ) → length octets < 32 → (body : List ℕ) → octets ≢ sealed before body
few_unsealed octets before few body is =
    let size = length-append body (digest_after before body) in
    let digest = length-sha256 (before ++ body) in
    let same = ap length is in
    absurd (omega (arith, few, size, digest, same))

-- what is sealed ends in its digest
ends_so : (octets body last before other : List ℕ) → octets ≡ body ++ last → length last ≡ 32 → octets ≡ sealed before other
    → (body ≡ other) × (last ≡ digest_after before other)
ends_so octets body last before other split size is =
    same_parts body last other (digest_after before other) (sym split ∙ is) (size ∙ sym (length-sha256 (before ++ other)))

pub other_unsealed : (octets body last digest before : List ℕ) → octets ≡ body ++ last → length last ≡ 32 → digest ≡ digest_after before body → last ≢ digest
    → (other : List ℕ) → octets ≢ sealed before other
other_unsealed octets body last digest before split size says differs other is =
    let so = ends_so octets body last before other split size is in
    differs (so.1 ∙ ap (digest_after before) (sym so.0) ∙ sym says)

-- octets that are no head: they are too few; or one of their parts is another
pub few_head : (title octets : List ℕ) → length octets < 32 → (before : List ℕ) → length before ≡ 32 → octets ≢ sealed before (title ++ before)
few_head title octets few before size = few_unsealed octets before few (title ++ before)

pub short_head : (title octets body last : List ℕ) → octets ≡ body ++ last → length last ≡ 32 → length body < length title
    → (before : List ℕ) → length before ≡ 32 → octets ≢ sealed before (title ++ before)
short_head title octets body last split size few before long is =
    let so = ends_so octets body last before (title ++ before) split size is in
    let same = ap length so.0 in
    let all = length-append title before in
    absurd (omega (arith, few, same, all))

-- the parts of a head
head_parts : (title octets body last text before given : List ℕ) → octets ≡ body ++ last → length last ≡ 32 → body ≡ text ++ before
    → length text ≡ length title → octets ≡ sealed given (title ++ given) → (text ≡ title) × (before ≡ given) × (last ≡ digest_after given body)
head_parts title octets body last text before given split size parts long is =
    let so = ends_so octets body last given (title ++ given) split size is in
    let left = length-append text before in
    let right = length-append title given in
    let all = ap length (sym parts ∙ so.0) in
    let rest : length before ≡ length given = omega (arith, left, right, all, long) in
    let two = same_parts text before title given (sym parts ∙ so.0) rest in
    (two.0, two.1, so.1 ∙ ap (digest_after given) (sym so.0))

pub other_text : (title octets body last text before : List ℕ) → octets ≡ body ++ last → length last ≡ 32 → body ≡ text ++ before
    → length text ≡ length title → text ≢ title → (given : List ℕ) → length given ≡ 32 → octets ≢ sealed given (title ++ given)
other_text title octets body last text before split size parts long differs given sized is =
    differs (head_parts title octets body last text before given split size parts long is).0

pub other_size : (title octets body last text before : List ℕ) → octets ≡ body ++ last → length last ≡ 32 → body ≡ text ++ before
    → length text ≡ length title → length before ≢ 32 → (given : List ℕ) → length given ≡ 32 → octets ≢ sealed given (title ++ given)
other_size title octets body last text before split size parts long differs given sized is =
    differs (ap length (head_parts title octets body last text before given split size parts long is).1 ∙ sized)

pub other_end_of_head : (title octets body last text before digest : List ℕ) → octets ≡ body ++ last → length last ≡ 32 → body ≡ text ++ before
    → length text ≡ length title → digest ≡ digest_after before body → last ≢ digest
    → (given : List ℕ) → length given ≡ 32 → octets ≢ sealed given (title ++ given)
other_end_of_head title octets body last text before digest split size parts long says differs given sized is =
    let so = head_parts title octets body last text before given split size parts long is in
    differs (so.2 ∙ ap (λ (b : List ℕ). digest_after b body) (sym so.1) ∙ sym says)

-- ---- a list that ended later

pub none_ended : (before octets : List ℕ) → length octets ≡ 0 → EndedLater before octets → ⊥
none_ended before (b ∷ bs) none later = absurd (omega (arith, none))
none_ended before [] none (inl one) = absurd (cc (one))
none_ended before [] none (inr had) = absurd (cc (few_none (1 ∷ []) (omega arith), had.records))

pub had_more : (before octets next behind body following : List ℕ) (more : List (List ℕ)) → images (1 ∷ drop 1 octets) ≡ next ∷ images behind
    → next ≡ sealed before body → images behind ≡ following ∷ more → EndedLater before octets
had_more before octets next behind body following more list is behind_it = inr record {
  body = body;
  next = following;
  more = more;
  records = list ∙ ap (λ (r : List ℕ). r ∷ images behind) is ∙ ap (λ (l : List (List ℕ)). sealed before body ∷ l) behind_it;
}

-- two parts of octets
pub joined : (m : ℕ) (xs front back : List ℕ) → front ≡ take m xs → back ≡ drop m xs → xs ≡ front ++ back
joined m xs front back first rest =
    sym (take-append-drop m xs) ∙ ap (λ (l : List ℕ). l ++ drop m xs) (sym first) ∙ ap (λ (l : List ℕ). front ++ l) (sym rest)

-- ---- a chain

-- the head alone
pub head_is : (title octets body last text before digest : List ℕ) → octets ≡ body ++ last → body ≡ text ++ before → text ≡ title → last ≡ digest
    → digest ≡ digest_after before body → IsLast title (octets ∷ []) body digest
head_is title octets body last text before digest split parts same ends says = record {
  before = before;
  front = [];
  others = [];
  chain = ap (λ (r : List ℕ). r ∷ []) (split ∙ ap (λ (l : List ℕ). body ++ l) (ends ∙ says));
  says = says;
  head = ap (λ (b : List ℕ). b ∷ []) (parts ∙ ap (λ (t : List ℕ). t ++ before) same);
}

-- the records so far are a chain that ends in the last one, and the others follow
pub record IsReading (title octets rest body digest : List ℕ) : Type 0 where
  pub records : List (List ℕ)
  pub is : IsLast title records body digest
  pub split : images octets ≡ records ++ images rest
  pub ends : end_of octets ≡ end_of rest

pub reading_first : (title octets first rest body digest : List ℕ) → IsLast title (first ∷ []) body digest → images octets ≡ first ∷ images rest
    → end_of octets ≡ end_of rest → IsReading title octets rest body digest
reading_first title octets first rest body digest is split ends = record { records = first ∷ []; is = is; split = split; ends = ends }

pub reading_on : (title octets rest body digest next behind body' digest' : List ℕ) → IsReading title octets rest body digest
    → images rest ≡ next ∷ images behind → next ≡ sealed digest body' → digest' ≡ digest_after digest body'
    → end_of rest ≡ end_of behind → IsReading title octets behind body' digest'
reading_on title octets rest body digest next behind body' digest' so more whole ends on =
    let bodies = so.is.front ++ body ∷ [] in
    record {
      records = so.records ++ next ∷ [];
      is = record {
        before = so.is.before;
        front = bodies;
        others = so.is.others ++ body' ∷ [];
        chain =
            ap (λ (l : List (List ℕ)). l ++ next ∷ []) so.is.chain
            ∙ ap (λ (r : List ℕ). chained so.is.before bodies ++ r ∷ []) (whole ∙ ap (λ (d : List ℕ). sealed d body') so.is.says)
            ∙ sym (chained-append so.is.before bodies body');
        says = ends ∙ ap (λ (d : List ℕ). digest_after d body') so.is.says ∙ sym (last_digest-append so.is.before bodies body');
        head = ap (λ (l : List (List ℕ)). l ++ body' ∷ []) so.is.head;
      };
      split = so.split ∙ ap (λ (l : List (List ℕ)). so.records ++ l) more ∙ sym (append_assoc so.records (next ∷ []) (images behind));
      ends = so.ends ∙ on;
    }

pub reading_ends : (title octets rest body digest : List ℕ) → IsReading title octets rest body digest → images rest ≡ [] → IsLast title (images octets) body digest
reading_ends title octets rest body digest so none =
    subst (λ (l : List (List ℕ)). IsLast title l body digest)
    (sym (so.split ∙ ap (λ (l : List (List ℕ)). so.records ++ l) none ∙ append-nil so.records)) so.is

-- ---- octets that are no segment

first_in : List (List ℕ) → List ℕ
first_in [] = []
first_in (r ∷ rs) = r

others_in : List (List ℕ) → List (List ℕ)
others_in [] = []
others_in (r ∷ rs) = rs

-- a record says its body
same_body : (before x y : List ℕ) → sealed before x ≡ sealed before y → x ≡ y
same_body before x y same =
    (same_parts x (digest_after before x) y (digest_after before y) same (length-sha256 (before ++ x) ∙ sym (length-sha256 (before ++ y)))).0

-- what follows the front of a chain is a chain
pub record GoesOn (before : List ℕ) (xs ys more : List (List ℕ)) : Type 0 where
  pub others : List (List ℕ)
  pub bodies : ys ≡ xs ++ others
  pub chain : more ≡ chained (last_digest before xs) others

pub chain_on : (before : List ℕ) (xs ys more : List (List ℕ)) → chained before xs ++ more ≡ chained before ys → GoesOn before xs ys more
unfolding first_in others_in
chain_on before [] ys more same = record { others = ys; bodies = refl; chain = same }
chain_on before (x ∷ xs) [] more same = absurd (cc (same))
chain_on before (x ∷ xs) (y ∷ ys) more same =
    let first = same_body before x y (ap first_in same) in
    let rest : chained (digest_after before x) xs ++ more ≡ chained (digest_after before x) ys =
    ap others_in same ∙ ap (λ (b : List ℕ). chained (digest_after before b) ys) (sym first) in
    let on = chain_on (digest_after before x) xs ys more rest in
    record {
      others = on.others;
      bodies = ap (λ (b : List ℕ). b ∷ ys) (sym first) ∙ ap (λ (l : List (List ℕ)). x ∷ l) on.bodies;
      chain = on.chain;
    }

-- the heads of two chains of one title, one of which goes on, follow one digest
pub same_before : (title before given : List ℕ) (xs ys more : List (List ℕ))
    → chained before ((title ++ before) ∷ xs) ++ more ≡ chained given ((title ++ given) ∷ ys) → before ≡ given
unfolding first_in
same_before title before given xs ys more same =
    let heads : sealed before (title ++ before) ≡ sealed given (title ++ given) = ap first_in same in
    append_cancel_left title before given
    (same_parts (title ++ before) (digest_after before (title ++ before)) (title ++ given) (digest_after given (title ++ given)) heads
    (length-sha256 (before ++ (title ++ before)) ∙ sym (length-sha256 (given ++ (title ++ given))))).0

-- the records that were read are the front of the segment's
so_far : (title octets rest body digest : List ℕ) → (so : IsReading title octets rest body digest) → (is : IsSegment title octets)
    → GoesOn is.before (so.is.front ++ body ∷ []) ((title ++ is.before) ∷ is.others) (images rest) × (digest ≡ last_digest is.before (so.is.front ++ body ∷ []))
so_far title octets rest body digest so is =
    let bodies = so.is.front ++ body ∷ [] in
    let whole : chained so.is.before bodies ++ images rest ≡ chained is.before ((title ++ is.before) ∷ is.others) =
    ap (λ (l : List (List ℕ)). l ++ images rest) (sym so.is.chain) ∙ sym so.split ∙ is.chain in
    let one = same_before title so.is.before is.before so.is.others is.others (images rest)
    (ap (λ (l : List (List ℕ)). chained so.is.before l ++ images rest) (sym so.is.head) ∙ whole) in (
      chain_on is.before bodies ((title ++ is.before) ∷ is.others) (images rest)
          (ap (λ (b : List ℕ). chained b bodies ++ images rest) (sym one) ∙ whole),
      so.is.says ∙ ap (λ (b : List ℕ). last_digest b bodies) one,
    )

pub none_segment : (title octets : List ℕ) → images octets ≡ [] → IsSegment title octets → ⊥
none_segment title octets none is = absurd (cc (none, is.chain))

pub headless : (title octets first rest : List ℕ) → images octets ≡ first ∷ images rest
    → ((before : List ℕ) → length before ≡ 32 → first ≢ sealed before (title ++ before)) → IsSegment title octets → ⊥
unfolding first_in
headless title octets first rest split none is = none is.before is.size (ap first_in (sym split ∙ is.chain))

-- the next record comes after those that were read
next_of : (digest next : List ℕ) (others more : List (List ℕ)) → next ∷ more ≡ chained digest others → ((body : List ℕ) → next ≢ sealed digest body) → ⊥
unfolding first_in
next_of digest next [] more same none = absurd (cc (same))
next_of digest next (b ∷ others) more same none = none b (ap first_in same)

pub unchained : (title octets rest body digest next behind : List ℕ) → IsReading title octets rest body digest → images rest ≡ next ∷ images behind
    → ((body : List ℕ) → next ≢ sealed digest body) → IsSegment title octets → ⊥
unchained title octets rest body digest next behind so more none is =
    let on = so_far title octets rest body digest so is in
    next_of digest next on.0.others (images behind) (sym more ∙ on.0.chain ∙ ap (λ (d : List ℕ). chained d on.0.others) (sym on.1)) none

-- all were read
chain_ends : (digest : List ℕ) (others : List (List ℕ)) → [] ≡ chained digest others → others ≡ []
chain_ends digest [] none = refl
chain_ends digest (b ∷ others) none = absurd (cc (none))

pub ended_later : (title octets rest body digest : List ℕ) → IsReading title octets rest body digest → images rest ≡ [] → end_of rest ≡ rest
    → EndedLater digest rest → IsSegment title octets → ⊥
ended_later title octets rest body digest so none at later is =
    let on = so_far title octets rest body digest so is in
    let bodies = so.is.front ++ body ∷ [] in
    let empty = chain_ends (last_digest is.before bodies) on.0.others (sym none ∙ on.0.chain) in
    let all : (title ++ is.before) ∷ is.others ≡ bodies =
    on.0.bodies ∙ ap (λ (l : List (List ℕ)). bodies ++ l) empty ∙ append-nil bodies in
    is.ends
    (subst (λ (e : List ℕ). EndedLater (last_digest is.before ((title ++ is.before) ∷ is.others)) e) (sym (so.ends ∙ at))
    (subst (λ (d : List ℕ). EndedLater d rest) (on.1 ∙ ap (last_digest is.before) (sym all)) later))

pub not_later : (octets rest digest title body : List ℕ) → IsReading title octets rest body digest → end_of rest ≡ rest
    → (EndedLater digest rest → ⊥) → EndedLater digest (end_of octets) → ⊥
not_later octets rest digest title body so at none later = none (subst (EndedLater digest) (so.ends ∙ at) later)

-- what holds where there is no value
pub none_of : {T : Type 0} (o : Option T) (P : Type 0) → P → IfNone o P
none_of None P p = p
none_of (Some x) P p = tt
