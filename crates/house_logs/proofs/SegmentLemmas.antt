-- Segments: a head, and the records after it.
use Rattle.std.proofs.Common.{◌≡◌, ◌≢◌, ℕ, ◌+◌, inl, inr, true, false, List, [], ◌∷◌, ◌++◌, length, take, drop, refl, sym, ◌∙◌, ap, subst, append_assoc, append-nil, length-append, arith}
use Rattle.std.specs.Prelude.{codes, decimal}
use Rattle.std.specs.Bool.{Decides}
use Rattle.std.proofs.lemmas.Bool.{false≢true}
use Rattle.std.proofs.lemmas.List.{append_cancel_left}
use Rattle.std.proofs.Math.Seq.{take-append_seam}
use Rattle.sha2.proofs.Facts256.{length-sha256}
use Rattle.house_entries.specs.Bodies.{head_of}
use Rattle.house_journal.specs.JournalRecords.{images}
use Rattle.house_segments.specs.Chains.{chained, digest_after, last_digest, sealed}
use Rattle.house_segments.specs.Reading.{EndedLater, IsLast, IsSegment as IsWhole, end_of}
use Rattle.house_segments.proofs.ChainLemmas.{chained-append, last_digest-append}
use Rattle.house_segments.proofs.ReadLemmas.{GoesOn, chain_on, same_before}
use Rattle.house_logs.specs.declared.fault.LogFault.{LogFault}
use Rattle.house_logs.specs.declared.fault.LogFault.TheVariants as why
use Rattle.house_logs.specs.declared.reader.Chain.{Chain}
use Rattle.house_logs.specs.declared.reader.Head.{Head}
use Rattle.house_logs.specs.declared.reader.LogReader.{LogReader}
use Rattle.house_logs.specs.Faults.{BreaksOff, HasNoHead, IsFaultOf, IsOfNext, IsOfOther, IsOfRecord, IsOtherHead, NamesOther}
use Rattle.house_logs.specs.Logs.{AreOfHouse, HasEnded, IsSegment, digest_in, records_of}
use Rattle.house_logs.specs.PrivateReads.{GoesNotOn, IsAfterHead, ReadsChain, StopsAt}
use Rattle.house_logs.specs.Reads.{HasRead, ReadsFront}
use Rattle.house_logs.proofs.RecordLemmas.{house_front}
use Rattle.house_logs.proofs.TextLemmas.{same_parts}

-- ---- heads

-- a head is its text and the digest that it names
pub head_joined : (number : ℕ) (before : List ℕ) → head_of number [] ++ before ≡ head_of number before
head_joined number before =
    append_assoc (codes "cdshouse journal 2 ") (decimal number ++ 10 ∷ []) before
    ∙ ap (λ (l : List ℕ). codes "cdshouse journal 2 " ++ l) (append_assoc (decimal number) (10 ∷ []) before)

pub titled : (number : ℕ) (title before : List ℕ) → title ≡ head_of number [] → title ++ before ≡ head_of number before
titled number title before is = ap (λ (t : List ℕ). t ++ before) is ∙ head_joined number before

sealed_parts : (title given : List ℕ) → sealed given (title ++ given) ≡ title ++ (given ++ digest_after given (title ++ given))
sealed_parts title given = append_assoc title given (digest_after given (title ++ given))

-- octets that are no head: they begin otherwise; too few or too many follow; or the digest differs
pub untitled : (title head : List ℕ) → ((rest : List ℕ) → head ≢ title ++ rest) → (given : List ℕ) → length given ≡ 32 → head ≢ sealed given (title ++ given)
untitled title head other given size is = other (given ++ digest_after given (title ++ given)) (is ∙ sealed_parts title given)

ends_are : (title head ends given : List ℕ) → head ≡ title ++ ends → head ≡ sealed given (title ++ given) → ends ≡ given ++ digest_after given (title ++ given)
ends_are title head ends given parts is =
    append_cancel_left title ends (given ++ digest_after given (title ++ given)) (sym parts ∙ is ∙ sealed_parts title given)

pub missized : (title head ends : List ℕ) → head ≡ title ++ ends → length ends ≢ 64 → (given : List ℕ) → length given ≡ 32 → head ≢ sealed given (title ++ given)
missized title head ends parts other given size is =
    let all = ap length (ends_are title head ends given parts is) in
    let sum = length-append given (digest_after given (title ++ given)) in
    let digest = length-sha256 (given ++ (title ++ given)) in
    other (omega (arith, all, sum, digest, size))

pub unsealed_head : (title head ends before : List ℕ) → head ≡ title ++ ends → before ≡ take 32 ends → ((body : List ℕ) → head ≢ sealed before body)
    → (given : List ℕ) → length given ≡ 32 → head ≢ sealed given (title ++ given)
unsealed_head title head ends before parts front none given size is =
    let same : before ≡ given =
    front ∙ ap (take 32) (ends_are title head ends given parts is) ∙ ap (λ (n : ℕ). take n (given ++ digest_after given (title ++ given))) (sym size)
    ∙ take-append_seam given (digest_after given (title ++ given)) in
    none (title ++ given) (is ∙ ap (λ (d : List ℕ). sealed d (title ++ given)) (sym same))

-- the body of a head
pub head_body : (title head ends before back body : List ℕ) → head ≡ title ++ ends → ends ≡ before ++ back → length back ≡ 32 → head ≡ sealed before body
    → body ≡ title ++ before
head_body title head ends before back body parts split size is =
    let whole : (title ++ before) ++ back ≡ body ++ digest_after before body =
    append_assoc title before back ∙ ap (λ (l : List ℕ). title ++ l) (sym split) ∙ sym parts ∙ is in
    sym (same_parts (title ++ before) back body (digest_after before body) whole (size ∙ sym (length-sha256 (before ++ body)))).0

-- ---- heads of other versions

pub no_head : (head : List ℕ) → ((rest : List ℕ) → head ≢ codes "cdshouse journal " ++ rest) → Decides false (IsOtherHead head)
no_head head none = (λ e. absurd (false≢true e), λ is. absurd (none is.begins.0 is.begins.1))

pub this_head : (head rest : List ℕ) → head ≡ codes "cdshouse journal 2 " ++ rest → Decides false (IsOtherHead head)
this_head head rest parts = (λ e. absurd (false≢true e), λ is. absurd (is.other rest parts))

pub other_head : (head rest : List ℕ) → head ≡ codes "cdshouse journal " ++ rest → ((behind : List ℕ) → head ≢ codes "cdshouse journal 2 " ++ behind)
    → Decides true (IsOtherHead head)
other_head head rest parts none = (λ e. record { begins = (rest, parts); other = none }, λ is. refl)

-- ---- faults of heads

pub none_fault : (number : ℕ) (before : List ℕ) (bodies : List (List ℕ)) (octets : List ℕ) → images octets ≡ []
    → IsFaultOf number before bodies octets [] (why.Damaged number 1)
none_fault number before bodies octets none = (refl, inl (refl, refl, subst (HasNoHead number) (sym none) tt))

pub other_fault : (number : ℕ) (before : List ℕ) (bodies : List (List ℕ)) (octets head : List ℕ) (records : List (List ℕ)) → images octets ≡ head ∷ records
    → IsOtherHead head → IsFaultOf number before bodies octets [] (why.OtherVersion number)
other_fault number before bodies octets head records is other = (refl, refl, subst IsOfOther (sym is) other)

pub headless_fault : (number : ℕ) (title before : List ℕ) (bodies : List (List ℕ)) (octets head : List ℕ) (records : List (List ℕ))
    → title ≡ head_of number [] → images octets ≡ head ∷ records → ¬ IsOtherHead head
    → ((given : List ℕ) → length given ≡ 32 → head ≢ sealed given (title ++ given)) → IsFaultOf number before bodies octets [] (why.Damaged number 1)
headless_fault number title before bodies octets head records is split other none = (
  refl,
  inl (
    refl,
    refl,
    subst (HasNoHead number) (sym split)
        (other, λ given h. none given h.size (h.is ∙ ap (λ (b : List ℕ). sealed given b) (sym (titled number title given is)))),
  ),
)

pub next_fault : (number : ℕ) (title before given : List ℕ) (bodies : List (List ℕ)) (octets head : List ℕ) (records : List (List ℕ))
    → title ≡ head_of number [] → images octets ≡ head ∷ records → length given ≡ 32 → head ≡ sealed given (title ++ given) → given ≢ before
    → IsFaultOf number before bodies octets [] (why.NotNext number)
next_fault number title before given bodies octets head records is split size seal differs = (
  refl,
  refl,
  subst (NamesOther number before) (sym split)
      (given, record { size = size; is = seal ∙ ap (λ (b : List ℕ). sealed given b) (titled number title given is) }, differs),
)

pub after_head : (number : ℕ) (title before given octets head : List ℕ) (h : Head) → title ≡ head_of number [] → images octets ≡ head ∷ images h.rest.now
    → length given ≡ 32 → head ≡ sealed given (title ++ given) → h.digest ≡ digest_after given (title ++ given) → given ≡ before
    → IsAfterHead number before octets h
after_head number title before given octets head h is split size seal digest same =
    subst (λ (d : List ℕ). IsAfterHead number d octets h) same (record {
      size = size;
      records =
          split
          ∙ ap (λ (r : List ℕ). r ∷ images h.rest.now) (seal ∙ ap (λ (b : List ℕ). sealed given b) (titled number title given is));
      digest = digest ∙ ap (λ (b : List ℕ). digest_after given b) (titled number title given is);
    })

-- ---- records, one after the other

-- the records at the front of octets were read, and the others follow
pub record HasChained (before octets rest digest : List ℕ) (bodies : List (List ℕ)) (place : ℕ) (r : LogReader) : Type 0 where
  pub done : List (List ℕ)
  pub split : images octets ≡ chained before done ++ images rest
  pub last : digest ≡ last_digest before done
  pub read : HasRead r (bodies ++ done)
  pub next : place ≡ length done + 2

-- nothing was read yet
pub chained_none : (before octets : List ℕ) (bodies : List (List ℕ)) (r : LogReader) → HasRead r bodies → HasChained before octets octets before bodies 2 r
chained_none before octets bodies r has = record {
  done = [];
  split = refl;
  last = refl;
  read = subst (HasRead r) (sym (append-nil bodies)) has;
  next = refl;
}

split_more : (before octets rest digest next body behind : List ℕ) (done : List (List ℕ)) → images octets ≡ chained before done ++ images rest
    → digest ≡ last_digest before done → images rest ≡ next ∷ images behind → next ≡ sealed digest body
    → images octets ≡ chained before (done ++ body ∷ []) ++ images behind
split_more before octets rest digest next body behind done split last more is =
    split
    ∙ ap (λ (l : List (List ℕ)). chained before done ++ l) (more ∙ ap (λ (r : List ℕ). r ∷ images behind) (is ∙ ap (λ (d : List ℕ). sealed d body) last))
    ∙ sym (append_assoc (chained before done) (sealed (last_digest before done) body ∷ []) (images behind))
    ∙ ap (λ (l : List (List ℕ)). l ++ images behind) (sym (chained-append before done body))

-- one record more was read
pub chained_more : (before octets rest digest next body behind digest' : List ℕ) (bodies : List (List ℕ)) (place place' : ℕ) (old new : LogReader)
    → (has : HasChained before octets rest digest bodies place old) → images rest ≡ next ∷ images behind → next ≡ sealed digest body
    → digest' ≡ digest_after digest body → place' ≡ place + 1 → ((bs : List (List ℕ)) → HasRead old bs → HasRead new (bs ++ body ∷ []))
    → HasChained before octets behind digest' bodies place' new
chained_more before octets rest digest next body behind digest' bodies place place' old new has more is ends counted read = record {
  done = has.done ++ body ∷ [];
  split = split_more before octets rest digest next body behind has.done has.split has.last more is;
  last = ends ∙ ap (λ (d : List ℕ). digest_after d body) has.last ∙ sym (last_digest-append before has.done body);
  read = subst (HasRead new) (append_assoc bodies has.done (body ∷ [])) (read (bodies ++ has.done) has.read);
  next = (let before' = has.next in let size = length-append has.done (body ∷ []) in omega (arith, counted, before', size));
}

-- the next record has a fault
pub chained_stops : (number : ℕ) (before octets rest digest next body behind : List ℕ) (bodies : List (List ℕ)) (place : ℕ) (old new : LogReader) (f : LogFault)
    → (has : HasChained before octets rest digest bodies place old) → images rest ≡ next ∷ images behind → next ≡ sealed digest body
    → HasRead new (bodies ++ has.done) → IsOfRecord number place (bodies ++ has.done) body f → StopsAt number before octets bodies f new
chained_stops number before octets rest digest next body behind bodies place old new f has more is read of = record {
  front = has.done;
  body = body;
  others = images behind;
  records = split_more before octets rest digest next body behind has.done has.split has.last more is;
  read = read;
  of = subst (λ (p : ℕ). IsOfRecord number p (bodies ++ has.done) body f) has.next of;
}

-- no record goes on
pub chained_ends : (before octets rest digest : List ℕ) (bodies : List (List ℕ)) (place : ℕ) (r : LogReader) (c : Chain)
    → (has : HasChained before octets rest digest bodies place r) → c.digest ≡ digest → c.place ≡ place → GoesNotOn digest (images rest)
    → ReadsChain before octets bodies c r
chained_ends before octets rest digest bodies place r c has same counted none = record {
  front = has.done;
  others = images rest;
  records = has.split;
  digest = same ∙ has.last;
  stops = subst (λ (d : List ℕ). GoesNotOn d (images rest)) (sym same) none;
  read = has.read;
  next = counted ∙ has.next;
}

pub none_goes_on : (digest rest : List ℕ) → images rest ≡ [] → GoesNotOn digest (images rest)
none_goes_on digest rest none = subst (GoesNotOn digest) (sym none) tt

pub other_goes_on : (digest rest next : List ℕ) (records : List (List ℕ)) → images rest ≡ next ∷ records → ((body : List ℕ) → next ≢ sealed digest body)
    → GoesNotOn digest (images rest)
other_goes_on digest rest next records more none = subst (GoesNotOn digest) (sym more) none

-- ---- a segment

-- the records of octets after a head
records_after : (number : ℕ) (before octets : List ℕ) (bodies : List (List ℕ)) (h : Head) (c : Chain) (r : LogReader) → IsAfterHead number before octets h
    → (read : ReadsChain h.digest h.rest.now bodies c r) → images octets ≡ records_of number before read.front ++ read.others
records_after number before octets bodies h c r head read =
    head.records
    ∙ ap (λ (l : List (List ℕ)). sealed before (head_of number before) ∷ l) (read.records ∙ ap (λ (d : List ℕ). chained d read.front ++ read.others) head.digest)

digest_after_head : (number : ℕ) (before octets : List ℕ) (bodies : List (List ℕ)) (h : Head) (c : Chain) (r : LogReader) → IsAfterHead number before octets h
    → (read : ReadsChain h.digest h.rest.now bodies c r) → c.digest ≡ digest_in number before read.front
digest_after_head number before octets bodies h c r head read = read.digest ∙ ap (λ (d : List ℕ). last_digest d read.front) head.digest

first_in : List (List ℕ) → List ℕ
first_in [] = []
first_in (r ∷ rs) = r

-- where no record goes on, a chain ends
chain_stops : (digest : List ℕ) (records bodies : List (List ℕ)) → GoesNotOn digest records → records ≡ chained digest bodies → bodies ≡ []
unfolding first_in
chain_stops digest records [] stops is = refl
chain_stops digest [] (b ∷ bodies) stops is = absurd (cc (is))
chain_stops digest (next ∷ records) (b ∷ bodies) stops is = absurd (stops b (ap first_in is))

-- all of them were read, and the list never ended later
pub segment_read : (number : ℕ) (title before octets last digest : List ℕ) (bodies : List (List ℕ)) (h : Head) (c : Chain) (r : LogReader)
    → title ≡ head_of number [] → IsAfterHead number before octets h → (read : ReadsChain h.digest h.rest.now bodies c r)
    → IsLast title (images octets) last digest → (EndedLater digest (end_of octets) → ⊥) → IsSegment number before octets read.front c.digest
segment_read number title before octets last digest bodies h c r is head read chain ended = record {
  records = whole ∙ ap (λ (l : List (List ℕ)). records_of number before read.front ++ l) empty ∙ append-nil (records_of number before read.front);
  last = own;
  ended = subst (λ (d : List ℕ). HasEnded d octets) same ended;
}
  where
    heads : List (List ℕ)
    heads = head_of number before ∷ read.front

    whole : images octets ≡ chained before heads ++ read.others
    whole = records_after number before octets bodies h c r head read

    own : c.digest ≡ last_digest before heads
    own = digest_after_head number before octets bodies h c r head read

    all : List (List ℕ)
    all = chain.front ++ last ∷ []

    first : title ++ before ≡ head_of number before
    first = titled number title before is

    both : chained before heads ++ read.others ≡ chained chain.before all
    both = sym whole ∙ chain.chain

    one : before ≡ chain.before
    one =
        same_before title before chain.before read.front chain.others read.others
        (ap (λ (t : List ℕ). chained before (t ∷ read.front) ++ read.others) first ∙ both
        ∙ ap (λ (l : List (List ℕ)). chained chain.before l) chain.head)

    on : GoesOn before heads all read.others
    on = chain_on before heads all read.others (both ∙ ap (λ (d : List ℕ). chained d all) (sym one))

    none : on.others ≡ []
    none = chain_stops c.digest read.others on.others read.stops (on.chain ∙ ap (λ (d : List ℕ). chained d on.others) (sym own))

    empty : read.others ≡ []
    empty = on.chain ∙ ap (λ (l : List (List ℕ)). chained (last_digest before heads) l) none

    bodies_are : all ≡ heads
    bodies_are = on.bodies ∙ ap (λ (l : List (List ℕ)). heads ++ l) none ∙ append-nil heads

    same : digest ≡ c.digest
    same = chain.says ∙ ap (λ (d : List ℕ). last_digest d all) (sym one) ∙ ap (λ (l : List (List ℕ)). last_digest before l) bodies_are ∙ sym own

breaks : (number : ℕ) (title before octets digest : List ℕ) (front others : List (List ℕ)) → title ≡ head_of number [] → length before ≡ 32
    → images octets ≡ records_of number before front ++ others → digest ≡ digest_in number before front → GoesNotOn digest others
    → (IsWhole title octets → ⊥) → BreaksOff (digest_in number before front) octets others
breaks number title before octets digest front [] is size records same stops none = λ ended. none (record {
  before = before;
  others = front;
  size = size;
  chain =
      records ∙ append-nil (records_of number before front)
      ∙ ap (λ (t : List ℕ). chained before (t ∷ front)) (sym (titled number title before is));
  ends =
      subst (λ (t : List ℕ). EndedLater (last_digest before (t ∷ front)) (end_of octets) → ⊥) (sym (titled number title before is)) ended;
})
breaks number title before octets digest front (next ∷ others) is size records same stops none =
    λ body. subst (λ (d : List ℕ). next ≢ sealed d body) same (stops body)

-- they are no whole segment
pub segment_cut : (number : ℕ) (title before octets : List ℕ) (bodies : List (List ℕ)) (h : Head) (c : Chain) (r : LogReader)
    → title ≡ head_of number [] → IsAfterHead number before octets h → ReadsChain h.digest h.rest.now bodies c r
    → (IsWhole title octets → ⊥) → ReadsFront number before bodies octets (why.Damaged number c.place) r
segment_cut number title before octets bodies h c r is head read none =
    let own = digest_after_head number before octets bodies h c r head read in
    let whole = records_after number before octets bodies h c r head read in
    record {
      front = read.front;
      read = read.read;
      why = (
        refl,
        inr (
          read.next,
          record {
            others = read.others;
            records = whole;
            breaks = breaks number title before octets c.digest read.front read.others is head.size whole own read.stops none;
          },
        ),
      );
    }

next_of_segment : (number : ℕ) (before : List ℕ) (bodies : List (List ℕ)) (octets : List ℕ) (front : List (List ℕ)) (f : LogFault)
    → IsOfNext number before bodies octets front f → IsFaultOf number before bodies octets front f
next_of_segment number before bodies octets front (why.OtherVersion n) is = absurd is.is
next_of_segment number before bodies octets front (why.Damaged n p) is = absurd is.is
next_of_segment number before bodies octets front (why.NotNext n) is = absurd is.is
next_of_segment number before bodies octets front (why.BadRecord n p) is = is
next_of_segment number before bodies octets front (why.NotDue n p entry due) is = is

-- a record after its head has a fault
pub segment_stops : (number : ℕ) (before octets : List ℕ) (bodies : List (List ℕ)) (h : Head) (f : LogFault) (r : LogReader)
    → IsAfterHead number before octets h → StopsAt number h.digest h.rest.now bodies f r → ReadsFront number before bodies octets f r
segment_stops number before octets bodies h f r head stops = record {
  front = stops.front;
  read = stops.read;
  why = next_of_segment number before bodies octets stops.front f (record {
    body = stops.body;
    others = stops.others;
    records =
        head.records
        ∙ ap (λ (l : List (List ℕ)). sealed before (head_of number before) ∷ l)
        (stops.records ∙ ap (λ (d : List ℕ). chained d (stops.front ++ stops.body ∷ []) ++ stops.others) head.digest);
    is = stops.of;
  });
}

-- the head has one
pub head_stops : (number : ℕ) (before octets : List ℕ) (bodies : List (List ℕ)) (f : LogFault) (r : LogReader) → HasRead r bodies
    → IsFaultOf number before bodies octets [] f → ReadsFront number before bodies octets f r
head_stops number before octets bodies f r has is = record {
  front = [];
  read = subst (HasRead r) (sym (append-nil bodies)) has;
  why = is;
}

-- ---- a whole segment has no fault

-- a chain says its bodies
pub chained_same : (before : List ℕ) (xs ys : List (List ℕ)) → chained before xs ≡ chained before ys → xs ≡ ys
chained_same before xs ys same =
    let on = chain_on before xs ys [] (append-nil (chained before xs) ∙ same) in
    let none = chain_stops (last_digest before xs) [] on.others tt on.chain in
    sym (append-nil xs) ∙ ap (λ (l : List (List ℕ)). xs ++ l) (sym none) ∙ sym on.bodies

-- a digest has 32 octets
pub last_size : (before : List ℕ) (bodies : List (List ℕ)) → length before ≡ 32 → length (last_digest before bodies) ≡ 32
last_size before [] size = size
last_size before (b ∷ bodies) size = last_size (digest_after before b) bodies (length-sha256 (before ++ b))

-- a head names one digest
one_digest : (number : ℕ) (given before : List ℕ) → sealed given (head_of number given) ≡ sealed before (head_of number before) → given ≡ before
one_digest number given before same =
    let size = length-sha256 (given ++ head_of number given) ∙ sym (length-sha256 (before ++ head_of number before)) in
    let heads = (same_parts (head_of number given) (digest_after given (head_of number given)) (head_of number before)
    (digest_after before (head_of number before)) same size).0 in
    append_cancel_left (head_of number []) given before (head_joined number given ∙ heads ∙ sym (head_joined number before))

-- what goes on from the front of a segment
pub goes_on_from : (number : ℕ) (before octets : List ℕ) (front others more : List (List ℕ)) → images octets ≡ records_of number before more
    → images octets ≡ records_of number before front ++ others → (rest : List (List ℕ)) × (more ≡ front ++ rest) × (others ≡ chained (digest_in number before front) rest)
goes_on_from number before octets front others more whole part =
    let on = chain_on before (head_of number before ∷ front) (head_of number before ∷ more) others (sym part ∙ whole) in
    (on.others, ap (λ (l : List (List ℕ)). drop 1 l) on.bodies, on.chain)

no_break : (number : ℕ) (before octets after : List ℕ) (front others more rest : List (List ℕ)) → IsSegment number before octets more after
    → more ≡ front ++ rest → others ≡ chained (digest_in number before front) rest → BreaksOff (digest_in number before front) octets others → ⊥
unfolding first_in
no_break number before octets after front [] more [] is whole chain broken =
    broken (subst (λ (d : List ℕ). HasEnded d octets)
    (is.last ∙ ap (λ (l : List (List ℕ)). digest_in number before l) (whole ∙ append-nil front)) is.ended)
no_break number before octets after front [] more (b ∷ rest) is whole chain broken = absurd (cc (chain))
no_break number before octets after front (next ∷ others) more [] is whole chain broken = absurd (cc (chain))
no_break number before octets after front (next ∷ others) more (b ∷ rest) is whole chain broken = broken b (ap first_in chain)

-- the next record of a house is of it
no_bad : (number : ℕ) (before : List ℕ) (bodies : List (List ℕ)) (octets : List ℕ) (front more others : List (List ℕ)) (body : List ℕ)
    → images octets ≡ records_of number before more → AreOfHouse (bodies ++ more) → images octets ≡ records_of number before (front ++ body ∷ []) ++ others
    → AreOfHouse ((bodies ++ front) ++ body ∷ [])
no_bad number before bodies octets front more others body whole house part =
    let on = goes_on_from number before octets (front ++ body ∷ []) others more whole part in
    let all : bodies ++ more ≡ ((bodies ++ front) ++ body ∷ []) ++ on.0 =
    ap (λ (l : List (List ℕ)). bodies ++ l) on.1 ∙ sym (append_assoc bodies (front ++ body ∷ []) on.0)
    ∙ ap (λ (l : List (List ℕ)). l ++ on.0) (sym (append_assoc bodies front (body ∷ []))) in
    house_front ((bodies ++ front) ++ body ∷ []) on.0 (subst AreOfHouse all house)

this_version : (number : ℕ) (before : List ℕ) → IsOtherHead (sealed before (head_of number before)) → ⊥
this_version number before other =
    other.other ((decimal number ++ (10 ∷ before)) ++ digest_after before (head_of number before))
    (append_assoc (codes "cdshouse journal 2 ") (decimal number ++ (10 ∷ before)) (digest_after before (head_of number before)))

pub no_fault : (number : ℕ) (before : List ℕ) (bodies : List (List ℕ)) (octets : List ℕ) (more : List (List ℕ)) (after : List ℕ) (front : List (List ℕ)) (f : LogFault)
    → length before ≡ 32 → IsSegment number before octets more after → AreOfHouse (bodies ++ more) → IsFaultOf number before bodies octets front f → ⊥
no_fault number before bodies octets more after front (why.OtherVersion n) size is house fault =
    this_version number before (subst IsOfOther is.records fault.2)
no_fault number before bodies octets more after front (why.NotNext n) size is house fault =
    let named = subst (NamesOther number before) is.records fault.2 in
    named.2 (one_digest number named.0 before (sym named.1.is))
no_fault number before bodies octets more after front (why.Damaged n place) size is house (same, inl none) =
    let headless = subst (HasNoHead number) is.records none.2 in
    headless.1 before (record { size = size; is = refl })
no_fault number before bodies octets more after front (why.Damaged n place) size is house (same, inr cut) =
    let on = goes_on_from number before octets front cut.1.others more is.records cut.1.records in
    no_break number before octets after front cut.1.others more on.0 is on.1 on.2 cut.1.breaks
no_fault number before bodies octets more after front (why.BadRecord n place) size is house fault =
    fault.is.2 (no_bad number before bodies octets front more fault.others fault.body is.records house fault.records)
no_fault number before bodies octets more after front (why.NotDue n place entry due) size is house fault =
    fault.is.2 (no_bad number before bodies octets front more fault.others fault.body is.records house fault.records)
