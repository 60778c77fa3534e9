-- One segment more of a folder, and one folder more.
use Rattle.std.proofs.Common.{◌≡◌, ◌≢◌, ◌<◌, ◌≤◌, ℕ, suc, ◌+◌, inl, inr, Option, Some, None, List, [], ◌∷◌, ◌++◌, drop, get_or, length, map, take, replicate, refl, sym, ◌∙◌, ap, subst, append_assoc, append-nil, drop-cons, arith}
use Rattle.std.specs.Option.{option_to_list}
use Rattle.std.proofs.lemmas.List.{length-take-le, take-append-drop, take_more}
use Rattle.std.proofs.lemmas.Grind.{common_steps}
use Rattle.house_logs.specs.Faults.{IsFaultOf}
use Rattle.house_logs.specs.declared.fault.LogFault.{LogFault}
use Rattle.house_logs.specs.declared.log.HouseLog.{HouseLog}
use Rattle.house_logs.specs.declared.reader.LogReader.{LogReader}
use Rattle.house_entries.specs.Bodies.{head_of}
use Rattle.house_logs.specs.Logs.{AreOfHouse, IsSegment, digest_in}
use Rattle.house_logs.specs.Reads.{HasRead, ReadsFront, ReadsOn}
use Rattle.explain_program.specs.declared.folder.FolderEnd.{FolderEnd}
use Rattle.explain_program.specs.declared.folder.FolderEnd.TheVariants as end
use Rattle.explain_program.specs.declared.folder.FolderFault.{FolderFault}
use Rattle.explain_program.specs.declared.folder.FolderFault.TheVariants as why
use Rattle.explain_program.specs.declared.folder.FolderLog.{FolderLog}
use Rattle.explain_program.specs.declared.folder.FolderOctets.{FolderOctets}
use Rattle.explain_program.specs.declared.told.PlacedFault.{PlacedFault}
use Rattle.explain_program.specs.Endings.{HasDamaged}
use Rattle.explain_program.specs.Folders.{AreFirst, AreRead, AreSegments, HasReadAll, HasReadFirst, IsBegun, IsDamaged, IsEvidence, IsLog, IsRead, IsReadTo, IsWhole, StopsReading, fault_at, first_parts, faults_in, logs_in, no_digest}
use Rattle.house_logs.proofs.RecordLemmas.{house_front}
use Rattle.house_logs.proofs.SegmentLemmas.{chained_same, last_size, no_fault}

-- ---- segments

-- one segment more
segments-more : (number : ℕ) (before : List ℕ) (segments bodies : List (List ℕ)) (mid : List ℕ) (octets : List ℕ) (own : List (List ℕ)) (after : List ℕ)
    → AreSegments number before segments bodies mid → IsSegment (number + length segments) mid octets own after
    → AreSegments number before (segments ++ octets ∷ []) (bodies ++ own) after
segments-more number before [] bodies mid octets own after are is =
    let here : number + 0 ≡ number = omega arith in (
      after,
      own,
      [],
      subst (λ (d : List ℕ). IsSegment number d octets own after) are.1 (subst (λ (n : ℕ). IsSegment n mid octets own after) here is),
      (refl, refl),
      ap (λ (l : List (List ℕ)). l ++ own) are.0 ∙ sym (append-nil own),
    )
segments-more number before (s ∷ segments) bodies mid octets own after are is =
    let here : number + length (s ∷ segments) ≡ number + 1 + length segments = grind (arith, common_steps) in (
      are.0,
      are.1,
      are.2 ++ own,
      are.3,
      segments-more (number + 1) are.0 segments are.2 mid octets own after are.4 (subst (λ (n : ℕ). IsSegment n mid octets own after) here is),
      ap (λ (l : List (List ℕ)). l ++ own) are.5 ∙ append_assoc are.1 are.2 own,
    )

-- a reader that has read one segment more
pub read_more : (old new : LogReader) (segments : List (List ℕ)) (octets : List ℕ) (h : HasReadAll segments old) → ReadsOn h.bodies octets old new
    → new.segments ≡ old.segments + 1 → HasReadAll (segments ++ octets ∷ []) new
read_more old new segments octets h on count = record {
  bodies = h.bodies ++ on.more;
  are =
      segments-more 1 no_digest segments h.bodies old.digest octets on.more new.digest h.are
      (subst (λ (n : ℕ). IsSegment n old.digest octets on.more new.digest) number on.segment);
  read = on.read;
  count = (let many = h.count in grind (arith, count, many, common_steps));
}
  where
    number : old.segments + 1 ≡ 1 + length segments
    number = let many = h.count in omega (arith, many)

-- one that stopped within the next one
pub read_within : (old new : LogReader) (segments rest : List (List ℕ)) (octets : List ℕ) (f : LogFault) (h : HasReadAll segments old)
    → ReadsFront (old.segments + 1) old.digest h.bodies octets f new → HasReadFirst (segments ++ octets ∷ rest) f new
read_within old new segments rest octets f h stops = record {
  bodies = h.bodies ++ stops.front;
  are = λ how. record {
    whole = segments;
    others = octets ∷ rest;
    own = h.bodies;
    after = old.digest;
    front = stops.front;
    parts = refl;
    are = h.are;
    bodies_are = refl;
    stops = subst (λ (n : ℕ). IsFaultOf n old.digest h.bodies octets stops.front f) (ap (λ (n : ℕ). n + 1) h.count) stops.why;
  };
  read = stops.read;
}

-- a list, by what is before a place, what is there, and what comes after it
around : (xs : List (List ℕ)) (n : ℕ) (x : List ℕ) → n < length xs → x ≡ get_or xs n x → take n xs ++ x ∷ drop (suc n) xs ≡ xs
around xs n x inside is =
    ap (λ (y : List ℕ). take n xs ++ y ∷ drop (suc n) xs) is
    ∙ ap (λ (l : List (List ℕ)). take n xs ++ l) (sym (drop-cons xs n x inside))
    ∙ take-append-drop n xs

-- one segment more of a list was read
pub read_next_one : (xs : List (List ℕ)) (n : ℕ) (x : List ℕ) (r : LogReader) → n < length xs → x ≡ get_or xs n x
    → HasReadAll (take n xs ++ x ∷ []) r → HasReadAll (take (n + 1) xs) r
read_next_one xs n x r inside is read =
    subst (λ (l : List (List ℕ)). HasReadAll l r) (ap (λ (y : List ℕ). take n xs ++ y ∷ []) is ∙ sym (take_more xs n x inside)) read

-- one of them was not
pub read_up_to : (xs : List (List ℕ)) (n : ℕ) (x : List ℕ) (f : LogFault) (r : LogReader) → n < length xs → x ≡ get_or xs n x
    → HasReadFirst (take n xs ++ x ∷ drop (suc n) xs) f r → HasReadFirst xs f r
read_up_to xs n x f r inside is read = subst (λ (l : List (List ℕ)). HasReadFirst l f r) (around xs n x inside is) read

-- all segments were read, and the next one is missing
pub read_missing : (how : FolderEnd) (r : LogReader) (segments : List (List ℕ)) (n : ℕ) (h : HasReadAll segments r) → how ≡ end.Missing
    → n ≡ length segments + 1 → AreFirst how segments h.bodies (why.Missing n)
read_missing how r segments n h missing is = record {
  whole = segments;
  others = [];
  own = h.bodies;
  after = r.digest;
  front = [];
  parts = sym (append-nil segments);
  are = h.are;
  bodies_are = sym (append-nil h.bodies);
  stops = (missing, is, refl);
}

-- nothing was read
pub read_nothing : (r : LogReader) → HasRead r [] → r.segments ≡ 0 → r.digest ≡ replicate 32 0 → HasReadAll [] r
read_nothing r has count digest = record {
  bodies = [];
  are = (refl, digest);
  read = has;
  count = count;
}

-- ---- a folder with a fault is damaged

-- segments have the records of one list, and one last digest
segment_once : (number : ℕ) (before octets : List ℕ) (own own' : List (List ℕ)) (after after' : List ℕ) → IsSegment number before octets own after
    → IsSegment number before octets own' after' → (own ≡ own') × (after ≡ after')
segment_once number before octets own own' after after' one other =
    let heads = chained_same before (head_of number before ∷ own) (head_of number before ∷ own') (sym one.records ∙ other.records) in
    let same : own ≡ own' = ap (λ (l : List (List ℕ)). drop 1 l) heads in
    (same, one.last ∙ ap (λ (l : List (List ℕ)). digest_in number before l) same ∙ sym other.last)

segments_once : (number : ℕ) (before : List ℕ) (segments own own' : List (List ℕ)) (after after' : List ℕ) → AreSegments number before segments own after
    → AreSegments number before segments own' after' → (own ≡ own') × (after ≡ after')
segments_once number before [] own own' after after' one other = (one.0 ∙ sym other.0, one.1 ∙ sym other.1)
segments_once number before (s ∷ segments) own own' after after' one other =
    let first = segment_once number before s one.1 other.1 one.0 other.0 one.3 other.3 in
    let rest = segments_once (number + 1) other.0 segments one.2 other.2 after after'
    (subst (λ (d : List ℕ). AreSegments (number + 1) d segments one.2 after) first.1 one.4) other.4 in
    (one.5 ∙ (λ i. first.0 i ++ rest.0 i) ∙ sym other.5, rest.1)

-- the last digest has 32 octets
segments_size : (number : ℕ) (before : List ℕ) (segments own : List (List ℕ)) (after : List ℕ) → length before ≡ 32 → AreSegments number before segments own after
    → length after ≡ 32
segments_size number before [] own after size are = ap length are.1 ∙ size
segments_size number before (s ∷ segments) own after size are =
    segments_size (number + 1) are.0 segments are.2 after
    (ap length are.3.last ∙ last_size before (head_of number before ∷ are.1) size) are.4

-- segments in two parts
pub record InTwo (number : ℕ) (before : List ℕ) (whole others bodies : List (List ℕ)) (after : List ℕ) : Type 0 where
  pub own : List (List ℕ)
  pub mid : List ℕ
  pub rest : List (List ℕ)
  pub first : AreSegments number before whole own mid
  pub last : AreSegments (number + length whole) mid others rest after
  pub bodies_are : bodies ≡ own ++ rest

in_two : (number : ℕ) (before : List ℕ) (whole others bodies : List (List ℕ)) (after : List ℕ) → AreSegments number before (whole ++ others) bodies after
    → InTwo number before whole others bodies after
in_two number before [] others bodies after are =
    let here : number ≡ number + 0 = omega arith in
    record {
      own = [];
      mid = before;
      rest = bodies;
      first = (refl, refl);
      last = subst (λ (n : ℕ). AreSegments n before others bodies after) here are;
      bodies_are = refl;
    }
in_two number before (s ∷ whole) others bodies after are =
    let two = in_two (number + 1) are.0 whole others are.2 after are.4 in
    let here : number + 1 + length whole ≡ number + length (s ∷ whole) = grind (arith, common_steps) in
    record {
      own = are.1 ++ two.own;
      mid = two.mid;
      rest = two.rest;
      first = (are.0, are.1, two.own, are.3, two.first, refl);
      last = subst (λ (n : ℕ). AreSegments n two.mid others two.rest after) here two.last;
      bodies_are = are.5 ∙ ap (λ (l : List (List ℕ)). are.1 ++ l) two.bodies_are ∙ sym (append_assoc are.1 two.own two.rest);
    }

log_house : (bodies : List (List ℕ)) (log : Option HouseLog) → IsLog bodies log → AreOfHouse bodies
log_house bodies None is = inl is
log_house bodies (Some l) is = inr (is.0, is.1)

-- where a log stops, its folder is not whole
stopped_log : (f : FolderOctets) (fault : LogFault) (bodies : List (List ℕ)) (log : Option HouseLog) (others : List (List ℕ))
    → (first : AreFirst f.end f.segments.items bodies (why.BadLog fault)) → first.others ≡ others
    → StopsReading f.end (first_parts (length first.whole) first.after first.own first.front) others (why.BadLog fault) → IsWhole f log → ⊥
stopped_log f fault bodies log [] first is stops whole = stops
stopped_log f fault bodies log (octets ∷ others) first is stops whole =
    let parts : f.segments.items ≡ first.whole ++ octets ∷ others = first.parts ∙ ap (λ (l : List (List ℕ)). first.whole ++ l) is in
    let two = in_two 1 no_digest first.whole (octets ∷ others) whole.bodies whole.after
    (subst (λ (l : List (List ℕ)). AreSegments 1 no_digest l whole.bodies whole.after) parts whole.are) in
    let same = segments_once 1 no_digest first.whole two.own first.own two.mid first.after two.first first.are in
    let here : 1 + length first.whole ≡ length first.whole + 1 = omega arith in
    let next : IsSegment (length first.whole + 1) first.after octets two.last.1 two.last.0 =
    subst (λ (d : List ℕ). IsSegment (length first.whole + 1) d octets two.last.1 two.last.0) same.1
    (subst (λ (n : ℕ). IsSegment n two.mid octets two.last.1 two.last.0) here two.last.3) in
    let all : whole.bodies ≡ (first.own ++ two.last.1) ++ two.last.2 =
    two.bodies_are ∙ (λ i. same.0 i ++ two.last.5 i) ∙ sym (append_assoc first.own two.last.1 two.last.2) in
    no_fault (length first.whole + 1) first.after first.own octets two.last.1 two.last.0 first.front fault
    (segments_size 1 no_digest first.whole first.own first.after refl first.are) next
    (house_front (first.own ++ two.last.1) two.last.2 (subst AreOfHouse all (log_house whole.bodies log whole.is))) stops

missing_there : (f : FolderOctets) (n : ℕ) (bodies : List (List ℕ)) (log : Option HouseLog) (others : List (List ℕ))
    → (first : AreFirst f.end f.segments.items bodies (why.Missing n))
    → StopsReading f.end (first_parts (length first.whole) first.after first.own first.front) others (why.Missing n) → IsWhole f log → ⊥
missing_there f n bodies log [] first stops whole = absurd (cc (stops.0, whole.there))
missing_there f n bodies log (octets ∷ others) first stops whole = stops

-- one with a fault is damaged
begun_damaged : (f : FolderOctets) (fault : FolderFault) (log : Option HouseLog) → IsBegun f fault log → IsDamaged f
begun_damaged f (why.Missing n) log begun = λ other. missing_there f n begun.bodies other begun.are.others begun.are begun.are.stops
begun_damaged f (why.BadLog fault) log begun = λ other. stopped_log f fault begun.bodies other begun.are.others begun.are refl begun.are.stops

-- where some folder has a fault, one is damaged
some_damaged : (place : ℕ) (fs : List FolderOctets) (rs : List FolderLog) → AreRead fs rs → faults_in place rs ≢ [] → HasDamaged fs
some_damaged place [] [] are some = absurd (some refl)
some_damaged place [] (r ∷ rs) are some = absurd are
some_damaged place (f ∷ fs) [] are some = absurd are
some_damaged place (f ∷ fs) (r ∷ rs) are some = by r.fault refl are.0 (λ left. some_damaged (place + 1) fs rs are.1 left)
  where
    by : (fault : Option FolderFault) → r.fault ≡ fault → IsReadTo f r.log fault → (faults_in (place + 1) rs ≢ [] → HasDamaged fs) → HasDamaged (f ∷ fs)
    by (Some fault) is read more = record { front = []; folder = f; others = fs; parts = refl; damaged = begun_damaged f fault r.log read }
    by None is read more =
        let rest = more (λ none. some (ap (λ (o : Option FolderFault). fault_at place o ++ faults_in (place + 1) rs) is ∙ none)) in
        record {
          front = f ∷ rest.front;
          folder = rest.folder;
          others = rest.others;
          parts = ap (λ (l : List FolderOctets). f ∷ l) rest.parts;
          damaged = rest.damaged;
        }

pub evidence_damaged : (fs : List FolderOctets) (logs : List HouseLog) (faults : List PlacedFault) → IsEvidence fs logs faults → faults ≢ [] → HasDamaged fs
evidence_damaged fs logs faults e some = some_damaged 1 fs e.rs e.read (λ none. some (e.faults_are ∙ none))

-- ---- folders

-- as many as there are
read_count : (fs : List FolderOctets) (rs : List FolderLog) → AreRead fs rs → length rs ≡ length fs
read_count [] [] are = refl
read_count [] (r ∷ rs) are = absurd are
read_count (f ∷ fs) [] are = absurd are
read_count (f ∷ fs) (r ∷ rs) are = let more = read_count fs rs are.1 in grind (arith, more, common_steps)

reads-more : (fs : List FolderOctets) (rs : List FolderLog) (f : FolderOctets) (r : FolderLog) → AreRead fs rs → IsRead f r
    → AreRead (fs ++ f ∷ []) (rs ++ r ∷ [])
reads-more [] [] f r are is = (is, tt)
reads-more [] (s ∷ rs) f r are is = absurd are
reads-more (g ∷ fs) [] f r are is = absurd are
reads-more (g ∷ fs) (s ∷ rs) f r are is = (are.0, reads-more fs rs f r are.1 is)

logs-more : (rs : List FolderLog) (r : FolderLog) → logs_in (rs ++ r ∷ []) ≡ logs_in rs ++ option_to_list r.log
logs-more [] r = append-nil (option_to_list r.log)
logs-more (s ∷ rs) r =
    ap (λ (l : List HouseLog). option_to_list s.log ++ l) (logs-more rs r)
    ∙ sym (append_assoc (option_to_list s.log) (logs_in rs) (option_to_list r.log))

faults-more : (place : ℕ) (rs : List FolderLog) (r : FolderLog) → faults_in place (rs ++ r ∷ []) ≡ faults_in place rs ++ fault_at (place + length rs) r.fault
faults-more place [] r =
    let here : place ≡ place + 0 = omega arith in
    append-nil (fault_at place r.fault) ∙ ap (λ (n : ℕ). fault_at n r.fault) here
faults-more place (s ∷ rs) r =
    let here : place + 1 + length rs ≡ place + length (s ∷ rs) = grind (arith, common_steps) in
    ap (λ (l : List PlacedFault). fault_at place s.fault ++ l)
    (faults-more (place + 1) rs r ∙ ap (λ (n : ℕ). faults_in (place + 1) rs ++ fault_at n r.fault) here)
    ∙ sym (append_assoc (fault_at place s.fault) (faults_in (place + 1) rs) (fault_at (place + length (s ∷ rs)) r.fault))

-- one folder more
pub evidence_more : (fs : List FolderOctets) (place : ℕ) (f : FolderOctets) (r : FolderLog) (logs logs' : List HouseLog) (faults faults' : List PlacedFault)
    → IsEvidence fs logs faults → place ≡ length fs + 1 → IsRead f r → logs' ≡ logs ++ option_to_list r.log → faults' ≡ faults ++ fault_at place r.fault
    → IsEvidence (fs ++ f ∷ []) logs' faults'
evidence_more fs place f r logs logs' faults faults' e is read more broken = record {
  rs = e.rs ++ r ∷ [];
  read = reads-more fs e.rs f r e.read read;
  logs_are =
      more
      ∙ ap (λ (l : List HouseLog). l ++ option_to_list r.log) e.logs_are
      ∙ sym (logs-more e.rs r);
  faults_are =
      broken
      ∙ ap (λ (l : List PlacedFault). l ++ fault_at place r.fault) e.faults_are
      ∙ ap (λ (n : ℕ). faults_in 1 e.rs ++ fault_at n r.fault) here
      ∙ sym (faults-more 1 e.rs r);
}
  where
    here : place ≡ 1 + length e.rs
    here = let count = read_count fs e.rs e.read in omega (arith, is, count)

-- one folder more of a list
pub evidence_next : (fs : List FolderOctets) (n : ℕ) (f : FolderOctets) (logs : List HouseLog) (faults : List PlacedFault) → n < length fs → f ≡ get_or fs n f
    → IsEvidence (take n fs ++ f ∷ []) logs faults → IsEvidence (take (n + 1) fs) logs faults
evidence_next fs n f logs faults inside is e =
    subst (λ (l : List FolderOctets). IsEvidence l logs faults) (ap (λ (y : FolderOctets). take n fs ++ y ∷ []) is ∙ sym (take_more fs n f inside)) e

-- its place
pub place_next : (fs : List FolderOctets) (n : ℕ) → n < length fs → n + 1 ≡ length (take n fs) + 1
place_next fs n inside =
    let low : n ≤ length fs = omega (arith, inside) in
    ap (λ (k : ℕ). k + 1) (sym (length-take-le n fs low))
