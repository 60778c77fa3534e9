-- What octets demand of `towers` is one thing, and what is due stays due whatever follows.
use Rattle.std.proofs.Common.{◌≡◌, ◌⊎◌, inl, inr, ℕ, ◌+◌, ◌-◌, ◌≤◌, ◌<◌, List, [], ◌∷◌, ◌++◌, length, take, refl, sym, ◌∙◌, ap, subst, arith}
use Rattle.std.proofs.Common.{append_assoc, append-nil, length-append}
use Rattle.std.proofs.lemmas.List.{take_all, take-append-le}
use Rattle.std.proofs.Math.Seq.{take-append-add}
use Rattle.tower_codec.specs.declared.fault.TowerFault.{TowerFault}
use Rattle.tower_codec.specs.declared.fault.TowerFault.TheVariants.{ShortCount, ShortLength, ShortPart, EmptyLeft}
use Rattle.tower_codec.specs.Tower.{Floor, IsTower, IsFault}
use Rattle.tower_codec.proofs.Grammar.{floors_before}
use Rattle.tower_codec.proofs.SpellingLaws.{towers_apart}
use Rattle.cell_replay.specs.declared.towers.StreamFault.{StreamFault}
use Rattle.cell_replay.specs.declared.towers.StreamFault.TheVariants as stream
use Rattle.reply_buffer.specs.TowerTexts.{tower_text}
use Rattle.cell_replay.specs.TowerDemand.{in_sight, BeginsWithTower, ShowsFault, EndsWithin, Rest, Nothing, AtFault, PartOf, IsRest, AreTowers}
use Rattle.cell_replay.specs.StreamTexts.{stream_fault_text}
use Rattle.cell_replay.specs.TowerDemand.{rest_demand, towers_demand, TowersDemand}
use Rattle.line_forms.specs.Demand.{Demand, Faulty, with_front}
use Rattle.cds_base.specs.RunEnds.{IsFront}
use Rattle.cell_replay.proofs.Streams.{le_or_lt, tower_or_fault, one_fault, sight_whole}

-- ---- what is in sight

-- more octets after those that fill the sight
sight_full : (xs ys : List ℕ) → 1024 < length xs → in_sight (xs ++ ys) ≡ in_sight xs
sight_full xs ys long = take-append-le 1025 xs ys (omega (arith, long))

-- a front that fits is seen whole
take_front : (n : ℕ) (front rest : List ℕ) → length front ≤ n → take n (front ++ rest) ≡ front ++ take (n - length front) rest
take_front n front rest le =
    let size : n ≡ length front + (n - length front) = omega (arith, le) in
    ap (λ (k : ℕ). take k (front ++ rest)) size ∙ take-append-add front rest (n - length front)

-- more octets after others add to what is seen of those
sight_more : (n : ℕ) (xs ys : List ℕ) → (m : ℕ) × (take n (xs ++ ys) ≡ take n xs ++ take m ys)
sight_more n xs ys = by_length (le_or_lt (length xs) n)
  where
    by_length : (length xs ≤ n) ⊎ (n < length xs) → (m : ℕ) × (take n (xs ++ ys) ≡ take n xs ++ take m ys)
    by_length (inl le) = (n - length xs, take_front n xs ys le ∙ ap (λ (l : List ℕ). l ++ take (n - length xs) ys) (sym (take_all n xs le)))
    by_length (inr lt) = (0, take-append-le n xs ys (omega (arith, lt)) ∙ sym (append-nil (take n xs)))

-- a tower in front is in sight
begins_in_sight : (number : ℕ) (octets : List ℕ) → BeginsWithTower number octets → BeginsWithTower number (in_sight octets)
begins_in_sight number octets begins =
    let few = begins.3.1 in
    (begins.0, begins.1, take (1025 - length begins.1) begins.2, begins.3, ap (take 1025) begins.4 ∙ take_front 1025 begins.1 begins.2 (omega (arith, few)))

-- an empty left part stays where more octets come
empty_stays : (xs ys : List ℕ) (place : ℕ) → IsFault xs (EmptyLeft place) → IsFault (xs ++ ys) (EmptyLeft place)
empty_stays [] ys place is = absurd (cc (is))
empty_stays (a ∷ []) ys place is = absurd (cc (is))
empty_stays (low ∷ high ∷ octets) ys place is =
    let due = is.1 in
    let at = is.2 in
    (is.0 ++ ys, (due.0, due.1, floors_before octets due.0 (0 ∷ 0 ∷ is.0) ys due.2), omega (arith, at, length-append octets ys, length-append is.0 ys))

-- ---- a fault that shows

-- where a fault shows no tower is in front
no_tower : (number : ℕ) (octets : List ℕ) (fault : StreamFault) → ShowsFault number octets fault → BeginsWithTower number octets → ⊥
no_tower number octets (stream.Tower (EmptyLeft place)) shows begins =
    let seen = begins_in_sight number octets begins in
    tower_or_fault (in_sight octets) seen.0 seen.1 seen.2 (EmptyLeft place) seen.3.2 seen.4 shows.1
no_tower number octets (stream.Tower (ShortCount place)) shows begins = absurd shows
no_tower number octets (stream.Tower (ShortLength place)) shows begins = absurd shows
no_tower number octets (stream.Tower (ShortPart place)) shows begins = absurd shows
no_tower number octets stream.TooLong shows begins = shows.2 (begins_in_sight number octets begins)
no_tower number octets stream.TooManyTowers shows begins =
    let counted = begins.3.0 in
    let beyond = shows.0 in
    absurd (omega (arith, counted, beyond))

-- it shows whatever follows
pub shows_more : (number : ℕ) (xs ys : List ℕ) (fault : StreamFault) → ShowsFault number xs fault → ShowsFault number (xs ++ ys) fault
shows_more number xs ys (stream.Tower (EmptyLeft place)) shows =
    let split = sight_more 1025 xs ys in
    (shows.0, subst (λ (l : List ℕ). IsFault l (EmptyLeft place)) (sym split.1) (empty_stays (in_sight xs) (take split.0 ys) place shows.1))
shows_more number xs ys (stream.Tower (ShortCount place)) shows = absurd shows
shows_more number xs ys (stream.Tower (ShortLength place)) shows = absurd shows
shows_more number xs ys (stream.Tower (ShortPart place)) shows = absurd shows
shows_more number xs ys stream.TooLong shows =
    let same = sym (sight_full xs ys shows.1) in (
      shows.0,
      omega (arith, shows.1, length-append xs ys),
      subst (λ (l : List ℕ). BeginsWithTower number l → ⊥) same shows.2,
      subst (λ (l : List ℕ). (place : ℕ) → IsFault l (EmptyLeft place) → ⊥) same shows.3,
    )
shows_more number xs ys stream.TooManyTowers shows =
    let some = shows.1 in
    (shows.0, omega (arith, some, length-append xs ys))

-- one fault shows
one_shown : (number : ℕ) (octets : List ℕ) (a b : StreamFault) → ShowsFault number octets a → ShowsFault number octets b → a ≡ b
one_shown number octets (stream.Tower (ShortCount p)) b first second = absurd first
one_shown number octets (stream.Tower (ShortLength p)) b first second = absurd first
one_shown number octets (stream.Tower (ShortPart p)) b first second = absurd first
one_shown number octets (stream.Tower (EmptyLeft p)) (stream.Tower (ShortCount q)) first second = absurd second
one_shown number octets (stream.Tower (EmptyLeft p)) (stream.Tower (ShortLength q)) first second = absurd second
one_shown number octets (stream.Tower (EmptyLeft p)) (stream.Tower (ShortPart q)) first second = absurd second
one_shown number octets (stream.Tower (EmptyLeft p)) (stream.Tower (EmptyLeft q)) first second = ap stream.Tower
    (one_fault (in_sight octets) (EmptyLeft p) (EmptyLeft q) first.1 second.1)
one_shown number octets (stream.Tower (EmptyLeft p)) stream.TooLong first second = absurd (second.3 p first.1)
one_shown number octets (stream.Tower (EmptyLeft p)) stream.TooManyTowers first second =
    let counted = first.0 in
    let beyond = second.0 in
    absurd (omega (arith, counted, beyond))
one_shown number octets stream.TooLong (stream.Tower (ShortCount q)) first second = absurd second
one_shown number octets stream.TooLong (stream.Tower (ShortLength q)) first second = absurd second
one_shown number octets stream.TooLong (stream.Tower (ShortPart q)) first second = absurd second
one_shown number octets stream.TooLong (stream.Tower (EmptyLeft q)) first second = absurd (first.3 q second.1)
one_shown number octets stream.TooLong stream.TooLong first second = refl
one_shown number octets stream.TooLong stream.TooManyTowers first second =
    let counted = first.0 in
    let beyond = second.0 in
    absurd (omega (arith, counted, beyond))
one_shown number octets stream.TooManyTowers (stream.Tower (ShortCount q)) first second = absurd second
one_shown number octets stream.TooManyTowers (stream.Tower (ShortLength q)) first second = absurd second
one_shown number octets stream.TooManyTowers (stream.Tower (ShortPart q)) first second = absurd second
one_shown number octets stream.TooManyTowers (stream.Tower (EmptyLeft q)) first second =
    let counted = second.0 in
    let beyond = first.0 in
    absurd (omega (arith, counted, beyond))
one_shown number octets stream.TooManyTowers stream.TooLong first second =
    let counted = second.0 in
    let beyond = first.0 in
    absurd (omega (arith, counted, beyond))
one_shown number octets stream.TooManyTowers stream.TooManyTowers first second = refl

-- ---- what is after the towers

-- what an end within a tower says
pub record IsPartial (number : ℕ) (octets : List ℕ) (fault : TowerFault) : Type 0 where
  pub counted : number ≤ 16777216
  pub some : 0 < length octets
  pub few : length octets ≤ 1024
  pub is : IsFault octets fault
  pub short : (place : ℕ) → fault ≡ EmptyLeft place → ⊥

partial : (number : ℕ) (octets : List ℕ) (fault : TowerFault) → EndsWithin number octets fault → IsPartial number octets fault
partial number octets (EmptyLeft place) within = absurd within
partial number octets (ShortCount place) within = record { counted = within.0; some = within.1; few = within.2; is = within.3; short = λ p e. cc (e) }
partial number octets (ShortLength place) within = record { counted = within.0; some = within.1; few = within.2; is = within.3; short = λ p e. cc (e) }
partial number octets (ShortPart place) within = record { counted = within.0; some = within.1; few = within.2; is = within.3; short = λ p e. cc (e) }

-- nothing is no fault
shows_some : (number : ℕ) (octets : List ℕ) (fault : StreamFault) → ShowsFault number octets fault → octets ≡ [] → ⊥
shows_some number octets (stream.Tower (EmptyLeft place)) shows none =
    let seen : IsFault [] (EmptyLeft place) = subst (λ (l : List ℕ). IsFault (in_sight l) (EmptyLeft place)) none shows.1 in
    cc (seen)
shows_some number octets (stream.Tower (ShortCount place)) shows none = absurd shows
shows_some number octets (stream.Tower (ShortLength place)) shows none = absurd shows
shows_some number octets (stream.Tower (ShortPart place)) shows none = absurd shows
shows_some number octets stream.TooLong shows none =
    let size = ap length none in
    let long = shows.1 in
    absurd (omega (arith, size, long))
shows_some number octets stream.TooManyTowers shows none =
    let size = ap length none in
    let some = shows.1 in
    absurd (omega (arith, size, some))

-- a part of a tower shows no fault
part_shows_none : (number : ℕ) (octets : List ℕ) (fault : StreamFault) (part : TowerFault) → ShowsFault number octets fault → EndsWithin number octets part → ⊥
part_shows_none number octets (stream.Tower (EmptyLeft place)) part shows within =
    let p = partial number octets part within in
    let seen : IsFault octets (EmptyLeft place) = subst (λ (l : List ℕ). IsFault l (EmptyLeft place)) (sight_whole octets (omega (arith, p.few))) shows.1 in
    p.short place (one_fault octets part (EmptyLeft place) p.is seen)
part_shows_none number octets (stream.Tower (ShortCount place)) part shows within = absurd shows
part_shows_none number octets (stream.Tower (ShortLength place)) part shows within = absurd shows
part_shows_none number octets (stream.Tower (ShortPart place)) part shows within = absurd shows
part_shows_none number octets stream.TooLong part shows within =
    let p = partial number octets part within in
    let long = shows.1 in
    absurd (omega (arith, p.few, long))
part_shows_none number octets stream.TooManyTowers part shows within =
    let p = partial number octets part within in
    let beyond = shows.0 in
    absurd (omega (arith, p.counted, beyond))

no_rest : (number : ℕ) (octets : List ℕ) (rest : Rest) → IsRest number octets rest → BeginsWithTower number octets → ⊥
no_rest number octets Nothing none begins = nothing_begins begins.0 begins.1 begins.2 begins.3.2 (sym begins.4 ∙ none)
  where
    nothing_begins : (floors : List Floor) (front rest : List ℕ) → IsTower floors front → front ++ rest ≡ [] → ⊥
    nothing_begins floors [] rest tower is = absurd tower.1
    nothing_begins floors (a ∷ front) rest tower is = cc (is)
no_rest number octets (AtFault fault) shows begins = no_tower number octets fault shows begins
no_rest number octets (PartOf fault) within begins = tower_or_fault octets begins.0 begins.1 begins.2 fault begins.3.2 begins.4
    (partial number octets fault within).is

one_rest : (number : ℕ) (octets : List ℕ) (r s : Rest) → IsRest number octets r → IsRest number octets s → r ≡ s
one_rest number octets Nothing Nothing first second = refl
one_rest number octets Nothing (AtFault fault) first second = absurd (shows_some number octets fault second first)
one_rest number octets Nothing (PartOf fault) first second =
    let p = partial number octets fault second in
    let size = ap length first in
    absurd (omega (arith, size, p.some))
one_rest number octets (AtFault a) Nothing first second = absurd (shows_some number octets a first second)
one_rest number octets (AtFault a) (AtFault b) first second = ap AtFault (one_shown number octets a b first second)
one_rest number octets (AtFault a) (PartOf b) first second = absurd (part_shows_none number octets a b first second)
one_rest number octets (PartOf a) Nothing first second =
    let p = partial number octets a first in
    let size = ap length second in
    absurd (omega (arith, size, p.some))
one_rest number octets (PartOf a) (AtFault b) first second = absurd (part_shows_none number octets b a second first)
one_rest number octets (PartOf a) (PartOf b) first second = ap PartOf
    (one_fault octets a b (partial number octets a first).is (partial number octets b second).is)

-- ---- whole inputs

-- the same octets are the same towers, with the same after them
pub one_reading : (number : ℕ) (octets : List ℕ) (ts us : List (List Floor)) (r s : Rest) → AreTowers number octets ts r
    → AreTowers number octets us s → towers_demand number ts r ≡ towers_demand number us s
one_reading number octets [] [] r s first second = ap (rest_demand number) (one_rest number octets r s first second)
one_reading number octets [] (u ∷ us) r s first second = absurd (no_rest number octets r first (u, second.0, second.1, second.3, second.2))
one_reading number octets (t ∷ ts) [] r s first second = absurd (no_rest number octets s second (t, first.0, first.1, first.3, first.2))
one_reading number octets (t ∷ ts) (u ∷ us) r s first second =
    let apart = towers_apart t u first.0 second.0 first.1 second.1 first.3.2 second.3.2 (sym first.2 ∙ second.2) in
    let later : towers_demand (number + 1) ts r ≡ towers_demand (number + 1) us s =
    one_reading (number + 1) first.1 ts us r s first.4 (subst (λ (l : List ℕ). AreTowers (number + 1) l us s) (sym apart.2) second.4) in
    ap (λ (floors : List Floor). with_front (tower_text floors) (towers_demand (number + 1) ts r)) apart.0 ∙ ap (with_front (tower_text u)) later

-- octets demand one thing of `towers`
pub one_towers_demand : (octets : List ℕ) (d e : Demand) → TowersDemand 1 octets d → TowersDemand 1 octets e → d ≡ e
one_towers_demand octets d e first second = sym first.3 ∙ one_reading 1 octets first.0 second.0 first.1 second.1 first.2 second.2 ∙ second.3

-- what shows a fault demands the same whatever follows
pub reading_stays : (number : ℕ) (xs ys : List ℕ) (ts : List (List Floor)) (fault : StreamFault) → AreTowers number xs ts (AtFault fault)
    → AreTowers number (xs ++ ys) ts (AtFault fault)
reading_stays number xs ys [] fault shows = shows_more number xs ys fault shows
reading_stays number xs ys (t ∷ ts) fault are =
    (are.0, are.1 ++ ys, ap (λ (l : List ℕ). l ++ ys) are.2 ∙ append_assoc are.0 are.1 ys, are.3, reading_stays (number + 1) are.1 ys ts fault are.4)

-- a fault of towers that shows ends what is due
pub towers_fault_stays : (xs ys : List ℕ) (d : Demand) → TowersDemand 1 xs d → d.verdict ≡ Faulty → TowersDemand 1 (xs ++ ys) d
towers_fault_stays xs ys d demands faulty = by_rest demands.1 demands.2 demands.3
  where
    verdict_of : (number : ℕ) (ts : List (List Floor)) (r : Rest) → (towers_demand number ts r).verdict ≡ (rest_demand number r).verdict
    verdict_of number [] r = refl
    verdict_of number (t ∷ ts) r = verdict_of (number + 1) ts r ∙ same number r
      where
        same : (n : ℕ) (r : Rest) → (rest_demand (n + 1) r).verdict ≡ (rest_demand n r).verdict
        same n Nothing = refl
        same n (AtFault f) = refl
        same n (PartOf f) = refl

    by_rest : (r : Rest) → AreTowers 1 xs demands.0 r → towers_demand 1 demands.0 r ≡ d → TowersDemand 1 (xs ++ ys) d
    by_rest Nothing are is = absurd (cc (verdict_of 1 demands.0 Nothing, ap (λ (e : Demand). e.verdict) is, faulty))
    by_rest (AtFault fault) are is = (demands.0, AtFault fault, reading_stays 1 xs ys demands.0 fault are, is)
    by_rest (PartOf fault) are is = absurd (cc (verdict_of 1 demands.0 (PartOf fault), ap (λ (e : Demand). e.verdict) is, faulty))

-- the texts of whole towers are due whatever follows
pub body_stays : (number : ℕ) (xs ys : List ℕ) (ts us : List (List Floor)) (r s : Rest) → AreTowers number xs ts r → AreTowers number (xs ++ ys) us s
    → IsFront (towers_demand number ts r).body (towers_demand number us s).body
body_stays number xs ys [] us Nothing s first second = ((towers_demand number us s).body, refl)
body_stays number xs ys [] us (PartOf fault) s first second = ((towers_demand number us s).body, refl)
body_stays number xs ys [] us (AtFault fault) s first second =
    let same = one_reading number (xs ++ ys) [] us (AtFault fault) s (shows_more number xs ys fault first) second in
    ([], sym (ap (λ (d : Demand). d.body) same) ∙ sym (append-nil (stream_fault_text number fault)))
body_stays number xs ys (t ∷ ts) [] r s first second = absurd (no_rest number (xs ++ ys) s second
    (t, first.0, first.1 ++ ys, first.3, ap (λ (l : List ℕ). l ++ ys) first.2 ∙ append_assoc first.0 first.1 ys))
body_stays number xs ys (t ∷ ts) (u ∷ us) r s first second =
    let split : xs ++ ys ≡ first.0 ++ (first.1 ++ ys) = ap (λ (l : List ℕ). l ++ ys) first.2 ∙ append_assoc first.0 first.1 ys in
    let apart = towers_apart t u first.0 second.0 (first.1 ++ ys) second.1 first.3.2 second.3.2 (sym split ∙ second.2) in
    let later = body_stays (number + 1) first.1 ys ts us r s first.4 (subst (λ (l : List ℕ). AreTowers (number + 1) l us s) (sym apart.2) second.4) in (
      later.0,
      ap (λ (floors : List Floor). tower_text floors ++ (towers_demand (number + 1) us s).body) (sym apart.0)
          ∙ ap (λ (l : List ℕ). tower_text t ++ l) later.1 ∙ sym (append_assoc (tower_text t) (towers_demand (number + 1) ts r).body later.0),
    )

-- the lines of towers are due whatever follows
pub towers_body_stays : (xs ys : List ℕ) (d e : Demand) → TowersDemand 1 xs d → TowersDemand 1 (xs ++ ys) e → IsFront d.body e.body
towers_body_stays xs ys d e first second =
    let front = body_stays 1 xs ys first.0 second.0 first.1 second.1 first.2 second.2 in
    (front.0, ap (λ (x : Demand). x.body) (sym second.3) ∙ front.1 ∙ ap (λ (x : Demand). x.body ++ front.0) first.3)
