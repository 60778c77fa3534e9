-- Bags: what is posted comes after all that was, and what a bag stands for after that and after a
-- loss.
use Rattle.std.proofs.Common.{◌≡◌, ◌≢◌, ℕ, zero, suc, ◌+◌, ◌-◌, ◌≤◌, ◌<◌, Bool, true, false, cond, List, [], ◌∷◌, ◌++◌, length, Option, Some, None}
use Rattle.std.proofs.Common.{Result, Ok, Err, refl, sym, ap, subst, ◌∙◌, append_assoc, append-nil, arith, inl, inr}
use Rattle.std.specs.Prelude.{◌==◌, ◌||◌, if◌then◌else◌, slice_get, IfSome, ◌⊎◌, max, min}
use Rattle.std.specs.Rc.{rc_slice_items}
use Rattle.std.proofs.lemmas.List.{length-append}
use Rattle.std.proofs.lemmas.Bool.{cases_lt}
use Rattle.std.proofs.lemmas.Bool.Decides.{nat_tests}
use Rattle.std.proofs.lemmas.Option.{slice_get_past}
use Rattle.cds_stamps.specs.declared.alloc_or.AllocOr.{AllocOr}
use Rattle.cds_stamps.specs.declared.alloc_or.AllocOr.TheVariants.{Fault}
use Rattle.cds_stamps.specs.declared.numbers.HouseNo.{HouseNo}
use Rattle.cds_stamps.specs.Outcomes.{Answers}
use Rattle.cds_stamps.proofs.Masks.{same_place, other_place}
use Rattle.directory.specs.Entries.{IsValidEntry, IsValidTable}
use Rattle.directory.proofs.TableLaws.{entry_of-valid}
use Rattle.directory.proofs.PurgeLaws.{purged-valid}
use Rattle.purge_rule.specs.declared.replica.Replica.{Replica}
use Rattle.record_fields.specs.Decoding.{Decodes, IsWhole}
use Rattle.cds_records.specs.RecordOctets.{message_octets}
use Rattle.cds_records.specs.Records as records
use Rattle.cds_messages.specs.Validity.{IsValidBody, IsValidMessage}
use Rattle.record_fields.specs.declared.fault.RecordFault.{RecordFault}
use Rattle.cds_messages.specs.declared.message.Message.{Message}
use Rattle.cds_messages.specs.declared.message.Body.{Body}
use Rattle.cds_messages.specs.declared.message.Body.TheVariants as body
use Rattle.purge_rule.specs.declared.delta.Delta.{Delta}
use Rattle.purge_rule.specs.Replicas.{IsDelta}
use Rattle.purge_rule.proofs.ReplicaLaws.{delta_of-valid}
use Rattle.cell_model.specs.Cells as model
use Rattle.cell_model.specs.Sets.{has}
use Rattle.cell_model.specs.Steps.{message_at, serials}
use Rattle.clearinghouse.specs.declared.letters.Letters.{Letters}
use Rattle.house_directory.specs.declared.posted.Posted.{Posted}
use Rattle.house_directory.specs.HouseMessages.{StandEach, StandsBody, StandsCopy, StandsDelta, StandsMessage, numbers_of, posts_to}
use Rattle.clearinghouse.specs.HouseLetters.{AreLetters}
use Rattle.cds_cell.specs.declared.bag.Bag.{Bag}
use Rattle.cds_cell.specs.declared.bag.Letter.{Letter}
use Rattle.cds_cell.specs.Bags.{MaybeStandsLetter, StandsBag, StandsLetter, letter_at}
use Rattle.cds_cell.specs.PrivateActs.{Carries, Posts, SomeCarries, numbers_behind}
use Rattle.cds_cell.specs.PrivateBags.{IsEmptyBag, PostsOne}
use Rattle.cds_cell.specs.PrivateMarks.{TakesBack}

-- ---- what is posted

-- where nothing is posted all stays as it was
pub posted_none : (b : Bag) (told : List ℕ) → Posts b b told told []
posted_none b told = record {
  posted = omega arith;
  told = sym (append-nil told);
  earlier = λ n le. refl;
  each = λ i p is. absurd (cc);
  later = λ n lt. refl;
}

-- the letter that was posted is under its number
one_found : (old b : Bag) (before told : List ℕ) (l : Letter) → PostsOne old b before told l → letter_at b (old.posted + 1) ≡ Some l
one_found old b before told l one =
    one.letters (old.posted + 1) ∙ ap (λ t. if t then Some l else letter_at old (old.posted + 1)) (same_place (old.posted + 1) (old.posted + 1) refl)

-- and no other has changed
one_other : (old b : Bag) (before told : List ℕ) (l : Letter) (n : ℕ) → PostsOne old b before told l → n ≢ old.posted + 1 → letter_at b n ≡ letter_at old n
one_other old b before told l n one other =
    one.letters n ∙ ap (λ t. if t then Some l else letter_at old n) (other_place n (old.posted + 1) other)

-- one letter, and then others
pub posted_first : (old b new : Bag) (before told after : List ℕ) (l : Letter) (p : Posted) (ps : List Posted) → PostsOne old b before told l
    → Carries l p → Posts b new told after ps → Posts old new before after (p ∷ ps)
posted_first old b new before told after l p ps one carries rest = record {
  posted = let a = one.posted in let c = rest.posted in omega arith;
  told =
      rest.told ∙ ap (λ t. t ++ numbers_behind b.posted ps) one.told
      ∙ append_assoc before ((old.posted + 1) ∷ []) (numbers_behind b.posted ps)
      ∙ ap (λ n. before ++ (old.posted + 1) ∷ numbers_behind n ps) one.posted;
  earlier = λ n le.
      rest.earlier n (let a = one.posted in omega arith)
      ∙ one_other old b before told l n one (λ e. absurd (omega arith));
  each = at;
  later = λ n lt.
      let a = one.posted in
      let c = rest.posted in
      rest.later n lt ∙ one_other old b before told l n one (λ e. absurd (omega arith));
}
  where
    at : (i : ℕ) (q : Posted) → slice_get (p ∷ ps) i ≡ Some q → SomeCarries (letter_at new (old.posted + i + 1)) q
    at zero q is =
        let same : p ≡ q = cc in
        let found : letter_at new (old.posted + 1) ≡ Some l =
        rest.earlier (old.posted + 1) (let a = one.posted in omega arith) ∙ one_found old b before told l one in
        let place : old.posted + 1 ≡ old.posted + 0 + 1 = omega arith in
        subst (λ n. SomeCarries (letter_at new n) q) place (subst (λ o. SomeCarries o q) (sym found) (subst (Carries l) same carries))
    at (suc j) q is =
        let place : b.posted + j + 1 ≡ old.posted + suc j + 1 = let a = one.posted in omega arith in
        subst (λ n. SomeCarries (letter_at new n) q) place (rest.each j q is)

-- ---- letters that are posted one after another

-- with a message to each of the rest of the houses, one to all of them is posted
pub record PostsRest (old now : Bag) (before told : List ℕ) (m : Message) (all rest : List HouseNo) : Type 0 where
  pub completes : (new : Bag) (after : List ℕ) → Posts now new told after (posts_to (numbers_of rest) m)
      → Posts old new before after (posts_to (numbers_of all) m)

-- so it is of each message that has these octets, and as many numbers are left as letters
pub record PostsLetters (old now : Bag) (before told octets : List ℕ) (all rest : List HouseNo) : Type 0 where
  pub room : now.posted + length rest ≡ old.posted + length all
  pub each : (m : Message) → octets ≡ message_octets m → (IsValidMessage m → IsWhole records.message m octets) → PostsRest old now before told m all rest

-- before the first letter
pub letters_begin : (b : Bag) (told octets : List ℕ) (all : List HouseNo) → PostsLetters b b told told octets all all
letters_begin b told octets all = record { room = refl; each = λ m is whole. record { completes = λ new after posts. posts } }

-- with one letter more
pub letters_go_on : (old now next : Bag) (before told more octets : List ℕ) (all rest : List HouseNo) (y : HouseNo) (l : Letter) → PostsOne now next told more l
    → l.to ≡ y → rc_slice_items l.shared ≡ octets → PostsLetters old now before told octets all (y ∷ rest) → PostsLetters old next before more octets all rest
letters_go_on old now next before told more octets all rest y l one to shared h = record {
  room = let a = one.posted in let c = h.room in omega arith;
  each = λ m is whole. record {
    completes = λ new after posts.
        (h.each m is whole).completes new after
        (posted_first now next new told more after l (record { to = y; message = m }) (posts_to (numbers_of rest) m) one
        (record {
          to = to;
          octets = shared ∙ is;
          whole = λ valid. subst (IsWhole records.message m) (sym shared) (whole valid);
        })
        posts);
  };
}

-- with all of them
pub letters_end : (old now : Bag) (before told octets : List ℕ) (all : List HouseNo) (ls : Letters) (ps : List Posted)
    → PostsLetters old now before told octets all [] → octets ≡ ls.octets.items → all ≡ ls.receivers.items → AreLetters ls ps → Posts old now before told ps
letters_end old now before told octets all ls ps h shared houses are =
    let rest = h.each are.message (shared ∙ are.octets)
    (subst (λ o. IsValidMessage are.message → IsWhole records.message are.message o) (sym shared) are.whole) in
    subst (Posts old now before told) (ap (λ hs. posts_to (numbers_of hs) are.message) houses ∙ sym are.posts)
    (rest.completes now told (posted_none now told))

-- ---- two posts, one after the other

numbers_both : (n : ℕ) (ps qs : List Posted) → numbers_behind n (ps ++ qs) ≡ numbers_behind n ps ++ numbers_behind (n + length ps) qs
numbers_both n [] qs = let e : n ≡ n + 0 = omega arith in ap (λ k. numbers_behind k qs) e
numbers_both n (p ∷ ps) qs =
    let e : n + 1 + length ps ≡ n + suc (length ps) = omega arith in
    ap (λ ns. (n + 1) ∷ ns) (numbers_both (n + 1) ps qs ∙ ap (λ k. numbers_behind (n + 1) ps ++ numbers_behind k qs) e)

-- an item of two lists is in the first, or in the second at a place after
in_both : {X : Type 0} (ps qs : List X) (i : ℕ) → i < length ps → slice_get (ps ++ qs) i ≡ slice_get ps i
in_both [] qs i lt = absurd (omega arith)
in_both (p ∷ ps) qs zero lt = refl
in_both (p ∷ ps) qs (suc i) lt = in_both ps qs i (omega arith)

in_second : {X : Type 0} (ps qs : List X) (i : ℕ) → slice_get (ps ++ qs) (length ps + i) ≡ slice_get qs i
in_second [] qs i = let e : 0 + i ≡ i = omega arith in ap (slice_get qs) e
in_second (p ∷ ps) qs i = let e : suc (length ps) + i ≡ suc (length ps + i) = omega arith in ap (slice_get (p ∷ (ps ++ qs))) e ∙ in_second ps qs i

pub item_at : {X : Type 0} (xs : List X) (i : ℕ) → i < length xs → (x : X) × (slice_get xs i ≡ Some x)
item_at [] i lt = absurd (omega arith)
item_at (x ∷ xs) zero lt = (x, refl)
item_at (x ∷ xs) (suc i) lt = item_at xs i (omega arith)

-- what was posted first, and then what was posted after that, is all that was posted
pub posted_both : (a b c : Bag) (s t u : List ℕ) (ps qs : List Posted) → Posts a b s t ps → Posts b c t u qs → Posts a c s u (ps ++ qs)
posted_both a b c s t u ps qs one two = record {
  posted = let x = one.posted in let y = two.posted in omega (arith, length-append ps qs);
  told =
      two.told ∙ ap (λ ns. ns ++ numbers_behind b.posted qs) one.told ∙ append_assoc s (numbers_behind a.posted ps) (numbers_behind b.posted qs)
      ∙ ap (λ n. s ++ (numbers_behind a.posted ps ++ numbers_behind n qs)) one.posted ∙ ap (λ ns. s ++ ns) (sym (numbers_both a.posted ps qs));
  earlier = λ n le. two.earlier n (let x = one.posted in omega arith) ∙ one.earlier n le;
  each = λ i p is. at i p is (cases_lt i (length ps));
  later = λ n lt.
      let y = two.posted in
      two.later n lt ∙ one.later n (omega arith);
}
  where
    at : (i : ℕ) (p : Posted) → slice_get (ps ++ qs) i ≡ Some p → (i < length ps) ⊎ (length ps ≤ i) → SomeCarries (letter_at c (a.posted + i + 1)) p
    at i p is (inl lt) =
        subst (λ o. SomeCarries o p) (sym (two.earlier (a.posted + i + 1) (let x = one.posted in omega arith)))
        (one.each i p (sym (in_both ps qs i lt) ∙ is))
    at i p is (inr le) =
        let j : ℕ = i - length ps in
        let back : length ps + j ≡ i = omega arith in
        let place : b.posted + j + 1 ≡ a.posted + i + 1 = let x = one.posted in omega arith in
        subst (λ n. SomeCarries (letter_at c n) p) place
        (two.each j p (sym (in_second ps qs j) ∙ ap (slice_get (ps ++ qs)) back ∙ is))

-- ---- what stands for messages of the model

-- as many messages of the model
pub each_count : (ps : List Posted) (ms : List model.Message) → StandEach ps ms → length ps ≡ length ms
each_count [] [] h = refl
each_count (p ∷ ps) (m ∷ ms) h = ap suc (each_count ps ms h.1)
each_count [] (m ∷ ms) h = elim h [ ]
each_count (p ∷ ps) [] h = elim h [ ]

-- the numbers that are told are the serials of the model
pub numbers_are : (n : ℕ) (ps : List Posted) (ms : List model.Message) → StandEach ps ms → numbers_behind n ps ≡ serials n ms
numbers_are n [] [] h = refl
numbers_are n (p ∷ ps) (m ∷ ms) h = ap (λ ns. (n + 1) ∷ ns) (numbers_are (n + 1) ps ms h.1)
numbers_are n [] (m ∷ ms) h = elim h [ ]
numbers_are n (p ∷ ps) [] h = elim h [ ]

-- the message at a place stands for that of the model
each_at : (ps : List Posted) (ms : List model.Message) (i : ℕ) (p : Posted) → StandEach ps ms → slice_get ps i ≡ Some p
    → (m : model.Message) × (slice_get ms i ≡ Some m) × StandsMessage p.to.0 p.message m
each_at [] ms i p h is = absurd (cc)
each_at (q ∷ ps) [] i p h is = elim h [ ]
each_at (q ∷ ps) (m ∷ ms) zero p h is =
    let same : q ≡ p = cc in
    (m, refl, subst (λ (x : Posted). StandsMessage x.to.0 x.message m) same h.0)
each_at (q ∷ ps) (m ∷ ms) (suc i) p h is = each_at ps ms i p h.1 is

-- ---- what stands for a message is valid

-- the replica of a history has a valid table
copy_valid : (r : Replica) (c : model.Copy) → StandsCopy r c → IsValidTable r.table
copy_valid r c is = subst (λ (x : Replica). IsValidTable x.table) (sym is) (purged-valid c.history c.all_up_to)

-- the delta of a history is one
copied_delta : (d : Delta) (c : model.Copy) → StandsDelta d c → IsDelta d
copied_delta d c is = subst IsDelta (sym is) (delta_of-valid c.history c.all_up_to)

-- so what a message carries that stands for one of the model is valid
pub body_valid : (b : Body) (n : model.Body) → StandsBody b n → IsValidBody b
body_valid (body.Update f) (model.Update marks) h = subst (λ o. IfSome o IsValidEntry) h.entry (entry_of-valid marks f.name)
body_valid (body.Gathered t d) (model.Gathered u c) h = copied_delta d c h.1
body_valid (body.Spread t d) (model.Spread u c) h = copied_delta d c h.1
body_valid (body.Join ms r) (model.Join ns c) h = copy_valid r c h.1
body_valid (body.Gather t) n h = tt
body_valid (body.SpreadAck t) n h = tt
body_valid (body.Advance t) n h = tt
body_valid body.Leave n h = tt
body_valid (body.Update f) (model.Gather u) h = elim h [ ]
body_valid (body.Update f) (model.Gathered u c) h = elim h [ ]
body_valid (body.Update f) (model.Spread u c) h = elim h [ ]
body_valid (body.Update f) (model.SpreadAck u) h = elim h [ ]
body_valid (body.Update f) (model.Advance u) h = elim h [ ]
body_valid (body.Update f) (model.Join ns c) h = elim h [ ]
body_valid (body.Update f) model.Leave h = elim h [ ]
body_valid (body.Gathered t r) (model.Update marks) h = elim h [ ]
body_valid (body.Gathered t r) (model.Gather u) h = elim h [ ]
body_valid (body.Gathered t r) (model.Spread u c) h = elim h [ ]
body_valid (body.Gathered t r) (model.SpreadAck u) h = elim h [ ]
body_valid (body.Gathered t r) (model.Advance u) h = elim h [ ]
body_valid (body.Gathered t r) (model.Join ns c) h = elim h [ ]
body_valid (body.Gathered t r) model.Leave h = elim h [ ]
body_valid (body.Spread t r) (model.Update marks) h = elim h [ ]
body_valid (body.Spread t r) (model.Gather u) h = elim h [ ]
body_valid (body.Spread t r) (model.Gathered u c) h = elim h [ ]
body_valid (body.Spread t r) (model.SpreadAck u) h = elim h [ ]
body_valid (body.Spread t r) (model.Advance u) h = elim h [ ]
body_valid (body.Spread t r) (model.Join ns c) h = elim h [ ]
body_valid (body.Spread t r) model.Leave h = elim h [ ]
body_valid (body.Join ms r) (model.Update marks) h = elim h [ ]
body_valid (body.Join ms r) (model.Gather u) h = elim h [ ]
body_valid (body.Join ms r) (model.Gathered u c) h = elim h [ ]
body_valid (body.Join ms r) (model.Spread u c) h = elim h [ ]
body_valid (body.Join ms r) (model.SpreadAck u) h = elim h [ ]
body_valid (body.Join ms r) (model.Advance u) h = elim h [ ]
body_valid (body.Join ms r) model.Leave h = elim h [ ]

-- ---- bags

-- after all that was posted there is no message
none_behind : (g : model.Cell) (n : ℕ) → length g.bag < n → message_at g n ≡ None
none_behind g n lt = by ((n == 0) || has n g.lost)
  where
    none : slice_get g.bag (n - 1) ≡ None
    none = slice_get_past g.bag (n - 1) (omega arith)

    by : (b : Bool) → cond b None (slice_get g.bag (n - 1)) ≡ None
    by true = refl
    by false = none

-- so there is no letter
no_letter : (b : Bag) (g : model.Cell) (n : ℕ) → StandsBag b g → length g.bag < n → letter_at b n ≡ None
no_letter b g n stands lt = by (letter_at b n) (message_at g n) (none_behind g n lt) (stands.letters n)
  where
    by : (l : Option Letter) (m : Option model.Message) → m ≡ None → MaybeStandsLetter l m → l ≡ None
    by None m is h = refl
    by (Some l) None is h = elim h [ ]
    by (Some l) (Some m) is h = absurd (cc)

-- a letter with a message that stands for one of the model stands for that
carried_stands : (l : Letter) (p : Posted) (m : model.Message) → Carries l p → StandsMessage p.to.0 p.message m → StandsLetter l m
carried_stands l p m carries stands =
    let valid : IsValidMessage p.message = body_valid p.message.body m.body stands.body in
    record {
      carried = p.message;
      stands = subst (λ (to : HouseNo). StandsMessage to.0 p.message m) (sym carries.to) stands;
      valid = valid;
      octets = carries.octets;
      whole = carries.whole valid;
    }

some_stands : (o : Option Letter) (p : Posted) (m : model.Message) → SomeCarries o p → StandsMessage p.to.0 p.message m → MaybeStandsLetter o (Some m)
some_stands None p m carries stands = elim carries [ ]
some_stands (Some l) p m carries stands = carried_stands l p m carries stands

-- bags of cells whose messages and losses are the same stand alike
pub same_bag : (b : Bag) (g h : model.Cell) → h.bag ≡ g.bag → h.lost ≡ g.lost → StandsBag b g → StandsBag b h
same_bag b g h bag lost stands = record {
  posted = stands.posted ∙ ap length (sym bag);
  letters = λ n.
      subst (λ ms. MaybeStandsLetter (letter_at b n) (if (n == 0) || has n h.lost then None else slice_get ms (n - 1))) (sym bag)
      (subst (λ ls. MaybeStandsLetter (letter_at b n) (if (n == 0) || has n ls then None else slice_get g.bag (n - 1))) (sym lost) (stands.letters n));
  lost = λ n lt.
      subst (λ ls. has n ls ≡ false) (sym lost) (stands.lost n (subst (λ ms. length ms < n) bag lt));
}

-- a bag to which nothing was posted stands for that of the empty cell
pub empty_bag : (b : Bag) → IsEmptyBag b → StandsBag b model.empty_cell
empty_bag b empty = record {
  posted = empty.posted;
  letters = λ n. subst (λ o. MaybeStandsLetter o (message_at model.empty_cell n)) (sym (empty.letters n)) (none n ((n == 0) || false));
  lost = λ n lt. refl;
}
  where
    none : (n : ℕ) (b : Bool) → MaybeStandsLetter None (cond b None (slice_get [] (n - 1)))
    none n true = tt
    none n false = tt

-- the message of a number in a cell with more messages, told by those that were posted before
message_read : (g h : model.Cell) (ms : List model.Message) → h.bag ≡ g.bag ++ ms → h.lost ≡ g.lost → (n : ℕ)
    → message_at h n ≡ (if (n == 0) || has n g.lost then None else slice_get (g.bag ++ ms) (n - 1))
message_read g h ms bag lost n =
    ap (λ ls. if (n == 0) || has n ls then None else slice_get h.bag (n - 1)) lost
    ∙ ap (λ xs. if (n == 0) || has n g.lost then None else slice_get xs (n - 1)) bag

-- those that were posted before are the same
earlier_message : (g h : model.Cell) (ms : List model.Message) → h.bag ≡ g.bag ++ ms → h.lost ≡ g.lost → (n : ℕ) → n ≤ length g.bag
    → message_at h n ≡ message_at g n
earlier_message g h ms bag lost zero le = message_read g h ms bag lost 0
earlier_message g h ms bag lost (suc k) le =
    message_read g h ms bag lost (suc k)
    ∙ ap (λ o. if (suc k == 0) || has (suc k) g.lost then None else o) (in_both g.bag ms (suc k - 1) (omega arith))

module _ (b c : Bag) (g h : model.Cell) (before after : List ℕ) (ps : List Posted) (ms : List model.Message) (stands : StandsBag b g)
    (posts : Posts b c before after ps) (each : StandEach ps ms) (bag : h.bag ≡ g.bag ++ ms) (lost : h.lost ≡ g.lost) where
  count : length h.bag ≡ length g.bag + length ms
  count = ap length bag ∙ length-append g.bag ms

  -- the message of a number, told by what was posted before
  read : (n : ℕ) → message_at h n ≡ (if (n == 0) || has n g.lost then None else slice_get (g.bag ++ ms) (n - 1))
  read n = message_read g h ms bag lost n

  -- the next ones are those that were posted now
  now_posted : (i : ℕ) (n : ℕ) → n ≡ length g.bag + i + 1 → message_at h n ≡ slice_get ms i
  now_posted i n is =
      let back : length g.bag + i ≡ n - 1 = omega arith in
      read n
      ∙ ap (λ t. if t || has n g.lost then None else slice_get (g.bag ++ ms) (n - 1)) (other_place n 0 (λ e. absurd (omega arith)))
      ∙ ap (λ t. if t then None else slice_get (g.bag ++ ms) (n - 1)) (stands.lost n (omega arith))
      ∙ ap (slice_get (g.bag ++ ms)) (sym back) ∙ in_second g.bag ms i

  here : (i n : ℕ) (p : Posted) (m : model.Message) → message_at h n ≡ Some m → b.posted + i + 1 ≡ n → slice_get ps i ≡ Some p
      → StandsMessage p.to.0 p.message m → MaybeStandsLetter (letter_at c n) (message_at h n)
  here i n p m read own is message =
      subst (MaybeStandsLetter (letter_at c n)) (sym read)
      (some_stands (letter_at c n) p m (subst (λ q. SomeCarries (letter_at c q) p) own (posts.each i p is)) message)

  with_message : (i n : ℕ) (p : Posted) → n ≡ length g.bag + i + 1 → b.posted + i + 1 ≡ n → slice_get ps i ≡ Some p
      → (m : model.Message) × (slice_get ms i ≡ Some m) × StandsMessage p.to.0 p.message m → MaybeStandsLetter (letter_at c n) (message_at h n)
  with_message i n p place own is m = here i n p m.0 (now_posted i n place ∙ m.1) own is m.2

  with_item : (i n : ℕ) → n ≡ length g.bag + i + 1 → b.posted + i + 1 ≡ n → (p : Posted) × (slice_get ps i ≡ Some p)
      → MaybeStandsLetter (letter_at c n) (message_at h n)
  with_item i n place own p = with_message i n p.0 place own p.1 (each_at ps ms i p.0 each p.1)

  at_now : (n : ℕ) → length g.bag < n → n ≤ c.posted → MaybeStandsLetter (letter_at c n) (message_at h n)
  at_now n lt le =
      let x = stands.posted in
      let y = posts.posted in
      with_item (n - (length g.bag + 1)) n (omega arith) (omega arith) (item_at ps (n - (length g.bag + 1)) (omega arith))

  at : (n : ℕ) → (n < length g.bag + 1) ⊎ (length g.bag + 1 ≤ n) → (c.posted < n) ⊎ (n ≤ c.posted) → MaybeStandsLetter (letter_at c n) (message_at h n)
  at n (inl lt) past =
      let x = stands.posted in
      subst (λ o. MaybeStandsLetter o (message_at h n)) (sym (posts.earlier n (omega arith)))
      (subst (MaybeStandsLetter (letter_at b n)) (sym (earlier_message g h ms bag lost n (omega arith))) (stands.letters n))
  at n (inr le) (inr within) = at_now n (omega arith) within
  at n (inr le) (inl past) =
      let x = stands.posted in
      let y = posts.posted in
      let z = each_count ps ms each in
      let w = count in
      let none : letter_at c n ≡ None = posts.later n past ∙ no_letter b g n stands (omega arith) in
      subst (λ o. MaybeStandsLetter o (message_at h n)) (sym none) (subst (MaybeStandsLetter None) (sym (none_behind h n (omega arith))) tt)

  -- after messages are posted the bag stands for that of the cell that has them too
  pub posted_stands : StandsBag c h
  posted_stands = record {
    posted =
        let x = stands.posted in
        let y = posts.posted in
        let z = each_count ps ms each in
        let w = count in
        omega arith;
    letters = λ n. at n (cases_lt n (length g.bag + 1)) (cases_lt c.posted n);
    lost = λ n lt. let w = count in subst (λ ls. has n ls ≡ false) (sym lost) (stands.lost n (omega arith));
  }

  -- and the numbers that are told are the serials of the model
  pub posted_serials : after ≡ before ++ serials (length g.bag) ms
  posted_serials = posts.told ∙ ap (λ k. before ++ numbers_behind k ps) stands.posted ∙ ap (λ ns. before ++ ns) (numbers_are (length g.bag) ps ms each)

-- ---- losses

-- where there is a letter there is a message, for which it is
pub letter_there : (b : Bag) (g : model.Cell) (n : ℕ) (l : Letter) → StandsBag b g → letter_at b n ≡ Some l
    → (m : model.Message) × (message_at g n ≡ Some m) × StandsLetter l m
letter_there b g n l stands is = by (message_at g n) refl (subst (λ o. MaybeStandsLetter o (message_at g n)) is (stands.letters n))
  where
    by : (o : Option model.Message) → message_at g n ≡ o → MaybeStandsLetter (Some l) o → (m : model.Message) × (message_at g n ≡ Some m) × StandsLetter l m
    by None same h = elim h [ ]
    by (Some m) same h = (m, same, h)

-- and none where there is none
pub no_letter_there : (b : Bag) (g : model.Cell) (n : ℕ) → StandsBag b g → letter_at b n ≡ None → message_at g n ≡ None
no_letter_there b g n stands is = by (message_at g n) (subst (λ o. MaybeStandsLetter o (message_at g n)) is (stands.letters n))
  where
    by : (o : Option model.Message) → MaybeStandsLetter None o → o ≡ None
    by None h = refl
    by (Some m) h = elim h [ ]

-- a message that is there was posted
was_posted : (g : model.Cell) (n : ℕ) (m : model.Message) → message_at g n ≡ Some m → n ≤ length g.bag
was_posted g n m is = by (cases_lt (length g.bag) n)
  where
    by : (length g.bag < n) ⊎ (n ≤ length g.bag) → n ≤ length g.bag
    by (inr le) = le
    by (inl lt) = absurd (let none = none_behind g n lt in cc)

-- without a message that is lost, the bag stands for that of the cell that lost it
pub lost_stands : (b c : Bag) (g : model.Cell) (n : ℕ) (m : model.Message) → StandsBag b g → message_at g n ≡ Some m → c.posted ≡ b.posted
    → ((q : ℕ) → letter_at c q ≡ (if q == n then None else letter_at b q)) → StandsBag c (record g { lost = n ∷ g.lost })
lost_stands b c g n m stands there posted letters = record {
  posted = posted ∙ stands.posted;
  letters = λ q. by q (q == n) (letters q) (stands.letters q);
  lost = λ q lt.
      let own = was_posted g n m there in
      ap (λ t. t || has q g.lost) (other_place q n (λ e. absurd (omega arith))) ∙ stands.lost q lt;
}
  where
    gone : (q : ℕ) (z : Bool) → letter_at c q ≡ None → MaybeStandsLetter (letter_at c q) (if z || true then None else slice_get g.bag (q - 1))
    gone q true is = subst (λ o. MaybeStandsLetter o None) (sym is) tt
    gone q false is = subst (λ o. MaybeStandsLetter o None) (sym is) tt

    by : (q : ℕ) (t : Bool) → letter_at c q ≡ (if t then None else letter_at b q) → MaybeStandsLetter (letter_at b q) (message_at g q)
        → MaybeStandsLetter (letter_at c q) (if (q == 0) || (t || has q g.lost) then None else slice_get g.bag (q - 1))
    by q true is h = gone q (q == 0) is
    by q false is h = subst (λ o. MaybeStandsLetter o (message_at g q)) (sym is) h

-- ---- deliveries

module _ (l : Letter) (m : model.Message) (r : Result (Message × ℕ) (AllocOr RecordFault)) (stands : StandsLetter l m)
    (decodes : Decodes records.message (rc_slice_items l.shared) r) where
  answers : Answers r (Ok (stands.carried, length (rc_slice_items l.shared)))
  answers = decodes.only stands.carried (rc_slice_items l.shared) [] stands.whole (sym (append-nil (rc_slice_items l.shared)))

  -- what is decoded of a letter is a valid message that stands for the model's
  pub letter_decodes : (d : Message × ℕ) → r ≡ Ok d → StandsMessage l.to.0 d.0 m × IsValidMessage d.0
  letter_decodes d is =
      let own : ◌≡◌ {A = Result (Message × ℕ) RecordFault} (Ok (stands.carried, length (rc_slice_items l.shared))) (Ok d) =
      subst (λ x. Answers x (Ok (stands.carried, length (rc_slice_items l.shared)))) is answers in
      let same : stands.carried ≡ d.0 = cc in
      (subst (λ x. StandsMessage l.to.0 x m) same stands.stands, subst IsValidMessage same stands.valid)

  -- and no fault is found in it
  pub letter_faultless : (f : RecordFault) → r ≡ Err (Fault f) → ⊥
  letter_faultless f is =
      absurd
      (let own : ◌≡◌ {A = Result (Message × ℕ) RecordFault} (Ok (stands.carried, length (rc_slice_items l.shared))) (Err f) =
      subst (λ x. Answers x (Ok (stands.carried, length (rc_slice_items l.shared)))) is answers in cc)

-- ---- bags that are taken back

-- the messages of numbers above `kept` are gone, up to number n
pub record AreGone (old now : Bag) (kept n : ℕ) : Type 0 where
  pub posted : now.posted ≡ old.posted
  pub few : n ≤ max kept old.posted
  pub first : (q : ℕ) → q ≤ kept → letter_at now q ≡ letter_at old q
  pub gone : (q : ℕ) → kept < q → q ≤ n → letter_at now q ≡ None
  pub others : (q : ℕ) → kept < q → n < q → letter_at now q ≡ letter_at old q

pub none_gone : (b : Bag) (kept : ℕ) → AreGone b b kept kept
none_gone b kept = record {
  posted = refl;
  few = omega arith;
  first = λ q le. refl;
  gone = λ q lt le. absurd (omega (arith, lt, le));
  others = λ q lt past. refl;
}

-- one more
pub gone_more : (old now next : Bag) (kept n : ℕ) → AreGone old now kept n → kept ≤ n → n < old.posted → next.posted ≡ now.posted
    → ((q : ℕ) → letter_at next q ≡ (if q == n + 1 then None else letter_at now q)) → AreGone old next kept (n + 1)
gone_more old now next kept n are low less posted letters = record {
  posted = posted ∙ are.posted;
  few = omega (arith, less);
  first = λ q le. other q (λ same. absurd (omega (arith, le, low, same))) ∙ are.first q le;
  gone = λ q lt le. by q lt le (q == n + 1) refl;
  others = λ q lt past. other q (λ same. absurd (omega (arith, past, same))) ∙ are.others q lt (omega (arith, past));
}
  where
    other : (q : ℕ) → q ≢ n + 1 → letter_at next q ≡ letter_at now q
    other q apart = letters q ∙ ap (λ t. if t then None else letter_at now q) (other_place q (n + 1) apart)

    by : (q : ℕ) → kept < q → q ≤ n + 1 → (t : Bool) → (q == n + 1) ≡ t → letter_at next q ≡ None
    by q lt le true on = letters q ∙ ap (λ t. if t then None else letter_at now q) on
    by q lt le false off =
        let before : q ≤ n = grind (arith, nat_tests, off, le) in
        letters q ∙ ap (λ t. if t then None else letter_at now q) off ∙ are.gone q lt before

-- all of them
pub all_gone : (old now new : Bag) (kept n : ℕ) → AreGone old now kept n → kept ≤ n → old.posted ≤ n → new.posted ≡ min kept now.posted
    → ((q : ℕ) → letter_at new q ≡ letter_at now q) → TakesBack old new kept
all_gone old now new kept n are low high posted same = record {
  posted = posted ∙ ap (min kept) are.posted;
  first = λ q le. same q ∙ are.first q le;
  gone = λ q lt le. same q ∙ are.gone q lt (omega (arith, le, high));
  others = λ q lt past. same q ∙ are.others q lt (let few = are.few in omega (arith, lt, past, few));
}

-- a bag that is taken back stands for the one before
pub back_stands : (old new : Bag) (g o : model.Cell) (ms : List model.Message) (kept : ℕ) → kept ≡ length g.bag → TakesBack old new kept → StandsBag old o
    → o.bag ≡ g.bag ++ ms → o.lost ≡ g.lost → ((n : ℕ) → length g.bag < n → has n g.lost ≡ false) → StandsBag new g
back_stands old new g o ms kept is back s bag lost unlost = record {
  posted =
      let count : length o.bag ≡ length g.bag + length ms = ap length bag ∙ length-append g.bag ms in
      let were = s.posted in
      let are = back.posted in
      omega (arith, count, were, are, is);
  letters = λ n. by n (cases_lt (length g.bag) n);
  lost = unlost;
}
  where
    none : (n : ℕ) → length g.bag < n → (old.posted < n) ⊎ (n ≤ old.posted) → letter_at new n ≡ None
    none n lt (inr le) = back.gone n (omega (arith, lt, is)) le
    none n lt (inl past) =
        back.others n (omega (arith, lt, is)) past ∙ no_letter old o n s (let were = s.posted in omega (arith, past, were))

    by : (n : ℕ) → (length g.bag < n) ⊎ (n ≤ length g.bag) → MaybeStandsLetter (letter_at new n) (message_at g n)
    by n (inr le) =
        subst (λ l. MaybeStandsLetter l (message_at g n)) (sym (back.first n (omega (arith, le, is))))
        (subst (MaybeStandsLetter (letter_at old n)) (earlier_message g o ms bag lost n le) (s.letters n))
    by n (inl lt) =
        subst (λ l. MaybeStandsLetter l (message_at g n)) (sym (none n lt (cases_lt old.posted n)))
        (subst (MaybeStandsLetter None) (sym (none_behind g n lt)) tt)
