-- The console's present lists, and the serials of lost messages, in every cell that is reached.
use Rattle.std.proofs.Common.{◌≡◌, ◌≢◌, ℕ, ◌+◌, ◌-◌, ◌<◌, ◌≤◌, zero, suc, inl, inr, Bool, true, false, ◌||◌, not, eqb, cond, List, [], ◌∷◌, ◌++◌, map}
use Rattle.std.proofs.Common.{length, Option, Some, None, refl, sym, ap, ◌∙◌, subst, arith, ⊎_elim, nat_lt, length-append}
use Rattle.std.specs.Prelude.{slice_get}
use Rattle.std.specs.List.{list_any}
use Rattle.cds_stamps.specs.Members.{Member, master_of, others_of, is_listed, since_in, most_members}
use Rattle.directory.specs.Updates as changes
use Rattle.cell_model.specs.Cells.{Message, Cell, empty_cell}
use Rattle.cell_model.specs.Commands as commands
use Rattle.cell_model.specs.Commands.{Command, Refusal, Answer, Stamped, NewEpoch}
use Rattle.cell_model.specs.Sets.{In, has}
use Rattle.cell_model.specs.Turns.{HouseStep, Turns, found_directory, accept, skulk, new_epoch, take}
use Rattle.cell_model.specs.Steps.{Outcome, first_refusal, unless, is_down, stands_twice, is_bad_list, at_house, insert_house, sorted_houses}
use Rattle.cell_model.specs.Steps.{kind_among, member_list_of, left_members, note_epoch, cell_with_directory, with_directory, with_epoch, message_at, deliver, lose, refusals_of, effect}
use Rattle.cell_model.specs.Steps.{outcome, replay_from, replay}
use Rattle.cell_model.proofs.Lists.{In-append_left, In-from_has, has-from_In, or_left, or_right, or_cases, or_true, not_true, eq_from, eq_to}
use Rattle.cell_model.proofs.Terms.{In-others_of, master_new, master_listed}
use Rattle.cell_model.proofs.AtHouses.{posts_of, at_house-bag, at_house-rest}
use Rattle.cell_model.proofs.Deliveries.{Fails}
use Rattle.cell_model.proofs.Answerings.{Once}

-- the houses of a list
abbrev pub houses_of : List Member → List ℕ
houses_of = map (λ y. y.house)

-- a listed house is one of them
pub listed_house : (x : ℕ) (ms : List Member) → is_listed x ms ≡ true → In x (houses_of ms)
listed_house x [] e = absurd (cc)
listed_house x (y ∷ ys) e =
    ⊎_elim (λ h. inl (sym (eq_from y.house x h))) (λ h. inr (listed_house x ys h)) (or_cases (eqb y.house x) (is_listed x ys) e)

-- and each of them is listed
pub house_listed : (x : ℕ) (ms : List Member) → In x (houses_of ms) → is_listed x ms ≡ true
house_listed x [] i = elim i [ ]
house_listed x (y ∷ ys) (inl e) = ap (λ (b : Bool). b || is_listed x ys) (eq_to y.house x (sym e))
house_listed x (y ∷ ys) (inr i) = or_true (eqb y.house x) (is_listed x ys) (house_listed x ys i)

-- ---- houses in ascending order

in_insert : (y x : ℕ) (zs : List ℕ) → In y (insert_house x zs) → In y (x ∷ zs)
in_insert y x [] i = i
in_insert y x (z ∷ zs) i = by_order (nat_lt z x) (in_insert y x zs) i
  where
    by_order : (b : Bool) → (In y (insert_house x zs) → In y (x ∷ zs)) → In y (cond b (z ∷ insert_house x zs) (x ∷ z ∷ zs)) → In y (x ∷ z ∷ zs)
    by_order true rest (inl e) = inr (inl e)
    by_order true rest (inr j) = ⊎_elim (λ (e : y ≡ x). inl e) (λ (o : In y zs). inr (inr o)) (rest j)
    by_order false rest j = j

insert_in : (y x : ℕ) (zs : List ℕ) → In y (x ∷ zs) → In y (insert_house x zs)
insert_in y x [] i = i
insert_in y x (z ∷ zs) i = by_order (nat_lt z x) (insert_in y x zs) i
  where
    by_order : (b : Bool) → (In y (x ∷ zs) → In y (insert_house x zs)) → In y (x ∷ z ∷ zs) → In y (cond b (z ∷ insert_house x zs) (x ∷ z ∷ zs))
    by_order true rest (inl e) = inr (rest (inl e))
    by_order true rest (inr (inl e)) = inl e
    by_order true rest (inr (inr o)) = inr (rest (inr o))
    by_order false rest j = j

-- a house in ascending order was there before
pub in_ascending : (y : ℕ) (zs : List ℕ) → In y (sorted_houses zs) → In y zs
in_ascending y [] i = i
in_ascending y (z ∷ zs) i =
    ⊎_elim (λ (e : y ≡ z). inl e) (λ (o : In y (sorted_houses zs)). inr (in_ascending y zs o)) (in_insert y z (sorted_houses zs) i)

-- and each that was there is there
pub ascending_in : (y : ℕ) (zs : List ℕ) → In y zs → In y (sorted_houses zs)
ascending_in y [] i = i
ascending_in y (z ∷ zs) (inl e) = insert_in y z (sorted_houses zs) (inl e)
ascending_in y (z ∷ zs) (inr i) = insert_in y z (sorted_houses zs) (inr (ascending_in y zs i))

once_insert : (x : ℕ) (zs : List ℕ) → (In x zs → ⊥) → Once zs → Once (insert_house x zs)
once_insert x [] n o = (n, tt)
once_insert x (z ∷ zs) n o = by_order (nat_lt z x) (once_insert x zs (λ i. n (inr i)) o.1)
  where
    by_order : (b : Bool) → Once (insert_house x zs) → Once (cond b (z ∷ insert_house x zs) (x ∷ z ∷ zs))
    by_order true rest = (λ i. ⊎_elim (λ (e : z ≡ x). n (inl (sym e))) (λ (j : In z zs). o.0 j) (in_insert z x zs i), rest)
    by_order false rest = (n, o)

once_ascending : (zs : List ℕ) → Once zs → Once (sorted_houses zs)
once_ascending [] o = o
once_ascending (z ∷ zs) o = once_insert z (sorted_houses zs) (λ i. o.0 (in_ascending z zs i)) (once_ascending zs o.1)

length_insert : (x : ℕ) (zs : List ℕ) → length (insert_house x zs) ≡ suc (length zs)
length_insert x [] = refl
length_insert x (z ∷ zs) = by_order (nat_lt z x) (length_insert x zs)
  where
    by_order : (b : Bool) → length (insert_house x zs) ≡ suc (length zs) → length (cond b (z ∷ insert_house x zs) (x ∷ z ∷ zs)) ≡ suc (suc (length zs))
    by_order true rest = ap (λ (n : ℕ). suc n) rest
    by_order false rest = refl

length_ascending : (zs : List ℕ) → length (sorted_houses zs) ≡ length zs
length_ascending [] = refl
length_ascending (z ∷ zs) = length_insert z (sorted_houses zs) ∙ ap (λ (n : ℕ). suc n) (length_ascending zs)

-- ---- lists without repeats

-- where the test finds no house twice, none is there twice
once_from : (hs : List ℕ) → stands_twice hs ≡ false → Once hs
once_from [] e = tt
once_from (x ∷ xs) e =
    let none : has x xs ≡ false = or_left (has x xs) (stands_twice xs) e in
    (λ i. let some : has x xs ≡ true = has-from_In x xs i in absurd (cc), once_from xs (or_right (has x xs) (stands_twice xs) e))

not_in : (x : ℕ) (xs : List ℕ) → (In x xs → ⊥) → has x xs ≡ false
not_in x xs n = by_test (has x xs) refl
  where
    by_test : (b : Bool) → has x xs ≡ b → b ≡ false
    by_test true e = absurd (n (In-from_has x xs e))
    by_test false e = refl

-- and the other way round
pub once_to : (hs : List ℕ) → Once hs → stands_twice hs ≡ false
once_to [] o = refl
once_to (x ∷ xs) o = ap (λ (b : Bool). b || stands_twice xs) (not_in x xs o.0) ∙ once_to xs o.1

-- the others of a list without repeats stand once
pub others_once : (h : ℕ) (ms : List Member) → Once (houses_of ms) → Once (others_of h ms)
others_once h [] o = tt
others_once h (y ∷ ys) o = by_test (eqb y.house h) (others_once h ys o.1)
  where
    by_test : (b : Bool) → Once (others_of h ys) → Once (cond b (others_of h ys) (y.house ∷ others_of h ys))
    by_test true rest = rest
    by_test false rest = (λ i. o.0 (listed_house y.house ys (In-others_of y.house h ys i).1), rest)

-- ---- what holds of the present lists

-- a list of a directory with this last epoch: no house is there twice, there are not too many, each
-- was made, and the master is one of them
pub record IsProper (made : List ℕ) (top : ℕ) (ms : List Member) : Type 0 where
  pub once : Once (houses_of ms)
  pub few : length ms ≤ most_members
  pub known : (x : ℕ) → is_listed x ms ≡ true → has x made ≡ true
  pub headed : top ≢ 0 → is_listed (master_of ms) ms ≡ true

houses_listing : (old : List Member) (k m : ℕ) (ss hs : List ℕ)
    → houses_of (map (λ x. record { house = x; since = since_in old x k; kind = kind_among m ss x }) hs) ≡ hs
houses_listing old k m ss [] = refl
houses_listing old k m ss (h ∷ hs) = ap (λ (l : List ℕ). h ∷ l) (houses_listing old k m ss hs)

-- the houses of a new list
pub houses_new : (old : List Member) (k m : ℕ) (rs ss : List ℕ) → houses_of (member_list_of old k m rs ss) ≡ sorted_houses (m ∷ rs)
houses_new old k m rs ss = houses_listing old k m ss (sorted_houses (m ∷ rs))

length_houses : (ms : List Member) → length (houses_of ms) ≡ length ms
length_houses [] = refl
length_houses (y ∷ ys) = ap (λ (n : ℕ). suc n) (length_houses ys)

all_made : (made hs : List ℕ) → list_any (λ h. not (has h made)) hs ≡ false → (x : ℕ) → In x hs → has x made ≡ true
all_made made [] e x i = elim i [ ]
all_made made (h ∷ hs) e x (inl s) =
    subst (λ (z : ℕ). has z made ≡ true) (sym s) (not_true (has h made) (or_left (not (has h made)) (list_any (λ h. not (has h made)) hs) e))
all_made made (h ∷ hs) e x (inr i) = all_made made hs (or_right (not (has h made)) (list_any (λ h. not (has h made)) hs) e) x i

-- a list that a command names is proper
pub proper_new : (made : List ℕ) (old : List Member) (top k m : ℕ) (rs ss : List ℕ) → is_bad_list (m ∷ rs) ≡ false
    → list_any (λ h. not (has h made)) (m ∷ rs) ≡ false → IsProper made top (member_list_of old k m rs ss)
proper_new made old top k m rs ss fine there =
    let same = houses_new old k m rs ss in
    let many : nat_lt most_members (length (m ∷ rs)) ≡ false = or_right (stands_twice (m ∷ rs)) (nat_lt most_members (length (m ∷ rs))) fine in
    let count : length (member_list_of old k m rs ss) ≡ length (m ∷ rs) =
    sym (length_houses (member_list_of old k m rs ss)) ∙ ap (λ (l : List ℕ). length l) same ∙ length_ascending (m ∷ rs) in
    let within : length (m ∷ rs) ≤ most_members = within_test (length (m ∷ rs)) many in
    record {
      once = subst Once (sym same)
          (once_ascending (m ∷ rs) (once_from (m ∷ rs) (or_left (stands_twice (m ∷ rs)) (nat_lt most_members (length (m ∷ rs))) fine)));
      few = subst (λ (n : ℕ). n ≤ most_members) (sym count) within;
      known = λ x l. all_made made (m ∷ rs) there x
          (in_ascending x (m ∷ rs) (subst (λ (l : List ℕ). In x l) same (listed_house x (member_list_of old k m rs ss) l)));
      headed = λ some. subst (λ (x : ℕ). is_listed x (member_list_of old k m rs ss) ≡ true) (sym (master_new old k m rs ss)) (master_listed old k m rs ss);
    }
  where
    within_test : (n : ℕ) → nat_lt most_members n ≡ false → n ≤ most_members
    within_test n e = grind arith

-- so it is with each list of the console, and no message that is posted next is lost
pub record Tidy (g : Cell) : Type 0 where
  pub lists : (d : ℕ) → IsProper g.made (g.top d) (g.present d)
  pub lost : (n : ℕ) → length g.bag < n → has n g.lost ≡ false

-- messages are posted
tidy_grows : (g h : Cell) (posts : List Message) → Tidy g → h.made ≡ g.made → h.top ≡ g.top → h.present ≡ g.present → h.lost ≡ g.lost
    → h.bag ≡ g.bag ++ posts → Tidy h
tidy_grows g h posts v made top present lost bag = record {
  lists = λ d.
      let one : IsProper h.made (g.top d) (g.present d) =
      subst (λ (l : List ℕ). IsProper l (g.top d) (g.present d)) (sym made) (v.lists d) in
      let two : IsProper h.made (h.top d) (g.present d) = subst (λ (f : ℕ → ℕ). IsProper h.made (f d) (g.present d)) (sym top) one in
      subst (λ (f : ℕ → List Member). IsProper h.made (h.top d) (f d)) (sym present) two;
  lost = λ n lt.
      let more : length h.bag ≡ length g.bag + length posts = ap (λ (l : List Message). length l) bag ∙ length-append g.bag posts in
      ap (has n) lost ∙ v.lost n (omega (arith, more, lt));
}

tidy_at : (g : Cell) (h : ℕ) (s : HouseStep) → Tidy g → Tidy (at_house g h s).cell
tidy_at g h s v = let r = at_house-rest g h s in tidy_grows g (at_house g h s).cell (posts_of s) v r.made r.top r.present r.lost (at_house-bag g h s)

-- the console notes an epoch and its list
tidy_noted : (g : Cell) (d k : ℕ) (ms : List Member) → Tidy g → IsProper g.made k ms → Tidy (note_epoch g d k ms)
tidy_noted g d k ms v p = record { lists = λ e. by_dir e (eqb e d); lost = v.lost }
  where
    by_dir : (e : ℕ) (b : Bool) → IsProper g.made (cond b k (g.top e)) (cond b ms (g.present e))
    by_dir e true = p
    by_dir e false = v.lists e

tidy_founded : (g : Cell) (d m : ℕ) (ms : List Member) → Tidy g → IsProper g.made 1 ms → Tidy (cell_with_directory g d m ms)
tidy_founded g d m ms v p = tidy_noted (at_house g m (Turns (found_directory m (g.house m) d ms))).cell d 1 ms (tidy_at g m (Turns (found_directory m (g.house m) d ms)) v) p

tidy_directory : (o : Outcome) (d m : ℕ) (ms : List Member) (a : Answer) → Tidy o.cell → IsProper o.cell.made 1 ms → Tidy (with_directory o d m ms a).cell
tidy_directory o d m ms (Stamped s ns) v p = let w = tidy_founded o.cell d m ms v p in record { lists = w.lists; lost = w.lost }
tidy_directory o d m ms _ v p = v

tidy_epoch : (o : Outcome) (d : ℕ) (ms : List Member) (a : Answer) → Tidy o.cell → ((k : ℕ) → IsProper o.cell.made k ms) → Tidy (with_epoch o d ms a).cell
tidy_epoch o d ms (NewEpoch k ns) v p = tidy_noted o.cell d k ms v (p k)
tidy_epoch o d ms _ v p = v

got_within : (xs : List Message) (n : ℕ) (m : Message) → slice_get xs n ≡ Some m → n < length xs
got_within [] n m e = absurd (cc)
got_within (x ∷ xs) zero m e = omega arith
got_within (x ∷ xs) (suc n) m e = let less = got_within xs n m e in omega (arith, less)

tidy_lost : (g : Cell) (n : ℕ) (o : Option Message) → message_at g n ≡ o → Tidy g → Tidy (lose g n o).cell
tidy_lost g n None at v = v
tidy_lost g n (Some m) at v = record { lists = v.lists; lost = λ k lt. by_serial ((eqb n 0) || has n g.lost) at k lt }
  where
    by_serial : (b : Bool) → cond b None (slice_get g.bag (n - 1)) ≡ Some m → (k : ℕ) → length g.bag < k → (eqb k n || has k g.lost) ≡ false
    by_serial true e k lt = absurd (cc)
    by_serial false e k lt =
        let less : n - 1 < length g.bag = got_within g.bag (n - 1) m e in
        let apart : eqb k n ≡ false = grind (arith, less, lt) in
        ap (λ (b : Bool). b || has k g.lost) apart ∙ v.lost k lt

tidy_delivered : (g : Cell) (o : Option Message) → Tidy g → Tidy (deliver g o).cell
tidy_delivered g None v = v
tidy_delivered g (Some m) v = by_down (is_down g m.receiver)
  where
    by_down : (b : Bool) → Tidy (cond b (record { cell = g; answer = commands.Refused commands.Down; accepted = [] })
        (at_house g m.receiver (take (g.house m.receiver) m))).cell
    by_down true = v
    by_down false = tidy_at g m.receiver (take (g.house m.receiver) m) v

tidy_effect : (g : Cell) (c : Command) → Fails (refusals_of g c) → Tidy g → Tidy (effect g c).cell
tidy_effect g (commands.House h node) f v = record {
  lists = λ d. let p = v.lists d in record {
    once = p.once;
    few = p.few;
    known = λ x l. has-from_In x (g.made ++ h ∷ []) (In-append_left x g.made (h ∷ []) (In-from_has x g.made (p.known x l)));
    headed = p.headed;
  };
  lost = v.lost;
}
tidy_effect g (commands.Clock h time) f v = record { lists = v.lists; lost = v.lost }
tidy_effect g (commands.Root m rs ss) f v = tidy_founded g 1 m (member_list_of [] 1 m rs ss) v (proper_new g.made [] 1 1 m rs ss f.1.1.0 f.1.0)
tidy_effect g (commands.Mkdir h d n m rs ss) f v =
    let u : changes.Change = changes.MakeChild n (record { dir = g.next_dir; master = m; others = sorted_houses rs }) in
    let o = at_house g h (accept h (g.house h) d u) in
    let r = at_house-rest g h (accept h (g.house h) d u) in
    let missing : list_any (λ x. not (has x g.made)) (m ∷ rs) ≡ false = or_right (not (has h g.made)) (list_any (λ x. not (has x g.made)) (m ∷ rs)) f.1.0 in
    tidy_directory o g.next_dir m (member_list_of [] 1 m rs ss) o.answer (tidy_at g h (accept h (g.house h) d u) v)
    (subst (λ (l : List ℕ). IsProper l 1 (member_list_of [] 1 m rs ss)) (sym r.made) (proper_new g.made [] 1 1 m rs ss f.1.1.0 missing))
tidy_effect g (commands.Repoint h d n m rs) f v = tidy_at g h (accept h (g.house h) d (changes.Repoint n m (sorted_houses rs))) v
tidy_effect g (commands.Accept h d u) f v = tidy_at g h (accept h (g.house h) d u) v
tidy_effect g (commands.Epoch d m rs ss) f v =
    let ms : List Member = member_list_of (g.present d) (g.top d + 1) m rs ss in
    let s : HouseStep = new_epoch m (g.house m) d (g.top d + 1) ms (left_members (g.present d) ms) in
    let r = at_house-rest g m s in
    tidy_epoch (at_house g m s) d ms (at_house g m s).answer (tidy_at g m s v)
    (λ k. subst (λ (l : List ℕ). IsProper l k ms) (sym r.made) (proper_new g.made (g.present d) k (g.top d + 1) m rs ss f.1.1.0 f.1.0))
tidy_effect g (commands.Skulk h d) f v = tidy_at g h (skulk h (g.house h) d) v
tidy_effect g (commands.Deliver n) f v = tidy_delivered g (message_at g n) v
tidy_effect g (commands.Lose n) f v = tidy_lost g n (message_at g n) refl v
tidy_effect g (commands.Crash h) f v = tidy_grows g (effect g (commands.Crash h)).cell [] v refl refl refl refl refl
tidy_effect g (commands.Start h) f v = tidy_grows g (effect g (commands.Start h)).cell [] v refl refl refl refl refl

fails_first : (b : Bool) (r : Refusal) (ts : List (Bool × Refusal)) → cond b (Some r) (first_refusal ts) ≡ None → (b ≡ false) × (first_refusal ts ≡ None)
fails_first true r ts e = absurd (cc)
fails_first false r ts e = (refl, e)

fails_all : (ts : List (Bool × Refusal)) → first_refusal ts ≡ None → Fails ts
fails_all [] e = tt
fails_all (t ∷ ts) e = let p = fails_first t.0 t.1 ts e in (p.0, fails_all ts p.1)

tidy_unless : (g : Cell) (r : Option Refusal) (x : Outcome) → Tidy g → (r ≡ None → Tidy x.cell) → Tidy (unless g r x).cell
tidy_unless g None x v k = k refl
tidy_unless g (Some r) x v k = v

run_tidy : (cs : List Command) (g : Cell) → Tidy g → Tidy (replay_from g cs)
run_tidy [] g v = v
run_tidy (c ∷ cs) g v =
    run_tidy cs (outcome g c).cell
    (tidy_unless g (first_refusal (refusals_of g c)) (effect g c) v (λ e. tidy_effect g c (fails_all (refusals_of g c) e) v))

-- in every run
pub tidy_lem : (all : List Command) → Tidy (replay all)
tidy_lem all = run_tidy all empty_cell (record {
  lists = λ d. record { once = tt; few = omega arith; known = λ x l. absurd (cc); headed = λ some. absurd (some refl) };
  lost = λ n lt. refl;
})
