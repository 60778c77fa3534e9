-- Member lists from epoch to epoch.
use Rattle.std.proofs.Common.{◌≡◌, ◌≢◌, ℕ, ◌⊎◌, inl, inr, Bool, true, false, ◌||◌, eqb, cond, List, [], ◌∷◌, map, refl, sym, ap, ◌∙◌, subst, arith}
use Rattle.std.proofs.Common.{⊎_elim, nat_lt}
use Rattle.cds_stamps.specs.declared.members.MemberKind.TheVariants.{Master, ReadOnly, Secondary}
use Rattle.cds_stamps.specs.Members.{Member, is_master, master_of, others_of, is_listed, since_in}
use Rattle.cell_model.specs.Sets.{In, has}
use Rattle.cell_model.specs.Steps.{insert_house, sorted_houses, kind_among, member_list_of, left_members}
use Rattle.cell_model.proofs.Lists.{eq_from, eq_to, or_cases, or_true, has-from_In}

-- the house is listed, since this epoch
abbrev pub Listed : List Member → ℕ → ℕ → Type 0
Listed ms x s = (is_listed x ms ≡ true) × (since_in ms x 0 ≡ s)

-- the members but the master
abbrev pub others : List Member → List ℕ
others ms = others_of (master_of ms) ms

-- a house on a list is listed with the since that the list has of it
pub listed_at : (ms : List Member) (x : ℕ) → is_listed x ms ≡ true → Listed ms x (since_in ms x 0)
listed_at ms x e = (e, refl)

-- a house is listed with one since
pub listed_once : (ms : List Member) (x s s' : ℕ) → Listed ms x s → Listed ms x s' → s ≡ s'
listed_once ms x s s' a b = sym a.1 ∙ b.1

since_step : (x d : ℕ) (y : Member) (ys : List Member) (t : Bool) → (is_listed x ys ≡ true → since_in ys x d ≡ since_in ys x 0)
    → (t || is_listed x ys) ≡ true → cond t y.since (since_in ys x d) ≡ cond t y.since (since_in ys x 0)
since_step x d y ys true rest e = refl
since_step x d y ys false rest e = rest e

-- of a listed house the default does not count, and of another it does
pub since_listed : (x d : ℕ) (ms : List Member) → is_listed x ms ≡ true → since_in ms x d ≡ since_in ms x 0
since_listed x d [] e = absurd (cc)
since_listed x d (y ∷ ys) e = since_step x d y ys (eqb y.house x) (since_listed x d ys) e

unlisted_step : (x d : ℕ) (y : Member) (ys : List Member) (t : Bool) → (is_listed x ys ≡ false → since_in ys x d ≡ d) → (t || is_listed x ys) ≡ false
    → cond t y.since (since_in ys x d) ≡ d
unlisted_step x d y ys true rest e = absurd (cc)
unlisted_step x d y ys false rest e = rest e

pub since_unlisted : (x d : ℕ) (ms : List Member) → is_listed x ms ≡ false → since_in ms x d ≡ d
since_unlisted x d [] e = refl
since_unlisted x d (y ∷ ys) e = unlisted_step x d y ys (eqb y.house x) (since_unlisted x d ys) e

-- a listed house is this one, or among the others
others_step : (x h : ℕ) (y : Member) (ys : List Member) (b : Bool) → eqb y.house h ≡ b → (is_listed x ys ≡ true → (x ≡ h) ⊎ In x (others_of h ys))
    → (eqb y.house x || is_listed x ys) ≡ true → (x ≡ h) ⊎ In x (cond b (others_of h ys) (y.house ∷ others_of h ys))
others_step x h y ys true q rest e = ⊎_elim (λ s. inl (sym (eq_from y.house x s) ∙ eq_from y.house h q)) rest (or_cases (eqb y.house x) (is_listed x ys) e)
others_step x h y ys false q rest e =
    ⊎_elim (λ s. inr (inl (sym (eq_from y.house x s)))) (λ r. ⊎_elim (λ s. inl s) (λ o. inr (inr o)) (rest r)) (or_cases (eqb y.house x) (is_listed x ys) e)

-- a house on a list is this one or one of the others
pub listed_or : (x h : ℕ) (ms : List Member) → is_listed x ms ≡ true → (x ≡ h) ⊎ In x (others_of h ms)
listed_or x h [] e = absurd (cc)
listed_or x h (y ∷ ys) e = others_step x h y ys (eqb y.house h) refl (listed_or x h ys) e

in_others_step : (x h : ℕ) (y : Member) (ys : List Member) (b : Bool) → eqb y.house h ≡ b → (In x (others_of h ys) → (x ≢ h) × (is_listed x ys ≡ true))
    → In x (cond b (others_of h ys) (y.house ∷ others_of h ys)) → (x ≢ h) × ((eqb y.house x || is_listed x ys) ≡ true)
in_others_step x h y ys true q rest i = let w = rest i in (w.0, or_true (eqb y.house x) _ w.1)
in_others_step x h y ys false q rest (inl e) = let n : x ≢ h = grind arith in let t : eqb y.house x ≡ true = eq_to y.house x (sym e) in
    (n, ap (λ (b : Bool). b || is_listed x ys) t)
in_others_step x h y ys false q rest (inr i) = let w = rest i in (w.0, or_true (eqb y.house x) _ w.1)

-- one of the others is another house, and on the list
pub In-others_of : (x h : ℕ) (ms : List Member) → In x (others_of h ms) → (x ≢ h) × (is_listed x ms ≡ true)
In-others_of x h [] i = elim i [ ]
In-others_of x h (y ∷ ys) i = in_others_step x h y ys (eqb y.house h) refl (In-others_of x h ys) i

-- a house on a list is its master or one of the others
pub In-others : (x s : ℕ) (ms : List Member) → Listed ms x s → (x ≡ master_of ms) ⊎ In x (others ms)
In-others x s ms l = listed_or x (master_of ms) ms l.0

-- one of the others is listed
pub listed-others : (x : ℕ) (ms : List Member) → In x (others ms) → (s : ℕ) × Listed ms x s
listed-others x ms i = (since_in ms x 0, listed_at ms x (In-others_of x (master_of ms) ms i).1)

-- ---- the list of a new epoch

has_insert_step : (x y z : ℕ) (zs : List ℕ) (b : Bool) → has x (insert_house y zs) ≡ (eqb x y || has x zs)
    → has x (cond b (z ∷ insert_house y zs) (y ∷ z ∷ zs)) ≡ (eqb x y || has x (z ∷ zs))
has_insert_step x y z zs true ih = ap (λ (b : Bool). eqb x z || b) ih ∙ turned (eqb x z) (eqb x y) (has x zs)
  where
    turned : (a b c : Bool) → (a || (b || c)) ≡ (b || (a || c))
    turned true true c = refl
    turned true false c = refl
    turned false true c = refl
    turned false false c = refl
has_insert_step x y z zs false ih = refl

has_insert : (x y : ℕ) (zs : List ℕ) → has x (insert_house y zs) ≡ (eqb x y || has x zs)
has_insert x y [] = refl
has_insert x y (z ∷ zs) = has_insert_step x y z zs (nat_lt z y) (has_insert x y zs)

has_ascending : (x : ℕ) (zs : List ℕ) → has x (sorted_houses zs) ≡ has x zs
has_ascending x [] = refl
has_ascending x (z ∷ zs) = has_insert x z (sorted_houses zs) ∙ ap (λ (b : Bool). eqb x z || b) (has_ascending x zs)

-- a member as a new list has it
abbrev member_at : List Member → (k m : ℕ) → (ss : List ℕ) → (x : ℕ) → Member
member_at old k m ss x = record { house = x; since = since_in old x k; kind = kind_among m ss x }

-- the test of numbers does not ask for their order
pub flip_eq : (a b : ℕ) → eqb a b ≡ eqb b a
flip_eq a b = grind arith

listed_map : (old : List Member) (k m : ℕ) (ss : List ℕ) (x : ℕ) (hs : List ℕ) → is_listed x (map (member_at old k m ss) hs) ≡ has x hs
listed_map old k m ss x [] = refl
listed_map old k m ss x (h ∷ hs) = ap (λ (b : Bool). b || is_listed x (map (member_at old k m ss) hs)) (flip_eq h x)
    ∙ ap (λ (b : Bool). eqb x h || b) (listed_map old k m ss x hs)

since_map_step : (old : List Member) (k m : ℕ) (ss : List ℕ) (x h : ℕ) (hs : List ℕ) (b : Bool) → eqb h x ≡ b
    → (has x hs ≡ true → since_in (map (member_at old k m ss) hs) x 0 ≡ since_in old x k) → (b || has x hs) ≡ true
    → cond b (since_in old h k) (since_in (map (member_at old k m ss) hs) x 0) ≡ since_in old x k
since_map_step old k m ss x h hs true q rest e = ap (λ (z : ℕ). since_in old z k) (eq_from h x q)
since_map_step old k m ss x h hs false q rest e = rest e

since_map : (old : List Member) (k m : ℕ) (ss : List ℕ) (x : ℕ) (hs : List ℕ) → has x hs ≡ true → since_in (map (member_at old k m ss) hs) x 0 ≡ since_in old x k
since_map old k m ss x [] e = absurd (cc)
since_map old k m ss x (h ∷ hs) e = since_map_step old k m ss x h hs (eqb h x) refl (since_map old k m ss x hs) (ap (λ (b : Bool). b || has x hs) (flip_eq h x) ∙ e)

master_step : (old : List Member) (k m : ℕ) (ss : List ℕ) (h : ℕ) (hs : List ℕ) (b : Bool) → eqb h m ≡ b → (has m hs ≡ true → master_of (map (member_at old k m ss) hs) ≡ m)
    → (eqb m h || has m hs) ≡ true → cond (is_master (cond b Master (cond (has h ss) Secondary ReadOnly))) h (master_of (map (member_at old k m ss) hs)) ≡ m
master_step old k m ss h hs true q rest e = eq_from h m q
master_step old k m ss h hs false q rest e =
    ap (λ (b : Bool). cond b h (master_of (map (member_at old k m ss) hs))) (no_master (has h ss))
    ∙ rest (subst (λ (b : Bool). (b || has m hs) ≡ true) (sym (flip_eq h m) ∙ q) (subst (λ (b : Bool). (b || has m hs) ≡ true) refl e))
  where
    no_master : (b : Bool) → is_master (cond b Secondary ReadOnly) ≡ false
    no_master true = refl
    no_master false = refl

master_map : (old : List Member) (k m : ℕ) (ss : List ℕ) (hs : List ℕ) → has m hs ≡ true → master_of (map (member_at old k m ss) hs) ≡ m
master_map old k m ss [] e = absurd (cc)
master_map old k m ss (h ∷ hs) e = master_step old k m ss h hs (eqb h m) refl (master_map old k m ss hs) e

listed_new : (old : List Member) (k m x : ℕ) (rs ss : List ℕ) → is_listed x (member_list_of old k m rs ss) ≡ has x (m ∷ rs)
listed_new old k m x rs ss = listed_map old k m ss x (sorted_houses (m ∷ rs)) ∙ has_ascending x (m ∷ rs)

self : (m : ℕ) (rs : List ℕ) → has m (m ∷ rs) ≡ true
self m rs = has-from_In m (m ∷ rs) (inl refl)

-- the master of a new list is the one named, and is listed
pub master_new : (old : List Member) (k m : ℕ) (rs ss : List ℕ) → master_of (member_list_of old k m rs ss) ≡ m
master_new old k m rs ss = master_map old k m ss (sorted_houses (m ∷ rs)) (has_ascending m (m ∷ rs) ∙ self m rs)

-- the master of a new list is on it
pub master_listed : (old : List Member) (k m : ℕ) (rs ss : List ℕ) → is_listed m (member_list_of old k m rs ss) ≡ true
master_listed old k m rs ss = listed_new old k m m rs ss ∙ self m rs

-- the since that a new list has is that of the old list, or the new epoch
pub since_new : (old : List Member) (k m x : ℕ) (rs ss : List ℕ) → is_listed x (member_list_of old k m rs ss) ≡ true → since_in (member_list_of old k m rs ss) x 0 ≡ since_in old x k
since_new old k m x rs ss e = since_map old k m ss x (sorted_houses (m ∷ rs)) (sym (listed_map old k m ss x (sorted_houses (m ∷ rs))) ∙ e)

-- the new master's since is the one that it had
pub since_kept : (old : List Member) (k m : ℕ) (rs ss : List ℕ) → is_listed m old ≡ true → since_in (member_list_of old k m rs ss) m 0 ≡ since_in old m 0
since_kept old k m rs ss l = since_new old k m m rs ss (master_listed old k m rs ss) ∙ since_listed m k old l

-- a house on a new list was on the old one with that since, or its since is the new epoch
pub listed_before : (old : List Member) (k m x s : ℕ) (rs ss : List ℕ) → Listed (member_list_of old k m rs ss) x s → Listed old x s ⊎ (s ≡ k)
listed_before old k m x s rs ss l = go (is_listed x old) refl
  where
    from : since_in old x k ≡ s
    from = sym (since_new old k m x rs ss l.0) ∙ l.1

    go : (b : Bool) → is_listed x old ≡ b → Listed old x s ⊎ (s ≡ k)
    go true e = inl (e, sym (since_listed x k old e) ∙ from)
    go false e = inr (sym from ∙ since_unlisted x k old e)

leaving_step : (x : ℕ) (y : Member) (ys now : List Member) (t : Bool) → is_listed y.house now ≡ t → (In x (left_members ys now) → is_listed x now ≡ false)
    → In x (cond t (left_members ys now) (y.house ∷ left_members ys now)) → is_listed x now ≡ false
leaving_step x y ys now true q rest i = rest i
leaving_step x y ys now false q rest (inl e) = ap (λ (z : ℕ). is_listed z now) e ∙ q
leaving_step x y ys now false q rest (inr i) = rest i

-- a house that leaves is not listed
pub leaving_out : (x : ℕ) (old now : List Member) → In x (left_members old now) → is_listed x now ≡ false
leaving_out x [] now i = elim i [ ]
leaving_out x (y ∷ ys) now i = leaving_step x y ys now (is_listed y.house now) refl (leaving_out x ys now) i
