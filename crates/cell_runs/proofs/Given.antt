-- What the console gave in a list of entries that can follow one another: each epoch of each
-- directory once, one after the other.
use Rattle.std.proofs.Common.{◌≡◌, ◌≢◌, ℕ, ◌+◌, ◌<◌, ◌≤◌, Bool, true, false, eqb, cond, List, [], ◌++◌, Option, Some, None, refl, sym, ap, subst, ◌∙◌, arith, le_refl, ⊎_elim}
use Rattle.std.proofs.lemmas.Bool.{cases_lt}
use Rattle.cds_stamps.specs.Members.{Member, is_listed}
use Rattle.cds_stamps.specs.Numbers.{root_dir}
use Rattle.cell_model.specs.Cells.{put}
use Rattle.cell_model.specs.Sets.{In}
use Rattle.cell_model.specs.Steps.{member_list_of}
use Rattle.cell_runs.specs.Entries.{Order, Root, Mkdir, Accept, Skulk, Epoch, Take, Post, Entry, Started, Turned}
use Rattle.cell_runs.specs.Orders.{CanFollow, EntryFollows, Seen, after, order_seen}
use Rattle.cell_runs.proofs.RunSteps.{posts_in}

-- an epoch of a directory, with its members
pub record Epoched : Type 0 where
  pub dir : ℕ
  pub epoch : ℕ
  pub members : List Member

-- the epoch that an order of the house x begins
abbrev pub order_gives : (x : ℕ) → Order → Option Epoched
order_gives x (Root rs ss) = Some (record { dir = root_dir; epoch = 1; members = member_list_of [] 1 x rs ss })
order_gives x (Mkdir d n made rs ss) = Some (record { dir = made; epoch = 1; members = member_list_of [] 1 x rs ss })
order_gives x (Epoch d k ms left) = Some (record { dir = d; epoch = k; members = ms })
order_gives x other = None

abbrev pub gives : (x : ℕ) → Entry → Option Epoched
gives x (Started image) = None
gives x (Turned e) = order_gives x e.order

-- an entry of the list begins it
pub record Gave (line : List (ℕ × Entry)) (v : Epoched) : Type 0 where
  pub house : ℕ
  pub entry : Entry
  pub among : In (house, entry) line
  pub is : gives house entry ≡ Some v

-- an entry of the list posted it
pub record Sent (line : List (ℕ × Entry)) (p : Post) : Type 0 where
  pub house : ℕ
  pub entry : Entry
  pub among : In (house, entry) line
  pub is : In p (posts_in entry)

-- ---- numbers

-- the directories are those from 2 to the next one, and maybe the root; one without an epoch has no
-- members
pub record Counted (s : Seen) : Type 0 where
  pub two : 2 ≤ s.next_dir
  pub below : (d : ℕ) → 2 ≤ d → d < s.next_dir → 1 ≤ s.top d
  pub above : (d : ℕ) → s.next_dir ≤ d → s.top d ≡ 0
  pub bare : (d : ℕ) → s.top d ≡ 0 → s.present d ≡ []

-- what is known after an entry that begins an epoch, or none
abbrev pub Noted : Option Epoched → (s s' : Seen) → Type 0
Noted None s s' = (s'.top ≡ s.top) × (s'.present ≡ s.present) × (s'.next_dir ≡ s.next_dir)
Noted (Some v) s s' = (v.epoch ≡ s.top v.dir + 1) × (s'.top ≡ put s.top v.dir v.epoch) × (s'.present ≡ put s.present v.dir v.members)

pub noted : (s : Seen) (x : ℕ) (e : Entry) → Counted s → EntryFollows s x e → Noted (gives x e) s (after s x e)
noted s x (Started image) c f = (refl, refl, refl)
noted s x (Turned e) c f = by_order e.order f
  where
    by_order : (o : Order) → CanFollow s x o → Noted (order_gives x o) s (record (order_seen s x o) { posts = s.posts ++ e.posts })
    by_order (Root rs ss) f = (ap (λ (n : ℕ). n + 1) (sym f.0), refl, refl)
    by_order (Mkdir d n made rs ss) f = (ap (λ (n : ℕ). n + 1) (sym (c.above made (let z : s.next_dir ≡ made = f.0 in omega (arith, z)))), refl, refl)
    by_order (Accept d u) f = (refl, refl, refl)
    by_order (Skulk d) f = (refl, refl, refl)
    by_order (Epoch d k ms left) f = (f.next, refl, refl)
    by_order (Take octets) f = (refl, refl, refl)

-- an epoch more of a directory that there is, or of the next one
counted_put : (s : Seen) (d k next : ℕ) (ms : List Member) (s' : Seen) → Counted s → 1 ≤ k → s'.top ≡ put s.top d k → s'.present ≡ put s.present d ms
    → s'.next_dir ≡ next → s.next_dir ≤ next → d < next → ((n : ℕ) → s.next_dir ≤ n → n < next → n ≡ d) → Counted s'
counted_put s d k next ms s' c some top present same le low new = record {
  two = let two = c.two in omega (arith, two, le, same);
  below = λ n two lt. at (λ (q : ℕ). 1 ≤ q) n (λ _. some) (λ apart.
      ⊎_elim (λ (l : n < s.next_dir). c.below n two l) (λ (g : s.next_dir ≤ n). absurd (apart (new n g (omega (arith, lt, same))))) (cases_lt n s.next_dir));
  above = λ n far. at (λ (q : ℕ). q ≡ 0) n (λ is. absurd (omega (arith, is, far, low, same))) (λ _. c.above n (omega (arith, far, le, same)));
  bare = λ n none. by n (eqb n d) refl none;
}
  where
    at : (P : ℕ → Type 0) (n : ℕ) → (n ≡ d → P k) → (n ≢ d → P (s.top n)) → P (s'.top n)
    at P n here there = subst (λ (f : ℕ → ℕ). P (f n)) (sym top) (by_test (eqb n d) refl)
      where
        by_test : (b : Bool) → eqb n d ≡ b → P (cond b k (s.top n))
        by_test true on = here (let z : n ≡ d = grind (arith, on) in z)
        by_test false off = there (let z : n ≢ d = grind (arith, off) in z)

    by : (n : ℕ) (b : Bool) → eqb n d ≡ b → s'.top n ≡ 0 → s'.present n ≡ []
    by n true on none =
        let z : k ≡ 0 = sym (ap (λ (b : Bool). cond b k (s.top n)) on) ∙ sym (ap (λ (f : ℕ → ℕ). f n) top) ∙ none in
        absurd (omega (arith, z, some))
    by n false off none =
        let z : s.top n ≡ 0 = sym (ap (λ (b : Bool). cond b k (s.top n)) off) ∙ sym (ap (λ (f : ℕ → ℕ). f n) top) ∙ none in
        ap (λ (f : ℕ → List Member). f n) present ∙ ap (λ (b : Bool). cond b ms (s.present n)) off ∙ c.bare n z

pub counted_next : (s : Seen) (x : ℕ) (e : Entry) → Counted s → EntryFollows s x e → Counted (after s x e)
counted_next s x (Started image) c f = c
counted_next s x (Turned e) c f = by_order e.order f
  where
    -- a directory that has members has an epoch, and so a number
    low : (d : ℕ) → is_listed x (s.present d) ≡ true → d < s.next_dir
    low d listed = ⊎_elim (λ (l : d < s.next_dir). l)
        (λ (g : s.next_dir ≤ d). let z : is_listed x [] ≡ true = ap (is_listed x) (sym (c.bare d (c.above d g))) ∙ listed in absurd (cc (z)))
        (cases_lt d s.next_dir)

    by_order : (o : Order) → CanFollow s x o → Counted (record (order_seen s x o) { posts = s.posts ++ e.posts })
    by_order (Root rs ss) f =
        counted_put s root_dir 1 s.next_dir (member_list_of [] 1 x rs ss) _ c (le_refl _) refl refl refl (le_refl _) (let two = c.two in omega (arith, two))
        (λ n le lt. absurd (omega (arith, le, lt)))
    by_order (Mkdir d n made rs ss) f =
        let is : s.next_dir ≡ made = f.0 in
        counted_put s made 1 (made + 1) (member_list_of [] 1 x rs ss) _ c (le_refl _) refl refl refl (omega (arith, is)) (omega arith)
        (λ n le lt. omega (arith, le, lt, is))
    by_order (Accept d u) f = record { two = c.two; below = c.below; above = c.above; bare = c.bare }
    by_order (Skulk d) f = record { two = c.two; below = c.below; above = c.above; bare = c.bare }
    by_order (Epoch d k ms left) f =
        let next : k ≡ s.top d + 1 = f.next in
        counted_put s d k s.next_dir ms _ c (omega (arith, next)) refl refl refl (le_refl _) (low d f.listed) (λ n le lt. absurd (omega (arith, le, lt)))
    by_order (Take octets) f = record { two = c.two; below = c.below; above = c.above; bare = c.bare }

-- ---- what a list of entries gave

pub record Knows (line : List (ℕ × Entry)) (made : List ℕ) (s : Seen) : Type 0 where
  pub counted : Counted s
  pub each : (d k : ℕ) → 1 ≤ k → k ≤ s.top d → (v : Epoched) × Gave line v × (v.dir ≡ d) × (v.epoch ≡ k)
  pub all : (v : Epoched) → Gave line v → (v.epoch ≤ s.top v.dir) × (1 ≤ v.epoch)
  pub last : (v : Epoched) → Gave line v → v.epoch ≡ s.top v.dir → v.members ≡ s.present v.dir
  pub sent : (p : Post) → In p s.posts → Sent line p
  pub posted : (p : Post) → Sent line p → In p s.posts
  pub same_made : s.made ≡ made
