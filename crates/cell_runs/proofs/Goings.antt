-- One entry that is left can follow, wherever there is an order of all entries.
use Rattle.std.proofs.Common.{◌≡◌, ◌≢◌, ℕ, zero, suc, ◌+◌, ◌<◌, ◌≤◌, ◌⊎◌, inl, inr, Bool, true, false, eqb, cond, List, [], ◌∷◌, ◌++◌, Option, Some, None, refl, sym, ap, subst, ◌∙◌, arith, append_assoc, le_refl, ⊎_elim}
use Rattle.std.proofs.lemmas.Bool.{cases_lt}
use Rattle.std.proofs.lemmas.List.{append_cancel_left}
use Rattle.cds_stamps.specs.Members.{Member, is_listed, others_of, secondaries_of}
use Rattle.cds_stamps.specs.Numbers.{root_dir}
use Rattle.cell_model.specs.Sets.{In, has}
use Rattle.cell_model.specs.Steps.{left_members, member_list_of}
use Rattle.cell_model.proofs.Lists.{In-append_cases, In-append_left, In-append_right, append_nil}
use Rattle.cell_model.proofs.Views.{put_other, put_same}
use Rattle.cell_runs.specs.Entries.{Order, Root, Mkdir, Accept, Skulk, Epoch, Take, Post, TurnEntry, Entry, Started, Turned}
use Rattle.cell_runs.specs.Orders.{CanFollow, EntryFollows, Follows, HasNext, IsOrderOf, MadeHouse, Seen, after, after_all, entries_of, nothing_seen, numbers_in, order_seen}
use Rattle.cell_runs.proofs.Given.{Counted, Epoched, Gave, Knows, Noted, Sent, counted_next, gives, noted, order_gives}
use Rattle.cell_runs.proofs.RunSteps.{each, entries_here, entries_there, posts_in}

-- ---- one entry more is known

posts_after : (s : Seen) (x : ℕ) (e : Entry) → (after s x e).posts ≡ s.posts ++ posts_in e
posts_after s x (Started image) = sym (append_nil s.posts)
posts_after s x (Turned e) = refl

made_after : (s : Seen) (x : ℕ) (e : Entry) → (after s x e).made ≡ s.made
made_after s x (Started image) = refl
made_after s x (Turned e) = by e.order
  where
    by : (o : Order) → (order_seen s x o).made ≡ s.made
    by (Root rs ss) = refl
    by (Mkdir d n made rs ss) = refl
    by (Accept d u) = refl
    by (Skulk d) = refl
    by (Epoch d k ms left) = refl
    by (Take octets) = refl

-- what was given before, and one entry more
gave_more : (line more : List (ℕ × Entry)) (v : Epoched) → Gave line v → Gave (line ++ more) v
gave_more line more v g = record { house = g.house; entry = g.entry; among = In-append_left (g.house, g.entry) line more g.among; is = g.is }

-- what is given is the last epoch at its directory
top_given : (s s' : Seen) (v : Epoched) → Noted (Some v) s s' → s'.top v.dir ≡ v.epoch
top_given s s' v n = ap (λ (f : ℕ → ℕ). f v.dir) n.1 ∙ put_same s.top v.dir v.epoch

-- no last epoch is taken back
top_grows : (s s' : Seen) (o : Option Epoched) → Noted o s s' → (d : ℕ) → s.top d ≤ s'.top d
top_grows s s' None n d = let z : s'.top d ≡ s.top d = ap (λ (f : ℕ → ℕ). f d) n.0 in omega (arith, z)
top_grows s s' (Some v) n d = by (eqb d v.dir) refl
  where
    by : (b : Bool) → eqb d v.dir ≡ b → s.top d ≤ s'.top d
    by true on =
        let same : d ≡ v.dir = grind (arith, on) in
        let z : s'.top d ≡ v.epoch = ap s'.top same ∙ top_given s s' v n in
        let y : v.epoch ≡ s.top d + 1 = n.0 ∙ ap (λ (q : ℕ). s.top q + 1) (sym same) in
        omega (arith, z, y)
    by false off =
        let apart : d ≢ v.dir = grind (arith, off) in
        let z : s'.top d ≡ s.top d = ap (λ (f : ℕ → ℕ). f d) n.1 ∙ put_other s.top v.dir v.epoch d apart in
        omega (arith, z)

module _ (line : List (ℕ × Entry)) (made : List ℕ) (s : Seen) (k : Knows line made s) (x : ℕ) (e : Entry) (f : EntryFollows s x e) where
  abbrev then_seen : Seen
  then_seen = after s x e

  abbrev more : List (ℕ × Entry)
  more = line ++ (x, e) ∷ []

  -- the entry that was given among all of these: an old one, or the new one
  data Which (v : Epoched) : Type 0 where
    old : Gave line v → Which v
    new : gives x e ≡ Some v → Which v

  which : (v : Epoched) → Gave more v → Which v
  which v g = by (In-append_cases {A = ℕ × Entry} (g.house, g.entry) line ((x, e) ∷ []) g.among)
    where
      by : In {A = ℕ × Entry} (g.house, g.entry) line ⊎ In {A = ℕ × Entry} (g.house, g.entry) ((x, e) ∷ []) → Which v
      by (inl i) = old (record { house = g.house; entry = g.entry; among = i; is = g.is })
      by (inr (inl is)) = new (sym (ap (λ (p : ℕ × Entry). gives p.0 p.1) is) ∙ g.is)
      by (inr (inr i)) = elim i [ ]

  gave_new : (v : Epoched) → gives x e ≡ Some v → Gave more v
  gave_new v is = record { house = x; entry = e; among = In-append_right (x, e) line ((x, e) ∷ []) (inl refl); is = is }

  here_noted : (v : Epoched) → gives x e ≡ Some v → Noted (Some v) s then_seen
  here_noted v is = subst (λ (o : Option Epoched). Noted o s then_seen) is (noted s x e k.counted f)

  each_then : (d n : ℕ) → 1 ≤ n → n ≤ then_seen.top d → (v : Epoched) × Gave more v × (v.dir ≡ d) × (v.epoch ≡ n)
  each_then d n some le = by (gives x e) refl (noted s x e k.counted f)
    where
      before : n ≤ s.top d → (v : Epoched) × Gave more v × (v.dir ≡ d) × (v.epoch ≡ n)
      before low = let r = k.each d n some low in (r.0, gave_more line ((x, e) ∷ []) r.0 r.1, r.2, r.3)

      by : (o : Option Epoched) → gives x e ≡ o → Noted o s then_seen → (v : Epoched) × Gave more v × (v.dir ≡ d) × (v.epoch ≡ n)
      by None is z = before (let y : then_seen.top d ≡ s.top d = ap (λ (g : ℕ → ℕ). g d) z.0 in omega (arith, y, le))
      by (Some v) is z = at (eqb d v.dir) refl
        where
          at : (b : Bool) → eqb d v.dir ≡ b → (v : Epoched) × Gave more v × (v.dir ≡ d) × (v.epoch ≡ n)
          at false off =
              let apart : d ≢ v.dir = grind (arith, off) in
              before (let y : then_seen.top d ≡ s.top d = ap (λ (g : ℕ → ℕ). g d) z.1 ∙ put_other s.top v.dir v.epoch d apart in omega (arith, y, le))
          at true on =
              let same : d ≡ v.dir = grind (arith, on) in
              let y : then_seen.top d ≡ v.epoch = ap then_seen.top same ∙ top_given s then_seen v z in
              let w : v.epoch ≡ s.top d + 1 = z.0 ∙ ap (λ (q : ℕ). s.top q + 1) (sym same) in
              ⊎_elim (λ (l : n < v.epoch). before (omega (arith, l, w)))
              (λ (g : v.epoch ≤ n). (v, gave_new v is, sym same, (let u : v.epoch ≡ n = omega (arith, g, le, y) in u))) (cases_lt n v.epoch)

  all_then : (v : Epoched) → Gave more v → (v.epoch ≤ then_seen.top v.dir) × (1 ≤ v.epoch)
  all_then v g = by (which v g)
    where
      by : Which v → (v.epoch ≤ then_seen.top v.dir) × (1 ≤ v.epoch)
      by (old o) =
          let r = k.all v o in
          let grows = top_grows s then_seen (gives x e) (noted s x e k.counted f) v.dir in
          (omega (arith, r.0, grows), r.1)
      by (new is) =
          let z = here_noted v is in
          let y : then_seen.top v.dir ≡ v.epoch = top_given s then_seen v z in
          let w : v.epoch ≡ s.top v.dir + 1 = z.0 in
          (omega (arith, y), omega (arith, w))

  last_then : (v : Epoched) → Gave more v → v.epoch ≡ then_seen.top v.dir → v.members ≡ then_seen.present v.dir
  last_then v g at_top = by (which v g)
    where
      old_by : Gave line v → (o : Option Epoched) → Noted o s then_seen → v.members ≡ then_seen.present v.dir
      old_by h None z =
          k.last v h (at_top ∙ ap (λ (g : ℕ → ℕ). g v.dir) z.0) ∙ sym (ap (λ (g : ℕ → List Member). g v.dir) z.1)
      old_by h (Some w) z = at (eqb v.dir w.dir) refl
        where
          at : (b : Bool) → eqb v.dir w.dir ≡ b → v.members ≡ then_seen.present v.dir
          at true on =
              let same : v.dir ≡ w.dir = grind (arith, on) in
              let y : then_seen.top v.dir ≡ w.epoch = ap then_seen.top same ∙ top_given s then_seen w z in
              let u : w.epoch ≡ s.top v.dir + 1 = z.0 ∙ ap (λ (q : ℕ). s.top q + 1) (sym same) in
              let low = (k.all v h).0 in
              absurd (omega (arith, y, u, at_top, low))
          at false off =
              let apart : v.dir ≢ w.dir = grind (arith, off) in
              k.last v h (at_top ∙ ap (λ (g : ℕ → ℕ). g v.dir) z.1 ∙ put_other s.top w.dir w.epoch v.dir apart)
              ∙ sym (ap (λ (g : ℕ → List Member). g v.dir) z.2 ∙ put_other s.present w.dir w.members v.dir apart)

      by : Which v → v.members ≡ then_seen.present v.dir
      by (old o) = old_by o (gives x e) (noted s x e k.counted f)
      by (new is) =
          let z = here_noted v is in
          sym (ap (λ (g : ℕ → List Member). g v.dir) z.2 ∙ put_same s.present v.dir v.members)

  sent_then : (p : Post) → In p then_seen.posts → Sent more p
  sent_then p i = by (In-append_cases p s.posts (posts_in e) (subst (In p) (posts_after s x e) i))
    where
      by : In p s.posts ⊎ In p (posts_in e) → Sent more p
      by (inl j) =
          let o = k.sent p j in
          record { house = o.house; entry = o.entry; among = In-append_left (o.house, o.entry) line ((x, e) ∷ []) o.among; is = o.is }
      by (inr j) = record { house = x; entry = e; among = In-append_right (x, e) line ((x, e) ∷ []) (inl refl); is = j }

  posted_then : (p : Post) → Sent more p → In p then_seen.posts
  posted_then p o = subst (In p) (sym (posts_after s x e)) (by (In-append_cases {A = ℕ × Entry} (o.house, o.entry) line ((x, e) ∷ []) o.among))
    where
      by : In {A = ℕ × Entry} (o.house, o.entry) line ⊎ In {A = ℕ × Entry} (o.house, o.entry) ((x, e) ∷ []) → In p (s.posts ++ posts_in e)
      by (inl i) = In-append_left p s.posts (posts_in e) (k.posted p (record { house = o.house; entry = o.entry; among = i; is = o.is }))
      by (inr (inl is)) = In-append_right p s.posts (posts_in e) (subst (λ (q : ℕ × Entry). In p (posts_in q.1)) is o.is)
      by (inr (inr i)) = elim i [ ]

  pub knows_next : Knows more made then_seen
  knows_next = record {
    counted = counted_next s x e k.counted f;
    each = each_then;
    all = all_then;
    last = last_then;
    sent = sent_then;
    posted = posted_then;
    same_made = made_after s x e ∙ k.same_made;
  }

-- all entries of a list
knows_all : (line before : List (ℕ × Entry)) (made : List ℕ) (s : Seen) → Knows before made s → Follows s line → Knows (before ++ line) made (after_all s line)
knows_all [] before made s k f = subst (λ (l : List (ℕ × Entry)). Knows l made s) (sym (append_nil before)) k
knows_all (e ∷ line) before made s k f =
    subst (λ (l : List (ℕ × Entry)). Knows l made (after_all (after s e.0 e.1) line)) (append_assoc before (e ∷ []) line)
    (knows_all line (before ++ e ∷ []) made (after s e.0 e.1) (knows_next before made s k e.0 e.1 f.0) f.1)

-- nothing is known at first
knows_nothing : (made : List ℕ) → Knows [] made (nothing_seen made)
knows_nothing made = record {
  counted = record { two = le_refl _; below = λ d two lt. absurd (omega (arith, two, lt)); above = λ d far. refl; bare = λ d none. refl };
  each = λ d n some le. absurd (omega (arith, some, le));
  all = λ v g. elim g.among [ ];
  last = λ v g at. elim g.among [ ];
  sent = λ p i. elim i [ ];
  posted = λ p o. elim o.among [ ];
  same_made = refl;
}

-- what is given later is later
later_given : (line : List (ℕ × Entry)) (s : Seen) → Counted s → Follows s line → (v : Epoched) → Gave line v → s.top v.dir < v.epoch
later_given [] s c f v g = elim g.among [ ]
later_given (e ∷ line) s c f v g =
    by g.among (λ (i : In {A = ℕ × Entry} (g.house, g.entry) line).
    later_given line (after s e.0 e.1) (counted_next s e.0 e.1 c f.0) f.1 v (record { house = g.house; entry = g.entry; among = i; is = g.is }))
  where
    by : In {A = ℕ × Entry} (g.house, g.entry) (e ∷ line) → (In {A = ℕ × Entry} (g.house, g.entry) line → (after s e.0 e.1).top v.dir < v.epoch) → s.top v.dir < v.epoch
    by (inl is) later =
        let given : gives e.0 e.1 ≡ Some v = sym (ap (λ (p : ℕ × Entry). gives p.0 p.1) is) ∙ g.is in
        let z : v.epoch ≡ s.top v.dir + 1 = (subst (λ (o : Option Epoched). Noted o s (after s e.0 e.1)) given (noted s e.0 e.1 c f.0)).0 in
        omega (arith, z)
    by (inr i) later =
        let rest = later i in
        let grows = top_grows s (after s e.0 e.1) (gives e.0 e.1) (noted s e.0 e.1 c f.0) v.dir in
        omega (arith, rest, grows)

-- ---- an entry that could follow can still follow

-- what was done before an entry, and what is done now: all of before is done, and what is done was
-- before it or comes after it
pub record Between (before done later : List (ℕ × Entry)) : Type 0 where
  pub part : (p : ℕ × Entry) → In p before → In p done
  pub rest : (p : ℕ × Entry) → In p done → In p before ⊎ In p later

module _ (made : List ℕ) (before done later : List (ℕ × Entry)) (s t : Seen) (k : Knows before made s) (l : Knows done made t) (b : Between before done later)
    (x : ℕ) (e : Entry) (f : EntryFollows s x e) (after_that : Follows (after s x e) later) where
  gave_part : (v : Epoched) → Gave before v → Gave done v
  gave_part v g = record { house = g.house; entry = g.entry; among = b.part (g.house, g.entry) g.among; is = g.is }

  -- no last epoch is taken back
  top_reached : (d : ℕ) → s.top d ≤ t.top d
  top_reached d = by (s.top d) refl
    where
      by : (n : ℕ) → s.top d ≡ n → s.top d ≤ t.top d
      by zero is = omega (arith, is)
      by (suc n) is =
          let r = k.each d (s.top d) (omega (arith, is)) (le_refl _) in
          let low = (l.all r.0 (gave_part r.0 r.1)).0 in
          let z : t.top r.0.dir ≡ t.top d = ap t.top r.2 in
          let y : r.0.epoch ≡ s.top d = r.3 in
          omega (arith, low, z, y)

  -- the epoch that the entry begins is not begun yet
  not_begun : (v : Epoched) → gives x e ≡ Some v → t.top v.dir ≡ s.top v.dir
  not_begun v is =
      let z : Noted (Some v) s (after s x e) = subst (λ (o : Option Epoched). Noted o s (after s x e)) is (noted s x e k.counted f) in
      let next : v.epoch ≡ s.top v.dir + 1 = z.0 in
      let low = top_reached v.dir in
      ⊎_elim (λ (lt : t.top v.dir < v.epoch). omega (arith, lt, low, next))
      (λ (ge : v.epoch ≤ t.top v.dir).
      let r = l.each v.dir v.epoch (omega (arith, next)) ge in
      absurd (was z r.0 r.1 r.2 r.3 (b.rest (r.1.house, r.1.entry) r.1.among)))
      (cases_lt (t.top v.dir) v.epoch)
    where
      was : Noted (Some v) s (after s x e) → (w : Epoched) → (g : Gave done w) → w.dir ≡ v.dir → w.epoch ≡ v.epoch
          → In {A = ℕ × Entry} (g.house, g.entry) before ⊎ In {A = ℕ × Entry} (g.house, g.entry) later → ⊥
      was z w g dir epoch (inl i) =
          let low = (k.all w (record { house = g.house; entry = g.entry; among = i; is = g.is })).0 in
          let y : s.top w.dir ≡ s.top v.dir = ap s.top dir in
          let next : v.epoch ≡ s.top v.dir + 1 = z.0 in
          omega (arith, low, y, next, epoch)
      was z w g dir epoch (inr i) =
          let far = later_given later (after s x e) (counted_next s x e k.counted f) after_that w (record { house = g.house; entry = g.entry; among = i; is = g.is }) in
          let y : (after s x e).top w.dir ≡ v.epoch = ap (after s x e).top dir ∙ top_given s (after s x e) v z in
          omega (arith, far, y, epoch)

  -- a directory of the same last epoch has the same members
  same_members : (d : ℕ) → t.top d ≡ s.top d → t.present d ≡ s.present d
  same_members d same = by (s.top d) refl
    where
      by : (n : ℕ) → s.top d ≡ n → t.present d ≡ s.present d
      by zero is = l.counted.bare d (same ∙ is) ∙ sym (k.counted.bare d is)
      by (suc n) is =
          let r = k.each d (s.top d) (omega (arith, is)) (le_refl _) in
          let v : Epoched = r.0 in
          let in_s : v.members ≡ s.present v.dir = k.last v r.1 (r.3 ∙ sym (ap s.top r.2)) in
          let in_t : v.members ≡ t.present v.dir = l.last v (gave_part v r.1) (r.3 ∙ sym same ∙ sym (ap t.top r.2)) in
          ap t.present (sym r.2) ∙ sym in_t ∙ in_s ∙ ap s.present r.2

  same_made : (hs : List ℕ) → ((h : ℕ) → In h hs → has h s.made ≡ true) → (h : ℕ) → In h hs → has h t.made ≡ true
  same_made hs all h i = ap (has h) (l.same_made ∙ sym k.same_made) ∙ all h i

  -- the next directory is the same one, where a directory is made
  same_next : (m : ℕ) → s.next_dir ≡ m → t.top m ≡ 0 → t.next_dir ≡ m
  same_next m is none =
      let two = k.counted.two in
      let two_done = l.counted.two in
      ⊎_elim
      (λ (lt : t.next_dir < m).
      let low : 1 ≤ s.top (t.next_dir) = k.counted.below t.next_dir two_done (omega (arith, lt, is)) in
      let grown = top_reached t.next_dir in
      let zero : t.top t.next_dir ≡ 0 = l.counted.above t.next_dir (le_refl _) in
      absurd (omega (arith, low, grown, zero)))
      (λ (ge : m ≤ t.next_dir).
      ⊎_elim
      (λ (lt : m < t.next_dir).
      let low : 1 ≤ t.top m = l.counted.below m (omega (arith, two, is)) lt in
      absurd (omega (arith, low, none)))
      (λ (le : t.next_dir ≤ m). omega (arith, ge, le)) (cases_lt m t.next_dir))
      (cases_lt t.next_dir m)

  pub still_follows : EntryFollows t x e
  still_follows = by_entry e f (λ v is. not_begun v is)
    where
      by_order : (o : Order) (e : TurnEntry) → CanFollow s x o
          → ((v : Epoched) → order_gives x o ≡ Some v → t.top v.dir ≡ s.top v.dir) → CanFollow t x o
      by_order (Root rs ss) e f not_yet =
          (not_yet (record { dir = root_dir; epoch = 1; members = member_list_of [] 1 x rs ss }) refl ∙ f.0, same_made rs f.1)
      by_order (Mkdir d n m rs ss) e f not_yet =
          let is : s.next_dir ≡ m = f.0 in
          let z : t.top m ≡ s.top m = not_yet (record { dir = m; epoch = 1; members = member_list_of [] 1 x rs ss }) refl in
          let y : s.top m ≡ 0 = k.counted.above m (omega (arith, is)) in
          (same_next m is (z ∙ y), same_made rs f.1)
      by_order (Accept d u) e f not_yet = tt
      by_order (Skulk d) e f not_yet = tt
      by_order (Epoch d q ms left) e f not_yet =
          let top : t.top d ≡ s.top d = not_yet (record { dir = d; epoch = q; members = ms }) refl in
          let present : t.present d ≡ s.present d = same_members d top in
          record {
            next = f.next ∙ sym (ap (λ (n : ℕ). n + 1) top);
            listed = ap (is_listed x) present ∙ f.listed;
            made = same_made (others_of x ms) f.made;
            good = f.good;
            members = f.members ∙ sym (ap (λ (l : List Member). member_list_of l q x (others_of x ms) (secondaries_of ms)) present);
            leaving = f.leaving ∙ sym (ap (λ (l : List Member). left_members l ms) present);
          }
      by_order (Take octets) e f not_yet = l.posted (record { to = x; octets = octets }) (sent_part (k.sent (record { to = x; octets = octets }) f))
        where
          sent_part : Sent before (record { to = x; octets = octets }) → Sent done (record { to = x; octets = octets })
          sent_part o = record { house = o.house; entry = o.entry; among = b.part (o.house, o.entry) o.among; is = o.is }

      by_entry : (e : Entry) → EntryFollows s x e → ((v : Epoched) → gives x e ≡ Some v → t.top v.dir ≡ s.top v.dir) → EntryFollows t x e
      by_entry (Started image) f not_yet = tt
      by_entry (Turned e) f not_yet = by_order e.order e f not_yet

-- ---- the first entry of the order that is not done

entries_append : (x : ℕ) (line others : List (ℕ × Entry)) → entries_of x (line ++ others) ≡ entries_of x line ++ entries_of x others
entries_append x [] others = refl
entries_append x (e ∷ line) others = by (eqb e.0 x) (entries_append x line others)
  where
    by : (b : Bool) → entries_of x (line ++ others) ≡ entries_of x line ++ entries_of x others
        → cond b (e.1 ∷ entries_of x (line ++ others)) (entries_of x (line ++ others)) ≡ cond b (e.1 ∷ entries_of x line) (entries_of x line) ++ entries_of x others
    by true is = ap (λ (es : List Entry). e.1 ∷ es) is
    by false is = is

-- an entry of a list is one of its house, and one of its house is in the list
in_own : (x : ℕ) (e : Entry) (line : List (ℕ × Entry)) → In (x, e) line → In e (entries_of x line)
in_own x e [] i = elim i [ ]
in_own x e (p ∷ line) (inl is) =
    subst (λ (q : ℕ × Entry). In e (entries_of x (q ∷ line))) is (subst (In e) (sym (entries_here x e line)) (inl refl))
in_own x e (p ∷ line) (inr i) = by (eqb p.0 x) (in_own x e line i)
  where
    by : (b : Bool) → In e (entries_of x line) → In e (cond b (p.1 ∷ entries_of x line) (entries_of x line))
    by true j = inr j
    by false j = j

own_in : (x : ℕ) (e : Entry) (line : List (ℕ × Entry)) → In e (entries_of x line) → In (x, e) line
own_in x e [] i = elim i [ ]
own_in x e (p ∷ line) i = by (eqb p.0 x) refl i (own_in x e line)
  where
    by : (b : Bool) → eqb p.0 x ≡ b → In e (cond b (p.1 ∷ entries_of x line) (entries_of x line)) → (In e (entries_of x line) → In (x, e) line) → In (x, e) (p ∷ line)
    by true on (inl is) later =
        let same : x ≡ p.0 = grind (arith, on) in
        inl (λ i. (same i, is i))
    by true on (inr j) later = inr (later j)
    by false off j later = inr (later j)

-- done entries of each house begin with those before, and then come some more
record Begins (before done : List (ℕ × Entry)) (y : ℕ) : Type 0 where
  more : List Entry
  is : entries_of y done ≡ entries_of y before ++ more

module _ (houses : List MadeHouse) (logs left : ℕ → List Entry) (done : List (ℕ × Entry)) (follows : Follows (nothing_seen (numbers_in houses)) done)
    (splits : (y : ℕ) → logs y ≡ entries_of y done ++ left y) where
  abbrev made : List ℕ
  made = numbers_in houses

  knows_done : Knows done made (after_all (nothing_seen made) done)
  knows_done = knows_all done [] made (nothing_seen made) (knows_nothing made) follows

  -- what is left of a house, after what was before and is done
  left_after : (before later : List (ℕ × Entry)) (y : ℕ) (b : Begins before done y) → entries_of y before ++ entries_of y later ≡ logs y
      → entries_of y later ≡ b.more ++ left y
  left_after before later y b is =
      append_cancel_left (entries_of y before) (entries_of y later) (b.more ++ left y)
      (is ∙ splits y ∙ ap (λ (es : List Entry). es ++ left y) b.is ∙ append_assoc (entries_of y before) b.more (left y))

  search_next : (later before : List (ℕ × Entry)) (s : Seen) → Knows before made s → Follows s later → ((y : ℕ) → Begins before done y)
      → ((y : ℕ) → entries_of y before ++ entries_of y later ≡ logs y) → (x : ℕ) → left x ≢ [] → HasNext (after_all (nothing_seen made) done) left
  search_next [] before s k f begins whole x some =
      absurd (some (none (begins x).more (left x) (left_after before [] x (begins x) (whole x))))
    where
      none : (a b : List Entry) → [] ≡ a ++ b → b ≡ []
      none [] b is = sym is
      none (e ∷ a) b is = absurd (cc (is))
  search_next ((z, e) ∷ later) before s k f begins whole x some =
      by (begins z).more refl
      (λ first. search_next later (before ++ (z, e) ∷ []) (after s z e) (knows_next before made s k z e f.0) f.1
      (each (λ (y : ℕ). Begins (before ++ (z, e) ∷ []) done y) z first (λ y apart. there y apart))
      (λ y. ap (λ (es : List Entry). es ++ entries_of y later) (entries_append y before ((z, e) ∷ []))
      ∙ append_assoc (entries_of y before) (entries_of y ((z, e) ∷ [])) (entries_of y later)
      ∙ ap (λ (es : List Entry). entries_of y before ++ es) (sym (entries_append y ((z, e) ∷ []) later)) ∙ whole y) x some)
    where
      there : (y : ℕ) → y ≢ z → Begins (before ++ (z, e) ∷ []) done y
      there y apart =
          let same : entries_of y (before ++ (z, e) ∷ []) ≡ entries_of y before =
          entries_append y before ((z, e) ∷ []) ∙ ap (λ (es : List Entry). entries_of y before ++ es) (entries_there z y e [] apart) ∙ append_nil (entries_of y before) in
          record { more = (begins y).more; is = (begins y).is ∙ ap (λ (es : List Entry). es ++ (begins y).more) (sym same) }

      rest_of : e ∷ entries_of z later ≡ (begins z).more ++ left z
      rest_of = sym (entries_here z e later) ∙ left_after before ((z, e) ∷ later) z (begins z) (whole z)

      between : (begins z).more ≡ [] → Between before done later
      between none = record {
        part = λ p i. own_in p.0 p.1 done
            (subst (In p.1) (sym (begins p.0).is) (In-append_left p.1 (entries_of p.0 before) (begins p.0).more (in_own p.0 p.1 before i)));
        rest = λ p i. at p (in_own p.0 p.1 done i) (eqb p.0 z) refl;
      }
        where
          at : (p : ℕ × Entry) → In p.1 (entries_of p.0 done) → (b : Bool) → eqb p.0 z ≡ b → In p before ⊎ In p later
          at p i true on =
              let same : p.0 ≡ z = grind (arith, on) in
              let all : entries_of p.0 done ≡ entries_of p.0 before =
              (begins p.0).is ∙ ap (λ (y : ℕ). entries_of p.0 before ++ (begins y).more) same ∙ ap (λ (es : List Entry). entries_of p.0 before ++ es) none
              ∙ append_nil (entries_of p.0 before) in
              inl (own_in p.0 p.1 before (subst (In p.1) all i))
          at p i false off =
              let apart : p.0 ≢ z = grind (arith, off) in
              let all : entries_of p.0 done ++ left p.0 ≡ entries_of p.0 before ++ entries_of p.0 later =
              sym (splits p.0) ∙ sym (whole p.0) ∙ ap (λ (es : List Entry). entries_of p.0 before ++ es) (entries_there z p.0 e later apart) in
              ⊎_elim (λ j. inl (own_in p.0 p.1 before j)) (λ j. inr (own_in p.0 p.1 later j))
              (In-append_cases p.1 (entries_of p.0 before) (entries_of p.0 later)
              (subst (In p.1) all (In-append_left p.1 (entries_of p.0 done) (left p.0) i)))

      by : (more : List Entry) → (begins z).more ≡ more → (Begins (before ++ (z, e) ∷ []) done z → HasNext (after_all (nothing_seen made) done) left)
          → HasNext (after_all (nothing_seen made) done) left
      by [] none later_on = record {
        house = z;
        entry = e;
        others = entries_of z later;
        first = sym (rest_of ∙ ap (λ (es : List Entry). es ++ left z) none);
        follows = still_follows made before done later s (after_all (nothing_seen made) done) k knows_done (between none) z e f.0 f.1;
      }
      by (e' ∷ more) is later_on =
          let same : e ∷ entries_of z later ≡ e' ∷ (more ++ left z) = rest_of ∙ ap (λ (es : List Entry). es ++ left z) is in
          let first : e' ≡ e = cc in
          later_on (record {
            more = more;
            is = (begins z).is ∙ ap (λ (es : List Entry). entries_of z before ++ es) (is ∙ ap (λ (d : Entry). d ∷ more) first)
                ∙ sym (append_assoc (entries_of z before) (e ∷ []) more)
                ∙ ap (λ (es : List Entry). es ++ more) (sym (entries_append z before ((z, e) ∷ []) ∙ ap (λ (es : List Entry). entries_of z before ++ es) (entries_here z e [])));
          })

-- while entries are left, one can follow
pub goes_on : (houses : List MadeHouse) (logs left : ℕ → List Entry) (line done : List (ℕ × Entry)) → IsOrderOf houses logs line
    → Follows (nothing_seen (numbers_in houses)) done → ((x : ℕ) → logs x ≡ entries_of x done ++ left x) → (x : ℕ) → left x ≢ []
    → HasNext (after_all (nothing_seen (numbers_in houses)) done) left
goes_on houses logs left line done order follows splits =
    search_next houses logs left done follows splits line [] (nothing_seen (numbers_in houses)) (knows_nothing (numbers_in houses)) order.follows
    (λ y. record { more = entries_of y done; is = refl }) order.merge
