-- The order is what the search comes to: what the paths come to again has no new item.
use Rattle.std.proofs.Common.{◌≡◌, ℕ, zero, suc, ◌≤◌, Bool, true, false, not, List, [], ◌∷◌, ◌++◌, length, filter, flat_map}
use Rattle.std.proofs.Common.{refl, sym, ap, ◌∙◌, subst, ⊎_elim, append_assoc, append-nil, arith}
use Rattle.cds_stamps.specs.Firsts.{has, firsts}
use Rattle.ns_import.specs.DepthFirst.{depth_first}
use Rattle.ns_import.specs.Orders.{unfold_paths, order}
use Rattle.ns_import.proofs.Firsts.{or_cases, or_none, by_test, not_both, Within, has_front, has_rest, has_head, has_last, has_before_last, has_neither}
use Rattle.ns_import.proofs.Firsts.{within_longer, within_both, within_rest, flat_map_has, left_out, filter_old, filter_new}
use Rattle.ns_import.proofs.Firsts.{firsts_new, firsts_parts, firsts_passed}
use Rattle.ns_import.proofs.Scans.{depth_first-none, depth_first-old}
use Rattle.ns_import.proofs.Steps.{unseen, unseen_falls, unseen_at_most, needs_step, depth_first-new}

module _ {A : Type 0} (same : A → A → Bool) (edges : A → List A) where
  -- what the paths come to that go on from a path along these edges
  abbrev pub branches : (steps : ℕ) → (path fs : List A) → List A
  branches k path fs = flat_map (λ f. unfold_paths same edges k path f) (filter (λ f. not (has same f path)) fs)

  -- each item of the path was seen, and each other that was seen is finished: its edges lead to
  -- items that were seen
  pub record Closed (seen path : List A) : Type 0 where
    pub path_seen : Within same seen path
    pub finished : (x : A) → has same x seen ≡ true → has same x path ≡ false → Within same seen (edges x)

module _ {A : Type 0} (same : A → A → Bool) (exact : (x y : A) → same x y ≡ true → x ≡ y) (itself : (x : A) → same x x ≡ true) (edges : A → List A) where
  -- from items that were seen, along a longer path, the paths come to none that is new
  branches_inside : (k : ℕ) (seen path longer fs : List A) → Within same longer path → Within same seen fs
      → ((f : A) → has same f seen ≡ true → has same f longer ≡ false → Within same seen (unfold_paths same edges k longer f))
      → Within same seen (branches same edges k longer fs)
  branches_inside k seen path longer fs long w each x h =
      let from = flat_map_has same itself (λ f. unfold_paths same edges k longer f) (filter (λ f. not (has same f longer)) fs) x h in
      let out = left_out same exact longer fs from.0 from.1 in
      each from.0 (w from.0 out.0) out.1 x from.2

  -- from an item that was seen and is on no such path likewise
  inside : (k : ℕ) (seen path longer : List A) (f : A) → Closed same edges seen path → Within same longer path
      → has same f seen ≡ true → has same f longer ≡ false → Within same seen (unfold_paths same edges k longer f)
  inside zero seen path longer f closed long old off x h = absurd cc
  inside (suc k) seen path longer f closed long old off x h =
      ⊎_elim (λ is. subst (λ z. has same z seen ≡ true) (sym (exact x f is)) old)
      (branches_inside k seen path (longer ++ f ∷ []) (edges f) (within_longer same longer (f ∷ []) path long) (closed.finished f old off_path)
      (λ g. inside k seen path (longer ++ f ∷ []) g closed (within_longer same longer (f ∷ []) path long)) x)
      (or_cases (same x f) (has same x (branches same edges k (longer ++ f ∷ []) (edges f))) h)
    where
      off_path : has same f path ≡ false
      off_path = by_test (has same f path) (λ on. not_both (has same f longer) (long f on) off) (λ no. no)

module _ {A : Type 0} (same : A → A → Bool) (exact : (x y : A) → same x y ≡ true → x ≡ y) (itself : (x : A) → same x x ≡ true) (edges : A → List A)
    (objects : List A) (lands : (e : A) → Within same objects (edges e)) where
  -- what the search still comes to
  abbrev rest_of : (seen rest : List A) → List A
  rest_of seen rest = depth_first same edges (length objects) seen rest

  -- the search comes from these items first to `new`, and then to what it comes to from the others;
  -- then the items were seen, and what was seen is finished or on the path
  record Searched (seen path new fs rest : List A) : Type 0 where
    found : rest_of seen (fs ++ rest) ≡ new ++ rest_of (seen ++ new) rest
    closed : Closed same edges (seen ++ new) path
    all : Within same (seen ++ new) fs

  -- no items
  searched_none : (seen path rest : List A) → Closed same edges seen path → Searched seen path [] [] rest
  searched_none seen path rest closed = record {
    found = ap (λ (s : List A). rest_of s rest) (sym (append-nil seen));
    closed = subst (λ s. Closed same edges s path) (sym (append-nil seen)) closed;
    all = λ x h. absurd cc;
  }

  -- one more in front that was seen
  searched_old : (seen path new : List A) (f : A) (fs rest : List A) → has same f seen ≡ true → Searched seen path new fs rest
      → Searched seen path new (f ∷ fs) rest
  searched_old seen path new f fs rest old others = record {
    found = depth_first-old same edges (length objects) seen f (fs ++ rest) old ∙ others.found;
    closed = others.closed;
    all = λ x h. ⊎_elim (λ is. has_front same x seen new (subst (λ z. has same z seen ≡ true) (sym (exact x f is)) old)) (others.all x)
        (or_cases (same x f) (has same x fs) h);
  }

  -- one in front, and then the others
  searched_both : (seen path one more : List A) (f : A) (fs rest : List A) → Searched seen path one (f ∷ []) (fs ++ rest)
      → Searched (seen ++ one) path more fs rest → Searched seen path (one ++ more) (f ∷ fs) rest
  searched_both seen path one more f fs rest first others = record {
    found = first.found ∙ ap (λ (l : List A). one ++ l) others.found ∙ sym (append_assoc one more (rest_of ((seen ++ one) ++ more) rest))
        ∙ ap (λ (s : List A). (one ++ more) ++ rest_of s rest) (append_assoc seen one more);
    closed = subst (λ s. Closed same edges s path) (append_assoc seen one more) others.closed;
    all = subst (λ s. Within same s (f ∷ fs)) (append_assoc seen one more)
        (within_both same ((seen ++ one) ++ more) (f ∷ []) fs (within_longer same (seen ++ one) more (f ∷ []) first.all) others.all);
  }

  -- one that is entered, where its edges were searched with it on the path
  searched_new : (seen path new : List A) (f : A) (rest : List A) → has same f seen ≡ false → has same f objects ≡ true → Within same objects rest
      → Closed same edges seen path → Searched (seen ++ f ∷ []) (path ++ f ∷ []) new (edges f) rest → Searched seen path (f ∷ new) (f ∷ []) rest
  searched_new seen path new f rest fresh there w closed below = record {
    found = depth_first-new same exact itself edges objects lands seen f rest fresh there w ∙ ap (λ (l : List A). f ∷ l) below.found
        ∙ ap (λ (s : List A). f ∷ (new ++ rest_of s rest)) (append_assoc seen (f ∷ []) new);
    closed = subst (λ s. Closed same edges s path) (append_assoc seen (f ∷ []) new) (record {
      path_seen = within_longer same (seen ++ f ∷ []) new path (within_longer same seen (f ∷ []) path closed.path_seen);
      finished = λ x h off. by_test (same x f) (λ is. subst (λ z. Within same ((seen ++ f ∷ []) ++ new) (edges z)) (sym (exact x f is)) below.all)
          (λ other. below.closed.finished x h (has_neither same x path (f ∷ []) off (or_none (same x f) false other refl)));
    });
    all = λ x h. subst (λ s. has same x s ≡ true) (append_assoc seen (f ∷ []) new)
        (has_front same x (seen ++ f ∷ []) new (has_rest same x seen (f ∷ []) h));
  }

  -- with an item that is entered on the path, all is seen and finished as before
  closed_new : (seen path : List A) (f : A) → Closed same edges seen path → Closed same edges (seen ++ f ∷ []) (path ++ f ∷ [])
  closed_new seen path f closed = record {
    path_seen = within_both same (seen ++ f ∷ []) path (f ∷ []) (within_longer same seen (f ∷ []) path closed.path_seen)
        (λ x h. has_rest same x seen (f ∷ []) h);
    finished = λ x h off. within_longer same seen (f ∷ []) (edges x)
        (⊎_elim (λ old. closed.finished x old
        (by_test (has same x path) (λ on. not_both (has same x (path ++ f ∷ [])) (has_front same x path (f ∷ []) on) off) (λ no. no)))
        (λ is. not_both (has same x (path ++ f ∷ [])) (subst (λ z. has same z (path ++ f ∷ []) ≡ true) (sym is) (has_last same itself f path)) off)
        (has_before_last same exact x seen f h));
  }

  off_path : (seen path : List A) (f : A) → Closed same edges seen path → has same f seen ≡ false → has same f path ≡ false
  off_path seen path f closed fresh = by_test (has same f path) (λ on. not_both (has same f seen) (closed.path_seen f on) fresh) (λ no. no)

  -- along these edges the search comes to the first places of what the paths come to, where it does
  -- so from each item
  branches_searched : (k : ℕ)
      → ((seen path : List A) (f : A) (rest : List A) → unseen same objects path ≤ k → Closed same edges seen path → has same f seen ≡ false
      → has same f objects ≡ true → Within same objects rest → Searched seen path (firsts same seen (unfold_paths same edges k path f)) (f ∷ []) rest)
      → (seen path fs rest : List A) → unseen same objects path ≤ k → Closed same edges seen path → Within same objects fs → Within same objects rest
      → Searched seen path (firsts same seen (branches same edges k path fs)) fs rest
  branches_searched k each seen path [] rest few closed w v = searched_none seen path rest closed
  branches_searched k each seen path (f ∷ fs) rest few closed w v =
      by_test (has same f seen) (λ old. passed old (branches_searched k each seen path fs rest few closed (within_rest same objects f fs w) v))
      (λ fresh. let first = entered fresh in
      both fresh first (branches_searched k each (seen ++ one) path fs rest few first.closed (within_rest same objects f fs w) v))
    where
      one : List A
      one = firsts same seen (unfold_paths same edges k path f)

      more : List A
      more = firsts same (seen ++ one) (branches same edges k path fs)

      entered : has same f seen ≡ false → Searched seen path one (f ∷ []) (fs ++ rest)
      entered fresh = each seen path f (fs ++ rest) few closed fresh (w f (has_head same itself f fs))
          (within_both same objects fs rest (within_rest same objects f fs w) v)

      new_branch : has same f path ≡ false → branches same edges k path (f ∷ fs) ≡ unfold_paths same edges k path f ++ branches same edges k path fs
      new_branch off = ap (flat_map (λ g. unfold_paths same edges k path g)) (filter_new same exact path f fs off)

      both : has same f seen ≡ false → Searched seen path one (f ∷ []) (fs ++ rest) → Searched (seen ++ one) path more fs rest
          → Searched seen path (firsts same seen (branches same edges k path (f ∷ fs))) (f ∷ fs) rest
      both fresh first others =
          subst (λ new. Searched seen path new (f ∷ fs) rest)
          (sym (ap (firsts same seen) (new_branch (off_path seen path f closed fresh))
          ∙ firsts_parts same seen (unfold_paths same edges k path f) (branches same edges k path fs)))
          (searched_both seen path one more f fs rest first others)

      old_branch : has same f seen ≡ true → firsts same seen (branches same edges k path (f ∷ fs)) ≡ firsts same seen (branches same edges k path fs)
      old_branch old =
          by_test (has same f path) (λ on. ap (λ l. firsts same seen (flat_map (λ g. unfold_paths same edges k path g) l)) (filter_old same exact path f fs on))
          (λ off. ap (firsts same seen) (new_branch off)
          ∙ firsts_passed same itself seen (unfold_paths same edges k path f) (branches same edges k path fs)
          (inside same exact itself edges k seen path path f closed (λ x h. h) old off))

      passed : has same f seen ≡ true → Searched seen path (firsts same seen (branches same edges k path fs)) fs rest
          → Searched seen path (firsts same seen (branches same edges k path (f ∷ fs))) (f ∷ fs) rest
      passed old others =
          subst (λ new. Searched seen path new (f ∷ fs) rest) (sym (old_branch old))
          (searched_old seen path (firsts same seen (branches same edges k path fs)) f fs rest old others)

  -- from an item that was not seen the search comes to the first places of what the paths from it
  -- come to
  unfolded_searched : (k : ℕ) (seen path : List A) (f : A) (rest : List A) → unseen same objects path ≤ k → Closed same edges seen path
      → has same f seen ≡ false → has same f objects ≡ true → Within same objects rest
      → Searched seen path (firsts same seen (unfold_paths same edges k path f)) (f ∷ []) rest
  unfolded_searched zero seen path f rest few closed fresh there w =
      absurd (needs_step same exact itself objects path f there (off_path seen path f closed fresh) few)
  unfolded_searched (suc k) seen path f rest few closed fresh there w =
      let falls = unseen_falls same exact itself objects path f there (off_path seen path f closed fresh) in
      subst (λ new. Searched seen path new (f ∷ []) rest) (sym (firsts_new same seen f (branches same edges k (path ++ f ∷ []) (edges f)) fresh))
      (searched_new seen path (firsts same (seen ++ f ∷ []) (branches same edges k (path ++ f ∷ []) (edges f))) f rest fresh there w closed
      (branches_searched k (unfolded_searched k) (seen ++ f ∷ []) (path ++ f ∷ []) (edges f) rest (omega arith) (closed_new seen path f closed) (lands f) w))

  -- the search from an object, where nothing was seen and nothing waits
  order_searched : (e : A) → has same e objects ≡ true → Searched [] [] (order same edges (length objects) e) (e ∷ []) []
  order_searched e there =
      unfolded_searched (length objects) [] [] e [] (unseen_at_most same exact itself objects [])
      (record { path_seen = λ x h. h; finished = λ x h. absurd cc }) refl there (λ x h. absurd cc)

  -- the order is what the search comes to from nothing
  pub order_is_search : (e : A) → has same e objects ≡ true → order same edges (length objects) e ≡ depth_first same edges (length objects) [] (e ∷ [])
  order_is_search e there =
      sym ((order_searched e there).found ∙ ap (λ (l : List A). order same edges (length objects) e ++ l)
      (depth_first-none same edges (length objects) (order same edges (length objects) e))
      ∙ append-nil (order same edges (length objects) e))

  -- so it is the start, and then what the search comes to from its edges
  pub order_begins : (e : A) → has same e objects ≡ true
      → order same edges (length objects) e ≡ e ∷ depth_first same edges (length objects) (e ∷ []) (edges e)
  order_begins e there =
      order_is_search e there ∙ depth_first-new same exact itself edges objects lands [] e [] refl there (λ x h. absurd cc)
      ∙ ap (λ (fs : List A). e ∷ depth_first same edges (length objects) (e ∷ []) fs) (append-nil (edges e))

  -- with each item of the order its edges lead to items of the order
  pub order_closed : (e : A) → has same e objects ≡ true → Closed same edges (order same edges (length objects) e) []
  order_closed e there = (order_searched e there).closed

  -- and it has the item that it begins at
  pub order_has_start : (e : A) → has same e objects ≡ true → has same e (order same edges (length objects) e) ≡ true
  order_has_start e there = (order_searched e there).all e (has_head same itself e [])
