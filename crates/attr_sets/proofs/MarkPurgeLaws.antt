-- What is left of marks and clears up to a stamp, and what of them is later: over any order, and
-- then at stamps.
use Rattle.std.proofs.Common.{◌≡◌, Bool, true, false, not, Option, Some, None, refl, sym, ap, ◌∙◌, arith}
use Rattle.std.specs.Prelude.{◌||◌, if◌then◌else◌}
use Rattle.std.specs.Option.{option_and_then}
use Rattle.std.specs.FinMap.{IsAntisymmetric}
use Rattle.std.specs.declared.cmp.Ordering.{Ordering}
use Rattle.std.specs.Ordering.{is_lt, ordering_then, bool_cmp}
use Rattle.std.specs.Cmp.{IsTotalOrder, tied_itself}
use Rattle.cds_stamps.specs.declared.stamp.Stamp.{Stamp}
use Rattle.cds_stamps.specs.Semilattice.{maybe, greater}
use Rattle.cds_stamps.specs.Stamps.{stamp_total, stamp_exact, is_earlier, is_up_to, later_stamp}
use Rattle.attr_sets.specs.declared.mark.ValueMark.{ValueMark}
use Rattle.attr_sets.specs.Marks.{later, mark_after_clear}
use Rattle.attr_sets.specs.CellPurges.{mark_left, mark_after, clear_left}

-- ---- over any order: marks with a key, and keys that clear

module _ {M K : Type 0} (f : M → K) (present : M → Bool) {R : K → K → Ordering} (o : IsTotalOrder R) (same : IsAntisymmetric R) (S : M → M → Ordering) where
  abbrev earlier : K → K → Bool
  earlier a b = is_lt (R a b)

  abbrev keep : K → M → Option M
  keep c m = if earlier (f m) c then None else Some m

  abbrev leave : K → M → Option M
  leave t m = if present m || not (not (earlier t (f m))) then Some m else None

  abbrev follow : K → M → Option M
  follow t m = if not (earlier t (f m)) then None else Some m

  abbrev clear : K → K → Option K
  clear t c = if not (earlier t c) then None else Some c

  abbrev both : M → M → M
  both = greater (λ a b. ordering_then (R (f a) (f b)) (S a b))

  abbrev keep_by : Option K → Option M → Option M
  keep_by c None = None
  keep_by None (Some m) = Some m
  keep_by (Some c) (Some m) = keep c m

  follow-keep : (t c : K) (m : M) → option_and_then (follow t) (keep c m) ≡ keep_by (clear t c) (follow t m)
  follow-keep t c m =
      grind (
        arith,
        o.trans (f m) c t,
        o.trans t (f m) c,
        o.antisymm t c,
        o.antisymm t (f m),
        o.antisymm c (f m),
        o.trans t c (f m),
        same t c,
        same t (f m),
        same c (f m),
        o.trans (f m) t c,
        o.trans c t (f m),
      )

  leave-keep : (t c : K) (m : M) → option_and_then (leave t) (keep c m) ≡ option_and_then (keep c) (leave t m)
  leave-keep t c m = grind arith

  leave-both : (t : K) (x y : M) → option_and_then (leave t) (maybe both (Some x) (follow t y)) ≡ maybe both (leave t x) (follow t y)
  leave-both t x y =
      grind (
        arith,
        o.trans (f x) t (f y),
        o.trans t (f y) (f x),
        o.antisymm (f x) (f y),
        o.antisymm t (f x),
        o.antisymm t (f y),
        o.congr t (f x) (f y),
        o.congr (f x) (f y) t,
        o.trans t (f x) (f y),
        same t (f x),
        same (f x) (f y),
      )

  keep-follow : (t c : K) (y : M) → option_and_then (keep c) (follow t y) ≡ keep_by (clear t c) (follow t y)
  keep-follow t c y =
      grind (
        arith,
        o.trans c t (f y),
        o.antisymm t c,
        o.antisymm c (f y),
        o.antisymm t (f y),
        o.congr c t (f y),
        same t c,
        o.trans t (f y) c,
      )

  clear-greater : (t c d : K) → option_and_then (clear t) (maybe (greater R) (Some c) (clear t d)) ≡ maybe (greater R) (clear t c) (clear t d)
  clear-greater t c d =
      grind (
        arith,
        o.trans t d c,
        o.antisymm c d,
        o.antisymm t c,
        o.antisymm t d,
        o.trans c t d,
        o.congr t c d,
        same t c,
        same c d,
        o.trans t c d,
        o.congr c t d,
      )

  clear-below : (t c : K) → maybe (greater R) (clear t c) (Some c) ≡ Some c
  clear-below t c = grind (arith, o.antisymm c c)

  -- up to a stamp, and then up to one that is not earlier
  follow-leave : (s t : K) (m : M) → earlier t s ≡ false → option_and_then (follow t) (leave s m) ≡ follow t m
  follow-leave s t m e = grind (arith, e, o.trans s t (f m), o.antisymm s t, o.congr s t (f m))

  leave-leave : (s t : K) (m : M) → earlier t s ≡ false → option_and_then (leave t) (leave s m) ≡ leave t m
  leave-leave s t m e = grind (arith, e, o.trans s t (f m), o.antisymm s t, o.congr s t (f m))

  follow-follow : (s t : K) (m : M) → earlier t s ≡ false → option_and_then (follow t) (follow s m) ≡ follow t m
  follow-follow s t m e = grind (arith, e, o.trans s t (f m), o.antisymm s t, o.congr s t (f m))

  leave-follow : (t : K) (m : M) → option_and_then (leave t) (follow t m) ≡ follow t m
  leave-follow t m = grind arith

  early-early : (s t d : K) → earlier t s ≡ false → not (earlier s d) ≡ true → not (earlier t d) ≡ true
  early-early s t d e h = grind (arith, e, h, o.trans s t d, o.antisymm s t, o.congr s t d)

  clear-clear : (s t c : K) → earlier t s ≡ false → option_and_then (clear t) (clear s c) ≡ clear t c
  clear-clear s t c e = grind (arith, e, o.trans s t c, o.antisymm s t, o.congr s t c)

  -- ---- the same where either may be missing

  abbrev follow_by : K → Option M → Option M
  follow_by t = option_and_then (follow t)

  abbrev leave_by : K → Option M → Option M
  leave_by t = option_and_then (leave t)

  abbrev clear_by : K → Option K → Option K
  clear_by t = option_and_then (clear t)

  keep_all : (x : Option M) → keep_by None x ≡ x
  keep_all None = refl
  keep_all (Some x) = refl

  kept_and_then : (c : K) (x : Option M) → option_and_then (keep c) x ≡ keep_by (Some c) x
  kept_and_then c None = refl
  kept_and_then c (Some x) = refl

  joined_none : (x : Option M) → maybe both x None ≡ x
  joined_none None = refl
  joined_none (Some x) = refl

  follow_by-keep : (t : K) (c : Option K) (m : Option M) → follow_by t (keep_by c m) ≡ keep_by (clear_by t c) (follow_by t m)
  follow_by-keep t None None = refl
  follow_by-keep t (Some c) None = refl
  follow_by-keep t None (Some m) = sym (keep_all (follow t m))
  follow_by-keep t (Some c) (Some m) = follow-keep t c m

  leave_by-keep : (t : K) (c : Option K) (m : Option M) → leave_by t (keep_by c m) ≡ keep_by c (leave_by t m)
  leave_by-keep t c None = refl
  leave_by-keep t None (Some m) = sym (keep_all (leave t m))
  leave_by-keep t (Some c) (Some m) = leave-keep t c m ∙ kept_and_then c (leave t m)

  leave_by-both : (t : K) (x y : Option M) → leave_by t (maybe both x (follow_by t y)) ≡ maybe both (leave_by t x) (follow_by t y)
  leave_by-both t x None = ap (leave_by t) (joined_none x) ∙ sym (joined_none (leave_by t x))
  leave_by-both t None (Some y) = leave-follow t y
  leave_by-both t (Some x) (Some y) = leave-both t x y

  keep_by-follow : (t : K) (c : Option K) (y : Option M) → keep_by c (follow_by t y) ≡ keep_by (clear_by t c) (follow_by t y)
  keep_by-follow t None y = refl
  keep_by-follow t (Some c) None = refl
  keep_by-follow t (Some c) (Some y) = sym (kept_and_then c (follow t y)) ∙ keep-follow t c y

  clear_by-greater : (t : K) (c d : Option K) → clear_by t (maybe (greater R) c (clear_by t d)) ≡ maybe (greater R) (clear_by t c) (clear_by t d)
  clear_by-greater t None None = refl
  clear_by-greater t None (Some d) = grind arith
  clear_by-greater t (Some c) None = grind arith
  clear_by-greater t (Some c) (Some d) = clear-greater t c d

  clear_by-below : (t : K) (c : Option K) → maybe (greater R) (clear_by t c) c ≡ c
  clear_by-below t None = refl
  clear_by-below t (Some c) = clear-below t c

-- ---- at stamps and marks

-- what is left of a mark that may be missing
abbrev pub left : Stamp → Option ValueMark → Option ValueMark
left t = option_and_then (mark_left t)

-- a mark that may be missing, if it is later than t
abbrev pub after : Stamp → Option ValueMark → Option ValueMark
after t = option_and_then (mark_after t)

-- a clear that may be missing, if it is later than t
abbrev pub clear_after : Stamp → Option Stamp → Option Stamp
clear_after t = option_and_then (clear_left t)

abbrev time_of : ValueMark → Stamp
time_of m = m.stamp

abbrev is_present : ValueMark → Bool
is_present m = m.present

abbrev tie : ValueMark → ValueMark → Ordering
tie a b = bool_cmp b.present a.present

-- a clear takes of what is later what it takes of all, and only if it is later
pub after-kept : (t : Stamp) (c : Option Stamp) (m : Option ValueMark) → after t (mark_after_clear c m) ≡ mark_after_clear (clear_after t c) (after t m)
after-kept = follow_by-keep time_of is_present stamp_total stamp_exact tie

-- marks are dropped and kept in either order
pub left-kept : (t : Stamp) (c : Option Stamp) (m : Option ValueMark) → left t (mark_after_clear c m) ≡ mark_after_clear c (left t m)
left-kept = leave_by-keep time_of is_present stamp_total stamp_exact tie

-- what is later is joined before or after dropping
pub left-later : (t : Stamp) (x y : Option ValueMark) → left t (maybe later x (after t y)) ≡ maybe later (left t x) (after t y)
left-later = leave_by-both time_of is_present stamp_total stamp_exact tie

-- a clear up to t takes nothing that is later
pub kept-after : (t : Stamp) (c : Option Stamp) (y : Option ValueMark) → mark_after_clear c (after t y) ≡ mark_after_clear (clear_after t c) (after t y)
kept-after = keep_by-follow time_of is_present stamp_total stamp_exact tie

-- a clear that is later is joined before or after dropping
pub clear_after-later : (t : Stamp) (c d : Option Stamp)
    → clear_after t (maybe later_stamp c (clear_after t d)) ≡ maybe later_stamp (clear_after t c) (clear_after t d)
clear_after-later = clear_by-greater time_of is_present stamp_total stamp_exact tie

-- what is left of a clear adds nothing to it
pub clear_after-below : (t : Stamp) (c : Option Stamp) → maybe later_stamp (clear_after t c) c ≡ c
clear_after-below = clear_by-below time_of is_present stamp_total stamp_exact tie

-- ---- up to a stamp, and then up to one that is not earlier

-- a stamp is not earlier than itself
pub not_itself : (t : Stamp) → is_earlier t t ≡ false
not_itself t = ap is_lt (tied_itself stamp_total t)

-- what is up to s is up to t
pub up_to-further : (s t d : Stamp) → is_earlier t s ≡ false → is_up_to s d ≡ true → is_up_to t d ≡ true
up_to-further = early-early time_of is_present stamp_total stamp_exact tie

-- clears are dropped up to s and then up to t
pub clear_after-twice : (s t : Stamp) (c : Option Stamp) → is_earlier t s ≡ false → clear_after t (clear_after s c) ≡ clear_after t c
clear_after-twice s t None e = refl
clear_after-twice s t (Some c) e = clear-clear time_of is_present stamp_total stamp_exact tie s t c e

-- and so are marks
pub left-twice : (s t : Stamp) (m : Option ValueMark) → is_earlier t s ≡ false → left t (left s m) ≡ left t m
left-twice s t None e = refl
left-twice s t (Some m) e = leave-leave time_of is_present stamp_total stamp_exact tie s t m e

-- what is later than t of what is left up to s
pub after-left : (s t : Stamp) (m : Option ValueMark) → is_earlier t s ≡ false → after t (left s m) ≡ after t m
after-left s t None e = refl
after-left s t (Some m) e = follow-leave time_of is_present stamp_total stamp_exact tie s t m e

-- what is later than t of what is later than s
pub after-twice : (s t : Stamp) (m : Option ValueMark) → is_earlier t s ≡ false → after t (after s m) ≡ after t m
after-twice s t None e = refl
after-twice s t (Some m) e = follow-follow time_of is_present stamp_total stamp_exact tie s t m e

-- nothing of what is later is dropped
pub left-after : (t : Stamp) (m : Option ValueMark) → left t (after t m) ≡ after t m
left-after t None = refl
left-after t (Some m) = leave-follow time_of is_present stamp_total stamp_exact tie t m
