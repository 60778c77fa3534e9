-- What is changed in place or removed at one key of a tree, as a change of the map of its entries.
use Rattle.std.proofs.Common.{◌≡◌, ℕ, Bool, true, false, cond, List, Option, Some, None, refl, sym, ap, ◌∙◌}
use Rattle.std.specs.BTreeMap.{is_at}
use Rattle.std.specs.Prelude.{IfSome, if◌then◌else◌}
use Rattle.std.specs.Map.{lookup, set_value}
use Rattle.std.specs.Option.{option_and_then}
use Rattle.std.specs.Cmp.Lexicographic.{nat_list_cmp_total}
use Rattle.std.specs.FinMap.{FinMap, get, insert, remove, from_entries, get-remove, same_map}
use Rattle.std.proofs.lemmas.Map.Steps.{set_value_same}
use Rattle.cds_stamps.specs.declared.stamp.Stamp.{Stamp}
use Rattle.cds_stamps.specs.Keyed.{ties_are_equal}
use Rattle.cds_stamps.specs.Octets.{octets_cmp, octets_exact, is_octets}
use Rattle.cds_stamps.proofs.TreeViews.{get-view, view-insert}
use Rattle.cds_stamps.proofs.TreeViews.{view-remove}
use Rattle.directory.specs.declared.deletions.What.{What}
use Rattle.directory.specs.declared.deletions.What.TheVariants.{Death, Clear, Absent}
use Rattle.directory.specs.declared.entry.EntryCell.{EntryCell}
use Rattle.directory.specs.Deletions.{set_at, change_at, is_lost, is_of_attr, entry_without}
use Rattle.directory.specs.Entries.{Entries}

-- a key that has nothing
pub remove-none : {X : Type 0} (m : FinMap octets_cmp X) (k : List ℕ) → get m k ≡ None → remove m k ≡ m
remove-none {X} m k none = same_map nat_list_cmp_total octets_exact (remove m k) m (λ q. get-remove nat_list_cmp_total m k q ∙ by_case q (is_octets q k) refl)
  where
    by_case : (q : List ℕ) (b : Bool) → is_octets q k ≡ b → cond b None (get m q) ≡ get m q
    by_case q true e = sym none ∙ ap (get m) (sym (ties_are_equal octets_exact q k e))
    by_case q false e = refl

module _ {X : Type 0} (m : FinMap octets_cmp X) (es : List (List ℕ × X)) (k : List ℕ) (f : X → Option X) (view : from_entries {R = octets_cmp} es ≡ m) where
  had : (x : Option X) → x ≡ lookup (is_at (octets_cmp k)) es → get m k ≡ x
  had x is = ap (λ m. get m k) (sym view) ∙ get-view nat_list_cmp_total es k ∙ sym is

  -- a value that is changed
  pub set_here : (fs : List (List ℕ × X)) (own next : X) → Some own ≡ lookup (is_at (octets_cmp k)) es
      → ((q : List ℕ) → lookup (is_at (octets_cmp q)) fs ≡ cond (is_at (octets_cmp k) q) (Some next) (lookup (is_at (octets_cmp q)) es))
      → f own ≡ Some next → from_entries fs ≡ change_at m k f
  set_here fs own next is puts makes =
      view-insert nat_list_cmp_total octets_exact es fs k next puts ∙ ap (λ m. insert m k next) view
      ∙ sym (ap (λ x. set_at m k (option_and_then f x)) (had (Some own) is) ∙ ap (set_at m k) makes)

  -- a value that is removed
  pub removed_here : (fs : List (List ℕ × X))
      → ((q : List ℕ) → lookup (is_at (octets_cmp q)) fs ≡ cond (is_at (octets_cmp k) q) None (lookup (is_at (octets_cmp q)) es))
      → option_and_then f (get m k) ≡ None → from_entries fs ≡ change_at m k f
  removed_here fs takes makes =
      view-remove nat_list_cmp_total octets_exact es fs k takes ∙ ap (λ m. remove m k) view ∙ sym (ap (set_at m k) makes)

  -- a value that is changed, and then removed
  pub gone_here : (fs gs : List (List ℕ × X)) (own next : X) → Some own ≡ lookup (is_at (octets_cmp k)) es
      → ((q : List ℕ) → lookup (is_at (octets_cmp q)) fs ≡ cond (is_at (octets_cmp k) q) (Some next) (lookup (is_at (octets_cmp q)) es))
      → ((q : List ℕ) → lookup (is_at (octets_cmp q)) gs ≡ cond (is_at (octets_cmp k) q) None (lookup (is_at (octets_cmp q)) fs))
      → f own ≡ None → from_entries gs ≡ change_at m k f
  gone_here fs gs own next is puts takes makes =
      removed_here gs (λ q. takes q ∙ ap (cond (is_at (octets_cmp k) q) None) (puts q) ∙ twice (is_at (octets_cmp k) q) (lookup (is_at (octets_cmp q)) es))
      (ap (option_and_then f) (had (Some own) is) ∙ makes)
    where
      twice : (b : Bool) (x : Option X) → cond b None (cond b (Some next) x) ≡ cond b None x
      twice true x = refl
      twice false x = refl

  -- a key that has nothing
  pub none_here : (fs : List (List ℕ × X)) → None ≡ lookup (is_at (octets_cmp k)) es → fs ≡ es → from_entries fs ≡ change_at m k f
  none_here fs is same =
      ap from_entries same ∙ view ∙ sym (ap (λ x. set_at m k (option_and_then f x)) (had None is) ∙ remove-none m k (had None is))

-- a value that is looked at in place, and stays as it is
pub stays : {X : Type 0} (m : FinMap octets_cmp X) (es fs : List (List ℕ × X)) (k : List ℕ) (own : X) → from_entries {R = octets_cmp} es ≡ m
    → Some own ≡ lookup (is_at (octets_cmp k)) es → fs ≡ set_value (is_at (octets_cmp k)) es own → from_entries fs ≡ m
stays m es fs k own view had puts = ap from_entries (puts ∙ set_value_same (is_at (octets_cmp k)) es own (sym had)) ∙ view

-- what a key has, by the tree's look-up
pub found : {X : Type 0} (m : FinMap octets_cmp X) (es : List (List ℕ × X)) (k : List ℕ) (x : Option X) → from_entries {R = octets_cmp} es ≡ m
    → x ≡ lookup (is_at (octets_cmp k)) es → get m k ≡ x
found m es k x view is = ap (λ m. get m k) (sym view) ∙ get-view nat_list_cmp_total es k ∙ sym is

-- a deletion that is not there leaves the table as it is
pub kept_if : (m n : Entries) (k : List ℕ) (s : Stamp) (w : What) → is_lost (get m k) s w ≡ false → n ≡ m
    → n ≡ (if is_lost (get m k) s w then change_at m k (entry_without w) else m)
kept_if m n k s w none same = same ∙ ap (λ b. if b then change_at m k (entry_without w) else m) (sym none)

-- one that is there is dropped
pub dropped_if : (m n : Entries) (k : List ℕ) (s : Stamp) (w : What) → is_lost (get m k) s w ≡ true → n ≡ change_at m k (entry_without w)
    → n ≡ (if is_lost (get m k) s w then change_at m k (entry_without w) else m)
dropped_if m n k s w has drops = drops ∙ ap (λ b. if b then change_at m k (entry_without w) else m) (sym has)

-- what is left of an entry that lost a clear or a value
pub left_of : (w : What) (own next : EntryCell) → is_of_attr w ≡ true → IfSome (entry_without w own) (λ e. next ≡ e) → entry_without w own ≡ Some next
left_of Death own next of is = cc (of)
left_of (Clear a) own next of is = ap Some (sym is)
left_of (Absent a v) own next of is = ap Some (sym is)
