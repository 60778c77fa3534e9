-- Updates that are applied in place do what the join of their fragment would do.
use Rattle.std.proofs.Common.{◌≡◌, ℕ, Bool, true, false, cond, List, Option, Some, None, IsSome, refl, sym, ap, subst, ◌∙◌}
use Rattle.std.proofs.Common.{Bor, is_some, option_copied}
use Rattle.std.specs.Prelude.{◌&&◌, is_none, IfSome, if◌then◌else◌}
use Rattle.std.specs.declared.cmp.Ordering.{Ordering}
use Rattle.std.specs.declared.cmp.Ordering.TheVariants.{Less, Equal, Greater}
use Rattle.std.specs.Option.{option_and_then, IsSomeAnd}
use Rattle.std.specs.Map.{lookup}
use Rattle.std.specs.BTreeMap.{is_at}
use Rattle.std.specs.Cmp.{IsTotalOrder, tied_itself}
use Rattle.std.specs.Cmp.Lexicographic.{nat_list_cmp_total}
use Rattle.std.specs.FinMap.{FinMap, IsAntisymmetric, get, empty, insert, from_entries, get-empty, get-insert, same_map}
use Rattle.cds_stamps.specs.declared.stamp.Stamp.{Stamp}
use Rattle.cds_stamps.specs.Semilattice.{maybe}
use Rattle.cds_stamps.specs.Stamps.{stamp_cmp, stamp_total, earlier_stamp}
use Rattle.cds_stamps.specs.Octets.{octets_cmp, octets_exact, is_octets}
use Rattle.cds_stamps.specs.Joins.{join_maps, get-join_maps}
use Rattle.cds_stamps.specs.Undos.{RaisesAt}
use Rattle.cds_stamps.proofs.TreeViews.{get-view}
use Rattle.cds_stamps.proofs.Undoing.{joined_here, joined_new}
use Rattle.attr_sets.specs.declared.cell.AttrCell.{AttrCell}
use Rattle.attr_sets.specs.AttributeCells.{AttrMark, cell_of, join_cells}
use Rattle.directory.specs.declared.entry.EntryCell.{EntryCell}
use Rattle.directory.specs.declared.entry.Fragment.{Fragment}
use Rattle.directory.specs.Entries.{Entries, join_tied, join_entries, IsValidEntry}
use Rattle.directory.specs.EntryLawProofs.{kinds}
use Rattle.directory.specs.Histories.{Mark, entry_of}
use Rattle.directory.specs.Shown.{Shown, shown_in, shown_entry, face_of, leads}
use Rattle.directory.specs.Applied.{changed_entry, deleted_entry, TakesOwn, TakesIn}
use Rattle.directory.proofs.TableLaws.{entry_of-valid}

-- ---- maps

module _ {K X : Type 0} {R : K → K → Ordering} (o : IsTotalOrder R) (same : IsAntisymmetric R) (V : X → Type 0) (f : X → X → X) where
  -- what a key of a tree has
  pub had_at : (m : FinMap R X) (es : List (K × X)) (k : K) (own : X) → from_entries es ≡ m → Some own ≡ lookup (is_at (R k)) es → get m k ≡ Some own
  had_at m es k own view had = ap (λ m. get m k) (sym view) ∙ get-view o es k ∙ sym had

  -- a value joined in in place, where the one that was there is valid
  pub changed_here : (m : FinMap R X) (es fs : List (K × X)) (k : K) (own x next : X) → from_entries es ≡ m → Some own ≡ lookup (is_at (R k)) es
      → (V own → next ≡ f own x)
      → ((q : K) → lookup (is_at (R q)) fs ≡ cond (is_at (R k) q) (Some next) (lookup (is_at (R q)) es)) → IfSome (get m k) V
      → RaisesAt f m (from_entries fs) k x
  changed_here m es fs k own x next view had joins puts valid =
      joined_here o same f m es fs k own x next view had (sym (joins (subst (λ y. IfSome y V) (had_at m es k own view had) valid))) puts

-- ---- entries

-- entries of one birth
pub tied_joins : (a b : EntryCell) → a.birth ≡ b.birth → join_entries a b ≡ join_tied a b
tied_joins a b e =
    let pick : Ordering → EntryCell = λ r. elim r [ Less ↦ b | Equal ↦ join_tied a b | Greater ↦ a ] in
    ap pick (ap (stamp_cmp a.birth) (sym e) ∙ tied_itself stamp_total a.birth)

-- an entry with a change of an attribute joined in
pub changed_joins : (own : EntryCell) (a : List ℕ) (ms : List AttrMark) (attrs : FinMap octets_cmp AttrCell)
    → RaisesAt join_cells own.attrs attrs a (cell_of ms) → record own { attrs = attrs } ≡ join_entries own (changed_entry own a ms)
changed_joins own a ms attrs raises =
    let cell : FinMap octets_cmp AttrCell = insert empty a (cell_of ms) in
    let joined : attrs ≡ join_maps join_cells own.attrs cell = same_map nat_list_cmp_total octets_exact attrs (join_maps join_cells own.attrs cell) (λ q.
    raises q
    ∙ ap (maybe join_cells (get own.attrs q)) (as_cond (is_octets q a) ∙ sym (get-insert nat_list_cmp_total empty a (cell_of ms) q ∙ ap (cond
    (is_octets q a) (Some (cell_of ms))) (get-empty octets_cmp q)))
    ∙ sym (get-join_maps nat_list_cmp_total octets_exact join_cells own.attrs cell q)) in
    let tied : record own { attrs = attrs }
    ≡ join_tied own (changed_entry own a ms) =
    λ i. record { birth = own.birth; kind = sym (kinds.idem own.kind) i; death = no_death own.death i; attrs = joined i } in
    tied ∙ sym (tied_joins own (changed_entry own a ms) refl)
  where
    as_cond : (b : Bool) → (if b then Some (cell_of ms) else None) ≡ cond b (Some (cell_of ms)) None
    as_cond true = refl
    as_cond false = refl

    no_death : (d : Option Stamp) → d ≡ maybe earlier_stamp d None
    no_death None = refl
    no_death (Some s) = refl

-- an entry with a death joined in
pub deleted_joins : (own : EntryCell) (s : Stamp) (death : Option Stamp) → death ≡ maybe earlier_stamp own.death (Some s)
    → record own { death = death } ≡ join_entries own (deleted_entry own s)
deleted_joins own s death is =
    let stays : own.attrs
    ≡ join_maps join_cells own.attrs empty = same_map nat_list_cmp_total octets_exact own.attrs (join_maps join_cells own.attrs empty) (λ q.
    sym (get-join_maps nat_list_cmp_total octets_exact join_cells own.attrs empty q ∙ ap (maybe join_cells
    (get own.attrs q)) (get-empty octets_cmp q) ∙ alone (get own.attrs q))) in
    let tied : record own { death = death }
    ≡ join_tied own (deleted_entry own s) = λ i. record { birth = own.birth; kind = sym (kinds.idem own.kind) i; death = is i; attrs = stays i } in
    tied ∙ sym (tied_joins own (deleted_entry own s) refl)
  where
    alone : (c : Option AttrCell) → maybe join_cells c None ≡ c
    alone None = refl
    alone (Some c) = refl

-- ---- tables

-- the entry that a name has, with what is joined in
pub takes_own : (old new : Entries) (n : List ℕ) (f : EntryCell → EntryCell) (own : EntryCell) → get old n ≡ Some own
    → (IfSome (get old n) IsValidEntry → RaisesAt join_entries old new n (f own)) → TakesOwn old new n f
takes_own old new n f own at joins valid = subst (λ x. IfSome x (λ e. RaisesAt join_entries old new n (f e))) (sym at) (joins valid)

-- a name with no entry takes nothing
pub takes_none : (old new : Entries) (n : List ℕ) (f : EntryCell → EntryCell) → get old n ≡ None → TakesOwn old new n f
takes_none old new n f at valid = subst (λ x. IfSome x (λ e. RaisesAt join_entries old new n (f e))) (sym at) tt

-- an update of an entry that shows adds the entry of its marks
pub takes_shown : (old new : Entries) (n : List ℕ) (f : EntryCell → EntryCell) (marks : Option Shown → List Mark)
    → ((e : EntryCell) → entry_of (marks (Some (face_of e))) n ≡ Some (f e))
    → IsSome (shown_in old n) → TakesOwn old new n f → TakesIn old new n (marks (shown_in old n))
takes_shown old new n f marks is live takes = by_entry (get old n) live takes
  where
    by_live : (own : EntryCell) (b : Bool) → IsSome (if b then Some (face_of own) else None) → (IsValidEntry own → RaisesAt join_entries old new n (f own))
        → IsSomeAnd (entry_of (marks (if b then Some (face_of own) else None)) n) (λ e. IsValidEntry own → RaisesAt join_entries old new n e)
    by_live own true live takes = subst (λ x. IsSomeAnd x (λ e. IsValidEntry own → RaisesAt join_entries old new n e)) (sym (is own)) takes
    by_live own false live takes = cc (live)

    by_entry : (x : Option EntryCell) → IsSome (option_and_then shown_entry x) → (IfSome x IsValidEntry → IfSome x (λ e. RaisesAt join_entries old new n (f e)))
        → IsSomeAnd (entry_of (marks (option_and_then shown_entry x)) n) (λ e. IfSome x IsValidEntry → RaisesAt join_entries old new n e)
    by_entry None live takes = cc (live)
    by_entry (Some own) live takes = by_live own (is_none own.death && leads own.kind (face_of own).values) live takes

-- the fragment of an update, joined in
pub takes_fragment : (old new : Entries) (n : List ℕ) (marks : List Mark) (g : Fragment) → g.name ≡ n → entry_of marks g.name ≡ Some g.entry
    → (IfSome (get old g.name) IsValidEntry → IsValidEntry g.entry → RaisesAt join_entries old new g.name g.entry) → TakesIn old new n marks
takes_fragment old new n marks g named made joins =
    let valid : IsValidEntry g.entry = subst (λ x. IfSome x IsValidEntry) made (entry_of-valid marks g.name) in
    subst (λ n. TakesIn old new n marks) named (subst (λ x. IsSomeAnd x (λ e. IfSome
    (get old g.name) IsValidEntry → RaisesAt join_entries old new g.name e)) (sym made) (λ own. joins own valid))

-- the fragment of an update, where its name has nothing
pub takes_new : (old new : Entries) (n : List ℕ) (marks : List Mark) (g : Fragment) → g.name ≡ n → entry_of marks g.name ≡ Some g.entry
    → get old g.name ≡ None → new ≡ insert old g.name g.entry → TakesIn old new n marks
takes_new old new n marks g named made absent put =
    takes_fragment old new n marks g named made (λ _ _.
    joined_new nat_list_cmp_total octets_exact join_entries old new g.name g.entry absent put)

-- what is not found is not there
pub found_none : (found : Option (Bor EntryCell)) (x : Option EntryCell) → is_some found ≡ false → option_copied found ≡ x → x ≡ None
found_none None x e is = sym is
found_none (Some own) x e is = cc e
