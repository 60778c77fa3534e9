-- What is seen of an entry of a table by where it leads.
use Rattle.std.proofs.Common.{◌≡◌, ◌∙◌, ℕ, Bool, true, false, ◌==◌, List, [], ◌∷◌, length, refl, sym, ap}
use Rattle.std.specs.Prelude.{◌&&◌, Option, Some, None, IfSome, is_none, is_some, if◌then◌else◌}
use Rattle.cds_stamps.specs.declared.stamp.Stamp.{Stamp}
use Rattle.directory.specs.declared.entry.Kind.{Kind}
use Rattle.directory.specs.declared.entry.Kind.TheVariants as kind
use Rattle.directory.specs.declared.entry.EntryCell.{EntryCell}
use Rattle.directory.specs.Kinds.{link_target, replicas}
use Rattle.directory.specs.Shown.{Shown, entry_values, face_of, is_readable, lead_of, leads, only_one, pointers, shown_entry, targets}
use Rattle.directory.proofs.Leads.{lead_reads}
use Rattle.cds_cell.specs.Readings.{led_sight, shown_sight}

not_one : (vs : List (List ℕ)) → (length vs == 1) ≡ false → only_one vs ≡ None
not_one [] other = refl
not_one (v ∷ []) other = absurd cc
not_one (v ∷ w ∷ vs) other = refl

abbrev face_by : Stamp → (List ℕ → List (List ℕ)) → Kind → Shown
face_by b values k = record { birth = b; kind = k; values = values }

-- what leads to not exactly one thing is not seen, as what does not show
module _ (house : ℕ) (b : Stamp) (values : List ℕ → List (List ℕ)) where
  kind_seen : (k : Kind) → led_sight k house (lead_of (face_by b values k))
      ≡ shown_sight house (if leads k values then Some (face_by b values k) else None)
  kind_seen kind.Object = refl
  kind_seen kind.Link = by_test (length (targets (values link_target)) == 1) refl
    where
      by_test : (t : Bool) → (length (targets (values link_target)) == 1) ≡ t
          → led_sight kind.Link house (only_one (targets (values link_target)))
          ≡ shown_sight house (if t then Some (face_by b values kind.Link) else None)
      by_test true is = refl
      by_test false is = ap (led_sight kind.Link house) (not_one (targets (values link_target)) is)
  kind_seen kind.Child = by_test (length (pointers (values replicas)) == 1) refl
    where
      by_test : (t : Bool) → (length (pointers (values replicas)) == 1) ≡ t
          → led_sight kind.Child house (only_one (pointers (values replicas)))
          ≡ shown_sight house (if t then Some (face_by b values kind.Child) else None)
      by_test true is = refl
      by_test false is = ap (led_sight kind.Child house) (not_one (pointers (values replicas)) is)

module _ (e : EntryCell) (house : ℕ) where
  -- of an entry that is not dead is seen where it leads
  pub alive_seen : is_some e.death ≡ false → led_sight e.kind house (lead_of (face_of e)) ≡ shown_sight house (shown_entry e)
  alive_seen is =
      kind_seen house e.birth (entry_values e) e.kind
      ∙ ap (λ alive. shown_sight house (if alive && leads e.kind (entry_values e) then Some (face_of e) else None)) (sym (alive e.death is))
    where
      alive : (o : Option Stamp) → is_some o ≡ false → is_none o ≡ true
      alive None none = refl
      alive (Some s) none = absurd cc

-- where an entry leads reads as what its kind needs
pub lead_readable : (e : Shown) (lead : Option (List ℕ)) → lead ≡ lead_of e → IfSome lead (λ v. is_readable e.kind v ≡ true)
lead_readable e None is = tt
lead_readable e (Some v) is = lead_reads e v (sym is)

-- what has no fault
pub no_fault : {A : Type 0} (fault : Option A) → is_none fault ≡ true → fault ≡ None
no_fault None none = refl
no_fault (Some fault) none = absurd cc
