-- The cells that a reader of a cell lends of an object.
use Rattle.std.proofs.Common.{◌≡◌, ◌∙◌, ℕ, Bool, true, false, List, ◌&&◌, refl, sym, ap}
use Rattle.std.specs.Prelude.{Option, Some, None, IfSome, is_none, if◌then◌else◌}
use Rattle.std.specs.FinMap.{FinMap}
use Rattle.std.specs.Option.{option_and_then}
use Rattle.cds_stamps.specs.Octets.{octets_cmp}
use Rattle.attr_sets.specs.declared.cell.AttrCell.{AttrCell}
use Rattle.cell_names.specs.ChildPointers.{Pointer}
use Rattle.directory.specs.declared.entry.EntryCell.{EntryCell}
use Rattle.directory.specs.Shown.{shown_entry, entry_values, face_of, leads}
use Rattle.resolver.specs.Readers.{Object, AreCellsOf, object_found, values_by}
use Rattle.cds_cell.specs.Asking.{Asked, Views, house_to_ask}
use Rattle.cds_cell.specs.AskingProofs.{asked_shows, shown_object}
use Rattle.cds_cell.specs.PrivateTelling.{ShowsValues}
use Rattle.cds_cell.specs.Readings.{reader_of, shown_sight, sight_at, values_at, values_of}

-- the cells of an entry show what the entry shows, if it is an object that shows
pub entry_shows : (o : Option EntryCell) (e : EntryCell) → Some e ≡ o → (house : ℕ)
    → ShowsValues house (option_and_then shown_entry o) (values_by e.attrs)
entry_shows None e is house = absurd cc
entry_shows (Some f) e is house = λ x sees attr.
    ap (λ (g : EntryCell). values_by g.attrs attr) (same is) ∙ by_test (is_none f.death && leads f.kind (entry_values f)) x sees attr
  where
    same : Some e ≡ Some f → e ≡ f
    same is = cc

    by_test : (b : Bool) (x : ℕ) → shown_sight house (if b then Some (face_of f) else None) ≡ Object x → (attr : List ℕ)
        → values_by f.attrs attr ≡ values_of attr (if b then Some (face_of f) else None)
    by_test true x sees attr = refl
    by_test false x sees attr = absurd cc

module _ (views : Views) (d : ℕ) (prefer : Option ℕ) (high : Bool) (houses : List ℕ) (a : Asked) (is : Some a ≡ house_to_ask views d prefer high houses)
    (name : List ℕ) where
  -- what the house that is asked shows of an object is what the cell shows of it
  values_there : (x : ℕ) → shown_sight a.house (a.view.shows name) ≡ Object x → (attr : List ℕ)
      → values_of attr (a.view.shows name) ≡ values_at (object_found d x name) attr (views d x)
  values_there x here attr =
      sym (ap (values_at (object_found d x name) attr)
      (ap (views d) (sym (shown_object a.house x (a.view.shows name) here).0) ∙ asked_shows views d prefer high houses a (sym is)))

  -- so cells by which that house shows the object are the object's
  pub lent_there : (root : Option Pointer) (o : Option (FinMap octets_cmp AttrCell))
      → IfSome o (λ cells. ShowsValues a.house (a.view.shows name) (values_by cells))
      → IfSome o (λ cells. (x : ℕ) → sight_at name (house_to_ask views d prefer high houses) ≡ Object x
      → AreCellsOf (reader_of root views prefer high) (object_found d x name) cells)
  lent_there root None h = tt
  lent_there root (Some cells) h = λ x sees attr.
      let here : shown_sight a.house (a.view.shows name) ≡ Object x = ap (sight_at name) is ∙ sees in
      h x here attr ∙ values_there x here attr
