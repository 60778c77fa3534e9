-- Numbers that fit their fields, and names and values that keep their rules. A program has no
-- others, by its types; a law has to say so.
use Rattle.std.specs.Prelude.{◌≡◌, ◌^◌, ◌<◌, List, None, IfSome}
use Rattle.std.specs.List.{AllByRecursion}
use Rattle.std.specs.FinMap.{FinMap, entries, len}
use Rattle.std.specs.declared.cmp.Ordering.{Ordering}
use Rattle.cds_stamps.specs.declared.stamp.Stamp.{Stamp}
use Rattle.attr_sets.specs.declared.cell.AttrCell.{AttrCell}
use Rattle.attr_sets.specs.Values.{value_fault}

-- a time of 64 bits, and a node of 48
pub record FitsStamp (s : Stamp) : Type 0 where
  pub time : s.time < 2 ^ 64
  pub node : s.node < 2 ^ 48

-- each key and what is said of it fit
abbrev pub ItemsFit : {K X : Type 0} → (K → Type 0) → (X → Type 0) → List (K × X) → Type 0
ItemsFit key content es = AllByRecursion (λ e. key e.0 × content e.1) es

-- so many entries as 64 bits count, of which each fits
pub record FitsMap {K X : Type 0} {R : K → K → Ordering} (key : K → Type 0) (content : X → Type 0) (m : FinMap R X) : Type 0 where
  pub count : len m < 2 ^ 64
  pub each : ItemsFit key content (entries m)

-- the clear and the marks of an attribute
pub record FitsCell (c : AttrCell) : Type 0 where
  pub cleared : IfSome c.cleared FitsStamp
  pub values : FitsMap (λ v. value_fault v ≡ None) (λ m. FitsStamp m.stamp) c.values
