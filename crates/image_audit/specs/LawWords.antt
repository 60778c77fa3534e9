-- Words of the laws: what a table says instead of a fact (own, after C705, skulks and AllUpTo).
use Rattle.std.specs.Prelude.{◌≡◌, ◌⊎◌, ℕ, true, false, List, Option, Some}
use Rattle.std.specs.List.{Contains}
use Rattle.std.specs.FinMap.{get}
use Rattle.std.specs.declared.cmp.Ordering.{Ordering}
use Rattle.std.specs.Ordering.{nat_cmp, ordering_then, is_lt}
use Rattle.cds_stamps.specs.declared.stamp.Stamp.{Stamp}
use Rattle.cds_stamps.specs.declared.numbers.DirId.{DirId}
use Rattle.cds_stamps.specs.Stamps.{is_earlier}
use Rattle.attr_sets.specs.declared.mark.ValueMark.{ValueMark}
use Rattle.attr_sets.specs.declared.cell.AttrCell.{AttrCell}
use Rattle.directory.specs.declared.entry.EntryCell.{EntryCell}
use Rattle.directory.specs.Entries.{Entries}
use Rattle.directory.specs.Histories.{Mark}
use Rattle.purge_rule.specs.declared.replica.Replica.{Replica}
use Rattle.purge_rule.specs.Replicas.{replica_of}
use Rattle.cds_messages.specs.declared.image.Image.{Image}
use Rattle.image_audit.specs.declared.fact.Fact.{Fact}
use Rattle.image_audit.specs.declared.fact.Fact.TheVariants.{Birth, Value}
use Rattle.image_audit.specs.Facts.{facts, is_open, fact_cmp}
use Rattle.image_audit.specs.Verdicts.{smaller, is_up_to_same, replica_in}

-- an image has of a directory the replica of a history up to an AllUpTo (own)
abbrev pub HasReplica : Image → DirId → List Mark → Option Stamp → Type 0
HasReplica image dir h t = replica_in image dir ≡ Some (replica_of h t)

-- the entry of a name was born at s, later than c (own)
pub record LaterBirth (table : Entries) (name : List ℕ) (c s : Stamp) : Type 0 where
  pub entry : EntryCell
  pub has : get table name ≡ Some entry
  pub birth : entry.birth ≡ s
  pub later : is_earlier c s ≡ true

-- the entry of a name was born at c, and has this cell of an attribute (own)
pub record HasCell (table : Entries) (name : List ℕ) (c : Stamp) (attr : List ℕ) (cell : AttrCell) : Type 0 where
  pub entry : EntryCell
  pub has : get table name ≡ Some entry
  pub birth : entry.birth ≡ c
  pub has_cell : get entry.attrs attr ≡ Some cell

-- the attribute was cleared at s, later than r (own)
pub record LaterClear (table : Entries) (name : List ℕ) (c : Stamp) (attr : List ℕ) (r s : Stamp) : Type 0 where
  pub cell : AttrCell
  pub of : HasCell table name c attr cell
  pub clear : cell.cleared ≡ Some s
  pub later : is_earlier r s ≡ true

-- the value has a mark of stamp s, later than r, in such a cell (own)
pub record LaterMark (IsCell : AttrCell → Type 0) (value : List ℕ) (r s : Stamp) : Type 0 where
  pub cell : AttrCell
  pub of : IsCell cell
  pub mark : ValueMark
  pub marked : get cell.values value ≡ Some mark
  pub stamp : mark.stamp ≡ s
  pub later : is_earlier r s ≡ true

-- what is in a table in place of a fact, and its stamp: a later birth, or of a value a later clear
-- or a later mark (own)
abbrev pub Outdoes : Entries → Fact → Stamp → Type 0
Outdoes table (Birth n k c) s = LaterBirth table n c s
Outdoes table (Value n c a v r) s =
    LaterBirth table n c s ⊎ (LaterClear table n c a r s ⊎ LaterMark (HasCell table n c a) v r s)

-- a table has a fact up to t of another, or something in its place, and all that is in its place is
-- later than t (own)
pub record HoldsUpTo (t : Stamp) (table : Entries) (f : Fact) : Type 0 where
  pub held : Contains (facts (Some t) table) f ⊎ ((s : Stamp) × Outdoes table f s)
  pub later : (s : Stamp) → Outdoes table f s → is_earlier t s ≡ true

-- a fact of a replica up to t is open: the other is asked, and does not answer (own)
pub record IsOpenFact (t : Option Stamp) (own other : Replica) (f : Fact) : Type 0 where
  pub among : Contains (facts t own.table) f
  pub asked : is_up_to_same t other.all_up_to ≡ true
  pub silent : is_open other.table f ≡ true

-- of two replicas the first, or the second, has this open fact up to the smaller AllUpTo (own)
abbrev pub OpenIn : (one two : Replica) → (image : ℕ) → Fact → Type 0
OpenIn one two image f =
    let t = smaller one.all_up_to two.all_up_to in
    ((image ≡ 1) × IsOpenFact t one two f) ⊎ ((image ≡ 2) × IsOpenFact t two one f)

-- facts in their order, and of one place that of the first image before that of the second (own)
abbrev pub told_cmp : ℕ × Fact → ℕ × Fact → Ordering
told_cmp f g = ordering_then (fact_cmp f.1 g.1) (nat_cmp f.0 g.0)

-- this fact of this image is open, and no open fact comes before it (own)
pub record IsFirstOpen (one two : Replica) (image : ℕ) (f : Fact) : Type 0 where
  pub open_there : OpenIn one two image f
  pub first : (other : ℕ) (g : Fact) → OpenIn one two other g → is_lt (told_cmp (other, g) (image, f)) ≡ false
