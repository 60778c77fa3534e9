-- Words of private contracts: joins of entries, in place.
use Rattle.std.specs.Prelude.{◌≡◌, ◌≢◌, true, Result, IsOk, OnOk, OnErr}
use Rattle.cds_stamps.specs.Semilattice.{maybe, greater}
use Rattle.cds_stamps.specs.Stamps.{earlier_stamp, is_earlier}
use Rattle.directory.specs.declared.entry.EntryCell.{EntryCell}
use Rattle.directory.specs.Entries.{join_tied, join_entries, IsValidEntry}
use Rattle.directory.specs.Kinds.{kind_cmp}

-- an entry of the same birth is joined in; or there is no memory, and the entry is as it was
pub record JoinsTied {A E : Type 0} (old new other : EntryCell) (r : Result A E) : Type 0 where
  pub ok : OnOk r (IsValidEntry old → IsValidEntry other → new ≡ join_tied old other)
  pub birth : OnOk r (new.birth ≡ old.birth)
  pub kind : OnOk r (new.kind ≡ greater kind_cmp old.kind other.kind)
  pub death : OnOk r (new.death ≡ maybe earlier_stamp old.death other.death)
  pub err : OnErr r (new ≡ old)

-- another entry is joined in, where both are valid, and in any case its birth, its kind and its
-- death; or there is no memory, and the entry is as it was
pub record JoinsWith {A E : Type 0} (old new other : EntryCell) (r : Result A E) : Type 0 where
  pub ok : OnOk r (IsValidEntry old → IsValidEntry other → new ≡ join_entries old other)
  pub birth : OnOk r (new.birth ≡ (join_entries old other).birth)
  pub kind : OnOk r (new.kind ≡ (join_entries old other).kind)
  pub death : OnOk r (new.death ≡ (join_entries old other).death)
  pub whole : OnOk r (old.birth ≢ other.birth → new ≡ join_entries old other)
  pub stays : is_earlier other.birth old.birth ≡ true → IsOk r
  pub err : OnErr r (new ≡ old)
