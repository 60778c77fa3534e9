-- Replicas of histories, merged.
use Rattle.std.proofs.Common.{◌≡◌, ℕ, Bool, true, false, List, ◌++◌, Option, Some, None, sym, ap, subst, ◌∙◌}
use Rattle.std.specs.Prelude.{IfSome, if◌then◌else◌}
use Rattle.std.specs.FinMap.{get, same_map}
use Rattle.std.specs.Cmp.Lexicographic.{nat_list_cmp_total}
use Rattle.cds_stamps.specs.declared.stamp.Stamp.{Stamp}
use Rattle.cds_stamps.specs.Octets.{octets_exact, is_octets}
use Rattle.directory.specs.declared.entry.EntryCell.{EntryCell}
use Rattle.directory.specs.declared.entry.Fragment.{Fragment}
use Rattle.directory.specs.Entries.{Entries, IsValidEntry, IsValidTable}
use Rattle.directory.specs.Histories.{Mark, entry_of, CanMerge, SameMarks}
use Rattle.directory.specs.Purges.{purged_table, purged_entries, delta_table}
use Rattle.directory.proofs.DeltaLaws.{delta_table-valid, delta_table-above}
use Rattle.directory.proofs.MemberLaws.{table_of-same}
use Rattle.directory.proofs.PurgeLaws.{purged-valid}
use Rattle.directory.proofs.TableLaws.{entry_of-valid}
use Rattle.purge_rule.specs.declared.delta.Delta.{Delta}
use Rattle.purge_rule.specs.declared.replica.Replica.{Replica}
use Rattle.purge_rule.specs.Latest.{EntryUpTo, TableUpTo, ReplicaUpTo, DeltaUpTo}
use Rattle.purge_rule.specs.Replicas.{replica_of, delta_in, delta_of, IsDelta, together, merged_table, merged_entry, IsFragmentOf}
use Rattle.purge_rule.proofs.MergeLaws.{merged_purged, merged_delta, merged_name, fragment_at, merged_entry-valid, merged_entry-up_to, delta_table-up_to}

-- a replica is its table and its AllUpTo
pub same_replica : (t u : Entries) (a b : Option Stamp) → t ≡ u → a ≡ b
    → ◌≡◌ {A = Replica} (record { table = t; all_up_to = a }) (record { table = u; all_up_to = b })
same_replica t u a b p q = λ i. record { table = p i; all_up_to = q i }

-- neither the order nor repeats of marks count
pub purged-same : (g h : List Mark) (t : Option Stamp) → SameMarks g h → purged_entries g t ≡ purged_entries h t
purged-same g h None same = table_of-same g h same
purged-same g h (Some t) same = ap (purged_table t) (table_of-same g h same)

-- a merge of two valid tables is that of what they are
merged_as : (t : Option Stamp) (own other new x y : Entries) → own ≡ x → other ≡ y → IsValidTable x → IsValidTable y
    → (IsValidTable own → IsValidTable other → new ≡ merged_table t own other) → new ≡ merged_table t x y
merged_as t own other new x y one two valid valid_too merges =
    merges (subst IsValidTable (sym one) valid) (subst IsValidTable (sym two) valid_too)
    ∙ ap (λ u. merged_table t u other) one ∙ ap (merged_table t x) two

-- the tables of two histories, merged
pub merged_tables : (h g : List Mark) (t : Option Stamp) (old other : Replica) (a b : Option Stamp) (new : Entries)
    → together a b ≡ t → CanMerge h g t → old ≡ replica_of h a → other ≡ replica_of g b
    → (IsValidTable old.table → IsValidTable other.table → new ≡ merged_table t old.table other.table) → new ≡ purged_entries (h ++ g) t
merged_tables h g t old other a b new later can mine theirs merges =
    merged_as t old.table other.table new (purged_entries h a) (purged_entries g b) (ap (λ (r : Replica). r.table) mine)
    (ap (λ (r : Replica). r.table) theirs) (purged-valid h a) (purged-valid g b) merges
    ∙ merged_purged h g a b t later can

-- the table of a history and the delta of another, merged
pub merged_deltas : (h g : List Mark) (t : Option Stamp) (old : Replica) (other : Delta) (a b : Option Stamp) (new : Entries)
    → together a b ≡ t → CanMerge h g t → old ≡ replica_of h a → other ≡ delta_of g b
    → (IsValidTable old.table → IsValidTable other.table → new ≡ merged_table t old.table other.table) → new ≡ purged_entries (h ++ g) t
merged_deltas h g t old other a b new later can mine theirs merges =
    merged_as t old.table other.table new (purged_entries h a) (delta_table b (purged_entries g b)) (ap (λ (r : Replica). r.table) mine)
    (ap (λ (d : Delta). d.table) theirs) (purged-valid h a) (delta_table-valid b (purged_entries g b) (purged-valid g b)) merges
    ∙ merged_delta h g a b t later can

-- the delta of a replica with a valid table
pub delta_in-valid : (r : Replica) → IsValidTable r.table → IsDelta (delta_in r)
delta_in-valid r valid =
    record { valid = delta_table-valid r.all_up_to r.table valid; above = delta_table-above r.all_up_to r.table }

-- that of a history
pub delta_of-valid : (h : List Mark) (t : Option Stamp) → IsDelta (delta_of h t)
delta_of-valid h t = delta_in-valid (replica_of h t) (purged-valid h t)

-- it has no later time than its replica
pub delta_in-up_to : (n : ℕ) (r : Replica) → ReplicaUpTo n r → DeltaUpTo n (delta_in r)
delta_in-up_to n r p = record { table = delta_table-up_to n r.all_up_to r.table p.table; above = p.all_up_to }

-- the entry of marks of one name, merged into the table of a history
pub merged_marks : (h marks : List Mark) (t : Option Stamp) (old : Replica) (f : Fragment) (new : Entries) → CanMerge h marks t
    → IsFragmentOf marks f → old ≡ replica_of h t
    → (IfSome (get old.table f.name) IsValidEntry → IsValidEntry f.entry
    → (q : List ℕ) → get new q ≡ merged_entry t (get old.table q) (if is_octets q f.name then Some f.entry else None))
    → new ≡ purged_entries (h ++ marks) t
merged_marks h marks t old f new can fragment mine merges =
    let own : old.table ≡ purged_entries h t = ap (λ (r : Replica). r.table) mine in
    let entry : IsValidEntry f.entry = subst (λ x. IfSome x IsValidEntry) fragment.entry (entry_of-valid marks f.name) in
    same_map nat_list_cmp_total octets_exact new (purged_entries (h ++ marks) t) (λ q.
    merges (subst IsValidTable (sym own) (purged-valid h t) f.name) entry q
    ∙ ap (merged_entry t (get old.table q)) (fragment_at marks f fragment q)
    ∙ ap (λ m. merged_entry t (get m q) (entry_of marks q)) own ∙ merged_name h marks t can q)

if_holds : (P : EntryCell → Type 0) (e : EntryCell) (b : Bool) → P e → IfSome (if b then Some e else None) P
if_holds P e true p = p
if_holds P e false p = tt

-- a valid table into which a valid entry was merged
pub raised_table-valid : (t : Option Stamp) (old new : Entries) (f : Fragment) → IsValidTable old → IsValidEntry f.entry
    → ((q : List ℕ) → get new q ≡ merged_entry t (get old q) (if is_octets q f.name then Some f.entry else None)) → IsValidTable new
raised_table-valid t old new f valid entry merges q =
    subst (λ x. IfSome x IsValidEntry) (sym (merges q))
    (merged_entry-valid t (get old q) _ (valid q) (if_holds IsValidEntry f.entry (is_octets q f.name) entry))

-- with no later time
pub raised_table-up_to : (n : ℕ) (t : Option Stamp) (old new : Entries) (f : Fragment) → TableUpTo n old → EntryUpTo n f.entry
    → ((q : List ℕ) → get new q ≡ merged_entry t (get old q) (if is_octets q f.name then Some f.entry else None)) → TableUpTo n new
raised_table-up_to n t old new f p entry merges q =
    subst (λ x. IfSome x (EntryUpTo n)) (sym (merges q))
    (merged_entry-up_to n t (get old q) _ (p q) (if_holds (EntryUpTo n) f.entry (is_octets q f.name) entry))
