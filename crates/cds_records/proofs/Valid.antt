-- What is read of the layouts of replicas, messages and images is valid.
use Rattle.std.proofs.Common.{◌≡◌, ℕ, Bool, true, false, List, Option, None, Ok, subst}
use Rattle.std.specs.Prelude.{◌==◌}
use Rattle.std.specs.FinMap.{get}
use Rattle.std.specs.Cmp.Lexicographic.{nat_list_cmp_total}
use Rattle.cds_stamps.specs.declared.stamp.Stamp.{Stamp}
use Rattle.cds_stamps.specs.Octets.{octets_cmp}
use Rattle.cds_stamps.specs.Joins.{EachValue}
use Rattle.attr_sets.specs.declared.mark.ValueMark.{ValueMark}
use Rattle.attr_sets.specs.declared.cell.AttrCell.{AttrCell}
use Rattle.attr_sets.specs.CellPurges.{IsAboveCell}
use Rattle.directory.specs.declared.entry.EntryCell.{EntryCell}
use Rattle.directory.specs.Entries.{IsHeldCell, IsValidEntry, IsValidTable}
use Rattle.directory.specs.Purges.{IsAboveEntry}
use Rattle.purge_rule.specs.declared.delta.Delta.{Delta}
use Rattle.purge_rule.specs.declared.replica.Replica.{Replica}
use Rattle.purge_rule.specs.Replicas.{IsDelta}
use Rattle.directory.specs.declared.entry.Fragment.{Fragment}
use Rattle.cds_stamps.specs.declared.members.Member.{Member}
use Rattle.cds_messages.specs.declared.message.Message.{Message}
use Rattle.cds_messages.specs.declared.message.Body.{Body}
use Rattle.cds_messages.specs.declared.message.Body.TheVariants.{Update, Gather, Gathered, Spread, SpreadAck, Advance, Join, Leave}
use Rattle.cds_messages.specs.Validity.{IsValidBody, IsValidMessage, IsValidDir, IsValidImage}
use Rattle.cds_messages.specs.declared.image.ImageDir.{ImageDir}
use Rattle.cds_messages.specs.declared.image.ImageDir.TheVariants.{Gone}
use Rattle.cds_messages.specs.declared.image.Image.{Image}
use Rattle.cds_messages.specs.Dirs.{dir_cmp, dir_total}
use Rattle.cds_records.specs.Images.{dir_number, held_directory, dir_state, image_behind, image_in}
use Rattle.record_fields.specs.Layouts.{Layout, next, done, choose}
use Rattle.record_fields.specs.LayoutReading.{read}
use Rattle.record_fields.specs.Fields.{free, mark_rule, number, stamp, value, attr_name, simple_name}
use Rattle.record_fields.specs.ListLayouts.{map_of, mark, cell}
use Rattle.cds_records.specs.Records.{entry, replica, delta, fragment, stamped_delta, join_parts, body, message}
use Rattle.record_fields.proofs.LayoutLaws.{ok_is, bind_ok, stands_read, read_stands}
use Rattle.record_fields.proofs.Valid.{map_valid, mark_valid, stamp_above, kept_all, above_all, not_empty}

-- ---- cells, entries and tables

cell_valid : (above : Option Stamp) (x : List ℕ) (c : AttrCell) (y : List ℕ) → read (cell above) x ≡ Ok (c, y) → IsHeldCell c
unfolding cell number
cell_valid above x c y e =
    let h = read_stands (cell above) x c y e in
    let marks = stands_read (map_of {R = octets_cmp} value (mark above h.0) h.3.0) h.3.1 h.3.3.0 h.3.3.1 h.3.3.2 in
    let each : EachValue (λ (m : ValueMark). mark_rule above h.0 m.stamp ≡ None) h.3.3.0 =
    map_valid nat_list_cmp_total (λ m. mark_rule above h.0 m.stamp ≡ None) value (mark above h.0) (mark_valid above h.0) h.3.0 h.3.1 h.3.3.0 h.3.3.1 marks
    in
    subst IsHeldCell h.3.3.3.0 (λ v. kept_all above h.0 (get h.3.3.0 v) (each v), not_empty above h.0 h.3.0 h.3.1 h.3.3.0 h.3.3.1 h.3.2.4 marks)

-- an entry that is read from octets is valid
pub entry_valid : (above : Option Stamp) (x : List ℕ) (d : EntryCell) (y : List ℕ) → read (entry above) x ≡ Ok (d, y) → IsValidEntry d
unfolding entry
entry_valid above x d y e =
    let h = read_stands (entry above) x d y e in
    let attrs = h.3.3.3.3 in
    subst IsValidEntry attrs.3.0
    (map_valid nat_list_cmp_total IsHeldCell attr_name (cell above) (cell_valid above) h.3.3.3.0 h.3.3.3.1 attrs.0 attrs.1
    (stands_read (map_of {R = octets_cmp} attr_name (cell above) h.3.3.3.0) h.3.3.3.1 attrs.0 attrs.1 attrs.2))

pub replica_valid : (x : List ℕ) (r : Replica) (y : List ℕ) → read replica x ≡ Ok (r, y) → IsValidTable r.table
unfolding replica
replica_valid x r y e =
    let h = read_stands replica x r y e in
    let entries = h.3.3 in
    subst (λ (r : Replica). IsValidTable r.table) entries.3.0
    (map_valid nat_list_cmp_total IsValidEntry simple_name (entry None) (entry_valid None) h.3.0 h.3.1 entries.0 entries.1
    (stands_read (map_of {R = octets_cmp} simple_name (entry None) h.3.0) h.3.1 entries.0 entries.1 entries.2))

-- what is read above a stamp is above it
cell_above : (above : Option Stamp) (x : List ℕ) (c : AttrCell) (y : List ℕ) → read (cell above) x ≡ Ok (c, y) → IsAboveCell above c
unfolding cell
cell_above above x c y e =
    let h = read_stands (cell above) x c y e in
    let marks = stands_read (map_of {R = octets_cmp} value (mark above h.0) h.3.0) h.3.1 h.3.3.0 h.3.3.1 h.3.3.2 in
    let each : EachValue (λ (m : ValueMark). mark_rule above h.0 m.stamp ≡ None) h.3.3.0 =
    map_valid nat_list_cmp_total (λ m. mark_rule above h.0 m.stamp ≡ None) value (mark above h.0) (mark_valid above h.0) h.3.0 h.3.1 h.3.3.0 h.3.3.1 marks
    in
    subst (IsAboveCell above) h.3.3.3.0 (record {
      cleared = stamp_above above x h.0 h.1 h.2;
      values = λ v. above_all above h.0 (get h.3.3.0 v) (each v);
    })

entry_above : (above : Option Stamp) (x : List ℕ) (d : EntryCell) (y : List ℕ) → read (entry above) x ≡ Ok (d, y) → IsAboveEntry above d
unfolding entry
entry_above above x d y e =
    let h = read_stands (entry above) x d y e in
    let attrs = h.3.3.3.3 in
    subst (IsAboveEntry above) attrs.3.0 (record {
      death = stamp_above above h.3.1 h.3.3.0 h.3.3.1 h.3.3.2;
      attrs =
          map_valid nat_list_cmp_total (IsAboveCell above) attr_name (cell above) (cell_above above) h.3.3.3.0 h.3.3.3.1 attrs.0 attrs.1
          (stands_read (map_of {R = octets_cmp} attr_name (cell above) h.3.3.3.0) h.3.3.3.1 attrs.0 attrs.1 attrs.2);
    })

delta_valid : (x : List ℕ) (d : Delta) (y : List ℕ) → read delta x ≡ Ok (d, y) → IsDelta d
unfolding delta
delta_valid x d y e =
    let h = read_stands delta x d y e in
    let entries = h.3.3 in
    let table = stands_read (map_of {R = octets_cmp} simple_name (entry h.0) h.3.0) h.3.1 entries.0 entries.1 entries.2 in
    subst IsDelta entries.3.0 (record {
      valid = map_valid nat_list_cmp_total IsValidEntry simple_name (entry h.0) (entry_valid h.0) h.3.0 h.3.1 entries.0 entries.1 table;
      above = map_valid nat_list_cmp_total (IsAboveEntry h.0) simple_name (entry h.0) (entry_above h.0) h.3.0 h.3.1 entries.0 entries.1 table;
    })

-- ---- messages

fragment_valid : (x : List ℕ) (f : Fragment) (y : List ℕ) → read fragment x ≡ Ok (f, y) → IsValidBody (Update f)
unfolding fragment
fragment_valid x f y e =
    let h = read_stands fragment x f y e in
    subst (λ (f : Fragment). IsValidEntry f.entry) h.3.3.0 (entry_valid None h.1 h.3.0 h.3.1 (stands_read (entry None) h.1 h.3.0 h.3.1 h.3.2))

copied_valid : (x : List ℕ) (c : Stamp × Delta) (y : List ℕ) → read stamped_delta x ≡ Ok (c, y) → IsDelta c.1
unfolding stamped_delta
copied_valid x c y e =
    let h = read_stands stamped_delta x c y e in
    subst (λ (c : Stamp × Delta). IsDelta c.1) h.3.3.0 (delta_valid h.1 h.3.0 h.3.1 (stands_read delta h.1 h.3.0 h.3.1 h.3.2))

joined_valid : (x : List ℕ) (c : List Member × Replica) (y : List ℕ) → read join_parts x ≡ Ok (c, y) → IsValidTable c.1.table
unfolding join_parts
joined_valid x c y e =
    let h = read_stands join_parts x c y e in
    subst (λ (c : List Member × Replica). IsValidTable c.1.table) h.3.3.0 (replica_valid h.1 h.3.0 h.3.1 (stands_read replica h.1 h.3.0 h.3.1 h.3.2))

-- each body that the layout reads is valid
abbrev GivesValid : Layout Body → Type 0
GivesValid l = (x : List ℕ) (b : Body) (y : List ℕ) → read l x ≡ Ok (b, y) → IsValidBody b

made : {B : Type 0} (l : Layout B) (f : B → Body) → ((x : List ℕ) (b : B) (y : List ℕ) → read l x ≡ Ok (b, y) → IsValidBody (f b))
    → GivesValid (next l (λ b. done (f b)))
made l f each x v y e =
    let a = bind_ok (read l x) (λ w. Ok (f w.0, w.1)) (v, y) e in
    subst (λ (p : Body × List ℕ). IsValidBody p.0) (ok_is (f a.0.0, a.0.1) (v, y) a.2) (each x a.0.0 a.0.1 a.1)

pick : (t : Bool) (a b : Layout Body) → GivesValid a → GivesValid b → GivesValid (choose t a b)
pick true a b p q = p
pick false a b p q = q

body_valid : (tag : ℕ) → GivesValid (body tag)
unfolding body
body_valid tag =
    pick (tag == 1) _ _ (made fragment (λ f. Update f) fragment_valid)
    (pick (tag == 2) _ _ (made (stamp free) (λ t. Gather t) (λ x b y e. tt))
    (pick (tag == 3) _ _ (made stamped_delta (λ c. Gathered c.0 c.1) copied_valid)
    (pick (tag == 4) _ _ (made stamped_delta (λ c. Spread c.0 c.1) copied_valid)
    (pick (tag == 5) _ _ (made (stamp free) (λ t. SpreadAck t) (λ x b y e. tt))
    (pick (tag == 6) _ _ (made (stamp free) (λ t. Advance t) (λ x b y e. tt))
    (pick (tag == 7) _ (done Leave) (made join_parts (λ j. Join j.0 j.1) joined_valid)
    (λ x b y e. subst (λ (p : Body × List ℕ). IsValidBody p.0) (ok_is (Leave, x) (b, y) e) tt)))))))

-- a message that was read is valid
pub message_valid : (x : List ℕ) (m : Message) (y : List ℕ) → read message x ≡ Ok (m, y) → IsValidMessage m
unfolding message
message_valid x m y e =
    let h = read_stands message x m y e in
    let tag = h.3 in
    let b = h.3.3.3.3.3.3 in
    subst IsValidMessage b.3.0 (body_valid tag.0 h.3.3.3.3.3.1 b.0 b.1 (stands_read (body tag.0) h.3.3.3.3.3.1 b.0 b.1 b.2))

-- ---- images

held_is_valid : (format epoch : ℕ) (x : List ℕ) (d : ImageDir) (y : List ℕ) → read (held_directory format epoch) x ≡ Ok (d, y) → IsValidDir d
unfolding held_directory
held_is_valid format epoch x d y e =
    let h = read_stands (held_directory format epoch) x d y e in
    subst IsValidDir h.3.3.3.0 (replica_valid h.1 h.3.0 h.3.1 (stands_read replica h.1 h.3.0 h.3.1 h.3.2))

dir_valid : (format : ℕ) (x : List ℕ) (d : ImageDir) (y : List ℕ) → read (dir_state format) x ≡ Ok (d, y) → IsValidDir d
unfolding dir_state
dir_valid format x d y e =
    let h = read_stands (dir_state format) x d y e in
    at (h.0 == 1) h.3.0 h.3.1 d y (stands_read (choose (h.0 == 1) (held_directory format h.3.0) (done (Gone (record { 0 = h.3.0 })))) h.3.1 d y h.3.3)
  where
    at : (t : Bool) (epoch : ℕ) (x : List ℕ) (d : ImageDir) (y : List ℕ) → read (choose t (held_directory format epoch) (done (Gone (record { 0 = epoch })))) x ≡ Ok (d, y)
        → IsValidDir d
    at true epoch x d y e = held_is_valid format epoch x d y e
    at false epoch x d y e = subst (λ (p : ImageDir × List ℕ). IsValidDir p.0) (ok_is (Gone (record { 0 = epoch }), x) (d, y) e) tt

-- an image that was read is valid
pub image_valid : (least most : ℕ) (x : List ℕ) (i : Image) (y : List ℕ) → read (image_in least most) x ≡ Ok (i, y) → IsValidImage i
unfolding image_in image_behind
image_valid least most x i y e =
    let h = read_stands (image_in least most) x i y e in
    let count = h.3.3.3.3.3 in
    let dirs = count.3 in
    subst IsValidImage dirs.3.0
    (map_valid dir_total IsValidDir dir_number (dir_state h.0) (dir_valid h.0) count.0 count.1 dirs.0 dirs.1
    (stands_read (map_of {R = dir_cmp} dir_number (dir_state h.0) count.0) count.1 dirs.0 dirs.1 dirs.2))
