-- The octets of images are the whole of them.
use Rattle.std.proofs.Common.{◌≡◌, ℕ, ◌^◌, ◌<◌, List, [], ◌∷◌, ◌++◌, Option, None, refl, ap, append_assoc, arith, T, Some}
use Rattle.std.specs.Prelude.{◌==◌, min, if◌then◌else◌}
use Rattle.std.specs.FinMap.{len}
use Rattle.cds_stamps.specs.declared.numbers.DirId.{DirId}
use Rattle.cds_stamps.proofs.Masks.{same_place}
use Rattle.directory.specs.Held.{held_in, most_held}
use Rattle.purge_rule.specs.declared.replica.Replica.{Replica}
use Rattle.record_fields.specs.declared.fault.Rule.TheVariants.{BadTag, BadFlag, BadHeld}
use Rattle.cds_messages.specs.declared.image.Image.{Image}
use Rattle.cds_messages.specs.declared.image.ImageDir.{ImageDir}
use Rattle.cds_messages.specs.declared.image.ImageDir.TheVariants.{Held, Gone}
use Rattle.record_fields.specs.Layouts.{done, next, choose}
use Rattle.record_fields.specs.Decoding.{IsWhole}
use Rattle.record_fields.specs.Fields.{free, outside, number, node_octets, number_order}
use Rattle.cds_records.specs.Images.{dir_number, held_rule, held_count, held_directory, dir_state, image_behind, image_in, image}
use Rattle.std.specs.Int.{w64, to_be_bytes}
use Rattle.cds_records.specs.RecordOctets.{members_octets, replica_octets, dir_octets, kept_octets, image_head, image_octets}
use Rattle.record_fields.specs.FieldOctets.{each_octets}
use Rattle.cds_records.specs.RecordRanges.{FitsDir, FitsImage}
use Rattle.cds_messages.specs.Validity.{IsValidDir, IsValidImage}
use Rattle.record_fields.proofs.WholeFields.{Whole, Keyed, whole_next, whole_last, whole_as, octet_whole, u32_whole, u64_whole, node_whole}
use Rattle.record_fields.proofs.WholeFields.{map_whole, KeyOrder}
use Rattle.cds_records.proofs.WholeReplicas.{replica_whole}
use Rattle.cds_records.proofs.WholeMessages.{members_whole}
use Rattle.std.specs.Ordering.{is_lt, nat_cmp}
use Rattle.std.specs.Option.{option_map}
use Rattle.record_fields.specs.declared.fault.Rule.{Rule}
use Rattle.cds_messages.specs.Dirs.{dir_cmp, dir_total, dir_exact}

-- ---- directories as keys

-- the rule of directories, by their numbers
abbrev dir_order : Option DirId → DirId → Option Rule
dir_order before d = number_order (option_map (λ d. d.0) before) d.0

-- a number above the one before it breaks no rule
dir_above : (b k : ℕ) → T (is_lt (nat_cmp b k)) → number_order (Some b) k ≡ None
dir_above b k p = grind (arith, p)

-- directories as keys: the number of each is to be above that of the one before it
abbrev dir_keys : KeyOrder DirId
dir_keys = record {
  cmp = dir_cmp;
  rule = dir_order;
  total = dir_total;
  exact = dir_exact;
  first = λ k. refl;
  above = λ b k p. dir_above b.0 k.0 p;
}

-- ---- images

number_whole : (before : Option DirId) (d : DirId) → d.0 < 2 ^ 32 → dir_order before d ≡ None → Whole (dir_number before) d (dir_octets d)
unfolding dir_number dir_octets
number_whole before d fits above =
    whole_last {f = λ n. record { 0 = n }} (u32_whole (λ n. dir_order before (record { 0 = n })) d.0 fits above) refl

five : (a b c d e : List ℕ) → a ++ (b ++ (c ++ (d ++ e))) ≡ a ++ b ++ c ++ d ++ e
five a b c d e = simp append_assoc refl

-- how much a replica holds
count_whole : (r : Replica) → Whole (held_count 2 r) tt (to_be_bytes w64 (min (held_in r.table) most_held))
unfolding held_count
count_whole r =
    let n = min (held_in r.table) most_held in
    whole_last {f = λ _. tt} (u64_whole (held_rule r) n (omega arith) (ap (λ b. if b then None else Some BadHeld) (same_place n n refl))) refl

kept_whole : (d : ImageDir) → IsValidDir d → FitsDir d → Whole (dir_state 2) d (kept_octets d)
unfolding dir_state held_directory kept_octets
kept_whole (Held e ms r) valid fits =
    whole_as
    (whole_next {second = λ state. next (number w64 free) (λ epoch. choose (state == 1) (held_directory 2 epoch) (done (Gone (record { 0 = epoch }))))}
    (octet_whole (outside BadFlag 1 2) 1 refl)
    (whole_next {second = held_directory 2} (u64_whole free e.0 fits.0 refl)
    (whole_next (members_whole ms fits.1)
    (whole_next (replica_whole r valid fits.2) (whole_last {f = λ _. Held e ms r} (count_whole r) refl)))))
    (five (1 ∷ []) (to_be_bytes w64 e.0) (members_octets ms) (replica_octets r) (to_be_bytes w64 (min (held_in r.table) most_held)))
kept_whole (Gone e) valid fits =
    whole_next {second = λ state. next (number w64 free) (λ epoch. choose (state == 1) (held_directory 2 epoch) (done (Gone (record { 0 = epoch }))))}
    (octet_whole (outside BadFlag 1 2) 2 refl) (whole_last {f = λ epoch. Gone (record { 0 = epoch })} (u64_whole free e.0 fits refl) refl)

dirs : Keyed dir_keys IsValidDir dir_number (dir_state 2) (λ d. d.0 < 2 ^ 32) FitsDir dir_octets kept_octets
dirs = record { keys = number_whole; contents = kept_whole }

seven : (a b c d e f g : List ℕ) → a ++ (b ++ (c ++ (d ++ (e ++ (f ++ g))))) ≡ (a ++ b ++ c ++ d ++ e ++ f) ++ g
seven a b c d e f g = simp append_assoc refl

image_whole : (i : Image) → IsValidImage i → FitsImage i → Whole (image_in 2 2) i (image_octets i)
unfolding image_in image_behind image_octets image_head
image_whole i valid fits =
    whole_as
    (whole_next {second = image_behind} (octet_whole (outside BadTag 2 2) 2 refl)
    (whole_next (octet_whole (outside BadTag 9 9) 9 refl)
    (whole_next (octet_whole free i.house.0 refl)
    (whole_next (node_whole i.node fits.node)
    (whole_next (u64_whole free i.floor fits.floor refl)
    (whole_next (u64_whole free (len i.dirs) fits.dirs.count refl) (whole_last (map_whole dirs i.dirs fits.dirs.each valid) refl)))))))
    (seven (2 ∷ []) (9 ∷ []) (i.house.0 ∷ []) (node_octets i.node) (to_be_bytes w64 i.floor) (to_be_bytes w64 (len i.dirs))
    (each_octets dir_octets kept_octets i.dirs))

-- an image, which is written in format 2
pub the_image_whole : (i : Image) → IsValidImage i → FitsImage i → IsWhole image i (image_octets i)
unfolding image
the_image_whole i valid fits = (image_whole i valid fits).is
