-- Images of which directories are told of the values of another map.
use Rattle.std.proofs.Common.{◌≡◌, ℕ, ◌^◌, ◌<◌, List, ◌++◌, sym, ap, subst, ◌∙◌}
use Rattle.std.specs.Prelude.{map}
use Rattle.std.specs.FinMap.{FinMap, entries, len, from_entries}
use Rattle.cds_stamps.specs.declared.numbers.DirId.{DirId}
use Rattle.cds_stamps.specs.declared.numbers.HouseNo.{HouseNo}
use Rattle.cds_messages.specs.declared.image.ImageDir.{ImageDir}
use Rattle.cds_messages.specs.Dirs.{dir_cmp, dir_total, dir_exact}
use Rattle.record_fields.specs.FieldOctets.{items_octets}
use Rattle.cds_records.specs.RecordOctets.{dir_octets, kept_octets, image_head, image_octets}
use Rattle.record_fields.specs.FieldRanges.{ItemsFit}
use Rattle.cds_records.specs.RecordRanges.{FitsDir, FitsImage}
use Rattle.record_fields.proofs.Mapped.{len_mapped, items_mapped, entries_mapped, fits_mapped}

module _ {X : Type 0} (f : X → ImageDir) (m : FinMap dir_cmp X) (house : HouseNo) (node floor : ℕ) where
  -- the head of an image and one directory after another are the octets of the image
  pub parts_written : (out : List ℕ) → out ≡ image_head house.0 node floor (len m) ++ items_octets dir_octets (λ x. kept_octets (f x)) (entries m)
      → out ≡ image_octets (record { house = house; node = node; floor = floor; dirs = from_entries (map (λ e. (e.0, f e.1)) (entries m)) })
  unfolding image_octets
  parts_written out e =
      e ∙ (λ i.
      image_head house.0 node floor (sym (len_mapped dir_total dir_exact f m) i)
      ++ (sym (items_mapped dir_total dir_exact f dir_octets kept_octets (entries m))
      ∙ ap (items_octets dir_octets kept_octets) (sym (entries_mapped dir_total dir_exact f m))) i)

  -- and it fits if they do
  pub parts_fit : node < 2 ^ 48 → floor < 2 ^ 64 → len m < 2 ^ 64 → ItemsFit (λ d. d.0 < 2 ^ 32) (λ x. FitsDir (f x)) (entries m)
      → FitsImage (record { house = house; node = node; floor = floor; dirs = from_entries (map (λ e. (e.0, f e.1)) (entries m)) })
  parts_fit low time count each = record {
    node = low;
    floor = time;
    dirs = record {
      count = subst (λ n. n < 2 ^ 64) (sym (len_mapped dir_total dir_exact f m)) count;
      each = subst (ItemsFit (λ (d : DirId). d.0 < 2 ^ 32) FitsDir) (sym (entries_mapped dir_total dir_exact f m))
          (fits_mapped dir_total dir_exact f (λ d. d.0 < 2 ^ 32) FitsDir (entries m) each);
    };
  }
