-- What a clearinghouse keeps over a crash is what it keeps after it.
use Rattle.std.proofs.Common.{◌≡◌, List, ℕ, Option, Some, None, Ok, refl, sym, ap, ◌∙◌}
use Rattle.std.specs.FinMap.{get, same_map}
use Rattle.std.specs.Option.{option_map}
use Rattle.cds_messages.specs.Dirs.{dir_exact, dir_total}
use Rattle.cds_records.specs.RecordOctets.{image_octets}
use Rattle.cds_messages.specs.declared.image.ImageDir.{ImageDir}
use Rattle.cds_messages.specs.declared.image.ImageDir.TheVariants as kept
use Rattle.cds_stamps.specs.declared.stamp.Floor.{Floor}
use Rattle.clearinghouse.specs.HouseImages.{image_of, kept_of, house_after_restart, start_of_octets, started_of}
use Rattle.clearinghouse.specs.LawfulHouses.{IsLawful}
use Rattle.clearinghouse.specs.declared.house.Clearinghouse.{Clearinghouse}
use Rattle.clearinghouse.proofs.Restarting.{floor_stays}
use Rattle.clearinghouse.proofs.Starting.{got_kept, got_started}
use Rattle.cds_cell.specs.CellHouses.{KeepsImage}

kept_again : (d : ImageDir) → kept_of (started_of d) ≡ d
kept_again (kept.Held e ms r) = refl
kept_again (kept.Gone e) = refl

each_again : (o : Option ImageDir) → option_map kept_of (option_map started_of o) ≡ o
each_again None = refl
each_again (Some d) = ap Some (kept_again d)

-- the image of a lawful clearinghouse that crashed and started is the same
pub image_again : (c : Clearinghouse) → IsLawful c → image_of (house_after_restart c) ≡ image_of c
image_again c lawful i = record {
  house = c.house;
  node = c.node;
  floor = ap (λ (f : Floor). f.time) (floor_stays c lawful) i;
  dirs = same_map dir_total dir_exact (image_of (house_after_restart c)).dirs (image_of c).dirs
      (λ q. got_kept (house_after_restart c) q ∙ ap (option_map kept_of) (got_started (image_of c) q) ∙ each_again (get (image_of c).dirs q)) i;
}

-- so octets of its image are kept
pub keeps_image : (c : Clearinghouse) (octets : List ℕ) → IsLawful c → octets ≡ image_octets (image_of c) → start_of_octets octets ≡ Ok (house_after_restart c)
    → KeepsImage octets (house_after_restart c)
keeps_image c octets lawful is starts = record { starts = starts; image = is ∙ ap image_octets (sym (image_again c lawful)) }
