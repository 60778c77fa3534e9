-- What a house posts where a skulk is complete at once.
use Rattle.std.proofs.Common.{◌≡◌, [], Option, Result, Ok, ap, ◌∙◌}
use Rattle.std.specs.FinMap.{get}
use Rattle.cds_stamps.specs.declared.numbers.DirId.{DirId}
use Rattle.cds_stamps.specs.declared.stamp.Stamp.{Stamp}
use Rattle.directory.specs.declared.update.UpdateRefusal.{UpdateRefusal}
use Rattle.house_directory.specs.declared.outgoing.Outgoing.{Outgoing}
use Rattle.clearinghouse.specs.declared.house.Clearinghouse.{Clearinghouse}
use Rattle.house_directory.specs.declared.skulks.Begun.{Begun}
use Rattle.house_directory.specs.declared.skulks.Begun.TheVariants as begun
use Rattle.house_directory.specs.DirectorySteps.{begun_outgoing}
use Rattle.clearinghouse.specs.HouseLetters.{posts_at, sender_of}
use Rattle.house_directory.proofs.Posts.{posts_none}

-- nothing is posted where a skulk is complete at once
pub completed_posts : (c : Clearinghouse) (dir : DirId) (a : Result Begun UpdateRefusal) (t : Stamp) (o : Option Outgoing) → a ≡ Ok (begun.Complete t)
    → o ≡ begun_outgoing a → posts_at c dir o ≡ []
completed_posts c dir a t o is posts =
    ap (posts_at c dir) (posts ∙ ap begun_outgoing is) ∙ posts_none (sender_of c dir) (get c.dirs dir)
