use Rattle.std.proofs.Common.{refl}
use Rattle.cds_stamps.specs.Members.{members_of}
use Rattle.cds_cell.specs.declared.console.Listing.{Listing}
use Rattle.cds_cell.proofs.NewDirectories.{founds_listed, listed_grows}
use Rattle.cds_cell.proofs.cell.Cell.found.Goals as goal

pub returns-clause-grows : goal.returns-clause-grows
returns-clause-grows c =
    let l : Listing = record { epoch = record { 0 = 1 }; members = c.args.members } in
    listed_grows c.args.self.now c.found_at_master.new.self _ l c.found_at_master.ensures.rest c.in_ok-found_at_master.ensures.few
    c.in_ok-push.ensures.items refl refl

pub returns-clause-founds : goal.returns-clause-founds
returns-clause-founds c g s can number =
    let l : Listing = record { epoch = record { 0 = 1 }; members = c.args.members } in
    founds_listed c.args.self.now c.found_at_master.new.self _ g c.args.dir.0 (members_of c.args.members) c.args.serials.now c.found_at_master.new.serials l
    (c.in_ok-found_at_master.ensures.founds g s can) c.found_at_master.ensures.rest number refl c.in_ok-push.ensures.items refl refl refl refl
