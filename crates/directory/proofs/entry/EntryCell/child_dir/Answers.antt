use Rattle.std.proofs.Common.{◌≡◌, Some, sym, ap, ◌∙◌}
use Rattle.std.specs.Prelude.{option_copied}
use Rattle.directory.specs.Shown.{lead_of, face_of}
use Rattle.directory.proofs.Leads.{child_reads}
use Rattle.directory.proofs.entry.EntryCell.child_dir.Goals as goal

pub known-requires : goal.known-requires
known-requires c =
    let leading : lead_of (face_of c.args.self.now) ≡ Some c.octets.result.now = sym c.lead.ensures ∙ ap option_copied c.unwrap-value.ensures
    ∙ ap Some (sym c.octets.ensures) in
    child_reads c.args.self.now c.octets.result.now c.requires.child leading
