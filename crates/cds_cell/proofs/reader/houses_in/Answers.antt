use Rattle.std.proofs.Common.{◌≡◌, ap, ◌∙◌}
use Rattle.std.specs.Prelude.{None, map}
use Rattle.cds_stamps.specs.Members.{master_of, members_of, others_of}
use Rattle.cell_names.specs.Houses.{list_fault}
use Rattle.cds_cell.proofs.PointerLists.{lawful_houses, no_answer}
use Rattle.cds_cell.proofs.reader.houses_in.Goals as goal

pub unreachable-requires : goal.unreachable-requires
unreachable-requires c =
    let others : map (λ h. h.0) c.deref.result.now ≡ others_of (master_of (members_of c.args.members.now)) (members_of c.args.members.now) =
    ap (map (λ h. h.0)) c.deref.ensures.value ∙ c.in_ok-others.ensures.others in
    let none : list_fault c.master.result.0 (map (λ h. h.0) c.deref.result.now) ≡ None =
    ap (λ m. list_fault m (map (λ h. h.0) c.deref.result.now)) c.master.ensures
    ∙ ap (list_fault (master_of (members_of c.args.members.now))) others
    ∙ lawful_houses (members_of c.args.members.now) c.others_in.ensures.lawful in
    no_answer (list_fault c.master.result.0 (map (λ h. h.0) c.deref.result.now)) _ c.in-Err-Fault.field-0 c.in-Err-Fault.field-0-0 none
    c.in-Err-Fault.field-0-is
    c.in-Err-Fault.ensures.answer
