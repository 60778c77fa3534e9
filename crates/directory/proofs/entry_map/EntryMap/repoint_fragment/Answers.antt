use Rattle.std.proofs.Common.{◌≡◌, ◌∙◌, [], ◌∷◌, Some, sym, ap, option_copied}
use Rattle.std.specs.Option.{option_map}
use Rattle.cell_names.specs.ChildPointers.{pointer_octets}
use Rattle.attr_sets.specs.AttributeCells.{Cleared, Marked}
use Rattle.attr_sets.specs.Marks.{present_at}
use Rattle.directory.specs.Applied.{changed_entry}
use Rattle.directory.specs.Histories.{entry_of}
use Rattle.directory.specs.Kinds.{replicas}
use Rattle.directory.specs.Shown.{shown_in, shown_dir, face_of, marks_of}
use Rattle.directory.specs.Updates.{Repoint}
use Rattle.directory.proofs.FragmentLaws.{made_fragment, entry_of-changed}
use Rattle.directory.proofs.entry_map.EntryMap.repoint_fragment.Goals as goal

pub returns-clause-entry : goal.returns-clause-entry
returns-clause-entry c =
    let n = c.args.name.now in
    let s = c.args.stamp in
    let own = c.unwrap-own.result.now in
    let houses = c.args.houses.now in
    let u = Repoint n houses.master houses.others in
    let shows : shown_in c.args.self.now n ≡ Some (face_of own) =
    sym c.live.ensures.shown ∙ ap (λ o. option_map face_of (option_copied o)) c.unwrap-own.ensures in
    let value : c.in_ok-value.value ≡ pointer_octets (record { dir = shown_dir (face_of own); master = houses.master; others = houses.others }) =
    c.in_ok-value.ensures
    ∙ (λ i. pointer_octets (record { dir = c.in_ok-child_dir.ensures i; master = (c.in_ok-copy.ensures i).master; others = (c.in_ok-copy.ensures i).others })) in
    made_fragment c.changed.result n c.changed.ensures.name _ (marks_of (shown_in c.args.self.now n) u s)
    (ap (λ e. entry_of (marks_of e u s) n) shows
    ∙ entry_of-changed n own.kind own.birth replicas (Cleared s) (Marked (pointer_octets (record {
      dir = shown_dir (face_of own);
      master = houses.master;
      others = houses.others;
    })) (present_at s) ∷ [])
    ∙ (λ i. Some (changed_entry own (sym c.in_ok-attr.ensures i) (Cleared s ∷ Marked (sym value i) (present_at s) ∷ []))))
    c.changed.ensures.entry
