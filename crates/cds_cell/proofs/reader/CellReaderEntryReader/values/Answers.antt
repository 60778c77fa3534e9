use Rattle.std.proofs.Common.{◌≡◌, List, ℕ, Some, None, sym, subst}
use Rattle.std.proofs.lemmas.Result.{IfOk-weaker}
use Rattle.std.specs.List.Sorted.{IsStrictlySortedBy}
use Rattle.cds_stamps.specs.Octets.{octets_cmp}
use Rattle.directory.specs.Shown.{shown_in}
use Rattle.cds_cell.specs.Readings.{values_at, values_of}
use Rattle.cds_cell.specs.Telling.{held_view, told_views}
use Rattle.cds_cell.specs.TellingProofs.{told_values_rise}
use Rattle.cds_cell.proofs.reader.CellReaderEntryReader.values.Goals as goal

pub returns-in-Some-clause-ascending : goal.returns-in-Some-clause-ascending
returns-in-Some-clause-ascending c =
    let at = c.args.at.now in
    let attr = c.args.attr.now in
    let table = c.in-Some.held.now.replica.table in
    let views : Some (held_view c.in-Some.held.now) ≡ told_views c.args.self.now.cell.now at.dir.0 at.house.0 = c.in-Some.ensures in
    let rise = subst (λ v. IsStrictlySortedBy octets_cmp (values_at at attr v)) (sym views) (told_values_rise c.args.self.now.cell.now at attr) in
    IfOk-weaker c.values_in.result
    (λ found. found.items ≡ values_of attr (shown_in table at.name))
    (λ found. IsStrictlySortedBy octets_cmp found.items)
    (λ found is. subst (λ (vs : List (List ℕ)). IsStrictlySortedBy octets_cmp vs) (sym is) rise)
    c.values_in.ensures

pub returns-in-None-clause-ascending : goal.returns-in-None-clause-ascending
returns-in-None-clause-ascending c =
    let at = c.args.at.now in
    let attr = c.args.attr.now in
    let views : None ≡ told_views c.args.self.now.cell.now at.dir.0 at.house.0 = c.in-None.ensures in
    let rise = subst (λ v. IsStrictlySortedBy octets_cmp (values_at at attr v)) (sym views) (told_values_rise c.args.self.now.cell.now at attr) in
    subst (λ (vs : List (List ℕ)). IsStrictlySortedBy octets_cmp vs) (sym c.new.ensures.items) rise
