use Rattle.std.proofs.Common.{◌≡◌, ◌<◌, ℕ, ◌+◌, List, [], ◌∷◌, take, length, get_or, refl, sym, ap, subst, ◌∙◌, arith}
use Rattle.std.proofs.lemmas.List.{take_more, take_all}
use Rattle.std.proofs.lemmas.List.Sums.{fold-append}
use Rattle.std.specs.FinMap.{empty, insert}
use Rattle.std.specs.List.{fold}
use Rattle.directory.specs.declared.entry.EntryCell.{EntryCell}
use Rattle.directory.specs.Entries.{Entries, IsValidTable}
use Rattle.directory.specs.IndexWords.{KnowsAll}
use Rattle.directory.proofs.IndexLaws.{settled, empty_index, known_inserted, folded_valid}
use Rattle.directory.proofs.table.Table.from_pairs.Goals as goal

abbrev none : Entries
none = empty

abbrev put : Entries → List ℕ × EntryCell → Entries
put m p = insert m p.0 p.1

-- one more is put
put_more : (ps : List (List ℕ × EntryCell)) (i : ℕ) (p : List ℕ × EntryCell) → i < length ps → p ≡ get_or ps i p
    → fold put none (take (i + 1) ps) ≡ put (fold put none (take i ps)) p
put_more ps i p within is = ap (fold put none) (take_more ps i p within) ∙ fold-append put none (take i ps) (get_or ps i p ∷ [])
    ∙ ap (put (fold put none (take i ps))) (sym is)

pub loop-name-init : goal.loop-name-init
loop-name-init c = (empty_index c.new-deletions.result none refl c.new-deletions.ensures.none c.new-deletions.ensures.empty).all

pub loop-name-preserved : goal.loop-name-preserved
loop-name-preserved c =
    let ps = c.args.pairs.items in
    let i = c.loop-name.name-index in
    let p = c.loop-name-item.result in
    let same = c.deref-name-items.ensures.value in
    known_inserted c.loop-name.deletions c.add_entry.new.self (fold put none (take i ps)) (fold put none (take (i + 1) ps)) p.0 p.1
    c.add_entry.ensures.adds.0 c.in_ok-add_entry.ensures.ok
    (put_more ps i p (omega (arith, ap length same)) (c.loop-name-item.is ∙ ap (λ ps. get_or ps i p) same))
    c.loop-name.invariant

pub invariant_of-result : goal.invariant_of-result
invariant_of-result c =
    let ps = c.args.pairs.items in
    let y = c.loop-name.deletions in
    let m = c.in_ok-entries.entries in
    let all : take c.loop-name.name-index ps ≡ ps = take_all c.loop-name.name-index ps (omega (arith, ap length c.deref-name-items.ensures.value)) in
    settled y c.settle.new.self m
    (record {
      valid = subst IsValidTable (sym c.in_ok-entries.ensures)
          (folded_valid none ps (empty_index c.new-deletions.result none refl c.new-deletions.ensures.none c.new-deletions.ensures.empty).valid c.requires);
      all = subst (KnowsAll y) (ap (fold put none) all ∙ sym c.in_ok-entries.ensures) c.loop-name.invariant;
    })
    c.settle.ensures.all c.settle.ensures.first c.settle.ensures.settled
