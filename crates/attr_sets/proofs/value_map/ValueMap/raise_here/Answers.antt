use Rattle.std.proofs.Common.{ap, ◌∙◌, sym, refl}
use Rattle.std.specs.FinMap as map
use Rattle.std.specs.Cmp.Lexicographic.{nat_list_cmp_total}
use Rattle.cds_stamps.specs.Octets.{octets_exact}
use Rattle.attr_sets.specs.Marks.{later}
use Rattle.cds_stamps.specs.Undos.{put_back}
use Rattle.cds_stamps.proofs.TreeViews.{get-view}
use Rattle.cds_stamps.proofs.Undoing.{raised_here}
use Rattle.attr_sets.proofs.value_map.ValueMap.raise_here.Goals.{in-Some, in-None}
use Rattle.attr_sets.proofs.value_map.ValueMap.raise_here.Goals as goal

pub returns : goal.returns
returns c = elim c.match-get_mut.branch [
  | in-Some w ↦ rw (w.result-is, w.self-inside-is)
      (raised_here nat_list_cmp_total octets_exact later put_back c.args.self.now c.self.inside.marks
      (c.get_mut.follows.lender w.replace.new.dest) c.args.value.now w.in-Some.own.now c.args.mark w.replace.new.dest w.replace.result
      c.self.view_is w.in-Some.ensures.value (sym w.later-next.ensures ∙ sym w.replace.ensures.after) w.replace.ensures.value
      ((c.get_mut.follows.holds w.replace.new.dest).3 (rw (← w.in-Some.ensures.value) refl)).0)
  | in-None w ↦ rw (w.result-is, w.self-inside-is) (
    ap (λ m. map.get m c.args.value.now) (sym c.self.view_is) ∙ get-view nat_list_cmp_total c.self.inside.marks c.args.value.now
        ∙ sym w.in-None.ensures.value,
    ap (λ m. map.from_entries m) c.get_mut.follows.holds-at-none ∙ c.self.view_is,
  )
]
