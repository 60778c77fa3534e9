use Rattle.std.proofs.Common.{refl}
use Rattle.std.specs.Cmp.Lexicographic.{nat_list_cmp_total}
use Rattle.cds_stamps.specs.Octets.{octets_exact}
use Rattle.cds_stamps.specs.Undos.{put_back}
use Rattle.cds_stamps.proofs.Undoing.{mended_here, mended_none, mended_new}
use Rattle.attr_sets.proofs.value_map.ValueMap.mend.Goals as goal

pub returns-in-Some-get_mut : goal.returns-in-Some-get_mut
returns-in-Some-get_mut c = rw c.in-Some.is
    (mended_here nat_list_cmp_total octets_exact put_back put_back c.args.self.now c.self.inside.marks
    (c.get_mut.follows.lender c.in-Some.before) c.args.value.now c.in-Some-get_mut.own.now c.in-Some.before c.self.view_is
    c.in-Some-get_mut.ensures.value ((c.get_mut.follows.holds c.in-Some.before).3 (rw (← c.in-Some-get_mut.ensures.value) refl)).0)

pub returns-in_default : goal.returns-in_default
returns-in_default c = rw c.in-Some.is
    (mended_none nat_list_cmp_total octets_exact put_back put_back c.args.self.now c.self.inside.marks
    c.get_mut.follows.lender-at-none c.args.value.now c.in-Some.before c.self.view_is
    c.in_default.ensures.value c.get_mut.follows.holds-at-none)

pub returns-in-None : goal.returns-in-None
returns-in-None c = rw c.in-None.is
    (mended_new nat_list_cmp_total octets_exact put_back put_back c.args.self.now c.self.inside.marks c.remove.new.self
    c.args.value.now c.self.view_is c.remove.ensures.updates.0)
