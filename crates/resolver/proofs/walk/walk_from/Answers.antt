use Rattle.std.proofs.Common.{◌≡◌, ap, sym, ◌∙◌}
use Rattle.std.specs.Prelude.{Some, None}
use Rattle.cell_names.specs.ChildPointers.{pointer_in}
use Rattle.resolver.specs.declared.refusal.Refusal.TheVariants.{RootName}
use Rattle.resolver.specs.declared.walk.End.TheVariants.{Refused}
use Rattle.resolver.specs.Readers.{sight_of}
use Rattle.resolver.specs.Walks.{stops, goes}
use Rattle.resolver.specs.PassWords.{walker_of}
use Rattle.resolver.proofs.PassLaws.{none_left, saw_by, heard}
use Rattle.resolver.proofs.walk.walk_from.Goals as goal

pub returns-in_default : goal.returns-in_default
returns-in_default g c = c.steps.invariant.ends (Refused RootName)
    (none_left (g.R.EntryReader.tells c.args.reader.now) c.args.walk.follow_last (walker_of c.steps.walk) c.in_default.ensures.done)

pub returns-in-Some-2 : goal.returns-in-Some-2
returns-in-Some-2 g c =
    let tells = g.R.EntryReader.tells c.args.reader.now in
    let look = saw_by tells (walker_of c.steps.walk) (pointer_in c.in-Some.dir.now) c.in-Some.component.now (sight_of c.in_ok-seen.seen)
    c.in-Some.ensures.look c.in_ok-seen.ensures in
    c.steps.invariant.ends c.in-Some-2.end (stops (heard tells c.args.walk.follow_last c.steps.walk.follow_last (walker_of c.steps.walk) (walker_of c.hear.new.self)
    c.in_ok-end.field-0 (Some c.in-Some-2.end) c.steps.invariant.last
    (c.in_ok-end.ensures.step tells (c.requires ∙ ap (λ r. Some (pointer_in r)) (sym c.steps.invariant.root)) look) c.in-Some-2.is))

pub steps-preserved : goal.steps-preserved
steps-preserved g c =
    let tells = g.R.EntryReader.tells c.args.reader.now in
    let look = saw_by tells (walker_of c.steps.walk) (pointer_in c.in-Some.dir.now) c.in-Some.component.now (sight_of c.in_ok-seen.seen)
    c.in-Some.ensures.look c.in_ok-seen.ensures in
    record {
      ends = λ e rest. c.steps.invariant.ends e (goes (walker_of c.hear.new.self) (heard tells c.args.walk.follow_last c.steps.walk.follow_last
          (walker_of c.steps.walk) (walker_of c.hear.new.self) c.in_ok-end.field-0 None c.steps.invariant.last
          (c.in_ok-end.ensures.step tells (c.requires ∙ ap (λ r. Some (pointer_in r)) (sym c.steps.invariant.root)) look) c.in-None.is) rest);
      root = c.in_ok-end.ensures.root ∙ c.steps.invariant.root;
      last = c.in_ok-end.ensures.last ∙ c.steps.invariant.last;
    }
