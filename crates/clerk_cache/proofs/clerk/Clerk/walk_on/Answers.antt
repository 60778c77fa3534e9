use Rattle.std.proofs.Common.{◌≡◌, ap, sym, subst, refl, ◌∙◌, true}
use Rattle.std.specs.Prelude.{Some, None, IfSome}
use Rattle.cell_names.specs.ChildPointers.{pointer_in}
use Rattle.resolver.specs.Readers.{sight_of}
use Rattle.resolver.specs.ChangingReaders.{begins}
use Rattle.resolver.specs.PassWords.{walker_of}
use Rattle.resolver.proofs.PassLaws.{heard}
use Rattle.resolver.proofs.ChangingLaws.{ends_behind}
use Rattle.clerk_cache.specs.Clerks.{clerk_reader}
use Rattle.clerk_cache.proofs.ClerkLaws.{seen_by, one_step, ended, none_left_on}
use Rattle.clerk_cache.proofs.clerk.Clerk.walk_on.Goals as goal

pub steps-init : goal.steps-init
steps-init g c = record { comes = begins; root = refl; last = c.requires.last }

pub returns-in_default-clause-ends : goal.returns-in_default-clause-ends
returns-in_default-clause-ends g c =
    let asked = clerk_reader c.args.now (g.R.EntryReader.tells c.args.reader.now) in
    ends_behind asked true c.steps.invariant.comes (none_left_on asked true c.steps.self (walker_of c.steps.walk) (pointer_in c.into_dir.result)
    c.in_default.ensures.done c.in_default.ensures.look c.into_dir.ensures)

pub returns-in-Some-2-clause-ends : goal.returns-in-Some-2-clause-ends
returns-in-Some-2-clause-ends g c =
    let reader = g.R.EntryReader.tells c.args.reader.now in
    let asked = clerk_reader c.args.now reader in
    let saw = seen_by c.args.now reader c.steps.self c.lookup.new.self (walker_of c.steps.walk) (pointer_in c.in-Some.dir.now) c.in-Some.component.now
    (sight_of c.in_ok-seen.seen) c.in-Some.ensures.look (c.in_ok-seen.ensures.low refl) in
    let stays : c.hear.new.self ≡ c.steps.walk = subst (λ (o : _). IfSome o (λ e. c.hear.new.self ≡ c.steps.walk)) c.in-Some-2.is c.in_ok-end.ensures.stays in
    ends_behind asked true c.steps.invariant.comes (ended asked true (pointer_in c.into_dir-in-Some-2.result)
    (heard (asked.tells c.steps.self) true c.steps.walk.follow_last (walker_of c.steps.walk) (walker_of c.hear.new.self) c.in_ok-end.field-0
    (Some c.in-Some-2.end) c.steps.invariant.last
    (c.in_ok-end.ensures.step (asked.tells c.steps.self) (c.requires.root ∙ ap (λ r. Some (pointer_in r)) (sym c.steps.invariant.root)) saw.0) c.in-Some-2.is)
    (c.into_dir-in-Some-2.ensures ∙ ap (λ v. (walker_of v).at) stays) saw.1)

pub steps-preserved : goal.steps-preserved
steps-preserved g c =
    let reader = g.R.EntryReader.tells c.args.reader.now in
    let asked = clerk_reader c.args.now reader in
    let saw = seen_by c.args.now reader c.steps.self c.lookup.new.self (walker_of c.steps.walk) (pointer_in c.in-Some.dir.now) c.in-Some.component.now
    (sight_of c.in_ok-seen.seen) c.in-Some.ensures.look (c.in_ok-seen.ensures.low refl) in
    record {
      comes = one_step asked true (walker_of c.hear.new.self) c.steps.invariant.comes
          (heard (asked.tells c.steps.self) true c.steps.walk.follow_last (walker_of c.steps.walk) (walker_of c.hear.new.self) c.in_ok-end.field-0
          None c.steps.invariant.last
          (c.in_ok-end.ensures.step (asked.tells c.steps.self) (c.requires.root ∙ ap (λ r. Some (pointer_in r)) (sym c.steps.invariant.root)) saw.0) c.in-None.is)
          saw.1;
      root = c.in_ok-end.ensures.root ∙ c.steps.invariant.root;
      last = c.in_ok-end.ensures.last ∙ c.steps.invariant.last;
    }
