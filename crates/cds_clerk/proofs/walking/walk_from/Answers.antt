use Rattle.std.proofs.Common.{◌≡◌, List, ◌∷◌, ℕ, ap, refl, subst, sym, ◌∙◌}
use Rattle.std.specs.Prelude.{Some, None}
use Rattle.cell_names.specs.ChildPointers.{pointer_in}
use Rattle.resolver.specs.declared.refusal.Refusal.TheVariants.{RootName}
use Rattle.resolver.specs.declared.walk.End.TheVariants.{Refused}
use Rattle.resolver.specs.Readers.{sight_of}
use Rattle.resolver.specs.Walks.{stops, goes}
use Rattle.resolver.specs.PassWords.{walker_of}
use Rattle.resolver.proofs.PassLaws.{none_left, saw_by, heard}
use Rattle.cds_clerk.specs.Heards.{IsAmong, heard_sight}
use Rattle.cds_clerk.proofs.HeardLaws.{if_lacks, if_seen}
use Rattle.cds_clerk.proofs.walking.walk_from.Goals as goal

pub returns-in_default-clause-done : goal.returns-in_default-clause-done
returns-in_default-clause-done c = λ r agrees. c.steps.invariant.ends r agrees (Refused RootName)
    (none_left r c.args.walk.follow_last (walker_of c.steps.walk) c.in_default.ensures.done)

pub returns-in-Some-2-clause-done : goal.returns-in-Some-2-clause-done
returns-in-Some-2-clause-done c = λ r agrees.
    let at = pointer_in c.in-Some.dir.now in
    let name = c.in-Some.component.now in
    let told = if_seen c.in_ok-seen.field-0 c.in-Seen.seen (λ s. heard_sight c.args.heard.now at name ≡ Some (sight_of s)) c.in-Seen.is c.in_ok-seen.ensures.seen in
    let look = saw_by r (walker_of c.steps.walk) at name (sight_of c.in-Seen.seen) c.in-Some.ensures.look
    (sym (agrees.sees at name (sight_of c.in-Seen.seen) told)) in
    let root = agrees.root (Some (pointer_in c.args.walk.root)) c.requires ∙ ap (λ x. Some (pointer_in x)) (sym c.steps.invariant.root) in
    c.steps.invariant.ends r agrees c.in-Some-2.end (stops (heard r c.args.walk.follow_last c.steps.walk.follow_last (walker_of c.steps.walk)
    (walker_of c.hear.new.self) c.in_ok-end.field-0 (Some c.in-Some-2.end) c.steps.invariant.last (c.in_ok-end.ensures.step r root look) c.in-Some-2.is))

pub steps-preserved : goal.steps-preserved
steps-preserved c = record {
  ends = λ r agrees e rest.
      let at = pointer_in c.in-Some.dir.now in
      let name = c.in-Some.component.now in
      let told = if_seen c.in_ok-seen.field-0 c.in-Seen.seen (λ s. heard_sight c.args.heard.now at name ≡ Some (sight_of s)) c.in-Seen.is c.in_ok-seen.ensures.seen in
      let look = saw_by r (walker_of c.steps.walk) at name (sight_of c.in-Seen.seen) c.in-Some.ensures.look
      (sym (agrees.sees at name (sight_of c.in-Seen.seen) told)) in
      let root = agrees.root (Some (pointer_in c.args.walk.root)) c.requires ∙ ap (λ x. Some (pointer_in x)) (sym c.steps.invariant.root) in
      c.steps.invariant.ends r agrees e (goes (walker_of c.hear.new.self) (heard r c.args.walk.follow_last c.steps.walk.follow_last
      (walker_of c.steps.walk) (walker_of c.hear.new.self) c.in_ok-end.field-0 None c.steps.invariant.last
      (c.in_ok-end.ensures.step r root look) c.in-None.is) rest);
  root = c.in_ok-end.ensures.root ∙ c.steps.invariant.root;
  last = c.in_ok-end.ensures.last ∙ c.steps.invariant.last;
}

pub returns-in-Lacks-clause-needs : goal.returns-in-Lacks-clause-needs
returns-in-Lacks-clause-needs c =
    let h = c.args.heard.now in
    let at = pointer_in c.in-Some.dir.now in
    let copied = c.in_ok-copy-in-Lacks.ensures in
    record {
      there = walker_of c.steps.walk;
      at = at;
      comes = c.steps.invariant.ends;
      look = sym c.in-Some.ensures.look ∙ ap (λ (n : List ℕ). Some (at, n)) (sym copied);
      dir = refl;
      house = if_lacks c.in_ok-seen.field-0 c.in-Lacks.house (λ x. IsAmong x.0 (at.master ∷ at.others)) c.in-Lacks.is c.in_ok-seen.ensures.listed;
      waits = subst (λ (n : List ℕ). heard_sight h at n ≡ None) (sym copied)
          (if_lacks c.in_ok-seen.field-0 c.in-Lacks.house (λ _. heard_sight h at c.in-Some.component.now ≡ None) c.in-Lacks.is c.in_ok-seen.ensures.waits);
    }
