use Rattle.std.proofs.Common.{None, Some, refl, subst, sym, ◌∙◌}
use Rattle.cds_stamps.proofs.OutcomeLaws.{ok_unless-Ok, ok_unless-Err}
use Rattle.directory.specs.Updates.{change_of}
use Rattle.house_directory.specs.declared.outgoing.Outgoing.TheVariants as out
use Rattle.house_directory.specs.DirectoryUpdates.{TellsMarks}
use Rattle.house_directory.proofs.Accepting.{adds_alone, adds_posted}
use Rattle.house_directory.proofs.Lawfulness.{adds_lawful}
use Rattle.house_directory.proofs.MemberLists.{alone_none}
use Rattle.house_directory.proofs.states.Held.accept_stamped.Goals as goal

pub returns-in-Ok-clause-adds : goal.returns-in-Ok-clause-adds
returns-in-Ok-clause-adds c = λ r floor stands above.
    adds_alone c.args.self.now c.accept.new.self (change_of c.args.update.now) c.args.stamp.now
    (ok_unless-Ok _ _ _ (sym c.in_ok-accept.ensures.answer ∙ c.in-Ok.is)).0 (rw c.in-Ok.is at c.in_ok-accept.ensures.ok)
    c.args.house.0 r floor stands above (alone_none c.args.house.0 c.args.self.now.members (sym c.if-is_alone.ensures))

pub returns-in-Ok-clause-kept : goal.returns-in-Ok-clause-kept
returns-in-Ok-clause-kept c =
    adds_lawful c.args.self.now c.accept.new.self (change_of c.args.update.now) c.args.stamp.now
    (ok_unless-Ok _ _ _ (sym c.in_ok-accept.ensures.answer ∙ c.in-Ok.is)).0 (rw c.in-Ok.is at c.in_ok-accept.ensures.ok)

pub returns-in-Err-clause-refusal : goal.returns-in-Err-clause-refusal
returns-in-Err-clause-refusal c = sym (ok_unless-Err _ _ _ (sym c.in_ok-accept.ensures.answer ∙ c.in-Err.is))

pub returns-in-Ok-told-clause-adds : goal.returns-in-Ok-told-clause-adds
returns-in-Ok-told-clause-adds c = λ r floor stands above.
    adds_posted c.args.self.now c.accept_told.new.self (change_of c.args.update.now) c.args.stamp.now
    (sym (rw c.in-Ok-told.is at c.in_ok-told.ensures.answer)) (rw c.in-Ok-told.is at c.in_ok-told.ensures.ok)
    c.args.house.0 r floor stands above c.in-Ok-told.fragment (rw c.in-Ok-told.is at c.in_ok-told.ensures.name)
    (rw c.in-Ok-told.is at c.in_ok-told.ensures.entry)

pub returns-in-Ok-told-clause-kept : goal.returns-in-Ok-told-clause-kept
returns-in-Ok-told-clause-kept c =
    adds_lawful c.args.self.now c.accept_told.new.self (change_of c.args.update.now) c.args.stamp.now
    (sym (rw c.in-Ok-told.is at c.in_ok-told.ensures.answer)) (rw c.in-Ok-told.is at c.in_ok-told.ensures.ok)

pub returns-in-Ok-clause-takes : goal.returns-in-Ok-clause-takes
returns-in-Ok-clause-takes c = record {
  takes = rw c.in-Ok.is at c.in_ok-accept.ensures.ok;
  others = c.in_ok-accept.ensures.others;
  rest = refl;
  tells = subst (λ b. TellsMarks b c.args.self.now.replica.table (change_of c.args.update.now) c.args.stamp.now None) c.if-is_alone.ensures refl;
}

pub returns-in-Ok-told-clause-takes : goal.returns-in-Ok-told-clause-takes
returns-in-Ok-told-clause-takes c = record {
  takes = rw c.in-Ok-told.is at c.in_ok-told.ensures.ok;
  others = c.in_ok-told.ensures.others;
  rest = refl;
  tells = subst (λ b. TellsMarks b c.args.self.now.replica.table (change_of c.args.update.now) c.args.stamp.now
      (Some (out.Update c.in-Ok-told.fragment))) c.if-is_alone.ensures
      (c.in-Ok-told.fragment, refl, rw c.in-Ok-told.is at c.in_ok-told.ensures.name, rw c.in-Ok-told.is at c.in_ok-told.ensures.entry);
}
