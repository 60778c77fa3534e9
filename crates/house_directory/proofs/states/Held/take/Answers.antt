use Rattle.std.proofs.Common.{ap, refl, subst, sym, ◌<◌}
use Rattle.std.proofs.lemmas.List.{length-map}
use Rattle.cds_stamps.specs.Members.{members_of}
use Rattle.house_directory.specs.DirectoryTakes.{TakesFragment, TakesOwn}
use Rattle.house_directory.proofs.Phases.{within}
use Rattle.house_directory.proofs.states.Held.take.Goals as goal

pub take_gathered-requires : goal.take_gathered-requires
take_gathered-requires c = record {
  from = subst (λ n. c.args.from < n) (length-map c.args.self.now.members _)
      (within c.args.message.now.from.0 c.args.from (members_of c.args.self.now.members) c.requires.from);
}

pub take_ack-requires : goal.take_ack-requires
take_ack-requires c = record {
  from = subst (λ n. c.args.from < n) (length-map c.args.self.now.members _)
      (within c.args.message.now.from.0 c.args.from (members_of c.args.self.now.members) c.requires.from);
}

pub returns-in_ok-take_marks-in-Update-clause-ok : goal.returns-in_ok-take_marks-in-Update-clause-ok
returns-in_ok-take_marks-in-Update-clause-ok c =
    let takes : TakesFragment c.args.self.now.replica c.in-Update.fragment c.take_marks.new.self = record {
      merged = c.in_ok-take_marks-in-Update.ensures.merged;
      joined = c.in_ok-take_marks-in-Update.ensures.joined;
      up_to = c.take_marks.ensures.all_up_to;
      valid = c.in_ok-take_marks-in-Update.ensures.valid;
      below = λ n valid entry. c.in_ok-take_marks-in-Update.ensures.times n (valid c.in-Update.fragment.name) entry;
    } in
    subst (λ b. TakesOwn c.args.house c.args.from c.args.message.now.from b c.args.self.now (record c.args.self.now { replica = c.take_marks.new.self })
    c.taken_with.result.answer c.taken_with.result.outgoing) (sym c.in-Update.is)
    (takes, refl, ap (λ t. t.answer) c.taken_with.ensures, ap (λ t. t.outgoing) c.taken_with.ensures)
