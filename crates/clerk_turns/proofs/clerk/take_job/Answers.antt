use Rattle.std.proofs.Common.{List, ap, sym, ◌∙◌, arith}
use Rattle.std.specs.Prelude.{◌==◌}
use Rattle.clerk_turns.specs.declared.clerk.Job.{Job}
use Rattle.clerk_turns.specs.Clerks.{job_place}
use Rattle.clerk_turns.proofs.Places.{position_within, there_at}
use Rattle.clerk_turns.proofs.clerk.take_job.Goals as goal

pub remove-requires : goal.remove-requires
remove-requires c =
    let first = sym (ap (λ (xs : List Job). job_place c.args.number xs) c.deref.ensures.value) ∙ sym c.place_of_job.ensures ∙ c.in-Some.is in
    let within = position_within (λ (x : Job). x.number == c.args.number) c.args.jobs.now.items c.in-Some.place first in
    omega (arith, within, c.args.jobs.now.ok.0)

pub returns-in-Some-clause-some : goal.returns-in-Some-clause-some
returns-in-Some-clause-some c =
    let first = sym (ap (λ (xs : List Job). job_place c.args.number xs) c.deref.ensures.value) ∙ sym c.place_of_job.ensures ∙ c.in-Some.is in
    let within = position_within (λ (x : Job). x.number == c.args.number) c.args.jobs.now.items c.in-Some.place first in
    record {
      place = c.in-Some.place;
      first = first;
      taken = record {
        there = there_at c.args.jobs.now.items c.in-Some.place c.remove.result within c.remove.ensures.value;
        out = c.remove.ensures.items;
      };
    }

pub returns-in-None-clause-none : goal.returns-in-None-clause-none
returns-in-None-clause-none c = sym (ap (λ (xs : List Job). job_place c.args.number xs) c.deref.ensures.value) ∙ sym c.place_of_job.ensures ∙ c.in-None.is
