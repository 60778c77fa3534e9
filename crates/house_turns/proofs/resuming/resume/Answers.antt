use Rattle.std.proofs.Common.{List, ℕ, Bor, subst}
use Rattle.std.specs.Option.{option_copied}
use Rattle.std.specs.Prelude.{Option}
use Rattle.house_entries.specs.Bodies.{IsBody}
use Rattle.house_turns.proofs.Resumptions.{made_not_resumed, made_resumed, new_not_resumes, new_resumes, none_resumes}
use Rattle.house_turns.proofs.resuming.resume.Goals as goal

pub returns-in_default-clause-none : goal.returns-in_default-clause-none
returns-in_default-clause-none c = none_resumes c.args.body.now c.in_default.ensures.none

pub returns-in-Some-image-clause-some : goal.returns-in-Some-image-clause-some
returns-in-Some-image-clause-some c =
    made_resumed c.args.body.now c.in-Some.body.number c.in-Some.body.clock c.in-Some.body.text.now c.in-Some-image.image.now
    (subst
    (λ (i : Option (Bor (List ℕ))). IsBody c.args.body.now c.in-Some.body.number c.in-Some.body.clock c.in-Some.body.text.now (option_copied i))
    c.in-Some-image.is c.in-Some.ensures.some)
    c.resume_made.result c.resume_made.ensures

pub returns-in-Some-image-clause-none : goal.returns-in-Some-image-clause-none
returns-in-Some-image-clause-none c =
    made_not_resumed c.args.body.now c.in-Some.body.number c.in-Some.body.clock c.in-Some.body.text.now c.in-Some-image.image.now
    (subst
    (λ (i : Option (Bor (List ℕ))). IsBody c.args.body.now c.in-Some.body.number c.in-Some.body.clock c.in-Some.body.text.now (option_copied i))
    c.in-Some-image.is c.in-Some.ensures.some)
    c.resume_made.result c.resume_made.ensures

pub returns-in-None-clause-some : goal.returns-in-None-clause-some
returns-in-None-clause-some c =
    new_resumes c.args.body.now c.in-Some.body.number c.in-Some.body.clock c.in-Some.body.text.now
    (subst
    (λ (i : Option (Bor (List ℕ))). IsBody c.args.body.now c.in-Some.body.number c.in-Some.body.clock c.in-Some.body.text.now (option_copied i))
    c.in-None.is c.in-Some.ensures.some)
    c.resume_new.result c.resume_new.ensures.house c.resume_new.ensures.number c.resume_new.ensures.text

pub returns-in-None-clause-none : goal.returns-in-None-clause-none
returns-in-None-clause-none c =
    new_not_resumes c.args.body.now c.in-Some.body.number c.in-Some.body.clock c.in-Some.body.text.now
    (subst
    (λ (i : Option (Bor (List ℕ))). IsBody c.args.body.now c.in-Some.body.number c.in-Some.body.clock c.in-Some.body.text.now (option_copied i))
    c.in-None.is c.in-Some.ensures.some)
    c.resume_new.result c.resume_new.ensures.none
