use Rattle.std.proofs.Common.{◌≡◌, ◌∙◌, Some, ap, subst}
use Rattle.std.specs.Prelude.{Err}
use Rattle.house_turns.specs.Openings.{Differs}
use Rattle.house_sessions.specs.declared.session.Session.{Session as Session'}
use Rattle.cds_c.proofs.houses.cds_house_redo.Goals as goal

-- who holds the same holds one
same_held : (s t : Session') → Some s ≡ Some t → s ≡ t
same_held s t e = cc (e)

pub returns-in-Err-clause-differs : goal.returns-in-Err-clause-differs
returns-in-Err-clause-differs c = λ s held first spent.
    subst (λ (t : Session'). Differs t.house c.args.record.now) (c.deref_mut.ensures.value ∙ same_held _ s (c.in-Some.ensures.taken ∙ held))
    (c.in-Err.ensures.differs (ap Err (c.code_of.ensures.none spent)))
