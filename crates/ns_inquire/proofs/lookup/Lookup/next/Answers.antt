use Rattle.std.proofs.Common.{◌≡◌, ◌∙◌, false, ap, sym, refl}
use Rattle.std.specs.Prelude.{is_none}
use Rattle.ns_inquire.proofs.BatchLaws.{usable}
use Rattle.ns_inquire.proofs.lookup.Lookup.next.Goals as goal

pub invariant_of-self : goal.invariant_of-self
invariant_of-self g c = (
  c.self.invariant.0,
  λ is.
      let left = usable c.self.inside.importer (c.self.invariant.1 is) in
      ap is_none (c.in-Ok.ensures left.0 left.1).1,
)

pub returns-in-Ok-clause-call : goal.returns-in-Ok-clause-call
returns-in-Ok-clause-call g c =
    let usable_now = c.if-self.false in
    let left = usable c.self.inside.importer (c.self.invariant.1 usable_now) in
    let given = c.in-Ok.ensures left.0 left.1 in
    let seen : c.args.self.now.left ≡ c.self.inside.importer = ap (λ v. v.left) (sym c.self.view_is) ∙ rw usable_now refl in
    let still : is_none c.args.self.now.left ≡ false = ap is_none (seen ∙ left.1) in
    rw usable_now (record { spent = ap is_none given.1; usable = still })
