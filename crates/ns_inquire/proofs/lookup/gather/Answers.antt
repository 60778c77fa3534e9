use Rattle.std.proofs.Common.{◌≡◌, ◌∙◌, ◌++◌, ◌∷◌, [], List, Some, take, drop, sym, ap, arith, append_assoc, append-nil, length-append}
use Rattle.tower_codec.specs.declared.binding.StringBinding.{StringBinding}
use Rattle.ns_inquire.proofs.BatchLaws.{first_off, none_left, take_whole, drop_whole}
use Rattle.ns_inquire.proofs.lookup.gather.Goals as goal

pub bindings-preserved : goal.bindings-preserved
bindings-preserved g c =
    let batch = c.bindings.batch.items in
    let pushed = c.in_ok-push-in-Some.ensures.items in
    record {
      came = λ left is.
          let b = c.bindings.invariant.came left is in
          let given = c.in_ok-binding.ensures.next b.0 b.2 in
          let off = first_off b.0 c.in-Some.binding (sym c.in-Some.is ∙ given.0) in (
            drop 1 b.0,
            b.1 ∙ ap (λ (l : List StringBinding). batch ++ l) off ∙ sym (append_assoc batch (c.in-Some.binding ∷ []) (drop 1 b.0)) ∙ ap (λ (l : List StringBinding). l ++ drop 1 b.0) (sym pushed),
            given.1,
          );
      within = omega (arith, c.bindings-test.true, c.len.ensures, ap Rattle.std.proofs.Common.length pushed, length-append batch (c.in-Some.binding ∷ []));
    }

pub returns-in-None : goal.returns-in-None
returns-in-None g c left is =
    let batch = c.bindings.batch.items in
    let b = c.bindings.invariant.came left is in
    let given = c.in_ok-binding.ensures.next b.0 b.2 in
    let empty = none_left b.0 (sym c.in-None.is ∙ given.0) in
    let all : left ≡ batch = b.1 ∙ ap (λ (l : List StringBinding). batch ++ l) empty ∙ append-nil batch in
    let few = c.bindings.invariant.within in (
      sym (ap (take c.args.most) all ∙ take_whole c.args.most batch few),
      given.1 ∙ ap (λ (l : List StringBinding). Some (drop 1 l)) empty ∙ ap Some (sym (ap (drop c.args.most) all ∙ drop_whole c.args.most batch few)),
    )
