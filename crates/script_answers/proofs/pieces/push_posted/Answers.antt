use Rattle.std.proofs.Common.{◌≡◌, ◌<◌, ℕ, List, [], ◌∷◌, ◌++◌, ◌∙◌, length, ap, arith}
use Rattle.std.specs.Prelude.{codes, decimal}
use Rattle.std.proofs.lemmas.Bool.Decides.{nat_tests}
use Rattle.script_answers.specs.Texts.{posted_words, spaced, spaced_numbers}
use Rattle.script_answers.proofs.Printing.{on_err, row_ends, row_goes_on, spaced_map, still_begins}
use Rattle.script_answers.proofs.pieces.push_posted.Goals as goal

some_posted : (ns : List ℕ) → 0 < length ns → codes " posted" ++ spaced_numbers ns ≡ spaced (posted_words ns)
some_posted [] some = absurd (omega arith)
some_posted (n ∷ ns) some = ap (λ l. codes " posted" ++ ((32 ∷ decimal n) ++ l)) (spaced_map decimal ns)

pub loop-serial-preserved : goal.loop-serial-preserved
loop-serial-preserved c =
    row_goes_on (λ n. 32 ∷ decimal n) c.args.serials.now c.loop-serial.serial-index 0 c.args.line.now.items (codes " posted")
    c.loop-serial.line.items c.push_spaced.new.line.items c.loop-serial-test.true c.loop-serial.invariant c.in_ok-push_spaced.ensures.ok

pub returns-in_err-push_spaced-clause-err : goal.returns-in_err-push_spaced-clause-err
returns-in_err-push_spaced-clause-err c =
    on_err c.from_residual-in_err-push_spaced.result
    (still_begins c.args.line.now.items _ c.loop-serial.line.items c.push_spaced.new.line.items c.loop-serial.invariant
    c.in_err-push_spaced.ensures.err)

pub returns-clause-ok : goal.returns-clause-ok
returns-clause-ok c =
    let some = c.if-is_empty.ensures in
    row_ends (λ n. 32 ∷ decimal n) c.args.serials.now c.loop-serial.serial-index c.args.line.now.items (codes " posted") c.loop-serial.line.items
    c.loop-serial-test.false c.loop-serial.invariant
    ∙ ap (λ l. c.args.line.now.items ++ l) (some_posted c.args.serials.now (grind (arith, nat_tests, some)))
