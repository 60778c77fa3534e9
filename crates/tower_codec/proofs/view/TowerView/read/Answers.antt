use Rattle.std.proofs.Common.{◌≡◌, ℕ, ◌+◌, List, length, Result, Ok, Err, sym, ap, ◌∙◌, arith}
use Rattle.std.proofs.lemmas.Result.{err_from_is_err_and}
use Rattle.tower_codec.specs.TowerReading.{body_at}
use Rattle.tower_codec.specs.declared.fault.TowerFault.{TowerFault}
use Rattle.tower_codec.specs.Tower.{Floor}
use Rattle.tower_codec.specs.TowerReading.{known_floors}
use Rattle.tower_codec.proofs.TowersRead.{body_read, body_again}
use Rattle.tower_codec.proofs.FaultsRead.{fault_read, fault_again}
use Rattle.tower_codec.proofs.view.TowerView.read.Goals as goal

abbrev Reading : Type 0
Reading = Result (ℕ × List ℕ) TowerFault

never_both : (count : ℕ) (body : List ℕ) (fault : TowerFault) → ◌≡◌ {A = Reading} (Ok (count, body)) (Err fault) → ⊥
never_both count body fault e = cc

one_fault : (a b : TowerFault) → ◌≡◌ {A = Reading} (Err a) (Err b) → ◌≡◌ {A = Result (List Floor × ℕ) TowerFault} (Err a) (Err b)
one_fault a b e = cc

-- One reading gives one view.
is_read : (count : ℕ) (body : List ℕ) (n : ℕ) (x : List ℕ) (floors : List Floor) (front : List ℕ)
    → ◌≡◌ {A = Reading} (Ok (count, body)) (Ok (n, x)) → known_floors n x ≡ floors → length x + 2 ≡ length front
    → (known_floors count body ≡ floors) × (length body + 2 ≡ length front)
is_read count body n x floors front e known len =
    let same : (count, body) ≡ (n, x) = cc in
    let count_is : count ≡ n = ap (λ (p : ℕ × List ℕ). p.0) same in
    let body_is : body ≡ x = ap (λ (p : ℕ × List ℕ). p.1) same in
    (ap (λ (k : ℕ). known_floors k body) count_is ∙ ap (known_floors n) body_is ∙ known, ap (λ (y : List ℕ). length y + 2) body_is ∙ len)

pub invariant_of-result : goal.invariant_of-result
invariant_of-result c =
    (body_read c.args.octets.now c.in_ok-count.count c.in_ok-count.body.now (λ i. omega (arith, c.type_inv.octets i)) c.in_ok-count.ensures).known

pub returns-clause-length : goal.returns-clause-length
returns-clause-length c =
    (body_read c.args.octets.now c.in_ok-count.count c.in_ok-count.body.now (λ i. omega (arith, c.type_inv.octets i)) c.in_ok-count.ensures).within

pub returns-clause-tower : goal.returns-clause-tower
returns-clause-tower c =
    (body_read c.args.octets.now c.in_ok-count.count c.in_ok-count.body.now (λ i. omega (arith, c.type_inv.octets i)) c.in_ok-count.ensures).tower

pub returns-clause-only : goal.returns-clause-only
returns-clause-only c = λ floors front rest h e.
    let again = body_again floors front rest h in
    is_read c.in_ok-count.count c.in_ok-count.body.now (length floors) again.body floors front
    (sym c.in_ok-count.ensures ∙ ap body_at e ∙ again.read) again.known again.len

pub returns-clause-each_fault : goal.returns-clause-each_fault
returns-clause-each_fault c = λ fault h. absurd (never_both c.in_ok-count.count c.in_ok-count.body.now fault
    (sym c.in_ok-count.ensures ∙ fault_again c.args.octets.now fault h))

pub returns-in_err-count-clause-only : goal.returns-in_err-count-clause-only
returns-in_err-count-clause-only c = λ floors front rest h e.
    let again = body_again floors front rest h in
    absurd (never_both (length floors) again.body c.in_err-count.field-0.0 (sym (ap body_at e ∙ again.read) ∙ c.in_err-count.ensures))

pub returns-in_err-count-clause-fault : goal.returns-in_err-count-clause-fault
returns-in_err-count-clause-fault c =
    let p = err_from_is_err_and c.from_residual.result c.from_residual.ensures.1 in
    rw (p.1, p.2) (fault_read c.args.octets.now c.in_err-count.field-0.0 (λ i. omega (arith, c.type_inv.octets i)) c.in_err-count.ensures)

pub returns-in_err-count-clause-each_fault : goal.returns-in_err-count-clause-each_fault
returns-in_err-count-clause-each_fault c = λ fault h.
    let p = err_from_is_err_and c.from_residual.result c.from_residual.ensures.1 in
    rw (p.1, p.2) (one_fault c.in_err-count.field-0.0 fault (sym c.in_err-count.ensures ∙ fault_again c.args.octets.now fault h))
