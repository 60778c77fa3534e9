use Rattle.std.proofs.Common.{◌≡◌, ◌∙◌, ◌*◌, ◌/◌, take, refl, subst, arith, w32}
use Rattle.std.specs.Int.{from_be_bytes}
use Rattle.cds_stamps.proofs.OctetWords.{four, decided, same_more, first_apart, by_lengths}
use Rattle.cds_stamps.proofs.octet_order.short_order.Goals.{then-both-ge-HALF+else-x-y, else-both-ge-HALF}
use Rattle.cds_stamps.proofs.octet_order.short_order.Goals as goal

pub returns-then-x-y : goal.returns-then-x-y
returns-then-x-y c =
    c.cmp.ensures
    ∙ decided 4 (from_be_bytes w32) four c.args.a.now c.args.b.now (λ k. (c.type_inv.a k).fits) (λ k. (c.type_inv.b k).fits) 0
    c.half-x.result c.half-y.result (omega arith) (omega arith) c.half-x.ensures c.half-y.ensures refl c.if-x-y.true

pub singles-init : goal.singles-init
singles-init c = elim c.if-both-ge-HALF.branch [
  | then-both-ge-HALF+else-x-y w ↦
      let one : 4 ≡ c.args.both / 4 * 4 = omega arith in
      subst (λ h. take h c.args.a.now ≡ take h c.args.b.now) one
      (same_more 4 (from_be_bytes w32) four c.args.a.now c.args.b.now (λ k. (c.type_inv.a k).fits) (λ k. (c.type_inv.b k).fits) 0
      w.half-x.result w.half-y.result (omega arith) (omega arith) w.half-x.ensures w.half-y.ensures refl w.if-x-y.false)
  | else-both-ge-HALF w ↦
      let none : 0 ≡ c.args.both / 4 * 4 = omega arith in
      subst (λ h. take h c.args.a.now ≡ take h c.args.b.now) none refl
]

pub returns-then-a-i : goal.returns-then-a-i
returns-then-a-i c = c.cmp-then-a-i.ensures
    ∙ first_apart c.singles.i c.args.a.now c.args.b.now (omega arith) (omega arith) c.singles.invariant c.if-a-i.true

pub returns : goal.returns
returns c = c.cmp-2.ensures ∙ by_lengths c.args.a.now c.args.b.now c.singles.i (omega arith) c.singles.invariant
