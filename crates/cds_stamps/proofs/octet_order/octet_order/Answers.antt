use Rattle.std.proofs.Common.{◌∙◌, ◌+◌, ◌-◌, ℕ, arith, w64}
use Rattle.std.specs.Int.{from_be_bytes}
use Rattle.cds_stamps.proofs.OctetWords.{eight, decided, same_more, same_before, by_lengths}
use Rattle.cds_stamps.proofs.octet_order.octet_order.Goals as goal

pub returns-then-x-y : goal.returns-then-x-y
returns-then-x-y c =
    c.cmp.ensures
    ∙ decided 8 (from_be_bytes w64) eight c.args.a.now c.args.b.now (λ k. (c.type_inv.a k).fits) (λ k. (c.type_inv.b k).fits) c.words.i
    c.word-x.result c.word-y.result (omega arith) (omega arith) c.word-x.ensures c.word-y.ensures c.words.invariant.same c.if-x-y.true

pub words-preserved : goal.words-preserved
words-preserved c = record {
  same = same_more 8 (from_be_bytes w64) eight c.args.a.now c.args.b.now (λ k. (c.type_inv.a k).fits) (λ k. (c.type_inv.b k).fits) c.words.i
      c.word-x.result c.word-y.result (omega arith) (omega arith) c.word-x.ensures c.word-y.ensures c.words.invariant.same c.if-x-y.false;
  in_range = omega arith;
}

pub returns-then-x-y-2 : goal.returns-then-x-y-2
returns-then-x-y-2 c =
    let last : ℕ = c.min-both.result - 8 in
    c.cmp-then-x-y-2.ensures
    ∙ decided 8 (from_be_bytes w64) eight c.args.a.now c.args.b.now (λ k. (c.type_inv.a k).fits) (λ k. (c.type_inv.b k).fits) last
    c.word-x-2.result c.word-y-2.result (omega arith) (omega arith) c.word-x-2.ensures c.word-y-2.ensures
    (same_before last c.words.i c.args.a.now c.args.b.now (omega arith) c.words.invariant.same) c.if-x-y-2.true

pub returns : goal.returns
returns c =
    let last : ℕ = c.min-both.result - 8 in
    c.cmp-2.ensures
    ∙ by_lengths c.args.a.now c.args.b.now (last + 8) (omega arith)
    (same_more 8 (from_be_bytes w64) eight c.args.a.now c.args.b.now (λ k. (c.type_inv.a k).fits) (λ k. (c.type_inv.b k).fits) last
    c.word-x-2.result c.word-y-2.result (omega arith) (omega arith) c.word-x-2.ensures c.word-y-2.ensures
    (same_before last c.words.i c.args.a.now c.args.b.now (omega arith) c.words.invariant.same) c.if-x-y-2.false)
