use Rattle.std.proofs.Common.{◌++◌, ◌∷◌, [], ℕ, List, inl, length, sym, ◌∙◌, ap, arith, length-append}
use Rattle.std.specs.Prelude.{Err}
use Rattle.sha2.proofs.Facts256.{length-sha256}
use Rattle.house_journal.specs.JournalRecords.{images}
use Rattle.house_journal.proofs.Moments.{begins, weaker}
use Rattle.house_segments.specs.Chains.{chained, digest_after}
use Rattle.house_segments.specs.Segments.{IsWithOrWithout, disk_of}
use Rattle.house_segments.proofs.ChainLemmas.{by_bodies, chained-append, last_digest-append}
use Rattle.house_segments.proofs.Sizes.{no_room, the_fault}
use Rattle.house_segments.proofs.segment.Segment.put.Goals as goal

pub returns-in_err-record-clause-any_moment : goal.returns-in_err-record-clause-any_moment
returns-in_err-record-clause-any_moment g c before bodies at =
    let disk = disk_of c.args.self.now in
    (begins g.D.Disk (IsWithOrWithout before bodies c.args.body.now) disk (g.met.D.Disk.only_now disk)
    (λ k left. inl (ap images (at.ready.durable k left) ∙ at.records))).so_far

pub returns-in_err-put-clause-any_moment : goal.returns-in_err-put-clause-any_moment
returns-in_err-put-clause-any_moment g c before bodies at =
    weaker g.D.Disk _ (IsWithOrWithout before bodies c.args.body.now) _ _
    (by_bodies before bodies c.args.body.now _ _ _ at.records at.digest
    (c.deref.ensures.value ∙ c.in_ok-record.ensures ∙ ap (λ (d : List ℕ). c.args.body.now ++ d) c.digest_of-digest.ensures))
    (c.put.ensures.any_moment at.whole)

pub returns-clause-ok : goal.returns-clause-ok
returns-clause-ok g c before bodies at =
    let put = c.in_ok-put.ensures.ok in
    record {
      ready = put.0;
      whole = put.1;
      records =
          put.2
          ∙ ap (λ (l : List (List ℕ)). l ++ c.deref.result.now ∷ []) at.records
          ∙ ap (λ (r : List ℕ). chained before bodies ++ r ∷ [])
          (c.deref.ensures.value ∙ c.in_ok-record.ensures
          ∙ ap (λ (d : List ℕ). c.args.body.now ++ d) (c.digest_of-digest.ensures ∙ ap (λ (d : List ℕ). digest_after d c.args.body.now) at.digest))
          ∙ sym (chained-append before bodies c.args.body.now);
      digest = c.digest_of-digest.ensures ∙ ap (λ (d : List ℕ). digest_after d c.args.body.now) at.digest
          ∙ sym (last_digest-append before bodies c.args.body.now);
    }

pub returns-clause-any_moment : goal.returns-clause-any_moment
returns-clause-any_moment g c before bodies at =
    weaker g.D.Disk _ (IsWithOrWithout before bodies c.args.body.now) _ _
    (by_bodies before bodies c.args.body.now _ _ _ at.records at.digest
    (c.deref.ensures.value ∙ c.in_ok-record.ensures ∙ ap (λ (d : List ℕ). c.args.body.now ++ d) c.digest_of-digest.ensures))
    (c.put.ensures.any_moment at.whole)

pub returns-in_err-put-clause-large : goal.returns-in_err-put-clause-large
returns-in_err-put-clause-large g c full before bodies at =
    let large = (c.put.ensures.full.0 (c.in_err-put.was ∙ ap Err (the_fault _ _ _ c.from_residual-in_err-put.ensures.1 full))).1 in
    let digest = length-sha256 (c.args.self.now.digest ++ c.args.body.now) in
    let same = ap length c.digest_of-digest.ensures in
    let whole = ap length (c.deref.ensures.value ∙ c.in_ok-record.ensures) in
    no_room g.D.Disk c.args.self.now before bodies c.args.body.now at (omega (arith, large, digest, same, whole, length-append c.args.body.now c.digest_of-digest.result))
