use Rattle.std.proofs.Common.{◌∙◌, refl}
use Rattle.std.specs.Prelude.{Some, None}
use Rattle.inquire_forms.proofs.InquireBatches.{Gives, all_came, gives_none, gives_some, less_left, map_more, none_came, one_more}
use Rattle.inquire_forms.proofs.inquire_answer.all_batches.Goals as goal

pub batches-init : goal.batches-init
batches-init g c = record { came = λ all is. (all, is, none_came _ _ _ c.new-list.ensures.items); most = refl }

pub batches-smaller : goal.batches-smaller
batches-smaller g c =
    let most = c.args.lookup.now.most in
    let gives : Gives most c.batches.lookup.left c.next.new.self.left (Some c.in-Some.batch.items) =
    λ left is. gives_some _ _ _ _ _ left _ c.in-Some.is c.batches.invariant.most (c.in_ok-batch.ensures.next left is) in
    less_left most c.requires c.batches.lookup.left c.next.new.self.left c.in-Some.batch.items c.in_ok-batch.ensures.call.usable gives

pub batches-preserved : goal.batches-preserved
batches-preserved g c =
    let most = c.args.lookup.now.most in
    let i = c.batches.invariant in
    let gives : Gives most c.batches.lookup.left c.next.new.self.left (Some c.in-Some.batch.items) =
    λ left is. gives_some _ _ _ _ _ left _ c.in-Some.is i.most (c.in_ok-batch.ensures.next left is) in
    record {
      came = one_more most c.requires (λ left some. c.batches_cut_a_list.ensures.first most left c.requires some)
          c.args.lookup.now.left c.batches.lookup.left c.next.new.self.left _ _ c.in-Some.batch.items i.came gives
          (map_more _ _ _ c.in-Some.batch c.in_ok-push.ensures.items);
      most = c.in_ok-batch.ensures.most ∙ i.most;
    }

pub returns : goal.returns
returns g c left is =
    let most = c.args.lookup.now.most in
    let i = c.batches.invariant in
    let gives : Gives most c.batches.lookup.left c.next.new.self.left None =
    λ left is. gives_none _ _ _ _ left _ c.in_default.is i.most (c.in_ok-batch.ensures.next left is) in
    all_came most c.requires c.args.lookup.now.left c.batches.lookup.left c.next.new.self.left _ left i.came gives is
