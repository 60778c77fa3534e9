use Rattle.std.proofs.Common.{◌<◌, length, refl, sym, arith}
use Rattle.std.proofs.lemmas.Bool.{eqb-false, eqb-true}
use Rattle.house_turns.proofs.Cuts.{cut_smaller}
use Rattle.house_turns.proofs.SaidAgain.{answer_written, message_written, on_ok, posts_cut}
use Rattle.house_turns.proofs.again.push_posts.Goals as goal

pub posts-init : goal.posts-init
posts-init c = λ ps answer is none.
    record {
      posts = ps;
      cut = posts_cut ps answer c.args.posts.now c.cut_at.result.0.now c.cut_at.result.1.now is none c.cut_at.ensures.before c.cut_at.ensures.after;
      text_is = refl;
    }

pub posts-preserved : goal.posts-preserved
posts-preserved c = λ ps answer is none.
    let more = eqb-false (length c.posts.rest.now) 0 (sym c.posts-test.ensures) in
    let some : 0 < length c.posts.rest.now = omega (arith, more) in
    message_written ps answer c.posts.line.now c.posts.rest.now c.posts.text.items c.args.text.now.items c.push_message.new.text.items
    c.cut_at-in-posts.result.0.now c.cut_at-in-posts.result.1.now (c.posts.invariant ps answer is none) some none c.in_ok-push_message.ensures
    c.cut_at-in-posts.ensures.before c.cut_at-in-posts.ensures.after

pub posts-smaller : goal.posts-smaller
posts-smaller c =
    let more = eqb-false (length c.posts.rest.now) 0 (sym c.posts-test.ensures) in
    let some : 0 < length c.posts.rest.now = omega (arith, more) in
    cut_smaller 10 c.posts.rest.now c.cut_at-in-posts.result.1.now c.cut_at-in-posts.ensures.after some

pub returns : goal.returns
returns c = λ ps answer is none.
    on_ok c.push_said.result
    (answer_written ps answer c.posts.line.now c.posts.rest.now c.posts.text.items c.args.text.now.items c.push_said.new.text.items
    (c.posts.invariant ps answer is none) (eqb-true (length c.posts.rest.now) 0 (sym c.posts-test.ensures)))
    c.push_said.ensures
