use Rattle.std.proofs.Common.{◌∙◌, sym, ap, length, arith}
use Rattle.cell_script.specs.NameService.{all_said, texts_of}
use Rattle.cell_script.proofs.ListedTexts.{behind_none, texts_left, all_said-push, all_said-stops, all_said-end}
use Rattle.cell_script.proofs.service_word.all_said.Goals as goal

pub loop-rest-init : goal.loop-rest-init
loop-rest-init g c = behind_none c.new-list.result.items (all_said g.T.Said.says (texts_of c.args.word.now)) c.new-list.ensures.items

pub loop-rest-preserved : goal.loop-rest-preserved
loop-rest-preserved g c =
    let first = ap texts_left c.in-Some.is ∙ c.split_first_text.ensures in
    let one = sym c.in-Some-read.is ∙ c.read.ensures in
    let more = c.in_ok-push-in-Some-read.ensures.items in
    all_said-push g.T.Said.says c.loop-rest.list.items c.push.new.self.items (texts_left c.loop-rest.rest) _ _ c.in-Some-read.item more first one
    ∙ c.loop-rest.invariant

pub loop-rest-smaller : goal.loop-rest-smaller
loop-rest-smaller g c =
    let first = ap texts_left c.in-Some.is ∙ c.split_first_text.ensures in omega (arith, ap length first)

pub returns-in-None : goal.returns-in-None
returns-in-None g c =
    let first = ap texts_left c.in-Some.is ∙ c.split_first_text.ensures in
    let none = sym c.in-None.is ∙ c.read.ensures in
    all_said-stops g.T.Said.says c.loop-rest.list.items (texts_left c.loop-rest.rest) _ _ first none ∙ c.loop-rest.invariant

pub returns : goal.returns
returns g c =
    let end = ap texts_left c.in_default.is in
    all_said-end g.T.Said.says c.loop-rest.list.items (texts_left c.loop-rest.rest) end ∙ c.loop-rest.invariant
