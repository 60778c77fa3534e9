use Rattle.std.proofs.Common.{ap, ◌∙◌}
use Rattle.std.specs.Result.{result_ok}
use Rattle.std.proofs.lemmas.Fmt.{parse-decimal}
use Rattle.file_disk.proofs.names.parsed.Goals as goal

pub returns : goal.returns
returns c = λ n small is.
    c.ok.ensures.value ∙ ap result_ok (parse-decimal 64 n c.args.name.now c.parse.result small small is c.parse.ensures.value.0)
