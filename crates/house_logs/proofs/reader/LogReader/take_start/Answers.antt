use Rattle.std.proofs.Common.{◌++◌, ◌∷◌, [], List, ℕ, refl, ap, ◌∙◌}
use Rattle.house_logs.specs.declared.log.LogEntry.TheVariants as entry
use Rattle.house_logs.proofs.ReadingLemmas.{took_start}
use Rattle.house_logs.proofs.reader.LogReader.take_start.Goals as goal

pub returns-clause-read : goal.returns-clause-read
returns-clause-read c bodies octets has is =
    let fields = c.is_start.ensures.0 c.if-not-is_start.false in
    took_start c.args.self.now _ bodies octets _ _ _ _ has is fields.0 fields.1.0 fields.1.1.0 fields.1.1.1 refl refl refl refl refl
    (c.in_ok-push.ensures.items ∙ ap (λ (i : List ℕ). c.args.self.now.entries.items ++ entry.Started i ∷ []) c.in_ok-started.ensures)
