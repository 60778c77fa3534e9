-- What an import answers (own, after C706, importing bindings).
use Rattle.std.specs.Prelude.{List, Result, Ok, Err, ℕ}
use Rattle.tower_codec.specs.declared.binding.StringBinding.{StringBinding}
use Rattle.resolver.specs.declared.seen.Found.{Found}
use Rattle.resolver.specs.Readers.{Reader}
use Rattle.server_entries.specs.declared.client.Wanted.{Wanted}
use Rattle.ns_import.specs.declared.fault.ImportFault.{ImportFault}
use Rattle.ns_import.specs.declared.fault.ImportFault.TheVariants as fault
use Rattle.ns_import.specs.Imports.{import_list}
use Rattle.script_answers.specs.declared.answer.Answer.{Answer}
use Rattle.script_answers.specs.declared.answer.Answer.TheVariants as answer
use Rattle.script_answers.specs.declared.answer.ScriptRefusal.TheVariants as why
use Rattle.ns_commands.specs.Asks.{refusal_of_walk}

-- the bindings that were found, or why there are none (own)
abbrev pub bindings_told : Result (List StringBinding) ImportFault → Answer
bindings_told (Ok bindings) = answer.Bindings bindings
bindings_told (Err (fault.Walk r)) = answer.Refused (refusal_of_walk r)
bindings_told (Err fault.NotObject) = answer.Refused why.NotObject

-- the answer to an import, over a list that has each object which the reader shows (own)
abbrev pub import_answer : Reader → (objects : List Found) → Wanted → List (List ℕ) → Answer
import_answer reader objects wanted name = bindings_told (import_list reader objects wanted name)
