use Rattle.std.proofs.Common.{sym, ap, ◌∙◌, None}
use Rattle.directory.specs.Entries.{Entries}
use Rattle.directory.proofs.TableLaws.{table_of-nil}
use Rattle.house_directory.proofs.epochs.empty_replica.Goals as goal

pub returns : goal.returns
returns c = ap (λ (t : Entries). record { table = t; all_up_to = None }) (c.new.ensures ∙ sym table_of-nil)
