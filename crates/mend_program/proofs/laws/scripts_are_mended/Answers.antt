use Rattle.mend_program.proofs.Mendings.{is_mended}
use Rattle.mend_program.proofs.laws.scripts_are_mended.Goals as goal

pub returns : goal.returns
returns c = λ lines said d hs m t script dir known is stamp. is_mended lines said script d dir known hs m t is stamp
