use Rattle.line_forms.proofs.Staying.{demanded_fault}
use Rattle.line_forms.proofs.laws.shown_faults_stay.Goals as goal

pub returns : goal.returns
returns g c = demanded_fault g.F.LineForm.rule
