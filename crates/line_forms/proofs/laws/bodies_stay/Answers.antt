use Rattle.line_forms.proofs.Staying.{demanded_body}
use Rattle.line_forms.proofs.laws.bodies_stay.Goals as goal

pub returns : goal.returns
returns g c = demanded_body g.F.LineForm.rule
