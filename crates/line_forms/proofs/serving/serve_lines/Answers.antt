use Rattle.line_forms.proofs.serving.serve_lines.Goals as goal

pub returns : goal.returns
returns g c state at = c.serve_form.ensures.ends state at
