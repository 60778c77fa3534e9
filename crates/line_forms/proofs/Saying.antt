-- A form that asks nothing of what a line says.
use Rattle.std.specs.Prelude.{Option, Some, None, Result, Ok, Err, IfOk, IfSome}

-- all that a line says meets nothing
pub none_asked : {L E : Type 0} (r : Result (Option L) E) → IfOk r (λ (said : Option L). IfSome said (λ (line : L). Unit {0}))
none_asked (Ok (Some line)) = tt
none_asked (Ok None) = tt
none_asked (Err e) = tt
