-- Words of private contracts alone: what an entry says to a client, the next one last. Own.
use Rattle.std.specs.Prelude.{◌≡◌, ℕ, List, Result, IfOk, reverse}
use Rattle.tower_codec.specs.declared.binding.StringBinding.{StringBinding}
use Rattle.ns_import.specs.declared.client.Said.{Said}

-- it says these names, unless memory runs out
abbrev pub SaysNames : {E : Type 0} → Result Said E → List (List (List ℕ)) → Type 0
SaysNames result names = IfOk result (λ said. reverse said.names.items ≡ names)

-- it says these bindings, unless memory runs out
abbrev pub SaysBindings : {E : Type 0} → Result Said E → List StringBinding → Type 0
SaysBindings result bindings = IfOk result (λ said. reverse said.bindings.items ≡ bindings)
