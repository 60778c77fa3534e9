use Rattle.ns_commands.proofs.Bindings.{Given, left_over}
use Rattle.ns_commands.proofs.imports.all_of.Given as goal

abbrev pub invariant-loop-bindings : goal.invariant-loop-bindings
invariant-loop-bindings g l = Given l.initial.importer l.importer l.bindings

abbrev pub decreases-loop-bindings : goal.decreases-loop-bindings
decreases-loop-bindings g l = left_over l.importer
