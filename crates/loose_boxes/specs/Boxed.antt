-- What the pointer of a box owns.
use base.Fml.{Fml, fex}
use denote.RattleType.{RattleType}
use denote.RawPtr.{Ptr}
use Rattle.std.specs.declared.alloc.Global.{Global}
use Rattle.std.specs.contracts.impls.GlobalAllocator.TheImpl.{ghosts}
use Rattle.std.specs.Box.Ownership.{box_owns}

-- the value that is there, and the right to free its block
abbrev pub boxed_at : (R : RattleType) → Ptr → R.Denot → Fml
boxed_at R p x = fex Global (λ alloc. box_owns (ghosts.dealloc_token alloc) R p x)
