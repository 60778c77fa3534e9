-- What a handle owns.
use Rattle.std.specs.Prelude.{◌≡◌, None, Option, Some}
use base.Fml.{Fml, ftrue, fex}
use denote.RawPtr.{Ptr, null_ptr}
use Rattle.loose_boxes.specs.Boxed.{boxed_at}
use Rattle.house_sessions.specs.contracts.session.Session.{the_row}
use Rattle.house_sessions.specs.declared.session.Session.{Session}

-- nothing is held, and the pointer is null; or the box of a session is there
abbrev pub held_at : Ptr → Option Session → Fml
held_at p None = fex (p ≡ null_ptr) (λ _. ftrue)
held_at p (Some s) = boxed_at the_row p s
