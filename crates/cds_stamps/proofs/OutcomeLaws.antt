-- What an answer says of the fault that was sought.
use Rattle.std.proofs.Common.{◌≡◌, Option, Some, None, Ok, Err, refl}
use Rattle.std.specs.Prelude.{is_ok, is_none}
use Rattle.cds_stamps.specs.Outcomes.{ok_unless}

-- a value: there was no fault
pub ok_unless-Ok : {T E : Type 0} (fault : Option E) (x y : T) → ok_unless fault x ≡ Ok y → (fault ≡ None) × (x ≡ y)
ok_unless-Ok None x y e = (refl, cc)
ok_unless-Ok (Some f) x y e = cc

-- an error: it is the fault
pub ok_unless-Err : {T E : Type 0} (fault : Option E) (x : T) (f : E) → ok_unless fault x ≡ Err f → fault ≡ Some f
ok_unless-Err None x f e = cc
ok_unless-Err (Some g) x f e = cc

-- the test for a value is the test for no fault
pub is_ok-ok_unless : {T E : Type 0} (fault : Option E) (x : T) → is_ok (ok_unless fault x) ≡ is_none fault
is_ok-ok_unless None x = refl
is_ok-ok_unless (Some f) x = refl
