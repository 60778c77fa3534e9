-- Whether a journal had no room so far, after calls one after another.
use Rattle.std.proofs.Common.{◌≡◌, ◌≢◌, ℕ, Bool, List, refl, sym, ap, subst}
use Rattle.std.specs.Prelude.{Result, Ok, Err, IsErrAnd, OnOk}
use Rattle.disk_journals.specs.declared.faults.Unkept.{Unkept}
use Rattle.disk_journals.specs.declared.faults.Unkept.TheVariants.{Full, OutOfMemory}
use Rattle.reply_buffer.specs.declared.replies.LineEnd.{LineEnd}
use Rattle.reply_buffer.specs.declared.replies.LineEnd.TheVariants as line
use Rattle.reply_buffer.specs.LineEnds.{Faults}
use Rattle.journal_replay.specs.Keeping.{TellsRoom}
use Rattle.journal_replay.specs.PrivateJournals.{Tells}

-- a call of this kind was given up
abbrev given_up : (B : Type 0) → Unkept → Result B Unkept
given_up B x = Err x

-- a call was given up as the one in it was
pub tells_up : (B : Type 0) {A : Type 0} (r : Result A Unkept) (x : Unkept) (before after : Bool) → IsErrAnd r (λ e. e ≡ x)
    → Tells (given_up B x) before after → Tells r before after
tells_up B (Ok a) x before after is so = absurd is
tells_up B (Err Full) Full before after is so = so
tells_up B (Err Full) OutOfMemory before after is so = absurd (cc (is))
tells_up B (Err OutOfMemory) Full before after is so = absurd (cc (is))
tells_up B (Err OutOfMemory) OutOfMemory before after is so = so

-- memory ran out
pub tells_memory : {A : Type 0} (r : Result A Unkept) (before after : Bool) → IsErrAnd r (λ e. e ≡ OutOfMemory) → after ≡ before → Tells r before after
tells_memory (Ok a) before after is so = absurd is
tells_memory (Err Full) before after is so = absurd (cc (is))
tells_memory (Err OutOfMemory) before after is so = so

-- a journal is opened, which is never full
pub tells_opened : (B : Type 0) {A : Type 0} (r : Result A Unkept) (x : Unkept) (before after : Bool) → IsErrAnd r (λ e. e ≡ x)
    → (given_up B x ≢ Err Full) → after ≡ before → Tells r before after
tells_opened B (Ok a) x before after is other so = absurd is
tells_opened B (Err Full) x before after is other so = absurd (other (ap Err (sym is)))
tells_opened B (Err OutOfMemory) x before after is other so = so

-- after a call that was given up nothing has to hold
pub off_ok : {A : Type 0} (r : Result A Unkept) (x : Unkept) (P : Type 0) → IsErrAnd r (λ e. e ≡ x) → OnOk r P
off_ok (Ok a) x P is = absurd is
off_ok (Err e) x P is = tt

-- it is full, as the call in it found
pub full_up : (B : Type 0) {A : Type 0} (r : Result A Unkept) (x : Unkept) → IsErrAnd r (λ e. e ≡ x) → given_up B x ≡ Err Full → r ≡ Err Full
full_up B (Ok a) x is full = absurd is
full_up B (Err e) Full is full = ap Err is
full_up B (Err e) OutOfMemory is full = absurd (cc (full))

-- no journal was full before that call
pub tells_later : {A : Type 0} (r : Result A Unkept) (before between after : Bool) → between ≡ before → Tells r between after → Tells r before after
tells_later r before between after same so = subst (λ (b : Bool). Tells r b after) same so

-- a faulty line
pub fault_tells : (e : LineEnd) (text waited waits : List ℕ) (full : Bool) → Faults e text waited waits → TellsRoom e full full
fault_tells line.GoesOn text waited waits full ends = absurd ends
fault_tells line.Stops text waited waits full ends = refl
fault_tells line.NoMemory text waited waits full ends = refl
fault_tells line.Full text waited waits full ends = absurd ends
