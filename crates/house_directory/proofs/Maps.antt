-- Directories of a house after one was written, and results.
use Rattle.std.proofs.Common.{◌≡◌, Bool, true, false, cond, List, Option, Some, None, Result, Ok, Err, refl, sym, ap, ◌∙◌}
use Rattle.std.specs.Prelude.{IfOk}
use Rattle.std.specs.FinMap.{FinMap, get, insert, from_entries, get-insert, same_map}
use Rattle.std.specs.BTreeMap.{is_at}
use Rattle.std.specs.Map.{lookup}
use Rattle.std.specs.Ordering.{eq_by_cmp}
use Rattle.std.specs.Result.{result_err}
use Rattle.cds_stamps.specs.declared.numbers.DirId.{DirId}
use Rattle.cds_stamps.proofs.TreeViews.{get-view, view-insert}
use Rattle.cds_stamps.specs.Keyed.{ties_are_equal}
use Rattle.cds_stamps.specs.Outcomes.{ok_unless}
use Rattle.cds_messages.specs.Dirs.{dir_cmp, dir_total, dir_exact}
use borrow.Follows.Closed.{read_of}
use base.Fml.{GName}
use mathlib.Core.Option as logic

-- the view of a tree after one write
pub written : {X : Type 0} (m : FinMap dir_cmp X) (es fs : List (DirId × X)) (k : DirId) (x : X) → from_entries es ≡ m
    → ((q : DirId) → lookup (is_at (dir_cmp q)) fs ≡ cond (is_at (dir_cmp k) q) (Some x) (lookup (is_at (dir_cmp q)) es)) → from_entries fs ≡ insert m k x
written m es fs k x view h = view-insert dir_total dir_exact es fs k x h ∙ ap (λ m. insert m k x) view

-- a look-up in the view is one in the tree
pub found : {X : Type 0} (m : FinMap dir_cmp X) (es : List (DirId × X)) (k : DirId) → from_entries es ≡ m → get m k ≡ lookup (is_at (dir_cmp k)) es
found m es k view = ap (λ m. get m k) (sym view) ∙ get-view dir_total es k

-- to write what is there changes nothing
pub unchanged : {X : Type 0} (m : FinMap dir_cmp X) (k : DirId) (x : X) → get m k ≡ Some x → insert m k x ≡ m
unchanged m k x here = same_map dir_total dir_exact _ _ (λ q. get-insert dir_total m k x q ∙ by q (eq_by_cmp dir_cmp q k) refl)
  where
    by : (q : DirId) (b : Bool) → eq_by_cmp dir_cmp q k ≡ b → cond b (Some x) (get m q) ≡ get m q
    by q true same = sym here ∙ ap (get m) (sym (ties_are_equal dir_exact q k same))
    by q false other = refl

-- two borrows of one name that end alike, written or not
pub same_ends : {D E : Type 0} (name : logic.Option GName) (f g : E → D) (u v : D) → ((w : E) → f w ≡ g w) → u ≡ v → read_of name f u ≡ read_of name g v
same_ends name f g u v written kept = λ i. read_of name (λ w. written w i) (kept i)

-- what follows from the value of an answer
pub if_ok_map : {T E : Type 0} (P Q : T → Type 0) (r : Result T E) → ((x : T) → P x → Q x) → IfOk r P → IfOk r Q
if_ok_map P Q (Ok x) f h = f x h
if_ok_map P Q (Err e) f h = tt

-- the fault of an answer that was sought, if there is one
pub err_unless : {T E : Type 0} (fault : Option E) (x : T) → result_err (ok_unless fault x) ≡ fault
err_unless None x = refl
err_unless (Some f) x = refl
