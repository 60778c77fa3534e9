-- The machine value of a pointer that owns a box, and what it owns.
use Rattle.std.proofs.Common.{◌≡◌, List, [], ◌∷◌, refl, lit<}
use lib.Dec.{T}
use mir.Syntax.{Ty, ty_ptr}
use mir.Raw.{raw}
use mir.Val.{Val, vstruct, vcons, vnil, has_ty, WT}
use seplogic.Ra.Ura.{Ura}
use types.Logic.{Logic}
use types.Kit.{Item, Goal, Seq, Step, step, ‵, ◌$◌, ◌∵◌, !, move, fjoin, fpack, feq_i}
use denote.RattleType.{RattleType, Valss}
use denote.Builtin.{RawPtr}
use denote.Laws.{Typed}
use denote.Exit.{no}
use denote.Param.{arg, layout}
use denote.Param.Laws.{Laws, arg_laws}
use denote.RawPtr.{Ptr, block_ptr, null_ptr, ptr_val}
use denote.Steps.{nothing}
use denote.Struct.Struct.{within}
use denote.Struct.Owning.{shape}
use Rattle.std.specs.contracts.alloc.Global as heap
use Rattle.std.proofs.alloc.Global.TheLaws as heap_laws
use Rattle.loose_boxes.specs.Boxed.{boxed_at}
use Rattle.loose_boxes.specs.contracts.Loose as loose

-- the allocator as a call passes it
abbrev pub Z : RattleType
Z = arg (raw (layout heap.the_row)) no heap.the_row

pub Z_laws : Laws Z
Z_laws = arg_laws (raw (layout heap.the_row)) no heap.the_row heap_laws.the_row_laws refl

-- in memory: the pointer alone
abbrev pub one : Ptr → Val
one p = vstruct (vcons (ptr_val p) vnil)

-- a list of machine values of one type has one value, which has that type
pub alone : (τ : Ty) (vs : List Val) → Typed (τ ∷ []) vs → (v : Val) × (vs ≡ v ∷ []) × (T (has_ty τ v) × WT v)
alone τ [] fits = absurd fits
alone τ (v ∷ []) fits = (v, refl, fits.0)
alone τ (v ∷ w ∷ vs) fits = absurd fits.1

pub pointer_fits : (p : Ptr) → T (has_ty ty_ptr (ptr_val p)) × WT (ptr_val p)
pointer_fits null_ptr = (tt, record { fits = lit< tt })
pointer_fits (block_ptr b o) = (tt, tt)

pub one_fits : (R : RattleType) (p : Ptr) → T (has_ty (layout (loose.the_row R)) (one p)) × WT (one p)
one_fits R null_ptr = (tt, (record { fits = lit< tt }, tt))
one_fits R (block_ptr b o) = (tt, (tt, tt))

module _ {M : Type 1} {𝓤 : Ura M} {𝓛 : Logic 𝓤} {K : Type 0} {Γ : List (Item 𝓤)} {G : Goal 𝓤 𝓛.H} (R : RattleType) where
  -- it is made of what it owns
  pub made : K → (p : Ptr) (x : R.Denot)
      → Step K 𝓛 (‵ ((loose.the_row R).own_val (record { at = p; value = x }) (one p ∷ [])) ∷ Γ) G (‵ (boxed_at R p x) ∷ Γ) G
  made t p x = step (λ s.
      nothing t $ feq_i t (List Val) (ptr_val p ∷ []) (ptr_val p ∷ []) refl $ fjoin t $ feq_i t (List Val) (one p ∷ []) (one p ∷ []) refl $ fjoin t $
      fpack t (Valss (RawPtr ∷ [])) (within (shape (loose.the_type R)) (p, tt) (one p ∷ [])) (ptr_val p ∷ [], tt) $ fjoin t $ s)
