-- `into_box` calls `from_raw` with what was kept.
use Rattle.std.proofs.Common.{◌≡◌, List, [], ◌∷◌, ◌++◌, refl, sym, ap, subst}
use base.Fml.{ftrue, flft}
use base.Share
use base.Logic.{SProp, ent, emp, id⊢}
use contract.BorrowLft.{◌⊑◌, ⊑_static}
use contract.Monad.{fact, fact_i}
use contract.Running.{tables}
use mir.MapTy.{inst_fn}
use mir.Syntax.{a_type, impl, dcons, dnil, tcons, tnil}
use mir.Val.{Val}
use prog.Wp.{WpFn}
use types.Kit.{‵, raw, at_ret, fsplit, fpick, ◌⊛◌, some, later, ◌$◌, ◌∵◌, !, qed, done, drop, move, keep, join, split, suffices, fpack, pick, await, feq_i, feq_l, rewrite, use0, use1, use2, group}
use types.Run.{enter, of_opd, stop, fld, first, blocks, exec, no_more, and_then, returns}
use types.ByLocal.{alloc_all, pass_all, free_all, look_at, get, get_in, sets, env, lands_last}
use types.Part.{sub, whole}
use denote.Builtin.{RawPtr}
use denote.Param.{bounded, layout, param}
use denote.Param.Laws.{param_laws}
use denote.Param.NoDrop.{glues}
use denote.Laws.{shows}
use denote.RawPtr.{Ptr, ptr_val}
use denote.Signature.{plain}
use denote.Steps.{nothing, heard, only, peeks}
use denote.Triple.Call.{calls_at_last}
use denote.Triple.Clauses.{Lasts, lasts}
use denote.Triple.Spec.{triple_of}
use denote.Triple.Table.{framed}
use denote.Triple.Walked.{Stays, walk_of, says, ends_at, stay_dropped}
use Rattle.core.proofs.alloc.Calls.{Goes-blank}
use Rattle.std.proofs.raw_atomic.Walks.{proved_at}
use Rattle.std.proofs.VecSteps.Shapes.{after}
use Rattle.std.specs.declared.alloc.Global.{Global}
use Rattle.std.specs.contracts.alloc.Global as heap
use Rattle.std.specs.contracts.impls.GlobalAllocator.TheImpl.{ghosts, dict}
use Rattle.std.proofs.impls.GlobalAllocator.TheImpl.Met.{passed}
use Rattle.std.proofs.alloc.Global.TheLaws as heap_laws
use Rattle.std.specs.Box.{box_allocator}
use Rattle.std.specs.Box.Ownership.{box_owns}
use Rattle.std_alloc.specs.contracts.boxed.Box as box
use Rattle.std_alloc.proofs.boxed.Box.TheLaws as box_laws
use Rattle.std_alloc.specs.contracts.boxed.Box.from_raw as g
use Rattle.std_alloc.proofs.boxed.Box.from_raw.Met.{met}
use Rattle.loose_boxes.proofs.Loose.TheLaws.{lowers}
use Rattle.loose_boxes.proofs.Values.{Z, Z_laws, alone, one, one_fits, pointer_fits}
use Rattle.loose_boxes.specs.contracts.Loose as loose
use Rattle.loose_boxes.specs.contracts.Loose.into_box as f
use Rattle.loose_boxes.proofs.Loose.into_box.Statement.{statement}
use Rattle.loose_boxes.proofs.Loose.into_box.Code as code

pub into_box_spec : {M : Type 1} → statement M
unfolding Rattle.loose_boxes.proofs.Destruct++none.drop.Code.code
into_box_spec {M} 𝓤 𝓛 𝓜 𝓡 wired T laws d drops =
    let En = f.ended T d in let c = f.clauses T d 𝓛 𝓜.mem 𝓡.returns in let hs : Stays En.signature.params En.kept = (stay_dropped _ En.kept.0, (stay_dropped _ En.kept.1.0, tt)) in
    let W = walk_of 𝓛 En hs c in let 𝓣 = tables 𝓤 𝓛.H 𝓜 𝓡 𝓡.env in let ts = bounded (a_type ∷ []) (T, tt) (dcons d dnil) in let fn = inst_fn ts code.function in
    let Lo = loose.the_row (param 0 T) in let B = box.the_row (param 0 T) heap.the_row ghosts in let B_laws = box_laws.the_row_laws (param 0 T) heap.the_row ghosts (param_laws 0 T laws) heap_laws.the_row_laws in
    proved_at 𝓛 En hs c 𝓜 𝓡 (Goes-blank 𝓛 1 (plain (λ _. Lo)) En.kept.0 (λ κs x f. tt), (Goes-blank 𝓛 1 (plain (λ _. heap.the_row)) En.kept.1.0 (λ κs x f. tt), tt))
    (f.Key.name ts) fn (code.unfolded 𝓤 𝓛.H 𝓜 𝓡 wired (T, tt) d) (λ y are.
    let κ = y.0.0.0 in let q = y.0.1.0 in let b = y.0.3.0 in let a = y.0.3.1.0 in let vs = y.0.4.0 in let us = y.0.4.1.0 in
    let it = (lowers (param 0 T) (param_laws 0 T laws)).val_is b vs are.0 in
    let al = alone (layout heap.the_row) us ((heap_laws.the_row_laws.lawful 𝓛).typed a us are.1.0) in let h = al.0 in
    let Run : List Val → List Val → SProp 𝓤 = λ (xs : List Val) (ys : List Val). WpFn 𝓤 𝓛.H 𝓣.C 𝓣.Λ fn (xs ++ (ys ++ [])) (W.post y) in
    qed 𝓛 (((‵ (flft κ q) ⊛ ‵ ftrue) ⊛ ‵ (Lo.own_val b vs) ⊛ ‵ (heap.the_row.own_val a us) ⊛ ‵ ftrue) ∷ raw (fact 𝓤 (κ ⊑ T.lives)) ∷ ‵ ftrue ∷ []) ∵
    split ! $ split ! $ move ! (2 ∷ []) $ split ! $ move ! (1 ∷ []) $ split ! $
    keep ! (5 ∷ 2 ∷ 0 ∷ 3 ∷ []) $ heard ! _ (λ within. fsplit ! $ drop ! $ fpick ! (λ e. rewrite ! 1 (λ (ys : List Val). ‵ (heap.the_row.own_val a ys)) al.1 refl $
    let w = one b.at in
    suffices ! (Run (w ∷ []) (h ∷ [])) (subst (λ (xs : List Val). ent 𝓤 (Run (w ∷ []) (h ∷ [])) (Run xs us)) (sym it)
    (subst (λ (ys : List Val). ent 𝓤 (Run (w ∷ []) (h ∷ [])) (Run (w ∷ []) ys)) (sym al.1) (id⊢ 𝓤 (Run (w ∷ []) (h ∷ []))))) $
    enter ! 𝓣.C 𝓣.Λ fn (w ∷ h ∷ []) (W.post y) $ alloc_all ! (λ l. pass_all ! refl (one_fits (param 0 T) b.at, (al.2, tt)) $
    sets ! (of_opd ! (get_in ! (fld ! refl (stop !)) (sub ! 0 refl (whole !)))) refl (pointer_fits b.at) $
    -- [what is at the pointer; the allocator; the token]
    let gd = impl ("loose_boxes::Destruct++none::drop" ∷ []) (tcons (layout Z) tnil) dnil in
    let G = triple_of 𝓛 (g.signature T Z ghosts dict gd) (g.spec T Z ghosts dict gd 𝓛 𝓜.mem 𝓡.returns) in
    let z : G.Ghost = (((κ, (κ, tt)), (Share.left q, (Share.right q, tt)), tt, (a, (b.at, tt)), (h ∷ [], (ptr_val b.at ∷ [], tt))), b.value) in
    move ! (2 ∷ []) $ use1 𝓛 (‵ (flft κ (Share.left q)) ⊛ ‵ (flft κ (Share.right q))) (𝓛.lfts.lft_split κ q) $ split ! $
    nothing ! $ move ! (2 ∷ 0 ∷ []) $ join ! $ move ! (1 ∷ []) $ join ! $
    nothing ! $ feq_i ! (List Val) (ptr_val b.at ∷ []) (ptr_val b.at ∷ []) refl $ join ! $ move ! (3 ∷ []) $ join ! $ move ! (1 ∷ []) $ join ! $
    use0 𝓛 (raw (fact 𝓤 (κ ⊑ Z.lives))) (fact_i 𝓤 (κ ⊑ Z.lives) (emp 𝓤) (⊑_static κ)) $ use0 𝓛 (raw (fact 𝓤 (κ ⊑ T.lives))) (fact_i 𝓤 (κ ⊑ T.lives) (emp 𝓤) within) $
    move ! (2 ∷ []) $ group ! 4 $ use1 𝓛 (raw (G.pre z)) (id⊢ 𝓤 _) $
    first ! $ blocks ! $
    calls_at_last ! (framed 𝓤 𝓛.H 𝓜 𝓣) G
    (met 𝓤 𝓛 𝓜 𝓡 (code.calls-std_alloc::boxed::Box::from_raw 𝓡.env wired) T Z laws Z_laws ghosts dict gd
    (passed 𝓡.env (code.calls-std_heap::GlobalAllocator::allocate 𝓡.env wired) (code.calls-std_heap::GlobalAllocator::deallocate 𝓡.env wired)
    (code.calls-std_heap::GlobalAllocator::grow 𝓡.env wired) (code.calls-std_heap::GlobalAllocator::shrink 𝓡.env wired) M 𝓤 𝓛 𝓜 𝓡)
    (glues "loose_boxes::Destruct++none::drop" 𝓡.env (code.calls-loose_boxes::Destruct++none::drop 𝓡.env wired) Z Z_laws M 𝓤 𝓛 𝓜 𝓡)) z
    (and_then ! (get ! refl) (and_then ! (get ! refl) (no_more !))) (λ r.
    use1 𝓛 (later (some (λ (x : B.Denot). ((‵ (flft κ (Share.left q)) ⊛ ‵ (flft κ (Share.right q)) ⊛ ‵ ftrue) ⊛ ‵ (B.own_val x (r ∷ [])))
    ⊛ some (λ (ws : Lasts (g.ended T Z ghosts dict gd) z.0.0 z.0.3). ‵ (lasts (g.ended T Z ghosts dict gd) z.0.0 z.0.3 ws)
    ⊛ raw (fact 𝓤 (x.value ≡ b.value)) ⊛ raw (fact 𝓤 (box_allocator x ≡ a)))))) (id⊢ 𝓤 _) $
    await ! tt $ pick ! (λ x. split ! $ split ! $ split ! $ move ! (1 ∷ []) $ split ! $ move ! (2 ∷ 0 ∷ []) $ use2 𝓛 (‵ (flft κ q)) (𝓛.lfts.lft_join κ q) $
    move ! (3 ∷ []) $ pick ! (λ ws. split ! $ drop ! $ split ! $ heard ! _ (λ same. drop ! $ move ! (2 ∷ []) $
    -- [the box; the token]
    peeks ! B _ (shows 𝓛 B) x (r ∷ []) (λ is. let fits = ((B_laws.lawful 𝓛).typed x (r ∷ []) is).0 in
    lands_last ! refl fits $ exec ! 𝓣.C 𝓣.Λ (env fn.locals l) (after 2 fn.body) (at_ret _ (W.post y)) $ sets ! (of_opd ! (get ! refl)) refl fits $
    returns ! (look_at ! 0 refl) $ free_all ! refl $
    suffices ! _ (ends_at 𝓛 En hs c y r x (tt, (tt, tt)) (tt, (tt, tt))) $ says ! same $
    move ! (1 ∷ 2 ∷ []) $ join ! $ nothing ! $ nothing ! $ join ! $ nothing ! $ join ! $ move ! (1 ∷ []) $ done !)))))))))
