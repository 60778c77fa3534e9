-- `into_loose` tests whether the pointer is null.
use Rattle.std.proofs.Common.{◌≡◌, List, [], ◌∷◌, ◌++◌, refl, sym, ap, subst, lit<, ◌∙◌}
use Rattle.std.specs.Prelude.{None, Option, Some}
use base.Fml.{ftrue}
use base.Logic.{SProp, ent, id⊢, emp}
use contract.Running.{tables}
use lib.Dec.{T}
use mir.Val.{Val, WT, has_ty, vcons, vnil}
use prog.Wp.{WpFn}
use types.Kit.{‵, ◌⊛◌, at_ret, use0, use1, ◌$◌, ◌∵◌, !, qed, done, drop, keep, join, split, fsplit, suffices}
use types.Run.{enter, of_opd, lit, bin, first, branches, exec, stop, fld, no_more, and_then, returns}
use types.ByLocal.{alloc_all, pass_all, free_all, look_at, get, get_in, sets, sets_last, env}
use types.Match.{live}
use types.Part.{agg, sub, whole}
use denote.RawPtr.{Ptr, block_ptr, null_ptr, tests_null}
use denote.RattleType.{RattleType}
use denote.Param.{layout}
use denote.Signature.{plain, type_at}
use denote.Steps.{nothing}
use denote.Triple.Walked.{Stays, walk_of, says, ends_at, stay_dropped}
use Rattle.core.proofs.alloc.Calls.{Goes-blank}
use Rattle.std.proofs.raw_atomic.Walks.{proved_at}
use Rattle.loose_boxes.specs.contracts.Loose as loose
use Rattle.house_handles.proofs.handle.HouseHandle.TheLaws.{lowers}
use Rattle.loose_boxes.proofs.Values as boxes
use Rattle.core.proofs.option.Made.{Some-of, none_of}
use Rattle.std.proofs.VecSteps.Shapes.{after}
use Rattle.loose_boxes.proofs.Values.{made, one, pointer_fits}
use Rattle.house_sessions.specs.contracts.session.Session as session
use Rattle.house_sessions.specs.declared.session.Session.{Session}
use Rattle.house_handles.proofs.Values.{either, one_fits}
use Rattle.house_handles.specs.contracts.handle.HouseHandle as handle
use Rattle.house_handles.specs.contracts.handle.HouseHandle.into_loose as f
use Rattle.house_handles.proofs.handle.HouseHandle.into_loose.Statement.{statement}
use Rattle.house_handles.proofs.handle.HouseHandle.into_loose.Code as code

abbrev stayed : Stays f.ended.signature.params f.ended.kept
stayed = (stay_dropped _ f.ended.kept.0, tt)

pub into_loose_spec : {M : Type 1} → statement M
into_loose_spec 𝓤 𝓛 𝓜 𝓡 wired =
    let c = f.clauses 𝓛 𝓜.mem 𝓡.returns in let W = walk_of 𝓛 f.ended stayed c in let 𝓣 = tables 𝓤 𝓛.H 𝓜 𝓡 𝓡.env in let fn = code.function in
    let H = handle.the_row in let Lo = loose.the_row session.the_row in
    proved_at 𝓛 f.ended stayed c 𝓜 𝓡 (Goes-blank 𝓛 0 (plain (λ _. H)) f.ended.kept.0 (λ κs x f. tt), tt) f.Key.name fn (code.unfolded 𝓤 𝓛.H 𝓜 𝓡 wired) (λ y are.
    let h = y.0.3.0 in let vs = y.0.4.0 in let it = lowers.val_is h vs are.0 in let Out : RattleType = type_at f.ended.signature.result y.0.0 in
    let Run : List Val → SProp 𝓤 = λ (us : List Val). WpFn 𝓤 𝓛.H 𝓣.C 𝓣.Λ fn us (W.post y) in
    let enters : (p : Ptr) → h.at ≡ p → ent 𝓤 (Run (one p ∷ [])) (Run (vs ++ [])) = λ (p : Ptr) (is : h.at ≡ p).
    subst (λ (us : List Val). ent 𝓤 (Run (one p ∷ [])) (Run us)) (sym (ap (λ (us : List Val). us ++ []) (it ∙ ap (λ (r : Ptr). one r ∷ []) is))) (id⊢ 𝓤 (Run (one p ∷ []))) in
    qed 𝓛 ((‵ ftrue ⊛ ‵ (H.own_val h vs) ⊛ ‵ ftrue) ∷ ‵ ftrue ∷ []) ∵ split ! $ drop ! $ split ! $ keep ! (0 ∷ []) $ fsplit ! $ drop ! $
    either ! h.at h.held
    (λ is none. suffices ! (Run (one null_ptr ∷ [])) (enters null_ptr is) $
    enter ! 𝓣.C 𝓣.Λ fn (one null_ptr ∷ []) (W.post y) $ alloc_all ! (λ at. pass_all ! refl (one_fits null_ptr, tt) $
    sets ! (of_opd ! (get_in ! (fld ! refl (stop !)) (sub ! 0 refl (whole !)))) refl (pointer_fits null_ptr) $
    sets ! (bin ! (get ! refl) (lit ! tt) tt) refl (tt, tt) $ first ! $ branches ! (get ! refl)
    (λ _. sets_last ! (agg ! (and_then ! (lit ! tt) (no_more !))) refl (tt, (record { fits = lit< tt }, tt)) $
    exec ! 𝓣.C 𝓣.Λ (env fn.locals at) (after 3 fn.body) (at_ret _ (W.post y)) $
    sets ! (of_opd ! (get ! refl)) refl (tt, (record { fits = lit< tt }, tt)) $ returns ! (look_at ! 0 refl) $ free_all ! refl $
    use0 𝓛 (‵ (Out.own_val None (live 0 vnil ∷ []))) (none_of 𝓛 Lo) $
    suffices ! _ (ends_at 𝓛 f.ended stayed c y (live 0 vnil) None (tt, tt) (tt, tt)) $ says ! (sym none) $ nothing ! $ nothing ! $ join ! $ nothing ! $ done !)
    (λ wrong. absurd wrong)))
    (λ b o s is some test. suffices ! (Run (one (block_ptr b o) ∷ [])) (enters (block_ptr b o) is) $
    enter ! 𝓣.C 𝓣.Λ fn (one (block_ptr b o) ∷ []) (W.post y) $ alloc_all ! (λ at. pass_all ! refl (one_fits (block_ptr b o), tt) $
    sets ! (of_opd ! (get_in ! (fld ! refl (stop !)) (sub ! 0 refl (whole !)))) refl (pointer_fits (block_ptr b o)) $
    sets ! (bin ! (get ! refl) (lit ! tt) (tests_null (block_ptr b o) test)) refl (tt, tt) $ first ! $ branches ! (get ! refl)
    (λ wrong. absurd wrong) (λ _.
    let l : Lo.Denot = record { at = block_ptr b o; value = s } in let v = live 1 (vcons (one (block_ptr b o)) vnil) in
    let good : T (has_ty (layout Out) v) × WT v = (tt, (record { fits = lit< tt }, ((boxes.one_fits session.the_row (block_ptr b o)).1, tt))) in
    sets ! (of_opd ! (get ! refl)) refl (pointer_fits (block_ptr b o)) $ sets ! (agg ! (and_then ! (get ! refl) (no_more !))) refl (boxes.one_fits session.the_row (block_ptr b o)) $
    sets_last ! (agg ! (and_then ! (lit ! tt) (and_then ! (get ! refl) (no_more !)))) refl good $
    exec ! 𝓣.C 𝓣.Λ (env fn.locals at) (after 3 fn.body) (at_ret _ (W.post y)) $ sets ! (of_opd ! (get ! refl)) refl good $ returns ! (look_at ! 0 refl) $ free_all ! refl $
    made session.the_row ! (block_ptr b o) s $ use1 𝓛 (‵ (Out.own_val (Some l) (v ∷ []))) (Some-of 𝓛 Lo l (one (block_ptr b o))) $
    suffices ! _ (ends_at 𝓛 f.ended stayed c y v (Some l) (tt, tt) (tt, tt)) $ says ! (sym some) $ nothing ! $ nothing ! $ join ! $ nothing ! $ done !))))
