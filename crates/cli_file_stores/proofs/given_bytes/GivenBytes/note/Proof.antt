-- The body is empty. The log is changed to one with the bytes at its end.
use Rattle.cli_file_stores.proofs.LogSteps.{List, [], ◌∷◌, ◌++◌, refl, proved, id⊢, ftrue, flft, named, Val, vunit, ‵, ◌⊛◌, ◌$◌, ◌∵◌, !, qed, done, move, keep, drop, split, join, fsplit, fsplit3, fjoin, fjoin3, feq_i, suffices, frame, enter, of_opd, unit_lit, returns, alloc_all, pass_all, free_all, look_at, sets, u8, yes, owns, MutRef, mut_vals, mut_Tells, plain, ShrSlice, shr_slice_vals, shr_slice_Tells, says, Stays, stay_ref, stay_none_slice, Goes-ref, Goes-none_slice, ends_at, notes}
use Rattle.cli_file_stores.specs.declared.given_bytes.GivenBytes.{GivenBytes}
use Rattle.cli_file_stores.specs.contracts.given_bytes.GivenBytes.{the_row as R}
use Rattle.cli_file_stores.specs.contracts.given_bytes.GivenBytes.note as f
use Rattle.cli_file_stores.proofs.given_bytes.GivenBytes.note.Statement.{statement}
use Rattle.cli_file_stores.proofs.given_bytes.GivenBytes.note.Code as code

abbrev stayed : Stays f.ended.signature.params f.ended.kept
stayed = (stay_ref (0 ∷ []) tt (plain (λ _. R)), (stay_none_slice (1 ∷ []) tt (plain (λ _. u8)) yes, tt))

pub note_spec : {M : Type 1} → statement M
note_spec 𝓤 𝓛 𝓜 𝓡 wired =
    let c = f.clauses 𝓛 𝓜.mem 𝓡.returns in
    proved 𝓛 f.ended stayed c 𝓜 𝓡 (Goes-ref 𝓛 2 0 tt (plain (λ _. R)), (Goes-none_slice 𝓛 2 (1 ∷ []) tt (plain (λ _. u8)) yes, tt))
    f.Key.name code.function (code.unfolded 𝓤 𝓛.H 𝓜 𝓡 wired)
    (λ κs. (mut_vals, (shr_slice_vals, tt))) (λ κs. (mut_Tells (named 0) κs.0 R, (shr_slice_Tells (named 1) κs.1.0 u8, tt))) (λ κs qs bounds a g are.
    let b = a.0.ref_ptr.0 in let o = a.0.ref_ptr.1 in
    let at : List Val × (List Val × Unit {0}) = (mut_vals a.0, (shr_slice_vals a.1.0, tt)) in
    let more : GivenBytes = record { bytes = a.0.now.bytes ++ a.1.0.now } in
    qed 𝓛 (((‵ (flft κs.0 qs.0) ⊛ (‵ (flft κs.1.0 qs.1.0) ⊛ ‵ ftrue)) ⊛ ‵ (owns (MutRef (named 0) κs.0 R ∷ ShrSlice (named 1) κs.1.0 u8 ∷ []) a at)) ∷ ‵ ftrue ∷ []) ∵
    split ! $ split ! $ move ! (2 ∷ []) $ fsplit ! $ fsplit3 ! $ drop ! $ move ! (0 ∷ 1 ∷ 3 ∷ []) $
    enter ! _ _ _ _ _ $ alloc_all ! (λ l. pass_all ! refl ((tt, tt), ((tt, (tt, (record { fits = are.1.0.0.1.0 }, tt))), tt)) $
    -- [what the log is; its borrow; the token; the other parameter; its token]
    notes ! tt R a.0.now more b o (λ vs. id⊢ 𝓤 _) $
    sets ! (of_opd ! (unit_lit !)) refl (tt, tt) $
    returns ! (look_at ! 0 refl) $ free_all ! refl $ keep ! (0 ∷ 1 ∷ 2 ∷ 3 ∷ 4 ∷ []) $
    suffices ! _ (ends_at 𝓛 f.ended stayed c ((κs, qs, bounds, a, at), g) vunit tt (more, (tt, tt)) (tt, (tt, tt))) $ says ! refl $
    move ! (2 ∷ 4 ∷ []) $ join ! $ frame ! $ feq_i ! (List Val) (mut_vals a.0) (mut_vals a.0) refl $ fjoin3 ! $ fjoin ! $
    feq_i ! (List Val) (vunit ∷ []) (vunit ∷ []) refl $ move ! (1 ∷ 0 ∷ []) $ done !))
