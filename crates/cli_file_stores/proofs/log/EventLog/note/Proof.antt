-- The body is empty. The log is changed to one with the event at its end.
use Rattle.cli_file_stores.proofs.LogSteps.{List, [], ◌∷◌, ◌++◌, refl, proved, id⊢, ftrue, flft, named, Val, vunit, ‵, ◌⊛◌, ◌$◌, ◌∵◌, !, qed, done, move, keep, drop, split, join, fsplit, fsplit3, fjoin, fjoin3, feq_i, suffices, frame, enter, of_opd, unit_lit, returns, alloc_all, pass_all, free_all, look_at, sets, u8, yes, owns, MutRef, ShrRef, mut_vals, mut_Tells, shr_vals, shr_Tells, plain, ShrSlice, shr_slice_vals, shr_slice_Tells, says, Stays, stay_ref, stay_none_ref, stay_none_slice, Goes-ref, Goes-none_ref, Goes-none_slice, ends_at, notes}
use Rattle.cli_file_stores.specs.Outcomes.{event_of}
use Rattle.cli_file_stores.specs.declared.log.EventLog.{EventLog}
use Rattle.cli_file_stores.specs.contracts.log.EventLog.{the_row as R}
use Rattle.cli_file_stores.specs.contracts.given_bytes.GivenBytes.{the_row as Given}
use Rattle.cli_file_stores.specs.contracts.outcome.Outcome.{the_row as Ended}
use Rattle.cli_file_stores.specs.contracts.log.EventLog.note as f
use Rattle.cli_file_stores.proofs.log.EventLog.note.Statement.{statement}
use Rattle.cli_file_stores.proofs.log.EventLog.note.Code as code

abbrev stayed : Stays f.ended.signature.params f.ended.kept
stayed = (stay_ref (0 ∷ []) tt (plain (λ _. R)), (stay_none_slice (1 ∷ []) tt (plain (λ _. u8)) yes, (stay_none_ref (2 ∷ []) tt (plain (λ _. Given)) yes, (stay_none_ref (3 ∷ []) tt (plain (λ _. Ended)) yes, tt))))

pub note_spec : {M : Type 1} → statement M
note_spec 𝓤 𝓛 𝓜 𝓡 wired =
    let c = f.clauses 𝓛 𝓜.mem 𝓡.returns in
    proved 𝓛 f.ended stayed c 𝓜 𝓡 (Goes-ref 𝓛 4 0 tt (plain (λ _. R)), (Goes-none_slice 𝓛 4 (1 ∷ []) tt (plain (λ _. u8)) yes, (Goes-none_ref 𝓛 4 (2 ∷ []) tt (plain (λ _. Given)) yes, (Goes-none_ref 𝓛 4 (3 ∷ []) tt (plain (λ _. Ended)) yes, tt))))
    f.Key.name code.function (code.unfolded 𝓤 𝓛.H 𝓜 𝓡 wired)
    (λ κs. (mut_vals, (shr_slice_vals, (shr_vals, (shr_vals, tt)))))
    (λ κs. (mut_Tells (named 0) κs.0 R, (shr_slice_Tells (named 1) κs.1.0 u8, (shr_Tells (named 2) κs.1.1.0 Given, (shr_Tells (named 3) κs.1.1.1.0 Ended, tt))))) (λ κs qs bounds a g are.
    let b = a.0.ref_ptr.0 in let o = a.0.ref_ptr.1 in
    let at : List Val × (List Val × (List Val × (List Val × Unit {0}))) = (mut_vals a.0, (shr_slice_vals a.1.0, (shr_vals a.1.1.0, (shr_vals a.1.1.1.0, tt)))) in
    let more : EventLog = record { events = a.0.now.events ++ event_of a.1.0.now a.1.1.0.now.bytes a.1.1.1.0.now ∷ [] } in
    qed 𝓛 (((‵ (flft κs.0 qs.0) ⊛ (‵ (flft κs.1.0 qs.1.0) ⊛ (‵ (flft κs.1.1.0 qs.1.1.0) ⊛ (‵ (flft κs.1.1.1.0 qs.1.1.1.0) ⊛ ‵ ftrue))))
    ⊛ ‵ (owns (MutRef (named 0) κs.0 R ∷ ShrSlice (named 1) κs.1.0 u8 ∷ ShrRef (named 2) κs.1.1.0 Given ∷ ShrRef (named 3) κs.1.1.1.0 Ended ∷ []) a at)) ∷ ‵ ftrue ∷ []) ∵
    split ! $ split ! $ move ! (2 ∷ []) $ fsplit ! $ fsplit3 ! $ drop ! $ move ! (0 ∷ 1 ∷ 3 ∷ []) $
    enter ! _ _ _ _ _ $ alloc_all ! (λ l. pass_all ! refl ((tt, tt), ((tt, (tt, (record { fits = are.1.0.0.1.0 }, tt))), ((tt, tt), ((tt, tt), tt)))) $
    -- [what the log is; its borrow; the token; the other parameters; their tokens]
    notes ! tt R a.0.now more b o (λ vs. id⊢ 𝓤 _) $
    sets ! (of_opd ! (unit_lit !)) refl (tt, tt) $
    returns ! (look_at ! 0 refl) $ free_all ! refl $ keep ! (0 ∷ 1 ∷ 2 ∷ 3 ∷ 4 ∷ []) $
    suffices ! _ (ends_at 𝓛 f.ended stayed c ((κs, qs, bounds, a, at), g) vunit tt (more, (tt, (tt, (tt, tt)))) (tt, (tt, (tt, (tt, tt))))) $ says ! refl $
    move ! (2 ∷ 4 ∷ []) $ join ! $ frame ! $ feq_i ! (List Val) (mut_vals a.0) (mut_vals a.0) refl $ fjoin3 ! $ fjoin ! $
    feq_i ! (List Val) (vunit ∷ []) (vunit ∷ []) refl $ move ! (1 ∷ 0 ∷ []) $ done !))
