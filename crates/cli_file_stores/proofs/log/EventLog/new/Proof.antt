-- `new` makes a value of no events, at the empty list.
use Rattle.cli_file_stores.proofs.LogSteps.{[], ◌∷◌, refl, proved, Val, vstruct, vnil, raw, ◌$◌, ◌∵◌, !, qed, done, keep, join, suffices, enter, no_more, returns, agg, alloc_all, pass_all, free_all, look_at, sets, pure_i, nothing, on_entry, says, ends_at}
use Rattle.cli_file_stores.specs.declared.log.EventLog.{EventLog}
use Rattle.cli_file_stores.specs.contracts.log.EventLog.{the_row as R}
use Rattle.cli_file_stores.specs.contracts.log.EventLog.new as f
use Rattle.cli_file_stores.proofs.log.EventLog.new.Statement.{statement}
use Rattle.cli_file_stores.proofs.log.EventLog.new.Code as code

abbrev log : EventLog
log = record { events = [] }

pub new_spec : {M : Type 1} → statement M
new_spec 𝓤 𝓛 𝓜 𝓡 wired =
    let c = f.clauses 𝓛 𝓜.mem 𝓡.returns in let v : Val = vstruct vnil in
    proved 𝓛 f.ended tt c 𝓜 𝓡 tt f.Key.name code.function (code.unfolded 𝓤 𝓛.H 𝓜 𝓡 wired) (λ κs. tt) (λ κs. tt) (λ κs qs bounds a g _.
    qed 𝓛 (raw (on_entry 𝓛 f.signature κs qs a tt) ∷ raw ((c κs a).requires g) ∷ []) ∵ keep ! [] $
    enter ! _ _ _ _ _ $ alloc_all ! (λ l. pass_all ! refl tt $
    sets ! (agg ! (no_more !)) refl (tt, tt) $
    returns ! (look_at ! 0 refl) $ free_all ! refl $
    pure_i ! (R.own_val log (v ∷ [])) ((λ vss. (tt, tt)), tt) ((tt, (refl, tt)), tt) $
    suffices ! _ (ends_at 𝓛 f.ended tt c ((κs, qs, bounds, a, tt), g) v log tt tt) $ says ! refl $
    nothing ! $ join ! $ nothing ! $ done !))
