-- The steps of the walks of logs that only proofs read.
pub use Rattle.std.proofs.Common.{List, [], ◌∷◌, ◌++◌, refl}
pub use Rattle.std.proofs.raw_atomic.Walks.{proved}
pub use base.Logic.{id⊢}
pub use base.Fml.{ftrue, flft}
pub use mir.Syntax.{named}
pub use mir.Val.{Val, vunit, vstruct, vnil}
pub use types.Kit.{‵, raw, ◌⊛◌, ◌$◌, ◌∵◌, !, qed, done, move, keep, drop, split, join, fsplit, fsplit3, fjoin, fjoin3, feq_i, suffices, frame}
pub use types.Run.{enter, of_opd, unit_lit, no_more, returns}
pub use types.Part.{agg}
pub use types.ByLocal.{alloc_all, pass_all, free_all, look_at, sets}
pub use denote.Builtin.{u8}
pub use denote.Exit.{yes}
pub use denote.RattleType.{owns}
pub use denote.Ref.{MutRef, ShrRef, mut_vals, mut_Tells, shr_vals, shr_Tells}
pub use denote.Shadow.{pure_i}
pub use denote.Signature.{plain}
pub use denote.Slice.{ShrSlice, shr_slice_vals, shr_slice_Tells}
pub use denote.Steps.{nothing}
pub use denote.Triple.Entry.{on_entry}
pub use denote.Triple.Walked.{says, Stays, stay_ref, stay_none_ref, stay_none_slice, Goes-ref, Goes-none_ref, Goes-none_slice, ends_at}
use Rattle.std.proofs.Common.{ℕ}
use seplogic.Ra.Ura.{Ura}
use base.Logic.{ent}
use base.Fml.{GName, Lft, Share, fobs, fbor}
use types.Logic.{Logic, sem}
use types.Kit.{Goal, Item, Soaks, Step, step, use1}
use types.SemTy.{Body}
use denote.Memory.{mem}
use denote.RattleType.{RattleType}
use denote.Steps.{opens, closes}

module _ {M : Type 1} {𝓤 : Ura M} {𝓛 : Logic 𝓤} {K : Type 0} {Γ : List (Item 𝓤)} where
  open 𝓛 use {H}

  module _ {G : Goal 𝓤 H} where
    -- A log behind a `&mut` is opened, and closed at another value. What the log notes owns nothing.
    pub notes : K → Soaks G → (R : RattleType) → {κ : Lft} {q : Share} {γ : GName} (h h' : R.Denot) (b o : ℕ) → ((vs : List Val) → ent 𝓤 (sem 𝓛 (R.own_val h vs)) (sem 𝓛 (R.own_val h' vs)))
        → Step K 𝓛 (‵ (fobs γ (R.coded.code h')) ∷ ‵ (fbor κ (Body (mem R) b o γ)) ∷ ‵ (flft κ q) ∷ Γ) G (‵ (fobs γ (R.coded.code h)) ∷ ‵ (fbor κ (Body (mem R) b o γ)) ∷ ‵ (flft κ q) ∷ Γ) G
    notes t z R h h' b o still = step (λ s. opens t z R {h = h} b o (λ vs. move t (1 ∷ []) $ use1 𝓛 (‵ (R.own_val h' vs)) (still vs) $ move t (1 ∷ 0 ∷ []) $ closes t z R h' vs b o $ s))
