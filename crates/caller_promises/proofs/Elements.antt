-- What is lent tells that it holds values of its type, once it is looked at (⇛): a slice that is lent to be read, of each of
-- its elements, and what stands behind a `&mut`. So it is of any parameter of any function, and in every model of the logic.
use Prim.Native.Nat.{ℕ, zero, suc}
use mathlib.Core.Path.{◌≡◌}
use mathlib.Core.List.{List, [], ◌∷◌}
use mir.Syntax.{Lifetime, named, erased}
use mir.Val.{Val}
use base.Logic.{ent, sep, id⊢, via, mono∗, mono_l, comm∗, fst∗, snd∗, guard, guard_e}
use base.Fml.{Lft, Fml, ftrue, flft, Share}
use types.Logic.{sem}
use types.Kit.{◌$◌, !, ‵, qed, updating, fsplit, fjoin, drop, move, now, by, done}
use contract.Lifetimes.{Lfts, Shares, Within, lft_at, toks}
use contract.Monad.{fact, fact_i}
use denote.Laws.{Is, shows}
use denote.RattleType.{RattleType, Valss, owns}
use denote.Ref.{Bor, MutBor, MutRef}
use denote.Signature.{type_at, types_at}
use denote.Slice.{ShrSlice}
use denote.Steps.{opens, facts}
use denote.Triple.Entry.{on_entry}
use borrow.Fn.Kinds.{ParamKind, ResultKind, sig_of, slot_of, slots, Dens}
use borrow.Fn.World.{World}
use borrow.Rule.Slice.Know.{AllWt, shs_known}
use borrow.Table.Owned as Apart
use borrow.Table.Referent.{Rf, DenF, rt_f}

-- what the parameter at place k owns, at its machine values
abbrev pub own_at : {n : ℕ} (κs : Lfts n) (ps : List (ParamKind n)) → Dens κs ps → Valss (types_at (slots ps) κs) → (k : ℕ) → Fml
own_at κs [] a vss k = ftrue
own_at κs (p ∷ ps) a vss zero = (type_at (slot_of p) κs).own_val a.0 vss.0
own_at κs (p ∷ ps) a vss (suc k) = own_at κs ps a.1 vss.1 k

-- the share of lifetime j's token
abbrev pub share_at : (n j : ℕ) → Within n j → Shares n → Share
share_at zero j ok qs = absurd ok
share_at (suc n) zero ok qs = qs.0
share_at (suc n) (suc j) ok qs = share_at n j ok qs.1

module _ (w : World) where
  owned_at : {n : ℕ} (κs : Lfts n) (ps : List (ParamKind n)) (a : Dens κs ps) (vss : Valss (types_at (slots ps) κs)) (k : ℕ)
      → ent w.𝓤 (sem w.𝓛 (owns (types_at (slots ps) κs) a vss)) (sem w.𝓛 (own_at κs ps a vss k))
  owned_at κs [] a vss k = id⊢ w.𝓤 (sem w.𝓛 ftrue)
  owned_at κs (p ∷ ps) a vss zero = fst∗ w.𝓤 (sem w.𝓛 ((type_at (slot_of p) κs).own_val a.0 vss.0)) (sem w.𝓛 (owns (types_at (slots ps) κs) a.1 vss.1))
  owned_at κs (p ∷ ps) a vss (suc k) =
      let rest = sem w.𝓛 (owns (types_at (slots ps) κs) a.1 vss.1) in
      via w.𝓤 rest (snd∗ w.𝓤 (sem w.𝓛 ((type_at (slot_of p) κs).own_val a.0 vss.0)) rest) (owned_at κs ps a.1 vss.1 k)

  running : (n j : ℕ) (ok : Within n j) (κs : Lfts n) (qs : Shares n)
      → ent w.𝓤 (toks w.𝓛 n κs qs) (w.𝓛.A.lft (lft_at n j ok κs) (share_at n j ok qs))
  running zero j ok κs qs = absurd ok
  running (suc n) zero ok κs qs = fst∗ w.𝓤 (w.𝓛.A.lft κs.0 qs.0) (toks w.𝓛 n κs.1 qs.1)
  running (suc n) (suc j) ok κs qs =
      let rest = toks w.𝓛 n κs.1 qs.1 in
      via w.𝓤 rest (snd∗ w.𝓤 (w.𝓛.A.lft κs.0 qs.0) rest) (running n j ok κs.1 qs.1)

  -- what the parameter at place k owns, and the share of lifetime j's token
  lent_at : {n : ℕ} (ps : List (ParamKind n)) (r : ResultKind n) (κs : Lfts n) (qs : Shares n) (a : Dens κs ps) (vss : Valss (types_at (slots ps) κs)) (k j : ℕ) (ok : Within n j) {F : Fml} → own_at κs ps a vss k ≡ F
      → ent w.𝓤 (on_entry w.𝓛 (sig_of n ps r) κs qs a vss) (sep w.𝓤 (sem w.𝓛 F) (w.𝓛.A.lft (lft_at n j ok κs) (share_at n j ok qs)))
  lent_at {n} ps r κs qs a vss k j ok {F} held =
      let 𝓤 = w.𝓤 in
      let live = w.𝓛.A.lft (lft_at n j ok κs) (share_at n j ok qs) in
      via 𝓤 (sep 𝓤 live (sem w.𝓛 F))
      (mono∗ 𝓤 (running n j ok κs qs) (rw held at (owned_at κs ps a vss k)))
      (comm∗ 𝓤 live (sem w.𝓛 F))

  -- what a slice that is lent to be read owns, apart from its machine value
  apart : (f : Rf) (ℓ : Lifetime) (κ : Lft) (x : Bor (List (DenF f))) (vs : List Val)
      → ent w.𝓤 (sem w.𝓛 ((ShrSlice ℓ κ (rt_f f)).own_val x vs)) (sem w.𝓛 ((Apart.ShrSlice erased κ (rt_f f)).own_val x))
  apart f ℓ κ x vs =
      qed w.𝓛 (‵ ((ShrSlice ℓ κ (rt_f f)).own_val x vs) ∷ []) {P = sem w.𝓛 ((Apart.ShrSlice erased κ (rt_f f)).own_val x)} (
      fsplit ! $ fsplit ! $ drop ! $ fjoin ! $ done !)

  -- the parameter at place k is a slice of values of type f, lent for lifetime j, and their types tell φ
  pub elements_owned : {n : ℕ} (ps : List (ParamKind n)) (r : ResultKind n) (κs : Lfts n) (qs : Shares n) (a : Dens κs ps) (vss : Valss (types_at (slots ps) κs))
      (f : Rf) (k j : ℕ) (ok : Within n j) (x : Bor (List (DenF f))) {vs : List Val} {φ : Type 0}
      → own_at κs ps a vss k ≡ (ShrSlice (named j) (lft_at n j ok κs) (rt_f f)).own_val x vs
      → (AllWt f x.now → φ) → ent w.𝓤 (on_entry w.𝓛 (sig_of n ps r) κs qs a vss) (w.𝓛.H.⇛ (fact w.𝓤 φ))
  elements_owned {n} ps r κs qs a vss f k j ok x {vs} {φ} slice tells =
      let 𝓤 = w.𝓤 in
      let held = sem w.𝓛 ((Apart.ShrSlice erased (lft_at n j ok κs) (rt_f f)).own_val x) in
      let live = w.𝓛.A.lft (lft_at n j ok κs) (share_at n j ok qs) in
      let fit = AllWt f x.now in
      via 𝓤 (sep 𝓤 (sem w.𝓛 ((ShrSlice (named j) (lft_at n j ok κs) (rt_f f)).own_val x vs)) live) (lent_at ps r κs qs a vss k j ok slice)
      (via 𝓤 (sep 𝓤 held live) (mono_l 𝓤 live (apart f (named j) (lft_at n j ok κs) x vs))
      (via 𝓤 (w.𝓛.H.⇛ (guard 𝓤 fit (sep 𝓤 held live)))
      (shs_known w.𝓛 f (lft_at n j ok κs) (share_at n j ok qs) x.ref_ptr.0 x.ref_ptr.1 x.now)
      (w.𝓛.laws.⇛_mono (guard 𝓤 fit (sep 𝓤 held live)) (fact 𝓤 φ) (guard_e 𝓤 fit (sep 𝓤 held live) (λ fits. fact_i 𝓤 φ (sep 𝓤 held live) (tells fits))))))

  -- the parameter at place k is a `&mut` to a value of type R, lent for lifetime j, and what R says of its values tells φ
  pub referent_owned : {n : ℕ} (ps : List (ParamKind n)) (r : ResultKind n) (κs : Lfts n) (qs : Shares n) (a : Dens κs ps) (vss : Valss (types_at (slots ps) κs))
      (R : RattleType) (k j : ℕ) (ok : Within n j) (x : MutBor R.Denot) {vs : List Val} {φ : Type 0}
      → own_at κs ps a vss k ≡ (MutRef (named j) (lft_at n j ok κs) R).own_val x vs
      → ((vs : List Val) → Is R x.now vs → φ) → ent w.𝓤 (on_entry w.𝓛 (sig_of n ps r) κs qs a vss) (w.𝓛.H.⇛ (fact w.𝓤 φ))
  referent_owned {n} ps r κs qs a vss R k j ok x {vs} {φ} lent tells =
      let 𝓤 = w.𝓤 in
      let own = (MutRef (named j) (lft_at n j ok κs) R).own_val x vs in
      via 𝓤 (sep 𝓤 (sem w.𝓛 own) (w.𝓛.A.lft (lft_at n j ok κs) (share_at n j ok qs))) (lent_at ps r κs qs a vss k j ok lent)
      (qed w.𝓛 (‵ own ∷ ‵ (flft (lft_at n j ok κs) (share_at n j ok qs)) ∷ []) {P = w.𝓛.H.⇛ (fact 𝓤 φ)} (
      updating ! $ fsplit ! $ drop ! $ fsplit ! $ opens ! tt R x.ref_ptr.0 x.ref_ptr.1 (λ us. move ! (1 ∷ []) $
      facts ! R (Is R) (shows w.𝓛 R) x.now us (λ is. now ! $ by ! (fact_i 𝓤 φ _ (tells us is))))))
