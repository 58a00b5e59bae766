-- How the calls show that they did what the model says. Assumes nothing.
use Rattle.std.proofs.Common.{◌≡◌, ℕ, Bool, true, false, cond, Some, None, Err, Option, Result, sym, refl, ap, ◌∙◌, subst}
use Rattle.frame.specs.declared.refusal.Refusal.{Refusal}
use Rattle.frame.specs.Numbers.{refusal_number}
use Rattle.plant.specs.Plants.{PlantValue}
use Rattle.lookup.specs.declared.address.Address.{Address}
use Rattle.model.specs.Calls.{State, Call, Answer, refused, refusal}
use Rattle.model.specs.History.{Did}
use Rattle.model.proofs.Citing.{did_refused, did_stand}
use Rattle.network.specs.declared.routers.Routers.{Routers}
use Rattle.network.specs.Networks.{plan_of, state_of, Keeps}

pub keeps_all : (n : Routers) → Keeps n n
keeps_all n = record { plan = refl; still = refl; tables = record { policy = refl; wiring = refl; lines = refl } }

module _ {X : Type 0} (n : Routers) (v : PlantValue) (c : Call Address) (answer : Result X Refusal → Answer) (r : Result X Refusal) (e : Refusal) where
  -- a refusal that was handed on as the call's answer
  handed : answer (Err e) ≡ refused (refusal_number e) → r ≡ Err e → (s : State Address) → Did n.still (plan_of n.plan) s c (refused (refusal_number e)) s
      → Did n.still (plan_of n.plan) s c (answer r) s
  handed p q s = subst (λ a. Did n.still (plan_of n.plan) s c a s) (sym (ap answer q ∙ p))

  -- a network that stands still refuses with 22
  pub stands : answer (Err e) ≡ refused (refusal_number e) → r ≡ Err e → Some (refusal_number e) ≡ cond n.still (Some 22) None
      → Did n.still (plan_of n.plan) (state_of n v) c (answer r) (state_of n v)
  stands p q h = handed p q (state_of n v) (go n.still h)
    where
      go : (b : Bool) → Some (refusal_number e) ≡ cond b (Some 22) None → Did b (plan_of n.plan) (state_of n v) c (refused (refusal_number e)) (state_of n v)
      go true h =
          let same : 22 ≡ refusal_number e = cc h in
          subst (λ k. Did true (plan_of n.plan) (state_of n v) c (refused k) (state_of n v)) same (did_stand (plan_of n.plan) (state_of n v) c)
      go false h = cc

-- a network that does not refuse so runs
pub going : (b : Bool) → None ≡ cond {A = Option ℕ} b (Some 22) None → b ≡ false
going true q = cc
going false q = refl

module _ (n : Routers) (v : PlantValue) (c : Call Address) where
  pub runs : {a : Answer} {s : State Address} → n.still ≡ false → Did false (plan_of n.plan) (state_of n v) c a s → Did n.still (plan_of n.plan) (state_of n v) c a s
  runs {a} {s} e d = subst (λ b. Did b (plan_of n.plan) (state_of n v) c a s) (sym e) d

  pub refuses : n.still ≡ false → (k : ℕ) → Some k ≡ refusal (plan_of n.plan) v.shape c (state_of n v)
      → Did n.still (plan_of n.plan) (state_of n v) c (refused k) (state_of n v)
  refuses e k q = runs e (did_refused (plan_of n.plan) (state_of n v) c k (sym q))

  -- and hands the refusal on
  pub stops : {X : Type 0} (answer : Result X Refusal → Answer) (r : Result X Refusal) (e : Refusal) → answer (Err e) ≡ refused (refusal_number e) → r ≡ Err e
      → n.still ≡ false → Some (refusal_number e) ≡ refusal (plan_of n.plan) v.shape c (state_of n v)
      → Did n.still (plan_of n.plan) (state_of n v) c (answer r) (state_of n v)
  stops answer r e p q h k = handed n v c answer r e p q (state_of n v) (refuses h (refusal_number e) k)
