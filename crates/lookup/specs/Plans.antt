-- What a plan holds, and what adding a FEC makes of it. Assumes nothing.
use Rattle.std.specs.Prelude.{◌≡◌, ℕ, ◌≤◌, Bool, true, false, cond, not, ◌&&◌, List, [], ◌∷◌, ◌++◌, length, Some, None, Ok, Err, vec_items, Option, Result, is_none, ◌==◌, nat_le}
use Rattle.std.specs.Option.{option_map_or}
use Rattle.std.proofs.Common.{arith}
use Rattle.frame.specs.declared.refusal.Refusal.{Refusal}
use Rattle.frame.specs.Numbers.{refusal_number}
use Rattle.lookup.specs.declared.address.Address.{Address}
use Rattle.lookup.specs.declared.fec.Fec.{Fec}
use Rattle.lookup.specs.declared.plan.Plan.{Plan}
use Rattle.lookup.specs.declared.plan.Setting.{Setting}
use Rattle.lookup.specs.declared.plan.Policy.{Policy}
use Rattle.lookup.specs.declared.plan.Policy.TheVariants.{Ordered, Independent}
use Rattle.lookup.specs.Fecs.{fec_of}
use Rattle.lookup.specs.Tables.{add_refusal}

-- the published number of a policy
abbrev pub policy_number : Policy → ℕ
policy_number Ordered = 0
policy_number Independent = 1

-- the policy of a number, if it has one
abbrev pub policy_at : ℕ → Option Policy
policy_at n = cond (n == 0) (Some Ordered) (cond (n == 1) (Some Independent) None)

-- the FECs of a plan in the order added
abbrev pub fecs_of : Plan → List Fec
fecs_of p = vec_items p.fecs

-- how many routers a plan has: 0 of a void one
abbrev pub routers_of : Plan → ℕ
routers_of p = option_map_or (λ s. s.routers) p.setting 0

-- the policy of a plan: 0 of a void one
abbrev pub policy_of : Plan → Policy
policy_of p = option_map_or (λ s. s.policy) p.setting Ordered

-- whether a plan is void: made of numbers out of range
abbrev pub void_of : Plan → Bool
void_of p = is_none p.setting

-- no plan has over 16 routers, and only a void one has none
pub routers_most : (p : Plan) → routers_of p ≤ 16
routers_most p = elim p.setting as (λ o. option_map_or (λ s. s.routers) o 0 ≤ 16) [ None ↦ omega arith | Some s ↦ s.most ]

pub routers_least : (p : Plan) → void_of p ≡ false → 1 ≤ routers_of p
routers_least p = elim p.setting as (λ o. is_none o ≡ false → 1 ≤ option_map_or (λ s. s.routers) o 0) [ None ↦ λ e. cc | Some s ↦ λ _. s.least ]

-- a plan of so many routers and a policy of this number is void
abbrev pub is_void : ℕ → ℕ → Bool
is_void n m = not (nat_le 1 n && nat_le n 16 && nat_le m 1)

-- the policy of a number, or a refusal
abbrev pub PolicyMade : ℕ → Result Policy Refusal → Type 0
PolicyMade m (Ok p) = policy_at m ≡ Some p
PolicyMade m (Err e) = (policy_at m ≡ None) × (refusal_number e ≡ 7)

-- what a plan of n routers and policy m is made with, or a refusal
abbrev pub SettingMade : ℕ → ℕ → Result Setting Refusal → Type 0
SettingMade n m (Ok s) = (is_void n m ≡ false) × (s.routers ≡ n) × (policy_number s.policy ≡ m)
SettingMade n m (Err e) = (is_void n m ≡ true) × (refusal_number e ≡ 7)

-- p is the new plan of n routers and policy m; a void one has 0 routers and policy 0
pub record NewPlan (n m : ℕ) (p : Plan) : Type 0 where
  pub void : void_of p ≡ is_void n m
  pub routers : routers_of p ≡ cond (is_void n m) 0 n
  pub policy : policy_number (policy_of p) ≡ cond (is_void n m) 0 m
  pub fecs : fecs_of p ≡ []

-- a plan p was asked to take the FEC of an address and a length, answered r and is now q
abbrev pub Added : Plan → Address → ℕ → Result ℕ Refusal → Plan → Type 0
Added p a n (Ok k) q =
    (add_refusal (void_of p) (fecs_of p) a n ≡ None) × (k ≡ length (fecs_of p)) × (fecs_of q ≡ fecs_of p ++ fec_of a n ∷ [])
    × (void_of q ≡ void_of p) × (routers_of q ≡ routers_of p) × (policy_of q ≡ policy_of p)
Added p a n (Err e) q = (add_refusal (void_of p) (fecs_of p) a n ≡ Some (refusal_number e)) × (q ≡ p)
