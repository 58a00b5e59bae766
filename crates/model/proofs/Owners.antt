-- The owner marks through each change of the tables, and what a call that is not refused tells. Assumes nothing.
use Rattle.std.proofs.Common.{◌≡◌, ℕ, suc, ◌<◌, ◌≤◌, Bool, true, false, cond, ◌&&◌, eqb, Some, None, Option, arith}
use Rattle.std.proofs.lemmas.Bool.Decides.{nat_tests}
use Rattle.plant.specs.Plants.{Shape}
use Rattle.model.specs.Tables.{Tables, put2, is_label, refresh, tidy}
use Rattle.model.specs.Calls.{Call, hop_refusal, is_this}
use Rattle.model.specs.History.{owned_by}
use Rattle.model.proofs.Views.{num}

-- the owner marks stand through a refresh
module _ (S : Shape) where
  pub tidy_owner : (r l : ℕ) (t : Tables) → (tidy S r l t).owner ≡ t.owner
  tidy_owner r l t = grind arith

  pub refresh_owner : (independent : Bool) (r f : ℕ) (t : Tables) → (refresh independent S r f t).owner ≡ t.owner
  refresh_owner independent r f t = grind arith

-- a refused call changes no owner
pub refused_owns : {A : Type 0} (c : Call A) (r f : ℕ) (x : Bool) → owned_by c false r f x ≡ x
refused_owns c r f x = grind arith

-- own marks one place
pub marked : (o : ℕ → ℕ → Bool) (r f : ℕ) (b : Bool) (r' f' : ℕ) → put2 o r f b r' f' ≡ cond (eqb r' r && eqb f' f) b (o r' f')
marked o r f b r' f' = grind (arith, nat_tests)

-- a rule that is not broken
pub passed : (b : Bool) (n : ℕ) (o : Option ℕ) → cond b (Some n) o ≡ None → (b ≡ false) × (o ≡ None)
passed b n o e = grind arith

pub is_this_lem : (o : Option ℕ) (l : ℕ) → num o ≡ suc l → is_this o l ≡ true
is_this_lem o l e = grind (arith, nat_tests)

pub is_label_lem : (l : ℕ) → 16 ≤ l → l < 80 → is_label l ≡ true
is_label_lem l a b = grind (arith, nat_tests)

pub hop_lies : (S : Shape) (r : ℕ) (h : Option ℕ) (e : ℕ) → hop_refusal S r h ≡ None → h ≡ Some e → e < S.lines
hop_lies S r h e u c = grind (arith, nat_tests)
