-- Pools in which no label is taken. Assumes nothing.
use Rattle.std.proofs.Common.{◌≡◌, ℕ, Bool, true, false, cond, Some, None, refl, ap, ◌∙◌}
use Rattle.std.proofs.lemmas.Bool.{true≢false}
use Rattle.model.specs.Tables.{put2, first_label, is_free}
use Rattle.labels.specs.declared.pool.Pool.{Pool}
use Rattle.labels.specs.declared.status.Status.{Status}
use Rattle.labels.specs.declared.status.Status.TheVariants.{Free, Taken, Bound, Leaving}
use Rattle.labels.specs.Pools.{slots, status_of, statuses_of, is_open, is_taken, Settled}
use Rattle.labels.specs.Grants.{smallest_open}
use Rattle.labels.proofs.Firsts.{label_same}
use Rattle.grid.proofs.Puts.{all_put2, put2_over, put2_through}

open_free : (x : Status) → is_taken x ≡ false → is_open x ≡ is_free (status_of x)
open_free Free e = refl
open_free Taken e = absurd (true≢false e)
open_free (Bound f) e = refl
open_free (Leaving f) e = refl

-- a number made of a number is that number
pub made : (b : Bool) (n m : ℕ) → cond b (Some n) None ≡ Some m → m ≡ n
made true n m e = cc e
made false n m e = cc e

-- what may be taken is what the model calls free
pub open_is_free : (p : Pool) (r : ℕ) → Settled p → smallest_open p r ≡ first_label (λ l. is_free (statuses_of p r l))
open_is_free p r s = label_same (λ l. is_open (slots p r l)) (λ l. is_free (statuses_of p r l)) (λ l. open_free (slots p r l) (s r l))

module _ (p q : Pool) (r l : ℕ) (x : Status) (e : slots q ≡ put2 (slots p) r l x) where
  pub settled_put : Settled p → is_taken x ≡ false → Settled q
  settled_put = all_put2 (λ y. is_taken y ≡ false) (slots p) (slots q) r l x e

  pub statuses_put : statuses_of q ≡ put2 (statuses_of p) r l (status_of x)
  statuses_put = ap (λ z a b. status_of (z a b)) e ∙ put2_through status_of (slots p) r l x

-- a label is taken, and then has another status
pub taken_put : (p q q' : Pool) (r r' l : ℕ) (x : Status) → r' ≡ r → slots q ≡ put2 (slots p) r l Taken → slots q' ≡ put2 (slots q) r' l x
    → slots q' ≡ put2 (slots p) r l x
taken_put p q q' r r' l x same e f = f ∙ ap (λ k. put2 (slots q) k l x) same ∙ ap (λ z. put2 z r l x) e ∙ put2_over (slots p) r l Taken x
