-- How a label is granted. Assumes nothing.
use Rattle.std.specs.Prelude.{◌≡◌, ℕ, Some, None, Option}
use Rattle.model.specs.Tables.{first_label, put2}
use Rattle.labels.specs.declared.status.Status.TheVariants.{Taken}
use Rattle.labels.specs.declared.pool.Pool.{Pool}
use Rattle.labels.specs.declared.grant.Grant.{Grant}
use Rattle.labels.specs.Pools.{slots, is_open}

-- the smallest label of r that may be taken
abbrev pub smallest_open : Pool → ℕ → Option ℕ
smallest_open p r = first_label (λ l. is_open (slots p r l))

-- a take from router r: the grant of its smallest free label, which then is taken, or none, and nothing changes
abbrev pub Takes : Pool → ℕ → Option Grant → Pool → Type 0
Takes p r None q = (smallest_open p r ≡ None) × (q ≡ p)
Takes p r (Some g) q = (g.router ≡ r) × (smallest_open p r ≡ Some g.label) × (slots q ≡ put2 (slots p) r g.label Taken)
