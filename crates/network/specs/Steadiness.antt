-- What the routers of a network keep to at every time. Assumes nothing.
use Rattle.std.specs.Prelude.{◌≡◌, ℕ, ◌<◌, Bool, true, false, Some}
use Rattle.lookup.specs.declared.plan.Plan.{Plan}
use Rattle.lookup.specs.declared.plan.Policy.{Policy}
use Rattle.lookup.specs.declared.plan.Policy.TheVariants.{Ordered, Independent}
use Rattle.lookup.specs.Plans.{routers_of, policy_of}
use Rattle.labels.specs.Wirings.{end_of}
use Rattle.tables.specs.declared.tables.Tables.{Tables}

abbrev pub is_independent : Policy → Bool
is_independent Ordered = false
is_independent Independent = true

-- the tables go by the plan's policy and by all lines of the wiring; of a network that runs each of these ends at a router of the plan
pub record Steady (p : Plan) (still : Bool) (t : Tables) : Type 0 where
  pub policy : t.independent ≡ is_independent (policy_of p)
  pub lines : t.routes.lines ≡ t.labels.wiring.lines
  pub inside : still ≡ false → (e r : ℕ) → end_of t.labels.wiring e ≡ Some r → r < routers_of p
