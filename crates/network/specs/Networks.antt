-- What a network of the program stands for in the model. Assumes nothing.
use Rattle.std.specs.Prelude.{◌≡◌, ℕ, length, Some, None, Ok, Err, Option, Result}
use Rattle.frame.specs.declared.kind.Kind.{Kind}
use Rattle.frame.specs.declared.refusal.Refusal.{Refusal}
use Rattle.frame.specs.Numbers.{refusal_number, kind_number}
use Rattle.plant.specs.Plants.{PlantValue}
use Rattle.lookup.specs.declared.address.Address.{Address}
use Rattle.lookup.specs.declared.plan.Plan.{Plan}
use Rattle.lookup.specs.Plans.{fecs_of, routers_of, policy_of, void_of}
use Rattle.lookup.specs.Matches.{best_match}
use Rattle.model.specs.declared.met.Met.{Met}
use Rattle.model.specs.Calls as model
use Rattle.model.specs.History.{is_still, fresh_state}
use Rattle.labels.specs.declared.wiring.Wiring.{Wiring}
use Rattle.labels.specs.Wirings.{Wired}
use Rattle.tables.specs.Reading.{tables_of, Stays}
use Rattle.book.specs.Books.{book_of}
use Rattle.network.specs.declared.routers.Routers.{Routers}
use Rattle.network.specs.Steadiness.{is_independent}

-- the plan in the model's words: its lookup is longest match
abbrev pub plan_of : Plan → model.Plan Address
plan_of p = record { void = void_of p; routers = routers_of p; fecs = length (fecs_of p); independent = is_independent (policy_of p); lookup = best_match (fecs_of p) }

-- the network on a plant
abbrev pub state_of : Routers → PlantValue → model.State Address
state_of n v = record { tables = tables_of n.tables; book = book_of n.book; plant = v }

abbrev pub wiring_of : Routers → Wiring
wiring_of n = n.tables.labels.wiring

-- the wiring is that of the plant
abbrev pub Fits : Routers → PlantValue → Type 0
Fits n v = Wired (wiring_of n) v.shape

-- what never changes after the start
pub record Keeps (n n' : Routers) : Type 0 where
  pub plan : n'.plan ≡ n.plan
  pub still : n'.still ≡ n.still
  pub tables : Stays n.tables n'.tables

-- a network was started from a plan on a plant of this value: it stands still or runs as the model says, and nothing has happened yet
pub record Started (n : Routers) (p : Plan) (v : PlantValue) : Type 0 where
  pub plan : n.plan ≡ p
  pub still : n.still ≡ is_still (plan_of p) v
  pub state : state_of n v ≡ fresh_state v

-- the answers in the model's words

abbrev pub own_answer : Result (Unit {0}) Refusal → model.Answer
own_answer (Ok u) = model.done 0
own_answer (Err e) = model.refused (refusal_number e)

abbrev pub inject_answer : Result ℕ Refusal → model.Answer
inject_answer (Ok n) = model.done n
inject_answer (Err e) = model.refused (refusal_number e)

abbrev pub kind_answer : Option Kind → model.Answer
kind_answer None = model.done 0
kind_answer (Some k) = model.done (kind_number k)

abbrev pub tell_answer : Result (Option Kind) Refusal → model.Answer
tell_answer (Ok k) = kind_answer k
tell_answer (Err e) = model.refused (refusal_number e)

abbrev pub poll_answer : Result (Met × ℕ) Refusal → model.Answer
poll_answer (Ok r) = model.polled r.0 r.1
poll_answer (Err e) = model.refused (refusal_number e)
