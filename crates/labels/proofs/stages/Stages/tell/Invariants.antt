use Rattle.std.proofs.Common.{◌≡◌, ℕ}
use Rattle.labels.specs.Numbers.{Follows}
use Rattle.labels.specs.Stagings.{stages_of}
use Rattle.labels.specs.Wirings.{leads_into}
use Rattle.labels.proofs.Changes.{below}
use Rattle.labels.proofs.stages.Stages.tell.Given as goal

-- the lines before this one are done
abbrev pub invariant-loop-line : goal.invariant-loop-line
invariant-loop-line g l =
    (c : ℕ → ℕ) → Follows (goal.F-post g l.news) c
    → (e k : ℕ) → stages_of l.self e k
    ≡ below (λ i. leads_into l.wiring i l.router) l.label c (stages_of l.initial.self) l.line e k
