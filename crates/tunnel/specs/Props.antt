-- What is kept of a tunnel holds in at most one way, as the invariant of a struct must. Assumes nothing.
use Rattle.std.specs.Prelude.{◌≤◌, List, [], ◌∷◌, length, Ok, Err, Result}
use Rattle.std.specs.Coded.{×_prop, Unit-prop, le_prop}
use denote.Struct.Props.{props}
use Rattle.frame.specs.declared.refusal.Refusal.{Refusal}
use Rattle.frame.specs.Frames.{FrameValue}
use Rattle.plant.specs.Plants.{PlantValue}
use Rattle.tunnel.specs.declared.path.Path.{Path}
use Rattle.tunnel.specs.Held.{All, TunnelOk, Kept}

all_prop : {X : Type 0} (P : X → Type 0) → ((x : X) → IsProp (P x)) → (xs : List X) → IsProp (All P xs)
all_prop P one [] = Unit-prop
all_prop P one (x ∷ xs) = ×_prop (one x) (all_prop P one xs)

pub open_prop : (p : Path) (v : PlantValue) → IsProp (TunnelOk p v)
open_prop p v =
    let deep : (xs : List FrameValue) → IsProp (All (λ (f : FrameValue). length f.stack ≤ v.shape.depth) xs) = all_prop (λ (f : FrameValue). length f.stack ≤ v.shape.depth) (λ f. le_prop) in
    hlevel (props, deep)

pub kept_prop : (r : Result Path Refusal) (v : PlantValue) → IsProp (Kept r v)
kept_prop (Err e) v = Unit-prop
kept_prop (Ok p) v = open_prop p v
