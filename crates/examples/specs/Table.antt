-- The published worked examples, over the definitions that the contracts of stacks, ring and tunnels name. Assumes nothing.
use Rattle.std.specs.Prelude.{◌≡◌, ℕ, List, [], ◌∷◌, Some, None, Option}
use Rattle.frame.specs.declared.entry.Entry.{Entry}
use Rattle.frame.specs.declared.kind.Kind.TheVariants.{Data}
use Rattle.frame.specs.Frames.{FrameValue}
use Rattle.frame.specs.Stacks.{push_refusal}
use Rattle.plant.specs.Futures.{Call, sent, polled, Turn, moved, handed, Future, bottom_future, bottom_value}
use Rattle.plant.specs.Plants.{PlantValue}
use Rattle.plant.specs.Questions.{cap_at}
use Rattle.plant.specs.Answers.{send_refusal}
use Rattle.ring.specs.declared.link.Link.{Link}
use Rattle.ring.specs.Links.{fresh_shape, none_waits, ring_refusal}
use Rattle.tunnel.specs.Rules.{tunnel_refusal, tunnel_of, tunnel_over}

-- what is asked in an example: the number of a refusal, if there is one; the cap of a line, if it exists; or a poll's turn
pub data Answer : Type 0 where
  refusal : Option ℕ → Answer
  cap : Option ℕ → Answer
  turn : Turn → Answer

-- an example: what comes out, and what must
pub record Example : Type 0 where
  pub comes : Answer
  pub must : Answer

-- what comes out is what must
abbrev pub Holds : Example → Type 0
Holds e = e.comes ≡ e.must

-- an entry with a label, as it is pushed in the examples
abbrev pub labelled : ℕ → Entry
labelled label = record { label = label; tc = 0; ttl = 64 }

-- routers 0, 1 and 2 in a row, with cap 4 on each link; the four lines take 16 places
abbrev pub links : List Link
links = record { a = 0; b = 1; cap = 4 } ∷ record { a = 1; b = 2; cap = 4 } ∷ []

-- what the ring plant of these links stands for when it is made
abbrev pub ring_now : PlantValue
ring_now = bottom_value (fresh_shape links 16) none_waits

-- what it then answers, call by call
abbrev pub ring_future : Future
ring_future = bottom_future (fresh_shape links 16) none_waits

-- the path of the tunnel
abbrev pub path : List ℕ
path = 0 ∷ 2 ∷ []

-- what a poll of a port of the tunnel with window 2 comes to, after some calls
abbrev pub turn_after : List Call → ℕ → Turn
turn_after calls port = (tunnel_over path 2 ring_future calls).turn port

-- the frame that is sent
abbrev pub frame : FrameValue
frame = record { kind = Data; stack = labelled 16 ∷ []; a = 7; b = 0 }

-- a cap of the tunnel with window 2
abbrev pub cap_of : ℕ → Answer
cap_of line = cap (cap_at (tunnel_of ring_now path 2).shape line)

-- four pushes; the ring and the tunnel are made; four caps; a frame is sent and polled out; two more windows
abbrev pub examples : List Example
examples =
    record { comes = refusal (push_refusal [] (labelled 16)); must = refusal None }
    ∷ record { comes = refusal (push_refusal [] (labelled 1)); must = refusal (Some 3) }
    ∷ record { comes = refusal (push_refusal (labelled 16 ∷ []) (labelled 1)); must = refusal None }
    ∷ record { comes = refusal (push_refusal (labelled 16 ∷ []) (labelled 0)); must = refusal (Some 3) }
    ∷ record { comes = refusal (ring_refusal links 16); must = refusal None }
    ∷ record { comes = refusal (tunnel_refusal ring_now path 2); must = refusal None }
    ∷ record { comes = cap_of 0; must = cap (Some 2) }
    ∷ record { comes = cap_of 1; must = cap (Some 2) }
    ∷ record { comes = cap_of 2; must = cap (Some 2) }
    ∷ record { comes = cap_of 3; must = cap (Some 2) }
    ∷ record { comes = refusal (send_refusal (tunnel_of ring_now path 2) 4 frame); must = refusal None }
    ∷ record { comes = turn (turn_after (sent 4 frame ∷ []) 0); must = turn moved }
    ∷ record { comes = turn (turn_after (sent 4 frame ∷ polled 0 ∷ []) 2); must = turn (handed 4 frame) }
    ∷ record { comes = refusal (tunnel_refusal ring_now path 4); must = refusal (Some 22) }
    ∷ record { comes = refusal (tunnel_refusal ring_now path 3); must = refusal None } ∷ []
