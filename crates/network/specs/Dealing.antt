-- Packets and messages in hand. Assumes nothing.
use Rattle.std.specs.Prelude.{◌≡◌, ℕ, None, Option}
use Rattle.frame.specs.Frames.{FrameValue}
use Rattle.plant.specs.Plants.{PlantValue}
use Rattle.lookup.specs.declared.address.Address.{Address}
use Rattle.model.specs.Packets as model
use Rattle.model.specs.Calls.{Effect, Answer, arriving}
use Rattle.model.specs.History.{Sending}
use Rattle.tables.specs.Reading.{tables_of}
use Rattle.book.specs.Books.{book_of}
use Rattle.network.specs.declared.verdict.Verdict.{Verdict}
use Rattle.network.specs.declared.verdict.Verdict.TheVariants.{Deliver, Drop, Forward}
use Rattle.network.specs.declared.routers.Routers.{Routers}
use Rattle.network.specs.Networks.{plan_of, state_of, Keeps}

-- a verdict in the model's words
abbrev pub verdict_of : Verdict → model.Verdict
verdict_of Deliver = model.deliver
verdict_of (Drop c) = model.drop c
verdict_of (Forward e l) = model.forward e l

-- a packet in hand was dealt with: its end, if this was it, is in the book, and the frame in which it goes on, if it does, was sent
pub record Dealt (n : Routers) (v : PlantValue) (end : Option model.End) (send : Option (ℕ × FrameValue)) (n' : Routers) (w : PlantValue) : Type 0 where
  pub tables : n'.tables ≡ n.tables
  pub book : book_of n'.book ≡ model.settle end (book_of n.book)
  pub sent : Option (ℕ × FrameValue)
  pub sending : Sending v send sent w
  pub shape : w.shape ≡ v.shape
  pub keeps : Keeps n n'

-- the routers took an effect on tables alone
pub record Took (n : Routers) (k : Effect Address) (answer : Answer) (n' : Routers) : Type 0 where
  pub answered : k.answer ≡ answer
  pub tables : tables_of n'.tables ≡ k.tables
  pub book : book_of n'.book ≡ k.book
  pub unsent : k.send ≡ None
  pub unended : k.end ≡ None
  pub keeps : Keeps n n'

-- the network took an effect: on its tables and its book, and by a frame that it sent
pub record Seen (n : Routers) (v : PlantValue) (k : Effect Address) (answer : Answer) (n' : Routers) (w : PlantValue) : Type 0 where
  pub answered : k.answer ≡ answer
  pub tables : tables_of n'.tables ≡ k.tables
  pub book : book_of n'.book ≡ model.settle k.end k.book
  pub sent : Option (ℕ × FrameValue)
  pub sending : Sending v k.send sent w
  pub shape : w.shape ≡ v.shape
  pub keeps : Keeps n n'

-- what comes of a frame that came out of a line
abbrev pub arrival_of : Routers → PlantValue → ℕ → FrameValue → Effect Address
arrival_of n v e x = arriving (plan_of n.plan) v.shape x.kind e x.stack x.a x.b (state_of n v)
