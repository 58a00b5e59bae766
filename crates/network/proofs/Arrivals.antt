-- A frame that came out of a line was seen to. Assumes nothing.
use Rattle.std.proofs.Common.{List, ◌≡◌, ℕ, None, sym, refl, ap, ◌∙◌, subst}
use Rattle.frame.specs.declared.entry.Entry.{Entry}
use Rattle.frame.specs.declared.kind.Kind.{Kind}
use Rattle.frame.specs.Frames.{FrameValue}
use Rattle.plant.specs.Plants.{PlantValue}
use Rattle.lookup.specs.declared.address.Address.{Address}
use Rattle.model.specs.declared.met.Met.{Met}
use Rattle.model.specs.Packets as model
use Rattle.model.specs.Calls.{Effect, Answer, polled, arriving}
use Rattle.model.specs.History.{Sending}
use Rattle.labels.specs.Wirings.{Wired}
use Rattle.network.specs.declared.routers.Routers.{Routers}
use Rattle.network.specs.Networks.{plan_of, state_of, Fits}
use Rattle.network.specs.Dealing.{Took, Seen, arrival_of}

-- what only changed tables
pub took_seen : (n : Routers) (v : PlantValue) (k : Effect Address) (a : Answer) (n' : Routers) → Took n k a n' → Seen n v k a n' v
took_seen n v k a n' h = record {
  answered = h.answered;
  tables = h.tables;
  book = h.book ∙ ap (λ d. model.settle d k.book) (sym h.unended);
  sent = None;
  sending = subst (λ o. Sending v o None v) (sym h.unsent) (refl, refl);
  shape = refl;
  keeps = h.keeps;
}

-- a frame of this kind
pub seen_kind : (n : Routers) (v : PlantValue) (e : ℕ) (x : FrameValue) (a : Answer) (n' : Routers) (w : PlantValue) (k : Kind) → x.kind ≡ k
    → Seen n v (arriving (plan_of n.plan) v.shape k e x.stack x.a x.b (state_of n v)) a n' w → Seen n v (arrival_of n v e x) a n' w
seen_kind n v e x a n' w k q h = subst (λ z. Seen n v (arriving (plan_of n.plan) v.shape z e x.stack x.a x.b (state_of n v)) a n' w) (sym q) h

-- a message, which the routers alone take
module _ (n : Routers) (v : PlantValue) (fits : Fits n v) (e : ℕ) (x : FrameValue) (k : Kind) (m : Met) (n' : Routers)
    (took : (u : PlantValue) (st : List Entry) → Fits n u → Took n (arriving (plan_of n.plan) u.shape k e st x.a x.b (state_of n u)) (polled m e) n') where
  pub heard : x.kind ≡ k → Seen n v (arrival_of n v e x) (polled m e) n' v
  heard q = seen_kind n v e x (polled m e) n' v k q (took_seen n v _ _ n' (took v x.stack fits))

  pub still_fits : Fits n' v
  still_fits = subst (λ w. Wired w v.shape) (sym (took v x.stack fits).keeps.tables.wiring) fits
