-- The calls that touch the plant, put together. Assumes nothing.
use Rattle.std.proofs.Common.{◌≡◌, ℕ, false, [], ◌∷◌, ◌++◌, length, None, sym, refl, ap, ◌∙◌, subst}
use Rattle.frame.specs.Frames.{FrameValue}
use Rattle.plant.specs.Plants.{PlantValue}
use Rattle.plant.specs.Futures.{Turn, handed}
use Rattle.lookup.specs.declared.address.Address.{Address}
use Rattle.model.specs.declared.met.Met.{Met}
use Rattle.model.specs.Packets as packets
use Rattle.model.specs.Calls.{done, polled, inject, poll, record_of, inject_refusal, entry_verdict, end_by, send_by, arriving, polling, only}
use Rattle.model.specs.History.{Did, Turns, Sending}
use Rattle.model.proofs.Citing.{did_act, did_poll}
use Rattle.tables.specs.Reading.{tables_of}
use Rattle.book.specs.Books.{book_of}
use Rattle.network.specs.declared.routers.Routers.{Routers}
use Rattle.network.specs.Networks.{plan_of, state_of}
use Rattle.network.specs.Dealing.{Dealt, Seen, arrival_of}
use Rattle.network.proofs.Citing.{runs}

-- a packet came in as number p and was dealt with
pub injected : (n n₁ n₂ : Routers) (v w : PlantValue) (r : ℕ) (a : Address) (ttl p : ℕ) (y : packets.Verdict) → n.still ≡ false
    → inject_refusal (plan_of n.plan) r ttl (state_of n v) ≡ None → p ≡ length (book_of n.book) → y ≡ entry_verdict r ttl ((plan_of n.plan).lookup a) (state_of n v)
    → n₁.tables ≡ n.tables → book_of n₁.book ≡ book_of n.book ++ record_of (plan_of n.plan) p r a ttl ∷ []
    → Dealt n₁ v (end_by r p y) (send_by p ttl y) n₂ w
    → Did n.still (plan_of n.plan) (state_of n v) (inject r a ttl) (done p) (state_of n₂ w)
injected n n₁ n₂ v w r a ttl p y runs_on welcome number verdict tables book dealt =
    runs n v (inject r a ttl) runs_on
    (subst (λ k. Did false (plan_of n.plan) (state_of n v) (inject r a ttl) (done k) (state_of n₂ w)) (sym number)
    (did_act (plan_of n.plan) (state_of n v) (inject r a ttl) refl welcome _ refl (state_of n₂ w)
    (ap tables_of (dealt.tables ∙ tables))
    (dealt.book ∙ ap (packets.settle (end_by r p y)) book ∙ (λ i. packets.settle (end_by r (number i) (verdict i)) (book_of n.book ++ record_of (plan_of n.plan) (number i) r a ttl ∷ [])))
    dealt.sent (subst (λ o. Sending v o dealt.sent w) (λ i. send_by (number i) ttl (verdict i)) dealt.sending)))

-- a poll at which no frame came out
pub polled_none : (n : Routers) (v w : PlantValue) (p : ℕ) → n.still ≡ false → (t : Turn) → Turns v p t w → (m : Met) → polling (plan_of n.plan) v.shape t (state_of n w) ≡ only (polled m 0) (state_of n w)
    → Did n.still (plan_of n.plan) (state_of n v) (poll p) (polled m 0) (state_of n w)
polled_none n v w p q t h m e = runs n v (poll p) q (did_poll (plan_of n.plan) (state_of n v) p t w h _ e (state_of n w) refl refl None (refl, refl))

-- a poll at which a frame came out
pub polled_frame : (n n' : Routers) (v u w : PlantValue) (p l : ℕ) (x : FrameValue) → n.still ≡ false → Turns v p (handed l x) u → (m : Met)
    → Seen n u (arrival_of n u l x) (polled m l) n' w
    → Did n.still (plan_of n.plan) (state_of n v) (poll p) (polled m l) (state_of n' w)
polled_frame n n' v u w p l x q h m seen =
    runs n v (poll p) q
    (subst (λ a. Did false (plan_of n.plan) (state_of n v) (poll p) a (state_of n' w)) seen.answered
    (did_poll (plan_of n.plan) (state_of n v) p (handed l x) u h (arrival_of n u l x)
    (ap (λ S. arriving (plan_of n.plan) S x.kind l x.stack x.a x.b (state_of n u)) (sym h.1.shape))
    (state_of n' w) seen.tables seen.book seen.sent seen.sending))
