-- A packet in hand is dealt with. Assumes nothing.
use Rattle.std.proofs.Common.{◌≡◌, ℕ, ◌-◌, Ok, Err, Result, sym, refl, ap, subst}
use Rattle.frame.specs.declared.refusal.Refusal.{Refusal}
use Rattle.frame.specs.Frames.{FrameValue}
use Rattle.plant.specs.Plants.{PlantValue}
use Rattle.plant.specs.Answers.{Sends}
use Rattle.model.specs.Packets.{data_frame}
use Rattle.model.specs.Calls.{end_by, send_by}
use Rattle.model.specs.History.{accepted}
use Rattle.network.specs.declared.verdict.Verdict.{Verdict}
use Rattle.network.specs.declared.verdict.Verdict.TheVariants.{Forward}
use Rattle.network.specs.declared.routers.Routers.{Routers}
use Rattle.network.specs.Dealing.{verdict_of, Dealt}
use Rattle.network.proofs.Citing.{keeps_all}

-- a send leaves the shape as it was
pub sends_shape : (v : PlantValue) (l : ℕ) (f : FrameValue) (r : Result (Unit {0}) Refusal) (w : PlantValue) → Sends v l f r w → w.shape ≡ v.shape
sends_shape v l f (Ok u) w h = h.1.shape
sends_shape v l f (Err e) w h = ap (λ (x : PlantValue). x.shape) h.1

module _ (n : Routers) (v w : PlantValue) (router packet ttl line label : ℕ) where
  pub forwarded : (y : Verdict) → y ≡ Forward line label → (f : FrameValue) → f ≡ data_frame packet label (ttl - 1)
      → (r : Result (Unit {0}) Refusal) → Sends v line f r w → Dealt n v (end_by router packet (verdict_of y)) (send_by packet ttl (verdict_of y)) n w
  forwarded y q f e r h =
      let sent = subst (λ x. Sends v line x r w) e h in
      subst (λ z. Dealt n v (end_by router packet (verdict_of z)) (send_by packet ttl (verdict_of z)) n w) (sym q) (record {
        tables = refl;
        book = refl;
        sent = accepted r (line, data_frame packet label (ttl - 1));
        sending = (r, sent, refl);
        shape = sends_shape v line (data_frame packet label (ttl - 1)) r w sent;
        keeps = keeps_all n;
      })
