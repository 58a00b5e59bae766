-- What a tunnel's calls owe, void or not, from what the open one or the plant below owes. Assumes nothing.
use Rattle.std.proofs.Common.{◌≡◌, ℕ, Ok, Err, Option, Result, sym, refl, ap, ◌∙◌, subst}
use Rattle.std.specs.Option.{option_map}
use Rattle.frame.specs.declared.frame.Frame.{Frame}
use Rattle.frame.specs.declared.refusal.Refusal.{Refusal}
use Rattle.frame.specs.Frames.{FrameValue, frame_value}
use Rattle.plant.specs.declared.outcome.Outcome.{Outcome}
use Rattle.plant.specs.Plants.{PlantValue}
use Rattle.plant.specs.Answers.{Polled, Sends}
use Rattle.plant.specs.Futures.{Future, Foretold, after, after_send, turn_at, turn_is, polled}
use Rattle.tunnel.specs.declared.path.Path.{Path}
use Rattle.tunnel.specs.Tunnels.{meaning, tunnel_value}
use Rattle.tunnel.specs.Held.{TunnelOk, Kept}
use Rattle.tunnel.specs.Onward.{entering_at, entering, Entered, PollsBelow, open_future, tunnel_future}
use Rattle.tunnel.specs.Foretells.{mapped_same, tells_sent}

-- what a send owes
pub record SendOwes (v w : PlantValue) (o n : Option Future) (l : ℕ) (f : FrameValue) (a : Result (Unit {0}) Refusal) (r : Result Path Refusal) : Type 0 where
  pub kept : Kept r w
  pub sends : Sends (meaning r v) l f a (meaning r w)
  pub future : option_map (tunnel_future r) n ≡ option_map (after_send l f a) (option_map (tunnel_future r) o)
  pub entered : Entered (entering_at r l f) v a w

pub send_owes : (v w : PlantValue) (o n : Option Future) (l : ℕ) (f : FrameValue) (a : Result (Unit {0}) Refusal) (r : Result Path Refusal) (p : Path) → r ≡ Ok p
    → TunnelOk p w → Sends (tunnel_value p v) l f a (tunnel_value p w) → n ≡ option_map (after_send (entering p l f).0 (entering p l f).1 a) o → Entered (entering p l f) v a w
    → SendOwes v w o n l f a r
send_owes v w o n l f a r p live ok sends next enters =
    subst (SendOwes v w o n l f a) (sym live) (record { kept = ok; sends = sends; future = tells_sent p o n l f a next; entered = enters })

-- what a poll owes
pub record PollOwes (v w : PlantValue) (o n : Option Future) (port : ℕ) (old : Frame) (out : Outcome) (l : ℕ) (fin : Frame) (r : Result Path Refusal) : Type 0 where
  pub kept : Kept r w
  pub polls : Polled out (meaning r v) port old l fin (meaning r w)
  pub turn : Foretold (option_map (tunnel_future r) o) (λ b. turn_at b port ≡ turn_is out l (frame_value fin))
  pub future : option_map (tunnel_future r) n ≡ option_map (λ b. after b (polled port)) (option_map (tunnel_future r) o)
  pub relayed : PollsBelow r v port old (turn_is out l (frame_value fin)) w

module _ (v w : PlantValue) (o n : Option Future) (port : ℕ) (old : Frame) (out : Outcome) (l : ℕ) (fin : Frame) (r : Result Path Refusal) where
  pub poll_owes : (p : Path) → r ≡ Ok p → TunnelOk p w → Polled out (tunnel_value p v) port old l fin (tunnel_value p w)
      → Foretold (option_map (open_future p) o) (λ b. turn_at b port ≡ turn_is out l (frame_value fin))
      → option_map (open_future p) n ≡ option_map (λ b. after b (polled port)) (option_map (open_future p) o)
      → PollsBelow (Ok p) v port old (turn_is out l (frame_value fin)) w → PollOwes v w o n port old out l fin r
  poll_owes p live ok polls turn next below =
      subst (PollOwes v w o n port old out l fin) (sym live) (record { kept = ok; polls = polls; turn = turn; future = next; relayed = below })

  -- of a void tunnel, what the plant below owes
  pub void_poll_owes : (x : Refusal) → r ≡ Err x → Polled out v port old l fin w → Foretold o (λ b. turn_at b port ≡ turn_is out l (frame_value fin))
      → n ≡ option_map (λ b. after b (polled port)) o → PollOwes v w o n port old out l fin r
  void_poll_owes x void polls turn next = subst (PollOwes v w o n port old out l fin) (sym void) (record {
    kept = tt;
    polls = polls;
    turn = subst (λ z. Foretold z (λ b. turn_at b port ≡ turn_is out l (frame_value fin))) (mapped_same o) turn;
    future = sym (mapped_same n) ∙ next ∙ ap (option_map (λ b. after b (polled port))) (mapped_same o);
    relayed = record { outcome = out; line = l; frame = fin; middle = w; below = polls; told = refl; relayed = refl };
  })
