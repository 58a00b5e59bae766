-- The effect of each call that does not poll, on a network in step, is sound. Assumes the laws of a plant's lines, and that labels under
-- 80 can be sent.
use Rattle.std.proofs.Common.{◌≡◌, ℕ, ◌<◌, ◌≤◌, Bool, true, false, cond, ◌&&◌, eqb, leb, ◌≢◌, List, [], ◌∷◌, ◌++◌, length, Some, None, Option, sym, refl, ap, ◌∙◌, subst, append-nil, arith}
use Rattle.std.proofs.lemmas.Bool.{leb-false}
use Rattle.frame.specs.declared.kind.Kind.{Kind}
use Rattle.plant.specs.Plants.{Shape, ShapeLaws, PlantValue, over_kept}
use Rattle.plant.specs.Futures.{Turn, idle}
use Rattle.model.specs.declared.cause.Cause.TheVariants.{NoMatch}
use Rattle.model.specs.declared.met.Met.TheVariants.{Stray}
use Rattle.model.specs.Tables.{Tables, put, put2, is_some, with_routes, refresh}
use Rattle.model.specs.Messages.{message, Due, next_message}
use Rattle.model.specs.Packets.{Record, is_full, Verdict, drop, handle}
use Rattle.model.specs.Calls.{Plan, State, Call, own, route, inject, tell, Answer, done, refused, polled, only, retabled, deal, hop_refusal, refusal, record_of, with_record, entry_verdict, tell_next, act, effect}
use Rattle.model.specs.History.{Sending, with_plant, is_done, owned_by, injected}
use Rattle.model.proofs.Logical.{Item, wire}
use Rattle.model.proofs.Views.{put2_all}
use Rattle.model.proofs.Wired.{Wired}
use Rattle.model.proofs.Labels.{refresh_keeps}
use Rattle.model.proofs.Order.{unless_both}
use Rattle.model.proofs.Tells.{Sent, message_sent}
use Rattle.model.proofs.Books.{fec_by, at_last}
use Rattle.model.proofs.Carried.{Light}
use Rattle.model.proofs.State.{joins, Inv, sent_keeps, taken_keeps}
use Rattle.model.proofs.Deals.{Sound, retabled_sound, InHand, Dealt, deal_sound, dropping, handle_dealt}
use Rattle.model.proofs.Owners.{refresh_owner, refused_owns, marked, passed, hop_lies}

message_light : (S : Shape) (x : Item) (y : Kind) (f l : ℕ) → wire x ≡ message y f l → Light S x
message_light S x y f l g =
    let st : (wire x).stack ≡ [] = ap (λ z. z.stack) g in (ap (over_kept S.kept) st, rw st (omega arith))

module _ {A : Type 0} (P : Plan A) {S : Shape} {s : State A} {q : ℕ → List Item} (k : Inv S P.fecs s q 0) where
  -- an answer without effect, on a plant that holds the same frames
  pub only_sound : (c : Call A) (v : PlantValue) → Inv S P.fecs (with_plant v s) q 0 → (a : Answer)
      → ((r f : ℕ) (x : Bool) → owned_by c (is_done a) r f x ≡ x) → injected c a ≡ []
      → ((e : ℕ) → a ≢ polled Stray e) → Sound P S c s v (only a s)
  only_sound c v i a m z n = retabled_sound P S c s v q a s.tables i (λ r f. sym (m r f (s.tables.owner r f))) z n

  -- other marks and next hops, then a refresh
  routed_sound : (c : Call A) (r f : ℕ) (o : ℕ → ℕ → Bool) (h : ℕ → ℕ → Option ℕ)
      → leb P.fecs f ≡ false → ((r f e : ℕ) → h r f ≡ Some e → e < S.lines)
      → ((r f : ℕ) → o r f ≡ owned_by c true r f (s.tables.owner r f)) → injected c (done 0) ≡ []
      → Sound P S c s s.plant (retabled (done 0) (refresh P.independent S r f (with_routes o h s.tables)) s)
  routed_sound c r f o h rf hh m z =
      let t₀ : Tables = with_routes o h s.tables in
      let w₀ : Wired S P.fecs t₀ q (fec_by s.book)
      = record { links = k.wired.links; single = k.wired.single; ranged = k.wired.ranged; hops = hh } in
      retabled_sound P S c s s.plant q (done 0) (refresh P.independent S r f t₀)
      (record {
        shape = k.shape;
        carries = k.carries;
        carried = k.carried;
        known = k.known;
        wired = refresh_keeps w₀ r f (leb-false P.fecs f rf) P.independent;
      })
      (λ r' f'. ap (λ g. g r' f') (refresh_owner S P.independent r f t₀) ∙ m r' f') z (λ _ c. cc)

  own_sound : (r f b : ℕ) → refusal P S (own r f b) s ≡ None → Sound P S (own r f b) s s.plant (act P S (own r f b) idle s)
  own_sound r f b e =
      let g = passed (leb P.fecs f) 5 (cond (leb 2 b) (Some 7) None) (passed (leb P.routers r) 4 (cond (leb P.fecs f) (Some 5) _) e).1 in
      routed_sound (own r f b) r f (put2 s.tables.owner r f (eqb b 1)) s.tables.hop g.0 k.wired.hops
      (marked s.tables.owner r f (eqb b 1)) refl

  route_sound : (r f : ℕ) (h : Option ℕ) → refusal P S (route r f h) s ≡ None → Sound P S (route r f h) s s.plant (act P S (route r f h) idle s)
  route_sound r f h e =
      let g = passed (leb P.fecs f) 5 (hop_refusal S r h) (passed (leb P.routers r) 4 (cond (leb P.fecs f) (Some 5) _) e).1 in
      routed_sound (route r f h) r f s.tables.owner (put2 s.tables.hop r f h) g.0
      (put2_all (λ _ _ o. (e : ℕ) → o ≡ Some e → e < S.lines) s.tables.hop r f h (λ e. hop_lies S r h e g.1) k.wired.hops)
      (λ _ _. refl) refl

  module _ (law : ShapeLaws S) where
    -- a packet comes in
    module _ (kept : 80 ≤ S.kept) (r : ℕ) (a : A) (ttl : ℕ) where
      abbrev n : ℕ
      n = length s.book

      abbrev newest : Record A
      newest = record_of P n r a ttl

      abbrev hand : InHand P S (with_record newest s) n
      hand = record { q = q; packet = newest; inv = taken_keeps k newest refl; found = at_last s.book newest }

      dealt : (y : Verdict) → Dealt P S (with_record newest s) n r ttl y
          → Sound P S (inject r a ttl) s s.plant (deal (done n) r n ttl y (with_record newest s))
      dealt y d = deal_sound P S (done n) (inject r a ttl) s (λ _ _. refl) refl (λ _ c. cc) d

      entered : (o : Option ℕ) → P.lookup a ≡ o
          → Sound P S (inject r a ttl) s s.plant (deal (done n) r n ttl (entry_verdict r ttl o s) (with_record newest s))
      entered None e = dealt (drop NoMatch) (dropping hand r ttl NoMatch (λ z. cc))
      entered (Some f) e = dealt (handle s.tables s.plant r f ttl) (handle_dealt hand law kept r ttl f e)

      inject_sound : Sound P S (inject r a ttl) s s.plant (act P S (inject r a ttl) idle s)
      inject_sound = entered (P.lookup a) refl

    -- a line is told of a label
    next_sound : (e : ℕ) (le : e < S.lines) (o : Option Due) → (is_some o && is_full s.plant e) ≡ false
        → Sent law k.wired le o → Sound P S (tell e) s s.plant (tell_next e o s)
    next_sound e le None fl d = only_sound (tell e) s.plant k (done 0) (λ _ _ _. refl) refl (λ _ c. cc)
    next_sound e le (Some m) fl d = record {
      marks = λ r f. ap (λ o. o r f) d.owner;
      came = sym (append-nil s.book);
      closes = tt;
      no_stray = λ _ c. cc;
      after = λ sent w h.
          let j = joins d.item k.shape le fl (message_light S d.item m.kind m.fec m.label d.frame)
          (subst (λ z. Sending s.plant (Some (e, z)) sent w) (sym d.frame) h) in
          (put q e (q e ++ d.item ∷ []), sent_keeps k m.after e d.item w le j d.light d.wired);
    }

    tell_sound : (e : ℕ) → refusal P S (tell e) s ≡ None → Sound P S (tell e) s s.plant (act P S (tell e) idle s)
    tell_sound e u =
        let m = next_message S e s.tables in
        let g = passed (leb S.lines e) 6 (cond (is_some m && is_full s.plant e) (Some 23) None) u in
        let le : e < S.lines = leb-false S.lines e g.0 in
        next_sound e le m (passed (is_some m && is_full s.plant e) 23 None g.1).0 (message_sent law k.wired le)

    -- each call that does not poll, refused or not
    abbrev pub Plain : Call A → Type 0
    Plain c = (t : Turn) (v : PlantValue) → (t ≡ idle) × (v ≡ s.plant) → Sound P S c s v (effect P S c t (with_plant v s))

    plain_sound : (c : Call A) → (refusal P S c s ≡ None → Sound P S c s s.plant (act P S c idle s)) → Plain c
    plain_sound c h t v g =
        rw (g.0, g.1) (unless_both (refusal P S c s) s (act P S c idle s) (Sound P S c s s.plant)
        (λ n _. only_sound c s.plant k (refused n) (refused_owns c) refl (λ _ c. cc)) h)

    pub own_plain : (r f b : ℕ) → Plain (own r f b)
    own_plain r f b = plain_sound (own r f b) (own_sound r f b)

    pub route_plain : (r f : ℕ) (h : Option ℕ) → Plain (route r f h)
    route_plain r f h = plain_sound (route r f h) (route_sound r f h)

    pub inject_plain : 80 ≤ S.kept → (r : ℕ) (a : A) (ttl : ℕ) → Plain (inject r a ttl)
    inject_plain kept r a ttl = plain_sound (inject r a ttl) (λ _. inject_sound kept r a ttl)

    pub tell_plain : (e : ℕ) → Plain (tell e)
    tell_plain e = plain_sound (tell e) (tell_sound e)
