-- What a tell sends keeps the tables in step. Assumes the laws of a plant's lines.
use Rattle.std.proofs.Common.{◌≡◌, ℕ, suc, ◌<◌, true, eqb, List, [], ◌∷◌, ◌++◌, Some, None, Option, refl, ap, ◌∙◌, arith}
use Rattle.std.proofs.lemmas.Bool.{eqb-true}
use Rattle.std.proofs.lemmas.Bool.Decides.{nat_tests}
use Rattle.frame.specs.declared.kind.Kind.TheVariants.{Mapping, Withdraw}
use Rattle.plant.specs.Plants.{Shape, ShapeLaws, partner}
use Rattle.model.specs.Tables.{Tables, Status, bound, put, put2, first_label, fec_of, the, is_some, with_labels}
use Rattle.model.specs.Messages.{message, Due, release_of, news_of, label_at_stage, due_or, next_message}
use Rattle.model.proofs.Logical.{Note, Item, mapping, withdraw, release, note, good, wire}
use Rattle.model.proofs.Link.{Link}
use Rattle.model.proofs.News.{send_mapping, send_withdraw}
use Rattle.model.proofs.Loads.{send_release}
use Rattle.model.proofs.Views.{vw, put-Put, phase_of, num, carries, notes_of, goods_of, old_row, new_row}
use Rattle.model.proofs.Firsts.{label_some, label_none}
use Rattle.model.proofs.Wired.{Wired, staged, facing, note_sent, good_sent}

phase_bound : (x : Status) → phase_of x ≡ 1 → x ≡ bound (fec_of x)
phase_bound x e = grind arith

some_is : (o : Option ℕ) → is_some o ≡ true → num o ≡ suc (the o)
some_is o e = grind arith

module _ {S : Shape} (law : ShapeLaws S) {fecs : ℕ} {s : Tables} {q : ℕ → List Item} {fc : ℕ → ℕ} (k : Wired S fecs s q fc)
    {e : ℕ} (le : e < S.lines) where
  -- a message is sent on e: it carries no packet, and leaves the tables in step
  pub record SendsWell (m : Due) : Type 0 where
    pub item : Item
    pub frame : wire item ≡ message m.kind m.fec m.label
    pub light : (p : ℕ) → carries p item ≡ 0
    pub wired : Wired S fecs m.after (put q e (q e ++ item ∷ [])) fc
    pub owner : m.after.owner ≡ s.owner

  -- so is the message that is due, if one is
  abbrev pub Sent : Option Due → Type 0
  Sent None = Unit {0}
  Sent (Some m) = SendsWell m

  abbrev m : ℕ
  m = partner e

  -- the labels of the router where e begins
  abbrev st : ℕ → Status
  st = s.status (S.line e).from

  at_stage : (x l : ℕ) → label_at_stage x e s ≡ Some l → s.stage m l ≡ x
  at_stage x l eo = eqb-true (s.stage m l) x (label_some (λ j. eqb (s.stage m j) x) l eo).0

  -- news of a label is sent
  news_sent : (n : Note) (l x : ℕ)
      → Link (vw (notes_of (q e) ++ n ∷ []) (goods_of (q m)) (s.remote m) (put (s.stage m) l x) (s.due m) st fc)
      → Wired S fecs (with_labels s.status (put2 s.stage m l x) s) (put q e (q e ++ note n ∷ [])) fc
  news_sent n l x at = note_sent k law le (old_row s.remote m) (new_row s.stage m (put (s.stage m) l x)) (old_row s.due m) n at

  -- there is no withdraw due while a mapping is sent, so the FEC is told of no other label
  mapping_sent : label_at_stage 3 e s ≡ None → (o : Option ℕ) → label_at_stage 1 e s ≡ o → Sent (due_or o (news_of S e s Mapping 2) None)
  mapping_sent un None eo = tt
  mapping_sent un (Some l) eo =
      let one = at_stage 1 l eo in
      let t = facing k law le in
      let f = fec_of (st l) in
      let ph : phase_of (st l) ≡ 1 = grind (arith, t.fit l, one) in
      record {
        item = note (mapping f l);
        frame = refl;
        light = λ p. refl;
        owner = refl;
        wired = news_sent (mapping f l) l 2 (send_mapping t f l (put-Put (λ x. x) (s.stage m) l 2) one ph refl
            (λ j u. let g = staged k (S.line e).from t j refl (λ z. omega arith) in
            let n = label_none (λ i. eqb (s.stage m i) 3) un j g.1 g.2 in grind (arith, nat_tests, n, u))
            (λ j pj hj. k.single (S.line e).from j l f (phase_bound (st j) pj ∙ ap bound hj) (phase_bound (st l) ph)));
      }

  withdraw_sent : (o : Option ℕ) → label_at_stage 3 e s ≡ o
      → Sent (due_or o (news_of S e s Withdraw 4) (due_or (label_at_stage 1 e s) (news_of S e s Mapping 2) None))
  withdraw_sent None eo = mapping_sent eo (label_at_stage 1 e s) refl
  withdraw_sent (Some l) eo =
      let f = fec_of (st l) in
      record {
        item = note (withdraw f l);
        frame = refl;
        light = λ p. refl;
        owner = refl;
        wired = news_sent (withdraw f l) l 4
            (send_withdraw (facing k law le) f l (put-Put (λ x. x) (s.stage m) l 4) (at_stage 3 l eo) refl);
      }

  release_sent : (o : Option ℕ) → first_label (λ l. is_some (s.due e l)) ≡ o
      → Sent (due_or o (release_of e s) (due_or (label_at_stage 3 e s) (news_of S e s Withdraw 4) (due_or (label_at_stage 1 e s) (news_of S e s Mapping 2) None)))
  release_sent None eo = withdraw_sent (label_at_stage 3 e s) refl
  release_sent (Some l) eo =
      let f = the (s.due e l) in
      record {
        item = good (release f l);
        frame = refl;
        light = λ p. refl;
        owner = refl;
        wired = good_sent k (old_row s.remote e) (old_row s.stage e) (new_row s.due e (put (s.due e) l None)) (release f l)
            (send_release (k.links e le) f l (put-Put num (s.due e) l None)
            (some_is (s.due e l) (label_some (λ j. is_some (s.due e j)) l eo).0));
      }

  pub message_sent : Sent (next_message S e s)
  message_sent = release_sent (first_label (λ l. is_some (s.due e l))) refl
