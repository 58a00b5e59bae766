-- The message that is due, found table by table. Assumes nothing.
use Rattle.std.proofs.Common.{◌≡◌, ℕ, eqb, Some, None, Option, sym, refl, ap, ◌∙◌}
use Rattle.frame.specs.declared.kind.Kind.{Kind}
use Rattle.frame.specs.declared.kind.Kind.TheVariants.{Mapping, Withdraw, Release}
use Rattle.plant.specs.Plants.{Shape, partner}
use Rattle.model.specs.Tables.{Tables, first_label, is_some, the, told, withdrawn, withdraw_due, mapping_due}
use Rattle.model.specs.Messages.{Due, release_of, news_of, label_at_stage, due_or, next_message}
use Rattle.model.proofs.Firsts.{never}
use Rattle.labels.specs.declared.stage.Stage.{Stage}
use Rattle.labels.specs.declared.stage.Stage.TheVariants.{MappingDue}
use Rattle.labels.specs.Numbers.{stage_number}
use Rattle.std.specs.Option.{option_map}
use Rattle.tables.specs.declared.message.Message.{Message}
use Rattle.tables.specs.Grids.{with_it, first_due}
use Rattle.tables.specs.Sending.{message_of, news_on, news_in, or_news, first_news}

module _ (S : Shape) (e : ℕ) (t : Tables) where
  at_release : (o : Option ℕ) (rest : Option Due) (l f : ℕ) → Some (l, f) ≡ with_it (t.due e) o
      → Some (record { kind = Release; fec = f; label = l }) ≡ message_of (due_or o (release_of e t) rest)
  at_release None rest l f q = absurd (never (cc))
  at_release (Some k) rest l f q =
      let a : l ≡ k = ap (λ p. p.0) (some_same q) in
      let b : f ≡ the (t.due e k) = ap (λ p. p.1) (some_same q) in
      cc
    where
      some_same : {p q : ℕ × ℕ} → Some p ≡ Some q → p ≡ q
      some_same h = cc

  past_release : (o : Option ℕ) (rest : Option Due) → None ≡ with_it (t.due e) o → message_of (due_or o (release_of e t) rest) ≡ message_of rest
  past_release None rest q = refl
  past_release (Some k) rest q = absurd (never (cc))

  last_news : (k : Kind) (x : ℕ) (o : Option ℕ) → news_on S e t k o ≡ message_of (due_or o (news_of S e t k x) None)
  last_news k x None = refl
  last_news k x (Some l) = refl

  abbrev mappings : Option Due
  mappings = due_or (label_at_stage mapping_due e t) (news_of S e t Mapping told) None

  abbrev news : Option Due
  news = due_or (label_at_stage withdraw_due e t) (news_of S e t Withdraw withdrawn) mappings

  pub is_release : (l f : ℕ) → Some (l, f) ≡ first_due (t.due e) → Some (record { kind = Release; fec = f; label = l }) ≡ message_of (next_message S e t)
  is_release l f q = at_release (first_label (λ k. is_some (t.due e k))) news l f q

  pub is_news : None ≡ first_due (t.due e) → first_news S e t ≡ message_of (next_message S e t)
  is_news a = go (label_at_stage withdraw_due e t) ∙ sym (past_release (first_label (λ k. is_some (t.due e k))) news a)
    where
      go : (o : Option ℕ) → or_news (news_on S e t Withdraw o) (news_in S e t Mapping MappingDue) ≡ message_of (due_or o (news_of S e t Withdraw withdrawn) mappings)
      go None = last_news Mapping told (label_at_stage mapping_due e t)
      go (Some l) = refl

  abbrev pub release : ℕ × ℕ → Message
  release p = record { kind = Release; fec = p.1; label = p.0 }

  -- a due release, else news
  pub is_next : (o : Option (ℕ × ℕ)) → o ≡ first_due (t.due e) → or_news (option_map release o) (first_news S e t) ≡ message_of (next_message S e t)
  is_next None a = is_news a
  is_next (Some p) a = is_release p.0 p.1 a

  -- news of the first label at a stage on the partner, however the two are found
  pub news_same : (k : Kind) (x : Stage) (p : ℕ) (o : Option ℕ) → o ≡ first_label (λ l. eqb (t.stage p l) (stage_number x)) → p ≡ partner e
      → news_on S e t k o ≡ news_in S e t k x
  news_same k x p o a b = ap (news_on S e t k) (a ∙ ap (λ z. first_label (λ l. eqb (t.stage z l) (stage_number x))) b)
