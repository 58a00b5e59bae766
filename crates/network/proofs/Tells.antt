-- A tell, by what is due. Assumes nothing.
use Rattle.std.proofs.Common.{◌≡◌, ℕ, ◌<◌, ◌≤◌, Bool, true, false, cond, ◌&&◌, ltb, leb, Some, None, Option, Result, sym, refl, ap, ◌∙◌, subst, ap₂}
use Rattle.std.proofs.lemmas.Bool.{cond-true, cond-false, le-leb, lt-leb, lt-ltb, and_from}
use Rattle.frame.specs.declared.refusal.Refusal.{Refusal}
use Rattle.frame.specs.Numbers.{kind_number}
use Rattle.frame.specs.Frames.{FrameValue}
use Rattle.plant.specs.Plants.{PlantValue, Shape}
use Rattle.plant.specs.Answers.{Sends}
use Rattle.lookup.specs.declared.address.Address.{Address}
use Rattle.model.specs.Tables.{Tables as tables, is_label, is_some, first_label}
use Rattle.model.specs.Messages.{Due, message, due_or, next_message}
use Rattle.model.specs.Packets.{is_full}
use Rattle.model.specs.Calls.{State, done, tell, tell_refusal, tell_next}
use Rattle.model.specs.History.{Did, accepted}
use Rattle.model.proofs.Firsts.{label_some}
use Rattle.model.proofs.Citing.{did_act}
use Rattle.tables.specs.declared.message.Message.{Message}
use Rattle.tables.specs.declared.tables.Tables.{Tables}
use Rattle.tables.specs.Reading.{tables_of, Turned}
use Rattle.tables.specs.Sending.{message_of, after_kind, after_sent}
use Rattle.book.specs.Books.{book_of}
use Rattle.network.specs.declared.routers.Routers.{Routers}
use Rattle.network.specs.Networks.{plan_of, state_of}
use Rattle.network.proofs.Citing.{runs}

-- what holds of every message that may be due
due_or_lem : (p : ℕ → Bool) (g : ℕ → Due) (rest : Option Due) (m : Due) (Q : Due → Type 0) → ((l : ℕ) → is_label l ≡ true → Q (g l)) → (rest ≡ Some m → Q m) → due_or (first_label p) g rest ≡ Some m → Q m
due_or_lem p g rest m Q here later = go (first_label p) refl
  where
    go : (o : Option ℕ) → first_label p ≡ o → due_or o g rest ≡ Some m → Q m
    go None e q = later q
    go (Some l) e q =
        let in_range = label_some p l e in
        let same : g l ≡ m = cc q in
        subst Q same (here l (and_from (leb 16 l) (ltb l 80) (le-leb 16 l in_range.1) (lt-ltb l 80 in_range.2)))

-- sending it leaves what is said of its kind
abbrev Proper : ℕ → tables → Due → Type 0
Proper e t m = m.after ≡ after_kind m.kind e m.label t

pub next_after : (S : Shape) (e : ℕ) (t : tables) (m : Due) → next_message S e t ≡ Some m → Proper e t m
next_after S e t m q =
    due_or_lem _ _ _ m (Proper e t) (λ l _. refl)
    (λ q₂. due_or_lem _ _ _ m (Proper e t) (λ l _. refl)
    (λ q₃. due_or_lem _ _ _ m (Proper e t) (λ l _. refl) (λ z. cc) q₃) q₂) q

-- the program's message is the one that is due
pub due_message : (o : Option Due) (x : Message) → Some x ≡ message_of o → (m : Due) × (o ≡ Some m) × (x ≡ record { kind = m.kind; fec = m.fec; label = m.label })
due_message None x q = cc
due_message (Some m) x q = (m, refl, cc q)

pub no_message : (o : Option Due) → None ≡ message_of o → o ≡ None
no_message None q = refl
no_message (Some m) q = cc

module _ (n : Routers) (v : PlantValue) (e : ℕ) (still : n.still ≡ false) where
  abbrev next : Option Due
  next = next_message v.shape e (tables_of n.tables)

  pub no_line : v.shape.lines ≤ e → Some 6 ≡ tell_refusal v.shape e (state_of n v)
  no_line le = sym (cond-true (leb v.shape.lines e) (Some 6) (cond (is_some next && is_full v e) (Some 23) None) (le-leb v.shape.lines e le))

  module _ (lt : e < v.shape.lines) where
    on_line : (o : Option ℕ) → cond (is_some next && is_full v e) (Some 23) None ≡ o → tell_refusal v.shape e (state_of n v) ≡ o
    on_line o q = cond-false (leb v.shape.lines e) (Some 6) (cond (is_some next && is_full v e) (Some 23) None) (lt-leb v.shape.lines e lt) ∙ q

    pub line_full : (x : Message) → Some x ≡ message_of next → is_full v e ≡ true → Some 23 ≡ tell_refusal v.shape e (state_of n v)
    line_full x d q =
        let due = due_message next x d in
        sym (on_line (Some 23) (ap₂ (λ o b. cond {A = Option ℕ} (is_some o && b) (Some 23) None) due.1 q))

    pub told_none : None ≡ message_of next → Did n.still (plan_of n.plan) (state_of n v) (tell e) (done 0) (state_of n v)
    told_none d =
        let none = no_message next d in
        runs n v (tell e) still
        (did_act (plan_of n.plan) (state_of n v) (tell e) refl (on_line None (ap (λ o. cond {A = Option ℕ} (is_some o && is_full v e) (Some 23) None) none)) _ (ap (λ o. tell_next e o (state_of n v)) none)
        (state_of n v) refl refl None (refl, refl))

    pub told : (t' : Tables) (w : PlantValue) (x : Message) (f : FrameValue) (r : Result (Unit {0}) Refusal) → is_full v e ≡ false → Some x ≡ message_of next
        → f ≡ message x.kind x.fec x.label → Sends v e f r w → Turned n.tables (λ t. after_sent e x t) t'
        → Did n.still (plan_of n.plan) (state_of n v) (tell e) (done (kind_number x.kind)) (record { tables = tables_of t'; book = book_of n.book; plant = w })
    told t' w x f r room d framed sends turned =
        let due = due_message next x d in
        let m = due.0 in
        let t = tables_of n.tables in
        let after : State Address = record { tables = tables_of t'; book = book_of n.book; plant = w } in
        let free : tell_refusal v.shape e (state_of n v) ≡ None = on_line None (ap₂ (λ o b. cond {A = Option ℕ} (is_some o && b) (Some 23) None) due.1 room) in
        runs n v (tell e) still
        (subst (λ y. Did false (plan_of n.plan) (state_of n v) (tell e) (done (kind_number y.kind)) after) (sym due.2)
        (did_act (plan_of n.plan) (state_of n v) (tell e) refl free _ (ap (λ o. tell_next e o (state_of n v)) due.1) after
        (turned.tables ∙ ap (λ y. after_sent e y t) due.2 ∙ sym (next_after v.shape e t m due.1)) refl
        (accepted r (e, message m.kind m.fec m.label))
        (r, subst (λ z. Sends v e z r w) (framed ∙ ap (λ y. message y.kind y.fec y.label) due.2) sends, refl)))
