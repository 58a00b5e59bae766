-- Which message a tell sends, and what a message that comes changes. Assumes nothing.
use Rattle.std.specs.Prelude.{ℕ, [], Some, None, Option, nat_eq}
use Rattle.frame.specs.declared.kind.Kind.{Kind}
use Rattle.frame.specs.declared.kind.Kind.TheVariants.{Mapping, Withdraw, Release}
use Rattle.frame.specs.Frames.{FrameValue}
use Rattle.plant.specs.Plants.{Shape, partner}
use Rattle.model.specs.Tables.{Tables, put2, first_label, with_labels, with_remote, fec_of, is_some, the, untold, mapping_due, told, withdraw_due, withdrawn}

-- the frame of a message: an empty stack, and the FEC and the label as A and B
abbrev pub message : Kind → ℕ → ℕ → FrameValue
message k f l = record { kind = k; stack = []; a = f; b = l }

-- a message that is due on a line, and the tables once it is sent
pub record Due : Type 0 where
  pub kind : Kind
  pub fec : ℕ
  pub label : ℕ
  pub after : Tables

-- the release of l that is due on e, with the FEC it was noted with
abbrev pub release_of : ℕ → Tables → ℕ → Due
release_of e t l = record { kind = Release; fec = the (t.due e l); label = l; after = with_remote t.remote (put2 t.due e l None) t }

-- news on e of the label l of the router where e begins; on the partner its stage becomes x
abbrev pub news_of : Shape → ℕ → Tables → Kind → ℕ → ℕ → Due
news_of S e t k x l =
    record { kind = k; fec = fec_of (t.status (S.line e).from l); label = l; after = with_labels t.status (put2 t.stage (partner e) l x) t }

-- the smallest label at stage x on the partner of e
abbrev pub label_at_stage : ℕ → ℕ → Tables → Option ℕ
label_at_stage x e t = first_label (λ l. nat_eq (t.stage (partner e) l) x)

-- the message for a label, if there is one, else another
abbrev pub due_or : Option ℕ → (ℕ → Due) → Option Due → Option Due
due_or (Some l) g o = Some (g l)
due_or None g o = o

-- the message that a tell of line e sends: a due release, else a withdraw, else a mapping, the smallest label in each
abbrev pub next_message : Shape → ℕ → Tables → Option Due
next_message S e t =
    due_or (first_label (λ l. is_some (t.due e l))) (release_of e t)
    (due_or (label_at_stage withdraw_due e t) (news_of S e t Withdraw withdrawn)
    (due_or (label_at_stage mapping_due e t) (news_of S e t Mapping told) None))

-- a mapping of f and l came on e: the remote label on the partner becomes l
abbrev pub learn : ℕ → ℕ → ℕ → Tables → Tables
learn e f l t = with_remote (put2 t.remote (partner e) f (Some l)) t.due t

-- a withdraw of f and l came on e: that label becomes none, and a release of l falls due on the partner
abbrev pub unlearn : ℕ → ℕ → ℕ → Tables → Tables
unlearn e f l t = with_remote (put2 t.remote (partner e) f None) (put2 t.due (partner e) l (Some f)) t

-- a release of l came on e: its stage becomes 0
abbrev pub unstage : ℕ → ℕ → Tables → Tables
unstage e l t = with_labels t.status (put2 t.stage e l untold) t
