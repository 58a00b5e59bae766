-- Messages as the program holds them. Assumes nothing.
use Rattle.std.specs.Prelude.{ℕ, Some, None, Option, nat_eq}
use Rattle.frame.specs.declared.kind.Kind.{Kind}
use Rattle.frame.specs.declared.kind.Kind.TheVariants.{Data, Mapping, Withdraw, Release}
use Rattle.plant.specs.Plants.{Shape, partner}
use Rattle.model.specs.Tables.{Tables, put2, first_label, fec_of, with_labels, with_remote, told, withdrawn}
use Rattle.model.specs.Messages.{Due}
use Rattle.labels.specs.declared.stage.Stage.{Stage}
use Rattle.labels.specs.declared.stage.Stage.TheVariants.{WithdrawDue, MappingDue}
use Rattle.labels.specs.Numbers.{stage_number}
use Rattle.tables.specs.declared.message.Message.{Message}

-- the program's message for one that is due
abbrev pub message_of : Option Due → Option Message
message_of None = None
message_of (Some m) = Some (record { kind = m.kind; fec = m.fec; label = m.label })

-- news of a label of the router where e begins
abbrev pub news_on : Shape → ℕ → Tables → Kind → Option ℕ → Option Message
news_on S e t k None = None
news_on S e t k (Some l) = Some (record { kind = k; fec = fec_of (t.status (S.line e).from l); label = l })

-- of the smallest label at a stage on the partner of e
abbrev pub news_in : Shape → ℕ → Tables → Kind → Stage → Option Message
news_in S e t k x = news_on S e t k (first_label (λ l. nat_eq (t.stage (partner e) l) (stage_number x)))

-- the first of two messages, if there is one
abbrev pub or_news : Option Message → Option Message → Option Message
or_news (Some m) o = Some m
or_news None o = o

-- a withdraw, else a mapping
abbrev pub first_news : Shape → ℕ → Tables → Option Message
first_news S e t = or_news (news_in S e t Withdraw WithdrawDue) (news_in S e t Mapping MappingDue)

-- the tables once a message is sent on e
abbrev pub after_kind : Kind → ℕ → ℕ → Tables → Tables
after_kind Data e l t = t
after_kind Release e l t = with_remote t.remote (put2 t.due e l None) t
after_kind Withdraw e l t = with_labels t.status (put2 t.stage (partner e) l withdrawn) t
after_kind Mapping e l t = with_labels t.status (put2 t.stage (partner e) l told) t

abbrev pub after_sent : ℕ → Message → Tables → Tables
after_sent e m t = after_kind m.kind e m.label t
