-- Frames by what they mean, and how a plant carries them. Assumes nothing.
use Rattle.std.proofs.Common.{ℕ}
use Rattle.frame.specs.declared.kind.Kind.TheVariants.{Mapping, Withdraw, Release}
use Rattle.frame.specs.Frames.{FrameValue}
use Rattle.model.specs.Messages.{message}
use Rattle.model.specs.Packets.{data_frame}

-- what goes against the data of a line: news of labels, on its partner
pub data Note : Type 0 where
  mapping : ℕ → ℕ → Note
  withdraw : ℕ → ℕ → Note

-- what goes along the line: releases (FEC, label) and packets (number, label, TTL)
pub data Good : Type 0 where
  release : ℕ → ℕ → Good
  packet : ℕ → ℕ → ℕ → Good

pub data Item : Type 0 where
  note : Note → Item
  good : Good → Item

abbrev pub wire : Item → FrameValue
wire (note (mapping f l)) = message Mapping f l
wire (note (withdraw f l)) = message Withdraw f l
wire (good (release f l)) = message Release f l
wire (good (packet p l t)) = data_frame p l t
