-- What a frame stands for. Assumes nothing.
use Rattle.std.specs.Prelude.{ℕ, List}
use Rattle.frame.specs.declared.entry.Entry.{Entry}
use Rattle.frame.specs.declared.frame.Frame.{Frame}
use Rattle.frame.specs.declared.kind.Kind.{Kind}
use Rattle.frame.specs.Stacks.{entries_of}

-- a frame with its stack as a list, top first
pub record FrameValue : Type 0 where
  pub kind : Kind
  pub stack : List Entry
  pub a : ℕ
  pub b : ℕ

abbrev pub frame_value : Frame → FrameValue
frame_value f = record { kind = f.kind; stack = entries_of f.stack; a = f.a; b = f.b }
