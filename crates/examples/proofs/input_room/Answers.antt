-- `examples::input_room` meets its contract. Its zeros are counted by a law, since there are too many to count. Assumes nothing.
use Prim.Native.Nat.{ℕ}
use mathlib.Core.Path.{◌≡◌, sym}
use lib.ListN.{length, replicate, length-replicate}
use Rattle.examples.proofs.input_room.Goals as goal

counted : (n : ℕ) → n ≡ length {A = ℕ} (replicate n 0)
counted n = sym (length-replicate n 0)

pub returns : goal.returns
returns c = counted 2097152
